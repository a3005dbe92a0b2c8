-- The tokens of a line, one by one.
use Rattle.std.proofs.Common.{◌≡◌, ℕ, ◌+◌, ◌<◌, true, false, eqb, List, [], ◌∷◌, length, take, drop, refl, ⊎_elim, arith}
use Rattle.std.proofs.lemmas.List.{drop-drop, length-take}
use Rattle.std.proofs.lemmas.List.Sums.{prefix_len-le-length}
use Rattle.std.proofs.lemmas.Bool.{cases_Bool}
use Rattle.std.proofs.lemmas.Bool.Decides.{nat_tests}
use Rattle.text.specs.TextLines.{line_size, next_line}
use Rattle.text.specs.Tokens.{Piece, is_solid, solid_first, tokens, tokens_at, blanks, solids, rest_of, after_token}
use Rattle.text.proofs.Runs.{drop_one, take_one}

-- The blanks in front hold no token and no line's end.
pub tokens_skip : (at : ℕ) (bs : List ℕ) → tokens at bs ≡ tokens (at + blanks bs) (drop (blanks bs) bs)
tokens_skip at [] = refl
tokens_skip at (b ∷ bs) = grind (arith, nat_tests, drop_one, tokens_skip (at + 1) bs)

pub size_skip : (bs : List ℕ) → line_size bs ≡ blanks bs + line_size (drop (blanks bs) bs)
size_skip [] = refl
size_skip (b ∷ bs) = grind (arith, nat_tests, drop_one, size_skip bs)

-- The solid bytes in front hold no line's end.
pub size_solid : (bs : List ℕ) → line_size bs ≡ solids bs + line_size (drop (solids bs) bs)
size_solid [] = refl
size_solid (b ∷ bs) = grind (arith, nat_tests, drop_one, size_solid bs)

-- Past the blanks stands no blank.
pub skip_stops : (bs : List ℕ) → blanks (drop (blanks bs) bs) ≡ 0
skip_stops [] = refl
skip_stops (b ∷ bs) = grind (arith, nat_tests, drop_one, skip_stops bs)

-- A solid byte in front, and none.
pub solids_some : (bs : List ℕ) → 0 < solids bs → solid_first bs ≡ true
solids_some [] h = grind arith
solids_some (b ∷ bs) h = grind (arith, nat_tests)

pub solids_none : (bs : List ℕ) → solid_first bs ≡ false → solids bs ≡ 0
solids_none [] e = refl
solids_none (b ∷ bs) e = grind (arith, nat_tests)

-- The first token is the run of solid bytes in front.
abbrev pub front : ℕ → List ℕ → Piece
front at bs = record { place = at; bytes = take (solids bs) bs }

pub tokens_first : (at : ℕ) (bs : List ℕ) → solid_first bs ≡ true → tokens at bs ≡ front at bs ∷ tokens (at + solids bs) (drop (solids bs) bs)
tokens_first at [] e = grind arith
tokens_first at (b ∷ bs) e = ⊎_elim
    (λ t. grind (arith, nat_tests, drop_one, take_one, tokens_first (at + 1) bs t))
    (λ f. grind (arith, nat_tests, drop_one, take_one, solids_none bs f))
    (cases_Bool (solid_first bs))

-- Where neither a blank nor a solid byte stands in front there is no token.
pub tokens_none : (at : ℕ) (bs : List ℕ) → blanks bs ≡ 0 → solids bs ≡ 0 → tokens at bs ≡ []
tokens_none at [] e f = refl
tokens_none at (b ∷ bs) e f = grind (arith, nat_tests)

-- The next token of a text at a place, behind b blanks: the n solid bytes in front of the rest, and there is none if n is 0.
module _ (text : List ℕ) (at b n : ℕ) (first rest : List ℕ) (f : first ≡ drop at text) (s : b ≡ blanks first) (r : rest ≡ drop (at + b) text) (e : n ≡ solids rest) where
  skipped : tokens_at text at ≡ tokens (at + b) rest
  skipped = grind (arith, tokens_skip at first, drop-drop)

  no_blank : blanks rest ≡ 0
  no_blank = grind (arith, skip_stops first, drop-drop)

  long : length (take n rest) ≡ n
  long = grind (arith, length-take, prefix_len-le-length is_solid rest)

  pub found_none : true ≡ eqb (length (take n rest)) 0 → tokens_at text at ≡ []
  found_none h = grind (arith, nat_tests, skipped, no_blank, long, tokens_none (at + b) rest)

  pub found_some : false ≡ eqb (length (take n rest)) 0 → tokens_at text at ≡ record { place = at + b; bytes = take n rest } ∷ tokens_at text (at + b + n)
  found_some h = grind (arith, nat_tests, skipped, long, solids_some rest, tokens_first (at + b) rest, drop-drop)

  pub found_place : at + b + length (take n rest) ≡ after_token text at
  found_place = grind (arith, nat_tests, long, found_none, found_some)

  found_rest : tokens_at text (after_token text at) ≡ rest_of (tokens_at text at)
  found_rest = grind (arith, nat_tests, long, skipped, found_place, found_none, found_some)

  found_line : next_line text (after_token text at) ≡ next_line text at
  found_line = grind (arith, long, found_place, size_skip first, size_solid rest, drop-drop)

-- What a line has left after a token, and that the line is the same.
module _ (text : List ℕ) (at : ℕ) where
  abbrev begun : ℕ
  begun = at + blanks (drop at text)

  pub tokens-after : tokens_at text (after_token text at) ≡ rest_of (tokens_at text at)
  tokens-after = found_rest text at _ (solids (drop begun text)) _ _ refl refl refl refl

  pub line_after : next_line text (after_token text at) ≡ next_line text at
  line_after = found_line text at _ (solids (drop begun text)) _ _ refl refl refl refl

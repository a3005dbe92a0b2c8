-- The lines of a text, one by one.
use Rattle.std.proofs.Common.{◌≡◌, ℕ, ◌+◌, ◌<◌, Bool, true, false, List, [], ◌∷◌, map, length, take, drop, refl, arith}
use Rattle.std.proofs.lemmas.List.{drop-drop, length-drop}
use Rattle.std.proofs.lemmas.Bool.Decides.{nat_tests}
use Rattle.text.specs.Meanings.{meaning, meanings}
use Rattle.text.specs.TextLines.{text_lines, line_length, line_size, next_line}
use Rattle.text.specs.Tokens.{Piece, solid_first, some_token, tokens, tokens_at}
use Rattle.text.proofs.Runs.{drop_one, take_one}

-- The first line, and the others.
abbrev parted : List ℕ → List (List ℕ)
parted bs = take (line_length bs) bs ∷ text_lines (drop (line_size bs) bs)

lines_some : (bs : List ℕ) → 0 < length bs → text_lines bs ≡ parted bs
lines_some [] h = grind arith
lines_some (b ∷ []) h = grind (arith, nat_tests, take_one, drop_one)
lines_some (b ∷ c ∷ cs) h = grind (arith, nat_tests, take_one, drop_one, lines_some (c ∷ cs))

-- The line at a place, up to its end.
abbrev pub line_at : List ℕ → ℕ → List ℕ
line_at text at = take (line_length (drop at text)) (drop at text)

pub lines_at : (text : List ℕ) (at : ℕ) → at < length text → text_lines (drop at text) ≡ line_at text at ∷ text_lines (drop (next_line text at) text)
lines_at text at h = grind (arith, lines_some (drop at text), length-drop, drop-drop)

-- Its tokens are the tokens up to the line's end.
solid_first_line : (bs : List ℕ) → solid_first (take (line_length bs) bs) ≡ solid_first bs
solid_first_line [] = refl
solid_first_line (b ∷ bs) = grind (arith, nat_tests, take_one)

line_tokens_lem : (at : ℕ) (bs : List ℕ) → tokens at (take (line_length bs) bs) ≡ tokens at bs
line_tokens_lem at [] = refl
line_tokens_lem at (b ∷ bs) = grind (arith, nat_tests, take_one, solid_first_line bs, line_tokens_lem (at + 1) bs)

-- What tokens hold does not hang on where the line stands.
abbrev bytes_of : List Piece → List (List ℕ)
bytes_of [] = []
bytes_of (p ∷ ps) = p.bytes ∷ bytes_of ps

bytes_anywhere : (m n : ℕ) (bs : List ℕ) → bytes_of (tokens m bs) ≡ bytes_of (tokens n bs)
bytes_anywhere m n [] = refl
bytes_anywhere m n (b ∷ bs) = grind (arith, bytes_anywhere (m + 1) (n + 1) bs)

meanings_are : (ps : List Piece) → meanings ps ≡ map meaning (bytes_of ps)
meanings_are [] = refl
meanings_are (p ∷ ps) = grind (arith, meanings_are ps)

-- Whether there is a token shows in what tokens hold.
abbrev any_of : List (List ℕ) → Bool
any_of [] = false
any_of (b ∷ bs) = true

some_are : (ps : List Piece) → some_token ps ≡ any_of (bytes_of ps)
some_are [] = refl
some_are (p ∷ ps) = refl

-- The tokens that a reader finds are those of the line.
module _ (text : List ℕ) (at : ℕ) where
  bytes_at : bytes_of (tokens 0 (line_at text at)) ≡ bytes_of (tokens_at text at)
  bytes_at = grind (arith, bytes_anywhere 0 at (line_at text at), line_tokens_lem at (drop at text))

  pub meanings_at : meanings (tokens 0 (line_at text at)) ≡ meanings (tokens_at text at)
  meanings_at = grind (arith, bytes_at, meanings_are)

  pub some_at : some_token (tokens 0 (line_at text at)) ≡ some_token (tokens_at text at)
  some_at = grind (arith, bytes_at, some_are)

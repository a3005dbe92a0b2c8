-- The tokens of a line.
use Rattle.std.specs.Prelude.{◌≡◌, ℕ, ◌+◌, Bool, true, false, cond, not, ◌&&◌, ◌||◌, List, [], ◌∷◌, length, take, drop, Some, None, Option, ◌==◌}
use Rattle.std.specs.List.{prefix_len}
use Rattle.text.specs.TextLines.{ends_line}

-- Byte 32 stands between tokens.
abbrev pub is_blank : ℕ → Bool
is_blank b = b == 32

-- No token stands after the line's end, or after byte 59, `;`, with which a comment begins.
abbrev pub ends_tokens : ℕ → Bool
ends_tokens b = ends_line b || b == 59

-- Any other byte is a part of a token.
abbrev pub is_solid : ℕ → Bool
is_solid b = not (is_blank b) && not (ends_tokens b)

-- Whether the first byte is a part of a token.
abbrev pub solid_first : List ℕ → Bool
solid_first [] = false
solid_first (b ∷ bs) = is_solid b

-- A piece of a text: its place, as a count of the bytes before it, and its bytes.
pub record Piece : Type 0 where
  pub place : ℕ
  pub bytes : List ℕ

-- A piece is a part of a text if its bytes stand there at its place.
abbrev pub PartOf : List ℕ → Piece → Type 0
PartOf text p = p.bytes ≡ take (length p.bytes) (drop p.place text)

-- The same of the bytes at a place, if there are any.
abbrev pub PartAt : List ℕ → ℕ → Option (List ℕ) → Type 0
PartAt text at None = Unit {0}
PartAt text at (Some bs) = PartOf text (record { place = at; bytes = bs })

-- The first piece longer by a byte in front of it.
abbrev pub lengthened : ℕ → ℕ → List Piece → List Piece
lengthened at b [] = record { place = at; bytes = b ∷ [] } ∷ []
lengthened at b (p ∷ ps) = record { place = at; bytes = b ∷ p.bytes } ∷ ps

-- The tokens of the first line of a text that begins at a place: the longest runs of solid bytes before the line's end or a comment.
abbrev pub tokens : ℕ → List ℕ → List Piece
tokens at [] = []
tokens at (b ∷ bs) =
    cond (ends_tokens b) []
    (cond (is_blank b) (tokens (at + 1) bs)
    (cond (solid_first bs) (lengthened at b (tokens (at + 1) bs))
    (record { place = at; bytes = b ∷ [] } ∷ tokens (at + 1) bs)))

-- Whether there is a token.
abbrev pub some_token : List Piece → Bool
some_token [] = false
some_token (p ∷ ps) = true

-- All but the first.
abbrev pub rest_of : {A : Type 0} → List A → List A
rest_of [] = []
rest_of (p ∷ ps) = ps

-- The tokens that a line still has from a place of the text on.
abbrev pub tokens_at : List ℕ → ℕ → List Piece
tokens_at text at = tokens at (drop at text)

-- How many bytes in front are blank.
abbrev pub blanks : List ℕ → ℕ
blanks bs = prefix_len is_blank bs

-- How many bytes in front are solid.
abbrev pub solids : List ℕ → ℕ
solids bs = prefix_len is_solid bs

-- The place after the first of the tokens at a place, or after the blanks where there is none.
abbrev pub after_first : List ℕ → ℕ → List Piece → ℕ
after_first text at [] = at + blanks (drop at text)
after_first text at (p ∷ ps) = p.place + length p.bytes

-- The place after the next token.
abbrev pub after_token : List ℕ → ℕ → ℕ
after_token text at = after_first text at (tokens_at text at)

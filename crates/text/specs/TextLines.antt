-- The lines of a text of bytes.
use Rattle.std.specs.Prelude.{◌≡◌, ℕ, zero, suc, ◌+◌, ◌-◌, ◌<◌, Bool, cond, ◌⊎◌, List, [], ◌∷◌, ◌++◌, length, take, drop, Some, None, Option, ◌==◌, nat_lt, ◌≢◌}
use Rattle.std.specs.Borrow.{Bor}
use Rattle.std.specs.List.{AllByRecursion, position_or_len, slice_get}

-- Byte 10 ends a line.
abbrev pub ends_line : ℕ → Bool
ends_line b = b == 10

-- A byte in front of the first of the lines that follow it, or a line of its own where none does.
abbrev pub in_front : ℕ → List (List ℕ) → List (List ℕ)
in_front b [] = (b ∷ []) ∷ []
in_front b (line ∷ lines) = (b ∷ line) ∷ lines

-- The lines of a text, without their ends. A byte 10 is the end of a line, so none begins after the last one, and an empty text has no line.
abbrev pub text_lines : List ℕ → List (List ℕ)
text_lines [] = []
text_lines (b ∷ bs) = cond (ends_line b) ([] ∷ text_lines bs) (in_front b (text_lines bs))

-- A text is made of lines: byte 10 stands behind each, but may lack behind the last if that is not empty.
abbrev pub MadeOf : List ℕ → List (List ℕ) → Type 0
MadeOf text [] = text ≡ []
MadeOf text (line ∷ lines) =
    ((rest : List ℕ) × (text ≡ line ++ 10 ∷ rest) × MadeOf rest lines) ⊎ ((lines ≡ []) × (text ≡ line) × (0 < length line))

-- The lines of a text: it is made of them, and none of them holds a byte 10.
pub record LinesOf (text : List ℕ) (lines : List (List ℕ)) : Type 0 where
  pub made : MadeOf text lines
  pub endless : AllByRecursion (λ line. AllByRecursion (λ b. b ≢ 10) line) lines

-- The line of a number, counted from 1.
abbrev pub numbered_line : List ℕ → ℕ → Option (List ℕ)
numbered_line text zero = None
numbered_line text (suc n) = slice_get (text_lines text) n

-- How many bytes lines have, each with its end.
abbrev pub sizes : List (List ℕ) → ℕ
sizes [] = 0
sizes (line ∷ lines) = length line + 1 + sizes lines

-- Where the line of a number begins: behind those before it.
abbrev pub line_start : List ℕ → ℕ → ℕ
line_start text number = sizes (take (number - 1) (text_lines text))

-- How many bytes the first line has, without its end.
abbrev pub line_length : List ℕ → ℕ
line_length bs = position_or_len ends_line bs

-- How many bytes the first line has, with its end.
abbrev pub line_size : List ℕ → ℕ
line_size [] = 0
line_size (b ∷ bs) = cond (ends_line b) 1 (suc (line_size bs))

-- Whether byte 10 stands behind the line at a place.
abbrev pub has_end : List ℕ → ℕ → Bool
has_end text at = nat_lt (at + line_length (drop at text)) (length text)

-- Where the line after the one at a place begins, or the text ends.
abbrev pub next_line : List ℕ → ℕ → ℕ
next_line text at = at + line_size (drop at text)

-- What a part of a text holds, if there is one.
abbrev pub held : Option (Bor (List ℕ)) → Option (List ℕ)
held None = None
held (Some part) = Some part.now

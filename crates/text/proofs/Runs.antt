-- How far the bytes of one sort go, byte by byte.
use Rattle.std.proofs.Common.{◌≡◌, ℕ, ◌+◌, ◌≤◌, min, List, [], ◌∷◌, length, take, drop, refl, arith}
use Rattle.std.proofs.lemmas.Bool.Decides.{nat_tests}
use Rattle.std.proofs.lemmas.List.{length-drop}
use Rattle.text.specs.TextLines.{line_length, line_size, next_line}

pub drop_one : (n b : ℕ) (bs : List ℕ) → drop (1 + n) (b ∷ bs) ≡ drop n bs
drop_one n b bs = grind arith

pub take_one : (n b : ℕ) (bs : List ℕ) → take (1 + n) (b ∷ bs) ≡ b ∷ take n bs
take_one n b bs = grind arith

pub line_length_line : (bs : List ℕ) → length (take (line_length bs) bs) ≡ line_length bs
line_length_line [] = refl
line_length_line (b ∷ bs) = grind (arith, nat_tests, take_one, line_length_line bs)

-- A line's end is counted in its size, unless the text ends there.
pub line_size_is : (bs : List ℕ) → line_size bs ≡ min (length bs) (line_length bs + 1)
line_size_is [] = refl
line_size_is (b ∷ bs) = grind (arith, nat_tests, line_size_is bs)

pub next_line_is : (text : List ℕ) (at : ℕ) → at ≤ length text → next_line text at ≡ min (length text) (at + line_length (drop at text) + 1)
next_line_is text at h = omega (arith, line_size_is (drop at text), length-drop at text)

-- The lines of a text make it up, hold no byte 10, and stand in it one behind the other.
use Rattle.std.proofs.Common.{◌≡◌, ℕ, zero, suc, ◌+◌, List, [], ◌∷◌, length, take, drop, Some, None, Option, refl, inl, inr, arith}
use Rattle.std.proofs.lemmas.List.{take_at, take_all}
use Rattle.std.proofs.Math.Seq.{drop-append-add}
use Rattle.std.proofs.lemmas.Bool.Decides.{nat_tests}
use Rattle.std.specs.List.{AllByRecursion, slice_get}
use Rattle.text.specs.TextLines.{in_front, text_lines, numbered_line, MadeOf, LinesOf, sizes, line_start}
use Rattle.text.specs.Tokens.{PartAt}

made_front : (b : ℕ) (bs : List ℕ) (lines : List (List ℕ)) → MadeOf bs lines → MadeOf (b ∷ bs) (in_front b lines)
made_front b bs lines m = grind arith

lines_made : (bs : List ℕ) → MadeOf bs (text_lines bs)
lines_made [] = refl
lines_made (b ∷ bs) = grind (arith, nat_tests, made_front b bs (text_lines bs), lines_made bs)

lines_endless : (bs : List ℕ) → AllByRecursion (λ line. AllByRecursion (λ b. b ≡ 10 → ⊥) line) (text_lines bs)
lines_endless [] = tt
lines_endless (b ∷ bs) = grind (arith, nat_tests, lines_endless bs)

pub lines_of : (text : List ℕ) → LinesOf text (text_lines text)
lines_of text = record { made = lines_made text; endless = lines_endless text }

line_placed : (text : List ℕ) (lines : List (List ℕ)) → MadeOf text lines → (n : ℕ) (line : List ℕ) → slice_get lines n ≡ Some line → line ≡ take (length line) (drop (sizes (take n lines)) text)
line_placed text [] m n line e = grind arith
line_placed text (l ∷ ls) (inl p) zero line e = grind (arith, take_at)
line_placed text (l ∷ ls) (inr p) zero line e = grind (arith, take_all)
line_placed text (l ∷ ls) (inl p) (suc n) line e = grind (arith, drop-append-add l (10 ∷ p.0) (1 + sizes (take n ls)), line_placed p.0 ls p.2 n line)
line_placed text (l ∷ ls) (inr p) (suc n) line e = grind arith

pub line_part : (text : List ℕ) (number : ℕ) (o : Option (List ℕ)) → o ≡ numbered_line text number → PartAt text (line_start text number) o
line_part text number None e = tt
line_part text zero (Some line) e = grind arith
line_part text (suc n) (Some line) e = grind (arith, line_placed text (text_lines text) (lines_made text) n line)

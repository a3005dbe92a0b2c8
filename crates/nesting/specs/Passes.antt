-- A pass over the lines of a table, up to the first fault.
use Rattle.std.specs.Prelude.{ℕ, ◌+◌, List, [], ◌∷◌, Ok, Err, Result}
use Rattle.lines.specs.declared.line.Line.{Line}
use Rattle.nesting.specs.Conditions.{and_then}

-- Where a pass stands after a line: at s, unless the line was refused.
abbrev pub standing : {S F : Type 0} → Result (Unit {0}) F → S → Result S F
standing (Ok u) s = Ok s
standing (Err e) s = Err e

-- The pass from line `at` on, where it stands at s: each line takes a step, and after the last one comes the answer.
unfoldable pub passed : {S A F : Type 0} → (ℕ → S → Line → Result S F) → (ℕ → S → Result A F) → ℕ → S → List Line → Result A F
passed step ending at s [] = ending at s
passed step ending at s (x ∷ xs) = and_then (step at s x) (λ next. passed step ending (at + 1) next xs)

-- The pass of admission finds the first fault of a table, or sums up its steps.
use Rattle.std.proofs.Common.{◌≡◌, ℕ, ◌+◌, ◌*◌, ◌≤◌, List, [], ◌∷◌, length, arith}
use Rattle.lines.specs.declared.line.Line.{Line}
use Rattle.lines.specs.declared.line.Line.TheVariants as line
use Rattle.nesting.specs.Blocks.{Blocks, front, behind}
use Rattle.nesting.specs.Capped.{capped}
use Rattle.nesting.specs.Passes.{passed}
use Rattle.nesting.proofs.Caps.{cap_times}
use Rattle.nesting.proofs.Passes.{refused}
use Rattle.tables.specs.declared.admit.OpenTurn.{OpenTurn}
use Rattle.tables.specs.Lines.{Lines, stop}
use Rattle.tables.specs.Steps.{steps}
use Rattle.tables.specs.Admission.{blocks, nesting_fault, admission}
use Rattle.tables.specs.Counting.{turn_steps, finish, count}

-- the steps at the end of a table, where a block of n steps in the open turns st is over and the blocks bs are to come
abbrev ended : List OpenTurn → ℕ → Blocks Lines → ℕ
ended [] n bs = n
ended (t ∷ st) n bs = ended st (capped (turn_steps t n + steps (front bs))) (behind stop bs)

-- a turn's steps in one sum
turn_sum : (s n b : ℕ) → turn_steps (record { rounds = n; before = s }) (capped b) ≡ capped (s + (1 + n * (b + 1)))
turn_sum s n b = grind (arith, cap_times n (b + 1))

-- the pass finds the first fault, or sums up the steps
counted : (t : List Line) (at : ℕ) (st : List OpenTurn) (s : ℕ) → s ≤ 65536 →
    count at (record { stack = st; steps = s }) t ≡ refused (nesting_fault at (length st) t) (finish (at + length t) (record { stack = []; steps = ended st (capped (s + steps (front (blocks t)))) (behind stop (blocks t)) }))
unfolding passed nesting_fault blocks steps
counted [] at st s h = grind arith
counted (line.Operation o ∷ t) at st s h = grind (arith, counted t (at + 1))
counted (line.Turn i n ∷ t) at st s h = grind (arith, turn_sum, counted t (at + 1))
counted (line.End ∷ t) at st s h = grind (arith, counted t (at + 1))
counted (line.Else ∷ t) at st s h = grind arith
counted (line.Break ∷ t) at st s h = grind arith
counted (line.If a ∷ t) at st s h = grind arith
counted (line.Loop i n ∷ t) at st s h = grind arith

pub admits : (t : List Line) → length t ≤ 2400 → count 0 (record { stack = []; steps = 0 }) t ≡ admission t
admits t h = grind (arith, counted t 0 [] 0)

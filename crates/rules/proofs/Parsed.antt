-- A table without a nesting fault is the table of a tree, and a table is the table of one tree at most.
use Rattle.std.proofs.Common.{◌≡◌, ℕ, suc, ◌+◌, ◌<◌, true, List, [], ◌∷◌, length, None, refl, arith}
use Rattle.lines.specs.Operations.{under}
use Rattle.lines.specs.declared.field.Field.{Field}
use Rattle.lines.specs.declared.line.Line.{Line}
use Rattle.lines.specs.declared.line.Line.TheVariants as line
use Rattle.nesting.specs.declared.open.Open.{Open}
use Rattle.nesting.specs.declared.open.Open.TheVariants as open_is
use Rattle.nesting.specs.Levels.{loop_level}
use Rattle.nesting.specs.Blocks.{Blocks, front, behind, replace}
use Rattle.rules.specs.Trees.{Rule, done, op, when, loop, break, flat, Fits, blocks, rule_of}
use Rattle.rules.specs.Checks.{line_fault, after, nesting_fault}

-- the lines of a table without fault have none
pub split : (x : Line) (l : List Line) (at : ℕ) (st : List Open) → nesting_fault at st (x ∷ l) ≡ None → (line_fault at st x ≡ None) × (nesting_fault (at + 1) (after st x) l ≡ None)
unfolding nesting_fault
split x l at st e = grind arith

pub if_holds : (at : ℕ) (st : List Open) (a : Field) → line_fault at st (line.If a) ≡ None → (under 64 a ≡ true) × (length st < 8)
if_holds at st a e = grind arith

pub loop_holds : (at : ℕ) (st : List Open) (i : Field) (n : ℕ) → line_fault at st (line.Loop i n) ≡ None → (under 64 i ≡ true) × (length st < 8) × (n < 1001)
loop_holds at st i n e = grind arith

-- the lines of the blocks behind the first, inside st
abbrev closing : List Open → Blocks Rule → List Line
closing [] bs = []
closing (open_is.Then ∷ st) bs = line.Else ∷ flat (front bs) (line.End ∷ flat (front (behind done bs)) (closing st (behind done (behind done bs))))
closing (open_is.Else ∷ st) bs = line.End ∷ flat (front bs) (closing st (behind done bs))
closing (open_is.Loop i n ∷ st) bs = line.End ∷ flat (front bs) (closing st (behind done bs))

-- these blocks fit
abbrev Outer : List Open → Blocks Rule → Type 0
Outer [] bs = Unit {0}
Outer (open_is.Then ∷ st) bs = Fits (front bs) (suc (length st)) (loop_level st) × Fits (front (behind done bs)) (length st) (loop_level st) × Outer st (behind done (behind done bs))
Outer (open_is.Else ∷ st) bs = Fits (front bs) (length st) (loop_level st) × Outer st (behind done bs)
Outer (open_is.Loop i n ∷ st) bs = Fits (front bs) (length st) (loop_level st) × Outer st (behind done bs)

-- lines inside st are those of their blocks, which fit
record Read (st : List Open) (l : List Line) : Type 0 where
  lines : l ≡ flat (front (blocks l)) (closing st (behind done (blocks l)))
  fits : Fits (front (blocks l)) (length st) (loop_level st)
  outer : Outer st (behind done (blocks l))

read_lem : (l : List Line) (at : ℕ) (st : List Open) → nesting_fault at st l ≡ None → Read st l
unfolding flat nesting_fault blocks
read_lem [] at st e = record { lines = grind arith; fits = tt; outer = grind arith }
read_lem (x ∷ l) at st e =
    let r : Read (after st x) l = read_lem l (at + 1) (after st x) (grind arith) in
    record { lines = grind arith; fits = grind arith; outer = grind arith }

-- the blocks of a rule's lines are the rule, in front of the blocks behind it
blocks-flat : (r : Rule) (l : List Line) → front (blocks l) ≡ done → blocks (flat r l) ≡ replace r (blocks l)
unfolding flat blocks
blocks-flat done l e = grind arith
blocks-flat (op o r) l e = grind (arith, blocks-flat r l)
blocks-flat (break r) l e = grind (arith, blocks-flat r l)
blocks-flat (when a p q r) l e = grind (arith, blocks-flat r l, blocks-flat q (line.End ∷ flat r l), blocks-flat p (line.Else ∷ flat q (line.End ∷ flat r l)))
blocks-flat (loop i n b r) l e = grind (arith, blocks-flat r l, blocks-flat b (line.End ∷ flat r l))

-- a table stands for one rule at most
pub rule_flat : (r : Rule) → rule_of (flat r []) ≡ r
unfolding blocks
rule_flat r = grind (arith, blocks-flat r [])

-- a table without a nesting fault stands for its rule, which fits a card; the first part is there for `grind` to find the lemma by
pub stands : (l : List Line) → nesting_fault 0 [] l ≡ None → (rule_of l ≡ rule_of l) × Fits (rule_of l) 0 0 × (l ≡ flat (rule_of l) [])
stands l e = let r : Read [] l = read_lem l 0 [] e in (refl, r.fits, r.lines)

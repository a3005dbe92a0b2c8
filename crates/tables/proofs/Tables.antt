-- A table without a nesting fault is the table of balanced lines, and of no others.
use Rattle.std.proofs.Common.{◌≡◌, ℕ, suc, ◌+◌, List, [], ◌∷◌, length, None, refl, arith}
use Rattle.lines.specs.declared.line.Line.{Line}
use Rattle.lines.specs.declared.line.Line.TheVariants as line
use Rattle.nesting.specs.Blocks.{Blocks, last, before, front, replace}
use Rattle.tables.specs.Lines.{Lines, stop, does, turn, flat}
use Rattle.tables.specs.Admission.{blocks, lines_of, after, nesting_fault, Runs}

-- how many blocks are around the first
abbrev depth : Blocks Lines → ℕ
depth (last l) = 0
depth (before l bs) = suc (depth bs)

-- the lines of blocks
abbrev unread : Blocks Lines → List Line
unread (last l) = flat l []
unread (before l bs) = flat l (line.End ∷ unread bs)

-- blocks that run
abbrev AllRun : Blocks Lines → Type 0
AllRun (last l) = Runs l 0
AllRun (before l bs) = Runs l (suc (depth bs)) × AllRun bs

-- lines inside d turns are those of their blocks, which run
record Read (d : ℕ) (t : List Line) : Type 0 where
  inside : depth (blocks t) ≡ d
  lines : t ≡ unread (blocks t)
  runs : AllRun (blocks t)

read_lem : (t : List Line) (at d : ℕ) → nesting_fault at d t ≡ None → Read d t
unfolding flat nesting_fault blocks
read_lem [] at d e = record { inside = grind arith; lines = grind arith; runs = tt }
read_lem (x ∷ t) at d e =
    let r : Read (after d x) t = read_lem t (at + 1) (after d x) (grind arith) in
    record { inside = grind arith; lines = grind arith; runs = grind arith }

-- the blocks of balanced lines are the lines, in front of those behind them
blocks-flat : (l : Lines) (t : List Line) → front (blocks t) ≡ stop → blocks (flat l t) ≡ replace l (blocks t)
unfolding flat blocks
blocks-flat stop t e = grind arith
blocks-flat (does o l) t e = grind (arith, blocks-flat l t)
blocks-flat (turn i n b l) t e = grind (arith, blocks-flat l t, blocks-flat b (line.End ∷ flat l t))

-- a table stands for one list of balanced lines at most
pub lines_flat : (l : Lines) → lines_of (flat l []) ≡ l
unfolding blocks
lines_flat l = grind (arith, blocks-flat l [])

-- an admitted table is that of its lines, which run; the first part is there for `grind` to find the lemma by
pub stands : (t : List Line) → nesting_fault 0 0 t ≡ None → (lines_of t ≡ lines_of t) × Runs (lines_of t) 0 × (t ≡ flat (lines_of t) [])
stands t e = let r : Read 0 t = read_lem t 0 0 e in (refl, grind arith, grind arith)

-- how many lines there are
unfoldable pub size : Lines → ℕ
size stop = 0
size (does o l) = 1 + size l
size (turn i n b l) = 2 + size b + size l

-- lines that run have no nesting fault
pub faultless : (l : Lines) (at d : ℕ) (t : List Line) → Runs l d → nesting_fault at d (flat l t) ≡ nesting_fault (at + size l) d t
unfolding flat nesting_fault size
faultless stop at d t r = grind arith
faultless (does o l) at d t r = grind (arith, faultless l (at + 1))
faultless (turn i n b l) at d t r = grind (arith, faultless b (at + 1) (d + 1), faultless l)

pub length-flat : (l : Lines) (t : List Line) → length (flat l t) ≡ size l + length t
unfolding flat size
length-flat stop t = grind arith
length-flat (does o l) t = grind (arith, length-flat l)
length-flat (turn i n b l) t = grind (arith, length-flat b, length-flat l)

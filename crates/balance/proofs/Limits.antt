-- The balanced table of a checked rule keeps within the limits of a text.
use Rattle.std.proofs.Common.{ℕ, zero, suc, ◌+◌, ◌-◌, List, [], ◌∷◌, subst, arith, lit<}
use Rattle.std.proofs.ByRecursion.{All-weaker}
use Rattle.std.specs.List.{AllByRecursion}
use Rattle.lines.specs.Operations.{immediate}
use Rattle.lines.specs.Sizes.{Short, OperationShort, LineBelow, TableBelow}
use Rattle.lines.specs.declared.operation.Operation.TheVariants as op
use Rattle.lines.specs.declared.line.Line.{Line}
use Rattle.lines.specs.declared.line.Line.TheVariants as line
use Rattle.rules.specs.Trees as rule
use Rattle.rules.specs.Trees.{Rule, rule_of}
use Rattle.rules.specs.Checks.{IsRule}
use Rattle.balance.specs.Fields.{f, mask, choice}
use Rattle.tables.specs.Lines.{Lines, stop, does, turn, flat}
use Rattle.balance.specs.Balanced.{clears, balance, balanced}
use Rattle.tables.specs.Admission.{Runs}
use Rattle.balance.specs.Balancing.{balanced_lines_of}
use Rattle.balance.proofs.Balances.{balanced_runs}

-- The numbers of balanced lines are short.
abbrev LinesShort : Lines → Type 0
LinesShort stop = Unit {0}
LinesShort (does o l) = Short (immediate o) × LinesShort l
LinesShort (turn i n b l) = LinesShort b × LinesShort l

-- the numbers of a table within the limits are short
pub below_short : (lines : List Line) → TableBelow 96 lines → AllByRecursion OperationShort lines
below_short lines h = All-weaker (LineBelow 96) OperationShort (λ x k. grind arith) lines h

clears_short : (n r : ℕ) (l : Lines) → LinesShort l → LinesShort (clears r n l)
unfolding clears
clears_short zero r l h = h
clears_short (suc n) r l h = (lit< tt, clears_short n (r + 1) l h)

-- balancing adds no number but 0 and 1; what stands behind a rule in a table of short numbers has such numbers too
balance_short : (c : Rule) (k j : ℕ) (l : Lines) (after : List Line) → AllByRecursion OperationShort (rule.flat c after) → AllByRecursion OperationShort after × (LinesShort l → LinesShort (balance c k j l))
unfolding balance rule.flat
balance_short rule.done k j l after h = (h, λ s. s)
balance_short (rule.op o c) k j l after h = grind (arith, balance_short c k j l after h.1)
balance_short (rule.when a p q c) k j l after h =
    let x = balance_short p (k + 1) j (does (op.Not (f 66) (choice (k + 1))) (does (op.And (mask (k + 1)) (mask k) (f 66)) (balance q (k + 1) j (balance c k j l)))) _ h.1 in
    let y = balance_short q (k + 1) j (balance c k j l) _ x.0.1 in
    grind (arith, balance_short c k j l after)
balance_short (rule.loop i n b c) k j l after h =
    let x = balance_short b (k + 1) (k + 1) stop _ h.1 in
    grind (arith, balance_short c k j l after)
balance_short (rule.break c) k j l after h = grind (arith, clears_short (k + 1 - j) j (balance c k j l), balance_short c k j l after h.1)

-- lines that run, with short numbers, are within the limits
lines_below : (l : Lines) (d : ℕ) (after : List Line) → Runs l d → LinesShort l → TableBelow 96 after → TableBelow 96 (flat l after)
unfolding flat
lines_below stop d after r s h = h
lines_below (does o l) d after r s h = grind (arith, lines_below l d after r.1)
lines_below (turn i n b l) d after r s h = grind (arith, lines_below b (d + 1) (line.End ∷ flat l after) r.3, lines_below l d after r.4)

pub balanced-below : (lines : List Line) → IsRule lines → AllByRecursion OperationShort lines → TableBelow 96 (balanced_lines_of lines)
unfolding balanced
balanced-below lines is h =
    let c = rule_of lines in
    let short = balance_short c 0 0 stop [] (subst (AllByRecursion OperationShort) is.tree h) in
    grind (arith, lines_below (balanced c) 0 [], balanced_runs c is.fits)

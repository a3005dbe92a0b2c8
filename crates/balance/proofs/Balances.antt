-- The balanced table of a checked rule: its steps, and that it is always admitted.
use Rattle.std.proofs.Common.{◌≡◌, ℕ, zero, suc, ◌+◌, ◌-◌, ◌*◌, ◌≤◌, true, List, [], length, refl, subst, arith}
use Rattle.std.proofs.lemmas.Bool.Decides.{nat_tests}
use Rattle.lines.specs.Operations.{destination, into, under, within}
use Rattle.lines.specs.declared.operation.Operation.{Operation}
use Rattle.lines.specs.declared.line.Line.{Line}
use Rattle.rules.specs.Trees as rule
use Rattle.rules.specs.Trees.{Rule, Fits, rule_of}
use Rattle.rules.specs.Costs.{block_cost, balanced_cost}
use Rattle.rules.specs.Checks.{IsRule}
use Rattle.rules.proofs.Costed as rules
use Rattle.balance.specs.Fields.{f}
use Rattle.tables.specs.Lines.{Lines, stop}
use Rattle.balance.specs.Balanced.{clears, balance, balanced, balanced_table}
use Rattle.tables.specs.Steps.{steps}
use Rattle.tables.specs.Admission.{Runs, nesting_fault, Admitted}
use Rattle.tables.proofs.Tables.{size, length-flat, lines_flat, faultless}

clears-steps : (n r : ℕ) (l : Lines) → steps (clears r n l) ≡ n + steps l
unfolding steps clears
clears-steps zero r l = omega arith
clears-steps (suc n) r l = omega (arith, clears-steps n (r + 1) l)

balance-steps : (c : Rule) (k j : ℕ) (l : Lines) → j ≤ k → steps (balance c k j l) ≡ block_cost c k j + steps l
unfolding steps balance block_cost
balance-steps rule.done k j l g = omega arith
balance-steps (rule.op o c) k j l g = omega (arith, balance-steps c k j l g)
balance-steps (rule.when a p q c) k j l g = grind (arith, balance-steps p (k + 1) j, balance-steps q (k + 1) j, balance-steps c k j)
balance-steps (rule.loop i n b c) k j l g = grind (arith, balance-steps b (k + 1) (k + 1) stop, balance-steps c k j)
balance-steps (rule.break c) k j l g = omega (arith, clears-steps (k + 1 - j) j (balance c k j l), balance-steps c k j l g)

-- a balanced rule takes as many steps as its cost says
pub counted : (c : Rule) → steps (balanced c) ≡ balanced_cost c
unfolding steps balanced balanced_cost
counted c = omega (arith, balance-steps c 0 0 stop (omega arith))

-- fields of the card are fields of a table
within_into : (o : Operation) → within 64 o ≡ true → within 96 (into o (f 66)) ≡ true
within_into o e = grind (arith, nat_tests)

within_destination : (o : Operation) → within 64 o ≡ true → under 96 (destination o) ≡ true
within_destination o e = grind (arith, nat_tests)

clears_runs : (n r d : ℕ) (l : Lines) → r + n ≤ 9 → Runs l d → Runs (clears r n l) d
unfolding clears
clears_runs zero r d l h g = g
clears_runs (suc n) r d l h g = grind (arith, nat_tests, clears_runs n (r + 1) d l)

-- the balanced lines of a rule that fits run, whatever runs behind them
runs : (c : Rule) (k j d : ℕ) (l : Lines) → Fits c k j → k ≤ 8 → j ≤ k → d ≤ k → Runs l d → Runs (balance c k j l) d
unfolding balance
runs rule.done k j d l t h g e r = r
runs (rule.op o c) k j d l t h g e r = grind (arith, nat_tests, within_into o, within_destination o, runs c k j d l t.1)
runs (rule.when a p q c) k j d l t h g e r =
    grind (arith, nat_tests, runs p (k + 1) j d, runs q (k + 1) j d, runs c k j d)
runs (rule.loop i n b c) k j d l t h g e r =
    grind (arith, nat_tests, runs b (k + 1) (k + 1) (d + 1) stop, runs c k j d l t.4)
runs (rule.break c) k j d l t h g e r = grind (arith, nat_tests, clears_runs (k + 1 - j) j d (balance c k j l), runs c k j d l t.1)

pub balanced_runs : (c : Rule) → Fits c 0 0 → Runs (balanced c) 0
unfolding balanced
balanced_runs c t = (refl, (refl, (refl, runs c 0 0 0 stop t (omega arith) (omega arith) (omega arith) tt)))

clears_size : (n r : ℕ) (l : Lines) → size (clears r n l) ≡ n + size l
unfolding size clears
clears_size zero r l = omega arith
clears_size (suc n) r l = omega (arith, clears_size n (r + 1) l)

-- each line of a rule becomes nine at most
grown : (c : Rule) (k j : ℕ) (l : Lines) → Fits c k j → k ≤ 8 → j ≤ k → size (balance c k j l) ≤ 9 * rules.size c + size l
unfolding size balance rules.size
grown rule.done k j l t h g = omega arith
grown (rule.op o c) k j l t h g = omega (arith, grown c k j l t.1 h g)
grown (rule.when a p q c) k j l t h g = grind (arith, grown p (k + 1) j, grown q (k + 1) j, grown c k j)
grown (rule.loop i n b c) k j l t h g = grind (arith, grown b (k + 1) (k + 1) stop, grown c k j)
grown (rule.break c) k j l t h g = omega (arith, clears_size (k + 1 - j) j (balance c k j l), grown c k j l t.1 h g)

pub balanced_short : (c : Rule) → Fits c 0 0 → length (rule.flat c []) ≤ 256 → length (balanced_table c) ≤ 2400
unfolding size balanced
balanced_short c t h = omega (arith, grown c 0 0 stop t (omega arith) (omega arith), length-flat (balanced c) [], rules.length-flat c [])

-- the balanced table of a checked rule is always admitted
pub balanced_admitted : (lines : List Line) → IsRule lines → Admitted (balanced_table (rule_of lines))
unfolding nesting_fault
balanced_admitted lines is =
    let c = rule_of lines in
    let short = balanced_short c is.fits (subst (λ l. length l ≤ 256) is.tree is.short) in
    let nests = faultless (balanced c) 0 0 [] (balanced_runs c is.fits) in
    let cheap = counted c in
    grind (arith, nat_tests, lines_flat (balanced c))

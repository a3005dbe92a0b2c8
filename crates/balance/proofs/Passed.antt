-- One pass over a rule's lines writes its balanced lines.
use Rattle.std.proofs.Common.{◌≡◌, ℕ, zero, suc, ◌+◌, ◌-◌, List, [], ◌∷◌, ◌++◌, length, None, refl, ap, arith}
use Rattle.lines.specs.declared.line.Line.{Line}
use Rattle.lines.specs.declared.line.Line.TheVariants as line
use Rattle.lines.specs.declared.operation.Operation.TheVariants as op
use Rattle.nesting.specs.declared.open.Open.{Open}
use Rattle.nesting.specs.declared.open.Open.TheVariants as open_is
use Rattle.nesting.specs.Levels.{loop_level}
use Rattle.rules.specs.Checks.{nesting_fault}
use Rattle.rules.specs.Trees as rule
use Rattle.rules.specs.Trees.{Rule}
use Rattle.std.proofs.lemmas.List.{drop_more, drop_all, append-nil, append_assoc}
use Rattle.rules.proofs.Parsed.{split, if_holds, loop_holds}
use Rattle.balance.specs.Nested.{Nested}
use Rattle.balance.specs.Fields.{f, mask, choice}
use Rattle.tables.specs.Lines.{Lines, stop, does, flat}
use Rattle.balance.specs.Balanced.{clears, balance, balanced, balanced_table}
use Rattle.balance.specs.Writing.{clearing, ending, turning, pass, beginning}

-- a line without fault fits what is open
pub nested_first : (x : Line) (l : List Line) (at : ℕ) (st : List Open) → nesting_fault at st (x ∷ l) ≡ None → Nested st x
nested_first x l at st e = grind (arith, split x l at st, if_holds at st, loop_holds at st)

-- the pass at one line more, and at the end
pub ruleset passing = (nested_first, split, drop_more, drop_all, append-nil, append_assoc)

clearing_is : (n r : ℕ) (l : Lines) (t : List Line) → clearing r n ++ flat l t ≡ flat (clears r n l) t
unfolding clears flat
clearing_is zero r l t = refl
clearing_is (suc n) r l t = grind (arith, clearing_is n (r + 1) l t)

-- the lines of a rule inside st, with other lines behind it
pass_is : (r : Rule) (l : List Line) (st : List Open) (m : Lines) (t : List Line) → pass st l ≡ flat m t →
    pass st (rule.flat r l) ≡ flat (balance r (length st) (loop_level st) m) t
unfolding pass rule.flat flat balance
pass_is rule.done l st m t e = e
pass_is (rule.op o r) l st m t e = grind (arith, pass_is r l st m t e)
pass_is (rule.when a p q r) l st m t e =
    let k = length st in
    let hq = pass_is q (line.End ∷ rule.flat r l) (open_is.Else ∷ st) _ t (pass_is r l st m t e) in
    let hp = pass_is p (line.Else ∷ rule.flat q (line.End ∷ rule.flat r l)) (open_is.Then ∷ st) (does (op.Not (f 66) (choice (k + 1))) (does (op.And (mask (k + 1)) (mask k) (f 66)) _)) t (ap (λ z. turning k ++ z) hq) in
    grind arith
pass_is (rule.loop i n b r) l st m t e =
    let k = length st in
    let hr = pass_is r l st m t e in
    let hb = pass_is b (line.End ∷ rule.flat r l) (open_is.Loop i n ∷ st) stop _ (ap (λ z. ending (open_is.Loop i n) k ++ z) hr) in
    grind arith
pass_is (rule.break r) l st m t e = grind (arith, pass_is r l st m t e, clearing_is (length st + 1 - loop_level st) (loop_level st) (balance r (length st) (loop_level st) m) t)

-- what is written for a rule's table is its balanced table
pub passed : (r : Rule) → beginning ++ pass [] (rule.flat r []) ≡ balanced_table r
unfolding balanced flat pass
passed r = grind (arith, pass_is r [] [] stop [])

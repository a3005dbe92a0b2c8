-- Masks cleared one by one, and the levels of open lines.
use Rattle.std.proofs.Common.{◌≡◌, ℕ, zero, suc, ◌+◌, ◌-◌, List, [], ◌∷◌, ◌++◌, length, Some, arith}
use Rattle.lines.specs.declared.operation.Operation.TheVariants as op
use Rattle.nesting.specs.declared.open.Frame.{Frame}
use Rattle.nesting.specs.Nesting.{top, below}
use Rattle.nesting.specs.Levels.{opens}
use Rattle.nesting.proofs.Levels.{length-opens, level_or_none}
use Rattle.balance.specs.Fields.{f, mask}
use Rattle.balance.specs.Writing.{doing, clearing, ending, ending_of}

-- one mask more is cleared
pub clearing_more : (r n : ℕ) → clearing r (n + 1) ≡ clearing r n ++ (doing (op.And (mask (r + n)) (mask (r + n)) (f 66)) ∷ [])
clearing_more r zero = grind arith
clearing_more r (suc n) = grind (arith, clearing_more (r + 1) n)

-- the end of the topmost frame is that of the innermost open line
pub ending_some : {T : Type 0} (st : List (Frame T)) (x : Frame T) → Some x ≡ top st → ending x.part (length st - 1) ≡ ending_of (opens st)
ending_some st x e = grind (arith, length-opens)

pub length-below : {T : Type 0} (st : List T) → length (below st) ≡ length st - 1
length-below st = grind arith

pub opens-below : {T : Type 0} (st : List (Frame T)) → opens (below st) ≡ below (opens st)
opens-below st = grind arith

-- what is open, and the levels of it
pub ruleset levels = (length-opens, length-below, opens-below, level_or_none)

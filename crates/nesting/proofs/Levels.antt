-- The search for the innermost loop.
use Rattle.std.proofs.Common.{◌≡◌, ℕ, ◌-◌, List, [], ◌∷◌, length, refl, arith}
use Rattle.std.specs.List.{position_or_len}
use Rattle.std.specs.Option.{unwrap_or}
use Rattle.nesting.specs.declared.open.Frame.{Frame}
use Rattle.nesting.specs.Levels.{opens, loop_level, is_loop, some_level}

pub length-opens : {T : Type 0} (st : List (Frame T)) → length (opens st) ≡ length st
length-opens [] = refl
length-opens (f ∷ st) = grind (arith, length-opens st)

-- the body's level, counted from the frames inside the innermost loop
pub level-position : {T : Type 0} (st : List (Frame T)) → loop_level (opens st) ≡ length st - position_or_len (λ f. is_loop f.part) st
level-position [] = omega arith
level-position (f ∷ st) = grind (arith, length-opens st, level-position st)

-- where no loop is open, the level is 0
pub level_or_none : (n : ℕ) → unwrap_or (some_level n) 0 ≡ n
level_or_none n = grind arith

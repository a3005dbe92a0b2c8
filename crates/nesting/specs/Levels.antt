-- Levels: how many ifs and loops are open around a line.
use Rattle.std.specs.Prelude.{ℕ, zero, suc, Bool, true, false, List, [], ◌∷◌, length, Some, None, Option}
use Rattle.nesting.specs.declared.open.Open.{Open}
use Rattle.nesting.specs.declared.open.Open.TheVariants as open_is
use Rattle.nesting.specs.declared.open.Frame.{Frame}

-- The open lines of frames.
abbrev pub opens : {T : Type 0} → List (Frame T) → List Open
opens [] = []
opens (f ∷ fs) = f.part ∷ opens fs

-- The level of the innermost loop's body, with the innermost open line first; 0 where no loop is open.
abbrev pub loop_level : List Open → ℕ
loop_level [] = 0
loop_level (open_is.Then ∷ st) = loop_level st
loop_level (open_is.Else ∷ st) = loop_level st
loop_level (open_is.Loop i n ∷ st) = suc (length st)

-- A level, if it is one of a loop's body: such are at least 1.
abbrev pub some_level : ℕ → Option ℕ
some_level zero = None
some_level (suc n) = Some (suc n)

-- The same level, if a loop is open.
abbrev pub loop_body : List Open → Option ℕ
loop_body os = some_level (loop_level os)

-- Whether an open line is a loop.
abbrev pub is_loop : Open → Bool
is_loop open_is.Then = false
is_loop open_is.Else = false
is_loop (open_is.Loop i n) = true

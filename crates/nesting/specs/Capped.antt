-- Numbers that are cut off where any more would be too many all the same.
use Rattle.std.specs.Prelude.{ℕ, min}

-- A number, cut off above 65,535.
abbrev pub capped : ℕ → ℕ
capped n = min n 65536

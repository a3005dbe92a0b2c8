-- The steps of balanced lines.
use Rattle.std.specs.Prelude.{ℕ, ◌+◌, ◌*◌}
use Rattle.tables.specs.Lines.{Lines, stop, does, turn}

-- One for an operation; one for a turn, and in each round one more than its body.
unfoldable pub steps : Lines → ℕ
steps stop = 0
steps (does o l) = 1 + steps l
steps (turn i n b l) = 1 + n * (steps b + 1) + steps l

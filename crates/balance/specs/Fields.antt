-- The fields that balanced lines use beside the card's.
use Rattle.std.specs.Prelude.{ℕ, ◌+◌}
use Rattle.lines.specs.declared.field.Field.{Field}

-- Field n.
abbrev pub f : ℕ → Field
f n = record { 0 = n }

-- M(k), field 68 + k: the mask of level k, all ones where the lines of that level count, and 0 where they do not.
abbrev pub mask : ℕ → Field
mask k = f (68 + k)

-- C(k), field 76 + k: all ones where the `if` around level k takes its first part, else 0.
abbrev pub choice : ℕ → Field
choice k = f (76 + k)

-- S(k), field 84 + k: what the counter of the loop around level k held before it.
abbrev pub saved : ℕ → Field
saved k = f (84 + k)

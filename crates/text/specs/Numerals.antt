-- Numbers and fields as a text writes them.
use Rattle.std.specs.Prelude.{ℕ, ◌+◌, ◌-◌, ◌*◌, Bool, cond, ◌&&◌, ◌||◌, List, [], ◌∷◌, length, Some, None, Option, ◌==◌, nat_le, nat_lt, slice_index}
use Rattle.std.specs.Str.{all_ascii_digits}
use Rattle.lines.specs.declared.field.Field.{Field}

-- The number that decimal digits write after those of n.
abbrev pub value_after : ℕ → List ℕ → ℕ
value_after n [] = n
value_after n (d ∷ ds) = value_after (n * 10 + (d - 48)) ds

-- The number that decimal digits write.
abbrev pub decimal_value : List ℕ → ℕ
decimal_value ds = value_after 0 ds

-- That number, where the bytes are digits alone and it is at most 4,294,967,295.
abbrev pub digits_value : List ℕ → Option ℕ
digits_value bs = cond (all_ascii_digits bs && nat_le (decimal_value bs) 4294967295) (Some (decimal_value bs)) None

-- Whether a digit 0 stands in front of others.
abbrev pub leading_zero : List ℕ → Bool
leading_zero bs = nat_lt 1 (length bs) && slice_index bs 0 == 48

-- A number: at least one digit, none of them a leading zero.
abbrev pub number_of : List ℕ → Option ℕ
number_of bs = cond (length bs == 0 || leading_zero bs) None (digits_value bs)

-- The field of that number, which is at most 95.
abbrev pub field_numbered : Option ℕ → Option Field
field_numbered None = None
field_numbered (Some n) = cond (nat_le n 95) (Some (record { 0 = n })) None

-- A field: byte 102, `f`, and then its number.
abbrev pub field_of : List ℕ → Option Field
field_of [] = None
field_of (b ∷ bs) = cond (b == 102) (field_numbered (number_of bs)) None

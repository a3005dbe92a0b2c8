-- A number read digit by digit, given up as soon as it is too large.
use Rattle.std.proofs.Common.{◌≡◌, ℕ, ◌+◌, ◌-◌, ◌*◌, ◌≤◌, cond, ◌&&◌, ltb, leb, List, [], ◌∷◌, Some, None, Option, arith}
use Rattle.std.proofs.lemmas.Bool.Decides.{nat_tests}
use Rattle.std.specs.Char.{is_ascii_digit}
use Rattle.std.specs.Str.{all_ascii_digits}
use Rattle.text.specs.Numerals.{value_after}

-- The number after the digits of n, or none.
abbrev pub value_from : ℕ → List ℕ → Option ℕ
value_from n [] = Some n
value_from n (d ∷ ds) = cond (is_ascii_digit d) (cond (ltb 4294967295 (n * 10 + (d - 48))) None (value_from (n * 10 + (d - 48)) ds)) None

pub value_after_least : (n : ℕ) (ds : List ℕ) → n ≤ value_after n ds
value_after_least n [] = omega arith
value_after_least n (d ∷ ds) = omega (arith, value_after_least (n * 10 + (d - 48)) ds)

pub value_from_is : (n : ℕ) (ds : List ℕ) → n ≤ 4294967295 → value_from n ds ≡ cond (all_ascii_digits ds && leb (value_after n ds) 4294967295) (Some (value_after n ds)) None
value_from_is n [] h = grind (arith, nat_tests)
value_from_is n (d ∷ ds) h = grind (arith, nat_tests, value_after_least (n * 10 + (d - 48)) ds, value_from_is (n * 10 + (d - 48)) ds)

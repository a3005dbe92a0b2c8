-- A number that was written in decimal, as a reader meets it.
use Rattle.std.proofs.Common.{◌≡◌, ℕ, ◌^◌, ◌<◌, true, false, List, [], ◌∷◌, length, get_or, Some, None, decimal, refl, arith}
use Rattle.std.specs.Int.{IsInRange}
use Rattle.std.specs.Str.{all_ascii_digits}
use Rattle.std.proofs.lemmas.Fmt.{decimal_digit, decimal_nonempty, first_decimal, digits_decimal, digits_value-decimal}
use Rattle.std.proofs.lemmas.Str.Parse.{IsNumeralModel, tells_all_ascii_digits, numerals_by_fold}
use Rattle.lines.specs.Sizes.{Short}
use Rattle.text.specs.Keywords.{keyword_of}
use Rattle.text.specs.Numerals.{value_after, decimal_value, leading_zero, number_of, field_of}

-- The reader sums up digits from the left.
read_digits : IsNumeralModel (λ ds. all_ascii_digits ds ≡ true) decimal_value
read_digits = numerals_by_fold _ tells_all_ascii_digits value_after (record { empty = λ n. refl; more = λ n c cs h. refl })

-- The first of some digits.
first_digit : (ds : List ℕ) → all_ascii_digits ds ≡ true → 0 < length ds → (d : ℕ) × (rest : List ℕ) × (ds ≡ d ∷ rest) × IsInRange 48 57 d
first_digit [] e h = absurd (omega arith)
first_digit (d ∷ ds) e h = (d, ds, refl, (tells_all_ascii_digits.parts d ds e).0)

module _ (n : ℕ) (short : Short n) where
  fits : n < 2 ^ 64
  fits = omega arith

  pub decimal_digits : all_ascii_digits (decimal n) ≡ true
  decimal_digits = digits_decimal read_digits n fits

  pub decimal_not_empty : 0 < length (decimal n)
  decimal_not_empty = decimal_nonempty n fits

  -- A zero in front stands alone.
  zero_alone : get_or (decimal n) 0 0 ≡ 48 → length (decimal n) ≡ 1
  zero_alone e = grind (arith, first_decimal, decimal_digit)

  no_leading_zero : leading_zero (decimal n) ≡ false
  no_leading_zero = grind (arith, zero_alone)

  -- It is read as the number that it was.
  pub number_back : number_of (decimal n) ≡ Some n
  number_back = grind (arith, decimal_not_empty, no_leading_zero, decimal_digits, digits_value-decimal read_digits n fits)

  -- It is no word that begins with another byte than a digit, as a letter.
  pub no_field : field_of (decimal n) ≡ None
  no_field =
      let p = first_digit (decimal n) decimal_digits decimal_not_empty in
      let digit = p.3 in
      rw p.2 (grind arith)

  pub no_keyword : keyword_of (decimal n) ≡ None
  no_keyword =
      let p = first_digit (decimal n) decimal_digits decimal_not_empty in
      let digit = p.3 in
      rw p.2 (grind arith)

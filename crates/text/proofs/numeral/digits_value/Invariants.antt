use Rattle.std.proofs.Common.{◌≡◌, drop}
use Rattle.text.specs.Numerals.{digits_value}
use Rattle.text.proofs.Digits.{value_from}
use Rattle.text.proofs.numeral.digits_value.Given as goal

abbrev pub invariant-loop-b : goal.invariant-loop-b
invariant-loop-b l = value_from l.n (drop l.b-index l.part) ≡ digits_value l.part

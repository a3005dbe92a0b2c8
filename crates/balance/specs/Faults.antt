-- The numbers, places and sentences of the faults of balancing.
use Rattle.std.specs.Prelude.{ℕ, List, codes}
use Rattle.balance.specs.declared.fault.BalanceFault.{BalanceFault}
use Rattle.balance.specs.declared.fault.BalanceFault.TheVariants.{TableTooShort}

-- The number of a fault of balancing.
abbrev pub balance_number : BalanceFault → ℕ
balance_number TableTooShort = 20

-- The place of a fault of balancing.
abbrev pub balance_place : BalanceFault → ℕ
balance_place TableTooShort = 0

-- Why a rule is not balanced, in a sentence.
abbrev pub balance_sentence : BalanceFault → List ℕ
balance_sentence TableTooShort = codes "the table has no room for the balanced lines"

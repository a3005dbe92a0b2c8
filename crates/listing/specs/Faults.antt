-- Why a table is not listed.
use Rattle.std.specs.Prelude.{ℕ, List, codes}
use Rattle.listing.specs.declared.fault.ListFault.{ListFault}
use Rattle.listing.specs.declared.fault.ListFault.TheVariants.{BufferTooShort}

-- The number of each refusal.
abbrev pub list_number : ListFault → ℕ
list_number BufferTooShort = 60

-- The place of each refusal: that of a buffer is 0.
abbrev pub list_place : ListFault → ℕ
list_place BufferTooShort = 0

-- What is wrong, in a sentence.
abbrev pub list_sentence : ListFault → List ℕ
list_sentence BufferTooShort = codes "the buffer has no room for the whole listing"

-- The lines that are read keep within the limits of a text.
use Rattle.std.proofs.Common.{◌≡◌, ℕ, ◌+◌, ◌-◌, min, true, List, [], ◌∷◌, IfSome, IfOk, Option, Result, arith}
use Rattle.std.proofs.lemmas.Bool.Decides.{nat_tests}
use Rattle.std.specs.List.{AllByRecursion}
use Rattle.lines.specs.Operations.{under}
use Rattle.lines.specs.Sizes.{Short, LineBelow, TableBelow}
use Rattle.lines.specs.declared.field.Field.{Field}
use Rattle.lines.specs.declared.line.Line.{Line}
use Rattle.text.specs.Keywords.{keyword_of}
use Rattle.text.specs.Meanings.{Meaning, word, field, number, junk, number_or_junk, field_or, word_or, meanings}
use Rattle.text.specs.Numerals.{digits_value, number_of, field_of}
use Rattle.text.specs.Operands.{line_of, line_read}
use Rattle.text.specs.Reading.{Reading, entered, read_lines, reading}
use Rattle.text.specs.TextLines.{text_lines}
use Rattle.text.specs.Tokens.{Piece, tokens}
use Rattle.text.specs.declared.fault.ReadFault.{ReadFault}
use Rattle.text.specs.declared.keyword.Keyword.{Keyword}
use Rattle.text.specs.declared.keyword.Keyword.TheVariants as key

-- One of the first 96 fields.
abbrev Known : Field → Type 0
Known x = under 96 x ≡ true

digits_below : (bs : List ℕ) → IfSome (digits_value bs) Short
digits_below bs = grind (arith, nat_tests)

number_below : (bs : List ℕ) → IfSome (number_of bs) Short
number_below bs = grind (arith, nat_tests, digits_below)

field_below : (bs : List ℕ) → IfSome (field_of bs) Known
field_below [] = tt
field_below (b ∷ bs) = grind (arith, nat_tests)

-- What a token means.
abbrev MeaningBelow : Meaning → Type 0
MeaningBelow (word k) = Unit {0}
MeaningBelow (field f) = Known f
MeaningBelow (number n) = Short n
MeaningBelow junk = Unit {0}

either_below : (k : Option Keyword) (f : Option Field) (n : Option ℕ) → IfSome f Known → IfSome n Short → MeaningBelow (word_or k (field_or f (number_or_junk n)))
either_below k f n h g = grind arith

meanings-below : (ps : List Piece) → AllByRecursion MeaningBelow (meanings ps)
meanings-below [] = tt
meanings-below (p ∷ ps) =
    let bs = p.bytes in
    (either_below (keyword_of bs) (field_of bs) (number_of bs) (field_below bs) (number_below bs), meanings-below ps)

-- What tokens give.
line_below : (n : ℕ) (k : Keyword) (ms : List Meaning) → AllByRecursion MeaningBelow ms → IfOk (line_of n k ms) (LineBelow 96)
line_below n key.Word ms h = grind (arith, nat_tests)
line_below n key.Copy ms h = grind (arith, nat_tests)
line_below n key.Not ms h = grind (arith, nat_tests)
line_below n (key.Binary k) ms h = grind (arith, nat_tests)
line_below n key.If ms h = grind (arith, nat_tests)
line_below n key.Else ms h = grind (arith, nat_tests)
line_below n key.End ms h = grind (arith, nat_tests)
line_below n key.Loop ms h = grind (arith, nat_tests)
line_below n key.Break ms h = grind (arith, nat_tests)
line_below n key.Turn ms h = grind (arith, nat_tests)

read_below : (n : ℕ) (ms : List Meaning) → AllByRecursion MeaningBelow ms → IfOk (line_read n ms) (λ o. IfSome o (LineBelow 96))
read_below n ms h = grind (arith, line_below n)

-- What text lines give.
entered_below : (room n : ℕ) (r : Result (Option Line) ReadFault) (rest : ℕ → Reading) → IfOk r (λ o. IfSome o (LineBelow 96)) → ((left : ℕ) → TableBelow 96 (rest left).lines) → TableBelow 96 (entered room n r rest).lines
entered_below room n r rest h g = grind (arith, g room, g (room - 1))

lines_below : (room n : ℕ) (ls : List (List ℕ)) → TableBelow 96 (read_lines room n ls).lines
lines_below room n [] = tt
lines_below room n (l ∷ ls) =
    entered_below room n (line_read n (meanings (tokens 0 l))) (λ left. read_lines left (n + 1) ls) (read_below n _ (meanings-below (tokens 0 l))) (λ left. lines_below left (n + 1) ls)

pub limited_below : (text : List ℕ) (entries : ℕ) → TableBelow 96 (reading text entries).lines
limited_below text entries = grind (arith, lines_below (min entries 2400) 1 (text_lines text))

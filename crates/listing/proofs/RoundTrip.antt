-- A table that a text can write reads back from its listing.
use Rattle.std.proofs.Common.{◌≡◌, ℕ, ◌+◌, ◌-◌, ◌*◌, ◌≤◌, true, List, [], ◌∷◌, map, length, Some, None, Ok, decimal, refl, arith, lit<, length-append}
use Rattle.std.proofs.lemmas.Fmt.{length-decimal-le}
use Rattle.std.proofs.lemmas.Bool.{ltb-true}
use Rattle.lines.specs.Operations.{under}
use Rattle.lines.specs.Sizes.{Short, LineBelow, TableBelow}
use Rattle.lines.specs.declared.field.Field.{Field}
use Rattle.lines.specs.declared.line.Line.{Line}
use Rattle.text.specs.Meanings.{field, number, meaning, meanings}
use Rattle.text.specs.Operands.{line_read}
use Rattle.text.specs.Reading.{read_lines}
use Rattle.text.specs.Tokens.{tokens}
use Rattle.listing.specs.Listing.{field_word, line_words, line_bytes, listing}
use Rattle.listing.specs.RoundTrip.{ReadsBack}
use Rattle.listing.proofs.Alphabet.{line_words_lem}
use Rattle.listing.proofs.Readers.{line_text, listing_lines, words_mean}
use Rattle.listing.proofs.Numerals.{number_back, no_field, no_keyword}

-- What the words mean.
number_means : (n : ℕ) → Short n → meaning (decimal n) ≡ number n
number_means n h = grind (arith, no_keyword, no_field, number_back)

field_means : (f : Field) → under 96 f ≡ true → meaning (field_word f) ≡ field f
field_means f h = grind (arith, number_back)

-- A text line with the words of a line reads as the line.
pub words_back : (n : ℕ) (l : Line) → LineBelow 96 l → line_read n (map meaning (line_words l)) ≡ Ok (Some l)
words_back n l h = grind (arith, field_means, number_means)

line_back : (n : ℕ) (l : Line) → LineBelow 96 l → line_read n (meanings (tokens 0 (line_text l))) ≡ Ok (Some l)
line_back n l h = grind (arith, words_mean, line_words_lem, words_back)

lines_back : (room n : ℕ) (t : List Line) → TableBelow 96 t → length t ≤ room → read_lines room n (map line_text t) ≡ record { lines = t; fault = None }
lines_back room n [] h few = refl
lines_back room n (l ∷ t) h few = grind (arith, line_back, lines_back (room - 1) (n + 1) t h.1)

-- A line has at most 20 bytes, as `word f95 4294967295` with its end.
pub length_field : (f : Field) → under 96 f ≡ true → length (decimal f.0) ≤ 2
length_field f h =
    let small = ltb-true f.0 96 h in
    length-decimal-le 2 f.0 (lit< tt) (omega arith) (omega arith)

pub length_word : (n : ℕ) → Short n → length (decimal n) ≤ 10
length_word n h = length-decimal-le 10 n (lit< tt) (omega arith) (omega arith)

line_short : (l : Line) → LineBelow 96 l → length (line_bytes l) ≤ 20
line_short l h = grind (arith, length-append, length_field, length_word)

pub listing_short : (t : List Line) → TableBelow 96 t → length (listing t) ≤ 20 * length t
listing_short [] h = omega arith
listing_short (l ∷ t) h = grind (arith, length-append, line_short, listing_short t)

pub reads_back : (t : List Line) → TableBelow 96 t → length t ≤ 2400 → ReadsBack t
reads_back t h few room fits = grind (arith, listing_short, listing_lines, lines_back)

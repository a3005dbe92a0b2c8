-- The bytes that a listing is made of.
use Rattle.std.proofs.Common.{◌≡◌, ℕ, ◌<◌, Bool, true, false, ◌&&◌, ◌||◌, eqb, List, [], ◌∷◌, length, decimal, refl, arith}
use Rattle.std.specs.Char.{is_ascii_digit, is_ascii_lowercase}
use Rattle.std.specs.List.{flat_map, list_all, AllByRecursion}
use Rattle.std.specs.Str.{all_ascii_digits}
use Rattle.std.proofs.lemmas.List.Elements.{All-weaker}
use Rattle.std.proofs.lemmas.List.Folds.{list_all-append}
use Rattle.std.proofs.lemmas.List.Sums.{AllPass-from_list_all, list_all-from_AllPass}
use Rattle.std.proofs.lemmas.Bool.{ltb-true, or_left}
use Rattle.lines.specs.declared.field.Field.{Field}
use Rattle.lines.specs.declared.line.Line.{Line}
use Rattle.listing.specs.Listing.{field_word, line_words, spaced_word, spaced}
use Rattle.lines.specs.Operations.{under}
use Rattle.lines.specs.Sizes.{Short, LineBelow}
use Rattle.listing.proofs.Numerals.{decimal_digits, decimal_not_empty}

-- A digit or a small letter.
abbrev pub word_byte : ℕ → Bool
word_byte b = is_ascii_digit b || is_ascii_lowercase b

-- A word is made of these, and has at least one.
abbrev pub is_word : List ℕ → Bool
is_word [] = false
is_word (b ∷ bs) = word_byte b && list_all word_byte bs

-- The bytes of a line before its end.
abbrev pub line_byte : ℕ → Bool
line_byte b = word_byte b || eqb b 32

digits_word_bytes : (ds : List ℕ) → all_ascii_digits ds ≡ true → list_all word_byte ds ≡ true
digits_word_bytes [] h = refl
digits_word_bytes (d ∷ ds) h = grind (arith, digits_word_bytes ds)

pub word_from : (w : List ℕ) → 0 < length w → list_all word_byte w ≡ true → is_word w ≡ true
word_from [] h e = absurd (omega arith)
word_from (b ∷ bs) h e = e

pub word_bytes : (w : List ℕ) → is_word w ≡ true → list_all word_byte w ≡ true
word_bytes [] e = refl
word_bytes (b ∷ bs) e = e

-- Words alone.
abbrev pub Words : List (List ℕ) → Type 0
Words ws = AllByRecursion (λ w. is_word w ≡ true) ws

-- Numbers and fields are words.
number : (n : ℕ) → Short n → is_word (decimal n) ≡ true
number n h = word_from (decimal n) (decimal_not_empty n h) (digits_word_bytes (decimal n) (decimal_digits n h))

field : (f : Field) → under 96 f ≡ true → is_word (field_word f) ≡ true
field f h = digits_word_bytes (decimal f.0) (decimal_digits f.0 (omega (arith, ltb-true f.0 96 h)))

-- The words of a line that a text can write are words.
pub line_words_lem : (l : Line) → LineBelow 96 l → Words (line_words l)
line_words_lem l h = grind (arith, field, number)

-- Words with spaces between them.
word_in_line : (w : List ℕ) → is_word w ≡ true → list_all line_byte w ≡ true
word_in_line w h = list_all-from_AllPass line_byte w (All-weaker (λ b. word_byte b ≡ true) (λ b. line_byte b ≡ true) (λ b e. or_left (word_byte b) (eqb b 32) e) w (AllPass-from_list_all word_byte w (word_bytes w h)))

joined_bytes : (ws : List (List ℕ)) → Words ws → list_all line_byte (flat_map spaced_word ws) ≡ true
joined_bytes [] h = refl
joined_bytes (w ∷ ws) h = grind (arith, list_all-append, word_in_line, joined_bytes ws)

pub spaced_bytes : (ws : List (List ℕ)) → Words ws → list_all line_byte (spaced ws) ≡ true
spaced_bytes [] h = refl
spaced_bytes (w ∷ ws) h = grind (arith, list_all-append, word_in_line, joined_bytes)

-- None of these bytes ends a line.
pub line_byte_no_end : (b : ℕ) → line_byte b ≡ true → eqb b 10 ≡ false
line_byte_no_end b e = grind arith

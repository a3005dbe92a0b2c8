-- What a reader finds in a listing: its text lines are those of the table, and the tokens of each are the words of the line.
use Rattle.std.proofs.Common.{◌≡◌, ℕ, ◌+◌, true, false, List, [], ◌∷◌, ◌++◌, map, length, refl, append_assoc, arith}
use Rattle.std.specs.List.{list_all}
use Rattle.std.proofs.lemmas.List.{take_at, drop_at}
use Rattle.lines.specs.Sizes.{TableBelow}
use Rattle.lines.specs.declared.line.Line.{Line}
use Rattle.text.specs.Meanings.{meaning, meanings}
use Rattle.text.specs.TextLines.{text_lines}
use Rattle.text.specs.Tokens.{is_solid, solid_first, solids, tokens}
use Rattle.text.proofs.Lexing.{tokens_first, solids_none}
use Rattle.listing.specs.Listing.{line_words, spaced, listing}
use Rattle.listing.proofs.Alphabet.{word_byte, is_word, line_byte, Words, word_bytes, line_words_lem, spaced_bytes, line_byte_no_end}

-- The bytes of a line before its end.
abbrev pub line_text : Line → List ℕ
line_text l = spaced (line_words l)

first_line : (w bs : List ℕ) → list_all line_byte w ≡ true → text_lines (w ++ 10 ∷ bs) ≡ w ∷ text_lines bs
first_line [] bs h = refl
first_line (b ∷ w) bs h = grind (arith, line_byte_no_end, first_line w bs)

pub listing_lines : (t : List Line) → TableBelow 96 t → text_lines (listing t) ≡ map line_text t
listing_lines [] h = refl
listing_lines (l ∷ t) h = grind (arith, append_assoc, first_line, spaced_bytes, line_words_lem, listing_lines t)

-- A word is a token, up to a byte that is no part of one.
word_solid : (b : ℕ) → word_byte b ≡ true → is_solid b ≡ true
word_solid b e = grind arith

word_run : (w bs : List ℕ) → list_all word_byte w ≡ true → solid_first bs ≡ false → solids (w ++ bs) ≡ length w
word_run [] bs h e = solids_none bs e
word_run (b ∷ w) bs h e = grind (arith, word_solid, word_run w bs)

solid_first_lem : (w bs : List ℕ) → is_word w ≡ true → solid_first (w ++ bs) ≡ true
solid_first_lem [] bs h = grind arith
solid_first_lem (b ∷ w) bs h = grind (arith, word_solid)

first_word : (at : ℕ) (w bs : List ℕ) → is_word w ≡ true → solid_first bs ≡ false → tokens at (w ++ bs) ≡ record { place = at; bytes = w } ∷ tokens (at + length w) bs
first_word at w bs h e = grind (arith, tokens_first, solid_first_lem, word_run, word_bytes, take_at, drop_at)

pub words_mean : (at : ℕ) (ws : List (List ℕ)) → Words ws → meanings (tokens at (spaced ws)) ≡ map meaning ws
words_mean at [] h = refl
words_mean at (w ∷ []) h = grind (arith, first_word at w [])
words_mean at (w ∷ v ∷ ws) h = grind (arith, first_word, words_mean (at + length w + 1) (v ∷ ws))

-- Reading accepts exactly the texts that write a table, and each table line comes from the text line that writes it.
use Rattle.std.proofs.Common.{◌≡◌, ℕ, zero, suc, ◌+◌, ◌-◌, ◌<◌, ◌≤◌, min, Bool, true, false, cond, List, [], ◌∷◌, map, length, Some, None, Ok, Err, Option, Result, refl, arith}
use Rattle.std.proofs.lemmas.Bool.Decides.{nat_tests}
use Rattle.std.specs.List.{slice_get}
use Rattle.lines.specs.declared.line.Line.{Line}
use Rattle.text.specs.Meanings.{Meaning, word, meanings}
use Rattle.text.specs.TextLines.{text_lines}
use Rattle.text.specs.Tokens.{Piece, tokens, some_token}
use Rattle.text.specs.declared.keyword.Keyword.{Keyword}
use Rattle.text.specs.declared.keyword.Keyword.TheVariants as key
use Rattle.text.specs.Operands.{line_of, line_read}
use Rattle.text.specs.Reading.{Reading, entered, read_lines, token_lines}
use Rattle.text.specs.RuleTexts.{line_tokens, tokenized, AcceptsExactly, ReadFromText}
use Rattle.text.specs.declared.fault.ReadFault.{ReadFault}

-- The tokens of a line are read as that line.
tokens_read : (n : ℕ) (x : Line) → line_read n (line_tokens x) ≡ Ok (Some x)
tokens_read n x = grind arith

-- A line word and the tokens after it are those of the line that they are read as.
word_told : (n : ℕ) (w : Keyword) (ms : List Meaning) (l : Line) → line_of n w ms ≡ Ok l → word w ∷ ms ≡ line_tokens l
word_told n key.Word ms l e = grind arith
word_told n key.Copy ms l e = grind arith
word_told n key.Not ms l e = grind arith
word_told n (key.Binary k) ms l e = grind arith
word_told n key.If ms l e = grind arith
word_told n key.Else ms l e = grind arith
word_told n key.End ms l e = grind arith
word_told n key.Loop ms l e = grind arith
word_told n key.Break ms l e = grind arith
word_told n key.Turn ms l e = grind arith

-- What a text line that is read says of its tokens: none if it gives no line, and else those of the line.
abbrev Told : List Meaning → Option Line → Type 0
Told ms None = ms ≡ []
Told ms (Some x) = ms ≡ line_tokens x

line_told : (n : ℕ) (ms : List Meaning) (o : Option Line) → line_read n ms ≡ Ok o → Told ms o
line_told n ms o e = grind (arith, word_told n)

-- Whether a text line has tokens, b, goes by what they mean.
abbrev Meant : Bool → List Meaning → Type 0
Meant b ms = (b ≡ false → ms ≡ []) × (b ≡ true → 0 < length ms)

meant : (ps : List Piece) → Meant (some_token ps) (meanings ps)
meant [] = grind arith
meant (p ∷ ps) = grind arith

-- What is read without a fault.
abbrev whole : List Line → Reading
whole table = record { lines = table; fault = None }

-- A text line whose tokens mean ms, if it has any, before others, whatever is read from these.
module _ (n room : ℕ) (b : Bool) (ms : List Meaning) (m : Meant b ms) (others : List (List Meaning)) (rest : ℕ → Reading) where
  sound_line : ((left : ℕ) → (rest left).fault ≡ None → (others ≡ map line_tokens (rest left).lines) × (length (rest left).lines ≤ left)) →
      (q : Result (Option Line) ReadFault) → line_read n ms ≡ q → (entered room n q rest).fault ≡ None → (cond b (ms ∷ others) others ≡ map line_tokens (entered room n q rest).lines) × (length (entered room n q rest).lines ≤ room)
  sound_line known (Err d) p e = grind arith
  sound_line known (Ok None) p e = let t = line_told n ms None p in grind (arith, known room)
  sound_line known (Ok (Some x)) p e = let t = line_told n ms (Some x) p in grind (arith, nat_tests, known (room - 1))

  complete_line : ((left : ℕ) (table : List Line) → others ≡ map line_tokens table → length table ≤ left → rest left ≡ whole table) →
      (table : List Line) → cond b (ms ∷ others) others ≡ map line_tokens table → length table ≤ room → entered room n (line_read n ms) rest ≡ whole table
  complete_line known [] e h = grind (arith, known room [])
  complete_line known (x ∷ table) e h = grind (arith, nat_tests, tokens_read n x, known room (x ∷ table), known (room - 1) table)

lines_sound : (room n : ℕ) (ls : List (List ℕ)) → (read_lines room n ls).fault ≡ None → (tokenized ls ≡ map line_tokens (read_lines room n ls).lines) × (length (read_lines room n ls).lines ≤ room)
lines_sound room n [] e = grind arith
lines_sound room n (l ∷ ls) e =
    sound_line n room _ _ (meant (tokens 0 l)) (tokenized ls) (λ left. read_lines left (n + 1) ls) (λ left. lines_sound left (n + 1) ls) (line_read n (meanings (tokens 0 l))) refl e

lines_complete : (room n : ℕ) (ls : List (List ℕ)) (table : List Line) → tokenized ls ≡ map line_tokens table → length table ≤ room → read_lines room n ls ≡ whole table
lines_complete room n [] [] e h = refl
lines_complete room n [] (x ∷ table) e h = grind arith
lines_complete room n (l ∷ ls) table e h =
    complete_line n room _ _ (meant (tokens 0 l)) (tokenized ls) (λ left. read_lines left (n + 1) ls) (λ left t. lines_complete left (n + 1) ls t) table e h

pub accepts : (text : List ℕ) (entries : ℕ) → AcceptsExactly text entries
accepts text entries = record {
  sound = λ table e. grind (arith, nat_tests, lines_sound (min entries 2400) 1 (text_lines text));
  complete = λ table w h. grind (arith, nat_tests, lines_complete (min entries 2400) 1 (text_lines text) table);
}

-- Line k of what was read, x, comes from text line n + past, of text lines of which the first has the number n.
record From (n : ℕ) (ls : List (List ℕ)) (k : ℕ) (x : Line) : Type 0 where
  pub past : ℕ
  pub line : List ℕ
  pub found : slice_get (token_lines n ls) k ≡ Some (n + past)
  pub there : slice_get ls past ≡ Some line
  pub writes : meanings (tokens 0 line) ≡ line_tokens x

module _ (n : ℕ) (l : List ℕ) (ls : List (List ℕ)) where
  -- one line further
  later : (j k : ℕ) (x : Line) → slice_get (token_lines (n + 1) ls) j ≡ slice_get (token_lines n (l ∷ ls)) k → From (n + 1) ls j x → From n (l ∷ ls) k x
  later j k x e f = record { past = suc f.past; line = f.line; found = grind arith; there = f.there; writes = f.writes }

  from_line : (room : ℕ) (rest : ℕ → Reading) → ((left k : ℕ) (x : Line) → slice_get (rest left).lines k ≡ Some x → From (n + 1) ls k x) →
      (k : ℕ) (x : Line) (q : Result (Option Line) ReadFault) → line_read n (meanings (tokens 0 l)) ≡ q → slice_get (entered room n q rest).lines k ≡ Some x → From n (l ∷ ls) k x
  from_line room rest known k x (Err d) p e = absurd (grind arith)
  from_line room rest known k x (Ok None) p e =
      let t = line_told n _ None p in let m = meant (tokens 0 l) in later k k x (grind arith) (known room k x e)
  from_line room rest known zero x (Ok (Some y)) p e =
      let t = line_told n _ (Some y) p in let m = meant (tokens 0 l) in record { past = 0; line = l; found = grind arith; there = refl; writes = grind (arith, nat_tests) }
  from_line room rest known (suc k) x (Ok (Some y)) p e =
      let t = line_told n _ (Some y) p in let m = meant (tokens 0 l) in later k (suc k) x (grind arith) (known (room - 1) k x (grind (arith, nat_tests)))

from_lines : (room n : ℕ) (ls : List (List ℕ)) (k : ℕ) (x : Line) → slice_get (read_lines room n ls).lines k ≡ Some x → From n ls k x
from_lines room n [] k x e = absurd (grind arith)
from_lines room n (l ∷ ls) k x e =
    from_line n l ls room (λ left. read_lines left (n + 1) ls) (λ left j y. from_lines left (n + 1) ls j y) k x (line_read n (meanings (tokens 0 l))) refl e

pub read_from : (text : List ℕ) (k : ℕ) → ReadFromText text k
read_from text k entries x e =
    let f = from_lines (min entries 2400) 1 (text_lines text) k x (grind (arith, nat_tests)) in
    record { number = suc f.past; line = f.line; found = grind arith; there = f.there; writes = f.writes }

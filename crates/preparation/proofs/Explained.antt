-- A refusal that names a line of the text names one that the text has.
use Rattle.std.proofs.Common.{◌≡◌, ℕ, zero, suc, ◌+◌, ◌-◌, ◌<◌, ◌≤◌, min, ◌⊎◌, List, [], ◌∷◌, length, Some, None, Ok, Err, Option, Result, refl, ◌∙◌, inl, inr, arith}
use Rattle.std.proofs.lemmas.Option.{slice_get-get_or}
use Rattle.std.specs.List.{slice_get}
use Rattle.lines.specs.declared.line.Line.{Line}
use Rattle.lines.specs.declared.line.Line.TheVariants as line
use Rattle.nesting.specs.declared.open.Open.{Open}
use Rattle.rules.specs.Checks.{line_fault, after, nesting_fault, checked}
use Rattle.rules.specs.declared.fault.CheckFault.{CheckFault}
use Rattle.text.specs.Meanings.{Meaning, meanings}
use Rattle.text.specs.TextLines.{text_lines}
use Rattle.text.specs.Tokens.{tokens}
use Rattle.text.specs.Operands.{line_read}
use Rattle.text.specs.Reading.{Reading, entered, read_lines, reading, answer, written_by}
use Rattle.text.specs.declared.fault.ReadFault.{ReadFault}
use Rattle.text.proofs.RuleTexts.{read_from}
use Rattle.preparation.specs.Explaining.{read_line, check_line, Explained}
use Rattle.preparation.specs.Preparing.{balancing}
use Rattle.preparation.specs.declared.fault.PrepareFault.{PrepareFault}
use Rattle.preparation.specs.declared.fault.PrepareFault.TheVariants as fault

-- What is wrong with the tokens of text line n names that line.
line_named : (n : ℕ) (ms : List Meaning) (e : ReadFault) → line_read n ms ≡ Err e → read_line e ≡ Some n
line_named n ms e q = grind arith

-- The fault names text line n + past, of text lines of which the first has the number n.
record Placed (n : ℕ) (ls : List (List ℕ)) (e : ReadFault) : Type 0 where
  pub past : ℕ
  pub line : List ℕ
  pub named : read_line e ≡ Some (n + past)
  pub there : slice_get ls past ≡ Some line

module _ (n : ℕ) (l : List ℕ) (ls : List (List ℕ)) (e : ReadFault) where
  later : Placed (n + 1) ls e → Placed n (l ∷ ls) e
  later p = record { past = suc p.past; line = p.line; named = grind arith; there = p.there }

  entered_fault : (room : ℕ) (rest : ℕ → Reading) (q : Result (Option Line) ReadFault) → line_read n (meanings (tokens 0 l)) ≡ q → (entered room n q rest).fault ≡ Some e → ((left : ℕ) → (rest left).fault ≡ Some e → Placed (n + 1) ls e) → Placed n (l ∷ ls) e
  entered_fault room rest (Err d) p q known = record { past = 0; line = l; named = grind (arith, line_named); there = refl }
  entered_fault room rest (Ok None) p q known = later (known room q)
  entered_fault zero rest (Ok (Some x)) p q known = record { past = 0; line = l; named = grind arith; there = refl }
  entered_fault (suc room) rest (Ok (Some x)) p q known = later (known (suc room - 1) (grind arith))

lines_fault : (room n : ℕ) (ls : List (List ℕ)) (e : ReadFault) → (read_lines room n ls).fault ≡ Some e → Placed n ls e
lines_fault room n [] e q = absurd (grind arith)
lines_fault room n (l ∷ ls) e q = entered_fault n l ls e room (λ left. read_lines left (n + 1) ls) _ refl q (λ left. lines_fault left (n + 1) ls e)

pub answer_explained : (text : List ℕ) (entries : ℕ) (e : ReadFault) → answer (reading text entries) ≡ Err e → Explained text (fault.Read e)
answer_explained text entries e q = grind (arith, lines_fault (min entries 2400) 1 (text_lines text) e)

-- What is wrong with table line `at` is in the text line that it comes from.
line_here : (at : ℕ) (st : List Open) (x : Line) (f : CheckFault) → line_fault at st x ≡ Some f → (t : List ℕ) → check_line t f ≡ written_by t at
line_here at st x f q t = grind arith

-- A fault is in no one line of any text, or in the text line that one of so many table lines from `at` on comes from.
abbrev Within : ℕ → ℕ → CheckFault → Type 0
Within at count f = ((t : List ℕ) → check_line t f ≡ None) ⊎ ((k : ℕ) × ((t : List ℕ) → check_line t f ≡ written_by t k) × (at ≤ k) × (k < at + count))

within_step : (at : ℕ) (st : List Open) (x : Line) (xs : List Line) (f : CheckFault) → (nesting_fault (at + 1) (after st x) xs ≡ Some f → Within (at + 1) (length xs) f) → nesting_fault at st (x ∷ xs) ≡ Some f → Within at (suc (length xs)) f
unfolding nesting_fault
within_step at st x xs f rest q = grind (arith, line_here at st x f)

nesting_within : (at : ℕ) (st : List Open) (lines : List Line) (f : CheckFault) → nesting_fault at st lines ≡ Some f → Within at (length lines) f
unfolding nesting_fault
nesting_within at [] [] f q = grind arith
nesting_within at (o ∷ st) [] f q = grind arith
nesting_within at st (x ∷ xs) f q = within_step at st x xs f (nesting_within (at + 1) (after st x) xs f) q

check_within : (lines : List Line) (f : CheckFault) → checked lines ≡ Err f → Within 0 (length lines) f
check_within lines f q = grind (arith, nesting_within 0 [] lines f)

has_within : (text : List ℕ) (entries : ℕ) (f : CheckFault) → Within 0 (length (reading text entries).lines) f → Explained text (fault.Check f)
has_within text entries f (inl h) = inl h
has_within text entries f (inr (k, h, low, high)) =
    let r = read_from text k entries _ (slice_get-get_or (reading text entries).lines k line.End (omega arith)) in
    inr (record { number = r.number; line = r.line; numbered = h text ∙ r.found; there = r.there })

pub check_explained : (text : List ℕ) (entries : ℕ) (f : CheckFault) → checked (reading text entries).lines ≡ Err f → Explained text (fault.Check f)
check_explained text entries f q = has_within text entries f (check_within (reading text entries).lines f q)

-- Whatever stage refuses after reading.
pub balancing_explained : (text : List ℕ) (entries room : ℕ) (e : PrepareFault) → balancing (reading text entries).lines room ≡ Err e → Explained text e
balancing_explained text entries room e q = grind (arith, check_explained text entries)

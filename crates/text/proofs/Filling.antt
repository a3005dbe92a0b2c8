-- A table filled line by line.
use Rattle.std.proofs.Common.{◌≡◌, ℕ, ◌+◌, ◌-◌, ◌<◌, List, [], ◌∷◌, ◌++◌, length, take, drop, set, Some, Ok, ap, arith}
use Rattle.std.proofs.Math.Seq.{drop-append-add}
pub use Rattle.std.proofs.lemmas.Grind.{common_steps}
pub use Rattle.std.proofs.lemmas.List.{set-get_or, take-append-drop}
use Rattle.std.proofs.lemmas.List.{append_assoc, drop-append-le, drop-drop, drop-set-lt, length-take, take_more_set}
pub use Rattle.std.proofs.lemmas.Bool.Decides.{nat_tests}
use Rattle.lines.specs.declared.line.Line.{Line}
use Rattle.text.specs.Reading.{Reading, unread, taken}
use Rattle.text.specs.declared.reader.Reader.{Reader}

-- Lines before what reading gives.
abbrev pub after : List Line → Reading → Reading
after xs r = record { lines = xs ++ r.lines; fault = r.fault }

pub ruleset filling = (common_steps, nat_tests, set-get_or, take-append-drop)

-- The slots, of which the first have been written, before what is left of the table: a line x is written.
pub entered_kept : (table slots : List Line) (room count : ℕ) (x : Line) → count < length slots → slots ++ drop room table ≡ take count slots ++ drop count table → set slots count x ++ drop room table ≡ take (count + 1) (set slots count x) ++ drop (count + 1) table
entered_kept table slots room count x h e =
    let d = ap (drop (count + 1)) e in
    grind (arith, take-append-drop (count + 1) (set slots count x), drop-append-le (count + 1) slots (drop room table), drop-append-add (take count slots) (drop count table) 1, length-take, drop-drop 1 count table, drop-set-lt (count + 1) slots count x, append_assoc)

-- A line x that is entered.
pub entered_gives : (slots : List Line) (room count : ℕ) (r s : Reader) (p : ℕ × Line) → count < room → count < length slots → unread (room - count) r ≡ taken (room - count) (Ok (Some p)) (λ k. unread k s) → after (take (count + 1) (set slots count p.1)) (unread (room - (count + 1)) s) ≡ after (take count slots) (unread (room - count) r)
entered_gives slots room count r s p free within next =
    grind (arith, nat_tests, take_more_set slots count p.1, append_assoc (take count slots) (p.1 ∷ []))

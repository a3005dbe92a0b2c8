use Rattle.std.proofs.Common.{◌≡◌, ℕ, zero, suc, ◌-◌, ◌<◌, List, ◌∷◌, ap, ◌∙◌, arith}
use Rattle.std.proofs.lemmas.Bool.Decides.{nat_tests}
use Rattle.std.specs.List.{slice_get}
use Rattle.text.specs.Operands.{SameLine}
use Rattle.text.specs.TextLines.{next_line}
use Rattle.text.proofs.Taking.{line_after}
use Rattle.text.proofs.Unread.{numbers_behind, numbers_on, shrinks, some_told}
use Rattle.text.proofs.text_lines.text_line_of.Goals as goal
use Rattle.text.proofs.text_lines.text_line_of.Goals.{then-is_some+else-before-eq0, else-is_some}

pub returns-then-before-eq0-clause-value : goal.returns-then-before-eq0-clause-value
returns-then-before-eq0-clause-value c =
    let r = c.loop-reader.reader in
    let n = c.next_token.ensures in
    let on : SameLine r c.next_token.new.self = record { text = n.text; number = n.number; next = ap (next_line r.text.now) n.at ∙ line_after r.text.now r.at } in
    let told = some_told c.next_token.result _ n.token in
    let numbers = numbers_on r c.next_token.new.self on in
    grind (arith, nat_tests)

pub loop-reader-smaller : goal.loop-reader-smaller
loop-reader-smaller c =
    let r = c.loop-reader.reader in
    let s = c.next_token.new.self in
    grind (arith, nat_tests, line_after r.text.now r.at, shrinks r s)

past_found : (number : ℕ) (numbers : List ℕ) (k : ℕ) → 0 < k → slice_get (number ∷ numbers) k ≡ slice_get numbers (k - 1)
past_found number numbers zero h = grind arith
past_found number numbers (suc k) h = grind arith

pub loop-reader-preserved : goal.loop-reader-preserved
loop-reader-preserved c =
    let r = c.loop-reader.reader in
    let n = c.next_token.ensures in
    let on : SameLine r c.next_token.new.self = record { text = n.text; number = n.number; next = ap (next_line r.text.now) n.at ∙ line_after r.text.now r.at } in
    let told = some_told c.next_token.result _ n.token in
    let numbers = numbers_on r c.next_token.new.self on in
    elim c.if-is_some.branch [
      | then-is_some+else-before-eq0 w ↦
          let found : slice_get (r.number ∷ numbers_behind c.next_token.new.self) c.loop-reader.before ≡ slice_get (numbers_behind c.next_token.new.self) (c.loop-reader.before - 1) = past_found r.number (numbers_behind c.next_token.new.self) c.loop-reader.before (omega (arith, w.if-before-eq0.false)) in
          grind (arith, nat_tests)
      | else-is_some w ↦ grind (arith, nat_tests)
    ]

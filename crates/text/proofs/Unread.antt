-- What a reader still has of its text, line by line.
use Rattle.std.proofs.Common.{◌≡◌, ℕ, ◌+◌, ◌-◌, ◌<◌, ◌⊎◌, cond, List, [], ◌∷◌, length, drop, is_some, Err, Option, Result, arith}
use Rattle.std.proofs.lemmas.List.{drop_all, length-drop}
use Rattle.std.proofs.lemmas.Bool.Decides.{nat_tests}
use Rattle.lines.specs.declared.line.Line.{Line}
use Rattle.text.specs.Meanings.{viewed, first_seen}
use Rattle.text.specs.Operands.{line_read, left, SameLine}
use Rattle.text.specs.Reading.{refused, entered, lines_left, token_lines, unread, unread_behind}
use Rattle.text.specs.TextLines.{has_end, next_line, text_lines}
use Rattle.text.specs.Tokens.{Piece, some_token, tokens_at}
use Rattle.text.specs.declared.fault.ReadFault.{ReadFault}
use Rattle.text.specs.declared.reader.Reader.{Reader}
use Rattle.text.specs.declared.token.Token.{Token}
use Rattle.text.proofs.LineByLine.{line_at, lines_at, meanings_at, some_at}
use Rattle.text.proofs.Runs.{line_size_is}

pub some_told : (o : Option Token) (ts : List Piece) → viewed o ≡ first_seen ts → is_some o ≡ some_token ts
some_told o ts e = grind arith

-- The numbers of the lines with a token behind the one that a reader is in.
abbrev pub numbers_behind : Reader → List ℕ
numbers_behind s = token_lines (cond (has_end s.text.now s.at) (s.number + 1) s.number) (text_lines (drop (next_line s.text.now s.at) s.text.now))

-- The reader r, which went on within its line as s.
module _ (r s : Reader) (on : SameLine r s) where
  counted : (text_lines (drop (next_line s.text.now s.at) s.text.now) ≡ []) ⊎ (cond (has_end s.text.now s.at) (s.number + 1) s.number ≡ r.number + 1)
  counted = grind (arith, nat_tests, line_size_is, length-drop, drop_all (next_line s.text.now s.at) s.text.now)

  module _ (h : r.at < length r.text.now) where
    lines_on : lines_left r ≡ line_at r.text.now r.at ∷ text_lines (drop (next_line s.text.now s.at) s.text.now)
    lines_on = grind (arith, lines_at r.text.now r.at h)

    -- What is read, where w is what the line was read as.
    pub unread_on : (room : ℕ) (w : Result (Option Line) ReadFault) → w ≡ line_read r.number (left r) → unread room r ≡ entered room r.number w (λ k. unread_behind k s)
    unread_on room w q = grind (arith, lines_on, meanings_at r.text.now r.at, counted)

    -- The line counts where it has a token.
    pub numbers_on : token_lines r.number (lines_left r) ≡ cond (some_token (tokens_at r.text.now r.at)) (r.number ∷ numbers_behind s) (numbers_behind s)
    numbers_on = grind (arith, lines_on, some_at r.text.now r.at, counted)

    -- It then went to the next line as t.
    module _ (t : Reader) (same : t.text.now ≡ s.text.now) (to : t.at ≡ next_line s.text.now s.at) where
      pub shrinks : length t.text.now - t.at < length r.text.now - r.at
      shrinks = grind (arith, line_size_is (drop r.at r.text.now), length-drop)

      pub lines_more : lines_left r ≡ line_at r.text.now r.at ∷ lines_left t
      lines_more = grind (arith, lines_on)

-- What is read where a line was read as w.
pub unread_entry : (r s : Reader) (room : ℕ) (w : Result (Option Line) ReadFault) → SameLine r s → r.at < length r.text.now → w ≡ line_read r.number (left r) → unread room r ≡ entered room r.number w (λ k. unread_behind k s)
unread_entry r s room w on h q = unread_on r s on h room w q

-- The reader then went to the next line as t.
pub unread_more : (r s t : Reader) (room : ℕ) (w : Result (Option Line) ReadFault) → SameLine r s → t.text.now ≡ s.text.now → t.at ≡ next_line s.text.now s.at → t.number ≡ cond (has_end s.text.now s.at) (s.number + 1) s.number → r.at < length r.text.now → w ≡ line_read r.number (left r) → unread room r ≡ entered room r.number w (λ k. unread k t)
unread_more r s t room w on same to counts h q = grind (arith, unread_on r s on h room w q)

-- A line with a fault.
pub unread_fault : (r : Reader) → r.at < length r.text.now → (room : ℕ) (e : ReadFault) → Err e ≡ line_read r.number (left r) → unread room r ≡ refused e
unread_fault r h room e q = grind (arith, lines_at r.text.now r.at h, meanings_at r.text.now r.at)

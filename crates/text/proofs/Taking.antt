-- What a reader has left after it took a token.
use Rattle.std.proofs.Common.{◌≡◌, List, ◌∷◌, Some, Ok, arith}
use Rattle.text.specs.declared.keyword.Keyword.{Keyword}
use Rattle.text.specs.Meanings.{Meaning, as_word, meanings}
use Rattle.text.specs.Operands.{and_then, line_of, line_read, left}
use Rattle.text.specs.Tokens.{Piece, rest_of}
use Rattle.text.specs.declared.reader.Reader.{Reader}
pub use Rattle.text.proofs.Lexing.{tokens-after, line_after}

pub meanings_rest : (ts : List Piece) → meanings (rest_of ts) ≡ rest_of (meanings ts)
meanings_rest ts = grind arith

pub ruleset taking = (tokens-after, line_after, meanings_rest)

-- A line by its line word, k, and what the reader s makes of the rest.
pub line_done : (r s : Reader) (m : Meaning) (k : Keyword) → left s ≡ rest_of (left r) → s.number ≡ r.number → left r ≡ m ∷ rest_of (left r) → as_word m ≡ Some k → line_read r.number (left r) ≡ and_then (line_of s.number k (left s)) (λ x. Ok (Some x))
line_done r s m k e i h w = grind arith

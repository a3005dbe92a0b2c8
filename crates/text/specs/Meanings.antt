-- What tokens mean.
use Rattle.std.specs.Prelude.{ℕ, List, [], ◌∷◌, Some, None, Option}
use Rattle.lines.specs.declared.field.Field.{Field}
use Rattle.text.specs.Keywords.{keyword_of}
use Rattle.text.specs.Numerals.{number_of, field_of}
use Rattle.text.specs.Tokens.{Piece, PartOf}
use Rattle.text.specs.declared.keyword.Keyword.{Keyword}
use Rattle.text.specs.declared.token.Token.{Token}
use Rattle.text.specs.declared.token.Token.TheVariants as token

-- A token is a line word, a field, a number or none of these.
pub data Meaning : Type 0 where
  word : Keyword → Meaning
  field : Field → Meaning
  number : ℕ → Meaning
  junk : Meaning

-- A number, if it is one.
abbrev pub number_or_junk : Option ℕ → Meaning
number_or_junk None = junk
number_or_junk (Some n) = number n

-- A field, if it is one, and else what the other test says.
abbrev pub field_or : Option Field → Meaning → Meaning
field_or None m = m
field_or (Some f) m = field f

-- A line word, if it is one, and else what the other tests say.
abbrev pub word_or : Option Keyword → Meaning → Meaning
word_or None m = m
word_or (Some k) m = word k

-- What the bytes of a token mean.
abbrev pub meaning : List ℕ → Meaning
meaning bs = word_or (keyword_of bs) (field_or (field_of bs) (number_or_junk (number_of bs)))

-- The line word that a token is, if it is one.
abbrev pub as_word : Meaning → Option Keyword
as_word (word k) = Some k
as_word (field f) = None
as_word (number n) = None
as_word junk = None

-- The field that a token is, if it is one.
abbrev pub as_field : Meaning → Option Field
as_field (word k) = None
as_field (field f) = Some f
as_field (number n) = None
as_field junk = None

-- The number that a token is, if it is one.
abbrev pub as_number : Meaning → Option ℕ
as_number (word k) = None
as_number (field f) = None
as_number (number n) = Some n
as_number junk = None

-- What the tokens mean, one by one.
abbrev pub meanings : List Piece → List Meaning
meanings [] = []
meanings (p ∷ ps) = meaning p.bytes ∷ meanings ps

-- A piece of a text with its meaning.
pub record Seen : Type 0 where
  pub piece : Piece
  pub means : Meaning

-- A piece seen as a token.
abbrev pub meant : Piece → Seen
meant p = record { piece = p; means = meaning p.bytes }

-- The first piece seen as a token.
abbrev pub first_seen : List Piece → Option Seen
first_seen [] = None
first_seen (p ∷ ps) = Some (meant p)

-- What a token of the program holds: the piece of the text that it lends, and what it says that this means.
abbrev pub seen : Token → Seen
seen (token.Word part at k) = record { piece = record { place = at; bytes = part.now }; means = word k }
seen (token.Field part at f) = record { piece = record { place = at; bytes = part.now }; means = field f }
seen (token.Number part at n) = record { piece = record { place = at; bytes = part.now }; means = number n }
seen (token.Junk part at) = record { piece = record { place = at; bytes = part.now }; means = junk }

-- The same, if there is a token.
abbrev pub viewed : Option Token → Option Seen
viewed None = None
viewed (Some t) = Some (seen t)

-- A token that is yielded is a part of the text.
abbrev pub IsPart : List ℕ → Option Seen → Type 0
IsPart text None = Unit {0}
IsPart text (Some s) = PartOf text s.piece

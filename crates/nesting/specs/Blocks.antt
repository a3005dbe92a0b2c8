-- Blocks inside one another, as a table read from its end shows them.

-- The blocks that a list of lines begins with, the innermost first: a block, and behind each line that ends one the next block outwards.
pub data Blocks (A : Type 0) : Type 0 where
  last : A → Blocks A
  before : A → Blocks A → Blocks A

-- The block that comes first.
abbrev pub front : {A : Type 0} → Blocks A → A
front (last r) = r
front (before r bs) = r

-- The blocks behind the first; there is always one, if only an empty one.
abbrev pub behind : {A : Type 0} → A → Blocks A → Blocks A
behind empty (last r) = last empty
behind empty (before r bs) = bs

-- The blocks with another one in place of the first.
abbrev pub replace : {A : Type 0} → A → Blocks A → Blocks A
replace r (last q) = last r
replace r (before q bs) = before r bs

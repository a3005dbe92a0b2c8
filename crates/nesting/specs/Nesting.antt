-- What is open around a line, kept as a stack.
use Rattle.std.specs.Prelude.{List, [], ◌∷◌, Some, None, Option}

-- The topmost, if there is one.
abbrev pub top : {T : Type 0} → List T → Option T
top [] = None
top (x ∷ xs) = Some x

-- What is below the topmost.
abbrev pub below : {T : Type 0} → List T → List T
below [] = []
below (x ∷ xs) = xs

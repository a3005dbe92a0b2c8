-- Conditions tried one after another, and what is answered.
use Rattle.std.specs.Prelude.{Bool, cond, Some, None, Ok, Err, Option, Result}

-- The fault, unless the condition holds.
abbrev pub unless : {F : Type 0} → Bool → F → Option F
unless fine f = cond fine None (Some f)

-- The first of two faults.
abbrev pub first : {F : Type 0} → Option F → Option F → Option F
first (Some f) g = Some f
first None g = g

-- A value, unless there is a fault.
abbrev pub or_fault : {A F : Type 0} → Option F → A → Result A F
or_fault None a = Ok a
or_fault (Some f) a = Err f

-- What follows an answer that is no fault.
abbrev pub and_then : {A B F : Type 0} → Result A F → (A → Result B F) → Result B F
and_then (Ok a) k = k a
and_then (Err e) k = Err e

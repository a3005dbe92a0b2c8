-- A stack's items, the topmost first.
use Rattle.std.proofs.Common.{◌≡◌, ℕ, zero, suc, ◌-◌, ◌<◌, ◌≤◌, List, [], ◌∷◌, length, get_or, take, drop, reverse, Some, refl, arith}
use Rattle.std.proofs.lemmas.List.{get_or-reverse, get_or-take, length-take, length-reverse}
use Rattle.std.proofs.lemmas.Option.{slice_get-get_or}
use Rattle.std.specs.List.{slice_get}
use Rattle.nesting.specs.Nesting.{top}

pub top-drop : {T : Type 0} (st : List T) (i : ℕ) → slice_get st i ≡ top (drop i st)
top-drop [] zero = refl
top-drop [] (suc i) = refl
top-drop (x ∷ st) zero = refl
top-drop (x ∷ st) (suc i) = top-drop st i

-- the item so many places below the top of the items in front
pub item_under : {T : Type 0} (items : List T) (n under : ℕ) → under < n → n ≤ length items → (d : T) → top (drop under (reverse (take n items))) ≡ Some (get_or items (n - under - 1) d)
item_under {T} items n under h within d = grind (arith, top-drop (reverse (take n items)) under, slice_get-get_or (reverse (take n items)) under d, get_or-reverse (take n items) under d, get_or-take n items (n - under - 1) d, length-take {A = T}, length-reverse {A = T})

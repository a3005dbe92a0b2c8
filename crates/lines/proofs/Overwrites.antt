-- Laws of writing items over the entries of a slice.
use Rattle.std.proofs.Common.{◌≡◌, ℕ, ◌+◌, ◌-◌, ◌^◌, ◌<◌, ◌≤◌, List, [], ◌∷◌, ◌++◌, length, get_or, take, drop, set, min, refl, arith}
use borrow.Rule.Slice.PartMut.{put_mid}
use Rattle.std.proofs.lemmas.List.{at_drop_more, at_drop_all, length-set, length-append, take-append-drop, set_past, drop-drop, drop-set-lt, take_more_set, append_assoc, length-take}
use Rattle.std.proofs.lemmas.Grind.{common_steps}
use Rattle.lines.specs.Overwrites.{overwrite, Wrote}
use Rattle.lines.specs.declared.writer.Writer.{Writer}

module _ {T : Type 0} where
  pub overwrite-append : (t : List T) (at : ℕ) (xs ys : List T) → overwrite t at (xs ++ ys) ≡ overwrite (overwrite t at xs) (at + length xs) ys
  unfolding overwrite
  overwrite-append t at [] ys = grind arith
  overwrite-append t at (x ∷ xs) ys = grind (arith, overwrite-append (set t at x) (at + 1) xs ys)

  -- nothing is written past the last entry
  pub overwrite_beyond : (t : List T) (at : ℕ) (xs : List T) → length t ≤ at → overwrite t at xs ≡ t
  unfolding overwrite
  overwrite_beyond t at [] h = refl
  overwrite_beyond t at (x ∷ xs) h = grind (arith, set_past, overwrite_beyond t (at + 1) xs)

  pub length-overwrite : (t : List T) (at : ℕ) (xs : List T) → length (overwrite t at xs) ≡ length t
  unfolding overwrite
  length-overwrite t at [] = refl
  length-overwrite t at (x ∷ xs) = grind (arith, length-set {A = T}, length-overwrite (set t at x) (at + 1) xs)

  -- items that fit replace as many entries from `at` on
  overwrite-fits : (t : List T) (at : ℕ) (xs : List T) → at + length xs ≤ length t → overwrite t at xs ≡ take at t ++ (xs ++ drop (at + length xs) t)
  unfolding overwrite
  overwrite-fits t at [] h = grind (arith, take-append-drop {A = T})
  overwrite-fits t at (x ∷ xs) h = grind (arith, take_more_set {X = T}, append_assoc, length-set {A = T}, drop-set-lt {A = T}, overwrite-fits (set t at x) (at + 1) xs)

  pub overwrite-front : (t xs : List T) → length xs ≤ length t → overwrite t 0 xs ≡ xs ++ drop (length xs) t
  overwrite-front t xs h = grind (arith, overwrite-fits t 0 xs)

  -- only the items that fit are written
  overwrite-cut : (t : List T) (at : ℕ) (xs : List T) (n : ℕ) → n ≡ min (length xs) (length t - at) → overwrite t at xs ≡ overwrite t at (take n xs)
  overwrite-cut t at xs n h = grind (arith, common_steps, take-append-drop {A = T}, overwrite-append t at (take n xs) (drop n xs), length-overwrite t at (take n xs), overwrite_beyond)

  -- the entries are replaced from `at` on, or nowhere where none is left, by as many items as there are entries
  pub overwrite_part : (t : List T) (at : ℕ) (xs : List T) → let s = min at (length t) in let n = min (length xs) (length t - s) in overwrite t at xs ≡ put_mid s n t (take n xs)
  overwrite_part t at xs = let s = min at (length t) in let n = min (length xs) (length t - s) in
      grind (arith, overwrite-cut t at xs n, overwrite-fits t at (take n xs), overwrite_beyond, length-take {A = T}, drop-drop n s t, take-append-drop {A = T})

  -- the step of a loop that writes the items one by one
  pub overwrite_more : (t : List T) (at : ℕ) (xs : List T) (i : ℕ) (d : T) → i < length xs → overwrite t at (drop i xs) ≡ overwrite (set t at (get_or xs i d)) (at + 1) (drop (i + 1) xs)
  unfolding overwrite
  overwrite_more t at xs i d h = at_drop_more (overwrite t at) xs i d h

  pub overwrite_all : (t : List T) (at : ℕ) (xs : List T) (i : ℕ) → length xs ≤ i → overwrite t at (drop i xs) ≡ t
  unfolding overwrite
  overwrite_all t at xs i h = at_drop_all (overwrite t at) xs i h

  -- no items
  pub wrote_none : (w : Writer T) → w.count < 2 ^ 64 → Wrote w [] w
  unfolding overwrite
  wrote_none w h = record { same = refl; entries = refl; counted = omega arith }

  -- two writes write the items of both, under the name that is asked for
  pub wrote_then : {u v w : Writer T} {xs ys zs : List T} → length u.slice.now < 2 ^ 64 → Wrote u xs v → Wrote v ys w → xs ++ ys ≡ zs → Wrote u zs w
  wrote_then {u} {v} {w} {xs} {ys} {zs} h p q e = grind (arith, length-append, length-overwrite, overwrite-append, overwrite_beyond)

-- What a slice holds after items were written over its entries.
use Rattle.std.specs.Prelude.{◌≡◌, ℕ, ◌+◌, ◌-◌, ◌^◌, min, List, [], ◌∷◌, length, slice_set}
use Rattle.lines.specs.declared.writer.Writer.{Writer}

-- The entries from `at` on replaced by the items, as far as there are entries.
unfoldable pub overwrite : {T : Type 0} → List T → ℕ → List T → List T
overwrite table at [] = table
overwrite table at (x ∷ xs) = overwrite (slice_set table at x) (at + 1) xs

-- A writer before and after it wrote items: it lends the same slice, which holds the items behind those written before, and counts them too, up to the largest number there is.
pub record Wrote {T : Type 0} (before : Writer T) (items : List T) (after : Writer T) : Type 0 where
  pub same : after.slice.ghost_name ≡ before.slice.ghost_name
  pub entries : after.slice.now ≡ overwrite before.slice.now before.count items
  pub counted : after.count ≡ min (before.count + length items) (2 ^ 64 - 1)

-- A product may be cut off before it is taken or after.
use Rattle.std.proofs.Common.{◌≡◌, ℕ, zero, suc, ◌*◌, ◌≤◌, mul-le-mul_left, arith}
use Rattle.nesting.specs.Capped.{capped}

pub cap_times : (n a : ℕ) → capped (n * capped a) ≡ capped (n * a)
cap_times zero a = omega arith
cap_times (suc n) a = let m = λ (h : 65536 ≤ a). mul-le-mul_left n h in grind arith

use Rattle.std.proofs.Common.{◌≡◌, ℕ, ◌<◌, ◌^◌, List, ◌++◌, length, subst, arith}
use Rattle.std.proofs.lemmas.Fmt.{decimal_digit, decimal_step}
use Rattle.lines.specs.Overwrites.{Wrote}
use Rattle.lines.specs.declared.writer.Writer.{Writer}
use Rattle.lines.proofs.Overwrites.{wrote_then}
use Rattle.listing.proofs.number.+write_number.Goals as goal
use Rattle.listing.proofs.number.+write_number.Goals.{then-n-ge10, else-n-ge10}

-- the writer that writes on is the one that wrote before
wrote_on : {u v w x : Writer ℕ} {xs ys zs : List ℕ} → length u.slice.now < 2 ^ 64 → Wrote u xs w → v ≡ w → Wrote v ys x → xs ++ ys ≡ zs → Wrote u zs x
wrote_on {x = x} {ys = ys} h before e after all = wrote_then h before (subst (λ out. Wrote out ys x) e after) all

-- the same where nothing was written before
wrote_first : {u v x : Writer ℕ} {ys zs : List ℕ} → v ≡ u → Wrote v ys x → ys ≡ zs → Wrote u zs x
wrote_first {u = u} {x = x} {ys = ys} e after all = subst (λ (items : List ℕ). Wrote u items x) all (subst (λ out. Wrote out ys x) e after)

pub returns : goal.returns
returns t c = elim c.if-n-ge10.branch [
  | then-n-ge10 w ↦ wrote_on (omega arith) w.write_number.ensures w.out-is c.write.ensures (grind (arith, decimal_step c.args.n))
  | else-n-ge10 w ↦ wrote_first w.out-is c.write.ensures (grind (arith, decimal_digit c.args.n))
]

-- The turns of a pass.
use Rattle.std.proofs.Common.{◌≡◌, ℕ, ◌+◌, ◌<◌, List, length, get_or, drop, Some, None, Ok, Err, Option, Result, arith}
use Rattle.std.proofs.lemmas.List.{at_drop_more, at_drop_all}
use Rattle.lines.specs.declared.line.Line.{Line}
use Rattle.nesting.specs.Passes.{passed}

-- the fault, or else the answer
abbrev pub refused : {A F : Type 0} → Option F → Result A F → Result A F
refused None r = r
refused (Some f) r = Err f

module _ {S A F : Type 0} (step : ℕ → S → Line → Result S F) (ending : ℕ → S → Result A F) where
  module _ (at : ℕ) (s : S) (xs : List Line) (d : Line) (h : at < length xs) where
    pub pass_on : (next : S) → step at s (get_or xs at d) ≡ Ok next → passed step ending at s (drop at xs) ≡ passed step ending (at + 1) next (drop (at + 1) xs)
    unfolding passed
    pass_on next e = grind (arith, at_drop_more (passed step ending at s) xs at d h)

    pub pass_fault : (f : F) → step at s (get_or xs at d) ≡ Err f → passed step ending at s (drop at xs) ≡ Err f
    unfolding passed
    pass_fault f e = grind (arith, at_drop_more (passed step ending at s) xs at d h)

  pub pass_end : (s : S) (xs : List Line) (at : ℕ) → at ≡ length xs → passed step ending at s (drop at xs) ≡ ending (length xs) s
  unfolding passed
  pass_end s xs at h = grind (arith, at_drop_all (passed step ending at s) xs at)

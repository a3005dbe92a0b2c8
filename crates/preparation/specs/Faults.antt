-- The stages, numbers, places and sentences of the faults of preparing a rule.
use Rattle.std.specs.Prelude.{ℕ, List, ◌++◌, codes, decimal}
use Rattle.rules.specs.Faults.{fault_number, fault_place, check_sentence}
use Rattle.balance.specs.Faults.{balance_number, balance_place, balance_sentence}
use Rattle.text.specs.Faults.{read_number, read_place, read_sentence}
use Rattle.preparation.specs.declared.fault.Stage.{Stage}
use Rattle.preparation.specs.declared.fault.Stage.TheVariants as stage
use Rattle.preparation.specs.declared.fault.PrepareFault.{PrepareFault}
use Rattle.preparation.specs.declared.fault.PrepareFault.TheVariants as fault

-- What a stage is called.
abbrev pub stage_name : Stage → List ℕ
stage_name stage.Read = codes "read"
stage_name stage.Check = codes "check"
stage_name stage.Balance = codes "balance"

-- The stage that refused.
abbrev pub prepare_stage : PrepareFault → Stage
prepare_stage (fault.Read f) = stage.Read
prepare_stage (fault.Check f) = stage.Check
prepare_stage (fault.Balance f) = stage.Balance

-- The number of that stage's fault.
abbrev pub prepare_number : PrepareFault → ℕ
prepare_number (fault.Read f) = read_number f
prepare_number (fault.Check f) = fault_number f
prepare_number (fault.Balance f) = balance_number f

-- The place of that stage's fault.
abbrev pub prepare_place : PrepareFault → ℕ
prepare_place (fault.Read f) = read_place f
prepare_place (fault.Check f) = fault_place f
prepare_place (fault.Balance f) = balance_place f

-- What that stage's fault says is wrong, in a sentence.
abbrev pub sentence : PrepareFault → List ℕ
sentence (fault.Read f) = read_sentence f
sentence (fault.Check f) = check_sentence f
sentence (fault.Balance f) = balance_sentence f

-- The line that reports a refusal at a stage of that name: `refused`, the name, the number and the place.
abbrev pub refused_text : List ℕ → ℕ → ℕ → List ℕ
refused_text stage number place = codes "refused " ++ (stage ++ (codes " " ++ (decimal number ++ (codes " " ++ decimal place))))

-- The line that reports a fault of preparing.
abbrev pub refusal_line : PrepareFault → List ℕ
refusal_line f = refused_text (stage_name (prepare_stage f)) (prepare_number f) (prepare_place f)

-- Laws of refusals.
use Rattle.std.specs.Prelude.{ℕ}
use Rattle.equal_evidence.specs.Shown.{IsShown}
use Rattle.equal_evidence.specs.declared.evidence.Evidence.{Evidence}
use Rattle.gate_net.specs.Net.{Net}
use Rattle.rm_base.specs.declared.numbers.Fault.{Fault}
use Rattle.proof_check.specs.Flaws.{IsFlaw}
use Rattle.proof_check.specs.declared.refusal.JudgeRefusal.{JudgeRefusal}

-- evidence with a flaw shows nothing
abbrev pub FlawsHide : Type 0
FlawsHide = (net : Net) (fault : Fault) (budget : ℕ) (e : Evidence) (r : JudgeRefusal) → IsFlaw net fault budget e r → IsShown net fault budget e → ⊥

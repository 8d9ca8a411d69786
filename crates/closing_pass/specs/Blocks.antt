-- Kept vectors as blocks of words, 64 vectors to a block.
use Rattle.std.specs.Prelude.{◌≡◌, ◌<◌, ℕ, Bool, List, Some, slice_get}
use Rattle.fault_sim.specs.Words.{assignment}
use Rattle.gate_net.specs.Faults.{assigned}
use Rattle.podem.specs.declared.verdict.Verdict.{Verdict}
use Rattle.podem.specs.declared.verdict.Verdict.TheVariants.{Detected}
use Rattle.rm_base.specs.declared.numbers.Fault.{Fault}

-- one of the 64 lanes of a block says what the vector says
abbrev pub HaveVector : List (List ℕ) → List Bool → Type 0
HaveVector blocks vector = (k i : ℕ) × ((i < 64) × ((words : List ℕ) × ((slice_get blocks k ≡ Some words) × ((x : ℕ) → assignment words i x ≡ assigned vector x))))

-- the blocks have each vector of a verdict
abbrev pub HaveVectors : List (List ℕ) → List (Fault × Verdict) → Type 0
HaveVectors blocks verdicts = (j : ℕ) (fault : Fault) (vector : List Bool) → slice_get verdicts j ≡ Some (fault, Detected vector) → HaveVector blocks vector

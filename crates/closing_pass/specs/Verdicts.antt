-- Verdicts of faults on a net.
use Rattle.std.specs.Prelude.{◌≡◌, ◌≤◌, ◌+◌, ◌^◌, ℕ, List, Some, slice_get}
use Rattle.std.specs.List.{AllZip}
use Rattle.gate_net.specs.Net.{Net, source_count}
use Rattle.gate_net.specs.Values.{HasPin}
use Rattle.podem.specs.Verdicts.{IsDecided, IsVerdict}
use Rattle.podem.specs.declared.verdict.Verdict.{Verdict}
use Rattle.rm_base.specs.declared.numbers.Fault.{Fault}

-- the verdict comes with its evidence, and the search came to an end where the budget suffices for every search
pub record IsAnswer (net : Net) (budget : ℕ) (fault : Fault) (verdict : Verdict) : Type 0 where
  pub holds : IsVerdict net fault budget verdict
  pub decided : 2 ^ (source_count net + 1) ≤ budget → IsDecided verdict

-- each fault is of a pin of the net
abbrev pub HavePins : Net → List Fault → Type 0
HavePins net faults = (k : ℕ) (fault : Fault) → slice_get faults k ≡ Some fault → HasPin net fault

-- one verdict for each fault, in order
abbrev pub AreVerdicts : Net → ℕ → List Fault → List Verdict → Type 0
AreVerdicts net budget faults verdicts = AllZip (IsAnswer net budget) faults verdicts

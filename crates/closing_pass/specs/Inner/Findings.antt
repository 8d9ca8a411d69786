-- What a pass through the faults of a net has found so far.
use Rattle.std.specs.Prelude.{◌≡◌, ◌≢◌, ◌≤◌, ◌<◌, ◌+◌, ◌^◌, ℕ, Bool, List, Some, length, slice_get}
use Rattle.fault_sim.specs.Words.{assignment}
use Rattle.gate_net.specs.Faults.{IsTest, assigned}
use Rattle.gate_net.specs.Net.{Net, source_count}
use Rattle.gate_net.specs.Values.{Detects, HasPin}
use Rattle.podem.specs.Verdicts.{IsSpent}
use Rattle.podem.specs.declared.verdict.Verdict.{Verdict}
use Rattle.podem.specs.declared.verdict.Verdict.TheVariants as verdict
use Rattle.refutation.specs.Branches.{AreAccepted}
use Rattle.refutation.specs.declared.items.Item.{Item}
use Rattle.rm_base.specs.declared.numbers.Fault.{Fault}
use Rattle.closing_pass.specs.declared.finding.Finding.{Finding}
use Rattle.closing_pass.specs.declared.finding.Finding.TheVariants.{Detected, Open, Spent}
use Rattle.closing_pass.specs.declared.choosing.Chosen.{Chosen}

-- each vector has so many values
abbrev pub AreLong : List (List Bool) → ℕ → Type 0
AreLong vectors count = (k : ℕ) (v : List Bool) → slice_get vectors k ≡ Some v → length v ≡ count

-- lane i of the words says what vector i says
abbrev pub ArePacked : List (List Bool) → List ℕ → Type 0
ArePacked vectors words = (i : ℕ) (v : List Bool) → slice_get vectors i ≡ Some v → (x : ℕ) → assignment words i x ≡ assigned v x

-- no vector detects the fault yet
abbrev pub IsSought : Finding → Type 0
IsSought (Detected number) = ⊥
IsSought _ = Unit {0}

-- what was found of the fault holds: the vector of that number detects it, or a search spent its budget
abbrev pub Holds : Net → ℕ → List (List Bool) → Fault → Finding → Type 0
Holds net budget kept fault Open = Unit {0}
Holds net budget kept fault (Detected number) = (v : List Bool) × ((slice_get kept number ≡ Some v) × IsTest net fault v)
Holds net budget kept fault (Spent tree) = IsSpent net fault budget tree × (2 ^ (source_count net + 1) ≤ budget → ⊥)

-- one finding for each fault, and each holds
pub record AreFound (net : Net) (budget : ℕ) (kept : List (List Bool)) (faults : List Fault) (found : List Finding) : Type 0 where
  pub size : length found ≡ length faults
  pub hold : (j : ℕ) (fault : Fault) (finding : Finding) → slice_get faults j ≡ Some fault → slice_get found j ≡ Some finding → Holds net budget kept fault finding

-- none of the first vectors detects a fault that is still sought
abbrev pub AreTried : Net → List (List Bool) → ℕ → List Fault → List Finding → Type 0
AreTried net kept tried faults found =
    (j : ℕ) (fault : Fault) (finding : Finding) → slice_get faults j ≡ Some fault → slice_get found j ≡ Some finding → IsSought finding
    → (k : ℕ) (v : List Bool) → k < tried → slice_get kept k ≡ Some v → Detects net fault (assigned v) → ⊥

-- a finding for each of the first faults
abbrev pub AreClosedBefore : ℕ → List Finding → Type 0
AreClosedBefore next found = (j : ℕ) → j < next → slice_get found j ≢ Some Open

-- how far a pass has come
pub record HasCome (net : Net) (budget : ℕ) (kept : List (List Bool)) (tried : ℕ) (faults : List Fault) (found : List Finding) (next : ℕ) : Type 0 where
  pub long : AreLong kept (source_count net)
  pub findings : AreFound net budget kept faults found
  pub trials : AreTried net kept tried faults found
  pub closed : AreClosedBefore next found
  pub within : next ≤ length faults

-- at most 64 places of open faults, with their faults, and among them every open one from one place up to the next
pub record AreChosen (faults : List Fault) (found : List Finding) (from : ℕ) (c : Chosen) : Type 0 where
  pub same : length c.faults.items ≡ length c.places.items
  pub few : length c.places.items ≤ 64
  pub each : (i place : ℕ) → slice_get c.places.items i ≡ Some place → slice_get c.faults.items i ≡ slice_get faults place
  pub opens : (i place : ℕ) → slice_get c.places.items i ≡ Some place → slice_get found place ≡ Some Open
  pub all : (j : ℕ) → from ≤ j → j < c.next → slice_get found j ≡ Some Open → (i : ℕ) × (slice_get c.places.items i ≡ Some j)
  pub first : from ≤ c.next
  pub bound : c.next ≤ length faults

-- no assignment detects the fault of the pin: the tree is accepted
pub record IsRefuted (net : Net) (refuted : Fault × List Item) : Type 0 where
  pub pin : HasPin net refuted.0
  pub tree : AreAccepted net refuted.0 refuted.1

-- there is a finding, and its vector is one of so many
abbrev pub IsNumbered : ℕ → Finding → Type 0
IsNumbered count Open = ⊥
IsNumbered count (Detected number) = number < count
IsNumbered count (Spent tree) = Unit {0}

-- the verdict has the vector of that number, or the tree
abbrev pub IsVerdictOf : List (List Bool) → Finding → Verdict → Type 0
IsVerdictOf kept (Detected number) (verdict.Detected vector) = slice_get kept number ≡ Some vector
IsVerdictOf kept (Spent tree) (verdict.Spent items) = items ≡ tree
IsVerdictOf kept _ _ = ⊥

-- each fault has the verdict of its finding
pub record AreVerdictsOf (kept : List (List Bool)) (faults : List Fault) (found : List Finding) (verdicts : List (Fault × Verdict)) : Type 0 where
  pub size : length verdicts ≡ length found
  pub faults_are : (j : ℕ) (entry : Fault × Verdict) → slice_get verdicts j ≡ Some entry → slice_get faults j ≡ Some entry.0
  pub verdicts_are : (j : ℕ) (entry : Fault × Verdict) → slice_get verdicts j ≡ Some entry → (finding : Finding) × ((slice_get found j ≡ Some finding) × IsVerdictOf kept finding entry.1)

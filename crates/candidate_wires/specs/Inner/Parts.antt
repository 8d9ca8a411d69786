-- Parts of the list of candidates.
use Rattle.std.specs.Prelude.{Bool, IsTrue, List, None, Option, Some, length, slice_get, true, ℕ, ◌++◌, ◌<◌, ◌≡◌, ◌≤◌, ◌↔◌}
use Rattle.gate_graph.specs.Search.{IsSeen}
use Rattle.gate_net.specs.Net.{IsKind, Net, Reads}
use Rattle.gate_net.specs.Values.{IsJunction}
use Rattle.gate_net.specs.declared.Kind.{Kind}
use Rattle.refutation.specs.Branches.{IsNoConstant}
use Rattle.refutation.specs.Facts.{Held, known_equal, known_good}
use Rattle.refutation.specs.Reaching.{MarksReached}
use Rattle.refutation.specs.declared.reasoning.Fact.{Fact}
use Rattle.refutation.specs.declared.reasoning.Fact.TheVariants.{Good}
use Rattle.rm_base.specs.declared.numbers.Fault.{Fault}
use Rattle.rm_base.specs.declared.numbers.NodeId.{NodeId}
use Rattle.candidate_wires.specs.Candidates.{AreAmong, AreCandidates}
use Rattle.candidate_wires.specs.Joining.{HasNoNot}
use Rattle.refutation.specs.FactLists.{IsAmong}
use Rattle.candidate_wires.specs.declared.candidate.Candidate.{Candidate}
use Rattle.candidate_wires.specs.declared.known.Known.{Known}

-- the node is a source or a gate that is known to be equal, and its good value is known
pub record IsUsable (net : Net) (held : Held) (x : ℕ) (value : Bool) : Type 0 where
  pub kind : Kind
  pub is_kind : IsKind net x kind
  pub no_constant : IsNoConstant kind
  pub equal : known_equal held x ≡ Some true
  pub known : known_good held x ≡ Some value

-- what a look at a node tells: that it isn't usable, or its value and whether it may have a fresh Not
abbrev pub IsKnown : Net → Held → Known → Type 0
IsKnown net held k = IsUsable net held k.node.0 k.value × (IsTrue k.has_no_not ↔ HasNoNot net k.node.0)

abbrev pub IsLook : Net → Held → ℕ → Option Known → Type 0
IsLook net held x None = (value : Bool) → IsUsable net held x value → ⊥
IsLook net held x (Some k) = (k.node.0 ≡ x) × IsKnown net held k

-- the usable nodes below the number, in ascending order
pub record AreKnown (net : Net) (held : Held) (n : ℕ) (ks : List Known) : Type 0 where
  pub each : (m : ℕ) (k : Known) → slice_get ks m ≡ Some k → (k.node.0 < n) × IsKnown net held k
  pub all : (x : ℕ) (value : Bool) → x < n → IsUsable net held x value → (m : ℕ) × ((k : Known) × ((slice_get ks m ≡ Some k) × (k.node.0 ≡ x)))
  pub sorted : (l m : ℕ) (k j : Known) → l < m → slice_get ks l ≡ Some k → slice_get ks m ≡ Some j → k.node.0 < j.node.0

-- the numbers don't fall
abbrev pub IsAscending : List ℕ → Type 0
IsAscending numbers = (j k x y : ℕ) → j ≤ k → slice_get numbers j ≡ Some x → slice_get numbers k ≡ Some y → x ≤ y

-- the number is in the list
abbrev pub IsInList : List ℕ → ℕ → Type 0
IsInList numbers x = (k : ℕ) × (slice_get numbers k ≡ Some x)

-- each usable node is in the list
abbrev pub HasUsable : Net → Held → List ℕ → Type 0
HasUsable net held numbers = (x : ℕ) (value : Bool) → IsUsable net held x value → IsInList numbers x

-- no node from the one number up to the other is usable
abbrev pub HasNoneFrom : Net → Held → ℕ → ℕ → Type 0
HasNoneFrom net held from to = (x : ℕ) (value : Bool) → from ≤ x → x < to → IsUsable net held x value → ⊥

-- the usable nodes below the one number become those below the other, if none was left out before this number
abbrev pub KeepsKnown : Net → Held → ℕ → ℕ → List Known → ℕ → List Known → Type 0
KeepsKnown net held number from ks to js = AreKnown net held from ks → (number < length net.nodes → HasNoneFrom net held from number) → AreKnown net held to js

-- the nodes of the good values among facts are in the list
abbrev pub HasGoods : List (NodeId × Fact) → List ℕ → Type 0
HasGoods facts numbers = (x : ℕ) (value : Bool) → IsAmong facts x (Good value) → IsInList numbers x

-- exactly the drivers of the gate are marked
abbrev pub MarksDrivers : Net → ℕ → List Bool → Type 0
MarksDrivers net y driving = (x : ℕ) → IsSeen driving x ↔ ((p : ℕ) × Reads net y p x)

-- the candidates at gate y are added, whatever facts make these the usable nodes
pub record AddsAt (net : Net) (y : ℕ) (sources : List Known) (old new : List Candidate) : Type 0 where
  pub more : List Candidate
  pub added : new ≡ old ++ more
  pub among : (held : Held) → AreKnown net held (length net.nodes) sources → AreAmong net held y (length net.nodes) more

-- and so in any net in which the gate has that controlling value and these marks
pub record AddsChoices (y : ℕ) (control : Bool) (reached driving : List Bool) (sources : List Known) (old new : List Candidate) : Type 0 where
  pub more : List Candidate
  pub added : new ≡ old ++ more
  pub among : (net : Net) (held : Held)
      → IsJunction net y control → MarksReached net y reached → MarksDrivers net y driving → AreKnown net held (length net.nodes) sources → AreAmong net held y (length net.nodes) more

-- the candidates of whatever facts hold, where these are the sources that are known
abbrev pub AreFoundAmong : Net → Fault → List Known → List Candidate → Type 0
AreFoundAmong net fault sources cs = (held : Held) → AreKnown net held (length net.nodes) sources → AreCandidates net fault held cs

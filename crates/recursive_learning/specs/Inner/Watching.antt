-- The watch: which gates are listed to be examined, and on which places what is known of a gate rests.
use Rattle.std.specs.Prelude.{Bool, List, [], false, length, map, replicate, slice_get, Some, true, ℕ, ◌<◌, ◌≡◌, ◌⊎◌, suc, ◌*◌, ◌+◌}
use Rattle.gate_graph.specs.Search.{IsSeen}
use Rattle.gate_net.specs.Net.{IsLive, Net, Reads}
use Rattle.refutation.specs.Worklists.{seen_count}
use Rattle.implications.specs.Settled.{AgreeAt}
use Rattle.recursive_learning.specs.Inner.Gates.{HasTaught}
use Rattle.recursive_learning.specs.Least.{IsLeastAt}
use Rattle.recursive_learning.specs.Inner.JustifiedValues.{AreCommon}
use Rattle.recursive_learning.specs.Resting.{IsLonger, IsWatched}
use Rattle.recursive_learning.specs.Inner.Working.{AreSettled}
use Rattle.recursive_learning.specs.declared.justified_values.Common.{Common}
use Rattle.recursive_learning.specs.declared.resting.Rest.{Rest}
use Rattle.recursive_learning.specs.declared.watch.Watch.{Watch}
use Rattle.refutation.specs.Closing.{IsWithin}
use Rattle.refutation.specs.FactSets.{missing}
use Rattle.refutation.specs.Facts.{Held, known_good, with_fact}
use Rattle.refutation.specs.Learning.{LeadsToClash}
use Rattle.refutation.specs.declared.held.NodeFacts.{NodeFacts}
use Rattle.refutation.specs.declared.reasoning.Fact.{Fact}
use Rattle.refutation.specs.declared.reasoning.Fact.TheVariants.{Good}
use Rattle.rm_base.specs.declared.numbers.Fault.{Fault}
use Rattle.rm_base.specs.declared.numbers.NodeId.{NodeId}
use Rattle.recursive_learning.specs.Watching.{IsListedAt}

-- two sets that agree at a node and at its drivers
pub record AgreeAround (net : Net) (held other : Held) (y : ℕ) : Type 0 where
  pub here : AgreeAt held other y
  pub drivers : (p d : ℕ) → Reads net y p d → AgreeAt held other d

-- the gate has nothing to teach, and won't have while the facts around it and around the places on which that rests stay
abbrev pub StaysTaught : Net → Fault → Held → List Rest → ℕ → Type 0
StaysTaught net fault held entries y =
    (more : Held) → IsWithin held more → AreSettled net fault more → AgreeAround net held more y
    → ((z : ℕ) → IsWatched entries z y → AgreeAround net held more z) → HasTaught net fault 0 more y

-- the gate is listed, or has nothing to teach
abbrev pub IsKnown : Net → Fault → Held → Watch → ℕ → Type 0
IsKnown net fault held w y = IsSeen w.listed y ⊎ StaysTaught net fault held w.rests.entries y

-- what is known of a gate stays known
abbrev pub StaysKnown : Net → Fault → Held → Watch → Held → Watch → Type 0
StaysKnown net fault held w more w' = (y : ℕ) → IsKnown net fault held w y → IsKnown net fault more w' y

-- nothing is known; or each gate is listed or has nothing to teach
abbrev pub IsWatching : Net → Fault → Held → Watch → Type 0
IsWatching net fault held w = (w.all ≡ true) ⊎ ((y : ℕ) → IsKnown net fault held w y)

-- each gate whose good value is known is listed
abbrev pub ListsGoods : Net → Held → List Bool → Type 0
ListsGoods net held listed = (y : ℕ) (b : Bool) → y < length net.nodes → known_good held y ≡ Some b → IsSeen listed y

-- no gate is listed
abbrev pub HasNoneListed : Watch → Type 0
HasNoneListed w = w.listed ≡ replicate (length w.listed) false

-- nothing is known, and no gate is listed
pub record IsBlank (w : Watch) : Type 0 where
  pub all : w.all ≡ true
  pub none : HasNoneListed w

-- more is known to rest on places
pub record Lengthens (old new : Watch) : Type 0 where
  pub size : length new.listed ≡ length old.listed
  pub numbers : new.rests.numbers ≡ old.rests.numbers
  pub longer : IsLonger old.rests.entries new.rests.entries
  pub first : new.first ≡ old.first

-- the place is the node or one of its readers
abbrev pub IsAround : Net → ℕ → ℕ → Type 0
IsAround net x z = (z ≡ x) ⊎ ((p : ℕ) × Reads net z p x)

-- so are the places around each added fact
abbrev pub ListsChanged : Net → List (NodeId × Fact) → Watch → Type 0
ListsChanged net added w =
    (k : ℕ) (a : NodeId × Fact) → slice_get added k ≡ Some a → IsLive net a.0.0 → (z : ℕ) → IsAround net a.0.0 z → IsListedAt w z

-- what is known of the gate rests on the places around each added fact
abbrev pub RestsOn : Net → List (NodeId × Fact) → List Rest → ℕ → Type 0
RestsOn net added entries y =
    (k : ℕ) (a : NodeId × Fact) → slice_get added k ≡ Some a → IsLive net a.0.0 → (z : ℕ) → IsAround net a.0.0 z → IsWatched entries z y

-- where the gate doesn't rest on a place, the sets agree around it
abbrev pub Covers : Net → Held → Held → List Rest → ℕ → Type 0
Covers net held now entries y = (z : ℕ) → IsWatched entries z y ⊎ AgreeAround net held now z

-- the gate rests on all that the driver leads to, where it doesn't clash
abbrev pub IsCovered : Net → Fault → Held → Bool → ℕ → List Rest → ℕ → Type 0
IsCovered net fault held c d entries y =
    (LeadsToClash net fault 0 (with_fact held d (Good c)) → ⊥)
    → (now : Held) × (IsLeastAt net fault 0 (with_fact held d (Good c)) now × (IsWithin held now × Covers net held now entries y))

-- the first drivers have nothing new in common, and the gate rests on what they lead to
pub record HasRegion (net : Net) (fault : Fault) (held : Held) (c : Bool) (ds : List ℕ) (entries : List Rest) (y : ℕ) : Type 0 where
  pub count : ℕ
  pub common : AreCommon net fault 0 held c ds count true []
  pub covered : (k d : ℕ) → k < count → slice_get ds k ≡ Some d → IsCovered net fault held c d entries y

-- where a gate of unknown drivers implies nothing at depth 0, and something is known of the others, its region is noted
abbrev pub NotesRegion : Net → Fault → Held → Bool → List NodeId → ℕ → Common → Bool → List Rest → ℕ → Type 0
NotesRegion net fault held c drivers depth met all entries y =
    met.found ≡ true → met.goods.items ≡ [] → depth ≡ 0 → all ≡ false → HasRegion net fault held c (map (λ (n : NodeId). n.0) drivers) entries y

-- how many looks at gates are left at most
abbrev pub looks_left : List NodeFacts → List Bool → ℕ
looks_left facts listed = missing facts * suc (length listed) + seen_count listed

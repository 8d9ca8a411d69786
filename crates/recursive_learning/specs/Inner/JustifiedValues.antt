-- What was learned from a gate.
use Rattle.std.specs.Prelude.{Bool, IsTrue, List, None, Option, Some, [], false, length, map, slice_get, suc, true, ℕ, ◌+◌, ◌<◌, ◌≡◌, ◌⊎◌}
use Rattle.gate_net.specs.Net.{IsLive, Net}
use Rattle.recursive_learning.specs.Inner.Common.{IsAmongGoods}
use Rattle.recursive_learning.specs.Gates.{AllClash, AllLead}
use Rattle.recursive_learning.specs.Inner.Gates.{AreJustifications, HasTaught}
use Rattle.recursive_learning.specs.Least.{AreForced}
use Rattle.recursive_learning.specs.Inner.Working.{AreSettled}
use Rattle.recursive_learning.specs.declared.justified_values.Common.{Common}
use Rattle.recursive_learning.specs.declared.justified_values.GoodValue.{GoodValue}
use Rattle.recursive_learning.specs.declared.justified_values.JustifiedValues.{JustifiedValues}
use Rattle.recursive_learning.specs.declared.justified_values.Round.{Round}
use Rattle.recursive_learning.specs.declared.justified_values.Round.TheVariants.{Clash, Gained, Quiet}
use Rattle.refutation.specs.Closing.{IsClashFree, IsClosedUnderLines, IsWithin}
use Rattle.refutation.specs.FactSets.{held_by, missing}
use Rattle.refutation.specs.Facts.{Held, known_good, with_fact}
use Rattle.refutation.specs.Learning.{AllHold, IsClosedAt, IsUnjustified, LeadsToClash}
use Rattle.refutation.specs.declared.held.NodeFacts.{NodeFacts}
use Rattle.refutation.specs.declared.reasoning.Fact.TheVariants.{Good}
use Rattle.rm_base.specs.declared.numbers.Fault.{Fault}
use Rattle.rm_base.specs.declared.numbers.NodeId.{NodeId}

-- the value is new, and may be held
pub record IsNew (net : Net) (held : Held) (g : GoodValue) : Type 0 where
  pub live : IsLive net g.node.0
  pub unknown : known_good held g.node.0 ≡ None

-- each value is new
abbrev pub AreNew : Net → Held → List GoodValue → Type 0
AreNew net held goods = (k : ℕ) (g : GoodValue) → slice_get goods k ≡ Some g → IsNew net held g

abbrev pub HoldsAll : Held → List GoodValue → Type 0
HoldsAll held goods = (k : ℕ) (g : GoodValue) → slice_get goods k ≡ Some g → IsTrue (held g.node.0 (Good g.value))

-- with these values: no closed set without a clash holds the facts and the values; or the facts now, which are more, are in each
abbrev pub IsGained : Net → Fault → List GoodValue → List NodeFacts → Bool → List NodeFacts → Type 0
IsGained net fault goods start true now =
    (s : Held) → IsWithin (held_by start) s → IsClashFree s → IsClosedUnderLines net fault s → HoldsAll s goods → ⊥
IsGained net fault goods start false now =
    AreSettled net fault (held_by now)
    × (((s : Held) → IsWithin (held_by start) s → IsClashFree s → IsClosedUnderLines net fault s → HoldsAll s goods → IsWithin (held_by now) s)
    × (missing now < missing start))

-- with the first n drivers taken to have the value, in turn: whether some didn't clash, and the new values that all of those led to
pub record AreCommon (net : Net) (fault : Fault) (depth : ℕ) (held : Held) (c : Bool) (ds : List ℕ) (n : ℕ) (found : Bool) (goods : List GoodValue) : Type 0 where
  pub clash : found ≡ false → (k d : ℕ) → k < n → slice_get ds k ≡ Some d → LeadsToClash net fault depth (with_fact held d (Good c))
  pub one : IsTrue found → (k : ℕ) × ((d : ℕ) × ((k < n) × ((slice_get ds k ≡ Some d) × (LeadsToClash net fault depth (with_fact held d (Good c)) → ⊥))))
  pub new : AreNew net held goods
  pub lead : (j : ℕ) (g : GoodValue) → slice_get goods j ≡ Some g
      → (k d : ℕ) → k < n → slice_get ds k ≡ Some d → AllHold (IsClosedAt net fault depth) (with_fact held d (Good c)) g.node.0 (Good g.value)
  pub all : IsTrue found → (x : ℕ) (b : Bool)
      → ((k d : ℕ) → k < n → slice_get ds k ≡ Some d → (LeadsToClash net fault depth (with_fact held d (Good c)) → ⊥) → AllHold (IsClosedAt net fault depth) (with_fact held d (Good c)) x (Good b))
      → IsTrue (held x (Good b)) ⊎ IsAmongGoods goods x b

-- what was in common before is so with driver d too, wherever it is the next one
abbrev pub MeetsOneMore : Net → Fault → ℕ → Held → Bool → ℕ → Common → Common → Type 0
MeetsOneMore net fault depth held c d before after =
    (ds : List ℕ) (n : ℕ) → slice_get ds n ≡ Some d → AreCommon net fault depth held c ds n before.found before.goods.items
    → AreCommon net fault depth held c ds (n + 1) after.found after.goods.items

-- some driver doesn't clash, and what all those that don't lead to is held already
pub record IsNothingNew (net : Net) (fault : Fault) (depth : ℕ) (held : Held) (c : Bool) (ds : List ℕ) : Type 0 where
  pub one : (k : ℕ) × ((d : ℕ) × ((slice_get ds k ≡ Some d) × (LeadsToClash net fault depth (with_fact held d (Good c)) → ⊥)))
  pub all : (x : ℕ) (b : Bool)
      → ((k d : ℕ) → slice_get ds k ≡ Some d → (LeadsToClash net fault depth (with_fact held d (Good c)) → ⊥) → AllHold (IsClosedAt net fault depth) (with_fact held d (Good c)) x (Good b))
      → IsTrue (held x (Good b))

-- new good values to which all drivers lead
pub record AreJustified (net : Net) (fault : Fault) (depth : ℕ) (held : Held) (c : Bool) (ds : List ℕ) (goods : List GoodValue) : Type 0 where
  pub new : AreNew net held goods
  pub lead : (j : ℕ) (g : GoodValue) → slice_get goods j ≡ Some g
      → (k d : ℕ) → slice_get ds k ≡ Some d → AllHold (IsClosedAt net fault depth) (with_fact held d (Good c)) g.node.0 (Good g.value)

-- all drivers clash; or nothing new, or what all lead to
abbrev pub AreFound : Net → Fault → ℕ → Held → Bool → List ℕ → Bool → List GoodValue → Type 0
AreFound net fault depth held c ds found goods =
    (found ≡ false → (k d : ℕ) → slice_get ds k ≡ Some d → LeadsToClash net fault depth (with_fact held d (Good c)))
    × ((IsTrue found → goods ≡ [] → IsNothingNew net fault depth held c ds)
    × (IsTrue found → AreJustified net fault depth held c ds goods))

-- what the gate implies: a clash, or new good values
pub record IsJustified (net : Net) (fault : Fault) (depth : ℕ) (held : Held) (y : ℕ) (c : Bool) (ds : List ℕ) (found : Bool) (goods : List GoodValue) : Type 0 where
  pub unjustified : IsUnjustified net held y c
  pub drivers : AreJustifications net held y ds
  pub clash : found ≡ false → AllClash net fault depth held y c
  pub new : found ≡ true → AreNew net held goods
  pub lead : found ≡ true → (k : ℕ) (g : GoodValue) → slice_get goods k ≡ Some g → AllLead net fault depth held y c g.node.0 g.value
  pub some : found ≡ true → 0 < length goods

-- what a look at the gate tells: nothing new, or common values
abbrev pub Teaches : Net → Fault → ℕ → Held → ℕ → Option JustifiedValues → Type 0
Teaches net fault depth held y None = HasTaught net fault depth held y
Teaches net fault depth held y (Some l) = IsJustified net fault depth held y l.value (map (λ (n : NodeId). n.0) l.drivers.items) l.found l.goods.items

-- each of the nodes is live, and its good value isn't known
abbrev pub AreOpen : Net → Held → List ℕ → Type 0
AreOpen net held ds = (k d : ℕ) → slice_get ds k ≡ Some d → IsLive net d × (known_good held d ≡ None)

abbrev pub IsOne : ℕ → ℕ → Type 0
IsOne x y = y ≡ x

-- whichever node it is
abbrev pub IsEach : ℕ → Type 0
IsEach y = y ≡ y

-- from the facts at the start: a clash one depth further; more facts that are forced; or the gates have nothing to teach
abbrev pub IsRound : Net → Fault → ℕ → (ℕ → Type 0) → List NodeFacts → Round → List NodeFacts → Type 0
IsRound net fault depth gates start Clash now = LeadsToClash net fault (suc depth) (held_by start)
IsRound net fault depth gates start Gained now =
    AreSettled net fault (held_by now) × (AreForced net fault (suc depth) (held_by start) (held_by now) × (missing now < missing start))
IsRound net fault depth gates start Quiet now = (now ≡ start) × ((y : ℕ) → gates y → HasTaught net fault depth (held_by start) y)

-- from the facts at the start: a clash at depth 1, or more facts that are forced
abbrev pub HasLooked : Net → Fault → Held → Bool → Held → Type 0
HasLooked net fault start true now = LeadsToClash net fault 1 start
HasLooked net fault start false now = AreSettled net fault now × AreForced net fault 1 start now

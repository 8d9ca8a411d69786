-- Good values among facts.
use Rattle.std.specs.Prelude.{Bool, List, Some, false, slice_get, true, ℕ, ◌≡◌, ◌≢◌}
use Rattle.refutation.specs.FactLists.{IsAmong}
use Rattle.recursive_learning.specs.declared.justified_values.GoodValue.{GoodValue}
use Rattle.refutation.specs.Facts.{Held, known_good}
use Rattle.refutation.specs.declared.reasoning.Fact.{Fact}
use Rattle.refutation.specs.declared.reasoning.Fact.TheVariants.{Good}
use Rattle.rm_base.specs.declared.numbers.NodeId.{NodeId}

-- the good value of the node is in the list
abbrev pub IsAmongGoods : List GoodValue → ℕ → Bool → Type 0
IsAmongGoods goods x b = (k : ℕ) × ((g : GoodValue) × ((slice_get goods k ≡ Some g) × ((g.node.0 ≡ x) × (g.value ≡ b))))

-- whether the node is known to have that good value
abbrev pub IsKnownGood : Held → ℕ → Bool → Bool → Type 0
IsKnownGood held x b true = known_good held x ≡ Some b
IsKnownGood held x b false = known_good held x ≢ Some b

-- the good values among added facts that are known
pub record AreGoodsOf (added : List (NodeId × Fact)) (held : Held) (goods : List GoodValue) : Type 0 where
  pub all : (x : ℕ) (b : Bool) → IsAmong added x (Good b) → known_good held x ≡ Some b → IsAmongGoods goods x b
  pub each : (k : ℕ) (g : GoodValue) → slice_get goods k ≡ Some g → IsAmong added g.node.0 (Good g.value) × (known_good held g.node.0 ≡ Some g.value)

-- those of the values that are known
pub record AreHeldAmong (goods : List GoodValue) (held : Held) (kept : List GoodValue) : Type 0 where
  pub all : (x : ℕ) (b : Bool) → IsAmongGoods goods x b → known_good held x ≡ Some b → IsAmongGoods kept x b
  pub each : (k : ℕ) (g : GoodValue) → slice_get kept k ≡ Some g → ((j : ℕ) × (slice_get goods j ≡ Some g)) × (known_good held g.node.0 ≡ Some g.value)

-- of the values before, where there was a branch before, and else of the added ones
abbrev pub Meets : Bool → List GoodValue → List (NodeId × Fact) → Held → List GoodValue → Type 0
Meets true before added held goods = AreHeldAmong before held goods
Meets false before added held goods = AreGoodsOf added held goods

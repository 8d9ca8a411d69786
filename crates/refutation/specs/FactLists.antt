-- Facts in lists.
use Rattle.std.specs.Prelude.{Bool, IsTrue, List, Some, slice_get, ℕ, ◌≡◌}
use Rattle.refutation.specs.Facts.{Held}
use Rattle.refutation.specs.declared.reasoning.Fact.{Fact}
use Rattle.refutation.specs.declared.reasoning.Fact.TheVariants.{Good}
use Rattle.rm_base.specs.declared.numbers.NodeId.{NodeId}

-- the fact on the node is in the list
abbrev pub IsAmong : List (NodeId × Fact) → ℕ → Fact → Type 0
IsAmong facts x fact = (k : ℕ) × ((a : NodeId × Fact) × ((slice_get facts k ≡ Some a) × ((a.0.0 ≡ x) × (a.1 ≡ fact))))

-- each good value that is held is in the list
abbrev pub HasAllGoods : Held → List (NodeId × Fact) → Type 0
HasAllGoods held facts = (x : ℕ) (value : Bool) → IsTrue (held x (Good value)) → IsAmong facts x (Good value)

-- Sets of facts that are closed at a depth of recursive learning.
use Rattle.std.specs.Prelude.{Bool, IsTrue, List, None, Some, length, slice_get, suc, zero, ℕ, ◌≡◌, ◌≤◌}
use Rattle.gate_net.specs.Net.{Net, Reads}
use Rattle.gate_net.specs.Values.{IsJunction}
use Rattle.refutation.specs.Closing.{IsClashFree, IsClosedUnderLines, IsWithin}
use Rattle.refutation.specs.Facts.{Held, known_good, with_fact}
use Rattle.refutation.specs.declared.reasoning.Fact.{Fact}
use Rattle.refutation.specs.declared.reasoning.Fact.TheVariants.{Good}
use Rattle.rm_base.specs.declared.numbers.Fault.{Fault}

-- the node drives the gate, and its good value isn't known
abbrev pub IsJustification : Net → Held → ℕ → ℕ → Type 0
IsJustification net held y d = ((p : ℕ) × Reads net y p d) × (known_good held d ≡ None)

-- the gate is known to have its controlling value c, and no driver is known to give it
pub record IsUnjustified (net : Net) (held : Held) (y : ℕ) (c : Bool) : Type 0 where
  pub junction : IsJunction net y c
  pub known : known_good held y ≡ Some c
  pub none_gives : (p d : ℕ) → Reads net y p d → known_good held d ≡ Some c → ⊥
  pub one_may : (d : ℕ) × IsJustification net held y d

-- the gate has at most 8 justifications
abbrev pub HasFew : Net → Held → ℕ → Type 0
HasFew net held y = (ds : List ℕ) × ((length ds ≤ 8) × ((d : ℕ) → IsJustification net held y d → (k : ℕ) × (slice_get ds k ≡ Some d)))

-- no such set without a clash contains the facts
abbrev pub NoneContains : (Held → Type 0) → Held → Type 0
NoneContains P held = (s : Held) → IsWithin held s → IsClashFree s → P s → ⊥

-- each such set without a clash that contains the facts holds that fact
abbrev pub AllHold : (Held → Type 0) → Held → ℕ → Fact → Type 0
AllHold P held x fact = (s : Held) → IsWithin held s → IsClashFree s → P s → IsTrue (s x fact)

-- what is known under each justification of the gate is held
pub record HasLearned (net : Net) (P : Held → Type 0) (held : Held) (y : ℕ) (c : Bool) : Type 0 where
  pub one_may : ((d : ℕ) → IsJustification net held y d → NoneContains P (with_fact held d (Good c))) → ⊥
  pub all_held : (x : ℕ) (b : Bool) → ((d : ℕ) → IsJustification net held y d → (NoneContains P (with_fact held d (Good c)) → ⊥) → AllHold P (with_fact held d (Good c)) x (Good b)) → IsTrue (held x (Good b))

-- closed under every line, and at each further depth under what can be learned from gates with few justifications
abbrev pub IsClosedAt : Net → Fault → ℕ → Held → Type 0
IsClosedAt net fault zero held = IsClosedUnderLines net fault held
IsClosedAt net fault (suc depth) held =
    IsClosedUnderLines net fault held × ((y : ℕ) (c : Bool) → IsUnjustified net held y c → HasFew net held y → HasLearned net (IsClosedAt net fault depth) held y c)

-- the facts lead to a clash at that depth
abbrev pub LeadsToClash : Net → Fault → ℕ → Held → Type 0
LeadsToClash net fault depth held = NoneContains (IsClosedAt net fault depth) held

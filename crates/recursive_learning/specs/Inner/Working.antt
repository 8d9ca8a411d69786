-- What a stretch of work keeps, and what learning comes to.
use Rattle.std.specs.Prelude.{Bool, IsTrue, List, false, length, true, ℕ, ◌≡◌}
use Rattle.gate_net.specs.Net.{IsLive, Net}
use Rattle.implications.specs.State.{EngineState}
use Rattle.implications.specs.Trail.{LeadsBack}
use Rattle.recursive_learning.specs.Least.{IsLeastAt}
use Rattle.refutation.specs.Closing.{IsClashFree, IsClosedUnderLines, IsWithin}
use Rattle.refutation.specs.FactSets.{held_by}
use Rattle.refutation.specs.Facts.{Held}
use Rattle.refutation.specs.Learning.{LeadsToClash}
use Rattle.refutation.specs.declared.held.NodeFacts.{NodeFacts}
use Rattle.refutation.specs.declared.reasoning.Fact.{Fact}
use Rattle.rm_base.specs.declared.numbers.Fault.{Fault}

-- facts only come, and what led back from the facts before leads back from those now
pub record Keeps (before after : EngineState) (old new : List NodeFacts) : Type 0 where
  pub numbers : after.numbers ≡ before.numbers
  pub size : length new ≡ length old
  pub more : IsWithin (held_by old) (held_by new)
  pub back : (mark : ℕ) (start : List NodeFacts) → LeadsBack before.trail mark old start → LeadsBack after.trail mark new start

-- the facts are closed under every line, without a clash, and are of live nodes
pub record AreSettled (net : Net) (fault : Fault) (held : Held) : Type 0 where
  pub closed : IsClosedUnderLines net fault held
  pub free : IsClashFree held
  pub live : (x : ℕ) (fact : Fact) → IsTrue (held x fact) → IsLive net x

-- from the facts at the start: a clash at the depth, or the least closed set
abbrev pub IsLearned : Net → Fault → ℕ → Held → Bool → Held → Type 0
IsLearned net fault depth start true now = LeadsToClash net fault depth start
IsLearned net fault depth start false now = IsLeastAt net fault depth start now × AreSettled net fault now

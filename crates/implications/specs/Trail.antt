-- Facts that were added one after another, and taking them back.
use Rattle.std.specs.Prelude.{IsTrue, List, [], drop, false, length, ℕ, ◌≡◌, ◌≤◌, ◌++◌, ◌∷◌, ◌⊎◌}
use Rattle.refutation.specs.FactLists.{IsAmong}
use Rattle.refutation.specs.FactSets.{held_by}
use Rattle.refutation.specs.Facts.{Held, without_fact}
use Rattle.refutation.specs.declared.held.NodeFacts.{NodeFacts}
use Rattle.refutation.specs.declared.reasoning.Fact.{Fact}
use Rattle.rm_base.specs.declared.numbers.NodeId.{NodeId}

-- the facts but for those of the list
abbrev pub without_all : List (NodeId × Fact) → Held → Held
without_all [] held = held
without_all (a ∷ added) held = without_fact (without_all added held) a.0.0 a.1

-- taking back what was added after the mark leads from the facts now to those at the start
pub record LeadsBack (trail : List (NodeId × Fact)) (mark : ℕ) (now start : List NodeFacts) : Type 0 where
  pub order : mark ≤ length trail
  pub size : length now ≡ length start
  pub back : (x : ℕ) (fact : Fact) → held_by start x fact ≡ without_all (drop mark trail) (held_by now) x fact

-- the facts now are those at the start and the added ones, of which none was held at the start
pub record AreAdded (added : List (NodeId × Fact)) (start now : List NodeFacts) : Type 0 where
  pub all : (x : ℕ) (fact : Fact) → IsTrue (held_by now x fact) → IsTrue (held_by start x fact) ⊎ IsAmong added x fact
  pub new : (x : ℕ) (fact : Fact) → IsAmong added x fact → held_by start x fact ≡ false

-- the rest of the trail was cut off, and its facts were taken back
pub record TakesBack (trail : List (NodeId × Fact)) (facts : List NodeFacts) (trail' : List (NodeId × Fact)) (facts' : List NodeFacts) : Type 0 where
  pub rest : List (NodeId × Fact)
  pub cut : trail ≡ trail' ++ rest
  pub held : (x : ℕ) (fact : Fact) → held_by facts' x fact ≡ without_all rest (held_by facts) x fact
  pub size : length facts' ≡ length facts

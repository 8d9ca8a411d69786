-- The facts of a branch, in the order in which they came.
use Rattle.std.specs.Prelude.{List, [], false, length, ℕ, ◌++◌, ◌<◌, ◌∷◌, ◌≡◌}
use Rattle.refutation.specs.FactSets.{held_by}
use Rattle.refutation.specs.Facts.{Held, none_held, with_fact}
use Rattle.refutation.specs.declared.held.NodeFacts.{NodeFacts}
use Rattle.refutation.specs.declared.reasoning.Fact.{Fact}
use Rattle.refutation_check.specs.declared.trail.HeldFact.{HeldFact}

-- the facts that came, the last one last, on nodes below that number
pub record Notes : Type 0 where
  pub numbers : ℕ
  pub entries : List HeldFact

abbrev pub held_from : Held → List HeldFact → Held
held_from held [] = held
held_from held (e ∷ entries) = held_from (with_fact held e.node.0 e.fact) entries

-- what is held once these came
abbrev pub held_of : List HeldFact → Held
held_of entries = held_from none_held entries

-- each came when it wasn't held, and is on a node below that number
abbrev pub AreNew : ℕ → Held → List HeldFact → Type 0
AreNew numbers held [] = Unit {0}
AreNew numbers held (e ∷ entries) =
    (e.node.0 < numbers) × ((held e.node.0 e.fact ≡ false) × AreNew numbers (with_fact held e.node.0 e.fact) entries)

-- the marks hold exactly what came
pub record IsTrail (marks : List NodeFacts) (entries : List HeldFact) : Type 0 where
  pub held : (x : ℕ) (fact : Fact) → held_by marks x fact ≡ held_of entries x fact
  pub new : AreNew (length marks) none_held entries

-- more facts came
pub record HasMore (old new : Notes) : Type 0 where
  pub numbers : new.numbers ≡ old.numbers
  pub entries : (more : List HeldFact) × (new.entries ≡ old.entries ++ more)

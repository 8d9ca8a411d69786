-- A set of facts kept as six marks for each node.
use Rattle.std.specs.Prelude.{Bool, List, [], false, if◌then◌else◌, length, suc, true, zero, ℕ, ◌+◌, ◌∷◌, ◌≡◌}
use Rattle.refutation.specs.Facts.{Held}
use Rattle.refutation.specs.declared.held.NodeFacts.{NodeFacts}
use Rattle.refutation.specs.declared.reasoning.Fact.{Fact}
use Rattle.refutation.specs.declared.reasoning.Fact.TheVariants.{Differs, Equal, Faulty, Good}

abbrev pub is_marked : NodeFacts → Fact → Bool
is_marked m (Good false) = m.good_is_0
is_marked m (Good true) = m.good_is_1
is_marked m (Faulty false) = m.faulty_is_0
is_marked m (Faulty true) = m.faulty_is_1
is_marked m Equal = m.equal
is_marked m Differs = m.differs

-- what these marks hold
abbrev pub held_by : List NodeFacts → Held
held_by [] x fact = false
held_by (m ∷ marks) zero fact = is_marked m fact
held_by (m ∷ marks) (suc x) fact = held_by marks x fact

abbrev pub if_not : Bool → ℕ
if_not b = if b then 0 else 1

-- how many of the six aren't marked
abbrev pub unmarked : NodeFacts → ℕ
unmarked m = if_not m.good_is_0 + (if_not m.good_is_1 + (if_not m.faulty_is_0 + (if_not m.faulty_is_1 + (if_not m.equal + if_not m.differs))))

-- how many facts aren't held
abbrev pub missing : List NodeFacts → ℕ
missing [] = 0
missing (m ∷ marks) = unmarked m + missing marks

-- these marks hold exactly that, for as many nodes as before
pub record Becomes (old new : List NodeFacts) (held : Held) : Type 0 where
  pub facts : (x : ℕ) (fact : Fact) → held_by new x fact ≡ held x fact
  pub size : length new ≡ length old

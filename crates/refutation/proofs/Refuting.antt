-- An accepted closed tree refutes its fault.
use Rattle.std.proofs.Common.{Bool, false, inl, inr, map, not, sym, true, ℕ, ◌∙◌, ◌≡◌}
use Rattle.gate_net.specs.Forward.{Completes}
use Rattle.gate_net.proofs.Public.{readings_hold, value_at}
use Rattle.gate_net.specs.Net.{IsAcyclic, Net, Reads, drivers_of}
use Rattle.gate_net.specs.Values.{IsRun, SameObserved}
use Rattle.gate_net.specs.declared.Kind.TheVariants.{Source}
use Rattle.refutation.proofs.Known.{facts_with, good_right}
use Rattle.refutation.proofs.LinesRight.{line_right}
use Rattle.refutation.specs.Branches.{Branch, IsClosed, clash, here, line, quiet, split, untried}
use Rattle.refutation.specs.Facts.{AreOpposed, AreTrueFacts, Held, known_good, none_held, with_fact}
use Rattle.refutation.specs.Laws.{TreesRefute}
use Rattle.refutation.specs.declared.reasoning.Fact.TheVariants.{Differs, Equal, Faulty, Good}
use Rattle.rm_base.specs.declared.numbers.Fault.{Fault}
use Rattle.rm_base.proofs.Public.{bool_cases, never_opposite}

module _ (net : Net) (fault : Fault) (driver : ℕ) (a v f : ℕ → Bool) (run : IsRun net fault a v f) (acyclic : IsAcyclic net) (stuck : Reads net fault.gate.0 fault.position driver) (detects : SameObserved net v f → ⊥) where
  pub never_opposed : (held : Held) → AreTrueFacts v f held → (x : ℕ) → AreOpposed held x → ⊥
  never_opposed held facts x h = elim h [
    | inl good ↦ let wrong : false ≡ true = sym (facts x (Good false) good.0) ∙ facts x (Good true) good.1 in cc
    | inr other ↦ elim other [
      | inl faulty ↦ let wrong : false ≡ true = sym (facts x (Faulty false) faulty.0) ∙ facts x (Faulty true) faulty.1 in cc
      | inr equal ↦ never_opposite (f x) (sym (facts x Equal equal.0) ∙ facts x Differs equal.1)
    ]
  ]

  -- the known sources have what the assignment gives them
  completed : (held : Held) → AreTrueFacts v f held → Completes net (known_good held) a
  completed held facts x b source known = sym (value_at net a v x Source (map v (drivers_of net x)) source (run.good x)) ∙ good_right v f held facts x b known

  closed_refutes : (t : Branch) (held : Held) → AreTrueFacts v f held → IsClosed net fault held t → ⊥
  closed_refutes (line l t) held facts h =
      closed_refutes t (with_fact held h.0 h.1) (facts_with v f held h.0 h.1 facts (line_right net fault driver a v f run acyclic stuck detects held facts l h.0 h.1 h.2)) h.3
  closed_refutes (split x first t u) held facts h = elim (bool_cases (v x.0) first) [
    | inl is ↦ closed_refutes t (with_fact held x.0 (Good first)) (facts_with v f held x.0 (Good first) facts is) h.1
    | inr is ↦ closed_refutes u (with_fact held x.0 (Good (not first))) (facts_with v f held x.0 (Good (not first)) facts is) h.2
  ]
  closed_refutes (clash x) held facts h = never_opposed held facts x.0 h
  closed_refutes quiet held facts h = detects (λ x observed. (readings_hold net fault acyclic (known_good held) h.0 h.1 a v f (completed held facts) run x).equal (h.2 x observed))
  closed_refutes here held facts h = h
  closed_refutes untried held facts h = h

pub trees_refute : TreesRefute
trees_refute net fault driver items acyclic stuck accepted a (v, (f, (run, (x, (observed, differs))))) =
    closed_refutes net fault driver a v f run acyclic stuck (λ same. differs (same x observed)) accepted.0 none_held (λ y fact e. let wrong : false ≡ true = e in cc) accepted.1.1

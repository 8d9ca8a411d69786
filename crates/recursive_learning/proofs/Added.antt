-- Adding a good value to settled facts.
use Rattle.std.proofs.Common.{Bool, List, None, Option, Some, ap, false, inl, inr, not, refl, true, ℕ, ◌∙◌, ◌≡◌, ◌≢◌}
use Rattle.std.specs.Prelude.{is_some}
use Rattle.gate_net.specs.Net.{IsLive, IsWellFormed, Net}
use Rattle.gate_net.specs.Values.{HasPin}
use Rattle.implications.specs.Outcomes.{IsExtended}
use Rattle.recursive_learning.proofs.Live.{leads_live, with_live}
use Rattle.recursive_learning.specs.Inner.Working.{AreSettled, IsLearned}
use Rattle.refutation.specs.FactSets.{held_by}
use Rattle.refutation.specs.Facts.{Held, known_good, with_fact}
use Rattle.refutation.proofs.Public.{both_good, known_held, leads_within, opposed_within, with_more, with_there, with_within}
use Rattle.refutation.specs.declared.held.NodeFacts.{NodeFacts}
use Rattle.refutation.specs.declared.reasoning.Fact.TheVariants.{Good}
use Rattle.refutation.specs.declared.reasoning.Line.{Line}
use Rattle.rm_base.specs.declared.numbers.Fault.{Fault}
use Rattle.rm_base.specs.declared.numbers.NodeId.{NodeId}
use Rattle.rm_base.proofs.Public.{bool_cases}

pub added_is : (net : Net) (fault : Fault) (held : Held) (x : ℕ) (b : Bool) (lines : List Line) (facts : List NodeFacts) (o : Option NodeId) → IsWellFormed net → HasPin net fault → AreSettled net fault held → IsLive net x → IsExtended net fault (with_fact held x (Good b)) lines facts o → IsLearned net fault 0 (with_fact held x (Good b)) (is_some o) (held_by facts)
added_is net fault held x b lines facts None formed stuck settled live open' = (
  record {
    within = open'.within;
    free = open'.free;
    closed = open'.closed;
    least = λ s within free closed. leads_within net fault s free closed lines (with_fact held x (Good b)) (held_by facts) within open'.leads;
  },
  record {
    closed = open'.closed;
    free = open'.free;
    live = leads_live net fault formed stuck lines (with_fact held x (Good b)) (held_by facts) (with_live net held x (Good b) settled.live live) open'.leads;
  },
)
added_is net fault held x b lines facts (Some y) formed stuck settled live clash = λ s within free closed.
    free y.0 (opposed_within (held_by facts) s (leads_within net fault s free closed lines (with_fact held x (Good b)) (held_by facts) within clash.leads) y.0 clash.opposed)

-- a value that is known already adds nothing, and its opposite is a clash
pub known_is : (net : Net) (fault : Fault) (held : Held) (x : ℕ) (b known : Bool) (clash : Bool) → AreSettled net fault held → known_good held x ≡ Some known → (clash ≡ true → known ≢ b) → (clash ≡ false → known ≡ b) → IsLearned net fault 0 (with_fact held x (Good b)) clash held
known_is net fault held x b known true settled is other same = λ s within free closed. elim (bool_cases known b) [
  | inl e ↦ absurd (other refl e)
  | inr e ↦ free x (both_good s x b (within x (Good b) (with_there held x (Good b))) (within x (Good (not b)) (with_more held x (Good b) x (Good (not b)) (known_held held x (not b) (is ∙ ap Some e)))))
]
known_is net fault held x b known false settled is other same = (
  record {
    within = with_within held held x (Good b) (λ y fact e. e) (known_held held x b (is ∙ ap Some (same refl)));
    free = settled.free;
    closed = settled.closed;
    least = λ s within free closed. λ y fact e. within y fact (with_more held x (Good b) y fact e);
  },
  settled,
)

-- A fact that is added, with its node and its readers put on the worklist.
use Rattle.std.proofs.Common.{Bool, List, inl, inr, subst, sym, ℕ, ◌≡◌}
use Rattle.gate_graph.specs.Search.{IsSeen}
use Rattle.gate_net.specs.Net.{IsWellFormed, Net}
use Rattle.gate_net.specs.Values.{HasPin}
use Rattle.refutation.proofs.Public.{concludes_live}
use Rattle.implications.proofs.Steps.{pending_more}
use Rattle.implications.specs.Inner.Beginning.{StaysPending}
use Rattle.implications.specs.Inner.Settled.{IsFresh}
use Rattle.implications.specs.Inner.Working.{Touches}
use Rattle.refutation.specs.FactSets.{Becomes, held_by}
use Rattle.refutation.specs.Facts.{with_fact}
use Rattle.refutation.specs.Lines.{Concludes}
use Rattle.refutation.specs.declared.held.NodeFacts.{NodeFacts}
use Rattle.refutation.specs.declared.reasoning.Fact.{Fact}
use Rattle.refutation.specs.declared.reasoning.Line.{Line}
use Rattle.rm_base.specs.declared.numbers.Fault.{Fault}
use Rattle.rm_base.specs.declared.numbers.NodeId.{NodeId}
use Rattle.std.specs.Prelude.{false}

pub pending_touched : (net : Net) (fault : Fault) (facts facts' : List NodeFacts) (worklist worklist' : List Bool) (x : ℕ) (fact : Fact) → Becomes facts facts' (with_fact (held_by facts) x fact) → Touches net worklist worklist' x → StaysPending net fault facts worklist facts' worklist'
pending_touched net fault facts facts' worklist worklist' x fact is t pending z =
    elim (pending_more net fault facts facts' worklist worklist' x x fact (λ y. inr (pending y)) is t z) [
      | inl same ↦ inl (subst (IsSeen worklist') (sym same) t.itself)
      | inr rest ↦ rest
    ]

pub fresh_given : (net : Net) (fault : Fault) (facts : List NodeFacts) (l : Line) (x : NodeId) (fact : Fact) → IsWellFormed net → HasPin net fault → Concludes net fault (held_by facts) l x.0 fact → held_by facts x.0 fact ≡ false → IsFresh net fault facts (record { line = l; node = x; fact = fact })
fresh_given net fault facts l x fact formed stuck gives new = record { gives = gives; new = new; live = concludes_live net fault (held_by facts) formed stuck l x.0 fact gives }

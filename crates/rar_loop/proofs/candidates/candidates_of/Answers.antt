use Rattle.std.proofs.Common.{List, false, inl, inr, subst, sym, true}
use Rattle.gate_graph.specs.Circuit.{net_of}
use Rattle.refutation.specs.FactLists.{HasAllGoods}
use Rattle.candidate_wires.specs.Candidates.{AreDerivable}
use Rattle.recursive_learning.specs.Serving.{IsShut}
use Rattle.refutation.specs.FactSets.{held_by}
use Rattle.refutation.specs.declared.held.NodeFacts.{NodeFacts}
use Rattle.rar_loop.proofs.candidates.candidates_of.Goals as goal

pub returns-then-clashes-clause-candidates : goal.returns-then-clashes-clause-candidates
returns-then-clashes-clause-candidates c =
    let shut : IsShut (net_of c.args.target.now.graph.now) c.args.target.now.fault c.close.new.self.basis.facts true = subst (IsShut (net_of c.args.target.now.graph.now) c.args.target.now.fault c.close.new.self.basis.facts) c.if-clashes.true c.in_ok-clashes.ensures.shut in
    inl (shut, c.new.ensures.items)

pub returns-clause-candidates : goal.returns-clause-candidates
returns-clause-candidates c =
    let shut : IsShut (net_of c.args.target.now.graph.now) c.args.target.now.fault c.close.new.self.basis.facts false = subst (IsShut (net_of c.args.target.now.graph.now) c.args.target.now.fault c.close.new.self.basis.facts) c.if-clashes.false c.in_ok-clashes.ensures.shut in
    inr (shut.1.no_clash, (held_by c.facts-facts.result.now, (subst (λ (facts : List NodeFacts). AreDerivable (net_of c.args.target.now.graph.now) c.args.target.now.fault (held_by facts)) (sym c.facts-facts.ensures) shut.1.derivable, c.in_ok-found.ensures.found)))

pub candidates_among-requires-clause-added : goal.candidates_among-requires-clause-added
candidates_among-requires-clause-added c =
    subst (λ (facts : List NodeFacts). HasAllGoods (held_by facts) c.added_facts-added.result.now) (sym c.facts-facts.ensures) (c.added_facts-added.ensures.goods (net_of c.args.target.now.graph.now) c.in_ok-clashes.ensures.serves)

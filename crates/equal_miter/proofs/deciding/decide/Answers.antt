use Rattle.std.proofs.Common.{ap, subst, sym, ℕ, ◌+◌, ◌^◌, ◌∙◌, ◌≤◌}
use Rattle.gate_graph.specs.Circuit.{net_of}
use Rattle.gate_net.specs.Net.{Net, source_count}
use Rattle.equal_miter.proofs.Answering.{answered, pin_there}
use Rattle.equal_miter.proofs.deciding.decide.Goals as goal

pub decide_miter-requires-clause-pin : goal.decide_miter-requires-clause-pin
decide_miter-requires-clause-pin c = pin_there c.args.a.now c.args.b.now (net_of c.in_ok-graph.graph) c.in_ok-graph.fault c.in_ok-graph.ensures.net c.in_ok-graph.ensures.fault

pub returns-clause-likeness : goal.returns-clause-likeness
returns-clause-likeness c =
    answered c.miters_tell_models.ensures.same c.miters_tell_models.ensures.apart c.miters_tell_models.ensures.not_both c.trees_refute.ensures c.args.a.now c.args.b.now c.args.budget c.in_ok-likeness.likeness
    (net_of c.in_ok-graph.graph) c.in_ok-graph.fault c.in_ok-graph.ensures.net c.in_ok-graph.ensures.fault c.in_ok-graph.ensures.comparable c.well_formed-2.ensures.net.acyclic c.in_ok-likeness.ensures.evidence

pub returns-clause-decided : goal.returns-clause-decided
returns-clause-decided c = λ le.
    c.in_ok-likeness.ensures.decided
    (subst (λ (k : ℕ). 2 ^ (k + 1) ≤ c.args.budget) (sym (ap (λ (n : Net). source_count n) c.in_ok-graph.ensures.net ∙ c.miters_tell_models.ensures.sources c.args.a.now c.args.b.now c.in_ok-graph.ensures.comparable)) le)

pub returns-clause-refused : goal.returns-clause-refused
returns-clause-refused c = tt

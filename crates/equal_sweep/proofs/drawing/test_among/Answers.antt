use Rattle.std.proofs.Common.{List, subst, sym, ℕ}
use Rattle.fault_sim.specs.Words.{assignment}
use Rattle.gate_graph.specs.Circuit.{net_of}
use Rattle.gate_net.specs.Faults.{IsTest}
use Rattle.gate_net.specs.Values.{Detects}
use Rattle.equal_sweep.proofs.Lanes.{lane_is_test}
use Rattle.equal_sweep.proofs.drawing.test_among.Goals as goal

pub returns-clause-test : goal.returns-clause-test
returns-clause-test c =
    let detects : Detects (net_of c.args.question.now.graph.now) c.args.question.now.fault (assignment c.args.words.now c.in-Some.lane) =
    subst (λ (ws : List ℕ). Detects (net_of c.args.question.now.graph.now) c.args.question.now.fault (assignment ws c.in-Some.lane)) c.simulate64.ensures.words c.in-Some.ensures.first.1 in
    subst (IsTest (net_of c.args.question.now.graph.now) c.args.question.now.fault) (sym c.in_ok-vector.ensures)
    (lane_is_test (net_of c.args.question.now.graph.now) c.args.question.now.fault c.args.words.now c.in-Some.lane c.requires.sources detects)

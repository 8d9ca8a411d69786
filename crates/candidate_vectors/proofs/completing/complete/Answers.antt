use Rattle.std.proofs.Common.{◌≡◌, ◌∙◌, ℕ, List, ap, length, sym, subst}
use Rattle.fault_sim.specs.Words.{assignment}
use Rattle.gate_graph.specs.Circuit.{net_of}
use Rattle.gate_net.specs.Faults.{IsTest}
use Rattle.gate_net.specs.Net.{source_count}
use Rattle.gate_net.specs.Values.{Detects}
use Rattle.candidate_vectors.proofs.Lanes.{lane_is_test}
use Rattle.candidate_vectors.proofs.completing.complete.Goals as goal

pub returns-clause-test : goal.returns-clause-test
returns-clause-test c =
    let size : length c.as_slice-2.result.now ≡ source_count (net_of c.args.question.now.graph.now) = ap (λ (ws : List ℕ). length ws) c.as_slice-2.ensures.value ∙ c.in_ok-words.ensures in
    let same = c.simulate64.ensures.words ∙ c.as_slice.ensures.value ∙ sym c.as_slice-2.ensures.value in
    let detects : Detects (net_of c.args.question.now.graph.now) c.args.question.now.fault (assignment c.as_slice-2.result.now c.in-Some.lane) =
    subst (λ (ws : List ℕ). Detects (net_of c.args.question.now.graph.now) c.args.question.now.fault (assignment ws c.in-Some.lane)) same c.in-Some.ensures.first.1 in
    subst (IsTest (net_of c.args.question.now.graph.now) c.args.question.now.fault) (sym c.in_ok-vector.ensures) (lane_is_test (net_of c.args.question.now.graph.now) c.args.question.now.fault c.as_slice-2.result.now c.in-Some.lane size detects)

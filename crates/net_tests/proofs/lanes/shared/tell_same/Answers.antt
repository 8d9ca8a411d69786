use Rattle.std.proofs.Common.{◌≡◌, ◌∙◌, subst, sym}
use Rattle.gate_graph.specs.Circuit.{net_of}
use Rattle.fault_sim.specs.LaneStates.{LaneState}
use Rattle.fault_sim.specs.Observing.{AreObservabilities}
use Rattle.net_tests.proofs.lanes.shared.tell_same.Goals as goal

pub detect_sharing-requires-clause-right : goal.detect_sharing-requires-clause-right
detect_sharing-requires-clause-right c =
    let same : c.first_detecting-first.new.self ≡ c.args.lanes.now = c.first_detecting-first.ensures.same ∙ c.detect-alone.ensures.same in
    subst (λ (s : LaneState). AreObservabilities c.args.notes.now (net_of c.args.graph.now) s.words) (sym same) c.requires.right

pub first_detecting_sharing-requires-clause-right : goal.first_detecting_sharing-requires-clause-right
first_detecting_sharing-requires-clause-right c =
    subst (λ (s : LaneState). AreObservabilities c.detect_sharing.new.notes (net_of c.args.graph.now) s.words) (sym c.detect_sharing.ensures.same) c.detect_sharing.ensures.right

pub returns-then-detect_sharing-alone-clause-right : goal.returns-then-detect_sharing-alone-clause-right
returns-then-detect_sharing-alone-clause-right c =
    let same : c.detect_sharing.new.self ≡ c.args.lanes.now = c.detect_sharing.ensures.same ∙ c.first_detecting-first.ensures.same ∙ c.detect-alone.ensures.same in
    subst (λ (s : LaneState). AreObservabilities c.first_detecting_sharing.new.notes (net_of c.args.graph.now) s.words) same c.first_detecting_sharing.ensures.right

pub returns-else-detect_sharing-alone-clause-right : goal.returns-else-detect_sharing-alone-clause-right
returns-else-detect_sharing-alone-clause-right c =
    let same : c.first_detecting-first.new.self ≡ c.args.lanes.now = c.first_detecting-first.ensures.same ∙ c.detect-alone.ensures.same in
    subst (λ (s : LaneState). AreObservabilities c.detect_sharing.new.notes (net_of c.args.graph.now) s.words) same c.detect_sharing.ensures.right

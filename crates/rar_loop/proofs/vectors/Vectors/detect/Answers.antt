use Rattle.std.proofs.Common.{◌∙◌, ℕ, Option, Some, refl, subst}
use Rattle.gate_graph.specs.Circuit.{net_of}
use Rattle.fault_sim.specs.BlockStates.{IsFirstVector, vector_of}
use Rattle.fault_sim.specs.Words.{assignment}
use Rattle.rar_loop.proofs.Filtering.{for_noted}
use Rattle.rar_loop.proofs.vectors.Vectors.detect.Goals as goal

pub returns-then-any-clause-detected : goal.returns-then-any-clause-detected
returns-then-any-clause-detected c = λ some.
    let lane = c.any.ensures c.if-any.true in
    (assignment c.args.self.now.lanes.words lane.0, (c.detect_sharing.ensures.detects lane.0 lane.1.0).0 lane.1.1)

pub returns-in-Some-clause-detected : goal.returns-in-Some-clause-detected
returns-in-Some-clause-detected c = λ some.
    let first : IsFirstVector (net_of c.args.question.now.graph.now) c.args.question.now.fault c.detects_by.new.blocks.words (Some c.in-Some.vector) =
    subst (λ (o : Option ℕ). IsFirstVector (net_of c.args.question.now.graph.now) c.args.question.now.fault c.detects_by.new.blocks.words o) c.in-Some.is c.detects_any.ensures.first in
    (vector_of c.detects_by.new.blocks.words c.in-Some.vector, first.1.0)

pub returns-then-any-clause-vectors : goal.returns-then-any-clause-vectors
returns-then-any-clause-vectors c =
    for_noted (net_of c.args.question.now.graph.now) c.args.self.now _ c.requires.vectors c.detect_sharing.ensures.same c.detect_sharing.ensures.right c.detects_by.ensures.same refl refl refl

pub returns-in-Some-clause-vectors : goal.returns-in-Some-clause-vectors
returns-in-Some-clause-vectors c =
    for_noted (net_of c.args.question.now.graph.now) c.args.self.now _ c.requires.vectors c.detect_sharing.ensures.same c.detect_sharing.ensures.right (c.detects_any.ensures.same ∙ c.detects_by.ensures.same) refl refl refl

pub returns-in-None-clause-vectors : goal.returns-in-None-clause-vectors
returns-in-None-clause-vectors c =
    for_noted (net_of c.args.question.now.graph.now) c.args.self.now _ c.requires.vectors c.detect_sharing.ensures.same c.detect_sharing.ensures.right (c.detects_any.ensures.same ∙ c.detects_by.ensures.same) refl refl refl

use Rattle.std.proofs.Common.{subst}
use Rattle.gate_graph.specs.Circuit.{net_of}
use Rattle.rar_loop.specs.Inner.Kept.{IsSought}
use Rattle.rar_loop.proofs.refuting.refuted_unless_detected.Goals as goal

pub returns-then-detect-clause-looked : goal.returns-then-detect-clause-looked
returns-then-detect-clause-looked c =
    let found = c.detect.ensures.detected c.if-detect.true in
    c.detected_faults_stay_open.ensures.sets (net_of c.args.question.now.graph.now) c.args.question.now.fault c.well_formed-2.ensures.net.acyclic c.args.question.now.pin found.0 found.1 c.args.depth

pub returns-in-Detected-clause-looked : goal.returns-in-Detected-clause-looked
returns-in-Detected-clause-looked c =
    let found = subst (IsSought (net_of c.args.question.now.graph.now) c.args.question.now.fault) c.in-Detected.is c.in_ok-seek.ensures.sought in
    c.detected_faults_stay_open.ensures.sets (net_of c.args.question.now.graph.now) c.args.question.now.fault c.well_formed-2.ensures.net.acyclic c.args.question.now.pin found.0 found.1 c.args.depth

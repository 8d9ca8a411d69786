use Rattle.gate_graph.specs.Circuit.{net_of}
use Rattle.care_opt.proofs.Kept.{open_of}
use Rattle.care_opt.proofs.closing.known_test.Goals as goal

pub returns-clause-open_sets : goal.returns-clause-open_sets
returns-clause-open_sets c =
    open_of (net_of c.args.question.now.graph.now) c.args.question.now.fault (λ a d depth. c.detected_faults_stay_open.ensures.sets (net_of c.args.question.now.graph.now) c.args.question.now.fault c.well_formed-2.ensures.net.acyclic c.args.question.now.pin a d depth) c.in_ok-found.found c.in_ok-found.ensures.test

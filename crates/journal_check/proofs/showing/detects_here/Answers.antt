use Rattle.gate_graph.specs.Circuit.{net_of}
use Rattle.journal_check.proofs.TracingLaws.{still_shown}
use Rattle.journal_check.proofs.showing.detects_here.Goals as goal

pub returns-clause-shown : goal.returns-clause-shown
returns-clause-shown c =
    still_shown (net_of c.args.question.now.graph.now) c.args.lanes.now.words c.args.shown.now.items c.add_shown.new.shown.items c.args.question.now.fault c.detect-found.result c.args.lanes.now.good
    c.well_formed-2.ensures.net.acyclic c.requires.simulated c.detect-found.ensures.detects c.add_shown.ensures c.requires.shown

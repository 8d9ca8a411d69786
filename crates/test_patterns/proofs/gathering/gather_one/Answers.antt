use Rattle.std.proofs.lemmas.Option.{slice_get-get_or}
use Rattle.gate_graph.specs.Circuit.{net_of}
use Rattle.test_patterns.proofs.Gathered.{gathered_missed, gathered_more}
use Rattle.test_patterns.proofs.gathering.gather_one.Goals as goal

pub invariant_of-detect : goal.invariant_of-detect
invariant_of-detect c = record { pin = c.requires.pins c.args.at _ (slice_get-get_or c.args.faults.now c.args.at _ c.requires.at) }

pub returns-then-found-eq0-clause-gathered : goal.returns-then-found-eq0-clause-gathered
returns-then-found-eq0-clause-gathered c = λ g.
    gathered_missed (net_of c.args.graph.now) c.args.faults.now c.args.numbers.now c.args.firsts.now c.args.lanes.now.words c.args.caught.now.items c.args.at c.detect-found.result _ g
    (slice_get-get_or c.args.faults.now c.args.at _ c.requires.at) c.detect-found.ensures.detects c.if-found-eq0.true

pub returns-clause-gathered : goal.returns-clause-gathered
returns-clause-gathered c = λ g.
    rw c.in_ok-push.ensures.items
    (gathered_more (net_of c.args.graph.now) c.args.faults.now c.args.numbers.now c.args.firsts.now c.args.lanes.now.words c.args.caught.now.items (record { at = c.args.at; lanes = c.detect-found.result }) _ g
    (c.is_open.ensures.open c.if-not-is_open.false) (slice_get-get_or c.args.faults.now c.args.at _ c.requires.at) c.detect-found.ensures.detects)

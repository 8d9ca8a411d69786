use Rattle.gate_graph.specs.Circuit.{net_of}
use Rattle.test_patterns.proofs.Assigned.{no_patterns}
use Rattle.test_patterns.proofs.assigning.assign.Goals as goal

pub add_all-requires-clause-draft : goal.add_all-requires-clause-draft
add_all-requires-clause-draft c =
    rw c.new-2.ensures.items (no_patterns (net_of c.args.known.now.graph.now) c.args.known.now.faults.now c.args.known.now.vectors.now c.args.known.now.numbers.now c.in_ok-none_each.field-0.items c.in_ok-none_each.ensures.size c.in_ok-none_each.ensures.empty)

use Rattle.std.proofs.Common.{arith, length, ◌<◌}
use Rattle.gate_graph.specs.Circuit.{net_of}
use Rattle.implications.proofs.Bases.{begun, none_seen_in}
use Rattle.implications.proofs.opening.take_reached.Goals as goal
use Rattle.refutation.proofs.Public.{gate_live, kind_live, reached_live}

pub take_equals-requires-clause-facts : goal.take_equals-requires-clause-facts
take_equals-requires-clause-facts c p x there =
    let low : x < length (net_of c.args.question.now.graph.now).nodes = kind_live (net_of c.args.question.now.graph.now) x (reached_live (net_of c.args.question.now.graph.now) c.args.question.now.fault.gate.0 x (c.requires.site.sound x (c.reached_numbers.ensures.sound p x there))) in
    omega (arith, low, c.requires.facts, c.take_equal.ensures.size)

pub take_equals-requires-clause-taken : goal.take_equals-requires-clause-taken
take_equals-requires-clause-taken c p x there =
    let low : x < length (net_of c.args.question.now.graph.now).nodes = kind_live (net_of c.args.question.now.graph.now) x (reached_live (net_of c.args.question.now.graph.now) c.args.question.now.fault.gate.0 x (c.requires.site.sound x (c.reached_numbers.ensures.sound p x there))) in
    omega (arith, low, c.requires.taken, c.take_equal.ensures.room)

pub returns-clause-begun : goal.returns-clause-begun
returns-clause-begun c =
    begun (net_of c.args.question.now.graph.now) c.args.question.now.fault c.args.site.now.reached c.reached_numbers.result.now c.args.facts.now c.take_equal.new.facts c.take_equals.new.facts c.args.taken.now c.take_equal.new.taken c.take_equals.new.taken c.requires.rest (none_seen_in c.args.taken.now c.requires.none) c.requires.site
    (λ z. (λ h. c.reached_numbers.ensures.sound h.0 z h.1, λ e. c.reached_numbers.ensures.all z e))
    (gate_live (net_of c.args.question.now.graph.now) c.args.question.now.fault c.args.question.now.pin) (λ z reaches. reached_live (net_of c.args.question.now.graph.now) c.args.question.now.fault.gate.0 z reaches) c.take_equal.ensures c.take_equals.ensures

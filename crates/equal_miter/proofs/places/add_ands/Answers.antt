use Rattle.std.proofs.Common.{length}
use Rattle.gate_graph.specs.Circuit.{net_of}
use Rattle.joined_nets.specs.Growing.{and_gate}
use Rattle.equal_miter.proofs.Pairs.{first_fits, second_fits, second_number, still_below, two_below, two_made}
use Rattle.equal_miter.proofs.places.add_ands.Goals as goal

pub add_last-requires-clause-drivers : goal.add_last-requires-clause-drivers
add_last-requires-clause-drivers c = λ d among. two_below d c.args.x.0 c.args.without_y.0 (length (net_of c.args.graph.now).nodes) c.requires.ours c.requires.not_theirs among

pub add_last-requires-clause-fits : goal.add_last-requires-clause-fits
add_last-requires-clause-fits c = first_fits (net_of c.args.graph.now) (and_gate c.args.x.0 c.args.without_y.0) (and_gate c.args.without_x.0 c.args.y.0) c.requires.fits

pub add_last-requires-2-clause-drivers : goal.add_last-requires-2-clause-drivers
add_last-requires-2-clause-drivers c = λ d among.
    two_below d c.args.without_x.0 c.args.y.0 (length (net_of c.add_last.new.graph).nodes)
    (still_below (net_of c.args.graph.now) (net_of c.add_last.new.graph) (and_gate c.args.x.0 c.args.without_y.0) (and_gate c.args.without_x.0 c.args.y.0) c.in_ok-ours.ensures.net c.args.without_x.0 c.requires.not_ours)
    (still_below (net_of c.args.graph.now) (net_of c.add_last.new.graph) (and_gate c.args.x.0 c.args.without_y.0) (and_gate c.args.without_x.0 c.args.y.0) c.in_ok-ours.ensures.net c.args.y.0 c.requires.theirs) among

pub add_last-requires-2-clause-fits : goal.add_last-requires-2-clause-fits
add_last-requires-2-clause-fits c = second_fits (net_of c.args.graph.now) (net_of c.add_last.new.graph) (and_gate c.args.x.0 c.args.without_y.0) (and_gate c.args.without_x.0 c.args.y.0) c.in_ok-ours.ensures.net c.requires.fits

pub returns-clause-net : goal.returns-clause-net
returns-clause-net c = two_made (net_of c.args.graph.now) (net_of c.add_last.new.graph) (and_gate c.args.x.0 c.args.without_y.0) (and_gate c.args.without_x.0 c.args.y.0) c.in_ok-ours.ensures.net (net_of c.add_last-2.new.graph) c.in_ok-theirs.ensures.net

pub returns-clause-first : goal.returns-clause-first
returns-clause-first c = c.in_ok-ours.ensures.number

pub returns-clause-second : goal.returns-clause-second
returns-clause-second c = second_number (net_of c.args.graph.now) (net_of c.add_last.new.graph) (and_gate c.args.x.0 c.args.without_y.0) (and_gate c.args.without_x.0 c.args.y.0) c.in_ok-ours.ensures.net c.in_ok-theirs.theirs.0 c.in_ok-theirs.ensures.number

pub returns-clause-whole : goal.returns-clause-whole
returns-clause-whole c = c.in_ok-theirs.ensures.whole

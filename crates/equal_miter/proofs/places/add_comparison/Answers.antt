use Rattle.std.proofs.Common.{[], ap, arith, length, ℕ, ◌∙◌, ◌∷◌}
use Rattle.gate_graph.specs.Circuit.{net_of}
use Rattle.equal_miter.proofs.Pairs.{after_ands, after_nots, ands_fit, five_made, nots_fit, or_fits, two_below}
use Rattle.equal_miter.proofs.places.add_comparison.Goals as goal

pub add_nots-requires-clause-fits : goal.add_nots-requires-clause-fits
add_nots-requires-clause-fits c = nots_fit (net_of c.args.graph.now) c.args.x.0 c.args.y.0 c.requires.fits

pub add_ands-requires-clause-ours : goal.add_ands-requires-clause-ours
add_ands-requires-clause-ours c = let size = after_nots (net_of c.args.graph.now) c.args.x.0 c.args.y.0 (net_of c.add_nots.new.graph) c.in_ok-without_x.without_x.0 c.in_ok-without_x.without_y.0 c.in_ok-without_x.ensures.net c.in_ok-without_x.ensures.first c.in_ok-without_x.ensures.second in let low = c.requires.ours in omega (arith, size, low)

pub add_ands-requires-clause-theirs : goal.add_ands-requires-clause-theirs
add_ands-requires-clause-theirs c = let size = after_nots (net_of c.args.graph.now) c.args.x.0 c.args.y.0 (net_of c.add_nots.new.graph) c.in_ok-without_x.without_x.0 c.in_ok-without_x.without_y.0 c.in_ok-without_x.ensures.net c.in_ok-without_x.ensures.first c.in_ok-without_x.ensures.second in let low = c.requires.theirs in omega (arith, size, low)

pub add_ands-requires-clause-not_ours : goal.add_ands-requires-clause-not_ours
add_ands-requires-clause-not_ours c = let size = after_nots (net_of c.args.graph.now) c.args.x.0 c.args.y.0 (net_of c.add_nots.new.graph) c.in_ok-without_x.without_x.0 c.in_ok-without_x.without_y.0 c.in_ok-without_x.ensures.net c.in_ok-without_x.ensures.first c.in_ok-without_x.ensures.second in let is = c.in_ok-without_x.ensures.first in omega (arith, size, is)

pub add_ands-requires-clause-not_theirs : goal.add_ands-requires-clause-not_theirs
add_ands-requires-clause-not_theirs c = let size = after_nots (net_of c.args.graph.now) c.args.x.0 c.args.y.0 (net_of c.add_nots.new.graph) c.in_ok-without_x.without_x.0 c.in_ok-without_x.without_y.0 c.in_ok-without_x.ensures.net c.in_ok-without_x.ensures.first c.in_ok-without_x.ensures.second in let is = c.in_ok-without_x.ensures.second in omega (arith, size, is)

pub add_ands-requires-clause-fits : goal.add_ands-requires-clause-fits
add_ands-requires-clause-fits c = ands_fit (net_of c.args.graph.now) c.args.x.0 c.args.y.0 (net_of c.add_nots.new.graph) c.in_ok-without_x.without_x.0 c.in_ok-without_x.without_y.0 c.in_ok-without_x.ensures.net c.in_ok-without_x.ensures.first c.in_ok-without_x.ensures.second c.requires.fits

pub add_last-requires-clause-drivers : goal.add_last-requires-clause-drivers
add_last-requires-clause-drivers c = λ d among.
    let before = after_nots (net_of c.args.graph.now) c.args.x.0 c.args.y.0 (net_of c.add_nots.new.graph) c.in_ok-without_x.without_x.0 c.in_ok-without_x.without_y.0 c.in_ok-without_x.ensures.net c.in_ok-without_x.ensures.first c.in_ok-without_x.ensures.second in
    let size = after_ands (net_of c.args.graph.now) c.args.x.0 c.args.y.0 (net_of c.add_nots.new.graph) c.in_ok-without_x.without_x.0 c.in_ok-without_x.without_y.0 c.in_ok-without_x.ensures.net c.in_ok-without_x.ensures.first c.in_ok-without_x.ensures.second (net_of c.add_ands.new.graph) c.in_ok-ours.ours.0 c.in_ok-ours.theirs.0 c.in_ok-ours.ensures.net c.in_ok-ours.ensures.first c.in_ok-ours.ensures.second in
    let first = c.in_ok-ours.ensures.first in
    let second = c.in_ok-ours.ensures.second in
    two_below d c.in_ok-ours.ours.0 c.in_ok-ours.theirs.0 (length (net_of c.add_ands.new.graph).nodes) (omega (arith, before, size, first)) (omega (arith, before, size, second)) among

pub add_last-requires-clause-fits : goal.add_last-requires-clause-fits
add_last-requires-clause-fits c = or_fits (net_of c.args.graph.now) c.args.x.0 c.args.y.0 (net_of c.add_nots.new.graph) c.in_ok-without_x.without_x.0 c.in_ok-without_x.without_y.0 c.in_ok-without_x.ensures.net c.in_ok-without_x.ensures.first c.in_ok-without_x.ensures.second (net_of c.add_ands.new.graph) c.in_ok-ours.ours.0 c.in_ok-ours.theirs.0 c.in_ok-ours.ensures.net c.in_ok-ours.ensures.first c.in_ok-ours.ensures.second c.requires.fits

pub returns-clause-net : goal.returns-clause-net
returns-clause-net c = five_made (net_of c.args.graph.now) c.args.x.0 c.args.y.0 (net_of c.add_nots.new.graph) c.in_ok-without_x.without_x.0 c.in_ok-without_x.without_y.0 c.in_ok-without_x.ensures.net c.in_ok-without_x.ensures.first c.in_ok-without_x.ensures.second (net_of c.add_ands.new.graph) c.in_ok-ours.ours.0 c.in_ok-ours.theirs.0 c.in_ok-ours.ensures.net c.in_ok-ours.ensures.first c.in_ok-ours.ensures.second (net_of c.add_last.new.graph) c.in_ok-top.ensures.net

pub returns-clause-last : goal.returns-clause-last
returns-clause-last c = ap (λ (i : ℕ). i ∷ []) (c.in_ok-top.ensures.number ∙ after_ands (net_of c.args.graph.now) c.args.x.0 c.args.y.0 (net_of c.add_nots.new.graph) c.in_ok-without_x.without_x.0 c.in_ok-without_x.without_y.0 c.in_ok-without_x.ensures.net c.in_ok-without_x.ensures.first c.in_ok-without_x.ensures.second (net_of c.add_ands.new.graph) c.in_ok-ours.ours.0 c.in_ok-ours.theirs.0 c.in_ok-ours.ensures.net c.in_ok-ours.ensures.first c.in_ok-ours.ensures.second)

use Rattle.std.proofs.Common.{◌∙◌, length, subst, sym}
use Rattle.std.proofs.lemmas.Bool.{ltb-true}
use Rattle.rm_base.proofs.Public.{read_stands}
use Rattle.gate_graph.specs.Circuit.{net_of}
use Rattle.test_patterns.specs.Inner.Groups.{IsLaneOf}
use Rattle.test_patterns.proofs.Assigned.{on_ok}
use Rattle.test_patterns.proofs.assigning.add_in_lane.Goals as goal

pub returns-clause-draft : goal.returns-clause-draft
returns-clause-draft c =
    let v = c.in-Some-get.vector.now in
    let look = c.in-Some-get.ensures.lookup in
    let there = read_stands c.args.known.now.vectors.now c.in-Some.number v (ltb-true c.in-Some.number (length c.args.known.now.vectors.now) (sym look.0)) look.1 in
    let of : IsLaneOf c.args.words.now c.args.lane v = subst (IsLaneOf c.args.words.now c.args.lane) c.values.ensures (c.is_in_lane.ensures c.if-not-is_in_lane.false) in
    on_ok c.add_lane_pattern.result (λ x. x.draft)
    (c.add_lane_pattern.ensures (net_of c.args.known.now.graph.now) c.args.known.now.faults.now c.args.known.now.vectors.now c.args.known.now.numbers.now c.args.words.now v c.requires.draft c.requires.gathered of (of.size ∙ c.requires.size) there)

pub returns-clause-fewer : goal.returns-clause-fewer
returns-clause-fewer c =
    let v = c.in-Some-get.vector.now in
    let look = c.in-Some-get.ensures.lookup in
    let there = read_stands c.args.known.now.vectors.now c.in-Some.number v (ltb-true c.in-Some.number (length c.args.known.now.vectors.now) (sym look.0)) look.1 in
    let of : IsLaneOf c.args.words.now c.args.lane v = subst (IsLaneOf c.args.words.now c.args.lane) c.values.ensures (c.is_in_lane.ensures c.if-not-is_in_lane.false) in
    on_ok c.add_lane_pattern.result (λ x. x.fewer)
    (c.add_lane_pattern.ensures (net_of c.args.known.now.graph.now) c.args.known.now.faults.now c.args.known.now.vectors.now c.args.known.now.numbers.now c.args.words.now v c.requires.draft c.requires.gathered of (of.size ∙ c.requires.size) there)

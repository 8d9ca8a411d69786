use Rattle.std.proofs.Common.{inl, inr, refl}
use Rattle.gate_graph.specs.Circuit.{net_of}
use Rattle.closing_pass.proofs.Tries.{hit_in_lane, missed_in_lanes}
use Rattle.std.proofs.Common.{◌+◌}
use Rattle.closing_pass.proofs.trying.try_on.Goals as goal

pub returns-in-Some-clause-tried : goal.returns-in-Some-clause-tried
returns-in-Some-clause-tried c =
    inr (c.args.first + c.in-Some.lane, (hit_in_lane (net_of c.args.question.now.graph.now) c.args.kept.now c.args.first c.args.count c.args.question.now.fault c.args.lanes.now.words c.in-Some.lane c.requires.long c.requires.packed c.in-Some.ensures.first.0 c.in-Some.ensures.first.1, refl))

pub returns-in_default-clause-tried : goal.returns-in_default-clause-tried
returns-in_default-clause-tried c =
    inl (refl, λ f is sought. missed_in_lanes (net_of c.args.question.now.graph.now) c.args.kept.now c.args.first c.args.count c.args.question.now.fault c.args.lanes.now.words c.requires.packed (c.in_default.ensures.none refl))

use Rattle.std.proofs.Common.{subst}
use Rattle.gate_graph.specs.Circuit.{net_of}
use Rattle.merging.proofs.Merges.{end_accepted, end_few, end_fewer, end_within}
use Rattle.merging.proofs.Sizing.{HasSize}
use Rattle.merging.proofs.equal_gates.merge_equal.Goals as goal

pub merge_all-requires-clause-effort : goal.merge_all-requires-clause-effort
merge_all-requires-clause-effort c = record { depth = c.requires.depth; budget = c.requires.budget }

pub into_graph-merged-requires : goal.into_graph-merged-requires
into_graph-merged-requires c = c.in_ok-merge_all.ensures.ready.lent.entries

pub returns-clause-accepted : goal.returns-clause-accepted
returns-clause-accepted c = end_accepted c.args.graph c.in_ok-space.space.trial.graph c.merge_all.new.space.trial.graph c.into_graph-merged.result c.in_ok-space.log.items c.merge_all.new.log.items c.in_ok-space.ensures.begun c.in_ok-merge_all.ensures.merged c.into_graph-merged.ensures.same

pub returns-clause-keeps : goal.returns-clause-keeps
returns-clause-keeps c =
    c.accepted_runs_keep.ensures (net_of c.args.graph) (net_of c.into_graph-merged.result) c.merge_all.new.log.items c.well_formed-2.ensures.net
    (end_accepted c.args.graph c.in_ok-space.space.trial.graph c.merge_all.new.space.trial.graph c.into_graph-merged.result c.in_ok-space.log.items c.merge_all.new.log.items c.in_ok-space.ensures.begun c.in_ok-merge_all.ensures.merged c.into_graph-merged.ensures.same)

pub returns-clause-tidy : goal.returns-clause-tidy
returns-clause-tidy c = c.into_graph-merged.ensures.tidy c.in_ok-merge_all.ensures.ready.tidy

pub returns-clause-fewer : goal.returns-clause-fewer
returns-clause-fewer c = end_fewer c.args.graph c.in_ok-space.space.trial.graph c.merge_all.new.space.trial.graph c.into_graph-merged.result c.in_ok-space.log.items c.merge_all.new.log.items c.in_ok-space.ensures.begun c.in_ok-merge_all.ensures.merged c.into_graph-merged.ensures.same

pub returns-clause-within : goal.returns-clause-within
returns-clause-within c =
    let last : HasSize c.merge_all.new.space.trial.graph = subst HasSize c.graph.ensures (record { live = c.well_formed-3.ensures.live; pins = c.well_formed-3.ensures.held }) in
    end_within c.args.graph c.in_ok-space.space.trial.graph c.merge_all.new.space.trial.graph c.into_graph-merged.result c.in_ok-space.log.items c.merge_all.new.log.items last (record { live = c.well_formed-4.ensures.live; pins = c.well_formed-4.ensures.held }) c.in_ok-space.ensures.begun c.in_ok-merge_all.ensures.merged c.into_graph-merged.ensures.same

pub returns-clause-records : goal.returns-clause-records
returns-clause-records c =
    end_few c.args.graph c.in_ok-space.space.trial.graph c.merge_all.new.space.trial.graph c.in_ok-space.log.items c.merge_all.new.log.items (record { live = c.well_formed-2.ensures.live; pins = c.well_formed-2.ensures.held }) c.requires.few c.in_ok-space.ensures.begun c.in_ok-merge_all.ensures.merged

use Rattle.merging.proofs.Merges.{merged_none, merged_then}
use Rattle.merging.proofs.walking.merge_gate.Goals as goal

pub loop-place-init : goal.loop-place-init
loop-place-init c = record { ready = c.requires.ready; merged = merged_none c.args.space.now.trial.graph c.args.log.now.items }

pub loop-place-preserved : goal.loop-place-preserved
loop-place-preserved c = record {
  ready = c.in_ok-merged.ensures.ready;
  merged = merged_then c.args.space.now.trial.graph c.loop-place.space.trial.graph c.try_member.new.space.trial.graph c.args.log.now.items c.loop-place.log.items c.try_member.new.log.items c.loop-place.invariant.merged c.in_ok-merged.ensures.merged;
}

pub returns-then-merged-clause-merged : goal.returns-then-merged-clause-merged
returns-then-merged-clause-merged c = merged_then c.args.space.now.trial.graph c.loop-place.space.trial.graph c.try_member.new.space.trial.graph c.args.log.now.items c.loop-place.log.items c.try_member.new.log.items c.loop-place.invariant.merged c.in_ok-merged.ensures.merged

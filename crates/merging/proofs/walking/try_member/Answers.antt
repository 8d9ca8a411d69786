use Rattle.merging.proofs.Merges.{merged_none}
use Rattle.merging.proofs.walking.try_member.Goals as goal

pub returns-then-left-eq0-clause-merged : goal.returns-then-left-eq0-clause-merged
returns-then-left-eq0-clause-merged c = merged_none c.args.space.now.trial.graph c.args.log.now.items

pub returns-in-None-clause-merged : goal.returns-in-None-clause-merged
returns-in-None-clause-merged c = merged_none c.args.space.now.trial.graph c.args.log.now.items

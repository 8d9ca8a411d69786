use Rattle.merging.proofs.Merges.{merged_none}
use Rattle.merging.proofs.walking.merge_node.Goals as goal

pub returns-then-not-is_junction-clause-merged : goal.returns-then-not-is_junction-clause-merged
returns-then-not-is_junction-clause-merged c = merged_none c.args.space.now.trial.graph c.args.log.now.items

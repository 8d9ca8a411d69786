use Rattle.changed_nodes.proofs.Noting.{listed_last}
use Rattle.changed_nodes.proofs.changes.list.Goals as goal

pub returns : goal.returns
returns c = listed_last c.args.nodes.now.items c.args.node c.push.new.self.items c.in_ok-push.ensures.items

use Rattle.recursive_learning.proofs.Indexes.{index_pop}
use Rattle.recursive_learning.proofs.resting.pop_entry.Goals as goal

pub returns-clause-index : goal.returns-clause-index
returns-clause-index c =
    index_pop c.pop.new.self.items c.in-Some.entry c.args.last.now.items (rw c.in-Some.ensures.items at c.requires.index)

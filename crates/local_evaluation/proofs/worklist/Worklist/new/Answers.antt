use Rattle.local_evaluation.proofs.Worklists.{worklist_first}
use Rattle.local_evaluation.proofs.worklist.Worklist.new.Goals as goal

pub invariant_of-result : goal.invariant_of-result
invariant_of-result c = worklist_first c.args.numbers c.in_ok-marks.marks.items c.in_ok-queue.queue.items c.in_ok-marks.ensures c.in_ok-queue.ensures

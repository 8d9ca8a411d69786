use Rattle.std.proofs.Common.{arith, get_or, ◌-◌, ◌<◌, ◌≡◌, ◌≢◌, length}
use Rattle.local_evaluation.proofs.Worklists.{worklist_take, read_is, take_within}
use Rattle.local_evaluation.proofs.worklist.Worklist.take.Goals as goal

pub invariant_of-self : goal.invariant_of-self
invariant_of-self c =
    let some : c.self.inside.count ≢ 0 = c.if-self-eq0.false in
    let within : c.self.inside.count - 1 < length c.self.inside.queue.items = omega (arith, take_within c.self.inside.marks.items c.self.inside.queue.items c.self.inside.count c.self.invariant) in
    let is : get_or c.self.inside.queue.items (c.self.inside.count - 1) 0 ≡ c.index-number.result.now = read_is c.self.inside.queue.items (c.self.inside.count - 1) c.index-number.result.now within c.index-number.ensures in
    rw (← is) (worklist_take c.self.inside.marks.items c.self.inside.queue.items c.self.inside.count (c.self.inside.count - 1) (omega arith) c.self.invariant)

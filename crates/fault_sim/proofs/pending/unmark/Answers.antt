use Rattle.std.proofs.lemmas.List.{get_or_read}
use Rattle.fault_sim.proofs.PendingBits.{unmarked}
use Rattle.fault_sim.proofs.pending.unmark.Goals as goal

pub returns : goal.returns
returns c = rw c.without_bit.ensures (unmarked c.args.pending.now.items c.args.place c.index.result.now (get_or_read c.args.pending.now.items _ _ c.requires c.index.ensures 0) c.requires)

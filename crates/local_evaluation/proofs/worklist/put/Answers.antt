use Rattle.std.proofs.Common.{arith, false, sym}
use Rattle.gate_graph.proofs.Public.{is_at}
use Rattle.local_evaluation.proofs.Worklists.{worklist_put, put_fits}
use Rattle.local_evaluation.proofs.worklist.put.Goals as goal

pub index_mut-requires-2 : goal.index_mut-requires-2
index_mut-requires-2 c =
    omega (arith, put_fits c.args.marks.now.items c.args.queue.now.items c.args.count.now c.requires.worklist c.args.number (is_at c.args.marks.now.items c.args.number false c.requires.number (sym (rw c.if-index.false at c.index.ensures))), c.args.queue.now.ok)

pub returns-clause-worklist : goal.returns-clause-worklist
returns-clause-worklist c = worklist_put c.args.marks.now.items c.args.queue.now.items c.args.count.now c.requires.worklist c.args.number (is_at c.args.marks.now.items c.args.number false c.requires.number (sym (rw c.if-index.false at c.index.ensures)))

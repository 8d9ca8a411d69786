use Rattle.std.proofs.Common.{arith}
use Rattle.gate_graph.specs.Circuit.{net_of}
use Rattle.rm_base.proofs.Public.{on_err}
use Rattle.optimisation.proofs.RoundLaws.{stopped_then}
use Rattle.optimisation.proofs.StageLaws.{swept_merged}
use Rattle.optimisation.proofs.stages.sweep_and_merge.Goals as goal

pub merge_gates-requires-clause-few : goal.merge_gates-requires-clause-few
merge_gates-requires-clause-few g c = omega (arith, c.in_ok-swept.ensures.within.size, c.requires.few)

pub both-requires-clause-adds : goal.both-requires-clause-adds
both-requires-clause-adds g c = omega (arith, c.in_ok-swept.ensures.removed.few, c.in_ok-merged.ensures.few.adds)

pub both-requires-clause-fixes : goal.both-requires-clause-fixes
both-requires-clause-fixes g c = omega (arith, c.in_ok-swept.ensures.removed.few, c.in_ok-merged.ensures.few.fixes)

pub both-requires-clause-local : goal.both-requires-clause-local
both-requires-clause-local g c = omega (arith, c.in_ok-swept.ensures.removed.few, c.in_ok-merged.ensures.few.local)

pub returns-in_err-merged-clause-stopped : goal.returns-in_err-merged-clause-stopped
returns-in_err-merged-clause-stopped g c =
    let r = c.in_ok-swept.ensures.removed in
    on_err c.from_residual-in_err-merged.result (stopped_then c.runs_join.ensures c.texts_append.ensures (net_of c.args.graph) (net_of c.in_ok-swept.swept) r.records (g.S.Shelf.files c.args.shelf.now) (g.S.Shelf.files c.remove_redundant.new.shelf) (g.S.Shelf.files c.merge_gates.new.shelf) c.args.journal.now r.accepted r.written c.in_err-merged.ensures.stopped)

pub returns-clause-merged : goal.returns-clause-merged
returns-clause-merged g c =
    swept_merged c.runs_join.ensures c.texts_append.ensures (net_of c.args.graph) (net_of c.in_ok-swept.swept) (net_of c.in_ok-merged.merged.graph) c.sweep_depth.result c.in_ok-swept.made c.in_ok-merged.merged.made c.both.result c.in_ok-merged.merged.changed
    (g.S.Shelf.files c.args.shelf.now) (g.S.Shelf.files c.remove_redundant.new.shelf) (g.S.Shelf.files c.merge_gates.new.shelf) c.args.journal.now
    c.in_ok-swept.ensures.removed c.in_ok-merged.ensures.merged c.in_ok-merged.ensures.few c.both.ensures

pub returns-clause-few : goal.returns-clause-few
returns-clause-few g c = omega (arith, c.in_ok-swept.ensures.within.size, c.in_ok-merged.ensures.within.size, c.requires.few)

use Rattle.std.proofs.Common.{refl, rules}
use Rattle.gate_graph.specs.Circuit.{net_of}
use Rattle.refutation_check.proofs.Turnings.{none_read, stopped_read}
use Rattle.refutation_check.proofs.reading.Walk.read.Goals.{else-eq-via-else-eq, else-eq-via-then-eq+else-pass}
use Rattle.refutation_check.proofs.reading.Walk.read.Goals as goal

pub returns-clause-err : goal.returns-clause-err
returns-clause-err c ne = elim c.else-eq.branch [
  | else-eq-via-then-eq+else-pass w ↦
      none_read (net_of c.args.question.now.graph.now) c.args.question.now.fault c.args.form c.args.self.now.branches c.args.number c.args.item.now _ (w.if-pass.ensures.none refl)
  | else-eq-via-else-eq w ↦
      stopped_read (net_of c.args.question.now.graph.now) c.args.question.now.fault c.args.form c.args.self.now.branches c.args.number c.args.item.now c.if-not-self.false (search rules)
]

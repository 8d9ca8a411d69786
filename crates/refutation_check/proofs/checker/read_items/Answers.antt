use Rattle.std.proofs.Common.{arith, false, refl, sym, true, ◌∙◌, ◌≡◌}
use Rattle.std.proofs.lemmas.Result.{err_from_is_err_and}
use Rattle.gate_graph.specs.Circuit.{net_of}
use Rattle.refutation.specs.declared.items.Item.TheVariants.{Line}
use Rattle.refutation.specs.declared.reasoning.Line.TheVariants.{Act}
use Rattle.refutation_check.proofs.Steps.{read_step, refused_after, refused_here}
use Rattle.refutation_check.specs.Inner.Standing.{left_of}
use Rattle.refutation_check.proofs.checker.read_items.Goals as goal

pub loop-item-init : goal.loop-item-init
loop-item-init c = record {
  walk = c.requires.walk;
  site = c.requires.site;
  numbers = refl;
  size = refl;
  number = refl;
  read = sym c.requires.left;
}

pub loop-item-preserved : goal.loop-item-preserved
loop-item-preserved c = record {
  walk = c.in_ok-read.ensures.ok.walk;
  site = c.in_ok-read.ensures.site;
  numbers = c.in_ok-read.ensures.numbers ∙ c.loop-item.invariant.numbers;
  size = c.in_ok-read.ensures.size ∙ c.loop-item.invariant.size;
  number = omega arith;
  read = read_step (net_of c.args.question.now.graph.now) c.args.question.now.fault c.args.form c.args.items.now (Line Act) c.loop-item.item-index (left_of c.loop-item.walk.branches) (left_of c.read.new.self.branches) c.loop-item-test.true c.loop-item.invariant.read c.in_ok-read.ensures.ok.read;
}

pub returns-in_err-read-clause-err : goal.returns-in_err-read-clause-err
returns-in_err-read-clause-err c =
    let p = err_from_is_err_and c.from_residual.result c.from_residual.ensures.1 in
    rw (p.1, p.2)
    (λ ne.
    refused_here (net_of c.args.question.now.graph.now) c.args.question.now.fault c.args.form c.args.items.now (Line Act) c.loop-item.item-index c.loop-item.number (left_of c.loop-item.walk.branches) c.in_err-read.field-0.0 c.loop-item.invariant.number
    c.loop-item-test.true c.loop-item.invariant.read (c.in_err-read.ensures.err ne))

pub returns-clause-err : goal.returns-clause-err
returns-clause-err c ne =
    refused_after (net_of c.args.question.now.graph.now) c.args.question.now.fault c.args.form c.args.items.now c.loop-item.item-index c.loop-item.number (left_of c.loop-item.walk.branches) c.loop-item.invariant.number (omega arith) (omega arith) c.loop-item.invariant.read
    (λ end. let wrong : false ≡ true = sym c.if-is_end.false ∙ c.is_end.ensures.1 end in cc)

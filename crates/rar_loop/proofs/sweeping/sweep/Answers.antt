use Rattle.std.proofs.Common.{◌≡◌, ◌+◌, ◌≤◌, Bool, true, false, subst, length, arith}
use Rattle.gate_graph.specs.Circuit.{net_of}
use Rattle.wire_edit.specs.Work.{work}
use Rattle.rar_loop.specs.Inner.Swept.{HasPassed}
use Rattle.recorded_removals.proofs.Public.{goes_then}
use Rattle.rar_loop.proofs.Looking.{pays_more, swept_last}
use Rattle.rar_loop.proofs.sweeping.sweep.Goals as goal

pub returns-then-not-has_fixed-clause-goes : goal.returns-then-not-has_fixed-clause-goes
returns-then-not-has_fixed-clause-goes c =
    goes_then c.args.space.now.trial c.loop-has_fixed.space.trial c.pass.new.space.trial c.args.log.now.items c.loop-has_fixed.log.items c.pass.new.log.items c.loop-has_fixed.invariant.goes c.in_ok-has_fixed.ensures.goes

pub returns-then-not-has_fixed-clause-swept : goal.returns-then-not-has_fixed-clause-swept
returns-then-not-has_fixed-clause-swept c =
    let none : c.in_ok-has_fixed.has_fixed ≡ false = c.if-not-has_fixed.true in
    let passed : HasPassed (net_of c.loop-has_fixed.space.trial.graph) (net_of c.pass.new.space.trial.graph) c.args.depth (length (net_of c.pass.new.space.trial.graph).nodes) false =
    subst (λ (b : Bool). HasPassed (net_of c.loop-has_fixed.space.trial.graph) (net_of c.pass.new.space.trial.graph) c.args.depth (length (net_of c.pass.new.space.trial.graph).nodes) b) none c.in_ok-has_fixed.ensures.passed in
    swept_last (net_of c.args.space.now.trial.graph) (net_of c.loop-has_fixed.space.trial.graph) (net_of c.pass.new.space.trial.graph) c.args.depth c.loop-has_fixed.invariant.pays passed

pub loop-has_fixed-preserved : goal.loop-has_fixed-preserved
loop-has_fixed-preserved c =
    let inv = c.loop-has_fixed.invariant in
    let some : c.in_ok-has_fixed.has_fixed ≡ true = c.if-not-has_fixed.false in
    let passed : HasPassed (net_of c.loop-has_fixed.space.trial.graph) (net_of c.pass.new.space.trial.graph) c.args.depth (length (net_of c.pass.new.space.trial.graph).nodes) true =
    subst (λ (b : Bool). HasPassed (net_of c.loop-has_fixed.space.trial.graph) (net_of c.pass.new.space.trial.graph) c.args.depth (length (net_of c.pass.new.space.trial.graph).nodes) b) some c.in_ok-has_fixed.ensures.passed in
    let zero : work (net_of c.pass.new.space.trial.graph) + 0 ≤ c.pass.new.space.trial.room.steps = c.in_ok-has_fixed.ensures.goes.room 0 (omega (arith, inv.room)) in
    record {
      goes = goes_then c.args.space.now.trial c.loop-has_fixed.space.trial c.pass.new.space.trial c.args.log.now.items c.loop-has_fixed.log.items c.pass.new.log.items inv.goes c.in_ok-has_fixed.ensures.goes;
      tidy = c.in_ok-has_fixed.ensures.tidy;
      pays = pays_more (net_of c.args.space.now.trial.graph) (net_of c.loop-has_fixed.space.trial.graph) (net_of c.pass.new.space.trial.graph) c.args.depth (length (net_of c.pass.new.space.trial.graph).nodes) inv.pays passed;
      touched = λ before d. c.in_ok-has_fixed.ensures.touched before (inv.touched before d);
      tools = c.in_ok-has_fixed.ensures.tools;
      room = omega (arith, zero);
    }

pub returns-then-not-has_fixed-clause-touched : goal.returns-then-not-has_fixed-clause-touched
returns-then-not-has_fixed-clause-touched c = λ before d. c.in_ok-has_fixed.ensures.touched before (c.loop-has_fixed.invariant.touched before d)

use Rattle.std.proofs.Common.{refl}
use Rattle.care_opt.proofs.Going.{few_left, space_left, works_same, works_then}
use Rattle.care_opt.proofs.Refuted.{fell_next}
use Rattle.care_opt.proofs.sweeping.pass.Goals as goal

pub sweep_at-requires-clause-space : goal.sweep_at-requires-clause-space
sweep_at-requires-clause-space c = space_left c.args.bound c.args.trial.now c.loop-gate.trial c.args.made.now c.loop-gate.made c.loop-gate.invariant.works c.requires.space

pub sweep_at-requires-clause-few : goal.sweep_at-requires-clause-few
sweep_at-requires-clause-few c = few_left c.args.bound c.args.trial.now c.loop-gate.trial c.args.made.now c.loop-gate.made c.loop-gate.invariant.works c.requires.few

pub loop-gate-init : goal.loop-gate-init
loop-gate-init c = record { works = works_same c.args.bound c.args.trial.now c.args.trial.now c.args.made.now refl refl; tidy = c.requires.tidy; fell = tt; serves = c.requires.serves; kept = c.requires.kept }

pub loop-gate-preserved : goal.loop-gate-preserved
loop-gate-preserved c = record {
  works = works_then c.runs_join.ensures c.args.bound c.args.trial.now c.loop-gate.trial c.sweep_at.new.trial c.args.made.now c.loop-gate.made c.sweep_at.new.made c.loop-gate.invariant.works c.in_ok-found.ensures.works;
  tidy = c.in_ok-found.ensures.tidy;
  fell = fell_next c.args.bound c.args.trial.now c.loop-gate.trial c.sweep_at.new.trial c.loop-gate.made c.sweep_at.new.made c.loop-gate.has_fixed c.in_ok-found.found c.either-has_fixed.result c.either-has_fixed.ensures c.loop-gate.invariant.fell c.loop-gate.invariant.works.less c.in_ok-found.ensures.fell c.in_ok-found.ensures.works;
  serves = c.in_ok-found.ensures.serves;
  kept = c.in_ok-found.ensures.kept;
}

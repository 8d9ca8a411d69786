use Rattle.std.proofs.Common.{refl}
use Rattle.care_opt.proofs.Going.{few_left, space_left, works_same, works_then}
use Rattle.care_opt.proofs.sweeping.sweep.Goals as goal

pub pass-requires-clause-space : goal.pass-requires-clause-space
pass-requires-clause-space c = space_left c.args.bound c.args.trial.now c.loop-has_fixed.trial c.args.made.now c.loop-has_fixed.made c.loop-has_fixed.invariant.works c.requires.space

pub pass-requires-clause-few : goal.pass-requires-clause-few
pass-requires-clause-few c = few_left c.args.bound c.args.trial.now c.loop-has_fixed.trial c.args.made.now c.loop-has_fixed.made c.loop-has_fixed.invariant.works c.requires.few

pub loop-has_fixed-init : goal.loop-has_fixed-init
loop-has_fixed-init c = record { works = works_same c.args.bound c.args.trial.now c.args.trial.now c.args.made.now refl refl; tidy = c.requires.tidy; serves = c.requires.serves; kept = c.requires.kept }

pub loop-has_fixed-preserved : goal.loop-has_fixed-preserved
loop-has_fixed-preserved c = record {
  works = works_then c.runs_join.ensures c.args.bound c.args.trial.now c.loop-has_fixed.trial c.pass.new.trial c.args.made.now c.loop-has_fixed.made c.pass.new.made c.loop-has_fixed.invariant.works c.in_ok-has_fixed.ensures.works;
  tidy = c.in_ok-has_fixed.ensures.tidy;
  serves = c.in_ok-has_fixed.ensures.serves;
  kept = c.in_ok-has_fixed.ensures.kept;
}

pub returns-then-not-has_fixed-clause-works : goal.returns-then-not-has_fixed-clause-works
returns-then-not-has_fixed-clause-works c =
    works_then c.runs_join.ensures c.args.bound c.args.trial.now c.loop-has_fixed.trial c.pass.new.trial c.args.made.now c.loop-has_fixed.made c.pass.new.made c.loop-has_fixed.invariant.works c.in_ok-has_fixed.ensures.works

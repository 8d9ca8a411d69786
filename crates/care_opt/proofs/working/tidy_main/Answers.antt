use Rattle.std.proofs.Common.{refl}
use Rattle.care_opt.proofs.Going.{few_left, space_left, works_same, works_then}
use Rattle.care_opt.proofs.working.tidy_main.Goals as goal

pub tidy_once-goes_on-requires-clause-space : goal.tidy_once-goes_on-requires-clause-space
tidy_once-goes_on-requires-clause-space c = space_left c.args.bound c.args.trial.now c.loop-bound.trial c.args.made.now c.loop-bound.made c.loop-bound.invariant c.requires.space

pub tidy_once-goes_on-requires-clause-few : goal.tidy_once-goes_on-requires-clause-few
tidy_once-goes_on-requires-clause-few c = few_left c.args.bound c.args.trial.now c.loop-bound.trial c.args.made.now c.loop-bound.made c.loop-bound.invariant c.requires.few

pub loop-bound-init : goal.loop-bound-init
loop-bound-init c = works_same c.args.bound c.args.trial.now c.args.trial.now c.args.made.now refl refl

pub loop-bound-preserved : goal.loop-bound-preserved
loop-bound-preserved c =
    works_then c.runs_join.ensures c.args.bound c.args.trial.now c.loop-bound.trial c.tidy_once-goes_on.new.trial c.args.made.now c.loop-bound.made c.tidy_once-goes_on.new.made c.loop-bound.invariant c.tidy_once-goes_on.ensures.works

pub returns-then-not-goes_on-clause-works : goal.returns-then-not-goes_on-clause-works
returns-then-not-goes_on-clause-works c =
    works_then c.runs_join.ensures c.args.bound c.args.trial.now c.loop-bound.trial c.tidy_once-goes_on.new.trial c.args.made.now c.loop-bound.made c.tidy_once-goes_on.new.made c.loop-bound.invariant c.tidy_once-goes_on.ensures.works

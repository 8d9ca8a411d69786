use Rattle.care_opt.proofs.Going.{fell_left, few_left, space_left, works_then}
use Rattle.care_opt.proofs.working.fix_main.Goals as goal

pub tidy_main-requires-clause-space : goal.tidy_main-requires-clause-space
tidy_main-requires-clause-space c = space_left c.args.bound c.args.trial.now c.fix_once.new.trial c.args.made.now c.fix_once.new.made c.fix_once.ensures.works c.requires.space

pub tidy_main-requires-clause-few : goal.tidy_main-requires-clause-few
tidy_main-requires-clause-few c = few_left c.args.bound c.args.trial.now c.fix_once.new.trial c.args.made.now c.fix_once.new.made c.fix_once.ensures.works c.requires.few

pub returns-clause-works : goal.returns-clause-works
returns-clause-works c =
    works_then c.runs_join.ensures c.args.bound c.args.trial.now c.fix_once.new.trial c.tidy_main.new.trial c.args.made.now c.fix_once.new.made c.tidy_main.new.made c.fix_once.ensures.works c.tidy_main.ensures.works

pub returns-clause-fell : goal.returns-clause-fell
returns-clause-fell c = fell_left c.args.bound c.args.trial.now c.fix_once.new.trial c.tidy_main.new.trial c.fix_once.new.made c.tidy_main.new.made c.tidy_main.ensures.works c.fix_once.ensures.fell

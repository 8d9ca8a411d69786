use Rattle.care_opt.proofs.Going.{few_left, space_left, works_then}
use Rattle.care_opt.proofs.optimising.work_on.Goals as goal

pub sweep-requires-clause-space : goal.sweep-requires-clause-space
sweep-requires-clause-space c = space_left c.args.bound c.args.trial.now c.tidy_main.new.trial c.args.made.now c.tidy_main.new.made c.tidy_main.ensures.works c.requires.space

pub sweep-requires-clause-few : goal.sweep-requires-clause-few
sweep-requires-clause-few c = few_left c.args.bound c.args.trial.now c.tidy_main.new.trial c.args.made.now c.tidy_main.new.made c.tidy_main.ensures.works c.requires.few

pub close_main-requires-clause-space : goal.close_main-requires-clause-space
close_main-requires-clause-space c =
    space_left c.args.bound c.tidy_main.new.trial c.sweep.new.trial c.tidy_main.new.made c.sweep.new.made c.in_ok-sweep.ensures.works (space_left c.args.bound c.args.trial.now c.tidy_main.new.trial c.args.made.now c.tidy_main.new.made c.tidy_main.ensures.works c.requires.space)

pub close_main-requires-clause-few : goal.close_main-requires-clause-few
close_main-requires-clause-few c =
    few_left c.args.bound c.tidy_main.new.trial c.sweep.new.trial c.tidy_main.new.made c.sweep.new.made c.in_ok-sweep.ensures.works (few_left c.args.bound c.args.trial.now c.tidy_main.new.trial c.args.made.now c.tidy_main.new.made c.tidy_main.ensures.works c.requires.few)

pub returns-clause-works : goal.returns-clause-works
returns-clause-works c =
    works_then c.runs_join.ensures c.args.bound c.args.trial.now c.tidy_main.new.trial c.close_main.new.trial c.args.made.now c.tidy_main.new.made c.close_main.new.made c.tidy_main.ensures.works
    (works_then c.runs_join.ensures c.args.bound c.tidy_main.new.trial c.sweep.new.trial c.close_main.new.trial c.tidy_main.new.made c.sweep.new.made c.close_main.new.made c.in_ok-sweep.ensures.works c.in_ok-records.ensures.works)

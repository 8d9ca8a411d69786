use Rattle.std.proofs.Common.{subst, sym, ℕ, ◌∙◌}
use Rattle.optimisation.specs.Allowed.{IsAllowed}
use Rattle.optimisation.proofs.AllowedLaws.{allowed_then}
use Rattle.optimisation.proofs.turns.rounds_behind.Goals as goal

pub returns-clause-followed : goal.returns-clause-followed
returns-clause-followed g c = record {
  rounds = c.in_ok-rounds.rounds;
  ended = c.in_ok-rounds.ensures.ended;
  within = c.in_ok-rounds.ensures.allowed.within;
  graph = c.with_counts.ensures.graph;
  made_are = c.with_counts.ensures.made ∙ c.in-Some.ensures;
  tries_are = c.with_counts.ensures.tries;
  limit_is = c.with_counts.ensures.limit;
  settled = c.with_counts.ensures.settled;
  report = c.with_counts.ensures.report;
}

pub returns-clause-allowed : goal.returns-clause-allowed
returns-clause-allowed g c =
    subst (λ (k : ℕ). IsAllowed c.args.settings.now k c.go_rounds.new.work) (sym c.with_counts.ensures.limit)
    (allowed_then c.args.settings.now c.args.limit c.args.tries c.in_ok-rounds.rounds.last.limit c.args.work.now c.go_rounds.new.work c.requires.allowed c.requires.tries c.in_ok-rounds.ensures.allowed c.go_rounds.ensures.grown)

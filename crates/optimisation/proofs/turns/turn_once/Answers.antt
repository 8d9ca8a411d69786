use Rattle.std.proofs.Common.{subst, ◌+◌}
use Rattle.rm_base.specs.declared.settings.Made.{Made}
use Rattle.gate_graph.specs.Circuit.{net_of}
use Rattle.rm_base.proofs.Public.{on_err}
use Rattle.optimisation.specs.Inner.Turned.{HaveFollowed}
use Rattle.optimisation.proofs.AllowedLaws.{allowed_still}
use Rattle.optimisation.proofs.RoundLaws.{stopped_then}
use Rattle.optimisation.proofs.turns.turn_once.Goals as goal

pub returns-in_err-rounds-clause-stopped : goal.returns-in_err-rounds-clause-stopped
returns-in_err-rounds-clause-stopped g c =
    let p = c.in_ok-turned.ensures.perturbed in
    on_err c.from_residual-in_err-rounds.result
    (stopped_then c.runs_join.ensures c.texts_append.ensures (net_of c.args.rounds.last.graph) (net_of c.in_ok-turned.turned.graph) p.records (g.S.Shelf.files c.args.shelf.now) (g.S.Shelf.files c.perturb.new.shelf) (g.S.Shelf.files c.rounds_behind.new.shelf) c.args.journal.now
    p.accepted p.written c.in_err-rounds.ensures.stopped)

pub returns-clause-turned : goal.returns-clause-turned
returns-clause-turned g c = record {
  mid = c.in_ok-turned.turned.graph;
  spent = c.in_ok-turned.turned.tries;
  made = c.in_ok-turned.turned.made;
  one = g.S.Shelf.files c.perturb.new.shelf;
  perturbed = c.in_ok-turned.ensures.perturbed;
  followed = subst (λ (m : Made). HaveFollowed c.args.settings.now c.in_ok-turned.turned.graph m (c.args.rounds.last.tries + c.in_ok-turned.turned.tries) c.args.rounds.last.limit c.in_ok-rounds.rounds (g.S.Shelf.files c.perturb.new.shelf) (g.S.Shelf.files c.rounds_behind.new.shelf) c.args.journal.now)
      c.in-Some.ensures c.in_ok-rounds.ensures.followed;
}

pub rounds_behind-requires-clause-allowed : goal.rounds_behind-requires-clause-allowed
rounds_behind-requires-clause-allowed g c κs within = allowed_still c.args.settings.now c.args.rounds.last.limit c.args.work.now c.perturb.new.work c.requires.allowed c.perturb.ensures.grown

pub returns-then-is_none-clause-allowed : goal.returns-then-is_none-clause-allowed
returns-then-is_none-clause-allowed g c = allowed_still c.args.settings.now c.args.rounds.last.limit c.args.work.now c.perturb.new.work c.requires.allowed c.perturb.ensures.grown

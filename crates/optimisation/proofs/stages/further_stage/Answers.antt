use Rattle.std.proofs.Common.{ap, arith, inr, subst, sym, ℕ, ◌∙◌}
use Rattle.rm_base.specs.declared.settings.Made.{Made}
use Rattle.gate_graph.specs.Circuit.{net_of}
use Rattle.rm_base.proofs.Public.{on_err}
use Rattle.optimisation.specs.Allowed.{IsAllowed}
use Rattle.optimisation.specs.Inner.Ran.{sum_of}
use Rattle.optimisation.proofs.AllowedLaws.{allowed_still, allowed_then}
use Rattle.optimisation.proofs.RoundLaws.{stopped_then}
use Rattle.optimisation.proofs.stages.further_stage.Goals as goal

pub returns-in_err-more-clause-stopped : goal.returns-in_err-more-clause-stopped
returns-in_err-more-clause-stopped g c =
    let m = c.in_ok-merged.ensures.merged in
    on_err c.from_residual-in_err-more.result
    (stopped_then c.runs_join.ensures c.texts_append.ensures (net_of c.args.rounds.last.graph) (net_of c.in_ok-merged.merged.graph) m.records (g.S.Shelf.files c.args.shelf.now) (g.S.Shelf.files c.merge_gates.new.shelf) (g.S.Shelf.files c.go_rounds.new.shelf) c.args.journal.now
    m.accepted m.written c.in_err-more.ensures.stopped)

pub returns-clause-went : goal.returns-clause-went
returns-clause-went g c =
    inr (record {
      mid = c.in_ok-merged.merged.graph;
      made = c.in_ok-merged.merged.made;
      changed = c.in_ok-merged.merged.changed;
      one = g.S.Shelf.files c.merge_gates.new.shelf;
      merged = c.in_ok-merged.ensures.merged;
      rounds = c.in_ok-more.more;
      ended = c.in_ok-more.ensures.ended;
      within = c.in_ok-more.ensures.allowed.within;
      graph = c.counted_on.ensures.graph;
      made_are = c.counted_on.ensures.made ∙ ap (λ (x : Made). sum_of x c.in_ok-more.more.last.made) c.both.ensures;
      tries = c.counted_on.ensures.tries;
      limit = c.counted_on.ensures.limit;
      settled = c.counted_on.ensures.settled;
      report = c.counted_on.ensures.report;
    })

pub returns-clause-allowed : goal.returns-clause-allowed
returns-clause-allowed g c =
    let before = c.args.rounds.last in
    subst (λ (k : ℕ). IsAllowed c.args.settings.now k c.go_rounds.new.work) (sym c.counted_on.ensures.limit)
    (allowed_then c.args.settings.now before.limit before.tries c.in_ok-more.more.last.limit c.args.work.now c.go_rounds.new.work c.requires.allowed c.requires.tries c.in_ok-more.ensures.allowed (omega (arith, c.merge_gates.ensures.grown, c.go_rounds.ensures.grown)))

pub returns-then-not-merged-clause-allowed : goal.returns-then-not-merged-clause-allowed
returns-then-not-merged-clause-allowed g c =
    allowed_still c.args.settings.now c.args.rounds.last.limit c.args.work.now c.merge_gates.new.work c.requires.allowed c.merge_gates.ensures.grown

use Rattle.std.proofs.Common.{◌≡◌, ◌⊎◌, ◌-◌, ℕ, inl, inr, length, List, Err, sym, ap, subst, arith}
use Rattle.gate_graph.specs.Circuit.{net_of}
use Rattle.journal_ranges.specs.Ranges.{AreFit}
use Rattle.journal_text.specs.Runs.{AreWritable, HasAppended, HasAppendedPart, made_by, records_text, steps_of}
use Rattle.journal_text.specs.declared.record.Record.{Record}
use Rattle.rar_loop.specs.declared.walking.WalkOutcome.{WalkOutcome}
use Rattle.rar_loop.specs.declared.walking.WalkOutcome.TheVariants.{Done, Spent, Gained}
use Rattle.rar_loop.specs.Ended.{AreFew}
use Rattle.rar_loop.specs.Inner.Walking.{AreUsedUp, IsWalkOutcome, IsWalk}
use Rattle.rar_loop.proofs.Looping.{err_ok, err_of, if_err}
use Rattle.rar_loop.proofs.Pairing.{walk_here}
use Rattle.rar_loop.proofs.Streaming.{streams_few, streams_more, streams_done, streams_spent, stopped_whole, stopped_more}
use Rattle.rar_loop.proofs.optimising.improve.Goals as goal

pub loop-tries-init : goal.loop-tries-init
loop-tries-init g c =
    record { under_way = λ before files u. u; left_within = omega arith; ready = c.requires.ready; there = c.requires.there; later = omega arith }

pub returns-in-Done-clause-through : goal.returns-in-Done-clause-through
returns-in-Done-clause-through g c =
    let walk : IsWalk c.loop-tries.space.trial.graph c.loop-tries.start c.args.limits.now.settings.depth c.loop-tries.left c.walk_pairs.new.left c.walk_pairs.new.space.trial.graph Done = walk_here c.loop-tries.space.trial c.walk_pairs.new.space.trial c.loop-tries.start c.args.limits.now.settings.depth c.loop-tries.left c.walk_pairs.new.left Done (subst (λ (end : WalkOutcome). IsWalkOutcome c.loop-tries.space.trial c.loop-tries.start c.args.limits.now.settings.depth c.loop-tries.left c.walk_pairs.new.left c.walk_pairs.new.space.trial end) c.in-Done.is c.in_ok-walk_pairs.ensures.walk_outcome) in
    λ before files u. streams_done before c.loop-tries.space.trial.graph c.args.start.now c.loop-tries.start c.args.limits.now.settings.depth c.args.limits.now.settings.tries c.loop-tries.left c.walk_pairs.new.left c.walk_pairs.new.space.trial.graph c.loop-tries.made files (g.S.Shelf.files c.loop-tries.shelf) c.args.journal.now (c.loop-tries.invariant.under_way before files u) walk

pub returns-in-Spent-clause-through : goal.returns-in-Spent-clause-through
returns-in-Spent-clause-through g c =
    let walk : IsWalk c.loop-tries.space.trial.graph c.loop-tries.start c.args.limits.now.settings.depth c.loop-tries.left c.walk_pairs.new.left c.walk_pairs.new.space.trial.graph (Spent c.in-Spent.at c.in-Spent.work) = walk_here c.loop-tries.space.trial c.walk_pairs.new.space.trial c.loop-tries.start c.args.limits.now.settings.depth c.loop-tries.left c.walk_pairs.new.left (Spent c.in-Spent.at c.in-Spent.work) (subst (λ (end : WalkOutcome). IsWalkOutcome c.loop-tries.space.trial c.loop-tries.start c.args.limits.now.settings.depth c.loop-tries.left c.walk_pairs.new.left c.walk_pairs.new.space.trial end) c.in-Spent.is c.in_ok-walk_pairs.ensures.walk_outcome) in
    λ before files u. streams_spent before c.loop-tries.space.trial.graph c.args.start.now c.loop-tries.start c.args.limits.now.settings.depth c.args.limits.now.settings.tries c.loop-tries.left c.walk_pairs.new.left c.walk_pairs.new.space.trial.graph c.in-Spent.at c.in-Spent.work c.loop-tries.made files (g.S.Shelf.files c.loop-tries.shelf) c.args.journal.now (c.loop-tries.invariant.under_way before files u) walk

pub returns-in-Done-clause-made : goal.returns-in-Done-clause-made
returns-in-Done-clause-made g c =
    let few : AreFew c.loop-tries.made = streams_few c.runs_join.ensures c.requires.under_way.0 c.loop-tries.space.trial.graph c.args.start.now c.loop-tries.start c.args.limits.now.settings.depth c.args.limits.now.settings.tries c.loop-tries.left c.loop-tries.made c.requires.under_way.1.0 (g.S.Shelf.files c.loop-tries.shelf) c.args.journal.now c.requires.under_way.1.1.0 (c.loop-tries.invariant.under_way c.requires.under_way.0 c.requires.under_way.1.0 c.requires.under_way.1.1.1) in
    few

pub returns-in-Spent-clause-made : goal.returns-in-Spent-clause-made
returns-in-Spent-clause-made g c =
    let few : AreFew c.loop-tries.made = streams_few c.runs_join.ensures c.requires.under_way.0 c.loop-tries.space.trial.graph c.args.start.now c.loop-tries.start c.args.limits.now.settings.depth c.args.limits.now.settings.tries c.loop-tries.left c.loop-tries.made c.requires.under_way.1.0 (g.S.Shelf.files c.loop-tries.shelf) c.args.journal.now c.requires.under_way.1.1.0 (c.loop-tries.invariant.under_way c.requires.under_way.0 c.requires.under_way.1.0 c.requires.under_way.1.1.1) in
    few

pub loop-tries-preserved : goal.loop-tries-preserved
loop-tries-preserved g c =
    let walk : IsWalk c.loop-tries.space.trial.graph c.loop-tries.start c.args.limits.now.settings.depth c.loop-tries.left c.walk_pairs.new.left c.walk_pairs.new.space.trial.graph (Gained c.in-Gained.pair c.in-Gained.records) = walk_here c.loop-tries.space.trial c.walk_pairs.new.space.trial c.loop-tries.start c.args.limits.now.settings.depth c.loop-tries.left c.walk_pairs.new.left (Gained c.in-Gained.pair c.in-Gained.records) (subst (λ (end : WalkOutcome). IsWalkOutcome c.loop-tries.space.trial c.loop-tries.start c.args.limits.now.settings.depth c.loop-tries.left c.walk_pairs.new.left c.walk_pairs.new.space.trial end) c.in-Gained.is c.in_ok-walk_pairs.ensures.walk_outcome) in
    record {
      under_way = λ before files u. streams_more c.texts_append.ensures c.runs_join.ensures before c.loop-tries.space.trial.graph c.args.start.now c.loop-tries.start c.args.limits.now.settings.depth c.args.limits.now.settings.tries c.loop-tries.left c.walk_pairs.new.left c.walk_pairs.new.space.trial.graph c.in-Gained.pair c.in-Gained.records c.loop-tries.made c.count_records.new.made files (g.S.Shelf.files c.loop-tries.shelf) (g.S.Shelf.files c.append_records.new.shelf) c.args.journal.now (c.loop-tries.invariant.under_way before files u) walk
          (subst (λ (rs : List Record). HasAppended (g.S.Shelf.files c.loop-tries.shelf) (g.S.Shelf.files c.append_records.new.shelf) c.args.journal.now (records_text rs)) c.deref.ensures.value c.in_ok-append_records-in-Gained.ensures.written)
          (subst AreFit c.deref-in-Gained-2.ensures.value c.records_fit.ensures)
          (subst (λ (rs : List Record). c.count_records.new.made ≡ made_by c.loop-tries.made (steps_of rs)) c.deref-in-Gained.ensures.value c.count_records.ensures);
      left_within = omega (arith, c.loop-tries.invariant.left_within, walk.1.1.1.0);
      ready = c.in_ok-walk_pairs.ensures.ready;
      there = c.in_ok-append_records-in-Gained.ensures.there;
      later = omega (arith, c.loop-tries.invariant.later, c.in_ok-append_records-in-Gained.ensures.later);
    }

pub append_records-requires-clause-writable : goal.append_records-requires-clause-writable
append_records-requires-clause-writable g c =
    let walk : IsWalk c.loop-tries.space.trial.graph c.loop-tries.start c.args.limits.now.settings.depth c.loop-tries.left c.walk_pairs.new.left c.walk_pairs.new.space.trial.graph (Gained c.in-Gained.pair c.in-Gained.records) = walk_here c.loop-tries.space.trial c.walk_pairs.new.space.trial c.loop-tries.start c.args.limits.now.settings.depth c.loop-tries.left c.walk_pairs.new.left (Gained c.in-Gained.pair c.in-Gained.records) (subst (λ (end : WalkOutcome). IsWalkOutcome c.loop-tries.space.trial c.loop-tries.start c.args.limits.now.settings.depth c.loop-tries.left c.walk_pairs.new.left c.walk_pairs.new.space.trial end) c.in-Gained.is c.in_ok-walk_pairs.ensures.walk_outcome) in
    subst AreWritable (sym c.deref.ensures.value) (c.accepted_runs_are_writable.ensures (net_of c.loop-tries.space.trial.graph) (net_of c.walk_pairs.new.space.trial.graph) c.in-Gained.records.items walk.1.1.1.1.gained.accepted)

pub count_records-requires-clause-adds : goal.count_records-requires-clause-adds
count_records-requires-clause-adds g c =
    let walk : IsWalk c.loop-tries.space.trial.graph c.loop-tries.start c.args.limits.now.settings.depth c.loop-tries.left c.walk_pairs.new.left c.walk_pairs.new.space.trial.graph (Gained c.in-Gained.pair c.in-Gained.records) = walk_here c.loop-tries.space.trial c.walk_pairs.new.space.trial c.loop-tries.start c.args.limits.now.settings.depth c.loop-tries.left c.walk_pairs.new.left (Gained c.in-Gained.pair c.in-Gained.records) (subst (λ (end : WalkOutcome). IsWalkOutcome c.loop-tries.space.trial c.loop-tries.start c.args.limits.now.settings.depth c.loop-tries.left c.walk_pairs.new.left c.walk_pairs.new.space.trial end) c.in-Gained.is c.in_ok-walk_pairs.ensures.walk_outcome) in
    let few : AreFew c.loop-tries.made = streams_few c.runs_join.ensures c.requires.under_way.0 c.loop-tries.space.trial.graph c.args.start.now c.loop-tries.start c.args.limits.now.settings.depth c.args.limits.now.settings.tries c.loop-tries.left c.loop-tries.made c.requires.under_way.1.0 (g.S.Shelf.files c.loop-tries.shelf) c.args.journal.now c.requires.under_way.1.1.0 (c.loop-tries.invariant.under_way c.requires.under_way.0 c.requires.under_way.1.0 c.requires.under_way.1.1.1) in
    omega (arith, few.adds, walk.1.1.1.1.few, ap (λ (rs : List Record). length rs) c.deref-in-Gained.ensures.value)

pub count_records-requires-clause-fixes : goal.count_records-requires-clause-fixes
count_records-requires-clause-fixes g c =
    let walk : IsWalk c.loop-tries.space.trial.graph c.loop-tries.start c.args.limits.now.settings.depth c.loop-tries.left c.walk_pairs.new.left c.walk_pairs.new.space.trial.graph (Gained c.in-Gained.pair c.in-Gained.records) = walk_here c.loop-tries.space.trial c.walk_pairs.new.space.trial c.loop-tries.start c.args.limits.now.settings.depth c.loop-tries.left c.walk_pairs.new.left (Gained c.in-Gained.pair c.in-Gained.records) (subst (λ (end : WalkOutcome). IsWalkOutcome c.loop-tries.space.trial c.loop-tries.start c.args.limits.now.settings.depth c.loop-tries.left c.walk_pairs.new.left c.walk_pairs.new.space.trial end) c.in-Gained.is c.in_ok-walk_pairs.ensures.walk_outcome) in
    let few : AreFew c.loop-tries.made = streams_few c.runs_join.ensures c.requires.under_way.0 c.loop-tries.space.trial.graph c.args.start.now c.loop-tries.start c.args.limits.now.settings.depth c.args.limits.now.settings.tries c.loop-tries.left c.loop-tries.made c.requires.under_way.1.0 (g.S.Shelf.files c.loop-tries.shelf) c.args.journal.now c.requires.under_way.1.1.0 (c.loop-tries.invariant.under_way c.requires.under_way.0 c.requires.under_way.1.0 c.requires.under_way.1.1.1) in
    omega (arith, few.fixes, walk.1.1.1.1.few, ap (λ (rs : List Record). length rs) c.deref-in-Gained.ensures.value)

pub count_records-requires-clause-local : goal.count_records-requires-clause-local
count_records-requires-clause-local g c =
    let walk : IsWalk c.loop-tries.space.trial.graph c.loop-tries.start c.args.limits.now.settings.depth c.loop-tries.left c.walk_pairs.new.left c.walk_pairs.new.space.trial.graph (Gained c.in-Gained.pair c.in-Gained.records) = walk_here c.loop-tries.space.trial c.walk_pairs.new.space.trial c.loop-tries.start c.args.limits.now.settings.depth c.loop-tries.left c.walk_pairs.new.left (Gained c.in-Gained.pair c.in-Gained.records) (subst (λ (end : WalkOutcome). IsWalkOutcome c.loop-tries.space.trial c.loop-tries.start c.args.limits.now.settings.depth c.loop-tries.left c.walk_pairs.new.left c.walk_pairs.new.space.trial end) c.in-Gained.is c.in_ok-walk_pairs.ensures.walk_outcome) in
    let few : AreFew c.loop-tries.made = streams_few c.runs_join.ensures c.requires.under_way.0 c.loop-tries.space.trial.graph c.args.start.now c.loop-tries.start c.args.limits.now.settings.depth c.args.limits.now.settings.tries c.loop-tries.left c.loop-tries.made c.requires.under_way.1.0 (g.S.Shelf.files c.loop-tries.shelf) c.args.journal.now c.requires.under_way.1.1.0 (c.loop-tries.invariant.under_way c.requires.under_way.0 c.requires.under_way.1.0 c.requires.under_way.1.1.1) in
    omega (arith, few.local, walk.1.1.1.1.few, ap (λ (rs : List Record). length rs) c.deref-in-Gained.ensures.value)

pub returns-in_err-walk_pairs-clause-stopped : goal.returns-in_err-walk_pairs-clause-stopped
returns-in_err-walk_pairs-clause-stopped g c =
    if_err c.from_residual.result _ (λ e before files u. stopped_whole c.texts_append.ensures before c.loop-tries.space.trial.graph c.args.start.now c.loop-tries.start c.args.limits.now.settings.depth c.args.limits.now.settings.tries c.loop-tries.left c.loop-tries.made files (g.S.Shelf.files c.loop-tries.shelf) c.args.journal.now (c.loop-tries.invariant.under_way before files u))

pub returns-in_err-walk_pairs-clause-through : goal.returns-in_err-walk_pairs-clause-through
returns-in_err-walk_pairs-clause-through g c =
    err_ok c.from_residual.result _ _ c.from_residual.ensures.1

pub returns-in_err-append_records-in-Gained-clause-stopped : goal.returns-in_err-append_records-in-Gained-clause-stopped
returns-in_err-append_records-in-Gained-clause-stopped g c =
    let walk : IsWalk c.loop-tries.space.trial.graph c.loop-tries.start c.args.limits.now.settings.depth c.loop-tries.left c.walk_pairs.new.left c.walk_pairs.new.space.trial.graph (Gained c.in-Gained.pair c.in-Gained.records) = walk_here c.loop-tries.space.trial c.walk_pairs.new.space.trial c.loop-tries.start c.args.limits.now.settings.depth c.loop-tries.left c.walk_pairs.new.left (Gained c.in-Gained.pair c.in-Gained.records) (subst (λ (end : WalkOutcome). IsWalkOutcome c.loop-tries.space.trial c.loop-tries.start c.args.limits.now.settings.depth c.loop-tries.left c.walk_pairs.new.left c.walk_pairs.new.space.trial end) c.in-Gained.is c.in_ok-walk_pairs.ensures.walk_outcome) in
    if_err c.from_residual-in_err-append_records-in-Gained.result _ (λ e before files u. stopped_more c.texts_append.ensures c.runs_join.ensures before c.loop-tries.space.trial.graph c.args.start.now c.loop-tries.start c.args.limits.now.settings.depth c.args.limits.now.settings.tries c.loop-tries.left c.walk_pairs.new.left c.walk_pairs.new.space.trial.graph c.in-Gained.pair c.in-Gained.records c.loop-tries.made files (g.S.Shelf.files c.loop-tries.shelf) (g.S.Shelf.files c.append_records.new.shelf) c.args.journal.now (c.loop-tries.invariant.under_way before files u) walk
    (subst (λ (rs : List Record). HasAppendedPart (g.S.Shelf.files c.loop-tries.shelf) (g.S.Shelf.files c.append_records.new.shelf) c.args.journal.now (records_text rs)) c.deref.ensures.value c.in_err-append_records-in-Gained.ensures.stopped))

pub returns-in_err-append_records-in-Gained-clause-through : goal.returns-in_err-append_records-in-Gained-clause-through
returns-in_err-append_records-in-Gained-clause-through g c =
    err_ok c.from_residual-in_err-append_records-in-Gained.result _ _ c.from_residual-in_err-append_records-in-Gained.ensures.1

pub returns-in_err-append_records-in-Gained-clause-failed : goal.returns-in_err-append_records-in-Gained-clause-failed
returns-in_err-append_records-in-Gained-clause-failed g c = λ failed.
    let rose = c.in_err-append_records-in-Gained.ensures.failed (ap Err (err_of c.from_residual-in_err-append_records-in-Gained.result c.in_err-append_records-in-Gained.field-0.0 c.from_residual-in_err-append_records-in-Gained.ensures.1 failed)) in
    omega (arith, rose, c.loop-tries.invariant.later)

pub returns-in-Spent-clause-cut_short : goal.returns-in-Spent-clause-cut_short
returns-in-Spent-clause-cut_short g c =
    let ends : AreUsedUp c.args.limits.now.settings c.walk_pairs.new.left (Spent c.in-Spent.at c.in-Spent.work) = subst (AreUsedUp c.args.limits.now.settings c.walk_pairs.new.left) c.in-Spent.is c.in_ok-walk_pairs.ensures.ends in
    used_up c.args.limits.now.settings.tries c.walk_pairs.new.left ends
  where
    used_up : {P : Type 0} (limit left : ℕ) → (left ≡ 0) ⊎ P → (limit - left ≡ limit) ⊎ P
    used_up limit left (inl none) = inl (omega (arith, none))
    used_up limit left (inr over) = inr over

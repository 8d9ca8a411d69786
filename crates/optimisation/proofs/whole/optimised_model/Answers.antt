use Rattle.std.proofs.Common.{Result, Ok, Err, refl, ap, subst, ◌∙◌}
use Rattle.std.specs.Prelude.{IfErr}
use Rattle.gate_net.specs.Net.{Net, IsWellFormed, gate_count, wire_count}
use Rattle.optimisation.specs.Inner.Filled.{IsFilled, IsLeft}
use Rattle.optimisation.proofs.WholeLaws.{filled_whole, header_begun, left_begun}
use Rattle.optimisation.proofs.whole.optimised_model.Goals as goal

if_err : {V E : Type 0} (r : Result V E) (P : Type 0) → P → IfErr r (λ _. P)
if_err (Ok x) P h = tt
if_err (Err e) P h = h

pub returns-in_err-open_journal-clause-begun : goal.returns-in_err-open_journal-clause-begun
returns-in_err-open_journal-clause-begun g c =
    if_err c.from_residual-in_err-open_journal.result _
    (header_begun c.args.model.now c.args.settings.now.budget c.args.journal.now (g.S.Shelf.files c.args.shelf.now) (g.S.Shelf.files c.open_journal.new.shelf) c.in_err-open_journal.ensures.begun)

pub returns-in_err-rounds-clause-begun : goal.returns-in_err-rounds-clause-begun
returns-in_err-rounds-clause-begun g c =
    if_err c.from_residual-in_err-rounds.result _
    (left_begun c.args.model.now c.args.settings.now.budget c.args.journal.now (g.S.Shelf.files c.args.shelf.now) (g.S.Shelf.files c.open_journal.new.shelf) (g.S.Shelf.files c.fill_journal.new.shelf) c.in_ok-open_journal.ensures.opened
    (subst (λ (net : Net). IsLeft net c.args.settings.now.budget (g.S.Shelf.files c.open_journal.new.shelf) (g.S.Shelf.files c.fill_journal.new.shelf) c.args.journal.now) c.in_ok-graph.ensures.net c.in_err-rounds.ensures.stopped))

pub returns-clause-whole : goal.returns-clause-whole
returns-clause-whole g c =
    let same = c.in_ok-graph.ensures.net in
    filled_whole c.accepted_runs_keep.ensures c.args.model.now c.args.settings.now c.in_ok-rounds.rounds
    (record {
      wires_before = c.wire_count-wires_before.result;
      gates_before = c.gate_count-gates_before.result;
      wires = c.wire_count.result;
      gates = c.gate_count.result;
      made = c.in_ok-rounds.rounds.last.made;
      tries = c.in_ok-rounds.rounds.last.tries;
      settled = c.in_ok-rounds.rounds.last.settled;
      tested = c.count_verdicts-tested.result.0;
      spent = c.count_verdicts-tested.result.1;
      work = c.fill_journal.new.work;
    })
    (g.S.Shelf.files c.args.shelf.now) (g.S.Shelf.files c.open_journal.new.shelf) (g.S.Shelf.files c.fill_journal.new.shelf) c.args.journal.now
    (subst IsWellFormed same c.well_formed-2.ensures.net)
    (c.decompositions_stand.ensures.wires c.args.model.now c.requires.formed c.requires.ranked)
    c.in_ok-open_journal.ensures.opened
    (subst (λ (net : Net). IsFilled net c.args.settings.now c.in_ok-rounds.rounds (g.S.Shelf.files c.open_journal.new.shelf) (g.S.Shelf.files c.fill_journal.new.shelf) c.args.journal.now) same c.in_ok-rounds.ensures.filled)
    c.in_ok-rounds.ensures.allowed
    (c.wire_count-wires_before.ensures ∙ (ap wire_count same ∙ c.decompositions_stand.ensures.wires c.args.model.now c.requires.formed c.requires.ranked))
    (c.gate_count-gates_before.ensures ∙ ap gate_count same)
    c.wire_count.ensures c.gate_count.ensures refl refl refl c.count_verdicts-tested.ensures.tested c.count_verdicts-tested.ensures.spent

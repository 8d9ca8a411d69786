use Rattle.std.proofs.Common.{◌+◌, ◌≤◌, ◌∙◌, ap, subst, List, [], ◌∷◌, ◌++◌, append_assoc, arith}
use Rattle.wire_edit.proofs.Public.{fix_applies, fix_falls}
use Rattle.wire_edit.specs.declared.steps.Step.TheVariants.{Fix}
use Rattle.journal_text.specs.declared.record.Record.{Record}
use Rattle.journal_text.specs.declared.record.Record.TheVariants as record_of
use Rattle.gate_net.specs.Net.{Net, IsWellFormed}
use Rattle.gate_graph.specs.Circuit.{Circuit, net_of}
use Rattle.wire_edit.specs.Work.{work}
use Rattle.wire_edit.specs.Tidying.{TidiesTo}
use Rattle.changed_nodes.specs.Changing.{HasNoted, NotesOn}
use Rattle.recorded_removals.specs.Going.{Goes}
use Rattle.recorded_removals.proofs.GoingOn.{goes_then, fixed_step, fix_refused}
use Rattle.recorded_removals.proofs.fixing.fix_and_tidy.Goals as goal

pub unreachable-requires : goal.unreachable-requires
unreachable-requires c =
    let formed : IsWellFormed (net_of c.args.trial.now.graph) = subst (λ (v : Circuit). IsWellFormed (net_of v)) c.graph.ensures c.well_formed-2.ensures.net in
    fix_refused c.room_suffices.ensures.fixes c.args.trial.now c.args.fault c.in-Err._refusal formed c.requires.pin c.requires.room c.in-Err.ensures.answer

pub tidy-requires : goal.tidy-requires
tidy-requires c =
    let formed : IsWellFormed (net_of c.args.trial.now.graph) = subst (λ (v : Circuit). IsWellFormed (net_of v)) c.graph.ensures c.well_formed-2.ensures.net in
    let one : Goes c.args.trial.now c.apply.new.self c.args.log.now.items c.push.new.self.items =
    fixed_step c.steps_keep.ensures.sources c.room_suffices.ensures.fixes c.tidying_ends.ensures.fixes c.args.trial.now c.apply.new.self c.args.fault c.args.tree c.args.log.now.items c.push.new.self.items formed c.requires.pin c.requires.tree c.in-Ok.ensures.net c.in-Ok.ensures.room c.in-Ok.ensures.start c.in-Ok.ensures.first c.in-Ok.ensures.epoch c.in_ok-push.ensures.items c.requires.room c.apply.ensures.held in
    let zero : work (net_of c.apply.new.self.graph) + 0 ≤ c.apply.new.self.room.steps = one.room 0 (omega (arith, c.requires.room)) in
    record { room = omega (arith, zero) }

pub returns-clause-goes : goal.returns-clause-goes
returns-clause-goes c =
    let formed : IsWellFormed (net_of c.args.trial.now.graph) = subst (λ (v : Circuit). IsWellFormed (net_of v)) c.graph.ensures c.well_formed-2.ensures.net in
    let one : Goes c.args.trial.now c.apply.new.self c.args.log.now.items c.push.new.self.items =
    fixed_step c.steps_keep.ensures.sources c.room_suffices.ensures.fixes c.tidying_ends.ensures.fixes c.args.trial.now c.apply.new.self c.args.fault c.args.tree c.args.log.now.items c.push.new.self.items formed c.requires.pin c.requires.tree c.in-Ok.ensures.net c.in-Ok.ensures.room c.in-Ok.ensures.start c.in-Ok.ensures.first c.in-Ok.ensures.epoch c.in_ok-push.ensures.items c.requires.room c.apply.ensures.held in
    goes_then c.args.trial.now c.apply.new.self c.tidy.new.trial c.args.log.now.items c.push.new.self.items c.tidy.new.log.items one c.in_ok-tidy.ensures.goes

pub returns-clause-fewer : goal.returns-clause-fewer
returns-clause-fewer c = λ none.
    let formed : IsWellFormed (net_of c.args.trial.now.graph) = subst (λ (v : Circuit). IsWellFormed (net_of v)) c.graph.ensures c.well_formed-2.ensures.net in
    fix_falls (net_of c.args.trial.now.graph) (net_of c.tidy.new.trial.graph) c.args.fault formed none c.requires.pin
    (subst (λ (n : Net). TidiesTo n (net_of c.tidy.new.trial.graph)) c.in-Ok.ensures.net c.in_ok-tidy.ensures.order)

pub returns-clause-fixed : goal.returns-clause-fixed
returns-clause-fixed c =
    let more = c.in_ok-tidy.ensures.local in
    record {
      rest = more.more;
      are = more.added ∙ ap (λ (xs : List Record). xs ++ more.more) c.in_ok-push.ensures.items ∙ append_assoc c.args.log.now.items (record_of.Step (Fix c.args.fault.gate c.args.fault.position c.args.fault.value) c.args.tree ∷ []) more.more;
      local = more.local;
    }

pub returns-clause-noted : goal.returns-clause-noted
returns-clause-noted c = λ before noted.
    let formed : IsWellFormed (net_of c.args.trial.now.graph) = subst (λ (v : Circuit). IsWellFormed (net_of v)) c.graph.ensures c.well_formed-2.ensures.net in
    let fix : NotesOn (net_of c.args.trial.now.graph) (net_of c.apply.new.self.graph) c.args.changed.now c.note.new.self =
    subst (λ (v : Circuit). HasNoted (Fix c.args.fault.gate c.args.fault.position c.args.fault.value) v c.args.changed.now c.note.new.self) c.graph-2.ensures c.in_ok-note.ensures c.args.trial.now.graph formed (fix_applies (net_of c.args.trial.now.graph) c.args.fault formed c.requires.pin) (λ none. none) c.in-Ok.ensures.readers in
    c.in_ok-tidy.ensures.noted before (fix before noted)

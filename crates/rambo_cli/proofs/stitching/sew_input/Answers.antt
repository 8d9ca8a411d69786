use Rattle.std.proofs.Common.{◌≡◌, ◌∙◌, Err, arith, ap, subst, sym}
use Rattle.std.specs.Prelude.{IfSome}
use Rattle.journal_check.proofs.Public.{handed_on}
use Rattle.rm_model.specs.Value.{IsRanked}
use Rattle.rm_model.specs.WellFormed.{IsWellFormed}
use Rattle.rm_model.specs.declared.parts.Model.{Model}
use Rattle.cover_decompose.specs.Count.{decomposed}
use Rattle.rambo_cli.specs.Contract.{Caused}
use Rattle.rambo_cli.specs.Problems.{KeepsFiles}
use Rattle.rambo_cli.specs.Sew.{SewFinds}
use Rattle.rambo_cli.specs.Inner.Problems.{outside_problem}
use Rattle.rambo_cli.specs.Inner.Sew.{IsSewnOf, ModelFinds}
use Rattle.rambo_cli.proofs.Compared.{outside_cause, outside_kept}
use Rattle.rambo_cli.proofs.SewTexts.{input_cause, model_found, sewn_begun, sewn_from, sewn_written}
use Rattle.rambo_cli.proofs.stitching.sew_input.Goals as goal

pub sew_model-requires-clause-formed : goal.sew_model-requires-clause-formed
sew_model-requires-clause-formed g c = subst IsWellFormed (sym c.in_ok-own.ensures.same) c.in_ok-flat.ensures.formed

pub sew_model-requires-clause-ranked : goal.sew_model-requires-clause-ranked
sew_model-requires-clause-ranked g c = subst IsRanked (sym c.in_ok-own.ensures.same) c.in_ok-flat.ensures.ranked

pub sew_model-requires-clause-counted : goal.sew_model-requires-clause-counted
sew_model-requires-clause-counted g c = c.in_ok-own.ensures.wires ∙ ap decomposed (sym c.in_ok-own.ensures.same)

pub returns-in_err-flat-clause-cause : goal.returns-in_err-flat-clause-cause
returns-in_err-flat-clause-cause g c =
    let problem = c.in_err-flat.field-0.0 in
    let n = c.args.names.now in
    handed_on c.from_residual.result problem (Caused (SewFinds n.input.now c.args.width n.prefix.now c.args.shift (g.S.Shelf.files c.args.shelf.now)) (g.S.Shelf.faults c.args.shelf.now) (g.S.Shelf.faults c.wide_model.new.shelf)) c.from_residual.ensures.1
    (input_cause n.input.now c.args.width n.prefix.now c.args.shift (g.S.Shelf.files c.args.shelf.now) (g.S.Shelf.faults c.args.shelf.now) (g.S.Shelf.faults c.wide_model.new.shelf) problem c.in_err-flat.ensures.cause)

pub returns-in_err-sewn-clause-cause : goal.returns-in_err-sewn-clause-cause
returns-in_err-sewn-clause-cause g c =
    let problem = c.in_err-sewn.field-0.0 in
    let n = c.args.names.now in
    let f = c.in_ok-flat.flat in
    handed_on c.from_residual-in_err-sewn.result problem (Caused (SewFinds n.input.now c.args.width n.prefix.now c.args.shift (g.S.Shelf.files c.args.shelf.now)) (g.S.Shelf.faults c.args.shelf.now) (g.S.Shelf.faults c.sew_model.new.shelf)) c.from_residual-in_err-sewn.ensures.1
    (model_found n.input.now c.args.width n.prefix.now c.args.shift f.model f.instances (g.S.Shelf.files c.args.shelf.now) (g.S.Shelf.files c.wide_model.new.shelf) (g.S.Shelf.faults c.args.shelf.now) (g.S.Shelf.faults c.wide_model.new.shelf) (g.S.Shelf.faults c.sew_model.new.shelf) problem
    c.in_ok-flat.ensures.flat c.in_ok-flat.ensures.files c.in_ok-flat.ensures.later
    (subst (λ (m : Model). Caused (ModelFinds m c.args.width n.prefix.now c.args.shift (g.S.Shelf.files c.wide_model.new.shelf)) (g.S.Shelf.faults c.wide_model.new.shelf) (g.S.Shelf.faults c.sew_model.new.shelf) problem) c.in_ok-own.ensures.same c.in_err-sewn.ensures.cause))

pub returns-in_err-replace-clause-cause : goal.returns-in_err-replace-clause-cause
returns-in_err-replace-clause-cause g c =
    let fault = c.in_err-replace.field-0.0 in
    let n = c.args.names.now in
    let finds = SewFinds n.input.now c.args.width n.prefix.now c.args.shift (g.S.Shelf.files c.args.shelf.now) in
    handed_on c.from_residual-in_err-replace.result (outside_problem fault) (Caused finds (g.S.Shelf.faults c.args.shelf.now) (g.S.Shelf.faults c.replace.new.shelf)) c.from_residual-in_err-replace.ensures.1
    (outside_cause fault finds (g.S.Shelf.faults c.args.shelf.now) (g.S.Shelf.faults c.sew_model.new.shelf) (g.S.Shelf.faults c.replace.new.shelf) (omega (arith, c.in_ok-flat.ensures.later, c.in_ok-sewn.ensures.later)) (λ e. c.in_err-replace.ensures.cause.failed (ap Err e)))

pub returns-in_err-replace-clause-unchanged : goal.returns-in_err-replace-clause-unchanged
returns-in_err-replace-clause-unchanged g c =
    let fault = c.in_err-replace.field-0.0 in
    handed_on c.from_residual-in_err-replace.result (outside_problem fault) (λ p. KeepsFiles p (g.S.Shelf.files c.args.shelf.now) (g.S.Shelf.files c.replace.new.shelf)) c.from_residual-in_err-replace.ensures.1
    (outside_kept fault (g.S.Shelf.files c.args.shelf.now) (g.S.Shelf.files c.replace.new.shelf))

pub returns-in_err-replace-clause-safe : goal.returns-in_err-replace-clause-safe
returns-in_err-replace-clause-safe g c =
    let n = c.args.names.now in
    let f = c.in_ok-flat.flat in
    let s = c.in_ok-sewn.sewn in
    let read = g.S.Shelf.files c.wide_model.new.shelf in
    let of : IfSome read (IsSewnOf f.model c.args.width n.prefix.now c.args.shift s.windows s.replayed s.text.wires s.text.before s.text.text.items) =
    subst (λ (m : Model). IfSome read (IsSewnOf m c.args.width n.prefix.now c.args.shift s.windows s.replayed s.text.wires s.text.before s.text.text.items)) c.in_ok-own.ensures.same c.in_ok-sewn.ensures.sewn in
    sewn_begun n.input.now c.args.width n.prefix.now n.output.now c.args.shift s.windows s.replayed s.text.wires s.text.before s.text.text.items c.as_slice.result.now c.as_slice.ensures.value
    (g.S.Shelf.files c.args.shelf.now) (g.S.Shelf.files c.sew_model.new.shelf) (g.S.Shelf.files c.replace.new.shelf) (c.in_ok-sewn.ensures.files ∙ c.in_ok-flat.ensures.files)
    (sewn_from n.input.now c.args.width n.prefix.now c.args.shift f.model f.instances s.windows s.replayed s.text.wires s.text.before s.text.text.items (g.S.Shelf.files c.args.shelf.now) read c.in_ok-flat.ensures.files of c.in_ok-flat.ensures.flat)
    c.in_err-replace.ensures.begun

pub returns-clause-safe : goal.returns-clause-safe
returns-clause-safe g c =
    let n = c.args.names.now in
    let f = c.in_ok-flat.flat in
    let s = c.in_ok-sewn.sewn in
    let read = g.S.Shelf.files c.wide_model.new.shelf in
    let of : IfSome read (IsSewnOf f.model c.args.width n.prefix.now c.args.shift s.windows s.replayed s.text.wires s.text.before s.text.text.items) =
    subst (λ (m : Model). IfSome read (IsSewnOf m c.args.width n.prefix.now c.args.shift s.windows s.replayed s.text.wires s.text.before s.text.text.items)) c.in_ok-own.ensures.same c.in_ok-sewn.ensures.sewn in
    sewn_begun n.input.now c.args.width n.prefix.now n.output.now c.args.shift s.windows s.replayed s.text.wires s.text.before s.text.text.items c.as_slice.result.now c.as_slice.ensures.value
    (g.S.Shelf.files c.args.shelf.now) (g.S.Shelf.files c.sew_model.new.shelf) (g.S.Shelf.files c.replace.new.shelf) (c.in_ok-sewn.ensures.files ∙ c.in_ok-flat.ensures.files)
    (sewn_from n.input.now c.args.width n.prefix.now c.args.shift f.model f.instances s.windows s.replayed s.text.wires s.text.before s.text.text.items (g.S.Shelf.files c.args.shelf.now) read c.in_ok-flat.ensures.files of c.in_ok-flat.ensures.flat)
    c.in_ok-replace.ensures.begun

pub returns-clause-done : goal.returns-clause-done
returns-clause-done g c =
    let n = c.args.names.now in
    let f = c.in_ok-flat.flat in
    let s = c.in_ok-sewn.sewn in
    let read = g.S.Shelf.files c.wide_model.new.shelf in
    let of : IfSome read (IsSewnOf f.model c.args.width n.prefix.now c.args.shift s.windows s.replayed s.text.wires s.text.before s.text.text.items) =
    subst (λ (m : Model). IfSome read (IsSewnOf m c.args.width n.prefix.now c.args.shift s.windows s.replayed s.text.wires s.text.before s.text.text.items)) c.in_ok-own.ensures.same c.in_ok-sewn.ensures.sewn in
    sewn_written n.input.now c.args.width n.prefix.now n.output.now c.args.shift s.windows s.replayed s.text.wires s.text.before s.text.text.items c.as_slice.result.now c.as_slice.ensures.value
    (g.S.Shelf.files c.args.shelf.now) (g.S.Shelf.files c.sew_model.new.shelf) (g.S.Shelf.files c.replace.new.shelf) (c.in_ok-sewn.ensures.files ∙ c.in_ok-flat.ensures.files)
    (sewn_from n.input.now c.args.width n.prefix.now c.args.shift f.model f.instances s.windows s.replayed s.text.wires s.text.before s.text.text.items (g.S.Shelf.files c.args.shelf.now) read c.in_ok-flat.ensures.files of c.in_ok-flat.ensures.flat)
    c.in_ok-replace.ensures.done

use Rattle.std.proofs.Common.{◌≡◌, ◌≤◌, ◌∙◌, List, arith, ap, length, refl, subst, sym}
use Rattle.std.specs.Prelude.{IfSome}
use Rattle.journal_check.proofs.Public.{handed_on}
use Rattle.rm_model.specs.declared.parts.Model.{Model}
use Rattle.cover_sharing.specs.Shared.{shared}
use Rattle.sewing.specs.Laws.{AreParts}
use Rattle.window_fit.specs.Shared.{shared_windows}
use Rattle.rambo_cli.specs.Contract.{Caused}
use Rattle.rambo_cli.specs.Sew.{HaveParts}
use Rattle.rambo_cli.specs.Windows.{most_windows}
use Rattle.rambo_cli.specs.Inner.Cut.{WindowsCause}
use Rattle.rambo_cli.specs.Inner.Sew.{ModelFinds}
use Rattle.rambo_cli.proofs.SewTexts.{fit_for, parts_found, sewn_of, windows_found}
use Rattle.rambo_cli.proofs.stitching.sew_model.Goals as goal

pub sew_parts-requires-clause-fit : goal.sew_parts-requires-clause-fit
sew_parts-requires-clause-fit g c =
    let own : Model = c.args.own.now.ranked in
    let ws : List Model = c.as_slice-windows.result.now in
    let are : ws ≡ shared_windows c.args.width c.args.shift own = c.as_slice-windows.ensures.value ∙ (c.in_ok-windowed.ensures.windows ∙ ap (λ (m : Model). shared_windows c.args.width c.args.shift m) c.model.ensures) in
    let few : length ws ≤ most_windows = subst (λ (xs : List Model). length xs ≤ most_windows) (sym c.as_slice-windows.ensures.value) c.in_ok-windowed.ensures.few in
    λ fit. fit_for c.shared_windows_compose.ensures c.args.width c.args.shift own c.in_ok-windowed.windowed.whole ws c.as_slice.result.now c.requires.formed c.requires.ranked (c.in_ok-windowed.ensures.whole ∙ ap shared c.model.ensures) are (omega (arith, few))
    (subst (λ (ps : List Model). AreParts ws ps) (sym c.as_slice.ensures.value) c.in_ok-parts.ensures.replacements) fit

pub returns-clause-sewn : goal.returns-clause-sewn
returns-clause-sewn g c =
    let own : Model = c.args.own.now.ranked in
    let ws : List Model = c.as_slice-windows.result.now in
    let s = c.in_ok-text.text in
    let are : ws ≡ shared_windows c.args.width c.args.shift own = c.as_slice-windows.ensures.value ∙ (c.in_ok-windowed.ensures.windows ∙ ap (λ (m : Model). shared_windows c.args.width c.args.shift m) c.model.ensures) in
    sewn_of own c.args.width c.args.prefix.now c.args.shift ws c.as_slice.result.now (length ws) c.in_ok-parts.parts.replayed s.wires s.before s.text.items (g.S.Shelf.files c.args.shelf.now) are
    (subst (λ (xs : List Model). length xs ≤ most_windows) (sym c.as_slice-windows.ensures.value) c.in_ok-windowed.ensures.few) refl
    (subst (λ (ps : List Model). IfSome (g.S.Shelf.files c.args.shelf.now) (HaveParts c.args.prefix.now ws ps c.in_ok-parts.parts.replayed)) (sym c.as_slice.ensures.value) c.in_ok-parts.ensures.parts)
    c.in_ok-text.ensures

pub returns-in_err-parts-clause-cause : goal.returns-in_err-parts-clause-cause
returns-in_err-parts-clause-cause g c =
    let problem = c.in_err-parts.field-0.0 in
    let own : Model = c.args.own.now.ranked in
    let ws : List Model = c.as_slice-windows.result.now in
    let are : ws ≡ shared_windows c.args.width c.args.shift own = c.as_slice-windows.ensures.value ∙ (c.in_ok-windowed.ensures.windows ∙ ap (λ (m : Model). shared_windows c.args.width c.args.shift m) c.model.ensures) in
    handed_on c.from_residual-in_err-parts.result problem (Caused (ModelFinds own c.args.width c.args.prefix.now c.args.shift (g.S.Shelf.files c.args.shelf.now)) (g.S.Shelf.faults c.args.shelf.now) (g.S.Shelf.faults c.parts_of.new.shelf)) c.from_residual-in_err-parts.ensures.1
    (parts_found own c.args.width c.args.prefix.now c.args.shift ws (g.S.Shelf.files c.args.shelf.now) (g.S.Shelf.faults c.args.shelf.now) (g.S.Shelf.faults c.parts_of.new.shelf) problem are c.in_err-parts.ensures.cause)

pub returns-in_err-windowed-clause-cause : goal.returns-in_err-windowed-clause-cause
returns-in_err-windowed-clause-cause g c =
    let problem = c.in_err-windowed.field-0.0 in
    let own : Model = c.args.own.now.ranked in
    handed_on c.from_residual.result problem (Caused (ModelFinds own c.args.width c.args.prefix.now c.args.shift (g.S.Shelf.files c.args.shelf.now)) (g.S.Shelf.faults c.args.shelf.now) (g.S.Shelf.faults c.args.shelf.now)) c.from_residual.ensures.1
    (windows_found own c.args.width c.args.prefix.now c.args.shift (g.S.Shelf.files c.args.shelf.now) (g.S.Shelf.faults c.args.shelf.now) (g.S.Shelf.faults c.args.shelf.now) problem
    (subst (λ (m : Model). WindowsCause (length (shared_windows c.args.width c.args.shift m)) problem) c.model.ensures c.in_err-windowed.ensures.cause))

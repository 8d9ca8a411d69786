use Rattle.std.proofs.Common.{◌≡◌, ◌≤◌, ◌∙◌, List, length, refl, subst, sym}
use Rattle.std.specs.Prelude.{All}
use Rattle.journal_check.proofs.Public.{handed_on}
use Rattle.rm_model.specs.declared.parts.Model.{Model}
use Rattle.window_cut.specs.Laws.{IsStandalone}
use Rattle.window_fit.specs.Shared.{shared_windows}
use Rattle.rambo_cli.specs.Contract.{Caused}
use Rattle.rambo_cli.specs.Cut.{CutFinds}
use Rattle.rambo_cli.specs.Problems.{KeepsFiles}
use Rattle.rambo_cli.specs.Windows.{most_windows}
use Rattle.rambo_cli.proofs.Compared.{kept_for}
use Rattle.rambo_cli.proofs.CutTexts.{cut_begun, cut_of, cut_written, flat_found, many_found, windows_are}
use Rattle.rambo_cli.proofs.cutting.cut_input.Goals as goal

pub write_windows-requires : goal.write_windows-requires
write_windows-requires g c = subst (All IsStandalone) (sym c.as_slice-windows.ensures.value) c.in_ok-windowed.ensures.each

pub returns-clause-done : goal.returns-clause-done
returns-clause-done g c =
    let f = c.in_ok-flat.flat in
    let ws = c.as_slice-windows.result.now in
    let are : ws ≡ shared_windows c.args.width c.args.shift f.model = c.as_slice-windows.ensures.value ∙ c.in_ok-windowed.ensures.windows in
    let few : length ws ≤ most_windows = subst (λ (xs : List Model). length xs ≤ most_windows) (sym c.as_slice-windows.ensures.value) c.in_ok-windowed.ensures.few in
    let each : All IsStandalone ws = subst (All IsStandalone) (sym c.as_slice-windows.ensures.value) c.in_ok-windowed.ensures.each in
    cut_written c.args.input.now c.args.width c.args.prefix.now c.args.shift ws (length ws) c.in_ok-signals.signals refl c.in_ok-signals.ensures (g.S.Shelf.files c.args.shelf.now) (g.S.Shelf.files c.wide_model.new.shelf) (g.S.Shelf.files c.write_windows.new.shelf)
    c.in_ok-flat.ensures.files
    (cut_of c.args.width c.args.shift f.model f.instances ws are few (windows_are c.written_texts_read.ensures ws each) (g.S.Shelf.files c.args.shelf.now) c.args.input.now c.in_ok-flat.ensures.flat)
    c.in_ok-write_windows.ensures.done

pub returns-clause-safe : goal.returns-clause-safe
returns-clause-safe g c =
    let f = c.in_ok-flat.flat in
    let ws = c.as_slice-windows.result.now in
    let are : ws ≡ shared_windows c.args.width c.args.shift f.model = c.as_slice-windows.ensures.value ∙ c.in_ok-windowed.ensures.windows in
    let few : length ws ≤ most_windows = subst (λ (xs : List Model). length xs ≤ most_windows) (sym c.as_slice-windows.ensures.value) c.in_ok-windowed.ensures.few in
    let each : All IsStandalone ws = subst (All IsStandalone) (sym c.as_slice-windows.ensures.value) c.in_ok-windowed.ensures.each in
    cut_begun c.args.input.now c.args.width c.args.prefix.now c.args.shift ws (g.S.Shelf.files c.args.shelf.now) (g.S.Shelf.files c.wide_model.new.shelf) (g.S.Shelf.files c.write_windows.new.shelf) c.in_ok-flat.ensures.files
    (cut_of c.args.width c.args.shift f.model f.instances ws are few (windows_are c.written_texts_read.ensures ws each) (g.S.Shelf.files c.args.shelf.now) c.args.input.now c.in_ok-flat.ensures.flat)
    c.in_ok-write_windows.ensures.begun

pub returns-in_err-write_windows-clause-safe : goal.returns-in_err-write_windows-clause-safe
returns-in_err-write_windows-clause-safe g c =
    let f = c.in_ok-flat.flat in
    let ws = c.as_slice-windows.result.now in
    let are : ws ≡ shared_windows c.args.width c.args.shift f.model = c.as_slice-windows.ensures.value ∙ c.in_ok-windowed.ensures.windows in
    let few : length ws ≤ most_windows = subst (λ (xs : List Model). length xs ≤ most_windows) (sym c.as_slice-windows.ensures.value) c.in_ok-windowed.ensures.few in
    let each : All IsStandalone ws = subst (All IsStandalone) (sym c.as_slice-windows.ensures.value) c.in_ok-windowed.ensures.each in
    cut_begun c.args.input.now c.args.width c.args.prefix.now c.args.shift ws (g.S.Shelf.files c.args.shelf.now) (g.S.Shelf.files c.wide_model.new.shelf) (g.S.Shelf.files c.write_windows.new.shelf) c.in_ok-flat.ensures.files
    (cut_of c.args.width c.args.shift f.model f.instances ws are few (windows_are c.written_texts_read.ensures ws each) (g.S.Shelf.files c.args.shelf.now) c.args.input.now c.in_ok-flat.ensures.flat)
    c.in_err-write_windows.ensures.begun

pub returns-in_err-flat-clause-cause : goal.returns-in_err-flat-clause-cause
returns-in_err-flat-clause-cause g c =
    let problem = c.in_err-flat.field-0.0 in
    handed_on c.from_residual.result problem (Caused (CutFinds c.args.input.now c.args.width c.args.shift (g.S.Shelf.files c.args.shelf.now)) (g.S.Shelf.faults c.args.shelf.now) (g.S.Shelf.faults c.wide_model.new.shelf)) c.from_residual.ensures.1
    (flat_found c.args.input.now c.args.width c.args.shift (g.S.Shelf.files c.args.shelf.now) (g.S.Shelf.faults c.args.shelf.now) (g.S.Shelf.faults c.wide_model.new.shelf) problem c.in_err-flat.ensures.cause)

pub returns-in_err-windowed-clause-cause : goal.returns-in_err-windowed-clause-cause
returns-in_err-windowed-clause-cause g c =
    let problem = c.in_err-windowed.field-0.0 in
    let f = c.in_ok-flat.flat in
    handed_on c.from_residual-in_err-windowed.result problem (Caused (CutFinds c.args.input.now c.args.width c.args.shift (g.S.Shelf.files c.args.shelf.now)) (g.S.Shelf.faults c.args.shelf.now) (g.S.Shelf.faults c.wide_model.new.shelf)) c.from_residual-in_err-windowed.ensures.1
    (many_found c.args.input.now c.args.width c.args.shift f.model f.instances (g.S.Shelf.files c.args.shelf.now) c.in_ok-flat.ensures.flat (g.S.Shelf.faults c.args.shelf.now) (g.S.Shelf.faults c.wide_model.new.shelf) problem c.in_err-windowed.ensures.cause)

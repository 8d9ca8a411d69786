use Rattle.std.proofs.Common.{◌≡◌, List, arith, take, refl, subst, sym, ◌∙◌, ◌+◌}
use Rattle.std.specs.Prelude.{IfSome, Option, Some, slice_get}
use Rattle.journal_check.proofs.Public.{handed_on}
use Rattle.rm_base.specs.Files.{Files}
use Rattle.rm_model.specs.declared.parts.Model.{Model}
use Rattle.sewing.specs.Laws.{AreParts}
use Rattle.window_parts.specs.Part.{IsPartOf}
use Rattle.rambo_cli.specs.Contract.{Caused}
use Rattle.rambo_cli.specs.Inner.Sew.{PartsFind}
use Rattle.rambo_cli.specs.Sew.{HaveParts}
use Rattle.rambo_cli.specs.Windows.{window_journal}
use Rattle.rambo_cli.proofs.CutTexts.{stands_there}
use Rattle.rambo_cli.proofs.SewTexts.{all_parts, all_replaced, no_parts, none_replaced, one_more_part, one_more_replaced, part_cause}
use Rattle.rambo_cli.proofs.stitching.parts_of.Goals as goal

pub loop-place-init : goal.loop-place-init
loop-place-init g c = record {
  parts = subst (λ (l : List Model). IfSome (g.S.Shelf.files c.args.shelf.now) (HaveParts c.args.prefix.now (take 0 c.args.windows.now) l 0)) (sym c.new.ensures.items) (no_parts c.args.prefix.now c.args.windows.now (g.S.Shelf.files c.args.shelf.now));
  replacements = subst (λ (l : List Model). AreParts (take 0 c.args.windows.now) l) (sym c.new.ensures.items) (none_replaced c.args.windows.now);
  files = refl;
  later = omega arith;
}

pub loop-place-preserved : goal.loop-place-preserved
loop-place-preserved g c =
    let place = c.loop-place.place in
    let ws = c.args.windows.now in
    let w = c.index-windows-place.result in
    let p = c.in_ok-part.part in
    let there = stands_there ws place w (omega (arith, c.loop-place-test.true)) c.index-windows-place.is in
    record {
      parts = subst (λ (l : List Model). IfSome (g.S.Shelf.files c.args.shelf.now) (HaveParts c.args.prefix.now (take (place + 1) ws) l c.push_part.new.parts.replayed)) (sym {A = List Model} c.in_ok-push_part.ensures.models)
          (one_more_part c.args.prefix.now ws c.loop-place.parts.models.items c.loop-place.parts.replayed c.push_part.new.parts.replayed place w p.model p.replayed (g.S.Shelf.files c.args.shelf.now) there c.loop-place.invariant.parts
          (subst (λ (o : Option Files). IfSome o (IsPartOf w (window_journal c.args.prefix.now (place + 1)) p.model p.replayed)) c.loop-place.invariant.files c.in_ok-part.ensures.part)
          c.in_ok-push_part.ensures.replayed);
      replacements = subst (λ (l : List Model). AreParts (take (place + 1) ws) l) (sym {A = List Model} c.in_ok-push_part.ensures.models)
          (one_more_replaced c.parts_follow.ensures ws c.loop-place.parts.models.items place w p.model there c.loop-place.invariant.replacements c.in_ok-part.ensures.replacement);
      files = c.in_ok-part.ensures.files ∙ c.loop-place.invariant.files;
      later = omega (arith, c.loop-place.invariant.later, c.in_ok-part.ensures.later);
    }

pub returns-clause-parts : goal.returns-clause-parts
returns-clause-parts g c =
    all_parts c.args.prefix.now c.args.windows.now c.loop-place.parts.models.items c.loop-place.parts.replayed c.loop-place.place (g.S.Shelf.files c.args.shelf.now) c.loop-place-test.false c.loop-place.invariant.parts

pub returns-clause-replacements : goal.returns-clause-replacements
returns-clause-replacements g c = all_replaced c.args.windows.now c.loop-place.parts.models.items c.loop-place.place c.loop-place-test.false c.loop-place.invariant.replacements

pub returns-in_err-part-clause-cause : goal.returns-in_err-part-clause-cause
returns-in_err-part-clause-cause g c =
    let problem = c.in_err-part.field-0.0 in
    let place = c.loop-place.place in
    let ws = c.args.windows.now in
    let w = c.index-windows-place.result in
    handed_on c.from_residual.result problem (Caused (PartsFind c.args.prefix.now ws (g.S.Shelf.files c.args.shelf.now)) (g.S.Shelf.faults c.args.shelf.now) (g.S.Shelf.faults c.part_at.new.shelf)) c.from_residual.ensures.1
    (part_cause c.args.prefix.now ws place w (g.S.Shelf.files c.args.shelf.now) (g.S.Shelf.files c.loop-place.shelf) (g.S.Shelf.faults c.args.shelf.now) (g.S.Shelf.faults c.loop-place.shelf) (g.S.Shelf.faults c.part_at.new.shelf) problem
    (stands_there ws place w (omega (arith, c.loop-place-test.true)) c.index-windows-place.is) c.loop-place.invariant.files c.loop-place.invariant.later c.in_err-part.ensures.cause)

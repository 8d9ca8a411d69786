use Rattle.std.proofs.Common.{◌≡◌, ◌++◌, ◌∙◌, ap, sym, subst, List, true, Some, get_or}
use Rattle.std.specs.Prelude.{slice_get}
use Rattle.std.proofs.lemmas.Option.{slice_get-get_or}
use Rattle.rm_model.specs.Value.{is_among, source_names, observed_names, outputs_of}
use Rattle.rm_model.specs.WellFormed.{is_distinct}
use Rattle.rm_model.specs.declared.parts.Cover.{Cover}
use Rattle.rm_model.proofs.NameLemmas.{distinct-left}
use Rattle.rm_model.proofs.EvaluationLemmas.{all-known, outputs_at}
use Rattle.rm_model.proofs.ModelLemmas.{cover-inputs-driven, observed-driven}
use Rattle.rm_base.specs.Words.{Word}
use Rattle.rm_model.proofs.evaluation.values_in_order.Goals as goal

pub known_sources-requires-clause-once : goal.known_sources-requires-clause-once
known_sources-requires-clause-once c = subst (λ (l : List Word). is_distinct l ≡ true) (sym (c.as_slice.ensures.value ∙ c.in_ok-names.ensures)) (distinct-left (source_names c.args.model.now) (outputs_of c.args.model.now.covers) c.requires.well_formed.driven_once)

pub add_covers-requires-clause-driven : goal.add_covers-requires-clause-driven
add_covers-requires-clause-driven c = cover-inputs-driven c.args.model.now c.requires.well_formed c.in_ok-known.known.names c.items.result.now (c.in_ok-known.ensures.names ∙ (c.as_slice.ensures.value ∙ c.in_ok-names.ensures)) c.items.ensures

pub values_of-requires-clause-known : goal.values_of-requires-clause-known
values_of-requires-clause-known c = λ k d lt.
    let x : Word = get_or c.as_slice-2.result.now k d in
    let point : slice_get (observed_names c.args.model.now) k ≡ Some x = subst (λ (l : List Word). slice_get l k ≡ Some x) (c.as_slice-2.ensures.value ∙ c.in_ok-points.ensures) (slice_get-get_or c.as_slice-2.result.now k d lt) in
    let all = all-known c.args.model.now.covers (source_names c.args.model.now) c.args.order.now c.requires.all x (observed-driven c.args.model.now c.requires.well_formed k x point) in
    let names = c.in_ok-known.ensures.names ∙ (c.as_slice.ensures.value ∙ c.in_ok-names.ensures) in
    let left : source_names c.args.model.now ++ outputs_at c.args.model.now.covers c.args.order.now ≡ c.in_ok-known.known.names ++ outputs_at c.args.model.now.covers c.args.order.now = ap (λ (l : List Word). l ++ outputs_at c.args.model.now.covers c.args.order.now) (sym names) in
    let right : c.in_ok-known.known.names ++ outputs_at c.args.model.now.covers c.args.order.now ≡ c.in_ok-known.known.names ++ outputs_at c.items.result.now c.args.order.now = ap (λ (cs : List Cover). c.in_ok-known.known.names ++ outputs_at cs c.args.order.now) (sym c.items.ensures) in
    subst (λ (l : List Word). is_among l x ≡ true) (left ∙ (right ∙ sym c.in_ok-add_covers.ensures.names)) all

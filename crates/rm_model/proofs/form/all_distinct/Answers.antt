use Rattle.std.proofs.Common.{◌∷◌, [], ◌++◌, ◌∙◌, ap, sym, refl, List, take}
use Rattle.std.proofs.lemmas.Option.{slice_get_read}
use Rattle.rm_model.specs.Value.{is_among}
use Rattle.rm_model.proofs.FormLemmas.{distinct-more, repeated, take-next}
use Rattle.rm_model.proofs.form.all_distinct.Goals as goal
use Rattle.rm_base.specs.Words.{Word}

pub returns-then-has : goal.returns-then-has
returns-then-has c = sym (repeated c.args.names.now c.loop-name.name-index c.name-item.result (slice_get_read c.args.names.now _ c.loop-name.name-index c.name-item.result refl c.loop-name-test.true c.name-item.is)
    (ap (λ (l : List Word). is_among l c.name-item.result) (sym c.loop-name.invariant.0) ∙ (ap (λ (x : Word). is_among c.loop-name.seen x) (sym c.items.ensures) ∙ (sym c.has.ensures ∙ c.if-has.true))))

pub loop-name-preserved : goal.loop-name-preserved
loop-name-preserved c = (
  c.in_ok-add.ensures.ok ∙ (ap (λ (l : List Word). l ++ c.items-in-loop-name.result.now ∷ []) c.loop-name.invariant.0 ∙ (ap (λ (x : Word). take c.loop-name.name-index c.args.names.now ++ x ∷ []) c.items-in-loop-name.ensures ∙ sym (take-next c.args.names.now c.loop-name.name-index c.name-item.result c.loop-name-test.true c.name-item.is))),
  distinct-more c.args.names.now c.loop-name.name-index c.name-item.result c.loop-name-test.true c.name-item.is c.loop-name.invariant.1
      (ap (λ (l : List Word). is_among l c.name-item.result) (sym c.loop-name.invariant.0) ∙ (ap (λ (x : Word). is_among c.loop-name.seen x) (sym c.items.ensures) ∙ (sym c.has.ensures ∙ c.if-has.false))),
)

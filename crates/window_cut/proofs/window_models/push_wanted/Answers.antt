use Rattle.std.proofs.Common.{ap, sym, ◌∙◌, ◌++◌, ◌∷◌, []}
use Rattle.std.specs.Prelude.{slice_get}
use Rattle.rm_base.specs.Words.{Word}
use Rattle.rm_model.specs.Value.{is_among}
use Rattle.window_cut.proofs.Inputs.{none_wanted, some_unwanted, some_wanted}
use Rattle.window_cut.proofs.window_models.push_wanted.Goals as goal

pub returns-in-None : goal.returns-in-None
returns-in-None c = none_wanted c.args.wanted.now c.args.outputs.now.items (slice_get c.args.covers.now c.args.place) c.in-None.ensures

pub returns-in_ok-push : goal.returns-in_ok-push
returns-in_ok-push c =
    some_wanted c.args.wanted.now c.args.outputs.now.items c.push.new.self.items c.in-Some.cover.now (slice_get c.args.covers.now c.args.place) c.in-Some.ensures
    (ap (is_among c.args.wanted.now) (sym c.items.ensures) ∙ (sym c.has.ensures ∙ c.if-has.true))
    (c.in_ok-push.ensures.items ∙ ap (λ (x : Word). c.args.outputs.now.items ++ x ∷ []) c.in_ok-copy_name.ensures)

pub returns-else-has : goal.returns-else-has
returns-else-has c =
    some_unwanted c.args.wanted.now c.args.outputs.now.items c.in-Some.cover.now (slice_get c.args.covers.now c.args.place) c.in-Some.ensures
    (ap (is_among c.args.wanted.now) (sym c.items.ensures) ∙ (sym c.has.ensures ∙ c.if-has.false))

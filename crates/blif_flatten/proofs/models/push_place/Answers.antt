use Rattle.blif_flatten.proofs.Lines.{no-place}
use Rattle.std.proofs.Common.{◌∙◌, ◌++◌, ap, sym, Option, []}
use Rattle.std.proofs.lemmas.List.{append-nil}
use Rattle.std.specs.List.{cons_option}
use Rattle.rm_base.specs.declared.numbers.Place.{Place}
use Rattle.blif_flatten.proofs.models.push_place.Goals as goal

pub returns-then-not-begins_with : goal.returns-then-not-begins_with
returns-then-not-begins_with c = sym (append-nil c.args.places.now) ∙ ap (λ (o : Option Place). c.args.places.now ++ cons_option o []) (sym (no-place c.args.text.now c.args.line.now (sym c.begins_with.ensures ∙ c.if-not-begins_with.true)))

use Rattle.std.proofs.Common.{◌∙◌, [], List, subst, sym}
use Rattle.rm_model.specs.declared.parts.Cover.{Cover}
use Rattle.window_cut.proofs.Cuts.{nonempty_from}
use Rattle.window_cut.proofs.Models.{all_observed, covers_joined, models_read}
use Rattle.window_cut.proofs.Standalone.{all_standalone}
use Rattle.window_cut.specs.Cut.{first_width, windows}
use Rattle.window_cut.specs.Laws.{AreInOrder}
use Rattle.window_cut.specs.Order.{ordered_covers}
use Rattle.window_cut.proofs.laws.windows_are_models.Goals as goal

pub returns-clause-standalone : goal.returns-clause-standalone
returns-clause-standalone c = λ width shift m formed ranked few.
    all_standalone m formed ranked (windows width shift m) (subst (λ (cs : List Cover). AreInOrder m cs) (sym (c.windows_are_ordered.ensures.joined width shift m)) (c.windows_are_ordered.ensures.order m formed ranked))
    (λ w i. nonempty_from (first_width width shift) width [] (ordered_covers m) w i) few

pub returns-clause-covers : goal.returns-clause-covers
returns-clause-covers c = λ width shift m. covers_joined m (windows width shift m) 1 (windows width shift m) ∙ c.windows_are_ordered.ensures.joined width shift m

pub returns-clause-reads : goal.returns-clause-reads
returns-clause-reads c = λ width shift m formed ranked. models_read m (windows width shift m) (subst (λ (cs : List Cover). AreInOrder m cs) (sym (c.windows_are_ordered.ensures.joined width shift m)) (c.windows_are_ordered.ensures.order m formed ranked))

pub returns-clause-observed : goal.returns-clause-observed
returns-clause-observed c = λ width shift m formed ranked. all_observed m (windows width shift m) (subst (λ (cs : List Cover). AreInOrder m cs) (sym (c.windows_are_ordered.ensures.joined width shift m)) (c.windows_are_ordered.ensures.order m formed ranked)) formed

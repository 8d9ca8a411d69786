use Rattle.std.proofs.Common.{[]}
use Rattle.window_cut.proofs.Cuts.{joined_from}
use Rattle.window_cut.proofs.Ordered.{covers_in_order}
use Rattle.window_cut.specs.Cut.{first_width}
use Rattle.window_cut.specs.Order.{ordered_covers}
use Rattle.window_cut.proofs.laws.windows_are_ordered.Goals as goal

pub returns-clause-joined : goal.returns-clause-joined
returns-clause-joined c = λ width shift m. joined_from (first_width width shift) width [] (ordered_covers m)

pub returns-clause-order : goal.returns-clause-order
returns-clause-order c = λ m formed ranked. let levelled = c.ranked_models_have_levels.ensures m formed ranked in covers_in_order m formed levelled.0 levelled.1

use Rattle.std.proofs.Common.{◌∙◌}
use Rattle.window_cut.specs.Order.{covers_at}
use Rattle.cover_sharing.specs.Shared.{nothing_yet}
use Rattle.cover_sharing.proofs.Turns.{all_shared, nothing_shown}
use Rattle.cover_sharing.proofs.sharing.shared_covers.Goals as goal

pub returns : goal.returns
returns c =
    c.into_covers.ensures
    ∙ all_shared c.in_ok-outputs.outputs c.args.names.now c.in_ok-observed.observed (covers_at c.args.covers.now c.args.places.now) _ _ c.in_ok-observed.ensures
    (c.in_ok-take_places.ensures nothing_yet (nothing_shown c.in_ok-outputs.outputs _ _ _ c.new-kept.ensures (c.as_mut_slice.ensures.value ∙ c.in_ok-stands.ensures)))

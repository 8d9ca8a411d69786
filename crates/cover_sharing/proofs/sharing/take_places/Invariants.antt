use Rattle.std.proofs.Common.{◌≡◌, length, fold, take}
use Rattle.cover_sharing.specs.Inner.Standing.{IsShown}
use Rattle.cover_sharing.specs.Shared.{Sharing, with_cover}
use Rattle.window_cut.specs.Order.{covers_at}
use Rattle.cover_sharing.proofs.sharing.take_places.Given as goal

abbrev pub invariant-loop-place : goal.invariant-loop-place
invariant-loop-place l = (length l.stands ≡ length l.covers) × ((s : Sharing) → IsShown l.outputs s l.fn.kept l.fn.stands → IsShown l.outputs (fold (with_cover l.observed) s (covers_at l.covers (take l.place-index l.places))) l.kept l.stands)

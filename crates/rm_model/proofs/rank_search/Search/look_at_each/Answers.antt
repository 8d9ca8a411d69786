use Rattle.std.proofs.Common.{map, Vec, Global, List, ℕ}
use Rattle.rm_model.specs.Inner.SearchView.{state_of}
use Rattle.rm_model.proofs.LookLemmas.{settled-next}
use Rattle.rm_model.proofs.rank_search.Search.look_at_each.Goals as goal

pub loop-cover-preserved : goal.loop-cover-preserved
loop-cover-preserved c =
    let drivers : List (List ℕ) = map (λ (d : Vec ℕ Global). d.items) c.args.drivers.now in
    record {
      sound = c.in_ok-look_at.ensures.leads.sound;
      settled = settled-next drivers (state_of c.loop-cover.self) (state_of c.look_at.new.self) c.in_ok-look_at.ensures.leads c.loop-cover.cover c.loop-cover.invariant.settled c.in_ok-look_at.ensures.settled;
    }

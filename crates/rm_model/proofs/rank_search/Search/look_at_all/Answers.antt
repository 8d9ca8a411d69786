use Rattle.std.proofs.Common.{map, Vec, Global, List, ℕ, arith}
use Rattle.std.proofs.lemmas.Option.{slice_get_within}
use Rattle.rm_model.specs.Inner.SearchView.{state_of}
use Rattle.rm_model.proofs.SearchLemmas.{leads-on}
use Rattle.rm_model.proofs.LookLemmas.{settled-more}
use Rattle.rm_model.proofs.rank_search.Search.look_at_all.Goals as goal

pub loop-cover-preserved : goal.loop-cover-preserved
loop-cover-preserved c =
    let drivers : List (List ℕ) = map (λ (d : Vec ℕ Global). d.items) c.args.drivers.now in
    record {
      leads = leads-on drivers (state_of c.args.self.now) (state_of c.loop-cover.self) (state_of c.look_at.new.self) c.loop-cover.invariant.leads c.in_ok-look_at.ensures.leads;
      settled = settled-more drivers (state_of c.args.self.now) (state_of c.loop-cover.self) (state_of c.look_at.new.self) c.loop-cover.invariant.leads c.in_ok-look_at.ensures.leads c.args.covers.now c.loop-cover.cover-index c.loop-cover.invariant.settled c.in_ok-look_at.ensures.settled;
    }

pub returns-clause-settled : goal.returns-clause-settled
returns-clause-settled c = λ place p k le at. c.loop-cover.invariant.settled place p k le (let lt = slice_get_within c.args.covers.now p k at in omega (arith, lt)) at

use Rattle.std.proofs.Common.{◌≡◌, ℕ, List, map, subst, Vec, Global, IfOk}
use Rattle.std.specs.List.{filter_map}
use Rattle.rm_model.specs.Numbers.{place_of}
use Rattle.rm_model.proofs.DriverLemmas.{all_drivers-by_table}
use Rattle.rm_model.proofs.drivers.drivers.Goals as goal
use Rattle.rm_base.specs.Words.{Word}

pub returns : goal.returns
returns c =
    let by_table = subst (λ (t : List Word). IfOk c.all_drivers.result (λ (ds : Vec (Vec ℕ Global) Global). map (λ (d : Vec ℕ Global). d.items) ds.items ≡ map (λ c. filter_map (place_of t) c.inputs) c.args.covers.now)) c.in_ok-table.ensures c.all_drivers.ensures in
    subst (λ (l : List (List ℕ)). IfOk c.all_drivers.result (λ (ds : Vec (Vec ℕ Global) Global). map (λ (d : Vec ℕ Global). d.items) ds.items ≡ l)) (all_drivers-by_table c.args.covers.now c.args.covers.now) by_table

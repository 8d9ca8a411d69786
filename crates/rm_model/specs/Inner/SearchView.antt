-- What the search holds, as lists.
use Rattle.std.specs.Prelude.{ℕ, List, Vec, map}
use Rattle.std.proofs.Common.{Global}
use Rattle.rm_model.specs.Inner.Search.{State}
use Rattle.rm_model.specs.declared.rank_search.Search.{Search}

abbrev pub state_of : Search → State
state_of s = record { ranks = s.ranks.items; looked = s.looked.items; waiting = map (λ w. w.items) s.waiting.items; order = s.order.items }

-- the numbers of a list of the search
abbrev pub items_of : Vec ℕ Global → List ℕ
items_of d = d.items

use Rattle.std.proofs.Common.{map, slice_set, ap, ◌∙◌, List, ℕ, Vec, Global}
use Rattle.std.proofs.lemmas.List.{map-set}
use Rattle.rm_model.proofs.rank_search.take_waiting.Goals as goal

pub returns-clause-left : goal.returns-clause-left
returns-clause-left c =
    let items : Vec ℕ Global → List ℕ = λ (w : Vec ℕ Global). w.items in
    map-set items c.args.waiting.now.items c.args.driver c.replace.new.dest
    ∙ ap (λ (l : List ℕ). slice_set (map items c.args.waiting.now.items) c.args.driver l) (ap items c.replace.ensures.after ∙ c.new.ensures.items)

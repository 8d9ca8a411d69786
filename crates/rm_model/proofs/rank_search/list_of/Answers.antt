use Rattle.std.proofs.Common.{ap, ◌∙◌, sym, [], Vec, Global, List, ℕ}
use Rattle.std.proofs.lemmas.List.{get_or-map}
use Rattle.rm_model.proofs.rank_search.list_of.Goals as goal

pub returns : goal.returns
returns c =
    let items : Vec ℕ Global → List ℕ = λ (w : Vec ℕ Global). w.items in
    c.as_slice.ensures.value ∙ (ap items c.index-lists-place.is ∙ sym (get_or-map items c.args.lists.now c.args.place c.index-lists-place.result [] c.requires))

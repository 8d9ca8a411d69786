use Rattle.std.proofs.Common.{sym, [], ◌∷◌, ◌++◌, map, slice_set, ap, ◌∙◌, List, ℕ, Vec, Global}
use Rattle.std.proofs.lemmas.List.{map-set, get_or-map}
use Rattle.rm_model.proofs.rank_search.add_waiting.Goals as goal

pub returns : goal.returns
returns c =
    let items : Vec ℕ Global → List ℕ = λ (w : Vec ℕ Global). w.items in
    map-set items c.args.waiting.now.items c.args.driver c.push.new.self
    ∙ ap (λ (l : List ℕ). slice_set (map items c.args.waiting.now.items) c.args.driver l) (c.in_ok-push.ensures.items ∙ ap (λ (l : List ℕ). l ++ c.args.cover ∷ []) (ap items c.index_mut-list.ensures.value ∙ sym (get_or-map items c.args.waiting.now.items c.args.driver c.index_mut-list.result.now [] c.requires)))

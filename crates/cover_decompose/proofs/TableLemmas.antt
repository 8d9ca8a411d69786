-- Names in a table, by their places.
use Rattle.std.proofs.Common.{◌≡◌, Bool, List, [], ◌∷◌, map, refl, ap}
use Rattle.std.specs.Prelude.{◌||◌}
use Rattle.std.specs.List.{list_any}
use Rattle.rm_model.specs.Words.{is_word}
use Rattle.rm_model.specs.Value.{is_among}
use Rattle.rm_base.specs.Words.{Word}

pub among-map : {K : Type 0} (name : K → Word) (ks : List K) (x : Word) → list_any (λ k. is_word x (name k)) ks ≡ is_among (map name ks) x
among-map name [] x = refl
among-map name (k ∷ ks) x = ap (λ (b : Bool). is_word x (name k) || b) (among-map name ks x)

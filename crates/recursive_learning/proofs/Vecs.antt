-- Whether a vector is empty.
use Rattle.std.proofs.Common.{Bool, Global, List, Some, Vec, [], arith, false, get_or, length, map, refl, suc, sym, true, vec_len, zero, ℕ, ◌<◌, ◌∙◌, ◌∷◌, ◌≡◌, ◌≢◌}
use Rattle.std.proofs.lemmas.Bool.{eqb-true}
use Rattle.std.proofs.lemmas.List.{nil_from_length}
use Rattle.std.specs.Bool.{◌==◌}
use Rattle.std.specs.Prelude.{slice_get}
use Rattle.rm_base.specs.declared.numbers.NodeId.{NodeId}

pub empty_is : {A : Type 0} (v : Vec A Global) → true ≡ (vec_len v == 0) → v.items ≡ []
empty_is v e =
    let none : vec_len v ≡ 0 = eqb-true (vec_len v) 0 (sym e) in
    nil_from_length v.items (omega (arith, v.ok.0, none))

pub full_is : {A : Type 0} (v : Vec A Global) → false ≡ (vec_len v == 0) → v.items ≢ []
full_is v e none =
    let zero : length v.items ≡ 0 = rw none refl in
    let len : vec_len v ≡ 0 = omega (arith, v.ok.0, zero) in
    let wrong : false ≡ true = e ∙ rw len refl in
    cc

pub map_some : {A B : Type 0} (f : A → B) (xs : List A) → xs ≢ [] → map f xs ≢ []
map_some f [] some = absurd (some refl)
map_some f (x ∷ xs) some = λ e. cc

pub true_false : (b : Bool) → b ≡ true → b ≡ false → ⊥
true_false b is isn't = let wrong : true ≡ false = sym is ∙ isn't in cc

-- the number of a node at its place
pub driver_at : (nodes : List NodeId) (i : ℕ) (d : NodeId) → i < length nodes → slice_get (map (λ (n : NodeId). n.0) nodes) i ≡ Some (get_or nodes i d).0
driver_at [] i d h = absurd (omega arith)
driver_at (n ∷ nodes) zero d h = refl
driver_at (n ∷ nodes) (suc i) d h = driver_at nodes i d (omega arith)

-- What stands at a place of a list after a write.
use Rattle.std.proofs.Common.{◌≡◌, ◌≢◌, ℕ, zero, suc, ◌<◌, List, [], ◌∷◌, length, set, get_or, Some, ◌⊎◌, inl, inr, refl, sym, ap, subst}
use Rattle.std.specs.Prelude.{slice_get}
use Rattle.std.proofs.lemmas.List.{get_or-set_same, get_or-set_other}

pub get-set : {X : Type 0} (xs : List X) (k : ℕ) (v : X) (j : ℕ) (x : X) → slice_get (set xs k v) j ≡ Some x → ((j ≡ k) × (x ≡ v)) ⊎ (slice_get xs j ≡ Some x)
get-set [] k v j x e = absurd cc
get-set (y ∷ xs) zero v zero x e = let is : v ≡ x = cc in inl (refl, sym is)
get-set (y ∷ xs) zero v (suc j) x e = inr e
get-set (y ∷ xs) (suc k) v zero x e = inr e
get-set (y ∷ xs) (suc k) v (suc j) x e = elim (get-set xs k v j x e) [ inl h ↦ inl (ap suc h.0, h.1) | inr h ↦ inr h ]

-- what is read after a write
pub record Written {X : Type 0} (xs : List X) (k : ℕ) (v : X) (j : ℕ) (d : X) : Type 0 where
  pub here : j ≡ k → get_or (set xs k v) j d ≡ v
  pub elsewhere : j ≢ k → get_or (set xs k v) j d ≡ get_or xs j d

pub written : {X : Type 0} (xs : List X) (k : ℕ) (v : X) (j : ℕ) (d : X) → k < length xs → Written xs k v j d
written xs k v j d lt = record {
  here = λ e. subst (λ (i : ℕ). get_or (set xs k v) i d ≡ v) (sym e) (get_or-set_same xs k v d lt);
  elsewhere = λ ne. get_or-set_other xs k j v d ne;
}

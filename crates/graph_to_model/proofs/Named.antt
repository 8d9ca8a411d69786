-- Nodes have different names.
use Rattle.std.proofs.Common.{◌≡◌, ◌≤◌, ◌<◌, ◌+◌, ◌-◌, ◌^◌, ℕ, suc, Bool, true, false, not, List, [], ◌∷◌, ◌++◌, length, refl, sym, ◌∙◌, ap, arith, subst, ◌⊎◌, inl, inr, nat_eq}
use Rattle.std.specs.Prelude.{Option, None, Some, slice_get}
use Rattle.std.specs.Fmt.{decimal}
use Rattle.std.specs.List.{list_any, starts_with}
use Rattle.std.proofs.lemmas.Fmt.{decimal_injective}
use Rattle.std.proofs.lemmas.Bool.{eq-eqb, lt-ltb, le-ltb}
use Rattle.std.proofs.lemmas.Bool.Decides.{eqb_tells}
use Rattle.std.proofs.lemmas.Option.{slice_get_within}
use Rattle.rm_model.specs.Value.{source_names, observed_names}
use Rattle.rm_model.specs.declared.parts.Model.{Model}
use Rattle.gate_net.specs.Net.{Net}
use Rattle.graph_to_model.specs.Names.{kept_names, free_prefix, observed_name, node_name}
use Rattle.graph_to_model.specs.Fits.{Fits}
use Rattle.graph_to_model.proofs.Prefixes.{prefix_is_free}
use Rattle.rm_base.proofs.Public.{any_in, in_at, in_left, in_right, some_is}
use Rattle.rm_base.specs.Members.{In}
use Rattle.rm_base.specs.Words.{Word}

same_eqb : (n : ℕ) → nat_eq n n ≡ true
same_eqb n = eq-eqb n n refl

pub begun : (p y : Word) → starts_with nat_eq (p ++ y) p ≡ true
begun [] y = refl
begun (b ∷ bs) y = rw (same_eqb b) (begun bs y)

append_same : (p x y : Word) → p ++ x ≡ p ++ y → x ≡ y
append_same [] x y e = e
append_same (b ∷ p) x y e = append_same p x y (cc)

-- the place of the name that stands on a node
pub observed_at : (ks : List ℕ) (xs : List Word) (n : ℕ) (x : Word) → observed_name ks xs n ≡ Some x → (k : ℕ) × ((slice_get ks k ≡ Some n) × (slice_get xs k ≡ Some x))
observed_at [] xs n x e = absurd cc
observed_at (k ∷ ks) [] n x e = absurd cc
observed_at (k ∷ ks) (y ∷ ys) n x e = elim (eqb_tells k n) [
  | inl t ↦ (0, (ap Some t.1, rw t.0 at e))
  | inr f ↦ let r = observed_at ks ys n x (rw f.0 at e) in (suc r.0, r.1)
]

-- a node's name stands on it in the observed list, or is the prefix and its number
pub record StandsOn (m : Model) (net : Net) (n : ℕ) (x : Word) : Type 0 where
  pub place : ℕ
  pub node : slice_get net.observed place ≡ Some n
  pub name : slice_get (observed_names m) place ≡ Some x

module _ (m : Model) (net : Net) (fit : Fits net m) (few : length (kept_names m) < 2 ^ 64) where
  pub source_name : (k : ℕ) (x : Word) → slice_get (source_names m) k ≡ Some x → node_name m net (2 + k) ≡ x
  source_name k x e =
      let within : k < length (source_names m) = slice_get_within (source_names m) k x e in
      let back : 2 + k - 2 ≡ k = omega arith in
      rw (lt-ltb (2 + k) (2 + length (source_names m)) (omega arith), back, e) refl

  pub gate_name : (n : ℕ) → 2 + length (source_names m) ≤ n → StandsOn m net n (node_name m net n) ⊎ (node_name m net n ≡ free_prefix m ++ decimal n)
  gate_name n h = told (observed_name net.observed (observed_names m) n) refl
    where
      told : (o : Option Word) → observed_name net.observed (observed_names m) n ≡ o → StandsOn m net n (node_name m net n) ⊎ (node_name m net n ≡ free_prefix m ++ decimal n)
      told None e = inr (rw (le-ltb n (2 + length (source_names m)) h, e) refl)
      told (Some x) e =
          let at = observed_at net.observed (observed_names m) n x e in
          let is : node_name m net n ≡ x = rw (le-ltb n (2 + length (source_names m)) h, e) refl in
          inl (record { place = at.0; node = at.1.0; name = at.1.1 ∙ ap Some (sym is) })

  -- no kept name is made of the prefix
  pub not_made : (x : Word) (n : ℕ) → In (kept_names m) x → x ≡ free_prefix m ++ decimal n → ⊥
  not_made x n among e = never (list_any (λ y. starts_with nat_eq y (free_prefix m)) (kept_names m)) (prefix_is_free (kept_names m) few)
      (any_in (λ y. starts_with nat_eq y (free_prefix m)) (kept_names m) x among (subst (λ (y : Word). starts_with nat_eq y (free_prefix m) ≡ true) (sym e) (begun (free_prefix m) (decimal n))))
    where
      never : (b : Bool) → not b ≡ true → b ≡ true → ⊥
      never true f g = cc
      never false f g = cc

  in_sources : (k : ℕ) (x : Word) → slice_get (source_names m) k ≡ Some x → In (kept_names m) x
  in_sources k x e = in_left (source_names m) (observed_names m) x (in_at (source_names m) k x e)

  in_observed : (k : ℕ) (x : Word) → slice_get (observed_names m) k ≡ Some x → In (kept_names m) x
  in_observed k x e = in_right (source_names m) (observed_names m) x (in_at (observed_names m) k x e)

  -- a gate's name is no source's
  pub gate_not_source : (n k : ℕ) (x : Word) → 2 + length (source_names m) ≤ n → slice_get (source_names m) k ≡ Some x → node_name m net n ≡ x → ⊥
  gate_not_source n k x h e f = elim (gate_name n h) [
    | inl stands ↦
        let own : slice_get net.observed stands.place ≡ Some (2 + k) = fit.points.own stands.place k x (stands.name ∙ ap Some f) e in
        let same : n ≡ 2 + k = some_is n (2 + k) (sym stands.node ∙ own) in
        let within : k < length (source_names m) = slice_get_within (source_names m) k x e in
        absurd (omega arith)
    | inr made ↦ not_made x n (in_sources k x e) (sym f ∙ made)
  ]

  -- two gates with one name are one
  pub gates_told : (a b : ℕ) → 2 + length (source_names m) ≤ a → 2 + length (source_names m) ≤ b → a < 2 ^ 64 → b < 2 ^ 64 → node_name m net a ≡ node_name m net b → a ≡ b
  gates_told a b ha hb la lb e = elim (gate_name a ha) [
    | inl sa ↦ elim (gate_name b hb) [
      | inl sb ↦ some_is a b (sym sa.node ∙ (fit.points.same sa.place sb.place (node_name m net a) sa.name (sb.name ∙ ap Some (sym e)) ∙ sb.node))
      | inr mb ↦ absurd (not_made (node_name m net a) b (in_observed sa.place _ sa.name) (e ∙ mb))
    ]
    | inr ma ↦ elim (gate_name b hb) [
      | inl sb ↦ absurd (not_made (node_name m net b) a (in_observed sb.place _ sb.name) (sym e ∙ ma))
      | inr mb ↦ decimal_injective a b la lb (append_same (free_prefix m) (decimal a) (decimal b) (sym ma ∙ (e ∙ mb)))
    ]
  ]

  -- an observed name that is a gate's stands on that gate
  pub stands_on_gate : (n k j : ℕ) → 2 + length (source_names m) ≤ n → slice_get (observed_names m) k ≡ Some (node_name m net n) → slice_get net.observed k ≡ Some j → j ≡ n
  stands_on_gate n k j h name node = elim (gate_name n h) [
    | inl stands ↦ some_is j n (sym node ∙ (fit.points.same k stands.place (node_name m net n) name stands.name ∙ stands.node))
    | inr made ↦ absurd (not_made (node_name m net n) n (in_observed k _ name) made)
  ]

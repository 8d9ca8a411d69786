-- What a sewn model needs of a part, the part needs by itself.
use Rattle.std.proofs.Common.{◌≡◌, ◌<◌, ◌+◌, ◌^◌, ℕ, zero, suc, List, [], ◌∷◌, ◌++◌, length, ◌⊎◌, inl, inr, refl, sym, ap, ◌∙◌, subst, arith}
use Rattle.std.specs.Prelude.{Some, slice_get}
use Rattle.std.specs.Fmt.{decimal}
use Rattle.rm_model.specs.Value.{observed_names, outputs_of}
use Rattle.rm_model.specs.declared.parts.Cover.{Cover}
use Rattle.rm_model.specs.declared.parts.Model.{Model}
use Rattle.rm_base.specs.Members.{In}
use Rattle.rm_base.specs.Words.{Word}
use Rattle.rm_base.proofs.Public.{in_append, in_contains, in_map, some_is}
use Rattle.std.proofs.lemmas.Option.{slice_get_within}
use Rattle.cover_decompose.specs.Needed.{IsNeeded, observed, read}
use Rattle.sewing.specs.Names.{edge_names, inner_name, sewn_name}
use Rattle.sewing.specs.Sewn.{renamed_cover, sewn_covers, sewn_with}
use Rattle.sewing.proofs.Leads.{inner-numbers}
use Rattle.sewing.proofs.Members.{among-in, contains-in, in-among, in-outputs, plain-observed}
use Rattle.sewing.proofs.Outputs.{edge-fresh, inner-same, name-cases, piece_covers}
use Rattle.sewing.proofs.Stages.{Piece, Stage, next, piece, same-length}

-- PARTS BY THEIR PLACES

-- the part and its cover that a cover of the sewn model comes from
pub record Origin (lead : Word) (k : ℕ) (ps : List Model) (c : Cover) : Type 0 where
  pub place : ℕ
  pub part : Model
  pub cover : Cover
  pub there : slice_get ps place ≡ Some part
  pub has : In part.covers cover
  pub is : renamed_cover (sewn_name lead (k + place) part) cover ≡ c

pub origin : (lead : Word) (k : ℕ) (ps : List Model) (c : Cover) → In (sewn_covers lead k ps) c → Origin lead k ps c
origin lead k [] c h = absurd h
origin lead k (p ∷ ps) c h = go (in_append (piece_covers lead k p) (sewn_covers lead (k + 1) ps) c h) (origin lead (k + 1) ps c)
  where
    none-more : k ≡ k + 0
    none-more = omega arith

    one-more : (j : ℕ) → k + 1 + j ≡ k + suc j
    one-more j = omega arith

    go : In (piece_covers lead k p) c ⊎ In (sewn_covers lead (k + 1) ps) c → (In (sewn_covers lead (k + 1) ps) c → Origin lead (k + 1) ps c) → Origin lead k (p ∷ ps) c
    go (inl a) rest =
        let d : (d : Cover) × (In p.covers d × (renamed_cover (sewn_name lead k p) d ≡ c)) = in_map (renamed_cover (sewn_name lead k p)) p.covers c a in
        record { place = 0; part = p; cover = d.0; there = refl; has = d.1.0; is = subst (λ (j : ℕ). renamed_cover (sewn_name lead j p) d.0 ≡ c) none-more d.1.1 }
    go (inr b) rest =
        let r = rest b in
        record { place = suc r.place; part = r.part; cover = r.cover; there = r.there; has = r.has; is = subst (λ (j : ℕ). renamed_cover (sewn_name lead j r.part) r.cover ≡ c) (one-more r.place) r.is }

pub piece-at : (lead : Word) (k : ℕ) (known : List Word) (ws ps : List Model) → Stage lead k known ws ps → (i : ℕ) (p : Model) → slice_get ps i ≡ Some p → (old : List Word) × Piece lead old p
piece-at lead k known [] [] s i p there = absurd cc
piece-at lead k known [] (q ∷ ps) s i p there = absurd s.parts
piece-at lead k known (w ∷ ws) [] s i p there = absurd s.parts
piece-at lead k known (w ∷ ws) (q ∷ ps) s zero p there = let same : q ≡ p = some_is q p there in (known, subst (λ (r : Model). Piece lead known r) same (piece lead k known w q ws ps s))
piece-at lead k known (w ∷ ws) (q ∷ ps) s (suc i) p there = piece-at lead (k + 1) (known ++ w.outputs) ws ps (next lead k known w q ws ps s) i p there

pub place-small : (lead : Word) (k : ℕ) (known : List Word) (ws ps : List Model) → Stage lead k known ws ps → (i : ℕ) (p : Model) → slice_get ps i ≡ Some p → k + i < 2 ^ 64
place-small lead k known ws ps s i p there = let below : i < length ps = slice_get_within ps i p there in omega (arith, below, s.few, same-length ws ps s.parts)

-- WHAT IS NEEDED

-- what is observed of a part is needed
edge-needed : (lead : Word) (old : List Word) (p : Model) → Piece lead old p → (d : Cover) → In p.covers d → In (outputs_of p.covers) d.output → In (edge_names p) d.output → IsNeeded p d.output
edge-needed lead old p q d there driven edge = elim (in_append p.inputs p.outputs d.output edge) [
  | inl a ↦ absurd (q.apart_from d.output a driven)
  | inr b ↦ observed (in-among (observed_names p) d.output (subst (λ (l : List Word). In l d.output) (sym (plain-observed p q.no_latches)) b))
]

module _ (lead : Word) (m : Model) (parts : List Model)
    (pieces : (i : ℕ) (p : Model) → slice_get parts i ≡ Some p → (old : List Word) × Piece lead old p)
    (small : (i : ℕ) (p : Model) → slice_get parts i ≡ Some p → 1 + i < 2 ^ 64)
    (seen : (x y : Word) → In (observed_names m) x → x ≡ lead ++ y → ⊥) where
  -- an inner name that a cover reads is one of the same part
  same-part : (i j : ℕ) (p q : Model) (x z : Word) → slice_get parts i ≡ Some p → slice_get parts j ≡ Some q → sewn_name lead (1 + j) q z ≡ inner_name lead (1 + i) x → (i ≡ j) × (z ≡ x)
  same-part i j p q x z there other e = elim (name-cases lead (1 + j) q z) [
    | inl a ↦ absurd (edge-fresh lead (pieces j q other).0 q (pieces j q other).1 z (decimal (1 + i) ++ 95 ∷ x) a.0 (sym a.1 ∙ e))
    | inr b ↦
        let same : 1 + j ≡ 1 + i = inner-numbers lead (1 + j) (1 + i) z x (small j q other) (small i p there) (sym b ∙ e) in
        (omega (arith, same), inner-same lead (1 + i) z x (ap (λ (k : ℕ). inner_name lead k z) (sym same) ∙ (sym b ∙ e)))
  ]

  pub needed-inside : (y : Word) → IsNeeded (sewn_with lead m parts) y → (i : ℕ) (p : Model) (d : Cover) → slice_get parts i ≡ Some p → In p.covers d → In (outputs_of p.covers) d.output → sewn_name lead (1 + i) p d.output ≡ y → IsNeeded p d.output
  needed-inside y (observed e) i p d there has driven is = elim (name-cases lead (1 + i) p d.output) [
    | inl a ↦ edge-needed lead (pieces i p there).0 p (pieces i p there).1 d has driven a.0
    | inr b ↦ absurd (seen y (decimal (1 + i) ++ 95 ∷ d.output) (among-in (observed_names m) y e) (sym is ∙ b))
  ]
  needed-inside y (read c covers needed among) i p d there has driven is = go (name-cases lead (1 + i) p d.output) (λ o driven. needed-inside c.output needed o.place o.part o.cover o.there o.has driven (ap (λ (e : Cover). e.output) o.is))
    where
      go : (In (edge_names p) d.output × (sewn_name lead (1 + i) p d.output ≡ d.output)) ⊎ (sewn_name lead (1 + i) p d.output ≡ inner_name lead (1 + i) d.output)
          → ((o : Origin lead 1 parts c) → In (outputs_of o.part.covers) o.cover.output → IsNeeded o.part o.cover.output) → IsNeeded p d.output
      go (inl a) rest = edge-needed lead (pieces i p there).0 p (pieces i p there).1 d has driven a.0
      go (inr b) rest =
          let o : Origin lead 1 parts c = origin lead 1 parts c (contains-in (sewn_covers lead 1 parts) c covers) in
          let z : (z : Word) × (In o.cover.inputs z × (sewn_name lead (1 + o.place) o.part z ≡ y)) = in_map (sewn_name lead (1 + o.place) o.part) o.cover.inputs y (subst (λ (e : Cover). In e.inputs y) (sym o.is) (among-in c.inputs y among)) in
          let same : (i ≡ o.place) × (z.0 ≡ d.output) = same-part i o.place p o.part d.output z.0 there o.there (z.1.1 ∙ (sym is ∙ b)) in
          let own : IsNeeded o.part z.0 = read o.cover (in_contains o.part.covers o.cover o.has) (rest o (in-outputs o.part.covers o.cover o.has)) (in-among o.cover.inputs z.0 z.1.0) in
          let part : o.part ≡ p = some_is o.part p (sym o.there ∙ (ap (slice_get parts) (sym same.0) ∙ there)) in
          subst (λ (q : Model). IsNeeded q d.output) part (subst (λ (w : Word). IsNeeded o.part w) same.1 own)

-- A ranked model has one consistent valuation for each assignment of its sources.
use Rattle.std.proofs.Common.{◌≡◌, ℕ, zero, suc, ◌<◌, List, [], ◌∷◌, ◌++◌, map, length, Bool, true, false, cond, not, ◌||◌, Option, Some, None, ◌⊎◌, inl, inr, refl, sym, ap, ◌∙◌, subst, arith}
use Rattle.std.specs.Prelude.{slice_get, All}
use Rattle.std.specs.List.{list_any, flat_map, filter_map}
use Rattle.std.specs.Option.{option_map}
use Rattle.std.proofs.lemmas.Bool.{and_parts, false_from_ne_true}
use Rattle.rm_model.specs.Words.{is_word}
use Rattle.rm_model.specs.Value.{is_among, source_names, value_of, IsConsistent, IsRanked, is_cover_output, control_of, outputs_of}
use Rattle.rm_model.specs.Inner.Value.{rank_bound, assigned_value}
use Rattle.rm_model.specs.Ranks.{cover_of}
use Rattle.rm_model.specs.WellFormed.{is_distinct, driven_names, IsWellFormed}
use Rattle.rm_model.specs.declared.parts.Cover.{Cover}
use Rattle.rm_model.specs.declared.parts.Latch.{Latch}
use Rattle.rm_model.specs.declared.parts.Model.{Model}
use Rattle.rm_model.proofs.CoverLemmas.{same_word, is_word-same, among-at, at-among, distinct-right, output-at, drives-of, some-drives, is-driven, drives-own}
use Rattle.rm_model.proofs.NameLemmas.{among-append, distinct-apart, distinct-left, list_all-inputs}
use Rattle.rm_base.proofs.Public.{all_at, all_from_places, list_all-parts, list_all-at, map_agree, not_excludes, same-in-map}
use Rattle.rm_base.specs.Words.{Word}

-- the value of what drives a name, by the values of the names that it reads
abbrev pub value_by : (Word → Bool) → List Cover → Bool → Word → Bool
value_by w [] b x = b
value_by w (c ∷ cs) b x = cond (is_word x c.output) (value_of c (map w c.inputs)) (value_by w cs b x)

-- the values of the names over so many covers
abbrev pub value_in : ℕ → Model → (Word → Bool) → Word → Bool
value_in zero m a x = a x
value_in (suc n) m a x = value_by (value_in n m a) m.covers (a x) x

value_by-cover : (w : Word → Bool) (cs : List Cover) (b : Bool) (x : Word) (k : ℕ) (c : Cover) → cover_of cs x ≡ Some k → slice_get cs k ≡ Some c → value_by w cs b x ≡ value_of c (map w c.inputs)
value_by-cover w [] b x k c e at = absurd cc
value_by-cover w (d ∷ cs) b x k c e at = go (is_word x d.output) (cover_of cs x) refl k e at (λ j. value_by-cover w cs b x j c)
  where
    go : (t : Bool) (o : Option ℕ) → cover_of cs x ≡ o → (k : ℕ) → cond t (Some 0) (option_map (λ k. suc k) o) ≡ Some k → slice_get (d ∷ cs) k ≡ Some c → ((j : ℕ) → cover_of cs x ≡ Some j → slice_get cs j ≡ Some c → value_by w cs b x ≡ value_of c (map w c.inputs)) → cond t (value_of d (map w d.inputs)) (value_by w cs b x) ≡ value_of c (map w c.inputs)
    go true o is zero e at rest = let same : d ≡ c = cc in ap (λ (c : Cover). value_of c (map w c.inputs)) same
    go true o is (suc k) e at rest = absurd cc
    go false None is k e at rest = absurd cc
    go false (Some j) is zero e at rest = absurd cc
    go false (Some j) is (suc k) e at rest = let same : j ≡ k = cc in rest k (is ∙ ap Some same) at

value_by-source : (w : Word → Bool) (cs : List Cover) (b : Bool) (x : Word) → cover_of cs x ≡ None → value_by w cs b x ≡ b
value_by-source w [] b x e = refl
value_by-source w (d ∷ cs) b x e = go (is_word x d.output) (cover_of cs x) refl e (value_by-source w cs b x)
  where
    go : (t : Bool) (o : Option ℕ) → cover_of cs x ≡ o → cond t (Some 0) (option_map (λ k. suc k) o) ≡ None → (cover_of cs x ≡ None → value_by w cs b x ≡ b) → cond t (value_of d (map w d.inputs)) (value_by w cs b x) ≡ b
    go true o is e rest = absurd cc
    go false None is e rest = rest is
    go false (Some j) is e rest = absurd cc

pub below-high : (rank : Word → ℕ) (cs : List Cover) (k : ℕ) (c : Cover) → slice_get cs k ≡ Some c → rank c.output < rank_bound rank cs
below-high rank [] k c e = absurd cc
below-high rank (d ∷ cs) zero c e = let is : d ≡ c = cc in subst (λ (c : Cover). rank c.output < rank_bound rank (d ∷ cs)) is (omega arith)
below-high rank (d ∷ cs) (suc k) c e = omega (arith, below-high rank cs k c e)

module _ (m : Model) (ranked : IsRanked m) where
  -- an input that a cover drives is below the cover
  input-below : (k : ℕ) (c : Cover) (p : ℕ) (x : Word) → slice_get m.covers k ≡ Some c → slice_get c.inputs p ≡ Some x → is_cover_output m x ≡ true → ranked.0 x < ranked.0 c.output
  input-below k c p x there at driven =
      all_at (λ (x : Word). is_cover_output m x ≡ true → ranked.0 x < ranked.0 c.output) c.inputs p x
      (all_at (λ (c : Cover). All (λ x. is_cover_output m x ≡ true → ranked.0 x < ranked.0 c.output) c.inputs) m.covers k c ranked.1 there) at driven

  module _ (a : Word → Bool) where
    stable-source : (n : ℕ) (x : Word) → cover_of m.covers x ≡ None → value_in n m a x ≡ a x
    stable-source zero x e = refl
    stable-source (suc n) x e = value_by-source (value_in n m a) m.covers (a x) x e

    stable : (n : ℕ) (x : Word) → (is_cover_output m x ≡ true → ranked.0 x < n) → value_in n m a x ≡ value_in (suc n) m a x
    stable zero x below = elim-source (cover_of m.covers x) refl
      where
        elim-source : (o : Option ℕ) → cover_of m.covers x ≡ o → value_in zero m a x ≡ value_in (suc zero) m a x
        elim-source None e = sym (stable-source (suc zero) x e)
        elim-source (Some k) e = absurd (omega (arith, below (is-driven m.covers x k e)))
    stable (suc n) x below = step n x below (λ y. stable n y) (cover_of m.covers x) refl
      where
        step : (n : ℕ) (x : Word) → (is_cover_output m x ≡ true → ranked.0 x < suc n) → ((y : Word) → (is_cover_output m y ≡ true → ranked.0 y < n) → value_in n m a y ≡ value_in (suc n) m a y) → (o : Option ℕ) → cover_of m.covers x ≡ o → value_in (suc n) m a x ≡ value_in (suc (suc n)) m a x
        step n x below ih None e = stable-source (suc n) x e ∙ sym (stable-source (suc (suc n)) x e)
        step n x below ih (Some k) e =
            let d = drives-of m.covers x k e in
            let less : ranked.0 x < suc n = below (is-driven m.covers x k e) in
            let inputs : map (value_in n m a) d.cover.inputs ≡ map (value_in (suc n) m a) d.cover.inputs = map_agree (value_in n m a) (value_in (suc n) m a) d.cover.inputs (λ p y at. ih y (λ driven. omega (arith, less, input-below k d.cover p y d.there at driven, ap ranked.0 d.drives))) in
            value_by-cover (value_in n m a) m.covers (a x) x k d.cover e d.there
            ∙ (ap (value_of d.cover) inputs
            ∙ sym (value_by-cover (value_in (suc n) m a) m.covers (a x) x k d.cover e d.there))

    pub valuation : Word → Bool
    valuation = value_in (rank_bound ranked.0 m.covers) m a

    pub valuation-consistent : is_distinct (driven_names m) ≡ true → IsConsistent m valuation
    unfolding valuation
    valuation-consistent once = all_from_places (λ (c : Cover). valuation c.output ≡ value_of c (map valuation c.inputs)) m.covers (λ k c there.
        let own : cover_of m.covers c.output ≡ Some k = drives-own m.covers k c (distinct-right (source_names m) (outputs_of m.covers) once) there in
        stable (rank_bound ranked.0 m.covers) c.output (λ driven. below-high ranked.0 m.covers k c there)
        ∙ value_by-cover (value_in (rank_bound ranked.0 m.covers) m a) m.covers (a c.output) c.output k c own there)

    pub valuation-sources : is_distinct (driven_names m) ≡ true → map valuation (source_names m) ≡ map a (source_names m)
    unfolding valuation
    valuation-sources once = map_agree valuation a (source_names m) (λ p x at. by x (among-at (source_names m) p x at) (cover_of m.covers x) refl)
      where
        by : (x : Word) → is_among (source_names m) x ≡ true → (o : Option ℕ) → cover_of m.covers x ≡ o → valuation x ≡ a x
        by x source None e = stable-source (rank_bound ranked.0 m.covers) x e
        by x source (Some k) e = absurd (
            let d = drives-of m.covers x k e in
            let output : is_among (outputs_of m.covers) x ≡ true = among-at (outputs_of m.covers) k x (output-at m.covers k d.cover d.there ∙ ap Some (sym d.drives)) in
            distinct-apart (source_names m) (outputs_of m.covers) x once source output)

pub assigned-values : (xs : List Word) (bs : List Bool) → is_distinct xs ≡ true → length bs ≡ length xs → map (assigned_value xs bs) xs ≡ bs
assigned-values [] [] once e = refl
assigned-values [] (b ∷ bs) once e = absurd (omega (arith, e))
assigned-values (x ∷ xs) [] once e = absurd (omega (arith, e))
assigned-values (x ∷ xs) (b ∷ bs) once e =
    let parts = and_parts (not (is_among xs x)) (is_distinct xs) once in
    let rest : map (assigned_value (x ∷ xs) (b ∷ bs)) xs ≡ map (assigned_value xs bs) xs = map_agree (assigned_value (x ∷ xs) (b ∷ bs)) (assigned_value xs bs) xs (λ p y at.
    let other : is_word y x ≡ false = false_from_ne_true (is_word y x) (λ same. not_excludes (is_among xs x) parts.0 (subst (λ (w : Word). is_among xs w ≡ true) (same_word y x same) (among-at xs p y at))) in
    rw other refl) in
    let here : assigned_value (x ∷ xs) (b ∷ bs) x ≡ b = rw (is_word-same x) refl in
    rw (here, rest, assigned-values xs bs parts.1 (omega (arith, e))) refl

pub valuation-exists : (m : Model) (bs : List Bool) → is_distinct (driven_names m) ≡ true → IsRanked m → length bs ≡ length (source_names m) → (v : Word → Bool) × (IsConsistent m v × (map v (source_names m) ≡ bs))
valuation-exists m bs once ranked e =
    let a : Word → Bool = assigned_value (source_names m) bs in
    (valuation m ranked a, (valuation-consistent m ranked a once, valuation-sources m ranked a once ∙ assigned-values (source_names m) bs (distinct-left (source_names m) (outputs_of m.covers) once) e))

module _ (m : Model) (formed : IsWellFormed m) (ranked : IsRanked m) (v w : Word → Bool) (first : IsConsistent m v) (second : IsConsistent m w) (agree : map v (source_names m) ≡ map w (source_names m)) where
  inputs-driven : (k : ℕ) (c : Cover) (p : ℕ) (x : Word) → slice_get m.covers k ≡ Some c → slice_get c.inputs p ≡ Some x → is_among (driven_names m) x ≡ true
  inputs-driven k c p x there at =
      let all = formed.all_driven in
      let front = (list_all-parts (is_among (driven_names m)) ((m.outputs ++ flat_map (λ (c : Cover). c.inputs) m.covers) ++ map (λ (l : Latch). l.input) m.latches) (filter_map control_of m.latches) all).0 in
      let middle = (list_all-parts (is_among (driven_names m)) (m.outputs ++ flat_map (λ (c : Cover). c.inputs) m.covers) (map (λ (l : Latch). l.input) m.latches) front).0 in
      let covers = (list_all-parts (is_among (driven_names m)) m.outputs (flat_map (λ (c : Cover). c.inputs) m.covers) middle).1 in
      list_all-at (is_among (driven_names m)) c.inputs p x (list_all-inputs (is_among (driven_names m)) m.covers k c covers there) at

  at-source : (x : Word) → is_among (source_names m) x ≡ true → v x ≡ w x
  at-source x source = let at : (k : ℕ) × (slice_get (source_names m) k ≡ Some x) = at-among (source_names m) x source in same-in-map v w (source_names m) at.0 x agree at.1

  output-cover : (x : Word) → is_among (outputs_of m.covers) x ≡ true → is_cover_output m x ≡ true
  output-cover x e = any-map m.covers e
    where
      any-map : (cs : List Cover) → is_among (outputs_of cs) x ≡ true → list_any (λ (c : Cover). is_word x c.output) cs ≡ true
      any-map [] e = e
      any-map (c ∷ cs) e = go (is_word x c.output) e (any-map cs)
        where
          go : (b : Bool) → (b || is_among (outputs_of cs) x) ≡ true → (is_among (outputs_of cs) x ≡ true → list_any (λ (c : Cover). is_word x c.output) cs ≡ true) → (b || list_any (λ (c : Cover). is_word x c.output) cs) ≡ true
          go true e rest = refl
          go false e rest = rest e

  same-below : (n : ℕ) (x : Word) → is_among (driven_names m) x ≡ true → (is_cover_output m x ≡ true → ranked.0 x < n) → v x ≡ w x
  same-below zero x driven below = elim (among-append (source_names m) (outputs_of m.covers) x driven) [
    | inl source ↦ at-source x source
    | inr output ↦ absurd (omega (arith, below (output-cover x output)))
  ]
  same-below (suc n) x driven below = step n x below (λ y. same-below n y) (among-append (source_names m) (outputs_of m.covers) x driven)
    where
      step : (n : ℕ) (x : Word) → (is_cover_output m x ≡ true → ranked.0 x < suc n) → ((y : Word) → is_among (driven_names m) y ≡ true → (is_cover_output m y ≡ true → ranked.0 y < n) → v y ≡ w y) → (is_among (source_names m) x ≡ true) ⊎ (is_among (outputs_of m.covers) x ≡ true) → v x ≡ w x
      step n x below ih (inl source) = at-source x source
      step n x below ih (inr output) =
          let driver = some-drives m.covers x (output-cover x output) in
          let d = drives-of m.covers x driver.0 driver.1 in
          let less : ranked.0 x < suc n = below (output-cover x output) in
          let inputs : map v d.cover.inputs ≡ map w d.cover.inputs = map_agree v w d.cover.inputs (λ p y at. ih y (inputs-driven driver.0 d.cover p y d.there at) (λ h. omega (arith, less, input-below m ranked driver.0 d.cover p y d.there at h, ap ranked.0 d.drives))) in
          let left : v d.cover.output ≡ value_of d.cover (map v d.cover.inputs) = all_at (λ (c : Cover). v c.output ≡ value_of c (map v c.inputs)) m.covers driver.0 d.cover first d.there in
          let right : w d.cover.output ≡ value_of d.cover (map w d.cover.inputs) = all_at (λ (c : Cover). w c.output ≡ value_of c (map w c.inputs)) m.covers driver.0 d.cover second d.there in
          (ap v d.drives ∙ left) ∙ (ap (value_of d.cover) inputs ∙ sym (ap w d.drives ∙ right))

  pub valuation-unique : (x : Word) → is_among (driven_names m) x ≡ true → v x ≡ w x
  valuation-unique x driven = same-below (suc (ranked.0 x)) x driven (λ h. omega arith)

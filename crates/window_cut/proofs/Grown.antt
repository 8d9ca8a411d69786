-- What a visit leads to: each place that is done is that of a needed cover, and comes behind the places of the covers that it reads.
use Rattle.std.proofs.Common.{◌≡◌, ◌<◌, ℕ, zero, suc, Bool, true, false, List, [], ◌∷◌, ◌++◌, length, fold, refl, sym, ap, ◌∙◌, subst, arith, nat_eq, ◌⊎◌, inl, inr}
use Rattle.std.specs.Prelude.{Option, None, Some, slice_get, if◌then◌else◌}
use Rattle.std.proofs.lemmas.Bool.Decides.{eqb_tells}
use Rattle.rm_base.proofs.Public.{any_in, in_any, in_append, in_at, in_contains, in_left, in_right, some_same}
use Rattle.rm_base.specs.Members.{In}
use Rattle.rm_base.specs.Words.{Word}
use Rattle.rm_model.proofs.Public.{drives-of}
use Rattle.rm_model.specs.Ranks.{cover_of}
use Rattle.rm_model.specs.Value.{observed_names}
use Rattle.rm_model.specs.declared.parts.Cover.{Cover}
use Rattle.rm_model.specs.declared.parts.Model.{Model}
use Rattle.cover_decompose.proofs.Public.{among_in}
use Rattle.cover_decompose.specs.Needed.{IsNeeded, observed, read}
use Rattle.window_cut.proofs.Fuel.{Below, below_all, below_inputs, input_lower}
use Rattle.window_cut.specs.Inner.Levels.{IsLevelled}
use Rattle.window_cut.specs.Order.{inputs_at, inputs_of, is_done, post_order, visited, with_cover}

pub done_in : (done : List ℕ) (k : ℕ) → is_done done k ≡ true → In done k
done_in done k e = let r = in_any (nat_eq k) done e in elim (eqb_tells k r.0) [ inl h ↦ subst (λ (j : ℕ). In done j) (sym h.1) r.1.0 | inr h ↦ let bad : true ≡ false = sym r.1.1 ∙ h.0 in absurd cc ]

pub not_in : (done : List ℕ) (k : ℕ) → is_done done k ≡ false → In done k → ⊥
not_in done k e i =
    let itself : nat_eq k k ≡ true = elim (eqb_tells k k) [ inl h ↦ h.0 | inr h ↦ absurd (h.1 refl) ] in
    let bad : true ≡ false = sym (any_in (nat_eq k) done k i itself) ∙ e in cc

-- places that came one by one: each is of a needed cover, it wasn't there before, and those of the covers that it reads were
pub data Grown (m : Model) : List ℕ → Type 0 where
  start : (all : List ℕ) → all ≡ [] → Grown m all
  grow : (done all : List ℕ) (k : ℕ) (c : Cover) → all ≡ done ++ k ∷ [] → Grown m done → slice_get m.covers k ≡ Some c → (In done k → ⊥)
      → ((x : Word) (j : ℕ) → In c.inputs x → cover_of m.covers x ≡ Some j → In done j) → IsNeeded m c.output → Grown m all

-- the cover of a name is done, and those that are done anew have levels below a bound
pub record Visited (m : Model) (level : ℕ → ℕ) (done after : List ℕ) (x : Word) (bound : ℕ) : Type 0 where
  pub grown : Grown m after
  pub keeps : (j : ℕ) → In done j → In after j
  pub low : (j : ℕ) → In after j → In done j ⊎ (level j < bound)
  pub has : (j : ℕ) → cover_of m.covers x ≡ Some j → In after j

pub record VisitedAll (m : Model) (level : ℕ → ℕ) (done after : List ℕ) (xs : List Word) (bound : ℕ) : Type 0 where
  pub grown : Grown m after
  pub keeps : (j : ℕ) → In done j → In after j
  pub low : (j : ℕ) → In after j → In done j ⊎ (level j < bound)
  pub has : (x : Word) → In xs x → (j : ℕ) → cover_of m.covers x ≡ Some j → In after j

visits_all : (m : Model) (level : ℕ → ℕ) (visit : List ℕ → Word → List ℕ) (xs : List Word) (done : List ℕ) (bound : ℕ) → Grown m done
    → ((x : Word) → In xs x → (d : List ℕ) → Grown m d → Visited m level d (visit d x) x bound) → VisitedAll m level done (fold visit done xs) xs bound
visits_all m level visit [] done bound g h = record { grown = g; keeps = λ j i. i; low = λ j i. inl i; has = λ x i j e. absurd i }
visits_all m level visit (x ∷ xs) done bound g h =
    let first = h x (inl refl) done g in
    let rest = visits_all m level visit xs (visit done x) bound first.grown (λ y i. h y (inr i)) in
    record {
      grown = rest.grown;
      keeps = λ j i. rest.keeps j (first.keeps j i);
      low = λ j i. elim (rest.low j i) [ inl a ↦ first.low j a | inr b ↦ inr b ];
      has = λ y i j e. elim i [ inl s ↦ rest.keeps j (first.has j (ap (cover_of m.covers) s ∙ e)) | inr r ↦ rest.has y r j e ];
    }

module _ (m : Model) (level : ℕ → ℕ) (levelled : IsLevelled m level) where
  visits : (n : ℕ) (x : Word) → Below m level levelled n x → IsNeeded m x → (bound : ℕ) → Below m level levelled bound x → (done : List ℕ) → Grown m done → Visited m level done (visited n m done x) x bound
  visits zero x below needed bound low done g = record { grown = g; keeps = λ j i. i; low = λ j i. inl i; has = λ j e. absurd (omega (arith, below j e)) }
  visits (suc n) x below needed bound low done g = by_cover (cover_of m.covers x) refl (λ y. visits n y)
    where
      by_done : (k : ℕ) → cover_of m.covers x ≡ Some k
          → ((y : Word) → Below m level levelled n y → IsNeeded m y → (b : ℕ) → Below m level levelled b y → (d : List ℕ) → Grown m d → Visited m level d (visited n m d y) y b)
          → (b : Bool) → is_done done k ≡ b → Visited m level done (if b then done else fold (visited n m) done (inputs_at m.covers k) ++ k ∷ []) x bound
      by_done k e next true is = record { grown = g; keeps = λ j i. i; low = λ j i. inl i; has = λ j f. subst (λ (i : ℕ). In done i) (some_same (sym e ∙ f)) (done_in done k is) }
      by_done k e next false is =
          let d = drives-of m.covers x k e in
          let at : inputs_at m.covers k ≡ d.cover.inputs = ap inputs_of d.there in
          let needed_cover : IsNeeded m d.cover.output = subst (λ (y : Word). IsNeeded m y) d.drives needed in
          let after : List ℕ = fold (visited n m) done (inputs_at m.covers k) in
          let all : VisitedAll m level done after (inputs_at m.covers k) (level k) =
          visits_all m level (visited n m) (inputs_at m.covers k) done (level k) g
          (λ y i d2 g2. next y (below_inputs m level levelled n x k below e y i) (read d.cover (in_contains m.covers d.cover (in_at m.covers k d.cover d.there)) needed_cover (among_in d.cover.inputs y (subst (λ (l : List Word). In l y) at i))) (level k) (λ j f. input_lower m level levelled x y k j e i f) d2 g2) in
          let less : level k < bound = low k e in
          record {
            grown = grow after (after ++ k ∷ []) k d.cover refl all.grown d.there (λ i. elim (all.low k i) [ inl a ↦ not_in done k is a | inr lt ↦ omega (arith, lt) ]) (λ y j i f. all.has y (subst (λ (l : List Word). In l y) (sym at) i) j f) needed_cover;
            keeps = λ j i. in_left after (k ∷ []) j (all.keeps j i);
            low = λ j i. elim (in_append after (k ∷ []) j i) [
              | inl a ↦ elim (all.low j a) [ inl b ↦ inl b | inr lt ↦ inr (omega (arith, lt, less)) ]
              | inr b ↦ elim b [ inl s ↦ inr (subst (λ (i : ℕ). level i < bound) s less) | inr z ↦ absurd z ]
            ];
            has = λ j f. in_right after (k ∷ []) j (inl (some_same (sym e ∙ f)));
          }

      by_cover : (o : Option ℕ) → cover_of m.covers x ≡ o
          → ((y : Word) → Below m level levelled n y → IsNeeded m y → (b : ℕ) → Below m level levelled b y → (d : List ℕ) → Grown m d → Visited m level d (visited n m d y) y b)
          → Visited m level done (with_cover (visited n m) m done o) x bound
      by_cover None e next = record { grown = g; keeps = λ j i. i; low = λ j i. inl i; has = λ j f. let bad : None ≡ Some j = sym e ∙ f in absurd cc }
      by_cover (Some k) e next = by_done k e next (is_done done k) refl

  pub post_order-visits : VisitedAll m level [] (post_order m) (observed_names m) (length m.covers)
  post_order-visits =
      visits_all m level (visited (length m.covers) m) (observed_names m) [] (length m.covers) (start [] refl)
      (λ x i d g. visits (length m.covers) x (below_all m level levelled x) (observed (among_in (observed_names m) x i)) (length m.covers) (below_all m level levelled x) d g)

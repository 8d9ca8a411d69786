-- In a model whose covers have levels, a visit to the depth of the number of covers is as good as any deeper one.
use Rattle.std.proofs.Common.{◌≡◌, ◌<◌, ◌+◌, ℕ, zero, suc, List, [], ◌∷◌, ◌++◌, length, fold, refl, ap, ◌∙◌, subst, arith, inl, inr}
use Rattle.std.specs.Prelude.{Option, None, Some, if◌then◌else◌}
use Rattle.rm_base.specs.Members.{In}
use Rattle.rm_base.specs.Words.{Word}
use Rattle.rm_model.specs.Ranks.{cover_of}
use Rattle.rm_model.specs.declared.parts.Model.{Model}
use Rattle.rm_model.proofs.Public.{drives-of}
use Rattle.window_cut.specs.Inner.Levels.{IsLevelled}
use Rattle.window_cut.specs.Inner.Walk.{steps, steps_over, steps_within, sum_of, visit}
use Rattle.window_cut.specs.Order.{inputs_at, inputs_of, is_done, visited, with_cover}

pub fold_agree : {A B : Type 0} (f g : B → A → B) (xs : List A) (b : B) → ((b : B) (x : A) → In xs x → f b x ≡ g b x) → fold f b xs ≡ fold g b xs
fold_agree f g [] b h = refl
fold_agree f g (x ∷ xs) b h = ap (λ (c : _). fold f c xs) (h b x (inl refl)) ∙ fold_agree f g xs (g b x) (λ c y m. h c y (inr m))

sum_agree : (f g : Word → ℕ) (xs : List Word) → ((x : Word) → In xs x → f x ≡ g x) → sum_of f xs ≡ sum_of g xs
sum_agree f g [] h = refl
sum_agree f g (x ∷ xs) h = let here : f x ≡ g x = h x (inl refl) in let rest = sum_agree f g xs (λ y m. h y (inr m)) in omega (arith, here, rest)

module _ (m : Model) (level : ℕ → ℕ) (levelled : IsLevelled m level) where
  -- the cover of a name, if it has one, has a level below
  abbrev pub Below : ℕ → Word → Type 0
  Below n x = (k : ℕ) → cover_of m.covers x ≡ Some k → level k < n

  pub below_all : (x : Word) → Below (length m.covers) x
  below_all x k e = let d = drives-of m.covers x k e in levelled.small k d.cover d.there

  -- what a cover reads is lower
  pub input_lower : (x y : Word) (k j : ℕ) → cover_of m.covers x ≡ Some k → In (inputs_at m.covers k) y → cover_of m.covers y ≡ Some j → level j < level k
  input_lower x y k j e here f =
      let d = drives-of m.covers x k e in
      levelled.lower k j d.cover y d.there (subst (λ (ys : List Word). In ys y) (ap inputs_of d.there) here) f

  pub below_inputs : (n : ℕ) (x : Word) (k : ℕ) → Below (suc n) x → cover_of m.covers x ≡ Some k → (y : Word) → In (inputs_at m.covers k) y → Below n y
  below_inputs n x k below e y here j f = let lower = input_lower x y k j e here f in let less = below k e in omega (arith, lower, less)

  deeper : (n : ℕ) (x : Word) → Below n x → (done : List ℕ) → visited n m done x ≡ visited (suc n) m done x
  deeper zero x below done = by_cover (cover_of m.covers x) refl
    where
      by_cover : (o : Option ℕ) → cover_of m.covers x ≡ o → done ≡ with_cover (visited zero m) m done o
      by_cover None e = refl
      by_cover (Some k) e = absurd (omega (arith, below k e))
  deeper (suc n) x below done = by_cover (cover_of m.covers x) refl (λ y. deeper n y)
    where
      by_cover : (o : Option ℕ) → cover_of m.covers x ≡ o → ((y : Word) → Below n y → (d : List ℕ) → visited n m d y ≡ visited (suc n) m d y) → with_cover (visited n m) m done o ≡ with_cover (visited (suc n) m) m done o
      by_cover None e next = refl
      by_cover (Some k) e next = ap (λ (l : List ℕ). if is_done done k then done else l ++ k ∷ []) (fold_agree (visited n m) (visited (suc n) m) (inputs_at m.covers k) done (λ d y here. next y (below_inputs n x k below e y here) d))

  -- a visit does what its cover asks for
  pub visit_covers : (done : List ℕ) (x : Word) → visit m done x ≡ with_cover (visit m) m done (cover_of m.covers x)
  visit_covers done x = deeper (length m.covers) x (below_all x) done

  more_steps : (n : ℕ) (x : Word) → Below n x → steps_within n m x ≡ steps_within (suc n) m x
  more_steps zero x below = by_cover (cover_of m.covers x) refl
    where
      by_cover : (o : Option ℕ) → cover_of m.covers x ≡ o → 1 ≡ steps_over (steps_within zero m) m o
      by_cover None e = refl
      by_cover (Some k) e = absurd (omega (arith, below k e))
  more_steps (suc n) x below = by_cover (cover_of m.covers x) refl (λ y. more_steps n y)
    where
      by_cover : (o : Option ℕ) → cover_of m.covers x ≡ o → ((y : Word) → Below n y → steps_within n m y ≡ steps_within (suc n) m y) → steps_over (steps_within n m) m o ≡ steps_over (steps_within (suc n) m) m o
      by_cover None e next = refl
      by_cover (Some k) e next = ap (λ (a : ℕ). 2 + a) (sum_agree (steps_within n m) (steps_within (suc n) m) (inputs_at m.covers k) (λ y here. next y (below_inputs n x k below e y here)))

  pub steps_cover : (x : Word) → steps m x ≡ steps_over (steps m) m (cover_of m.covers x)
  steps_cover x = more_steps (length m.covers) x (below_all x)

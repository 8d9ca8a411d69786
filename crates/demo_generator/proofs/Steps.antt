-- What one turn of a loop adds.
use Rattle.std.proofs.Common.{◌≡◌, ◌∙◌, ◌+◌, ◌-◌, ◌*◌, ◌≤◌, ℕ, true, sym, ap, ap₂, List, [], ◌∷◌, ◌++◌, map, arith}
use Rattle.std.proofs.lemmas.List.{map-append}
use Rattle.rm_model.specs.declared.parts.Cover.{Cover}
use Rattle.rm_model.specs.declared.parts.Literal.{Literal}
use Rattle.demo_generator.specs.Draws.{after, answer, drawn, next_state}
use Rattle.demo_generator.specs.Generator.{cover_at, covers_from, numbers_from, row_at, signal}
use Rattle.demo_generator.proofs.Drawing.{after-add, after-more, covers-more, drawn-more, numbers-more}
use Rattle.rm_base.specs.Words.{Word}

module _ {Y : Type 0} (f : ℕ → Y) (n k x : ℕ) where
  pub state_more : (s t : ℕ) → s ≡ after n x → t ≡ next_state s → t ≡ after (n + 1) x
  state_more s t e step = step ∙ ap next_state e ∙ sym (after-more n x)

  pub drawn_one : (s t v : ℕ) (item : Y) (ys zs : List Y) → s ≡ after n x → t ≡ next_state s → v ≡ answer k t → item ≡ f v
      → ys ≡ map f (drawn n k x) → zs ≡ ys ++ item ∷ [] → zs ≡ map f (drawn (n + 1) k x)
  drawn_one s t v item ys zs e step answers is ys-is zs-is =
      let last : item ≡ f (answer k (after (n + 1) x)) = is ∙ ap f (answers ∙ ap (answer k) (state_more s t e step)) in
      zs-is ∙ ap₂ (λ a b. a ++ b ∷ []) ys-is last ∙ sym (map-append f (drawn n k x) ((answer k (after (n + 1) x)) ∷ [])) ∙ ap (map f) (sym (drawn-more n k x))

pub named_one : (first number : ℕ) (item : Word) (ys zs : List Word) → first ≤ number → ys ≡ map signal (numbers_from first (number - first)) → item ≡ signal number
    → zs ≡ ys ++ item ∷ [] → zs ≡ map signal (numbers_from first (number + 1 - first))
named_one first number item ys zs le ys-is is zs-is =
    let more : number + 1 - first ≡ number - first + 1 = omega arith in
    let last : first + (number - first) ≡ number = omega arith in
    zs-is ∙ ap₂ (λ a b. a ++ b ∷ []) ys-is (is ∙ ap signal (sym last)) ∙ sym (map-append signal (numbers_from first (number - first)) ((first + (number - first)) ∷ []))
    ∙ ap (map signal) (sym (ap (numbers_from first) more ∙ numbers-more first (number - first)))

abbrev made : List Word → Word → List (List Literal) → Cover
made inputs output rows = record { inputs = inputs; output = output; on = true; rows = rows }

pub cover_one : (j x s : ℕ) (inputs : List Word) (output : Word) (rows : List (List Literal)) → inputs ≡ map signal (drawn 3 (16 + j) x) → s ≡ after 3 x
    → rows ≡ row_at s ∷ row_at (after 3 s) ∷ [] → output ≡ signal (16 + j) → made inputs output rows ≡ cover_at j x
cover_one j x s inputs output rows ins state rows-are out =
    let both : rows ≡ row_at (after 3 x) ∷ row_at (after 6 x) ∷ [] = rows-are ∙ ap₂ (λ y z. row_at y ∷ row_at z ∷ []) state (ap (after 3) state ∙ after-add 3 3 x) in
    ap (λ i. made i output rows) ins ∙ ap₂ (λ o r. made (map signal (drawn 3 (16 + j) x)) o r) out both

pub covers_one : (n x s : ℕ) (c : Cover) (ys zs : List Cover) → s ≡ after (9 * n) x → c ≡ cover_at n s → ys ≡ covers_from n 0 x → zs ≡ ys ++ c ∷ []
    → zs ≡ covers_from (n + 1) 0 x
covers_one n x s c ys zs state is ys-are zs-are = zs-are ∙ ap₂ (λ a b. a ++ b ∷ []) ys-are (is ∙ ap (cover_at n) state) ∙ sym (covers-more n x)

pub nine_more : (n x s t : ℕ) → s ≡ after (9 * n) x → t ≡ after 9 s → t ≡ after (9 * (n + 1)) x
nine_more n x s t e step = let more : 9 * n + 9 ≡ 9 * (n + 1) = omega arith in step ∙ ap (after 9) e ∙ after-add (9 * n) 9 x ∙ ap (λ k. after k x) more

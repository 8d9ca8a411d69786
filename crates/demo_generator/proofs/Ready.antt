-- Each drawn model is ready to be decomposed.
use Rattle.std.proofs.Common.{◌≡◌, ◌≢◌, ◌∙◌, ◌+◌, ◌*◌, ◌/◌, ◌^◌, ◌&&◌, ◌<◌, ◌≤◌, ℕ, zero, suc, Bool, true, refl, ap, ap₂, List, [], ◌∷◌, ◌++◌, map, length, None, arith}
use Rattle.std.specs.Prelude.{IfSome, codes}
use Rattle.std.specs.List.{All, AllByRecursion, flat_map, list_all}
use Rattle.std.proofs.lemmas.List.Elements.{All-from_recursion}
use Rattle.std.proofs.lemmas.List.Folds.{list_all-append}
use Rattle.std.proofs.lemmas.List.{append-nil}
use Rattle.rm_model.specs.Size.{covers_weight}
use Rattle.rm_model.specs.Ranks.{first_without_rank}
use Rattle.rm_model.specs.Value.{IsRanked, control_of, is_among, is_cover_output}
use Rattle.rm_model.specs.WellFormed.{IsWellFormed, IsWellFormedCover, driven_names, is_distinct, is_token, used_names}
use Rattle.rm_model.specs.declared.parts.Cover.{Cover}
use Rattle.rm_model.specs.declared.parts.Latch.{Latch}
use Rattle.rm_model.specs.declared.parts.Literal.{Literal}
use Rattle.rm_model.specs.declared.parts.Model.{Model}
use Rattle.cover_decompose.specs.Bounds.{WiresAreBounded}
use Rattle.demo_generator.specs.Draws.{after, answer, drawn, next_state}
use Rattle.demo_generator.specs.Generator.{cover_at, covers_from, literal, model_of_seed, numbers_from, signal}
use Rattle.demo_generator.specs.Ready.{AreReady}
use Rattle.demo_generator.proofs.Signals.{all_of, among, distinct, number_of, number_of-signal, signal_is_token}
use Rattle.rm_base.specs.Words.{Word}

-- ---- the covers

outputs : (n j x : ℕ) → map (λ (c : Cover). c.output) (covers_from n j x) ≡ map signal (numbers_from (16 + j) n)
unfolding covers_from
outputs zero j x = refl
outputs (suc n) j x = let e : 16 + j + 1 ≡ 16 + (j + 1) = omega arith in rw e (ap (λ xs. signal (16 + j) ∷ xs) (outputs n (j + 1) (after 9 x)))

count : (n j x : ℕ) → length (covers_from n j x) ≡ n
unfolding covers_from
count zero j x = refl
count (suc n) j x = ap suc (count n (j + 1) (after 9 x))

answer_below : (k y : ℕ) → 0 < k → answer k y < k
answer_below k y pos = let q : ℕ = y / 2 ^ 33 in omega arith

drawn_pass : (p : Word → Bool) → ((k : ℕ) → k < 76 → p (signal k) ≡ true) → (n k x : ℕ) → 0 < k → k ≤ 76 → list_all p (map signal (drawn n k x)) ≡ true
unfolding drawn
drawn_pass p each zero k x pos le = refl
drawn_pass p each (suc n) k x pos le =
    let lt = answer_below k (next_state x) pos in
    ap₂ (λ a b. a && b) (each (answer k (next_state x)) (omega arith)) (drawn_pass p each n k (next_state x) pos le)

inputs_pass : (p : Word → Bool) → ((k : ℕ) → k < 76 → p (signal k) ≡ true) → (n j x : ℕ) → j + n ≤ 60 → list_all p (flat_map (λ (c : Cover). c.inputs) (covers_from n j x)) ≡ true
unfolding covers_from
inputs_pass p each zero j x le = refl
inputs_pass p each (suc n) j x le =
    list_all-append p (map signal (drawn 3 (16 + j) x)) (flat_map (λ (c : Cover). c.inputs) (covers_from n (j + 1) (after 9 x)))
    ∙ ap₂ (λ a b. a && b) (drawn_pass p each 3 (16 + j) x (omega arith) (omega arith)) (inputs_pass p each n (j + 1) (after 9 x) (omega arith))

three_long : (j x y : ℕ) → length (map literal (drawn 3 3 y)) ≡ length (map signal (drawn 3 (16 + j) x))
unfolding drawn
three_long j x y = refl

formed_cover : (j x : ℕ) → IsWellFormedCover (cover_at j x)
formed_cover j x = record {
  no_rows = λ e. refl;
  row_lengths = All-from_recursion (λ (r : List Literal). length r ≡ length (cover_at j x).inputs) (cover_at j x).rows (three_long j x (after 3 x), (three_long j x (after 6 x), tt));
}

formed_covers : (n j x : ℕ) → AllByRecursion IsWellFormedCover (covers_from n j x)
unfolding covers_from
formed_covers zero j x = tt
formed_covers (suc n) j x = (formed_cover j x, formed_covers n (j + 1) (after 9 x))

cover_weighs : (j x : ℕ) → covers_weight (cover_at j x ∷ []) ≡ 15
unfolding drawn
cover_weighs j x = refl

weight : (n j x : ℕ) → covers_weight (covers_from n j x) ≡ 15 * n
unfolding covers_from
weight zero j x = refl
weight (suc n) j x =
    let one = cover_weighs j x in
    let rest = weight n (j + 1) (after 9 x) in
    omega arith

-- ---- each cover reads signals before it

module _ (m : Model) where
  abbrev IsLower : Word → Word → Type 0
  IsLower out x = is_cover_output m x ≡ true → number_of x < number_of out

  drawn_lower : (out : Word) (n k x : ℕ) → 0 < k → k < 76 → number_of out ≡ k → AllByRecursion (IsLower out) (map signal (drawn n k x))
  unfolding drawn
  drawn_lower out zero k x pos lt is = tt
  drawn_lower out (suc n) k x pos lt is =
      let below = answer_below k (next_state x) pos in
      let value = number_of-signal (answer k (next_state x)) (omega arith) in
      ((λ e. omega arith), drawn_lower out n k (next_state x) pos lt is)

  lower : (n j x : ℕ) → j + n ≤ 60 → AllByRecursion (λ (c : Cover). All (IsLower c.output) c.inputs) (covers_from n j x)
  unfolding covers_from
  lower zero j x le = tt
  lower (suc n) j x le = (
    All-from_recursion (IsLower (signal (16 + j))) (map signal (drawn 3 (16 + j) x))
        (drawn_lower (signal (16 + j)) 3 (16 + j) x (omega arith) (omega arith) (number_of-signal (16 + j) (omega arith))),
    lower n (j + 1) (after 9 x) (omega arith),
  )

-- ---- the model

join_pass : (p : Word → Bool) (x : Word) (xs ys : List Word) → p x ≡ true → list_all p xs ≡ true → list_all p ys ≡ true → list_all p ((x ∷ xs) ++ ([] ++ ys)) ≡ true
join_pass p x xs ys e f g = list_all-append p (x ∷ xs) ys ∙ ap₂ (λ a b. a && b) (ap₂ (λ a b. a && b) e f) g

module _ (seed : ℕ) where
  driven : driven_names (model_of_seed seed) ≡ map signal (numbers_from 0 76)
  driven = ap (λ ys. map signal (numbers_from 0 16) ++ ys) (outputs 60 0 seed)

  ranked : IsRanked (model_of_seed seed)
  ranked = (number_of, All-from_recursion (λ (c : Cover). All (IsLower (model_of_seed seed) c.output) c.inputs) (model_of_seed seed).covers (lower (model_of_seed seed) 60 0 seed (omega arith)))

  driven_each : (k : ℕ) → k < 76 → is_among (driven_names (model_of_seed seed)) (signal k) ≡ true
  driven_each k lt = ap (λ xs. is_among xs (signal k)) driven ∙ among 0 76 k (omega arith) (omega arith)

  used_pass : (p : Word → Bool) → ((k : ℕ) → k < 76 → p (signal k) ≡ true) → list_all p (used_names (model_of_seed seed)) ≡ true
  used_pass p each =
      let outs = map signal (numbers_from 68 8) in
      let reads = flat_map (λ (c : Cover). c.inputs) (covers_from 60 0 seed) in
      ap (list_all p) (append-nil ((outs ++ reads) ++ []) ∙ append-nil (outs ++ reads)) ∙ list_all-append p outs reads
      ∙ ap₂ (λ a b. a && b) (all_of p each 68 8 (omega arith)) (inputs_pass p each 60 0 seed (omega arith))

  driven_pass : (p : Word → Bool) → ((k : ℕ) → k < 76 → p (signal k) ≡ true) → list_all p (driven_names (model_of_seed seed)) ≡ true
  driven_pass p each = ap (list_all p) driven ∙ all_of p each 0 76 (omega arith)

  formed : IsWellFormed (model_of_seed seed)
  formed = record {
    tokens = join_pass is_token (codes "demo") (driven_names (model_of_seed seed)) (used_names (model_of_seed seed)) refl (driven_pass is_token signal_is_token) (used_pass is_token signal_is_token);
    inputs_once = distinct 0 16 (omega arith);
    clocks_once = refl;
    driven_once = ap is_distinct driven ∙ distinct 0 76 (omega arith);
    outputs_once = distinct 68 8 (omega arith);
    all_driven = used_pass (is_among (driven_names (model_of_seed seed))) driven_each;
    covers = All-from_recursion IsWellFormedCover (model_of_seed seed).covers (formed_covers 60 0 seed);
    inits = All-from_recursion (λ (l : Latch). IfSome l.init (λ n. n ≤ 3)) [] tt;
    controls = All-from_recursion (λ (l : Latch). IfSome (control_of l) (λ x. x ≢ codes "NIL")) [] tt;
  }

pub ready : WiresAreBounded → ((m : Model) → is_distinct (driven_names m) ≡ true → IsRanked m → first_without_rank m ≡ None) → AreReady
ready bounded ranks seed = record {
  formed = formed seed;
  ranked = ranks (model_of_seed seed) (ap is_distinct (driven seed) ∙ distinct 0 76 (omega arith)) (ranked seed);
  covers = count 60 0 seed;
  sources = refl;
  observed = refl;
  fits = let most = bounded (model_of_seed seed) in let size = weight 60 0 seed in omega arith;
}

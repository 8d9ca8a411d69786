-- The constants and the sources, and what they are worth.
use Rattle.std.proofs.Common.{◌≡◌, ◌<◌, ◌+◌, ℕ, zero, suc, Bool, true, false, cond, List, [], ◌∷◌, ◌++◌, length, refl, sym, ap, subst, ◌∙◌, arith}
use Rattle.std.specs.Prelude.{Some, slice_get, replicate, ◌||◌}
use Rattle.rm_model.specs.Words.{is_word}
use Rattle.rm_model.specs.Value.{is_among, source_names}
use Rattle.rm_model.specs.declared.parts.Model.{Model}
use Rattle.gate_net.specs.declared.Kind.TheVariants.{Source, Zero, One}
use Rattle.gate_net.specs.Net.{Node}
use Rattle.cover_decompose.specs.Inner.Built.{AllBelow}
use Rattle.cover_decompose.specs.Decomposition.{plain, start, source_node}
use Rattle.cover_decompose.specs.StandsFor.{SameAssignment}
use Rattle.cover_decompose.proofs.Formed.{IsMade}
use Rattle.cover_decompose.proofs.Values.{Meets, KnownAmong, NotsKnown}
use Rattle.rm_base.specs.Words.{Word}
use Rattle.rm_model.proofs.Public.{same_word}

pub length-replicate_nodes : (n : ℕ) (x : Node) → length (replicate n x) ≡ n
length-replicate_nodes zero x = refl
length-replicate_nodes (suc n) x = ap (λ (k : ℕ). suc k) (length-replicate_nodes n x)

pub get_replicate : (n k : ℕ) (x y : Node) → slice_get (replicate n x) k ≡ Some y → (y ≡ x) × (k < n)
get_replicate zero k x y e = absurd cc
get_replicate (suc n) zero x y e = (cc, omega arith)
get_replicate (suc n) (suc k) x y e = let r = get_replicate n k x y e in (r.0, let lt : k < n = r.1 in omega arith)

pub replicate_there : (n k : ℕ) (x : Node) → k < n → slice_get (replicate n x) k ≡ Some x
replicate_there zero k x lt = absurd (omega arith)
replicate_there (suc n) zero x lt = refl
replicate_there (suc n) (suc k) x lt = replicate_there n k x (omega arith)

-- a source's node is at its first place
pub source_place : (n : ℕ) (xs : List Word) (x : Word) → is_among xs x ≡ true → (k : ℕ) × ((source_node n xs x ≡ n + k) × (slice_get xs k ≡ Some x))
source_place n [] x e = absurd cc
source_place n (y ∷ xs) x e = by_test (is_word x y) refl (source_place (suc n) xs x) e
  where
    by_test : (b : Bool) → is_word x y ≡ b → (is_among xs x ≡ true → (k : ℕ) × ((source_node (suc n) xs x ≡ suc n + k) × (slice_get xs k ≡ Some x))) → (b || is_among xs x) ≡ true → (k : ℕ) × ((cond b n (source_node (suc n) xs x) ≡ n + k) × (slice_get (y ∷ xs) k ≡ Some x))
    by_test true same next e = (0, (omega arith, ap (λ (z : Word). Some z) (sym (same_word x y same))))
    by_test false same next e = let r = next e in (suc r.0, (let is : source_node (suc n) xs x ≡ suc n + r.0 = r.1.0 in omega arith, r.1.1))

pub source_bound : (n : ℕ) (xs : List Word) (x : Word) → 0 < n → source_node n xs x < n + length xs
source_bound n [] x lt = omega arith
source_bound n (y ∷ xs) x lt = by_test (is_word x y) (source_bound (suc n) xs x (omega arith))
  where
    by_test : (b : Bool) → source_node (suc n) xs x < suc n + length xs → cond b n (source_node (suc n) xs x) < n + suc (length xs)
    by_test true h = omega arith
    by_test false h = omega arith

pub start-length : (m : Model) → length (start m).made ≡ 2 + length (source_names m)
start-length m = let e : length (replicate (length (source_names m)) (plain Source)) ≡ length (source_names m) = length-replicate_nodes (length (source_names m)) (plain Source) in omega arith

-- the constants and the sources read nothing
pub start-plain : (m : Model) (y : ℕ) (n : Node) → slice_get (start m).made y ≡ Some n → n.drivers ≡ []
start-plain m zero n e = let is : plain Zero ≡ n = cc in ap (λ (k : Node). k.drivers) (sym is)
start-plain m (suc zero) n e = let is : plain One ≡ n = cc in ap (λ (k : Node). k.drivers) (sym is)
start-plain m (suc (suc y)) n e = ap (λ (k : Node). k.drivers) (get_replicate (length (source_names m)) y (plain Source) n e).0

pub start-made : (m : Model) → IsMade (start m).made (start m)
start-made m = record {
  gates = [];
  made_is = sym (no_more (start m).made);
  are_gates = tt;
  below = λ y n e. subst (λ (ds : List ℕ). AllBelow y ds) (sym (start-plain m y n e)) tt;
  nodes = λ x. let lt : source_node 2 (source_names m) x < 2 + length (source_names m) = source_bound 2 (source_names m) x (omega arith) in let l : length (start m).made ≡ 2 + length (source_names m) = start-length m in omega arith;
  nots = λ x n e. absurd cc;
}
  where
    no_more : (xs : List Node) → xs ++ [] ≡ xs
    no_more [] = refl
    no_more (x ∷ xs) = ap (λ (ys : List Node). x ∷ ys) (no_more xs)

module _ (val a : ℕ → Bool) (v : Word → Bool) (m : Model) where
  pub zero_is : Meets val a v (start m).made → val 0 ≡ false
  zero_is h = h 0 (plain Zero) refl

  pub one_is : Meets val a v (start m).made → val 1 ≡ true
  one_is h = h 1 (plain One) refl

  pub sources_known : Meets val a v (start m).made → SameAssignment m a v → KnownAmong val a v (start m).node_of (source_names m)
  sources_known h same x e =
      let p = source_place 2 (source_names m) x e in
      let lt = within (source_names m) p.0 x p.1.1 in
      let there : slice_get (start m).made (2 + p.0) ≡ Some (plain Source) = at (length (source_names m)) p.0 lt in
      ap val p.1.0 ∙ (h (2 + p.0) (plain Source) there ∙ same p.0 x p.1.1)
    where
      within : (xs : List Word) (k : ℕ) (y : Word) → slice_get xs k ≡ Some y → k < length xs
      within [] k y e = absurd cc
      within (z ∷ xs) zero y e = omega arith
      within (z ∷ xs) (suc k) y e = let lt = within xs k y e in omega arith

      at : (n k : ℕ) → k < n → slice_get (plain Zero ∷ plain One ∷ replicate n (plain Source)) (2 + k) ≡ Some (plain Source)
      at n k lt = let e : 2 + k ≡ suc (suc k) = omega arith in rw e (replicate_there n k (plain Source) lt)

  pub no_nots : NotsKnown val a v (start m).not_of
  no_nots x n e = absurd cc

-- A net that has both nets has the sources of the first.
use Rattle.std.proofs.Common.{List, [], ap, arith, drop, length, map, refl, suc, sym, zero, ℕ, ◌++◌, ◌+◌, ◌∙◌, ◌∷◌, ◌≡◌, ◌≢◌}
use Rattle.std.specs.Prelude.{None, Option, Some, slice_get}
use Rattle.std.proofs.lemmas.List.Sums.{sum_by-append, sum_by-cons}
use Rattle.gate_net.specs.declared.Kind.{Kind}
use Rattle.gate_net.specs.declared.Kind.TheVariants.{Source}
use Rattle.gate_net.specs.Net.{Net, Node, count_in, flatten_option, source_count, source_in}
use Rattle.joined_nets.specs.Growing.{sources_in}
use Rattle.joined_nets.specs.Joined.{ShareSources, both, first_gate, node_moved}
use Rattle.joined_nets.proofs.Copied.{no_source}

-- how many sources a node is
abbrev counted : Option Node → ℕ
counted o = count_in o source_in

pub none_counted : (os : List (Option Node)) → ((k : ℕ) (o : Option Node) → slice_get os k ≡ Some o → count_in o source_in ≡ 0) → sources_in os ≡ 0
none_counted [] h = refl
none_counted (o ∷ os) h =
    let here : counted o ≡ 0 = h 0 o refl in
    let rest : sources_in os ≡ 0 = none_counted os (λ k p e. h (suc k) p e) in
    sum_by-cons (λ (o : Option Node). count_in o source_in) o os ∙ omega (arith, here, rest)

pub kind_uncounted : (kind : Kind) → kind ≢ Source → source_in kind ≡ 0
kind_uncounted Source ne = absurd (ne refl)
kind_uncounted kind ne = refl

moved_uncounted : (first count : ℕ) (o : Option Node) → ((n : Node) → o ≡ Some n → n.kind ≢ Source) → counted (node_moved first count o) ≡ 0
moved_uncounted first count None h = refl
moved_uncounted first count (Some n) h = kind_uncounted n.kind (h n refl)

pub from_drop : {A : Type 0} (xs : List A) (n k : ℕ) (x : A) → slice_get (drop n xs) k ≡ Some x → slice_get xs (n + k) ≡ Some x
from_drop xs zero k x e = let same : 0 + k ≡ k = omega arith in rw same e
from_drop [] (suc n) k x e = absurd cc
from_drop (y ∷ xs) (suc n) k x e = let same : suc n + k ≡ suc (n + k) = omega arith in rw same (from_drop xs n k x e)

mapped_from : {A B : Type 0} (f : A → B) (xs : List A) (k : ℕ) (y : B) → slice_get (map f xs) k ≡ Some y → (x : A) × ((slice_get xs k ≡ Some x) × (f x ≡ y))
mapped_from f [] k y e = absurd cc
mapped_from f (x ∷ xs) zero y e = (x, (refl, cc))
mapped_from f (x ∷ xs) (suc k) y e = mapped_from f xs k y e

pub joined_sources : (one two net : Net) (tail : List (Option Node)) → ShareSources one two → net.nodes ≡ both one two ++ tail → sources_in tail ≡ 0 → source_count net ≡ source_count one
joined_sources one two net tail share are gates =
    let f : Option Node → ℕ = λ (o : Option Node). count_in o source_in in
    let theirs : List (Option Node) = map (node_moved (first_gate one) (length one.nodes)) (drop (first_gate one) two.nodes) in
    let whole : source_count net ≡ sources_in (both one two ++ tail) = ap (λ (l : List (Option Node)). sources_in l) are in
    let split : sources_in (both one two ++ tail) ≡ sources_in (both one two) + sources_in tail = sum_by-append f (both one two) tail in
    let inner : sources_in (both one two) ≡ sources_in one.nodes + sources_in theirs = sum_by-append f one.nodes theirs in
    let none : sources_in theirs ≡ 0 = none_counted theirs theirs_uncounted in
    omega (arith, whole, split, inner, none, gates)
  where
    theirs_uncounted : (k : ℕ) (o : Option Node) → slice_get (map (node_moved (first_gate one) (length one.nodes)) (drop (first_gate one) two.nodes)) k ≡ Some o → counted o ≡ 0
    theirs_uncounted k o e =
        let p = mapped_from (node_moved (first_gate one) (length one.nodes)) (drop (first_gate one) two.nodes) k o e in
        let there : slice_get two.nodes (first_gate one + k) ≡ Some p.0 = from_drop two.nodes (first_gate one) k p.0 p.1.0 in
        ap (λ (o : Option Node). counted o) (sym p.1.1)
        ∙ moved_uncounted (first_gate one) (length one.nodes) p.0 (λ n is. no_source one two share (first_gate one + k) (omega arith) n (ap (λ (o : Option (Option Node)). flatten_option o) there ∙ is))

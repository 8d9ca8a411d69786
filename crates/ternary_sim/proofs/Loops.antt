-- Loops over lists of nodes.
use Rattle.std.proofs.Common.{Bool, List, Option, Some, [], ap, append-nil, false, get_or, length, length-set, map, refl, subst, suc, sym, true, zero, ℕ, ◌&&◌, ◌++◌, ◌-◌, ◌<◌, ◌∙◌, ◌∷◌, ◌≡◌}
use Rattle.std.proofs.lemmas.List.{length-map}
use Rattle.std.specs.List.{list_all}
use Rattle.std.specs.Prelude.{slice_get, slice_set}
use Rattle.gate_net.specs.Forward.{IsForwardReading, kind_forward, known_forward, node_forward}
use Rattle.gate_net.specs.Net.{IsKind, Net, drivers_of, node_at}
use Rattle.gate_net.specs.Values.{HasPin, family}
use Rattle.gate_net.specs.declared.Family.{Family}
use Rattle.gate_net.specs.declared.Family.TheVariants.{Constant, Input, Junction, Parity}
use Rattle.gate_net.specs.declared.Kind.{Kind}
use Rattle.gate_net.specs.declared.Kind.TheVariants.{Source}
use Rattle.local_evaluation.proofs.Public.{source_is}
use Rattle.local_evaluation.specs.Pins.{AreBelow}
use Rattle.rm_base.specs.declared.numbers.Fault.{Fault}
use Rattle.rm_base.specs.declared.numbers.NodeId.{NodeId}
use Rattle.rm_base.specs.declared.vectors.Value3.{Value3}
use Rattle.rm_base.specs.declared.vectors.Value3.TheVariants.{Unknown}
use Rattle.ternary_sim.proofs.InOrder.{IsWalk, all_read, mark_other}
use Rattle.ternary_sim.specs.Marks.{known_source, marking, seen}
use Rattle.ternary_sim.specs.Inner.Sims.{AreRead, IsMarked}
use Rattle.ternary_sim.specs.declared.marks.NodeMarks.{NodeMarks}
use Rattle.rm_base.proofs.Public.{map_found}

pub list_all_fails : (test : ℕ → Bool) (ds : List ℕ) (k x : ℕ) → slice_get ds k ≡ Some x → test x ≡ false → false ≡ list_all test ds
list_all_fails test [] k x e f = cc
list_all_fails test (d ∷ ds) zero x e f = let same : d ≡ x = cc in rw (same, f) refl
list_all_fails test (d ∷ ds) (suc k) x e f = rw (← list_all_fails test ds k x e f) (sym (and_none (test d)))
  where
    and_none : (b : Bool) → (b && false) ≡ false
    and_none true = refl
    and_none false = refl

pub list_all_holds : (test : ℕ → Bool) (ds : List NodeId) → ((k : ℕ) (d : NodeId) → slice_get ds k ≡ Some d → test d.0 ≡ true) → list_all test (map (λ d. d.0) ds) ≡ true
list_all_holds test [] h = refl
list_all_holds test (d ∷ ds) h = rw (h 0 d refl, list_all_holds test ds (λ k x e. h (suc k) x e)) refl

pub source_known : (x : ℕ) (sources : List Value3) (v : Value3) → v ≡ get_or sources (x - 2) Unknown → seen v ≡ known_source sources x
source_known x sources v e = ap seen e

-- what is known of a node itself counts at a source alone
pub own_counts : (kind : Kind) (own known : Option Bool) (os : List (Option Bool)) → (kind ≡ Source → own ≡ known) → kind_forward kind own os ≡ kind_forward kind known os
own_counts kind own known os h = at (family kind) (λ means. h (source_is kind (sym means)))
  where
    at : (f : Family) → (f ≡ Input → own ≡ known) → known_forward f own os ≡ known_forward f known os
    at Input h = h refl
    at (Constant b) h = refl
    at (Junction c) h = refl
    at (Parity i) h = refl

pub own_forward : (net : Net) (x : ℕ) (kind : Kind) (own known : Option Bool) (os : List (Option Bool)) → IsKind net x kind → (kind ≡ Source → own ≡ known) → kind_forward kind own os ≡ node_forward (node_at net x) known os
own_forward net x kind own known os is h = rw is.1 (own_counts kind own known os h)

pub drivers_marked : (net : Net) (order : List ℕ) (marks : List NodeMarks) → IsWalk net order → IsMarked order marks → (i x : ℕ) → slice_get order i ≡ Some x → AreBelow (drivers_of net x) (length marks)
drivers_marked net order marks fits marked i x there p d reads =
    let at : (j : ℕ) × ((j < i) × (slice_get order j ≡ Some d)) = fits.before i x p d there reads in
    marked.within at.0 d at.1.1

pub marked_more : (order : List ℕ) (marks : List NodeMarks) (i x : ℕ) (r : NodeMarks) → slice_get order i ≡ Some x → IsMarked order marks → IsMarked order (slice_set marks x r)
marked_more order marks i x r there marked = record {
  within = λ k y e. rw (length-set marks x r) (marked.within k y e);
  others = λ y none. mark_other marks x y r (λ same. none i (there ∙ ap Some (sym same))) ∙ marked.others y none;
}

-- the whole list has been yielded
pub whole : (all : List ℕ) (before : List NodeId) (rest : List ℕ) → all ≡ map (λ d. d.0) before ++ rest → rest ≡ [] → all ≡ map (λ d. d.0) before
whole all before rest e none = e ∙ ap (λ (xs : List ℕ). map (λ (d : NodeId). d.0) before ++ xs) none ∙ append-nil (map (λ (d : NodeId). d.0) before)

pub each_yielded : (P : ℕ → Type 0) (all : List ℕ) (before : List NodeId) → all ≡ map (λ d. d.0) before → ((k : ℕ) (d : NodeId) → slice_get before k ≡ Some d → P d.0) → (x : ℕ) → (k : ℕ) × (slice_get all k ≡ Some x) → P x
each_yielded P all before e h x (k, there) =
    let found : (d : NodeId) × ((slice_get before k ≡ Some d) × (d.0 ≡ x)) = map_found (λ (d : NodeId). d.0) before k x (rw e at there) in
    subst P found.1.1 (h k found.0 found.1.0)

-- what has been read in the whole order is the forward reading
pub finished : (net : Net) (fault : Fault) (order order' : List NodeId) (sources sources' : List Value3) (marks : List NodeMarks) → order' ≡ order → sources' ≡ sources → HasPin net fault
    → IsWalk net (map (λ n. n.0) order) → AreRead net fault (known_source sources') (map (λ n. n.0) order') marks (length order') → IsMarked (map (λ n. n.0) order') marks
    → IsForwardReading net fault (known_source sources) (marking marks)
finished net fault order order' sources sources' marks e g stuck fits read marked =
    all_read net fault (known_source sources) (map (λ n. n.0) order) fits marks (rw e at marked) stuck
    (rw (length-map order (λ (n : NodeId). n.0)) (rw (e, g) at read))

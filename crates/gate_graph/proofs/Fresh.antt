-- A new graph, and a pool that has grown.
use Rattle.std.proofs.Common.{◌≡◌, ◌≢◌, ℕ, zero, suc, ◌+◌, ◌<◌, ◌≤◌, List, [], ◌∷◌, ◌++◌, length, set, replicate, Option, Some, None, refl, sym, ap, ◌∙◌, arith, subst, length-append, Bool}
use Rattle.std.proofs.lemmas.List.{length-replicate}
use Rattle.gate_net.specs.declared.Kind.{Kind}
use Rattle.gate_net.specs.declared.Kind.TheVariants.{Source, Zero, One}
use Rattle.pin_pool.specs.Pins.{Pins}
use Rattle.pin_pool.specs.Rings.{Rings, rings_of, no_rings}
use Rattle.gate_net.specs.Meaning.{inversion}
use Rattle.gate_graph.proofs.LeadOns.{one-parity}
use Rattle.gate_graph.specs.Wirings.{Wiring, kind_at, wiring_of, AreFirst, IsShaped, IsWired}
use Rattle.gate_graph.specs.Circuit.{Circuit, wiring, net_of}
use Rattle.gate_graph.specs.Inner.Circuit.{IsGraph, kinds_live, kinds_dead}
use Rattle.gate_graph.specs.declared.undo_list.Undo.{Undo}
use Rattle.gate_graph.specs.Undoing.{LeadOn}
use Rattle.gate_graph.specs.Readers.{SameReaders}
use Rattle.gate_graph.proofs.SameWired.{same-wiring, lead-same}

abbrev pub first_kinds : ℕ → List (Option Kind)
first_kinds n = Some Zero ∷ Some One ∷ replicate n (Some Source)

pub kinds-new : (xs : List (Option Kind)) (n s : ℕ) → xs ≡ replicate n (Some Source) → n ≡ s + 2 → set (set xs 0 (Some Zero)) 1 (Some One) ≡ first_kinds s
kinds-new xs zero s e f = absurd (omega arith)
kinds-new xs (suc zero) s e f = absurd (omega arith)
kinds-new xs (suc (suc n)) s e f = let g : n ≡ s = omega arith in rw (e, g) refl

sources-alone : (n m : ℕ) (k : Kind) (i : Bool) → kind_at (replicate n (Some Source)) m ≡ Some k → inversion k ≡ Some i → ⊥
sources-alone zero m k i e some = cc
sources-alone (suc n) zero k i e some = one-parity (Some Source) Source k i refl refl e some
sources-alone (suc n) (suc m) k i e some = sources-alone n m k i e some

no-parities : (n y : ℕ) (k : Kind) (i : Bool) → kind_at (first_kinds n) y ≡ Some k → inversion k ≡ Some i → ⊥
no-parities n zero k i e some = one-parity (Some Zero) Zero k i refl refl e some
no-parities n (suc zero) k i e some = one-parity (Some One) One k i refl refl e some
no-parities n (suc (suc y)) k i e some = sources-alone n y k i e some

within-sources : (n m : ℕ) → kind_at (replicate n (Some Source)) m ≢ None → m < n
within-sources zero m live = absurd (live refl)
within-sources (suc n) zero live = omega arith
within-sources (suc n) (suc m) live = let less : m < n = within-sources n m live in omega arith

source-at : (n m : ℕ) → m < n → kind_at (replicate n (Some Source)) m ≡ Some Source
source-at zero m h = absurd (omega arith)
source-at (suc n) zero h = refl
source-at (suc n) (suc m) h = source-at n m (omega arith)

only-source : (s n : ℕ) → kind_at (first_kinds s) n ≡ Some Source → (2 ≤ n) × (n < 2 + s)
only-source s zero e = cc
only-source s (suc zero) e = cc
only-source s (suc (suc n)) e = let less : n < s = within-sources s n (λ none. (let both : Some Source ≡ None = sym e ∙ none in cc)) in (omega arith, omega arith)

only-zero : (s n : ℕ) → kind_at (first_kinds s) n ≡ Some Zero → n ≡ 0
only-zero s zero e = refl
only-zero s (suc zero) e = cc
only-zero s (suc (suc n)) e =
    let less : n < s = within-sources s n (λ none. (let both : Some Zero ≡ None = sym e ∙ none in cc)) in
    let both : Some Source ≡ Some Zero = sym (source-at s n less) ∙ e in cc

only-one : (s n : ℕ) → kind_at (first_kinds s) n ≡ Some One → n ≡ 1
only-one s zero e = cc
only-one s (suc zero) e = refl
only-one s (suc (suc n)) e =
    let less : n < s = within-sources s n (λ none. (let both : Some One ≡ None = sym e ∙ none in cc)) in
    let both : Some Source ≡ Some One = sym (source-at s n less) ∙ e in cc

first-new : (s : ℕ) → AreFirst (λ n. kind_at (first_kinds s) n) s
first-new s = record {
  source_is = λ k h. (let e : 2 + k ≡ suc (suc k) = omega arith in rw e (source-at s k h));
  only_source = only-source s;
  only_zero = only-zero s;
  only_one = only-one s;
}

pub wired-new : (kinds : List (Option Kind)) (v : Pins) (s : ℕ) → kinds ≡ first_kinds s → rings_of v ≡ no_rings → IsWired (wiring_of kinds v)
wired-new kinds v s e f =
    let start : Wiring = record { kind = λ n. kind_at (first_kinds s) n; rings = no_rings } in
    let is : wiring_of kinds v ≡ start = ap (λ (ks : List (Option Kind)). wiring_of ks v) e ∙ ap (λ (r : Rings). let w : Wiring = record { kind = λ (n : ℕ). kind_at (first_kinds s) n; rings = r } in w) f in
    let shaped : IsShaped start = record {
      zero_is = refl;
      one_is = refl;
      one_reads = refl;
      gates_live = λ g p h. cc;
      drivers_live = λ n p h. cc;
      driven = λ g p h. absurd cc;
      read = λ n p h. absurd cc;
      parities = λ y k i e some. absurd (no-parities s y k i e some);
      sources = s;
      first = first-new s;
      sources_read = λ n h. refl;
    } in
    let wired : IsWired start = record {
      shape = shaped;
      rank = λ n. 0;
      ranked = λ g n p ne h k. absurd cc;
    } in
    rw is wired

pub graph-new : (kinds : List (Option Kind)) (v : Pins) (s : ℕ) → kinds ≡ first_kinds s → rings_of v ≡ no_rings → s + 2 ≤ length v.inputs → s ≤ 4294967293 → let g : Circuit = record { kinds = kinds; pool = v; epoch = 0 } in IsGraph g
graph-new kinds v s e f h small = record {
  wired = wired-new kinds v s e f;
  room = omega (arith, ap length e, length-replicate s (Some Source));
  few = omega (arith, ap length e, length-replicate s (Some Source));
}

none-past : (n m : ℕ) → kind_at (replicate n None) m ≡ None
none-past zero m = refl
none-past (suc n) zero = refl
none-past (suc n) (suc m) = none-past n m

kind-more : (ks : List (Option Kind)) (n m : ℕ) → kind_at (ks ++ replicate n None) m ≡ kind_at ks m
kind-more [] n m = none-past n m
kind-more (k ∷ ks) n zero = refl
kind-more (k ∷ ks) n (suc m) = kind-more ks n m

-- more room leaves the wiring
pub wiring-grown : (v w : Circuit) (n : ℕ) → w.kinds ≡ v.kinds ++ replicate n None → rings_of w.pool ≡ rings_of v.pool → wiring w ≡ wiring v
wiring-grown v w n e r =
    let kinds : (m : ℕ) → kind_at w.kinds m ≡ kind_at v.kinds m = λ m. rw e (kind-more v.kinds n m) in
    λ i. record { kind = λ m. kinds m i; rings = r i }

-- what growing comes to
pub record Grows (v w : Circuit) (least bound : ℕ) : Type 0 where
  pub graph : IsGraph w
  pub live : kinds_live w.kinds least
  pub dead : kinds_dead w.kinds bound
  pub wiring_is : wiring w ≡ wiring v
  pub net : net_of w ≡ net_of v
  pub readers : SameReaders v w
  pub undos : (es : List Undo) → LeadOn v w es es

pub grows : (v w : Circuit) (n least bound : ℕ) → IsGraph v → kinds_live v.kinds least → kinds_dead v.kinds bound → w.kinds ≡ v.kinds ++ replicate n None → rings_of w.pool ≡ rings_of v.pool → length w.kinds ≤ length w.pool.inputs → length w.kinds ≤ 4294967295 → Grows v w least bound
grows v w n least bound g live dead e r room few =
    let same = wiring-grown v w n e r in
    record {
      graph = record { wired = subst (λ (x : Wiring). IsWired x) (sym same) g.wired; room = room; few = few };
      live = λ m h none. live m h (ap (λ (x : Wiring). x.kind m) (sym same) ∙ none);
      dead = λ m h. ap (λ (x : Wiring). x.kind m) same ∙ dead m h;
      wiring_is = same;
      net = (same-wiring w v same).0;
      readers = (same-wiring w v same).1;
      undos = λ es. lead-same v w es same (omega (arith, ap length e ∙ length-append v.kinds (replicate n None)));
    }

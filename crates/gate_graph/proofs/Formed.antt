-- Each graph's net is well formed.
use Rattle.std.proofs.Common.{◌≡◌, ◌≢◌, ℕ, zero, suc, ◌+◌, ◌<◌, ◌≤◌, arith, List, [], ◌∷◌, length, map, Option, Some, None, inl, inr, refl, sym, ap, ◌∙◌, Bool, true, false}
use Rattle.std.specs.Prelude.{slice_get, sum_by}
use Rattle.std.proofs.lemmas.List.Sums.{sum_by-cons}
use Rattle.std.specs.Option.{option_map}
use Rattle.std.proofs.lemmas.Bool.{cases_lt}
use Rattle.std.proofs.lemmas.List.{get_or_past, length-map}
use Rattle.std.proofs.lemmas.Option.{slice_get-map}
use Rattle.gate_net.specs.declared.Kind.{Kind}
use Rattle.gate_net.specs.declared.Kind.TheVariants.{Source, Zero, One, And, Or, Not, Xor}
use Rattle.gate_net.specs.Meaning.{inversion}
use Rattle.gate_net.specs.Edits.{IsLeastFree}
use Rattle.gate_net.specs.Net.{Net, Node, flatten_option, node_at, kind_in, kind_of, IsKind, count_in, source_in, source_count, IsWellFormed, drivers_of}
use Rattle.pin_pool.specs.Pins.{list_of}
use Rattle.pin_pool.specs.Rings.{AreRings, rings_of}
use Rattle.gate_graph.specs.Wirings.{IsShaped, IsWired, kind_at, parity_pins}
use Rattle.gate_graph.specs.Circuit.{Circuit, wiring, net_of, node_with, gate_pins, home}
use Rattle.gate_graph.specs.Inner.Circuit.{kinds_live}
use Rattle.gate_graph.proofs.NetOf.{node_at-net, node-there, observed-net, nodes-trimmed, home-here, drivers-there}
use Rattle.gate_graph.proofs.LeadOns.{kind-of, one-parity}
use Rattle.gate_graph.proofs.Ranked.{acyclic-net, read-by, mapped}
use Rattle.pin_pool.proofs.Public.{has-there}

none-with : (o : Option Kind) (ds : List ℕ) → node_with o ds ≡ None → o ≡ None
none-with None ds e = refl
none-with (Some k) ds e = cc

pub live-node : (v : Circuit) (n : ℕ) → kind_at v.kinds n ≢ None → node_at (net_of v) n ≢ None
live-node v n live none = live (none-with (kind_at v.kinds n) _ (sym (node_at-net v n) ∙ none))

pub dead-node : (v : Circuit) (n : ℕ) → kind_at v.kinds n ≡ None → node_at (net_of v) n ≡ None
dead-node v n e = node_at-net v n ∙ ap (λ (o : Option Kind). node_with o (map (home v.pool.fanouts) (gate_pins v.pool n))) e

kind-with : (o : Option Kind) (ds : List ℕ) → kind_in (node_with o ds) ≡ o
kind-with None ds = refl
kind-with (Some k) ds = refl

-- the kinds of the net are those kept
pub kind_of-net : (v : Circuit) (n : ℕ) → kind_of (net_of v) n ≡ kind_at v.kinds n
kind_of-net v n = ap kind_in (node_at-net v n) ∙ kind-with (kind_at v.kinds n) _

-- a number of no live node, below which all have one
pub least-net : (v : Circuit) (n : ℕ) → kinds_live v.kinds n → (n < length v.kinds → kind_at v.kinds n ≡ None) → IsLeastFree (net_of v) n
least-net v n live free = record {
  free = dead-node v n (elim (cases_lt n (length v.kinds)) [ inl lt ↦ free lt | inr le ↦ get_or_past v.kinds n None le ]);
  least = λ m lt. live-node v m (live m lt);
}

kind-known : (net : Net) (n : ℕ) (k : Kind) → IsKind net n k → kind_of net n ≡ Some k
kind-known net n k is = ap kind_in is.1

abbrev is_source : Option Node → ℕ
is_source o = count_in o source_in

is-source : (o : Option Node) → kind_in o ≡ Some Source → is_source o ≡ 1
is-source None e = cc
is-source (Some n) e = let same : n.kind ≡ Source = cc in rw same refl

no-source : (o : Option Node) → kind_in o ≢ Some Source → is_source o ≡ 0
no-source None ne = refl
no-source (Some n) ne = by n.kind (λ is. ne (ap (λ (k : Kind). Some k) is))
  where
    by : (k : Kind) → k ≢ Source → source_in k ≡ 0
    by Source ne = absurd (ne refl)
    by Zero ne = refl
    by One ne = refl
    by And ne = refl
    by Or ne = refl
    by Not ne = refl
    by Xor ne = refl

-- a list that begins with so many sources, and has no others
count-first : (xs : List (Option Node)) (s : ℕ) → ((k : ℕ) → k < s → kind_in (flatten_option (slice_get xs k)) ≡ Some Source) → ((k : ℕ) → kind_in (flatten_option (slice_get xs k)) ≡ Some Source → k < s) → sum_by is_source xs ≡ s
count-first [] zero all only = refl
count-first [] (suc s) all only = let wrong : None ≡ Some Source = all 0 (omega arith) in cc
count-first (x ∷ xs) zero all only =
    let here : is_source x ≡ 0 = no-source x (λ is. absurd (omega (arith, only 0 is))) in
    let rest : sum_by is_source xs ≡ 0 = count-first xs 0 (λ k h. absurd (omega arith)) (λ k e. absurd (omega (arith, only (suc k) e))) in
    sum_by-cons is_source x xs ∙ omega (arith, here, rest)
count-first (x ∷ xs) (suc s) all only =
    let here : is_source x ≡ 1 = is-source x (all 0 (omega arith)) in
    let rest : sum_by is_source xs ≡ s = count-first xs s (λ k h. all (suc k) (omega arith)) (λ k e. (let h : suc k < suc s = only (suc k) e in omega arith)) in
    sum_by-cons is_source x xs ∙ omega (arith, here, rest)

count-second : (xs : List (Option Node)) (s : ℕ) → (kind_in (flatten_option (slice_get xs 0)) ≢ Some Source) → (kind_in (flatten_option (slice_get xs 1)) ≢ Some Source) → ((k : ℕ) → k < s → kind_in (flatten_option (slice_get xs (suc (suc k)))) ≡ Some Source) → ((k : ℕ) → kind_in (flatten_option (slice_get xs (suc (suc k)))) ≡ Some Source → k < s) → sum_by is_source xs ≡ s
count-second [] s a b all only = count-first [] s all only
count-second (x ∷ []) s a b all only =
    let here : is_source x ≡ 0 = no-source x a in
    sum_by-cons is_source x [] ∙ omega (arith, here, count-first [] s all only)
count-second (x ∷ y ∷ xs) s a b all only =
    let here : is_source x ≡ 0 = no-source x a in
    let next : is_source y ≡ 0 = no-source y b in
    sum_by-cons is_source x (y ∷ xs) ∙ omega (arith, here, sum_by-cons is_source y xs, next, count-first xs s all only)

-- the count of sources is that kept
pub sources-net : (v : Circuit) (s : IsShaped (wiring v)) → source_count (net_of v) ≡ s.sources
sources-net v s =
    let kind : (n : ℕ) → kind_in (flatten_option (slice_get (net_of v).nodes n)) ≡ kind_at v.kinds n = kind_of-net v in
    count-second (net_of v).nodes s.sources
    (λ e. (let both : Some Zero ≡ Some Source = sym s.zero_is ∙ sym (kind 0) ∙ e in cc))
    (λ e. (let both : Some One ≡ Some Source = sym s.one_is ∙ sym (kind 1) ∙ e in cc))
    (λ k h. kind (suc (suc k)) ∙ (let e : suc (suc k) ≡ 2 + k = omega arith in ap (kind_at v.kinds) e ∙ s.first.source_is k h))
    (λ k e. (let found : (2 ≤ suc (suc k)) × (suc (suc k) < 2 + s.sources) = s.first.only_source (suc (suc k)) (sym (kind (suc (suc k))) ∙ e) in let h = found.1 in omega (arith, h)))

one-of : (xs : List ℕ) → length xs ≡ 1 → (d : ℕ) × (xs ≡ d ∷ [])
one-of [] e = absurd (omega arith)
one-of (x ∷ []) e = (x, refl)
one-of (x ∷ y ∷ ys) e = absurd (omega arith)

two-of : (xs : List ℕ) → length xs ≡ 2 → (d e : ℕ) × (xs ≡ d ∷ e ∷ [])
two-of [] e = absurd (omega arith)
two-of (x ∷ []) e = absurd (omega arith)
two-of (x ∷ y ∷ []) e = (x, y, refl)
two-of (x ∷ y ∷ z ∷ zs) e = absurd (omega arith)

parity-drivers : (v : Circuit) → IsShaped (wiring v) → (y : ℕ) (kind : Kind) (i : Bool) → IsKind (net_of v) y kind → inversion kind ≡ Some i → length (drivers_of (net_of v) y) ≡ parity_pins i
parity-drivers v s y kind i is some =
    let live : kind_at v.kinds y ≡ Some kind = kind-of v y _ is.1 in
    let ne : y ≢ 0 = λ zero. one-parity (kind_at v.kinds 0) Zero kind i s.zero_is refl (ap (λ (n : ℕ). kind_at v.kinds n) (sym zero) ∙ live) some in
    ap length (drivers-there v y kind ne live) ∙ length-map (list_of v.pool.inputs y) (home v.pool.fanouts) ∙ s.parities y kind i live some

pub well-formed : (v : Circuit) → AreRings (rings_of v.pool) → IsWired (wiring v) → IsWellFormed (net_of v)
well-formed v r w =
    let s = w.shape in record {
      acyclic = acyclic-net v r w;
      constants = record {
        zero_is = node_at-net v 0 ∙ ap (λ (o : Option Kind). node_with o []) s.zero_is;
        one_is = node_at-net v 1 ∙ ap (λ (o : Option Kind). node_with o (map (home v.pool.fanouts) (list_of v.pool.inputs 1))) s.one_is ∙ ap (λ (l : List ℕ). node_with (Some One) (map (home v.pool.fanouts) l)) s.one_reads;
      };
      drivers_live = λ y k x reads. (let by = read-by v r s y k x reads in live-node v x (s.drivers_live x by.0 by.1.1));
      observed_live = λ x at. (
          let there : option_map (home v.pool.fanouts) (slice_get (list_of v.pool.inputs 0) at.0) ≡ Some x = sym (slice_get-map (home v.pool.fanouts) (list_of v.pool.inputs 0) at.0) ∙ ap (λ (l : List ℕ). slice_get l at.0) (sym (observed-net v)) ∙ at.1 in
          let pin = mapped (home v.pool.fanouts) (slice_get (list_of v.pool.inputs 0) at.0) x there in
          let by = s.driven 0 pin.0 (has-there (list_of v.pool.inputs 0) at.0 pin.0 (sym pin.1.0)) in
          let is : by.0 ≡ x = sym (home-here v.pool.fanouts _ pin.0 by.0 r.fanouts by.1) ∙ pin.1.1 in
          live-node v x (λ none. s.drivers_live by.0 pin.0 by.1 (ap (λ (n : ℕ). kind_at v.kinds n) is ∙ none)));
      nots_have_one = λ y is. one-of (drivers_of (net_of v) y) (parity-drivers v s y Not true is refl);
      xors_have_two = λ y is. two-of (drivers_of (net_of v) y) (parity-drivers v s y Xor false is refl);
      only_zero = λ x is. s.first.only_zero x (kind-of v x _ is.1);
      only_one = λ x is. s.first.only_one x (kind-of v x _ is.1);
      sources = record {
        first = λ k h.
            let kind : kind_at v.kinds (2 + k) ≡ Some Source = s.first.source_is k (omega (arith, h, sources-net v s)) in
            let ne : 2 + k ≢ 0 = omega arith in
            node-there v (2 + k) Source ne kind ∙ ap (λ (l : List ℕ). node_with (Some Source) (map (home v.pool.fanouts) l)) (s.sources_read (2 + k) kind);
        only = λ x is. (let found = s.first.only_source x (kind-of v x _ is.1) in (found.0, (let h = found.1 in omega (arith, h, sources-net v s))));
      };
      canonical = nodes-trimmed v;
    }

-- The readers of a pool after one pin more or less.
use Rattle.std.proofs.Common.{◌≡◌, ◌≢◌, ℕ, Bool, true, false, List, [], ◌∷◌, ◌++◌, length, map, refl, sym, ap, ◌∙◌, inl, inr, append-nil}
use Rattle.std.proofs.lemmas.Bool.{cases_eq}
use Rattle.std.proofs.lemmas.List.{map-append}
use Rattle.pin_pool.proofs.Public.{changed-other, changed-same}
use Rattle.pin_pool.specs.Ring.{has, without}
use Rattle.pin_pool.specs.Pins.{Pins, list_of}
use Rattle.pin_pool.specs.Rings.{Rings, AreRings, rings_of, linked, unlinked, changed, all_without}
use Rattle.gate_graph.specs.Circuit.{fans_in, reader, place_in, without_observed}
use Rattle.gate_graph.specs.Spots.{places_from, without_gate}
use Rattle.gate_graph.proofs.NetOf.{home-here}
use Rattle.gate_graph.proofs.Appended.{pushed, pushed-has, pushed-keeps, fresh-out}
use Rattle.gate_graph.proofs.Removed.{keeps, elsewhere}
use Rattle.gate_graph.proofs.PlaceLists.{readers-same, observed-append, observed-push, observed-self, place-push, place-last, places-one, places-none, AreAlike, strip-one, strip-none}

abbrev spot : ℕ → ℕ → ℕ × ℕ
spot g k = (g, k)

-- a reader is told by its gate
pub reader-of : (v : Pins) (q g : ℕ) → AreRings (rings_of v) → has q (list_of v.inputs g) ≡ true → reader v q ≡ spot g (place_in (list_of v.inputs g) q)
reader-of v q g r h = ap (λ (b : ℕ). spot b (place_in (list_of v.inputs b) q)) (home-here v.inputs _ q g r.inputs h)

module _ (w u : Pins) (p g d : ℕ) (e : rings_of u ≡ linked p g d (rings_of w)) (rw' : AreRings (rings_of w)) (ru : AreRings (rings_of u)) (free : (let t : ℕ → Bool = (rings_of w).taken in t p ≡ false)) where
  abbrev ins : ℕ → List ℕ
  ins n = list_of w.inputs n

  abbrev outs : ℕ → List ℕ
  outs n = list_of w.fanouts n

  input-now : (n : ℕ) → list_of u.inputs n ≡ pushed ins g p n
  input-now n = ap (λ (r : Rings). r.inputs n) e

  fanout-now : (n : ℕ) → list_of u.fanouts n ≡ pushed outs d p n
  fanout-now n = ap (λ (r : Rings). r.fanouts n) e

  reader-old : (n q : ℕ) → has q (outs n) ≡ true → reader u q ≡ reader w q
  reader-old n q h =
      let by = rw'.read q (n, h) in
      let place : place_in (list_of u.inputs by.0) q ≡ place_in (ins by.0) q = ap (λ (l : List ℕ). place_in l q) (input-now by.0) ∙ elim (cases_eq by.0 g) [
        | inl is ↦ rw is (ap (λ (l : List ℕ). place_in l q) (changed-same ins g (ins g ++ p ∷ [])) ∙ place-push (ins g) p q (ap (λ (m : ℕ). has q (ins m)) (sym is) ∙ by.1))
        | inr other ↦ ap (λ (l : List ℕ). place_in l q) (changed-other ins g (ins g ++ p ∷ []) by.0 other)
      ] in
      reader-of u q by.0 ru (ap (has q) (input-now by.0) ∙ pushed-keeps ins g p by.0 q by.1) ∙ ap (spot by.0) place ∙ sym (reader-of w q by.0 rw' by.1)

  reader-new : reader u p ≡ spot g (length (ins g))
  reader-new =
      reader-of u p g ru (ap (has p) (input-now g) ∙ pushed-has ins g p)
      ∙ ap (spot g) (ap (λ (l : List ℕ). place_in l p) (input-now g ∙ changed-same ins g (ins g ++ p ∷ [])) ∙ place-last (ins g) p (fresh-out ins _ p rw'.inputs free g))

  old-readers : (obs : List ℕ) (n : ℕ) → map (reader u) (without_observed obs (outs n)) ≡ map (reader w) (without_observed obs (outs n))
  old-readers obs n = readers-same (reader u) (reader w) obs (outs n) (λ q h k. reader-old n q h)

  module _ (ne : g ≢ 0) where
    observed-now : list_of u.inputs 0 ≡ ins 0
    observed-now = input-now 0 ∙ changed-other ins g (ins g ++ p ∷ []) 0 (λ is. ne (sym is))

    pub fans-there : fans_in u d ≡ fans_in w d ++ spot g (length (ins g)) ∷ []
    fans-there =
        let obs = list_of w.inputs 0 in
        let out : without_observed obs (p ∷ []) ≡ p ∷ [] = rw (fresh-out ins _ p rw'.inputs free 0) refl in
        ap (λ (l : List ℕ). map (reader u) (without_observed l (list_of u.fanouts d))) observed-now
        ∙ ap (λ (l : List ℕ). map (reader u) (without_observed obs l)) (fanout-now d ∙ changed-same outs d (outs d ++ p ∷ []))
        ∙ ap (map (reader u)) (observed-append obs (outs d) (p ∷ []) ∙ ap (λ (l : List ℕ). without_observed obs (outs d) ++ l) out)
        ∙ map-append (reader u) (without_observed obs (outs d)) (p ∷ [])
        ∙ ap (λ (l : List (ℕ × ℕ)). l ++ reader u p ∷ []) (old-readers obs d)
        ∙ ap (λ (x : ℕ × ℕ). fans_in w d ++ x ∷ []) reader-new

    pub fans-others : (n : ℕ) → n ≢ d → fans_in u n ≡ fans_in w n
    fans-others n other =
        ap (λ (l : List ℕ). map (reader u) (without_observed l (list_of u.fanouts n))) observed-now
        ∙ ap (λ (l : List ℕ). map (reader u) (without_observed (ins 0) l)) (fanout-now n ∙ changed-other outs d (outs d ++ p ∷ []) n other)
        ∙ old-readers (ins 0) n

    -- the pin is the gate's next
    pub fans-next : (n : ℕ) → fans_in u n ≡ fans_in w n ++ places_from g (length (ins g)) (d ∷ []) n
    fans-next n = elim (cases_eq d n) [
      | inl is ↦ rw (← is) (fans-there ∙ ap (λ (l : List (ℕ × ℕ)). fans_in w d ++ l) (sym (places-one g (length (ins g)) d d refl)))
      | inr other ↦ fans-others n (λ is. other (sym is)) ∙ sym (append-nil (fans_in w n)) ∙ ap (λ (l : List (ℕ × ℕ)). fans_in w n ++ l) (sym (places-none g (length (ins g)) d n other))
    ]

  -- an observed place is no reader
  pub fans-observed : g ≡ 0 → (n : ℕ) → fans_in u n ≡ fans_in w n
  fans-observed is n =
      let obs : list_of u.inputs 0 ≡ ins 0 ++ p ∷ [] = input-now 0 ∙ ap (λ (k : ℕ). changed ins k (ins k ++ p ∷ []) 0) is ∙ changed-same ins 0 (ins 0 ++ p ∷ []) in
      let fresh = fresh-out outs _ p rw'.fanouts free in
      let seen : without_observed (ins 0 ++ p ∷ []) (pushed outs d p n) ≡ without_observed (ins 0) (outs n) = elim (cases_eq n d) [
        | inr other ↦ ap (without_observed (ins 0 ++ p ∷ [])) (changed-other outs d (outs d ++ p ∷ []) n other) ∙ observed-push (ins 0) (outs n) p (fresh n)
        | inl here ↦
            ap (λ (m : ℕ). without_observed (ins 0 ++ p ∷ []) (pushed outs d p m)) here
            ∙ ap (without_observed (ins 0 ++ p ∷ [])) (changed-same outs d (outs d ++ p ∷ []))
            ∙ observed-append (ins 0 ++ p ∷ []) (outs d) (p ∷ [])
            ∙ ap (λ (l : List ℕ). without_observed (ins 0 ++ p ∷ []) (outs d) ++ l) (observed-self (ins 0) p)
            ∙ append-nil (without_observed (ins 0 ++ p ∷ []) (outs d))
            ∙ observed-push (ins 0) (outs d) p (fresh d)
            ∙ ap (λ (m : ℕ). without_observed (ins 0) (outs m)) (sym here)
      ] in
      ap (λ (l : List ℕ). map (reader u) (without_observed l (list_of u.fanouts n))) obs
      ∙ ap (λ (l : List ℕ). map (reader u) (without_observed (ins 0 ++ p ∷ []) l)) (fanout-now n)
      ∙ ap (map (reader u)) seen
      ∙ old-readers (ins 0) n

-- a pin of a gate goes
module _ (w u : Pins) (p g : ℕ) (e : rings_of u ≡ unlinked p (rings_of w)) (rw' : AreRings (rings_of w)) (ru : AreRings (rings_of u)) (ne : g ≢ 0) (at : has p (list_of w.inputs g) ≡ true) where
  abbrev old-in : ℕ → List ℕ
  old-in n = list_of w.inputs n

  less-in : (n : ℕ) → list_of u.inputs n ≡ all_without p old-in n
  less-in n = ap (λ (r : Rings). r.inputs n) e

  less-out : (n : ℕ) → list_of u.fanouts n ≡ without p (list_of w.fanouts n)
  less-out n = ap (λ (r : Rings). r.fanouts n) e

  alike : (n q : ℕ) → has q (list_of w.fanouts n) ≡ true → q ≢ p → AreAlike (reader w) (reader u) g q
  alike n q h other =
      let by = rw'.read q (n, h) in
      let was = reader-of w q by.0 rw' by.1 in
      let now = reader-of u q by.0 ru (ap (has q) (less-in by.0) ∙ keeps old-in _ rw'.inputs p by.0 q by.1 other) in
      elim (cases_eq by.0 g) [
        | inl is ↦ inl (ap (λ (x : ℕ × ℕ). x.0) was ∙ is, ap (λ (x : ℕ × ℕ). x.0) now ∙ is)
        | inr ne' ↦ inr (now ∙ ap (λ (l : List ℕ). spot by.0 (place_in l q)) (less-in by.0 ∙ elsewhere old-in _ rw'.inputs p g by.0 at ne') ∙ sym was)
      ]

  pub fans-stripped : (n : ℕ) → without_gate g (fans_in u n) ≡ without_gate g (fans_in w n)
  fans-stripped n =
      ap (λ (l : List ℕ). without_gate g (map (reader u) (without_observed l (list_of u.fanouts n)))) (less-in 0 ∙ elsewhere old-in _ rw'.inputs p g 0 at (λ s. ne (sym s)))
      ∙ ap (λ (l : List ℕ). without_gate g (map (reader u) (without_observed (old-in 0) l))) (less-out n)
      ∙ strip-one (reader w) (reader u) g p (old-in 0) (list_of w.fanouts n) (rw'.fanouts.apart n) (ap (λ (x : ℕ × ℕ). x.0) (reader-of w p g rw' at)) (alike n)

-- a gate without pins is no reader
pub fans-none : (w : Pins) (g : ℕ) → AreRings (rings_of w) → list_of w.inputs g ≡ [] → (n : ℕ) → without_gate g (fans_in w n) ≡ fans_in w n
fans-none w g r none n = strip-none (reader w) g (list_of w.inputs 0) (list_of w.fanouts n) (λ q h is. (
    let by = r.read q (n, h) in
    let gate : by.0 ≡ g = sym (ap (λ (x : ℕ × ℕ). x.0) (reader-of w q by.0 r by.1)) ∙ is in
    let wrong : has q [] ≡ true = ap (has q) (sym none) ∙ ap (λ (m : ℕ). has q (list_of w.inputs m)) (sym gate) ∙ by.1 in cc))

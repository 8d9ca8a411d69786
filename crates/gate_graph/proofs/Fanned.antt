-- The readers of nodes, in ring order.
use Rattle.std.proofs.Common.{◌≡◌, ◌≢◌, ℕ, zero, suc, Bool, true, false, List, [], ◌∷◌, ◌++◌, length, map, Option, Some, refl, sym, ap, ◌∙◌, arith, inl, inr}
use Rattle.std.specs.Prelude.{slice_get, eqb}
use Rattle.std.proofs.lemmas.Bool.{cases_eq, cases_Bool, cases_lt, lt-ltb, le-ltb, ne_eqb, eq-eqb, false≢true, false_from_ne_true, or_left, or_right, or_parts}
use Rattle.std.proofs.lemmas.List.{map-append, length-map}
use Rattle.gate_net.specs.Net.{drivers_of}
use Rattle.pin_pool.proofs.Public.{changed-other, changed-same, has-there}
use Rattle.pin_pool.specs.Ring.{has, without, IsApart}
use Rattle.pin_pool.specs.Pins.{list_of}
use Rattle.pin_pool.specs.Rings.{Rings, AreRings, rings_of, linked, moved, redriven, unlinked, all_without}
use Rattle.gate_graph.specs.Wirings.{IsShaped, IsWired}
use Rattle.gate_graph.specs.Circuit.{Circuit, wiring, net_of, fanouts_of, fans_in, gate_pins, home, reader, place_in, without_observed}
use Rattle.gate_graph.specs.Readers.{LastReader, ReadersMove, ReaderMoves, lowered, lowered_by, is_place, without_place}
use Rattle.gate_graph.proofs.NetOf.{home-here}
use Rattle.gate_graph.proofs.Pinned.{drivers-all}
use Rattle.gate_graph.proofs.Appended.{pushed}
use Rattle.gate_graph.proofs.SameWired.{home-same}
use Rattle.gate_graph.proofs.Removed.{had, keeps, elsewhere}
use Rattle.gate_graph.proofs.Reread.{after, after-to, after-from, after-other}
use Rattle.gate_graph.proofs.PlaceLists.{readers-same, observed-append, place-at, at-place}
use Rattle.gate_graph.proofs.Extended.{fans-there, fans-others}

some-same : (q p : ℕ) → (let o : Option ℕ = Some q in o ≡ Some p) → q ≡ p
some-same q p e = cc

without-none : (f : ℕ → ℕ × ℕ) (p : ℕ) (obs : List ℕ) (place : ℕ × ℕ) (xs : List ℕ) → has p xs ≡ false → ((q : ℕ) → has q xs ≡ true → is_place place (f q) ≡ eqb q p) → map f (without_observed obs xs) ≡ without_place place (map f (without_observed obs xs))
without-none f p obs place [] out told = refl
without-none f p obs place (x ∷ xs) out told =
    let ne : x ≢ p = λ is. (let seen : has p (x ∷ xs) ≡ true = or_left _ _ (eq-eqb p x (sym is)) in false≢true (sym out ∙ seen)) in
    let rest = without-none f p obs place xs (or_parts _ _ out).1 (λ q h. told q (or_right _ _ h)) in
    let no' : is_place place (f x) ≡ false = told x (or_left _ _ (eq-eqb x x refl)) ∙ ne_eqb x p ne in
    elim (cases_Bool (has x obs)) [
      | inl seen ↦ rw seen rest
      | inr free ↦ rw (free, no') (ap (λ (l : List (ℕ × ℕ)). f x ∷ l) rest)
    ]

-- the list without a pin, seen by places
drop-place : (f : ℕ → ℕ × ℕ) (p : ℕ) (obs : List ℕ) (place : ℕ × ℕ) (xs : List ℕ) → IsApart xs → has p obs ≡ false → ((q : ℕ) → has q xs ≡ true → is_place place (f q) ≡ eqb q p) → map f (without_observed obs (without p xs)) ≡ without_place place (map f (without_observed obs xs))
drop-place f p obs place [] a unseen told = refl
drop-place f p obs place (x ∷ xs) a unseen told =
    let here : is_place place (f x) ≡ eqb x p = told x (or_left _ _ (eq-eqb x x refl)) in
    elim (cases_eq p x) [
      | inl is ↦
          let out : has p xs ≡ false = ap (λ (q : ℕ). has q xs) is ∙ a.0 in
          let yes' : is_place place (f x) ≡ true = here ∙ eq-eqb x p (sym is) in
          let free : has x obs ≡ false = ap (λ (q : ℕ). has q obs) (sym is) ∙ unseen in
          rw (eq-eqb p x is, free, yes') (without-none f p obs place xs out (λ q h. told q (or_right _ _ h)))
      | inr ne ↦
          let no' : is_place place (f x) ≡ false = here ∙ ne_eqb x p (λ s. ne (sym s)) in
          let rest = drop-place f p obs place xs a.1 unseen (λ q h. told q (or_right _ _ h)) in
          rw (ne_eqb p x ne) (elim (cases_Bool (has x obs)) [
            | inl seen ↦ rw seen rest
            | inr free ↦ rw (free, no') (ap (λ (l : List (ℕ × ℕ)). f x ∷ l) rest)
          ])
    ]

pub last-reader : (v w : Circuit) (p g d : ℕ) → rings_of w.pool ≡ linked p g d (rings_of v.pool) → AreRings (rings_of v.pool) → AreRings (rings_of w.pool) → IsWired (wiring v) → g ≢ 0 → length (drivers_of (net_of v) g) ≡ length (list_of v.pool.inputs g) → (let t : ℕ → Bool = (rings_of v.pool).taken in t p ≡ false) → LastReader v w g d
unfolding fanouts_of
last-reader v w p g d e rv rw' ww ne count free = record {
  there = fans-there v.pool w.pool p g d e rv rw' free ne ∙ ap (λ (k : ℕ). let t : ℕ × ℕ = (g, k) in fans_in v.pool d ++ t ∷ []) (sym count);
  others = fans-others v.pool w.pool p g d e rv rw' free ne;
}

pub count-there : (v : Circuit) (g : ℕ) → IsShaped (wiring v) → g ≢ 0 → length (drivers_of (net_of v) g) ≡ length (list_of v.pool.inputs g)
count-there v g s ne = ap length (drivers-all v s g) ∙ length-map (gate_pins v.pool g) (home v.pool.fanouts) ∙ rw (ne_eqb g 0 ne) refl

module _ (v w : Circuit) (from to : ℕ) (apart : from ≢ to) (e : rings_of w.pool ≡ moved from to (rings_of v.pool)) where
  now-in : (n : ℕ) → list_of w.pool.inputs n ≡ list_of v.pool.inputs n
  now-in n = ap (λ (r : Rings). r.inputs n) e

  now-out : (n : ℕ) → list_of w.pool.fanouts n ≡ after (λ m. list_of v.pool.fanouts m) from to apart n
  now-out n = ap (λ (r : Rings). r.fanouts n) e

  reader-same : (q : ℕ) → reader w.pool q ≡ reader v.pool q
  reader-same q = let h = home-same w.pool.inputs v.pool.inputs q now-in in rw (h, now-in (home v.pool.inputs q)) refl

  fans : (n : ℕ) (xs : List ℕ) → list_of w.pool.fanouts n ≡ xs → fanouts_of w n ≡ map (reader v.pool) (without_observed (list_of v.pool.inputs 0) xs)
  unfolding fanouts_of
  fans n xs is =
      ap (λ (l : List ℕ). map (reader w.pool) (without_observed l (list_of w.pool.fanouts n))) (now-in 0)
      ∙ ap (λ (l : List ℕ). map (reader w.pool) (without_observed (list_of v.pool.inputs 0) l)) is
      ∙ readers-same (reader w.pool) (reader v.pool) (list_of v.pool.inputs 0) xs (λ q h k. reader-same q)

  pub readers-move : ReadersMove v w from to
  unfolding fanouts_of
  readers-move =
      let outs : ℕ → List ℕ = λ n. list_of v.pool.fanouts n in
      record {
        there =
            fans to (outs to ++ outs from) (now-out to ∙ after-to outs from to apart)
            ∙ ap (map (reader v.pool)) (observed-append (list_of v.pool.inputs 0) (outs to) (outs from))
            ∙ map-append (reader v.pool) (without_observed (list_of v.pool.inputs 0) (outs to)) (without_observed (list_of v.pool.inputs 0) (outs from));
        gone = fans from [] (now-out from ∙ after-from outs from to apart);
        others = λ n a b. fans n (outs n) (now-out n ∙ after-other outs from to apart n a b);
      }

same-place : (g k : ℕ) → is_place (g, k) (g, k) ≡ true
same-place g k = rw (eq-eqb g g refl, eq-eqb k k refl) refl

-- the place of a pin
module _ (v : Circuit) (p g k : ℕ) (rv : AreRings (rings_of v.pool)) (ww : IsWired (wiring v)) (ne : g ≢ 0) (at : slice_get (list_of v.pool.inputs g) k ≡ Some p) where
  abbrev obs : List ℕ
  obs = list_of v.pool.inputs 0

  in-gate : has p (list_of v.pool.inputs g) ≡ true
  in-gate = has-there (list_of v.pool.inputs g) k p at

  unseen : has p obs ≡ false
  unseen = false_from_ne_true _ (λ h. ne (rv.inputs.one g 0 p in-gate h))

  reader-is : reader v.pool p ≡ (g, k)
  reader-is =
      let h : home v.pool.inputs p ≡ g = home-here v.pool.inputs _ p g rv.inputs in-gate in
      rw (h, place-at (list_of v.pool.inputs g) k p (rv.inputs.apart g) at) refl

  -- no other pin is at that place
  reader-told : (n q : ℕ) → has q (list_of v.pool.fanouts n) ≡ true → is_place (g, k) (reader v.pool q) ≡ eqb q p
  reader-told n q h = elim (cases_eq q p) [
    | inl is ↦ ap (λ (m : ℕ). is_place (g, k) (reader v.pool m)) is ∙ ap (is_place (g, k)) reader-is ∙ same-place g k ∙ sym (ap (λ (m : ℕ). eqb m p) is ∙ eq-eqb p p refl)
    | inr other ↦
        let by = ww.shape.read n q h in
        let there : home v.pool.inputs q ≡ by.0 = home-here v.pool.inputs _ q by.0 rv.inputs by.1 in
        let at' : reader v.pool q ≡ (by.0, place_in (list_of v.pool.inputs by.0) q) = ap (λ (b : ℕ). let t : ℕ × ℕ = (b, place_in (list_of v.pool.inputs b) q) in t) there in
        let told : is_place (g, k) (by.0, place_in (list_of v.pool.inputs by.0) q) ≡ false = elim (cases_eq by.0 g) [
          | inr ne' ↦ rw (ne_eqb by.0 g ne') refl
          | inl is ↦
              let inside : has q (list_of v.pool.inputs by.0) ≡ true = by.1 in
              let apart : place_in (list_of v.pool.inputs by.0) q ≢ k = λ s. other (some-same q p (sym (at-place (list_of v.pool.inputs by.0) q inside) ∙ ap (slice_get (list_of v.pool.inputs by.0)) s ∙ ap (λ (m : ℕ). slice_get (list_of v.pool.inputs m) k) is ∙ at)) in
              rw (eq-eqb by.0 g is, ne_eqb (place_in (list_of v.pool.inputs by.0) q) k apart) refl
        ] in
        ap (is_place (g, k)) at' ∙ told ∙ sym (ne_eqb q p other)
  ]

-- a pin that goes to the end of a node's list
module _ (v w : Circuit) (p g k d : ℕ) (e : rings_of w.pool ≡ redriven p d (rings_of v.pool)) (rv : AreRings (rings_of v.pool)) (ww : IsWired (wiring v)) (ne : g ≢ 0) (at : slice_get (list_of v.pool.inputs g) k ≡ Some p) where
  abbrev fans_of : ℕ → List ℕ
  fans_of n = list_of v.pool.fanouts n

  abbrev seen : List ℕ
  seen = list_of v.pool.inputs 0

  now-ins : (n : ℕ) → list_of w.pool.inputs n ≡ list_of v.pool.inputs n
  now-ins n = ap (λ (r : Rings). r.inputs n) e

  now-outs : (n : ℕ) → list_of w.pool.fanouts n ≡ pushed (all_without p fans_of) d p n
  now-outs n = ap (λ (r : Rings). r.fanouts n) e

  reader-kept : (q : ℕ) → reader w.pool q ≡ reader v.pool q
  reader-kept q = let h = home-same w.pool.inputs v.pool.inputs q now-ins in rw (h, now-ins (home v.pool.inputs q)) refl

  dropped-readers : (n : ℕ) → map (reader w.pool) (without_observed seen (without p (fans_of n))) ≡ without_place (g, k) (fanouts_of v n)
  unfolding fanouts_of
  dropped-readers n =
      readers-same (reader w.pool) (reader v.pool) seen (without p (fans_of n)) (λ q h j. reader-kept q)
      ∙ drop-place (reader v.pool) p seen (g, k) (fans_of n) (rv.fanouts.apart n) (unseen v p g k rv ww ne at) (reader-told v p g k rv ww ne at n)

  pub reader-moves : ReaderMoves v w g k d
  unfolding fanouts_of
  reader-moves = record {
    there =
        ap (λ (l : List ℕ). map (reader w.pool) (without_observed l (list_of w.pool.fanouts d))) (now-ins 0)
        ∙ ap (λ (l : List ℕ). map (reader w.pool) (without_observed seen l)) (now-outs d ∙ changed-same (all_without p fans_of) d (without p (fans_of d) ++ p ∷ []))
        ∙ ap (map (reader w.pool)) (observed-append seen (without p (fans_of d)) (p ∷ []) ∙ ap (λ (l : List ℕ). without_observed seen (without p (fans_of d)) ++ l) (let one : without_observed seen (p ∷ []) ≡ p ∷ [] = rw (unseen v p g k rv ww ne at) refl in one))
        ∙ map-append (reader w.pool) (without_observed seen (without p (fans_of d))) (p ∷ [])
        ∙ ap (λ (l : List (ℕ × ℕ)). l ++ reader w.pool p ∷ []) (dropped-readers d)
        ∙ ap (λ (x : ℕ × ℕ). without_place (g, k) (fanouts_of v d) ++ x ∷ []) (reader-kept p ∙ reader-is v p g k rv ww ne at);
    others = λ n other.
        ap (λ (l : List ℕ). map (reader w.pool) (without_observed l (list_of w.pool.fanouts n))) (now-ins 0)
        ∙ ap (λ (l : List ℕ). map (reader w.pool) (without_observed seen l)) (now-outs n ∙ changed-other (all_without p fans_of) d (without p (fans_of d) ++ p ∷ []) n other)
        ∙ dropped-readers n;
  }

lowered-suc : (k m : ℕ) → suc (lowered_by k m) ≡ lowered_by (suc k) (suc m)
lowered-suc k m = elim (cases_lt k m) [
  | inl lt ↦ rw (lt-ltb k m lt, lt-ltb (suc k) (suc m) (omega arith)) (omega arith)
  | inr le ↦ rw (le-ltb k m le, le-ltb (suc k) (suc m) (omega arith)) refl
]

lowered-zero : (m : ℕ) → lowered_by 0 (suc m) ≡ m
lowered-zero m = rw (lt-ltb 0 (suc m) (omega arith)) (omega arith)

lowered-first : (k : ℕ) → lowered_by (suc k) 0 ≡ 0
lowered-first k = rw (le-ltb (suc k) 0 (omega arith)) refl

lowered-there : (g k a m : ℕ) → a ≡ g → lowered g k (a, m) ≡ (a, lowered_by k m)
lowered-there g k a m is = rw (eq-eqb a g is) refl

lowered-other : (g k a m : ℕ) → a ≢ g → lowered g k (a, m) ≡ (a, m)
lowered-other g k a m ne = rw (ne_eqb a g ne) refl

map-pair : (f : ℕ × ℕ → ℕ × ℕ) (h : ℕ → ℕ × ℕ) (xs : List ℕ) → map (λ q. f (h q)) xs ≡ map f (map h xs)
map-pair f h [] = refl
map-pair f h (x ∷ xs) = ap (λ (l : List (ℕ × ℕ)). f (h x) ∷ l) (map-pair f h xs)

place-without : (xs : List ℕ) (k p q : ℕ) → IsApart xs → slice_get xs k ≡ Some p → has q xs ≡ true → q ≢ p → place_in (without p xs) q ≡ lowered_by k (place_in xs q)
place-without [] k p q a at h ne = cc
place-without (x ∷ xs) zero p q a at h ne =
    let is : x ≡ p = cc in
    rw (eq-eqb p x (sym is), ne_eqb q x (λ s. ne (s ∙ is))) (sym (lowered-zero (place_in xs q)))
place-without (x ∷ xs) (suc k) p q a at h ne =
    let far : p ≢ x = λ is. false≢true (sym a.0 ∙ ap (λ (r : ℕ). has r xs) (sym is) ∙ has-there xs k p at) in
    elim (cases_eq q x) [
      | inl is ↦ rw (ne_eqb p x far, eq-eqb q x is) (sym (lowered-first k))
      | inr other ↦
          let later : has q xs ≡ true = rw (ne_eqb q x other) at h in
          let left : place_in (without p (x ∷ xs)) q ≡ suc (place_in (without p xs) q) = rw (ne_eqb p x far, ne_eqb q x other) refl in
          let right : place_in (x ∷ xs) q ≡ suc (place_in xs q) = rw (ne_eqb q x other) refl in
          left ∙ ap (λ (m : ℕ). suc m) (place-without xs k p q a.1 at later ne) ∙ lowered-suc k (place_in xs q) ∙ ap (lowered_by (suc k)) (sym right)
    ]

module _ (v w : Circuit) (p g k : ℕ) (e : rings_of w.pool ≡ unlinked p (rings_of v.pool)) (rv : AreRings (rings_of v.pool)) (rw' : AreRings (rings_of w.pool)) (ww : IsWired (wiring v)) (ne : g ≢ 0) (at : slice_get (list_of v.pool.inputs g) k ≡ Some p) where
  abbrev old_in : ℕ → List ℕ
  old_in n = list_of v.pool.inputs n

  less-in : (n : ℕ) → list_of w.pool.inputs n ≡ all_without p old_in n
  less-in n = ap (λ (r : Rings). r.inputs n) e

  less-out : (n : ℕ) → list_of w.pool.fanouts n ≡ without p (list_of v.pool.fanouts n)
  less-out n = ap (λ (r : Rings). r.fanouts n) e

  in-gate' : has p (old_in g) ≡ true
  in-gate' = has-there (old_in g) k p at

  reader-lowered : (n q : ℕ) → has q (list_of v.pool.fanouts n) ≡ true → q ≢ p → reader w.pool q ≡ lowered g k (reader v.pool q)
  reader-lowered n q h other =
      let by = ww.shape.read n q h in
      let was : home v.pool.inputs q ≡ by.0 = home-here v.pool.inputs _ q by.0 rv.inputs by.1 in
      let now : home w.pool.inputs q ≡ by.0 = home-here w.pool.inputs _ q by.0 rw'.inputs (ap (has q) (less-in by.0) ∙ keeps old_in _ rv.inputs p by.0 q by.1 other) in
      let at-old : reader v.pool q ≡ (by.0, place_in (old_in by.0) q) = ap (λ (b : ℕ). let t : ℕ × ℕ = (b, place_in (list_of v.pool.inputs b) q) in t) was in
      let at-new : reader w.pool q ≡ (by.0, place_in (list_of w.pool.inputs by.0) q) = ap (λ (b : ℕ). let t : ℕ × ℕ = (b, place_in (list_of w.pool.inputs b) q) in t) now in
      at-new ∙ elim (cases_eq by.0 g) [
        | inl is ↦
            let place : place_in (list_of w.pool.inputs by.0) q ≡ lowered_by k (place_in (old_in by.0) q) =
            ap (λ (l : List ℕ). place_in l q) (less-in by.0) ∙ place-without (old_in by.0) k p q (rv.inputs.apart by.0) (ap (λ (m : ℕ). slice_get (list_of v.pool.inputs m) k) is ∙ at) by.1 other in
            ap (λ (m : ℕ). let t : ℕ × ℕ = (by.0, m) in t) place ∙ sym (lowered-there g k by.0 (place_in (old_in by.0) q) is) ∙ ap (lowered g k) (sym at-old)
        | inr ne' ↦
            let place : place_in (list_of w.pool.inputs by.0) q ≡ place_in (old_in by.0) q = ap (λ (l : List ℕ). place_in l q) (less-in by.0 ∙ elsewhere old_in _ rv.inputs p g by.0 in-gate' ne') in
            ap (λ (m : ℕ). let t : ℕ × ℕ = (by.0, m) in t) place ∙ sym (lowered-other g k by.0 (place_in (old_in by.0) q) ne') ∙ ap (lowered g k) (sym at-old)
      ]

  pub reader-goes : (n : ℕ) → fanouts_of w n ≡ map (lowered g k) (without_place (g, k) (fanouts_of v n))
  unfolding fanouts_of
  reader-goes n =
      ap (λ (l : List ℕ). map (reader w.pool) (without_observed l (list_of w.pool.fanouts n))) (less-in 0 ∙ elsewhere old_in _ rv.inputs p g 0 in-gate' (λ s. ne (sym s)))
      ∙ ap (λ (l : List ℕ). map (reader w.pool) (without_observed (old_in 0) l)) (less-out n)
      ∙ readers-same (reader w.pool) (λ q. lowered g k (reader v.pool q)) (old_in 0) (without p (list_of v.pool.fanouts n)) (λ q h j. (
      let was = had (λ m. list_of v.pool.fanouts m) _ rv.fanouts p n q h in reader-lowered n q was.0 was.1))
      ∙ map-pair (lowered g k) (reader v.pool) (without_observed (old_in 0) (without p (list_of v.pool.fanouts n)))
      ∙ ap (map (lowered g k)) (drop-place (reader v.pool) p (old_in 0) (g, k) (list_of v.pool.fanouts n) (rv.fanouts.apart n) (unseen v p g k rv ww ne at) (reader-told v p g k rv ww ne at n))

-- A pin in the list of a gate is in that of a driver, and the other way round.
use Rattle.std.proofs.Common.{◌≡◌, ◌≢◌, ℕ, ◌-◌, Bool, true, false, ◌||◌, List, [], ◌∷◌, ◌++◌, length, take, drop, eqb, refl, sym, ap, ◌∙◌, arith, inl, inr, ◌⊎◌}
use Rattle.std.proofs.lemmas.Bool.{cases_eq, ne_eqb}
use Rattle.std.proofs.lemmas.Bool.Decides.{eqb_tells, nat_tests}
use Rattle.std.proofs.lemmas.List.{take-append-drop}
use Rattle.pin_pool.specs.Ring.{has, without}
use Rattle.pin_pool.specs.Pins.{put_after}
use Rattle.pin_pool.specs.Inner.Places.{ArePaired}
use Rattle.pin_pool.specs.Rings.{Rings, changed, all_without, joined, unlinked, relinked, redriven, restored, moved, moved_back, IsIn, AreOnce, AreRings}
use Rattle.pin_pool.specs.declared.names.Slot.{Slot}
use Rattle.pin_pool.specs.declared.names.Splice.{Splice}
use Rattle.pin_pool.proofs.RingLemmas.{has-without}
use Rattle.pin_pool.proofs.PoolLemmas.{has-append, has-push}
use Rattle.pin_pool.proofs.ListLaws.{has-put_after}
use Rattle.pin_pool.proofs.RingsOf.{changed-same, changed-other}

-- p is in a list, and every other pin where it was
pub record Gains (f g : ℕ → List ℕ) (p : ℕ) : Type 0 where
  pub had : (q : ℕ) → IsIn g q → IsIn f q ⊎ (q ≡ p)
  pub keeps : (q : ℕ) → IsIn f q → IsIn g q
  pub here : IsIn g p

-- p is in no list, and every other pin where it was
pub record Loses (f g : ℕ → List ℕ) (p : ℕ) : Type 0 where
  pub had : (q : ℕ) → IsIn g q → IsIn f q × (q ≢ p)
  pub keeps : (q : ℕ) → IsIn f q → q ≢ p → IsIn g q

-- the same pins are in lists
pub record Has (f g : ℕ → List ℕ) : Type 0 where
  pub had : (q : ℕ) → IsIn g q → IsIn f q
  pub keeps : (q : ℕ) → IsIn f q → IsIn g q

in-changed : (f : ℕ → List ℕ) (n : ℕ) (xs : List ℕ) (q : ℕ) → has q xs ≡ true → IsIn (changed f n xs) q
in-changed f n xs q h = (n, ap (has q) (changed-same f n xs) ∙ h)

in-still : (f : ℕ → List ℕ) (n : ℕ) (xs : List ℕ) (q m : ℕ) → has q (f m) ≡ true → m ≢ n → IsIn (changed f n xs) q
in-still f n xs q m h ne = (m, ap (has q) (changed-other f n xs m ne) ∙ h)

pub gains : (f : ℕ → List ℕ) (n p : ℕ) (xs : List ℕ) → ((q : ℕ) → has q xs ≡ (eqb q p || has q (f n))) → Gains f (changed f n xs) p
gains f n p xs read = record {
  had = λ q i. elim (cases_eq i.0 n) [
    | inl e ↦
        let at : has q xs ≡ true = ap (has q) (sym (changed-same f n xs)) ∙ ap (λ (m : ℕ). has q (changed f n xs m)) (sym e) ∙ i.1 in
        elim (eqb_tells q p) [
          | inl t ↦ inr t.1
          | inr t ↦ inl (n, grind (arith, nat_tests, read q))
        ]
    | inr ne ↦ inl (i.0, ap (has q) (sym (changed-other f n xs i.0 ne)) ∙ i.1)
  ];
  keeps = λ q i. elim (cases_eq i.0 n) [
    | inl e ↦ in-changed f n xs q (let at : has q (f n) ≡ true = ap (λ (m : ℕ). has q (f m)) (sym e) ∙ i.1 in grind (arith, nat_tests, read q))
    | inr ne ↦ in-still f n xs q i.0 i.1 ne
  ];
  here = in-changed f n xs p (grind (arith, nat_tests, read p));
}

pub gains-push : (f : ℕ → List ℕ) (n p : ℕ) → Gains f (changed f n (f n ++ p ∷ [])) p
gains-push f n p = gains f n p (f n ++ p ∷ []) (λ q. has-push (f n) p q ∙ grind (arith, nat_tests))

pub loses : (f : ℕ → List ℕ) (taken : ℕ → Bool) (p : ℕ) → AreOnce f taken → Loses f (all_without p f) p
loses f taken p once = record {
  had = λ q i. (let read = has-without p (f i.0) q (once.apart i.0) in elim (eqb_tells q p) [
    | inl t ↦ absurd (let at : has q (without p (f i.0)) ≡ true = i.1 in grind (arith, nat_tests))
    | inr t ↦ ((i.0, (let at : has q (without p (f i.0)) ≡ true = i.1 in grind (arith, nat_tests))), t.1)
  ]);
  keeps = λ q i ne. (i.0, has-without p (f i.0) q (once.apart i.0) ∙ rw (ne_eqb q p ne) i.1);
}

pub loses-gains : (f g h : ℕ → List ℕ) (p : ℕ) → IsIn f p → Loses f g p → Gains g h p → Has f h
loses-gains f g h p i l w = record {
  had = λ q j. elim (w.had q j) [ inl a ↦ (l.had q a).0 | inr e ↦ rw e i ];
  keeps = λ q j. elim (cases_eq q p) [ inl e ↦ rw e w.here | inr ne ↦ w.keeps q (l.keeps q j ne) ];
}

module _ (f : ℕ → List ℕ) (from to : ℕ) (apart : from ≢ to) where
  -- the lists at two numbers are others, with the same pins
  pub has-two : (xs ys : List ℕ) → ((q : ℕ) → (has q xs || has q ys) ≡ (has q (f from) || has q (f to))) → Has f (changed (changed f from xs) to ys)
  has-two xs ys read =
      let g = changed (changed f from xs) to ys in
      let at-to : g to ≡ ys = changed-same (changed f from xs) to ys in
      let at-from : g from ≡ xs = changed-other (changed f from xs) to ys from apart ∙ changed-same f from xs in
      let at-other : (m : ℕ) → m ≢ from → m ≢ to → g m ≡ f m = λ m a b. changed-other (changed f from xs) to ys m b ∙ changed-other f from xs m a in
      let old : (q : ℕ) → (has q xs || has q ys) ≡ true → IsIn f q = λ q h. pick (λ n. has q (f n)) from to (sym (read q) ∙ h) in
      let new : (q : ℕ) → (has q (f from) || has q (f to)) ≡ true → IsIn g q = λ q h.
      pick (λ n. has q (g n)) from to (rw (at-from, at-to) (read q ∙ h)) in
      record {
        had = λ q i. elim (cases_eq i.0 to) [
          | inl e ↦ old q (let at : has q ys ≡ true = ap (has q) (sym at-to) ∙ ap (λ (m : ℕ). has q (g m)) (sym e) ∙ i.1 in grind (arith, nat_tests))
          | inr a ↦ elim (cases_eq i.0 from) [
            | inl e ↦ old q (let at : has q xs ≡ true = ap (has q) (sym at-from) ∙ ap (λ (m : ℕ). has q (g m)) (sym e) ∙ i.1 in grind (arith, nat_tests))
            | inr b ↦ (i.0, ap (has q) (sym (at-other i.0 b a)) ∙ i.1)
          ]
        ];
        keeps = λ q i. elim (cases_eq i.0 to) [
          | inl e ↦ new q (let at : has q (f to) ≡ true = ap (λ (m : ℕ). has q (f m)) (sym e) ∙ i.1 in grind (arith, nat_tests))
          | inr a ↦ elim (cases_eq i.0 from) [
            | inl e ↦ new q (let at : has q (f from) ≡ true = ap (λ (m : ℕ). has q (f m)) (sym e) ∙ i.1 in grind (arith, nat_tests))
            | inr b ↦ (i.0, ap (has q) (at-other i.0 b a) ∙ i.1)
          ]
        ];
      }
    where
      pick : (test : ℕ → Bool) (a b : ℕ) → (test a || test b) ≡ true → (n : ℕ) × (test n ≡ true)
      pick test a b h = choose (test a) refl
        where
          choose : (t : Bool) → test a ≡ t → (n : ℕ) × (test n ≡ true)
          choose true e = (a, e)
          choose false e = (b, grind (arith, nat_tests))

both-gain : (r : Rings) (f g : ℕ → List ℕ) (p : ℕ) → ArePaired r → Gains r.inputs f p → Gains r.fanouts g p → ArePaired (record r { inputs = f; fanouts = g })
both-gain r f g p i a b = record {
  driven = λ q j. elim (a.had q j) [ inl old ↦ b.keeps q (i.driven q old) | inr e ↦ rw e b.here ];
  read = λ q j. elim (b.had q j) [ inl old ↦ a.keeps q (i.read q old) | inr e ↦ rw e a.here ];
}

one-has : (r : Rings) (g : ℕ → List ℕ) → ArePaired r → Has r.fanouts g → ArePaired (record r { fanouts = g })
one-has r g i b = record {
  driven = λ q j. b.keeps q (i.driven q j);
  read = λ q j. i.read q (b.had q j);
}

pub paired-joined : (r : Rings) (p g d : ℕ) → ArePaired r → ArePaired (joined p g d r)
paired-joined r p g d i = both-gain r _ _ p i (gains-push r.inputs g p) (gains-push r.fanouts d p)

pub paired-relinked : (r : Rings) (p : ℕ) (slot : Slot) → ArePaired r → ArePaired (relinked p slot r)
paired-relinked r p slot i =
    both-gain r _ _ p i
    (gains r.inputs slot.gate p (put_after (r.inputs slot.gate) slot.in_gate p) (λ q. has-put_after (r.inputs slot.gate) slot.in_gate p q))
    (gains r.fanouts slot.driver p (put_after (r.fanouts slot.driver) slot.in_driver p) (λ q. has-put_after (r.fanouts slot.driver) slot.in_driver p q))

pub paired-unlinked : (r : Rings) (p : ℕ) → AreRings r → ArePaired (unlinked p r)
paired-unlinked r p i =
    let a = loses r.inputs r.taken p i.inputs in
    let b = loses r.fanouts r.taken p i.fanouts in
    record {
      driven = λ q j. (let old = a.had q j in b.keeps q (i.driven q old.0) old.1);
      read = λ q j. (let old = b.had q j in a.keeps q (i.read q old.0) old.1);
    }

pub paired : (r : Rings) → AreRings r → ArePaired r
paired r i = record { driven = i.driven; read = i.read }

pub paired-redriven : (r : Rings) (p d : ℕ) → AreRings r → IsIn r.inputs p → ArePaired (redriven p d r)
paired-redriven r p d i at =
    one-has r _ (paired r i) (loses-gains r.fanouts (all_without p r.fanouts) _ p (i.driven p at) (loses r.fanouts r.taken p i.fanouts) (gains-push (all_without p r.fanouts) d p))

pub paired-restored : (r : Rings) (p : ℕ) (slot : Slot) → AreRings r → IsIn r.inputs p → ArePaired (restored p slot r)
paired-restored r p slot i at =
    let rest = all_without p r.fanouts in
    one-has r _ (paired r i)
    (loses-gains r.fanouts rest _ p (i.driven p at) (loses r.fanouts r.taken p i.fanouts) (gains rest slot.driver p (put_after (rest slot.driver) slot.in_driver p) (λ q. has-put_after (rest slot.driver) slot.in_driver p q)))

pub paired-moved : (r : Rings) (from to : ℕ) → ArePaired r → from ≢ to → ArePaired (moved from to r)
paired-moved r from to i apart =
    one-has r _ i (has-two r.fanouts from to apart [] (r.fanouts to ++ r.fanouts from) (λ q. grind (arith, nat_tests, has-append (r.fanouts to) (r.fanouts from) q)))

pub paired-moved_back : (r : Rings) (s : Splice) → ArePaired r → s.from ≢ s.to → r.fanouts s.from ≡ [] → ArePaired (moved_back s r)
paired-moved_back r s i apart empty =
    let xs = r.fanouts s.to in
    let n = length xs - s.count in
    one-has r _ i (has-two r.fanouts s.to s.from (λ e. apart (sym e)) (take n xs) (drop n xs) (λ q.
    let none : has q (r.fanouts s.from) ≡ false = rw empty refl in
    let both : has q xs ≡ (has q (take n xs) || has q (drop n xs)) = ap (has q) (sym (take-append-drop n xs)) ∙ has-append (take n xs) (drop n xs) q in
    grind (arith, nat_tests)))

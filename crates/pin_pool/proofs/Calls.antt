-- What each call makes of the rings: v before, w after.
use Rattle.std.proofs.Common.{◌≡◌, ◌≢◌, ℕ, ◌-◌, ◌<◌, ◌≤◌, false, List, [], ◌∷◌, ◌++◌, length, take, drop, set, subst, Option, refl, sym, ap, ◌∙◌, arith, length-set, length-append, replicate}
use Rattle.std.specs.Prelude.{Result, Ok, Err, OnErr, OnOk}
use Rattle.std.specs.FinSet as finset
use Rattle.std.specs.Ordering.{nat_cmp}
use Rattle.std.proofs.lemmas.Bool.{false_from_ne_true, false≢true}
use Rattle.std.proofs.lemmas.Bool.Decides.{nat_tests}
use Rattle.std.proofs.lemmas.List.{length-map}
use Rattle.pin_pool.specs.Ring.{has, IsApart, without}
use Rattle.pin_pool.specs.Inner.Ring.{without_pin}
use Rattle.pin_pool.specs.Pins.{Pins, admitted, before_in, list_of, put_after, StandsIn}
use Rattle.pin_pool.specs.Inner.Places.{ArePaired, AreApart, GrowsTo, HasDriver, HasPlace, IsFree, IsHeld, IsKept, IsPlace, moved_after, moved_last, put_at, with_list}
use Rattle.pin_pool.specs.Rings.{Rings, rings_of, changed, all_without, joined, unlinked, relinked, redriven, restored, moved, moved_back, CanMoveBack, CanRelink, CanRestore, IsIn, IsLinked, IsLoose, AreRings, IsValid, Stood}
use Rattle.pin_pool.specs.declared.names.PinNo.{PinNo}
use Rattle.pin_pool.specs.declared.names.Slot.{Slot}
use Rattle.pin_pool.specs.declared.names.Splice.{Splice}
use Rattle.pin_pool.proofs.RingLemmas.{has-without}
use Rattle.pin_pool.proofs.ListLaws.{before-named, has-put_after, put-coded}
use Rattle.pin_pool.proofs.RingsOf.{list-without, list_of-set, list_of-without, listed, same-rings, valid-of}
use Rattle.pin_pool.proofs.Paired.{gains, gains-push, loses, paired-joined, paired-moved, paired-moved_back, paired-redriven, paired-relinked, paired-restored, paired-unlinked}
use Rattle.pin_pool.proofs.Undone.{relink-undoes, restore-undoes, move_back-undoes, stands, out-without, without-pushed}

pub paired-by : (w : Pins) (r : Rings) → rings_of w ≡ r → ArePaired r → ArePaired (rings_of w)
paired-by w r e i = subst (λ (s : Rings). ArePaired s) (sym e) i

in-by : (w : Pins) (r : Rings) (p : ℕ) → rings_of w ≡ r → IsIn r.inputs p → IsLinked (rings_of w) p
in-by w r p e i = subst (λ (s : Rings). IsIn s.inputs p) (sym e) i

pub held-by : (v : Pins) (p : ℕ) → ArePaired (rings_of v) → IsLinked (rings_of v) p → IsHeld v p
held-by v p i at = (listed v.inputs p at, listed v.fanouts p (i.driven p at))

pub free-by : (v : Pins) (p : ℕ) → ArePaired (rings_of v) → IsLoose (rings_of v) p → IsFree v p
free-by v p i loose =
    (loose.0, (λ n h. loose.1 n), (λ n h. false_from_ne_true _ (λ k. (let at = i.read p (n, k) in false≢true (sym (loose.1 at.0) ∙ at.1)))))

none-without : (z p : ℕ) (xs : List ℕ) → IsApart xs → has z xs ≡ false → has z (without p xs) ≡ false
none-without z p xs a h = has-without p xs z a ∙ grind (arith, nat_tests)

-- the pin before, as a place has it
before-place : (lists : List (List ℕ)) (taken : finset.FinSet nat_cmp) (p n : ℕ) (b : Option PinNo) → AreApart lists taken → IsPlace lists p n b → b ≡ before_in (list_of lists n) p
before-place lists taken p n b a i = i.follows ∙ before-named 4294967295 (list_of lists n) p (a.pins n i.within) i.stands

stood-by : (v : Pins) (p : ℕ) (slot : Slot) → IsKept v → IsPlace v.inputs p slot.gate slot.in_gate → IsPlace v.fanouts p slot.driver slot.in_driver → Stood (rings_of v) p slot
stood-by v p slot k g d = record {
  in_gate = g.stands;
  in_driver = d.stands;
  after_gate = before-place v.inputs v.taken p slot.gate slot.in_gate k.inputs g;
  after_driver = before-place v.fanouts v.taken p slot.driver slot.in_driver k.fanouts d;
}

module _ (v w : Pins) (p g d : ℕ) (pv : ArePaired (rings_of v)) (kw : IsKept w) (rings : rings_of w ≡ joined p g d (rings_of v)) where
  pub paired-link : ArePaired (rings_of w)
  paired-link = paired-by w (joined p g d (rings_of v)) rings (paired-joined (rings_of v) p g d pv)

  pub valid-link : IsValid w
  valid-link = valid-of w kw paired-link

  pub linked-link : IsLinked (rings_of w) p
  linked-link = in-by w (joined p g d (rings_of v)) p rings (gains-push (λ n. list_of v.inputs n) g p).here

  pub others-link : (q : ℕ) → IsLinked (rings_of v) q → IsLinked (rings_of w) q
  others-link q at = in-by w (joined p g d (rings_of v)) q rings ((gains-push (λ n. list_of v.inputs n) g p).keeps q at)

module _ (v w : Pins) (p : ℕ) (kv : IsKept v) (pv : ArePaired (rings_of v)) (kw : IsKept w) (e : w ≡ record { inputs = without_pin p v.inputs; fanouts = without_pin p v.fanouts; taken = v.taken; spare = v.spare }) where
  before : IsValid v
  before = valid-of v kv pv

  pub rings-unlink : rings_of w ≡ unlinked p (rings_of v)
  rings-unlink = rw e (same-rings _ _ (list_of-without v.inputs p) (list_of-without v.fanouts p) refl)

  pub paired-unlink : ArePaired (rings_of w)
  paired-unlink = paired-by w (unlinked p (rings_of v)) rings-unlink (paired-unlinked (rings_of v) p before.rings)

  pub valid-unlink : IsValid w
  valid-unlink = valid-of w kw paired-unlink

  pub others-unlink : (q : ℕ) → q ≢ p → IsLinked (rings_of v) q → IsLinked (rings_of w) q
  others-unlink q ne at = in-by w (unlinked p (rings_of v)) q rings-unlink ((loses (λ n. list_of v.inputs n) (λ q. finset.contains v.taken q) p before.rings.inputs).keeps q at ne)

  module _ (slot : Slot) (gate : IsPlace v.inputs p slot.gate slot.in_gate) (driver : IsPlace v.fanouts p slot.driver slot.in_driver) where
    pub stood-unlink : Stood (rings_of v) p slot
    stood-unlink = stood-by v p slot kv gate driver

    pub can-relink : CanRelink w p slot
    can-relink =
        let s = stood-unlink in
        let r = before.rings in
        let u : Pins = record { inputs = without_pin p v.inputs; fanouts = without_pin p v.fanouts; taken = v.taken; spare = v.spare } in
        let can : CanRelink u p slot = record {
          loose = (r.inputs.members slot.gate p s.in_gate, λ n. ap (has p) (list-without v.inputs p n) ∙ out-without (λ n. list_of v.inputs n) (λ q. finset.contains v.taken q) r.inputs p n);
          gate = omega (arith, gate.within, length-map v.inputs (without p));
          driver = omega (arith, driver.within, length-map v.inputs (without p), kv.nodes);
          in_gate = subst (λ (l : List ℕ). StandsIn l slot.in_gate) (sym (list-without v.inputs p slot.gate)) (stands (λ n. list_of v.inputs n) (λ q. finset.contains v.taken q) r.inputs p slot.gate slot.in_gate s.in_gate s.after_gate);
          in_driver = subst (λ (l : List ℕ). StandsIn l slot.in_driver) (sym (list-without v.fanouts p slot.driver)) (stands (λ n. list_of v.fanouts n) (λ q. finset.contains v.taken q) r.fanouts p slot.driver slot.in_driver s.in_driver s.after_driver);
        } in
        subst (λ (x : Pins). CanRelink x p slot) (sym e) can

pub place-by : (v : Pins) (p : ℕ) (slot : Slot) → IsKept v → ArePaired (rings_of v) → CanRelink v p slot → HasPlace v p slot
place-by v p slot k i can = record {
  loose = free-by v p i can.loose;
  gate = can.gate;
  driver = omega (arith, can.driver, k.nodes);
  in_gate = can.in_gate;
  in_driver = can.in_driver;
}

module _ (v w : Pins) (p : ℕ) (slot : Slot) (kv : IsKept v) (pv : ArePaired (rings_of v)) (kw : IsKept w) (can : CanRelink v p slot) (e : w ≡ record { inputs = with_list v.inputs slot.gate (put_at (list_of v.inputs slot.gate) slot.in_gate p); fanouts = with_list v.fanouts slot.driver (put_at (list_of v.fanouts slot.driver) slot.in_driver p); taken = v.taken; spare = v.spare }) where
  pub rings-relink : rings_of w ≡ relinked p slot (rings_of v)
  rings-relink =
      let driver : slot.driver < length v.fanouts = omega (arith, can.driver, kv.nodes) in
      let a : put_at (list_of v.inputs slot.gate) slot.in_gate p ≡ put_after (list_of v.inputs slot.gate) slot.in_gate p = put-coded 4294967295 _ slot.in_gate p (kv.inputs.pins slot.gate can.gate) can.in_gate in
      let b : put_at (list_of v.fanouts slot.driver) slot.in_driver p ≡ put_after (list_of v.fanouts slot.driver) slot.in_driver p = put-coded 4294967295 _ slot.in_driver p (kv.fanouts.pins slot.driver driver) can.in_driver in
      rw e (same-rings _ _
      (list_of-set v.inputs slot.gate _ can.gate ∙ ap (λ (xs : List ℕ). changed (λ n. list_of v.inputs n) slot.gate xs) a)
      (list_of-set v.fanouts slot.driver _ driver ∙ ap (λ (xs : List ℕ). changed (λ n. list_of v.fanouts n) slot.driver xs) b)
      refl)

  pub paired-relink : ArePaired (rings_of w)
  paired-relink = paired-by w (relinked p slot (rings_of v)) rings-relink (paired-relinked (rings_of v) p slot pv)

  pub valid-relink : IsValid w
  valid-relink = valid-of w kw paired-relink

  pub linked-relink : IsLinked (rings_of w) p
  linked-relink = in-by w (relinked p slot (rings_of v)) p rings-relink (gains (λ n. list_of v.inputs n) slot.gate p _ (λ q. has-put_after (list_of v.inputs slot.gate) slot.in_gate p q)).here

  pub others-relink : (q : ℕ) → IsLinked (rings_of v) q → IsLinked (rings_of w) q
  others-relink q at = in-by w (relinked p slot (rings_of v)) q rings-relink ((gains (λ n. list_of v.inputs n) slot.gate p _ (λ q. has-put_after (list_of v.inputs slot.gate) slot.in_gate p q)).keeps q at)

  pub undoes-relink : (before : Rings) → AreRings before → Stood before p slot → rings_of v ≡ unlinked p before → rings_of w ≡ before
  undoes-relink before i s was = rings-relink ∙ ap (relinked p slot) was ∙ relink-undoes before p slot i s

module _ (v w : Pins) (p d : ℕ) (kv : IsKept v) (pv : ArePaired (rings_of v)) (kw : IsKept w) (at : IsLinked (rings_of v) p) (hd : d < admitted v) (e : w ≡ record { inputs = v.inputs; fanouts = moved_last v.fanouts p d; taken = v.taken; spare = v.spare }) where
  pub rings-redrive : rings_of w ≡ redriven p d (rings_of v)
  rings-redrive =
      let h : d < length (without_pin p v.fanouts) = omega (arith, hd, kv.nodes, length-map v.fanouts (without p)) in
      rw e (same-rings _ _ refl (list_of-set (without_pin p v.fanouts) d (list_of (without_pin p v.fanouts) d ++ p ∷ []) h ∙ ap (λ (f : ℕ → List ℕ). changed f d (f d ++ p ∷ [])) (list_of-without v.fanouts p)) refl)

  pub paired-redrive : ArePaired (rings_of w)
  paired-redrive = paired-by w (redriven p d (rings_of v)) rings-redrive (paired-redriven (rings_of v) p d (valid-of v kv pv).rings at)

  pub valid-redrive : IsValid w
  valid-redrive = valid-of w kw paired-redrive

  module _ (slot : Slot) (gate : IsPlace v.inputs p slot.gate slot.in_gate) (driver : IsPlace v.fanouts p slot.driver slot.in_driver) where
    pub stood-redrive : Stood (rings_of v) p slot
    stood-redrive = stood-by v p slot kv gate driver

    pub can-restore : CanRestore w p slot
    can-restore =
        let s = stood-redrive in
        let r = (valid-of v kv pv).rings in
        let f : ℕ → List ℕ = λ n. list_of v.fanouts n in
        record {
          linked = in-by w (redriven p d (rings_of v)) p rings-redrive at;
          driver = rw e (omega (arith, driver.within, kv.nodes));
          in_driver = subst (λ (s : Rings). StandsIn (without p (s.fanouts slot.driver)) slot.in_driver) (sym rings-redrive)
              (subst (λ (g : ℕ → List ℕ). StandsIn (g slot.driver) slot.in_driver) (sym (without-pushed (all_without p f) d p (out-without f (λ q. finset.contains v.taken q) r.fanouts p)))
              (stands f (λ q. finset.contains v.taken q) r.fanouts p slot.driver slot.in_driver s.in_driver s.after_driver));
        }

pub driver-by : (v : Pins) (p : ℕ) (slot : Slot) → IsKept v → ArePaired (rings_of v) → CanRestore v p slot → HasDriver v p slot
driver-by v p slot k i can = record {
  linked = held-by v p i can.linked;
  driver = omega (arith, can.driver, k.nodes);
  in_driver = subst (λ (l : List ℕ). StandsIn l slot.in_driver) (sym (list-without v.fanouts p slot.driver)) can.in_driver;
}

module _ (v w : Pins) (p : ℕ) (slot : Slot) (kv : IsKept v) (pv : ArePaired (rings_of v)) (kw : IsKept w) (can : CanRestore v p slot) (e : w ≡ record { inputs = v.inputs; fanouts = moved_after v.fanouts p slot.driver slot.in_driver; taken = v.taken; spare = v.spare }) where
  pub rings-restore : rings_of w ≡ restored p slot (rings_of v)
  rings-restore =
      let n = slot.driver in
      let within : n < length v.fanouts = omega (arith, can.driver, kv.nodes) in
      let h : n < length (without_pin p v.fanouts) = omega (arith, within, length-map v.fanouts (without p)) in
      let none : has 4294967295 (without p (list_of v.fanouts n)) ≡ false = none-without 4294967295 p (list_of v.fanouts n) (kv.fanouts.apart n within) (kv.fanouts.pins n within) in
      let at : list_of (without_pin p v.fanouts) n ≡ without p (list_of v.fanouts n) = list-without v.fanouts p n in
      let b : put_at (list_of (without_pin p v.fanouts) n) slot.in_driver p ≡ put_after (list_of (without_pin p v.fanouts) n) slot.in_driver p =
      put-coded 4294967295 _ slot.in_driver p (ap (has 4294967295) at ∙ none) (subst (λ (l : List ℕ). StandsIn l slot.in_driver) (sym at) can.in_driver) in
      rw e (same-rings _ _ refl
      (list_of-set (without_pin p v.fanouts) n _ h
      ∙ ap (λ (xs : List ℕ). changed (λ m. list_of (without_pin p v.fanouts) m) n xs) b
      ∙ ap (λ (f : ℕ → List ℕ). changed f n (put_after (f n) slot.in_driver p)) (list_of-without v.fanouts p))
      refl)

  pub paired-restore : ArePaired (rings_of w)
  paired-restore = paired-by w (restored p slot (rings_of v)) rings-restore (paired-restored (rings_of v) p slot (valid-of v kv pv).rings can.linked)

  pub valid-restore : IsValid w
  valid-restore = valid-of w kw paired-restore

  pub undoes-restore : (before : Rings) (driver : ℕ) → AreRings before → Stood before p slot → rings_of v ≡ redriven p driver before → rings_of w ≡ before
  undoes-restore before driver i s was = rings-restore ∙ ap (restored p slot) was ∙ restore-undoes before p driver slot i s

module _ (v w : Pins) (from to : ℕ) (pv : ArePaired (rings_of v)) (kw : IsKept w) (apart : from ≢ to) (rings : rings_of w ≡ moved from to (rings_of v)) where
  pub paired-move : ArePaired (rings_of w)
  paired-move = paired-by w (moved from to (rings_of v)) rings (paired-moved (rings_of v) from to pv apart)

  pub valid-move : IsValid w
  valid-move = valid-of w kw paired-move

two-sets : (lists : List (List ℕ)) (a b : ℕ) (x y : List ℕ) → a < length lists → b < length lists → (λ (n : ℕ). list_of (with_list (with_list lists a x) b y) n) ≡ changed (changed (λ n. list_of lists n) a x) b y
two-sets lists a b x y ha hb =
    let h : b < length (set lists a x) = omega (arith, length-set lists a x) in
    list_of-set (set lists a x) b y h ∙ ap (λ (f : ℕ → List ℕ). changed f b y) (list_of-set lists a x ha)

pub rings-move : (v w : Pins) (from to : ℕ) → IsKept v → from < admitted v → to < admitted v → w ≡ record { inputs = v.inputs; fanouts = with_list (with_list v.fanouts from []) to (list_of v.fanouts to ++ list_of v.fanouts from); taken = v.taken; spare = v.spare } → rings_of w ≡ moved from to (rings_of v)
rings-move v w from to k hf ht e = rw e (same-rings _ _ refl (two-sets v.fanouts from to [] _ (omega (arith, hf, k.nodes)) (omega (arith, ht, k.nodes))) refl)

module _ (v w : Pins) (s : Splice) (kv : IsKept v) (pv : ArePaired (rings_of v)) (kw : IsKept w) (can : CanMoveBack v s) (e : w ≡ (let pins = list_of v.fanouts s.to in let left = length pins - s.count in let u : Pins = record { inputs = v.inputs; fanouts = with_list (with_list v.fanouts s.to (take left pins)) s.from (drop left pins); taken = v.taken; spare = v.spare } in u)) where
  pub rings-move_back : rings_of w ≡ moved_back s (rings_of v)
  rings-move_back = rw e (same-rings _ _ refl (two-sets v.fanouts s.to s.from _ _ (omega (arith, can.to, kv.nodes)) (omega (arith, can.from, kv.nodes))) refl)

  pub paired-move_back : ArePaired (rings_of w)
  paired-move_back = paired-by w (moved_back s (rings_of v)) rings-move_back (paired-moved_back (rings_of v) s pv can.apart can.empty)

  pub valid-move_back : IsValid w
  valid-move_back = valid-of w kw paired-move_back

  pub undoes-move_back : (before : Rings) → s.count ≡ length (before.fanouts s.from) → rings_of v ≡ moved s.from s.to before → rings_of w ≡ before
  undoes-move_back before count was = rings-move_back ∙ ap (moved_back s) was ∙ move_back-undoes before s can.apart count

-- a claim of either result
pub on-both : {T E : Type 0} (r : Result T E) (A B C : Type 0) → (A → C) → (B → C) → OnOk r A → OnErr r B → C
on-both (Ok x) A B C f g a b = f a
on-both (Err x) A B C f g a b = g b

pub rings-link : (v w : Pins) (p g d : ℕ) → IsKept v → g < admitted v → d < admitted v → w ≡ record { inputs = with_list v.inputs g (list_of v.inputs g ++ p ∷ []); fanouts = with_list v.fanouts d (list_of v.fanouts d ++ p ∷ []); taken = v.taken; spare = v.spare } → rings_of w ≡ joined p g d (rings_of v)
rings-link v w p g d k hg hd e =
    rw e (same-rings _ _ (list_of-set v.inputs g (list_of v.inputs g ++ p ∷ []) hg) (list_of-set v.fanouts d (list_of v.fanouts d ++ p ∷ []) (omega (arith, hd, k.nodes))) refl)

-- the lists are as they were
pub paired-same : (v w : Pins) → ArePaired (rings_of v) → w.inputs ≡ v.inputs → w.fanouts ≡ v.fanouts → ArePaired (rings_of w)
paired-same v w i a b = rw (a, b) (record { driven = i.driven; read = i.read })

-- what may be put back still may where there is more room
module _ (v w : Pins) (e : rings_of w ≡ rings_of v) (more : admitted v ≤ admitted w) where
  pub can-relink-more : (p : ℕ) (slot : Slot) → CanRelink v p slot → CanRelink w p slot
  can-relink-more p slot can = record {
    loose = subst (λ (r : Rings). IsLoose r p) (sym e) can.loose;
    gate = omega (arith, can.gate, more);
    driver = omega (arith, can.driver, more);
    in_gate = subst (λ (r : Rings). StandsIn (r.inputs slot.gate) slot.in_gate) (sym e) can.in_gate;
    in_driver = subst (λ (r : Rings). StandsIn (r.fanouts slot.driver) slot.in_driver) (sym e) can.in_driver;
  }

  pub can-restore-more : (p : ℕ) (slot : Slot) → CanRestore v p slot → CanRestore w p slot
  can-restore-more p slot can = record {
    linked = subst (λ (r : Rings). IsLinked r p) (sym e) can.linked;
    driver = omega (arith, can.driver, more);
    in_driver = subst (λ (r : Rings). StandsIn (without p (r.fanouts slot.driver)) slot.in_driver) (sym e) can.in_driver;
  }

  pub can-move-back-more : (s : Splice) → CanMoveBack v s → CanMoveBack w s
  can-move-back-more s can = record {
    from = omega (arith, can.from, more);
    to = omega (arith, can.to, more);
    apart = can.apart;
    empty = subst (λ (r : Rings). r.fanouts s.from ≡ []) (sym e) can.empty;
    enough = subst (λ (r : Rings). s.count ≤ length (r.fanouts s.to)) (sym e) can.enough;
  }

pub more-grown : (v w : Pins) → GrowsTo v w → admitted v ≤ admitted w
more-grown v w g = omega (arith, ap length g.inputs.1, length-append v.inputs (replicate g.inputs.0 []))

pub more-same : (v w : Pins) → w ≡ v → admitted v ≤ admitted w
more-same v w e = rw e (omega arith)

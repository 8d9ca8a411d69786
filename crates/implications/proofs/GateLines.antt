-- Lines at a gate, by what is known of it and of its pins.
use Rattle.std.proofs.Common.{Bool, List, None, Option, Some, ap, arith, false, inl, inr, length, map, not, refl, subst, sym, true, ℕ, ◌<◌, ◌∙◌, ◌≡◌, ◌≢◌, ◌≤◌}
use Rattle.std.proofs.lemmas.Bool.{eq-eqb, eqb-true}
use Rattle.std.proofs.lemmas.Option.{slice_get_within}
use Rattle.std.specs.List.{list_all}
use Rattle.std.specs.Prelude.{IsTrue, T, nat_eq, slice_get}
use Rattle.gate_net.specs.Forward.{is_known, junction_back, value_back, value_forward}
use Rattle.gate_net.specs.Net.{IsGate, IsGateKind, IsKind, IsWellFormed, Net, Node, Reads, drivers_of}
use Rattle.gate_net.specs.Values.{IsJunction, controlling, faulty_reads}
use Rattle.gate_net.specs.Meaning.{controlling_in, family, family_back, is_gate_family}
use Rattle.gate_net.specs.declared.Family.{Family}
use Rattle.gate_net.specs.declared.Family.TheVariants.{Constant, Input, Junction, Parity}
use Rattle.gate_net.specs.declared.Kind.{Kind}
use Rattle.refutation.proofs.Public.{driver_live, faulty_pins, junction_kind, known_held, one_of_true, pin_at}
use Rattle.implications.specs.Inner.Pulls.{AreDoneEqual, AreDoneFaulty, AreDoneGood, AreDoneSide, IsEqualPull, IsPlaced, IsPull, IsPulled, SomePin}
use Rattle.implications.specs.Inner.Settled.{IsDone, IsFresh}
use Rattle.implications.specs.Inner.Sides.{IsOpenPin, IsOpenSide, IsSide}
use Rattle.implications.specs.declared.gate_lines.Pulled.{Pulled}
use Rattle.implications.specs.declared.gate_lines.Pulled.TheVariants.{Gate as GateNode, Pin as PinNode}
use Rattle.implications.specs.declared.pulls.Pull.{Pull}
use Rattle.implications.specs.declared.pulls.Pull.TheVariants.{Gate, Pin}
use Rattle.refutation.specs.Closing.{IsClashFree}
use Rattle.refutation.specs.FactSets.{held_by}
use Rattle.refutation.specs.Facts.{Held, known_equal, known_faulty, known_good, one_of}
use Rattle.refutation.specs.Lines.{IsStuckPin}
use Rattle.refutation.specs.Pins.{pin_value, pins_of, stuck_of, with_stuck}
use Rattle.refutation.specs.declared.held.NodeFacts.{NodeFacts}
use Rattle.refutation.specs.declared.pins.Aspect.TheVariants.{OfEqual, OfFaulty, OfGood}
use Rattle.refutation.specs.declared.reasoning.Fact.TheVariants.{Differs, Equal, Faulty, Good}
use Rattle.refutation.specs.declared.reasoning.Line.TheVariants.{DiffersBack, EqualForward, FaultyBack, FaultyForward, GoodBack, GoodForward, Side}
use Rattle.rm_base.specs.declared.numbers.Fault.{Fault}
use Rattle.rm_base.specs.declared.numbers.NodeId.{NodeId}
use Rattle.rm_base.proofs.Public.{bool_cases, map_at, never_opposite, some_same}

abbrev if_of : Bool → Bool → Bool → Bool
if_of t u true = u
if_of t u false = t

-- where no two facts are opposed, a value that isn't known isn't held
not_of : (t u b : Bool) → ((t ≡ true) × (u ≡ true) → ⊥) → one_of t u ≢ Some b → (if_of t u b ≡ false)
not_of true true b free ne = absurd (free (refl, refl))
not_of true false true free ne = refl
not_of true false false free ne = absurd (ne refl)
not_of false true true free ne = absurd (ne refl)
not_of false true false free ne = refl
not_of false false true free ne = refl
not_of false false false free ne = refl

good_if : (held : Held) (x : ℕ) (b : Bool) → if_of (held x (Good false)) (held x (Good true)) b ≡ held x (Good b)
good_if held x true = refl
good_if held x false = refl

faulty_if : (held : Held) (x : ℕ) (b : Bool) → if_of (held x (Faulty false)) (held x (Faulty true)) b ≡ held x (Faulty b)
faulty_if held x true = refl
faulty_if held x false = refl

module _ (held : Held) (free : IsClashFree held) (x : ℕ) where
  pub good_not : (b : Bool) → known_good held x ≢ Some b → held x (Good b) ≡ false
  good_not b ne = sym (good_if held x b) ∙ not_of (held x (Good false)) (held x (Good true)) b (λ both. free x (inl both)) ne

  pub faulty_not : (b : Bool) → known_faulty held x ≢ Some b → held x (Faulty b) ≡ false
  faulty_not b ne = sym (faulty_if held x b) ∙ not_of (held x (Faulty false)) (held x (Faulty true)) b (λ both. free x (inr (inl both))) ne

  pub equal_not : known_equal held x ≢ Some true → held x Equal ≡ false
  equal_not ne = not_of (held x Differs) (held x Equal) true (λ both. free x (inr (inr (both.1, both.0)))) ne

  pub differs_not : known_equal held x ≢ Some false → held x Differs ≡ false
  differs_not ne = not_of (held x Differs) (held x Equal) false (λ both. free x (inr (inr (both.1, both.0)))) ne

pub faulty_held : (held : Held) (x : ℕ) (b : Bool) → known_faulty held x ≡ Some b → IsTrue (held x (Faulty b))
faulty_held held x b e = elim (one_of_true (held x (Faulty false)) (held x (Faulty true)) b e) [ inl h ↦ rw h.0 h.1 | inr h ↦ rw h.0 h.1 ]

one_of_no : (t u : Bool) → one_of t u ≡ Some false → t ≡ true
one_of_no true u e = refl
one_of_no false true e = cc
one_of_no false false e = cc

one_of_yes : (t u : Bool) → one_of t u ≡ Some true → u ≡ true
one_of_yes t true e = refl
one_of_yes true false e = cc
one_of_yes false false e = cc

pub equal_held : (held : Held) (x : ℕ) → known_equal held x ≡ Some true → IsTrue (held x Equal)
equal_held held x e = one_of_yes (held x Differs) (held x Equal) e

pub differs_held : (held : Held) (x : ℕ) → known_equal held x ≡ Some false → IsTrue (held x Differs)
differs_held held x e = one_of_no (held x Differs) (held x Equal) e

-- KINDS
pub kind_once : (net : Net) (x : ℕ) (k l : Kind) → IsKind net x k → IsKind net x l → l ≡ k
kind_once net x k l (ds, is) (es, is') = let e : Some (record { kind = k; drivers = ds }) ≡ Some (record { kind = l; drivers = es }) = sym is ∙ is' in sym (ap kind_field (some_same e))
  where
    kind_field : Node → Kind
    kind_field n = n.kind

junction_back_family : (f : Family) (c v : Bool) (os : List (Option Bool)) (q : ℕ) → controlling_in f ≡ Some c → family_back f v os q ≡ junction_back c v os q
junction_back_family Input c v os q e = cc
junction_back_family (Constant b) c v os q e = cc
junction_back_family (Junction b) c v os q e = ap (λ (d : Bool). junction_back d v os q) (some_same e)
junction_back_family (Parity i) c v os q e = cc

pub junction_back_kind : (kind : Kind) (c v : Bool) (os : List (Option Bool)) (q : ℕ) → controlling kind ≡ Some c → value_back kind v os q ≡ junction_back c v os q
junction_back_kind kind = junction_back_family (family kind)

junction_gate_family : (f : Family) (c : Bool) → controlling_in f ≡ Some c → T (is_gate_family f)
junction_gate_family Input c e = cc
junction_gate_family (Constant b) c e = cc
junction_gate_family (Junction b) c e = tt
junction_gate_family (Parity i) c e = tt

pub junction_gate : (kind : Kind) (c : Bool) → controlling kind ≡ Some c → IsGateKind kind
junction_gate kind = junction_gate_family (family kind)

-- THE STUCK PIN
-- at a pin that isn't the stuck one the driver is read
pub pin_read : (fault : Fault) (k : ℕ → Option Bool) (ds : List ℕ) (y q d : ℕ) → slice_get ds q ≡ Some d → (IsStuckPin fault y q → ⊥) → slice_get (with_stuck (stuck_of fault y) (map k ds)) q ≡ Some (k d)
pin_read fault k ds y q d there ne = pin_at (stuck_of fault y) k ds q d there ∙ ap Some (at (nat_eq y fault.gate.0) (nat_eq q fault.position) refl refl)
  where
    at : (b c : Bool) → nat_eq y fault.gate.0 ≡ b → nat_eq q fault.position ≡ c → pin_value (stuck_of fault y) q (k d) ≡ k d
    at true true e f = absurd (ne (eqb-true y fault.gate.0 e, eqb-true q fault.position f))
    at true false e f = rw (e, f) refl
    at false c e f = rw e refl

-- a pin that reads nothing known isn't the stuck one
pub open_pin : (fault : Fault) (k : ℕ → Option Bool) (ds : List ℕ) (y q d : ℕ) → slice_get ds q ≡ Some d → slice_get (with_stuck (stuck_of fault y) (map k ds)) q ≡ Some None → (IsStuckPin fault y q → ⊥) × (k d ≡ None)
open_pin fault k ds y q d there open' = (not_stuck, sym (some_same (sym open' ∙ pin_read fault k ds y q d there not_stuck)))
  where
    not_stuck : IsStuckPin fault y q → ⊥
    not_stuck both =
        let e : nat_eq y fault.gate.0 ≡ true = eq-eqb y fault.gate.0 both.0 in
        let f : nat_eq q fault.position ≡ true = eq-eqb q fault.position both.1 in
        let read : pin_value (stuck_of fault y) q (k d) ≡ Some fault.value = rw (e, f) refl in
        let is : Some None ≡ Some (Some fault.value) = sym open' ∙ pin_at (stuck_of fault y) k ds q d there ∙ ap Some read in
        cc

-- GOOD VALUES AT A JUNCTION
module _ (net : Net) (fault : Fault) (facts : List NodeFacts) (formed : IsWellFormed net) (free : IsClashFree (held_by facts)) (y : NodeId) (c : Bool) (j : IsJunction net y.0 c) where
  abbrev goods : List (Option Bool)
  goods = pins_of None OfGood (held_by facts) (drivers_of net y.0)

  pub good_gate : (v : Bool) → IsPull c goods (known_good (held_by facts) y.0) (Some (Gate v)) → IsFresh net fault facts (record { line = GoodForward y; node = y; fact = Good v })
  good_gate v p = record {
    gives = (j.0, v, j.1.0, junction_kind j.0 c goods j.1.1 ∙ p.0, refl, refl);
    new = good_not (held_by facts) free y.0 v p.1;
    live = (j.0, j.1.0);
  }

  pub good_pin : (q : ℕ) (d : NodeId) (v : Bool) → IsPull c goods (known_good (held_by facts) y.0) (Some (Pin q v)) → Reads net y.0 q d.0 → IsFresh net fault facts (record { line = GoodBack y q; node = d; fact = Good v })
  good_pin q d v p reads = record {
    gives = (j.0, v, v, j.1.0, p.0, junction_back_kind j.0 c v goods q j.1.1 ∙ p.1.0, reads, refl);
    new = good_not (held_by facts) free d.0 v (λ e. let none : known_good (held_by facts) d.0 ≡ None = some_same (sym (map_at (known_good (held_by facts)) (drivers_of net y.0) q d.0 reads) ∙ p.1.1) in cc);
    live = driver_live net formed y.0 q d.0 reads;
  }

  pub good_done : IsPull c goods (known_good (held_by facts) y.0) None → AreDoneGood net fault facts y
  good_done p = (forward, back)
    where
      forward : IsDone net fault facts (GoodForward y)
      forward x fact h =
          let same : h.0 ≡ j.0 = kind_once net y.0 j.0 h.0 j.1.0 (subst (λ n. IsKind net n h.0) h.4 h.2) in
          let follows : value_forward j.0 goods ≡ Some h.1 = subst (λ k. value_forward k goods ≡ Some h.1) same (subst (λ n. value_forward h.0 (map (known_good (held_by facts)) (drivers_of net n)) ≡ Some h.1) h.4 h.3) in
          rw (h.4, h.5) (known_held (held_by facts) y.0 h.1 (p.0 h.1 (sym (junction_kind j.0 c goods j.1.1) ∙ follows)))

      back : (q : ℕ) → IsDone net fault facts (GoodBack y q)
      back q x fact h =
          let same : h.0 ≡ j.0 = kind_once net y.0 j.0 h.0 j.1.0 h.3 in
          let follows : value_back j.0 h.1 goods q ≡ Some h.2 = subst (λ k. value_back k h.1 goods q ≡ Some h.2) same h.5 in
          rw h.7 (known_held (held_by facts) x h.2 (p.1 h.1 h.2 q (known_good (held_by facts) x) h.4 (sym (junction_back_kind j.0 c h.1 goods q j.1.1) ∙ follows) (map_at (known_good (held_by facts)) (drivers_of net y.0) q x h.6)))

  -- FAULTY VALUES
  abbrev faulties : List (Option Bool)
  faulties = pins_of (stuck_of fault y.0) OfFaulty (held_by facts) (drivers_of net y.0)

  pub faulty_gate : (v : Bool) → IsPull c faulties (known_faulty (held_by facts) y.0) (Some (Gate v)) → IsFresh net fault facts (record { line = FaultyForward y; node = y; fact = Faulty v })
  faulty_gate v p = record {
    gives = (j.0, v, j.1.0, ap (λ os. value_forward j.0 os) (sym (faulty_pins net fault (held_by facts) y.0)) ∙ junction_kind j.0 c faulties j.1.1 ∙ p.0, refl, refl);
    new = faulty_not (held_by facts) free y.0 v p.1;
    live = (j.0, j.1.0);
  }

  pub faulty_pin : (q : ℕ) (d : NodeId) (v : Bool) → IsPull c faulties (known_faulty (held_by facts) y.0) (Some (Pin q v)) → Reads net y.0 q d.0 → IsFresh net fault facts (record { line = FaultyBack y q; node = d; fact = Faulty v })
  faulty_pin q d v p reads =
      let open' : (IsStuckPin fault y.0 q → ⊥) × (known_faulty (held_by facts) d.0 ≡ None) = open_pin fault (known_faulty (held_by facts)) (drivers_of net y.0) y.0 q d.0 reads p.1.1 in
      record {
        gives = (j.0, v, v, j.1.0, p.0, ap (λ os. value_back j.0 v os q) (sym (faulty_pins net fault (held_by facts) y.0)) ∙ junction_back_kind j.0 c v faulties q j.1.1 ∙ p.1.0, open'.0, reads, refl);
        new = faulty_not (held_by facts) free d.0 v (λ e. let none : known_faulty (held_by facts) d.0 ≡ None = open'.1 in cc);
        live = driver_live net formed y.0 q d.0 reads;
      }

  pub faulty_done : IsPull c faulties (known_faulty (held_by facts) y.0) None → AreDoneFaulty net fault facts y
  faulty_done p = (forward, back)
    where
      forward : IsDone net fault facts (FaultyForward y)
      forward x fact h =
          let same : h.0 ≡ j.0 = kind_once net y.0 j.0 h.0 j.1.0 (subst (λ n. IsKind net n h.0) h.4 h.2) in
          let here : value_forward h.0 (faulty_reads net fault Some (known_faulty (held_by facts)) y.0) ≡ Some h.1 = subst (λ n. value_forward h.0 (faulty_reads net fault Some (known_faulty (held_by facts)) n) ≡ Some h.1) h.4 h.3 in
          let follows : value_forward j.0 faulties ≡ Some h.1 = ap (λ os. value_forward j.0 os) (faulty_pins net fault (held_by facts) y.0) ∙ subst (λ k. value_forward k (faulty_reads net fault Some (known_faulty (held_by facts)) y.0) ≡ Some h.1) same here in
          rw (h.4, h.5) (faulty_held (held_by facts) y.0 h.1 (p.0 h.1 (sym (junction_kind j.0 c faulties j.1.1) ∙ follows)))

      back : (q : ℕ) → IsDone net fault facts (FaultyBack y q)
      back q x fact h =
          let same : h.0 ≡ j.0 = kind_once net y.0 j.0 h.0 j.1.0 h.3 in
          let follows : value_back j.0 h.1 faulties q ≡ Some h.2 = ap (λ os. value_back j.0 h.1 os q) (faulty_pins net fault (held_by facts) y.0) ∙ subst (λ k. value_back k h.1 (faulty_reads net fault Some (known_faulty (held_by facts)) y.0) q ≡ Some h.2) same h.5 in
          rw h.8
          (faulty_held (held_by facts) x h.2 (p.1 h.1 h.2 q (known_faulty (held_by facts) x) h.4 (sym (junction_back_kind j.0 c h.1 faulties q j.1.1) ∙ follows) (pin_read fault (known_faulty (held_by facts)) (drivers_of net y.0) y.0 q x h.7 h.6)))

-- GATES THAT ARE EQUAL OR DIFFER
module _ (net : Net) (fault : Fault) (facts : List NodeFacts) (formed : IsWellFormed net) (free : IsClashFree (held_by facts)) (y : NodeId) where
  abbrev equals : List (Option Bool)
  equals = pins_of None OfEqual (held_by facts) (drivers_of net y.0)

  pub equal_gate : (v : Bool) → IsGate net y.0 → y.0 ≢ fault.gate.0 → IsEqualPull equals (known_equal (held_by facts) y.0) (Some (Gate v)) → IsFresh net fault facts (record { line = EqualForward y; node = y; fact = Equal })
  equal_gate v gate ne p = record { gives = (gate, ne, p.0, refl, refl); new = equal_not (held_by facts) free y.0 p.1; live = (gate.0, gate.1.0) }

  pub equal_pin : (q : ℕ) (d : NodeId) (v : Bool) → IsGate net y.0 → y.0 ≢ fault.gate.0 → IsEqualPull equals (known_equal (held_by facts) y.0) (Some (Pin q v)) → Reads net y.0 q d.0 → IsFresh net fault facts (record { line = DiffersBack y q; node = d; fact = Differs })
  equal_pin q d v gate ne p reads = record {
    gives = (gate, ne, p.0, p.1.0, reads, refl);
    new = differs_not (held_by facts) free d.0 (λ e. let none : known_equal (held_by facts) d.0 ≡ None = some_same (sym (map_at (known_equal (held_by facts)) (drivers_of net y.0) q d.0 reads) ∙ p.1.1) in cc);
    live = driver_live net formed y.0 q d.0 reads;
  }

  pub equal_done : IsEqualPull equals (known_equal (held_by facts) y.0) None → AreDoneEqual net fault facts y
  equal_done p = (
    λ x fact h. rw (h.3, h.4) (equal_held (held_by facts) y.0 (p.0 (subst (λ n. IsTrue (list_all (is_known true) (map (known_equal (held_by facts)) (drivers_of net n)))) h.3 h.2))),
    λ q x fact h. rw h.5 (differs_held (held_by facts) x (p.1 q (known_equal (held_by facts) x) h.2 h.3 (map_at (known_equal (held_by facts)) (drivers_of net y.0) q x h.4))),
  )

  -- the faulty gate has none of these lines
  pub equal_at_fault : y.0 ≡ fault.gate.0 → AreDoneEqual net fault facts y
  equal_at_fault is = (λ x fact h. absurd (h.1 (h.3 ∙ is)), λ q x fact h. absurd (h.1 is))

  -- SIDES
  pub side_fresh : (c : Bool) (q : ℕ) (d : NodeId) → IsJunction net y.0 c → known_equal (held_by facts) y.0 ≡ Some false → Reads net y.0 q d.0 → IsOpenPin fault (held_by facts) y.0 q d.0 (not c) → IsFresh net fault facts (record { line = Side y q; node = d; fact = Good (not c) })
  side_fresh c q d j differs reads o = record {
    gives = (j.0, c, j.1.0, j.1.1, differs, o.0, o.1.0, reads, refl);
    new = good_not (held_by facts) free d.0 (not c) o.1.1;
    live = driver_live net formed y.0 q d.0 reads;
  }

  side_value : (c : Bool) (j : IsJunction net y.0 c) (k : Kind) (b : Bool) → IsKind net y.0 k → controlling k ≡ Some b → b ≡ c
  side_value c j k b is e = let same : k ≡ j.0 = kind_once net y.0 j.0 k j.1.0 is in some_same (sym e ∙ ap controlling same ∙ j.1.1)

  pub side_done : (c : Bool) → IsJunction net y.0 c → IsSide (drivers_of net y.0) fault (held_by facts) y.0 (not c) None → AreDoneSide net fault facts y
  side_done c j none q x fact h =
      let same : h.1 ≡ c = side_value c j h.0 h.1 h.2 h.3 in
      rw (h.8 ∙ ap (λ b. Good (not b)) same) (known_or (held_by facts) x (not c) (λ o. none q x h.7 (h.5, o)) h.6)
    where
      known_or : (held : Held) (x : ℕ) (b : Bool) → (IsOpenSide held x b → ⊥) → known_equal held x ≡ Some true → IsTrue (held x (Good b))
      known_or held x b never e = at (known_good held x) refl
        where
          open_at : known_good held x ≢ Some b → IsTrue (held x (Good b))
          open_at ne = absurd (never (e, ne))

          at : (o : Option Bool) → known_good held x ≡ o → IsTrue (held x (Good b))
          at None is = open_at (λ k. let wrong : None ≡ Some b = sym is ∙ k in cc)
          at (Some d) is = elim (bool_cases d b) [
            | inl same ↦ known_held held x b (is ∙ ap Some same)
            | inr other ↦ open_at (λ k. let two : d ≡ b = some_same (sym is ∙ k) in absurd (never_opposite b (sym two ∙ other)))
          ]

  pub side_none : known_equal (held_by facts) y.0 ≢ Some false → AreDoneSide net fault facts y
  side_none ne q x fact h = absurd (ne h.4)

-- WHERE A PULL IS
pub some_pin : (c : Bool) (os : List (Option Bool)) (known : Option Bool) (ds : List ℕ) (pull : Pull) → IsPull c os known (Some pull) → length os ≡ length ds → length ds ≤ 4294967295 → SomePin ds pull
some_pin c os known ds (Gate v) p same few = tt
some_pin c os known ds (Pin q v) p same few = (let within : q < length os = slice_get_within os q None p.1.1 in omega arith, few)

pub some_equal_pin : (os : List (Option Bool)) (known : Option Bool) (ds : List ℕ) (pull : Pull) → IsEqualPull os known (Some pull) → length os ≡ length ds → length ds ≤ 4294967295 → SomePin ds pull
some_equal_pin os known ds (Gate v) p same few = tt
some_equal_pin os known ds (Pin q v) p same few = (let within : q < length os = slice_get_within os q None p.1.1 in omega arith, few)

pub pulled_placed : (net : Net) (y : ℕ) (P : Option Pull → Type 0) (pull : Pull) (r : Pulled) → P (Some pull) → IsPlaced net y pull r → IsPulled net y P (Some r)
pulled_placed net y P (Gate v) (GateNode w) p is = subst (λ b. P (Some (Gate b))) (sym is) p
pulled_placed net y P (Gate v) (PinNode q d w) p is = absurd is
pulled_placed net y P (Pin k v) (GateNode w) p is = absurd is
pulled_placed net y P (Pin k v) (PinNode q d w) p is = (subst (λ n. P (Some (Pin n w))) (sym is.0) (subst (λ b. P (Some (Pin k b))) (sym is.1.0) p), is.1.1)

pub pulled_gate : (net : Net) (y : ℕ) (P : Option Pull → Type 0) (o : Option Pulled) (r : Pulled) (v : Bool) → o ≡ Some r → r ≡ GateNode v → IsPulled net y P o → P (Some (Gate v))
pulled_gate net y P None r v e is p = cc
pulled_gate net y P (Some t) r v e is p = subst (λ u. IsPulled net y P (Some u)) (some_same e ∙ is) p

pub pulled_pin : (net : Net) (y : ℕ) (P : Option Pull → Type 0) (o : Option Pulled) (r : Pulled) (q : ℕ) (d : NodeId) (v : Bool) → o ≡ Some r → r ≡ PinNode q d v → IsPulled net y P o → P (Some (Pin q v)) × Reads net y q d.0
pulled_pin net y P None r q d v e is p = cc
pulled_pin net y P (Some t) r q d v e is p = subst (λ u. IsPulled net y P (Some u)) (some_same e ∙ is) p

-- The values of a gated net, of its start and of its extract.
use Rattle.std.proofs.Common.{Bool, List, None, Option, Some, [], ap, arith, false, inl, inr, length, map, refl, subst, suc, sym, true, zero, ℕ, ◌+◌, ◌<◌, ◌∙◌, ◌∷◌, ◌≡◌, ◌≢◌, ◌≤◌}
use Rattle.std.specs.Prelude.{if◌then◌else◌, nat_eq, slice_get, slice_set}
use Rattle.std.proofs.lemmas.Bool.Decides.{eqb_tells}
use Rattle.gate_net.specs.Laws.{FaultyValuesExist, KeepsPlaces, ValuesExist}
use Rattle.gate_net.specs.Net.{IsAcyclic, Net, Node, Reads, drivers_in, drivers_of, node_at, plain_node}
use Rattle.gate_net.specs.Values.{AreFaultyValues, AreGoodValues, Detects, faulty_reads, gate_value, junction, node_value}
use Rattle.gate_net.specs.declared.Kind.{Kind}
use Rattle.gate_net.specs.declared.Kind.TheVariants.{One, Source, Zero}
use Rattle.gate_net.proofs.Public.{along_pins, reads_elsewhere}
use Rattle.joined_nets.specs.Joined.{both, first_gate}
use Rattle.rm_base.proofs.Public.{map_agree, map_at, map_found, same-in-map}
use Rattle.rm_base.specs.declared.numbers.Fault.{Fault}
use Rattle.care_opt.specs.Extract.{extract, new_number}
use Rattle.care_opt.specs.Gated.{care_node, gated_net, numbers_from}
use Rattle.care_opt.specs.Inner.Standing.{CanGate, IsGatedOver, IsNoMain}
use Rattle.care_opt.specs.Laws.{renumbered}
use Rattle.care_opt.proofs.Extracted.{LiveMain, drivers_same, lower, moved_live, number_found, number_there, same_of, seen_are}
use Rattle.care_opt.proofs.Numbering.{extract_at, main, main_at, number_stays}

-- only a source has the value that is assigned
assigned_same : (kind : Kind) (p q : Bool) (reads : List Bool) → (kind ≡ Source → p ≡ q) → gate_value kind p reads ≡ gate_value kind q reads
assigned_same Source p q reads h = h refl
assigned_same kind p q reads h = refl

through : (r s : ℕ → Bool) (g : ℕ → ℕ) (ds : List ℕ) → ((p d : ℕ) → slice_get ds p ≡ Some d → r (g d) ≡ s d) → map r (map g ds) ≡ map s ds
through r s g [] h = refl
through r s g (d ∷ ds) h = rw (h 0 d refl, through r s g ds (λ p x e. h (suc p) x e)) refl

and_true : (p q : Bool) → q ≡ true → junction false (p ∷ q ∷ []) ≡ p
and_true false q e = refl
and_true true q e = rw e refl

and_false : (p q : Bool) → q ≡ false → junction false (p ∷ q ∷ []) ≡ false
and_false false q e = refl
and_false true q e = rw e refl

plain_pin : (k : Kind) (p x : ℕ) → slice_get (drivers_in (plain_node k)) p ≡ Some x → ⊥
plain_pin k p x e = cc

module _ (one two : Net) (can : CanGate one two) (start : IsGatedOver one two (gated_net one two)) (net : Net) (over : IsGatedOver one two net) where
  abbrev b : ℕ
  b = length one.nodes

  abbrev e : ℕ
  e = length (both one two)

  abbrev S : Net
  S = gated_net one two

  abbrev f : ℕ → ℕ
  f = new_number (main b net)

  abbrev E : Net
  E = extract b net

  plain_there : (y : ℕ) → y < first_gate one → (k : Kind) × ((node_at net y ≡ plain_node k) × (node_at S y ≡ plain_node k))
  plain_there zero lt = (Zero, (over.formed.constants.zero_is, start.formed.constants.zero_is))
  plain_there (suc zero) lt = (One, (over.formed.constants.one_is, start.formed.constants.one_is))
  plain_there (suc (suc k)) lt =
      let same : 2 + k ≡ suc (suc k) = omega arith in
      let s = over.sources in
      let t = start.sources in (
        Source,
        (
          subst (λ (i : ℕ). node_at net i ≡ plain_node Source) same (over.formed.sources.first k (omega (arith, lt, s))),
          subst (λ (i : ℕ). node_at S i ≡ plain_node Source) same (start.formed.sources.first k (omega (arith, lt, t))),
        ),
      )

  apart_same : (y : ℕ) → IsNoMain one y → y < e → node_at net y ≡ node_at S y
  apart_same y (inl low) lt = let p = plain_there y low in p.1.0 ∙ sym p.1.1
  apart_same y (inr up) lt = over.theirs y up lt

  apart_reads : (y p x : ℕ) → IsNoMain one y → y < e → Reads S y p x → IsNoMain one x × (x < e)
  apart_reads y p x (inl low) lt reads = let there = plain_there y low in absurd (plain_pin there.0 p x (ap (λ (o : Option Node). slice_get (drivers_in o) p) (sym there.1.1) ∙ reads))
  apart_reads y p x (inr up) lt reads = can.apart y p x up lt reads

  -- the care model's part has the same values at the start and later
  pub care_values : (a u s : ℕ → Bool) → AreGoodValues S a u → AreGoodValues net a s → (y : ℕ) → IsNoMain one y → y < e → s y ≡ u y
  care_values a u s good later =
      along_pins S start.formed.acyclic (λ y. IsNoMain one y → y < e → s y ≡ u y)
      (λ y h apart lt. later y
      ∙ (ap (λ (o : Option Node). node_value o (a y) (map s (drivers_in o))) (apart_same y apart lt)
      ∙ (ap (λ (l : List Bool). node_value (node_at S y) (a y) l) (map_agree s u (drivers_of S y) (λ p x r. let q = apart_reads y p x apart lt r in h p x r q.0 q.1))
      ∙ sym (good y))))

  module _ (fault : Fault) (g_low : fault.gate.0 < b) (g_high : first_gate one ≤ fault.gate.0) where
    no_gate : (y : ℕ) → IsNoMain one y → y ≢ fault.gate.0
    no_gate y (inl low) is = omega (arith, low, is, g_high)
    no_gate y (inr up) is = omega (arith, up, is, g_low)

    -- and with a fault of a main gate
    pub faulty_care : (a u s : ℕ → Bool) → AreGoodValues S a u → AreFaultyValues net fault a s → (y : ℕ) → IsNoMain one y → y < e → s y ≡ u y
    faulty_care a u s good later =
        along_pins S start.formed.acyclic (λ y. IsNoMain one y → y < e → s y ≡ u y)
        (λ y h apart lt. later y
        ∙ (ap (λ (l : List Bool). node_value (node_at net y) (a y) l) (reads_elsewhere net fault (λ b. b) s y (no_gate y apart))
        ∙ (ap (λ (o : Option Node). node_value o (a y) (map s (drivers_in o))) (apart_same y apart lt)
        ∙ (ap (λ (l : List Bool). node_value (node_at S y) (a y) l) (map_agree s u (drivers_of S y) (λ p x r. let q = apart_reads y p x apart lt r in h p x r q.0 q.1))
        ∙ sym (good y)))))

    pub faulty_gate : (a s : ℕ → Bool) → AreFaultyValues net fault a s → (k x : ℕ) → slice_get one.observed k ≡ Some x → s (e + k) ≡ junction false (s (over.moved x) ∷ s (care_node one two) ∷ [])
    faulty_gate a s faulty k x at =
        faulty (e + k)
        ∙ (ap (λ (l : List Bool). node_value (node_at net (e + k)) (a (e + k)) l) (reads_elsewhere net fault (λ b. b) s (e + k) (λ is. let late = can.later in let low = g_low in omega (arith, is, late, low)))
        ∙ ap (λ (o : Option Node). node_value o (a (e + k)) (map s (drivers_in o))) (over.gates k x at))

  pub good_gate : (a s : ℕ → Bool) → AreGoodValues net a s → (k x : ℕ) → slice_get one.observed k ≡ Some x → s (e + k) ≡ junction false (s (over.moved x) ∷ s (care_node one two) ∷ [])
  good_gate a s good k x at = good (e + k) ∙ ap (λ (o : Option Node). node_value o (a (e + k)) (map s (drivers_in o))) (over.gates k x at)

  -- sources keep their numbers
  pub new_plain : (x : ℕ) → x ≤ first_gate one → f x ≡ x
  new_plain x le = number_stays (main b net) (first_gate one) x (λ y lt is. let there = plain_there y lt in let early = can.early in no_plain there.0 (sym there.1.0 ∙ (sym (main_at b net y (omega (arith, lt, early))) ∙ is))) le
    where
      no_plain : (k : Kind) → plain_node k ≡ None → ⊥
      no_plain k e = cc

  source_stays : (x : ℕ) (n : Node) → node_at net x ≡ Some n → n.kind ≡ Source → f x ≡ x
  source_stays x n is source =
      let bounds = over.formed.sources.only x (n.drivers, is ∙ ap (λ (k : Kind). let m : Node = record n { kind = k } in Some m) source) in
      let high = bounds.1 in let s = over.sources in
      new_plain x (omega (arith, high, s))

  -- main nodes have their values in the extract
  pub main_values : (a r s : ℕ → Bool) → AreGoodValues E a r → AreGoodValues net a s → (x : ℕ) → LiveMain b net x → r (f x) ≡ s x
  main_values a r s good later =
      along_pins net over.formed.acyclic (λ x. LiveMain b net x → r (f x) ≡ s x)
      (λ x h at. good (f x)
      ∙ (ap (λ (o : Option Node). node_value o (a (f x)) (map r (drivers_in o))) (extract_at b net x at.1.0 at.0 at.1.1)
      ∙ (assigned_same at.1.0.kind (a (f x)) (a x) (map r (map f at.1.0.drivers)) (λ source. ap a (source_stays x at.1.0 at.1.1 source))
      ∙ (ap (λ (l : List Bool). gate_value at.1.0.kind (a x) l) (through r s f at.1.0.drivers (λ p d e. let reads : Reads net x p d = ap (λ (o : Option Node). slice_get (drivers_in o) p) at.1.1 ∙ e in h p d reads (lower one two can net over x at.0 p d reads)))
      ∙ sym (later x ∙ ap (λ (o : Option Node). node_value o (a x) (map s (drivers_in o))) at.1.1)))))

  pub faulty_values : (fault : Fault) → LiveMain b net fault.gate.0 → (a r s : ℕ → Bool) → AreFaultyValues E (renumbered b net fault) a r → AreFaultyValues net fault a s → (x : ℕ) → LiveMain b net x → r (f x) ≡ s x
  faulty_values fault there a r s faulty later =
      along_pins net over.formed.acyclic (λ x. LiveMain b net x → r (f x) ≡ s x)
      (λ x h at.
      let drivers : map r (drivers_of E (f x)) ≡ map s (drivers_of net x) = ap (λ (ds : List ℕ). map r ds) (drivers_same b net x at) ∙ through r s f (drivers_of net x) (λ p d reads. h p d reads (lower one two can net over x at.0 p d reads)) in
      let reads : faulty_reads E (renumbered b net fault) (λ b. b) r (f x) ≡ faulty_reads net fault (λ b. b) s x =
      ap (λ (l : List Bool). if nat_eq (f x) (f fault.gate.0) then slice_set l fault.position fault.value else l) drivers
      ∙ ap (λ (t : Bool). if t then slice_set (map s (drivers_of net x)) fault.position fault.value else map s (drivers_of net x)) (test x at) in
      faulty (f x)
      ∙ (ap (λ (o : Option Node). node_value o (a (f x)) (faulty_reads E (renumbered b net fault) (λ b. b) r (f x))) (extract_at b net x at.1.0 at.0 at.1.1)
      ∙ (assigned_same at.1.0.kind (a (f x)) (a x) (faulty_reads E (renumbered b net fault) (λ b. b) r (f x)) (λ source. ap a (source_stays x at.1.0 at.1.1 source))
      ∙ (ap (λ (l : List Bool). gate_value at.1.0.kind (a x) l) reads ∙ sym (later x ∙ ap (λ (o : Option Node). node_value o (a x) (faulty_reads net fault (λ b. b) s x)) at.1.1)))))
    where
      test : (x : ℕ) → LiveMain b net x → nat_eq (f x) (f fault.gate.0) ≡ nat_eq x fault.gate.0
      test x at = elim (eqb_tells x fault.gate.0) [
        | inl t ↦ elim (eqb_tells (f x) (f fault.gate.0)) [ inl s ↦ s.0 ∙ sym t.0 | inr s ↦ absurd (s.1 (ap f t.1)) ]
        | inr t ↦ elim (eqb_tells (f x) (f fault.gate.0)) [ inl s ↦ absurd (t.1 (same_of b net x fault.gate.0 at there s.1)) | inr s ↦ s.0 ∙ sym t.0 ]
      ]

  -- where the care node is 1, the extract gives the first net's values
  pub on_care : (a u s r : ℕ → Bool) → AreGoodValues S a u → AreGoodValues net a s → AreGoodValues E a r → KeepsPlaces S net → ((k x : ℕ) → slice_get one.observed k ≡ Some x → u (e + k) ≡ junction false (u x ∷ u (care_node one two) ∷ [])) → u (care_node one two) ≡ true → map r E.observed ≡ map u one.observed
  on_care a u s r good later small keeps gates cared =
      ap (λ (xs : List ℕ). map r xs) (seen_are one two can net over)
      ∙ (through r s f (map over.moved one.observed) (λ p d at. placed p d at)
      ∙ through s u over.moved one.observed (λ k x at. each k x at))
    where
      care_same : s (care_node one two) ≡ true
      care_same = care_values a u s good later (care_node one two) can.care can.within ∙ cared

      places : map u (numbers_from e one.observed) ≡ map s (numbers_from e one.observed)
      places = keeps a u s good later ∙ ap (λ (xs : List ℕ). map s xs) over.observed

      each : (k x : ℕ) → slice_get one.observed k ≡ Some x → s (over.moved x) ≡ u x
      each k x at =
          sym (and_true (s (over.moved x)) (s (care_node one two)) care_same)
          ∙ (sym (good_gate a s later k x at)
          ∙ (sym (same-in-map u s (numbers_from e one.observed) k (e + k) places (number_there e one.observed k x at))
          ∙ (gates k x at ∙ and_true (u x) (u (care_node one two)) cared)))

      placed : (p d : ℕ) → slice_get (map over.moved one.observed) p ≡ Some d → r (f d) ≡ s d
      placed p d at =
          let x = map_found over.moved one.observed p d at in
          main_values a r s small later d (subst (λ (i : ℕ). LiveMain b net i) x.1.1 (moved_live one two can net over p x.0 x.1.0))

  -- a fault of a main gate is detected where the care node is 1, and then in the extract
  module _ (exist : ValuesExist) (faulty_exist : FaultyValuesExist) (acyclic : IsAcyclic E) (fault : Fault) (there : LiveMain b net fault.gate.0) (g_high : first_gate one ≤ fault.gate.0) (a : ℕ → Bool) where
    pub detected : Detects net fault a → Detects E (renumbered b net fault) a × ((u : ℕ → Bool) → AreGoodValues S a u → u (care_node one two) ≡ true)
    detected (v, (q, (run, (y, (seen, ne))))) = by_care (v (care_node one two)) refl
      where
        found : (x : ℕ) × ((slice_get one.observed seen.0 ≡ Some x) × (y ≡ e + seen.0))
        found = number_found e one.observed seen.0 y (ap (λ (xs : List ℕ). slice_get xs seen.0) (sym over.observed) ∙ seen.1)

        u : ℕ → Bool
        u = (exist S start.formed.acyclic a).0

        u_good : AreGoodValues S a u
        u_good = (exist S start.formed.acyclic a).1.0

        v_care : v (care_node one two) ≡ u (care_node one two)
        v_care = care_values a u v u_good run.good (care_node one two) can.care can.within

        q_care : q (care_node one two) ≡ u (care_node one two)
        q_care = faulty_care fault there.0 g_high a u q u_good run.faulty (care_node one two) can.care can.within

        v_gate : v y ≡ junction false (v (over.moved found.0) ∷ v (care_node one two) ∷ [])
        v_gate = ap v found.1.1 ∙ good_gate a v run.good seen.0 found.0 found.1.0

        q_gate : q y ≡ junction false (q (over.moved found.0) ∷ q (care_node one two) ∷ [])
        q_gate = ap q found.1.1 ∙ faulty_gate fault there.0 g_high a q run.faulty seen.0 found.0 found.1.0

        by_care : (c : Bool) → v (care_node one two) ≡ c → Detects E (renumbered b net fault) a × ((w : ℕ → Bool) → AreGoodValues S a w → w (care_node one two) ≡ true)
        by_care false is = absurd (ne (v_gate ∙ (and_false (v (over.moved found.0)) (v (care_node one two)) is ∙ sym (q_gate ∙ and_false (q (over.moved found.0)) (q (care_node one two)) (q_care ∙ (sym v_care ∙ is))))))
        by_care true is =
            let r = exist E acyclic a in
            let p = faulty_exist E (renumbered b net fault) acyclic a in
            let alive = moved_live one two can net over seen.0 found.0 found.1.0 in
            let r_same : r.0 (f (over.moved found.0)) ≡ v y = main_values a r.0 v r.1.0 run.good (over.moved found.0) alive ∙ sym (v_gate ∙ and_true (v (over.moved found.0)) (v (care_node one two)) is) in
            let p_same : p.0 (f (over.moved found.0)) ≡ q y =
            faulty_values fault there a p.0 q p.1.0 run.faulty (over.moved found.0) alive ∙ sym (q_gate ∙ and_true (q (over.moved found.0)) (q (care_node one two)) (q_care ∙ (sym v_care ∙ is))) in
            let at : slice_get E.observed seen.0 ≡ Some (f (over.moved found.0)) =
            ap (λ (xs : List ℕ). slice_get xs seen.0) (seen_are one two can net over) ∙ map_at f (map over.moved one.observed) seen.0 (over.moved found.0) (map_at over.moved one.observed seen.0 found.0 found.1.0) in (
              (r.0, (p.0, (record { good = r.1.0; faulty = p.1.0 }, (f (over.moved found.0), ((seen.0, at), λ same. ne (sym r_same ∙ (same ∙ p_same))))))),
              λ w w_good. sym (care_values a w v w_good run.good (care_node one two) can.care can.within) ∙ is,
            )

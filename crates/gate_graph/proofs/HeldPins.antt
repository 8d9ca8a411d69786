-- How many pins are linked, and how many are held beside them.
use Rattle.std.proofs.Common.{◌≡◌, ◌≢◌, ℕ, zero, suc, ◌+◌, ◌-◌, ◌<◌, ◌≤◌, true, inl, inr, List, [], ◌∷◌, length, refl, sym, ap, ◌∙◌, arith, length-append, None, Option}
use Rattle.std.specs.FinSet as finset
use Rattle.std.specs.Ordering.{nat_cmp}
use Rattle.std.specs.Cmp.{nat_cmp_total, unsigned_tied}
use Rattle.std.specs.FinSet.{contains-remove, same_set, nat_cmp-IsAntisymmetric, contains-empty, len-empty}
use Rattle.std.proofs.lemmas.Bool.{cases_Bool, cases_eq, false≢true, false_from_ne_true, or_left, or_right}
use Rattle.std.proofs.lemmas.Bool.Decides.{nat_tests}
use Rattle.std.proofs.lemmas.List.{get_or_past, length-map}
use Rattle.gate_net.specs.declared.Kind.{Kind}
use Rattle.gate_net.specs.Net.{Net, wire_count}
use Rattle.pin_pool.proofs.Public.{has-append, has-within, len-one_less, length-listed, length-put_after, linked-less, linked-more, linked-over, linked-same, no-pins-from, pins-at, pins-split}
use Rattle.pin_pool.specs.Ring.{has}
use Rattle.pin_pool.specs.Pins.{Pins, list_of}
use Rattle.pin_pool.specs.Rings.{rings_of, AreRings, IsLinked}
use Rattle.gate_graph.specs.declared.undo_list.Undo.{Undo}
use Rattle.gate_graph.specs.declared.undo_list.Undo.TheVariants.{Appended, Removed, Redriven, Moved, Made, Retired, Turned}
use Rattle.gate_graph.specs.Undoing.{CanTakeBack, taken_back}
use Rattle.gate_graph.proofs.KindAt.{kind-within}
use Rattle.gate_graph.specs.Wirings.{Wiring, wiring_of}
use Rattle.gate_graph.specs.Circuit.{Circuit, net_of, gate_pins, home, pins_taken}
use Rattle.gate_graph.specs.Inner.Circuit.{IsGraph}
use Rattle.gate_graph.specs.Holds.{held, held_by, pins_held, pins_made, HoldsOn}
use Rattle.gate_graph.specs.Inner.Filled.{IsFilled}
use Rattle.pin_pool.specs.Totals.{pins_from, linked_pins}
use Rattle.pin_pool.specs.Inner.Totals.{listed_pins}
use Rattle.gate_graph.proofs.NetOf.{observed-net}
use Rattle.gate_graph.proofs.Pinned.{dead-pins}
use Rattle.gate_graph.proofs.Counted.{wires-are, wires-few, same-pins, live-numbers}

-- THE LINKED PINS OF A POOL
module _ (v w : Pins) (size : length w.inputs ≡ length v.inputs) where
  -- the pins of a new gate are made
  pub linked-filled : (n : ℕ) (ds : List ℕ) → IsFilled v w n ds → n < length v.inputs → list_of v.inputs n ≡ [] → linked_pins w ≡ linked_pins v + length ds
  linked-filled n ds i within none =
      let f : ℕ → List ℕ = λ m. list_of v.inputs m in
      let g : ℕ → List ℕ = λ m. list_of w.inputs m in
      let here : length (g n) ≡ length (f n) + length ds = omega (arith, ap length none, sym (length-map (list_of w.inputs n) (home w.fanouts)), ap length i.homes) in
      linked-over v w size g refl ∙ pins-at f g n (length ds) 0 (length v.inputs) (omega arith) (omega arith) here (λ x ne. ap length (i.old_in x ne))

-- THE LINKED PINS OF A GRAPH
pub observed-counted : (v : Circuit) → length (net_of v).observed ≡ length (list_of v.pool.inputs 0)
observed-counted v = ap length (observed-net v) ∙ length-map (list_of v.pool.inputs 0) (home v.pool.fanouts)

pub wires-all : (v : Circuit) → IsGraph v → wire_count (net_of v) + length (net_of v).observed ≡ linked_pins v.pool
wires-all v g = by (length v.kinds) refl
  where
    by : (n : ℕ) → length v.kinds ≡ n → wire_count (net_of v) + length (net_of v).observed ≡ linked_pins v.pool
    by zero e = (let some = live-numbers v g.wired.shape in absurd (omega arith))
    by (suc n) e =
        let f : ℕ → List ℕ = λ m. list_of v.pool.inputs m in
        let wires = wires-are v g.wired.shape ∙ ap (pins_from (gate_pins v.pool) 0) e in
        let same = same-pins v.pool 1 n (omega arith) in
        let observed = ap length (observed-net v) ∙ length-map (list_of v.pool.inputs 0) (home v.pool.fanouts) in
        let k = length v.pool.inputs - suc n in
        let wide : length v.pool.inputs ≡ suc n + k = omega (arith, g.room, e) in
        let none = no-pins-from f (0 + suc n) k (λ j m at. ap length (dead-pins v g.wired.shape m (get_or_past v.kinds m None (omega (arith, at, e))))) in
        let all : linked_pins v.pool ≡ pins_from f 0 (suc n) = ap (pins_from f 0) wide ∙ omega (arith, pins-split f 0 (suc n) k, none) in
        omega (arith, wires, same, observed, all)

pub held-are : (v : Circuit) → AreRings (rings_of v.pool) → IsGraph v → pins_held v + linked_pins v.pool ≡ pins_taken v
held-are v r g =
    let few = wires-few v r g.wired.shape in
    let all = wires-all v g in
    omega (arith, few, all)

pub holds-by : (v w : Circuit) (es fs : List Undo) → AreRings (rings_of v.pool) → AreRings (rings_of w.pool) → IsGraph v → IsGraph w → pins_taken w + linked_pins v.pool + length (held es) ≡ pins_taken v + linked_pins w.pool + length (held fs) → HoldsOn v w es fs
holds-by v w es fs rv rw' gv gw e = omega (arith, held-are v rv gv, held-are w rw' gw, e)

-- the same where no undos are
pub held-by : (v w : Circuit) → AreRings (rings_of v.pool) → AreRings (rings_of w.pool) → IsGraph v → IsGraph w → pins_taken w + linked_pins v.pool ≡ pins_taken v + linked_pins w.pool → pins_held w ≡ pins_held v
held-by v w rv rw' gv gw e = omega (arith, held-are v rv gv, held-are w rw' gw, e)

pub held-kept : (v w : Circuit) → net_of w ≡ net_of v → pins_taken w ≡ pins_taken v → pins_held w ≡ pins_held v
held-kept v w net taken = omega (arith, taken, ap wire_count net, ap (λ (n : Net). length n.observed) net)

pub none-taken : (v : Circuit) → pins_taken v ≡ 0 → pins_held v ≡ 0
none-taken v e = omega (arith, e)

-- ONE ENTRY TAKEN BACK
pub linked-back : (kinds kinds' : List (Option Kind)) (v w : Pins) (e : Undo) → length w.inputs ≡ length v.inputs → AreRings (rings_of v) → length kinds ≤ length v.inputs → CanTakeBack (wiring_of kinds v) e → wiring_of kinds' w ≡ taken_back e (wiring_of kinds v) → linked_pins w + pins_made (e ∷ []) ≡ linked_pins v + length (held_by e)
linked-back kinds kinds' v w (Appended pin) size r room can is = omega (arith, linked-less v w size pin.0 r (ap (λ (x : Wiring). x.rings.inputs) is) can.0)
linked-back kinds kinds' v w (Made node pin) size r room can is = omega (arith, linked-less v w size pin.0 r (ap (λ (x : Wiring). x.rings.inputs) is) can.1.0)
linked-back kinds kinds' v w (Removed pin slot) size r room can is =
    let within : slot.gate < length kinds = kind-within kinds slot.gate can.1.1.1.0 in
    omega (arith, linked-more v w size slot.gate 1 _ (ap (λ (x : Wiring). x.rings.inputs) is) (omega (arith, within)) (length-put_after (list_of v.inputs slot.gate) slot.in_gate pin.0))
linked-back kinds kinds' v w (Turned pin slot kind) size r room can is =
    let within : slot.gate < length kinds = kind-within kinds slot.gate can.1.1.1.0 in
    omega (arith, linked-more v w size slot.gate 1 _ (ap (λ (x : Wiring). x.rings.inputs) is) (omega (arith, within)) (length-put_after (list_of v.inputs slot.gate) slot.in_gate pin.0))
linked-back kinds kinds' v w (Redriven pin slot) size r room can is = omega (arith, linked-same v w size (ap (λ (x : Wiring). x.rings.inputs) is))
linked-back kinds kinds' v w (Moved splice) size r room can is = omega (arith, linked-same v w size (ap (λ (x : Wiring). x.rings.inputs) is))
linked-back kinds kinds' v w (Retired node kind) size r room can is = omega (arith, linked-same v w size (ap (λ (x : Wiring). x.rings.inputs) is))

pub made-more : (e : Undo) (es : List Undo) → pins_made (e ∷ es) ≡ pins_made (e ∷ []) + pins_made es
made-more (Appended pin) es = omega arith
made-more (Made node pin) es = omega arith
made-more (Removed pin slot) es = omega arith
made-more (Redriven pin slot) es = omega arith
made-more (Moved splice) es = omega arith
made-more (Retired node kind) es = omega arith
made-more (Turned pin slot kind) es = omega arith

-- what undoing keeps
pub record IsUndoing (v : Pins) (es : List Undo) (w : Pins) (fs : List Undo) : Type 0 where
  pub free : w.spare + pins_made fs ≡ v.spare + pins_made es
  pub made : finset.len w.taken + pins_made es ≡ finset.len v.taken + pins_made fs
  pub held_pins : finset.len w.taken + linked_pins v + length (held es) ≡ finset.len v.taken + linked_pins w + length (held fs)

pub undoing-start : (v : Pins) (es : List Undo) → IsUndoing v es v es
undoing-start v es = record { free = refl; made = refl; held_pins = refl }

pub undoing-step : (kinds kinds' : List (Option Kind)) (u v w : Pins) (es fs gs : List Undo) (e : Undo) → IsUndoing u es v fs → fs ≡ e ∷ gs → length w.inputs ≡ length v.inputs → AreRings (rings_of v) → length kinds ≤ length v.inputs → CanTakeBack (wiring_of kinds v) e → wiring_of kinds' w ≡ taken_back e (wiring_of kinds v) → finset.len w.taken + pins_made (e ∷ []) ≡ finset.len v.taken → w.spare ≡ v.spare + pins_made (e ∷ []) → IsUndoing u es w gs
undoing-step kinds kinds' u v w es fs gs e i first size r room can is taken spare =
    let back = linked-back kinds kinds' v w e size r room can is in
    let made = ap pins_made first ∙ made-more e gs in
    let count = ap (λ (l : List Undo). length (held l)) first ∙ length-append (held_by e) (held gs) in
    record {
      free = omega (arith, i.free, spare, made);
      made = omega (arith, i.made, taken, made);
      held_pins = omega (arith, i.held_pins, taken, back, count);
    }

-- THE PINS OF A COPY
-- a set has no more numbers than a list that has them all
pub set-within : (s : finset.FinSet nat_cmp) (xs : List ℕ) → ((q : ℕ) → finset.contains s q ≡ true → has q xs ≡ true) → finset.len s ≤ length xs
set-within s [] h =
    let none : s ≡ finset.empty = same_set nat_cmp_total nat_cmp-IsAntisymmetric _ _ (λ q. false_from_ne_true _ (λ k. false≢true (h q k)) ∙ sym (contains-empty nat_cmp q)) in
    omega (arith, ap finset.len none, len-empty nat_cmp)
set-within s (x ∷ xs) h =
    let rest = set-within (finset.remove s x) xs (λ q k. (
    let read = contains-remove nat_cmp_total s x q in
    grind (arith, nat_tests, read, unsigned_tied q x, h q))) in
    elim (cases_Bool (finset.contains s x)) [
      | inl in' ↦ omega (arith, len-one_less s x in', rest)
      | inr out ↦
          let rest' = set-within s xs (λ q k. (
          let ne : q ≢ x = λ is. false≢true (sym out ∙ ap (λ (r : ℕ). finset.contains s r) (sym is) ∙ k) in
          let at = h q k in
          grind (arith, nat_tests, at, ne))) in
          omega (arith, rest')
    ]

listed-in : (f : ℕ → List ℕ) (first n m q : ℕ) → first ≤ m → m < first + n → has q (f m) ≡ true → has q (listed_pins f first n) ≡ true
listed-in f first zero m q le lt h = absurd (omega arith)
listed-in f first (suc n) m q le lt h = elim (cases_eq first m) [
  | inl is ↦ has-append (f first) (listed_pins f (suc first) n) q ∙ or_left _ _ (ap (λ x. has q (f x)) is ∙ h)
  | inr ne ↦ has-append (f first) (listed_pins f (suc first) n) q ∙ or_right _ _ (listed-in f (suc first) n m q (omega arith) (omega arith) h)
]

-- where only linked pins are taken, they are as many
pub taken-linked : (v : Pins) → AreRings (rings_of v) → ((q : ℕ) → finset.contains v.taken q ≡ true → IsLinked (rings_of v) q) → finset.len v.taken ≤ linked_pins v
taken-linked v r h =
    let f : ℕ → List ℕ = λ m. list_of v.inputs m in
    let few = set-within v.taken (listed_pins f 0 (length v.inputs)) (λ q k. (
    let at = h q k in
    listed-in f 0 (length v.inputs) at.0 q (omega arith) (let lt = has-within v.inputs at.0 q at.1 in omega (arith, lt)) at.1)) in
    omega (arith, few, length-listed f 0 (length v.inputs))

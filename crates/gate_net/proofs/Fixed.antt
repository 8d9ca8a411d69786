-- A pin that reads a constant instead keeps the values and the order.
use Rattle.std.proofs.Common.{Bool, List, Option, Some, [], ap, arith, false, inl, inr, map, refl, suc, sym, true, zero, ℕ, ◌<◌, ◌∙◌, ◌≡◌, ◌≤◌}
use Rattle.std.proofs.lemmas.Bool.Decides.{eqb_tells}
use Rattle.std.specs.Prelude.{slice_get, slice_set}
use Rattle.gate_net.proofs.AlongPins.{reads_elsewhere, reads_there}
use Rattle.gate_net.proofs.Edited.{live_reader, node_at-other, node_at-there, undetected_same}
use Rattle.gate_net.specs.Edits.{constant_node, fixed, with_drivers}
use Rattle.gate_net.specs.Laws.{FixesKeep, FixesKeepAcyclic}
use Rattle.gate_net.specs.Net.{HasConstants, Net, Node, Reads, drivers_in, drivers_of, node_at}
use Rattle.gate_net.specs.Values.{AreFaultyValues, AreGoodValues, faulty_reads, gate_value, node_value}
use Rattle.gate_net.specs.declared.Kind.{Kind}
use Rattle.gate_net.specs.declared.Kind.TheVariants.{One, Zero}
use Rattle.rm_base.specs.declared.numbers.Fault.{Fault}
use Rattle.rm_base.proofs.Public.{map_set, set_cases}

-- FIX: the good values of the net after are the faulty values of the net before
constant_value : (net : Net) → HasConstants net → (b : Bool) → (gate p x : ℕ) → Reads net gate p x → (drivers : List ℕ) (a w : ℕ → Bool) → AreGoodValues (with_drivers net gate drivers) a w → w (constant_node b) ≡ b
constant_value net constants true gate p x reads drivers a w good =
    good 1 ∙ ap (λ o. node_value o (a 1) (map w (drivers_in o))) (node_at-other net gate drivers 1 (λ e. let there : slice_get (drivers_of net 1) p ≡ Some x = rw e reads in let none : slice_get {X = ℕ} [] p ≡ Some x = rw constants.one_is at there in cc) ∙ constants.one_is)
constant_value net constants false gate p x reads drivers a w good =
    good 0 ∙ ap (λ o. node_value o (a 0) (map w (drivers_in o))) (node_at-other net gate drivers 0 (λ e. let there : slice_get (drivers_of net 0) p ≡ Some x = rw e reads in let none : slice_get {X = ℕ} [] p ≡ Some x = rw constants.zero_is at there in cc) ∙ constants.zero_is)

module _ (net : Net) (fault : Fault) (driver : ℕ) (constants : HasConstants net) (reads : Reads net fault.gate.0 fault.position driver) (a w : ℕ → Bool) (good : AreGoodValues (fixed net fault) a w) where
  abbrev gate : ℕ
  gate = fault.gate.0

  there : (n : Node) → node_at net gate ≡ Some n → w gate ≡ node_value (node_at net gate) (a gate) (faulty_reads net fault (λ b. b) w gate)
  there n is =
      good gate
      ∙ ap (λ o. node_value o (a gate) (map w (drivers_in o))) (node_at-there net gate (slice_set (drivers_of net gate) fault.position (constant_node fault.value)) n is)
      ∙ ap (gate_value n.kind (a gate)) (map_set w (drivers_of net gate) fault.position (constant_node fault.value)
      ∙ ap (slice_set (map w (drivers_of net gate)) fault.position) (constant_value net constants fault.value gate fault.position driver reads _ a w good)
      ∙ sym (reads_there net fault (λ b. b) w))
      ∙ ap (λ o. node_value o (a gate) (faulty_reads net fault (λ b. b) w gate)) (sym is)

  fixed_faulty : AreFaultyValues net fault a w
  fixed_faulty x = elim (eqb_tells x gate) [
    | inl t ↦ let n : (n : Node) × (node_at net gate ≡ Some n) = live_reader (node_at net gate) fault.position driver reads in rw t.1 (there n.0 n.1)
    | inr t ↦ good x ∙ ap (λ o. node_value o (a x) (map w (drivers_in o))) (node_at-other net gate _ x t.1)
        ∙ ap (node_value (node_at net x) (a x)) (sym (reads_elsewhere net fault (λ b. b) w x t.1))
  ]

pub fixes_keep : FixesKeep
fixes_keep net fault driver constants reads undetected a v w good after =
    undetected_same net fault undetected a v w (record { good = good; faulty = fixed_faulty net fault driver constants reads a w after })

-- RANKS AFTER A FIX
abbrev lifted : (ℕ → ℕ) → ℕ → ℕ
lifted rank zero = 0
lifted rank (suc zero) = 0
lifted rank (suc (suc x)) = suc (rank (suc (suc x)))

lifted_le : (rank : ℕ → ℕ) (x : ℕ) → lifted rank x ≤ suc (rank x)
lifted_le rank zero = omega arith
lifted_le rank (suc zero) = omega arith
lifted_le rank (suc (suc x)) = omega arith

lifted_constant : (rank : ℕ → ℕ) (b : Bool) → lifted rank (constant_node b) ≡ 0
lifted_constant rank true = refl
lifted_constant rank false = refl

no_pin : (o : Option Node) (kind : Kind) (p x : ℕ) → o ≡ Some (record { kind = kind; drivers = [] }) → slice_get (drivers_in o) p ≡ Some x → ⊥
no_pin o kind p x e there = let none : slice_get {X = ℕ} [] p ≡ Some x = rw e at there in cc

lifted_reader : (net : Net) (rank : ℕ → ℕ) → HasConstants net → (y p x : ℕ) → Reads net y p x → lifted rank y ≡ suc (rank y)
lifted_reader net rank constants zero p x reads = absurd (no_pin (node_at net 0) Zero p x constants.zero_is reads)
lifted_reader net rank constants (suc zero) p x reads = absurd (no_pin (node_at net 1) One p x constants.one_is reads)
lifted_reader net rank constants (suc (suc y)) p x reads = refl

pub fixes_keep_acyclic : FixesKeepAcyclic
fixes_keep_acyclic net fault driver constants stuck (rank, ranked) = (lifted rank, step)
  where
    old : (y p x : ℕ) → Reads net y p x → lifted rank x < lifted rank y
    old y p x reads =
        let below : rank x < rank y = ranked y p x reads in
        let le : lifted rank x ≤ suc (rank x) = lifted_le rank x in
        let is : lifted rank y ≡ suc (rank y) = lifted_reader net rank constants y p x reads in
        omega arith

    at_gate : (q x : ℕ) → slice_get (slice_set (drivers_of net fault.gate.0) fault.position (constant_node fault.value)) q ≡ Some x → lifted rank x < lifted rank fault.gate.0
    at_gate q x e = elim (set_cases (drivers_of net fault.gate.0) fault.position q (constant_node fault.value) x e) [
      | inl is ↦
          let nothing : lifted rank x ≡ 0 = rw is (lifted_constant rank fault.value) in
          let some : lifted rank fault.gate.0 ≡ suc (rank fault.gate.0) = lifted_reader net rank constants fault.gate.0 fault.position driver stuck in
          omega arith
      | inr before ↦ old fault.gate.0 q x before
    ]

    step : (y p x : ℕ) → Reads (fixed net fault) y p x → lifted rank x < lifted rank y
    step y p x reads = elim (eqb_tells y fault.gate.0) [
      | inl t ↦ let n : (n : Node) × (node_at net fault.gate.0 ≡ Some n) = live_reader (node_at net fault.gate.0) fault.position driver stuck in
          let there : slice_get (drivers_of (fixed net fault) fault.gate.0) p ≡ Some x = rw t.1 at reads in
          let now : slice_get (slice_set (drivers_of net fault.gate.0) fault.position (constant_node fault.value)) p ≡ Some x = rw (node_at-there net fault.gate.0 (slice_set (drivers_of net fault.gate.0) fault.position (constant_node fault.value)) n.0 n.1) at there in
          rw t.1 (at_gate p x now)
      | inr t ↦ let now : slice_get (drivers_of net y) p ≡ Some x = rw (node_at-other net fault.gate.0 (slice_set (drivers_of net fault.gate.0) fault.position (constant_node fault.value)) y t.1) at reads in old y p x now
    ]

-- How far a fault changes values.
use Rattle.std.proofs.Common.{Bool, List, [], ap, inl, inr, map, refl, sym, ℕ, ◌∙◌, ◌∷◌, ◌≡◌, ◌≢◌, ◌⊎◌}
use Rattle.std.proofs.lemmas.Bool.Decides.{eqb_tells}
use Rattle.std.specs.Prelude.{slice_set}
use Rattle.gate_net.proofs.AlongPins.{along_pins, reads_elsewhere, reads_there}
use Rattle.gate_net.specs.Laws.{ChainsDecide, IdlePinsChangeNothing, OutsideIsEqual}
use Rattle.gate_net.specs.Net.{IsAcyclic, IsObserved, Net, Reads, drivers_of, node_at}
use Rattle.gate_net.specs.Paths.{Among, ChainTo, Reaches, next, on, pin, start}
use Rattle.gate_net.specs.Values.{IsRun, SameObserved, faulty_reads, node_value}
use Rattle.rm_base.specs.declared.numbers.Fault.{Fault}
use Rattle.rm_base.proofs.Public.{map_agree, set_same}

module _ (net : Net) (fault : Fault) (a v f : ℕ → Bool) (run : IsRun net fault a v f) where
  -- a node that reads the same has the same value
  pub same_at : (y : ℕ) → faulty_reads net fault (λ b. b) f y ≡ map v (drivers_of net y) → v y ≡ f y
  same_at y e = run.good y ∙ ap (node_value (node_at net y) (a y)) (sym e) ∙ sym (run.faulty y)

  pub same_elsewhere : (y : ℕ) → y ≢ fault.gate.0 → ((p x : ℕ) → Reads net y p x → v x ≡ f x) → v y ≡ f y
  same_elsewhere y ne h = same_at y (reads_elsewhere net fault (λ b. b) f y ne ∙ sym (map_agree v f (drivers_of net y) h))

  -- where the stuck pin reads what it is stuck at, nothing changes
  pub same_idle : IsAcyclic net → (d : ℕ) → Reads net fault.gate.0 fault.position d → v d ≡ fault.value → (y : ℕ) → v y ≡ f y
  same_idle acyclic d reads idle = along_pins net acyclic (λ y. v y ≡ f y) step
    where
      step : (y : ℕ) → ((p x : ℕ) → Reads net y p x → v x ≡ f x) → v y ≡ f y
      step y h = elim (eqb_tells y fault.gate.0) [
        | inl t ↦ same_at y (rw t.1 (reads_there net fault (λ b. b) f
            ∙ ap (λ ys. slice_set ys fault.position fault.value) (sym (map_agree v f (drivers_of net fault.gate.0) (rw t.1 at h)))
            ∙ set_same v (drivers_of net fault.gate.0) fault.position d fault.value reads idle))
        | inr t ↦ same_elsewhere y t.1 h
      ]

  -- what the fault doesn't reach is equal
  pub same_outside : IsAcyclic net → (y : ℕ) → y ≢ fault.gate.0 → (Reaches net fault.gate.0 y → ⊥) → v y ≡ f y
  same_outside acyclic = along_pins net acyclic (λ y. y ≢ fault.gate.0 → (Reaches net fault.gate.0 y → ⊥) → v y ≡ f y) step
    where
      step : (y : ℕ) → ((p x : ℕ) → Reads net y p x → x ≢ fault.gate.0 → (Reaches net fault.gate.0 x → ⊥) → v x ≡ f x) → y ≢ fault.gate.0 → (Reaches net fault.gate.0 y → ⊥) → v y ≡ f y
      step y h ne away = same_elsewhere y ne (λ p x reads. h p x reads (λ e. away (pin p (rw e at reads))) (λ path. away (on p path reads)))

pub among_cases : (ys : List ℕ) (x : ℕ) → Among ys x ⊎ (Among ys x → ⊥)
among_cases [] x = inr (λ h. h)
among_cases (y ∷ ys) x = elim (eqb_tells x y) [
  | inl t ↦ inl (inl t.1)
  | inr t ↦ elim (among_cases ys x) [ inl h ↦ inl (inr h) | inr out ↦ inr (elim [ inl e ↦ t.1 e | inr h ↦ out h ]) ]
]

-- a chain begins with the gate
pub chain_start : {net : Net} {gate : ℕ} {before : List ℕ} {y : ℕ} → ChainTo net gate before y → (gate ≡ y) ⊎ Among before gate
chain_start start = inl refl
chain_start (next chain unobserved only) = inr (chain_start chain)

-- what reads a node of the chain is the next one
pub chain_reader : {net : Net} {gate : ℕ} {before : List ℕ} {y : ℕ} → ChainTo net gate before y → (x z p : ℕ) → Among before x → Reads net z p x → (z ≡ y) ⊎ Among before z
chain_reader start x z p among reads = elim among [ ]
chain_reader {net} (next chain unobserved only) x z p among reads = elim among [
  | inl e ↦ inl (only.only z p (rw e at reads))
  | inr earlier ↦ inr (chain_reader chain x z p earlier reads)
]

pub chain_unobserved : {net : Net} {gate : ℕ} {before : List ℕ} {y : ℕ} → ChainTo net gate before y → (x : ℕ) → Among before x → IsObserved net x → ⊥
chain_unobserved start x among observed = elim among [ ]
chain_unobserved {net} (next chain unobserved only) x among observed = elim among [
  | inl e ↦ unobserved (rw e at observed)
  | inr earlier ↦ chain_unobserved chain x earlier observed
]

module _ (net : Net) (fault : Fault) (a v f : ℕ → Bool) (run : IsRun net fault a v f) (before : List ℕ) (y : ℕ) (chain : ChainTo net fault.gate.0 before y) (same : v y ≡ f y) where
  -- where a node of the chain is equal, so is all beside the chain before it
  pub same_beside : IsAcyclic net → (z : ℕ) → (Among before z → ⊥) → v z ≡ f z
  same_beside acyclic = along_pins net acyclic (λ z. (Among before z → ⊥) → v z ≡ f z) step
    where
      driver : (z : ℕ) → ((p x : ℕ) → Reads net z p x → (Among before x → ⊥) → v x ≡ f x) → (Among before z → ⊥) → z ≢ y → (p x : ℕ) → Reads net z p x → v x ≡ f x
      driver z h beside ne p x reads = elim (among_cases before x) [
        | inl among ↦ elim (chain_reader chain x z p among reads) [ inl e ↦ absurd (ne e) | inr later ↦ absurd (beside later) ]
        | inr out ↦ h p x reads out
      ]

      no_gate : (z : ℕ) → (Among before z → ⊥) → z ≢ y → z ≢ fault.gate.0
      no_gate z beside ne e = elim (chain_start chain) [ inl at_end ↦ ne (e ∙ at_end) | inr among ↦ beside (rw e among) ]

      step : (z : ℕ) → ((p x : ℕ) → Reads net z p x → (Among before x → ⊥) → v x ≡ f x) → (Among before z → ⊥) → v z ≡ f z
      step z h beside = elim (eqb_tells z y) [
        | inl t ↦ rw t.1 same
        | inr t ↦ same_elsewhere net fault a v f run z (no_gate z beside t.1) (driver z h beside t.1)
      ]

  pub same_observed : IsAcyclic net → SameObserved net v f
  same_observed acyclic x observed = same_beside acyclic x (λ among. chain_unobserved chain x among observed)

pub outside_is_equal : OutsideIsEqual
outside_is_equal net fault acyclic a v f run = same_outside net fault a v f run acyclic

pub chains_decide : ChainsDecide
chains_decide net fault acyclic a v f run y chain same = same_observed net fault a v f run chain.0 y chain.1 same acyclic

pub idle_pins_change_nothing : IdlePinsChangeNothing
idle_pins_change_nothing net fault acyclic a v f run d reads idle = same_idle net fault a v f run acyclic d reads idle

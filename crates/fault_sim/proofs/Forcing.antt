-- What follows where a node is forced to a value.
use Rattle.std.proofs.Common.{Bool, ap, arith, false, inl, inr, refl, subst, sym, true, ℕ, ◌<◌, ◌∙◌, ◌≡◌, ◌≢◌, ◌≤◌}
use Rattle.std.proofs.lemmas.Bool.Decides.{eqb_tells}
use Rattle.std.specs.Prelude.{not}
use Rattle.fault_sim.specs.Observing.{AreForcedValues, IsObservable, IsSeenForced}
use Rattle.gate_net.proofs.Public.{along_pins, reads_agree, reads_elsewhere, same_elsewhere, values_unique}
use Rattle.gate_net.specs.Net.{IsAcyclic, Net, Reads, drivers_of, node_at}
use Rattle.gate_net.specs.Values.{AreFaultyValues, AreGoodValues, Detects, faulty_reads, node_value}
use Rattle.rm_base.specs.declared.numbers.Fault.{Fault}
use Rattle.rm_base.proofs.Public.{map_agree}

-- the value of the fault's gate, which reads the values v but at its stuck pin
abbrev pub stuck_value : Net → Fault → (ℕ → Bool) → (ℕ → Bool) → Bool
stuck_value net fault a v = node_value (node_at net fault.gate.0) (a fault.gate.0) (faulty_reads net fault (λ b. b) v fault.gate.0)

opposite : (b c : Bool) → b ≢ c → b ≡ not c
opposite true true ne = absurd (ne refl)
opposite true false ne = refl
opposite false true ne = refl
opposite false false ne = absurd (ne refl)

module _ (net : Net) (acyclic : IsAcyclic net) (a : ℕ → Bool) (x : ℕ) where
  -- there is one such valuation at most
  pub forced_unique : (b : Bool) (f g : ℕ → Bool) → AreForcedValues net x b a f → AreForcedValues net x b a g → (y : ℕ) → f y ≡ g y
  forced_unique b f g one other = along_pins net acyclic (λ y. f y ≡ g y) step
    where
      step : (y : ℕ) → ((p d : ℕ) → Reads net y p d → f d ≡ g d) → f y ≡ g y
      step y h = elim (eqb_tells y x) [
        | inl t ↦ ap f t.1 ∙ one.there ∙ sym other.there ∙ ap g (sym t.1)
        | inr t ↦ one.others y t.1 ∙ ap (node_value (node_at net y) (a y)) (map_agree f g (drivers_of net y) h) ∙ sym (other.others y t.1)
      ]

  -- the good values are those where the node is forced to its own
  pub good_is_forced : (v : ℕ → Bool) → AreGoodValues net a v → AreForcedValues net x (v x) a v
  good_is_forced v good = record { there = refl; others = λ y ne. good y }

  -- what isn't above the node keeps its good value
  pub kept_before : (b : Bool) (v f : ℕ → Bool) → AreGoodValues net a v → AreForcedValues net x b a f → (y : ℕ) → acyclic.0 y ≤ acyclic.0 x → y ≢ x → f y ≡ v y
  kept_before b v f good forced = along_pins net acyclic (λ y. acyclic.0 y ≤ acyclic.0 x → y ≢ x → f y ≡ v y) step
    where
      step : (y : ℕ) → ((p d : ℕ) → Reads net y p d → acyclic.0 d ≤ acyclic.0 x → d ≢ x → f d ≡ v d) → acyclic.0 y ≤ acyclic.0 x → y ≢ x → f y ≡ v y
      step y h le ne =
          forced.others y ne
          ∙ ap (node_value (node_at net y) (a y)) (map_agree f v (drivers_of net y) (λ p d reads.
          let less : acyclic.0 d < acyclic.0 y = acyclic.1 y p d reads in
          h p d reads (omega arith) (λ e. let same : acyclic.0 d ≡ acyclic.0 x = ap acyclic.0 e in absurd (omega arith))))
          ∙ sym (good y)

  pub driver_kept : (b : Bool) (v f : ℕ → Bool) → AreGoodValues net a v → AreForcedValues net x b a f → (p d : ℕ) → Reads net x p d → f d ≡ v d
  driver_kept b v f good forced p d reads =
      let less : acyclic.0 d < acyclic.0 x = acyclic.1 x p d reads in
      kept_before b v f good forced d (omega arith) (λ e. let same : acyclic.0 d ≡ acyclic.0 x = ap acyclic.0 e in absurd (omega arith))

  -- an observed node differs exactly where the value isn't the good one and the node is observable
  pub seen_is_observable : (b : Bool) (v : ℕ → Bool) → AreGoodValues net a v → IsSeenForced net x b a → (b ≢ v x) × IsObservable net x a
  seen_is_observable b v good seen =
      let differs : b ≢ v x = (λ e. changed e) in
      (differs, (v, (good, subst (λ c. IsSeenForced net x c a) (opposite b (v x) differs) seen)))
    where
      w : ℕ → Bool
      w = seen.0

      f : ℕ → Bool
      f = seen.1.0

      changed : b ≡ v x → ⊥
      changed e =
          let own : AreForcedValues net x b a v = record { there = sym e; others = λ y ne. good y } in
          let y : ℕ = seen.1.1.1.1.0 in
          let same : f y ≡ v y = forced_unique b f v seen.1.1.1.0 own y in
          let good_same : w y ≡ v y = values_unique net acyclic a w v seen.1.1.0 good y in
          seen.1.1.1.1.1.1 (good_same ∙ sym same)

  pub observable_is_seen : (b : Bool) (v : ℕ → Bool) → AreGoodValues net a v → b ≢ v x → IsObservable net x a → IsSeenForced net x b a
  observable_is_seen b v good differs observable =
      let same : observable.0 x ≡ v x = values_unique net acyclic a observable.0 v observable.1.0 good x in
      subst (λ c. IsSeenForced net x c a) (ap not same ∙ sym (opposite b (v x) differs)) observable.1.1

module _ (net : Net) (fault : Fault) (acyclic : IsAcyclic net) (a v : ℕ → Bool) (good : AreGoodValues net a v) where
  -- faulty values don't differ from the good ones before the gate
  faulty_before : (f : ℕ → Bool) → AreFaultyValues net fault a f → (y : ℕ) → acyclic.0 y ≤ acyclic.0 fault.gate.0 → y ≢ fault.gate.0 → v y ≡ f y
  faulty_before f faulty = along_pins net acyclic (λ y. acyclic.0 y ≤ acyclic.0 fault.gate.0 → y ≢ fault.gate.0 → v y ≡ f y) step
    where
      step : (y : ℕ) → ((p d : ℕ) → Reads net y p d → acyclic.0 d ≤ acyclic.0 fault.gate.0 → d ≢ fault.gate.0 → v d ≡ f d) → acyclic.0 y ≤ acyclic.0 fault.gate.0 → y ≢ fault.gate.0 → v y ≡ f y
      step y h le ne = same_elsewhere net fault a v f (record { good = good; faulty = faulty }) y ne (λ p d reads.
          let less : acyclic.0 d < acyclic.0 y = acyclic.1 y p d reads in
          h p d reads (omega arith) (λ e. let same : acyclic.0 d ≡ acyclic.0 fault.gate.0 = ap acyclic.0 e in absurd (omega arith)))

  -- faulty values are those where the gate is forced to the value that it has with its stuck pin
  pub faulty_is_forced : (f : ℕ → Bool) → AreFaultyValues net fault a f → AreForcedValues net fault.gate.0 (stuck_value net fault a v) a f
  faulty_is_forced f faulty = record {
    there = faulty fault.gate.0
        ∙ ap (node_value (node_at net fault.gate.0) (a fault.gate.0)) (reads_agree net fault (λ b. b) f v fault.gate.0 (λ p d reads.
        let less : acyclic.0 d < acyclic.0 fault.gate.0 = acyclic.1 fault.gate.0 p d reads in
        sym (faulty_before f faulty d (omega arith) (λ e. let same : acyclic.0 d ≡ acyclic.0 fault.gate.0 = ap acyclic.0 e in absurd (omega arith)))));
    others = λ y ne. faulty y ∙ ap (node_value (node_at net y) (a y)) (reads_elsewhere net fault (λ b. b) f y ne);
  }

  pub forced_is_faulty : (f : ℕ → Bool) → AreForcedValues net fault.gate.0 (stuck_value net fault a v) a f → AreFaultyValues net fault a f
  forced_is_faulty f forced y = elim (eqb_tells y fault.gate.0) [
    | inl t ↦ subst (λ z. f z ≡ node_value (node_at net z) (a z) (faulty_reads net fault (λ b. b) f z)) (sym t.1) here
    | inr t ↦ forced.others y t.1 ∙ ap (node_value (node_at net y) (a y)) (sym (reads_elsewhere net fault (λ b. b) f y t.1))
  ]
    where
      here : f fault.gate.0 ≡ node_value (node_at net fault.gate.0) (a fault.gate.0) (faulty_reads net fault (λ b. b) f fault.gate.0)
      here = forced.there
          ∙ ap (node_value (node_at net fault.gate.0) (a fault.gate.0)) (reads_agree net fault (λ b. b) v f fault.gate.0 (λ p d reads.
          sym (driver_kept net acyclic a fault.gate.0 (stuck_value net fault a v) v f good forced p d reads)))

  pub seen_is_detected : IsSeenForced net fault.gate.0 (stuck_value net fault a v) a → Detects net fault a
  seen_is_detected (w, (f, (good', (forced, (y, (obs, differs)))))) =
      (w, (f, (record { good = good'; faulty = forced_is_faulty f forced }, (y, (obs, differs)))))

  pub detected_is_seen : Detects net fault a → IsSeenForced net fault.gate.0 (stuck_value net fault a v) a
  detected_is_seen (w, (f, (run, (y, (obs, differs))))) =
      (w, (f, (run.good, (faulty_is_forced f run.faulty, (y, (obs, differs))))))

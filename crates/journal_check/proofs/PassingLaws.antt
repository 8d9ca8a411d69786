-- A vector that changes a gate is seen to do so whichever fault changes it, and one pin alone passes the change on.
use Rattle.std.proofs.Common.{◌≡◌, ◌≢◌, ◌<◌, ◌∙◌, ℕ, zero, suc, Bool, true, false, not, List, [], ◌∷◌, Some, map, ap, arith, inl, inr, refl, sym, subst}
use Rattle.std.proofs.lemmas.Bool.{eq-eqb, ne_eqb}
use Rattle.std.proofs.lemmas.Bool.Decides.{eqb_tells}
use Rattle.std.specs.Prelude.{if◌then◌else◌, nat_eq, slice_get, slice_set}
use Rattle.gate_net.proofs.Public.{along_pins, reads_elsewhere, reads_there, same_elsewhere, values_unique}
use Rattle.gate_net.specs.Net.{IsAcyclic, IsObserved, Net, Reads, drivers_of, node_at}
use Rattle.gate_net.specs.Values.{AreFaultyValues, AreGoodValues, Detects, IsRun, faulty_reads, node_value}
use Rattle.rm_base.proofs.Public.{map_agree}
use Rattle.rm_base.specs.declared.numbers.Fault.{Fault}
use Rattle.journal_check.specs.Inner.Tracing.{IsOnlyPin, IsShown, stuck_value}

-- two values that aren't a third are the same
pub other_value : (b c : Bool) → b ≢ c → b ≡ not c
other_value true true ne = absurd (ne refl)
other_value true false ne = refl
other_value false true ne = refl
other_value false false ne = absurd (ne refl)

not_same : (b : Bool) → b ≡ not b → ⊥
not_same true e = cc
not_same false e = cc

-- a pin that is set to what the other values have there
set_moves : (h f : ℕ → Bool) (ds : List ℕ) (q : ℕ) (b : Bool) → ((d : ℕ) → slice_get ds q ≡ Some d → f d ≡ b) → ((p d : ℕ) → p ≢ q → slice_get ds p ≡ Some d → h d ≡ f d)
    → slice_set (map h ds) q b ≡ map f ds
set_moves h f [] q b at others = refl
set_moves h f (d ∷ ds) zero b at others =
    let here : f d ≡ b = at d refl in
    let rest : map h ds ≡ map f ds = map_agree h f ds (λ p x e. others (suc p) x (λ z. cc) e) in
    rw (here, rest) refl
set_moves h f (d ∷ ds) (suc q) b at others =
    let here : h d ≡ f d = others 0 d (λ z. cc) refl in
    let rest : slice_set (map h ds) q b ≡ map f ds = set_moves h f ds q b (λ x e. at x e) (λ p x ne e. others (suc p) x (λ z. ne (let same : p ≡ q = cc in same)) e) in
    rw (here, rest) refl

-- the values with another one at a node
abbrev with_value : (ℕ → Bool) → ℕ → Bool → ℕ → Bool
with_value f x b z = if nat_eq z x then b else f z

with_there : (f : ℕ → Bool) (x : ℕ) (b : Bool) → with_value f x b x ≡ b
with_there f x b = rw (eq-eqb x x refl) refl

with_elsewhere : (f : ℕ → Bool) (x : ℕ) (b : Bool) (z : ℕ) → z ≢ x → with_value f x b z ≡ f z
with_elsewhere f x b z ne = rw (ne_eqb z x ne) refl

module _ (net : Net) (acyclic : IsAcyclic net) (a v : ℕ → Bool) (good : AreGoodValues net a v) where
  -- what has a smaller rank than the gate is equal
  below_same : (fault : Fault) (f : ℕ → Bool) → IsRun net fault a v f → (y : ℕ) → acyclic.0 y < acyclic.0 fault.gate.0 → v y ≡ f y
  below_same fault f run = along_pins net acyclic (λ y. acyclic.0 y < acyclic.0 fault.gate.0 → v y ≡ f y) step
    where
      step : (y : ℕ) → ((p x : ℕ) → Reads net y p x → acyclic.0 x < acyclic.0 fault.gate.0 → v x ≡ f x) → acyclic.0 y < acyclic.0 fault.gate.0 → v y ≡ f y
      step y h less =
          let ne : y ≢ fault.gate.0 = (λ e. let same : acyclic.0 y ≡ acyclic.0 fault.gate.0 = ap acyclic.0 e in omega (arith, less, same)) in
          same_elsewhere net fault a v f run y ne (λ p x reads. h p x reads (let up : acyclic.0 x < acyclic.0 y = acyclic.1 y p x reads in omega (arith, up, less)))

  -- the drivers of the gate are equal
  drivers_same : (fault : Fault) (f : ℕ → Bool) → IsRun net fault a v f → map v (drivers_of net fault.gate.0) ≡ map f (drivers_of net fault.gate.0)
  drivers_same fault f run = map_agree v f (drivers_of net fault.gate.0) (λ p x reads. below_same fault f run x (acyclic.1 fault.gate.0 p x reads))

  stuck_is : (fault : Fault) (f : ℕ → Bool) → IsRun net fault a v f → f fault.gate.0 ≡ stuck_value net fault a v
  stuck_is fault f run =
      run.faulty fault.gate.0
      ∙ ap (node_value (node_at net fault.gate.0) (a fault.gate.0)) (reads_there net fault (λ b. b) f
      ∙ ap (λ (bs : List Bool). slice_set bs fault.position fault.value) (sym (drivers_same fault f run)))

  -- a run over these good values
  over_good : (fault : Fault) → Detects net fault a → (f : ℕ → Bool) × (IsRun net fault a v f × ((x : ℕ) × (IsObserved net x × (v x ≢ f x))))
  over_good fault (w, (f, (run, (x, (seen, differs))))) =
      (f, (record { good = good; faulty = run.faulty }, (x, (seen, (λ e. differs (values_unique net acyclic a w v run.good good x ∙ e))))))

  -- a fault that doesn't change its gate isn't detected
  pub unchanged_hidden : (fault : Fault) → stuck_value net fault a v ≡ v fault.gate.0 → Detects net fault a → ⊥
  unchanged_hidden fault same detects =
      let over = over_good fault detects in
      let f : ℕ → Bool = over.0 in
      let run : IsRun net fault a v f = over.1.0 in
      over.1.1.1.1 (along_pins net acyclic (λ y. v y ≡ f y) (λ y h. elim (eqb_tells y fault.gate.0) [
        | inl t ↦ ap v t.1 ∙ sym same ∙ sym (stuck_is fault f run) ∙ ap f (sym t.1)
        | inr t ↦ same_elsewhere net fault a v f run y t.1 h
      ]) over.1.1.0)

  -- two faults that change a gate are detected alike
  pub changes_alike : (fault other : Fault) → other.gate.0 ≡ fault.gate.0 → stuck_value net other a v ≢ v other.gate.0 → Detects net fault a → Detects net other a
  changes_alike fault other there changes detects =
      let over = over_good fault detects in
      let f : ℕ → Bool = over.0 in
      let run : IsRun net fault a v f = over.1.0 in
      let changed : stuck_value net fault a v ≢ v fault.gate.0 = (λ e. unchanged_hidden fault e detects) in
      let value : f other.gate.0 ≡ stuck_value net other a v =
      ap f there ∙ stuck_is fault f run ∙ other_value (stuck_value net fault a v) (v fault.gate.0) changed ∙ ap (λ (z : ℕ). not (v z)) (sym there) ∙ sym (other_value (stuck_value net other a v) (v other.gate.0) changes) in
      let drivers : map v (drivers_of net other.gate.0) ≡ map f (drivers_of net other.gate.0) = subst (λ (z : ℕ). map v (drivers_of net z) ≡ map f (drivers_of net z)) (sym there) (drivers_same fault f run) in
      let faulty : AreFaultyValues net other a f = (λ y. elim (eqb_tells y other.gate.0) [
        | inl t ↦ subst (λ (z : ℕ). f z ≡ node_value (node_at net z) (a z) (faulty_reads net other (λ b. b) f z)) (sym t.1)
            (value ∙ ap (node_value (node_at net other.gate.0) (a other.gate.0)) (ap (λ (bs : List Bool). slice_set bs other.position other.value) drivers ∙ sym (reads_there net other (λ b. b) f)))
        | inr t ↦ run.faulty y ∙ ap (node_value (node_at net y) (a y)) (reads_elsewhere net fault (λ b. b) f y (λ e. t.1 (e ∙ sym there)) ∙ sym (reads_elsewhere net other (λ b. b) f y t.1))
      ]) in
      (v, (f, (record { good = good; faulty = faulty }, (over.1.1.0, (over.1.1.1.0, over.1.1.1.1)))))

  -- so all of them are detected where one is
  pub detected_shown : (fault : Fault) → Detects net fault a → IsShown net a fault.gate.0
  detected_shown fault detects w good_w other there changes =
      let same : (x : ℕ) → w x ≡ v x = values_unique net acyclic a w v good_w good in
      let values : stuck_value net other a w ≡ stuck_value net other a v =
      ap (λ (bs : List Bool). node_value (node_at net other.gate.0) (a other.gate.0) (slice_set bs other.position other.value)) (map_agree w v (drivers_of net other.gate.0) (λ p x reads. same x)) in
      changes_alike fault other there (λ e. changes (values ∙ e ∙ sym (same other.gate.0) ∙ ap w there)) detects

  module _ (fault next : Fault) (only : IsOnlyPin net fault.gate.0 next.gate.0 next.position) (value : next.value ≡ not (v fault.gate.0)) where
    later : acyclic.0 fault.gate.0 < acyclic.0 next.gate.0
    later = acyclic.1 next.gate.0 next.position fault.gate.0 only.reads

    apart : fault.gate.0 ≢ next.gate.0
    apart e = let same : acyclic.0 fault.gate.0 ≡ acyclic.0 next.gate.0 = ap acyclic.0 e in let less = later in omega (arith, less, same)

    -- what another gate reads isn't the gate
    unread : (z p d : ℕ) → z ≢ next.gate.0 → Reads net z p d → d ≢ fault.gate.0
    unread z p d ne reads e = ne (only.only z p (subst (λ (x : ℕ). Reads net z p x) e reads))

    -- nor is what its one reader reads at another pin
    unread_there : (p d : ℕ) → p ≢ next.position → Reads net next.gate.0 p d → d ≢ fault.gate.0
    unread_there p d ne reads e = ne (only.once p (subst (λ (x : ℕ). Reads net next.gate.0 p x) e reads))

    -- what the gate reads isn't the gate
    unread_here : (p d : ℕ) → Reads net fault.gate.0 p d → d ≢ fault.gate.0
    unread_here p d reads = unread fault.gate.0 p d apart reads

    at_pin : (d : ℕ) → Reads net next.gate.0 next.position d → d ≡ fault.gate.0
    at_pin d reads = let one : Some d ≡ Some fault.gate.0 = sym reads ∙ only.reads in cc

    -- the change goes on from the pin
    pub passed : stuck_value net fault a v ≢ v fault.gate.0 → Detects net fault a → Detects net next a
    passed changes detects = (v, (h, (record { good = good; faulty = faulty }, (x, (seen, (λ e. differs (e ∙ with_elsewhere f fault.gate.0 (v fault.gate.0) x not_gate)))))))
      where
        over : (f : ℕ → Bool) × (IsRun net fault a v f × ((x : ℕ) × (IsObserved net x × (v x ≢ f x))))
        over = over_good fault detects

        f : ℕ → Bool
        f = over.0

        run : IsRun net fault a v f
        run = over.1.0

        x : ℕ
        x = over.1.1.0

        seen : IsObserved net x
        seen = over.1.1.1.0

        differs : v x ≢ f x
        differs = over.1.1.1.1

        not_gate : x ≢ fault.gate.0
        not_gate e = only.unobserved (subst (λ (z : ℕ). IsObserved net z) e seen)

        h : ℕ → Bool
        h = with_value f fault.gate.0 (v fault.gate.0)

        others : (z : ℕ) → z ≢ fault.gate.0 → h z ≡ f z
        others = with_elsewhere f fault.gate.0 (v fault.gate.0)

        changed : f fault.gate.0 ≡ next.value
        changed = stuck_is fault f run ∙ other_value (stuck_value net fault a v) (v fault.gate.0) changes ∙ sym value

        reads_of : (z : ℕ) → z ≢ fault.gate.0 → faulty_reads net next (λ b. b) h z ≡ map f (drivers_of net z)
        reads_of z ne = elim (eqb_tells z next.gate.0) [
          | inl t ↦ subst (λ (y : ℕ). faulty_reads net next (λ b. b) h y ≡ map f (drivers_of net y)) (sym t.1)
              (reads_there net next (λ b. b) h
              ∙ set_moves h f (drivers_of net next.gate.0) next.position next.value (λ d reads. ap f (at_pin d reads) ∙ changed) (λ p d far reads. others d (unread_there p d far reads)))
          | inr t ↦ reads_elsewhere net next (λ b. b) h z t.1 ∙ map_agree h f (drivers_of net z) (λ p d reads. others d (unread z p d t.1 reads))
        ]

        at_gate : h fault.gate.0 ≡ node_value (node_at net fault.gate.0) (a fault.gate.0) (faulty_reads net next (λ b. b) h fault.gate.0)
        at_gate =
            with_there f fault.gate.0 (v fault.gate.0) ∙ good fault.gate.0
            ∙ ap (node_value (node_at net fault.gate.0) (a fault.gate.0))
            (drivers_same fault f run ∙ sym (map_agree h f (drivers_of net fault.gate.0) (λ p d reads. others d (unread_here p d reads))) ∙ sym (reads_elsewhere net next (λ b. b) h fault.gate.0 apart))

        faulty : AreFaultyValues net next a h
        faulty z = elim (eqb_tells z fault.gate.0) [
          | inl t ↦ subst (λ (y : ℕ). h y ≡ node_value (node_at net y) (a y) (faulty_reads net next (λ b. b) h y)) (sym t.1) at_gate
          | inr t ↦ others z t.1 ∙ run.faulty z ∙ ap (node_value (node_at net z) (a z)) (reads_elsewhere net fault (λ b. b) f z t.1 ∙ sym (reads_of z t.1))
        ]

    -- and the change of the pin comes from it
    pub passed_back : stuck_value net fault a v ≢ v fault.gate.0 → Detects net next a → Detects net fault a
    passed_back changes detects = (v, (h, (record { good = good; faulty = faulty }, (x, (seen, (λ e. differs (e ∙ others x not_gate)))))))
      where
        over : (f : ℕ → Bool) × (IsRun net next a v f × ((x : ℕ) × (IsObserved net x × (v x ≢ f x))))
        over = over_good next detects

        f : ℕ → Bool
        f = over.0

        run : IsRun net next a v f
        run = over.1.0

        x : ℕ
        x = over.1.1.0

        seen : IsObserved net x
        seen = over.1.1.1.0

        differs : v x ≢ f x
        differs = over.1.1.1.1

        not_gate : x ≢ fault.gate.0
        not_gate e = only.unobserved (subst (λ (z : ℕ). IsObserved net z) e seen)

        h : ℕ → Bool
        h = with_value f fault.gate.0 next.value

        others : (z : ℕ) → z ≢ fault.gate.0 → h z ≡ f z
        others = with_elsewhere f fault.gate.0 next.value

        reads_of : (z : ℕ) → z ≢ fault.gate.0 → faulty_reads net next (λ b. b) f z ≡ map h (drivers_of net z)
        reads_of z ne = elim (eqb_tells z next.gate.0) [
          | inl t ↦ subst (λ (y : ℕ). faulty_reads net next (λ b. b) f y ≡ map h (drivers_of net y)) (sym t.1)
              (reads_there net next (λ b. b) f
              ∙ set_moves f h (drivers_of net next.gate.0) next.position next.value (λ d reads. ap h (at_pin d reads) ∙ with_there f fault.gate.0 next.value) (λ p d far reads. sym (others d (unread_there p d far reads))))
          | inr t ↦ reads_elsewhere net next (λ b. b) f z t.1 ∙ sym (map_agree h f (drivers_of net z) (λ p d reads. others d (unread z p d t.1 reads)))
        ]

        -- the gate's drivers have smaller ranks than the next gate
        drivers_good : map v (drivers_of net fault.gate.0) ≡ map h (drivers_of net fault.gate.0)
        drivers_good =
            map_agree v h (drivers_of net fault.gate.0)
            (λ p d reads. below_same next f run d (let up : acyclic.0 d < acyclic.0 fault.gate.0 = acyclic.1 fault.gate.0 p d reads in let less = later in omega (arith, up, less)) ∙ sym (others d (unread_here p d reads)))

        at_gate : h fault.gate.0 ≡ node_value (node_at net fault.gate.0) (a fault.gate.0) (faulty_reads net fault (λ b. b) h fault.gate.0)
        at_gate =
            with_there f fault.gate.0 next.value ∙ value ∙ sym (other_value (stuck_value net fault a v) (v fault.gate.0) changes)
            ∙ ap (node_value (node_at net fault.gate.0) (a fault.gate.0)) (ap (λ (bs : List Bool). slice_set bs fault.position fault.value) drivers_good ∙ sym (reads_there net fault (λ b. b) h))

        faulty : AreFaultyValues net fault a h
        faulty z = elim (eqb_tells z fault.gate.0) [
          | inl t ↦ subst (λ (y : ℕ). h y ≡ node_value (node_at net y) (a y) (faulty_reads net fault (λ b. b) h y)) (sym t.1) at_gate
          | inr t ↦ others z t.1 ∙ run.faulty z ∙ ap (node_value (node_at net z) (a z)) (reads_of z t.1 ∙ sym (reads_elsewhere net fault (λ b. b) h z t.1))
        ]

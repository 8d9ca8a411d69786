-- What passes through the only reader of a node.
use Rattle.std.proofs.Common.{Bool, IsTrue, List, ap, arith, false, inl, inr, length, map, refl, subst, sym, true, ℕ, ◌<◌, ◌∙◌, ◌≡◌, ◌≢◌, ◌≤◌}
use Rattle.std.proofs.lemmas.Bool.{eq-eqb, ne_eqb}
use Rattle.std.proofs.lemmas.Bool.Decides.{eqb_tells}
use Rattle.std.specs.Prelude.{bit_and, bit_xor, not, slice_index}
use Rattle.fault_sim.proofs.Forcing.{driver_kept, observable_is_seen, seen_is_observable}
use Rattle.fault_sim.specs.Inner.Chaining.{passed_word, replaced}
use Rattle.fault_sim.specs.Observing.{AreForcedValues, IsObservability, IsObservable, IsSeenForced}
use Rattle.gate_net.proofs.Public.{along_pins, values_unique}
use Rattle.gate_net.specs.Net.{IsAcyclic, IsObserved, Net, Reads, drivers_of, node_at}
use Rattle.gate_net.specs.Paths.{IsOnlyReader}
use Rattle.gate_net.specs.Values.{AreGoodValues, node_value}
use Rattle.fault_sim.proofs.LaneLaws.{lane_and, lane_node, lane_not, lane_xor, lane_zero, map_twice}
use Rattle.fault_sim.proofs.Seeing.{differs_xor, xor_differs}
use Rattle.fault_sim.proofs.Spreads.{rested_word, stamped_after, word_elsewhere, word_there}
use Rattle.fault_sim.specs.Inner.Spreading.{IsRested, IsSized, IsStamped, IsWritten, spread_word}
use Rattle.fault_sim.specs.Inner.Words.{node_word}
use Rattle.fault_sim.specs.Pending.{IsIdle, is_pending}
use Rattle.fault_sim.specs.Words.{all_ones, assigned_word, assignment, lane, lane_values}
use Rattle.fault_sim.specs.declared.spread.Spread.{Spread}
use Rattle.rm_base.proofs.Public.{and_first, and_second, both_and, map_agree, map_pointwise}

pub replaced_there : {A : Type 0} (f : ℕ → A) (x : ℕ) (b : A) → replaced f x b x ≡ b
replaced_there f x b = rw (eq-eqb x x refl) refl

pub replaced_elsewhere : {A : Type 0} (f : ℕ → A) (x d : ℕ) (b : A) → d ≢ x → replaced f x b d ≡ f d
replaced_elsewhere f x d b ne = rw (ne_eqb d x ne) refl

-- what the reader has where the node has the opposite of its good value
abbrev pub passed_value : Net → ℕ → ℕ → (ℕ → Bool) → (ℕ → Bool) → Bool
passed_value net x y a v = node_value (node_at net y) (a y) (map (replaced v x (not (v x))) (drivers_of net y))

module _ (net : Net) (acyclic : IsAcyclic net) (a : ℕ → Bool) (x y : ℕ) (unobserved : IsObserved net x → ⊥) (only : IsOnlyReader net x y) (v : ℕ → Bool) (good : AreGoodValues net a v) where
  below : acyclic.0 x < acyclic.0 y
  below = acyclic.1 y only.reads.0 x only.reads.1

  reader_other : y ≢ x
  reader_other e = let same : acyclic.0 y ≡ acyclic.0 x = ap acyclic.0 e in let less = below in absurd (omega arith)

  -- no other node sees what the node has
  apart_from : {A : Type 0} (f : ℕ → A) (b : A) (d : ℕ) → d ≢ y → map f (drivers_of net d) ≡ map (replaced f x b) (drivers_of net d)
  apart_from f b d ne = map_agree f (replaced f x b) (drivers_of net d) (λ p e reads. sym (replaced_elsewhere f x e b (λ same. ne (only.only d p (subst (λ z. Reads net d p z) same reads)))))

  observed_other : (z : ℕ) → IsObserved net z → z ≢ x
  observed_other z obs e = unobserved (subst (λ u. IsObserved net u) e obs)

  -- where the reader is forced to what passes, the node may have been forced
  pub reader_to_node : IsSeenForced net y (passed_value net x y a v) a → IsObservable net x a
  reader_to_node (w, (f, (good', (forced, (z, (obs, differs)))))) =
      (v, (good, (w, (replaced f x (not (v x)), (good', (record { there = replaced_there f x (not (v x)); others = others }, (z, (obs, (λ e. differs (e ∙ replaced_elsewhere f x z (not (v x)) (observed_other z obs)))))))))))
    where
      driver : (p e : ℕ) → Reads net y p e → replaced v x (not (v x)) e ≡ replaced f x (not (v x)) e
      driver p e reads = elim (eqb_tells e x) [
        | inl t ↦ ap (replaced v x (not (v x))) t.1 ∙ replaced_there v x (not (v x)) ∙ sym (replaced_there f x (not (v x))) ∙ ap (replaced f x (not (v x))) (sym t.1)
        | inr t ↦ replaced_elsewhere v x e (not (v x)) t.1 ∙ sym (driver_kept net acyclic a y (passed_value net x y a v) v f good forced p e reads) ∙ sym (replaced_elsewhere f x e (not (v x)) t.1)
      ]

      others : (d : ℕ) → d ≢ x → replaced f x (not (v x)) d ≡ node_value (node_at net d) (a d) (map (replaced f x (not (v x))) (drivers_of net d))
      others d ne = elim (eqb_tells d y) [
        | inl t ↦ subst (λ u. replaced f x (not (v x)) u ≡ node_value (node_at net u) (a u) (map (replaced f x (not (v x))) (drivers_of net u))) (sym t.1)
            (replaced_elsewhere f x y (not (v x)) reader_other
            ∙ forced.there
            ∙ ap (node_value (node_at net y) (a y)) (map_agree (replaced v x (not (v x))) (replaced f x (not (v x))) (drivers_of net y) driver))
        | inr t ↦ replaced_elsewhere f x d (not (v x)) ne ∙ forced.others d t.1 ∙ ap (node_value (node_at net d) (a d)) (apart_from f (not (v x)) d t.1)
      ]

  -- below the reader all but the node keep their good values
  kept_below : (b : Bool) (f : ℕ → Bool) → AreForcedValues net x b a f → (e : ℕ) → e ≢ x → e ≢ y → acyclic.0 e ≤ acyclic.0 y → f e ≡ v e
  kept_below b f forced = along_pins net acyclic (λ e. e ≢ x → e ≢ y → acyclic.0 e ≤ acyclic.0 y → f e ≡ v e) step
    where
      step : (e : ℕ) → ((p d : ℕ) → Reads net e p d → d ≢ x → d ≢ y → acyclic.0 d ≤ acyclic.0 y → f d ≡ v d) → e ≢ x → e ≢ y → acyclic.0 e ≤ acyclic.0 y → f e ≡ v e
      step e h nx ny le =
          forced.others e nx
          ∙ ap (node_value (node_at net e) (a e)) (map_agree f v (drivers_of net e) (λ p d reads.
          let less : acyclic.0 d < acyclic.0 e = acyclic.1 e p d reads in
          h p d reads (λ same. ny (only.only e p (subst (λ z. Reads net e p z) same reads))) (λ same. let ranks : acyclic.0 d ≡ acyclic.0 y = ap acyclic.0 same in absurd (omega arith)) (omega arith)))
          ∙ sym (good e)

  pub node_to_reader : IsObservable net x a → IsSeenForced net y (passed_value net x y a v) a
  node_to_reader (u, (good_u, (w, (f, (good', (forced_u, (z, (obs, differs)))))))) =
      (w, (replaced f x (v x), (good', (record { there = there; others = others }, (z, (obs, (λ e. differs (e ∙ replaced_elsewhere f x z (v x) (observed_other z obs)))))))))
    where
      forced : AreForcedValues net x (not (v x)) a f
      forced = subst (λ b. AreForcedValues net x (not b) a f) (values_unique net acyclic a u v good_u good x) forced_u

      driver : (p e : ℕ) → Reads net y p e → f e ≡ replaced v x (not (v x)) e
      driver p e reads =
          let less : acyclic.0 e < acyclic.0 y = acyclic.1 y p e reads in
          elim (eqb_tells e x) [
            | inl t ↦ ap f t.1 ∙ forced.there ∙ sym (replaced_there v x (not (v x))) ∙ ap (replaced v x (not (v x))) (sym t.1)
            | inr t ↦ kept_below (not (v x)) f forced e t.1 (λ same. let ranks : acyclic.0 e ≡ acyclic.0 y = ap acyclic.0 same in absurd (omega arith)) (omega arith) ∙ sym (replaced_elsewhere v x e (not (v x)) t.1)
          ]

      there : replaced f x (v x) y ≡ passed_value net x y a v
      there = replaced_elsewhere f x y (v x) reader_other ∙ forced.others y reader_other ∙ ap (node_value (node_at net y) (a y)) (map_agree f (replaced v x (not (v x))) (drivers_of net y) driver)

      own : (p e : ℕ) → Reads net x p e → v e ≡ replaced f x (v x) e
      own p e reads =
          let less : acyclic.0 e < acyclic.0 x = acyclic.1 x p e reads in
          sym (driver_kept net acyclic a x (not (v x)) v f good forced p e reads) ∙ sym (replaced_elsewhere f x e (v x) (λ same. let ranks : acyclic.0 e ≡ acyclic.0 x = ap acyclic.0 same in absurd (omega arith)))

      others : (d : ℕ) → d ≢ y → replaced f x (v x) d ≡ node_value (node_at net d) (a d) (map (replaced f x (v x)) (drivers_of net d))
      others d ne = elim (eqb_tells d x) [
        | inl t ↦ subst (λ u. replaced f x (v x) u ≡ node_value (node_at net u) (a u) (map (replaced f x (v x)) (drivers_of net u))) (sym t.1)
            (replaced_there f x (v x) ∙ good x ∙ ap (node_value (node_at net x) (a x)) (map_agree v (replaced f x (v x)) (drivers_of net x) own))
        | inr t ↦ replaced_elsewhere f x d (v x) t.1 ∙ forced.others d t.1 ∙ ap (node_value (node_at net d) (a d)) (apart_from f (v x) d ne)
      ]

  -- the node is observable where it changes its only reader and that one is observable
  pub chain_observable : passed_value net x y a v ≢ v y → IsObservable net y a → IsObservable net x a
  chain_observable differs observable = reader_to_node (observable_is_seen net acyclic a y (passed_value net x y a v) v good differs observable)

  pub observable_chain : IsObservable net x a → (passed_value net x y a v ≢ v y) × IsObservable net y a
  observable_chain observable = seen_is_observable net acyclic a y (passed_value net x y a v) v good (node_to_reader observable)

module _ (net : Net) (words good : List ℕ) (acyclic : IsAcyclic net) (x y : ℕ) (unobserved : IsObserved net x → ⊥) (only : IsOnlyReader net x y)
    (values : (i : ℕ) → i < 64 → AreGoodValues net (assignment words i) (lane_values good i)) (seen : ℕ) (of_reader : IsObservability net words y seen) where
  lane_replaced : (i : ℕ) → i < 64 → (d : ℕ) → lane i (replaced (slice_index good) x (bit_xor (slice_index good x) all_ones) d) ≡ replaced (lane_values good i) x (not (lane_values good i x)) d
  lane_replaced i h d = elim (eqb_tells d x) [
    | inl t ↦ ap (λ (z : ℕ). lane i (replaced (slice_index good) x (bit_xor (slice_index good x) all_ones) z)) t.1
        ∙ ap (lane i) (replaced_there (slice_index good) x (bit_xor (slice_index good x) all_ones))
        ∙ lane_not i (slice_index good x) h
        ∙ sym (replaced_there (lane_values good i) x (not (lane_values good i x)))
        ∙ ap (replaced (lane_values good i) x (not (lane_values good i x))) (sym t.1)
    | inr t ↦ ap (lane i) (replaced_elsewhere (slice_index good) x d (bit_xor (slice_index good x) all_ones) t.1) ∙ sym (replaced_elsewhere (lane_values good i) x d (not (lane_values good i x)) t.1)
  ]

  lane_passed : (i : ℕ) → i < 64 → lane i (passed_word net words good x y) ≡ passed_value net x y (assignment words i) (lane_values good i)
  lane_passed i h =
      lane_node i h (node_at net y) (assigned_word words y) (map (replaced (slice_index good) x (bit_xor (slice_index good x) all_ones)) (drivers_of net y))
      ∙ ap (node_value (node_at net y) (assignment words i y))
      (map_twice i (replaced (slice_index good) x (bit_xor (slice_index good x) all_ones)) (drivers_of net y)
      ∙ map_pointwise (λ d. lane i (replaced (slice_index good) x (bit_xor (slice_index good x) all_ones) d)) (replaced (lane_values good i) x (not (lane_values good i x))) (lane_replaced i h) (drivers_of net y))

  -- a node is observable where it changes its only reader, and that one is
  pub chain_lanes : IsObservability net words x (bit_and (bit_xor (passed_word net words good x y) (slice_index good y)) seen)
  chain_lanes i h = (forth, back)
    where
      passed : ℕ
      passed = passed_word net words good x y

      own : ℕ
      own = slice_index good y

      forth : IsTrue (lane i (bit_and (bit_xor passed own) seen)) → IsObservable net x (assignment words i)
      forth yes' =
          let both = sym (lane_and i (bit_xor passed own) seen) ∙ yes' in
          let first : lane i (bit_xor passed own) ≡ true = and_first (lane i (bit_xor passed own)) (lane i seen) both in
          let second : lane i seen ≡ true = and_second (lane i (bit_xor passed own)) (lane i seen) both in
          chain_observable net acyclic (assignment words i) x y unobserved only (lane_values good i) (values i h)
          (λ e. xor_differs (lane i passed) (lane i own) (sym (lane_xor i passed own) ∙ first) (sym (lane_passed i h ∙ e)))
          ((of_reader i h).0 second)

      back : IsObservable net x (assignment words i) → IsTrue (lane i (bit_and (bit_xor passed own) seen))
      back observable =
          let is = observable_chain net acyclic (assignment words i) x y unobserved only (lane_values good i) (values i h) observable in
          let first : lane i (bit_xor passed own) ≡ true = lane_xor i passed own ∙ differs_xor (lane i passed) (lane i own) (λ e. is.0 (sym (lane_passed i h) ∙ sym e)) in
          lane_and i (bit_xor passed own) seen ∙ both_and (lane i (bit_xor passed own)) (lane i seen) first ((of_reader i h).1 is.1)

  -- nowhere, where the reader is nowhere observable
  pub chain_dark : seen ≡ 0 → IsObservability net words x 0
  chain_dark none i h = (
    (λ yes'. let never : lane i 0 ≡ false = lane_zero i in let ever : lane i 0 ≡ true = yes' in absurd (cc)),
    (λ observable. let is = observable_chain net acyclic (assignment words i) x y unobserved only (lane_values good i) (values i h) observable in
        ap (lane i) (sym none) ∙ (of_reader i h).1 is.1),
  )

-- what is read where a node has the opposite of its good word
pub passed_read : (net : Net) (words good : List ℕ) (s t : Spread) (p x y w : ℕ) → IsRested s → IsSized (length good) s → x < length good → IsWritten s t p x (bit_xor (slice_index good x) all_ones)
    → w ≡ node_word (node_at net y) (assigned_word words y) (map (spread_word good t) (drivers_of net y)) → w ≡ passed_word net words good x y
passed_read net words good s t p x y w rested sized within written right =
    right ∙ ap (node_word (node_at net y) (assigned_word words y)) (map_pointwise (spread_word good t) (replaced (slice_index good) x (bit_xor (slice_index good x) all_ones)) each (drivers_of net y))
  where
    each : (d : ℕ) → spread_word good t d ≡ replaced (slice_index good) x (bit_xor (slice_index good x) all_ones) d
    each d = elim (eqb_tells d x) [
      | inl e ↦ ap (spread_word good t) e.1 ∙ word_there good s t p x (bit_xor (slice_index good x) all_ones) sized within written
          ∙ sym (replaced_there (slice_index good) x (bit_xor (slice_index good x) all_ones)) ∙ ap (replaced (slice_index good) x (bit_xor (slice_index good x) all_ones)) (sym e.1)
      | inr e ↦ word_elsewhere good s t p x (bit_xor (slice_index good x) all_ones) d written e.1 ∙ rested_word good s rested d
          ∙ sym (replaced_elsewhere (slice_index good) x d (bit_xor (slice_index good x) all_ones) e.1)
    ]

-- nothing is pending where one place was taken off
pub still_rested : (s t : Spread) (p x w : ℕ) → IsRested s → IsWritten s t p x w → (k : ℕ) → IsIdle t.pending.items k
still_rested s t p x w rested written k = elim (eqb_tells k p) [
  | inl e ↦ ap (is_pending t.pending.items) e.1 ∙ written.pending.here
  | inr e ↦ written.pending.others k e.1 ∙ rested.idle k
]

pub written_stamped : (s t : Spread) (p x w : ℕ) → x < length s.stamps.items → IsRested s → IsWritten s t p x w → IsStamped t
written_stamped s t p x w within rested written =
    stamped_after s t t p x w within (record { positive = rested.positive; stamps = λ y. (let less = rested.stamps y in omega arith) }) written refl refl

-- Marks that a walk over readers sets.
use Rattle.std.proofs.Common.{◌≡◌, ℕ, zero, suc, ◌<◌, Bool, true, false, ◌⊎◌, inl, inr, Some, List, [], ◌∷◌, length, refl, sym, ◌∙◌, ap, arith}
use Rattle.std.specs.Prelude.{slice_get}
use Rattle.std.proofs.lemmas.Bool.{both_ways}
use Rattle.gate_net.specs.Net.{Net, node_at, drivers_in, Reads, IsWellFormed}
use Rattle.gate_graph.specs.Circuit.{Circuit, net_of}
use Rattle.gate_graph.specs.Readers.{ListReaders}
use Rattle.wire_edit.specs.Tests.{is_live, is_not}
use Rattle.wire_edit.specs.Inner.Marked.{is_marked, KeepsMarks}
use Rattle.wire_edit.specs.Inner.Touched.{IsReadBy, IsNotOf}
use Rattle.wire_edit.proofs.Tested.{absent}
use Rattle.wire_edit.proofs.Gates.{gates_of, gate_listed, no_gate}

pub keeps_refl : (m : List Bool) → KeepsMarks m m
keeps_refl m = record { count = refl; kept = λ k e. e }

pub keeps_on : (a b c : List Bool) → KeepsMarks a b → KeepsMarks b c → KeepsMarks a c
keeps_on a b c f g = record { count = g.count ∙ f.count; kept = λ k e. g.kept k (f.kept k e) }

-- marks of before stay
pub still : (a b : List Bool) → KeepsMarks a b → (x : ℕ) → (x < length a → is_marked a x ≡ true) → x < length b → is_marked b x ≡ true
still a b k x h lt = k.kept x (h (omega (arith, lt, k.count)))

pub dead_unread : (net : Net) (x : ℕ) → IsWellFormed net → is_live net x ≡ false → (y p : ℕ) → Reads net y p x → ⊥
dead_unread net x well e y p reads = well.drivers_live y p x reads (absent (node_at net x) e)

pub dead_reads : (net : Net) (gate x : ℕ) → is_live net gate ≡ false → IsReadBy net x gate → ⊥
dead_reads net gate x e (p, reads) = nothing p x (ap (λ o. slice_get (drivers_in o) p) (sym (absent (node_at net gate) e)) ∙ reads)
  where
    nothing : (p x : ℕ) → slice_get {X = ℕ} [] p ≡ Some x → ⊥
    nothing p x e = cc

-- a walk over the readers that has come to these gates; the test tells which readers are marked
pub record Walked (v : Circuit) (node : ℕ) (test : ℕ → Bool) (before marks : List Bool) (gates : List ℕ) : Type 0 where
  pub keeps : KeepsMarks before marks
  pub left : (y p : ℕ) → test y ≡ true → Reads (net_of v) y p node → y < length marks → (is_marked marks y ≡ true) ⊎ ((k : ℕ) × (slice_get gates k ≡ Some y))

pub walk_start : (v : Circuit) (node : ℕ) (test : ℕ → Bool) (marks : List Bool) (gates : List ℕ) → ListReaders v → gates ≡ gates_of v node → Walked v node test marks marks gates
walk_start v node test marks gates listed e = record {
  keeps = keeps_refl marks;
  left = λ y p t reads lt.
      let k : (k : ℕ) × (slice_get (gates_of v node) k ≡ Some y) = gate_listed v listed node y p reads in
      inr (k.0, ap (λ (gs : List ℕ). slice_get gs k.0) e ∙ k.1);
}

pub walk_step : (v : Circuit) (node : ℕ) (test : ℕ → Bool) (before marks next : List Bool) (reader : ℕ) (gates rest : List ℕ) → Walked v node test before marks gates → gates ≡ reader ∷ rest → KeepsMarks marks next → (test reader ≡ true → reader < length next → is_marked next reader ≡ true) → Walked v node test before next rest
walk_step v node test before marks next reader gates rest w e k marked = record {
  keeps = keeps_on before marks next w.keeps k;
  left = λ y p t reads lt. elim (w.left y p t reads (omega (arith, lt, k.count))) [
    | inl done ↦ inl (k.kept y done)
    | inr there ↦ at y t lt there.0 (ap (λ (gs : List ℕ). slice_get gs there.0) (sym e) ∙ there.1)
  ];
}
  where
    at : (y : ℕ) → test y ≡ true → y < length next → (j : ℕ) → slice_get (reader ∷ rest) j ≡ Some y → (is_marked next y ≡ true) ⊎ ((k : ℕ) × (slice_get rest k ≡ Some y))
    at y t lt zero there = let same : reader ≡ y = cc in inl (ap (is_marked next) (sym same) ∙ marked (ap test same ∙ t) (omega (arith, lt, same)))
    at y t lt (suc j) there = inr (j, there)

pub walk_end : (v : Circuit) (node : ℕ) (test : ℕ → Bool) (before marks : List Bool) (gates : List ℕ) → Walked v node test before marks gates → gates ≡ [] → (y p : ℕ) → test y ≡ true → Reads (net_of v) y p node → y < length marks → is_marked marks y ≡ true
walk_end v node test before marks gates w none y p t reads lt = elim (w.left y p t reads lt) [
  | inl done ↦ done
  | inr there ↦ absurd (no_gate there.0 y (ap (λ (gs : List ℕ). slice_get gs there.0) (sym none) ∙ there.1))
]

-- whether a Not was met
pub record Met (v : Circuit) (node : ℕ) (found : Bool) (gates : List ℕ) : Type 0 where
  pub left : found ≡ false → (y p : ℕ) → is_not (net_of v) y ≡ true → Reads (net_of v) y p node → (k : ℕ) × (slice_get gates k ≡ Some y)

pub met_start : (v : Circuit) (node : ℕ) (gates : List ℕ) → ListReaders v → gates ≡ gates_of v node → Met v node false gates
met_start v node gates listed e = record {
  left = λ no_found y p t reads. let k : (k : ℕ) × (slice_get (gates_of v node) k ≡ Some y) = gate_listed v listed node y p reads in (k.0, ap (λ (gs : List ℕ). slice_get gs k.0) e ∙ k.1);
}

pub met_step : (v : Circuit) (node : ℕ) (found next : Bool) (reader : ℕ) (gates rest : List ℕ) → Met v node found gates → gates ≡ reader ∷ rest → (next ≡ false → (found ≡ false) × (is_not (net_of v) reader ≡ false)) → Met v node next rest
met_step v node found next reader gates rest m e both = record {
  left = λ none y p t reads.
      let k : (k : ℕ) × (slice_get gates k ≡ Some y) = m.left (both none).0 y p t reads in
      at none y t k.0 (ap (λ (gs : List ℕ). slice_get gs k.0) (sym e) ∙ k.1);
}
  where
    at : next ≡ false → (y : ℕ) → is_not (net_of v) y ≡ true → (j : ℕ) → slice_get (reader ∷ rest) j ≡ Some y → (k : ℕ) × (slice_get rest k ≡ Some y)
    at none y t zero there = let same : reader ≡ y = cc in absurd (both_ways (is_not (net_of v) reader) (both none).1 (ap (is_not (net_of v)) same ∙ t))
    at none y t (suc j) there = (j, there)

pub met_end : (v : Circuit) (node : ℕ) (found : Bool) (gates : List ℕ) → Met v node found gates → gates ≡ [] → found ≡ false → (y : ℕ) → IsNotOf (net_of v) node y → ⊥
met_end v node found gates m none f y n =
    let k : (k : ℕ) × (slice_get gates k ≡ Some y) = m.left f y 0 n.0 n.1 in
    no_gate k.0 y (ap (λ (gs : List ℕ). slice_get gs k.0) (sym none) ∙ k.1)

-- a walk over the drivers
pub record Driven (ds : List ℕ) (before marks : List Bool) (left : List ℕ) : Type 0 where
  pub keeps : KeepsMarks before marks
  pub rest : (p x : ℕ) → slice_get ds p ≡ Some x → x < length marks → (is_marked marks x ≡ true) ⊎ ((k : ℕ) × (slice_get left k ≡ Some x))

pub driven_start : (ds left : List ℕ) (marks : List Bool) → left ≡ ds → Driven ds marks marks left
driven_start ds left marks e = record { keeps = keeps_refl marks; rest = λ p x there lt. inr (p, ap (λ xs. slice_get xs p) e ∙ there) }

pub driven_step : (ds : List ℕ) (before marks next : List Bool) (d : ℕ) (left after : List ℕ) → Driven ds before marks left → left ≡ d ∷ after → KeepsMarks marks next → (d < length next → is_marked next d ≡ true) → Driven ds before next after
driven_step ds before marks next d left after w e k marked = record {
  keeps = keeps_on before marks next w.keeps k;
  rest = λ p x there lt. elim (w.rest p x there (omega (arith, lt, k.count))) [
    | inl done ↦ inl (k.kept x done)
    | inr j ↦ at x lt j.0 (ap (λ xs. slice_get xs j.0) (sym e) ∙ j.1)
  ];
}
  where
    at : (x : ℕ) → x < length next → (j : ℕ) → slice_get (d ∷ after) j ≡ Some x → (is_marked next x ≡ true) ⊎ ((k : ℕ) × (slice_get after k ≡ Some x))
    at x lt zero there = let is : d ≡ x = cc in inl (ap (is_marked next) (sym is) ∙ marked (omega (arith, lt, is)))
    at x lt (suc j) there = inr (j, there)

pub driven_end : (ds : List ℕ) (before marks : List Bool) (left : List ℕ) → Driven ds before marks left → left ≡ [] → (p x : ℕ) → slice_get ds p ≡ Some x → x < length marks → is_marked marks x ≡ true
driven_end ds before marks left w none p x there lt = elim (w.rest p x there lt) [
  | inl done ↦ done
  | inr j ↦ absurd (nothing j.0 x (ap (λ xs. slice_get xs j.0) (sym none) ∙ j.1))
]
  where
    nothing : (k x : ℕ) → slice_get {X = ℕ} [] k ≡ Some x → ⊥
    nothing k x e = cc

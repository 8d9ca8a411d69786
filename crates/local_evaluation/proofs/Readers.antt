-- Going over the gates that read a node, and the only one that does.
use Rattle.std.proofs.Common.{List, Some, [], ap, append-nil, length, map, refl, subst, suc, sym, zero, ℕ, ◌++◌, ◌<◌, ◌∙◌, ◌∷◌, ◌≡◌, ◌≢◌}
use Rattle.std.proofs.lemmas.Option.{slice_get-map}
use Rattle.std.specs.Option.{option_map}
use Rattle.std.specs.Prelude.{slice_get}
use Rattle.gate_graph.specs.Circuit.{Circuit, fanouts_of, net_of}
use Rattle.gate_graph.specs.Readers.{ListReaders}
use Rattle.gate_net.specs.Net.{Reads}
use Rattle.gate_net.specs.Paths.{IsOnlyReader}
use Rattle.local_evaluation.proofs.Told.{kind_live, reader_live}
use Rattle.local_evaluation.proofs.Yielding.{yielded_at}
use Rattle.rm_base.specs.declared.numbers.NodeId.{NodeId}
use Rattle.rm_base.proofs.Public.{map_found}

-- the gate of a place
abbrev gate_in : ℕ × ℕ → ℕ
gate_in place = place.0

-- IN A LOOP
module _ (v : Circuit) (n : ℕ) (listed : ListReaders v) (all : List ℕ) (is : all ≡ map (λ (place : ℕ × ℕ). place.0) (fanouts_of v n)) (yielded : List NodeId) where
  -- the gate that comes next reads the node
  pub next_reads : (x : NodeId) (rest rest' : List ℕ) → all ≡ map (λ (d : NodeId). d.0) yielded ++ rest → rest ≡ x.0 ∷ rest' → (p : ℕ) × Reads (net_of v) x.0 p n
  next_reads x rest rest' e step =
      let at : slice_get (map gate_in (fanouts_of v n)) (length yielded) ≡ Some x.0 = ap (λ (xs : List ℕ). slice_get xs (length yielded)) (sym is) ∙ yielded_at (λ (d : NodeId). d.0) all yielded x rest rest' e step in
      let found : (place : ℕ × ℕ) × ((slice_get (fanouts_of v n) (length yielded) ≡ Some place) × (gate_in place ≡ x.0)) = map_found gate_in (fanouts_of v n) (length yielded) x.0 at in
      (found.0.1, subst (λ (g : ℕ). Reads (net_of v) g found.0.1 n) found.1.1 (listed.reads n (length yielded) found.0 found.1.0))

  pub next_below : (x : NodeId) (rest rest' : List ℕ) → all ≡ map (λ (d : NodeId). d.0) yielded ++ rest → rest ≡ x.0 ∷ rest' → x.0 < length (net_of v).nodes
  next_below x rest rest' e step = let reads = next_reads x rest rest' e step in kind_live (net_of v) x.0 (reader_live (net_of v) x.0 reads.0 n reads.1)

  -- at the end each reader has come
  pub all_came : (rest : List ℕ) → all ≡ map (λ (d : NodeId). d.0) yielded ++ rest → rest ≡ [] → (z p : ℕ) → Reads (net_of v) z p n → (k : ℕ) × ((gate : NodeId) × ((slice_get yielded k ≡ Some gate) × (gate.0 ≡ z)))
  all_came rest e none z p reads =
      let at : (k : ℕ) × (slice_get (fanouts_of v n) k ≡ Some (z, p)) = listed.all n (z, p) reads in
      let whole : all ≡ map (λ (d : NodeId). d.0) yielded = e ∙ ap (λ (xs : List ℕ). map (λ (d : NodeId). d.0) yielded ++ xs) none ∙ append-nil (map (λ (d : NodeId). d.0) yielded) in
      let there : slice_get (map gate_in (fanouts_of v n)) at.0 ≡ Some z = slice_get-map gate_in (fanouts_of v n) at.0 ∙ ap (option_map gate_in) at.1 in
      let found : (x : NodeId) × ((slice_get yielded at.0 ≡ Some x) × (x.0 ≡ z)) = map_found (λ (d : NodeId). d.0) yielded at.0 z (ap (λ (xs : List ℕ). slice_get xs at.0) (sym whole ∙ is) ∙ there) in
      (at.0, (found.0, (found.1.0, found.1.1)))

-- THE ONLY READER
module _ (v : Circuit) (n : ℕ) (listed : ListReaders v) (all : List ℕ) (is : all ≡ map (λ (place : ℕ × ℕ). place.0) (fanouts_of v n)) where
  pub no_reader : all ≡ [] → (y : ℕ) → IsOnlyReader (net_of v) n y → ⊥
  no_reader none y only =
      let came : (k : ℕ) × ((gate : NodeId) × ((slice_get {X = NodeId} [] k ≡ Some gate) × (gate.0 ≡ y))) = all_came v n listed all is [] all refl none y only.reads.0 only.reads.1 in
      let wrong : slice_get {X = NodeId} [] came.0 ≡ Some came.1.0 = came.1.1.0 in
      cc

  module _ (gate : NodeId) (later : List ℕ) (first : all ≡ gate.0 ∷ later) where
    pub first_reads : (p : ℕ) × Reads (net_of v) gate.0 p n
    first_reads = next_reads v n listed all is [] gate all later refl first

    pub two_readers : (yielded : List NodeId) (other : NodeId) (rest rest' : List ℕ) → later ≡ map (λ (d : NodeId). d.0) yielded ++ rest → rest ≡ other.0 ∷ rest' → other.0 ≢ gate.0 → (y : ℕ) → IsOnlyReader (net_of v) n y → ⊥
    two_readers yielded other rest rest' e step ne y only =
        let two : (p : ℕ) × Reads (net_of v) other.0 p n = next_reads v n listed all is (gate ∷ yielded) other rest rest' (first ∙ ap (λ (xs : List ℕ). gate.0 ∷ xs) e) step in
        ne (only.only other.0 two.0 two.1 ∙ sym (only.only gate.0 first_reads.0 first_reads.1))

    pub one_reader : (yielded : List NodeId) (rest : List ℕ) → later ≡ map (λ (d : NodeId). d.0) yielded ++ rest → rest ≡ [] → ((k : ℕ) (x : NodeId) → slice_get yielded k ≡ Some x → x.0 ≡ gate.0) → IsOnlyReader (net_of v) n gate.0
    one_reader yielded rest e none same = record {
      only = λ z p reads. let came = all_came v n listed all is (gate ∷ yielded) rest (first ∙ ap (λ (xs : List ℕ). gate.0 ∷ xs) e) none z p reads in sym came.1.1.1 ∙ at came.0 came.1.0 came.1.1.0;
      reads = first_reads;
    }
      where
        at : (k : ℕ) (x : NodeId) → slice_get (gate ∷ yielded) k ≡ Some x → x.0 ≡ gate.0
        at zero x there = let whole : gate ≡ x = cc in ap (λ (d : NodeId). d.0) (sym whole)
        at (suc k) x there = same k x there

-- Faults that lead on, and the last ones of their classes.
use Rattle.std.proofs.Common.{◌≡◌, ℕ, zero, suc, ◌<◌, ◌⊎◌, ◌↔◌, inl, inr, Bool, true, false, not, IsTrue, Option, None, Some, List, [], ◌∷◌, ◌++◌, length, refl, sym, ◌∙◌, ap, arith}
use Rattle.std.specs.Prelude.{slice_get}
use Rattle.std.proofs.lemmas.List.{length-append}
use Rattle.std.proofs.lemmas.Option.{slice_get_within}
use Rattle.rm_base.specs.declared.numbers.Fault.{Fault}
use Rattle.rm_base.proofs.Public.{pushed_stands, some_is}
use Rattle.gate_net.specs.declared.Kind.{Kind}
use Rattle.gate_net.specs.Faults.{fault_at}
use Rattle.gate_net.specs.Net.{IsKind, IsObserved, Net, Node, kind_in, kind_of, node_at}
use Rattle.gate_graph.specs.Circuit.{Circuit, fanouts_of, net_of}
use Rattle.gate_graph.specs.Readers.{ListReaders}
use Rattle.test_patterns.specs.Classes.{AreLast, DrivesOnly, Forces, IsLastOfClass, Leads, forced}

-- the one pin that a node drives
pub one_driven : (g : Circuit) (x : ℕ) (place : ℕ × ℕ) → ListReaders g → fanouts_of g x ≡ place ∷ [] → (IsObserved (net_of g) x → ⊥) → DrivesOnly (net_of g) x place.0 place.1
one_driven g x place list one unobserved = record {
  reads = list.reads x 0 place (ap (λ (ps : List (ℕ × ℕ)). slice_get ps 0) one);
  only = λ y p reads. (let at = list.all x (y, p) reads in same y p at.0 (ap (λ (ps : List (ℕ × ℕ)). slice_get ps at.0) (sym one) ∙ at.1));
  unobserved = unobserved;
}
  where
    same : (y p k : ℕ) → slice_get (place ∷ []) k ≡ Some (y, p) → (y ≡ place.0) × (p ≡ place.1)
    same y p zero e = let h : place ≡ (y, p) = some_is place (y, p) e in (ap (λ (q : ℕ × ℕ). q.0) (sym h), ap (λ (q : ℕ × ℕ). q.1) (sym h))
    same y p (suc k) e = absurd (cc)

-- a node without a reader drives none
pub none_driven : (g : Circuit) (x : ℕ) → ListReaders g → fanouts_of g x ≡ [] → (gate position : ℕ) → DrivesOnly (net_of g) x gate position → ⊥
none_driven g x list none gate position d =
    let at = list.all x (gate, position) d.reads in
    let bad : slice_get [] at.0 ≡ Some (gate, position) = ap (λ (ps : List (ℕ × ℕ)). slice_get ps at.0) (sym none) ∙ at.1 in cc

-- nor does one with two readers
pub two_driven : (g : Circuit) (x : ℕ) (first second : ℕ × ℕ) (rest : List (ℕ × ℕ)) → ListReaders g → fanouts_of g x ≡ first ∷ second ∷ rest → (gate position : ℕ) → DrivesOnly (net_of g) x gate position → ⊥
two_driven g x first second rest list are gate position d =
    let at0 : slice_get (fanouts_of g x) 0 ≡ Some first = ap (λ (ps : List (ℕ × ℕ)). slice_get ps 0) are in
    let at1 : slice_get (fanouts_of g x) 1 ≡ Some second = ap (λ (ps : List (ℕ × ℕ)). slice_get ps 1) are in
    let one = d.only first.0 first.1 (list.reads x 0 first at0) in
    let two = d.only second.0 second.1 (list.reads x 1 second at1) in
    let same : second ≡ first = pair second first (two.0 ∙ sym one.0) (two.1 ∙ sym one.1) in
    let bad : 0 ≡ 1 = list.once x 0 1 first at0 (at1 ∙ ap (λ (p : ℕ × ℕ). Some p) same) in
    omega (arith, bad)
  where
    pair : (p q : ℕ × ℕ) → p.0 ≡ q.0 → p.1 ≡ q.1 → p ≡ q
    pair (a, b) (c, e) h k = cc

kind_there : (net : Net) (x : ℕ) (kind : Kind) → kind_of net x ≡ Some kind → IsKind net x kind
kind_there net x kind e = go (node_at net x) refl
  where
    go : (o : Option Node) → node_at net x ≡ o → IsKind net x kind
    go None at = absurd (let bad : None ≡ Some kind = sym (ap kind_in at) ∙ e in cc)
    go (Some n) at = let same : n.kind ≡ kind = some_is n.kind kind (sym (ap kind_in at) ∙ e) in (n.drivers, at ∙ ap (λ (k : Kind). Some (record { kind = k; drivers = n.drivers })) same)

kind_one : (net : Net) (x : ℕ) (kind : Kind) → IsKind net x kind → kind_of net x ≡ Some kind
kind_one net x kind (ds, at) = ap kind_in at

pub forces : (net : Net) (f : Fault) (kind : Kind) (value : Bool) → kind_of net f.gate.0 ≡ Some kind → forced kind f.value ≡ Some value → Forces net f value
forces net f kind value e h = record { kind = kind; kind_is = kind_there net f.gate.0 kind e; forced_is = h }

-- a live node
pub live : (net : Net) (x : ℕ) (kind : Kind) → kind_of net x ≡ Some kind → (k : Kind) × IsKind net x k
live net x kind e = (kind, kind_there net x kind e)

-- what isn't a gate, or isn't forced, doesn't lead on
pub dead_stays : (net : Net) (f : Fault) → kind_of net f.gate.0 ≡ None → (other : Fault) → Leads net f other → ⊥
dead_stays net f e other (value, (h, rest)) = let bad : None ≡ Some h.kind = sym e ∙ kind_one net f.gate.0 h.kind h.kind_is in cc

pub unforced_stays : (net : Net) (f : Fault) (kind : Kind) → kind_of net f.gate.0 ≡ Some kind → forced kind f.value ≡ None → (other : Fault) → Leads net f other → ⊥
unforced_stays net f kind e none other (value, (h, rest)) =
    let same : kind ≡ h.kind = some_is kind h.kind (sym e ∙ kind_one net f.gate.0 h.kind h.kind_is) in
    let bad : None ≡ Some value = sym none ∙ (ap (λ (k : Kind). forced k f.value) same ∙ h.forced_is) in cc

-- a later input leads to the first
pub later_leads : (net : Net) (f : Fault) (value : Bool) → Forces net f value → 0 < f.position → (other : Fault) × Leads net f other
later_leads net f value h later = (fault_at f.gate.0 0 f.value, (value, (h, inl (later, refl))))

-- the first leads through the gate where it drives one pin
pub first_leads : (net : Net) (f : Fault) (value : Bool) (gate position : ℕ) → Forces net f value → f.position ≡ 0 → DrivesOnly net f.gate.0 gate position → (other : Fault) × Leads net f other
first_leads net f value gate position h none d = (fault_at gate position value, (value, (h, inr (none, (d, refl)))))

pub first_stays : (net : Net) (f : Fault) → f.position ≡ 0 → ((gate position : ℕ) → DrivesOnly net f.gate.0 gate position → ⊥) → (other : Fault) → Leads net f other → ⊥
first_stays net f first none other (value, (h, inl (later, is))) = absurd (omega (arith, later, first))
first_stays net f first none other (value, (h, inr (at, (d, is)))) = none other.gate.0 other.position d

-- one more mark
pub last_more : (net : Net) (faults : List Fault) (f : Fault) (lasts : List Bool) (leads : Bool) → AreLast net faults lasts → (IsTrue leads ↔ ((other : Fault) × Leads net f other)) → AreLast net (faults ++ f ∷ []) (lasts ++ not leads ∷ [])
last_more net faults f lasts leads are tells = record {
  size = longer (not leads);
  each = λ j g b at is. at_cases j g b (pushed_stands faults f j g at) (pushed_stands lasts (not leads) j b is);
}
  where
    longer : (b : Bool) → length (lasts ++ b ∷ []) ≡ length (faults ++ f ∷ [])
    longer b = let x = length-append lasts (b ∷ []) in let y = length-append faults (f ∷ []) in omega (arith, x, y, are.size)

    said : (b : Bool) → (IsTrue b ↔ ((other : Fault) × Leads net f other)) → IsTrue (not b) ↔ IsLastOfClass net f
    said true h = ((λ t. absurd (let bad : false ≡ true = t in cc)), (λ last. absurd (let o = h.0 refl in last o.0 o.1)))
    said false h = ((λ t other l. (let bad : false ≡ true = h.1 (other, l) in cc)), (λ last. refl))

    at_cases : (j : ℕ) (g : Fault) (b : Bool) → (slice_get faults j ≡ Some g) ⊎ ((j ≡ length faults) × (g ≡ f)) → (slice_get lasts j ≡ Some b) ⊎ ((j ≡ length lasts) × (b ≡ not leads)) → IsTrue b ↔ IsLastOfClass net g
    at_cases j g b (inl e) (inl h) = are.each j g b e h
    at_cases j g b (inl e) (inr h) = absurd (let w = slice_get_within faults j g e in omega (arith, w, h.0, are.size))
    at_cases j g b (inr e) (inl h) = absurd (let w = slice_get_within lasts j b h in omega (arith, w, e.0, are.size))
    at_cases j g b (inr e) (inr h) = rw (h.1, e.1) (said leads tells)

-- what leads on from the first input is the one pin that the gate drives
pub first_drives : (net : Net) (f : Fault) → f.position ≡ 0 → (other : Fault) × Leads net f other → (gate : ℕ) × ((position : ℕ) × DrivesOnly net f.gate.0 gate position)
first_drives net f first (other, (value, (h, inl (later, is)))) = absurd (omega (arith, later, first))
first_drives net f first (other, (value, (h, inr (at, (d, is))))) = (other.gate.0, (other.position, d))

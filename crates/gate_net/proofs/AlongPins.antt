-- Induction along the pins of an acyclic net, and what nodes read.
use Rattle.std.proofs.Common.{Bool, List, Some, ap, arith, inl, inr, map, refl, suc, zero, ℕ, ◌<◌, ◌∙◌, ◌≡◌, ◌≢◌}
use Rattle.std.proofs.lemmas.Bool.{eq-eqb, ne_eqb}
use Rattle.std.proofs.lemmas.Bool.Decides.{eqb_tells}
use Rattle.std.specs.Prelude.{if◌then◌else◌, nat_eq, slice_get, slice_set}
use Rattle.gate_net.specs.Net.{IsAcyclic, IsKind, IsRanked, Net, Reads, drivers_of, node_at}
use Rattle.gate_net.specs.Values.{faulty_reads, gate_value, node_value}
use Rattle.gate_net.specs.declared.Kind.{Kind}
use Rattle.rm_base.specs.declared.numbers.Fault.{Fault}
use Rattle.rm_base.proofs.Public.{map_agree, map_at, set_other}

-- induction along the pins
pub rank_below : (net : Net) (rank : ℕ → ℕ) → IsRanked net rank → (P : ℕ → Type 0) → ((y : ℕ) → ((p x : ℕ) → Reads net y p x → P x) → P y) → (n y : ℕ) → rank y < n → P y
rank_below net rank ranked P step zero y h = absurd (omega arith)
rank_below net rank ranked P step (suc n) y h =
    step y (λ p x reads. rank_below net rank ranked P step n x (let below : rank x < rank y = ranked y p x reads in omega arith))

pub along_pins : (net : Net) → IsAcyclic net → (P : ℕ → Type 0) → ((y : ℕ) → ((p x : ℕ) → Reads net y p x → P x) → P y) → (y : ℕ) → P y
along_pins net acyclic P step y = rank_below net acyclic.0 acyclic.1 P step (suc (acyclic.0 y)) y (omega arith)

pub reads_elsewhere : {A : Type 0} (net : Net) (fault : Fault) (c : Bool → A) (f : ℕ → A) (x : ℕ) → x ≢ fault.gate.0 → faulty_reads net fault c f x ≡ map f (drivers_of net x)
reads_elsewhere net fault c f x ne = rw (ne_eqb x fault.gate.0 ne) refl

pub reads_there : {A : Type 0} (net : Net) (fault : Fault) (c : Bool → A) (f : ℕ → A) → faulty_reads net fault c f fault.gate.0 ≡ slice_set (map f (drivers_of net fault.gate.0)) fault.position (c fault.value)
reads_there net fault c f = rw (eq-eqb fault.gate.0 fault.gate.0 refl) refl

-- the value of a gate of a known kind
pub value_at : (net : Net) (a u : ℕ → Bool) (x : ℕ) (kind : Kind) (reads : List Bool) → IsKind net x kind → u x ≡ node_value (node_at net x) (a x) reads → u x ≡ gate_value kind (a x) reads
value_at net a u x kind reads is e = rw is.1 at e

-- a pin that isn't the stuck one reads the faulty value
pub reads_faulty : (net : Net) (fault : Fault) (f : ℕ → Bool) (y q x : ℕ) → (((y ≡ fault.gate.0) × (q ≡ fault.position)) → ⊥) → Reads net y q x → slice_get (faulty_reads net fault (λ b. b) f y) q ≡ Some (f x)
reads_faulty net fault f y q x other reads = elim (eqb_tells y fault.gate.0) [
  | inl t ↦ rw t.1 (ap (λ ys. slice_get ys q) (reads_there net fault (λ b. b) f)
      ∙ set_other (map f (drivers_of net fault.gate.0)) fault.position q fault.value (λ e. other (t.1, e))
      ∙ map_at f (drivers_of net fault.gate.0) q x (rw t.1 at reads))
  | inr t ↦ ap (λ ys. slice_get ys q) (reads_elsewhere net fault (λ b. b) f y t.1) ∙ map_at f (drivers_of net y) q x reads
]

-- nodes that agree on the drivers agree on what a node reads
pub reads_agree : {A : Type 0} (net : Net) (fault : Fault) (c : Bool → A) (u w : ℕ → A) (x : ℕ) → ((p y : ℕ) → Reads net x p y → u y ≡ w y) → faulty_reads net fault c u x ≡ faulty_reads net fault c w x
reads_agree net fault c u w x h =
    ap (λ ys. if nat_eq x fault.gate.0 then slice_set ys fault.position (c fault.value) else ys) (map_agree u w (drivers_of net x) h)

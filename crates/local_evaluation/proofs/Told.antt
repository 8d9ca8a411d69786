-- What the calls of a graph tell.
use Rattle.std.proofs.Common.{Bool, IfSome, List, None, Option, Some, [], ap, eqb, false, inl, inr, length, refl, subst, sym, true, ℕ, ◌<◌, ◌||◌, ◌∙◌, ◌≡◌, ◌≢◌}
use Rattle.std.proofs.lemmas.Bool.{eqb-true, or_cases}
use Rattle.std.specs.Prelude.{option_map, slice_get}
use Rattle.local_evaluation.specs.Pins.{AreBelow}
use Rattle.gate_net.specs.Net.{IsKind, IsLive, IsWellFormed, Net, Node, Reads, drivers_in, drivers_of, flatten_option, kind_in, kind_of, node_at}
use Rattle.gate_net.specs.Values.{HasPin, family, same_bool}
use Rattle.gate_net.specs.declared.Family.TheVariants.{Input}
use Rattle.gate_net.specs.declared.Kind.{Kind}
use Rattle.gate_net.specs.declared.Kind.TheVariants.{And, Not, One, Or, Source, Xor, Zero}
use Rattle.rm_base.specs.declared.numbers.Fault.{Fault}
use Rattle.rm_base.specs.declared.numbers.NodeId.{NodeId}
use mathlib.Core.Bool.{beq}
use Rattle.rm_base.proofs.Public.{slice_get_below}

-- a live node's number is below the bound
pub live_below : (net : Net) (x : ℕ) → node_at net x ≢ None → x < length net.nodes
live_below net x live = slice_get_below net.nodes x (λ none. live (ap flatten_option none))

pub live_is : (net : Net) (x : ℕ) → kind_of net x ≢ None → IsLive net x
live_is net x live = at (node_at net x) refl
  where
    at : (o : Option Node) → node_at net x ≡ o → IsLive net x
    at None is = absurd (live (ap kind_in is))
    at (Some n) is = (n.kind, (n.drivers, is))

pub kind_live : (net : Net) (x : ℕ) → IsLive net x → x < length net.nodes
kind_live net x live = live_below net x (λ dead. let is : node_at net x ≡ Some (record { kind = live.0; drivers = live.1.0 }) = live.1.1 in cc)

pub drivers_below : (net : Net) → IsWellFormed net → (y : ℕ) → AreBelow (drivers_of net y) (length net.nodes)
drivers_below net formed y p x reads = live_below net x (formed.drivers_live y p x reads)

-- a node with a pin is live
pub reader_live : (net : Net) (y p x : ℕ) → Reads net y p x → IsLive net y
reader_live net y p x reads = at (node_at net y) refl
  where
    at : (o : Option Node) → node_at net y ≡ o → IsLive net y
    at None is = let none : slice_get {X = ℕ} [] p ≡ Some x = rw (ap drivers_in is) at reads in cc
    at (Some n) is = (n.kind, (n.drivers, is))

pub gate_live : (net : Net) (fault : Fault) → HasPin net fault → IsLive net fault.gate.0
gate_live net fault pin' = reader_live net fault.gate.0 fault.position pin'.0 pin'.1

kind_in_is : (o : Option Node) (kind : Kind) → kind_in o ≡ Some kind → (drivers : List ℕ) × (o ≡ Some (record { kind = kind; drivers = drivers }))
kind_in_is None kind e = cc
kind_in_is (Some n) kind e = let same : n.kind ≡ kind = cc in (n.drivers, ap (λ k. Some (record { kind = k; drivers = n.drivers })) same)

pub kind_is : (net : Net) (x : ℕ) (kind : Kind) → Some kind ≡ kind_of net x → IsKind net x kind
kind_is net x kind e = kind_in_is (node_at net x) kind (sym e)

-- the kind that means an input
pub source_is : (kind : Kind) → Input ≡ family kind → kind ≡ Source
source_is Source e = refl
source_is Zero e = cc
source_is One e = cc
source_is And e = cc
source_is Or e = cc
source_is Not e = cc
source_is Xor e = cc

pub kind_below : (net : Net) (x : ℕ) (kind : Kind) → Some kind ≡ kind_of net x → x < length net.nodes
kind_below net x kind e = live_below net x (λ dead. let is : node_at net x ≡ Some (record { kind = kind; drivers = (kind_is net x kind e).0 }) = (kind_is net x kind e).1 in cc)

pub kind_told : (net : Net) (x : ℕ) (kind : Kind) → IsKind net x kind → kind_of net x ≡ Some kind
kind_told net x kind is = ap kind_in is.1

pub beq_same : (b c : Bool) → beq b c ≡ same_bool b c
beq_same true true = refl
beq_same true false = refl
beq_same false true = refl
beq_same false false = refl

pub live_from : (net : Net) (x : ℕ) (o : Option Kind) (kind : Kind) → o ≡ kind_of net x → o ≡ Some kind → IsLive net x
live_from net x o kind e is = (kind, kind_is net x kind (sym is ∙ e))

pub each_of_two : (P : ℕ → Type 0) (one other d : ℕ) → P one → P other → (eqb d one || (eqb d other || false)) ≡ true → P d
each_of_two P one other d p q e = elim (or_cases (eqb d one) (eqb d other || false) e) [
  | inl here ↦ subst P (sym (eqb-true d one here)) p
  | inr later ↦ elim (or_cases (eqb d other) false later) [ inl there ↦ subst P (sym (eqb-true d other there)) q | inr never ↦ absurd cc ]
]

pub each_of_one : (P : ℕ → Type 0) (one d : ℕ) → P one → (eqb d one || false) ≡ true → P d
each_of_one P one d p e = elim (or_cases (eqb d one) false e) [ inl here ↦ subst P (sym (eqb-true d one here)) p | inr never ↦ absurd cc ]

pub driver_below : (net : Net) → IsWellFormed net → (y p x : ℕ) → Reads net y p x → x < length net.nodes
driver_below net formed y p x reads = live_below net x (formed.drivers_live y p x reads)

pub driver_within : (net : Net) → IsWellFormed net → (y q : ℕ) (o : Option NodeId) → option_map (λ n. n.0) o ≡ slice_get (drivers_of net y) q → IfSome o (λ d. d.0 < length net.nodes)
driver_within net formed y q None e = tt
driver_within net formed y q (Some d) e = driver_below net formed y q d.0 (sym e)

-- A candidate's wire may be added, with or without its Not, and neither step is refused.
use Rattle.std.proofs.Common.{◌≡◌, ◌≢◌, ℕ, ◌<◌, inl, inr, Bool, true, false, Option, Some, None, List, [], ◌∷◌, ◌++◌, length, refl, sym, ◌∙◌, ap, subst}
use Rattle.std.specs.Prelude.{slice_get, nat_lt, ◌↔◌, if◌then◌else◌}
use Rattle.std.proofs.lemmas.Bool.{lt-ltb, cases_eq, false_from_ne_true}
use Rattle.rm_base.specs.declared.numbers.Fault.{Fault}
use Rattle.rm_base.specs.declared.numbers.NodeId.{NodeId}
use Rattle.gate_net.proofs.Public.{node_at-other, node_at-there}
use Rattle.gate_net.specs.declared.Kind.{Kind}
use Rattle.gate_net.specs.declared.Kind.TheVariants.{Not}
use Rattle.gate_net.specs.Net.{Net, node_at, kind_in, drivers_in, drivers_of, Reads, IsLive, IsWellFormed, wire_count}
use Rattle.gate_net.specs.Values.{IsJunction, controlling}
use Rattle.gate_net.specs.Edits.{IsSameBut, with_pin, last_pin}
use Rattle.wire_edit.proofs.Public.{among_at, gate_live, is_live_there, junction_gate, not_closing}
use Rattle.wire_edit.specs.declared.steps.Step.TheVariants.{Add, NewNot}
use Rattle.wire_edit.specs.declared.room.Room.{Room}
use Rattle.wire_edit.specs.Changes.{with_new_not}
use Rattle.wire_edit.specs.Tests.{is_live, is_junction, is_among, is_present, control_of, gate_control}
use Rattle.wire_edit.specs.Steps.{Applies, stepped}
use Rattle.wire_edit.specs.Refusals.{refusal_of, ClosesCycle, live_count, ceiling}
use Rattle.wire_edit.specs.Order.{node}
use Rattle.candidate_wires.specs.declared.candidate.Candidate.{Candidate}
use Rattle.candidate_wires.specs.Gains.{least_free, net_for, wire_for, with_candidate}
use Rattle.rar_loop.specs.Inner.Trying.{MayAdd}
use Rattle.rar_loop.proofs.NewNots.{live_apart, not_other, not_there, not_kind, not_drivers, not_live, not_reached, least_dead}
use Rattle.rm_base.proofs.Public.{front_stands, last_stands}
use Rattle.rm_base.specs.Numbers.{numbers_of}

-- KINDS
kind_control : (kind : Kind) → gate_control (Some kind) ≡ controlling kind
kind_control kind = refl

pub junction_control : (net : Net) (y : ℕ) (c : Bool) → IsJunction net y c → control_of net y ≡ Some c
junction_control net y c (kind, (is, e)) = ap (λ o. gate_control (kind_in o)) is.1 ∙ kind_control kind ∙ e

junction_live : (net : Net) (y : ℕ) (c : Bool) → IsJunction net y c → IsLive net y
junction_live net y c j = (j.0, j.1.0)

-- CONDITIONS
pub gate_of : (net : Net) (c : Candidate) → MayAdd net c → IsLive net c.gate.0
gate_of net c may = junction_live net c.gate.0 may.1.control may.1.junction

pub node_of : (net : Net) (c : Candidate) → MayAdd net c → IsLive net c.node.0
node_of net c may = (may.1.kind, may.1.is_kind)

-- the gate keeps its controlling value and its drivers where the Not is made
control_for : (net : Net) (c : Candidate) → MayAdd net c → (fresh : Bool) → control_of (if fresh then with_new_not net c.node.0 else net) c.gate.0 ≡ control_of net c.gate.0
control_for net c may true = ap gate_control (not_kind net c.node.0 c.gate.0 (gate_of net c may))
control_for net c may false = refl

drivers_for : (net : Net) (c : Candidate) → MayAdd net c → (y : ℕ) → IsLive net y → (fresh : Bool) → drivers_of (if fresh then with_new_not net c.node.0 else net) y ≡ drivers_of net y
drivers_for net c may y live true = not_drivers net c.node.0 y live
drivers_for net c may y live false = refl

pub control_same : (net : Net) (c : Candidate) → MayAdd net c → control_of (net_for net c) c.gate.0 ≡ control_of net c.gate.0
control_same net c may = control_for net c may c.fresh

pub drivers_same : (net : Net) (c : Candidate) → MayAdd net c → (y : ℕ) → IsLive net y → drivers_of (net_for net c) y ≡ drivers_of net y
drivers_same net c may y live = drivers_for net c may y live c.fresh

pub control_is : (net : Net) (c : Candidate) → (may : MayAdd net c) → control_of net c.gate.0 ≡ Some may.1.control
control_is net c may = junction_control net c.gate.0 may.1.control may.1.junction

plain_applies : (net : Net) (c : Candidate) → (may : MayAdd net c) → Applies net (Add c.gate c.node)
plain_applies net c may = (
  ap is_present (control_is net c may),
  (
    is_live_there net c.node.0 (node_of net c may),
    (may.1.apart, (may.1.unreached, false_from_ne_true (is_among c.node.0 (drivers_of net c.gate.0)) (λ e. let k : (k : ℕ) × Reads net c.gate.0 k c.node.0 = among_at c.node.0 (drivers_of net c.gate.0) e in may.1.unread k.0 k.1))),
  ),
)

fresh_applies : (net : Net) (c : Candidate) → IsWellFormed net → (may : MayAdd net c) → Applies (with_new_not net c.node.0) (Add c.gate (node (least_free net)))
fresh_applies net c well may =
    let after : Net = with_new_not net c.node.0 in
    let gate : IsLive net c.gate.0 = gate_of net c may in
    let ds : drivers_of after c.gate.0 ≡ drivers_of net c.gate.0 = not_drivers net c.node.0 c.gate.0 gate in (
      ap is_present (ap gate_control (not_kind net c.node.0 c.gate.0 gate) ∙ control_is net c may),
      (
        is_live_there after (least_free net) (Not, (c.node.0 ∷ [], not_there net c.node.0)),
        (
          (λ e. live_apart net c.gate.0 gate (sym e)),
          (
            (λ path. not_reached net c.node.0 c.gate.0 well (node_of net c may) (λ e. may.1.apart (sym e)) may.1.unreached path refl),
            false_from_ne_true (is_among (least_free net) (drivers_of after c.gate.0)) (λ e.
                let k : (k : ℕ) × Reads after c.gate.0 k (least_free net) = among_at (least_free net) (drivers_of after c.gate.0) e in
                well.drivers_live c.gate.0 k.0 (least_free net) (ap (λ xs. slice_get xs k.0) (sym ds) ∙ k.1) (least_dead net)),
          ),
        ),
      ),
    )

pub add_applies : (net : Net) (c : Candidate) → IsWellFormed net → MayAdd net c → Applies (net_for net c) (Add c.gate (node (wire_for net c)))
add_applies net c well may = at c.fresh
  where
    at : (fresh : Bool) → Applies (if fresh then stepped net (NewNot c.node) else net) (Add c.gate (node (if fresh then least_free net else c.node.0)))
    at true = fresh_applies net c well may
    at false = plain_applies net c may

-- NO REFUSAL
pub not_made : (net : Net) (room : Room) (x : NodeId) (cyclic : Bool) → IsLive net x.0 → 0 < room.steps → 0 < room.pins → 0 < room.nodes → live_count net < ceiling → refusal_of net room (NewNot x) cyclic ≡ None
not_made net room x cyclic live steps pins nodes few =
    let a : is_live net x.0 ≡ true = is_live_there net x.0 live in
    let b : nat_lt 0 room.steps ≡ true = lt-ltb 0 room.steps steps in
    let d : nat_lt 0 room.pins ≡ true = lt-ltb 0 room.pins pins in
    let e : nat_lt 0 room.nodes ≡ true = lt-ltb 0 room.nodes nodes in
    let f : nat_lt (live_count net) ceiling ≡ true = lt-ltb (live_count net) ceiling few in
    rw (a, b, d, e, f) refl

pub add_made : (net : Net) (room : Room) (gate x : NodeId) (cyclic : Bool) → Applies net (Add gate x) → (cyclic ≡ true) ↔ ClosesCycle net (Add gate x) → 0 < room.steps → 0 < room.pins → wire_count net < ceiling → refusal_of net room (Add gate x) cyclic ≡ None
add_made net room gate x cyclic applies tells steps pins few =
    let a : is_live net gate.0 ≡ true = is_live_there net gate.0 (gate_live net gate.0 (junction_gate net gate.0 applies.0)) in
    let b : is_live net x.0 ≡ true = applies.1.0 in
    let j : is_junction net gate.0 ≡ true = applies.0 in
    let k : cyclic ≡ false = not_closing net gate x cyclic applies tells in
    let m : is_among x.0 (drivers_of net gate.0) ≡ false = applies.1.1.1.1 in
    let d : nat_lt 0 room.steps ≡ true = lt-ltb 0 room.steps steps in
    let e : nat_lt 0 room.pins ≡ true = lt-ltb 0 room.pins pins in
    let f : nat_lt (wire_count net) ceiling ≡ true = lt-ltb (wire_count net) ceiling few in
    rw (a, b, j, k, m, d, e, f) refl

pub none_refused : {A : Type 0} (o : Option A) (x : A) → Some x ≡ o → o ≡ None → ⊥
none_refused {A = A} o x e none = let wrong : ◌≡◌ {A = Option A} (Some x) None = e ∙ none in cc

pin_drivers : (net : Net) (gate d : ℕ) → IsLive net gate → drivers_of (with_pin net gate d) gate ≡ drivers_of net gate ++ d ∷ []
pin_drivers net gate d live = ap drivers_in (node_at-there net gate (drivers_of net gate ++ d ∷ []) (record { kind = live.0; drivers = live.1.0 }) live.1.1)

live_for : (net : Net) (c : Candidate) → (y : ℕ) → IsLive net y → (fresh : Bool) → IsLive (if fresh then with_new_not net c.node.0 else net) y
live_for net c y live true = not_live net c.node.0 y live
live_for net c y live false = live

pub live_same : (net : Net) (c : Candidate) (y : ℕ) → IsLive net y → IsLive (net_for net c) y
live_same net c y live = live_for net c y live c.fresh

-- the new pin reads the wire
pub new_pin_reads : (net : Net) (c : Candidate) → MayAdd net c → Reads (with_candidate net c) c.gate.0 (length (drivers_of net c.gate.0)) (wire_for net c)
new_pin_reads net c may =
    let live : IsLive (net_for net c) c.gate.0 = live_same net c c.gate.0 (gate_of net c may) in
    let ds : drivers_of (net_for net c) c.gate.0 ≡ drivers_of net c.gate.0 = drivers_same net c may c.gate.0 (gate_of net c may) in
    let here : drivers_of (with_candidate net c) c.gate.0 ≡ drivers_of net c.gate.0 ++ wire_for net c ∷ [] = pin_drivers (net_for net c) c.gate.0 (wire_for net c) live ∙ ap (λ (xs : List ℕ). xs ++ wire_for net c ∷ []) ds in
    ap (λ (xs : List ℕ). slice_get xs (length (drivers_of net c.gate.0))) here ∙ last_stands (drivers_of net c.gate.0) (wire_for net c)

-- and every pin reads what it read
pub pin_stays : (net : Net) (c : Candidate) → MayAdd net c → (y p x : ℕ) → IsLive net y → Reads net y p x → Reads (with_candidate net c) y p x
pin_stays net c may y p x live reads = elim (cases_eq y c.gate.0) [
  | inl is ↦
      let gate : IsLive (net_for net c) c.gate.0 = live_same net c c.gate.0 (gate_of net c may) in
      let here : drivers_of (with_candidate net c) y ≡ drivers_of (net_for net c) y ++ wire_for net c ∷ [] = subst (λ (k : ℕ). drivers_of (with_candidate net c) k ≡ drivers_of (net_for net c) k ++ wire_for net c ∷ []) (sym is) (pin_drivers (net_for net c) c.gate.0 (wire_for net c) gate) in
      ap (λ (xs : List ℕ). slice_get xs p) here ∙ front_stands (drivers_of (net_for net c) y) ((wire_for net c) ∷ []) p x (ap (λ (xs : List ℕ). slice_get xs p) (drivers_same net c may y live) ∙ reads)
  | inr ne ↦
      let same : drivers_of (with_candidate net c) y ≡ drivers_of (net_for net c) y = ap drivers_in (node_at-other (net_for net c) c.gate.0 (drivers_of (net_for net c) c.gate.0 ++ wire_for net c ∷ []) y ne) in
      ap (λ (xs : List ℕ). slice_get xs p) (same ∙ drivers_same net c may y live) ∙ reads
]

-- the new pin's fault, by the net with or without the Not
pub last_same : (net : Net) (c : Candidate) → MayAdd net c → (b : Bool) → last_pin (net_for net c) c.gate.0 b ≡ last_pin net c.gate.0 b
last_same net c may b = ap (λ (xs : List ℕ). let f : Fault = record { gate = record { 0 = c.gate.0 }; position = length xs; value = b } in f) (drivers_same net c may c.gate.0 (gate_of net c may))

-- THE NODES THAT A WIRE CHANGES
pub wire_changes : (net : Net) (c : Candidate) (made : NodeId) (nodes : List NodeId) → nodes ≡ c.gate ∷ made ∷ [] → made.0 ≡ least_free net → IsSameBut net (with_candidate net c) (numbers_of nodes)
wire_changes net c made nodes is free x none =
    let gate : x ≢ c.gate.0 = λ e. none 0 (ap (λ (ns : List NodeId). slice_get (numbers_of ns) 0) is ∙ ap Some (sym e)) in
    let not : x ≢ least_free net = λ e. none 1 (ap (λ (ns : List NodeId). slice_get (numbers_of ns) 1) is ∙ ap Some (free ∙ sym e)) in
    node_at-other (net_for net c) c.gate.0 (drivers_of (net_for net c) c.gate.0 ++ wire_for net c ∷ []) x gate ∙ made_other c.fresh not
  where
    made_other : (fresh : Bool) → x ≢ least_free net → node_at (if fresh then with_new_not net c.node.0 else net) x ≡ node_at net x
    made_other true ne = not_other net c.node.0 x ne
    made_other false ne = refl

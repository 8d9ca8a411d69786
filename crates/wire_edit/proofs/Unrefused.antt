-- A step that applies and has room isn't refused.
use Rattle.std.proofs.Common.{◌≡◌, ℕ, ◌<◌, ◌≤◌, Bool, true, false, inl, inr, Option, Some, None, length, refl, sym, ◌∙◌, ap, arith}
use Rattle.std.specs.Prelude.{nat_lt, slice_get, ◌↔◌}
use Rattle.std.proofs.lemmas.Bool.{and_parts, false_from_ne_true, lt-ltb}
use Rattle.std.proofs.lemmas.Option.{slice_get_within}
use Rattle.rm_base.specs.declared.numbers.NodeId.{NodeId}
use Rattle.gate_net.specs.Net.{Net, Reads, drivers_of, wire_count}
use Rattle.wire_edit.specs.declared.steps.Step.{Step}
use Rattle.wire_edit.specs.declared.steps.Step.TheVariants.{Add, Fix, NewNot, Const, Same, NoPins, OnePin, Twice, Twin, Dead}
use Rattle.wire_edit.specs.declared.refusal.EditRefusal.{EditRefusal}
use Rattle.wire_edit.specs.declared.refusal.EditRefusal.TheVariants.{Full}
use Rattle.wire_edit.specs.declared.room.Room.{Room}
use Rattle.wire_edit.specs.Tests.{is_live, is_junction, reads_several, is_not, is_gate, is_in_use, is_repeated, is_among, constant_at}
use Rattle.wire_edit.specs.Steps.{Applies, rule_applies}
use Rattle.wire_edit.specs.Refusals.{fault_of, refusal_of, or_else, unless, has_room, ClosesCycle, IsAnswer, live_count, ceiling, nodes_made}
use Rattle.wire_edit.specs.Work.{pins_made}
use Rattle.wire_edit.specs.Rooms.{IsUnspent}
use Rattle.wire_edit.proofs.Tested.{present, several_gate, is_live_there, constant_read, junction_gate, not_gate, repeated_at}
use Rattle.wire_edit.proofs.Reading.{gate_live}

pub not_closing : (net : Net) (gate x : NodeId) (cyclic : Bool) → Applies net (Add gate x) → (cyclic ≡ true) ↔ ClosesCycle net (Add gate x) → cyclic ≡ false
not_closing net gate x cyclic applies tells = false_from_ne_true cyclic (λ e. elim (tells.0 e) [ inl same ↦ applies.1.1.0 same | inr path ↦ applies.1.1.1.0 path ])

lives : (net : Net) (gate : NodeId) → is_gate net gate.0 ≡ true → is_live net gate.0 ≡ true
lives net gate g = is_live_there net gate.0 (gate_live net gate.0 g)

-- no reason among so many
none_three : (a b d : Bool) (x y z : EditRefusal) → a ≡ true → b ≡ true → d ≡ true → or_else (unless a x) (or_else (unless b y) (or_else (unless d z) None)) ≡ None
none_three a b d x y z ea eb ed = rw (ea, eb, ed) refl

none_four : (a b d e : Bool) (w x y z : EditRefusal) → a ≡ true → b ≡ true → d ≡ true → e ≡ true → or_else (unless a w) (or_else (unless b x) (or_else (unless d y) (or_else (unless e z) None))) ≡ None
none_four a b d e w x y z ea eb ed ee = rw (ea, eb, ed, ee) refl

pub applies_faultless : (net : Net) (step : Step) (cyclic : Bool) → Applies net step → (cyclic ≡ true) ↔ ClosesCycle net step → fault_of net step cyclic ≡ None
applies_faultless net (Add gate x) cyclic applies tells =
    let a : is_live net gate.0 ≡ true = lives net gate (junction_gate net gate.0 applies.0) in
    let b : is_live net x.0 ≡ true = applies.1.0 in
    let j : is_junction net gate.0 ≡ true = applies.0 in
    let k : cyclic ≡ false = not_closing net gate x cyclic applies tells in
    let m : is_among x.0 (drivers_of net gate.0) ≡ false = applies.1.1.1.1 in
    rw (a, b, j, k, m) refl
applies_faultless net (Fix gate position value) cyclic applies tells =
    let a : is_live net gate.0 ≡ true = lives net gate applies.0 in
    let g : is_gate net gate.0 ≡ true = applies.0 in
    let p : nat_lt position (length (drivers_of net gate.0)) ≡ true = lt-ltb position (length (drivers_of net gate.0)) applies.1 in
    rw (a, g, p) refl
applies_faultless net (NewNot x) cyclic applies tells = let a : is_live net x.0 ≡ true = applies in rw a refl
applies_faultless net (Const gate position) cyclic applies tells =
    let g : (is_gate net gate.0 ≡ true) × _ = and_parts (is_gate net gate.0) _ applies in
    let u : (is_in_use net gate.0 ≡ true) × _ = and_parts (is_in_use net gate.0) _ g.1 in
    let k : (k : Bool) × (constant_at net gate.0 position ≡ Some k) = present (constant_at net gate.0 position) u.1 in
    let d : (d : ℕ) × (Reads net gate.0 position d × _) = constant_read net gate.0 position k.0 k.1 in
    let p : nat_lt position (length (drivers_of net gate.0)) ≡ true = lt-ltb position (length (drivers_of net gate.0)) (slice_get_within (drivers_of net gate.0) position d.0 d.1.0) in
    none_four (is_live net gate.0) (is_gate net gate.0) (nat_lt position (length (drivers_of net gate.0))) (rule_applies net (Const gate position)) _ _ _ _ (lives net gate g.0) g.0 p applies
applies_faultless net (Same gate position) cyclic applies tells =
    let j : (reads_several net gate.0 ≡ true) × _ = and_parts (reads_several net gate.0) _ applies in
    let u : (is_in_use net gate.0 ≡ true) × (is_repeated (drivers_of net gate.0) position ≡ true) = and_parts (is_in_use net gate.0) _ j.1 in
    let g : is_gate net gate.0 ≡ true = several_gate net gate.0 j.0 in
    let r : (d : ℕ) × ((q : ℕ) × ((q < position) × ((slice_get (drivers_of net gate.0) q ≡ Some d) × (slice_get (drivers_of net gate.0) position ≡ Some d)))) = repeated_at (drivers_of net gate.0) position u.1 in
    let p : nat_lt position (length (drivers_of net gate.0)) ≡ true = lt-ltb position (length (drivers_of net gate.0)) (slice_get_within (drivers_of net gate.0) position r.0 r.1.1.1.1) in
    none_four (is_live net gate.0) (is_gate net gate.0) (nat_lt position (length (drivers_of net gate.0))) (rule_applies net (Same gate position)) _ _ _ _ (lives net gate g) g p applies
applies_faultless net (NoPins gate) cyclic applies tells =
    let j : (is_junction net gate.0 ≡ true) × _ = and_parts (is_junction net gate.0) _ applies in
    let g : is_gate net gate.0 ≡ true = junction_gate net gate.0 j.0 in
    none_three (is_live net gate.0) (is_gate net gate.0) (rule_applies net (NoPins gate)) _ _ _ (lives net gate g) g applies
applies_faultless net (OnePin gate) cyclic applies tells =
    let j : (is_junction net gate.0 ≡ true) × _ = and_parts (is_junction net gate.0) _ applies in
    let g : is_gate net gate.0 ≡ true = junction_gate net gate.0 j.0 in
    none_three (is_live net gate.0) (is_gate net gate.0) (rule_applies net (OnePin gate)) _ _ _ (lives net gate g) g applies
applies_faultless net (Twice gate) cyclic applies tells =
    let j : (is_not net gate.0 ≡ true) × _ = and_parts (is_not net gate.0) _ applies in
    let g : is_gate net gate.0 ≡ true = not_gate net gate.0 j.0 in
    none_three (is_live net gate.0) (is_gate net gate.0) (rule_applies net (Twice gate)) _ _ _ (lives net gate g) g applies
applies_faultless net (Twin gate other) cyclic applies tells =
    let j : (is_not net gate.0 ≡ true) × _ = and_parts (is_not net gate.0) _ applies in
    let u : (is_in_use net gate.0 ≡ true) × _ = and_parts (is_in_use net gate.0) _ j.1 in
    let o : (is_not net other.0 ≡ true) × _ = and_parts (is_not net other.0) _ u.1 in
    let g : is_gate net gate.0 ≡ true = not_gate net gate.0 j.0 in
    none_four (is_live net gate.0) (is_live net other.0) (is_gate net gate.0) (rule_applies net (Twin gate other)) _ _ _ _ (lives net gate g) (lives net other (not_gate net other.0 o.0)) g applies
applies_faultless net (Dead gate) cyclic applies tells =
    let g : (is_gate net gate.0 ≡ true) × _ = and_parts (is_gate net gate.0) _ applies in
    none_three (is_live net gate.0) (is_gate net gate.0) (rule_applies net (Dead gate)) _ _ _ (lives net gate g.0) g.0 applies

pub applicable_made : (net : Net) (room : Room) (step : Step) (answer : Option EditRefusal) → Applies net step → has_room net room step ≡ true → IsAnswer net room step answer → answer ≡ None
applicable_made net room step answer applies roomy a =
    let f : fault_of net step a.cyclic ≡ None = applies_faultless net step a.cyclic applies a.tells in
    a.is ∙ ap (λ (o : Option EditRefusal). or_else o (unless (has_room net room step) Full)) f ∙ ap (λ (b : Bool). unless b Full) roomy

-- what tells whether a pin closes a cycle is one
same_tells : (net : Net) (step : Step) (a b : Bool) → (a ≡ true) ↔ ClosesCycle net step → (b ≡ true) ↔ ClosesCycle net step → a ≡ b
same_tells net step true b f g = sym (g.1 (f.0 refl))
same_tells net step false true f g = f.1 (g.0 refl)
same_tells net step false false f g = refl

pub answers_one : (net : Net) (room : Room) (step : Step) (one other : Option EditRefusal) → IsAnswer net room step one → IsAnswer net room step other → one ≡ other
answers_one net room step one other a b = a.is ∙ ap (λ (cyclic : Bool). refusal_of net room step cyclic) (same_tells net step a.cyclic b.cyclic a.tells b.tells) ∙ sym b.is

-- ROOM
below : (n : ℕ) → 0 < n → nat_lt 0 n ≡ true
below n lt = lt-ltb 0 n lt

rooms_same : (net : Net) (room other : Room) (step : Step) → IsUnspent room → IsUnspent other → has_room net room step ≡ has_room net other step
rooms_same net room other (Add gate x) a b =
    rw (below room.steps a.steps, below room.pins a.pins, below other.steps b.steps, below other.pins b.pins) refl
rooms_same net room other (NewNot x) a b =
    rw (below room.steps a.steps, below room.pins a.pins, below room.nodes a.nodes, below other.steps b.steps, below other.pins b.pins, below other.nodes b.nodes) refl
rooms_same net room other (Fix gate position value) a b = below room.steps a.steps ∙ sym (below other.steps b.steps)
rooms_same net room other (Const gate position) a b = below room.steps a.steps ∙ sym (below other.steps b.steps)
rooms_same net room other (Same gate position) a b = below room.steps a.steps ∙ sym (below other.steps b.steps)
rooms_same net room other (NoPins gate) a b = below room.steps a.steps ∙ sym (below other.steps b.steps)
rooms_same net room other (OnePin gate) a b = below room.steps a.steps ∙ sym (below other.steps b.steps)
rooms_same net room other (Twice gate) a b = below room.steps a.steps ∙ sym (below other.steps b.steps)
rooms_same net room other (Twin gate node) a b = below room.steps a.steps ∙ sym (below other.steps b.steps)
rooms_same net room other (Dead gate) a b = below room.steps a.steps ∙ sym (below other.steps b.steps)

pub rooms_agree : (net : Net) (room other : Room) (step : Step) (answer : Option EditRefusal) → IsUnspent room → IsUnspent other → IsAnswer net room step answer → IsAnswer net other step answer
rooms_agree net room other step answer a b is = record {
  cyclic = is.cyclic;
  tells = is.tells;
  is = is.is ∙ ap (λ (r : Bool). or_else (fault_of net step is.cyclic) (unless r Full)) (rooms_same net room other step a b);
}

pub room_there : (net : Net) (room : Room) (step : Step) → 0 < room.steps → pins_made step ≤ room.pins → nodes_made step ≤ room.nodes → wire_count net < ceiling → live_count net < ceiling → has_room net room step ≡ true
room_there net room (Add gate x) steps pins nodes wires live =
    rw (below room.steps steps, below room.pins (omega (arith, pins)), lt-ltb (wire_count net) ceiling wires) refl
room_there net room (NewNot x) steps pins nodes wires live =
    rw (below room.steps steps, below room.pins (omega (arith, pins)), below room.nodes (omega (arith, nodes)), lt-ltb (live_count net) ceiling live) refl
room_there net room (Fix gate position value) steps pins nodes wires live = below room.steps steps
room_there net room (Const gate position) steps pins nodes wires live = below room.steps steps
room_there net room (Same gate position) steps pins nodes wires live = below room.steps steps
room_there net room (NoPins gate) steps pins nodes wires live = below room.steps steps
room_there net room (OnePin gate) steps pins nodes wires live = below room.steps steps
room_there net room (Twice gate) steps pins nodes wires live = below room.steps steps
room_there net room (Twin gate other) steps pins nodes wires live = below room.steps steps
room_there net room (Dead gate) steps pins nodes wires live = below room.steps steps

-- A step that isn't refused may be made.
use Rattle.std.proofs.Common.{◌≡◌, Bool, true, false, not, inl, inr, Option, Some, None, length, refl, sym}
use Rattle.std.specs.Prelude.{nat_lt}
use Rattle.std.proofs.lemmas.Bool.{ltb-true, both_ways, not-true}
use Rattle.rm_base.specs.declared.numbers.NodeId.{NodeId}
use Rattle.gate_net.specs.Net.{Net, drivers_of}
use Rattle.wire_edit.specs.declared.steps.Step.{Step}
use Rattle.wire_edit.specs.declared.steps.Step.TheVariants.{Add, Fix, NewNot, Const, Same, NoPins, OnePin, Twice, Twin, Dead}
use Rattle.wire_edit.specs.declared.refusal.EditRefusal.{EditRefusal}
use Rattle.wire_edit.specs.declared.room.Room.{Room}
use Rattle.wire_edit.specs.Tests.{is_live, is_junction, is_gate, is_among}
use Rattle.wire_edit.specs.Steps.{rule_applies, Applies}
use Rattle.wire_edit.specs.Refusals.{or_else, unless, fault_of, refusal_of, ClosesCycle, IsAnswer}

no_first : {A : Type 0} (o p : Option A) → or_else o p ≡ None → (o ≡ None) × (p ≡ None)
no_first None p e = (refl, e)
no_first (Some x) p e = cc

passed : (b : Bool) (r : EditRefusal) → unless b r ≡ None → b ≡ true
passed true r e = refl
passed false r e = cc

no_cycle : (net : Net) (gate node : NodeId) (cyclic : Bool) → ((cyclic ≡ true) → ⊥) → cyclic ≡ false
no_cycle net gate node true h = absurd (h refl)
no_cycle net gate node false h = refl

pub answer_faultless : (net : Net) (room : Room) (step : Step) (cyclic : Bool) → refusal_of net room step cyclic ≡ None → fault_of net step cyclic ≡ None
answer_faultless net room step cyclic e = (no_first (fault_of net step cyclic) _ e).0

pub faultless_applies : (net : Net) (step : Step) (cyclic : Bool) → (ClosesCycle net step → cyclic ≡ true) → fault_of net step cyclic ≡ None → Applies net step
faultless_applies net (Add gate node) cyclic tells e =
    let a : _ × _ = no_first (unless (is_live net gate.0) _) _ e in
    let b : _ × _ = no_first (unless (is_live net node.0) _) _ a.1 in
    let c : _ × _ = no_first (unless (is_junction net gate.0) _) _ b.1 in
    let d : _ × _ = no_first (unless (not cyclic) _) _ c.1 in
    let f : _ × _ = no_first (unless (not (is_among node.0 (drivers_of net gate.0))) _) _ d.1 in
    let acyclic : cyclic ≡ false = not-true cyclic (passed (not cyclic) _ d.0) in
    (passed (is_junction net gate.0) _ c.0, (passed (is_live net node.0) _ b.0, (λ is. both_ways cyclic acyclic (tells (inl is)), (λ path. both_ways cyclic acyclic (tells (inr path)), not-true _ (passed (not (is_among node.0 (drivers_of net gate.0))) _ f.0)))))
faultless_applies net (Fix gate position value) cyclic tells e =
    let a : _ × _ = no_first (unless (is_live net gate.0) _) _ e in
    let b : _ × _ = no_first (unless (is_gate net gate.0) _) _ a.1 in
    let c : _ × _ = no_first (unless (nat_lt position (length (drivers_of net gate.0))) _) _ b.1 in
    (passed (is_gate net gate.0) _ b.0, ltb-true position (length (drivers_of net gate.0)) (passed (nat_lt position (length (drivers_of net gate.0))) _ c.0))
faultless_applies net (NewNot node) cyclic tells e = passed (is_live net node.0) _ e
faultless_applies net (Const gate position) cyclic tells e =
    let a : _ × _ = no_first (unless (is_live net gate.0) _) _ e in
    let b : _ × _ = no_first (unless (is_gate net gate.0) _) _ a.1 in
    let c : _ × _ = no_first (unless (nat_lt position (length (drivers_of net gate.0))) _) _ b.1 in
    let d : _ × _ = no_first (unless (rule_applies net (Const gate position)) _) _ c.1 in
    passed (rule_applies net (Const gate position)) _ d.0
faultless_applies net (Same gate position) cyclic tells e =
    let a : _ × _ = no_first (unless (is_live net gate.0) _) _ e in
    let b : _ × _ = no_first (unless (is_gate net gate.0) _) _ a.1 in
    let c : _ × _ = no_first (unless (nat_lt position (length (drivers_of net gate.0))) _) _ b.1 in
    let d : _ × _ = no_first (unless (rule_applies net (Same gate position)) _) _ c.1 in
    passed (rule_applies net (Same gate position)) _ d.0
faultless_applies net (NoPins gate) cyclic tells e =
    let a : _ × _ = no_first (unless (is_live net gate.0) _) _ e in
    let b : _ × _ = no_first (unless (is_gate net gate.0) _) _ a.1 in
    passed (rule_applies net (NoPins gate)) _ (no_first (unless (rule_applies net (NoPins gate)) _) _ b.1).0
faultless_applies net (OnePin gate) cyclic tells e =
    let a : _ × _ = no_first (unless (is_live net gate.0) _) _ e in
    let b : _ × _ = no_first (unless (is_gate net gate.0) _) _ a.1 in
    passed (rule_applies net (OnePin gate)) _ (no_first (unless (rule_applies net (OnePin gate)) _) _ b.1).0
faultless_applies net (Twice gate) cyclic tells e =
    let a : _ × _ = no_first (unless (is_live net gate.0) _) _ e in
    let b : _ × _ = no_first (unless (is_gate net gate.0) _) _ a.1 in
    passed (rule_applies net (Twice gate)) _ (no_first (unless (rule_applies net (Twice gate)) _) _ b.1).0
faultless_applies net (Twin gate other) cyclic tells e =
    let a : _ × _ = no_first (unless (is_live net gate.0) _) _ e in
    let o : _ × _ = no_first (unless (is_live net other.0) _) _ a.1 in
    let b : _ × _ = no_first (unless (is_gate net gate.0) _) _ o.1 in
    passed (rule_applies net (Twin gate other)) _ (no_first (unless (rule_applies net (Twin gate other)) _) _ b.1).0
faultless_applies net (Dead gate) cyclic tells e =
    let a : _ × _ = no_first (unless (is_live net gate.0) _) _ e in
    let b : _ × _ = no_first (unless (is_gate net gate.0) _) _ a.1 in
    passed (rule_applies net (Dead gate)) _ (no_first (unless (rule_applies net (Dead gate)) _) _ b.1).0

pub answers_apply : (net : Net) (room : Room) (step : Step) → IsAnswer net room step None → Applies net step
answers_apply net room step answer = faultless_applies net step answer.cyclic answer.tells.1 (answer_faultless net room step answer.cyclic (sym answer.is))

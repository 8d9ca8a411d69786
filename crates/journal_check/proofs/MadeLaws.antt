-- Steps of a journal, as they are made.
use Rattle.std.proofs.Common.{◌≡◌, ◌≢◌, ℕ, ◌<◌, Bool, true, false, Option, Some, None, Ok, Err, IfSome, List, refl, ap, sym, subst, inl, inr, arith, nat_lt}
use Rattle.std.proofs.lemmas.Bool.Decides.{nat_tests}
use Rattle.rm_base.specs.declared.numbers.Fault.{Fault}
use Rattle.gate_net.specs.Net.{Node, Net, IsLive, drivers_of, kind_in, node_at, wire_count}
use Rattle.gate_net.specs.Values.{HasPin}
use Rattle.refutation.specs.declared.items.Item.{Item}
use Rattle.refutation.specs.declared.items.Form.TheVariants.{Closed}
use Rattle.refutation_check.specs.FirstRefusal.{IsAcceptedAs, IsFirstRefusal}
use Rattle.wire_edit.specs.declared.steps.Step.{Step}
use Rattle.wire_edit.specs.declared.steps.Step.TheVariants as step
use Rattle.wire_edit.specs.declared.room.Room.{Room}
use Rattle.wire_edit.specs.declared.refusal.EditRefusal.{EditRefusal}
use Rattle.wire_edit.specs.declared.refusal.EditRefusal.TheVariants.{Full}
use Rattle.wire_edit.specs.Tests.{control_of, gate_control, is_present}
use Rattle.wire_edit.specs.Steps.{Applies, stepped}
use Rattle.wire_edit.specs.Refusals.{IsAnswer, fault_of, has_room, or_else, unless, live_count, ceiling}
use Rattle.wire_edit.specs.Laws.{AnswersApply}
use Rattle.wire_edit.specs.Rooms.{IsUnspent, RoomsAgree}
use Rattle.wire_edit.specs.Sizes.{AddedIsLast}
use Rattle.journal_text.specs.Accepted.{IsAcceptedStep, IsJustified, MayGrow}
use Rattle.journal_check.specs.declared.refusal.Why.{Why}
use Rattle.journal_check.specs.declared.refusal.Why.TheVariants as why
use Rattle.journal_check.specs.Replaying.{StepLeads, one_each, refused, IsStepTree}
use Rattle.journal_check.specs.Inner.Replaying.{AddSays, FixSays, IsAddedPin}
use Rattle.rm_base.proofs.Public.{stands_below}

or_none : {A : Type 0} (o p : Option A) → None ≡ or_else o p → (o ≡ None) × (p ≡ None)
or_none None p e = (refl, sym e)
or_none (Some x) p e = cc

unless_none : (b : Bool) (r : EditRefusal) → unless b r ≡ None → b ≡ true
unless_none true r e = refl
unless_none false r e = cc

less : (a b : ℕ) → nat_lt a b ≡ true → a < b
less a b e = grind (arith, nat_tests)

grows_where : (net : Net) (s : Step) → has_room net one_each s ≡ true → MayGrow net s
grows_where net (step.Add gate node) e = less (wire_count net) ceiling e
grows_where net (step.Fix gate position value) e = tt
grows_where net (step.NewNot node) e = less (live_count net) ceiling e
grows_where net (step.Const gate position) e = tt
grows_where net (step.Same gate position) e = tt
grows_where net (step.NoPins gate) e = tt
grows_where net (step.OnePin gate) e = tt
grows_where net (step.Twice gate) e = tt
grows_where net (step.Twin gate other) e = tt
grows_where net (step.Dead gate) e = tt

may_grow : (net : Net) (s : Step) → IsAnswer net one_each s None → MayGrow net s
may_grow net s a = grows_where net s (unless_none (has_room net one_each s) Full (or_none (fault_of net s a.cyclic) (unless (has_room net one_each s) Full) a.is).1)

-- room for one step is as good as room for many
pub one_answer : RoomsAgree → (net : Net) (room : Room) (s : Step) (r : Option EditRefusal) → IsUnspent room → IsAnswer net room s r → IsAnswer net one_each s r
one_answer agree net room s r some a = agree net room one_each s r some (record { pins = omega arith; nodes = omega arith; steps = omega arith }) a

control_case : (net : Net) (gate : ℕ) (c : Bool) (o : Option Node) → node_at net gate ≡ o → gate_control (kind_in o) ≡ Some c → IsLive net gate
control_case net gate c None e k = cc
control_case net gate c (Some n) e k = (n.kind, (n.drivers, e))

-- a gate that a value controls is live
control_live : (net : Net) (gate : ℕ) (c : Bool) → control_of net gate ≡ Some c → IsLive net gate
control_live net gate c k = control_case net gate c (node_at net gate) refl k

pub err_edit : (net : Net) (s : Step) (tree : List Item) (e : EditRefusal) → IsAnswer net one_each s (Some e) → why.Edit e ≢ why.NoMemory → StepLeads net s tree (refused (why.Edit e))
err_edit net s tree e a n = inl (e, (a, refl))

pub err_before : (net : Net) (s : Step) (tree : List Item) (w : Why) → AnswersApply → IsAnswer net one_each s None → FixSays net s tree (Err w) → w ≢ why.NoMemory → StepLeads net s tree (refused w)
err_before net (step.Fix gate position value) tree w applies a f n =
    let says = f (stands_below (drivers_of net gate.0) position (applies net one_each (step.Fix gate position value) a).1) n in
    inr (inl (a, (says.0, (says.1.0, ap refused says.1.1))))
err_before net (step.Add gate node) tree w applies a f n = absurd f
err_before net (step.NewNot node) tree w applies a f n = absurd f
err_before net (step.Const gate position) tree w applies a f n = absurd f
err_before net (step.Same gate position) tree w applies a f n = absurd f
err_before net (step.NoPins gate) tree w applies a f n = absurd f
err_before net (step.OnePin gate) tree w applies a f n = absurd f
err_before net (step.Twice gate) tree w applies a f n = absurd f
err_before net (step.Twin gate other) tree w applies a f n = absurd f
err_before net (step.Dead gate) tree w applies a f n = absurd f

pub err_after : (net : Net) (s : Step) (tree : List Item) (w : Why) (added : Option Fault) → IsAnswer net one_each s None → IsAddedPin net s added → AddSays (stepped net s) added tree (Err w) → w ≢ why.NoMemory → StepLeads net s tree (refused w)
err_after net s tree w None a p f n = absurd f
err_after net (step.Add gate node) tree w (Some fault) a p f n =
    let says = f n in
    inr (inl (a, (says.0, ((p.0, (p.1.0, subst (λ (g : Fault). IsFirstRefusal (stepped net (step.Add gate node)) g Closed tree says.0) p.1.1 says.1.0)), ap refused says.1.1))))
err_after net (step.Fix gate position value) tree w (Some fault) a p f n = absurd p
err_after net (step.NewNot node) tree w (Some fault) a p f n = absurd p
err_after net (step.Const gate position) tree w (Some fault) a p f n = absurd p
err_after net (step.Same gate position) tree w (Some fault) a p f n = absurd p
err_after net (step.NoPins gate) tree w (Some fault) a p f n = absurd p
err_after net (step.OnePin gate) tree w (Some fault) a p f n = absurd p
err_after net (step.Twice gate) tree w (Some fault) a p f n = absurd p
err_after net (step.Twin gate other) tree w (Some fault) a p f n = absurd p
err_after net (step.Dead gate) tree w (Some fault) a p f n = absurd p

pub pin_there : AddedIsLast → (net : Net) (s : Step) (added : Option Fault) → IsAddedPin net s added → IfSome added (λ f. HasPin (stepped net s) f)
pin_there last net s None p = tt
pin_there last net (step.Add gate node) (Some fault) p = subst (λ (g : Fault). HasPin (stepped net (step.Add gate node)) g) (sym p.1.1) (node.0, last net gate.0 node.0 (control_live net gate.0 p.0 p.1.0))
pin_there last net (step.Fix gate position value) (Some fault) p = absurd p
pin_there last net (step.NewNot node) (Some fault) p = absurd p
pin_there last net (step.Const gate position) (Some fault) p = absurd p
pin_there last net (step.Same gate position) (Some fault) p = absurd p
pin_there last net (step.NoPins gate) (Some fault) p = absurd p
pin_there last net (step.OnePin gate) (Some fault) p = absurd p
pin_there last net (step.Twice gate) (Some fault) p = absurd p
pin_there last net (step.Twin gate other) (Some fault) p = absurd p
pin_there last net (step.Dead gate) (Some fault) p = absurd p

no_control : (o : Option Bool) → is_present o ≡ true → o ≡ None → ⊥
no_control None p e = cc
no_control (Some c) p e = cc

just : (net : Net) (s : Step) (tree : List Item) (added : Option Fault) → Applies net s → FixSays net s tree (Ok tt) → IsAddedPin net s added → AddSays (stepped net s) added tree (Ok tt) → IsStepTree s tree → IsJustified net s tree
just net (step.Add gate node) tree None applies f p a t = absurd (no_control (control_of net gate.0) applies.0 p)
just net (step.Add gate node) tree (Some fault) applies f p a t = (p.0, (p.1.0, subst (λ (g : Fault). IsAcceptedAs Closed (stepped net (step.Add gate node)) g tree) p.1.1 a))
just net (step.Fix gate position value) tree added applies f p a t = f (stands_below (drivers_of net gate.0) position applies.1)
just net (step.NewNot node) tree added applies f p a t = t
just net (step.Const gate position) tree added applies f p a t = t
just net (step.Same gate position) tree added applies f p a t = t
just net (step.NoPins gate) tree added applies f p a t = t
just net (step.OnePin gate) tree added applies f p a t = t
just net (step.Twice gate) tree added applies f p a t = t
just net (step.Twin gate other) tree added applies f p a t = t
just net (step.Dead gate) tree added applies f p a t = t

pub accepted : (net : Net) (s : Step) (tree : List Item) (added : Option Fault) → AnswersApply → IsAnswer net one_each s None → FixSays net s tree (Ok tt) → IsAddedPin net s added → AddSays (stepped net s) added tree (Ok tt) → IsStepTree s tree → IsAcceptedStep net s tree
accepted net s tree added applies a f p e t =
    let may = applies net one_each s a in
    record { applies = may; grows = may_grow net s a; justified = just net s tree added may f p e t }

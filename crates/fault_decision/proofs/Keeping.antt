-- What leads back still does.
use Rattle.std.proofs.Common.{List, [], length, refl, ℕ, ◌∙◌, ◌≡◌, ◌≤◌}
use Rattle.std.specs.Prelude.{Err, IfOk, Ok, OnOk, Result}
use Rattle.gate_net.specs.Net.{Net}
use Rattle.implications.proofs.Public.{none_seen_in, rest_comes}
use Rattle.implications.specs.Bases.{HasRoom, IsFitted, IsFor}
use Rattle.implications.specs.State.{EngineState}
use Rattle.implications.specs.Trail.{LeadsBack}
use Rattle.implications.specs.declared.basis.Basis.{Basis}
use Rattle.fault_decision.specs.Inner.Working.{Keeps}
use Rattle.refutation.specs.declared.held.NodeFacts.{NodeFacts}

pub keeps_none : (e : EngineState) (f : List NodeFacts) → Keeps e e f f
keeps_none e f = record { numbers = refl; size = refl; back = λ mark start h. h }

pub keeps_join : (a b c : EngineState) (f g h : List NodeFacts) → Keeps a b f g → Keeps b c g h → Keeps a c f h
keeps_join a b c f g h one two = record {
  numbers = two.numbers ∙ one.numbers;
  size = two.size ∙ one.size;
  back = λ mark start e. two.back mark start (one.back mark start e);
}

-- taking back all that came after the mark gives the facts that there were
pub taken_same : (a b : EngineState) (mark : ℕ) (f g h : List NodeFacts) → ((now : List NodeFacts) → LeadsBack a.trail mark now now) → Keeps a b f g → ((start : List NodeFacts) → LeadsBack b.trail mark g start → h ≡ start) → h ≡ f
taken_same a b mark f g h here keeps back = back f (keeps.back mark f (here f))

-- and what led back before still does
pub taken_keeps : (a b c : EngineState) (mark : ℕ) (f g h : List NodeFacts) → mark ≡ length a.trail → Keeps a b f g → ((earlier : ℕ) (start : List NodeFacts) → earlier ≤ mark → LeadsBack b.trail earlier g start → LeadsBack c.trail earlier h start) → c.numbers ≡ b.numbers → length h ≡ length g → Keeps a c f h
taken_keeps a b c mark f g h is keeps earlier numbers size = record {
  numbers = numbers ∙ keeps.numbers;
  size = size ∙ keeps.size;
  back = λ m start leads. earlier m start (rw is leads.order) (keeps.back m start leads);
}

pub keeps_on : {A E : Type 0} (a b c : EngineState) (f g h : List NodeFacts) (r : Result A E) → Keeps a b f g → IfOk r (λ _. Keeps b c g h) → IfOk r (λ _. Keeps a c f h)
keeps_on a b c f g h (Ok x) one two = keeps_join a b c f g h one two
keeps_on a b c f g h (Err e) one two = two

-- the facts of a basis were added to in place
pub serves_still : (net : Net) (before after : EngineState) (b : Basis) (new : List NodeFacts) → IsFor net before b → Keeps before after b.facts new → IsFor net after (record b { facts = new })
serves_still net before after b new serves keeps = record {
  numbers = rw keeps.numbers serves.numbers;
  room = record { nodes = serves.room.nodes; facts = keeps.size ∙ serves.room.facts; taken = serves.room.taken };
  rest = record { start = serves.rest.start; leads = keeps.back 0 serves.rest.start serves.rest.leads; rest = serves.rest.rest };
  pinless = serves.pinless;
}

pub serves_on : {A E : Type 0} (net : Net) (before after : EngineState) (b : Basis) (new : List NodeFacts) (r : Result A E) → IsFor net before b → IfOk r (λ _. Keeps before after b.facts new) → OnOk r (IsFor net after (record b { facts = new }))
serves_on net before after b new (Ok x) serves keeps = serves_still net before after b new serves keeps
serves_on net before after b new (Err e) serves keeps = keeps

-- a basis at rest, and an engine that has added nothing
pub fitted_serves : (net : Net) (e : EngineState) (b : Basis) → length net.nodes ≤ e.numbers → e.trail ≡ [] → HasRoom net b → IsFitted net b → IsFor net e b
fitted_serves net e b numbers trail room fitted = record {
  numbers = numbers;
  room = room;
  rest = rw trail (rest_comes net b.taken b.facts fitted.rest (none_seen_in b.taken fitted.none));
  pinless = fitted.pinless;
}

-- Beside Settled.antt: what only private contracts, invariants and laws speak of.
use Rattle.std.specs.Prelude.{IsTrue, List, None, Option, Some, false, length, ℕ, ◌≡◌, ◌≤◌}
use Rattle.gate_net.specs.Net.{IsLive, IsWellFormed, Net}
use Rattle.gate_net.specs.Values.{HasPin}
use Rattle.implications.specs.declared.found.Found.{Found}
use Rattle.refutation.specs.Facts.{Held}
use Rattle.refutation.specs.FactSets.{held_by}
use Rattle.refutation.specs.Lines.{Concludes}
use Rattle.refutation.specs.declared.held.NodeFacts.{NodeFacts}
use Rattle.refutation.specs.declared.reasoning.Fact.{Fact}
use Rattle.refutation.specs.declared.reasoning.Line.{Line}
use Rattle.rm_base.specs.declared.numbers.Fault.{Fault}
use Rattle.implications.specs.Settled.{place_of, IsSettled}

-- what each line without a place gives is held
abbrev pub HasFirst : Net → Fault → Held → Type 0
HasFirst net fault held = (l : Line) (x : ℕ) (fact : Fact) → place_of l ≡ None → Concludes net fault held l x fact → IsTrue (held x fact)

-- what the line gives is held
abbrev pub IsDone : Net → Fault → List NodeFacts → Line → Type 0
IsDone net fault facts l = (x : ℕ) (fact : Fact) → Concludes net fault (held_by facts) l x fact → IsTrue (held_by facts x fact)

-- a line that gives a fact which isn't held
pub record IsFresh (net : Net) (fault : Fault) (facts : List NodeFacts) (f : Found) : Type 0 where
  pub gives : Concludes net fault (held_by facts) f.line f.node.0 f.fact
  pub new : held_by facts f.node.0 f.fact ≡ false
  pub live : IsLive net f.node.0

-- a fresh fact, or none exactly where the line is done
abbrev pub IsTried : Net → Fault → List NodeFacts → Line → Option Found → Type 0
IsTried net fault facts l None = IsDone net fault facts l
IsTried net fault facts l (Some f) = IsFresh net fault facts f

-- a fresh fact, or none exactly where the node is settled
abbrev pub IsNext : Net → Fault → List NodeFacts → ℕ → Option Found → Type 0
IsNext net fault facts y None = IsSettled net fault (held_by facts) y
IsNext net fault facts y (Some f) = IsFresh net fault facts f

-- all that the engine is given
pub record IsReady (net : Net) (fault : Fault) (facts : List NodeFacts) : Type 0 where
  pub formed : IsWellFormed net
  pub stuck : HasPin net fault
  pub size : length net.nodes ≤ length facts

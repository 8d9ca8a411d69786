-- What a stretch of the search begins with, keeps and comes to.
use Rattle.std.specs.Prelude.{List, None, length, ℕ, ◌≡◌, ◌≤◌}
use Rattle.gate_net.specs.Faults.{IsTest}
use Rattle.gate_net.specs.Net.{IsLive, Net}
use Rattle.implications.specs.State.{EngineState}
use Rattle.implications.specs.Trail.{LeadsBack}
use Rattle.fault_decision.specs.declared.looking.End.{End}
use Rattle.fault_decision.specs.declared.looking.End.TheVariants.{Closed, Detected, Open}
use Rattle.fault_decision.specs.declared.looking.Found.{Found}
use Rattle.fault_decision.specs.declared.looking.Found.TheVariants.{Ends, Splits}
use Rattle.refutation.specs.Closing.{IsClashFree, IsClosedUnderLines}
use Rattle.refutation.specs.FactSets.{held_by}
use Rattle.refutation.specs.Facts.{known_good}
use Rattle.refutation.specs.declared.held.NodeFacts.{NodeFacts}
use Rattle.rm_base.specs.declared.numbers.Fault.{Fault}

-- the facts are closed under every line, without a clash
pub record IsReady (net : Net) (fault : Fault) (facts : List NodeFacts) : Type 0 where
  pub closed : IsClosedUnderLines net fault (held_by facts)
  pub free : IsClashFree (held_by facts)
  pub size : length net.nodes ≤ length facts

-- a live node whose good value isn't known
pub record MaySplitOn (net : Net) (facts : List NodeFacts) (x : ℕ) : Type 0 where
  pub live : IsLive net x
  pub unknown : known_good (held_by facts) x ≡ None

-- what led back from the facts before leads back from those now
pub record Keeps (before after : EngineState) (old new : List NodeFacts) : Type 0 where
  pub numbers : after.numbers ≡ before.numbers
  pub size : length new ≡ length old
  pub back : (mark : ℕ) (start : List NodeFacts) → LeadsBack before.trail mark old start → LeadsBack after.trail mark new start

-- a vector is a test
abbrev pub IsEnd : Net → Fault → End → Type 0
IsEnd net fault (Detected bits) = IsTest net fault bits
IsEnd net fault Closed = Unit {0}
IsEnd net fault Open = Unit {0}

-- a vector is a test, and a split may be made
abbrev pub IsFound : Net → Fault → List NodeFacts → Found → Type 0
IsFound net fault facts (Ends end) = IsEnd net fault end
IsFound net fault facts (Splits goal) = MaySplitOn net facts goal.node.0

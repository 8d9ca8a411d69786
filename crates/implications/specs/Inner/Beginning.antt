-- Beside Beginning.antt: what only private contracts, invariants and laws speak of.
use Rattle.std.specs.Prelude.{Bool, List, None, Option, Some, length, ℕ, ◌<◌, ◌≡◌, ◌⊎◌}
use Rattle.gate_net.specs.Net.{Net}
use Rattle.implications.specs.Inner.Settled.{IsDone}
use Rattle.implications.specs.Inner.Tallies.{AreTallied, TallyState}
use Rattle.implications.specs.Inner.Working.{IsPending, Keeps, Works}
use Rattle.refutation.specs.Closing.{IsClashFree}
use Rattle.refutation.specs.FactSets.{held_by}
use Rattle.refutation.specs.Facts.{AreOpposed}
use Rattle.refutation.specs.Walks.{Walks}
use Rattle.refutation.specs.declared.held.NodeFacts.{NodeFacts}
use Rattle.refutation.specs.declared.reasoning.Fact.{Fact}
use Rattle.refutation.specs.declared.reasoning.Line.{Line}
use Rattle.refutation.specs.declared.reasoning.Line.TheVariants.{Act, Chain, Out, Site}
use Rattle.rm_base.specs.declared.numbers.Fault.{Fault}
use Rattle.rm_base.specs.declared.numbers.NodeId.{NodeId}
use Rattle.implications.specs.Beginning.{node_of}

-- two facts are opposed on the node, or no two are on any, and then that holds
abbrev pub Gives : List NodeFacts → Type 0 → Option NodeId → Type 0
Gives facts P None = IsClashFree (held_by facts) × P
Gives facts P (Some x) = AreOpposed (held_by facts) x.0

abbrev pub AreDoneAtFault : Net → Fault → List NodeFacts → Type 0
AreDoneAtFault net fault facts = IsDone net fault facts Act × IsDone net fault facts Site

abbrev pub AreDoneOnChain : Net → Fault → List NodeFacts → Type 0
AreDoneOnChain net fault facts = (z : NodeId) → IsDone net fault facts (Chain z)

abbrev pub AreDoneOutside : Net → Fault → List NodeFacts → Type 0
AreDoneOutside net fault facts = (z : NodeId) → IsDone net fault facts (Out z)

-- the lines of the chain were tried up to this node, which is that many steps from the gate
pub record Chaining (net : Net) (fault : Fault) (old : List NodeFacts) (old_lines : List Line) (old_trail : List (NodeId × Fact)) (new : List NodeFacts) (new_lines : List Line) (new_trail : List (NodeId × Fact)) (at count : ℕ) : Type 0 where
  pub works : Works net fault old old_lines new new_lines
  pub keeps : Keeps old old_trail new new_trail
  pub free : IsClashFree (held_by new)
  pub long : Walks net fault.gate.0 (length net.nodes) at count
  pub each : (z : ℕ) → IsDone net fault new (Chain (node_of z)) ⊎ Walks net fault.gate.0 z at count

-- the lines of the nodes below the number were tried
pub record GivingOut (net : Net) (fault : Fault) (number : ℕ) (old : List NodeFacts) (old_lines : List Line) (old_trail : List (NodeId × Fact)) (new : List NodeFacts) (new_lines : List Line) (new_trail : List (NodeId × Fact)) : Type 0 where
  pub works : Works net fault old old_lines new new_lines
  pub keeps : Keeps old old_trail new new_trail
  pub free : IsClashFree (held_by new)
  pub done : (z : ℕ) → z < number → IsDone net fault new (Out (node_of z))

-- where each node was on the worklist or settled, each still is
abbrev pub StaysPending : Net → Fault → List NodeFacts → List Bool → List NodeFacts → List Bool → Type 0
StaysPending net fault before worklist after worklist' = IsPending net fault before worklist → IsPending net fault after worklist'

-- the tallies are those of the facts, and there is as much room as before
pub record IsGoing (net : Net) (fault : Fault) (facts : List NodeFacts) (worklist : List Bool) (tallies : TallyState) (worklist' : List Bool) (tallies' : TallyState) : Type 0 where
  pub tallied : AreTallied net (held_by facts) fault.position tallies'
  pub size : length worklist' ≡ length worklist
  pub room : length tallies'.counted ≡ length tallies.counted

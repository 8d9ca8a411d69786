-- A try step by step: its wire, its records, and whether it gains or leaves all as it was.
use Rattle.std.specs.Prelude.{◌≡◌, ◌<◌, ◌≤◌, ◌+◌, ◌++◌, ◌∷◌, [], ◌⊎◌, ℕ, Bool, true, false, not, List, Some, if◌then◌else◌, length, max}
use Rattle.gate_net.specs.Net.{Net, wire_count, gate_count}
use Rattle.gate_net.specs.Values.{HasPin}
use Rattle.gate_net.specs.Edits.{fixed, last_pin}
use Rattle.refutation.specs.Facts.{Held}
use Rattle.refutation.specs.declared.items.Item.{Item}
use Rattle.wire_edit.specs.Tests.{control_of}
use Rattle.wire_edit.specs.Order.{IsTidy, node}
use Rattle.wire_edit.specs.declared.steps.Step.TheVariants.{Add, Fix, NewNot}
use Rattle.candidate_wires.specs.declared.candidate.Candidate.{Candidate}
use Rattle.candidate_wires.specs.declared.candidate.Pair.{Pair}
use Rattle.candidate_wires.specs.Joining.{MayRead}
use Rattle.candidate_wires.specs.Gains.{wire_for, with_candidate, Gains}
use Rattle.candidate_wires.specs.Additions.{additions}
use Rattle.candidate_wires.specs.Tries.{CostsNoWire}
use Rattle.wire_edit.specs.Tidying.{TidiesTo}
use Rattle.journal_text.specs.declared.record.Record.{Record}
use Rattle.journal_text.specs.declared.record.Record.TheVariants as record_of
use Rattle.journal_text.specs.Runs.{AcceptedTo, steps_of}
use Rattle.gate_graph.specs.Circuit.{Circuit, net_of}
use Rattle.wire_edit.specs.Refusals.{live_count}
use Rattle.wire_edit.specs.Tried.{Tried}
use Rattle.rar_loop.specs.declared.trying.TryOutcome.{TryOutcome}
use Rattle.rar_loop.specs.declared.trying.TryOutcome.TheVariants.{Gained, Failed}
use Rattle.rar_loop.specs.Sizes.{IsSame, IsWithin, most_steps}
use Rattle.refutation.specs.Detected.{HasOpenSet}
use Rattle.rar_loop.specs.Swept.{IsSwept}
use Rattle.rar_loop.specs.Inner.Swept.{HasSwept}
use Rattle.journal_text.specs.Runs.{AreRemovals}
use Rattle.rar_loop.specs.Trying.{IsClean, IsLent}

-- the wire may be added to the net
abbrev pub MayAdd : Net → Candidate → Type 0
MayAdd net c = (held : Held) × MayRead net held c.gate.0 c.node.0 c.fresh

-- the pair's pin is there, and its wire may be added
pub record MayTry (net : Net) (pair : Pair) : Type 0 where
  pub pin : HasPin net pair.fault
  pub wire : MayAdd net pair.candidate

-- the fault at the noncontrolling value of the wire's pin has a set of facts closed at the depth
abbrev pub IsNewPinOpen : Net → Candidate → ℕ → Type 0
IsNewPinOpen net c depth =
    (control : Bool) × ((control_of net c.gate.0 ≡ Some control) × HasOpenSet (with_candidate net c) (last_pin net c.gate.0 (not control)) depth)

-- the records of the Not, where the wire is fresh, and of the addition
abbrev pub not_records : Candidate → List Record
not_records c = if c.fresh then record_of.Step (NewNot c.node) [] ∷ [] else []

abbrev pub adding_records : Net → Candidate → List Item → List Record
adding_records net c tree = not_records c ++ record_of.Step (Add c.gate (node (wire_for net c))) tree ∷ []

-- the wire is added with an accepted tree, or its pin's fault has an open set
abbrev pub HasAdded : Net → Candidate → ℕ → List Record → Bool → Type 0
HasAdded net c depth records true = (tree : List Item) × ((records ≡ adding_records net c tree) × AcceptedTo net records (with_candidate net c))
HasAdded net c depth records false = IsNewPinOpen net c depth

-- the wire was added and the target fixed, with accepted trees; then the net was tidied, which left no more wires, and swept
pub record IsReplaced (net : Net) (pair : Pair) (depth : ℕ) (records : List Record) (after : Net) : Type 0 where
  pub tree : List Item
  pub fix_tree : List Item
  pub rest : List Record
  pub are : records ≡ adding_records net pair.candidate tree ++ record_of.Step (Fix pair.fault.gate pair.fault.position pair.fault.value) fix_tree ∷ rest
  pub removals : AreRemovals (steps_of rest)
  pub accepted : AcceptedTo net records after
  pub mid : Net
  pub tidied : TidiesTo (fixed (with_candidate net pair.candidate) pair.fault) mid
  pub no_more : wire_count mid ≤ wire_count net
  pub swept : HasSwept mid after depth
  pub tidy : IsTidy after
  pub gates : gate_count after ≤ gate_count net + 1
  pub numbers : length after.nodes ≤ max (length net.nodes) (live_count net + 1)

-- tidying leaves more wires
abbrev pub CostsWires : Net → Pair → Type 0
CostsWires net pair = (after : Net) × (TidiesTo (fixed (with_candidate net pair.candidate) pair.fault) after × (wire_count net < wire_count after))

-- the pair was put through; or one of its two faults has an open set with the wire added, or there are more wires
abbrev pub HasReplaced : Net → Pair → ℕ → List Record → Net → Bool → Type 0
HasReplaced net pair depth records after true = IsReplaced net pair depth records after
HasReplaced net pair depth records after false = IsNewPinOpen net pair.candidate depth ⊎ (HasOpenSet (with_candidate net pair.candidate) pair.fault depth ⊎ CostsWires net pair)

-- the records lead to a tidy and swept net of fewer wires, by one addition
pub record IsGained (net : Net) (pair : Pair) (depth : ℕ) (records : List Record) (after : Net) : Type 0 where
  pub accepted : AcceptedTo net records after
  pub fewer : wire_count after < wire_count net
  pub tidy : IsTidy after
  pub swept : IsSwept after depth
  pub clean : IsClean false (steps_of records)
  pub cost : CostsNoWire net pair
  pub addition : additions net (steps_of records) ≡ record { before = net; candidate = pair.candidate; target = Some pair.fault; after = after } ∷ []

-- a graph of fewer wires, by one addition; it takes no more than before, and the steps are as few as a trial has room for
pub record IsBetter (before : Circuit) (pair : Pair) (depth : ℕ) (records : List Record) (graph : Circuit) : Type 0 where
  pub gained : IsGained (net_of before) pair depth records (net_of graph)
  pub within : IsWithin before graph
  pub few : length records ≤ most_steps

-- the graph is as it was, and the trial may be lent again
pub record IsBack (before now : Tried) : Type 0 where
  pub same : IsSame before.graph now.graph
  pub lent : IsLent now

-- the trial's graph has fewer wires, by one addition, and the trial may be lent again
pub record IsAhead (before : Tried) (pair : Pair) (depth : ℕ) (records : List Record) (now : Tried) : Type 0 where
  pub better : IsBetter before.graph pair depth records now.graph
  pub lent : IsLent now

-- fewer wires; or all as it was, and the pair doesn't gain on the net
abbrev pub IsTryOutcome : Tried → Pair → ℕ → Tried → TryOutcome → Type 0
IsTryOutcome before pair depth now (Gained records) = IsAhead before pair depth records.items now
IsTryOutcome before pair depth now Failed = IsBack before now × (Gains (net_of before.graph) pair → ⊥)

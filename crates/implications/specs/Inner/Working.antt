-- Working off the worklist.
use Rattle.std.specs.Prelude.{Bool, List, None, Option, Some, [], length, suc, ℕ, ◌*◌, ◌++◌, ◌+◌, ◌∷◌, ◌≡◌, ◌≤◌, ◌⊎◌}
use Rattle.gate_graph.specs.Search.{IsSeen}
use Rattle.gate_net.specs.Net.{Net, Reads}
use Rattle.refutation.specs.Worklists.{seen_count}
use Rattle.implications.specs.Settled.{IsSettled}
use Rattle.implications.specs.Trail.{LeadsBack}
use Rattle.implications.specs.declared.found.Found.{Found}
use Rattle.refutation.specs.Closing.{IsClashFree, IsClosedUnderLines, IsWithin, LinesLead}
use Rattle.refutation.specs.FactSets.{Becomes, held_by, missing}
use Rattle.refutation.specs.Facts.{AreOpposed, Held, with_fact}
use Rattle.refutation.specs.declared.held.NodeFacts.{NodeFacts}
use Rattle.refutation.specs.declared.reasoning.Fact.{Fact}
use Rattle.refutation.specs.declared.reasoning.Line.{Line}
use Rattle.rm_base.specs.declared.numbers.Fault.{Fault}
use Rattle.rm_base.specs.declared.numbers.NodeId.{NodeId}

-- each node is on the worklist or settled
abbrev pub IsPending : Net → Fault → List NodeFacts → List Bool → Type 0
IsPending net fault facts worklist = (y : ℕ) → IsSeen worklist y ⊎ IsSettled net fault (held_by facts) y

-- each node is the one, on the worklist or settled
abbrev pub IsPendingBut : Net → Fault → List NodeFacts → List Bool → ℕ → Type 0
IsPendingBut net fault facts worklist y = (z : ℕ) → (z ≡ y) ⊎ (IsSeen worklist z ⊎ IsSettled net fault (held_by facts) z)

-- how much work is left at most
abbrev pub work : List NodeFacts → List Bool → ℕ
work facts worklist = missing facts * suc (length worklist) + seen_count worklist

-- the node and its readers were put on the worklist
pub record Touches (net : Net) (before after : List Bool) (x : ℕ) : Type 0 where
  pub kept : (z : ℕ) → IsSeen before z → IsSeen after z
  pub itself : IsSeen after x
  pub readers : (z p : ℕ) → Reads net z p x → IsSeen after z
  pub size : length after ≡ length before

-- lines led from one set of facts to the other, of which fewer are missing
pub record Works (net : Net) (fault : Fault) (old : List NodeFacts) (old_lines : List Line) (new : List NodeFacts) (new_lines : List Line) : Type 0 where
  pub goes_on : (start : Held) → LinesLead net fault start old_lines (held_by old) → LinesLead net fault start new_lines (held_by new)
  pub fewer : missing new ≤ missing old

-- facts were added and put on the trail
pub record Keeps (old : List NodeFacts) (old_trail : List (NodeId × Fact)) (new : List NodeFacts) (new_trail : List (NodeId × Fact)) : Type 0 where
  pub more : IsWithin (held_by old) (held_by new)
  pub size : length new ≡ length old
  pub rest : List (NodeId × Fact)
  pub grown : new_trail ≡ old_trail ++ rest
  pub back : (mark : ℕ) (start : List NodeFacts) → LeadsBack old_trail mark old start → LeadsBack new_trail mark new start

-- one fact was found and added
pub record Holds (old : List NodeFacts) (old_lines : List Line) (new : List NodeFacts) (new_lines : List Line) (f : Found) : Type 0 where
  pub facts : Becomes old new (with_fact (held_by old) f.node.0 f.fact)
  pub less : suc (missing new) ≡ missing old
  pub lines : new_lines ≡ old_lines ++ f.line ∷ []

-- the state of a stretch of work at the node
pub record Settling (net : Net) (fault : Fault) (old : List NodeFacts) (old_lines : List Line) (old_trail : List (NodeId × Fact)) (old_worklist : List Bool) (new : List NodeFacts) (new_lines : List Line) (new_trail : List (NodeId × Fact)) (new_worklist : List Bool) (y : ℕ) : Type 0 where
  pub works : Works net fault old old_lines new new_lines
  pub keeps : Keeps old old_trail new new_trail
  pub pending : IsPendingBut net fault new new_worklist y
  pub free : IsClashFree (held_by new)
  pub less : work new new_worklist ≤ work old old_worklist
  pub same : length new_worklist ≡ length old_worklist

-- a stretch of work at the node that ended with a clash
pub record Stops (net : Net) (fault : Fault) (old : List NodeFacts) (old_lines : List Line) (old_worklist : List Bool) (new : List NodeFacts) (new_lines : List Line) (new_worklist : List Bool) (x : ℕ) : Type 0 where
  pub works : Works net fault old old_lines new new_lines
  pub less : work new new_worklist ≤ work old old_worklist
  pub opposed : AreOpposed (held_by new) x

-- what going over the pins of the node y comes to: a clash, or the state of the work at the node
abbrev pub Sweeps : Net → Fault → List NodeFacts → List Line → List (NodeId × Fact) → List Bool → List NodeFacts → List Line → List (NodeId × Fact) → List Bool → ℕ → Option NodeId → Type 0
Sweeps net fault old old_lines old_trail old_worklist new new_lines new_trail new_worklist y None =
    Settling net fault old old_lines old_trail old_worklist new new_lines new_trail new_worklist y
Sweeps net fault old old_lines old_trail old_worklist new new_lines new_trail new_worklist y (Some x) =
    Stops net fault old old_lines old_worklist new new_lines new_worklist x.0

-- what a stretch of work comes to: a clash, or each node is on the worklist or settled
abbrev pub Outcome : Net → Fault → List NodeFacts → List Bool → Option NodeId → Type 0
Outcome net fault facts worklist None = IsPending net fault facts worklist × IsClashFree (held_by facts)
Outcome net fault facts worklist (Some x) = AreOpposed (held_by facts) x.0

-- the state of the work on the worklist
pub record Running (net : Net) (fault : Fault) (old : List NodeFacts) (old_lines : List Line) (old_trail : List (NodeId × Fact)) (old_worklist : List Bool) (new : List NodeFacts) (new_lines : List Line) (new_trail : List (NodeId × Fact)) (new_worklist : List Bool) : Type 0 where
  pub works : Works net fault old old_lines new new_lines
  pub keeps : Keeps old old_trail new new_trail
  pub pending : IsPending net fault new new_worklist
  pub free : IsClashFree (held_by new)
  pub same : length new_worklist ≡ length old_worklist

-- closing comes to a clash, or the facts are closed under every line, without a clash
abbrev pub Closes : Net → Fault → List NodeFacts → Option NodeId → Type 0
Closes net fault facts None = IsClosedUnderLines net fault (held_by facts) × IsClashFree (held_by facts)
Closes net fault facts (Some x) = AreOpposed (held_by facts) x.0

-- what the work comes to: a clash, or each node is settled
abbrev pub Ending : Net → Fault → List NodeFacts → Option NodeId → Type 0
Ending net fault facts None = ((y : ℕ) → IsSettled net fault (held_by facts) y) × IsClashFree (held_by facts)
Ending net fault facts (Some x) = AreOpposed (held_by facts) x.0

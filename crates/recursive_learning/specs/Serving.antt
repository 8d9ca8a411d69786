-- A refuter that serves one net after another.
use Rattle.std.specs.Prelude.{Bool, List, None, Option, Some, false, length, true, ℕ, ◌≡◌, ◌≤◌}
use Rattle.gate_net.specs.Net.{Net}
use Rattle.implications.specs.Bases.{HasRoom as BasisRoom, IsFor}
use Rattle.implications.specs.Outcomes.{IsOpen}
use Rattle.recursive_learning.specs.Answers.{IsRefuting}
use Rattle.recursive_learning.specs.Watching.{HasRoom}
use Rattle.recursive_learning.specs.declared.refuter.Refuter.{Refuter}
use Rattle.implications.specs.declared.outcome.Closed.TheVariants.{Clash, Open}
use Rattle.refutation.specs.Closing.{Clashes}
use Rattle.refutation.specs.declared.held.NodeFacts.{NodeFacts}
use Rattle.refutation.specs.declared.items.Item.{Item}
use Rattle.refutation.specs.declared.reasoning.Line.{Line}
use Rattle.rm_base.specs.declared.numbers.Fault.{Fault}

-- the refuter was made for so many node numbers
pub record IsMade (numbers : ℕ) (r : Refuter) : Type 0 where
  pub engine : r.engine.numbers ≡ numbers
  pub basis : r.basis.numbers ≡ numbers
  pub facts : length r.basis.facts ≡ numbers
  pub taken : length r.basis.taken ≡ numbers
  pub rests : r.watch.rests.numbers ≡ numbers
  pub listed : length r.watch.listed ≡ numbers
  pub shortener : r.shortener ≡ numbers

-- each of its parts has room for the net's node numbers
pub record HasAllRoom (net : Net) (r : Refuter) : Type 0 where
  pub engine : length net.nodes ≤ r.engine.numbers
  pub basis : BasisRoom net r.basis
  pub watch : HasRoom net r.watch
  pub shortener : length net.nodes ≤ r.shortener

-- the refuter was fitted to the net
pub record IsServing (net : Net) (r : Refuter) : Type 0 where
  pub serves : IsFor net r.engine r.basis
  pub room : HasRoom net r.watch
  pub shortener : length net.nodes ≤ r.shortener

-- what closing answers, and the facts that it leaves where it isn't a clash
abbrev pub IsShut : Net → Fault → List NodeFacts → Bool → Type 0
IsShut net fault facts true = Clashes net fault
IsShut net fault facts false = (lines : List Line) × IsOpen net fault lines facts

-- what refuting at a depth answers: a tree as of `refute`, or None and the facts that it leaves
abbrev pub IsRefuted : Net → Fault → ℕ → List NodeFacts → Option (List Item) → Type 0
IsRefuted net fault depth facts None = IsRefuting net fault depth (Open facts)
IsRefuted net fault depth facts (Some items) = IsRefuting net fault depth (Clash items)

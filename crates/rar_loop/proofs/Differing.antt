-- Which nodes the workspace's net differs in.
use Rattle.std.proofs.Common.{◌≡◌, ℕ, List, [], ◌++◌, refl, sym, ◌∙◌, subst}
use Rattle.rm_base.specs.declared.numbers.NodeId.{NodeId}
use Rattle.rm_base.specs.Numbers.{numbers_of}
use Rattle.gate_net.specs.Net.{Net, source_count}
use Rattle.wire_edit.specs.Removals.{ReadsNoConstants}
use Rattle.fault_sim.specs.Following.{DiffersAmong}
use Rattle.changed_nodes.proofs.Public.{same_listed, unlisted_append}
use Rattle.changed_nodes.specs.Changing.{AreNoted, IsUnlisted, ListsNoted}
use Rattle.changed_nodes.specs.declared.changes.Changed.{Changed}
use Rattle.rar_loop.specs.Inner.Spaces.{TouchesOn}

-- the nodes that are listed for a tidy net, and the way back
pub differs_listed : (before net : Net) (changed : Changed) (nodes : List NodeId) → ReadsNoConstants net → source_count net ≡ source_count before → AreNoted before net changed
    → ListsNoted net changed nodes → DiffersAmong before net (numbers_of nodes)
differs_listed before net changed nodes none sources noted listed = record {
  sources = sources;
  others = same_listed before net changed nodes none noted listed;
}

pub differs_back : (net after : Net) (nodes : List ℕ) → DiffersAmong net after nodes → DiffersAmong after net nodes
differs_back net after nodes d = record { sources = sym d.sources; others = λ x u. sym (d.others x u) }

pub differs_none : (net : Net) → DiffersAmong net net []
differs_none net = record { sources = refl; others = λ x u. refl }

pub touches_then : (net after : Net) (old nodes new : List NodeId) → new ≡ old ++ nodes → DiffersAmong net after (numbers_of nodes) → TouchesOn net after old new
touches_then net after old nodes new is d before first = record {
  sources = d.sources ∙ first.sources;
  others = λ x u. (let split = unlisted_append old nodes x (subst (λ (ns : List NodeId). IsUnlisted (numbers_of ns) x) is u) in d.others x split.1 ∙ first.others x split.0);
}

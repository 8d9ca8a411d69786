-- The net of a new graph.
use Rattle.std.specs.Prelude.{ℕ, [], ◌∷◌, replicate}
use Rattle.gate_net.specs.declared.Kind.TheVariants.{Source, Zero, One}
use Rattle.gate_net.specs.Net.{Net, plain_node}

-- the constants and the sources
abbrev pub first_net : ℕ → Net
first_net sources = record {
  nodes = plain_node Zero ∷ plain_node One ∷ replicate sources (plain_node Source);
  observed = [];
}

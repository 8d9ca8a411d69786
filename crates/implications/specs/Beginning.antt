-- The lines that ask for no facts.
use Rattle.std.specs.Prelude.{ℕ}
use Rattle.rm_base.specs.declared.numbers.NodeId.{NodeId}

abbrev pub node_of : ℕ → NodeId
node_of z = record { 0 = z }

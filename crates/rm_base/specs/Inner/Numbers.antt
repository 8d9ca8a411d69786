-- Beside Numbers.antt: what only private contracts, invariants and laws speak of.
use Rattle.rm_base.specs.declared.numbers.NodeId.{NodeId}

-- the node that stands where there is none
abbrev pub default_node : NodeId
default_node = record { 0 = 0 }

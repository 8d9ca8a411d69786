-- What a listed node stands for.
use Rattle.gate_net.specs.Net.{Node}
use Rattle.cover_decompose.specs.declared.plan.PlanNode.{PlanNode}

abbrev pub node_of_plan : PlanNode → Node
node_of_plan n = record { kind = n.kind; drivers = n.drivers.items }

-- What is read past the end of a list.
use Rattle.std.proofs.Common.{false}
use Rattle.recursive_learning.specs.declared.justified_values.GoodValue.{GoodValue}
use Rattle.refutation.specs.declared.reasoning.Fact.{Fact}
use Rattle.refutation.specs.declared.reasoning.Fact.TheVariants.{Good}
use Rattle.rm_base.specs.declared.numbers.NodeId.{NodeId}

abbrev pub no_good : GoodValue
no_good = record { node = record { 0 = 0 }; value = false }

abbrev pub no_added : NodeId × Fact
no_added = (record { 0 = 0 }, Good false)

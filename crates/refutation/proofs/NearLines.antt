-- Lines that look at no more than one gate.
use Rattle.std.proofs.Common.{Option, refl, ◌≢◌}
use Rattle.gate_net.specs.Net.{Net}
use Rattle.refutation.specs.Answers.{IsAnswer}
use Rattle.refutation.specs.Inner.Answers.{IsNearAnswer}
use Rattle.refutation.specs.Facts.{Held}
use Rattle.refutation.specs.declared.reasoning.Fact.{Fact}
use Rattle.refutation.specs.declared.reasoning.Line.{Line}
use Rattle.refutation.specs.declared.reasoning.Line.TheVariants.{Chain, Out}
use Rattle.rm_base.specs.declared.numbers.Fault.{Fault}
use Rattle.rm_base.specs.declared.numbers.NodeId.{NodeId}

pub near_answer : (net : Net) (fault : Fault) (held : Held) (l : Line) (o : Option (NodeId × Fact)) → ((x : NodeId) → l ≢ Chain x) → ((x : NodeId) → l ≢ Out x) → IsNearAnswer net fault held l o → IsAnswer net fault held l o
near_answer net fault held (Chain x) o chain out h = absurd (chain x refl)
near_answer net fault held (Out x) o chain out h = absurd (out x refl)
near_answer net fault held l o chain out h = h

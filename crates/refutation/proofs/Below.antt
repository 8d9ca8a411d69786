-- The node of a fact that a line gives is live.
use Rattle.local_evaluation.proofs.Public.{kind_live}
use Rattle.std.proofs.Common.{IfSome, None, Option, Some, length, ℕ, ◌<◌}
use Rattle.gate_net.specs.Net.{IsWellFormed, Net}
use Rattle.gate_net.specs.Values.{HasPin}
use Rattle.refutation.specs.Answers.{IsAnswer}
use Rattle.refutation.specs.Facts.{Held}
use Rattle.refutation.specs.Lines.{Concludes}
use Rattle.refutation.proofs.Live.{concludes_live}
use Rattle.refutation.specs.declared.reasoning.Fact.{Fact}
use Rattle.refutation.specs.declared.reasoning.Line.{Line}
use Rattle.rm_base.specs.declared.numbers.Fault.{Fault}
use Rattle.rm_base.specs.declared.numbers.NodeId.{NodeId}

pub concludes_below : (net : Net) (fault : Fault) (held : Held) → IsWellFormed net → HasPin net fault → (l : Line) (x : ℕ) (fact : Fact) → Concludes net fault held l x fact → x < length net.nodes
concludes_below net fault held formed stuck l x fact h = kind_live net x (concludes_live net fault held formed stuck l x fact h)

pub answer_below : (net : Net) (fault : Fault) (held : Held) → IsWellFormed net → HasPin net fault → (l : Line) (o : Option (NodeId × Fact)) → IsAnswer net fault held l o → IfSome o (λ r. r.0.0 < length net.nodes)
answer_below net fault held formed stuck l None h = tt
answer_below net fault held formed stuck l (Some r) h = concludes_below net fault held formed stuck l r.0.0 r.1 h

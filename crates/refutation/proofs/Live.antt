-- The node of a fact that a line gives is live.
use Rattle.std.proofs.Common.{List, ap, ℕ}
use Rattle.std.specs.Prelude.{slice_get}
use Rattle.local_evaluation.proofs.Public.{chain_live, gate_live}
use Rattle.gate_net.specs.Net.{IsLive, IsWellFormed, Net, Reads}
use Rattle.gate_net.specs.Values.{HasPin}
use Rattle.refutation.specs.Facts.{Held}
use Rattle.refutation.specs.Lines.{Concludes}
use Rattle.refutation.specs.declared.reasoning.Fact.{Fact}
use Rattle.refutation.specs.declared.reasoning.Line.{Line}
use Rattle.refutation.specs.declared.reasoning.Line.TheVariants.{Act, Chain, Compare, Constant, DiffersBack, EqualForward, FaultyBack, FaultyForward, GoodBack, GoodForward, NotDiffers, NotEqual, Out, Side, Site, ToFaulty, ToGood}
use Rattle.rm_base.specs.declared.numbers.Fault.{Fault}
use Rattle.gate_net.proofs.Public.{node_live}

pub driver_live : (net : Net) → IsWellFormed net → (y p x : ℕ) → Reads net y p x → IsLive net x
driver_live net formed y p x reads = node_live net x (formed.drivers_live y p x reads)

-- a line's fact is on a live node
pub concludes_live : (net : Net) (fault : Fault) (held : Held) → IsWellFormed net → HasPin net fault → (l : Line) (x : ℕ) (fact : Fact) → Concludes net fault held l x fact → IsLive net x
concludes_live net fault held formed stuck Act x fact h = driver_live net formed fault.gate.0 fault.position x h.0
concludes_live net fault held formed stuck Site x fact h = rw h.0 (gate_live net fault stuck)
concludes_live net fault held formed stuck (Chain y) x fact h = rw h.1 (chain_live (gate_live net fault stuck) h.0.1)
concludes_live net fault held formed stuck (Out y) x fact h = h.0
concludes_live net fault held formed stuck (GoodForward y) x fact h = (h.0, h.2)
concludes_live net fault held formed stuck (GoodBack y q) x fact h = driver_live net formed y.0 q x h.6
concludes_live net fault held formed stuck (Compare y) x fact h = h.0
concludes_live net fault held formed stuck (EqualForward y) x fact h = (h.0.0, h.0.1.0)
concludes_live net fault held formed stuck (DiffersBack y q) x fact h = driver_live net formed y.0 q x h.4
concludes_live net fault held formed stuck (Side y q) x fact h = driver_live net formed y.0 q x h.7
concludes_live net fault held formed stuck (Constant y) x fact h = (_, h.1)
concludes_live net fault held formed stuck (FaultyForward y) x fact h = (h.0, h.2)
concludes_live net fault held formed stuck (FaultyBack y q) x fact h = driver_live net formed y.0 q x h.7
concludes_live net fault held formed stuck (ToFaulty y) x fact h = h.0
concludes_live net fault held formed stuck (ToGood y) x fact h = h.0
concludes_live net fault held formed stuck (NotDiffers y) x fact h = (h.1.0, h.1.1)
concludes_live net fault held formed stuck (NotEqual y) x fact h = driver_live net formed y.0 0 x (ap (λ (ds : List ℕ). slice_get ds 0) h.3)

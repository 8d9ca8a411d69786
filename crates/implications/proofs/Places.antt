-- The node of a fact that a line gives, and the node of a line's place, are live.
use Rattle.std.proofs.Common.{Some, ℕ, ◌≡◌}
use Rattle.gate_net.specs.Net.{IsLive, Net}
use Rattle.implications.specs.Settled.{place_of}
use Rattle.refutation.specs.Facts.{Held}
use Rattle.refutation.proofs.Public.{reader_live}
use Rattle.refutation.specs.Lines.{Concludes}
use Rattle.refutation.specs.declared.reasoning.Fact.{Fact}
use Rattle.refutation.specs.declared.reasoning.Line.{Line}
use Rattle.refutation.specs.declared.reasoning.Line.TheVariants.{Act, Chain, Compare, Constant, DiffersBack, EqualForward, FaultyBack, FaultyForward, GoodBack, GoodForward, NotDiffers, NotEqual, Out, Side, Site, ToFaulty, ToGood}
use Rattle.rm_base.specs.declared.numbers.Fault.{Fault}

-- no line has its place at a dead node
pub place_live : (net : Net) (fault : Fault) (held : Held) (l : Line) (x y : ℕ) (fact : Fact) → place_of l ≡ Some y → Concludes net fault held l x fact → IsLive net y
place_live net fault held Act x y fact e h = cc
place_live net fault held Site x y fact e h = cc
place_live net fault held (Chain z) x y fact e h = cc
place_live net fault held (Out z) x y fact e h = cc
place_live net fault held (Constant z) x y fact e h = let is : x ≡ y = cc in rw (← is) (_, h.1)
place_live net fault held (GoodForward z) x y fact e h = let is : x ≡ y = cc in rw (← is) (h.0, h.2)
place_live net fault held (GoodBack z q) x y fact e h = let is : z.0 ≡ y = cc in rw (← is) (reader_live net z.0 q x h.6)
place_live net fault held (Compare z) x y fact e h = let is : x ≡ y = cc in rw (← is) h.0
place_live net fault held (FaultyForward z) x y fact e h = let is : x ≡ y = cc in rw (← is) (h.0, h.2)
place_live net fault held (FaultyBack z q) x y fact e h = let is : z.0 ≡ y = cc in rw (← is) (reader_live net z.0 q x h.7)
place_live net fault held (ToFaulty z) x y fact e h = let is : x ≡ y = cc in rw (← is) h.0
place_live net fault held (ToGood z) x y fact e h = let is : x ≡ y = cc in rw (← is) h.0
place_live net fault held (NotDiffers z) x y fact e h = let is : x ≡ y = cc in rw (← is) (h.1.0, h.1.1)
place_live net fault held (NotEqual z) x y fact e h = let is : z.0 ≡ y = cc in rw (← is) (_, h.0)
place_live net fault held (EqualForward z) x y fact e h = let is : x ≡ y = cc in rw (← is) (h.0.0, h.0.1.0)
place_live net fault held (DiffersBack z q) x y fact e h = let is : z.0 ≡ y = cc in rw (← is) (reader_live net z.0 q x h.4)
place_live net fault held (Side z q) x y fact e h = let is : z.0 ≡ y = cc in rw (← is) (reader_live net z.0 q x h.7)

-- Nodes at which no line has more to give.
use Rattle.std.specs.Prelude.{IsTrue, None, Option, Some, ℕ, ◌≡◌}
use Rattle.gate_net.specs.Net.{Net}
use Rattle.refutation.specs.Facts.{Held}
use Rattle.refutation.specs.Lines.{Concludes}
use Rattle.refutation.specs.declared.reasoning.Fact.{Fact}
use Rattle.refutation.specs.declared.reasoning.Line.{Line}
use Rattle.refutation.specs.declared.reasoning.Line.TheVariants.{Act, Chain, Compare, Constant, DiffersBack, EqualForward, FaultyBack, FaultyForward, GoodBack, GoodForward, NotDiffers, NotEqual, Out, Side, Site, ToFaulty, ToGood}
use Rattle.rm_base.specs.declared.numbers.Fault.{Fault}

-- the node whose facts, with its drivers', the line's condition asks for
abbrev pub place_of : Line → Option ℕ
place_of Act = None
place_of Site = None
place_of (Chain y) = None
place_of (Out y) = None
place_of (Constant y) = Some y.0
place_of (GoodForward y) = Some y.0
place_of (FaultyForward y) = Some y.0
place_of (GoodBack y q) = Some y.0
place_of (FaultyBack y q) = Some y.0
place_of (Compare y) = Some y.0
place_of (ToFaulty y) = Some y.0
place_of (ToGood y) = Some y.0
place_of (EqualForward y) = Some y.0
place_of (NotDiffers y) = Some y.0
place_of (NotEqual y) = Some y.0
place_of (DiffersBack y q) = Some y.0
place_of (Side y q) = Some y.0

-- two sets that agree at a node
abbrev pub AgreeAt : Held → Held → ℕ → Type 0
AgreeAt held other x = (fact : Fact) → held x fact ≡ other x fact

-- what each line at the node gives is held
abbrev pub IsSettled : Net → Fault → Held → ℕ → Type 0
IsSettled net fault held y = (l : Line) (x : ℕ) (fact : Fact) → place_of l ≡ Some y → Concludes net fault held l x fact → IsTrue (held x fact)

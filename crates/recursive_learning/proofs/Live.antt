-- Facts to which lines lead are on live nodes.
use Rattle.std.proofs.Common.{List, [], inl, inr, ◌∷◌, ℕ}
use Rattle.std.specs.Prelude.{IsTrue}
use Rattle.gate_net.specs.Net.{IsLive, IsWellFormed, Net}
use Rattle.gate_net.specs.Values.{HasPin}
use Rattle.refutation.proofs.Public.{concludes_live, with_cases}
use Rattle.refutation.specs.Closing.{LinesLead}
use Rattle.refutation.specs.Facts.{Held, with_fact}
use Rattle.refutation.specs.declared.reasoning.Fact.{Fact}
use Rattle.refutation.specs.declared.reasoning.Line.{Line}
use Rattle.rm_base.specs.declared.numbers.Fault.{Fault}

-- each fact is of a live node
abbrev pub AreLive : Net → Held → Type 0
AreLive net held = (x : ℕ) (fact : Fact) → IsTrue (held x fact) → IsLive net x

pub with_live : (net : Net) (held : Held) (x : ℕ) (fact : Fact) → AreLive net held → IsLive net x → AreLive net (with_fact held x fact)
with_live net held x fact live there y other e = elim (with_cases held x fact y other e) [
  | inl new ↦ rw new.0 there
  | inr before ↦ live y other before
]

pub leads_live : (net : Net) (fault : Fault) → IsWellFormed net → HasPin net fault → (lines : List Line) (start after : Held) → AreLive net start → LinesLead net fault start lines after → AreLive net after
leads_live net fault formed stuck [] start after live e = rw e live
leads_live net fault formed stuck (l ∷ lines) start after live (x, (fact, (concludes, rest))) =
    leads_live net fault formed stuck lines (with_fact start x fact) after (with_live net start x fact live (concludes_live net fault start formed stuck l x fact concludes)) rest

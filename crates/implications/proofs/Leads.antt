-- Lines that lead on from where others lead.
use Rattle.std.proofs.Common.{List, [], ap, map, refl, ◌++◌, ◌∷◌, ◌≡◌}
use Rattle.gate_net.specs.Net.{Net}
use Rattle.implications.specs.Outcomes.{clash_items}
use Rattle.implications.specs.Outside.{line_item}
use Rattle.refutation.specs.Closing.{LinesLead}
use Rattle.refutation.specs.Facts.{Held, with_fact}
use Rattle.refutation.specs.declared.items.Item.{Item}
use Rattle.refutation.specs.declared.reasoning.Line.{Line}
use Rattle.rm_base.specs.declared.numbers.Fault.{Fault}
use Rattle.rm_base.specs.declared.numbers.NodeId.{NodeId}

pub leads_append : (net : Net) (fault : Fault) (lines more : List Line) (start held after : Held) → LinesLead net fault start lines held → LinesLead net fault held more after → LinesLead net fault start (lines ++ more) after
leads_append net fault [] more start held after e leads = rw e at leads
leads_append net fault (l ∷ lines) more start held after (x, (fact, (concludes, rest))) leads =
    (x, (fact, (concludes, leads_append net fault lines more (with_fact start x fact) held after rest leads)))

-- the items of some lines, and then those of others ended by a clash
pub items_append : (lines more : List Line) (x : NodeId) → map line_item lines ++ clash_items more x ≡ clash_items (lines ++ more) x
items_append [] more x = refl
items_append (l ∷ lines) more x = ap (λ (items : List Item). line_item l ∷ items) (items_append lines more x)

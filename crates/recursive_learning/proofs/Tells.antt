-- Writing the items of a tree, part by part.
use Rattle.std.proofs.Common.{Bool, List, [], ap, append-nil, append_assoc, false, map, refl, sym, ℕ, ◌++◌, ◌∷◌, ◌≡◌}
use Rattle.gate_net.specs.Net.{IsLive, IsWellFormed, Net}
use Rattle.gate_net.specs.Values.{HasPin}
use Rattle.implications.specs.Outcomes.{IsClashAt, IsOpenFrom}
use Rattle.recursive_learning.proofs.Live.{leads_live, with_live}
use Rattle.recursive_learning.specs.Inner.Telling.{Ends, IsTold, Leads, Writes, branch, line_item, none}
use Rattle.recursive_learning.specs.Inner.Working.{AreSettled}
use Rattle.refutation.proofs.Public.{reads_join}
use Rattle.refutation.specs.Closing.{LinesLead}
use Rattle.refutation.specs.FactSets.{held_by}
use Rattle.refutation.specs.Facts.{AreOpposed, Held, with_fact}
use Rattle.refutation.specs.Stack.{AreRead, Due, tree}
use Rattle.refutation.specs.declared.held.NodeFacts.{NodeFacts}
use Rattle.refutation.specs.declared.items.Form.TheVariants.{Closed}
use Rattle.refutation.specs.declared.items.Item.{Item}
use Rattle.refutation.specs.declared.items.Item.TheVariants.{Clash}
use Rattle.refutation.specs.declared.reasoning.Fact.TheVariants.{Good}
use Rattle.refutation.specs.declared.reasoning.Line.{Line}
use Rattle.rm_base.specs.declared.numbers.Fault.{Fault}
use Rattle.rm_base.specs.declared.numbers.NodeId.{NodeId}

lines_read : (net : Net) (fault : Fault) (lines : List Line) (start after : Held) → LinesLead net fault start lines after → (below : List Due) → AreRead net fault Closed (tree start ∷ below) (map line_item lines) (tree after ∷ below)
lines_read net fault [] start after e below = ap (λ (held : Held). tree held ∷ below) (sym e)
lines_read net fault (l ∷ lines) start after (x, (fact, (concludes, leads))) below = (x, fact, concludes, lines_read net fault lines (with_fact start x fact) after leads below)

-- the lines lead the branch on
pub lines_lead : (net : Net) (fault : Fault) (lines : List Line) (start after : Held) (before : List Item) → LinesLead net fault start lines after → Leads net fault start before after (before ++ map line_item lines)
lines_lead net fault lines start after before leads = (map line_item lines, (refl, lines_read net fault lines start after leads))

pub writes_join : (net : Net) (fault : Fault) (one two three : List Due → List Due) (before middle after : List Item) → Writes net fault one before two middle → Writes net fault two middle three after → Writes net fault one before three after
writes_join net fault one two three before middle after (a, (is_a, reads_a)) (b, (is_b, reads_b)) =
    (a ++ b, (rw (is_b, is_a) (append_assoc before a b), λ below. reads_join net fault Closed a b (one below) (two below) (three below) (reads_a below) (reads_b below)))

pub writes_none : (net : Net) (fault : Fault) (one : List Due → List Due) (before : List Item) → Writes net fault one before one before
writes_none net fault one before = ([], (sym (append-nil before), λ below. refl))

-- two opposed facts end the branch
pub clash_ends : (net : Net) (fault : Fault) (held : Held) (x : NodeId) (before : List Item) → AreOpposed held x.0 → Ends net fault held before (before ++ Clash x ∷ [])
clash_ends net fault held x before opposed = (Clash x ∷ [], (refl, λ below. (opposed, tt, refl)))

pub told_open : (net : Net) (fault : Fault) (start : Held) (lines : List Line) (facts : List NodeFacts) (before : List Item) → IsWellFormed net → HasPin net fault → ((x : ℕ) (b : Bool) (held : Held) → start ≡ with_fact held x (Good b) → AreSettled net fault held → IsLive net x → IsOpenFrom net fault start lines facts → IsTold net fault start before false (held_by facts) (before ++ map line_item lines))
told_open net fault start lines facts before formed stuck x b held is settled live o = (
  lines_lead net fault lines start (held_by facts) before o.leads,
  record { closed = o.closed; free = o.free; live = leads_live net fault formed stuck lines start (held_by facts) (rw is (with_live net held x (Good b) settled.live live)) o.leads },
)

pub told_clash : (net : Net) (fault : Fault) (start : Held) (lines : List Line) (facts : Held) (x : NodeId) (before : List Item) → IsClashAt net fault start lines facts x.0 → Ends net fault start before ((before ++ map line_item lines) ++ Clash x ∷ [])
told_clash net fault start lines facts x before clash =
    writes_join net fault (branch start) (branch facts) none before (before ++ map line_item lines) ((before ++ map line_item lines) ++ Clash x ∷ [])
    (lines_lead net fault lines start facts before clash.leads) (clash_ends net fault facts x (before ++ map line_item lines) clash.opposed)

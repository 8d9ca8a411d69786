-- From no facts to an answer.
use Rattle.std.proofs.Common.{List, [], ap, arith, suc, zero, ◌+◌, ◌-◌, map, subst, sym, true, false, ◌++◌, ◌∙◌, ◌≡◌, ◌≤◌, ◌↔◌, ℕ}
use Rattle.gate_net.specs.Net.{IsWellFormed, Net}
use Rattle.gate_net.specs.Values.{HasPin}
use Rattle.implications.specs.Beginning.{node_of}
use Rattle.implications.specs.Outcomes.{IsClash, IsClashed, IsOpen}
use Rattle.implications.specs.Outside.{AppendsOutside, LeadFromOutside}
use Rattle.implications.specs.State.{EngineState}
use Rattle.implications.specs.declared.outcome.Closed.{Closed}
use Rattle.implications.specs.declared.outcome.Closed.TheVariants.{Clash, Open}
use Rattle.recursive_learning.proofs.Gains.{keeps_join, keeps_none}
use Rattle.recursive_learning.proofs.Live.{leads_live}
use Rattle.recursive_learning.proofs.Rounds.{forced_clash, forced_deeper, learned_none}
use Rattle.recursive_learning.proofs.Splits.{told_join}
use Rattle.recursive_learning.proofs.Tells.{lines_lead}
use Rattle.recursive_learning.specs.Answers.{IsRefuting}
use Rattle.recursive_learning.specs.Least.{AreForced, IsLeastAt}
use Rattle.recursive_learning.specs.Inner.Telling.{Ends, Leads, line_item}
use Rattle.recursive_learning.specs.Inner.Working.{AreSettled, IsLearned, Keeps}
use Rattle.refutation.specs.Branches.{AreAccepted}
use Rattle.refutation.specs.Closing.{Clashes, IsClashFree}
use Rattle.refutation.specs.FactSets.{held_by}
use Rattle.refutation.specs.Facts.{Held, none_held}
use Rattle.refutation.specs.Learning.{IsClosedAt, LeadsToClash}
use Rattle.refutation.proofs.Public.{closed_below, closed_reads, leads_within, lines_of, none_within, opposed_within}
use Rattle.refutation.specs.declared.held.NodeFacts.{NodeFacts}
use Rattle.refutation.specs.declared.items.Item.{Item}
use Rattle.refutation.specs.declared.reasoning.Line.{Line}
use Rattle.refutation.specs.declared.reasoning.Line.TheVariants.{Out}
use Rattle.rm_base.specs.declared.numbers.Fault.{Fault}

-- items that end the branch without facts are accepted
pub ends_accepted : (net : Net) (fault : Fault) (items : List Item) → Ends net fault none_held [] items → AreAccepted net fault items
ends_accepted net fault items (pieces, (is, reads)) =
    (closed_reads net fault items).0 (rw is (reads []))

-- lines to what isn't reached, lines from there, and then a written branch
pub written_accepted : (net : Net) (fault : Fault) (lines : List Line) (facts : Held) (none first middle items : List Item) → none ≡ [] → AppendsOutside net fault none first → LeadFromOutside net fault lines facts → middle ≡ first ++ map line_item lines → Ends net fault facts middle items → AreAccepted net fault items
written_accepted net fault lines facts none first middle items nothing (before, (appended, to)) from is ends =
    ends_accepted net fault items
    (told_join net fault none_held [] first items from.start facts true
    (subst (λ (m : List Item). Leads net fault none_held [] from.start m) (sym (appended ∙ ap (λ (n : List Item). n ++ map line_item before) nothing)) (lines_lead net fault before none_held from.start [] (to.leads from.start from.outside)))
    (told_join net fault from.start first (first ++ map line_item lines) items facts facts true (lines_lead net fault lines from.start facts first from.leads) (subst (λ (m : List Item). Ends net fault facts m items) is ends)))

pub open_settled : (net : Net) (fault : Fault) (lines : List Line) (facts : List NodeFacts) → IsWellFormed net → HasPin net fault → IsOpen net fault lines facts → AreSettled net fault (held_by facts)
open_settled net fault lines facts formed stuck o = record {
  closed = o.open_from.closed;
  free = o.open_from.free;
  live = leads_live net fault formed stuck lines o.start (held_by facts) (λ x fact e. ((o.outside x fact).0 e).0) o.open_from.leads;
}

pub open_forced : (net : Net) (fault : Fault) (lines : List Line) (facts : List NodeFacts) → IsOpen net fault lines facts → AreForced net fault 0 none_held (held_by facts)
open_forced net fault lines facts o s within free closed = leads_within net fault s free closed lines o.start (held_by facts) (λ x fact e. closed (Out (node_of x)) x fact ((o.outside x fact).0 e)) o.open_from.leads

pub open_leads : (net : Net) (fault : Fault) (lines : List Line) (facts : List NodeFacts) → IsOpen net fault lines facts → LeadFromOutside net fault lines (held_by facts)
open_leads net fault lines facts o = record { start = o.start; outside = o.outside; leads = o.open_from.leads }

pub clashes_lead : (net : Net) (fault : Fault) (depth : ℕ) → Clashes net fault → LeadsToClash net fault depth none_held
clashes_lead net fault depth (lines, (after, (leads, (x, opposed)))) s within free closed =
    free x (opposed_within after s (leads_within net fault s free (lines_of net fault depth s closed) lines none_held after (none_within s) leads) x opposed)

pub clashed_refutes : (net : Net) (fault : Fault) (depth : ℕ) (lines : List Line) (items : List Item) → IsClashed net fault lines items → IsRefuting net fault depth (Clash items)
clashed_refutes net fault depth lines items c = (clashes_lead net fault depth c.clashes, c.accepted)

-- the least set from the first facts is the least of all
pub least_of_all : (net : Net) (fault : Fault) (depth : ℕ) (first facts : Held) → AreForced net fault 0 none_held first → IsLeastAt net fault depth first facts → IsLeastAt net fault depth none_held facts
least_of_all net fault depth first facts forced least = record {
  within = none_within facts;
  free = least.free;
  closed = least.closed;
  least = λ s within free closed. least.least s (forced_deeper net fault depth none_held first forced s within free closed) free closed;
}

pub clash_of_all : (net : Net) (fault : Fault) (depth : ℕ) (first : Held) → AreForced net fault 0 none_held first → LeadsToClash net fault depth first → LeadsToClash net fault depth none_held
clash_of_all net fault depth first forced clash = forced_clash net fault depth none_held first (forced_deeper net fault depth none_held first forced) clash

-- a clash is answered exactly where there is one
pub refuting_exact : (net : Net) (fault : Fault) (depth : ℕ) (c : Closed) → IsRefuting net fault depth c → IsClash c ↔ LeadsToClash net fault depth none_held
refuting_exact net fault depth (Clash items) is = (λ e. is.0, λ e. tt)
refuting_exact net fault depth (Open facts) is = (λ e. absurd e, λ clash. clash (held_by facts) is.0.within is.0.free is.0.closed)

-- DEPTH AFTER DEPTH
-- a set that is closed at a depth is closed at each smaller one
pub closed_at_smaller : (net : Net) (fault : Fault) (more level : ℕ) (s : Held) → IsClashFree s → IsClosedAt net fault (more + level) s → IsClosedAt net fault level s
closed_at_smaller net fault zero level s free closed = let e : zero + level ≡ level = omega arith in subst (λ (n : ℕ). IsClosedAt net fault n s) e closed
closed_at_smaller net fault (suc more) level s free closed =
    let e : suc more + level ≡ suc (more + level) = omega arith in
    closed_at_smaller net fault more level s free (closed_below net fault (more + level) s free (subst (λ (n : ℕ). IsClosedAt net fault n s) e closed))

pub clash_at_deeper : (net : Net) (fault : Fault) (level depth : ℕ) (start : Held) → level ≤ depth → LeadsToClash net fault level start → LeadsToClash net fault depth start
clash_at_deeper net fault level depth start le clash s within free closed =
    let e : depth ≡ (depth - level) + level = omega arith in
    clash s within free (closed_at_smaller net fault (depth - level) level s free (subst (λ (n : ℕ). IsClosedAt net fault n s) e closed))

pub record Deepening (net : Net) (fault : Fault) (level : ℕ) (before after : EngineState) (start now : List NodeFacts) : Type 0 where
  pub keeps : Keeps before after start now
  pub settled : AreSettled net fault (held_by now)
  pub least : IsLeastAt net fault level (held_by start) (held_by now)

pub deepening_none : (net : Net) (fault : Fault) (e : EngineState) (start : List NodeFacts) → AreSettled net fault (held_by start) → Deepening net fault 0 e e start start
deepening_none net fault e start settled = record { keeps = keeps_none e start; settled = settled; least = (learned_none net fault (held_by start) settled).0 }

forced_next : (net : Net) (fault : Fault) (level : ℕ) (a b : Held) → AreForced net fault level a b → AreForced net fault (level + 1) a b
forced_next net fault level a b forced s within free closed =
    let e : level + 1 ≡ suc level = omega arith in
    forced s within free (closed_below net fault level s free (subst (λ (n : ℕ). IsClosedAt net fault n s) e closed))

pub deepening_more : (net : Net) (fault : Fault) (level : ℕ) (a b c : EngineState) (start now next : List NodeFacts) → Deepening net fault level a b start now → Keeps b c now next → IsLearned net fault (level + 1) (held_by now) false (held_by next) → Deepening net fault (level + 1) a c start next
deepening_more net fault level a b c start now next d keeps learned = record {
  keeps = keeps_join a b c start now next d.keeps keeps;
  settled = learned.1;
  least = record {
    within = λ x fact e. learned.0.within x fact (d.least.within x fact e);
    free = learned.0.free;
    closed = learned.0.closed;
    least = λ s within free closed. learned.0.least s (forced_next net fault level (held_by start) (held_by now) d.least.least s within free closed) free closed;
  };
}

pub deepening_clash : (net : Net) (fault : Fault) (level : ℕ) (a b : EngineState) (start now : List NodeFacts) → Deepening net fault level a b start now → LeadsToClash net fault (level + 1) (held_by now) → LeadsToClash net fault (level + 1) (held_by start)
deepening_clash net fault level a b start now d clash = forced_clash net fault (level + 1) (held_by start) (held_by now) (forced_next net fault level (held_by start) (held_by now) d.least.least) clash

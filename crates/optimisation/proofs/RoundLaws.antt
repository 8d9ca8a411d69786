-- One round after another.
use Rattle.std.proofs.lemmas.List.{append-nil}
use Rattle.std.proofs.Common.{◌≡◌, ◌≤◌, ◌<◌, ◌+◌, ◌-◌, ℕ, suc, Bool, None, append_assoc, List, [], ◌∷◌, ◌++◌, Option, sym, ◌∙◌, ap, subst, arith}
use Rattle.rm_base.specs.Files.{Files}
use Rattle.rm_base.specs.declared.numbers.Fault.{Fault}
use Rattle.rm_base.specs.declared.settings.Made.{Made}
use Rattle.rm_base.specs.declared.settings.Settings.{Settings}
use Rattle.gate_net.specs.Net.{Net, wire_count}
use Rattle.gate_graph.specs.Circuit.{Circuit, live_nodes, net_of, pins_taken}
use Rattle.wire_edit.specs.declared.steps.Step.{Step}
use Rattle.wire_edit.specs.declared.steps.Step.TheVariants.{Add, Fix, NewNot, Const, Same, NoPins, OnePin, Twice, Twin, Dead}
use Rattle.journal_ranges.proofs.Public.{fits_then}
use Rattle.journal_text.specs.Joining.{RunsJoin, TextsAppend}
use Rattle.journal_text.specs.Runs.{AcceptedTo, AreRemovals, HasAppended, HasAppendedPart, IsStopped, counted, made_by, none_made, records_text, steps_of}
use Rattle.journal_text.specs.declared.record.Record.{Record}
use Rattle.closing_pass.specs.Reports.{HasClosed, IsNoFuller, made_in}
use Rattle.closing_pass.specs.declared.report.Report.{Report}
use Rattle.candidate_wires.specs.declared.candidate.Outcome.{Outcome}
use Rattle.candidate_wires.specs.declared.candidate.Outcome.TheVariants.{Settled, TriesSpent}
use Rattle.rar_loop.specs.Ended.{IsImproved, allowed_to, turn_at}
use Rattle.rar_loop.specs.Removed.{HasRemoved}
use Rattle.rar_loop.specs.Sizes.{IsWithin}
use Rattle.rar_loop.specs.Rounds.{IsRun, RunBegins, RunGoesOn, is_settled, tries_of}
use Rattle.wire_edit.specs.Order.{IsTidy}
use Rattle.optimisation.specs.Inner.Ran.{AreBounded, HasGoneOn, HasRecorded, sum_of}
use Rattle.optimisation.specs.declared.rounds.Round.{Round}
use Rattle.optimisation.proofs.Lowering.{run_lowered}

same_made : (a b f g l k : ℕ) → a ≡ b → f ≡ g → l ≡ k → ◌≡◌ {A = Made} (record { adds = a; fixes = f; local = l }) (record { adds = b; fixes = g; local = k })
same_made a b f g l k x y z =
    ap (λ (n : ℕ). let r : Made = record { adds = n; fixes = f; local = l } in r) x
    ∙ (ap (λ (n : ℕ). let r : Made = record { adds = b; fixes = n; local = l } in r) y
    ∙ ap (λ (n : ℕ). let r : Made = record { adds = b; fixes = g; local = n } in r) z)

one_more : (m x : Made) (s : Step) → sum_of (counted m s) x ≡ sum_of m (sum_of (counted none_made s) x)
one_more m x (Add gate node) = same_made (suc m.adds + x.adds) (m.adds + (1 + x.adds)) (m.fixes + x.fixes) (m.fixes + (0 + x.fixes)) (m.local + x.local) (m.local + (0 + x.local)) (omega arith) (omega arith) (omega arith)
one_more m x (Fix gate position value) = same_made (m.adds + x.adds) (m.adds + (0 + x.adds)) (suc m.fixes + x.fixes) (m.fixes + (1 + x.fixes)) (m.local + x.local) (m.local + (0 + x.local)) (omega arith) (omega arith) (omega arith)
one_more m x (NewNot node) = same_made (m.adds + x.adds) (m.adds + (0 + x.adds)) (m.fixes + x.fixes) (m.fixes + (0 + x.fixes)) (suc m.local + x.local) (m.local + (1 + x.local)) (omega arith) (omega arith) (omega arith)
one_more m x (Const gate position) = same_made (m.adds + x.adds) (m.adds + (0 + x.adds)) (m.fixes + x.fixes) (m.fixes + (0 + x.fixes)) (suc m.local + x.local) (m.local + (1 + x.local)) (omega arith) (omega arith) (omega arith)
one_more m x (Same gate position) = same_made (m.adds + x.adds) (m.adds + (0 + x.adds)) (m.fixes + x.fixes) (m.fixes + (0 + x.fixes)) (suc m.local + x.local) (m.local + (1 + x.local)) (omega arith) (omega arith) (omega arith)
one_more m x (NoPins gate) = same_made (m.adds + x.adds) (m.adds + (0 + x.adds)) (m.fixes + x.fixes) (m.fixes + (0 + x.fixes)) (suc m.local + x.local) (m.local + (1 + x.local)) (omega arith) (omega arith) (omega arith)
one_more m x (OnePin gate) = same_made (m.adds + x.adds) (m.adds + (0 + x.adds)) (m.fixes + x.fixes) (m.fixes + (0 + x.fixes)) (suc m.local + x.local) (m.local + (1 + x.local)) (omega arith) (omega arith) (omega arith)
one_more m x (Twice gate) = same_made (m.adds + x.adds) (m.adds + (0 + x.adds)) (m.fixes + x.fixes) (m.fixes + (0 + x.fixes)) (suc m.local + x.local) (m.local + (1 + x.local)) (omega arith) (omega arith) (omega arith)
one_more m x (Twin gate other) = same_made (m.adds + x.adds) (m.adds + (0 + x.adds)) (m.fixes + x.fixes) (m.fixes + (0 + x.fixes)) (suc m.local + x.local) (m.local + (1 + x.local)) (omega arith) (omega arith) (omega arith)
one_more m x (Dead gate) = same_made (m.adds + x.adds) (m.adds + (0 + x.adds)) (m.fixes + x.fixes) (m.fixes + (0 + x.fixes)) (suc m.local + x.local) (m.local + (1 + x.local)) (omega arith) (omega arith) (omega arith)

no_more : (m : Made) → m ≡ sum_of m none_made
no_more m =
    let a : m.adds ≡ m.adds + 0 = omega arith in
    let f : m.fixes ≡ m.fixes + 0 = omega arith in
    let l : m.local ≡ m.local + 0 = omega arith in
    ap (λ (k : ℕ). let r : Made = record m { adds = k } in r) a
    ∙ (ap (λ (k : ℕ). let r : Made = record { adds = m.adds + 0; fixes = k; local = m.local } in r) f
    ∙ ap (λ (k : ℕ). let r : Made = record { adds = m.adds + 0; fixes = m.fixes + 0; local = k } in r) l)

-- steps are counted on
pub counted_on : (m : Made) (xs : List Step) → made_by m xs ≡ sum_of m (made_by none_made xs)
counted_on m [] = no_more m
counted_on m (s ∷ xs) =
    counted_on (counted m s) xs
    ∙ (one_more m (made_by none_made xs) s ∙ ap (sum_of m) (sym (counted_on (counted none_made s) xs)))

-- the steps of three runs
pub three_counted : (join : RunsJoin) (a b c : List Record) → made_by none_made (steps_of (a ++ (b ++ c))) ≡ sum_of (sum_of (made_by none_made (steps_of a)) (made_by none_made (steps_of b))) (made_by none_made (steps_of c))
three_counted join a b c =
    ap (made_by none_made) (join.steps a (b ++ c) ∙ ap (λ (ss : List Step). steps_of a ++ ss) (join.steps b c))
    ∙ (join.made none_made (steps_of a) (steps_of b ++ steps_of c)
    ∙ (join.made (made_by none_made (steps_of a)) (steps_of b) (steps_of c)
    ∙ (counted_on (made_by (made_by none_made (steps_of a)) (steps_of b)) (steps_of c)
    ∙ ap (λ (m : Made). sum_of m (made_by none_made (steps_of c))) (counted_on (made_by none_made (steps_of a)) (steps_of b)))))

-- nothing that was stopped after records that were written is lost
pub stopped_then : (join : RunsJoin) (texts : TextsAppend) (start mid : Net) (records : List Record) (old now new : Option Files) (name : List ℕ) → AcceptedTo start records mid → HasAppended old now name (records_text records) → IsStopped mid now new name → IsStopped start old new name
stopped_then join texts start mid records old now new name accepted written stopped = record {
  records = records ++ stopped.records;
  after = stopped.after;
  accepted = join.accepted start mid stopped.after records stopped.records accepted stopped.accepted;
  written = subst (λ (text : List ℕ). HasAppendedPart old new name text) (sym (join.text records stopped.records)) (texts.part old now new name (records_text records) (records_text stopped.records) written stopped.written);
}

-- no more tries are allowed to a call than it was given
allowed_within : (given : ℕ) (outcome : Outcome) → tries_of outcome ≤ given → allowed_to given outcome ≤ given
allowed_within given (Settled tries) le = omega arith
allowed_within given (TriesSpent tries at) le = le

-- as many tries as were made are allowed, at least
pub went_within : (tries limit all after : ℕ) (outcome : Outcome) → all ≡ tries + tries_of outcome → after ≡ tries + allowed_to (limit - tries) outcome → tries_of outcome ≤ limit - tries → all ≤ after
went_within tries limit all after (Settled more) sum is le = omega (arith, sum, is, le)
went_within tries limit all after (TriesSpent more at) sum is le = omega (arith, sum, is)

-- what goes without any addition, and the first call, are the first round
pub first_run : (law : RunBegins) (join : RunsJoin) (texts : TextsAppend) (start swept closed : Circuit) (settings : Settings) (depth : ℕ) (report : Report) (made : Made) (after : Round) (old one two new : Option Files) (name : List ℕ)
    → pins_taken start + live_nodes start ≤ 1048576 → wire_count (net_of start) ≤ 65536
    → HasRemoved (net_of start) (net_of swept) depth made old one name → IsWithin start swept
    → HasClosed (net_of swept) (net_of closed) report one two name → report.local ≤ 35184372088832 → IsNoFuller swept closed
    → HasGoneOn settings closed (sum_of made (made_in report)) 0 settings.tries None after two new name
    → HasRecorded (net_of start) settings after old new name
first_run law join texts start swept closed settings depth report made after old one two new name few wires r within c small fuller g =
    let first : List Record = r.records ++ c.records in
    let records : List Record = r.records ++ (c.records ++ g.optimised.records) in
    let same : first ++ g.optimised.records ≡ records = append_assoc r.records c.records g.optimised.records in
    let to : AcceptedTo (net_of start) first (net_of closed) = join.accepted (net_of start) (net_of swept) (net_of closed) r.records c.records r.accepted c.steps.accepted in
    let removals : AreRemovals (steps_of first) = subst AreRemovals (sym (join.steps r.records c.records)) (join.removals (steps_of r.records) (steps_of c.records) r.removals c.steps.removals) in
    let allowed : allowed_to (settings.tries - 0) g.outcome ≡ after.limit = let l = g.limit_is in omega (arith, l) in
    let improved : IsImproved (net_of closed) None settings.depth after.limit g.optimised.records (net_of after.graph) g.outcome =
    subst (λ (k : ℕ). IsImproved (net_of closed) None settings.depth k g.optimised.records (net_of after.graph) g.outcome) allowed g.optimised.improved in
    let run : IsRun (net_of start) (steps_of (first ++ g.optimised.records)) settings.depth after.limit (tries_of g.outcome) (is_settled g.outcome)
    × (turn_at None (net_of start) (steps_of (first ++ g.optimised.records)) ≡ turn_at None (net_of closed) (steps_of g.optimised.records)) =
    law (net_of start) (net_of closed) (net_of after.graph) first g.optimised.records settings.depth after.limit g.outcome g.keeps.form to removals improved in
    let tries : tries_of g.outcome ≡ after.tries = let t = g.tries_are in omega (arith, t) in
    let counts : after.made ≡ made_by none_made (steps_of records) =
    g.made_are
    ∙ (ap (λ (m : Made). sum_of (sum_of m (made_in report)) g.more) r.counted
    ∙ (ap (λ (m : Made). sum_of (sum_of (made_by none_made (steps_of r.records)) m) g.more) c.steps.counted
    ∙ (ap (λ (m : Made). sum_of (sum_of (made_by none_made (steps_of r.records)) (made_by none_made (steps_of c.records))) m) g.optimised.counted
    ∙ sym (three_counted join r.records c.records g.optimised.records)))) in
    let fixed_few : report.fixed ≤ 65536 = omega (arith, c.steps.fewer, r.fewer, wires) in
    let less : wire_count (net_of after.graph) ≤ 65536 = omega (arith, g.optimised.improved.fewer, c.steps.fewer, r.fewer, wires) in
    record {
      records = records;
      written = subst (λ (text : List ℕ). HasAppended old new name text) (sym (join.text r.records (c.records ++ g.optimised.records) ∙ ap (λ (text : List ℕ). records_text r.records ++ text) (join.text c.records g.optimised.records)))
          (texts.follows old one new name (records_text r.records) (records_text c.records ++ records_text g.optimised.records) r.written
          (texts.follows one two new name (records_text c.records) (records_text g.optimised.records) c.written g.optimised.written));
      fit = fits_then r.records (c.records ++ g.optimised.records) r.fit (fits_then c.records g.optimised.records c.fit g.optimised.fit);
      run = record {
        accepted = join.accepted (net_of start) (net_of swept) (net_of after.graph) r.records (c.records ++ g.optimised.records) r.accepted
            (join.accepted (net_of swept) (net_of closed) (net_of after.graph) c.records g.optimised.records c.steps.accepted g.optimised.improved.accepted);
        run = subst (λ (rs : List Record). IsRun (net_of start) (steps_of rs) settings.depth after.limit after.tries after.settled) same
            (subst (λ (b : Bool). IsRun (net_of start) (steps_of (first ++ g.optimised.records)) settings.depth after.limit after.tries b) (sym g.settled_is)
            (subst (λ (k : ℕ). IsRun (net_of start) (steps_of (first ++ g.optimised.records)) settings.depth after.limit k (is_settled g.outcome)) tries run.0));
        turn_is = g.optimised.next_is ∙ sym run.1 ∙ ap (λ (rs : List Record). turn_at None (net_of start) (steps_of rs)) same;
        tidy = g.optimised.improved.tidy;
        fewer = omega (arith, g.optimised.improved.fewer, c.steps.fewer, r.fewer);
        within = omega (arith, g.within.size, fuller.pins, fuller.nodes, within.size, few);
        counted = counts;
        bounded = subst (λ (m : Made). AreBounded (wire_count (net_of after.graph)) m) (sym g.made_are)
            (record {
              adds = omega (arith, g.few.adds, r.few, less);
              fixes = omega (arith, g.few.fixes, r.few, less, fixed_few);
              local = omega (arith, g.few.local, r.few, less, small);
            });
      };
    }

-- a closing pass that fixed some pins, and a call after it, are a further round
pub further_run : (law : RunGoesOn) (join : RunsJoin) (texts : TextsAppend) (start : Net) (settings : Settings) (before : Round) (closed : Circuit) (report : Report) (after : Round) (old one two new : Option Files) (name : List ℕ)
    → wire_count start ≤ 65536
    → HasRecorded start settings before old one name → HasClosed (net_of before.graph) (net_of closed) report one two name → 0 < report.fixed → report.local ≤ 35184372088832
    → IsNoFuller before.graph closed → HasGoneOn settings closed (sum_of before.made (made_in report)) before.tries before.limit before.start after two new name
    → HasRecorded start settings after old new name
further_run law join texts start settings before closed report after old one two new name few r c some small fuller g =
    let records : List Record = r.records ++ (c.records ++ g.optimised.records) in
    let led : AcceptedTo start records (net_of after.graph) =
    join.accepted start (net_of before.graph) (net_of after.graph) r.records (c.records ++ g.optimised.records) r.run.accepted
    (join.accepted (net_of before.graph) (net_of closed) (net_of after.graph) c.records g.optimised.records c.steps.accepted g.optimised.improved.accepted) in
    let fixes : 0 < (made_by none_made (steps_of c.records)).fixes = subst (λ (m : Made). 0 < m.fixes) c.steps.counted some in
    let turn : Option Fault = turn_at None start (steps_of r.records) in
    let left : ℕ = allowed_to (before.limit - before.tries) g.outcome in
    let fits : left ≤ before.limit - before.tries = allowed_within (before.limit - before.tries) g.outcome g.some in
    let limit_is : after.limit ≡ before.tries + left = g.limit_is in
    let left_is : left ≡ after.limit - before.tries = omega (arith, limit_is) in
    let improved : IsImproved (net_of closed) turn settings.depth (after.limit - before.tries) g.optimised.records (net_of after.graph) g.outcome =
    subst (λ (t : Option Fault). IsImproved (net_of closed) t settings.depth (after.limit - before.tries) g.optimised.records (net_of after.graph) g.outcome) r.run.turn_is
    (subst (λ (k : ℕ). IsImproved (net_of closed) before.start settings.depth k g.optimised.records (net_of after.graph) g.outcome) left_is g.optimised.improved) in
    let was : IsRun start (steps_of r.records) settings.depth after.limit before.tries before.settled =
    run_lowered start (steps_of r.records) settings.depth before.limit after.limit before.tries before.settled r.run.run (omega (arith, limit_is)) (omega (arith, limit_is, fits, r.run.run.within)) in
    let run : IsRun start (steps_of records) settings.depth after.limit (before.tries + tries_of g.outcome) (is_settled g.outcome) × (turn_at None start (steps_of records) ≡ turn_at turn (net_of closed) (steps_of g.optimised.records)) =
    law start (net_of before.graph) (net_of closed) (net_of after.graph) r.records c.records g.optimised.records settings.depth after.limit before.tries before.settled g.outcome g.keeps.form
    was r.run.accepted c.steps.accepted c.steps.removals fixes improved in
    let counts : after.made ≡ made_by none_made (steps_of records) =
    g.made_are
    ∙ (ap (λ (m : Made). sum_of (sum_of m (made_in report)) g.more) r.run.counted
    ∙ (ap (λ (m : Made). sum_of (sum_of (made_by none_made (steps_of r.records)) m) g.more) c.steps.counted
    ∙ (ap (λ (m : Made). sum_of (sum_of (made_by none_made (steps_of r.records)) (made_by none_made (steps_of c.records))) m) g.optimised.counted
    ∙ sym (three_counted join r.records c.records g.optimised.records)))) in
    let less : wire_count (net_of after.graph) < wire_count (net_of before.graph) = omega (arith, g.optimised.improved.fewer, c.steps.fewer, some) in
    let fixed_few : report.fixed ≤ 65536 = omega (arith, c.steps.fewer, r.run.fewer, few) in
    record {
      records = records;
      written = subst (λ (text : List ℕ). HasAppended old new name text) (sym (join.text r.records (c.records ++ g.optimised.records) ∙ ap (λ (text : List ℕ). records_text r.records ++ text) (join.text c.records g.optimised.records)))
          (texts.follows old one new name (records_text r.records) (records_text c.records ++ records_text g.optimised.records) r.written
          (texts.follows one two new name (records_text c.records) (records_text g.optimised.records) c.written g.optimised.written));
      fit = fits_then r.records (c.records ++ g.optimised.records) r.fit (fits_then c.records g.optimised.records c.fit g.optimised.fit);
      run = record {
        accepted = led;
        run = subst (λ (b : Bool). IsRun start (steps_of records) settings.depth after.limit after.tries b) (sym g.settled_is)
            (subst (λ (k : ℕ). IsRun start (steps_of records) settings.depth after.limit k (is_settled g.outcome)) (sym g.tries_are) run.0);
        turn_is = g.optimised.next_is ∙ ap (λ (t : Option Fault). turn_at t (net_of closed) (steps_of g.optimised.records)) r.run.turn_is ∙ sym run.1;
        tidy = g.optimised.improved.tidy;
        fewer = omega (arith, less, r.run.fewer);
        within = omega (arith, g.within.size, fuller.pins, fuller.nodes, r.run.within);
        counted = counts;
        bounded = subst (λ (m : Made). AreBounded (wire_count (net_of after.graph)) m) (sym g.made_are)
            (record {
              adds = omega (arith, g.few.adds, r.run.bounded.adds, less);
              fixes = omega (arith, g.few.fixes, r.run.bounded.fixes, less, fixed_few);
              local = omega (arith, g.few.local, r.run.bounded.local, less, small);
            });
      };
    }

-- a closing pass that fixed nothing leaves the round as it was
pub nothing_closed : (texts : TextsAppend) (start : Net) (settings : Settings) (before after : Round) (report : Report) (old one new : Option Files) (name : List ℕ)
    → HasRecorded start settings before old one name → HasClosed (net_of before.graph) (net_of after.graph) report one new name → report.fixed ≡ 0 → IsNoFuller before.graph after.graph
    → after.made ≡ before.made → after.tries ≡ before.tries → after.limit ≡ before.limit → after.settled ≡ before.settled → after.start ≡ before.start
    → HasRecorded start settings after old new name
nothing_closed texts start settings before after report old one new name r c none fuller made tries limit settled turn =
    let empty : c.records ≡ [] = c.steps.none none in
    let same : net_of after.graph ≡ net_of before.graph = subst (λ (rs : List Record). AcceptedTo (net_of before.graph) rs (net_of after.graph)) empty c.steps.accepted in
    let more : HasAppended one new name [] = subst (λ (rs : List Record). HasAppended one new name (records_text rs)) empty c.written in
    record {
      records = r.records;
      written = subst (λ (text : List ℕ). HasAppended old new name text) (append-nil (records_text r.records)) (texts.follows old one new name (records_text r.records) [] r.written more);
      fit = r.fit;
      run = record {
        accepted = subst (λ (net : Net). AcceptedTo start r.records net) (sym same) r.run.accepted;
        run = subst (λ (b : Bool). IsRun start (steps_of r.records) settings.depth after.limit after.tries b) (sym settled)
            (subst (λ (k : ℕ). IsRun start (steps_of r.records) settings.depth after.limit k before.settled) (sym tries)
            (subst (λ (k : ℕ). IsRun start (steps_of r.records) settings.depth k before.tries before.settled) (sym limit) r.run.run));
        turn_is = turn ∙ r.run.turn_is;
        tidy = subst IsTidy (sym same) r.run.tidy;
        fewer = subst (λ (net : Net). wire_count net ≤ wire_count start) (sym same) r.run.fewer;
        within = omega (arith, fuller.pins, fuller.nodes, r.run.within);
        counted = made ∙ r.run.counted;
        bounded = subst (λ (net : Net). AreBounded (wire_count net) after.made) (sym same) (subst (λ (m : Made). AreBounded (wire_count (net_of before.graph)) m) (sym made) r.run.bounded);
      };
    }

-- nor after a closing pass
pub closed_stopped : (join : RunsJoin) (texts : TextsAppend) (start : Net) (settings : Settings) (before : Round) (closed : Circuit) (report : Report) (old one two new : Option Files) (name : List ℕ)
    → HasRecorded start settings before old one name → HasClosed (net_of before.graph) (net_of closed) report one two name → IsStopped (net_of closed) two new name → IsStopped start old new name
closed_stopped join texts start settings before closed report old one two new name r c stopped =
    stopped_then join texts start (net_of before.graph) r.records old one new name r.run.accepted r.written
    (stopped_then join texts (net_of before.graph) (net_of closed) c.records one two new name c.steps.accepted c.written stopped)

-- nor before the first call
pub removed_stopped : (join : RunsJoin) (texts : TextsAppend) (start swept closed : Net) (depth : ℕ) (made : Made) (report : Report) (old one two new : Option Files) (name : List ℕ)
    → HasRemoved start swept depth made old one name → HasClosed swept closed report one two name → IsStopped closed two new name → IsStopped start old new name
removed_stopped join texts start swept closed depth made report old one two new name r c stopped =
    stopped_then join texts start swept r.records old one new name r.accepted r.written
    (stopped_then join texts swept closed c.records one two new name c.steps.accepted c.written stopped)

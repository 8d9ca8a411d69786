-- One stage after another.
use Rattle.std.proofs.lemmas.List.{append-nil}
use Rattle.std.proofs.lemmas.Bool.{lt-ltb, true≢false}
use Rattle.std.proofs.Common.{◌≡◌, ◌≤◌, ◌+◌, ◌-◌, ℕ, Bool, true, false, nat_lt, List, [], ◌∷◌, ◌++◌, length, Option, inl, inr, refl, sym, ◌∙◌, ap, subst, arith}
use Rattle.rm_base.specs.Files.{Files}
use Rattle.rm_base.specs.declared.settings.Made.{Made}
use Rattle.rm_base.specs.declared.settings.Settings.{Settings}
use Rattle.gate_net.specs.Net.{Net, wire_count}
use Rattle.gate_graph.specs.Circuit.{Circuit, live_nodes, net_of, pins_taken}
use Rattle.wire_edit.specs.Order.{IsTidy}
use Rattle.wire_edit.specs.Steps.{stepped}
use Rattle.wire_edit.specs.declared.steps.Step.{Step}
use Rattle.candidate_wires.specs.Additions.{net_after}
use Rattle.journal_ranges.proofs.Public.{fits_then}
use Rattle.journal_text.specs.Appends.{IsThere}
use Rattle.journal_text.specs.Joining.{RunsJoin, TextsAppend}
use Rattle.journal_text.specs.Runs.{AcceptedTo, HasAppended, IsStopped, made_by, none_made, records_text, steps_of}
use Rattle.journal_text.specs.declared.record.Record.{Record}
use Rattle.journal_text.specs.declared.record.Record.TheVariants as record_of
use Rattle.closing_pass.specs.Reports.{AreClosed}
use Rattle.closing_pass.specs.declared.report.Report.{Report}
use Rattle.rar_loop.specs.Rounds.{IsRun, NoPairGains}
use Rattle.rar_loop.specs.Removed.{HasRemoved}
use Rattle.rar_loop.specs.Swept.{IsSwept}
use Rattle.optimisation.specs.Inner.Ended.{HasEnded}
use Rattle.optimisation.specs.Inner.Ran.{sum_of}
use Rattle.optimisation.specs.Inner.Staged.{AreSame, AreUpTo, HasGoneFurther, HasMerged, HasStages, HaveFollowed}
use Rattle.optimisation.specs.Stages.{IsStagedRun, first, further}
use Rattle.optimisation.specs.declared.rounds.Rounds.{Rounds}
use Rattle.optimisation.proofs.Lowering.{staged_lowered}
use Rattle.optimisation.proofs.RoundLaws.{counted_on, three_counted}

pub net_then : (net : Net) (xs ys : List Step) → net_after net (xs ++ ys) ≡ net_after (net_after net xs) ys
net_then net [] ys = refl
net_then net (x ∷ xs) ys = net_then (stepped net x) xs ys

pub led_after : (net after : Net) (records : List Record) → AcceptedTo net records after → net_after net (steps_of records) ≡ after
led_after net after [] a = sym a
led_after net after (record_of.Step step tree ∷ records) a = led_after (stepped net step) after records a.1
led_after net after (record_of.Hit fault vector ∷ records) a = absurd a
led_after net after (record_of.Spent fault tree ∷ records) a = absurd a

-- STAGES
run_staged : (start mid : Net) (merged steps : List Step) (merge depth limit tries : ℕ) (settled : Bool) → (merge ≡ 0 → merged ≡ []) → net_after start merged ≡ mid → IsRun mid steps depth limit tries settled
    → IsStagedRun start (merged ++ steps) merge depth limit tries settled
run_staged start mid merged steps merge depth limit tries settled none at run =
    let last : net_after start (merged ++ steps) ≡ net_after mid steps = net_then start merged steps ∙ ap (λ (n : Net). net_after n steps) at in
    record {
      stages = first merged steps (subst (λ (n : Net). IsRun n steps depth limit tries settled) (sym at) run);
      within = run.within;
      settled_is_whole = λ yes. subst NoPairGains (sym last) (run.settled_is_whole yes);
      spent_is_limit = run.spent_is_limit;
      swept = subst (λ (n : Net). IsSwept n depth) (sym last) run.swept;
      unmerged = λ never.
          let empty : merged ≡ [] = none never in
          let same : start ≡ mid = subst (λ (ms : List Step). net_after start ms ≡ mid) empty at in
          subst (λ (ms : List Step). IsRun start (ms ++ steps) depth limit tries settled) (sym empty) (subst (λ (n : Net). IsRun n steps depth limit tries settled) (sym same) run);
    }

run_goes_further : (start now mid : Net) (before merged steps : List Step) (merge depth limit used tries : ℕ) (was settled : Bool) → (merge ≡ 0 → ⊥) → IsStagedRun start before merge depth limit used was
    → net_after start before ≡ now → net_after now merged ≡ mid → IsRun mid steps depth (limit - used) tries settled
    → IsStagedRun start (before ++ (merged ++ steps)) merge depth limit (used + tries) settled
run_goes_further start now mid before merged steps merge depth limit used tries was settled merges b at_now at_mid run =
    let at : net_after (net_after start before) merged ≡ mid = ap (λ (n : Net). net_after n merged) at_now ∙ at_mid in
    let last : net_after start (before ++ (merged ++ steps)) ≡ net_after mid steps =
    net_then start before (merged ++ steps) ∙ (net_then (net_after start before) merged steps ∙ ap (λ (n : Net). net_after n steps) at) in
    record {
      stages = further b.stages merged steps (subst (λ (n : Net). IsRun n steps depth (limit - used) tries settled) (sym at) run);
      within = omega (arith, b.within, run.within);
      settled_is_whole = λ yes. subst NoPairGains (sym last) (run.settled_is_whole yes);
      spent_is_limit = λ no. let all = run.spent_is_limit no in omega (arith, all, b.within);
      swept = subst (λ (n : Net). IsSwept n depth) (sym last) run.swept;
      unmerged = λ never. absurd (merges never);
    }

-- the steps of two runs
two_counted : (join : RunsJoin) (a b : List Record) → made_by none_made (steps_of (a ++ b)) ≡ sum_of (made_by none_made (steps_of a)) (made_by none_made (steps_of b))
two_counted join a b = ap (made_by none_made) (join.steps a b) ∙ (join.made none_made (steps_of a) (steps_of b) ∙ counted_on (made_by none_made (steps_of a)) (steps_of b))

-- a sweep, and gates merged behind it
pub swept_merged : (join : RunsJoin) (texts : TextsAppend) (start swept after : Net) (depth : ℕ) (removed made sum : Made) (changed : Bool) (old one new : Option Files) (name : List ℕ)
    → HasRemoved start swept depth removed old one name → HasMerged swept after made changed one new name → AreUpTo 35184372088832 made → sum ≡ sum_of removed made
    → HasMerged start after sum true old new name
swept_merged join texts start swept after depth removed made sum changed old one new name r m few sum_is =
    let left : removed.adds + removed.fixes + removed.local ≤ 2097168 = r.few in
    record {
      records = r.records ++ m.records;
      accepted = join.accepted start swept after r.records m.records r.accepted m.accepted;
      fewer = omega (arith, r.fewer, m.fewer);
      written = subst (λ (text : List ℕ). HasAppended old new name text) (sym (join.text r.records m.records)) (texts.follows old one new name (records_text r.records) (records_text m.records) r.written m.written);
      fit = fits_then r.records m.records r.fit m.fit;
      counted = sum_is ∙ (ap (λ (x : Made). sum_of x made) r.counted ∙ (ap (sum_of (made_by none_made (steps_of r.records))) m.counted ∙ sym (two_counted join r.records m.records)));
      few = subst (AreUpTo 70368744177664) (sym sum_is) (record {
        adds = omega (arith, left, few.adds);
        fixes = omega (arith, left, few.fixes);
        local = omega (arith, left, few.local);
      });
      none = λ same. absurd (true≢false same);
    }

-- rounds alone are a stage
pub rounds_staged : (start : Net) (settings : Settings) (rounds : Rounds) (old new : Option Files) (name : List ℕ) → HasEnded start settings rounds old new name → HasStages start settings rounds old new name
rounds_staged start settings rounds old new name h =
    let r = h.recorded in
    record {
      records = r.records;
      run = record {
        accepted = r.run.accepted;
        run = run_staged start start [] (steps_of r.records) settings.merge settings.depth rounds.last.limit rounds.last.tries rounds.last.settled (λ never. refl) refl r.run.run;
        tidy = r.run.tidy;
        fewer = r.run.fewer;
        within = r.run.within;
        counted = r.run.counted;
      };
      written = r.written;
      fit = r.fit;
      closed = h.closed;
    }

-- so are rounds after gates were merged
pub merged_staged : (join : RunsJoin) (texts : TextsAppend) (start : Net) (mid : Circuit) (settings : Settings) (made : Made) (changed : Bool) (rounds after : Rounds) (old one new : Option Files) (name : List ℕ)
    → (settings.merge ≡ 0 → ⊥) → HasMerged start (net_of mid) made changed old one name → HasEnded (net_of mid) settings rounds one new name
    → after.last.graph ≡ rounds.last.graph → after.last.made ≡ sum_of made rounds.last.made → after.last.tries ≡ rounds.last.tries → after.last.limit ≡ rounds.last.limit → after.last.settled ≡ rounds.last.settled → after.report ≡ rounds.report
    → HasStages start settings after old new name
merged_staged join texts start mid settings made changed rounds after old one new name merges m h graph made_is tries limit settled report =
    let r = h.recorded in
    let records : List Record = m.records ++ r.records in
    let at : net_after start (steps_of m.records) ≡ net_of mid = led_after start (net_of mid) m.records m.accepted in
    let run : IsStagedRun start (steps_of m.records ++ steps_of r.records) settings.merge settings.depth rounds.last.limit rounds.last.tries rounds.last.settled =
    run_staged start (net_of mid) (steps_of m.records) (steps_of r.records) settings.merge settings.depth rounds.last.limit rounds.last.tries rounds.last.settled (λ never. absurd (merges never)) at r.run.run in
    record {
      records = records;
      run = record {
        accepted = subst (λ (g : Circuit). AcceptedTo start records (net_of g)) (sym graph) (join.accepted start (net_of mid) (net_of rounds.last.graph) m.records r.records m.accepted r.run.accepted);
        run = subst (λ (ss : List Step). IsStagedRun start ss settings.merge settings.depth after.last.limit after.last.tries after.last.settled) (sym (join.steps m.records r.records))
            (subst (λ (k : ℕ). IsStagedRun start (steps_of m.records ++ steps_of r.records) settings.merge settings.depth k after.last.tries after.last.settled) (sym limit)
            (subst (λ (k : ℕ). IsStagedRun start (steps_of m.records ++ steps_of r.records) settings.merge settings.depth rounds.last.limit k after.last.settled) (sym tries)
            (subst (λ (b : Bool). IsStagedRun start (steps_of m.records ++ steps_of r.records) settings.merge settings.depth rounds.last.limit rounds.last.tries b) (sym settled) run)));
        tidy = subst (λ (g : Circuit). IsTidy (net_of g)) (sym graph) r.run.tidy;
        fewer = subst (λ (g : Circuit). wire_count (net_of g) ≤ wire_count start) (sym graph) (omega (arith, r.run.fewer, m.fewer));
        within = subst (λ (g : Circuit). pins_taken g + live_nodes g ≤ 1048576) (sym graph) r.run.within;
        counted = made_is ∙ (ap (λ (x : Made). sum_of x rounds.last.made) m.counted ∙ (ap (sum_of (made_by none_made (steps_of m.records))) r.run.counted ∙ sym (two_counted join m.records r.records)));
      };
      written = subst (λ (text : List ℕ). HasAppended old new name text) (sym (join.text m.records r.records)) (texts.follows old one new name (records_text m.records) (records_text r.records) m.written r.written);
      fit = fits_then m.records r.records m.fit r.fit;
      closed = subst (λ (p : Report). AreClosed (net_of after.last.graph) settings.budget p.verdicts.items) (sym report) (subst (λ (g : Circuit). AreClosed (net_of g) settings.budget rounds.report.verdicts.items) (sym graph) h.closed);
    }

-- where no gate was merged the stages are what they were
same_staged : (texts : TextsAppend) (start : Net) (settings : Settings) (before after : Rounds) (old one new : Option Files) (name : List ℕ)
    → HasStages start settings before old one name → AreSame before after one new name → HasStages start settings after old new name
same_staged texts start settings before after old one new name b s = record {
  records = b.records;
  run = record {
    accepted = subst (λ (n : Net). AcceptedTo start b.records n) (sym s.net) b.run.accepted;
    run = subst (λ (k : ℕ). IsStagedRun start (steps_of b.records) settings.merge settings.depth k after.last.tries after.last.settled) (sym s.limit)
        (subst (λ (k : ℕ). IsStagedRun start (steps_of b.records) settings.merge settings.depth before.last.limit k after.last.settled) (sym s.tries)
        (subst (λ (x : Bool). IsStagedRun start (steps_of b.records) settings.merge settings.depth before.last.limit before.last.tries x) (sym s.settled) b.run.run));
    tidy = subst IsTidy (sym s.net) b.run.tidy;
    fewer = subst (λ (n : Net). wire_count n ≤ wire_count start) (sym s.net) b.run.fewer;
    within = s.within;
    counted = s.made ∙ b.run.counted;
  };
  written = subst (λ (text : List ℕ). HasAppended old new name text) (append-nil (records_text b.records)) (texts.follows old one new name (records_text b.records) [] b.written s.written);
  fit = b.fit;
  closed = subst (λ (p : Report). AreClosed (net_of after.last.graph) settings.budget p.verdicts.items) (sym s.report) (subst (λ (n : Net). AreClosed n settings.budget before.report.verdicts.items) (sym s.net) b.closed);
}

-- and where some were, there is a stage more
followed_staged : (join : RunsJoin) (texts : TextsAppend) (start : Net) (settings : Settings) (before after : Rounds) (old one new : Option Files) (name : List ℕ)
    → (settings.merge ≡ 0 → ⊥) → HasStages start settings before old one name → HaveFollowed settings before after one new name → HasStages start settings after old new name
followed_staged join texts start settings before after old one new name merges b f =
    let m = f.merged in
    let r = f.ended.recorded in
    let now : Net = net_of before.last.graph in
    let mid : Net = net_of f.mid in
    let rest : List Record = m.records ++ r.records in
    let records : List Record = b.records ++ rest in
    let steps : List Step = steps_of b.records ++ (steps_of m.records ++ steps_of r.records) in
    let steps_are : steps_of records ≡ steps = join.steps b.records rest ∙ ap (λ (ss : List Step). steps_of b.records ++ ss) (join.steps m.records r.records) in
    let limit : ℕ = before.last.tries + f.rounds.last.limit in
    let some : f.rounds.last.limit ≤ before.last.limit - before.last.tries = f.within in
    let left : f.rounds.last.limit ≡ limit - before.last.tries = omega arith in
    let was : IsStagedRun start (steps_of b.records) settings.merge settings.depth limit before.last.tries before.last.settled =
    staged_lowered start (steps_of b.records) settings.merge settings.depth before.last.limit limit before.last.tries before.last.settled b.run.run (omega arith) (omega (arith, some, b.run.run.within)) in
    let run : IsStagedRun start steps settings.merge settings.depth limit (before.last.tries + f.rounds.last.tries) f.rounds.last.settled =
    run_goes_further start now mid (steps_of b.records) (steps_of m.records) (steps_of r.records) settings.merge settings.depth limit before.last.tries f.rounds.last.tries before.last.settled f.rounds.last.settled merges was
    (led_after start now b.records b.run.accepted) (led_after now mid m.records m.accepted)
    (subst (λ (k : ℕ). IsRun mid (steps_of r.records) settings.depth k f.rounds.last.tries f.rounds.last.settled) left r.run.run) in
    let led : AcceptedTo start records (net_of f.rounds.last.graph) =
    join.accepted start now (net_of f.rounds.last.graph) b.records rest b.run.accepted (join.accepted now mid (net_of f.rounds.last.graph) m.records r.records m.accepted r.run.accepted) in
    record {
      records = records;
      run = record {
        accepted = subst (λ (g : Circuit). AcceptedTo start records (net_of g)) (sym f.graph) led;
        run = subst (λ (ss : List Step). IsStagedRun start ss settings.merge settings.depth after.last.limit after.last.tries after.last.settled) (sym steps_are)
            (subst (λ (k : ℕ). IsStagedRun start steps settings.merge settings.depth k after.last.tries after.last.settled) (sym f.limit)
            (subst (λ (k : ℕ). IsStagedRun start steps settings.merge settings.depth limit k after.last.settled) (sym f.tries)
            (subst (λ (x : Bool). IsStagedRun start steps settings.merge settings.depth limit (before.last.tries + f.rounds.last.tries) x) (sym f.settled) run)));
        tidy = subst (λ (g : Circuit). IsTidy (net_of g)) (sym f.graph) r.run.tidy;
        fewer = subst (λ (g : Circuit). wire_count (net_of g) ≤ wire_count start) (sym f.graph) (omega (arith, r.run.fewer, m.fewer, b.run.fewer));
        within = subst (λ (g : Circuit). pins_taken g + live_nodes g ≤ 1048576) (sym f.graph) r.run.within;
        counted = f.made_are
            ∙ (ap (λ (x : Made). sum_of (sum_of x f.made) f.rounds.last.made) b.run.counted
            ∙ (ap (λ (x : Made). sum_of (sum_of (made_by none_made (steps_of b.records)) x) f.rounds.last.made) m.counted
            ∙ (ap (λ (x : Made). sum_of (sum_of (made_by none_made (steps_of b.records)) (made_by none_made (steps_of m.records))) x) r.run.counted
            ∙ sym (three_counted join b.records m.records r.records))));
      };
      written = subst (λ (text : List ℕ). HasAppended old new name text) (sym (join.text b.records rest ∙ ap (λ (text : List ℕ). records_text b.records ++ text) (join.text m.records r.records)))
          (texts.follows old one new name (records_text b.records) (records_text m.records ++ records_text r.records) b.written
          (texts.follows one f.one new name (records_text m.records) (records_text r.records) m.written r.written));
      fit = fits_then b.records rest b.fit (fits_then m.records r.records m.fit r.fit);
      closed = subst (λ (p : Report). AreClosed (net_of after.last.graph) settings.budget p.verdicts.items) (sym f.report) (subst (λ (g : Circuit). AreClosed (net_of g) settings.budget f.rounds.report.verdicts.items) (sym f.graph) f.ended.closed);
    }

pub further_staged : (join : RunsJoin) (texts : TextsAppend) (start : Net) (settings : Settings) (before after : Rounds) (old one new : Option Files) (name : List ℕ)
    → (settings.merge ≡ 0 → ⊥) → HasStages start settings before old one name → HasGoneFurther settings before after one new name → HasStages start settings after old new name
further_staged join texts start settings before after old one new name merges b h = elim h [
  | inl same ↦ same_staged texts start settings before after old one new name b same
  | inr more ↦ followed_staged join texts start settings before after old one new name merges b more
]

-- rounds that ended made no more steps than the bound says
pub ended_few : (start : Net) (settings : Settings) (rounds : Rounds) (old new : Option Files) (name : List ℕ) → HasEnded start settings rounds old new name → AreUpTo 4611826755915743232 rounds.last.made
ended_few start settings rounds old new name h = record {
  adds = omega (arith, h.recorded.run.bounded.adds);
  fixes = omega (arith, h.recorded.run.bounded.fixes);
  local = omega (arith, h.recorded.run.bounded.local);
}

-- MERGING
-- as few steps of each kind as there are records
pub merged_few : (join : RunsJoin) (net after : Net) (records : List Record) (made : Made) → AcceptedTo net records after → made ≡ made_by none_made (steps_of records) → length records ≤ 35184372088832 → AreUpTo 35184372088832 made
merged_few join net after records made accepted counts few =
    let sum : made.adds + made.fixes + made.local ≡ 0 + 0 + 0 + length (steps_of records) = subst (λ (x : Made). x.adds + x.fixes + x.local ≡ 0 + 0 + 0 + length (steps_of records)) (sym counts) (join.counts none_made (steps_of records)) in
    let each : length (steps_of records) ≡ length records = join.each net after records accepted in
    record {
      adds = omega (arith, sum, each, few);
      fixes = omega (arith, sum, each, few);
      local = omega (arith, sum, each, few);
    }

-- a bound that is greater
pub up_to : (most more : ℕ) (made : Made) → most ≤ more → AreUpTo most made → AreUpTo more made
up_to most more made within few = record {
  adds = omega (arith, within, few.adds);
  fixes = omega (arith, within, few.fixes);
  local = omega (arith, within, few.local);
}

-- where the first record stops, nothing was written; and a part of accepted records is one
pub stopped_at_once : (texts : TextsAppend) (start : Net) (files : Option Files) (name : List ℕ) → IsThere files name → IsStopped start files files name
stopped_at_once texts start files name there = record { records = []; after = start; accepted = refl; written = texts.none_part files name [] there }

pub no_records : (records : List Record) → nat_lt 0 (length records) ≡ false → records ≡ []
no_records [] none = refl
no_records (r ∷ records) none =
    let some : nat_lt 0 (length (r ∷ records)) ≡ true = lt-ltb 0 (length (r ∷ records)) (omega arith) in
    absurd (true≢false (sym some ∙ none))

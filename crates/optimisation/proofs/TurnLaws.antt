-- One turn after another.
use Rattle.std.proofs.lemmas.List.{append-nil}
use Rattle.std.proofs.lemmas.Bool.{true≢false}
use Rattle.std.specs.Prelude.{not}
use Rattle.std.proofs.Common.{◌≡◌, ◌≤◌, ◌+◌, ◌-◌, ℕ, suc, Bool, true, false, List, [], ◌∷◌, ◌++◌, length, Option, refl, sym, ◌∙◌, ap, subst, arith}
use Rattle.rm_base.specs.Files.{Files}
use Rattle.rm_base.specs.declared.settings.Made.{Made}
use Rattle.rm_base.specs.declared.settings.Settings.{Settings}
use Rattle.gate_net.specs.Net.{Net, wire_count}
use Rattle.gate_graph.specs.Circuit.{Circuit, live_nodes, net_of, pins_taken}
use Rattle.wire_edit.specs.Order.{IsTidy}
use Rattle.wire_edit.specs.declared.steps.Step.{Step}
use Rattle.candidate_wires.specs.Additions.{net_after}
use Rattle.journal_ranges.proofs.Public.{fits_then}
use Rattle.journal_text.specs.Joining.{RunsJoin, TextsAppend}
use Rattle.journal_text.specs.Runs.{AcceptedTo, HasAppended, IsStopped, made_by, none_made, records_text, steps_of}
use Rattle.journal_text.specs.declared.record.Record.{Record}
use Rattle.closing_pass.specs.Reports.{AreClosed}
use Rattle.closing_pass.specs.declared.report.Report.{Report}
use Rattle.rar_loop.specs.Perturbed.{HasPerturbed, IsTurn}
use Rattle.rar_loop.specs.Rounds.{IsRun, NoPairGains}
use Rattle.rar_loop.specs.Swept.{IsSwept}
use Rattle.optimisation.specs.Inner.Ended.{HasEnded}
use Rattle.optimisation.specs.Inner.Ran.{sum_of}
use Rattle.optimisation.specs.Inner.Staged.{HasStages}
use Rattle.optimisation.specs.Inner.Turned.{HasTurned, HasTurnedInVain, HasTurnedOn, HasTurns}
use Rattle.optimisation.specs.Turns.{IsTurnedRun, staged, turned, in_vain}
use Rattle.optimisation.specs.declared.rounds.Rounds.{Rounds}
use Rattle.optimisation.proofs.Lowering.{turn_lowered, turned_lowered}
use Rattle.optimisation.proofs.RoundLaws.{three_counted}
use Rattle.optimisation.proofs.StageLaws.{led_after, net_then}

-- stages are no turn yet
pub turns_first : (start : Net) (settings : Settings) (rounds : Rounds) (old new : Option Files) (name : List ℕ) → HasStages start settings rounds old new name → HasTurns start settings 0 rounds old new name
turns_first start settings rounds old new name h =
    let r = h.run.run in
    record {
      records = h.records;
      run = record {
        accepted = h.run.accepted;
        run = record {
          turns = 0;
          run = staged r;
          few = omega arith;
          within = r.within;
          settled_is_whole = r.settled_is_whole;
          spent_is_limit = r.spent_is_limit;
          swept = r.swept;
          unperturbed = λ none. r;
        };
        tidy = h.run.tidy;
        fewer = h.run.fewer;
        within = h.run.within;
        counted = h.run.counted;
      };
      written = h.written;
      fit = h.fit;
      closed = h.closed;
    }

none_zero : (k perturb : ℕ) → k ≤ perturb → perturb ≡ 0 → k ≡ 0
none_zero k perturb le none = omega (arith, le, none)

-- there may be more turns than there are
pub turns_within : (start : Net) (settings : Settings) (k perturb : ℕ) (rounds : Rounds) (old new : Option Files) (name : List ℕ) → k ≤ perturb → HasTurns start settings k rounds old new name → HasTurns start settings perturb rounds old new name
turns_within start settings k perturb rounds old new name le h =
    let r = h.run.run in
    record {
      records = h.records;
      run = record {
        accepted = h.run.accepted;
        run = record {
          turns = r.turns;
          run = r.run;
          few = omega (arith, r.few, le);
          within = r.within;
          settled_is_whole = r.settled_is_whole;
          spent_is_limit = r.spent_is_limit;
          swept = r.swept;
          unperturbed = λ none. r.unperturbed (none_zero k perturb le none);
        };
        tidy = h.run.tidy;
        fewer = h.run.fewer;
        within = h.run.within;
        counted = h.run.counted;
      };
      written = h.written;
      fit = h.fit;
      closed = h.closed;
    }

-- records without a step of any kind are none
no_records : (join : RunsJoin) (net after : Net) (records : List Record) (made : Made) → AcceptedTo net records after → made ≡ made_by none_made (steps_of records) → made.adds + made.fixes + made.local ≡ 0 → records ≡ []
no_records join net after records made accepted counts none =
    let sum : made.adds + made.fixes + made.local ≡ 0 + 0 + 0 + length (steps_of records) = subst (λ (x : Made). x.adds + x.fixes + x.local ≡ 0 + 0 + 0 + length (steps_of records)) (sym counts) (join.counts none_made (steps_of records)) in
    let each : length (steps_of records) ≡ length records = join.each net after records accepted in
    empty records (omega (arith, sum, each, none))
  where
    empty : (rs : List Record) → length rs ≡ 0 → rs ≡ []
    empty [] e = refl
    empty (r ∷ rs) e = absurd (omega (arith, e))

in_vain_run : (net : Net) (steps : List Step) (merge k depth limit used spent : ℕ) → used + spent ≤ limit → IsTurnedRun net steps merge k depth limit used true → IsTurnedRun net steps merge (suc k) depth limit (used + spent) true
in_vain_run net steps merge k depth limit used spent le r = record {
  turns = suc r.turns;
  run = in_vain r.run spent le;
  few = omega (arith, r.few);
  within = le;
  settled_is_whole = λ settles. r.settled_is_whole refl;
  spent_is_limit = λ spends. cc;
  swept = r.swept;
  unperturbed = λ none. cc;
}

-- a turn in vain is one more
pub turns_in_vain : (join : RunsJoin) (texts : TextsAppend) (start : Net) (settings : Settings) (k : ℕ) (before after : Rounds) (old one new : Option Files) (name : List ℕ) → before.last.settled ≡ true
    → HasTurns start settings k before old one name → HasTurnedInVain settings before after one new name → HasTurns start settings (suc k) after old new name
turns_in_vain join texts start settings k before after old one new name settles b v =
    let p = v.perturbed in
    let none : p.records ≡ [] = no_records join (net_of before.last.graph) (net_of after.last.graph) p.records v.made p.accepted p.counted v.none in
    let same : net_of after.last.graph ≡ net_of before.last.graph = subst (λ (rs : List Record). AcceptedTo (net_of before.last.graph) rs (net_of after.last.graph)) none p.accepted in
    let written : HasAppended one new name [] = subst (λ (rs : List Record). HasAppended one new name (records_text rs)) none p.written in
    let spent : v.spent ≤ before.last.limit - before.last.tries = p.turn.within in
    let run : IsTurnedRun start (steps_of b.records) settings.merge k settings.depth before.last.limit before.last.tries true = subst (λ (x : Bool). IsTurnedRun start (steps_of b.records) settings.merge k settings.depth before.last.limit before.last.tries x) settles b.run.run in
    let more : IsTurnedRun start (steps_of b.records) settings.merge (suc k) settings.depth before.last.limit (before.last.tries + v.spent) true = in_vain_run start (steps_of b.records) settings.merge k settings.depth before.last.limit before.last.tries v.spent (omega (arith, spent, run.within)) run in
    record {
      records = b.records;
      run = record {
        accepted = subst (λ (n : Net). AcceptedTo start b.records n) (sym same) b.run.accepted;
        run = subst (λ (n : ℕ). IsTurnedRun start (steps_of b.records) settings.merge (suc k) settings.depth n after.last.tries after.last.settled) (sym v.limit)
            (subst (λ (n : ℕ). IsTurnedRun start (steps_of b.records) settings.merge (suc k) settings.depth before.last.limit n after.last.settled) (sym v.tries)
            (subst (λ (x : Bool). IsTurnedRun start (steps_of b.records) settings.merge (suc k) settings.depth before.last.limit (before.last.tries + v.spent) x) (sym (v.settled ∙ settles)) more));
        tidy = subst IsTidy (sym same) b.run.tidy;
        fewer = subst (λ (n : Net). wire_count n ≤ wire_count start) (sym same) b.run.fewer;
        within = v.within;
        counted = v.made_are ∙ b.run.counted;
      };
      written = subst (λ (text : List ℕ). HasAppended old new name text) (append-nil (records_text b.records)) (texts.follows old one new name (records_text b.records) [] b.written written);
      fit = b.fit;
      closed = subst (λ (q : Report). AreClosed (net_of after.last.graph) settings.budget q.verdicts.items) (sym v.report) (subst (λ (n : Net). AreClosed n settings.budget before.report.verdicts.items) (sym same) b.closed);
    }

turned_run : (start now mid : Net) (before turn steps : List Step) (merge k depth limit used spent tries : ℕ) (settled : Bool) → IsTurnedRun start before merge k depth limit used true → net_after start before ≡ now → IsTurn now depth (limit - used) turn mid spent
    → net_after now turn ≡ mid → IsRun mid steps depth (limit - (used + spent)) tries settled → IsTurnedRun start (before ++ (turn ++ steps)) merge (suc k) depth limit (used + spent + tries) settled
turned_run start now mid before turn steps merge k depth limit used spent tries settled b at_now t at_mid run =
    let at : net_after (net_after start before) turn ≡ mid = ap (λ (n : Net). net_after n turn) at_now ∙ at_mid in
    let last : net_after start (before ++ (turn ++ steps)) ≡ net_after mid steps =
    net_then start before (turn ++ steps) ∙ (net_then (net_after start before) turn steps ∙ ap (λ (n : Net). net_after n steps) at) in
    let some : spent ≤ limit - used = t.within in
    record {
      turns = suc b.turns;
      run = turned b.run turn mid (subst (λ (n : Net). IsTurn n depth (limit - used) turn mid spent) (sym at_now) t) steps run;
      few = omega (arith, b.few);
      within = omega (arith, b.within, some, run.within);
      settled_is_whole = λ settles. subst NoPairGains (sym last) (run.settled_is_whole settles);
      spent_is_limit = λ spends. let all = run.spent_is_limit spends in omega (arith, all, b.within, some);
      swept = subst (λ (n : Net). IsSwept n depth) (sym last) run.swept;
      unperturbed = λ none. cc;
    }

-- a turn with rounds behind it is one more
pub turns_on : (join : RunsJoin) (texts : TextsAppend) (start : Net) (settings : Settings) (k : ℕ) (before after : Rounds) (old one new : Option Files) (name : List ℕ) → before.last.settled ≡ true
    → HasTurns start settings k before old one name → HasTurnedOn settings before after one new name → HasTurns start settings (suc k) after old new name
turns_on join texts start settings k before after old one new name settles b h =
    let p = h.perturbed in
    let f = h.followed in
    let r = f.ended.recorded in
    let now : Net = net_of before.last.graph in
    let mid : Net = net_of h.mid in
    let rest : List Record = p.records ++ r.records in
    let records : List Record = b.records ++ rest in
    let steps : List Step = steps_of b.records ++ (steps_of p.records ++ steps_of r.records) in
    let steps_are : steps_of records ≡ steps = join.steps b.records rest ∙ ap (λ (ss : List Step). steps_of b.records ++ ss) (join.steps p.records r.records) in
    let used : ℕ = before.last.tries + h.spent in
    let limit : ℕ = used + f.rounds.last.limit in
    let spent : h.spent ≤ before.last.limit - before.last.tries = p.turn.within in
    let some : f.rounds.last.limit ≤ before.last.limit - used = f.within in
    let left : f.rounds.last.limit ≡ limit - used = omega arith in
    let within : limit ≤ before.last.limit = omega (arith, some, spent, b.run.run.within) in
    let before_is : IsTurnedRun start (steps_of b.records) settings.merge k settings.depth before.last.limit before.last.tries true =
    subst (λ (x : Bool). IsTurnedRun start (steps_of b.records) settings.merge k settings.depth before.last.limit before.last.tries x) settles b.run.run in
    let was : IsTurnedRun start (steps_of b.records) settings.merge k settings.depth limit before.last.tries true =
    turned_lowered start (steps_of b.records) settings.merge k settings.depth before.last.limit limit before.last.tries true before_is (omega arith) within in
    let run : IsTurnedRun start steps settings.merge (suc k) settings.depth limit (used + f.rounds.last.tries) f.rounds.last.settled =
    turned_run start now mid (steps_of b.records) (steps_of p.records) (steps_of r.records) settings.merge k settings.depth limit before.last.tries h.spent f.rounds.last.tries f.rounds.last.settled was
    (led_after start now b.records b.run.accepted) (turn_lowered now settings.depth (before.last.limit - before.last.tries) (limit - before.last.tries) (steps_of p.records) mid h.spent p.turn (omega arith)) (led_after now mid p.records p.accepted)
    (subst (λ (n : ℕ). IsRun mid (steps_of r.records) settings.depth n f.rounds.last.tries f.rounds.last.settled) left r.run.run) in
    let led : AcceptedTo start records (net_of f.rounds.last.graph) =
    join.accepted start now (net_of f.rounds.last.graph) b.records rest b.run.accepted (join.accepted now mid (net_of f.rounds.last.graph) p.records r.records p.accepted r.run.accepted) in
    record {
      records = records;
      run = record {
        accepted = subst (λ (g : Circuit). AcceptedTo start records (net_of g)) (sym f.graph) led;
        run = subst (λ (ss : List Step). IsTurnedRun start ss settings.merge (suc k) settings.depth after.last.limit after.last.tries after.last.settled) (sym steps_are)
            (subst (λ (n : ℕ). IsTurnedRun start steps settings.merge (suc k) settings.depth n after.last.tries after.last.settled) (sym f.limit_is)
            (subst (λ (n : ℕ). IsTurnedRun start steps settings.merge (suc k) settings.depth limit n after.last.settled) (sym f.tries_are)
            (subst (λ (x : Bool). IsTurnedRun start steps settings.merge (suc k) settings.depth limit (used + f.rounds.last.tries) x) (sym f.settled) run)));
        tidy = subst (λ (g : Circuit). IsTidy (net_of g)) (sym f.graph) r.run.tidy;
        fewer = subst (λ (g : Circuit). wire_count (net_of g) ≤ wire_count start) (sym f.graph) (omega (arith, r.run.fewer, p.fewer, b.run.fewer));
        within = subst (λ (g : Circuit). pins_taken g + live_nodes g ≤ 1048576) (sym f.graph) r.run.within;
        counted = f.made_are
            ∙ (ap (λ (x : Made). sum_of (sum_of x h.made) f.rounds.last.made) b.run.counted
            ∙ (ap (λ (x : Made). sum_of (sum_of (made_by none_made (steps_of b.records)) x) f.rounds.last.made) p.counted
            ∙ (ap (λ (x : Made). sum_of (sum_of (made_by none_made (steps_of b.records)) (made_by none_made (steps_of p.records))) x) r.run.counted
            ∙ sym (three_counted join b.records p.records r.records))));
      };
      written = subst (λ (text : List ℕ). HasAppended old new name text) (sym (join.text b.records rest ∙ ap (λ (text : List ℕ). records_text b.records ++ text) (join.text p.records r.records)))
          (texts.follows old one new name (records_text b.records) (records_text p.records ++ records_text r.records) b.written
          (texts.follows one h.one new name (records_text p.records) (records_text r.records) p.written r.written));
      fit = fits_then b.records rest b.fit (fits_then p.records r.records p.fit r.fit);
      closed = subst (λ (q : Report). AreClosed (net_of after.last.graph) settings.budget q.verdicts.items) (sym f.report) (subst (λ (g : Circuit). AreClosed (net_of g) settings.budget f.rounds.report.verdicts.items) (sym f.graph) f.ended.closed);
    }

pub turns_more : (join : RunsJoin) (texts : TextsAppend) (start : Net) (settings : Settings) (k : ℕ) (before after : Rounds) (changed : Bool) (old one new : Option Files) (name : List ℕ) → before.last.settled ≡ true
    → HasTurns start settings k before old one name → HasTurned settings before after changed one new name → HasTurns start settings (suc k) after old new name
turns_more join texts start settings k before after true old one new name settles b h = turns_on join texts start settings k before after old one new name settles b h
turns_more join texts start settings k before after false old one new name settles b h = turns_in_vain join texts start settings k before after old one new name settles b h

has_settled : (b : Bool) → not b ≡ false → b ≡ true
has_settled true e = refl
has_settled false e = absurd (true≢false e)

pub turns_next : (join : RunsJoin) (texts : TextsAppend) (start : Net) (settings : Settings) (k : ℕ) (before after : Rounds) (changed : Bool) (old one new : Option Files) (name : List ℕ) → not before.last.settled ≡ false
    → HasTurns start settings k before old one name → HasTurned settings before after changed one new name → HasTurns start settings (k + 1) after old new name
turns_next join texts start settings k before after changed old one new name ends b h =
    let next : suc k ≡ k + 1 = omega arith in
    subst (λ (n : ℕ). HasTurns start settings n after old new name) next (turns_more join texts start settings k before after changed old one new name (has_settled before.last.settled ends) b h)

-- WHERE IT STOPS
pub ended_stopped : (texts : TextsAppend) (start : Net) (settings : Settings) (rounds : Rounds) (old new : Option Files) (name : List ℕ) → HasEnded start settings rounds old new name → IsStopped start old new name
ended_stopped texts start settings rounds old new name h =
    let r = h.recorded in
    record { records = r.records; after = net_of rounds.last.graph; accepted = r.run.accepted; written = texts.whole old new name (records_text r.records) r.written }

pub perturbed_stopped : (texts : TextsAppend) (net after : Net) (depth limit tries : ℕ) (made : Made) (old new : Option Files) (name : List ℕ) → HasPerturbed net after depth limit tries made old new name → IsStopped net old new name
perturbed_stopped texts net after depth limit tries made old new name p = record { records = p.records; after = after; accepted = p.accepted; written = texts.whole old new name (records_text p.records) p.written }

pub turns_stopped : (texts : TextsAppend) (start : Net) (settings : Settings) (k : ℕ) (rounds : Rounds) (old new : Option Files) (name : List ℕ) → HasTurns start settings k rounds old new name → IsStopped start old new name
turns_stopped texts start settings k rounds old new name h = record { records = h.records; after = net_of rounds.last.graph; accepted = h.run.accepted; written = texts.whole old new name (records_text h.records) h.written }

-- Recording a fix after another.
use Rattle.std.proofs.Common.{◌≡◌, ℕ, suc, ◌+◌, ◌<◌, ◌≤◌, Option, List, [], ◌∷◌, ◌++◌, length, refl, sym, ◌∙◌, ap, subst, arith}
use Rattle.std.proofs.lemmas.List.{length-append}
use Rattle.gate_net.specs.Net.{Net, wire_count}
use Rattle.refutation.specs.declared.items.Item.{Item}
use Rattle.rm_base.specs.Files.{Files}
use Rattle.rm_base.specs.declared.numbers.Fault.{Fault}
use Rattle.rm_base.specs.declared.settings.Made.{Made}
use Rattle.wire_edit.specs.Laws.{IsTidying}
use Rattle.wire_edit.specs.Work.{work}
use Rattle.wire_edit.specs.declared.steps.Step.{Step}
use Rattle.wire_edit.specs.declared.steps.Step.TheVariants.{Add, Fix, NewNot, Const, Same, NoPins, OnePin, Twice, Twin, Dead}
use Rattle.journal_text.specs.Appends.{IsThere}
use Rattle.journal_text.specs.Joining.{RunsJoin, TextsAppend}
use Rattle.journal_text.specs.Runs.{AcceptedTo, AreRemovals, HasAppended, HasAppendedPart, IsStopped, counted, made_by, none_made, records_text, steps_of}
use Rattle.journal_ranges.proofs.Public.{fits_then}
use Rattle.journal_ranges.specs.Ranges.{AreFit}
use Rattle.journal_text.specs.declared.record.Record.{Record}
use Rattle.closing_pass.specs.Inner.Closing.{HasGone, HasRecordedFix}
use Rattle.recorded_removals.specs.Going.{AreTidying, HasFixed, Logs}
use Rattle.closing_pass.specs.Reports.{HasClosed, IsRemovedTo, made_in}
use Rattle.closing_pass.specs.declared.report.Report.{Report}
use Rattle.wire_edit.specs.Removals.{IsRemoval}

-- COUNTS
tidying_counts : (m : Made) (s : Step) → IsTidying s → (counted m s).fixes ≡ m.fixes
tidying_counts m (Add gate y) t = absurd t
tidying_counts m (Fix gate position value) t = absurd t
tidying_counts m (NewNot y) t = absurd t
tidying_counts m (Const gate position) t = refl
tidying_counts m (Same gate position) t = refl
tidying_counts m (NoPins gate) t = refl
tidying_counts m (OnePin gate) t = refl
tidying_counts m (Twice gate) t = refl
tidying_counts m (Twin gate other) t = refl
tidying_counts m (Dead gate) t = refl

tidying_fixes : (m : Made) (steps : List Step) → AreTidying steps → (made_by m steps).fixes ≡ m.fixes
tidying_fixes m [] t = refl
tidying_fixes m (s ∷ steps) t = tidying_fixes (counted m s) steps t.1 ∙ tidying_counts m s t.0

removal_counts : (m : Made) (s : Step) → IsRemoval s → (counted m s).adds ≡ m.adds
removal_counts m (Add gate y) t = absurd t
removal_counts m (NewNot y) t = absurd t
removal_counts m (Fix gate position value) t = refl
removal_counts m (Const gate position) t = refl
removal_counts m (Same gate position) t = refl
removal_counts m (NoPins gate) t = refl
removal_counts m (OnePin gate) t = refl
removal_counts m (Twice gate) t = refl
removal_counts m (Twin gate other) t = refl
removal_counts m (Dead gate) t = refl

removal_adds : (m : Made) (steps : List Step) → AreRemovals steps → (made_by m steps).adds ≡ m.adds
removal_adds m [] r = refl
removal_adds m (s ∷ steps) r = removal_adds (counted m s) steps r.1 ∙ removal_counts m s r.0

-- A FIX
pub fix_accepted : (net after : Net) (log : List Record) → Logs net after [] log → AcceptedTo net log after
fix_accepted net after log l = subst (λ (rs : List Record). AcceptedTo net rs after) (sym l.added) l.accepted

pub fix_spent : (net after : Net) (log : List Record) → Logs net after [] log → length log + work after ≤ work net
fix_spent net after log l = subst (λ (rs : List Record). length rs + work after ≤ work net) (sym l.added) l.spent

pub fix_recorded :
    (net after : Net) (fault : Fault) (tree : List Item) (log : List Record) (made made' : Made) (old new : Option Files) (journal : List ℕ) → Logs net after [] log → HasFixed fault tree [] log → HasAppended old new journal (records_text log) → AreFit log
    → made' ≡ made_by made (steps_of log) → HasRecordedFix net after made made' old new journal
fix_recorded net after fault tree log made made' old new journal l f written fit is = record {
  records = log;
  accepted = fix_accepted net after log l;
  removals = subst (λ (rs : List Record). AreRemovals (steps_of rs)) (sym l.added) l.removals;
  spent = fix_spent net after log l;
  written = written;
  fit = fit;
  counted = is;
  one =
      let steps : steps_of log ≡ Fix fault.gate fault.position fault.value ∷ steps_of f.rest = ap steps_of f.are in
      let e : made'.fixes ≡ (made_by (counted made (Fix fault.gate fault.position fault.value)) (steps_of f.rest)).fixes = ap (λ (m : Made). m.fixes) is ∙ ap (λ (s : List Step). (made_by made s).fixes) steps in
      let n : (made_by (counted made (Fix fault.gate fault.position fault.value)) (steps_of f.rest)).fixes ≡ suc made.fixes = tidying_fixes (counted made (Fix fault.gate fault.position fault.value)) (steps_of f.rest) f.local in
      omega (arith, e, n);
}

-- ONE AFTER ANOTHER
pub gone_none : TextsAppend → (net : Net) (files : Option Files) (journal : List ℕ) → IsThere files journal → HasGone net net none_made files files journal
gone_none texts net files journal there = record {
  records = [];
  steps = record { accepted = refl; removals = tt; counted = refl; none = λ e. refl; fewer = omega arith };
  spent = omega arith;
  written = texts.none files journal there;
  fit = tt;
}

pub gone_then :
    TextsAppend → RunsJoin → (net mid after : Net) (made made' : Made) (old files new : Option Files) (journal : List ℕ) → HasGone net mid made old files journal → HasRecordedFix mid after made made' files new journal → wire_count after < wire_count mid
    → HasGone net after made' old new journal
gone_then texts runs net mid after made made' old files new journal g f fewer =
    let steps : steps_of (g.records ++ f.records) ≡ steps_of g.records ++ steps_of f.records = runs.steps g.records f.records in
    let size : length (g.records ++ f.records) ≡ length g.records + length f.records = length-append g.records f.records in
    record {
      records = g.records ++ f.records;
      steps = record {
        accepted = runs.accepted net mid after g.records f.records g.steps.accepted f.accepted;
        removals = rw steps (runs.removals (steps_of g.records) (steps_of f.records) g.steps.removals f.removals);
        counted = f.counted ∙ ap (λ (m : Made). made_by m (steps_of f.records)) g.steps.counted ∙ sym (runs.made none_made (steps_of g.records) (steps_of f.records)) ∙ ap (made_by none_made) (sym steps);
        none = λ e. absurd (omega (arith, e, f.one));
        fewer = omega (arith, g.steps.fewer, fewer, f.one);
      };
      spent = omega (arith, size, g.spent, f.spent);
      written = subst (HasAppended old new journal) (sym (runs.text g.records f.records)) (texts.follows old files new journal (records_text g.records) (records_text f.records) g.written f.written);
      fit = fits_then g.records f.records g.fit f.fit;
    }

-- as many steps as the work that went
pub gone_counts : RunsJoin → (net after : Net) (made : Made) (old new : Option Files) (journal : List ℕ) → HasGone net after made old new journal → (made.adds ≡ 0) × (made.fixes + made.local + work after ≤ work net)
gone_counts runs net after made old new journal g =
    let a : made.adds ≡ 0 = ap (λ (m : Made). m.adds) g.steps.counted ∙ removal_adds none_made (steps_of g.records) g.steps.removals in
    let all : (made_by none_made (steps_of g.records)).adds + (made_by none_made (steps_of g.records)).fixes + (made_by none_made (steps_of g.records)).local ≡ 0 + 0 + 0 + length (steps_of g.records) = runs.counts none_made (steps_of g.records) in
    let each : length (steps_of g.records) ≡ length g.records = runs.each net after g.records g.steps.accepted in
    let here : made.adds + made.fixes + made.local ≡ 0 + 0 + 0 + length (steps_of g.records) = rw g.steps.counted all in
    (a, omega (arith, here, each, g.spent))

pub gone_closed : RunsJoin → (net after : Net) (made : Made) (report : Report) (old new : Option Files) (journal : List ℕ) → HasGone net after made old new journal → report.fixed ≡ made.fixes → report.local ≡ made.local → HasClosed net after report old new journal
gone_closed runs net after made report old new journal g fixed local =
    let a : made.adds ≡ 0 = (gone_counts runs net after made old new journal g).0 in
    let same : made ≡ made_in report = made_same made report a fixed local in
    record { records = g.records; steps = subst (λ (m : Made). IsRemovedTo net after g.records m) same g.steps; written = g.written; fit = g.fit }
  where
    made_same : (made : Made) (report : Report) → made.adds ≡ 0 → report.fixed ≡ made.fixes → report.local ≡ made.local → made ≡ made_in report
    made_same made report a f l = rw (f, l, sym a) refl

-- STOPS
pub stopped_none : TextsAppend → (net : Net) (files : Option Files) (journal : List ℕ) → IsThere files journal → IsStopped net files files journal
stopped_none texts net files journal there = record { records = []; after = net; accepted = refl; written = texts.none_part files journal [] there }

pub stopped_gone : TextsAppend → (net after : Net) (made : Made) (old new : Option Files) (journal : List ℕ) → HasGone net after made old new journal → IsStopped net old new journal
stopped_gone texts net after made old new journal g = record { records = g.records; after = after; accepted = g.steps.accepted; written = texts.whole old new journal (records_text g.records) g.written }

pub stopped_later : TextsAppend → RunsJoin → (net mid : Net) (made : Made) (old files new : Option Files) (journal : List ℕ) → HasGone net mid made old files journal → IsStopped mid files new journal → IsStopped net old new journal
stopped_later texts runs net mid made old files new journal g s = record {
  records = g.records ++ s.records;
  after = s.after;
  accepted = runs.accepted net mid s.after g.records s.records g.steps.accepted s.accepted;
  written = subst (HasAppendedPart old new journal) (sym (runs.text g.records s.records)) (texts.part old files new journal (records_text g.records) (records_text s.records) g.written s.written);
}

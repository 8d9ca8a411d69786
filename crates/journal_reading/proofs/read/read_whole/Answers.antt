use Rattle.std.proofs.Common.{ℕ, List, [], ◌++◌, ◌<◌, ◌^◌, ◌≡◌, length, subst, sym, ap, ◌∙◌, Ok, Some, None, Option, Err, arith, refl}
use Rattle.std.proofs.lemmas.List.{append-nil}
use Rattle.std.proofs.lemmas.Result.{err_from_is_err_and}
use Rattle.journal_text.specs.declared.record.Record.{Record}
use Rattle.journal_text.specs.declared.record.Entry.{Entry}
use Rattle.journal_text.specs.Streams.{budget_with}
use Rattle.journal_reading.specs.Faults.{IsFault}
use Rattle.journal_reading.specs.Streams.{FinishGives, GivesNone, IsReadTo, NextGives, Pending, header, pushed}
use Rattle.journal_reading.proofs.Chains.{gives_none, none_stays}
use Rattle.journal_reading.proofs.read.read_whole.Goals as goal

pub loop-records-init : goal.loop-records-init
loop-records-init c =
    subst (λ (rs : List Record). IsReadTo c.args.text.now 0 rs c.push.new.self) (sym c.new-records.ensures.items)
    (subst (λ (p : Pending). IsReadTo c.args.text.now 0 [] p) (sym (c.in_ok-push.ensures.ok ∙ ap (λ (p : Pending). pushed p c.args.text.now) c.new-reader.ensures)) (refl, refl))

pub returns-in_err-entry-clause-refused : goal.returns-in_err-entry-clause-refused
returns-in_err-entry-clause-refused c =
    let p = err_from_is_err_and c.from_residual-in_err-entry.result c.from_residual-in_err-entry.ensures.1 in
    let bound : length c.args.text.now < 2 ^ 63 = omega arith in
    rw (p.1, p.2) (λ m. subst (λ (t : List ℕ). IsFault t c.in_err-entry.field-0.0) (append-nil c.args.text.now)
    (c.cuts_agree.ensures.faults c.args.text.now [] c.loop-records.budget c.loop-records.records.items c.loop-records.reader c.next.new.self c.in_err-entry.field-0.0 c.loop-records.invariant bound c.in_err-entry.ensures m))

pub loop-records-preserved : goal.loop-records-preserved
loop-records-preserved c =
    let given : NextGives c.loop-records.reader c.next.new.self (Ok (Some c.in-Some.entry)) = subst (λ (o : Option Entry). NextGives c.loop-records.reader c.next.new.self (Ok o)) c.in-Some.is c.in_ok-entry.ensures in
    let more = c.cuts_agree.ensures.gives c.args.text.now c.loop-records.budget c.loop-records.records.items c.loop-records.reader c.next.new.self c.in-Some.entry c.loop-records.invariant given in
    subst (λ (b : ℕ). IsReadTo c.args.text.now b c.add_entry.new.records.items c.next.new.self) (sym c.in_ok-add_entry.ensures.budget)
    (subst (λ (rs : List Record). IsReadTo c.args.text.now (budget_with c.loop-records.budget c.in-Some.entry) rs c.next.new.self) (sym c.in_ok-add_entry.ensures.records) more)

pub returns-in_err-finish-clause-refused : goal.returns-in_err-finish-clause-refused
returns-in_err-finish-clause-refused c =
    let p = err_from_is_err_and c.from_residual-in_err-finish.result c.from_residual-in_err-finish.ensures.1 in
    let given : NextGives c.loop-records.reader c.next.new.self (Ok None) = subst (λ (o : Option Entry). NextGives c.loop-records.reader c.next.new.self (Ok o)) c.in_default.is c.in_ok-entry.ensures in
    let bound : length c.args.text.now < 2 ^ 63 = omega arith in
    let same : c.next.new.self ≡ c.loop-records.reader = none_stays c.loop-records.reader c.next.new.self given in
    let ends = subst (λ (q : Pending). FinishGives q c.in_err-finish.field-0.0) same c.in_err-finish.ensures.err in
    rw (p.1, p.2) (λ m. c.cuts_agree.ensures.cuts c.args.text.now c.loop-records.budget c.loop-records.records.items c.loop-records.reader c.in_err-finish.field-0.0 c.loop-records.invariant bound (gives_none c.loop-records.reader c.next.new.self given) ends)

use Rattle.std.proofs.Common.{ℕ, List, subst, sym, Ok, Some, None, Option}
use Rattle.std.proofs.lemmas.Result.{err_from_is_err_and}
use Rattle.journal_text.specs.declared.record.Record.{Record}
use Rattle.journal_text.specs.declared.record.Entry.{Entry}
use Rattle.journal_text.specs.Streams.{GivesNone, IsReadTo, NextGives, Pending, budget_with}
use Rattle.journal_convert.proofs.Faulty.{line_fault}
use Rattle.journal_convert.proofs.converting.keep_lines.Goals as goal

pub returns-in_err-entry : goal.returns-in_err-entry
returns-in_err-entry c = λ text read bound.
    let p = err_from_is_err_and c.from_residual.result c.from_residual.ensures.1 in
    rw (p.1, p.2) (line_fault c.cuts_agree.ensures text c.loop-entry.kept.budget c.loop-entry.kept.records.items c.loop-entry.reader c.next.new.self c.in_err-entry.field-0.0 (c.loop-entry.invariant text read) bound c.in_err-entry.ensures)

pub loop-entry-preserved : goal.loop-entry-preserved
loop-entry-preserved c = λ text read.
    let given : NextGives c.loop-entry.reader c.next.new.self (Ok (Some c.in-Some.entry)) = subst (λ (o : Option Entry). NextGives c.loop-entry.reader c.next.new.self (Ok o)) c.in-Some.is c.in_ok-entry.ensures in
    let more = c.cuts_agree.ensures.gives text c.loop-entry.kept.budget c.loop-entry.kept.records.items c.loop-entry.reader c.next.new.self c.in-Some.entry (c.loop-entry.invariant text read) given in
    subst (λ (b : ℕ). IsReadTo text b c.keep.new.kept.records.items c.next.new.self) (sym c.in_ok-keep.ensures.budget)
    (subst (λ (rs : List Record). IsReadTo text (budget_with c.loop-entry.kept.budget c.in-Some.entry) rs c.next.new.self) (sym c.in_ok-keep.ensures.records) more)

pub returns : goal.returns
returns c = λ text read bound.
    let given : NextGives c.loop-entry.reader c.next.new.self (Ok None) = subst (λ (o : Option Entry). NextGives c.loop-entry.reader c.next.new.self (Ok o)) c.in_default.is c.in_ok-entry.ensures in (
      subst (λ (p : Pending). IsReadTo text c.loop-entry.kept.budget c.loop-entry.kept.records.items p) (sym given.0) (c.loop-entry.invariant text read),
      subst GivesNone (sym given.0) given.1,
    )

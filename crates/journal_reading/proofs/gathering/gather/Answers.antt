use Rattle.std.proofs.Common.{◌≡◌, ◌≢◌, Ok, None, Some, Option, List, [], ◌∷◌, ◌++◌, subst, sym}
use Rattle.journal_text.specs.declared.record.Entry.{Entry}
use Rattle.journal_reading.specs.Streams.{Gathers, GivesAll, NextGives}
use Rattle.journal_reading.specs.declared.faults.JournalFault.TheVariants as fault
use Rattle.journal_reading.proofs.Chains.{ok_weaker, gathers_all, gathers_broken, one_more}
use Rattle.journal_reading.proofs.gathering.gather.Goals as goal

pub loop-entry-preserved : goal.loop-entry-preserved
loop-entry-preserved c =
    let next = subst (λ (o : Option Entry). NextGives c.loop-entry.reader c.next.new.self (Ok o)) c.in-Ok-Some.field-0-is c.in-Ok-Some.ensures in
    subst (λ (es : List Entry). GivesAll c.args.reader.now es c.next.new.self) (sym c.in_ok-push-in-Ok-Some.ensures.items)
    (one_more c.args.reader.now c.loop-entry.reader c.next.new.self c.loop-entry.entries.items c.in-Ok-Some.entry c.loop-entry.invariant next)

pub returns-in-Ok-None : goal.returns-in-Ok-None
returns-in-Ok-None c =
    let next = subst (λ (o : Option Entry). NextGives c.loop-entry.reader c.next.new.self (Ok o)) c.in-Ok-None.field-0-is c.in-Ok-None.ensures in
    gathers_all c.args.reader.now c.loop-entry.reader c.next.new.self c.loop-entry.entries.items c.loop-entry.invariant next

pub returns-in-Err : goal.returns-in-Err
returns-in-Err c =
    ok_weaker c.broken.result
    (λ g. (g.entries.items ≡ c.loop-entry.entries.items) × ((g.fault ≡ Some c.in-Err.fault) × (c.in-Err.fault ≢ fault.NoMemory)))
    (λ g. Gathers c.args.reader.now g.entries.items g.fault c.next.new.self)
    (λ g h. gathers_broken c.args.reader.now c.loop-entry.reader c.next.new.self c.loop-entry.entries.items g.entries.items c.in-Err.fault g.fault c.loop-entry.invariant c.in-Err.ensures h.0 h.1.0 h.1.1)
    c.broken.ensures

use Rattle.accepted_steps.proofs.Entering.{to_all, to_end, to_first, to_more, to_take, to_writable}
use Rattle.accepted_steps.proofs.taking.take_entries.Goals as goal

pub loop-entry-init : goal.loop-entry-init
loop-entry-init c = to_first c.args.model.now c.args.taking.now c.args.entries.now c.requires.taken

pub take_entry-requires-clause-writable : goal.take_entry-requires-clause-writable
take_entry-requires-clause-writable c = to_writable c.cuts_agree.ensures c.args.model.now c.args.taking.now c.loop-entry.taking c.args.entries.now c.loop-entry.entry-index c.entry-item.result c.loop-entry-test.true c.entry-item.is c.loop-entry.invariant

pub take_entry-requires-clause-taken : goal.take_entry-requires-clause-taken
take_entry-requires-clause-taken c = to_take c.cuts_agree.ensures c.places_tell.ensures c.args.model.now c.args.taking.now c.loop-entry.taking c.args.entries.now c.loop-entry.entry-index c.entry-item.result c.loop-entry-test.true c.entry-item.is c.loop-entry.invariant

pub returns-in-Some : goal.returns-in-Some
returns-in-Some c =
    to_end c.cuts_agree.ensures c.places_tell.ensures c.args.model.now c.args.taking.now c.loop-entry.taking c.take_entry.new.taking c.args.entries.now c.loop-entry.entry-index c.entry-item.result c.in_ok-ended.field-0 c.in-Some.ended c.loop-entry-test.true c.entry-item.is c.loop-entry.invariant c.in-Some.is c.in_ok-ended.ensures

pub loop-entry-preserved : goal.loop-entry-preserved
loop-entry-preserved c =
    to_more c.cuts_agree.ensures c.places_tell.ensures c.args.model.now c.args.taking.now c.loop-entry.taking c.take_entry.new.taking c.args.entries.now c.loop-entry.entry-index c.entry-item.result c.in_ok-ended.field-0 c.loop-entry-test.true c.entry-item.is c.loop-entry.invariant c.in_default.is c.in_ok-ended.ensures

pub returns : goal.returns
returns c = to_all c.args.model.now c.args.taking.now c.loop-entry.taking c.args.entries.now c.loop-entry.entry-index c.loop-entry-test.false c.loop-entry.invariant

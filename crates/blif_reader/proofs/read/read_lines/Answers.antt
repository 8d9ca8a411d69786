use Rattle.std.proofs.Common.{arith}
use Rattle.blif_reader.proofs.ReadLaws.{progress_end, progress_fault_end, pending_less, pending_refused, given_line, tokens_few}
use Rattle.blif_reader.proofs.read.read_lines.Goals as goal

pub returns-in-Err-clause-err : goal.returns-in-Err-clause-err
returns-in-Err-clause-err c = pending_refused c.args.text.now c.lines.reader.rest c.lines.lines.checker c.lines.lines.draft c.lines.lines.places.items c.in-Err.refusal c.lines.invariant.progress (c.in-Err.ensures.fault c.lines.invariant.progress.said)

pub returns-in-Ok-None-clause-ok : goal.returns-in-Ok-None-clause-ok
returns-in-Ok-None-clause-ok c = let g = rw c.in-Ok-None.field-0-is at c.in-Ok-None.ensures.ok in progress_end c.args.text.now c.lines.reader.rest c.lines.lines.checker c.lines.lines.draft c.lines.lines.places.items c.lines.invariant.progress g.0

pub returns-in-Ok-None-clause-faults : goal.returns-in-Ok-None-clause-faults
returns-in-Ok-None-clause-faults c = let g = rw c.in-Ok-None.field-0-is at c.in-Ok-None.ensures.ok in progress_fault_end c.args.text.now c.lines.reader.rest c.lines.lines.checker c.lines.lines.draft c.lines.lines.places.items c.lines.invariant.progress g.0

pub returns-in-Err-take_all-clause-err : goal.returns-in-Err-take_all-clause-err
returns-in-Err-take_all-clause-err c =
    let g = rw c.in-Ok-Some.field-0-is at c.in-Ok-Some.ensures.ok in
    c.in-Err-take_all.ensures.err c.lines.reader.rest c.next_line.new.reader.rest c.lines.invariant.progress (given_line c.args.text.now c.lines.reader.text c.tokens.result.now c.in-Ok-Some.line c.lines.reader.rest c.next_line.new.reader.rest c.lines.invariant.text c.tokens.ensures g)

pub lines-smaller-in-Ok : goal.lines-smaller-in-Ok
lines-smaller-in-Ok c = let g = rw c.in-Ok-Some.field-0-is at c.in-Ok-Some.ensures.ok in pending_less c.lines.reader.rest c.next_line.new.reader.rest _ g

pub lines-smaller : goal.lines-smaller
lines-smaller c = let g = rw c.in-Ok-Some.field-0-is at c.in-Ok-Some.ensures.ok in pending_less c.lines.reader.rest c.next_line.new.reader.rest _ g

pub take_all-requires-clause-many : goal.take_all-requires-clause-many
take_all-requires-clause-many c =
    let g = rw c.in-Ok-Some.field-0-is at c.in-Ok-Some.ensures.ok in
    let w = rw c.in-Ok-Some.field-0-is at c.in-Ok-Some.ensures.within in
    tokens_few c.args.text.now c.lines.reader.text c.tokens.result.now c.in-Ok-Some.line c.lines.reader.rest c.next_line.new.reader.rest c.lines.lines.checker c.lines.lines.draft c.lines.lines.places.items c.lines.invariant.progress c.lines.invariant.text c.tokens.ensures g w (omega (arith, c.requires))

use Rattle.std.proofs.Common.{◌∙◌, sym, subst, List, ℕ, ◌≤◌, length}
use Rattle.blif_lines.specs.declared.line.LogicalLine.{LogicalLine}
use Rattle.blif_flatten.specs.declared.sections.Step.TheVariants.{Line}
use Rattle.blif_flatten.specs.Inner.Tokens.{IsStep}
use Rattle.blif_flatten.proofs.Layouts.{line-less, read-few, read-start, read-within}
use Rattle.blif_flatten.proofs.sections.read_sections.Goals as goal

pub lines-init : goal.lines-init
lines-init c = (c.new-reader.ensures.text, read-start c.args.text.now c.new-reader.result.rest c.new-sections.result.items c.new-reader.ensures.rest c.new-sections.ensures.items)

pub returns-in-Ok-End-clause-within : goal.returns-in-Ok-End-clause-within
returns-in-Ok-End-clause-within c = read-within c.args.text.now c.lines.reader.rest c.lines.sections.items c.lines.invariant.1 c.requires

pub returns-in-Ok-Flaw-clause-within : goal.returns-in-Ok-Flaw-clause-within
returns-in-Ok-Flaw-clause-within c = read-within c.args.text.now c.lines.reader.rest c.lines.sections.items c.lines.invariant.1 c.requires

pub take_line-requires-clause-few : goal.take_line-requires-clause-few
take_line-requires-clause-few c =
    let s = subst (λ (t : List ℕ). IsStep t c.lines.reader.rest c.next_step.new.reader.rest (Line c.in-Ok-Line.line)) c.lines.invariant.0 (rw c.in-Ok-Line.field-0-is at c.in-Ok-Line.ensures.step) in
    subst (λ (ts : LogicalLine). length ts ≤ 4294967296) (sym c.tokens.ensures) (read-few c.args.text.now c.lines.reader.rest c.next_step.new.reader.rest c.in-Ok-Line.line c.lines.sections.items c.lines.invariant.1 s.0 c.requires)

pub returns-in-Err-take_line-clause-err : goal.returns-in-Err-take_line-clause-err
returns-in-Err-take_line-clause-err c =
    let s = subst (λ (t : List ℕ). IsStep t c.lines.reader.rest c.next_step.new.reader.rest (Line c.in-Ok-Line.line)) c.lines.invariant.0 (rw c.in-Ok-Line.field-0-is at c.in-Ok-Line.ensures.step) in
    c.in-Err-take_line.ensures.err c.lines.reader.rest c.next_step.new.reader.rest c.lines.invariant.1 (subst (λ (ts : LogicalLine). IsStep c.args.text.now c.lines.reader.rest c.next_step.new.reader.rest (Line ts)) (sym c.tokens.ensures) s)

pub lines-smaller-in-Ok : goal.lines-smaller-in-Ok
lines-smaller-in-Ok c = let s = rw c.in-Ok-Line.field-0-is at c.in-Ok-Line.ensures.step in line-less c.lines.reader.rest c.next_step.new.reader.rest _ s.0

pub lines-smaller : goal.lines-smaller
lines-smaller c = let s = rw c.in-Ok-Line.field-0-is at c.in-Ok-Line.ensures.step in line-less c.lines.reader.rest c.next_step.new.reader.rest _ s.0

pub lines-preserved-in-Ok : goal.lines-preserved-in-Ok
lines-preserved-in-Ok c =
    let s = subst (λ (t : List ℕ). IsStep t c.lines.reader.rest c.next_step.new.reader.rest (Line c.in-Ok-Line.line)) c.lines.invariant.0 (rw c.in-Ok-Line.field-0-is at c.in-Ok-Line.ensures.step) in
    (c.next_step.ensures.text ∙ c.lines.invariant.0, c.in-Ok.ensures.ok c.lines.reader.rest c.next_step.new.reader.rest c.lines.invariant.1 (subst (λ (ts : LogicalLine). IsStep c.args.text.now c.lines.reader.rest c.next_step.new.reader.rest (Line ts)) (sym c.tokens.ensures) s))

pub lines-preserved : goal.lines-preserved
lines-preserved c =
    let s = subst (λ (t : List ℕ). IsStep t c.lines.reader.rest c.next_step.new.reader.rest (Line c.in-Ok-Line.line)) c.lines.invariant.0 (rw c.in-Ok-Line.field-0-is at c.in-Ok-Line.ensures.step) in
    (c.next_step.ensures.text ∙ c.lines.invariant.0, c.in-Ok.ensures.ok c.lines.reader.rest c.next_step.new.reader.rest c.lines.invariant.1 (subst (λ (ts : LogicalLine). IsStep c.args.text.now c.lines.reader.rest c.next_step.new.reader.rest (Line ts)) (sym c.tokens.ensures) s))

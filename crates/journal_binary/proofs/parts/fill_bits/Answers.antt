use Rattle.std.proofs.Common.{List, arith, drop, subst, ℕ, ◌+◌, ◌-◌}
use Rattle.journal_binary.specs.Fronts.{read_bit}
use Rattle.journal_binary.specs.Inner.Answers.{Stopped, TakesOne}
use Rattle.journal_binary.specs.Inner.Parts.{more_of}
use Rattle.journal_binary.proofs.Steady.{bit_steady}
use Rattle.journal_binary.proofs.Going.{goes_nowhere, goes_one, goes_then, stopped_more}
use Rattle.journal_binary.proofs.parts.fill_bits.Goals as goal

pub loop-left-init : goal.loop-left-init
loop-left-init c = goes_nowhere (more_of read_bit c.args.values.now.items c.args.left.now) c.args.bytes.now c.args.seen.now c.requires

pub returns-in-Err-clause-err : goal.returns-in-Err-clause-err
returns-in-Err-clause-err c =
    stopped_more read_bit c.add_bit.new.values.items c.loop-left.left (drop c.loop-left.seen c.args.bytes.now) c.in-Err.stop (let h = c.loop-left-test.true in omega arith)
    (subst (λ (xs : List ℕ). Stopped c.in-Err.stop (read_bit xs)) c.rest_from.ensures c.in-Err.ensures.stop)

pub loop-left-preserved : goal.loop-left-preserved
loop-left-preserved c =
    goes_then (more_of read_bit c.args.values.now.items c.args.left.now) (more_of read_bit c.loop-left.values.items c.loop-left.left) (more_of read_bit c.add_bit.new.values.items (c.loop-left.left - 1))
    c.args.bytes.now c.args.seen.now c.loop-left.seen (c.loop-left.seen + c.in-Ok.count) c.loop-left.invariant
    (goes_one read_bit bit_steady c.loop-left.values.items c.add_bit.new.values.items c.loop-left.left c.args.bytes.now c.loop-left.seen c.in-Ok.count (let h = c.loop-left-test.true in omega arith) c.loop-left.invariant.within
    (subst (λ (xs : List ℕ). TakesOne read_bit xs c.loop-left.values.items c.add_bit.new.values.items c.in-Ok.count) c.rest_from.ensures c.in-Ok.ensures.ok))

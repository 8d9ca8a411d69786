use Rattle.std.proofs.Common.{List, arith, drop, subst, ℕ, ◌+◌, ◌-◌}
use Rattle.journal_binary.specs.Fronts.{read_item}
use Rattle.journal_binary.specs.Inner.Answers.{Stopped, TakesOne}
use Rattle.journal_binary.specs.Inner.Parts.{more_of}
use Rattle.journal_binary.proofs.Steady.{item_steady}
use Rattle.journal_binary.proofs.Going.{goes_nowhere, goes_one, goes_then, stopped_more}
use Rattle.journal_binary.proofs.parts.fill_items.Goals as goal

pub loop-left-init : goal.loop-left-init
loop-left-init c = goes_nowhere (more_of read_item c.args.tree.now c.args.left.now) c.args.bytes.now c.args.seen.now c.requires

pub returns-in-Err-clause-err : goal.returns-in-Err-clause-err
returns-in-Err-clause-err c =
    stopped_more read_item c.add_item.new.tree c.loop-left.left (drop c.loop-left.seen c.args.bytes.now) c.in-Err.stop (let h = c.loop-left-test.true in omega arith)
    (subst (λ (xs : List ℕ). Stopped c.in-Err.stop (read_item xs)) c.rest_from.ensures c.in-Err.ensures.stop)

pub loop-left-preserved : goal.loop-left-preserved
loop-left-preserved c =
    goes_then (more_of read_item c.args.tree.now c.args.left.now) (more_of read_item c.loop-left.tree c.loop-left.left) (more_of read_item c.add_item.new.tree (c.loop-left.left - 1))
    c.args.bytes.now c.args.seen.now c.loop-left.seen (c.loop-left.seen + c.in-Ok.count) c.loop-left.invariant
    (goes_one read_item item_steady c.loop-left.tree c.add_item.new.tree c.loop-left.left c.args.bytes.now c.loop-left.seen c.in-Ok.count (let h = c.loop-left-test.true in omega arith) c.loop-left.invariant.within
    (subst (λ (xs : List ℕ). TakesOne read_item xs c.loop-left.tree c.add_item.new.tree c.in-Ok.count) c.rest_from.ensures c.in-Ok.ensures.ok))

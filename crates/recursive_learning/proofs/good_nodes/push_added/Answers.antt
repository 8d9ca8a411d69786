use Rattle.std.proofs.Common.{arith, length, ◌<◌}
use Rattle.std.proofs.lemmas.Option.{slice_get_within}
use Rattle.recursive_learning.proofs.Watches.{UpTo, up_to_map, up_to_more}
use Rattle.recursive_learning.specs.Inner.Holding.{NamesGood}
use Rattle.recursive_learning.proofs.good_nodes.push_added.Goals as goal
use Rattle.recursive_learning.proofs.Defaults.{no_added}

pub loop-entry-preserved : goal.loop-entry-preserved
loop-entry-preserved c =
    let before : UpTo c.args.added.now c.loop-entry.entry-index (λ a. NamesGood a c.push_good.new.nodes.items) =
    up_to_map c.args.added.now c.loop-entry.entry-index (λ a. NamesGood a c.loop-entry.nodes.items) (λ a. NamesGood a c.push_good.new.nodes.items) (λ a named b is. c.in_ok-push_good.ensures.kept a.0.0 (named b is)) c.loop-entry.invariant.done in
    record {
      kept = λ y there. c.in_ok-push_good.ensures.kept y (c.loop-entry.invariant.kept y there);
      done = up_to_more c.args.added.now c.loop-entry.entry-index (λ a. NamesGood a c.push_good.new.nodes.items) no_added (omega arith) before c.in_ok-push_good.ensures.there;
    }

pub returns-clause-added : goal.returns-clause-added
returns-clause-added c k a there =
    let less : k < length c.args.added.now = slice_get_within c.args.added.now k a there in
    c.loop-entry.invariant.done k a (omega arith) there

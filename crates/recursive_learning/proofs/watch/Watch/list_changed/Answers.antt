use Rattle.std.proofs.Common.{arith, length, ◌<◌}
use Rattle.std.proofs.lemmas.Option.{slice_get_within}
use Rattle.gate_graph.specs.Circuit.{net_of}
use Rattle.recursive_learning.proofs.Watches.{Around, UpTo, around_map, listed_still, still_join, up_to_map, up_to_more}
use Rattle.recursive_learning.specs.Watching.{IsListedAt}
use Rattle.recursive_learning.proofs.watch.Watch.list_changed.Goals as goal
use Rattle.recursive_learning.proofs.Defaults.{no_added}

pub loop-entry-preserved : goal.loop-entry-preserved
loop-entry-preserved c =
    let before : UpTo c.args.added.now c.loop-entry.entry-index (Around (net_of c.args.graph.now) (IsListedAt c.list_around.new.self)) =
    up_to_map c.args.added.now c.loop-entry.entry-index (Around (net_of c.args.graph.now) (IsListedAt c.loop-entry.self)) (Around (net_of c.args.graph.now) (IsListedAt c.list_around.new.self))
    (around_map (net_of c.args.graph.now) (IsListedAt c.loop-entry.self) (IsListedAt c.list_around.new.self) (λ z at. listed_still c.loop-entry.self c.list_around.new.self z c.list_around.ensures.still at)) c.loop-entry.invariant.done in
    record {
      still = still_join c.args.self.now c.loop-entry.self c.list_around.new.self c.loop-entry.invariant.still c.list_around.ensures.still;
      done = up_to_more c.args.added.now c.loop-entry.entry-index (Around (net_of c.args.graph.now) (IsListedAt c.list_around.new.self)) no_added (omega arith) before c.list_around.ensures.around;
    }

pub returns-clause-changed : goal.returns-clause-changed
returns-clause-changed c k a there =
    let less : k < length c.args.added.now = slice_get_within c.args.added.now k a there in
    c.loop-entry.invariant.done k a (omega arith) there

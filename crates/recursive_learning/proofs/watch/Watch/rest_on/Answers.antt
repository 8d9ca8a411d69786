use Rattle.std.proofs.Common.{arith, length, ℕ, ◌<◌}
use Rattle.std.proofs.lemmas.Option.{slice_get_within}
use Rattle.gate_graph.specs.Circuit.{net_of}
use Rattle.recursive_learning.proofs.Indexes.{watched_longer}
use Rattle.recursive_learning.proofs.Watches.{Around, UpTo, around_map, leaves_join, up_to_map, up_to_more}
use Rattle.recursive_learning.specs.Resting.{IsWatched}
use Rattle.recursive_learning.proofs.watch.Watch.rest_on.Goals as goal
use Rattle.recursive_learning.proofs.Defaults.{no_added}

pub loop-entry-preserved : goal.loop-entry-preserved
loop-entry-preserved c =
    let before : UpTo c.args.added.now c.loop-entry.entry-index (Around (net_of c.args.graph.now) (λ (z : ℕ). IsWatched c.rest_around.new.self.rests.entries z c.args.gate.0)) =
    up_to_map c.args.added.now c.loop-entry.entry-index (Around (net_of c.args.graph.now) (λ (z : ℕ). IsWatched c.loop-entry.self.rests.entries z c.args.gate.0)) (Around (net_of c.args.graph.now) (λ (z : ℕ). IsWatched c.rest_around.new.self.rests.entries z c.args.gate.0))
    (around_map (net_of c.args.graph.now) (λ (z : ℕ). IsWatched c.loop-entry.self.rests.entries z c.args.gate.0) (λ (z : ℕ). IsWatched c.rest_around.new.self.rests.entries z c.args.gate.0) (λ z at. watched_longer c.loop-entry.self.rests.entries c.rest_around.new.self.rests.entries c.in_ok-rest_around.ensures.leaves.longer z c.args.gate.0 at)) c.loop-entry.invariant.done in
    record {
      leaves = leaves_join c.args.self.now c.loop-entry.self c.rest_around.new.self c.loop-entry.invariant.leaves c.in_ok-rest_around.ensures.leaves;
      done = up_to_more c.args.added.now c.loop-entry.entry-index (Around (net_of c.args.graph.now) (λ (z : ℕ). IsWatched c.rest_around.new.self.rests.entries z c.args.gate.0)) no_added (omega arith) before c.in_ok-rest_around.ensures.around;
    }

pub returns-clause-region : goal.returns-clause-region
returns-clause-region c k a there =
    let less : k < length c.args.added.now = slice_get_within c.args.added.now k a there in
    c.loop-entry.invariant.done k a (omega arith) there

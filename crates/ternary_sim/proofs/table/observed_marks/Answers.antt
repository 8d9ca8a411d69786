use Rattle.std.proofs.Common.{[], ap, arith, length, length-append, subst, ℕ, ◌+◌, ◌<◌, ◌∙◌, ◌∷◌, ◌≡◌}
use Rattle.std.specs.Prelude.{◌↔◌}
use Rattle.gate_graph.specs.Circuit.{net_of}
use Rattle.gate_graph.specs.Search.{IsSeen}
use Rattle.gate_net.specs.Net.{IsObserved}
use Rattle.ternary_sim.proofs.Watching.{watch_more, watches_all}
use Rattle.ternary_sim.proofs.table.observed_marks.Goals as goal

pub loop-number-preserved : goal.loop-number-preserved
loop-number-preserved c = rw c.in_ok-push.ensures.items (record {
  size = rw (length-append c.loop-number.watched.items (c.is_observed.result ∷ [])) (ap (λ n. n + 1) c.loop-number.invariant.size);
  each = watch_more (IsObserved (net_of c.args.graph.now)) c.loop-number.watched.items c.is_observed.result c.loop-number.number c.loop-number.invariant.size c.loop-number.invariant.each c.is_observed.ensures;
})

pub returns : goal.returns
returns c =
    let done : c.loop-number.number ≡ length (net_of c.args.graph.now).nodes = omega (arith, c.loop-number-test.false, c.loop-number.auto.number-end, c.node_bound-number-end.ensures) in
    watches_all (net_of c.args.graph.now) c.loop-number.watched.items c.well_formed-2.ensures.net (c.loop-number.invariant.size ∙ done)
    (subst (λ n. (x : ℕ) → x < n → IsSeen c.loop-number.watched.items x ↔ IsObserved (net_of c.args.graph.now) x) done c.loop-number.invariant.each)

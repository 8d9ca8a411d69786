use Rattle.std.proofs.Common.{◌≡◌, ◌<◌, ◌∙◌, ap, arith}
use Rattle.std.proofs.lemmas.Bool.{ltb-true}
use Rattle.gate_net.specs.Net.{wire_count}
use Rattle.gate_graph.specs.Circuit.{Circuit, net_of}
use Rattle.merging.proofs.GoingOn.{follows_then, goes_then}
use Rattle.merging.proofs.trying.merge_and_settle.Goals as goal

pub settle-requires-clause-room : goal.settle-requires-clause-room
settle-requires-clause-room c =
    let some = c.if-not-joined.false in
    let r = (c.in_ok-joined.ensures.goes some).room 0 (omega (arith, c.requires.room)) in
    omega (arith, r)

pub returns-clause-follows : goal.returns-clause-follows
returns-clause-follows c = follows_then c.args.space.now c.join.new.space c.settle.new.space c.in_ok-joined.ensures.follows c.in_ok-settle.ensures.follows

pub returns-clause-pays : goal.returns-clause-pays
returns-clause-pays c = λ fewer.
    let some = c.if-not-joined.false in
    let first : c.wire_count-wires.result ≡ wire_count (net_of c.args.space.now.trial.graph) = c.wire_count-wires.ensures ∙ ap (λ (v : Circuit). wire_count (net_of v)) c.graph.ensures in
    let last : c.wire_count.result ≡ wire_count (net_of c.settle.new.space.trial.graph) = c.wire_count.ensures ∙ ap (λ (v : Circuit). wire_count (net_of v)) c.graph-2.ensures in
    let less : c.wire_count.result < c.wire_count-wires.result = ltb-true c.wire_count.result c.wire_count-wires.result fewer in
    record {
      goes = goes_then 1 9 0 0 c.args.space.now.trial c.join.new.space.trial c.settle.new.space.trial c.args.log.now.items c.join.new.log.items c.settle.new.log.items (c.in_ok-joined.ensures.goes some) c.in_ok-settle.ensures.goes;
      tidy = c.in_ok-settle.ensures.tidy;
      fewer = omega (arith, first, last, less);
    }

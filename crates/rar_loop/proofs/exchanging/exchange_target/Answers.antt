use Rattle.std.proofs.Common.{◌≡◌, ◌<◌, Some, length, sym, subst, arith}
use Rattle.std.specs.Prelude.{slice_get}
use Rattle.gate_net.specs.Net.{Net}
use Rattle.gate_graph.specs.Circuit.{Circuit, net_of}
use Rattle.candidate_wires.specs.Candidates.{AreCandidatesOf}
use Rattle.candidate_wires.specs.Pairs.{paired}
use Rattle.recursive_learning.specs.Serving.{IsServing}
use Rattle.rar_loop.specs.Inner.Trying.{MayTry}
use Rattle.rar_loop.proofs.Pairing.{candidates_may, back_none}
use Rattle.rar_loop.proofs.Spacing.{ready_still}
use Rattle.rar_loop.proofs.exchanging.exchange_target.Goals as goal
use Rattle.rm_base.proofs.Public.{read_stands}

pub loop-place-init : goal.loop-place-init
loop-place-init c = record {
  stays = back_none c.args.space.now.trial c.requires.ready.lent;
  left = omega arith;
  tools = record { vectors = c.requires.ready.tools.vectors; refuter = subst (λ (v : Circuit). IsServing (net_of v) c.candidates_of.new.refuter) c.graph.ensures c.in_ok-found.ensures.serves };
}

pub exchange_unless_detected-requires-clause-pair : goal.exchange_unless_detected-requires-clause-pair
exchange_unless_detected-requires-clause-pair c =
    let inv = c.loop-place.invariant in
    let found : AreCandidatesOf (net_of c.args.space.now.trial.graph) c.args.target c.in_ok-found.found.items = subst (λ (v : Circuit). AreCandidatesOf (net_of v) c.args.target c.in_ok-found.found.items) c.graph.ensures c.in_ok-found.ensures.candidates in
    let lt : c.loop-place.place < length c.in_ok-found.found.items = omega (arith, c.loop-place-test.true, c.len-place-end.ensures, c.in_ok-found.found.ok.0) in
    let at : slice_get c.in_ok-found.found.items c.loop-place.place ≡ Some c.index.result.now = read_stands c.in_ok-found.found.items c.loop-place.place c.index.result.now lt c.index.ensures in
    subst (λ (n : Net). MayTry n (paired c.args.target c.index.result.now)) (sym inv.stays.same.net)
    (record { pin = c.requires.pin; wire = candidates_may (net_of c.args.space.now.trial.graph) c.args.target c.in_ok-found.found.items found c.loop-place.place c.index.result.now at })

pub exchange_unless_detected-requires-clause-ready : goal.exchange_unless_detected-requires-clause-ready
exchange_unless_detected-requires-clause-ready c =
    let inv = c.loop-place.invariant in
    ready_still c.args.space.now c.loop-place.space c.requires.ready inv.stays inv.tools

use Rattle.std.proofs.Common.{◌≡◌, ◌<◌, Some, length, refl, sym, ◌∙◌, ap, subst, arith}
use Rattle.std.specs.Prelude.{slice_get}
use Rattle.gate_net.specs.Net.{Net, wire_count}
use Rattle.gate_graph.specs.Circuit.{Circuit, net_of}
use Rattle.candidate_wires.specs.declared.candidate.Pair.{Pair}
use Rattle.candidate_wires.specs.Candidates.{AreCandidatesOf}
use Rattle.candidate_wires.specs.Gains.{Gains}
use Rattle.candidate_wires.specs.Pairs.{paired}
use Rattle.recursive_learning.specs.Serving.{IsServing}
use Rattle.rar_loop.specs.Inner.Trying.{MayTry, IsTryOutcome, IsAhead, IsBack}
use Rattle.rar_loop.proofs.Pairing.{candidates_may, tried_more, tried_none, back_none, back_then, ahead_back}
use Rattle.rar_loop.proofs.Spacing.{ready_still}
use Rattle.rar_loop.proofs.walking.walk_target.Goals as goal
use Rattle.rm_base.proofs.Public.{read_stands}

pub loop-place-init : goal.loop-place-init
loop-place-init c =
    let t = c.args.space.now.trial in
    record {
      stays = back_none t c.requires.ready.lent;
      tried = tried_none (net_of t.graph) c.args.target c.in_ok-found.found.items (subst (λ (v : Circuit). AreCandidatesOf (net_of v) c.args.target c.in_ok-found.found.items) c.graph.ensures c.in_ok-found.ensures.candidates);
      sum = omega arith;
      tools = record { vectors = c.requires.ready.tools.vectors; refuter = subst (λ (v : Circuit). IsServing (net_of v) c.candidates_of.new.refuter) c.graph.ensures c.in_ok-found.ensures.serves };
    }

pub try_unless_detected-requires-clause-pair : goal.try_unless_detected-requires-clause-pair
try_unless_detected-requires-clause-pair c =
    let inv = c.loop-place.invariant in
    let lt : c.loop-place.place < length c.in_ok-found.found.items = omega (arith, c.loop-place-test.true, c.len-place-end.ensures, c.in_ok-found.found.ok.0) in
    let at : slice_get c.in_ok-found.found.items c.loop-place.place ≡ Some c.index.result.now = read_stands c.in_ok-found.found.items c.loop-place.place c.index.result.now lt c.index.ensures in
    subst (λ (n : Net). MayTry n (paired c.args.target c.index.result.now)) (sym inv.stays.same.net)
    (record { pin = c.requires.pin; wire = candidates_may (net_of c.args.space.now.trial.graph) c.args.target c.in_ok-found.found.items inv.tried.candidates c.loop-place.place c.index.result.now at })

pub try_unless_detected-requires-clause-wires : goal.try_unless_detected-requires-clause-wires
try_unless_detected-requires-clause-wires c = c.requires.wires ∙ ap wire_count (sym c.loop-place.invariant.stays.same.net)

pub returns-in-Gained-clause-walk_outcome : goal.returns-in-Gained-clause-walk_outcome
returns-in-Gained-clause-walk_outcome c =
    let inv = c.loop-place.invariant in
    let pair : Pair = paired c.args.target c.index.result.now in
    let lt : c.loop-place.place < length c.in_ok-found.found.items = omega (arith, c.loop-place-test.true, c.len-place-end.ensures, c.in_ok-found.found.ok.0) in
    let at : slice_get c.in_ok-found.found.items c.loop-place.place ≡ Some c.index.result.now = read_stands c.in_ok-found.found.items c.loop-place.place c.index.result.now lt c.index.ensures in
    let gained : IsAhead c.loop-place.space.trial pair c.args.limits.now.settings.depth c.in-Gained.records.items c.try_unless_detected.new.space.trial = subst (IsTryOutcome c.loop-place.space.trial pair c.args.limits.now.settings.depth c.try_unless_detected.new.space.trial) c.in-Gained.is c.in_ok-try_unless_detected.ensures.try_outcome in
    (c.in_ok-found.found.items, (c.loop-place.place, (inv.tried, (refl, (at, (omega (arith, inv.sum, c.in_default.ensures.goes), ahead_back c.args.space.now.trial c.loop-place.space.trial c.try_unless_detected.new.space.trial pair c.args.limits.now.settings.depth c.in-Gained.records.items inv.stays gained))))))

pub loop-place-preserved : goal.loop-place-preserved
loop-place-preserved c =
    let inv = c.loop-place.invariant in
    let pair : Pair = paired c.args.target c.index.result.now in
    let lt : c.loop-place.place < length c.in_ok-found.found.items = omega (arith, c.loop-place-test.true, c.len-place-end.ensures, c.in_ok-found.found.ok.0) in
    let at : slice_get c.in_ok-found.found.items c.loop-place.place ≡ Some c.index.result.now = read_stands c.in_ok-found.found.items c.loop-place.place c.index.result.now lt c.index.ensures in
    let failed : IsBack c.loop-place.space.trial c.try_unless_detected.new.space.trial × (Gains (net_of c.loop-place.space.trial.graph) pair → ⊥) = subst (IsTryOutcome c.loop-place.space.trial pair c.args.limits.now.settings.depth c.try_unless_detected.new.space.trial) c.in-Failed.is c.in_ok-try_unless_detected.ensures.try_outcome in
    record {
      stays = back_then c.args.space.now.trial c.loop-place.space.trial c.try_unless_detected.new.space.trial inv.stays failed.0;
      tried = tried_more (net_of c.args.space.now.trial.graph) c.args.target c.in_ok-found.found.items c.loop-place.place c.index.result.now inv.tried at (subst (λ (n : Net). Gains n pair → ⊥) inv.stays.same.net failed.1);
      sum = omega (arith, inv.sum, c.in_default.ensures.goes);
      tools = c.in_ok-try_unless_detected.ensures.tools;
    }

pub returns-in-Some-clause-walk_outcome : goal.returns-in-Some-clause-walk_outcome
returns-in-Some-clause-walk_outcome c =
    let inv = c.loop-place.invariant in
    let lt : c.loop-place.place < length c.in_ok-found.found.items = omega (arith, c.loop-place-test.true, c.len-place-end.ensures, c.in_ok-found.found.ok.0) in
    let at : slice_get c.in_ok-found.found.items c.loop-place.place ≡ Some c.index.result.now = read_stands c.in_ok-found.found.items c.loop-place.place c.index.result.now lt c.index.ensures in
    (inv.stays, (c.in_ok-found.found.items, (c.loop-place.place, (inv.tried, (refl, (at, inv.sum))))))

pub try_unless_detected-requires-clause-ready : goal.try_unless_detected-requires-clause-ready
try_unless_detected-requires-clause-ready c =
    let inv = c.loop-place.invariant in
    ready_still c.args.space.now c.loop-place.space c.requires.ready inv.stays inv.tools

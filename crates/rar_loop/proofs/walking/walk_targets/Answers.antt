use Rattle.std.proofs.Common.{◌≡◌, ◌+◌, ◌<◌, Some, List, length, refl, sym, ◌∙◌, ap, subst, arith}
use Rattle.std.specs.Prelude.{slice_get}
use Rattle.rm_base.specs.declared.numbers.Fault.{Fault}
use Rattle.gate_net.specs.Net.{Net, wire_count}
use Rattle.gate_net.specs.Values.{HasPin}
use Rattle.gate_graph.specs.Circuit.{Circuit, net_of}
use Rattle.candidate_wires.specs.Pairs.{turn_of}
use Rattle.rar_loop.specs.declared.walking.WalkOutcome.TheVariants.{Done, Spent, Gained}
use Rattle.rar_loop.specs.Inner.Walking.{AreUsedUp, IsTargetOutcome}
use Rattle.rar_loop.proofs.Pairing.{WalkedTo, walk_outcome_back, walked_none, walked_more, walked_to, walked_all, turn_pin, back_none}
use Rattle.rar_loop.proofs.Spacing.{ready_ahead, ready_still}
use Rattle.rar_loop.proofs.walking.walk_targets.Goals as goal
use Rattle.rm_base.proofs.Public.{read_stands}

pub loop-place-init : goal.loop-place-init
loop-place-init c =
    let t = c.args.space.now.trial in
    record { stays = back_none t c.requires.ready.lent; walked = walked_none (net_of t.graph) c.in_ok-faults.faults.items c.args.left.now; numbers = refl; tools = c.requires.ready.tools }

pub walk_target-requires-clause-pin : goal.walk_target-requires-clause-pin
walk_target-requires-clause-pin c =
    let net : Net = net_of c.args.space.now.trial.graph in
    let t : Fault = c.index-target.result.now in
    let lt : c.loop-place.place < length c.in_ok-faults.faults.items = omega (arith, c.loop-place-test.true, c.len-place-end.ensures, c.in_ok-faults.faults.ok.0) in
    let at : slice_get c.in_ok-faults.faults.items c.loop-place.place ≡ Some t = read_stands c.in_ok-faults.faults.items c.loop-place.place t lt c.index-target.ensures in
    let are : c.in_ok-faults.faults.items ≡ turn_of net c.args.start = c.in_ok-faults.ensures ∙ ap (λ (v : Circuit). turn_of (net_of v) c.args.start) c.graph.ensures in
    subst (λ (n : Net). HasPin n t) (sym c.loop-place.invariant.stays.same.net) (turn_pin net c.args.start c.loop-place.place t (subst (λ (fs : List Fault). slice_get fs c.loop-place.place ≡ Some t) are at))

pub walk_target-requires-clause-wires : goal.walk_target-requires-clause-wires
walk_target-requires-clause-wires c = c.requires.wires ∙ ap wire_count (sym c.loop-place.invariant.stays.same.net)

pub returns-in-Spent : goal.returns-in-Spent
returns-in-Spent c =
    let net : Net = net_of c.args.space.now.trial.graph in
    let t : Fault = c.index-target.result.now in
    let inv = c.loop-place.invariant in
    let lt : c.loop-place.place < length c.in_ok-faults.faults.items = omega (arith, c.loop-place-test.true, c.len-place-end.ensures, c.in_ok-faults.faults.ok.0) in
    let at : slice_get c.in_ok-faults.faults.items c.loop-place.place ≡ Some t = read_stands c.in_ok-faults.faults.items c.loop-place.place t lt c.index-target.ensures in
    let are : c.in_ok-faults.faults.items ≡ turn_of net c.args.start = c.in_ok-faults.ensures ∙ ap (λ (v : Circuit). turn_of (net_of v) c.args.start) c.graph.ensures in
    let tw : IsTargetOutcome c.loop-place.space.trial t c.args.limits.now.settings.depth c.loop-place.left c.walk_target.new.left c.walk_target.new.space.trial (Spent c.in-Spent.at c.in-Spent.work) = subst (IsTargetOutcome c.loop-place.space.trial t c.args.limits.now.settings.depth c.loop-place.left c.walk_target.new.left c.walk_target.new.space.trial) c.in-Spent.is c.in_ok-walk_target.ensures.walk_outcome in
    let here : IsTargetOutcome c.args.space.now.trial t c.args.limits.now.settings.depth c.loop-place.left c.walk_target.new.left c.walk_target.new.space.trial (Spent c.in-Spent.at c.in-Spent.work) = walk_outcome_back c.args.space.now.trial c.loop-place.space.trial c.walk_target.new.space.trial t c.args.limits.now.settings.depth c.loop-place.left c.walk_target.new.left (Spent c.in-Spent.at c.in-Spent.work) inv.stays tw in
    let to : WalkedTo net c.args.start c.in-Spent.at (length inv.walked.pairs + here.1.1.0) =
    walked_to net c.args.start c.in_ok-faults.faults.items c.loop-place.place c.args.left.now c.loop-place.left t here.1.0 here.1.1.0 c.in-Spent.at are inv.walked at here.1.1.1.0 here.1.1.1.1.0 here.1.1.1.1.1.0 (length inv.walked.pairs + here.1.1.0) (omega (arith, inv.walked.sum)) in
    record {
      walk_outcome = (here.0, (to.pairs, (to.before, (to.none, omega (arith, to.count, inv.walked.sum, here.1.1.1.1.1.1)))));
      ends = subst (AreUsedUp c.args.limits.now.settings c.walk_target.new.left) c.in-Spent.is c.in_ok-walk_target.ensures.ends;
      ready = ready_still c.args.space.now c.walk_target.new.space c.requires.ready here.0 c.in_ok-walk_target.ensures.tools;
    }

pub returns-in-Gained : goal.returns-in-Gained
returns-in-Gained c =
    let net : Net = net_of c.args.space.now.trial.graph in
    let t : Fault = c.index-target.result.now in
    let inv = c.loop-place.invariant in
    let lt : c.loop-place.place < length c.in_ok-faults.faults.items = omega (arith, c.loop-place-test.true, c.len-place-end.ensures, c.in_ok-faults.faults.ok.0) in
    let at : slice_get c.in_ok-faults.faults.items c.loop-place.place ≡ Some t = read_stands c.in_ok-faults.faults.items c.loop-place.place t lt c.index-target.ensures in
    let are : c.in_ok-faults.faults.items ≡ turn_of net c.args.start = c.in_ok-faults.ensures ∙ ap (λ (v : Circuit). turn_of (net_of v) c.args.start) c.graph.ensures in
    let tw : IsTargetOutcome c.loop-place.space.trial t c.args.limits.now.settings.depth c.loop-place.left c.walk_target.new.left c.walk_target.new.space.trial (Gained c.in-Gained.pair c.in-Gained.records) = subst (IsTargetOutcome c.loop-place.space.trial t c.args.limits.now.settings.depth c.loop-place.left c.walk_target.new.left c.walk_target.new.space.trial) c.in-Gained.is c.in_ok-walk_target.ensures.walk_outcome in
    let here : IsTargetOutcome c.args.space.now.trial t c.args.limits.now.settings.depth c.loop-place.left c.walk_target.new.left c.walk_target.new.space.trial (Gained c.in-Gained.pair c.in-Gained.records) = walk_outcome_back c.args.space.now.trial c.loop-place.space.trial c.walk_target.new.space.trial t c.args.limits.now.settings.depth c.loop-place.left c.walk_target.new.left (Gained c.in-Gained.pair c.in-Gained.records) inv.stays tw in
    let to : WalkedTo net c.args.start c.in-Gained.pair (length inv.walked.pairs + here.1.0) =
    walked_to net c.args.start c.in_ok-faults.faults.items c.loop-place.place c.args.left.now c.loop-place.left t here.0 here.1.0 c.in-Gained.pair are inv.walked at here.1.1.0 here.1.1.1.0 here.1.1.1.1.0 (length inv.walked.pairs + here.1.0) (omega (arith, inv.walked.sum)) in
    record {
      walk_outcome = (to.pairs, (to.before, (to.none, (omega (arith, to.count, inv.walked.sum, here.1.1.1.1.1.0), here.1.1.1.1.1.1))));
      ends = tt;
      ready = ready_ahead c.args.space.now c.walk_target.new.space c.in-Gained.pair c.args.limits.now.settings.depth c.in-Gained.records.items here.1.1.1.1.1.1 c.in_ok-walk_target.ensures.tools;
    }

pub loop-place-preserved : goal.loop-place-preserved
loop-place-preserved c =
    let net : Net = net_of c.args.space.now.trial.graph in
    let t : Fault = c.index-target.result.now in
    let inv = c.loop-place.invariant in
    let lt : c.loop-place.place < length c.in_ok-faults.faults.items = omega (arith, c.loop-place-test.true, c.len-place-end.ensures, c.in_ok-faults.faults.ok.0) in
    let at : slice_get c.in_ok-faults.faults.items c.loop-place.place ≡ Some t = read_stands c.in_ok-faults.faults.items c.loop-place.place t lt c.index-target.ensures in
    let tw : IsTargetOutcome c.loop-place.space.trial t c.args.limits.now.settings.depth c.loop-place.left c.walk_target.new.left c.walk_target.new.space.trial Done = subst (IsTargetOutcome c.loop-place.space.trial t c.args.limits.now.settings.depth c.loop-place.left c.walk_target.new.left c.walk_target.new.space.trial) c.in-Done.is c.in_ok-walk_target.ensures.walk_outcome in
    let here : IsTargetOutcome c.args.space.now.trial t c.args.limits.now.settings.depth c.loop-place.left c.walk_target.new.left c.walk_target.new.space.trial Done = walk_outcome_back c.args.space.now.trial c.loop-place.space.trial c.walk_target.new.space.trial t c.args.limits.now.settings.depth c.loop-place.left c.walk_target.new.left Done inv.stays tw in
    record {
      stays = here.0;
      walked = walked_more net c.in_ok-faults.faults.items c.loop-place.place c.args.left.now c.loop-place.left c.walk_target.new.left t here.1.0 inv.walked at here.1.1.0 here.1.1.1;
      numbers = c.walk_target.ensures.numbers ∙ inv.numbers;
      tools = c.in_ok-walk_target.ensures.tools;
    }

pub walk_target-requires-clause-ready : goal.walk_target-requires-clause-ready
walk_target-requires-clause-ready c =
    let inv = c.loop-place.invariant in
    ready_still c.args.space.now c.loop-place.space c.requires.ready inv.stays inv.tools

pub returns : goal.returns
returns c =
    let net : Net = net_of c.args.space.now.trial.graph in
    let inv = c.loop-place.invariant in
    let are : c.in_ok-faults.faults.items ≡ turn_of net c.args.start = c.in_ok-faults.ensures ∙ ap (λ (v : Circuit). turn_of (net_of v) c.args.start) c.graph.ensures in
    record {
      walk_outcome = (inv.stays, walked_all net c.args.start c.in_ok-faults.faults.items c.loop-place.place c.args.left.now c.loop-place.left are (omega (arith, c.loop-place-test.false, c.len-place-end.ensures, c.in_ok-faults.faults.ok.0)) inv.walked);
      ends = tt;
      ready = ready_still c.args.space.now c.loop-place.space c.requires.ready inv.stays inv.tools;
    }

pub walk_target-requires-clause-numbers : goal.walk_target-requires-clause-numbers
walk_target-requires-clause-numbers c =
    let inv = c.loop-place.invariant in
    omega (arith, c.requires.numbers, inv.numbers, ap (λ (n : Net). length n.nodes) inv.stays.same.net)

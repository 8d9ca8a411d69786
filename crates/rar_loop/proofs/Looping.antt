-- The addition loop from block to block.
use Rattle.std.proofs.Common.{◌≡◌, ℕ, suc, ◌+◌, ◌*◌, ◌≤◌, Bool, true, false, Option, Some, List, [], ◌∷◌, ◌++◌, length, refl, sym, ◌∙◌, ap, subst, arith}
use Rattle.std.specs.Prelude.{Err, IfErr, IfOk, IsErrAnd, Ok, Result}
use Rattle.rm_base.specs.declared.numbers.Fault.{Fault}
use Rattle.gate_net.specs.Net.{Net, IsWellFormed, wire_count, source_count, gate_count}
use Rattle.wire_edit.proofs.Public.{live_bound}
use Rattle.wire_edit.specs.declared.steps.Step.{Step}
use Rattle.wire_edit.specs.declared.steps.Step.TheVariants.{Add, Fix, NewNot, Const, Same, NoPins, OnePin, Twice, Twin, Dead}
use Rattle.candidate_wires.specs.declared.candidate.Pair.{Pair}
use Rattle.candidate_wires.specs.Pairs.{ArePairsBefore}
use Rattle.candidate_wires.specs.Additions.{Addition, additions}
use Rattle.candidate_wires.specs.Tries.{NoneGains, ArePlaces, EachImproves, turn_after}
use Rattle.journal_text.specs.declared.append.Stop.{Stop}
use Rattle.journal_text.specs.declared.append.Stop.TheVariants as stop
use Rattle.journal_text.specs.declared.record.Record.{Record}
use Rattle.journal_text.specs.Runs.{AcceptedTo, steps_of}
use Rattle.gate_graph.specs.Circuit.{Circuit, net_of, pins_taken, live_nodes}
use Rattle.gate_graph.specs.Holds.{pins_held}
use Rattle.journal_text.specs.Accepted.{AcceptedStepsKeep}
use Rattle.wire_edit.specs.Order.{IsTidy}
use Rattle.wire_edit.specs.Refusals.{live_count}
use Rattle.wire_edit.specs.Tried.{Tried}
use Rattle.wire_edit.specs.Work.{work, WorkIsBounded}
use Rattle.recorded_removals.specs.Going.{Goes, IsNoLarger}
use Rattle.journal_text.specs.Runs.{AreRemovals}
use Rattle.rar_loop.specs.Swept.{IsSwept}
use Rattle.rar_loop.specs.Inner.Swept.{HasSwept}
use Rattle.rar_loop.specs.Trying.{IsClean, IsLent}
use Rattle.rar_loop.specs.Inner.Trying.{IsGained}
use Rattle.wire_edit.specs.declared.room.Room.{Room}
use Rattle.rar_loop.specs.Ended.{turn_at}
use Rattle.rar_loop.specs.Sizes.{IsSame}
use Rattle.rar_loop.specs.Inner.Improving.{HasBegun, HasImproved}
use Rattle.recorded_removals.proofs.Public.{goes_then}
use Rattle.rar_loop.proofs.Blocks.{removals_clean, removals_add_none, places_then, improve_then, turn_then, block_then}
use Rattle.rar_loop.proofs.Sizing.{HasSize, accepted_places, accepted_sources, within_by, within_same, within_then}
use Rattle.journal_text.proofs.Public.{accepted_then, steps_then}

-- what holds of a value holds of an error
pub err_ok : {V E : Type 0} (r : Result V E) (P : E → Type 0) (Q : V → Type 0) → IsErrAnd r P → IfOk r Q
err_ok (Ok x) P Q h = absurd h
err_ok (Err e) P Q h = tt

-- where it is that error, what is said of an error is that
pub err_of : {V : Type 0} (r : Result V Stop) (e : Stop) → IsErrAnd r (λ q. q ≡ e) → r ≡ Err stop.Failed → e ≡ stop.Failed
err_of (Ok x) e P same = cc
err_of (Err q) e P same = let is : q ≡ stop.Failed = cc in sym P ∙ is

-- what holds of each error
pub if_err : {V E : Type 0} (r : Result V E) (P : E → Type 0) → ((e : E) → P e) → IfErr r P
if_err (Ok x) P h = tt
if_err (Err e) P h = h e

pub clean_then : (pending : Bool) (xs ys : List Step) → IsClean pending xs → IsClean false ys → IsClean pending (xs ++ ys)
clean_then true [] ys a b = cc
clean_then false [] ys a b = b
clean_then p (NewNot x ∷ xs) ys a b = clean_then true xs ys a b
clean_then p (Add gate y ∷ xs) ys a b = clean_then false xs ys a b
clean_then p (Fix gate position value ∷ xs) ys a b = clean_then false xs ys a b
clean_then p (Const gate position ∷ xs) ys a b = clean_then false xs ys a b
clean_then p (Same gate position ∷ xs) ys a b = clean_then false xs ys a b
clean_then p (NoPins gate ∷ xs) ys a b = clean_then false xs ys a b
clean_then p (OnePin gate ∷ xs) ys a b = clean_then false xs ys a b
clean_then p (Twice gate ∷ xs) ys a b = clean_then false xs ys a b
clean_then p (Twin gate other ∷ xs) ys a b = clean_then false xs ys a b
clean_then p (Dead gate ∷ xs) ys a b = clean_then false xs ys a b

pub improved_first : (before : Circuit) (start : Option Fault) (depth : ℕ) (graph : Circuit) (records : List Record) → HasBegun before depth graph records
    → HasImproved (net_of before) start depth (net_of graph) records 0 × (start ≡ turn_at start (net_of before) (steps_of records))
improved_first before start depth graph records b =
    let none = removals_add_none (net_of before) (steps_of records) b.removals in (
      record {
        accepted = b.accepted;
        clean = removals_clean (steps_of records) b.removals;
        fewer = b.fewer;
        tidy = b.tidy;
        swept = b.swept;
        improves = subst (EachImproves start) (sym none.0) tt;
        are_tries = subst (λ (adds : List Addition). ArePlaces start adds 0) (sym none.0) refl;
      },
      ap (turn_after start) (sym none.0),
    )

pub improved_more : (net mid after : Net) (start : Option Fault) (depth : ℕ) (records more : List Record) (tries : ℕ) (pair : Pair) (pairs : List Pair) → HasImproved net start depth mid records tries
    → ArePairsBefore mid (turn_at start net (steps_of records)) pair pairs → NoneGains mid pairs → IsGained mid pair depth more after
    → HasImproved net start depth after (records ++ more) (tries + suc (length pairs)) × (Some pair.fault ≡ turn_at start net (steps_of (records ++ more)))
improved_more net mid after start depth records more tries pair pairs h before none g =
    let a : Addition = record { before = mid; candidate = pair.candidate; target = Some pair.fault; after = after } in
    let adds : additions net (steps_of (records ++ more)) ≡ additions net (steps_of records) ++ a ∷ [] = block_then net mid after start records more a h.accepted h.clean h.improves g.addition refl in
    let at : Option Fault = turn_at start net (steps_of records) in
    let one : EachImproves at (a ∷ []) = (record { fault = pair.fault; target = refl; pairs = pairs; before = before; none = none; cost = g.cost; fewer = g.fewer }, tt) in
    let place : ArePlaces at (a ∷ []) (suc (length pairs)) = (suc (length pairs), ((pair.fault, (refl, (pairs, (before, refl)))), (0, (refl, omega arith)))) in (
      record {
        accepted = accepted_then net mid after records more h.accepted g.accepted;
        clean = subst (IsClean false) (sym (steps_then records more)) (clean_then false (steps_of records) (steps_of more) h.clean g.clean);
        fewer = omega (arith, h.fewer, g.fewer);
        tidy = g.tidy;
        swept = g.swept;
        improves = subst (EachImproves start) (sym adds) (improve_then start (additions net (steps_of records)) (a ∷ []) h.improves one);
        are_tries = subst (λ (xs : List Addition). ArePlaces start xs (tries + suc (length pairs))) (sym adds) (places_then start (additions net (steps_of records)) (a ∷ []) tries (suc (length pairs)) h.are_tries place);
      },
      sym (ap (turn_after start) adds ∙ turn_then start (additions net (steps_of records)) (a ∷ [])),
    )

pub room_first : (t : Tried) (net : Net) → net_of t.graph ≡ net → WorkIsBounded → IsWellFormed net → t.room.steps ≡ 2 * wire_count net + 2 * (2 + source_count net + gate_count net) + 16 → work (net_of t.graph) ≤ t.room.steps
room_first t net e law well steps =
    let w : work (net_of t.graph) ≡ work net = ap work e in
    let b : work net ≤ 2 * wire_count net + 2 * live_count net = law net in
    let l : live_count net ≤ 2 + (source_count net + gate_count net) = live_bound net well in
    omega (arith, w, b, l, steps)

-- the same net in as many pins: as many are held
pub held_still : (before graph : Circuit) → HasSize before → HasSize graph → IsSame before graph → pins_held graph ≡ pins_held before
held_still before graph size size' same =
    let w : wire_count (net_of graph) ≡ wire_count (net_of before) = ap wire_count same.net in
    let o : length (net_of graph).observed ≡ length (net_of before).observed = ap (λ (n : Net). length n.observed) same.net in
    omega (arith, w, o, size.pins, size'.pins, same.pins)

-- a trial that has just begun may be lent
pub lent_anew :
    (graph : Circuit) (t : Tried) → HasSize t.graph → net_of t.graph ≡ net_of graph → t.room.pins ≡ 2 * wire_count (net_of graph) → t.room.nodes ≡ wire_count (net_of graph) → t.room.steps ≡ 2 * wire_count (net_of graph) + 2 * (2 + source_count (net_of graph) + gate_count (net_of graph)) + 16
    → t.first ≡ t.room → t.trail.entries ≡ [] → pins_taken t.graph + live_nodes t.graph ≤ 1048576 → IsLent t
lent_anew graph t size is pins nodes steps first none few =
    let w : wire_count (net_of t.graph) ≡ wire_count (net_of graph) = ap wire_count is in
    let s : source_count (net_of t.graph) ≡ source_count (net_of graph) = ap source_count is in
    let k : gate_count (net_of t.graph) ≡ gate_count (net_of graph) = ap gate_count is in
    let p : t.first.pins ≡ t.room.pins = ap (λ (r : Room). r.pins) first in
    let n : t.first.nodes ≡ t.room.nodes = ap (λ (r : Room). r.nodes) first in
    let m : t.first.steps ≡ t.room.steps = ap (λ (r : Room). r.steps) first in
    record {
      entries = none;
      room = sym first;
      pins = omega (arith, w, p, pins);
      nodes = omega (arith, w, n, nodes);
      steps = omega (arith, w, s, k, m, steps);
      few_steps = omega (arith, w, s, k, m, steps, size.live, size.pins, few);
      few = few;
    }

-- the trial of the beginning: the graph, the trial at first, once tidied and once swept, and what it gives
pub begun_first :
    AcceptedStepsKeep → (before : Circuit) (depth : ℕ) (t u v : Tried) (graph : Circuit) (l0 l1 l2 : List Record) → IsWellFormed (net_of before) → HasSize before → HasSize graph → pins_taken before + live_nodes before ≤ 1048576
    → net_of t.graph ≡ net_of before → t.room.steps ≡ 2 * wire_count (net_of before) + 2 * (2 + source_count (net_of before) + gate_count (net_of before)) + 16 → l0 ≡ [] → Goes t u l0 l1 → Goes u v l1 l2
    → IsTidy (net_of v.graph) → HasSwept (net_of u.graph) (net_of v.graph) depth → net_of graph ≡ net_of v.graph → pins_held graph ≡ pins_held before → HasBegun before depth graph l2
begun_first law before depth t u v graph l0 l1 l2 well size size' enough e steps empty g h tidy swept is held =
    let net : Net = net_of before in
    let after : Net = net_of graph in
    let both : Goes t v l0 l2 = goes_then t u v l0 l1 l2 g h in
    let all : l2 ≡ both.logs.more = both.logs.added ∙ ap (λ (rs : List Record). rs ++ both.logs.more) empty in
    let to : AcceptedTo (net_of t.graph) l2 (net_of v.graph) = subst (λ (rs : List Record). AcceptedTo (net_of t.graph) rs (net_of v.graph)) (sym all) both.logs.accepted in
    let accepted : AcceptedTo net l2 after = subst (λ (n : Net). AcceptedTo net l2 n) (sym is) (subst (λ (n : Net). AcceptedTo n l2 (net_of v.graph)) e to) in
    let less : IsNoLarger net after = subst (λ (n : Net). IsNoLarger net n) (sym is) (subst (λ (n : Net). IsNoLarger n (net_of v.graph)) e both.no_larger) in
    let none : length l0 ≡ 0 = ap (λ (rs : List Record). length rs) empty in
    record {
      accepted = accepted;
      removals = subst (λ (rs : List Record). AreRemovals (steps_of rs)) (sym all) both.logs.removals;
      fewer = less.wires;
      tidy = subst IsTidy (sym is) tidy;
      swept = subst (λ (n : Net). IsSwept n depth) (sym is) swept.swept;
      within = within_by before graph size size' held (accepted_places net after l2 accepted) (accepted_sources law net after l2 well accepted) (omega (arith, less.wires, less.gates)) (omega (arith, less.numbers));
      few = omega (arith, both.tallies.spent, none, steps, size.live, size.pins, enough);
    }

-- graphs of the same net that hold as many pins are the same
pub same_size : (graph now : Circuit) → HasSize graph → HasSize now → net_of now ≡ net_of graph → pins_held now ≡ pins_held graph → IsSame graph now
same_size graph now size size' is held =
    let w : wire_count (net_of now) ≡ wire_count (net_of graph) = ap wire_count is in
    let s : source_count (net_of now) ≡ source_count (net_of graph) = ap source_count is in
    let k : gate_count (net_of now) ≡ gate_count (net_of graph) = ap gate_count is in
    let o : length (net_of now).observed ≡ length (net_of graph).observed = ap (λ (n : Net). length n.observed) is in
    record { net = is; pins = omega (arith, w, o, size.pins, size'.pins, held); nodes = omega (arith, s, k, size.live, size'.live) }

-- what was tidied and swept, as a graph of the same net
pub begun_again : (before : Circuit) (depth : ℕ) (graph now : Circuit) (records : List Record) → HasBegun before depth graph records → IsSame graph now → HasBegun before depth now records
begun_again before depth graph now records b same = record {
  accepted = subst (λ (n : Net). AcceptedTo (net_of before) records n) (sym same.net) b.accepted;
  removals = b.removals;
  fewer = subst (λ (n : Net). wire_count n ≤ wire_count (net_of before)) (sym same.net) b.fewer;
  tidy = subst IsTidy (sym same.net) b.tidy;
  swept = subst (λ (n : Net). IsSwept n depth) (sym same.net) b.swept;
  within = within_then before graph now b.within (within_same graph now same);
  few = b.few;
}

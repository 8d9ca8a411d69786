-- What a try that went through left.
use Rattle.std.proofs.Common.{◌≡◌, ℕ, zero, suc, ◌+◌, ◌*◌, ◌<◌, ◌≤◌, inl, inr, Bool, true, false, Option, Some, None, List, [], ◌∷◌, ◌++◌, length, refl, sym, ◌∙◌, ap, subst, append_assoc, arith}
use Rattle.std.specs.List.{sum_by}
use Rattle.std.proofs.lemmas.List.Sums.{sum_by-cons}
use Rattle.std.specs.Prelude.{nat_eq, slice_get, if◌then◌else◌}
use Rattle.std.proofs.lemmas.Bool.{eq-eqb}
use Rattle.rm_base.specs.declared.numbers.Fault.{Fault}
use Rattle.rm_base.specs.declared.numbers.NodeId.{NodeId}
use Rattle.gate_net.specs.Net.{Net, Node, IsGate, IsWellFormed, drivers_in, flatten_option, wire_count, source_count, gate_count}
use Rattle.gate_net.specs.Values.{HasPin}
use Rattle.gate_net.specs.Edits.{fixed}
use Rattle.std.specs.Cmp.{nat_cmp_total}
use Rattle.std.specs.FinSet.{same_set, len, nat_cmp-IsAntisymmetric}
use Rattle.std.proofs.lemmas.Option.{slice_get_within}
use Rattle.gate_graph.specs.Circuit.{Circuit, wiring, net_of, live_nodes, pins_taken}
use Rattle.gate_graph.specs.Holds.{pins_held}
use Rattle.wire_edit.specs.Refusals.{live_count}
use Rattle.journal_text.specs.Accepted.{AcceptedStepsKeep}
use Rattle.gate_graph.specs.Wirings.{Wiring}
use Rattle.refutation.specs.Laws.{ClosedHasAll}
use Rattle.refutation.specs.declared.items.Item.{Item}
use Rattle.wire_edit.specs.declared.steps.Step.{Step}
use Rattle.wire_edit.specs.declared.steps.Step.TheVariants.{Add, Fix, NewNot}
use Rattle.wire_edit.specs.Steps.{stepped}
use Rattle.wire_edit.specs.Order.{IsTidy, node}
use Rattle.wire_edit.specs.Tried.{Tried, IsAt, start_of}
use Rattle.wire_edit.specs.declared.room.Room.{Room}
use Rattle.gate_graph.specs.Undoing.{back_to}
use Rattle.gate_graph.specs.declared.undo_list.Undo.{Undo}
use Rattle.candidate_wires.specs.declared.candidate.Candidate.{Candidate}
use Rattle.candidate_wires.specs.declared.candidate.Pair.{Pair}
use Rattle.wire_edit.specs.Tidying.{TidiesTo}
use Rattle.candidate_wires.specs.Gains.{least_free, wire_for, with_candidate, Gains}
use Rattle.candidate_wires.specs.Additions.{Addition, additions, additions_from, net_after}
use Rattle.journal_text.specs.declared.record.Record.{Record}
use Rattle.journal_text.specs.declared.record.Record.TheVariants as record_of
use Rattle.journal_text.specs.Runs.{AcceptedTo, steps_of}
use Rattle.rar_loop.specs.Inner.Swept.{HasSwept}
use Rattle.wire_edit.proofs.Public.{live_bound, reader_gate, tidy_reads_none}
use Rattle.recorded_removals.specs.Going.{HasFixed, IsLeft, Logs, IsNoLarger}
use Rattle.journal_text.specs.Runs.{AreRemovals}
use Rattle.rar_loop.specs.Sizes.{IsSame, most_steps}
use Rattle.rar_loop.specs.Trying.{IsLent, IsClean}
use Rattle.rar_loop.specs.Inner.Trying.{IsBetter, IsBack, MayTry, HasAdded, HasReplaced, IsReplaced, IsGained}
use Rattle.recorded_removals.proofs.Public.{removals_then, tidying_are_removals}
use Rattle.rar_loop.proofs.Adding.{pin_stays}
use Rattle.rar_loop.proofs.Sizing.{HasSize, added_gates, added_numbers, accepted_places, accepted_sources, within_by}
use Rattle.rar_loop.proofs.Opens.{open_pin_fails, open_target_fails, costs_fail}
use Rattle.rar_loop.proofs.Blocks.{removals_clean, removals_add_none, accepted_after}
use Rattle.journal_text.proofs.Public.{accepted_then}
use Rattle.wire_edit.specs.Removals.{HasFreePin}

-- THE TARGET'S PIN
pub target_pin : (net after : Net) (pair : Pair) → IsWellFormed net → MayTry net pair → after ≡ with_candidate net pair.candidate → HasPin after pair.fault
target_pin net after pair well may e =
    let g : IsGate net pair.fault.gate.0 = reader_gate net well pair.fault.gate.0 pair.fault.position may.pin.0 may.pin.1 in
    subst (λ (w : Net). HasPin w pair.fault) (sym e) (may.pin.0, pin_stays net pair.candidate may.wire pair.fault.gate.0 pair.fault.position may.pin.0 (g.0, g.1.0) may.pin.1)

pub target_free : (net after : Net) (pair : Pair) → IsWellFormed net → IsTidy net → MayTry net pair → after ≡ with_candidate net pair.candidate → HasFreePin after pair.fault
target_free net after pair well tidy may e =
    let g : IsGate net pair.fault.gate.0 = reader_gate net well pair.fault.gate.0 pair.fault.position may.pin.0 may.pin.1 in
    let free : 1 < may.pin.0 = tidy_reads_none net well tidy pair.fault.gate.0 pair.fault.position may.pin.0 may.pin.1 in
    subst (λ (w : Net). HasFreePin w pair.fault) (sym e) (may.pin.0, (pin_stays net pair.candidate may.wire pair.fault.gate.0 pair.fault.position may.pin.0 (g.0, g.1.0) may.pin.1, free))

-- THE RECORDS
pub replaced_whole :
    (net wired mid after : Net) (pair : Pair) (depth : ℕ) (fix_tree : List Item) (l0 l1 l2 : List Record) → HasAdded net pair.candidate depth l0 true → wired ≡ with_candidate net pair.candidate
    → HasFixed pair.fault fix_tree l0 l1 → Logs wired mid l0 l1 → TidiesTo (fixed wired pair.fault) mid → Logs mid after l1 l2 → HasSwept mid after depth → IsTidy after
    → wire_count mid ≤ wire_count net → IsNoLarger wired mid → IsNoLarger mid after → IsReplaced net pair depth l2 after
replaced_whole net wired mid after pair depth fix_tree l0 l1 l2 added e fixes first tidied second swept tidy no_more less less' =
    let fix : Record = record_of.Step (Fix pair.fault.gate pair.fault.position pair.fault.value) fix_tree in
    let l2-is : l2 ≡ l0 ++ (fix ∷ (fixes.rest ++ second.more)) = second.added ∙ ap (λ (xs : List Record). xs ++ second.more) fixes.are ∙ append_assoc l0 (fix ∷ fixes.rest) second.more in
    let l2-more : l2 ≡ l0 ++ (first.more ++ second.more) = second.added ∙ ap (λ (xs : List Record). xs ++ second.more) first.added ∙ append_assoc l0 first.more second.more in
    let to : AcceptedTo net l0 wired = subst (λ (w : Net). AcceptedTo net l0 w) (sym e) added.1.1 in
    let rest : AcceptedTo wired (first.more ++ second.more) after = accepted_then wired mid after first.more second.more first.accepted second.accepted in
    record {
      tree = added.0;
      fix_tree = fix_tree;
      rest = fixes.rest ++ second.more;
      are = l2-is ∙ ap (λ (xs : List Record). xs ++ (fix ∷ (fixes.rest ++ second.more))) added.1.0;
      removals = removals_then fixes.rest second.more (tidying_are_removals (steps_of fixes.rest) fixes.local) second.removals;
      accepted = subst (λ (rs : List Record). AcceptedTo net rs after) (sym l2-more) (accepted_then net wired after l0 (first.more ++ second.more) to rest);
      mid = mid;
      tidied = subst (λ (w : Net). TidiesTo (fixed w pair.fault) mid) e tidied;
      no_more = no_more;
      swept = swept;
      tidy = tidy;
      gates = omega (arith, added_gates net pair.candidate, ap gate_count e, less.gates, less'.gates);
      numbers = omega (arith, added_numbers net pair.candidate, ap (λ (n : Net). length n.nodes) e, less.numbers, less'.numbers);
    }

-- ONE ADDITION
steps_are : (c : Candidate) (net : Net) (tree fix_tree : List Item) (fault : Fault) (rest : List Record) (fresh : Bool)
    → steps_of (((if fresh then record_of.Step (NewNot c.node) [] ∷ [] else []) ++ record_of.Step (Add c.gate (node (wire_for net c))) tree ∷ []) ++ record_of.Step (Fix fault.gate fault.position fault.value) fix_tree ∷ rest)
    ≡ (if fresh then NewNot c.node ∷ [] else []) ++ (Add c.gate (node (wire_for net c)) ∷ Fix fault.gate fault.position fault.value ∷ steps_of rest)
steps_are c net tree fix_tree fault rest true = refl
steps_are c net tree fix_tree fault rest false = refl

clean_steps : (c : Candidate) (y : NodeId) (fault : Fault) (rest : List Step) → AreRemovals rest → (fresh : Bool) → IsClean false ((if fresh then NewNot c.node ∷ [] else []) ++ (Add c.gate y ∷ Fix fault.gate fault.position fault.value ∷ rest))
clean_steps c y fault rest r true = removals_clean rest r
clean_steps c y fault rest r false = removals_clean rest r

-- the one addition of such steps
one_addition : (net : Net) (c : Candidate) (fault : Fault) (rest : List Step) → AreRemovals rest → (fresh : Bool) → c.fresh ≡ fresh →
    let steps : List Step = (if fresh then NewNot c.node ∷ [] else []) ++ (Add c.gate (node (if fresh then least_free net else c.node.0)) ∷ Fix fault.gate fault.position fault.value ∷ rest) in
    additions net steps ≡ record { before = net; candidate = c; target = Some fault; after = net_after net steps } ∷ []
one_addition net c fault rest r true is =
    let same : nat_eq (least_free net) (least_free net) ≡ true = eq-eqb (least_free net) (least_free net) refl in
    let n : Net = stepped (stepped (stepped net (NewNot c.node)) (Add c.gate (node (least_free net)))) (Fix fault.gate fault.position fault.value) in
    let none : (additions_from None n rest ≡ []) × _ = removals_add_none n rest r in
    rw (same, is, none.0, none.1) refl
one_addition net c fault rest r false is =
    let n : Net = stepped (stepped net (Add c.gate c.node)) (Fix fault.gate fault.position fault.value) in
    let none : (additions_from None n rest ≡ []) × _ = removals_add_none n rest r in
    rw (is, none.0, none.1) refl

-- the steps of a pair that was put through
steps_put : (net after : Net) (pair : Pair) (depth : ℕ) (records : List Record) → (r : IsReplaced net pair depth records after)
    → steps_of records ≡ (if pair.candidate.fresh then NewNot pair.candidate.node ∷ [] else []) ++ (Add pair.candidate.gate (node (wire_for net pair.candidate)) ∷ Fix pair.fault.gate pair.fault.position pair.fault.value ∷ steps_of r.rest)
steps_put net after pair depth records r = ap steps_of r.are ∙ steps_are pair.candidate net r.tree r.fix_tree pair.fault r.rest pair.candidate.fresh

-- and their one addition
pub addition_of : (net after : Net) (pair : Pair) (depth : ℕ) (records : List Record) → IsReplaced net pair depth records after
    → additions net (steps_of records) ≡ record { before = net; candidate = pair.candidate; target = Some pair.fault; after = after } ∷ []
addition_of net after pair depth records r =
    let c : Candidate = pair.candidate in
    let steps : List Step = (if c.fresh then NewNot c.node ∷ [] else []) ++ (Add c.gate (node (wire_for net c)) ∷ Fix pair.fault.gate pair.fault.position pair.fault.value ∷ steps_of r.rest) in
    let are : steps_of records ≡ steps = steps_put net after pair depth records r in
    let one : additions net steps ≡ record { before = net; candidate = c; target = Some pair.fault; after = net_after net steps } ∷ [] = one_addition net c pair.fault (steps_of r.rest) r.removals c.fresh refl in
    let at : net_after net steps ≡ after = ap (net_after net) (sym are) ∙ accepted_after net after records r.accepted in
    ap (additions net) are ∙ one ∙ ap (λ (n : Net). let a : Addition = record { before = net; candidate = c; target = Some pair.fault; after = n } in a ∷ []) at

pub gained_of : (net after : Net) (pair : Pair) (depth : ℕ) (records : List Record) → IsReplaced net pair depth records after → wire_count after < wire_count net → IsGained net pair depth records after
gained_of net after pair depth records r fewer =
    let c : Candidate = pair.candidate in
    record {
      accepted = r.accepted;
      fewer = fewer;
      tidy = r.tidy;
      swept = r.swept.swept;
      cost = (r.mid, (r.tidied, r.no_more));
      clean = subst (IsClean false) (sym (steps_put net after pair depth records r)) (clean_steps c (node (wire_for net c)) pair.fault (steps_of r.rest) r.removals c.fresh);
      addition = addition_of net after pair depth records r;
    }

pub better_of :
    AcceptedStepsKeep → (graph better : Circuit) (after : Net) (pair : Pair) (depth : ℕ) (records : List Record) → IsWellFormed (net_of graph) → HasSize graph → HasSize better → net_of better ≡ after → IsReplaced (net_of graph) pair depth records after
    → wire_count after < wire_count (net_of graph) → pins_held better ≡ pins_held graph → length records ≤ most_steps → IsBetter graph pair depth records better
better_of law graph better after pair depth records well size size' is replaced fewer held few =
    let net : Net = net_of graph in
    let r : IsReplaced net pair depth records (net_of better) = subst (λ (n : Net). IsReplaced net pair depth records n) (sym is) replaced in
    let less : wire_count (net_of better) < wire_count net = subst (λ (n : Net). wire_count n < wire_count net) (sym is) fewer in
    let live : live_count net ≤ 2 + (source_count net + gate_count net) = live_bound net well in
    record {
      gained = gained_of net (net_of better) pair depth records r less;
      within = within_by graph better size size' held (accepted_places net (net_of better) records r.accepted) (accepted_sources law net (net_of better) records well r.accepted) (omega (arith, less, r.gates))
          (omega (arith, r.numbers, live, size.live, size.pins, less));
      few = few;
    }

-- NO GAIN
pub not_replaced_fails : ClosedHasAll → (net after : Net) (pair : Pair) (depth : ℕ) (records : List Record) → HasReplaced net pair depth records after false → Gains net pair → ⊥
not_replaced_fails law net after pair depth records (inl new) gains = open_pin_fails law net pair depth new gains
not_replaced_fails law net after pair depth records (inr (inl target)) gains = open_target_fails law net pair depth target gains
not_replaced_fails law net after pair depth records (inr (inr costs)) gains = costs_fail net pair costs gains

pub rolled_back : (graph back : Circuit) (start : Wiring) → wiring graph ≡ start → IsAt back start → wiring back ≡ start
    → live_nodes graph ≡ 2 + source_count (net_of graph) + gate_count (net_of graph) → live_nodes back ≡ 2 + source_count (net_of back) + gate_count (net_of back) → IsSame graph back
rolled_back graph back start is at at' live live' =
    let net : net_of back ≡ net_of graph = (at graph is).0 in
    let taken : back.pool.taken ≡ graph.pool.taken = same_set nat_cmp_total nat_cmp-IsAntisymmetric back.pool.taken graph.pool.taken (λ q. ap (λ (w : Wiring). w.rings.taken q) (at' ∙ sym is)) in
    let s : source_count (net_of back) ≡ source_count (net_of graph) = ap source_count net in
    let g : gate_count (net_of back) ≡ gate_count (net_of graph) = ap gate_count net in
    record { net = net; pins = ap len taken; nodes = omega (arith, live, live', s, g) }

-- a trial that was taken back to where it was lent
pub back_again : (t u : Tried) → IsLent t → IsSame t.graph u.graph → u.trail.entries ≡ [] → u.room ≡ t.first → u.first ≡ t.first → IsBack t u
back_again t u lent same none room first =
    let wires : wire_count (net_of u.graph) ≡ wire_count (net_of t.graph) = ap wire_count same.net in
    let sources : source_count (net_of u.graph) ≡ source_count (net_of t.graph) = ap source_count same.net in
    let gates : gate_count (net_of u.graph) ≡ gate_count (net_of t.graph) = ap gate_count same.net in
    record {
      same = same;
      lent = record {
        entries = none;
        room = room ∙ sym first;
        pins = omega (arith, ap (λ (r : Room). r.pins) first, lent.pins, wires);
        nodes = omega (arith, ap (λ (r : Room). r.nodes) first, lent.nodes, wires);
        steps = omega (arith, ap (λ (r : Room). r.steps) first, lent.steps, wires, sources, gates);
        few_steps = omega (arith, ap (λ (r : Room). r.steps) first, lent.few_steps);
        few = omega (arith, lent.few, same.pins, same.nodes);
      };
    }

pub at_start : (t : Tried) → t.trail.entries ≡ [] → wiring t.graph ≡ start_of t
at_start t e = ap (λ (es : List Undo). back_to (wiring t.graph) es) (sym e)

-- WHAT IS KEPT
-- a trial that was kept may be lent again where its room suffices for the net as it is now
pub lent_again : (t v k : Tried) (pins nodes : ℕ) → IsLeft t v pins nodes → v.first ≡ t.first → k.trail.entries ≡ [] → k.room ≡ record v.room { steps = v.first.steps } → k.first ≡ k.room
    → 2 * wire_count (net_of k.graph) + pins ≤ t.room.pins → wire_count (net_of k.graph) + nodes ≤ t.room.nodes
    → 2 * wire_count (net_of k.graph) + 2 * (2 + source_count (net_of k.graph) + gate_count (net_of k.graph)) + 16 ≤ t.first.steps → t.first.steps ≤ most_steps → pins_taken k.graph + live_nodes k.graph ≤ 1048576 → IsLent k
lent_again t v k pins nodes left same none room first enough_pins enough_nodes enough_steps few_steps few =
    let all : k.first ≡ record v.room { steps = v.first.steps } = first ∙ room in
    let s : k.first.steps ≡ t.first.steps = ap (λ (r : Room). r.steps) all ∙ ap (λ (r : Room). r.steps) same in
    record {
      entries = none;
      room = sym first;
      pins = omega (arith, ap (λ (r : Room). r.pins) all, left.pins, enough_pins);
      nodes = omega (arith, ap (λ (r : Room). r.nodes) all, left.nodes, enough_nodes);
      steps = omega (arith, s, enough_steps);
      few_steps = omega (arith, s, few_steps);
      few = few;
    }

-- a net with a pin has a wire
wire_at : (os : List (Option Node)) (x k d : ℕ) → slice_get (drivers_in (flatten_option (slice_get os x))) k ≡ Some d → 0 < sum_by (λ (o : Option Node). length (drivers_in o)) os
wire_at [] x k d e = cc
wire_at (o ∷ os) zero k d e =
    let lt : k < length (drivers_in o) = slice_get_within (drivers_in o) k d e in
    let sum : sum_by (λ (q : Option Node). length (drivers_in q)) (o ∷ os) ≡ length (drivers_in o) + sum_by (λ (q : Option Node). length (drivers_in q)) os = sum_by-cons (λ (q : Option Node). length (drivers_in q)) o os in
    omega (arith, lt, sum)
wire_at (o ∷ os) (suc x) k d e =
    let rest : 0 < sum_by (λ (q : Option Node). length (drivers_in q)) os = wire_at os x k d e in
    let sum : sum_by (λ (q : Option Node). length (drivers_in q)) (o ∷ os) ≡ length (drivers_in o) + sum_by (λ (q : Option Node). length (drivers_in q)) os = sum_by-cons (λ (q : Option Node). length (drivers_in q)) o os in
    omega (arith, rest, sum)

pub some_wire : (net : Net) (fault : Fault) → HasPin net fault → 0 < wire_count net
some_wire net fault pin = wire_at net.nodes fault.gate.0 fault.position pin.0 pin.1

-- a try that gained leaves fewer wires and at most one more gate, for two pins and a node of the room
pub lent_ahead :
    AcceptedStepsKeep → (t v k : Tried) (pair : Pair) (depth : ℕ) (records : List Record) → IsWellFormed (net_of t.graph) → IsLent t → IsReplaced (net_of t.graph) pair depth records (net_of v.graph) → IsBetter t.graph pair depth records k.graph
    → IsLeft t v 2 1 → v.first ≡ t.first → k.trail.entries ≡ [] → k.room ≡ record v.room { steps = v.first.steps } → k.first ≡ k.room → net_of k.graph ≡ net_of v.graph → IsLent k
lent_ahead law t v k pair depth records well lent replaced better left same none room first is =
    let gates : gate_count (net_of k.graph) ≤ gate_count (net_of t.graph) + 1 = subst (λ (n : Net). gate_count n ≤ gate_count (net_of t.graph) + 1) (sym is) replaced.gates in
    let sources : source_count (net_of k.graph) ≡ source_count (net_of t.graph) = accepted_sources law (net_of t.graph) (net_of k.graph) records well better.gained.accepted in
    let fewer : wire_count (net_of k.graph) < wire_count (net_of t.graph) = better.gained.fewer in
    let at : t.room ≡ t.first = lent.room in
    lent_again t v k 2 1 left same none room first (omega (arith, fewer, lent.pins, ap (λ (r : Room). r.pins) at)) (omega (arith, fewer, lent.nodes, ap (λ (r : Room). r.nodes) at)) (omega (arith, fewer, gates, sources, lent.steps)) lent.few_steps (omega (arith, better.within.size, lent.few))

-- an added wire, a fix and tidying leave the sources
pub added_sources : AcceptedStepsKeep → (net wired mid : Net) (c : Candidate) (depth : ℕ) (l0 l1 : List Record) → IsWellFormed net → HasAdded net c depth l0 true → wired ≡ with_candidate net c → Logs wired mid l0 l1 → source_count mid ≡ source_count net
added_sources law net wired mid c depth l0 l1 well added e logs =
    let to : AcceptedTo net l0 wired = subst (λ (w : Net). AcceptedTo net l0 w) (sym e) added.1.1 in
    accepted_sources law net mid (l0 ++ logs.more) well (accepted_then net wired mid l0 logs.more to logs.accepted)

use Rattle.std.proofs.Common.{List, [], arith, subst, sym, ◌++◌, ◌≡◌, ◌∙◌, ◌∷◌}
use Rattle.gate_graph.specs.Circuit.{net_of}
use Rattle.podem.proofs.Going.{at_of, enough_given, opens_first, opens_second}
use Rattle.podem.proofs.branching.search_tree.Goals as goal
use Rattle.podem.specs.Inner.Going.{AreOpen, CanSplit, ClosesAt, ClosesFirst, ComesBack, Finds}
use Rattle.podem.specs.declared.branching.End.{End}
use Rattle.podem.specs.declared.branching.Found.{Found}
use Rattle.podem.specs.declared.branching.Found.TheVariants.{Ends}
use Rattle.podem.specs.declared.splits.OpenSplit.{OpenSplit}
use Rattle.refutation.specs.declared.items.Item.TheVariants.{Split}
use Rattle.std.specs.Prelude.{Option}

pub loop-splits-preserved-in-Continue-branch-2 : goal.loop-splits-preserved-in-Continue-branch-2
loop-splits-preserved-in-Continue-branch-2 c =
    let found : CanSplit (net_of c.args.question.now.graph.now) c.args.question.now.fault c.loop-splits.tracker.now c.in-Splits.choice c.loop-splits.left × (c.look.new.tree ≡ c.loop-splits.tree ++ Split c.in-Splits.choice.node c.in-Splits.choice.value ∷ []) =
    subst (λ (f : Found). Finds (net_of c.args.question.now.graph.now) c.args.question.now.fault c.loop-splits.tracker.now c.loop-splits.tree c.look.new.tree c.loop-splits.left c.is_waiting-waiting.result f) c.in-Splits.is c.in_ok-found.ensures in
    record {
      opened =
          subst (λ (ss : List OpenSplit). AreOpen (net_of c.args.question.now.graph.now) c.args.question.now.fault (at_of c.args.tracker.now.now c.args.tree.now c.args.left.now) ss c.enter.new.tracker.before (at_of c.enter.new.tracker.now c.look.new.tree c.enter.new.left)) (sym c.in_ok-enter-in-Splits.ensures.splits)
          (opens_first (net_of c.args.question.now.graph.now) c.args.question.now.fault (at_of c.args.tracker.now.now c.args.tree.now c.args.left.now) c.loop-splits.splits c.loop-splits.tracker.before c.enter.new.tracker.before c.loop-splits.tracker.now c.enter.new.tracker.now c.loop-splits.tree c.look.new.tree c.loop-splits.left c.enter.new.left c.in-Splits.choice c.is_waiting-waiting.result
          c.loop-splits.invariant.opened found.0 c.is_waiting-waiting.ensures c.in_ok-enter-in-Splits.ensures.before found.1 c.in_ok-enter-in-Splits.ensures.left c.in_ok-enter-in-Splits.ensures.gets);
      current = c.in_ok-enter-in-Splits.ensures.current;
      suits = λ net s. c.in_ok-enter-in-Splits.ensures.suits net (c.loop-splits.invariant.suits net s);
    }

pub returns-in-Ends-Spent-clause-ends : goal.returns-in-Ends-Spent-clause-ends
returns-in-Ends-Spent-clause-ends c =
    let ends = subst (λ (e : End). Finds (net_of c.args.question.now.graph.now) c.args.question.now.fault c.loop-splits.tracker.now c.loop-splits.tree c.look.new.tree c.loop-splits.left c.is_waiting-waiting.result (Ends e)) c.in-Ends-Spent.field-0-is
    (subst (λ (f : Found). Finds (net_of c.args.question.now.graph.now) c.args.question.now.fault c.loop-splits.tracker.now c.loop-splits.tree c.look.new.tree c.loop-splits.left c.is_waiting-waiting.result f) c.in-Ends-Spent.is c.in_ok-found.ensures) in
    c.in_ok-give_up-in-Ends-Spent.ensures (net_of c.args.question.now.graph.now) c.args.question.now.fault (at_of c.args.tracker.now.now c.args.tree.now c.args.left.now)
    (record { before = c.loop-splits.tracker.before; at = at_of c.loop-splits.tracker.now c.loop-splits.tree c.loop-splits.left; opened = c.loop-splits.invariant.opened; spent = ends.0 }) 0

pub go_back-requires : goal.go_back-requires
go_back-requires c = record {
  given = enough_given (net_of c.args.question.now.graph.now) c.args.question.now.fault (at_of c.args.tracker.now.now c.args.tree.now c.args.left.now) c.loop-splits.splits c.loop-splits.tracker.before (at_of c.loop-splits.tracker.now c.loop-splits.tree c.loop-splits.left) c.loop-splits.invariant.opened;
}

pub returns-in_default-clause-ends : goal.returns-in_default-clause-ends
returns-in_default-clause-ends c =
    let ends = subst (λ (e : End). Finds (net_of c.args.question.now.graph.now) c.args.question.now.fault c.loop-splits.tracker.now c.loop-splits.tree c.look.new.tree c.loop-splits.left c.is_waiting-waiting.result (Ends e)) c.in-Ends-Closed.field-0-is
    (subst (λ (f : Found). Finds (net_of c.args.question.now.graph.now) c.args.question.now.fault c.loop-splits.tracker.now c.loop-splits.tree c.look.new.tree c.loop-splits.left c.is_waiting-waiting.result f) c.in-Ends-Closed.is c.in_ok-found.ensures) in
    let closed : ClosesAt (net_of c.args.question.now.graph.now) c.args.question.now.fault (at_of c.args.tracker.now.now c.args.tree.now c.args.left.now) c.loop-splits.splits c.loop-splits.tracker.before c.loop-splits.tracker.now c.look.new.tree c.loop-splits.left =
    record { items = c.loop-splits.tree; from = c.loop-splits.left; opened = c.loop-splits.invariant.opened; closed = ends.0; some = λ w. ends.1 (c.is_waiting-waiting.ensures ∙ w) } in
    subst (λ (o : Option OpenSplit). ComesBack (net_of c.args.question.now.graph.now) c.args.question.now.fault (at_of c.args.tracker.now.now c.args.tree.now c.args.left.now) c.go_back.new.splits c.go_back.new.tracker.before c.go_back.new.tracker.now c.look.new.tree c.loop-splits.left o) c.in_default.is
    (c.go_back.ensures.back (net_of c.args.question.now.graph.now) c.args.question.now.fault (at_of c.args.tracker.now.now c.args.tree.now c.args.left.now) c.look.new.tree c.loop-splits.left closed)

pub enter-requires-in-Ends-Closed-clause-current : goal.enter-requires-in-Ends-Closed-clause-current
enter-requires-in-Ends-Closed-clause-current c =
    let ends = subst (λ (e : End). Finds (net_of c.args.question.now.graph.now) c.args.question.now.fault c.loop-splits.tracker.now c.loop-splits.tree c.look.new.tree c.loop-splits.left c.is_waiting-waiting.result (Ends e)) c.in-Ends-Closed.field-0-is
    (subst (λ (f : Found). Finds (net_of c.args.question.now.graph.now) c.args.question.now.fault c.loop-splits.tracker.now c.loop-splits.tree c.look.new.tree c.loop-splits.left c.is_waiting-waiting.result f) c.in-Ends-Closed.is c.in_ok-found.ensures) in
    let closed : ClosesAt (net_of c.args.question.now.graph.now) c.args.question.now.fault (at_of c.args.tracker.now.now c.args.tree.now c.args.left.now) c.loop-splits.splits c.loop-splits.tracker.before c.loop-splits.tracker.now c.look.new.tree c.loop-splits.left =
    record { items = c.loop-splits.tree; from = c.loop-splits.left; opened = c.loop-splits.invariant.opened; closed = ends.0; some = λ w. ends.1 (c.is_waiting-waiting.ensures ∙ w) } in
    let back : ClosesFirst (net_of c.args.question.now.graph.now) c.args.question.now.fault (at_of c.args.tracker.now.now c.args.tree.now c.args.left.now) c.go_back.new.splits c.go_back.new.tracker.before c.go_back.new.tracker.now c.look.new.tree c.loop-splits.left c.in-Some.split =
    subst (λ (o : Option OpenSplit). ComesBack (net_of c.args.question.now.graph.now) c.args.question.now.fault (at_of c.args.tracker.now.now c.args.tree.now c.args.left.now) c.go_back.new.splits c.go_back.new.tracker.before c.go_back.new.tracker.now c.look.new.tree c.loop-splits.left o) c.in-Some.is
    (c.go_back.ensures.back (net_of c.args.question.now.graph.now) c.args.question.now.fault (at_of c.args.tracker.now.now c.args.tree.now c.args.left.now) c.look.new.tree c.loop-splits.left closed) in
    back.can.current

pub enter-requires-in-Ends-Closed-clause-choice : goal.enter-requires-in-Ends-Closed-clause-choice
enter-requires-in-Ends-Closed-clause-choice c =
    let ends = subst (λ (e : End). Finds (net_of c.args.question.now.graph.now) c.args.question.now.fault c.loop-splits.tracker.now c.loop-splits.tree c.look.new.tree c.loop-splits.left c.is_waiting-waiting.result (Ends e)) c.in-Ends-Closed.field-0-is
    (subst (λ (f : Found). Finds (net_of c.args.question.now.graph.now) c.args.question.now.fault c.loop-splits.tracker.now c.loop-splits.tree c.look.new.tree c.loop-splits.left c.is_waiting-waiting.result f) c.in-Ends-Closed.is c.in_ok-found.ensures) in
    let closed : ClosesAt (net_of c.args.question.now.graph.now) c.args.question.now.fault (at_of c.args.tracker.now.now c.args.tree.now c.args.left.now) c.loop-splits.splits c.loop-splits.tracker.before c.loop-splits.tracker.now c.look.new.tree c.loop-splits.left =
    record { items = c.loop-splits.tree; from = c.loop-splits.left; opened = c.loop-splits.invariant.opened; closed = ends.0; some = λ w. ends.1 (c.is_waiting-waiting.ensures ∙ w) } in
    let back : ClosesFirst (net_of c.args.question.now.graph.now) c.args.question.now.fault (at_of c.args.tracker.now.now c.args.tree.now c.args.left.now) c.go_back.new.splits c.go_back.new.tracker.before c.go_back.new.tracker.now c.look.new.tree c.loop-splits.left c.in-Some.split =
    subst (λ (o : Option OpenSplit). ComesBack (net_of c.args.question.now.graph.now) c.args.question.now.fault (at_of c.args.tracker.now.now c.args.tree.now c.args.left.now) c.go_back.new.splits c.go_back.new.tracker.before c.go_back.new.tracker.now c.look.new.tree c.loop-splits.left o) c.in-Some.is
    (c.go_back.ensures.back (net_of c.args.question.now.graph.now) c.args.question.now.fault (at_of c.args.tracker.now.now c.args.tree.now c.args.left.now) c.look.new.tree c.loop-splits.left closed) in
    back.can.may

pub enter-requires-in-Ends-Closed-clause-left : goal.enter-requires-in-Ends-Closed-clause-left
enter-requires-in-Ends-Closed-clause-left c =
    let ends = subst (λ (e : End). Finds (net_of c.args.question.now.graph.now) c.args.question.now.fault c.loop-splits.tracker.now c.loop-splits.tree c.look.new.tree c.loop-splits.left c.is_waiting-waiting.result (Ends e)) c.in-Ends-Closed.field-0-is
    (subst (λ (f : Found). Finds (net_of c.args.question.now.graph.now) c.args.question.now.fault c.loop-splits.tracker.now c.loop-splits.tree c.look.new.tree c.loop-splits.left c.is_waiting-waiting.result f) c.in-Ends-Closed.is c.in_ok-found.ensures) in
    let closed : ClosesAt (net_of c.args.question.now.graph.now) c.args.question.now.fault (at_of c.args.tracker.now.now c.args.tree.now c.args.left.now) c.loop-splits.splits c.loop-splits.tracker.before c.loop-splits.tracker.now c.look.new.tree c.loop-splits.left =
    record { items = c.loop-splits.tree; from = c.loop-splits.left; opened = c.loop-splits.invariant.opened; closed = ends.0; some = λ w. ends.1 (c.is_waiting-waiting.ensures ∙ w) } in
    let back : ClosesFirst (net_of c.args.question.now.graph.now) c.args.question.now.fault (at_of c.args.tracker.now.now c.args.tree.now c.args.left.now) c.go_back.new.splits c.go_back.new.tracker.before c.go_back.new.tracker.now c.look.new.tree c.loop-splits.left c.in-Some.split =
    subst (λ (o : Option OpenSplit). ComesBack (net_of c.args.question.now.graph.now) c.args.question.now.fault (at_of c.args.tracker.now.now c.args.tree.now c.args.left.now) c.go_back.new.splits c.go_back.new.tracker.before c.go_back.new.tracker.now c.look.new.tree c.loop-splits.left o) c.in-Some.is
    (c.go_back.ensures.back (net_of c.args.question.now.graph.now) c.args.question.now.fault (at_of c.args.tracker.now.now c.args.tree.now c.args.left.now) c.look.new.tree c.loop-splits.left closed) in
    back.closed.more

pub loop-splits-smaller : goal.loop-splits-smaller
loop-splits-smaller c =
    let ends = subst (λ (e : End). Finds (net_of c.args.question.now.graph.now) c.args.question.now.fault c.loop-splits.tracker.now c.loop-splits.tree c.look.new.tree c.loop-splits.left c.is_waiting-waiting.result (Ends e)) c.in-Ends-Closed.field-0-is
    (subst (λ (f : Found). Finds (net_of c.args.question.now.graph.now) c.args.question.now.fault c.loop-splits.tracker.now c.loop-splits.tree c.look.new.tree c.loop-splits.left c.is_waiting-waiting.result f) c.in-Ends-Closed.is c.in_ok-found.ensures) in
    let closed : ClosesAt (net_of c.args.question.now.graph.now) c.args.question.now.fault (at_of c.args.tracker.now.now c.args.tree.now c.args.left.now) c.loop-splits.splits c.loop-splits.tracker.before c.loop-splits.tracker.now c.look.new.tree c.loop-splits.left =
    record { items = c.loop-splits.tree; from = c.loop-splits.left; opened = c.loop-splits.invariant.opened; closed = ends.0; some = λ w. ends.1 (c.is_waiting-waiting.ensures ∙ w) } in
    let back : ClosesFirst (net_of c.args.question.now.graph.now) c.args.question.now.fault (at_of c.args.tracker.now.now c.args.tree.now c.args.left.now) c.go_back.new.splits c.go_back.new.tracker.before c.go_back.new.tracker.now c.look.new.tree c.loop-splits.left c.in-Some.split =
    subst (λ (o : Option OpenSplit). ComesBack (net_of c.args.question.now.graph.now) c.args.question.now.fault (at_of c.args.tracker.now.now c.args.tree.now c.args.left.now) c.go_back.new.splits c.go_back.new.tracker.before c.go_back.new.tracker.now c.look.new.tree c.loop-splits.left o) c.in-Some.is
    (c.go_back.ensures.back (net_of c.args.question.now.graph.now) c.args.question.now.fault (at_of c.args.tracker.now.now c.args.tree.now c.args.left.now) c.look.new.tree c.loop-splits.left closed) in
    omega (arith, back.closed.more, c.enter-in-Ends-Closed.ensures.left)

pub loop-splits-preserved : goal.loop-splits-preserved
loop-splits-preserved c =
    let ends = subst (λ (e : End). Finds (net_of c.args.question.now.graph.now) c.args.question.now.fault c.loop-splits.tracker.now c.loop-splits.tree c.look.new.tree c.loop-splits.left c.is_waiting-waiting.result (Ends e)) c.in-Ends-Closed.field-0-is
    (subst (λ (f : Found). Finds (net_of c.args.question.now.graph.now) c.args.question.now.fault c.loop-splits.tracker.now c.loop-splits.tree c.look.new.tree c.loop-splits.left c.is_waiting-waiting.result f) c.in-Ends-Closed.is c.in_ok-found.ensures) in
    let closed : ClosesAt (net_of c.args.question.now.graph.now) c.args.question.now.fault (at_of c.args.tracker.now.now c.args.tree.now c.args.left.now) c.loop-splits.splits c.loop-splits.tracker.before c.loop-splits.tracker.now c.look.new.tree c.loop-splits.left =
    record { items = c.loop-splits.tree; from = c.loop-splits.left; opened = c.loop-splits.invariant.opened; closed = ends.0; some = λ w. ends.1 (c.is_waiting-waiting.ensures ∙ w) } in
    let back : ClosesFirst (net_of c.args.question.now.graph.now) c.args.question.now.fault (at_of c.args.tracker.now.now c.args.tree.now c.args.left.now) c.go_back.new.splits c.go_back.new.tracker.before c.go_back.new.tracker.now c.look.new.tree c.loop-splits.left c.in-Some.split =
    subst (λ (o : Option OpenSplit). ComesBack (net_of c.args.question.now.graph.now) c.args.question.now.fault (at_of c.args.tracker.now.now c.args.tree.now c.args.left.now) c.go_back.new.splits c.go_back.new.tracker.before c.go_back.new.tracker.now c.look.new.tree c.loop-splits.left o) c.in-Some.is
    (c.go_back.ensures.back (net_of c.args.question.now.graph.now) c.args.question.now.fault (at_of c.args.tracker.now.now c.args.tree.now c.args.left.now) c.look.new.tree c.loop-splits.left closed) in
    record {
      opened =
          subst (λ (ss : List OpenSplit). AreOpen (net_of c.args.question.now.graph.now) c.args.question.now.fault (at_of c.args.tracker.now.now c.args.tree.now c.args.left.now) ss c.enter-in-Ends-Closed.new.tracker.before (at_of c.enter-in-Ends-Closed.new.tracker.now c.look.new.tree c.enter-in-Ends-Closed.new.left)) (sym c.in_ok-enter-in-Ends-Closed.ensures.splits)
          (opens_second (net_of c.args.question.now.graph.now) c.args.question.now.fault (at_of c.args.tracker.now.now c.args.tree.now c.args.left.now) c.go_back.new.splits c.go_back.new.tracker.before c.enter-in-Ends-Closed.new.tracker.before c.go_back.new.tracker.now c.enter-in-Ends-Closed.new.tracker.now c.look.new.tree c.loop-splits.left c.enter-in-Ends-Closed.new.left c.in-Some.split
          back c.in_ok-enter-in-Ends-Closed.ensures.before c.in_ok-enter-in-Ends-Closed.ensures.left c.in_ok-enter-in-Ends-Closed.ensures.gets);
      current = c.in_ok-enter-in-Ends-Closed.ensures.current;
      suits = λ net s. c.in_ok-enter-in-Ends-Closed.ensures.suits net (c.go_back.ensures.suits net (c.loop-splits.invariant.suits net s));
    }

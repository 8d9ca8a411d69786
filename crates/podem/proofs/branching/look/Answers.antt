use Rattle.std.proofs.Common.{arith, false, true, ◌≡◌}
use Rattle.gate_graph.specs.Circuit.{net_of}
use Rattle.gate_net.specs.Forward.{MarksDetected, MarksQuiet}
use Rattle.podem.proofs.Splitting.{quiet_finds, spends_here}
use Rattle.podem.proofs.branching.look.Goals as goal
use Rattle.ternary_sim.specs.Marks.{marking}

pub returns-then-is_quiet : goal.returns-then-is_quiet
returns-then-is_quiet c =
    let undetected : MarksDetected (net_of c.args.question.now.graph.now) (marking c.args.tracker.now.now) → ⊥ = (λ d. let told : c.is_detected.result ≡ true = (c.is_detected.ensures (net_of c.args.question.now.graph.now) c.requires.suits).1 d in let no_more : c.is_detected.result ≡ false = c.if-is_detected.false in cc) in
    quiet_finds (net_of c.args.question.now.graph.now) c.args.question.now.fault c.args.tracker.now.now c.args.tree.now c.end_quiet.new.tree c.args.left c.args.waiting
    (c.regions_decide.ensures (net_of c.args.question.now.graph.now) c.args.question.now.fault c.well_formed-2.ensures.net.acyclic c.args.tracker.now.now c.requires.current) undetected
    ((c.is_quiet.ensures (net_of c.args.question.now.graph.now) c.requires.suits).0 c.if-is_quiet.true) c.in_ok-end_quiet.field-0 c.in_ok-end_quiet.ensures

pub returns-then-left-eq0 : goal.returns-then-left-eq0
returns-then-left-eq0 c =
    let undetected : MarksDetected (net_of c.args.question.now.graph.now) (marking c.args.tracker.now.now) → ⊥ = (λ d. let told : c.is_detected.result ≡ true = (c.is_detected.ensures (net_of c.args.question.now.graph.now) c.requires.suits).1 d in let no_more : c.is_detected.result ≡ false = c.if-is_detected.false in cc) in (
      λ held tells. spends_here (net_of c.args.question.now.graph.now) c.args.question.now.fault c.args.tracker.now.now
          (c.regions_decide.ensures (net_of c.args.question.now.graph.now) c.args.question.now.fault c.well_formed-2.ensures.net.acyclic c.args.tracker.now.now c.requires.current)
          held tells undetected c.args.tree.now c.push.new.self c.args.left c.if-left-eq0.true c.in_ok-push.ensures.ok,
      tt,
    )

pub returns : goal.returns
returns c =
    let undetected : MarksDetected (net_of c.args.question.now.graph.now) (marking c.args.tracker.now.now) → ⊥ = (λ d. let told : c.is_detected.result ≡ true = (c.is_detected.ensures (net_of c.args.question.now.graph.now) c.requires.suits).1 d in let no_more : c.is_detected.result ≡ false = c.if-is_detected.false in cc) in
    let loud : MarksQuiet (net_of c.args.question.now.graph.now) (marking c.args.tracker.now.now) → ⊥ = (λ q. let told : c.is_quiet.result ≡ true = (c.is_quiet.ensures (net_of c.args.question.now.graph.now) c.requires.suits).1 q in let no_more : c.is_quiet.result ≡ false = c.if-is_quiet.false in cc) in (
      record {
        current = c.requires.current;
        whole = c.regions_decide.ensures (net_of c.args.question.now.graph.now) c.args.question.now.fault c.well_formed-2.ensures.net.acyclic c.args.tracker.now.now c.requires.current;
        may = c.in_ok-choice.ensures.choice;
        undetected = undetected;
        loud = loud;
        some = omega (arith, c.if-left-eq0.false);
      },
      c.in_ok-push-2.ensures.ok,
    )

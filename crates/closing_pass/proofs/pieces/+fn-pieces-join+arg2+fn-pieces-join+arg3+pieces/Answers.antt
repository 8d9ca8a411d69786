use Rattle.gate_graph.specs.Circuit.{net_of}
use Rattle.std.proofs.Common.{IfOk, rules}
use Rattle.closing_pass.specs.declared.answers.Answers.{Answers}
use Rattle.closing_pass.specs.Verdicts.{AreVerdicts, HavePins, IsAnswer}
use Rattle.closing_pass.proofs.InOrder.{zip_parts}
use Rattle.closing_pass.proofs.pieces.+fn-pieces-join+arg2+fn-pieces-join+arg3+pieces.Goals as goal

pub join-verdicts-requires-after_bounds : goal.join-verdicts-requires-after_bounds
join-verdicts-requires-after_bounds g t c κs within =
    let front : HavePins (net_of c.args.graph.now) c.cut.result.0.now = (c.cut.ensures.pins (net_of c.args.graph.now) c.requires.pins).0 in
    let back : HavePins (net_of c.args.graph.now) c.cut.result.1.now = (c.cut.ensures.pins (net_of c.args.graph.now) c.requires.pins).1 in
    search rules

pub returns : goal.returns
returns g t c =
    let first : IfOk c.join-verdicts.result.0 (λ v. AreVerdicts (net_of c.args.graph.now) c.args.settings.now.budget c.cut.result.0.now v.verdicts.items) = c.join-verdicts.ensures.first in
    let second : IfOk c.join-verdicts.result.1 (λ v. AreVerdicts (net_of c.args.graph.now) c.args.settings.now.budget c.cut.result.1.now v.verdicts.items) = c.join-verdicts.ensures.second in
    zip_parts (IsAnswer (net_of c.args.graph.now) c.args.settings.now.budget) (λ (a : Answers). a.verdicts.items) c.args.faults.now c.cut.result.0.now c.cut.result.1.now c.in_ok-verdicts.field-0.verdicts.items c.in_ok-others.field-0.verdicts.items c.join_answers.result
    c.cut.ensures.parts (rw c.in_ok-verdicts.was at first) (rw c.in_ok-others.was at second) c.join_answers.ensures

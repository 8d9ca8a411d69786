use Rattle.std.proofs.Common.{Option, subst, ℕ}
use Rattle.std.specs.Prelude.{IfSome}
use Rattle.gate_graph.specs.Circuit.{net_of}
use Rattle.podem.specs.Verdicts.{IsDecided, IsVerdict}
use Rattle.podem.specs.declared.verdict.Verdict.{Verdict}
use Rattle.closing_pass.proofs.answering.search_longer.Goals as goal

pub returns-in-Some-clause-answer : goal.returns-in-Some-clause-answer
returns-in-Some-clause-answer c =
    let holds : (budget : ℕ) → IsVerdict (net_of c.args.question.now.graph.now) c.args.question.now.fault budget c.in-Some.other =
    subst (λ (o : Option Verdict). IfSome o (λ v. (budget : ℕ) → IsVerdict (net_of c.args.question.now.graph.now) c.args.question.now.fault budget v)) c.in-Some.is c.in_ok-decided.ensures.verdict in
    let decided : IsDecided c.in-Some.other = subst (λ (o : Option Verdict). IfSome o IsDecided) c.in-Some.is c.in_ok-decided.ensures.decided in
    record { holds = holds c.args.budget; decided = λ e. decided }

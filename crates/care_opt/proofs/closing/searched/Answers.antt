use Rattle.std.proofs.Common.{refl, subst}
use Rattle.gate_graph.specs.Circuit.{net_of}
use Rattle.podem.specs.Verdicts.{IsDecided, IsVerdict}
use Rattle.care_opt.proofs.closing.searched.Goals as goal

pub returns-in-Detected-clause-record : goal.returns-in-Detected-clause-record
returns-in-Detected-clause-record c = (refl, subst (IsVerdict (net_of c.args.question.now.graph.now) c.args.question.now.fault c.args.budget) c.in-Detected.is c.in_ok-verdict.ensures.verdict)

pub returns-in-Refuted-clause-refuted : goal.returns-in-Refuted-clause-refuted
returns-in-Refuted-clause-refuted c = λ none. (c.in-Refuted._tree, subst (IsVerdict (net_of c.args.question.now.graph.now) c.args.question.now.fault c.args.budget) c.in-Refuted.is c.in_ok-verdict.ensures.verdict)

pub returns-in-Spent-clause-record : goal.returns-in-Spent-clause-record
returns-in-Spent-clause-record c = (
  refl,
  (
    subst (IsVerdict (net_of c.args.question.now.graph.now) c.args.question.now.fault c.args.budget) c.in-Spent.is c.in_ok-verdict.ensures.verdict,
    λ enough. subst IsDecided c.in-Spent.is (c.in_ok-verdict.ensures.decided enough),
  ),
)

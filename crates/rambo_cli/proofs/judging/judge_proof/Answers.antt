use Rattle.std.proofs.Common.{◌≡◌, ◌≤◌, ◌^◌, List, ℕ, length, subst, sym}
use Rattle.std.specs.Prelude.{IfSome}
use Rattle.journal_check.proofs.Public.{handed_on}
use Rattle.rambo_cli.specs.Contract.{Caused}
use Rattle.rambo_cli.specs.Files.{Holds}
use Rattle.rambo_cli.specs.Judge.{JudgeFinds}
use Rattle.rambo_cli.proofs.JudgedProofs.{accepted_judged, pair_judged, proof_judged, refused_judged}
use Rattle.rambo_cli.proofs.judging.judge_proof.Goals as goal

pub returns-in_err-pair-clause-cause : goal.returns-in_err-pair-clause-cause
returns-in_err-pair-clause-cause g c =
    let problem = c.in_err-pair.field-0.0 in
    handed_on c.from_residual.result problem (Caused (JudgeFinds c.args.names.now.first.now c.args.names.now.second.now c.args.names.now.proof.now (g.S.Shelf.files c.args.shelf.now)) (g.S.Shelf.faults c.args.shelf.now) (g.S.Shelf.faults c.read_pair.new.shelf)) c.from_residual.ensures.1
    (pair_judged c.args.names.now.first.now c.args.names.now.second.now c.args.names.now.proof.now (g.S.Shelf.files c.args.shelf.now) (g.S.Shelf.faults c.args.shelf.now) (g.S.Shelf.faults c.read_pair.new.shelf) problem c.in_err-pair.ensures.cause)

pub returns-in_err-text-clause-cause : goal.returns-in_err-text-clause-cause
returns-in_err-text-clause-cause g c =
    let problem = c.in_err-text.field-0.0 in
    handed_on c.from_residual-in_err-text.result problem (Caused (JudgeFinds c.args.names.now.first.now c.args.names.now.second.now c.args.names.now.proof.now (g.S.Shelf.files c.args.shelf.now)) (g.S.Shelf.faults c.args.shelf.now) (g.S.Shelf.faults c.read_proof.new.shelf)) c.from_residual-in_err-text.ensures.1
    (proof_judged c.reads_once.ensures c.in_ok-pair.pair.model c.in_ok-pair.pair.other c.args.names.now.first.now c.args.names.now.second.now c.args.names.now.proof.now (g.S.Shelf.files c.args.shelf.now) (g.S.Shelf.files c.read_pair.new.shelf) (g.S.Shelf.faults c.args.shelf.now)
    (g.S.Shelf.faults c.read_pair.new.shelf) (g.S.Shelf.faults c.read_proof.new.shelf) problem c.in_ok-pair.ensures.files c.in_ok-pair.ensures.later c.in_ok-pair.ensures.read c.in_err-text.ensures.cause)

pub returns-in_err-judged-clause-cause : goal.returns-in_err-judged-clause-cause
returns-in_err-judged-clause-cause g c =
    let problem = c.in_err-judged.field-0.0 in
    handed_on c.from_residual-in_err-judged.result problem (Caused (JudgeFinds c.args.names.now.first.now c.args.names.now.second.now c.args.names.now.proof.now (g.S.Shelf.files c.args.shelf.now)) (g.S.Shelf.faults c.args.shelf.now) (g.S.Shelf.faults c.read_proof.new.shelf)) c.from_residual-in_err-judged.ensures.1
    (refused_judged c.in_ok-pair.pair.model c.in_ok-pair.pair.other c.args.names.now.first.now c.args.names.now.second.now c.args.names.now.proof.now c.as_slice.result.now (g.S.Shelf.files c.args.shelf.now) (g.S.Shelf.files c.read_pair.new.shelf) (g.S.Shelf.faults c.args.shelf.now)
    (g.S.Shelf.faults c.read_proof.new.shelf) problem c.in_ok-pair.ensures.files c.in_ok-pair.ensures.read
    (subst (λ (t : List ℕ). IfSome (g.S.Shelf.files c.read_pair.new.shelf) (λ told. Holds told c.args.names.now.proof.now (λ bytes. (length bytes ≤ 2 ^ 62) × (t ≡ bytes)))) (sym c.as_slice.ensures.value) c.in_ok-text.ensures.read)
    c.in_err-judged.ensures.refused)

pub returns-clause-done : goal.returns-clause-done
returns-clause-done g c =
    accepted_judged c.in_ok-pair.pair.model c.in_ok-pair.pair.other c.args.names.now.first.now c.args.names.now.second.now c.args.names.now.proof.now c.as_slice.result.now (g.S.Shelf.files c.args.shelf.now) (g.S.Shelf.files c.read_pair.new.shelf)
    c.in_ok-judged.judged.budget c.records_in-count.result c.in_ok-judged.judged.evidence c.verdict_of.result c.in_ok-pair.ensures.files c.in_ok-pair.ensures.read
    (subst (λ (t : List ℕ). IfSome (g.S.Shelf.files c.read_pair.new.shelf) (λ told. Holds told c.args.names.now.proof.now (λ bytes. (length bytes ≤ 2 ^ 62) × (t ≡ bytes)))) (sym c.as_slice.ensures.value) c.in_ok-text.ensures.read)
    c.in_ok-judged.ensures.comparable c.in_ok-judged.ensures.says c.in_ok-judged.ensures.shown c.records_in-count.ensures c.verdict_of.ensures

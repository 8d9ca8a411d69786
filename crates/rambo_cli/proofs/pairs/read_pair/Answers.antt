use Rattle.journal_check.proofs.Public.{handed_on}
use Rattle.rambo_cli.specs.Contract.{Caused}
use Rattle.rambo_cli.specs.Inner.Pairs.{wires_by}
use Rattle.rambo_cli.specs.Pairs.{PairFinds}
use Rattle.rambo_cli.proofs.Pairings.{both_read, first_cause, second_cause}
use Rattle.rambo_cli.proofs.pairs.read_pair.Goals as goal

pub returns-in_err-model-clause-cause : goal.returns-in_err-model-clause-cause
returns-in_err-model-clause-cause g c =
    let problem = c.in_err-model.field-0.0 in
    handed_on c.from_residual.result problem (Caused (PairFinds (wires_by c.args.parities) c.args.first.now c.args.second.now (g.S.Shelf.files c.args.shelf.now)) (g.S.Shelf.faults c.args.shelf.now) (g.S.Shelf.faults c.read_fitting.new.shelf)) c.from_residual.ensures.1
    (first_cause (wires_by c.args.parities) c.args.first.now c.args.second.now (g.S.Shelf.files c.args.shelf.now) (g.S.Shelf.faults c.args.shelf.now) (g.S.Shelf.faults c.read_fitting.new.shelf) problem c.in_err-model.ensures.cause)

pub returns-in_err-other-clause-cause : goal.returns-in_err-other-clause-cause
returns-in_err-other-clause-cause g c =
    let problem = c.in_err-other.field-0.0 in
    handed_on c.from_residual-in_err-other.result problem (Caused (PairFinds (wires_by c.args.parities) c.args.first.now c.args.second.now (g.S.Shelf.files c.args.shelf.now)) (g.S.Shelf.faults c.args.shelf.now) (g.S.Shelf.faults c.read_second.new.shelf)) c.from_residual-in_err-other.ensures.1
    (second_cause (wires_by c.args.parities) c.reads_once.ensures c.in_ok-model.model c.args.first.now c.args.second.now (g.S.Shelf.files c.args.shelf.now) (g.S.Shelf.files c.read_fitting.new.shelf) (g.S.Shelf.faults c.args.shelf.now) (g.S.Shelf.faults c.read_fitting.new.shelf) (g.S.Shelf.faults c.read_second.new.shelf) problem
    c.in_ok-model.ensures.files c.in_ok-model.ensures.later c.in_ok-model.ensures.few c.in_ok-model.ensures.said c.in_err-other.ensures.cause)

pub returns-clause-read : goal.returns-clause-read
returns-clause-read g c =
    both_read (wires_by c.args.parities) c.in_ok-model.model c.in_ok-other.other c.args.first.now c.args.second.now (g.S.Shelf.files c.args.shelf.now) (g.S.Shelf.files c.read_fitting.new.shelf) c.in_ok-model.ensures.files c.in_ok-model.ensures.few c.in_ok-other.ensures.few
    c.in_ok-model.ensures.said c.in_ok-other.ensures.said

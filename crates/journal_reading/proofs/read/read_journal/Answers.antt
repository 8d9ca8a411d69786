use Rattle.journal_reading.proofs.Wholes.{only_fault, only_records}
use Rattle.journal_reading.proofs.read.read_journal.Goals as goal

pub returns-clause-journal : goal.returns-clause-journal
returns-clause-journal c b rs j =
    only_records c.args.text.now (λ p. p.0) (λ p. p.1.items) c.read_whole.result b rs c.journals_are_one.ensures c.read_whole.ensures.read c.read_whole.ensures.refused j

pub returns-clause-faulty : goal.returns-clause-faulty
returns-clause-faulty c f is =
    only_fault c.args.text.now (λ p. p.0) (λ p. p.1.items) c.read_whole.result f c.journals_are_one.ensures c.faults_are_one.ensures c.read_whole.ensures.read c.read_whole.ensures.refused is

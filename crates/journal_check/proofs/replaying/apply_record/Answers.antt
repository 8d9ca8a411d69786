use Rattle.std.proofs.Common.{subst, sym}
use Rattle.journal_text.specs.declared.record.Record.{Record}
use Rattle.journal_check.specs.Inner.ReplayStates.{RecordSays, position_of}
use Rattle.journal_check.proofs.replaying.apply_record.Goals as goal

pub returns-in-Step-clause-says : goal.returns-in-Step-clause-says
returns-in-Step-clause-says c =
    subst (λ (r : Record). RecordSays c.args.budget (position_of c.args.state) r (position_of c.edit.result.0) c.edit.result.1) (sym c.in-Step.is) (c.edit.ensures.says c.args.budget)

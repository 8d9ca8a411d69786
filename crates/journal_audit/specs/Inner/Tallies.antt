-- What was read of records.
use Rattle.std.specs.Prelude.{◌≡◌, ℕ, List, length}
use Rattle.rm_model.specs.declared.parts.Model.{Model}
use Rattle.gate_net.specs.Net.{Net}
use Rattle.journal_text.specs.declared.record.Record.{Record}
use Rattle.journal_check.specs.Accepts.{IsAccepted}
use Rattle.journal_audit.specs.Judging.{IsAcceptedText}
use Rattle.journal_audit.specs.Verdicts.{said_in, said_of}
use Rattle.journal_audit.specs.declared.tally.Tally.{Tally}

-- so many records, with these verdicts
pub record IsTally (records : List Record) (t : Tally) : Type 0 where
  pub counts : t.count ≡ length records
  pub said : said_in t.verdicts ≡ said_of records

-- the text is an accepted journal of such records
pub record IsAcceptedWith (m : Model) (text : List ℕ) (last : Net) (t : Tally) : Type 0 where
  pub accepted : IsAcceptedText m text last t.count
  pub said : said_in t.verdicts ≡ said_of accepted.records

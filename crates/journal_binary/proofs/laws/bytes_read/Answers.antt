use Rattle.journal_binary.proofs.ItemBytes.{body_read, record_read}
use Rattle.journal_binary.proofs.Heads.{body_spelled}
use Rattle.journal_binary.proofs.Spelled.{record_spelled}
use Rattle.journal_binary.proofs.laws.bytes_read.Goals as goal

pub returns : goal.returns
returns c = record {
  reads = record_read;
  only = λ bytes rest r ok e. (let s = record_spelled bytes rest r ok e in (s.is, s.fits));
  texts = body_read;
  texts_only = body_spelled;
}

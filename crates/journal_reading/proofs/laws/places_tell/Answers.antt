use Rattle.journal_reading.proofs.Places.{places_tell}
use Rattle.journal_reading.proofs.laws.places_tell.Goals as goal

pub returns : goal.returns
returns c = places_tell c.cuts_agree.ensures

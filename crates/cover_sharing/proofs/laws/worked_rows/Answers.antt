use Rattle.std.proofs.Common.{refl}
use Rattle.cover_sharing.proofs.laws.worked_rows.Goals as goal

pub returns : goal.returns
returns c = refl

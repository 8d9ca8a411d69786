use Rattle.sewing.proofs.Stages.{parts-follow}
use Rattle.sewing.proofs.laws.parts_follow.Goals as goal

pub returns : goal.returns
returns c = parts-follow

use Rattle.window_cut.proofs.Levels.{levelled_of, level_of}
use Rattle.window_cut.proofs.laws.ranked_models_have_levels.Goals as goal

pub returns : goal.returns
returns c = λ m formed ranked. (level_of m, levelled_of m ((c.ranks_exist.ensures.ranked m formed.driven_once).0 ranked) (c.ranks_follow.ensures.length m) (c.ranks_follow.ensures.small m) (c.ranks_exist.ensures.lower m))

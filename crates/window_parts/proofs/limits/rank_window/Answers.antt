use Rattle.std.proofs.Common.{◌≡◌, ◌<◌, ◌+◌, length, subst, sym}
use Rattle.std.specs.Prelude.{None}
use Rattle.rm_model.specs.Ranks.{first_without_rank}
use Rattle.rm_model.specs.Value.{source_names}
use Rattle.rm_model.specs.WellFormed.{IsWellFormed}
use Rattle.rm_model.specs.declared.parts.Model.{Model}
use Rattle.window_parts.proofs.Windows.{room_of}
use Rattle.window_parts.proofs.limits.rank_window.Goals as goal

pub rank_model-requires-clause-formed : goal.rank_model-requires-clause-formed
rank_model-requires-clause-formed c = subst (λ (m : Model). IsWellFormed m) (sym c.in_ok-copy.ensures) c.requires.standalone.formed

pub rank_model-requires-clause-ranked : goal.rank_model-requires-clause-ranked
rank_model-requires-clause-ranked c =
    subst (λ (m : Model). first_without_rank m ≡ None) (sym c.in_ok-copy.ensures) ((c.ranks_exist.ensures.ranked c.args.window.now c.requires.standalone.formed.driven_once).0 c.requires.standalone.ranked)

pub rank_model-requires-clause-room : goal.rank_model-requires-clause-room
rank_model-requires-clause-room c =
    subst (λ (m : Model). length (source_names m) + length m.covers < 4294967296) (sym c.in_ok-copy.ensures) (room_of c.args.window.now c.requires.standalone c.requires.few)

use Rattle.std.proofs.Common.{◌∙◌, ap, sym}
use Rattle.std.specs.Prelude.{is_none, position}
use Rattle.blif_format.specs.FirstFault.{first_unranked}
use Rattle.blif_reader.proofs.Public.{all_ranked, none_unranked}
use Rattle.blif_flatten.proofs.reading.check_ranks.Goals as goal

pub returns-clause-ranked : goal.returns-clause-ranked
returns-clause-ranked c = (c.ranks_exist.ensures.ranked c.args.model.now c.requires.formed.driven_once).1 (ap (position is_none) (sym c.in-Ok.ensures.ranks) ∙ none_unranked c.in-Ok.ranks.items)

pub returns-clause-ok : goal.returns-clause-ok
returns-clause-ok c = ap (first_unranked c.args.places.now) (sym c.in-Ok.ensures.ranks) ∙ all_ranked c.args.places.now c.in-Ok.ranks.items

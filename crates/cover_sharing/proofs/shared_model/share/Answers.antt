use Rattle.std.proofs.Common.{◌≡◌, List, subst, sym, true}
use Rattle.rm_model.specs.Value.{outputs_of, source_names}
use Rattle.rm_model.specs.WellFormed.{is_distinct}
use Rattle.rm_model.specs.declared.parts.Cover.{Cover}
use Rattle.rm_model.proofs.Public.{distinct-right}
use Rattle.cover_sharing.proofs.shared_model.share.Goals as goal

pub shared_covers-requires : goal.shared_covers-requires
shared_covers-requires c = record {
  once = subst (λ (cs : List Cover). is_distinct (outputs_of cs) ≡ true) (sym c.items.ensures) (distinct-right (source_names c.args.model.now) (outputs_of c.args.model.now.covers) c.requires.formed.driven_once);
}

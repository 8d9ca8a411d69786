use Rattle.std.proofs.Common.{List, ap, map, ◌++◌, ◌∙◌}
use Rattle.rm_model.specs.WellFormed.{is_distinct}
use Rattle.rm_model.specs.declared.parts.Cover.{Cover}
use Rattle.rm_model.proofs.NameLemmas.{distinct-left}
use Rattle.rm_model.proofs.numbering.signal_table.Goals as goal
use Rattle.rm_base.specs.Words.{Word}

pub add_sources-requires : goal.add_sources-requires
add_sources-requires c = ap (λ (t : List Word). is_distinct (t ++ c.args.sources.now)) c.new-table.ensures ∙ distinct-left c.args.sources.now (map (λ (k : Cover). k.output) c.args.covers.now) c.requires

use Rattle.std.proofs.Common.{◌∙◌, ◌++◌, map}
use Rattle.rm_model.specs.declared.parts.Cover.{Cover}
use Rattle.graph_to_model.proofs.Making.{copies_had}
use Rattle.graph_to_model.proofs.copies.copies_beside.Goals as goal

pub returns : goal.returns
returns c = c.in_ok-covers.ensures ∙ copies_had c.args.names.now c.in_ok-had.had (c.args.sources.now ++ map (λ (k : Cover). k.output) c.args.gates.now) c.in_ok-had.ensures c.args.nodes.now c.args.observed.now

use Rattle.std.proofs.Common.{◌≡◌, ◌∙◌, sym, ap, false}
use Rattle.rm_model.specs.Value.{is_among}
use Rattle.graph_to_model.proofs.Making.{name_covered}
use Rattle.graph_to_model.proofs.copies.cover_name.Goals as goal
use Rattle.rm_base.specs.Words.{Word}

pub returns : goal.returns
returns c =
    let absent : is_among c.args.had.now c.args.name.now ≡ false = ap (λ (x : Word). is_among c.args.had.now x) (sym c.items.ensures) ∙ (sym c.has.ensures ∙ c.if-has.false) in
    name_covered c.args.names.now c.args.had.now c.include.new.self c.args.name.now c.items-2.result.now c.args.node c.args.covers.now.items c.push.new.self.items c.in_ok-copy_cover.field-0
    absent c.in_ok-include.ensures c.items-2.ensures c.in_ok-push.ensures.items c.in_ok-copy_cover.ensures

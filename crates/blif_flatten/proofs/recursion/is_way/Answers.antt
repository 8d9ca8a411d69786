use Rattle.std.proofs.Common.{◌≢◌, [], ◌∙◌, sym, rules}
use Rattle.blif_flatten.proofs.Levels.{way-leads, first-is}
use Rattle.blif_flatten.proofs.recursion.is_way.Goals as goal

pub returns : goal.returns
returns c = λ e.
    let some : c.args.path.now ≢ [] = first_of (search (rules, c.is_empty.ensures, c.if-is_empty.false), grind (c.is_empty.ensures, c.if-is_empty.false)) in
    way-leads c.args.modules.now c.args.path.now c.args.from c.args.to c.if-path-modules.false (first-is c.args.path.now c.args.from some c.if-path-from.false) (sym c.is_path.ensures ∙ e)

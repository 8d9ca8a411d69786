use Rattle.blif_flatten.proofs.Lines.{interface-of}
use Rattle.std.proofs.Common.{[]}
use Rattle.blif_flatten.proofs.interfaces.interface_of.Goals as goal

pub returns : goal.returns
returns c = interface-of c.include_lines-2.new.formals c.include_lines-3.new.formals c.args.text.now c.args.section.now c.items-body.result.now c.items-body.ensures
    (c.in_ok-include_lines-2.ensures _ (c.in_ok-include_lines.ensures [] c.no_formals-inward.ensures)) (c.in_ok-include_lines-3.ensures [] c.no_formals-outputs.ensures)

use Rattle.std.proofs.Common.{◌≡◌, ◌++◌, take, map}
use Rattle.rm_model.specs.Words.{literal_byte}
use Rattle.blif_writer.proofs.parts.put_literals.Given as goal

abbrev pub invariant-loop-literal : goal.invariant-loop-literal
invariant-loop-literal l = l.out.items ≡ l.initial.out.items ++ map literal_byte (take l.literal-index l.row)

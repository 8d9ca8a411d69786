use Rattle.std.proofs.Common.{◌≡◌, ◌++◌, drop}
use Rattle.diagnostics.specs.Messages.{parts_text}
use Rattle.diagnostics.proofs.parts.push_parts.Given as goal

abbrev pub invariant-loop-part : goal.invariant-loop-part
invariant-loop-part l = l.out.items ++ parts_text l.colours (drop l.part-index l.parts) ≡ l.initial.out.items ++ parts_text l.colours l.parts

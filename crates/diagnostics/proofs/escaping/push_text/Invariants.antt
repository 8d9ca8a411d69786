use Rattle.std.proofs.Common.{◌≡◌, ◌++◌, drop}
use Rattle.diagnostics.specs.Escaping.{in_lines}
use Rattle.diagnostics.proofs.escaping.push_text.Given as goal

abbrev pub invariant-loop-byte : goal.invariant-loop-byte
invariant-loop-byte l = l.out.items ++ in_lines (drop l.byte-index l.text) ≡ l.initial.out.items ++ in_lines l.text

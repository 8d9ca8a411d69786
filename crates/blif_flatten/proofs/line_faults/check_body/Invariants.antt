use Rattle.std.proofs.Common.{◌≡◌, drop}
use Rattle.blif_flatten.specs.LineFaults.{body_fault, nothing_said}
use Rattle.blif_flatten.specs.Inner.Tokens.{lines_at}
use Rattle.blif_flatten.specs.Inner.Said.{said_of}
use Rattle.blif_flatten.proofs.line_faults.check_body.Given as goal

abbrev pub invariant-loop-line : goal.invariant-loop-line
invariant-loop-line l = body_fault nothing_said (lines_at l.text l.lines) ≡ body_fault (said_of l.body) (lines_at l.text (drop l.line-index l.lines))

use Rattle.std.proofs.Common.{◌≡◌, ◌+◌, ℕ, List, length, drop}
use Rattle.blif_flatten.specs.Sections.{token_count}
use Rattle.blif_flatten.specs.Inner.Tokens.{lines_at}
use Rattle.blif_flatten.proofs.models.count_tokens.Given as goal

abbrev pub invariant-loop-line : goal.invariant-loop-line
invariant-loop-line l = (text : List ℕ) → l.count + token_count (lines_at text (drop l.line-index l.body)) ≡ length l.title + token_count (lines_at text l.body)

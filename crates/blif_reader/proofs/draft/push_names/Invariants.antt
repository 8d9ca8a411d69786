use Rattle.std.proofs.Common.{◌≡◌, ◌++◌, take}
use Rattle.blif_reader.specs.Lines.{words_at}
use Rattle.blif_reader.proofs.draft.push_names.Given as goal

abbrev pub invariant-loop-token : goal.invariant-loop-token
invariant-loop-token l = l.names ≡ l.initial.names ++ words_at l.text (take l.token-index l.words)

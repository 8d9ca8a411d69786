use Rattle.std.proofs.Common.{◌≡◌, ◌==◌, drop}
use Rattle.std.specs.List.{list_any}
use Rattle.blif_flatten.specs.declared.modules.Link.{Link}
use Rattle.blif_flatten.specs.Inner.Ranks.{calls_one}
use Rattle.blif_flatten.proofs.paths.calls.Given as goal

abbrev pub invariant-loop-link : goal.invariant-loop-link
invariant-loop-link l = calls_one l.modules l.caller l.called ≡ list_any (λ (k : Link). k.called == l.called) (drop l.link-index l.link-items)

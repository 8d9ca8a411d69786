use Rattle.std.proofs.Common.{◌≡◌, ◌++◌, List, drop}
use Rattle.std.specs.List.{flat_map}
use Rattle.blif_flatten.specs.declared.modules.Module.{Module}
use Rattle.blif_flatten.specs.CallFaults.{line_uses}
use Rattle.blif_flatten.specs.Inner.Interfaces.{IsCallable}
use Rattle.blif_flatten.specs.Inner.Uses.{uses_at}
use Rattle.blif_flatten.specs.Inner.Tokens.{lines_at}
use Rattle.blif_flatten.proofs.uses.uses_of.Given as goal

abbrev pub invariant-loop-line : goal.invariant-loop-line
invariant-loop-line l = (l.line-items ≡ l.section.body) × ((modules : List Module) → IsCallable l.callable modules
    → uses_at l.uses.items ++ flat_map (line_uses modules) (lines_at l.text (drop l.line-index l.section.body)) ≡ flat_map (line_uses modules) (lines_at l.text l.section.body))

use Rattle.std.proofs.Common.{◌≡◌, ◌++◌, List, drop}
use Rattle.std.specs.List.{filter_map}
use Rattle.blif_flatten.specs.declared.modules.Module.{Module}
use Rattle.blif_flatten.specs.Calls.{call_of}
use Rattle.blif_flatten.specs.Instances.{link_of}
use Rattle.blif_flatten.specs.Inner.Interfaces.{IsCallable}
use Rattle.blif_flatten.specs.Inner.Tokens.{lines_at}
use Rattle.blif_flatten.proofs.links.links_of.Given as goal

abbrev pub invariant-loop-line : goal.invariant-loop-line
invariant-loop-line l = (l.line-items ≡ l.section.body) × ((modules : List Module) → IsCallable l.callable modules
    → l.links ++ filter_map (link_of modules) (filter_map call_of (lines_at l.text (drop l.line-index l.section.body))) ≡ filter_map (link_of modules) (filter_map call_of (lines_at l.text l.section.body)))

use Rattle.std.proofs.Common.{◌≡◌, drop, nat_eq}
use Rattle.std.specs.List.{list_any, starts_with}
use Rattle.graph_to_model.proofs.prefix.begins_any.Given as goal

abbrev pub invariant-loop-name : goal.invariant-loop-name
invariant-loop-name l = list_any (λ x. starts_with nat_eq x l.prefix) l.names ≡ list_any (λ x. starts_with nat_eq x l.prefix) (drop l.name-index l.names)

-- An edit of a graph makes the change of its net.
use Rattle.std.proofs.Common.{◌≡◌, ◌≢◌, ℕ, suc, ◌+◌, ◌<◌, ◌≤◌, inl, inr, Option, Some, None, List, [], ◌∷◌, length, sym, ◌∙◌, ap, arith}
use Rattle.std.specs.Prelude.{slice_get, slice_set}
use Rattle.std.proofs.lemmas.Bool.{cases_eq, cases_order}
use Rattle.gate_net.specs.declared.Kind.{Kind}
use Rattle.gate_net.specs.Net.{Node, Net, node_at, flatten_option, before_dead, trimmed, IsWellFormed}
use Rattle.gate_net.specs.Edits.{constant_node, DiffersAt, MakesGate}
use Rattle.gate_graph.specs.Circuit.{Circuit, net_of, free_pins, free_nodes}
use Rattle.gate_graph.specs.Changes.{CanEdit, Edits}
use Rattle.wire_edit.specs.Changes.{Change, append, remove, fix, readers, new_not, retire, to_not, changed, with_least_free, with_new_not, without_node}
use Rattle.wire_edit.specs.Inner.Changes.{CanChange, least_free, pins_added, nodes_added}
use Rattle.wire_edit.specs.Edited.{edit_of}
use Rattle.wire_edit.proofs.Canonical.{least_is_free, below_is_live, least-there, least-other, gone-other, gone-there, same_nodes, canonical_least, canonical_trimmed}
use Rattle.wire_edit.proofs.Conditions.{to_constant}

pub can_edit : (v : Circuit) (change : Change) → IsWellFormed (net_of v) → CanChange (net_of v) change → pins_added change ≤ free_pins v → nodes_added change ≤ free_nodes v → CanEdit v (edit_of change)
can_edit v (append gate driver) well (j, (live, (ne, apart))) pins free = (j, (live, (ne, (apart, pins))))
can_edit v (remove gate position) well can pins free = can
can_edit v (fix gate position value) well (g, lt) pins free =
    let c : CanChange (net_of v) (readers gate (constant_node value)) = to_constant (net_of v) well gate g value in
    (lt, (c.1.0, (c.1.1.0, c.1.1.1)))
can_edit v (readers from to) well can pins free = can
can_edit v (new_not driver) well live pins free = (live, (pins, free))
can_edit v (retire gate) well can pins free = can
can_edit v (to_not gate position) well can pins free = can

same_net : (n m : Net) → n.nodes ≡ m.nodes → n.observed ≡ m.observed → n ≡ m
same_net n m a b =
    ap (λ (ns : List (Option Node)). let r : Net = record { nodes = ns; observed = n.observed } in r) a
    ∙ ap (λ (os : List ℕ). let r : Net = record { nodes = m.nodes; observed = os } in r) b

least_is : (net : Net) (x : ℕ) → node_at net x ≡ None → ((m : ℕ) → m < x → node_at net m ≢ None) → x ≡ least_free net.nodes
least_is net x free least = elim (cases_order x (least_free net.nodes)) [
  | inl same ↦ same
  | inr (inl below) ↦ absurd (below_is_live net.nodes x below free)
  | inr (inr above) ↦ absurd (least (least_free net.nodes) above (least_is_free net.nodes))
]

made_net : (v w : Circuit) (driver node : ℕ) (kind : Kind) → IsWellFormed (net_of v) → IsWellFormed (net_of w) → MakesGate (net_of v) (net_of w) kind (driver ∷ []) node → (net_of w).nodes ≡ with_least_free (net_of v).nodes (record { kind = kind; drivers = driver ∷ [] })
made_net v w driver node kind well well' m =
    same_nodes (net_of w).nodes (with_least_free (net_of v).nodes n) well'.canonical (canonical_least (net_of v).nodes n well.canonical) same
  where
    n : Node
    n = record { kind = kind; drivers = driver ∷ [] }

    is : node ≡ least_free (net_of v).nodes
    is = least_is (net_of v) node m.number.free m.number.least

    same : (x : ℕ) → node_at (net_of w) x ≡ flatten_option (slice_get (with_least_free (net_of v).nodes n) x)
    same x = elim (cases_eq x node) [
      | inl e ↦ ap (node_at (net_of w)) e ∙ m.made ∙ sym (ap (λ y. flatten_option (slice_get (with_least_free (net_of v).nodes n) y)) (e ∙ is) ∙ least-there (net_of v).nodes n)
      | inr ne ↦ m.differs.others x ne ∙ sym (least-other (net_of v).nodes n x (λ e. ne (e ∙ sym is)))
    ]

gone_net : (v w : Circuit) (gate : ℕ) → IsWellFormed (net_of w) → DiffersAt (net_of v) (net_of w) gate → node_at (net_of w) gate ≡ None → (net_of w).nodes ≡ trimmed (slice_set (net_of v).nodes gate None)
gone_net v w gate well' d none =
    same_nodes (net_of w).nodes (trimmed (slice_set (net_of v).nodes gate None)) well'.canonical (canonical_trimmed (slice_set (net_of v).nodes gate None)) same
  where
    same : (x : ℕ) → node_at (net_of w) x ≡ flatten_option (slice_get (trimmed (slice_set (net_of v).nodes gate None)) x)
    same x = elim (cases_eq x gate) [
      | inl e ↦ ap (node_at (net_of w)) e ∙ none ∙ sym (ap (λ y. flatten_option (slice_get (trimmed (slice_set (net_of v).nodes gate None)) y)) e ∙ gone-there (net_of v).nodes gate)
      | inr ne ↦ d.others x ne ∙ sym (gone-other (net_of v).nodes gate x ne)
    ]

pub edited_net : (v w : Circuit) (change : Change) → IsWellFormed (net_of v) → IsWellFormed (net_of w) → Edits v (edit_of change) w → net_of w ≡ changed (net_of v) change
edited_net v w (append gate driver) well well' e = e.0
edited_net v w (remove gate position) well well' e = e.0
edited_net v w (fix gate position value) well well' e = e.0
edited_net v w (readers from to) well well' e = e.0
edited_net v w (new_not driver) well well' e = same_net (net_of w) (with_new_not (net_of v) driver) (made_net v w driver e.0.0 _ well well' e.0.1.0) e.0.1.0.differs.observed
edited_net v w (retire gate) well well' e = same_net (net_of w) (without_node (net_of v) gate) (gone_net v w gate well' e.0.0 e.0.1) e.0.0.observed
edited_net v w (to_not gate position) well well' e = e.0

-- what is free of pins and nodes afterwards
pub edited_room : (v w : Circuit) (change : Change) → Edits v (edit_of change) w → (free_pins w + pins_added change ≡ free_pins v) × (free_nodes v ≤ free_nodes w + nodes_added change)
edited_room v w (append gate driver) e = (e.1.1.pins_left, omega (arith, e.1.1.nodes_left))
edited_room v w (remove gate position) e = (e.1.1.pins_left, omega (arith, e.1.1.nodes_left))
edited_room v w (fix gate position value) e = (e.1.1.pins_left, omega (arith, e.1.1.nodes_left))
edited_room v w (readers from to) e = (e.1.1.pins_left, omega (arith, e.1.1.nodes_left))
edited_room v w (new_not driver) e = (e.1.pins_left, omega (arith, e.1.nodes_left))
edited_room v w (retire gate) e = (omega (arith, e.1.1.pins_left), omega (arith, e.1.1.nodes_left))
edited_room v w (to_not gate position) e = (e.1.1.pins_left, omega (arith, e.1.1.nodes_left))

-- NODES AND THEIR ROOM
length_before : (o : Option Node) (os : List (Option Node)) → length (before_dead o os) ≤ suc (length os)
length_before None [] = omega arith
length_before None (p ∷ os) = omega arith
length_before (Some n) os = omega arith

pub length_trimmed : (os : List (Option Node)) → length (trimmed os) ≤ length os
length_trimmed [] = omega arith
length_trimmed (o ∷ os) =
    let rest : length (trimmed os) ≤ length os = length_trimmed os in
    let here : length (before_dead o (trimmed os)) ≤ suc (length (trimmed os)) = length_before o (trimmed os) in
    omega (arith, rest, here)

-- A change keeps the net well formed.
use Rattle.std.proofs.Common.{◌≡◌, ◌≢◌, ℕ, zero, suc, ◌+◌, ◌<◌, Bool, inl, inr, Some, None, List, [], ◌∷◌, ◌++◌, refl, subst, sym, ◌∙◌, ap, arith}
use Rattle.std.specs.Prelude.{slice_get, slice_set}
use Rattle.std.proofs.lemmas.Bool.Decides.{eqb_tells}
use Rattle.gate_net.proofs.Public.{fixes_keep_acyclic, moves_keep_acyclic, pins_keep_acyclic, redriven_node, with_node-other, with_node-there}
use Rattle.gate_net.specs.declared.Kind.{Kind}
use Rattle.gate_net.specs.declared.Kind.TheVariants.{Not, Xor}
use Rattle.rm_base.specs.declared.numbers.Fault.{Fault}
use Rattle.gate_net.specs.Net.{Node, Net, node_at, drivers_in, drivers_of, Reads, IsLive, IsGate, IsAcyclic, IsWellFormed, source_in, source_count}
use Rattle.gate_net.specs.Values.{controlling}
use Rattle.gate_net.specs.Edits.{constant_node, with_node, without, without_pin, IsUnread, DiffersAt}
use Rattle.gate_net.specs.Inner.Edits.{constant_kind}
use Rattle.wire_edit.specs.Changes.{Change, append, remove, fix, readers, new_not, retire, to_not, changed, with_new_not, without_node}
use Rattle.wire_edit.specs.Inner.Changes.{CanChange, least_free}
use Rattle.wire_edit.proofs.Totals.{total_least, total_gone}
use Rattle.wire_edit.proofs.Canonical.{canonical_least, canonical_trimmed, least_is_free, least-there, least-other, gone-other, gone-there}
use Rattle.wire_edit.proofs.Conditions.{same_kind, constant_is}
use Rattle.wire_edit.proofs.Plain.{some_none, source_weight, gate_weight}
use Rattle.wire_edit.proofs.Redriven.{node_formed, with_formed}
use Rattle.wire_edit.proofs.Tested.{junction_kind}
use Rattle.wire_edit.proofs.XorPins.{xor_pin}
use Rattle.wire_edit.proofs.MovedForm.{moved_formed}
use Rattle.wire_edit.proofs.Apart.{apart_acyclic}
use Rattle.wire_edit.proofs.ApartForm.{apart_formed}
use Rattle.rm_base.proofs.Public.{last_cases, only_stands, set_cases, stands_below}

pub without_before : (ds : List ℕ) (p q x : ℕ) → slice_get (without ds p) q ≡ Some x → (k : ℕ) × (slice_get ds k ≡ Some x)
without_before [] p q x e = (q, e)
without_before (d ∷ ds) zero q x e = (suc q, e)
without_before (d ∷ ds) (suc p) zero x e = (0, e)
without_before (d ∷ ds) (suc p) (suc q) x e = let rest : (k : ℕ) × (slice_get ds k ≡ Some x) = without_before ds p q x e in (suc rest.0, rest.1)

-- a node that reads nothing but what it read leaves the net acyclic
node_acyclic : (net : Net) (gate : ℕ) (n new : Node) → node_at net gate ≡ Some n → ((q x : ℕ) → slice_get new.drivers q ≡ Some x → (k : ℕ) × Reads net gate k x) → IsAcyclic net → IsAcyclic (with_node net gate new)
node_acyclic net gate n new is old acyclic = (acyclic.0, step)
  where
    step : (y q x : ℕ) → Reads (with_node net gate new) y q x → acyclic.0 x < acyclic.0 y
    step y q x reads = elim (eqb_tells y gate) [
      | inl t ↦
          let there : Reads (with_node net gate new) gate q x = rw t.1 at reads in
          let now : slice_get new.drivers q ≡ Some x = ap (λ o. slice_get (drivers_in o) q) (sym (with_node-there net gate new n is)) ∙ there in
          let k : (k : ℕ) × Reads net gate k x = old q x now in
          rw t.1 (acyclic.1 gate k.0 x k.1)
      | inr t ↦ acyclic.1 y q x (ap (λ o. slice_get (drivers_in o) q) (sym (with_node-other net gate new y t.1)) ∙ reads)
    ]

without_acyclic : (net : Net) (gate p : ℕ) (n : Node) → node_at net gate ≡ Some n → IsAcyclic net → IsAcyclic (without_pin net gate p)
without_acyclic net gate p n is acyclic =
    subst (λ (m : Net). IsAcyclic m) (sym (redriven_node net gate (without (drivers_of net gate) p) n is))
    (node_acyclic net gate n (record n { drivers = without (drivers_of net gate) p }) is (λ q x e. without_before (drivers_of net gate) p q x e) acyclic)

pub control_not : (kind : Kind) (c : Bool) → controlling kind ≡ Some c → kind ≡ Not → ⊥
control_not kind c e is = let wrong : controlling Not ≡ Some c = rw is at e in cc

control_xor : (kind : Kind) (c : Bool) → controlling kind ≡ Some c → kind ≡ Xor → ⊥
control_xor kind c e is = let wrong : controlling Xor ≡ Some c = rw is at e in cc

alive : (net : Net) (x : ℕ) → IsLive net x → node_at net x ≢ None
alive net x live e = some_none (sym live.1.1 ∙ e)

set_one : (ds : List ℕ) (p c d : ℕ) → ds ≡ d ∷ [] → (e : ℕ) × (slice_set ds p c ≡ e ∷ [])
set_one [] p c d is = cc
set_one (x ∷ []) zero c d is = (c, refl)
set_one (x ∷ []) (suc p) c d is = (x, refl)
set_one (x ∷ y ∷ ds) p c d is = cc

set_two : (ds : List ℕ) (p c d e : ℕ) → ds ≡ d ∷ e ∷ [] → (x y : ℕ) × (slice_set ds p c ≡ x ∷ y ∷ [])
set_two [] p c d e is = cc
set_two (x ∷ []) p c d e is = cc
set_two (x ∷ y ∷ []) zero c d e is = (c, y, refl)
set_two (x ∷ y ∷ []) (suc zero) c d e is = (x, c, refl)
set_two (x ∷ y ∷ []) (suc (suc p)) c d e is = (x, y, refl)
set_two (x ∷ y ∷ z ∷ ds) p c d e is = cc

pub new_differs : (net : Net) (driver : ℕ) → DiffersAt net (with_new_not net driver) (least_free net.nodes)
new_differs net driver = record { others = λ y ne. least-other net.nodes (record { kind = Not; drivers = driver ∷ [] }) y ne; observed = refl }

pub gone_differs : (net : Net) (gate : ℕ) → DiffersAt net (without_node net gate) gate
gone_differs net gate = record { others = λ y ne. gone-other net.nodes gate y ne; observed = refl }

pub free_unread : (net : Net) (x : ℕ) → IsWellFormed net → node_at net x ≡ None → IsUnread net x
free_unread net x well free = record { unread = λ y p reads. well.drivers_live y p x reads free; unobserved = λ k. well.observed_live x k free }

new_formed : (net : Net) (driver : ℕ) → IsWellFormed net → IsLive net driver → IsWellFormed (with_new_not net driver)
new_formed net driver well live =
    apart_formed net after new well (new_differs net driver) unread (λ kind is. absurd (free (alive net new (kind, is)))) (λ kind is. let e : Not ≡ kind = same_kind after new Not kind (driver ∷ [], made) is in rw (sym e) tt)
    count (apart_acyclic net after new (suc (well.acyclic.0 driver)) well.acyclic (new_differs net driver) unread low)
    (λ p x reads. let l : x ≡ driver = only p x reads in (λ e. free' (sym l ∙ e), rw l (alive net driver live)))
    (λ is. (driver, ap drivers_in made)) (λ is. let wrong : Not ≡ Xor = same_kind after new Not Xor (driver ∷ [], made) is in cc) (canonical_least net.nodes n well.canonical)
  where
    n : Node
    n = record { kind = Not; drivers = driver ∷ [] }

    after : Net
    after = with_new_not net driver

    new : ℕ
    new = least_free net.nodes

    dead : node_at net new ≡ None
    dead = least_is_free net.nodes

    free : node_at net new ≢ None → ⊥
    free h = h dead

    free' : driver ≡ new → ⊥
    free' e = alive net driver live (rw e dead)

    unread : IsUnread net new
    unread = free_unread net new well dead

    made : node_at after new ≡ Some n
    made = least-there net.nodes n

    only : (p x : ℕ) → Reads after new p x → x ≡ driver
    only p x reads = only_stands driver p x (ap (λ o. slice_get (drivers_in o) p) (sym made) ∙ reads)

    low : (p z : ℕ) → Reads after new p z → (z ≢ new) × (well.acyclic.0 z < suc (well.acyclic.0 driver))
    low p z reads = let l : z ≡ driver = only p z reads in (λ e. free' (sym l ∙ e), rw l (omega arith))

    count : source_count after ≡ source_count net
    count = let e : source_count after ≡ source_count net + 0 = total_least source_weight refl net.nodes n in omega arith

gone_formed : (net : Net) (gate : ℕ) → IsWellFormed net → IsGate net gate → IsUnread net gate → IsWellFormed (without_node net gate)
gone_formed net gate well g unread =
    apart_formed net after gate well (gone_differs net gate) unread
    (λ kind is. let e : g.0 ≡ kind = same_kind net gate g.0 kind g.1.0 is in rw e at g.1.1)
    (λ kind is. absurd (some_none (sym is.1 ∙ gone)))
    count
    (apart_acyclic net after gate 0 well.acyclic (gone_differs net gate) unread (λ p z reads. absurd (none p z reads)))
    (λ p x reads. absurd (none p x reads))
    (λ is. absurd (some_none (sym is.1 ∙ gone)))
    (λ is. absurd (some_none (sym is.1 ∙ gone)))
    (canonical_trimmed (slice_set net.nodes gate None))
  where
    after : Net
    after = without_node net gate

    gone : node_at after gate ≡ None
    gone = gone-there net.nodes gate

    none : (p x : ℕ) → Reads after gate p x → ⊥
    none p x reads = let there : slice_get {X = ℕ} [] p ≡ Some x = ap (λ o. slice_get (drivers_in o) p) (sym gone) ∙ reads in cc

    count : source_count after ≡ source_count net
    count =
        let e : source_count after + source_weight (Some (record { kind = g.0; drivers = g.1.0.0 })) ≡ source_count net = total_gone source_weight refl net gate (record { kind = g.0; drivers = g.1.0.0 }) g.1.0.1 in
        let z : source_in g.0 ≡ 0 = gate_weight g.0 g.1.1 in
        omega arith

pub changes_keep_form : (net : Net) (change : Change) → IsWellFormed net → CanChange net change → IsWellFormed (changed net change)
changes_keep_form net (append gate driver) well (j, (live, (ne, apart))) =
    let g : IsGate net gate = junction_kind net gate j.0 j.1 in
    with_formed net gate (drivers_of net gate ++ driver ∷ []) well g (pins_keep_acyclic net gate driver well.acyclic (j.1.0, j.1.1.0) ne apart)
    (λ p x e. elim (last_cases (drivers_of net gate) driver p x e) [ inl old ↦ well.drivers_live gate p x old | inr is ↦ rw is (alive net driver live) ])
    (λ e. absurd (control_not j.1.0 j.0 j.1.1.1 e)) (λ e. absurd (control_xor j.1.0 j.0 j.1.1.1 e))
changes_keep_form net (remove gate position) well (j, lt) =
    let g : IsGate net gate = junction_kind net gate j.0 j.1 in
    with_formed net gate (without (drivers_of net gate) position) well g (without_acyclic net gate position _ j.1.1.0.1 well.acyclic)
    (λ p x e. let old : (k : ℕ) × (slice_get (drivers_of net gate) k ≡ Some x) = without_before (drivers_of net gate) position p x e in well.drivers_live gate old.0 x old.1)
    (λ e. absurd (control_not j.1.0 j.0 j.1.1.1 e)) (λ e. absurd (control_xor j.1.0 j.0 j.1.1.1 e))
changes_keep_form net (fix gate position value) well (g, lt) =
    let fault : Fault = record { gate = record { 0 = gate }; position = position; value = value } in
    let d : (d : ℕ) × (slice_get (drivers_of net gate) position ≡ Some d) = stands_below (drivers_of net gate) position lt in
    with_formed net gate (slice_set (drivers_of net gate) position (constant_node value)) well g (fixes_keep_acyclic net fault d.0 well.constants d.1 well.acyclic)
    (λ p x e. elim (set_cases (drivers_of net gate) position p (constant_node value) x e) [
      | inl is ↦ rw is (alive net (constant_node value) (constant_kind value, constant_is net well.constants value))
      | inr old ↦ well.drivers_live gate p x old
    ])
    (λ e. let only : (d : ℕ) × (drivers_of net gate ≡ d ∷ []) = well.nots_have_one gate (rw e at g.1.0) in set_one (drivers_of net gate) position (constant_node value) only.0 only.1)
    (λ e. let two = well.xors_have_two gate (rw e at g.1.0) in set_two (drivers_of net gate) position (constant_node value) two.0 two.1 two.2)
changes_keep_form net (readers from to) well (g, (live, (ne, apart))) = moved_formed net from to well live (moves_keep_acyclic net from to well.acyclic ne apart)
changes_keep_form net (new_not driver) well live = new_formed net driver well live
changes_keep_form net (retire gate) well (g, unread) = gone_formed net gate well g unread
changes_keep_form net (to_not gate position) well (is, lt) =
    let d : (d : ℕ) × Reads net gate position d = stands_below (drivers_of net gate) position lt in
    let o = xor_pin net well gate position d.0 is d.1 in
    let new : Node = record { kind = Not; drivers = without (drivers_of net gate) position } in
    let old : (q x : ℕ) → slice_get new.drivers q ≡ Some x → (k : ℕ) × Reads net gate k x = λ q x e. without_before (drivers_of net gate) position q x e in
    node_formed net gate new well (Xor, (is, tt)) tt (node_acyclic net gate _ new is.1 old well.acyclic)
    (λ q x e. let k = old q x e in well.drivers_live gate k.0 x k.1) (λ e. (o.0, o.1.left)) (λ e. cc)

-- Kinds by node number.
use Rattle.std.proofs.Common.{◌≡◌, ◌≢◌, ℕ, ◌+◌, ◌<◌, ◌≤◌, List, length, Option, None, ◌⊎◌, ap, ◌∙◌, arith, inl, inr}
use Rattle.std.proofs.lemmas.Bool.{cases_eq, cases_lt}
use Rattle.std.proofs.lemmas.List.{get_or_past}
use Rattle.gate_net.specs.declared.Kind.{Kind}
use Rattle.pin_pool.proofs.Public.{changed-other, changed-same}
use Rattle.pin_pool.specs.Pins.{Pins}
use Rattle.pin_pool.specs.Rings.{Rings, rings_of, changed}
use Rattle.gate_graph.specs.Wirings.{Wiring, kind_at, wiring_of}
use Rattle.gate_graph.specs.Inner.Circuit.{kinds_live, kinds_dead}

pub kind-within : (kinds : List (Option Kind)) (n : ℕ) → kind_at kinds n ≢ None → n < length kinds
kind-within kinds n live = elim (cases_lt n (length kinds)) [
  | inl lt ↦ lt
  | inr le ↦ absurd (live (get_or_past kinds n None le))
]

pub wired-set : (kinds kinds' : List (Option Kind)) (v v' : Pins) (node : ℕ) (kind : Option Kind) (r : Rings) → ((u : Pins) → wiring_of kinds' u ≡ record { kind = changed (λ n. kind_at kinds n) node kind; rings = rings_of u }) → rings_of v' ≡ r → wiring_of kinds' v' ≡ record { kind = changed (λ n. kind_at kinds n) node kind; rings = r }
wired-set kinds kinds' v v' node kind r each e =
    each v' ∙ ap (λ (s : Rings). let w : Wiring = record { kind = changed (λ (n : ℕ). kind_at kinds n) node kind; rings = s } in w) e

pub live-set : (kinds kinds' : List (Option Kind)) (v : Pins) (node : ℕ) (kind : Option Kind) (least n : ℕ) → ((u : Pins) → wiring_of kinds' u ≡ record { kind = changed (λ n. kind_at kinds n) node kind; rings = rings_of u }) → kinds_live kinds least → n ≤ least → (n ≤ node) ⊎ (kind ≢ None) → kinds_live kinds' n
live-set kinds kinds' v node kind least n each live le or m h =
    let now : kind_at kinds' m ≡ changed (λ (n : ℕ). kind_at kinds n) node kind m = ap (λ (w : Wiring). w.kind m) (each v) in
    elim (cases_eq m node) [
      | inr ne ↦ rw (now, changed-other (λ (n : ℕ). kind_at kinds n) node kind m ne) (live m (omega arith))
      | inl is ↦ elim or [
        | inl le' ↦ absurd (omega arith)
        | inr some ↦ rw (now, is, changed-same (λ (n : ℕ). kind_at kinds n) node kind) some
      ]
    ]

pub live-next : (kinds kinds' : List (Option Kind)) (v : Pins) (node : ℕ) (kind : Option Kind) → ((u : Pins) → wiring_of kinds' u ≡ record { kind = changed (λ n. kind_at kinds n) node kind; rings = rings_of u }) → kinds_live kinds node → kind ≢ None → kinds_live kinds' (node + 1)
live-next kinds kinds' v node kind each live some m h =
    let now : kind_at kinds' m ≡ changed (λ (n : ℕ). kind_at kinds n) node kind m = ap (λ (w : Wiring). w.kind m) (each v) in
    elim (cases_eq m node) [
      | inr ne ↦ rw (now, changed-other (λ (n : ℕ). kind_at kinds n) node kind m ne) (live m (omega arith))
      | inl is ↦ rw (now, is, changed-same (λ (n : ℕ). kind_at kinds n) node kind) some
    ]

pub dead-set : (kinds kinds' : List (Option Kind)) (v : Pins) (node : ℕ) (kind : Option Kind) (bound n : ℕ) → ((u : Pins) → wiring_of kinds' u ≡ record { kind = changed (λ n. kind_at kinds n) node kind; rings = rings_of u }) → kinds_dead kinds bound → bound ≤ n → (node < n) ⊎ (kind ≡ None) → kinds_dead kinds' n
dead-set kinds kinds' v node kind bound n each dead le or m h =
    let now : kind_at kinds' m ≡ changed (λ (n : ℕ). kind_at kinds n) node kind m = ap (λ (w : Wiring). w.kind m) (each v) in
    elim (cases_eq m node) [
      | inr ne ↦ rw (now, changed-other (λ (n : ℕ). kind_at kinds n) node kind m ne) (dead m (omega arith))
      | inl is ↦ elim or [
        | inl below ↦ absurd (omega arith)
        | inr none ↦ rw (now, is, changed-same (λ (n : ℕ). kind_at kinds n) node kind) none
      ]
    ]

-- A node that is new or gone leaves the net well formed.
use Rattle.std.proofs.Common.{◌≡◌, ◌≢◌, ℕ, inl, inr, None, [], ◌∷◌, sym, ◌∙◌, ap}
use Rattle.std.specs.Prelude.{slice_get}
use Rattle.std.proofs.lemmas.Bool.Decides.{eqb_tells}
use Rattle.gate_net.specs.declared.Kind.{Kind}
use Rattle.gate_net.specs.declared.Kind.TheVariants.{Zero, One, Not, Xor}
use Rattle.gate_net.specs.Net.{Net, node_at, drivers_in, drivers_of, Reads, IsObserved, IsKind, IsGateKind, IsAcyclic, IsWellFormed, plain_node, source_count, trimmed}
use Rattle.gate_net.specs.Edits.{IsUnread, DiffersAt}
use Rattle.wire_edit.proofs.Plain.{KeepsPlain, plain_constants, plain_sources}

module _ (net after : Net) (gate : ℕ) (well : IsWellFormed net) (d : DiffersAt net after gate) (unread : IsUnread net gate) (no_plain : (kind : Kind) → IsKind net gate kind → IsGateKind kind) (no_plain_after : (kind : Kind) → IsKind after gate kind → IsGateKind kind) (count : source_count after ≡ source_count net) where
  keeps : KeepsPlain net after
  keeps = record { forth = forth; back = back; count = count }
    where
      forth : (x : ℕ) (kind : Kind) → node_at net x ≡ plain_node kind → (IsGateKind kind → ⊥) → node_at after x ≡ plain_node kind
      forth x kind is k = elim (eqb_tells x gate) [
        | inl t ↦ absurd (k (no_plain kind ([], rw t.1 at is)))
        | inr t ↦ d.others x t.1 ∙ is
      ]

      back : (x : ℕ) (kind : Kind) → IsKind after x kind → (IsGateKind kind → ⊥) → IsKind net x kind
      back x kind is k = elim (eqb_tells x gate) [
        | inl t ↦ absurd (k (no_plain_after kind (rw t.1 at is)))
        | inr t ↦ (is.0, sym (d.others x t.1) ∙ is.1)
      ]

  live_after : (x : ℕ) → x ≢ gate → node_at net x ≢ None → node_at after x ≢ None
  live_after x ne live e = live (sym (d.others x ne) ∙ e)

  pub apart_formed : IsAcyclic after → ((p x : ℕ) → Reads after gate p x → (x ≢ gate) × (node_at net x ≢ None)) → (IsKind after gate Not → (e : ℕ) × (drivers_of after gate ≡ e ∷ [])) → (IsKind after gate Xor → (d e : ℕ) × (drivers_of after gate ≡ d ∷ e ∷ [])) → trimmed after.nodes ≡ after.nodes → IsWellFormed after
  apart_formed acyclic live one two canonical = record {
    acyclic = acyclic;
    constants = plain_constants net after well keeps;
    only_zero = λ x is. well.only_zero x (keeps.back x Zero is (λ e. e));
    only_one = λ x is. well.only_one x (keeps.back x One is (λ e. e));
    sources = plain_sources net after well keeps;
    nots_have_one = nots;
    xors_have_two = xors;
    drivers_live = drivers;
    observed_live = λ x o.
        let old : IsObserved net x = (o.0, ap (λ xs. slice_get xs o.0) (sym d.observed) ∙ o.1) in
        live_after x (λ e. unread.unobserved (rw e at old)) (well.observed_live x old);
    canonical = canonical;
  }
    where
      nots : (y : ℕ) → IsKind after y Not → (e : ℕ) × (drivers_of after y ≡ e ∷ [])
      nots y is = elim (eqb_tells y gate) [
        | inl t ↦
            let e : (e : ℕ) × (drivers_of after gate ≡ e ∷ []) = one (rw t.1 at is) in
            (e.0, ap (drivers_of after) t.1 ∙ e.1)
        | inr t ↦
            let e : (e : ℕ) × (drivers_of net y ≡ e ∷ []) = well.nots_have_one y (is.0, sym (d.others y t.1) ∙ is.1) in
            (e.0, ap drivers_in (d.others y t.1) ∙ e.1)
      ]

      xors : (y : ℕ) → IsKind after y Xor → (d e : ℕ) × (drivers_of after y ≡ d ∷ e ∷ [])
      xors y is = elim (eqb_tells y gate) [
        | inl t ↦ let e = two (rw t.1 at is) in (e.0, e.1, ap (drivers_of after) t.1 ∙ e.2)
        | inr t ↦ let e = well.xors_have_two y (is.0, sym (d.others y t.1) ∙ is.1) in (e.0, e.1, ap drivers_in (d.others y t.1) ∙ e.2)
      ]

      drivers : (y p x : ℕ) → Reads after y p x → node_at after x ≢ None
      drivers y p x reads = elim (eqb_tells y gate) [
        | inl t ↦
            let l : (x ≢ gate) × (node_at net x ≢ None) = live p x (rw t.1 at reads) in live_after x l.0 l.1
        | inr t ↦
            let old : Reads net y p x = ap (λ o. slice_get (drivers_in o) p) (sym (d.others y t.1)) ∙ reads in
            live_after x (λ e. unread.unread y p (rw e at old)) (well.drivers_live y p x old)
      ]

-- What a tidy net is free of.
use Rattle.std.proofs.Common.{◌≡◌, ◌≤◌, ◌<◌, ◌+◌, ◌-◌, ℕ, zero, suc, Bool, true, false, not, [], length, refl, sym, ◌∙◌, ap, arith, subst}
use Rattle.std.specs.Prelude.{Option, None, Some, slice_get, nat_eq}
use Rattle.gate_net.specs.declared.Kind.{Kind}
use Rattle.gate_net.specs.declared.Kind.TheVariants.{Source, Zero, One}
use Rattle.gate_net.specs.Net.{Node, Net, node_at, drivers_of, Reads, IsKind, IsWellFormed, plain_node, source_count}
use Rattle.wire_edit.specs.declared.steps.Step.{Step}
use Rattle.wire_edit.specs.declared.steps.Step.TheVariants.{Const, NoPins, OnePin, Dead}
use Rattle.wire_edit.specs.Tests.{is_present, is_gate, is_junction, is_in_use, constant_at}
use Rattle.wire_edit.specs.Steps.{Applies}
use Rattle.wire_edit.specs.Order.{IsTidy}
use Rattle.wire_edit.specs.Laws.{TidyMeans, IsTidying}
use Rattle.wire_edit.proofs.Public.{junction_gate}
use Rattle.rm_base.proofs.Public.{both_and, not_from_false}
use Rattle.graph_to_model.specs.Inner.Writable.{IsLean}

not_false : (b : Bool) → (b ≡ false → ⊥) → b ≡ true
not_false true h = refl
not_false false h = absurd (h refl)

module _ (net : Net) (none : (step : Step) → IsTidying step → Applies net step → ⊥) where
  in_use : (y : ℕ) → is_gate net y ≡ true → is_in_use net y ≡ true
  in_use y gate = not_false (is_in_use net y) (λ unused. none (Dead (record { 0 = y })) tt (both_and (is_gate net y) (not (is_in_use net y)) gate (not_from_false (is_in_use net y) unused)))

  no_constant : (y p : ℕ) → is_gate net y ≡ true → is_present (constant_at net y p) ≡ true → ⊥
  no_constant y p gate constant =
      none (Const (record { 0 = y }) p) tt (both_and (is_gate net y) _ gate (both_and (is_in_use net y) _ (in_use y gate) constant))

  some_pins : (y : ℕ) → is_junction net y ≡ true → nat_eq (length (drivers_of net y)) 0 ≡ true → ⊥
  some_pins y junction e =
      none (NoPins (record { 0 = y })) tt (both_and (is_junction net y) _ junction (both_and (is_in_use net y) _ (in_use y (junction_gate net y junction)) e))

  more_pins : (y : ℕ) → is_junction net y ≡ true → nat_eq (length (drivers_of net y)) 1 ≡ true → ⊥
  more_pins y junction e =
      none (OnePin (record { 0 = y })) tt (both_and (is_junction net y) _ junction (both_and (is_in_use net y) _ (in_use y (junction_gate net y junction)) e))

  two_pins : (y : ℕ) → is_junction net y ≡ true → 2 ≤ length (drivers_of net y)
  two_pins y junction = count (length (drivers_of net y)) (some_pins y junction) (more_pins y junction)
    where
      count : (n : ℕ) → (nat_eq n 0 ≡ true → ⊥) → (nat_eq n 1 ≡ true → ⊥) → 2 ≤ n
      count zero h k = absurd (h refl)
      count (suc zero) h k = absurd (k refl)
      count (suc (suc n)) h k = omega arith

-- the node is of its kind
pub kind_is : (net : Net) (y : ℕ) (n : Node) (kind : Kind) → node_at net y ≡ Some n → n.kind ≡ kind → IsKind net y kind
kind_is net y n kind e f = (n.drivers, e ∙ ap (λ (k : Kind). Some (let m : Node = record { kind = k; drivers = n.drivers } in m)) f)

module _ (net : Net) (formed : IsWellFormed net) where
  pub source_plain : (y : ℕ) → IsKind net y Source → node_at net y ≡ plain_node Source
  source_plain y k =
      let within = formed.sources.only y k in
      let low : 2 ≤ y = within.0 in
      let high : y < 2 + source_count net = within.1 in
      let place : 2 + (y - 2) ≡ y = omega arith in
      subst (λ (z : ℕ). node_at net z ≡ plain_node Source) place (formed.sources.first (y - 2) (omega arith))

  pub zero_plain : (y : ℕ) → IsKind net y Zero → node_at net y ≡ plain_node Zero
  zero_plain y k = subst (λ (z : ℕ). node_at net z ≡ plain_node Zero) (sym (formed.only_zero y k)) formed.constants.zero_is

  pub one_plain : (y : ℕ) → IsKind net y One → node_at net y ≡ plain_node One
  one_plain y k = subst (λ (z : ℕ). node_at net z ≡ plain_node One) (sym (formed.only_one y k)) formed.constants.one_is

  no_pin : (y p x : ℕ) (kind : Kind) → Reads net y p x → node_at net y ≡ plain_node kind → ⊥
  no_pin y p x kind reads e = let none : slice_get {X = ℕ} [] p ≡ Some x = rw e at reads in gone p none
    where
      gone : (p : ℕ) → slice_get {X = ℕ} [] p ≡ Some x → ⊥
      gone zero f = cc
      gone (suc p) f = cc

  -- what has a pin is a gate
  reader_kind : (y p x : ℕ) (n : Node) → Reads net y p x → node_at net y ≡ Some n → (kind : Kind) → n.kind ≡ kind → is_gate net y ≡ true
  reader_kind y p x n reads e Source f = absurd (no_pin y p x Source reads (source_plain y (kind_is net y n Source e f)))
  reader_kind y p x n reads e Zero f = absurd (no_pin y p x Zero reads (zero_plain y (kind_is net y n Zero e f)))
  reader_kind y p x n reads e One f = absurd (no_pin y p x One reads (one_plain y (kind_is net y n One e f)))
  reader_kind y p x n reads e kind f = rw (e, f) refl

  pub reader_is_gate : (y p x : ℕ) → Reads net y p x → is_gate net y ≡ true
  reader_is_gate y p x reads = told (node_at net y) refl
    where
      told : (o : Option Node) → node_at net y ≡ o → is_gate net y ≡ true
      told None e = let none : slice_get {X = ℕ} [] p ≡ Some x = rw e at reads in absurd (gone p none)
        where
          gone : (p : ℕ) → slice_get {X = ℕ} [] p ≡ Some x → ⊥
          gone zero f = cc
          gone (suc p) f = cc
      told (Some n) e = reader_kind y p x n reads e n.kind refl

pub lean : TidyMeans → (net : Net) → IsWellFormed net → IsTidy net → IsLean net
lean means net formed tidy = record {
  no_zero = λ y p reads. no_constant net none y p (reader_is_gate net formed y p 0 reads) (rw (reads, formed.constants.zero_is) refl);
  no_one = λ y p reads. no_constant net none y p (reader_is_gate net formed y p 1 reads) (rw (reads, formed.constants.one_is) refl);
  two_pins = two_pins net none;
}
  where
    none : (step : Step) → IsTidying step → Applies net step → ⊥
    none = (means net).0 tidy

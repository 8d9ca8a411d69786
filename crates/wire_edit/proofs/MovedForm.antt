-- A move of readers leaves the net well formed.
use Rattle.std.proofs.Common.{◌≡◌, ◌≢◌, ℕ, inl, inr, Option, Some, None, List, [], ◌∷◌, map, refl, sym, ◌∙◌, ap}
use Rattle.std.specs.Prelude.{slice_get}
use Rattle.gate_net.proofs.Public.{drivers_redirected, node_at-moved, redirect_cases}
use Rattle.gate_net.specs.declared.Kind.{Kind}
use Rattle.gate_net.specs.declared.Kind.TheVariants.{Zero, One, Not, Xor}
use Rattle.gate_net.specs.Net.{Node, Net, node_at, kind_in, drivers_in, drivers_of, IsKind, IsLive, IsAcyclic, IsWellFormed}
use Rattle.gate_net.specs.Edits.{redirected, node_redirected, with_readers_moved}
use Rattle.wire_edit.proofs.Totals.{total_map}
use Rattle.wire_edit.proofs.Canonical.{canonical_map}
use Rattle.wire_edit.proofs.Plain.{some_none, source_weight, KeepsPlain, plain_constants, plain_sources}

module _ (net : Net) (from to : ℕ) (well : IsWellFormed net) (live : IsLive net to) where
  abbrev after : Net
  after = with_readers_moved net from to

  moved_is : (x : ℕ) (kind : Kind) (ds : List ℕ) → node_at net x ≡ Some (record { kind = kind; drivers = ds }) → node_at after x ≡ Some (record { kind = kind; drivers = map (redirected from to) ds })
  moved_is x kind ds is = node_at-moved net from to x ∙ ap (node_redirected from to) is

  moved_from : (o : Option Node) (kind : Kind) (ds : List ℕ) → node_redirected from to o ≡ Some (record { kind = kind; drivers = ds }) → (es : List ℕ) × ((o ≡ Some (record { kind = kind; drivers = es })) × (ds ≡ map (redirected from to) es))
  moved_from None kind ds e = cc
  moved_from (Some n) kind ds e =
      let k : Some n.kind ≡ Some kind = ap kind_in e in
      let same : n.kind ≡ kind = cc in
      (n.drivers, (ap (λ (k : Kind). Some (record { kind = k; drivers = n.drivers })) same, sym (ap drivers_in e)))

  was : (x : ℕ) (kind : Kind) → IsKind after x kind → (es : List ℕ) × ((node_at net x ≡ Some (record { kind = kind; drivers = es })) × (drivers_of after x ≡ map (redirected from to) es))
  was x kind is =
      let w : (es : List ℕ) × ((node_at net x ≡ Some (record { kind = kind; drivers = es })) × (is.0 ≡ map (redirected from to) es)) = moved_from (node_at net x) kind is.0 (sym (node_at-moved net from to x) ∙ is.1) in
      (w.0, (w.1.0, ap drivers_in is.1 ∙ w.1.1))

  keeps : KeepsPlain net after
  keeps = record {
    forth = λ x kind is k. moved_is x kind [] is;
    back = λ x kind is k. let w : (es : List ℕ) × ((node_at net x ≡ Some (record { kind = kind; drivers = es })) × _) = was x kind is in (w.0, w.1.0);
    count = total_map source_weight (node_redirected from to) same net.nodes;
  }
    where
      same : (o : Option Node) → source_weight (node_redirected from to o) ≡ source_weight o
      same None = refl
      same (Some n) = refl

  live_after : (x : ℕ) → node_at net x ≢ None → node_at after x ≢ None
  live_after x alive e = alive (none (node_at net x) (sym (node_at-moved net from to x) ∙ e))
    where
      none : (o : Option Node) → node_redirected from to o ≡ None → o ≡ None
      none None e = refl
      none (Some n) e = cc

  to_live : node_at net to ≢ None
  to_live e = some_none (sym live.1.1 ∙ e)

  places : (ds : List ℕ) → ((p x : ℕ) → slice_get ds p ≡ Some x → node_at net x ≢ None) → (p x : ℕ) → slice_get (map (redirected from to) ds) p ≡ Some x → node_at after x ≢ None
  places ds h p x e = elim (redirect_cases from to ds p x e) [
    | inl old ↦ live_after x (h p x old)
    | inr new ↦ rw new.0 (live_after to to_live)
  ]

  pub moved_formed : IsAcyclic after → IsWellFormed after
  moved_formed acyclic = record {
    acyclic = acyclic;
    constants = plain_constants net after well keeps;
    only_zero = λ x is. well.only_zero x (keeps.back x Zero is (λ e. e));
    only_one = λ x is. well.only_one x (keeps.back x One is (λ e. e));
    sources = plain_sources net after well keeps;
    nots_have_one = λ y is.
        let w : (es : List ℕ) × ((node_at net y ≡ Some (record { kind = Not; drivers = es })) × (drivers_of after y ≡ map (redirected from to) es)) = was y Not is in
        let d : (d : ℕ) × (drivers_of net y ≡ d ∷ []) = well.nots_have_one y (w.0, w.1.0) in
        (redirected from to d.0, w.1.1 ∙ ap (map (redirected from to)) (sym (ap drivers_in w.1.0) ∙ d.1));
    xors_have_two = λ y is.
        let w : (es : List ℕ) × ((node_at net y ≡ Some (record { kind = Xor; drivers = es })) × (drivers_of after y ≡ map (redirected from to) es)) = was y Xor is in
        let d = well.xors_have_two y (w.0, w.1.0) in
        (redirected from to d.0, redirected from to d.1, w.1.1 ∙ ap (map (redirected from to)) (sym (ap drivers_in w.1.0) ∙ d.2));
    drivers_live = λ y p x reads.
        places (drivers_of net y) (λ q z e. well.drivers_live y q z e) p x
        (ap (λ es. slice_get es p) (sym (ap drivers_in (node_at-moved net from to y) ∙ drivers_redirected from to (node_at net y))) ∙ reads);
    observed_live = λ x o. places net.observed (λ q z e. well.observed_live z (q, e)) o.0 x o.1;
    canonical = canonical_map from to net.nodes well.canonical;
  }

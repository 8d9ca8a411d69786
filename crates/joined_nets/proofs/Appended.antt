-- A gate on the next number.
use Rattle.std.proofs.Common.{List, [], ap, arith, inl, inr, length, refl, suc, sym, zero, ℕ, ◌++◌, ◌+◌, ◌<◌, ◌∙◌, ◌∷◌, ◌≡◌, ◌≢◌, ◌≤◌, ◌⊎◌}
use Rattle.std.specs.Prelude.{None, Option, Some, slice_get}
use Rattle.std.proofs.lemmas.Bool.{cases_lt}
use Rattle.std.proofs.lemmas.Option.{slice_get_past}
use Rattle.gate_net.specs.Edits.{MakesGate}
use Rattle.std.proofs.lemmas.List.{length_push}
use Rattle.std.proofs.lemmas.List.Sums.{sum_by_push}
use Rattle.gate_graph.specs.Circuit.{Circuit, live_nodes, net_of, pins_taken}
use Rattle.gate_net.specs.Net.{IsLive, Net, Node, before_dead, drivers_in, flatten_option, node_at, trimmed, wire_count}
use Rattle.gate_net.proofs.Public.{node_live}
use Rattle.rm_base.proofs.Public.{seam_stands}
use Rattle.joined_nets.specs.Growing.{HasNoGaps, IsWhole, with_nodes}

trimmed_same : (xs ys : List (Option Node)) → ((k : ℕ) → flatten_option (slice_get xs k) ≡ flatten_option (slice_get ys k)) → trimmed xs ≡ trimmed ys
trimmed_same [] [] h = refl
trimmed_same [] (y ∷ ys) h = by_head y (h 0) (trimmed_same [] ys (λ k. h (suc k)))
  where
    by_head : (y : Option Node) → None ≡ y → [] ≡ trimmed ys → [] ≡ before_dead y (trimmed ys)
    by_head None e t = ap (λ (l : List (Option Node)). before_dead None l) t
    by_head (Some n) e t = absurd cc
trimmed_same (x ∷ xs) [] h = by_head x (h 0) (trimmed_same xs [] (λ k. h (suc k)))
  where
    by_head : (x : Option Node) → x ≡ None → trimmed xs ≡ [] → before_dead x (trimmed xs) ≡ []
    by_head None e t = ap (λ (l : List (Option Node)). before_dead None l) t
    by_head (Some n) e t = absurd cc
trimmed_same (x ∷ xs) (y ∷ ys) h = rw (h 0, trimmed_same xs ys (λ k. h (suc k))) refl

-- a list that ends with a live node stays whole
whole : (xs : List (Option Node)) (n : Node) → trimmed (xs ++ Some n ∷ []) ≡ xs ++ Some n ∷ []
whole [] n = refl
whole (x ∷ xs) n = ap (λ (l : List (Option Node)). before_dead x l) (whole xs n) ∙ by_head x xs
  where
    by_head : (x : Option Node) (xs : List (Option Node)) → before_dead x (xs ++ Some n ∷ []) ≡ x ∷ (xs ++ Some n ∷ [])
    by_head None [] = refl
    by_head None (y ∷ ys) = refl
    by_head (Some m) xs = refl

elsewhere : (xs : List (Option Node)) (n : Node) (k : ℕ) → k ≢ length xs → flatten_option (slice_get (xs ++ Some n ∷ []) k) ≡ flatten_option (slice_get xs k)
elsewhere [] n zero ne = absurd (ne refl)
elsewhere [] n (suc k) ne = refl
elsewhere (x ∷ xs) n zero ne = refl
elsewhere (x ∷ xs) n (suc k) ne = elsewhere xs n k (λ e. ne (ap (λ (i : ℕ). suc i) e))

by_parts : (xs ys : List (Option Node)) (os ps : List ℕ) → xs ≡ ys → os ≡ ps → ◌≡◌ {A = Net} (record { nodes = xs; observed = os }) (record { nodes = ys; observed = ps })
by_parts xs ys os ps e f = rw (e, f) refl

module _ (v w : Net) (n : Node) (number : ℕ) (no_gaps : HasNoGaps v) (canonical : trimmed w.nodes ≡ w.nodes) (makes : MakesGate v w n.kind n.drivers number) where
  past : node_at v (length v.nodes) ≡ None
  past = ap (λ (o : Option (Option Node)). flatten_option o) (slice_get_past v.nodes (length v.nodes) (omega arith))

  pub is_next : number ≡ length v.nodes
  is_next = elim (cases_lt number (length v.nodes)) [
    | inl lt ↦ absurd (no_gaps number lt makes.number.free)
    | inr le ↦ elim (cases_lt (length v.nodes) number) [
      | inl more ↦ absurd (makes.number.least (length v.nodes) more past)
      | inr less ↦ omega (arith, le, less)
    ]
  ]

  there : (k : ℕ) → node_at w k ≡ node_at (with_nodes v (Some n ∷ [])) k
  there k = by_case (same_or_not k number)
    where
      same_or_not : (j k : ℕ) → (j ≡ k) ⊎ (j ≢ k)
      same_or_not j k = elim (cases_lt j k) [ inl lt ↦ inr (λ e. omega (arith, lt)) | inr le ↦ elim (cases_lt k j) [ inl lt ↦ inr (λ e. omega (arith, lt)) | inr ge ↦ inl (omega (arith, le, ge)) ] ]

      by_case : (k ≡ number) ⊎ (k ≢ number) → node_at w k ≡ node_at (with_nodes v (Some n ∷ [])) k
      by_case (inl e) =
          ap (λ (i : ℕ). node_at w i) e
          ∙ (makes.made ∙ (sym (ap (λ (o : Option (Option Node)). flatten_option o) (seam_stands v.nodes (Some n) [])) ∙ ap (λ (i : ℕ). node_at (with_nodes v (Some n ∷ [])) i) (sym (e ∙ is_next))))
      by_case (inr ne) = makes.differs.others k ne ∙ sym (elsewhere v.nodes n k (λ e. ne (e ∙ sym is_next)))

  pub appended : w ≡ with_nodes v (Some n ∷ [])
  appended =
      let nodes : w.nodes ≡ v.nodes ++ Some n ∷ [] = sym canonical ∙ (trimmed_same w.nodes (v.nodes ++ Some n ∷ []) there ∙ whole v.nodes n) in
      by_parts w.nodes (v.nodes ++ Some n ∷ []) w.observed v.observed nodes makes.differs.observed

  pub still_no_gaps : HasNoGaps w
  still_no_gaps x lt gone = by_case (cases_lt x (length v.nodes))
    where
      longer : (xs : List (Option Node)) (o : Option Node) → length (xs ++ o ∷ []) ≡ suc (length xs)
      longer [] o = refl
      longer (y ∷ xs) o = ap (λ (i : ℕ). suc i) (longer xs o)

      size : length w.nodes ≡ suc (length v.nodes)
      size = ap (λ (net : Net). length net.nodes) appended ∙ longer v.nodes (Some n)

      by_case : (x < length v.nodes) ⊎ (length v.nodes ≤ x) → ⊥
      by_case (inl low) = no_gaps x low (sym (elsewhere v.nodes n x (λ e. omega (arith, low))) ∙ (sym (there x) ∙ gone))
      by_case (inr high) =
          let at : x ≡ length v.nodes = omega (arith, high, lt, size) in
          let bad : Some n ≡ None = sym makes.made ∙ (ap (λ (i : ℕ). node_at w i) (is_next ∙ sym at) ∙ gone) in
          absurd cc

pub live_driver : (v : Net) (d : ℕ) → HasNoGaps v → d < length v.nodes → IsLive v d
live_driver v d no_gaps lt = node_live v d (no_gaps d lt)

-- the graph after that gate is whole again
pub whole_next : (v w : Circuit) (n : Node) (number : ℕ) → IsWhole v → trimmed (net_of w).nodes ≡ (net_of w).nodes → MakesGate (net_of v) (net_of w) n.kind n.drivers number → pins_taken w ≡ pins_taken v + length n.drivers → live_nodes w ≡ live_nodes v + 1 → IsWhole w
whole_next v w n number whole canonical makes pins live = record {
  no_gaps = still_no_gaps (net_of v) (net_of w) n number whole.no_gaps canonical makes;
  pins = pins ∙ (ap (λ (i : ℕ). i + length n.drivers) whole.pins ∙ sym (ap (λ (net : Net). wire_count net) is ∙ sum_by_push (λ (o : Option Node). length (drivers_in o)) (net_of v).nodes (Some n)));
  numbers = live ∙ (ap (λ (i : ℕ). i + 1) whole.numbers ∙ sym (ap (λ (net : Net). length net.nodes) is ∙ length_push (net_of v).nodes (Some n)));
}
  where
    is : net_of w ≡ with_nodes (net_of v) (Some n ∷ [])
    is = appended (net_of v) (net_of w) n number whole.no_gaps canonical makes

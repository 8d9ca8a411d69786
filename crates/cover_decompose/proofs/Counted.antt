-- The counts of a decomposition, and which covers it takes.
use Rattle.std.proofs.Common.{◌≡◌, ◌≢◌, ◌<◌, ◌+◌, ◌↔◌, ℕ, zero, suc, true, List, [], ◌∷◌, length, map, refl, sym, ap, subst, ◌∙◌, ◌⊎◌, inl, inr, arith}
use Rattle.std.specs.Prelude.{Some, None, slice_get, Contains, replicate}
use Rattle.std.specs.List.{AllByRecursion, flat_map}
use Rattle.std.proofs.lemmas.Bool.{or_cases}
use Rattle.std.proofs.lemmas.List.{length-map}
use Rattle.rm_model.specs.Words.{is_word}
use Rattle.rm_model.specs.Value.{is_among, source_names, observed_names}
use Rattle.rm_model.specs.WellFormed.{IsWellFormedCover}
use Rattle.rm_model.specs.declared.parts.Cover.{Cover}
use Rattle.rm_model.specs.declared.parts.Literal.{Literal}
use Rattle.rm_model.specs.declared.parts.Model.{Model}
use Rattle.gate_net.specs.declared.Kind.TheVariants.{Source}
use Rattle.gate_net.specs.Net.{Node, node_at, wire_count}
use Rattle.cover_decompose.specs.Count.{cover_wires, cover_zero_names, decomposed, new_count}
use Rattle.cover_decompose.specs.Decomposition.{last_state, net_of_model, plain, start}
use Rattle.cover_decompose.specs.Needed.{IsNeeded, covers_by_rank, taken}
use Rattle.cover_decompose.proofs.Members.{in_among}
use Rattle.cover_decompose.proofs.Order.{Reading}
use Rattle.cover_decompose.proofs.Points.{needed_taken, taken_is_needed, taken_there}
use Rattle.cover_decompose.proofs.Ranked.{IsRankable, taken_in, taken_reading}
use Rattle.cover_decompose.proofs.Sums.{sum-total, total}
use Rattle.cover_decompose.proofs.WellFormed.{is_live, wires_made}
use Rattle.cover_decompose.proofs.Wires.{AreEven, covers_counts}
use Rattle.rm_base.proofs.Public.{all_by_index, all_from_members, all_in, in_contained, in_contains}
use Rattle.rm_base.specs.Members.{In}
use Rattle.rm_base.specs.Words.{Word}
use Rattle.rm_model.proofs.Public.{same_word}

pub observed_count : (m : Model) → length (net_of_model m).observed ≡ length (observed_names m)
observed_count m = length-map (observed_names m) (last_state m).node_of

pub each_is_live : (m : Model) (x : ℕ) → x < length (net_of_model m).nodes → node_at (net_of_model m) x ≢ None
each_is_live m x lt = is_live (last_state m).made (net_of_model m).observed x (let e : length (map (λ (n : Node). Some n) (last_state m).made) ≡ length (last_state m).made = length-map (last_state m).made (λ (n : Node). Some n) in omega arith)

no_wires : (n : ℕ) → total (λ (n : Node). length n.drivers) (replicate n (plain Source)) ≡ 0
no_wires zero = refl
no_wires (suc n) = ap (λ (k : ℕ). 0 + k) (no_wires n)

pub wires_are : (m : Model) → IsRankable m → wire_count (net_of_model m) ≡ decomposed m
wires_are m h =
    let even : AllByRecursion AreEven (taken m) = all_from_members AreEven (taken m) (λ c i. all_by_index (λ (r : List Literal). length r ≡ length c.inputs) c.rows (all_in IsWellFormedCover m.covers c (all_by_index IsWellFormedCover m.covers h.formed.covers) (taken_in m h c i)).row_lengths) in
    let counts : total (λ (n : Node). length n.drivers) (last_state m).made ≡ total (λ (n : Node). length n.drivers) (start m).made + (total cover_wires (taken m) + new_count [] (flat_map cover_zero_names (taken m))) = covers_counts (start m) (taken m) [] even (λ x. refl) in
    let none : total (λ (n : Node). length n.drivers) (replicate (length (source_names m)) (plain Source)) ≡ 0 = no_wires (length (source_names m)) in
    let sum = sum-total cover_wires (taken m) in
    wires_made m ∙ (counts ∙ (omega arith ∙ ap (λ (n : ℕ). n + new_count [] (flat_map cover_zero_names (taken m))) (sym sum)))

pub taken_are_needed : (m : Model) (c : Cover) → IsRankable m → Contains (taken m) c ↔ (Contains m.covers c × IsNeeded m c.output)
taken_are_needed m c h = (
  (λ i. let there = in_contained (taken m) c i.0 i.1 i.2 in (in_contains m.covers c (taken_in m h c there), taken_is_needed m h (covers_by_rank m) (taken_in m h) c there)),
  (λ p. let i = in_contained m.covers c p.0.0 p.0.1 p.0.2 in in_contains (taken m) c (taken_there m h c c.output i refl (needed_taken m h c.output p.1))),
)

-- what a cover reads is there before it
read_before : (done : List Word) (cs : List Cover) (j : ℕ) (d : Cover) (x : Word) → Reading done cs → slice_get cs j ≡ Some d → In d.inputs x → (is_among done x ≡ true) ⊎ ((i : ℕ) × ((c : Cover) × ((slice_get cs i ≡ Some c) × ((c.output ≡ x) × (i < j)))))
read_before done [] j d x r e i = absurd cc
read_before done (c ∷ cs) zero d x r e i =
    let is : c ≡ d = cc in
    inl (all_in (λ y. is_among done y ≡ true) c.inputs x r.0 (let P : Cover → Type 0 = λ y. In y.inputs x in subst P (sym is) i))
read_before done (c ∷ cs) (suc j) d x r e i =
    elim (read_before (c.output ∷ done) cs j d x r.1 e i) [
      | inl a ↦ elim (or_cases (is_word x c.output) (is_among done x) a) [ inl same ↦ inr (0, (c, (refl, (sym (same_word x c.output same), omega arith)))) | inr b ↦ inl b ]
      | inr k ↦ inr (suc k.0, (k.1.0, (k.1.1.0, (k.1.1.1.0, let lt : k.0 < j = k.1.1.1.1 in omega arith))))
    ]

pub taken_in_order : (m : Model) (j : ℕ) (d : Cover) (x : Word) → IsRankable m → slice_get (taken m) j ≡ Some d → is_among d.inputs x ≡ true → (is_among (source_names m) x ≡ true) ⊎ ((i : ℕ) × ((c : Cover) × ((slice_get (taken m) i ≡ Some c) × ((c.output ≡ x) × (i < j)))))
taken_in_order m j d x h e r = read_before (source_names m) (taken m) j d x (taken_reading m h) e (in_among d.inputs x r)

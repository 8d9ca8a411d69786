-- The decomposition stands for its model.
use Rattle.std.proofs.Common.{◌≡◌, ℕ, Bool, List, [], ◌∷◌, map, refl, ap, ◌∙◌}
use Rattle.std.specs.Prelude.{Some, Option, slice_get}
use Rattle.std.specs.Option.{option_map}
use Rattle.std.specs.List.{AllByRecursion}
use Rattle.std.proofs.lemmas.Option.{slice_get-map}
use Rattle.rm_model.specs.Value.{source_names, observed_names, IsConsistent, value_of}
use Rattle.rm_model.specs.WellFormed.{IsWellFormedCover}
use Rattle.rm_model.specs.declared.parts.Cover.{Cover}
use Rattle.rm_model.specs.declared.parts.Model.{Model}
use Rattle.gate_net.specs.Net.{Node, node_at, drivers_in, flatten_option}
use Rattle.gate_net.specs.Values.{AreGoodValues, node_value}
use Rattle.cover_decompose.specs.Needed.{taken}
use Rattle.cover_decompose.specs.Decomposition.{State, start, last_state, net_of_model}
use Rattle.cover_decompose.specs.StandsFor.{SameAssignment}
use Rattle.cover_decompose.proofs.Order.{outputs_onto}
use Rattle.cover_decompose.proofs.Ranked.{IsRankable, observed_there, taken_in, taken_reading}
use Rattle.cover_decompose.proofs.Started.{no_nots, one_is, sources_known, zero_is}
use Rattle.cover_decompose.proofs.Values.{Fits, KnownAmong, Meets, covers-meets, covers-value}
use Rattle.rm_base.proofs.Public.{all_by_index, all_from_members, all_in}
use Rattle.rm_base.specs.Words.{Word}

pub node_there : (made : List Node) (observed : List ℕ) (x : ℕ) (n : Node) → slice_get made x ≡ Some n → node_at (record { nodes = map (λ n. Some n) made; observed = observed }) x ≡ Some n
node_there made observed x n e = ap (λ (o : Option (Option Node)). flatten_option o) (slice_get-map (λ (n : Node). Some n) made x ∙ ap (λ (o : Option Node). option_map (λ (n : Node). Some n) o) e)

meets_good : (made : List Node) (observed : List ℕ) (a val : ℕ → Bool) (v : Word → Bool) → AreGoodValues (record { nodes = map (λ n. Some n) made; observed = observed }) a val → Meets val a v made
meets_good made observed a val v good x n e =
    good x ∙ ap (λ (o : Option Node). node_value o (a x) (map val (drivers_in o))) (node_there made observed x n e)

fits : (m : Model) (val a : ℕ → Bool) (v : Word → Bool) → IsRankable m → IsConsistent m v → AllByRecursion (Fits val a v) (taken m)
fits m val a v h consistent =
    all_from_members (Fits val a v) (taken m)
    (λ c i. record {
      no_rows = (all_in IsWellFormedCover m.covers c (all_by_index IsWellFormedCover m.covers h.formed.covers) (taken_in m h c i)).no_rows;
      value = all_in (λ (c : Cover). v c.output ≡ value_of c (map v c.inputs)) m.covers c (all_by_index (λ (c : Cover). v c.output ≡ value_of c (map v c.inputs)) m.covers consistent) (taken_in m h c i);
    })

pub observed_values : (m : Model) (a val : ℕ → Bool) (v : Word → Bool) → IsRankable m → AreGoodValues (net_of_model m) a val → IsConsistent m v → SameAssignment m a v → map val (net_of_model m).observed ≡ map v (observed_names m)
observed_values m a val v h good consistent same =
    let s : State = last_state m in
    let meets : Meets val a v s.made = meets_good s.made (map s.node_of (observed_names m)) a val v good in
    let start_meets : Meets val a v (start m).made = covers-meets val a v (start m) (taken m) meets in
    let known : KnownAmong val a v s.node_of (outputs_onto (source_names m) (taken m)) =
    covers-value val a v (start m) (taken m) (source_names m) (zero_is val a v m start_meets) (one_is val a v m start_meets)
    (sources_known val a v m start_meets same) (no_nots val a v m) (taken_reading m h) (fits m val a v h consistent) meets in
    each (observed_names m) s.node_of (all_from_members (λ x. val (s.node_of x) ≡ v x) (observed_names m) (λ x i. known x (observed_there m h x i)))
  where
    each : (xs : List Word) (f : Word → ℕ) → AllByRecursion (λ x. val (f x) ≡ v x) xs → map val (map f xs) ≡ map v xs
    each [] f r = refl
    each (x ∷ xs) f r = rw (r.0, each xs f r.1) refl

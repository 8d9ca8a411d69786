-- The plan that starts with a model's sources stands for its first state, and so on to the last.
use Rattle.std.proofs.Common.{◌≡◌, ◌+◌, ℕ, zero, suc, Bool, true, false, cond, List, [], ◌∷◌, ◌++◌, length, map, get_or, refl, sym, ap, subst, ◌∙◌}
use Rattle.std.specs.Prelude.{Some, None, Option, replicate, slice_index}
use Rattle.std.specs.Option.{option_map}
use Rattle.rm_model.specs.Words.{is_word}
use Rattle.rm_model.specs.Value.{observed_names, source_names}
use Rattle.rm_model.specs.WellFormed.{driven_names}
use Rattle.rm_model.specs.declared.parts.Cover.{Cover}
use Rattle.rm_model.specs.declared.parts.Model.{Model}
use Rattle.cover_decompose.specs.Inner.Chosen.{AtPlaces, IsNumbered, Signals}
use Rattle.cover_decompose.specs.Decomposition.{State, last_state, net_of_model, source_node, start}
use Rattle.cover_decompose.specs.Needed.{taken}
use Rattle.cover_decompose.specs.Inner.Plan.{Planned, counting, covers_planned, start_planned}
use Rattle.cover_decompose.specs.Inner.Signals.{signal_of}
use Rattle.cover_decompose.proofs.Matching.{Matches, covers_match}
use Rattle.cover_decompose.proofs.NumberingLemmas.{driven-length}
use Rattle.cover_decompose.proofs.PlanSteps.{length-many, length-numbers}
use Rattle.rm_base.specs.Words.{Word}

zeros : (n k : ℕ) → ◌≡◌ {A = ℕ} (get_or (replicate n 0) k 0) 0
zeros zero k = refl
zeros (suc n) zero = refl
zeros (suc n) (suc k) = zeros n k

nones : (n k : ℕ) → get_or {A = Option ℕ} (replicate n None) k None ≡ None
nones zero k = refl
nones (suc n) zero = refl
nones (suc n) (suc k) = nones n k

-- a source's node is at its place, and another name has none yet
start_node : (sources outputs : List Word) (covers n : ℕ) (x : Word) (k : ℕ) → signal_of (sources ++ outputs) x ≡ Some k → get_or (counting n (length sources) ++ replicate covers 0) k 0 ≡ source_node n sources x
start_node [] outputs covers n x k e = zeros covers k
start_node (y ∷ ys) outputs covers n x k e = by_test (is_word x y) (signal_of (ys ++ outputs) x) (start_node ys outputs covers (suc n) x) e
  where
    by_test : (b : Bool) (o : Option ℕ) → ((j : ℕ) → o ≡ Some j → get_or (counting (suc n) (length ys) ++ replicate covers 0) j 0 ≡ source_node (suc n) ys x) → cond b (Some 0) (option_map (λ k. suc k) o) ≡ Some k → get_or (n ∷ (counting (suc n) (length ys) ++ replicate covers 0)) k 0 ≡ cond b n (source_node (suc n) ys x)
    by_test true o next e = let is : 0 ≡ k = cc in rw (← is) refl
    by_test false None next e = absurd cc
    by_test false (Some j) next e = let is : suc j ≡ k = cc in rw (← is) (next j refl)

start_matches : (m : Model) → Matches (driven_names m) (start_planned (length (source_names m)) (length m.covers)) (start m)
start_matches m = record {
  made = refl;
  nodes = λ x k e. start_node (source_names m) (map (λ (c : Cover). c.output) m.covers) (length m.covers) 2 x k e;
  nots = λ x k e. nones (length (source_names m) + length m.covers) k;
  node_count = length-numbers 2 (length (source_names m)) (length m.covers) ∙ sym (driven-length m);
  not_count = length-many (length (source_names m) + length m.covers) None ∙ sym (driven-length m);
}

observed_match : (names : List Word) (p : Planned) (s : State) (xs : List Word) (ks : List ℕ) → Matches names p s → Signals names xs ks → map (slice_index p.nodes) ks ≡ map s.node_of xs
observed_match names p s [] [] h e = refl
observed_match names p s [] (k ∷ ks) h e = absurd e
observed_match names p s (x ∷ xs) [] h e = absurd e
observed_match names p s (x ∷ xs) (k ∷ ks) h e = rw (h.nodes x k e.0, observed_match names p s xs ks h e.1) refl

pub record Lists (m : Model) (plan : Planned) (observed : List ℕ) (first : ℕ) : Type 0 where
  pub made : plan.made ≡ (last_state m).made
  pub observed_is : map (slice_index plan.nodes) observed ≡ (net_of_model m).observed
  pub signals : length plan.nodes ≡ first + length m.covers

pub lists : (m : Model) (inputs ins : List (List ℕ)) (observed places : List ℕ) (covers : List Cover) (first count : ℕ) (start_plan plan : Planned) → IsNumbered m inputs observed → first ≡ length (source_names m) → count ≡ length m.covers → AtPlaces m.covers places (taken m)
    → ins ≡ inputs → covers ≡ m.covers → start_plan ≡ start_planned first count → plan ≡ covers_planned start_plan covers ins first places → Lists m plan observed first
lists m inputs ins observed places covers first count start_plan plan h ef ec at ei ev es ep =
    let start_is : start_plan ≡ start_planned (length (source_names m)) (length m.covers) = es ∙ (ap (λ (n : ℕ). start_planned n count) ef ∙ ap (λ (n : ℕ). start_planned (length (source_names m)) n) ec) in
    let is : plan ≡ covers_planned (start_planned (length (source_names m)) (length m.covers)) m.covers inputs (length (source_names m)) places =
    ep ∙ (ap (λ (p : Planned). covers_planned p covers ins first places) start_is
    ∙ (ap (λ (l : List Cover). covers_planned (start_planned (length (source_names m)) (length m.covers)) l ins first places) ev
    ∙ (ap (λ (l : List (List ℕ)). covers_planned (start_planned (length (source_names m)) (length m.covers)) m.covers l first places) ei
    ∙ ap (λ (n : ℕ). covers_planned (start_planned (length (source_names m)) (length m.covers)) m.covers inputs n places) ef))) in
    let matches : Matches (driven_names m) plan (last_state m) =
    let P : Planned → Type 0 = λ p. Matches (driven_names m) p (last_state m) in
    subst P (sym is) (covers_match (driven_names m) m.covers inputs (length (source_names m)) (start_planned (length (source_names m)) (length m.covers)) (start m) places (taken m) h.covers at (start_matches m)) in
    record {
      made = matches.made;
      observed_is = observed_match (driven_names m) plan (last_state m) (observed_names m) observed matches h.points;
      signals = matches.node_count ∙ (driven-length m ∙ ap (λ (n : ℕ). n + length m.covers) (sym ef));
    }

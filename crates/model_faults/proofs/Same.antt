-- A vector detects a gate's fault in the net exactly where it detects that of its cover in the model.
use Rattle.std.proofs.Common.{◌≡◌, ◌≢◌, ◌<◌, ◌+◌, ◌^◌, ℕ, zero, suc, Bool, true, false, List, [], ◌∷◌, map, length, refl, sym, ◌∙◌, ap, arith, subst, ◌⊎◌, inl, inr, nat_eq}
use Rattle.std.specs.Prelude.{Some, slice_get, slice_set, if◌then◌else◌}
use Rattle.std.proofs.lemmas.Option.{slice_get_within}
use Rattle.std.proofs.lemmas.Bool.Decides.{eqb_tells}
use Rattle.rm_model.specs.Words.{is_word}
use Rattle.rm_model.specs.Value.{source_names, observed_names, value_of, IsConsistent, outputs_of}
use Rattle.rm_model.specs.declared.parts.Cover.{Cover}
use Rattle.rm_model.specs.declared.parts.Model.{Model}
use Rattle.gate_net.specs.declared.Kind.TheVariants.{Source}
use Rattle.gate_net.specs.Net.{Net, node_at, plain_node, source_count}
use Rattle.gate_net.specs.Values.{Detects}
use Rattle.graph_to_model.proofs.Public.{all_at, all_from_start, all_in_list, copy_out, in_copies, in_gates, live_within, one_gate, source_name, not_had}
use Rattle.graph_to_model.specs.Names.{node_name}
use Rattle.graph_to_model.specs.NetModel.{model_of_net, covers_of_gates, names_before_copies, covers_of_copies}
use Rattle.model_faults.specs.ModelFaults.{stuck_reads, IsFaultyValuation, Extends, DetectsIn}
use Rattle.gate_net.specs.Faults.{fault_at, Gives}
use Rattle.model_faults.proofs.Named.{Names, words_of}
use Rattle.model_faults.proofs.Twisted.{NetValues, WordValues, word_values, nodes_of, net_values, observed_value}
use Rattle.rm_base.proofs.Public.{in_append, in_left, in_mapped, in_right, some_is, stands_below}
use Rattle.rm_base.specs.Members.{In}
use Rattle.rm_base.specs.Words.{Word}
use Rattle.rm_model.proofs.Public.{is_word-same, same_word}
use Rattle.graph_to_model.specs.Inner.Writable.{IsWritable}
use Rattle.graph_to_model.specs.Inner.Covers.{IsGateCover, IsCopyCover}

set_length : (bs : List Bool) (p : ℕ) (b : Bool) → length (slice_set bs p b) ≡ length bs
set_length [] p b = refl
set_length (c ∷ bs) zero b = refl
set_length (c ∷ bs) (suc p) b = ap suc (set_length bs p b)

map_get : (f : Word → Bool) (xs : List Word) (k : ℕ) (x : Word) → slice_get xs k ≡ Some x → slice_get (map f xs) k ≡ Some (f x)
map_get f [] zero x e = absurd cc
map_get f [] (suc k) x e = absurd cc
map_get f (y ∷ xs) zero x e = ap Some (ap f (some_is y x e))
map_get f (y ∷ xs) (suc k) x e = map_get f xs k x e

-- a list maps to another that has the value at each place
map_is : (f : Word → Bool) (xs : List Word) (bs : List Bool) → length bs ≡ length xs → ((k : ℕ) (x : Word) (b : Bool) → slice_get xs k ≡ Some x → slice_get bs k ≡ Some b → f x ≡ b) → map f xs ≡ bs
map_is f [] [] l h = refl
map_is f [] (b ∷ bs) l h = absurd (omega arith)
map_is f (x ∷ xs) [] l h = absurd (omega arith)
map_is f (x ∷ xs) (b ∷ bs) l h =
    let first : f x ≡ b = h 0 x b refl refl in
    let rest : map f xs ≡ bs = map_is f xs bs (omega (arith, l)) (λ k y c. h (suc k) y c) in
    cc

bit_at : (bs : List Bool) (k : ℕ) → k < length bs → (b : Bool) × (slice_get bs k ≡ Some b)
bit_at bs k h = stands_below bs k h

-- what every gate reads, and what gates read where one is stuck
abbrev plain : ℕ → List Bool → List Bool
plain x bs = bs

abbrev stuck : ℕ → ℕ → Bool → ℕ → List Bool → List Bool
stuck y p b x bs = if nat_eq x y then slice_set bs p b else bs

stuck_length : (y p : ℕ) (b : Bool) (x : ℕ) (bs : List Bool) → length (stuck y p b x bs) ≡ length bs
stuck_length y p b x bs = by_test (nat_eq x y)
  where
    by_test : (t : Bool) → length (if t then slice_set bs p b else bs) ≡ length bs
    by_test true = set_length bs p b
    by_test false = refl

plain_length : (x : ℕ) (bs : List Bool) → length (plain x bs) ≡ length bs
plain_length x bs = refl

module _ (m : Model) (net : Net) (w : IsWritable m net) where
  abbrev M : Model
  M = model_of_net m net

  abbrev GoodWords : (Word → Bool) → Type 0
  GoodWords v = WordValues m net w plain plain_length v

  good_words : (v : Word → Bool) → IsConsistent M v → GoodWords v
  good_words v h = record {
    of_gates = λ x c i g. all_at (λ (d : Cover). v d.output ≡ value_of d (map v d.inputs)) M.covers c h (in_left (covers_of_gates m net) (covers_of_copies m net) c i);
    of_copies = λ c i copy. all_at (λ (d : Cover). v d.output ≡ value_of d (map v d.inputs)) M.covers c h (in_right (covers_of_gates m net) (covers_of_copies m net) c i);
  }

  consistent : (v : Word → Bool) → GoodWords v → IsConsistent M v
  consistent v h = all_in_list (λ (c : Cover). v c.output ≡ value_of c (map v c.inputs)) M.covers (λ c i. cases c (in_append (covers_of_gates m net) (covers_of_copies m net) c i))
    where
      cases : (c : Cover) → In (covers_of_gates m net) c ⊎ In (covers_of_copies m net) c → v c.output ≡ value_of c (map v c.inputs)
      cases c (inl i) = let g = in_gates m net 0 net.nodes c (all_from_start net) i in h.of_gates g.0 c i g.1.1.1
      cases c (inr i) = h.of_copies c i (in_copies m net (names_before_copies m net) net.observed (observed_names m) c i)

  -- the gate covers are told apart by their outputs as their gates are by their numbers
  gate_small : (x : ℕ) (c : Cover) → IsGateCover m net x c → x < 2 ^ 64
  gate_small x c g = let within : x < length net.nodes = live_within net x g.node g.at in let few : length net.nodes < 2 ^ 64 = w.few.nodes in omega arith

  told_apart : (x y : ℕ) (c d : Cover) → IsGateCover m net x c → IsGateCover m net y d → is_word c.output d.output ≡ nat_eq x y
  told_apart x y c d g h = elim (eqb_tells x y) [
    | inl t ↦
        let out : c.output ≡ d.output = g.cover.out_is ∙ (ap (node_name m net) t.1 ∙ sym h.cover.out_is) in
        let same : is_word c.output d.output ≡ true = subst (λ (z : Word). is_word c.output z ≡ true) out (is_word-same c.output) in
        same ∙ sym t.0
    | inr f ↦ other (is_word c.output d.output) refl f.1 ∙ sym f.0
  ]
    where
      other : (b : Bool) → is_word c.output d.output ≡ b → x ≢ y → is_word c.output d.output ≡ false
      other true e ne = absurd (ne (one_gate m net w x y c d (gate_small x c g) (gate_small y d h) g h (same_word c.output d.output e)))
      other false e ne = e

  copy_other : (c d : Cover) → IsCopyCover m net (names_before_copies m net) net.observed (observed_names m) c → In (covers_of_gates m net) d → is_word c.output d.output ≡ false
  copy_other c d copy i = other (is_word c.output d.output) refl
    where
      other : (b : Bool) → is_word c.output d.output ≡ b → is_word c.output d.output ≡ false
      other true e =
          let name : copy.name ≡ d.output = sym (copy_out m net copy.node copy.name) ∙ (sym (ap (λ (k : Cover). k.output) copy.is) ∙ same_word c.output d.output e) in
          absurd (not_had (names_before_copies m net) copy.name copy.fresh (in_right (source_names m) (outputs_of (covers_of_gates m net)) copy.name (subst (In (outputs_of (covers_of_gates m net))) (sym name) (in_mapped (λ (k : Cover). k.output) (covers_of_gates m net) d i))))
      other false e = e

  module _ (y : ℕ) (d : Cover) (in_d : In (covers_of_gates m net) d) (of_d : IsGateCover m net y d) (p : ℕ) (b : Bool) where
    abbrev StuckWords : (Word → Bool) → Type 0
    StuckWords f = WordValues m net w (stuck y p b) (stuck_length y p b) f

    gate_reads : (f : Word → Bool) (x : ℕ) (c : Cover) → IsGateCover m net x c → stuck_reads d p b f c ≡ stuck y p b x (map f c.inputs)
    gate_reads f x c g = ap (λ (t : Bool). if t then slice_set (map f c.inputs) p b else map f c.inputs) (told_apart x y c d g of_d)

    copy_reads : (f : Word → Bool) (c : Cover) → IsCopyCover m net (names_before_copies m net) net.observed (observed_names m) c → stuck_reads d p b f c ≡ map f c.inputs
    copy_reads f c copy = ap (λ (t : Bool). if t then slice_set (map f c.inputs) p b else map f c.inputs) (copy_other c d copy in_d)

    stuck_words : (f : Word → Bool) → IsFaultyValuation M d p b f → StuckWords f
    stuck_words f h = record {
      of_gates = λ x c i g. at c (in_left (covers_of_gates m net) (covers_of_copies m net) c i) ∙ ap (value_of c) (gate_reads f x c g);
      of_copies = λ c i copy. at c (in_right (covers_of_gates m net) (covers_of_copies m net) c i) ∙ ap (value_of c) (copy_reads f c copy);
    }
      where
        at : (c : Cover) → In M.covers c → f c.output ≡ value_of c (stuck_reads d p b f c)
        at c i = all_at (λ (k : Cover). f k.output ≡ value_of k (stuck_reads d p b f k)) M.covers c h i

    faulty : (f : Word → Bool) → StuckWords f → IsFaultyValuation M d p b f
    faulty f h = all_in_list (λ (c : Cover). f c.output ≡ value_of c (stuck_reads d p b f c)) M.covers (λ c i. cases c (in_append (covers_of_gates m net) (covers_of_copies m net) c i))
      where
        cases : (c : Cover) → In (covers_of_gates m net) c ⊎ In (covers_of_copies m net) c → f c.output ≡ value_of c (stuck_reads d p b f c)
        cases c (inl i) = let g = in_gates m net 0 net.nodes c (all_from_start net) i in h.of_gates g.0 c i g.1.1.1 ∙ ap (value_of c) (sym (gate_reads f g.0 c g.1.1.1))
        cases c (inr i) =
            let copy = in_copies m net (names_before_copies m net) net.observed (observed_names m) c i in h.of_copies c i copy ∙ ap (value_of c) (sym (copy_reads f c copy))

    module _ (a : ℕ → Bool) (vector : List Bool) (gives : Gives a vector) where
      -- sources have the values of the vector
      extends : length vector ≡ source_count net → (v : ℕ → Bool) (f : Word → Bool) → ((k : ℕ) → node_at net (2 + k) ≡ plain_node Source → v (2 + k) ≡ a (2 + k)) → ((x : Word) (n : ℕ) → Names m net w x n → f x ≡ v n) → Extends M vector f
      extends count v f source named = map_is f (source_names m) vector (count ∙ w.fit.sources) at
        where
          at : (k : ℕ) (x : Word) (t : Bool) → slice_get (source_names m) k ≡ Some x → slice_get vector k ≡ Some t → f x ≡ t
          at k x t e g =
              let within : k < length (source_names m) = slice_get_within (source_names m) k x e in
              let sources : source_count net ≡ length (source_names m) = w.fit.sources in
              let is : node_at net (2 + k) ≡ plain_node Source = w.formed.sources.first k (omega arith) in
              named x (2 + k) (inl (source_name m net w.fit w.few.names k x e, inl (k, (refl, within)))) ∙ (source k is ∙ gives k t g)

      assigned_source : (f : Word → Bool) → Extends M vector f → (k : ℕ) (x : Word) → slice_get (source_names m) k ≡ Some x → a (2 + k) ≡ f x
      assigned_source f h k x e = gives k (f x) (sym (ap (λ (bs : List Bool). slice_get bs k) h) ∙ map_get f (source_names m) k x e)

      pub to_model : length vector ≡ source_count net → Detects net (fault_at y p b) a → DetectsIn M vector d p b
      to_model count (v, (f, (run, (n, (observed, differs))))) =
          let good = words_of m net w v in
          let bad = words_of m net w f in
          let good_values : NetValues m net w plain plain_length a v = run.good in
          let bad_values : NetValues m net w (stuck y p b) (stuck_length y p b) a f = run.faulty in
          let within : observed.0 < length (observed_names m) = subst (λ (k : ℕ). observed.0 < k) w.fit.observed (slice_get_within net.observed observed.0 n observed.1) in
          let x = stands_below (observed_names m) observed.0 within in
          let names : Names m net w x.0 n = inr (observed.0, (observed.1, x.1)) in (
            good.0,
            (
              bad.0,
              (
                record {
                  good = consistent good.0 (word_values m net w plain plain_length a v good_values good.0 good.1);
                  faulty = faulty bad.0 (word_values m net w (stuck y p b) (stuck_length y p b) a f bad_values bad.0 bad.1);
                  good_extends = extends count v good.0 (λ k is. good_values (2 + k) ∙ rw is refl) good.1;
                  faulty_extends = extends count f bad.0 (λ k is. bad_values (2 + k) ∙ rw is refl) bad.1;
                },
                (x.0, ((observed.0, x.1), λ same. differs (sym (good.1 x.0 n names) ∙ (same ∙ bad.1 x.0 n names)))),
              ),
            ),
          )

      pub to_net : DetectsIn M vector d p b → Detects net (fault_at y p b) a
      to_net (v, (f, (run, (x, (observed, differs))))) =
          let good = good_words v run.good in
          let bad = stuck_words f run.faulty in
          let same_good = assigned_source v run.good_extends in
          let same_bad = assigned_source f run.faulty_extends in
          let within : observed.0 < length net.observed = subst (λ (k : ℕ). observed.0 < k) (sym w.fit.observed) (slice_get_within (observed_names m) observed.0 x observed.1) in
          let n = stands_below net.observed observed.0 within in
          let good_is : v x ≡ nodes_of m net w plain plain_length v n.0 = observed_value m net w plain plain_length a v good same_good observed.0 n.0 x n.1 observed.1 in
          let bad_is : f x ≡ nodes_of m net w (stuck y p b) (stuck_length y p b) f n.0 = observed_value m net w (stuck y p b) (stuck_length y p b) a f bad same_bad observed.0 n.0 x n.1 observed.1 in (
            nodes_of m net w plain plain_length v,
            (
              nodes_of m net w (stuck y p b) (stuck_length y p b) f,
              (
                record { good = net_values m net w plain plain_length a v good same_good; faulty = net_values m net w (stuck y p b) (stuck_length y p b) a f bad same_bad },
                (n.0, ((observed.0, n.1), λ same. differs (good_is ∙ (same ∙ sym bad_is)))),
              ),
            ),
          )

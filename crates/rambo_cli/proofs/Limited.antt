-- The text that is written has no fault, not even a limit.
use Rattle.std.proofs.Common.{◌≡◌, ◌≤◌, ◌+◌, ℕ, Bool, true, false, not, ◌&&◌, ◌||◌, List, [], ◌∷◌, ◌++◌, map, length, max, All, refl, sym, ◌∙◌, ap, arith, length-append, inl, inr}
use Rattle.std.specs.Prelude.{Option, None, Some}
use Rattle.std.specs.List.{list_all, filter_map, flat_map}
use Rattle.std.proofs.lemmas.Bool.{le-ltb}
use Rattle.std.proofs.lemmas.List.Folds.{list_all-append}
use Rattle.std.proofs.lemmas.List.Elements.{All-head, All-tail, All-weaker}
use Rattle.std.proofs.lemmas.Slice.Eq.{bytes_eq-Decides}
use Rattle.rm_base.specs.declared.numbers.Place.{Place}
use Rattle.rm_model.specs.Words.{is_word}
use Rattle.rm_model.specs.Value.{is_among, source_names, observed_names, control_of}
use Rattle.rm_model.specs.WellFormed.{IsWellFormed, driven_names}
use Rattle.rm_model.specs.declared.parts.Cover.{Cover}
use Rattle.rm_model.specs.declared.parts.Latch.{Latch}
use Rattle.rm_model.specs.declared.parts.Model.{Model}
use Rattle.gate_net.specs.Net.{Net, wire_count}
use Rattle.blif_format.specs.Laws.{IsAtMostLimit}
use Rattle.blif_format.specs.declared.refusal.Quantity.{Quantity}
use Rattle.blif_format.specs.declared.refusal.ReadRefusal.{ReadRefusal}
use Rattle.blif_format.specs.declared.refusal.ReadRefusal.TheVariants.{Fault, Limit, NoMemory}
use Rattle.blif_reader.specs.Limits.{is_short, IsWithinLimits}
use Rattle.graph_to_model.specs.Laws.{IsNamed, IsSmall}
use Rattle.graph_to_model.specs.NetModel.{model_of_net}
use Rattle.rm_base.proofs.Public.{and_first, and_second, both_and}
use Rattle.rm_base.specs.Words.{Word}

-- what is a limit at most, and none, is nothing
pub no_fault : (found : Option ReadRefusal) → IsAtMostLimit found → ((quantity : Quantity) (count : ℕ) (place : Place) → found ≡ Some (Limit quantity count place) → ⊥) → found ≡ None
no_fault None most never = refl
no_fault (Some (Limit quantity count place)) most never = absurd (never quantity count place refl)
no_fault (Some (Fault kind place)) most never = absurd most
no_fault (Some NoMemory) most never = absurd most

-- what all words of a list have, a word among them has
among_has : (p : Word → Bool) (x : Word) (xs : List Word) → is_among xs x ≡ true → list_all p xs ≡ true → p x ≡ true
among_has p x [] i a = cc
among_has p x (y ∷ ys) i a = at (is_word x y) refl i (among_has p x ys)
  where
    at : (b : Bool) → is_word x y ≡ b → (b || is_among ys x) ≡ true → (is_among ys x ≡ true → list_all p ys ≡ true → p x ≡ true) → p x ≡ true
    at true e j rest = ap p ((bytes_eq-Decides x y).0 e) ∙ and_first (p y) (list_all p ys) a
    at false e j rest = rest j (and_second (p y) (list_all p ys) a)

module _ (m : Model) (formed : IsWellFormed m) (within : IsWithinLimits m) where
  -- an observed name is short, since it is driven
  observed_short : (x : Word) → is_among (observed_names m) x ≡ true → is_short x ≡ true
  observed_short x e = among_has is_short x (driven_names m) (among_has (is_among (driven_names m)) x (observed_names m) e all) within.names
    where
      all : list_all (is_among (driven_names m)) (observed_names m) ≡ true
      all =
          let p = is_among (driven_names m) in
          let o = m.outputs in
          let i = flat_map (λ (c : Cover). c.inputs) m.covers in
          let l = map (λ (l : Latch). l.input) m.latches in
          let k = filter_map control_of m.latches in
          let whole : (list_all p ((o ++ i) ++ l) && list_all p k) ≡ true = sym (list_all-append p ((o ++ i) ++ l) k) ∙ formed.all_driven in
          let three : (list_all p (o ++ i) && list_all p l) ≡ true = sym (list_all-append p (o ++ i) l) ∙ and_first (list_all p ((o ++ i) ++ l)) (list_all p k) whole in
          let two : (list_all p o && list_all p i) ≡ true = sym (list_all-append p o i) ∙ and_first (list_all p (o ++ i)) (list_all p l) three in
          list_all-append p (o ++ l) k
          ∙ both_and (list_all p (o ++ l)) (list_all p k) (list_all-append p o l ∙ both_and (list_all p o) (list_all p l) (and_first (list_all p o) (list_all p i) two) (and_second (list_all p (o ++ i)) (list_all p l) three)) (and_second (list_all p ((o ++ i) ++ l)) (list_all p k) whole)

  named_short : (x : Word) → IsNamed m x → is_short x ≡ true
  named_short x (inl e) = observed_short x e
  named_short x (inr h) = ap not (le-ltb 1024 (length x) (omega arith))

  outputs_short : (cs : List Cover) → All (λ (c : Cover). IsNamed m c.output) cs → list_all is_short (map (λ (c : Cover). c.output) cs) ≡ true
  outputs_short [] h = refl
  outputs_short (c ∷ cs) h =
      both_and (is_short c.output) (list_all is_short (map (λ (c : Cover). c.output) cs)) (named_short c.output (All-head (λ (c : Cover). IsNamed m c.output) c cs h))
      (outputs_short cs (All-tail (λ (c : Cover). IsNamed m c.output) c cs h))

  length_map : (cs : List Cover) → length (map (λ (c : Cover). c.output) cs) ≡ length cs
  length_map [] = refl
  length_map (c ∷ cs) = let rest : length (map (λ (c : Cover). c.output) cs) ≡ length cs = length_map cs in omega arith

  -- the model that is written is within the limits
  pub written_within : (net : Net) → IsSmall net m → wire_count net ≤ 65536 → IsWithinLimits (model_of_net m net)
  written_within net small few = record {
    title = within.title;
    names =
        list_all-append is_short (source_names m) (map (λ (c : Cover). c.output) (model_of_net m net).covers)
        ∙ both_and (list_all is_short (source_names m)) (list_all is_short (map (λ (c : Cover). c.output) (model_of_net m net).covers))
        (and_first (list_all is_short (source_names m)) (list_all is_short (map (λ (c : Cover). c.output) m.covers)) (sym (list_all-append is_short (source_names m) (map (λ (c : Cover). c.output) m.covers)) ∙ within.names))
        (outputs_short (model_of_net m net).covers small.outputs);
    inputs = All-weaker (λ (c : Cover). length c.inputs ≤ max 1 (wire_count net)) (λ (c : Cover). length c.inputs ≤ 65536) (λ c h. omega arith) (model_of_net m net).covers small.inputs;
    sources = within.sources;
    observed = within.observed;
    signals =
        let covers : length (model_of_net m net).covers ≤ wire_count net + length (observed_names m) = small.covers in
        let s : length (source_names m) ≤ 1024 = within.sources in
        let o : length (observed_names m) ≤ 4096 = within.observed in
        let whole : length (source_names m ++ map (λ (c : Cover). c.output) (model_of_net m net).covers) ≡ length (source_names m) + length (map (λ (c : Cover). c.output) (model_of_net m net).covers) = length-append (source_names m) (map (λ (c : Cover). c.output) (model_of_net m net).covers) in
        let count : length (map (λ (c : Cover). c.output) (model_of_net m net).covers) ≡ length (model_of_net m net).covers = length_map (model_of_net m net).covers in
        omega arith;
  }

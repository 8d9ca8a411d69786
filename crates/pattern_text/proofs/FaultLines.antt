-- The lines of faults, cover by cover.
use Rattle.std.proofs.Common.{◌≡◌, ◌∙◌, ℕ, zero, suc, ◌+◌, ◌-◌, ◌≤◌, ◌<◌, Bool, true, false, List, [], ◌∷◌, ◌++◌, length, filter, drop, cond, Option, Some, refl, sym, ap, ap₂, arith}
use Rattle.std.specs.Prelude.{slice_get}
use Rattle.rm_model.specs.declared.parts.Cover.{Cover}
use Rattle.model_faults.specs.ModelFaults.{ModelFault, faults_of_covers, input_faults, is_gate_cover}
use Rattle.std.proofs.lemmas.List.{append_assoc, append-nil}
use Rattle.rm_base.proofs.Public.{drop_end}
use Rattle.pattern_text.specs.Text.{fault_line, fault_lines}
use Rattle.pattern_text.proofs.Adding.{all_there, drop_next, piece_more}

no_firsts : (fs : List ModelFault) → fault_lines fs [] ≡ []
no_firsts [] = refl
no_firsts (f ∷ fs) = refl

-- the lines of some faults, and then of others
pub lines_join : (fs gs : List ModelFault) (firsts : List (Option ℕ)) → fault_lines (fs ++ gs) firsts ≡ fault_lines fs firsts ++ fault_lines gs (drop (length fs) firsts)
lines_join [] gs firsts = refl
lines_join (f ∷ fs) gs [] = sym (no_firsts gs)
lines_join (f ∷ fs) gs (x ∷ firsts) = ap (λ (t : List ℕ). fault_line f x ++ t) (lines_join fs gs firsts) ∙ sym (append_assoc (fault_line f x) (fault_lines fs firsts) (fault_lines gs (drop (length fs) firsts)))

-- those of one input, and then those of the others
pub input_more : (c : Cover) (position count : ℕ) (text more whole : List ℕ) (left next : List (Option ℕ)) → position < count → more ≡ text ++ fault_lines (input_faults c position 1) left → next ≡ drop 2 left
    → text ++ fault_lines (input_faults c position (count - position)) left ≡ whole → more ++ fault_lines (input_faults c (position + 1) (count - (position + 1))) next ≡ whole
input_more c position count text more whole left next lt e f g =
    let less : count - position ≡ suc (count - (position + 1)) = omega (arith, lt) in
    let here : input_faults c position (count - position) ≡ input_faults c position 1 ++ input_faults c (suc position) (count - (position + 1)) = ap (λ (n : ℕ). input_faults c position n) less in
    let one : suc position ≡ position + 1 = omega arith in
    let lines : fault_lines (input_faults c position (count - position)) left ≡ fault_lines (input_faults c position 1) left ++ fault_lines (input_faults c (position + 1) (count - (position + 1))) next =
    ap (λ (fs : List ModelFault). fault_lines fs left) here ∙ lines_join (input_faults c position 1) (input_faults c (suc position) (count - (position + 1))) left
    ∙ ap₂ (λ (p : ℕ) (xs : List (Option ℕ)). fault_lines (input_faults c position 1) left ++ fault_lines (input_faults c p (count - (position + 1))) xs) one (sym f) in
    piece_more text more (fault_lines (input_faults c position 1) left) (fault_lines (input_faults c (position + 1) (count - (position + 1))) next) (fault_lines (input_faults c position (count - position)) left) whole e lines g

pub inputs_there : (c : Cover) (position count : ℕ) (text whole : List ℕ) (left : List (Option ℕ)) → count ≤ position → text ++ fault_lines (input_faults c position (count - position)) left ≡ whole → text ≡ whole
inputs_there c position count text whole left le =
    let nothing : count - position ≡ 0 = omega (arith, le) in
    all_there text (fault_lines (input_faults c position (count - position)) left) whole (ap (λ (n : ℕ). fault_lines (input_faults c position n) left) nothing)

-- ---- covers

abbrev pub gates : List Cover → List ModelFault
gates cs = faults_of_covers (filter is_gate_cover cs)

pub one_gate : (c : Cover) → is_gate_cover c ≡ true → gates (c ∷ []) ≡ input_faults c 0 (length c.inputs)
one_gate c e = rw e (append-nil (input_faults c 0 (length c.inputs)))

pub no_gate : (c : Cover) → is_gate_cover c ≡ false → gates (c ∷ []) ≡ []
no_gate c e = rw e refl

gates_join : (c : Cover) (cs : List Cover) → gates (c ∷ cs) ≡ gates (c ∷ []) ++ gates cs
gates_join c cs = go (is_gate_cover c)
  where
    go : (t : Bool) → faults_of_covers (cond t (c ∷ filter is_gate_cover cs) (filter is_gate_cover cs)) ≡ faults_of_covers (cond t (c ∷ []) []) ++ gates cs
    go true = ap (λ (fs : List ModelFault). fs ++ gates cs) (sym (append-nil (input_faults c 0 (length c.inputs))))
    go false = refl

-- an input has two faults
pub count_inputs : (c : Cover) (position count : ℕ) → length (input_faults c position count) ≡ count + count
count_inputs c position zero = refl
count_inputs c position (suc count) = let rest = count_inputs c (suc position) count in let two : suc (suc (count + count)) ≡ suc count + suc count = omega arith in ap (λ (n : ℕ). suc (suc n)) rest ∙ two

drop_again : {A : Type 0} (m n : ℕ) (xs : List A) → drop m (drop n xs) ≡ drop (n + m) xs
drop_again m zero xs = let none : m ≡ 0 + m = omega arith in ap (λ (n : ℕ). drop n xs) none
drop_again m (suc n) [] = drop_end [] m (omega arith) ∙ sym (drop_end [] (suc n + m) (omega arith))
drop_again m (suc n) (x ∷ xs) = let one : suc (n + m) ≡ suc n + m = omega arith in drop_again m n xs ∙ ap (λ (k : ℕ). drop k (x ∷ xs)) one

pub behind_gate : (c : Cover) (firsts after next : List (Option ℕ)) → is_gate_cover c ≡ true → after ≡ drop (length c.inputs) firsts → next ≡ drop (length c.inputs) after → next ≡ drop (length (gates (c ∷ []))) firsts
behind_gate c firsts after next e f g =
    g ∙ ap (λ (xs : List (Option ℕ)). drop (length c.inputs) xs) f ∙ drop_again (length c.inputs) (length c.inputs) firsts
    ∙ ap (λ (n : ℕ). drop n firsts) (sym (ap (λ (fs : List ModelFault). length fs) (one_gate c e) ∙ count_inputs c 0 (length c.inputs)))

pub cover_more : (covers : List Cover) (at : ℕ) (c : Cover) (text more whole : List ℕ) (left next : List (Option ℕ)) → slice_get covers at ≡ Some c → more ≡ text ++ fault_lines (gates (c ∷ [])) left
    → next ≡ drop (length (gates (c ∷ []))) left → text ++ fault_lines (gates (drop at covers)) left ≡ whole → more ++ fault_lines (gates (drop (at + 1) covers)) next ≡ whole
cover_more covers at c text more whole left next there e f g =
    let lines : fault_lines (gates (drop at covers)) left ≡ fault_lines (gates (c ∷ [])) left ++ fault_lines (gates (drop (at + 1) covers)) next =
    ap (λ (cs : List Cover). fault_lines (gates cs) left) (drop_next covers at c there) ∙ ap (λ (fs : List ModelFault). fault_lines fs left) (gates_join c (drop (at + 1) covers))
    ∙ lines_join (gates (c ∷ [])) (gates (drop (at + 1) covers)) left ∙ ap (λ (xs : List (Option ℕ)). fault_lines (gates (c ∷ [])) left ++ fault_lines (gates (drop (at + 1) covers)) xs) (sym f) in
    piece_more text more (fault_lines (gates (c ∷ [])) left) (fault_lines (gates (drop (at + 1) covers)) next) (fault_lines (gates (drop at covers)) left) whole e lines g

pub covers_there : (covers : List Cover) (at : ℕ) (text whole : List ℕ) (left : List (Option ℕ)) → length covers ≤ at → text ++ fault_lines (gates (drop at covers)) left ≡ whole → text ≡ whole
covers_there covers at text whole left le = all_there text (fault_lines (gates (drop at covers)) left) whole (ap (λ (cs : List Cover). fault_lines (gates cs) left) (drop_end covers at le))

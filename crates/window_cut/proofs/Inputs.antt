-- New names, as they are gathered.
use Rattle.std.proofs.Common.{◌≡◌, ◌+◌, ℕ, suc, Bool, true, false, ◌||◌, List, [], ◌∷◌, ◌++◌, drop, take, length, filter, option_to_list, refl, sym, ap, ◌∙◌, arith, ◌<◌, append_assoc, append-nil, flat_map, Vec, Global}
use Rattle.std.specs.Prelude.{Option, None, Some, slice_get, slice_index, if◌then◌else◌}
use Rattle.rm_base.proofs.Public.{drop_stands, take_one_more}
use Rattle.rm_base.specs.Words.{Word}
use Rattle.rm_model.specs.Value.{is_among}
use Rattle.rm_model.specs.declared.parts.Cover.{Cover}
use Rattle.std.proofs.lemmas.Grind.{flat_map-append}
use Rattle.std.proofs.lemmas.List.Elements.{filter-append}
use Rattle.std.proofs.lemmas.List.{map-append}
use Rattle.rm_model.specs.Value.{observed_names, outputs_of}
use Rattle.rm_model.specs.declared.parts.Model.{Model}
use Rattle.window_cut.proofs.Lists.{among_joined, covers_at-drop, covers_at-next, filter_same, outputs-joined}
use Rattle.window_cut.specs.Inner.Models.{model_with, models_with}
use Rattle.window_cut.specs.Inner.Places.{windows_at}
use Rattle.window_cut.specs.Order.{covers_at}
use Rattle.window_cut.specs.Windows.{models_from, new_names, read_names, wanted_names, window_inputs, window_model, window_name}

-- only what is among the known names counts
pub new_names-same : (a b xs : List Word) → ((x : Word) → is_among a x ≡ is_among b x) → new_names a xs ≡ new_names b xs
new_names-same a b [] h = refl
new_names-same a b (x ∷ xs) h = ap (λ (t : Bool). if t then new_names a xs else x ∷ new_names (a ++ x ∷ []) xs) (h x) ∙ by_test (is_among b x) (new_names-same a b xs h) (new_names-same (a ++ x ∷ []) (b ++ x ∷ []) xs more)
  where
    more : (y : Word) → is_among (a ++ x ∷ []) y ≡ is_among (b ++ x ∷ []) y
    more y = among_joined a (x ∷ []) y ∙ (ap (λ (t : Bool). t || is_among (x ∷ []) y) (h y) ∙ sym (among_joined b (x ∷ []) y))

    by_test : (t : Bool) → new_names a xs ≡ new_names b xs → new_names (a ++ x ∷ []) xs ≡ new_names (b ++ x ∷ []) xs → (if t then new_names a xs else x ∷ new_names (a ++ x ∷ []) xs) ≡ (if t then new_names b xs else x ∷ new_names (b ++ x ∷ []) xs)
    by_test true e f = e
    by_test false e f = ap (λ (l : List Word). x ∷ l) f

pub new_names-append : (known xs ys : List Word) → new_names known (xs ++ ys) ≡ new_names known xs ++ new_names (known ++ new_names known xs) ys
new_names-append known [] ys = ap (λ (l : List Word). new_names l ys) (sym (append-nil known))
new_names-append known (x ∷ xs) ys = by_test (is_among known x) (new_names-append known xs ys) (new_names-append (known ++ x ∷ []) xs ys)
  where
    by_test : (t : Bool) → new_names known (xs ++ ys) ≡ new_names known xs ++ new_names (known ++ new_names known xs) ys
        → new_names (known ++ x ∷ []) (xs ++ ys) ≡ new_names (known ++ x ∷ []) xs ++ new_names ((known ++ x ∷ []) ++ new_names (known ++ x ∷ []) xs) ys
        → (if t then new_names known (xs ++ ys) else x ∷ new_names (known ++ x ∷ []) (xs ++ ys)) ≡ (if t then new_names known xs else x ∷ new_names (known ++ x ∷ []) xs) ++ new_names (known ++ (if t then new_names known xs else x ∷ new_names (known ++ x ∷ []) xs)) ys
    by_test true e f = e
    by_test false e f = ap (λ (l : List Word). x ∷ l) (f ∙ ap (λ (k : List Word). new_names (known ++ x ∷ []) xs ++ new_names k ys) (append_assoc known (x ∷ []) (new_names (known ++ x ∷ []) xs)))

-- GATHERING

pub given_next : (cs : List Cover) (ks : List ℕ) (i : ℕ) (x : Word) (old : Bool) → i < length ks → old ≡ is_among (outputs_of (covers_at cs (take i ks))) x
    → (old || is_among (outputs_of (option_to_list (slice_get cs (slice_index ks i)))) x) ≡ is_among (outputs_of (covers_at cs (take (i + 1) ks))) x
given_next cs ks i x old lt e =
    ap (λ (b : Bool). b || is_among (outputs_of (option_to_list (slice_get cs (slice_index ks i)))) x) e
    ∙ (sym (among_joined (outputs_of (covers_at cs (take i ks))) (outputs_of (option_to_list (slice_get cs (slice_index ks i)))) x)
    ∙ ap (λ (l : List Word). is_among l x) (sym (outputs-joined (covers_at cs (take i ks)) (option_to_list (slice_get cs (slice_index ks i)))) ∙ ap (λ (l : List Cover). outputs_of l) (sym (covers_at-next cs ks i lt))))

pub inputs_start : (cs : List Cover) (ks : List ℕ) (known out : List Word) → out ≡ [] → ((x : Word) → is_among known x ≡ is_among (outputs_of (covers_at cs ks)) x) → out ++ new_names known (read_names (covers_at cs (drop 0 ks))) ≡ window_inputs (covers_at cs ks)
inputs_start cs ks known out none same =
    ap (λ (l : List Word). l ++ new_names known (read_names (covers_at cs (drop 0 ks)))) none
    ∙ (ap (λ (l : List ℕ). new_names known (read_names (covers_at cs l))) (whole ks)
    ∙ new_names-same known (outputs_of (covers_at cs ks)) (read_names (covers_at cs ks)) same)
  where
    whole : (ks : List ℕ) → drop 0 ks ≡ ks
    whole [] = refl
    whole (k ∷ ks) = refl

pub inputs_next : (cs : List Cover) (ks : List ℕ) (i : ℕ) (known more out longer all : List Word) → i < length ks
    → more ≡ known ++ new_names known (read_names (option_to_list (slice_get cs (slice_index ks i))))
    → longer ≡ out ++ new_names known (read_names (option_to_list (slice_get cs (slice_index ks i))))
    → out ++ new_names known (read_names (covers_at cs (drop i ks))) ≡ all
    → longer ++ new_names more (read_names (covers_at cs (drop (i + 1) ks))) ≡ all
inputs_next cs ks i known more out longer all lt e f h =
    let here : List Word = read_names (option_to_list (slice_get cs (slice_index ks i))) in
    let later : List Word = read_names (covers_at cs (drop (i + 1) ks)) in
    ap (λ (l : List Word). l ++ new_names more later) f
    ∙ (ap (λ (l : List Word). (out ++ new_names known here) ++ new_names l later) e
    ∙ (append_assoc out (new_names known here) (new_names (known ++ new_names known here) later)
    ∙ (ap (λ (l : List Word). out ++ l) (sym (new_names-append known here later) ∙ ap (new_names known) (sym (flat_map-append (λ (c : Cover). c.inputs) (option_to_list (slice_get cs (slice_index ks i))) (covers_at cs (drop (i + 1) ks))) ∙ ap (λ (l : List Cover). read_names l) (sym (covers_at-drop cs ks i lt))))
    ∙ h)))

pub wanted_next : (m : Model) (ws : List (Vec ℕ Global)) (i : ℕ) (w : Vec ℕ Global) (inputs : List Word) (x : Word) (old : Bool) → slice_get ws i ≡ Some w → inputs ≡ window_inputs (covers_at m.covers w.items)
    → old ≡ is_among (wanted_names m (windows_at m.covers (take i ws))) x → (old || is_among inputs x) ≡ is_among (wanted_names m (windows_at m.covers (take (i + 1) ws))) x
wanted_next m ws i w inputs x old at e h =
    let before : List (List Cover) = windows_at m.covers (take i ws) in
    let longer : windows_at m.covers (take (i + 1) ws) ≡ before ++ covers_at m.covers w.items ∷ [] = ap (windows_at m.covers) (take_one_more ws i w at) ∙ map-append (λ (v : Vec ℕ Global). covers_at m.covers v.items) (take i ws) (w ∷ []) in
    ap (λ (b : Bool). b || is_among inputs x) h
    ∙ (ap (λ (l : List Word). is_among (wanted_names m before) x || is_among l x) e
    ∙ (sym (among_joined (wanted_names m before) (window_inputs (covers_at m.covers w.items)) x)
    ∙ ap (λ (l : List Word). is_among l x)
    (append_assoc (observed_names m) (flat_map window_inputs before) (window_inputs (covers_at m.covers w.items))
    ∙ (ap (λ (l : List Word). observed_names m ++ (flat_map window_inputs before ++ l)) (sym (append-nil (window_inputs (covers_at m.covers w.items))))
    ∙ (ap (λ (l : List Word). observed_names m ++ l) (sym (flat_map-append window_inputs before (covers_at m.covers w.items ∷ [])))
    ∙ ap (wanted_names m) (sym longer))))))

pub outputs_next : (wanted : List Word) (cs : List Cover) (ks : List ℕ) (i : ℕ) (old new : List Word) → i < length ks → new ≡ old ++ filter (is_among wanted) (outputs_of (option_to_list (slice_get cs (slice_index ks i))))
    → old ≡ filter (is_among wanted) (outputs_of (covers_at cs (take i ks))) → new ≡ filter (is_among wanted) (outputs_of (covers_at cs (take (i + 1) ks)))
outputs_next wanted cs ks i old new lt e h =
    e
    ∙ (ap (λ (l : List Word). l ++ filter (is_among wanted) (outputs_of (option_to_list (slice_get cs (slice_index ks i))))) h
    ∙ (sym (filter-append (is_among wanted) (outputs_of (covers_at cs (take i ks))) (outputs_of (option_to_list (slice_get cs (slice_index ks i)))))
    ∙ ap (filter (is_among wanted)) (sym (outputs-joined (covers_at cs (take i ks)) (option_to_list (slice_get cs (slice_index ks i)))) ∙ ap (λ (l : List Cover). outputs_of l) (sym (covers_at-next cs ks i lt)))))

-- MODELS

pub models_next : (wanted : List Word) (cs : List Cover) (ws : List (Vec ℕ Global)) (i : ℕ) (w : Vec ℕ Global) (made more all : List Model) → slice_get ws i ≡ Some w → more ≡ made ++ model_with wanted (i + 1) (covers_at cs w.items) ∷ []
    → made ++ models_with wanted (i + 1) (windows_at cs (drop i ws)) ≡ all → more ++ models_with wanted (i + 1 + 1) (windows_at cs (drop (i + 1) ws)) ≡ all
models_next wanted cs ws i w made more all at e h =
    let next : suc i ≡ i + 1 = omega arith in
    let count : i + 1 + 1 ≡ suc (i + 1) = omega arith in
    let rest : drop i ws ≡ w ∷ drop (i + 1) ws = drop_stands ws i w at ∙ ap (λ (n : ℕ). w ∷ drop n ws) next in
    ap (λ (l : List Model). l ++ models_with wanted (i + 1 + 1) (windows_at cs (drop (i + 1) ws))) e
    ∙ (append_assoc made (model_with wanted (i + 1) (covers_at cs w.items) ∷ []) (models_with wanted (i + 1 + 1) (windows_at cs (drop (i + 1) ws)))
    ∙ (ap (λ (n : ℕ). made ++ model_with wanted (i + 1) (covers_at cs w.items) ∷ models_with wanted n (windows_at cs (drop (i + 1) ws))) count
    ∙ (ap (λ (l : List (Vec ℕ Global)). made ++ models_with wanted (i + 1) (windows_at cs l)) (sym rest)
    ∙ h)))

pub models_same : (m : Model) (all : List (List Cover)) (wanted : List Word) (n : ℕ) (ws : List (List Cover)) → ((x : Word) → is_among wanted x ≡ is_among (wanted_names m all) x) → models_with wanted n ws ≡ models_from m all n ws
models_same m all wanted n [] h = refl
models_same m all wanted n (w ∷ ws) h =
    ap (λ (outputs : List Word). record { name = window_name n; inputs = window_inputs w; clocks = []; outputs = outputs; latches = []; covers = w } ∷ models_with wanted (suc n) ws) (filter_same (is_among wanted) (is_among (wanted_names m all)) (outputs_of w) h)
    ∙ ap (λ (l : List Model). window_model m all n w ∷ l) (models_same m all wanted (suc n) ws h)

-- ONE PLACE

pub none_pushed : {A : Type 0} (xs : List A) (o : Option A) → None ≡ o → xs ≡ xs ++ option_to_list o
none_pushed xs None e = sym (append-nil xs)
none_pushed xs (Some x) e = absurd cc

pub none_known : (known out : List Word) (o : Option Cover) → None ≡ o → out ≡ out ++ new_names known (read_names (option_to_list o))
none_known known out None e = sym (append-nil out)
none_known known out (Some c) e = absurd cc

pub some_known : (known out longer inputs : List Word) (c : Cover) (o : Option Cover) → Some c ≡ o → inputs ≡ c.inputs → longer ≡ out ++ new_names known inputs → longer ≡ out ++ new_names known (read_names (option_to_list o))
some_known known out longer inputs c None e f g = absurd cc
some_known known out longer inputs c (Some d) e f g = let same : c ≡ d = cc in g ∙ ap (λ (l : List Word). out ++ new_names known l) (f ∙ (sym (append-nil c.inputs) ∙ ap (λ (b : Cover). read_names (b ∷ [])) same))

pub none_wanted : (wanted out : List Word) (o : Option Cover) → None ≡ o → out ≡ out ++ filter (is_among wanted) (outputs_of (option_to_list o))
none_wanted wanted out None e = sym (append-nil out)
none_wanted wanted out (Some c) e = absurd cc

pub some_wanted : (wanted out longer : List Word) (c : Cover) (o : Option Cover) → Some c ≡ o → is_among wanted c.output ≡ true → longer ≡ out ++ c.output ∷ [] → longer ≡ out ++ filter (is_among wanted) (outputs_of (option_to_list o))
some_wanted wanted out longer c None e t f = absurd cc
some_wanted wanted out longer c (Some d) e t f = let same : c ≡ d = cc in f ∙ (ap (λ (b : Bool). out ++ (if b then c.output ∷ [] else [])) (sym t) ∙ ap (λ (b : Cover). out ++ filter (is_among wanted) (outputs_of (b ∷ []))) same)

pub some_unwanted : (wanted out : List Word) (c : Cover) (o : Option Cover) → Some c ≡ o → is_among wanted c.output ≡ false → out ≡ out ++ filter (is_among wanted) (outputs_of (option_to_list o))
some_unwanted wanted out c None e t = absurd cc
some_unwanted wanted out c (Some d) e t = let same : c ≡ d = cc in sym (append-nil out) ∙ (ap (λ (b : Bool). out ++ (if b then c.output ∷ [] else [])) (sym t) ∙ ap (λ (b : Cover). out ++ filter (is_among wanted) (outputs_of (b ∷ []))) same)

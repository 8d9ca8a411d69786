-- The parts of the words are judged as the rules say: where a rule is broken nothing is taken, and else each value has its row.
use Rattle.std.proofs.Common.{◌^◌, ◌≡◌, ◌∙◌, ◌==◌, ◌&&◌, ◌<◌, ◌≤◌, ◌+◌, ◌⊎◌, inl, inr, ℕ, zero, suc, Bool, true, false, cond, refl, sym, ap, ap₂, subst, List, [], ◌∷◌, ◌++◌, length, min, Option, Some, None, is_some, arith}
use Rattle.std.specs.Prelude.{option_map, slice_get}
use Rattle.std.specs.List.{list_any}
use Rattle.std.specs.Str.{bytes_eq}
use Rattle.std.proofs.lemmas.List.{append-nil, length-append}
use Rattle.std.proofs.lemmas.Slice.Eq.{bytes_eq-Decides}
use Rattle.std.proofs.lemmas.Bool.Decides.{Decides-eqb}
use Rattle.clap.specs.Lexer.{usize_max}
use Rattle.clap.specs.Walk.{Row, Rule, Text, arg_by_index, arg_by_long, has_row}
use Rattle.clap.specs.ValueTests.{is_unsigned_in}
use Rattle.word_reading.proofs.Levels.{append_one}
use Rattle.word_reading.specs.Inner.Judged.{judged, judged_use}
use Rattle.word_reading.specs.Words.{Part, name, setting, at_most_once, OptionRule, given, has_keys, is_word, names, option_rules, setting_keys}
use Rattle.word_reading.proofs.Numbers.{bad_value, number_none, twice}
use Rattle.word_reading.proofs.Slots.{IsPlain, fits, get_before, get_none, given-append, has_keys-append, has_row-is, length_past, names-append, pushed_other, pushed_same, row_for, row_with, use_refused, use_repeated, use_taken}
use Rattle.rm_base.proofs.Public.{seam_stands}

-- ---- the rules of the words

-- it is one of the options
abbrev pub IsOption : OptionRule → Type 0
IsOption j = (i : ℕ) × (slice_get option_rules i ≡ Some j)

-- the rules, those of the options, and those of the names by their places
pub record Form : Type 0 where
  pub rules : List Rule
  pub option : OptionRule → Rule
  pub named : List Rule

pub data KeyCase (f : Form) (k : Text) : Type 0 where
  known : (j : OptionRule) → IsOption j → k ≡ j.key → KeyCase f k
  unknown : arg_by_long f.rules k ≡ None → list_any (is_word k) setting_keys ≡ false → KeyCase f k

pub record IsForm (f : Form) : Type 0 where
  pub key_case : (k : Text) → KeyCase f k
  pub option_found : (j : OptionRule) → IsOption j → arg_by_long f.rules j.key ≡ Some (f.option j)
  pub option_listed : (j : OptionRule) → IsOption j → list_any (is_word j.key) setting_keys ≡ true
  pub option_small : (j : OptionRule) → IsOption j → j.most < 2 ^ 64
  pub option_apart : (j k : OptionRule) → IsOption j → IsOption k → (j ≡ k) ⊎ (bytes_eq j.key k.key ≡ false)
  pub option_plain : (j : OptionRule) → IsOption j → IsPlain (f.option j)
  pub option_id : (j : OptionRule) → IsOption j → (f.option j).id ≡ j.key
  pub option_fits : (j : OptionRule) → IsOption j → (v : Text) → fits (f.option j) v ≡ is_unsigned_in j.least j.most v
  pub name_found : (i : ℕ) → arg_by_index f.rules (suc i) ≡ slice_get f.named i
  pub name_plain : (i : ℕ) (a : Rule) → slice_get f.named i ≡ Some a → IsPlain a
  pub name_few : (i : ℕ) (a : Rule) → slice_get f.named i ≡ Some a → i < 4
  pub name_apart : (i : ℕ) (a : Rule) → slice_get f.named i ≡ Some a → (j : OptionRule) → IsOption j → bytes_eq a.id j.key ≡ false
  pub name_once : (i k : ℕ) (a b : Rule) → slice_get f.named i ≡ Some a → slice_get f.named k ≡ Some b → (k ≡ i → ⊥) → bytes_eq a.id b.id ≡ false

-- ---- what stands in the rows, and what is wrong with the parts

abbrev pub first_row : Text → List Text → Option Row
first_row id [] = None
first_row id (v ∷ vs) = Some (row_for id v)

-- the values that are given for a key: at most one
pub data IsValue (f : Form) (j : OptionRule) : List Text → Type 0 where
  absent : IsValue f j []
  once : (v : Text) → fits (f.option j) v ≡ true → IsValue f j (v ∷ [])

pub record Holds (f : Form) (rows : List Row) (done : List Part) : Type 0 where
  pub options : (j : OptionRule) → IsOption j → row_with j.key rows ≡ first_row j.key (given j.key done)
  pub values : (j : OptionRule) → IsOption j → IsValue f j (given j.key done)
  pub named : (i : ℕ) (a : Rule) → slice_get f.named i ≡ Some a → row_with a.id rows ≡ option_map (row_for a.id) (slice_get (names done) i)
  pub name_fits : (i : ℕ) (a : Rule) (v : Text) → slice_get f.named i ≡ Some a → slice_get (names done) i ≡ Some v → fits a v ≡ true
  pub known : has_keys setting_keys done ≡ true
  pub few : (i : ℕ) → slice_get f.named i ≡ None → length (names done) ≤ i

pub data IsFaulty (f : Form) (all : List Part) : Type 0 where
  unknown_key : has_keys setting_keys all ≡ false → IsFaulty f all
  crowded : (i : ℕ) → slice_get f.named i ≡ None → i < length (names all) → IsFaulty f all
  bad_option : (j : OptionRule) → IsOption j → at_most_once j.least j.most j.usual (given j.key all) ≡ None → IsFaulty f all
  bad_name : (i : ℕ) (a : Rule) (v : Text) → slice_get f.named i ≡ Some a → slice_get (names all) i ≡ Some v → fits a v ≡ false → IsFaulty f all

pub data Verdict (f : Form) (all : List Part) : Option (List Row) → Type 0 where
  refuses : IsFaulty f all → Verdict f all None
  takes : (rows : List Row) → Holds f rows all → Verdict f all (Some rows)

-- ---- keys

pub same_text : (a : Text) → bytes_eq a a ≡ true
same_text a = (bytes_eq-Decides a a).1 refl

pub apart_both : (a b : Text) → bytes_eq a b ≡ false → bytes_eq b a ≡ false
apart_both a b e = go (bytes_eq b a) refl
  where
    go : (t : Bool) → bytes_eq b a ≡ t → bytes_eq b a ≡ false
    go false f = f
    go true f = let same : b ≡ a = (bytes_eq-Decides b a).0 f in let bad : bytes_eq a b ≡ true = (bytes_eq-Decides a b).1 (sym same) in cc

-- ---- one more part

module _ (f : Form) (form : IsForm f) (rows : List Row) (done : List Part) (h : Holds f rows done) where
  module _ (w : Text) (a : Rule) (e : slice_get f.named (length (names done)) ≡ Some a) (ok : fits a w ≡ true) where
    names_now : names (done ++ name w ∷ []) ≡ names done ++ w ∷ []
    unfolding names
    names_now = names-append done (name w ∷ [])

    given_now : (key : Text) → given key (done ++ name w ∷ []) ≡ given key done
    unfolding given
    given_now key = given-append key done (name w ∷ []) ∙ append-nil (given key done)

    known_now : has_keys setting_keys (done ++ name w ∷ []) ≡ true
    unfolding has_keys
    known_now = has_keys-append setting_keys done (name w ∷ []) ∙ ap (λ b. b && true) h.known

    next_name : slice_get (names (done ++ name w ∷ [])) (length (names done)) ≡ Some w
    next_name = ap (λ xs. slice_get xs (length (names done))) names_now ∙ seam_stands (names done) w []

    other_name : (k : ℕ) → (k ≡ length (names done) → ⊥) → slice_get (names (done ++ name w ∷ [])) k ≡ slice_get (names done) k
    other_name k ne = ap (λ xs. slice_get xs k) names_now ∙ get_before (names done) w k ne

    no_row : row_with a.id rows ≡ None
    no_row = h.named (length (names done)) a e ∙ ap (option_map (row_for a.id)) (get_none (names done))

    named_now : (k : ℕ) (b : Rule) → slice_get f.named k ≡ Some b → row_with b.id (rows ++ row_for a.id w ∷ []) ≡ option_map (row_for b.id) (slice_get (names (done ++ name w ∷ [])) k)
    named_now k b g = go (k == length (names done)) refl
      where
        same : k ≡ length (names done) → row_with b.id (rows ++ row_for a.id w ∷ []) ≡ option_map (row_for b.id) (slice_get (names (done ++ name w ∷ [])) k)
        same s =
            let here : slice_get f.named (length (names done)) ≡ Some b = subst (λ n. slice_get f.named n ≡ Some b) s g in
            let rule : a ≡ b = cc in
            subst (λ (r : Rule). row_with r.id (rows ++ row_for a.id w ∷ []) ≡ option_map (row_for r.id) (slice_get (names (done ++ name w ∷ [])) k)) rule
            (pushed_same a.id w rows no_row (same_text a.id) ∙ sym (ap (option_map (row_for a.id)) (ap (slice_get (names (done ++ name w ∷ []))) s ∙ next_name)))

        go : (t : Bool) → (k == length (names done)) ≡ t → row_with b.id (rows ++ row_for a.id w ∷ []) ≡ option_map (row_for b.id) (slice_get (names (done ++ name w ∷ [])) k)
        go true s = same ((Decides-eqb k (length (names done))).0 s)
        go false s =
            let ne : k ≡ length (names done) → ⊥ = λ q. let bad = (Decides-eqb k (length (names done))).1 q in cc in
            pushed_other b.id a.id w rows (form.name_once (length (names done)) k a b e g ne) ∙ h.named k b g ∙ sym (ap (option_map (row_for b.id)) (other_name k ne))

    fits_now : (k : ℕ) (b : Rule) (v : Text) → slice_get f.named k ≡ Some b → slice_get (names (done ++ name w ∷ [])) k ≡ Some v → fits b v ≡ true
    fits_now k b v g is = go (k == length (names done)) refl
      where
        same : k ≡ length (names done) → fits b v ≡ true
        same s =
            let here : slice_get f.named (length (names done)) ≡ Some b = subst (λ n. slice_get f.named n ≡ Some b) s g in
            let rule : a ≡ b = cc in
            let there : slice_get (names (done ++ name w ∷ [])) (length (names done)) ≡ Some v = subst (λ n. slice_get (names (done ++ name w ∷ [])) n ≡ Some v) s is in
            let now = next_name in
            let text : w ≡ v = cc in
            subst (λ (x : Text). fits b x ≡ true) text (subst (λ (r : Rule). fits r w ≡ true) rule ok)

        go : (t : Bool) → (k == length (names done)) ≡ t → fits b v ≡ true
        go true s = same ((Decides-eqb k (length (names done))).0 s)
        go false s =
            let ne : k ≡ length (names done) → ⊥ = λ q. let bad = (Decides-eqb k (length (names done))).1 q in cc in
            h.name_fits k b v g (sym (other_name k ne) ∙ is)

    few_now : (k : ℕ) → slice_get f.named k ≡ None → length (names (done ++ name w ∷ [])) ≤ k
    few_now k g =
        let le = h.few k g in
        let ne : k ≡ length (names done) → ⊥ = λ q. let bad : slice_get f.named (length (names done)) ≡ None = subst (λ n. slice_get f.named n ≡ None) q g in cc in
        let size : length (names (done ++ name w ∷ [])) ≡ length (names done) + 1 = ap length names_now ∙ length-append (names done) (w ∷ []) in
        omega arith

    pub after_name : Holds f (rows ++ row_for a.id w ∷ []) (done ++ name w ∷ [])
    after_name = record {
      options = λ j on. pushed_other j.key a.id w rows (form.name_apart (length (names done)) a e j on) ∙ h.options j on ∙ sym (ap (first_row j.key) (given_now j.key));
      values = λ j on. subst (IsValue f j) (sym (given_now j.key)) (h.values j on);
      named = named_now;
      name_fits = fits_now;
      known = known_now;
      few = few_now;
    }

    pub name_taken : (next : List Row → Option (List Row)) → judged_use (Some a) w rows next ≡ next (rows ++ row_for a.id w ∷ [])
    name_taken next = use_taken a w rows next (form.name_plain (length (names done)) a e) no_row ok

    pub one_more : suc (length (names done)) ≡ length (names (done ++ name w ∷ []))
    one_more = let size : length (names (done ++ name w ∷ [])) ≡ length (names done) + 1 = ap length names_now ∙ length-append (names done) (w ∷ []) in omega arith

  module _ (j : OptionRule) (on : IsOption j) (v : Text) (new : given j.key done ≡ []) (ok : fits (f.option j) v ≡ true) where
    names_same : names (done ++ setting j.key v ∷ []) ≡ names done
    unfolding names
    names_same = names-append done (setting j.key v ∷ []) ∙ append-nil (names done)

    given_same : given j.key (done ++ setting j.key v ∷ []) ≡ v ∷ []
    unfolding given
    given_same = given-append j.key done (setting j.key v ∷ []) ∙ ap₂ (λ xs (b : Bool). xs ++ cond b (v ∷ []) []) new (same_text j.key)

    given_other : (k : OptionRule) → bytes_eq j.key k.key ≡ false → given k.key (done ++ setting j.key v ∷ []) ≡ given k.key done
    unfolding given
    given_other k ne = given-append k.key done (setting j.key v ∷ []) ∙ ap (λ b. given k.key done ++ cond b (v ∷ []) []) ne ∙ append-nil (given k.key done)

    known_same : has_keys setting_keys (done ++ setting j.key v ∷ []) ≡ true
    unfolding has_keys
    known_same = has_keys-append setting_keys done (setting j.key v ∷ []) ∙ ap₂ (λ b c. b && (c && true)) h.known (form.option_listed j on)

    free : row_with j.key rows ≡ None
    free = h.options j on ∙ ap (first_row j.key) new

    options_now : (k : OptionRule) → IsOption k → row_with k.key (rows ++ row_for j.key v ∷ []) ≡ first_row k.key (given k.key (done ++ setting j.key v ∷ []))
    options_now k there = go (form.option_apart j k on there)
      where
        go : (j ≡ k) ⊎ (bytes_eq j.key k.key ≡ false) → row_with k.key (rows ++ row_for j.key v ∷ []) ≡ first_row k.key (given k.key (done ++ setting j.key v ∷ []))
        go (inl s) = subst (λ (x : OptionRule). row_with x.key (rows ++ row_for j.key v ∷ []) ≡ first_row x.key (given x.key (done ++ setting j.key v ∷ []))) s
            (pushed_same j.key v rows free (same_text j.key) ∙ sym (ap (first_row j.key) given_same))
        go (inr ne) = pushed_other k.key j.key v rows ne ∙ h.options k there ∙ sym (ap (first_row k.key) (given_other k ne))

    values_now : (k : OptionRule) → IsOption k → IsValue f k (given k.key (done ++ setting j.key v ∷ []))
    values_now k there = go (form.option_apart j k on there)
      where
        go : (j ≡ k) ⊎ (bytes_eq j.key k.key ≡ false) → IsValue f k (given k.key (done ++ setting j.key v ∷ []))
        go (inl s) = subst (λ (x : OptionRule). IsValue f x (given x.key (done ++ setting j.key v ∷ []))) s (subst (IsValue f j) (sym given_same) (once v ok))
        go (inr ne) = subst (IsValue f k) (sym (given_other k ne)) (h.values k there)

    pub after_setting : Holds f (rows ++ row_for j.key v ∷ []) (done ++ setting j.key v ∷ [])
    after_setting = record {
      options = options_now;
      values = values_now;
      named = λ i b g. pushed_other b.id j.key v rows (apart_both b.id j.key (form.name_apart i b g j on)) ∙ h.named i b g ∙ sym (ap (λ xs. option_map (row_for b.id) (slice_get xs i)) names_same);
      name_fits = λ i b x g is. h.name_fits i b x g (ap (λ xs. slice_get xs i) (sym names_same) ∙ is);
      known = known_same;
      few = λ i g. subst (λ (xs : List Text). length xs ≤ i) (sym names_same) (h.few i g);
    }

    pub setting_taken : (next : List Row → Option (List Row)) → judged_use (Some (f.option j)) v rows next ≡ next (rows ++ row_for j.key v ∷ [])
    setting_taken next =
        let id = form.option_id j on in
        use_taken (f.option j) v rows next (form.option_plain j on) (ap (λ x. row_with x rows) id ∙ free) ok ∙ ap (λ x. next (rows ++ row_for x v ∷ [])) id

    pub as_many : length (names done) ≡ length (names (done ++ setting j.key v ∷ []))
    as_many = ap length (sym names_same)

-- ---- all parts

next_place : (i : ℕ) → i < 4 → min (suc i + 1) usize_max ≡ suc (suc i)
next_place i lt = grind arith

module _ (f : Form) (form : IsForm f) (ps done : List Part) (rows : List Row) (h : Holds f rows done) where
  abbrev Later : Type 0
  Later = (after : List Part) (rs : List Row) → Holds f rs after → Verdict f (after ++ ps) (judged f.rules (suc (length (names after))) rs ps)

  module _ (w : Text) where
    abbrev next_rows : List Row → Option (List Row)
    next_rows after = judged f.rules (min (suc (length (names done)) + 1) usize_max) after ps

    names_all : names (done ++ name w ∷ ps) ≡ names done ++ w ∷ names ps
    unfolding names
    names_all = names-append done (name w ∷ ps)

    by_rule : (o : Option Rule) → slice_get f.named (length (names done)) ≡ o → judged f.rules (suc (length (names done))) rows (name w ∷ ps) ≡ judged_use o w rows next_rows
    unfolding judged
    by_rule o e = ap (λ r. judged_use r w rows next_rows) (form.name_found (length (names done)) ∙ e)

    name_none : slice_get f.named (length (names done)) ≡ None → Verdict f (done ++ name w ∷ ps) (judged f.rules (suc (length (names done))) rows (name w ∷ ps))
    name_none e = subst (Verdict f (done ++ name w ∷ ps)) (sym (by_rule None e))
        (refuses (crowded (length (names done)) e (subst (λ (xs : List Text). length (names done) < length xs) (sym names_all) (length_past (names done) w (names ps)))))

    name_bad : (a : Rule) → slice_get f.named (length (names done)) ≡ Some a → fits a w ≡ false → Verdict f (done ++ name w ∷ ps) (judged f.rules (suc (length (names done))) rows (name w ∷ ps))
    name_bad a e bad = subst (Verdict f (done ++ name w ∷ ps)) (sym (by_rule (Some a) e ∙ use_refused a w rows next_rows (form.name_plain (length (names done)) a e) bad))
        (refuses (bad_name (length (names done)) a w e (ap (λ xs. slice_get xs (length (names done))) names_all ∙ seam_stands (names done) w (names ps)) bad))

    name_good : Later → (a : Rule) → slice_get f.named (length (names done)) ≡ Some a → fits a w ≡ true → Verdict f (done ++ name w ∷ ps) (judged f.rules (suc (length (names done))) rows (name w ∷ ps))
    name_good later a e ok =
        let place = next_place (length (names done)) (form.name_few (length (names done)) a e) ∙ ap suc (one_more f form rows done h w a e ok) in
        let same = by_rule (Some a) e ∙ name_taken f form rows done h w a e ok next_rows ∙ ap (λ p. judged f.rules p (rows ++ row_for a.id w ∷ []) ps) place in
        subst (λ (all : List Part). Verdict f all (judged f.rules (suc (length (names done))) rows (name w ∷ ps))) (append_one done (name w) ps)
        (subst (Verdict f ((done ++ name w ∷ []) ++ ps)) (sym same) (later (done ++ name w ∷ []) (rows ++ row_for a.id w ∷ []) (after_name f form rows done h w a e ok)))

    pub judge_name : Later → Verdict f (done ++ name w ∷ ps) (judged f.rules (suc (length (names done))) rows (name w ∷ ps))
    judge_name later = go (slice_get f.named (length (names done))) refl
      where
        fitting : (a : Rule) → slice_get f.named (length (names done)) ≡ Some a → (t : Bool) → fits a w ≡ t → Verdict f (done ++ name w ∷ ps) (judged f.rules (suc (length (names done))) rows (name w ∷ ps))
        fitting a e true ok = name_good later a e ok
        fitting a e false bad = name_bad a e bad

        go : (o : Option Rule) → slice_get f.named (length (names done)) ≡ o → Verdict f (done ++ name w ∷ ps) (judged f.rules (suc (length (names done))) rows (name w ∷ ps))
        go None e = name_none e
        go (Some a) e = fitting a e (fits a w) refl

  module _ (k v : Text) where
    abbrev Judged : Type 0
    Judged = Verdict f (done ++ setting k v ∷ ps) (judged f.rules (suc (length (names done))) rows (setting k v ∷ ps))

    abbrev more_rows : List Row → Option (List Row)
    more_rows after = judged f.rules (suc (length (names done))) after ps

    by_option : (o : Option Rule) → arg_by_long f.rules k ≡ o → judged f.rules (suc (length (names done))) rows (setting k v ∷ ps) ≡ judged_use o v rows more_rows
    unfolding judged
    by_option o e = ap (λ r. judged_use r v rows more_rows) e

    setting_unknown : arg_by_long f.rules k ≡ None → list_any (is_word k) setting_keys ≡ false → Judged
    unfolding has_keys
    setting_unknown e none = subst (Verdict f (done ++ setting k v ∷ ps)) (sym (by_option None e))
        (refuses (unknown_key (has_keys-append setting_keys done (setting k v ∷ ps) ∙ ap₂ (λ b c. b && (c && has_keys setting_keys ps)) h.known none)))

    module _ (j : OptionRule) (on : IsOption j) (is : k ≡ j.key) where
      found : arg_by_long f.rules k ≡ Some (f.option j)
      found = ap (arg_by_long f.rules) is ∙ form.option_found j on

      given_all : given j.key (done ++ setting k v ∷ ps) ≡ given j.key done ++ v ∷ given j.key ps
      unfolding given
      given_all = given-append j.key done (setting k v ∷ ps)
          ∙ ap (λ b. given j.key done ++ cond b (v ∷ given j.key ps) (given j.key ps)) (ap (λ x. bytes_eq x j.key) is ∙ same_text j.key)

      setting_bad : fits (f.option j) v ≡ false → given j.key done ≡ [] → Judged
      setting_bad bad new = subst (Verdict f (done ++ setting k v ∷ ps)) (sym (by_option (Some (f.option j)) found ∙ use_refused (f.option j) v rows more_rows (form.option_plain j on) bad))
          (refuses (bad_option j on (ap (at_most_once j.least j.most j.usual) (given_all ∙ ap (λ xs. xs ++ v ∷ given j.key ps) new)
          ∙ bad_value j.least j.most j.usual v (given j.key ps) (number_none j.least j.most v (form.option_small j on) (sym (form.option_fits j on v) ∙ bad)))))

      setting_again : (x : Text) (xs : List Text) → given j.key done ≡ x ∷ xs → Judged
      setting_again x xs old =
          let there : has_row (f.option j).id rows ≡ true = ap (λ id. has_row id rows) (form.option_id j on) ∙ has_row-is j.key rows ∙ ap is_some (h.options j on ∙ ap (first_row j.key) old) in
          subst (Verdict f (done ++ setting k v ∷ ps)) (sym (by_option (Some (f.option j)) found ∙ use_repeated (f.option j) v rows more_rows (form.option_plain j on) there))
          (refuses (bad_option j on (ap (at_most_once j.least j.most j.usual) (given_all ∙ ap (λ ys. ys ++ v ∷ given j.key ps) old)
          ∙ twice j.least j.most j.usual x xs v (given j.key ps))))

      setting_good : Later → fits (f.option j) v ≡ true → given j.key done ≡ [] → Judged
      setting_good later ok new =
          let same = by_option (Some (f.option j)) found ∙ setting_taken f form rows done h j on v new ok more_rows
          ∙ ap (λ n. judged f.rules (suc n) (rows ++ row_for j.key v ∷ []) ps) (as_many f form rows done h j on v new ok) in
          let parts : (done ++ setting j.key v ∷ []) ++ ps ≡ done ++ setting k v ∷ ps = append_one done (setting j.key v) ps ∙ ap (λ x. done ++ setting x v ∷ ps) (sym is) in
          subst (λ (all : List Part). Verdict f all (judged f.rules (suc (length (names done))) rows (setting k v ∷ ps))) parts
          (subst (Verdict f ((done ++ setting j.key v ∷ []) ++ ps)) (sym same)
          (later (done ++ setting j.key v ∷ []) (rows ++ row_for j.key v ∷ []) (after_setting f form rows done h j on v new ok)))

      setting_known : Later → Judged
      setting_known later = go (given j.key done) refl
        where
          fitting : given j.key done ≡ [] → (t : Bool) → fits (f.option j) v ≡ t → Judged
          fitting new true ok = setting_good later ok new
          fitting new false bad = setting_bad bad new

          go : (vs : List Text) → given j.key done ≡ vs → Judged
          go [] e = fitting e (fits (f.option j) v) refl
          go (x ∷ xs) e = setting_again x xs e

    pub judge_setting : Later → Judged
    judge_setting later = go (form.key_case k)
      where
        go : KeyCase f k → Judged
        go (known j on is) = setting_known j on is later
        go (unknown e none) = setting_unknown e none

module _ (f : Form) (form : IsForm f) where
  pub judge : (ps done : List Part) (rows : List Row) → Holds f rows done → Verdict f (done ++ ps) (judged f.rules (suc (length (names done))) rows ps)
  unfolding judged
  judge [] done rows h = subst (λ (ps : List Part). Verdict f ps (Some rows)) (sym (append-nil done)) (takes rows h)
  judge (name w ∷ ps) done rows h = judge_name f form ps done rows h w (λ after rs hs. judge ps after rs hs)
  judge (setting k v ∷ ps) done rows h = judge_setting f form ps done rows h k v (λ after rs hs. judge ps after rs hs)

  -- at the start nothing stands there
  start : Holds f [] []
  unfolding given names has_keys
  start = record {
    options = λ j on. refl;
    values = λ j on. absent;
    named = λ i a e. ap (option_map (row_for a.id)) (sym (get_nothing i));
    name_fits = λ i a v e g. let bad : None ≡ Some v = sym (get_nothing i) ∙ g in cc;
    known = refl;
    few = λ i e. omega arith;
  }
    where
      get_nothing : (i : ℕ) → slice_get {X = Text} [] i ≡ None
      get_nothing zero = refl
      get_nothing (suc i) = refl

  pub judged_is : (ps : List Part) → Verdict f ps (judged f.rules 1 [] ps)
  unfolding names
  judged_is ps = judge ps [] [] start

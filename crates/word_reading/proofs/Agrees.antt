-- What clap makes of the words is what the rules ask for.
use Rattle.std.proofs.Common.{lit<, ◌≡◌, ◌∙◌, ◌<◌, ◌≤◌, ◌^◌, ◌&&◌, ◌||◌, ◌⊎◌, inl, inr, ℕ, zero, suc, Bool, true, false, not, cond, refl, sym, ap, ap₂, subst, List, [], ◌∷◌, length, map, Option, Some, None, is_some, arith}
use Rattle.std.specs.Prelude.{codes, find, option_and_then, option_map, slice_get, unwrap_or}
use Rattle.std.specs.List.{AllByRecursion, list_all, list_any}
use Rattle.std.proofs.lemmas.Slice.Eq.{bytes_eq-Decides}
use Rattle.clap.specs.ValueTests.{is_unsigned_in}
use Rattle.clap.specs.Walk.{Row, Rule, Text, first_of}
use Rattle.rm_base.specs.declared.settings.Settings.{Settings}
use Rattle.word_reading.specs.declared.options.Options.{Options}
use Rattle.word_reading.specs.Inner.Judged.{accepted, judged, judged_parts, rules}
use Rattle.word_reading.specs.Inner.Commands.{command_in, has_only, made_by, names_in, number_at, options_in, settings_in, up_to_none}
use Rattle.word_reading.specs.Words.{Asked, CommandRule, OptionRule, Part, name, setting, all_together, asked, asked_by, at_most_once, budget_rule, check_by, command_rules, convert_by, cut_by, demo_by, depth_rule, equal_by, flat_by, given, has_keys, is_word, judge_by, merge_rule, names, opt_by, optcare_by, option_rules, perturb_rule, options_of, parts, question_keys, replay_by, rule_of, run_keys, setting_keys, settings_of, sew_by, shift_rule, tests_by, together, tries_rule, value_in, window_keys, work_rule, workers_rule}
use Rattle.word_reading.proofs.Numbers.{number_in_some, number_some}
use Rattle.word_reading.proofs.Slots.{fits, row_with, row_for}
use Rattle.word_reading.proofs.Judging.{IsOption, IsValue, absent, once, Holds, IsFaulty, unknown_key, crowded, bad_option, bad_name, Verdict, refuses, takes, first_row, judged_is, same_text}
use Rattle.word_reading.proofs.Forms.{each_name, each_option, form, form_is}
use Rattle.rm_base.proofs.Public.{some_is}

-- ---- the settings

no_setting : (d b t w m p l : Option ℕ) → (d ≡ None) ⊎ ((b ≡ None) ⊎ ((t ≡ None) ⊎ ((w ≡ None) ⊎ ((m ≡ None) ⊎ ((p ≡ None) ⊎ (l ≡ None)))))) → together d b t w m p l ≡ None
no_setting None b t w m p l e = refl
no_setting (Some d) None t w m p l e = refl
no_setting (Some d) (Some b) None w m p l e = refl
no_setting (Some d) (Some b) (Some t) None m p l e = refl
no_setting (Some d) (Some b) (Some t) (Some w) None p l e = refl
no_setting (Some d) (Some b) (Some t) (Some w) (Some m) None l e = refl
no_setting (Some d) (Some b) (Some t) (Some w) (Some m) (Some p) None e = refl
no_setting (Some d) (Some b) (Some t) (Some w) (Some m) (Some p) (Some l) (inl e) = cc
no_setting (Some d) (Some b) (Some t) (Some w) (Some m) (Some p) (Some l) (inr (inl e)) = cc
no_setting (Some d) (Some b) (Some t) (Some w) (Some m) (Some p) (Some l) (inr (inr (inl e))) = cc
no_setting (Some d) (Some b) (Some t) (Some w) (Some m) (Some p) (Some l) (inr (inr (inr (inl e)))) = cc
no_setting (Some d) (Some b) (Some t) (Some w) (Some m) (Some p) (Some l) (inr (inr (inr (inr (inl e))))) = cc
no_setting (Some d) (Some b) (Some t) (Some w) (Some m) (Some p) (Some l) (inr (inr (inr (inr (inr (inl e)))))) = cc
no_setting (Some d) (Some b) (Some t) (Some w) (Some m) (Some p) (Some l) (inr (inr (inr (inr (inr (inr e)))))) = cc

no_options : (s : Option Settings) (h : Option ℕ) → (s ≡ None) ⊎ (h ≡ None) → all_together s h ≡ None
no_options None h e = refl
no_options (Some s) None e = refl
no_options (Some s) (Some h) (inl e) = cc
no_options (Some s) (Some h) (inr e) = cc

options_none : (ps : List Part) (j : OptionRule) → IsOption j → value_in ps j ≡ None → options_of ps ≡ None
options_none ps =
    let d = value_in ps depth_rule in
    let b = value_in ps budget_rule in
    let t = value_in ps tries_rule in
    let w = value_in ps workers_rule in
    let m = value_in ps merge_rule in
    let p = value_in ps perturb_rule in
    let l = value_in ps work_rule in
    let h = value_in ps shift_rule in
    let failed : settings_of ps ≡ None → options_of ps ≡ None = λ e. no_options (settings_of ps) h (inl e) in
    each_option (λ (j : OptionRule). value_in ps j ≡ None → options_of ps ≡ None)
    ((λ e. failed (no_setting d b t w m p l (inl e))), ((λ e. failed (no_setting d b t w m p l (inr (inl e)))), ((λ e. failed (no_setting d b t w m p l (inr (inr (inl e))))), ((λ e. failed (no_setting d b t w m p l (inr (inr (inr (inl e)))))), ((λ e. failed (no_setting d b t w m p l (inr (inr (inr (inr (inl e))))))), ((λ e. failed (no_setting d b t w m p l (inr (inr (inr (inr (inr (inl e)))))))), ((λ e. failed (no_setting d b t w m p l (inr (inr (inr (inr (inr (inr e)))))))), ((λ e. no_options (settings_of ps) h (inr e)), tt))))))))

read_in_order : (a b c d : Option Text) (xs : List Text) → a ≡ slice_get xs 0 → b ≡ slice_get xs 1 → c ≡ slice_get xs 2 → d ≡ slice_get xs 3 → length xs ≤ 4 → up_to_none (a ∷ b ∷ c ∷ d ∷ []) ≡ xs
read_in_order a b c d [] e f g k few = rw e refl
read_in_order a b c d (x ∷ []) e f g k few = rw (e, f) refl
read_in_order a b c d (x ∷ y ∷ []) e f g k few = rw (e, f, g) refl
read_in_order a b c d (x ∷ y ∷ z ∷ []) e f g k few = rw (e, f, g, k) refl
read_in_order a b c d (x ∷ y ∷ z ∷ u ∷ []) e f g k few = rw (e, f, g, k) refl
read_in_order a b c d (x ∷ y ∷ z ∷ u ∷ v ∷ vs) e f g k few = absurd (omega arith)

module _ (ps : List Part) (rows : List Row) (h : Holds form rows ps) where
  one_value : (j : OptionRule) (on : IsOption j) (bits : ℕ) → j.most < 2 ^ bits → (vs : List Text) → IsValue form j vs → row_with j.key rows ≡ first_row j.key vs
      → at_most_once j.least j.most j.usual vs ≡ Some (unwrap_or (number_at bits j.key rows) j.usual)
  one_value j on bits lt vs absent e = rw e refl
  one_value j on bits lt vs (once v ok) e =
      let fit : is_unsigned_in j.least j.most v ≡ true = sym (form_is.option_fits j on v) ∙ ok in
      rw e (number_some j.least j.most v fit ∙ ap (λ o. Some (unwrap_or o j.usual)) (sym (number_in_some j.least j.most v bits lt fit)))

  value : (j : OptionRule) (on : IsOption j) (bits : ℕ) → j.most < 2 ^ bits → value_in ps j ≡ Some (unwrap_or (number_at bits j.key rows) j.usual)
  value j on bits lt = one_value j on bits lt (given j.key ps) (h.values j on) (h.options j on)

  settings_are : settings_of ps ≡ Some (settings_in rows)
  settings_are = rw (value depth_rule (0, refl) 8 (lit< tt), value budget_rule (1, refl) 32 (lit< tt), value tries_rule (2, refl) 32 (lit< tt), value workers_rule (3, refl) 8 (lit< tt), value merge_rule (4, refl) 8 (lit< tt), value perturb_rule (5, refl) 8 (lit< tt), value work_rule (6, refl) 32 (lit< tt)) refl

  options_are : options_of ps ≡ Some (options_in rows)
  options_are = rw (settings_are, value shift_rule (7, refl) 32 (lit< tt)) refl

  -- ---- the names

  text_row : (id : Text) (o : Option Text) → row_with id rows ≡ option_map (row_for id) o → first_of id rows ≡ o
  text_row id None e = ap (option_and_then (λ (r : Row). slice_get r.values 0)) e
  text_row id (Some v) e = ap (option_and_then (λ (r : Row). slice_get r.values 0)) e

  name_at : (i : ℕ) (a : Rule) → slice_get form.named i ≡ Some a → (ws : List Text) → names ps ≡ ws → first_of a.id rows ≡ slice_get ws i
  name_at i a e ws is = text_row a.id (slice_get ws i) (h.named i a e ∙ ap (λ xs. option_map (row_for a.id) (slice_get xs i)) is)

  names_by : (ws : List Text) → names ps ≡ ws → names_in rows ≡ ws
  names_by ws is = read_in_order (first_of (codes "first") rows) (first_of (codes "second") rows) (first_of (codes "third") rows) (first_of (codes "fourth") rows) ws
      (name_at 0 _ refl ws is) (name_at 1 _ refl ws is) (name_at 2 _ refl ws is) (name_at 3 _ refl ws is) (subst (λ (xs : List Text). length xs ≤ 4) is (h.few 4 refl))

  names_are : names_in rows ≡ names ps
  names_are = names_by (names ps) refl

-- ---- the keys of a command

abbrev IsIn : List Text → Text → Type 0
IsIn keys x = list_any (is_word x) keys ≡ true

-- what is given for a key that isn't one of these
given_other : (keys : List Text) (ps : List Part) → has_keys keys ps ≡ true → (x : Text) (v : Text) (vs : List Text) → given x ps ≡ v ∷ vs → IsIn keys x
unfolding has_keys given
given_other keys [] e x v vs is = cc
given_other keys (name w ∷ ps) e x v vs is = given_other keys ps e x v vs is
given_other keys (setting k u ∷ ps) e x v vs is = go (is_word k x) refl (list_any (is_word k) keys) refl e is (given_other keys ps)
  where
    go : (s : Bool) → is_word k x ≡ s → (t : Bool) → list_any (is_word k) keys ≡ t → (t && has_keys keys ps) ≡ true → cond s (u ∷ given x ps) (given x ps) ≡ v ∷ vs
        → (has_keys keys ps ≡ true → (x v : Text) (vs : List Text) → given x ps ≡ v ∷ vs → IsIn keys x) → IsIn keys x
    go true same true listed all is later = subst (IsIn keys) ((bytes_eq-Decides k x).0 same) listed
    go false same true listed all is later = later all x v vs is
    go s same false listed all is later = cc

-- a key that isn't one of these, and for which something is given
pub record Stray (keys : List Text) (ps : List Part) : Type 0 where
  pub key : Text
  pub stray : list_any (is_word key) keys ≡ false
  pub known : IsIn setting_keys key
  pub there : is_some (slice_get (given key ps) 0) ≡ true

stray_behind : (keys : List Text) (k u : Text) (ps : List Part) → Stray keys ps → Stray keys (setting k u ∷ ps)
unfolding given
stray_behind keys k u ps s = record { key = s.key; stray = s.stray; known = s.known; there = go (is_word k s.key) refl }
  where
    go : (t : Bool) → is_word k s.key ≡ t → is_some (slice_get (cond t (u ∷ given s.key ps) (given s.key ps)) 0) ≡ true
    go true e = refl
    go false e = s.there

stray_here : (keys : List Text) (k u : Text) (ps : List Part) → list_any (is_word k) keys ≡ false → IsIn setting_keys k → Stray keys (setting k u ∷ ps)
unfolding given
stray_here keys k u ps none known = record { key = k; stray = none; known = known; there = rw (same_text k) refl }

strays : (keys : List Text) (ps : List Part) → has_keys setting_keys ps ≡ true → has_keys keys ps ≡ false → Stray keys ps
unfolding has_keys given
strays keys [] all none = cc
strays keys (name w ∷ ps) all none = let s = strays keys ps all none in record { key = s.key; stray = s.stray; known = s.known; there = s.there }
strays keys (setting k u ∷ ps) all none = go (list_any (is_word k) setting_keys) refl (list_any (is_word k) keys) refl all none (strays keys ps)
  where
    go : (a : Bool) → list_any (is_word k) setting_keys ≡ a → (t : Bool) → list_any (is_word k) keys ≡ t → (a && has_keys setting_keys ps) ≡ true → (t && has_keys keys ps) ≡ false
        → (has_keys setting_keys ps ≡ true → has_keys keys ps ≡ false → Stray keys ps) → Stray keys (setting k u ∷ ps)
    go true known false e all none later = stray_here keys k u ps e known
    go true known true e all none later = stray_behind keys k u ps (later all none)
    go false known t e all none later = cc

-- a text that is a key is that of an option
option_of : (k : Text) (xs : List OptionRule) → list_any (is_word k) (map (λ (o : OptionRule). o.key) xs) ≡ true → (i : ℕ) × ((j : OptionRule) × ((slice_get xs i ≡ Some j) × (k ≡ j.key)))
option_of k [] e = cc
option_of k (x ∷ xs) e = go (is_word k x.key) refl e (option_of k xs)
  where
    go : (t : Bool) → is_word k x.key ≡ t → (t || list_any (is_word k) (map (λ (o : OptionRule). o.key) xs)) ≡ true
        → (list_any (is_word k) (map (λ (o : OptionRule). o.key) xs) ≡ true → (i : ℕ) × ((j : OptionRule) × ((slice_get xs i ≡ Some j) × (k ≡ j.key))))
        → (i : ℕ) × ((j : OptionRule) × ((slice_get (x ∷ xs) i ≡ Some j) × (k ≡ j.key)))
    go true is all later = (0, (x, (refl, (bytes_eq-Decides k x.key).0 is)))
    go false is all later = let h = later all in (suc h.0, (h.1.0, h.1.1))

-- one fails, and so do all together
one_fails : (P : OptionRule → Bool) (xs : List OptionRule) (i : ℕ) (j : OptionRule) → slice_get xs i ≡ Some j → P j ≡ false → list_all P xs ≡ false
one_fails P [] zero j e f = cc
one_fails P [] (suc i) j e f = cc
one_fails P (x ∷ xs) zero j e f = let here : P x ≡ false = subst (λ y. P y ≡ false) (sym (some_is x j e)) f in rw here refl
one_fails P (x ∷ xs) (suc i) j e f = go (P x) (one_fails P xs i j e f)
  where
    go : (t : Bool) → list_all P xs ≡ false → (t && list_all P xs) ≡ false
    go true h = h
    go false h = refl

all_pass : (P : OptionRule → Bool) (xs : List OptionRule) → ((i : ℕ) (j : OptionRule) → slice_get xs i ≡ Some j → P j ≡ true) → list_all P xs ≡ true
all_pass P [] h = refl
all_pass P (x ∷ xs) h = rw (h 0 x refl) (all_pass P xs (λ i j e. h (suc i) j e))

or_none : (a b : Bool) → a ≡ false → b ≡ true → (a || not b) ≡ false
or_none false true e f = refl
or_none true b e f = cc
or_none false false e f = cc

or_some : (a b : Bool) → (b ≡ true → a ≡ true) → (a || not b) ≡ true
or_some true b h = refl
or_some false false h = refl
or_some false true h = let bad = h refl in cc

module _ (ps : List Part) (rows : List Row) (h : Holds form rows ps) where
  first_given : (j : OptionRule) → IsOption j → first_of j.key rows ≡ slice_get (given j.key ps) 0
  first_given j on = go (given j.key ps) (h.options j on)
    where
      go : (vs : List Text) → row_with j.key rows ≡ first_row j.key vs → first_of j.key rows ≡ slice_get vs 0
      go [] e = ap (option_and_then (λ (r : Row). slice_get r.values 0)) e
      go (v ∷ vs) e = ap (option_and_then (λ (r : Row). slice_get r.values 0)) e

  only_these : (keys : List Text) → has_only keys rows ≡ has_keys keys ps
  only_these keys = go (has_keys keys ps) refl
    where
      fine : OptionRule → Bool
      fine j = list_any (is_word j.key) keys || not (is_some (first_of j.key rows))

      stood : (vs : List Text) → is_some (slice_get vs 0) ≡ true → (v : Text) × ((us : List Text) × (vs ≡ v ∷ us))
      stood [] e = cc
      stood (v ∷ vs) e = (v, (vs, refl))

      go : (t : Bool) → has_keys keys ps ≡ t → has_only keys rows ≡ t
      go true all = all_pass fine option_rules (λ i j on. or_some (list_any (is_word j.key) keys) (is_some (first_of j.key rows))
          (λ there. let s = stood (given j.key ps) (ap is_some (sym (first_given j (i, on))) ∙ there) in given_other keys ps all j.key s.0 s.1.0 s.1.1))
      go false none =
          let s = strays keys ps h.known none in
          let o = option_of s.key option_rules s.known in
          let apart : list_any (is_word o.1.0.key) keys ≡ false = subst (λ (x : Text). list_any (is_word x) keys ≡ false) o.1.1.1 s.stray in
          let there : is_some (first_of o.1.0.key rows) ≡ true = ap is_some (first_given o.1.0 (o.0, o.1.1.0)) ∙ subst (λ (x : Text). is_some (slice_get (given x ps) 0) ≡ true) o.1.1.1 s.there in
          one_fails fine option_rules o.0 o.1.0 o.1.1.0 (or_none (list_any (is_word o.1.0.key) keys) (is_some (first_of o.1.0.key rows)) apart there)

-- ---- the commands

-- a command takes at most four names, and no key that isn't an option's
pub record IsModest (c : CommandRule) : Type 0 where
  pub few : (ws : List Text) (o : Options) → 4 < length ws → c.made ws o ≡ None
  pub listed : (k : Text) → IsIn c.keys k → IsIn setting_keys k

opt_few : (ws : List Text) (o : Options) → 4 < length ws → opt_by ws o ≡ None
opt_few [] o lt = absurd (omega arith)
opt_few (a ∷ []) o lt = absurd (omega arith)
opt_few (a ∷ b ∷ []) o lt = absurd (omega arith)
opt_few (a ∷ b ∷ c ∷ []) o lt = absurd (omega arith)
opt_few (a ∷ b ∷ c ∷ d ∷ ws) o lt = refl

check_few : (ws : List Text) (o : Options) → 4 < length ws → check_by ws o ≡ None
check_few [] o lt = absurd (omega arith)
check_few (a ∷ []) o lt = absurd (omega arith)
check_few (a ∷ b ∷ []) o lt = absurd (omega arith)
check_few (a ∷ b ∷ c ∷ []) o lt = absurd (omega arith)
check_few (a ∷ b ∷ c ∷ d ∷ ws) o lt = refl

demo_few : (ws : List Text) (o : Options) → 4 < length ws → demo_by ws o ≡ None
demo_few [] o lt = absurd (omega arith)
demo_few (a ∷ []) o lt = absurd (omega arith)
demo_few (a ∷ b ∷ ws) o lt = refl

flat_few : (ws : List Text) (o : Options) → 4 < length ws → flat_by ws o ≡ None
flat_few [] o lt = absurd (omega arith)
flat_few (a ∷ []) o lt = absurd (omega arith)
flat_few (a ∷ b ∷ []) o lt = absurd (omega arith)
flat_few (a ∷ b ∷ c ∷ ws) o lt = refl

tests_few : (ws : List Text) (o : Options) → 4 < length ws → tests_by ws o ≡ None
tests_few [] o lt = absurd (omega arith)
tests_few (a ∷ []) o lt = absurd (omega arith)
tests_few (a ∷ b ∷ []) o lt = absurd (omega arith)
tests_few (a ∷ b ∷ c ∷ []) o lt = absurd (omega arith)
tests_few (a ∷ b ∷ c ∷ d ∷ []) o lt = absurd (omega arith)
tests_few (a ∷ b ∷ c ∷ d ∷ e ∷ ws) o lt = refl

replay_few : (ws : List Text) (o : Options) → 4 < length ws → replay_by ws o ≡ None
replay_few [] o lt = absurd (omega arith)
replay_few (a ∷ []) o lt = absurd (omega arith)
replay_few (a ∷ b ∷ []) o lt = absurd (omega arith)
replay_few (a ∷ b ∷ c ∷ []) o lt = absurd (omega arith)
replay_few (a ∷ b ∷ c ∷ d ∷ ws) o lt = refl

convert_few : (ws : List Text) (o : Options) → 4 < length ws → convert_by ws o ≡ None
convert_few [] o lt = absurd (omega arith)
convert_few (a ∷ []) o lt = absurd (omega arith)
convert_few (a ∷ b ∷ []) o lt = absurd (omega arith)
convert_few (a ∷ b ∷ c ∷ ws) o lt = refl

equal_few : (ws : List Text) (o : Options) → 4 < length ws → equal_by ws o ≡ None
equal_few [] o lt = absurd (omega arith)
equal_few (a ∷ []) o lt = absurd (omega arith)
equal_few (a ∷ b ∷ []) o lt = absurd (omega arith)
equal_few (a ∷ b ∷ c ∷ []) o lt = absurd (omega arith)
equal_few (a ∷ b ∷ c ∷ d ∷ ws) o lt = refl

judge_few : (ws : List Text) (o : Options) → 4 < length ws → judge_by ws o ≡ None
judge_few [] o lt = absurd (omega arith)
judge_few (a ∷ []) o lt = absurd (omega arith)
judge_few (a ∷ b ∷ []) o lt = absurd (omega arith)
judge_few (a ∷ b ∷ c ∷ []) o lt = absurd (omega arith)
judge_few (a ∷ b ∷ c ∷ d ∷ ws) o lt = refl

optcare_few : (ws : List Text) (o : Options) → 4 < length ws → optcare_by ws o ≡ None
optcare_few [] o lt = absurd (omega arith)
optcare_few (a ∷ []) o lt = absurd (omega arith)
optcare_few (a ∷ b ∷ []) o lt = absurd (omega arith)
optcare_few (a ∷ b ∷ c ∷ []) o lt = absurd (omega arith)
optcare_few (a ∷ b ∷ c ∷ d ∷ []) o lt = absurd (omega arith)
optcare_few (a ∷ b ∷ c ∷ d ∷ e ∷ ws) o lt = refl

cut_few : (ws : List Text) (o : Options) → 4 < length ws → cut_by ws o ≡ None
cut_few [] o lt = absurd (omega arith)
cut_few (a ∷ []) o lt = absurd (omega arith)
cut_few (a ∷ b ∷ []) o lt = absurd (omega arith)
cut_few (a ∷ b ∷ c ∷ []) o lt = absurd (omega arith)
cut_few (a ∷ b ∷ c ∷ d ∷ ws) o lt = refl

sew_few : (ws : List Text) (o : Options) → 4 < length ws → sew_by ws o ≡ None
sew_few [] o lt = absurd (omega arith)
sew_few (a ∷ []) o lt = absurd (omega arith)
sew_few (a ∷ b ∷ []) o lt = absurd (omega arith)
sew_few (a ∷ b ∷ c ∷ []) o lt = absurd (omega arith)
sew_few (a ∷ b ∷ c ∷ d ∷ []) o lt = absurd (omega arith)
sew_few (a ∷ b ∷ c ∷ d ∷ e ∷ ws) o lt = refl

-- of two keys in front of others, what is among the two is among all
among_first : (x y : Bool) (z : Bool) → (x || (y || false)) ≡ true → (x || (y || z)) ≡ true
among_first true y z e = refl
among_first false true z e = refl
among_first false false z e = cc

questions_listed : (k : Text) → IsIn question_keys k → IsIn setting_keys k
questions_listed k e = among_first (is_word k depth_rule.key) (is_word k budget_rule.key) (list_any (is_word k) (tries_rule.key ∷ workers_rule.key ∷ merge_rule.key ∷ perturb_rule.key ∷ work_rule.key ∷ shift_rule.key ∷ [])) e

-- of seven keys in front of another one
among_seven : (p q r s t u v z : Bool) → (p || (q || (r || (s || (t || (u || (v || false))))))) ≡ true → (p || (q || (r || (s || (t || (u || (v || (z || false)))))))) ≡ true
among_seven true q r s t u v z e = refl
among_seven false true r s t u v z e = refl
among_seven false false true s t u v z e = refl
among_seven false false false true t u v z e = refl
among_seven false false false false true u v z e = refl
among_seven false false false false false true v z e = refl
among_seven false false false false false false true z e = refl
among_seven false false false false false false false z e = cc

runs_listed : (k : Text) → IsIn run_keys k → IsIn setting_keys k
runs_listed k e = among_seven (is_word k depth_rule.key) (is_word k budget_rule.key) (is_word k tries_rule.key) (is_word k workers_rule.key) (is_word k merge_rule.key) (is_word k perturb_rule.key) (is_word k work_rule.key) (is_word k shift_rule.key) e

-- the last of eight keys
among_last : (p q r s t u v z : Bool) → (z || false) ≡ true → (p || (q || (r || (s || (t || (u || (v || (z || false)))))))) ≡ true
among_last true q r s t u v z e = refl
among_last false true r s t u v z e = refl
among_last false false true s t u v z e = refl
among_last false false false true t u v z e = refl
among_last false false false false true u v z e = refl
among_last false false false false false true v z e = refl
among_last false false false false false false true z e = refl
among_last false false false false false false false z e = e

windows_listed : (k : Text) → IsIn window_keys k → IsIn setting_keys k
windows_listed k e = among_last (is_word k depth_rule.key) (is_word k budget_rule.key) (is_word k tries_rule.key) (is_word k workers_rule.key) (is_word k merge_rule.key) (is_word k perturb_rule.key) (is_word k work_rule.key) (is_word k shift_rule.key) e

are_modest : AllByRecursion IsModest command_rules
are_modest = (
  record { few = opt_few; listed = runs_listed },
  (
    record { few = check_few; listed = λ k e. cc },
    (record { few = demo_few; listed = runs_listed }, (record { few = flat_few; listed = λ k e. cc }, (record { few = tests_few; listed = λ k e. cc }, (record { few = replay_few; listed = λ k e. cc }, (record { few = convert_few; listed = λ k e. cc }, (record { few = equal_few; listed = questions_listed }, (record { few = judge_few; listed = λ k e. cc }, (record { few = optcare_few; listed = questions_listed }, (record { few = cut_few; listed = windows_listed }, (record { few = sew_few; listed = windows_listed }, tt)))))))))),
  ),
)

has_more : (c : CommandRule) → IsModest c → (ps : List Part) → has_keys setting_keys ps ≡ false → has_keys c.keys ps ≡ false
unfolding has_keys
has_more c modest [] e = e
has_more c modest (name w ∷ ps) e = has_more c modest ps e
has_more c modest (setting k v ∷ ps) e = go (list_any (is_word k) c.keys) refl (list_any (is_word k) setting_keys) refl e (has_more c modest ps)
  where
    go : (a : Bool) → list_any (is_word k) c.keys ≡ a → (b : Bool) → list_any (is_word k) setting_keys ≡ b → (b && has_keys setting_keys ps) ≡ false
        → (has_keys setting_keys ps ≡ false → has_keys c.keys ps ≡ false) → (a && has_keys c.keys ps) ≡ false
    go false is b there all later = refl
    go true is true there all later = later all
    go true is false there all later = let bad = modest.listed k is in cc

module _ (c : CommandRule) (modest : IsModest c) (ps : List Part) where
  by_keys : has_keys c.keys ps ≡ false → asked_by c ps ≡ None
  by_keys e = rw e refl

  by_made : (t : Bool) (o : Option Options) → ((said : Options) → c.made (names ps) said ≡ None) → cond t (option_and_then (c.made (names ps)) o) None ≡ None
  by_made true None none = refl
  by_made true (Some said) none = none said
  by_made false o none = refl

  by_options : (t : Bool) → cond {A = Option Asked} t None None ≡ None
  by_options true = refl
  by_options false = refl

  past_names : (i : ℕ) → slice_get form.named i ≡ None → 4 ≤ i
  past_names zero e = cc
  past_names (suc zero) e = cc
  past_names (suc (suc zero)) e = cc
  past_names (suc (suc (suc zero))) e = cc
  past_names (suc (suc (suc (suc i)))) e = omega arith

  refused : IsFaulty form ps → asked_by c ps ≡ None
  refused (unknown_key e) = by_keys (has_more c modest ps e)
  refused (crowded i e lt) = let most = past_names i e in by_made (has_keys c.keys ps) (options_of ps) (λ said. modest.few (names ps) said (omega arith))
  refused (bad_option j on e) = rw (options_none ps j on e) (by_options (has_keys c.keys ps))
  refused (bad_name i a v e g bad) =
      let all : fits a v ≡ true = each_name (λ (r : Rule). (x : Text) → fits r x ≡ true) ((λ x. refl), ((λ x. refl), ((λ x. refl), ((λ x. refl), tt)))) i a e v in
      cc

  asked_is : (r : Option (List Row)) → Verdict form ps r → option_and_then (made_by c) r ≡ asked_by c ps
  asked_is r (refuses faulty) = sym (refused faulty)
  asked_is r (takes rows h) =
      ap₂ (λ (t : Bool) (ws : List Text). cond t (c.made ws (options_in rows)) None) (only_these ps rows h c.keys) (names_are ps rows h)
      ∙ ap (λ o. cond (has_keys c.keys ps) (option_and_then (c.made (names ps)) o) None) (sym (options_are ps rows h))

  pub agrees_by : option_and_then (made_by c) (judged rules 1 [] ps) ≡ asked_by c ps
  agrees_by = asked_is (judged rules 1 [] ps) (judged_is form form_is ps)

-- ---- all words

modest_of : (w : Text) (xs : List CommandRule) → AllByRecursion IsModest xs → (c : CommandRule) → find (λ (d : CommandRule). is_word w d.word) xs ≡ Some c → IsModest c
modest_of w [] all c e = cc
modest_of w (x ∷ xs) all c e = go (is_word w x.word) e (modest_of w xs all.1 c)
  where
    go : (t : Bool) → cond t (Some x) (find (λ (d : CommandRule). is_word w d.word) xs) ≡ Some c → (find (λ (d : CommandRule). is_word w d.word) xs ≡ Some c → IsModest c) → IsModest c
    go true is later = subst IsModest (some_is x c is) all.0
    go false is later = later is

abbrev empty : (A : Type 0) → Option A
empty A = None

none_then : {A : Type 0} (o : Option (List Row)) → option_and_then (λ (rows : List Row). empty A) o ≡ None
none_then None = refl
none_then (Some rows) = refl

pub agrees : (w : Text) (ws : List Text) → option_and_then (command_in w) (accepted ws) ≡ asked (w ∷ ws)
agrees w ws = go (rule_of w) refl
  where
    by_parts : (c : CommandRule) → IsModest c → (o : Option (List Part)) → option_and_then (made_by c) (judged_parts rules 1 o []) ≡ option_and_then (asked_by c) o
    by_parts c modest None = refl
    by_parts c modest (Some ps) = agrees_by c modest ps

    go : (o : Option CommandRule) → rule_of w ≡ o → option_and_then (λ rows. option_and_then (λ c. made_by c rows) o) (accepted ws) ≡ option_and_then (λ c. option_and_then (asked_by c) (parts None ws)) o
    go None e = none_then (accepted ws)
    go (Some c) e = by_parts c (modest_of w command_rules are_modest c e) (parts None ws)

-- What is asked for has different names and settings in range.
use Rattle.std.proofs.Common.{◌≡◌, ◌≢◌, ◌∙◌, ◌≤◌, ◌&&◌, ◌||◌, ◌-◌, ◌^◌, ℕ, Bool, true, false, not, cond, refl, sym, ap, subst, List, [], ◌∷◌, length, Option, Some, None, arith}
use Rattle.std.specs.Prelude.{codes, find, nat_le, nat_lt, option_and_then, option_map}
use Rattle.std.specs.List.{AllByRecursion, list_all, list_any}
use Rattle.std.proofs.Math.Bool.{or-true}
use Rattle.std.specs.Char.{digit_value}
use Rattle.std.specs.Str.Parse.{without_leading_plus}
use Rattle.std.proofs.lemmas.Bool.{leb-true}
use Rattle.std.proofs.lemmas.Slice.Eq.{bytes_eq-Decides}
use Rattle.clap.proofs.WalkLemmas.{both}
use Rattle.rm_base.specs.declared.settings.Settings.{Settings}
use Rattle.word_reading.specs.Commands.{HasNamesApart, HasSettingsInRange, IsInRange}
use Rattle.word_reading.specs.Words.{Asked, CommandRule, Part, all_together, are_different, are_outside, asked, asked_by, at_most_once, budget_rule, check, check_by, command_rules, convert, convert_by, cut, cut_by, demo, demo_by, depth_rule, equal, equal_by, flat, flat_by, given, has_keys, is_of_window, is_window_file, is_word, judge, judge_by, merge_rule, names, number, opt, opt_by, optcare, optcare_by, options_of, perturb_rule, parts, replay, replay_by, rule_of, settings_of, sew, sew_by, shift_rule, tests, tests_by, together, tries_rule, value_in, work_rule, workers_rule}
use Rattle.word_reading.specs.declared.options.TheConstants.{LEAST_BUDGET, LEAST_WIDTH, LEAST_WORKERS, MOST_BUDGET, MOST_DEPTH, MOST_MERGE, MOST_PERTURB, MOST_SHIFT, MOST_TRIES, MOST_WIDTH, MOST_WORK, MOST_WORKERS, USUAL_BUDGET, USUAL_DEPTH, USUAL_MERGE, USUAL_PERTURB, USUAL_SHIFT, USUAL_TRIES, USUAL_WORK, USUAL_WORKERS}
use Rattle.word_reading.specs.declared.options.Options.{Options}
use Rattle.word_reading.proofs.Numbers.{value_of}
use Rattle.rm_base.proofs.Public.{some_is}
use Rattle.rm_base.specs.Words.{Word}

-- ---- the settings

chosen_is : (b : Bool) (m n : ℕ) → cond b (Some m) None ≡ Some n → (b ≡ true) × (m ≡ n)
chosen_is true m n e = (refl, some_is m n e)
chosen_is false m n e = cc

number_range : (low high : ℕ) (v : Word) (n : ℕ) → number low high v ≡ Some n → (low ≤ n) × (n ≤ high)
number_range low high v n e =
    let digits = without_leading_plus v in
    let text = nat_lt 0 (length digits) && list_all (λ d. nat_lt (digit_value d) 10) digits in
    let is = chosen_is ((text && nat_le low (value_of v)) && nat_le (value_of v) high) (value_of v) n e in
    let upper = both (text && nat_le low (value_of v)) (nat_le (value_of v) high) is.0 in
    let lower = both text (nat_le low (value_of v)) upper.0 in
    (subst (λ (k : ℕ). low ≤ k) is.1 (leb-true low (value_of v) lower.1), subst (λ (k : ℕ). k ≤ high) is.1 (leb-true (value_of v) high upper.1))

once_range : (low high default : ℕ) → low ≤ default → default ≤ high → (vs : List Word) (n : ℕ) → at_most_once low high default vs ≡ Some n → (low ≤ n) × (n ≤ high)
once_range low high default least most [] n e = let same = some_is default n e in (omega arith, omega arith)
once_range low high default least most (v ∷ []) n e = number_range low high v n e
once_range low high default least most (v ∷ w ∷ ws) n e = cc

parts_of : (d b t w m p l : Option ℕ) (s : Settings) → together d b t w m p l ≡ Some s
    → (d ≡ Some s.depth) × (b ≡ Some s.budget) × (t ≡ Some s.tries) × (w ≡ Some s.workers) × (m ≡ Some s.merge) × (p ≡ Some s.perturb) × (l ≡ Some s.work)
parts_of (Some d) (Some b) (Some t) (Some w) (Some m) (Some p) (Some l) s e =
    let same : record { depth = d; budget = b; tries = t; workers = w; merge = m; perturb = p; work = l } ≡ s = some_is _ s e in
    (ap (λ (x : Settings). Some x.depth) same, ap (λ (x : Settings). Some x.budget) same, ap (λ (x : Settings). Some x.tries) same, ap (λ (x : Settings). Some x.workers) same, ap (λ (x : Settings). Some x.merge) same, ap (λ (x : Settings). Some x.perturb) same, ap (λ (x : Settings). Some x.work) same)
parts_of None b t w m p l s e = cc
parts_of (Some d) None t w m p l s e = cc
parts_of (Some d) (Some b) None w m p l s e = cc
parts_of (Some d) (Some b) (Some t) None m p l s e = cc
parts_of (Some d) (Some b) (Some t) (Some w) None p l s e = cc
parts_of (Some d) (Some b) (Some t) (Some w) (Some m) None l s e = cc
parts_of (Some d) (Some b) (Some t) (Some w) (Some m) (Some p) None s e = cc

settings_range : (ps : List Part) (s : Settings) → settings_of ps ≡ Some s → IsInRange s
settings_range ps s e =
    let all = parts_of (value_in ps depth_rule) (value_in ps budget_rule) (value_in ps tries_rule) (value_in ps workers_rule) (value_in ps merge_rule) (value_in ps perturb_rule) (value_in ps work_rule) s e in
    let d = once_range 0 MOST_DEPTH USUAL_DEPTH (omega arith) (omega arith) (given (codes "depth") ps) s.depth all.0 in
    let b = once_range LEAST_BUDGET MOST_BUDGET USUAL_BUDGET (omega arith) (omega arith) (given (codes "budget") ps) s.budget all.1 in
    let t = once_range 0 MOST_TRIES USUAL_TRIES (omega arith) (omega arith) (given (codes "tries") ps) s.tries all.2 in
    let w = once_range LEAST_WORKERS MOST_WORKERS USUAL_WORKERS (omega arith) (omega arith) (given (codes "workers") ps) s.workers all.3 in
    let m = once_range 0 MOST_MERGE USUAL_MERGE (omega arith) (omega arith) (given (codes "merge") ps) s.merge all.4 in
    let p = once_range 0 MOST_PERTURB USUAL_PERTURB (omega arith) (omega arith) (given (codes "perturb") ps) s.perturb all.5 in
    let l = once_range 0 MOST_WORK USUAL_WORK (omega arith) (omega arith) (given (codes "work") ps) s.work all.6 in
    record { depth = d.1; least_budget = b.0; most_budget = b.1; tries = t.1; least_workers = w.0; most_workers = w.1; merge = m.1; perturb = p.1; work = l.1 }

options_parts : (s : Option Settings) (h : Option ℕ) (o : Options) → all_together s h ≡ Some o → (s ≡ Some o.settings) × (h ≡ Some o.shift)
options_parts (Some s) (Some h) o e =
    let same : record { settings = s; shift = h } ≡ o = some_is _ o e in
    (ap (λ (x : Options). Some x.settings) same, ap (λ (x : Options). Some x.shift) same)
options_parts None h o e = cc
options_parts (Some s) None o e = cc

abbrev AreInRange : Options → Type 0
AreInRange o = IsInRange o.settings × (o.shift ≤ MOST_SHIFT)

options_range : (ps : List Part) (o : Options) → options_of ps ≡ Some o → AreInRange o
options_range ps o e =
    let all = options_parts (settings_of ps) (value_in ps shift_rule) o e in
    let h = once_range 0 MOST_SHIFT USUAL_SHIFT (omega arith) (omega arith) (given (codes "shift") ps) o.shift all.1 in
    (settings_range ps o.settings all.0, h.1)

-- ---- the commands

abbrev IsSound : Asked → Type 0
IsSound x = HasNamesApart x × HasSettingsInRange x

-- what a command makes of options in range
abbrev MakesSound : CommandRule → Type 0
MakesSound c = (ws : List Word) (o : Options) → AreInRange o → (x : Asked) → c.made ws o ≡ Some x → IsSound x

different : (a b : Word) → not (is_word a b || false) ≡ true → a ≢ b
different a b e = λ same. let is = (bytes_eq-Decides a b).1 same in let bad : not true ≡ true = ap (λ t. not (t || false)) (sym is) ∙ e in cc

differ_first : (a b c : Word) → not (is_word a b || (is_word a c || false)) ≡ true → (a ≢ b) × (a ≢ c)
differ_first a b c e = (
  (λ same. let is = (bytes_eq-Decides a b).1 same in let bad : not true ≡ true = ap (λ t. not (t || (is_word a c || false))) (sym is) ∙ e in cc),
  (λ same. let is = (bytes_eq-Decides a c).1 same in let bad : not true ≡ true = sym (ap not (or-true (is_word a b))) ∙ ap (λ t. not (is_word a b || (t || false))) (sym is) ∙ e in cc),
)

two_made : (a b : Word) (said : Options) → AreInRange said → (t : Bool) → are_different (a ∷ b ∷ []) ≡ t → (x : Asked) → cond t (Some (opt a b None said.settings)) None ≡ Some x → IsSound x
two_made a b said range true apart x is =
    let one = both (not (is_word a b || false)) true apart in
    subst IsSound (some_is (opt a b None said.settings) x is) (different a b one.0, range.0)
two_made a b said range false apart x is = cc

three_made : (a b c : Word) (said : Options) → AreInRange said → (t : Bool) → are_different (a ∷ b ∷ c ∷ []) ≡ t → (x : Asked) → cond t (Some (opt a b (Some c) said.settings)) None ≡ Some x → IsSound x
three_made a b c said range true apart x is =
    let one = both (not (is_word a b || (is_word a c || false))) (are_different (b ∷ c ∷ [])) apart in
    let two = both (not (is_word b c || false)) true one.1 in
    let first = differ_first a b c one.0 in
    subst IsSound (some_is (opt a b (Some c) said.settings) x is) ((first.0, first.1, different b c two.0), range.0)
three_made a b c said range false apart x is = cc

opt_sound : (ws : List Word) (o : Options) → AreInRange o → (x : Asked) → opt_by ws o ≡ Some x → IsSound x
opt_sound [] o range x is = cc
opt_sound (a ∷ []) o range x is = cc
opt_sound (a ∷ b ∷ []) o range x is = two_made a b o range (are_different (a ∷ b ∷ [])) refl x is
opt_sound (a ∷ b ∷ c ∷ []) o range x is = three_made a b c o range (are_different (a ∷ b ∷ c ∷ [])) refl x is
opt_sound (a ∷ b ∷ c ∷ d ∷ ws) o range x is = cc

check_sound : (ws : List Word) (o : Options) → AreInRange o → (x : Asked) → check_by ws o ≡ Some x → IsSound x
check_sound [] o range x is = cc
check_sound (a ∷ []) o range x is = cc
check_sound (a ∷ b ∷ []) o range x is = cc
check_sound (a ∷ b ∷ c ∷ []) o range x is = subst IsSound (some_is (check a b c) x is) (tt, tt)
check_sound (a ∷ b ∷ c ∷ d ∷ ws) o range x is = cc

demo_made : (o : Option ℕ) (said : Options) → AreInRange said → (x : Asked) → option_map (λ seed. demo seed said.settings) o ≡ Some x → IsSound x
demo_made None said range x is = cc
demo_made (Some n) said range x is = subst IsSound (some_is (demo n said.settings) x is) (tt, range.0)

demo_sound : (ws : List Word) (o : Options) → AreInRange o → (x : Asked) → demo_by ws o ≡ Some x → IsSound x
demo_sound [] o range x is = cc
demo_sound (a ∷ []) o range x is = demo_made (number 0 (2 ^ 64 - 1) a) o range x is
demo_sound (a ∷ b ∷ ws) o range x is = cc

flat_made : (a b : Word) (t : Bool) → are_different (a ∷ b ∷ []) ≡ t → (x : Asked) → cond t (Some (flat a b)) None ≡ Some x → IsSound x
flat_made a b true apart x is =
    let one = both (not (is_word a b || false)) true apart in
    subst IsSound (some_is (flat a b) x is) (different a b one.0, tt)
flat_made a b false apart x is = cc

flat_sound : (ws : List Word) (o : Options) → AreInRange o → (x : Asked) → flat_by ws o ≡ Some x → IsSound x
flat_sound [] o range x is = cc
flat_sound (a ∷ []) o range x is = cc
flat_sound (a ∷ b ∷ []) o range x is = flat_made a b (are_different (a ∷ b ∷ [])) refl x is
flat_sound (a ∷ b ∷ c ∷ ws) o range x is = cc

none_of_three : (p q r : Bool) → not (p || (q || (r || false))) ≡ true → (p ≡ false) × ((q ≡ false) × (r ≡ false))
none_of_three true q r e = cc
none_of_three false true r e = cc
none_of_three false false true e = cc
none_of_three false false false e = (refl, (refl, refl))

unlike : (a b : Word) → is_word a b ≡ false → a ≢ b
unlike a b e = λ same. let is = (bytes_eq-Decides a b).1 same in let bad : true ≡ false = sym is ∙ e in cc

tests_made : (a b c d : Word) (t : Bool) → not (list_any (is_word d) (a ∷ b ∷ c ∷ [])) ≡ t → (x : Asked) → cond t (Some (tests a b c d)) None ≡ Some x → IsSound x
tests_made a b c d true apart x is =
    let n = none_of_three (is_word d a) (is_word d b) (is_word d c) apart in
    subst IsSound (some_is (tests a b c d) x is) ((unlike d a n.0, unlike d b n.1.0, unlike d c n.1.1), tt)
tests_made a b c d false apart x is = cc

tests_sound : (ws : List Word) (o : Options) → AreInRange o → (x : Asked) → tests_by ws o ≡ Some x → IsSound x
tests_sound [] o range x is = cc
tests_sound (a ∷ []) o range x is = cc
tests_sound (a ∷ b ∷ []) o range x is = cc
tests_sound (a ∷ b ∷ c ∷ []) o range x is = cc
tests_sound (a ∷ b ∷ c ∷ d ∷ []) o range x is = tests_made a b c d (not (list_any (is_word d) (a ∷ b ∷ c ∷ []))) refl x is
tests_sound (a ∷ b ∷ c ∷ d ∷ e ∷ ws) o range x is = cc

replay_made : (a b c : Word) (t : Bool) → are_different (a ∷ b ∷ c ∷ []) ≡ t → (x : Asked) → cond t (Some (replay a b c)) None ≡ Some x → IsSound x
replay_made a b c true apart x is =
    let one = both (not (is_word a b || (is_word a c || false))) (are_different (b ∷ c ∷ [])) apart in
    let two = both (not (is_word b c || false)) true one.1 in
    let first = differ_first a b c one.0 in
    subst IsSound (some_is (replay a b c) x is) ((first.0, first.1, different b c two.0), tt)
replay_made a b c false apart x is = cc

replay_sound : (ws : List Word) (o : Options) → AreInRange o → (x : Asked) → replay_by ws o ≡ Some x → IsSound x
replay_sound [] o range x is = cc
replay_sound (a ∷ []) o range x is = cc
replay_sound (a ∷ b ∷ []) o range x is = cc
replay_sound (a ∷ b ∷ c ∷ []) o range x is = replay_made a b c (are_different (a ∷ b ∷ c ∷ [])) refl x is
replay_sound (a ∷ b ∷ c ∷ d ∷ ws) o range x is = cc

convert_made : (a b : Word) (t : Bool) → are_different (a ∷ b ∷ []) ≡ t → (x : Asked) → cond t (Some (convert a b)) None ≡ Some x → IsSound x
convert_made a b true apart x is =
    let one = both (not (is_word a b || false)) true apart in
    subst IsSound (some_is (convert a b) x is) (different a b one.0, tt)
convert_made a b false apart x is = cc

convert_sound : (ws : List Word) (o : Options) → AreInRange o → (x : Asked) → convert_by ws o ≡ Some x → IsSound x
convert_sound [] o range x is = cc
convert_sound (a ∷ []) o range x is = cc
convert_sound (a ∷ b ∷ []) o range x is = convert_made a b (are_different (a ∷ b ∷ [])) refl x is
convert_sound (a ∷ b ∷ c ∷ ws) o range x is = cc

equal_made : (a b c : Word) (s : Settings) → IsInRange s → (t : Bool) → are_different (a ∷ b ∷ c ∷ []) ≡ t → (x : Asked) → cond t (Some (equal a b c s)) None ≡ Some x → IsSound x
equal_made a b c s range true apart x is =
    let one = both (not (is_word a b || (is_word a c || false))) (are_different (b ∷ c ∷ [])) apart in
    let two = both (not (is_word b c || false)) true one.1 in
    let first = differ_first a b c one.0 in
    subst IsSound (some_is (equal a b c s) x is) ((first.0, first.1, different b c two.0), range)
equal_made a b c s range false apart x is = cc

equal_sound : (ws : List Word) (o : Options) → AreInRange o → (x : Asked) → equal_by ws o ≡ Some x → IsSound x
equal_sound [] o range x is = cc
equal_sound (a ∷ []) o range x is = cc
equal_sound (a ∷ b ∷ []) o range x is = cc
equal_sound (a ∷ b ∷ c ∷ []) o range x is = equal_made a b c o.settings range.0 (are_different (a ∷ b ∷ c ∷ [])) refl x is
equal_sound (a ∷ b ∷ c ∷ d ∷ ws) o range x is = cc

judge_sound : (ws : List Word) (o : Options) → AreInRange o → (x : Asked) → judge_by ws o ≡ Some x → IsSound x
judge_sound [] o range x is = cc
judge_sound (a ∷ []) o range x is = cc
judge_sound (a ∷ b ∷ []) o range x is = cc
judge_sound (a ∷ b ∷ c ∷ []) o range x is = subst IsSound (some_is (judge a b c) x is) (tt, tt)
judge_sound (a ∷ b ∷ c ∷ d ∷ ws) o range x is = cc

apart_of_three : (a b c d : Word) → not (is_word a b || (is_word a c || (is_word a d || false))) ≡ true → (a ≢ b) × ((a ≢ c) × (a ≢ d))
apart_of_three a b c d e =
    let n = none_of_three (is_word a b) (is_word a c) (is_word a d) e in
    (unlike a b n.0, (unlike a c n.1.0, unlike a d n.1.1))

optcare_made : (a b c d : Word) (s : Settings) → IsInRange s → (t : Bool) → are_different (a ∷ b ∷ c ∷ d ∷ []) ≡ t → (x : Asked) → cond t (Some (optcare a b c d s)) None ≡ Some x → IsSound x
optcare_made a b c d s range true apart x is =
    let one = both (not (is_word a b || (is_word a c || (is_word a d || false)))) (are_different (b ∷ c ∷ d ∷ [])) apart in
    let two = both (not (is_word b c || (is_word b d || false))) (are_different (c ∷ d ∷ [])) one.1 in
    let three = both (not (is_word c d || false)) true two.1 in
    let first = apart_of_three a b c d one.0 in
    let second = differ_first b c d two.0 in
    subst IsSound (some_is (optcare a b c d s) x is) ((first.0, first.1.0, first.1.1, second.0, second.1, different c d three.0), range)
optcare_made a b c d s range false apart x is = cc

optcare_sound : (ws : List Word) (o : Options) → AreInRange o → (x : Asked) → optcare_by ws o ≡ Some x → IsSound x
optcare_sound [] o range x is = cc
optcare_sound (a ∷ []) o range x is = cc
optcare_sound (a ∷ b ∷ []) o range x is = cc
optcare_sound (a ∷ b ∷ c ∷ []) o range x is = cc
optcare_sound (a ∷ b ∷ c ∷ d ∷ []) o range x is = optcare_made a b c d o.settings range.0 (are_different (a ∷ b ∷ c ∷ d ∷ [])) refl x is
optcare_sound (a ∷ b ∷ c ∷ d ∷ e ∷ ws) o range x is = cc

width_made : (a c : Word) (o : Options) → AreInRange o → is_window_file c a ≡ false → (r : Option ℕ) → ((n : ℕ) → r ≡ Some n → (LEAST_WIDTH ≤ n) × (n ≤ MOST_WIDTH)) → (x : Asked)
    → option_map (λ width. cut a width c o.shift) r ≡ Some x → IsSound x
width_made a c o range apart None within x is = cc
width_made a c o range apart (Some n) within x is = let w = within n refl in subst IsSound (some_is (cut a n c o.shift) x is) (apart, (w.0, w.1, range.1))

cut_made : (a b c : Word) (o : Options) → AreInRange o → (t : Bool) → is_window_file c a ≡ t → (x : Asked)
    → cond t None (option_map (λ width. cut a width c o.shift) (number LEAST_WIDTH MOST_WIDTH b)) ≡ Some x → IsSound x
cut_made a b c o range true apart x is = cc
cut_made a b c o range false apart x is = width_made a c o range apart (number LEAST_WIDTH MOST_WIDTH b) (λ n e. number_range LEAST_WIDTH MOST_WIDTH b n e) x is

cut_sound : (ws : List Word) (o : Options) → AreInRange o → (x : Asked) → cut_by ws o ≡ Some x → IsSound x
cut_sound [] o range x is = cc
cut_sound (a ∷ []) o range x is = cc
cut_sound (a ∷ b ∷ []) o range x is = cc
cut_sound (a ∷ b ∷ c ∷ []) o range x is = cut_made a b c o range (is_window_file c a) refl x is
cut_sound (a ∷ b ∷ c ∷ d ∷ ws) o range x is = cc

not_true : (t : Bool) → not t ≡ true → t ≡ false
not_true true e = cc
not_true false e = refl

outside : (a c d : Word) → are_outside c a d ≡ true → (a ≢ d) × ((is_of_window c a ≡ false) × (is_of_window c d ≡ false))
outside a c d e =
    let one = both (not (is_word a d) && not (is_of_window c a)) (not (is_of_window c d)) e in
    let two = both (not (is_word a d)) (not (is_of_window c a)) one.0 in
    (unlike a d (not_true (is_word a d) two.0), (not_true (is_of_window c a) two.1, not_true (is_of_window c d) one.1))

sewn_width : (a c d : Word) (o : Options) → AreInRange o → are_outside c a d ≡ true → (r : Option ℕ) → ((n : ℕ) → r ≡ Some n → (LEAST_WIDTH ≤ n) × (n ≤ MOST_WIDTH)) → (x : Asked)
    → option_map (λ width. sew a width c d o.shift) r ≡ Some x → IsSound x
sewn_width a c d o range apart None within x is = cc
sewn_width a c d o range apart (Some n) within x is = let w = within n refl in let out = outside a c d apart in
    subst IsSound (some_is (sew a n c d o.shift) x is) ((out.0, out.1.0, out.1.1), (w.0, w.1, range.1))

sew_made : (a b c d : Word) (o : Options) → AreInRange o → (t : Bool) → are_outside c a d ≡ t → (x : Asked)
    → cond t (option_map (λ width. sew a width c d o.shift) (number LEAST_WIDTH MOST_WIDTH b)) None ≡ Some x → IsSound x
sew_made a b c d o range false apart x is = cc
sew_made a b c d o range true apart x is = sewn_width a c d o range apart (number LEAST_WIDTH MOST_WIDTH b) (λ n e. number_range LEAST_WIDTH MOST_WIDTH b n e) x is

sew_sound : (ws : List Word) (o : Options) → AreInRange o → (x : Asked) → sew_by ws o ≡ Some x → IsSound x
sew_sound [] o range x is = cc
sew_sound (a ∷ []) o range x is = cc
sew_sound (a ∷ b ∷ []) o range x is = cc
sew_sound (a ∷ b ∷ c ∷ []) o range x is = cc
sew_sound (a ∷ b ∷ c ∷ d ∷ []) o range x is = sew_made a b c d o range (are_outside c a d) refl x is
sew_sound (a ∷ b ∷ c ∷ d ∷ e ∷ ws) o range x is = cc

all_sound : AllByRecursion MakesSound command_rules
all_sound = (opt_sound, (check_sound, (demo_sound, (flat_sound, (tests_sound, (replay_sound, (convert_sound, (equal_sound, (judge_sound, (optcare_sound, (cut_sound, (sew_sound, tt))))))))))))

sound_of : (w : Word) (xs : List CommandRule) → AllByRecursion MakesSound xs → (c : CommandRule) → find (λ (d : CommandRule). is_word w d.word) xs ≡ Some c → MakesSound c
sound_of w [] all c e = cc
sound_of w (x ∷ xs) all c e = go (is_word w x.word) e (sound_of w xs all.1 c)
  where
    go : (t : Bool) → cond t (Some x) (find (λ (d : CommandRule). is_word w d.word) xs) ≡ Some c → (find (λ (d : CommandRule). is_word w d.word) xs ≡ Some c → MakesSound c) → MakesSound c
    go true is later = subst MakesSound (some_is x c is) all.0
    go false is later = later is

made_sound : (c : CommandRule) → MakesSound c → (ps : List Part) (t : Bool) (o : Option Options) → options_of ps ≡ o → (x : Asked) → cond t (option_and_then (c.made (names ps)) o) None ≡ Some x → IsSound x
made_sound c makes ps true (Some said) e x is = makes (names ps) said (options_range ps said e) x is
made_sound c makes ps true None e x is = cc
made_sound c makes ps false o e x is = cc

pub asked_is_sound : (ws : List Word) (x : Asked) → asked ws ≡ Some x → IsSound x
asked_is_sound [] x is = cc
asked_is_sound (w ∷ ws) x is = go (rule_of w) refl (parts None ws) is
  where
    go : (r : Option CommandRule) → rule_of w ≡ r → (o : Option (List Part)) → option_and_then (λ c. option_and_then (asked_by c) o) r ≡ Some x → IsSound x
    go None f o e = cc
    go (Some c) f None e = cc
    go (Some c) f (Some ps) e = made_sound c (sound_of w command_rules all_sound c f) ps (has_keys c.keys ps) (options_of ps) refl x e

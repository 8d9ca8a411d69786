-- The rules of the words: the options, and the names by their places.
use Rattle.std.proofs.Common.{lit<, ◌≡◌, ◌∙◌, ◌==◌, ◌<◌, ◌^◌, ◌⊎◌, inl, inr, ℕ, zero, suc, Bool, true, false, cond, refl, sym, ap, subst, List, [], ◌∷◌, length, map, Some, None, arith}
use Rattle.std.proofs.Math.Dec.{eqb-suc-suc, eqb-zero-suc}
use Rattle.std.specs.Prelude.{slice_get}
use Rattle.std.specs.List.{AllByRecursion, list_any}
use Rattle.std.specs.Str.{bytes_eq}
use Rattle.std.proofs.lemmas.Bool.Decides.{Decides-eqb}
use Rattle.std.proofs.lemmas.Slice.Eq.{bytes_eq-Decides}
use Rattle.clap.specs.Simple.{new_rule}
use Rattle.clap.specs.Walk.{Rule, Text, arg_by_index, arg_by_long}
use Rattle.clap.specs.ValueTests.{is_unsigned_in}
use Rattle.word_reading.specs.Inner.Judged.{rules}
use Rattle.word_reading.specs.Words.{OptionRule, is_word, option_rules, setting_keys}
use Rattle.word_reading.proofs.Slots.{IsPlain, fits}
use Rattle.word_reading.proofs.Judging.{Form, IsForm, IsOption, KeyCase, known, unknown, apart_both}
use Rattle.rm_base.proofs.Public.{some_is}

abbrev rule_at : ℕ → List Rule → Rule
rule_at i [] = new_rule []
rule_at zero (a ∷ rest) = a
rule_at (suc i) (a ∷ rest) = rule_at i rest

-- the first rule with this id
abbrev rule_with : Text → List Rule → Rule
rule_with id [] = new_rule []
rule_with id (a ∷ rest) = cond (bytes_eq a.id id) a (rule_with id rest)

abbrev pub form : Form
form = record {
  rules = rules;
  option = λ j. rule_with j.key rules;
  named = rule_at 8 rules ∷ rule_at 9 rules ∷ rule_at 10 rules ∷ rule_at 11 rules ∷ [];
}

-- ---- members of lists

nothing_past : {X : Type 0} (i : ℕ) → slice_get {X = X} [] i ≡ None
nothing_past zero = refl
nothing_past (suc i) = refl

pub each_at : {X : Type 0} (P : X → Type 0) (xs : List X) → AllByRecursion P xs → (i : ℕ) (a : X) → slice_get xs i ≡ Some a → P a
each_at P [] all zero a e = cc
each_at P [] all (suc i) a e = cc
each_at P (x ∷ xs) all zero a e = subst P (some_is x a e) all.0
each_at P (x ∷ xs) all (suc i) a e = each_at P xs all.1 i a e

pub within : {X : Type 0} (xs : List X) (i : ℕ) (a : X) → slice_get xs i ≡ Some a → i < length xs
within [] zero a e = cc
within [] (suc i) a e = cc
within (x ∷ xs) zero a e = omega arith
within (x ∷ xs) (suc i) a e = let h = within xs i a e in omega arith

-- ---- lists of texts that are pairwise apart

abbrev pub AreApart : List Text → Type 0
AreApart [] = Unit {0}
AreApart (x ∷ xs) = AllByRecursion (λ y. bytes_eq x y ≡ false) xs × AreApart xs

module _ {X : Type 0} (text : X → Text) where
  first_apart : (x : X) (xs : List X) → AllByRecursion (λ y. bytes_eq (text x) y ≡ false) (map text xs) → (i : ℕ) (a : X) → slice_get xs i ≡ Some a → bytes_eq (text x) (text a) ≡ false
  first_apart x [] all zero a e = cc
  first_apart x [] all (suc i) a e = cc
  first_apart x (y ∷ ys) all zero a e = subst (λ z. bytes_eq (text x) (text z) ≡ false) (some_is y a e) all.0
  first_apart x (y ∷ ys) all (suc i) a e = first_apart x ys all.1 i a e

  pub once : (xs : List X) → AreApart (map text xs) → (i k : ℕ) (a b : X) → slice_get xs i ≡ Some a → slice_get xs k ≡ Some b → (k ≡ i → ⊥) → bytes_eq (text a) (text b) ≡ false
  once [] apart zero k a b e g ne = cc
  once [] apart (suc i) k a b e g ne = cc
  once (x ∷ xs) apart zero zero a b e g ne = absurd (ne refl)
  once (x ∷ xs) apart zero (suc k) a b e g ne = subst (λ z. bytes_eq (text z) (text b) ≡ false) (some_is x a e) (first_apart x xs apart.0 k b g)
  once (x ∷ xs) apart (suc i) zero a b e g ne = apart_both (text b) (text a) (subst (λ z. bytes_eq (text z) (text a) ≡ false) (some_is x b g) (first_apart x xs apart.0 i a e))
  once (x ∷ xs) apart (suc i) (suc k) a b e g ne = once xs apart.1 i k a b e g (λ same. ne (ap suc same))

-- ---- the options

-- the text is one of the keys, or none of them
data Found (k : Text) (xs : List OptionRule) : Type 0 where
  at : (i : ℕ) (j : OptionRule) → slice_get xs i ≡ Some j → k ≡ j.key → Found k xs
  nowhere : AllByRecursion (λ (j : OptionRule). bytes_eq j.key k ≡ false) xs → Found k xs

found : (k : Text) (xs : List OptionRule) → Found k xs
found k [] = nowhere tt
found k (x ∷ xs) = go (bytes_eq x.key k) refl (found k xs)
  where
    go : (t : Bool) → bytes_eq x.key k ≡ t → Found k xs → Found k (x ∷ xs)
    go true e later = at 0 x refl (sym ((bytes_eq-Decides x.key k).0 e))
    go false e (at i j here is) = at (suc i) j here is
    go false e (nowhere all) = nowhere (e, all)

keys : (k : Text) → KeyCase form k
keys k = go (found k option_rules)
  where
    go : Found k option_rules → KeyCase form k
    go (at i j here is) = known j (i, here) is
    go (nowhere all) =
        unknown (rw (all.0, all.1.0, all.1.1.0, all.1.1.1.0, all.1.1.1.1.0, all.1.1.1.1.1.0, all.1.1.1.1.1.1.0, all.1.1.1.1.1.1.1.0) refl)
        (rw (apart_both _ k all.0, apart_both _ k all.1.0, apart_both _ k all.1.1.0, apart_both _ k all.1.1.1.0, apart_both _ k all.1.1.1.1.0, apart_both _ k all.1.1.1.1.1.0, apart_both _ k all.1.1.1.1.1.1.0, apart_both _ k all.1.1.1.1.1.1.1.0) refl)

pub each_option : (P : OptionRule → Type 0) → AllByRecursion P option_rules → (j : OptionRule) → IsOption j → P j
each_option P all j on = each_at P option_rules all on.0 j on.1

options_apart : (j k : OptionRule) → IsOption j → IsOption k → (j ≡ k) ⊎ (bytes_eq j.key k.key ≡ false)
options_apart j k on there = go (there.0 == on.0) refl
  where
    go : (t : Bool) → (there.0 == on.0) ≡ t → (j ≡ k) ⊎ (bytes_eq j.key k.key ≡ false)
    go true e =
        let same : there.0 ≡ on.0 = (Decides-eqb there.0 on.0).0 e in
        let here : slice_get option_rules on.0 ≡ Some k = subst (λ i. slice_get option_rules i ≡ Some k) same there.1 in
        inl (some_is j k (sym on.1 ∙ here))
    go false e = inr (once (λ (o : OptionRule). o.key) option_rules ((refl, (refl, (refl, (refl, (refl, (refl, (refl, tt))))))), ((refl, (refl, (refl, (refl, (refl, (refl, tt)))))), ((refl, (refl, (refl, (refl, (refl, tt))))), ((refl, (refl, (refl, (refl, tt)))), ((refl, (refl, (refl, tt))), ((refl, (refl, tt)), ((refl, tt), (tt, tt)))))))) on.0 there.0 j k on.1 there.1
        (λ same. let bad = (Decides-eqb there.0 on.0).1 same in cc))

-- ---- the names

past_one : (i : ℕ) → (1 == suc (suc i)) ≡ false
past_one i = eqb-suc-suc 0 (suc i) ∙ eqb-zero-suc i

past_two : (i : ℕ) → (2 == suc (suc (suc i))) ≡ false
past_two i = eqb-suc-suc 1 (suc (suc i)) ∙ past_one i

past_three : (i : ℕ) → (3 == suc (suc (suc (suc i)))) ≡ false
past_three i = eqb-suc-suc 2 (suc (suc (suc i))) ∙ past_two i

past_four : (i : ℕ) → (4 == suc (suc (suc (suc (suc i))))) ≡ false
past_four i = eqb-suc-suc 3 (suc (suc (suc (suc i)))) ∙ past_three i

names_found : (i : ℕ) → arg_by_index rules (suc i) ≡ slice_get form.named i
names_found zero = refl
names_found (suc zero) = refl
names_found (suc (suc zero)) = refl
names_found (suc (suc (suc zero))) = refl
names_found (suc (suc (suc (suc i)))) = rw (past_one (suc (suc (suc i))), past_two (suc (suc i)), past_three (suc i), past_four i, nothing_past {X = Rule} i) refl

pub each_name : (P : Rule → Type 0) → AllByRecursion P form.named → (i : ℕ) (a : Rule) → slice_get form.named i ≡ Some a → P a
each_name P all i a e = each_at P form.named all i a e

pub form_is : IsForm form
form_is = record {
  key_case = keys;
  option_found = each_option (λ j. arg_by_long rules j.key ≡ Some (rule_with j.key rules)) (refl, (refl, (refl, (refl, (refl, (refl, (refl, (refl, tt))))))));
  option_listed = each_option (λ j. list_any (is_word j.key) setting_keys ≡ true) (refl, (refl, (refl, (refl, (refl, (refl, (refl, (refl, tt))))))));
  option_small = each_option (λ j. j.most < 2 ^ 64) (lit< tt, (lit< tt, (lit< tt, (lit< tt, (lit< tt, (lit< tt, (lit< tt, (lit< tt, tt))))))));
  option_apart = options_apart;
  option_plain = each_option (λ j. IsPlain (rule_with j.key rules)) (record { action = refl; reading = refl; range = refl }, (record { action = refl; reading = refl; range = refl }, (record { action = refl; reading = refl; range = refl }, (record { action = refl; reading = refl; range = refl }, (record { action = refl; reading = refl; range = refl }, (record { action = refl; reading = refl; range = refl }, (record { action = refl; reading = refl; range = refl }, (record { action = refl; reading = refl; range = refl }, tt))))))));
  option_id = each_option (λ j. (rule_with j.key rules).id ≡ j.key) (refl, (refl, (refl, (refl, (refl, (refl, (refl, (refl, tt))))))));
  option_fits = each_option (λ j. (v : Text) → fits (rule_with j.key rules) v ≡ is_unsigned_in j.least j.most v) ((λ v. refl), ((λ v. refl), ((λ v. refl), ((λ v. refl), ((λ v. refl), ((λ v. refl), ((λ v. refl), ((λ v. refl), tt))))))));
  name_found = names_found;
  name_plain = each_name IsPlain (record { action = refl; reading = refl; range = refl }, (record { action = refl; reading = refl; range = refl }, (record { action = refl; reading = refl; range = refl }, (record { action = refl; reading = refl; range = refl }, tt))));
  name_few = λ i a e. let h = within form.named i a e in omega arith;
  name_apart = each_name (λ a. (j : OptionRule) → IsOption j → bytes_eq a.id j.key ≡ false)
      (each_option _ (refl, (refl, (refl, (refl, (refl, (refl, (refl, (refl, tt)))))))), (each_option _ (refl, (refl, (refl, (refl, (refl, (refl, (refl, (refl, tt)))))))), (each_option _ (refl, (refl, (refl, (refl, (refl, (refl, (refl, (refl, tt)))))))), (each_option _ (refl, (refl, (refl, (refl, (refl, (refl, (refl, (refl, tt)))))))), tt))));
  name_once = once (λ (a : Rule). a.id) form.named ((refl, (refl, (refl, tt))), ((refl, (refl, tt)), ((refl, tt), (tt, tt))));
}

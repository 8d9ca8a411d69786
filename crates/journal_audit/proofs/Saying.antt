-- Verdicts that are kept.
use Rattle.std.proofs.Common.{◌≡◌, ◌≢◌, ℕ, zero, suc, ◌+◌, ◌<◌, ◌≤◌, ◌⊎◌, inl, inr, Bool, true, false, Option, None, Some, List, [], ◌∷◌, ◌++◌, length, map, refl, sym, ◌∙◌, ap, subst, arith, append_assoc}
use lib.Pointwise.{pointwise}
use mathlib.Core.Bool.{beq}
use Rattle.std.specs.Prelude.{slice_get}
use Rattle.std.proofs.lemmas.Bool.{cases_eq}
use Rattle.std.proofs.lemmas.List.{append-nil, length-append, map-append}
use Rattle.std.proofs.lemmas.Option.{slice_get_within}
use Rattle.rm_base.proofs.Public.{front_stands, last_stands, pushed_stands, some_is, stands_below}
use Rattle.journal_text.specs.declared.record.Record.{Record}
use Rattle.journal_text.specs.declared.record.Record.TheVariants.{Step, Hit, Spent}
use Rattle.journal_audit.specs.Verdicts.{AreVerdictsAt, said_by, said_of, said_of_record}

-- nothing is kept yet
pub none_kept : AreVerdictsAt [] []
none_kept = record { within = λ j n e. absurd (cc); used = λ n lt. absurd (omega (arith, lt)) }

-- with more vectors the numbers say the same
same_said : (vectors : List (List Bool)) (v : List Bool) (x : Option ℕ) → ((n : ℕ) → x ≡ Some n → n < length vectors) → said_by (vectors ++ v ∷ []) x ≡ said_by vectors x
same_said vectors v None within = refl
same_said vectors v (Some n) within = let there = stands_below vectors n (within n refl) in front_stands vectors (v ∷ []) n there.0 there.1 ∙ sym there.1

all_same : (vectors : List (List Bool)) (v : List Bool) (numbers : List (Option ℕ)) → ((j n : ℕ) → slice_get numbers j ≡ Some (Some n) → n < length vectors) → map (said_by (vectors ++ v ∷ [])) numbers ≡ map (said_by vectors) numbers
all_same vectors v [] within = refl
all_same vectors v (x ∷ numbers) within =
    ap (λ (y : Option (List Bool)). y ∷ map (said_by (vectors ++ v ∷ [])) numbers) (same_said vectors v x (λ n e. within 0 n (ap (λ (y : Option ℕ). Some y) e)))
    ∙ ap (λ (ys : List (Option (List Bool))). said_by vectors x ∷ ys) (all_same vectors v numbers (λ j n e. within (suc j) n e))

-- a number more
pub number_more : (vectors : List (List Bool)) (numbers : List (Option ℕ)) (x : Option ℕ) (y : Option (List Bool)) → said_by vectors x ≡ y → map (said_by vectors) (numbers ++ x ∷ []) ≡ map (said_by vectors) numbers ++ y ∷ []
number_more vectors numbers x y e = map-append (said_by vectors) numbers (x ∷ []) ∙ ap (λ (z : Option (List Bool)). map (said_by vectors) numbers ++ z ∷ []) e

pub kept_more : (vectors : List (List Bool)) (numbers : List (Option ℕ)) (n : ℕ) → n < length vectors → AreVerdictsAt vectors numbers → AreVerdictsAt vectors (numbers ++ Some n ∷ [])
kept_more vectors numbers n lt a = record {
  within = λ j k e. elim (pushed_stands numbers (Some n) j (Some k) e) [
    | inl before ↦ a.within j k before
    | inr last ↦ subst (λ (x : ℕ). x < length vectors) (sym (some_is k n last.1)) lt
  ];
  used = λ k below. (let s = a.used k below in (s.0, front_stands numbers (Some n ∷ []) s.0 (Some k) s.1));
}

pub kept_none : (vectors : List (List Bool)) (numbers : List (Option ℕ)) → AreVerdictsAt vectors numbers → AreVerdictsAt vectors (numbers ++ None ∷ [])
kept_none vectors numbers a = record {
  within = λ j k e. elim (pushed_stands numbers None j (Some k) e) [
    | inl before ↦ a.within j k before
    | inr last ↦ (let bad : Some k ≡ None = last.1 in cc)
  ];
  used = λ k below. (let s = a.used k below in (s.0, front_stands numbers (None ∷ []) s.0 (Some k) s.1));
}

-- a vector more, with its number
pub vector_more : (vectors : List (List Bool)) (numbers : List (Option ℕ)) (v : List Bool) → AreVerdictsAt vectors numbers → AreVerdictsAt (vectors ++ v ∷ []) (numbers ++ Some (length vectors) ∷ [])
vector_more vectors numbers v a =
    let long : length (vectors ++ v ∷ []) ≡ length vectors + 1 = length-append vectors (v ∷ []) in
    record {
      within = λ j k e. elim (pushed_stands numbers (Some (length vectors)) j (Some k) e) [
        | inl before ↦ (let w = a.within j k before in omega (arith, w, long))
        | inr last ↦ (let same : k ≡ length vectors = some_is k (length vectors) last.1 in omega (arith, same, long))
      ];
      used = λ k below. elim (cases_eq k (length vectors)) [
        | inl same ↦ (length numbers, last_stands numbers (Some (length vectors)) ∙ ap (λ (n : ℕ). Some (Some n)) (sym same))
        | inr other ↦ (let s = a.used k (omega (arith, below, long, other)) in (s.0, front_stands numbers (Some (length vectors) ∷ []) s.0 (Some k) s.1))
      ];
    }

pub said_more : (vectors : List (List Bool)) (numbers : List (Option ℕ)) (v : List Bool) → AreVerdictsAt vectors numbers → map (said_by (vectors ++ v ∷ [])) (numbers ++ Some (length vectors) ∷ []) ≡ map (said_by vectors) numbers ++ Some v ∷ []
said_more vectors numbers v a =
    number_more (vectors ++ v ∷ []) numbers (Some (length vectors)) (Some v) (last_stands vectors v)
    ∙ ap (λ (ys : List (Option (List Bool))). ys ++ Some v ∷ []) (all_same vectors v numbers a.within)

-- what more records say
pub said_append : (records : List Record) (r : Record) → said_of (records ++ r ∷ []) ≡ said_of records ++ said_of_record r
said_append [] r = append-nil (said_of_record r)
said_append (x ∷ records) r = ap (λ (ys : List (Option (List Bool))). said_of_record x ++ ys) (said_append records r) ∙ sym (append_assoc (said_of_record x) (said_of records) (said_of_record r))

-- lists of the same values
pub same_values : (xs ys : List Bool) → pointwise beq xs ys ≡ true → xs ≡ ys
same_values [] [] e = refl
same_values [] (y ∷ ys) e = absurd (let bad : false ≡ true = e in cc)
same_values (x ∷ xs) [] e = absurd (let bad : false ≡ true = e in cc)
same_values (true ∷ xs) (true ∷ ys) e = ap (λ (zs : List Bool). true ∷ zs) (same_values xs ys e)
same_values (false ∷ xs) (false ∷ ys) e = ap (λ (zs : List Bool). false ∷ zs) (same_values xs ys e)
same_values (true ∷ xs) (false ∷ ys) e = absurd (let bad : false ≡ true = e in cc)
same_values (false ∷ xs) (true ∷ ys) e = absurd (let bad : false ≡ true = e in cc)

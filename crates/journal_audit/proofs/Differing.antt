-- Where texts differ.
use Rattle.std.proofs.Common.{◌≡◌, ℕ, zero, suc, ◌+◌, ◌<◌, ◌≤◌, List, [], ◌∷◌, length, take, drop, Option, Some, None, Result, Ok, Err, IfSome, IfErr, OnOk, refl, ap, sym, subst, ◌∙◌, arith, add-one}
use Rattle.std.specs.Prelude.{slice_get}
use Rattle.std.specs.Option.{option_map}
use Rattle.rm_base.specs.Files.{Files, file_of}
use Rattle.rm_base.specs.Shelves.{GivesPiece}
use Rattle.journal_audit.specs.Inner.Audited.{ComparedSays, IsDifference}
use Rattle.journal_audit.specs.Differences.{DifferAfter, DifferAt}
use Rattle.journal_audit.specs.declared.problem.AuditProblem.{AuditProblem}
use Rattle.rm_base.specs.Words.{Word}

take_none : (n : ℕ) → let none : List ℕ = [] in take n none ≡ none
take_none zero = refl
take_none (suc n) = refl

-- a text, and another one cut off behind its length
pub cut_same : (text found : List ℕ) → text ≡ take (length text + 1) found → found ≡ text
cut_same [] [] e = refl
cut_same [] (y ∷ ys) e = cc
cut_same (x ∷ xs) [] e = let f : x ∷ xs ≡ [] = e ∙ take_none (length (x ∷ xs) + 1) in cc
cut_same (x ∷ xs) (y ∷ ys) e =
    let one : suc (length xs) + 1 ≡ suc (length xs + 1) = omega arith in
    let f : x ∷ xs ≡ y ∷ take (length xs + 1) ys = e ∙ ap (λ (n : ℕ). take n (y ∷ ys)) one in
    let head : x ≡ y = cc in
    let tail : xs ≡ take (length xs + 1) ys = cc in
    ap (λ (z : ℕ). z ∷ ys) (sym head) ∙ ap (λ (zs : List ℕ). x ∷ zs) (cut_same xs ys tail)

get_cut : (found : List ℕ) (n k : ℕ) → k < n → slice_get (take n found) k ≡ slice_get found k
get_cut [] zero k l = absurd (omega (arith, l))
get_cut [] (suc n) k l = refl
get_cut (y ∷ ys) zero k l = absurd (omega (arith, l))
get_cut (y ∷ ys) (suc n) zero l = refl
get_cut (y ∷ ys) (suc n) (suc k) l = get_cut ys n k (omega (arith, l))

take_cut : (found : List ℕ) (n k : ℕ) → k ≤ n → take k (take n found) ≡ take k found
take_cut [] zero zero l = refl
take_cut [] zero (suc k) l = absurd (omega (arith, l))
take_cut [] (suc n) zero l = refl
take_cut [] (suc n) (suc k) l = refl
take_cut (y ∷ ys) n zero l = refl
take_cut (y ∷ ys) zero (suc k) l = absurd (omega (arith, l))
take_cut (y ∷ ys) (suc n) (suc k) l = ap (λ (zs : List ℕ). y ∷ zs) (take_cut ys n k (omega (arith, l)))

get_beyond : (xs : List ℕ) (k : ℕ) → length xs ≤ k → slice_get xs k ≡ None
get_beyond [] k l = refl
get_beyond (x ∷ xs) zero l = absurd (omega (arith, l))
get_beyond (x ∷ xs) (suc k) l = get_beyond xs k (omega (arith, l))

length_cut : (found : List ℕ) (n : ℕ) → length (take n found) ≤ n
length_cut [] zero = omega arith
length_cut [] (suc n) = omega arith
length_cut (y ∷ ys) zero = omega arith
length_cut (y ∷ ys) (suc n) = let h : length (take n ys) ≤ n = length_cut ys n in omega (arith, h)

-- a difference from a text that is cut off is one from the whole
pub cut_differs : (text found : List ℕ) (place : ℕ) → place ≤ length text → DifferAfter text (take (length text + 1) found) place → DifferAt text found (place + 1)
cut_differs text found place l d = record {
  place = place;
  after = record {
    same = d.same ∙ take_cut found (length text + 1) place (omega (arith, l));
    differ = λ e. d.differ (e ∙ sym (get_cut found (length text + 1) place (omega (arith, l))));
  };
  counts = refl;
}

-- texts that are the same so far
pub none_same : (text other : List ℕ) (at : ℕ) → take at text ≡ take at other → length text ≤ at → length other ≤ at → text ≡ other
none_same [] [] at e l m = refl
none_same [] (y ∷ ys) zero e l m = absurd (omega (arith, m))
none_same [] (y ∷ ys) (suc at) e l m = cc
none_same (x ∷ xs) ys zero e l m = absurd (omega (arith, l))
none_same (x ∷ xs) [] (suc at) e l m = cc
none_same (x ∷ xs) (y ∷ ys) (suc at) e l m =
    let head : x ≡ y = cc in
    let tail : take at xs ≡ take at ys = cc in
    ap (λ (z : ℕ). z ∷ xs) head ∙ ap (λ (zs : List ℕ). y ∷ zs) (none_same xs ys at tail (omega (arith, l)) (omega (arith, m)))

-- one byte more
same_suc : (text other : List ℕ) (at : ℕ) → take at text ≡ take at other → slice_get text at ≡ slice_get other at → take (suc at) text ≡ take (suc at) other
same_suc [] [] at e f = refl
same_suc [] (y ∷ ys) zero e f = cc
same_suc [] (y ∷ ys) (suc at) e f = cc
same_suc (x ∷ xs) [] zero e f = cc
same_suc (x ∷ xs) [] (suc at) e f = cc
same_suc (x ∷ xs) (y ∷ ys) zero e f = let head : x ≡ y = cc in ap (λ (z : ℕ). z ∷ []) head
same_suc (x ∷ xs) (y ∷ ys) (suc at) e f =
    let head : x ≡ y = cc in
    let tail : take at xs ≡ take at ys = cc in
    ap (λ (z : ℕ). z ∷ take (suc at) xs) head ∙ ap (λ (zs : List ℕ). y ∷ zs) (same_suc xs ys at tail f)

pub same_more : (text other : List ℕ) (at : ℕ) → take at text ≡ take at other → slice_get text at ≡ slice_get other at → take (at + 1) text ≡ take (at + 1) other
same_more text other at e f = ap (λ (n : ℕ). take n text) (add-one at) ∙ same_suc text other at e f ∙ ap (λ (n : ℕ). take n other) (sym (add-one at))

found_at : (o : Option (List ℕ)) (n : ℕ) (found : List ℕ) → Some found ≡ option_map (λ (bytes : List ℕ). take n (drop 0 bytes)) o → (bytes : List ℕ) × ((o ≡ Some bytes) × (found ≡ take n bytes))
found_at None n found e = cc
found_at (Some bytes) n found e = (bytes, (refl, cc))

says_case : (files : Files) (output : Word) (text found : List ℕ) (answer : Result (Unit {0}) AuditProblem) → GivesPiece (Some files) output 0 (length text + 1) (Some found) → OnOk answer (text ≡ found) → IfErr answer (IsDifference text found) → ComparedSays files output text answer
says_case files output text found (Ok u) gives same differ =
    let at = found_at (file_of files output) (length text + 1) found gives in
    at.1.0 ∙ ap (λ (t : List ℕ). Some t) (cut_same text at.0 (same ∙ at.1.1))
says_case files output text found (Err problem) gives same differ =
    let at = found_at (file_of files output) (length text + 1) found gives in
    let cut : DifferAfter text (take (length text + 1) at.0) differ.0 = subst (λ (t : List ℕ). DifferAfter text t differ.0) at.1.1 differ.1.1.1 in
    subst (λ (p : AuditProblem). ComparedSays files output text (Err p)) (sym differ.1.0) (at.0, (at.1.0, cut_differs text at.0 differ.0 differ.1.1.0 cut))

-- what the comparison says of the file, where the shelf tells it
pub compared_says : (files : Option Files) (output : Word) (text found : List ℕ) (answer : Result (Unit {0}) AuditProblem) → GivesPiece files output 0 (length text + 1) (Some found) → OnOk answer (text ≡ found) → IfErr answer (IsDifference text found) → IfSome files (λ told. ComparedSays told output text answer)
compared_says None output text found answer gives same differ = tt
compared_says (Some files) output text found answer gives same differ = says_case files output text found answer gives same differ

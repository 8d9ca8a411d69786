-- Texts appended to a file, one after another.
use Rattle.std.proofs.Common.{◌≡◌, ℕ, suc, Option, Some, None, List, [], ◌∷◌, ◌++◌, take, length, Bool, true, false, nat_cmp, is_eq, cond, refl, sym, ◌∙◌, ap, subst, append_assoc, rules}
use Rattle.std.specs.Prelude.{unwrap_or, Ok, Err, Result, OnErr}
use Rattle.std.specs.Option.{option_map}
use Rattle.std.specs.Cmp.{Equal-is}
use Rattle.std.specs.Cmp.Lexicographic.{nat_list_cmp_total, slice_cmp}
use Rattle.std.specs.FinMap.{get, get-insert, same_map, gets, slice_cmp-IsAntisymmetric, nat_cmp-IsAntisymmetric}
use Rattle.std.proofs.lemmas.List.{append-nil}
use Rattle.rm_base.specs.Files.{Files, put_file, append_file}
use Rattle.rm_base.proofs.Public.{append_file-put_file, take_of_longer, take_zero}
use Rattle.rm_base.specs.Shelves.{IsAppended}
use Rattle.rm_base.specs.declared.outside.OutsideFault.{OutsideFault}
use Rattle.rm_base.specs.declared.outside.OutsideFault.TheVariants as outside
use Rattle.journal_text.specs.declared.append.Stop.{Stop}
use Rattle.journal_text.specs.declared.append.Stop.TheVariants as stop
use Rattle.journal_text.specs.Appends.{IsRecorded, IsThere}
use Rattle.journal_text.specs.Runs.{HasAppended, HasAppendedPart}

file_same : (name bytes : List ℕ) (f : Files) → get f name ≡ Some bytes → put_file name bytes f ≡ f
file_same name bytes f e = same_map nat_list_cmp_total (slice_cmp-IsAntisymmetric nat_cmp-IsAntisymmetric) _ _ (λ q. get-insert nat_list_cmp_total f name bytes q ∙ at q (is_eq (slice_cmp nat_cmp q name)) refl)
  where
    at : (q : List ℕ) (b : Bool) → is_eq (slice_cmp nat_cmp q name) ≡ b → cond b (Some bytes) (get f q) ≡ get f q
    at q false differs = refl
    at q true yes_same = sym (ap (get f) (slice_cmp-IsAntisymmetric nat_cmp-IsAntisymmetric q name ((Equal-is (slice_cmp nat_cmp q name)).0 yes_same)) ∙ e)

pub appended_none : (files : Option Files) (name : List ℕ) → IsThere files name → HasAppended files files name []
appended_none None name there = refl
appended_none (Some f) name there = ap (λ (g : Files). Some g) (at (get f name) refl)
  where
    at : (o : Option (List ℕ)) → get f name ≡ o → f ≡ put_file name (unwrap_or (get f name) [] ++ []) f
    at None e = absurd (there e)
    at (Some bytes) e =
        let is : unwrap_or (get f name) [] ++ [] ≡ bytes = append-nil (unwrap_or (get f name) []) ∙ ap (λ (o : Option (List ℕ)). unwrap_or o []) e in
        sym (ap (λ (bs : List ℕ). put_file name bs f) is ∙ file_same name bytes f e)

twice : (name a b : List ℕ) (f : Files) → append_file name b (append_file name a f) ≡ append_file name (a ++ b) f
twice name a b f =
    let u : List ℕ = unwrap_or (get f name) [] in
    append_file-put_file name (u ++ a) b f ∙ ap (λ (bs : List ℕ). put_file name bs f) (append_assoc u a b)

pub appended_then : (old mid new : Option Files) (name a b : List ℕ) → HasAppended old mid name a → HasAppended mid new name b → HasAppended old new name (a ++ b)
appended_then old mid new name a b first second = second ∙ ap (option_map (append_file name b)) first ∙ at old
  where
    at : (o : Option Files) → option_map (append_file name b) (option_map (append_file name a) o) ≡ option_map (append_file name (a ++ b)) o
    at None = refl
    at (Some f) = ap (λ (g : Files). Some g) (twice name a b f)

pub there_then : (old new : Option Files) (name text : List ℕ) → IsThere old name → HasAppended old new name text → IsThere new name
there_then None new name text there e = subst (λ (o : Option Files). IsThere o name) (sym e) tt
there_then (Some f) new name text there e =
    let some : get (append_file name text f) name ≡ Some (unwrap_or (get f name) [] ++ text) = grind (gets, rules) in
    subst (λ (o : Option Files). IsThere o name) (sym e) (λ none. cc (some, none))

pub take_all : (xs : List ℕ) → take (length xs) xs ≡ xs
take_all [] = refl
take_all (x ∷ xs) = ap (λ (ys : List ℕ). x ∷ ys) (take_all xs)

-- a part of the second text behind the first is a part of both
behind_part : (a b : List ℕ) (k : ℕ) → (m : ℕ) × (a ++ take k b ≡ take m (a ++ b))
behind_part [] b k = (k, refl)
behind_part (x ∷ a) b k = let r : (m : ℕ) × (a ++ take k b ≡ take m (a ++ b)) = behind_part a b k in (suc r.0, ap (λ (xs : List ℕ). x ∷ xs) r.1)

pub part_then : (old mid new : Option Files) (name a b : List ℕ) → HasAppended old mid name a → HasAppendedPart mid new name b → HasAppendedPart old new name (a ++ b)
part_then old mid new name a b first (k, part) =
    let r : (m : ℕ) × (a ++ take k b ≡ take m (a ++ b)) = behind_part a b k in
    (r.0, subst (λ (xs : List ℕ). HasAppended old new name xs) r.1 (appended_then old mid new name a (take k b) first part))

pub part_longer : (old new : Option Files) (name a b : List ℕ) → HasAppendedPart old new name a → HasAppendedPart old new name (a ++ b)
part_longer old new name a b (k, part) =
    let r : (m : ℕ) × (take k a ≡ take m (a ++ b)) = take_of_longer a b k in
    (r.0, subst (λ (xs : List ℕ). HasAppended old new name xs) r.1 part)

pub part_whole : (old new : Option Files) (name a : List ℕ) → HasAppended old new name a → HasAppendedPart old new name a
part_whole old new name a h = (length a, subst (λ (xs : List ℕ). HasAppended old new name xs) (sym (take_all a)) h)

pub part_none : (files : Option Files) (name text : List ℕ) → IsThere files name → HasAppendedPart files files name text
part_none files name text there = (0, subst (λ (xs : List ℕ). HasAppended files files name xs) (sym (take_zero text)) (appended_none files name there))

pub stopped_part : (r : Result (Unit {0}) Stop) (old new : Option Files) (name text : List ℕ) → IsThere old name → IsRecorded r old new name text → OnErr r (HasAppendedPart old new name text)
stopped_part (Ok u) old new name text there h = tt
stopped_part (Err stop.Failed) old new name text there h = h
stopped_part (Err stop.NoMemory) old new name text there h = subst (λ (o : Option Files). HasAppendedPart old o name text) (sym h) (part_none old name text there)

pub stays_there : (r : Result (Unit {0}) Stop) (old new : Option Files) (name text : List ℕ) → IsThere old name → IsRecorded r old new name text → IsThere new name
stays_there (Ok u) old new name text there h = there_then old new name text there h
stays_there (Err stop.Failed) old new name text there h = there_then old new name (take h.0 text) there h.1
stays_there (Err stop.NoMemory) old new name text there h = subst (λ (o : Option Files). IsThere o name) (sym h) there

-- a shelf whose append was stopped
pub outside_part : (fault : OutsideFault) (old new : Option Files) (name text : List ℕ) → IsThere old name → IsAppended {T = Unit {0}} (Err fault) old new name text → HasAppendedPart old new name text
outside_part outside.Failed old new name text there h = h
outside_part outside.NoMemory old new name text there h = subst (λ (o : Option Files). HasAppendedPart old o name text) (sym h) (part_none old name text there)

pub outside_there : (fault : OutsideFault) (old new : Option Files) (name text : List ℕ) → IsThere old name → IsAppended {T = Unit {0}} (Err fault) old new name text → IsThere new name
outside_there outside.Failed old new name text there h = there_then old new name (take h.0 text) there h.1
outside_there outside.NoMemory old new name text there h = subst (λ (o : Option Files). IsThere o name) (sym h) there

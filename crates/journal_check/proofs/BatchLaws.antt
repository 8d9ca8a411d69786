-- What holds of each batch, where one is read, changed or added.
use Rattle.std.proofs.Common.{◌≡◌, ℕ, zero, suc, List, [], ◌∷◌, ◌++◌, Some, subst}
use Rattle.std.specs.Prelude.{slice_get, slice_set}
use Rattle.std.specs.List.{AllByRecursion}
use Rattle.rm_base.proofs.Public.{all_append, some_is}

pub all_found : {A : Type 0} (P : A → Type 0) (xs : List A) (k : ℕ) (x : A) → AllByRecursion P xs → slice_get xs k ≡ Some x → P x
all_found P [] zero x h e = cc
all_found P [] (suc k) x h e = cc
all_found P (y ∷ xs) zero x h e = subst P (some_is y x e) h.0
all_found P (y ∷ xs) (suc k) x h e = all_found P xs k x h.1 e

pub all_changed : {A : Type 0} (P : A → Type 0) (xs : List A) (k : ℕ) (x : A) → AllByRecursion P xs → P x → AllByRecursion P (slice_set xs k x)
all_changed P [] k x h p = tt
all_changed P (y ∷ xs) zero x h p = (p, h.1)
all_changed P (y ∷ xs) (suc k) x h p = (h.0, all_changed P xs k x h.1 p)

pub all_pushed : {A : Type 0} (P : A → Type 0) (xs : List A) (x : A) → AllByRecursion P xs → P x → AllByRecursion P (xs ++ x ∷ [])
all_pushed P xs x h p = all_append P xs (x ∷ []) h (p, tt)

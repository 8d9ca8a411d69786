-- A walk over a parity's pins.
use Rattle.std.proofs.Common.{Bool, List, None, Option, Some, [], ap, arith, drop, false, inl, inr, length, not, refl, suc, sym, true, zero, ℕ, ◌+◌, ◌<◌, ◌∙◌, ◌∷◌, ◌≡◌, ◌≢◌, ◌≤◌, ◌⊎◌}
use Rattle.std.specs.Prelude.{if◌then◌else◌, slice_get}
use Rattle.local_evaluation.specs.Pins.{turned_known}
use Rattle.gate_net.specs.Meaning.{family, family_back, family_forward, parity_back, parity_follows, turned, value_back, value_forward}
use Rattle.gate_net.specs.declared.Family.{Family}
use Rattle.gate_net.specs.declared.Kind.{Kind}
use mathlib.Core.Bool.{beq}
use Rattle.rm_base.proofs.Public.{drop_end, drop_stands}

-- what a walk comes to that goes on with these pins
abbrev pub parity_from : Option Bool → List (Option Bool) → Option Bool
parity_from None os = None
parity_from (Some i) os = parity_follows i os

abbrev pub back_from : Option Bool → List (Option Bool) → ℕ → Option Bool
back_from None os q = None
back_from (Some i) os q = parity_back i os q

from_more : (p o : Option Bool) (os : List (Option Bool)) → parity_from p (o ∷ os) ≡ parity_from (turned_known p o) os
from_more None o os = refl
from_more (Some i) None os = refl
from_more (Some i) (Some b) os = refl

from_end : (p : Option Bool) → parity_from p [] ≡ p
from_end None = refl
from_end (Some i) = refl

back_more : (p o : Option Bool) (os : List (Option Bool)) (q : ℕ) → back_from p (o ∷ os) (suc q) ≡ back_from (turned_known p o) os q
back_more None o os q = refl
back_more (Some i) None os q = refl
back_more (Some i) (Some b) os q = refl

back_here : (p o : Option Bool) (os : List (Option Bool)) → back_from p (o ∷ os) zero ≡ parity_from p os
back_here None o os = refl
back_here (Some i) o os = refl

back_end : (p : Option Bool) (q : ℕ) → back_from p [] q ≡ None
back_end None q = refl
back_end (Some i) q = refl

-- all pins
pub forward_more : (p here : Option Bool) (k : ℕ) (os : List (Option Bool)) (whole : Option Bool) → slice_get os k ≡ Some here → parity_from p (drop k os) ≡ whole → parity_from (turned_known p here) (drop (k + 1) os) ≡ whole
forward_more p here k os whole there e =
    let step : k + 1 ≡ suc k = omega arith in
    rw step (sym (from_more p here (drop (suc k) os)) ∙ rw (drop_stands os k here there) at e)

pub forward_last : (p : Option Bool) (k : ℕ) (os : List (Option Bool)) (whole : Option Bool) → length os ≤ k → parity_from p (drop k os) ≡ whole → p ≡ whole
forward_last p k os whole end e = sym (from_end p) ∙ rw (drop_end os k end) at e

-- all pins but that at q: it is still to come, or was passed
abbrev pub BackTo : Bool → Option Bool → ℕ → ℕ → List (Option Bool) → Option Bool → Type 0
BackTo there p k q os whole =
    ((r : ℕ) × (k + r ≡ q) × (there ≡ false) × (back_from p (drop k os) r ≡ whole))
    ⊎ ((q < k) × (there ≡ true) × (parity_from p (drop k os) ≡ whole))

pub back_first : (i : Bool) (q : ℕ) (os : List (Option Bool)) → BackTo false (Some i) 0 q os (parity_back i os q)
back_first i q os = inl (q, omega arith, refl, refl)

pub back_at : (there : Bool) (p here : Option Bool) (k q : ℕ) (os : List (Option Bool)) (whole : Option Bool) → slice_get os k ≡ Some here → k ≡ q → BackTo there p k q os whole → BackTo true p (k + 1) q os whole
back_at there p here k q os whole at same (inl (zero, is, off, e)) =
    let step : k + 1 ≡ suc k = omega arith in
    inr (omega arith, refl, rw step (sym (back_here p here (drop (suc k) os)) ∙ rw (drop_stands os k here at) at e))
back_at there p here k q os whole at same (inl (suc r, is, off, e)) = absurd (omega arith)
back_at there p here k q os whole at same (inr (past, on, e)) = absurd (omega arith)

pub back_other : (there : Bool) (p here : Option Bool) (k q : ℕ) (os : List (Option Bool)) (whole : Option Bool) → slice_get os k ≡ Some here → k ≢ q → BackTo there p k q os whole → BackTo there (turned_known p here) (k + 1) q os whole
back_other there p here k q os whole at other (inl (zero, is, off, e)) = absurd (other (omega arith))
back_other there p here k q os whole at other (inl (suc r, is, off, e)) =
    let step : k + 1 ≡ suc k = omega arith in
    inl (r, omega arith, off, rw step (sym (back_more p here (drop (suc k) os) r) ∙ rw (drop_stands os k here at) at e))
back_other there p here k q os whole at other (inr (past, on, e)) = inr (omega arith, on, forward_more p here k os whole at e)

pub back_last : (there : Bool) (p : Option Bool) (k q : ℕ) (os : List (Option Bool)) (whole : Option Bool) → length os ≤ k → BackTo there p k q os whole → (if there then p else None) ≡ whole
back_last there p k q os whole end (inl (r, is, off, e)) = rw off (sym (back_end p r) ∙ rw (drop_end os k end) at e)
back_last there p k q os whole end (inr (past, on, e)) = rw on (forward_last p k os whole end e)

-- by what the kind means
pub forward_by : (kind : Kind) (f : Family) (os : List (Option Bool)) (r : Option Bool) → r ≡ family_forward f os → f ≡ family kind → r ≡ value_forward kind os
forward_by kind f os r e is = e ∙ ap (λ (g : Family). family_forward g os) is

pub back_by : (kind : Kind) (f : Family) (value : Bool) (os : List (Option Bool)) (q : ℕ) (r : Option Bool) → r ≡ family_back f value os q → f ≡ family kind → r ≡ value_back kind value os q
back_by kind f value os q r e is = e ∙ ap (λ (g : Family). family_back g value os q) is

pub back_turned : (value i : Bool) (os : List (Option Bool)) (q : ℕ) → parity_back (not (beq i value)) os q ≡ parity_back (turned value i) os q
back_turned true true os q = refl
back_turned true false os q = refl
back_turned false true os q = refl
back_turned false false os q = refl

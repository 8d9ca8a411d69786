-- What is to be settled of a net, and how one record settles it.
use Rattle.std.proofs.Common.{◌≡◌, ℕ, suc, ◌+◌, ◌<◌, ◌≤◌, List, [], ◌∷◌, drop, length, Ok, Bool, zero, refl, ap, sym, subst, ◌∙◌, inl, inr, arith, add-one}
use Rattle.std.specs.List.{AllByRecursion}
use Rattle.rm_base.specs.declared.numbers.Fault.{Fault}
use Rattle.gate_net.specs.Net.{Net}
use Rattle.gate_net.specs.Values.{HasPin}
use Rattle.gate_net.specs.Faults.{IsTest}
use Rattle.refutation.specs.declared.items.Item.{Item}
use Rattle.refutation.specs.declared.items.Form.TheVariants.{Partial}
use Rattle.refutation_check.specs.FirstRefusal.{IsAcceptedAs}
use Rattle.journal_text.specs.declared.record.Record.TheVariants as kept
use Rattle.journal_check.specs.declared.settling.Settling.{Settling}
use Rattle.journal_check.specs.Verdicts.{edges_of}
use Rattle.journal_check.specs.Replaying.{VerdictLeads, goes_on, settling}
use Rattle.journal_check.specs.Inner.ReplayStates.{Expects, IsSettling, left_of}

drop_next : (fs : List Fault) (n : ℕ) (x : Fault) (xs : List Fault) → drop n fs ≡ x ∷ xs → (n < length fs) × (drop (suc n) fs ≡ xs)
drop_next [] zero x xs e = cc
drop_next [] (suc n) x xs e = cc
drop_next (y ∷ ys) zero x xs e = (omega arith, cc)
drop_next (y ∷ ys) (suc n) x xs e = let p = drop_next ys n x xs e in (omega (arith, p.0), p.1)

next_case : (s t : Settling) (given f : Fault) (fs : List Fault) → t.faults.items ≡ s.faults.items → t.settled ≡ s.settled + 1 → left_of s ≡ fs → Expects fs given (Ok f)
    → (gs : List Fault) × ((fs ≡ f ∷ gs) × ((given ≡ f) × ((s.settled < length s.faults.items) × (left_of t ≡ gs))))
next_case s t given f [] same one e v = cc
next_case s t given f (x ∷ xs) same one e v =
    let p = drop_next s.faults.items s.settled x xs e in
    let given_is : given ≡ f = v.1 ∙ sym v.0 in
    let left : left_of t ≡ drop (suc s.settled) s.faults.items = ap (λ (fs : List Fault). drop t.settled fs) same ∙ ap (λ (n : ℕ). drop n s.faults.items) (one ∙ add-one s.settled) in
    (xs, (ap (λ (y : Fault). y ∷ xs) (sym v.0), (given_is, (p.0, left ∙ p.1))))

-- the next fault is settled: it has its pin, and so have those behind it
pub pins_next : (net : Net) (s t : Settling) (given f : Fault) → t.faults.items ≡ s.faults.items → t.settled ≡ s.settled + 1 → IsSettling net s → Expects (left_of s) given (Ok f)
    → (t.settled ≤ length t.faults.items) × AllByRecursion (HasPin net) (left_of t)
pins_next net s t given f same one v x =
    let p = next_case s t given f (left_of s) same one refl x in
    let pins : AllByRecursion (HasPin net) (f ∷ p.0) = subst (λ (fs : List Fault). AllByRecursion (HasPin net) fs) p.1.0 v.pins in
    (omega (arith, p.1.1.1.0, one, ap (λ (fs : List Fault). length fs) same), subst (λ (fs : List Fault). AllByRecursion (HasPin net) fs) (sym p.1.1.1.1) pins.1)

expected_case : (net : Net) (given f : Fault) (fs : List Fault) → AllByRecursion (HasPin net) fs → Expects fs given (Ok f) → HasPin net f
expected_case net given f [] v x = cc
expected_case net given f (y ∷ ys) v x = subst (HasPin net) (sym x.0) v.0

-- the expected fault has its pin
pub expected_pin : (net : Net) (s : Settling) (given f : Fault) → IsSettling net s → Expects (left_of s) given (Ok f) → HasPin net f
expected_pin net s given f v x = expected_case net given f (left_of s) v.pins x

pub hit_settles : (net : Net) (budget : ℕ) (s t : Settling) (given f : Fault) (vector : List Bool) → t.faults.items ≡ s.faults.items → t.settled ≡ s.settled + 1 → Expects (left_of s) given (Ok f) → IsTest net f vector
    → VerdictLeads net budget (left_of s) (kept.Hit given vector) (goes_on (settling net (left_of t)))
hit_settles net budget s t given f vector same one x h =
    let p = next_case s t given f (left_of s) same one refl x in
    let out : goes_on (settling net (left_of t)) ≡ goes_on (settling net p.0) = ap (λ (fs : List Fault). goes_on (settling net fs)) p.1.1.1.1 in
    subst (λ (fs : List Fault). VerdictLeads net budget fs (kept.Hit given vector) (goes_on (settling net (left_of t)))) (sym p.1.0) (inr (p.1.1.0, inl (h, out)))

pub spent_settles : (net : Net) (budget : ℕ) (s t : Settling) (given f : Fault) (tree : List Item) → t.faults.items ≡ s.faults.items → t.settled ≡ s.settled + 1 → Expects (left_of s) given (Ok f) → IsAcceptedAs Partial net f tree → edges_of tree ≡ budget
    → VerdictLeads net budget (left_of s) (kept.Spent given tree) (goes_on (settling net (left_of t)))
spent_settles net budget s t given f tree same one x a e =
    let p = next_case s t given f (left_of s) same one refl x in
    let out : goes_on (settling net (left_of t)) ≡ goes_on (settling net p.0) = ap (λ (fs : List Fault). goes_on (settling net fs)) p.1.1.1.1 in
    subst (λ (fs : List Fault). VerdictLeads net budget fs (kept.Spent given tree) (goes_on (settling net (left_of t)))) (sym p.1.0) (inr (p.1.1.0, inr (inr (a, (e, out)))))

-- Turns through the targets of a net.
use Rattle.std.proofs.Common.{Bool, List, None, Option, Some, [], ap, arith, cond, false, inl, inr, map, not, refl, subst, suc, sym, true, zero, ℕ, ◌++◌, ◌∙◌, ◌∷◌, ◌≡◌}
use Rattle.std.specs.Prelude.{filter, slice_get}
use Rattle.gate_net.specs.Net.{Net}
use Rattle.rm_base.specs.declared.numbers.Fault.{Fault}
use Rattle.candidate_wires.proofs.Appending.{stands_either}
use Rattle.candidate_wires.proofs.OneList.{candidates_of_one}
use Rattle.candidate_wires.proofs.OneTarget.{targets_once}
use Rattle.candidate_wires.proofs.Once.{IsOnce, once_both, once_none}
use Rattle.candidate_wires.specs.Candidates.{AreCandidatesOf}
use Rattle.candidate_wires.specs.Laws.{TurnsAreWhole}
use Rattle.candidate_wires.specs.Pairs.{ArePairsOf, is_before, paired, targets_of, turn_of, turn_through}
use Rattle.candidate_wires.specs.Tries.{NoneGains}
use Rattle.candidate_wires.specs.declared.candidate.Candidate.{Candidate}
use Rattle.candidate_wires.specs.declared.candidate.Pair.{Pair}

-- FILTERED LISTS
filtered_at : {A : Type 0} (p : A → Bool) (y : A) (xs : List A) (b : Bool) → p y ≡ b → (k : ℕ) (x : A) → slice_get (cond b (y ∷ filter p xs) (filter p xs)) k ≡ Some x
    → ((k : ℕ) (x : A) → slice_get (filter p xs) k ≡ Some x → (p x ≡ true) × ((j : ℕ) × (slice_get xs j ≡ Some x)))
    → (p x ≡ true) × ((j : ℕ) × (slice_get (y ∷ xs) j ≡ Some x))
filtered_at p y xs true is zero x e rest = let same : y ≡ x = cc in (ap p (sym same) ∙ is, (0, e))
filtered_at p y xs true is (suc k) x e rest = let r = rest k x e in (r.0, (suc r.1.0, r.1.1))
filtered_at p y xs false is k x e rest = let r = rest k x e in (r.0, (suc r.1.0, r.1.1))

-- an item of a filtered list passes, and stands in the whole
pub filtered : {A : Type 0} (p : A → Bool) (xs : List A) (k : ℕ) (x : A) → slice_get (filter p xs) k ≡ Some x → (p x ≡ true) × ((j : ℕ) × (slice_get xs j ≡ Some x))
filtered p [] k x e = absurd (cc)
filtered {A} p (y ∷ xs) k x e = filtered_at p y xs (p y) refl k x e (filtered p xs)

put_before : {A : Type 0} (p : A → Bool) (y : A) (xs : List A) (b : Bool) (j : ℕ) (x : A) → slice_get (filter p xs) j ≡ Some x → (k : ℕ) × (slice_get (cond b (y ∷ filter p xs) (filter p xs)) k ≡ Some x)
put_before p y xs true j x e = (suc j, e)
put_before p y xs false j x e = (j, e)

-- an item that passes stands in the filtered list
pub passes : {A : Type 0} (p : A → Bool) (xs : List A) (k : ℕ) (x : A) → slice_get xs k ≡ Some x → p x ≡ true → (j : ℕ) × (slice_get (filter p xs) j ≡ Some x)
passes p [] k x e is = absurd (cc)
passes {A} p (y ∷ xs) zero x e is =
    let same : y ≡ x = cc in
    let one : p y ≡ true = ap p same ∙ is in
    (0, ap (λ (b : Bool). slice_get (cond b (y ∷ filter p xs) (filter p xs)) 0) one ∙ e)
passes p (y ∷ xs) (suc k) x e is = let r = passes p xs k x e is in put_before p y xs (p y) r.0 x r.1

once_rest : {A : Type 0} (y : A) (xs : List A) → IsOnce (y ∷ xs) → IsOnce xs
once_rest y xs once k l x e f = let same : suc k ≡ suc l = once (suc k) (suc l) x e f in omega (arith, same)

once_more : {A : Type 0} (y : A) (xs : List A) → IsOnce xs → ((k : ℕ) → slice_get xs k ≡ Some y → ⊥) → IsOnce (y ∷ xs)
once_more y xs once none zero zero x e f = refl
once_more y xs once none zero (suc l) x e f = let same : y ≡ x = cc in absurd (none l (f ∙ ap Some (sym same)))
once_more y xs once none (suc k) zero x e f = let same : y ≡ x = cc in absurd (none k (e ∙ ap Some (sym same)))
once_more y xs once none (suc k) (suc l) x e f = ap suc (once k l x e f)

filtered_once_at : {A : Type 0} (p : A → Bool) (y : A) (xs : List A) (b : Bool) → IsOnce (y ∷ xs) → IsOnce (filter p xs) → IsOnce (cond b (y ∷ filter p xs) (filter p xs))
filtered_once_at p y xs true once rest = once_more y (filter p xs) rest (λ k e.
    let r = filtered p xs k y e in
    let same : 0 ≡ suc r.1.0 = once 0 (suc r.1.0) y refl r.1.1 in
    absurd (omega (arith, same)))
filtered_once_at p y xs false once rest = rest

filtered_once : {A : Type 0} (p : A → Bool) (xs : List A) → IsOnce xs → IsOnce (filter p xs)
filtered_once p [] once = once_none
filtered_once p (y ∷ xs) once = filtered_once_at p y xs (p y) once (filtered_once p xs (once_rest y xs once))

-- TURNS
not_both : (b : Bool) → not b ≡ true → b ≡ true → ⊥
not_both true e f = absurd (cc)
not_both false e f = absurd (cc)

through_once : (targets : List Fault) (start : Option Fault) → IsOnce targets → IsOnce (turn_through targets start)
through_once targets None once = once
through_once targets (Some start) once =
    once_both (filter (λ (fault : Fault). not (is_before start fault)) targets) (filter (is_before start) targets)
    (filtered_once (λ (fault : Fault). not (is_before start fault)) targets once) (filtered_once (is_before start) targets once)
    (λ k l x e f. not_both (is_before start x) (filtered (λ (fault : Fault). not (is_before start fault)) targets k x e).0 (filtered (is_before start) targets l x f).0)

pub turn_once : (net : Net) (start : Option Fault) → IsOnce (turn_of net start)
turn_once net start = through_once (targets_of net) start (targets_once net)

stands_front : {A : Type 0} (xs ys : List A) (k : ℕ) (x : A) → slice_get xs k ≡ Some x → slice_get (xs ++ ys) k ≡ Some x
stands_front [] ys k x e = absurd (cc)
stands_front (y ∷ xs) ys zero x e = e
stands_front (y ∷ xs) ys (suc k) x e = stands_front xs ys k x e

stands_back : {A : Type 0} (xs ys : List A) (k : ℕ) (x : A) → slice_get ys k ≡ Some x → (j : ℕ) × (slice_get (xs ++ ys) j ≡ Some x)
stands_back [] ys k x e = (k, e)
stands_back (y ∷ xs) ys k x e = let r = stands_back xs ys k x e in (suc r.0, r.1)

in_part : (targets : List Fault) (start fault : Fault) (k : ℕ) (b : Bool) → is_before start fault ≡ b → slice_get targets k ≡ Some fault → (j : ℕ) × (slice_get (turn_through targets (Some start)) j ≡ Some fault)
in_part targets start fault k true is e =
    let r = passes (is_before start) targets k fault e is in
    stands_back (filter (λ (f : Fault). not (is_before start f)) targets) (filter (is_before start) targets) r.0 fault r.1
in_part targets start fault k false is e =
    let r = passes (λ (f : Fault). not (is_before start f)) targets k fault e (ap not is) in
    (r.0, stands_front (filter (λ (f : Fault). not (is_before start f)) targets) (filter (is_before start) targets) r.0 fault r.1)

-- each target has its place in a turn
in_turn : (targets : List Fault) (start : Option Fault) (k : ℕ) (fault : Fault) → slice_get targets k ≡ Some fault → (j : ℕ) × (slice_get (turn_through targets start) j ≡ Some fault)
in_turn targets None k fault e = (k, e)
in_turn targets (Some start) k fault e = in_part targets start fault k (is_before start fault) refl e

-- and a turn has targets alone
pub of_turn : (net : Net) (start : Option Fault) (k : ℕ) (fault : Fault) → slice_get (turn_of net start) k ≡ Some fault → (j : ℕ) × (slice_get (targets_of net) j ≡ Some fault)
of_turn net None k fault e = (k, e)
of_turn net (Some start) k fault e = elim (stands_either (filter (λ (f : Fault). not (is_before start f)) (targets_of net)) (filter (is_before start) (targets_of net)) k fault e) [
  | inl front ↦ (filtered (λ (f : Fault). not (is_before start f)) (targets_of net) k fault front.1).1
  | inr back ↦ (filtered (is_before start) (targets_of net) back.0 fault back.1.1).1
]

-- WHAT GAINS IN A TURN
none_first : (net : Net) (xs ys : List Pair) → NoneGains net (xs ++ ys) → NoneGains net xs × NoneGains net ys
none_first net [] ys none = (tt, none)
none_first net (x ∷ xs) ys none = let rest : NoneGains net xs × NoneGains net ys = none_first net xs ys none.1 in ((none.0, rest.0), rest.1)

none_both : (net : Net) (xs ys : List Pair) → NoneGains net xs → NoneGains net ys → NoneGains net (xs ++ ys)
none_both net [] ys a b = b
none_both net (x ∷ xs) ys a b = (a.0, none_both net xs ys a.1 b)

-- no pair of the target gains
abbrev GainsNowhere : Net → Fault → Type 0
GainsNowhere net fault = (here : List Candidate) → AreCandidatesOf net fault here → NoneGains net (map (paired fault) here)

none_at : (net : Net) (t : Fault) (ts : List Fault) (first : List Candidate) → AreCandidatesOf net t first → (rest : List Pair) → ArePairsOf net ts rest → NoneGains net (map (paired t) first) → NoneGains net rest
    → (k : ℕ) (fault : Fault) → slice_get (t ∷ ts) k ≡ Some fault → ((k : ℕ) (fault : Fault) → slice_get ts k ≡ Some fault → GainsNowhere net fault) → GainsNowhere net fault
none_at net t ts first of_first rest of_rest none more zero fault e others here are =
    let same : t ≡ fault = cc in
    let one : first ≡ here = candidates_of_one net fault first here (subst (λ (f : Fault). AreCandidatesOf net f first) same of_first) are in
    subst (λ (f : Fault). NoneGains net (map (paired f) here)) same (subst (λ (cs : List Candidate). NoneGains net (map (paired t) cs)) one none)
none_at net t ts first of_first rest of_rest none more (suc k) fault e others here are = others k fault e here are

none_of : (net : Net) (ts : List Fault) (ps : List Pair) → ArePairsOf net ts ps → NoneGains net ps → (k : ℕ) (fault : Fault) → slice_get ts k ≡ Some fault → GainsNowhere net fault
none_of net [] ps are none k fault e = absurd (cc)
none_of net (t ∷ ts) ps (first, (of_first, (rest, (of_rest, split)))) none k fault e =
    let parts : NoneGains net (map (paired t) first) × NoneGains net rest = none_first net (map (paired t) first) rest (subst (NoneGains net) split none) in
    none_at net t ts first of_first rest of_rest parts.0 parts.1 k fault e (none_of net ts rest of_rest parts.1)

all_none : (net : Net) (ts : List Fault) (qs : List Pair) → ArePairsOf net ts qs → ((k : ℕ) (fault : Fault) → slice_get ts k ≡ Some fault → GainsNowhere net fault) → NoneGains net qs
all_none net [] qs are none = subst (NoneGains net) (sym are) tt
all_none net (t ∷ ts) qs (here, (of_here, (rest, (of_rest, split)))) none =
    subst (NoneGains net) (sym split) (none_both net (map (paired t) here) rest (none 0 t refl here of_here) (all_none net ts rest of_rest (λ k fault e. none (suc k) fault e)))

pub turns_are_whole : TurnsAreWhole
turns_are_whole net start ps qs turn none all =
    all_none net (targets_of net) qs all (λ k fault e.
    let r = in_turn (targets_of net) start k fault e in
    none_of net (turn_of net start) ps turn none r.0 fault r.1)

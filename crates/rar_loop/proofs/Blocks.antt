-- Additions of lists of steps that are put together.
use Rattle.std.proofs.Common.{◌≡◌, ℕ, ◌+◌, Bool, true, false, Option, Some, None, List, [], ◌∷◌, ◌++◌, refl, sym, ◌∙◌, ap, subst, arith}
use Rattle.rm_base.specs.declared.numbers.Fault.{Fault}
use Rattle.gate_net.specs.Net.{Net}
use Rattle.wire_edit.specs.declared.steps.Step.{Step}
use Rattle.wire_edit.specs.declared.steps.Step.TheVariants.{Add, Fix, NewNot, Const, Same, NoPins, OnePin, Twice, Twin, Dead}
use Rattle.wire_edit.specs.Steps.{stepped}
use Rattle.candidate_wires.specs.Additions.{Addition, NewNode, additions_from, additions, first_fix, net_at_next, net_after}
use Rattle.candidate_wires.specs.Tries.{ArePlaces, EachImproves, turn_after}
use Rattle.journal_text.specs.declared.record.Record.{Record}
use Rattle.journal_text.specs.declared.record.Record.TheVariants as record_of
use Rattle.journal_text.specs.Runs.{AcceptedTo, steps_of}
use Rattle.journal_text.specs.Runs.{AreRemovals}
use Rattle.rar_loop.specs.Trying.{IsClean}
use Rattle.journal_text.proofs.Public.{steps_then}

abbrev pub is_pending : Option NewNode → Bool
is_pending None = false
is_pending (Some n) = true

-- each of the additions has its fix
abbrev pub AllFixed : List Addition → Type 0
AllFixed [] = Unit {0}
AllFixed (a ∷ adds) = ((fault : Fault) × (a.target ≡ Some fault)) × AllFixed adds

pub improved_fixed : (start : Option Fault) (adds : List Addition) → EachImproves start adds → AllFixed adds
improved_fixed start [] e = tt
improved_fixed start (a ∷ adds) e = ((e.0.fault, e.0.target), improved_fixed a.target adds e.1)

pub fix_then : (xs ys : List Step) (fault : Fault) → first_fix xs ≡ Some fault → first_fix (xs ++ ys) ≡ first_fix xs
fix_then [] ys fault e = cc
fix_then (Add gate y ∷ xs) ys fault e = refl
fix_then (Fix gate position value ∷ xs) ys fault e = refl
fix_then (NewNot y ∷ xs) ys fault e = fix_then xs ys fault e
fix_then (Const gate position ∷ xs) ys fault e = fix_then xs ys fault e
fix_then (Same gate position ∷ xs) ys fault e = fix_then xs ys fault e
fix_then (NoPins gate ∷ xs) ys fault e = fix_then xs ys fault e
fix_then (OnePin gate ∷ xs) ys fault e = fix_then xs ys fault e
fix_then (Twice gate ∷ xs) ys fault e = fix_then xs ys fault e
fix_then (Twin gate other ∷ xs) ys fault e = fix_then xs ys fault e
fix_then (Dead gate ∷ xs) ys fault e = fix_then xs ys fault e

-- steps after which an addition begins with the net
abbrev StartsAt : Net → List Step → Type 0
StartsAt net ys = net_at_next None net ys ≡ net

next_then : (made : Option NewNode) (net : Net) (xs ys : List Step) → IsClean (is_pending made) xs → StartsAt (net_after net xs) ys → net_at_next made net (xs ++ ys) ≡ net_at_next made net xs
next_then None net [] ys clean starts = starts
next_then (Some n) net [] ys clean starts = cc
next_then made net (Add gate y ∷ xs) ys clean starts = refl
next_then made net (NewNot x ∷ xs) ys clean starts = next_then (Some (record { before = net; driver = x })) (stepped net (NewNot x)) xs ys clean starts
next_then made net (Fix gate position value ∷ xs) ys clean starts = next_then None (stepped net (Fix gate position value)) xs ys clean starts
next_then made net (Const gate position ∷ xs) ys clean starts = next_then None (stepped net (Const gate position)) xs ys clean starts
next_then made net (Same gate position ∷ xs) ys clean starts = next_then None (stepped net (Same gate position)) xs ys clean starts
next_then made net (NoPins gate ∷ xs) ys clean starts = next_then None (stepped net (NoPins gate)) xs ys clean starts
next_then made net (OnePin gate ∷ xs) ys clean starts = next_then None (stepped net (OnePin gate)) xs ys clean starts
next_then made net (Twice gate ∷ xs) ys clean starts = next_then None (stepped net (Twice gate)) xs ys clean starts
next_then made net (Twin gate other ∷ xs) ys clean starts = next_then None (stepped net (Twin gate other)) xs ys clean starts
next_then made net (Dead gate ∷ xs) ys clean starts = next_then None (stepped net (Dead gate)) xs ys clean starts

pub additions_then :
    (made : Option NewNode) (net : Net) (xs ys : List Step) → IsClean (is_pending made) xs → AllFixed (additions_from made net xs) → StartsAt (net_after net xs) ys
    → additions_from made net (xs ++ ys) ≡ additions_from made net xs ++ additions_from None (net_after net xs) ys
additions_then None net [] ys clean all starts = refl
additions_then (Some n) net [] ys clean all starts = cc
additions_then made net (Add gate y ∷ xs) ys clean all starts =
    let t : first_fix (xs ++ ys) ≡ first_fix xs = fix_then xs ys all.0.0 all.0.1 in
    let n : net_at_next None (stepped net (Add gate y)) (xs ++ ys) ≡ net_at_next None (stepped net (Add gate y)) xs = next_then None (stepped net (Add gate y)) xs ys clean starts in
    let rest : additions_from None (stepped net (Add gate y)) (xs ++ ys) ≡ additions_from None (stepped net (Add gate y)) xs ++ additions_from None (net_after net (Add gate y ∷ xs)) ys = additions_then None (stepped net (Add gate y)) xs ys clean all.1 starts in
    rw (t, n, rest) refl
additions_then made net (NewNot x ∷ xs) ys clean all starts = additions_then (Some (record { before = net; driver = x })) (stepped net (NewNot x)) xs ys clean all starts
additions_then made net (Fix gate position value ∷ xs) ys clean all starts = additions_then None (stepped net (Fix gate position value)) xs ys clean all starts
additions_then made net (Const gate position ∷ xs) ys clean all starts = additions_then None (stepped net (Const gate position)) xs ys clean all starts
additions_then made net (Same gate position ∷ xs) ys clean all starts = additions_then None (stepped net (Same gate position)) xs ys clean all starts
additions_then made net (NoPins gate ∷ xs) ys clean all starts = additions_then None (stepped net (NoPins gate)) xs ys clean all starts
additions_then made net (OnePin gate ∷ xs) ys clean all starts = additions_then None (stepped net (OnePin gate)) xs ys clean all starts
additions_then made net (Twice gate ∷ xs) ys clean all starts = additions_then None (stepped net (Twice gate)) xs ys clean all starts
additions_then made net (Twin gate other ∷ xs) ys clean all starts = additions_then None (stepped net (Twin gate other)) xs ys clean all starts
additions_then made net (Dead gate ∷ xs) ys clean all starts = additions_then None (stepped net (Dead gate)) xs ys clean all starts

abbrev before_or : Net → List Addition → Net
before_or n [] = n
before_or n (b ∷ bs) = b.before

-- the net before the first addition
first_before : (made : Option NewNode) (net : Net) (ys : List Step) (a : Addition) (adds : List Addition) → additions_from made net ys ≡ a ∷ adds → net_at_next made net ys ≡ a.before
first_before made net [] a adds e = cc
first_before made net (Add gate y ∷ ys) a adds e = ap (λ (adds : List Addition). before_or net adds) e
first_before made net (NewNot x ∷ ys) a adds e = first_before (Some (record { before = net; driver = x })) (stepped net (NewNot x)) ys a adds e
first_before made net (Fix gate position value ∷ ys) a adds e = first_before None (stepped net (Fix gate position value)) ys a adds e
first_before made net (Const gate position ∷ ys) a adds e = first_before None (stepped net (Const gate position)) ys a adds e
first_before made net (Same gate position ∷ ys) a adds e = first_before None (stepped net (Same gate position)) ys a adds e
first_before made net (NoPins gate ∷ ys) a adds e = first_before None (stepped net (NoPins gate)) ys a adds e
first_before made net (OnePin gate ∷ ys) a adds e = first_before None (stepped net (OnePin gate)) ys a adds e
first_before made net (Twice gate ∷ ys) a adds e = first_before None (stepped net (Twice gate)) ys a adds e
first_before made net (Twin gate other ∷ ys) a adds e = first_before None (stepped net (Twin gate other)) ys a adds e
first_before made net (Dead gate ∷ ys) a adds e = first_before None (stepped net (Dead gate)) ys a adds e

-- REMOVALS
pub removals_clean : (ys : List Step) → AreRemovals ys → IsClean false ys
removals_clean [] r = refl
removals_clean (Add gate y ∷ ys) r = absurd r.0
removals_clean (NewNot x ∷ ys) r = absurd r.0
removals_clean (Fix gate position value ∷ ys) r = removals_clean ys r.1
removals_clean (Const gate position ∷ ys) r = removals_clean ys r.1
removals_clean (Same gate position ∷ ys) r = removals_clean ys r.1
removals_clean (NoPins gate ∷ ys) r = removals_clean ys r.1
removals_clean (OnePin gate ∷ ys) r = removals_clean ys r.1
removals_clean (Twice gate ∷ ys) r = removals_clean ys r.1
removals_clean (Twin gate other ∷ ys) r = removals_clean ys r.1
removals_clean (Dead gate ∷ ys) r = removals_clean ys r.1

pub removals_add_none : (net : Net) (ys : List Step) → AreRemovals ys → (additions_from None net ys ≡ []) × (net_at_next None net ys ≡ net_after net ys)
removals_add_none net [] r = (refl, refl)
removals_add_none net (Add gate y ∷ ys) r = absurd r.0
removals_add_none net (NewNot x ∷ ys) r = absurd r.0
removals_add_none net (Fix gate position value ∷ ys) r = removals_add_none (stepped net (Fix gate position value)) ys r.1
removals_add_none net (Const gate position ∷ ys) r = removals_add_none (stepped net (Const gate position)) ys r.1
removals_add_none net (Same gate position ∷ ys) r = removals_add_none (stepped net (Same gate position)) ys r.1
removals_add_none net (NoPins gate ∷ ys) r = removals_add_none (stepped net (NoPins gate)) ys r.1
removals_add_none net (OnePin gate ∷ ys) r = removals_add_none (stepped net (OnePin gate)) ys r.1
removals_add_none net (Twice gate ∷ ys) r = removals_add_none (stepped net (Twice gate)) ys r.1
removals_add_none net (Twin gate other ∷ ys) r = removals_add_none (stepped net (Twin gate other)) ys r.1
removals_add_none net (Dead gate ∷ ys) r = removals_add_none (stepped net (Dead gate)) ys r.1

-- RECORDS
pub accepted_after : (net after : Net) (records : List Record) → AcceptedTo net records after → net_after net (steps_of records) ≡ after
accepted_after net after [] a = sym a
accepted_after net after (record_of.Step step tree ∷ records) a = accepted_after (stepped net step) after records a.1
accepted_after net after (record_of.Hit fault vector ∷ records) a = absurd a
accepted_after net after (record_of.Spent fault tree ∷ records) a = absurd a

-- SUMS
pub places_then : (start : Option Fault) (xs ys : List Addition) (n m : ℕ) → ArePlaces start xs n → ArePlaces (turn_after start xs) ys m → ArePlaces start (xs ++ ys) (n + m)
places_then start [] ys n m p q = let e : n + m ≡ m = omega (arith, p) in subst (ArePlaces start ys) (sym e) q
places_then start (x ∷ xs) ys n m p q =
    let rest : ArePlaces x.target (xs ++ ys) (p.1.1.0 + m) = places_then x.target xs ys p.1.1.0 m p.1.1.1.0 q in
    let sum : n + m ≡ p.0 + (p.1.1.0 + m) = omega (arith, p.1.1.1.1) in
    (p.0, (p.1.0, (p.1.1.0 + m, (rest, sum))))

pub improve_then : (start : Option Fault) (xs ys : List Addition) → EachImproves start xs → EachImproves (turn_after start xs) ys → EachImproves start (xs ++ ys)
improve_then start [] ys a b = b
improve_then start (x ∷ xs) ys a b = (a.0, improve_then x.target xs ys a.1 b)

-- where turns begin after both
pub turn_then : (start : Option Fault) (xs ys : List Addition) → turn_after start (xs ++ ys) ≡ turn_after (turn_after start xs) ys
turn_then start [] ys = refl
turn_then start (x ∷ xs) ys = turn_then x.target xs ys

-- a block of one addition put after others
pub block_then :
    (net mid after : Net) (start : Option Fault) (first block : List Record) (a : Addition) → AcceptedTo net first mid → IsClean false (steps_of first) → EachImproves start (additions net (steps_of first))
    → additions mid (steps_of block) ≡ a ∷ [] → a.before ≡ mid
    → additions net (steps_of (first ++ block)) ≡ additions net (steps_of first) ++ a ∷ []
block_then net mid after start first block a accepted clean improves is before =
    let at : net_after net (steps_of first) ≡ mid = accepted_after net mid first accepted in
    let starts : StartsAt mid (steps_of block) = first_before None mid (steps_of block) a [] is ∙ before in
    let starts' : StartsAt (net_after net (steps_of first)) (steps_of block) = subst (λ (n : Net). StartsAt n (steps_of block)) (sym at) starts in
    let both : additions_from None net (steps_of first ++ steps_of block) ≡ additions_from None net (steps_of first) ++ additions_from None (net_after net (steps_of first)) (steps_of block) =
    additions_then None net (steps_of first) (steps_of block) clean (improved_fixed start (additions net (steps_of first)) improves) starts' in
    ap (λ (ss : List Step). additions net ss) (steps_then first block) ∙ both ∙ ap (λ (n : Net). additions_from None net (steps_of first) ++ additions_from None n (steps_of block)) at
    ∙ ap (λ (adds : List Addition). additions_from None net (steps_of first) ++ adds) is

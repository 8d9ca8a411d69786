-- How many nodes live, and how a step makes more numbers and pins.
use Rattle.std.proofs.Common.{◌≡◌, ◌≢◌, ℕ, suc, ◌+◌, ◌≤◌, inl, inr, Option, Some, None, List, [], ◌∷◌, ◌++◌, length, refl, sym, ◌∙◌, ap, subst, arith}
use Rattle.std.specs.Prelude.{slice_get}
use Rattle.std.specs.List.{sum_by}
use Rattle.std.proofs.lemmas.Bool.{cases_eq, cases_lt}
use Rattle.std.proofs.lemmas.List.Sums.{sum_by-cons}
use Rattle.gate_net.proofs.Public.{live_reader, node_at-other, node_at-there}
use Rattle.gate_net.specs.declared.Kind.{Kind}
use Rattle.gate_net.specs.declared.Kind.TheVariants.{Source, Zero, One, And, Or, Not, Xor}
use Rattle.gate_net.specs.Net.{Node, Net, node_at, drivers_in, drivers_of, flatten_option, Reads, IsLive, IsWellFormed, plain_node, count_in, source_in, gate_in, source_count, gate_count}
use Rattle.gate_net.specs.Edits.{IsLeastFree, with_pin}
use Rattle.wire_edit.specs.declared.steps.Step.{Step}
use Rattle.wire_edit.specs.Tests.{live_in}
use Rattle.wire_edit.specs.Steps.{stepped, change_of}
use Rattle.wire_edit.specs.Refusals.{live_count, nodes_made}
use Rattle.wire_edit.specs.Inner.Changes.{least_free}
use Rattle.wire_edit.proofs.Canonical.{least_is_free, below_is_live}
use Rattle.wire_edit.proofs.Budgets.{length_budget}
use Rattle.wire_edit.proofs.TrialSteps.{step_pins}
use Rattle.rm_base.proofs.Public.{front_stands, last_stands}

pub numbers_grow : (net : Net) (step : Step) → length (stepped net step).nodes ≤ length net.nodes + nodes_made step
numbers_grow net step = let le : length (stepped net step).nodes ≤ length net.nodes + _ = length_budget net (change_of net step) in omega (arith, le, (step_pins net step).1)

-- LIVE NODES
abbrev sources_in : Option Node → ℕ
sources_in o = count_in o source_in

abbrev gates_in : Option Node → ℕ
gates_in o = count_in o gate_in

one_kind : (k : Kind) → k ≢ Zero → k ≢ One → 1 ≡ source_in k + gate_in k
one_kind Source z o = refl
one_kind Zero z o = absurd (z refl)
one_kind One z o = absurd (o refl)
one_kind And z o = refl
one_kind Or z o = refl
one_kind Not z o = refl
one_kind Xor z o = refl

-- of nodes none of which is a constant
live_rest : (os : List (Option Node)) → ((k : ℕ) (n : Node) → slice_get os k ≡ Some (Some n) → (n.kind ≢ Zero) × (n.kind ≢ One)) → sum_by live_in os ≡ sum_by sources_in os + sum_by gates_in os
live_rest [] h = refl
live_rest (o ∷ os) h =
    let rest : sum_by live_in os ≡ sum_by sources_in os + sum_by gates_in os = live_rest os (λ k n e. h (suc k) n e) in
    let a : sum_by live_in (o ∷ os) ≡ live_in o + sum_by live_in os = sum_by-cons live_in o os in
    let b : sum_by sources_in (o ∷ os) ≡ sources_in o + sum_by sources_in os = sum_by-cons sources_in o os in
    let d : sum_by gates_in (o ∷ os) ≡ gates_in o + sum_by gates_in os = sum_by-cons gates_in o os in
    let here : live_in o ≡ sources_in o + gates_in o = one o (λ n e. h 0 n (ap Some e)) in
    omega (arith, rest, a, b, d, here)
  where
    one : (q : Option Node) → ((n : Node) → q ≡ Some n → (n.kind ≢ Zero) × (n.kind ≢ One)) → live_in q ≡ sources_in q + gates_in q
    one None g = refl
    one (Some n) g = one_kind n.kind (g n refl).0 (g n refl).1

-- two numbers and the rest
two_then : (f : Option Node → ℕ) (a b : Option Node) (os : List (Option Node)) → sum_by f (a ∷ b ∷ os) ≡ f a + (f b + sum_by f os)
two_then f a b os =
    let x : sum_by f (a ∷ b ∷ os) ≡ f a + sum_by f (b ∷ os) = sum_by-cons f a (b ∷ os) in
    let y : sum_by f (b ∷ os) ≡ f b + sum_by f os = sum_by-cons f b os in
    omega (arith, x, y)

pub live_counted : (net : Net) → IsWellFormed net → live_count net ≡ 2 + source_count net + gate_count net
live_counted net well = at net.nodes refl
  where
    away : (k : ℕ) (n : Node) → slice_get net.nodes (suc (suc k)) ≡ Some (Some n) → (n.kind ≢ Zero) × (n.kind ≢ One)
    away k n e =
        let there : node_at net (suc (suc k)) ≡ Some n = ap flatten_option e in (
          (λ z. let x : suc (suc k) ≡ 0 = well.only_zero (suc (suc k)) (n.drivers, there ∙ ap (λ (kind : Kind). let m : Node = record { kind = kind; drivers = n.drivers } in Some m) z) in omega (arith, x)),
          (λ o. let x : suc (suc k) ≡ 1 = well.only_one (suc (suc k)) (n.drivers, there ∙ ap (λ (kind : Kind). let m : Node = record { kind = kind; drivers = n.drivers } in Some m) o) in omega (arith, x)),
        )

    -- the first two numbers are the constants
    at : (os : List (Option Node)) → net.nodes ≡ os → sum_by live_in os ≡ 2 + sum_by sources_in os + sum_by gates_in os
    at [] is = let none : ◌≡◌ {A = Option Node} None (plain_node Zero) = ap (λ qs. flatten_option (slice_get qs 0)) (sym is) ∙ well.constants.zero_is in cc
    at (a ∷ []) is = let none : ◌≡◌ {A = Option Node} None (plain_node One) = ap (λ qs. flatten_option (slice_get qs 1)) (sym is) ∙ well.constants.one_is in cc
    at (a ∷ b ∷ os) is =
        let zero_is : a ≡ plain_node Zero = ap (λ qs. flatten_option (slice_get qs 0)) (sym is) ∙ well.constants.zero_is in
        let one_is : b ≡ plain_node One = ap (λ qs. flatten_option (slice_get qs 1)) (sym is) ∙ well.constants.one_is in
        let la : live_in a ≡ 1 = ap live_in zero_is in
        let lb : live_in b ≡ 1 = ap live_in one_is in
        let sa : sources_in a ≡ 0 = ap sources_in zero_is in
        let sb : sources_in b ≡ 0 = ap sources_in one_is in
        let ga : gates_in a ≡ 0 = ap gates_in zero_is in
        let gb : gates_in b ≡ 0 = ap gates_in one_is in
        let rest : sum_by live_in os ≡ sum_by sources_in os + sum_by gates_in os = live_rest os (λ k n there. away k n (ap (λ (qs : List (Option Node)). slice_get qs (suc (suc k))) is ∙ there)) in
        omega (arith, two_then live_in a b os, two_then sources_in a b os, two_then gates_in a b os, la, lb, sa, sb, ga, gb, rest)

-- A NEW PIN
pin_drivers : (net : Net) (gate d : ℕ) (n : Node) → node_at net gate ≡ Some n → drivers_of (with_pin net gate d) gate ≡ drivers_of net gate ++ d ∷ []
pin_drivers net gate d n is = ap drivers_in (node_at-there net gate (drivers_of net gate ++ d ∷ []) n is)

pub added_last : (net : Net) (gate driver : ℕ) → IsLive net gate → Reads (with_pin net gate driver) gate (length (drivers_of net gate)) driver
added_last net gate driver live =
    ap (λ (xs : List ℕ). slice_get xs (length (drivers_of net gate))) (pin_drivers net gate driver (record { kind = live.0; drivers = live.1.0 }) live.1.1) ∙ last_stands (drivers_of net gate) driver

pub others_stay : (net : Net) (gate driver y position x : ℕ) → Reads net y position x → Reads (with_pin net gate driver) y position x
others_stay net gate driver y position x reads = elim (cases_eq y gate) [
  | inl is ↦
      let n : (n : Node) × (node_at net y ≡ Some n) = live_reader (node_at net y) position x reads in
      subst (λ (k : ℕ). Reads (with_pin net k driver) y position x) is (ap (λ (xs : List ℕ). slice_get xs position) (pin_drivers net y driver n.0 n.1) ∙ front_stands (drivers_of net y) (driver ∷ []) position x reads)
  | inr ne ↦ ap (λ o. slice_get (drivers_in o) position) (node_at-other net gate (drivers_of net gate ++ driver ∷ []) y ne) ∙ reads
]

-- there is one least free number
pub least_one : (net : Net) (x y : ℕ) → IsLeastFree net x → IsLeastFree net y → x ≡ y
least_one net x y a b = elim (cases_lt x y) [
  | inl less ↦ absurd (b.least x less a.free)
  | inr ge ↦ elim (cases_lt y x) [
    | inl more ↦ absurd (a.least y more b.free)
    | inr le ↦ omega (arith, ge, le)
  ]
]

-- the least number that no live node has is one
pub least_meets : (net : Net) → IsLeastFree net (least_free net.nodes)
least_meets net = record { free = least_is_free net.nodes; least = λ m lt. below_is_live net.nodes m lt }

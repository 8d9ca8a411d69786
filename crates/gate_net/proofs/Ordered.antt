-- New ranks after an edit.
use Rattle.std.proofs.Common.{Bool, Some, [], arith, false, inl, inr, refl, suc, true, zero, ℕ, ◌++◌, ◌+◌, ◌<◌, ◌∷◌, ◌≡◌, ◌≤◌, ◌⊎◌}
use Rattle.std.proofs.lemmas.Bool.{eq-eqb, eqb-true, false_from_ne_true, or_cases}
use Rattle.std.proofs.lemmas.Bool.Decides.{eqb_tells}
use Rattle.std.specs.List.{list_any}
use Rattle.std.specs.Prelude.{if◌then◌else◌, nat_eq, slice_get}
use Rattle.std.proofs.Math.Bool.{or-true}
use Rattle.gate_net.proofs.Edited.{node_at-other, node_at-there}
use Rattle.gate_net.specs.Edits.{with_pin}
use Rattle.gate_net.specs.Laws.{PinsKeepAcyclic}
use Rattle.gate_net.specs.Net.{IsAcyclic, IsRanked, Net, Reads, drivers_of}
use Rattle.gate_net.specs.Paths.{Reaches, on, pin}
use Rattle.gate_net.specs.Inner.Paths.{is_after}
use Rattle.rm_base.proofs.Public.{any_at, at_any, last_cases}

-- a set of nodes that holds, with each node, all its readers
abbrev pub IsUpward : Net → (ℕ → Bool) → Type 0
IsUpward net test = (y p x : ℕ) → Reads net y p x → test x ≡ true → test y ≡ true

-- each pin is one of before, or leads into the set from outside
abbrev pub LeadsIn : Net → Net → (ℕ → Bool) → ℕ → Type 0
LeadsIn net after test u = (y p x : ℕ) → Reads after y p x → ((q : ℕ) × Reads net y q x) ⊎ ((x ≡ u) × (test y ≡ true))

module _ (net after : Net) (acyclic : IsAcyclic net) (test : ℕ → Bool) (upward : IsUpward net test) (u : ℕ) (outside : test u ≡ false) (leads : LeadsIn net after test u) where
  abbrev lifted : ℕ → ℕ
  lifted x = if test x then acyclic.0 x + suc (acyclic.0 u) else acyclic.0 x

  old_edge : (y p x : ℕ) → Reads net y p x → lifted x < lifted y
  old_edge y p x reads = at (test x) (test y) refl refl
    where
      below : acyclic.0 x < acyclic.0 y
      below = acyclic.1 y p x reads

      at : (b c : Bool) → test x ≡ b → test y ≡ c → lifted x < lifted y
      at true true e f = rw (e, f) (omega (arith, below))
      at true false e f = let wrong : test y ≡ true = upward y p x reads e in cc
      at false true e f = rw (e, f) (omega (arith, below))
      at false false e f = rw (e, f) below

  new_edge : (y x : ℕ) → x ≡ u → test y ≡ true → lifted x < lifted y
  new_edge y x is e = rw (is, outside, e) (omega arith)

  pub acyclic_lifted : IsAcyclic after
  acyclic_lifted = (lifted, λ y p x reads. elim (leads y p x reads) [ inl old ↦ old_edge y old.0 x old.1 | inr new ↦ new_edge y x new.0 new.1 ])

pub after_right : (net : Net) (gate n y : ℕ) → is_after n net gate y ≡ true → (y ≡ gate) ⊎ Reaches net gate y
after_right net gate zero y e = inl (eqb-true y gate e)
after_right net gate (suc n) y e = elim (or_cases (nat_eq y gate) (list_any (is_after n net gate) (drivers_of net y)) e) [
  | inl here ↦ inl (eqb-true y gate here)
  | inr later ↦
      let found : (p : ℕ) × ((x : ℕ) × (Reads net y p x × (is_after n net gate x ≡ true))) = any_at (is_after n net gate) (drivers_of net y) later in
      inr (elim (after_right net gate n found.1.0 found.1.1.1) [ inl is ↦ pin found.0 (rw is at found.1.1.0) | inr path ↦ on found.0 path found.1.1.0 ])
]

pub after_there : (net : Net) (gate n : ℕ) → is_after n net gate gate ≡ true
after_there net gate zero = eq-eqb gate gate refl
after_there net gate (suc n) = rw (eq-eqb gate gate refl) refl

-- looking back further than the ranks tells the same
pub after_more : (net : Net) (rank : ℕ → ℕ) → IsRanked net rank → (gate n m y : ℕ) → rank y ≤ n → is_after m net gate y ≡ true → is_after n net gate y ≡ true
after_more net rank ranked gate n zero y h e = rw (eqb-true y gate e) (after_there net gate n)
after_more net rank ranked gate n (suc m) y h e = elim (or_cases (nat_eq y gate) (list_any (is_after m net gate) (drivers_of net y)) e) [
  | inl here ↦ rw (eqb-true y gate here) (after_there net gate n)
  | inr later ↦ further n h (any_at (is_after m net gate) (drivers_of net y) later) (λ x k below e. after_more net rank ranked gate k m x below e)
]
  where
    further : (n : ℕ) → rank y ≤ n → (found : (p : ℕ) × ((x : ℕ) × (Reads net y p x × (is_after m net gate x ≡ true)))) → ((x k : ℕ) → rank x ≤ k → is_after m net gate x ≡ true → is_after k net gate x ≡ true) → is_after n net gate y ≡ true
    further zero h found ih = let below : rank found.1.0 < rank y = ranked y found.0 found.1.0 found.1.1.0 in absurd (omega arith)
    further (suc n) h found ih =
        let below : rank found.1.0 < rank y = ranked y found.0 found.1.0 found.1.1.0 in
        rw (at_any (is_after n net gate) (drivers_of net y) found.0 found.1.0 found.1.1.0 (ih found.1.0 n (omega arith) found.1.1.1)) (or-true (nat_eq y gate))

pub after_upward : (net : Net) (acyclic : IsAcyclic net) (gate y p x : ℕ) → Reads net y p x → is_after (acyclic.0 x) net gate x ≡ true → is_after (acyclic.0 y) net gate y ≡ true
after_upward net acyclic gate y p x reads e =
    let step : is_after (suc (acyclic.0 x)) net gate y ≡ true = rw (at_any (is_after (acyclic.0 x) net gate) (drivers_of net y) p x reads e) (or-true (nat_eq y gate)) in
    after_more net acyclic.0 acyclic.1 gate (acyclic.0 y) (suc (acyclic.0 x)) y (omega arith) step

pub pins_keep_acyclic : PinsKeepAcyclic
pins_keep_acyclic net gate driver acyclic live ne apart =
    acyclic_lifted net (with_pin net gate driver) acyclic (λ y. is_after (acyclic.0 y) net gate y) (after_upward net acyclic gate) driver
    (false_from_ne_true (is_after (acyclic.0 driver) net gate driver) (λ e. elim (after_right net gate (acyclic.0 driver) driver e) [ inl is ↦ ne is | inr path ↦ apart path ]))
    leads
  where
    leads : (y p x : ℕ) → Reads (with_pin net gate driver) y p x → ((q : ℕ) × Reads net y q x) ⊎ ((x ≡ driver) × (is_after (acyclic.0 y) net gate y ≡ true))
    leads y p x reads = elim (eqb_tells y gate) [
      | inr t ↦ inl (p, rw (node_at-other net gate (drivers_of net gate ++ driver ∷ []) y t.1) at reads)
      | inl t ↦
          let there : slice_get (drivers_of (with_pin net gate driver) gate) p ≡ Some x = rw t.1 at reads in
          let now : slice_get (drivers_of net gate ++ driver ∷ []) p ≡ Some x = rw (node_at-there net gate (drivers_of net gate ++ driver ∷ []) _ live.1.1) at there in
          elim (last_cases (drivers_of net gate) driver p x now) [
            | inl old ↦ inl (p, rw t.1 old)
            | inr is ↦ inr (is, rw t.1 (after_there net gate (acyclic.0 gate)))
          ]
    ]

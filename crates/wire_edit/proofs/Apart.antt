-- A node that is new or gone leaves the net acyclic.
use Rattle.std.proofs.Common.{◌≡◌, ◌≢◌, ℕ, ◌<◌, inl, inr, refl, arith}
use Rattle.std.specs.Prelude.{nat_eq, if◌then◌else◌}
use Rattle.std.proofs.lemmas.Bool.Decides.{eqb_tells}
use Rattle.gate_net.specs.Net.{Net, Reads, IsAcyclic}
use Rattle.gate_net.specs.Edits.{IsUnread, DiffersAt}

module _ (net after : Net) (gate high : ℕ) (acyclic : IsAcyclic net) (d : DiffersAt net after gate) (unread : IsUnread net gate) (low : (p z : ℕ) → Reads after gate p z → (z ≢ gate) × (acyclic.0 z < high)) where
  abbrev ranked_anew : ℕ → ℕ
  ranked_anew y = if nat_eq y gate then high else acyclic.0 y

  anew_there : ranked_anew gate ≡ high
  anew_there = elim (eqb_tells gate gate) [ inl t ↦ rw t.0 refl | inr t ↦ absurd (t.1 refl) ]

  anew_other : (y : ℕ) → y ≢ gate → ranked_anew y ≡ acyclic.0 y
  anew_other y ne = elim (eqb_tells y gate) [ inl t ↦ absurd (ne t.1) | inr t ↦ rw t.0 refl ]

  pub apart_acyclic : IsAcyclic after
  apart_acyclic = (ranked_anew, step)
    where
      step : (y p z : ℕ) → Reads after y p z → ranked_anew z < ranked_anew y
      step y p z reads = elim (eqb_tells y gate) [
        | inl t ↦
            let here : Reads after gate p z = rw t.1 at reads in
            let l : (z ≢ gate) × (acyclic.0 z < high) = low p z here in
            let a : ranked_anew z ≡ acyclic.0 z = anew_other z l.0 in
            let b : ranked_anew y ≡ high = rw t.1 anew_there in
            omega (arith, l.1)
        | inr t ↦
            let old : Reads net y p z = rw (d.others y t.1) at reads in
            let ne : z ≢ gate = λ e. unread.unread y p (rw e at old) in
            let below : acyclic.0 z < acyclic.0 y = acyclic.1 y p z old in
            let a : ranked_anew z ≡ acyclic.0 z = anew_other z ne in
            let b : ranked_anew y ≡ acyclic.0 y = anew_other y t.1 in
            omega arith
      ]

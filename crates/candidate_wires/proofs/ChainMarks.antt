-- What the next gate of a chain reaches.
use Rattle.std.proofs.Common.{Bool, List, arith, false, inl, inr, subst, ℕ, ◌<◌, ◌≡◌, ◌≢◌, ◌⊎◌}
use Rattle.std.specs.Prelude.{slice_set}
use Rattle.gate_net.specs.Net.{IsAcyclic, IsRanked, Net, Reads}
use Rattle.gate_net.specs.Paths.{IsOnlyReader, Reaches, on, pin}
use Rattle.refutation.specs.Answers.{GoesOnTo}
use Rattle.refutation.proofs.Public.{seen_left, seen_stays}
use Rattle.refutation.specs.Reaching.{MarksReached}

-- a path from a node with one reader goes on from that
step_down : (net : Net) (a b x : ℕ) → IsOnlyReader net a b → Reaches net a x → (x ≡ b) ⊎ Reaches net b x
step_down net a b x only (pin p reads) = inl (only.only x p reads)
step_down net a b x only (on {z = z} p path reads) = elim (step_down net a b z only path) [
  | inl e ↦ inr (pin p (subst (λ q. Reads net x p q) e reads))
  | inr rest ↦ inr (on p rest reads)
]

-- a path may begin one pin earlier
step_up : (net : Net) (a b x p : ℕ) → Reads net b p a → Reaches net b x → Reaches net a x
step_up net a b x p first (pin q reads) = on q (pin p first) reads
step_up net a b x p first (on {z = z} q path reads) = on q (step_up net a b z p first path) reads

ranks_rise : (net : Net) (rank : ℕ → ℕ) → IsRanked net rank → (x y : ℕ) → Reaches net x y → rank x < rank y
ranks_rise net rank ranked x y (pin p reads) = ranked y p x reads
ranks_rise net rank ranked x y (on {z = z} p path reads) = let below : rank x < rank z = ranks_rise net rank ranked x z path in let step : rank z < rank y = ranked y p z reads in omega (arith, below, step)

no_cycle : (net : Net) → IsAcyclic net → (x y : ℕ) → Reaches net x y → y ≢ x
no_cycle net acyclic x y path e =
    let back : Reaches net x x = subst (Reaches net x) e path in
    let less : acyclic.0 x < acyclic.0 x = ranks_rise net acyclic.0 acyclic.1 x x back in
    absurd (omega (arith, less))

-- the next gate reaches the same but itself
pub next_marked : (net : Net) → IsAcyclic net → (at next : ℕ) (reached : List Bool) → GoesOnTo net at next → MarksReached net at reached → MarksReached net next (slice_set reached next false)
next_marked net acyclic at next reached goes marked = record {
  sound = λ y seen.
      let left = seen_left reached next y seen in
      elim (step_down net at next y goes.only (marked.sound y left.0)) [ inl e ↦ absurd (left.1 e) | inr path ↦ path ];
  all = λ y path. seen_stays reached next y (marked.all y (step_up net at next y goes.only.reads.0 goes.only.reads.1 path)) (no_cycle net acyclic next y path);
}

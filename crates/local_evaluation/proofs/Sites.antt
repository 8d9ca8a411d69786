-- Marking the chain of a gate.
use Rattle.std.proofs.Common.{Bool, List, None, Some, [], arith, false, inl, inr, length, replicate, subst, sym, true, ℕ, ◌+◌, ◌<◌, ◌∷◌, ◌≡◌, ◌⊎◌}
use Rattle.std.proofs.lemmas.Bool.Decides.{eqb_tells}
use Rattle.std.specs.Prelude.{slice_get, slice_set}
use Rattle.gate_graph.proofs.Public.{none_seen, seen_cases, seen_kept, seen_new}
use Rattle.gate_graph.specs.Search.{IsSeen}
use Rattle.gate_net.specs.Net.{IsLive, Net, drivers_of}
use Rattle.gate_net.specs.Paths.{IsInChain, Reaches, on, pin}
use Rattle.local_evaluation.proofs.Told.{kind_live}
use Rattle.local_evaluation.proofs.Walks.{walk_ends, walk_goes_on, walk_live, walk_starts}
use Rattle.local_evaluation.specs.Chains.{GoesOnTo}
use Rattle.local_evaluation.specs.Sites.{MarksChain}
use Rattle.local_evaluation.specs.Walks.{Walks}

-- a walk along the chain that marked each node before this one
pub record Chaining (net : Net) (gate : ℕ) (marks : List Bool) (at count : ℕ) : Type 0 where
  pub long : Walks net gate (length net.nodes) at count
  pub sound : (y : ℕ) → IsSeen marks y → IsInChain net gate y
  pub each : (y : ℕ) → IsSeen marks y ⊎ Walks net gate y at count

pub chaining_first : (net : Net) (gate n : ℕ) (marks : List Bool) → marks ≡ replicate n false → Chaining net gate marks gate 0
chaining_first net gate n marks e = rw e (record {
  long = walk_starts net gate (length net.nodes);
  sound = λ y seen. absurd (none_seen n y seen);
  each = λ y. inr (walk_starts net gate y);
})

module _ (net : Net) (gate : ℕ) (marks : List Bool) (at count : ℕ) (live : IsLive net gate) (c : Chaining net gate marks at count) where
  pub at_live : IsLive net at
  at_live = walk_live net gate (length net.nodes) at count live c.long

  pub at_below : at < length net.nodes
  at_below = kind_live net at at_live

  at_sound : (y : ℕ) → IsSeen (slice_set marks at true) y → IsInChain net gate y
  at_sound y seen = elim (seen_cases marks at y seen) [ inl before ↦ c.sound y before | inr is ↦ subst (IsInChain net gate) (sym is) (c.long.before, c.long.chain) ]

  module _ (room : at < length marks) where
    at_marked : (y : ℕ) → at ≡ y → IsSeen (slice_set marks at true) y
    at_marked y is = subst (IsSeen (slice_set marks at true)) is (seen_new marks at room)

    pub chaining_more : (next : ℕ) → GoesOnTo net at next → Chaining net gate (slice_set marks at true) next (count + 1)
    chaining_more next goes = record {
      long = walk_goes_on net gate (length net.nodes) at count next c.long (λ e. let below : at < length net.nodes = at_below in omega arith) goes;
      sound = at_sound;
      each = λ y. elim (c.each y) [
        | inl seen ↦ inl (seen_kept marks at y seen)
        | inr walk ↦ elim (eqb_tells at y) [ inl same ↦ inl (at_marked y same.1) | inr ne ↦ inr (walk_goes_on net gate y at count next walk ne.1 goes) ]
      ];
    }

    pub chaining_ends : ((y : ℕ) → GoesOnTo net at y → ⊥) → MarksChain net gate (slice_set marks at true)
    chaining_ends ends = record {
      sound = at_sound;
      all = λ y chain. elim (c.each y) [
        | inl seen ↦ seen_kept marks at y seen
        | inr walk ↦ elim (eqb_tells at y) [ inl same ↦ at_marked y same.1 | inr ne ↦ absurd (walk_ends net gate y at count walk ne.1 ends chain) ]
      ];
    }

-- a node without pins isn't reached
no_pin : (ds : List ℕ) (p d : ℕ) → slice_get ds 0 ≡ None → slice_get ds p ≡ Some d → ⊥
no_pin [] p d none e = cc
no_pin (x ∷ ds) p d none e = cc

pub unreached : (net : Net) (x y : ℕ) → slice_get (drivers_of net y) 0 ≡ None → Reaches net x y → ⊥
unreached net x y none (pin p reads) = no_pin (drivers_of net y) p x none reads
unreached net x y none (on {z = z} p path reads) = no_pin (drivers_of net y) p z none reads

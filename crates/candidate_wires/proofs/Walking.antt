-- A walk along a chain that finds the candidates at its gates.
use Rattle.std.proofs.Common.{Bool, List, [], arith, false, inl, inr, length, refl, ℕ, ◌++◌, ◌+◌, ◌<◌, ◌∙◌, ◌∷◌, ◌≡◌}
use Rattle.std.specs.Prelude.{slice_set}
use Rattle.gate_net.specs.Net.{IsAcyclic, IsLive, Net}
use Rattle.gate_net.specs.Paths.{Among, ChainTo, next, start}
use Rattle.refutation.specs.Answers.{GoesOnTo}
use Rattle.refutation.specs.Facts.{Held}
use Rattle.refutation.proofs.Public.{kind_live, walk_live, walk_short}
use Rattle.refutation.specs.Reaching.{MarksReached}
use Rattle.rm_base.specs.declared.numbers.Fault.{Fault}
use Rattle.candidate_wires.proofs.ChainMarks.{next_marked}
use Rattle.candidate_wires.specs.Candidates.{AreAlong, AreAmong, AreCandidates}
use Rattle.candidate_wires.specs.Inner.Parts.{AreKnown}
use Rattle.candidate_wires.specs.declared.candidate.Candidate.{Candidate}
use Rattle.candidate_wires.specs.declared.known.Known.{Known}

-- a walk that has come to a node, with what that reaches marked, and the candidates at the nodes before it
pub record IsWalked (net : Net) (gate at count : ℕ) (reached : List Bool) (ks : List Known) (cs : List Candidate) : Type 0 where
  pub before : List ℕ
  pub chain : ChainTo net gate before at
  pub long : length before ≡ count
  pub apart : Among before (length net.nodes) → ⊥
  pub marked : MarksReached net at reached
  pub along : (held : Held) → AreKnown net held (length net.nodes) ks → AreAlong net held before cs

pub walked_first : (net : Net) (gate : ℕ) (reached : List Bool) (ks : List Known) → MarksReached net gate reached → IsWalked net gate gate 0 reached ks []
walked_first net gate reached ks marked = record { before = []; chain = start; long = refl; apart = λ h. h; marked = marked; along = λ held known. refl }

module _ (net : Net) (gate at count : ℕ) (reached : List Bool) (ks : List Known) (cs : List Candidate) (acyclic : IsAcyclic net) (live : IsLive net gate) (w : IsWalked net gate at count reached ks cs) where
  pub walked_live : IsLive net at
  walked_live = walk_live net gate (length net.nodes) at count live (record { before = w.before; chain = w.chain; long = w.long; apart = w.apart })

  -- no walk is longer than the net has numbers
  pub walked_short : count ≡ length net.nodes → ⊥
  walked_short all = walk_short net gate (length net.nodes) at (length net.nodes) acyclic live (omega arith) (record { before = w.before; chain = w.chain; long = w.long ∙ all; apart = w.apart })

  module _ (more : List Candidate) (new : (held : Held) → AreKnown net held (length net.nodes) ks → AreAmong net held at (length net.nodes) more) where
    pub walked_more : (y : ℕ) → GoesOnTo net at y → IsWalked net gate y (count + 1) (slice_set reached y false) ks (cs ++ more)
    walked_more y goes = record {
      before = at ∷ w.before;
      chain = next w.chain goes.unobserved goes.only;
      long = let l : length w.before ≡ count = w.long in omega (arith, l);
      apart = elim [
        | inl e ↦ let below : at < length net.nodes = kind_live net at walked_live in omega (arith, below, e)
        | inr among ↦ w.apart among
      ];
      marked = next_marked net acyclic at y reached goes w.marked;
      along = λ held known. (cs, (w.along held known, (more, (new held known, refl))));
    }

    pub walked_ends : (fault : Fault) → fault.gate.0 ≡ gate → ((y : ℕ) → GoesOnTo net at y → ⊥) → (held : Held) → AreKnown net held (length net.nodes) ks → AreCandidates net fault held (cs ++ more)
    walked_ends fault is ends held known = (at ∷ w.before, ((rw is w.chain, ends), (cs, (w.along held known, (more, (new held known, refl))))))

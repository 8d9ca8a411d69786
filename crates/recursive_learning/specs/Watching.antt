-- Which gates are to be looked at, and what is known of the others.
use Rattle.std.specs.Prelude.{length, ℕ, ◌≡◌, ◌≤◌}
use Rattle.gate_graph.specs.Search.{IsSeen}
use Rattle.gate_net.specs.Net.{Net}
use Rattle.recursive_learning.specs.Resting.{IsLonger, IsWatched}
use Rattle.recursive_learning.specs.declared.watch.Watch.{Watch}

-- it was made for the node numbers of the net
pub record HasRoom (net : Net) (w : Watch) : Type 0 where
  pub places : length net.nodes ≤ w.rests.numbers
  pub gates : w.rests.numbers ≡ length w.listed

-- and what is listed stays
pub record LeavesList (old new : Watch) : Type 0 where
  pub all : new.all ≡ old.all
  pub listed : new.listed ≡ old.listed
  pub numbers : new.rests.numbers ≡ old.rests.numbers
  pub longer : IsLonger old.rests.entries new.rests.entries
  pub first : new.first ≡ old.first

-- more may be listed
pub record StillLists (old new : Watch) : Type 0 where
  pub all : new.all ≡ old.all
  pub rests : new.rests ≡ old.rests
  pub size : length new.listed ≡ length old.listed
  pub kept : (y : ℕ) → IsSeen old.listed y → IsSeen new.listed y
  pub first : new.first ≡ old.first

-- the place and each gate that rests on it are listed
pub record IsListedAt (w : Watch) (z : ℕ) : Type 0 where
  pub itself : IsSeen w.listed z
  pub gates : (y : ℕ) → IsWatched w.rests.entries z y → IsSeen w.listed y

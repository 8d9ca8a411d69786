-- What the faulty gate reaches, and its chain.
use Rattle.std.specs.Prelude.{Bool, length, true, ℕ, ◌≡◌, ◌≤◌}
pub use Rattle.local_evaluation.specs.Reaching.{MarksReached}
pub use Rattle.local_evaluation.specs.Sites.{IsSiteOf, MarksChain, SiteMarks}
use Rattle.gate_net.specs.Net.{Net}

-- a site whose halves are marked when they are first asked for
pub record AskedMarks : Type 0 where
  pub marks : SiteMarks
  pub has_reached : Bool
  pub has_chained : Bool

-- there is room for the net, and what was asked for is marked for the gate
pub record Serves (net : Net) (gate : ℕ) (s : AskedMarks) : Type 0 where
  pub room : length net.nodes ≤ length s.marks.reached
  pub reached : s.has_reached ≡ true → MarksReached net gate s.marks.reached
  pub chained : s.has_chained ≡ true → MarksChain net gate s.marks.chained

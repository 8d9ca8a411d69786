-- What the faulty gate reaches, and its chain.
use Rattle.std.specs.Prelude.{Bool, List, ℕ}
use Rattle.gate_graph.specs.Search.{IsSeen}
use Rattle.gate_net.specs.Net.{Net}
use Rattle.gate_net.specs.Paths.{IsInChain}
use Rattle.local_evaluation.specs.Reaching.{MarksReached}

-- what a contract sees of a site: which node numbers are marked as reached, and which as in the chain
pub record SiteMarks : Type 0 where
  pub reached : List Bool
  pub chained : List Bool

-- exactly the nodes of the chain that begins with the gate are marked
pub record MarksChain (net : Net) (gate : ℕ) (marks : List Bool) : Type 0 where
  pub sound : (y : ℕ) → IsSeen marks y → IsInChain net gate y
  pub all : (y : ℕ) → IsInChain net gate y → IsSeen marks y

-- the marks are those of the gate
pub record IsSiteOf (net : Net) (gate : ℕ) (site : SiteMarks) : Type 0 where
  pub reached : MarksReached net gate site.reached
  pub chained : MarksChain net gate site.chained

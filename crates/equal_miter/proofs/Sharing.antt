-- Nets that are alike share their sources.
use Rattle.gate_net.specs.Net.{Net}
use Rattle.joined_nets.specs.Joined.{ShareSources}
use Rattle.equal_miter.specs.Laws.{AreAlike}

pub shared : (one two : Net) → AreAlike one two → ShareSources one two
shared one two alike = record { first = alike.first; second = alike.second; sources = alike.sources }

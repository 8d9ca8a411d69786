-- Beside Tests.antt: what only private contracts, invariants and laws speak of.
use Rattle.std.specs.Prelude.{ℕ, Option}
use Rattle.gate_net.specs.Net.{Node, count_in, gate_in}

-- 1 for a gate, and 0 for all else
abbrev pub gate_weight : Option Node → ℕ
gate_weight o = count_in o gate_in

-- Open searches.
use Rattle.gate_net.specs.Forward.{AgreeOn}
use Rattle.gate_net.proofs.Public.{readings_agree}
use Rattle.refutation.specs.Facts.{known_good}
use Rattle.refutation.specs.Laws.{OpenSearchesWait}

pub open_searches_wait : OpenSearchesWait
open_searches_wait net fault held x first t u acyclic open' quiet_now =
    open'.0.0.1.1.1 (λ y observed. let same : AgreeOn quiet_now.0 open'.0.0.0 y = readings_agree net fault acyclic (known_good held) quiet_now.0 open'.0.0.0 quiet_now.1 open'.0.0.1.0 y in
    rw (← same.equal) (quiet_now.2 y observed))

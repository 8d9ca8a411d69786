use Rattle.std.proofs.Common.{arith, ◌<◌, ◌≡◌, true, false}
use Rattle.fault_sim.proofs.Seeing.{first_lane}
use Rattle.fault_sim.specs.Words.{lane}
use Rattle.fault_sim.proofs.lanes.Lanes.first_detecting_sharing.Goals as goal

pub returns-clause-first : goal.returns-clause-first
returns-clause-first c =
    let some : 0 < c.detect_sharing-shared.result = omega arith in
    let first = first_lane c.detect_sharing-shared.result some c.detect_sharing-shared.type_inv in
    (first.0, (c.detect_sharing-shared.ensures.detects _ first.0).0 first.1.0)

pub returns-clause-before : goal.returns-clause-before
returns-clause-before c j less detected =
    let some : 0 < c.detect_sharing-shared.result = omega arith in
    let first = first_lane c.detect_sharing-shared.result some c.detect_sharing-shared.type_inv in
    let ever : lane j c.detect_sharing-shared.result ≡ true = (c.detect_sharing-shared.ensures.detects j (let small = first.0 in omega arith)).1 detected in
    let never : lane j c.detect_sharing-shared.result ≡ false = first.1.1 j less in
    absurd (cc)

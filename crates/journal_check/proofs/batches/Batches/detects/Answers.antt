use Rattle.std.proofs.Common.{◌≡◌, Some}
use Rattle.std.specs.Prelude.{slice_get}
use Rattle.rm_base.proofs.Public.{read_stands}
use Rattle.gate_graph.specs.Circuit.{net_of}
use Rattle.journal_check.specs.declared.batches.Batch.{Batch}
use Rattle.journal_check.proofs.LaneLaws.{detects_tests}
use Rattle.journal_check.proofs.batches.Batches.detects.Goals as goal

pub returns-clause-found : goal.returns-clause-found
returns-clause-found c =
    let b : Batch = c.index_mut-batch.result.now in
    let there : slice_get c.args.self.now.kept.items c.in_ok-place.place.batch ≡ Some b = read_stands c.args.self.now.kept.items c.in_ok-place.place.batch b c.in_ok-place.ensures.batch c.index_mut-batch.ensures.value in
    let stands = c.in_ok-place.ensures.stands b there in
    detects_tests (net_of c.args.question.now.graph.now) c.args.question.now.fault c.args.vector.now b.words.items c.in_ok-place.place.lane c.detects_by.result c.requires.size stands.1 c.detects_by.ensures.found

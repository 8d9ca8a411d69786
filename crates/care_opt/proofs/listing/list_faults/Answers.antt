use Rattle.gate_graph.specs.Circuit.{net_of}
use Rattle.care_opt.proofs.Leading.{main_taken}
use Rattle.care_opt.proofs.listing.list_faults.Goals as goal

pub returns : goal.returns
returns c = main_taken c.args.bound (net_of c.args.graph.now) c.in_ok-faults.faults.items c.as_slice.result.now c.main_count-count.result c.truncate.new.self.items c.in_ok-faults.ensures.faults c.as_slice.ensures.value c.main_count-count.ensures c.truncate.ensures.items

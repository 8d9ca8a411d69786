use Rattle.std.proofs.Common.{◌≡◌, ◌++◌, drop, length, map}
use Rattle.std.specs.Prelude.{slice_set}
use Rattle.fault_sim.specs.Words.{lane_values}
use Rattle.gate_net.specs.Meaning.{parity}
use Rattle.journal_check.proofs.tracing.stuck_parity.Given as goal

abbrev pub invariant-loop-driver : goal.invariant-loop-driver
invariant-loop-driver l = record {
  all : l.fn.drivers ≡ map (λ d. d.0) l.yielded ++ l.driver-iterator;
  count : l.place ≡ length l.yielded;
  value : parity l.inverts (slice_set (map (lane_values l.lanes.good l.lane) l.fn.drivers) l.fault.position l.fault.value) ≡ parity l.value (drop l.place (slice_set (map (lane_values l.lanes.good l.lane) l.fn.drivers) l.fault.position l.fault.value));
}

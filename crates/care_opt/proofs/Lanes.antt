-- The vector in a lane of words.
use Rattle.std.proofs.Common.{◌≡◌, ℕ, zero, suc, ◌-◌, List, [], ◌∷◌, length, map, false, refl, ap, subst, ◌∙◌}
use Rattle.std.specs.Prelude.{slice_index, slice_index_or}
use mathlib.Core.Path.{fun_ext}
use Rattle.fault_sim.proofs.Public.{lane_zero}
use Rattle.fault_sim.specs.Words.{assignment, lane}
use Rattle.gate_net.specs.Faults.{IsTest}
use Rattle.gate_net.specs.Net.{Net, source_count}
use Rattle.gate_net.specs.Values.{Detects}
use Rattle.rm_base.specs.declared.numbers.Fault.{Fault}

lane_read : (words : List ℕ) (i k : ℕ) → lane i (slice_index words k) ≡ slice_index_or (map (lane i) words) k false
lane_read [] i k = lane_zero i
lane_read (w ∷ words) i zero = refl
lane_read (w ∷ words) i (suc k) = lane_read words i k

map_length : (words : List ℕ) (i : ℕ) → length (map (lane i) words) ≡ length words
map_length [] i = refl
map_length (w ∷ words) i = ap suc (map_length words i)

-- where a lane detects, its vector is a test
pub lane_is_test : (net : Net) (fault : Fault) (words : List ℕ) (i : ℕ) → length words ≡ source_count net → Detects net fault (assignment words i) → IsTest net fault (map (lane i) words)
lane_is_test net fault words i size d = record { size = map_length words i ∙ size; detects = subst (Detects net fault) (fun_ext (λ x. lane_read words i (x - 2))) d }

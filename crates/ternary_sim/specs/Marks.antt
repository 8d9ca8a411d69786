-- What marks of nodes say.
use Rattle.std.specs.List.{list_all}
use Rattle.std.specs.Prelude.{Bool, List, None, Option, Some, false, if◌then◌else◌, map, nat_eq, slice_index_or, true, ℕ, ◌-◌, ◌||◌, ◌≡◌}
use Rattle.gate_net.specs.Forward.{Marking, both_known_same, is_idle, node_forward}
use Rattle.gate_net.specs.Net.{Net, drivers_of, node_at}
use Rattle.gate_net.specs.Values.{faulty_reads}
use Rattle.rm_base.specs.declared.numbers.Fault.{Fault}
use Rattle.rm_base.specs.declared.vectors.Value3.{Value3}
use Rattle.rm_base.specs.declared.vectors.Value3.TheVariants.{One, Unknown, Zero}
use Rattle.ternary_sim.specs.declared.marks.NodeMarks.{NodeMarks}
use Rattle.rm_base.specs.Numbers.{first_source}

-- what is known of a value
abbrev pub seen : Value3 → Option Bool
seen Zero = Some false
seen One = Some true
seen Unknown = None

-- the marks of a number without a live node
abbrev pub no_marks : NodeMarks
no_marks = record { good = None; faulty = None; equal = true }

abbrev pub mark_at : List NodeMarks → ℕ → NodeMarks
mark_at marks x = slice_index_or marks x no_marks

abbrev pub good_at : List NodeMarks → ℕ → Option Bool
good_at marks x = (mark_at marks x).good

abbrev pub faulty_at : List NodeMarks → ℕ → Option Bool
faulty_at marks x = (mark_at marks x).faulty

abbrev pub equal_at : List NodeMarks → ℕ → Bool
equal_at marks x = (mark_at marks x).equal

-- the marking by node number
abbrev pub marking : List NodeMarks → Marking
marking marks = record { good = good_at marks; faulty = faulty_at marks; equal = equal_at marks }

-- what is known of each source by its node number: source k is node first_source + k
abbrev pub known_source : List Value3 → ℕ → Option Bool
known_source sources x = seen (slice_index_or sources (x - first_source) Unknown)

-- what the node's own conditions say of it, the marks of its drivers given
pub record IsReadAt (net : Net) (fault : Fault) (known : ℕ → Option Bool) (m : Marking) (x : ℕ) (r : NodeMarks) : Type 0 where
  pub good : r.good ≡ node_forward (node_at net x) (known x) (map m.good (drivers_of net x))
  pub faulty : r.faulty ≡ node_forward (node_at net x) (known x) (faulty_reads net fault Some m.faulty x)
  pub equal : r.equal ≡ (both_known_same r.good r.faulty || (if nat_eq x fault.gate.0 then is_idle net fault m.good else list_all m.equal (drivers_of net x)))

-- Working off the nodes whose marks may have more to say.
use Rattle.std.specs.Prelude.{Bool, List, None, Option, Some, false, if◌then◌else◌, length, map, replicate, suc, true, ℕ, [], ◌*◌, ◌+◌, ◌∷◌, ◌≡◌, ◌⊎◌}
use Rattle.gate_graph.specs.Search.{IsSeen}
use Rattle.gate_net.specs.Net.{IsKind, IsLive, Net, Reads}
use Rattle.gate_net.specs.declared.Kind.TheVariants.{Source}
use Rattle.local_evaluation.specs.Worklists.{seen_count}
use Rattle.rm_base.specs.declared.numbers.Fault.{Fault}
use Rattle.ternary_sim.specs.Marks.{IsReadAt, good_at, mark_at, marking}
use Rattle.ternary_sim.specs.Regions.{IsTouched}
use Rattle.ternary_sim.specs.Tracking.{base_at}
use Rattle.ternary_sim.specs.Inner.Tracking.{AreInside, first_marks}
use Rattle.ternary_sim.specs.declared.marks.NodeMarks.{NodeMarks}
use Rattle.ternary_sim.specs.declared.trail.Saved.{Saved}

-- what the one says the other says too
pub record Among (r s : NodeMarks) : Type 0 where
  pub good : (c : Bool) → r.good ≡ Some c → s.good ≡ Some c
  pub faulty : (c : Bool) → r.faulty ≡ Some c → s.faulty ≡ Some c
  pub equal : r.equal ≡ true → s.equal ≡ true

-- what the node's own conditions say of it, these marks given; a source has what they say of it
abbrev pub IsRead : Net → Fault → List NodeMarks → ℕ → NodeMarks → Type 0
IsRead net fault marks x r = IsReadAt net fault (good_at marks) (marking marks) x r

-- no mark of a node of the region says more than the node's own conditions
abbrev pub IsLow : Net → Fault → List Bool → List NodeMarks → Type 0
IsLow net fault region marks = (x : ℕ) → IsSeen region x → (r : NodeMarks) → IsRead net fault marks x r → Among (mark_at marks x) r

-- each node of the region is to be looked at, or its marks are what its own conditions say
abbrev pub IsPending : Net → Fault → List Bool → List NodeMarks → List Bool → Type 0
IsPending net fault region marks worklist = (x : ℕ) → IsSeen region x → IsSeen worklist x ⊎ IsRead net fault marks x (mark_at marks x)

-- the same, or it is the one
abbrev pub IsPendingBut : Net → Fault → List Bool → List NodeMarks → List Bool → ℕ → Type 0
IsPendingBut net fault region marks worklist y = (x : ℕ) → IsSeen region x → (x ≡ y) ⊎ (IsSeen worklist x ⊎ IsRead net fault marks x (mark_at marks x))

-- the marks of each node of the region are what its own conditions say
abbrev pub AreReadWithin : Net → Fault → List Bool → List NodeMarks → Type 0
AreReadWithin net fault region marks = (x : ℕ) → IsSeen region x → IsRead net fault marks x (mark_at marks x)

-- the other nodes have the marks that they had
abbrev pub SameOutside : List Bool → List NodeMarks → List NodeMarks → Type 0
SameOutside region old new = (x : ℕ) → (IsSeen region x → ⊥) → mark_at new x ≡ mark_at old x

-- what is to be looked at is live and in the region
abbrev pub AreLive : Net → List Bool → List Bool → Type 0
AreLive net region worklist = (x : ℕ) → IsSeen worklist x → IsLive net x × IsSeen region x

abbrev pub lacking : Option Bool → ℕ
lacking None = 1
lacking (Some b) = 0

-- how much the marks don't say
abbrev pub lack_of : NodeMarks → ℕ
lack_of m = lacking m.good + (lacking m.faulty + (if m.equal then 0 else 1))

abbrev pub lack : List NodeMarks → ℕ
lack [] = 0
lack (m ∷ marks) = lack_of m + lack marks

-- how much work is left at most
abbrev pub work : List NodeMarks → List Bool → ℕ
work marks worklist = lack marks * suc (length worklist) + seen_count worklist

-- the sources have what they had
abbrev pub SameSources : Net → List NodeMarks → List NodeMarks → Type 0
SameSources net old new = (z : ℕ) → IsKind net z Source → good_at new z ≡ good_at old z

-- the readers of the node that are in the region were put on the worklist
pub record ListsReaders (net : Net) (region old new : List Bool) (x : ℕ) : Type 0 where
  pub kept : (z : ℕ) → IsSeen old z → IsSeen new z
  pub readers : (z p : ℕ) → Reads net z p x → IsSeen region z → IsSeen new z
  pub only : (z : ℕ) → IsSeen new z → IsSeen old z ⊎ (((p : ℕ) × Reads net z p x) × IsSeen region z)
  pub size : length new ≡ length old

-- THE BEGINNING
-- the marks of a node that the fault doesn't touch, and of one that it may change
abbrev pub plain_marks : Option Bool → NodeMarks
plain_marks good = record { good = good; faulty = good; equal = true }

-- between its calls a tracker has a trail that leads back to the marks where no source is known, and no node on its worklist
pub record IsAtRest (base : List (Option Bool)) (marks : List NodeMarks) (entries : List Saved) (worklist : List Bool) : Type 0 where
  pub first : first_marks marks entries ≡ map plain_marks base
  pub none : worklist ≡ replicate (length marks) false
  pub size : length base ≡ length marks
  pub inside : AreInside (length marks) entries

abbrev pub touched_marks : Option Bool → NodeMarks
touched_marks good = record { good = good; faulty = None; equal = false }

-- the node has its first marks, and is to be looked at where the fault may change it
abbrev pub Begins : Net → ℕ → List (Option Bool) → List NodeMarks → List Bool → ℕ → Type 0
Begins net gate base marks worklist x =
    ((mark_at marks x ≡ touched_marks (base_at base x)) × IsSeen worklist x × IsTouched net gate x)
    ⊎ ((mark_at marks x ≡ plain_marks (base_at base x)) × (IsTouched net gate x → ⊥))

-- the numbers on the worklist have their first marks with the fault, and all others those without it
pub record HasBegun (base : List (Option Bool)) (marks : List NodeMarks) (worklist : List Bool) : Type 0 where
  pub touched : (x : ℕ) → IsSeen worklist x → mark_at marks x ≡ touched_marks (base_at base x)
  pub plain : (x : ℕ) → (IsSeen worklist x → ⊥) → mark_at marks x ≡ plain_marks (base_at base x)

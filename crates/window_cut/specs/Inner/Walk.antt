-- The walk with a stack of its own: what is done once the frames on the stack are.
use Rattle.std.specs.Prelude.{◌≡◌, ◌+◌, ◌<◌, ℕ, zero, suc, Bool, false, List, [], ◌∷◌, ◌++◌, drop, fold, length, Option, None, Some, slice_index_or, if◌then◌else◌}
use Rattle.std.specs.List.{AllByRecursion}
use Rattle.rm_base.specs.Words.{Word}
use Rattle.rm_model.specs.Ranks.{cover_of}
use Rattle.rm_model.specs.declared.parts.Model.{Model}
use Rattle.window_cut.specs.Order.{inputs_at, is_done, visited}
use Rattle.window_cut.specs.declared.walk.Frame.{Frame}

-- with enough fuel
abbrev pub visit : Model → List ℕ → Word → List ℕ
visit m done x = visited (length m.covers) m done x

-- the inputs of a frame's cover that aren't done
abbrev pub remaining : Model → Frame → List Word
remaining m f = drop f.next (inputs_at m.covers f.place)

-- what is done once a frame is
abbrev pub finished : Model → List ℕ → Frame → List ℕ
finished m done f = fold (visit m) done (remaining m f) ++ f.place ∷ []

-- what is done once the frames are, the last pushed first
abbrev pub due : Model → List ℕ → List Frame → List ℕ
due m done [] = done
due m done (f ∷ fs) = due m (finished m done f) fs

abbrev pub first_frame : ℕ → Frame
first_frame k = record { place = k; next = 0 }

-- the frame with its next input done
abbrev pub after : Frame → Frame
after f = record f { next = f.next + 1 }

-- the frame of the cover at that place, if it isn't marked
abbrev pub entered : List Bool → Option ℕ → List Frame
entered marks None = []
entered marks (Some k) = if slice_index_or marks k false then [] else first_frame k ∷ []

abbrev pub sum_of : (Word → ℕ) → List Word → ℕ
sum_of f [] = 0
sum_of f (x ∷ xs) = f x + sum_of f xs

abbrev pub steps_over : (Word → ℕ) → Model → Option ℕ → ℕ
steps_over steps m None = 1
steps_over steps m (Some k) = 2 + sum_of steps (inputs_at m.covers k)

-- how many steps the visit of a name would take without marks, down to a depth
abbrev pub steps_within : ℕ → Model → Word → ℕ
steps_within zero m x = 1
steps_within (suc n) m x = steps_over (steps_within n m) m (cover_of m.covers x)

abbrev pub steps : Model → Word → ℕ
steps m x = steps_within (length m.covers) m x

abbrev pub due_steps : Model → List Frame → ℕ
due_steps m [] = 0
due_steps m (f ∷ fs) = (1 + sum_of (steps m) (remaining m f)) + due_steps m fs

-- the marks tell which places are done
pub record IsMarked (m : Model) (done : List ℕ) (marks : List Bool) : Type 0 where
  pub count : length marks ≡ length m.covers
  pub each : (k : ℕ) → k < length m.covers → slice_index_or marks k false ≡ is_done done k

abbrev pub AreWithin : Model → List Frame → Type 0
AreWithin m fs = AllByRecursion (λ (f : Frame). f.place < length m.covers) fs

-- a step over the top frame leads to the same end, which is nearer
pub record Steps (m : Model) (f : Frame) (fs : List Frame) (done : List ℕ) (gs : List Frame) (done2 : List ℕ) (marks2 : List Bool) : Type 0 where
  pub same : due m done2 gs ≡ due m done (f ∷ fs)
  pub marked : IsMarked m done2 marks2
  pub within : AreWithin m gs
  pub nearer : due_steps m gs < due_steps m (f ∷ fs)

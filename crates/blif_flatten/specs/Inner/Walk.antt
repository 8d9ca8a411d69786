-- The walk through the instances with a stack of its own.
use Rattle.std.specs.Prelude.{◌≡◌, ◌<◌, ◌+◌, ◌*◌, ℕ, List, [], ◌∷◌, ◌++◌, map, drop, Option, None, Some, slice_get}
use Rattle.rm_base.specs.Words.{Word}
use Rattle.blif_flatten.specs.declared.modules.Pin.{Pin}
use Rattle.blif_flatten.specs.declared.modules.Link.{Link}
use Rattle.blif_flatten.specs.declared.modules.Module.{Module}
use Rattle.blif_flatten.specs.declared.pieces.Pieces.{Pieces}
use Rattle.blif_flatten.specs.declared.walk.Caller.{Caller}
use Rattle.blif_flatten.specs.declared.walk.Frame.{Frame}
use Rattle.blif_flatten.specs.Recursion.{links_of}
use Rattle.blif_flatten.specs.Instances.{Calls, Done, Then, all_calls, whole, instance_count, name_in}
use Rattle.blif_flatten.specs.Flat.{renamed_cover, renamed_latch, input_pins, output_pins, copies_in, copies_out}

-- PIECES

abbrev pub no_pieces : Pieces
no_pieces = record { covers = []; latches = []; places = [] }

abbrev pub joined : Pieces → Pieces → Pieces
joined a b = record { covers = a.covers ++ b.covers; latches = a.latches ++ b.latches; places = a.places ++ b.places }

-- the covers of a module's own, under the name of the instance
abbrev pub own_pieces : Word → ℕ → Module → Pieces
own_pieces before i m = record { covers = map (renamed_cover (name_in before i)) m.model.covers; latches = map (renamed_latch (name_in before i)) m.model.latches; places = m.places }

abbrev pub pieces_before : Word → ℕ → ℕ → Link → Pieces
pieces_before before outer i l = record { covers = copies_in before outer i (input_pins l); latches = []; places = map (λ (p : Pin). l.place) (input_pins l) }

abbrev pub pieces_behind : Word → ℕ → ℕ → Link → Pieces
pieces_behind before outer i l = record { covers = copies_out before outer i (output_pins l); latches = []; places = map (λ (p : Pin). l.place) (output_pins l) }

abbrev pub entered : Word → ℕ → ℕ → Link → Module → Pieces
entered before outer i l m = joined (pieces_before before outer i l) (own_pieces before i m)

-- what the calls of instance `outer` bring, of which the first called one has the number i
abbrev pub pieces_in : Word → ℕ → ℕ → Calls → Pieces
pieces_in before outer i Done = no_pieces
pieces_in before outer i (Then l m inside behind) =
    joined (entered before outer i l m)
    (joined (pieces_in before i (i + 1) inside)
    (joined (pieces_behind before outer i l)
    (pieces_in before outer (i + 1 + instance_count inside) behind)))

-- the call with other pins
abbrev pub with_pins : Link → List Pin → Link
with_pins l pins = record l { pins = pins }

-- THE STACK

abbrev pub remaining : List Module → Frame → Calls
remaining modules f = all_calls (whole modules) modules (drop f.next (links_of modules f.called))

abbrev pub closing_link : Word → ℕ → ℕ → Option Link → Pieces
closing_link before outer i None = no_pieces
closing_link before outer i (Some l) = pieces_behind before outer i l

abbrev pub closing_by : Word → List Module → ℕ → Option Caller → Pieces
closing_by before modules i None = no_pieces
closing_by before modules i (Some c) = closing_link before c.instance i (slice_get (links_of modules c.called) c.link)

-- the copies that are due when the calls of a frame are done
abbrev pub closing : Word → List Module → Frame → Pieces
closing before modules f = closing_by before modules f.instance f.caller

-- what the frames bring, the last one first, where the next instance has the number n
abbrev pub due : Word → List Module → ℕ → List Frame → Pieces
due before modules n [] = no_pieces
due before modules n (f ∷ fs) =
    joined (pieces_in before f.instance n (remaining modules f))
    (joined (closing before modules f)
    (due before modules (n + instance_count (remaining modules f)) fs))

abbrev pub due_count : List Module → List Frame → ℕ
due_count modules [] = 0
due_count modules (f ∷ fs) = instance_count (remaining modules f) + due_count modules fs

-- a step takes one from this
abbrev pub due_steps : List Module → List Frame → ℕ
due_steps modules [] = 0
due_steps modules (f ∷ fs) = (1 + 2 * instance_count (remaining modules f)) + due_steps modules fs

-- the frame with its next call done
abbrev pub after : Frame → Frame
after f = record f { next = f.next + 1 }

-- the frame of the instance that the next call makes
abbrev pub inner : ℕ → Frame → Link → Frame
inner n f l = record { called = l.called; next = 0; instance = n; caller = Some (record { called = f.called; link = f.next; instance = f.instance }) }

-- a step over a frame: what is done and what is due after it, the next number, and fewer steps
pub record Steps (before : Word) (modules : List Module) (n : ℕ) (f : Frame) (fs : List Frame) (done : Pieces) (n2 : ℕ) (gs : List Frame) : Type 0 where
  pub pieces : due before modules n (f ∷ fs) ≡ joined done (due before modules n2 gs)
  pub count : n2 + due_count modules gs ≡ n + due_count modules (f ∷ fs)
  pub less : due_steps modules gs < due_steps modules (f ∷ fs)

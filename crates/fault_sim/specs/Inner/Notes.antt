-- How notes stand for words of nodes.
use Rattle.std.specs.Prelude.{List, None, Option, Some, if◌then◌else◌, nat_eq, slice_get, ℕ, ◌≡◌, ◌≤◌}
use Rattle.fault_sim.specs.declared.observabilities.Note.{Note}

-- the word, where the stamp is the present one
abbrev pub word_noted : ℕ → Note → Option ℕ
word_noted stamp note = if nat_eq note.stamp stamp then Some note.word else None

-- no stamp is above this one
abbrev pub AreStamped : ℕ → List Note → Type 0
AreStamped stamp notes = (k : ℕ) (note : Note) → slice_get notes k ≡ Some note → note.stamp ≤ stamp

-- the word that is noted of the node, or none is
abbrev pub IsNoteFound : List (Option ℕ) → ℕ → Option ℕ → Type 0
IsNoteFound notes x None = (w : ℕ) → slice_get notes x ≡ Some (Some w) → ⊥
IsNoteFound notes x (Some w) = slice_get notes x ≡ Some (Some w)

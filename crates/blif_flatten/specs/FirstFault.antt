-- The first fault of a hierarchical text, and its flat model.
use Rattle.std.specs.Prelude.{◌+◌, ℕ, nat_lt, List, [], ◌∷◌, Option, None}
use Rattle.rm_base.specs.Words.{Word}
use Rattle.rm_model.specs.Ranks.{ranks_of}
use Rattle.blif_lines.specs.Layout.{layout}
use Rattle.blif_format.specs.declared.refusal.Quantity.TheVariants.{Flat}
use Rattle.blif_format.specs.declared.refusal.ReadRefusal.{ReadRefusal}
use Rattle.blif_format.specs.FirstFault.{or_else, limit_if, first_unranked}
use Rattle.blif_flatten.specs.declared.modules.Module.{Module}
use Rattle.blif_flatten.specs.Sections.{Section, sections_of}
use Rattle.blif_flatten.specs.LineFaults.{lines_fault}
use Rattle.blif_flatten.specs.CallFaults.{calls_fault, drivers_fault, users_fault}
use Rattle.blif_flatten.specs.Recursion.{recursion_fault}
use Rattle.blif_flatten.specs.Instances.{Calls, modules_of, whole, tokens_in, lead_of}
use Rattle.blif_flatten.specs.Flat.{flat_model, flat_places}

-- the calls of a module of these, with all that they call
abbrev pub tree_of : List Module → Module → Calls
tree_of modules top = whole modules top.links

-- more tokens of all instances, with the top, than there may be at most
abbrev pub size_fault : ℕ → Module → Calls → Option ReadRefusal
size_fault most top calls = limit_if (nat_lt most (top.tokens + tokens_in calls)) Flat (most + 1) top.place

-- the first cover of the flat model that has no rank
abbrev pub rank_fault : Word → Module → Calls → Option ReadRefusal
rank_fault lead top calls = first_unranked (flat_places top calls) (ranks_of (flat_model lead top.model calls))

abbrev pub top_fault : ℕ → Word → List Module → Option ReadRefusal
top_fault most lead [] = None
top_fault most lead (top ∷ ms) = or_else (size_fault most top (tree_of (top ∷ ms) top)) (rank_fault lead top (tree_of (top ∷ ms) top))

abbrev pub lead_in : List Section → Word
lead_in [] = []
lead_in (top ∷ ss) = lead_of (top ∷ ss) top

-- calls, recursion, drivers, users, size, ranks
abbrev pub sections_fault : ℕ → List Section → Option ReadRefusal
sections_fault most sections =
    or_else (calls_fault sections)
    (or_else (recursion_fault (modules_of sections))
    (or_else (drivers_fault sections)
    (or_else (users_fault sections)
    (top_fault most (lead_in sections) (modules_of sections)))))

-- the first fault of a text whose instances have at most so many tokens in all
abbrev pub first_fault : ℕ → List ℕ → Option ReadRefusal
first_fault most text = or_else (lines_fault (layout text) (sections_of text)) (sections_fault most (sections_of text))

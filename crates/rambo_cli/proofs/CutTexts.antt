-- From the windows of what was read to what `cut` says of the files.
use Rattle.std.proofs.Common.{◌≡◌, ◌≤◌, ◌<◌, ◌+◌, ◌⊎◌, ℕ, zero, suc, List, [], ◌∷◌, ◌++◌, take, length, refl, sym, ◌∙◌, ap, subst, arith, inl, inr, Result, Ok, Err}
use Rattle.std.specs.Prelude.{All, Option, None, Some, IfOk, IfSome, slice_get, slice_index_or}
use Rattle.std.specs.Option.{option_map}
use Rattle.std.proofs.lemmas.List.{take_all}
use Rattle.std.proofs.lemmas.List.Elements.{All-weaker}
use Rattle.rm_base.specs.Files.{Files, put_file}
use Rattle.rm_base.specs.Words.{Word}
use Rattle.rm_model.specs.declared.parts.Model.{Model}
use Rattle.blif_format.specs.Laws.{WrittenTextsRead}
use Rattle.blif_format.specs.Text.{text_of}
use Rattle.window_cut.specs.Laws.{IsStandalone}
use Rattle.window_fit.specs.Shared.{shared_windows}
use Rattle.rambo_cli.specs.Contract.{Caused}
use Rattle.rambo_cli.specs.Cut.{BeginsCut, CutFinds, HasCut, HasManyWindows, IsCutInto, put_windows, signals_of}
use Rattle.rambo_cli.specs.Files.{Holds, IfTold}
use Rattle.rambo_cli.specs.Flat.{FlatFinds, IsFlat, wide_limits}
use Rattle.rambo_cli.specs.Inner.Cut.{BeginsWindows, WindowsCause, all_put}
use Rattle.rambo_cli.specs.Inner.Files.{BeginsFile}
use Rattle.rambo_cli.specs.Inner.Problems.{StoreCause}
use Rattle.rambo_cli.specs.Problems.{KeepsFiles}
use Rattle.rambo_cli.specs.Windows.{IsWindow, most_windows, window_file}
use Rattle.rambo_cli.specs.declared.problem.Problem.{Problem}
use Rattle.rambo_cli.specs.declared.problem.Problem.TheVariants.{Words, Text, Limit, Missing, Fault, Journal, Record, Netlist, Second, Unlike, CareShape, Window, Proof, Memory}
use Rattle.rambo_cli.proofs.Pieces.{held}

-- ONE WINDOW AFTER THE OTHER
pub next_taken : (ws : List Model) (k : ℕ) (w : Model) → slice_get ws k ≡ Some w → take (suc k) ws ≡ take k ws ++ w ∷ []
next_taken [] k w e = cc
next_taken (x ∷ xs) zero w e = let is : x ≡ w = cc in ap (λ y. y ∷ []) is
next_taken (x ∷ xs) (suc k) w e = ap (λ ys. x ∷ ys) (next_taken xs k w e)

pub taken_length : (ws : List Model) (k : ℕ) (w : Model) → slice_get ws k ≡ Some w → length (take k ws) ≡ k
taken_length [] k w e = cc
taken_length (x ∷ xs) zero w e = refl
taken_length (x ∷ xs) (suc k) w e = ap suc (taken_length xs k w e)

pub stands_there : (ws : List Model) (k : ℕ) (w : Model) → k < length ws → w ≡ slice_index_or ws k w → slice_get ws k ≡ Some w
stands_there [] k w lt e = absurd (omega arith)
stands_there (x ∷ xs) zero w lt e = ap Some (sym e)
stands_there (x ∷ xs) (suc k) w lt e = stands_there xs k w (omega arith) e

put_last : (prefix : Word) (k : ℕ) (ws : List Model) (w : Model) (files : Files) → put_windows prefix k (ws ++ w ∷ []) files ≡ put_file (window_file prefix (length ws + k)) (text_of w) (put_windows prefix k ws files)
put_last prefix k [] w files = ap (λ (n : ℕ). put_file (window_file prefix n) (text_of w) files) (omega arith)
put_last prefix k (x ∷ xs) w files =
    put_last prefix (suc k) xs w (put_file (window_file prefix k) (text_of x) files)
    ∙ ap (λ (n : ℕ). put_file (window_file prefix n) (text_of w) (put_windows prefix (suc k) xs (put_file (window_file prefix k) (text_of x) files))) (omega arith)

-- with the window at a place written, one more is
pub put_next : (prefix : Word) (ws : List Model) (k : ℕ) (w : Model) (files : Files) → slice_get ws k ≡ Some w
    → put_windows prefix 1 (take (suc k) ws) files ≡ put_file (window_file prefix (k + 1)) (text_of w) (put_windows prefix 1 (take k ws) files)
put_next prefix ws k w files e =
    ap (λ (xs : List Model). put_windows prefix 1 xs files) (next_taken ws k w e) ∙ put_last prefix 1 (take k ws) w files
    ∙ ap (λ (n : ℕ). put_file (window_file prefix (n + 1)) (text_of w) (put_windows prefix 1 (take k ws) files)) (taken_length ws k w e)

abbrev pub first_put : Word → List Model → ℕ → Option Files → Option Files
first_put prefix ws k files = option_map (put_windows prefix 1 (take k ws)) files

pub none_put : (prefix : Word) (ws : List Model) (files : Option Files) → files ≡ first_put prefix ws 0 files
none_put prefix ws None = refl
none_put prefix ws (Some told) = ap (λ (xs : List Model). Some (put_windows prefix 1 xs told)) (none_taken ws)
  where
    none_taken : (ws : List Model) → [] ≡ take 0 ws
    none_taken [] = refl
    none_taken (x ∷ xs) = refl

pub one_more : (prefix : Word) (ws : List Model) (k : ℕ) (w : Model) (old mid new : Option Files) → slice_get ws k ≡ Some w → mid ≡ first_put prefix ws k old
    → new ≡ option_map (put_file (window_file prefix (k + 1)) (text_of w)) mid → new ≡ first_put prefix ws (k + 1) old
one_more prefix ws k w None mid new there e f = f ∙ ap (option_map (put_file (window_file prefix (k + 1)) (text_of w))) e
one_more prefix ws k w (Some told) mid new there e f =
    f ∙ ap (option_map (put_file (window_file prefix (k + 1)) (text_of w))) e ∙ ap Some (sym (put_next prefix ws k w told there)) ∙ ap (λ (n : ℕ). first_put prefix ws n (Some told)) next
  where
    next : suc k ≡ k + 1
    next = omega arith

pub all_are_put : (prefix : Word) (ws : List Model) (k : ℕ) (old new : Option Files) → length ws ≤ k → new ≡ first_put prefix ws k old → new ≡ all_put prefix ws old
all_are_put prefix ws k old new le e = e ∙ ap (λ (xs : List Model). option_map (put_windows prefix 1 xs) old) (take_all k ws le)

pub begins_first : (prefix : Word) (ws : List Model) (k : ℕ) (old new : Option Files) → new ≡ first_put prefix ws k old → BeginsWindows prefix ws old new
begins_first prefix ws k None new e = tt
begins_first prefix ws k (Some told) new e =
    subst (λ (o : Option Files). BeginsWindows prefix ws (Some told) o) (sym e) (inl (record { whole = k; files = refl }))

pub begins_part : (prefix : Word) (ws : List Model) (k : ℕ) (w : Model) (old mid new : Option Files) → slice_get ws k ≡ Some w → mid ≡ first_put prefix ws k old
    → BeginsFile (window_file prefix (k + 1)) (text_of w) mid new → BeginsWindows prefix ws old new
begins_part prefix ws k w None mid new there e begun = tt
begins_part prefix ws k w (Some told) mid new there e begun = elim begun [
  | inl unchanged ↦ begins_first prefix ws k (Some told) new (unchanged ∙ e)
  | inr part ↦
      subst (λ (o : Option Files). BeginsWindows prefix ws (Some told) o)
      (sym (part.1 ∙ ap (option_map (put_file (window_file prefix (k + 1)) (take part.0 (text_of w)))) e))
      (inr (record { whole = k; window = w; next = there; count = part.0; files = refl }))
]

-- WHAT THE COMMAND SAYS
pub store_keeps : (problem : Problem) (before now : ℕ) (old new : Option Files) → StoreCause before now problem → KeepsFiles problem old new
store_keeps Fault before now old new h = tt
store_keeps Memory before now old new h = tt
store_keeps Words before now old new h = absurd h
store_keeps (Text kind place) before now old new h = absurd h
store_keeps (Limit quantity count) before now old new h = absurd h
store_keeps Missing before now old new h = absurd h
store_keeps (Journal f) before now old new h = absurd h
store_keeps (Record r) before now old new h = absurd h
store_keeps (Netlist byte) before now old new h = absurd h
store_keeps (Second found) before now old new h = absurd h
store_keeps (Unlike list at) before now old new h = absurd h
store_keeps CareShape before now old new h = absurd h
store_keeps (Window number stop) before now old new h = absurd h
store_keeps (Proof found) before now old new h = absurd h

pub store_found : (Finds : Problem → Type 0) (problem : Problem) (first before now : ℕ) → first ≤ before → StoreCause before now problem → Caused Finds first now problem
store_found Finds Fault first before now le h = omega (arith, le, h)
store_found Finds Memory first before now le h = tt
store_found Finds Words first before now le h = absurd h
store_found Finds (Text kind place) first before now le h = absurd h
store_found Finds (Limit quantity count) first before now le h = absurd h
store_found Finds Missing first before now le h = absurd h
store_found Finds (Journal f) first before now le h = absurd h
store_found Finds (Record r) first before now le h = absurd h
store_found Finds (Netlist byte) first before now le h = absurd h
store_found Finds (Second found) first before now le h = absurd h
store_found Finds (Unlike list at) first before now le h = absurd h
store_found Finds CareShape first before now le h = absurd h
store_found Finds (Window number stop) first before now le h = absurd h
store_found Finds (Proof found) first before now le h = absurd h

-- what flattening the input finds
pub flat_found : (input : Word) (width shift : ℕ) (files : Option Files) (before now : ℕ) (problem : Problem) → Caused (FlatFinds wide_limits input files) before now problem → Caused (CutFinds input width shift files) before now problem
flat_found input width shift files before now Fault h = h
flat_found input width shift files before now Memory h = tt
flat_found input width shift files before now Words h = h
flat_found input width shift files before now (Text kind place) h = h
flat_found input width shift files before now (Limit quantity count) h = inl h
flat_found input width shift files before now Missing h = h
flat_found input width shift files before now (Journal f) h = h
flat_found input width shift files before now (Record r) h = h
flat_found input width shift files before now (Netlist byte) h = h
flat_found input width shift files before now (Second found) h = h
flat_found input width shift files before now (Unlike list at) h = h
flat_found input width shift files before now CareShape h = h
flat_found input width shift files before now (Window number stop) h = h
flat_found input width shift files before now (Proof found) h = h

-- that the input has too many windows
pub many_found : (input : Word) (width shift : ℕ) (model : Model) (instances : ℕ) (files : Option Files) → IfSome files (λ told. Holds told input (λ text. IsFlat wide_limits text model instances)) → (before now : ℕ) (problem : Problem)
    → WindowsCause (length (shared_windows width shift model)) problem → Caused (CutFinds input width shift files) before now problem
many_found input width shift model instances files flat before now (Limit quantity count) h =
    inr (held (λ text. IsFlat wide_limits text model instances) (λ text. HasManyWindows width shift text quantity count)
    (λ text is. record { model = model; instances = instances; flat = is; many = h.1.1; named = h.0; counted = h.1.0 }) files input flat)
many_found input width shift model instances files flat before now Memory h = tt
many_found input width shift model instances files flat before now Fault h = absurd h
many_found input width shift model instances files flat before now Words h = absurd h
many_found input width shift model instances files flat before now (Text kind place) h = absurd h
many_found input width shift model instances files flat before now Missing h = absurd h
many_found input width shift model instances files flat before now (Journal f) h = absurd h
many_found input width shift model instances files flat before now (Record r) h = absurd h
many_found input width shift model instances files flat before now (Netlist byte) h = absurd h
many_found input width shift model instances files flat before now (Second found) h = absurd h
many_found input width shift model instances files flat before now (Unlike list at) h = absurd h
many_found input width shift model instances files flat before now CareShape h = absurd h
many_found input width shift model instances files flat before now (Window number stop) h = absurd h
many_found input width shift model instances files flat before now (Proof found) h = absurd h

abbrev BeginsOrKeeps : Word → ℕ → Word → ℕ → Files → Files → Type 0
BeginsOrKeeps input width prefix shift before after = (after ≡ before) ⊎ BeginsCut input width prefix shift before after

pub cut_kept : (input : Word) (width : ℕ) (prefix : Word) (shift : ℕ) (old new : Option Files) → new ≡ old → IfTold old new (BeginsOrKeeps input width prefix shift)
cut_kept input width prefix shift None new e = tt
cut_kept input width prefix shift (Some told) new e = subst (λ (o : Option Files). IfTold (Some told) o (BeginsOrKeeps input width prefix shift)) (sym e) (inl refl)

module _ (input : Word) (width : ℕ) (prefix : Word) (shift : ℕ) (windows : List Model) where
  pub cut_written : (count signals : ℕ) → count ≡ length windows → signals ≡ signals_of windows → (old mid new : Option Files) → mid ≡ old
      → IfSome old (λ told. Holds told input (λ text. IsCutInto text width shift windows)) → new ≡ all_put prefix windows mid → IfTold old new (HasCut input width prefix shift count signals)
  cut_written count signals c s None mid new kept result e = tt
  cut_written count signals c s (Some told) mid new kept result e =
      subst (λ (o : Option Files). IfTold (Some told) o (HasCut input width prefix shift count signals)) (sym (e ∙ ap (all_put prefix windows) kept))
      (record { windows = windows; result = result; counted = c; handed_on = s; files = refl })

  pub cut_begun : (old mid new : Option Files) → mid ≡ old → IfSome old (λ told. Holds told input (λ text. IsCutInto text width shift windows)) → BeginsWindows prefix windows mid new
      → IfTold old new (BeginsOrKeeps input width prefix shift)
  cut_begun None mid new kept result begun = tt
  cut_begun (Some told) mid new kept result begun = go new (subst (λ (o : Option Files). BeginsWindows prefix windows o new) kept begun)
    where
      go : (new : Option Files) → BeginsWindows prefix windows (Some told) new → IfTold (Some told) new (BeginsOrKeeps input width prefix shift)
      go None h = absurd h
      go (Some after) h = inr (record { windows = windows; result = result; begun = h })

-- models that stand alone can be written, and their texts say them
pub windows_are : WrittenTextsRead → (windows : List Model) → All IsStandalone windows → All IsWindow windows
windows_are read windows standalone = All-weaker IsStandalone IsWindow (λ w s. (s, (read w s.formed s.ranked).1)) windows standalone

-- these are the windows of the file
pub cut_of : (width shift : ℕ) (model : Model) (instances : ℕ) (windows : List Model) → windows ≡ shared_windows width shift model → length windows ≤ most_windows → All IsWindow windows → (files : Option Files) (name : Word)
    → IfSome files (λ told. Holds told name (λ text. IsFlat wide_limits text model instances)) → IfSome files (λ told. Holds told name (λ text. IsCutInto text width shift windows))
cut_of width shift model instances windows are few each files name flat =
    held (λ text. IsFlat wide_limits text model instances) (λ text. IsCutInto text width shift windows) (λ text h. record { model = model; instances = instances; flat = h; are = are; few = few; each = each }) files name flat

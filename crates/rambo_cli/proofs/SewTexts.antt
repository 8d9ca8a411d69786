-- From what stands for the windows to what `sew` says of the files.
use Rattle.std.proofs.Common.{◌≡◌, ◌≤◌, ◌<◌, ◌+◌, ◌^◌, ◌⊎◌, ℕ, zero, suc, Bool, true, false, List, [], ◌∷◌, ◌++◌, take, length, refl, sym, ◌∙◌, ap, subst, arith, inl, inr, if◌then◌else◌, Result, Ok, Err}
use Rattle.std.specs.Prelude.{Option, None, Some, IfOk, IfSome, IsSomeAnd, slice_get}
use Rattle.std.specs.Option.{option_map}
use Rattle.std.proofs.lemmas.List.{take_all}
use Rattle.rm_base.specs.Files.{Files, file_of, put_file}
use Rattle.rm_base.specs.Words.{Word}
use Rattle.rm_base.specs.declared.numbers.NoMemory.{NoMemory}
use Rattle.blif_lines.specs.Layout.{lines_of}
use Rattle.blif_format.specs.Grammar.{Reads}
use Rattle.blif_format.specs.Laws.{WrittenTextsRead}
use Rattle.blif_format.specs.Text.{text_of}
use Rattle.cover_decompose.specs.Count.{decomposed}
use Rattle.rm_model.specs.declared.parts.Model.{Model}
use Rattle.rm_model.specs.Value.{IsRanked}
use Rattle.rm_model.specs.WellFormed.{IsWellFormed}
use Rattle.cover_sharing.specs.Shared.{shared}
use Rattle.sewing.specs.Laws.{AreFew, AreParts, IsReplacement, PartsFollow}
use Rattle.window_fit.specs.Laws.{SharedWindowsCompose}
use Rattle.window_fit.specs.Shared.{sewn_again, shared_windows}
use Rattle.window_parts.specs.Part.{IsPartOf}
use Rattle.window_parts.specs.Refusals.{IsRefusedPart}
use Rattle.window_parts.specs.declared.refusal.PartRefusal.{PartRefusal}
use Rattle.window_parts.specs.declared.refusal.PartRefusal.TheVariants as part
use Rattle.blif_format.specs.declared.refusal.Quantity.TheVariants.{Journal as JournalLimit}
use Rattle.accepted_steps.specs.Taken.{TakenFrom}
use Rattle.accepted_steps.specs.declared.stop.Stop.{Stop}
use Rattle.rambo_cli.specs.Contract.{Caused}
use Rattle.rambo_cli.specs.Files.{Holds, IfTold}
use Rattle.rambo_cli.specs.Flat.{FlatFinds, IsFlat, wide_limits}
use Rattle.rambo_cli.specs.Inner.Files.{BeginsFile}
use Rattle.rambo_cli.specs.Inner.Cut.{WindowsCause}
use Rattle.rambo_cli.specs.Inner.Sew.{IsSewnOf, ModelFinds, PartFinds, PartsFind}
use Rattle.rambo_cli.specs.Sew.{AreMadeOf, BeginsSewn, HasSewn, HaveParts, IsChosen, IsLongWindow, IsSewnFrom, IsSewnInto, SewFinds, Stops, count_replayed}
use Rattle.rambo_cli.specs.Windows.{most_windows, window_journal}
use Rattle.rambo_cli.specs.declared.stitching.SewnText.{SewnText}
use Rattle.rambo_cli.specs.declared.problem.Problem.{Problem}
use Rattle.rambo_cli.specs.declared.problem.Problem.TheVariants.{Words, Text, Limit, Missing, Fault, Journal, Record, Netlist, Second, Unlike, CareShape, Window, Proof, Memory}
use Rattle.rambo_cli.proofs.Pieces.{held}
use Rattle.rambo_cli.proofs.CutTexts.{many_found, next_taken, taken_length}

-- ONE PART AFTER THE OTHER
more_made : (prefix : Word) (k : ℕ) (ws ps : List Model) (bs : List Bool) (w p : Model) (b : Bool) (told : Files) → AreMadeOf prefix k ws ps bs told → IsPartOf w (window_journal prefix (length ws + k)) p b told
    → AreMadeOf prefix k (ws ++ w ∷ []) (ps ++ p ∷ []) (bs ++ b ∷ []) told
more_made prefix k [] [] [] w p b told made part = let at : 0 + k ≡ k = omega arith in (subst (λ (n : ℕ). IsPartOf w (window_journal prefix n) p b told) at part, tt)
more_made prefix k [] [] (c ∷ cs) w p b told made part = absurd made
more_made prefix k [] (q ∷ qs) bs w p b told made part = absurd made
more_made prefix k (v ∷ vs) [] bs w p b told made part = absurd made
more_made prefix k (v ∷ vs) (q ∷ qs) [] w p b told made part = absurd made
more_made prefix k (v ∷ vs) (q ∷ qs) (c ∷ cs) w p b told made part =
    (made.0, more_made prefix (suc k) vs qs cs w p b told made.1 (subst (λ (n : ℕ). IsPartOf w (window_journal prefix n) p b told) next part))
  where
    next : suc (length vs) + k ≡ length vs + suc k
    next = omega arith

suc_plus : (m n : ℕ) → suc (m + n) ≡ suc m + n
suc_plus m n = omega arith

count_more : (bs : List Bool) (b : Bool) → count_replayed (bs ++ b ∷ []) ≡ count_replayed bs + (if b then 1 else 0)
count_more [] true = refl
count_more [] false = refl
count_more (true ∷ bs) b = ap suc (count_more bs b) ∙ suc_plus (count_replayed bs) (if b then 1 else 0)
count_more (false ∷ bs) b = count_more bs b

pub no_parts : (prefix : Word) (ws : List Model) (files : Option Files) → IfSome files (HaveParts prefix (take 0 ws) [] 0)
no_parts prefix ws None = tt
no_parts prefix [] (Some told) = record { flags = []; made = tt; counted = refl }
no_parts prefix (w ∷ ws) (Some told) = record { flags = []; made = tt; counted = refl }

pub none_replaced : (ws : List Model) → AreParts (take 0 ws) []
none_replaced [] = tt
none_replaced (w ∷ ws) = tt

-- the part of the window at this place is one more
pub one_more_part : (prefix : Word) (ws ps : List Model) (replayed after place : ℕ) (w p : Model) (b : Bool) (files : Option Files) → slice_get ws place ≡ Some w
    → IfSome files (HaveParts prefix (take place ws) ps replayed) → IfSome files (IsPartOf w (window_journal prefix (place + 1)) p b) → after ≡ replayed + (if b then 1 else 0)
    → IfSome files (HaveParts prefix (take (place + 1) ws) (ps ++ p ∷ []) after)
one_more_part prefix ws ps replayed after place w p b None there have part sum = tt
one_more_part prefix ws ps replayed after place w p b (Some told) there have part sum =
    let at : length (take place ws) + 1 ≡ place + 1 = ap (λ (n : ℕ). n + 1) (taken_length ws place w there) in
    let made : AreMadeOf prefix 1 (take place ws ++ w ∷ []) (ps ++ p ∷ []) (have.flags ++ b ∷ []) told =
    more_made prefix 1 (take place ws) ps have.flags w p b told have.made (subst (λ (n : ℕ). IsPartOf w (window_journal prefix n) p b told) (sym at) part) in
    let step : place + 1 ≡ suc place = omega arith in
    let next : take (place + 1) ws ≡ take place ws ++ w ∷ [] = ap (λ (n : ℕ). take n ws) step ∙ next_taken ws place w there in
    record {
      flags = have.flags ++ b ∷ [];
      made = subst (λ (xs : List Model). AreMadeOf prefix 1 xs (ps ++ p ∷ []) (have.flags ++ b ∷ []) told) (sym next) made;
      counted = sum ∙ (ap (λ (n : ℕ). n + (if b then 1 else 0)) have.counted ∙ sym (count_more have.flags b));
    }

pub one_more_replaced : (follow : PartsFollow) (ws ps : List Model) (place : ℕ) (w p : Model) → slice_get ws place ≡ Some w → AreParts (take place ws) ps → IsReplacement w p → AreParts (take (place + 1) ws) (ps ++ p ∷ [])
one_more_replaced follow ws ps place w p there are part =
    let step : place + 1 ≡ suc place = omega arith in
    let next : take (place + 1) ws ≡ take place ws ++ w ∷ [] = ap (λ (n : ℕ). take n ws) step ∙ next_taken ws place w there in
    subst (λ (xs : List Model). AreParts xs (ps ++ p ∷ [])) (sym next) (follow (take place ws) ps w p are part)

pub all_parts : (prefix : Word) (ws ps : List Model) (replayed place : ℕ) (files : Option Files) → length ws ≤ place → IfSome files (HaveParts prefix (take place ws) ps replayed) → IfSome files (HaveParts prefix ws ps replayed)
all_parts prefix ws ps replayed place files le have = subst (λ (xs : List Model). IfSome files (HaveParts prefix xs ps replayed)) (take_all place ws le) have

pub all_replaced : (ws ps : List Model) (place : ℕ) → length ws ≤ place → AreParts (take place ws) ps → AreParts ws ps
all_replaced ws ps place le are = subst (λ (xs : List Model). AreParts xs ps) (take_all place ws le) are

-- WHY THERE IS NOTHING TO SEW
pub journal_long : (prefix : Word) (number : ℕ) (w : Model) (files : Option Files) (name : Word) (found : PartRefusal) → name ≡ window_journal prefix number → found ≡ part.TooLong → IfSome files (IsRefusedPart w name found)
    → IsLongWindow prefix files (Limit JournalLimit 4611686018427387905)
journal_long prefix number w None name found named e h = (refl, tt)
journal_long prefix number w (Some told) name found named e h =
    let long : IsRefusedPart w (window_journal prefix number) part.TooLong told = subst (λ (x : PartRefusal). IsRefusedPart w (window_journal prefix number) x told) e (subst (λ (n : Word). IsRefusedPart w n found told) named h) in
    (refl, (number, subst (λ (x : Option (List ℕ)). IsSomeAnd x (λ text. 2 ^ 62 < length text)) (sym long.1.0) long.1.1))

-- of the window at this place, over the files as they were
pub part_cause : (prefix : Word) (ws : List Model) (place : ℕ) (w : Model) (files mid : Option Files) (before start now : ℕ) (problem : Problem) → slice_get ws place ≡ Some w → mid ≡ files → before ≤ start
    → Caused (PartFinds w prefix (place + 1) mid) start now problem → Caused (PartsFind prefix ws files) before now problem
part_cause prefix ws place w files mid before start now problem there same le h = go problem (subst (λ (o : Option Files). Caused (PartFinds w prefix (place + 1) o) start now problem) same h)
  where
    go : (problem : Problem) → Caused (PartFinds w prefix (place + 1) files) start now problem → Caused (PartsFind prefix ws files) before now problem
    go Fault h = omega (arith, le, h)
    go Memory h = tt
    go Words h = absurd h
    go (Text kind at) h = absurd h
    go (Limit quantity count) h = (place, (w, (there, h)))
    go Missing h = absurd h
    go (Journal f) h = absurd h
    go (Record r) h = absurd h
    go (Netlist byte) h = absurd h
    go (Second found) h = absurd h
    go (Unlike list at) h = absurd h
    go CareShape h = absurd h
    go (Window number stop) h = (place, (w, (there, h)))
    go (Proof found) h = absurd h

stops_at : (input : Word) (width : ℕ) (prefix : Word) (shift number : ℕ) (model : Model) (instances : ℕ) (files : Option Files) → IfSome files (λ told. Holds told input (λ text. IsFlat wide_limits text model instances)) → (place : ℕ) (w : Model)
    → slice_get (shared_windows width shift model) place ≡ Some w → number ≡ place + 1 → (stop : Stop) → PartFinds w prefix (place + 1) files (Window number stop) → IfSome files (Stops input width prefix shift number stop)
stops_at input width prefix shift number model instances None flat place w there e stop h = tt
stops_at input width prefix shift number model instances (Some told) flat place w there e stop h = record {
  model = model;
  instances = instances;
  flat = flat;
  place = place;
  window = w;
  there = there;
  numbered = e;
  steps = h.1.0;
  taken = subst (λ (n : ℕ). TakenFrom w (window_journal prefix n) h.1.0 (Some stop) told) (sym e) h.1.1;
}

-- of a model with too many windows
pub windows_found : (m : Model) (width : ℕ) (prefix : Word) (shift : ℕ) (files : Option Files) (before now : ℕ) (problem : Problem) → WindowsCause (length (shared_windows width shift m)) problem → Caused (ModelFinds m width prefix shift files) before now problem
windows_found m width prefix shift files before now (Limit quantity count) h = inl h
windows_found m width prefix shift files before now Memory h = tt
windows_found m width prefix shift files before now Fault h = absurd h
windows_found m width prefix shift files before now (Window number stop) h = absurd h
windows_found m width prefix shift files before now Words h = absurd h
windows_found m width prefix shift files before now (Text kind at) h = absurd h
windows_found m width prefix shift files before now Missing h = absurd h
windows_found m width prefix shift files before now (Journal f) h = absurd h
windows_found m width prefix shift files before now (Record r) h = absurd h
windows_found m width prefix shift files before now (Netlist byte) h = absurd h
windows_found m width prefix shift files before now (Second found) h = absurd h
windows_found m width prefix shift files before now (Unlike list at) h = absurd h
windows_found m width prefix shift files before now CareShape h = absurd h
windows_found m width prefix shift files before now (Proof found) h = absurd h

-- of the windows of a model
pub parts_found : (m : Model) (width : ℕ) (prefix : Word) (shift : ℕ) (windows : List Model) (files : Option Files) (before now : ℕ) (problem : Problem) → windows ≡ shared_windows width shift m
    → Caused (PartsFind prefix windows files) before now problem → Caused (ModelFinds m width prefix shift files) before now problem
parts_found m width prefix shift windows files before now problem are h = go problem (subst (λ (ws : List Model). Caused (PartsFind prefix ws files) before now problem) are h)
  where
    go : (problem : Problem) → Caused (PartsFind prefix (shared_windows width shift m) files) before now problem → Caused (ModelFinds m width prefix shift files) before now problem
    go Fault h = h
    go Memory h = tt
    go (Limit quantity count) h = inr h
    go (Window number stop) h = inr h
    go Words h = inr h
    go (Text kind at) h = inr h
    go Missing h = inr h
    go (Journal f) h = inr h
    go (Record r) h = inr h
    go (Netlist byte) h = inr h
    go (Second found) h = inr h
    go (Unlike list at) h = inr h
    go CareShape h = inr h
    go (Proof found) h = inr h

-- of the model of the input
pub model_found : (input : Word) (width : ℕ) (prefix : Word) (shift : ℕ) (model : Model) (instances : ℕ) (files mid : Option Files) (before start now : ℕ) (problem : Problem)
    → IfSome files (λ told. Holds told input (λ text. IsFlat wide_limits text model instances)) → mid ≡ files → before ≤ start
    → Caused (ModelFinds model width prefix shift mid) start now problem → Caused (SewFinds input width prefix shift files) before now problem
model_found input width prefix shift model instances files mid before start now problem flat same le h =
    go problem (subst (λ (o : Option Files). Caused (ModelFinds model width prefix shift o) start now problem) same h)
  where
    go : (problem : Problem) → Caused (ModelFinds model width prefix shift files) start now problem → Caused (SewFinds input width prefix shift files) before now problem
    go Fault h = omega (arith, le, h)
    go Memory h = tt
    go (Limit quantity count) h = elim h [
      | inl many ↦ inl (many_found input width shift model instances files flat before now (Limit quantity count) many)
      | inr part ↦ inr part.1.1.1
    ]
    go (Window number stop) h = elim h [
      | inl many ↦ absurd many
      | inr part ↦ stops_at input width prefix shift number model instances files flat part.0 part.1.0 part.1.1.0 part.1.1.1.0 stop part.1.1.1
    ]
    go Words h = elim h [
      | inl many ↦ absurd many
      | inr part ↦ absurd part.1.1.1
    ]
    go (Text kind at) h = elim h [
      | inl many ↦ absurd many
      | inr part ↦ absurd part.1.1.1
    ]
    go Missing h = elim h [
      | inl many ↦ absurd many
      | inr part ↦ absurd part.1.1.1
    ]
    go (Journal f) h = elim h [
      | inl many ↦ absurd many
      | inr part ↦ absurd part.1.1.1
    ]
    go (Record r) h = elim h [
      | inl many ↦ absurd many
      | inr part ↦ absurd part.1.1.1
    ]
    go (Netlist byte) h = elim h [
      | inl many ↦ absurd many
      | inr part ↦ absurd part.1.1.1
    ]
    go (Second found) h = elim h [
      | inl many ↦ absurd many
      | inr part ↦ absurd part.1.1.1
    ]
    go (Unlike list at) h = elim h [
      | inl many ↦ absurd many
      | inr part ↦ absurd part.1.1.1
    ]
    go CareShape h = elim h [
      | inl many ↦ absurd many
      | inr part ↦ absurd part.1.1.1
    ]
    go (Proof found) h = elim h [
      | inl many ↦ absurd many
      | inr part ↦ absurd part.1.1.1
    ]

-- what is found of the input is what `cut` finds
pub input_cause : (input : Word) (width : ℕ) (prefix : Word) (shift : ℕ) (files : Option Files) (before now : ℕ) (problem : Problem) → Caused (FlatFinds wide_limits input files) before now problem → Caused (SewFinds input width prefix shift files) before now problem
input_cause input width prefix shift files before now Fault h = h
input_cause input width prefix shift files before now Memory h = tt
input_cause input width prefix shift files before now (Limit quantity count) h = inl (inl h)
input_cause input width prefix shift files before now (Window number stop) h = absurd h
input_cause input width prefix shift files before now Words h = h
input_cause input width prefix shift files before now (Text kind at) h = h
input_cause input width prefix shift files before now Missing h = h
input_cause input width prefix shift files before now (Journal f) h = h
input_cause input width prefix shift files before now (Record r) h = h
input_cause input width prefix shift files before now (Netlist byte) h = h
input_cause input width prefix shift files before now (Second found) h = h
input_cause input width prefix shift files before now (Unlike list at) h = h
input_cause input width prefix shift files before now CareShape h = h
input_cause input width prefix shift files before now (Proof found) h = h

-- WHAT IS WRITTEN
pub fit_for : (compose : SharedWindowsCompose) (width shift : ℕ) (model whole : Model) (windows parts : List Model) → IsWellFormed model → IsRanked model → whole ≡ shared model → windows ≡ shared_windows width shift model
    → length windows < 2 ^ 64 → AreParts windows parts → AreFew whole parts → IsReplacement model (sewn_again model parts)
fit_for compose width shift model whole windows parts formed ranked is are count replaced few =
    compose width shift model parts formed ranked (subst (λ (ws : List Model). length ws < 2 ^ 64) are count) (subst (λ (ws : List Model). AreParts ws parts) are replaced) (subst (λ (m : Model). AreFew m parts) is few)

pub sewn_into : (read : WrittenTextsRead) (model made : Model) (parts : List Model) (wires before : ℕ) (text : List ℕ) → IsChosen model parts made → IsReplacement model made → wires ≡ decomposed made → before ≡ decomposed model
    → wires ≤ before → text ≡ text_of made → IsSewnInto model parts wires before text
sewn_into read model made parts wires before text chosen r counted counted_before le spelled = record {
  made = made;
  chosen = chosen;
  spelled = spelled;
  of_the_grammar = subst (λ (t : List ℕ). Reads (lines_of t) made) (sym spelled) (read made r.formed r.equivalent.other_ranked).1;
  acyclic = r.equivalent.other_ranked;
  same_function = r.equivalent;
  counted = counted;
  counted_before = counted_before;
  no_more_wires = le;
}

-- of a text with these figures
pub sewn_text : (read : WrittenTextsRead) (model made : Model) (parts : List Model) (wires before : ℕ) → IsChosen model parts made → IsReplacement model made → wires ≡ decomposed made → before ≡ decomposed model → wires ≤ before
    → (r : Result SewnText NoMemory) → IfOk r (λ s. s.text.items ≡ text_of made) → IfOk r (λ s. s.wires ≡ wires) → IfOk r (λ s. s.before ≡ before) → IfOk r (λ s. IsSewnInto model parts s.wires s.before s.text.items)
sewn_text read model made parts wires before chosen rep counted counted_before le (Err e) t w b = tt
sewn_text read model made parts wires before chosen rep counted counted_before le (Ok s) t w b =
    sewn_into read model made parts s.wires s.before s.text.items chosen rep (w ∙ counted) (b ∙ counted_before) (omega (arith, w, b, le)) t

-- of a model and what stands for its windows
pub sewn_of : (m : Model) (width : ℕ) (prefix : Word) (shift : ℕ) (windows parts : List Model) (count replayed wires before : ℕ) (text : List ℕ) (files : Option Files) → windows ≡ shared_windows width shift m → length windows ≤ most_windows
    → count ≡ length windows → IfSome files (HaveParts prefix windows parts replayed) → IsSewnInto m parts wires before text → IfSome files (IsSewnOf m width prefix shift count replayed wires before text)
sewn_of m width prefix shift windows parts count replayed wires before text None are few counted have sewn = tt
sewn_of m width prefix shift windows parts count replayed wires before text (Some told) are few counted have sewn = record {
  few = subst (λ (ws : List Model). length ws ≤ most_windows) are few;
  parts = parts;
  are = subst (λ (ws : List Model). HaveParts prefix ws parts replayed told) are have;
  counted = counted ∙ ap (λ (ws : List Model). length ws) are;
  sewn = sewn;
}

-- WHAT THE COMMAND SAYS
abbrev BeginsOrKeeps : Word → ℕ → Word → Word → ℕ → Files → Files → Type 0
BeginsOrKeeps input width prefix output shift before after = (after ≡ before) ⊎ BeginsSewn input width prefix output shift before after

pub sewn_kept : (input : Word) (width : ℕ) (prefix output : Word) (shift : ℕ) (old new : Option Files) → new ≡ old → IfTold old new (BeginsOrKeeps input width prefix output shift)
sewn_kept input width prefix output shift None new e = tt
sewn_kept input width prefix output shift (Some told) new e = subst (λ (o : Option Files). IfTold (Some told) o (BeginsOrKeeps input width prefix output shift)) (sym e) (inl refl)

both_of : (P Q : List ℕ → Type 0) → ((bytes : List ℕ) → P bytes → Q bytes) → (o : Option (List ℕ)) → IsSomeAnd o P → IsSomeAnd o Q
both_of P Q f None h = absurd h
both_of P Q f (Some bytes) h = f bytes h

-- what is written for the file
pub sewn_from : (input : Word) (width : ℕ) (prefix : Word) (shift : ℕ) (model : Model) (instances count replayed wires before : ℕ) (text : List ℕ) (files mid : Option Files) → mid ≡ files
    → IfSome mid (IsSewnOf model width prefix shift count replayed wires before text) → IfSome files (λ told. Holds told input (λ bytes. IsFlat wide_limits bytes model instances))
    → IfSome files (λ told. Holds told input (λ bytes. IsSewnFrom bytes width prefix shift count replayed wires before text told))
sewn_from input width prefix shift model instances count replayed wires before text None mid same of flat = tt
sewn_from input width prefix shift model instances count replayed wires before text (Some told) mid same of flat =
    let sewn : IsSewnOf model width prefix shift count replayed wires before text told = subst (λ (o : Option Files). IfSome o (IsSewnOf model width prefix shift count replayed wires before text)) same of in
    both_of (λ bytes. IsFlat wide_limits bytes model instances) (λ bytes. IsSewnFrom bytes width prefix shift count replayed wires before text told)
    (λ bytes h. record { model = model; instances = instances; flat = h; few = sewn.few; parts = sewn.parts; are = sewn.are; counted = sewn.counted; sewn = sewn.sewn })
    (file_of told input) flat

module _ (input : Word) (width : ℕ) (prefix output : Word) (shift count replayed wires before : ℕ) (text written : List ℕ) (same : written ≡ text) where
  pub sewn_written : (old mid new : Option Files) → mid ≡ old → IfSome old (λ told. Holds told input (λ bytes. IsSewnFrom bytes width prefix shift count replayed wires before text told))
      → new ≡ option_map (put_file output written) mid → IfTold old new (HasSewn input width prefix output shift count replayed wires before)
  sewn_written None mid new kept result e = tt
  sewn_written (Some told) mid new kept result e =
      subst (λ (o : Option Files). IfTold (Some told) o (HasSewn input width prefix output shift count replayed wires before))
      (sym (e ∙ ap (option_map (put_file output written)) kept))
      (record { written = text; result = result; files = ap (λ (t : List ℕ). put_file output t told) same })

  pub sewn_begun : (old mid new : Option Files) → mid ≡ old → IfSome old (λ told. Holds told input (λ bytes. IsSewnFrom bytes width prefix shift count replayed wires before text told))
      → BeginsFile output written mid new → IfTold old new (BeginsOrKeeps input width prefix output shift)
  sewn_begun None mid new kept result begun = tt
  sewn_begun (Some told) mid new kept result begun = elim begun [
    | inl unchanged ↦ sewn_kept input width prefix output shift (Some told) new (unchanged ∙ kept)
    | inr part ↦
        subst (λ (o : Option Files). IfTold (Some told) o (BeginsOrKeeps input width prefix output shift))
        (sym (part.1 ∙ ap (option_map (put_file output (take part.0 written))) kept))
        (inr (record {
          count = count;
          replayed = replayed;
          wires = wires;
          before = before;
          written = text;
          result = result;
          kept = part.0;
          files = ap (λ (t : List ℕ). put_file output (take part.0 t) told) same;
        }))
  ]

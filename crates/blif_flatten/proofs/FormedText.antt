-- The flat model of a text without a fault before the ranks is well formed.
use Rattle.std.proofs.Common.{◌≡◌, ◌≢◌, ◌≤◌, ◌<◌, ◌+◌, ◌^◌, ℕ, zero, suc, List, [], ◌∷◌, ◌++◌, length, Bool, true, false, Option, None, Some, refl, sym, ap, ◌∙◌, subst, arith, length-append}
use Rattle.std.specs.Prelude.{fold, slice_get, if◌then◌else◌}
use Rattle.std.specs.List.{cons_option, filter_map, flat_map, list_all}
use Rattle.std.proofs.lemmas.List.{length-map}
use Rattle.rm_base.specs.Words.{Word}
use Rattle.rm_base.proofs.Public.{and_first, and_second, map_found, map_at, some_same}
use Rattle.rm_model.specs.Value.{is_among}
use Rattle.rm_model.specs.WellFormed.{is_token, IsWellFormed}
use Rattle.blif_lines.specs.Layout.{Flaw, Logical, Spot, layout}
use Rattle.blif_format.specs.declared.refusal.FaultKind.TheVariants.{MissingWord}
use Rattle.blif_format.specs.declared.refusal.ReadRefusal.{ReadRefusal}
use Rattle.blif_format.specs.declared.words.Command.{Command}
use Rattle.blif_format.specs.Uses.{Use, command_of, parts_of, use_of, uses_of}
use Rattle.blif_format.specs.FirstFault.{fault, or_else}
use Rattle.blif_reader.specs.Fit.{AreTokens, token_sum}
use Rattle.blif_reader.proofs.Public.{layout_count, layout_tokens, parts_length}
use Rattle.blif_flatten.specs.declared.modules.Module.{Module}
use Rattle.blif_flatten.specs.declared.flattening.Flattened.{Flattened}
use Rattle.blif_flatten.specs.Flattened.{IsFlatOf}
use Rattle.blif_flatten.specs.Sections.{Section, is_title, layout_fault, lines_until, onto_last, plain_module, second_word, sections_of, sound_lines, token_count, with_line, words_in_line}
use Rattle.blif_flatten.specs.Calls.{Call, calls_of, connection_of, is_call}
use Rattle.blif_flatten.specs.CallFaults.{call_fault, calls_fault, drivers_fault, first_of, line_uses, module_named, pin_use, pin_uses, plain_modules, section_calls_fault, section_drivers_fault, section_users_fault, section_uses, users_fault, uses_by}
use Rattle.blif_flatten.specs.FirstFault.{lead_in}
use Rattle.blif_flatten.specs.Flat.{flat_model}
use Rattle.blif_flatten.specs.Instances.{Calls, free_from, free_number, instance_count, is_free, lead, link_of, module_of, modules_of, names_held, whole}
use Rattle.blif_flatten.specs.Laws.{AreRankedBy}
use Rattle.blif_flatten.specs.LineFaults.{body_fault, empty_fault, head_fault, lines_fault, nothing_said, section_fault, sections_fault, title_fault, titles_with}
use Rattle.blif_flatten.specs.Recursion.{recursion_fault}
use Rattle.blif_flatten.specs.Inner.Reading.{names_fault}
use Rattle.blif_flatten.specs.Inner.Tokens.{all_tokens}
use Rattle.blif_flatten.proofs.Layouts.{with-count}
use Rattle.blif_flatten.proofs.Names.{numbers-are_least}
use Rattle.blif_flatten.proofs.Placed.{kept-few}
use Rattle.blif_flatten.proofs.FormedTree.{level_outs}
use Rattle.blif_flatten.proofs.FormedFlat.{IsSoundModel, all_times, flat-formed}
use Rattle.blif_flatten.proofs.FormedCalls.{AreSoundModules, IsSoundLink, calls-driven, calls-once, calls-shaped, calls-tokens, ins_of, level-whole, model-whole, outs_of, sound-whole}
use Rattle.blif_flatten.proofs.FormedUses.{call_made}
use Rattle.blif_flatten.proofs.FormedBodies.{AreSome, none-first, none-second}
use Rattle.blif_flatten.proofs.FormedNames.{AreTokenLines}
use Rattle.blif_flatten.proofs.FormedPins.{link-sound}
use Rattle.blif_flatten.proofs.FormedModels.{drivers-held, model-sound}

-- WORDS OF SECTIONS
pub record IsTextSection (s : Section) : Type 0 where
  pub titled : s.title ≢ []
  pub title : list_all is_token (words_in_line s.title) ≡ true
  pub words : AreTokenLines s.body
  pub some : AreSome s.body

abbrev pub AreTextSections : List Section → Type 0
AreTextSections [] = Unit {0}
AreTextSections (s ∷ ss) = IsTextSection s × AreTextSections ss

sound-tokens : (ls : List Logical) → AreTokens ls → AreTokenLines (sound_lines ls) × AreSome (sound_lines ls)
sound-tokens [] h = (tt, tt)
sound-tokens (l ∷ ls) h = at l.flaw refl l.tokens (h.0) (sound-tokens ls h.1)
  where
    at : (f : Option Flaw) → l.flaw ≡ f → (ts : List Spot) → (l.flaw ≡ None → list_all is_token (words_in_line ts) ≡ true) → AreTokenLines (sound_lines ls) × AreSome (sound_lines ls) → AreTokenLines (lines_until f ts (sound_lines ls)) × AreSome (lines_until f ts (sound_lines ls))
    at (Some flaw) e ts k rest = (tt, tt)
    at None e [] k rest = rest
    at None e (t ∷ ts) k rest = ((k e, rest.0), ((λ none. absurd cc), rest.1))

tokens-add : (body : List (List Spot)) (line : List Spot) → AreTokenLines body → list_all is_token (words_in_line line) ≡ true → AreTokenLines (body ++ line ∷ [])
tokens-add [] line h k = (k, tt)
tokens-add (l ∷ ls) line h k = (h.0, tokens-add ls line h.1 k)

some-add : (body : List (List Spot)) (line : List Spot) → AreSome body → line ≢ [] → AreSome (body ++ line ∷ [])
some-add [] line h k = (k, tt)
some-add (l ∷ ls) line h k = (h.0, some-add ls line h.1 k)

onto-text : (line : List Spot) (ss : List Section) → list_all is_token (words_in_line line) ≡ true → line ≢ [] → AreTextSections ss → AreTextSections (onto_last line ss)
onto-text line [] k some h = tt
onto-text line (s ∷ []) k some h = (record { titled = h.0.titled; title = h.0.title; words = tokens-add s.body line h.0.words k; some = some-add s.body line h.0.some some }, tt)
onto-text line (s ∷ u ∷ ss) k some h = (h.0, onto-text line (u ∷ ss) k some h.1)

behind-text : (ss : List Section) (line : List Spot) → list_all is_token (words_in_line line) ≡ true → line ≢ [] → AreTextSections ss → AreTextSections (ss ++ record { title = line; body = [] } ∷ [])
behind-text [] line k some h = (record { titled = some; title = k; words = tt; some = tt }, tt)
behind-text (s ∷ ss) line k some h = (h.0, behind-text ss line k some h.1)

with-text : (ss : List Section) (line : List Spot) → list_all is_token (words_in_line line) ≡ true → line ≢ [] → AreTextSections ss → AreTextSections (with_line ss line)
with-text ss line k some h = at (is_title line)
  where
    at : (b : Bool) → AreTextSections (if b then ss ++ record { title = line; body = [] } ∷ [] else onto_last line ss)
    at true = behind-text ss line k some h
    at false = onto-text line ss k some h

all-text : (ls : List (List Spot)) (ss : List Section) → AreTokenLines ls → AreSome ls → AreTextSections ss → AreTextSections (fold with_line ss ls)
all-text [] ss h k had = had
all-text (l ∷ ls) ss h k had = all-text ls (with_line ss l) h.1 k.1 (with-text ss l h.0 k.0 had)

pub sections-text : (text : List ℕ) → AreTextSections (sections_of text)
sections-text text = let h = sound-tokens (layout text) (layout_tokens text) in all-text (sound_lines (layout text)) [] h.0 h.1 tt

-- HOW MANY NAMES
sound-count : (ls : List Logical) → token_count (sound_lines ls) ≤ token_sum ls
sound-count [] = omega arith
sound-count (l ∷ ls) = at l.flaw l.tokens (sound-count ls)
  where
    at : (f : Option Flaw) (ts : List Spot) → token_count (sound_lines ls) ≤ token_sum ls → token_count (lines_until f ts (sound_lines ls)) ≤ length ts + token_sum ls
    at (Some flaw) ts h = omega arith
    at None [] h = omega (arith, h)
    at None (t ∷ ts) h = omega (arith, h)

fold-count : (ls : List (List Spot)) (ss : List Section) → all_tokens (fold with_line ss ls) ≤ all_tokens ss + token_count ls
fold-count [] ss = omega arith
fold-count (l ∷ ls) ss = let a = fold-count ls (with_line ss l) in let b = with-count ss l in omega (arith, a, b)

text-count : (text : List ℕ) → all_tokens (sections_of text) ≤ length text
text-count text =
    let a = fold-count (sound_lines (layout text)) [] in
    let b = sound-count (layout text) in
    let c = layout_count text in
    omega (arith, a, b, c)

uses_of-few : (l : List Spot) → length (uses_of l) ≤ length l
uses_of-few [] = omega arith
uses_of-few (s ∷ ss) = at (command_of s.word)
  where
    at : (o : Option Command) → length (elim o as (λ _. List Use) [ None ↦ [] | Some k ↦ filter_map use_of (parts_of k ss) ]) ≤ suc (length ss)
    at None = omega arith
    at (Some k) = let a = kept-few use_of (parts_of k ss) in let b = parts_length k ss in omega (arith, a, b)

pin_uses-few : (c : Call) (o : Option Module) → length (pin_uses c o) ≤ length c.pins
pin_uses-few c None = omega arith
pin_uses-few c (Some m) = let a = length-map c.pins (pin_use m.model) in omega (arith, a)

line-few : (plains : List Module) (l : List Spot) → length (line_uses plains l) ≤ length l
line-few plains [] = omega arith
line-few plains (s ∷ []) = uses_of-few (s ∷ [])
line-few plains (s ∷ v ∷ vs) = at (is_call s)
  where
    at : (b : Bool) → length (uses_by plains (s ∷ v ∷ vs) (if b then Some (call_made s v vs) else None)) ≤ length (s ∷ v ∷ vs)
    at true =
        let a = pin_uses-few (call_made s v vs) (module_named plains v.word) in
        let b = kept-few connection_of vs in
        omega (arith, a, b)
    at false = uses_of-few (s ∷ v ∷ vs)

uses-few : (plains : List Module) (body : List (List Spot)) → length (flat_map (line_uses plains) body) ≤ token_count body
uses-few plains [] = omega arith
uses-few plains (l ∷ ls) =
    let a = line-few plains l in
    let b = uses-few plains ls in
    let c = length-append (line_uses plains l) (flat_map (line_uses plains) ls) in
    omega (arith, a, b, c)

free-small : (tries t : ℕ) (names : List Word) → free_from tries names t ≤ t + tries
free-small zero t names = omega arith
free-small (suc tries) t names = at (is_free names t) (free-small tries (t + 1) names)
  where
    at : (b : Bool) → free_from tries names (t + 1) ≤ t + 1 + tries → (if b then t else free_from tries names (t + 1)) ≤ t + suc tries
    at true h = omega arith
    at false h = omega (arith, h)

-- FAULTS OF EACH SECTION
each-none : {A : Type 0} (test : A → Option ReadRefusal) (xs : List A) (k : ℕ) (x : A) → first_of test xs ≡ None → slice_get xs k ≡ Some x → test x ≡ None
each-none test [] zero x none at = absurd cc
each-none test [] (suc k) x none at = absurd cc
each-none test (y ∷ ys) zero x none at = let is : y ≡ x = cc in subst (λ z. test z ≡ None) is (none-first (test y) (first_of test ys) none)
each-none test (y ∷ ys) (suc k) x none at = each-none test ys k x (none-second (test y) (first_of test ys) none) at

-- what is kept comes of an element without a fault
kept-none : {A B : Type 0} (test : A → Option ReadRefusal) (f : A → Option B) (xs : List A) (j : ℕ) (y : B) → first_of test xs ≡ None → slice_get (filter_map f xs) j ≡ Some y → (x : A) × ((test x ≡ None) × (f x ≡ Some y))
kept-none test f [] zero y none e = absurd cc
kept-none test f [] (suc j) y none e = absurd cc
kept-none {A = A} {B = B} test f (x ∷ xs) j y none e = at (f x) refl j e (λ i g. kept-none test f xs i y (none-second (test x) (first_of test xs) none) g)
  where
    at : (o : Option B) → f x ≡ o → (j : ℕ) → slice_get (cons_option o (filter_map f xs)) j ≡ Some y → ((i : ℕ) → slice_get (filter_map f xs) i ≡ Some y → (z : A) × ((test z ≡ None) × (f z ≡ Some y))) → (z : A) × ((test z ≡ None) × (f z ≡ Some y))
    at None is j e rest = rest j e
    at (Some b) is zero e rest = (x, (none-first (test x) (first_of test xs) none, is ∙ e))
    at (Some b) is (suc j) e rest = rest j e

-- what is known of a section
record IsSoundSection (s : Section) : Type 0 where
  name : is_token (second_word (words_in_line s.title)) ≡ true
  lines : body_fault nothing_said s.body ≡ None
  words : AreTokenLines s.body
  some : AreSome s.body

title-name : (models : List Word) (title : List Spot) → title_fault models title ≡ None → title ≢ [] → list_all is_token (words_in_line title) ≡ true → is_token (second_word (words_in_line title)) ≡ true
title-name models [] none some h = absurd (some refl)
title-name models (s ∷ []) none some h = absurd (let bad : fault MissingWord s.place ≡ None = none in cc)
title-name models (s ∷ u ∷ us) none some h = and_first (is_token u.word) (list_all is_token (words_in_line us)) (and_second (is_token s.word) (list_all is_token (words_in_line (u ∷ us))) h)

each-sound : (models : List Word) (ss : List Section) → sections_fault models ss ≡ None → AreTextSections ss → (k : ℕ) (s : Section) → slice_get ss k ≡ Some s → IsSoundSection s
each-sound models [] none h zero s at = absurd cc
each-sound models [] none h (suc k) s at = absurd cc
each-sound models (u ∷ us) none h zero s at =
    let is : u ≡ s = cc in
    let first : section_fault models u ≡ None = none-first (section_fault models u) (sections_fault (titles_with models u.title) us) none in
    subst IsSoundSection is record {
      name = title-name models u.title (none-first (title_fault models u.title) (body_fault nothing_said u.body) first) h.0.titled h.0.title;
      lines = none-second (title_fault models u.title) (body_fault nothing_said u.body) first;
      words = h.0.words;
      some = h.0.some;
    }
each-sound models (u ∷ us) none h (suc k) s at = each-sound (titles_with models u.title) us (none-second (section_fault models u) (sections_fault (titles_with models u.title) us) none) h.1 k s at

held-few : (plains : List Module) (s : Section) (us : List Section) → all_tokens (s ∷ us) < 2 ^ 32 → length (names_held plains s) < 2 ^ 32
held-few plains s us few =
    let count = uses-few plains s.body in
    let names = length-map (section_uses plains s) (λ (u : Use). u.name) in
    omega (arith, few, count, names)

-- THE MODULES
module _ (ss : List Section) (lines : sections_fault [] ss ≡ None) (text : AreTextSections ss) (calls : calls_fault ss ≡ None) (drivers : drivers_fault ss ≡ None) (users : users_fault ss ≡ None) where
  abbrev plains : List Module
  plains = plain_modules ss

  section-sound : (k : ℕ) (s : Section) → slice_get ss k ≡ Some s → IsSoundModel (plain_module s).model (outs_of (module_of plains s).links) (ins_of (module_of plains s).links)
  section-sound k s at =
      let is = each-sound [] ss lines text k s at in
      model-sound plains (second_word (words_in_line s.title)) s.body is.lines is.some is.words is.name
      (each-none (section_drivers_fault plains) ss k s drivers at) (each-none (section_users_fault plains) ss k s users at)

  modules-sound : AreSoundModules (modules_of ss)
  modules-sound = record {
    each = λ k m at.
        let from = map_found (module_of plains) ss k m at in
        subst (λ (d : Module). IsSoundModel d.model (outs_of d.links) (ins_of d.links)) from.1.1 (section-sound k from.0 from.1.0);
    links = λ k j m d l at link there.
        let from = map_found (module_of plains) ss k m at in
        let called = map_found (module_of plains) ss l.called d there in
        let held : slice_get (filter_map (link_of plains) (calls_of from.0)) j ≡ Some l = subst (λ (d : Module). slice_get d.links j ≡ Some l) (sym from.1.1) link in
        let call = kept-none (call_fault plains) (link_of plains) (calls_of from.0) j l (each-none (section_calls_fault plains) ss k from.0 calls from.1.0) held in
        subst (λ (d : Module). IsSoundLink l d.model) called.1.1 (link-sound plains call.0 l (plain_module called.0) call.1.0 call.1.1 (map_at plain_module ss l.called called.0 called.1.0));
  }

  -- each name that the top drives is one that its section holds
  top-held : (s : Section) → body_fault nothing_said s.body ≡ None → (top : Module) (calls : Calls) → module_of plains s ≡ top → level_outs calls ≡ outs_of top.links → (x : Word) → 1 ≤ all_times x top.model (level_outs calls) → is_among (names_held plains s) x ≡ true
  top-held s clean top calls same level x h =
      drivers-held plains (second_word (words_in_line s.title)) s.body clean x
      (subst (λ (d : Module). 1 ≤ all_times x d.model (outs_of d.links)) (sym same) (subst (λ (ws : List Word). 1 ≤ all_times x top.model ws) level h))

  module _ (rank : ℕ → ℕ) (ranked : AreRankedBy (modules_of ss) rank) (s : Section) (here : slice_get ss 0 ≡ Some s) (few : length (names_held plains s) < 2 ^ 32) where
    abbrev number : ℕ
    number = free_number (names_held plains s)

    number-small : number < 2 ^ 64
    number-small = let low : number ≤ 0 + length (names_held plains s) = free-small (length (names_held plains s)) 0 (names_held plains s) in omega (arith, low, few)

    number-free : is_free (names_held plains s) number ≡ true
    number-free = (numbers-are_least (names_held plains s) (omega (arith, few))).0

    top-formed : (top : Module) → slice_get (modules_of ss) 0 ≡ Some top → module_of plains s ≡ top → 1 + instance_count (whole (modules_of ss) top.links) < 2 ^ 64
        → IsWellFormed (flat_model (lead number) top.model (whole (modules_of ss) top.links))
    top-formed top first same small =
        let sound = sound-whole (modules_of ss) rank ranked modules-sound 0 top first in
        flat-formed number top.model (whole (modules_of ss) top.links) (names_held plains s)
        (model-whole (modules_of ss) rank ranked modules-sound 0 top first)
        (calls-once (whole (modules_of ss) top.links) sound) (calls-driven (whole (modules_of ss) top.links) sound) (calls-shaped (whole (modules_of ss) top.links) sound) (calls-tokens (whole (modules_of ss) top.links) sound)
        number-free number-small small
        (top-held s (each-sound [] ss lines text 0 s here).lines top (whole (modules_of ss) top.links) same (level-whole (modules_of ss) rank ranked 0 top first).0)

  pub formed-from : (rank : ℕ → ℕ) → AreRankedBy (modules_of ss) rank → all_tokens ss < 2 ^ 32 → (top : Module) → slice_get (modules_of ss) 0 ≡ Some top → 1 + instance_count (whole (modules_of ss) top.links) < 2 ^ 64
      → (s : Section) (us : List Section) → ss ≡ s ∷ us → IsWellFormed (flat_model (lead_in ss) top.model (whole (modules_of ss) top.links))
  formed-from rank ranked few top first small s us is =
      let here : slice_get ss 0 ≡ Some s = ap (λ (xs : List Section). slice_get xs 0) is in
      let from = map_found (module_of plains) ss 0 top first in
      let same : from.0 ≡ s = some_same (sym from.1.0 ∙ here) in
      let tokens : all_tokens (s ∷ us) < 2 ^ 32 = subst (λ (xs : List Section). all_tokens xs < 2 ^ 32) is few in
      let lead_is : lead_in ss ≡ lead (free_number (names_held plains s)) = subst (λ (xs : List Section). lead_in xs ≡ lead (free_number (names_held (plain_modules xs) s))) (sym is) refl in
      subst (λ (w : Word). IsWellFormed (flat_model w top.model (whole (modules_of ss) top.links))) (sym lead_is)
      (top-formed rank ranked s here (held-few plains s us tokens) top first (ap (module_of plains) (sym same) ∙ from.1.1) small)

  pub formed-some : (rank : ℕ → ℕ) → AreRankedBy (modules_of ss) rank → all_tokens ss < 2 ^ 32 → (top : Module) → slice_get (modules_of ss) 0 ≡ Some top → 1 + instance_count (whole (modules_of ss) top.links) < 2 ^ 64
      → IsWellFormed (flat_model (lead_in ss) top.model (whole (modules_of ss) top.links))
  formed-some rank ranked few top first small = at ss refl
    where
      no-top : ss ≡ [] → ⊥
      no-top e = none-there (sym (ap (λ (xs : List Section). slice_get (modules_of xs) 0) e) ∙ first)
        where
          none-there : None ≡ Some top → ⊥
          none-there f = cc

      at : (xs : List Section) → ss ≡ xs → IsWellFormed (flat_model (lead_in ss) top.model (whole (modules_of ss) top.links))
      at [] e = absurd (no-top e)
      at (s ∷ us) e = formed-from rank ranked few top first small s us e

-- THE FLAT MODEL
at-most : (a b : ℕ) → a ≤ b → b < 2 ^ 32 → a < 2 ^ 32
at-most a b h k = omega (arith, h, k)

few-more : (n k : ℕ) → n ≡ 1 + k → n < 2 ^ 32 → 1 + k < 2 ^ 64
few-more n k e h = omega (arith, e, h)

-- the flat model of modules that are linked
linked-formed : (ss : List Section) (front behind : Option ReadRefusal) → or_else front (or_else (sections_fault [] ss) behind) ≡ None → AreTextSections ss → names_fault ss ≡ None → all_tokens ss < 2 ^ 32
    → (rank : ℕ → ℕ) × AreRankedBy (modules_of ss) rank → (top : Module) → slice_get (modules_of ss) 0 ≡ Some top → (ms : List Module) (before : Word) (flat : Flattened) → ms ≡ modules_of ss → before ≡ lead_in ss
    → IsFlatOf before ms top flat → flat.instances < 2 ^ 32 → IsWellFormed flat.model
linked-formed ss front behind lines text names few ranked top first ms before flat same leads made small =
    let sections = none-first (sections_fault [] ss) behind (none-second front (or_else (sections_fault [] ss) behind) lines) in
    let after = none-second (calls_fault ss) (or_else (recursion_fault (modules_of ss)) (or_else (drivers_fault ss) (users_fault ss))) names in
    let last = none-second (recursion_fault (modules_of ss)) (or_else (drivers_fault ss) (users_fault ss)) after in
    let calls = none-first (calls_fault ss) (or_else (recursion_fault (modules_of ss)) (or_else (drivers_fault ss) (users_fault ss))) names in
    let count : flat.instances ≡ 1 + instance_count (whole (modules_of ss) top.links) = made.instances ∙ ap (λ (xs : List Module). 1 + instance_count (whole xs top.links)) same in
    let model : flat.model ≡ flat_model (lead_in ss) top.model (whole (modules_of ss) top.links) =
    made.model ∙ (ap (λ (w : Word). flat_model w top.model (whole ms top.links)) leads ∙ ap (λ (xs : List Module). flat_model (lead_in ss) top.model (whole xs top.links)) same) in
    subst IsWellFormed (sym model)
    (formed-some ss sections text calls (none-first (drivers_fault ss) (users_fault ss) last) (none-second (drivers_fault ss) (users_fault ss) last) ranked.0 ranked.1 few top first
    (few-more flat.instances (instance_count (whole (modules_of ss) top.links)) count small))

pub joined-formed : (text : List ℕ) → length text < 2 ^ 32 → lines_fault (layout text) (sections_of text) ≡ None → names_fault (sections_of text) ≡ None → (rank : ℕ → ℕ) × AreRankedBy (modules_of (sections_of text)) rank
    → (top : Module) → slice_get (modules_of (sections_of text)) 0 ≡ Some top → (ms : List Module) (before : Word) (flat : Flattened) → ms ≡ modules_of (sections_of text) → before ≡ lead_in (sections_of text)
    → IsFlatOf before ms top flat → flat.instances < 2 ^ 32 → IsWellFormed flat.model
joined-formed text few lines names ranked top first ms before flat same leads made small =
    linked-formed (sections_of text) (head_fault (sound_lines (layout text))) (or_else (layout_fault (layout text)) (empty_fault (sound_lines (layout text)))) lines (sections-text text) names (at-most (all_tokens (sections_of text)) (length text) (text-count text) few)
    ranked top first ms before flat same leads made small

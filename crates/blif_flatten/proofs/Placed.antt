-- Each cover of a flat model has a place, and there are no more covers than tokens.
use Rattle.std.proofs.Common.{◌≡◌, ◌≤◌, ◌<◌, ◌+◌, ℕ, zero, suc, List, [], ◌∷◌, ◌++◌, map, length, Bool, true, false, not, Option, None, Some, refl, sym, ap, ◌∙◌, subst, arith, length-append}
use Rattle.std.specs.Prelude.{codes, filter, is_some, slice_get, if◌then◌else◌}
use Rattle.std.specs.List.{cons_option, filter_map}
use Rattle.std.proofs.lemmas.List.{length-map}
use Rattle.rm_base.specs.Words.{Word}
use Rattle.rm_base.specs.declared.numbers.Place.{Place}
use Rattle.rm_base.proofs.Public.{map_found, stands_below}
use Rattle.rm_model.specs.Words.{is_word}
use Rattle.rm_model.specs.declared.parts.Cover.{Cover}
use Rattle.blif_lines.specs.Layout.{Spot}
use Rattle.blif_format.specs.Text.{Line}
use Rattle.blif_format.specs.Grammar.{before, is_dotted}
use Rattle.blif_flatten.specs.declared.modules.Link.{Link}
use Rattle.blif_flatten.specs.declared.modules.Module.{Module}
use Rattle.blif_flatten.specs.declared.modules.Pin.{Pin}
use Rattle.blif_flatten.specs.declared.flattening.Flattened.{Flattened}
use Rattle.blif_flatten.specs.Sections.{Section, cover_from, cover_on, covers_from, names_place, token_count, words_in_line}
use Rattle.blif_flatten.specs.Calls.{Call, Connection, call_of, connection_of, is_call}
use Rattle.blif_flatten.specs.CallFaults.{module_at, place_named, plain_modules}
use Rattle.blif_flatten.specs.Instances.{Calls, all_calls, calls_in, instance_count, link_of, link_with, module_of, modules_of, name_in, pin_in, then_call, tokens_in, whole}
use Rattle.blif_flatten.specs.Flat.{copy, copies_in, copies_out, covers_in, input_pins, output_pins, places_in, renamed_cover}
use Rattle.blif_flatten.specs.Flattened.{IsFlatOf}
use Rattle.blif_flatten.specs.FirstFault.{size_fault, tree_of}
use Rattle.blif_flatten.specs.Inner.Reading.{IsLight, links_weight}
use Rattle.blif_flatten.proofs.Joined.{size-small}

-- SECTIONS
both-there : {A B : Type 0} (a : Option A) (b : Option B) (xs : List A) (ys : List B) → is_some a ≡ is_some b → length xs ≡ length ys → length (cons_option a xs) ≡ length (cons_option b ys)
both-there None None xs ys e h = h
both-there (Some a) (Some b) xs ys e h = ap suc h
both-there None (Some b) xs ys e h = absurd cc
both-there (Some a) None xs ys e h = absurd cc

line-there : (l : List Spot) (ls : List Line) → is_some (names_place l) ≡ is_some (cover_on (words_in_line l) ls)
line-there [] ls = refl
line-there (s ∷ []) ls = refl
line-there (s ∷ t ∷ ts) ls = at (is_word (codes ".names") s.word)
  where
    at : (b : Bool) → is_some (if b then Some s.place else None) ≡ is_some (if b then Some (cover_from (t.word ∷ map (λ (u : Spot). u.word) ts, before is_dotted ls)) else None)
    at true = refl
    at false = refl

places-there : (body : List (List Spot)) → length (filter_map names_place body) ≡ length (covers_from (map words_in_line body))
places-there [] = refl
places-there (l ∷ ls) = both-there (names_place l) (cover_on (words_in_line l) (map words_in_line ls)) (filter_map names_place ls) (covers_from (map words_in_line ls)) (line-there l (map words_in_line ls)) (places-there ls)

-- a line has no more pins than words, and its cover is one
pub kept-few : {A B : Type 0} (f : A → Option B) (xs : List A) → length (filter_map f xs) ≤ length xs
kept-few f [] = omega arith
kept-few {A = A} {B = B} f (x ∷ xs) = at (f x) (kept-few f xs)
  where
    at : (o : Option B) → length (filter_map f xs) ≤ length xs → length (cons_option o (filter_map f xs)) ≤ suc (length xs)
    at None h = omega (arith, h)
    at (Some b) h = omega (arith, h)

line-covers : (l : List Spot) (ls : List Line) (cs : List Cover) → length (cons_option (cover_on (words_in_line l) ls) cs) ≤ 1 + length cs
line-covers l ls cs = at (cover_on (words_in_line l) ls)
  where
    at : (o : Option Cover) → length (cons_option o cs) ≤ 1 + length cs
    at None = omega arith
    at (Some c) = omega arith

module _ (ms : List Module) where
  link-pins : (c : Call) (l : Link) → link_of ms c ≡ Some l → length l.pins ≡ length c.pins
  link-pins c l e = at (place_named ms c.callee) (module_at ms (place_named ms c.callee)) e
    where
      at : (k : Option ℕ) (m : Option Module) → link_with c k m ≡ Some l → length l.pins ≡ length c.pins
      at None m f = absurd cc
      at (Some k) None f = absurd cc
      at (Some k) (Some m) f =
          let pins : map (pin_in m.model) c.pins ≡ l.pins = ap (λ (o : Option Link). elim o as (λ _. List Pin) [ None ↦ [] | Some x ↦ x.pins ]) f in
          ap (λ (ps : List Pin). length ps) (sym pins) ∙ length-map c.pins (pin_in m.model)

  call-weight : (o : Option Call) (cs : List Call) (n : ℕ) → ((c : Call) → o ≡ Some c → length c.pins ≤ n) → links_weight (filter_map (link_of ms) (cons_option o cs)) ≤ n + links_weight (filter_map (link_of ms) cs)
  call-weight None cs n few = omega arith
  call-weight (Some c) cs n few = at (link_of ms c) refl
    where
      at : (l : Option Link) → link_of ms c ≡ l → links_weight (cons_option l (filter_map (link_of ms) cs)) ≤ n + links_weight (filter_map (link_of ms) cs)
      at None e = omega arith
      at (Some l) e = let pins = link-pins c l e in let most = few c refl in omega (arith, pins, most)

  call-pins : (s t : Spot) (ts : List Spot) (c : Call) → call_of (s ∷ t ∷ ts) ≡ Some c → length c.pins ≤ length ts
  call-pins s t ts c e = at (is_call s) e
    where
      at : (b : Bool) → (if b then Some (record { place = s.place; callee = t.word; callee_place = t.place; pins = filter_map connection_of ts }) else None) ≡ Some c → length c.pins ≤ length ts
      at true f =
          let pins : filter_map connection_of ts ≡ c.pins = ap (λ (o : Option Call). elim o as (λ _. List Connection) [ None ↦ [] | Some x ↦ x.pins ]) f in
          let few = kept-few connection_of ts in
          subst (λ (ps : List Connection). length ps ≤ length ts) pins few
      at false f = absurd cc

  -- a line without two words has neither
  line-weight : (l : List Spot) (ls : List (List Spot)) → links_weight (filter_map (link_of ms) (filter_map call_of ls)) + length (covers_from (map words_in_line ls)) ≤ token_count ls
      → links_weight (filter_map (link_of ms) (cons_option (call_of l) (filter_map call_of ls))) + length (cons_option (cover_on (words_in_line l) (map words_in_line ls)) (covers_from (map words_in_line ls))) ≤ length l + token_count ls
  line-weight [] ls h = omega (arith, h)
  line-weight (s ∷ []) ls h = omega (arith, h)
  line-weight (s ∷ t ∷ ts) ls h =
      let calls = call-weight (call_of (s ∷ t ∷ ts)) (filter_map call_of ls) (length ts) (λ c e. call-pins s t ts c e) in
      let covers = line-covers (s ∷ t ∷ ts) (map words_in_line ls) (covers_from (map words_in_line ls)) in
      omega (arith, h, calls, covers)

  body-weight : (body : List (List Spot)) → links_weight (filter_map (link_of ms) (filter_map call_of body)) + length (covers_from (map words_in_line body)) ≤ token_count body
  body-weight [] = omega arith
  body-weight (l ∷ ls) = line-weight l ls (body-weight ls)

pub light-modules : (ss : List Section) → IsLight (modules_of ss)
light-modules ss = record {
  placed = λ k m at. let from = map_found (module_of (plain_modules ss)) ss k m at in subst (λ (d : Module). length d.places ≡ length d.model.covers) from.1.1 (places-there from.0.body);
  light = λ k m at.
      let from = map_found (module_of (plain_modules ss)) ss k m at in
      subst (λ (d : Module). length d.model.covers + links_weight d.links ≤ d.tokens) from.1.1
      (let w = body-weight (plain_modules ss) from.0.body in omega (arith, w));
}

-- THE TREE
cover-count : (l : Link) (m : Module) (lead : Word) (outer i : ℕ) (x y : List Cover) →
    length ((copies_in lead outer i (input_pins l) ++ ((map (renamed_cover (name_in lead i)) m.model.covers ++ x) ++ copies_out lead outer i (output_pins l))) ++ y)
    ≡ ((length (input_pins l) + length (output_pins l)) + length m.model.covers) + (length x + length y)
cover-count l m lead outer i x y =
    let cone = length-append (copies_in lead outer i (input_pins l) ++ ((map (renamed_cover (name_in lead i)) m.model.covers ++ x) ++ copies_out lead outer i (output_pins l))) y in
    let ctwo = length-append (copies_in lead outer i (input_pins l)) ((map (renamed_cover (name_in lead i)) m.model.covers ++ x) ++ copies_out lead outer i (output_pins l)) in
    let cthree = length-append (map (renamed_cover (name_in lead i)) m.model.covers ++ x) (copies_out lead outer i (output_pins l)) in
    let cfour = length-append (map (renamed_cover (name_in lead i)) m.model.covers) x in
    let cfive = length-map (input_pins l) (λ (p : Pin). copy (name_in lead outer p.actual) (name_in lead i p.formal)) in
    let csix = length-map (output_pins l) (λ (p : Pin). copy (name_in lead i p.formal) (name_in lead outer p.actual)) in
    let cown = length-map m.model.covers (renamed_cover (name_in lead i)) in
    omega (arith, cone, ctwo, cthree, cfour, cfive, csix, cown)

place-count : (l : Link) (m : Module) (lead : Word) (outer i : ℕ) (a b : List Place) (x y : List Cover)
    → length a ≡ length x → length b ≡ length y → length m.places ≡ length m.model.covers
    → length ((map (λ (p : Pin). l.place) (input_pins l) ++ ((m.places ++ a) ++ map (λ (p : Pin). l.place) (output_pins l))) ++ b)
    ≡ length ((copies_in lead outer i (input_pins l) ++ ((map (renamed_cover (name_in lead i)) m.model.covers ++ x) ++ copies_out lead outer i (output_pins l))) ++ y)
place-count l m lead outer i a b x y ha hb hm =
    let one = length-append (map (λ (p : Pin). l.place) (input_pins l) ++ ((m.places ++ a) ++ map (λ (p : Pin). l.place) (output_pins l))) b in
    let two = length-append (map (λ (p : Pin). l.place) (input_pins l)) ((m.places ++ a) ++ map (λ (p : Pin). l.place) (output_pins l)) in
    let three = length-append (m.places ++ a) (map (λ (p : Pin). l.place) (output_pins l)) in
    let four = length-append m.places a in
    let five = length-map (input_pins l) (λ (p : Pin). l.place) in
    let six = length-map (output_pins l) (λ (p : Pin). l.place) in
    let covers = cover-count l m lead outer i x y in
    omega (arith, one, two, three, four, five, six, covers, ha, hb, hm)

parted : (ps : List Pin) → length (filter (λ (p : Pin). p.is_input) ps) + length (filter (λ (p : Pin). not p.is_input) ps) ≡ length ps
parted [] = refl
parted (p ∷ ps) = at p.is_input (parted ps)
  where
    at : (b : Bool) → length (filter (λ (q : Pin). q.is_input) ps) + length (filter (λ (q : Pin). not q.is_input) ps) ≡ length ps
        → length (if b then p ∷ filter (λ (q : Pin). q.is_input) ps else filter (λ (q : Pin). q.is_input) ps) + length (if not b then p ∷ filter (λ (q : Pin). not q.is_input) ps else filter (λ (q : Pin). not q.is_input) ps) ≡ suc (length ps)
    at true h = omega (arith, h)
    at false h = omega (arith, h)

module _ (modules : List Module) (lead : Word) (light : IsLight modules) where
  placed-all : (inside : List Link → Calls) → ((outer i : ℕ) (ls : List Link) → length (places_in (inside ls)) ≡ length (covers_in lead outer i (inside ls))) → (outer i : ℕ) (ls : List Link)
      → length (places_in (all_calls inside modules ls)) ≡ length (covers_in lead outer i (all_calls inside modules ls))
  placed-all inside h outer i [] = refl
  placed-all inside h outer i (l ∷ ls) = at (slice_get modules l.called) refl (λ j. placed-all inside h outer j ls)
    where
      at : (o : Option Module) → slice_get modules l.called ≡ o → ((j : ℕ) → length (places_in (all_calls inside modules ls)) ≡ length (covers_in lead outer j (all_calls inside modules ls)))
          → length (places_in (then_call l inside o (all_calls inside modules ls))) ≡ length (covers_in lead outer i (then_call l inside o (all_calls inside modules ls)))
      at None is rest = rest i
      at (Some m) is rest =
          place-count l m lead outer i (places_in (inside m.links)) (places_in (all_calls inside modules ls)) (covers_in lead i (i + 1) (inside m.links)) (covers_in lead outer (i + 1 + instance_count (inside m.links)) (all_calls inside modules ls))
          (h i (i + 1) m.links) (rest (i + 1 + instance_count (inside m.links))) (light.placed l.called m is)

  placed-calls : (n outer i : ℕ) (ls : List Link) → length (places_in (calls_in n modules ls)) ≡ length (covers_in lead outer i (calls_in n modules ls))
  placed-calls zero outer i ls = refl
  placed-calls (suc n) outer i ls = placed-all (calls_in n modules) (placed-calls n) outer i ls

  light-all : (inside : List Link → Calls) → ((outer i : ℕ) (ls : List Link) → length (covers_in lead outer i (inside ls)) ≤ tokens_in (inside ls) + links_weight ls) → (outer i : ℕ) (ls : List Link)
      → length (covers_in lead outer i (all_calls inside modules ls)) ≤ tokens_in (all_calls inside modules ls) + links_weight ls
  light-all inside h outer i [] = omega arith
  light-all inside h outer i (l ∷ ls) = at (slice_get modules l.called) refl (λ j. light-all inside h outer j ls)
    where
      at : (o : Option Module) → slice_get modules l.called ≡ o → ((j : ℕ) → length (covers_in lead outer j (all_calls inside modules ls)) ≤ tokens_in (all_calls inside modules ls) + links_weight ls)
          → length (covers_in lead outer i (then_call l inside o (all_calls inside modules ls))) ≤ tokens_in (then_call l inside o (all_calls inside modules ls)) + links_weight (l ∷ ls)
      at None is rest = let r = rest i in omega (arith, r)
      at (Some m) is rest =
          let count = cover-count l m lead outer i (covers_in lead i (i + 1) (inside m.links)) (covers_in lead outer (i + 1 + instance_count (inside m.links)) (all_calls inside modules ls)) in
          let pins = parted l.pins in
          let own = light.light l.called m is in
          let within = h i (i + 1) m.links in
          let later = rest (i + 1 + instance_count (inside m.links)) in
          omega (arith, count, pins, own, within, later)

  light-calls : (n outer i : ℕ) (ls : List Link) → length (covers_in lead outer i (calls_in n modules ls)) ≤ tokens_in (calls_in n modules ls) + links_weight ls
  light-calls zero outer i ls = omega arith
  light-calls (suc n) outer i ls = light-all (calls_in n modules) (light-calls n) outer i ls

  pub flat-placed : (top : Module) (f : Flattened) → slice_get modules 0 ≡ Some top → IsFlatOf lead modules top f → length f.places ≡ length f.model.covers
  flat-placed top f at made =
      let own = light.placed 0 top at in
      let calls = placed-calls (length modules) 0 1 top.links in
      let one = length-append top.places (places_in (whole modules top.links)) in
      let two = length-append top.model.covers (covers_in lead 0 1 (whole modules top.links)) in
      let p = ap (λ (ps : List Place). length ps) made.places in
      let c = ap (λ (cs : List Cover). length cs) (ap (λ m. m.covers) made.model) in
      omega (arith, own, calls, one, two, p, c)

  pub flat-light : (most : ℕ) (top : Module) (f : Flattened) → slice_get modules 0 ≡ Some top → IsFlatOf lead modules top f → size_fault most top (tree_of modules top) ≡ None → length f.model.covers ≤ most
  flat-light most top f at made small =
      let own = light.light 0 top at in
      let calls = light-calls (length modules) 0 1 top.links in
      let two = length-append top.model.covers (covers_in lead 0 1 (whole modules top.links)) in
      let c = ap (λ (cs : List Cover). length cs) (ap (λ m. m.covers) made.model) in
      let size = size-small most (top.tokens + tokens_in (whole modules top.links)) top small in
      omega (arith, own, calls, two, c, size)

-- THE FLAT MODEL OF LINKED MODULES
pub joined-placed : (ms as_ : List Module) (lead : Word) (f : Flattened) → as_ ≡ ms → 0 < length ms → IsLight ms → ((top : Module) → slice_get as_ 0 ≡ Some top → IsFlatOf lead as_ top f) → length f.places ≡ length f.model.covers
joined-placed ms as_ lead f same some light made =
    let top = stands_below ms 0 some in
    let at : slice_get as_ 0 ≡ Some top.0 = ap (λ (xs : List Module). slice_get xs 0) same ∙ top.1 in
    flat-placed as_ lead (subst IsLight (sym same) light) top.0 f at (made top.0 at)

pub joined-light : (most : ℕ) (ms as_ : List Module) (lead : Word) (f : Flattened) → as_ ≡ ms → 0 < length ms → IsLight ms → ((top : Module) → slice_get ms 0 ≡ Some top → size_fault most top (tree_of ms top) ≡ None)
    → ((top : Module) → slice_get as_ 0 ≡ Some top → IsFlatOf lead as_ top f) → length f.model.covers ≤ most
joined-light most ms as_ lead f same some light small made =
    let top = stands_below ms 0 some in
    let at : slice_get as_ 0 ≡ Some top.0 = ap (λ (xs : List Module). slice_get xs 0) same ∙ top.1 in
    flat-light as_ lead (subst IsLight (sym same) light) most top.0 f at (made top.0 at) (subst (λ (xs : List Module). size_fault most top.0 (tree_of xs top.0) ≡ None) (sym same) (small top.0 top.1))

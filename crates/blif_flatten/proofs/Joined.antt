-- What is found of a text, put together.
use Rattle.std.proofs.Common.{◌≡◌, ◌≢◌, ◌<◌, ◌≤◌, ◌+◌, ◌^◌, ℕ, zero, suc, List, [], ◌∷◌, ◌++◌, map, length, Bool, true, false, Option, None, Some, refl, sym, ap, ◌∙◌, subst, arith}
use Rattle.std.specs.Prelude.{All, Result, Ok, Err, OnOk, fold, not, nat_lt, slice_get, ◌↔◌, if◌then◌else◌}
use Rattle.std.specs.List.{cons_option, filter_map}
use Rattle.std.proofs.lemmas.List.{length-map}
use Rattle.std.proofs.lemmas.List.Elements.{All-head, All-tail}
use Rattle.std.proofs.lemmas.Bool.{le-ltb, lt-ltb, ltb-false}
use Rattle.rm_base.specs.Words.{Word}
use Rattle.rm_base.proofs.Public.{map_found, stands_below}
use Rattle.rm_model.specs.Ranks.{ranks_of}
use Rattle.rm_base.specs.declared.numbers.Place.{Place}
use Rattle.rm_model.specs.Value.{IsConsistent, IsRanked}
use Rattle.rm_model.specs.WellFormed.{IsWellFormed}
use Rattle.rm_model.specs.declared.parts.Model.{Model}
use Rattle.blif_lines.specs.Layout.{Spot, layout}
use Rattle.blif_lines.specs.Reading.{spot_of}
use Rattle.blif_lines.specs.declared.line.Token.{Token}
use Rattle.blif_flatten.specs.Hierarchy.{IsHierarchyValuation, read_by}
use Rattle.blif_format.specs.declared.refusal.ReadRefusal.{ReadRefusal}
use Rattle.blif_format.specs.declared.refusal.ReadRefusal.TheVariants.{Limit}
use Rattle.blif_format.specs.declared.refusal.FaultKind.TheVariants.{NoModel}
use Rattle.blif_format.specs.declared.refusal.Quantity.TheVariants.{Flat}
use Rattle.blif_format.specs.FirstFault.{fault, fault_if, or_else, first_unranked, limit_if}
use Rattle.blif_reader.specs.Meant.{IsRefusal}
use Rattle.blif_flatten.specs.declared.flattening.Flattened.{Flattened}
use Rattle.blif_flatten.specs.declared.modules.Link.{Link}
use Rattle.blif_flatten.specs.declared.modules.Module.{Module}
use Rattle.blif_flatten.specs.declared.sections.Section.{Section as TokenSection}
use Rattle.blif_flatten.specs.Sections.{Section, is_title, onto_last, plain_module, sections_of, sound_lines, token_count, with_line}
use Rattle.blif_flatten.specs.Calls.{Call, calls_of}
use Rattle.blif_flatten.specs.CallFaults.{calls_fault, drivers_fault, module_at, module_name, place_named, plain_modules, users_fault}
use Rattle.blif_flatten.specs.FirstFault.{first_fault, lead_in, rank_fault, sections_fault, size_fault, top_fault, tree_of}
use Rattle.blif_flatten.specs.Flat.{flat_model, flat_places}
use Rattle.blif_flatten.specs.Flattened.{IsFlatOf}
use Rattle.blif_flatten.specs.Instances.{Calls, all_calls, calls_in, instance_count, lead, free_number, link_of, link_with, module_of, modules_of, names_held, then_call, tokens_in, whole}
use Rattle.blif_flatten.specs.LineFaults.{empty_fault, head_fault, lines_fault}
use Rattle.blif_flatten.specs.Meant.{IsFlatModel}
use Rattle.blif_flatten.specs.Recursion.{links_in, links_of, recursion_fault}
use Rattle.blif_flatten.specs.Inner.Ranks.{AreKnownCalls}
use Rattle.blif_flatten.specs.Inner.Reading.{names_fault}
use Rattle.blif_flatten.specs.Inner.Sizes.{capped, module_total}
use Rattle.blif_flatten.specs.Inner.Tokens.{IsSectionWithin, lines_at, section_at, sections_at}
use Rattle.blif_flatten.proofs.Formals.{place-below}
use Rattle.blif_flatten.proofs.Refusals.{none-then, refused-first, refused-later, refused-same}
use Rattle.blif_flatten.proofs.Valuations.{flat-valuations}

-- CALLS THAT ARE KNOWN
link-below : (ms : List Module) (c : Call) (l : Link) → link_of ms c ≡ Some l → l.called < length ms
link-below ms c l e = at (place_named ms c.callee) refl (module_at ms (place_named ms c.callee)) refl
  where
    at : (o : Option ℕ) → place_named ms c.callee ≡ o → (p : Option Module) → module_at ms (place_named ms c.callee) ≡ p → l.called < length ms
    at None is p there = let bad : None ≡ Some l = ap (λ (q : Option ℕ). link_with c q (module_at ms (place_named ms c.callee))) (sym is) ∙ e in absurd cc
    at (Some k) is None there = let bad : None ≡ Some l = ap (λ (p : Option Module). link_with c (Some k) p) (sym there) ∙ (ap (λ (q : Option ℕ). link_with c q (module_at ms (place_named ms c.callee))) (sym is) ∙ e) in absurd cc
    at (Some k) is (Some m) there =
        let made : link_with c (Some k) (Some m) ≡ Some l = ap (λ (p : Option Module). link_with c (Some k) p) (sym there) ∙ (ap (λ (q : Option ℕ). link_with c q (module_at ms (place_named ms c.callee))) (sym is) ∙ e) in
        let called : k ≡ l.called = called-is made in
        let below : k < length (map module_name ms) = place-below (map module_name ms) c.callee k is in
        let same : length (map module_name ms) ≡ length ms = length-map ms module_name in
        omega (arith, called, below, same)
      where
        called-is : link_with c (Some k) (Some m) ≡ Some l → k ≡ l.called
        called-is made = ap (λ (o : Option Link). elim o as (λ _. ℕ) [ None ↦ 0 | Some x ↦ x.called ]) made

filtered : {A B : Type 0} (f : A → Option B) (xs : List A) (j : ℕ) (y : B) → slice_get (filter_map f xs) j ≡ Some y → (x : A) × (f x ≡ Some y)
filtered f [] zero y e = absurd cc
filtered f [] (suc j) y e = absurd cc
filtered {A = A} {B = B} f (x ∷ xs) j y e = at (f x) refl j e (λ i g. filtered f xs i y g)
  where
    at : (o : Option B) → f x ≡ o → (j : ℕ) → slice_get (cons_option o (filter_map f xs)) j ≡ Some y → ((i : ℕ) → slice_get (filter_map f xs) i ≡ Some y → (z : A) × (f z ≡ Some y)) → (z : A) × (f z ≡ Some y)
    at None is j e rest = rest j e
    at (Some b) is zero e rest = (x, is ∙ e)
    at (Some b) is (suc j) e rest = rest j e

pub known-calls : (ss : List Section) → AreKnownCalls (modules_of ss)
known-calls ss k j m l at link =
    let from = map_found (module_of (plain_modules ss)) ss k m at in
    let link2 : slice_get (filter_map (link_of (plain_modules ss)) (calls_of from.0)) j ≡ Some l = subst (λ (d : Module). slice_get d.links j ≡ Some l) (sym from.1.1) link in
    let call = filtered (link_of (plain_modules ss)) (calls_of from.0) j l link2 in
    let below : l.called < length (plain_modules ss) = link-below (plain_modules ss) call.0 l call.1 in
    let same : length (plain_modules ss) ≡ length ss = length-map ss plain_module in
    let other : length (modules_of ss) ≡ length ss = length-map ss (module_of (plain_modules ss)) in
    omega (arith, below, same, other)

-- a section has a token at least
positive-from : (text : Word) (ps : List Module) (ss : List TokenSection) → All (IsSectionWithin text) ss → (k : ℕ) (m : Module) → slice_get (map (module_of ps) (sections_at text ss)) k ≡ Some m → 1 ≤ m.tokens
positive-from text ps [] within zero m e = absurd cc
positive-from text ps [] within (suc k) m e = absurd cc
positive-from text ps (s ∷ ss) within zero m e =
    let same : module_of ps (section_at text s) ≡ m = cc in
    let some = (All-head (IsSectionWithin text) s ss within).some in
    subst (λ (d : Module). 1 ≤ d.tokens) same (title s.title (token_count (lines_at text s.body)) some)
  where
    title : (ts : List Token) (n : ℕ) → ts ≢ [] → 1 ≤ length (map (spot_of text) ts) + n
    title [] n some = absurd (some refl)
    title (t ∷ ts) n some = omega arith
positive-from text ps (s ∷ ss) within (suc k) m e = positive-from text ps ss (All-tail (IsSectionWithin text) s ss within) k m e

pub positive : (text : Word) (ss : List TokenSection) → All (IsSectionWithin text) ss → (k : ℕ) (m : Module) → slice_get (modules_of (sections_at text ss)) k ≡ Some m → 1 ≤ m.tokens
positive text ss within = positive-from text (plain_modules (sections_at text ss)) ss within

pub lead-is : (text : Word) (ss : List TokenSection) (s : TokenSection) → slice_get ss 0 ≡ Some s → lead_in (sections_at text ss) ≡ lead (free_number (names_held (plain_modules (sections_at text ss)) (section_at text s)))
lead-is text [] s e = absurd cc
lead-is text (t ∷ ts) s e = let same : t ≡ s = cc in ap (λ (x : TokenSection). lead (free_number (names_held (plain_modules (sections_at text (t ∷ ts))) (section_at text x)))) same

-- FAULTS IN ORDER
module _ (ss : List Section) (e : ReadRefusal) where
  pub calls-refused : IsRefusal e (calls_fault ss) → IsRefusal e (names_fault ss)
  calls-refused h = refused-first e (calls_fault ss) _ h

  pub recursion-refused : calls_fault ss ≡ None → IsRefusal e (recursion_fault (modules_of ss)) → IsRefusal e (names_fault ss)
  recursion-refused a h = refused-later e (calls_fault ss) _ a (refused-first e (recursion_fault (modules_of ss)) _ h)

  pub drivers-refused : calls_fault ss ≡ None → recursion_fault (modules_of ss) ≡ None → IsRefusal e (drivers_fault ss) → IsRefusal e (names_fault ss)
  drivers-refused a b h = refused-later e (calls_fault ss) _ a (refused-later e (recursion_fault (modules_of ss)) _ b (refused-first e (drivers_fault ss) _ h))

  pub users-refused : calls_fault ss ≡ None → recursion_fault (modules_of ss) ≡ None → drivers_fault ss ≡ None → IsRefusal e (users_fault ss) → IsRefusal e (names_fault ss)
  users-refused a b c h = refused-later e (calls_fault ss) _ a (refused-later e (recursion_fault (modules_of ss)) _ b (refused-later e (drivers_fault ss) _ c h))

pub names-clean : (ss : List Section) → calls_fault ss ≡ None → recursion_fault (modules_of ss) ≡ None → drivers_fault ss ≡ None → users_fault ss ≡ None → names_fault ss ≡ None
names-clean ss a b c d = none-then (calls_fault ss) _ a ∙ (none-then (recursion_fault (modules_of ss)) _ b ∙ (none-then (drivers_fault ss) _ c ∙ d))

regroup : (a b c d f : Option ReadRefusal) → or_else (or_else a (or_else b (or_else c d))) f ≡ or_else a (or_else b (or_else c (or_else d f)))
regroup (Some a) b c d f = refl
regroup None (Some b) c d f = refl
regroup None None (Some c) d f = refl
regroup None None None d f = refl

names-then-top : (most : ℕ) (ss : List Section) → or_else (names_fault ss) (top_fault most (lead_in ss) (modules_of ss)) ≡ sections_fault most ss
names-then-top most ss = regroup (calls_fault ss) (recursion_fault (modules_of ss)) (drivers_fault ss) (users_fault ss) (top_fault most (lead_in ss) (modules_of ss))

regroup-two : (a b f : Option ReadRefusal) → or_else (or_else a b) f ≡ or_else a (or_else b f)
regroup-two (Some a) b f = refl
regroup-two None b f = refl

pub first-is : (most : ℕ) (text : Word) → first_fault most text ≡ or_else (or_else (lines_fault (layout text) (sections_of text)) (names_fault (sections_of text))) (top_fault most (lead_in (sections_of text)) (modules_of (sections_of text)))
first-is most text =
    ap (or_else (lines_fault (layout text) (sections_of text))) (sym (names-then-top most (sections_of text)))
    ∙ sym (regroup-two (lines_fault (layout text) (sections_of text)) (names_fault (sections_of text)) (top_fault most (lead_in (sections_of text)) (modules_of (sections_of text))))

pub early-refused : (most : ℕ) (text : Word) (e : ReadRefusal) → IsRefusal e (or_else (lines_fault (layout text) (sections_of text)) (names_fault (sections_of text))) → IsRefusal e (first_fault most text)
early-refused most text e h = refused-same e _ (first_fault most text) (sym (first-is most text)) (refused-first e _ (top_fault most (lead_in (sections_of text)) (modules_of (sections_of text))) h)

module _ (most : ℕ) (text : Word) (lines : lines_fault (layout text) (sections_of text) ≡ None) (names : names_fault (sections_of text) ≡ None) where
  top-first : first_fault most text ≡ top_fault most (lead_in (sections_of text)) (modules_of (sections_of text))
  top-first = first-is most text ∙ none-then _ _ (none-then _ _ lines ∙ names)

  by-top : (top : Module) (others : List Module) → modules_of (sections_of text) ≡ top ∷ others → first_fault most text ≡ or_else (size_fault most top (tree_of (top ∷ others) top)) (rank_fault (lead_in (sections_of text)) top (tree_of (top ∷ others) top))
  by-top top others is = top-first ∙ ap (top_fault most (lead_in (sections_of text))) is

  pub size-refused : (top : Module) (others ms : List Module) (e : ReadRefusal) → modules_of (sections_of text) ≡ top ∷ others → ms ≡ modules_of (sections_of text) → IsRefusal e (size_fault most top (tree_of ms top)) → IsRefusal e (first_fault most text)
  size-refused top others ms e is same h =
      refused-same e _ (first_fault most text) (sym (by-top top others is))
      (refused-first e (size_fault most top (tree_of (top ∷ others) top)) _ (subst (λ (xs : List Module). IsRefusal e (size_fault most top (tree_of xs top))) (same ∙ is) h))

  module _ (top : Module) (others ms : List Module) (lead : Word) (flat : Flattened) (is : modules_of (sections_of text) ≡ top ∷ others) (same : ms ≡ modules_of (sections_of text)) (leads : lead ≡ lead_in (sections_of text))
      (size : size_fault most top (tree_of ms top) ≡ None) (made : IsFlatOf lead ms top flat) where
    rank-is : rank_fault (lead_in (sections_of text)) top (tree_of (top ∷ others) top) ≡ first_unranked flat.places (ranks_of flat.model)
    rank-is =
        ap (λ (xs : List Module). rank_fault (lead_in (sections_of text)) top (tree_of xs top)) (sym (same ∙ is))
        ∙ (ap (λ (w : Word). rank_fault w top (tree_of ms top)) (sym leads)
        ∙ (ap (λ (m : Model). first_unranked (flat_places top (tree_of ms top)) (ranks_of m)) (sym made.model)
        ∙ ap (λ (ps : List Place). first_unranked ps (ranks_of flat.model)) (sym made.places)))

    by-rank : first_fault most text ≡ first_unranked flat.places (ranks_of flat.model)
    by-rank = by-top top others is ∙ (none-then _ _ (ap (λ (xs : List Module). size_fault most top (tree_of xs top)) (sym (same ∙ is)) ∙ size) ∙ rank-is)

    pub rank-refused : (e : ReadRefusal) → IsRefusal e (first_unranked flat.places (ranks_of flat.model)) → IsRefusal e (first_fault most text)
    rank-refused e h = refused-same e _ (first_fault most text) (sym by-rank) h

    pub whole-flat : (m : Model) (n : ℕ) → m ≡ flat.model → n ≡ flat.instances → IsWellFormed flat.model → IsRanked flat.model → first_unranked flat.places (ranks_of flat.model) ≡ None → IsFlatModel most text m n
    whole-flat m n model count formed rank none =
        let model_is : m ≡ flat_model (lead_in (sections_of text)) top.model (tree_of (top ∷ others) top) =
        model ∙ (made.model ∙ (ap (λ (w : Word). flat_model w top.model (tree_of ms top)) leads ∙ ap (λ (xs : List Module). flat_model (lead_in (sections_of text)) top.model (tree_of xs top)) (same ∙ is))) in
        record {
          faultless = by-rank ∙ none;
          top = top;
          others = others;
          modules = is;
          model = model_is;
          count = count ∙ (made.instances ∙ ap (λ (xs : List Module). 1 + instance_count (tree_of xs top)) (same ∙ is));
          formed = subst IsWellFormed (sym model) formed;
          ranked = subst IsRanked (sym model) rank;
          valuations = λ v. subst (λ (d : Model). IsConsistent d v ↔ IsHierarchyValuation top.model (tree_of (top ∷ others) top) (read_by (lead_in (sections_of text)) v)) (sym model_is) (flat-valuations (lead_in (sections_of text)) top.model (tree_of (top ∷ others) top) v);
        }

-- THE NUMBER OF INSTANCES
module _ (modules : List Module) (some : (k : ℕ) (m : Module) → slice_get modules k ≡ Some m → 1 ≤ m.tokens) where
  few-all : (inside : List Link → Calls) → ((ls : List Link) → instance_count (inside ls) ≤ tokens_in (inside ls)) → (ls : List Link) → instance_count (all_calls inside modules ls) ≤ tokens_in (all_calls inside modules ls)
  few-all inside h [] = omega arith
  few-all inside h (l ∷ ls) = at (slice_get modules l.called) refl (few-all inside h ls)
    where
      at : (o : Option Module) → slice_get modules l.called ≡ o → instance_count (all_calls inside modules ls) ≤ tokens_in (all_calls inside modules ls) → instance_count (then_call l inside o (all_calls inside modules ls)) ≤ tokens_in (then_call l inside o (all_calls inside modules ls))
      at None is rest = rest
      at (Some m) is rest =
          let one = some l.called m is in
          let more = h m.links in
          omega (arith, one, more, rest)

  few-calls : (n : ℕ) (ls : List Link) → instance_count (calls_in n modules ls) ≤ tokens_in (calls_in n modules ls)
  few-calls zero ls = omega arith
  few-calls (suc n) ls = few-all (calls_in n modules) (few-calls n) ls

pub size-small : (most total : ℕ) (top : Module) → limit_if (nat_lt most total) Flat (most + 1) top.place ≡ None → total ≤ most
size-small most total top e = at (nat_lt most total) refl e
  where
    at : (b : Bool) → nat_lt most total ≡ b → limit_if b Flat (most + 1) top.place ≡ None → total ≤ most
    at true is f = absurd cc
    at false is f = ltb-false most total is

-- the top has a token too
pub few-instances : (most : ℕ) (modules : List Module) (top : Module) → ((k : ℕ) (m : Module) → slice_get modules k ≡ Some m → 1 ≤ m.tokens) → 1 ≤ top.tokens → size_fault most top (tree_of modules top) ≡ None → 1 + instance_count (whole modules top.links) ≤ most
few-instances most modules top some one e =
    let small : top.tokens + tokens_in (whole modules top.links) ≤ most = size-small most (top.tokens + tokens_in (whole modules top.links)) top e in
    let few : instance_count (whole modules top.links) ≤ tokens_in (whole modules top.links) = few-calls modules some (length modules) top.links in
    omega (arith, small, few, one)

-- THE SIZE
pub size-over : (most : ℕ) (modules : List Module) (top : Module) (count : ℕ) → count ≡ capped most (module_total modules top) → most < count → size_fault most top (tree_of modules top) ≡ Some (Limit Flat count top.place)
size-over most modules top count is over =
    let total : ℕ = module_total modules top in
    let more : most < total = omega (arith, is, over) in
    let at : count ≡ most + 1 = omega (arith, is, over) in
    ap (λ (b : Bool). limit_if b Flat (most + 1) top.place) (lt-ltb most total more) ∙ ap (λ (n : ℕ). Some (Limit Flat n top.place)) (sym at)

pub size-under : (most : ℕ) (modules : List Module) (top : Module) (count : ℕ) → count ≡ capped most (module_total modules top) → count ≤ most → size_fault most top (tree_of modules top) ≡ None
size-under most modules top count is under =
    let total : ℕ = module_total modules top in
    let less : total ≤ most = omega (arith, is, under) in
    ap (λ (b : Bool). limit_if b Flat (most + 1) top.place) (le-ltb most total less)

pub some-length : {A : Type 0} (xs : List A) → xs ≢ [] → 0 < length xs
some-length [] some = absurd (some refl)
some-length (x ∷ xs) some = omega arith

pub some-module : (ss : List Section) → ss ≢ [] → (top : Module) × ((others : List Module) × (modules_of ss ≡ top ∷ others))
some-module [] some = absurd (some refl)
some-module (s ∷ ss) some = (module_of (plain_modules (s ∷ ss)) s, (map (module_of (plain_modules (s ∷ ss))) ss, refl))

pub top-at : (ms : List Module) (top : Module) (others : List Module) → ms ≡ top ∷ others → slice_get ms 0 ≡ Some top
top-at ms top others is = ap (λ (xs : List Module). slice_get xs 0) is

-- 1 and the instances of the top's calls, by modules that are equal to these
pub joined-few : (most : ℕ) (ms as_ : List Module) → as_ ≡ ms → 0 < length ms → ((k : ℕ) (m : Module) → slice_get ms k ≡ Some m → 1 ≤ m.tokens) → ((top : Module) → slice_get ms 0 ≡ Some top → size_fault most top (tree_of ms top) ≡ None)
    → 1 + instance_count (whole as_ (links_of as_ 0)) ≤ most
joined-few most ms as_ same some each small =
    let top = stands_below ms 0 some in
    let links : links_of ms 0 ≡ top.0.links = ap links_in top.1 in
    let few : 1 + instance_count (whole ms top.0.links) ≤ most = few-instances most ms top.0 each (each 0 top.0 top.1) (small top.0 top.1) in
    subst (λ (xs : List Module). 1 + instance_count (whole xs (links_of xs 0)) ≤ most) (sym same) (subst (λ (ls : List Link). 1 + instance_count (whole ms ls) ≤ most) (sym links) few)

pub flat-few : (most : ℕ) (ms as_ : List Module) (lead : Word) (f : Flattened) → as_ ≡ ms → 0 < length ms → ((k : ℕ) (m : Module) → slice_get ms k ≡ Some m → 1 ≤ m.tokens) → ((top : Module) → slice_get ms 0 ≡ Some top → size_fault most top (tree_of ms top) ≡ None)
    → ((top : Module) → slice_get as_ 0 ≡ Some top → IsFlatOf lead as_ top f) → f.instances ≤ most
flat-few most ms as_ lead f same some each small made =
    let top = stands_below ms 0 some in
    let at : slice_get as_ 0 ≡ Some top.0 = ap (λ (xs : List Module). slice_get xs 0) same ∙ top.1 in
    let is = (made top.0 at).instances in
    let few : 1 + instance_count (whole as_ top.0.links) ≤ most = subst (λ (xs : List Module). 1 + instance_count (whole xs top.0.links) ≤ most) (sym same) (few-instances most ms top.0 each (each 0 top.0 top.1) (small top.0 top.1)) in
    omega (arith, is, few)

-- THERE IS A SECTION
both-none : (a b : Option ReadRefusal) → or_else a b ≡ None → (a ≡ None) × (b ≡ None)
both-none None b e = (refl, e)
both-none (Some x) b e = absurd cc

onto-some : (line : List Spot) (s : Section) (ss : List Section) → onto_last line (s ∷ ss) ≢ []
onto-some line s [] e = absurd cc
onto-some line s (t ∷ ss) e = absurd cc

with-some : (line : List Spot) (s : Section) (ss : List Section) → with_line (s ∷ ss) line ≢ []
with-some line s ss = at (is_title line) refl
  where
    at : (b : Bool) → is_title line ≡ b → with_line (s ∷ ss) line ≢ []
    at true e none = let bad : s ∷ (ss ++ record { title = line; body = [] } ∷ []) ≡ [] = rw e at none in absurd cc
    at false e none = onto-some line s ss (rw e at none)

kept-some : (s : Section) (ss : List Section) (ls : List (List Spot)) → fold with_line (s ∷ ss) ls ≢ []
kept-some s ss [] e = absurd cc
kept-some s ss (l ∷ ls) e = at (with_line (s ∷ ss) l) refl (λ x xs. kept-some x xs ls)
  where
    at : (xs : List Section) → with_line (s ∷ ss) l ≡ xs → ((x : Section) (ys : List Section) → fold with_line (x ∷ ys) ls ≢ []) → ⊥
    at [] is rest = with-some l s ss is
    at (x ∷ xs) is rest = rest x xs (ap (λ (ys : List Section). fold with_line ys ls) (sym is) ∙ e)

begun-some : (ls : List (List Spot)) → head_fault ls ≡ None → empty_fault ls ≡ None → fold with_line [] ls ≢ []
begun-some [] h f = absurd cc
begun-some ([] ∷ ls) h f = absurd cc
begun-some ((s ∷ ss) ∷ ls) h f = at (is_title (s ∷ ss)) refl h
  where
    at : (b : Bool) → is_title (s ∷ ss) ≡ b → fault_if (not (is_title (s ∷ ss))) NoModel s.place ≡ None → fold with_line [] ((s ∷ ss) ∷ ls) ≢ []
    at true e g none = kept-some (record { title = s ∷ ss; body = [] }) [] ls (sym (ap (λ (b : Bool). fold with_line (if b then record { title = s ∷ ss; body = [] } ∷ [] else []) ls) e) ∙ none)
    at false e g none = let bad : fault NoModel s.place ≡ None = sym (ap (λ (b : Bool). fault_if (not b) NoModel s.place) e) ∙ g in absurd cc

pub lines-some : (text : Word) → lines_fault (layout text) (sections_of text) ≡ None → sections_of text ≢ []
lines-some text e =
    let head = both-none (head_fault (sound_lines (layout text))) _ e in
    let rest = both-none _ _ head.1 in
    let last = both-none _ _ rest.1 in
    begun-some (sound_lines (layout text)) head.0 last.1

pub on-ok : {A E : Type 0} {P : Type 0} (r : Result A E) → P → OnOk r P
on-ok (Ok a) p = p
on-ok (Err e) p = tt

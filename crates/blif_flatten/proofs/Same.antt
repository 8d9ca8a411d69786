-- The names of the top stay.
use Rattle.std.proofs.Common.{◌≡◌, ◌+◌, ℕ, List, [], ◌∷◌, ◌++◌, map, Option, None, Some, refl, ap, ◌∙◌}
use Rattle.std.specs.Prelude.{IfOk, Result, Ok, Err, slice_get}
use Rattle.std.specs.Option.{option_map}
use Rattle.std.proofs.lemmas.List.{map-id}
use Rattle.rm_base.specs.Words.{Word}
use Rattle.rm_base.specs.declared.numbers.Place.{Place}
use Rattle.rm_model.specs.declared.parts.Timing.{Timing}
use Rattle.rm_model.specs.declared.parts.Cover.{Cover}
use Rattle.rm_model.specs.declared.parts.Latch.{Latch}
use Rattle.rm_model.specs.declared.parts.Model.{Model}
use Rattle.blif_flatten.specs.declared.modules.Link.{Link}
use Rattle.blif_flatten.specs.declared.modules.Module.{Module}
use Rattle.blif_flatten.specs.declared.flattening.Flattened.{Flattened}
use Rattle.blif_flatten.specs.declared.pieces.Pieces.{Pieces}
use Rattle.blif_flatten.specs.Instances.{Calls, instance_count, whole}
use Rattle.blif_flatten.specs.Flat.{renamed_cover, renamed_timing, renamed_latch, covers_in, latches_in, places_in, flat_model}
use Rattle.blif_flatten.specs.Inner.Walk.{no_pieces, joined, own_pieces, pieces_in}
use Rattle.blif_flatten.specs.Recursion.{links_in, links_of}
use Rattle.blif_flatten.specs.Flattened.{IsFlatOf}
use Rattle.blif_flatten.proofs.Walks.{same-pieces, pieces-are, ArePieces}

cover-same : (c : Cover) → renamed_cover (λ x. x) c ≡ c
cover-same c = ap (λ (xs : List Word). let r : Cover = record c { inputs = xs } in r) (map-id c.inputs)

covers-same : (cs : List Cover) → map (renamed_cover (λ x. x)) cs ≡ cs
covers-same [] = refl
covers-same (c ∷ cs) = ap (λ (d : Cover). d ∷ map (renamed_cover (λ x. x)) cs) (cover-same c) ∙ ap (λ (ds : List Cover). c ∷ ds) (covers-same cs)

option-same : (o : Option Word) → option_map (λ x. x) o ≡ o
option-same None = refl
option-same (Some x) = refl

timing-same : (o : Option Timing) → option_map (renamed_timing (λ x. x)) o ≡ o
timing-same None = refl
timing-same (Some t) = ap (λ (c : Option Word). let r : Timing = record t { control = c } in Some r) (option-same t.control)

latch-same : (l : Latch) → renamed_latch (λ x. x) l ≡ l
latch-same l = ap (λ (t : Option Timing). let r : Latch = record l { timing = t } in r) (timing-same l.timing)

latches-same : (ls : List Latch) → map (renamed_latch (λ x. x)) ls ≡ ls
latches-same [] = refl
latches-same (l ∷ ls) = ap (λ (k : Latch). k ∷ map (renamed_latch (λ x. x)) ls) (latch-same l) ∙ ap (λ (ks : List Latch). l ∷ ks) (latches-same ls)

-- the top's own pieces and those of its calls are the flat model's
pub record AreFlat (before : Word) (top : Module) (calls : Calls) (out : Pieces) : Type 0 where
  pub covers : out.covers ≡ top.model.covers ++ covers_in before 0 1 calls
  pub latches : out.latches ≡ top.model.latches ++ latches_in before 1 calls
  pub places : out.places ≡ top.places ++ places_in calls

pub are-flat : (before : Word) (top : Module) (calls : Calls) (out : Pieces) → out ≡ joined (own_pieces before 0 top) (pieces_in before 0 1 calls) → AreFlat before top calls out
are-flat before top calls out e =
    let parts : ArePieces before 0 1 calls = pieces-are before 0 1 calls in
    record {
      covers = ap (λ (p : Pieces). p.covers) e
          ∙ (ap (λ (cs : List Cover). cs ++ (pieces_in before 0 1 calls).covers) (covers-same top.model.covers) ∙ ap (λ (cs : List Cover). top.model.covers ++ cs) parts.covers);
      latches = ap (λ (p : Pieces). p.latches) e
          ∙ (ap (λ (ls : List Latch). ls ++ (pieces_in before 0 1 calls).latches) (latches-same top.model.latches) ∙ ap (λ (ls : List Latch). top.model.latches ++ ls) parts.latches);
      places = ap (λ (p : Pieces). p.places) e ∙ ap (λ (ps : List Place). top.places ++ ps) parts.places;
    }

pub is-flat : (before : Word) (top : Module) (calls : Calls) (m : Model) → m.name ≡ top.model.name → m.inputs ≡ top.model.inputs → m.clocks ≡ top.model.clocks → m.outputs ≡ top.model.outputs
    → m.latches ≡ top.model.latches ++ latches_in before 1 calls → m.covers ≡ top.model.covers ++ covers_in before 0 1 calls → m ≡ flat_model before top.model calls
is-flat before top calls m name inputs clocks outputs latches covers =
    ap (λ (x : Word). let r : Model = record m { name = x } in r) name
    ∙ (ap (λ (x : List Word). let r : Model = record { name = top.model.name; inputs = x; clocks = m.clocks; outputs = m.outputs; latches = m.latches; covers = m.covers } in r) inputs
    ∙ (ap (λ (x : List Word). let r : Model = record { name = top.model.name; inputs = top.model.inputs; clocks = x; outputs = m.outputs; latches = m.latches; covers = m.covers } in r) clocks
    ∙ (ap (λ (x : List Word). let r : Model = record { name = top.model.name; inputs = top.model.inputs; clocks = top.model.clocks; outputs = x; latches = m.latches; covers = m.covers } in r) outputs
    ∙ (ap (λ (x : List Latch). let r : Model = record { name = top.model.name; inputs = top.model.inputs; clocks = top.model.clocks; outputs = top.model.outputs; latches = x; covers = m.covers } in r) latches
    ∙ ap (λ (x : List Cover). let r : Model = record { name = top.model.name; inputs = top.model.inputs; clocks = top.model.clocks; outputs = top.model.outputs; latches = top.model.latches ++ latches_in before 1 calls; covers = x } in r) covers))))

pub first-pieces : (before : Word) (here top : Module) (cs : List Cover) (ls : List Latch) (ps : List Place) (start : Pieces) → here ≡ top → cs ≡ [] → ls ≡ [] → ps ≡ []
    → start ≡ joined (record { covers = cs; latches = ls; places = ps }) (own_pieces before 0 here) → start ≡ own_pieces before 0 top
first-pieces before here top cs ls ps start same e f g is =
    is ∙ (ap (λ (p : Pieces). joined p (own_pieces before 0 here)) (same-pieces (record { covers = cs; latches = ls; places = ps }) no_pieces e f g)
    ∙ ap (λ (m : Module). own_pieces before 0 m) same)

-- the parts of a result make the flat model
pub flat-from : {E : Type 0} (before : Word) (modules : List Module) (top here : Module) (start pieces : Pieces) (n : ℕ) (r : Result Flattened E)
    → slice_get modules 0 ≡ Some top → here ≡ top → start ≡ own_pieces before 0 top
    → pieces ≡ joined start (pieces_in before 0 1 (whole modules (links_of modules 0))) → n ≡ 1 + instance_count (whole modules (links_of modules 0))
    → IfOk r (λ f. f.model.name ≡ here.model.name) → IfOk r (λ f. f.model.inputs ≡ here.model.inputs) → IfOk r (λ f. f.model.clocks ≡ here.model.clocks) → IfOk r (λ f. f.model.outputs ≡ here.model.outputs)
    → IfOk r (λ f. f.model.latches ≡ pieces.latches) → IfOk r (λ f. f.model.covers ≡ pieces.covers) → IfOk r (λ f. f.places ≡ pieces.places) → IfOk r (λ f. f.instances ≡ n)
    → IfOk r (IsFlatOf before modules top)
flat-from before modules top here start pieces n (Err e) at same first walked count name inputs clocks outputs latches covers places instances = tt
flat-from before modules top here start pieces n (Ok f) at same first walked count name inputs clocks outputs latches covers places instances =
    let links : links_of modules 0 ≡ top.links = ap (λ (o : Option Module). links_in o) at in
    let all : pieces ≡ joined (own_pieces before 0 top) (pieces_in before 0 1 (whole modules top.links)) =
    walked ∙ (ap (λ (p : Pieces). joined p (pieces_in before 0 1 (whole modules (links_of modules 0)))) first
    ∙ ap (λ (ls : List Link). joined (own_pieces before 0 top) (pieces_in before 0 1 (whole modules ls))) links) in
    let flat : AreFlat before top (whole modules top.links) pieces = are-flat before top (whole modules top.links) pieces all in
    record {
      model = is-flat before top (whole modules top.links) f.model (name ∙ ap (λ (m : Module). m.model.name) same) (inputs ∙ ap (λ (m : Module). m.model.inputs) same)
          (clocks ∙ ap (λ (m : Module). m.model.clocks) same) (outputs ∙ ap (λ (m : Module). m.model.outputs) same) (latches ∙ flat.latches) (covers ∙ flat.covers);
      places = places ∙ flat.places;
      instances = instances ∙ (count ∙ ap (λ (ls : List Link). 1 + instance_count (whole modules ls)) links);
    }

use Rattle.std.proofs.Common.{Global, List, Some, Vec, ap, map, ℕ, ◌∙◌}
use Rattle.std.specs.List.{list_all}
use Rattle.rm_model.specs.Numbers.{place_of}
use Rattle.rm_model.specs.Value.{is_among, observed_names}
use Rattle.rm_model.specs.declared.parts.Cover.{Cover}
use Rattle.rm_model.proofs.NumberingLemmas.{inputs-driven, map-map, observed-all-driven}
use Rattle.rm_model.proofs.numbering.number_by.Goals as goal
use Rattle.rm_base.specs.Words.{Word}

pub cover_inputs-requires-clause-there : goal.cover_inputs-requires-clause-there
cover_inputs-requires-clause-there c =
    ap (λ (l : List Cover). list_all (λ (d : Cover). list_all (is_among c.args.table.now) d.inputs) l) c.items.ensures
    ∙ (ap (λ (t : List Word). list_all (λ (d : Cover). list_all (is_among t) d.inputs) c.args.model.now.covers) c.requires.table
    ∙ inputs-driven c.args.model.now c.requires.formed)

pub signals-requires-clause-there : goal.signals-requires-clause-there
signals-requires-clause-there c =
    ap (λ (l : List Word). list_all (is_among c.args.table.now) l) c.requires.observed
    ∙ (ap (λ (t : List Word). list_all (is_among t) (observed_names c.args.model.now)) c.requires.table
    ∙ observed-all-driven c.args.model.now c.requires.formed)

pub returns-clause-numbers : goal.returns-clause-numbers
returns-clause-numbers c = record {
  inputs_are =
      map-map (λ (v : Vec ℕ Global). v.items) (λ (ks : List ℕ). map (λ (k : ℕ). Some k) ks) c.in_ok-inputs.inputs.items
      ∙ (c.in_ok-inputs.ensures
      ∙ (ap (λ (l : List Cover). map (λ (d : Cover). map (place_of c.args.table.now) d.inputs) l) c.items.ensures
      ∙ ap (λ (t : List Word). map (λ (d : Cover). map (place_of t) d.inputs) c.args.model.now.covers) c.requires.table));
  observed_are =
      c.in_ok-observed.ensures
      ∙ (ap (λ (l : List Word). map (place_of c.args.table.now) l) c.requires.observed
      ∙ ap (λ (t : List Word). map (place_of t) (observed_names c.args.model.now)) c.requires.table);
}

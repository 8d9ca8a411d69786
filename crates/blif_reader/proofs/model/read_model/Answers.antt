use Rattle.std.proofs.Common.{◌≡◌, ◌≤◌, ◌*◌, length, arith, ◌∙◌, sym, ap, subst, Bool, true, not, Option, None, List, ℕ, Result, Ok, Err, IfOk, IfErr, OnOk}
use Rattle.rm_model.specs.Ranks.{first_without_rank}
use Rattle.rm_model.specs.Value.{source_names, observed_names, IsRanked}
use Rattle.rm_model.specs.WellFormed.{IsWellFormed}
use Rattle.rm_model.specs.declared.parts.Model.{Model}
use Rattle.rm_base.specs.declared.numbers.Place.{Place}
use Rattle.blif_lines.specs.Layout.{layout, lines_of}
use Rattle.blif_format.specs.Grammar.{Reads}
use Rattle.blif_format.specs.FirstFault.{Said, first_fault, said_by, nothing_said, lines_fault, fault_if, undriven_fault}
use Rattle.blif_format.specs.declared.refusal.FaultKind.TheVariants.{NoModel}
use Rattle.blif_format.specs.declared.refusal.ReadRefusal.{ReadRefusal}
use Rattle.rm_model.specs.Size.{covers_weight}
use Rattle.blif_reader.specs.Meant.{IsRefusal}
use Rattle.blif_reader.specs.Inner.Drafts.{all_covers, model_in}
use Rattle.blif_reader.specs.Inner.Ranked.{rank_found, fault_at}
use Rattle.blif_reader.proofs.ModelLaws.{reads, fault_is, began_is, is_formed, few_covers, small_weight, few_sources, few_observed}
use Rattle.blif_reader.proofs.model.read_model.Goals as goal

-- what holds of a model that is ranked
where_ok : (P : Model → Type 0) (r : Result Model ReadRefusal) (m : Model) → IfOk r (λ (n : Model). n ≡ m) → OnOk r (first_without_rank m ≡ None) → (first_without_rank m ≡ None → P m) → IfOk r P
where_ok P (Ok n) m same ranked h = subst P (sym same) (h ranked)
where_ok P (Err e) m same ranked h = tt

-- all that the lines say
abbrev said_in : List ℕ → Said
said_in text = said_by nothing_said (layout text)

pub rank_model-requires-clause-formed : goal.rank_model-requires-clause-formed
rank_model-requires-clause-formed c =
    let none : lines_fault nothing_said (layout c.args.text.now) ≡ None = c.in-Ok.ensures.faults ∙ ap (λ (t : Bool). fault_if (not t) NoModel (record { line = 1; column = 1 })) c.if-not-lines.false in
    let driven : undriven_fault (said_in c.args.text.now).uses ≡ None = sym (c.in-None.ensures (said_in c.args.text.now).uses c.in-Ok.ensures.ok.checked.tally) in
    let began : (said_in c.args.text.now).began ≡ true = began_is c.args.text.now (said_in c.args.text.now) c.in-Ok.lines.checker c.in-Ok.lines.draft c.in-Ok.lines.places.items c.in-Ok.ensures.ok c.if-not-lines.false in
    subst IsWellFormed (sym c.in-Ok-model_of.ensures) (is_formed c.args.text.now c.in-Ok.lines.checker c.in-Ok.lines.draft c.in-Ok.lines.places.items c.in-Ok.ensures.ok none driven began)

pub rank_model-requires-clause-few : goal.rank_model-requires-clause-few
rank_model-requires-clause-few c =
    let none : lines_fault nothing_said (layout c.args.text.now) ≡ None = c.in-Ok.ensures.faults ∙ ap (λ (t : Bool). fault_if (not t) NoModel (record { line = 1; column = 1 })) c.if-not-lines.false in
    let few : length (all_covers c.in-Ok.lines.draft) ≤ length c.args.text.now = few_covers c.args.text.now (said_in c.args.text.now) c.in-Ok.lines.draft c.in-Ok.ensures.ok.drafted in
    let sources : length (source_names c.in-Ok-model_of.model) ≤ 1024 = subst (λ (m : Model). length (source_names m) ≤ 1024) (sym c.in-Ok-model_of.ensures) (few_sources c.args.text.now (said_in c.args.text.now) c.in-Ok.lines.draft none c.in-Ok.ensures.ok.drafted) in
    let same : length c.in-Ok-model_of.model.covers ≡ length (all_covers c.in-Ok.lines.draft) = ap (λ (m : Model). length m.covers) c.in-Ok-model_of.ensures in
    omega (arith, c.requires)

pub returns-clause-fault : goal.returns-clause-fault
returns-clause-fault c =
    let none : lines_fault nothing_said (layout c.args.text.now) ≡ None = c.in-Ok.ensures.faults ∙ ap (λ (t : Bool). fault_if (not t) NoModel (record { line = 1; column = 1 })) c.if-not-lines.false in
    let driven : undriven_fault (said_in c.args.text.now).uses ≡ None = sym (c.in-None.ensures (said_in c.args.text.now).uses c.in-Ok.ensures.ok.checked.tally) in
    let first = fault_is c.args.text.now (said_in c.args.text.now) c.in-Ok.lines.checker c.in-Ok.lines.draft c.in-Ok.lines.places.items c.in-Ok.ensures.ok none driven in
    let found : rank_found c.in-Ok-model_of.model c.as_slice.result.now ≡ first_fault c.args.text.now =
    ap (λ (m : Model). rank_found m c.as_slice.result.now) c.in-Ok-model_of.ensures
    ∙ ap (λ (ps : List Place). rank_found (model_in c.in-Ok.lines.draft) ps) c.as_slice.ensures.value
    ∙ sym first in
    subst (λ (o : Option ReadRefusal). IfErr c.rank_model.result (λ (e : ReadRefusal). IsRefusal e o)) found c.rank_model.ensures.err

pub returns-clause-faultless : goal.returns-clause-faultless
returns-clause-faultless c =
    let none : lines_fault nothing_said (layout c.args.text.now) ≡ None = c.in-Ok.ensures.faults ∙ ap (λ (t : Bool). fault_if (not t) NoModel (record { line = 1; column = 1 })) c.if-not-lines.false in
    let driven : undriven_fault (said_in c.args.text.now).uses ≡ None = sym (c.in-None.ensures (said_in c.args.text.now).uses c.in-Ok.ensures.ok.checked.tally) in
    let first = fault_is c.args.text.now (said_in c.args.text.now) c.in-Ok.lines.checker c.in-Ok.lines.draft c.in-Ok.lines.places.items c.in-Ok.ensures.ok none driven in
    where_ok (λ (m : Model). first_fault c.args.text.now ≡ None) c.rank_model.result c.in-Ok-model_of.model c.rank_model.ensures.same c.rank_model.ensures.ok
    (λ without. first ∙ ap (fault_at c.in-Ok.lines.places.items) (ap first_without_rank (sym c.in-Ok-model_of.ensures) ∙ without))

pub returns-clause-model : goal.returns-clause-model
returns-clause-model c =
    let none : lines_fault nothing_said (layout c.args.text.now) ≡ None = c.in-Ok.ensures.faults ∙ ap (λ (t : Bool). fault_if (not t) NoModel (record { line = 1; column = 1 })) c.if-not-lines.false in
    let driven : undriven_fault (said_in c.args.text.now).uses ≡ None = sym (c.in-None.ensures (said_in c.args.text.now).uses c.in-Ok.ensures.ok.checked.tally) in
    let began : (said_in c.args.text.now).began ≡ true = began_is c.args.text.now (said_in c.args.text.now) c.in-Ok.lines.checker c.in-Ok.lines.draft c.in-Ok.lines.places.items c.in-Ok.ensures.ok c.if-not-lines.false in
    let formed : IsWellFormed (model_in c.in-Ok.lines.draft) = is_formed c.args.text.now c.in-Ok.lines.checker c.in-Ok.lines.draft c.in-Ok.lines.places.items c.in-Ok.ensures.ok none driven began in
    where_ok (Reads (lines_of c.args.text.now)) c.rank_model.result c.in-Ok-model_of.model c.rank_model.ensures.same c.rank_model.ensures.ok (λ without.
    let ranks : first_without_rank (model_in c.in-Ok.lines.draft) ≡ None = ap first_without_rank (sym c.in-Ok-model_of.ensures) ∙ without in
    let ranked : IsRanked (model_in c.in-Ok.lines.draft) = (c.ranks_exist.ensures.ranked (model_in c.in-Ok.lines.draft) formed.driven_once).1 ranks in
    subst (Reads (lines_of c.args.text.now)) (sym c.in-Ok-model_of.ensures) (reads c.args.text.now (said_in c.args.text.now) c.in-Ok.lines.draft c.in-Ok.ensures.ok.drafted began formed ranked))

pub returns-clause-sources : goal.returns-clause-sources
returns-clause-sources c =
    let none : lines_fault nothing_said (layout c.args.text.now) ≡ None = c.in-Ok.ensures.faults ∙ ap (λ (t : Bool). fault_if (not t) NoModel (record { line = 1; column = 1 })) c.if-not-lines.false in
    where_ok (λ (m : Model). length (source_names m) ≤ 1024) c.rank_model.result c.in-Ok-model_of.model c.rank_model.ensures.same c.rank_model.ensures.ok (λ without. subst (λ (m : Model). length (source_names m) ≤ 1024) (sym c.in-Ok-model_of.ensures) (few_sources c.args.text.now (said_in c.args.text.now) c.in-Ok.lines.draft none c.in-Ok.ensures.ok.drafted))

pub returns-clause-observed : goal.returns-clause-observed
returns-clause-observed c =
    let none : lines_fault nothing_said (layout c.args.text.now) ≡ None = c.in-Ok.ensures.faults ∙ ap (λ (t : Bool). fault_if (not t) NoModel (record { line = 1; column = 1 })) c.if-not-lines.false in
    where_ok (λ (m : Model). length (observed_names m) ≤ 4096) c.rank_model.result c.in-Ok-model_of.model c.rank_model.ensures.same c.rank_model.ensures.ok (λ without. subst (λ (m : Model). length (observed_names m) ≤ 4096) (sym c.in-Ok-model_of.ensures) (few_observed c.args.text.now (said_in c.args.text.now) c.in-Ok.lines.draft none c.in-Ok.ensures.ok.drafted))

pub returns-clause-covers : goal.returns-clause-covers
returns-clause-covers c = where_ok (λ (m : Model). length m.covers ≤ length c.args.text.now) c.rank_model.result c.in-Ok-model_of.model c.rank_model.ensures.same c.rank_model.ensures.ok (λ without. subst (λ (m : Model). length m.covers ≤ length c.args.text.now) (sym c.in-Ok-model_of.ensures) (few_covers c.args.text.now (said_in c.args.text.now) c.in-Ok.lines.draft c.in-Ok.ensures.ok.drafted))

pub returns-clause-weight : goal.returns-clause-weight
returns-clause-weight c = where_ok (λ (m : Model). covers_weight m.covers ≤ 2 * length c.args.text.now) c.rank_model.result c.in-Ok-model_of.model c.rank_model.ensures.same c.rank_model.ensures.ok (λ without. subst (λ (m : Model). covers_weight m.covers ≤ 2 * length c.args.text.now) (sym c.in-Ok-model_of.ensures) (small_weight c.args.text.now (said_in c.args.text.now) c.in-Ok.lines.draft c.in-Ok.ensures.ok.drafted))

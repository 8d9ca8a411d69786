use Rattle.std.proofs.Common.{◌≡◌, ◌<◌, [], ◌∷◌, ◌++◌, List, None, Option, ℕ, Some, ap, arith, length, map, sym, ◌∙◌}
use Rattle.std.specs.List.{zip}
use Rattle.rm_model.specs.Numbers.{place_of}
use Rattle.blif_reader.specs.declared.names.NameUse.{NameUse}
use Rattle.blif_reader.specs.Inner.Tally.{put_entry}
use Rattle.blif_reader.proofs.PairLaws.{replaced_entry, pair_names, place_bound, pushed_entry, new_name, not_some}
use Rattle.blif_reader.proofs.name_uses.NameUses.put.Goals as goal
use Rattle.rm_base.specs.Words.{Word}

-- where the name was found among the names of the pairs, it is among the names
found_in : (o : Option ℕ) (ns : List Word) (es : List NameUse) (pairs : List (Word × NameUse)) (x : Word) → length ns ≡ length es → zip ns es ≡ pairs → o ≡ place_of (map (λ (p : Word × NameUse). p.0) pairs) x → place_of ns x ≡ o
found_in o ns es pairs x same view e =
    ap (λ (l : List Word). place_of l x) (sym (pair_names ns es same))
    ∙ (ap (λ (l : List (Word × NameUse)). place_of (map (λ (p : Word × NameUse). p.0) l) x) view ∙ sym e)

pub index_mut-requires : goal.index_mut-requires
index_mut-requires c =
    let place : place_of c.self.inside.names c.args.name.now ≡ Some c.in-Some.place = found_in c.args.found c.self.inside.names c.self.inside.entries.items c.args.self.now c.args.name.now c.self.invariant.same c.self.view_is c.requires ∙ c.in-Some.is in
    let within : c.in-Some.place < length c.self.inside.names = place_bound c.self.inside.names c.args.name.now c.in-Some.place place in
    omega (arith, within, c.self.invariant.same)

pub returns-in-Some-clause-ok : goal.returns-in-Some-clause-ok
returns-in-Some-clause-ok c =
    let place : place_of c.self.inside.names c.args.name.now ≡ Some c.in-Some.place = found_in c.args.found c.self.inside.names c.self.inside.entries.items c.args.self.now c.args.name.now c.self.invariant.same c.self.view_is c.requires ∙ c.in-Some.is in
    replaced_entry c.self.inside.names c.self.inside.entries.items c.args.name.now c.in-Some.place c.args.entry c.self.invariant.same place
    ∙ ap (λ (l : List (Word × NameUse)). put_entry l c.args.name.now c.args.entry) c.self.view_is

pub push-requires : goal.push-requires
push-requires c =
    new_name c.self.inside.names c.args.name.now
    (found_in c.args.found c.self.inside.names c.self.inside.entries.items c.args.self.now c.args.name.now c.self.invariant.same c.self.view_is c.requires ∙ not_some c.args.found c.in_default.not-Some)

pub returns-clause-ok : goal.returns-clause-ok
returns-clause-ok c =
    let new : place_of c.self.inside.names c.args.name.now ≡ None = found_in c.args.found c.self.inside.names c.self.inside.entries.items c.args.self.now c.args.name.now c.self.invariant.same c.self.view_is c.requires ∙ not_some c.args.found c.in_default.not-Some in
    let items : c.push-2.new.self.items ≡ c.self.inside.entries.items ++ c.args.entry ∷ [] = c.in_ok-push-2.ensures.items ∙ ap (λ (l : List NameUse). l ++ c.args.entry ∷ []) c.reserve.ensures.items in
    ap (λ (l : List NameUse). zip c.push.new.self l) items
    ∙ (ap (λ (l : List Word). zip l (c.self.inside.entries.items ++ c.args.entry ∷ [])) c.in_ok-push.ensures.ok
    ∙ (pushed_entry c.self.inside.names c.self.inside.entries.items c.args.name.now c.args.entry c.self.invariant.same new
    ∙ ap (λ (l : List (Word × NameUse)). put_entry l c.args.name.now c.args.entry) c.self.view_is))

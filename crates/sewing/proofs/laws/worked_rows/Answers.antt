use Rattle.std.proofs.Common.{◌≡◌, true, [], List, refl, length}
use Rattle.std.specs.Prelude.{All, Contains}
use Rattle.std.specs.List.{AllByRecursion, list_all}
use Rattle.std.specs.Fmt.{digits}
use Rattle.std.proofs.lemmas.List.Elements.{All-from_recursion}
use Rattle.rm_model.specs.Value.{is_among, outputs_of}
use Rattle.rm_model.specs.WellFormed.{driven_names, is_distinct, is_token, names_of, used_names, IsWellFormedCover}
use Rattle.rm_model.specs.declared.parts.Literal.{Literal}
use Rattle.rm_model.specs.declared.parts.Cover.{Cover}
use Rattle.rm_model.specs.declared.parts.Model.{Model}
use Rattle.rm_base.specs.Words.{Word}
use Rattle.sewing.specs.Rows.{cover, first_covers, plain_model, second_covers, third_covers, whole}
use Rattle.sewing.specs.Windows.{IsWindow}
use Rattle.sewing.proofs.Members.{in-all}
use Rattle.rm_base.proofs.Public.{in_contains}
use Rattle.sewing.proofs.laws.worked_rows.Goals as goal

cover-formed : (inputs : List Word) (output : Word) (rows : List (List Literal)) → AllByRecursion (λ (r : List Literal). length r ≡ length inputs) rows → IsWellFormedCover (cover inputs output true rows)
cover-formed inputs output rows h = record { no_rows = λ e. refl; row_lengths = All-from_recursion (λ (r : List Literal). length r ≡ length inputs) rows h }

plain-window : (known inputs outputs : List Word) (covers : List Cover) → let m : Model = plain_model inputs outputs covers in
    list_all is_token (names_of m) ≡ true → is_distinct inputs ≡ true → is_distinct (driven_names m) ≡ true → is_distinct outputs ≡ true
    → list_all (is_among (driven_names m)) (used_names m) ≡ true → AllByRecursion IsWellFormedCover covers
    → list_all (is_among known) inputs ≡ true → list_all (is_among (outputs_of covers)) outputs ≡ true → IsWindow known m
plain-window known inputs outputs covers tokens once driven given used formed reads gives = record {
  formed = record {
    tokens = tokens;
    inputs_once = once;
    clocks_once = refl;
    driven_once = driven;
    outputs_once = given;
    all_driven = used;
    covers = All-from_recursion IsWellFormedCover covers formed;
    inits = All-from_recursion _ [] tt;
    controls = All-from_recursion _ [] tt;
  };
  no_clocks = refl;
  no_latches = refl;
  reads = reads;
  gives = gives;
}

own-covers : (cs : List Cover) → All (λ (c : Cover). Contains cs c) cs
own-covers cs = in-all (λ (c : Cover). Contains cs c) cs (λ c h. in_contains cs c h)

pub returns-clause-windowed : goal.returns-clause-windowed
returns-clause-windowed c = record {
  in_order = (
    plain-window _ _ _ first_covers refl refl refl refl refl (cover-formed _ _ _ (refl, tt), (cover-formed _ _ _ (refl, tt), tt)) refl refl,
    (
      plain-window _ _ _ second_covers refl refl refl refl refl (cover-formed _ _ _ (refl, (refl, tt)), (cover-formed _ _ _ (refl, tt), tt)) refl refl,
      (plain-window _ _ _ third_covers refl refl refl refl refl (cover-formed _ _ _ (refl, tt), (cover-formed _ _ _ (refl, tt), tt)) refl refl, tt),
    ),
  );
  taken = own-covers whole.covers;
  once = refl;
  observed = refl;
}

pub returns-clause-sewn : goal.returns-clause-sewn
unfolding digits
returns-clause-sewn c = refl

-- More entries of a text whose steps are taken so far.
use Rattle.std.proofs.Common.{◌≡◌, ◌≢◌, ℕ, suc, ◌+◌, ◌^◌, ◌<◌, ◌≤◌, true, List, [], ◌∷◌, ◌++◌, length, drop, get_or, Option, None, Some, IfOk, Result, Ok, Err, refl, ap, sym, subst, ◌∙◌, inl, inr, arith}
use Rattle.std.specs.Option.{option_map}
use Rattle.rm_base.proofs.Public.{drop_end, drop_stands, read_stands}
use Rattle.rm_model.specs.declared.parts.Model.{Model}
use Rattle.wire_edit.specs.declared.steps.Step.{Step}
use Rattle.journal_text.specs.declared.record.Record.{Record}
use Rattle.journal_text.specs.declared.record.Record.TheVariants as kept
use Rattle.journal_text.specs.declared.record.Entry.{Entry}
use Rattle.journal_text.specs.declared.record.Entry.TheVariants as entry
use Rattle.journal_text.specs.Streams.{comes}
use Rattle.journal_text.specs.Text.{IsWritable}
use Rattle.journal_text.specs.declared.reader.Awaited.{Awaited}
use Rattle.journal_text.specs.declared.reader.Awaited.TheVariants as awaited
use Rattle.journal_reading.specs.Laws.{CutsAgree, PlacesTell}
use Rattle.journal_reading.specs.Streams.{Gathers, GivesAll, GivesNone, NextGives, Pending, pushed as pushed_on}
use Rattle.journal_reading.specs.declared.faults.JournalFault.{JournalFault}
use Rattle.accepted_steps.specs.Inner.Taking.{EndsAt, EndsSo, EntrySays, IsTaking, MayTake, PieceSays, RecordSays, StandsIn, TakenAt, TakesAll, TakesOne, TakingSome}
use Rattle.accepted_steps.specs.declared.stop.Ended.{Ended}
use Rattle.accepted_steps.specs.declared.stop.Ended.TheVariants.{AtFault, AtVerdict}
use Rattle.accepted_steps.specs.declared.taking.Taking.{Taking}
use Rattle.accepted_steps.proofs.Leading.{led_in}
use Rattle.accepted_steps.proofs.SoFar.{entered, entry_ends, fault_so, may_take, pushed, says_of}

-- ONE MORE ENTRY
header_next : (m : Model) (b : ℕ) (rs : List Record) (a : Awaited) (t : Taking) (budget : ℕ) → TakenAt m b rs a t → comes a (entry.Header budget) ≡ true → (rs ≡ []) × (t.steps.items ≡ [])
header_next m b rs awaited.Header t budget is e = (is.0, is.1.1)
header_next m b rs awaited.Record t budget is e = cc
header_next m b rs awaited.Nothing t budget is e = cc

pub header_none : (m : Model) (t : Taking) (budget : ℕ) → MayTake m t (entry.Header budget) → t.steps.items ≡ []
header_none m t budget (b, (rs, (a, (is, (e, l))))) = (header_next m b rs a t budget is e).1

pub header_taken : (m : Model) (old new : Taking) (budget : ℕ) → TakenAt m budget [] awaited.Record new → TakesOne m old (entry.Header budget) new None
header_taken m old new budget is = λ b rs a at e l.
    let none : rs ≡ [] = (header_next m b rs a old budget at e).0 in
    subst (λ (xs : List Record). TakenAt m budget (xs ++ []) awaited.Record new) (sym none) is

record_next : (m : Model) (b : ℕ) (rs : List Record) (a : Awaited) (t : Taking) (r : Record) → TakenAt m b rs a t → comes a (entry.Record r) ≡ true → StandsIn m b rs t.steps.items t.replay
record_next m b rs awaited.Header t r is e = cc
record_next m b rs awaited.Record t r is e = is
record_next m b rs awaited.Nothing t r is e = cc

pub record_stands : (m : Model) (t : Taking) (r : Record) → MayTake m t (entry.Record r) → (b : ℕ) × ((rs : List Record) × StandsIn m b rs t.steps.items t.replay)
record_stands m t r (b, (rs, (a, (is, (e, l))))) = (b, (rs, record_next m b rs a t r is e))

record_case : (m : Model) (b : ℕ) (rs : List Record) (new : Taking) (r : Record) (o : Option Ended) → RecordSays m b rs r new.replay new.steps.items o → EntrySays m b rs (entry.Record r) new o
record_case m b rs new r None says = says
record_case m b rs new r (Some ended) says = says

record_taken : (m : Model) (old new : Taking) (r : Record) (o : Option Ended) → ((b : ℕ) (rs : List Record) → StandsIn m b rs old.steps.items old.replay → length rs ≤ 2 ^ 62 → RecordSays m b rs r new.replay new.steps.items o) → TakesOne m old (entry.Record r) new o
record_taken m old new r o says = λ b rs a at e l. record_case m b rs new r o (says b rs (record_next m b rs a old r at e) l)

pub record_says : {E : Type 0} (m : Model) (old new : Taking) (r : Record) (answer : Result (Option Ended) E) → ((n : Model) (b : ℕ) (rs : List Record) → StandsIn n b rs old.steps.items old.replay → length rs ≤ 2 ^ 62 → IfOk answer (λ o. RecordSays n b rs r new.replay new.steps.items o)) → IfOk answer (λ o. TakesOne m old (entry.Record r) new o)
record_says m old new r (Ok o) says = record_taken m old new r o (says m)
record_says m old new r (Err x) says = tt

end_next : (m : Model) (b : ℕ) (rs : List Record) (a : Awaited) (t : Taking) → TakenAt m b rs a t → comes a entry.End ≡ true → StandsIn m b rs t.steps.items t.replay
end_next m b rs awaited.Header t is e = cc
end_next m b rs awaited.Record t is e = is
end_next m b rs awaited.Nothing t is e = cc

pub end_taken : (m : Model) (t : Taking) → TakesOne m t entry.End t (Some AtVerdict)
end_taken m t = λ b rs a at e l. led_in m b rs t.steps.items t.replay (end_next m b rs a t at e)

-- OF WHATEVER TEXT THE ENTRIES COME, ITS STEPS ARE TAKEN SO FAR, AND THESE ARE STILL TO COME
abbrev pub Onward : Model → Taking → List Entry → Taking → List Entry → Type 0
Onward m first all t left =
    (text : List ℕ) (old new : Pending) → IsTaking m text old first → GivesAll old all new → (mid : Pending) × (IsTaking m text mid t × GivesAll mid left new)

onward_first : (m : Model) (t : Taking) (all : List Entry) → Onward m t all t all
onward_first m t all = λ text old new j g. (old, (j, g))

onward_more : CutsAgree → PlacesTell → (m : Model) (first t after : Taking) (all left : List Entry) (e : Entry) → Onward m first all t (e ∷ left) → TakesOne m t e after None → Onward m first all after left
onward_more cuts places m first t after all left e on says = λ text old new j g.
    let at = on text old new j g in
    (at.1.1.0, (entered cuts m text at.0 at.1.1.0 t after e at.1.0 at.1.1.1.0 (says_of cuts places m text at.0 at.1.1.0 t after e None at.1.0 at.1.1.1.0 says), at.1.1.1.1))

onward_end : CutsAgree → PlacesTell → (m : Model) (first t after : Taking) (all left : List Entry) (e : Entry) (ended : Ended) → Onward m first all t (e ∷ left) → TakesOne m t e after (Some ended) → TakesAll m first all after (Some ended)
onward_end cuts places m first t after all left e ended on says = λ text old new j g.
    let at = on text old new j g in
    λ more. entry_ends cuts places m text more at.0 at.1.1.0 t e ended after.steps.items at.1.0 at.1.1.1.0 (says_of cuts places m text at.0 at.1.1.0 t after e (Some ended) at.1.0 at.1.1.1.0 says)

onward_all : (m : Model) (first t : Taking) (all : List Entry) → Onward m first all t [] → TakesAll m first all t None
onward_all m first t all on = λ text old new j g.
    let at = on text old new j g in
    subst (λ (p : Pending). IsTaking m text p t) (sym at.1.1) at.1.0

-- some text of which they come
some_first : CutsAgree → PlacesTell → (m : Model) (t : Taking) (left : List Entry) (e : Entry) → TakingSome m t (e ∷ left) → MayTake m t e
some_first cuts places m t left e (text, (old, (new, (j, (mid, (next, rest)))))) = may_take cuts places m text old mid t e j next

some_writable : CutsAgree → (m : Model) (t : Taking) (left : List Entry) (e : Entry) → TakingSome m t (e ∷ left) → IsWritable e
some_writable cuts m t left e (text, (old, (new, (j, (mid, (next, rest)))))) = (cuts.next old mid e next).writable

some_more : CutsAgree → PlacesTell → (m : Model) (t after : Taking) (left : List Entry) (e : Entry) → TakingSome m t (e ∷ left) → TakesOne m t e after None → TakingSome m after left
some_more cuts places m t after left e (text, (old, (new, (j, (mid, (next, rest)))))) says = (text, (mid, (new, (entered cuts m text old mid t after e j next (says_of cuts places m text old mid t after e None j next says), rest))))

-- THE ENTRIES FROM A PLACE ON
left_at : (all : List Entry) (n : ℕ) (e : Entry) → n < length all → e ≡ get_or all n e → drop n all ≡ e ∷ drop (n + 1) all
left_at all n e l is =
    let next : suc n ≡ n + 1 = omega arith in
    drop_stands all n e (read_stands all n e l is) ∙ ap (λ (k : ℕ). e ∷ drop k all) next

-- how far they are taken
pub record AreTakenTo (m : Model) (first : Taking) (all : List Entry) (t : Taking) (left : List Entry) : Type 0 where
  pub on : Onward m first all t left
  pub some : TakingSome m t left

pub to_first : (m : Model) (t : Taking) (all : List Entry) → TakingSome m t all → AreTakenTo m t all t all
to_first m t all some = record { on = onward_first m t all; some = some }

to_at : (m : Model) (first t : Taking) (all : List Entry) (n : ℕ) (e : Entry) → n < length all → e ≡ get_or all n e → AreTakenTo m first all t (drop n all) → AreTakenTo m first all t (e ∷ drop (n + 1) all)
to_at m first t all n e l is to = subst (AreTakenTo m first all t) (left_at all n e l is) to

pub to_writable : CutsAgree → (m : Model) (first t : Taking) (all : List Entry) (n : ℕ) (e : Entry) → n < length all → e ≡ get_or all n e → AreTakenTo m first all t (drop n all) → IsWritable e
to_writable cuts m first t all n e l is to = some_writable cuts m t (drop (n + 1) all) e (to_at m first t all n e l is to).some

pub to_take : CutsAgree → PlacesTell → (m : Model) (first t : Taking) (all : List Entry) (n : ℕ) (e : Entry) → n < length all → e ≡ get_or all n e → AreTakenTo m first all t (drop n all) → MayTake m t e
to_take cuts places m first t all n e l is to = some_first cuts places m t (drop (n + 1) all) e (to_at m first t all n e l is to).some

pub to_more : CutsAgree → PlacesTell → (m : Model) (first t after : Taking) (all : List Entry) (n : ℕ) (e : Entry) (o : Option Ended) → n < length all → e ≡ get_or all n e → AreTakenTo m first all t (drop n all) → o ≡ None → TakesOne m t e after o → AreTakenTo m first all after (drop (n + 1) all)
to_more cuts places m first t after all n e o l is to none says =
    let at = to_at m first t all n e l is to in
    let so = subst (TakesOne m t e after) none says in
    record {
      on = onward_more cuts places m first t after all (drop (n + 1) all) e at.on so;
      some = some_more cuts places m t after (drop (n + 1) all) e at.some so;
    }

pub to_end : CutsAgree → PlacesTell → (m : Model) (first t after : Taking) (all : List Entry) (n : ℕ) (e : Entry) (o : Option Ended) (ended : Ended) → n < length all → e ≡ get_or all n e → AreTakenTo m first all t (drop n all) → o ≡ Some ended → TakesOne m t e after o → TakesAll m first all after (Some ended)
to_end cuts places m first t after all n e o ended l is to some says =
    onward_end cuts places m first t after all (drop (n + 1) all) e ended (to_at m first t all n e l is to).on (subst (TakesOne m t e after) some says)

pub to_all : (m : Model) (first t : Taking) (all : List Entry) (n : ℕ) → length all ≤ n → AreTakenTo m first all t (drop n all) → TakesAll m first all t None
to_all m first t all n l to = onward_all m first t all (subst (AreTakenTo m first all t) (drop_end all n l) to).on

-- WHAT IS GATHERED OF ONE MORE PIECE
gathered : (old new : Pending) (es : List Entry) (o : Option JournalFault) → Gathers old es o new → GivesAll old es new
gathered old new es None g = g.0
gathered old new es (Some f) g = g.0

fault_says : CutsAgree → PlacesTell → (m : Model) (text : List ℕ) (old new : Pending) (t : Taking) (es : List Entry) (o : Option JournalFault) → Gathers old es o new → IsTaking m text new t → PieceSays m text new t (option_map (λ f. AtFault f) o)
fault_says cuts places m text old new t es None g j = (j, g.1)
fault_says cuts places m text old new t es (Some f) g j = fault_so cuts places m text new new t f j g.1.1 g.1.0

-- a piece is pushed, and these entries are gathered
pub record IsGathered (old mid new : Pending) (piece : List ℕ) (es shown : List Entry) (o : Option JournalFault) : Type 0 where
  pub pushes : mid ≡ pushed_on old piece
  pub gathers : Gathers mid es o new
  pub same : shown ≡ es

gives_shown : (old mid new : Pending) (piece : List ℕ) (es shown : List Entry) (o : Option JournalFault) → IsGathered old mid new piece es shown o → GivesAll mid shown new
gives_shown old mid new piece es shown o g = subst (λ (xs : List Entry). GivesAll mid xs new) (sym g.same) (gathered mid new es o g.gathers)

pub piece_some : CutsAgree → (m : Model) (text piece : List ℕ) (old mid new : Pending) (t : Taking) (es shown : List Entry) (o : Option JournalFault) → IsGathered old mid new piece es shown o → IsTaking m text old t → length text + length piece ≤ 2 ^ 62 → TakingSome m t shown
piece_some cuts m text piece old mid new t es shown o g j l = (text ++ piece, (mid, (new, (pushed cuts m text piece old mid t l g.pushes j, gives_shown old mid new piece es shown o g))))

pub piece_ends : CutsAgree → (m : Model) (text piece : List ℕ) (old mid new : Pending) (t after : Taking) (es shown : List Entry) (o : Option JournalFault) (end : Option Ended) (ended : Ended) → IsGathered old mid new piece es shown o → IsTaking m text old t → length text + length piece ≤ 2 ^ 62 → end ≡ Some ended → TakesAll m t shown after end → EndsSo m (text ++ piece) after.steps.items ended
piece_ends cuts m text piece old mid new t after es shown o end ended g j l e says =
    let so : TakesAll m t shown after (Some ended) = subst (TakesAll m t shown after) e says in
    so (text ++ piece) mid new (pushed cuts m text piece old mid t l g.pushes j) (gives_shown old mid new piece es shown o g)

pub piece_goes : CutsAgree → PlacesTell → (m : Model) (text piece : List ℕ) (old mid new : Pending) (t after : Taking) (es shown : List Entry) (o : Option JournalFault) (end told : Option Ended) → IsGathered old mid new piece es shown o → IsTaking m text old t → length text + length piece ≤ 2 ^ 62 → end ≡ None → TakesAll m t shown after end → told ≡ option_map (λ f. AtFault f) o → PieceSays m (text ++ piece) new after told
piece_goes cuts places m text piece old mid new t after es shown o end told g j l e says is =
    let so : TakesAll m t shown after None = subst (TakesAll m t shown after) e says in
    let taking : IsTaking m (text ++ piece) new after = so (text ++ piece) mid new (pushed cuts m text piece old mid t l g.pushes j) (gives_shown old mid new piece es shown o g) in
    subst (PieceSays m (text ++ piece) new after) (sym is) (fault_says cuts places m (text ++ piece) mid new after es o g.gathers taking)

use Rattle.std.proofs.Common.{rules, ◌≡◌, ◌∙◌, sym, ap, map, string_bytes, Global, List, ◌∷◌, Option, Some, None}
use Rattle.std.specs.Prelude.{IfOk, IfErr, String, option_and_then, option_map}
use Rattle.std.specs.Option.{ok_or}
use Rattle.word_reading.specs.Commands.{HasNamesApart, HasSettingsInRange, asked_of}
use Rattle.word_reading.specs.Inner.Commands.{command_in}
use Rattle.clap.specs.Walk.{Row, Text, rows_of}
use Rattle.clap.specs.Matches.{found_of}
use Rattle.word_reading.specs.Inner.Judged.{accepted}
use Rattle.word_reading.specs.Words.{Asked, asked}
use Rattle.word_reading.specs.declared.command.Command.{Command}
use Rattle.word_reading.specs.declared.command.UsageError.{UsageError}
use Rattle.word_reading.specs.declared.command.UsageError.TheVariants.{Refused}
use Rattle.std.proofs.lemmas.Result.{IfOk-weaker}
use Rattle.word_reading.proofs.Agrees.{agrees}
use Rattle.word_reading.proofs.Ranges.{asked_is_sound}
use Rattle.word_reading.proofs.reading.read_words.Goals as goal

asked_split : {Z : Type 0} (all : List (String Z)) (w : String Z) (rest : List (String Z)) → all ≡ w ∷ rest → asked (map string_bytes all) ≡ asked (string_bytes w ∷ map string_bytes rest)
asked_split all w rest e = ap (λ ws. asked (map string_bytes ws)) e

asked_as : (w : Text) (ws : List Text) {rows : Option (List Row)} {o : Option Asked} → accepted ws ≡ rows → o ≡ option_and_then (command_in w) rows → asked (w ∷ ws) ≡ o
asked_as w ws e k = sym (agrees w ws) ∙ ap (option_and_then (command_in w)) e ∙ sym k

when_read : (o : Option Asked) (r : Option Command) → o ≡ option_map asked_of r → IfOk (ok_or r Refused) (λ c. o ≡ Some (asked_of c))
when_read o (Some c) e = e
when_read o None e = tt

when_refused : (o : Option Asked) (r : Option Command) → o ≡ option_map asked_of r → IfErr (ok_or r Refused) (λ (e : UsageError). e ≡ Refused → o ≡ None)
when_refused o (Some c) e = tt
when_refused o None e = λ r. e

split : (c : goal.Joined-matches) → c.args.words.now ≡ c.in-Some.word.now ∷ c.in-Some.rest.now
split c = search (c.in-Some.ensures.cases, rules)

read : (c : goal.Joined-matches) → asked (map (string_bytes {Z = Global}) c.args.words.now) ≡ option_map asked_of c.command.result
read c = asked_split c.args.words.now c.in-Some.word.now c.in-Some.rest.now (split c)
    ∙ asked_as (string_bytes c.in-Some.word.now) (map string_bytes c.in-Some.rest.now) c.in-Ok.ensures.ok (c.command.ensures ∙ ap (λ (w : Text). command_in w (rows_of (found_of c.in-Ok.matches))) c.as_str.ensures.value)

pub returns-in-Ok-clause-ok : goal.returns-in-Ok-clause-ok
returns-in-Ok-clause-ok c = rw c.ok_or.ensures.value (when_read _ c.command.result (read c))

pub returns-in-Ok-clause-refused : goal.returns-in-Ok-clause-refused
returns-in-Ok-clause-refused c = rw c.ok_or.ensures.value (when_refused _ c.command.result (read c))

pub returns-in-Ok-clause-apart : goal.returns-in-Ok-clause-apart
returns-in-Ok-clause-apart c = IfOk-weaker c.ok_or.result _ (λ r. HasNamesApart (asked_of r)) (λ r e. (asked_is_sound (map string_bytes c.args.words.now) (asked_of r) e).0) (returns-in-Ok-clause-ok c)

pub returns-in-Ok-clause-ranges : goal.returns-in-Ok-clause-ranges
returns-in-Ok-clause-ranges c = IfOk-weaker c.ok_or.result _ (λ r. HasSettingsInRange (asked_of r)) (λ r e. (asked_is_sound (map string_bytes c.args.words.now) (asked_of r) e).1) (returns-in-Ok-clause-ok c)

pub returns-in-Err-clause-refused : goal.returns-in-Err-clause-refused
returns-in-Err-clause-refused c = λ is.
    asked_split c.args.words.now c.in-Some.word.now c.in-Some.rest.now (search (c.in-Some.ensures.cases, rules))
    ∙ sym (agrees (string_bytes c.in-Some.word.now) (map string_bytes c.in-Some.rest.now)) ∙ ap (option_and_then (command_in (string_bytes c.in-Some.word.now))) (c.in-Err.ensures.refused is)

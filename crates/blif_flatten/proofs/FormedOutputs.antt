-- Lines without a fault list each output once.
use Rattle.std.proofs.Common.{◌≡◌, ◌≤◌, ◌+◌, ℕ, List, [], ◌∷◌, ◌++◌, map, Bool, true, false, Option, None, Some, refl, sym, ap, ◌∙◌, subst, arith}
use Rattle.std.specs.Prelude.{codes, fold, nat_lt, length, if◌then◌else◌}
use Rattle.std.specs.List.{filter, flat_map}
use Rattle.std.proofs.lemmas.List.{append_assoc, append-nil}
use Rattle.rm_base.specs.Numbers.{one_if}
use Rattle.rm_base.specs.Words.{Word}
use Rattle.rm_model.specs.Words.{is_word}
use Rattle.rm_model.specs.Value.{is_among}
use Rattle.rm_model.proofs.Public.{same_word}
use Rattle.blif_lines.specs.Layout.{Spot}
use Rattle.blif_format.specs.declared.words.Command.{Command}
use Rattle.blif_format.specs.declared.words.Command.TheVariants.{Model, Inputs, Outputs, Clock, Names, Latch, End}
use Rattle.blif_format.specs.declared.words.Role.TheVariants.{Input, ClockInput, Output}
use Rattle.blif_format.specs.declared.words.Part.{Part}
use Rattle.blif_format.specs.declared.words.Part.TheVariants.{Name, Extra}
use Rattle.blif_format.specs.declared.refusal.FaultKind.TheVariants.{DoubleOutput, MissingWord}
use Rattle.blif_format.specs.Text.{Line}
use Rattle.blif_format.specs.Grammar.{begins_with, words_after, words_of}
use Rattle.blif_format.specs.Uses.{all_are, command_of, in_parts, latch_parts, least_words, names_parts, parts_of}
use Rattle.blif_format.specs.FirstFault.{fault_if}
use Rattle.blif_flatten.specs.Sections.{words_in_line}
use Rattle.blif_flatten.specs.LineFaults.{BodySaid, after_line, body_fault, command_fault, line_fault, outputs_after, outputs_with, part_fault, parts_fault}
use Rattle.blif_flatten.proofs.FormedCounts.{times, times-append, times-none}
use Rattle.blif_flatten.proofs.FormedLines.{runs, tests, words_under}
use Rattle.blif_flatten.proofs.FormedBodies.{command-line, none-first, none-second}

-- PARTS THAT ARE NO OUTPUTS
abbrev IsOther : Part → Type 0
IsOther part = (os : List Word) (s : Spot) → outputs_with os (part, s) ≡ os

all-other : (part : Part) → IsOther part → (ss : List Spot) (os : List Word) → fold outputs_with os (all_are part ss) ≡ os
all-other part h [] os = refl
all-other part h (s ∷ ss) os = ap (λ (ws : List Word). fold outputs_with ws (all_are part ss)) (h os s) ∙ all-other part h ss os

extra-other : (ss : List Spot) (os : List Word) → fold outputs_with os (in_parts [] ss) ≡ os
extra-other [] os = refl
extra-other (s ∷ ss) os = all-other Extra (λ ws v. refl) ss os

names-other : (ss : List Spot) (os : List Word) → fold outputs_with os (names_parts ss) ≡ os
names-other [] os = refl
names-other (s ∷ []) os = refl
names-other (s ∷ a ∷ ss) os = names-other (a ∷ ss) os

latch-other : (ss : List Spot) (os : List Word) → fold outputs_with os (in_parts (latch_parts ss) ss) ≡ os
latch-other [] os = refl
latch-other (a ∷ []) os = refl
latch-other (a ∷ b ∷ []) os = refl
latch-other (a ∷ b ∷ c ∷ []) os = refl
latch-other (a ∷ b ∷ c ∷ d ∷ []) os = refl
latch-other (a ∷ b ∷ c ∷ d ∷ e ∷ ss) os = extra-other ss os

title-other : (ss : List Spot) (os : List Word) → fold outputs_with os (parts_of Model ss) ≡ os
title-other [] os = refl
title-other (s ∷ ss) os = extra-other ss os

other-outputs : (o : Option Command) (ss : List Spot) (os : List Word) → runs Outputs o ≡ false → outputs_after os ss o ≡ os
other-outputs None ss os e = refl
other-outputs (Some Model) ss os e = title-other ss os
other-outputs (Some Inputs) ss os e = all-other (Name Input) (λ ws v. refl) ss os
other-outputs (Some Outputs) ss os e = absurd cc
other-outputs (Some Clock) ss os e = all-other (Name ClockInput) (λ ws v. refl) ss os
other-outputs (Some Names) ss os e = names-other ss os
other-outputs (Some Latch) ss os e = latch-other ss os
other-outputs (Some End) ss os e = all-other Extra (λ ws v. refl) ss os

-- OUTPUTS
all-outputs : (ss : List Spot) (os : List Word) → fold outputs_with os (all_are (Name Output) ss) ≡ os ++ words_in_line ss
all-outputs [] os = sym (append-nil os)
all-outputs (s ∷ ss) os = all-outputs ss (os ++ s.word ∷ []) ∙ append_assoc os (s.word ∷ []) (words_in_line ss)

abbrev AreOnce : List Word → Type 0
AreOnce ws = (x : Word) → times x ws ≤ 1

one-output : (os : List Word) (w : Word) → is_among os w ≡ false → AreOnce os → AreOnce (os ++ w ∷ [])
one-output os w new once x = at (is_word x w) refl
  where
    at : (b : Bool) → is_word x w ≡ b → times x (os ++ w ∷ []) ≤ 1
    at true e = let a = times-append x os (w ∷ []) in let z : one_if (is_word x w) ≡ 1 = ap one_if e in let n = times-none x os (ap (is_among os) (same_word x w e) ∙ new) in omega (arith, a, z, n)
    at false e = let a = times-append x os (w ∷ []) in let z : one_if (is_word x w) ≡ 0 = ap one_if e in let n = once x in omega (arith, a, z, n)

once-outputs : (ss : List Spot) (os : List Word) (earlier : ℕ) → parts_fault os earlier (all_are (Name Output) ss) ≡ None → AreOnce os → AreOnce (os ++ words_in_line ss)
once-outputs [] os earlier none once = subst AreOnce (sym (append-nil os)) once
once-outputs (s ∷ ss) os earlier none once =
    subst AreOnce (append_assoc os (s.word ∷ []) (words_in_line ss))
    (once-outputs ss (os ++ s.word ∷ []) (earlier + 1) (none-second (part_fault os earlier (Name Output, s)) (parts_fault (os ++ s.word ∷ []) (earlier + 1) (all_are (Name Output) ss)) none)
    (one-output os s.word (new (is_among os s.word) refl (none-first (fault_if (is_among os s.word) DoubleOutput s.place) _ (none-first (part_fault os earlier (Name Output, s)) (parts_fault (os ++ s.word ∷ []) (earlier + 1) (all_are (Name Output) ss)) none))) once))
  where
    new : (b : Bool) → is_among os s.word ≡ b → fault_if b DoubleOutput s.place ≡ None → is_among os s.word ≡ false
    new true e f = absurd cc
    new false e f = e

-- LINES
under-more : (c : Word) (l : Line) (ls : List Line) → words_of c (l ∷ ls) ≡ words_under c l ++ words_of c ls
under-more c l ls = at (begins_with c l)
  where
    at : (d : Bool) → flat_map words_after (if d then l ∷ filter (begins_with c) ls else filter (begins_with c) ls) ≡ (if d then words_after l else []) ++ words_of c ls
    at true = refl
    at false = refl

-- what a line lists comes behind the outputs so far, each once
record Lists (said : BodySaid) (l : List Spot) : Type 0 where
  listed : (after_line said l).outputs ≡ said.outputs ++ words_under (codes ".outputs") (words_in_line l)
  once : AreOnce said.outputs → AreOnce (said.outputs ++ words_under (codes ".outputs") (words_in_line l))

line-lists : (said : BodySaid) (l : List Spot) → line_fault said l ≡ None → Lists said l
line-lists said [] none = record { listed = sym (append-nil said.outputs); once = λ h. subst AreOnce (sym (append-nil said.outputs)) h }
line-lists said (s ∷ ss) none = by_command (command_of s.word) refl
  where
    under : (o : Option Command) → command_of s.word ≡ o → words_under (codes ".outputs") (words_in_line (s ∷ ss)) ≡ (if runs Outputs o then words_in_line ss else [])
    under o e = ap (λ (b : Bool). if b then words_in_line ss else []) (tests s.word o e).outputs

    other : (o : Option Command) → command_of s.word ≡ o → runs Outputs o ≡ false → Lists said (s ∷ ss)
    other o e f =
        let nothing : said.outputs ++ words_under (codes ".outputs") (words_in_line (s ∷ ss)) ≡ said.outputs = ap (λ (ws : List Word). said.outputs ++ ws) (under o e ∙ ap (λ (b : Bool). if b then words_in_line ss else []) f) ∙ append-nil said.outputs in
        record { listed = ap (outputs_after said.outputs ss) e ∙ (other-outputs o ss said.outputs f ∙ sym nothing); once = λ h. subst AreOnce (sym nothing) h }

    listing : command_of s.word ≡ Some Outputs → Lists said (s ∷ ss)
    listing e =
        let is : s.word ≡ codes ".outputs" = sym (same_word (codes ".outputs") s.word ((tests s.word (Some Outputs) e).outputs)) in
        let command : command_fault said.outputs s Outputs ss ≡ None = command-line said s ss none Outputs (codes ".outputs") is refl refl refl in
        let parts : parts_fault said.outputs 0 (all_are (Name Output) ss) ≡ None = none-first (parts_fault said.outputs 0 (all_are (Name Output) ss)) (fault_if (nat_lt (length ss) (least_words Outputs)) MissingWord s.place) command in
        let all : said.outputs ++ words_under (codes ".outputs") (words_in_line (s ∷ ss)) ≡ said.outputs ++ words_in_line ss = ap (λ (ws : List Word). said.outputs ++ ws) (under (Some Outputs) e) in
        record { listed = ap (outputs_after said.outputs ss) e ∙ (all-outputs ss said.outputs ∙ sym all); once = λ h. subst AreOnce (sym all) (once-outputs ss said.outputs 0 parts h) }

    by_command : (o : Option Command) → command_of s.word ≡ o → Lists said (s ∷ ss)
    by_command None e = other None e refl
    by_command (Some Model) e = other (Some Model) e refl
    by_command (Some Inputs) e = other (Some Inputs) e refl
    by_command (Some Outputs) e = listing e
    by_command (Some Clock) e = other (Some Clock) e refl
    by_command (Some Names) e = other (Some Names) e refl
    by_command (Some Latch) e = other (Some Latch) e refl
    by_command (Some End) e = other (Some End) e refl

pub outputs-once : (said : BodySaid) (body : List (List Spot)) → body_fault said body ≡ None → ((x : Word) → times x said.outputs ≤ 1) → (x : Word) → times x (said.outputs ++ words_of (codes ".outputs") (map words_in_line body)) ≤ 1
outputs-once said [] none once x = subst AreOnce (sym (append-nil said.outputs)) once x
outputs-once said (l ∷ ls) none once x =
    let lists = line-lists said l (none-first (line_fault said l) (body_fault (after_line said l) ls) none) in
    let after = outputs-once (after_line said l) ls (none-second (line_fault said l) (body_fault (after_line said l) ls) none) (subst AreOnce (sym lists.listed) (lists.once once)) x in
    let same : (after_line said l).outputs ++ words_of (codes ".outputs") (map words_in_line ls) ≡ said.outputs ++ words_of (codes ".outputs") (map words_in_line (l ∷ ls)) =
    ap (λ (ws : List Word). ws ++ words_of (codes ".outputs") (map words_in_line ls)) lists.listed
    ∙ (append_assoc said.outputs (words_under (codes ".outputs") (words_in_line l)) (words_of (codes ".outputs") (map words_in_line ls))
    ∙ ap (λ (ws : List Word). said.outputs ++ ws) (sym (under-more (codes ".outputs") (words_in_line l) (map words_in_line ls)))) in
    subst (λ (ws : List Word). times x ws ≤ 1) same after

-- What comes next, by what a reader keeps.
use Rattle.std.proofs.Common.{◌≡◌, ◌≢◌, ℕ, zero, suc, ◌+◌, ◌-◌, ◌≤◌, List, [], ◌∷◌, ◌++◌, length, drop, refl, ap, sym, subst, ◌∙◌, append_assoc, arith, length-append, length-drop}
use Rattle.std.proofs.lemmas.Grind.{common_steps}
use Rattle.journal_text.specs.declared.record.Record.{Record}
use Rattle.journal_text.specs.declared.record.Entry.TheVariants as entry
use Rattle.journal_text.specs.declared.reader.Awaited.{Awaited}
use Rattle.journal_text.specs.declared.reader.Awaited.TheVariants as awaited
use Rattle.journal_text.specs.Streams.{next_line}
use Rattle.journal_binary.specs.declared.faults.BinaryFault.TheVariants as fault
use Rattle.journal_binary.specs.declared.parts.Part.{Part}
use Rattle.journal_binary.specs.Fronts.{Front, bad, got, read_record}
use Rattle.journal_binary.specs.Streams.{Waiting, gives, one_turn, record_turn, refuses, rest_turn, turn, turn_at}
use Rattle.journal_binary.specs.Inner.Parts.{Continues, IsKept, made}
use Rattle.journal_binary.proofs.Going.{drop_twice, goes_here, goes_then}

abbrev pub waiting : Awaited → ℕ → ℕ → List ℕ → Waiting
waiting a n left held = record { awaited = a; number = n; left = left; held = held }

left_case : (w : Waiting) (n : ℕ) → n ≢ 0 → record_turn w n ≡ one_turn w (n - 1) (read_record w.held)
left_case w zero n = absurd (n refl)
left_case w (suc k) n = let e : k ≡ suc k - 1 = omega arith in ap (λ (j : ℕ). one_turn w j (read_record w.held)) e

-- the turn of a record
turn_record : (w : Waiting) (x : Front Record) → w.awaited ≡ awaited.Record → w.left ≢ 0 → read_record w.held ≡ x → turn w ≡ one_turn w (w.left - 1) x
turn_record w x e n is = ap (λ (a : Awaited). turn_at a w) e ∙ left_case w w.left n ∙ ap (λ (y : Front Record). one_turn w (w.left - 1) y) is

pub turn_read : (now : Waiting) (a : Awaited) (n left : ℕ) (bytes held : List ℕ) (start seen next : ℕ) (p q : Part) (x : Front Record) → waiting a n left (drop start bytes) ≡ now → now.awaited ≡ awaited.Record → now.left ≢ 0
    → Continues read_record (made p) bytes start seen → held ≡ bytes → Continues (made p) (made q) held seen next → made q (drop next held) ≡ x → turn now ≡ one_turn now (now.left - 1) x
turn_read now a n left bytes held start seen next p q x v e some g is h made_x =
    let to : Continues (made p) (made q) bytes seen next = subst (λ (xs : List ℕ). Continues (made p) (made q) xs seen next) is h in
    let read : read_record (drop start bytes) ≡ x =
    goes_here read_record (made q) bytes start next (goes_then read_record (made p) (made q) bytes start seen next g to) ∙ ap (λ (xs : List ℕ). made q (drop next xs)) (sym is) ∙ made_x in
    turn_record now x e some (ap (λ (w : Waiting). read_record w.held) (sym v) ∙ read)

pub turn_wrong : (now : Waiting) (a : Awaited) (n left : ℕ) (held : List ℕ) → waiting a n left held ≡ now → turn now ≡ one_turn now (now.left - 1) bad → turn now ≡ refuses (fault.BadRecord n)
turn_wrong now a n left held v e = e ∙ ap (λ (w : Waiting). refuses (fault.BadRecord w.number)) (sym v)

pub turn_given : (now : Waiting) (a : Awaited) (n left more : ℕ) (held bytes rest : List ℕ) (next : ℕ) (r : Record) → waiting a n left held ≡ now → now.awaited ≡ awaited.Record → turn now ≡ one_turn now (now.left - 1) (got r (drop next rest))
    → rest ≡ bytes → more ≡ next_line n → turn now ≡ gives (entry.Record r) (waiting a more (left - 1) (drop next bytes))
turn_given now a n left more held bytes rest next r v is e same counts =
    e ∙ ap (λ (xs : List ℕ). gives (entry.Record r) (waiting awaited.Record (next_line now.number) (now.left - 1) (drop next xs))) same
    ∙ ap (λ (w : Waiting). gives (entry.Record r) (waiting awaited.Record (next_line w.number) (w.left - 1) (drop next bytes))) (sym v)
    ∙ ap (λ (b : Awaited). gives (entry.Record r) (waiting b (next_line n) (left - 1) (drop next bytes))) (sym (ap (λ (w : Waiting). w.awaited) v ∙ is))
    ∙ ap (λ (k : ℕ). gives (entry.Record r) (waiting a k (left - 1) (drop next bytes))) (sym counts)

-- behind the end
some_rest : (w : Waiting) (bytes : List ℕ) → bytes ≢ [] → rest_turn w bytes ≡ refuses (fault.AfterEnd w.number)
some_rest w [] n = absurd (n refl)
some_rest w (b ∷ bytes) n = refl

some_left : (bytes : List ℕ) (start : ℕ) → start ≤ length bytes → start ≢ length bytes → drop start bytes ≢ []
some_left bytes start le n e = let l = length-drop start bytes in let z : length (drop start bytes) ≡ 0 = ap length e in omega arith

pub turn_rest : (now : Waiting) (a : Awaited) (n left : ℕ) (bytes : List ℕ) (start : ℕ) → waiting a n left (drop start bytes) ≡ now → now.awaited ≡ awaited.Nothing → start ≤ length bytes → start ≢ length bytes → turn now ≡ refuses (fault.AfterEnd n)
turn_rest now a n left bytes start v e le some =
    ap (λ (b : Awaited). turn_at b now) e ∙ some_rest now now.held (λ f. some_left bytes start le some (ap (λ (w : Waiting). w.held) v ∙ f)) ∙ ap (λ (w : Waiting). refuses (fault.AfterEnd w.number)) (sym v)

-- MOVING AND PUSHING
pub kept_moved : (bytes moved : List ℕ) (start seen : ℕ) (p : Part) → moved ≡ drop start bytes → IsKept bytes start seen p → IsKept moved 0 (seen - start) p
kept_moved bytes moved start seen p e k =
    let l = length-drop start bytes in
    let f = k.first in
    let g = k.goes.after in
    let w = k.goes.within in
    let at : start + (seen - start) ≡ seen = omega arith in
    let rest : drop (seen - start) (drop start bytes) ≡ drop seen bytes = drop_twice bytes start (seen - start) ∙ ap (λ (j : ℕ). drop j bytes) at in
    subst (λ (xs : List ℕ). IsKept xs 0 (seen - start) p) (sym e) (record {
      first = omega arith;
      goes = record {
        after = omega arith;
        within = omega arith;
        same = λ more. k.goes.same more ∙ ap (λ (xs : List ℕ). made p (xs ++ more)) (sym rest);
      };
    })

drop_more : (bytes piece : List ℕ) (at : ℕ) → at ≤ length bytes → drop at (bytes ++ piece) ≡ drop at bytes ++ piece
drop_more bytes piece at le = grind (arith, common_steps)

pub kept_pushed : (bytes piece : List ℕ) (start seen : ℕ) (p : Part) → IsKept bytes start seen p → IsKept (bytes ++ piece) start seen p
kept_pushed bytes piece start seen p k =
    let l = length-append bytes piece in
    let f = k.first in
    let w = k.goes.within in
    record {
      first = omega arith;
      goes = record {
        after = k.goes.after;
        within = omega arith;
        same = λ more.
            ap (λ (xs : List ℕ). read_record (xs ++ more)) (drop_more bytes piece start f) ∙ ap read_record (append_assoc (drop start bytes) piece more) ∙ k.goes.same (piece ++ more)
            ∙ ap (made p) (sym (append_assoc (drop seen bytes) piece more)) ∙ ap (λ (xs : List ℕ). made p (xs ++ more)) (sym (drop_more bytes piece seen w));
      };
    }

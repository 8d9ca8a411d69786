-- However bytes are cut into pieces.
use Rattle.std.proofs.Common.{◌≡◌, ◌≢◌, ℕ, zero, suc, ◌+◌, ◌-◌, ◌^◌, ◌<◌, ◌≤◌, min, List, [], ◌∷◌, ◌++◌, Option, Some, Ok, Err, length, refl, ap, sym, subst, ◌∙◌, inl, inr, arith, length-append}
use Rattle.std.proofs.lemmas.List.{append-nil}
use Rattle.journal_text.specs.Streams.{budget_with, next_line, records_of}
use Rattle.journal_text.specs.Text.{IsWritable}
use Rattle.journal_text.specs.declared.record.Record.{Record}
use Rattle.journal_text.specs.declared.record.Entry.{Entry}
use Rattle.journal_text.specs.declared.record.Entry.TheVariants as entry
use Rattle.journal_text.specs.declared.reader.Awaited.{Awaited}
use Rattle.journal_text.specs.declared.reader.Awaited.TheVariants as awaited
use Rattle.journal_binary.specs.declared.faults.BinaryFault.{BinaryFault}
use Rattle.journal_binary.specs.declared.faults.BinaryFault.TheVariants as fault
use Rattle.journal_binary.specs.Faults.{IsBody, IsBodyFault, Opens}
use Rattle.journal_binary.specs.Fronts.{Front, bad, got, keyword_among, read_head, read_many, read_record, record_keywords, short}
use Rattle.journal_binary.specs.Inner.Answers.{IsEndOf}
use Rattle.journal_binary.specs.Laws.{CutsAgree}
use Rattle.journal_binary.specs.Streams.{FinishGives, IsReadTo, NextGives, ReadAt, Turn, Waiting, after_end, gives, head_turn, measure, one_turn, record_turn, refuses, rest_turn, turn, turn_at, waits}
use Rattle.journal_binary.proofs.Steady.{got_short, head_steady, keyword_steady, many_none, many_steady, record_is, record_none, record_steady, stays_bad, stays_got, then_got}
use Rattle.journal_binary.proofs.Runs.{got_rest, got_value, many_first, many_last, many_length}
use Rattle.journal_binary.proofs.Spelled.{record_written}
use Rattle.journal_binary.proofs.Heads.{head_parts}

-- OPENED BYTES
pub opens_more : (bytes rest more : List ℕ) (b : ℕ) (rs : List Record) (left : ℕ) → Opens bytes b rs left rest → Opens (bytes ++ more) b rs left (rest ++ more)
opens_more bytes rest more b rs left o = record {
  behind = o.behind ++ more;
  head = stays_got read_head bytes o.behind more (b, length rs + left) head_steady o.head;
  read = stays_got (λ (xs : List ℕ). read_many read_record (length rs) xs) o.behind rest more rs (many_steady read_record (length rs) record_steady) o.read;
}

pub opens_first : (bytes rest : List ℕ) (b count : ℕ) → read_head bytes ≡ got (b, count) rest → Opens bytes b [] count rest
opens_first bytes rest b count e = let none : count ≡ 0 + count = omega arith in record {
  behind = rest;
  head = e ∙ ap (λ (n : ℕ). got (b, n) rest) none;
  read = many_none read_record rest;
}

pub opens_next : (bytes rest end : List ℕ) (b : ℕ) (rs : List Record) (left : ℕ) (r : Record) → Opens bytes b rs (suc left) rest → read_record rest ≡ got r end → Opens bytes b (rs ++ r ∷ []) left end
opens_next bytes rest end b rs left r o e =
    let size : length (rs ++ r ∷ []) ≡ length rs + 1 = length-append rs (r ∷ []) in
    let all : length rs + suc left ≡ length (rs ++ r ∷ []) + left = omega (arith, size) in
    record {
      behind = o.behind;
      head = o.head ∙ ap (λ (n : ℕ). got (b, n) o.behind) all;
      read = ap (λ (n : ℕ). read_many read_record n o.behind) size ∙ many_last read_record (length rs) o.behind rest end rs r o.read e;
    }

-- each record has a byte
end_length : (bytes rest : List ℕ) → IsEndOf rest bytes → length rest ≤ length bytes
end_length bytes rest o = let l = length-append o.front rest in let e : length bytes ≡ length (o.front ++ rest) = ap length o.is in omega arith

pub record_byte : (bytes rest : List ℕ) (r : Record) → read_record bytes ≡ got r rest → suc (length rest) ≤ length bytes
record_byte [] rest r e = absurd (got_short (read_record []) r rest e record_none)
record_byte (b ∷ bytes) rest r e =
    let le : length rest ≤ length bytes = end_length bytes rest ((keyword_steady (keyword_among record_keywords b)).ends bytes rest r (sym (record_is b bytes) ∙ e)) in
    omega (arith, le)

pub records_small : (n : ℕ) (bytes rest : List ℕ) (rs : List Record) → read_many read_record n bytes ≡ got rs rest → length rs + length rest ≤ length bytes
records_small zero bytes rest rs e =
    let none : length rs ≡ 0 = many_length read_record 0 bytes rest rs e in
    let same : bytes ≡ rest = got_rest [] rs bytes rest (sym (many_none read_record bytes) ∙ e) in
    let size : length bytes ≡ length rest = ap length same in
    omega (arith, none, size)
records_small (suc n) bytes rest rs e =
    let g = many_first read_record n bytes rest rs e in
    let h = then_got (read_many read_record n g.middle) (λ more rest. got (g.value ∷ more) rest) rs rest g.second in
    let one : suc (length g.middle) ≤ length bytes = record_byte bytes g.middle g.value g.first in
    let more : length h.value + length h.middle ≤ length g.middle = records_small n g.middle h.middle h.value h.first in
    let size : length rs ≡ suc (length h.value) = ap length (sym (got_value (g.value ∷ h.value) rs h.middle rest h.second)) in
    let end : length h.middle ≡ length rest = ap length (got_rest (g.value ∷ h.value) rs h.middle rest h.second) in
    omega (arith, one, more, size, end)

pub opens_small : (bytes rest : List ℕ) (b : ℕ) (rs : List Record) (left : ℕ) → Opens bytes b rs left rest → length rs ≤ length bytes
opens_small bytes rest b rs left o =
    let some : length rs + length rest ≤ length o.behind = records_small (length rs) o.behind rest rs o.read in
    let more : length o.behind ≤ length bytes = end_length bytes o.behind (head_steady.ends bytes o.behind (b, length rs + left) o.head) in
    omega (arith, some, more)

-- TURNS
abbrev entry_given : Entry → Turn → Entry
entry_given d (gives e w) = e
entry_given d waits = d
entry_given d (refuses f) = d

abbrev state_given : Waiting → Turn → Waiting
state_given v (gives e w) = w
state_given v waits = v
state_given v (refuses f) = v

abbrev fault_given : BinaryFault → Turn → BinaryFault
fault_given d (gives e w) = d
fault_given d waits = d
fault_given d (refuses f) = f

to_gives : (P : Entry → Waiting → Type 0) (d e : Entry) (v w : Waiting) → gives d v ≡ gives e w → P d v → P e w
to_gives P d e v w same p = subst (P e) (ap (state_given v) same) (subst (λ (x : Entry). P x v) (ap (entry_given d) same) p)

to_refuses : (P : BinaryFault → Type 0) (f g : BinaryFault) → refuses f ≡ refuses g → P f → P g
to_refuses P f g same p = subst P (ap (fault_given f) same) p

count_more : (n : ℕ) → next_line (min (1 + n) (2 ^ 64 - 1)) ≡ min (1 + (n + 1)) (2 ^ 64 - 1)
count_more n = omega arith

pub pushed : (a : Awaited) (bytes piece : List ℕ) (b : ℕ) (rs : List Record) (w : Waiting) → ReadAt a bytes b rs w → ReadAt a (bytes ++ piece) b rs (record w { held = w.held ++ piece })
pushed awaited.Header bytes piece b rs w h = (h.0, (h.1.0, ap (λ (xs : List ℕ). xs ++ piece) h.1.1))
pushed awaited.Record bytes piece b rs w h = (h.0, opens_more bytes w.held piece b rs w.left h.1)
pushed awaited.Nothing bytes piece b rs w h = (h.0, (h.1.0, opens_more bytes w.held piece b rs 0 h.1.1))

-- AN ENTRY
abbrev GoesTo : List ℕ → ℕ → List Record → Entry → Waiting → Type 0
GoesTo bytes b rs e w = IsReadTo bytes (budget_with b e) (rs ++ records_of e) w

head_goes : (bytes rest : List ℕ) (b : ℕ) (rs : List Record) (old : Waiting) (head : ℕ × ℕ) → ReadAt awaited.Header bytes b rs old → read_head old.held ≡ got head rest
    → GoesTo bytes b rs (entry.Header head.0) (record { awaited = awaited.Record; number = next_line old.number; left = head.1; held = rest })
head_goes bytes rest b rs old head h e =
    subst (λ (qs : List Record). (next_line old.number ≡ min (1 + length (qs ++ [])) (2 ^ 64 - 1)) × Opens bytes head.0 (qs ++ []) head.1 rest) (sym h.0)
    (ap next_line h.1.0, opens_first bytes rest head.0 head.1 (ap read_head h.1.1 ∙ e))

header_goes : (bytes : List ℕ) (b : ℕ) (rs : List Record) (old new : Waiting) (e : Entry) (x : Front (ℕ × ℕ)) → ReadAt awaited.Header bytes b rs old → read_head old.held ≡ x → head_turn old x ≡ gives e new → GoesTo bytes b rs e new
header_goes bytes b rs old new e (got head rest) h is t =
    to_gives (GoesTo bytes b rs) (entry.Header head.0) e (record { awaited = awaited.Record; number = next_line old.number; left = head.1; held = rest }) new t (head_goes bytes rest b rs old head h is)
header_goes bytes b rs old new e bad h is t = cc
header_goes bytes b rs old new e short h is t = cc

record_next : (bytes rest : List ℕ) (b : ℕ) (rs : List Record) (old : Waiting) (k : ℕ) (r : Record) → ReadAt awaited.Record bytes b rs old → old.left ≡ suc k → read_record old.held ≡ got r rest
    → GoesTo bytes b rs (entry.Record r) (record { awaited = awaited.Record; number = next_line old.number; left = k; held = rest })
record_next bytes rest b rs old k r h left e =
    let size : length rs + 1 ≡ length (rs ++ r ∷ []) = sym (length-append rs (r ∷ [])) in (
      ap next_line h.0 ∙ count_more (length rs) ∙ ap (λ (n : ℕ). min (1 + n) (2 ^ 64 - 1)) size,
      opens_next bytes old.held rest b rs k r (subst (λ (n : ℕ). Opens bytes b rs n old.held) left h.1) e,
    )

one_goes : (bytes : List ℕ) (b : ℕ) (rs : List Record) (old new : Waiting) (e : Entry) (k : ℕ) (x : Front Record) → ReadAt awaited.Record bytes b rs old → old.left ≡ suc k → read_record old.held ≡ x → one_turn old k x ≡ gives e new
    → GoesTo bytes b rs e new
one_goes bytes b rs old new e k (got r rest) h left is t =
    to_gives (GoesTo bytes b rs) (entry.Record r) e (record { awaited = awaited.Record; number = next_line old.number; left = k; held = rest }) new t (record_next bytes rest b rs old k r h left is)
one_goes bytes b rs old new e k bad h left is t = cc
one_goes bytes b rs old new e k short h left is t = cc

end_goes : (bytes : List ℕ) (b : ℕ) (rs : List Record) (old : Waiting) → ReadAt awaited.Record bytes b rs old → old.left ≡ 0 → GoesTo bytes b rs entry.End (record old { awaited = awaited.Nothing })
end_goes bytes b rs old h left =
    subst (λ (qs : List Record). (old.number ≡ min (1 + length qs) (2 ^ 64 - 1)) × ((old.left ≡ 0) × Opens bytes b qs 0 old.held)) (sym (append-nil rs))
    (h.0, (left, subst (λ (n : ℕ). Opens bytes b rs n old.held) left h.1))

record_goes : (bytes : List ℕ) (b : ℕ) (rs : List Record) (old new : Waiting) (e : Entry) (n : ℕ) → ReadAt awaited.Record bytes b rs old → old.left ≡ n → record_turn old n ≡ gives e new → GoesTo bytes b rs e new
record_goes bytes b rs old new e zero h left t = to_gives (GoesTo bytes b rs) entry.End e (record old { awaited = awaited.Nothing }) new t (end_goes bytes b rs old h left)
record_goes bytes b rs old new e (suc k) h left t = one_goes bytes b rs old new e k (read_record old.held) h left refl t

none_given : (w v : Waiting) (e : Entry) (held : List ℕ) → rest_turn w held ≡ gives e v → ⊥
none_given w v e [] t = cc
none_given w v e (x ∷ xs) t = cc

goes : (a : Awaited) (bytes : List ℕ) (b : ℕ) (rs : List Record) (old new : Waiting) (e : Entry) → ReadAt a bytes b rs old → turn_at a old ≡ gives e new → GoesTo bytes b rs e new
goes awaited.Header bytes b rs old new e h t = header_goes bytes b rs old new e (read_head old.held) h refl t
goes awaited.Record bytes b rs old new e h t = record_goes bytes b rs old new e old.left h refl t
goes awaited.Nothing bytes b rs old new e h t = absurd (none_given old new e old.held t)

-- it can be written
header_written : (old new : Waiting) (e : Entry) (x : Front (ℕ × ℕ)) → read_head old.held ≡ x → head_turn old x ≡ gives e new → IsWritable e
header_written old new e (got head rest) is t =
    to_gives (λ d w. IsWritable d) (entry.Header head.0) e (record { awaited = awaited.Record; number = next_line old.number; left = head.1; held = rest }) new t
    (let h = head_parts old.held rest head.0 head.1 is in (h.low, h.high))
header_written old new e bad is t = cc
header_written old new e short is t = cc

one_written : (old new : Waiting) (e : Entry) (k : ℕ) (x : Front Record) → read_record old.held ≡ x → one_turn old k x ≡ gives e new → IsWritable e
one_written old new e k (got r rest) is t =
    to_gives (λ d w. IsWritable d) (entry.Record r) e (record { awaited = awaited.Record; number = next_line old.number; left = k; held = rest }) new t (record_written old.held rest r is)
one_written old new e k bad is t = cc
one_written old new e k short is t = cc

turn_written : (old new : Waiting) (e : Entry) (n : ℕ) → record_turn old n ≡ gives e new → IsWritable e
turn_written old new e zero t = to_gives (λ d w. IsWritable d) entry.End e (record old { awaited = awaited.Nothing }) new t tt
turn_written old new e (suc k) t = one_written old new e k (read_record old.held) refl t

written : (a : Awaited) (old new : Waiting) (e : Entry) → turn_at a old ≡ gives e new → IsWritable e
written awaited.Header old new e t = header_written old new e (read_head old.held) refl t
written awaited.Record old new e t = turn_written old new e old.left t
written awaited.Nothing old new e t = absurd (none_given old new e old.held t)

-- A FAULT
number_is : (bytes : List ℕ) (b n : ℕ) (rs : List Record) (left : ℕ) (rest : List ℕ) → Opens bytes b rs left rest → length bytes < 2 ^ 63 → n ≡ min (1 + length rs) (2 ^ 64 - 1) → n ≡ 1 + length rs
number_is bytes b n rs left rest o few e = let le = opens_small bytes rest b rs left o in omega arith

some_more : (xs ys : List ℕ) → xs ≢ [] → xs ++ ys ≢ []
some_more [] ys n = absurd (n refl)
some_more (x ∷ xs) ys n = λ e. cc

header_refused : (bytes more : List ℕ) (b : ℕ) (rs : List Record) (old : Waiting) (f : BinaryFault) (x : Front (ℕ × ℕ)) → ReadAt awaited.Header bytes b rs old → read_head old.held ≡ x → head_turn old x ≡ refuses f → IsBodyFault (bytes ++ more) f
header_refused bytes more b rs old f (got head rest) h is t = cc
header_refused bytes more b rs old f bad h is t = to_refuses (IsBodyFault (bytes ++ more)) fault.BadHeader f t (stays_bad read_head bytes more head_steady (ap read_head h.1.1 ∙ is))
header_refused bytes more b rs old f short h is t = cc

one_refused : (bytes more : List ℕ) (b : ℕ) (rs : List Record) (old : Waiting) (f : BinaryFault) (k : ℕ) (x : Front Record) → ReadAt awaited.Record bytes b rs old → length bytes < 2 ^ 63 → old.left ≡ suc k → read_record old.held ≡ x → one_turn old k x ≡ refuses f
    → IsBodyFault (bytes ++ more) f
one_refused bytes more b rs old f k (got r rest) h few left is t = cc
one_refused bytes more b rs old f k bad h few left is t = to_refuses (IsBodyFault (bytes ++ more)) (fault.BadRecord old.number) f t (record {
  budget = b;
  records = rs;
  left = old.left;
  rest = old.held ++ more;
  opens = opens_more bytes old.held more b rs old.left h.1;
  some = omega (arith, left);
  is = stays_bad read_record old.held more record_steady is;
  counts = number_is bytes b old.number rs old.left old.held h.1 few h.0;
})
one_refused bytes more b rs old f k short h few left is t = cc

record_refused : (bytes more : List ℕ) (b : ℕ) (rs : List Record) (old : Waiting) (f : BinaryFault) (n : ℕ) → ReadAt awaited.Record bytes b rs old → length bytes < 2 ^ 63 → old.left ≡ n → record_turn old n ≡ refuses f → IsBodyFault (bytes ++ more) f
record_refused bytes more b rs old f zero h few left t = cc
record_refused bytes more b rs old f (suc k) h few left t = one_refused bytes more b rs old f k (read_record old.held) h few left refl t

rest_refused : (bytes more : List ℕ) (b : ℕ) (rs : List Record) (old : Waiting) (f : BinaryFault) (held : List ℕ) → ReadAt awaited.Nothing bytes b rs old → length bytes < 2 ^ 63 → old.held ≡ held → rest_turn old held ≡ refuses f → IsBodyFault (bytes ++ more) f
rest_refused bytes more b rs old f [] h few is t = cc
rest_refused bytes more b rs old f (x ∷ xs) h few is t = to_refuses (IsBodyFault (bytes ++ more)) (fault.AfterEnd old.number) f t (record {
  budget = b;
  records = rs;
  rest = old.held ++ more;
  opens = opens_more bytes old.held more b rs 0 h.1.1;
  more = some_more old.held more (λ e. (let g : x ∷ xs ≡ [] = sym is ∙ e in cc));
  counts = number_is bytes b old.number rs 0 old.held h.1.1 few h.0;
})

refused : (a : Awaited) (bytes more : List ℕ) (b : ℕ) (rs : List Record) (old : Waiting) (f : BinaryFault) → ReadAt a bytes b rs old → length bytes < 2 ^ 63 → turn_at a old ≡ refuses f → IsBodyFault (bytes ++ more) f
refused awaited.Header bytes more b rs old f h few t = header_refused bytes more b rs old f (read_head old.held) h refl t
refused awaited.Record bytes more b rs old f h few t = record_refused bytes more b rs old f old.left h few refl t
refused awaited.Nothing bytes more b rs old f h few t = rest_refused bytes more b rs old f old.held h few refl t

next_fault : (bytes more : List ℕ) (b : ℕ) (rs : List Record) (old new : Waiting) (f : BinaryFault) → IsReadTo bytes b rs old → length bytes < 2 ^ 63 → NextGives old new (Err f) → f ≢ fault.NoMemory → IsBodyFault (bytes ++ more) f
next_fault bytes more b rs old new fault.BadHeader h few g n = refused old.awaited bytes more b rs old fault.BadHeader h few g.1
next_fault bytes more b rs old new (fault.BadRecord k) h few g n = refused old.awaited bytes more b rs old (fault.BadRecord k) h few g.1
next_fault bytes more b rs old new (fault.Truncated k) h few g n = absurd g
next_fault bytes more b rs old new (fault.AfterEnd k) h few g n = refused old.awaited bytes more b rs old (fault.AfterEnd k) h few g.1
next_fault bytes more b rs old new fault.NoMemory h few g n = absurd (n refl)

-- THE END
none_left : (w : Waiting) (held : List ℕ) → rest_turn w held ≡ waits → held ≡ []
none_left w [] t = refl
none_left w (x ∷ xs) t = cc

ended : (bytes : List ℕ) (b : ℕ) (rs : List Record) (w : Waiting) → IsReadTo bytes b rs w → turn w ≡ waits → w.awaited ≡ awaited.Nothing → IsBody bytes b rs
ended bytes b rs w h t e =
    let at : ReadAt awaited.Nothing bytes b rs w = subst (λ (a : Awaited). ReadAt a bytes b rs w) e h in
    let none : w.held ≡ [] = none_left w w.held (sym (ap (λ (a : Awaited). turn_at a w) e) ∙ t) in
    subst (λ (xs : List ℕ). Opens bytes b rs 0 xs) none at.1.1

header_cut : (bytes : List ℕ) (b : ℕ) (rs : List Record) (w : Waiting) (n : ℕ) (x : Front (ℕ × ℕ)) → ReadAt awaited.Header bytes b rs w → n ≡ w.number → read_head w.held ≡ x → head_turn w x ≡ waits → IsBodyFault bytes (fault.Truncated n)
header_cut bytes b rs w n (got head rest) h e is t = cc
header_cut bytes b rs w n bad h e is t = cc
header_cut bytes b rs w n short h e is t = inl (record { is = ap read_head h.1.1 ∙ is; counts = e ∙ h.1.0 })

one_cut : (bytes : List ℕ) (b : ℕ) (rs : List Record) (w : Waiting) (n k : ℕ) (x : Front Record) → ReadAt awaited.Record bytes b rs w → length bytes < 2 ^ 63 → n ≡ w.number → w.left ≡ suc k → read_record w.held ≡ x → one_turn w k x ≡ waits
    → IsBodyFault bytes (fault.Truncated n)
one_cut bytes b rs w n k (got r rest) h few e left is t = cc
one_cut bytes b rs w n k bad h few e left is t = cc
one_cut bytes b rs w n k short h few e left is t = inr (record {
  budget = b;
  records = rs;
  left = w.left;
  rest = w.held;
  opens = h.1;
  some = omega (arith, left);
  is = is;
  counts = e ∙ number_is bytes b w.number rs w.left w.held h.1 few h.0;
})

record_cut : (bytes : List ℕ) (b : ℕ) (rs : List Record) (w : Waiting) (n m : ℕ) → ReadAt awaited.Record bytes b rs w → length bytes < 2 ^ 63 → n ≡ w.number → w.left ≡ m → record_turn w m ≡ waits → IsBodyFault bytes (fault.Truncated n)
record_cut bytes b rs w n zero h few e left t = cc
record_cut bytes b rs w n (suc k) h few e left t = one_cut bytes b rs w n k (read_record w.held) h few e left refl t

cut_at : (a : Awaited) (bytes : List ℕ) (b : ℕ) (rs : List Record) (w : Waiting) (n : ℕ) → a ≢ awaited.Nothing → ReadAt a bytes b rs w → length bytes < 2 ^ 63 → n ≡ w.number → turn_at a w ≡ waits → IsBodyFault bytes (fault.Truncated n)
cut_at awaited.Header bytes b rs w n some h few e t = header_cut bytes b rs w n (read_head w.held) h e refl t
cut_at awaited.Record bytes b rs w n some h few e t = record_cut bytes b rs w n w.left h few e refl t
cut_at awaited.Nothing bytes b rs w n some h few e t = absurd (some refl)

end_fault : (bytes : List ℕ) (b : ℕ) (rs : List Record) (w : Waiting) (f : BinaryFault) → IsReadTo bytes b rs w → length bytes < 2 ^ 63 → turn w ≡ waits → FinishGives w f → IsBodyFault bytes f
end_fault bytes b rs w fault.BadHeader h few t g = absurd g
end_fault bytes b rs w (fault.BadRecord n) h few t g = absurd g
end_fault bytes b rs w (fault.Truncated n) h few t g = cut_at w.awaited bytes b rs w n g.0 h few g.1 t
end_fault bytes b rs w (fault.AfterEnd n) h few t g = absurd g
end_fault bytes b rs w fault.NoMemory h few t g = absurd g

-- with each entry less is left
abbrev state_in : Waiting → Turn → Waiting
state_in old (gives e w) = w
state_in old waits = old
state_in old (refuses f) = old

less_of : (old mid new : Waiting) (d e : Entry) (most : ℕ) → gives d mid ≡ gives e new → measure mid < most → measure new < most
less_of old mid new d e most g l = subst (λ (w : Waiting). measure w < most) (ap (state_in old) g) l

head_less : (old new : Waiting) (e : Entry) (f : Front (ℕ × ℕ)) → read_head old.held ≡ f → head_turn old f ≡ gives e new → measure new < 2 + length old.held
head_less old new e (got head rest) is g =
    let le : length rest ≤ length old.held = end_length old.held rest (head_steady.ends old.held rest head is) in
    less_of old (record { awaited = awaited.Record; number = next_line old.number; left = head.1; held = rest }) new (entry.Header head.0) e (2 + length old.held) g (omega (arith, le))
head_less old new e bad is g = cc
head_less old new e short is g = cc

one_less : (old new : Waiting) (left : ℕ) (e : Entry) (f : Front Record) → read_record old.held ≡ f → one_turn old left f ≡ gives e new → measure new < 1 + length old.held
one_less old new left e (got r rest) is g =
    let le : suc (length rest) ≤ length old.held = record_byte old.held rest r is in
    less_of old (record { awaited = awaited.Record; number = next_line old.number; left = left; held = rest }) new (entry.Record r) e (1 + length old.held) g (omega (arith, le))
one_less old new left e bad is g = cc
one_less old new left e short is g = cc

record_less : (old new : Waiting) (left : ℕ) (e : Entry) → record_turn old left ≡ gives e new → measure new < 1 + length old.held
record_less old new zero e g = less_of old (record old { awaited = awaited.Nothing }) new entry.End e (1 + length old.held) g (omega arith)
record_less old new (suc left) e g = one_less old new left e (read_record old.held) refl g

rest_never : (old new : Waiting) (bytes : List ℕ) (e : Entry) → rest_turn old bytes ≡ gives e new → ⊥
rest_never old new [] e g = cc
rest_never old new (b ∷ bytes) e g = cc

less_at : (a : Awaited) (old new : Waiting) (e : Entry) → turn_at a old ≡ gives e new → measure new < after_end a + length old.held
less_at awaited.Header old new e g = head_less old new e (read_head old.held) refl g
less_at awaited.Record old new e g = record_less old new old.left e g
less_at awaited.Nothing old new e g = absurd (rest_never old new old.held e g)

less : (old new : Waiting) (e : Entry) → NextGives old new (Ok (Some e)) → measure new < measure old
less old new e g = less_at old.awaited old new e g

pub cuts_agree : CutsAgree
cuts_agree = record {
  begins = (refl, (refl, refl));
  pushes = λ bytes piece b rs w h. pushed w.awaited bytes piece b rs w h;
  gives = λ bytes b rs old new e h g. goes old.awaited bytes b rs old new e h g;
  writable = λ old new e g. written old.awaited old new e g;
  faults = next_fault;
  ends = ended;
  cuts = end_fault;
  less = less;
  small = opens_small;
  stays = opens_more;
}

-- Bytes are one journal at most, or have one fault.
use Rattle.std.proofs.Common.{◌≡◌, ℕ, zero, suc, ◌+◌, ◌-◌, ◌<◌, ◌≤◌, true, false, List, [], ◌∷◌, ◌++◌, length, refl, ap, sym, ◌∙◌, ◌⊎◌, inl, inr, arith}
use Rattle.std.proofs.Common.{leb}
use Rattle.std.proofs.lemmas.Bool.Decides.{leb_tells}
use Rattle.journal_text.specs.declared.record.Record.{Record}
use Rattle.journal_binary.specs.declared.faults.BinaryFault.{BinaryFault}
use Rattle.journal_binary.specs.declared.faults.BinaryFault.TheVariants as fault
use Rattle.journal_binary.specs.Faults.{HasMore, IsBody, IsBodyFault, Opens, StopsBy}
use Rattle.journal_binary.specs.Fronts.{Front, bad, got, read_head, read_many, read_record, short}
use Rattle.journal_binary.specs.Laws.{BodiesAreOne, FaultsAreOne}
use Rattle.journal_binary.proofs.Steady.{bad_short, got_bad, got_short, many_none}
use Rattle.journal_binary.proofs.Runs.{Further, got_rest, got_value, many_first, many_further, many_length}
use Rattle.journal_binary.proofs.Cuts.{opens_first, opens_next}

-- no record is read there
abbrev IsNoGot : Front Record → Type 0
IsNoGot (got r rest) = ⊥
IsNoGot bad = Unit {0}
IsNoGot short = Unit {0}

-- TWO OPENINGS
pub record SameHead (bytes : List ℕ) (b c total size : ℕ) (behind after : List ℕ) : Type 0 where
  pub budget : b ≡ c
  pub totals : total ≡ size
  pub behinds : behind ≡ after

same_head : (bytes behind after : List ℕ) (b c n m : ℕ) → read_head bytes ≡ got (b, n) behind → read_head bytes ≡ got (c, m) after → SameHead bytes b c n m behind after
same_head bytes behind after b c n m e f =
    let both : got (b, n) behind ≡ got (c, m) after = sym e ∙ f in
    record {
      budget = ap (λ (x : ℕ × ℕ). x.0) (got_value (b, n) (c, m) behind after both);
      totals = ap (λ (x : ℕ × ℕ). x.1) (got_value (b, n) (c, m) behind after both);
      behinds = got_rest (b, n) (c, m) behind after both;
    }

-- of two openings the longer goes on from the shorter
further : (bytes rest end : List ℕ) (b c : ℕ) (qs rs : List Record) (left more n : ℕ) → Opens bytes c qs left rest → Opens bytes b rs more end → length qs + n ≡ length rs → Further read_record n qs rs rest end
further bytes rest end b c qs rs left more n o p e =
    let same : SameHead bytes c b (length qs + left) (length rs + more) o.behind p.behind = same_head bytes o.behind p.behind c b (length qs + left) (length rs + more) o.head p.head in
    let read : read_many read_record (length qs + n) o.behind ≡ got rs end =
    ap (λ (k : ℕ). read_many read_record k o.behind) e ∙ ap (λ (xs : List ℕ). read_many read_record (length rs) xs) same.behinds ∙ p.read in
    many_further read_record (length qs) n o.behind rest end qs rs o.read read

totals : (bytes rest end : List ℕ) (b c : ℕ) (qs rs : List Record) (left more : ℕ) → Opens bytes c qs left rest → Opens bytes b rs more end → length qs + left ≡ length rs + more
totals bytes rest end b c qs rs left more o p =
    let same : SameHead bytes c b (length qs + left) (length rs + more) o.behind p.behind = same_head bytes o.behind p.behind c b (length qs + left) (length rs + more) o.head p.head in same.totals

budgets : (bytes rest end : List ℕ) (b c : ℕ) (qs rs : List Record) (left more : ℕ) → Opens bytes c qs left rest → Opens bytes b rs more end → b ≡ c
budgets bytes rest end b c qs rs left more o p =
    let same : SameHead bytes c b (length qs + left) (length rs + more) o.behind p.behind = same_head bytes o.behind p.behind c b (length qs + left) (length rs + more) o.head p.head in sym same.budget

body_opened : (bytes rest : List ℕ) (b c : ℕ) (rs qs : List Record) (left : ℕ) → IsBody bytes b rs → Opens bytes c qs left rest → (b ≡ c) × ((behind : List Record) × ((rs ≡ qs ++ behind) × (left ≡ length behind)))
body_opened bytes rest b c rs qs left body o =
    let sums : length qs + left ≡ length rs + 0 = totals bytes rest [] b c qs rs left 0 o body in
    let f : Further read_record left qs rs rest [] = further bytes rest [] b c qs rs left 0 left o body (omega (arith, sums)) in
    (budgets bytes rest [] b c qs rs left 0 o body, (f.more, (f.is, sym (many_length read_record left rest [] f.more f.read_more))))

-- where some more were read there was one
one_there : (n : ℕ) (rest end : List ℕ) (xs : List Record) (x : Front Record) → 0 < n → read_many read_record n rest ≡ got xs end → read_record rest ≡ x → IsNoGot x → ⊥
one_there zero rest end xs x some e is none = omega (arith, some)
one_there (suc n) rest end xs (got r more) some e is none = none
one_there (suc n) rest end xs bad some e is none = let g = many_first read_record n rest end xs e in got_bad (read_record rest) g.value g.middle g.first is
one_there (suc n) rest end xs short some e is none = let g = many_first read_record n rest end xs e in got_short (read_record rest) g.value g.middle g.first is

-- a stop is at the end of what can be read: no opening goes past it
stop_last : (bytes rest end : List ℕ) (b c : ℕ) (qs rs : List Record) (left more : ℕ) (x : Front Record) → Opens bytes c qs left rest → read_record rest ≡ x → IsNoGot x → Opens bytes b rs more end → length rs ≤ length qs
stop_last bytes rest end b c qs rs left more x o is none p = by_order (leb_tells (length rs) (length qs))
  where
    by_order : ((leb (length rs) (length qs) ≡ true) × (length rs ≤ length qs)) ⊎ ((leb (length rs) (length qs) ≡ false) × (length qs < length rs)) → length rs ≤ length qs
    by_order (inl h) = h.1
    by_order (inr h) =
        let less : length qs < length rs = h.1 in
        let f : Further read_record (length rs - length qs) qs rs rest end = further bytes rest end b c qs rs left more (length rs - length qs) o p (omega arith) in
        absurd (one_there (length rs - length qs) rest end f.more x (omega arith) f.read_more is none)

no_stop : (bytes : List ℕ) (b : ℕ) (rs : List Record) (n : ℕ) (x : Front Record) → IsNoGot x → IsBody bytes b rs → StopsBy bytes n x → ⊥
no_stop bytes b rs n x none body s =
    let last : length rs ≤ length s.records = stop_last bytes s.rest [] b s.budget s.records rs s.left 0 x s.opens s.is none body in
    let sums : length s.records + s.left ≡ length rs + 0 = totals bytes s.rest [] b s.budget s.records rs s.left 0 s.opens body in
    omega (arith, last, sums, s.some)

-- one length, one rest
same_rest : (bytes rest end : List ℕ) (b c : ℕ) (qs rs : List Record) (left more : ℕ) → Opens bytes c qs left rest → Opens bytes b rs more end → length qs ≡ length rs → rest ≡ end
same_rest bytes rest end b c qs rs left more o p e =
    let f : Further read_record 0 qs rs rest end = further bytes rest end b c qs rs left more 0 o p (omega (arith, e)) in
    got_rest [] f.more rest end (sym (many_none read_record rest) ∙ f.read_more)

body_more : (bytes : List ℕ) (b : ℕ) (rs : List Record) (n : ℕ) → IsBody bytes b rs → HasMore bytes n → ⊥
body_more bytes b rs n body m =
    let sums : length m.records + 0 ≡ length rs + 0 = totals bytes m.rest [] b m.budget m.records rs 0 0 m.opens body in
    m.more (same_rest bytes m.rest [] b m.budget m.records rs 0 0 m.opens body (omega (arith, sums)))

faultless : (bytes : List ℕ) (b : ℕ) (rs : List Record) (f : BinaryFault) → IsBody bytes b rs → IsBodyFault bytes f → ⊥
faultless bytes b rs fault.BadHeader body f = got_bad (read_head bytes) (b, length rs + 0) body.behind body.head f
faultless bytes b rs (fault.BadRecord n) body f = no_stop bytes b rs n bad tt body f
faultless bytes b rs (fault.Truncated n) body (inl f) = got_short (read_head bytes) (b, length rs + 0) body.behind body.head f.is
faultless bytes b rs (fault.Truncated n) body (inr f) = no_stop bytes b rs n short tt body f
faultless bytes b rs (fault.AfterEnd n) body f = body_more bytes b rs n body f
faultless bytes b rs fault.NoMemory body f = f

pub bodies_are_one : BodiesAreOne
bodies_are_one = record { opened = body_opened; faultless = faultless }

-- TWO FAULTS
stop_bad : (bytes : List ℕ) (n : ℕ) (x : Front Record) → StopsBy bytes n x → read_head bytes ≡ bad → ⊥
stop_bad bytes n x s e = got_bad (read_head bytes) (s.budget, length s.records + s.left) s.opens.behind s.opens.head e

stop_short : (bytes : List ℕ) (n : ℕ) (x : Front Record) → StopsBy bytes n x → read_head bytes ≡ short → ⊥
stop_short bytes n x s e = got_short (read_head bytes) (s.budget, length s.records + s.left) s.opens.behind s.opens.head e

more_bad : (bytes : List ℕ) (n : ℕ) → HasMore bytes n → read_head bytes ≡ bad → ⊥
more_bad bytes n s e = got_bad (read_head bytes) (s.budget, length s.records + 0) s.opens.behind s.opens.head e

more_short : (bytes : List ℕ) (n : ℕ) → HasMore bytes n → read_head bytes ≡ short → ⊥
more_short bytes n s e = got_short (read_head bytes) (s.budget, length s.records + 0) s.opens.behind s.opens.head e

bad_cut : (bytes : List ℕ) → read_head bytes ≡ bad → read_head bytes ≡ short → ⊥
bad_cut bytes e f = bad_short (read_head bytes) e f

pub record SameStop (n m : ℕ) (x y : Front Record) : Type 0 where
  pub numbers : n ≡ m
  pub founds : x ≡ y

two_stops : (bytes : List ℕ) (n m : ℕ) (x y : Front Record) → IsNoGot x → IsNoGot y → StopsBy bytes n x → StopsBy bytes m y → SameStop n m x y
two_stops bytes n m x y none nought s t =
    let one : length t.records ≤ length s.records = stop_last bytes s.rest t.rest t.budget s.budget s.records t.records s.left t.left x s.opens s.is none t.opens in
    let other : length s.records ≤ length t.records = stop_last bytes t.rest s.rest s.budget t.budget t.records s.records t.left s.left y t.opens t.is nought s.opens in
    let size : length s.records ≡ length t.records = omega (arith, one, other) in
    let rest : s.rest ≡ t.rest = same_rest bytes s.rest t.rest t.budget s.budget s.records t.records s.left t.left s.opens t.opens size in
    record { numbers = s.counts ∙ ap (λ (k : ℕ). 1 + k) size ∙ sym t.counts; founds = sym s.is ∙ ap read_record rest ∙ t.is }

stop_more : (bytes : List ℕ) (n m : ℕ) (x : Front Record) → IsNoGot x → StopsBy bytes n x → HasMore bytes m → ⊥
stop_more bytes n m x none s h =
    let last : length h.records ≤ length s.records = stop_last bytes s.rest h.rest h.budget s.budget s.records h.records s.left 0 x s.opens s.is none h.opens in
    let sums : length s.records + s.left ≡ length h.records + 0 = totals bytes s.rest h.rest h.budget s.budget s.records h.records s.left 0 s.opens h.opens in
    omega (arith, last, sums, s.some)

two_mores : (bytes : List ℕ) (n m : ℕ) → HasMore bytes n → HasMore bytes m → n ≡ m
two_mores bytes n m g h =
    let sums : length g.records + 0 ≡ length h.records + 0 = totals bytes g.rest h.rest h.budget g.budget g.records h.records 0 0 g.opens h.opens in
    omega (arith, sums, g.counts, h.counts)

two_faults : (bytes : List ℕ) (f g : BinaryFault) → IsBodyFault bytes f → IsBodyFault bytes g → f ≡ g
two_faults bytes fault.BadHeader fault.BadHeader p q = refl
two_faults bytes fault.BadHeader (fault.BadRecord m) p q = absurd (stop_bad bytes m bad q p)
two_faults bytes fault.BadHeader (fault.Truncated m) p (inl q) = absurd (bad_cut bytes p q.is)
two_faults bytes fault.BadHeader (fault.Truncated m) p (inr q) = absurd (stop_bad bytes m short q p)
two_faults bytes fault.BadHeader (fault.AfterEnd m) p q = absurd (more_bad bytes m q p)
two_faults bytes (fault.BadRecord n) fault.BadHeader p q = absurd (stop_bad bytes n bad p q)
two_faults bytes (fault.BadRecord n) (fault.BadRecord m) p q = let s : SameStop n m bad bad = two_stops bytes n m bad bad tt tt p q in ap (λ (k : ℕ). fault.BadRecord k) s.numbers
two_faults bytes (fault.BadRecord n) (fault.Truncated m) p (inl q) = absurd (stop_short bytes n bad p q.is)
two_faults bytes (fault.BadRecord n) (fault.Truncated m) p (inr q) = let s : SameStop n m bad short = two_stops bytes n m bad short tt tt p q in let e : ◌≡◌ {A = Front Record} bad short = s.founds in cc
two_faults bytes (fault.BadRecord n) (fault.AfterEnd m) p q = absurd (stop_more bytes n m bad tt p q)
two_faults bytes (fault.Truncated n) fault.BadHeader (inl p) q = absurd (bad_cut bytes q p.is)
two_faults bytes (fault.Truncated n) fault.BadHeader (inr p) q = absurd (stop_bad bytes n short p q)
two_faults bytes (fault.Truncated n) (fault.BadRecord m) (inl p) q = absurd (stop_short bytes m bad q p.is)
two_faults bytes (fault.Truncated n) (fault.BadRecord m) (inr p) q = let s : SameStop n m short bad = two_stops bytes n m short bad tt tt p q in let e : ◌≡◌ {A = Front Record} short bad = s.founds in cc
two_faults bytes (fault.Truncated n) (fault.Truncated m) (inl p) (inl q) = ap (λ (k : ℕ). fault.Truncated k) (p.counts ∙ sym q.counts)
two_faults bytes (fault.Truncated n) (fault.Truncated m) (inl p) (inr q) = absurd (stop_short bytes m short q p.is)
two_faults bytes (fault.Truncated n) (fault.Truncated m) (inr p) (inl q) = absurd (stop_short bytes n short p q.is)
two_faults bytes (fault.Truncated n) (fault.Truncated m) (inr p) (inr q) = let s : SameStop n m short short = two_stops bytes n m short short tt tt p q in ap (λ (k : ℕ). fault.Truncated k) s.numbers
two_faults bytes (fault.Truncated n) (fault.AfterEnd m) (inl p) q = absurd (more_short bytes m q p.is)
two_faults bytes (fault.Truncated n) (fault.AfterEnd m) (inr p) q = absurd (stop_more bytes n m short tt p q)
two_faults bytes (fault.AfterEnd n) fault.BadHeader p q = absurd (more_bad bytes n p q)
two_faults bytes (fault.AfterEnd n) (fault.BadRecord m) p q = absurd (stop_more bytes m n bad tt q p)
two_faults bytes (fault.AfterEnd n) (fault.Truncated m) p (inl q) = absurd (more_short bytes n p q.is)
two_faults bytes (fault.AfterEnd n) (fault.Truncated m) p (inr q) = absurd (stop_more bytes m n short tt q p)
two_faults bytes (fault.AfterEnd n) (fault.AfterEnd m) p q = ap (λ (k : ℕ). fault.AfterEnd k) (two_mores bytes n m p q)
two_faults bytes fault.BadHeader fault.NoMemory p q = absurd q
two_faults bytes (fault.BadRecord n) fault.NoMemory p q = absurd q
two_faults bytes (fault.Truncated n) fault.NoMemory p q = absurd q
two_faults bytes (fault.AfterEnd n) fault.NoMemory p q = absurd q
two_faults bytes fault.NoMemory g p q = absurd p

-- A FAULT OR A JOURNAL
abbrev Judged : List ℕ → Type 0
Judged bytes = ((b : ℕ) × ((rs : List Record) × IsBody bytes b rs)) ⊎ ((f : BinaryFault) × IsBodyFault bytes f)

at_end : (bytes : List ℕ) (b : ℕ) (rs : List Record) (rest : List ℕ) → Opens bytes b rs 0 rest → Judged bytes
at_end bytes b rs [] o = inl (b, (rs, o))
at_end bytes b rs (x ∷ rest) o = inr (fault.AfterEnd (1 + length rs), record { budget = b; records = rs; rest = x ∷ rest; opens = o; more = λ e. cc; counts = refl })

stop_at : (bytes rest : List ℕ) (b : ℕ) (rs : List Record) (left : ℕ) (x : Front Record) → Opens bytes b rs (suc left) rest → read_record rest ≡ x → StopsBy bytes (1 + length rs) x
stop_at bytes rest b rs left x o e = record { budget = b; records = rs; left = suc left; rest = rest; opens = o; some = omega arith; is = e; counts = refl }

record_at : (bytes rest : List ℕ) (b : ℕ) (rs : List Record) (left : ℕ) (x : Front Record) → Opens bytes b rs (suc left) rest → read_record rest ≡ x → ((r : Record) (end : List ℕ) → Opens bytes b (rs ++ r ∷ []) left end → Judged bytes) → Judged bytes
record_at bytes rest b rs left (got r end) o e next = next r end (opens_next bytes rest end b rs left r o e)
record_at bytes rest b rs left bad o e next = inr (fault.BadRecord (1 + length rs), stop_at bytes rest b rs left bad o e)
record_at bytes rest b rs left short o e next = inr (fault.Truncated (1 + length rs), inr (stop_at bytes rest b rs left short o e))

go_on : (left : ℕ) (bytes rest : List ℕ) (b : ℕ) (rs : List Record) → Opens bytes b rs left rest → Judged bytes
go_on zero bytes rest b rs o = at_end bytes b rs rest o
go_on (suc left) bytes rest b rs o = record_at bytes rest b rs left (read_record rest) o refl (λ r end p. go_on left bytes end b (rs ++ r ∷ []) p)

head_at : (bytes : List ℕ) (x : Front (ℕ × ℕ)) → read_head bytes ≡ x → Judged bytes
head_at bytes (got head rest) e = go_on head.1 bytes rest head.0 [] (opens_first bytes rest head.0 head.1 e)
head_at bytes bad e = inr (fault.BadHeader, e)
head_at bytes short e = inr (fault.Truncated 0, inl (record { is = e; counts = refl }))

pub faults_are_one : FaultsAreOne
faults_are_one = record { one = two_faults; some = λ bytes. head_at bytes (read_head bytes) refl }

-- A record that is read on, part by part.
use Rattle.std.proofs.Common.{◌≡◌, ◌≢◌, ℕ, suc, ◌+◌, ◌-◌, ◌≤◌, Bool, Option, Some, None, List, [], ◌∷◌, ◌++◌, length, drop, refl, ap, sym, subst, ◌∙◌, Err, Global, Vec, append_assoc, arith, length-drop}
use Rattle.std.proofs.lemmas.Grind.{common_steps}
use Rattle.std.proofs.lemmas.List.{append-nil}
use Rattle.rm_base.specs.declared.numbers.Fault.{Fault}
use Rattle.refutation.specs.declared.items.Item.{Item}
use Rattle.wire_edit.specs.Order.{node}
use Rattle.wire_edit.specs.declared.steps.Step.{Step}
use Rattle.wire_edit.specs.declared.steps.Step.TheVariants as step
use Rattle.journal_text.specs.declared.keywords.Keyword.{Keyword}
use Rattle.journal_text.specs.declared.keywords.Keyword.TheVariants as keyword
use Rattle.journal_text.specs.declared.record.Record.{Record}
use Rattle.journal_text.specs.declared.record.Record.TheVariants as kept
use Rattle.journal_binary.specs.Fronts.{Front, bad, got, keyword_among, read_bit, read_count, read_fault, read_fields, read_four, read_item, read_keyword, read_many, read_record, record_keywords, short, then_read}
use Rattle.journal_binary.specs.Inner.Answers.{Stopped, TakesOne, front_of, stop_of}
use Rattle.journal_binary.specs.declared.fronts.Lack.{Lack}
use Rattle.journal_binary.specs.declared.fronts.Lack.TheVariants as lack
use Rattle.journal_binary.specs.declared.fronts.Stop.{Stop}
use Rattle.journal_binary.specs.declared.fronts.Stop.TheVariants as stop
use Rattle.journal_binary.specs.Inner.Openings.{open_fields, open_keyword, read_opening}
use Rattle.journal_binary.specs.Inner.Parts.{Continues, IsWhole, made, made_of, more_of, whole_of}
use Rattle.journal_binary.specs.declared.openings.Begun.{Begun}
use Rattle.journal_binary.specs.declared.openings.Begun.TheVariants as begun
use Rattle.journal_binary.specs.declared.openings.Opened.{Opened}
use Rattle.journal_binary.specs.declared.openings.Opened.TheVariants as opened
use Rattle.journal_binary.specs.declared.parts.Part.{Part}
use Rattle.journal_binary.specs.declared.parts.Part.TheVariants as part
use Rattle.journal_binary.proofs.Steady.{Steady, many_none, many_one, opening_is, opening_none, opening_steady, record_is, record_none, stays_got}

pub drop_twice : (xs : List ℕ) (a b : ℕ) → drop b (drop a xs) ≡ drop (a + b) xs
drop_twice xs a b = grind (arith, common_steps)

-- GOING ON
pub goes_nowhere : {A : Type 0} (f : List ℕ → Front A) (bytes : List ℕ) (at : ℕ) → at ≤ length bytes → Continues f f bytes at at
goes_nowhere f bytes at le = record { after = omega arith; within = le; same = λ more. refl }

pub goes_then : {A : Type 0} (f g h : List ℕ → Front A) (bytes : List ℕ) (a b c : ℕ) → Continues f g bytes a b → Continues g h bytes b c → Continues f h bytes a c
goes_then f g h bytes a b c p q = record { after = (let x = p.after in let y = q.after in omega arith); within = q.within; same = λ more. p.same more ∙ q.same more }

-- the same of what is made of either
pub goes_under : {A B : Type 0} (f g : List ℕ → Front A) (k : A → List ℕ → Front B) (bytes : List ℕ) (a b : ℕ) → Continues f g bytes a b → Continues (λ (xs : List ℕ). then_read (f xs) k) (λ (xs : List ℕ). then_read (g xs) k) bytes a b
goes_under f g k bytes a b p = record { after = p.after; within = p.within; same = λ more. ap (λ (x : Front _). then_read x k) (p.same more) }

-- and with nothing behind
pub goes_here : {A : Type 0} (f g : List ℕ → Front A) (bytes : List ℕ) (a b : ℕ) → Continues f g bytes a b → f (drop a bytes) ≡ g (drop b bytes)
goes_here f g bytes a b p = ap f (sym (append-nil (drop a bytes))) ∙ p.same [] ∙ ap g (append-nil (drop b bytes))

-- ONE PART MORE
one_of : {A : Type 0} (x : Front (List A)) (done : List A) (a : A)
    → then_read (then_read x (λ more rest. got (a ∷ more) rest)) (λ more rest. got (done ++ more) rest) ≡ then_read x (λ more rest. got ((done ++ a ∷ []) ++ more) rest)
one_of (got more rest) done a = ap (λ (xs : List _). got xs rest) (sym (append_assoc done (a ∷ []) more))
one_of bad done a = refl
one_of short done a = refl

more_one : {A : Type 0} (read : List ℕ → Front A) (done : List A) (k : ℕ) (bytes rest : List ℕ) (a : A) → read bytes ≡ got a rest → more_of read done (suc k) bytes ≡ more_of read (done ++ a ∷ []) k rest
more_one read done k bytes rest a e =
    ap (λ (x : Front (List _)). then_read x (λ more rest. got (done ++ more) rest)) (many_one read k bytes ∙ ap (λ (x : Front _). then_read x (λ a rest. then_read (read_many read k rest) (λ more rest. got (a ∷ more) rest))) e)
    ∙ one_of (read_many read k rest) done a

one_less : (left : ℕ) → left ≢ 0 → left ≡ suc (left - 1)
one_less left n = omega arith

pub goes_one : {A : Type 0} (read : List ℕ → Front A) → Steady read → (done new : List A) (left : ℕ) (bytes : List ℕ) (at count : ℕ) → left ≢ 0 → at ≤ length bytes → TakesOne read (drop at bytes) done new count
    → Continues (more_of read done left) (more_of read new (left - 1)) bytes at (at + count)
goes_one read s done new left bytes at count n le t = record {
  after = omega arith;
  within = (let w = t.within in let l = length-drop at bytes in omega arith);
  same = λ more.
      ap (λ (k : ℕ). more_of read done k (drop at bytes ++ more)) (one_less left n)
      ∙ more_one read done (left - 1) (drop at bytes ++ more) (drop count (drop at bytes) ++ more) t.value (stays_got read (drop at bytes) (drop count (drop at bytes)) more t.value s t.is)
      ∙ ap (λ (xs : List ℕ). more_of read (done ++ t.value ∷ []) (left - 1) (xs ++ more)) (drop_twice bytes at count)
      ∙ ap (λ (d : List _). more_of read d (left - 1) (drop (at + count) bytes ++ more)) (sym t.adds);
}

-- where the next one is wrong or early
stops_by : {A : Type 0} (read : List ℕ → Front A) (done : List A) (left : ℕ) (bytes : List ℕ) (x : Front A) → left ≢ 0 → read bytes ≡ x
    → more_of read done left bytes ≡ then_read (then_read x (λ a rest. then_read (read_many read (left - 1) rest) (λ more rest. got (a ∷ more) rest))) (λ more rest. got (done ++ more) rest)
stops_by read done left bytes x n e =
    ap (λ (k : ℕ). more_of read done k bytes) (one_less left n)
    ∙ ap (λ (x : Front (List _)). then_read x (λ more rest. got (done ++ more) rest))
    (many_one read (left - 1) bytes ∙ ap (λ (x : Front _). then_read x (λ a rest. then_read (read_many read (left - 1) rest) (λ more rest. got (a ∷ more) rest))) e)

pub stopped_more : {A : Type 0} (read : List ℕ → Front A) (done : List A) (left : ℕ) (bytes : List ℕ) (s : Stop) → left ≢ 0 → Stopped s (read bytes) → Stopped s (more_of read done left bytes)
stopped_more read done left bytes stop.Wrong n h = stops_by read done left bytes bad n h
stopped_more read done left bytes stop.Early n h = stops_by read done left bytes short n h
stopped_more read done left bytes stop.NoMemory n h = tt

pub stopped_then : {A B : Type 0} (x : Front A) (f : A → List ℕ → Front B) (s : Stop) → Stopped s x → Stopped s (then_read x f)
stopped_then x f stop.Wrong h = ap (λ (y : Front _). then_read y f) h
stopped_then x f stop.Early h = ap (λ (y : Front _). then_read y f) h
stopped_then x f stop.NoMemory h = tt

pub more_whole : {A : Type 0} (read : List ℕ → Front A) (done : List A) (left : ℕ) (bytes : List ℕ) → left ≡ 0 → more_of read done left bytes ≡ got done bytes
more_whole read done left bytes e =
    ap (λ (n : ℕ). more_of read done n bytes) e ∙ ap (λ (x : Front (List _)). then_read x (λ more rest. got (done ++ more) rest)) (many_none read bytes) ∙ ap (λ (d : List _). got d bytes) (append-nil done)

-- OPENINGS
pub then_same : {A B : Type 0} (x : Front A) (f g : A → List ℕ → Front B) → ((a : A) (rest : List ℕ) → f a rest ≡ g a rest) → then_read x f ≡ then_read x g
then_same (got a rest) f g h = h a rest
then_same bad f g h = refl
then_same short f g h = refl

pub then_then : {A B C : Type 0} (x : Front A) (f : A → List ℕ → Front B) (g : B → List ℕ → Front C) → then_read (then_read x f) g ≡ then_read x (λ a rest. then_read (f a rest) g)
then_then (got a rest) f g = refl
then_then bad f g = refl
then_then short f g = refl

bare_made : (s : Step) (rest : List ℕ) → got (kept.Step s []) rest ≡ made_of (opened.Items (begun.Step s) 0) rest
bare_made s rest = sym (ap (λ (x : Front (List Item)). then_read x (λ items rest. got (kept.Step s items) rest)) (many_none read_item rest))

-- one number, and two
one_made : (f : ℕ → Step) (bytes : List ℕ) → then_read (read_four bytes) (λ n rest. got (kept.Step (f n) []) rest) ≡ then_read (then_read (read_four bytes) (λ n rest. got (opened.Items (begun.Step (f n)) 0) rest)) made_of
one_made f bytes = then_same (read_four bytes) _ _ (λ n rest. bare_made (f n) rest) ∙ sym (then_then (read_four bytes) _ made_of)

two_made : (f : ℕ → ℕ → Step) (bytes : List ℕ)
    → then_read (read_four bytes) (λ n rest. then_read (read_four rest) (λ q rest. got (kept.Step (f n q) []) rest))
    ≡ then_read (then_read (read_four bytes) (λ n rest. then_read (read_four rest) (λ q rest. got (opened.Items (begun.Step (f n q)) 0) rest))) made_of
two_made f bytes = then_same (read_four bytes) _ _ (λ n rest. one_made (f n) rest) ∙ sym (then_then (read_four bytes) _ made_of)

-- a count and so many
counted_made : {A : Type 0} (read : List ℕ → Front A) (opens : ℕ → Opened) (record_of : List A → Record) (bytes : List ℕ) → ((n : ℕ) (rest : List ℕ) → made_of (opens n) rest ≡ then_read (read_many read n rest) (λ more rest. got (record_of more) rest))
    → then_read (then_read (read_count bytes) (λ n rest. read_many read n rest)) (λ more rest. got (record_of more) rest) ≡ then_read (then_read (read_count bytes) (λ n rest. got (opens n) rest)) made_of
counted_made read opens record_of bytes h =
    then_then (read_count bytes) (λ n rest. read_many read n rest) _
    ∙ then_same (read_count bytes) _ _ (λ n rest. sym (h n rest)) ∙ sym (then_then (read_count bytes) (λ n rest. got (opens n) rest) made_of)

faulty_made : {A : Type 0} (read : List ℕ → Front A) (opens : Fault → ℕ → Opened) (record_of : Fault → List A → Record) (bytes : List ℕ)
    → ((f : Fault) (n : ℕ) (rest : List ℕ) → made_of (opens f n) rest ≡ then_read (read_many read n rest) (λ more rest. got (record_of f more) rest))
    → then_read (read_fault bytes) (λ f rest. then_read (then_read (read_count rest) (λ n rest. read_many read n rest)) (λ more rest. got (record_of f more) rest))
    ≡ then_read (then_read (read_fault bytes) (λ f rest. then_read (read_count rest) (λ n rest. got (opens f n) rest))) made_of
faulty_made read opens record_of bytes h =
    then_same (read_fault bytes) _ _ (λ f rest. counted_made read (opens f) (record_of f) rest (h f)) ∙ sym (then_then (read_fault bytes) (λ f rest. then_read (read_count rest) (λ n rest. got (opens f n) rest)) made_of)

add_made : (bytes : List ℕ) → read_fields keyword.Add bytes ≡ then_read (open_fields keyword.Add bytes) made_of
add_made bytes =
    then_same (read_four bytes) _ _
    (λ gate rest. then_same (read_four rest) _ _ (λ driver rest. counted_made read_item (λ n. opened.Items (begun.Step (step.Add (node gate) (node driver))) n) (λ tree. kept.Step (step.Add (node gate) (node driver)) tree) rest (λ n rest. refl))
    ∙ sym (then_then (read_four rest) _ made_of))
    ∙ sym (then_then (read_four bytes) _ made_of)

fields_made : (k : Keyword) (bytes : List ℕ) → read_fields k bytes ≡ then_read (open_fields k bytes) made_of
fields_made keyword.Add bytes = add_made bytes
fields_made keyword.Fix bytes = faulty_made read_item (λ f n. opened.Items (begun.Step (step.Fix f.gate f.position f.value)) n) (λ f tree. kept.Step (step.Fix f.gate f.position f.value) tree) bytes (λ f n rest. refl)
fields_made keyword.NewNot bytes = one_made (λ n. step.NewNot (node n)) bytes
fields_made keyword.Const bytes = two_made (λ n q. step.Const (node n) q) bytes
fields_made keyword.Same bytes = two_made (λ n q. step.Same (node n) q) bytes
fields_made keyword.NoPins bytes = one_made (λ n. step.NoPins (node n)) bytes
fields_made keyword.OnePin bytes = one_made (λ n. step.OnePin (node n)) bytes
fields_made keyword.Twice bytes = one_made (λ n. step.Twice (node n)) bytes
fields_made keyword.Twin bytes = two_made (λ n q. step.Twin (node n) (node q)) bytes
fields_made keyword.Dead bytes = one_made (λ n. step.Dead (node n)) bytes
fields_made keyword.Hit bytes = faulty_made read_bit (λ f n. opened.Bits f n) (λ f bits. kept.Hit f bits) bytes (λ f n rest. refl)
fields_made keyword.Spent bytes = faulty_made read_item (λ f n. opened.Items (begun.Spent f) n) (λ f tree. kept.Spent f tree) bytes (λ f n rest. refl)
fields_made keyword.Header bytes = refl
fields_made keyword.End bytes = refl

keyword_made : (o : Option Keyword) (bytes : List ℕ) → read_keyword o bytes ≡ then_read (open_keyword o bytes) made_of
keyword_made None bytes = refl
keyword_made (Some k) bytes = fields_made k bytes

pub record_made : (bytes : List ℕ) → read_record bytes ≡ then_read (read_opening bytes) made_of
record_made [] = record_none ∙ ap (λ (x : Front Opened). then_read x made_of) (sym opening_none)
record_made (b ∷ bytes) = record_is b bytes ∙ keyword_made (keyword_among record_keywords b) bytes ∙ ap (λ (x : Front Opened). then_read x made_of) (sym (opening_is b bytes))

pub goes_opened : (bytes : List ℕ) (at count : ℕ) (o : Opened) (p : Part) → at ≤ length bytes → count ≤ length (drop at bytes) → read_opening (drop at bytes) ≡ got o (drop count (drop at bytes)) → ((xs : List ℕ) → made p xs ≡ made_of o xs)
    → Continues read_record (made p) bytes at (at + count)
goes_opened bytes at count o p le most e h = record {
  after = omega arith;
  within = (let l = length-drop at bytes in omega arith);
  same = λ more.
      record_made (drop at bytes ++ more) ∙ ap (λ (x : Front Opened). then_read x made_of) (stays_got read_opening (drop at bytes) (drop count (drop at bytes)) more o opening_steady e)
      ∙ ap (λ (xs : List ℕ). made_of o (xs ++ more)) (drop_twice bytes at count) ∙ sym (h (drop (at + count) bytes ++ more));
}

-- an opening that is wrong or early
pub stopped_opening : {X : Type 0} (f : X → Opened × List ℕ) (bytes : List ℕ) (l : Lack) (p : Part) → p ≡ part.Between → front_of f (Err l) ≡ read_opening bytes → Stopped (stop_of l) (made p bytes)
stopped_opening f bytes lack.Wrong p e h = ap (λ (q : Part). made q bytes) e ∙ record_made bytes ∙ ap (λ (x : Front Opened). then_read x made_of) (sym h)
stopped_opening f bytes lack.Early p e h = ap (λ (q : Part). made q bytes) e ∙ record_made bytes ∙ ap (λ (x : Front Opened). then_read x made_of) (sym h)

-- WHOLE PARTS
pub items_whole : (p : Part) (what : Begun) (tree : List Item) (left : ℕ) (r : Record) (bytes : List ℕ) → p ≡ part.Items what tree left → IsWhole p → r ≡ whole_of what tree → made p bytes ≡ got r bytes
items_whole p what tree left r bytes e w is =
    ap (λ (q : Part). made q bytes) e ∙ ap (λ (x : Front (List Item)). then_read x (λ items rest. got (whole_of what items) rest)) (more_whole read_item tree left bytes (subst IsWhole e w))
    ∙ ap (λ (s : Record). got s bytes) (sym is)

pub bits_whole : (p : Part) (fault : Fault) (values : Vec Bool Global) (left : ℕ) (vector : List Bool) (bytes : List ℕ) → p ≡ part.Bits fault values left → IsWhole p → vector ≡ values.items → made p bytes ≡ got (kept.Hit fault vector) bytes
bits_whole p fault values left vector bytes e w is =
    ap (λ (q : Part). made q bytes) e ∙ ap (λ (x : Front (List Bool)). then_read x (λ bits rest. got (kept.Hit fault bits) rest)) (more_whole read_bit values.items left bytes (subst IsWhole e w))
    ∙ ap (λ (v : List Bool). got (kept.Hit fault v) bytes) (sym is)

-- Pins and the formals of a called model.
use Rattle.std.proofs.Common.{◌≡◌, ℕ, zero, suc, ◌+◌, ◌-◌, ◌<◌, ◌≤◌, List, [], ◌∷◌, ◌++◌, map, length, take, drop, get_or, Bool, true, false, ◌||◌, not, inl, inr, Option, None, Some, refl, sym, ap, ◌∙◌, subst, arith, add-one}
use Rattle.std.specs.Prelude.{slice_get, if◌then◌else◌}
use Rattle.std.specs.Option.{option_map}
use Rattle.std.specs.List.{cons_option, list_all}
use Rattle.std.proofs.lemmas.List.{append_assoc, append-nil, length-map}
use Rattle.std.proofs.lemmas.Bool.{or_cases}
use Rattle.rm_base.specs.Words.{Word}
use Rattle.rm_base.specs.declared.numbers.Place.{Place}
use Rattle.rm_base.proofs.Public.{and_first, and_second, both_and, drop_stands, stands_below, take_one_more}
use Rattle.rm_model.specs.Words.{is_word}
use Rattle.rm_model.specs.Numbers.{place_of}
use Rattle.rm_model.specs.Value.{is_among}
use Rattle.rm_model.specs.declared.parts.Model.{Model}
use Rattle.rm_model.proofs.Public.{is_word-same, same_word}
use Rattle.blif_lines.specs.Reading.{spot_of}
use Rattle.blif_lines.specs.declared.line.Token.{Token}
use Rattle.blif_format.specs.declared.refusal.FaultKind.TheVariants.{BadPin, MissingPin}
use Rattle.blif_format.specs.declared.refusal.ReadRefusal.{ReadRefusal}
use Rattle.blif_format.specs.FirstFault.{or_else, fault_if, fault}
use Rattle.blif_reader.specs.Meant.{IsRefusal}
use Rattle.blif_reader.specs.Lines.{spots_at}
use Rattle.blif_reader.proofs.Public.{take_whole}
use Rattle.blif_flatten.specs.Calls.{Call, Connection, call_of, connection_of}
use Rattle.blif_flatten.specs.CallFaults.{formals_fault, formals_of, gives_inputs, inward, is_formal, module_at, module_name, pins_fault, place_named}
use Rattle.blif_flatten.specs.declared.calls.Callable.{Callable}
use Rattle.blif_flatten.specs.declared.modules.Module.{Module}
use Rattle.blif_flatten.specs.declared.interfaces.Interface.{Interface}
use Rattle.blif_flatten.specs.Inner.Interfaces.{AreFormals, IsCallable, IsInterface, Names, TakesFormal, bytes_of, fault_of_call, pins_at, pins_fault_in}
use Rattle.blif_flatten.proofs.Refusals.{refused}

-- PINS, ONE BY ONE
pins-first : (text : Word) (t : Token) (ts : List Token) → pins_at text (t ∷ ts) ≡ cons_option (connection_of (spot_of text t)) (pins_at text ts)
pins-first text t ts = refl

cons-apart : {A : Type 0} (o : Option A) (xs : List A) → cons_option o xs ≡ cons_option o [] ++ xs
cons-apart None xs = refl
cons-apart (Some x) xs = refl

pub pins-last : (text : Word) (ts : List Token) (t : Token) → pins_at text (ts ++ t ∷ []) ≡ pins_at text ts ++ cons_option (connection_of (spot_of text t)) []
pins-last text [] t = refl
pins-last text (u ∷ us) t = at (connection_of (spot_of text u)) (pins-last text us t)
  where
    at : (o : Option Connection) → pins_at text (us ++ t ∷ []) ≡ pins_at text us ++ cons_option (connection_of (spot_of text t)) [] → cons_option o (pins_at text (us ++ t ∷ [])) ≡ cons_option o (pins_at text us) ++ cons_option (connection_of (spot_of text t)) []
    at None ih = ih
    at (Some p) ih = ap (λ (ps : List Connection). p ∷ ps) ih

-- a fault of the first pin is one of all
pub pin-refused : (m : Model) (given : List Word) (o : Option Connection) (ps : List Connection) (e : ReadRefusal) → IsRefusal e (formals_fault m given (cons_option o [])) → IsRefusal e (formals_fault m given (cons_option o ps))
pin-refused m given None ps e h = refused e None (formals_fault m given ps) (λ r f. absurd cc) h
pin-refused m given (Some p) ps e h = refused e (formals_fault m given (p ∷ [])) (formals_fault m given (p ∷ ps)) (λ r f. at (fault_if (is_among given p.formal || not (is_formal m p.formal)) BadPin p.place) r f) h
  where
    at : (o : Option ReadRefusal) (r : ReadRefusal) → or_else o None ≡ Some r → or_else o (formals_fault m (given ++ p.formal ∷ []) ps) ≡ Some r
    at None r f = absurd cc
    at (Some x) r f = f

pub pin-taken : (m : Model) (given after : List Word) (o : Option Connection) (ps : List Connection) → TakesFormal m given o after → formals_fault m given (cons_option o ps) ≡ formals_fault m after ps
pin-taken m given after None ps t = ap (λ (g : List Word). formals_fault m g ps) (sym t)
pin-taken m given after (Some p) ps t = at (fault_if (is_among given p.formal || not (is_formal m p.formal)) BadPin p.place) t.0 ∙ ap (λ (g : List Word). formals_fault m g ps) (sym t.1)
  where
    at : (o : Option ReadRefusal) → or_else o None ≡ None → or_else o (formals_fault m (given ++ p.formal ∷ []) ps) ≡ formals_fault m (given ++ p.formal ∷ []) ps
    at None f = refl
    at (Some x) f = absurd cc

pub pin-given : (m : Model) (given after : List Word) (ps : List Connection) (o : Option Connection) → given ≡ formals_of ps → TakesFormal m given o after → after ≡ formals_of (ps ++ cons_option o [])
pin-given m given after ps None had t = t ∙ (had ∙ ap formals_of (sym (append-nil ps)))
pin-given m given after ps (Some p) had t = t.1 ∙ (ap (λ (g : List Word). g ++ p.formal ∷ []) had ∙ sym (formals-last ps p))
  where
    formals-last : (ps : List Connection) (p : Connection) → formals_of (ps ++ p ∷ []) ≡ formals_of ps ++ p.formal ∷ []
    formals-last [] p = refl
    formals-last (q ∷ qs) p = ap (λ (ws : List Word). q.formal ∷ ws) (formals-last qs p)

-- TESTS OF ALL NAMES
all-by-among : (test : Word → Bool) (xs ys : List Word) → list_all test xs ≡ true → ((x : Word) → is_among ys x ≡ true → is_among xs x ≡ true) → list_all test ys ≡ true
all-by-among test xs [] h k = refl
all-by-among test xs (y ∷ ys) h k =
    both_and (test y) (list_all test ys) (one xs h (k y (ap (λ (b : Bool). b || is_among ys y) (is_word-same y))))
    (all-by-among test xs ys h (λ x e. k x (later x e)))
  where
    later : (x : Word) → is_among ys x ≡ true → (is_word x y || is_among ys x) ≡ true
    later x e = at (is_word x y)
      where
        at : (b : Bool) → (b || is_among ys x) ≡ true
        at true = refl
        at false = e

    one : (xs : List Word) → list_all test xs ≡ true → is_among xs y ≡ true → test y ≡ true
    one [] h e = absurd cc
    one (x ∷ xs) h e = elim (or_cases (is_word y x) (is_among xs y) e) [
      | inl here ↦ ap test (same_word y x here) ∙ and_first (test x) (list_all test xs) h
      | inr there ↦ one xs (and_second (test x) (list_all test xs) h) there
    ]

pub all-same : (test : Word → Bool) (xs ys : List Word) → ((x : Word) → is_among xs x ≡ is_among ys x) → list_all test xs ≡ list_all test ys
all-same test xs ys same = at (list_all test xs) refl (list_all test ys) refl
  where
    at : (a : Bool) → list_all test xs ≡ a → (b : Bool) → list_all test ys ≡ b → list_all test xs ≡ list_all test ys
    at true e b f = e ∙ sym (all-by-among test xs ys e (λ x g. same x ∙ g))
    at false e true f = all-by-among test ys xs f (λ x g. sym (same x) ∙ g) ∙ sym f
    at false e false f = e ∙ sym f

pub inward-listed : (test : Word → Bool) (i : Interface) (m : Model) → IsInterface i m → list_all test (inward m) ≡ list_all test (bytes_of i.inward.names.items)
inward-listed test i m h =
    let f : AreFormals i.inward (inward m) = h.inward_are in
    all-same test (inward m) (bytes_of i.inward.names.items) (λ x. sym (f.among x) ∙ ap (λ (ws : List Word). is_among ws x) (sym f.listed))

-- ALL PINS
pub pins-missing : (m : Model) (place : Place) (pins : List Connection) (given : List Word) → formals_fault m [] pins ≡ None → given ≡ formals_of pins → list_all (is_among given) (inward m) ≡ false → pins_fault_in m place pins ≡ fault MissingPin place
pins-missing m place pins given none is missing =
    ap (λ (o : Option ReadRefusal). or_else o (fault_if (not (gives_inputs m pins)) MissingPin place)) none
    ∙ ap (λ (b : Bool). fault_if (not b) MissingPin place) (ap (λ (g : List Word). list_all (is_among g) (inward m)) (sym is) ∙ missing)

pub pins-whole : (m : Model) (place : Place) (pins : List Connection) (given : List Word) → formals_fault m [] pins ≡ None → given ≡ formals_of pins → list_all (is_among given) (inward m) ≡ true → pins_fault_in m place pins ≡ None
pins-whole m place pins given none is whole =
    ap (λ (o : Option ReadRefusal). or_else o (fault_if (not (gives_inputs m pins)) MissingPin place)) none
    ∙ ap (λ (b : Bool). fault_if (not b) MissingPin place) (ap (λ (g : List Word). list_all (is_among g) (inward m)) (sym is) ∙ whole)

-- THE CALLED MODEL
pub called-names : (c : Callable) (modules : List Module) (name : Word) (place : ℕ) (i : Interface) → IsCallable c modules → place_of c.names name ≡ Some place → slice_get c.interfaces.items place ≡ Some i → Names modules name i
called-names c modules name place i known found at =
    let below : place < length modules = subst (λ (n : ℕ). place < n) known.interfaces_are.count (slice_get_under c.interfaces.items place i at) in
    let there : (m : Module) × (slice_get modules place ≡ Some m) = stands_below modules place below in
    record {
      place = place;
      found = ap (λ (ws : List Word). place_of ws name) (sym known.names_are) ∙ found;
      callee = there.0;
      there = there.1;
      interface = known.interfaces_are.each place i there.0 at there.1;
    }
  where
    slice_get_under : {A : Type 0} (xs : List A) (k : ℕ) (x : A) → slice_get xs k ≡ Some x → k < length xs
    slice_get_under [] k x e = absurd cc
    slice_get_under (y ∷ ys) zero x e = omega arith
    slice_get_under (y ∷ ys) (suc k) x e = let h : k < length ys = slice_get_under ys k x e in omega (arith, h)

pub place-below : (ws : List Word) (name : Word) (place : ℕ) → place_of ws name ≡ Some place → place < length ws
place-below [] name place e = absurd cc
place-below (w ∷ ws) name place e = at (is_word name w) (place_of ws name) refl e (place-below ws name)
  where
    at : (b : Bool) (o : Option ℕ) → place_of ws name ≡ o → (if b then Some 0 else option_map (λ k. suc k) o) ≡ Some place → ((k : ℕ) → place_of ws name ≡ Some k → k < length ws) → place < suc (length ws)
    at true o is e rest = let same : 0 ≡ place = cc in omega (arith, same)
    at false None is e rest = absurd cc
    at false (Some k) is e rest = let same : suc k ≡ place = cc in let h : k < length ws = rest k is in omega (arith, same, h)

-- a name that is found has an interface
pub called-there : (c : Callable) (modules : List Module) (name : Word) (place : ℕ) → IsCallable c modules → place_of c.names name ≡ Some place → slice_get c.interfaces.items place ≡ None → ⊥
called-there c modules name place known found none =
    let below : place < length c.names = place-below c.names name place found in
    let names : length c.names ≡ length modules = ap length known.names_are ∙ length-map modules module_name in
    let same : length c.interfaces.items ≡ length modules = known.interfaces_are.count in
    let there = stands_below c.interfaces.items place (omega (arith, below, names, same)) in
    let bad : Some there.0 ≡ None = sym there.1 ∙ none in absurd cc

pub called-none : (c : Callable) (modules : List Module) (name : Word) → IsCallable c modules → place_of c.names name ≡ None → place_named modules name ≡ None
called-none c modules name known none = ap (λ (ws : List Word). place_of ws name) (sym known.names_are) ∙ none

-- THE LOOP OVER PINS
module _ (text : Word) (pins : List Token) (k : ℕ) (t : Token) (at : slice_get pins k ≡ Some t) where
  pins-from : pins_at text (drop k pins) ≡ cons_option (connection_of (spot_of text t)) (pins_at text (drop (k + 1) pins))
  pins-from = ap (pins_at text) (drop_stands pins k t at ∙ ap (λ (n : ℕ). t ∷ drop n pins) (sym (add-one k)))

  pins-to : pins_at text (take (k + 1) pins) ≡ pins_at text (take k pins) ++ cons_option (connection_of (spot_of text t)) []
  pins-to = ap (pins_at text) (take_one_more pins k t at) ∙ pins-last text (take k pins) t

  pub formals-refused : (m : Model) (given : List Word) (e : ReadRefusal) → formals_fault m [] (pins_at text pins) ≡ formals_fault m given (pins_at text (drop k pins)) → IsRefusal e (formals_fault m given (cons_option (connection_of (spot_of text t)) [])) → IsRefusal e (formals_fault m [] (pins_at text pins))
  formals-refused m given e same h = subst (λ (o : Option ReadRefusal). IsRefusal e o) (sym (same ∙ ap (formals_fault m given) pins-from)) (pin-refused m given (connection_of (spot_of text t)) (pins_at text (drop (k + 1) pins)) e h)

  pub formals-go : (m : Model) (given after : List Word) → formals_fault m [] (pins_at text pins) ≡ formals_fault m given (pins_at text (drop k pins)) → given ≡ formals_of (pins_at text (take k pins)) → TakesFormal m given (connection_of (spot_of text t)) after
      → (formals_fault m [] (pins_at text pins) ≡ formals_fault m after (pins_at text (drop (k + 1) pins))) × (after ≡ formals_of (pins_at text (take (k + 1) pins)))
  formals-go m given after same had took = (
    same ∙ (ap (formals_fault m given) pins-from ∙ pin-taken m given after (connection_of (spot_of text t)) (pins_at text (drop (k + 1) pins)) took),
    pin-given m given after (pins_at text (take k pins)) (connection_of (spot_of text t)) had took ∙ ap formals_of (sym pins-to),
  )

  -- the same of a list that is made of the pins
  pub mapped-go : {A : Type 0} (f : Connection → A) (out after all : List A) → out ++ map f (pins_at text (drop k pins)) ≡ all → after ≡ out ++ map f (cons_option (connection_of (spot_of text t)) []) → after ++ map f (pins_at text (drop (k + 1) pins)) ≡ all
  mapped-go f out after all had added =
      ap (λ xs. xs ++ map f (pins_at text (drop (k + 1) pins))) added
      ∙ (append_assoc out (map f (cons_option (connection_of (spot_of text t)) [])) (map f (pins_at text (drop (k + 1) pins)))
      ∙ (ap (λ xs. out ++ xs) (joins (connection_of (spot_of text t)) (pins_at text (drop (k + 1) pins)) ∙ ap (map f) (sym pins-from)) ∙ had))
    where
      joins : (o : Option Connection) (ps : List Connection) → map f (cons_option o []) ++ map f ps ≡ map f (cons_option o ps)
      joins None ps = refl
      joins (Some p) ps = refl

pub formals-whole : (text : Word) (pins : List Token) (k : ℕ) (given : List Word) → given ≡ formals_of (pins_at text (take k pins)) → length pins ≤ k → given ≡ formals_of (pins_at text pins)
formals-whole text pins k given had far = had ∙ ap (λ (ts : List Token). formals_of (pins_at text ts)) (take_whole pins k far)

pub token-at : {A : Type 0} (xs : List A) (k : ℕ) (d : A) → k < length xs → slice_get xs k ≡ Some (get_or xs k d)
token-at [] k d h = absurd (omega (arith, h))
token-at (x ∷ xs) zero d h = refl
token-at (x ∷ xs) (suc k) d h = token-at xs k d (omega (arith, h))

-- A LINE THAT IS A CALL
pub call-is : (modules : List Module) (text : Word) (line : List Token) (c : Call) (i : Interface) → call_of (spots_at text line) ≡ Some c → (n : Names modules c.callee i) → fault_of_call modules (call_of (spots_at text line)) ≡ pins_fault_in n.callee.model c.place c.pins
call-is modules text line c i is n =
    ap (fault_of_call modules) is ∙ (ap (λ (o : Option ℕ). pins_fault c (module_at modules o)) n.found ∙ ap (pins_fault c) n.there)

-- all but the first two
pub rest-of : {A : Type 0} (xs : List A) → take (length xs - 2) (drop 2 xs) ≡ drop 2 xs
rest-of [] = refl
rest-of (x ∷ []) = refl
rest-of (x ∷ y ∷ xs) = take_whole xs (length (x ∷ y ∷ xs) - 2) (omega arith)

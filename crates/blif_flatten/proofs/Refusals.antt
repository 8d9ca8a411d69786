-- A refusal of one of several looks in order.
use Rattle.std.proofs.Common.{◌≡◌, List, ◌∷◌, Option, None, Some, refl, sym, ap, ◌∙◌, subst}
use Rattle.blif_format.specs.declared.refusal.ReadRefusal.{ReadRefusal}
use Rattle.blif_format.specs.declared.refusal.ReadRefusal.TheVariants.{Fault, Limit, NoMemory}
use Rattle.blif_format.specs.FirstFault.{or_else}
use Rattle.std.specs.Prelude.{IfErr, Result, Ok, Err}
use Rattle.blif_reader.specs.Meant.{IsRefusal, refusal_of}
use Rattle.blif_flatten.specs.CallFaults.{first_of}

pub refused : (e : ReadRefusal) (f g : Option ReadRefusal) → ((r : ReadRefusal) → f ≡ Some r → g ≡ Some r) → IsRefusal e f → IsRefusal e g
refused NoMemory f g h r = tt
refused (Fault kind place) f g h r = h (Fault kind place) r
refused (Limit quantity count place) f g h r = h (Limit quantity count place) r

pub refused-first : (e : ReadRefusal) (a b : Option ReadRefusal) → IsRefusal e a → IsRefusal e (or_else a b)
refused-first e a b h = refused e a (or_else a b) (λ r f. ap (λ (o : Option ReadRefusal). or_else o b) f) h

pub refused-later : (e : ReadRefusal) (a b : Option ReadRefusal) → a ≡ None → IsRefusal e b → IsRefusal e (or_else a b)
refused-later e a b none h = refused e b (or_else a b) (λ r f. ap (λ (o : Option ReadRefusal). or_else o b) none ∙ f) h

pub refused-same : (e : ReadRefusal) (a b : Option ReadRefusal) → a ≡ b → IsRefusal e a → IsRefusal e b
refused-same e a b same h = subst (λ (o : Option ReadRefusal). IsRefusal e o) same h

-- no fault is before another one
pub none-then : (a b : Option ReadRefusal) → a ≡ None → or_else a b ≡ b
none-then a b none = ap (λ (o : Option ReadRefusal). or_else o b) none

-- the first of a list
pub first-step : {A : Type 0} (test : A → Option ReadRefusal) (all : Option ReadRefusal) (x : A) (xs : List A) → all ≡ first_of test (x ∷ xs) → test x ≡ None → all ≡ first_of test xs
first-step test all x xs same none = same ∙ none-then (test x) (first_of test xs) none

its-own : (f : ReadRefusal) → IsRefusal f (Some f)
its-own NoMemory = tt
its-own (Fault kind place) = refl
its-own (Limit quantity count place) = refl

-- a look that refuses at the first fault
pub told : {A : Type 0} (r : Result A ReadRefusal) (f : ReadRefusal) (first : Option ReadRefusal) → refusal_of r ≡ Some f → first ≡ Some f → IfErr r (λ e. IsRefusal e first)
told (Ok a) f first e same = tt
told (Err x) f first e same = let is : x ≡ f = cc in subst (λ (o : Option ReadRefusal). IsRefusal x o) (ap (λ (g : ReadRefusal). Some g) is ∙ sym same) (its-own x)

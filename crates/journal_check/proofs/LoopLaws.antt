-- Replaying records one after another.
use Rattle.std.proofs.Common.{◌≡◌, ◌≢◌, ℕ, zero, suc, ◌+◌, ◌^◌, ◌<◌, ◌≤◌, List, [], ◌∷◌, drop, length, Option, Some, None, Result, Ok, Err, IfErr, IsErrAnd, IfOk, refl, ap, sym, subst, ◌∙◌, inl, inr, arith, add-one}
use Rattle.std.specs.Prelude.{slice_get, get_or}
use Rattle.gate_net.specs.Net.{Net}
use Rattle.journal_text.specs.declared.record.Record.{Record}
use Rattle.rm_model.specs.declared.parts.Model.{Model}
use Rattle.gate_graph.specs.Circuit.{Circuit, net_of}
use Rattle.cover_decompose.specs.Decomposition.{net_of_model}
use Rattle.journal_check.specs.Accepts.{IsAccepted}
use Rattle.journal_check.specs.Laws.{ReplaysAccept}
use Rattle.journal_check.specs.Standing.{Finishes, Standing, Steps}
use Rattle.journal_check.specs.declared.refusal.JournalRefusal.{JournalRefusal}
use Rattle.journal_check.specs.declared.refusal.Why.{Why}
use Rattle.journal_check.specs.declared.refusal.Why.TheVariants as why
use Rattle.journal_check.specs.Replaying.{IsRefusedAt, EndLeads, editing, next_number, settling, Leads, Position, Replays, goes_on, refused}

-- what the records from one on lead to, all of them lead to
pub record Follows (budget : ℕ) (start : Position) (records : List Record) (p : Position) (at : ℕ) : Type 0 where
  pub replays : (last : Net) → Replays budget p (drop at records) last → Replays budget start records last
  pub refuses : (number : ℕ) (w : Why) → IsRefusedAt budget p (drop at records) (at + 1) number w → IsRefusedAt budget start records 1 number w

pub follows_first : (budget : ℕ) (start p : Position) (records : List Record) → p ≡ start → Follows budget start records p 0
follows_first budget start p records e =
    subst (λ (q : Position). Follows budget start records q 0) (sym e) (record { replays = λ last r. r; refuses = λ number w r. r })

get_drop_record : (xs : List Record) (n : ℕ) (x : Record) → slice_get xs n ≡ Some x → drop n xs ≡ x ∷ drop (suc n) xs
get_drop_record [] n x e = cc
get_drop_record (y ∷ ys) zero x e = cc
get_drop_record (y ∷ ys) (suc n) x e = get_drop_record ys n x e

pub follows_next : (budget : ℕ) (start p q : Position) (records : List Record) (at : ℕ) (r : Record) → slice_get records at ≡ Some r → Follows budget start records p at → Leads budget p r (goes_on q) → Follows budget start records q (at + 1)
follows_next budget start p q records at r e f v =
    let rest : drop at records ≡ r ∷ drop (at + 1) records = get_drop_record records at r e ∙ ap (λ (n : ℕ). r ∷ drop n records) (sym (add-one at)) in
    record {
      replays = λ last w. f.replays last (subst (λ (rs : List Record). Replays budget p rs last) (sym rest) (q, (v, w)));
      refuses = λ number w x.
          f.refuses number w (subst (λ (rs : List Record). IsRefusedAt budget p rs (at + 1) number w) (sym rest) (inr (q, (v, subst (λ (k : ℕ). IsRefusedAt budget q (drop (at + 1) records) k number w) (add-one (at + 1)) x))));
    }

pub refused_here : (budget : ℕ) (start p : Position) (records : List Record) (at number : ℕ) (r : Record) (w : Why) → slice_get records at ≡ Some r → Follows budget start records p at → number ≡ at + 1 → Leads budget p r (refused w) → IsRefusedAt budget start records 1 number w
refused_here budget start p records at number r w e f n v =
    f.refuses number w (subst (λ (rs : List Record). IsRefusedAt budget p rs (at + 1) number w) (sym (get_drop_record records at r e)) (inl (n, v)))

-- what the loop keeps
abbrev pub IsAt : ℕ → Position → List Record → Standing → ℕ → Type 0
IsAt budget start records s at = (s.refusal ≡ None) × ((s.budget ≡ budget) × ((s.number ≡ at + 1) × Follows budget start records s.position at))

pub goes_next : (budget : ℕ) (start : Position) (records : List Record) (s t : Standing) (at : ℕ) (r : Record) (u : Unit {0}) → slice_get records at ≡ Some r → at < 2 ^ 63 → IsAt budget start records s at → Steps s.refusal s r t (Ok u) → IsAt budget start records t (at + 1)
goes_next budget start records s t at r u e small v w =
    let on = subst (λ (o : Option JournalRefusal). Steps o s r t (Ok u)) v.0 w in
    let number : next_number (at + 1) ≡ at + 1 + 1 = omega (arith, small) in (
      ap (λ (x : Standing). x.refusal) on.1 ∙ v.0,
      (
        ap (λ (x : Standing). x.budget) on.1 ∙ v.1.0,
        (
          ap (λ (x : Standing). x.number) on.1 ∙ ap next_number v.1.1.0 ∙ number,
          follows_next budget start s.position t.position records at r e v.1.1.1 (subst (λ (b : ℕ). Leads b s.position r (goes_on t.position)) v.1.0 on.0),
        ),
      ),
    )

-- a step that is refused where the loop stands
pub stops : (budget : ℕ) (start : Position) (records : List Record) (s t : Standing) (at : ℕ) (r : Record) (e : JournalRefusal) → slice_get records at ≡ Some r → IsAt budget start records s at → Steps s.refusal s r t (Err e) → e.why ≢ why.NoMemory → IsRefusedAt budget start records 1 e.number e.why
stops budget start records s t at r e got v w ne =
    let on = subst (λ (o : Option JournalRefusal). Steps o s r t (Err e)) v.0 w in
    refused_here budget start s.position records at e.number r e.why got v.1.1.1 (on.0 ∙ v.1.1.0) (subst (λ (b : ℕ). Leads b s.position r (refused e.why)) v.1.0 (on.1.1 ne).0)

-- what holds of the error holds of the answer that hands it on
pub handed_on : {V E : Type 0} (r : Result V E) (e : E) (P : E → Type 0) → IsErrAnd r (λ q. q ≡ e) → P e → IfErr r P
handed_on (Ok x) e P h p = tt
handed_on (Err q) e P h p = subst P (sym h) p

drop_whole : (xs : List Record) (n : ℕ) → length xs ≤ n → drop n xs ≡ []
drop_whole [] zero l = refl
drop_whole [] (suc n) l = refl
drop_whole (x ∷ xs) zero l = absurd (omega arith)
drop_whole (x ∷ xs) (suc n) l = drop_whole xs n (omega arith)

pub ends : ReplaysAccept → (m : Model) (budget : ℕ) (records : List Record) (s : Standing) (at : ℕ) (answer : Result Circuit JournalRefusal) → length records ≤ at → IsAt budget (editing (net_of_model m)) records s at → Finishes s.refusal s answer → IfOk answer (λ g. IsAccepted m budget records (net_of g))
ends law m budget records s at (Err e) l v w = tt
ends law m budget records s at (Ok g) l v w =
    let end : EndLeads s.position (goes_on (settling (net_of g) [])) = subst (λ (o : Option JournalRefusal). Finishes o s (Ok g)) v.0 w in
    let rest = subst (λ (rs : List Record). Replays budget s.position rs (net_of g)) (sym (drop_whole records at l)) end in
    (law (net_of_model m) (net_of g) budget records).0 (v.1.1.1.replays (net_of g) rest)

-- an item of a slice
pub item_at : (xs : List Record) (n : ℕ) (x : Record) → n < length xs → x ≡ get_or xs n x → slice_get xs n ≡ Some x
item_at [] n x l e = absurd (omega arith)
item_at (y ∷ ys) zero x l e = ap (λ (z : Record). Some z) (sym e)
item_at (y ∷ ys) (suc n) x l e = item_at ys n x (omega arith) e

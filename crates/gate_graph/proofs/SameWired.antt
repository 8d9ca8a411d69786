-- Circuits with one wiring have one net.
use Rattle.std.proofs.Common.{◌≡◌, ℕ, suc, ◌≤◌, List, [], ◌∷◌, length, map, None, refl, sym, ap, ◌∙◌, subst, arith}
use Rattle.pin_pool.specs.Pins.{list_of}
use Rattle.gate_graph.specs.Wirings.{Wiring, kind_at}
use Rattle.gate_graph.specs.declared.undo_list.Undo.{Undo}
use Rattle.gate_graph.specs.declared.undo_list.Undo.TheVariants.{Appended, Removed, Redriven, Moved, Made, Retired, Turned}
use Rattle.gate_graph.specs.Undoing.{LeadOn, CanGoBack, back_to, AreWithin, IsWithin}
use Rattle.gate_graph.specs.Circuit.{Circuit, wiring, net_of, fanouts_of, node_with, gate_pins, home, number_with, number_or_zero, next_number, reader, SameWiring}
use Rattle.gate_graph.proofs.NetOf.{net-ext, nodes-trimmed, node_at-net, observed-net, map-same}

number-nil : (ms : List (List ℕ)) (p : ℕ) → ((n : ℕ) → [] ≡ list_of ms n) → None ≡ number_with ms p
number-nil [] p h = refl
number-nil (ys ∷ ms) p h =
    let here : ys ≡ [] = sym (h 0) in
    rw here (ap next_number (number-nil ms p (λ n. h (suc n))))

number-same : (ls ms : List (List ℕ)) (p : ℕ) → ((n : ℕ) → list_of ls n ≡ list_of ms n) → number_with ls p ≡ number_with ms p
number-same [] ms p h = number-nil ms p h
number-same (xs ∷ ls) [] p h = sym (number-nil (xs ∷ ls) p (λ n. sym (h n)))
number-same (xs ∷ ls) (ys ∷ ms) p h =
    let here : xs ≡ ys = h 0 in
    rw (here, number-same ls ms p (λ n. h (suc n))) refl

pub home-same : (ls ms : List (List ℕ)) (p : ℕ) → ((n : ℕ) → list_of ls n ≡ list_of ms n) → home ls p ≡ home ms p
home-same ls ms p h = ap number_or_zero (number-same ls ms p h)

map-pairs : (f g : ℕ → ℕ × ℕ) (xs : List ℕ) → ((q : ℕ) → f q ≡ g q) → map f xs ≡ map g xs
map-pairs f g [] h = refl
map-pairs f g (x ∷ xs) h = rw (h x, map-pairs f g xs h) refl

-- what is seen of a circuit says nothing of the pins that are taken
pub same-seen : (v w : Circuit) → ((n : ℕ) → kind_at v.kinds n ≡ kind_at w.kinds n) → ((n : ℕ) → list_of v.pool.inputs n ≡ list_of w.pool.inputs n) → ((n : ℕ) → list_of v.pool.fanouts n ≡ list_of w.pool.fanouts n) → (net_of v ≡ net_of w) × ((n : ℕ) → fanouts_of v n ≡ fanouts_of w n)
unfolding fanouts_of
same-seen v w kinds ins outs =
    let homes : (q : ℕ) → home v.pool.fanouts q ≡ home w.pool.fanouts q = λ q. home-same v.pool.fanouts w.pool.fanouts q outs in
    let mapped : (xs ys : List ℕ) → xs ≡ ys → map (home v.pool.fanouts) xs ≡ map (home w.pool.fanouts) ys = λ xs ys s. map-same (home v.pool.fanouts) (home w.pool.fanouts) xs (λ q h. homes q) ∙ ap (map (home w.pool.fanouts)) s in
    let pins : (n : ℕ) → gate_pins v.pool n ≡ gate_pins w.pool n = λ n. rw (ins n) refl in
    let readers : (q : ℕ) → reader v.pool q ≡ reader w.pool q = λ q. (let h = home-same v.pool.inputs w.pool.inputs q ins in rw (h, ins (home w.pool.inputs q)) refl) in (
      net-ext v (net_of w) (nodes-trimmed w) (λ n. rw (kinds n) (ap (node_with (kind_at w.kinds n)) (mapped (gate_pins v.pool n) (gate_pins w.pool n) (pins n))) ∙ sym (node_at-net w n))
          (mapped (list_of v.pool.inputs 0) (list_of w.pool.inputs 0) (ins 0) ∙ sym (observed-net w)),
      λ n. rw (ins 0, outs n) (map-pairs (reader v.pool) (reader w.pool) _ readers),
    )

pub same-wiring : SameWiring
same-wiring v w e =
    same-seen v w (λ n. ap (λ (x : Wiring). x.kind n) e) (λ n. ap (λ (x : Wiring). x.rings.inputs n) e) (λ n. ap (λ (x : Wiring). x.rings.fanouts n) e)

within-more : (m n : ℕ) (es : List Undo) → m ≤ n → AreWithin m es → AreWithin n es
within-more m n [] h a = tt
within-more m n (e ∷ es) h a = (one e a.0, within-more m n es h a.1)
  where
    one : (e : Undo) → IsWithin m e → IsWithin n e
    one (Appended pin) w = tt
    one (Removed pin slot) w = tt
    one (Redriven pin slot) w = tt
    one (Moved splice) w = tt
    one (Made node pin) w = tt
    one (Retired node kind) w = omega arith
    one (Turned pin slot kind) w = tt

pub lead-same : (v w : Circuit) (es : List Undo) → wiring w ≡ wiring v → length v.kinds ≤ length w.kinds → LeadOn v w es es
lead-same v w es e more = record {
  back = λ go. subst (λ (x : Wiring). CanGoBack x es) (sym e) go;
  to = ap (λ (x : Wiring). back_to x es) e;
  within = within-more (length v.kinds) (length w.kinds) es more;
}

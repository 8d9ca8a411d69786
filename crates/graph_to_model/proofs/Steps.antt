-- Steps of loops over a graph.
use Rattle.std.proofs.Common.{◌≡◌, ◌<◌, ◌+◌, ℕ, List, [], ◌∷◌, ◌++◌, length, map, get_or, drop, refl, sym, ◌∙◌, ap, arith, append_assoc}
use Rattle.std.specs.Prelude.{Option, None, Some, slice_get}
use Rattle.std.proofs.lemmas.Option.{slice_get-get_or}
use Rattle.rm_base.specs.declared.numbers.NodeId.{NodeId}
use Rattle.rm_model.specs.declared.parts.Cover.{Cover}
use Rattle.gate_net.specs.declared.Kind.{Kind}
use Rattle.gate_net.specs.Net.{Node, Net, node_at, drivers_of, drivers_in, kind_of, kind_in, flatten_option, IsLive, IsWellFormed as IsNet}
use Rattle.gate_graph.proofs.Public.{live-below}
use Rattle.wire_edit.proofs.Public.{next_place}
use Rattle.graph_to_model.specs.NetModel.{gate_cover_of, onto}
use Rattle.graph_to_model.specs.Inner.Making.{named, cover_by, covers_by}
use Rattle.graph_to_model.proofs.Lists.{next_in}
use Rattle.rm_base.proofs.Public.{some_is}
use Rattle.rm_base.specs.Words.{Word}

-- an element within a list doesn't depend on the default
pub name_here : (names : List Word) (d : ℕ) (r : Word) → d < length names → r ≡ get_or names d r → r ≡ named names d
name_here names d r lt is = is ∙ some_is (get_or names d r) (get_or names d []) (sym (slice_get-get_or names d r lt) ∙ slice_get-get_or names d [] lt)

pub driver_low : (net : Net) (y : ℕ) (ys : List NodeId) (it rest : List ℕ) (d : ℕ) → IsNet net → drivers_of net y ≡ map (λ (n : NodeId). n.0) ys ++ it → it ≡ d ∷ rest → d < length net.nodes
driver_low net y ys it rest d formed all is = live-below net d (formed.drivers_live y (length ys) d (next_place (λ (n : NodeId). n.0) (drivers_of net y) ys it rest d all is))

pub made_step : (f : ℕ → Word) (out new all : List Word) (it rest : List ℕ) (d : ℕ) (x : Word) → new ≡ out ++ x ∷ [] → it ≡ d ∷ rest → x ≡ f d → out ++ map f it ≡ all → new ++ map f rest ≡ all
made_step f out new all it rest d x pushed is same h =
    ap (λ (l : List Word). l ++ map f rest) pushed
    ∙ (append_assoc out (x ∷ []) (map f rest)
    ∙ (ap (λ (y : Word). out ++ (y ∷ map f rest)) same
    ∙ (ap (λ (ds : List ℕ). out ++ map f ds) (sym is) ∙ h)))

pub kind_cover : (names : List Word) (net : Net) (n : ℕ) (kind : Kind) (inputs : List Word) (output : Word) → Some kind ≡ kind_of net n → inputs ≡ map (named names) (drivers_of net n) → output ≡ named names n → gate_cover_of kind inputs output ≡ cover_by names n (node_at net n)
kind_cover names net n kind inputs output k i o = told (node_at net n) refl
  where
    told : (at : Option Node) → node_at net n ≡ at → gate_cover_of kind inputs output ≡ cover_by names n at
    told None e = absurd (let bad : Some kind ≡ None = k ∙ ap kind_in e in cc)
    told (Some node) e =
        let same : kind ≡ node.kind = some_is kind node.kind (k ∙ ap kind_in e) in
        let drivers : drivers_of net n ≡ node.drivers = ap (λ (q : Option Node). drivers_in q) e in
        ap (λ (q : Kind). gate_cover_of q inputs output) same
        ∙ (ap (λ (xs : List Word). gate_cover_of node.kind xs output) (i ∙ ap (map (named names)) drivers)
        ∙ ap (λ (x : Word). gate_cover_of node.kind (map (named names) node.drivers) x) o)

pub no_cover : (names : List Word) (net : Net) (n : ℕ) → None ≡ kind_of net n → None ≡ cover_by names n (node_at net n)
no_cover names net n k = told (node_at net n) refl
  where
    told : (at : Option Node) → node_at net n ≡ at → None ≡ cover_by names n at
    told None e = refl
    told (Some node) e = absurd (let bad : None ≡ Some node.kind = k ∙ ap kind_in e in cc)

onto_append : (o : Option Cover) (out cs : List Cover) → (out ++ onto o []) ++ cs ≡ out ++ onto o cs
onto_append None out cs = append_assoc out [] cs
onto_append (Some c) out cs = append_assoc out (c ∷ []) cs

pub covers_step : (names : List Word) (net : Net) (n : ℕ) (out new all : List Cover) (cover : Option Cover) → n < length net.nodes → cover ≡ cover_by names n (node_at net n) → new ≡ out ++ onto cover [] → out ++ covers_by names n (drop n net.nodes) ≡ all → new ++ covers_by names (n + 1) (drop (n + 1) net.nodes) ≡ all
covers_step names net n out new all cover lt is pushed h =
    let o : Option Node = get_or net.nodes n None in
    let at : node_at net n ≡ o = ap flatten_option (slice_get-get_or net.nodes n None lt) in
    let front : drop n net.nodes ≡ o ∷ drop (n + 1) net.nodes = next_in net.nodes n o lt (some_is o (get_or net.nodes n o) (sym (slice_get-get_or net.nodes n None lt) ∙ slice_get-get_or net.nodes n o lt)) in
    ap (λ (cs : List Cover). cs ++ covers_by names (n + 1) (drop (n + 1) net.nodes)) pushed
    ∙ (onto_append cover out (covers_by names (n + 1) (drop (n + 1) net.nodes))
    ∙ (ap (λ (q : Option Cover). out ++ onto q (covers_by names (n + 1) (drop (n + 1) net.nodes))) (is ∙ ap (cover_by names n) at)
    ∙ (ap (λ (os : List (Option Node)). out ++ covers_by names n os) (sym front) ∙ h)))

pub live_of : (net : Net) (n : ℕ) (kind : Kind) → Some kind ≡ kind_of net n → IsLive net n
live_of net n kind k = told (node_at net n) refl
  where
    told : (o : Option Node) → node_at net n ≡ o → IsLive net n
    told None e = absurd (let bad : Some kind ≡ None = k ∙ ap kind_in e in cc)
    told (Some node) e = (node.kind, (node.drivers, e))

-- the observed nodes are below the bound
pub observed_low : (net : Net) (nodes : List ℕ) (b : ℕ) → IsNet net → nodes ≡ net.observed → b ≡ length net.nodes → (k d : ℕ) → k < length nodes → get_or nodes k d < b
observed_low net nodes b formed is bound k d lt =
    let there : slice_get net.observed k ≡ Some (get_or nodes k d) = ap (λ (ns : List ℕ). slice_get ns k) (sym is) ∙ slice_get-get_or nodes k d lt in
    let low : get_or nodes k d < length net.nodes = live-below net (get_or nodes k d) (formed.observed_live (get_or nodes k d) (k, there)) in
    omega (arith, low, bound)

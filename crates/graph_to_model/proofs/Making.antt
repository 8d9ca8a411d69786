-- The model by lists is the model of the net.
use Rattle.std.proofs.Common.{◌≡◌, ◌<◌, ◌+◌, ◌-◌, ℕ, suc, Bool, true, false, ◌||◌, List, [], ◌∷◌, ◌++◌, length, map, get_or, refl, sym, ◌∙◌, ap, arith, inl, inr, append_assoc}
use Rattle.std.specs.Prelude.{Option, None, Some, slice_get, unwrap_or, if◌then◌else◌, nat_lt}
use Rattle.std.specs.Option.{option_map}
use Rattle.std.specs.Fmt.{decimal}
use Rattle.std.proofs.lemmas.Bool.Decides.{eqb_tells}
use Rattle.std.proofs.lemmas.Option.{slice_get_within, slice_get_past}
use Rattle.rm_model.specs.Words.{is_word}
use Rattle.rm_model.specs.Value.{is_among, source_names, observed_names}
use Rattle.rm_model.specs.declared.parts.Cover.{Cover}
use Rattle.rm_model.specs.declared.parts.Model.{Model}
use Rattle.gate_net.specs.Net.{Node, Net, node_at, drivers_of, drivers_in, flatten_option, IsWellFormed as IsNet}
use Rattle.gate_graph.proofs.Public.{live-below}
use Rattle.graph_to_model.specs.Names.{kept_names, prefix, least_free, observed_name, node_name, free_prefix}
use Rattle.graph_to_model.specs.NetModel.{gate_cover_of, gate_cover, gate_covers, onto, copy_cover, copy_covers, model_of_net}
use Rattle.graph_to_model.specs.Inner.Making.{place_in, word_at, name_by, named, AreFirstPlaces, AreNames, cover_by, covers_by, copy_by, copies_by, all_by}
use Rattle.rm_base.specs.Words.{Word}

observed_by : (ks : List ℕ) (xs : List Word) (n : ℕ) → observed_name ks xs n ≡ word_at xs (place_in ks n)
observed_by [] xs n = refl
observed_by (k ∷ ks) [] n = told (place_in (k ∷ ks) n)
  where
    told : (o : Option ℕ) → None ≡ word_at [] o
    told None = refl
    told (Some j) = sym (slice_get_past [] j (omega arith))
observed_by (k ∷ ks) (x ∷ xs) n = elim (eqb_tells k n) [
  | inl t ↦ rw t.0 refl
  | inr f ↦ rw f.0 (observed_by ks xs n ∙ later (place_in ks n))
]
  where
    later : (o : Option ℕ) → word_at xs o ≡ word_at (x ∷ xs) (option_map (λ j. suc j) o)
    later None = refl
    later (Some j) = refl

pub name_is : (m : Model) (net : Net) (sources observed : List Word) (places : List (Option ℕ)) (pre : Word) (n : ℕ) → sources ≡ source_names m → observed ≡ observed_names m → AreFirstPlaces net.observed places → pre ≡ free_prefix m → name_by sources observed places pre n ≡ node_name m net n
name_is m net sources observed places pre n s o p f =
    ap (λ (z : List Word). name_by z observed places pre n) s
    ∙ (ap (λ (z : List Word). name_by (source_names m) z places pre n) o
    ∙ (ap (λ (z : Word). name_by (source_names m) (observed_names m) places z n) f
    ∙ ap (λ (z : Option Word). if nat_lt n (2 + length (source_names m)) then unwrap_or (slice_get (source_names m) (n - 2)) [] else unwrap_or z (free_prefix m ++ decimal n))
    (ap (λ (q : Option ℕ). word_at (observed_names m) q) (p n) ∙ sym (observed_by net.observed (observed_names m) n))))

module _ (m : Model) (net : Net) (names : List Word) (formed : IsNet net) (are : AreNames m net names) where
  all_named : (ds : List ℕ) → ((k d : ℕ) → slice_get ds k ≡ Some d → d < length net.nodes) → map (node_name m net) ds ≡ map (named names) ds
  all_named [] h = refl
  all_named (d ∷ ds) h =
      ap (λ (x : Word). x ∷ map (node_name m net) ds) (sym (are.each d (h 0 d refl)))
      ∙ ap (λ (xs : List Word). named names d ∷ xs) (all_named ds (λ k e is. h (suc k) e is))

  cover_same : (n : ℕ) (o : Option Node) → slice_get net.nodes n ≡ Some o → gate_cover m net n o ≡ cover_by names n o
  cover_same n None at = refl
  cover_same n (Some node) at =
      let here : node_at net n ≡ Some node = ap flatten_option at in
      let low : n < length net.nodes = slice_get_within net.nodes n (Some node) at in
      let drivers : drivers_of net n ≡ node.drivers = ap drivers_in here in
      ap (λ (xs : List Word). gate_cover_of node.kind xs (node_name m net n)) (all_named node.drivers (λ k d is. live-below net d (formed.drivers_live n k d (ap (λ (ds : List ℕ). slice_get ds k) drivers ∙ is))))
      ∙ ap (λ (x : Word). gate_cover_of node.kind (map (named names) node.drivers) x) (sym (are.each n low))

  covers_same : (n : ℕ) (os : List (Option Node)) → ((k : ℕ) → slice_get net.nodes (n + k) ≡ slice_get os k) → gate_covers m net n os ≡ covers_by names n os
  covers_same n [] h = refl
  covers_same n (o ∷ os) h =
      let zero_more : n ≡ n + 0 = omega arith in let at : slice_get net.nodes n ≡ Some o = ap (λ (k : ℕ). slice_get net.nodes k) zero_more ∙ h 0 in
      let rest : (k : ℕ) → slice_get net.nodes (n + 1 + k) ≡ slice_get os k = λ k. (let e : n + 1 + k ≡ n + suc k = omega arith in ap (λ (j : ℕ). slice_get net.nodes j) e) ∙ h (suc k) in
      ap (λ (c : Option Cover). onto c (gate_covers m net (n + 1) os)) (cover_same n o at)
      ∙ ap (λ (cs : List Cover). onto (cover_by names n o) cs) (covers_same (n + 1) os rest)

  copy_same : (n : ℕ) (x : Word) → n < length net.nodes → copy_cover m net n x ≡ copy_by names n x
  copy_same n x low = rw (are.each n low) refl

  copies_same : (had : List Word) (ns : List ℕ) (xs : List Word) → ((k d : ℕ) → slice_get ns k ≡ Some d → d < length net.nodes) → copy_covers m net had ns xs ≡ copies_by names had ns xs
  copies_same had [] xs h = refl
  copies_same had (n ∷ ns) [] h = refl
  copies_same had (n ∷ ns) (x ∷ xs) h =
      told (is_among had x) (copies_same had ns xs (λ k d is. h (suc k) d is)) (copies_same (x ∷ had) ns xs (λ k d is. h (suc k) d is))
    where
      told : (b : Bool) → copy_covers m net had ns xs ≡ copies_by names had ns xs → copy_covers m net (x ∷ had) ns xs ≡ copies_by names (x ∷ had) ns xs → (if b then copy_covers m net had ns xs else copy_cover m net n x ∷ copy_covers m net (x ∷ had) ns xs) ≡ (if b then copies_by names had ns xs else copy_by names n x ∷ copies_by names (x ∷ had) ns xs)
      told true e f = e
      told false e f = ap (λ (c : Cover). c ∷ copy_covers m net (x ∷ had) ns xs) (copy_same n x (h 0 n refl)) ∙ ap (λ (cs : List Cover). copy_by names n x ∷ cs) f

  pub all_same : (sources observed : List Word) → sources ≡ source_names m → observed ≡ observed_names m → all_by names net sources observed ≡ (model_of_net m net).covers
  all_same sources observed s o =
      ap (λ (z : List Word). all_by names net z observed) s
      ∙ (ap (λ (z : List Word). all_by names net (source_names m) z) o
      ∙ (ap (λ (gates : List Cover). gates ++ copies_by names (source_names m ++ map (λ (c : Cover). c.output) gates) net.observed (observed_names m)) (sym (covers_same 0 net.nodes (λ k. let e : 0 + k ≡ k = omega arith in ap (λ (j : ℕ). slice_get net.nodes j) e)))
      ∙ ap (λ (cs : List Cover). gate_covers m net 0 net.nodes ++ cs) (sym (copies_same (source_names m ++ map (λ (c : Cover). c.output) (gate_covers m net 0 net.nodes)) net.observed (observed_names m) (λ k d is. live-below net d (formed.observed_live d (k, is)))))))

-- what was had counts by its names alone
pub copies_had : (names had other : List Word) → ((x : Word) → is_among had x ≡ is_among other x) → (ns : List ℕ) (xs : List Word) → copies_by names had ns xs ≡ copies_by names other ns xs
copies_had names had other h [] xs = refl
copies_had names had other h (n ∷ ns) [] = refl
copies_had names had other h (n ∷ ns) (x ∷ xs) =
    rw (h x) (told (is_among other x) (copies_had names had other h ns xs) (copies_had names (x ∷ had) (x ∷ other) (λ y. ap (λ (b : Bool). is_word y x || b) (h y)) ns xs))
  where
    told : (b : Bool) → copies_by names had ns xs ≡ copies_by names other ns xs → copies_by names (x ∷ had) ns xs ≡ copies_by names (x ∷ other) ns xs → (if b then copies_by names had ns xs else copy_by names n x ∷ copies_by names (x ∷ had) ns xs) ≡ (if b then copies_by names other ns xs else copy_by names n x ∷ copies_by names (x ∷ other) ns xs)
    told true e f = e
    told false e f = ap (λ (cs : List Cover). copy_by names n x ∷ cs) f

swap_or : (a b : Bool) → (a || b) ≡ (b || a)
swap_or true true = refl
swap_or true false = refl
swap_or false true = refl
swap_or false false = refl

-- a name that isn't had is covered
pub name_covered : (names had new : List Word) (x y : Word) (n : ℕ) (out more : List Cover) (c : Cover) → is_among had x ≡ false → ((z : Word) → is_among new z ≡ (is_among had z || is_word z y)) → y ≡ x → more ≡ out ++ c ∷ [] → c ≡ copy_by names n x → (ns : List ℕ) (xs : List Word) → more ++ copies_by names new ns xs ≡ out ++ (if is_among had x then copies_by names had ns xs else copy_by names n x ∷ copies_by names (x ∷ had) ns xs)
name_covered names had new x y n out more c absent had_now same pushed is ns xs =
    rw absent (
    ap (λ (cs : List Cover). cs ++ copies_by names new ns xs) pushed
    ∙ (append_assoc out (c ∷ []) (copies_by names new ns xs)
    ∙ (ap (λ (d : Cover). out ++ (d ∷ copies_by names new ns xs)) is
    ∙ ap (λ (cs : List Cover). out ++ (copy_by names n x ∷ cs)) (copies_had names new (x ∷ had) (λ z. had_now z ∙ (ap (λ (w : Word). is_among had z || is_word z w) same ∙ swap_or (is_among had z) (is_word z x))) ns xs)))
    )

pub names_are : (m : Model) (net : Net) (sources observed : List Word) (nodes : List ℕ) (places shown : List (Option ℕ)) (pre read : Word) (names : List Word) (bound : ℕ) → sources ≡ source_names m → observed ≡ observed_names m → nodes ≡ net.observed → bound ≡ length net.nodes → AreFirstPlaces nodes places → length places ≡ bound → shown ≡ places → pre ≡ prefix (least_free (length (sources ++ observed)) 0 (sources ++ observed)) → read ≡ pre → length names ≡ length shown → ((n : ℕ) → n < length shown → named names n ≡ name_by sources observed shown read n) → AreNames m net names
names_are m net sources observed nodes places shown pre read names bound s o ns b firsts count is p r len each =
    let kept : sources ++ observed ≡ kept_names m = ap (λ (l : List Word). l ++ observed) s ∙ ap (λ (l : List Word). source_names m ++ l) o in
    let free : read ≡ free_prefix m = r ∙ (p ∙ ap (λ (l : List Word). prefix (least_free (length l) 0 l)) kept) in
    let first : AreFirstPlaces net.observed shown = λ n. ap (λ (l : List (Option ℕ)). get_or l n None) is ∙ (firsts n ∙ ap (λ (ks : List ℕ). place_in ks n) ns) in
    let total : length shown ≡ length net.nodes = ap length is ∙ (count ∙ b) in
    record {
      count = len ∙ total;
      each = λ n lt. each n (omega (arith, lt, total)) ∙ name_is m net sources observed shown read n s o first free;
    }

pub covers_are : (m : Model) (net : Net) (names shown sources observed : List Word) (covers : List Cover) → IsNet net → AreNames m net names → shown ≡ names → sources ≡ source_names m → observed ≡ observed_names m → covers ≡ all_by shown net sources observed → covers ≡ (model_of_net m net).covers
covers_are m net names shown sources observed covers formed are is s o e = e ∙ (ap (λ (l : List Word). all_by l net sources observed) is ∙ all_same m net names formed are sources observed s o)

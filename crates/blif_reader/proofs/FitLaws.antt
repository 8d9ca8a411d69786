-- A text has no more tokens than bytes.
use Rattle.std.proofs.Common.{◌≡◌, ◌≤◌, ◌+◌, ℕ, suc, List, [], ◌∷◌, ◌++◌, map, length, Bool, true, false, Option, None, Some, refl, arith}
use Rattle.std.specs.Prelude.{if◌then◌else◌, ◌==◌}
use Rattle.std.specs.List.{list_all}
use Rattle.std.proofs.lemmas.List.{length-append}
use Rattle.rm_base.specs.declared.numbers.Place.{Place}
use Rattle.blif_lines.specs.Layout.{Spot, Mark, Logical, layout, marked, onto_first, runs, spots, tokens_in, is_blank, physical_lines, without_comment, joint, before_joint, with_line, logical_lines}
use Rattle.blif_reader.specs.Fit.{token_sum}
use Rattle.blif_reader.proofs.TokenLaws.{runs_size, run_bytes, comment_size, before_size, piece_bytes, pieces_size, marked_size}

spots_few : (rs : List (List Mark)) → length (spots rs) ≤ run_bytes rs
spots_few [] = omega arith
spots_few ([] ∷ rs) = let h : length (spots rs) ≤ run_bytes rs = spots_few rs in omega (arith, h)
spots_few ((m ∷ ms) ∷ rs) = let h : length (spots rs) ≤ run_bytes rs = spots_few rs in omega (arith, h)

tokens_few : (ms : List Mark) → length (tokens_in ms) ≤ length ms
tokens_few ms =
    let a : length (spots (runs ms)) ≤ run_bytes (runs ms) = spots_few (runs ms) in
    let b : run_bytes (runs ms) ≤ length ms = runs_size ms in omega (arith, a, b)

with_few : (line : List Mark) (o : Option Mark) (ls : List Logical) → token_sum (with_line line o ls) ≤ length line + token_sum ls
with_few line None ls = let h : length (tokens_in line) ≤ length line = tokens_few line in omega (arith, h)
with_few line (Some m) [] =
    let h : length (tokens_in (before_joint line)) ≤ length (before_joint line) = tokens_few (before_joint line) in
    let k : length (before_joint line) ≤ length line = before_size line in omega (arith, h, k)
with_few line (Some m) (l ∷ ls) =
    let h : length (tokens_in (before_joint line)) ≤ length (before_joint line) = tokens_few (before_joint line) in
    let k : length (before_joint line) ≤ length line = before_size line in
    let j : length (tokens_in (before_joint line) ++ l.tokens) ≡ length (tokens_in (before_joint line)) + length l.tokens = length-append (tokens_in (before_joint line)) l.tokens in omega (arith, h, k, j)

lines_few : (ps : List (List Mark)) → token_sum (logical_lines ps) ≤ piece_bytes ps
lines_few [] = omega arith
lines_few (p ∷ ps) =
    let h : token_sum (with_line (without_comment p) (joint (without_comment p)) (logical_lines ps)) ≤ length (without_comment p) + token_sum (logical_lines ps) = with_few (without_comment p) (joint (without_comment p)) (logical_lines ps) in
    let k : length (without_comment p) ≤ length p = comment_size p in
    let j : token_sum (logical_lines ps) ≤ piece_bytes ps = lines_few ps in omega (arith, h, k, j)

pub layout_count : (text : List ℕ) → token_sum (layout text) ≤ length text
layout_count text =
    let all : List Mark = marked 0 (record { line = 1; column = 1 }) text in
    let b : token_sum (logical_lines (physical_lines all)) ≤ piece_bytes (physical_lines all) = lines_few (physical_lines all) in
    let c : piece_bytes (physical_lines all) ≤ length all = pieces_size all in
    let d : length all ≡ length text = marked_size 0 (record { line = 1; column = 1 }) text in
    omega (arith, b, c, d)

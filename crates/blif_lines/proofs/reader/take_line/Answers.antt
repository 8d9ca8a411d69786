use Rattle.std.proofs.Common.{◌≡◌, ◌≤◌, ◌<◌, ◌+◌, length, ◌∙◌, arith, rules, min}
use Rattle.blif_lines.specs.Inner.Cuts.{IsJoin, line_end_of}
use Rattle.blif_lines.proofs.Bridge.{first_rest, join_rest}
use Rattle.blif_lines.proofs.reader.take_line.Goals as goal

pub pieces-init : goal.pieces-init
pieces-init c = record {
  rest = first_rest c.args.text.now c.args.from.at c.args.from.line c.args.from.start c.new-line.result c.requires.some c.requires.start c.new-line.ensures;
  begin = omega arith;
  within = omega arith;
  start = omega arith;
  started = omega arith;
  number = omega arith;
  tokens = search rules;
}

pub pieces-preserved : goal.pieces-preserved
pieces-preserved c =
    let j : IsJoin c.args.text.now c.pieces.cursor.at c.in-Join.start c.in-Join.end c.in-Join.after = c.in-Join.ensures in
    let begin : c.pieces.cursor.at ≤ c.in-Join.start = j.begin in
    let some : c.in-Join.start ≤ c.in-Join.end = j.some in
    let slash : c.in-Join.end < c.in-Join.after = j.slash in
    let within : c.in-Join.after ≤ length c.args.text.now = j.within in
    let far : c.behind_line-next-in-Join.result.at ≡ min (line_end_of c.args.text.now c.in-Join.after + 1) (length c.args.text.now) = c.behind_line-next-in-Join.ensures.at in
    let next : c.behind_line-next-in-Join.result.at < length c.args.text.now = omega arith in
    record {
      rest = c.pieces.invariant.rest ∙ join_rest c.args.text.now c.pieces.line c.push_token-in-Join.new.line c.pieces.cursor.at c.pieces.cursor.line c.pieces.cursor.start c.in-Join.start c.in-Join.end c.in-Join.after c.behind_line-next-in-Join.result.at c.behind_line-next-in-Join.result.line c.behind_line-next-in-Join.result.start c.place_of-in-Join.result j c.pieces.invariant.start c.place_of-in-Join.ensures c.in_ok-push_token-in-Join.ensures.spots far next c.behind_line-next-in-Join.ensures.line c.behind_line-next-in-Join.ensures.start;
      begin = let b : c.args.from.at ≤ c.pieces.cursor.at = c.pieces.invariant.begin in omega arith;
      within = omega arith;
      start = omega (arith, c.behind_line-next-in-Join.ensures.start);
      started = omega (arith, c.behind_line-next-in-Join.ensures.start);
      number = omega (arith, c.behind_line-next-in-Join.ensures.start, c.behind_line-next-in-Join.ensures.line, c.pieces.invariant.number, c.pieces.invariant.start);
      tokens = c.in_ok-push_token-in-Join.ensures.within;
    }

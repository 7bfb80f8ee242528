-- `put_line` writes a match's line piece by piece, by the laws of proofs/Lines.
use Rattle.std.proofs.Common.{rules}
use Rattle.header.proofs.Lines.{line-room, line-room_1, line-room_2, line-room_3, line-room_4, line-room_5, put_one_line}
use Rattle.lines.proofs.put_line.Goals as goal

pub put_field-requires : goal.put_field-requires
put_field-requires c = search (rules, line-room)

pub put_field-requires-2 : goal.put_field-requires-2
put_field-requires-2 c =
    line-room_1 _ _ _ c.args.numbers.now c.args.first c.args.own.now c.requires.own_in_bounds (search rules)
    _ _ c.put_field.ensures.put (search rules)

pub put_field-requires-3 : goal.put_field-requires-3
put_field-requires-3 c =
    line-room_2 _ _ _ c.args.numbers.now c.args.first c.args.own.now c.requires.own_in_bounds (search rules)
    _ _ c.put_field.ensures.put (search rules) _ _ c.put_field-2.ensures.put (search rules)

pub put_labels-requires : goal.put_labels-requires
put_labels-requires c =
    line-room_3 _ _ _ c.args.numbers.now c.args.first c.args.own.now c.requires.own_in_bounds (search rules)
    _ _ c.put_field.ensures.put (search rules) _ _ c.put_field-2.ensures.put (search rules) _ _ c.put_field-3.ensures.put

pub put_results-requires-clause-out_in_bounds : goal.put_results-requires-clause-out_in_bounds
put_results-requires-clause-out_in_bounds c =
    line-room_4 _ _ _ c.args.numbers.now c.args.first c.args.own.now c.requires.own_in_bounds (search rules)
    _ _ c.put_field.ensures.put (search rules) _ _ c.put_field-2.ensures.put (search rules) _ _ c.put_field-3.ensures.put
    _ _ c.put_labels.ensures.put

pub put_byte-requires : goal.put_byte-requires
put_byte-requires c =
    line-room_5 _ _ _ c.args.numbers.now c.args.first c.args.own.now c.requires.own_in_bounds (search rules)
    _ _ c.put_field.ensures.put (search rules) _ _ c.put_field-2.ensures.put (search rules) _ _ c.put_field-3.ensures.put
    _ _ c.put_labels.ensures.put _ _ c.put_results.ensures.put.put c.put_results.ensures.upper_bound

pub returns-clause-put : goal.returns-clause-put
returns-clause-put c = record {
  same = cc;
  put =
      (put_one_line _ _ _ c.args.numbers.now c.args.first c.args.own.now c.requires.own_in_bounds (search rules)
      _ _ c.put_field.ensures.put (search rules) _ _ c.put_field-2.ensures.put (search rules) _ _ c.put_field-3.ensures.put
      _ _ c.put_labels.ensures.put _ _ c.put_results.ensures.put.put c.put_results.ensures.upper_bound _ _ c.put_byte.ensures.put).0;
}

pub returns-clause-upper_bound : goal.returns-clause-upper_bound
returns-clause-upper_bound c =
    (put_one_line _ _ _ c.args.numbers.now c.args.first c.args.own.now c.requires.own_in_bounds (search rules)
    _ _ c.put_field.ensures.put (search rules) _ _ c.put_field-2.ensures.put (search rules) _ _ c.put_field-3.ensures.put
    _ _ c.put_labels.ensures.put _ _ c.put_results.ensures.put.put c.put_results.ensures.upper_bound _ _ c.put_byte.ensures.put).1

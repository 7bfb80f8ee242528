-- `put_report` writes the header and the lines.
use Rattle.std.proofs.Common.{rules}
use Rattle.header.proofs.Lines.{report-room, report-room_1, put_whole}
use Rattle.text.proofs.put_report.Goals as goal

pub put_header-requires : goal.put_header-requires
put_header-requires c = search (rules, report-room)

pub put_lines-requires : goal.put_lines-requires
put_lines-requires c = record { measures_in_bounds = search rules; labels_in_bounds = search (rules, report-room_1) }

pub returns : goal.returns
returns c = record { same = cc; put = search (rules, put_whole) }

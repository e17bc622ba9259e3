use Rattle.x25_io.proofs.LineLemmas.{first_of_sixteen}
use Rattle.x25_io.proofs.lines.line_end.Goals as goal

pub returns-then-at-lt16 : goal.returns-then-at-lt16
returns-then-at-lt16 c = first_of_sixteen c.args.octets.now c.first_line_feed-at.result c.if-octets-ge16.true c.first_line_feed-at.ensures c.if-at-lt16.true

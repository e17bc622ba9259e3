use Rattle.std.proofs.Common.{arith}
use Rattle.x25_bits.proofs.KeptLemmas.{found_none, found_short, found_long, found_ragged, found_content}
use Rattle.x25_bits.proofs.deframer.span_in.Goals as goal

pub returns-then-len-le6 : goal.returns-then-len-le6
returns-then-len-le6 c = λ all e. found_none c.args.kept.now all e (omega arith)

pub returns-then-count-lt-FEWEST : goal.returns-then-count-lt-FEWEST
returns-then-count-lt-FEWEST c = λ all e. found_short c.args.kept.now all e (omega arith) (omega arith)

pub returns-then-count-gt-MOST : goal.returns-then-count-gt-MOST
returns-then-count-gt-MOST c = λ all e. found_long c.args.kept.now all e (omega arith)

pub returns-then-count-ne0 : goal.returns-then-count-ne0
returns-then-count-ne0 c = λ all e. found_ragged c.args.kept.now all e (omega arith) (omega arith) (omega arith)

pub returns : goal.returns
returns c = λ all e. found_content c.args.kept.now all c.whole_octets.result.now e (omega arith) (omega arith) (omega arith) c.whole_octets.ensures

use Rattle.x25_bits.proofs.ContentLemmas.{spans_stuff_again}
use Rattle.x25_bits.proofs.laws.content_stuffs_again.Goals as goal

pub returns : goal.returns
returns c = spans_stuff_again

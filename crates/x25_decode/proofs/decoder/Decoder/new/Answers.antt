use Rattle.std.proofs.Common.{refl}
use Rattle.x25_decode.proofs.StreamLemmas.{start}
use Rattle.x25_decode.proofs.decoder.Decoder.new.Goals as goal

pub returns : goal.returns
returns c = λ old input. (refl, start c.args.reading old _ _ input c.in_ok-held.ensures c.in_ok-output.ensures)

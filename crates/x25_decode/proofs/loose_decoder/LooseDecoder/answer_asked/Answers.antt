use Rattle.std.proofs.lemmas.Result.{err_from_is_err_and}
use Rattle.x25_io.proofs.ToldLemmas.{prefix_more}
use Rattle.x25_decode.specs.Decoding.{answer_to}
use Rattle.x25_decode.proofs.loose_decoder.LooseDecoder.answer_asked.Goals as goal

pub returns-in_err-make_room-clause-tells : goal.returns-in_err-make_room-clause-tells
returns-in_err-make_room-clause-tells g c = λ old told h.
    let p = err_from_is_err_and c.from_residual.result c.from_residual.ensures.1 in
    rw p.1 (prefix_more old _ told (answer_to c.args.self.now.reading c.args.line.now) (c.in_err-make_room.ensures.tells old told h))

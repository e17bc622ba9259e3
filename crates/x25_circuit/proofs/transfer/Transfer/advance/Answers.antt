use Rattle.x25_circuit.proofs.Names.{◌≡◌, ◌∷◌, [], ◌++◌, List, length, drop, refl, sym, ap, ◌∙◌, append_assoc, arith, lt-ltb, and_from, length-map, Piece}
use Rattle.x25_circuit.proofs.{AskedLemmas.{asks_as_marked}, MessageLemmas.{next_piece}, Names.{piece_of, cut_all, asks, asked_in, waiting, first_left}}
use Rattle.x25_circuit.proofs.transfer.Transfer.advance.Goals as goal

pub returns-clause-some : goal.returns-clause-some
returns-clause-some c = λ t fits.
    let size = c.args.terms.size in
    let old = waiting c.args.self.now.queue in
    let others = cut_all size (waiting c.cut.new.self) in
    let piece = piece_of c.in-Some.cut.marks c.in-Some.cut.m c.cut.new.self.cutter.lent in
    let first : t.rest ≡ piece ∷ others = fits.rest ∙ next_piece size old (omega arith) c.in-Some.ensures.some
    ∙ ap (λ (p : Piece). p ∷ cut_all size (first_left size old)) (sym c.in-Some.ensures.packet)
    ∙ ap (λ (ps : List Piece). piece ∷ ps) (ap (cut_all size) (sym c.in-Some.ensures.left)) in
    let asks_same = asks_as_marked size old c.in-Some.cut.marks c.in-Some.cut.m c.cut.new.self.cutter.lent c.in-Some.ensures.packet in
    let unacked = c.unacked.ensures.state fits.numbers.state fits.numbers.fits in
    let numbers = c.count_sent-ps.ensures.fits t.acked t.sent piece fits.numbers asks_same in
    record {
      others = others;
      first = first;
      allowed = and_from _ _ (sym fits.peer_ready ∙ c.if-not-self.false)
          (lt-ltb _ _ (omega (arith, unacked, fits.numbers.acked, ap length fits.numbers.sent ∙ length-map t.sent asks, c.if-unacked-terms.false)));
      fits = record {
        numbers = numbers;
        taken = fits.taken;
        rest = refl;
        part = fits.part;
        short = fits.short;
        -- the packet is no more in front of what waits, and behind what was sent
        unconfirmed = fits.unconfirmed ∙ ap (λ (ps : List Piece). asked_in (drop t.acked (t.sent ++ ps))) first
            ∙ ap (λ (ps : List Piece). asked_in (drop t.acked ps)) (sym (append_assoc t.sent (piece ∷ []) others));
        int_out = fits.int_out;
        peer_ready = fits.peer_ready;
        own_ready = fits.own_ready;
      };
      ps = c.count_sent-ps.ensures.number t.acked t.sent fits.numbers;
      pr = c.wanted.ensures.state (length t.taken) fits.taken;
    }

use Rattle.std.proofs.Common.{◌≡◌, ◌∙◌, ◌++◌, [], arith, ap, sym, subst, append_assoc}
use Rattle.x25_bits.specs.FrameCheck.{bits_of}
use Rattle.x25_bits.specs.Found.{found_of}
use Rattle.x25_bits.specs.declared.role.Role.{Role}
use Rattle.x25_io.specs.code.Written.{AppendsPrefix}
use Rattle.x25_bit_line.specs.Deframing.{class_lines}
use Rattle.x25_bit_line.specs.code.Reads.{Reads}
use Rattle.std.proofs.lemmas.Bool.Decides.{nat_tests}
use Rattle.std.proofs.lemmas.Result.{err_from_is_err_and}
use Rattle.x25_bit_line.proofs.TellingLemmas.{empty_is_nil}
use Rattle.x25_bit_line.proofs.ReadsLemmas.{bits_of-append, octets_more, piece_split, read_begun, reads_piece}
use Rattle.x25_bit_line.proofs.finder.FinderTextTaker.take_piece.Goals as goal

pub loop-left-preserved : goal.loop-left-preserved
loop-left-preserved g c =
    let now = c.loop-left.invariant in
    let part = now.2.0 in
    let front = c.split_at.result.0.now in (
      c.in_ok-take_octets.ensures.kept ∙ now.0,
      c.take_octets.ensures.from ∙ now.1,
      (
        part ++ front,
        now.2.1 ∙ ap (λ l. part ++ l) c.split_at.ensures.by_index.0 ∙ sym (append_assoc part front c.split_at.result.1.now),
        λ old before h.
            let here = subst (λ (from : Role). Reads from old (g.W.Sink.contents c.loop-left.writer) c.loop-left.self.deframer c.loop-left.self.lines.output
            (before ++ bits_of part)) (sym now.1) (now.2.2 old before h) in
            subst (Reads c.args.self.now.lines.from old (g.W.Sink.contents c.take_octets.new.writer) c.take_octets.new.deframer c.take_octets.new.lines.output)
            (octets_more before part front)
            (subst (λ (from : Role). Reads from old (g.W.Sink.contents c.take_octets.new.writer) c.take_octets.new.deframer c.take_octets.new.lines.output
            ((before ++ bits_of part) ++ bits_of front)) now.1
            (c.in_ok-take_octets.ensures.reads old (before ++ bits_of part) here)),
      ),
    )

pub returns-in_err-take_octets-clause-on : goal.returns-in_err-take_octets-clause-on
returns-in_err-take_octets-clause-on g c = λ from old rest input h.
    let now = c.loop-left.invariant in
    let part = now.2.0 in
    let front = c.split_at.result.0.now in
    let first = subst (λ (f : Role). Reads f old (g.W.Sink.contents c.args.writer.now) c.args.self.now.deframer c.args.self.now.lines.output (bits_of h.done))
    (sym h.role) h.reads in
    let here = subst (λ (f : Role). Reads f old (g.W.Sink.contents c.loop-left.writer) c.loop-left.self.deframer c.loop-left.self.lines.output
    (bits_of h.done ++ bits_of part)) (sym now.1) (now.2.2 old (bits_of h.done) first) in
    let bits : (bits_of h.done ++ bits_of part) ++ bits_of front ≡ bits_of ((h.done ++ part) ++ front) =
    ap (λ l. l ++ bits_of front) (sym (bits_of-append h.done part)) ∙ sym (bits_of-append (h.done ++ part) front) in
    let p = err_from_is_err_and c.from_residual.result c.from_residual.ensures.1 in
    rw p.1 (read_begun c.cuts_agree.ensures.begins from old _ ((h.done ++ part) ++ front) (c.split_at.result.1.now ++ rest) input
    (piece_split h.done part front c.loop-left.left.now c.split_at.result.1.now c.args.piece.now rest input h.split now.2.1 c.split_at.ensures.by_index.0)
    (subst (λ l. AppendsPrefix old (g.W.Sink.contents c.take_octets.new.writer) (class_lines from (found_of l))) bits
    (subst (λ (f : Role). AppendsPrefix old (g.W.Sink.contents c.take_octets.new.writer)
    (class_lines f (found_of ((bits_of h.done ++ bits_of part) ++ bits_of front)))) (now.1 ∙ h.role)
    (c.in_err-take_octets.ensures.reads old (bits_of h.done ++ bits_of part) here))))

pub returns-clause-on : goal.returns-clause-on
returns-clause-on g c = λ from old rest input h.
    let now = c.loop-left.invariant in
    let none : c.loop-left.left.now ≡ [] = empty_is_nil c.loop-left.left.now (grind (arith, nat_tests)) in
    let first = subst (λ (f : Role). Reads f old (g.W.Sink.contents c.args.writer.now) c.args.self.now.deframer c.args.self.now.lines.output (bits_of h.done))
    (sym h.role) h.reads in
    let here = subst (λ (f : Role). Reads f old (g.W.Sink.contents c.loop-left.writer) c.loop-left.self.deframer c.loop-left.self.lines.output
    (bits_of h.done ++ bits_of now.2.0)) h.role (now.2.2 old (bits_of h.done) first) in
    let all = reads_piece from old _ c.loop-left.self.deframer c.loop-left.self.lines.output h.done now.2.0 c.loop-left.left.now c.args.piece.now now.2.1 none
    here in
    record {
      role = c.flush.ensures.from ∙ now.1 ∙ h.role;
      done = h.done ++ c.args.piece.now;
      split = append_assoc h.done c.args.piece.now rest ∙ h.split;
      reads = record { fits = all.fits; tells = c.in_ok-flush.ensures.tells old _ all.tells };
    }

pub returns-in_err-flush-clause-on : goal.returns-in_err-flush-clause-on
returns-in_err-flush-clause-on g c = λ from old rest input h.
    let now = c.loop-left.invariant in
    let none : c.loop-left.left.now ≡ [] = empty_is_nil c.loop-left.left.now (grind (arith, nat_tests)) in
    let first = subst (λ (f : Role). Reads f old (g.W.Sink.contents c.args.writer.now) c.args.self.now.deframer c.args.self.now.lines.output (bits_of h.done))
    (sym h.role) h.reads in
    let here = subst (λ (f : Role). Reads f old (g.W.Sink.contents c.loop-left.writer) c.loop-left.self.deframer c.loop-left.self.lines.output
    (bits_of h.done ++ bits_of now.2.0)) h.role (now.2.2 old (bits_of h.done) first) in
    let all = reads_piece from old _ c.loop-left.self.deframer c.loop-left.self.lines.output h.done now.2.0 c.loop-left.left.now c.args.piece.now now.2.1 none
    here in
    let p = err_from_is_err_and c.from_residual-in_err-flush.result c.from_residual-in_err-flush.ensures.1 in
    rw p.1 (read_begun c.cuts_agree.ensures.begins from old _ (h.done ++ c.args.piece.now) rest input (append_assoc h.done c.args.piece.now rest ∙ h.split)
    (c.in_err-flush.ensures.tells old _ all.tells))

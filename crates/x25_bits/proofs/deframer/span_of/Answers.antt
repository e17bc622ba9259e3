use Rattle.std.proofs.Common.{◌≡◌, ◌∙◌, false, refl, sym}
use Rattle.x25_bits.specs.code.Held.{closing}
use Rattle.x25_bits.proofs.deframer.span_of.Goals as goal

pub returns-then-scan : goal.returns-then-scan
unfolding closing
returns-then-scan c = λ h shows. rw (sym shows.aborted ∙ c.if-scan.true) refl

pub returns-then-scan-2 : goal.returns-then-scan-2
unfolding closing
returns-then-scan-2 c = λ h shows.
    let going : h.is_aborted ≡ false = sym shows.aborted ∙ c.if-scan.false in
    rw (going, sym (shows.inserted going) ∙ c.if-scan-2.true) refl

pub returns : goal.returns
unfolding closing
returns c = λ h shows.
    let going : h.is_aborted ≡ false = sym shows.aborted ∙ c.if-scan.false in
    rw (going, sym (shows.inserted going) ∙ c.if-scan-2.false) (c.span_in.ensures h.kept (shows.kept going))

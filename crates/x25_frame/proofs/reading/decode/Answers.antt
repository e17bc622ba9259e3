use Rattle.std.proofs.Common.{◌≡◌, ◌∙◌, arith, sym, Result, Ok, Err, IfOk, IfErr, IsOkAnd}
use Rattle.x25_frame.specs.declared.frame.Frame.{Frame}
use Rattle.x25_frame.specs.declared.error.FrameError.{FrameError}
use Rattle.x25_frame.specs.Frame.{PlainFrame, plain}
use Rattle.x25_frame.specs.Spelling.{Spells}
use Rattle.x25_frame.specs.Error.{IsFirstError}
use Rattle.x25_frame.specs.Reading.{addressed_frame, Gives}
use Rattle.x25_frame.proofs.KindLemmas.{ok_err, ok_same}
use Rattle.x25_frame.proofs.FrameLemmas.{found_spells, only_found, error_is_first}
use Rattle.x25_frame.proofs.reading.decode.Goals as goal

pub returns-clause-found : goal.returns-clause-found
returns-clause-found c = go c.read_addressed.result c.read_addressed.ensures
  where
    go : (r : Result Frame FrameError) → Gives r (addressed_frame c.args.from c.args.n1 c.args.octets.now)
        → IfOk r (λ v. Spells c.args.from c.args.n1 (plain v) c.args.octets.now)
    go (Ok v) e = found_spells c.args.from c.args.n1 c.args.octets.now (plain v) (λ i. omega (arith, c.type_inv.octets i))
        (record { long = c.if-octets-lt4.false; sealed = c.check.ensures.sealed.0 c.if-not-check.false }) e
    go (Err f) e = tt

pub returns-clause-only : goal.returns-clause-only
returns-clause-only c = λ v spells. go c.read_addressed.result c.read_addressed.ensures v (only_found c.args.from c.args.n1 c.args.octets.now v spells)
  where
    go : (r : Result Frame FrameError) → Gives r (addressed_frame c.args.from c.args.n1 c.args.octets.now) → (v : PlainFrame)
        → addressed_frame c.args.from c.args.n1 c.args.octets.now ≡ Ok v → IsOkAnd r (λ w. plain w ≡ v)
    go (Ok w) e v h = ok_same (sym e ∙ h)
    go (Err f) e v h = absurd (ok_err (sym e ∙ h))

pub returns-clause-error : goal.returns-clause-error
returns-clause-error c = go c.read_addressed.result c.read_addressed.ensures
  where
    go : (r : Result Frame FrameError) → Gives r (addressed_frame c.args.from c.args.n1 c.args.octets.now)
        → IfErr r (λ e. IsFirstError c.args.from c.args.n1 c.args.octets.now e)
    go (Ok v) e = tt
    go (Err f) e = error_is_first c.args.from c.args.n1 c.args.octets.now f (λ i. omega (arith, c.type_inv.octets i))
        (record { long = c.if-octets-lt4.false; sealed = c.check.ensures.sealed.0 c.if-not-check.false }) e

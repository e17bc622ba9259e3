use Rattle.std.proofs.Common.{◌≡◌, ◌++◌, [], subst, arith}
use Rattle.x25_bits.specs.laws.Cuts.{found_more}
use Rattle.x25_bits.specs.FrameCheck.{bits_of}
use Rattle.x25_bits.specs.code.Fits.{Fits}
use Rattle.x25_bits.specs.code.Reading.{Lends}
use Rattle.x25_bits.proofs.ReadingLemmas.{part_same}
use Rattle.x25_bits.proofs.deframer.Deframer.read_bits.Goals as goal

pub returns-clause-fits : goal.returns-clause-fits
returns-clause-fits c = λ before h.
    subst (λ l. Fits c.read.new.self (before ++ l))
    (part_same c.args.at c.read.result.0 (bits_of c.octets.result.now) c.args.bits.now c.requires.at (omega (arith, c.read.ensures.high))
    c.octets.ensures.bits)
    (c.read.ensures.fits before h)

pub returns-clause-found : goal.returns-clause-found
returns-clause-found c = λ before h.
    subst (λ l. Lends c.read.result.1 c.read.new.self.last (found_more before l))
    (part_same c.args.at c.read.result.0 (bits_of c.octets.result.now) c.args.bits.now c.requires.at (omega (arith, c.read.ensures.high))
    c.octets.ensures.bits)
    (c.read.ensures.found before h)

pub returns-clause-first : goal.returns-clause-first
returns-clause-first c = λ before n h less.
    subst (λ l. found_more before l ≡ [])
    (part_same c.args.at n (bits_of c.octets.result.now) c.args.bits.now c.requires.at (omega (arith, c.read.ensures.high)) c.octets.ensures.bits)
    (c.read.ensures.first before n h less)

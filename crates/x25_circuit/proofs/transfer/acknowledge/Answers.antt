use Rattle.x25_circuit.proofs.{AskedLemmas.{bit_few, byte_is_bit}, Names.{◌≡◌, ◌+◌, ℕ, Bool, length, drop, ap, subst, ◌∙◌, arith, length-drop, asked_in, Held}}
use Rattle.x25_circuit.proofs.NumbersLemmas.{numbers_released, released_asks}
use Rattle.x25_circuit.proofs.transfer.acknowledge.Goals as goal

pub loop-packet-preserved : goal.loop-packet-preserved
loop-packet-preserved c =
    let fewer = ap (λ (h : Held Bool). length h.items) c.release.ensures.held ∙ length-drop 1 c.loop-packet.sender.items in
    let byte = byte_is_bit c.release.result in
    record {
      fits = λ n sent fits. numbers_released c.loop-packet.sender c.release.new.self n c.loop-packet._packet sent c.release.ensures.step
          (c.loop-packet.invariant.fits n sent fits);
      asked = λ n sent fits.
          let one = released_asks c.loop-packet.sender n c.loop-packet._packet sent c.release.result (c.loop-packet.invariant.fits n sent fits)
          c.release.ensures.item in
          omega (arith, one, c.loop-packet.invariant.asked n sent fits, c.from-asked.ensures, byte);
      few = omega (arith, c.loop-packet.invariant.few, c.from-asked.ensures, byte, bit_few c.release.result);
      left = omega (arith, fewer, c.loop-packet.invariant.left, c.loop-packet-test.true, c.requires);
    }

pub returns-clause-asked : goal.returns-clause-asked
returns-clause-asked c = λ n sent fits.
    let all : c.loop-packet._packet ≡ c.args.count = omega arith in
    subst (λ (m : ℕ). c.loop-packet.asked + asked_in (drop (n + m) sent) ≡ asked_in (drop n sent)) all (c.loop-packet.invariant.asked n sent fits)

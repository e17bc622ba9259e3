use Rattle.std.{proofs.Common.{◌∙◌, ◌++◌}, specs.Simd.Lanes.{number_l}}
use Rattle.x25_text.proofs.LaneLemmas.{lower_are, lower_of}
use Rattle.x25_text.proofs.hexadecimal.joined_sixteen.Goals as goal

pub returns-clause-octets : goal.returns-clause-octets
unfolding lower_of
returns-clause-octets c = λ first second.
    (λ i. lower_of (number_l 65536 (c.joined_words-front.ensures.octets first i)) 8
    ++ lower_of (number_l 65536 (c.joined_words-back.ensures.octets second i)) 8)
    ∙ (λ i. lower_are 8 c.args.first c.fits-first.0 first i ++ lower_are 8 c.args.second c.fits-second.0 second i)

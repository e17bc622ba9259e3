use Rattle.x25_text.proofs.LaneLemmas.{words_are, words_from}
use Rattle.x25_text.proofs.hexadecimal.joined_words.Goals as goal

pub returns-clause-octets : goal.returns-clause-octets
unfolding words_from
returns-clause-octets c = words_are 8 c.args.values c.fits-values.0

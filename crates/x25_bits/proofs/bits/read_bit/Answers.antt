use Rattle.x25_bits.proofs.OctetLemmas.{bit_read}
use Rattle.x25_bits.proofs.bits.read_bit.Goals as goal

pub returns : goal.returns
returns c = bit_read c.args.place c.args.octets.now c.requires

use Rattle.std.proofs.Common.{is_some, subst, sym, Option, Result}
use Rattle.x25_packet.specs.declared.error.PacketError.{PacketError}
use Rattle.x25_packet.specs.declared.form.Form.{Form}
use Rattle.x25_packet.specs.Packet.{plain}
use Rattle.x25_packet.specs.Grammar.{Gives}
use Rattle.x25_packet.specs.Taking.{read_in}
use Rattle.x25_packet.proofs.NarrowLaws.{read_taken}
use Rattle.x25_packet.proofs.taking.read.Goals as goal

pub returns-in-None : goal.returns-in-None
returns-in-None c =
    subst (λ (f : Option (Result Form PacketError)). Gives plain c.read.result (read_in (is_some f) c.args.most c.args.octets.now)) (sym c.in-None.is)
    (read_taken c.read.result _ c.read.ensures)

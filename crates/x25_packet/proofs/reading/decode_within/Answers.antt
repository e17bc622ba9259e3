use Rattle.std.proofs.Common.{◌≡◌, ◌∙◌, arith, sym, Result, Ok, Err, IfOk, IfErr, IsOkAnd}
use Rattle.x25_packet.specs.declared.packet.Packet.{Packet}
use Rattle.x25_packet.specs.declared.error.PacketError.{PacketError}
use Rattle.x25_packet.specs.Packet.{PlainPacket, plain}
use Rattle.x25_packet.specs.Spelling.{Spells}
use Rattle.x25_packet.specs.Grammar.{Gives}
use Rattle.x25_packet.specs.Reading.{packet_of}
use Rattle.x25_packet.proofs.FacilityLaws.{ok_err, ok_same}
use Rattle.x25_packet.specs.Reading.FirstError.{IsFirstError}
use Rattle.x25_packet.proofs.FaultLaws.{fault_first}
use Rattle.x25_packet.proofs.NarrowLaws.{found_written, only_written, read_taken}
use Rattle.x25_packet.proofs.reading.decode_within.Goals as goal

pub returns-clause-exact : goal.returns-clause-exact
returns-clause-exact c = read_taken c.read.result _ c.read.ensures

pub returns-clause-found : goal.returns-clause-found
returns-clause-found c = go c.read.result (read_taken c.read.result _ c.read.ensures)
  where
    go : (r : Result Packet PacketError) → Gives plain r (packet_of c.args.most c.args.octets.now)
        → IfOk r (λ v. Spells c.args.most (plain v) c.args.octets.now)
    go (Ok v) e = found_written c.args.most c.args.octets.now (λ i. omega (arith, c.type_inv.octets i)) (plain v) e
    go (Err f) e = tt

pub returns-clause-only : goal.returns-clause-only
returns-clause-only c = λ v spells. go c.read.result (read_taken c.read.result _ c.read.ensures) v (only_written c.args.most c.args.octets.now v spells)
  where
    go : (r : Result Packet PacketError) → Gives plain r (packet_of c.args.most c.args.octets.now) → (v : PlainPacket)
        → packet_of c.args.most c.args.octets.now ≡ Ok v → IsOkAnd r (λ w. plain w ≡ v)
    go (Ok w) e v h = ok_same (sym e ∙ h)
    go (Err f) e v h = absurd (ok_err (sym e ∙ h))

pub returns-clause-fault : goal.returns-clause-fault
returns-clause-fault c = go c.read.result (read_taken c.read.result _ c.read.ensures)
  where
    go : (r : Result Packet PacketError) → Gives plain r (packet_of c.args.most c.args.octets.now) → IfErr r (IsFirstError c.args.most c.args.octets.now)
    go (Ok v) e = tt
    go (Err f) e = fault_first c.args.most c.args.octets.now f (λ i. omega (arith, c.type_inv.octets i)) e

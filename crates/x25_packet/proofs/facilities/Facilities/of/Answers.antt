use Rattle.std.proofs.Common.{◌≡◌, ◌∙◌, ap, sym, Result, Ok, Err, IfOk, IfErr}
use Rattle.x25_packet.specs.declared.error.PacketError.{PacketError}
use Rattle.x25_packet.specs.declared.facilities.Facilities.{Facilities}
use Rattle.x25_packet.specs.Facilities.{AreAllowed, facilities_of, field_of}
use Rattle.x25_packet.specs.Reading.FirstError.{FieldError}
use Rattle.x25_packet.proofs.FacilityFaults.{facilities_fault}
use Rattle.x25_packet.proofs.FacilityLaws.{facilities_found, facilities_again}
use Rattle.x25_packet.proofs.facilities.Facilities.of.Goals as goal

pub returns-clause-found : goal.returns-clause-found
returns-clause-found c = go c.read.result c.read.ensures
  where
    go : (r : Result Facilities PacketError) → r ≡ facilities_of c.args.field.now → IfOk r (λ f. AreAllowed f × (c.args.field.now ≡ field_of f))
    go (Ok f) e = let found = facilities_found c.args.field.now f (sym e) in (found.allowed, found.spelling)
    go (Err x) e = tt

pub returns-clause-only : goal.returns-clause-only
returns-clause-only c = λ f allowed same. c.read.ensures ∙ ap facilities_of same ∙ facilities_again f allowed

pub returns-clause-fault : goal.returns-clause-fault
returns-clause-fault c = go c.read.result c.read.ensures
  where
    go : (r : Result Facilities PacketError) → r ≡ facilities_of c.args.field.now → IfErr r (FieldError c.args.field.now)
    go (Ok f) e = tt
    go (Err x) e = facilities_fault c.args.field.now x (sym e)

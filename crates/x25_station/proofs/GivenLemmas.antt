-- What is given beside a packet the user of the other end is told, where that end reads the packet.
use Rattle.x25_station.proofs.Names.{ℕ, ◌≡◌, ◌≢◌, ◌∙◌, List, ◌++◌, Some, Result, Ok, Err, Bool, true, false, inl, refl, sym, ap, arith, PlainGiven, may_give}
use Rattle.x25_station.proofs.Names.{write, written, WrittenIsInForm, WrittenIsRead, PlainForm, form_in, PlainPacket, packet_of, IsInRange, spelling_of}
use Rattle.x25_station.proofs.Names.{IsWithoutD, PacketError, Marks, ReadsWhatIsSpelled, TakesWhatIsSpelled, TakesWhatIsWritten, beside_in, beside_kind}
use Rattle.x25_given.specs.{Writing.{bare_block, call_block, fields, form_of, headed, written_read}, laws.ReadingLaw.{MayGo}}
use Rattle.x25_station.{proofs.Names.{beside_or_none, unless_written, AreOctets}, specs.laws.GivenLaw.{GivenIsTold, GivenIsWritten}}
use Rattle.x25_packet.specs.Packet as packet
use Rattle.x25_packet.specs.Form as wide

ok_same : (u v : PlainPacket) → (let r : Result PlainPacket PacketError = Ok u in r ≡ Ok v) → u ≡ v
ok_same u v e = cc

-- a packet without D is read in the form that a station writes
plainly : ReadsWhatIsSpelled → (g : PlainGiven) (v : PlainPacket) → IsInRange 128 v → IsWithoutD v → AreOctets (spelling_of v) → write g (spelling_of v)
    ≡ written g v
plainly reads g v range none octets = ap (written_read g (spelling_of v))
    ((reads 128 v (spelling_of v) octets).1 (record { in_range = range; without_d = none; spelling = refl }))

-- data, which D isn't read of in that form, are as they are
data_written : TakesWhatIsSpelled → TakesWhatIsWritten → (g : PlainGiven) (h : ℕ) (q : Marks) (m : Bool) (ps pr : ℕ) (user : List ℕ)
    → (let v = packet.user_data h q m ps pr user in IsInRange 128 v → AreOctets (spelling_of v) → write g (spelling_of v) ≡ spelling_of v)
data_written spelled alike g h q m ps pr user range octets = by (packet_of 128 o) refl
  where
    v : PlainPacket
    v = packet.user_data h q m ps pr user

    o : List ℕ
    o = spelling_of v

    by : (r : Result PlainPacket PacketError) → packet_of 128 o ≡ r → written_read g o r ≡ o
    by (Err e) is = refl
    by (Ok u) is = ap (written g) (ok_same u v (sym (alike true 128 u o is) ∙ spelled 128 v (omega arith) octets range))

pub given_written : ReadsWhatIsSpelled → TakesWhatIsSpelled → TakesWhatIsWritten → GivenIsWritten
given_written reads spelled alike g (packet.user_data channel q m ps pr user) range octets = data_written spelled alike g channel q m ps pr user range octets
given_written reads spelled alike g packet.restart_conf range octets = plainly reads g packet.restart_conf range tt octets
given_written reads spelled alike g v range octets = plainly reads g v range tt octets

-- octets that are no packet in the form that a station writes
told_by : (o : List ℕ) (w : PlainForm) (r : Result PlainPacket PacketError) → packet_of 128 o ≡ r → ((u : PlainPacket) → packet_of 128 o ≡ Ok u → ⊥)
    → form_in 128 o ≡ Ok w → unless_written r (beside_or_none (form_in 128 o)) ≡ beside_kind w.kind
told_by o w (Ok u) is none form = absurd (none u is)
told_by o w (Err e) is none form = ap beside_or_none form

told_as : ReadsWhatIsSpelled → TakesWhatIsWritten → WrittenIsRead → WrittenIsInForm → (g : PlainGiven) (v : PlainPacket) (w : PlainForm) → may_give g ≡ true
    → IsInRange 128 v → MayGo 128 g v → AreOctets (written g v) → written g v ≢ spelling_of v
    → form_of g v ≡ Some w → beside_in true (written g v) ≡ beside_kind w.kind
told_as reads alike read form g v w allowed range may octets other is =
    told_by (written g v) w (packet_of 128 (written g v)) refl none (form g 128 v w (omega arith) allowed range may is)
  where
    none : (u : PlainPacket) → packet_of 128 (written g v) ≡ Ok u → ⊥
    none u found =
        let taken = sym (alike true 128 u (written g v) found) ∙ read g 128 v (omega arith) allowed range may octets in
        let same : u ≡ v = ok_same u v taken in
        other (((reads 128 u (written g v) octets).0 found).spelling ∙ ap spelling_of same)

pub given_told : ReadsWhatIsSpelled → TakesWhatIsWritten → WrittenIsRead → WrittenIsInForm → GivenIsTold
given_told reads alike read form g (packet.call channel called calling field user) allowed range octets other = told_as reads alike read form g
    (packet.call channel called calling field user) (headed channel g.d (wide.call (call_block called calling (fields (field ++ g.facilities) user)))) allowed
    range (inl range.4) octets other refl
given_told reads alike read form g (packet.accept channel field) allowed range octets other = told_as reads alike read form g (packet.accept channel field)
    (headed channel g.d (wide.accept (Some (bare_block (fields (field ++ g.facilities) g.user))))) allowed range tt octets other refl
given_told reads alike read form g (packet.clear channel cause diagnostic) allowed range octets other = told_as reads alike read form g
    (packet.clear channel cause diagnostic) (headed channel false (wide.extended_clear cause diagnostic (bare_block (fields g.facilities g.user)))) allowed
    range tt octets other refl
given_told reads alike read form g packet.restart_conf allowed range octets other = absurd (other refl)
given_told reads alike read form g v allowed range octets other = absurd (other refl)

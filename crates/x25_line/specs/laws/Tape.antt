-- The rules of a peer, as a tape of the link shows them kept or broken: the frames of both ends, as they pass in
-- front of the station. Nothing else is known of the peer. So it counts as one that hears and takes all that was sent
-- to it, and was handed down what it sent, by number. ITU-T X.25 (10/96), sections 2.3.2, 2.3.4.9, 2.4.5 and 2.4.8.6.
use Rattle.std.specs.Prelude.{◌≡◌, ℕ, ◌+◌, ◌-◌, ◌%◌, ◌==◌, nat_lt, nat_le, List, [], ◌∷◌, ◌++◌, length, slice_get}
use Rattle.std.specs.Prelude.{Bool, true, false, ◌&&◌, if◌then◌else◌, Option, Some, None, Result}
use Rattle.x25_frame.specs.{Frame.{PlainFrame}, Reading.{frame_of}, declared.error.FrameError.{FrameError}}
use Rattle.x25_window.specs.code.Modulo.{resolved}
use Rattle.x25_link.specs.{Station.{LinkSettings}, Hearing.{other}}
use Rattle.x25_line.specs.{laws.Stations.{Act, acts}, laws.Peer.{Peer, numbered_to, told_to, hearing, taking}}
use Rattle.x25_line.specs.{laws.Said.{Said, Tells, said}, laws.PeerJoined.{JoinedOnce, start, our_end, with_peer}}

-- ---- what the peer sends: what is known of it then, or nothing where a rule is broken

abbrev pub same_octets : List ℕ → List ℕ → Bool
same_octets [] [] = true
same_octets (x ∷ xs) (y ∷ ys) = x == y && same_octets xs ys
same_octets [] (y ∷ ys) = false
same_octets (x ∷ xs) [] = false

abbrev pub is_item : Option (List ℕ) → List ℕ → Bool
is_item None packet = false
is_item (Some item) packet = same_octets item packet

-- N(R): it doesn't fall, and acknowledges nothing that was never sent
abbrev pub judges_ack : ℕ → Peer → Option Peer
judges_ack nr p =
    let t = resolved p.told nr in
    if nat_le t (length p.taken) && t % 8 == nr then Some (told_to t p) else None

abbrev pub then_ack : ℕ → Option Peer → Option Peer
then_ack nr None = None
then_ack nr (Some p) = judges_ack nr p

-- the next new one, or one of the seven before it, with the same packet
abbrev pub judges_item : ℕ → List ℕ → Peer → Option Peer
judges_item n packet p =
    if n == p.sent then Some (numbered_to n (record p { given = p.given ++ packet ∷ [] }))
    else if nat_lt n p.sent && is_item (slice_get p.given n) packet then Some (numbered_to n p)
    else None

-- N(S): the window isn't passed
abbrev pub judges_number : ℕ → List ℕ → Peer → Option Peer
judges_number ns packet p =
    let n = resolved (p.sent - 7) ns in
    if nat_lt n (p.acked + 7) && n % 8 == ns then judges_item n packet p else None

abbrev pub judges_said : Said → Peer → Option Peer
judges_said (Tells None nr) p = judges_ack nr p
judges_said (Tells (Some c) nr) p = then_ack nr (judges_number c.ns c.packet p)
judges_said other p = Some p

abbrev pub judges : Result PlainFrame FrameError → Peer → Option Peer
judges read p = judges_said (said read) p

-- ---- what the station sends

abbrev pub notes_said : Said → Peer → Peer
notes_said (Tells None nr) p = hearing true nr p
notes_said (Tells (Some c) nr) p = taking (c.ns == length p.taken % 8) c.packet (hearing true nr p)
notes_said other p = p

abbrev pub notes : Result PlainFrame FrameError → Peer → Peer
notes read p = notes_said (said read) p

-- ---- tapes of which nothing is told

-- of the station, of what is known of the peer, and of the octets between the tape and the station
pub data IsSilent (c : LinkSettings) : JoinedOnce → Type 0 where
  Begins : IsSilent c start
  -- the station acts; or octets are lost or damaged between the tape and the station
  Acts : (w : JoinedOnce) (act : Act) → IsSilent c w → IsSilent c (with_peer w.peer (acts c act (our_end w)))
  -- octets of the station are on the tape
  Shows : (w : JoinedOnce) (octets : List ℕ) (rest : List (List ℕ)) → w.out ≡ octets ∷ rest → IsSilent c w
      → IsSilent c (record w { peer = notes (frame_of c.role c.longest octets) w.peer; out = rest })
  -- octets of the peer are, and break no rule
  Comes : (w : JoinedOnce) (octets : List ℕ) (q : Peer)
      → judges (frame_of (other c.role) c.longest octets) w.peer ≡ Some q
      → IsSilent c w → IsSilent c (record w { peer = q; back = w.back ++ octets ∷ [] })

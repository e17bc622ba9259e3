-- The state of a LAPB station, on whole lists and unbounded numbers, and what sending changes.
-- ITU-T X.25 (10/96), sections 2.3.2 and 2.4.
use Rattle.std.specs.Prelude.{ℕ, zero, suc, ◌%◌, nat_lt, Bool, true, false, not, ◌&&◌, if◌then◌else◌, List, [], ◌∷◌}
use Rattle.std.specs.Prelude.{◌++◌, length}
use Rattle.x25_bits.specs.declared.role.Role.{Role}
use Rattle.x25_frame.specs.Frame.{PlainFrame, info, rr, rnr}
use Rattle.x25_link.specs.declared.phase.Closing.{Closing}
use Rattle.x25_link.specs.declared.phase.Closing.TheVariants.{Unasked, Asked, Ended}
use Rattle.x25_link.specs.declared.phase.Phase.{Phase}
use Rattle.x25_link.specs.declared.phase.Phase.TheVariants.{Down, Waiting, Up, Closed}
use Rattle.x25_link.specs.Outgoing.{Outgoing, no_packet, waits, is_open, next_packet, moved_on}

-- which end it is, k (section 2.4.8.6), N1 in octets of information (section 2.4.8.5, own unit), N2 (section 2.4.8.4),
-- and whether DISC is sent again until it is answered (profile)
pub record LinkSettings : Type 0 where
  pub role : Role
  pub window : ℕ
  pub longest : ℕ
  pub retries : ℕ
  pub disc_again : Bool

abbrev pub settings_of : Role → ℕ → ℕ → ℕ → Bool → LinkSettings
settings_of role k n1 n2 disc_again =
    record { role = role; window = k; longest = n1; retries = n2; disc_again = disc_again }

-- The packets handed down, and those handed up, whose number is V(R). `recovery` is the timer recovery condition,
-- `rejecting` the REJ condition, and `said_busy` tells whether RNR was the last of RR and RNR that were sent. `closing`
-- is what became of a DISC that is sent again.
pub record LinkStation : Type 0 where
  pub phase : Phase
  pub tries : ℕ
  pub outgoing : Outgoing
  pub taken : List (List ℕ)
  pub recovery : Bool
  pub peer_busy : Bool
  pub rejecting : Bool
  pub said_busy : Bool
  pub closing : Closing

-- the packets handed down, how many of these are acknowledged, and the packets handed up
pub record Lists : Type 0 where
  pub given : List (List ℕ)
  pub acked : ℕ
  pub taken : List (List ℕ)

-- those of a link that was just set up
abbrev pub no_packets : Lists
no_packets = record { given = []; acked = 0; taken = [] }

abbrev pub lists_of : LinkStation → Lists
lists_of s = record { given = s.outgoing.given; acked = s.outgoing.acked; taken = s.taken }

-- nothing handed down or up, all numbers 0, no condition stands
abbrev pub with_nothing : Phase → ℕ → LinkStation
with_nothing phase tries = record {
  phase = phase;
  tries = tries;
  outgoing = no_packet;
  taken = [];
  recovery = false;
  peer_busy = false;
  rejecting = false;
  said_busy = false;
  closing = Unasked;
}

-- a station whose link was just set up (section 2.4.4.1)
abbrev pub fresh : LinkStation
fresh = with_nothing Up 0

abbrev pub is_up : Phase → Bool
is_up Down = false
is_up Waiting = false
is_up Up = true
is_up Closed = false

-- UA is awaited
abbrev pub awaits_ua : Phase → Bool
awaits_ua Down = false
awaits_ua Waiting = true
awaits_ua Up = false
awaits_ua Closed = false

-- this end disconnected the link
abbrev pub is_closed : Phase → Bool
is_closed Down = false
is_closed Waiting = false
is_closed Up = false
is_closed Closed = true

-- a station that sent DISC: where that goes again, its answer is awaited (profile)
abbrev pub disconnected : Bool → LinkStation
disconnected again = record (with_nothing Closed 0) { closing = if again then Asked else Unasked }

abbrev pub is_asked : Closing → Bool
is_asked Unasked = false
is_asked Asked = true
is_asked (Ended ending) = false

-- the answer to a DISC is awaited
abbrev pub awaits_end : Phase → Closing → Bool
awaits_end phase closing = is_closed phase && is_asked closing

-- busy (section 2.4.5.8): exactly while more than 254 packets wait (profile)
abbrev pub is_busy : LinkStation → Bool
is_busy s = nat_lt 254 (waits s.outgoing)

-- V(R) as a frame carries it
abbrev pub wanted : LinkStation → ℕ
wanted s = length s.taken % 8

-- a station, and the frames that it has sent in this step
pub record Side : Type 0 where
  pub near : LinkStation
  pub out : List PlainFrame

abbrev pub with_near : Side → LinkStation → Side
with_near t s = record { near = s; out = t.out }

abbrev pub sends : PlainFrame → Side → Side
sends frame t = record { near = t.near; out = t.out ++ frame ∷ [] }

-- RR, or RNR where the station is busy (sections 2.4.5.3 and 2.4.5.8)
abbrev pub ready : Bool → Bool → Side → Side
ready command pf t = if is_busy t.near
    then sends (rnr command (wanted t.near) pf) (with_near t (record t.near { said_busy = true }))
    else sends (rr command (wanted t.near) pf) (with_near t (record t.near { said_busy = false }))

-- the next I frame, again or new (section 2.4.5.1)
abbrev pub next_frame : LinkStation → PlainFrame
next_frame s = info (s.outgoing.place % 8) (wanted s) false (next_packet s.outgoing)

abbrev pub send_next : Side → Side
send_next t = sends (next_frame t.near) (with_near t (record t.near { outgoing = moved_on t.near.outgoing }))

-- an I frame may be sent: no recovery, the peer isn't busy, the window is open, and there is a packet
abbrev pub may_send : ℕ → LinkStation → Bool
may_send k s = is_up s.phase && (not s.recovery && (not s.peer_busy && is_open k s.outgoing))

-- the sending rule, once
abbrev pub pumped_once : ℕ → Side → Side
pumped_once k t = if may_send k t.near then send_next t else t

-- the sending rule, for at most so many frames
unfoldable pub pumped : ℕ → ℕ → Side → Side
pumped zero k t = t
pumped (suc n) k t = pumped_once k (pumped n k t)

-- RNR was the last of RR and RNR, and the station is no longer busy (profile)
abbrev pub owes_ready : LinkStation → Bool
owes_ready s = is_up s.phase && (s.said_busy && not (is_busy s))

-- what a busy station that isn't busy any more says
abbrev pub finished : Side → Side
finished t = if owes_ready t.near then ready false false t else t

-- the end of each step: the sending rule, and then the RR that ends an RNR
abbrev pub ended : ℕ → Side → Side
ended k t = finished (pumped 7 k t)

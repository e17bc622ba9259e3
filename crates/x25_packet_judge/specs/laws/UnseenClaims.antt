-- What a book makes of what isn't seen, isn't read or isn't judged.
use Rattle.std.specs.Prelude.{◌≡◌, ◌⊎◌, ℕ, ◌+◌, ◌%◌, ◌<◌, ◌≤◌, ◌==◌, Bool, true, false, not, ◌&&◌, if◌then◌else◌}
use Rattle.std.specs.Prelude.{List, Option, Some, None, Err}
use Rattle.x25_bits.specs.declared.role.{Role.{Role}}
use Rattle.x25_decode.specs.declared.answer.Reading.{Reading}
use Rattle.x25_frame.specs.Frame.{PlainFrame, ua}
use Rattle.x25_packet.specs.{Packet.{PlainPacket}, Reading.{packet_of}, Spelling.{longest_user}, Grammar.{form_in}}
use Rattle.x25_packet.specs.{Taking.{taken_in}}
use Rattle.x25_packet.specs.declared.error.PacketError.{PacketError}
use Rattle.x25_packet_judge.specs.{Book.{hears, is_modulo_8, is_of_all, layers_of, misses, misses_on, passes_gap}}
use Rattle.x25_packet_judge.specs.{Book.{reads, sees, takes}, Channels.{all_alike, channel_of}}
use Rattle.x25_packet_judge.specs.Layers.{is_followed, may_hear}
use Rattle.x25_packet_judge.specs.Channel.{begun_channel, is_known as both_known, ready_channel}
use Rattle.x25_packet_judge.specs.laws.BookClaims.{awaits, end_of, set_of}
use Rattle.x25_packet_judge.specs.declared.{book.Book.{Book}, book.Noted.{Noted}}
use Rattle.x25_packet_judge.specs.declared.book.Noted.TheVariants.{Unjudged}
use Rattle.x25_packet_judge.specs.declared.packet_rule.PacketRule.TheVariants as rules
use Rattle.x25_possible.specs.code.Steps.{is_known}

-- ---- what isn't seen

-- neither end is known on any channel, nor of RESTART, and not all was seen since a set-up
pub record KnowsNothing (b : Book) : Type 0 where
  pub sets : (role : Role) (channel : ℕ) → is_known (set_of role channel b) ≡ false
  pub restarts : (role : Role) → is_known (end_of role b.restarts) ≡ false
  pub whole : b.is_whole ≡ false

-- So it is after a gap, where no end's packets are followed; after an N(R) that acknowledges a packet of the other end
-- that wasn't seen, in whole numbers; and after octets that spell no packet, and name no channel. UA that answers
-- nothing changes nothing.
pub record UnseenIsUnknown : Type 0 where
  pub gap : (b : Book) → KnowsNothing (passes_gap b)
  pub unfollowed : (b : Book) (role : Role) → is_followed (layers_of role (passes_gap b)).own.track ≡ false
  pub acknowledged : (b : Book) (from : Role) (number acked next taken : ℕ) → may_hear (layers_of from b) ≡ true
      → (layers_of from b).other.acked ≡ acked % 8 → (layers_of from b).other.next ≡ next % 8 → number ≡ taken % 8
      → acked ≤ next → next < taken → taken < acked + 8 → KnowsNothing (hears from number b)
  pub unnamed : (b : Book) → KnowsNothing (misses_on 0 b).book
  pub unasked : (b : Book) (from : Role) (reading : Reading) (f is_open : Bool) → (layers_of from b).own.asked ≡ 0
      → (sees from reading (ua f) true is_open b).book ≡ b

-- ---- since the set-up

-- the sets of both are the same
pub record HasSetsOf (b c : Book) : Type 0 where
  pub restarts : c.restarts ≡ b.restarts
  pub channels : c.channels ≡ b.channels

-- both packet layers begin anew
pub record HasBegun (b : Book) : Type 0 where
  pub restarts : b.restarts ≡ begun_channel
  pub channels : b.channels ≡ all_alike ready_channel

-- Behind a book's sets, those of another: the same; those that a packet leaves; or those that octets on a channel
-- leave which are no packet that is judged.
pub data Follows (b c : Book) : Type 0 where
  Stays : HasSetsOf b c → Follows b c
  Takes : (from : Role) (channel : ℕ) (packet : PlainPacket) (d : Book) → HasSetsOf b d
      → HasSetsOf (takes from channel packet d).book c → Follows b c
  Misses : (channel : ℕ) (d : Book) → HasSetsOf b d → HasSetsOf (misses_on channel d).book c → Follows b c

-- A book is whole only as both begin, and as long as each frame leaves the sets that follow from those before it: so
-- its sets are those that all packets since the set-up leave.
pub record WholeBooksFollow : Type 0 where
  pub frame : (b : Book) (from : Role) (reading : Reading) (frame : PlainFrame) (is_broken is_open : Bool)
      → (sees from reading frame is_broken is_open b).book.is_whole ≡ true
      → HasBegun (sees from reading frame is_broken is_open b).book
      ⊎ ((b.is_whole ≡ true) × Follows b (sees from reading frame is_broken is_open b).book)
  pub no_frame : (b : Book) (from : Role) → (misses from b).is_whole ≡ true
      → (b.is_whole ≡ true) × HasSetsOf b (misses from b)

-- ---- what isn't judged

abbrev pub is_noted : ℕ → Book → Bool
is_noted channel b = (channel_of channel b.channels).is_noted

abbrev pub are_known : ℕ → Book → Bool
are_known channel b = both_known (channel_of channel b.channels)

-- what is said of a packet that isn't judged: once
abbrev pub noted_once : ℕ → Book → Option Noted
noted_once channel b = if is_noted channel b then None else Some (Unjudged channel)

-- no form has these octets
pub record SpellNone (reading : Reading) (octets : List ℕ) : Type 0 where
  pub written : (e : PacketError) × (packet_of (longest_user reading.long) octets ≡ Err e)
  pub taken : (e : PacketError) × (taken_in (longest_user reading.long) octets ≡ Err e)
  pub any : (e : PacketError) × (form_in (longest_user reading.long) octets ≡ Err e)

-- Of a packet of a channel that isn't judged that is noted, once; it is noted anew once both ends were known. Octets
-- that spell no packet break a rule where their format is that of packets modulo 8, and else are noted so.
pub record UnjudgedIsNoted : Type 0 where
  pub packet : (b : Book) (from : Role) (channel : ℕ) (packet : PlainPacket) → is_of_all packet ≡ false
      → (takes from channel packet b).verdict.is_judged ≡ false
      → ((takes from channel packet b).verdict.noted ≡ noted_once channel b)
      × (is_noted channel (takes from channel packet b).book ≡ true)
  pub anew : (b : Book) (from : Role) (channel : ℕ) (packet : PlainPacket) → is_of_all packet ≡ false
      → awaits from packet b ≡ false → (takes from channel packet b).verdict.is_judged ≡ true
      → is_noted channel (takes from channel packet b).book
      ≡ (is_noted channel b && not (are_known channel (takes from channel packet b).book))
  pub octets : (b : Book) (channel : ℕ) → (channel == 0) ≡ false
      → ((misses_on channel b).verdict.noted ≡ noted_once channel b)
      × (is_noted channel (misses_on channel b).book ≡ true)
  pub unnamed : (b : Book) → (misses_on 0 b).verdict.noted ≡ Some (Unjudged 0)
  pub no_packet : (b : Book) (from : Role) (reading : Reading) (channel : ℕ) (octets : List ℕ)
      → SpellNone reading octets → is_modulo_8 octets ≡ true
      → (reads from reading channel octets b).verdict.rule ≡ Some rules.NoPacket
  pub other_format : (b : Book) (from : Role) (reading : Reading) (channel : ℕ) (octets : List ℕ)
      → SpellNone reading octets → is_modulo_8 octets ≡ false
      → (reads from reading channel octets b).verdict ≡ (misses_on channel b).verdict

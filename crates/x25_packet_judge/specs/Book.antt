-- The packet layers of both ends and all their channels, and what a frame changes and breaks. ITU-T X.25 (10/96),
-- sections 3 and 4.
use Rattle.std.specs.Prelude.{ℕ, ◌≡◌, ◌/◌, ◌%◌, ◌==◌, Bool, true, false, ◌&&◌, ◌||◌, if◌then◌else◌, List, [], ◌∷◌}
use Rattle.std.specs.Prelude.{not, Option, Some, None, Result, Ok, Err, IfOk}
use Rattle.x25_bits.specs.declared.role.Role.{Role}
use Rattle.x25_frame.specs.Frame.{PlainFrame, info, rr, rnr, rej, sabm, disc, ua, dm, frmr}
use Rattle.x25_packet.specs.{Packet.{PlainPacket, plain, restart, restart_conf}, Reading.{channel_in, packet_of}}
use Rattle.x25_packet.specs.{Spelling.{IsInRange, longest_user}, Form.{PlainKind, PlainForm}, Grammar.{Gives, form_in}}
use Rattle.x25_packet.specs.declared.{error.PacketError.{PacketError}, packet.Packet.{Packet}}
use Rattle.x25_decode.specs.declared.answer.Reading.{Reading}
use Rattle.x25_packet_judge.specs.Channel as channels
use Rattle.x25_packet_judge.specs.{Channels.{all_alike, all_happens, channel_of, put}, Item.{item_of}}
use Rattle.x25_packet_judge.specs.Layers as layers
use Rattle.x25_packet_judge.specs.declared.{book.Book.{Book}, book.Noted.{Noted}, book.Verdict.{Verdict}}
use Rattle.x25_packet_judge.specs.declared.{book.Noted.TheVariants.{Unjudged}, channel.Channel.{Channel}}
use Rattle.x25_packet_judge.specs.declared.{channel.Event.TheVariants.{Sends, Loss}, layers.Layers.{Layers}}
use Rattle.x25_packet_judge.specs.declared.packet_rule.PacketRule.TheVariants as rules
use Rattle.x25_possible.specs.declared.packet.{Defaults.{Defaults}, Packet.{Packet as Item}}
use Rattle.x25_possible.specs.declared.packet.Packet.TheVariants.{Elsewhere}
use Rattle.x25_packet.specs.Form as form
use Rattle.x25_packet.specs.Taking.{taken_in}

-- nothing was sent, on a network with these defaults
abbrev pub empty : Defaults → Book
empty defaults = record {
  dte = layers.new;
  dce = layers.new;
  restarts = channels.any_channel;
  channels = all_alike channels.any_channel;
  is_whole = false;
  defaults = defaults;
}

-- ---- parts: the end that sends comes first

abbrev pub layers_of : Role → Book → Layers
layers_of from b = record { own = channels.by_end from b.dte b.dce; other = channels.by_end from b.dce b.dte }

abbrev pub keeps : Role → Layers → Book → Book
keeps from t b = record b { dte = channels.by_end from t.own t.other; dce = channels.by_end from t.other t.own }

-- packets of an end were missed, of any channels
abbrev pub forgets : Book → Book
forgets b = record b { restarts = channels.lost b.restarts; channels = all_happens Loss b.channels; is_whole = false }

-- frames weren't seen, of either end
abbrev pub passes_gap : Book → Book
passes_gap b = forgets (record b { dte = layers.unseen; dce = layers.unseen })

-- ---- a packet

-- behind a frame, with what is told of its packet
pub record Seen : Type 0 where
  pub book : Book
  pub verdict : Verdict

abbrev pub seen : Book → Verdict → Seen
seen b v = record { book = b; verdict = v }

-- the packet wasn't judged, which may be noted
abbrev pub passed : Book → Option Noted → Seen
passed b noted = seen b (record { rule = None; noted = noted; is_judged = false })

abbrev pub quiet : Book → Seen
quiet b = passed b None

abbrev pub puts : ℕ → channels.Found → Book → Seen
puts channel f b = seen (record b { channels = put channel f.channel b.channels }) f.verdict

-- a packet of a channel, before which RESTART may have to be answered
abbrev pub told_early : Bool → Seen → Seen
told_early is_early s = seen s.book
    (if is_early then record { rule = Some rules.RestartAwaited; noted = None; is_judged = true } else s.verdict)

abbrev pub with_restarts : Channel → Book → Book
with_restarts c b = record b { restarts = c }

abbrev pub judges : Role → ℕ → Item → Book → Seen
judges from channel x b = told_early (channels.is_early from b.restarts)
    (puts channel (channels.judges channel from x (channel_of channel b.channels))
    (with_restarts (channels.takes from Elsewhere b.restarts).channel b))

-- where nothing was sent since the set-up, the packet layer may go on from before it
abbrev pub follows : Role → ℕ → Item → Bool → Book → Seen
follows from channel x is_first b =
    judges from channel x (with_restarts (if is_first then channels.lost b.restarts else b.restarts) b)

-- RESTART and its confirmation are packets of all channels; of RESTART itself no rule is told
abbrev pub restarts : Role → Item → Bool → Book → Seen
restarts from x is_judged b = let f = channels.takes from x b.restarts in
    seen (record b { restarts = f.channel; channels = all_happens (Sends from x) b.channels })
    (record { rule = f.verdict.rule; noted = f.verdict.noted; is_judged = is_judged || f.verdict.is_judged })

-- the end has sent a packet
abbrev pub spoken : Role → Book → Book
spoken from b = let t = layers_of from b in keeps from (record t { own = record t.own { is_quiet = false } }) b

abbrev pub is_restart : PlainPacket → Bool
is_restart (restart cause diagnostic) = true
is_restart packet = false

abbrev pub is_confirmation : PlainPacket → Bool
is_confirmation restart_conf = true
is_confirmation packet = false

abbrev pub is_of_all : PlainPacket → Bool
is_of_all packet = is_restart packet || is_confirmation packet

unfoldable pub takes : Role → ℕ → PlainPacket → Book → Seen
takes from channel packet b =
    if is_of_all packet then restarts from (item_of b.defaults packet) (is_restart packet) (spoken from b)
    else follows from channel (item_of b.defaults packet) (layers_of from b).own.is_quiet (spoken from b)

-- octets that spell none: nothing may be said of any channel where they name none
abbrev pub misses_on : ℕ → Book → Seen
misses_on channel b =
    if channel == 0 then passed (forgets b) (Some (Unjudged 0))
    else puts channel (channels.misses channel (channel_of channel b.channels)) b

-- DIAGNOSTIC changes nothing of calls and restarts
abbrev pub diagnoses : PlainKind → Bool
diagnoses (form.diagnostic number explanation) = true
diagnoses kind = false

-- by the general format identifier; packets modulo 128 aren't read
abbrev pub is_modulo_8 : List ℕ → Bool
is_modulo_8 [] = false
is_modulo_8 (first ∷ octets) = first / 16 % 4 == 1

-- which no station takes: DIAGNOSTIC, another packet, or of that format none in any form
abbrev pub untaken : ℕ → List ℕ → Result PlainForm PacketError → Book → Seen
untaken channel octets (Ok w) b = if diagnoses w.kind then quiet b else misses_on channel b
untaken channel octets (Err e) b = let s = misses_on channel b in
    if is_modulo_8 octets then seen s.book (record { rule = Some rules.NoPacket; noted = None; is_judged = true })
    else s

-- in any form: as the packet that a station takes it for
abbrev pub takes_any : Role → ℕ → List ℕ → Result PlainForm PacketError → Result PlainPacket PacketError → Book → Seen
takes_any from channel octets form (Ok packet) b = takes from channel packet b
takes_any from channel octets form (Err e) b = untaken channel octets form b

abbrev pub reads_any : Role → ℕ → ℕ → List ℕ → Book → Seen
reads_any from channel most octets b =
    takes_any from channel octets (form_in most octets) (taken_in most octets) b

-- in the form that a station writes, or in any
abbrev pub takes_read : Role → ℕ → ℕ → List ℕ → Result PlainPacket PacketError → Book → Seen
takes_read from channel most octets (Ok packet) b = takes from channel packet b
takes_read from channel most octets (Err e) b = reads_any from channel most octets b

-- what information reads as, in the form that a station writes
abbrev pub IsPacketOf : Bool → List ℕ → Result Packet PacketError → Type 0
IsPacketOf long octets packet =
    Gives plain packet (packet_of (longest_user long) octets) × IfOk packet (λ v. IsInRange 128 (plain v))

-- and that of an I frame, where packets are read so
abbrev pub IsRead : Reading → PlainFrame → Result Packet PacketError → Type 0
IsRead reading (info ns nr p octets) packet = reading.wide ≡ false → IsPacketOf reading.long octets packet
IsRead reading frame packet = Unit {0}

-- the information of an I frame
unfoldable pub reads : Role → Reading → ℕ → List ℕ → Book → Seen
reads from reading channel octets b =
    if reading.wide then reads_any from channel (longest_user reading.long) octets b
    else takes_read from channel (longest_user reading.long) octets (packet_of (longest_user reading.long) octets) b

-- ---- a frame

-- an N(R): where it shows that packets of the other end weren't seen, no end is known on any channel
unfoldable pub hears : Role → ℕ → Book → Book
hears from number b =
    if layers.finds_other number (layers_of from b)
    then keeps from (layers.hears number (layers_of from b)) (forgets b)
    else keeps from (layers.hears number (layers_of from b)) b

-- an I frame, by N(S): where an end isn't followed before its next set-up no packet is judged
abbrev pub carries : Role → Reading → Bool → List ℕ → Option ℕ → Book → Seen
carries from reading may_judge octets None b = quiet b
carries from reading may_judge octets (Some channel) b =
    if may_judge then reads from reading channel octets b
    else if layers.are_dropped (layers_of from b) then misses_on channel b else quiet b

unfoldable pub moves : Role → Reading → ℕ → List ℕ → Book → Seen
moves from reading number octets b =
    carries from reading (layers.may_judge number (layers_of from b)) octets (channel_in octets)
    (keeps from (layers.moves number (layers_of from b)) b)

-- one that breaks a rule of the link layer may hide packets
unfoldable pub sends_info : Role → Reading → ℕ → ℕ → List ℕ → Bool → Book → Seen
sends_info from reading ns nr octets is_broken b =
    if is_broken then quiet (keeps from (layers.loses (layers_of from b)) b)
    else moves from reading ns octets (hears from nr b)

-- both packet layers begin anew; a call that was up may go on
unfoldable pub begins : Role → Layers → Book → Book
begins from t b = keeps from t (record b {
  restarts = channels.begun_channel;
  channels = all_alike channels.ready_channel;
  is_whole = true;
})

unfoldable pub asks : Role → Layers → Book → Book
asks from t b = if layers.is_asked_again t then keeps from (layers.asks t) b else begins from (layers.asks t) b

-- UA, behind which what was sent before may come yet, and what the other end sent between SABMs that it may answer
unfoldable pub accepts : Role → Bool → Layers → Book → Book
accepts from is_open t b =
    if layers.is_late t && not is_open then keeps from (layers.accepts t) b
    else if is_open || layers.is_under_way t.own then keeps from (layers.accepts t) (forgets b)
    else begins from (layers.accepts t) b

unfoldable pub accepts_if : Role → Bool → Bool → Layers → Book → Book
accepts_if from is_broken is_open t b =
    if is_broken && t.own.asked == 0 then b
    else accepts from (is_open || (t.other.is_fresh && not t.other.is_quiet)) t b

-- By whether it breaks a rule of the link layer. UA is open where I frames of the other end may come behind it, in
-- front of a SABM that waits.
unfoldable pub sees : Role → Reading → PlainFrame → Bool → Bool → Book → Seen
sees from reading (info ns nr p octets) is_broken is_open b = sends_info from reading ns nr octets is_broken b
sees from reading (rr command nr pf) is_broken is_open b = quiet (hears from nr b)
sees from reading (rnr command nr pf) is_broken is_open b = quiet (hears from nr b)
sees from reading (rej command nr pf) is_broken is_open b = quiet (hears from nr b)
sees from reading (sabm p) is_broken is_open b = quiet (asks from (layers_of from b) b)
sees from reading (ua f) is_broken is_open b = quiet (accepts_if from is_broken is_open (layers_of from b) b)
sees from reading (dm f) is_broken is_open b = quiet (keeps from (layers.answers (layers_of from b)) b)
sees from reading (disc p) is_broken is_open b = quiet (keeps from (layers.asks_more (layers_of from b)) b)
sees from reading (frmr f why) is_broken is_open b = quiet b

-- octets that are no frame
abbrev pub misses : Role → Book → Book
misses from b = keeps from (layers.misses (layers_of from b)) b

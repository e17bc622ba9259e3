-- Each call of a station: when it is refused, and what it does. A call of the link is a step of the link, and then what
-- the layer does at what that hands up or notes; a command to the layer is the layer's call. What the layer puts is
-- handed down to the link in the same step.
use Rattle.std.specs.Prelude.{ℕ, ◌==◌, Bool, true, false, ◌&&◌, if◌then◌else◌, List, [], ◌∷◌, ◌++◌, Option, Some, None}
use Rattle.x25_frame.specs.Frame.{PlainFrame}
use Rattle.x25_packet.specs.Spelling.{longest_user}
use Rattle.x25_station.specs.Beside.{beside_in}
use Rattle.x25_packet.specs.Taking.{read_in}
use Rattle.x25_link.specs.declared.error.LinkError.{LinkError}
use Rattle.x25_link.specs.declared.phase.Reason.{Reason}
use Rattle.x25_link.specs.Station.{LinkStation, Side, is_up}
use Rattle.x25_link.specs.Hearing.{LinkStep}
use Rattle.x25_link.specs.Outgoing.{waits}
use Rattle.x25_link.specs.Link.{alone, take_step, timer_refusal, timer_step, connect_refusal, connect_step}
use Rattle.x25_link.specs.Link.{disconnect_refusal, disconnect_step, abandon_step, probe_refusal, relink_refusal}
use Rattle.x25_link.specs.Link.{relink_step}
use Rattle.x25_layer.specs.Layer.{LayerSettings, Layer, LayerAnswer, rested}
use Rattle.x25_layer.specs.Calls.{LayerRequest, LayerOutcome, Accepted, Declined, layer_outcome}
use Rattle.x25_layer.specs.code.FitsLayer.{is_full}
use Rattle.x25_layer.specs.Receiving.{answer_to}
use Rattle.x25_layer.specs.laws.Rounds.{LinkView, Putting, Answered, Went, Refuses, calls, hears, comes_up}
use Rattle.x25_station.specs.declared.error.StationError.{StationError}
use Rattle.x25_station.specs.declared.error.StationError.TheVariants as error
use Rattle.x25_station.specs.Config.{Settings, link_settings, layer_settings}
use Rattle.x25_station.specs.Command.{Command, Requests, RequestsWith, Connects, Disconnects, Probes, Relinks, may_ask}
use Rattle.x25_station.specs.Command.{said_by}
use Rattle.x25_station.specs.Entry.{end_between, entries_ended}
use Rattle.x25_station.specs.Entry.{StationEntry, connect_asked, disconnect_asked, relink_asked, entries_noted}
use Rattle.x25_station.specs.Entry.{station_told, station_asked, bringing, entries_beside, entries_behind}
use Rattle.x25_station.specs.Confirming.{confirmed, named_by}
use Rattle.x25_given.specs.Given.{PlainGiven}
use Rattle.x25_station.specs.Giving.{is_taken, all_given, view_given, not_taken}
use Rattle.x25_station.specs.Station.{Station, all_put, view_of}

-- the station after a step, the frames to send, in order, and the entries of the transcript
pub record Step : Type 0 where
  pub near : Station
  pub out : List PlainFrame
  pub entries : List StationEntry

pub data Outcome : Type 0 where
  Did : (step : Step) → Outcome
  Refused : (error : StationError) → Outcome

-- what the layer puts is handed down behind the link's own step
abbrev pub with_puts : Settings → Side → Putting → List StationEntry → Step
with_puts c t s entries =
    let u = all_put (link_settings c) s.put t in
    record { near = record { link = u.near; layer = s.layer; turn = s.turn }; out = u.out; entries = entries }

-- ---- what the layer does at a step of the link

-- nothing is put, and the turn is as it was
abbrev pub rests : ℕ → Layer → Putting
rests turn l = record { layer = l; put = []; turn = turn }

-- what LinkDown leaves of it
abbrev pub layer_down : Layer → Option Reason → Layer
layer_down l None = l
layer_down l (Some reason) = rested l

-- LinkDown; then LinkUp; else the packet that is handed up. Where there is none of these nothing is asked of the layer,
-- so nothing is pulled.
abbrev pub layer_at : LinkView → LayerSettings → Bool → Layer → Option (List ℕ) → Option Reason → Bool → Putting
layer_at link c wide l packet down true = (comes_up link c).step
layer_at link c wide l packet (Some reason) false = rests link.turn (rested l)
layer_at link c wide l (Some octets) None false = (hears link c wide l octets).step
layer_at link c wide l None None false = rests link.turn l

-- what the layer answers to the octets of a packet
abbrev pub layer_answer : LayerSettings → Bool → Layer → List ℕ → LayerAnswer
layer_answer c wide l octets = answer_to c l octets (read_in wide (longest_user c.circuit.long_data) octets)

abbrev pub entries_of_answer : LayerAnswer → List StationEntry
entries_of_answer a = station_told a.next a.notices

-- how many messages a packet confirms on the channel that it names, where packets are read in all their forms
abbrev pub confirmed_by : LayerSettings → Bool → Layer → Layer → ℕ → ℕ
confirmed_by c false l next h = 0
confirmed_by c true l next h = confirmed c l next h

-- what it tells of a packet, and what that confirmed or brought beside
abbrev pub entries_of_packet : LayerSettings → Bool → Layer → List ℕ → List StationEntry
entries_of_packet c wide l octets =
    let a = layer_answer c wide l octets in
    entries_of_answer a ++ entries_behind a.next (named_by octets) (confirmed_by c wide l a.next (named_by octets))
    (entries_beside (beside_in wide octets) (bringing a.notices))

abbrev pub entries_heard : LayerSettings → Bool → Layer → Option (List ℕ) → Option Reason → Bool → List StationEntry
entries_heard c wide l packet down true = []
entries_heard c wide l packet (Some reason) false = []
entries_heard c wide l (Some octets) None false = entries_of_packet c wide l octets
entries_heard c wide l None None false = []

-- a step of the link, and then the layer
abbrev pub follows : Settings → Station → LinkStep → Step
follows c s k =
    with_puts c k.side (layer_at (view_of (link_settings c) s.turn k.side.near)
    (layer_settings c) c.wide s.layer k.packet k.notes.down k.notes.up)
    (entries_noted k.notes ++ entries_heard (layer_settings c) c.wide s.layer k.packet k.notes.down k.notes.up)

-- ---- connect, disconnect, and timer T1: refused as the link's

abbrev pub unless : Option LinkError → Step → Outcome
unless None step = Did step
unless (Some e) step = Refused (error.Link e)

abbrev pub connects : Settings → Station → Outcome
connects c s = unless (connect_refusal s.link.phase) (follows c s (connect_step (link_settings c) s.link))

-- the entry of an accepted command comes first
abbrev pub led_by : List StationEntry → Step → Step
led_by entries step = record { near = step.near; out = step.out; entries = entries ++ step.entries }

-- a step of the link that may end what a DISC awaits
abbrev pub ends : Settings → Station → LinkStep → Step
ends c s k = led_by (entries_ended (end_between s.link k.side.near)) (follows c s k)

abbrev pub fires : Settings → Station → Outcome
fires c s = unless (timer_refusal s.link) (ends c s (timer_step (link_settings c) s.link))

-- connect as a command, which has an entry
abbrev pub connects_asked : Settings → Station → Outcome
connects_asked c s = unless (connect_refusal s.link.phase)
    (led_by (connect_asked ∷ []) (follows c s (connect_step (link_settings c) s.link)))

abbrev pub disconnects : Settings → Station → Outcome
disconnects c s = unless (disconnect_refusal s.link.phase)
    (led_by (disconnect_asked ∷ []) (follows c s (disconnect_step (link_settings c) s.link)))

-- ---- probe, which has no entry, and relink

abbrev pub probes : Settings → Station → Outcome
probes c s = unless (probe_refusal s.link.phase) (follows c s (timer_step (link_settings c) s.link))

abbrev pub relinks : Settings → Station → Outcome
relinks c s = unless (relink_refusal s.link.phase)
    (led_by (relink_asked ∷ []) (follows c s (relink_step (link_settings c) s.link)))

-- ---- octets that come

-- where the link is up and a count of restarts, clears or resets is at its most, before the octets are looked at
abbrev pub abandons : Settings → Station → Bool
abandons c s = is_up s.link.phase && is_full (layer_settings c) s.layer

abbrev pub link_receives : Settings → Station → List ℕ → LinkStep
link_receives c s octets = if abandons c s then abandon_step (link_settings c) s.link
    else take_step (link_settings c) octets s.link

abbrev pub receives : Settings → Station → List ℕ → Step
receives c s octets = ends c s (link_receives c s octets)

-- ---- commands

abbrev pub entries_of_outcome : LayerSettings → Layer → LayerRequest → LayerOutcome → List StationEntry
entries_of_outcome c l request (Accepted next packet) = station_asked c l next request
entries_of_outcome c l request (Declined e) = []

-- the layer's call over the link
abbrev pub did : Settings → Side → List StationEntry → Answered → Outcome
did c t entries (Went s) = Did (with_puts c t s entries)
did c t entries (Refuses e) = Refused (error.Layer e)

abbrev pub requests_of : Settings → LinkStation → Layer → LinkView → LayerRequest → Outcome
requests_of c link l view request =
    did c (alone link) (entries_of_outcome (layer_settings c) l request
    (layer_outcome (layer_settings c) (view.waits [] == 256) l request)) (calls view (layer_settings c) l request)

-- refused as the layer's call, and else with 34 where this may not be asked
abbrev pub where_asked : Bool → Outcome → Outcome
where_asked true outcome = outcome
where_asked false (Did step) = Refused not_taken
where_asked false (Refused e) = Refused e

abbrev pub requests : Settings → Station → LayerRequest → Outcome
requests c s request =
    where_asked (may_ask c.wide request) (requests_of c s.link s.layer
    (view_of (link_settings c) s.turn s.link) request)

-- ---- with something given beside the packet

-- what is given goes with the first packet that the layer puts
abbrev pub with_given : Settings → PlainGiven → Side → Putting → List StationEntry → Step
with_given c g t s entries =
    let u = all_given (link_settings c) g s.put t in
    record { near = record { link = u.near; layer = s.layer; turn = s.turn }; out = u.out; entries = entries }

abbrev pub gave : Settings → PlainGiven → Bool → Side → List StationEntry → Answered → Outcome
gave c g taken t entries (Went s) = if taken then Did (with_given c g t s entries) else Refused not_taken
gave c g taken t entries (Refuses e) = Refused (error.Layer e)

abbrev pub gives_of : Settings → LinkStation → PlainGiven → Bool → Station → LayerRequest → Outcome
gives_of c link g taken s request =
    gave c g taken (alone link) (entries_of_outcome (layer_settings c) s.layer request
    (layer_outcome (layer_settings c) (waits link.outgoing == 256) s.layer request))
    (calls (view_given (link_settings c) g s.turn link) (layer_settings c) s.layer request)

-- refused as without, and else with 34 where this may not be given beside that
abbrev pub gives : Settings → Station → PlainGiven → LayerRequest → Outcome
gives c s g request = gives_of c s.link g (is_taken c g request) s request

-- with or without something given
abbrev pub asks : Settings → Station → Option PlainGiven → LayerRequest → Outcome
asks c s None request = requests c s request
asks c s (Some given) request = gives c s given request

abbrev pub gives_said : Settings → Station → PlainGiven → LayerRequest → Outcome
gives_said c s g request = gives c s g (said_by c.say_sizes s.layer request)

abbrev pub commands : Settings → Station → Command → Outcome
commands c s (Requests request) = requests c s (said_by c.say_sizes s.layer request)
commands c s (RequestsWith given request) = gives_said c s given request
commands c s Connects = connects_asked c s
commands c s Disconnects = disconnects c s
commands c s Probes = probes c s
commands c s Relinks = relinks c s

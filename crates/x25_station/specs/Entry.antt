-- The entries of the transcript of a station (profile): what its user asked, what the link noted, and what the packet
-- layer told.
use Rattle.std.specs.Prelude.{ℕ, zero, suc, Bool, true, false, if◌then◌else◌, List, [], ◌∷◌, ◌++◌, Option, Some, None}
use Rattle.x25_station.specs.Beside.{PlainBeside, nothing, fields, diagnosed}
use Rattle.x25_circuit.specs.Notice.{PlainNotice, incoming, connected, cleared, clear_done}
use Rattle.x25_link.specs.declared.phase.Closing.{Closing}
use Rattle.x25_link.specs.declared.phase.Closing.TheVariants.{Ended}
use Rattle.x25_link.specs.declared.phase.Ending.{Ending}
use Rattle.x25_link.specs.declared.phase.Reason.{Reason}
use Rattle.x25_link.specs.declared.phase.Notes.{Notes}
use Rattle.x25_link.specs.Station.{LinkStation, awaits_end}
use Rattle.x25_handshakes.specs.laws.Names.{Name}
use Rattle.x25_layer.specs.Layer.{LayerSettings, Layer, LayerNotice, on_channel, restarted, restart_done, layer_fault}
use Rattle.x25_layer.specs.Calls.{LayerRequest, Asks, Dials, Restarts, PullsAll}
use Rattle.x25_layer.specs.laws.Transcript.{Entry, Said, Asked, Told, name_of}
use Rattle.x25_layer.specs.laws.TwoLayers.{entries_asked}

pub data StationEntry : Type 0 where
  -- what a channel's user asked or was told, under the name of the stretch
  of_channel : (entry : Entry) → StationEntry
  restart_asked : (cause : ℕ) → (diagnostic : ℕ) → StationEntry
  connect_asked : StationEntry
  disconnect_asked : StationEntry
  relink_asked : StationEntry
  link_up : StationEntry
  link_down : (reason : Reason) → StationEntry
  -- a DISC that was awaited ended so
  disconnected : (ending : Ending) → StationEntry
  was_restarted : (cause : ℕ) → (diagnostic : ℕ) → StationEntry
  restart_confirmed : StationEntry
  -- an error of procedure on channel 0
  at_fault : (diagnostic : ℕ) → StationEntry
  -- the facility field and the user data of the packet of which the entry in front of this one tells
  came_beside : (channel : ℕ) → (facilities : List ℕ) → (user : List ℕ) → StationEntry
  -- a DIAGNOSTIC of the other end
  was_diagnosed : (diagnostic : ℕ) → StationEntry
  -- so many messages more of this stretch are confirmed, of those whose confirmation was asked
  was_confirmed : (channel : ℕ) → (name : Name) → (count : ℕ) → StationEntry

-- ---- what the link notes: that it went down, and then that it went up

abbrev pub entries_down : Option Reason → List StationEntry
entries_down None = []
entries_down (Some reason) = link_down reason ∷ []

abbrev pub entries_up : Bool → List StationEntry
entries_up false = []
entries_up true = link_up ∷ []

abbrev pub entries_noted : Notes → List StationEntry
entries_noted notes = entries_down notes.down ++ entries_up notes.up

-- ---- how it ended that this end disconnected the link: once, at the step behind which no answer to DISC is awaited

abbrev pub end_if : Bool → Closing → Option Ending
end_if true (Ended ending) = Some ending
end_if awaited closing = None

-- by the link before a step and behind it
abbrev pub end_between : LinkStation → LinkStation → Option Ending
end_between s next = end_if (awaits_end s.phase s.closing) next.closing

abbrev pub entries_ended : Option Ending → List StationEntry
entries_ended None = []
entries_ended (Some ending) = disconnected ending ∷ []

-- ---- what the layer tells, under the name that stands then

abbrev pub entry_told : Layer → LayerNotice → StationEntry
entry_told l (on_channel h notice) = of_channel (record { channel = h; name = name_of l h; said = Told notice })
entry_told l (restarted cause diagnostic) = was_restarted cause diagnostic
entry_told l restart_done = restart_confirmed
entry_told l (layer_fault diagnostic) = at_fault diagnostic

abbrev pub station_told : Layer → List LayerNotice → List StationEntry
station_told l [] = []
station_told l (notice ∷ notices) = entry_told l notice ∷ station_told l notices

-- ---- what a packet brought beside what it is told as

-- of a call, its acceptance and its end
abbrev pub may_bring : PlainNotice → Bool
may_bring (incoming request) = true
may_bring (connected params) = true
may_bring (cleared cause diagnostic) = true
may_bring clear_done = true
may_bring notice = false

-- the channel of the notice of such a packet
abbrev pub bringing : List LayerNotice → Option ℕ
bringing [] = None
bringing (on_channel h notice ∷ notices) = if may_bring notice then Some h else bringing notices
bringing (notice ∷ notices) = bringing notices

abbrev pub entries_beside : PlainBeside → Option ℕ → List StationEntry
entries_beside nothing channel = []
entries_beside (fields facilities user) None = []
entries_beside (fields facilities user) (Some h) = came_beside h facilities user ∷ []
entries_beside (diagnosed diagnostic) channel = was_diagnosed diagnostic ∷ []

-- A packet that confirms brings nothing beside: that it does is told in the place of that.
abbrev pub entries_behind : Layer → ℕ → ℕ → List StationEntry → List StationEntry
entries_behind next h zero beside = beside
entries_behind next h (suc count) beside = was_confirmed h (name_of next h) (suc count) ∷ []

-- ---- what was asked of the layer, and accepted, by the layer before and after it; pulls have no entry

abbrev pub of_channels : List Entry → List StationEntry
of_channels [] = []
of_channels (e ∷ entries) = of_channel e ∷ of_channels entries

abbrev pub station_asked : LayerSettings → Layer → Layer → LayerRequest → List StationEntry
station_asked c l next (Asks h request) = of_channels (entries_asked c l next (Asks h request))
station_asked c l next (Dials called calling user proposal) = of_channels
    (entries_asked c l next (Dials called calling user proposal))
station_asked c l next (Restarts cause diagnostic) = restart_asked cause diagnostic ∷ []
station_asked c l next PullsAll = []

-- ---- the entries that the layer's own transcript has, and what its user was told

abbrev pub in_layer : StationEntry → List Entry
in_layer (of_channel e) = e ∷ []
in_layer entry = []

abbrev pub layer_entries : List StationEntry → List Entry
layer_entries [] = []
layer_entries (entry ∷ entries) = in_layer entry ++ layer_entries entries

abbrev pub notice_of : ℕ → Said → List LayerNotice
notice_of h (Asked request) = []
notice_of h (Told notice) = on_channel h notice ∷ []

abbrev pub notice_in : StationEntry → List LayerNotice
notice_in (of_channel e) = notice_of e.channel e.said
notice_in (was_restarted cause diagnostic) = restarted cause diagnostic ∷ []
notice_in restart_confirmed = restart_done ∷ []
notice_in (at_fault diagnostic) = layer_fault diagnostic ∷ []
notice_in entry = []

abbrev pub layer_notices : List StationEntry → List LayerNotice
layer_notices [] = []
layer_notices (entry ∷ entries) = notice_in entry ++ layer_notices entries

-- What the user of a station asks for (profile: the commands).
use Rattle.std.specs.Prelude.{Bool, true, false, not, ◌||◌, Option, Some, None, unwrap_or}
use Rattle.x25_packet.specs.declared.marks.Marks.{Marks}
use Rattle.x25_circuit.specs.Params.{Proposal, in_brief, in_full, default_params}
use Rattle.x25_circuit.specs.Circuit.{Circuit}
use Rattle.x25_circuit.specs.declared.params.Params.{Params}
use Rattle.x25_circuit.specs.Calling.{Request, Accepts, Clears, Sends, Interrupts, Resets, SaysReady, SaysNotReady}
use Rattle.x25_layer.specs.Layer.{Layer}
use Rattle.x25_layer.specs.Calls.{LayerRequest, Asks, Dials, Restarts, PullsAll, asks_memory}
use Rattle.x25_given.specs.Given.{PlainGiven, given_with}
use Rattle.x25_station.specs.declared.command.Cmd.{Cmd}
use Rattle.x25_station.specs.declared.command.Cmd.TheVariants as code

-- something of the packet layer, without or with something given beside its packet, or that the link be set up,
-- disconnected, polled, or set up anew
pub data Command : Type 0 where
  Requests : (request : LayerRequest) → Command
  RequestsWith : (given : PlainGiven) → (request : LayerRequest) → Command
  Connects : Command
  Disconnects : Command
  Probes : Command
  Relinks : Command

-- with or without something given
abbrev pub requesting : Option PlainGiven → LayerRequest → Command
requesting None request = Requests request
requesting (Some given) request = RequestsWith given request

-- an acceptance with these packet sizes and windows, or with those proposed
abbrev pub answer_in_brief : Option Params → Option Proposal
answer_in_brief None = None
answer_in_brief (Some params) = Some (in_brief params)

-- A call takes a free channel; the others name theirs. Where no packet sizes and windows are named, a call proposes the
-- defaults, and an acceptance takes what is proposed.
abbrev pub command_of : Cmd → Command
command_of (code.Call called calling user params given) =
    requesting (given_with given) (Dials called.now calling.now user.now (in_brief (unwrap_or params default_params)))
command_of (code.Accept channel params given) =
    requesting (given_with given) (Asks channel (Accepts (answer_in_brief params)))
command_of (code.Clear channel cause diagnostic given) =
    requesting (given_with given) (Asks channel (Clears cause diagnostic))
command_of (code.Send channel q d user) =
    Requests (Asks channel (Sends (record { q = q; d = d }) user.now))
command_of (code.Interrupt channel user) = Requests (Asks channel (Interrupts user.now))
command_of (code.Reset channel cause diagnostic) = Requests (Asks channel (Resets cause diagnostic))
command_of (code.Ready channel) = Requests (Asks channel SaysReady)
command_of (code.NotReady channel) = Requests (Asks channel SaysNotReady)
command_of (code.Restart cause diagnostic) = Requests (Restarts cause diagnostic)
command_of code.Pull = Requests PullsAll
command_of code.Connect = Connects
command_of code.Disconnect = Disconnects
command_of code.Probe = Probes
command_of code.Relink = Relinks

-- ---- confirmation is asked by a station that reads packets in all their forms

abbrev pub may_mark : Bool → Marks → Bool
may_mark wide marks = not marks.d || wide

abbrev pub may_ask : Bool → LayerRequest → Bool
may_ask wide (Asks h (Sends marks user)) = may_mark wide marks
may_ask wide request = true

-- ---- a call, an acceptance and a message want memory for a message

abbrev pub may_lack : Command → Bool
may_lack (Requests request) = asks_memory request
may_lack (RequestsWith given request) = asks_memory request
may_lack command = false

-- ---- with the setting, calls and acceptances say all packet sizes and windows

abbrev pub proposal_said : Bool → Proposal → Proposal
proposal_said says proposal = record { params = proposal.params; says_all = says || proposal.says_all }

abbrev pub answer_said : Bool → Circuit → Option Proposal → Option Proposal
answer_said says x (Some answer) = Some (proposal_said says answer)
answer_said true x None = Some (in_full x.params)
answer_said false x None = None

abbrev pub request_said : Bool → Circuit → Request → Request
request_said says x (Accepts answer) = Accepts (answer_said says x answer)
request_said says x request = request

abbrev pub said_by : Bool → Layer → LayerRequest → LayerRequest
said_by says l (Asks h request) = Asks h (request_said says (l.circuits h) request)
said_by says l (Dials called calling user proposal) = Dials called calling user (proposal_said says proposal)
said_by says l (Restarts cause diagnostic) = Restarts cause diagnostic
said_by says l PullsAll = PullsAll

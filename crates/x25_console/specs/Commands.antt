-- What a line of a script asks of a station (profile).
use Rattle.std.specs.Prelude.{ℕ, List, [], ◌++◌, Option, Some, None, unwrap_or}
use Rattle.x25_circuit.specs.Params.{in_brief, default_params}
use Rattle.x25_circuit.specs.Calling.{Accepts, Clears, Sends, Interrupts, Resets, SaysReady, SaysNotReady}
use Rattle.x25_layer.specs.Calls.{LayerRequest, Asks, Dials, Restarts, PullsAll}
use Rattle.x25_station.specs.Command.{Command, Requests, RequestsWith, Connects, Disconnects, Probes, Relinks}
use Rattle.x25_station.specs.Command.{answer_in_brief}
use Rattle.x25_given.specs.Given.{PlainGiven}
use Rattle.x25_script.specs.ScriptLine.{PlainCommand, call, accept, clear, send, interrupt, reset, ready, not_ready}
use Rattle.x25_script.specs.ScriptLine.{restart, pull, connect, disconnect, probe, relink, with_given, part_user}

-- What is asked of a call; of others it isn't read. A call without packet sizes and windows proposes the default, and
-- an acceptance without them accepts what was proposed. A cause or a diagnostic that isn't given is 0.
abbrev pub part_asked : PlainCommand → LayerRequest
part_asked (call called calling user params) =
    Dials called calling user (in_brief (unwrap_or params default_params))
part_asked (accept channel params) = Asks channel (Accepts (answer_in_brief params))
part_asked (clear channel given) = Asks channel (Clears (unwrap_or given.cause 0) (unwrap_or given.diagnostic 0))
part_asked asked = PullsAll

-- what it gives beside its packet
abbrev pub given_asked : PlainCommand → Option PlainGiven
given_asked (with_given facilities user d asked) =
    Some (record { facilities = facilities; user = user; d = d })
given_asked asked = None

abbrev pub command_asked : PlainCommand → Command
command_asked (call called calling user params) = Requests (part_asked (call called calling user params))
command_asked (accept channel params) = Requests (part_asked (accept channel params))
command_asked (clear channel given) = Requests (part_asked (clear channel given))
command_asked (with_given facilities user d asked) = RequestsWith
    (record { facilities = facilities; user = user; d = d }) (part_asked asked)
command_asked (send channel q d user) = Requests (Asks channel (Sends (record { q = q; d = d }) user))
command_asked (interrupt channel user) = Requests (Asks channel (Interrupts user))
command_asked (reset channel given) = Requests (Asks channel (Resets (unwrap_or given.cause 0)
    (unwrap_or given.diagnostic 0)))
command_asked (ready channel) = Requests (Asks channel SaysReady)
command_asked (not_ready channel) = Requests (Asks channel SaysNotReady)
command_asked (restart given) = Requests (Restarts (unwrap_or given.cause 0) (unwrap_or given.diagnostic 0))
command_asked pull = Requests PullsAll
command_asked connect = Connects
command_asked disconnect = Disconnects
command_asked probe = Probes
command_asked relink = Relinks

-- facilities, user data beside what is asked of a call, and the user data in it
abbrev pub given_in : List ℕ → List ℕ → List ℕ → List ℕ
given_in facilities beside user = facilities ++ (beside ++ user)

-- the octets of a command
abbrev pub user_in : PlainCommand → List ℕ
user_in (with_given facilities user d asked) = given_in facilities user (part_user asked)
user_in asked = part_user asked

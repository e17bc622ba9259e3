-- A line of a script as a value alone, without where its characters lie (profile).
use Rattle.std.specs.Prelude.{ℕ, Bool, true, false, ◌||◌, not, if◌then◌else◌, List, [], Option, Some, None, is_some}
use denote.Ref.{Bor}
use Rattle.x25_bits.specs.declared.role.Role.{Role}
use Rattle.x25_circuit.specs.declared.params.Params.{Params}
use Rattle.x25_script.specs.declared.given.Given.{Given}
use Rattle.x25_script.specs.declared.script_line.Beside.{Beside}
use Rattle.x25_script.specs.declared.script_line.Command.{Command}
use Rattle.x25_script.specs.declared.script_line.Command.TheVariants as command_code

-- A call has the characters of the called address, those of the calling one, and the user data; the others begin with
-- their channel, before Q, D and the user data. A call and its acceptance may have packet sizes and windows, and a
-- clear, a reset and a restart a cause and a diagnostic. Before what is asked of a call facilities may stand, user
-- data, and whether D is set.
pub data PlainCommand : Type 0 where
  call : List ℕ → List ℕ → List ℕ → Option Params → PlainCommand
  accept : ℕ → Option Params → PlainCommand
  clear : ℕ → Given → PlainCommand
  with_given : List ℕ → List ℕ → Bool → PlainCommand → PlainCommand
  send : ℕ → Bool → Bool → List ℕ → PlainCommand
  interrupt : ℕ → List ℕ → PlainCommand
  reset : ℕ → Given → PlainCommand
  ready : ℕ → PlainCommand
  not_ready : ℕ → PlainCommand
  restart : Given → PlainCommand
  pull : PlainCommand
  connect : PlainCommand
  disconnect : PlainCommand
  probe : PlainCommand
  relink : PlainCommand

-- An end; or the end that a direction leads away from, a place and octets; or a count.
pub data PlainLine : Type 0 where
  command : Role → PlainCommand → PlainLine
  t1 : Role → PlainLine
  deliver : Role → PlainLine
  lose : Role → ℕ → PlainLine
  damage : Role → ℕ → List ℕ → PlainLine
  drain : ℕ → PlainLine
  heal : PlainLine

-- what is asked, with this beside it
abbrev pub given_by : Beside → PlainCommand → PlainCommand
given_by beside = with_given beside.facilities beside.user beside.d

abbrev pub with_beside : Option (Bor Beside) → PlainCommand → PlainCommand
with_beside None = λ asked. asked
with_beside (Some beside) = given_by beside.now

-- without what stands beside it
abbrev pub plain_alone : Command → PlainCommand
plain_alone (command_code.Call called calling user params beside) = call called.now calling.now user params
plain_alone (command_code.Accept params channel beside) = accept channel params
plain_alone (command_code.Clear channel given beside) = clear channel given
plain_alone (command_code.Send channel q d user) = send channel q d user
plain_alone (command_code.Interrupt channel user) = interrupt channel user
plain_alone (command_code.Reset channel given) = reset channel given
plain_alone (command_code.Ready channel) = ready channel
plain_alone (command_code.NotReady channel) = not_ready channel
plain_alone (command_code.Restart given) = restart given
plain_alone command_code.Pull = pull
plain_alone command_code.Connect = connect
plain_alone command_code.Disconnect = disconnect
plain_alone command_code.Probe = probe
plain_alone command_code.Relink = relink

abbrev pub beside_of : Command → Option (Bor Beside)
beside_of (command_code.Call called calling user params beside) = beside
beside_of (command_code.Accept params channel beside) = beside
beside_of (command_code.Clear channel given beside) = beside
beside_of asked = None

abbrev pub plain_command : Command → PlainCommand
plain_command asked = with_beside (beside_of asked) (plain_alone asked)

-- the user data of a command that gives nothing beside it, none where it has no such field
abbrev pub part_user : PlainCommand → List ℕ
part_user (call called calling user params) = user
part_user (send channel q d user) = user
part_user (interrupt channel user) = user
part_user asked = []

-- ---- what only the wide form has

abbrev pub is_any : Given → Bool
is_any given = is_some given.cause || is_some given.diagnostic

abbrev pub is_wide : PlainCommand → Bool
is_wide (clear channel given) = is_any given
is_wide (reset channel given) = is_any given
is_wide (restart given) = is_any given
is_wide (with_given facilities user d asked) = true
is_wide (send channel q d user) = d
is_wide asked = false

-- with the wide form all are taken
abbrev pub is_taken : Bool → PlainCommand → Bool
is_taken wide asked = not (is_wide asked) || wide

-- a line that is read, where it is taken
abbrev pub taken : Bool → Option PlainLine → Option PlainLine
taken wide (Some (command end asked)) = if is_taken wide asked then Some (command end asked) else None
taken wide read = read

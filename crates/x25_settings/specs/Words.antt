-- What the words of the command line ask for, or why they ask for nothing (profile).
use Rattle.std.specs.Prelude.{◌≡◌, ◌≤◌, ℕ, suc, Bool, true, false, nat_le, ◌+◌, ◌-◌, List, [], ◌∷◌, length}
use Rattle.std.specs.Prelude.{Option, Some, None, unwrap_or, option_map, option_and_then, Result, Ok, Err}
use Rattle.std.specs.Prelude.{if◌then◌else◌}
use Rattle.std.specs.Prelude.{codes}
use Rattle.std.specs.Str.{bytes_eq}
use Rattle.x25_settings.specs.declared.items.Item.{Item}
use Rattle.x25_settings.specs.declared.items.Item.TheVariants.{Number, Located}
use Rattle.x25_settings.specs.declared.items.Named.{Named}
use Rattle.x25_settings.specs.declared.items.Named.TheVariants as named
use Rattle.x25_settings.specs.declared.options.At.{At}
use Rattle.x25_settings.specs.declared.options.At.TheVariants as at
use Rattle.x25_settings.specs.declared.options.Choice.{Choice}
use Rattle.x25_settings.specs.declared.options.Choice.TheVariants as choice
use Rattle.x25_settings.specs.declared.options.Command.{Command}
use Rattle.x25_settings.specs.declared.options.Command.TheVariants as command
use Rattle.x25_settings.specs.declared.options.End.{End}
use Rattle.x25_settings.specs.declared.options.GivenTimes.{GivenTimes}
use Rattle.x25_settings.specs.declared.options.StationOptions.{StationOptions}
use Rattle.x25_settings.specs.declared.words.Asked.{Asked}
use Rattle.x25_settings.specs.declared.words.Refusal.{Refusal}
use Rattle.x25_settings.specs.declared.words.Task.{Task}
use Rattle.x25_settings.specs.declared.words.Task.TheVariants.{Decode, Vectors, Sim, Station, Judge, Deframe, Frame}
use Rattle.x25_settings.specs.declared.words.Task.TheVariants.{Tabs}
use Rattle.x25_settings.specs.declared.words.Why.{Why}
use Rattle.x25_settings.specs.declared.words.Why.TheVariants as why
use Rattle.x25_settings.specs.Items.{asks_help, asks_version, fault_in, is_chosen, item_of, items, operand_of}
use Rattle.x25_settings.specs.Options.{command_in, has_end, has_file, least_of, most_of, usual_of}

-- the value of an option, where it is there
abbrev pub value_of : Option Item → Option ℕ
value_of (Some (Number x n)) = Some n
value_of item = None

abbrev pub given_of : Choice → List (ℕ × Item) → Option ℕ
given_of x list = value_of (item_of x list)

abbrev pub number_of : Choice → List (ℕ × Item) → ℕ
number_of x list = unwrap_or (given_of x list) (usual_of x)

abbrev pub site_of : Option Item → At
site_of (Some (Located at)) = at
site_of item = at.Either

abbrev pub station_of : List (ℕ × Item) → StationOptions
station_of list = record {
  long = is_chosen choice.Long list;
  say_sizes = is_chosen choice.SaySizes list;
  wide = is_chosen choice.Wide list;
  k = number_of choice.Window list;
  n2 = number_of choice.Tries list;
  channels = number_of choice.Channels list;
  incoming = number_of choice.Incoming list;
  outgoing = number_of choice.Outgoing list;
  message = number_of choice.Message list;
}

abbrev pub times_of : List (ℕ × Item) → GivenTimes
times_of list = record {
  t1 = given_of choice.T1 list;
  t3 = given_of choice.T3 list;
  t20 = given_of choice.T20 list;
  t21 = given_of choice.T21 list;
  t22 = given_of choice.T22 list;
  t23 = given_of choice.T23 list;
  t25 = given_of choice.T25 list;
  t26 = given_of choice.T26 list;
}

abbrev pub clock_of : List (ℕ × Item) → Option GivenTimes
clock_of list = if is_chosen choice.Clock list then Some (times_of list) else None

abbrev pub end_named : Named → Option End
end_named (named.End end) = Some end
end_named x = None

abbrev pub end_of : List (ℕ × Item) → Option End
end_of list = option_and_then (λ placed. end_named placed.1) (operand_of false list)

-- a file and not standard input
abbrev pub file_named : ℕ → Named → Option ℕ
file_named left named.Input = None
file_named left x = Some left

abbrev pub file_of : Command → List (ℕ × Item) → Option ℕ
file_of command list = option_and_then (λ placed. file_named placed.0 placed.1) (operand_of (has_end command) list)

-- no more channels are one-way than there are
abbrev pub fit_ranges : StationOptions → Bool
fit_ranges s = nat_le (s.incoming + s.outgoing) s.channels

abbrev pub placed_at : List (ℕ × Item) → Option End → Result Task Why
placed_at list None = Err why.NoEnd
placed_at list (Some end) = if fit_ranges (station_of list)
    then Ok (Station (record {
      end = end;
      station = station_of list;
      clock = clock_of list;
      loose = is_chosen choice.Loose list;
      reasons = is_chosen choice.Reasons list;
    }))
    else Err why.OneWay

abbrev pub deframed_at : Option End → Result Task Why
deframed_at None = Err why.NoEnd
deframed_at (Some end) = Ok (Deframe end)

-- what the items behind a command say
abbrev pub task_of : Command → List (ℕ × Item) → Result Task Why
task_of command.Decode list = Ok (Decode (record {
  long = is_chosen choice.Long list;
  loose = is_chosen choice.Loose list;
  wide = is_chosen choice.Wide list;
}))
task_of command.Vectors list = Ok Vectors
task_of command.Sim list = Ok (Sim (record {
  down = is_chosen choice.Down list;
  tap = is_chosen choice.Tap list;
  events = is_chosen choice.Events list;
  loose = is_chosen choice.Loose list;
  station = station_of list;
}))
task_of command.Station list = placed_at list (end_of list)
task_of command.Judge list = Ok (Judge (record {
  long = is_chosen choice.Long list;
  loose = is_chosen choice.Loose list;
  manners = is_chosen choice.Manners list;
  strict = is_chosen choice.Strict list;
  wide = is_chosen choice.Wide list;
  k = number_of choice.Window list;
  size = number_of choice.Size list;
  window = number_of choice.PacketWindow list;
  at = site_of (item_of choice.At list);
}))
task_of command.Deframe list = deframed_at (end_of list)
task_of command.Frame list = Ok (Frame (is_chosen choice.Loose list))
task_of command.Tabs list = Ok Tabs

abbrev pub fault_of : Command → List (ℕ × Item) → Option (ℕ × Why)
fault_of command list = fault_in (is_chosen choice.Clock list) (has_end command) (has_file command) list

abbrev pub refused : Option Command → ℕ → Why → Result Asked Refusal
refused command place reason = Err (record { command = command; place = place; why = reason })

abbrev pub asks : Command → ℕ → Option ℕ → Result Task Why → Result Asked Refusal
asks command count file (Err reason) = refused (Some command) count reason
asks command count file (Ok task) = Ok (record { task = task; file = option_map (λ left. count - left) file })

abbrev pub asks_unless : Command → ℕ → List (ℕ × Item) → Option (ℕ × Why) → Result Asked Refusal
asks_unless command count list (Some fault) = refused (Some command) (count - fault.0) fault.1
asks_unless command count list None = asks command count (file_of command list) (task_of command list)

-- a command, with so many words, and what stands behind it
abbrev pub asked_behind : Command → ℕ → List (ℕ × Item) → Result Asked Refusal
asked_behind command count list = asks_unless command count list (fault_of command list)

-- the word behind `help`
abbrev pub helped : List (List ℕ) → Option Command
helped [] = None
helped (word ∷ rest) = command_in word

-- why a first word is no command
abbrev pub front_fault : List ℕ → List (List ℕ) → Result Asked Refusal
front_fault word rest = if bytes_eq word (codes "help") then refused (helped rest) 0 why.Help
    else if asks_help word then refused None 0 why.Help
    else if asks_version word then refused None 0 why.Version
    else refused None 0 why.UnknownCommand

abbrev pub asked_by : List ℕ → List (List ℕ) → Option Command → Result Asked Refusal
asked_by word rest None = front_fault word rest
asked_by word rest (Some command) = asked_behind command (suc (length rest)) (items command false rest)

unfoldable pub asked_in : List (List ℕ) → Result Asked Refusal
asked_in [] = refused None 0 why.NoCommand
asked_in (word ∷ rest) = asked_by word rest (command_in word)

-- the numbers of a task
abbrev pub IsInRange : Command → Choice → ℕ → Type 0
IsInRange command x n = (least_of x ≤ n) × (n ≤ most_of command x)

abbrev pub OptionsAreInRange : Command → StationOptions → Type 0
OptionsAreInRange command s = IsInRange command choice.Window s.k × IsInRange command choice.Tries s.n2
    × IsInRange command choice.Channels s.channels × IsInRange command choice.Message s.message

abbrev pub AreInRange : Task → Type 0
AreInRange (Decode d) = Unit {0}
AreInRange Vectors = Unit {0}
AreInRange (Sim s) = OptionsAreInRange command.Sim s.station
AreInRange (Station p) = OptionsAreInRange command.Station p.station × (fit_ranges p.station ≡ true)
AreInRange (Judge g) = IsInRange command.Judge choice.Window g.k
AreInRange (Deframe end) = Unit {0}
AreInRange (Frame loose) = Unit {0}
AreInRange Tabs = Unit {0}

-- The commands and their options: words, values, and which command has which (profile).
use Rattle.std.specs.Prelude.{ℕ, Bool, true, false, ◌&&◌, nat_le, List, [], ◌∷◌, Option, Some, None, codes, decimal}
use Rattle.std.specs.Prelude.{if◌then◌else◌}
use Rattle.std.specs.List.{find}
use Rattle.std.specs.Str.{bytes_eq}
use Rattle.std.specs.Str.Parse.{digits_value}
use Rattle.x25_settings.specs.declared.options.At.{At}
use Rattle.x25_settings.specs.declared.options.At.TheVariants as at
use Rattle.x25_settings.specs.declared.options.Choice.{Choice}
use Rattle.x25_settings.specs.declared.options.Choice.TheVariants as choice
use Rattle.x25_settings.specs.declared.options.Command.{Command}
use Rattle.x25_settings.specs.declared.options.Command.TheVariants.{Decode, Vectors, Sim, Station, Judge, Deframe}
use Rattle.x25_settings.specs.declared.options.Command.TheVariants.{Frame, Tabs}
use Rattle.x25_settings.specs.declared.options.End.{End}
use Rattle.x25_settings.specs.declared.options.End.TheVariants.{Dte, Dce}

abbrev pub command_word : Command → List ℕ
command_word Decode = codes "decode"
command_word Vectors = codes "vectors"
command_word Sim = codes "sim"
command_word Station = codes "station"
command_word Judge = codes "judge"
command_word Deframe = codes "deframe"
command_word Frame = codes "frame"
command_word Tabs = codes "tabs"

abbrev pub word_of : Choice → List ℕ
word_of choice.Clock = codes "--clock"
word_of choice.Down = codes "--down"
word_of choice.Events = codes "--events"
word_of choice.Long = codes "--long"
word_of choice.Loose = codes "--loose"
word_of choice.Manners = codes "--manners"
word_of choice.Reasons = codes "--reasons"
word_of choice.SaySizes = codes "--say-sizes"
word_of choice.Strict = codes "--strict"
word_of choice.Tap = codes "--tap"
word_of choice.Wide = codes "--wide"
word_of choice.At = codes "--at"
word_of choice.Window = codes "--k"
word_of choice.Tries = codes "--n2"
word_of choice.Channels = codes "--channels"
word_of choice.Incoming = codes "--incoming"
word_of choice.Outgoing = codes "--outgoing"
word_of choice.Message = codes "--message"
word_of choice.Size = codes "--size"
word_of choice.PacketWindow = codes "--window"
word_of choice.T1 = codes "--t1"
word_of choice.T3 = codes "--t3"
word_of choice.T20 = codes "--t20"
word_of choice.T21 = codes "--t21"
word_of choice.T22 = codes "--t22"
word_of choice.T23 = codes "--t23"
word_of choice.T25 = codes "--t25"
word_of choice.T26 = codes "--t26"

abbrev pub end_word : End → List ℕ
end_word Dte = codes "dte"
end_word Dce = codes "dce"

abbrev pub at_word : At → List ℕ
at_word at.Line = codes "line"
at_word at.Dte = codes "dte"
at_word at.Dce = codes "dce"
at_word at.Either = codes "either"

-- which command has which option
abbrev pub has : Command → Choice → Bool
has Decode choice.Long = true
has Decode choice.Loose = true
has Decode choice.Wide = true
has Decode x = false
has Vectors x = false
has Sim choice.Down = true
has Sim choice.Events = true
has Sim choice.Long = true
has Sim choice.Loose = true
has Sim choice.SaySizes = true
has Sim choice.Tap = true
has Sim choice.Wide = true
has Sim choice.Window = true
has Sim choice.Tries = true
has Sim choice.Channels = true
has Sim choice.Message = true
has Sim x = false
has Station choice.Down = false
has Station choice.Events = false
has Station choice.Manners = false
has Station choice.Strict = false
has Station choice.Tap = false
has Station choice.At = false
has Station choice.Size = false
has Station choice.PacketWindow = false
has Station x = true
has Judge choice.Long = true
has Judge choice.Loose = true
has Judge choice.Manners = true
has Judge choice.Strict = true
has Judge choice.Wide = true
has Judge choice.At = true
has Judge choice.Window = true
has Judge choice.Size = true
has Judge choice.PacketWindow = true
has Judge x = false
has Deframe x = false
has Frame choice.Loose = true
has Frame x = false
has Tabs x = false

-- which is of one end, and which may read a file
abbrev pub has_end : Command → Bool
has_end Station = true
has_end Deframe = true
has_end command = false

abbrev pub has_file : Command → Bool
has_file Vectors = false
has_file command = true

abbrev pub is_time : Choice → Bool
is_time choice.T1 = true
is_time choice.T3 = true
is_time choice.T20 = true
is_time choice.T21 = true
is_time choice.T22 = true
is_time choice.T23 = true
is_time choice.T25 = true
is_time choice.T26 = true
is_time x = false

-- the options with a value
abbrev pub wants_value : Choice → Bool
wants_value choice.At = true
wants_value choice.Window = true
wants_value choice.Tries = true
wants_value choice.Channels = true
wants_value choice.Incoming = true
wants_value choice.Outgoing = true
wants_value choice.Message = true
wants_value choice.Size = true
wants_value choice.PacketWindow = true
wants_value x = is_time x

-- the least that a number may be: of channels that are one-way none; a time of 0 is for ever
abbrev pub least_of : Choice → ℕ
least_of choice.Window = 1
least_of choice.Tries = 1
least_of choice.Channels = 1
least_of choice.Message = 1
least_of choice.Size = 16
least_of choice.PacketWindow = 1
least_of x = 0

-- the most that it may be at a command; of a time, in milliseconds, a day
abbrev pub most_of : Command → Choice → ℕ
most_of command choice.Window = 7
most_of command choice.Tries = 255
most_of Sim choice.Channels = 16
most_of command choice.Channels = 4095
most_of command choice.Incoming = 4095
most_of command choice.Outgoing = 4095
most_of command choice.Message = 65535
most_of command choice.Size = 4096
most_of command choice.PacketWindow = 7
most_of command x = 86400000

-- what it is where no word says it
abbrev pub usual_of : Choice → ℕ
usual_of choice.Window = 7
usual_of choice.Tries = 10
usual_of choice.Channels = 1
usual_of choice.Message = 65535
usual_of choice.Size = 128
usual_of choice.PacketWindow = 2
usual_of x = 0

abbrev pub commands : List Command
commands = Decode ∷ Vectors ∷ Sim ∷ Station ∷ Judge ∷ Deframe ∷ Frame ∷ Tabs ∷ []

abbrev pub choices : List Choice
choices = choice.Clock ∷ choice.Down ∷ choice.Events ∷ choice.Long ∷ choice.Loose ∷ choice.Manners
    ∷ choice.Reasons ∷ choice.SaySizes ∷ choice.Strict ∷ choice.Tap ∷ choice.Wide ∷ choice.At ∷ choice.Window
    ∷ choice.Tries ∷ choice.Channels ∷ choice.Incoming ∷ choice.Outgoing ∷ choice.Message ∷ choice.Size
    ∷ choice.PacketWindow ∷ choice.T1 ∷ choice.T3 ∷ choice.T20 ∷ choice.T21 ∷ choice.T22 ∷ choice.T23
    ∷ choice.T25 ∷ choice.T26 ∷ []

-- what has a word
abbrev pub command_in : List ℕ → Option Command
command_in word = find (λ x. bytes_eq word (command_word x)) commands

abbrev pub choice_in : List ℕ → Option Choice
choice_in word = find (λ x. bytes_eq word (word_of x)) choices

abbrev pub end_in : List ℕ → Option End
end_in word = find (λ x. bytes_eq word (end_word x)) (Dte ∷ Dce ∷ [])

abbrev pub at_in : List ℕ → Option At
at_in word = find (λ x. bytes_eq word (at_word x)) (at.Line ∷ at.Dte ∷ at.Dce ∷ at.Either ∷ [])

-- the number that a text writes, without leading zeros and in its range
unfoldable pub number_in : ℕ → ℕ → List ℕ → Option ℕ
number_in least most text = let n = digits_value 10 text in
    if nat_le least n && nat_le n most && bytes_eq (decimal n) text then Some n else None

-- The words behind a command, as items: options, each as `--k 3` or `--k=3`, and words that are none (profile).
use Rattle.std.specs.Prelude.{ℕ, Bool, true, false, ◌&&◌, ◌||◌, not, nat_lt, eqb, List, [], ◌∷◌, length, Option, Some}
use Rattle.std.specs.Prelude.{None}
use Rattle.std.specs.Prelude.{is_some, if◌then◌else◌, codes}
use Rattle.std.specs.List.{before_first, after_first, position_or_len}
use Rattle.std.specs.Str.{bytes_eq}
use Rattle.x25_settings.specs.declared.items.Item.{Item}
use Rattle.x25_settings.specs.declared.items.Item.TheVariants.{Flag, Number, Located, Dashes, Operand, Wrong}
use Rattle.x25_settings.specs.declared.items.Named.{Named}
use Rattle.x25_settings.specs.declared.items.Named.TheVariants as named
use Rattle.x25_settings.specs.declared.options.At.{At}
use Rattle.x25_settings.specs.declared.options.Choice.{Choice}
use Rattle.x25_settings.specs.declared.options.Choice.TheVariants as choice
use Rattle.x25_settings.specs.declared.options.Command.{Command}
use Rattle.x25_settings.specs.declared.options.End.{End}
use Rattle.x25_settings.specs.declared.words.Why.{Why}
use Rattle.x25_settings.specs.declared.words.Why.TheVariants as why
use Rattle.x25_settings.specs.Options.{at_in, choice_in, end_in, has, is_time, least_of, most_of, number_in}
use Rattle.x25_settings.specs.Options.{wants_value}
use Rattle.x25_settings.specs.Options.{word_of}

abbrev is_equals : ℕ → Bool
is_equals x = eqb x 61

-- a word up to its first `=`, and what stands after that
abbrev pub name_in : List ℕ → List ℕ
name_in word = before_first is_equals word

abbrev pub value_in : List ℕ → Option (List ℕ)
value_in word = if nat_lt (position_or_len is_equals word) (length word) then Some (after_first is_equals word)
    else None

-- a word that begins with a dash and is more than that
abbrev pub is_dashed : List ℕ → Bool
is_dashed (x ∷ y ∷ rest) = eqb x 45
is_dashed word = false

abbrev pub asks_help : List ℕ → Bool
asks_help word = bytes_eq word (codes "--help") || bytes_eq word (codes "-h")

abbrev pub asks_version : List ℕ → Bool
asks_version word = bytes_eq word (codes "--version") || bytes_eq word (codes "-V")

-- an option without a value
abbrev pub plain : Choice → Option (List ℕ) → Item
plain x None = Flag x
plain x (Some text) = Wrong why.WantsNone

abbrev pub numbered : Command → Choice → Option ℕ → Item
numbered command x None = Wrong (why.Number (least_of x) (most_of command x))
numbered command x (Some n) = Number x n

abbrev pub located : Option At → Item
located None = Wrong why.Place
located (Some at) = Located at

abbrev pub read_value : Command → Choice → List ℕ → Item
read_value command choice.At text = located (at_in text)
read_value command x text = numbered command x (number_in (least_of x) (most_of command x) text)

-- one with its value
abbrev pub valued : Command → Choice → Option (List ℕ) → Item
valued command x None = Wrong why.WantsValue
valued command x (Some text) = read_value command x text

-- the value in an option's own word, or else in the next one
abbrev pub or_next : Option (List ℕ) → Option (List ℕ) → Option (List ℕ)
or_next None next = next
or_next (Some text) next = Some text

abbrev pub chosen : Command → Option (List ℕ) → Option (List ℕ) → Option Choice → Item
chosen command own next None = Wrong why.UnknownOption
chosen command own next (Some x) = if has command x
    then (if wants_value x then valued command x (or_next own next) else plain x own) else Wrong why.NotHere

-- a word that begins with a dash
abbrev pub dashed : Command → List ℕ → Option (List ℕ) → Item
dashed command word next = if bytes_eq word (codes "--") then Dashes
    else if asks_help word then Wrong why.Help
    else if asks_version word then Wrong why.Version
    else chosen command (value_in word) next (choice_in (name_in word))

-- a word that is no option: an end, standard input or a file
abbrev pub named_by : List ℕ → Option End → Named
named_by word (Some end) = named.End end
named_by word None = if bytes_eq word (codes "-") then named.Input else named.File

abbrev pub operand : List ℕ → Item
operand word = Operand (named_by word (end_in word))

-- The item that a word begins, with the word behind it; behind `--` no word is an option.
abbrev pub item_at : Command → Bool → List ℕ → Option (List ℕ) → Item
item_at command ended word next = if not ended && is_dashed word then dashed command word next else operand word

abbrev pub is_valued : Option Choice → Bool
is_valued None = false
is_valued (Some x) = wants_value x

-- the next word is the value
abbrev pub takes_next : Bool → List ℕ → Bool
takes_next ended word = not ended && is_valued (choice_in (name_in word)) && not (is_some (value_in word))

abbrev pub ends : Bool → List ℕ → Bool
ends ended word = ended || bytes_eq word (codes "--")

-- The items, each with how many words are left where it begins.
unfoldable pub items : Command → Bool → List (List ℕ) → List (ℕ × Item)
items command ended [] = []
items command ended (word ∷ []) = (1, item_at command ended word None) ∷ []
items command ended (word ∷ next ∷ rest) = (length (word ∷ next ∷ rest), item_at command ended word (Some next))
    ∷ (if takes_next ended word then items command (ends ended word) rest
    else items command (ends ended word) (next ∷ rest))

-- the option of an item
abbrev pub choice_of : Item → Option Choice
choice_of (Flag x) = Some x
choice_of (Number x n) = Some x
choice_of (Located at) = Some choice.At
choice_of item = None

abbrev is_same : Choice → Option Choice → Bool
is_same x None = false
is_same x (Some y) = bytes_eq (word_of x) (word_of y)

abbrev pub is_of : Choice → Item → Bool
is_of x item = is_same x (choice_of item)

-- the first item of an option
abbrev pub item_of : Choice → List (ℕ × Item) → Option Item
item_of x [] = None
item_of x (placed ∷ rest) = if is_of x placed.1 then Some placed.1 else item_of x rest

abbrev pub is_chosen : Choice → List (ℕ × Item) → Bool
is_chosen x list = is_some (item_of x list)

-- a word that is no option
abbrev pub named_of : Item → Option Named
named_of (Operand x) = Some x
named_of item = None

abbrev pick : Bool → ℕ → Option Named → Option (ℕ × Named) → Option (ℕ × Named) → Option (ℕ × Named)
pick skip left None behind later = later
pick skip left (Some x) behind later = if skip then behind else Some (left, x)

-- the first of these, or the one behind it, with how many words are left there
abbrev pub operand_of : Bool → List (ℕ × Item) → Option (ℕ × Named)
operand_of skip [] = None
operand_of skip (placed ∷ rest) =
    pick skip placed.0 (named_of placed.1) (operand_of false rest) (operand_of skip rest)

-- What is wrong with an option: it is there again, or it is a time and there is no clock.
abbrev pub option_fault : Bool → Bool → Option Choice → Option Why
option_fault clock again None = None
option_fault clock again (Some x) = if again then Some why.Twice
    else if is_time x && not clock then Some why.NoClock else None

-- with another word, where an end or a file may still come
abbrev pub operand_fault : Bool → Bool → Named → Option Why
operand_fault true file (named.End end) = None
operand_fault true file x = Some why.End
operand_fault false true x = None
operand_fault false false x = Some why.TooMany

abbrev pub item_fault : Bool → Bool → Bool → Bool → Item → Option Why
item_fault clock again end file (Wrong reason) = Some reason
item_fault clock again end file (Operand x) = operand_fault end file x
item_fault clock again end file item = option_fault clock again (choice_of item)

abbrev comes_again : Option Choice → List (ℕ × Item) → Bool
comes_again None list = false
comes_again (Some x) list = is_chosen x list

abbrev pub is_again : Item → List (ℕ × Item) → Bool
is_again item list = comes_again (choice_of item) list

abbrev pub is_operand : Item → Bool
is_operand item = is_some (named_of item)

abbrev first_of : ℕ → Option Why → Option (ℕ × Why) → Option (ℕ × Why)
first_of left (Some reason) later = Some (left, reason)
first_of left None later = later

-- the first fault, and how many words are left there
abbrev pub fault_in : Bool → Bool → Bool → List (ℕ × Item) → Option (ℕ × Why)
fault_in clock end file [] = None
fault_in clock end file (placed ∷ rest) =
    first_of placed.0 (item_fault clock (is_again placed.1 rest) end file placed.1)
    (fault_in clock (end && not (is_operand placed.1)) (file && (end || not (is_operand placed.1))) rest)

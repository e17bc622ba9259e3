-- What a program without a clock does with the lines that a play is of.
use Rattle.std.proofs.Common.{◌≡◌, ◌∙◌, ◌+◌, ◌≤◌, ℕ, nat_eq, Bool, true, false, List, [], ◌∷◌, ◌++◌, length, map, Option, Some, None}
use Rattle.std.proofs.Common.{ap, ap₂, refl, sym, subst, arith, append-nil, if◌then◌else◌, rules}
use Rattle.std.proofs.lemmas.{Bool.{le-leb}, Fmt.{digits_decimal, length-decimal-le}, Grind.{flat_map-append}, Str.Parse.{IsNumeralModel, numerals_by_value}}
use Rattle.std.specs.{Char.{is_ascii_digit}, Fmt.{digits}, List.{list_all}, Prelude.{codes, decimal, ◌&&◌, ◌≢◌}, Str.Parse.{digits_value}}
use Rattle.x25_bits.specs.{declared.role.Role.{Role}, declared.role.Role.TheVariants.{Dte, Dce}}
use Rattle.x25_clock.specs.{Due.{event_for}, declared.due.Due.{Due}}
use Rattle.x25_clock.specs.declared.due.Due.TheVariants as due
use Rattle.x25_io.specs.{HeldLine.{most_line}, Lines.{IsOpen}}
use Rattle.x25_joined.proofs.LineText.{AreWhole, more_whole, one_more, said_more}
use Rattle.x25_joined.proofs.PeerEntries.{ups_append, commands_ups, fires_ups}
use Rattle.x25_joined.proofs.Turns.{entries-append, entries_entered, entries_sent, frames-append, TurnIs}
use Rattle.x25_joined.specs.laws.Joined.{entries_in, frames_in, station_of, written, written_more}
use Rattle.x25_layer.specs.Calls.{PullsAll}
use Rattle.std.specs.Prelude.{option_and_then}
use Rattle.x25_decode.specs.Decoding.{sent_in}
use Rattle.x25_frame.specs.Spelling.{spelling_of}
use Rattle.x25_joined.specs.laws.Joined.{IsNoFrame}
use Rattle.x25_pipe.specs.Pipe.{Saying, asked_act, asked_turn, enters, entries_told, outcome_told, pulled_behind, read_event, script_event, sends}
use Rattle.x25_pipe.specs.Pipe.{with_pulls, and_pulls}
unfoldable use Rattle.x25_pipe.specs.Pipe.{event_act, event_in, event_turn, turn}
use Rattle.x25_pipe.specs.Timed.{Timed, channel_for}
use Rattle.x25_script.specs.Reading.{nothing_given}
use Rattle.x25_script.specs.Reading.Spelling.{Spells, given_text}
unfoldable use Rattle.x25_script.specs.Reading.{line_in}
use Rattle.x25_script.specs.ScriptLine.{PlainLine, clear, command, probe, relink, reset, restart, t1, taken}
use Rattle.x25_script.specs.laws.ReadingLaw.{ReadsWhatIsSpelled}
use Rattle.x25_station.specs.{Command.{Requests}, Config.{Settings}, Entry.{StationEntry}, Station.{Station}}
use Rattle.x25_station.specs.{Step.{Did, Outcome, Refused, Step, commands, fires}}
use Rattle.x25_station.specs.laws.TimerLaw.{StationEvent, Asks, Comes, Fires, outcome}
use Rattle.x25_joined.specs.laws.Played.{Answers, Insists, IsSaid, Marks, Passes, Play, TimedSaying, asked_by, due_words, plain_of, plainly, says, timed_entries}
use Rattle.x25_joined.specs.laws.Played.{timed_frames, told_by}
use Rattle.x25_world.specs.laws.Claims.{ups_in}

-- ---- a turn and an act

acted : (c : Settings) (s : Station) (event : StationEvent)
    → TurnIs (event_turn c s event) (event_act c s event).next (entries_in (event_act c s event).sayings) (frames_in (event_act c s event).sayings)
unfolding event_turn event_act
acted c s event =
    let sayings : List Saying = outcome_told c (with_pulls c (outcome c s event)) in
    record {
      next = refl;
      entries = entries-append sayings _ ∙ append-nil (entries_in sayings);
      frames = frames-append sayings _ ∙ append-nil (frames_in sayings);
    }

asked : (c : Settings) (s : Station) (o : Option StationEvent)
    → TurnIs (asked_turn c s o) (asked_act c s o).next (entries_in (asked_act c s o).sayings) (frames_in (asked_act c s o).sayings)
asked c s None = record { next = refl; entries = refl; frames = refl }
asked c s (Some event) = acted c s event

turned : (c : Settings) (s : Station) (line : List ℕ) (o : Option StationEvent) → event_in c.wide c.role line ≡ o
    → TurnIs (turn c line s) (asked_act c s o).next (entries_in (asked_act c s o).sayings) (frames_in (asked_act c s o).sayings)
unfolding turn
turned c s line o is = subst (λ (e : Option StationEvent). TurnIs (asked_turn c s e) (asked_act c s o).next (entries_in (asked_act c s o).sayings)
    (frames_in (asked_act c s o).sayings)) (sym is) (asked c s o)

-- ---- of what is told, that is what is said as without a clock

plainly_says : (ss : List Saying) → plainly (map says ss) ≡ ss
plainly_says [] = refl
plainly_says (s ∷ ss) = ap (λ (xs : List Saying). s ∷ xs) (plainly_says ss)

pub told_entries : (c : Settings) (w : Timed) (play : Play) → timed_entries (told_by c w play) ≡ entries_in (asked_act c w.station (asked_by c play)).sayings
told_entries c w (Answers line) = ap entries_in (plainly_says (asked_act c w.station (asked_by c (Answers line))).sayings)
told_entries c w Passes = refl
told_entries c w (Insists due asked) = ap entries_in (plainly_says (asked_act c w.station (asked_by c (Insists due asked))).sayings)
told_entries c w Marks = refl

pub told_frames : (c : Settings) (w : Timed) (play : Play) → timed_frames (told_by c w play) ≡ frames_in (asked_act c w.station (asked_by c play)).sayings
told_frames c w (Answers line) = ap frames_in (plainly_says (asked_act c w.station (asked_by c (Answers line))).sayings)
told_frames c w Passes = refl
told_frames c w (Insists due asked) = ap frames_in (plainly_says (asked_act c w.station (asked_by c (Insists due asked))).sayings)
told_frames c w Marks = refl

pub timed_entries-append : (xs ys : List TimedSaying) → timed_entries (xs ++ ys) ≡ timed_entries xs ++ timed_entries ys
timed_entries-append xs ys = ap entries_in (flat_map-append plain_of xs ys) ∙ entries-append (plainly xs) (plainly ys)

pub timed_frames-append : (xs ys : List TimedSaying) → timed_frames (xs ++ ys) ≡ timed_frames xs ++ timed_frames ys
timed_frames-append xs ys = ap frames_in (flat_map-append plain_of xs ys) ∙ frames-append (plainly xs) (plainly ys)

-- ---- a line of the user for what is due

digits_open : (ds : List ℕ) → list_all is_ascii_digit ds ≡ true → IsOpen ds
digits_open [] all = tt
digits_open (d ∷ ds) all = by (is_ascii_digit d) refl all (digits_open ds)
  where
    by : (b : Bool) → is_ascii_digit d ≡ b → (b && list_all is_ascii_digit ds) ≡ true → (list_all is_ascii_digit ds ≡ true → IsOpen ds) → IsOpen (d ∷ ds)
    by true is rest opened = (λ (e : d ≡ 10). absurd (none is e), opened rest)
      where
        none : is_ascii_digit d ≡ true → d ≡ 10 → ⊥
        none digit e = (let no : is_ascii_digit 10 ≡ true = subst (λ (n : ℕ). is_ascii_digit n ≡ true) e digit in cc)
    by false is rest opened = absurd (cc)

numerals : IsNumeralModel (λ digits. list_all is_ascii_digit digits ≡ true) (digits_value 10)
numerals = numerals_by_value _ (search rules)

decimal_open : (h : ℕ) → h ≤ 4095 → IsOpen (decimal h)
decimal_open h low = digits_open (decimal h) (digits_decimal numerals h (omega (arith, low)))

open_append : (xs ys : List ℕ) → IsOpen xs → IsOpen ys → IsOpen (xs ++ ys)
open_append [] ys a b = b
open_append (x ∷ xs) ys a b = (a.0, open_append xs ys a.1 b)

not_lf : (n m : ℕ) → nat_eq n 10 ≡ false → n ≢ 10
not_lf n m is e = (let no : nat_eq 10 10 ≡ false = subst (λ (k : ℕ). nat_eq k 10 ≡ false) e is in cc)

abbrev are_open : List ℕ → Bool
are_open line = list_all (λ (o : ℕ). if nat_eq o 10 then false else true) line

opens : (line : List ℕ) → are_open line ≡ true → IsOpen line
opens [] all = tt
opens (o ∷ line) all = by (nat_eq o 10) refl all (opens line)
  where
    by : (b : Bool) → nat_eq o 10 ≡ b → ((if b then false else true) && are_open line) ≡ true → (are_open line ≡ true → IsOpen line) → IsOpen (o ∷ line)
    by true is rest opened = absurd (cc)
    by false is rest opened = (not_lf o 0 is, opened rest)

pub words_open : (end : Role) (due : Due) → channel_for due ≤ 4095 → IsOpen (due_words end due)
words_open Dte due.T1 low = opens (due_words Dte due.T1) refl
words_open Dce due.T1 low = opens (due_words Dce due.T1) refl
words_open Dte due.Probe low = opens (due_words Dte due.Probe) refl
words_open Dce due.Probe low = opens (due_words Dce due.Probe) refl
words_open Dte due.Relink low = opens (due_words Dte due.Relink) refl
words_open Dce due.Relink low = opens (due_words Dce due.Relink) refl
words_open Dte (due.Restart h) low = opens (due_words Dte (due.Restart h)) refl
words_open Dce (due.Restart h) low = opens (due_words Dce (due.Restart h)) refl
words_open Dte (due.Reset h) low = open_append (codes "dte reset ") (decimal h ++ []) (opens (codes "dte reset ") refl)
    (open_append (decimal h) [] (decimal_open h low) tt)
words_open Dce (due.Reset h) low = open_append (codes "dce reset ") (decimal h ++ []) (opens (codes "dce reset ") refl)
    (open_append (decimal h) [] (decimal_open h low) tt)
words_open Dte (due.ResetUnacknowledged h) low = open_append (codes "dte reset ") (decimal h ++ codes " diag=146") (opens (codes "dte reset ") refl)
    (open_append (decimal h) (codes " diag=146") (decimal_open h low) (opens (codes " diag=146") refl))
words_open Dce (due.ResetUnacknowledged h) low = open_append (codes "dce reset ") (decimal h ++ codes " diag=146") (opens (codes "dce reset ") refl)
    (open_append (decimal h) (codes " diag=146") (decimal_open h low) (opens (codes " diag=146") refl))
words_open Dte (due.Clear h) low = open_append (codes "dte clear ") (decimal h ++ []) (opens (codes "dte clear ") refl)
    (open_append (decimal h) [] (decimal_open h low) tt)
words_open Dce (due.Clear h) low = open_append (codes "dce clear ") (decimal h ++ []) (opens (codes "dce clear ") refl)
    (open_append (decimal h) [] (decimal_open h low) tt)

abbrev line_for : Role → Due → PlainLine
line_for end due.T1 = t1 end
line_for end due.Probe = command end probe
line_for end due.Relink = command end relink
line_for end (due.Reset h) = command end (reset h nothing_given)
line_for end (due.ResetUnacknowledged h) = command end (reset h (record { cause = None; diagnostic = Some 146 }))
line_for end (due.Clear h) = command end (clear h nothing_given)
line_for end (due.Restart h) = command end (restart nothing_given)

unacknowledged_text : codes " diag=146" ≡ given_text (record { cause = None; diagnostic = Some 146 })
unfolding digits
unacknowledged_text = refl

spelled : (end : Role) (due : Due) → channel_for due ≤ 4095 → Spells (line_for end due) (due_words end due)
spelled end due.T1 low = refl
spelled end due.Probe low = (codes "probe", refl, refl)
spelled end due.Relink low = (codes "relink", refl, refl)
spelled end (due.Reset h) low = (codes "reset " ++ (decimal h ++ []), refl, (omega (arith, low), (tt, tt), refl))
spelled end (due.ResetUnacknowledged h) low =
    let text : List ℕ = codes "reset " ++ (decimal h ++ codes " diag=146") in
    (text, refl, (omega (arith, low), (tt, omega arith), ap (λ (given : List ℕ). codes "reset " ++ (decimal h ++ given)) unacknowledged_text))
spelled end (due.Clear h) low = (codes "clear " ++ (decimal h ++ []), refl, (omega (arith, low), (tt, tt), refl))
spelled end (due.Restart h) low = (codes "restart" ++ [], refl, ((tt, tt), refl))

length_append : (xs ys : List ℕ) → length (xs ++ ys) ≡ length xs + length ys
length_append [] ys = omega arith
length_append (x ∷ xs) ys = let h = length_append xs ys in omega (arith, h)

words_short : (end : Role) (due : Due) → channel_for due ≤ 4095 → length (due_words end due) ≤ most_line
words_short Dte due.T1 low = omega arith
words_short Dce due.T1 low = omega arith
words_short Dte due.Probe low = omega arith
words_short Dce due.Probe low = omega arith
words_short Dte due.Relink low = omega arith
words_short Dce due.Relink low = omega arith
words_short Dte (due.Restart h) low = omega arith
words_short Dce (due.Restart h) low = omega arith
words_short Dte (due.Reset h) low =
    let few = length-decimal-le 5 h (omega arith) (omega (arith, low)) (omega (arith, low)) in
    let own_length = length_append (decimal h) [] in
    omega (arith, few, own_length)
words_short Dce (due.Reset h) low =
    let few = length-decimal-le 5 h (omega arith) (omega (arith, low)) (omega (arith, low)) in
    let own_length = length_append (decimal h) [] in
    omega (arith, few, own_length)
words_short Dte (due.ResetUnacknowledged h) low =
    let few = length-decimal-le 5 h (omega arith) (omega (arith, low)) (omega (arith, low)) in
    let own_length = length_append (decimal h) (codes " diag=146") in
    omega (arith, few, own_length)
words_short Dce (due.ResetUnacknowledged h) low =
    let few = length-decimal-le 5 h (omega arith) (omega (arith, low)) (omega (arith, low)) in
    let own_length = length_append (decimal h) (codes " diag=146") in
    omega (arith, few, own_length)
words_short Dte (due.Clear h) low =
    let few = length-decimal-le 5 h (omega arith) (omega (arith, low)) (omega (arith, low)) in
    let own_length = length_append (decimal h) [] in
    omega (arith, few, own_length)
words_short Dce (due.Clear h) low =
    let few = length-decimal-le 5 h (omega arith) (omega (arith, low)) (omega (arith, low)) in
    let own_length = length_append (decimal h) [] in
    omega (arith, few, own_length)

-- with `--wide`
unacknowledged_so : (wide : Bool) (end : Role) (h : ℕ) → wide ≡ true
    → line_in (due_words end (due.ResetUnacknowledged h)) ≡ Some (line_for end (due.ResetUnacknowledged h))
    → read_event wide end (due_words end (due.ResetUnacknowledged h)) (sent_in (due_words end (due.ResetUnacknowledged h)))
    ≡ Some (event_for (due.ResetUnacknowledged h))
unacknowledged_so true Dte h said is = ap (λ (r : Option PlainLine). option_and_then (script_event Dte) (taken true r)) is
unacknowledged_so true Dce h said is = ap (λ (r : Option PlainLine). option_and_then (script_event Dce) (taken true r)) is
unacknowledged_so false end h said is = let bad : false ≡ true = said in absurd (cc bad)

read_so : (wide : Bool) (end : Role) (due : Due) → IsSaid wide due → line_in (due_words end due) ≡ Some (line_for end due)
    → read_event wide end (due_words end due) (sent_in (due_words end due)) ≡ Some (event_for due)
read_so wide Dte due.T1 said is = ap (λ (r : Option PlainLine). option_and_then (script_event Dte) (taken wide r)) is
read_so wide Dce due.T1 said is = ap (λ (r : Option PlainLine). option_and_then (script_event Dce) (taken wide r)) is
read_so wide Dte due.Probe said is = ap (λ (r : Option PlainLine). option_and_then (script_event Dte) (taken wide r)) is
read_so wide Dce due.Probe said is = ap (λ (r : Option PlainLine). option_and_then (script_event Dce) (taken wide r)) is
read_so wide Dte due.Relink said is = ap (λ (r : Option PlainLine). option_and_then (script_event Dte) (taken wide r)) is
read_so wide Dce due.Relink said is = ap (λ (r : Option PlainLine). option_and_then (script_event Dce) (taken wide r)) is
read_so wide Dte (due.Reset h) said is = ap (λ (r : Option PlainLine). option_and_then (script_event Dte) (taken wide r)) is
read_so wide Dce (due.Reset h) said is = ap (λ (r : Option PlainLine). option_and_then (script_event Dce) (taken wide r)) is
read_so wide Dte (due.ResetUnacknowledged h) said is = unacknowledged_so wide Dte h said is
read_so wide Dce (due.ResetUnacknowledged h) said is = unacknowledged_so wide Dce h said is
read_so wide Dte (due.Clear h) said is = ap (λ (r : Option PlainLine). option_and_then (script_event Dte) (taken wide r)) is
read_so wide Dce (due.Clear h) said is = ap (λ (r : Option PlainLine). option_and_then (script_event Dce) (taken wide r)) is
read_so wide Dte (due.Restart h) said is = ap (λ (r : Option PlainLine). option_and_then (script_event Dte) (taken wide r)) is
read_so wide Dce (due.Restart h) said is = ap (λ (r : Option PlainLine). option_and_then (script_event Dce) (taken wide r)) is

pub words_ask : ReadsWhatIsSpelled → (wide : Bool) (end : Role) (due : Due) → channel_for due ≤ 4095 → IsSaid wide due
    → event_in wide end (due_words end due) ≡ Some (event_for due)
unfolding event_in
words_ask reads wide end due low said =
    let line : List ℕ = due_words end due in
    ap (λ (b : Bool). let e : Option StationEvent = if b then read_event wide end line (sent_in line) else None in e)
    (le-leb (length line) most_line (words_short end due low))
    ∙ read_so wide end due said ((reads (line_for end due) line).1 (spelled end due low))

-- ---- a user's event tells of no LinkUp

told_step : (c : Settings) (step : Step) → entries_in (outcome_told c (Did step)) ≡ step.entries
told_step c step =
    let fs : List (List ℕ) = map (spelling_of c.role) step.out in
    entries-append (map enters step.entries) (map sends fs)
    ∙ ap₂ (λ (a b : List StationEntry). a ++ b) (entries_entered step.entries) (entries_sent fs) ∙ append-nil step.entries

pub told_of : (c : Settings) (o : Outcome) → entries_in (outcome_told c o) ≡ entries_told o
told_of c (Did step) = told_step c step
told_of c (Refused e) = refl

pulled_ups : (c : Settings) (step : Step) (o : Outcome) → commands c step.near (Requests PullsAll) ≡ o → ups_in step.entries ≡ 0
    → ups_in (pulled_behind step o).entries ≡ 0
pulled_ups c step (Refused e) is none = none
pulled_ups c step (Did more) is none =
    let sum = ups_append step.entries more.entries in
    let quiet = commands_ups c step.near (Requests PullsAll) more is in
    omega (arith, sum, quiet, none)

outcome_ups : (c : Settings) (o : Outcome) → ((step : Step) → o ≡ Did step → ups_in step.entries ≡ 0)
    → ups_in (entries_in (outcome_told c (with_pulls c o))) ≡ 0
outcome_ups c (Refused e) none = refl
outcome_ups c (Did step) none =
    ap ups_in (told_step c (and_pulls c step)) ∙ pulled_ups c step (commands c step.near (Requests PullsAll)) refl (none step refl)

pub quiet_ups : (c : Settings) (s : Station) (o : Option StationEvent) → IsNoFrame o → ups_in (entries_in (asked_act c s o).sayings) ≡ 0
unfolding event_act
quiet_ups c s None fine = refl
quiet_ups c s (Some (Comes octets)) fine = absurd fine
quiet_ups c s (Some (Asks what)) fine = outcome_ups c (commands c s what) (λ step is. commands_ups c s what step is)
quiet_ups c s (Some Fires) fine = outcome_ups c (fires c s) (λ step is. fires_ups c s step is)

-- ---- a line more

pub record ReadsOne (c : Settings) (text line : List ℕ) (o : Option StationEvent) : Type 0 where
  pub whole : AreWhole (text ++ (line ++ 10 ∷ []))
  pub station : station_of c (text ++ (line ++ 10 ∷ [])) ≡ (asked_act c (station_of c text) o).next
  pub entries : entries_in (written c (text ++ (line ++ 10 ∷ []))) ≡ entries_in (written c text)
      ++ entries_in (asked_act c (station_of c text) o).sayings
  pub frames : frames_in (written_more c text (line ++ 10 ∷ [])) ≡ frames_in (asked_act c (station_of c text) o).sayings
  pub all_frames : frames_in (written c (text ++ (line ++ 10 ∷ []))) ≡ frames_in (written c text)
      ++ frames_in (asked_act c (station_of c text) o).sayings

pub reads_one : (c : Settings) (text line : List ℕ) (o : Option StationEvent) → AreWhole text → IsOpen line → event_in c.wide c.role line ≡ o
    → ReadsOne c text line o
reads_one c text line o whole none is =
    let t = turned c (station_of c text) line o is in
    let more : List Saying = (turn c line (station_of c text)).sayings in
    record {
      whole = more_whole text line whole none;
      station = ap (λ t. t.next) (one_more c text line whole none) ∙ t.next;
      entries = ap (λ t. entries_in t.sayings) (one_more c text line whole none) ∙ entries-append (written c text) more
          ∙ ap (λ (es : List StationEntry). entries_in (written c text) ++ es) t.entries;
      frames = ap frames_in (said_more c text line whole none) ∙ t.frames;
      all_frames = ap (λ t. frames_in t.sayings) (one_more c text line whole none) ∙ frames-append (written c text) more
          ∙ ap (λ (fs : List (List ℕ)). frames_in (written c text) ++ fs) t.frames;
    }

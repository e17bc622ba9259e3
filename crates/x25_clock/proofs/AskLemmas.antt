-- What is asked of a station for what is due.
use Rattle.x25_clock.proofs.Names.{◌≡◌, Bool, true, false, if◌then◌else◌, refl, sym, ap, ◌∙◌, Settings, Station, Outcome, Did, Refused, Due, true≢false}
use Rattle.std.{proofs.Common.{◌&&◌, Ok, Err, Result}, specs.Prelude.{Option, Some, None}}
use Rattle.x25_clock.specs.{Due.{command_for, event_for, is_full, is_packet, lacks_room}, Due.Asking.{DoesDue}}
use Rattle.x25_station.specs.{Command.{Command, may_lack}, code.Clock.{TellsTimer}, code.FitsStation.{Does, FitsStation, FitsStill, Refuses, RefusesOnly}}
use Rattle.x25_station.specs.{declared.error.StationError.{StationError}, laws.TimerLaw.{StationEvent, is_firing, outcome}}
use Rattle.x25_clock.specs.declared.due.Due.TheVariants as due
use Rattle.x25_station.specs.declared.error.StationError.TheVariants as error
use Rattle.x25_station.specs.declared.station.Station as code
use Rattle.x25_station.specs.declared.step.Step as code_step

-- none asks for memory
pub never_lacks : (d : Due) (command : Command) → Some command ≡ command_for d → may_lack command ≡ false
never_lacks d command is = ap or_none is ∙ by d
  where
    or_none : Option Command → Bool
    or_none None = false
    or_none (Some c) = may_lack c

    by : (d : Due) → or_none (command_for d) ≡ false
    by due.T1 = refl
    by due.Probe = refl
    by (due.Reset h) = refl
    by (due.ResetUnacknowledged h) = refl
    by (due.Clear h) = refl
    by (due.Restart h) = refl
    by due.Relink = refl

abbrev error_of : Result (Unit {0}) StationError → StationError
error_of (Ok u) = error.NoMemory
error_of (Err e) = e

and_false : (b : Bool) → (b && false) ≡ false
and_false true = refl
and_false false = refl

-- what is accepted is asked itself
pub accepted_itself : (d : Due) (o : Outcome) → Refuses {T = Unit {0}} (Ok tt) o → d ≡ (if is_packet d && lacks_room o then due.Relink else d)
accepted_itself d (Did step) good = sym (ap (λ (b : Bool). if b then due.Relink else d) (and_false (is_packet d)))
accepted_itself d (Refused e) good = absurd good

full_alike : (e : StationError) (o : Outcome) → RefusesOnly {T = Unit {0}} (Err e) o → lacks_room o ≡ is_full e
full_alike e (Did step) only = absurd (true≢false (sym only))
full_alike e (Refused f) only = sym (ap is_full (ap error_of only))

-- and so is what is refused, where no packet lacks room
pub refused_itself : (d : Due) (e : StationError) (o : Outcome) → (is_packet d && is_full e) ≡ false → RefusesOnly {T = Unit {0}} (Err e) o
    → d ≡ (if is_packet d && lacks_room o then due.Relink else d)
refused_itself d e o is only = sym (ap (λ (b : Bool). if is_packet d && b then due.Relink else d) (full_alike e o only)
    ∙ ap (λ (b : Bool). if b then due.Relink else d) is)

pub refused_full : (d : Due) (e : StationError) (o : Outcome) → (is_packet d && is_full e) ≡ true → RefusesOnly {T = Unit {0}} (Err e) o
    → due.Relink ≡ (if is_packet d && lacks_room o then due.Relink else d)
refused_full d e o is only = sym (ap (λ (b : Bool). if is_packet d && b then due.Relink else d) (full_alike e o only)
    ∙ ap (λ (b : Bool). if b then due.Relink else d) is)

pub not_full : (a b : Bool) → b ≡ false → (a && b) ≡ false
not_full a b is = ap (λ (x : Bool). a && x) is ∙ and_false a

-- what an event does
pub record DoesEvent (old new : code.Station) (out : code_step.Step) (r : Result (Unit {0}) StationError) (event : StationEvent) : Type 0 where
  pub does : Does old new out r (λ c s. outcome c s event)
  pub timer : TellsTimer old out.timer r (is_firing event) (λ c s. outcome c s event)
  pub only : (c : Settings) (s : Station) → FitsStation c old s → RefusesOnly r (outcome c s event)

pub does_due : {old new : code.Station} {out : code_step.Step} {r : Result (Unit {0}) StationError} (d : Due) → DoesEvent old new out r (event_for d)
    → DoesDue old new out r d
does_due d h = record { does = h.does; timer = h.timer; only = h.only }

-- behind a refusal, which leaves the station as it was
pub done_behind : (old mid new : code.Station) (out : code_step.Step) (r : Result (Unit {0}) StationError) (d : Due) → FitsStill old mid
    → DoesDue mid new out r d → DoesDue old new out r d
done_behind old mid new out r d still h = record {
  does = record {
    state = λ c s fits. h.does.state c s (still c s fits);
    frames = λ c s fits. h.does.frames c s (still c s fits);
    entries = λ c s fits. h.does.entries c s (still c s fits);
    refused = λ c s fits. h.does.refused c s (still c s fits);
    stays = λ c s fits. h.does.stays c s (still c s fits);
    empty = h.does.empty;
    few_frames = h.does.few_frames;
    few_entries = h.does.few_entries;
  };
  timer = λ c s fits. h.timer c s (still c s fits);
  only = λ c s fits. h.only c s (still c s fits);
}

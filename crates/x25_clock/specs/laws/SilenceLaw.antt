-- How long one who obeys his clock hears nothing of the other end (profile): an idle link is polled, and T1 fires,
-- until LinkUp or LinkDown is told. Noise is no frame of the other end, and moves nothing.
use Rattle.std.specs.Prelude.{◌≡◌, ℕ, ◌+◌, ◌*◌, ◌^◌, ◌<◌, ◌≤◌, ◌⊎◌, Bool, true, false, List, [], ◌∷◌, Result, Err}
use Rattle.std.specs.Prelude.{Some}
use Rattle.x25_bits.specs.Role.{other}
use Rattle.x25_frame.specs.Frame.{PlainFrame}
use Rattle.x25_frame.specs.Reading.{frame_of}
use Rattle.x25_frame.specs.declared.error.FrameError.{FrameError}
use Rattle.x25_frame.specs.declared.error.FrameError.TheVariants.{Short, BadFcs, BadAddress}
use Rattle.x25_link.specs.declared.phase.Phase.{Phase}
use Rattle.x25_station.specs.Config.{Settings, link_settings}
use Rattle.x25_station.specs.Station.{Station}
use Rattle.x25_station.specs.Station.Told.{is_at_rest}
use Rattle.x25_station.specs.Step.{Outcome}
use Rattle.x25_station.specs.Timer.{runs}
use Rattle.x25_station.specs.laws.TimerLaw as timer
use Rattle.x25_station.specs.laws.TimerLaw.{Comes}
use Rattle.x25_station.specs.laws.UnheardLaw.{MayAsk, IsUnheard}
use Rattle.x25_clock.specs.declared.times.Times.{Times}
use Rattle.x25_clock.specs.laws.ClockLaw.{Moment, Watched, watched, watched_by, watched_from, hears}
use Rattle.x25_clock.specs.laws.ClockLaw as moment
use Rattle.x25_clock.specs.laws.WaitLaw.{Deed, event_of, outcome_of, done, all_done, AreObeyed, tells}

-- ---- noise

-- Too short for a frame, or the frame check sequence is wrong, or the address isn't one by which the other end sends.
abbrev pub is_unread : Result PlainFrame FrameError → Bool
is_unread (Err Short) = true
is_unread (Err BadFcs) = true
is_unread (Err BadAddress) = true
is_unread read = false

abbrev pub is_noise : Settings → List ℕ → Bool
is_noise c octets = is_unread (frame_of (other c.role) (link_settings c).longest octets)

-- After any moments: noise is no frame that is heard, and leaves the station as it was, where it tells no LinkDown, as
-- it does once a count is full.
abbrev pub NoiseIsUnheard : Type 0
NoiseIsUnheard = (c : Settings) (times : Times) (moments : List Moment) (octets : List ℕ) →
    let s : Station = (watched c times moments).station in
    let o : Outcome = timer.outcome c s (Comes octets) in
    c.window ≤ 7 → is_noise c octets ≡ true → tells o ≡ false
    → (timer.after s o ≡ s) × (hears (Comes octets) o ≡ false)

-- ---- a link of which nothing is heard

-- what comes is noise, or UA is awaited
abbrev pub IsQuiet : Settings → Station → timer.StationEvent → Type 0
IsQuiet c s (Comes octets) = IsUnheard s (Comes octets) ⊎ (is_noise c octets ≡ true)
IsQuiet c s event = Unit {0}

-- The link is up before each of these and after it, or UA is awaited; nothing comes but noise, or while UA is awaited;
-- and none tells LinkUp or LinkDown.
abbrev pub IsSilent : Settings → Times → Phase → List Deed → Watched → Type 0
IsSilent c times phase [] w = w.station.link.phase ≡ phase
IsSilent c times phase (deed ∷ deeds) w = (w.station.link.phase ≡ phase)
    × IsQuiet c w.station (event_of c deed w.station)
    × (tells (outcome_of c deed w) ≡ false) × IsSilent c times phase deeds (done c times deed w)

-- how long that may last: N2 firings and one more, where T1 runs, and else T3 before
abbrev pub longest_silence : Times → ℕ → Bool → ℕ
longest_silence times retries true = times.t1 + retries * times.t1
longest_silence times retries false = times.t3 + (times.t1 + retries * times.t1)

-- After any moments: one who obeys from there on hears nothing no longer than that.
abbrev pub SilenceEnds : Type 0
SilenceEnds = (c : Settings) (times : Times) (phase : Phase) (moments : List Moment) (deeds : List Deed) →
    let w : Watched = watched c times moments in
    let longest : ℕ = longest_silence times c.retries (runs w.station) in
    MayAsk phase → 1 ≤ c.window → c.window ≤ 7 → 0 < times.t1 → 0 < times.t3 → w.now + longest < 2 ^ 64
    → AreObeyed c times deeds w → IsSilent c times phase deeds w → (all_done c times deeds w).now ≤ w.now + longest

-- ---- an idle link is polled

-- the link is at rest before each of these and after it, nothing is heard, and none tells LinkUp or LinkDown
abbrev pub IsIdle : Settings → Times → List Deed → Watched → Type 0
IsIdle c times [] w = is_at_rest w.station ≡ true
IsIdle c times (deed ∷ deeds) w = (is_at_rest w.station ≡ true)
    × (hears (event_of c deed w.station) (outcome_of c deed w) ≡ false)
    × (tells (outcome_of c deed w) ≡ false) × IsIdle c times deeds (done c times deed w)

-- After any moments: one who obeys from there on polls a link at rest, so that T1 runs, after T3 at the latest.
abbrev pub IdleIsAsked : Type 0
IdleIsAsked = (c : Settings) (times : Times) (moments : List Moment) (deeds : List Deed) →
    let w : Watched = watched c times moments in
    0 < times.t3 → w.now + times.t3 < 2 ^ 64 → AreObeyed c times deeds w → IsIdle c times deeds w
    → (all_done c times deeds w).now ≤ w.now + times.t3

-- events at which nothing is heard, after each of which the link is at rest
abbrev pub AreUnheard : Settings → Times → List Moment → Watched → Type 0
AreUnheard c times [] w = is_at_rest w.station ≡ true
AreUnheard c times (moment.Happens later event ∷ moments) w = (is_at_rest w.station ≡ true)
    × (hears event (timer.outcome c w.station event) ≡ false)
    × AreUnheard c times moments (watched_by c times (moment.Happens later event) w)
AreUnheard c times (moment.IsDue later ∷ moments) w = ⊥

-- And it isn't polled before: where the link is at rest after a step at which something is heard, T3 is counted from
-- there, as long as it is at rest and nothing more is heard.
abbrev pub IdleIsSinceHeard : Type 0
IdleIsSinceHeard = (c : Settings) (times : Times) (event : timer.StationEvent) (later : ℕ) (moments : List Moment)
    (before : Watched) →
    let w : Watched = watched_by c times (moment.Happens later event) before in
    w.now + times.t3 < 2 ^ 64 → 0 < times.t3 → hears event (timer.outcome c before.station event) ≡ true
    → AreUnheard c times moments w → (watched_from c times moments w).deadlines.idle ≡ Some (w.now + times.t3)

-- What a call answers, by what its link's call answers.
use Rattle.x25_station.proofs.Names.{ℕ}
use Rattle.x25_station.proofs.Names.{◌≡◌, Bool, true, false, if◌then◌else◌, map, Option, Some, None, Result, Ok, Err, refl, ap, ◌∙◌, LinkStation, ShownLink}
use Rattle.x25_station.proofs.Names.{LinkError, Phase, Down, Up, Closed, Settings, Station, Step, Outcome, Did, Refused, unless, FitsParts, AreMeant}
use Rattle.x25_station.proofs.Names.{LeavesParts, Enters, RefusesOnly, link_refusal, Manner, StationError, LinkCall, Connect, Disconnect, Fire, Probe, Relink}
use Rattle.std.proofs.Math.Logic.{∥∥₁_map}
use Rattle.x25_frame.specs.Spelling.{spelling_of}
use Rattle.x25_station.{proofs.Names.{IsKept, KeptBy}, proofs.ResultLemmas.{ok_err, err_is}, specs.Error.{of_link}, specs.code.FitsStation.{Sends, Refuses}}
use Rattle.x25_link.specs.declared.error.LinkError.TheVariants as link_error
use Rattle.x25_link.specs.Link as link
use Rattle.x25_layer.specs.declared.layer.Layer as layer_code
use Rattle.x25_station.specs.declared.step.Step as code_step
use Rattle.x25_station.specs.declared.error.StationError.TheVariants as error

-- ---- an accepted call, which the link may refuse

pub leaves_unless : {manner : Manner} (c : Settings) (l : ShownLink) (y : layer_code.Layer) (turn : ℕ) (o : Option LinkError) (step : Step) → KeptBy (unless o step)
    → (IsKept step.near → FitsParts c manner l y turn step.near)
    → LeavesParts {T = Unit} c manner l y turn (Ok tt) (unless o step)
leaves_unless c l y turn None step kept fits = fits kept
leaves_unless c l y turn (Some e) step kept fits = tt

pub sends_unless : (c : Settings) (r : code_step.Step) (o : Option LinkError) (step : Step) → r.frames ≡ map (spelling_of c.role) step.out
    → Sends {T = Unit} c r (Ok tt) (unless o step)
sends_unless c r None step frames = frames
sends_unless c r (Some e) step frames = tt

pub enters_unless : (r : code_step.Step) (o : Option LinkError) (step : Step) → r.entries.items ≡ step.entries
    → Enters {T = Unit} r (Ok tt) (unless o step)
enters_unless r None step entries = entries
enters_unless r (Some e) step entries = tt

-- ---- so that the station stands for some state again
pub leaves_some : {manner : Manner} (c : Settings) (l : ShownLink) (y : layer_code.Layer) (turn : ℕ) (o : Outcome)
    → LeavesParts {T = Unit} c manner l y turn (Ok tt) o
    → Refuses {T = Unit} (Ok tt) o → (d : Settings) × (s : Station) × FitsParts d manner l y turn s
leaves_some c l y turn (Did step) fits none = (c, step.near, fits)
leaves_some c l y turn (Refused e) fits none = absurd none

pub still_meant : {manner told : Manner} {turn turn₂ : ℕ} (l m : ShownLink) (y z : layer_code.Layer) → AreMeant manner l y turn
    → ((c : Settings) (s : Station) → FitsParts c manner l y turn s → (d : Settings) × (t : Station) × FitsParts d told m z turn₂ t)
    → AreMeant told m z turn₂
still_meant l m y z h f = ∥∥₁_map h (λ w. f w.0 w.1 w.2)

-- ---- the link's refusal

never_ok : false ≡ true → ⊥
never_ok h = cc

pub goes_only : {T : Type 0} (k : T) (o : Option LinkError) (step : Step) → link.RefusesOnly o (Ok k) → RefusesOnly {T = Unit} (Ok tt) (unless o step)
goes_only k None step h = refl
goes_only k (Some e) step h = absurd (ok_err k e h)

-- the link's own refusals aren't want of memory
abbrev pub IsNamed : Option LinkError → Type 0
IsNamed None = Unit {0}
IsNamed (Some e) = of_link e ≡ error.Link e

pub refused_only : (T U : Type 0) (e : LinkError) (found : StationError) (o : Option LinkError) (step : Step) → IsNamed o → found ≡ of_link e
    → (let x : Result T LinkError = Err e in link.RefusesOnly o x)
    → (let x : Result U StationError = Err found in RefusesOnly x (unless o step))
refused_only T U e found None step named is h = absurd (never_ok h)
refused_only T U e found (Some x) step named is h = ap (λ y. Err y) (is ∙ ap of_link (err_is T LinkError e x h) ∙ named)

pub goes : {T : Type 0} (k : T) (o : Option LinkError) (step : Step) → link.RefusesOnly o (Ok k) → Refuses {T = Unit} (Ok tt) (unless o step)
goes k None step h = tt
goes k (Some e) step h = absurd (ok_err k e h)

pub refused : (T U : Type 0) (e : LinkError) (found : StationError) (o : Option LinkError) (step : Step) → IsNamed o → found ≡ of_link e
    → (let x : Result T LinkError = Err e in link.RefusesOnly o x)
    → (let x : Result U StationError = Err found in Refuses x (unless o step))
refused T U e found None step named is h = absurd (never_ok h)
refused T U e found (Some x) step named is h = is ∙ ap of_link (err_is T LinkError e x h) ∙ named

connect_named : (p : Phase) → IsNamed (link.connect_refusal p)
connect_named Down = tt
connect_named p = refl

timer_named : (s : LinkStation) → IsNamed (link.timer_refusal s)
timer_named s = test (link.timer_runs s.phase s)
  where
    test : (b : Bool) → IsNamed (if b then None else Some link_error.NotRunning)
    test true = tt
    test false = refl

disconnect_named : (p : Phase) → IsNamed (link.disconnect_refusal p)
disconnect_named Closed = refl
disconnect_named p = tt

probe_named : (p : Phase) → IsNamed (link.probe_refusal p)
probe_named Up = tt
probe_named p = refl

relink_named : (p : Phase) → IsNamed (link.relink_refusal p)
relink_named Up = tt
relink_named p = refl

pub call_named : (call : LinkCall) (s : LinkStation) → IsNamed (link_refusal call s)
call_named Connect s = connect_named s.phase
call_named Disconnect s = disconnect_named s.phase
call_named Fire s = timer_named s
call_named Probe s = probe_named s.phase
call_named Relink s = relink_named s.phase

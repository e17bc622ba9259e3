-- An end that acts, in its world: the other end is as it was. And lists of events, one more at a time.
use Rattle.x25_world.proofs.Names.{◌≡◌, ℕ, nat_lt, ◌&&◌, List, [], ◌∷◌, ◌++◌, length, map, drop, Option, Some, None, Result, Ok, Err, OnOk, OnErr, IfErr, ◌⊎◌}
use Rattle.x25_world.proofs.Names.{inl, inr, refl, ap, sym, ◌∙◌, subst, append_assoc, arith, cond_both, Role, Dte, Dce, spelling_of, awaits_ua, is_visible, Cfg}
use Rattle.x25_world.proofs.Names.{StationError, StationEntry, FitsStation, Settings, settings_from, config_refusal, Step, Outcome, Did, Refused, commands}
use Rattle.x25_world.proofs.Names.{fires, WorldError, World, mirrored, Event, Act, Commands, Receives, Fires, Loses, Damages, WorldOutcome, Happened, Declined}
use Rattle.x25_world.proofs.Names.{after_step, of_station, delivered, on_line, is_on_line, acts, tapped, entered, swapped_back, AtEnd, happens, after}
use Rattle.x25_world.proofs.Names.{refusal_of, run, AreAccepted, connected, start, ActsInOctets, AreInOctets, IsUpOnce, IsUpAtMostOnce, ShownLine, ShownWorld}
use Rattle.std.proofs.{Common.{IfOk}, Math.Seq.{drop-append_seam}, lemmas.List.{append-nil, drop_all}}
use Rattle.x25_world.{proofs.Established.{connected_tells}, proofs.Names.{FitsWorld, FitsRun, HasHappened, shown_with}, specs.World.{acts_at}}
use Rattle.x25_world.specs.code.{FitsWorld.{EachRunHolds, Claims, and_then, HasActed, HasActedAt, RefusesConfig}, ShownWorld.{line_from}}
use Rattle.x25_station.specs.declared.station.Station as code
use Rattle.x25_world.specs.declared.error.WorldError.TheVariants as error

-- ---- an act

-- what holds of what is refused, of a step of the station, and where octets are left on the line, holds of each act
acts_all : (P : WorldOutcome → Type 0) (c : Settings) (w : World) (a : Act) → ((e : WorldError) → P (Declined e))
    → ((back : List (List ℕ)) (step : Step) → P (Happened (after_step c w back step))) → ((left : List (List ℕ)) → P (Happened (on_line w left)))
    → P (acts c w a)
acts_all P c w a refused steps leaves = by a
  where
    did : (o : Outcome) → P (of_station c w o)
    did (Did step) = steps w.back step
    did (Refused e) = refused _

    came : (back : List (List ℕ)) → P (delivered c w back)
    came [] = refused _
    came (octets ∷ back) = steps back _

    by : (a : Act) → P (acts c w a)
    by (Commands command) = did (commands c w.near command)
    by Receives = came w.back
    by Fires = cond_both (awaits_ua w.near.link.phase && is_on_line c w) _ _ P (λ _. refused _) (λ _. did (fires c w.near))
    by (Loses place) = cond_both (nat_lt place (length w.back)) _ _ P (λ _. leaves _) (λ _. refused _)
    by (Damages place octets) =
        cond_both (nat_lt place (length w.back)) _ _ P (λ _. cond_both (is_visible octets) _ _ P (λ _. leaves _) (λ _. refused _)) (λ _. refused _)

-- ---- the far end is as it was

abbrev pub KeepsFar : World → WorldOutcome → Type 0
KeepsFar w (Happened next) = next.far ≡ w.far
KeepsFar w (Declined e) = Unit {0}

pub station_keeps_far : (c : Settings) (w : World) (o : Outcome) → KeepsFar w (of_station c w o)
station_keeps_far c w (Did step) = refl
station_keeps_far c w (Refused e) = tt

acts_keep_far : (c : Settings) (w : World) (a : Act) → KeepsFar w (acts c w a)
acts_keep_far c w a = acts_all (KeepsFar w) c w a (λ e. tt) (λ back step. refl) (λ left. refl)

-- ---- what an end put on the line is the last there

-- what the near end put
abbrev PutsLast : Role → World → World → Type 0
PutsLast at w next = next.tap ≡ w.tap ++ tapped at (drop (length w.out) next.out)

puts_none : (at : Role) (w next : World) → next.tap ≡ w.tap → next.out ≡ w.out → PutsLast at w next
puts_none at w next tap out = tap ∙ sym (append-nil w.tap)
    ∙ ap (λ frames. w.tap ++ tapped at frames) (sym (ap (drop (length w.out)) out ∙ drop_all (length w.out) w.out (omega arith)))

acts_put : (c : Settings) (w : World) (a : Act) → PutsLast c.role w (after w (acts c w a))
acts_put c w a = acts_all (λ o. PutsLast c.role w (after w o)) c w a (λ e. puts_none c.role w w refl refl)
    (λ back step. ap (λ frames. w.tap ++ tapped c.role frames) (sym (drop-append_seam w.out (map (spelling_of c.role) step.out))))
    (λ left. puts_none c.role w (on_line w left) refl refl)

-- what either end put
abbrev out_from : World → Role → List (List ℕ)
out_from w Dte = w.out
out_from w Dce = w.back

event_puts : (cfg : Cfg) (w : World) (at : Role) (a : Act)
    → (let next = after w (acts_at cfg w at a) in next.tap ≡ w.tap ++ tapped at (drop (length (out_from w at)) (out_from next at)))
event_puts cfg w Dte a = acts_put (settings_from Dte cfg) w a
event_puts cfg w Dce a = go (acts (settings_from Dce cfg) (mirrored w) a) (acts_put (settings_from Dce cfg) (mirrored w) a)
  where
    go : (o : WorldOutcome) → PutsLast Dce (mirrored w) (after (mirrored w) o)
        → (let next = after w (swapped_back o) in next.tap ≡ w.tap ++ tapped Dce (drop (length (out_from w Dce)) (out_from next Dce)))
    go (Happened next) h = h
    go (Declined e) h = h

shown_from : {cfg : Cfg} {v : ShownWorld} {w : World} (at : Role) → FitsWorld cfg v w → line_from v at ≡ out_from w at
shown_from Dte f = f.to_dce
shown_from Dce f = f.to_dte

-- what an accepted event put
pub put_last : {cfg : Cfg} {old : ShownWorld} (new : ShownWorld) {w : World} (e : Event) (r : Result (Unit {0}) WorldError) → FitsWorld cfg old w
    → OnOk r (FitsWorld cfg new (after w (happens cfg w e)))
    → OnOk r ((after w (happens cfg w e)).tap ≡ w.tap ++ tapped e.at (drop (length (line_from old e.at)) (line_from new e.at)))
put_last {cfg} {old} new {w} e (Ok x) f g = rw (shown_from e.at f, shown_from e.at g) (event_puts cfg w e.at e.act)
put_last new e (Err error) f g = tt

-- ---- what an end did is what happened in its world

-- what happened, and what it told
pub record HasDone (cfg : Cfg) (v : ShownWorld) (told : List AtEnd) (w : World) (o : WorldOutcome) : Type 0 where
  pub fits : FitsWorld cfg v (after w o)
  pub tells : (after w o).transcript ≡ w.transcript ++ told
  pub accepted : refusal_of o ≡ None

dte_done : {cfg : Cfg} {near dce : code.Station} (line : ShownLine) {told : List AtEnd} {w : World} (o : WorldOutcome) → KeepsFar w o
    → FitsStation (settings_from Dce cfg) dce w.far
    → HasHappened cfg Dte near line told w o → HasDone cfg (shown_with near dce line) told w o
dte_done {dce} line (Happened next) far fits h = record {
  fits = record { dte = h.0.near; dce = rw far fits; to_dce = h.0.out; to_dte = h.0.back };
  tells = h.1;
  accepted = refl;
}
dte_done line (Declined e) far fits h = absurd h

dce_done : {cfg : Cfg} {near dte : code.Station} (line : ShownLine) {told : List AtEnd} (w : World) (o : WorldOutcome) → KeepsFar (mirrored w) o
    → FitsStation (settings_from Dte cfg) dte w.near
    → HasHappened cfg Dce near line told (mirrored w) o → HasDone cfg (shown_with dte near line) told w (swapped_back o)
dce_done {dte} line w (Happened next) far fits h = record {
  fits = record { dte = rw far fits; dce = h.0.near; to_dce = h.0.back; to_dte = h.0.out };
  tells = h.1;
  accepted = refl;
}
dce_done line w (Declined e) far fits h = absurd h

-- an outcome seen from the other end is refused alike
pub refusal-swapped : (o : WorldOutcome) → refusal_of (swapped_back o) ≡ refusal_of o
refusal-swapped (Happened next) = refl
refusal-swapped (Declined e) = refl

-- an act of the DTE of a world
pub dte_fits : (cfg : Cfg) (near dce : code.Station) (line : ShownLine) (told : List AtEnd) (w : World) (o : WorldOutcome) (r : Result (Unit {0}) WorldError)
    → KeepsFar w o
    → FitsStation (settings_from Dce cfg) dce w.far → OnOk r (HasHappened cfg Dte near line told w o)
    → OnOk r (FitsWorld cfg (shown_with near dce line) (after w o))
dte_fits cfg near dce line told w o (Ok x) far fits h = (dte_done line o far fits h).fits
dte_fits cfg near dce line told w o (Err e) far fits h = tt

pub dte_acted : {cfg : Cfg} {near dce : code.Station} {line : ShownLine} {w : World} (e : Event) (r : Result (Unit {0}) WorldError) (told : List StationEntry)
    → e.at ≡ Dte
    → FitsStation (settings_from Dce cfg) dce w.far → HasActed cfg Dte near line (entered Dte told) r w (acts (settings_from Dte cfg) w e.act)
    → HasActedAt cfg (shown_with near dce line) (entered e.at told) r w e
dte_acted {cfg} {near} {dce} {line} {w} e (Ok x) told at fits h =
    let done = dte_done line (acts (settings_from Dte cfg) w e.act) (acts_keep_far (settings_from Dte cfg) w e.act) fits h.happened in
    record { happened = rw at done.fits; tells = rw at done.tells; accepted = rw at done.accepted; refused = tt; stays = tt }
dte_acted {dce} e (Err x) told at fits h =
    record {
      happened = tt;
      tells = tt;
      accepted = tt;
      refused = rw at h.refused;
      stays = record { dte = h.stays.near; dce = fits; to_dce = h.stays.out; to_dte = h.stays.back };
    }

-- an act of its DCE
pub dce_acted : {cfg : Cfg} {near dte : code.Station} {line : ShownLine} (w : World) (e : Event) (r : Result (Unit {0}) WorldError) (told : List StationEntry)
    → e.at ≡ Dce
    → FitsStation (settings_from Dte cfg) dte w.near
    → HasActed cfg Dce near line (entered Dce told) r (mirrored w) (acts (settings_from Dce cfg) (mirrored w) e.act)
    → HasActedAt cfg (shown_with dte near line) (entered e.at told) r w e
dce_acted {cfg} {near} {dte} {line} w e (Ok x) told at fits h =
    let done = dce_done line w (acts (settings_from Dce cfg) (mirrored w) e.act) (acts_keep_far (settings_from Dce cfg) (mirrored w) e.act) fits h.happened in
    record { happened = rw at done.fits; tells = rw at done.tells; accepted = rw at done.accepted; refused = tt; stays = tt }
dce_acted {dte} w e (Err x) told at fits h =
    record {
      happened = tt;
      tells = tt;
      accepted = tt;
      refused = rw (at, refusal-swapped) h.refused;
      stays = record { dte = fits; dce = h.stays.near; to_dce = h.stays.back; to_dte = h.stays.out };
    }

-- ---- accepted and refused

-- what isn't refused by the definition is refused for want of memory alone
pub only_memory : (o : Option WorldError) (r : Result (Unit {0}) WorldError) → o ≡ None → IfErr r (λ e. (o ≡ Some e) ⊎ (e ≡ error.NoMemory))
    → IfErr r (λ e. e ≡ error.NoMemory)
only_memory o (Ok x) none h = tt
only_memory o (Err e) none h = elim h [ inl is ↦ cc | inr memory ↦ memory ]

pub in_range : {T : Type 0} (o : Option StationError) (x : T) → RefusesConfig (let made : Result T WorldError = Ok x in made) o → o ≡ None
in_range None x made = refl
in_range (Some d) x made = cc

-- what else is made, or refused by the same error, says the same of them
pub made_as : {T U : Type 0} (o : Option StationError) (x : T) (y : U) → RefusesConfig (let made : Result T WorldError = Ok x in made) o
    → RefusesConfig (let made : Result U WorldError = Ok y in made) o
made_as None x y made = tt
made_as (Some d) x y made = cc

pub refused_as : (T U : Type 0) (o : Option StationError) (e : WorldError) → RefusesConfig (let made : Result T WorldError = Err e in made) o
    → RefusesConfig (let made : Result U WorldError = Err e in made) o
refused_as T U None e memory = memory
refused_as T U (Some d) e bad = cc

-- the settings are in their ranges, so that only want of memory is left
pub refused_later : {T : Type 0} (U : Type 0) (o : Option StationError) (x : T) (e : WorldError)
    → RefusesConfig (let made : Result T WorldError = Ok x in made) o → e ≡ error.NoMemory
    → RefusesConfig (let made : Result U WorldError = Err e in made) o
refused_later U None x e made memory = memory
refused_later U (Some d) x e made memory = cc

-- what is told comes behind what was told
pub told_behind : (all before told more next : List AtEnd) → all ≡ before ++ told → next ≡ all ++ more → next ≡ before ++ (told ++ more)
told_behind all before told more next e f = f ∙ ap (λ l. l ++ more) e ∙ append_assoc before told more

-- ---- runs

-- a run in two parts
pub run_append : (cfg : Cfg) (xs ys : List Event) (w : World) → run cfg (xs ++ ys) w ≡ run cfg ys (run cfg xs w)
run_append cfg [] ys w = refl
run_append cfg (x ∷ xs) ys w = run_append cfg xs ys (after w (happens cfg w x))

-- events are accepted in two goes
pub accepted_append : (cfg : Cfg) (xs ys : List Event) (w : World) → AreAccepted cfg xs w → AreAccepted cfg ys (run cfg xs w) → AreAccepted cfg (xs ++ ys) w
accepted_append cfg [] ys w f g = g
accepted_append cfg (x ∷ xs) ys w f g = (f.0, accepted_append cfg xs ys (after w (happens cfg w x)) f.1 g)

-- events of both parts are in octets
pub octets_append : (xs ys : List Event) → AreInOctets xs → AreInOctets ys → AreInOctets (xs ++ ys)
octets_append [] ys f g = g
octets_append (x ∷ xs) ys f g = (f.0, octets_append xs ys f.1 g)

-- one more event, where it is accepted
pub run_and_then : {cfg : Cfg} {from : World} {old : ShownWorld} (new : ShownWorld) {past : List Event} (e : Event) (r : Result (Unit {0}) WorldError)
    → FitsRun cfg from old past → ActsInOctets e.act
    → ((w : World) → FitsWorld cfg old w → OnOk r (FitsWorld cfg new (after w (happens cfg w e))))
    → ((w : World) → FitsWorld cfg old w → OnOk r (refusal_of (happens cfg w e) ≡ None))
    → ((w : World) → FitsWorld cfg old w → OnErr r (FitsWorld cfg new w)) → FitsRun cfg from new (and_then past e r)
run_and_then {cfg} {from} new {past} e (Ok x) h octets step accepted stays = record {
  settings = h.settings;
  octets = octets_append past (e ∷ []) h.octets (octets, tt);
  accepted = accepted_append cfg past (e ∷ []) from h.accepted (accepted (run cfg past from) h.fits, tt);
  fits = subst (FitsWorld cfg new) (sym (run_append cfg past (e ∷ []) from)) (step (run cfg past from) h.fits);
}
run_and_then {cfg} {from} new {past} e (Err x) h octets step accepted stays =
    record { settings = h.settings; octets = h.octets; accepted = h.accepted; fits = stays (run cfg past from) h.fits }

-- ---- claims

-- where nothing was told no end went up
none_up : (cfg : Cfg) (w : World) → w.transcript ≡ [] → IsUpAtMostOnce cfg w
none_up cfg w nothing end = rw nothing (omega arith)

pub start_up : (cfg : Cfg) → IsUpAtMostOnce cfg start
start_up cfg = none_up cfg start refl

pub connected_up : (cfg : Cfg) → IsUpAtMostOnce cfg (connected cfg)
connected_up cfg = none_up cfg (connected cfg) (connected_tells cfg)

-- an end that went up once went up once at most
pub once_at_most : (cfg : Cfg) (w : World) → IsUpOnce cfg w → IsUpAtMostOnce cfg w
once_at_most cfg w once = λ end. omega (arith, once end)

-- by what holds of each run, the claims on a world that fits more of each than the one before
pub claims_hold : EachRunHolds → (old new : ShownWorld) (more : List Event → List Event)
    → ((cfg : Cfg) (from : World) (past : List Event) → FitsRun cfg from old past → FitsRun cfg from new (more past)) → Claims old new more
claims_hold holds old new more runs = record { run = runs; holds = λ cfg from past begins h. holds cfg from new (more past) begins (runs cfg from past h) }

-- a world that was just made
new_run : {cfg : Cfg} {from : World} {v : ShownWorld} → config_refusal cfg ≡ None → FitsWorld cfg v from → FitsRun cfg from v []
new_run fine fits = record { settings = fine; octets = tt; accepted = tt; fits = fits }

-- what holds of it, where one was made
pub made_world : (cfg : Cfg) (from : World) (P : ShownWorld → Type 0) (made : Result ShownWorld WorldError) → RefusesConfig made (config_refusal cfg)
    → IfOk made (λ v. FitsWorld cfg v from)
    → ((v : ShownWorld) → FitsRun cfg from v [] → P v) → IfOk made P
made_world cfg from P (Ok v) refused fits holds = holds v (new_run (in_range (config_refusal cfg) v refused) fits)
made_world cfg from P (Err e) refused fits holds = tt

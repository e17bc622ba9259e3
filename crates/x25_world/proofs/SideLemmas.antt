-- What an end did is its act by the definition, and its refusal is due.
use Rattle.x25_world.proofs.Names.{◌≡◌, ℕ, true, false, ◌&&◌, if◌then◌else◌, List, [], ◌∷◌, ◌++◌, map, Some, None, slice_get, Result, Ok, Err, OnOk, OnErr}
use Rattle.x25_world.proofs.Names.{IfErr, ◌⊎◌, inl, inr, refl, ap, sym, ◌∙◌, Role, Dte, Dce, spelling_of, awaits_ua, Cfg, StationError, StationEntry}
use Rattle.x25_world.proofs.Names.{FitsStation, Settings, settings_from, Step, Outcome, Did, Refused, fires, receives, WorldError, World, WorldOutcome}
use Rattle.x25_world.proofs.Names.{Happened, Declined, after_step, of_station, delivered, on_line, is_on_line, fired, refusal_of, entered, ShownLine}
use Rattle.std.{proofs.lemmas.List.{append-nil}, specs.List.{remove}}
use Rattle.x25_bits.specs.Role.{other}
use Rattle.x25_station.specs.code.FitsStation.{Leaves, Sends, Enters, Refuses}
use Rattle.x25_world.{proofs.Names.{HasHappened, line_to, put_by}, specs.Error.{error_of}, specs.code.FitsWorld.{FitsSide}}
use Rattle.x25_world.specs.code.ShownLine.{with_line_to, with_room_of, TakesFew}
use Rattle.x25_station.specs.declared.error.StationError.TheVariants as station
use Rattle.x25_station.specs.declared.station.Station as code
use Rattle.x25_station.specs.declared.step.Step as code_step
use Rattle.x25_world.specs.declared.error.WorldError.TheVariants as error

-- what an end shares with the other, where this is left on the line to it
pub record FitsShared (at : Role) (line : ShownLine) (w : World) (left : List (List ℕ)) : Type 0 where
  pub out : line_to line (other at) ≡ w.out
  pub back : line_to line at ≡ left

-- what a step answers was put on the line and told
pub step_told : (cfg : Cfg) (at : Role) {near : code.Station} {line : ShownLine} {w : World} {left : List (List ℕ)} (step : Step) (frames : List (List ℕ))
    (entries : List StationEntry)
    → FitsShared at line w left → FitsStation (settings_from at cfg) near step.near → frames ≡ map (spelling_of at) step.out → entries ≡ step.entries
    → HasHappened cfg at near (put_by line at frames) (entered at entries) w (Happened (after_step (settings_from at cfg) w left step))
step_told cfg Dte {near} {w} step frames entries shared fits sent told =
    (record { near = fits; out = rw (shared.out, sent) refl; back = shared.back }, ap (λ l. w.transcript ++ entered Dte l) (sym told))
step_told cfg Dce {near} {w} step frames entries shared fits sent told =
    (record { near = fits; out = rw (shared.out, sent) refl; back = shared.back }, ap (λ l. w.transcript ++ entered Dce l) (sym told))

-- memory that was set aside shows nowhere
pub shared_of : {cfg : Cfg} (at : Role) {near : code.Station} {line : ShownLine} {w : World} (room : ShownLine) → FitsSide cfg at near line w
    → FitsShared at (with_room_of room line) w w.back
shared_of Dte room side = record { out = side.out; back = side.back }
shared_of Dce room side = record { out = side.out; back = side.back }

-- ---- places for frames on the line

pub few_changed : (count : ℕ) (old mid : ShownLine) (at : Role) (frames : List (List ℕ)) → TakesFew count old mid
    → TakesFew count old (with_line_to mid at frames)
few_changed count old mid Dte frames few = record { to_dce = few.to_dce; to_dte = few.to_dte }
few_changed count old mid Dce frames few = record { to_dce = few.to_dce; to_dte = few.to_dte }

-- what a step puts leaves few on the line to it
pub few_put : (count : ℕ) (old mid : ShownLine) (at : Role) (frames : List (List ℕ)) → TakesFew count old mid → TakesFew count old (put_by mid at frames)
few_put count old mid at frames few = (let f = few_changed count old mid (other at) _ few in record { to_dce = f.to_dce; to_dte = f.to_dte })

-- where no frame is on the line none arrives
pub none_arrives : (c : Settings) (w : World) (back : List (List ℕ)) → None ≡ slice_get back 0 → refusal_of (delivered c w back) ≡ Some error.Empty
none_arrives c w [] is = refl
none_arrives c w (octets ∷ back) is = cc

-- ---- an accepted call of the station

abbrev ok : Result (Unit {0}) StationError
ok = Ok tt

-- the world goes on as the station answers a call that it accepts
pub has_happened : (cfg : Cfg) {at : Role} (near : code.Station) {line : ShownLine} {w : World} (outcome : Outcome) (answer : code_step.Step)
    → FitsShared at line w w.back → Leaves (settings_from at cfg) near ok outcome
    → Sends (settings_from at cfg) answer ok outcome → Enters answer ok outcome → Refuses ok outcome
    → HasHappened cfg at near (put_by line at answer.frames) (entered at answer.entries.items) w (of_station (settings_from at cfg) w outcome)
has_happened cfg {at} near {line} {w} (Did step) answer shared leaves sends enters refuses =
    step_told cfg at step answer.frames answer.entries.items shared leaves sends enters
has_happened cfg near (Refused e) answer shared leaves sends enters refuses = absurd refuses

-- ---- a refused one

no_memory : (e : StationError) → e ≡ station.NoMemory → error_of e ≡ error.NoMemory
no_memory e is = ap error_of is

its_own : (e d : StationError) → e ≡ d → (Some (error.Station d) ≡ Some (error_of e)) ⊎ (error_of e ≡ error.NoMemory)
its_own station.NoMemory d is = inr refl
its_own e d is = inl (rw (sym is) refl)

-- the world refuses by the error of the station, or for want of memory
pub is_refusal : (cfg : Cfg) (at : Role) (w : World) (outcome : Outcome) (e : StationError)
    → Refuses (let r : Result (Unit {0}) StationError = Err e in r) outcome
    → (refusal_of (of_station (settings_from at cfg) w outcome) ≡ Some (error_of e)) ⊎ (error_of e ≡ error.NoMemory)
is_refusal cfg at w (Did step) e refuses = inr (no_memory e refuses)
is_refusal cfg at w (Refused d) e is = its_own e d is

-- an end whose station fits as before is as it was, whatever room its line has
pub side_stays : {cfg : Cfg} (at : Role) {near new : code.Station} {line : ShownLine} {w : World} (room : ShownLine)
    → FitsSide cfg at near line w → FitsStation (settings_from at cfg) new w.near → FitsSide cfg at new (with_room_of room line) w
side_stays Dte {near} room side fits = record { near = fits; out = side.out; back = side.back }
side_stays Dce {near} room side fits = record { near = fits; out = side.out; back = side.back }

-- ---- timer T1 runs out, or doesn't while UA can still come

pub holds_back : (c : Settings) (w : World) → (awaits_ua w.near.link.phase && is_on_line c w) ≡ true → fired c w ≡ Declined error.OnLine
holds_back c w waits = ap (λ b. if b then Declined error.OnLine else of_station c w (fires c w.near)) waits

pub lets_fire : (c : Settings) (w : World) → (awaits_ua w.near.link.phase && is_on_line c w) ≡ false → fired c w ≡ of_station c w (fires c w.near)
lets_fire c w runs = ap (λ b. if b then Declined error.OnLine else of_station c w (fires c w.near)) runs

-- ---- the front octets arrive

removed_none : (frames : List (List ℕ)) → None ≡ slice_get frames 0 → remove frames 0 ≡ frames
removed_none [] none = refl
removed_none (octets ∷ left) none = absurd (cc)

-- where there is none the line stays
pub none_taken : (at : Role) (line : ShownLine) → None ≡ slice_get (line_to line at) 0
    → with_line_to line at (remove (line_to line at) 0) ≡ line
none_taken Dte line none = ap (with_line_to line Dte) (removed_none line.to_dte none)
none_taken Dce line none = ap (with_line_to line Dce) (removed_none line.to_dce none)

taken_off : (at : Role) {line : ShownLine} {w : World} (octets : List ℕ) (left : List (List ℕ))
    → FitsShared at line w (octets ∷ left) → FitsShared at (with_line_to line at (remove (line_to line at) 0)) w left
taken_off Dte octets left shared = record { out = shared.out; back = ap (λ l. remove l 0) shared.back }
taken_off Dce octets left shared = record { out = shared.out; back = ap (λ l. remove l 0) shared.back }

pub has_arrived : (cfg : Cfg) (at : Role) (near : code.Station) (line : ShownLine) (w : World) (back : List (List ℕ)) (octets : List ℕ)
    (answer : code_step.Step)
    → FitsShared at line w back → Some octets ≡ slice_get back 0
    → Leaves (settings_from at cfg) near ok (Did (receives (settings_from at cfg) w.near octets))
    → Sends (settings_from at cfg) answer ok (Did (receives (settings_from at cfg) w.near octets))
    → Enters answer ok (Did (receives (settings_from at cfg) w.near octets))
    → HasHappened cfg at near (put_by (with_line_to line at (remove (line_to line at) 0)) at answer.frames) (entered at answer.entries.items)
    w
    (delivered (settings_from at cfg) w back)
has_arrived cfg at near line w [] octets answer shared front leaves sends enters = cc
has_arrived cfg at near line w (o ∷ left) octets answer shared front leaves sends enters =
    let same : octets ≡ o = cc in
    let step = receives (settings_from at cfg) w.near octets in
    rw (sym same)
    (step_told cfg at step answer.frames answer.entries.items (taken_off at o left shared) leaves sends enters)

-- ---- octets on the line are lost, or others come in their place

pub line_changes : {cfg : Cfg} {at : Role} {near : code.Station} {line : ShownLine} (new : ShownLine) {w : World} (result : Result (Unit {0}) WorldError)
    (outcome : WorldOutcome)
    → FitsSide cfg at near line w → OnOk result (outcome ≡ Happened (on_line w (line_to new at))) → new ≡ with_line_to line at (line_to new at)
    → OnOk result (HasHappened cfg at near new [] w outcome)
line_changes new (Err e) outcome side happened only = tt
line_changes {cfg} {at} {near} {line} new {w} (Ok x) outcome side happened only = rw happened (go at side only)
  where
    go : (end : Role) → FitsSide cfg end near line w → new ≡ with_line_to line end (line_to new end)
        → HasHappened cfg end near new [] w (Happened (on_line w (line_to new end)))
    go Dte f o = (record { near = f.near; out = ap (λ l. l.to_dce) o ∙ f.out; back = refl }, sym (append-nil w.transcript))
    go Dce f o = (record { near = f.near; out = ap (λ l. l.to_dte) o ∙ f.out; back = refl }, sym (append-nil w.transcript))

pub line_stays : {cfg : Cfg} {at : Role} {near : code.Station} {line : ShownLine} (new : ShownLine) {w : World} (result : Result (Unit {0}) WorldError)
    → FitsSide cfg at near line w → OnErr result (new ≡ line) → OnErr result (FitsSide cfg at near new w)
line_stays new (Ok x) side same = tt
line_stays new (Err e) side same = rw same side

pub loses_or_not : (result : Result (Unit {0}) WorldError) (outcome : WorldOutcome) → IfErr result (λ e. outcome ≡ Declined e)
    → IfErr result (λ e. (refusal_of outcome ≡ Some e) ⊎ (e ≡ error.NoMemory))
loses_or_not (Ok x) outcome is = tt
loses_or_not (Err e) outcome is = inl (ap refusal_of is)

pub damages_or_not : (result : Result (Unit {0}) WorldError) (outcome : WorldOutcome) → IfErr result (λ e. (outcome ≡ Declined e) ⊎ (e ≡ error.NoMemory))
    → IfErr result (λ e. (refusal_of outcome ≡ Some e) ⊎ (e ≡ error.NoMemory))
damages_or_not (Ok x) outcome is = tt
damages_or_not (Err e) outcome is = elim is [ inl d ↦ inl (ap refusal_of d) | inr m ↦ inr m ]

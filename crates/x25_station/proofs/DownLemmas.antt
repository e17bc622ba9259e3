-- A step of the link that hands nothing up, and notes nothing but that it went down.
use Rattle.x25_station.proofs.Names.{gives_up, Phase, Closed}
use Rattle.x25_station.proofs.Names.{◌≡◌, ℕ, ◌+◌, List, [], ◌++◌, map, Option, Some, None, Ok, Bool, true, false, if◌then◌else◌, nat_lt, refl, sym, ap, subst}
use Rattle.x25_station.proofs.Names.{◌∙◌, Layer, FitsLayer, LinkStep, quiet, leaves, alone, asks_again, timer_step, disconnect_step, relink_step, connect_step}
use Rattle.x25_station.proofs.Names.{LinkSettings, LinkStation, Side, with_near, ShownLink, FitsLink, LinkError, Reason, Retries, Settings, link_settings}
use Rattle.x25_station.proofs.Names.{layer_settings, manner_of, StationEntry, entries_down, Station, Step, follows, unless, layer_down, FitsParts, LeavesParts}
use Rattle.x25_frame.specs.Spelling.{spelling_of}
use Rattle.x25_station.proofs.{KeepLemmas.{timer_none}, Names.{step_of_call, Manner, LinkCall, Connect, Disconnect, Relink, IsKept, KeptBy}}
use Rattle.x25_station.proofs.OutcomeLemmas.{leaves_unless}
use Rattle.x25_layer.specs.declared.layer.Layer as layer_code

-- the layer rests where it went down, and nothing is put
abbrev pub downs : Station → Side → Option Reason → Step
downs s t down = record { near = record { link = t.near; layer = layer_down s.layer down; turn = s.turn }; out = t.out; entries = entries_down down }

noted_down : (c : Settings) (l : Station) (t : Side) (down : Option Reason)
    → follows c l (record { side = t; packet = None; notes = record { down = down; up = false } }) ≡ downs l t down
noted_down c l t None = refl
noted_down c l t (Some reason) = refl

pub follows_down : (c : Settings) (l : Station) (k : LinkStep) → k.packet ≡ None → k.notes.up ≡ false → follows c l k ≡ downs l k.side k.notes.down
follows_down c l k none not_up =
    ap (λ (o : Option (List ℕ)). follows c l (record { side = k.side; packet = o; notes = k.notes })) none
    ∙ ap (λ (b : Bool). follows c l (record { side = k.side; packet = None; notes = record { down = k.notes.down; up = b } })) not_up
    ∙ noted_down c l k.side k.notes.down

-- ---- calls that the link alone answers

pub timer_stays : (c : LinkSettings) (s : LinkStation) → (timer_step c s).notes.up ≡ false
timer_stays c s = test (nat_lt s.tries c.retries)
  where
    last : (p : Phase) → (gives_up p (alone s)).notes.up ≡ false
    last Closed = refl
    last p = refl

    test : (b : Bool) → (let k : LinkStep = if b then quiet (asks_again s.phase (with_near (alone s) (record s { tries = s.tries + 1 })))
        else gives_up s.phase (alone s) in k.notes.up) ≡ false
    test true = refl
    test false = last s.phase

pub timer_down : (c : Settings) (l : Station) (s : LinkStation)
    → (let k : LinkStep = timer_step (link_settings c) s in follows c l k ≡ downs l k.side k.notes.down)
timer_down c l s = follows_down c l (timer_step (link_settings c) s) (timer_none (link_settings c) s) (timer_stays (link_settings c) s)

pub disconnect_down : (c : Settings) (l : Station) (s : LinkStation)
    → (let k : LinkStep = disconnect_step (link_settings c) s in follows c l k ≡ downs l k.side k.notes.down)
disconnect_down c l s = follows_down c l (disconnect_step (link_settings c) s) refl refl

pub relink_down : (c : Settings) (l : Station) (s : LinkStation)
    → (let k : LinkStep = relink_step (link_settings c) s in follows c l k ≡ downs l k.side k.notes.down)
relink_down c l s = follows_down c l (relink_step (link_settings c) s) refl refl

pub call_down : (call : LinkCall) (c : Settings) (l : Station) (s : LinkStation)
    → (let k : LinkStep = step_of_call call (link_settings c) s in follows c l k ≡ downs l k.side k.notes.down)
call_down Connect c l s = follows_down c l (connect_step (link_settings c) s) refl refl
call_down Disconnect c l s = disconnect_down c l s
call_down Relink c l s = relink_down c l s
call_down call c l s = timer_down c l s

-- ---- the station after it

pub fits_down : {manner : Manner} {turn : ℕ} (c : Settings) → manner ≡ manner_of c
    → (v : ShownLink) (y : layer_code.Layer) (l : Station) → turn ≡ l.turn → (k : LinkStep) (step : Step) (down : Option Reason) → step.near ≡ (downs l k.side k.notes.down).near
    → down ≡ k.notes.down
    → FitsLink (link_settings c) v k.side.near → FitsLayer (layer_settings c) y (layer_down l.layer down) → v.frames ≡ [] → IsKept step.near
    → FitsParts c manner v y turn step.near
fits_down c as_set v y l turned k step down near is link layer sent kept =
    let moved : layer_down l.layer down ≡ step.near.layer = ap (layer_down l.layer) is ∙ sym (ap (λ (x : Station). x.layer) near) in
    record {
      link = subst (λ (x : LinkStation). FitsLink (link_settings c) v x) (sym (ap (λ (x : Station). x.link) near)) link;
      layer = subst (λ (x : Layer). FitsLayer (layer_settings c) y x) moved layer;
      turned = turned ∙ sym (ap (λ (x : Station). x.turn) near);
      kept = kept;
      sent = sent;
      same = as_set;
    }

pub leaves_down : {manner : Manner} (c : Settings) → manner ≡ manner_of c
    → (v : ShownLink) (y : layer_code.Layer) (turn : ℕ) (o : Option LinkError) (l : Station) → turn ≡ l.turn → (k : LinkStep) (step : Step) (down : Option Reason) → step.near
    ≡ (downs l k.side k.notes.down).near
    → down ≡ k.notes.down → FitsLink (link_settings c) v k.side.near → FitsLayer (layer_settings c) y (layer_down l.layer down) → v.frames ≡ []
    → KeptBy (unless o step) → LeavesParts {T = Unit} c manner v y turn (Ok tt) (unless o step)
leaves_down c as_set v y turn o l turned k step down near is link layer sent kept =
    leaves_unless c v y turn o step kept (λ now. fits_down c as_set v y l turned k step down near is link layer sent now)

-- ---- what it answers

pub frames_down : (c : Settings) (l : Station) (k : LinkStep) (frames : List (List ℕ)) (step : Step) → step ≡ downs l k.side k.notes.down → frames
    ≡ map (spelling_of c.role) k.side.out → frames ≡ map (spelling_of c.role) step.out
frames_down c l k frames step is made = made ∙ ap (λ (x : Step). map (spelling_of c.role) x.out) (sym is)

pub entries_noted_down : (l : Station) (k : LinkStep) (before after : List StationEntry) (down : Option Reason) (step : Step) → step
    ≡ downs l k.side k.notes.down → down ≡ k.notes.down → after ≡ before ++ entries_down down
    → after ≡ before ++ step.entries
entries_noted_down l k before after down step is same noted =
    noted ∙ ap (λ (o : Option Reason). before ++ entries_down o) same ∙ ap (λ (x : Step). before ++ x.entries) (sym is)

-- How often a step of a station tells of LinkUp.
use Rattle.x25_link.specs.declared.phase.Ending.{Ending}
use Rattle.x25_station.specs.{Entry.{end_between, entries_ended}, Step.{ends}}
use Rattle.x25_joined.proofs.Names.{◌≡◌, ◌∙◌, ℕ, suc, ◌+◌, Bool, true, false, List, [], ◌∷◌, ◌++◌, Option, Some, None, ap, sym, subst, refl, arith, Settings}
use Rattle.x25_joined.proofs.Names.{StationEntry, Station, Step, Did, commands, fires, ups_in}
use Rattle.x25_layer.specs.{Calls.{LayerRequest, LayerOutcome}, Layer.{LayerSettings, Layer}}
use Rattle.x25_line.specs.laws.Sessions.{begun_by}
use Rattle.x25_link.specs.{Hearing.{LinkStep}, Link.{relink_step}, declared.error.LinkError.{LinkError}, declared.phase.Reason.{Reason}}
use Rattle.x25_link.specs.Link.{timer_refusal, timer_step, connect_refusal, connect_step, disconnect_refusal, disconnect_step, probe_refusal, relink_refusal}
use Rattle.x25_peer.proofs.Granted.{unless_did, did_granted, gave_granted, timer_silent}
use Rattle.x25_station.specs.{Config.{layer_settings, link_settings}, Entry.{link_up, entries_noted, connect_asked, disconnect_asked, relink_asked}}
use Rattle.x25_station.specs.Step.{entries_of_outcome, entries_of_packet, entries_heard, follows, unless, led_by}
use Rattle.x25_world.proofs.sessions.SessionEntries.{ArePlain, outcome_plain, packet_plain}
use Rattle.x25_station.specs.Command as command

pub ups_append : (xs ys : List StationEntry) → ups_in (xs ++ ys) ≡ ups_in xs + ups_in ys
ups_append [] ys = (let none : 0 + ups_in ys ≡ ups_in ys = omega (arith) in sym none)
ups_append (x ∷ xs) ys = by x (ups_append xs ys)
  where
    by : (x : StationEntry) → ups_in (xs ++ ys) ≡ ups_in xs + ups_in ys → ups_in (x ∷ (xs ++ ys)) ≡ ups_in (x ∷ xs) + ups_in ys
    by link_up h = (let more : suc (ups_in xs) + ups_in ys ≡ suc (ups_in xs + ups_in ys) = omega (arith) in ap suc h ∙ sym more)
    by entry h = h

-- entries that aren't the link's tell of none
plain_none : (es : List StationEntry) → ArePlain es → ups_in es ≡ 0
plain_none [] plain = refl
plain_none (link_up ∷ es) plain = absurd plain.0
plain_none (e ∷ es) plain = plain_none es plain.1

ups_heard : (c : LayerSettings) (wide : Bool) (l : Layer) (packet : Option (List ℕ)) (down : Option Reason) (up : Bool)
    → ups_in (entries_heard c wide l packet down up) ≡ 0
ups_heard c wide l packet down true = refl
ups_heard c wide l packet (Some reason) false = refl
ups_heard c wide l (Some octets) None false = plain_none (entries_of_packet c wide l octets) (packet_plain c wide l octets)
ups_heard c wide l None None false = refl

-- as often as its link notes it
ups_noted : (down : Option Reason) (up : Bool) (b : ℕ) → begun_by up b ≡ b + ups_in (entries_noted (record { down = down; up = up }))
ups_noted None true b = omega (arith)
ups_noted None false b = omega (arith)
ups_noted (Some reason) true b = omega (arith)
ups_noted (Some reason) false b = omega (arith)

follows_ups : (c : Settings) (s : Station) (k : LinkStep) (b : ℕ) → begun_by k.notes.up b ≡ b + ups_in (follows c s k).entries
follows_ups c s k b =
    let more = ups_append (entries_noted k.notes) (entries_heard (layer_settings c) c.wide s.layer k.packet k.notes.down k.notes.up) in
    let none = ups_heard (layer_settings c) c.wide s.layer k.packet k.notes.down k.notes.up in
    let noted = ups_noted k.notes.down k.notes.up b in
    omega (arith, more, none, noted)

-- the end of what a DISC awaits is none
ended_ups : (e : Option Ending) → ups_in (entries_ended e) ≡ 0
ended_ups None = refl
ended_ups (Some ending) = refl

pub ends_ups : (c : Settings) (s : Station) (k : LinkStep) (b : ℕ) → begun_by k.notes.up b ≡ b + ups_in (ends c s k).entries
ends_ups c s k b =
    let ending = end_between s.link k.side.near in
    omega (arith, ups_append (entries_ended ending) (follows c s k).entries, ended_ups ending, follows_ups c s k b)

-- ---- a command

-- to the layer
asked_ups : (c : Settings) (l : Layer) (request : LayerRequest) (o : LayerOutcome) (step : Step)
    → step.entries ≡ entries_of_outcome (layer_settings c) l request o → ups_in step.entries ≡ 0
asked_ups c l request o step is = plain_none step.entries (subst ArePlain (sym is) (outcome_plain (layer_settings c) l request o))

-- or to the link, which notes no LinkUp by it
link_ups : (c : Settings) (s : Station) (refusal : Option LinkError) (asked : List StationEntry) (k : LinkStep) (step : Step) → ups_in asked ≡ 0
    → k.notes.up ≡ false → unless refusal (led_by asked (follows c s k)) ≡ Did step → ups_in step.entries ≡ 0
link_ups c s refusal asked k step quiet none is =
    let told : 0 ≡ 0 + ups_in (follows c s k).entries = subst (λ up. begun_by up 0 ≡ 0 + ups_in (follows c s k).entries) none (follows_ups c s k 0) in
    let sum = ups_append asked (follows c s k).entries in
    subst (λ s. ups_in s.entries ≡ 0) (unless_did refusal (led_by asked (follows c s k)) step is).1 (omega (arith, sum, quiet, told))

pub commands_ups : (c : Settings) (s : Station) (asked : command.Command) (step : Step) → commands c s asked ≡ Did step → ups_in step.entries ≡ 0
commands_ups c s (command.Requests request) step is =
    asked_ups c s.layer _ _ step (did_granted c s (command.said_by c.say_sizes s.layer request) step is).entries
commands_ups c s (command.RequestsWith g request) step is =
    asked_ups c s.layer _ _ step (gave_granted c s g (command.said_by c.say_sizes s.layer request) step is).entries
commands_ups c s command.Connects step is =
    link_ups c s (connect_refusal s.link.phase) (connect_asked ∷ []) (connect_step (link_settings c) s.link) step refl refl is
commands_ups c s command.Disconnects step is =
    link_ups c s (disconnect_refusal s.link.phase) (disconnect_asked ∷ []) (disconnect_step (link_settings c) s.link) step refl refl is
commands_ups c s command.Probes step is =
    link_ups c s (probe_refusal s.link.phase) [] (timer_step (link_settings c) s.link) step refl (timer_silent (link_settings c) s.link).1 is
commands_ups c s command.Relinks step is =
    link_ups c s (relink_refusal s.link.phase) (relink_asked ∷ []) (relink_step (link_settings c) s.link) step refl refl is

pub fires_ups : (c : Settings) (s : Station) (step : Step) → fires c s ≡ Did step → ups_in step.entries ≡ 0
fires_ups c s step is =
    let k = timer_step (link_settings c) s.link in
    let ending = end_between s.link k.side.near in
    link_ups c s (timer_refusal s.link) (entries_ended ending) k step (ended_ups ending) (timer_silent (link_settings c) s.link).1 is

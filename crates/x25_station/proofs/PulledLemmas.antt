-- A pull behind a step gives nothing, where the packet layer isn't as it was.
use Rattle.x25_station.proofs.Names.{◌≡◌, ℕ, zero, suc, ◌+◌, ◌-◌, ◌≤◌, ◌<◌, ◌⊎◌, inl, inr, List, [], ◌∷◌, ◌==◌, Bool, true, false, nat_lt, if◌then◌else◌, Option, Some}
use Rattle.x25_station.proofs.Names.{None, refl, sym, ap, subst, ◌∙◌, arith, true≢false, ltb-true, le-leb, PlainGiven, PlainPacket, Reason, LayerSettings, Layer}
use Rattle.x25_station.proofs.Names.{LayerAnswer, nat_le, LayerRequest, LayerOutcome, Accepted, Declined, PullsAll, outcome_in, layer_outcome, layer_pulled, is_channel, is_ready, LinkView}
use Rattle.x25_station.proofs.Names.{Putting, begin, round, rounds, rounds_of, pull_one, backlog, Went, Refuses, Answered, went, calls, LinkStep, alone, put_step}
use Rattle.x25_station.proofs.Names.{take_step, timer_refusal, timer_step, connect_refusal, connect_step, disconnect_refusal, disconnect_step, abandon_step}
use Rattle.x25_station.proofs.Names.{probe_refusal, relink_refusal, relink_step, waits, LinkSettings, LinkStation, Side, is_up, LinkError, LayerError, Requests}
use Rattle.x25_station.proofs.Names.{RequestsWith, Connects, Disconnects, Probes, Relinks, said_by, may_ask, Settings, link_settings, layer_settings, StationEntry}
use Rattle.x25_station.proofs.Names.{connect_asked, disconnect_asked, relink_asked, view_given, is_taken, pulled_of, Station, all_put, view_of, Step, with_puts}
use Rattle.x25_station.proofs.Names.{layer_at, follows, led_by, unless, entries_of_outcome, did, gave, requests_of}
use Rattle.std.proofs.lemmas.Bool.{and_from}
use Rattle.x25_layer.specs.Receiving.{layer_hears}
use Rattle.x25_layer.specs.laws.{Rounds.{at_turn, rest_of_round, whole_rounds}, WaitLaw.{PullsNone, RoundsLeaveNone}}
use Rattle.x25_station.proofs.{LinkLemmas.{near_alone}, MayLemmas.{where_holds}, RoundLemmas.{one_none, one_shut}}
use Rattle.x25_station.specs.{Pulling.{pulled}, Step.{link_receives}, laws.PullLaw.{HasPulled, PulledBy, StepsPull}}
use Rattle.x25_layer.specs.declared.error.LayerError.TheVariants as layer_error
use Rattle.x25_station.specs.laws.TimerLaw as timer

-- ---- rounds that give nothing

-- 8 packets wait in the link, or no channel has a packet that may be sent
abbrev GivesNone : LinkView → LayerSettings → Putting → Type 0
GivesNone view c u = (nat_lt (view.waits u.put) 8 ≡ false) ⊎ PullsNone c u.layer

module _ (view : LinkView) (c : LayerSettings) (u : Putting) (none : GivesNone view c u) where
  nothing : (k : ℕ) → 1 ≤ k → k ≤ c.channels.count → pull_one view c k u ≡ u
  nothing k low high = by none
    where
      by : GivesNone view c u → pull_one view c k u ≡ u
      by (inl shut) = one_shut view c k u shut
      by (inr none) = one_none view c k u (none k (and_from (nat_le 1 k) (nat_le k c.channels.count) (le-leb 1 k low) (le-leb k c.channels.count high)))

  round_none : (b n : ℕ) → n ≤ c.channels.count - b → round view c b n u ≡ u
  round_none b zero few = refl
  round_none b (suc n) few =
      ap (pull_one view c (b + suc n)) (round_none b n (omega (arith, few))) ∙ nothing (b + suc n) (omega arith) (omega (arith, few))

  rounds_none : (n : ℕ) → rounds_of n view c u ≡ u
  rounds_none zero = refl
  rounds_none (suc n) = ap (rounds_of n view c) (round_none 0 c.channels.count (omega arith)) ∙ rounds_none n

all_none : (view : LinkView) (c : LayerSettings) (u : Putting) → GivesNone view c u → (rounds view c u).layer ≡ u.layer
all_none view c u none =
    let turned : Putting = at_turn view.turn u in
    let rest : rest_of_round view c u ≡ turned = round_none view c turned none view.turn (c.channels.count - view.turn) (omega arith) in
    ap (λ (t : Putting). (whole_rounds view c t).layer) rest
    ∙ ap (λ (t : Putting). t.layer) (rounds_none view c turned none (backlog turned.layer.circuits c.channels.count))

-- ---- a pull

pull_stays : (c : Settings) (s : Station)
    → (s.layer.restarting ≡ false → (nat_lt (waits s.link.outgoing) 8 ≡ false) ⊎ PullsNone (layer_settings c) s.layer)
    → (pulled c s).near.layer ≡ s.layer
pull_stays c s none = by (is_up s.link.phase) s.layer.restarting refl
  where
    view : LinkView
    view = view_of (link_settings c) s.turn s.link

    full : Bool
    full = waits s.link.outgoing == 256

    entries : List StationEntry
    entries = entries_of_outcome (layer_settings c) s.layer PullsAll (layer_outcome (layer_settings c) full s.layer PullsAll)

    by : (up busy : Bool) → s.layer.restarting ≡ busy
        → (pulled_of s (did c (alone s.link) entries
        (if up then went view (layer_settings c) (outcome_in (layer_settings c) full busy s.layer.restarts s.layer.circuits PullsAll)
        else Refuses layer_error.NotUp))).near.layer ≡ s.layer
    by false busy is = refl
    by true true is = refl
    by true false is =
        let begins : Putting = begin (is_ready s.layer.restarts s.layer.circuits) None in
        all_none view (layer_settings c) begins (none is)
        ∙ ap (λ (b : Bool). let l : Layer = record { restarting = b; restarts = s.layer.restarts; circuits = s.layer.circuits } in l) (sym is)

module _ (law : RoundsLeaveNone) (c : Settings) (s : Station) where
  lc : LayerSettings
  lc = layer_settings c

  -- behind rounds, in a link that they led to
  rounds_pulled : (view : LinkView) (u : Putting) (l : LinkStation) (turn : ℕ)
      → (let n : Putting = rounds view (layer_settings c) u in view.waits n.put ≡ waits l.outgoing)
      → HasPulled c s.layer (record { link = l; layer = (rounds view (layer_settings c) u).layer; turn = turn })
  rounds_pulled view u l turn same =
      let n : Putting = rounds view (layer_settings c) u in
      inr (pull_stays c (record { link = l; layer = n.layer; turn = turn }) (λ ready. by (nat_lt (view.waits n.put) 8) refl))
    where
      by : (b : Bool) → (let n : Putting = rounds view (layer_settings c) u in nat_lt (view.waits n.put) 8) ≡ b
          → (nat_lt (waits l.outgoing) 8 ≡ false) ⊎ PullsNone (layer_settings c) (rounds view (layer_settings c) u).layer
      by true less = inr (law view (layer_settings c) u (ltb-true _ 8 less))
      by false more = inl (ap (λ (m : ℕ). nat_lt m 8) (sym same) ∙ more)

  -- what is asked of the layer
  went_pulled : (entries : List StationEntry) (o : LayerOutcome)
      → PulledBy c s (did c (alone s.link) entries (went (view_of (link_settings c) s.turn s.link) (layer_settings c) o))
  went_pulled entries (Accepted next packet) = rounds_pulled (view_of (link_settings c) s.turn s.link) (begin next packet) _ _ refl
  went_pulled entries (Declined e) = tt

  called_pulled : (entries : List StationEntry) (up : Bool) (o : LayerOutcome)
      → PulledBy c s (did c (alone s.link) entries (if up then went (view_of (link_settings c) s.turn s.link) (layer_settings c) o else Refuses layer_error.NotUp))
  called_pulled entries true o = went_pulled entries o
  called_pulled entries false o = tt

  -- with something beside it
  gave_pulled : (g : PlainGiven) (taken : Bool) (entries : List StationEntry) (up : Bool) (o : LayerOutcome)
      → PulledBy c s (gave c g taken (alone s.link) entries
      (if up then went (view_given (link_settings c) g s.turn s.link) (layer_settings c) o else Refuses layer_error.NotUp))
  gave_pulled g taken entries false o = tt
  gave_pulled g taken entries true (Declined e) = tt
  gave_pulled g false entries true (Accepted next packet) = tt
  gave_pulled g true entries true (Accepted next packet) = rounds_pulled (view_given (link_settings c) g s.turn s.link) (begin next packet) _ _ refl

  -- a step of the link, and then the layer
  at_pulled : (t : Side) (entries : List StationEntry) (packet : Option (List ℕ)) (down : Option Reason) (up : Bool)
      → HasPulled c s.layer (with_puts c t (layer_at (view_of (link_settings c) s.turn t.near) (layer_settings c) c.wide s.layer packet down up) entries).near
  at_pulled t entries packet down true = inr (pull_stays c _ (λ ready. absurd (true≢false ready)))
  at_pulled t entries packet (Some reason) false = inr (pull_stays c _ (λ ready. inr (λ k is. refl)))
  at_pulled t entries (Some octets) None false =
      let n : Putting = layer_at (view_of (link_settings c) s.turn t.near) (layer_settings c) c.wide s.layer (Some octets) None false in
      let a : LayerAnswer = layer_hears (layer_settings c) c.wide s.layer octets in
      rounds_pulled (view_of (link_settings c) s.turn t.near) (begin a.next a.owed) _ _
      (ap (λ (l : LinkStation). waits l.outgoing) (sym (near_alone (link_settings c) n.put t (alone t.near) refl)))
  at_pulled t entries None None false = inl refl

  follows_pulled : (k : LinkStep) → HasPulled c s.layer (follows c s k).near
  follows_pulled k = at_pulled k.side (follows c s k).entries k.packet k.notes.down k.notes.up

  unless_pulled : (o : Option LinkError) (step : Step) → HasPulled c s.layer step.near → PulledBy c s (unless o step)
  unless_pulled None step h = h
  unless_pulled (Some e) step h = tt

pub steps_pull : RoundsLeaveNone → StepsPull
steps_pull law c s (timer.Comes octets) = follows_pulled law c s (link_receives c s octets)
steps_pull law c s timer.Fires = unless_pulled law c s (timer_refusal s.link) _ (follows_pulled law c s (timer_step (link_settings c) s.link))
steps_pull law c s (timer.Asks (Requests request)) =
    let said = said_by c.say_sizes s.layer request in
    let view = view_of (link_settings c) s.turn s.link in
    where_holds (PulledBy c s) (may_ask c.wide said) (requests_of c s.link s.layer view said) (λ e. tt)
    (called_pulled law c s _ (is_up s.link.phase) (layer_outcome (layer_settings c) (view.waits [] == 256) s.layer said))
steps_pull law c s (timer.Asks (RequestsWith given request)) =
    let said = said_by c.say_sizes s.layer request in
    let view = view_given (link_settings c) given s.turn s.link in
    gave_pulled law c s given (is_taken c given said) _ (is_up s.link.phase) (layer_outcome (layer_settings c) (view.waits [] == 256) s.layer said)
steps_pull law c s (timer.Asks Connects) = unless_pulled law c s (connect_refusal s.link.phase)
    (led_by (connect_asked ∷ []) (follows c s (connect_step (link_settings c) s.link))) (follows_pulled law c s (connect_step (link_settings c) s.link))
steps_pull law c s (timer.Asks Disconnects) = unless_pulled law c s (disconnect_refusal s.link.phase)
    (led_by (disconnect_asked ∷ []) (follows c s (disconnect_step (link_settings c) s.link))) (follows_pulled law c s (disconnect_step (link_settings c) s.link))
steps_pull law c s (timer.Asks Probes) = unless_pulled law c s (probe_refusal s.link.phase)
    (follows c s (timer_step (link_settings c) s.link)) (follows_pulled law c s (timer_step (link_settings c) s.link))
steps_pull law c s (timer.Asks Relinks) = unless_pulled law c s (relink_refusal s.link.phase)
    (led_by (relink_asked ∷ []) (follows c s (relink_step (link_settings c) s.link))) (follows_pulled law c s (relink_step (link_settings c) s.link))

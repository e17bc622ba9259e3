-- Noise leaves a station as it was, which answers nothing; and what is pulled brings no link to rest that sends.
use Rattle.x25_link.specs.declared.phase.Ending.{Ending}
use Rattle.x25_station.proofs.EndsLemmas.{still_ends}
use Rattle.x25_station.specs.{Entry.{end_between, entries_ended}, Step.{ends}}
use Rattle.x25_clock.proofs.Names.{◌≡◌, ℕ, zero, suc, ◌+◌, ◌≤◌, ◌==◌, List, [], ◌∷◌, ◌++◌, length, Bool, true, false, not, if◌then◌else◌, refl, sym, ap}
use Rattle.x25_clock.proofs.Names.{◌∙◌, arith, true≢false, eqb-true, and_parts, Phase, Down, Waiting, Up, Closed, LinkStation, is_up, Settings, Station}
use Rattle.x25_clock.proofs.Names.{layer_settings, is_at_rest, Step, tells_link, IsSettled}
use Rattle.std.proofs.{Common.{◌&&◌, Ok, Err, None, Option, Result, Some}, lemmas.List.{length-append}}
use Rattle.x25_clock.specs.laws.SilenceLaw.{is_noise, is_unread}
use Rattle.x25_frame.specs.{Frame.{PlainFrame}, Reading.{frame_of}, declared.error.FrameError.{FrameError}}
use Rattle.x25_layer.specs.{Calls.{PullsAll, layer_outcome, outcome_in}, Layer.{is_ready}, laws.Rounds.{LinkView, Putting, Refuses, begin, rounds, went}}
use Rattle.x25_link.specs.{Link.{alone, closed_by, hears, is_idle, timer_runs, abandon_step, take_step}, Hearing.{LinkStep, other, quiet}, Outgoing.{waits, added}}
use Rattle.x25_link.specs.Station.{LinkSettings, Side, ended, finished, pumped, pumped_once, ready, send_next, with_near}
use Rattle.x25_link.specs.laws.{RestLaw.{HasSaidAll}, WindowLaw.{IsSound}}
use Rattle.x25_packet.specs.{Packet.{PlainPacket}, Spelling.{spelling_of}}
use Rattle.x25_station.proofs.UnheardLemmas.{Lasts, ended_lasts, all_put_lasts}
use Rattle.x25_station.specs.{Config.{link_settings}, Entry.{StationEntry}, Pulling.{pulled, pulled_of}, Station.{all_put, put_on, view_of}}
use Rattle.x25_station.specs.Step.{abandons, did, entries_of_outcome, follows, receives}
use Rattle.x25_frame.specs.declared.error.FrameError.TheVariants as error
use Rattle.x25_layer.specs.declared.error.LayerError.TheVariants as layer_error

-- ---- noise

-- nothing is left to send, so that nothing is sent
module _ (k : ℕ) (t : Side) (said : HasSaidAll k t.near) where
  pumped_rests : (n : ℕ) → pumped n k t ≡ t
  unfolding pumped
  pumped_rests zero = refl
  pumped_rests (suc n) = ap (pumped_once k) (pumped_rests n) ∙ ap (λ (b : Bool). if b then send_next t else t) said.settled

  ended_rests : ended k t ≡ t
  ended_rests = ap finished (pumped_rests 7) ∙ ap (λ (b : Bool). if b then ready false false t else t) said.calm

unread_quiet : (c : LinkSettings) (octets : List ℕ) (read : Result PlainFrame FrameError) (p : Phase) (t : Side) → is_unread read ≡ true
    → hears c octets read p t ≡ quiet t
unread_quiet c octets (Ok frame) p t is = absurd (true≢false (sym is))
unread_quiet c octets (Err e) Down t is = refl
unread_quiet c octets (Err e) Waiting t is = refl
unread_quiet c octets (Err e) Closed t is = refl
unread_quiet c octets (Err e) Up t is = unread_up c octets e t is
  where
    unread_up : (c : LinkSettings) (octets : List ℕ) (e : FrameError) (t : Side) → is_unread (Err e) ≡ true → hears c octets (Err e) Up t ≡ quiet t
    unread_up c octets error.Short t is = refl
    unread_up c octets error.BadFcs t is = refl
    unread_up c octets error.BadAddress t is = refl
    unread_up c octets e t is = absurd (true≢false (sym is))

abbrev pub nothing_at : Station → Step
nothing_at s = record { near = s; out = []; entries = [] }

module _ (c : Settings) (s : Station) (octets : List ℕ) (settled : IsSettled c s) (noise : is_noise c octets ≡ true) where
  abbrev lc : LinkSettings
  lc = link_settings c

  taken_quietly : ends c s (take_step lc octets s.link) ≡ nothing_at s
  taken_quietly =
      ap (λ (k : LinkStep). ends c s (closed_by c.window k))
      (unread_quiet lc octets (frame_of (other c.role) lc.longest octets) s.link.phase (alone s.link) noise)
      ∙ ap (λ (t : Side). ends c s (record (quiet t) { side = t })) (ended_rests c.window (alone s.link) settled.said)
      ∙ still_ends c s (quiet (alone s.link)) refl

  abandon_tells : (e : Option Ending) → tells_link (entries_ended e ++ (follows c s (abandon_step lc s.link)).entries) ≡ true
  abandon_tells None = refl
  abandon_tells (Some ending) = refl

  by : (b : Bool) → (let step : Step = ends c s (if b then abandon_step lc s.link else take_step lc octets s.link) in tells_link step.entries ≡ false
      → step ≡ nothing_at s)
  by true told = absurd (true≢false (sym (abandon_tells (end_between s.link (abandon_step lc s.link).side.near)) ∙ told))
  by false told = taken_quietly

  pub noise_rests : tells_link (receives c s octets).entries ≡ false → receives c s octets ≡ nothing_at s
  noise_rests told = by (abandons c s) told

-- ---- what is pulled

-- a packet more is handed down: one waits, or isn't acknowledged
module _ (k : ℕ) (s t : LinkStation) (same : Lasts s t) (sound : is_up s.phase ≡ true → IsSound k s.outgoing)
    (more : length s.outgoing.given + 1 ≤ length t.outgoing.given) where
  not_idle : is_idle t ≡ true → ⊥
  not_idle is =
      let parts = and_parts (is_up t.phase) (waits t.outgoing == 0 && t.outgoing.acked == t.outgoing.sent) is in
      let counts = and_parts (waits t.outgoing == 0) (t.outgoing.acked == t.outgoing.sent) parts.1 in
      let none : waits t.outgoing ≡ 0 = eqb-true (waits t.outgoing) 0 counts.0 in
      let heard : t.outgoing.acked ≡ t.outgoing.sent = eqb-true t.outgoing.acked t.outgoing.sent counts.1 in
      let old : IsSound k s.outgoing = sound (ap is_up (sym same.phase) ∙ parts.0) in
      let low = old.place_low in
      let middle = old.place_high in
      let high = old.sent_high in
      let acked = same.acked in
      omega (arith, none, heard, low, middle, high, acked, more)

pub pulled_rests : (c : Settings) (s : Station) → IsSettled c s → is_at_rest (pulled c s).near ≡ true → (pulled c s).out ≡ []
pulled_rests c s h = by (is_up s.link.phase) s.layer.restarting
  where
    lc : LinkSettings
    lc = link_settings c

    view : LinkView
    view = view_of lc s.turn s.link

    full : Bool
    full = waits s.link.outgoing == 256

    entries : List StationEntry
    entries = entries_of_outcome (layer_settings c) s.layer PullsAll (layer_outcome (layer_settings c) full s.layer PullsAll)

    -- where a packet is put the link isn't at rest
    rests : (packets : List PlainPacket) → (let t : Side = all_put lc packets (alone s.link) in (is_idle t.near && not (timer_runs t.near.phase t.near)) ≡ true
        → t.out ≡ [])
    rests [] is = refl
    rests (p ∷ packets) is =
        let t : Side = with_near (alone s.link) (record s.link { outgoing = added (spelling_of p) s.link.outgoing }) in
        let u : Side = put_on lc p (alone s.link) in
        let v : LinkStation = (all_put lc packets u).near in
        let one : length (s.link.outgoing.given ++ spelling_of p ∷ []) ≡ length s.link.outgoing.given + 1 =
        length-append s.link.outgoing.given (spelling_of p ∷ []) in
        let first = (ended_lasts lc.window t).given in
        let then_rest = (all_put_lasts lc packets u).given in
        absurd (not_idle c.window s.link v (all_put_lasts lc (p ∷ packets) (alone s.link)) h.sound (omega (arith, one, first, then_rest))
        (and_parts (is_idle v) (not (timer_runs v.phase v)) is).0)

    by : (up busy : Bool)
        → (let step : Step = pulled_of s (did c (alone s.link) entries
        (if up then went view (layer_settings c) (outcome_in (layer_settings c) full busy s.layer.restarts s.layer.circuits PullsAll)
        else Refuses layer_error.NotUp)) in is_at_rest step.near ≡ true → step.out ≡ [])
    by false busy is = refl
    by true true is = refl
    by true false is =
        let begins : Putting = begin (is_ready s.layer.restarts s.layer.circuits) None in
        let n : Putting = rounds view (layer_settings c) begins in
        rests n.put is

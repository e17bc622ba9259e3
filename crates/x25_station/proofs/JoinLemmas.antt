-- Each step of a station is a step of its link joined with moves of its layer.
use Rattle.x25_station.proofs.Names.{Ending, end_between, ends, entries_ended, led_by}
use Rattle.x25_station.specs.laws.JoinLaw.{station_with}
use Rattle.x25_station.proofs.Names.{Station}
use Rattle.x25_station.proofs.Names.{◌≡◌, ℕ, ◌<◌, ◌≤◌, List, [], ◌∷◌, ◌++◌, Option, Some, None, Result, Ok, Bool, true, false, ◌==◌, if◌then◌else◌}
use Rattle.x25_station.proofs.Names.{option_to_list, refl, sym, ap, subst, ◌∙◌, arith, eq-eqb, append-nil, LayerOutcome, Accepted, Declined, layer_outcome}
use Rattle.x25_station.proofs.Names.{LayerSettings, Layer, LayerAnswer, LayerNotice, goes_up, layer_answers, answer_to, moves_all, pulls_of, AreChannels}
use Rattle.x25_station.proofs.Names.{CallsRun, LinkView, Putting, begin, rounds, Went, Refuses, went, calls, hears, TwoLayers, Move, requested, moves_in, moves}
use Rattle.x25_station.proofs.Names.{HandsUp, handed_up, LinkStep, alone, take_step, abandon_step, waits, LinkStation, Side, is_up, Notes, PutTells, TakeTells}
use Rattle.x25_station.proofs.Names.{TakeHandsUp, IsQuiet, PlainPacket, longest_user, read_in, PacketError, beside_in, may_ask, Settings, link_settings}
use Rattle.x25_station.proofs.Names.{layer_settings, named_by, StationEntry, bringing, entries_noted, station_asked, layer_entries, layer_notices, view_of}
use Rattle.x25_station.proofs.Names.{Step, Outcome, Did, Refused, with_puts, layer_at, entries_heard, entries_of_packet, entries_of_outcome, layer_answer}
use Rattle.x25_layer.specs.laws.{RoundLaw.{IsRun, HearsRun, ComesUpAlone}, Transcript.{Entry}, TwoLayers.{Requests, answered}}
use Rattle.x25_station.proofs.{EntryLemmas.{told_entries, told_notices, behind_entries, behind_notices, asked_entries, asked_notices}, MayLemmas.{asked_did}}
use Rattle.x25_station.proofs.{Names.{confirmed_by, follows, did, requests_of, StationError, AreAccepted}, PutLemmas.{accepts, rounds_accepted, begin_accepted}}
use Rattle.x25_station.proofs.RequestLemmas.{has_room}
use Rattle.x25_station.specs.laws.JoinLaw.{IsJoined, RequestIsJoined, ReceiveIsJoined, QuietIsJoined, DownIsJoined, ComesUp, UpIsJoined}
use Rattle.x25_layer.specs.declared.error.LayerError.TheVariants as layer_error
use Rattle.x25_station.specs.declared.error.StationError.TheVariants as error

-- a run of the layer's moves, and the link's acceptance of what it puts
joined : (c : Settings) (w : TwoLayers) (moved : List Move) (first : TwoLayers) (t : Side) (back : List PlainPacket) (s : Putting) (entries : List StationEntry)
    → IsRun (layer_settings c) w moved first s back → AreAccepted (link_settings c) s.put t
    → first.near.entries ≡ w.near.entries ++ layer_entries entries → first.near.told ≡ w.near.told ++ layer_notices entries
    → IsJoined c w (moves_all (layer_settings c) w moved) t back (with_puts c t s entries)
joined c w moved first t back s entries r accepted entered told = record {
  packets = s.put;
  link = record { accepted = accepted; link = refl; out = refl };
  layer = record { layer = r.layer; given = r.given; out = r.out; entries = r.entries ∙ entered; told = r.told ∙ told; up = r.up; far = r.far };
  back = r.back;
}

-- ---- commands to the layer

abbrev step_in : Step → Outcome → Step
step_in k (Did step) = step
step_in k (Refused e) = k

did_is : (a b : Step) → Did a ≡ Did b → a ≡ b
did_is a b e = ap (λ (o : Outcome). step_in a o) e

refused_did : (e : StationError) (step : Step) → Refused e ≡ Did step → ⊥
refused_did e step is = subst (λ (o : Outcome). elim o as (λ _. Type 0) [ Did x ↦ ⊥ | Refused y ↦ Unit {0} ]) is tt

below : (n : ℕ) → n ≤ 256 → (n == 256) ≡ false → n < 256
below n low not = differ (n == 256) refl
  where
    true_false : true ≡ false → ⊥
    true_false e = cc

    differ : (b : Bool) → (n == 256) ≡ b → n < 256
    differ b is = omega (arith, low, (λ (e : n ≡ 256). true_false (sym (eq-eqb n 256 e) ∙ not)))

pub request_joined : CallsRun → PutTells → RequestIsJoined
request_joined runs tells c link w turn request step up few is =
    at (is_up link.phase) refl (layer_outcome lc full w.near.layer request) refl
    (asked_did (may_ask c.wide request) (requests_of c link w.near.layer view request) step is).1
  where
    lc : LayerSettings
    lc = layer_settings c

    full : Bool
    full = waits link.outgoing == 256

    view : LinkView
    view = view_of (link_settings c) turn link

    move : Move
    move = Requests full request

    Goal : Step → Type 0
    Goal k = (pulled : List ℕ) × AreChannels c.channels pulled × IsJoined c w (moves_all lc w (move ∷ pulls_of pulled)) (alone link) w.back k

    owed_accepted : (next : Layer) (packet : Option PlainPacket) → is_up link.phase ≡ true → layer_outcome lc full w.near.layer request ≡ Accepted next packet
        → AreAccepted (link_settings c) (option_to_list packet) (alone link)
    owed_accepted next None up_link found = tt
    owed_accepted next (Some p) up_link found = begin_accepted (link_settings c) (alone link) (Some p) up_link
        (below (waits link.outgoing) few (has_room lc full w.near.layer request next p found))

    went_with : (next : Layer) (packet : Option PlainPacket) → is_up link.phase ≡ true → layer_outcome lc full w.near.layer request ≡ Accepted next packet
        → Goal (with_puts c (alone link) (rounds view lc (begin next packet)) (station_asked lc w.near.layer next request))
    went_with next packet up_link found =
        let s : Putting = rounds view lc (begin next packet) in
        let all : moves lc w move ≡ requested lc w request (Accepted next packet) =
        ap (λ (o : Bool). moves_in lc w o move) up ∙ ap (λ (o : LayerOutcome). requested lc w request o) found in
        let called : calls view lc w.near.layer request ≡ Went s =
        ap (λ (b : Bool). if b then went view lc (layer_outcome lc full w.near.layer request) else Refuses layer_error.NotUp) up_link
        ∙ ap (λ (o : LayerOutcome). went view lc o) found in
        let r = runs view lc w request s up called in (
          r.0,
          r.1,
          joined c w (move ∷ pulls_of r.0) (moves lc w move) (alone link) w.back s (station_asked lc w.near.layer next request) r.2
              (rounds_accepted tells turn (link_settings c) (alone link) lc (begin next packet) up_link (owed_accepted next packet up_link found))
              (ap (λ (x : TwoLayers). x.near.entries) all ∙ ap (λ (es : List Entry). w.near.entries ++ es) (sym (asked_entries lc w.near.layer next request)))
              (ap (λ (x : TwoLayers). x.near.told) all ∙ sym (append-nil w.near.told)
              ∙ ap (λ (ns : List LayerNotice). w.near.told ++ ns) (sym (asked_notices lc w.near.layer next request))),
        )

    at : (b : Bool) → is_up link.phase ≡ b → (o : LayerOutcome) → layer_outcome lc full w.near.layer request ≡ o
        → did c (alone link) (entries_of_outcome lc w.near.layer request o) (if b then went view lc o else Refuses layer_error.NotUp) ≡ Did step → Goal step
    at false up_link o found answer = absurd (refused_did (error.Layer layer_error.NotUp) step answer)
    at true up_link (Declined e) found answer = absurd (refused_did (error.Layer e) step answer)
    at true up_link (Accepted next packet) found answer =
        subst (λ (k : Step). Goal k) (did_is (with_puts c (alone link) (rounds view lc (begin next packet)) (station_asked lc w.near.layer next request)) step
        answer) (went_with next packet up_link found)

-- ---- steps of the link

pub quiet_joined : QuietIsJoined
quiet_joined c l k none quiet =
    ap (λ (o : Option (List ℕ)). follows c l (record { side = k.side; packet = o; notes = k.notes })) none
    ∙ ap (λ (n : Notes). follows c l (record { side = k.side; packet = None; notes = n })) quiet

pub down_joined : DownIsJoined
down_joined c l k reason is = ap (λ (n : Notes). follows c l (record { side = k.side; packet = k.packet; notes = n })) is

follows_heard : (c : Settings) (l : Station) (k : LinkStep) (octets : List ℕ) → k.packet ≡ Some octets → IsQuiet k
    → follows c l k ≡ with_puts c k.side (hears (view_of (link_settings c) l.turn k.side.near) (layer_settings c) c.wide l.layer octets).step
    (entries_of_packet (layer_settings c) c.wide l.layer octets)
follows_heard c l k octets some quiet =
    ap (λ (o : Option (List ℕ)). follows c l (record { side = k.side; packet = o; notes = k.notes })) some
    ∙ ap (λ (n : Notes). follows c l (record { side = k.side; packet = Some octets; notes = n })) quiet

heard_joined : HearsRun → PutTells → (c : Settings) (w : TwoLayers) (link : LinkStation) (turn : ℕ) (k : LinkStep) (octets : List ℕ) (packet : PlainPacket) (back : List PlainPacket)
    → w.near.is_out ≡ false → w.back ≡ packet ∷ back
    → k.packet ≡ Some octets → IsQuiet k → is_up k.side.near.phase ≡ true → waits k.side.near.outgoing < 256 → read_in c.wide (longest_user c.long_data) octets
    ≡ Ok packet
    → (pulled : List ℕ) × AreChannels c.channels pulled
    × IsJoined c w (moves_all (layer_settings c) w (HandsUp ∷ pulls_of pulled)) k.side back (follows c (station_with link w.near.layer turn) k)
heard_joined runs tells c w link turn k octets packet back up front some quiet up_link low read =
    subst (λ (step : Step). Goal step) (sym (follows_heard c (station_with link w.near.layer turn) k octets some quiet)) (
      r.0,
      r.1,
      joined c w (HandsUp ∷ pulls_of r.0) (moves lc w HandsUp) k.side back (hears view lc c.wide w.near.layer octets).step
          (entries_of_packet lc c.wide w.near.layer octets) r.2
          (rounds_accepted tells turn (link_settings c) k.side lc (begin a.next a.owed) up_link (begin_accepted (link_settings c) k.side a.owed up_link low))
          (ap (λ (x : TwoLayers). x.near.entries) all
          ∙ ap (λ (es : List Entry). w.near.entries ++ es)
          (sym (told_entries a.next a.notices _ (behind_entries a.next (named_by octets) count (beside_in c.wide octets) (bringing a.notices)))))
          (ap (λ (x : TwoLayers). x.near.told) all
          ∙ ap (λ (ns : List LayerNotice). w.near.told ++ ns)
          (sym (told_notices a.next a.notices _ (behind_notices a.next (named_by octets) count (beside_in c.wide octets) (bringing a.notices))))),
    )
  where
    lc : LayerSettings
    lc = layer_settings c

    view : LinkView
    view = view_of (link_settings c) turn k.side.near

    a : LayerAnswer
    a = layer_answer lc c.wide w.near.layer octets

    count : ℕ
    count = confirmed_by lc c.wide w.near.layer a.next (named_by octets)

    Goal : Step → Type 0
    Goal step = (pulled : List ℕ) × AreChannels c.channels pulled × IsJoined c w (moves_all lc w (HandsUp ∷ pulls_of pulled)) k.side back step

    same : a ≡ layer_answers lc w.near.layer packet
    same = ap (λ (read : Result PlainPacket PacketError). answer_to lc w.near.layer octets read) read

    all : moves lc w HandsUp ≡ answered w packet back a
    all = ap (λ (o : Bool). moves_in lc w o HandsUp) up ∙ ap (λ (l : List PlainPacket). handed_up lc w l) front
        ∙ ap (λ (x : LayerAnswer). answered w packet back x) (sym same)

    r : (pulled : List ℕ) × AreChannels c.channels pulled
        × IsRun lc w (HandsUp ∷ pulls_of pulled) (moves lc w HandsUp) (hears view lc c.wide w.near.layer octets).step back
    r = runs view lc c.wide w packet back octets up front read

-- and how a DISC ended is told before it
end_joined : {c : Settings} {w v : TwoLayers} {t : Side} {behind : List PlainPacket} {step : Step} (e : Option Ending) → IsJoined c w v t behind step
    → IsJoined c w v t behind (led_by (entries_ended e) step)
end_joined None h = h
end_joined (Some ending) h = record {
  packets = h.packets;
  link = record { accepted = h.link.accepted; link = h.link.link; out = h.link.out };
  layer = record {
    layer = h.layer.layer;
    given = h.layer.given;
    out = h.layer.out;
    entries = h.layer.entries;
    told = h.layer.told;
    up = h.layer.up;
    far = h.layer.far;
  };
  back = h.back;
}

pub receive_joined : HearsRun → PutTells → TakeTells → TakeHandsUp → ReceiveIsJoined
receive_joined runs tells takes hands c link w turn octets packet_octets packet back up front none some reads =
    subst (λ (b : Bool). Goal (if b then abandon_step (link_settings c) link else k)) (sym none)
    (let h = heard_joined runs tells c w link turn k packet_octets packet back up front some quiet up_after
    (omega (arith, (hands (link_settings c) octets link).few_after packet_octets some)) reads in
    (h.0, h.1, end_joined (end_between link k.side.near) h.2))
  where
    k : LinkStep
    k = take_step (link_settings c) octets link

    quiet : IsQuiet k
    quiet = (hands (link_settings c) octets link).quiet packet_octets some

    up_after : is_up k.side.near.phase ≡ true
    up_after = (takes (link_settings c) octets link).stays quiet ∙ ap is_up ((hands (link_settings c) octets link).up packet_octets some)

    Goal : LinkStep → Type 0
    Goal x = (pulled : List ℕ) × AreChannels c.channels pulled
        × IsJoined c w (moves_all (layer_settings c) w (HandsUp ∷ pulls_of pulled)) k.side back (ends c (station_with link w.near.layer turn) x)

-- ---- LinkUp

pub up_joined : ComesUpAlone → UpIsJoined
up_joined alone_put c l k up is = subst (λ (step : Step). ComesUp c k step) (sym whole) (record {
  link = record {
    accepted = (
      accepts k.side.near (ap (λ (s : LinkStation). is_up s.phase) is)
          (subst (λ (s : LinkStation). waits s.outgoing < 256) (sym is) (omega arith)),
      tt,
    );
    link = refl;
    out = refl;
  };
  layer = refl;
  entries = refl;
})
  where
    lc : LayerSettings
    lc = layer_settings c

    view : LinkView
    view = view_of (link_settings c) l.turn k.side.near

    whole : follows c l k ≡ with_puts c k.side (begin (goes_up lc).next (goes_up lc).owed) (entries_noted k.notes)
    whole =
        ap (λ (b : Bool). with_puts c k.side (layer_at view lc c.wide l.layer k.packet k.notes.down b)
        (entries_noted k.notes ++ entries_heard lc c.wide l.layer k.packet k.notes.down b)) up
        ∙ ap (λ (s : Putting). with_puts c k.side s (entries_noted k.notes ++ [])) (alone_put view lc)
        ∙ ap (λ (es : List StationEntry). with_puts c k.side (begin (goes_up lc).next (goes_up lc).owed) es) (append-nil (entries_noted k.notes))

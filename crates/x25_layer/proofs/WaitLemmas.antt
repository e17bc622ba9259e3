-- Where nothing is in flight and a pull gives nothing, what waits waits for the other end's user.
use Rattle.x25_layer.proofs.Names.{◌≡◌, ◌⊎◌, inl, inr, ℕ, ◌+◌, ◌%◌, ◌≤◌, List, [], ◌∷◌, ◌++◌, length, Option, Some, None, Bool, true, false, nat_lt, ◌&&◌, refl, sym}
use Rattle.x25_layer.proofs.Names.{if◌then◌else◌, ap, subst, ◌∙◌, length-append, arith, Role, PlainPacket, Piece, wholes, Circuit, CircuitSettings, State}
use Rattle.x25_layer.proofs.Names.{Open, is_open, outgoing, waits, Pulled, pulled, pull_in, pull_open, pulls_nothing, data_packet, Side, Live, Left, has_left, At}
use Rattle.x25_layer.proofs.Names.{Ranges, LayerSettings, Layer, is_channel, packet_on, layer_pulled, bare_layers, name_of, End, TwoLayers, settings_of}
use Rattle.x25_layer.proofs.Names.{run, start, Always, HasAllOf, ClosedKeepNone, NoneOpenInRestart, WaitForUsersAlone}
use Rattle.std.proofs.lemmas.Bool.{lt-ltb, true≢false}
use Rattle.x25_circuit.specs.Circuit.{is_open_in, talking}
use Rattle.x25_handshakes.proofs.{ChannelRelation.{IsCalled}, Meetings.{both_open, rest_open}, PartLemmas.{Line-le}}
use Rattle.x25_handshakes.specs.laws.{PeerLayer.{PeerChannels}}
use Rattle.x25_layer.proofs.{EndLemmas.{StandsAt, Stands}, Ends.{ShowsAt, Known}, LawLemmas.{has_all}}
use Rattle.x25_layer.proofs.OrderLemmas.{closed_end, name_shown, open_here, is_shown, out_shut}
use Rattle.x25_layer.proofs.{RunLemmas.{EndsRelated, Run, run_turned, in_run}, StepLemmas.{name_eq}}
use Rattle.x25_layer.specs.laws.{PeerClaims.{peer_stretch, peer_name}, WaitLaw.{PullsNone, IsOpenAtBoth, WaitsForUser, NotOpen, Arrived, NotReady}}

-- ---- a circuit that isn't open keeps nothing, and none is open in a restart

pub always_closed : Known → (long_data : Bool) (channels : Ranges) → Always ClosedKeepNone long_data channels
always_closed known long_data channels es =
    let w : TwoLayers = run long_data channels es (start long_data channels) in
    let h = in_run known long_data channels es in
    record {
      near = λ k closed. closed_end channels.message w.near h.near h.rest k h.stands.at closed;
      far = λ k closed. closed_end channels.message w.far h.far h.away k h.there.at closed;
    }

restarting_end : (most : ℕ) (e : End) (s : Side (At PeerChannels)) (rest : ℕ → List Piece) → StandsAt most e s rest → e.layer.restarting ≡ true → (k : ℕ)
    → is_open (e.layer.circuits k) ≡ false
restarting_end most e (Left y) rest at restarts k = absurd (true≢false (sym restarts ∙ ap (λ (l : Layer). l.restarting) at.1))
restarting_end most e (Live y) rest at restarts k = by y.side at.1.restarting (at.1.circuits k)
  where
    by : (side : Side PeerChannels) → e.layer.restarting ≡ has_left side → ShowsAt most side rest k (e.layer.circuits k) → is_open (e.layer.circuits k) ≡ false
    by (Left x) same shows = ap is_open shows
    by (Live x) same shows = absurd (true≢false (sym restarts ∙ same))

pub always_shut : Known → (long_data : Bool) (channels : Ranges) → Always NoneOpenInRestart long_data channels
always_shut known long_data channels es =
    let w : TwoLayers = run long_data channels es (start long_data channels) in
    let h = in_run known long_data channels es in
    record {
      near = restarting_end channels.message w.near h.near h.rest h.stands.at;
      far = restarting_end channels.message w.far h.far h.away h.there.at;
    }

-- ---- where all that was sent is acknowledged, a pull that gives none has none to give, or the other end isn't ready

none_on : (h : ℕ) (o : Option PlainPacket) → packet_on h o ≡ None → o ≡ None
none_on h None is = refl
none_on h (Some p) is = absurd (cc)

some_none : (p : PlainPacket) → Some p ≡ None → ⊥
some_none p is = cc

module _ (c : CircuitSettings) (x : Circuit) (window : 1 ≤ (outgoing x).window) (acked : x.talk.acked ≡ length x.talk.sent) where
  room : nat_lt (length x.talk.sent) (x.talk.acked + (outgoing x).window) ≡ true
  room = lt-ltb (length x.talk.sent) (x.talk.acked + (outgoing x).window) (omega (arith, window, acked))

  by_rest : (rest : List Piece) → (pull_open c x x.talk rest).packet ≡ None → (rest ≡ []) ⊎ (x.talk.peer_ready ≡ false)
  by_rest [] none = inl refl
  by_rest (p ∷ ps) none = ready x.talk.peer_ready refl none
    where
      next : Pulled
      next = record {
        next = talking x (record {
          sent = x.talk.sent
              ++ p ∷ [];
          taken = x.talk.taken;
          acked = x.talk.acked;
          rest = ps;
          int_out = x.talk.int_out;
          peer_ready = x.talk.peer_ready;
          own_ready = x.talk.own_ready;
        });
        packet = Some (data_packet (length x.talk.sent % 8) (length x.talk.taken % 8) p);
      }

      ready : (b : Bool) → x.talk.peer_ready ≡ b
          → (let r : Pulled = if b && nat_lt (length x.talk.sent) (x.talk.acked + (outgoing x).window) then next else pulls_nothing x in r.packet) ≡ None
          → (p ∷ ps ≡ []) ⊎ (x.talk.peer_ready ≡ false)
      ready true is none = absurd (some_none (data_packet (length x.talk.sent % 8) (length x.talk.taken % 8) p)
          (subst (λ (b : Bool). (let r : Pulled = if b then next else pulls_nothing x in r.packet) ≡ None) room none))
      ready false is none = inr is

  held_back : is_open x ≡ true → (pulled c x).packet ≡ None → (x.talk.rest ≡ []) ⊎ (x.talk.peer_ready ≡ false)
  held_back is none = by x.state is none
    where
      by : (s : State) → is_open_in s ≡ true → (pull_in c x s).packet ≡ None → (x.talk.rest ≡ []) ⊎ (x.talk.peer_ready ≡ false)
      by Open is none = by_rest x.talk.rest none
      by s is none = absurd (true≢false (sym is))

-- where nothing is in flight all that was given was taken
all_given : (given taken out : List PlainPacket) → given ≡ taken ++ out → out ≡ [] → length given ≤ length taken
all_given given taken out order none =
    let l : length given ≡ length taken + length out = ap length order ∙ length-append taken out in
    let z : length out ≡ 0 = ap length none in
    omega (arith, l, z)

-- ---- the law of one end

waits_for : (r : Role) (c : LayerSettings) (e f : End) (s u : Side (At PeerChannels)) (rest away : ℕ → List Piece) (k : ℕ) → Stands c.channels e s rest
    → Stands c.channels f u away → EndsRelated r s [] [] u → f.is_out ≡ false → (layer_pulled c e.layer k).packet ≡ None → WaitsForUser k e f
waits_for r c e f s u rest away k h there related up none = by (is_open (e.layer.circuits k)) refl
  where
    most : ℕ
    most = c.channels.message

    open_end : (s u : Side (At PeerChannels)) → Stands c.channels e s rest → Stands c.channels f u away → EndsRelated r s [] [] u
        → is_open (e.layer.circuits k) ≡ true → WaitsForUser k e f
    open_end (Left y) u h there related opened = absurd (out_shut e.layer k h.at.1 opened)
    open_end (Live y) (Left z) h there related opened = absurd (true≢false (sym there.at.0 ∙ up))
    open_end (Live y) (Live z) h there related opened =
        let o = open_here most e.layer y rest k h.at.1 opened in
        let at = rest_open IsCalled IsCalled r k y z related o.there in
        let p = is_shown most f.layer z away k there.at.1 at in
        let m = both_open IsCalled IsCalled r k y [] z related o.there at in
        let kept = m.stretch.kept.there in
        let told = p.told in
        let talk = o.shown.talk in
        let acked : (peer_stretch y k).acked ≡ length (peer_stretch y k).sent = omega (arith, Line-le kept.line, kept.acks.acks, told) in
        let both : IsOpenAtBoth k e f = record {
          opened = opened;
          opened_there = p.opened;
          same_name = name_shown most e.layer y rest k h.at.1 ∙ name_eq (peer_name y k) (peer_name z k) m.restarts m.clears m.stretch.epochs
              ∙ sym (name_shown most f.layer z away k there.at.1);
        } in
        held both (λ waits. has_all r c.channels e f (Live y) (Live z) rest away k [] h there related opened p.opened waits)
        (held_back c.circuit (e.layer.circuits k) o.shown.window (ap (λ (t : _). t.acked) talk ∙ acked ∙ sym (ap (λ (t : _). length t.sent) talk)) opened
        (none_on k (pulled c.circuit (e.layer.circuits k)).packet none))
        (p.ready ∙ sym kept.ready ∙ sym (ap (λ (t : _). t.peer_ready) talk))
      where
        held : IsOpenAtBoth k e f → (waits (e.layer.circuits k) ≡ 0 → HasAllOf k (name_of e.layer k) e.entries f.entries)
            → ((e.layer.circuits k).talk.rest ≡ []) ⊎ ((e.layer.circuits k).talk.peer_ready ≡ false)
            → (f.layer.circuits k).talk.own_ready ≡ (e.layer.circuits k).talk.peer_ready → WaitsForUser k e f
        held both all (inl empty) same = (let nothing : waits (e.layer.circuits k) ≡ 0 = ap wholes empty in Arrived both nothing (all nothing))
        held both all (inr not) same = NotReady both (same ∙ not)

    by : (b : Bool) → is_open (e.layer.circuits k) ≡ b → WaitsForUser k e f
    by false closed = NotOpen closed (closed_end most e s rest k h.at closed)
    by true opened = open_end s u h there related opened

waiting : {r : Role} {channels : Ranges} {w : TwoLayers} → (long_data : Bool) → Run r channels w → w.out ≡ [] → w.back ≡ [] → w.far.is_out ≡ false
    → PullsNone (settings_of r long_data channels) w.near.layer → (k : ℕ) → is_channel channels k ≡ true → WaitsForUser k w.near w.far
waiting {r} {channels} {w} long_data h out back up none k is =
    waits_for r (settings_of r long_data channels) w.near w.far h.near h.far h.rest h.away k h.stands h.there
    (subst (λ l. EndsRelated r h.near [] l h.far) (ap (bare_layers channels.message) back)
    (subst (λ l. EndsRelated r h.near l (bare_layers channels.message w.back) h.far) (ap (bare_layers channels.message) out) h.related))
    up (none k is)

pub always_waits : Known → (long_data : Bool) (channels : Ranges) → Always (WaitForUsersAlone long_data channels) long_data channels
always_waits known long_data channels es =
    let h = in_run known long_data channels es in
    record {
      near = λ drained none k is. waiting long_data h drained.out drained.back drained.far_up none k is;
      far = λ drained none k is. waiting long_data (run_turned h) drained.back drained.out drained.near_up none k is;
    }

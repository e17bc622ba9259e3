-- Each of two stations over sessions is a peer of the other, after each list of events.
use Rattle.x25_line.proofs.Names.{◌≡◌, ℕ, suc, List, [], ◌∷◌, ◌++◌, inl, inr, length, map, true, false, Ok, refl, sym, ap, ◌∙◌, subst, arith, nat_le}
use Rattle.x25_line.proofs.Names.{PlainFrame, sabm, disc, ua, dm, frmr, frame_of, ReadsSpelled, Phase, Down, Waiting, Up, Closed, other, LinkSettings}
use Rattle.x25_line.proofs.Names.{LinkStation, put_refusal, alone, Act, Put, Deliver, T1, Connect, Lose, Damage, LinkEvent, Near, Far, is_visible, AreJoined}
use Rattle.x25_line.proofs.Names.{said, sabm_of, how_many, Entry, SessionEnd, Meeting, Sessions, turned, swapped, letters, begun_by, after_step, delivered}
use Rattle.x25_line.proofs.Names.{acts, happens, run, IsStart, from_nothing, from_set_up, IsTimely, IsTimelyAt, AreTimely, Throughout, SessionLaws, Peer}
use Rattle.x25_line.proofs.Names.{fresh_peer, PeerEnd, PeerSessions, both_ends, with_peer, stand_of, IsSeenIn, Puts, ReachedInSessions, Letter, letter, AreOf}
use Rattle.x25_line.proofs.Names.{Ends, Does, listens, moves, free, asks, closes, leaves, takes_ua, takes_sabm, waits_on, takes_disc, loses, gone, Less}
use Rattle.x25_line.proofs.{Choices.{unless_both, if_both, own_both}, Losses.{untouched}}
use Rattle.x25_line.proofs.{StationRuns.{joined_swapped, there, here}, ends.Lines.{are_less}, ends.Meetings.{twice_turned}}
use Rattle.x25_line.proofs.sessions.{Acts.{Stays, Anything, acts_still}, Letters.{heard_said, letters_push, letters_less, puts_frame}}
use Rattle.x25_line.proofs.sessions.{PeerSessionRuns.{owes_is}, SessionHeld.{OwesOn}, SessionLines.{Read}}
use Rattle.x25_line.proofs.sessions.{SessionMay.{sends_read, hears_read, entry, heard_in, MayAsk, MayDo, Kind}, SessionSeen.{Seen, start_seen}}
use Rattle.x25_line.{proofs.sessions.SessionWith.{tells_does}, specs.laws.Ends.{hears}, specs.laws.PeerSessions.{nothing, HandsDown, Theirs, goes_on}}
use Rattle.x25_line.specs.laws.SessionPeers.{IsPeer, AreBothPeers}
use Rattle.x25_link.specs.Link.{hears as takes}
use Rattle.x25_line.specs.laws.PeerSessions as sessions
use Rattle.x25_line.specs.laws.Ends as ends
use Rattle.x25_line.proofs.sessions.SessionSeenSteps as own

-- ---- a station is known as a peer

-- the near end, with settings d, as a peer of the far end, with settings c
module _ {c d : LinkSettings} (joined : AreJoined c d) (far : SessionEnd) where
  abbrev at : List Entry → List Meeting → PeerEnd → List Entry → PeerSessions
  at es met p out = record { near = far; peer = p; out = es; back = out; met = map turned met }

  abbrev pub end : Phase → ℕ → (ℕ → Peer) → PeerEnd
  end p b all = record { stand = stand_of p; begun = b; of_session = all }

  abbrev pub IsPeerOf : List Entry → List Meeting → Phase → ℕ → (ℕ → Peer) → List Entry → Type 0
  IsPeerOf es met p b all out = ReachedInSessions ⊥ c (at es met (end p b all) out)

  sent_there : (es : List Entry) → letters d.role d.longest es ≡ letters (other c.role) c.longest es
  sent_there es = ap (λ r. letters r d.longest es) (sym joined.far_role) ∙ ap (λ n1. letters (other c.role) n1 es) (sym joined.longest)

  heard_there : (es : List Entry) → letters (other d.role) d.longest es ≡ letters c.role c.longest es
  heard_there es = ap (λ r. letters r d.longest es) joined.near_role ∙ ap (λ n1. letters c.role n1 es) (sym joined.longest)

  abbrev ins : List Entry → List Letter
  ins es = letters c.role c.longest es

  abbrev outs : List Entry → List Letter
  outs es = letters (other c.role) c.longest es

  -- who meets whom, as it hears the front
  same_met : (p : Phase) (b : ℕ) (e : Entry) (met : List Meeting) → heard_in d p b e met
      ≡ ends.heard (stand_of p) b (letter e.session (said (frame_of c.role c.longest e.octets))) met
  same_met p b e met = heard_said p b e.session (hears_read d e.octets) met
      ∙ ap (λ r. ends.heard (stand_of p) b (letter e.session (said r)) met) (here joined e.octets)

  front : (e : Entry) (es : List Entry) (r : Read) → hears_read d e.octets ≡ r → ins (e ∷ es) ≡ letter e.session (said r) ∷ ins es
  front e es r read = ap (λ x. letter e.session (said x) ∷ ins es) (sym (here joined e.octets) ∙ read)

  abbrev view : List Letter → List Meeting → Phase → ℕ → (ℕ → Peer) → List Letter → Ends
  view back met p b all out = record {
    two = record {
      near = record { stand = stand_of p; begun = b };
      far = record { stand = stand_of far.station.phase; begun = far.begun };
      out = out;
      back = back;
      met = met;
    };
    near_of = all;
    far_of = λ n. fresh_peer;
  }

  module _ (es fs : List Entry) {met now : List Meeting} (p q : Phase) {b m : ℕ} {all those : ℕ → Peer} (out : List Entry) where
    goes : {more : List Entry} (from : List Letter) → Less IsSeenIn es fs → Puts ⊥ c out more → outs more ≡ from
        → (AreOf far.begun (ins es) → Does (view (ins es) met p b all (outs out)) (view (ins fs) now q m those from))
        → IsPeerOf es met p b all out → IsPeerOf fs now q m those more
    goes {more} from less puts there does h = goes_on _ _ h (Theirs (at fs now (end q m those) more) (record {
      does = λ crossing. rw (twice_turned met, twice_turned now, there) (does crossing);
      left = less;
      puts = puts;
    }))

    -- it puts a frame on the line
    sent : (n : ℕ) (octets : List ℕ) (f : PlainFrame) → sends_read d octets ≡ Ok f → Less IsSeenIn es fs
        → (AreOf far.begun (ins es) → Does (view (ins es) met p b all (outs out)) (view (ins fs) now q m those (outs out ++ letter n (said (Ok f)) ∷ [])))
        → IsPeerOf es met p b all out → IsPeerOf fs now q m those (out ++ entry n octets ∷ [])
    sent n octets f read less does h =
        let is = sym (there joined octets) ∙ read in
        goes (outs out ++ letter n (said (Ok f)) ∷ []) less (puts_frame n octets f is)
        (letters_push (other c.role) c.longest out n octets (Ok f) is) does h

    -- or none
    stays : Less IsSeenIn es fs → (AreOf far.begun (ins es) → Does (view (ins es) met p b all (outs out)) (view (ins fs) now q m those (outs out)))
        → IsPeerOf es met p b all out → IsPeerOf fs now q m those out
    stays less does h = goes (outs out) less nothing refl does h

  passes : (e : Entry) (es : List Entry) (met : List Meeting) (p : Phase) (b : ℕ) (all : ℕ → Peer) (out : List Entry) → IsPeerOf (e ∷ es) met p b all out
      → IsPeerOf es (heard_in d p b e met) p b all out
  passes e es met p b all out h = stays (e ∷ es) es p p out (0, gone e es) (λ crossing. rw (same_met p b e met) (moves _ (hears _ (ins es) refl))) h

  leaves_now : {es : List Entry} (met : List Meeting) (p : Phase) {b : ℕ} {all : ℕ → Peer} {out : List Entry} → IsPeerOf es met p b all out
      → IsPeerOf es met Down b all out
  leaves_now {es} met p {out = out} h = stays es es p Down out (_, untouched es) (λ crossing. moves _ leaves) h

  pub peer_may : MayDo d (λ p es. MayAsk p (Unit {0})) IsPeerOf
  peer_may = record {
    handed = λ es met b all out packet h. goes_on _ _ h (HandsDown packet refl);
    tells = λ es met b all out octets f q read number may h. sent es es Up Up out b octets f read (_, untouched es)
        (λ crossing. tells_does (view (ins es) met Up b all (outs out)) f q refl number may) h;
    declines = λ es met p b all out octets f read h. sent es es p p out b octets (dm f) read (_, untouched es) (λ crossing. moves _ free) h;
    asks = λ es met p b all out octets pf read due clear h.
        (sent es es p Waiting out b octets (sabm pf) read (_, untouched es) (λ crossing. moves _ (asks (record {
          sabm = rw (sym (sent_there out)) clear.sabm;
          disc = rw (sym (sent_there out)) clear.disc;
          ua = rw (sym (heard_there es)) clear.ua;
          crossing = crossing;
        }))) h);
    closes = λ es met p b all out octets pf read h. sent es es p Closed out b octets (disc pf) read (_, untouched es) (λ crossing. moves _ closes) h;
    leaves = λ es met b all out h. leaves_now met Up h;
    gives_up = λ es met b all out due clear h. leaves_now met Waiting h;
    passes = passes;
    hears = λ e es met b all out q may h.
        stays (e ∷ es) es Up Up out (0, gone e es)
        (λ crossing. rw (same_met Up b e met) (listens _ (ins es) q refl refl (rw (sym (here joined e.octets)) may))) h;
    takes_ua = λ e es met b all out read h. stays (e ∷ es) es Waiting Up out (0, gone e es)
        (λ crossing. moves _ (takes_ua e.session (ins es) (front e es (Ok (ua true)) read) refl)) h;
    takes_sabm = λ e es met p b all out octets pf f read answer part h.
        sent (e ∷ es) es p Up out (suc b) octets (ua f) answer (0, gone e es)
        (λ crossing. moves _ (takes_sabm e.session (ins es) (front e es (Ok (sabm pf)) read))) h;
    waits_on = λ e es met b all out octets pf f read answer h.
        sent (e ∷ es) es Waiting Waiting out b octets (ua f) answer (0, gone e es)
        (λ crossing. moves _ (waits_on e.session (ins es) (front e es (Ok (sabm pf)) read) refl)) h;
    takes_disc = λ e es met b all out octets pf f read answer h.
        leaves_now met Up
        (sent (e ∷ es) es Up Up out b octets (ua f) answer (0, gone e es) (λ crossing. moves _ (takes_disc e.session (ins es) (front e es (Ok (disc pf)) read)))
        h);
    faults = λ e es met b all out octets f why ending read h.
        sent es es Down Down out b octets (frmr f why) read (_, untouched es) (λ crossing. moves _ free)
        (leaves_now (heard_in d Up b e met) Up (passes e es met Up b all out h));
    loses = λ {i} met p b all out l h. stays _ _ p p out (i, l) (λ crossing. moves _ (loses i _ (letters_less c.role c.longest l))) h;
  }

-- ---- what the other end does

-- an act looks at nothing of the other end
abbrev SameBut : PeerEnd → Sessions → Sessions → Type 0
SameBut p w v = with_peer p w ≡ with_peer p v

alike_delivered : (c : LinkSettings) (p : PeerEnd) (w : Sessions) (es : List Entry) → with_peer p (delivered c es w)
    ≡ with_peer p (delivered c es (both_ends (with_peer p w)))
alike_delivered c p w [] = refl
alike_delivered c p w (e ∷ es) = refl

-- an act of the station does the same beside a peer and beside that peer's numbers alone
pub alike : (c : LinkSettings) (p : PeerEnd) (a : Act) (w : Sessions) → with_peer p (acts c a w) ≡ with_peer p (acts c a (both_ends (with_peer p w)))
alike c p (Put packet) w = if_both (SameBut p) (nat_le (length packet) c.longest) refl (unless_both (SameBut p) (put_refusal w.near.station) refl refl)
alike c p Deliver w = alike_delivered c p w w.back
alike c p (Lose i) w = refl
alike c p (Damage i octets) w = if_both (SameBut p) (is_visible octets) refl refl
alike c p act w = (let x = both_ends (with_peer p w) in
    own_both (SameBut p) c w.near.station w x (after_step c w w.back w.met []) (after_step c x w.back w.met []) refl (λ step. refl) act)

-- a station, with settings d, as a peer of the other end of these sessions
abbrev pub SeenAt : (c d : LinkSettings) → AreJoined c d → Sessions → Type 0
SeenAt c d joined w = Seen d (IsPeerOf joined w.far) w

module _ (c d : LinkSettings) (joined : AreJoined c d) (reads : ReadsSpelled) (rests : SessionLaws) where
  abbrev S : Sessions → Type 0
  S w = SeenAt c d joined w

  -- ---- the other end acts, which sees it as its peer

  pub tags_there : (b : ℕ) (es : List Entry) → AreOf b (letters d.role d.longest es) → AreOf b (letters (other c.role) c.longest es)
  tags_there b es h = rw joined.longest (rw joined.far_role h)

  station_timely : (a : Act) (w : Sessions) (p : PeerEnd) → AreOf p.begun (letters d.role d.longest w.back) → IsTimely c d a w
      → sessions.IsTimely c a (with_peer p w)
  station_timely T1 w p tags timely = λ waiting.
      (let none = timely waiting in record {
        sabm = omega (arith, none, ap (how_many sabm_of) (heard_there joined w.far w.out));
        ua = omega (arith, none);
        crossing = tags_there p.begun w.back tags;
      })
  station_timely a w p tags timely = tt

  other_acts : (a : Act) (w : Sessions) → IsTimely c d a w → S (swapped w) → S (swapped (acts c a w))
  other_acts a w timely h = record {
    all = h.all;
    reached = reached;
    up = λ up. rw still.far (h.up (rw (sym still.far) up));
    given = λ n. h.given n ∙ ap (λ e. e.down n) (sym still.far);
    taken = λ n. h.taken n ∙ ap (λ e. e.up n) (sym still.far);
    later = rw still.far h.later;
    tags = rw still.far (are_less w.far.begun (letters_less d.role d.longest still.less.1) h.tags);
  }
    where
      v : Sessions
      v = acts c a w

      still : Stays Anything w v
      still = acts_still c a w

      p : PeerEnd
      p = end joined w.near w.far.station.phase w.far.begun h.all

      before : ReachedInSessions ⊥ c (with_peer p w)
      before = rw (sym (twice_turned w.met)) h.reached

      acted : ReachedInSessions ⊥ c (with_peer p v)
      acted = subst (ReachedInSessions ⊥ c) (sym (alike c p a w))
          (sessions.goes_on (with_peer p w) (with_peer p (acts c a (both_ends (with_peer p w)))) before (sessions.Ours a (station_timely a w p h.tags timely)))

      reached : IsPeerOf joined v.near v.out (map turned v.met) v.far.station.phase v.far.begun h.all v.back
      reached = rw still.far (rw (twice_turned v.met) acted)

  -- ---- it acts

  abbrev kind : Sessions → Kind d
  kind w = record {
    high = joined.far_high;
    reads = reads;
    rests = rests;
    Due = λ p es. MayAsk p (Unit {0});
    R = IsPeerOf joined w.far;
    does = peer_may joined w.far;
  }

  own_timely : (a : Act) (w : Sessions) → IsTimely d c a w → own.IsTimely (kind w) a w
  own_timely T1 w timely = λ waiting.
      (let none = timely waiting in (omega (arith, none, ap (how_many sabm_of) (sent_there joined w.far w.out)), omega (arith, none), tt))
  own_timely Connect w timely = λ _. tt
  own_timely a w timely = tt

  own_acts : (a : Act) (w : Sessions) → IsTimely d c a w
      → OwesOn w.near.station.phase (letters d.role d.longest w.out) (letters (other d.role) d.longest w.back) → S w → S (acts d a w)
  own_acts a w timely owed h = rw (acts_still d a w).far (own.station_acts (kind w) a w (own_timely a w timely) owed h)

  -- the other end, which sees it as its peer, with what that has on the line
  pub other_owes : {w : Sessions} → S w
      → OwesOn w.far.station.phase (letters c.role c.longest w.back) (letters (other c.role) c.longest w.out)
  other_owes {w} h = owes_is reads rests joined.near_high h.reached

-- ---- UA with F=0 comes

no_link_up : (d : LinkSettings) (octets : List ℕ) (s : LinkStation) (p : Phase) → (takes d octets (Ok (ua false)) p (alone s)).notes.up ≡ false
no_link_up d octets s Down = refl
no_link_up d octets s p = refl

by_final : (d : LinkSettings) (w : Sessions) (e : Entry) (rest : List Entry) → w.back ≡ e ∷ rest → hears_read d e.octets ≡ Ok (ua false)
    → (acts d Deliver w).near.begun ≡ w.near.begun
by_final d w e rest is read =
    rw (is, read) (ap (λ up. begun_by up w.near.begun) (no_link_up d e.octets w.near.station w.near.station.phase))

-- ---- both ends

pub record Both (c d : LinkSettings) (w : Sessions) : Type 0 where
  pub turn : AreJoined d c
  pub joined : AreJoined c d
  pub near : SeenAt d c turn w
  pub far : SeenAt c d joined (swapped w)

seen_twice : {c d : LinkSettings} (joined : AreJoined c d) {w : Sessions} → SeenAt c d joined w → SeenAt c d joined (swapped (swapped w))
seen_twice joined {w} h = rw (twice_turned w.met) h

-- as the far end has it
pub both_swapped : {c d : LinkSettings} {w : Sessions} → Both c d w → Both d c (swapped w)
both_swapped {c} {d} {w} h = record { turn = h.joined; joined = h.turn; near = h.far; far = seen_twice h.turn h.near }

module _ (reads : ReadsSpelled) (rests : SessionLaws) where
  act_both : {c d : LinkSettings} (a : Act) {w : Sessions} → IsTimely c d a w → Both c d w → Both c d (acts c a w)
  act_both {c} {d} a {w} timely h = record {
    turn = h.turn;
    joined = h.joined;
    near = own_acts d c h.turn reads rests a w timely (other_owes c d h.joined reads rests h.far) h.near;
    far = other_acts c d h.joined reads rests a w timely h.far;
  }

  -- each event leaves each end a peer of the other
  pub event_both : {c d : LinkSettings} (e : LinkEvent) {w : Sessions} → IsTimelyAt c d e w → Both c d w
      → Both c d (happens c d e w)
  event_both (Near act) timely h = act_both act timely h
  event_both (Far act) timely h = both_swapped (act_both act timely (both_swapped h))

  -- at the start each end is a peer of the other
  pub begin_both : {c d : LinkSettings} (joined : AreJoined c d) {begin : Sessions} → IsStart begin → Both c d begin
  begin_both {c} {d} joined is = elim is [
    | inl down ↦ subst (Both c d) (sym down) (record {
      turn = joined_swapped joined;
      joined = joined;
      near = start_seen c (IsPeerOf (joined_swapped joined) from_nothing.far) from_nothing.far sessions.at_start;
      far = start_seen d (IsPeerOf joined from_nothing.far) from_nothing.far sessions.at_start;
    })
    | inr up ↦ subst (Both c d) (sym up) (record {
      turn = joined_swapped joined;
      joined = joined;
      near = start_seen c (IsPeerOf (joined_swapped joined) from_set_up.far) from_set_up.far sessions.set_up;
      far = start_seen d (IsPeerOf joined from_set_up.far) from_set_up.far sessions.set_up;
    })
  ]

  -- ---- runs

  run_both : {c d : LinkSettings} (es : List LinkEvent) {w : Sessions} → AreTimely c d es w → Both c d w → Both c d (run c d es w)
  run_both [] timely h = h
  run_both {c} {d} (e ∷ es) {w} timely h = run_both es timely.1 (event_both e timely.0 h)

  pub throughout_both : {c d : LinkSettings} (joined : AreJoined c d) {begin : Sessions} → IsStart begin → (events : List LinkEvent)
      → AreTimely c d events begin
      → Both c d (run c d events begin)
  throughout_both {c} {d} joined {begin} is events timely = run_both events timely (begin_both joined is)

  is_peer : {c d : LinkSettings} (joined : AreJoined c d) {w : Sessions} → SeenAt c d joined w → IsPeer c d w
  is_peer {c} {d} joined {w} h = record {
    peer = end joined w.far w.near.station.phase w.near.begun h.all;
    reached = h.reached;
    begun = refl;
    given = h.given;
    taken = h.taken;
    final = by_final d w;
  }

  pub both_peers : Throughout AreBothPeers
  both_peers c d joined begin is events timely =
      let both = throughout_both joined is events timely in
      let w = run c d events begin in
      (is_peer both.turn both.near, is_peer both.joined both.far)

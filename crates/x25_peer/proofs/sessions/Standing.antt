-- What stands of a station and a peer over sessions: their links are joined as `x25_line` has it, and the layers of each session of the one and
-- each of the other that it met, or may meet yet, as `x25_layer` has it.
use Rattle.x25_peer.proofs.Names.{◌≡◌, ℕ, ◌==◌, ◌≤◌, inl, inr, List, [], ◌++◌, length, drop, Bool, true, false, if◌then◌else◌, refl, sym, ap, subst, ◌∙◌}
use Rattle.x25_peer.proofs.Names.{append_assoc, eq-eqb, arith, eqb-true, PlainPacket, LinkSettings, is_up, Peer, Meeting, extended, PeerEnd, PeerSessions}
use Rattle.x25_peer.proofs.Names.{ReachedInSessions, End, Settings, link_settings, layer_settings, layer_entries, layer_notices, Station, IsKept}
use Rattle.x25_peer.proofs.Names.{IsReachedByOctets, ReadAs, Own, Theirs, BesideSessions, in_session, links, all_some}
use Rattle.std.proofs.{Common.{◌<◌}, lemmas.Bool.{ne_eqb}, lemmas.List.{drop-append-le}}
use Rattle.x25_layer.specs.{Layer.{goes_up}, laws.TwoLayers.{started}}
use Rattle.x25_line.specs.laws.{InWindow.{IsPrefix}, PeerSessionClaims.{WithAnyPeer, OfBothEnds, EachMeetsLatest, IdleHasArrived, AsksInLatest}}
use Rattle.x25_line.specs.laws.{PeerSessions.{as_end}, SessionClaims.{MeetInStep, MetAreInOrder, UnmetHandNothingUp, IsInOrder}}
use Rattle.x25_link.specs.laws.NoteLaw.{TakeTells, TakeHandsUp, TimerTells, PutTells, ConnectTells, DisconnectTells, AbandonTells, RelinkTells}
use Rattle.x25_link.specs.laws.SetUp.{RelinkIsTwoSteps}
use Rattle.x25_peer.proofs.{ReadLemmas.{ReadFirst, read_first, first_front, first_length}, sessions.Meetings.{CanMeet, true_false, all_both}}
use Rattle.x25_peer.{proofs.sessions.SessionLinks.{ListsStand}, specs.laws.BesideSessions.{own_anew}}
use Rattle.x25_station.specs.laws.{GivenLaw.{GivenIsJoined, GivenIsRead}, JoinLaw.{RequestIsJoined, ReceiveIsJoined, QuietIsJoined, DownIsJoined, UpIsJoined}}
use Rattle.x25_station.specs.laws.{KeepLaw.{CommandKeeps, TimerKeeps, RequestKeeps, GivenKeeps, ReceiveKeeps}, ReadLaw.{PutsBesidePeersAreReadable}}

pub record Below : Type 0 where
  pub step : WithAnyPeer (OfBothEnds MeetInStep)
  pub order : WithAnyPeer (OfBothEnds MetAreInOrder)
  pub unmet : WithAnyPeer (OfBothEnds UnmetHandNothingUp)
  pub agree : WithAnyPeer EachMeetsLatest
  pub idle : WithAnyPeer IdleHasArrived
  pub asks : WithAnyPeer AsksInLatest
  pub lists : WithAnyPeer (λ c w. ListsStand w)
  pub readable : PutsBesidePeersAreReadable
  pub request : RequestIsJoined
  pub given : GivenIsJoined
  pub given_read : GivenIsRead
  pub receive : ReceiveIsJoined
  pub still : QuietIsJoined
  pub down : DownIsJoined
  pub up : UpIsJoined
  pub timer : TimerKeeps
  pub ask : RequestKeeps
  pub give : GivenKeeps
  pub command : CommandKeeps
  pub takes : ReceiveKeeps
  pub take_tells : TakeTells
  pub take_hands_up : TakeHandsUp
  pub timer_tells : TimerTells
  pub put_tells : PutTells
  pub connect_tells : ConnectTells
  pub disconnect_tells : DisconnectTells
  pub abandon_tells : AbandonTells
  pub relink_tells : RelinkTells
  pub relinks : RelinkIsTwoSteps

-- ---- a session among all

-- in session s it is x
pub in_here : {A : Type 0} (s : ℕ) (x : A) (all : ℕ → A) → in_session s x all s ≡ x
in_here {A} s x all = ap (λ b. if b then x else all s) (eq-eqb s s refl)

-- in each other it is what it was
pub in_other : {A : Type 0} (s n : ℕ) (x : A) (all : ℕ → A) → (n ≡ s → ⊥) → in_session s x all n ≡ all n
in_other {A} s n x all differs = ap (λ b. if b then x else all n) (ne_eqb n s differs)

-- so what holds in session s and in each other holds in all
pub in_cases : {A : Type 0} (P : ℕ → A → Type 0) (s : ℕ) (x : A) (all : ℕ → A) → P s x → ((n : ℕ) → (n ≡ s → ⊥) → P n (all n)) → (n : ℕ)
    → P n (in_session s x all n)
in_cases {A} P s x all here others n = by (n == s) refl
  where
    by : (b : Bool) → (n == s) ≡ b → P n (if b then x else all n)
    by true is = subst (λ k. P k x) (sym (eqb-true n s is)) here
    by false is = others n (λ e. true_false (sym (eq-eqb n s e) ∙ is))

-- the same of two at once
pub both_cases : {A B : Type 0} (P : ℕ → A → B → Type 0) (s : ℕ) (x : A) (all : ℕ → A) (y : B) (each : ℕ → B) → P s x y
    → ((n : ℕ) → (n ≡ s → ⊥) → P n (all n) (each n)) → (n : ℕ)
    → P n (in_session s x all n) (in_session s y each n)
both_cases {A} {B} P s x all y each here others n = by (n == s) refl
  where
    by : (b : Bool) → (n == s) ≡ b → P n (if b then x else all n) (if b then y else each n)
    by true is = subst (λ k. P k x y) (sym (eqb-true n s is)) here
    by false is = others n (λ e. true_false (sym (eq-eqb n s e) ∙ is))

-- ---- a session of the station

-- the octets that its link was handed down and handed up in it
abbrev pub down_in : Own → List (List ℕ)
down_in own = own.station.link.outgoing.given

-- what the link of a session handed up
abbrev pub up_in : Own → List (List ℕ)
up_in own = own.station.link.taken

-- the session that stands, where this is its layer's end: what its link was handed down is read as what its layer put
pub record IsStanding (c : Settings) (e : End) (own : Own) (near : Station) : Type 0 where
  pub station : own.station ≡ near
  pub handed : ReadAs c (down_in own) e.given

-- what is known of each session is what the world has of it, and where nothing was handed up the user was told nothing
pub record IsKnown (c : Settings) (e : End) (own : Own) : Type 0 where
  pub layer : e.layer ≡ own.station.layer
  pub out : e.is_out ≡ false
  pub entries : e.entries ≡ layer_entries own.entries
  pub told : e.told ≡ layer_notices own.entries
  pub begins : ReadFirst c (down_in own) e.given
  pub alone : up_in own ≡ [] → e.told ≡ []

-- a session that isn't begun
pub record IsNotBegun (c : Settings) (e : End) (own : Own) : Type 0 where
  pub end : e ≡ started (goes_up (layer_settings c))
  pub known : own ≡ own_anew c

-- on the way to the peer's layer, of what our layer put
abbrev pub way : Theirs → List PlainPacket → List PlainPacket
way t given = t.passed ++ drop t.heard given

pub way_more : (t : Theirs) (given more : List PlainPacket) → t.heard ≤ length given → way t given ++ more ≡ way t (given ++ more)
way_more t given more few = append_assoc t.passed (drop t.heard given) more ∙ ap (λ l. t.passed ++ l) (sym (drop-append-le t.heard given more few))

-- a session of the station, to which this was handed up, and one of the peer, whose layer put these packets, as they are read
abbrev pub PairReached : Settings → End → List (List ℕ) → Theirs → List PlainPacket → Type 0
PairReached c e up t puts = IsReachedByOctets c.wide c.role c.long_data c.channels
    (record { near = e; peer = t.layer; out = way t e.given; back = drop (length up) puts })

-- of the peer's sessions
pub record IsRead (c : Settings) (p : Peer) (t : Theirs) (puts : List PlainPacket) : Type 0 where
  pub reads : ReadAs c p.given puts
  pub heard : t.heard ≤ length p.taken

abbrev pub AreAnew : PeerEnd → Type 0
AreAnew p = (m : ℕ) → p.begun < m → ((p.of_session m).given ≡ []) × ((p.of_session m).taken ≡ [])

pub record Stands (c : Settings) (w : BesideSessions) : Type 0 where
  pub ends : ℕ → End
  pub puts : ℕ → List PlainPacket
  pub link : ReachedInSessions (Unit {0}) (link_settings c) (links w)
  pub now : is_up w.near.link.phase ≡ true → IsStanding c (ends w.begun) (w.own w.begun) w.near
  pub each : (n : ℕ) → IsKnown c (ends n) (w.own n)
  pub later : (n : ℕ) → w.begun < n → IsNotBegun c (ends n) (w.own n)
  pub peers : (m : ℕ) → IsRead c (w.peer.of_session m) (w.theirs m) (puts m)
  pub anew : AreAnew w.peer
  pub pairs : (n m : ℕ) → CanMeet n m w.met → PairReached c (ends n) (up_in (w.own n)) (w.theirs m) (puts m)
  pub kept : IsKept w.near

-- ---- the lists of what is known

pub into : (list : Own → List (List ℕ)) (all : ℕ → Own) (s : ℕ) (own : Own) (more : List (List ℕ)) → list own ≡ list (all s) ++ more → (n : ℕ)
    → extended (λ i. list (all i)) s more n ≡ list (in_session s own all n)
into list all s own more same n = by (n == s) refl
  where
    by : (b : Bool) → (n == s) ≡ b → (if b then list (all n) ++ more else list (all n)) ≡ list (if b then own else all n)
    by true is = ap (λ i. list (all i) ++ more) (eqb-true n s is) ∙ sym same
    by false is = refl

-- ---- what the laws of the links say

-- of a session of the station and one of the peer that met, or may meet yet
pub record BothBegin (down up : List (List ℕ)) (p : Peer) : Type 0 where
  pub there : IsPrefix p.taken down
  pub back : IsPrefix up p.given

module _ (below : Below) (c : LinkSettings) (low : 1 ≤ c.window) (high : c.window ≤ 7) (v : PeerSessions) (r : ReachedInSessions (Unit {0}) c v) where
  abbrev IsOne : ℕ → ℕ → Meeting → Type 0
  IsOne n m p = (p.near ≡ n → p.far ≡ m) × (p.far ≡ m → p.near ≡ n)

  abbrev IsOrdered : Meeting → Type 0
  IsOrdered p = IsInOrder v.near (as_end v.peer) p

  pub both_begin : {n m : ℕ} → CanMeet n m v.met → BothBegin (v.near.down n) (v.near.up n) (v.peer.of_session m)
  both_begin {n} {m} can =
      let unmet = below.unmet c low high v r in
      let both = all_both IsOrdered (IsOne n m) v.met (below.order c low high v r) can in
      record {
        there = elim (unmet.far m) [
          | inl none ↦ subst (λ t. IsPrefix t (v.near.down n)) (sym none) (v.near.down n, refl)
          | inr some ↦ all_some (λ p. IsOrdered p × IsOne n m p) (λ p. p.far ≡ m) (IsPrefix (v.peer.of_session m).taken (v.near.down n))
              (λ (p : Meeting) h is. subst (λ i. IsPrefix (v.peer.of_session m).taken (v.near.down i)) (h.1.1 is)
              (subst (λ i. IsPrefix (v.peer.of_session i).taken (v.near.down p.near)) is h.0.there)) v.met both some
        ];
        back = elim (unmet.near n) [
          | inl none ↦ subst (λ u. IsPrefix u (v.peer.of_session m).given) (sym none) ((v.peer.of_session m).given, refl)
          | inr some ↦ all_some (λ p. IsOrdered p × IsOne n m p) (λ p. p.near ≡ n) (IsPrefix (v.near.up n) (v.peer.of_session m).given)
              (λ (p : Meeting) h is. subst (λ i. IsPrefix (v.near.up n) (v.peer.of_session i).given) (h.1.0 is)
              (subst (λ i. IsPrefix (v.near.up i) (v.peer.of_session p.far).given) is h.0.back)) v.met both some
        ];
      }

-- ---- of two sessions that met, or may meet yet

module _ (below : Below) (c : Settings) (low : 1 ≤ c.window) (high : c.window ≤ 7) (w : BesideSessions) (h : Stands c w) (n m : ℕ) (can : CanMeet n m w.met)
  where
    pub pair_begins : BothBegin (down_in (w.own n)) (up_in (w.own n)) (w.peer.of_session m)
    pair_begins = both_begin below (link_settings c) low high (links w) h.link can

    -- what the peer's link took is read as the first of what our layer put
    pub taken_begins : ReadFirst c (w.peer.of_session m).taken (h.ends n).given
    taken_begins =
        first_front c (w.peer.of_session m).taken pair_begins.there.0 (h.ends n).given
        (subst (λ d. ReadFirst c d (h.ends n).given) (sym pair_begins.there.1) (h.each n).begins)

    pub heard_few : (w.theirs m).heard ≤ length (h.ends n).given
    heard_few =
        let some : (w.theirs m).heard ≤ length (w.peer.of_session m).taken = (h.peers m).heard in
        omega (arith, some, first_length c (w.peer.of_session m).taken (h.ends n).given taken_begins)

    pub up_few : length (up_in (w.own n)) ≤ length (h.puts m)
    up_few =
        let prefix = pair_begins.back in
        let whole = read_first c (w.peer.of_session m).given (h.puts m) (h.peers m).reads in
        first_length c (up_in (w.own n)) (h.puts m)
        (first_front c (up_in (w.own n)) prefix.0 (h.puts m) (subst (λ g. ReadFirst c g (h.puts m)) (sym prefix.1) whole))

-- What happens on the line and at the peer, beside a station over sessions.
use Rattle.x25_peer.proofs.Names.{◌≡◌, ℕ, suc, ◌==◌, ◌≤◌, ◌⊎◌, inl, inr, List, [], ◌∷◌, ◌++◌, length, drop, Bool, true, false, if◌then◌else◌, Ok, refl, sym, ap}
use Rattle.x25_peer.proofs.Names.{subst, ◌∙◌, append_assoc, append-nil, arith, eqb-true, remove, PlainPacket, LinkSettings, Entry, Meeting, Sessions, meets}
use Rattle.x25_peer.proofs.Names.{Peer, PeerEnd, PeerSessions, now, ReachedInSessions, both_ends, Said, Tells, At, PeerChannels, End, Settings, link_settings}
use Rattle.x25_peer.proofs.Names.{IsReachedByOctets, ReadAs, Theirs, BesideSessions, in_session, links}
use Rattle.std.proofs.{Common.{zero, map}, Math.Path.{fun_ext}, lemmas.List.{drop-append-le}}
use Rattle.x25_layer.specs.laws.PeerJoined.{PeerMoves}
use Rattle.x25_line.specs.laws.Ends.{Stand, In, Letter, Two, heard, Ends, near_now, fresh_where, begins as begins_by, Moves, hears, takes_ua, takes_sabm, Does}
use Rattle.x25_line.specs.laws.{Ends.{sends, listens, moves}, Loss.{LessAt, Less, replaced, nothing, gone, hurt, deeper}, Peer.{fresh_peer}}
use Rattle.x25_line.specs.laws.{PeerSessions.{with_now, begins, goes_on, HandsDown, IsSeenIn}, SessionClaims.{Each}, Sessions.{turned, with_octets}}
use Rattle.x25_line.specs.laws.Stations.{is_visible}
use Rattle.x25_peer.proofs.{ReadLemmas.{ReadFirst, read_append, ok_same, said_same, made_more}, sessions.Meetings.{CanMeet}}
use Rattle.x25_peer.proofs.sessions.{SessionLinks.{Reach, acts_reach}, Standing.{up_few}}
use Rattle.x25_peer.proofs.sessions.Standing.{Below, in_here, in_other, in_cases, both_cases, up_in, PairReached, IsRead, AreAnew, Stands, way, taken_begins}
use Rattle.x25_peer.specs.laws.BesideSessions.{read_by, their_now, their_layer, layer_went, Elsewhere, Loses, Links, Comes, LayerMoves}
use Rattle.x25_line.specs.laws.Stations as line
use Rattle.x25_line.specs.laws.PeerSessions as peers
use Rattle.x25_layer.specs.laws.PeerJoined as layer_peer
use Rattle.x25_station.specs.laws.ReadLaw as reached

-- ---- the peer's link goes on

-- to one that was handed down no more, and took no fewer, in each session
pub record GoesTo (p q : PeerEnd) : Type 0 where
  pub given : (m : ℕ) → (q.of_session m).given ≡ (p.of_session m).given
  pub taken : (m : ℕ) → length (p.of_session m).taken ≤ length (q.of_session m).taken
  pub anew : AreAnew q

with_now_goes : {p : PeerEnd} (x : Peer) → AreAnew p → x.given ≡ (now p).given → length (now p).taken ≤ length x.taken → GoesTo p (with_now x p)
with_now_goes {p} x anew same more = record {
  given = (in_cases (λ m y. y.given ≡ (p.of_session m).given) p.begun x p.of_session same (λ m differs. refl));
  taken = (in_cases (λ m y. length (p.of_session m).taken ≤ length y.taken) p.begun x p.of_session more (λ m differs. omega (arith)));
  anew = λ m over. subst (λ y. (y.given ≡ []) × (y.taken ≡ [])) (sym (in_other p.begun m x p.of_session (λ is. (omega (arith, over, is))))) (anew m over);
}

begins_goes : {p : PeerEnd} → AreAnew p → GoesTo p (begins p)
begins_goes {p} anew = record {
  given = in_cases (λ m y. y.given ≡ (p.of_session m).given) (suc p.begun) fresh_peer p.of_session (sym next.0) (λ m differs. refl);
  taken = in_cases (λ m y. length (p.of_session m).taken ≤ length y.taken) (suc p.begun) fresh_peer p.of_session (omega (arith, ap length next.1))
      (λ m differs. omega (arith));
  anew = λ m over. subst (λ y. (y.given ≡ []) × (y.taken ≡ [])) (sym (in_other (suc p.begun) m fresh_peer p.of_session (λ is. (omega (arith, over, is)))))
      (anew m (omega (arith, over)));
}
  where
    next : ((p.of_session (suc p.begun)).given ≡ []) × ((p.of_session (suc p.begun)).taken ≡ [])
    next = anew (suc p.begun) (omega (arith))

-- a peer that is an end here
abbrev end_of : Ends → PeerEnd
end_of w = record { stand = w.two.near.stand; begun = w.two.near.begun; of_session = w.near_of }

moves_goes : (w : Ends) {v : Two} (m : Moves w.two v) → AreAnew (end_of w)
    → GoesTo (end_of w) (record { stand = v.near.stand; begun = v.near.begun; of_session = fresh_where (begins_by m) w.two.near.begun w.near_of })
moves_goes w (takes_ua s rest is asking) anew = begins_goes anew
moves_goes w (takes_sabm s rest is) anew = begins_goes anew
moves_goes w m anew = record { given = λ m. refl; taken = λ m. omega (arith); anew = anew }

does_goes : {w v : Ends} → AreAnew (end_of w) → Does w v → GoesTo (end_of w) (end_of v)
does_goes {w} anew (sends carried nr x on may) =
    (let same = said_same (near_now w) x (Tells carried nr) may in
    let long : length x.taken ≡ length (near_now w).taken = ap length same.1 in
    with_now_goes x anew same.0 (omega (arith, long)))
does_goes {w} anew (listens e rest x is on may) = (let same = made_more e.said may in with_now_goes x anew same.given same.taken)
does_goes {w} anew (moves u m) = moves_goes w m anew

-- what held of all who met held before
heard_less : (P : Meeting → Type 0) (s : Stand) (b : ℕ) (e : Letter) (met : List Meeting) → Each P (heard s b e met) → Each P met
heard_less P In b e met h = by e.said h
  where
    by : (s : Said) → Each P (meets s (record { near = b; far = e.session }) met) → Each P met
    by (Tells carried nr) h = h.1
    by s h = h
heard_less P s b e met h = h

met_less : (P : Meeting → Type 0) {w v : Ends} → Does w v → Each P v.two.met → Each P w.two.met
met_less P (sends carried nr x on may) h = h
met_less P {w} (listens e rest x is on may) h = heard_less P w.two.near.stand w.two.near.begun e w.two.met h
met_less P {w} (moves u (hears e rest is)) h = heard_less P w.two.near.stand w.two.near.begun e w.two.met h
met_less P (moves u m) h = h

each_turned : (P : Meeting → Type 0) (met : List Meeting) → Each P met → Each (λ (m : Meeting). P (turned m)) (map turned met)
each_turned P [] h = tt
each_turned P (m ∷ met) h = (h.0, each_turned P met h.1)

turned_back : (P : Meeting → Type 0) (met : List Meeting) → Each (λ (m : Meeting). P (turned m)) (map turned met) → Each P met
turned_back P [] h = tt
turned_back P (m ∷ met) h = (h.0, turned_back P met h.1)

-- ---- what comes to its layer is read as

-- what its link took next, as it is read, is in front of what our layer put from there on
next_front : (c : Settings) (given : List PlainPacket) (taken : List (List ℕ)) (n : ℕ) (o : List ℕ) (rest : List (List ℕ)) (p : PlainPacket)
    → ReadFirst c taken given → drop n taken ≡ o ∷ rest → read_by c o ≡ Ok p → drop n given ≡ p ∷ drop (suc n) given
next_front c given [] zero o rest p first is reads = absurd (cc)
next_front c given [] (suc n) o rest p first is reads = absurd (cc)
next_front c [] (t ∷ taken) n o rest p first is reads = absurd first
next_front c (g ∷ given) (t ∷ taken) zero o rest p first is reads =
    ap (λ x. x ∷ given) (ok_same g p (read_by c t) first.0 (ap (read_by c) (front_of is) ∙ reads))
  where
    first_in : List (List ℕ) → List ℕ
    first_in [] = []
    first_in (x ∷ xs) = x

    front_of : t ∷ taken ≡ o ∷ rest → t ≡ o
    front_of is = ap first_in is
next_front c (g ∷ given) (t ∷ taken) (suc n) o rest p first is reads = next_front c given taken n o rest p first.1 is reads

-- ---- packets go down to its link

now_again : (x y : Peer) (p : PeerEnd) → with_now x (with_now y p) ≡ with_now x p
now_again x y p = ap (λ f. record { stand = p.stand; begun = p.begun; of_session = f }) (fun_ext (λ n. by n (n == p.begun)))
  where
    by : (n : ℕ) (b : Bool) → (if b then x else (if b then y else p.of_session n)) ≡ (if b then x else p.of_session n)
    by n true = refl
    by n false = refl

now_same : (p : PeerEnd) → with_now (now p) p ≡ p
now_same p = ap (λ f. record { stand = p.stand; begun = p.begun; of_session = f }) (fun_ext (λ n. by n (n == p.begun) refl))
  where
    by : (n : ℕ) (b : Bool) → (n == p.begun) ≡ b → (if b then now p else p.of_session n) ≡ p.of_session n
    by n true is = ap p.of_session (sym (eqb-true n p.begun is))
    by n false is = refl

-- one after another
hand_down : {c : LinkSettings} (v : PeerSessions) (x : Peer) (all : List (List ℕ)) → v.peer.stand ≡ In
    → ReachedInSessions (Unit {0}) c (record v { peer = with_now x v.peer })
    → ReachedInSessions (Unit {0}) c (record v { peer = with_now (record x { given = x.given ++ all }) v.peer })
hand_down {c} v x [] stand h =
    subst (λ g. ReachedInSessions (Unit {0}) c (record v { peer = with_now (record x { given = g }) v.peer })) (sym (append-nil x.given)) h
hand_down {c} v x (o ∷ os) stand h =
    let more : Peer → Peer = λ z. record z { given = z.given ++ o ∷ [] } in
    let q = with_now x v.peer in
    let one = goes_on (record v { peer = q }) (record v { peer = with_now (more (now q)) q }) h (HandsDown o stand) in
    let same : with_now (more (now q)) q ≡ with_now (more x) v.peer =
    ap (λ z. with_now (more z) q) (in_here v.peer.begun x v.peer.of_session) ∙ now_again (more x) x v.peer in
    subst (λ g. ReachedInSessions (Unit {0}) c (record v { peer = with_now (record x { given = g }) v.peer })) (append_assoc x.given (o ∷ []) os)
    (hand_down v (more x) os stand (subst (λ p. ReachedInSessions (Unit {0}) c (record v { peer = p })) same one))

-- ---- its layer goes on

-- with more packets behind those that came to it, whatever end of ours stands there
goes_behind : (c : Settings) (ours : End) (x : At PeerChannels) (front more back : List PlainPacket) {y : At PeerChannels} {left packets : List PlainPacket}
    → PeerMoves c.role c.channels x front y left packets
    → IsReachedByOctets c.wide c.role c.long_data c.channels (record { near = ours; peer = x; out = front ++ more; back = back })
    → IsReachedByOctets c.wide c.role c.long_data c.channels (record { near = ours; peer = y; out = left ++ more; back = back ++ packets })
goes_behind c ours x front more back (layer_peer.Does deed p may is configured) h =
    reached.goes_on _ _ h (layer_peer.Theirs _ _ _ (layer_peer.Does deed p may is configured)) tt
goes_behind c ours x front more back (layer_peer.Hears p rest packets is answered) h =
    reached.goes_on _ _ h (layer_peer.Theirs _ _ _ (layer_peer.Hears p (rest ++ more) packets (ap (λ l. l ++ more) is) answered)) tt
goes_behind c ours x front more back (layer_peer.HearsChannel z passed p rest packets live has apart is answered) h =
    rw (append_assoc passed rest more)
    (reached.goes_on _ _ h (layer_peer.Theirs _ _ _ (layer_peer.HearsChannel z passed p (rest ++ more) packets live has apart
    (ap (λ l. l ++ more) is ∙ append_assoc passed (p ∷ rest) more) answered)) tt)

-- ---- the line to the station

-- what is lost or damaged is by an act
abbrev IsLost : List Entry → List Entry → Type 0
IsLost es fs = (fs ≡ es) ⊎ (((i : ℕ) × (fs ≡ remove es i))
    ⊎ ((i : ℕ) × (octets : List ℕ) × (is_visible octets ≡ true) × (fs ≡ replaced es i (with_octets octets))))

lost_by : {i : ℕ} {es fs : List Entry} → LessAt IsSeenIn i es fs → IsLost es fs
lost_by (nothing i) = inl refl
lost_by (gone x xs) = inr (inl (0, refl))
lost_by (hurt x y xs seen) = inr (inr (0, y.octets, seen.1, ap (λ n. record { session = n; octets = y.octets } ∷ xs) seen.0))
lost_by (deeper i x xs ys l) = elim (lost_by l) [
  | inl same ↦ inl (ap (λ l. x ∷ l) same)
  | inr some ↦ inr (elim some [
    | inl one ↦ inl (suc one.0, ap (λ l. x ∷ l) one.1)
    | inr one ↦ inr (suc one.0, one.1, one.2, ap (λ l. x ∷ l) one.3)
  ])
]

less_reach : {c : LinkSettings} {peer : PeerEnd} (v : Sessions) {left : List Entry} → Less IsSeenIn v.back left → Reach c peer v
    → Reach c peer (record v { back = left })
less_reach {c} {peer} v {left} less h = elim (lost_by less.1) [
  | inl same ↦ subst (λ es. Reach c peer (record v { back = es })) (sym same) h
  | inr some ↦ elim some [
    | inl one ↦ subst (λ es. Reach c peer (record v { back = es })) (sym one.1) (acts_reach (line.Lose one.0) v tt h)
    | inr one ↦ subst (λ es. Reach c peer (record v { back = es })) (sym one.3)
        (subst (Reach c peer) (ap (λ b. if b then record v { back = replaced v.back one.0 (with_octets one.1) } else v) one.2)
        (acts_reach (line.Damage one.0 one.1) v tt h))
  ]
]

module _ (below : Below) (c : Settings) (low : 1 ≤ c.window) (high : c.window ≤ 7) (w : BesideSessions) (h : Stands c w) where
  abbrev lc : LinkSettings
  lc = link_settings c

  loses : (left : List Entry) → Less IsSeenIn w.back left → Stands c (record w { back = left })
  loses left less = record {
    ends = h.ends;
    puts = h.puts;
    link = less_reach {peer = w.peer} (both_ends (links w)) less h.link;
    now = h.now;
    each = h.each;
    later = h.later;
    peers = h.peers;
    anew = h.anew;
    pairs = h.pairs;
    kept = h.kept;
  }

  -- of the peer's link, and of the line to it
  theirs : {v : PeerSessions} → peers.PeerHappens (Unit {0}) lc (links w) v
      → Stands c (record w { peer = v.peer; out = v.out; back = v.back; met = v.met })
  theirs {v} k =
      let m = k.does (below.asks lc low high (links w) h.link) in
      let to : GoesTo w.peer v.peer = does_goes h.anew m in
      record {
        ends = h.ends;
        puts = h.puts;
        link = goes_on (links w) (record v { near = (links w).near }) h.link (peers.Theirs v k);
        now = h.now;
        each = h.each;
        later = h.later;
        peers = λ m. (let is = h.peers m in
            let some = is.heard in
            let more = to.taken m in
            record { reads = subst (λ g. ReadAs c g (h.puts m)) (sym (to.given m)) is.reads; heard = omega (arith, some, more) });
        anew = to.anew;
        pairs = λ n s can. h.pairs n s (turned_back _ w.met (met_less _ m (each_turned _ v.met can)));
        kept = h.kept;
      }

  -- ---- its packet layer

  abbrev b : ℕ
  b = w.peer.begun

  abbrev ups : ℕ → List (List ℕ)
  ups n = up_in (w.own n)

  -- it puts these packets in this session, and has come to this
  layer_goes : (t : Theirs) (ps : List PlainPacket) (all : List (List ℕ)) → w.peer.stand ≡ In → ReadAs c all ps → t.heard ≤ length (now w.peer).taken
      → ((n : ℕ) → CanMeet n b w.met
      → IsReachedByOctets c.wide c.role c.long_data c.channels
      (record { near = h.ends n; peer = t.layer; out = way t (h.ends n).given; back = drop (length (ups n)) (h.puts b) ++ ps }))
      → Stands c (layer_went w t all)
  layer_goes t ps all stand reads most pair =
      let x : Peer = record (now w.peer) { given = (now w.peer).given ++ all } in
      record {
        ends = h.ends;
        puts = in_session b (h.puts b ++ ps) h.puts;
        link = hand_down (links w) (now w.peer) all stand
            (subst (λ q. ReachedInSessions (Unit {0}) lc (record (links w) { peer = q })) (sym (now_same w.peer)) h.link);
        now = h.now;
        each = h.each;
        later = h.later;
        peers = both_cases (λ m t ps. IsRead c (in_session b x w.peer.of_session m) t ps) b t w.theirs (h.puts b ++ ps) h.puts
            (subst (λ y. IsRead c y t (h.puts b ++ ps)) (sym (in_here b x w.peer.of_session))
            (record { reads = read_append c (now w.peer).given all (h.puts b) ps (h.peers b).reads reads; heard = most }))
            (λ m differs. subst (λ y. IsRead c y (w.theirs m) (h.puts m)) (sym (in_other b m x w.peer.of_session differs)) (h.peers m));
        anew = λ m over. subst (λ y. (y.given ≡ []) × (y.taken ≡ [])) (sym (in_other b m x w.peer.of_session (λ is. (omega (arith, over, is)))))
            (h.anew m over);
        pairs = λ n m can. both_cases (λ m t ps. CanMeet n m w.met → PairReached c (h.ends n) (ups n) t ps) b t w.theirs (h.puts b ++ ps) h.puts
            (λ yes. subst (λ r. IsReachedByOctets c.wide c.role c.long_data c.channels
            (record { near = h.ends n; peer = t.layer; out = way t (h.ends n).given; back = r }))
            (sym (drop-append-le (length (ups n)) (h.puts b) ps (up_few below c low high w h n b yes))) (pair n yes))
            (λ m differs yes. h.pairs n m yes) m can;
        kept = h.kept;
      }

  comes : (p : PlainPacket) (o : List ℕ) (rest : List (List ℕ)) → w.peer.stand ≡ In → drop (their_now w).heard (now w.peer).taken ≡ o ∷ rest
      → read_by c o ≡ Ok p
      → Stands c (layer_went w (record (their_now w) { heard = suc (their_now w).heard; passed = (their_now w).passed ++ p ∷ [] }) [])
  comes p o rest stand is reads =
      let t = their_now w in
      layer_goes (record t { heard = suc t.heard; passed = t.passed ++ p ∷ [] }) [] [] stand tt (coming_few t.heard (now w.peer).taken is)
      (λ n can. (
      let given = (h.ends n).given in
      let next = next_front c given (now w.peer).taken t.heard o rest p (taken_begins below c low high w h n b can) is reads in
      let same : way t given ≡ (t.passed ++ p ∷ []) ++ drop (suc t.heard) given =
      ap (λ l. t.passed ++ l) next ∙ sym (append_assoc t.passed (p ∷ []) (drop (suc t.heard) given)) in
      subst (λ l. IsReachedByOctets c.wide c.role c.long_data c.channels
      (record { near = h.ends n; peer = t.layer; out = l; back = drop (length (ups n)) (h.puts b) ++ [] })) same
      (rw (append-nil (drop (length (ups n)) (h.puts b))) (h.pairs n b can))))
    where
      coming_few : (n : ℕ) (taken : List (List ℕ)) → drop n taken ≡ o ∷ rest → suc n ≤ length taken
      coming_few zero [] is = absurd (cc)
      coming_few (suc n) [] is = absurd (cc)
      coming_few zero (t ∷ taken) is = omega (arith)
      coming_few (suc n) (t ∷ taken) is = omega (arith, coming_few n taken is)

  layer_moves : (y : At PeerChannels) (passed packets : List PlainPacket) (all : List (List ℕ)) → w.peer.stand ≡ In
      → PeerMoves c.role c.channels (their_layer w) (their_now w).passed y passed packets → ReadAs c all packets
      → Stands c (layer_went w (record (their_now w) { layer = y; passed = passed }) all)
  layer_moves y passed packets all stand may reads =
      let t = their_now w in
      layer_goes (record t { layer = y; passed = passed }) packets all stand reads (h.peers b).heard
      (λ n can. goes_behind c (h.ends n) t.layer t.passed (drop t.heard (h.ends n).given) (drop (length (ups n)) (h.puts b)) may (h.pairs n b can))

  -- ---- all that happens there

  pub is_elsewhere : {v : BesideSessions} → Elsewhere c w v → Stands c v
  is_elsewhere (Loses left less) = loses left less
  is_elsewhere (Links v happens) = theirs happens
  is_elsewhere (Comes p o rest stand is reads) = comes p o rest stand is reads
  is_elsewhere (LayerMoves y passed packets all stand may reads) = layer_moves y passed packets all stand may reads

-- A station of ours keeps the rules, whatever the other end and the line do.
use Rattle.x25_judge.proofs.verdicts.Names.{◌≡◌, ℕ, ◌+◌, ◌<◌, ◌≤◌, le_trans, List, [], ◌∷◌, ◌++◌, inl, length, false, Option, Some, None, Result, Ok, Err, refl}
use Rattle.x25_judge.proofs.verdicts.Names.{sym, ap, ◌∙◌, subst, arith, length-append, same_Some, slice_get_within, n1, PlainFrame, info, rr, rnr, rej}
use Rattle.x25_judge.proofs.verdicts.Names.{frame_of, ReadsSpelled, FrameError, Short, BadFcs, BadAddress, LinkSettings, other, Peer, fresh_peer, MayHear, Said}
use Rattle.x25_judge.proofs.verdicts.Names.{Tells, Odd, number_in, EachEventHandsOne, HandsOne, Near, acts, Judge, MayStand, numbered, In, Way}
use Rattle.x25_judge.proofs.verdicts.Names.{NoSessionIsAccused, NoStationIsAccused, Watched, our_end, IsAny, Begins, Acts, Rests, Says, Comes, Fails}
use Rattle.x25_line.specs.laws.{Said.{said as read_as}, LawsBelow.{Laws}}
use Rattle.std.specs.List.{slice_get}
use Rattle.x25_line.proofs.{StationPeers.{Seen, peer_acts}, StationRuns.{noted_before}, StationSays.{MayDo}, StationSends.{AllWithin, within_push, item_at}}
use Rattle.x25_judge.proofs.{verdicts.Following.{heard_keeps}, verdicts.Lag.{OnLine, one_more, one_more_damaged, one_less}}
use Rattle.x25_judge.proofs.verdicts.Lag.{Did, Front, Sends, at_front, both, comes_behind, did_more, did_send, freed, nothing, numbered_front, said, was_given}
use Rattle.x25_line.specs.laws.Peer as once
use Rattle.x25_judge.specs.laws.Sessions as sessions

module _ (c : LinkSettings) (longest : c.longest ≡ n1) (j : Judge) (since : ℕ) where
  -- the trace, and how far the end is ahead of it
  pub record OnTrace (os : List (List ℕ)) (p : Peer) (out : List (List ℕ)) : Type 0 where
    pub before : Peer
    pub way : Way
    pub may : MayStand c.role j In before way
    pub left : Way
    pub did : Did c.role before way p left out
    pub line : OnLine c.role left os
    pub within : AllWithin c.longest p.given
    pub few : length way ≤ since

  room : (p : Peer) (n : ℕ) (packet : List ℕ) → slice_get p.given n ≡ Some packet → AllWithin c.longest p.given → length packet ≤ 65536
  room p n packet is within =
      let i = item_at c.longest p.given n (slice_get_within p.given n packet is) within in
      fits (length packet) (subst (λ (y : List ℕ). length y ≤ c.longest) (same_Some i.item packet (sym i.is ∙ is)) i.within)
    where
      fits : (x : ℕ) → x ≤ c.longest → x ≤ 65536
      fits x le = omega (arith, longest)

  same_given : (p q : Peer) (s : Said) → once.MaySay ⊥ p s q → q.given ≡ p.given
  same_given p q (Tells None nr) may = ap (λ (z : Peer). z.given) may.2
  same_given p q (Tells (Some x) nr) may = ap (λ (z : Peer). z.given) may.4
  same_given p q Odd may = absurd may.0
  same_given p q s may = ap (λ (z : Peer). z.given) may

  sends : (p q : Peer) (octets : List ℕ) (r : Result PlainFrame FrameError) → frame_of c.role n1 octets ≡ r → once.MaySend ⊥ p r q → q.sent ≤ p.sent + 1
      → AllWithin c.longest p.given → Sends c.role p octets q
  sends p q octets (Ok (info ns nr pf x)) read may next within =
      let number = may.2 in
      let few = ap (λ (z : Peer). z.sent) may.4 in
      said (info ns nr pf x) read (may.0, may.1, number, omega (arith, few, next), room p may.0 x number.same within, may.3, may.4)
  sends p q octets (Ok (rr command nr pf)) read may next within = said (rr command nr pf) read may
  sends p q octets (Ok (rnr command nr pf)) read may next within = said (rnr command nr pf) read may
  sends p q octets (Ok (rej command nr pf)) read may next within = said (rej command nr pf) read may
  sends p q octets (Ok f) read may next within = freed (ap number_in read) may
  sends p q octets (Err Short) read may next within = freed (ap number_in read) may
  sends p q octets (Err BadFcs) read may next within = freed (ap number_in read) may
  sends p q octets (Err BadAddress) read may next within = freed (ap number_in read) may
  sends p q octets (Err e) read may next within = absurd may.0

  goes_on : (os is : List (List ℕ)) (p q : Peer) (out now : List (List ℕ)) (h : OnTrace os p out)
      → Did c.role h.before h.way q h.left now → OnLine c.role h.left is → AllWithin c.longest q.given → OnTrace is q now
  goes_on os is p q out now h did line within =
      record { before = h.before; way = h.way; may = h.may; left = h.left; did = did; line = line; within = within; few = h.few }

  trace_may : MayDo c ⊥ OnTrace
  trace_may = record {
    handed = λ os p out packet short h.
        goes_on os os p _ out out h (did_more c.role h.before p _ h.way h.left h.left out (was_given c.role p h.left packet) h.did) h.line
        (within_push c.longest p.given packet h.within short);
    sends = λ os p q out octets may next h.
        goes_on os os p q out _ h (did_send c.role h.before p q h.way h.left out octets
        (sends p q octets (frame_of c.role n1 octets) refl (subst (λ (n : ℕ). once.MaySend ⊥ p (frame_of c.role n octets) q) longest may) next h.within)
        h.did)
        h.line (subst (AllWithin c.longest) (sym (same_given p q (read_as (frame_of c.role c.longest octets)) may)) h.within);
    hears = λ o os p q out may h. record {
      before = h.before;
      way = h.way;
      may = h.may;
      left = h.line.left;
      did = did_more c.role h.before p q h.way h.left h.line.left out
          (h.line.did p q (subst (λ (n : ℕ). MayHear p (frame_of (other c.role) n o) q) longest may)) h.did;
      line = h.line.line;
      within = heard_keeps (λ given sent. AllWithin c.longest given) p q (read_as (frame_of (other c.role) c.longest o)) may h.within;
      few = h.few;
    };
    loses = λ p out l h. goes_on _ _ p p out out h h.did (one_less c.role h.left l h.line) h.within;
    faultless = λ o os p out ending h never. never;
  }

-- ---- traces

timely : (way : Way) (since : ℕ) → length way ≤ since → since < 64 → length way < 64
timely way since few less = omega (arith, few, less)

one_longer : (way : Way) (what : Option PlainFrame) (since : ℕ) → length way ≤ since → length (way ++ what ∷ []) ≤ since + 1
one_longer way what since few = let e = length-append way (what ∷ []) in omega (arith, e, few)

module _ (c : LinkSettings) (high : c.window ≤ 7) (longest : c.longest ≡ n1) (reads : ReadsSpelled) (laws : Laws) (hands : EachEventHandsOne) where
  abbrev Watches : Watched → Type 0
  Watches w = Seen c ⊥ (OnTrace c longest w.judge w.since) (our_end w)

  -- the same station, and more of the trace
  moved : (w : Watched) (h : Watches w) (judge : Judge) (shown out back : List (List ℕ)) (since : ℕ) → OnTrace c longest judge since back h.peer out
      → Watches (record { judge = judge; near = w.near; shown = shown; out = out; back = back; since = since })
  moved w h judge shown out back since reached =
      record {
        peer = h.peer;
        reached = reached;
        fits = h.fits;
        room = h.room;
        told = h.told;
        within = h.within;
        down = h.down;
        up = h.up;
        fine = λ never. absurd never;
      }

  watched : (w : Watched) → IsAny c w → w.near.came_up ≡ false → Watches w
  watched w (Begins j up) once =
      record {
        peer = fresh_peer;
        reached = record {
          before = fresh_peer;
          way = [];
          may = sessions.SetUp j (up c.role);
          left = [];
          did = nothing c.role fresh_peer [];
          line = λ p. nothing c.role p [];
          within = tt;
          few = omega arith;
        };
        fits = inl (record {
          up = refl;
          sound = record { place_low = omega arith; place_high = omega arith; sent_high = omega arith; room = omega arith };
          same = refl;
        });
        room = omega arith;
        told = omega arith;
        within = tt;
        down = refl;
        up = refl;
        fine = λ never. absurd never;
      }
  watched w (Acts v act h) once =
      let one : HandsOne act (our_end v) (acts c act (our_end v)) = hands c c (Near act) (our_end v) in
      let k = peer_acts c high reads laws ⊥ (OnTrace c longest v.judge v.since) (trace_may c longest v.judge v.since) act (our_end v)
      (watched v h (noted_before act v.near.came_up (acts c act (our_end v)).near.came_up one.came_up once)) once in
      record { peer = k.peer; reached = k.reached; fits = k.fits; room = k.room; told = k.told; within = k.within; down = k.down; up = k.up; fine = k.fine }
  watched w (Rests v out back h) once =
      let k = watched v h once in
      let r = k.reached in
      let done = both c.role (subst (λ (o : List (List ℕ)). Did c.role r.before r.way k.peer r.left o) out r.did)
      (subst (λ (o : List (List ℕ)). OnLine c.role r.left o) back r.line k.peer) in
      moved v k v.judge v.shown v.out v.back 0
      (record {
        before = k.peer;
        way = [];
        may = at_front c.role v.judge r.before k.peer r.way [] done r.may;
        left = [];
        did = subst (λ (o : List (List ℕ)). Did c.role k.peer [] k.peer [] o) (sym out) (nothing c.role k.peer []);
        line = subst (λ (o : List (List ℕ)). OnLine c.role [] o) (sym back) (λ p. nothing c.role p []);
        within = r.within;
        few = omega arith;
      })
  watched w (Says v line octets frame rest out shows is h) once =
      let k = watched v h once in
      let r = k.reached in
      let f : Front c.role octets r.before r.way (λ s way. Did c.role s way k.peer r.left rest) =
      subst (λ (o : List (List ℕ)). Did c.role r.before r.way k.peer r.left o) out r.did in
      let may = at_front c.role v.judge r.before f.before r.way f.on_way f.quiet r.may in
      moved v k w.judge v.shown rest v.back v.since
      (record {
        before = f.after;
        way = f.on_way;
        may = sessions.Says v.judge In In f.before f.after f.on_way f.on_way line octets frame shows
            (numbered frame f.after refl (numbered_front c.role f.before f.after octets frame shows.reads is f.sends)) may;
        left = r.left;
        did = f.did;
        line = r.line;
        within = r.within;
        few = le_trans f.quiet.few r.few;
      })
  watched w (Comes v line octets frame shows is passes lags h) once =
      let k = watched v h once in
      let r = k.reached in
      moved v k w.judge w.shown v.out (v.back ++ octets ∷ []) (v.since + 1)
      (record {
        before = r.before;
        way = r.way ++ Some frame ∷ [];
        may = sessions.Shown v.judge In r.before r.way line octets frame shows (timely r.way v.since r.few lags) r.may;
        left = r.left ++ Some frame ∷ [];
        did = comes_behind c.role r.before k.peer r.way r.left v.out (Some frame) r.did;
        line = one_more c.role r.left v.back octets frame shows.reads r.line;
        within = r.within;
        few = one_longer r.way (Some frame) v.since r.few;
      })
  watched w (Fails v line octets damage broken lags h) once =
      let k = watched v h once in
      let r = k.reached in
      moved v k w.judge v.shown v.out (v.back ++ octets ∷ []) (v.since + 1)
      (record {
        before = r.before;
        way = r.way ++ None ∷ [];
        may = sessions.Fails v.judge In r.before r.way line octets None broken (timely r.way v.since r.few lags) r.may;
        left = r.left ++ None ∷ [];
        did = comes_behind c.role r.before k.peer r.way r.left v.out None r.did;
        line = one_more_damaged c.role r.left v.back octets broken.visible r.line;
        within = r.within;
        few = one_longer r.way None v.since r.few;
      })

pub no_station_is_accused : ReadsSpelled → Laws → EachEventHandsOne → NoSessionIsAccused → NoStationIsAccused
no_station_is_accused reads laws hands fair c high longest w any once line octets frame rest out shows is =
    let k = watched c high longest reads laws hands w any once in
    let r = k.reached in
    let f : Front c.role octets r.before r.way (λ s way. Did c.role s way k.peer r.left rest) =
    subst (λ (o : List (List ℕ)). Did c.role r.before r.way k.peer r.left o) out r.did in
    fair c.role w.judge In In f.before f.after f.on_way f.on_way line octets frame (at_front c.role w.judge r.before f.before r.way f.on_way f.quiet r.may)
    shows
    (numbered frame f.after refl (numbered_front c.role f.before f.after octets frame shows.reads is f.sends))

-- Each of two stations is a peer of the other, after each list of events that doesn't set the link up anew.
use Rattle.x25_line.proofs.Names.{◌≡◌, ℕ, List, [], ◌∷◌, length, false, refl, sym, subst, nat_le, ReadsSpelled, LinkSettings, put_refusal, StationEnd, Stations}
use Rattle.x25_line.proofs.Names.{Act, Put, Deliver, Lose, Damage, LinkEvent, Near, Far, is_visible, stations_swapped, AreJoined, IsSetUpOnce, Peer, Laws}
use Rattle.x25_line.proofs.{Choices.{unless_both, if_both, own_both}, Names.{our_end, Ours, HandsDown, Sends, Hears, ReachedOnce, at_start, goes_on}}
use Rattle.x25_line.proofs.{StationEvents.{each_hands_one}, StationPeers.{Seen, seen_so, start_seen, peer_acts}}
use Rattle.x25_line.{proofs.StationRuns.{joined_swapped, there, here, once_before}, proofs.StationSays.{MayDo}, specs.laws.PeerJoined.{with_peer, Loses}}
use Rattle.x25_line.specs.laws.{StationClaims.{Always}, StationPeers.{AreBothPeers}, Stations.{after_step, delivered, acts, happens, run}}

-- ---- what the station does that sees the peer

-- an act looks at nothing of the other end
abbrev SameBut : Peer → Stations → Stations → Type 0
SameBut p w v = with_peer p w ≡ with_peer p v

alike_delivered : (c : LinkSettings) (p : Peer) (w : Stations) (os : List (List ℕ)) → SameBut p (delivered c os w) (delivered c os (our_end (with_peer p w)))
alike_delivered c p w [] = refl
alike_delivered c p w (o ∷ os) = refl

alike : (c : LinkSettings) (p : Peer) (a : Act) (w : Stations) → SameBut p (acts c a w) (acts c a (our_end (with_peer p w)))
alike c p (Put packet) w = if_both (SameBut p) (nat_le (length packet) c.longest) refl (unless_both (SameBut p) (put_refusal w.near.station) refl refl)
alike c p Deliver w = alike_delivered c p w w.back
alike c p (Lose i) w = refl
alike c p (Damage i octets) w = if_both (SameBut p) (is_visible octets) refl refl
alike c p act w = (let x = our_end (with_peer p w) in
    own_both (SameBut p) c w.near.station w x (after_step c w w.back []) (after_step c x w.back []) refl (λ step. refl) act)

-- ---- one station sees the other as a peer

abbrev IsPeerOf : LinkSettings → StationEnd → List (List ℕ) → Peer → List (List ℕ) → Type 0
IsPeerOf c near os p out = ReachedOnce ⊥ c (record { near = near; peer = p; out = os; back = out })

-- the near end of w, with settings d, seen by the far end, with settings c
abbrev SeenBy : LinkSettings → LinkSettings → Stations → Type 0
SeenBy c d w = Seen d ⊥ (IsPeerOf c w.far) w

-- each sees the other
abbrev Both : LinkSettings → LinkSettings → Stations → Type 0
Both c d w = SeenBy d c w × SeenBy c d (stations_swapped w)

peer_may : {c d : LinkSettings} → AreJoined c d → (near : StationEnd) → MayDo d ⊥ (IsPeerOf c near)
peer_may {c} {d} joined near = record {
  handed = λ os p out packet short h. goes_on _ _ h (HandsDown packet);
  sends = λ os p q out octets may next h. goes_on _ _ h (Sends octets q (rw (sym (there joined octets)) may));
  hears = λ o os p q out may h. goes_on _ _ h (Hears o os q refl (rw (sym (here joined o)) may));
  loses = λ {i} p out l h. goes_on _ _ h (Loses i _ l);
  faultless = λ o os p out ending h never. never;
}

module _ (reads : ReadsSpelled) (laws : Laws) where
  act_both : {c d : LinkSettings} → AreJoined c d → (a : Act) {w : Stations} → (acts c a w).near.came_up ≡ false → Both c d w → Both c d (acts c a w)
  act_both {c} {d} joined a {w} once (own, other_one) =
      let far = (each_hands_one c d (Near a) w).far in (
        rw far (peer_acts c joined.near_high reads laws ⊥ (IsPeerOf d w.far) (peer_may (joined_swapped joined) w.far) a w own once),
        seen_so far other_one (subst (ReachedOnce ⊥ c) (sym (alike c other_one.peer a w)) (goes_on _ _ other_one.reached (Ours a))),
      )

  event_both : {c d : LinkSettings} → AreJoined c d → (e : LinkEvent) {w : Stations} → IsSetUpOnce (happens c d e w) → Both c d w → Both c d (happens c d e w)
  event_both joined (Near a) once h = act_both joined a once.near h
  event_both joined (Far a) once h = (let k = act_both (joined_swapped joined) a once.far (h.1, h.0) in (k.1, k.0))

  run_both : {c d : LinkSettings} → AreJoined c d → (es : List LinkEvent) {w : Stations} → IsSetUpOnce (run c d es w) → Both c d w → Both c d (run c d es w)
  run_both joined [] once h = h
  run_both {c} {d} joined (e ∷ es) {w} once h = run_both joined es once (event_both joined e (once_before c d es (happens c d e w) once) h)

  pub both_peers : Always AreBothPeers
  both_peers c d joined events once =
      let k = run_both joined events once (start_seen at_start, start_seen at_start) in (
        record { peer = k.0.peer; reached = k.0.reached; given = k.0.down; taken = k.0.up },
        record { peer = k.1.peer; reached = k.1.reached; given = k.1.down; taken = k.1.up },
      )

-- The rules of all channels are those of a peer's packet layer, and no more than is named beyond.
use Rattle.x25_possible_peers.proofs.Names.{◌≡◌, ℕ, ◌==◌, Bool, true, false, [], ◌∷◌, Some, refl, sym, ap, subst, ◌∙◌, if◌then◌else◌, eqb-true, eq-eqb}
use Rattle.x25_possible_peers.proofs.Names.{none-some, Role, More, Last, At, PeerCall, sends_as, takes, Phase, item_of}
use Rattle.x25_handshakes.specs.laws.{Layers.{LayerPacket}, PeerLayer.{PeerChannels, peer_fresh, ready_taking, restarting_taking}}
use Rattle.x25_possible_peers.proofs.AsPeerLemmas.{Owed, clear, reset, owes_is, fresh_peer_is, end_goes, on_may, end_takes, on_takes, same_some}
use Rattle.x25_possible_peers.proofs.LayerTapeLemmas.{in_phase, sends_elsewhere, takes_restart, takes_confirmation, drops}
use Rattle.x25_possible_peers.specs.laws.{AsPeers.{End, Stands, Owes, IsAt}, LayerAsPeers.{RestartRulesArePeers}, LayerPeers.{item_on, comes_on}}
use Rattle.x25_possible_peers.specs.laws.LayerAsPeers.{LayerEnd, Ready, Restarting, OwesRestart, peers, put_end, AreAt, AreTaken, LayerSends, LayerTakes}
use Rattle.x25_handshakes.specs.laws.Layers as layers
use Rattle.x25_handshakes.specs.laws.Stretch as theirs
use Rattle.x25_possible.specs.declared.packet.Packet.TheVariants as item
use Rattle.x25_possible.specs.declared.phase.Phase.TheVariants as phase
use Rattle.x25_possible_peers.specs.laws.LayerAsPeers as as_peers

-- ---- packets of no channel, or of another

elsewhere_stays : (t : ℕ) (s u : Phase) → sends_as t s item.Elsewhere ≡ Some u → u ≡ s
elsewhere_stays t phase.Idle u h = sym (same_some phase.Idle u h)
elsewhere_stays t (phase.Calls terms) u h = sym (same_some (phase.Calls terms) u h)
elsewhere_stays t (phase.WasCalled terms) u h = sym (same_some (phase.WasCalled terms) u h)
elsewhere_stays t (phase.Talks k) u h = sym (same_some (phase.Talks k) u h)
elsewhere_stays t (phase.Resets limits) u h = sym (same_some (phase.Resets limits) u h)
elsewhere_stays t (phase.WasReset limits) u h = sym (same_some (phase.WasReset limits) u h)
elsewhere_stays t phase.Clears u h = sym (same_some phase.Clears u h)
elsewhere_stays t phase.WasCleared u h = sym (same_some phase.WasCleared u h)
elsewhere_stays t phase.Restarts u h = absurd (none-some u h)
elsewhere_stays t phase.WasRestarted u h = absurd (none-some u h)

restart_goes : (t : ℕ) (s : Phase) → sends_as t s item.Restart ≡ Some phase.Restarts
restart_goes t phase.Idle = refl
restart_goes t (phase.Calls terms) = refl
restart_goes t (phase.WasCalled terms) = refl
restart_goes t (phase.Talks k) = refl
restart_goes t (phase.Resets limits) = refl
restart_goes t (phase.WasReset limits) = refl
restart_goes t phase.Clears = refl
restart_goes t phase.WasCleared = refl
restart_goes t phase.Restarts = refl
restart_goes t phase.WasRestarted = refl

-- behind RESTART all else waits
silent : (t : ℕ) (p : theirs.Packet) (u : Phase) → sends_as t phase.Restarts (item_of p) ≡ Some u → ⊥
silent t (theirs.Data ns nr (More q user)) u h = none-some u h
silent t (theirs.Data ns nr (Last q user)) u h = none-some u h
silent t p u h = none-some u h

owing : (t : ℕ) (p : theirs.Packet) (u : Phase) → sends_as t phase.WasRestarted (item_of p) ≡ Some u → ⊥
owing t (theirs.Data ns nr (More q user)) u h = none-some u h
owing t (theirs.Data ns nr (Last q user)) u h = none-some u h
owing t p u h = none-some u h

-- ---- in r1

module _ (r : Role) where
  at_unique : (a : End) (s u : Phase) → IsAt r a s → IsAt r a u → u ≡ s
  at_unique (Stands y) s u at after = after.1 ∙ sym at.1
  at_unique (Owes y q) s u at after = sym after.1 ∙ at.1

  ElsewhereGoes : Phase → Type 0
  ElsewhereGoes s = sends_as 0 s item.Elsewhere ≡ Some s

  owed_elsewhere : (y : At PeerCall) (q : theirs.Packet) (s : Phase) → Owed y q s → ElsewhereGoes s
  unfolding ElsewhereGoes
  owed_elsewhere _ _ _ (clear e c) = refl
  owed_elsewhere _ _ _ (reset e k m i t b y) = refl

  elsewhere_goes : (a : End) (s : Phase) → IsAt r a s → sends_as 0 s item.Elsewhere ≡ Some s
  unfolding ElsewhereGoes
  elsewhere_goes (Stands y) s at = subst (λ z. sends_as 0 z item.Elsewhere ≡ Some z) (sym at.1) (sends_elsewhere y.side)
  elsewhere_goes (Owes y q) s at = owed_elsewhere y q s (owes_is r y q s at)

  abbrev NoConfirmation : Phase → Type 0
  NoConfirmation s = (t : ℕ) (u : Phase) → sends_as t s item.RestartConf ≡ Some u → ⊥

  owed_confirmation : (y : At PeerCall) (q : theirs.Packet) (s : Phase) → Owed y q s → NoConfirmation s
  owed_confirmation _ _ _ (clear e c) t u h = none-some u h
  owed_confirmation _ _ _ (reset e k m i n b y) t u h = none-some u h

  no_confirmation : (a : End) (s : Phase) → IsAt r a s → NoConfirmation s
  no_confirmation (Stands y) s at =
      subst NoConfirmation (sym at.1)
      (in_phase NoConfirmation (λ t u h. none-some u h) (λ n t u h. none-some u h) (λ n t u h. none-some u h) (λ k t u h. none-some u h)
      (λ l t u h. none-some u h) (λ t u h. none-some u h) y.side)
  no_confirmation (Owes y q) s at = owed_confirmation y q s (owes_is r y q s at)

  owed_restart : (y : At PeerCall) (q : theirs.Packet) (s : Phase) → Owed y q s → takes r s item.Restart ≡ phase.WasRestarted
  owed_restart _ _ _ (clear e c) = refl
  owed_restart _ _ _ (reset e k m i n b y) = refl

  restart_comes : (a : End) (s : Phase) → IsAt r a s → takes r s item.Restart ≡ phase.WasRestarted
  restart_comes (Stands y) s at = ap (λ z. takes r z item.Restart) at.1 ∙ takes_restart r y.side
  restart_comes (Owes y q) s at = owed_restart y q s (owes_is r y q s at)

  owed_stray : (y : At PeerCall) (q : theirs.Packet) (s : Phase) → Owed y q s → takes r s item.RestartConf ≡ s
  owed_stray _ _ _ (clear e c) = refl
  owed_stray _ _ _ (reset e k m i n b y) = refl

  stray_comes : (a : End) (s : Phase) → IsAt r a s → takes r s item.RestartConf ≡ s
  stray_comes (Stands y) s at = ap (λ z. takes r z item.RestartConf) at.1 ∙ takes_confirmation r y.side ∙ sym at.1
  stray_comes (Owes y q) s at = owed_stray y q s (owes_is r y q s at)

-- ---- on one channel, where the others stay

module _ (r : Role) (a : ℕ → End) (k : ℕ) (s u : ℕ → Phase) (at : (h : ℕ) → IsAt r (a h) (s h)) where
  -- what is there then
  put_at : (b : End) → IsAt r b (u k) → ((h : ℕ) → (h == k) ≡ false → u h ≡ s h) → (h : ℕ) → IsAt r (put_end a k b h) (u h)
  put_at b there others h = by (h == k) refl
    where
      by : (c : Bool) → (h == k) ≡ c → IsAt r (if c then b else a h) (u h)
      by true is = subst (λ j. IsAt r b (u j)) (sym (eqb-true h k is)) there
      by false is = subst (λ z. IsAt r (a h) z) (sym (others h is)) (at h)

  from_put : (b : End) → ((h : ℕ) → IsAt r (put_end a k b h) (u h)) → IsAt r b (u k)
  from_put b after = subst (λ c. IsAt r (if c then b else a k) (u k)) (eq-eqb k k refl) (after k)

  from_other : (b : End) → ((h : ℕ) → IsAt r (put_end a k b h) (u h)) → (h : ℕ) → (h == k) ≡ false → u h ≡ s h
  from_other b after h is = at_unique r (a h) (s h) (u h) (at h) (subst (λ c. IsAt r (if c then b else a h) (u h)) is (after h))

  abbrev Sent : theirs.Packet → ℕ → Type 0
  Sent p h = (t : ℕ) × (sends_as t (s h) (item_on h (layers.On k p)) ≡ Some (u h))

  sent_here : (p : theirs.Packet) → Sent p k → (t : ℕ) × (sends_as t (s k) (item_of p) ≡ Some (u k))
  sent_here p g = (g.0, ap (λ c. sends_as g.0 (s k) (if c then item_of p else item.Elsewhere)) (sym (eq-eqb k k refl)) ∙ g.1)

  sent_other : (p : theirs.Packet) → ((h : ℕ) → Sent p h) → (h : ℕ) → (h == k) ≡ false → u h ≡ s h
  sent_other p goes h is =
      elsewhere_stays (goes h).0 (s h) (u h)
      (ap (λ c. sends_as (goes h).0 (s h) (if c then item_of p else item.Elsewhere)) (sym is) ∙ (goes h).1)

  sends_there : (p : theirs.Packet) → (t : ℕ) × (sends_as t (s k) (item_of p) ≡ Some (u k)) → ((h : ℕ) → (h == k) ≡ false → u h ≡ s h)
      → (h : ℕ) → Sent p h
  sends_there p here others h = by (h == k) refl
    where
      by : (c : Bool) → (h == k) ≡ c → (t : ℕ) × (sends_as t (s h) (if c then item_of p else item.Elsewhere) ≡ Some (u h))
      by true is = subst (λ j. (t : ℕ) × (sends_as t (s j) (item_of p) ≡ Some (u j))) (sym (eqb-true h k is)) here
      by false is = (0, elsewhere_goes r (a h) (s h) (at h) ∙ ap (λ z. Some z) (sym (others h is)))

  abbrev Taken : theirs.Packet → ℕ → Type 0
  Taken p h = AreTaken r (s h) (comes_on h (layers.On k p)) (u h)

  taken_here : (p : theirs.Packet) → Taken p k → takes r (s k) (item_of p) ≡ u k
  taken_here p g = subst (λ c. AreTaken r (s k) (if c then item_of p ∷ [] else []) (u k)) (eq-eqb k k refl) g

  taken_other : (p : theirs.Packet) → ((h : ℕ) → Taken p h) → (h : ℕ) → (h == k) ≡ false → u h ≡ s h
  taken_other p goes h is = subst (λ c. AreTaken r (s h) (if c then item_of p ∷ [] else []) (u h)) is (goes h)

  takes_there : (p : theirs.Packet) → takes r (s k) (item_of p) ≡ u k → ((h : ℕ) → (h == k) ≡ false → u h ≡ s h)
      → (h : ℕ) → Taken p h
  takes_there p here others h = by (h == k) refl
    where
      by : (c : Bool) → (h == k) ≡ c → AreTaken r (s h) (if c then item_of p ∷ [] else []) (u h)
      by true is = subst (λ j. takes r (s j) (item_of p) ≡ u j) (sym (eqb-true h k is)) here
      by false is = others h is

-- ---- what it sends

fresh_at : (r : Role) (u : ℕ → Phase) → ((h : ℕ) → u h ≡ phase.Idle) → (h : ℕ) → IsAt r (Stands (peer_fresh h)) (u h)
fresh_at r u idle h = (fresh_peer_is r, idle h)

layer_goes : (r : Role) (a : LayerEnd) (p : LayerPacket) (s u : ℕ → Phase) → AreAt r a s
    → ((h : ℕ) → (t : ℕ) × (sends_as t (s h) (item_on h p) ≡ Some (u h))) → (b : LayerEnd) × LayerSends r a p b × AreAt r b u
layer_goes r (Ready e a) (layers.On k p) s u at goes =
    let b = end_goes r (a k) p (s k) (u k) (at k) (sent_here r a k s u at p (goes k)) in
    (Ready e (put_end a k b.0), as_peers.on_channel e k a p b.0 b.1, put_at r a k s u at b.0 b.2 (sent_other r a k s u at p goes))
layer_goes r (Ready e a) layers.Restart s u at goes =
    (Restarting e (peers a), as_peers.restarts e a tt, λ h. same_some (u h) phase.Restarts (sym (goes h).1 ∙ restart_goes (goes h).0 (s h)))
layer_goes r (Ready e a) layers.RestartConf s u at goes = absurd (no_confirmation r (a 0) (s 0) (at 0) (goes 0).0 (u 0) (goes 0).1)
layer_goes r (Restarting e y) (layers.On k p) s u at goes =
    absurd (silent (goes k).0 p (u k) (
    ap (λ c. sends_as (goes k).0 phase.Restarts (if c then item_of p else item.Elsewhere)) (sym (eq-eqb k k refl))
    ∙ ap (λ z. sends_as (goes k).0 z (item_on k (layers.On k p))) (sym (at k)) ∙ (goes k).1))
layer_goes r (Restarting e y) layers.Restart s u at goes = (
  Restarting e y,
  as_peers.beyond _ _ layers.Restart (as_peers.restarts_again e y),
  λ h. same_some (u h) phase.Restarts (sym (goes h).1 ∙ restart_goes (goes h).0 (s h)),
)
layer_goes r (Restarting e y) layers.RestartConf s u at goes =
    absurd (none-some (u 0) (ap (λ z. sends_as (goes 0).0 z item.RestartConf) (sym (at 0)) ∙ (goes 0).1))
layer_goes r (OwesRestart e y) (layers.On k p) s u at goes =
    absurd (owing (goes k).0 p (u k) (
    ap (λ c. sends_as (goes k).0 phase.WasRestarted (if c then item_of p else item.Elsewhere)) (sym (eq-eqb k k refl))
    ∙ ap (λ z. sends_as (goes k).0 z (item_on k (layers.On k p))) (sym (at k)) ∙ (goes k).1))
layer_goes r (OwesRestart e y) layers.Restart s u at goes = (
  Restarting e y,
  as_peers.beyond _ _ layers.Restart (as_peers.unanswered e y),
  λ h. same_some (u h) phase.Restarts (sym (goes h).1 ∙ restart_goes (goes h).0 (s h)),
)
layer_goes r (OwesRestart e y) layers.RestartConf s u at goes = (
  as_peers.standing (ready_taking r e y layers.Restart).next,
  as_peers.answers e y layers.RestartConf refl,
  fresh_at r u (λ h. sym (same_some phase.Idle (u h) (ap (λ z. sends_as (goes h).0 z item.RestartConf) (sym (at h)) ∙ (goes h).1))),
)

answer_is : (p : LayerPacket) → layers.RestartConf ∷ [] ≡ p ∷ [] → p ≡ layers.RestartConf
answer_is p h = cc

layer_may : (r : Role) (a b : LayerEnd) (p : LayerPacket) → LayerSends r a p b → (s u : ℕ → Phase) → AreAt r a s → AreAt r b u
    → (h : ℕ) → (t : ℕ) × (sends_as t (s h) (item_on h p) ≡ Some (u h))
layer_may r _ _ _ (as_peers.on_channel e k a p b may) s u at after h =
    sends_there r a k s u at p (on_may r (a k) b p may (s k) (u k) (at k) (from_put r a k s u at b after)) (from_other r a k s u at b after) h
layer_may r _ _ _ (as_peers.restarts e a may) s u at after h = (0, restart_goes 0 (s h) ∙ ap (λ z. Some z) (sym (after h)))
layer_may r _ _ _ (as_peers.answers e y p out) s u at after h =
    (0, ap (λ q. sends_as 0 (s h) (item_on h q)) (answer_is p out) ∙ ap (λ z. sends_as 0 z item.RestartConf) (at h) ∙ ap (λ z. Some z) (sym (after h).1))
layer_may r _ _ _ (as_peers.beyond _ _ _ (as_peers.restarts_again e y)) s u at after h = (0, restart_goes 0 (s h) ∙ ap (λ z. Some z) (sym (after h)))
layer_may r _ _ _ (as_peers.beyond _ _ _ (as_peers.unanswered e y)) s u at after h = (0, restart_goes 0 (s h) ∙ ap (λ z. Some z) (sym (after h)))

-- ---- what it makes of what comes

layer_takes : (r : Role) (a : LayerEnd) (p : LayerPacket) (s u : ℕ → Phase) → AreAt r a s
    → ((h : ℕ) → AreTaken r (s h) (comes_on h p) (u h)) → (b : LayerEnd) × LayerTakes r a p b × AreAt r b u
layer_takes r (Ready e a) (layers.On k p) s u at goes =
    let b = end_takes r (a k) p (s k) (u k) (at k) (taken_here r a k s u at p (goes k)) in
    (Ready e (put_end a k b.0), as_peers.on_channel e k a p b.0 b.1, put_at r a k s u at b.0 b.2 (taken_other r a k s u at p goes))
layer_takes r (Ready e a) layers.Restart s u at goes = (
  OwesRestart e (peers a),
  as_peers.restarted e a layers.RestartConf refl,
  λ h. sym (goes h) ∙ restart_comes r (a h) (s h) (at h),
)
layer_takes r (Ready e a) layers.RestartConf s u at goes = (
  Ready e a,
  as_peers.strays e a,
  λ h. subst (λ z. IsAt r (a h) z) (sym (stray_comes r (a h) (s h) (at h)) ∙ goes h) (at h),
)
layer_takes r (Restarting e y) (layers.On k p) s u at goes = (Restarting e y, as_peers.waits e y (layers.On k p) refl, λ h. by h (h == k) (goes h))
  where
    by : (h : ℕ) (c : Bool) → AreTaken r (s h) (if c then item_of p ∷ [] else []) (u h) → u h ≡ phase.Restarts
    by h true g = sym g ∙ ap (λ z. takes r z (item_of p)) (at h) ∙ drops r p
    by h false g = g ∙ at h
layer_takes r (Restarting e y) layers.Restart s u at goes = (
  as_peers.standing (restarting_taking e y layers.Restart).next,
  as_peers.waits e y layers.Restart refl,
  fresh_at r u (λ h. sym (goes h) ∙ ap (λ z. takes r z item.Restart) (at h)),
)
layer_takes r (Restarting e y) layers.RestartConf s u at goes = (
  as_peers.standing (restarting_taking e y layers.RestartConf).next,
  as_peers.waits e y layers.RestartConf refl,
  fresh_at r u (λ h. sym (goes h) ∙ ap (λ z. takes r z item.RestartConf) (at h)),
)
layer_takes r (OwesRestart e y) (layers.On k p) s u at goes =
    (OwesRestart e y, as_peers.drops e y (layers.On k p), λ h. by h (h == k) (goes h))
  where
    by : (h : ℕ) (c : Bool) → AreTaken r (s h) (if c then item_of p ∷ [] else []) (u h) → u h ≡ phase.WasRestarted
    by h true g = sym g ∙ ap (λ z. takes r z (item_of p)) (at h)
    by h false g = g ∙ at h
layer_takes r (OwesRestart e y) layers.Restart s u at goes =
    (OwesRestart e y, as_peers.drops e y layers.Restart, λ h. sym (goes h) ∙ ap (λ z. takes r z item.Restart) (at h))
layer_takes r (OwesRestart e y) layers.RestartConf s u at goes =
    (OwesRestart e y, as_peers.drops e y layers.RestartConf, λ h. sym (goes h) ∙ ap (λ z. takes r z item.RestartConf) (at h))

dropped_taken : (r : Role) (p : LayerPacket) (h : ℕ) (s u : Phase) → s ≡ phase.WasRestarted → u ≡ phase.WasRestarted
    → AreTaken r s (comes_on h p) u
dropped_taken r (layers.On k p) h s u at after = by (h == k)
  where
    by : (c : Bool) → AreTaken r s (if c then item_of p ∷ [] else []) u
    by true = ap (λ z. takes r z (item_of p)) at ∙ sym after
    by false = after ∙ sym at
dropped_taken r layers.Restart h s u at after = ap (λ z. takes r z item.Restart) at ∙ sym after
dropped_taken r layers.RestartConf h s u at after = ap (λ z. takes r z item.RestartConf) at ∙ sym after

waits_taken : (r : Role) (e : ℕ) (y : PeerChannels) (p : LayerPacket) (s u : ℕ → Phase) → AreAt r (Restarting e y) s
    → AreAt r (as_peers.standing (restarting_taking e y p).next) u
    → (h : ℕ) → AreTaken r (s h) (comes_on h p) (u h)
waits_taken r e y (layers.On k p) s u at after h = by (h == k)
  where
    by : (c : Bool) → AreTaken r (s h) (if c then item_of p ∷ [] else []) (u h)
    by true = ap (λ z. takes r z (item_of p)) (at h) ∙ drops r p ∙ sym (after h)
    by false = after h ∙ sym (at h)
waits_taken r e y layers.Restart s u at after h = ap (λ z. takes r z item.Restart) (at h) ∙ sym (after h).1
waits_taken r e y layers.RestartConf s u at after h = ap (λ z. takes r z item.RestartConf) (at h) ∙ sym (after h).1

layer_taken : (r : Role) (a b : LayerEnd) (p : LayerPacket) → LayerTakes r a p b → (s u : ℕ → Phase) → AreAt r a s → AreAt r b u
    → (h : ℕ) → AreTaken r (s h) (comes_on h p) (u h)
layer_taken r _ _ _ (as_peers.on_channel e k a p b may) s u at after h =
    takes_there r a k s u at p (on_takes r (a k) b p may (s k) (u k) (at k) (from_put r a k s u at b after)) (from_other r a k s u at b after) h
layer_taken r _ _ _ (as_peers.restarted e a p out) s u at after h = restart_comes r (a h) (s h) (at h) ∙ sym (after h)
layer_taken r _ _ _ (as_peers.strays e a) s u at after h =
    stray_comes r (a h) (s h) (at h) ∙ sym (at_unique r (a h) (s h) (u h) (at h) (after h))
layer_taken r _ _ _ (as_peers.waits e y p out) s u at after h = waits_taken r e y p s u at after h
layer_taken r _ _ _ (as_peers.drops e y p) s u at after h = dropped_taken r p h (s h) (u h) (at h) (after h)

pub restart_rules : RestartRulesArePeers
restart_rules = record {
  sends = λ r a p s u at. (layer_goes r a p s u at, λ goes. layer_may r a goes.0 p goes.1 s u at goes.2);
  takes = λ r a p s u at. (layer_takes r a p s u at, λ goes. layer_taken r a goes.0 p goes.1 s u at goes.2);
}

-- Each act of a station, as long as it does not note LinkUp, is what a peer may do.
use Rattle.x25_line.proofs.Names.{◌≡◌, ℕ, ◌+◌, ◌≤◌, List, [], ◌∷◌, ◌++◌, inl, inr, length, false, Option, Some, None, Result, refl, sym, ap, ◌∙◌, subst, arith}
use Rattle.x25_line.proofs.Names.{append-nil, option_to_list, PlainFrame, frame_of, ReadsSpelled, FrameError, after, HandDown, Reason, FrmrSent, Reset}
use Rattle.x25_line.proofs.Names.{LinkSettings, LinkStation, is_up, LinkStep, other, take_step, put_step, Window, Input, window_of, after_input, ending_of}
use Rattle.x25_line.proofs.{Lists.{each_append}, Names.{brought_by, Stays, Follows, Stations, Act, start, Laws, said, sabm_of, Peer, fresh_peer, MayHear, Each}}
use Rattle.x25_line.proofs.{StationActs.{OfSteps, of_act}, StationAway.{is_up_phase, frmr_three}, StationHears.{passes, Hears, stays_hears, left_by, by_reset}}
use Rattle.x25_line.proofs.{StationLines.{parts_of}, StationRuns.{fresh_sound}}
use Rattle.x25_line.proofs.{StationSays.{machine_of, MayDo, AllFree, parting_free, frmr_free, free_all, runs_said}, StationSends.{AllWithin, within_push}}
use Rattle.x25_line.proofs.StationSteps.{AsUp, IsAway, FitsEnd, no_packet_of, Leaves, Noted, left_up, stays_out, in_vain, Parts, ends_parts, empty_lists}
use Rattle.x25_line.specs.laws.{PeerClaims.{IsNoFrmr}, Stations.{after_step, acts}}
use Rattle.x25_link.specs.laws.{WindowLaw.{Ends}, WindowMachine.{hands_down, nothing}}

-- the near end of w, with settings d, as a peer of which R is known
pub record Seen (d : LinkSettings) (Fine : Type 0) (R : List (List ℕ) → Peer → List (List ℕ) → Type 0) (w : Stations) : Type 0 where
  pub peer : Peer
  pub reached : R w.back peer w.out
  pub fits : FitsEnd d w.near.station (machine_of d.window peer)
  pub room : peer.sent ≤ peer.acked + d.window
  pub told : peer.told ≤ length peer.taken
  pub within : AllWithin d.longest peer.given
  pub down : peer.given ≡ w.near.down
  pub up : peer.taken ≡ w.near.up
  pub fine : Fine → Each IsNoFrmr w.near.reasons

-- it is seen so in another world, where this is known of it there
pub seen_so : {d : LinkSettings} {Fine : Type 0} {R Q : List (List ℕ) → Peer → List (List ℕ) → Type 0} {w v : Stations} → v.near ≡ w.near
    → (h : Seen d Fine R w) → Q v.back h.peer v.out → Seen d Fine Q v
seen_so same h reached = record {
  peer = h.peer;
  reached = reached;
  fits = rw same h.fits;
  room = h.room;
  told = h.told;
  within = h.within;
  down = rw same h.down;
  up = rw same h.up;
  fine = rw same h.fine;
}

-- as the link was just set up
pub start_seen : {d : LinkSettings} {Fine : Type 0} {R : List (List ℕ) → Peer → List (List ℕ) → Type 0} → R [] fresh_peer [] → Seen d Fine R start
start_seen {d} reached = record {
  peer = fresh_peer;
  reached = reached;
  fits = inl (record { up = refl; sound = fresh_sound d.window; same = refl });
  room = omega arith;
  told = omega arith;
  within = tt;
  down = refl;
  up = refl;
  fine = λ f. tt;
}

leaves_no_frmr : (reason : Reason) → Leaves reason → IsNoFrmr reason
leaves_no_frmr FrmrSent l = absurd l
leaves_no_frmr Reset l = absurd l
leaves_no_frmr reason l = tt

no_frmr_noted : {s : LinkStation} {step : LinkStep} → Noted s step → Each IsNoFrmr (option_to_list step.notes.down)
no_frmr_noted (left_up reason leaves up down not_up) = rw down (leaves_no_frmr reason leaves, tt)
no_frmr_noted (stays_out out quiet) = rw quiet tt
no_frmr_noted (in_vain waits down not_up) = rw down (tt, tt)

module _ (d : LinkSettings) (high : d.window ≤ 7) (reads : ReadsSpelled) (laws : Laws) (Fine : Type 0) (R : List (List ℕ) → Peer → List (List ℕ) → Type 0)
    (does : MayDo d Fine R) where
  abbrev S : Stations → Type 0
  S w = Seen d Fine R w

  -- the peer once what comes has come, before it sends
  record Ready (w : Stations) (os down : List (List ℕ)) (packet : Option (List ℕ)) (v : Window) : Type 0 where
    pub peer : Peer
    pub reached : R os peer w.out
    pub is : machine_of d.window peer ≡ v
    pub room : peer.sent ≤ peer.acked + d.window
    pub told : peer.told ≤ length peer.taken
    pub within : AllWithin d.longest peer.given
    pub down_is : peer.given ≡ w.near.down ++ down
    pub up_is : peer.taken ≡ w.near.up ++ option_to_list packet

  -- the station stays Up, and sends
  stays_seen : {w : Stations} (h : S w) {os down : List (List ℕ)} {input : Input} {step : LinkStep}
      → Ready w os down step.packet (after_input input step.packet (window_of d.window w.near.station))
      → Stays d.window input w.near.station step → S (after_step d w os down step)
  stays_seen {w} h {os} {down} {input} {step} r stays =
      let said = runs_said d high reads Fine R does os w.out r.peer (after_input input step.packet (window_of d.window w.near.station)) r.reached r.is r.room
      r.told r.within
      (window_of d.window step.side.near) step.side.out stays.sends
      in
      record {
        peer = said.peer;
        reached = said.reached;
        fits = inl (record { up = stays.up; sound = stays.sound; same = sym said.is });
        room = said.room;
        told = said.told;
        within = subst (AllWithin d.longest) (sym said.given) r.within;
        down = said.given ∙ r.down_is;
        up = said.taken ∙ r.up_is;
        fine = λ f. each_append IsNoFrmr w.near.reasons (option_to_list step.notes.down) (h.fine f) (rw stays.quiet tt);
      }

  -- it leaves Up or is out, and sends nothing that has a number
  parts_seen : {w : Stations} {os : List (List ℕ)} (step : LinkStep) {v : Window} → Ready w os [] None v → AllFree d.role d.longest step.side.out
      → IsAway step.side.near → step.packet ≡ None
      → (Fine → Each IsNoFrmr (w.near.reasons ++ option_to_list step.notes.down)) → S (after_step d w os [] step)
  parts_seen {w} {os} step r free away none fine =
      record {
        peer = r.peer;
        reached = free_all d high reads Fine R does os w.out step.side.out free r.reached;
        fits = inr away;
        room = r.room;
        told = r.told;
        within = r.within;
        down = r.down_is;
        up = r.up_is ∙ ap (λ o. w.near.up ++ option_to_list o) (sym none);
        fine = fine;
      }

  parting_seen : {w : Stations} (h : S w) {os : List (List ℕ)} {step : LinkStep} {v : Window} → Ready w os [] None v → Parts w.near.station step
      → S (after_step d w os [] step)
  parting_seen {w} h {os} {step} {v} r parts =
      parts_seen step r (parting_free reads d.role d.longest step.side.out (parts_of step.side.out parts.frames)) parts.away parts.packet
      (λ f. each_append IsNoFrmr w.near.reasons (option_to_list step.notes.down) (h.fine f) (no_frmr_noted parts.noted))

  -- ---- what it is before it sends

  left_so : {w : Stations} (h : S w) {os : List (List ℕ)} → R os h.peer w.out → Ready w os [] None (machine_of d.window h.peer)
  left_so {w} h reached =
      record {
        peer = h.peer;
        reached = reached;
        is = refl;
        room = h.room;
        told = h.told;
        within = h.within;
        down_is = h.down ∙ sym (append-nil w.near.down);
        up_is = h.up ∙ sym (append-nil w.near.up);
      }

  module _ (w : Stations) (h : S w) (o : List ℕ) (os : List (List ℕ)) (is : w.back ≡ o ∷ os) where
    -- the front octets come to it
    came : R (o ∷ os) h.peer w.out
    came = rw (sym is) h.reached

    comes : {q : Peer} → MayHear h.peer (frame_of (other d.role) d.longest o) q → R os q w.out
    comes {q} may = does.hears o os h.peer q w.out may came

    -- and are passed over
    passed : Ready w os [] None (machine_of d.window h.peer)
    passed = left_so h (comes (passes h.peer (said (frame_of (other d.role) d.longest o))))

    module _ (u : AsUp d w.near.station (machine_of d.window h.peer)) where
      abbrev s : LinkStation
      s = w.near.station

      abbrev r : Result PlainFrame FrameError
      r = frame_of (other d.role) d.longest o

      abbrev step : LinkStep
      step = take_step d o s

      stays_up : Hears d r s h.peer step → S (after_step d w os [] step)
      stays_up x = stays_seen h (record {
        peer = x.peer;
        reached = comes x.may;
        is = x.is;
        room = x.room;
        told = x.told;
        within = subst (AllWithin d.longest) (sym x.given) h.within;
        down_is = x.given ∙ h.down ∙ sym (append-nil w.near.down);
        up_is = x.taken ∙ ap (λ xs. xs ++ option_to_list step.packet) h.up;
      }) x.stays

      ends_seen : (reason : Reason) → ending_of r (window_of d.window s) ≡ Some reason → sabm_of (said r) ≡ 0 → Ends reason step → S (after_step d w os [] step)
      ends_seen FrmrSent ending no_sabm ends =
          let f = ends.frames.0 in
          let why = ends.frames.1 in
          parts_seen step passed (subst (AllFree d.role d.longest) (sym ends.frames.2)
          (frmr_free reads d.role d.longest f why (frmr_three d o s (is_up_phase s.phase u.up) r refl f why ending ends.frames.2)))
          (record {
            away = ap is_up ends.phase;
            empty = empty_lists step.side.near.outgoing step.side.near.taken ends.outgoing ends.taken;
          }) ends.packet
          (λ fine. absurd (does.faultless o os h.peer w.out (ap (ending_of r) (sym u.same) ∙ ending) came fine))
      ends_seen Reset ending no_sabm ends = absurd (omega (arith, (left_by r (window_of d.window s)).1, ap by_reset ending, no_sabm))
      ends_seen reason ending no_sabm ends = parting_seen h passed (ends_parts u.up tt (laws.take_tells d o s) ends)

      up_seen : sabm_of (said r) ≡ 0 → S (after_step d w os [] step)
      up_seen no_sabm = go (ending_of r (window_of d.window s)) refl (laws.window.take d o s (record { up = u.up; sound = u.sound }) r refl)
        where
          go : (end : Option Reason) → ending_of r (window_of d.window s) ≡ end → Follows end d.window (brought_by r) s step → S (after_step d w os [] step)
          go None ending stays = stays_up (stays_hears (record { same = sym u.same; sound = u.sound; room = h.room; told = h.told; within = h.within }) step r
              no_sabm stays)
          go (Some reason) ending ends = ends_seen reason ending no_sabm ends

  -- ---- each act

  -- a packet is handed down
  put_up : (w : Stations) (h : S w) (packet : List ℕ) → AsUp d w.near.station (machine_of d.window h.peer) → length packet ≤ d.longest
      → S (after_step d w w.back (packet ∷ []) (put_step d packet w.near.station))
  put_up w h packet u short =
      let stays = laws.window.put d packet w.near.station (record { up = u.up; sound = u.sound }) in
      let step = put_step d packet w.near.station in
      let p : Peer = record h.peer { given = h.peer.given ++ packet ∷ [] } in
      stays_seen h
      (rw (no_packet_of (hands_down packet) step.packet (window_of d.window w.near.station) (λ y never. never) stays.hands_up)
      (record {
        peer = p;
        reached = does.handed w.back h.peer w.out packet short h.reached;
        is = ap (λ z. after z (HandDown packet)) (sym u.same);
        room = h.room;
        told = h.told;
        within = within_push d.longest h.peer.given packet h.within short;
        down_is = ap (λ xs. xs ++ packet ∷ []) h.down;
        up_is = h.up ∙ sym (append-nil w.near.up);
      }))
      stays

  of_steps : (w : Stations) (h : S w) → OfSteps d w (machine_of d.window h.peer) (λ place. S)
  of_steps w h = record {
    fits = h.fits;
    still = h;
    none_comes = λ is. h;
    takes = λ o os is u no_sabm. up_seen w h o os is u no_sabm;
    puts = λ packet u short. put_up w h packet u short;
    rests = λ step u stays. stays_seen h
        (rw (no_packet_of nothing step.packet (window_of d.window w.near.station) (λ y never. never) stays.hands_up)
        (subst (Ready w w.back [] None) (sym u.same) (left_so h h.reached))) stays;
    parts = λ step parts. parting_seen h (left_so h h.reached) parts;
    passes = λ o os is step parts. parting_seen h (passed w h o os is) parts;
    loses = λ i l. seen_so refl h (does.loses h.peer w.out l h.reached);
  }

  -- what the near end does, it may do as a peer
  pub peer_acts : (a : Act) (w : Stations) → S w → (acts d a w).near.came_up ≡ false → S (acts d a w)
  peer_acts a w h once = of_act laws (of_steps w h) a once

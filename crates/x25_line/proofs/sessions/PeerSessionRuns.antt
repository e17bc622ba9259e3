-- What a station and a peer reach are two ends that keep the rules, and that says the claims.
use Rattle.x25_line.proofs.Names.{◌≡◌, inl, inr, ◌≤◌, ℕ, List, [], ◌∷◌, map, length, true, refl, sym, ap, ◌∙◌, and_parts, ReadsSpelled, Phase, Down, Up}
use Rattle.x25_line.proofs.Names.{LinkSettings, is_up, Act, T1, Connect, Meeting, turned, acts, start_with, Each, SessionLaws, fresh_peer, PeerSessions}
use Rattle.x25_line.proofs.{Lists.{each_map}, Names.{both_ends, with_peer, stand_of, ReachedInSessions, AreOf, Ends, ends_swapped}, StationAway.{is_up_phase}}
use Rattle.x25_line.proofs.{StationClaimLemmas.{idle_all}, ends.Sessions.{All, all_turned, reached_all, keep_sessions, latest, some_stands, all_taken}}
use Rattle.x25_line.proofs.sessions.{PeerMoves.{peer_held}, SessionHeld.{OwesOn}, SessionMay.{MayAsk, Kind}, SessionSeen.{Seen, start_seen}}
use Rattle.x25_line.proofs.sessions.{SessionSeenSteps.{IsTimely, station_acts}, SessionWith.{outs, backs, at, IsWith, station_may}}
use Rattle.x25_line.specs.laws.{EndClaims.{MetInOrder, KeepSessions}, PeerSessionClaims.{IdleHasArrived, EachMeetsLatest}}
use Rattle.x25_line.specs.laws.PeerSessions.{Stand, Out, In, as_end, begin_with, at_start, set_up, goes_on}
use Rattle.x25_line.specs.laws.SessionClaims.{IsInOrder, MeetInStep, MetAreInOrder, UnmetHandNothingUp}
use Rattle.x25_line.specs.laws.PeerSessions as sessions
use Rattle.x25_line.specs.laws.Ends as ends

-- what holds of a station and a peer
abbrev SeenWith : Type 0 → LinkSettings → PeerSessions → Type 0
SeenWith Odd c w = Seen c (IsWith Odd c w.peer) (both_ends w)

-- as a run begins
seen_at_start : (Odd : Type 0) (c : LinkSettings) (stand : Stand) (p : Phase) (b : ℕ)
    → (IsWith Odd c ((begin_with stand (start_with p b)).peer) [] [] p b (λ n. fresh_peer) []) → SeenWith Odd c (begin_with stand (start_with p b))
seen_at_start Odd c stand p b reached = start_seen c (IsWith Odd c (begin_with stand (start_with p b)).peer) (as_end (begin_with stand (start_with p b)).peer)
    reached

module _ (reads : ReadsSpelled) (rests : SessionLaws) where
  abbrev kind : (Odd : Type 0) (c : LinkSettings) → c.window ≤ 7 → PeerSessions → Kind c
  kind Odd c high w = record {
    high = high;
    reads = reads;
    rests = rests;
    Due = λ p es. MayAsk p (AreOf w.peer.begun (backs c es));
    R = IsWith Odd c w.peer;
    does = station_may Odd c w.peer;
  }

  station_timely : (Odd : Type 0) (c : LinkSettings) (high : c.window ≤ 7) (w : PeerSessions) (act : Act) → sessions.IsTimely c act w
      → IsTimely (kind Odd c high w) act (both_ends w)
  station_timely Odd c high w T1 timely = λ waiting.
      (let due = timely waiting in (due.sabm, due.ua, due.crossing))
  station_timely Odd c high w Connect timely = λ _. tt
  station_timely Odd c high w act timely = tt

  station_held : (Odd : Type 0) (c : LinkSettings) (high : c.window ≤ 7) (w : PeerSessions) → SeenWith Odd c w → (act : Act) → sessions.IsTimely c act w
      → SeenWith Odd c (with_peer w.peer (acts c act (both_ends w)))
  station_held Odd c high w h act timely =
      let k = station_acts (kind Odd c high w) act (both_ends w)
      (station_timely Odd c high w act timely) h.reached.ends.kept.owes h in
      record { all = k.all; reached = k.reached; up = k.up; given = k.given; taken = k.taken; later = k.later; tags = k.tags }

  reached_seen : (Odd : Type 0) {c : LinkSettings} → c.window ≤ 7 → {w : PeerSessions} → ReachedInSessions Odd c w → SeenWith Odd c w
  reached_seen Odd {c} high at_start = seen_at_start Odd c Out Down 0
      (record {
        ends = record { reached = ends.at_start; kept = record { owes = (refl, refl); present = tt } };
        octets = record { frmr = λ lapb. tt; lapb = λ lapb. tt };
      })
  reached_seen Odd {c} high set_up = seen_at_start Odd c In Up 1
      (record {
        ends = record { reached = ends.set_up; kept = record { owes = (refl, refl); present = tt } };
        octets = record { frmr = λ lapb. tt; lapb = λ lapb. tt };
      })
  reached_seen Odd {c} high {w} (goes_on v u reached event) =
      let h = reached_seen Odd high reached in
      peer_held Odd v h event (station_held Odd c high v h)

  -- ---- the claims

  module _ {Odd : Type 0} {c : LinkSettings} (high : c.window ≤ 7) {w : PeerSessions} (reached : ReachedInSessions Odd c w) where
    -- what is known of the two, by which the claims follow
    pub h : SeenWith Odd c w
    h = reached_seen Odd high reached

    abbrev pub two : Ends
    two = at Odd c w.peer (backs c w.back) w.met (stand_of w.near.station.phase) w.near.begun h.all (outs c w.out)

    pub all_of : All two
    all_of = reached_all h.reached.ends.reached

    keeps : KeepSessions two
    keeps = keep_sessions two h.reached.ends.reached

    -- what is kept of the lines
    pub lines : IsWith Odd c w.peer w.back w.met w.near.station.phase w.near.begun h.all w.out
    lines = h.reached

    -- what a station has asked that isn't answered yet, by the SABMs, UAs and DISCs on the lines
    pub owes_is : OwesOn w.near.station.phase (outs c w.out) (backs c w.back)
    owes_is = h.reached.ends.kept.owes

    in_order : (m : Meeting) → MetInOrder h.all w.peer.of_session m → IsInOrder w.near (as_end w.peer) m
    in_order m k = record {
      there = rw (sym (h.given m.near)) k.0.begins;
      back = rw (sym (h.taken m.near)) k.1.begins;
    }

    all_in_order : (ms : List Meeting) → Each (MetInOrder h.all w.peer.of_session) ms → Each (IsInOrder w.near (as_end w.peer)) ms
    all_in_order = each_map (MetInOrder h.all w.peer.of_session) (IsInOrder w.near (as_end w.peer)) in_order

    pub up_in : is_up w.near.station.phase ≡ true → stand_of w.near.station.phase ≡ In
    up_in up = ap stand_of (is_up_phase w.near.station.phase up)

    peer_latest : (ms : List Meeting) → Each (λ (m : Meeting). m.near ≡ w.peer.begun → m.far ≡ w.near.begun) (map turned ms)
        → Each (λ (m : Meeting). m.far ≡ w.peer.begun → m.near ≡ w.near.begun) ms
    peer_latest [] k = tt
    peer_latest (m ∷ ms) k = (k.0, peer_latest ms k.1)

    -- the claims of a station over sessions beside any peer, one by one
    pub step_is : MeetInStep c c (both_ends w)
    step_is = keeps.step

    -- sessions that met are in order
    pub order_is : MetAreInOrder c c (both_ends w)
    order_is = all_in_order w.met keeps.order

    -- a session that met none handed nothing up
    pub unmet_is : UnmetHandNothingUp c c (both_ends w)
    unmet_is = record { near = λ n. elim (keeps.near_unmet n) [ inl none ↦ inl (sym (h.taken n) ∙ none) | inr some ↦ inr some ]; far = keeps.far_unmet }

    -- an idle station's packets have come
    pub idle_is : IdleHasArrived c w
    idle_is idle which =
        let on = up_in (and_parts _ _ idle).0 in
        let stands : all_of.held.q ≡ w.peer.begun = elim which [
          | inl is ↦ sym (all_of.held.far.is_in is)
          | inr some ↦ some_stands two all_of on some
        ] in
        all_taken all_of on stands (let f = h.up (and_parts _ _ idle).0 in ap (λ z. z.acked) f.same ∙ idle_all w.near.station idle f.sound.sent_high
        ∙ sym (ap (λ z. length z.given) f.same)) ∙ h.given w.near.begun

    -- the session of an end meets no other than the other's latest
    pub latest_is : EachMeetsLatest c w
    latest_is = record {
      near = λ up. keeps.latest (up_in up);
      peer = λ is. peer_latest w.met (latest (ends_swapped two) (all_turned all_of) is);
    }

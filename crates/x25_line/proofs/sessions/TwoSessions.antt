-- Two stations over sessions, of which each has the other as its peer: what is claimed of who meets whom, and of order.
use Rattle.x25_line.proofs.Names.{◌≡◌, ◌≤◌, ℕ, List, [], ◌∷◌, ◌⊎◌, inl, inr, true, None, Ok, Err, refl, sym, ap, ◌∙◌, subst, arith, suc, Role, PlainFrame, info}
use Rattle.x25_line.proofs.Names.{rr, rnr, rej, sabm, frmr, frame_of, ReadsSpelled, Undefined, NoInfoAllowed, TooLong, Short, LinkSettings, is_up, other}
use Rattle.x25_line.proofs.Names.{is_idle, IsPrefix, number_in, said, Odd, sabm_of, Entry, Meeting, Sessions, swapped, letters, run, Throughout, AllOf, Each}
use Rattle.x25_line.proofs.{Lists.{each_map}, Names.{SomeMet, SessionLaws, PeerEnd, with_peer, stand_of, ReachedInSessions, letter, AreOf, OfSabm, OfTells}}
use Rattle.x25_line.proofs.{StationAway.{is_up_phase}, StationLines.{consed, IsOrderly}, ends.Lines.{AllTold, Never, Of, AllTags, IsAsked, AllAsked}}
use Rattle.x25_line.proofs.ends.{Meetings.{twice_turned, far_turned}, Sessions.{far_high}}
use Rattle.x25_line.proofs.sessions.PeerSessionRuns.{two, all_of, lines, owes_is, up_in, step_is, order_is, unmet_is, idle_is, latest_is}
use Rattle.x25_line.proofs.sessions.{SessionHeld.{OwesOn, OnLine}, SessionLines.{Read, numbers}}
use Rattle.x25_line.proofs.sessions.{SessionSeenRuns.{end, tags_there, Both, both_swapped, throughout_both}, SessionWith.{NoneOdd, NoFrmrs}}
use Rattle.x25_line.specs.laws.{PeerSessionClaims.{ReadsNoFrmr}, PeerSessions.{as_end}, SessionClaims.{IdleHasArrived}}
use Rattle.x25_line.specs.laws.SessionClaims.{IsInOrder, MeetInStep, MetAreInOrder, UnmetHandNothingUp, OnlyBegunHaveLists, EachHearsLatest, EachMeetsLatest}
use Rattle.x25_link.specs.laws.WindowLaw.{IsRunning}

-- what is of the session that stands is of the latest, where that is begun
hears : (from : Role) (n1 q : ℕ) {begun : ℕ} → begun ≤ q → (es : List Entry) → AllTold (Of q) (letters from n1 es) → AllTags begun (letters from n1 es)
    → AllOf from n1 begun es
hears from n1 q high [] told tags = tt
hears from n1 q {begun} high (e ∷ es) told tags = (one (frame_of from n1 e.octets) told.0, hears from n1 q high es told.1 tags.1)
  where
    one : (r : Read) → OfTells (said r) (e.session ≡ q) → (number_in r ≡ None) ⊎ (e.session ≡ begun)
    one (Ok (info ns nr p x)) is = inr (omega (arith, is, high, tags.0))
    one (Ok (rr command nr pf)) is = inr (omega (arith, is, high, tags.0))
    one (Ok (rnr command nr pf)) is = inr (omega (arith, is, high, tags.0))
    one (Ok (rej command nr pf)) is = inr (omega (arith, is, high, tags.0))
    one r is = inl refl

none_here : (r : Read) (fs : List PlainFrame) → OfTells (said r) ⊥ → fs ≡ [] → consed (number_in r) fs ≡ []
none_here (Ok (info ns nr p x)) fs k is = absurd k
none_here (Ok (rr command nr pf)) fs k is = absurd k
none_here (Ok (rnr command nr pf)) fs k is = absurd k
none_here (Ok (rej command nr pf)) fs k is = absurd k
none_here r fs k is = is

none_told : (from : Role) (n1 : ℕ) (es : List Entry) → AllTold Never (letters from n1 es) → numbers from n1 es ≡ []
none_told from n1 [] h = refl
none_told from n1 (e ∷ es) h = none_here (frame_of from n1 e.octets) (numbers from n1 es) h.0 (none_told from n1 es h.1)

-- an end told nothing behind a SABM of its present session
quiet_behind : (N O : Type 0) (from : Role) (n1 b q : ℕ) (all : List Entry) (e : Entry) (es : List Entry) → all ≡ e ∷ es
    → AllAsked N O b q (letters from n1 all) → AreOf b (letters from n1 all) → sabm_of (said (frame_of from n1 e.octets)) ≡ 1
    → numbers from n1 es ≡ []
quiet_behind N O from n1 b q all e es is asked tags one =
    go (frame_of from n1 e.octets) (subst (λ xs. AllAsked N O b q (letters from n1 xs)) is asked).0 (subst (λ xs. AreOf b (letters from n1 xs)) is tags).0 one
  where
    go : (r : Read) → OfSabm (said r) (IsAsked N O b q (letter e.session (said r)) (letters from n1 es)) → OfSabm (said r) (e.session ≡ b)
        → sabm_of (said r) ≡ 1 → numbers from n1 es ≡ []
    go (Ok (sabm p)) a t one = none_told from n1 es (elim a [
      | inl now ↦ now.2
      | inr old ↦ absurd (omega (arith, t, old.1))
    ])
    go (Ok f) a t one = absurd (never f one)
      where
        never : (g : PlainFrame) → sabm_of (said (Ok g)) ≡ 1 → ⊥
        never g k = cc
    go (Err Short) a t one = absurd (omega (arith, one))
    go (Err x) a t one = absurd (omega (arith, one))

orderly : (r : Read) → (said r ≡ Odd → ⊥) → ReadsNoFrmr r → IsOrderly r
orderly (Ok (frmr f why)) odd none = absurd none
orderly (Err (Undefined control)) odd none = absurd (odd refl)
orderly (Err (NoInfoAllowed control)) odd none = absurd (odd refl)
orderly (Err TooLong) odd none = absurd (odd refl)
orderly r odd none = tt

module _ (reads : ReadsSpelled) (rests : SessionLaws) where
  module _ (c d : LinkSettings) (w : Sessions) (h : Both c d w) where
    -- the far end, as the near end's peer
    abbrev peer : PeerEnd
    peer = end h.joined w.near w.far.station.phase w.far.begun h.far.all

    reached : ReachedInSessions ⊥ c (with_peer peer w)
    reached = rw (sym (twice_turned w.met)) h.far.reached

    in_order : (ms : List Meeting) → Each (IsInOrder w.near (as_end peer)) ms → Each (IsInOrder w.near w.far) ms
    in_order = each_map (IsInOrder w.near (as_end peer)) (IsInOrder w.near w.far)
        (λ m k. record { there = rw (sym (h.far.taken m.far)) k.there; back = subst (IsPrefix (w.near.up m.near)) (h.far.given m.far) k.back })

    pub unmet : UnmetHandNothingUp c d w
    unmet =
        let k = unmet_is reads rests h.joined.near_high reached in
        record { near = k.near; far = λ n. elim (k.far n) [ inl none ↦ inl (sym (h.far.taken n) ∙ none) | inr some ↦ inr some ] }

    pub begun : OnlyBegunHaveLists c d w
    begun = record { met = (all_of reads rests h.joined.near_high reached).held.meets.begun; near = h.near.later; far = h.far.later }

    pub hears_latest : is_up w.near.station.phase ≡ true → AllOf (other c.role) c.longest w.far.begun w.back
    hears_latest up =
        let ends = two reads rests h.joined.near_high reached in
        let all = all_of reads rests h.joined.near_high reached in
        hears (other c.role) c.longest all.held.q (far_high all) w.back
        (all.held.near.live (up_in reads rests h.joined.near_high reached up))
        all.held.near.tags

    pub agree : EachMeetsLatest c d w
    agree =
        let k = latest_is reads rests h.joined.near_high reached in
        record { near = k.near; far = λ up. k.peer (ap stand_of (is_up_phase w.far.station.phase up)) }

    pub idle : is_idle w.near.station ≡ true → (is_up w.far.station.phase ≡ true) ⊎ SomeMet (λ (m : Meeting). m.near ≡ w.near.begun) w.met
        → w.far.up w.far.begun ≡ w.near.down w.near.begun
    idle is which =
        sym (h.far.taken w.far.begun) ∙ idle_is reads rests h.joined.near_high reached is
        (elim which [ inl up ↦ inl (ap stand_of (is_up_phase w.far.station.phase up)) | inr some ↦ inr some ])

    -- an end that is Up counts soundly
    pub running : is_up w.near.station.phase ≡ true → IsRunning c.window w.near.station
    running up = record { up = up; sound = (h.near.up up).sound }

    near_owes : OwesOn w.near.station.phase (letters (other d.role) d.longest w.out) (letters (other c.role) c.longest w.back)
    near_owes =
        subst (λ n1. OwesOn w.near.station.phase (letters (other d.role) n1 w.out) (letters (other c.role) c.longest w.back)) h.joined.longest
        (rw h.joined.near_role (owes_is reads rests h.joined.near_high reached))

    quiet : (e : Entry) (es : List Entry) → w.back ≡ e ∷ es → sabm_of (said (frame_of (other c.role) c.longest e.octets)) ≡ 1
        → numbers (other c.role) c.longest es ≡ []
    quiet e es is one =
        let all = all_of reads rests h.joined.near_high reached in
        quiet_behind _ _ (other c.role) c.longest w.far.begun all.held.q w.back e es is all.held.near.asked
        (tags_there c d h.joined reads rests w.far.begun w.back h.far.tags) one

    -- no FRMR is on the line from it, and nothing on that to it is answered by FRMR
    no_frmr : NoFrmrs c.role c.longest w.out
    no_frmr = (lines reads rests h.joined.near_high reached).octets.frmr (λ never. never)

    none_odd : NoneOdd (other c.role) c.longest w.back
    none_odd = (lines reads rests h.joined.near_high reached).octets.lapb (λ never. never)

    pub in_step : MeetInStep c d w
    in_step = step_is reads rests h.joined.near_high reached

    pub orders : MetAreInOrder c d w
    orders = in_order w.met (order_is reads rests h.joined.near_high reached)

  module _ (c d : LinkSettings) (w : Sessions) (h : Both c d w) where
    pub latest : EachHearsLatest c d w
    latest = record { near = hears_latest c d w h; far = hears_latest d c (swapped w) (both_swapped h) }

    pub arrived : IdleHasArrived c d w
    arrived = record {
      near = idle c d w h;
      far = λ is which. idle d c (swapped w) (both_swapped h) is
          (elim which [ inl up ↦ inl up | inr some ↦ inr (far_turned w.far.begun w.met some) ]);
    }

  fine : (c d : LinkSettings) (w : Sessions) → Both c d w → (e : Entry) (es : List Entry) → w.back ≡ e ∷ es
      → IsOrderly (frame_of (other c.role) c.longest e.octets)
  fine c d w h e es is =
      let far : NoFrmrs d.role d.longest w.back = no_frmr d c (swapped w) (both_swapped h) in
      let none : NoFrmrs (other c.role) c.longest w.back = rw h.joined.longest (rw h.joined.far_role far) in
      let odd = subst (NoneOdd (other c.role) c.longest) is (none_odd c d w h) in
      orderly (frame_of (other c.role) c.longest e.octets) odd.0 (subst (NoFrmrs (other c.role) c.longest) is none).0

  -- what the rules of both say of the line
  pub on_line : {c d : LinkSettings} {w : Sessions} → Both c d w → OnLine c d w
  on_line {c} {d} {w} h =
      record {
        near_owes = near_owes c d w h;
        far_owes = near_owes d c (swapped w) (both_swapped h);
        quiet = quiet c d w h;
        fine = fine c d w h;
        near_next = h.near.later (suc w.near.begun) (omega arith);
        far_next = h.far.later (suc w.far.begun) (omega arith);
      }

  -- ---- the claims

  -- what holds of two such stations holds after each list of events
  pub throughout_of : (Holds : LinkSettings → LinkSettings → Sessions → Type 0)
      → ((c d : LinkSettings) (w : Sessions) → Both c d w → Holds c d w) → Throughout Holds
  throughout_of Holds holds c d joined begin is events timely = holds c d (run c d events begin) (throughout_both reads rests joined is events timely)

  -- an idle station's packets have come, at each moment of two stations
  pub idle_has_arrived : Throughout IdleHasArrived
  idle_has_arrived = throughout_of IdleHasArrived arrived

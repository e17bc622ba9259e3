-- Two ends of which not both go on once they have fired: set-up, a poll or DM is all that comes, and each end comes to rest or isn't Up.
use Rattle.x25_line.proofs.Names.{◌≡◌, ℕ, ◌<◌, List, [], ◌∷◌, ◌++◌, ◌⊎◌, inl, inr, length, Bool, true, false, if◌then◌else◌, Ok, refl, sym, ap, ◌∙◌, arith}
use Rattle.x25_line.proofs.Names.{leb-true, le-ltb, eq-eqb, and_parts, ◌&&◌, nat_lt, Role, PlainFrame, info, rr, rnr, rej, sabm, disc, ua, dm, frmr, is_command}
use Rattle.x25_line.proofs.Names.{poll_or_final, frame_of, subst, ReadsSpelled, Phase, Down, Waiting, Up, Closed, waits, LinkSettings, LinkStation, Side, is_up, is_busy, wanted}
use Rattle.x25_line.proofs.Names.{with_nothing, fresh, sends, may_send, ended, LinkStep, quiet, other, is_valid, acknowledged, peer_is, polls, rejects, alone}
use Rattle.x25_line.proofs.Names.{hears, take_step, timer_runs, waiting_after, waiting_sends, IsOut, IsAtRest, says, Deliver, LinkEvent, Entry, Meeting}
use Rattle.x25_line.proofs.Names.{Sessions, begun_by, after_step, delivered, acts, swapped, run, AreJoined, IsWhole, AreWhole, IsDelivery, Each, HealingLaws}
use Rattle.x25_line.proofs.{DrainWeights.{below_eight}, HealingLines.{Reads}, HealingSteps.{IsDrained, deliveries_keep, reads_put}, Lists.{each_append}}
use Rattle.x25_link.specs.declared.phase.{Closing.{Closing}, Closing.TheVariants.{Asked}, Ending.{Ending}, Ending.TheVariants.{ByUa, ByDm}}
use Rattle.x25_line.proofs.{StationAway.{closed_still, up_takes_part, is_up_phase}, StationRuns.{joined_swapped}, StationSteps.{not_both, out_not_up}}
use Rattle.x25_link.proofs.EndLemmas.{none_open, not_open, pumped_stays}
use Rattle.x25_link.specs.{Hearing.{leaves, row_of_frame}, Link.{answered, closed_by, declines, when_closed, when_down, when_waiting}}
use Rattle.x25_link.specs.declared.phase.Reason.TheVariants.{Disc}
use Rattle.x25_link.specs.{Station.{ready, owes_ready, finished}, laws.AnswerLaw.{asks}}

-- an end is at rest, or not Up
abbrev pub RestsOrOut : LinkStation → Type 0
RestsOrOut s = IsAtRest s ⊎ (is_up s.phase ≡ false)

-- ---- a station that has nothing to send

pub record IsBlank (s : LinkStation) : Type 0 where
  pub up : s.phase ≡ Up
  pub given : s.outgoing.given ≡ []
  pub acked : s.outgoing.acked ≡ 0
  pub sent : s.outgoing.sent ≡ 0
  pub recovery : s.recovery ≡ false
  pub peer_busy : s.peer_busy ≡ false

abbrev pub IsBlankOrOff : LinkStation → Type 0
IsBlankOrOff s = IsBlank s ⊎ (is_up s.phase ≡ false)

pub fresh_blank : IsBlank fresh
fresh_blank = record { up = refl; given = refl; acked = refl; sent = refl; recovery = refl; peer_busy = refl }

blank_rests : (s : LinkStation) → IsBlank s → IsAtRest s
blank_rests s h =
    let up : is_up s.phase ≡ true = ap is_up h.up in
    let none : waits s.outgoing ≡ 0 = omega (arith, ap length h.given) in
    let same : s.outgoing.acked ≡ s.outgoing.sent = omega (arith, h.acked, h.sent) in
    let low : nat_lt s.outgoing.acked s.outgoing.sent ≡ false = le-ltb _ _ (omega (arith, same)) in
    record {
      idle = rw (up, none, same) (eq-eqb s.outgoing.sent s.outgoing.sent refl);
      no_timer = ap (λ p. timer_runs p s) h.up ∙ (rw (low, h.recovery, h.peer_busy) refl);
    }

rests_or_out : {s : LinkStation} → IsBlankOrOff s → RestsOrOut s
rests_or_out {s} (inl h) = inl (blank_rests s h)
rests_or_out (inr off) = inr off

-- ---- what such stations say

abbrev pub IsOfSetUp : PlainFrame → Type 0
IsOfSetUp (sabm p) = Unit {0}
IsOfSetUp (disc p) = Unit {0}
IsOfSetUp (ua f) = Unit {0}
IsOfSetUp (dm f) = Unit {0}
IsOfSetUp (frmr f why) = length why ≡ 3
IsOfSetUp (rr command nr pf) = nr < 8
IsOfSetUp frame = ⊥

abbrev pub AreOfSetUp : List PlainFrame → Type 0
AreOfSetUp fs = Each IsOfSetUp fs

set_up_more : (fs es : List PlainFrame) → AreOfSetUp fs → AreOfSetUp es → AreOfSetUp (fs ++ es)
set_up_more fs es h g = each_append IsOfSetUp fs es h g

pub set_up_whole : (n1 : ℕ) (fs : List PlainFrame) → AreOfSetUp fs → AreWhole n1 [] fs
set_up_whole n1 [] are = tt
set_up_whole n1 (f ∷ fs) are = (whole f are.0, set_up_whole n1 fs are.1)
  where
    whole : (f : PlainFrame) → IsOfSetUp f → IsWhole n1 [] f
    whole (sabm p) is = record { in_range = tt; carries = refl; within = tt; packet = tt }
    whole (disc p) is = record { in_range = tt; carries = refl; within = tt; packet = tt }
    whole (ua f) is = record { in_range = tt; carries = refl; within = tt; packet = tt }
    whole (dm f) is = record { in_range = tt; carries = refl; within = tt; packet = tt }
    whole (frmr f why) is = record { in_range = tt; carries = is; within = tt; packet = tt }
    whole (rr command nr pf) is = record { in_range = is; carries = refl; within = tt; packet = tt }
    whole f is = absurd is

-- ---- a side of a step

record IsCalm (t : Side) : Type 0 where
  pub near : IsBlankOrOff t.near
  pub out : AreOfSetUp t.out

calm_if : (b : Bool) (u v : Side) → (b ≡ true → IsCalm u) → (b ≡ false → IsCalm v) → IsCalm (if b then u else v)
calm_if true u v f g = f refl
calm_if false u v f g = g refl

calm_sends : (f : PlainFrame) {t : Side} → IsOfSetUp f → IsCalm t → IsCalm (sends f t)
calm_sends f {t} is h = record { near = h.near; out = set_up_more t.out (f ∷ []) h.out (is, tt) }

calm_ready : (command pf : Bool) (t : Side) → IsBlank t.near → AreOfSetUp t.out → IsCalm (ready command pf t)
calm_ready command pf t blank out =
    calm_if (is_busy t.near) _ _ (λ busy. not_both (is_busy t.near) busy (le-ltb 254 _ (omega (arith, ap length blank.given))))
    (λ _. record {
      near = inl (record {
        up = blank.up;
        given = blank.given;
        acked = blank.acked;
        sent = blank.sent;
        recovery = blank.recovery;
        peer_busy = blank.peer_busy;
      });
      out = set_up_more t.out (rr command (wanted t.near) pf ∷ []) out (below_eight (length t.near.taken), tt);
    })

never_sends : (k : ℕ) {s : LinkStation} → IsBlankOrOff s → may_send k s ≡ false
never_sends k {s} (inl h) = not_open k s (none_open k s.outgoing (omega (arith, ap length h.given)))
never_sends k (inr off) = rw off refl

calm_finished : (t : Side) → IsCalm t → IsCalm (finished t)
calm_finished t h = by h.near
  where
    by : IsBlankOrOff t.near → IsCalm (finished t)
    by (inl blank) = calm_if (owes_ready t.near) (ready false false t) t (λ _. calm_ready false false t blank h.out) (λ _. h)
    by (inr off) = calm_if (owes_ready t.near) (ready false false t) t (λ owes. not_both (is_up t.near.phase) (and_parts (is_up t.near.phase) _ owes).0 off)
        (λ _. h)

calm_ended : (k : ℕ) {t : Side} → IsCalm t → IsCalm (ended k t)
calm_ended k {t} h = rw (pumped_stays 7 k t (never_sends k h.near)) (calm_finished t h)

-- ---- what comes to one

calm_off : (s : LinkStation) → is_up s.phase ≡ false → IsCalm (alone s)
calm_off s off = record { near = inr off; out = tt }

begun : {f : PlainFrame} → IsOfSetUp f → IsCalm (record { near = fresh; out = f ∷ [] })
begun is = record { near = inl fresh_blank; out = (is, tt) }

calm_declines : (f : PlainFrame) (s : LinkStation) → is_up s.phase ≡ false → IsCalm (declines f (alone s))
calm_declines f s off = calm_if (is_command f && poll_or_final f) _ _ (λ _. calm_sends (dm true) tt (calm_off s off)) (λ _. calm_off s off)

calm_down : (f : PlainFrame) (s : LinkStation) → is_up s.phase ≡ false → IsOfSetUp f → IsCalm (when_down f (alone s)).side
calm_down (sabm p) s off is = begun tt
calm_down (disc p) s off is = calm_sends (dm p) tt (calm_off s off)
calm_down f s off is = calm_declines f s off

-- what a DISC awaits ends
calm_answered : (ending : Ending) (closing : Closing) (s : LinkStation) → is_up s.phase ≡ false → IsCalm (answered ending closing (alone s))
calm_answered ending Asked s off = record { near = inr off; out = tt }
calm_answered ending closing s off = calm_off s off

calm_closed : (f : PlainFrame) (s : LinkStation) → is_up s.phase ≡ false → IsCalm (when_closed f (alone s)).side
calm_closed (ua true) s off = calm_answered ByUa s.closing s off
calm_closed (dm true) s off = calm_answered ByDm s.closing s off
calm_closed f s off = calm_declines f s off

calm_waiting : (f : PlainFrame) (s : LinkStation) → is_up s.phase ≡ false → IsOfSetUp f → IsCalm (when_waiting f (alone s)).side
calm_waiting (sabm p) s off is = calm_sends (ua p) tt (calm_off s off)
calm_waiting (ua true) s off is = record { near = inl fresh_blank; out = tt }
calm_waiting (info ns nr p x) s off is = absurd is
calm_waiting (rnr command nr pf) s off is = absurd is
calm_waiting (rej command nr pf) s off is = absurd is
calm_waiting (disc p) s off is = calm_sends (dm p) tt (calm_off s off)
calm_waiting f s off is = calm_off s off

blank_polls : (command pf : Bool) (t : Side) → IsBlank t.near → AreOfSetUp t.out → IsCalm (polls command pf t)
blank_polls true true t h out = calm_ready false true t h out
blank_polls true false t h out = record { near = inl h; out = out }
blank_polls false true t h out = record {
  near = inl
      (record { up = h.up; given = h.given; acked = h.acked; sent = h.sent; recovery = refl; peer_busy = h.peer_busy });
  out = out;
}
blank_polls false false t h out = record { near = inl h; out = out }

blank_row : (c : LinkSettings) (octets : List ℕ) (command pf : Bool) (nr : ℕ) (s : LinkStation) → IsBlank s
    → IsCalm (row_of_frame c octets (rr command nr pf) (alone s)).side
blank_row c octets command pf nr s h = by (is_valid nr s) refl
  where
    by : (b : Bool) → is_valid nr s ≡ b
        → IsCalm (let z : LinkStep = if b then quiet (polls command pf (peer_is false (acknowledged nr (alone s)))) else rejects c octets 8 (alone s) in z.side)
    by true valid =
        let high = leb-true _ _ valid in
        blank_polls command pf (peer_is false (acknowledged nr (alone s)))
        (record { up = h.up; given = h.given; acked = omega (arith, high, h.sent); sent = h.sent; recovery = h.recovery; peer_busy = refl }) tt
    by false invalid = record { near = inr refl; out = (refl, tt) }

calm_up : (c : LinkSettings) (octets : List ℕ) (f : PlainFrame) {s : LinkStation} → IsBlank s → IsOfSetUp f → IsCalm (row_of_frame c octets f (alone s)).side
calm_up c octets (sabm p) h is = begun tt
calm_up c octets (disc p) h is = record { near = inr refl; out = (tt, tt) }
calm_up c octets (ua f) h is = record { near = inl h; out = tt }
calm_up c octets (dm f) h is = record { near = inr refl; out = tt }
calm_up c octets (frmr f why) h is = record { near = inr refl; out = tt }
calm_up c octets (rr command nr pf) {s} h is = blank_row c octets command pf nr s h
calm_up c octets f h is = absurd is

blank_of : (s : LinkStation) → is_up s.phase ≡ true → IsBlankOrOff s → IsBlank s
blank_of s up (inl h) = h
blank_of s up (inr off) = not_both (is_up s.phase) up off

calm_hears : (c : LinkSettings) (octets : List ℕ) (f : PlainFrame) (s : LinkStation) → IsBlankOrOff s → IsOfSetUp f → (p : Phase) → s.phase ≡ p
    → IsCalm (hears c octets (Ok f) p (alone s)).side
calm_hears c octets f s h is Down phase = calm_down f s (ap is_up phase) is
calm_hears c octets f s h is Waiting phase = calm_waiting f s (ap is_up phase) is
calm_hears c octets f s h is Up phase = calm_up c octets f (blank_of s (ap is_up phase) h) is
calm_hears c octets f s h is Closed phase = calm_closed f s (ap is_up phase)

-- DISC takes Up away
disc_leaves : (c : LinkSettings) (octets : List ℕ) (s : LinkStation) → s.phase ≡ Up → (p : Bool)
    → frame_of (other c.role) c.longest octets ≡ Ok (disc p) → take_step c octets s ≡ leaves Disc (sends (ua p) (alone s))
disc_leaves c octets s up p is =
    let left : LinkStep = leaves Disc (sends (ua p) (alone s)) in
    rw is (subst (λ q. closed_by c.window (hears c octets (Ok (disc p)) q (alone s)) ≡ left) (sym up) (closed_still c.window left refl))

-- ---- two ends of which not both go on, and the frames between them

-- The near end is Up and the far end isn't: what is on the way to the far end, and back.
pub data Parts (s t : LinkStation) : List PlainFrame → List PlainFrame → Type 0 where
  -- the far end asks for set-up, and the near end polls or has nothing to send
  asked : is_up s.phase ≡ true → t.phase ≡ Waiting → Parts s t [] (sabm true ∷ [])
  asked_polling : (busy : Bool) (number : ℕ) → number < 8 → is_up s.phase ≡ true → t.phase ≡ Waiting
      → Parts s t (says busy true number true ∷ []) (sabm true ∷ [])
  -- SABM came to an end that was busy: its UA follows its RNR, which an end that awaits UA passes over
  granted : (number : ℕ) → IsBlank s → t.phase ≡ Waiting → Parts s t (rnr true number true ∷ ua true ∷ []) []
  -- the far end is out: a poll is answered by DM, at which the near end leaves too
  polled : (busy : Bool) (number : ℕ) → is_up s.phase ≡ true → IsOut t.phase → Parts s t (says busy true number true ∷ []) []
  declined : is_up s.phase ≡ true → IsOut t.phase → Parts s t [] (dm true ∷ [])
  rests : IsAtRest s → IsOut t.phase → Parts s t [] []
  -- the far end disconnects, at which the near end leaves: a poll that went before is answered by DM, and UA follows an RNR
  closes : is_up s.phase ≡ true → IsOut t.phase → Parts s t [] (disc true ∷ [])
  closes_polled : (busy : Bool) (number : ℕ) → number < 8 → is_up s.phase ≡ true → IsOut t.phase
      → Parts s t (says busy true number true ∷ []) (disc true ∷ [])
  closes_declined : is_up s.phase ≡ true → IsOut t.phase → Parts s t [] (disc true ∷ dm true ∷ [])
  closed : (number : ℕ) → is_up s.phase ≡ false → IsOut t.phase → Parts s t (rnr true number true ∷ ua true ∷ []) []

-- nothing but set-up is on the way
pub record Calm (s t : LinkStation) (fs gs : List PlainFrame) : Type 0 where
  pub near : IsBlankOrOff s
  pub far : IsBlankOrOff t
  pub there : AreOfSetUp fs
  pub back : AreOfSetUp gs

abbrev pub Settles : LinkStation → LinkStation → List PlainFrame → List PlainFrame → Type 0
Settles s t fs gs = Parts s t fs gs ⊎ (Parts t s gs fs ⊎ Calm s t fs gs)

settles_turned : {s t : LinkStation} {fs gs : List PlainFrame} → Settles s t fs gs → Settles t s gs fs
settles_turned (inl h) = inr (inl h)
settles_turned (inr (inl h)) = inl h
settles_turned (inr (inr h)) = inr (inr (record { near = h.far; far = h.near; there = h.back; back = h.there }))

-- once nothing is on the way
parted : (from to : Role) (n m : ℕ) {s t : LinkStation} {fs gs : List PlainFrame} → Reads from n [] fs → Reads to m [] gs → Parts s t fs gs → RestsOrOut s
    × RestsOrOut t
parted from to n m {t = t} out back (rests rest gone) = (inl rest, inr (out_not_up t.phase gone))
parted from to n m out back (asked up is) = absurd back
parted from to n m out back (declined up gone) = absurd back
parted from to n m out back (closes up gone) = absurd back
parted from to n m out back (closes_declined up gone) = absurd back
parted from to n m out back p = absurd out

settled : (from to : Role) (n m : ℕ) {s t : LinkStation} {fs gs : List PlainFrame} → Reads from n [] fs → Reads to m [] gs → Settles s t fs gs → RestsOrOut s
    × RestsOrOut t
settled from to n m {s} {t} {fs} {gs} out back (inl h) = parted from to n m out back h
settled from to n m {s} {t} {fs} {gs} out back (inr (inl h)) = (let both = parted to from m n back out h in (both.1, both.0))
settled from to n m {s} {t} out back (inr (inr h)) = (rests_or_out h.near, rests_or_out h.far)

-- a poll changes nothing of an end that awaits UA, and is answered by DM where an end is out
poll_off : (busy : Bool) (n : ℕ) (s : LinkStation) → (waiting_after (Ok (says busy true n true)) s ≡ s)
    × (waiting_sends (Ok (says busy true n true)) ≡ []) × (asks (says busy true n true) ≡ true)
poll_off true n s = (refl, refl, refl)
poll_off false n s = (refl, refl, refl)

-- ---- worlds

pub record Settling (c d : LinkSettings) (w : Sessions) : Type 0 where
  pub there : List PlainFrame
  pub behind : List PlainFrame
  pub out : Reads (other d.role) d.longest w.out there
  pub back : Reads (other c.role) c.longest w.back behind
  pub is : Settles w.near.station w.far.station there behind

turned : {c d : LinkSettings} {w : Sessions} → Settling c d w → Settling d c (swapped w)
turned {w = w} h = record { there = h.behind; behind = h.there; out = h.back; back = h.out; is = settles_turned h.is }

module _ (c d : LinkSettings) (joined : AreJoined c d) (reads : ReadsSpelled) (laws : HealingLaws) where
  module _ (w : Sessions) (h : Settling c d w) where
    abbrev s : LinkStation
    s = w.near.station

    abbrev t : LinkStation
    t = w.far.station

    -- octets come to the near end, which becomes so and sends so
    goes : (e : Entry) {es : List Entry} (met : List Meeting) {gs : List PlainFrame} (sent fs : List PlainFrame) (z : LinkStation)
        → Reads (other d.role) d.longest w.out fs → Reads (other c.role) c.longest es gs
        → (let step = take_step c e.octets s in step.side.near ≡ z → step.side.out ≡ sent → AreOfSetUp sent → Settles z t (fs ++ sent) gs
        → Settling c d (after_step c w es met [] step))
    goes e met {gs} sent fs z out back near is_sent are is =
        let step = take_step c e.octets s in
        record {
          there = fs ++ sent;
          behind = gs;
          out = rw is_sent (reads_put reads joined [] (begun_by step.notes.up w.near.begun) w.out fs sent (set_up_whole d.longest sent are) out);
          back = back;
          is = rw near is;
        }

    -- an end that awaits UA passes a poll over
    passes : (e : Entry) (es : List Entry) (busy : Bool) (n : ℕ) (gs fs : List PlainFrame) → s.phase ≡ Waiting → Reads (other d.role) d.longest w.out fs
        → Reads (other c.role) c.longest (e ∷ es) (says busy true n true ∷ gs) → Settles s t (fs ++ []) gs → Settling c d (delivered c (e ∷ es) w)
    passes e es busy n gs fs waits out back is =
        let a = laws.sessions.laws.set_up.waits c e.octets s waits (Ok (says busy true n true)) (sym back.0) in
        goes e _ [] fs s out back.1 (a.near ∙ (poll_off busy n s).0) (a.out ∙ (poll_off busy n s).1) tt is

    -- an end that is Up leaves at a DISC
    leaves_by : (e : Entry) (es : List Entry) (fs gs : List PlainFrame) → is_up s.phase ≡ true → Reads (other d.role) d.longest w.out fs
        → Reads (other c.role) c.longest (e ∷ es) (disc true ∷ gs) → Settles (with_nothing Down s.tries) t (fs ++ ua true ∷ []) gs
        → Settling c d (delivered c (e ∷ es) w)
    leaves_by e es fs gs up out back is =
        let a = disc_leaves c e.octets s (is_up_phase s.phase up) true back.0 in
        goes e _ (ua true ∷ []) fs (with_nothing Down s.tries) out back.1 (ap (λ k. k.side.near) a) (ap (λ k. k.side.out) a) (tt, tt) is

    -- an end that is Up hears
    up_hears : (es : List Entry) {fs gs : List PlainFrame} → Reads (other d.role) d.longest w.out fs → Reads (other c.role) c.longest es gs → Parts s t fs gs
        → Settling c d (delivered c es w)
    up_hears [] out back p = h
    up_hears (e ∷ es) out back (asked up is) =
        let a = laws.sessions.laws.set_up.sets_up c e.octets s (up_takes_part s.phase up) true back.0 in
        goes e _ (ua true ∷ []) [] fresh out back.1 a.near a.out (tt, tt)
        (inr (inr (record { near = inl fresh_blank; far = inr (ap is_up is); there = (tt, tt); back = tt })))
    up_hears (e ∷ es) out back (asked_polling false n small up is) =
        let a = laws.sessions.laws.set_up.sets_up c e.octets s (up_takes_part s.phase up) true back.0 in
        goes e _ (ua true ∷ []) (rr true n true ∷ []) fresh out back.1 a.near a.out (tt, tt)
        (inr (inr (record { near = inl fresh_blank; far = inr (ap is_up is); there = (small, (tt, tt)); back = tt })))
    up_hears (e ∷ es) out back (asked_polling true n small up is) =
        let a = laws.sessions.laws.set_up.sets_up c e.octets s (up_takes_part s.phase up) true back.0 in
        goes e _ (ua true ∷ []) (rnr true n true ∷ []) fresh out back.1 a.near a.out (tt, tt) (inl (granted n fresh_blank is))
    up_hears (e ∷ es) out back (declined up gone) =
        let a = laws.answers.dm c e.octets s (is_up_phase s.phase up) true back.0 in
        goes e _ [] [] (with_nothing Down s.tries) out back.1 a.0 a.1 tt
        (inr (inr (record { near = inr refl; far = inr (out_not_up t.phase gone); there = tt; back = tt })))
    up_hears (e ∷ es) out back (closes up gone) =
        leaves_by e es [] [] up out back (inr (inr (record { near = inr refl; far = inr (out_not_up t.phase gone); there = (tt, tt); back = tt })))
    up_hears (e ∷ es) out back (closes_declined up gone) =
        leaves_by e es [] (dm true ∷ []) up out back
        (inr (inr (record { near = inr refl; far = inr (out_not_up t.phase gone); there = (tt, tt); back = (tt, tt) })))
    up_hears (e ∷ es) out back (closes_polled false n small up gone) =
        leaves_by e es (rr true n true ∷ []) [] up out back
        (inr (inr (record { near = inr refl; far = inr (out_not_up t.phase gone); there = (small, (tt, tt)); back = tt })))
    up_hears (e ∷ es) out back (closes_polled true n small up gone) = leaves_by e es (rnr true n true ∷ []) [] up out back (inl (closed n refl gone))
    up_hears (e ∷ es) out back p = absurd back

    -- the other end hears
    off_hears : (es : List Entry) {fs gs : List PlainFrame} → Reads (other d.role) d.longest w.out fs → Reads (other c.role) c.longest es gs → Parts t s gs fs
        → Settling c d (delivered c es w)
    off_hears [] out back p = h
    off_hears (e ∷ es) out back (asked_polling busy n small up is) = passes e es busy n [] (sabm true ∷ []) is out back (inr (inl (asked up is)))
    off_hears (e ∷ es) out back (granted n blank is) =
        passes e es true n (ua true ∷ []) [] is out back (inr (inr (record { near = inr (ap is_up is); far = inl blank; there = tt; back = (tt, tt) })))
    off_hears (e ∷ es) out back (polled busy n up gone) =
        let a = laws.answers.out c e.octets s gone (says busy true n true) back.0 (poll_off busy n s).2 in
        goes e _ (dm true ∷ []) [] s out back.1 a.near a.out (tt, tt) (inr (inl (declined up gone)))
    off_hears (e ∷ es) out back (closes_polled busy n small up gone) =
        let a = laws.answers.out c e.octets s gone (says busy true n true) back.0 (poll_off busy n s).2 in
        goes e _ (dm true ∷ []) (disc true ∷ []) s out back.1 a.near a.out (tt, tt) (inr (inl (closes_declined up gone)))
    off_hears (e ∷ es) out back (closed n off gone) =
        let a = laws.answers.out c e.octets s gone (rnr true n true) back.0 refl in
        goes e _ (dm true ∷ []) [] s out back.1 a.near a.out (tt, tt)
        (inr (inr (record { near = inr (out_not_up s.phase gone); far = inr off; there = (tt, tt); back = (tt, tt) })))
    off_hears (e ∷ es) out back p = absurd back

    calm_hears_more : (es : List Entry) (fs gs : List PlainFrame) → Reads (other d.role) d.longest w.out fs → Reads (other c.role) c.longest es gs
        → Calm s t fs gs → Settling c d (delivered c es w)
    calm_hears_more [] fs gs out back p = h
    calm_hears_more (e ∷ es) fs [] out back p = absurd back
    calm_hears_more (e ∷ es) fs (g ∷ gs) out back p =
        let step = take_step c e.octets s in
        let k : IsCalm step.side = calm_ended c.window (rw back.0 (calm_hears c e.octets g s p.near p.back.0 s.phase refl)) in
        goes e _ step.side.out fs step.side.near out back.1 refl refl k.out
        (inr (inr (record { near = k.near; far = p.far; there = set_up_more fs step.side.out p.there k.out; back = p.back.1 })))

  near_settles : (w : Sessions) → Settling c d w → Settling c d (acts c Deliver w)
  near_settles w h = elim h.is [
    | inl p ↦ up_hears w h w.back h.out h.back p
    | inr (inl p) ↦ off_hears w h w.back h.out h.back p
    | inr (inr p) ↦ calm_hears_more w h w.back h.there h.behind h.out h.back p
  ]

-- ends that settle have settled once nothing is on the line
pub settle : (c d : LinkSettings) → AreJoined c d → ReadsSpelled → HealingLaws → (es : List LinkEvent) → Each IsDelivery es → (w : Sessions) → Settling c d w
    → (let v = run c d es w in IsDrained v → RestsOrOut v.near.station × RestsOrOut v.far.station)
settle c d joined reads laws es are w first drained = settled (other d.role) (other c.role) d.longest c.longest (rw (sym drained.out) h.out)
    (rw (sym drained.back) h.back) h.is
  where
    v : Sessions
    v = run c d es w

    far_settles : (w : Sessions) → Settling c d w → Settling c d (swapped (acts d Deliver (swapped w)))
    far_settles w h = turned (near_settles d c (joined_swapped joined) reads laws (swapped w) (turned h))

    h : Settling c d v
    h = deliveries_keep (Settling c d) c d (near_settles c d joined reads laws) far_settles es w are first

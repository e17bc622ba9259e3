-- How each numbered frame is answered, what the sending rule sends behind the answer, and what timer T1 asks.
use Rattle.x25_link.proofs.Names.{◌≡◌, ℕ, suc, zero, ◌+◌, ◌-◌, ◌%◌, ◌<◌, ◌≤◌, List, [], ◌∷◌, ◌++◌, length, Bool, true, false, not, if◌then◌else◌, Some, None}
use Rattle.x25_link.proofs.Names.{Ok, refl, sym, ap, ◌∙◌, subst, arith, append-nil, lt-ltb, and_parts, not-true, PlainFrame, info, rr, rnr, rej, sabm, disc, dm}
use Rattle.x25_link.proofs.Names.{ua, when_closed}
use Rattle.x25_link.proofs.Names.{frame_of, Phase, Down, Up, Closed, Dm, LinkSettings, LinkStation, Side, is_up, is_busy, wanted, with_near, sends}
use Rattle.x25_link.proofs.Names.{ready, next_frame, send_next, may_send, pumped, owes_ready, finished, ended, LinkStep, quiet, leaves, other, is_valid}
use Rattle.x25_link.proofs.Names.{acknowledged, is_taken, takes, answers, passes_over, hears_info, peer_is, goes_back, polls, row_of_frame, alone, closed_by}
use Rattle.std.proofs.Common.{◌*◌, append_assoc}
use Rattle.x25_link.proofs.{EndLemmas.{true_false, open_is}, LinkLemmas.{fires_settled, fires_calm}, Names.{hears, when_down, fires, asks_again}}
use Rattle.x25_link.{proofs.rows.WindowRows.{closed_stays, out_is_not_up}, specs.Hearing.{rejects_gap}, specs.Link.{declines, take_step}}
use Rattle.x25_link.specs.laws.AnswerLaw.{says, AreNext, weight_of, weight_if, once_taken, busy_after, Outcome, Answers, Asks, TimerAsks, heard, goes_on_from}
use Rattle.x25_link.specs.laws.AnswerLaw.{PollIsAnswered, FinalEndsRecovery, ReadyIsHeard, RejGoesBack, IsTakenUp, WantedIsTaken, passed_over}
use Rattle.x25_link.specs.laws.{AnswerLaw.{OtherIsPassedOver, asks, Declines, OutDeclines, DmLeavesUp}, WindowLaw.{IsOut}}

-- ---- what the end of a step sends

next_more : (r n m p : ℕ) (xs ys : List PlainFrame) → AreNext r n xs m → AreNext r m ys p → AreNext r n (xs ++ ys) p
next_more r n m p [] ys h g = subst (λ (z : ℕ). AreNext r z ys p) (sym h) g
next_more r n m p (info ns nr f packet ∷ xs) ys h g = (h.0, h.1, h.2, next_more r (n + 1) m p xs ys h.3 g)
next_more r n m p (rr command nr pf ∷ xs) ys h g = (h.0, h.1, h.2, next_more r n m p xs ys h.3 g)
next_more r n m p (frame ∷ xs) ys h g = absurd h

-- from one side to another by sending alone
pub record GoesOn (t u : Side) : Type 0 where
  pub phase : u.near.phase ≡ t.near.phase
  pub recovery : u.near.recovery ≡ t.near.recovery
  pub peer_busy : u.near.peer_busy ≡ t.near.peer_busy
  pub rejecting : u.near.rejecting ≡ t.near.rejecting
  pub tries : u.near.tries ≡ t.near.tries
  pub taken : u.near.taken ≡ t.near.taken
  pub given : u.near.outgoing.given ≡ t.near.outgoing.given
  pub acked : u.near.outgoing.acked ≡ t.near.outgoing.acked
  pub next : List PlainFrame
  pub out : u.out ≡ t.out ++ next
  pub sends : AreNext (length t.near.taken) t.near.outgoing.place next u.near.outgoing.place
  pub held : t.near.recovery ≡ true → u.near.outgoing.place ≡ t.near.outgoing.place
  pub light : weight_of next + 4 * (length t.near.outgoing.given - u.near.outgoing.place) + weight_if u.near.said_busy
      ≤ 4 * (length t.near.outgoing.given - t.near.outgoing.place) + weight_if t.near.said_busy

weight_more : (xs ys : List PlainFrame) → weight_of (xs ++ ys) ≡ weight_of xs + weight_of ys
weight_more [] ys = omega arith
weight_more (info ns nr p packet ∷ xs) ys = omega (arith, weight_more xs ys)
weight_more (frame ∷ xs) ys = omega (arith, weight_more xs ys)

-- a packet that is still to be sent outweighs its frame
sent_light : (w g p q a b : ℕ) → p < g → w + 4 * (g - p) + a ≤ 4 * (g - q) + b → w + 3 + 4 * (g - (p + 1)) + a ≤ 4 * (g - q) + b
sent_light w g p q a b room h = omega arith

module _ (t : Side) where
  G-stays : GoesOn t t
  G-stays = record {
    phase = refl;
    recovery = refl;
    peer_busy = refl;
    rejecting = refl;
    tries = refl;
    taken = refl;
    given = refl;
    acked = refl;
    next = [];
    out = sym (append-nil t.out);
    sends = refl;
    held = λ _. refl;
    light = omega arith;
  }

  by_if : (b : Bool) (u v : Side) → (b ≡ true → GoesOn t u) → (b ≡ false → GoesOn t v) → GoesOn t (if b then u else v)
  by_if true u v f g = f refl
  by_if false u v f g = g refl

  same_number : (u : Side) → GoesOn t u → wanted u.near ≡ length t.near.taken % 8
  same_number u h = ap (λ (xs : List (List ℕ)). length xs % 8) h.taken

  G-send_next : (k : ℕ) (u : Side) → may_send k u.near ≡ true → GoesOn t u → GoesOn t (send_next u)
  G-send_next k u may h =
      let frame = next_frame u.near in
      let o = open_is k u.near may in
      let same = ap length h.given in
      record {
        phase = h.phase;
        recovery = h.recovery;
        peer_busy = h.peer_busy;
        rejecting = h.rejecting;
        tries = h.tries;
        taken = h.taken;
        given = h.given;
        acked = h.acked;
        next = h.next ++ frame ∷ [];
        out = ap (λ (xs : List PlainFrame). xs ++ frame ∷ []) h.out ∙ append_assoc t.out h.next (frame ∷ []);
        sends = next_more (length t.near.taken) t.near.outgoing.place u.near.outgoing.place (u.near.outgoing.place + 1) h.next (frame ∷ []) h.sends
            (refl, same_number u h, refl, refl);
        held = λ recovers. true_false (sym (h.recovery ∙ recovers) ∙ o.recovery);
        light = omega (
          arith,
          weight_more h.next (frame ∷ []),
          sent_light (weight_of h.next) (length t.near.outgoing.given) u.near.outgoing.place t.near.outgoing.place (weight_if u.near.said_busy)
              (weight_if t.near.said_busy) (omega (arith, o.packet, same)) h.light,
        );
      }

  G-rr : (u : Side) → u.near.said_busy ≡ true → GoesOn t u
      → GoesOn t (sends (rr false (wanted u.near) false) (with_near u (record u.near { said_busy = false })))
  G-rr u said h =
      let frame = rr false (wanted u.near) false in
      let weight = ap weight_if said in
      record {
        phase = h.phase;
        recovery = h.recovery;
        peer_busy = h.peer_busy;
        rejecting = h.rejecting;
        tries = h.tries;
        taken = h.taken;
        given = h.given;
        acked = h.acked;
        next = h.next ++ frame ∷ [];
        out = ap (λ (xs : List PlainFrame). xs ++ frame ∷ []) h.out ∙ append_assoc t.out h.next (frame ∷ []);
        sends = next_more (length t.near.taken) t.near.outgoing.place u.near.outgoing.place u.near.outgoing.place h.next (frame ∷ []) h.sends
            (refl, same_number u h, refl, refl);
        held = h.held;
        light = omega (arith, weight_more h.next (frame ∷ []), weight, h.light);
      }

  -- what a station that isn't busy says
  G-ready : (u : Side) → is_busy u.near ≡ false → u.near.said_busy ≡ true → GoesOn t u → GoesOn t (ready false false u)
  G-ready u free said h = rw free (G-rr u said h)

  G-pumped : (n k : ℕ) (u : Side) → GoesOn t u → GoesOn t (pumped n k u)
  unfolding pumped
  G-pumped zero k u h = h
  G-pumped (suc n) k u h = by_if (may_send k (pumped n k u).near) (send_next (pumped n k u)) (pumped n k u)
      (λ may. G-send_next k (pumped n k u) may (G-pumped n k u h)) (λ _. G-pumped n k u h)

  G-finished : (u : Side) → GoesOn t u → GoesOn t (finished u)
  G-finished u h = by_if (owes_ready u.near) (ready false false u) u
      (λ owes. (let parts = and_parts u.near.said_busy _ (and_parts (is_up u.near.phase) _ owes).1 in G-ready u (not-true _ parts.1) parts.0 h))
      (λ _. h)

  G-ended : (k : ℕ) (u : Side) → GoesOn t u → GoesOn t (ended k u)
  G-ended k u h = G-finished (pumped 7 k u) (G-pumped 7 k u h)

-- ---- from a row to the step

-- a row that sends `first` and leaves the station as the outcome says
answers_from : (k : ℕ) (s : LinkStation) (o : Outcome) (t : Side) (step : LinkStep) → step.notes ≡ record { down = None; up = false } → GoesOn t step.side
    → is_up t.near.phase ≡ true
    → t.near.recovery ≡ o.recovery → t.near.peer_busy ≡ o.peer_busy → t.near.tries ≡ o.tries → t.near.taken ≡ o.taken → t.near.outgoing.given ≡ s.outgoing.given
    → t.near.outgoing.acked ≡ o.acked → t.near.outgoing.place ≡ o.place → t.out ≡ o.first → t.near.said_busy ≡ o.said_busy → Answers s o (closed_by k step)
answers_from k s o t step silent goes up recovery peer_busy tries taken given acked place first said =
    let h = G-ended t k step.side goes in
    record {
      up = ap is_up h.phase ∙ up;
      recovery = h.recovery ∙ recovery;
      peer_busy = h.peer_busy ∙ peer_busy;
      tries = h.tries ∙ tries;
      taken = h.taken ∙ taken;
      given = h.given ∙ given;
      acked = h.acked ∙ acked;
      next = h.next;
      out = h.out ∙ ap (λ (xs : List PlainFrame). xs ++ h.next) first;
      sends = subst (λ (n : ℕ). AreNext (length o.taken) n h.next (closed_by k step).side.near.outgoing.place) place
          (subst (λ (xs : List (List ℕ)). AreNext (length xs) t.near.outgoing.place h.next (closed_by k step).side.near.outgoing.place) taken h.sends);
      held = λ recovers. h.held (recovery ∙ recovers) ∙ place;
      light = omega (arith, h.light, ap length given, place, ap weight_if said);
      quiet = silent;
    }

row_is : (c : LinkSettings) (octets : List ℕ) (s : LinkStation) → s.phase ≡ Up → (frame : PlainFrame) → frame_of (other c.role) c.longest octets ≡ Ok frame
    → take_step c octets s ≡ closed_by c.window (row_of_frame c octets frame (alone s))
row_is c octets s up frame is = rw (up, is) refl

-- the station once a valid N(R) is heard, and the peer's condition
abbrev told : Bool → ℕ → LinkStation → Side
told busy nr s = peer_is busy (acknowledged nr (alone s))

ready_by : (b pf : Bool) (k : ℕ) (s : LinkStation) (o : Outcome) (u : Side) → is_busy u.near ≡ b → is_up u.near.phase ≡ true → u.near.recovery ≡ o.recovery
    → u.near.peer_busy ≡ o.peer_busy
    → u.near.tries ≡ o.tries → u.near.taken ≡ o.taken → u.near.outgoing.given ≡ s.outgoing.given → u.near.outgoing.acked ≡ o.acked → u.near.outgoing.place
    ≡ o.place
    → u.out ++ says b false (wanted u.near) pf ∷ [] ≡ o.first → b ≡ o.said_busy → Answers s o (closed_by k (quiet (ready false pf u)))
ready_by true pf k s o u e up recovery peer_busy tries taken given acked place first said =
    let t : Side = sends (rnr false (wanted u.near) pf) (with_near u (record u.near { said_busy = true })) in
    rw e (answers_from k s o t (quiet t) refl (G-stays t) up recovery peer_busy tries taken given acked place first said)
ready_by false pf k s o u e up recovery peer_busy tries taken given acked place first said =
    let t : Side = sends (rr false (wanted u.near) pf) (with_near u (record u.near { said_busy = false })) in
    rw e (answers_from k s o t (quiet t) refl (G-stays t) up recovery peer_busy tries taken given acked place first said)

-- ---- RR, RNR and REJ

poll_row : (c : LinkSettings) (octets : List ℕ) (s : LinkStation) (busy : Bool) (nr : ℕ) → s.phase ≡ Up → is_valid nr s ≡ true
    → Answers s (record (goes_on_from nr s) { peer_busy = busy; said_busy = is_busy s; first = says (is_busy s) false (wanted s) true ∷ [] })
    (closed_by c.window (row_of_frame c octets (says busy true nr true) (alone s)))
poll_row c octets s true nr up valid = rw valid
    (ready_by (is_busy s) true c.window s _ (told true nr s) refl (ap is_up up) refl refl refl refl refl refl refl refl refl)
poll_row c octets s false nr up valid = rw valid
    (ready_by (is_busy s) true c.window s _ (told false nr s) refl (ap is_up up) refl refl refl refl refl refl refl refl refl)

pub poll_is_answered : PollIsAnswered
poll_is_answered busy nr c octets s up is valid =
    subst (Answers s (record (goes_on_from nr s) { peer_busy = busy; said_busy = is_busy s; first = says (is_busy s) false (wanted s) true ∷ [] }))
    (sym (row_is c octets s up (says busy true nr true) is)) (poll_row c octets s busy nr up valid)

-- the row leaves the station as the outcome says, and sends nothing of its own
still : (k : ℕ) (s : LinkStation) (o : Outcome) (t : Side) → is_up t.near.phase ≡ true → t.near.recovery ≡ o.recovery → t.near.peer_busy ≡ o.peer_busy
    → t.near.tries ≡ o.tries → t.near.taken ≡ o.taken
    → t.near.outgoing.given ≡ s.outgoing.given → t.near.outgoing.acked ≡ o.acked → t.near.outgoing.place ≡ o.place → t.out ≡ o.first → t.near.said_busy
    ≡ o.said_busy → Answers s o (closed_by k (quiet t))
still k s o t = answers_from k s o t (quiet t) refl (G-stays t)

final_row : (c : LinkSettings) (octets : List ℕ) (s : LinkStation) (busy : Bool) (nr : ℕ) → s.phase ≡ Up → is_valid nr s ≡ true
    → Answers s (record (goes_on_from nr s) { recovery = false; peer_busy = busy; tries = 0; place = heard nr s })
    (closed_by c.window (row_of_frame c octets (says busy false nr true) (alone s)))
final_row c octets s true nr up valid = rw valid
    (still c.window s _ (polls false true (told true nr s)) (ap is_up up) refl refl refl refl refl refl refl refl refl)
final_row c octets s false nr up valid = rw valid
    (still c.window s _ (polls false true (told false nr s)) (ap is_up up) refl refl refl refl refl refl refl refl refl)

pub final_ends_recovery : FinalEndsRecovery
final_ends_recovery busy nr c octets s up is valid =
    subst (Answers s (record (goes_on_from nr s) { recovery = false; peer_busy = busy; tries = 0; place = heard nr s }))
    (sym (row_is c octets s up (says busy false nr true) is)) (final_row c octets s busy nr up valid)

ready_row : (c : LinkSettings) (octets : List ℕ) (s : LinkStation) (busy command : Bool) (nr : ℕ) → s.phase ≡ Up → is_valid nr s ≡ true
    → Answers s (record (goes_on_from nr s) { peer_busy = busy }) (closed_by c.window (row_of_frame c octets (says busy command nr false) (alone s)))
ready_row c octets s true true nr up valid = rw valid (still c.window s _ (told true nr s) (ap is_up up) refl refl refl refl refl refl refl refl refl)
ready_row c octets s true false nr up valid = rw valid (still c.window s _ (told true nr s) (ap is_up up) refl refl refl refl refl refl refl refl refl)
ready_row c octets s false true nr up valid = rw valid (still c.window s _ (told false nr s) (ap is_up up) refl refl refl refl refl refl refl refl refl)
ready_row c octets s false false nr up valid = rw valid (still c.window s _ (told false nr s) (ap is_up up) refl refl refl refl refl refl refl refl refl)

pub ready_is_heard : ReadyIsHeard
ready_is_heard busy command nr c octets s up is valid =
    subst (Answers s (record (goes_on_from nr s) { peer_busy = busy })) (sym (row_is c octets s up (says busy command nr false) is))
    (ready_row c octets s busy command nr up valid)

rej_row : (c : LinkSettings) (octets : List ℕ) (s : LinkStation) (command : Bool) (nr : ℕ) → s.phase ≡ Up → is_valid nr s ≡ true
    → Answers s (record (goes_on_from nr s) { peer_busy = false; place = heard nr s })
    (closed_by c.window (row_of_frame c octets (rej command nr false) (alone s)))
rej_row c octets s true nr up valid = rw valid (still c.window s _ (goes_back (told false nr s)) (ap is_up up) refl refl refl refl refl refl refl refl refl)
rej_row c octets s false nr up valid = rw valid (still c.window s _ (goes_back (told false nr s)) (ap is_up up) refl refl refl refl refl refl refl refl refl)

pub rej_goes_back : RejGoesBack
rej_goes_back command nr c octets s up is valid =
    subst (Answers s (record (goes_on_from nr s) { peer_busy = false; place = heard nr s })) (sym (row_is c octets s up (rej command nr false) is))
    (rej_row c octets s command nr up valid)

-- ---- the I frame that is wanted

none_is_none : (frame : PlainFrame) (frames : List PlainFrame) → frame ∷ frames ≡ [] → ⊥
none_is_none frame frames e = absurd (omega (arith, ap length e))

-- what a row has sent goes first
sent_first : (k : ℕ) (u : Side) (frame : PlainFrame) → u.out ≡ frame ∷ [] → (ended k u).out ≡ [] → ⊥
sent_first k u frame one none =
    let h = G-ended u k u (G-stays u) in
    none_is_none frame h.next (ap (λ (xs : List PlainFrame). xs ++ h.next) (sym one) ∙ sym h.out ∙ none)

-- the I frame is answered by the one that goes, or by RR
taken_by : (goes : Bool) (k nr : ℕ) (packet : List ℕ) (s : LinkStation) → s.phase ≡ Up → is_busy s ≡ false
    → may_send k (takes packet (acknowledged nr (alone s))).near ≡ goes
    → (let step : LinkStep = record {
      side = answers k false (takes packet (acknowledged nr (alone s)));
      packet = Some packet;
      notes = record { down = None; up = false };
    } in
    IsTakenUp s packet (once_taken goes nr false packet s) (closed_by k step))
taken_by true k nr packet s up free may =
    let u = takes packet (acknowledged nr (alone s)) in
    let goes : GoesOn u (send_next u) = G-send_next u k u may (G-stays u) in
    let step : LinkStep = record { side = send_next u; packet = Some packet; notes = record { down = None; up = false } } in
    rw may (record {
      answers = answers_from k s (once_taken true nr false packet s) u step refl goes (ap is_up up) refl refl refl refl refl refl refl refl refl;
      packet = refl;
      rejecting = (G-ended u k (send_next u) goes).rejecting;
      speaks = sent_first k (send_next u) (next_frame u.near) refl;
    })
taken_by false k nr packet s up free may =
    let u = takes packet (acknowledged nr (alone s)) in
    let v : Side = sends (rr false (wanted u.near) false) (with_near u (record u.near { said_busy = false })) in
    let step : LinkStep = record { side = v; packet = Some packet; notes = record { down = None; up = false } } in
    rw (may, free) (record {
      answers = answers_from k s (once_taken false nr false packet s) v step refl (G-stays v) (ap is_up up) refl refl refl refl refl refl refl refl refl;
      packet = refl;
      rejecting = (G-ended v k v (G-stays v)).rejecting;
      speaks = sent_first k v (rr false (wanted u.near) false) refl;
    })

wanted_row : (k ns nr : ℕ) (p : Bool) (packet : List ℕ) (s : LinkStation) → s.phase ≡ Up → is_taken ns s ≡ true
    → (goes : Bool) × IsTakenUp s packet (once_taken goes nr p packet s) (closed_by k (hears_info k ns p packet (acknowledged nr (alone s))))
wanted_row k ns nr true packet s up is =
    let u = takes packet (acknowledged nr (alone s)) in
    let free : is_busy s ≡ false = not-true _ (and_parts (not (is_busy s)) _ is).0 in
    let v : Side = sends (rr false (wanted u.near) true) (with_near u (record u.near { said_busy = false })) in
    let step : LinkStep = record { side = v; packet = Some packet; notes = record { down = None; up = false } } in (
      true,
      rw (is, free) (record {
        answers = answers_from k s (once_taken true nr true packet s) v step refl (G-stays v) (ap is_up up) refl refl refl refl refl refl refl refl refl;
        packet = refl;
        rejecting = (G-ended v k v (G-stays v)).rejecting;
        speaks = sent_first k v (rr false (wanted u.near) true) refl;
      }),
    )
wanted_row k ns nr false packet s up is =
    let u = takes packet (acknowledged nr (alone s)) in
    let free : is_busy s ≡ false = not-true _ (and_parts (not (is_busy s)) _ is).0 in
    (may_send k u.near, rw is (taken_by (may_send k u.near) k nr packet s up free refl))

info_row : (c : LinkSettings) (octets : List ℕ) (ns nr : ℕ) (p : Bool) (packet : List ℕ) (s : LinkStation) → s.phase ≡ Up
    → frame_of (other c.role) c.longest octets ≡ Ok (info ns nr p packet) → is_valid nr s ≡ true
    → take_step c octets s ≡ closed_by c.window (hears_info c.window ns p packet (acknowledged nr (alone s)))
info_row c octets ns nr p packet s up is valid = row_is c octets s up (info ns nr p packet) is ∙ rw valid refl

pub wanted_is_taken : WantedIsTaken
wanted_is_taken ns nr p packet c octets s up is valid wants =
    subst (λ (step : LinkStep). (goes : Bool) × IsTakenUp s packet (once_taken goes nr p packet s) step) (sym (info_row c octets ns nr p packet s up is valid))
    (wanted_row c.window ns nr p packet s up wants)

-- ---- any other I frame

gap_by : (rejecting p : Bool) (k nr : ℕ) (s : LinkStation) → s.phase ≡ Up → is_busy s ≡ false
    → (let u : Side = acknowledged nr (alone s) in let v : Side = sends (rr false (wanted s) true) (with_near u (record u.near { said_busy = false })) in
    Answers s (record (goes_on_from nr s) {
      said_busy = if not rejecting then s.said_busy else if p then false else s.said_busy;
      first = if not rejecting
          then rej false (wanted s) p ∷ [] else if p then rr false (wanted s) true ∷ [] else [];
    })
    (closed_by k (quiet (if not rejecting then rejects_gap p u else if p then v else u))))
gap_by false p k nr s up e = still k s _ (rejects_gap p (acknowledged nr (alone s))) (ap is_up up) refl refl refl refl refl refl refl refl refl
gap_by true true k nr s up e =
    still k s _ (sends (rr false (wanted s) true) (with_near (acknowledged nr (alone s)) (record (acknowledged nr (alone s)).near { said_busy = false })))
    (ap is_up up) refl refl refl refl refl refl refl refl refl
gap_by true false k nr s up e = still k s _ (acknowledged nr (alone s)) (ap is_up up) refl refl refl refl refl refl refl refl refl

pass_by : (b p : Bool) (k nr : ℕ) (s : LinkStation) → s.phase ≡ Up → is_busy s ≡ b
    → Answers s (record (goes_on_from nr s) { said_busy = busy_after p s; first = passed_over p s })
    (closed_by k (quiet (passes_over p (acknowledged nr (alone s)))))
pass_by true p k nr s up e =
    rw e (still k s _ (sends (rnr false (wanted s) p) (with_near (acknowledged nr (alone s)) (record (acknowledged nr (alone s)).near { said_busy = true })))
    (ap is_up up) refl refl refl refl refl refl refl refl refl)
pass_by false p k nr s up e = rw e (gap_by s.rejecting p k nr s up e)

pub other_is_passed_over : OtherIsPassedOver
other_is_passed_over ns nr p packet c octets s up is valid other_one =
    subst (Answers s (record (goes_on_from nr s) { said_busy = busy_after p s; first = passed_over p s }))
    (sym (info_row c octets ns nr p packet s up is valid))
    (rw other_one (pass_by (is_busy s) p c.window nr s up refl))

-- ---- timer T1

fires_is : (c : LinkSettings) (s : LinkStation) → s.phase ≡ Up → s.tries < c.retries → fires c (alone s)
    ≡ quiet (ready true true (alone (record s { tries = s.tries + 1; recovery = true })))
fires_is c s up few = rw (lt-ltb _ _ few) (ap (λ (p : Phase). quiet (asks_again p (with_near (alone s) (record s { tries = s.tries + 1 })))) up)

asks_by : (b : Bool) (c : LinkSettings) (s : LinkStation) → s.phase ≡ Up → is_busy s ≡ b → s.tries < c.retries → Asks s (closed_by c.window (fires c (alone s)))
asks_by b c s up e few =
    subst (Asks s) (sym (closed_stays c.window (fires c (alone s)) (fires_settled c (alone s)) (fires_calm c (alone s))))
    (subst (Asks s) (sym (fires_is c s up few)) (asked b e))
  where
    near : (b : Bool) → b ≡ is_busy s → record s { tries = s.tries + 1; recovery = true; said_busy = b }
        ≡ record s { tries = s.tries + 1; recovery = true; said_busy = is_busy s }
    near b e = ap (λ (said : Bool). let z : LinkStation = record s { tries = s.tries + 1; recovery = true; said_busy = said } in z) e

    out : (b : Bool) → b ≡ is_busy s → says b true (wanted s) true ∷ [] ≡ says (is_busy s) true (wanted s) true ∷ []
    out b e = ap (λ (said : Bool). says said true (wanted s) true ∷ []) e

    asked : (b : Bool) → is_busy s ≡ b → Asks s (quiet (ready true true (alone (record s { tries = s.tries + 1; recovery = true }))))
    asked true e = rw e (record { near = near true (sym e); out = out true (sym e); packet = refl; quiet = refl })
    asked false e = rw e (record { near = near false (sym e); out = out false (sym e); packet = refl; quiet = refl })

pub timer_asks : TimerAsks
timer_asks c s up few = asks_by (is_busy s) c s up refl few

-- ---- stations that are out

down_declines : (frame : PlainFrame) (s : LinkStation) → asks frame ≡ true → Declines s (when_down frame (alone s))
down_declines (info ns nr true x) s e = record { near = refl; out = refl; packet = refl; quiet = refl }
down_declines (rr true nr true) s e = record { near = refl; out = refl; packet = refl; quiet = refl }
down_declines (rnr true nr true) s e = record { near = refl; out = refl; packet = refl; quiet = refl }
down_declines (rej true nr true) s e = record { near = refl; out = refl; packet = refl; quiet = refl }
down_declines frame s e = true_false (sym e)

closed_declines : (frame : PlainFrame) (s : LinkStation) → asks frame ≡ true → Declines s (when_closed frame (alone s))
closed_declines (sabm p) s e = true_false (sym e)
closed_declines (disc p) s e = true_false (sym e)
closed_declines (ua f) s e = true_false (sym e)
closed_declines (dm f) s e = true_false (sym e)
closed_declines frame s e = down_declines frame s e

out_row : (c : LinkSettings) (octets : List ℕ) (p : Phase) (s : LinkStation) → IsOut p → (frame : PlainFrame) → asks frame ≡ true
    → Declines s (hears c octets (Ok frame) p (alone s))
out_row c octets Down s out frame e = down_declines frame s e
out_row c octets Closed s out frame e = closed_declines frame s e
out_row c octets p s out frame e = absurd out

pub out_declines : OutDeclines
out_declines c octets s out frame is e =
    let h = out_row c octets s.phase s out frame e in
    let step : LinkStep = hears c octets (Ok frame) s.phase (alone s) in
    let off : is_up step.side.near.phase ≡ false = ap (λ (z : LinkStation). is_up z.phase) h.near ∙ out_is_not_up s.phase out in
    rw is (subst (Declines s) (sym (closed_stays c.window step (rw off refl) (rw off refl))) h)

pub dm_leaves_up : DmLeavesUp
dm_leaves_up c octets s up f is =
    let h : take_step c octets s ≡ leaves Dm (alone s) = row_is c octets s up (dm f) is ∙ closed_stays c.window (leaves Dm (alone s)) refl refl in
    (ap (λ (z : LinkStep). z.side.near) h, ap (λ (z : LinkStep). z.side.out) h)

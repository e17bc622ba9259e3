-- How many frames a step sends: one for what it hears, seven by the sending rule, and the RR that ends an RNR.
use Rattle.x25_link.proofs.Names.{◌≡◌, ℕ, zero, suc, ◌+◌, ◌≤◌, List, [], ◌∷◌, length, Bool, true, false, not, if◌then◌else◌, Result, Ok, Err, refl, ap, arith}
use Rattle.x25_link.proofs.Names.{length-append, subst, sym, PlainFrame, info, rr, rnr, rej, sabm, disc, ua, dm, ◌&&◌, is_command, poll_or_final}
use Rattle.x25_link.proofs.Names.{frame_of, FrameError, Undefined, NoInfoAllowed, TooLong, Phase, Down, Waiting, Up, Closed, no_packet, moved_on, LinkSettings}
use Rattle.x25_link.proofs.Names.{LinkStation, Side, with_nothing, fresh, is_busy, wanted, with_near, next_frame, sends, ready, send_next, may_send, pumped}
use Rattle.x25_link.proofs.Names.{owes_ready, ended, LinkStep, quiet, other, is_valid, acknowledged, is_taken, takes, answers, passes_over, hears_info, peer_is}
use Rattle.x25_link.proofs.Names.{goes_back, polls, numbered, rejects, reject_of, row_of_frame, row_of, alone, hears, when_down, when_waiting, when_closed}
use Rattle.x25_link.proofs.Names.{answered, Closing, Asked, Ending, ByUa, ByDm}
use Rattle.x25_link.proofs.EndLemmas.{with_packet, put_once}
use Rattle.x25_link.{proofs.OutgoingLemmas.{sent_length}, specs.code.Bounds.{TakeSendsFew, PutSendsOne}}

-- ---- one frame at most, and V(S) stays where it may lie

-- at most n frames are sent, and V(S) isn't below what is acknowledged where it wasn't
pub record Few (was : Type 0) (n : ℕ) (t : Side) : Type 0 where
  pub few : length t.out ≤ n
  pub low : was → t.near.outgoing.acked ≤ t.near.outgoing.place

module _ (was : Type 0) where
  F-if : (b : Bool) (u v : Side) → Few was 1 u → Few was 1 v → Few was 1 (if b then u else v)
  F-if true u v f g = f
  F-if false u v f g = g

  F-step : (b : Bool) (x y : LinkStep) → Few was 1 x.side → Few was 1 y.side → (let z : LinkStep = if b then x else y in Few was 1 z.side)
  F-step true x y f g = f
  F-step false x y f g = g

  silent : (t : Side) → Few was 0 t → Few was 1 t
  silent t h = let few = h.few in record { few = omega (arith, few); low = h.low }

  first : (frame : PlainFrame) (t : Side) → Few was 0 t → Few was 1 (sends frame t)
  first frame t h = let few = h.few in record { few = omega (arith, few, length-append t.out (frame ∷ [])); low = h.low }

  -- a frame goes, and all begins anew
  anew : (frame : PlainFrame) (t : Side) (s : LinkStation) → Few was 0 t → s.outgoing ≡ no_packet → Few was 1 (with_near (sends frame t) s)
  anew frame t s h none = record {
    few = (first frame t h).few;
    low = let acked : s.outgoing.acked ≡ 0 = ap (λ o. o.acked) none in λ _. omega (arith, acked);
  }

  F-ready : (command pf : Bool) (t : Side) → Few was 0 t → Few was 1 (ready command pf t)
  F-ready command pf t h = F-if (is_busy t.near) _ _
      (first (rnr command (wanted t.near) pf) (with_near t (record t.near { said_busy = true })) (record { few = h.few; low = h.low }))
      (first (rr command (wanted t.near) pf) (with_near t (record t.near { said_busy = false })) (record { few = h.few; low = h.low }))

  F-next : (t : Side) → Few was 0 t → Few was 1 (send_next t)
  F-next t h = first (next_frame t.near) (with_near t (record t.near { outgoing = moved_on t.near.outgoing }))
      (record { few = h.few; low = λ w. let low = h.low w in omega (arith, low) })

  F-answers : (k : ℕ) (p : Bool) (t : Side) → Few was 0 t → Few was 1 (answers k p t)
  F-answers k true t h = F-ready false true t h
  F-answers k false t h = F-if (may_send k t.near) (send_next t) (ready false false t) (F-next t h) (F-ready false false t h)

  F-passes_over : (p : Bool) (t : Side) → Few was 0 t → Few was 1 (passes_over p t)
  F-passes_over p t h = F-if (is_busy t.near) _ _ (F-ready false p t h)
      (F-if (not t.near.rejecting) _ _ (record { few = (first (rej false (wanted t.near) p) t h).few; low = h.low })
      (F-if p _ _ (F-ready false true t h) (silent t h)))

  F-polls : (command pf : Bool) (t : Side) → Few was 0 t → Few was 1 (polls command pf t)
  F-polls true true t h = F-ready false true t h
  F-polls true false t h = silent t h
  F-polls false true t h = let few = h.few in record { few = omega (arith, few); low = λ _. omega arith }
  F-polls false false t h = silent t h

  F-rejects : (c : LinkSettings) (octets : List ℕ) (why : ℕ) (t : Side) → Few was 0 t → Few was 1 (rejects c octets why t).side
  F-rejects c octets why t h = anew (reject_of c octets why t.near) t (with_nothing Down t.near.tries) h refl

  F-numbered : (c : LinkSettings) (octets : List ℕ) (nr : ℕ) (row : Side → LinkStep) (t : Side) → Few was 0 t
      → ((u : Side) → Few was 0 u → Few was 1 (row u).side) → Few was 1 (numbered c octets nr row t).side
  F-numbered c octets nr row t h f =
      F-step (is_valid nr t.near) (row (acknowledged nr t)) (rejects c octets 8 t) (f (acknowledged nr t) (record { few = h.few; low = λ _. omega arith }))
      (F-rejects c octets 8 t h)

  frame_few : (c : LinkSettings) (octets : List ℕ) (frame : PlainFrame) (t : Side) → Few was 0 t → Few was 1 (row_of_frame c octets frame t).side
  frame_few c octets (info ns nr p packet) t h = F-numbered c octets nr (hears_info c.window ns p packet) t h
      (λ u f. F-step (is_taken ns u.near) _ _ (F-answers c.window p (takes packet u) (record { few = f.few; low = f.low })) (F-passes_over p u f))
  frame_few c octets (rr command nr pf) t h = F-numbered c octets nr (λ u. quiet (polls command pf (peer_is false u))) t h
      (λ u f. F-polls command pf (peer_is false u) (record { few = f.few; low = f.low }))
  frame_few c octets (rnr command nr pf) t h = F-numbered c octets nr (λ u. quiet (polls command pf (peer_is true u))) t h
      (λ u f. F-polls command pf (peer_is true u) (record { few = f.few; low = f.low }))
  frame_few c octets (rej command nr pf) t h = F-numbered c octets nr (λ u. quiet (polls command pf (goes_back (peer_is false u)))) t h
      (λ u f. F-polls command pf (goes_back (peer_is false u)) (record { few = f.few; low = λ _. omega arith }))
  frame_few c octets (sabm p) t h = anew (ua p) t fresh h refl
  frame_few c octets (disc p) t h = anew (ua p) t (with_nothing Down t.near.tries) h refl
  frame_few c octets (ua f) t h = silent t h
  frame_few c octets frame t h = let few = h.few in record { few = omega (arith, few); low = λ _. omega arith }

  read_few : (c : LinkSettings) (octets : List ℕ) (read : Result PlainFrame FrameError) (t : Side) → Few was 0 t → Few was 1 (row_of c octets read t).side
  read_few c octets (Ok frame) t h = frame_few c octets frame t h
  read_few c octets (Err (Undefined control)) t h = F-rejects c octets 1 t h
  read_few c octets (Err (NoInfoAllowed control)) t h = F-rejects c octets 3 t h
  read_few c octets (Err TooLong) t h = F-rejects c octets 4 t h
  read_few c octets (Err x) t h = silent t h

  F-declines : (b : Bool) (t : Side) → Few was 0 t → Few was 1 (if b then sends (dm true) t else t)
  F-declines b t h = F-if b _ _ (first (dm true) t h) (silent t h)

  down_few : (frame : PlainFrame) (t : Side) → Few was 0 t → Few was 1 (when_down frame t).side
  down_few (sabm p) t h = anew (ua p) t fresh h refl
  down_few (disc p) t h = first (dm p) t h
  down_few frame t h = F-declines (is_command frame && poll_or_final frame) t h

  waiting_few : (frame : PlainFrame) (t : Side) → Few was 0 t → Few was 1 (when_waiting frame t).side
  waiting_few (ua true) t h = let few = h.few in record { few = omega (arith, few); low = λ _. omega arith }
  waiting_few (sabm p) t h = first (ua p) t h
  waiting_few (disc p) t h = first (dm p) t h
  waiting_few frame t h = silent t h

  ended_few : (ending : Ending) (closing : Closing) (t : Side) → Few was 0 t → Few was 1 (answered ending closing t)
  ended_few ending Asked t h = record { few = (silent t h).few; low = h.low }
  ended_few ending closing t h = silent t h

  closed_few : (frame : PlainFrame) (t : Side) → Few was 0 t → Few was 1 (when_closed frame t).side
  closed_few (ua true) t h = ended_few ByUa t.near.closing t h
  closed_few (dm true) t h = ended_few ByDm t.near.closing t h
  closed_few frame t h = F-declines (is_command frame && poll_or_final frame) t h

  pub hears_few : (c : LinkSettings) (octets : List ℕ) (read : Result PlainFrame FrameError) (p : Phase) (t : Side) → Few was 0 t
      → Few was 1 (hears c octets read p t).side
  hears_few c octets (Ok frame) Down t h = down_few frame t h
  hears_few c octets (Ok frame) Waiting t h = waiting_few frame t h
  hears_few c octets read Up t h = read_few c octets read t h
  hears_few c octets (Ok frame) Closed t h = closed_few frame t h
  hears_few c octets (Err x) p t h = silent t h

-- ---- the end of a step

count_if : (b : Bool) (u v : Side) (n : ℕ) → length u.out ≤ n → length v.out ≤ n → (let w : Side = if b then u else v in length w.out) ≤ n
count_if true u v n f g = f
count_if false u v n f g = g

more : (frame : PlainFrame) (t : Side) → length (sends frame t).out ≡ length t.out + 1
more frame t = length-append t.out (frame ∷ [])

pumped_count : (n k : ℕ) (t : Side) → length (pumped n k t).out ≤ length t.out + n
unfolding pumped
pumped_count zero k t = omega arith
pumped_count (suc n) k t =
    let before = pumped_count n k t in
    count_if (may_send k (pumped n k t).near) (send_next (pumped n k t)) (pumped n k t) _ (omega (arith, more (next_frame (pumped n k t).near) (pumped n k t)))
    (omega arith)

ended_count : (k : ℕ) (t : Side) → length (ended k t).out ≤ length t.out + 8
ended_count k t =
    let u = pumped 7 k t in
    let before = pumped_count 7 k t in
    count_if (owes_ready u.near) (ready false false u) u
    _ (count_if (is_busy u.near) _ _ _ (omega (arith, more (rnr false (wanted u.near) false) u)) (omega (arith, more (rr false (wanted u.near) false) u)))
    (omega arith)

pub take_sends_few : TakeSendsFew
take_sends_few c octets s =
    let read = frame_of (other c.role) c.longest octets in
    let heard = hears_few ⊥ c octets read s.phase (alone s) (record { few = omega arith; low = λ w. absurd w }) in
    let few = heard.few in
    omega (arith, ended_count c.window (hears c octets read s.phase (alone s)).side, few)

pub put_sends_one : PutSendsOne
put_sends_one c v s packet fits =
    let outgoing = fits.near.outgoing in
    let l = sent_length c.window _ s.outgoing outgoing in
    let high = outgoing.sender.sound.place_high in
    let t = with_packet packet s in
    subst (λ (u : Side). length u.out ≤ 1) (sym (put_once c.window s packet (omega arith) fits.settled fits.calm))
    (let none : Few ⊥ 0 t = record { few = omega arith; low = λ w. absurd w } in
    let once : Few ⊥ 1 (if may_send c.window t.near then send_next t else t) =
    F-if ⊥ (may_send c.window t.near) (send_next t) t (F-next ⊥ t none) (silent ⊥ t none) in
    once.few)

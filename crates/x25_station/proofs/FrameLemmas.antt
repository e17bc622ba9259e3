-- A step is answered by few frames, whatever is handed down in it: one answers what came, each I frame takes a place in
-- the window, and one RR at most ends an RNR.
use Rattle.x25_station.proofs.Names.{◌≡◌, ℕ, zero, suc, ◌+◌, ◌-◌, ◌<◌, ◌≤◌, List, [], ◌∷◌, ◌++◌, Bool, true, false, not, ◌&&◌, if◌then◌else◌, nat_lt, length}
use Rattle.x25_station.proofs.Names.{refl, ap, sym, ◌∙◌, arith, le_trans, and_parts, ltb-true, PlainFrame, frame_of, quiet, other, alone, take_step, put_step}
use Rattle.x25_station.proofs.Names.{added, LinkSettings, LinkStation, Side, is_up, is_busy, with_near, sends, ready, send_next, may_send, pumped, owes_ready}
use Rattle.x25_station.proofs.Names.{ended, PlainPacket, put_on, all_put, behind}
use Rattle.std.proofs.lemmas.List.{length-append}
use Rattle.x25_frame.specs.Frame.{rr, rnr}
use Rattle.x25_link.proofs.FrameCount.{Few, hears_few}
use Rattle.x25_link.specs.{Link.{hears}, Outgoing.{is_open}, Station.{wanted, next_frame, finished}}
use Rattle.x25_packet.specs.Spelling as packet

-- the places left in the window, and one where RNR was said
abbrev pub said : Bool → ℕ
said true = 1
said false = 0

pub said_few : (b : Bool) → said b ≤ 1
said_few true = omega arith
said_few false = omega arith

abbrev pub left_of : ℕ → LinkStation → ℕ
left_of k s = (s.outgoing.acked + k - s.outgoing.place) + said s.said_busy

abbrev pub count_of : ℕ → Side → ℕ
count_of k t = length t.out + left_of k t.near

lower_if : (k : ℕ) (b : Bool) (u v t : Side) → (b ≡ true → count_of k u ≤ count_of k t) → count_of k v ≤ count_of k t → count_of k (if b then u else v)
    ≤ count_of k t
lower_if k true u v t p q = p refl
lower_if k false u v t p q = q

one_more : (out : List PlainFrame) (frame : PlainFrame) → length (out ++ frame ∷ []) ≡ length out + 1
one_more out frame = length-append out (frame ∷ [])

-- an I frame takes a place
next_lower : (k : ℕ) (t : Side) → may_send k t.near ≡ true → count_of k (send_next t) ≤ count_of k t
next_lower k t may =
    let s = t.near in
    let low : is_open k s.outgoing ≡ true =
    (and_parts (not s.peer_busy) (is_open k s.outgoing)
    (and_parts (not s.recovery) (not s.peer_busy && is_open k s.outgoing)
    (and_parts (is_up s.phase) (not s.recovery && (not s.peer_busy && is_open k s.outgoing)) may).1).1).1 in
    let place : s.outgoing.place < s.outgoing.acked + k = ltb-true
    _ _ (and_parts (nat_lt s.outgoing.place (s.outgoing.acked + k)) (nat_lt s.outgoing.place (length s.outgoing.given)) low).0 in
    let more = one_more t.out (next_frame s) in
    omega (arith, more, place)

pumped_lower : (n k : ℕ) (t : Side) → count_of k (pumped n k t) ≤ count_of k t
unfolding pumped
pumped_lower zero k t = omega arith
pumped_lower (suc n) k t =
    le_trans (lower_if k (may_send k (pumped n k t).near) (send_next (pumped n k t)) (pumped n k t) (pumped n k t) (λ may. next_lower k (pumped n k t) may)
    (omega arith)) (pumped_lower n k t)

-- the RR that ends an RNR
ready_lower : (k : ℕ) (t : Side) → owes_ready t.near ≡ true → count_of k (ready false false t) ≤ count_of k t
ready_lower k t owes = by (is_busy t.near) refl
    (and_parts t.near.said_busy (not (is_busy t.near)) (and_parts (is_up t.near.phase) (t.near.said_busy && not (is_busy t.near)) owes).1)
  where
    true_false : false ≡ true → ⊥
    true_false e = cc

    spoke : (b : Bool) → b ≡ true → said b ≡ 1
    spoke true is = refl
    spoke false is = absurd (true_false is)

    quiet : Side
    quiet = sends (rr false (wanted t.near) false) (with_near t (record t.near { said_busy = false }))

    loud : Side
    loud = sends (rnr false (wanted t.near) false) (with_near t (record t.near { said_busy = true }))

    by : (b : Bool) → is_busy t.near ≡ b → (t.near.said_busy ≡ true) × (not (is_busy t.near) ≡ true) → count_of k (if b then loud else quiet) ≤ count_of k t
    by true is both = absurd (true_false (sym (ap not is) ∙ both.1))
    by false is both = let more = one_more t.out (rr false (wanted t.near) false) in let one : said t.near.said_busy ≡ 1 = spoke t.near.said_busy both.0 in
        omega (arith, more, one)

finished_lower : (k : ℕ) (t : Side) → count_of k (finished t) ≤ count_of k t
finished_lower k t = lower_if k (owes_ready t.near) (ready false false t) t t (λ owes. ready_lower k t owes) (omega arith)

ended_lower : (k : ℕ) (t : Side) → count_of k (ended k t) ≤ count_of k t
ended_lower k t = le_trans (finished_lower k (pumped 7 k t)) (pumped_lower 7 k t)

pub put_lower : (c : LinkSettings) (octets : List ℕ) (t : Side) → count_of c.window (behind t (put_step c octets t.near).side) ≤ count_of c.window t
put_lower c octets t =
    let u : Side = with_near (alone t.near) (record t.near { outgoing = added octets t.near.outgoing }) in
    let lower : count_of c.window (ended c.window u) ≤ count_of c.window u = ended_lower c.window u in
    let more : length (t.out ++ (ended c.window u).out) ≡ length t.out + length (ended c.window u).out = length-append t.out (ended c.window u).out in
    omega (arith, lower, more)

pub all_lower : (c : LinkSettings) (packets : List PlainPacket) (t : Side) → count_of c.window (all_put c packets t) ≤ count_of c.window t
all_lower c [] t = omega arith
all_lower c (p ∷ packets) t = le_trans (all_lower c packets (put_on c p t)) (put_lower c (packet.spelling_of p) t)

pub few_put : (c : LinkSettings) (packets : List PlainPacket) (t : Side) → c.window ≤ 7 → t.near.outgoing.acked ≤ t.near.outgoing.place
    → length (all_put c packets t).out ≤ length t.out + 8
few_put c packets t small low =
    let lower = all_lower c packets t in
    let one : said t.near.said_busy ≤ 1 = said_few t.near.said_busy in
    omega (arith, lower, small, low, one)

-- seven I frames at most behind the answer, and the RR that ends an RNR
pub few_heard : (c : LinkSettings) (octets : List ℕ) (s : LinkStation) (packets : List PlainPacket) → c.window ≤ 7 → s.outgoing.acked ≤ s.outgoing.place
    → length (all_put c packets (take_step c octets s).side).out ≤ 9
few_heard c octets s packets small low =
    let u : Side = (hears c octets (frame_of (other c.role) c.longest octets) s.phase (alone s)).side in
    let put = all_lower c packets (ended c.window u) in
    let lower = ended_lower c.window u in
    let heard : Few (s.outgoing.acked ≤ s.outgoing.place) 1 u = hears_few (s.outgoing.acked ≤ s.outgoing.place) c octets
    (frame_of (other c.role) c.longest octets) s.phase (alone s) (record { few = omega arith; low = λ was. was }) in
    let few = heard.few in
    let place = heard.low low in
    let one = said_few u.near.said_busy in
    omega (arith, put, lower, few, place, one, small)

-- What the code's variables stand for after a small change.
use Rattle.x25_link.proofs.Names.{◌≡◌, ℕ, ◌%◌, List, [], ◌∷◌, ◌++◌, Bool, true, false, if◌then◌else◌, refl, sym, ap, ◌∙◌, ◌+◌, ◌<◌, arith, not, length}
use Rattle.x25_link.proofs.Names.{length-append, ◌≤◌, ◌-◌, eq-eqb, and_right, PlainFrame, info, spelling_of, Outgoing, is_open, next_packet, moved_on}
use Rattle.x25_link.proofs.Names.{FitsOutgoing, Phase, Up, LinkSettings, LinkStation, Side, with_near, with_nothing, fresh, is_up, is_busy, wanted, may_send}
use Rattle.x25_link.proofs.Names.{Closed, Closing, Unasked, Asked, disconnected}
use Rattle.x25_link.proofs.Names.{pumped, owes_ready, acknowledged, peer_is, goes_back, is_taken, takes, FitsStation, FitsSide}
use Rattle.std.{proofs.Common.{append_assoc, add-one, ◌==◌, max, ◌&&◌}, proofs.lemmas.Bool.{ne_eqb}, proofs.lemmas.List.{map-append}, specs.Prelude.{IsTrue}}
use Rattle.x25_bits.specs.declared.{role.Role.{Role}, seq.Seq.{Seq}}
use Rattle.x25_link.proofs.EndLemmas.{true_false, pumped_settled, once_none}
use Rattle.x25_link.specs.{Outgoing.{acknowledged_to, gone_back}, Station.{pumped_once}, code.Fits.{Made}}
use Rattle.x25_link.specs.declared.{outgoing.Outgoing.{Outgoing as OutgoingCode}, station.LinkStation.{LinkStation as StationCode}}
use Rattle.x25_window.specs.{Receiver.{FitsTaken}, code.Modulo.{resolved}}

-- all is dropped, and the answer to a DISC may be awaited
pub closes_fits : (c : LinkSettings) (v : StationCode) (closing : Closing) (before made : List (List ℕ)) (t : Side) (tries : ℕ)
    → closing ≡ (if c.disc_again then Asked else Unasked) → FitsSide c v before made (with_near t (with_nothing Closed tries))
    → FitsSide c (record v { tries = 0; closing = closing }) before made (with_near t (disconnected c.disc_again))
closes_fits c v closing before made t tries is fits = record {
  near = record {
    role = fits.near.role;
    longest = fits.near.longest;
    retries = fits.near.retries;
    again = fits.near.again;
    outgoing = fits.near.outgoing;
    taken = fits.near.taken;
    phase = fits.near.phase;
    tries = refl;
    recovery = fits.near.recovery;
    peer_busy = fits.near.peer_busy;
    rejecting = fits.near.rejecting;
    said_busy = fits.near.said_busy;
    closing = is;
  };
  out = fits.out;
}

pub closing_fits : (c : LinkSettings) (v : StationCode) (s : LinkStation) (closing : Closing) → FitsStation c v s
    → FitsStation c (record v { closing = closing }) (record s { closing = closing })
closing_fits c v s closing fits = record {
  role = fits.role;
  longest = fits.longest;
  retries = fits.retries;
  again = fits.again;
  outgoing = fits.outgoing;
  taken = fits.taken;
  phase = fits.phase;
  tries = fits.tries;
  recovery = fits.recovery;
  peer_busy = fits.peer_busy;
  rejecting = fits.rejecting;
  said_busy = fits.said_busy;
  closing = refl;
}

pub made_more : (c : LinkSettings) (role : Role) (before old made : List (List ℕ)) (frames : List PlainFrame) (frame : PlainFrame) → role ≡ c.role
    → Made c before old frames
    → made ≡ old ++ spelling_of role frame ∷ [] → Made c before made (frames ++ frame ∷ [])
made_more c role before old made frames frame same h e =
    e ∙ ap (λ (r : Role). old ++ spelling_of r frame ∷ []) same ∙ ap (λ (o : List (List ℕ)). o ++ spelling_of c.role frame ∷ []) h
    ∙ append_assoc before _ _ ∙ ap (λ (m : List (List ℕ)). before ++ m) (sym (map-append (spelling_of c.role) frames (frame ∷ [])))

pub with_outgoing : (c : LinkSettings) (v : StationCode) (s : LinkStation) (b : OutgoingCode) (o : Outgoing) → FitsStation c v s → FitsOutgoing c.window b o
    → FitsStation c (record v { outgoing = b }) (record s { outgoing = o })
with_outgoing c v s b o fits outgoing = record {
  role = fits.role;
  longest = fits.longest;
  retries = fits.retries;
  again = fits.again;
  outgoing = outgoing;
  taken = fits.taken;
  phase = fits.phase;
  tries = fits.tries;
  recovery = fits.recovery;
  peer_busy = fits.peer_busy;
  rejecting = fits.rejecting;
  said_busy = fits.said_busy;
  closing = fits.closing;
}

pub may_send_is : (k : ℕ) (s : LinkStation) → s.recovery ≡ false → s.peer_busy ≡ false → is_up s.phase ≡ true → may_send k s ≡ is_open k s.outgoing
may_send_is k s recovery peer_busy up = rw (up, recovery, peer_busy) refl

-- the sending rule, once, of a station that has these packets
pub sends_fits : (c : LinkSettings) (v : StationCode) (b : OutgoingCode) (before old made : List (List ℕ)) (s : LinkStation) (o : Outgoing)
    (out : List PlainFrame) (nr : ℕ) (sent : Bool) → FitsStation c v s
    → Made c before old out → nr ≡ wanted s → sent ≡ may_send c.window (record s { outgoing = o })
    → FitsOutgoing c.window b (if sent then moved_on o else o)
    → made ≡ (if sent then old ++ spelling_of v.role (info (o.place % 8) nr false (next_packet o)) ∷ [] else old)
    → FitsSide c (record v { outgoing = b }) before made (pumped_once c.window (record { near = record s { outgoing = o }; out = out }))
sends_fits c v b before old made s o out nr true near h number may outgoing e =
    rw (sym may) (record { near = with_outgoing c v s b _ near outgoing; out = made_more c v.role before old made out _ near.role h (rw number at e) })
sends_fits c v b before old made s o out nr false near h number may outgoing e =
    rw (sym may) (record { near = with_outgoing c v s b _ near outgoing; out = e ∙ h })

pub pumped_more : (n k : ℕ) (t : Side) → pumped (n + 1) k t ≡ pumped_once k (pumped n k t)
unfolding pumped
pumped_more n k t = rw (add-one n) refl

-- once nothing may be sent, the others of seven send nothing
pub pumped_all : (c : LinkSettings) (v : StationCode) (before made : List (List ℕ)) (t : Side) (i : ℕ) → i ≤ 7
    → false ≡ may_send c.window (pumped i c.window t).near → FitsSide c v before made (pumped_once c.window (pumped i c.window t))
    → FitsSide c v before made (pumped 7 c.window t)
pumped_all c v before made t i low none side =
    let k = c.window in
    let seven : 7 ≡ (7 - i) + i = omega (arith, low) in
    rw (ap (λ (n : ℕ). pumped n k t) seven ∙ pumped_settled (7 - i) i k t (sym none)) (rw (once_none k (pumped i k t) (sym none)) at side)

-- whether an RR is owed, by the code's variables
pub owes_is : (c : LinkSettings) (v : StationCode) (s : LinkStation) → FitsStation c v s → (up said busy : Bool) → up ≡ is_up v.phase → v.said_busy ≡ said
    → busy ≡ is_busy s → owes_ready s ≡ (up && (said && not busy))
owes_is c v s fits up said busy e f g = rw (sym fits.phase, sym fits.said_busy, f, sym e, sym g) refl

pub said : (c : LinkSettings) (v : StationCode) (s : LinkStation) (b : Bool) → FitsStation c v s
    → FitsStation c (record v { said_busy = b }) (record s { said_busy = b })
said c v s b fits = record {
  role = fits.role;
  longest = fits.longest;
  retries = fits.retries;
  again = fits.again;
  outgoing = fits.outgoing;
  taken = fits.taken;
  phase = fits.phase;
  tries = fits.tries;
  recovery = fits.recovery;
  peer_busy = fits.peer_busy;
  rejecting = fits.rejecting;
  said_busy = refl;
  closing = fits.closing;
}

pub rejecting : (c : LinkSettings) (v : StationCode) (s : LinkStation) (b : Bool) → FitsStation c v s
    → FitsStation c (record v { rejecting = b }) (record s { rejecting = b })
rejecting c v s b fits = record {
  role = fits.role;
  longest = fits.longest;
  retries = fits.retries;
  again = fits.again;
  outgoing = fits.outgoing;
  taken = fits.taken;
  phase = fits.phase;
  tries = fits.tries;
  recovery = fits.recovery;
  peer_busy = fits.peer_busy;
  rejecting = refl;
  said_busy = fits.said_busy;
  closing = fits.closing;
}

pub tries_fits : (c : LinkSettings) (v : StationCode) (s : LinkStation) (m n : ℕ) → m ≡ n → FitsStation c v s
    → FitsStation c (record v { tries = m }) (record s { tries = n })
tries_fits c v s m n same fits = record {
  role = fits.role;
  longest = fits.longest;
  retries = fits.retries;
  again = fits.again;
  outgoing = fits.outgoing;
  taken = fits.taken;
  phase = fits.phase;
  tries = same;
  recovery = fits.recovery;
  peer_busy = fits.peer_busy;
  rejecting = fits.rejecting;
  said_busy = fits.said_busy;
  closing = fits.closing;
}

-- ---- an N(R) that acknowledges some frames, or none

pub risen : (c : LinkSettings) (v : StationCode) (b : OutgoingCode) (before made : List (List ℕ)) (t : Side) (count nr : ℕ) → FitsSide c v before made t
    → 0 < count
    → t.near.outgoing.acked + count ≡ resolved t.near.outgoing.acked nr
    → FitsOutgoing c.window b (acknowledged_to (t.near.outgoing.acked + count) t.near.outgoing)
    → FitsSide c (record v { outgoing = b; tries = 0 }) before made (acknowledged nr t)
risen c v b before made t count nr side some number outgoing =
    let test : (resolved t.near.outgoing.acked nr == t.near.outgoing.acked) ≡ false = ne_eqb _ _ (λ e. omega arith) in
    rw test (record {
      near = tries_fits c (record v { outgoing = b }) _ 0 0 refl (with_outgoing c v t.near b _ side.near (rw number at outgoing));
      out = side.out;
    })

pub not_risen : (c : LinkSettings) (v : StationCode) (before made : List (List ℕ)) (t : Side) (count nr : ℕ) → FitsSide c v before made t → count ≡ 0
    → t.near.outgoing.acked + count ≡ resolved t.near.outgoing.acked nr → FitsSide c v before made (acknowledged nr t)
not_risen c v before made t count nr side none number =
    let o = t.near.outgoing in
    let same : resolved o.acked nr ≡ o.acked = omega (arith, number, none) in
    let test : (o.acked == o.acked) ≡ true = eq-eqb _ _ refl in
    let place : max o.place o.acked ≡ o.place = omega (arith, side.near.outgoing.sender.sound.place_low) in
    rw (same, test, place) side

pub no_tries : (c : LinkSettings) (v : StationCode) (before made : List (List ℕ)) (t : Side)
    → FitsSide c v before made (with_near t (with_nothing Up t.near.tries))
    → FitsSide c (record v { tries = 0 }) before made (with_near t fresh)
no_tries c v before made t side = record { near = tries_fits c v _ 0 0 refl side.near; out = side.out }

-- ---- what RR, RNR and REJ tell

pub peer_fits : (c : LinkSettings) (v : StationCode) (before made : List (List ℕ)) (t : Side) (busy : Bool) → FitsSide c v before made t
    → FitsSide c (record v { peer_busy = busy }) before made (peer_is busy t)
peer_fits c v before made t busy side =
    let fits = side.near in
    record {
      near = record {
        role = fits.role;
        longest = fits.longest;
        retries = fits.retries;
        again = fits.again;
        outgoing = fits.outgoing;
        taken = fits.taken;
        phase = fits.phase;
        tries = fits.tries;
        recovery = fits.recovery;
        peer_busy = refl;
        rejecting = fits.rejecting;
        said_busy = fits.said_busy;
        closing = fits.closing;
      };
      out = side.out;
    }

pub back_fits : (c : LinkSettings) (v : StationCode) (b : OutgoingCode) (before made : List (List ℕ)) (t : Side) → FitsSide c v before made t
    → FitsOutgoing c.window b (gone_back t.near.outgoing)
    → FitsSide c (record v { outgoing = b }) before made (goes_back t)
back_fits c v b before made t side outgoing = record { near = with_outgoing c v t.near b _ side.near outgoing; out = side.out }

-- ---- other variables

pub phase_fits : (c : LinkSettings) (v : StationCode) (s : LinkStation) (phase : Phase) (tries : ℕ) → FitsStation c v s
    → FitsStation c (record v { phase = phase; tries = tries }) (record s { phase = phase; tries = tries })
phase_fits c v s phase tries fits = record {
  role = fits.role;
  longest = fits.longest;
  retries = fits.retries;
  again = fits.again;
  outgoing = fits.outgoing;
  taken = fits.taken;
  phase = refl;
  tries = refl;
  recovery = fits.recovery;
  peer_busy = fits.peer_busy;
  rejecting = fits.rejecting;
  said_busy = fits.said_busy;
  closing = fits.closing;
}

pub recovery_fits : (c : LinkSettings) (v : StationCode) (s : LinkStation) (b : Bool) → FitsStation c v s
    → FitsStation c (record v { recovery = b }) (record s { recovery = b })
recovery_fits c v s b fits = record {
  role = fits.role;
  longest = fits.longest;
  retries = fits.retries;
  again = fits.again;
  outgoing = fits.outgoing;
  taken = fits.taken;
  phase = fits.phase;
  tries = fits.tries;
  recovery = refl;
  peer_busy = fits.peer_busy;
  rejecting = fits.rejecting;
  said_busy = fits.said_busy;
  closing = fits.closing;
}

-- ---- an I frame

pub received : (c : LinkSettings) (v : StationCode) (s : LinkStation) (r : Seq) (packets : List (List ℕ)) → FitsStation c v s
    → FitsTaken r (length packets) → FitsStation c (record v { receiver = r }) (record s { taken = packets })
received c v s r packets fits taken = record {
  role = fits.role;
  longest = fits.longest;
  retries = fits.retries;
  again = fits.again;
  outgoing = fits.outgoing;
  taken = taken;
  phase = fits.phase;
  tries = fits.tries;
  recovery = fits.recovery;
  peer_busy = fits.peer_busy;
  rejecting = fits.rejecting;
  said_busy = fits.said_busy;
  closing = fits.closing;
}

pub taken_fits : (c : LinkSettings) (v : StationCode) (before made : List (List ℕ)) (t : Side) (r : Seq) (packet : List ℕ) → FitsSide c v before made t
    → FitsTaken r (length t.near.taken + 1) → FitsSide c (record v { receiver = r; rejecting = false }) before made (takes packet t)
taken_fits c v before made t r packet side taken =
    let more : length t.near.taken + 1 ≡ length (t.near.taken ++ packet ∷ []) = omega (arith, length-append t.near.taken (packet ∷ [])) in
    record {
      near = received c (record v { rejecting = false }) (record t.near { rejecting = false }) r _ (rejecting c v t.near false side.near) (rw more at taken);
      out = side.out;
    }

pub busy_passes : (ns : ℕ) (s : LinkStation) → true ≡ is_busy s → is_taken ns s ≡ false
busy_passes ns s busy = rw (sym busy) refl

pub other_passes : (ns : ℕ) (s : LinkStation) → (ns ≡ wanted s → IsTrue false) → is_taken ns s ≡ false
other_passes ns s other = and_right (not (is_busy s)) _ (ne_eqb _ _ (λ e. true_false (sym (other e))))

pub wanted_taken : (ns : ℕ) (s : LinkStation) → false ≡ is_busy s → ns ≡ wanted s → is_taken ns s ≡ true
wanted_taken ns s free same = rw (sym free, eq-eqb _ _ same) refl

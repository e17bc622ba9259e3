-- Each row of the must-send table, and each call: what is heard, taken and then sent; and what is out stays out.
use Rattle.x25_link.proofs.Names.{◌≡◌, ℕ, ◌%◌, List, [], ◌∷◌, length, Bool, true, false, if◌then◌else◌, Some, None, Result, Ok, Err, refl, sym, ap, subst}
use Rattle.x25_link.proofs.Names.{length-append, arith, ◌+◌, ◌≤◌, ◌&&◌, nat_lt, and_parts, PlainFrame, info, rr, rnr, rej, sabm, disc, ua, dm, frmr, is_command}
use Rattle.x25_link.proofs.Names.{poll_or_final, frame_of, FrameError, Undefined, NoInfoAllowed, TooLong, Phase, Down, Waiting, Up, Closed, Reason, Retries}
use Rattle.x25_link.proofs.Names.{Disc, Dm, FrmrSent, FrmrGot, Reset, Local, Counts, no_packet, LinkSettings, LinkStation, Side, is_up, with_near, sends, ready}
use Rattle.x25_link.proofs.Names.{may_send, owes_ready, LinkStep, quiet, leaves, other, rejects, is_valid, acknowledged, is_taken, takes, hears_info, peer_is}
use Rattle.x25_link.proofs.Names.{answered, gives_up, when_closed, Closing, Asked, Ending, ByUa, ByDm}
use Rattle.x25_link.proofs.Names.{goes_back, polls, numbered, row_of_frame, row_of, alone, closed_by, hears, puts, asks_again, fires, disconnects, when_down}
use Rattle.std.proofs.lemmas.Bool.{leb-true, eqb-true}
use Rattle.x25_link.proofs.EndLemmas.{true_false, none_open, ended_stays}
use Rattle.x25_link.proofs.WindowLemmas.{KeptAt, Kept, K-ready, K-ended, K-answers, K-passes_over, K-goes_back, K-polls}
use Rattle.x25_link.specs.laws.WindowLaw.{IsRunning, brought_by, window_of, after_input, MayHandUp, if_valid, ending_of_frame, ending_of, ends_in, AreLast}
use Rattle.x25_link.specs.laws.WindowLaw.{Stays, Ends, Follows, TakeFollows, PutFollows, TimerFollows, DisconnectFollows, AbandonFollows, IsOut, sets_up}
use Rattle.x25_link.specs.laws.WindowLaw.{StaysOut, TakeStaysOut, ClosesOut, DisconnectStaysOut}
use Rattle.x25_link.specs.laws.WindowMachine.{Window, Input, hands_down, receives, nothing, rests}
use Rattle.x25_window.specs.{code.Modulo.{resolved}, laws.Window.{after}, laws.Window.EndStep.{Hear, Take}}

-- ---- from a row to the step

pub record RowKept (k : ℕ) (input : Input) (s : LinkStation) (step : LinkStep) : Type 0 where
  pub kept : KeptAt k (after_input input step.packet (window_of k s)) (is_up step.side.near.phase) step.side.near.outgoing step.side.near.taken step.side.out
  pub hands_up : MayHandUp input step.packet (window_of k s)
  pub quiet : step.notes ≡ record { down = None; up = false }

stays_from : (k : ℕ) (input : Input) (s : LinkStation) (step : LinkStep) → RowKept k input s step → Stays k input s (closed_by k step)
stays_from k input s step row =
    let h = K-ended k (after_input input step.packet (window_of k s)) step.side row.kept in
    record { up = h.up; sound = h.sound; hands_up = row.hands_up; sends = h.runs; quiet = row.quiet }

pub closed_stays : (k : ℕ) (step : LinkStep) → may_send k step.side.near ≡ false → owes_ready step.side.near ≡ false → closed_by k step ≡ step
closed_stays k step settled calm = ap (λ (u : Side). let z : LinkStep = record { side = u; packet = step.packet; notes = step.notes } in z)
    (ended_stays k step.side settled calm)

ends_from : (k : ℕ) (reason : Reason) (step : LinkStep) → may_send k step.side.near ≡ false → owes_ready step.side.near ≡ false → Ends reason step
    → Ends reason (closed_by k step)
ends_from k reason step settled calm ends = subst (Ends reason) (sym (closed_stays k step settled calm)) ends

-- ---- rows

rejects_ends : (c : LinkSettings) (octets : List ℕ) (why : ℕ) (s : LinkStation) → Ends FrmrSent (closed_by c.window (rejects c octets why (alone s)))
rejects_ends c octets why s =
    ends_from c.window FrmrSent (rejects c octets why (alone s)) refl refl
    (record { frames = (_, _, refl); packet = refl; phase = refl; outgoing = refl; taken = refl; noted = refl })

leaves_ends : (k : ℕ) (reason : Reason) (s : LinkStation) → AreLast reason [] → Down ≡ ends_in reason → Ends reason (closed_by k (leaves reason (alone s)))
leaves_ends k reason s last phase =
    ends_from k reason (leaves reason (alone s)) refl refl (record { frames = last; packet = refl; phase = phase; outgoing = refl; taken = refl; noted = refl })

-- the station once a valid N(R) is heard
abbrev heard_window : ℕ → ℕ → LinkStation → Window
heard_window k nr s = after (window_of k s) (Hear nr)

heard_kept : (k nr : ℕ) (s : LinkStation) → IsRunning k s → is_valid nr s ≡ true → Kept k (heard_window k nr s) (acknowledged nr (alone s))
heard_kept k nr s running valid =
    let h = running.sound in
    let within : resolved s.outgoing.acked nr ≤ s.outgoing.sent = leb-true _ _ valid in
    record {
      up = running.up;
      sound = record { place_low = omega arith; place_high = omega arith; sent_high = h.sent_high; room = omega arith };
      runs = rests;
    }

info_kept : (k ns nr : ℕ) (p : Bool) (packet : List ℕ) (s : LinkStation) (b : Bool) → is_taken ns (acknowledged nr (alone s)).near ≡ b → IsRunning k s
    → is_valid nr s ≡ true
    → RowKept k (receives (info ns nr p packet)) s (hears_info k ns p packet (acknowledged nr (alone s)))
info_kept k ns nr p packet s true is running valid =
    let t = acknowledged nr (alone s) in
    let h = heard_kept k nr s running valid in
    let both = and_parts _ _ is in
    let same : ns ≡ length s.taken % 8 = eqb-true _ _ both.1 in
    let w : Window = after (heard_window k nr s) (Take 0 packet) in
    rw is (record {
      kept = K-answers k w p (takes packet t) (record { up = h.up; sound = h.sound; runs = rests });
      hands_up = (same, refl);
      quiet = refl;
    })
info_kept k ns nr p packet s false is running valid =
    let t = acknowledged nr (alone s) in
    rw is (record {
      kept = K-passes_over k (heard_window k nr s) p t (heard_kept k nr s running valid);
      hands_up = tt;
      quiet = refl;
    })

numbered_by : (c : LinkSettings) (octets : List ℕ) (nr : ℕ) (row : Side → LinkStep) (input : Input) (s : LinkStation) (b : Bool) → is_valid nr s ≡ b
    → (is_valid nr s ≡ true → RowKept c.window input s (row (acknowledged nr (alone s))))
    → Follows (if_valid nr (window_of c.window s)) c.window input s (closed_by c.window (numbered c octets nr row (alone s)))
numbered_by c octets nr row input s true valid kept =
    let row_kept = kept valid in
    rw valid (stays_from c.window input s (row (acknowledged nr (alone s))) row_kept)
numbered_by c octets nr row input s false valid kept = rw valid (rejects_ends c octets 8 s)

start : (k : ℕ) (input : Input) (s : LinkStation) → IsRunning k s → Kept k (window_of k s) (alone s)
start k input s running = record { up = running.up; sound = running.sound; runs = rests }

quiet_follows : (k : ℕ) (input : Input) (s : LinkStation) → after_input input None (window_of k s) ≡ window_of k s → IsRunning k s
    → Stays k input s (closed_by k (quiet (alone s)))
quiet_follows k input s same running =
    stays_from k input s (quiet (alone s)) (record { kept = rw same (start k input s running); hands_up = tt; quiet = refl })

frame_follows : (c : LinkSettings) (octets : List ℕ) (frame : PlainFrame) (s : LinkStation) → IsRunning c.window s
    → Follows (ending_of_frame frame (window_of c.window s)) c.window (receives frame) s (closed_by c.window (row_of_frame c octets frame (alone s)))
frame_follows c octets (info ns nr p packet) s running =
    numbered_by c octets nr (hears_info c.window ns p packet) (receives (info ns nr p packet)) s _ refl
    (λ valid. info_kept c.window ns nr p packet s _ refl running valid)
frame_follows c octets (rr command nr pf) s running =
    numbered_by c octets nr (λ u. quiet (polls command pf (peer_is false u))) (receives (rr command nr pf)) s _ refl
    (λ valid. record {
      kept = K-polls c.window (heard_window c.window nr s) command pf (peer_is false (acknowledged nr (alone s)))
          (heard_kept c.window nr s running valid);
      hands_up = tt;
      quiet = refl;
    })
frame_follows c octets (rnr command nr pf) s running =
    numbered_by c octets nr (λ u. quiet (polls command pf (peer_is true u))) (receives (rnr command nr pf)) s _ refl
    (λ valid. record {
      kept = K-polls c.window (heard_window c.window nr s) command pf (peer_is true (acknowledged nr (alone s)))
          (heard_kept c.window nr s running valid);
      hands_up = tt;
      quiet = refl;
    })
frame_follows c octets (rej command nr pf) s running =
    numbered_by c octets nr (λ u. quiet (polls command pf (goes_back (peer_is false u)))) (receives (rej command nr pf)) s _ refl
    (λ valid. record {
      kept = K-polls c.window (heard_window c.window nr s) command pf (goes_back (peer_is false (acknowledged nr (alone s))))
          (K-goes_back c.window (heard_window c.window nr s) (peer_is false (acknowledged nr (alone s))) (heard_kept c.window nr s running valid));
      hands_up = tt;
      quiet = refl;
    })
frame_follows c octets (sabm p) s running =
    let step : LinkStep = row_of_frame c octets (sabm p) (alone s) in
    ends_from c.window Reset step (none_open c.window no_packet (omega arith)) refl
    (record { frames = (p, refl); packet = refl; phase = refl; outgoing = refl; taken = refl; noted = refl })
frame_follows c octets (disc p) s running =
    let step : LinkStep = row_of_frame c octets (disc p) (alone s) in
    ends_from c.window Disc step refl refl (record { frames = (p, refl); packet = refl; phase = refl; outgoing = refl; taken = refl; noted = refl })
frame_follows c octets (ua f) s running = quiet_follows c.window (receives (ua f)) s refl running
frame_follows c octets (dm f) s running = leaves_ends c.window Dm s refl refl
frame_follows c octets (frmr f why) s running = leaves_ends c.window FrmrGot s refl refl

read_follows : (c : LinkSettings) (octets : List ℕ) (read : Result PlainFrame FrameError) (s : LinkStation) → IsRunning c.window s
    → Follows (ending_of read (window_of c.window s)) c.window (brought_by read) s (closed_by c.window (row_of c octets read (alone s)))
read_follows c octets (Ok frame) s running = frame_follows c octets frame s running
read_follows c octets (Err (Undefined control)) s running = rejects_ends c octets 1 s
read_follows c octets (Err (NoInfoAllowed control)) s running = rejects_ends c octets 3 s
read_follows c octets (Err TooLong) s running = rejects_ends c octets 4 s
read_follows c octets (Err x) s running = quiet_follows c.window nothing s refl running

-- ---- calls

pub up_is : (p : Phase) → is_up p ≡ true → p ≡ Up
up_is Up e = refl
up_is p e = true_false (sym e)

pub take_follows : TakeFollows
take_follows c octets s running read is =
    rw (sym is) (subst (λ (p : Phase). Follows (ending_of read (window_of c.window s)) c.window (brought_by read) s
    (closed_by c.window (hears c octets read p (alone s)))) (sym (up_is s.phase running.up))
    (read_follows c octets read s running))

pub put_follows : PutFollows
put_follows c packet s running =
    let sound = running.sound in
    stays_from c.window (hands_down packet) s (puts packet (alone s)) (record {
      kept = record {
        up = running.up;
        sound = record {
          place_low = sound.place_low;
          place_high = sound.place_high;
          sent_high = omega (arith, length-append s.outgoing.given (packet ∷ []));
          room = sound.room;
        };
        runs = rests;
      };
      hands_up = tt;
      quiet = refl;
    })

timer_by : (b : Bool) (c : LinkSettings) (s : LinkStation) → nat_lt s.tries c.retries ≡ b → IsRunning c.window s
    → Follows (if b then None else Some Retries) c.window nothing s (closed_by c.window (fires c (alone s)))
timer_by true c s is running =
    let k = c.window in
    let t : Side = with_near (alone s) (record s { tries = s.tries + 1 }) in
    let u : Side = with_near t (record t.near { recovery = true }) in
    rw is (subst (λ (p : Phase). Stays k nothing s (closed_by k (quiet (asks_again p t)))) (sym (up_is s.phase running.up))
    (stays_from k nothing s (quiet (ready true true u)) (record {
      kept = K-ready k (window_of k s) true true u (start k nothing s running);
      hands_up = tt;
      quiet = refl;
    })))
timer_by false c s is running =
    rw is (subst (λ (p : Phase). Ends Retries (closed_by c.window (gives_up p (alone s)))) (sym (up_is s.phase running.up))
    (leaves_ends c.window Retries s refl refl))

pub timer_follows : TimerFollows
timer_follows c s running = timer_by _ c s refl running

pub disconnect_follows : DisconnectFollows
disconnect_follows c s running =
    let step : LinkStep = disconnects c.disc_again (alone s) in
    ends_from c.window Local step refl refl (record { frames = refl; packet = refl; phase = refl; outgoing = refl; taken = refl; noted = rw running.up refl })

pub abandon_follows : AbandonFollows
abandon_follows c s running = leaves_ends c.window Counts s refl refl

-- ---- out

pub out_is_not_up : (p : Phase) → IsOut p → is_up p ≡ false
out_is_not_up Waiting h = absurd h
out_is_not_up Up h = absurd h
out_is_not_up p h = refl

out_settled : (k : ℕ) (s : LinkStation) → IsOut s.phase → may_send k s ≡ false
out_settled k s h = rw (out_is_not_up s.phase h) refl

out_calm : (s : LinkStation) → IsOut s.phase → owes_ready s ≡ false
out_calm s h = rw (out_is_not_up s.phase h) refl

out_from : (k : ℕ) (step : LinkStep) → StaysOut step → StaysOut (closed_by k step)
out_from k step h = subst StaysOut (sym (closed_stays k step (out_settled k step.side.near h.out) (out_calm step.side.near h.out))) h

-- the same station, with DM or nothing
declines_out : (frame : PlainFrame) (b : Bool) (s : LinkStation) → IsOut s.phase
    → StaysOut (quiet (let u : Side = if b then sends (dm true) (alone s) else alone s in u))
declines_out frame true s h = record { out = h; frames = tt; packet = refl; quiet = refl }
declines_out frame false s h = record { out = h; frames = tt; packet = refl; quiet = refl }

down_out : (frame : PlainFrame) (s : LinkStation) → IsOut s.phase → sets_up (Ok frame) ≡ false → StaysOut (when_down frame (alone s))
down_out (sabm p) s h e = true_false e
down_out (disc p) s h e = record { out = h; frames = tt; packet = refl; quiet = refl }
down_out frame s h e = declines_out frame (is_command frame && poll_or_final frame) s h

-- what a DISC awaits ends
answered_out : (ending : Ending) (closing : Closing) (s : LinkStation) → IsOut s.phase → StaysOut (quiet (answered ending closing (alone s)))
answered_out ending Asked s h = record { out = h; frames = tt; packet = refl; quiet = refl }
answered_out ending closing s h = record { out = h; frames = tt; packet = refl; quiet = refl }

closed_out : (frame : PlainFrame) (s : LinkStation) → IsOut s.phase → StaysOut (when_closed frame (alone s))
closed_out (ua true) s h = answered_out ByUa s.closing s h
closed_out (dm true) s h = answered_out ByDm s.closing s h
closed_out frame s h = declines_out frame (is_command frame && poll_or_final frame) s h

hears_out : (c : LinkSettings) (octets : List ℕ) (read : Result PlainFrame FrameError) (p : Phase) (s : LinkStation) → IsOut p → IsOut s.phase → sets_up read
    ≡ false
    → StaysOut (hears c octets read p (alone s))
hears_out c octets (Ok frame) Down s h g e = down_out frame s g e
hears_out c octets read Waiting s h g e = absurd h
hears_out c octets read Up s h g e = absurd h
hears_out c octets (Ok frame) Closed s h g e = closed_out frame s g
hears_out c octets (Err x) p s h g e = record { out = g; frames = tt; packet = refl; quiet = refl }

pub take_stays_out : TakeStaysOut
take_stays_out c octets s out e =
    out_from c.window (hears c octets (frame_of (other c.role) c.longest octets) s.phase (alone s))
    (hears_out c octets (frame_of (other c.role) c.longest octets) s.phase s out out e)

pub disconnect_stays_out : DisconnectStaysOut
disconnect_stays_out c s out =
    let step : LinkStep = disconnects c.disc_again (alone s) in
    subst ClosesOut (sym (closed_stays c.window step refl refl))
    (record { phase = refl; frames = refl; packet = refl; quiet = rw (out_is_not_up s.phase out) refl })

-- What a station that is Up does with what it takes: the must-send table, row by row.
-- ITU-T X.25 (10/96), sections 2.4.5 to 2.4.7.
use Rattle.std.specs.Prelude.{ℕ, ◌+◌, ◌*◌, ◌/◌, ◌%◌, ◌==◌, nat_le, nat_lt, Bool, true, false, not, ◌&&◌}
use Rattle.std.specs.Prelude.{if◌then◌else◌, List, [], ◌∷◌, ◌++◌, slice_index, Option, Some, None, Result, Ok, Err}
pub use Rattle.x25_bits.specs.Role.{other}
use Rattle.x25_frame.specs.Frame.{PlainFrame, info, rr, rnr, rej, sabm, disc, ua, dm, frmr}
use Rattle.x25_frame.specs.Spelling.{address_of}
use Rattle.x25_frame.specs.declared.error.FrameError.{FrameError}
use Rattle.x25_frame.specs.declared.error.FrameError.TheVariants.{Short, BadFcs, BadAddress, Undefined, NoInfoAllowed}
use Rattle.x25_frame.specs.declared.error.FrameError.TheVariants.{TooLong}
use Rattle.x25_window.specs.code.Modulo.{resolved}
use Rattle.x25_link.specs.declared.phase.Phase.TheVariants.{Down}
use Rattle.x25_link.specs.declared.phase.Reason.{Reason}
use Rattle.x25_link.specs.declared.phase.Reason.TheVariants.{Disc, Dm, FrmrSent, FrmrGot, Reset}
use Rattle.x25_link.specs.declared.phase.Notes.{Notes}
use Rattle.x25_link.specs.Outgoing.{acknowledged_to, gone_back}
use Rattle.x25_link.specs.Station.{LinkSettings, LinkStation, Side, with_nothing, fresh, wanted, is_busy, with_near}
use Rattle.x25_link.specs.Station.{sends}
use Rattle.x25_link.specs.Station.{ready, may_send, send_next}

-- the station after a step and the frames sent, the packet handed up, and what is noted
pub record LinkStep : Type 0 where
  pub side : Side
  pub packet : Option (List ℕ)
  pub notes : Notes

-- it acknowledges frames (section 2.4.5.5), so that T1 begins anew (section 2.4.5.9)
abbrev pub acknowledges : LinkStation → LinkStep → Bool
acknowledges s step = nat_lt s.outgoing.acked step.side.near.outgoing.acked

-- nothing is handed up or noted
abbrev pub quiet : Side → LinkStep
quiet t = record { side = t; packet = None; notes = record { down = None; up = false } }

-- Up is left: the queue and what is unacknowledged are dropped (profile)
abbrev pub leaves : Reason → Side → LinkStep
leaves reason t = record {
  side = with_near t (with_nothing Down t.near.tries);
  packet = None;
  notes = record { down = Some reason; up = false };
}

-- ---- FRMR

-- Section 2.3.4.9: the rejected control; V(S), whether a response was rejected, and V(R); and the ground (1 is W, 2 X,
-- 4 Y and 8 Z). V(S) is the highest number sent plus one (profile). F answers the P of a command.
abbrev pub reject_of : LinkSettings → List ℕ → ℕ → LinkStation → PlainFrame
reject_of c octets why s =
    let control = slice_index octets 1 in
    let command = slice_index octets 0 == address_of (other c.role) true in
    frmr (command && control / 16 % 2 == 1)
    (control ∷ (2 * (s.outgoing.sent % 8) + (if command then 0 else 16) + 32 * wanted s) ∷ why ∷ [])

-- FRMR is sent, and Up is left (section 2.4.7.3)
abbrev pub rejects : LinkSettings → List ℕ → ℕ → Side → LinkStep
rejects c octets why t = leaves FrmrSent (sends (reject_of c octets why t.near) t)

-- ---- N(R)

-- an N(R) is valid from the first frame that isn't acknowledged to the highest sent plus one (section 2.3.4.9)
abbrev pub is_valid : ℕ → LinkStation → Bool
is_valid nr s = nat_le (resolved s.outgoing.acked nr) s.outgoing.sent

-- all frames below it are acknowledged (section 2.4.5.5)
abbrev pub acknowledged : ℕ → Side → Side
acknowledged nr t =
    let s = t.near in
    let n = resolved s.outgoing.acked nr in
    with_near t (record s {
      outgoing = acknowledged_to n s.outgoing;
      tries = if n == s.outgoing.acked then s.tries else 0;
    })

-- ---- I frames (sections 2.4.5.2 and 2.4.5.4)

-- the frame is the one wanted, and the station isn't busy
abbrev pub is_taken : ℕ → LinkStation → Bool
is_taken ns s = not (is_busy s) && ns == wanted s

abbrev pub takes : List ℕ → Side → Side
takes packet t = with_near t (record t.near { taken = t.near.taken ++ packet ∷ []; rejecting = false })

-- a frame that is taken is answered: with P=1 by RR, and with P=0 by an I frame, or by RR where none may go
abbrev pub answers : ℕ → Bool → Side → Side
answers k true t = ready false true t
answers k false t = if may_send k t.near then send_next t else ready false false t

-- REJ, where no REJ condition stands
abbrev pub rejects_gap : Bool → Side → Side
rejects_gap p t = sends (rej false (wanted t.near) p) (with_near t (record t.near { rejecting = true }))

-- a frame that isn't taken
abbrev pub passes_over : Bool → Side → Side
passes_over p t =
    if is_busy t.near then ready false p t
    else if not t.near.rejecting then rejects_gap p t
    else if p then ready false true t
    else t

abbrev pub hears_info : ℕ → ℕ → Bool → List ℕ → Side → LinkStep
hears_info k ns p packet t =
    if is_taken ns t.near
    then record {
      side = answers k p (takes packet t);
      packet = Some packet;
      notes = record { down = None; up = false };
    }
    else quiet (passes_over p t)

-- ---- RR, RNR and REJ (sections 2.4.5.5 to 2.4.5.9)

abbrev pub peer_is : Bool → Side → Side
peer_is busy t = with_near t (record t.near { peer_busy = busy })

-- V(S) falls back to the first frame that isn't acknowledged
abbrev pub goes_back : Side → Side
goes_back t = with_near t (record t.near { outgoing = gone_back t.near.outgoing })

-- a command with P=1 is answered; a response with F=1 ends recovery
abbrev pub polls : Bool → Bool → Side → Side
polls true true t = ready false true t
polls true false t = t
polls false true t = goes_back (with_near t (record t.near { recovery = false; tries = 0 }))
polls false false t = t

-- ---- the rows

-- a frame with an N(R): FRMR where that is invalid
abbrev pub numbered : LinkSettings → List ℕ → ℕ → (Side → LinkStep) → Side → LinkStep
numbered c octets nr row t = if is_valid nr t.near then row (acknowledged nr t) else rejects c octets 8 t

abbrev pub row_of_frame : LinkSettings → List ℕ → PlainFrame → Side → LinkStep
row_of_frame c octets (info ns nr p packet) t = numbered c octets nr (hears_info c.window ns p packet) t
row_of_frame c octets (rr command nr pf) t = numbered c octets nr (λ u. quiet (polls command pf (peer_is false u))) t
row_of_frame c octets (rnr command nr pf) t = numbered c octets nr (λ u. quiet (polls command pf (peer_is true u))) t
row_of_frame c octets (rej command nr pf) t = numbered c octets nr
    (λ u. quiet (polls command pf (goes_back (peer_is false u)))) t
row_of_frame c octets (sabm p) t = record {
  side = with_near (sends (ua p) t) fresh;
  packet = None;
  notes = record { down = Some Reset; up = true };
}
row_of_frame c octets (disc p) t = leaves Disc (sends (ua p) t)
row_of_frame c octets (ua f) t = quiet t
row_of_frame c octets (dm f) t = leaves Dm t
row_of_frame c octets (frmr f why) t = leaves FrmrGot t

-- what octets that spell a frame, or none, do in Up
abbrev pub row_of : LinkSettings → List ℕ → Result PlainFrame FrameError → Side → LinkStep
row_of c octets (Ok frame) t = row_of_frame c octets frame t
row_of c octets (Err Short) t = quiet t
row_of c octets (Err BadFcs) t = quiet t
row_of c octets (Err BadAddress) t = quiet t
row_of c octets (Err (Undefined control)) t = rejects c octets 1 t
row_of c octets (Err (NoInfoAllowed control)) t = rejects c octets 3 t
row_of c octets (Err TooLong) t = rejects c octets 4 t

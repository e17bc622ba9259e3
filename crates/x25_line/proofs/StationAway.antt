-- What a station does that is Closed, that awaits UA or that sends FRMR, as far as the laws of a link don't say it in these words.
use Rattle.x25_line.proofs.Names.{◌≡◌, ℕ, zero, suc, List, [], ◌∷◌, length, Bool, true, false, if◌then◌else◌, Some, None, Result, Ok, Err, refl, sym, ap, ◌∙◌}
use Rattle.x25_line.proofs.Names.{subst, ◌&&◌, ◌||◌, PlainFrame, info, rr, rnr, rej, ua, dm, frmr, is_command, poll_or_final, frame_of, FrameError, Undefined}
use Rattle.x25_line.proofs.Names.{NoInfoAllowed, TooLong, Phase, Down, Up, Closed, FrmrSent, LinkSettings, LinkStation, Side, is_up, sends, pumped, ended}
use Rattle.x25_line.proofs.Names.{LinkStep, quiet, other, rejects, is_valid, acknowledged, hears_info, peer_is, goes_back, polls, alone, closed_by, hears}
use Rattle.x25_line.proofs.Names.{take_step, connect_refusal, waiting_after, waiting_sends, waiting_up, TakesPart, window_of, ending_of, IsOut, StaysOut}
use Rattle.x25_line.proofs.{StationLines.{AreParting}, StationSteps.{out_not_up, not_both}}
use Rattle.x25_link.specs.declared.phase.{Closing.{Closing}, Closing.TheVariants.{Asked}, Ending.{Ending}, Ending.TheVariants.{ByUa, ByDm}}
use Rattle.x25_link.specs.{Link.{answered}, laws.SetUp.{ended_by}}
use Rattle.x25_link.specs.{Station.{lists_of, pumped_once}, declared.phase.Notes.{Notes}, laws.NoteLaw.{IsQuiet}}

-- ---- a station that isn't Up sends nothing at the end of a step

pumped_still : (n k : ℕ) (t : Side) → is_up t.near.phase ≡ false → pumped n k t ≡ t
unfolding pumped
pumped_still zero k t off = refl
pumped_still (suc n) k t off = ap (pumped_once k) (pumped_still n k t off) ∙ once
  where
    once : pumped_once k t ≡ t
    once = rw off refl

pub closed_still : (k : ℕ) (step : LinkStep) → is_up step.side.near.phase ≡ false → closed_by k step ≡ step
closed_still k step off =
    let still : ended k step.side ≡ step.side = rw (pumped_still 7 k step.side off, off) refl in
    ap (λ t. let z : LinkStep = record { side = t; packet = step.packet; notes = step.notes } in z) still

-- ---- whatever comes, a station that is Closed stays so

declines_out : (b : Bool) (s : LinkStation) → IsOut s.phase → StaysOut (quiet (let u : Side = if b then sends (dm true) (alone s) else alone s in u))
declines_out true s out = record { out = out; frames = tt; packet = refl; quiet = refl }
declines_out false s out = record { out = out; frames = tt; packet = refl; quiet = refl }

answered_out : (ending : Ending) (closing : Closing) (s : LinkStation) → IsOut s.phase → StaysOut (quiet (answered ending closing (alone s)))
answered_out ending Asked s out = record { out = out; frames = tt; packet = refl; quiet = refl }
answered_out ending closing s out = record { out = out; frames = tt; packet = refl; quiet = refl }

closed_row : (c : LinkSettings) (octets : List ℕ) (s : LinkStation) → IsOut s.phase → (read : Result PlainFrame FrameError)
    → StaysOut (hears c octets read Closed (alone s))
closed_row c octets s out (Ok (ua true)) = answered_out ByUa s.closing s out
closed_row c octets s out (Ok (dm true)) = answered_out ByDm s.closing s out
closed_row c octets s out (Ok frame) = declines_out (is_command frame && poll_or_final frame) s out
closed_row c octets s out (Err e) = record { out = out; frames = tt; packet = refl; quiet = refl }

-- a station that is closed stays out, whatever comes
pub closed_takes : (c : LinkSettings) (octets : List ℕ) (s : LinkStation) → s.phase ≡ Closed → StaysOut (take_step c octets s)
closed_takes c octets s is =
    let read = frame_of (other c.role) c.longest octets in
    let out : StaysOut (hears c octets read s.phase (alone s)) =
    subst (λ p. StaysOut (hears c octets read p (alone s))) (sym is) (closed_row c octets s (subst IsOut (sym is) tt) read) in
    let step : LinkStep = hears c octets read s.phase (alone s) in
    subst StaysOut (sym (closed_still c.window step (out_not_up step.side.near.phase out.out))) out

-- an end that a DISC awaits leaves the phase
pub ended_phase_by : (ending : Ending) (closing : Closing) (s : LinkStation) → (ended_by ending closing s).phase ≡ s.phase
ended_phase_by ending Asked s = refl
ended_phase_by ending closing s = refl

pub ended_out : (ending : Ending) (closing : Closing) (s : LinkStation) → IsOut s.phase → IsOut (ended_by ending closing s).phase
ended_out ending closing s out = subst IsOut (sym (ended_phase_by ending closing s)) out

pub ended_lists_by : (ending : Ending) (closing : Closing) (s : LinkStation) → lists_of (ended_by ending closing s) ≡ lists_of s
ended_lists_by ending Asked s = refl
ended_lists_by ending closing s = refl

-- ---- what comes while UA is awaited, other than that

-- octets that are no UA with F=1 leave a station that awaits UA as it is
pub waits_on : (read : Result PlainFrame FrameError) (s : LinkStation) → waiting_up read ≡ false → waiting_after read s ≡ s
waits_on (Ok (ua true)) s e = not_both true refl e
waits_on read s e = refl

-- a station that awaits UA answers by no frame with an N(R)
pub waiting_parting : (read : Result PlainFrame FrameError) → AreParting (waiting_sends read)
waiting_parting (Ok (info ns nr p x)) = tt
waiting_parting read = tt

pub quiet_by : (step : LinkStep) → step.notes.down ≡ None → step.notes.up ≡ false → IsQuiet step
quiet_by step down up =
    ap (λ reason. let n : Notes = record { down = reason; up = step.notes.up } in n) down
    ∙ ap (λ b. let n : Notes = record { down = None; up = b } in n) up

-- ---- by the phase

-- an end that is up takes part in a set-up
pub up_takes_part : (p : Phase) → is_up p ≡ true → TakesPart p
up_takes_part Up e = tt
up_takes_part p e = not_both false e refl

-- Connect is accepted in Down alone
pub connects_from : (p : Phase) → connect_refusal p ≡ None → p ≡ Down
connects_from Down e = refl
connects_from p e = cc

-- ---- FRMR has three octets

-- the one phase that is up
pub is_up_phase : (q : Phase) → is_up q ≡ true → q ≡ Up
is_up_phase Up e = refl
is_up_phase q e = not_both false e refl

same_length : (b f : Bool) (xs ys : List ℕ) → frmr b xs ∷ [] ≡ frmr f ys ∷ [] → length xs ≡ length ys
same_length b f xs ys e = ap (λ fs. octets_in fs) e
  where
    octets_in : List PlainFrame → ℕ
    octets_in (frmr g zs ∷ fs) = length zs
    octets_in fs = 0

module _ (c : LinkSettings) (octets : List ℕ) (s : LinkStation) (f : Bool) (why : List ℕ) where
  rejected : (ground : ℕ) → (closed_by c.window (rejects c octets ground (alone s))).side.out ≡ frmr f why ∷ [] → length why ≡ 3
  rejected ground out = sym (same_length _ f _ why (sym (ap (λ z. z.side.out) (closed_still c.window (rejects c octets ground (alone s)) refl)) ∙ out))

  -- a frame whose N(R) is invalid
  invalid : (nr : ℕ) (row : Side → LinkStep) (b : Bool) → is_valid nr s ≡ b → (if b then None else Some FrmrSent) ≡ Some FrmrSent
      → (closed_by c.window (if b then row (acknowledged nr (alone s)) else rejects c octets 8 (alone s))).side.out ≡ frmr f why ∷ [] → length why ≡ 3
  invalid nr row true test is out = absurd (cc)
  invalid nr row false test is out = rejected 8 out

  frmr_row : (r : Result PlainFrame FrameError) → ending_of r (window_of c.window s) ≡ Some FrmrSent
      → (closed_by c.window (hears c octets r Up (alone s))).side.out ≡ frmr f why ∷ [] → length why ≡ 3
  frmr_row (Ok (info ns nr p packet)) is out = invalid nr (hears_info c.window ns p packet) (is_valid nr s) refl is out
  frmr_row (Ok (rr command nr pf)) is out = invalid nr (λ u. quiet (polls command pf (peer_is false u))) (is_valid nr s) refl is out
  frmr_row (Ok (rnr command nr pf)) is out = invalid nr (λ u. quiet (polls command pf (peer_is true u))) (is_valid nr s) refl is out
  frmr_row (Ok (rej command nr pf)) is out = invalid nr (λ u. quiet (polls command pf (goes_back (peer_is false u)))) (is_valid nr s) refl is out
  frmr_row (Err (Undefined control)) is out = rejected 1 out
  frmr_row (Err (NoInfoAllowed control)) is out = rejected 3 out
  frmr_row (Err TooLong) is out = rejected 4 out
  frmr_row r is out = cc

-- the information field of a FRMR that a station sends has three octets
pub frmr_three : (c : LinkSettings) (octets : List ℕ) (s : LinkStation) → s.phase ≡ Up → (r : Result PlainFrame FrameError) → r
    ≡ frame_of (other c.role) c.longest octets → (f : Bool) (why : List ℕ)
    → ending_of r (window_of c.window s) ≡ Some FrmrSent → (take_step c octets s).side.out ≡ frmr f why ∷ [] → length why ≡ 3
frmr_three c octets s up r read f why is out =
    frmr_row c octets s f why r is
    (subst (λ q. (closed_by c.window (hears c octets r q (alone s))).side.out ≡ frmr f why ∷ []) up
    (rw read out))

-- ---- two bits

pub first_false : (a b : Bool) → (a || b) ≡ false → a ≡ false
first_false true b e = e
first_false false b e = refl

-- where neither holds the second doesn't
pub second_false : (a b : Bool) → (a || b) ≡ false → b ≡ false
second_false true b e = not_both true refl e
second_false false b e = e

-- What an end does that is Up, over sessions, and what it sends.
use Rattle.x25_line.proofs.Names.{◌≡◌, ℕ, List, [], ◌∷◌, inl, inr, Option, Some, None, Ok, refl, sym, ap, arith, PlainFrame, info, rr, rnr, rej, ReadsSpelled}
use Rattle.x25_line.proofs.Names.{Frame, frames_of, Closed, Reason, Disc, FrmrSent, Reset, LinkSettings, LinkStation, LinkStep, other, Window, Input, Runs}
use Rattle.x25_line.proofs.Names.{rests, Shows, ShowAll, brought_by, MayHandUp, Stays, Follows, AreJoined, number_in, numbered_on, AllOf, Entry, Meeting}
use Rattle.x25_line.proofs.{Lists.{each_append}, Names.{Sessions, begun_by, after_step, ua_of, Standing}, StationAway.{is_up_phase, second_false}}
use Rattle.x25_line.proofs.{StationHears.{by_disc, by_reset}, StationSteps.{StepLeads}, sessions.SessionHeld.{Held}}
use Rattle.x25_line.proofs.sessions.{SessionLines.{Read, none_is_some, count, AllNumbered, numbered_no_ua, numbers}, SessionSteps.{went_by, Answers, live_held}}
use Rattle.x25_link.specs.{Station.{awaits_ua}, laws.WindowLaw.{InputMayHandUp}, laws.WindowMachine.{goes_on}}

-- ---- a run that only sends, sends frames that carry a number

shown_number : (f : PlainFrame) (g : Frame (List ℕ)) → Shows f g → number_in (Ok f) ≡ Some f
shown_number (info ns nr p x) g h = refl
shown_number (rr command nr pf) g h = refl
shown_number (rnr command nr pf) g h = refl
shown_number (rej command nr pf) g h = refl
shown_number f g h = absurd h

shown_numbered : (fs : List PlainFrame) (gs : List (Frame (List ℕ))) → ShowAll fs gs → AllNumbered fs
shown_numbered [] gs h = tt
shown_numbered (f ∷ fs) [] h = absurd h
shown_numbered (f ∷ fs) (g ∷ gs) h = (shown_number f g h.0, shown_numbered fs gs h.1)

runs_numbered : {v z : Window} {fs : List PlainFrame} → Runs v z fs → AllNumbered fs
runs_numbered rests = tt
runs_numbered {v} (goes_on w before step frames runs sent allowed shows) =
    each_append (λ f. number_in (Ok f) ≡ Some f) before frames (runs_numbered runs) (shown_numbered frames (frames_of w step) shows)

-- ---- what is sent where Up is left

pub stays_answers : (w : Sessions) {k : ℕ} {input : Input} {s : LinkStation} {step : LinkStep} → Stays k input s step → Answers w step
stays_answers w {step = step} h = (inr (numbered_no_ua step.side.out (runs_numbered h.sends)), ap awaits_ua (is_up_phase step.side.near.phase h.up))

-- where it leaves by DISC that came, and not by SABM
pub follows_answers : (w : Sessions) (o : Option Reason) (k : ℕ) (input : Input) (s : LinkStation) (step : LinkStep)
    → (by_disc o ≡ 1 → w.far.station.phase ≡ Closed) → by_reset o ≡ 0 → Follows o k input s step → Answers w step
follows_answers w None k input s step closed stays h = stays_answers w h
follows_answers w (Some Disc) k input s step closed stays h = (inl (closed refl), ap awaits_ua h.phase)
follows_answers w (Some FrmrSent) k input s step closed stays h = (inr (ap (count ua_of) h.frames.2), ap awaits_ua h.phase)
follows_answers w (Some Reset) k input s step closed stays h = absurd (omega (arith, stays))
follows_answers w (Some reason) k input s step closed stays h = (inr (ap (count ua_of) h.frames), ap awaits_ua h.phase)

-- ---- a packet is handed up where a frame with a number comes

no_packet_by : (input : Input) (packet : Option (List ℕ)) (v : Window) → ((y : List ℕ) → InputMayHandUp input y v → ⊥) → MayHandUp input packet v → packet
    ≡ None
no_packet_by input None v never up = refl
no_packet_by input (Some y) v never up = absurd (never y up)

never_up : (r : Read) (v : Window) → number_in r ≡ None → (y : List ℕ) → InputMayHandUp (brought_by r) y v → ⊥
never_up (Ok (info ns nr p x)) v none y h = none_is_some (info ns nr p x) (sym none)
never_up r v none y h = h

pub stays_no_packet : {k : ℕ} {input : Input} {s : LinkStation} {step : LinkStep} → ((v : Window) (y : List ℕ) → InputMayHandUp input y v → ⊥)
    → Stays k input s step → step.packet ≡ None
stays_no_packet {input = input} {step = step} never h = no_packet_by input step.packet _ (never _) h.hands_up

pub follows_no_packet : (o : Option Reason) (k : ℕ) (r : Read) (s : LinkStation) (step : LinkStep) → number_in r ≡ None → Follows o k (brought_by r) s step
    → step.packet ≡ None
follows_no_packet None k r s step none h = stays_no_packet (λ v y up. never_up r v none y up) h
follows_no_packet (Some reason) k r s step none h = h.packet

module _ {c d : LinkSettings} (joined : AreJoined c d) (reads : ReadsSpelled) where
  -- an end in the session that stands goes on in it, by a step that the machine follows
  pub live_goes_on : {stand : Standing} (w : Sessions) (h : Held stand c d w) → w.near.begun ≡ stand.near
      → (es : List Entry) (os : List (List ℕ)) (met : List Meeting) (down : List (List ℕ)) (step : LinkStep) (gone : Option ℕ)
      → StepLeads c d h.alone stand.machine gone os down step → numbers (other c.role) c.longest es
      ≡ numbered_on (other c.role) c.longest os → AllOf (other c.role) c.longest stand.far es
      → Answers w step → Held (went_by c step gone stand) c d (after_step c w es met down step)
  live_goes_on {stand} w h near es os met down step gone leads comes from answers =
      rw (ap (λ b. begun_by b w.near.begun) (second_false h.alone.near.came_up step.notes.up leads.near_has.notes.once))
      (live_held joined reads w h near es os met down step gone leads comes from answers)

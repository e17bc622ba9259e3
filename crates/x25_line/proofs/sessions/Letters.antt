-- What the rules look at in the octets on a line.
use Rattle.x25_line.proofs.Names.{◌≡◌, ℕ, List, [], ◌∷◌, ◌++◌, true, if◌then◌else◌, Ok, refl, sym, ap, ◌∙◌, Role, PlainFrame, sabm, spelling_of, frame_of}
use Rattle.x25_line.proofs.Names.{Phase, Up, LinkSettings, is_up, other, Entry, Meeting, letters, meets, sent_in, stand_of, IsSeenIn, Puts, OfSabm, AreOf}
use Rattle.x25_line.proofs.{Names.{IsSpoilt, LessAt, nothing, gone, hurt, deeper, is_visible, Said, Sabm, Else, said}, StationLines.{visible_is}}
use Rattle.x25_line.{proofs.sessions.SessionLines.{Read}, proofs.sessions.SessionMay.{entry}, specs.laws.PeerSessions.{put}}
use Rattle.x25_line.specs.laws.Said.{Odd as OddSaid, letter}
use Rattle.x25_line.specs.laws.Ends as ends

-- ---- one of them

-- who meets whom, as an end hears it
pub heard_said : (p : Phase) (b t : ℕ) (r : Read) (met : List Meeting) → (if is_up p then meets (said r) (record { near = b; far = t }) met else met)
    ≡ ends.heard (stand_of p) b (letter t (said r)) met
heard_said Up b t r met = refl
heard_said p b t r met = refl

-- ---- all on a line

module _ (from : Role) (n1 : ℕ) where
  -- one more frame at the back, by its letter
  pub letters_push : (es : List Entry) (b : ℕ) (octets : List ℕ) (r : Read) → frame_of from n1 octets ≡ r → letters from n1 (es ++ entry b octets ∷ [])
      ≡ letters from n1 es ++ letter b (said r) ∷ []
  letters_push [] b octets r read = ap (λ x. letter b (said x) ∷ []) read
  letters_push (e ∷ es) b octets r read = ap (λ xs. letter e.session (said (frame_of from n1 e.octets)) ∷ xs) (letters_push es b octets r read)

  pub visible_said : (o : List ℕ) → is_visible o ≡ true → said (frame_of from n1 o) ≡ Else
  visible_said o visible = visible_is (λ r. said r ≡ Else) from n1 o visible refl refl

  -- so it is answered by no FRMR
  pub visible_fine : (o : List ℕ) → is_visible o ≡ true → said (frame_of from n1 o) ≡ OddSaid → ⊥
  visible_fine o visible odd = never (sym (visible_said o visible) ∙ odd)
    where
      never : Else ≡ OddSaid → ⊥
      never k = cc

  -- a line that lost or damaged one frame, by its letters
  pub letters_less : {i : ℕ} {es fs : List Entry} → LessAt IsSeenIn i es fs → LessAt IsSpoilt i (letters from n1 es) (letters from n1 fs)
  letters_less (nothing j) = nothing j
  letters_less (gone e xs) = gone _ (letters from n1 xs)
  letters_less (hurt e f xs seen) = hurt _ _ (letters from n1 xs) (rw (seen.0, visible_said f.octets seen.1) refl)
  letters_less (deeper j e xs ys l) = deeper j _ (letters from n1 xs) (letters from n1 ys) (letters_less l)

  -- each SABM stays of this session as more is sent in it
  pub are_sent : (b : ℕ) (role : Role) (fs : List PlainFrame) (es : List Entry) → AreOf b (letters from n1 es)
      → AreOf b (letters from n1 (es ++ sent_in b role fs))
  are_sent b role [] [] h = tt
  are_sent b role (f ∷ fs) [] h = (of_it (said (frame_of from n1 (spelling_of role f))), are_sent b role fs [] tt)
    where
      of_it : (s : Said) → OfSabm s (b ≡ b)
      of_it Sabm = refl
      of_it s = tt
  are_sent b role fs (e ∷ es) h = (h.0, are_sent b role fs es h.1)

-- ---- what an end puts behind its line

never_odd : (f : PlainFrame) → said (Ok f) ≡ OddSaid → ⊥
never_odd (sabm p) is = cc
never_odd f is = cc

-- what is read as a frame is nothing odd to put
pub puts_frame : {Odd : Type 0} {c : LinkSettings} {es : List Entry} (n : ℕ) (o : List ℕ) (f : PlainFrame) → frame_of (other c.role) c.longest o ≡ Ok f
    → Puts Odd c es (es ++ entry n o ∷ [])
puts_frame n o f is = put (entry n o) (λ odd. absurd (never_odd f (sym (ap said is) ∙ odd)))

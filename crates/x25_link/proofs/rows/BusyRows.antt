-- What each step says of whether its station is busy, and what it doesn't send to a busy peer.
use Rattle.x25_link.proofs.Names.{◌≡◌, ℕ, zero, suc, ◌+◌, List, [], ◌∷◌, ◌++◌, Bool, true, false, not, if◌then◌else◌, Some, Result, Ok, Err, refl, sym, ◌∙◌}
use Rattle.x25_link.proofs.Names.{subst, arith, ◌||◌, nat_lt, ltb-false, le-ltb, PlainFrame, info, rr, rnr, rej, sabm, disc, ua, dm, frmr, frame_of, FrameError}
use Rattle.x25_link.proofs.Names.{Undefined, NoInfoAllowed, TooLong, Phase, Up, Disc, Dm, FrmrSent, FrmrGot, Reset, Retries, LinkSettings, LinkStation, Side}
use Rattle.x25_link.proofs.Names.{is_busy, wanted, with_near, sends, ready, next_frame, send_next, may_send, pumped, owes_ready, finished, ended, LinkStep}
use Rattle.x25_link.proofs.Names.{ap, is_up, gives_up}
use Rattle.x25_link.proofs.Names.{quiet, leaves, other, is_valid, acknowledged, is_taken, takes, answers, passes_over, peer_is, goes_back, polls, row_of_frame}
use Rattle.x25_link.proofs.{EndLemmas.{true_false, open_is}, Names.{row_of, alone, hears, puts, fires, asks_again}, rows.NoteRows.{noted_quiet, up_quiet}}
use Rattle.x25_link.{proofs.rows.WindowRows.{up_is}, specs.laws.BusyLaw.{said_last, says_free, NoInfo, Says, TakeSaysBusy, PutSaysBusy, TimerSaysBusy}}
use Rattle.x25_link.specs.laws.NoteLaw.{IsQuiet}

-- ---- one frame more

last_more : (b : Bool) (fs es : List PlainFrame) → said_last b (fs ++ es) ≡ said_last (said_last b fs) es
last_more b [] es = refl
last_more b (rr command nr pf ∷ fs) es = last_more false fs es
last_more b (rnr command nr pf ∷ fs) es = last_more true fs es
last_more b (frame ∷ fs) es = last_more b fs es

free_more : (fs es : List PlainFrame) → says_free (fs ++ es) ≡ (says_free fs || says_free es)
free_more [] es = refl
free_more (rr command nr pf ∷ fs) es = refl
free_more (rej command nr pf ∷ fs) es = refl
free_more (frame ∷ fs) es = free_more fs es

none_more : (fs es : List PlainFrame) → NoInfo fs → NoInfo es → NoInfo (fs ++ es)
none_more [] es h g = g
none_more (info ns nr p x ∷ fs) es h g = absurd h
none_more (frame ∷ fs) es h g = none_more fs es h g

or_none : (b : Bool) → (b || false) ≡ b
or_none true = refl
or_none false = refl

-- ---- what a step of sending keeps

module _ (before : Bool) where
  abbrev S : Side → Type 0
  S t = Says before t.near.said_busy (is_busy t.near) t.near.peer_busy t.out

  S-if : (b : Bool) (u v : Side) → (b ≡ true → S u) → (b ≡ false → S v) → S (if b then u else v)
  S-if true u v f g = f refl
  S-if false u v f g = g refl

  S-begins : (t : Side) → t.out ≡ [] → t.near.said_busy ≡ before → S t
  S-begins t none same =
      subst (λ (fs : List PlainFrame). Says before t.near.said_busy (is_busy t.near) t.near.peer_busy fs) (sym none)
      (record { said = same; free = λ e. true_false (sym e); held = λ _. tt })

  S-ready : (command pf : Bool) (t : Side) → S t → S (ready command pf t)
  S-ready command pf t h =
      S-if (is_busy t.near) _ _ (λ _. record {
        said = sym (last_more before t.out (rnr command (wanted t.near) pf ∷ []));
        free = λ e. h.free (sym (free_more t.out (rnr command (wanted t.near) pf ∷ []) ∙ or_none (says_free t.out)) ∙ e);
        held = λ e. none_more t.out (rnr command (wanted t.near) pf ∷ []) (h.held e) tt;
      }) (λ free. record {
        said = sym (last_more before t.out (rr command (wanted t.near) pf ∷ []));
        free = λ _. free;
        held = λ e. none_more t.out (rr command (wanted t.near) pf ∷ []) (h.held e) tt;
      })

  -- an I frame goes where the peer isn't busy
  S-send_next : (t : Side) → t.near.peer_busy ≡ false → S t → S (send_next t)
  S-send_next t clear h = record {
    said = h.said ∙ sym (last_more before t.out (next_frame t.near ∷ []));
    free = λ e.
        let few = ltb-false _ _ (h.free (sym (free_more t.out (next_frame t.near ∷ []) ∙ or_none (says_free t.out)) ∙ e)) in
        le-ltb _ _ (omega (arith, few));
    held = λ e. true_false (sym e ∙ clear);
  }

  S-pumped : (n k : ℕ) (t : Side) → S t → S (pumped n k t)
  unfolding pumped
  S-pumped zero k t h = h
  S-pumped (suc n) k t h =
      S-if (may_send k (pumped n k t).near) (send_next (pumped n k t)) (pumped n k t)
      (λ may. S-send_next (pumped n k t) (open_is k (pumped n k t).near may).peer_busy (S-pumped n k t h)) (λ _. S-pumped n k t h)

  S-finished : (t : Side) → S t → S (finished t)
  S-finished t h = S-if (owes_ready t.near) _ _ (λ _. S-ready false false t h) (λ _. h)

  S-ended : (k : ℕ) (t : Side) → S t → S (ended k t)
  S-ended k t h = S-finished (pumped 7 k t) (S-pumped 7 k t h)

  S-answers : (k : ℕ) (p : Bool) (t : Side) → S t → S (answers k p t)
  S-answers k true t h = S-ready false true t h
  S-answers k false t h = S-if (may_send k t.near) (send_next t) (ready false false t) (λ may. S-send_next t (open_is k t.near may).peer_busy h)
      (λ _. S-ready false false t h)

  S-rejects : (p : Bool) (t : Side) → is_busy t.near ≡ false → S t → S (sends (rej false (wanted t.near) p) (with_near t (record t.near { rejecting = true })))
  S-rejects p t free h = record {
    said = h.said ∙ sym (last_more before t.out (rej false (wanted t.near) p ∷ []));
    free = λ _. free;
    held = λ e. none_more t.out (rej false (wanted t.near) p ∷ []) (h.held e) tt;
  }

  S-passes_over : (p : Bool) (t : Side) → S t → S (passes_over p t)
  S-passes_over p t h =
      S-if (is_busy t.near) _ _ (λ _. S-ready false p t h)
      (λ free. S-if (not t.near.rejecting) _ _ (λ _. S-rejects p t free h) (λ _. S-if p _ _ (λ _. S-ready false true t h) (λ _. h)))

  S-polls : (command pf : Bool) (t : Side) → S t → S (polls command pf t)
  S-polls true true t h = S-ready false true t h
  S-polls true false t h = h
  S-polls false true t h = record { said = h.said; free = h.free; held = h.held }
  S-polls false false t h = h

-- ---- rows

abbrev Row : LinkStation → LinkStep → Type 0
Row s step = IsQuiet step → S s.said_busy step.side

row_if : (s : LinkStation) (b : Bool) (x y : LinkStep) → Row s x → Row s y → (let z : LinkStep = if b then x else y in Row s z)
row_if s true x y f g = f
row_if s false x y f g = g

frame_row : (c : LinkSettings) (octets : List ℕ) (frame : PlainFrame) (s : LinkStation) → Row s (row_of_frame c octets frame (alone s))
frame_row c octets (info ns nr p packet) s =
    let u = acknowledged nr (alone s) in
    let begins = S-begins s.said_busy u refl refl in
    row_if s (is_valid nr s) _ _
    (row_if s (is_taken ns u.near) _ _ (λ _. S-answers s.said_busy c.window p (takes packet u) (S-begins s.said_busy (takes packet u) refl refl))
    (λ _. S-passes_over s.said_busy p u begins))
    (λ e. noted_quiet FrmrSent false e)
frame_row c octets (rr command nr pf) s =
    let u = peer_is false (acknowledged nr (alone s)) in
    row_if s (is_valid nr s) _ _ (λ _. S-polls s.said_busy command pf u (S-begins s.said_busy u refl refl)) (λ e. noted_quiet FrmrSent false e)
frame_row c octets (rnr command nr pf) s =
    let u = peer_is true (acknowledged nr (alone s)) in
    row_if s (is_valid nr s) _ _ (λ _. S-polls s.said_busy command pf u (S-begins s.said_busy u refl refl)) (λ e. noted_quiet FrmrSent false e)
frame_row c octets (rej command nr pf) s =
    let u = goes_back (peer_is false (acknowledged nr (alone s))) in
    row_if s (is_valid nr s) _ _ (λ _. S-polls s.said_busy command pf u (S-begins s.said_busy u refl refl)) (λ e. noted_quiet FrmrSent false e)
frame_row c octets (sabm p) s = λ e. up_quiet (Some Reset) e
frame_row c octets (disc p) s = λ e. noted_quiet Disc false e
frame_row c octets (ua f) s = λ _. S-begins s.said_busy (alone s) refl refl
frame_row c octets (dm f) s = λ e. noted_quiet Dm false e
frame_row c octets (frmr f why) s = λ e. noted_quiet FrmrGot false e

read_row : (c : LinkSettings) (octets : List ℕ) (read : Result PlainFrame FrameError) (s : LinkStation) → Row s (row_of c octets read (alone s))
read_row c octets (Ok frame) s = frame_row c octets frame s
read_row c octets (Err (Undefined control)) s = λ e. noted_quiet FrmrSent false e
read_row c octets (Err (NoInfoAllowed control)) s = λ e. noted_quiet FrmrSent false e
read_row c octets (Err TooLong) s = λ e. noted_quiet FrmrSent false e
read_row c octets (Err x) s = λ _. S-begins s.said_busy (alone s) refl refl

hears_row : (c : LinkSettings) (octets : List ℕ) (read : Result PlainFrame FrameError) (s : LinkStation) (p : Phase) → p ≡ Up
    → Row s (hears c octets read p (alone s))
hears_row c octets read s p is = subst (λ (z : Phase). Row s (hears c octets read z (alone s))) (sym is) (read_row c octets read s)

-- ---- the laws

pub take_says_busy : TakeSaysBusy
take_says_busy c octets s up still =
    let read = frame_of (other c.role) c.longest octets in
    S-ended s.said_busy c.window (hears c octets read s.phase (alone s)).side (hears_row c octets read s s.phase (up_is s.phase up) still)

pub put_says_busy : PutSaysBusy
put_says_busy c packet s = S-ended s.said_busy c.window (puts packet (alone s)).side (S-begins s.said_busy (puts packet (alone s)).side refl refl)

asks_row : (s : LinkStation) (t : Side) (p : Phase) → p ≡ Up → t.out ≡ [] → t.near.said_busy ≡ s.said_busy → S s.said_busy (asks_again p t)
asks_row s t p is none same =
    let u = with_near t (record t.near { recovery = true }) in
    subst (λ (z : Phase). S s.said_busy (asks_again z t)) (sym is) (S-ready s.said_busy true true u (S-begins s.said_busy u none same))

gives_row : (s : LinkStation) (p : Phase) → p ≡ Up → Row s (gives_up p (alone s))
gives_row s Up is = λ e. noted_quiet Retries false e
gives_row s p is = true_false (sym (ap is_up is))

pub timer_says_busy : TimerSaysBusy
timer_says_busy c s up still =
    let t = with_near (alone s) (record s { tries = s.tries + 1 }) in
    S-ended s.said_busy c.window (fires c (alone s)).side
    (row_if s (nat_lt s.tries c.retries) (quiet (asks_again s.phase t)) (gives_up s.phase (alone s)) (λ _. asks_row s t s.phase (up_is s.phase up) refl refl)
    (gives_row s s.phase (up_is s.phase up)) still)

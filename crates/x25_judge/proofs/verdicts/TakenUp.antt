-- The link isn't taken up where an end was set up, or has sent nothing.
use Rattle.x25_judge.proofs.verdicts.Names.{◌≡◌, ◌⊎◌, inl, inr, ℕ, Bool, true, false, List, ◌∷◌, Some, if◌then◌else◌, subst, ua, refl, sym, ap, ◌∙◌, both_ways, cond_both, Role, Dte, Dce, other}
use Rattle.x25_judge.proofs.verdicts.Names.{PlainFrame, differs, own_of, answer_to, Judge, End, Shows, IsDamaged, MayStand, MaySay, numbered, Way, IsBegun}
use Rattle.x25_judge.proofs.verdicts.Names.{shown, Peer, Frame, Unread, Watched}
use Rattle.x25_judge.proofs.{MidstLemmas.{IsOff, off_first, off_second, over_is_off, sent_over}, verdicts.Lines.{goes, past}}
use Rattle.x25_judge.specs.Judge.{other_of}
use Rattle.x25_judge.specs.Midst.{are_known, sends}
use Rattle.x25_judge.specs.declared.{midst.Watch.{Watch}, midst.Watch.TheVariants.{Unseen, Over}}
use Rattle.x25_judge.specs.laws.{Explaining.{IsUntold}, Session.{IsSetUp}, Tapes.{seen_as, takes_up}, Watching.{IsWatched}}
use Rattle.x25_judge.specs.laws.Explaining as untold
use Rattle.x25_judge.specs.laws.Sessions as sessions
use Rattle.x25_judge.specs.laws.Watching as watched
use Rattle.x25_line.specs.laws.PeerSessions as session
use Rattle.x25_link.specs.Station.{LinkSettings}

-- ---- at a frame

pub over_stays_down : (j : Judge) (from : Role) (frame : PlainFrame) → (own_of from j).watch ≡ Over → takes_up j from frame ≡ false
over_stays_down j from frame e =
    ap (λ w. are_known (sends (seen_as j from frame) w) (other_of from j).watch) e
    ∙ off_first (sends (seen_as j from frame) Over) (other_of from j).watch (over_is_off _ (sent_over (seen_as j from frame)))

-- and the other end sends
pub off_stays_down : (j : Judge) (from : Role) (frame : PlainFrame) → IsOff (own_of from j).watch → takes_up j (other from) frame ≡ false
off_stays_down j Dte frame off = off_second (sends (seen_as j Dce frame) j.dce.watch) j.dte.watch off
off_stays_down j Dce frame off = off_second (sends (seen_as j Dte frame) j.dte.watch) j.dce.watch off

pub over_hears : (j : Judge) (from : Role) (frame : PlainFrame) → (own_of from j).watch ≡ Over → takes_up j (other from) frame ≡ false
over_hears j from frame e = off_stays_down j from frame (over_is_off _ e)

-- ---- behind a line

module _ (j : Judge) (line octets : List ℕ) where
  sent_watch : (from : Role) (frame : PlainFrame) → Shows line from octets frame → (own_of from (answer_to j line).next).watch
      ≡ (if takes_up j from frame then Over else sends (seen_as j from frame) (own_of from j).watch)
  sent_watch from frame shows = ap (λ (e : End). e.watch) (goes j line from octets frame shows).own

  shown_watch : (from : Role) (frame : PlainFrame) → Shows line (other from) octets frame → (own_of from (answer_to j line).next).watch
      ≡ (if takes_up j (other from) frame then Over else (own_of from j).watch)
  shown_watch Dte frame shows = ap (λ (e : End). e.watch) (goes j line Dce octets frame shows).opposite
  shown_watch Dce frame shows = ap (λ (e : End). e.watch) (goes j line Dte octets frame shows).opposite

  pub missed_watch : (from : Role) → IsDamaged line from octets → (own_of from (answer_to j line).next).watch ≡ sends Unread (own_of from j).watch
  missed_watch from broken = ap (λ (e : End). e.watch) (past j line from octets broken).own

  pub lost_watch : (from : Role) → IsDamaged line (other from) octets → (own_of from (answer_to j line).next).watch ≡ (own_of from j).watch
  lost_watch Dte broken = ap (λ (e : End). e.watch) (past j line Dce octets broken).opposite
  lost_watch Dce broken = ap (λ (e : End). e.watch) (past j line Dte octets broken).opposite

  -- a frame that ends the watching
  pub ends_watch : (from : Role) (frame : PlainFrame) → Shows line from octets frame → sends (seen_as j from frame) (own_of from j).watch ≡ Over
      → (own_of from (answer_to j line).next).watch ≡ Over
  ends_watch from frame shows e =
      sent_watch from frame shows ∙ cond_both (takes_up j from frame) Over (sends (seen_as j from frame) (own_of from j).watch) (λ w. w ≡ Over)
      (λ _. refl) (λ _. e)

  pub over_shown : (from : Role) (frame : PlainFrame) → Shows line (other from) octets frame → (own_of from j).watch ≡ Over
      → (own_of from (answer_to j line).next).watch ≡ Over
  over_shown from frame shows e =
      shown_watch from frame shows ∙ cond_both (takes_up j (other from) frame) Over (own_of from j).watch (λ w. w ≡ Over) (λ _. refl) (λ _. e)

  pub over_sent : (from : Role) (frame : PlainFrame) → Shows line from octets frame → (own_of from j).watch ≡ Over
      → (own_of from (answer_to j line).next).watch ≡ Over
  over_sent from frame shows e = ends_watch from frame shows (ap (sends (seen_as j from frame)) e ∙ sent_over (seen_as j from frame))

  -- of either end
  pub over_on : (of from : Role) (frame : PlainFrame) → Shows line from octets frame → (own_of of j).watch ≡ Over
      → (own_of of (answer_to j line).next).watch ≡ Over
  over_on Dte Dte frame shows e = over_sent Dte frame shows e
  over_on Dce Dce frame shows e = over_sent Dce frame shows e
  over_on Dte Dce frame shows e = over_shown Dte frame shows e
  over_on Dce Dte frame shows e = over_shown Dce frame shows e

  pub over_lost : (of from : Role) → IsDamaged line from octets → (own_of of j).watch ≡ Over → (own_of of (answer_to j line).next).watch ≡ Over
  over_lost Dte Dte broken e = missed_watch Dte broken ∙ ap (sends Unread) e
  over_lost Dce Dce broken e = missed_watch Dce broken ∙ ap (sends Unread) e
  over_lost Dte Dce broken e = lost_watch Dte broken ∙ e
  over_lost Dce Dte broken e = lost_watch Dce broken ∙ e

-- ---- of an end that keeps the rules, over any number of set-ups

-- it has sent nothing, or made itself known
abbrev pub IsApart : Watch → session.Stand → Type 0
IsApart w stand = (w ≡ Over) ⊎ ((w ≡ Unseen) × (stand ≡ session.Out))

abbrev is_out : session.Stand → Bool
is_out session.Out = true
is_out stand = false

apart_is_off : (w : Watch) (stand : session.Stand) → IsApart w stand → IsOff w
apart_is_off w stand (inl e) = over_is_off w e
apart_is_off w stand (inr (e, out)) = subst IsOff (sym e) tt

apart_over : (w : Watch) (stand : session.Stand) → IsApart w stand → is_out stand ≡ false → w ≡ Over
apart_over w stand (inl e) not_out = e
apart_over w stand (inr (e, out)) not_out = absurd (both_ways (is_out stand) not_out (ap is_out out))

strays_apart : (w : Watch) (stand : session.Stand) → IsApart w stand → sends Unread w ≡ Over
strays_apart w stand (inl e) = ap (sends Unread) e
strays_apart w stand (inr (e, out)) = ap (sends Unread) e

pub says_apart : (w : Watch) (stand next : session.Stand) (p q : Peer) (way rest : Way) (frame : PlainFrame) (d : Bool) → IsApart w stand
    → MaySay stand p way frame next q rest → sends (shown frame d) w ≡ Over
unfolding shown
says_apart w stand _ p q way _ frame d apart (numbered _ _ is may) =
    ap (sends (shown frame d)) (apart_over w stand apart (ap is_out is)) ∙ sent_over (shown frame d)
says_apart w stand _ p _ way _ _ d apart (sessions.asks b none) = refl
says_apart w stand _ p _ way _ _ d apart (sessions.asks_again b is) = refl
says_apart w stand _ p _ way _ _ d apart (sessions.closes b) = refl
says_apart w stand _ p _ way _ _ d apart (sessions.declines f) = refl
says_apart w stand _ p _ way _ _ d apart (sessions.rejects f why) = refl
says_apart w stand _ p _ way _ _ d apart (sessions.takes_disc b f rest is) = refl
says_apart w stand _ p _ way _ _ d apart (sessions.takes_sabm b f rest is) = refl
says_apart w stand _ p _ way _ _ d apart (sessions.waits_on b f rest waits is) = refl

pub down_if_over : (j : Judge) (from : Role) (frame : PlainFrame) → sends (seen_as j from frame) (own_of from j).watch ≡ Over → takes_up j from frame ≡ false
down_if_over j from frame e =
    ap (λ w. are_known w (other_of from j).watch) e ∙ off_first Over (other_of from j).watch tt

abbrev pub IsApartOf : Role → Judge → session.Stand → Type 0
IsApartOf from j stand = IsApart (own_of from j).watch stand

pub apart_hears : (j : Judge) (from : Role) (stand : session.Stand) (frame : PlainFrame) → IsApartOf from j stand → takes_up j (other from) frame ≡ false
apart_hears j from stand frame apart = off_stays_down j from frame (apart_is_off _ stand apart)

shown_apart : (from : Role) (j : Judge) (line octets : List ℕ) (frame : PlainFrame) (stand : session.Stand) → Shows line (other from) octets frame
    → IsApartOf from j stand → IsApartOf from (answer_to j line).next stand
shown_apart from j line octets frame stand shows apart =
    subst (λ w. IsApart w stand) (sym (shown_watch j line octets from frame shows
    ∙ ap (λ b. if b then Over else (own_of from j).watch) (apart_hears j from stand frame apart))) apart

pub stays_apart : (from : Role) (j : Judge) (stand : session.Stand) (p : Peer) (way : Way) → MayStand from j stand p way → IsApartOf from j stand
stays_apart Dte _ _ _ _ (sessions.Starts window defaults reading strictness) = inr (refl, refl)
stays_apart Dce _ _ _ _ (sessions.Starts window defaults reading strictness) = inr (refl, refl)
stays_apart from _ _ _ _ (sessions.SetUp j b) = inl b.over
stays_apart from _ stand _ way (sessions.HandsDown j _ p _ packet h) = stays_apart from j stand p way h
stays_apart from j _ p way (sessions.Leaves _ stand _ _ h) = left (stays_apart from j stand p way h)
  where
    left : IsApartOf from j stand → IsApartOf from j session.Out
    left (inl e) = inl e
    left (inr (e, out)) = inr (e, refl)
stays_apart from _ _ _ _ (sessions.Says j stand next p q way rest line octets frame shows may h) =
    inl (ends_watch j line octets from frame shows
    (says_apart (own_of from j).watch stand next p q way rest frame (differs (own_of from j).held frame) (stays_apart from j stand p way h) may))
stays_apart from _ stand p _ (sessions.Shown j _ _ way line octets frame shows timely h) =
    shown_apart from j line octets frame stand shows (stays_apart from j stand p way h)
stays_apart from _ _ _ _ (sessions.Garbles j stand next p q way rest line octets frame broken may h) =
    inl (missed_watch j line octets from broken ∙ strays_apart _ stand (stays_apart from j stand p way h))
stays_apart from _ stand p way (sessions.Noises j _ _ _ line octets broken h) =
    inl (missed_watch j line octets from broken ∙ strays_apart _ stand (stays_apart from j stand p way h))
stays_apart from _ stand p _ (sessions.Fails j _ _ way line octets what broken timely h) =
    subst (λ w. IsApart w stand) (sym (lost_watch j line octets from broken)) (stays_apart from j stand p way h)
stays_apart from j stand p way (sessions.Passes _ _ _ what _ h) = stays_apart from j stand p (what ∷ way) h
stays_apart from j _ _ way (sessions.Comes _ p q frame _ may h) = stays_apart from j session.In p (Some frame ∷ way) h
stays_apart from j _ _ way (sessions.TakesUa _ p f _ h) =
    inl (apart_over _ session.Asking (stays_apart from j session.Asking p (Some (ua f) ∷ way) h) refl)

-- ---- behind a set-up, to the next frame without a number

pub untold_over : (Damage : Type 0) (from of : Role) (j : Judge) (lines : List (List ℕ)) → IsUntold Damage from j lines → (own_of of j).watch ≡ Over
untold_over Damage from of j _ (untold.Begins _ up) = (up of).over
untold_over Damage from of _ _ (untold.Says j lines line octets frame shows is quiet h) =
    over_on j line octets of from frame shows (untold_over Damage from of j lines h)
untold_over Damage from of _ _ (untold.Comes j lines line octets frame shows is h) =
    over_on j line octets of (other from) frame shows (untold_over Damage from of j lines h)
untold_over Damage from of _ _ (untold.Fails j lines line octets damage broken h) =
    over_lost j line octets of (other from) broken (untold_over Damage from of j lines h)

pub watched_over : (P : Judge → List ℕ → Type 0) (Damage : Type 0) (MayLag : ℕ → Type 0) (c : LinkSettings) (of : Role) (w : Watched)
    → IsWatched P Damage MayLag c w → (own_of of w.judge).watch ≡ Over
watched_over P Damage MayLag c of _ (watched.Begins j up) = (up of).over
watched_over P Damage MayLag c of _ (watched.Acts w act h) = watched_over P Damage MayLag c of w h
watched_over P Damage MayLag c of _ (watched.Rests w out back h) = watched_over P Damage MayLag c of w h
watched_over P Damage MayLag c of _ (watched.Says w line octets frame rest out shows is h) =
    over_on w.judge line octets of c.role frame shows (watched_over P Damage MayLag c of w h)
watched_over P Damage MayLag c of _ (watched.Comes w line octets frame shows is passes lags h) =
    over_on w.judge line octets of (other c.role) frame shows (watched_over P Damage MayLag c of w h)
watched_over P Damage MayLag c of _ (watched.Fails w line octets damage broken lags h) =
    over_lost w.judge line octets of (other c.role) broken (watched_over P Damage MayLag c of w h)

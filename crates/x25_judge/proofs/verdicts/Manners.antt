-- Manners tell no rule of order, and nothing of what is told of the link.
use Rattle.x25_judge.proofs.verdicts.Names.{◌≡◌, ℕ, ◌%◌, ◌==◌, Bool, true, false, Option, refl, arith, is_some, not, nat_lt, nat_le, ◌&&◌}
use Rattle.x25_judge.proofs.verdicts.Names.{◌||◌, and_parts, cond_both, PlainFrame, info, rr, rnr, rej, sabm, disc, ua, dm, frmr, answers}
use Rattle.x25_judge.proofs.verdicts.Names.{asks, bits, by_own, counts_in, hears, minded_as, minds, ready_minded, place_in, first}
use Rattle.x25_judge.proofs.verdicts.Names.{Minding, Sent, Manners, Minded, Rule, OverWindow, is_of_order, LinkSet, Told, Nothing, Skips, Broken, Numbers}
use Rattle.x25_judge.proofs.verdicts.{Names.{Stand, Up, if◌then◌else◌}, Lines.{first_is}}
use Rattle.x25_judge.specs.{Links.{begins}, declared.manners.Place.{Place}}
use Rattle.x25_judge.specs.Manners as manners
use Rattle.std.proofs.lemmas.Bool.Decides.{nat_tests}

abbrev pub IsFair : Option Rule → Type 0
IsFair rule = is_of_order rule ≡ false

either : (b : Bool) (x y : Minded) → IsFair x.rule → IsFair y.rule → IsFair (if b then x else y).rule
either true x y h g = h
either false x y h g = g

-- ---- manners alone

pub small_window : (window : ℕ) → nat_lt window 7 ≡ true → nat_le 7 window ≡ false
small_window window h = grind (arith, nat_tests)

new_fair : (window : ℕ) (at : Place) (m : Manners) → IsFair (manners.sent_new window at m).rule
new_fair window at m = cond_both (nat_lt window 7 && nat_le window at.pending) (manners.breaks (OverWindow window) false (manners.grown 1 m)) _
    (λ (x : Minded). IsFair x.rule) (λ e. small_window window (and_parts (nat_lt window 7) _ e).0) (λ _. refl)

from_fair : (window : ℕ) (at : Place) (back next : ℕ) (is_poll skips : Bool) (m : Manners)
    → IsFair (manners.sends_from window at back next is_poll skips m).rule
from_fair window at back next is_poll skips m =
    either skips _ _ refl
    (either (nat_lt 0 back) _ _
    (either (manners.goes_on at back m) _ _ refl
    (either (manners.may_go_back at is_poll back m) _ _ refl (either (nat_lt back m.behind) _ _ refl refl)))
    (either (m.behind == 0 || at.pending == 0) _ _ (new_fair window at m) refl))

pub sends_fair : (window : ℕ) (at : Place) (number : ℕ) (is_poll skips : Bool) (m : Manners) → IsFair (manners.sends window at number is_poll skips m).rule
sends_fair window at number is_poll skips m = from_fair window (manners.seen_place at m) _ _ is_poll skips m

-- ---- with what is said

minded_fair : (told : Told) (window : ℕ) (k : Numbers) (t : Sent) (ns : ℕ) (p differs : Bool) (m : Manners)
    → IsFair (minded_as told window k t ns p differs m).rule
minded_fair (Broken s) window k t ns p differs m = refl
minded_fair (Skips s) window k t ns p differs m = sends_fair window (manners.place_of k) ns p true m
minded_fair Nothing window k t ns p differs m =
    either t.facts.is_counted _ _ (sends_fair window (manners.place_of k) ns p false m)
    (either (ns == k.sent % 8) _ _ refl refl)

-- What holds of the rule that is told and of whether the frame is judged, and stays so behind a rule of manners, holds of
-- all that is minded.
module _ (P : Option Rule → Bool → Type 0)
    (on : (r m : Option Rule) (judged : Bool) → IsFair m → P r judged → P (first r m) judged) where
  abbrev Has : Minding → Type 0
  Has b = P b.seen.rule b.seen.is_judged

  has_if : (c : Bool) (b d : Minding) → Has b → Has d → Has (if c then b else d)
  has_if true b d h g = h
  has_if false b d h g = g

  own_has : (m : Minded) (b : Minding) → IsFair m.rule → Has b → Has (by_own m b)
  own_has m b fair h = on b.seen.rule m.rule b.seen.is_judged fair h

  asks_has : (p : Bool) (b : Minding) → Has b → Has (asks p b)
  asks_has p b h = has_if p _ _ (own_has (manners.asks b.own) b (either b.own.is_polling _ _ refl refl) h) h

  answers_has : (f is_shown : Bool) (b : Minding) → Has b → Has (answers f is_shown b)
  answers_has f is_shown b h =
      has_if f _ _ (on b.seen.rule (manners.answered is_shown b.other).rule b.seen.is_judged
      (either (not (b.other.polls == 0)) _ _ refl (either is_shown _ _ refl refl)) h) h

  bits_has : (command pf is_shown : Bool) (b : Minding) → Has b → Has (bits command pf is_shown b)
  bits_has command pf is_shown b h = has_if command _ _ (asks_has pf b h) (answers_has pf is_shown b h)

  counts_has : (s : Stand) (told : Told) (window : ℕ) (t : Sent) (ns : ℕ) (p : Bool) (b : Minding) → Has b → Has (counts_in s told window t ns p b)
  counts_has (Up k) told window t ns p b h = own_has (minded_as told window k t ns p _ b.own) b (minded_fair told window k t ns p _ b.own) h
  counts_has s (Skips u) window t ns p b h =
      own_has (manners.sends window (place_in s) ns p true b.own) b (sends_fair window (place_in s) ns p true b.own) h
  counts_has s told window t ns p b h = h

  ready_has : (t : Sent) (to : LinkSet) (command : Bool) (nr : ℕ) (pf : Bool) (b : Minding) → Has b → Has (ready_minded t to command nr pf b)
  ready_has t to command nr pf b h =
      let said = bits_has command pf t.facts.is_known b h in has_if (pf && not command) _ _ said said

  pub minds_has : (window : ℕ) (t : Sent) (to : LinkSet) (frame : PlainFrame) (b : Minding) → Has b → Has (minds window t to frame b)
  unfolding minds
  minds_has window t to (info ns nr p octets) b h = counts_has t.facts.stand t.told window t ns p (asks p b) (asks_has p b h)
  minds_has window t to (rr command nr pf) b h = ready_has t to command nr pf b h
  minds_has window t to (rnr command nr pf) b h = ready_has t to command nr pf b h
  minds_has window t to (rej command nr pf) b h =
      let c = hears t to nr (bits command pf t.facts.is_known b) in
      own_has (manners.rejects t.facts.is_sure c.own) c (either (t.facts.is_sure && c.own.is_rejecting) _ _ refl refl)
      (bits_has command pf t.facts.is_known b h)
  minds_has window t to (sabm p) b h = asks_has p (begins b) h
  minds_has window t to (disc p) b h = asks_has p b h
  minds_has window t to (ua f) b h = has_if (is_some b.seen.rule) _ _ h (answers_has f t.facts.is_shown (begins b) h)
  minds_has window t to (dm f) b h = answers_has f t.facts.is_shown b h
  minds_has window t to (frmr f why) b h = answers_has f t.facts.is_shown b h

pub minds_fair : (window : ℕ) (t : Sent) (to : LinkSet) (frame : PlainFrame) (b : Minding) → IsFair b.seen.rule → IsFair (minds window t to frame b).seen.rule
minds_fair = minds_has (λ r judged. IsFair r) (λ r m judged fair h. first_is IsFair r m h fair)

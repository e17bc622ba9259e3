-- A frame between two ends in a session, with nothing on the way.
use Rattle.std.proofs.Common.{Bool, true, false, ◌≡◌, ◌&&◌, nat_lt, ℕ, refl, sym, ap, ap₂, ◌∙◌}
use Rattle.x25_frame.specs.Frame.{PlainFrame, info, ua}
use Rattle.x25_judge.specs.{Held.{differs, is_same, keeps}, Links.{end_sent, end_shown, held_by, is_blind, judges, mind, minds, quiet}}
use Rattle.x25_judge.specs.Links.{Both, is_up, opens, quietly, sees, sees_as, sees_by, sent_by, shown, steady, taken_both}
use Rattle.x25_judge.specs.{Midst.{sends}, declared.midst.Watch.{Watch}, declared.midst.Watch.TheVariants.{Over}}
use Rattle.x25_judge.proofs.MidstLemmas.{sent_over}
use Rattle.x25_judge.specs.declared.{links.End.{End}, links.Sent.{Sent}, manners.Manners.{Manners}}
use Rattle.x25_possible_links.specs.code.Steps.{IsStep, IsTaken, Stepped, in_session, marked, numbers, sends_to, session_facts, telling, unread}
use Rattle.x25_possible_links.specs.declared.{frame.Frame.{Frame}, set.Facts.{Facts}, set.LinkSet.{LinkSet}, set.Told.TheVariants.{Nothing}}
use Rattle.x25_possible_links.specs.declared.{stand.Numbers.{Numbers}, stand.Stand.TheVariants.{Up}}

shown_so : (frame : PlainFrame) (d : Bool) → shown frame d ≡ marked d (shown frame false)
unfolding shown
shown_so (info ns nr p octets) d = refl
shown_so frame d = refl

none_open : (next : Numbers) (s : LinkSet) (frame : PlainFrame) → opens (in_session next s) frame ≡ false
unfolding opens
none_open next s (ua f) = refl
none_open next s frame = refl

sent_so : (frame : PlainFrame) (e : End) (k next : Numbers) (x : Frame) (d : Bool) → IsStep x k next e.set
    → sent_by frame (marked d x) e ≡ steady (is_same e.held frame) k
sent_so frame e k next x d step =
    ap (λ (a : Facts). of a (sends_to (marked d x) e.set) e.set) (step.known d) ∙ ap (λ (r : Stepped). of (session_facts k) r e.set) (step.step d)
    ∙ ap (of (session_facts k) (telling Nothing (in_session next e.set))) step.stands
  where
    of : Facts → Stepped → LinkSet → Sent
    of a r s = record {
      facts = a;
      told = r.told;
      is_same = is_same e.held frame;
      takes_unread = is_up a.stand && nat_lt (unread r.set.way.items) (unread s.way.items);
    }

-- the ends behind it
abbrev pub behind : (frame : PlainFrame) (own other : End) (next taken : Numbers) (m n : Manners) (w : Watch) → Both
behind frame own other next taken m n w = record {
  own = record { set = in_session next own.set; held = keeps own.held frame; manners = m; watch = w };
  other = record { set = in_session taken other.set; held = other.held; manners = n; watch = other.watch };
  seen = quiet;
}

module _ (window : ℕ) (frame : PlainFrame) (own other : End) (k next taken : Numbers) (m n : Manners) (step : IsStep (shown frame false) k next own.set)
    (take : IsTaken (shown frame false) taken other.set)
    (judged : (polls : ℕ) (is_same : Bool) → judges polls frame (steady is_same k).facts ≡ true) (minded : (is_same : Bool) (to : LinkSet) → numbers to
    ≡ Up taken → minds window (steady is_same k) to frame (quietly own.manners other.manners) ≡ quietly m n) where
  abbrev d : Bool
  d = differs own.held frame

  abbrev y : Frame
  y = marked d (shown frame false)

  abbrev t : Sent
  t = steady (is_same own.held frame) k

  abbrev one : End
  one = record own { set = in_session next own.set; held = keeps own.held frame; watch = sends y own.watch }

  abbrev two : End
  two = record other { set = in_session taken other.set }

  inner : sees_as window frame (shown frame d) (is_blind own other) own other ≡ behind frame own other next taken m n (sends y own.watch)
  inner =
      ap (λ y. sees_as window frame y (is_blind own other) own other) (shown_so frame d)
      ∙ ap (λ (t : Sent). sees_by window frame y (is_blind own other) t (end_sent frame y own) (end_shown y other))
      (sent_so frame own k next (shown frame false) d step) ∙ ap (λ (r : Stepped). sees_by window frame y (is_blind own other) t
      (record own { set = r.set; held = keeps (held_by r.told own.held) frame; watch = sends y own.watch }) (end_shown y other)) (step.step d)
      ∙ ap (λ (s : LinkSet). sees_by window frame y (is_blind own other) t one (record other { set = s })) (take.step d)
      ∙ ap₂ (λ (b o : Bool). mind one two (minds window t two.set frame (record (quietly own.manners other.manners) {
        seen = record quiet { is_judged = b; is_open = o };
      }))) (judged other.manners.polls (is_same own.held frame)) (none_open next own.set frame)
      ∙ ap (mind one two) (minded (is_same own.held frame) two.set take.there)

  pub passing : own.watch ≡ Over → sees window frame own other ≡ behind frame own other next taken m n own.watch
  passing over =
      ap (taken_both own.watch) inner
      ∙ ap (λ w. taken_both own.watch (behind frame own other next taken m n w)) (ap (sends y) over ∙ sent_over y)
      ∙ ap (λ w. taken_both w (behind frame own other next taken m n Over)) over
      ∙ ap (behind frame own other next taken m n) (sym over)

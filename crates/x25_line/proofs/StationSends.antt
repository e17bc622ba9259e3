-- A run of a station that only sends is moves of the window machine that it allows, and its frames show those of the machine.
use Rattle.x25_line.proofs.Names.{◌≡◌, ℕ, zero, suc, ◌+◌, ◌%◌, ◌<◌, ◌≤◌, max, List, [], ◌∷◌, ◌++◌, length, Option, Some, None, refl, sym, ap, ◌∙◌, subst, arith}
use Rattle.x25_line.proofs.Names.{append_assoc, append-nil, slice_get_within, slice_get, PlainFrame, info, rr, rnr, rej, resolved, Numbered, Frame, Allows}
use Rattle.x25_line.proofs.Names.{after, frames_of, numbered, Send, Tell, Window, ShowsItem, Shows, ShowAll, Runs, rests, Line, MachineReaches, near_moves}
use Rattle.std.proofs.lemmas.Option.{get_or_from_slice_get}
use Rattle.x25_line.proofs.{Kept.{Kept, Kept-moved, resolved_is}, Lists.{each_append}, Names.{given}}
use Rattle.x25_line.{proofs.StationLines.{shows_append, IsGood, AllGood, AllHandedDown}, specs.laws.Line.{steps}, specs.laws.Line.Move.{Sends, Tells}}
use Rattle.x25_line.specs.laws.StationClaims.{Each, IsHandedDown}
use Rattle.x25_link.specs.laws.WindowMachine.{IsSent, goes_on}
use Rattle.x25_window.specs.laws.Window.{EndStep, frame_of}

-- ---- packets

-- all packets are of N1 octets at most
abbrev pub AllWithin : ℕ → List (List ℕ) → Type 0
AllWithin n1 xs = Each (λ x. length x ≤ n1) xs

-- one more packet of N1 octets at most
pub within_push : (n1 : ℕ) (xs : List (List ℕ)) (x : List ℕ) → AllWithin n1 xs → length x ≤ n1 → AllWithin n1 (xs ++ x ∷ [])
within_push n1 xs x h le = each_append (λ y. length y ≤ n1) xs (x ∷ []) h (le, tt)

-- the packet of a number that was handed down
pub record Item (n1 : ℕ) (xs : List (List ℕ)) (n : ℕ) : Type 0 where
  pub item : List ℕ
  pub is : slice_get xs n ≡ Some item
  pub within : length item ≤ n1

-- each number below the length has a packet, of at most N1 octets
pub item_at : (n1 : ℕ) (xs : List (List ℕ)) (n : ℕ) → n < length xs → AllWithin n1 xs → Item n1 xs n
item_at n1 [] n lt h = absurd (omega arith)
item_at n1 (x ∷ xs) zero lt h = record { item = x; is = refl; within = h.0 }
item_at n1 (x ∷ xs) (suc n) lt h =
    let i = item_at n1 xs n (omega arith) h.1 in
    record { item = i.item; is = i.is; within = i.within }

-- ---- frames

-- the frame of the machine is shown by one frame alone
pub record Single (fs : List PlainFrame) (g : Frame (List ℕ)) : Type 0 where
  pub frame : PlainFrame
  pub is : fs ≡ frame ∷ []
  pub shows : Shows frame g

pub single_of : (fs : List PlainFrame) (g : Frame (List ℕ)) → ShowAll fs (g ∷ []) → Single fs g
single_of [] g h = absurd h
single_of (f ∷ []) g h = record { frame = f; is = refl; shows = h.0 }
single_of (f ∷ e ∷ fs) g h = absurd h.1

-- a number modulo 8 is in range
below_eight : (a b : ℕ) → a ≡ b % 8 → a < 8
below_eight a b e = omega arith

pub tell_good : (n1 : ℕ) (w : Window) (f : PlainFrame) → Shows f (frame_of w None) → IsGood n1 f
tell_good n1 w (info ns nr p x) h = absurd h.0
tell_good n1 w (rr command nr pf) h = record { in_range = below_eight nr (length w.taken) h.1; carries = refl; within = tt; number = refl; orderly = tt }
tell_good n1 w (rnr command nr pf) h = record { in_range = below_eight nr (length w.taken) h.1; carries = refl; within = tt; number = refl; orderly = tt }
tell_good n1 w (rej command nr pf) h = record { in_range = below_eight nr (length w.taken) h.1; carries = refl; within = tt; number = refl; orderly = tt }
tell_good n1 w f h = absurd h

pub not_none : (n : ℕ) (xs : List (List ℕ)) (x : List ℕ) → slice_get xs n ≡ Some x → numbered n (slice_get xs n) ≡ None → ⊥
not_none n xs x is none = absurd (never (sym (ap (numbered n) is) ∙ none))
  where
    never : numbered n (Some x) ≡ None → ⊥
    never e = cc

pub send_good : {n1 n : ℕ} (w : Window) → Item n1 w.given n → (f : PlainFrame) → Shows f (frame_of (after w (Send n)) (numbered n (slice_get w.given n)))
    → IsGood n1 f
send_good {n = n} w i (info ns nr p x) h =
    let shown : ShowsItem (numbered n (Some i.item)) ns x = subst (λ o. ShowsItem (numbered n o) ns x) i.is h.0 in
    let same = ap length shown.1 in
    let short = i.within in
    record { in_range = (below_eight ns n shown.0, below_eight nr (length w.taken) h.1); carries = tt; within = omega arith; number = refl; orderly = tt }
send_good {n = n} w i (rr command nr pf) h = absurd (not_none n w.given i.item i.is h.0)
send_good {n = n} w i (rnr command nr pf) h = absurd (not_none n w.given i.item i.is h.0)
send_good {n = n} w i (rej command nr pf) h = absurd (not_none n w.given i.item i.is h.0)
send_good w i f h = absurd h

-- the packet that goes was handed down

tell_handed : (given : List (List ℕ)) (w : Window) (f : PlainFrame) → Shows f (frame_of w None) → IsHandedDown given f
tell_handed given w (info ns nr p x) h = absurd h.0
tell_handed given w f h = tt

send_handed : {n1 n : ℕ} (w : Window) → Item n1 w.given n → (f : PlainFrame) → Shows f (frame_of (after w (Send n)) (numbered n (slice_get w.given n)))
    → IsHandedDown w.given f
send_handed {n = n} w i (info ns nr p x) h =
    let shown : ShowsItem (numbered n (Some i.item)) ns x = subst (λ o. ShowsItem (numbered n o) ns x) i.is h.0 in
    (n, slice_get_within w.given n i.item i.is, get_or_from_slice_get w.given n i.item x i.is ∙ sym shown.1)
send_handed w i f h = tt

-- ---- the numbers of what goes

-- a frame of the machine is given to the one that shows it, behind which more are given
abbrev Gives : ℕ → ℕ → ℕ → ℕ → PlainFrame → Frame (List ℕ) → Type 0
Gives acked r m top f g = (es : List PlainFrame) → given acked r m (f ∷ es) ≡ g ∷ given acked r top es

tell_given : (acked : ℕ) (w : Window) (f : PlainFrame) → Shows f (frame_of w None) → Gives acked (length w.taken) w.sent w.sent f (frame_of w None)
tell_given acked w (info ns nr p x) h es = absurd h.0
tell_given acked w (rr command nr pf) h es = refl
tell_given acked w (rnr command nr pf) h es = refl
tell_given acked w (rej command nr pf) h es = refl
tell_given acked w f h es = absurd h

-- an I frame with these numbers, and then more
abbrev with_number : ℕ → ℕ → ℕ → Option (Numbered (List ℕ)) → ℕ → List PlainFrame → List (Frame (List ℕ))
with_number acked r m carried n es = record { carried = carried; ack = r; top = max m (n + 1) } ∷ given acked r (max m (n + 1)) es

send_given : (n1 n : ℕ) (w : Window) → Item n1 w.given n → w.window ≤ 7 → Allows w (Send n) → (f : PlainFrame)
    → Shows f (frame_of (after w (Send n)) (numbered n (slice_get w.given n)))
    → Gives w.acked (length w.taken) w.sent (after w (Send n)).sent f (frame_of (after w (Send n)) (numbered n (slice_get w.given n)))
send_given n1 n w i high may (info ns nr p x) h es =
    let shown : ShowsItem (numbered n (Some i.item)) ns x = subst (λ o. ShowsItem (numbered n o) ns x) i.is h.0 in
    let is : resolved w.acked ns ≡ n = ap (resolved w.acked) shown.0 ∙ resolved_is w.acked n may.0 (omega (arith, may.2, high)) in
    ap (λ k. with_number w.acked (length w.taken) w.sent (Some (record { number = k; item = x })) k es) is
    ∙ ap (λ y. with_number w.acked (length w.taken) w.sent (Some (record { number = n; item = y })) n es) shown.1
    ∙ ap (λ o. with_number w.acked (length w.taken) w.sent (numbered n o) n es) (sym i.is)
send_given n1 n w i high may (rr command nr pf) h es = absurd (not_none n w.given i.item i.is h.0)
send_given n1 n w i high may (rnr command nr pf) h es = absurd (not_none n w.given i.item i.is h.0)
send_given n1 n w i high may (rej command nr pf) h es = absurd (not_none n w.given i.item i.is h.0)
send_given n1 n w i high may f h es = absurd h

-- ---- runs

-- the line once the frames of a run are on it
pub record Sent (k j n1 : ℕ) (l : Line (List ℕ)) (from w : Window) (frames : List PlainFrame) : Type 0 where
  pub line : Line (List ℕ)
  pub reached : MachineReaches k j line
  pub kept : Kept line
  pub near : line.near ≡ w
  pub far : line.far ≡ l.far
  pub back : line.back ≡ l.back
  pub behind : List (Frame (List ℕ))
  pub out : line.out ≡ l.out ++ behind
  pub shows : ShowAll frames behind
  pub numbers : (es : List PlainFrame) → given from.acked (length from.taken) l.near.sent (frames ++ es) ≡ behind
      ++ given from.acked (length from.taken) line.near.sent es
  pub good : AllGood n1 frames
  pub handed : AllHandedDown from.given frames
  pub given : w.given ≡ from.given
  pub taken : w.taken ≡ from.taken
  pub acked : w.acked ≡ from.acked

-- what such frames are given, by the end once they went
pub sent_given : {k j n1 : ℕ} {l : Line (List ℕ)} {from w : Window} {frames : List PlainFrame} (h : Sent k j n1 l from w frames) → h.behind
    ≡ given w.acked (length w.taken) l.near.sent frames
sent_given {l = l} {from} {w} {frames} h =
    sym (append-nil h.behind) ∙ sym (h.numbers []) ∙ ap (given from.acked (length from.taken) l.near.sent) (append-nil frames)
    ∙ ap (λ a. given a (length from.taken) l.near.sent frames) (sym h.acked) ∙ ap (λ xs. given w.acked (length xs) l.near.sent frames) (sym h.taken)

-- one step more
sent_more : {k j n1 : ℕ} {l : Line (List ℕ)} {from w : Window} {frames : List PlainFrame} (h : Sent k j n1 l from w frames) (s : EndStep (List ℕ))
    (fs : List PlainFrame)
    → MachineReaches k j (steps h.line s) → Kept (steps h.line s) → (after w s).given ≡ w.given → (after w s).taken ≡ w.taken → (after w s).acked ≡ w.acked
    → ShowAll fs (frames_of w s) → AllGood n1 fs
    → AllHandedDown from.given fs → ((es : List PlainFrame) → given w.acked (length w.taken) w.sent (fs ++ es) ≡ frames_of w s
    ++ given w.acked (length w.taken) (after w s).sent es)
    → Sent k j n1 l from (after w s) (frames ++ fs)
sent_more {n1 = n1} {l} {from} {w} {frames} h s fs reached kept handed_down taken acked shows good handed gives =
    record {
      line = steps h.line s;
      reached = reached;
      kept = kept;
      near = ap (λ z. after z s) h.near;
      far = h.far;
      back = h.back;
      behind = h.behind ++ frames_of h.line.near s;
      out = ap (λ gs. gs ++ frames_of h.line.near s) h.out ∙ append_assoc l.out h.behind (frames_of h.line.near s);
      shows = shows_append frames fs h.behind (frames_of h.line.near s) h.shows (rw h.near shows);
      good = each_append (IsGood n1) frames fs h.good good;
      handed = each_append (IsHandedDown from.given) frames fs h.handed handed;
      given = handed_down ∙ h.given;
      taken = taken ∙ h.taken;
      acked = acked ∙ h.acked;
      numbers = λ es.
          ap (given from.acked (length from.taken) l.near.sent) (append_assoc frames fs es)
          ∙ h.numbers (fs ++ es)
          ∙ ap (λ gs. h.behind ++ gs) (here es)
          ∙ sym (append_assoc h.behind (frames_of h.line.near s) (given from.acked (length from.taken) (steps h.line s).near.sent es));
    }
  where
    here : (es : List PlainFrame) → given from.acked (length from.taken) h.line.near.sent (fs ++ es) ≡ frames_of h.line.near s
        ++ given from.acked (length from.taken) (steps h.line s).near.sent es
    here es =
        rw h.near (rw (sym h.acked) (subst (λ xs. given w.acked (length xs) w.sent (fs ++ es) ≡ frames_of w s ++ given w.acked (length xs) (after w s).sent es)
        h.taken (gives es)))

more : {k j n1 : ℕ} {l : Line (List ℕ)} {from w : Window} {frames : List PlainFrame} → AllWithin n1 from.given → (s : EndStep (List ℕ)) (fs : List PlainFrame)
    → IsSent s → Allows w s → ShowAll fs (frames_of w s) → Sent k j n1 l from w frames → Sent k j n1 l from (after w s) (frames ++ fs)
more {k} {j} {n1} {l} {from} {w} {frames} within Tell fs sends may shows h =
    let one = single_of fs (frame_of w None) shows in
    subst (λ es. Sent k j n1 l from w (frames ++ es)) (sym one.is)
    (sent_more h Tell (one.frame ∷ []) (near_moves h.line Tells h.reached tt) (Kept-moved Tells tt h.kept) refl refl refl (one.shows, tt)
    (tell_good n1 w one.frame one.shows, tt) (tell_handed from.given w one.frame one.shows, tt) (tell_given w.acked w one.frame one.shows))
more {k} {j} {n1} {l} {from} {w} {frames} within (Send n) fs sends may shows h =
    let ok : Allows h.line.near (Send n) = subst (λ z. Allows z (Send n)) (sym h.near) may in
    let item = item_at n1 w.given n may.3 (subst (AllWithin n1) (sym h.given) within) in
    let one = single_of fs (frame_of (after w (Send n)) (numbered n (slice_get w.given n))) shows in
    subst (λ es. Sent k j n1 l from (after w (Send n)) (frames ++ es)) (sym one.is)
    (sent_more h (Send n) (one.frame ∷ []) (near_moves h.line (Sends n) h.reached ok) (Kept-moved (Sends n) ok h.kept) refl refl refl (one.shows, tt)
    (send_good w item one.frame one.shows, tt) (rw (sym h.given) (send_handed w item one.frame one.shows, tt))
    (send_given n1 n w item (rw (sym h.near) h.kept.from_near.high) may one.frame one.shows))
more within s fs sends may shows h = absurd sends

pub runs_sent : {k j n1 : ℕ} {l : Line (List ℕ)} {from : Window} → MachineReaches k j l → Kept l → l.near ≡ from → AllWithin n1 from.given
    → {w : Window} {frames : List PlainFrame} → Runs from w frames → Sent k j n1 l from w frames
runs_sent {l = l} reached kept near within rests =
    record {
      line = l;
      reached = reached;
      kept = kept;
      near = near;
      far = refl;
      back = refl;
      behind = [];
      out = sym (append-nil l.out);
      shows = tt;
      good = tt;
      handed = tt;
      given = refl;
      taken = refl;
      acked = refl;
      numbers = λ es. refl;
    }
runs_sent {k} {j} {n1} {l} {from} reached kept near within (goes_on v fs s gs run sends may shows) =
    more within s gs sends may shows (runs_sent reached kept near within run)

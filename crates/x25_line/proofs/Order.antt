-- Two ends of one link that is set up once keep the way in both directions, whatever they send, hear and lose within the rules of a peer; and that
-- says what holds of their order.
use Rattle.x25_line.proofs.Names.{◌≡◌, ℕ, zero, suc, ◌+◌, ◌%◌, ◌≤◌, arith, max, List, [], ◌∷◌, ◌++◌, length, drop, remove, Bool, true, false, if◌then◌else◌}
use Rattle.x25_line.proofs.Names.{Option, Some, None, Result, Ok, Err, refl, sym, ap, ◌∙◌, subst, append-nil, le-leb, take-append-drop, take_all}
use Rattle.x25_line.proofs.Names.{slice_get_within, nat_le, PlainFrame, info, rr, rnr, rej, FrameError, Short, BadFcs, resolved, End, Frame, Numbered, Reason}
use Rattle.x25_line.proofs.Names.{FrmrSent, Window, ending_of, Peer, fresh_peer, numbered_to, told_to, hearing, IsWanted, taking, MaySay, MayMake, IsPrefix}
use Rattle.x25_frame.specs.declared.error.FrameError.TheVariants.{BadAddress}
use Rattle.x25_line.proofs.Kept.{Way, BothWays, hears_valid, Way-hand, Way-send, Way-tell, Way-told, Way-hears, Way-takes, Way-giver, Way-unheard, Way-passed}
use Rattle.x25_line.proofs.{Kept.{Way-acked}, Losses.{untouched}, Names.{LessAt, nothing, gone, hurt, deeper, Less, Said, Carried, Tells, said}}
use Rattle.x25_line.specs.laws.Said.{Odd as OddSaid}

-- ---- what is told on a line, and the frames of the window machine that it stands for

-- an N(R), and perhaps a packet
pub record Told : Type 0 where
  pub carried : Option Carried
  pub nr : ℕ

abbrev pub told : Option Carried → ℕ → Told
told carried nr = record { carried = carried; nr = nr }

-- the N(R)s of a line alone
abbrev pub only : Said → List Told → List Told
only (Tells c n) rest = told c n ∷ rest
only s rest = rest

-- no N(R)
abbrev pub IsApart : Said → Type 0
IsApart (Tells carried nr) = ⊥
IsApart s = Unit {0}

-- more goes behind the N(R)s of a line
pub only_append : (s : Said) (xs ys : List Told) → only s xs ++ ys ≡ only s (xs ++ ys)
only_append (Tells c n) xs ys = refl
only_append s xs ys = refl

pub only_quiet : (s : Said) (xs : List Told) → IsApart s → only s xs ≡ xs
only_quiet (Tells c n) xs off = absurd off
only_quiet s xs off = refl

abbrev pub Shows : Option Carried → Option (Numbered (List ℕ)) → Type 0
Shows None None = Unit {0}
Shows (Some c) (Some n) = (c.ns ≡ n.number % 8) × (c.packet ≡ n.item)
Shows c n = ⊥

pub data Bear : List Told → List (Frame (List ℕ)) → Type 0 where
  none : Bear [] []
  here : (t : Told) (ts : List Told) (g : Frame (List ℕ)) (gs : List (Frame (List ℕ))) → Shows t.carried g.carried → t.nr ≡ g.ack % 8 → Bear ts gs
      → Bear (t ∷ ts) (g ∷ gs)

bear_push : {ts : List Told} {gs : List (Frame (List ℕ))} (t : Told) (g : Frame (List ℕ)) → Bear ts gs → Shows t.carried g.carried → t.nr ≡ g.ack % 8
    → Bear (ts ++ t ∷ []) (gs ++ g ∷ [])
bear_push t g none shows number = here t [] g [] shows number none
bear_push t g (here x xs y ys same ack h) shows number = here x (xs ++ t ∷ []) y (ys ++ g ∷ []) same ack (bear_push t g h shows number)

-- one at most is gone, and none comes in its place
abbrev pub Left : List Told → List Told → Type 0
Left xs ys = Less (λ x y. ⊥) xs ys

bear_less : {ts us : List Told} {gs : List (Frame (List ℕ))} {i : ℕ} → LessAt (λ x y. ⊥) i ts us → Bear ts gs → Bear us (remove gs i)
bear_less (nothing zero) none = none
bear_less (nothing (suc i)) none = none
bear_less (gone t ts) (here x xs g ys shows number h) = h
bear_less (hurt t u ts never) h = absurd never
bear_less (deeper i t ts us l) (here x xs g ys shows number h) = here t us g (remove ys i) shows number (bear_less l h)

-- a line without its first frame has one N(R) less at most
pub left_front : (s : Said) (xs : List Told) → Left (only s xs) xs
left_front (Tells c n) xs = (0, gone _ xs)
left_front s xs = (_, untouched xs)

-- so it has where a frame stands before both
pub left_deeper : (s : Said) {xs ys : List Told} → Left xs ys → Left (only s xs) (only s ys)
left_deeper (Tells c n) {xs} {ys} h = (suc h.0, deeper h.0 _ xs ys h.1)
left_deeper s h = h

-- ---- what holds

-- an end as one of the window machine; whatever its own k is, seven is the most
abbrev pub end_of : Peer → End (List ℕ)
end_of p = record { window = 7; given = p.given; acked = p.acked; sent = p.sent; taken = p.taken }

abbrev pub Ways : Peer → Peer → List (Frame (List ℕ)) → List (Frame (List ℕ)) → Type 0
Ways p q gs hs = BothWays (end_of p) (end_of q) p.told q.told gs hs

-- Holds, of the near end p and the far end q: the frames on the lines have whole numbers, and these keep the way.
pub record Hold (p q : Peer) (out back : List Told) : Type 0 where
  pub there : List (Frame (List ℕ))
  pub here : List (Frame (List ℕ))
  pub ways : Ways p q there here
  pub out_bears : Bear out there
  pub back_bears : Bear back here

-- two ends as a session begins, with nothing on the lines
pub starts : Hold fresh_peer fresh_peer [] []
starts =
    let way : Way (end_of fresh_peer) [] 0 [] [] = record {
      high = omega arith;
      room = omega arith;
      held = omega arith;
      acks = omega arith;
      late = omega arith;
      tops = omega arith;
      begins = refl;
    } in
    record { there = []; here = []; ways = record { from_near = way; from_far = way }; out_bears = none; back_bears = none }

-- the same, as the other end has it
pub hold_turned : {p q : Peer} {out back : List Told} → Hold p q out back → Hold q p back out
hold_turned h =
    record {
      there = h.here;
      here = h.there;
      ways = record { from_near = h.ways.from_far; from_far = h.ways.from_near };
      out_bears = h.back_bears;
      back_bears = h.out_bears;
    }

module _ (p q : Peer) (out back : List Told) where
  -- an end is handed down a packet
  pub handed : (packet : List ℕ) → Hold p q out back → Hold (record p { given = p.given ++ packet ∷ [] }) q out back
  handed packet h =
      record {
        there = h.there;
        here = h.here;
        ways = record { from_near = Way-hand packet h.ways.from_near; from_far = h.ways.from_far };
        out_bears = h.out_bears;
        back_bears = h.back_bears;
      }

  -- ---- what it sends

  sent_one : (h : Hold p q out back) {r : Peer} (t : Told) (g : Frame (List ℕ)) → Shows t.carried g.carried → t.nr ≡ g.ack % 8
      → Ways r q (h.there ++ g ∷ []) h.here → Hold r q (out ++ t ∷ []) back
  sent_one h t g shows number ways =
      record { there = h.there ++ g ∷ []; here = h.here; ways = ways; out_bears = bear_push t g h.out_bears shows number; back_bears = h.back_bears }

  sent : (Odd : Type 0) (h : Hold p q out back) (carried : Option Carried) (nr : ℕ) (r : Peer) → MaySay Odd p (Tells carried nr) r
      → Hold r q (out ++ told carried nr ∷ []) back
  sent Odd h None nr r may =
      let t = may.0 in
      let ack = may.1 in
      let g : Frame (List ℕ) = record { carried = None; ack = t; top = p.sent } in
      let ways : Ways (told_to t p) q (h.there ++ g ∷ []) h.here = record {
        from_near = Way-tell t h.ways.from_near;
        from_far = Way-told t None p.sent ack.rising ack.taken h.ways.from_far;
      } in
      subst (λ z. Hold z q (out ++ told None nr ∷ []) back) (sym may.2) (sent_one h (told None nr) g tt ack.number ways)
  sent Odd h (Some c) nr r may =
      let i = may.0 in
      let t = may.1 in
      let number = may.2 in
      let ack = may.3 in
      let again = number.again in
      let item : Numbered (List ℕ) = record { number = i; item = c.packet } in
      let g : Frame (List ℕ) = record { carried = Some item; ack = t; top = max p.sent (i + 1) } in
      let ways : Ways (told_to t (numbered_to i p)) q (h.there ++ g ∷ []) h.here = record {
        from_near = Way-send i t (Some item) (slice_get_within p.given i c.packet number.same) number.window (omega arith, omega arith, number.same)
            h.ways.from_near;
        from_far = Way-told t (Some item) (max p.sent (i + 1)) ack.rising ack.taken h.ways.from_far;
      } in
      subst (λ z. Hold z q (out ++ told (Some c) nr ∷ []) back) (sym may.4)
      (sent_one h (told (Some c) nr) g (number.number, refl) ack.number ways)

  unsaid : (r : Peer) → r ≡ p → Hold p q out back → Hold r q (out ++ []) back
  unsaid r is h = rw is (rw (append-nil out) h)

  -- an end sends what it may: its N(R) is then on the line
  pub says : (Odd : Type 0) (s : Said) (r : Peer) → MaySay Odd p s r → Hold p q out back → Hold r q (out ++ only s []) back
  says Odd (Tells c n) r may h = sent Odd h c n r may
  says Odd OddSaid r may h = unsaid r may.1 h
  says Odd s r may h = unsaid r may h

  -- ---- the line to it

  -- an N(R) on the line to an end is lost
  pub left : {ys : List Told} → Left back ys → Hold p q out back → Hold p q out ys
  left l h = record {
    there = h.there;
    here = remove h.here l.0;
    ways = record { from_near = Way-unheard l.0 h.ways.from_near; from_far = Way-passed l.0 h.ways.from_far };
    out_bears = h.out_bears;
    back_bears = bear_less l.1 h.back_bears;
  }

-- ---- what comes to it

module _ (p q : Peer) (out : List Told) where
  heard_way : (g : Frame (List ℕ)) (gs hs : List (Frame (List ℕ))) (b : Bool) (n : ℕ) → n ≡ g.ack % 8 → Ways p q gs (g ∷ hs)
      → Way (end_of (hearing b n p)) q.taken q.told gs hs
  heard_way g gs hs true n is k = rw is (Way-hears hs g k.from_near)
  heard_way g gs hs false n is k = Way-unheard 0 k.from_near

  passed : (b : Bool) (n : ℕ) (g : Frame (List ℕ)) (gs hs : List (Frame (List ℕ))) → n ≡ g.ack % 8 → Ways p q gs (g ∷ hs) → Ways (hearing b n p) q gs hs
  passed true n g gs hs is k = record { from_near = heard_way g gs hs true n is k; from_far = Way-passed 0 k.from_far }
  passed false n g gs hs is k = record { from_near = heard_way g gs hs false n is k; from_far = Way-passed 0 k.from_far }

  took : (b : Bool) (n : ℕ) (g : Frame (List ℕ)) (gs hs : List (Frame (List ℕ))) (c : Carried) (i : Numbered (List ℕ)) → n ≡ g.ack % 8 → g.carried ≡ Some i
      → c.ns ≡ i.number % 8 → c.packet ≡ i.item
      → c.ns ≡ length p.taken % 8 → Ways p q gs (g ∷ hs) → Ways (taking true c.packet (hearing b n p)) q gs hs
  took b n g gs hs c i is carried number same wanted k =
      let item = subst (λ y. Way (end_of q) (p.taken ++ y ∷ []) p.told hs gs) (sym same)
      (Way-takes hs g i (rw carried at k.from_far.tops.1) (sym number ∙ wanted) k.from_far) in
      go b (heard_way g gs hs b n is k) item
    where
      go : (b : Bool) → Way (end_of (hearing b n p)) q.taken q.told gs hs → Way (end_of q) (p.taken ++ c.packet ∷ []) p.told hs gs
          → Ways (taking true c.packet (hearing b n p)) q gs hs
      go true a z = record { from_near = Way-giver 0 c.packet a; from_far = z }
      go false a z = record { from_near = Way-giver 0 c.packet a; from_far = z }

  carried_shown : (c : Carried) (o : Option (Numbered (List ℕ))) → Shows (Some c) o → (i : Numbered (List ℕ)) × (o ≡ Some i) × (c.ns ≡ i.number % 8)
      × (c.packet ≡ i.item)
  carried_shown c None h = absurd h
  carried_shown c (Some i) h = (i, refl, h.0, h.1)

  comes : (g : Frame (List ℕ)) (gs hs : List (Frame (List ℕ))) (carried : Option Carried) (n : ℕ) (r : Peer) → Shows carried g.carried → n ≡ g.ack % 8
      → MayMake p (Tells carried n) r
      → Ways p q gs (g ∷ hs) → Ways r q gs hs
  comes g gs hs None n r shows is may k = rw may.1 (passed may.0 n g gs hs is k)
  comes g gs hs (Some c) n r shows is may k = go may.0 may.1 may.2 may.3
    where
      go : (b t : Bool) → IsWanted t c.ns p → r ≡ taking t c.packet (hearing b n p) → Ways r q gs hs
      go b true wanted to =
          let s = carried_shown c g.carried shows in
          subst (λ z. Ways z q gs hs) (sym to) (took b n g gs hs c s.0 is s.1 s.2 s.3 wanted k)
      go b false wanted to = rw to (passed b n g gs hs is k)

  front : (t : Told) (rest : List Told) {r : Peer} {gs hs : List (Frame (List ℕ))} → Bear out gs → Bear (t ∷ rest) hs → Ways p q gs hs
      → MayMake p (Tells t.carried t.nr) r → Hold r q out rest
  front t rest {r} {gs} shows (here x xs g ys carried number h) k may =
      record { there = gs; here = ys; ways = comes g gs ys x.carried x.nr r carried number may k; out_bears = shows; back_bears = h }

  -- an end makes what it may of the frame that comes
  pub makes : (s : Said) (rest : List Told) {r : Peer} → MayMake p s r → Hold p q out (only s rest) → Hold r q out rest
  makes (Tells c n) rest {r} may h = front (told c n) rest h.out_bears h.back_bears h.ways may
  makes s rest may h = rw may h

-- ---- the claims

-- what was taken is a beginning of what was handed down; what is acknowledged was taken; so all was where all is
pub in_order : (p q : Peer) (gs hs : List (Frame (List ℕ))) → Way (end_of p) q.taken q.told gs hs
    → IsPrefix q.taken p.given × (p.acked ≤ length q.taken) × (p.acked ≡ length p.given → q.taken ≡ p.given)
in_order p q gs hs h =
    let few = (Way-acked h).0 in
    let begins = h.begins in (
      (drop (length q.taken) p.given, ap (λ ys. ys ++ drop (length q.taken) p.given) begins ∙ take-append-drop (length q.taken) p.given),
      few,
      λ all. begins ∙ take_all (length q.taken) p.given (omega (arith, few, all)),
    )

-- the first N(R) on the line to an end is valid
pub valid_front : (p q : Peer) (out rest : List Told) (t : Told) → Hold p q out (t ∷ rest) → resolved p.acked t.nr ≤ p.sent
valid_front p q out rest t h = go h.here h.back_bears h.ways.from_near
  where
    go : (hs : List (Frame (List ℕ))) → Bear (t ∷ rest) hs → Way (end_of p) q.taken q.told h.there hs → resolved p.acked t.nr ≤ p.sent
    go hs (here x xs g ys carried number k) way =
        let valid = hears_valid ys g way in
        let all = ap (resolved p.acked) number ∙ valid.0 in
        omega (arith, all, valid.2)

-- ---- no fault is found where an N(R) is valid, and where nothing comes that is answered by FRMR

-- one where the link is left by an FRMR of the station's own
abbrev pub by_frmr : Option Reason → ℕ
by_frmr (Some FrmrSent) = 1
by_frmr reason = 0

valid_none : (b : Bool) → b ≡ true → by_frmr (if b then None else Some FrmrSent) ≡ 0
valid_none true is = refl
valid_none false is = cc

-- what isn't odd, with a valid N(R) where it has one, is no ground for an FRMR
pub no_fault : (r : Result PlainFrame FrameError) (v : Window) → (said r ≡ OddSaid → ⊥)
    → ((carried : Option Carried) (nr : ℕ) → said r ≡ Tells carried nr → resolved v.acked nr ≤ v.sent) → by_frmr (ending_of r v) ≡ 0
no_fault (Ok (info ns nr p x)) v never valid = valid_none (nat_le (resolved v.acked nr) v.sent) (le-leb _ _ (valid _ nr refl))
no_fault (Ok (rr command nr pf)) v never valid = valid_none (nat_le (resolved v.acked nr) v.sent) (le-leb _ _ (valid None nr refl))
no_fault (Ok (rnr command nr pf)) v never valid = valid_none (nat_le (resolved v.acked nr) v.sent) (le-leb _ _ (valid None nr refl))
no_fault (Ok (rej command nr pf)) v never valid = valid_none (nat_le (resolved v.acked nr) v.sent) (le-leb _ _ (valid None nr refl))
no_fault (Ok f) v never valid = refl
no_fault (Err Short) v never valid = refl
no_fault (Err BadFcs) v never valid = refl
no_fault (Err BadAddress) v never valid = refl
no_fault (Err e) v never valid = absurd (never refl)

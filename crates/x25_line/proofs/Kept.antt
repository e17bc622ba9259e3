-- What each move of the window machine keeps, and so each list of moves.
use Rattle.x25_line.proofs.Names.{◌≡◌, ℕ, ◌+◌, ◌%◌, ◌<◌, ◌≤◌, List, [], ◌∷◌, ◌++◌, length, drop, remove, max, Option, Some, None, Bool, true, false, arith, ◌∙◌}
use Rattle.x25_line.proofs.Names.{sym, ap, take-append-drop, take_all, length_push, slice_get_within, slice_get, resolved, End, Frame, Numbered, Allows, after}
use Rattle.std.proofs.{Common.{take}, lemmas.Grind.{common_steps}, lemmas.List.{take_more, append-nil}, lemmas.Option.{get_or_from_slice_get}}
use Rattle.x25_line.proofs.Frames.{Carries, Tops, Acks, slice_get-is, Tops-le, Tops-weaken, Tops-higher, Tops-grow, Tops-push, Tops-remove, Acks-le}
use Rattle.x25_line.proofs.{Frames.{Acks-higher, Acks-push, Acks-remove}, Names.{frames_of, numbered, HandDown, Send, Tell, Hear, Take, Line, line_swapped}}
use Rattle.x25_line.specs.laws.InWindow.{IsSentInWindow, IsNear, AllInWindow, Rising, WayInWindow, InWindow}
use Rattle.x25_line.specs.laws.Line.{Move, MayTake, FrontMayBeTaken, AllowsMove, takes_item, front_arrived, moved}
use Rattle.x25_line.specs.laws.Line.Move.{HandsDown, Sends, Tells, Arrives, Loses}

-- the number stands for itself
pub resolved_is : (a n : ℕ) → a ≤ n → n < a + 8 → resolved a (n % 8) ≡ n
resolved_is a n low high = omega arith

-- in the window only the wanted number has the wanted residue
same_in_window : (r n : ℕ) → n % 8 ≡ r % 8 → r ≤ n + 7 → n < r + 8 → n ≡ r
same_in_window r n e low high = omega arith

module _ {T : Type 0} where
  -- One direction: the end that gives, what the other has taken and how much of that its last N(R) acknowledges, the line there and the
  -- line back. The end that takes may acknowledge late, and the one that gives may leave gaps.
  pub record Way (g : End T) (taken : List T) (told : ℕ) (there back : List (Frame T)) : Type 0 where
    pub high : g.window ≤ 7
    pub room : g.sent ≤ g.acked + g.window
    pub held : g.sent ≤ length g.given
    pub acks : Acks g.acked back told
    pub late : told ≤ length taken
    pub tops : Tops g.given (length taken) there g.sent
    pub begins : taken ≡ take (length taken) g.given

  -- both directions, with the last N(R) of each end
  pub record BothWays (near far : End T) (near_told far_told : ℕ) (out back : List (Frame T)) : Type 0 where
    pub from_near : Way near far.taken far_told out back
    pub from_far : Way far near.taken near_told back out

  -- each end acknowledges all that it took
  abbrev pub Kept : Line T → Type 0
  Kept w = BothWays w.near w.far (length w.near.taken) (length w.far.taken) w.out w.back

  -- both ways, as the other end has them
  pub Kept-swapped : {w : Line T} → Kept w → Kept (line_swapped w)
  Kept-swapped h = record { from_near = h.from_far; from_far = h.from_near }

  pub Way-hand : {g : End T} {taken : List T} {told : ℕ} {there back : List (Frame T)} (x : T) → Way g taken told there back
      → Way (after g (HandDown x)) taken told there back
  Way-hand {g} {taken} {there = there} x h =
      let le = Tops-le g.given (length taken) there h.tops in
      let n = length_push g.given x in
      let held = h.held in
      record {
        high = h.high;
        room = h.room;
        held = omega arith;
        acks = h.acks;
        late = h.late;
        tops = Tops-grow g.given (x ∷ []) (length taken) there h.held h.tops;
        begins = h.begins ∙ sym (grind (arith, common_steps));
      }

  -- the giver sends an item: one that it was handed down, in its window
  pub Way-send : {g : End T} {taken : List T} {told : ℕ} {there back : List (Frame T)} (n ack : ℕ) (c : Option (Numbered T)) → n < length g.given → n < g.acked
      + g.window
      → Carries g.given (max g.sent (n + 1)) c → Way g taken told there back
      → Way (after g (Send n)) taken told (there ++ record { carried = c; ack = ack; top = max g.sent (n + 1) } ∷ []) back
  Way-send {g} {taken} {there = there} n ack c within inside carries h =
      let high = h.high in
      let room = h.room in
      let held = h.held in
      record {
        high = h.high;
        room = omega arith;
        held = omega arith;
        acks = h.acks;
        late = h.late;
        tops = Tops-push g.given (length taken) there (record { carried = c; ack = ack; top = max g.sent (n + 1) }) carries
            (Tops-higher g.given (length taken) there (max g.sent (n + 1)) (omega arith) h.tops);
        begins = h.begins;
      }

  pub Way-tell : {g : End T} {taken : List T} {told : ℕ} {there back : List (Frame T)} (ack : ℕ) → Way g taken told there back
      → Way g taken told (there ++ record { carried = None; ack = ack; top = g.sent } ∷ []) back
  Way-tell {g} {taken} {there = there} ack h =
      record {
        high = h.high;
        room = h.room;
        held = h.held;
        acks = h.acks;
        late = h.late;
        tops = Tops-push g.given (length taken) there (record { carried = None; ack = ack; top = g.sent }) tt h.tops;
        begins = h.begins;
      }

  -- the taker sends a frame, by which it acknowledges so many
  pub Way-told : {g : End T} {taken : List T} {told : ℕ} {there back : List (Frame T)} (t : ℕ) (c : Option (Numbered T)) (top : ℕ) → told ≤ t → t
      ≤ length taken → Way g taken told there back
      → Way g taken t there (back ++ record { carried = c; ack = t; top = top } ∷ [])
  Way-told {g} {told = told} {back = back} t c top rising few h =
      record {
        high = h.high;
        room = h.room;
        held = h.held;
        acks = Acks-push g.acked back (record { carried = c; ack = t; top = top }) (Acks-higher g.acked back t rising h.acks);
        late = few;
        tops = h.tops;
        begins = h.begins;
      }

  -- it may acknowledge more
  pub Way-raise : {g : End T} {taken : List T} {told : ℕ} (t : ℕ) {there back : List (Frame T)} → told ≤ t → t ≤ length taken → Way g taken told there back
      → Way g taken t there back
  Way-raise {g} {told = told} t {back = back} rising few h =
      record { high = h.high; room = h.room; held = h.held; acks = Acks-higher g.acked back t rising h.acks; late = few; tops = h.tops; begins = h.begins }

  -- an N(R) that arrives stands for the number that it carries
  pub hears_valid : {g : End T} {taken : List T} {told : ℕ} {there : List (Frame T)} (back : List (Frame T)) (f : Frame T) → Way g taken told there (f ∷ back)
      → (resolved g.acked (f.ack % 8) ≡ f.ack) × (g.acked ≤ f.ack) × (f.ack ≤ g.sent)
  hears_valid {g} {taken} {told} {there} back f h =
      let ack_le = Acks-le f.ack back h.acks.1 in
      let sent_le = Tops-le g.given (length taken) there h.tops in
      let late = h.late in
      let low = h.acks.0 in
      let room = h.room in
      let high = h.high in
      (resolved_is g.acked f.ack low (omega arith), low, omega arith)

  pub Way-hears : {g : End T} {taken : List T} {told : ℕ} {there : List (Frame T)} (back : List (Frame T)) (f : Frame T) → Way g taken told there (f ∷ back)
      → Way (after g (Hear (f.ack % 8))) taken told there back
  Way-hears {g} {taken} {told} {there} back f h =
      let valid = hears_valid back f h in
      rw valid.0 (record { high = h.high; room = omega arith; held = h.held; acks = h.acks.1; late = h.late; tops = h.tops; begins = h.begins })

  -- a frame of the taker is lost, or passed over
  pub Way-unheard : {g : End T} {taken : List T} {told : ℕ} {there back : List (Frame T)} (i : ℕ) → Way g taken told there back
      → Way g taken told there (remove back i)
  Way-unheard {g} {told = told} {back = back} i h =
      record { high = h.high; room = h.room; held = h.held; acks = Acks-remove g.acked back told i h.acks; late = h.late; tops = h.tops; begins = h.begins }

  -- one of the giver is
  pub Way-passed : {g : End T} {taken : List T} {told : ℕ} {there back : List (Frame T)} (i : ℕ) → Way g taken told there back
      → Way g taken told (remove there i) back
  Way-passed {g} {taken} {there = there} i h =
      record {
        high = h.high;
        room = h.room;
        held = h.held;
        acks = h.acks;
        late = h.late;
        tops = Tops-remove g.given (length taken) there i g.sent h.tops;
        begins = h.begins;
      }

  -- the item of the front frame is taken: it is the next
  pub Way-takes : {g : End T} {taken : List T} {told : ℕ} (there : List (Frame T)) {back : List (Frame T)} (f : Frame T) (c : Numbered T)
      → Carries g.given f.top (Some c) → c.number % 8 ≡ length taken % 8
      → Way g taken told (f ∷ there) back → Way g (taken ++ c.item ∷ []) told there back
  Way-takes {g} {taken} {told} there {back} f c good same h =
      let n = length_push taken c.item in
      let low = h.tops.0 in
      let room = h.room in
      let high = h.high in
      let late = h.late in
      let acked_le = Acks-le g.acked back h.acks in
      let top_le = Tops-le g.given f.top there h.tops.2 in
      let is : c.number ≡ length taken = same_in_window (length taken) c.number same (omega arith) (omega arith) in
      record {
        high = h.high;
        room = h.room;
        held = h.held;
        acks = h.acks;
        late = omega arith;
        tops = Tops-weaken g.given (length (taken ++ c.item ∷ [])) there g.sent (omega arith) h.tops.2;
        begins = rw n (ap (λ xs. xs ++ c.item ∷ []) h.begins
            ∙ sym (take_more g.given (length taken) c.item (slice_get_within g.given (length taken) c.item (rw is at good.2))
            ∙ ap (λ y. take (length taken) g.given ++ y ∷ []) (get_or_from_slice_get g.given (length taken) c.item c.item (rw is at good.2))));
      }

  -- what arrives is taken only where it is the next, and all that is taken may be acknowledged
  Way-arrives : (g e : End T) (f : Frame T) (there back : List (Frame T)) (takes : Bool) → MayTake takes (length e.taken) f.carried
      → Way g e.taken (length e.taken) (f ∷ there) back → Way g (takes_item takes f.carried e).taken (length (takes_item takes f.carried e).taken) there back
  Way-arrives g e f there back takes ok h = go takes f.carried ok h.tops.1
    where
      go : (b : Bool) (c : Option (Numbered T)) → MayTake b (length e.taken) c → Carries g.given f.top c
          → Way g (takes_item b c e).taken (length (takes_item b c e).taken) there back
      go true (Some c) same good =
          let n = length_push e.taken c.item in
          Way-raise (length (e.taken ++ c.item ∷ [])) (omega arith) (omega arith)
          (Way-takes there f c good same h)
      go true None same good = Way-passed 0 h
      go false c same good = Way-passed 0 h

  -- what an end takes changes nothing of what it gives
  pub Way-giver : {g : End T} {taken : List T} {told : ℕ} {there back : List (Frame T)} (n : ℕ) (x : T) → Way g taken told there back
      → Way (after g (Take n x)) taken told there back
  Way-giver n x h = record { high = h.high; room = h.room; held = h.held; acks = h.acks; late = h.late; tops = h.tops; begins = h.begins }

  Way-taker : (takes : Bool) (c : Option (Numbered T)) {g : End T} {taken : List T} {told : ℕ} {there back : List (Frame T)} → Way g taken told there back
      → Way (takes_item takes c g) taken told there back
  Way-taker true (Some c) {g} {taken} {told} {there} {back} h = Way-giver (c.number % 8) c.item h
  Way-taker true None h = h
  Way-taker false c h = h

  Kept-arrives : (near far : End T) (out bs : List (Frame T)) (takes : Bool) → FrontMayBeTaken takes (length near.taken) bs
      → Kept (record { near = near; far = far; out = out; back = bs }) → Kept (front_arrived takes bs (record { near = near; far = far; out = out; back = bs }))
  Kept-arrives near far out [] takes ok h = h
  Kept-arrives near far out (f ∷ fs) takes ok h =
      record {
        from_near = Way-taker takes f.carried (Way-hears fs f h.from_near);
        from_far = Way-arrives far (after near (Hear (f.ack % 8))) f fs out takes ok h.from_far;
      }

  -- an end that acknowledges all that it took sends
  pub item-sent : {g far : End T} {told : ℕ} {out back : List (Frame T)} (n : ℕ) → Allows g (Send n) → BothWays g far (length g.taken) told out back
      → BothWays (after g (Send n)) far (length g.taken) told (out ++ frames_of g (Send n)) back
  item-sent {g} {far} {told} {out} {back} n ok h =
      let way = h.from_near in
      let c : Option (Numbered T) = numbered n (slice_get g.given n) in
      record {
        from_near = Way-send n (length g.taken) c ok.3 ok.2 (let item = slice_get-is g.given n ok.3 in rw item.1 (omega arith, omega arith, item.1)) way;
        from_far = Way-told (length g.taken) c (max g.sent (n + 1)) (omega arith) (omega arith) h.from_far;
      }

  pub told-sent : {g far : End T} {told : ℕ} {out back : List (Frame T)} → BothWays g far (length g.taken) told out back
      → BothWays g far (length g.taken) told (out ++ frames_of g Tell) back
  told-sent {g} {far} {told} {out} {back} h =
      record {
        from_near = Way-tell (length g.taken) h.from_near;
        from_far = Way-told (length g.taken) None g.sent (omega arith) (omega arith) h.from_far;
      }

  -- what is kept of both ways stays so by each move that the window machine allows
  pub Kept-moved : (m : Move T) {w : Line T} → AllowsMove w m → Kept w → Kept (moved m w)
  Kept-moved (HandsDown x) {w} ok h = rw (append-nil w.out) (record { from_near = Way-hand x h.from_near; from_far = h.from_far })
  Kept-moved (Sends n) {w} ok h = item-sent n ok h
  Kept-moved Tells {w} ok h = told-sent h
  Kept-moved (Arrives takes) {w} ok h = Kept-arrives w.near w.far w.out w.back takes ok h
  Kept-moved (Loses i) {w} ok h =
      record {
        from_near = Way-unheard i h.from_near;
        from_far = Way-passed i h.from_far;
      }

  -- ---- what is kept says that the window holds

  -- what is acknowledged was taken, and what was taken was sent
  pub Way-acked : {g : End T} {taken : List T} {told : ℕ} {there back : List (Frame T)} → Way g taken told there back → (g.acked ≤ length taken)
      × (length taken ≤ g.sent)
  Way-acked {g} {taken} {told} {there} {back} h =
      let low = Acks-le g.acked back h.acks in
      let late = h.late in
      (omega arith, Tops-le g.given (length taken) there h.tops)

  Rising-from_Acks : (low : ℕ) (fs : List (Frame T)) {high : ℕ} (m : ℕ) → high ≤ m → Acks low fs high → Rising low fs m
  Rising-from_Acks low [] m le h = omega arith
  Rising-from_Acks low (f ∷ fs) {high} m le h = (h.0, Rising-from_Acks f.ack fs m le h.1)

  IsSentInWindow-from_Carries : (xs : List T) (top : ℕ) (c : Option (Numbered T)) → Carries xs top c → IsSentInWindow top c
  IsSentInWindow-from_Carries xs top None h = tt
  IsSentInWindow-from_Carries xs top (Some c) h = (h.0, h.1)

  IsNear-from_Carries : (xs : List T) (r top sent : ℕ) (c : Option (Numbered T)) → r ≤ top → top ≤ sent → sent ≤ r + 7 → Carries xs top c → IsNear r c
  IsNear-from_Carries xs r top sent None _ _ _ h = tt
  IsNear-from_Carries xs r top sent (Some c) low high room h = (omega arith, omega arith, λ same. same_in_window r c.number same (omega arith) (omega arith))

  AllInWindow-from_Tops : (xs : List T) (r low : ℕ) (fs : List (Frame T)) {sent : ℕ} → r ≤ low → sent ≤ r + 7 → Tops xs low fs sent → AllInWindow r fs
  AllInWindow-from_Tops xs r low [] le room h = tt
  AllInWindow-from_Tops xs r low (f ∷ fs) {sent} le room h =
      let above : r ≤ f.top = omega arith in (
        IsSentInWindow-from_Carries xs f.top f.carried h.1,
        above,
        IsNear-from_Carries xs r f.top sent f.carried above (Tops-le xs f.top fs h.2) room h.1,
        AllInWindow-from_Tops xs r f.top fs above room h.2,
      )

  WayInWindow-from_Way : {g : End T} (t : End T) {there back : List (Frame T)} → Way g t.taken (length t.taken) there back → WayInWindow g t there back
  WayInWindow-from_Way {g} t {there} {back} h =
      let bounds = Way-acked h in
      let room = h.room in
      let high = h.high in
      let held = h.held in
      record {
        acked = bounds.0;
        taken = bounds.1;
        room = h.room;
        frames = AllInWindow-from_Tops g.given (length t.taken) (length t.taken) there (omega arith) (omega arith) h.tops;
        acks = Rising-from_Acks g.acked back g.sent bounds.1 h.acks;
        begins = (drop (length t.taken) g.given, grind (arith, h.begins, take-append-drop (length t.taken) g.given));
        all = λ e. h.begins ∙ take_all (length t.taken) g.given (omega arith);
      }

  pub InWindow-from_Kept : (w : Line T) → Kept w → InWindow w
  InWindow-from_Kept w h =
      record {
        there = WayInWindow-from_Way w.far h.from_near;
        back = WayInWindow-from_Way w.near h.from_far;
      }

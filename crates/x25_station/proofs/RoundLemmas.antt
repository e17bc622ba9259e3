-- The rounds of pulls, packet by packet, over the link.
use Rattle.x25_station.proofs.Names.{◌≡◌, ℕ, zero, suc, ◌+◌, ◌-◌, ◌<◌, ◌≤◌, List, [], ◌∷◌, ◌++◌, length, length-append, Option, Some, None, Bool, true, false}
use Rattle.x25_station.proofs.Names.{nat_lt, ◌==◌, if◌then◌else◌, option_to_list, refl, sym, ap, subst, ◌∙◌, arith, lt-ltb, ltb-true, layer_pulled}
use Rattle.x25_station.proofs.Names.{LayerSettings, spelled, FitsLayer, LinkView, Putting, with_pulled, pull_one, round, rounds, Lists, ShownLink, LinkState}
use Rattle.x25_station.proofs.Names.{◌⊎◌, inl, inr}
use Rattle.x25_layer.specs.laws.Rounds.{at_turn, ended, rest_of_round, turn_behind, whole_rounds}
use Rattle.x25_station.proofs.Names.{FitsWhole, waiting_of, waits_of, after_put_to, link_waits, PlainPacket, spelling_of, after_all, seen_at}
use Rattle.x25_layer.specs.{code.Answering.{GivesNext, GivesNone}, code.Pulling.{IsPut}, laws.RoundLaw.{RoundsGoOn, RoundsEnd}}
use Rattle.x25_link.specs.{code.FitsLink.{lists_in}, laws.LinkLaws.{handed_down, put_adds, link_close}}
use Rattle.x25_station.specs.code.OverLink.{after_octets}
use Rattle.x25_layer.specs.declared.layer.Layer as layer_code

-- ---- what is put

-- each packet has octets
pub spelled_some : (p : PlainPacket) → spelling_of p ≡ [] → ⊥
spelled_some p none = by p none
  where
    by : (q : PlainPacket) → spelling_of q ≡ [] → ⊥
    by q is = cc

pub octets_put : (x : LinkState) (octets : List ℕ) → (octets ≡ [] → ⊥) → after_octets x octets ≡ after_put_to x octets
octets_put x [] some = absurd (some refl)
octets_put x (octet ∷ octets) some = refl

pub not_empty : (octets : List ℕ) → (length octets == 0) ≡ false → octets ≡ [] → ⊥
not_empty [] is none = absurd (cc)
not_empty (octet ∷ octets) is none = absurd (cc)

pub packet_put : (x : LinkState) (p : PlainPacket) (octets : List ℕ) → octets ≡ spelling_of p → after_octets x octets ≡ after_put_to x (spelling_of p)
packet_put x p octets is = octets_put x octets (λ none. spelled_some p (sym is ∙ none)) ∙ ap (after_put_to x) is

pub all_spelled : (x : LinkState) (packet : Option PlainPacket) (octets : List ℕ) → octets ≡ spelled packet → after_octets x octets
    ≡ after_all x (option_to_list packet)
all_spelled x None octets is = ap (after_octets x) is
all_spelled x (Some p) octets is = packet_put x p octets is

after_more : (x : LinkState) (put : List PlainPacket) (packet : PlainPacket) → after_all x (put ++ packet ∷ [])
    ≡ after_put_to (after_all x put) (spelling_of packet)
after_more x [] packet = refl
after_more x (p ∷ put) packet = after_more (after_put_to x (spelling_of p)) put packet

-- ---- a round, channel by channel

pub one_none : (link : LinkView) (c : LayerSettings) (h : ℕ) (t : Putting) → (layer_pulled c t.layer h).packet ≡ None → pull_one link c h t ≡ t
one_none link c h t none = room (nat_lt (link.waits t.put) 8)
  where
    room : (b : Bool) → (if b then with_pulled h t (layer_pulled c t.layer h) (layer_pulled c t.layer h).packet else t) ≡ t
    room true = ap (λ (o : Option PlainPacket). with_pulled h t (layer_pulled c t.layer h) o) none
    room false = refl

pub one_shut : (link : LinkView) (c : LayerSettings) (h : ℕ) (t : Putting) → nat_lt (link.waits t.put) 8 ≡ false → pull_one link c h t ≡ t
one_shut link c h t shut = ap (λ (b : Bool). if b then with_pulled h t (layer_pulled c t.layer h) (layer_pulled c t.layer h).packet else t) shut

-- behind these channels nothing more comes of a round
round_past : (link : LinkView) (c : LayerSettings) (b m n : ℕ) (u : Putting)
    → ((k : ℕ) → n < k → k ≤ m + n → pull_one link c (b + k) (round link c b n u) ≡ round link c b n u) → round link c b (m + n) u ≡ round link c b n u
round_past link c b zero n u none = let same : zero + n ≡ n = omega arith in ap (λ (k : ℕ). round link c b k u) same
round_past link c b (suc m) n u none =
    let next : suc m + n ≡ suc (m + n) = omega arith in
    ap (λ (k : ℕ). round link c b k u) next
    ∙ ap (λ (t : Putting). pull_one link c (b + suc (m + n)) t) (round_past link c b m n u (λ k more less. none k more (omega (arith, less))))
    ∙ none (suc (m + n)) (omega arith) (omega arith)

pub round_to : (link : LinkView) (c : LayerSettings) (b n k : ℕ) (u : Putting) → n ≤ k
    → ((i : ℕ) → n < i → i ≤ k → pull_one link c (b + i) (round link c b n u) ≡ round link c b n u) → round link c b k u ≡ round link c b n u
round_to link c b n k u low none =
    let behind : k ≡ (k - n) + n = omega (arith, low) in
    ap (λ (i : ℕ). round link c b i u) behind ∙ round_past link c b (k - n) n u (λ i more less. none i more (omega (arith, less, low)))

-- ---- the rounds so far

-- Some rounds led to this step, and of the next one, which began behind some channel, the channels up to that one are
-- done; so many packets may follow.
pub record Within (c : LayerSettings) (x : LinkState) (turn : ℕ) (s : Putting) (v : layer_code.Layer) (m : ShownLink) (channel left : ℕ) : Type 0 where
  pub from : Putting
  pub begun : ℕ
  pub done : ℕ
  pub at : channel ≡ begun + done
  pub low : done ≤ c.channels.count - begun
  pub leads : whole_rounds (seen_at turn x) c (round (seen_at turn x) c begun (c.channels.count - begun) from)
      ≡ whole_rounds (seen_at turn x) c (rest_of_round (seen_at turn x) c s)
  pub layer : FitsLayer c v (round (seen_at turn x) c begun done from).layer
  pub link : FitsWhole m (after_all x (round (seen_at turn x) c begun done from).put)
  pub enough : (lists_in (after_all x (round (seen_at turn x) c begun done from).put)).acked + 15
      ≤ length (lists_in (after_all x (round (seen_at turn x) c begun done from).put)).given + left
  pub turned : (channel ≡ (round (seen_at turn x) c begun done from).turn)
      ⊎ (waits_of (after_all x (round (seen_at turn x) c begun done from).put) < 8)

-- where the rounds are
abbrev pub here_in : {c : LayerSettings} {x : LinkState} {turn : ℕ} {s : Putting} {v : layer_code.Layer} {m : ShownLink} {channel left : ℕ}
    → Within c x turn s v m channel left → Putting
here_in {c} {x} {turn} w = round (seen_at turn x) c w.begun w.done w.from

pub begins : (c : LayerSettings) (x : LinkState) (turn : ℕ) (s : Putting) (v : layer_code.Layer) (m : ShownLink) → FitsLayer c v s.layer
    → FitsWhole m (after_all x s.put) → (lists_in (after_all x s.put)).acked ≤ length (lists_in (after_all x s.put)).given
    → Within c x turn s v m turn 15
begins c x turn s v m fits link low = record {
  from = at_turn turn s;
  begun = turn;
  done = 0;
  at = omega arith;
  low = omega arith;
  leads = refl;
  layer = fits;
  link = link;
  enough = omega (arith, low);
  turned = inl refl;
}

-- what is left of a round gives nothing
rest_none : (view : LinkView) (c : LayerSettings) (b n : ℕ) (u : Putting) → n ≤ c.channels.count - b
    → ((k : ℕ) → b + n < k → k ≤ c.channels.count → pull_one view c k (round view c b n u) ≡ round view c b n u)
    → round view c b (c.channels.count - b) u ≡ round view c b n u
rest_none view c b n u low none =
    round_to view c b n (c.channels.count - b) u low (λ i more high. none (b + i) (omega (arith, more)) (omega (arith, more, high)))

-- a round that gives no more leads to the next one
pub next_round : RoundsGoOn → (c : LayerSettings) (x : LinkState) (turn : ℕ) (s : Putting) (v v₂ : layer_code.Layer) (m : ShownLink) (channel left : ℕ)
    → (w : Within c x turn s v m channel left) → waits_of (after_all x (here_in w).put) < 8 → GivesNone c (here_in w).layer v₂ channel
    → Within c x turn s v₂ m 0 left
next_round on c x turn s v v₂ m channel left w room none =
    let view : LinkView = seen_at turn x in
    let t : Putting = here_in w in
    let place = w.at in
    let all : round view c w.begun (c.channels.count - w.begun) w.from ≡ t =
    rest_none view c w.begun w.done w.from w.low (λ k more high. one_none view c k t (none.between k (omega (arith, more, place)) high)) in
    let whole : c.channels.count - 0 ≡ c.channels.count = omega arith in
    record {
      from = t;
      begun = 0;
      done = 0;
      at = omega arith;
      low = omega arith;
      leads = ap (λ (n : ℕ). whole_rounds view c (round view c 0 n t)) whole ∙ on view c t ∙ ap (λ (u : Putting). whole_rounds view c u) (sym all) ∙ w.leads;
      layer = none.layer;
      link = w.link;
      enough = w.enough;
      turned = inr room;
    }

-- all rounds lead here
leads_here : RoundsEnd → (c : LayerSettings) (x : LinkState) (turn : ℕ) (s : Putting) (v : layer_code.Layer) (m : ShownLink) (channel left : ℕ)
    → (w : Within c x turn s v m channel left)
    → ((k : ℕ) → 1 ≤ k → k ≤ c.channels.count → pull_one (seen_at turn x) c k (here_in w) ≡ here_in w)
    → rounds (seen_at turn x) c s ≡ ended (seen_at turn x) (here_in w)
leads_here end c x turn s v m channel left w none =
    let view : LinkView = seen_at turn x in
    let t : Putting = here_in w in
    let all : round view c w.begun (c.channels.count - w.begun) w.from ≡ t =
    rest_none view c w.begun w.done w.from w.low (λ k more high. none k (omega (arith, more)) high) in
    let again : round view c 0 c.channels.count t ≡ t =
    round_to view c 0 0 c.channels.count t (omega arith) (λ i more high. none (0 + i) (omega (arith, more)) (omega (arith, high))) in
    ap (λ (u : Putting). ended view u) (sym w.leads ∙ ap (λ (u : Putting). whole_rounds view c u) all ∙ end view c t again)

-- a round that gives none at all is the end
pub ends_here : RoundsEnd → (c : LayerSettings) (x : LinkState) (turn : ℕ) (s : Putting) (v v₂ : layer_code.Layer) (m : ShownLink) (channel left : ℕ)
    → channel ≡ 0 → (w : Within c x turn s v m channel left) → GivesNone c (here_in w).layer v₂ channel
    → rounds (seen_at turn x) c s ≡ ended (seen_at turn x) (here_in w)
ends_here end c x turn s v v₂ m channel left first w none =
    leads_here end c x turn s v m channel left w
    (λ k some high. one_none (seen_at turn x) c k (here_in w) (none.between k (omega (arith, some, first)) high))

-- and so is a link that takes no more
pub ends_shut : RoundsEnd → (c : LayerSettings) (x : LinkState) (turn : ℕ) (s : Putting) (v : layer_code.Layer) (m : ShownLink) (channel left : ℕ)
    → (w : Within c x turn s v m channel left) → nat_lt (waits_of (after_all x (here_in w).put)) 8 ≡ false
    → rounds (seen_at turn x) c s ≡ ended (seen_at turn x) (here_in w)
ends_shut end c x turn s v m channel left w shut =
    leads_here end c x turn s v m channel left w (λ k some high. one_shut (seen_at turn x) c k (here_in w) shut)

-- whose turn it is then

pub turn_here : (c : LayerSettings) (x : LinkState) (turn : ℕ) (s t : Putting) → rounds (seen_at turn x) c s ≡ ended (seen_at turn x) t
    → waits_of (after_all x t.put) < 8 → 0 ≡ (rounds (seen_at turn x) c s).turn
turn_here c x turn s t is room =
    sym (ap (λ (u : Putting). u.turn) is ∙ ap (λ (b : Bool). if b then 0 else t.turn) (lt-ltb (waits_of (after_all x t.put)) 8 room))

pub turn_shut : (c : LayerSettings) (x : LinkState) (turn : ℕ) (s : Putting) (v : layer_code.Layer) (m : ShownLink) (channel left : ℕ)
    → (w : Within c x turn s v m channel left) → rounds (seen_at turn x) c s ≡ ended (seen_at turn x) (here_in w)
    → nat_lt (waits_of (after_all x (here_in w).put)) 8 ≡ false → channel ≡ (rounds (seen_at turn x) c s).turn
turn_shut c x turn s v m channel left w is shut =
    by w.turned ∙ sym (ap (λ (u : Putting). u.turn) is ∙ ap (λ (b : Bool). if b then 0 else (here_in w).turn) shut)
  where
    by : (channel ≡ (here_in w).turn) ⊎ (waits_of (after_all x (here_in w).put) < 8) → channel ≡ (here_in w).turn
    by (inl same) = same
    by (inr room) = absurd (differ (sym shut ∙ lt-ltb (waits_of (after_all x (here_in w).put)) 8 room))
      where
        differ : false ≡ true → ⊥
        differ e = cc

-- one packet more
pub one_more : (c : LayerSettings) (x : LinkState) (turn : ℕ) (s : Putting) (v v₂ : layer_code.Layer) (m m₂ : ShownLink) (channel next left left₂ : ℕ)
    → channel < next → left ≡ left₂ + 1 → (w : Within c x turn s v m channel left) → waits_of (after_all x (here_in w).put) < 8
    → GivesNext c (here_in w).layer v₂ channel next
    → ((y : LinkState) → FitsWhole m y → FitsWhole m₂ (after_put_to y v₂.sheet)) → Within c x turn s v₂ m₂ next left₂
one_more c x turn s v v₂ m m₂ channel next left left₂ more fewer w room gives put =
    by (layer_pulled c t.layer k).packet refl given.put
  where
    view : LinkView
    view = seen_at turn x

    t : Putting
    t = here_in w

    -- the channels between give nothing
    d : ℕ
    d = next - w.begun - 1

    k : ℕ
    k = w.begun + suc d

    same : next ≡ k
    same = let place = w.at in omega (arith, more, place)

    given : GivesNext c t.layer v₂ channel k
    given = subst (λ (i : ℕ). GivesNext c t.layer v₂ channel i) same gives

    before : round view c w.begun d w.from ≡ t
    before = round_to view c w.begun w.done d w.from (let place = w.at in omega (arith, more, place))
        (λ i high low. one_none view c (w.begun + i) t (given.between (w.begun + i) (let place = w.at in omega (arith, high, place)) (omega (arith, low))))

    by : (o : Option PlainPacket) → (layer_pulled c t.layer k).packet ≡ o → IsPut true v₂.sheet o → Within c x turn s v₂ m₂ next left₂
    by None is octets = absurd octets
    by (Some p) is octets =
        let after : Putting = record { layer = (layer_pulled c t.layer k).next; put = t.put ++ p ∷ []; turn = k } in
        let here : round view c w.begun (suc d) w.from ≡ after =
        ap (λ (u : Putting). pull_one view c k u) before
        ∙ ap (λ (b : Bool). if b then with_pulled k t (layer_pulled c t.layer k) (layer_pulled c t.layer k).packet else t) (lt-ltb (view.waits t.put) 8 room)
        ∙ ap (λ (o : Option PlainPacket). with_pulled k t (layer_pulled c t.layer k) o) is in
        let y : LinkState = after_all x t.put in
        let added : lists_in (after_all x after.put) ≡ handed_down (lists_in y) (spelling_of p) =
        ap lists_in (after_more x t.put p) ∙ put_adds y (spelling_of p) in
        let given_more : length (lists_in (after_all x after.put)).given ≡ length (lists_in y).given + 1 =
        ap (λ (l : Lists). length l.given) added ∙ length-append (lists_in y).given (spelling_of p ∷ []) in
        let acked : (lists_in (after_all x after.put)).acked ≡ (lists_in y).acked = ap (λ (l : Lists). l.acked) added in
        let enough = w.enough in
        record {
          from = w.from;
          begun = w.begun;
          done = suc d;
          at = same;
          low = let high = given.configured in omega (arith, high);
          leads = w.leads;
          layer = subst (λ (u : Putting). FitsLayer c v₂ u.layer) (sym here) given.layer;
          link = subst (λ (u : Putting). FitsWhole m₂ (after_all x u.put)) (sym here)
              (subst (λ (z : LinkState). FitsWhole m₂ z) (ap (after_put_to y) octets ∙ sym (after_more x t.put p)) (put y w.link));
          enough = subst (λ (u : Putting). (lists_in (after_all x u.put)).acked + 15 ≤ length (lists_in (after_all x u.put)).given + left₂) (sym here)
              (omega (arith, enough, given_more, acked, fewer));
          turned = inl (same ∙ sym (ap (λ (u : Putting). u.turn) here));
        }

-- ---- how many wait

pub room_when : (v : ShownLink) (y : LinkState) (n : ℕ) → FitsWhole v y → n ≡ waiting_of v → n < 8 → waits_of y < 8
room_when v y n fits is low = let same = link_waits v y fits in omega (arith, is, low, same)

shut_at : (n : ℕ) → 8 ≤ n → nat_lt n 8 ≡ false
shut_at n high = test (nat_lt n 8) refl
  where
    test : (b : Bool) → nat_lt n 8 ≡ b → b ≡ false
    test true is = let low = ltb-true n 8 is in absurd (omega (arith, low, high))
    test false is = refl

pub shut_when : (v : ShownLink) (y : LinkState) (n : ℕ) → FitsWhole v y → n ≡ waiting_of v → 8 ≤ n → nat_lt (waits_of y) 8 ≡ false
shut_when v y n fits is high = let same = link_waits v y fits in shut_at (waits_of y) (omega (arith, is, high, same))

-- as many as may be unacknowledged were put
pub shut_after : (v : ShownLink) (y : LinkState) (left : ℕ) → FitsWhole v y → left ≡ 0 → (lists_in y).acked + 15 ≤ length (lists_in y).given + left
    → nat_lt (waits_of y) 8 ≡ false
shut_after v y left fits none enough = let close = link_close v y fits in shut_at (waits_of y) (omega (arith, none, enough, close))

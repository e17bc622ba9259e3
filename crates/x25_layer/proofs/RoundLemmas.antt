-- The rounds of a step are pulls of configured channels, one after another.
use Rattle.x25_layer.proofs.Names.{◌≡◌, ℕ, zero, suc, ◌+◌, ◌-◌, ◌≤◌, List, [], ◌∷◌, ◌++◌, Option, Some, None, Bool, true, false, nat_lt, ◌==◌, if◌then◌else◌}
use Rattle.x25_layer.proofs.Names.{option_to_list, refl, sym, ap, subst, ◌∙◌, append_assoc, arith, PlainPacket, Ranges, LayerSettings, Layer, LayerAnswer}
use Rattle.x25_layer.proofs.Names.{is_channel, layer_answers, LayerOutcome, Accepted, Declined, layer_outcome, layer_pulled, LinkView, Putting, begin}
use Rattle.x25_layer.proofs.Names.{with_pulled, pull_one, round, rounds_of, rounds, backlog, LayerError, TwoLayers, Move, Requests, Pulls, HandsUp, requested}
use Rattle.x25_layer.proofs.{LayerLemmas.{is_between}, Names.{pulled_in, handed_up, moves_in, answer_to, Went, Refuses, went, answered, moves}}
use Rattle.x25_layer.{proofs.RowLemmas.{append_nil}, specs.laws.RoundLaw.{moves_all, pulls_of, AreChannels, IsRun, CallsRun, HearsRun}}
use Rattle.x25_layer.specs.laws.Rounds.{Answered, heard, at_turn, turn_behind, whole_rounds, rest_of_round}
use Rattle.x25_layer.specs.declared.error.LayerError.TheVariants as error

-- the pulls that lead from s to s₂, at an end that stands as s
record Pulled (c : LayerSettings) (w : TwoLayers) (s s₂ : Putting) : Type 0 where
  channels : List ℕ
  are : AreChannels c.channels channels
  more : List PlainPacket
  put : s₂.put ≡ s.put ++ more
  layer : (moves_all c w (pulls_of channels)).near.layer ≡ s₂.layer
  given : (moves_all c w (pulls_of channels)).near.given ≡ w.near.given ++ more
  out : (moves_all c w (pulls_of channels)).out ≡ w.out ++ more
  back : (moves_all c w (pulls_of channels)).back ≡ w.back
  up : (moves_all c w (pulls_of channels)).near.is_out ≡ false
  taken : (moves_all c w (pulls_of channels)).near.taken ≡ w.near.taken
  told : (moves_all c w (pulls_of channels)).near.told ≡ w.near.told
  entries : (moves_all c w (pulls_of channels)).near.entries ≡ w.near.entries
  far : (moves_all c w (pulls_of channels)).far ≡ w.far

pulled_nothing : (c : LayerSettings) (w : TwoLayers) (s : Putting) → w.near.layer ≡ s.layer → w.near.is_out ≡ false → Pulled c w s s
pulled_nothing c w s same up = record {
  channels = [];
  are = tt;
  more = [];
  put = sym (append_nil s.put);
  layer = same;
  given = sym (append_nil w.near.given);
  out = sym (append_nil w.out);
  back = refl;
  up = up;
  taken = refl;
  told = refl;
  entries = refl;
  far = refl;
}

all_append : (c : LayerSettings) (w : TwoLayers) (a b : List ℕ) → moves_all c w (pulls_of (a ++ b)) ≡ moves_all c (moves_all c w (pulls_of a)) (pulls_of b)
all_append c w [] b = refl
all_append c w (h ∷ a) b = all_append c (moves c w (Pulls h)) a b

channels_append : (n : Ranges) (a b : List ℕ) → AreChannels n a → AreChannels n b → AreChannels n (a ++ b)
channels_append n [] b p q = q
channels_append n (h ∷ a) b p q = (p.0, channels_append n a b p.1 q)

pulled_then : (c : LayerSettings) (w : TwoLayers) (s s₂ s₃ : Putting) → Pulled c w s s₂
    → ((v : TwoLayers) → v.near.layer ≡ s₂.layer → v.near.is_out ≡ false → Pulled c v s₂ s₃) → Pulled c w s s₃
pulled_then c w s s₂ s₃ p next =
    let v : TwoLayers = moves_all c w (pulls_of p.channels) in
    let q : Pulled c v s₂ s₃ = next v p.layer p.up in
    let all : moves_all c w (pulls_of (p.channels ++ q.channels)) ≡ moves_all c v (pulls_of q.channels) = all_append c w p.channels q.channels in
    record {
      channels = p.channels ++ q.channels;
      are = channels_append c.channels p.channels q.channels p.are q.are;
      more = p.more ++ q.more;
      put = q.put ∙ ap (λ l. l ++ q.more) p.put ∙ append_assoc s.put p.more q.more;
      layer = ap (λ (x : TwoLayers). x.near.layer) all ∙ q.layer;
      given = ap (λ (x : TwoLayers). x.near.given) all ∙ q.given ∙ ap (λ l. l ++ q.more) p.given ∙ append_assoc w.near.given p.more q.more;
      out = ap (λ (x : TwoLayers). x.out) all ∙ q.out ∙ ap (λ l. l ++ q.more) p.out ∙ append_assoc w.out p.more q.more;
      back = ap (λ (x : TwoLayers). x.back) all ∙ q.back ∙ p.back;
      up = ap (λ (x : TwoLayers). x.near.is_out) all ∙ q.up;
      taken = ap (λ (x : TwoLayers). x.near.taken) all ∙ q.taken ∙ p.taken;
      told = ap (λ (x : TwoLayers). x.near.told) all ∙ q.told ∙ p.told;
      entries = ap (λ (x : TwoLayers). x.near.entries) all ∙ q.entries ∙ p.entries;
      far = ap (λ (x : TwoLayers). x.far) all ∙ q.far ∙ p.far;
    }

-- an end that is up and pulls a configured channel
moves_pull : (c : LayerSettings) (w : TwoLayers) (h : ℕ) → w.near.is_out ≡ false → is_channel c.channels h ≡ true → moves c w (Pulls h)
    ≡ pulled_in w (layer_pulled c w.near.layer h)
moves_pull c w h up is =
    ap (λ (o : Bool). moves_in c w o (Pulls h)) up ∙ ap (λ (b : Bool). if b then pulled_in w (layer_pulled c w.near.layer h) else w) is

one_there : (c : LayerSettings) (w : TwoLayers) (h : ℕ) (put : List PlainPacket) (turn : ℕ) → w.near.is_out ≡ false → is_channel c.channels h ≡ true
    → (packet : PlainPacket) → (layer_pulled c w.near.layer h).packet ≡ Some packet
    → Pulled c w (record { layer = w.near.layer; put = put; turn = turn })
    (record { layer = (layer_pulled c w.near.layer h).next; put = put ++ packet ∷ []; turn = h })
one_there c w h put turn up is packet found =
    let all : moves c w (Pulls h) ≡ pulled_in w (layer_pulled c w.near.layer h) = moves_pull c w h up is in
    let listed : option_to_list (layer_pulled c w.near.layer h).packet ≡ packet ∷ [] = ap (λ o. option_to_list o) found in
    record {
      channels = h ∷ [];
      are = (is, tt);
      more = packet ∷ [];
      put = refl;
      layer = ap (λ (x : TwoLayers). x.near.layer) all;
      given = ap (λ (x : TwoLayers). x.near.given) all ∙ ap (λ l. w.near.given ++ l) listed;
      out = ap (λ (x : TwoLayers). x.out) all ∙ ap (λ l. w.out ++ l) listed;
      back = ap (λ (x : TwoLayers). x.back) all;
      up = ap (λ (x : TwoLayers). x.near.is_out) all;
      taken = ap (λ (x : TwoLayers). x.near.taken) all;
      told = ap (λ (x : TwoLayers). x.near.told) all;
      entries = ap (λ (x : TwoLayers). x.near.entries) all ∙ append_nil w.near.entries;
      far = ap (λ (x : TwoLayers). x.far) all;
    }

one_here : (link : LinkView) (c : LayerSettings) (w : TwoLayers) (h : ℕ) (put : List PlainPacket) (turn : ℕ) → w.near.is_out ≡ false → is_channel c.channels h ≡ true
    → Pulled c w (record { layer = w.near.layer; put = put; turn = turn }) (pull_one link c h (record { layer = w.near.layer; put = put; turn = turn }))
one_here link c w h put turn up is = room (nat_lt (link.waits put) 8)
  where
    given : (o : Option PlainPacket) → (layer_pulled c w.near.layer h).packet ≡ o
        → Pulled c w (record { layer = w.near.layer; put = put; turn = turn }) (with_pulled h (record { layer = w.near.layer; put = put; turn = turn }) (layer_pulled c w.near.layer h) o)
    given None found = pulled_nothing c w (record { layer = w.near.layer; put = put; turn = turn }) refl up
    given (Some packet) found = one_there c w h put turn up is packet found

    room : (b : Bool)
        → Pulled c w (record { layer = w.near.layer; put = put; turn = turn })
        (if b then with_pulled h (record { layer = w.near.layer; put = put; turn = turn }) (layer_pulled c w.near.layer h) (layer_pulled c w.near.layer h).packet
        else record { layer = w.near.layer; put = put; turn = turn })
    room true = given (layer_pulled c w.near.layer h).packet refl
    room false = pulled_nothing c w (record { layer = w.near.layer; put = put; turn = turn }) refl up

pulled_one : (link : LinkView) (c : LayerSettings) (w : TwoLayers) (h : ℕ) (s : Putting) → w.near.layer ≡ s.layer → w.near.is_out ≡ false
    → is_channel c.channels h ≡ true → Pulled c w s (pull_one link c h s)
pulled_one link c w h s same up is =
    subst (λ (l : Layer). Pulled c w (record { layer = l; put = s.put; turn = s.turn }) (pull_one link c h (record { layer = l; put = s.put; turn = s.turn }))) same
    (one_here link c w h s.put s.turn up is)

pulled_round : (link : LinkView) (c : LayerSettings) (b n : ℕ) → n ≤ c.channels.count - b → (w : TwoLayers) (s : Putting) → w.near.layer ≡ s.layer → w.near.is_out
    ≡ false → Pulled c w s (round link c b n s)
pulled_round link c b zero low w s same up = pulled_nothing c w s same up
pulled_round link c b (suc n) low w s same up =
    pulled_then c w s (round link c b n s) (round link c b (suc n) s)
    (pulled_round link c b n (let e : n ≤ c.channels.count - b = omega (arith, low) in e) w s same up)
    (λ v here there. pulled_one link c v (b + suc n) (round link c b n s) here there
    (is_between c.channels.count (b + suc n) (let e : 1 ≤ b + suc n = omega arith in e) (let e : b + suc n ≤ c.channels.count = omega (arith, low) in e)))

pulled_rounds : (k : ℕ) (link : LinkView) (c : LayerSettings) (w : TwoLayers) (s : Putting) → w.near.layer ≡ s.layer → w.near.is_out ≡ false
    → Pulled c w s (rounds_of k link c s)
pulled_rounds zero link c w s same up = pulled_nothing c w s same up
pulled_rounds (suc k) link c w s same up =
    pulled_then c w s (round link c 0 c.channels.count s) (rounds_of k link c (round link c 0 c.channels.count s))
    (pulled_round link c 0 c.channels.count (let e : c.channels.count ≤ c.channels.count - 0 = omega arith in e) w s same up)
    (λ v here there. pulled_rounds k link c v (round link c 0 c.channels.count s) here there)

-- whatever the turn
pulled_at : {c : LayerSettings} {w : TwoLayers} {s s₂ : Putting} (turn turn₂ : ℕ) → Pulled c w (at_turn turn s) s₂ → Pulled c w s (at_turn turn₂ s₂)
pulled_at turn turn₂ p = record {
  channels = p.channels;
  are = p.are;
  more = p.more;
  put = p.put;
  layer = p.layer;
  given = p.given;
  out = p.out;
  back = p.back;
  up = p.up;
  taken = p.taken;
  told = p.told;
  entries = p.entries;
  far = p.far;
}

pulled_all : (link : LinkView) (c : LayerSettings) (w : TwoLayers) (s : Putting) → w.near.layer ≡ s.layer → w.near.is_out ≡ false
    → Pulled c w s (rounds link c s)
pulled_all link c w s same up =
    let rest : Putting = rest_of_round link c s in
    pulled_at link.turn (turn_behind link (whole_rounds link c rest))
    (pulled_then c w (at_turn link.turn s) rest (whole_rounds link c rest)
    (pulled_round link c link.turn (c.channels.count - link.turn)
    (let e : c.channels.count - link.turn ≤ c.channels.count - link.turn = omega arith in e) w (at_turn link.turn s) same up)
    (λ v here there. pulled_rounds (backlog rest.layer.circuits c.channels.count) link c v rest here there))

-- a first move, and then the rounds
run_then : (link : LinkView) (c : LayerSettings) (w : TwoLayers) (move : Move) (first : Putting) (behind : List PlainPacket) → (moves c w move).near.layer
    ≡ first.layer → (moves c w move).near.is_out ≡ false
    → (moves c w move).near.given ≡ w.near.given ++ first.put → (moves c w move).out ≡ w.out ++ first.put → (moves c w move).back ≡ behind
    → (moves c w move).far ≡ w.far
    → (pulled : List ℕ) × AreChannels c.channels pulled × IsRun c w (move ∷ pulls_of pulled) (moves c w move) (rounds link c first) behind
run_then link c w move first behind layer up given out back far =
    let p : Pulled c (moves c w move) first (rounds link c first) =
    pulled_all link c (moves c w move) first layer up in (
      p.channels,
      p.are,
      record {
        layer = p.layer;
        given = p.given ∙ ap (λ l. l ++ p.more) given ∙ append_assoc w.near.given first.put p.more ∙ ap (λ l. w.near.given ++ l) (sym p.put);
        out = p.out ∙ ap (λ l. l ++ p.more) out ∙ append_assoc w.out first.put p.more ∙ ap (λ l. w.out ++ l) (sym p.put);
        back = p.back ∙ back;
        up = p.up;
        taken = p.taken;
        told = p.told;
        entries = p.entries;
        far = p.far ∙ far;
      },
    )

went_is : (s s₂ : Putting) → Went s ≡ Went s₂ → s ≡ s₂
went_is s s₂ e = ap (λ (a : Answered). step_in a) e
  where
    step_in : Answered → Putting
    step_in (Went x) = x
    step_in (Refuses e₂) = s

refuses_went : (e : LayerError) (s : Putting) → Refuses e ≡ Went s → ⊥
refuses_went e s is = subst (λ (a : Answered). elim a as (λ _. Type 0) [ Went x ↦ ⊥ | Refuses y ↦ Unit {0} ]) is tt

pub calls_run : CallsRun
calls_run link c w request s up is = up_link link.is_up is
  where
    move : Move
    move = Requests (link.waits [] == 256) request

    by : (o : LayerOutcome) → layer_outcome c (link.waits [] == 256) w.near.layer request ≡ o → went link c o ≡ Went s
        → (pulled : List ℕ) × AreChannels c.channels pulled × IsRun c w (move ∷ pulls_of pulled) (moves c w move) s w.back
    by (Declined e) found answer = absurd (refuses_went e s answer)
    by (Accepted next packet) found answer =
        let all : moves c w move ≡ requested c w request (Accepted next packet) =
        ap (λ (o : Bool). moves_in c w o move) up ∙ ap (λ (o : LayerOutcome). requested c w request o) found in
        subst (λ (t : Putting). (pulled : List ℕ) × AreChannels c.channels pulled × IsRun c w (move ∷ pulls_of pulled) (moves c w move) t w.back)
        (went_is (rounds link c (begin next packet)) s answer)
        (run_then link c w move (begin next packet) w.back
        (ap (λ (x : TwoLayers). x.near.layer) all) (ap (λ (x : TwoLayers). x.near.is_out) all) (ap (λ (x : TwoLayers). x.near.given) all)
        (ap (λ (x : TwoLayers). x.out) all) (ap (λ (x : TwoLayers). x.back) all)
        (ap (λ (x : TwoLayers). x.far) all))

    up_link : (b : Bool) → (if b then went link c (layer_outcome c (link.waits [] == 256) w.near.layer request) else Refuses error.NotUp) ≡ Went s
        → (pulled : List ℕ) × AreChannels c.channels pulled × IsRun c w (move ∷ pulls_of pulled) (moves c w move) s w.back
    up_link true answer = by (layer_outcome c (link.waits [] == 256) w.near.layer request) refl answer
    up_link false answer = absurd (refuses_went error.NotUp s answer)

pub hears_run : HearsRun
hears_run link c wide w packet back octets up front reads =
    let a : LayerAnswer = layer_answers c w.near.layer packet in
    let all : moves c w HandsUp ≡ answered w packet back a =
    ap (λ (o : Bool). moves_in c w o HandsUp) up ∙ ap (λ (l : List PlainPacket). handed_up c w l) front in
    subst (λ (r : _). (pulled : List ℕ) × AreChannels c.channels pulled
    × IsRun c w (HandsUp ∷ pulls_of pulled) (moves c w HandsUp) (heard link c (answer_to c w.near.layer octets r)).step back) (sym reads)
    (run_then link c w HandsUp (begin a.next a.owed) back
    (ap (λ (x : TwoLayers). x.near.layer) all) (ap (λ (x : TwoLayers). x.near.is_out) all) (ap (λ (x : TwoLayers). x.near.given) all)
    (ap (λ (x : TwoLayers). x.out) all) (ap (λ (x : TwoLayers). x.back) all)
    (ap (λ (x : TwoLayers). x.far) all))

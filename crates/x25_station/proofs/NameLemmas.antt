-- Pulls of data packets keep the names of all stretches, the packet sizes and windows of all calls, and how many messages
-- are unconfirmed.
use Rattle.x25_station.proofs.Names.{◌≡◌, ℕ, zero, suc, List, [], ◌∷◌, ◌++◌, ◌%◌, Option, Some, None, Bool, true, false, ◌&&◌, ◌+◌, nat_lt, length, ◌==◌}
use Rattle.x25_station.proofs.Names.{if◌then◌else◌, drop, refl, ap, sym, ◌∙◌, eqb-true, append_assoc, Pulled, pulled, pull_in, pull_open, pulls_nothing}
use Rattle.x25_station.proofs.Names.{data_packet, CircuitSettings, Circuit, Talk, outgoing, is_open_in, unconfirmed, talking, Piece, asked_in, Params, State}
use Rattle.x25_station.proofs.Names.{Open, Name, layer_pulled, LayerSettings, Layer, is_channel, put_at, is_open_at, LinkView, Putting, with_pulled, pull_one}
use Rattle.x25_station.proofs.Names.{round, rounds_of, rounds, backlog, name_of, PlainPacket}
use Rattle.x25_station.proofs.Names.{◌-◌}
use Rattle.x25_layer.specs.laws.Rounds.{at_turn, rest_of_round}
use Rattle.x25_layer.specs.Calls.{LayerPulled}

-- what a pull leaves as it is
record Kept : Type 0 where
  name : Name
  params : Params
  state : State
  unconfirmed : ℕ

abbrev kept_in : ℕ → Circuit → Kept
kept_in restarts x = record {
  name = record { restarts = restarts; clears = x.clears; resets = x.resets };
  params = x.params;
  state = x.state;
  unconfirmed = unconfirmed x;
}

abbrev kept_of : Layer → ℕ → Kept
kept_of l h = kept_in l.restarts (l.circuits h)

-- a packet that waited is one that was sent
open_counts : (n : ℕ) (c : CircuitSettings) (x : Circuit) (t : Talk) (rest : List Piece) → asked_in (drop t.acked (t.sent ++ rest)) ≡ unconfirmed x
    → kept_in n (pull_open c x t rest).next ≡ kept_in n x
open_counts n c x t [] same = refl
open_counts n c x t (piece ∷ rest) same = test (t.peer_ready && nat_lt (length t.sent) (t.acked + (outgoing x).window))
  where
    moved : Pulled
    moved = record {
      next = talking x (record {
        sent = t.sent ++ piece ∷ [];
        taken = t.taken;
        acked = t.acked;
        rest = rest;
        int_out = t.int_out;
        peer_ready = t.peer_ready;
        own_ready = t.own_ready;
      });
      packet = Some (data_packet (length t.sent % 8) (length t.taken % 8) piece);
    }

    test : (b : Bool) → (let p : Pulled = if b then moved else pulls_nothing x in kept_in n p.next) ≡ kept_in n x
    test true =
        ap (λ (u : ℕ). record { name = (kept_in n x).name; params = x.params; state = x.state; unconfirmed = u })
        (ap (λ (ps : List Piece). asked_in (drop t.acked ps)) (append_assoc t.sent (piece ∷ []) rest) ∙ same)
    test false = refl

state_counts : (n : ℕ) (c : CircuitSettings) (x : Circuit) (state : State) → kept_in n (pull_in c x state).next ≡ kept_in n x
state_counts n c x Open = open_counts n c x x.talk x.talk.rest refl
state_counts n c x state = refl

put_kept : (n : ℕ) (circuits : ℕ → Circuit) (k : ℕ) (next : Circuit) (h : ℕ) → kept_in n next ≡ kept_in n (circuits k) → kept_in n (put_at circuits k next h)
    ≡ kept_in n (circuits h)
put_kept n circuits k next h same = test (h == k) refl
  where
    test : (b : Bool) → (h == k) ≡ b → kept_in n (if b then next else circuits h) ≡ kept_in n (circuits h)
    test true is = same ∙ ap (λ (i : ℕ). kept_in n (circuits i)) (sym (eqb-true h k is))
    test false is = refl

pulled_kept : (c : LayerSettings) (l : Layer) (k h : ℕ) → kept_of (layer_pulled c l k).next h ≡ kept_of l h
pulled_kept c l k h = put_kept l.restarts l.circuits k (pulled c.circuit (l.circuits k)).next h
    (state_counts l.restarts c.circuit (l.circuits k) (l.circuits k).state)

with_kept : (k : ℕ) (s : Putting) (p : LayerPulled) (o : Option PlainPacket) (h : ℕ) → kept_of p.next h ≡ kept_of s.layer h → kept_of (with_pulled k s p o).layer h
    ≡ kept_of s.layer h
with_kept k s p None h same = refl
with_kept k s p (Some packet) h same = same

one_kept : (link : LinkView) (c : LayerSettings) (k : ℕ) (s : Putting) (h : ℕ) → kept_of (pull_one link c k s).layer h ≡ kept_of s.layer h
one_kept link c k s h = test (nat_lt (link.waits s.put) 8)
  where
    test : (b : Bool) → (let t : Putting = if b then with_pulled k s (layer_pulled c s.layer k) (layer_pulled c s.layer k).packet else s in kept_of t.layer h)
        ≡ kept_of s.layer h
    test true = with_kept k s (layer_pulled c s.layer k) (layer_pulled c s.layer k).packet h (pulled_kept c s.layer k h)
    test false = refl

round_kept : (link : LinkView) (c : LayerSettings) (b n : ℕ) (s : Putting) (h : ℕ) → kept_of (round link c b n s).layer h ≡ kept_of s.layer h
round_kept link c b zero s h = refl
round_kept link c b (suc n) s h = one_kept link c (b + suc n) (round link c b n s) h ∙ round_kept link c b n s h

rounds_of_kept : (n : ℕ) (link : LinkView) (c : LayerSettings) (s : Putting) (h : ℕ) → kept_of (rounds_of n link c s).layer h ≡ kept_of s.layer h
rounds_of_kept zero link c s h = refl
rounds_of_kept (suc n) link c s h = rounds_of_kept n link c (round link c 0 c.channels.count s) h ∙ round_kept link c 0 c.channels.count s h

rounds_kept : (link : LinkView) (c : LayerSettings) (s : Putting) (h : ℕ) → kept_of (rounds link c s).layer h ≡ kept_of s.layer h
rounds_kept link c s h =
    let rest : Putting = rest_of_round link c s in
    rounds_of_kept (backlog rest.layer.circuits c.channels.count) link c rest h
    ∙ round_kept link c link.turn (c.channels.count - link.turn) (at_turn link.turn s) h

pub rounds_name : (link : LinkView) (c : LayerSettings) (s : Putting) (h : ℕ) → name_of (rounds link c s).layer h ≡ name_of s.layer h
rounds_name link c s h = ap (λ (k : Kept). k.name) (rounds_kept link c s h)

pub rounds_params : (link : LinkView) (c : LayerSettings) (s : Putting) (h : ℕ) → ((rounds link c s).layer.circuits h).params ≡ (s.layer.circuits h).params
rounds_params link c s h = ap (λ (k : Kept). k.params) (rounds_kept link c s h)

pub rounds_open : (link : LinkView) (c : LayerSettings) (s : Putting) (h : ℕ) → is_open_at c (rounds link c s).layer h ≡ is_open_at c s.layer h
rounds_open link c s h = ap (λ (k : Kept). if is_channel c.channels h then is_open_in k.state else false) (rounds_kept link c s h)

pub rounds_unconfirmed : (link : LinkView) (c : LayerSettings) (s : Putting) (h : ℕ) → unconfirmed ((rounds link c s).layer.circuits h)
    ≡ unconfirmed (s.layer.circuits h)
rounds_unconfirmed link c s h = ap (λ (k : Kept). k.unconfirmed) (rounds_kept link c s h)

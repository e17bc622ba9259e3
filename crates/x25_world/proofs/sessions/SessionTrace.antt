-- What the layers of two stations did, in the order in which it happened, each move in a session of its end. The moves of one session
-- of each end are those of two layers.
use Rattle.x25_world.proofs.Names.{◌≡◌, ℕ, ◌==◌, List, [], ◌∷◌, ◌++◌, Bool, true, false, if◌then◌else◌, refl, sym, ap, ap₂, ◌∙◌, append_assoc, append-nil}
use Rattle.x25_world.proofs.Names.{eq-eqb, ne_eqb, Role, Dte, Dce, other, Each, Ranges, LayerSettings, goes_up, is_channel, started, pulled_in, moves_in}
use Rattle.x25_world.proofs.Names.{OwnMove, Takes, as_move, own_moves, own_run, Ends, ApartEvent, apart_happens, IsInOrder, AreInOrder, Pulls, alone}
use Rattle.x25_world.proofs.Names.{layer_pulled, moves_all, pulls_of, Cfg, settings_from, layer_settings, PlainPacket, pulls_asked, asked_leaves}
use Rattle.x25_layer.specs.laws.Apart.{near_moves, far_moves, IsNext}
use Rattle.x25_station.specs.laws.ReadLaw.{MovesOctets}
use Rattle.x25_layer.specs.laws.TwoLayers as layer

-- the settings of an end's layer
abbrev pub layer_of : Cfg → Role → LayerSettings
layer_of cfg end = layer_settings (settings_from end cfg)

pub record Done : Type 0 where
  pub at : Role
  pub session : ℕ
  pub what : OwnMove

-- moves of an end in a session, as a trace has them
abbrev pub moved : Role → ℕ → List OwnMove → List Done
moved at n [] = []
moved at n (what ∷ rest) = record { at = at; session = n; what = what } ∷ moved at n rest

-- ---- of one session of an end

abbrev own_if : Role → Role → Bool → OwnMove → List OwnMove
own_if Dte Dte b what = if b then what ∷ [] else []
own_if Dce Dce b what = if b then what ∷ [] else []
own_if end at b what = []

abbrev pub own_one : Role → ℕ → Role → ℕ → OwnMove → List OwnMove
own_one end n at session what = own_if end at (n == session) what

-- of a trace the moves of an end in a session
abbrev pub own_in : Role → ℕ → List Done → List OwnMove
own_in end n [] = []
own_in end n (t ∷ trace) = own_one end n t.at t.session t.what ++ own_in end n trace

-- the layer's end in session n, as its moves have led to it
abbrev pub own : Cfg → Role → ℕ → List Done → layer.End
own cfg end n trace = own_run (layer_of cfg end) (own_in end n trace) (started (goes_up (layer_of cfg end)))

pub own_append : (end : Role) (n : ℕ) (xs ys : List Done) → own_in end n (xs ++ ys) ≡ own_in end n xs ++ own_in end n ys
own_append end n [] ys = refl
own_append end n (x ∷ xs) ys =
    ap (λ l. own_one end n x.at x.session x.what ++ l) (own_append end n xs ys)
    ∙ sym (append_assoc (own_one end n x.at x.session x.what) (own_in end n xs) (own_in end n ys))

-- a number is itself
pub same_number : (n : ℕ) → (n == n) ≡ true
same_number n = eq-eqb n n refl

one_here : (end : Role) (n : ℕ) (what : OwnMove) → own_one end n end n what ≡ what ∷ []
one_here Dte n what = ap (λ b. if b then what ∷ [] else []) (same_number n)
one_here Dce n what = ap (λ b. if b then what ∷ [] else []) (same_number n)

one_elsewhere : (end : Role) (n m : ℕ) (what : OwnMove) → (n ≡ m → ⊥) → own_one end n end m what ≡ []
one_elsewhere Dte n m what differs = ap (λ b. if b then what ∷ [] else []) (ne_eqb n m differs)
one_elsewhere Dce n m what differs = ap (λ b. if b then what ∷ [] else []) (ne_eqb n m differs)

one_there : (end : Role) (n m : ℕ) (what : OwnMove) → own_one (other end) n end m what ≡ []
one_there Dte n m what = refl
one_there Dce n m what = refl

own_moved : (end : Role) (n : ℕ) (moves : List OwnMove) → own_in end n (moved end n moves) ≡ moves
own_moved end n [] = refl
own_moved end n (what ∷ moves) = ap₂ (λ l r. l ++ r) (one_here end n what) (own_moved end n moves)

own_elsewhere : (end : Role) (n m : ℕ) (moves : List OwnMove) → (n ≡ m → ⊥) → own_in end n (moved end m moves) ≡ []
own_elsewhere end n m [] differs = refl
own_elsewhere end n m (what ∷ moves) differs = ap₂ (λ l r. l ++ r) (one_elsewhere end n m what differs) (own_elsewhere end n m moves differs)

own_there : (end : Role) (n m : ℕ) (moves : List OwnMove) → own_in (other end) n (moved end m moves) ≡ []
own_there end n m [] = refl
own_there end n m (what ∷ moves) = ap₂ (λ l r. l ++ r) (one_there end n m what) (own_there end n m moves)

-- more moves of an end in a session

-- they are added to those of its session
pub own_more : (end : Role) (n : ℕ) (trace : List Done) (moves : List OwnMove) → own_in end n (trace ++ moved end n moves) ≡ own_in end n trace ++ moves
own_more end n trace moves = own_append end n trace (moved end n moves) ∙ ap (λ l. own_in end n trace ++ l) (own_moved end n moves)

pub own_same : (end : Role) (n m : ℕ) (trace : List Done) (moves : List OwnMove) → (n ≡ m → ⊥) → own_in end n (trace ++ moved end m moves) ≡ own_in end n trace
own_same end n m trace moves differs =
    own_append end n trace (moved end m moves) ∙ ap (λ l. own_in end n trace ++ l) (own_elsewhere end n m moves differs) ∙ append-nil (own_in end n trace)

pub own_other : (end : Role) (n m : ℕ) (trace : List Done) (moves : List OwnMove) → own_in (other end) n (trace ++ moved end m moves)
    ≡ own_in (other end) n trace
own_other end n m trace moves =
    own_append (other end) n trace (moved end m moves) ∙ ap (λ l. own_in (other end) n trace ++ l) (own_there end n m moves)
    ∙ append-nil (own_in (other end) n trace)

run_append : (c : LayerSettings) (xs ys : List OwnMove) (e : layer.End) → own_run c (xs ++ ys) e ≡ own_run c ys (own_run c xs e)
run_append c [] ys e = refl
run_append c (x ∷ xs) ys e = run_append c xs ys (own_moves c e x)

-- the end of a session goes on by the moves that are added to the trace
pub own_goes : (cfg : Cfg) (end : Role) (n : ℕ) (trace : List Done) (moves : List OwnMove) → own cfg end n (trace ++ moved end n moves)
    ≡ own_run (layer_of cfg end) moves (own cfg end n trace)
own_goes cfg end n trace moves =
    ap (λ l. own_run (layer_of cfg end) l (started (goes_up (layer_of cfg end)))) (own_more end n trace moves)
    ∙ run_append (layer_of cfg end) (own_in end n trace) moves (started (goes_up (layer_of cfg end)))

-- ---- of a session of each end

-- which session is meant of each end
abbrev pub numbers : ℕ → ℕ → Role → ℕ
numbers dte dce Dte = dte
numbers dte dce Dce = dce

abbrev is_first : Role → Bool
is_first Dte = true
is_first Dce = false

abbrev pub event_of : Role → OwnMove → ApartEvent
event_of end what = record { first = is_first end; what = what }

-- moves of an end as events of two layers apart
abbrev pub events_of : Role → List OwnMove → List ApartEvent
events_of end [] = []
events_of end (what ∷ moves) = event_of end what ∷ events_of end moves

abbrev pub pair_one : (Role → ℕ) → Role → ℕ → OwnMove → List ApartEvent
pair_one number at session what = if number at == session then event_of at what ∷ [] else []

abbrev pub pair_in : (Role → ℕ) → List Done → List ApartEvent
pair_in number [] = []
pair_in number (t ∷ trace) = pair_one number t.at t.session t.what ++ pair_in number trace

-- n of the end, m of the other
abbrev pub pair_at : Role → ℕ → ℕ → List Done → List ApartEvent
pair_at Dte n m trace = pair_in (numbers n m) trace
pair_at Dce n m trace = pair_in (numbers m n) trace

pub pair_turned : (end : Role) (n m : ℕ) (trace : List Done) → pair_at (other end) m n trace ≡ pair_at end n m trace
pair_turned Dte n m trace = refl
pair_turned Dce n m trace = refl

module _ (number : Role → ℕ) (end : Role) where
  pair_append : (xs ys : List Done) → pair_in number (xs ++ ys) ≡ pair_in number xs ++ pair_in number ys
  pair_append [] ys = refl
  pair_append (x ∷ xs) ys = ap (λ l. pair_one number x.at x.session x.what ++ l) (pair_append xs ys)
      ∙ sym (append_assoc (pair_one number x.at x.session x.what) (pair_in number xs) (pair_in number ys))

  pair_moved : (session : ℕ) (moves : List OwnMove) → (number end == session) ≡ true → pair_in number (moved end session moves) ≡ events_of end moves
  pair_moved session [] is = refl
  pair_moved session (what ∷ moves) is = ap₂ (λ b l. (if b then event_of end what ∷ [] else []) ++ l) is (pair_moved session moves is)

  pair_elsewhere : (session : ℕ) (moves : List OwnMove) → (number end == session) ≡ false → pair_in number (moved end session moves) ≡ []
  pair_elsewhere session [] differs = refl
  pair_elsewhere session (what ∷ moves) differs = ap₂ (λ b l. (if b then event_of end what ∷ [] else []) ++ l) differs (pair_elsewhere session moves differs)

  in_more : (trace : List Done) (moves : List OwnMove) → pair_in number (trace ++ moved end (number end) moves) ≡ pair_in number trace ++ events_of end moves
  in_more trace moves = pair_append trace (moved end (number end) moves)
      ∙ ap (λ l. pair_in number trace ++ l) (pair_moved (number end) moves (same_number (number end)))

  in_same : (session : ℕ) (trace : List Done) (moves : List OwnMove) → (number end ≡ session → ⊥) → pair_in number (trace ++ moved end session moves)
      ≡ pair_in number trace
  in_same session trace moves differs =
      pair_append trace (moved end session moves) ∙ ap (λ l. pair_in number trace ++ l) (pair_elsewhere session moves (ne_eqb (number end) session differs))
      ∙ append-nil (pair_in number trace)

pub pair_more : (end : Role) (n m : ℕ) (trace : List Done) (moves : List OwnMove) → pair_at end n m (trace ++ moved end n moves) ≡ pair_at end n m trace
    ++ events_of end moves
pair_more Dte n m trace moves = in_more (numbers n m) Dte trace moves
pair_more Dce n m trace moves = in_more (numbers m n) Dce trace moves

pub pair_same : (end : Role) (n m session : ℕ) (trace : List Done) (moves : List OwnMove) → (n ≡ session → ⊥)
    → pair_at end n m (trace ++ moved end session moves) ≡ pair_at end n m trace
pair_same Dte n m session trace moves differs = in_same (numbers n m) Dte session trace moves differs
pair_same Dce n m session trace moves differs = in_same (numbers m n) Dce session trace moves differs

-- the moves of either end of the pair

abbrev pub moves_of : Role → List ApartEvent → List OwnMove
moves_of Dte es = near_moves es
moves_of Dce es = far_moves es

moves_if : (end at : Role) (b : Bool) (what : OwnMove) (es : List ApartEvent) → moves_of end ((if b then event_of at what ∷ [] else []) ++ es)
    ≡ own_if end at b what ++ moves_of end es
moves_if Dte Dte true what es = refl
moves_if Dte Dte false what es = refl
moves_if Dte Dce true what es = refl
moves_if Dte Dce false what es = refl
moves_if Dce Dte true what es = refl
moves_if Dce Dte false what es = refl
moves_if Dce Dce true what es = refl
moves_if Dce Dce false what es = refl

first_of_pair : (number : Role → ℕ) (end at : Role) (session : ℕ) (what : OwnMove) (es : List ApartEvent)
    → moves_of end (pair_one number at session what ++ es) ≡ own_one end (number end) at session what ++ moves_of end es
first_of_pair number Dte Dte session what es = moves_if Dte Dte (number Dte == session) what es
first_of_pair number Dte Dce session what es = moves_if Dte Dce (number Dce == session) what es
first_of_pair number Dce Dte session what es = moves_if Dce Dte (number Dte == session) what es
first_of_pair number Dce Dce session what es = moves_if Dce Dce (number Dce == session) what es

-- of two sessions that meet, an end moves as in its own
pub moves_of_pair : (number : Role → ℕ) (end : Role) (trace : List Done) → moves_of end (pair_in number trace) ≡ own_in end (number end) trace
moves_of_pair number Dte [] = refl
moves_of_pair number Dce [] = refl
moves_of_pair number end (t ∷ trace) =
    first_of_pair number end t.at t.session t.what (pair_in number trace)
    ∙ ap (λ l. own_one end (number end) t.at t.session t.what ++ l) (moves_of_pair number end trace)

-- ---- moves that take nothing

-- a move that takes no packet
abbrev pub TakesNone : OwnMove → Type 0
TakesNone (Takes packet) = ⊥
TakesNone what = Unit {0}

-- none of these moves takes a packet
abbrev pub TakeNothing : List OwnMove → Type 0
TakeNothing moves = Each TakesNone moves

next_of_none : (taker giver : layer.End) (what : OwnMove) → TakesNone what → IsNext taker giver what
next_of_none taker giver (Takes packet) h = absurd h
next_of_none taker giver what h = tt

-- where neither end takes anything, all is in order
pub order_of_nothing : (long_data : Bool) (channels : Ranges) (es : List ApartEvent) (ends : Ends) → TakeNothing (near_moves es) → TakeNothing (far_moves es)
    → AreInOrder long_data channels es ends
order_of_nothing long_data channels [] ends f g = tt
order_of_nothing long_data channels (e ∷ es) ends f g = by e.first f g (order_of_nothing long_data channels es (apart_happens long_data channels ends e))
  where
    by : (b : Bool) → TakeNothing (if b then e.what ∷ near_moves es else near_moves es) → TakeNothing (if b then far_moves es else e.what ∷ far_moves es)
        → (TakeNothing (near_moves es) → TakeNothing (far_moves es) → AreInOrder long_data channels es (apart_happens long_data channels ends e))
        → IsInOrder ends (record { first = b; what = e.what }) × AreInOrder long_data channels es (apart_happens long_data channels ends e)
    by true f g rest = (next_of_none ends.near ends.far e.what f.0, rest f.1 g)
    by false f g rest = (next_of_none ends.far ends.near e.what g.0, rest f g.1)

-- so are moves of an end that takes nothing
pub nothing_goes : (long_data : Bool) (channels : Ranges) (end : Role) (moves : List OwnMove) (ends : Ends) → TakeNothing moves
    → AreInOrder long_data channels (events_of end moves) ends
nothing_goes long_data channels end [] ends h = tt
nothing_goes long_data channels Dte (what ∷ moves) ends h =
    (next_of_none ends.near ends.far what h.0, nothing_goes long_data channels Dte moves (apart_happens long_data channels ends (event_of Dte what)) h.1)
nothing_goes long_data channels Dce (what ∷ moves) ends h =
    (next_of_none ends.far ends.near what h.0, nothing_goes long_data channels Dce moves (apart_happens long_data channels ends (event_of Dce what)) h.1)

-- ---- what users hand down is octets, and confirmation is asked where packets are read in all their forms

-- all moves of a trace bring octets
abbrev pub BringOctets : Bool → List Done → Type 0
BringOctets wide trace = Each (λ (t : Done). MovesOctets wide (as_move t.what)) trace

-- these channels are pulled
abbrev pub own_pulls : List ℕ → List OwnMove
own_pulls [] = []
own_pulls (h ∷ channels) = Pulls h ∷ own_pulls channels

-- pulls take nothing
pub pulls_take_nothing : (channels : List ℕ) → TakeNothing (own_pulls channels)
pulls_take_nothing [] = tt
pulls_take_nothing (h ∷ channels) = (tt, pulls_take_nothing channels)

-- pulls bring octets
pub pulls_bring_octets : (wide : Bool) (end : Role) (session : ℕ) (channels : List ℕ) → BringOctets wide (moved end session (own_pulls channels))
pulls_bring_octets wide end session [] = tt
pulls_bring_octets wide end session (h ∷ channels) = (tt, pulls_bring_octets wide end session channels)

pull_near : (c : LayerSettings) (w : layer.TwoLayers) (h : ℕ) → (layer.moves c w (layer.Pulls h)).near ≡ own_moves c w.near (Pulls h)
pull_near c w h = by w.near.is_out (is_channel c.channels h)
  where
    if_channel : (b : Bool)
        → (if b then pulled_in w (layer_pulled c w.near.layer h) else w).near
        ≡ (if b then pulled_in (alone w.near []) (layer_pulled c w.near.layer h) else alone w.near []).near
    if_channel true = refl
    if_channel false = refl

    by : (gone b : Bool) → (moves_in c w gone (layer.Pulls h)).near ≡ (moves_in c (alone w.near []) gone (layer.Pulls h)).near
    by true b = refl
    by false b = if_channel (is_channel c.channels h)

-- pulls of the near one of two layers leave it as its own moves do
pub near_pulls : (c : LayerSettings) (w : layer.TwoLayers) (channels : List ℕ) → (moves_all c w (pulls_of channels)).near
    ≡ own_run c (own_pulls channels) w.near
near_pulls c w [] = refl
near_pulls c w (h ∷ channels) = near_pulls c (layer.moves c w (layer.Pulls h)) channels ∙ ap (λ e. own_run c (own_pulls channels) e) (pull_near c w h)

-- ---- what is taken

pub take_takes : (c : LayerSettings) (e : layer.End) (packet : PlainPacket) (channels : List ℕ) → e.is_out ≡ false
    → (own_run c (Takes packet ∷ own_pulls channels) e).taken ≡ e.taken ++ packet ∷ []
take_takes c e packet channels out =
    let x = alone (own_moves c e (Takes packet)) [] in
    ap (λ f. f.taken) (sym (near_pulls c x channels)) ∙ (asked_leaves c x (pulls_of channels) (pulls_asked channels)).taken
    ∙ ap (λ gone. (moves_in c (alone e (packet ∷ [])) gone layer.HandsUp).near.taken) out

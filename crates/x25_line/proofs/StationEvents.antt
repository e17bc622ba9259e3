-- What one event hands up and down, and whether it notes LinkUp, by cases of the event.
use Rattle.x25_line.proofs.Names.{◌≡◌, ℕ, List, [], ◌∷◌, length, Bool, true, false, if◌then◌else◌, Option, Some, None, refl, sym, ap, ◌∙◌, append-nil, nat_le}
use Rattle.x25_line.proofs.Names.{nat_lt, ◌||◌, LinkError, LinkSettings, LinkStation, is_up, LinkStep, put_step, put_refusal, timer_step, timer_refusal}
use Rattle.x25_line.proofs.Names.{connect_step, connect_refusal, disconnect_step, disconnect_refusal, abandon_step, Stations, Act, Put, Deliver, T1, Connect}
use Rattle.x25_line.proofs.{Choices.{unless_by, if_by}, Names.{Disconnect, Abandon, Probe, Lose, Damage, Near, Far, is_visible, stations_swapped, HandsOne}}
use Rattle.x25_line.proofs.Names.{Phase, Closed, Side, alone}
use Rattle.x25_link.specs.Link.{gives_up}
use Rattle.x25_line.specs.laws.{StationClaims.{EachEventHandsOne}, Stations.{after_step, unless, own_act, delivered, acts}}

-- a step that hands nothing up, to which nothing was handed down, and that doesn't note LinkUp
record HandsNothing (w v : Stations) : Type 0 where
  pub up : v.near.up ≡ w.near.up
  pub down : v.near.down ≡ w.near.down
  pub came_up : v.near.came_up ≡ w.near.came_up
  pub far : v.far ≡ w.far

nothing_changes : (w : Stations) → HandsNothing w w
nothing_changes w = record { up = refl; down = refl; came_up = refl; far = refl }

pub or_false : (b : Bool) → (b || false) ≡ b
or_false true = refl
or_false false = refl

step_hands_nothing : (c : LinkSettings) (w : Stations) (back : List (List ℕ)) (step : LinkStep) → step.packet ≡ None → step.notes.up ≡ false
    → HandsNothing w (after_step c w back [] step)
step_hands_nothing c w back step none low =
    record {
      up = rw none (append-nil w.near.up);
      down = append-nil w.near.down;
      came_up = ap (λ b. w.near.came_up || b) low ∙ or_false w.near.came_up;
      far = refl;
    }

packet_if : (b : Bool) (x y : LinkStep) → x.packet ≡ None → y.packet ≡ None → (if b then x else y).packet ≡ None
packet_if true x y e f = e
packet_if false x y e f = f

up_if : (b : Bool) (x y : LinkStep) → x.notes.up ≡ false → y.notes.up ≡ false → (if b then x else y).notes.up ≡ false
up_if true x y e f = e
up_if false x y e f = f

gives_packet : (p : Phase) (t : Side) → (gives_up p t).packet ≡ None
gives_packet Closed t = refl
gives_packet p t = refl

gives_no_up : (p : Phase) (t : Side) → (gives_up p t).notes.up ≡ false
gives_no_up Closed t = refl
gives_no_up p t = refl

pub timer_packet : (c : LinkSettings) (s : LinkStation) → (timer_step c s).packet ≡ None
timer_packet c s = packet_if (nat_lt s.tries c.retries) _ (gives_up s.phase (alone s)) refl (gives_packet s.phase (alone s))

pub timer_up : (c : LinkSettings) (s : LinkStation) → (timer_step c s).notes.up ≡ false
timer_up c s = up_if (nat_lt s.tries c.retries) _ (gives_up s.phase (alone s)) refl (gives_no_up s.phase (alone s))

-- ---- acts that take no octets and are given no packet, in any world

pub own_by : {W : Type 0} (Q : W → Type 0) (c : LinkSettings) (s : LinkStation) (w : W) (done : LinkStep → W) → Q w
    → ((step : LinkStep) → step.packet ≡ None → step.notes.up ≡ false → Q (done step)) → (a : Act) → Q (own_act c s w done a)
own_by Q c s w done still goes T1 = unless_by Q (timer_refusal s) still (λ _. goes (timer_step c s) (timer_packet c s) (timer_up c s))
own_by Q c s w done still goes Connect = unless_by Q (connect_refusal s.phase) still (λ _. goes (connect_step c s) refl refl)
own_by Q c s w done still goes Disconnect = unless_by Q (disconnect_refusal s.phase) still (λ _. goes (disconnect_step c s) refl refl)
own_by Q c s w done still goes Abandon = if_by Q (is_up s.phase) still (λ _. goes (abandon_step c s) refl refl)
own_by Q c s w done still goes Probe = if_by Q (is_up s.phase) still (λ _. goes (timer_step c s) (timer_packet c s) (timer_up c s))
own_by Q c s w done still goes act = still

-- ---- what one event hands up and down

put_hands : (o : Option LinkError) (c : LinkSettings) (packet : List ℕ) (w : Stations)
    → HandsOne (Put packet) w (unless o w (after_step c w w.back (packet ∷ []) (put_step c packet w.near.station)))
put_hands (Some e) c packet w = record { up = refl; down = (false, refl); came_up = refl; far = refl }
put_hands None c packet w = record { up = append-nil w.near.up; down = (true, refl); came_up = or_false w.near.came_up; far = refl }

put_by : (b : Bool) (c : LinkSettings) (packet : List ℕ) (w v : Stations) → HandsOne (Put packet) w v → HandsOne (Put packet) w (if b then v else w)
put_by true c packet w v h = h
put_by false c packet w v h = record { up = refl; down = (false, refl); came_up = refl; far = refl }

deliver_hands : (c : LinkSettings) (os : List (List ℕ)) (w : Stations) → HandsOne Deliver w (delivered c os w)
deliver_hands c [] w = record { up = (None, sym (append-nil w.near.up)); down = refl; came_up = (false, sym (or_false w.near.came_up)); far = refl }
deliver_hands c (o ∷ os) w = record { up = (_, refl); down = append-nil w.near.down; came_up = (_, refl); far = refl }

acts_hands : (c : LinkSettings) (a : Act) (w : Stations) → HandsOne a w (acts c a w)
acts_hands c (Put packet) w =
    put_by (nat_le (length packet) c.longest) c packet w
    (unless (put_refusal w.near.station) w (after_step c w w.back (packet ∷ []) (put_step c packet w.near.station)))
    (put_hands (put_refusal w.near.station) c packet w)
acts_hands c Deliver w = deliver_hands c w.back w
acts_hands c (Lose i) w = record { up = refl; down = refl; came_up = refl; far = refl }
acts_hands c (Damage i octets) w =
    let h = if_by (HandsNothing w) (is_visible octets) (nothing_changes w) (λ _. record { up = refl; down = refl; came_up = refl; far = refl }) in
    record { up = h.up; down = h.down; came_up = h.came_up; far = h.far }
acts_hands c act w =
    let h = own_by (HandsNothing w) c w.near.station w (after_step c w w.back []) (nothing_changes w)
    (λ step none low. step_hands_nothing c w w.back step none low) act in
    record { up = h.up; down = h.down; came_up = h.came_up; far = h.far }

-- an event hands one packet up at most, and one down
pub each_hands_one : EachEventHandsOne
each_hands_one c d (Near act) w = acts_hands c act w
each_hands_one c d (Far act) w = acts_hands d act (stations_swapped w)

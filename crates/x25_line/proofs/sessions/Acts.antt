-- What each act leaves: of its end what each step of a station keeps, the other end as it was, and of the line to it all but one entry at most.
use Rattle.x25_line.proofs.Names.{◌≡◌, ℕ, ◌≤◌, List, [], ◌∷◌, length, refl, leb-true, nat_le, LinkSettings, LinkStation, is_up, take_step, put_step, timer_step}
use Rattle.x25_line.proofs.Names.{connect_step, disconnect_step, abandon_step, put_refusal, timer_refusal, connect_refusal, disconnect_refusal, Act, Put}
use Rattle.x25_line.proofs.Names.{Deliver, T1, Connect, Disconnect, Abandon, Probe, Lose, Damage, is_visible, Entry, Sessions, delivered, with_octets, acts}
use Rattle.x25_line.proofs.{Choices.{unless_by, if_by}, Losses.{untouched, removes, replaces}, Names.{LessAt, gone, Less, IsSeenIn}}

pub record Keeps (c : LinkSettings) (P : LinkStation → Type 0) : Type 0 where
  pub takes : (o : List ℕ) (s : LinkStation) → P s → P (take_step c o s).side.near
  pub puts : (packet : List ℕ) (s : LinkStation) → length packet ≤ c.longest → P s → P (put_step c packet s).side.near
  pub fires : (s : LinkStation) → P s → P (timer_step c s).side.near
  pub connects : (s : LinkStation) → P s → P (connect_step c s).side.near
  pub disconnects : (s : LinkStation) → P s → P (disconnect_step c s).side.near
  pub abandons : (s : LinkStation) → P s → P (abandon_step c s).side.near

pub record Stays (P : LinkStation → Type 0) (w v : Sessions) : Type 0 where
  pub near : P v.near.station
  pub far : v.far ≡ w.far
  pub less : Less IsSeenIn w.back v.back

module _ (c : LinkSettings) (P : LinkStation → Type 0) (keeps : Keeps c P) (w : Sessions) (h : P w.near.station) where
  abbrev s : LinkStation
  s = w.near.station

  kept : (i : ℕ) × LessAt IsSeenIn i w.back w.back
  kept = (_, untouched w.back)

  as_it_was : Stays P w w
  as_it_was = record { near = h; far = refl; less = kept }

  delivered_stays : (es : List Entry) → w.back ≡ es → Stays P w (delivered c es w)
  delivered_stays [] is = as_it_was
  delivered_stays (e ∷ es) is = record { near = keeps.takes e.octets s h; far = refl; less = (0, rw is (gone e es)) }

  pub act_stays : (a : Act) → Stays P w (acts c a w)
  act_stays (Put packet) =
      if_by (Stays P w) (nat_le (length packet) c.longest) as_it_was
      (λ short. unless_by (Stays P w) (put_refusal s) as_it_was
      (λ _. record { near = keeps.puts packet s (leb-true _ _ short) h; far = refl; less = kept }))
  act_stays Deliver = delivered_stays w.back refl
  act_stays T1 = unless_by (Stays P w) (timer_refusal s) as_it_was (λ _. record { near = keeps.fires s h; far = refl; less = kept })
  act_stays Connect = unless_by (Stays P w) (connect_refusal s.phase) as_it_was (λ _. record { near = keeps.connects s h; far = refl; less = kept })
  act_stays Disconnect = unless_by (Stays P w) (disconnect_refusal s.phase) as_it_was
      (λ _. record { near = keeps.disconnects s h; far = refl; less = kept })
  act_stays Abandon = if_by (Stays P w) (is_up s.phase) as_it_was (λ _. record { near = keeps.abandons s h; far = refl; less = kept })
  act_stays Probe = if_by (Stays P w) (is_up s.phase) as_it_was (λ _. record { near = keeps.fires s h; far = refl; less = kept })
  act_stays (Lose i) = record { near = h; far = refl; less = (i, removes w.back i) }
  act_stays (Damage i octets) = if_by (Stays P w) (is_visible octets) as_it_was
      (λ visible. record { near = h; far = refl; less = (i, replaces (with_octets octets) (λ _. (refl, visible)) w.back i) })

-- where nothing is asked of the station
abbrev pub Anything : LinkStation → Type 0
Anything s = Unit {0}

-- an act of one end leaves the other as it is, and takes one at most off the line to itself
pub acts_still : (c : LinkSettings) (a : Act) (w : Sessions) → Stays Anything w (acts c a w)
acts_still c a w =
    act_stays c Anything (record {
      takes = λ _ _ _. tt;
      puts = λ _ _ _ _. tt;
      fires = λ _ _. tt;
      connects = λ _ _. tt;
      disconnects = λ _ _. tt;
      abandons = λ _ _. tt;
    }) w tt a

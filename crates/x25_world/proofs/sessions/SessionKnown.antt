-- What the laws of two links over set-up and re-set-up, and of two layers of which each end is by itself, say of the sessions of a world.
use Rattle.x25_world.proofs.Names.{◌≡◌, ℕ, ◌==◌, inl, inr, List, [], ◌∷◌, ◌++◌, sym, ap, ◌∙◌, subst, cond_both, Role, Dte, Dce, other, Meeting, SomeMet}
use Rattle.x25_world.proofs.Names.{PlainPacket, own_run, Ends, ApartEvent, apart_run, apart_start, AreInOrder, as_world, IsToldFirst, Cfg, AreReadable}
use Rattle.x25_layer.specs.laws.{Apart.{all_over_links}, Law.{IsQuietEnd}}
use Rattle.x25_station.specs.laws.ReadLaw.{BringOctets}
use Rattle.x25_world.proofs.{Known.{IsConfigured}, Names.{all_some, SessionLaws}, sessions.SessionJoined.{HasMet, PairIsInOrder, PairsAreInOrder}}
use Rattle.x25_world.proofs.sessions.SessionTrace.{layer_of, Done, own_in, own, numbers, event_of, pair_in, pair_at, moves_of_pair, TakeNothing}
use Rattle.x25_world.proofs.sessions.SessionTrace.{order_of_nothing}
use Rattle.x25_layer.specs.laws.TwoLayers as layer
use Rattle.x25_world.proofs.sessions.SessionTrace as traced

-- ---- meetings

-- what follows of each meeting follows of some
pub some_map : {P : Meeting → Type 0} (Q : Meeting → Type 0) → ((m : Meeting) → P m → Q m) → (ms : List Meeting) → SomeMet P ms → SomeMet Q ms
some_map Q f [] h = absurd h
some_map {P} Q f (m ∷ ms) h = elim h [ inl here ↦ inl (f m here) | inr there ↦ inr (some_map Q f ms there) ]

-- two that met are in order
pub met_in_order : (cfg : Cfg) (end : Role) (trace : List Done) (met : List Meeting) (n m : ℕ) → PairsAreInOrder cfg end trace met → HasMet n m met
    → PairIsInOrder cfg end trace n m
met_in_order cfg end trace met n m pairs h =
    all_some (λ p. PairIsInOrder cfg end trace p.near p.far) (λ p. (p.near ≡ n) × (p.far ≡ m)) (PairIsInOrder cfg end trace n m)
    (λ (p : Meeting) order is. rw (sym is.0) (subst (λ b. PairIsInOrder cfg end trace p.near b) is.1 order)) met pairs h

-- ---- two sessions, each end by itself

-- both ends, as the moves of these two sessions alone have led to them
abbrev pub pair_ends : Cfg → Role → ℕ → ℕ → List Done → Ends
pair_ends cfg end n m trace = apart_run cfg.long_data cfg.channels (pair_at end n m trace) (apart_start cfg.long_data cfg.channels)

-- the one that is this end
abbrev pub here_in : Role → Ends → layer.End
here_in Dte ends = ends.near
here_in Dce ends = ends.far

module _ (laws : SessionLaws) (cfg : Cfg) where
  -- an end of two sessions by themselves is what it is in the whole trace
  pub here_is : (end : Role) (n m : ℕ) (trace : List Done) → here_in end (pair_ends cfg end n m trace) ≡ own cfg end n trace
  here_is Dte n m trace =
      let start = apart_start cfg.long_data cfg.channels in
      (laws.own cfg.long_data cfg.channels (pair_at Dte n m trace) start).near
      ∙ ap (λ l. own_run (layer_of cfg Dte) l start.near) (moves_of_pair (numbers n m) Dte trace)
  here_is Dce n m trace =
      let start = apart_start cfg.long_data cfg.channels in
      (laws.own cfg.long_data cfg.channels (pair_at Dce n m trace) start).far
      ∙ ap (λ l. own_run (layer_of cfg Dce) l start.far) (moves_of_pair (numbers m n) Dce trace)

  -- so is the other end
  pub there_is : (end : Role) (n m : ℕ) (trace : List Done) → here_in (other end) (pair_ends cfg end n m trace) ≡ own cfg (other end) m trace
  there_is Dte n m trace = here_is Dce m n trace
  there_is Dce n m trace = here_is Dte m n trace

  -- ---- what always holds of two layers in order

  -- of each end and the other, if it holds of the DTE and the DCE and of the DCE and the DTE
  pub of_either : (Holds : Role → layer.End → layer.End → Type 0)
      → ((events : List ApartEvent) → AreInOrder cfg.long_data cfg.channels events (apart_start cfg.long_data cfg.channels)
      → (let v = apart_run cfg.long_data cfg.channels events (apart_start cfg.long_data cfg.channels) in Holds Dte v.near v.far × Holds Dce v.far v.near))
      → (end : Role) (n m : ℕ) (trace : List Done) → PairIsInOrder cfg end trace n m → Holds end (own cfg end n trace) (own cfg (other end) m trace)
  of_either Holds always end n m trace order =
      subst (λ e. Holds end e (own cfg (other end) m trace)) (here_is end n m trace)
      (rw (sym (there_is end n m trace)) (by end n m order))
    where
      by : (end : Role) (n m : ℕ) → PairIsInOrder cfg end trace n m
          → Holds end (here_in end (pair_ends cfg end n m trace)) (here_in (other end) (pair_ends cfg end n m trace))
      by Dte n m order = (always (pair_at Dte n m trace) order).0
      by Dce n m order = (always (pair_at Dce n m trace) order).1

  -- what is given and not taken
  abbrev pub LeavesRest : Role → layer.End → layer.End → Type 0
  LeavesRest end taker giver = (rest : List PlainPacket) × (giver.given ≡ taker.taken ++ rest)

  pub own_order : (end : Role) (n m : ℕ) (trace : List Done) → PairIsInOrder cfg end trace n m
      → LeavesRest end (own cfg end n trace) (own cfg (other end) m trace)
  own_order = of_either LeavesRest (λ events order.
      (let w = as_world (apart_run cfg.long_data cfg.channels events (apart_start cfg.long_data cfg.channels)) in
      let keeps = laws.layers_order cfg.long_data cfg.channels events order in
      ((w.back, keeps.far), (w.out, keeps.near))))

  -- an end of two sessions in order told of no error of procedure
  pub own_quiet : (end : Role) (n m : ℕ) (trace : List Done) → PairIsInOrder cfg end trace n m → IsQuietEnd cfg.channels (own cfg end n trace)
  own_quiet = of_either (λ end e f. IsQuietEnd cfg.channels e)
      (λ events order. (let both = laws.layers_quiet cfg.long_data cfg.channels events order in (both.near, both.far)))

  pub own_first : (end : Role) (n m : ℕ) (trace : List Done) → PairIsInOrder cfg end trace n m
      → IsToldFirst (own cfg end n trace).taken (own cfg end n trace).told
  own_first = of_either (λ end e f. IsToldFirst e.taken e.told)
      (λ events order. (let both = laws.layers_restarted cfg.long_data cfg.channels events order in (both.near, both.far)))

  -- ---- what is put is read again

  pair_octets : (number : Role → ℕ) (trace : List Done) → traced.BringOctets cfg.wide trace → BringOctets cfg.wide (all_over_links (pair_in number trace))
  pair_octets number [] h = tt
  pair_octets number (t ∷ trace) h =
      let rest = pair_octets number trace h.1 in
      cond_both (number t.at == t.session) (event_of t.at t.what ∷ []) [] (λ es. BringOctets cfg.wide (all_over_links (es ++ pair_in number trace)))
      (λ _. (h.0, rest)) (λ _. rest)

  both_readable : IsConfigured cfg → (n m : ℕ) (trace : List Done) → PairIsInOrder cfg Dte trace n m → traced.BringOctets cfg.wide trace
      → AreReadable cfg.wide cfg.long_data (pair_ends cfg Dte n m trace).near.given × AreReadable cfg.wide cfg.long_data (pair_ends cfg Dte n m trace).far.given
  both_readable fine n m trace order octets =
      subst (λ x. AreReadable cfg.wide cfg.long_data x.near.given × AreReadable cfg.wide cfg.long_data x.far.given)
      (sym (laws.over_links cfg.long_data cfg.channels (pair_at Dte n m trace) order))
      (laws.stations.readable cfg.wide cfg.long_data cfg.channels fine.channels (all_over_links (pair_at Dte n m trace))
      (pair_octets (numbers n m) trace octets))

  readable_here : IsConfigured cfg → (end : Role) (n m : ℕ) (trace : List Done) → PairIsInOrder cfg end trace n m → traced.BringOctets cfg.wide trace
      → AreReadable cfg.wide cfg.long_data (here_in end (pair_ends cfg end n m trace)).given
  readable_here fine Dte n m trace order octets = (both_readable fine n m trace order octets).0
  readable_here fine Dce n m trace order octets = (both_readable fine m n trace order octets).1

  -- what such an end puts can be read
  pub own_readable : IsConfigured cfg → (end : Role) (n m : ℕ) (trace : List Done) → PairIsInOrder cfg end trace n m → traced.BringOctets cfg.wide trace
      → AreReadable cfg.wide cfg.long_data (own cfg end n trace).given
  own_readable fine end n m trace order octets = rw (sym (here_is end n m trace)) (readable_here fine end n m trace order octets)

-- ---- each session is one of two in order

-- two sessions in which no end took a packet are in order
pub nothing_in_order : (cfg : Cfg) (end : Role) (trace : List Done) (n m : ℕ) → TakeNothing (own_in end n trace) → TakeNothing (own_in (other end) m trace)
    → PairIsInOrder cfg end trace n m
nothing_in_order cfg Dte trace n m f g =
    order_of_nothing cfg.long_data cfg.channels (pair_at Dte n m trace) (apart_start cfg.long_data cfg.channels)
    (subst TakeNothing (sym (moves_of_pair (numbers n m) Dte trace)) f)
    (subst TakeNothing (sym (moves_of_pair (numbers n m) Dce trace)) g)
nothing_in_order cfg Dce trace n m f g =
    order_of_nothing cfg.long_data cfg.channels (pair_at Dce n m trace) (apart_start cfg.long_data cfg.channels)
    (subst TakeNothing (sym (moves_of_pair (numbers m n) Dte trace)) g)
    (subst TakeNothing (sym (moves_of_pair (numbers m n) Dce trace)) f)

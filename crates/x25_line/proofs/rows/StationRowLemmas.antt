-- The worked rows, by computing: what comes is what the frame is that was spelled, so no frame check sequence is computed.
use Rattle.x25_line.proofs.Names.{◌≡◌, ℕ, ◌<◌, List, [], ◌∷◌, map, Bool, true, false, Result, Ok, Err, arith, refl, sym, ap, ◌∙◌, subst, Role, Dte, Dce}
use Rattle.x25_line.proofs.Names.{PlainFrame, info, rr, sabm, disc, ua, dm, spelling_of, frame_of, ReadsSpelled, FrameError, Short, Down, Waiting, Closed}
use Rattle.x25_line.proofs.Names.{Reset, Counts, Disc, LinkSettings, fresh, pumped, other, alone, closed_by, hears, is_idle, Stations, Put, Deliver, T1}
use Rattle.x25_line.proofs.Names.{Connect, Disconnect, Abandon, LinkEvent, Near, Far, stations_swapped, start, dte}
use Rattle.x25_line.{proofs.StationLines.{AreParting, parts_of, part_reads}, specs.laws.Stations.{after_step, acts, delivered, happens, run}}
use Rattle.x25_line.specs.rows.StationRows.{dce, IsAcrossFive, PacketGoes, PacketsCross, lost, LostComesAgain, damaged, DamagedComesAgain, DisconnectEnds}
use Rattle.x25_line.specs.rows.StationRows.{AbandonEnds, ConnectSetsUp, ConnectIsDeclined}

-- the world once octets that read as this have come to the near end
abbrev pub taken_as : LinkSettings → Result PlainFrame FrameError → List ℕ → List (List ℕ) → Stations → Stations
taken_as c r octets back w = after_step c w back [] (closed_by c.window (hears c octets r w.near.station.phase (alone w.near.station)))

pub comes : (c : LinkSettings) (r : Result PlainFrame FrameError) (octets : List ℕ) (back : List (List ℕ)) (w : Stations)
    → frame_of (other c.role) c.longest octets ≡ r → w.back ≡ octets ∷ back
    → acts c Deliver w ≡ taken_as c r octets back w
comes c r octets back w reads is = ap (λ os. delivered c os w) is ∙ ap (λ z. taken_as c z octets back w) reads

-- what happens: an event, or the front octets of this end's line come, which read as this
data Move : Type 0 where
  Does : (event : LinkEvent) → Move
  Comes : (from : Role) (r : Result PlainFrame FrameError) (octets : List ℕ) (rest : List (List ℕ)) → Move

abbrev sent : Role → PlainFrame → List (List ℕ) → Move
sent from f rest = Comes from (Ok f) (spelling_of from f) rest

abbrev event_of : Move → LinkEvent
event_of (Does event) = event
event_of (Comes Dte r octets rest) = Far Deliver
event_of (Comes Dce r octets rest) = Near Deliver

-- these are so of what happens, and then this of the world
abbrev So : (Stations → Type 0) → List Move → Stations → Type 0
So Q [] w = Q w
So Q (Does event ∷ ms) w = So Q ms (happens dte dce event w)
So Q (Comes Dte r octets rest ∷ ms) w = (w.out ≡ octets ∷ rest) × (frame_of Dte 128 octets ≡ r)
    × So Q ms (stations_swapped (taken_as dce r octets rest (stations_swapped w)))
So Q (Comes Dce r octets rest ∷ ms) w = (w.back ≡ octets ∷ rest) × (frame_of Dce 128 octets ≡ r) × So Q ms (taken_as dte r octets rest w)

row : (Q : Stations → Type 0) (ms : List Move) (w : Stations) → So Q ms w → Q (run dte dce (map event_of ms) w)
row Q [] w h = h
row Q (Does event ∷ ms) w h = row Q ms (happens dte dce event w) h
row Q (Comes Dte r octets rest ∷ ms) w h =
    subst (λ v. Q (run dte dce (map event_of ms) v)) (sym (ap stations_swapped (comes dce r octets rest (stations_swapped w) h.1 h.0))) (row Q ms _ h.2)
row Q (Comes Dce r octets rest ∷ ms) w h =
    subst (λ v. Q (run dte dce (map event_of ms) v)) (sym (comes dte r octets rest w h.1 h.0)) (row Q ms _ h.2)

-- the I frame of the near end
abbrev pub packet_frame : PlainFrame
packet_frame = info 0 0 false (5 ∷ [])

-- the one of the far end
abbrev pub crossing_frame : PlainFrame
crossing_frame = info 0 0 false (7 ∷ [])

-- RR with N(R)=1; RR with P=1 of the end whose timer ran out, and the answer to it with F=1
abbrev pub acknowledging : PlainFrame
acknowledging = rr false 1 false

abbrev pub polling : PlainFrame
polling = rr true 0 true

abbrev pub answering : PlainFrame
answering = rr false 0 true

short_reads : frame_of Dte 128 (1 ∷ 2 ∷ []) ≡ Err Short
unfolding frame_of
short_reads = refl

module _ (reads : ReadsSpelled) where
  -- an I frame of one octet is read back, with N1 128
  pub info_reads : (from : Role) (p : Bool) (x : ℕ) → frame_of from 128 (spelling_of from (info 0 0 p (x ∷ []))) ≡ Ok (info 0 0 p (x ∷ []))
  info_reads from p x =
      reads from 128 (info 0 0 p (x ∷ [])) _ (record { in_range = (omega arith, omega arith); carries = tt; within = omega arith; spelling = refl })

  -- so is SABM, DISC, UA or DM
  pub bare_reads : (from : Role) (f : PlainFrame) → AreParting (f ∷ []) → frame_of from 128 (spelling_of from f) ≡ Ok f
  bare_reads from f h = part_reads reads from 128 (parts_of (f ∷ []) h).0

  -- so is RR
  pub ready_reads : (from : Role) (command : Bool) (nr : ℕ) (pf : Bool) → nr < 8 → frame_of from 128 (spelling_of from (rr command nr pf))
      ≡ Ok (rr command nr pf)
  ready_reads from command nr pf low = reads from 128 (rr command nr pf) _ (record { in_range = low; carries = refl; within = tt; spelling = refl })

  acknowledges : (from : Role) → frame_of from 128 (spelling_of from acknowledging) ≡ Ok acknowledging
  acknowledges from = ready_reads from false 1 false (omega arith)

  polls : frame_of Dte 128 (spelling_of Dte polling) ≡ Ok polling
  polls = ready_reads Dte true 0 true (omega arith)

  answers : frame_of Dce 128 (spelling_of Dce answering) ≡ Ok answering
  answers = ready_reads Dce false 0 true (omega arith)

  pub packet_goes : PacketGoes
  unfolding pumped
  packet_goes = row IsAcrossFive (Does (Near (Put (5 ∷ []))) ∷ sent Dte packet_frame [] ∷ sent Dce acknowledging [] ∷ []) start
      (refl, info_reads Dte false 5, (refl, acknowledges Dce, (refl, refl)))

  -- both are on the line: each end takes one and answers, and then takes the answer
  pub packets_cross : PacketsCross
  unfolding pumped
  packets_cross =
      row (λ z. (z.far.up ≡ (5 ∷ []) ∷ []) × (z.near.up ≡ (7 ∷ []) ∷ []) × (is_idle z.near.station ≡ true) × (is_idle z.far.station ≡ true))
      (Does (Near (Put (5 ∷ []))) ∷ Does (Far (Put (7 ∷ []))) ∷ sent Dte packet_frame []
      ∷ sent Dce crossing_frame (spelling_of Dce acknowledging ∷ []) ∷ sent Dce acknowledging [] ∷ sent Dte acknowledging [] ∷ []) start
      (refl, info_reads Dte false 5, (refl, info_reads Dce false 7, (refl, acknowledges Dce, (refl, acknowledges Dte, (refl, refl, refl, refl)))))

  -- once a poll is on the line, and the packet was not handed up
  abbrev repeats : List Move
  repeats = sent Dte polling [] ∷ sent Dce answering [] ∷ sent Dte packet_frame [] ∷ sent Dce acknowledging [] ∷ []

  pub lost_comes_again : LostComesAgain
  unfolding pumped
  lost_comes_again = (
    refl,
    row IsAcrossFive (Does (Near T1) ∷ repeats) lost
        (refl, polls, (refl, answers, (refl, info_reads Dte false 5, (refl, acknowledges Dce, (refl, refl))))),
  )

  pub damaged_comes_again : DamagedComesAgain
  unfolding pumped
  damaged_comes_again = (
    refl,
    row IsAcrossFive (Does (Near T1) ∷ Comes Dte (Err Short) (1 ∷ 2 ∷ []) (spelling_of Dte polling ∷ []) ∷ repeats) damaged
        (refl, short_reads, (refl, polls, (refl, answers, (refl, info_reads Dte false 5, (refl, acknowledges Dce, (refl, refl)))))),
  )

  pub disconnect_ends : DisconnectEnds
  unfolding pumped
  disconnect_ends =
      row (λ z. (z.near.station.phase ≡ Closed) × (z.far.up ≡ (5 ∷ []) ∷ []) × (z.far.station.phase ≡ Down))
      (Does (Near (Put (5 ∷ []))) ∷ Does (Near Disconnect) ∷ sent Dte packet_frame (spelling_of Dte (disc true) ∷ []) ∷ sent Dte (disc true) [] ∷ []) start
      (refl, info_reads Dte false 5, (refl, bare_reads Dte (disc true) tt, (refl, refl, refl)))

  pub connect_sets_up : ConnectSetsUp
  unfolding pumped
  connect_sets_up =
      row (λ z. (z.far.station ≡ fresh) × (z.far.reasons ≡ Reset ∷ []) × (z.far.came_up ≡ true) × (z.near.station ≡ fresh) × (z.near.reasons ≡ Counts ∷ [])
      × (z.near.came_up ≡ true))
      (Does (Near Abandon) ∷ Does (Near Connect) ∷ sent Dte (sabm true) [] ∷ sent Dce (ua true) [] ∷ []) start
      (refl, bare_reads Dte (sabm true) tt, (refl, bare_reads Dce (ua true) tt, (refl, refl, refl, refl, refl, refl)))

  pub connect_is_declined : ConnectIsDeclined
  unfolding pumped
  connect_is_declined =
      let asks = bare_reads Dte (sabm true) tt in
      let answers = bare_reads Dte (ua true) tt in
      row (λ z. (z.far.station.phase ≡ Closed) × (z.near.station.phase ≡ Waiting) × (z.near.reasons ≡ Disc ∷ []) × (z.near.came_up ≡ false) × (z.back ≡ []))
      (Does (Far Disconnect) ∷ sent Dce (disc true) [] ∷ sent Dte (ua true) [] ∷ Does (Near Connect) ∷ sent Dte (sabm true) [] ∷ sent Dce (dm true) [] ∷ [])
      start
      (refl, bare_reads Dce (disc true) tt, (refl, answers, (refl, asks, (refl, bare_reads Dce (dm true) tt, (refl, refl, refl, refl, refl)))))

pub abandon_ends : AbandonEnds
unfolding pumped
abandon_ends = (refl, refl, refl)

-- Healing of two stations: once the line is good for a moment, what their links were handed down arrives. What is on
-- the line arrives; timer T1 runs out once at each end where it runs; and then all that is on the line arrives, while
-- nothing is lost. What still waits in circuits is pulled then, and arrives too.
use Rattle.std.specs.Prelude.{◌≡◌, ℕ, zero, suc, ◌+◌, ◌<◌, ◌≤◌, length, Bool, true, false, ◌&&◌, List, [], ◌∷◌}
use Rattle.std.specs.Prelude.{◌++◌, Option, Some, None}
use Rattle.x25_bits.specs.{declared.role.Role.{Role}, declared.role.Role.TheVariants.{Dte, Dce}}
use Rattle.x25_link.specs.{Hearing.{other}, Station.{LinkStation, is_up, awaits_ua}, Link.{timer_runs, take_step}}
use Rattle.x25_link.specs.laws.RestLaw.{IsAtRest}
use Rattle.x25_line.specs.{laws.Sessions.{Sessions}, laws.SessionNumbers.{Standing}}
use Rattle.x25_line.specs.Healing.{EachRestShows, SessionsAreHealed, OneIsFree, HasTries, IsAtRestOrOut}
use Rattle.x25_line.specs.laws.HealingPuts.{LinkMayHeal, AreFree, IsDeliveryOrPut, SessionsHaveArrived}
use Rattle.x25_line.specs.laws.SessionClaims.{Each, Each}
use Rattle.x25_layer.specs.{laws.Law.{HasAllOf}, code.FitsLayer.{waits_up_to}}
use Rattle.x25_handshakes.specs.laws.Names.{Name}
use Rattle.x25_station.specs.{declared.config.Cfg.{Cfg}, Command.{Requests, RequestsWith}}
use Rattle.x25_station.specs.Config.{Settings, settings_from, link_settings, layer_settings}
use Rattle.x25_station.specs.{Station.{Station, view_of}, Step.{abandons, layer_at}}
use Rattle.x25_station.specs.Station.Told.{is_at_rest, stretch}
use Rattle.x25_world.specs.World.{World, WorldOutcome, Happened, Declined, Act, Commands, Receives, Fires, Event}
use Rattle.x25_world.specs.{World.{happens, after, run, AreAccepted}, laws.Claims.{AreInOctets, link_of, station_at}}
use Rattle.x25_world.specs.{laws.SessionWindow.{IsRunOfSessions}, laws.Sessions.{last_session, handed_in}}
use Rattle.x25_world.specs.laws.WaitClaims.{pull_at, AllWaitForUsers}
use Rattle.x25_line.specs.laws.Stations as line
use Rattle.x25_line.specs.laws.Sessions as links

-- nothing is on the line
pub record IsDrained (w : World) : Type 0 where
  pub out : w.out ≡ []
  pub back : w.back ≡ []

-- ---- the schedule, with a bound on how many deliveries follow one another, and on how many rounds

-- the front octets come to an end
abbrev pub receipt : Role → Event
receipt at = record { at = at; act = Receives }

abbrev pub all_received : List Role → List Event
all_received [] = []
all_received (at ∷ ends) = receipt at ∷ all_received ends

-- timer T1 runs out at an end
abbrev pub firing : Role → Event
firing at = record { at = at; act = Fires }

-- the end to which the next frame comes: the DCE where one is on the line to it, else the DTE
abbrev pub next_end : List (List ℕ) → List (List ℕ) → Option Role
next_end (octets ∷ to_dce) to_dte = Some Dce
next_end [] (octets ∷ to_dte) = Some Dte
next_end [] [] = None

-- the ends to which what is on the line comes, frame by frame, at most so many of them
abbrev pub arrivals_from : Cfg → (World → List Role) → World → Option Role → List Role
arrivals_from cfg rest w None = []
arrivals_from cfg rest w (Some at) = at ∷ rest (after w (happens cfg w (receipt at)))

unfoldable pub arrivals : Cfg → ℕ → World → List Role
arrivals cfg zero w = []
arrivals cfg (suc n) w = arrivals_from cfg (arrivals cfg n) w (next_end w.out w.back)

abbrev pub deliveries : Cfg → ℕ → World → List Event
deliveries cfg most w = all_received (arrivals cfg most w)

-- an event that is accepted
abbrev pub one_if : Event → WorldOutcome → List Event
one_if e (Happened next) = e ∷ []
one_if e (Declined error) = []

abbrev pub if_accepted : Cfg → Event → World → List Event
if_accepted cfg e w = one_if e (happens cfg w e)

-- one list of events behind another, as each comes from where it begins
abbrev pub behind : Cfg → (World → List Event) → (World → List Event) → World → List Event
behind cfg first rest w = first w ++ rest (run cfg (first w) w)

-- an event at the DTE and one at the DCE, each where it is accepted
abbrev pub both_tried : Cfg → Event → Event → World → List Event
both_tried cfg first second w = behind cfg (if_accepted cfg first) (if_accepted cfg second) w

-- what is on the line comes, and then each end pulls what waits in its circuits
abbrev pub pull_round : Cfg → ℕ → World → List Event
pull_round cfg most w = behind cfg (deliveries cfg most) (both_tried cfg (pull_at Dte) (pull_at Dce)) w

-- the rest, where frames are on the line
abbrev pub unless_empty : (World → List Event) → World → Option Role → List Event
unless_empty rest w None = []
unless_empty rest w (Some at) = rest w

-- round after round, as long as the pulls put frames on the line, at most so many of them
unfoldable pub pull_rounds : Cfg → ℕ → ℕ → World → List Event
pull_rounds cfg most zero w = []
pull_rounds cfg most (suc n) w = behind cfg (pull_round cfg most)
    (λ v. unless_empty (pull_rounds cfg most n) v (next_end v.out v.back)) w

-- timer T1 runs out at each end where it runs, and then come the rounds
abbrev pub fire_and_pull : Cfg → ℕ → World → List Event
fire_and_pull cfg most w = behind cfg (both_tried cfg (firing Dte) (firing Dce)) (pull_rounds cfg most most) w

-- deliver, fire, and then deliver and pull in rounds
abbrev pub healing : Cfg → ℕ → World → List Event
healing cfg most w = behind cfg (deliveries cfg most) (fire_and_pull cfg most) w

-- how many deliveries are among events
abbrev pub received_by : Act → ℕ
received_by Receives = 1
received_by act = 0

abbrev pub received_in : List Event → ℕ
received_in [] = 0
received_in (e ∷ events) = received_by e.act + received_in events

-- ---- two links behind a world

-- a run of two links in sessions, from both down, that has the links and the lines of this world
abbrev pub AreLinksOf : Cfg → World → Sessions → Type 0
AreLinksOf cfg w v = (s : Standing) × IsRunOfSessions cfg w v s

-- ---- what rest shows

-- An end whose link is up and whose timer T1 doesn't run is at rest.
abbrev pub StopsAtRest : Station → Type 0
StopsAtRest s = is_up s.link.phase ≡ true → timer_runs s.link.phase s.link ≡ false → IsAtRest s.link

-- Then all that its link was handed down in its session was handed up at the other end, where that is up or met its
-- session. So where no message waits in a circuit either, all that was sent on a stretch that is open at both ends has
-- arrived.
pub record RestShows (cfg : Cfg) (w : World) : Type 0 where
  pub at_rest : (end : Role) → StopsAtRest (station_at end w)
  pub links : Sessions
  pub are : AreLinksOf cfg w links
  pub arrived : EachRestShows (link_of cfg Dte) (link_of cfg Dce) links
  pub messages : (end : Role) (channel : ℕ) (name : Name) → is_up (station_at end w).link.phase ≡ true
      → timer_runs (station_at end w).link.phase (station_at end w).link ≡ false
      → waits_up_to (station_at end w).layer.circuits cfg.channels.count ≡ 0
      → stretch (settings_from end cfg) (station_at end w) channel ≡ Some name
      → stretch (settings_from (other end) cfg) (station_at (other end) w) channel ≡ Some name
      → HasAllOf channel name (handed_in end (last_session end w) w)
      (handed_in (other end) (last_session (other end) w) w)

-- ---- where the layers put nothing

-- as the front octets come, the layer puts nothing, and no count of it is at its most
abbrev pub PutsNothing : Settings → Station → List (List ℕ) → Type 0
PutsNothing c s [] = Unit {0}
PutsNothing c s (octets ∷ back) =
    let k = take_step (link_settings c) octets s.link in
    (abandons c s ≡ false)
    × ((layer_at (view_of (link_settings c) s.turn k.side.near)
    (layer_settings c) c.wide s.layer k.packet k.notes.down k.notes.up).put ≡ [])

abbrev pub PutsNothingAt : Cfg → Role → World → Type 0
PutsNothingAt cfg Dte w = PutsNothing (settings_from Dte cfg) w.near w.back
PutsNothingAt cfg Dce w = PutsNothing (settings_from Dce cfg) w.far w.out

-- it puts nothing at each of these deliveries
abbrev pub NonePut : Cfg → List Role → World → Type 0
NonePut cfg [] w = Unit {0}
NonePut cfg (at ∷ ends) w = PutsNothingAt cfg at w × NonePut cfg ends (after w (happens cfg w (receipt at)))

-- ---- healing

-- Both links are at rest, and all that they were handed down in their sessions has been handed up at the other end: two
-- links behind the first world have gone on to two behind the second.
pub record IsHealed (cfg : Cfg) (w u : World) : Type 0 where
  pub dte : IsAtRest u.near.link
  pub dce : IsAtRest u.far.link
  pub before : Sessions
  pub behind : Sessions
  pub before_are : AreLinksOf cfg w before
  pub behind_are : AreLinksOf cfg u behind
  pub healed : SessionsAreHealed before behind

-- Each link is at rest, or not up. If both were up, and timer T1 had run out fewer than N2 times where it ran, both are
-- at rest, and all has arrived.
pub record Heals (cfg : Cfg) (w u : World) : Type 0 where
  pub dte : IsAtRestOrOut u.near.link
  pub dce : IsAtRestOrOut u.far.link
  pub healed : HasTries cfg.n2 w.near.link → HasTries cfg.n2 w.far.link → IsHealed cfg w u

-- a moment in which nothing is on the line, no link is being set up, and not both ends are busy
pub record MayHeal (w : World) : Type 0 where
  pub drained : IsDrained w
  pub near : awaits_ua w.near.link.phase ≡ false
  pub far : awaits_ua w.far.link.phase ≡ false
  pub free : OneIsFree w.near.link w.far.link

-- From such a moment timer T1 runs out at each end where it runs, and then all that is on the line comes, in any order
-- of the two directions, while the layers put nothing.
abbrev pub HealsWhereNonePut : Cfg → World → Type 0
HealsWhereNonePut cfg w =
    MayHeal w → (ends : List Role)
    → (let fired = run cfg (firing Dte ∷ firing Dce ∷ []) w in NonePut cfg ends fired
    → (let u = run cfg (all_received ends) fired in IsDrained u → Heals cfg w u))

-- ---- healing while the layers put packets

-- the front octets come, or a user asks something of the layer
abbrev pub IsReceiptOrRequest : Act → Type 0
IsReceiptOrRequest Receives = Unit {0}
IsReceiptOrRequest (Commands (Requests request)) = Unit {0}
IsReceiptOrRequest (Commands (RequestsWith given request)) = Unit {0}
IsReceiptOrRequest act = ⊥

-- each of them is so, at either end, in any order
abbrev pub AreReceiptsAndRequests : List Event → Type 0
AreReceiptsAndRequests events = Each (λ (e : Event). IsReceiptOrRequest e.act) events

-- as octets come to a station, neither link is busy, and no count of the station is at its most
abbrev pub ComeFreely : Settings → Station → LinkStation → List (List ℕ) → Type 0
ComeFreely c s far [] = Unit {0}
ComeFreely c s far (octets ∷ back) = (abandons c s ≡ false) × AreFree s.link far

abbrev pub ActsFreely : Settings → Station → LinkStation → List (List ℕ) → Act → Type 0
ActsFreely c s far back Receives = ComeFreely c s far back
ActsFreely c s far back act = Unit {0}

abbrev pub FreeAt : Cfg → Role → Act → World → Type 0
FreeAt cfg Dte act w = ActsFreely (settings_from Dte cfg) w.near w.far.link w.back act
FreeAt cfg Dce act w = ActsFreely (settings_from Dce cfg) w.far w.near.link w.out act

-- at each delivery of a run, and neither link is busy at its end
abbrev pub FreeThroughout : Cfg → List Event → World → Type 0
FreeThroughout cfg [] w = AreFree w.near.link w.far.link
FreeThroughout cfg (e ∷ events) w = FreeAt cfg e.at e.act w × FreeThroughout cfg events (after w (happens cfg w e))

-- a moment in which nothing is on the line, and both links are up, neither is busy, and where timer T1 runs, tries are
-- left
pub record BothMayHeal (cfg : Cfg) (w : World) : Type 0 where
  pub drained : IsDrained w
  pub near : LinkMayHeal cfg.n2 w.near.link
  pub far : LinkMayHeal cfg.n2 w.far.link

-- Both links are at rest, in the same sessions as before, and all that they were handed down in these, then and since,
-- has been handed up at the other end: two links behind the first world have gone on to two behind the second.
pub record HaveArrived (cfg : Cfg) (w u : World) : Type 0 where
  pub dte : IsAtRest u.near.link
  pub dce : IsAtRest u.far.link
  pub before : Sessions
  pub behind : Sessions
  pub before_are : AreLinksOf cfg w before
  pub behind_are : AreLinksOf cfg u behind
  pub asked : List line.LinkEvent
  pub are : Each IsDeliveryOrPut asked
  pub goes : links.run (link_of cfg Dte) (link_of cfg Dce) (line.Near line.T1 ∷ line.Far line.T1 ∷ asked) before
      ≡ behind
  pub arrived : SessionsHaveArrived before behind

-- From such a moment timer T1 runs out at each end where it runs. Then what is on the line comes, and users ask of the
-- layers, in any order, until nothing is on the line. What is refused changes nothing.
abbrev pub HealsWithPuts : Cfg → World → Type 0
HealsWithPuts cfg w =
    BothMayHeal cfg w → (events : List Event) → AreReceiptsAndRequests events → AreInOctets events
    → (let fired = run cfg (firing Dte ∷ firing Dce ∷ []) w in FreeThroughout cfg events fired
    → (let u = run cfg events fired in IsDrained u → HaveArrived cfg w u))

-- ---- deliveries come to an end

-- The world bounds how many deliveries follow one another, whatever their order, while the layers put nothing.
abbrev pub DrainsWhereNonePut : Cfg → World → Type 0
DrainsWhereNonePut cfg w = (most : ℕ) × ((ends : List Role) → NonePut cfg ends w → AreAccepted cfg (all_received ends) w
    → length ends ≤ most)

-- ---- what healing brings

-- both links are at rest
abbrev pub are_at_rest : World → Bool
are_at_rest w = is_at_rest w.near && is_at_rest w.far

-- Behind the schedule from a world both links are at rest: from the moment in which all that was on the line has come,
-- all that the links were handed down has arrived, and what still waits in circuits waits for users who aren't ready.
pub record AllArrives (cfg : Cfg) (w u : World) : Type 0 where
  pub at_rest : are_at_rest u ≡ true
  pub links : HaveArrived cfg w u
  pub waits : AllWaitForUsers cfg u

-- It is so where both links are up in that moment, neither is busy then nor as octets come behind the firings, no count
-- is at its most there, and the rounds have left nothing on the line.
abbrev pub ArrivesByHealing : Cfg → ℕ → World → World → Type 0
ArrivesByHealing cfg most w u =
    let v = run cfg (deliveries cfg most w) w in
    let fired = run cfg (firing Dte ∷ firing Dce ∷ []) v in
    BothMayHeal cfg v → FreeThroughout cfg (pull_rounds cfg most most fired) fired → IsDrained u → AllArrives cfg v u

-- by the schedule with any bound that lets a round be
abbrev pub HealingBringsAll : Cfg → World → Type 0
HealingBringsAll cfg w = (most : ℕ) → 0 < most → ArrivesByHealing cfg most w (run cfg (healing cfg most w) w)

-- Two links that are behind the world have handed up all that they were handed down in their sessions, and what still
-- waits in circuits waits for users who aren't ready.
pub record AllHasCome (cfg : Cfg) (w : World) : Type 0 where
  pub links : Sessions
  pub are : AreLinksOf cfg w links
  pub there : links.far.up links.far.begun ≡ links.near.down links.near.begun
  pub back : links.near.up links.near.begun ≡ links.far.down links.far.begun
  pub waits : AllWaitForUsers cfg w

-- Whatever happened on the line, it is so where both links are at rest behind the schedule.
abbrev pub RestShowsAll : Cfg → World → Type 0
RestShowsAll cfg w = are_at_rest w ≡ true → AllHasCome cfg w

abbrev pub HealingRestShowsAll : Cfg → World → Type 0
HealingRestShowsAll cfg w = (most : ℕ) → 0 < most → RestShowsAll cfg (run cfg (healing cfg most w) w)

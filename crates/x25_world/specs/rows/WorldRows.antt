-- Worked rows of two stations over a line: what is lost and arrives once the line heals, what is given beside a packet,
-- what is confirmed, and sessions that meet.
use Rattle.std.specs.Prelude.{◌≡◌, ℕ, zero, suc, true, false, List, [], ◌∷◌, ◌++◌, Some, None, codes}
use Rattle.x25_bits.specs.{declared.role.Role.{Role}, declared.role.Role.TheVariants.{Dte, Dce}}
use Rattle.x25_link.specs.declared.phase.Reason.TheVariants.{Reset, Retries}
use Rattle.x25_packet.specs.Marks.{with_q}
use Rattle.x25_circuit.specs.{Params.{default_params, in_brief}, Calling.{Accepts, Sends}}
use Rattle.x25_given.specs.Given.{PlainGiven}
use Rattle.x25_handshakes.specs.laws.Names.{Name}
use Rattle.x25_layer.specs.{Ranges.{two_way}, Calls.{LayerRequest, Asks, Dials, Restarts}}
use Rattle.x25_layer.specs.laws.Transcript.{under, messages_in}
use Rattle.x25_station.specs.{declared.config.Cfg.{Cfg}, Command.{Requests, RequestsWith, Connects}}
use Rattle.x25_station.specs.Entry.{StationEntry, restart_asked, connect_asked, link_up, link_down, was_restarted}
use Rattle.x25_world.specs.World.{AtEnd, World, Act, Commands, Receives, Fires, Loses, Event}
use Rattle.x25_world.specs.{World.{run, start, established}, laws.BesideClaims.{came_in, gave_in}}
use Rattle.x25_world.specs.{laws.Claims.{handed_at}, laws.ConfirmedClaims.{confirmed_in}}
use Rattle.x25_world.specs.Healing.{IsDrained, firing, AreReceiptsAndRequests, FreeThroughout, BothMayHeal}
use Rattle.x25_world.specs.laws.Sessions.{session_at, meets}

abbrev pub two_channels : Cfg
two_channels = record { k = 7; n2 = 10; channels = two_way 2; long_data = false; say_sizes = false; wide = false }

abbrev pub event : Role → Act → Event
event at act = record { at = at; act = act }

abbrev pub asks : Role → LayerRequest → Event
asks at request = event at (Commands (Requests request))

-- so many deliveries at each end by turns; where nothing is on the line, nothing changes
abbrev pub delivers : ℕ → List Event
delivers zero = []
delivers (suc n) = event Dce Receives ∷ event Dte Receives ∷ delivers n

-- ---- a call of the DTE, on the highest channel, and a message

abbrev pub called : World
called = run two_channels (delivers 3
    ++ asks Dte (Dials (codes "123") (codes "4567") (65 ∷ []) (in_brief default_params)) ∷ delivers 2
    ++ asks Dce (Asks 2 (Accepts None)) ∷ delivers 2) (established two_channels)

abbrev pub sends_hi : Event
sends_hi = asks Dte (Asks 2 (Sends (with_q false) (codes "hi")))

-- the name of the first call's stretch, behind the RESTARTs of set-up
abbrev pub first_stretch : Name
first_stretch = record { restarts = 1; clears = 0; resets = 0 }

-- Its frame is lost, and timer T1 runs out. One more is sent, which waits; then the poll comes, its answer, and both
-- messages, behind each of which the layer of the DCE puts a packet.
abbrev pub hi_lost : World
hi_lost = run two_channels (sends_hi ∷ event Dce (Loses 0) ∷ []) called

abbrev pub sends_more : List Event
sends_more = asks Dte (Asks 2 (Sends (with_q false) (codes "ho"))) ∷ delivers 4
    ++ event Dte Receives ∷ event Dce Receives ∷ []

-- it is a moment in which both may heal; no end is busy behind the firings, and both messages have been handed up
abbrev pub MoreArrives : Type 0
MoreArrives =
    BothMayHeal two_channels hi_lost × AreReceiptsAndRequests sends_more
    × (let fired = run two_channels
    (firing Dte ∷ firing Dce ∷ []) hi_lost in FreeThroughout two_channels sends_more fired
    × (let u = run two_channels sends_more fired in IsDrained u
    × ((messages_in (under 2 first_stretch (handed_at Dce u))).up
    ≡ record { marks = with_q false; user = codes "hi" } ∷ record { marks = with_q false; user = codes "ho" } ∷ [])))

-- ---- something given with a call and its acceptance, at stations that read packets in all their forms

abbrev pub in_all_forms : Cfg
in_all_forms = record { k = 7; n2 = 10; channels = two_way 2; long_data = false; say_sizes = false; wide = true }

abbrev pub reverse_charging : PlainGiven
reverse_charging = record { facilities = 1 ∷ 1 ∷ []; user = []; d = false }

abbrev pub one_octet : PlainGiven
one_octet = record { facilities = []; user = 111 ∷ []; d = false }

abbrev pub gives : Role → PlainGiven → LayerRequest → Event
gives at given request = event at (Commands (RequestsWith given request))

abbrev pub calls_and_accepts : List Event
calls_and_accepts = delivers 3
    ++ gives Dte reverse_charging (Dials (codes "123") (codes "4567") [] (in_brief default_params)) ∷ delivers 2
    ++ gives Dce one_octet (Asks 2 (Accepts None)) ∷ delivers 2

-- each user is told of what the other one gave
abbrev pub GivenArrives : Type 0
GivenArrives =
    (let begin = established in_all_forms in let w = run in_all_forms calls_and_accepts begin in
    (gave_in in_all_forms Dte 1 calls_and_accepts begin ≡ record { channel = Some 2; given = reverse_charging } ∷ [])
    × (came_in (session_at Dce 1 w.transcript) ≡ record { channel = 2; facilities = 1 ∷ 1 ∷ []; user = [] } ∷ [])
    × (gave_in in_all_forms Dce 1 calls_and_accepts begin ≡ record { channel = Some 2; given = one_octet } ∷ [])
    × (came_in (session_at Dte 1 w.transcript) ≡ record { channel = 2; facilities = []; user = 111 ∷ [] } ∷ []))

-- ---- a message whose confirmation is asked, at such stations

abbrev pub asked_hi : LayerRequest
asked_hi = Asks 2 (Sends (record { q = false; d = true }) (codes "hi"))

-- it is handed up once, with its mark, and its end is told so
abbrev pub ConfirmedArrives : Type 0
ConfirmedArrives =
    (let w = run in_all_forms (calls_and_accepts ++ asks Dte asked_hi ∷ delivers 2) (established in_all_forms) in
    ((messages_in (under 2 first_stretch (handed_at Dce w))).up
    ≡ record { marks = record { q = false; d = true }; user = codes "hi" } ∷ [])
    × (confirmed_in 2 first_stretch (session_at Dte 1 w.transcript) ≡ 1)
    × (confirmed_in 2 first_stretch (session_at Dce 1 w.transcript) ≡ 0))

-- ---- `connect`, from two links that are down

abbrev pub connects : Role → Event
connects at = event at (Commands Connects)

abbrev pub tells : Role → StationEntry → AtEnd
tells at entry = record { at = at; entry = entry }

-- what both ends tell of a set-up
abbrev pub told_of_set_up : List AtEnd
told_of_set_up =
    tells Dce link_up ∷ tells Dte link_up
    ∷ tells Dce (was_restarted 0 0) ∷ tells Dte (was_restarted 7 0) ∷ []

-- UA is lost; timer T1 runs out, SABM goes again, and the DCE, which was up, is set up anew
abbrev pub told_of_two_set_ups : List AtEnd
told_of_two_set_ups = tells Dte connect_asked ∷ tells Dce link_up
    ∷ tells Dce (link_down Reset) ∷ told_of_set_up

abbrev pub ConnectGoesAgain : Type 0
ConnectGoesAgain =
    (run two_channels (connects Dte ∷ event Dce Receives ∷ event Dte
    (Loses 0) ∷ event Dte Fires ∷ delivers 4) start).transcript ≡ told_of_two_set_ups

-- the first session of the DCE meets none, and its second is the one that meets the first of the DTE
abbrev pub SecondMeetsFirst : Type 0
SecondMeetsFirst =
    (meets Dte 1 told_of_two_set_ups ≡ Some 2) × (meets Dce 1 told_of_two_set_ups ≡ None)
    × (meets Dce 2 told_of_two_set_ups ≡ Some 1) × (session_at Dce 1 told_of_two_set_ups ≡ link_up ∷ [])
    × (session_at Dce 2 told_of_two_set_ups ≡ link_up ∷ was_restarted 0 0 ∷ [])

-- where an end sends once more and then leaves
abbrev pub one_try : Cfg
one_try = record { k = 7; n2 = 1; channels = two_way 2; long_data = false; say_sizes = false; wide = false }

abbrev pub loses_one : Event
loses_one = event Dce (Loses 0)

-- after a set-up the DTE asks for a restart, which is lost twice, so that it leaves; and asks for set-up
abbrev pub told_twice : List AtEnd
told_twice =
    told_of_set_up ++ tells Dte (restart_asked 0 0) ∷ tells Dte (link_down Retries)
    ∷ tells Dte connect_asked
    ∷ tells Dce (link_down Reset) ∷ told_of_set_up

-- the first sessions meet each other, and so do the second
abbrev pub SecondMeet : Type 0
SecondMeet =
    ((run one_try (delivers 2
    ++ asks Dte (Restarts 0 0) ∷ loses_one ∷ event Dte Fires ∷ loses_one ∷ event Dte Fires ∷ connects Dte ∷ delivers 2)
    (established one_try)).transcript ≡ told_twice)
    × (meets Dte 1 told_twice ≡ Some 1) × (meets Dce 1 told_twice ≡ Some 1) × (meets Dte 2 told_twice ≡ Some 2)
    × (meets Dce 2 told_twice ≡ Some 2)

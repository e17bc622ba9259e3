-- Worked rows of two joined programs: what they read, and what they write.
use Rattle.x25_packet.specs.Marks.{with_q}
use Rattle.std.specs.Prelude.{◌≡◌, ℕ, true, false, List, [], ◌∷◌, ◌++◌, Some, codes}
use Rattle.x25_bits.specs.declared.role.Role.TheVariants.{Dte, Dce}
use Rattle.x25_handshakes.specs.laws.Names.{Name}
use Rattle.x25_layer.specs.Ranges.{two_way}
use Rattle.x25_layer.specs.laws.Transcript.{under, messages_in}
use Rattle.x25_station.specs.declared.config.Cfg.{Cfg}
use Rattle.x25_station.specs.Config.{settings_from}
use Rattle.x25_station.specs.Station.Told.{is_idle, stretch}
use Rattle.x25_pipe.specs.Pipe.{station_text}
use Rattle.x25_joined.specs.laws.Joined.{Joined, Act, Reads, Takes, Loses, Damages, Happening, nothing_read, run}
use Rattle.x25_joined.specs.laws.Joined.{IsPossibleAt, ArePossible}
use Rattle.x25_joined.specs.laws.JoinedClaims.{station_by, handed_by}

abbrev pub usual : Cfg
usual = record { k = 7; n2 = 10; channels = two_way 1; long_data = false; say_sizes = false; wide = false }

abbrev pub dte : Act → Happening
dte act = record { at = Dte; act = act }

abbrev pub dce : Act → Happening
dce act = record { at = Dce; act = act }

abbrev pub after : List Happening → Joined
after history = run usual history nothing_read

-- it may happen, nothing is left on the line, and these are the texts that the programs of the DTE and of the DCE write
pub record Write (history : List Happening) (of_dte of_dce : List ℕ) : Type 0 where
  pub possible : ArePossible usual history nothing_read
  pub near : station_text Dte usual (after history).near ≡ of_dte
  pub far : station_text Dce usual (after history).far ≡ of_dce
  pub out : (after history).out ≡ []
  pub back : (after history).back ≡ []

-- ---- set-up, and the RESTARTs of both ends

abbrev pub sets_up : List Happening
sets_up = dte (Reads (codes "dte connect")) ∷ dce Takes ∷ dte Takes ∷ dte Takes ∷ dce Takes ∷ dce Takes ∷ dte Takes ∷ []

abbrev pub LinkIsSetUp : Type 0
LinkIsSetUp = Write sets_up
    (codes ". off busy\ndte connect\n> 013febdf\n. start busy\ndte linkup\n> 01001000fb00007702\n"
    ++ codes ". start busy\ndte restarted cause=7 diag=0\n> 0321a415\n. on busy\n. off idle\n")
    (codes ". off busy\ndce linkup\n< 01738357\n< 03001000fb0700c478\n. start busy\n"
    ++ codes "dce restarted cause=0 diag=0\n< 01211426\n. on busy\n. off idle\n")

-- ---- SABM is lost, or damaged; T1 runs out, and it goes again

abbrev pub LostSabmGoesAgain : Type 0
LostSabmGoesAgain = Write (dte (Reads (codes "dte connect")) ∷ dce (Loses 0) ∷ dte (Reads (codes "t1 dte")) ∷ dce
    (Damages 0 (1 ∷ 63 ∷ 0 ∷ 0 ∷ [])) ∷ dce Takes ∷ dte (Reads (codes "t1 dte")) ∷ dce (Loses 0) ∷ [])
    (codes ". off busy\ndte connect\n> 013febdf\n. start busy\n> 013febdf\n. start busy\n> 013febdf\n. start busy\n")
    (codes ". off busy\n. off busy\n")

-- while SABM is on the line T1 doesn't run out
abbrev pub FiringHasToWait : Type 0
FiringHasToWait = IsPossibleAt usual (after (dte (Reads (codes "dte connect")) ∷ [])) Dte (Reads (codes "t1 dte")) → ⊥

-- ---- what is refused, and what names the other end's user, does nothing

abbrev pub OtherLinesDoNothing : Type 0
OtherLinesDoNothing = Write (dte (Reads (codes "dce connect")) ∷ dte (Reads (codes "drain 1")) ∷ dte
    (Reads (codes "t1 dte")) ∷ dce (Reads (codes "dte connect")) ∷ dce Takes ∷ [])
    (codes ". off busy\n? 60\n. off busy\n? 60\n. off busy\n! 11\n. off busy\n")
    (codes ". off busy\n? 60\n. off busy\n")

-- ---- a call, its acceptance, and a message

abbrev pub call_with_message : List Happening
call_with_message =
    sets_up ++ dte (Reads (codes "dte call 123 4567 41")) ∷ dce Takes ∷ dte Takes ∷ dce
    (Reads (codes "dce accept 1")) ∷ dte Takes ∷ dce Takes ∷ dte (Reads (codes "dte send 1 0 6869"))
    ∷ dce Takes ∷ dte Takes ∷ dte Takes ∷ dce Takes ∷ []

abbrev pub first_stretch : Name
first_stretch = record { restarts = 1; clears = 0; resets = 0 }

-- the message was handed up at the DCE, once, and the DTE is idle in that stretch
abbrev pub MessageArrives : Type 0
MessageArrives =
    ((messages_in (under 1 first_stretch (handed_by usual Dce (after call_with_message)))).up
    ≡ record { marks = with_q false; user = codes "hi" } ∷ [])
    × (is_idle (settings_from Dte usual) (station_by usual Dte (after call_with_message)) ≡ true)
    × (stretch (settings_from Dte usual) (station_by usual Dte (after call_with_message)) 1 ≡ Some first_stretch)
    × (stretch (settings_from Dce usual) (station_by usual Dce (after call_with_message)) 1 ≡ Some first_stretch)

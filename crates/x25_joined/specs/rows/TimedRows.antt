-- A worked row of a program with a clock that is joined to a peer: what it reads, and what it writes.
use Rattle.std.specs.Prelude.{◌≡◌, ℕ, List, [], ◌∷◌, ◌++◌, codes}
use Rattle.x25_bits.specs.declared.role.Role.TheVariants.{Dte, Dce}
use Rattle.x25_clock.specs.Times.{standard}
use Rattle.x25_line.specs.laws.Sessions.{Entry}
use Rattle.x25_pipe.specs.Timed.{timed_text}
use Rattle.x25_station.specs.Config.{settings_from}
use Rattle.x25_joined.specs.laws.BesidePeer.{Program}
use Rattle.x25_joined.specs.laws.Joined.{Joined, Reads, Takes, Loses, Happening, nothing_read}
use Rattle.x25_joined.specs.rows.JoinedRows.{usual, dte, dce}
use Rattle.x25_joined.specs.laws.TimedPeer.{ReachedTimed}
use Rattle.x25_joined.specs.laws.TimedJoined.{Clocks, IsPossibleAt, ArePossible, run}

-- SABM, before the first session
abbrev pub sabm : Entry
sabm = record { session = 0; octets = 1 ∷ 63 ∷ 235 ∷ 223 ∷ [] }

-- The time is said, the program asks that the link be set up, and SABM is lost. Three seconds later T1 is due: it is
-- asked, and SABM goes again.
pub record SabmGoesAgain : Type 0 where
  pub program : Program
  pub reached : ReachedTimed (settings_from Dte usual) (standard Dte) program
  pub text : timed_text (settings_from Dte usual) (standard Dte) program.read
      ≡ codes ". - busy\n. - busy\ndte connect\n> 013febdf\n. 3000 busy\n"
      ++ codes "dte timeout T1\n> 013febdf\n. 6000 busy\n"
  pub out : program.out ≡ sabm ∷ []

-- ---- two programs, each with the times of Annex D of its end

abbrev pub clocks : Clocks
clocks = standard

abbrev pub after : List Happening → Joined
after history = run usual clocks history nothing_read

-- it may happen, nothing is left on the line, and these are the texts that the programs write
pub record Write (history : List Happening) (of_dte of_dce : List ℕ) : Type 0 where
  pub possible : ArePossible usual clocks history nothing_read
  pub near : timed_text (settings_from Dte usual) (clocks Dte) (after history).near ≡ of_dte
  pub far : timed_text (settings_from Dce usual) (clocks Dce) (after history).far ≡ of_dce
  pub out : (after history).out ≡ []
  pub back : (after history).back ≡ []

-- SABM is lost, T1 is due, and it goes again; then the link is up, and both restart
abbrev pub LinkIsSetUpTimed : Type 0
LinkIsSetUpTimed = Write (dte (Reads (codes "@ 0")) ∷ dte (Reads (codes "dte connect")) ∷ dce (Loses 0)
    ∷ dte (Reads (codes "@ 3000")) ∷ dce Takes ∷ dte Takes ∷ dte Takes ∷ dce Takes ∷ dce Takes ∷ dte Takes ∷ [])
    (codes ". - busy\n. - busy\ndte connect\n> 013febdf\n. 3000 busy\ndte timeout T1\n> 013febdf\n. 6000 busy\ndte linkup\n"
    ++ codes "> 01001000fb00007702\n. 6000 busy\ndte restarted cause=7 diag=0\n> 0321a415\n. 6000 busy\n. 63000 idle\n")
    (codes ". - busy\ndce linkup\n< 01738357\n< 03001000fb0700c478\n. 3000 busy\n"
    ++ codes "dce restarted cause=0 diag=0\n< 01211426\n. 3000 busy\n. 60000 idle\n")

-- while SABM is on the line no time is said at which T1 is due
abbrev pub TimeHasToWait : Type 0
TimeHasToWait =
    IsPossibleAt usual clocks (after (dte (Reads (codes "@ 0")) ∷ dte (Reads (codes "dte connect")) ∷ [])) Dte
    (Reads (codes "@ 3000")) → ⊥

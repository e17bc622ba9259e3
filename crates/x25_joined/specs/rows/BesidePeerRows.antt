-- A worked row of a program that is joined to a peer: what it reads, and what it writes.
use Rattle.std.specs.Prelude.{◌≡◌, true, [], ◌∷◌, ◌++◌, codes}
use Rattle.x25_bits.specs.declared.role.Role.TheVariants.{Dte}
use Rattle.x25_line.specs.laws.Sessions.{Meeting}
use Rattle.x25_station.specs.declared.config.Cfg.{Cfg}
use Rattle.x25_station.specs.Config.{settings_from}
use Rattle.x25_pipe.specs.Pipe.{station_text}
use Rattle.x25_joined.specs.laws.BesidePeer.{Program, ReachedProgram}
use Rattle.x25_joined.specs.rows.JoinedRows.{usual}

-- as usual, and with packets in all their forms
abbrev pub of_all_forms : Cfg
of_all_forms = record usual { wide = true }

abbrev pub first_sessions : Meeting
first_sessions = record { near = 1; far = 1 }

-- The program asks that the link be set up, and the peer answers. The peer takes the RESTART, confirms it, and calls;
-- the call is reported, and the user accepts it with a facility and the D bit. Three I frames were heard, each of the
-- first session of the one in that of the other.
pub record CallIsAccepted : Type 0 where
  pub program : Program
  pub reached : ReachedProgram (settings_from Dte of_all_forms) program
  pub text : station_text Dte of_all_forms program.read
      ≡ codes ". off busy\ndte connect\n> 013febdf\n. start busy\ndte linkup\n> 01001000fb00007702\n"
      ++ codes ". start busy\ndte restartdone\n> 0321a415\n. off idle\n"
      ++ codes "dte incoming ch=1 at 1.0.0 called=- calling=- data=-\n> 0341a276\n. off idle\n"
      ++ codes "dte accept ch=1\n> 014250010f00020180f4a6\n. start busy\n"
  pub met : program.met ≡ first_sessions ∷ first_sessions ∷ first_sessions ∷ []

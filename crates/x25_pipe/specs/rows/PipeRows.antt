-- Worked input of one station behind a pipe: what is written for it, and the status.
use Rattle.std.specs.Prelude.{◌≡◌, ℕ, false, List, [], ◌++◌, codes}
use Rattle.x25_bits.specs.declared.role.Role.{Role}
use Rattle.x25_bits.specs.declared.role.Role.TheVariants.{Dte, Dce}
use Rattle.x25_layer.specs.Ranges.{two_way}
use Rattle.x25_station.specs.declared.config.Cfg.{Cfg}
use Rattle.x25_pipe.specs.Pipe.{station_text, station_status}

abbrev pub usual : Cfg
usual = record { k = 7; n2 = 10; channels = two_way 1; long_data = false; say_sizes = false; wide = false }

abbrev pub IsAnswered : Role → List ℕ → List ℕ → ℕ → Type 0
IsAnswered end input text status = (station_text end usual input ≡ text) × (station_status end usual input ≡ status)

-- nothing was read
abbrev pub MarkComesFirst : Type 0
MarkComesFirst = IsAnswered Dte [] (codes ". off busy\n") 0

-- the link comes up, the other end restarts, and this one calls; T1 runs out
abbrev pub CallGoesOut : Type 0
CallGoesOut = IsAnswered Dte
    (codes "dte connect\n< 01738357\n< 03001000fb0700c478\n< 01211426\ndte call 123 4567 41\nt1 dte\n")
    (codes ". off busy\ndte connect\n> 013febdf\n. start busy\ndte linkup\n> 01001000fb00007702\n"
    ++ codes ". start busy\ndte restarted cause=7 diag=0\n> 0321a415\n. on busy\n. off idle\n"
    ++ codes "dte call ch=1 at 1.0.0 called=123 calling=4567 data=41\n> 012210010b431234567000417605\n"
    ++ codes ". start busy\n> 01319536\n. start busy\n") 0

-- the other end's lines, what a line alone can have happen, and a refusal
abbrev pub OthersAreRefused : Type 0
OthersAreRefused = IsAnswered Dce (codes "dte connect\n< 01738357\ndrain 1\nheal\nt1 dce\n")
    (codes ". off busy\n? 60\n. off busy\n? 60\n. off busy\n? 60\n. off busy\n? 60\n. off busy\n! 11\n. off busy\n") 1

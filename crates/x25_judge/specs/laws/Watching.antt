-- A trace taken in front of a station, beside an end that may be any, line by line.
use Rattle.std.specs.Prelude.{◌≡◌, ℕ, ◌+◌, ◌%◌, ◌==◌, ◌<◌, false, List, [], ◌∷◌, ◌++◌, length, if◌then◌else◌}
use Rattle.x25_frame.specs.Frame.{PlainFrame, info}
use Rattle.x25_judge.specs.Judge.{answer_to}
use Rattle.x25_judge.specs.declared.judge.Judge.{Judge}
use Rattle.x25_line.specs.laws.Stations.{StationEnd, Stations, Act, acts, fresh_station}
use Rattle.x25_link.specs.{Hearing.{other}, Station.{LinkSettings}}
use Rattle.x25_judge.specs.laws.Session.{IsSetUp, Shows, IsDamaged, IsNumbered}

-- The judge, the station, what the I frames of the other end carried, each number once, the octets between the tape and
-- the station, front first, and how many of the other end were shown since there were none.
pub record Watched : Type 0 where
  pub judge : Judge
  pub near : StationEnd
  pub shown : List (List ℕ)
  pub out : List (List ℕ)
  pub back : List (List ℕ)
  pub since : ℕ

abbrev pub our_end : Watched → Stations
our_end w = record { near = w.near; far = fresh_station; out = w.out; back = w.back; sent = [] }

abbrev pub acted : Watched → Stations → Watched
acted w v = record w { near = v.near; out = v.out; back = v.back }

-- the next number for the first time
abbrev pub more : PlainFrame → List (List ℕ) → List (List ℕ)
more (info ns nr pf packet) shown = if ns == length shown % 8 then shown ++ packet ∷ [] else shown
more frame shown = shown

-- Lines of the other end are as `Passes` has it. Where `Damage` holds they may be damaged, and where `MayLag` does of
-- how many there were, one more may be shown.
pub data IsWatched (Passes : Judge → List ℕ → Type 0) (Damage : Type 0) (MayLag : ℕ → Type 0) (c : LinkSettings)
    : Watched → Type 0 where
  -- the trace has shown a set-up
  Begins : (j : Judge) → IsSetUp j → IsWatched Passes Damage MayLag c
      (record { judge = j; near = fresh_station; shown = []; out = []; back = []; since = 0 })
  -- the station acts; or octets are lost or damaged between the tape and the station
  Acts : (w : Watched) (act : Act) → IsWatched Passes Damage MayLag c w
      → IsWatched Passes Damage MayLag c (acted w (acts c act (our_end w)))
  -- nothing is between the tape and the station
  Rests : (w : Watched) → w.out ≡ [] → w.back ≡ [] → IsWatched Passes Damage MayLag c w
      → IsWatched Passes Damage MayLag c (record w { since = 0 })
  -- octets of the station are on the tape
  Says : (w : Watched) (line octets : List ℕ) (frame : PlainFrame) (rest : List (List ℕ)) → w.out ≡ octets ∷ rest
      → Shows line c.role octets frame → IsNumbered frame → IsWatched Passes Damage MayLag c w
      → IsWatched Passes Damage MayLag c (record w { judge = (answer_to w.judge line).next; out = rest })
  -- octets of the other end are
  Comes : (w : Watched) (line octets : List ℕ) (frame : PlainFrame) → Shows line (other c.role) octets frame
      → IsNumbered frame → Passes w.judge line → MayLag w.since → IsWatched Passes Damage MayLag c w
      → IsWatched Passes Damage MayLag c (record w {
        judge = (answer_to w.judge line).next;
        shown = more frame w.shown;
        back = w.back ++ octets ∷ [];
        since = w.since + 1;
      })
  -- they are, and are damaged
  Fails : (w : Watched) (line octets : List ℕ) → Damage → IsDamaged line (other c.role) octets
      → MayLag w.since → IsWatched Passes Damage MayLag c w
      → IsWatched Passes Damage MayLag c (record w {
        judge = (answer_to w.judge line).next;
        back = w.back ++ octets ∷ [];
        since = w.since + 1;
      })

-- nothing is told of the other end, and no line is damaged
abbrev pub IsSilent : LinkSettings → Watched → Type 0
IsSilent = IsWatched (λ j line. (answer_to j line).is_faulty ≡ false) ⊥ (λ n. Unit {0})

-- Whatever is told. Of any 64 lines of the other end nothing is between the tape and the station behind one of them.
abbrev pub IsAny : LinkSettings → Watched → Type 0
IsAny = IsWatched (λ j line. Unit {0}) (Unit {0}) (λ n. n < 64)

-- The window machine behind two link stations and their line, as it goes on from event to event. An end that is Up
-- counts in whole numbers. A frame is given its whole numbers as it is put on the line, and keeps them as long as it is
-- there. ITU-T X.25 (10/96), sections 2.3.2 and 2.4.5.
use Rattle.std.specs.Prelude.{ℕ, zero, suc, ◌+◌, max, if◌then◌else◌, List, [], ◌∷◌, ◌++◌, length, drop, remove, Option}
use Rattle.std.specs.Prelude.{Some, None}
use Rattle.x25_bits.specs.declared.role.Role.{Role}
use Rattle.x25_frame.specs.{Frame.{PlainFrame, info}, Reading.{frame_of}}
use Rattle.x25_window.specs.{code.Modulo.{resolved}, laws.Window.{Frame, fresh_end}}
use Rattle.x25_link.specs.{Station.{LinkSettings, LinkStation, is_up}, Hearing.{other}, laws.WindowMachine.{Window}}
use Rattle.x25_link.specs.laws.WindowLaw.{window_of}
use Rattle.x25_line.specs.laws.Line.{Line, line_swapped}
use Rattle.x25_line.specs.laws.Stations.{Stations, Act, Deliver, Lose, Damage, LinkEvent, Near, Far, is_visible, acts}
use Rattle.x25_line.specs.laws.Stations.{stations_swapped, happens, run, start}
use Rattle.x25_line.specs.laws.StationClaims.{AreJoined, IsSetUpOnce, number_in, numbered_on, IsBehind}

-- ---- what is put on the line

-- The frames that an end puts, with their whole numbers: N(S) stands for the number from the first that isn't
-- acknowledged on, and N(R) for r, which is V(R); m, the highest number ever sent plus one, counts on from frame to
-- frame.
abbrev pub given : ℕ → ℕ → ℕ → List PlainFrame → List (Frame (List ℕ))
given acked r m [] = []
given acked r m (info ns nr p packet ∷ frames) =
    let n = resolved acked ns in
    record { carried = Some (record { number = n; item = packet }); ack = r; top = max m (n + 1) } ∷ given acked r
    (max m (n + 1)) frames
given acked r m (frame ∷ frames) = record { carried = None; ack = r; top = m } ∷ given acked r m frames

-- ---- what is taken off the line

abbrev pub first_of : Option PlainFrame → Option ℕ
first_of None = None
first_of (Some frame) = Some 0

abbrev pub one_more : Option ℕ → Option ℕ
one_more None = None
one_more (Some n) = Some (suc n)

abbrev pub behind : Option PlainFrame → Option ℕ → Option ℕ
behind None place = place
behind (Some frame) place = one_more place

-- which of the frames with an N(R) stands at this place of the line, where one does
abbrev pub place_of : Role → ℕ → List (List ℕ) → ℕ → Option ℕ
place_of from n1 [] i = None
place_of from n1 (octets ∷ line) zero = first_of (number_in (frame_of from n1 octets))
place_of from n1 (octets ∷ line) (suc i) = behind (number_in (frame_of from n1 octets)) (place_of from n1 line i)

abbrev pub taken_out : Option ℕ → List (Frame (List ℕ)) → List (Frame (List ℕ))
taken_out None frames = frames
taken_out (Some n) frames = remove frames n

-- which of these is gone where octets are taken off the line at a place, or at none
abbrev pub gone_from : Role → ℕ → List (List ℕ) → Option ℕ → Option ℕ
gone_from from n1 line None = None
gone_from from n1 line (Some i) = place_of from n1 line i

-- where an act takes octets off the line to its end: the front comes, or one is lost, or damaged, by which it is no
-- frame any more
abbrev pub place_taken : Act → Option ℕ
place_taken Deliver = Some 0
place_taken (Lose i) = Some i
place_taken (Damage i octets) = if is_visible octets then Some i else None
place_taken act = None

-- ---- the machine goes on

-- an end that is Up has its station's numbers, and those of any other stand still
abbrev pub counted : ℕ → LinkStation → Window → Window
counted k s e = if is_up s.phase then window_of k s else e

-- The machine once its near end has acted: `station` is the station then, `put` are the octets that it has put on the
-- line, and `gone` is the place of the frame that was taken off the line to it.
abbrev pub machine_after : LinkSettings → LinkStation → List (List ℕ) → Option ℕ → Line (List ℕ) → Line (List ℕ)
machine_after c station put gone l =
    let e = counted c.window station l.near in
    record {
      near = e;
      far = l.far;
      out = l.out
          ++ given e.acked (length e.taken) l.near.sent (numbered_on c.role c.longest put);
      back = taken_out gone l.back;
    }

-- the machine once its near end has done this act, in this world
abbrev pub machine_acts : LinkSettings → Act → Stations → Line (List ℕ) → Line (List ℕ)
machine_acts c act w l = machine_after c (acts c act w).near.station (drop (length w.out) (acts c act w).out)
    (gone_from (other c.role) c.longest w.back (place_taken act)) l

abbrev pub machine_happens : LinkSettings → LinkSettings → LinkEvent → Stations → Line (List ℕ) → Line (List ℕ)
machine_happens c d (Near act) w l = machine_acts c act w l
machine_happens c d (Far act) w l = line_swapped (machine_acts d act (stations_swapped w) (line_swapped l))

abbrev pub machine_run : LinkSettings → LinkSettings → List LinkEvent → Stations → Line (List ℕ) → Line (List ℕ)
machine_run c d [] w l = l
machine_run c d (e ∷ es) w l = machine_run c d es (happens c d e w) (machine_happens c d e w l)

-- the link was just set up
abbrev pub machine_at_start : LinkSettings → LinkSettings → Line (List ℕ)
machine_at_start c d = record { near = fresh_end c.window; far = fresh_end d.window; out = []; back = [] }

-- ---- the claim

-- As long as the link isn't set up anew, the one machine that goes on from event to event is behind the stations and
-- the line. So what stands behind a frame on the line is what it was given as it was put.
abbrev pub MachineGoesAlong : Type 0
MachineGoesAlong =
    (c d : LinkSettings) → AreJoined c d → (events : List LinkEvent) → IsSetUpOnce (run c d events start)
    → IsBehind c d (run c d events start) (machine_run c d events start (machine_at_start c d))

-- where the link isn't set up anew after a list of events, it wasn't before
abbrev pub OnceStaysOnce : Type 0
OnceStaysOnce = (c d : LinkSettings) (events : List LinkEvent) (w : Stations) → IsSetUpOnce (run c d events w)
    → IsSetUpOnce w

-- A link that the trace finds set up, at its beginning or behind a gap: where both ends stand by what they send. ITU-T
-- X.25 (10/96), sections 2.3.4.9, 2.4.5.1 and 2.4.8.6; what is known when is profile.
use Rattle.std.specs.Prelude.{ℕ, ◌+◌, ◌-◌, ◌%◌, ◌==◌, nat_lt, nat_le, Bool, true, false, ◌&&◌, if◌then◌else◌}
use Rattle.std.specs.Prelude.{Option, Some, None}
use Rattle.x25_judge.specs.declared.{midst.Watch.{Watch}, midst.Watch.TheVariants.{Unseen, Numbers as Row, Over}}
use Rattle.x25_judge.specs.declared.{note.Note.{Note}, note.Note.TheVariants.{NotTakenUp, TakenUp}}
use Rattle.x25_packet_judge.specs.Numbers.{apart}
use Rattle.x25_possible_links.specs.declared.{frame.Frame.{Frame}, frame.Frame.TheVariants.{Info, Ready, Unread}}
use Rattle.x25_possible_links.specs.declared.stand.Numbers.{Numbers}

-- ---- what an end sends

abbrev pub after : ℕ → ℕ
after ns = (ns % 8 + 1) % 8

-- The next N(S) makes the row longer. Of an end that keeps the rules seven in a row show V(S): at most seven were
-- unacknowledged before the first of them, so all others go again. Else a row begins anew.
abbrev pub counted : ℕ → ℕ → Watch → Watch
counted ns nr Unseen = Row 1 (after ns) nr
counted ns nr (Row run next told) =
    if ns == next then Row (if nat_lt run 15 then run + 1 else run) (after ns) nr
    else if nat_le 7 run then Row run next nr else Row 1 (after ns) nr
counted ns nr Over = Over

abbrev pub acknowledged : ℕ → Watch → Watch
acknowledged nr Unseen = Row 0 0 nr
acknowledged nr (Row run next told) = Row run next nr
acknowledged nr Over = Over

-- octets that spell no frame may have been any
abbrev pub strayed : Watch → Watch
strayed (Row run next told) = Row 0 0 0
strayed w = Over

-- a frame without a number makes it known, or shows that it is in no session
abbrev pub sends : Frame → Watch → Watch
sends (Info ns nr differs) w = counted ns nr w
sends (Ready nr) w = acknowledged nr w
sends Unread w = strayed w
sends x w = Over

abbrev pub is_over : Watch → Bool
is_over Over = true
is_over w = false

-- ---- where both stand

-- Eight of a row are acknowledged. The last of them wasn't sent before the first of the row, so it has come, and with
-- it all that was sent before.
abbrev pub are_acknowledged : ℕ → ℕ → ℕ → Bool
are_acknowledged run next told = nat_le (8 + apart next told) run

abbrev pub are_known : Watch → Watch → Bool
are_known (Row run next told) (Row there due heard) =
    are_acknowledged run next heard && are_acknowledged there due told
are_known own other = false

-- The next N(S) is V(S), and an N(R) stands for one of the last eight numbers of the other end. Whole numbers are such
-- that eight were sent and taken.
abbrev pub numbers_in : ℕ → ℕ → ℕ → ℕ → Numbers
numbers_in next told due heard = record {
  sent = 16 + next % 8;
  acked = (16 + next % 8) - apart next heard;
  taken = 16 + due % 8;
  told = (16 + due % 8) - apart due told;
}

abbrev pub numbers : Watch → Watch → Numbers
numbers (Row run next told) (Row there due heard) = numbers_in next told due heard
numbers own other = numbers_in 0 0 0 0

-- ---- what is noted: that both are known, or, as an end sends its first number, that it isn't yet

abbrev pub note_of : Bool → Watch → Watch → Option Note
note_of are_known was is = if are_known then Some TakenUp else begun was is
  where
    begun : Watch → Watch → Option Note
    begun Unseen (Row run next told) = Some NotTakenUp
    begun was is = None

-- What is noted of a frame that breaks no rule: what a loss, damage or a trace that begins in the middle explains, and
-- what isn't judged from there on (profile).
use Rattle.std.specs.Prelude.{ℕ, ◌==◌, ◌++◌, List, Option, Some, None, codes, decimal, if◌then◌else◌}
use Rattle.x25_judge.specs.declared.{note.Note.{Note}, note.Note.TheVariants.{RequestAgain}}
use Rattle.x25_judge.specs.declared.note.Note.TheVariants.{Unjudged, NoneJudged, SentAgain, SentBehindDamage}
use Rattle.x25_judge.specs.declared.note.Note.TheVariants.{HeardBehindDamage, PollAgain, PollUnseen, NumbersUnjudged}
use Rattle.x25_judge.specs.declared.note.Note.TheVariants.{NotTakenUp, TakenUp}
use Rattle.x25_packet_judge.specs.declared.book.Noted.{Noted}
use Rattle.x25_packet_judge.specs.declared.book.Noted.TheVariants as noted

abbrev pub first_note : Option Note → Option Note → Option Note
first_note (Some note) next = Some note
first_note None next = next

-- of a packet; channel 0 stands for all
abbrev pub packet_note : Option Noted → Option Note
packet_note None = None
packet_note (Some noted.Again) = Some RequestAgain
packet_note (Some (noted.Unjudged channel)) = if channel == 0 then Some NoneJudged else Some (Unjudged channel)

abbrev pub note_text : Note → List ℕ
note_text (Unjudged channel) = codes "not judged before a RESTART, a CLEAR or a CALL is answered (4.1): channel "
    ++ decimal channel
note_text NoneJudged = codes "no channel is judged before a RESTART is answered (3.3.1)"
note_text RequestAgain = codes "RESTART, CLEAR or RESET goes again before its answer (3.3.1, 4.1.7, 4.4.3)"
note_text SentAgain = codes "an I frame is sent again (2.4.5.9)"
note_text SentBehindDamage = codes "N(S) is out of order behind a damaged frame (2.4.5.1)"
note_text HeardBehindDamage = codes "N(R) is out of range behind a damaged frame (2.3.4.9)"
note_text PollAgain = codes "P=1 again, and no F=1 answered the last one (2.4.3)"
note_text PollUnseen = codes "F=1 answers no P=1 that the trace shows (2.4.3)"
note_text NumbersUnjudged = codes "not all N(S) and N(R) are judged before the next set-up (2.4.4.1)"
note_text NotTakenUp = codes "N(S) and N(R) aren't judged before a set-up, or eight I frames acknowledged"
note_text TakenUp = codes "V(S) of both ends is known: N(S) and N(R) are judged from here on (2.4.5)"

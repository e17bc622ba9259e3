-- What is in doubt, as frames or packets may be missing.
use Rattle.std.specs.Prelude.{◌≡◌, ℕ, Bool, true, false, ◌&&◌, List, [], ◌∷◌, Option, Some, None}
use Rattle.x25_bits.specs.{Role.{other}, declared.role.{Role.{Role}, Role.TheVariants.{Dte, Dce}}}
use Rattle.x25_frame.specs.{Frame.{PlainFrame, info, sabm, ua}, declared.error.FrameError.{FrameError}}
use Rattle.x25_judge.specs.{Doubt.{explains_as, explains_told}, Rule.{is_of_manners}}
use Rattle.x25_judge.specs.Judge.{answer_to, begins_at, has_taken, is_settled, lack_of, misses_of, own_of, past_gap}
use Rattle.x25_judge.specs.Judge.{missed_by, remark_missed, remark_of, seen_by, told_frame}
use Rattle.x25_judge.specs.declared.{doubt.At.{At}, judge.Judge.{Judge}, rule.Rule.{Rule}}
use Rattle.x25_judge.specs.declared.doubt.At.TheVariants as at
use Rattle.x25_judge.specs.declared.rule.Rule.TheVariants.{Differs, NoFrame, Packet, Skips, UaUnasked, Unsent}
use Rattle.x25_packet_judge.specs.declared.packet_rule.{PacketRule.{PacketRule}, PacketRule.TheVariants.{NoPacket}}
use Rattle.x25_possible_links.specs.code.Steps.{awaits_before, has_request, numbers}

-- what is told of an end is in doubt, as frames or packets may be missing that explain it
abbrev pub IsInDoubt : Judge → Role → Rule → Type 0
IsInDoubt j from rule = explains_told (lack_of j from) (Some rule) ≡ true

abbrev pub IsCertain : Judge → Role → Rule → Type 0
IsCertain j from rule = explains_told (lack_of j from) (Some rule) ≡ false

-- ---- after a gap

-- after more lines, latest first
abbrev pub after_lines : List (List ℕ) → Judge → Judge
after_lines [] j = j
after_lines (line ∷ lines) j = (answer_to (after_lines lines j) line).next

-- After a gap, in which an end's frames may be missing, and whatever lines come then: what is told of an end is in
-- doubt as long as one of both isn't settled, that is, known with nothing of before on the way to it. It is still of
-- the end to which frames may be missing, until that acknowledges eight I frames of its session. Right after the gap
-- neither is settled. Octets that spell no frame are no doubt of anybody.
pub record GapsLeaveDoubt : Type 0 where
  pub unsettled : (j : Judge) (gap from : Role) (lines : List (List ℕ)) (rule : Rule)
      → (is_settled (after_lines lines (past_gap gap j)).dte && is_settled (after_lines lines (past_gap gap j)).dce)
      ≡ false
      → (rule ≡ NoFrame → ⊥) → IsInDoubt (after_lines lines (past_gap gap j)) from rule
  pub untaken : (j : Judge) (gap : Role) (lines : List (List ℕ)) (rule : Rule)
      → has_taken (numbers (own_of (other gap) (after_lines lines (past_gap gap j))).set) ≡ false
      → (rule ≡ NoFrame → ⊥) → IsInDoubt (after_lines lines (past_gap gap j)) (other gap) rule
  pub at_once : (j : Judge) (gap end : Role) → is_settled (own_of end (past_gap gap j)) ≡ false

-- ---- packets

-- Where not all was seen since a set-up, what is told of packets is in doubt, but of octets that spell none. After a
-- gap it is so.
pub record PacketsStayInDoubt : Type 0 where
  pub packets : (j : Judge) (from : Role) (rule : PacketRule) → j.book.is_whole ≡ false → (rule ≡ NoPacket → ⊥)
      → IsInDoubt j from (Packet rule)
  pub gap : (j : Judge) (gap : Role) → (past_gap gap j).book.is_whole ≡ false

-- ---- octets that spell no frame

-- The rule that they break they break whatever was sent before, so it is never in doubt.
pub record OctetsAreCertain : Type 0 where
  pub same : (j k : Judge) (from : Role) (e : FrameError)
      → (remark_missed e (missed_by j from)).rule ≡ (remark_missed e (missed_by k from)).rule
  pub certain : (j k : Judge) (from : Role) (e : FrameError)
      → explains_told (lack_of k from) (remark_missed e (missed_by j from)).rule ≡ false

-- ---- the place at which a trace was made

-- no gap has come
abbrev pub HasNoGap : Judge → Type 0
HasNoGap j = (end : Role) → misses_of end j ≡ false

-- it has all that this end sent
abbrev pub has_all_of : At → Role → Bool
has_all_of at.Line from = true
has_all_of at.Dte Dte = true
has_all_of at.Dce Dce = true
has_all_of at from = false

-- Of an end of which lines may be lost, manners, other octets of a number and UA that answers nothing are in doubt, and
-- where SABM or DISC waits for it, or the trace was made anywhere, all but octets that spell no frame. Of one of which
-- it has all lines no rule of the link layer is, but where a UA that it awaits may stand in front of the trace.
pub record LossesLeaveDoubt : Type 0 where
  pub manners : (j : Judge) (from : Role) (rule : Rule) → has_all_of j.at from ≡ false → (rule ≡ NoFrame → ⊥)
      → is_of_manners rule ≡ true → IsInDoubt j from rule
  pub differs : (j : Judge) (from : Role) → has_all_of j.at from ≡ false → IsInDoubt j from Differs
  pub answers : (j : Judge) (from : Role) → has_all_of j.at from ≡ false → IsInDoubt j from UaUnasked
  pub asked : (j : Judge) (from : Role) (rule : Rule) → has_all_of j.at from ≡ false → (rule ≡ NoFrame → ⊥)
      → has_request (own_of from j).set.way.items ≡ true → IsInDoubt j from rule
  pub awaited : (j : Judge) (from : Role) (rule : Rule) → (rule ≡ NoFrame → ⊥)
      → awaits_before (own_of from j).set ≡ true → IsInDoubt j from rule
  pub all : (j : Judge) (from : Role) (rule : Rule) → HasNoGap j → has_all_of j.at from ≡ true
      → awaits_before (own_of from j).set ≡ false → explains_as (lack_of j from).frames rule ≡ false

-- ---- worked out: a set-up, and I frames of the DCE, of which the line loses one before the DTE

abbrev pub Sent : Type 0
Sent = Role × PlainFrame

abbrev pub after_frames : List Sent → Judge → Judge
after_frames [] j = j
after_frames (f ∷ fs) j = after_frames fs (told_frame j f.0 [] f.1 (seen_by j f.0 f.1)).next

abbrev pub made_at : At → List Sent → Judge
made_at at frames = after_frames frames
    (begins_at at 7 (record { size = 128; window = 2 }) (record { long = false; wide = false })
    (record { unjudged = true; manners = true }))

abbrev pub rule_of : Judge → Role → PlainFrame → Option Rule
rule_of j from frame = (remark_of j from frame (seen_by j from frame)).rule

-- SABM of the DTE, UA of the DCE, and I frames of the DCE of these numbers
abbrev pub numbered : List ℕ → List Sent
numbered [] = []
numbered (n ∷ ns) = (Dce, info n 0 false []) ∷ numbered ns

abbrev pub session : List ℕ → List Sent
session ns = (Dte, sabm true) ∷ (Dce, ua true) ∷ numbered ns

-- and one in which the DCE acknowledges an I frame of the DTE, so that no SABM may wait for it
abbrev pub answered : List Sent
answered = (Dte, sabm true) ∷ (Dce, ua true) ∷ (Dte, info 0 0 false []) ∷ (Dce, info 0 1 false []) ∷ []

pub record LossesAreTold : Type 0 where
  -- nothing is told of the third I frame; without the second one it is, and in doubt in front of the DTE alone
  pub whole : rule_of (made_at at.Line (session (0 ∷ 1 ∷ []))) Dce (info 2 0 false []) ≡ None
  pub lost : rule_of (made_at at.Dte (session (0 ∷ []))) Dce (info 2 0 false []) ≡ Some (Skips 1)
  pub doubt : IsInDoubt (made_at at.Dte (session (0 ∷ []))) Dce (Skips 1)
  pub line : IsCertain (made_at at.Line (session (0 ∷ []))) Dce (Skips 1)
  pub near : IsCertain (made_at at.Dce (session (0 ∷ []))) Dce (Skips 1)
  -- an N(R) of what the DTE never sent is certain there, and in doubt in a trace that was made anywhere
  pub unsent : rule_of (made_at at.Dte answered) Dce (info 1 3 false []) ≡ Some (Unsent 1)
  pub certain : IsCertain (made_at at.Dte answered) Dce (Unsent 1)
  pub anywhere : IsInDoubt (made_at at.Either answered) Dce (Unsent 1)

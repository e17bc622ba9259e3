-- Tapes that an end of a channel can't, or can, have sent, latest first: worked out by the definition.
use Rattle.std.specs.Prelude.{◌≡◌, ℕ, Bool, true, false, List, [], ◌∷◌, ◌++◌, map, None}
use Rattle.x25_possible.specs.laws.Possible.{Item, Own, Other, Place, possible}
use Rattle.x25_possible.specs.Channel.{channel_choices}
use Rattle.x25_possible.specs.code.Steps.{any, begun, behind, doubted, is_known, lost, played, ready}
use Rattle.x25_possible.specs.code.Steps.{repeats, sends_to}
use Rattle.x25_possible.specs.declared.packet.Said.{Said}
use Rattle.x25_possible.specs.declared.packet.Packet.{Packet}
use Rattle.x25_possible.specs.declared.packet.Packet.TheVariants.{Call, Accept, Clear, ClearConf, Reset, ResetConf}
use Rattle.x25_possible.specs.declared.packet.Packet.TheVariants.{Restart, RestartConf, Rr, Interrupt, InterruptConf}
use Rattle.x25_possible.specs.declared.packet.Packet.TheVariants.{Data, Elsewhere}
use Rattle.x25_possible.specs.declared.packet.Terms.{Terms}
use Rattle.x25_possible.specs.declared.phase.Phase.{Phase}
use Rattle.x25_bits.specs.declared.role.Role.{Role}
use Rattle.x25_bits.specs.declared.role.Role.TheVariants.{Dte, Dce}
use Rattle.x25_possible.specs.declared.phase.Phase.TheVariants.{Idle}
use Rattle.x25_possible.specs.declared.set.Told.TheVariants.{Nothing}

abbrev pub usual : Terms
usual = record {
  defaults = record { size = 128; window = 2 };
  calling_size = 128;
  called_size = 128;
  calling_window = 2;
  called_window = 2;
}

abbrev pub as_proposed : Said
as_proposed = record { sizes = None; windows = None }

-- the end called and was accepted; or was called and accepted
abbrev pub calling : List (Item Packet)
calling = Other (Accept as_proposed) ∷ Own (Call usual) ∷ []

abbrev pub called : List (Item Packet)
called = Own (Accept as_proposed) ∷ Other (Call usual) ∷ []

-- data packets of the end, of these numbers
abbrev pub sending : List ℕ → List (Item Packet)
sending = map (λ n. Own (Data false false n 0 9))

-- in the midst of a call seventeen, of which the other end acknowledges seven, fourteen and then up to a number
abbrev pub amidst_up_to : ℕ → List (Item Packet)
amidst_up_to n =
    sending (0 ∷ []) ++ Other (Rr n) ∷ sending (7 ∷ 6 ∷ []) ++ Other (Rr 6) ∷ sending (5 ∷ 4 ∷ 3 ∷ 2 ∷ 1 ∷ 0 ∷ 7 ∷ [])
    ++ Other (Rr 7) ∷ sending (6 ∷ 5 ∷ 4 ∷ 3 ∷ 2 ∷ 1 ∷ 0 ∷ [])

abbrev pub is_nothing : List (Place Phase Packet) → Bool
is_nothing [] = true
is_nothing (q ∷ qs) = false

abbrev pub is_told : Role → List (Item Packet) → Bool
is_told role tape = is_nothing (possible (channel_choices role) (Idle ∷ []) tape)

pub record RowsAreTold : Type 0 where
  -- P(R) of no data, and a confirmation of no interrupt, while the other end's RESTART is on the way
  pub pr_behind_restart : is_told Dte (Own (Rr 5) ∷ Other Restart ∷ calling) ≡ true
  pub conf_behind_restart : is_told Dte (Own InterruptConf ∷ Other Restart ∷ calling) ≡ true
  -- RR behind its own RESET, while the other end's CLEAR is
  pub rr_behind_reset : is_told Dce (Own (Rr 0) ∷ Own Reset ∷ Other Clear ∷ called) ≡ true
  -- on another channel while its RESTART waits
  pub elsewhere : is_told Dte (Own Elsewhere ∷ Own Restart ∷ []) ≡ true
  -- P(R) out of range while the other end's RESET and then its CLEAR are
  pub pr_behind_both : is_told Dte (Own (Rr 4) ∷ Other Clear ∷ Other Reset ∷ calling) ≡ true
  -- an eighth data packet where none is acknowledged, a P(S) that isn't the next, a second interrupt
  pub eighth : is_told Dte (sending (7 ∷ 6 ∷ 5 ∷ 4 ∷ 3 ∷ 2 ∷ 1 ∷ 0 ∷ []) ++ calling) ≡ true
  pub number : is_told Dte (sending (2 ∷ []) ++ calling) ≡ true
  pub interrupts : is_told Dte (Own Interrupt ∷ Own Interrupt ∷ calling) ≡ true

pub record RowsAreUntold : Type 0 where
  -- RESTART again, as timer T20 has it, and one confirmation; CLEAR and RESET again, as T23 and T22 have it
  pub restart_again : is_told Dte (Own (Call usual) ∷ Other RestartConf ∷ Own Restart ∷ Own Restart ∷ []) ≡ false
  pub clear_again : is_told Dte (Own (Call usual) ∷ Other ClearConf ∷ Own Clear ∷ Own Clear ∷ calling) ≡ false
  pub reset_again : is_told Dte (Own (Rr 0) ∷ Other ResetConf ∷ Own Reset ∷ Own Reset ∷ calling) ≡ false
  -- a CLEAR that came twice, confirmed once, and twice
  pub answered_once :
      is_told Dte (Own (Rr 0) ∷ Other (Accept as_proposed) ∷ Own (Call usual) ∷ Own ClearConf ∷ Other Clear
      ∷ Other Clear ∷ [])
      ≡ false
  pub answered_twice : is_told Dte (Own ClearConf ∷ Own ClearConf ∷ Other Clear ∷ Other Clear ∷ calling) ≡ false
  -- both call: the DCE accepts the call of the DTE, and the DTE's call goes ahead
  pub collision : is_told Dce (Own (Accept as_proposed) ∷ Other (Call usual) ∷ Own (Call usual) ∷ []) ≡ false
  -- on other channels while its CLEAR waits
  pub elsewhere : is_told Dte (Own Elsewhere ∷ Own Clear ∷ Own Elsewhere ∷ calling) ≡ false
  -- CLEAR behind a RESET, and RESTART behind either, of which the last alone is answered
  pub cleared_over_reset : is_told Dce (Own ClearConf ∷ Other Clear ∷ Other Reset ∷ called) ≡ false
  pub restarted_over_reset : is_told Dte (Own RestartConf ∷ Other Restart ∷ Other Reset ∷ calling) ≡ false
  pub restarted_over_clear : is_told Dte (Own RestartConf ∷ Other Restart ∷ Other Clear ∷ calling) ≡ false
  -- what comes between two CLEARs, RESETs or RESTARTs that have one answer is dropped
  pub dropped_before_clear_conf :
      is_told Dte (Own (Rr 0) ∷ Other (Accept as_proposed) ∷ Own (Call usual) ∷ Own ClearConf ∷ Other Clear
      ∷ Other RestartConf ∷ Other Clear ∷ Other RestartConf ∷ Own Restart ∷ Own Restart ∷ [])
      ≡ false
  pub dropped_before_reset_conf :
      is_told Dte (Own (Rr 2) ∷ Other (Data false false 1 0 9) ∷ Other (Data false false 0 0 9) ∷ Own ResetConf
      ∷ Other Reset ∷ Other (Data false false 0 0 9) ∷ Other Reset ∷ calling)
      ≡ false
  pub dropped_before_restart_conf :
      is_told Dte (Own (Rr 0) ∷ calling ++ Own RestartConf ∷ Other Restart ∷ Other (Call usual) ∷ Other Restart ∷ [])
      ≡ false
  -- seven, and the eighth once one is acknowledged; an interrupt once the one before is confirmed
  pub seventh : is_told Dte (sending (6 ∷ 5 ∷ 4 ∷ 3 ∷ 2 ∷ 1 ∷ 0 ∷ []) ++ calling) ≡ false
  pub eighth :
      is_told Dte (sending (7 ∷ []) ++ Other (Rr 1) ∷ sending (6 ∷ 5 ∷ 4 ∷ 3 ∷ 2 ∷ 1 ∷ 0 ∷ []) ++ calling) ≡ false
  pub interrupts : is_told Dte (Own Interrupt ∷ Other InterruptConf ∷ Own Interrupt ∷ calling) ≡ false
  -- two resets on the way, of which it has taken one
  pub resets : is_told Dte (Own (Rr 0) ∷ Own ResetConf ∷ Other Reset ∷ Other Reset ∷ calling) ≡ false

-- where a set becomes known that wasn't, and where it doesn't
pub record RowsAreKnown : Type 0 where
  -- the other end's RESTART, CLEAR or CALL was seen, and is answered
  pub restarted : is_known (played (any Dte) (Own RestartConf ∷ Other Restart ∷ [])) ≡ true
  pub cleared : is_known (played (any Dte) (Own ClearConf ∷ Other Clear ∷ [])) ≡ true
  pub accepted : is_known (played (any Dte) (Own (Accept as_proposed) ∷ Other (Call usual) ∷ [])) ≡ true
  -- and it is in the state of one that has restarted
  pub restarted_as : played (any Dte) (Own RestartConf ∷ Other Restart ∷ []) ≡ begun Dte
  pub cleared_as : played (any Dte) (Own ClearConf ∷ Other Clear ∷ []) ≡ begun Dte
  -- so is its own
  pub restart_answered : is_known (played (any Dce) (Other RestartConf ∷ Own Restart ∷ [])) ≡ true
  pub clear_answered : is_known (played (any Dce) (Other ClearConf ∷ Own Clear ∷ [])) ≡ true
  -- another one crosses it: it may have crossed one before, which wasn't seen
  pub crossed : is_known (played (any Dte) (Other Clear ∷ Own Clear ∷ [])) ≡ false
  pub call_answered : is_known (played (any Dte) calling) ≡ true
  -- it talks in a call that was seen to begin
  pub in_call : is_known (played (any Dce) (Own (Rr 0) ∷ calling)) ≡ true
  -- in the midst of a call the other end acknowledges sixteen, or fifteen
  pub amidst : is_known (played (any Dte) (amidst_up_to 0)) ≡ true
  pub too_early : is_known (played (any Dte) (amidst_up_to 7)) ≡ false
  -- a CLEAR that was on the way where packets weren't seen is answered, or crosses its own, and then another one
  pub lost_cleared : is_known (played (lost (played (begun Dte) (Other Clear ∷ []))) (Own ClearConf ∷ [])) ≡ true
  pub lost_crossed :
      is_known (played (lost (played (begun Dte) (Other Clear ∷ [])))
      (Own ClearConf ∷ Other Clear ∷ Other (Call usual) ∷ Own Clear ∷ []))
      ≡ true
  -- its RESTART right behind a set-up of the link
  pub set_up : is_known (played (ready Dte) (Own Restart ∷ [])) ≡ true
  -- a request alone, a call of before, a call behind what wasn't read
  pub restarts : is_known (played (any Dte) (Own Restart ∷ [])) ≡ false
  pub of_before : is_known (played (any Dte) (Own (Rr 0) ∷ Other (Rr 0) ∷ [])) ≡ false
  pub in_doubt : is_known (played (doubted (any Dte)) (Own (Rr 0) ∷ called)) ≡ false

-- what a set tells after a fault, and of requests that go again
pub record RowsGoOn : Type 0 where
  -- the next number after one that was wrong, and after that
  pub number : (sends_to (Data false false 3 0 9) (behind Dte (sending (2 ∷ []) ++ calling))).told ≡ Nothing
  pub numbers : (sends_to (Data false false 4 0 9) (behind Dte (sending (3 ∷ 2 ∷ []) ++ calling))).told ≡ Nothing
  pub known : is_known (behind Dte (sending (3 ∷ 2 ∷ []) ++ calling)) ≡ true
  -- RESET, CLEAR and RESTART before their answer, and a first one
  pub reset : repeats Reset (behind Dte (Own Reset ∷ calling)) ≡ true
  pub clear : repeats Clear (behind Dte (Own Clear ∷ calling)) ≡ true
  pub restart : repeats Restart (behind Dte (Own Restart ∷ calling)) ≡ true
  pub first : repeats Reset (behind Dte calling) ≡ false

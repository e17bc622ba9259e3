use Rattle.std.proofs.Common.{refl}
use Rattle.x25_possible.proofs.law.rows_are_told.Goals as goal

pub returns : goal.returns
returns c = record {
  told = record { pr_behind_restart = refl; conf_behind_restart = refl; rr_behind_reset = refl; elsewhere = refl; pr_behind_both = refl; eighth = refl; number = refl; interrupts = refl };
  untold = record {
    restart_again = refl;
    clear_again = refl;
    reset_again = refl;
    answered_once = refl;
    answered_twice = refl;
    collision = refl;
    elsewhere = refl;
    cleared_over_reset = refl;
    restarted_over_reset = refl;
    restarted_over_clear = refl;
    dropped_before_clear_conf = refl;
    dropped_before_reset_conf = refl;
    dropped_before_restart_conf = refl;
    seventh = refl;
    eighth = refl;
    interrupts = refl;
    resets = refl;
  };
  known = record {
    restarted = refl;
    cleared = refl;
    accepted = refl;
    restarted_as = refl;
    cleared_as = refl;
    restart_answered = refl;
    clear_answered = refl;
    crossed = refl;
    call_answered = refl;
    in_call = refl;
    amidst = refl;
    too_early = refl;
    lost_cleared = refl;
    lost_crossed = refl;
    set_up = refl;
    restarts = refl;
    of_before = refl;
    in_doubt = refl;
  };
  goes_on = record { number = refl; numbers = refl; known = refl; reset = refl; clear = refl; restart = refl; first = refl };
}

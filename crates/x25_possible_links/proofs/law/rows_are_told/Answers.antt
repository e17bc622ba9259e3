use Rattle.std.proofs.Common.{refl}
use Rattle.x25_possible_links.proofs.law.rows_are_told.Goals as goal

pub returns : goal.returns
returns c = record {
  told = record {
    ua_unasked = refl;
    ua_again = refl;
    before_ua = refl;
    behind_disc = refl;
    never_sent = refl;
    sent_before = refl;
    falls = refl;
    differs = refl;
    left_out = refl;
    eighth = refl;
  };
  untold = record {
    first_ua = refl;
    second_ua = refl;
    crosses = refl;
    waits_on = refl;
    lost = refl;
    again = refl;
    eighth = refl;
    unread_ua = refl;
    unread_sabm = refl;
    unread_info = refl;
    unread_number = refl;
    unknown = refl;
    before = refl;
  };
  later = record { numbers = refl };
  so = record { skips = refl; skipped = refl; breaks = refl; goes_on = refl };
  new = refl;
}

-- What a user gives beside a packet of his own. ITU-T X.25 (10/96), sections 6.16, 7.1 and 7.2.2.
use Rattle.std.specs.Prelude.{ℕ, Bool, not, ◌&&◌, nat_le, List, length, Option, is_some, option_copied, option_map}
use denote.Ref.{Bor}
use Rattle.x25_packet.specs.Classes.{are_facilities, none_own, own_in}
use Rattle.x25_given.specs.declared.given.Given.{Given}

-- facilities behind those that the station writes itself, user data (that of a CALL stands in it anyhow), and the D bit
pub record PlainGiven : Type 0 where
  pub facilities : List ℕ
  pub user : List ℕ
  pub d : Bool

abbrev pub plain_given : Given → PlainGiven
plain_given g = record { facilities = g.facilities.now; user = g.user.now; d = g.d }

-- where anything is given
abbrev pub given_with : Option (Bor Given) → Option PlainGiven
given_with given = option_map plain_given (option_copied given)

-- Facilities of all classes, but packet sizes and window sizes before a marker, which are the station's own; as many as
-- fit behind those, and user data as with fast select.
abbrev pub may_give : PlainGiven → Bool
may_give g = are_facilities 0 g.facilities && (nat_le (length g.facilities) 103
    && (not (is_some (own_in none_own 0 g.facilities).packet_size)
    && (not (is_some (own_in none_own 0 g.facilities).window_size) && nat_le (length g.user) 128)))

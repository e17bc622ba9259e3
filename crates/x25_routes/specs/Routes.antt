-- The route of a called address is that of the longest prefix of the address for which there is one (profile).
use Rattle.std.specs.Prelude.{ℕ, zero, suc, List, [], ◌∷◌, ◌++◌, length, take, drop, Option, Some, None, Bool, ◌&&◌}
use Rattle.std.specs.Prelude.{nat_le, nat_lt, if◌then◌else◌}
use Rattle.std.specs.{List.{list_all}, Str.{bytes_eq}}
use Rattle.x25_packet.specs.Digits.{is_digit}
use Rattle.x25_routes.specs.Route.{PlainRoute}
use Rattle.x25_routes.specs.declared.error.RouteError.{RouteError}
use Rattle.x25_routes.specs.declared.error.RouteError.TheVariants.{NoSuchLine, BadPrefix, Stands}

-- the route of just this prefix
abbrev pub route_of : List PlainRoute → List ℕ → Option PlainRoute
route_of [] prefix = None
route_of (r ∷ rs) prefix = if bytes_eq r.prefix prefix then Some r else route_of rs prefix

abbrev pub or_else : Option PlainRoute → Option PlainRoute → Option PlainRoute
or_else (Some r) rest = Some r
or_else None rest = rest

-- of the prefixes of an address that have fewer than so many digits, the route of the longest that has one
abbrev pub found_below : ℕ → List PlainRoute → List ℕ → Option PlainRoute
found_below zero rs address = None
found_below (suc n) rs address = or_else (route_of rs (take n address)) (found_below n rs address)

abbrev pub found : List PlainRoute → List ℕ → Option PlainRoute
found rs address = found_below (suc (length address)) rs address

-- the lines to try in turn, and the address as it goes on
pub record Onward : Type 0 where
  pub lines : List ℕ
  pub address : List ℕ

abbrev pub onward_by : Option PlainRoute → List ℕ → Option Onward
onward_by None address = None
onward_by (Some r) address = Some (record { lines = r.lines; address = r.becomes ++ drop (length r.prefix) address })

abbrev pub onward : List PlainRoute → List ℕ → Option Onward
onward rs address = onward_by (found rs address) address

-- ---- refusals

abbrev pub is_prefix : List ℕ → Bool
is_prefix digits = nat_le (length digits) 15 && list_all is_digit digits

-- some, each of these many
abbrev pub are_lines : ℕ → List ℕ → Bool
are_lines count lines = nat_lt 0 (length lines) && list_all (λ line. nat_lt line count) lines

abbrev pub where_new : Option PlainRoute → Option RouteError
where_new None = None
where_new (Some r) = Some Stands

abbrev pub refusal : ℕ → List PlainRoute → PlainRoute → Option RouteError
refusal count rs r =
    if is_prefix r.prefix && is_prefix r.becomes
    then (if are_lines count r.lines then where_new (route_of rs r.prefix) else Some NoSuchLine)
    else Some BadPrefix

-- those that are left where the route of a prefix is removed, if there is one
abbrev pub without : List PlainRoute → List ℕ → List PlainRoute
without [] prefix = []
without (r ∷ rs) prefix = if bytes_eq r.prefix prefix then rs else r ∷ without rs prefix

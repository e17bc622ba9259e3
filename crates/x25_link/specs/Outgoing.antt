-- The packets that a station was handed down, on a whole list and unbounded numbers.
-- ITU-T X.25 (10/96), sections 2.3.2, 2.4.5.1 and 2.4.5.5.
use Rattle.std.specs.Prelude.{ℕ, ◌+◌, ◌-◌, nat_lt, Bool, ◌&&◌, List, [], ◌∷◌, ◌++◌, length, slice_index_or, max}

-- The packets handed down since the link was set up, of which number n goes with N(S) n modulo 8; how many of these are
-- acknowledged; the highest number ever sent plus one; and V(S), the place to send from.
pub record Outgoing : Type 0 where
  pub given : List (List ℕ)
  pub acked : ℕ
  pub sent : ℕ
  pub place : ℕ

abbrev pub no_packet : Outgoing
no_packet = record { given = []; acked = 0; sent = 0; place = 0 }

-- how many packets wait to be sent
abbrev pub waits : Outgoing → ℕ
waits o = length o.given - o.sent

abbrev pub added : List ℕ → Outgoing → Outgoing
added packet o = record { given = o.given ++ packet ∷ []; acked = o.acked; sent = o.sent; place = o.place }

-- all below n are acknowledged
abbrev pub acknowledged_to : ℕ → Outgoing → Outgoing
acknowledged_to n o = record { given = o.given; acked = n; sent = o.sent; place = max o.place n }

-- V(S) falls back to the first that isn't acknowledged
abbrev pub gone_back : Outgoing → Outgoing
gone_back o = record { given = o.given; acked = o.acked; sent = o.sent; place = o.acked }

-- the window is open at V(S), and there is a packet
abbrev pub is_open : ℕ → Outgoing → Bool
is_open k o = nat_lt o.place (o.acked + k) && nat_lt o.place (length o.given)

-- the packet at V(S), again or new
abbrev pub next_packet : Outgoing → List ℕ
next_packet o = slice_index_or o.given o.place []

-- it was sent
abbrev pub moved_on : Outgoing → Outgoing
moved_on o = record { given = o.given; acked = o.acked; sent = max o.sent (o.place + 1); place = o.place + 1 }

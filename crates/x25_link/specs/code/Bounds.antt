-- What a link holds at most, and how many frames a step sends at most.
use Rattle.std.specs.Prelude.{ℕ, ◌≤◌, List, length}
use Rattle.x25_link.specs.Outgoing.{waits}
use Rattle.x25_link.specs.Station.{LinkSettings, LinkStation}
use Rattle.x25_link.specs.Link.{take_step, put_step}
use Rattle.x25_link.specs.laws.WindowLaw.{IsSound}
use Rattle.x25_link.specs.code.FitsLink.{ShownLink, FitsLink}

-- at most 256 packets wait (profile)
abbrev pub FewWait : Type 0
FewWait = (c : LinkSettings) (v : ShownLink) (s : LinkStation) → FitsLink c v s → waits s.outgoing ≤ 256

-- at most k packets were sent and aren't acknowledged, and V(S) lies among them (section 2.4.8.6)
abbrev pub FewStand : Type 0
FewStand = (c : LinkSettings) (v : ShownLink) (s : LinkStation) → FitsLink c v s → IsSound c.window s.outgoing

-- and k is at most 7
abbrev pub WindowIsSmall : Type 0
WindowIsSmall = (c : LinkSettings) (v : ShownLink) (s : LinkStation) → FitsLink c v s → c.window ≤ 7

-- octets are answered by nine frames at most: one for what they ask, seven I frames, and the RR that ends an RNR
abbrev pub TakeSendsFew : Type 0
TakeSendsFew = (c : LinkSettings) (octets : List ℕ) (s : LinkStation) → length (take_step c octets s).side.out ≤ 9

-- a packet handed down sends one frame at most, since nothing that may be sent waits between calls
abbrev pub PutSendsOne : Type 0
PutSendsOne = (c : LinkSettings) (v : ShownLink) (s : LinkStation) (packet : List ℕ) → FitsLink c v s
    → length (put_step c packet s).side.out ≤ 1

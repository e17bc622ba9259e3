-- A peer of a link that is set up, whatever station it is: the rules of LAPB that are asked of it, and no more. When
-- it sends, what it sends again and how often, P and F, RR, RNR and REJ, and whether it hears and takes what comes:
-- all this is free. ITU-T X.25 (10/96), sections 2.3.2, 2.3.4.9, 2.4.5 and 2.4.8.6; docs/PEER.md has the rules in
-- words.
use Rattle.std.specs.Prelude.{◌≡◌, ℕ, ◌+◌, ◌%◌, ◌<◌, ◌≤◌, List, [], ◌∷◌, ◌++◌, length, slice_get, max, Bool}
use Rattle.std.specs.Prelude.{true, false, Some, None, Result}
use Rattle.x25_frame.specs.{Frame.{PlainFrame}, declared.error.FrameError.{FrameError}}
use Rattle.x25_window.specs.code.Modulo.{resolved}
use Rattle.x25_line.specs.laws.Said.{Said, Tells, Odd as OddSaid, said}

-- All packets that were handed down to it, and how many of these are acknowledged to it; the highest N(S) that it
-- ever sent plus one; the last N(R) that it sent; all packets that it took. Numbers are whole, from the set-up on.
pub record Peer : Type 0 where
  pub given : List (List ℕ)
  pub acked : ℕ
  pub sent : ℕ
  pub told : ℕ
  pub taken : List (List ℕ)

abbrev pub fresh_peer : Peer
fresh_peer = record { given = []; acked = 0; sent = 0; told = 0; taken = [] }

-- ---- what it sends

-- An I frame of number n, whose N(S) is ns, carries packet n: the same each time. It is one of the seven from the
-- first that isn't acknowledged on, or before these, and not eight behind the highest that it ever sent.
pub record MayNumber (p : Peer) (ns : ℕ) (packet : List ℕ) (n : ℕ) : Type 0 where
  pub number : ns ≡ n % 8
  pub same : slice_get p.given n ≡ Some packet
  pub window : n < p.acked + 7
  pub again : p.sent ≤ n + 7

-- An N(R) that stands for t acknowledges no more than it took, and no less than its last one
pub record MayAcknowledge (p : Peer) (nr t : ℕ) : Type 0 where
  pub number : nr ≡ t % 8
  pub rising : p.told ≤ t
  pub taken : t ≤ length p.taken

abbrev pub numbered_to : ℕ → Peer → Peer
numbered_to n p = record p { sent = max p.sent (n + 1) }

abbrev pub told_to : ℕ → Peer → Peer
told_to t p = record p { told = t }

-- What it may send, and what it is then. What has no N(R) is free. `Odd` holds where it may send what is answered by
-- FRMR.
abbrev pub MaySay : Type 0 → Peer → Said → Peer → Type 0
MaySay Odd p (Tells None nr) q = (t : ℕ) × MayAcknowledge p nr t × (q ≡ told_to t p)
MaySay Odd p (Tells (Some c) nr) q =
    (n : ℕ) × (t : ℕ) × MayNumber p c.ns c.packet n × MayAcknowledge p nr t × (q ≡ told_to t (numbered_to n p))
MaySay Odd p OddSaid q = Odd × (q ≡ p)
MaySay Odd p other q = q ≡ p

-- octets that it may send, by what they read as
abbrev pub MaySend : Type 0 → Peer → Result PlainFrame FrameError → Peer → Type 0
MaySend Odd p read q = MaySay Odd p (said read) q

-- ---- what it makes of what comes

-- by an N(R) that is heard all below it is acknowledged
abbrev pub hearing : Bool → ℕ → Peer → Peer
hearing true nr p = record p { acked = resolved p.acked nr }
hearing false nr p = p

-- a packet is taken where its N(S) is the number of packets that were taken, modulo 8
abbrev pub IsWanted : Bool → ℕ → Peer → Type 0
IsWanted true ns p = ns ≡ length p.taken % 8
IsWanted false ns p = Unit {0}

abbrev pub taking : Bool → List ℕ → Peer → Peer
taking true packet p = record p { taken = p.taken ++ packet ∷ [] }
taking false packet p = p

-- What comes to it, and what it may be then. It may pass over anything.
abbrev pub MayMake : Peer → Said → Peer → Type 0
MayMake p (Tells None nr) q = (hears : Bool) × (q ≡ hearing hears nr p)
MayMake p (Tells (Some c) nr) q =
    (hears : Bool) × (takes : Bool) × IsWanted takes c.ns p × (q ≡ taking takes c.packet (hearing hears nr p))
MayMake p other q = q ≡ p

-- octets that come to it, by what they read as
abbrev pub MayHear : Peer → Result PlainFrame FrameError → Peer → Type 0
MayHear p read q = MayMake p (said read) q

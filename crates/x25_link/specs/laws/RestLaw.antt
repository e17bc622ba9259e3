-- Each step of a station leaves nothing that it may send, and no RR that it owes; and when a station is at rest.
use Rattle.std.specs.Prelude.{◌≡◌, ℕ, ◌≤◌, true, false, List}
use Rattle.x25_link.specs.Station.{LinkSettings, LinkStation, is_up, may_send, owes_ready}
use Rattle.x25_link.specs.Link.{take_step, put_step, timer_step, timer_runs, connect_step, disconnect_step}
use Rattle.x25_link.specs.Link.{abandon_step, is_idle}
use Rattle.x25_link.specs.laws.WindowLaw.{IsSound}

-- V(S) isn't below what is acknowledged, nothing is left that may be sent, and no RR is owed
pub record HasSaidAll (k : ℕ) (s : LinkStation) : Type 0 where
  pub low : s.outgoing.acked ≤ s.outgoing.place
  pub settled : may_send k s ≡ false
  pub calm : owes_ready s ≡ false

-- idle, and timer T1 doesn't run
pub record IsAtRest (s : LinkStation) : Type 0 where
  pub idle : is_idle s ≡ true
  pub no_timer : timer_runs s.phase s ≡ false

-- ---- after each step

abbrev pub TakeSaysAll : Type 0
TakeSaysAll = (c : LinkSettings) (octets : List ℕ) (s : LinkStation) → c.window ≤ 7
    → s.outgoing.acked ≤ s.outgoing.place
    → HasSaidAll c.window (take_step c octets s).side.near

abbrev pub PutSaysAll : Type 0
PutSaysAll = (c : LinkSettings) (packet : List ℕ) (s : LinkStation) → c.window ≤ 7 → s.outgoing.acked ≤ s.outgoing.place
    → HasSaidAll c.window (put_step c packet s).side.near

abbrev pub TimerSaysAll : Type 0
TimerSaysAll = (c : LinkSettings) (s : LinkStation) → c.window ≤ 7 → s.outgoing.acked ≤ s.outgoing.place
    → HasSaidAll c.window (timer_step c s).side.near

abbrev pub ConnectSaysAll : Type 0
ConnectSaysAll = (c : LinkSettings) (s : LinkStation) → s.outgoing.acked ≤ s.outgoing.place
    → HasSaidAll c.window (connect_step c s).side.near

abbrev pub DisconnectSaysAll : Type 0
DisconnectSaysAll = (c : LinkSettings) (s : LinkStation) → HasSaidAll c.window (disconnect_step c s).side.near

abbrev pub AbandonSaysAll : Type 0
AbandonSaysAll = (c : LinkSettings) (s : LinkStation) → HasSaidAll c.window (abandon_step c s).side.near

-- ---- at rest

-- where timer T1 doesn't run, a station that is Up is idle
abbrev pub NoTimerIsIdle : Type 0
NoTimerIsIdle = (k : ℕ) (s : LinkStation) → 1 ≤ k → IsSound k s.outgoing → HasSaidAll k s → is_up s.phase ≡ true
    → timer_runs s.phase s ≡ false → is_idle s ≡ true

-- with no recovery and a peer that isn't busy, a station that is Up is at rest once all before V(S) is acknowledged
abbrev pub AllHeardIsRest : Type 0
AllHeardIsRest =
    (k : ℕ) (s : LinkStation) → 1 ≤ k → IsSound k s.outgoing → HasSaidAll k s → is_up s.phase ≡ true
    → s.recovery ≡ false → s.peer_busy ≡ false → s.outgoing.place ≤ s.outgoing.acked → IsAtRest s

-- and it is at rest in no other case
abbrev pub RestIsAllHeard : Type 0
RestIsAllHeard = (s : LinkStation) → IsAtRest s → (is_up s.phase ≡ true) × (s.recovery ≡ false) × (s.peer_busy ≡ false)
    × (s.outgoing.acked ≡ s.outgoing.sent)

-- the laws together
pub record RestLaws : Type 0 where
  pub take : TakeSaysAll
  pub put : PutSaysAll
  pub timer : TimerSaysAll
  pub connect : ConnectSaysAll
  pub disconnect : DisconnectSaysAll
  pub abandon : AbandonSaysAll
  pub no_timer : NoTimerIsIdle
  pub all_heard : AllHeardIsRest
  pub only_then : RestIsAllHeard

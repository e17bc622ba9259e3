-- What the notes of a step say of the station after it, for what stands above a link.
use Rattle.std.specs.Prelude.{◌≡◌, ℕ, ◌≤◌, true, false, List, ◌++◌, Some, None, option_to_list}
use Rattle.x25_link.specs.declared.phase.Phase.TheVariants.{Down, Up}
use Rattle.x25_link.specs.declared.phase.Reason.{Reason}
use Rattle.x25_link.specs.Outgoing.{waits}
use Rattle.x25_link.specs.Station.{LinkSettings, LinkStation, lists_of, no_packets, fresh, is_up}
use Rattle.x25_link.specs.Hearing.{LinkStep}
use Rattle.x25_link.specs.Link.{take_step, put_step, timer_step, connect_step, disconnect_step, abandon_step}
use Rattle.x25_link.specs.Link.{relink_step}
use Rattle.x25_link.specs.laws.SetUp.{reset_from}

-- nothing is noted
abbrev pub IsQuiet : LinkStep → Type 0
IsQuiet step = step.notes ≡ record { down = None; up = false }

-- LinkUp: the link begins afresh, and a link that was up went down before. LinkDown alone: it isn't up, and its lists
-- are empty. Nothing noted: it is up or not as before, and where it isn't, empty lists stay empty.
pub record Tells (s : LinkStation) (step : LinkStep) : Type 0 where
  pub fresh_up : step.notes.up ≡ true → step.side.near ≡ fresh
  pub after_down : step.notes.up ≡ true → step.notes.down ≡ reset_from s.phase
  pub left : (reason : Reason) → step.notes.down ≡ Some reason → step.notes.up ≡ false
      → is_up step.side.near.phase ≡ false
  pub dropped : (reason : Reason) → step.notes.down ≡ Some reason → step.notes.up ≡ false
      → lists_of step.side.near ≡ no_packets
  pub stays : IsQuiet step → is_up step.side.near.phase ≡ is_up s.phase
  pub empty : IsQuiet step → is_up s.phase ≡ false → lists_of s ≡ no_packets → lists_of step.side.near ≡ no_packets

-- nothing noted: the phase is as before, nothing is handed down, what is handed up stands behind all others, no packet
-- waits again, and what is acknowledged stays so
pub record Continues (s : LinkStation) (step : LinkStep) : Type 0 where
  pub phase : IsQuiet step → step.side.near.phase ≡ s.phase
  pub given : IsQuiet step → step.side.near.outgoing.given ≡ s.outgoing.given
  pub taken : IsQuiet step → step.side.near.taken ≡ s.taken ++ option_to_list step.packet
  pub waits : IsQuiet step → waits step.side.near.outgoing ≤ waits s.outgoing
  pub acked : IsQuiet step → s.outgoing.acked ≤ step.side.near.outgoing.acked

-- a packet is handed up in Up alone, while at most 254 wait, before the step and after it, and nothing is noted then
pub record HandsUp (s : LinkStation) (step : LinkStep) : Type 0 where
  pub up : (packet : List ℕ) → step.packet ≡ Some packet → s.phase ≡ Up
  pub few : (packet : List ℕ) → step.packet ≡ Some packet → waits s.outgoing ≤ 254
  pub few_after : (packet : List ℕ) → step.packet ≡ Some packet → waits step.side.near.outgoing ≤ 254
  pub quiet : (packet : List ℕ) → step.packet ≡ Some packet → IsQuiet step

abbrev pub TakeTells : Type 0
TakeTells = (c : LinkSettings) (octets : List ℕ) (s : LinkStation) → Tells s (take_step c octets s)

abbrev pub TakeContinues : Type 0
TakeContinues = (c : LinkSettings) (octets : List ℕ) (s : LinkStation) → Continues s (take_step c octets s)

abbrev pub TakeHandsUp : Type 0
TakeHandsUp = (c : LinkSettings) (octets : List ℕ) (s : LinkStation) → HandsUp s (take_step c octets s)

abbrev pub TimerTells : Type 0
TimerTells = (c : LinkSettings) (s : LinkStation) → Tells s (timer_step c s)

abbrev pub TimerContinues : Type 0
TimerContinues = (c : LinkSettings) (s : LinkStation) → Continues s (timer_step c s)

abbrev pub PutTells : Type 0
PutTells = (c : LinkSettings) (packet : List ℕ) (s : LinkStation) → is_up s.phase ≡ true → Tells s (put_step c packet s)

abbrev pub ConnectTells : Type 0
ConnectTells = (c : LinkSettings) (s : LinkStation) → s.phase ≡ Down → Tells s (connect_step c s)

abbrev pub DisconnectTells : Type 0
DisconnectTells = (c : LinkSettings) (s : LinkStation) → Tells s (disconnect_step c s)

abbrev pub AbandonTells : Type 0
AbandonTells = (c : LinkSettings) (s : LinkStation) → Tells s (abandon_step c s)

abbrev pub RelinkTells : Type 0
RelinkTells = (c : LinkSettings) (s : LinkStation) → Tells s (relink_step c s)

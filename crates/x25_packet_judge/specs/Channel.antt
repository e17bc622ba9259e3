-- Both ends of a logical channel, each as the set of states in which it may be, and what is told of a packet.
use Rattle.std.specs.Prelude.{ℕ, Bool, true, false, not, ◌&&◌, ◌||◌, if◌then◌else◌, Option, Some, None, is_some}
use Rattle.x25_bits.specs.declared.{role.Role.{Role}, role.Role.TheVariants.{Dte, Dce}}
use Rattle.x25_packet_judge.specs.{PacketRule.{is_order}, Reason.{manners, reason}}
use Rattle.x25_packet_judge.specs.declared.{channel.Channel.{Channel}, channel.Event.{Event}}
use Rattle.x25_packet_judge.specs.declared.channel.Event.TheVariants.{Sends, Loss}
use Rattle.x25_packet_judge.specs.declared.{book.Noted.TheVariants.{Again, Unjudged}, book.Verdict.{Verdict}}
use Rattle.x25_packet_judge.specs.declared.packet_rule.PacketRule.{PacketRule}
use Rattle.x25_possible.specs.code.Steps as sets
use Rattle.x25_possible.specs.declared.{packet.Packet.TheVariants.{Elsewhere}, packet.Packet.{Packet}, set.Set.{Set}}
use Rattle.x25_possible.specs.declared.{set.Told.{Told}, set.Told.TheVariants.{Nothing, Rude, Broken}}

-- nothing is known; or both have restarted
abbrev pub any_channel : Channel
any_channel = record { dte = sets.any Dte; dce = sets.any Dce; is_noted = false }

abbrev pub begun_channel : Channel
begun_channel = record { dte = sets.begun Dte; dce = sets.begun Dce; is_noted = false }

-- the link is set up: nothing is known, but nothing of before comes
abbrev pub ready_channel : Channel
ready_channel = record { dte = sets.ready Dte; dce = sets.ready Dce; is_noted = false }

-- packets of both ends weren't seen
abbrev pub lost : Channel → Channel
lost c = record { dte = sets.lost c.dte; dce = sets.lost c.dce; is_noted = false }

-- of both ends what is of this one
abbrev pub by_end : {A : Type 0} → Role → A → A → A
by_end Dte dte dce = dte
by_end Dce dte dce = dce

abbrev pub rule_of : Told → Packet → Option PacketRule
rule_of Nothing x = None
rule_of (Rude s) x = Some (manners s)
rule_of (Broken s) x = Some (reason s x)

-- ---- an end sends a packet

pub record Sent : Type 0 where
  pub set : Set
  pub verdict : Verdict

-- it is judged where the set was known, and is, or a rule is told
abbrev pub sent : Packet → Set → Sent
sent x was = let s = sets.sends_to x was in record {
  set = s.set;
  verdict = record {
    rule = rule_of s.told x;
    noted = if sets.repeats x was then Some Again else None;
    is_judged = sets.is_known was && (is_some (rule_of s.told x) || sets.is_known s.set);
  };
}

-- behind a packet, and what is told of it
pub record Found : Type 0 where
  pub channel : Channel
  pub verdict : Verdict

abbrev pub takes : Role → Packet → Channel → Found
takes from x c = record {
  channel = record c {
    dte = by_end from (sent x c.dte).set (sets.shows_to x c.dte);
    dce = by_end from (sets.shows_to x c.dce) (sent x c.dce).set;
  };
  verdict = (sent x (by_end from c.dte c.dce)).verdict;
}

-- of all channels
abbrev pub happens : Event → Channel → Channel
happens (Sends from x) c = (takes from x c).channel
happens Loss c = lost c

-- ---- what isn't judged is noted once, until both ends are known

abbrev pub is_known : Channel → Bool
is_known c = sets.is_known c.dte && sets.is_known c.dce

abbrev pub noted : Bool → Channel → Channel
noted is_noted c = record c { is_noted = is_noted }

abbrev pub passed : ℕ → Channel → Found
passed n c = record {
  channel = noted true c;
  verdict = record { rule = None; noted = if c.is_noted then None else Some (Unjudged n); is_judged = false };
}

abbrev pub marked : ℕ → Verdict → Channel → Found
marked n g c = record {
  channel = noted (if g.is_judged then c.is_noted && not (is_known c) else true) c;
  verdict = if g.is_judged then g else (passed n c).verdict;
}

unfoldable pub judges : ℕ → Role → Packet → Channel → Found
judges n from x c = marked n (takes from x c).verdict (takes from x c).channel

-- one that isn't read
abbrev pub doubted : Channel → Channel
doubted c = record c { dte = sets.doubted c.dte; dce = sets.doubted c.dce }

abbrev pub misses : ℕ → Channel → Found
misses n c = passed n (doubted c)

-- ---- a packet of another channel

-- a RESTART is to be answered first
abbrev pub is_early : Role → Channel → Bool
is_early from c = is_order (takes from Elsewhere c).verdict.rule

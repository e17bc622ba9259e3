-- What is told of an end by a book, packet by packet, and what a book is behind the packets of both ends.
use Rattle.std.specs.Prelude.{◌≡◌, ℕ, ◌%◌, ◌==◌, Bool, true, false, not, ◌&&◌, ◌||◌, if◌then◌else◌, List, [], ◌∷◌}
use Rattle.std.specs.Prelude.{Option, Some, None, is_some}
use Rattle.x25_bits.specs.Role.{other}
use Rattle.x25_bits.specs.declared.role.{Role.{Role}, Role.TheVariants.{Dte, Dce}}
use Rattle.x25_packet.specs.Packet.{PlainPacket, restart, restart_conf}
use Rattle.x25_packet_judge.specs.{Book.{begins, is_of_all, is_restart, layers_of, takes}, Channels.{channel_of}}
use Rattle.x25_packet_judge.specs.{Channel.{by_end, lost, rule_of}, Item.{item_of}}
use Rattle.x25_packet_judge.specs.PacketRule.{is_of_manners, is_order}
use Rattle.x25_packet_judge.specs.declared.{book.Book.{Book}, channel.Channel.{Channel}, layers.Layers.{Layers}}
use Rattle.x25_packet_judge.specs.declared.packet_rule.PacketRule.{PacketRule}
use Rattle.x25_packet_judge.specs.declared.packet_rule.PacketRule.TheVariants as rules
use Rattle.x25_possible.specs.Channel.{channel_rules, is_polite, sends_as}
use Rattle.x25_possible.specs.laws.{Possible.{IsIn, IsUnexplained, Item, Own, Other, Stands}, Sets.{Fits}}
use Rattle.x25_possible.specs.code.Steps.{behind, is_known, may_send, sends_to, shows_to}
use Rattle.x25_possible.specs.declared.packet.{Defaults.{Defaults}, Packet.{Packet}}
use Rattle.x25_possible.specs.declared.packet.Packet.TheVariants.{Elsewhere, Restart, RestartConf}
use Rattle.x25_possible.specs.declared.{phase.Phase.{Phase}, phase.Phase.TheVariants.{Idle}, set.Set.{Set}}
use Rattle.x25_possible.specs.declared.spots.Spot.{Spot}

-- ---- the sets of an end

abbrev pub end_of : Role → Channel → Set
end_of role c = by_end role c.dte c.dce

abbrev pub set_of : Role → ℕ → Book → Set
set_of role channel b = end_of role (channel_of channel b.channels)

-- the set that a packet is judged by
abbrev pub asked_of : Role → ℕ → PlainPacket → Book → Set
asked_of from channel packet b = if is_of_all packet then end_of from b.restarts else set_of from channel b

-- Where no packet was sent since the set-up of the link, the packet layer may go on from before it.
abbrev pub is_quiet : Role → Book → Bool
is_quiet from b = (layers_of from b).own.is_quiet

-- it goes where a RESTART is to be answered first: no state of the end in RESTART sends what is of another channel
abbrev pub refuses : Role → Channel → Bool
refuses from c = is_order (rule_of (sends_to Elsewhere (end_of from c)).told Elsewhere)

abbrev pub awaits : Role → PlainPacket → Book → Bool
awaits from packet b = not (is_of_all packet) && refuses from (if is_quiet from b then lost b.restarts else b.restarts)

abbrev pub rule_told : Role → ℕ → PlainPacket → Book → Option PacketRule
rule_told from channel packet b = (takes from channel packet b).verdict.rule

abbrev pub is_manners : Option PacketRule → Bool
is_manners None = false
is_manners (Some rule) = is_of_manners rule

-- the set of its sender behind it
abbrev pub moved : Role → ℕ → PlainPacket → Book → Set
moved from channel packet b = (sends_to (item_of b.defaults packet) (asked_of from channel packet b)).set

-- What is told of a packet, by the set of its sender. A rule of order is told exactly where no run of an end that keeps
-- the rules explains the tape that the set fits, as long as the set is known behind it.
pub record BooksTellExactly : Type 0 where
  pub told : (b : Book) (from : Role) (channel : ℕ) (packet : PlainPacket) (begun : List Phase)
      (tape : List (Item Packet))
      → awaits from packet b ≡ false
      → Fits begun tape (asked_of from channel packet b) → is_order (rule_told from channel packet b) ≡ true
      → IsUnexplained (channel_rules (asked_of from channel packet b).role begun)
      (Own (item_of b.defaults packet) ∷ tape)
  pub untold : (b : Book) (from : Role) (channel : ℕ) (packet : PlainPacket) (begun : List Phase)
      (tape : List (Item Packet)) → awaits from packet b ≡ false
      → Fits begun tape (asked_of from channel packet b) → is_order (rule_told from channel packet b) ≡ false
      → is_known (moved from channel packet b) ≡ true
      → IsUnexplained (channel_rules (asked_of from channel packet b).role begun)
      (Own (item_of b.defaults packet) ∷ tape) → ⊥
  pub manners : (b : Book) (from : Role) (channel : ℕ) (packet : PlainPacket) (q : Spot) → awaits from packet b ≡ false
      → is_manners (rule_told from channel packet b) ≡ true → IsIn q (asked_of from channel packet b).spots.items
      → may_send q.phase (item_of b.defaults packet) ≡ true → is_polite q.phase (item_of b.defaults packet) ≡ false
  pub unknown : (b : Book) (from : Role) (channel : ℕ) (packet : PlainPacket) → awaits from packet b ≡ false
      → is_known (asked_of from channel packet b) ≡ false → rule_told from channel packet b ≡ None
  pub early : (b : Book) (from : Role) (channel : ℕ) (packet : PlainPacket) → awaits from packet b ≡ true
      → rule_told from channel packet b ≡ Some rules.RestartAwaited
  pub awaited : (b : Book) (from : Role) (packet : PlainPacket) (begun : List Phase) (tape : List (Item Packet))
      → awaits from packet b ≡ true → is_quiet from b ≡ false
      → Fits begun tape (end_of from b.restarts)
      → IsUnexplained (channel_rules (end_of from b.restarts).role begun) (Own Elsewhere ∷ tape)
  pub judged : (b : Book) (from : Role) (channel : ℕ) (packet : PlainPacket)
      → (takes from channel packet b).verdict.is_judged
      ≡ (awaits from packet b || (is_restart packet || (is_known (asked_of from channel packet b)
      && (is_some (rule_told from channel packet b) || is_known (moved from channel packet b)))))

-- ---- packets of both ends

abbrev pub seen_by : Role → Role → Packet → Item Packet
seen_by Dte Dte x = Own x
seen_by Dce Dce x = Own x
seen_by role from x = Other x

abbrev pub behind_item : Item Packet → Set → Set
behind_item (Own x) s = (sends_to x s).set
behind_item (Other x) s = shows_to x s

abbrev pub is_on : ℕ → ℕ → PlainPacket → Bool
is_on channel of packet = is_of_all packet || channel % 4096 == of % 4096

-- as RESTART's own channel has it
abbrev pub of_restarts : Defaults → PlainPacket → Packet
of_restarts d packet = if is_of_all packet then item_of d packet else Elsewhere

-- Of each end and channel the book has the set that its own tape gives, whatever goes on other channels.
pub record BooksFollowTapes : Type 0 where
  pub channels : (b : Book) (role from : Role) (channel of : ℕ) (packet : PlainPacket)
      → set_of role channel (takes from of packet b).book
      ≡ (if is_on channel of packet
      then behind_item (seen_by role from (item_of b.defaults packet)) (set_of role channel b)
      else set_of role channel b)
  pub restarts : (b : Book) (role from : Role) (of : ℕ) (packet : PlainPacket) → is_quiet from b ≡ false
      → end_of role (takes from of packet b).book.restarts
      ≡ behind_item (seen_by role from (of_restarts b.defaults packet)) (end_of role b.restarts)
  pub spoken : (b : Book) (role from : Role) (of : ℕ) (packet : PlainPacket) → is_quiet role b ≡ false
      → is_quiet role (takes from of packet b).book ≡ false

-- ---- whole tapes

pub record Spoken : Type 0 where
  pub from : Role
  pub channel : ℕ
  pub packet : PlainPacket

-- latest first
abbrev pub behind_all : List Spoken → Book → Book
behind_all [] b = b
behind_all (p ∷ ps) b = (takes p.from p.channel p.packet (behind_all ps b)).book

-- on a network with these defaults
abbrev pub tape_on : Defaults → Role → ℕ → List Spoken → List (Item Packet) → List (Item Packet)
tape_on d role channel [] tape = tape
tape_on d role channel (p ∷ ps) tape =
    if is_on channel p.channel p.packet then seen_by role p.from (item_of d p.packet) ∷ tape_on d role channel ps tape
    else tape_on d role channel ps tape

abbrev pub tape_of_restarts : Defaults → Role → List Spoken → List (Item Packet) → List (Item Packet)
tape_of_restarts d role [] tape = tape
tape_of_restarts d role (p ∷ ps) tape =
    seen_by role p.from (of_restarts d p.packet) ∷ tape_of_restarts d role ps tape

-- Since an end was restarted these packets were seen, on a channel and of restarts, and both ends have sent one.
pub record IsBehind (role : Role) (channel : ℕ) (tape restarts : List (Item Packet)) (b : Book) : Type 0 where
  pub dte : is_quiet Dte b ≡ false
  pub dce : is_quiet Dce b ≡ false
  pub set : set_of role channel b ≡ behind role tape
  pub restart_set : end_of role b.restarts ≡ behind role restarts

-- a run of an end that keeps the rules, from a restart on, sends this last
abbrev pub MaySend : Role → List (Item Packet) → Packet → Type 0
MaySend role tape x = (s : Phase) × ((way : List Packet) × Stands (channel_rules role (Idle ∷ [])) (Own x ∷ tape) s way)

-- No rule of order is told of an end that keeps the rules on the channel and those of RESTART, whatever the other end
-- sends, and however late that comes. Nor are manners, of what it sends within the window of the call and with M=1 in a
-- full packet alone.
pub record InnocentTapesStayUntold : Type 0 where
  pub sends : (b : Book) (from : Role) (channel : ℕ) (tape restarts : List (Item Packet)) (ps : List Spoken)
      (packet : PlainPacket) → IsBehind from channel tape restarts b → is_of_all packet ≡ false
      → MaySend from (tape_on b.defaults from channel ps tape) (item_of b.defaults packet)
      → MaySend from (tape_of_restarts b.defaults from ps restarts) Elsewhere
      → is_order (rule_told from channel packet (behind_all ps b)) ≡ false
  pub restarts : (b : Book) (from : Role) (channel of : ℕ) (tape restarts : List (Item Packet)) (ps : List Spoken)
      (packet : PlainPacket) → IsBehind from channel tape restarts b → is_of_all packet ≡ true
      → MaySend from (tape_of_restarts b.defaults from ps restarts) (item_of b.defaults packet)
      → is_order (rule_told from of packet (behind_all ps b)) ≡ false
  pub polite : (b : Book) (from : Role) (channel : ℕ) (tape restarts : List (Item Packet)) (ps : List Spoken)
      (packet : PlainPacket) (s r : Phase) (way : List Packet) (t : ℕ) → IsBehind from channel tape restarts b
      → is_of_all packet ≡ false
      → Stands (channel_rules from (Idle ∷ [])) (tape_on b.defaults from channel ps tape) s way
      → sends_as t s (item_of b.defaults packet) ≡ Some r → is_polite s (item_of b.defaults packet) ≡ true
      → is_manners (rule_told from channel packet (behind_all ps b)) ≡ false

-- Behind a set-up of the link one end restarts, and the other one confirms it: all channels begin so, and restarts.
abbrev pub begins_with : Role → Role → List (Item Packet)
begins_with role from = seen_by role (other from) RestartConf ∷ seen_by role from Restart ∷ []

abbrev pub RestartsBegin : Type 0
RestartsBegin =
    (b : Book) (t : Layers) (role up from : Role) (channel one two cause diagnostic : ℕ)
    → IsBehind role channel (begins_with role from) (begins_with role from)
    (takes (other from) two restart_conf (takes from one (restart cause diagnostic) (begins up t b)).book).book

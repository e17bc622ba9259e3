-- What a packet makes of a book, and what is told of it.
use Rattle.x25_packet_judge.proofs.Names.{or_parts, ◌≡◌, ◌∙◌, ℕ, Bool, true, false, Some, None, refl, sym, ap, arith, ◌%◌, ◌==◌, ◌&&◌, ◌||◌, not, if◌then◌else◌}
use Rattle.x25_packet_judge.proofs.Names.{unwrap_or, Role, Dte, Dce, PlainPacket, is_of_all, is_restart, lost, rule_of, sent, Channels, channel_of, put}
use Rattle.x25_packet_judge.proofs.Names.{item_of, Book, Channel, RestartAwaited, asked_of, awaits, behind_item, end_of, is_quiet, refuses, seen_by, set_of}
use Rattle.x25_packet_judge.proofs.Names.{BooksFollowTapes, is_known, sends_to, Packet, Elsewhere, Set, Nothing}
use Rattle.std.specs.Prelude.{slice_index_or}
use Rattle.std.proofs.lemmas.Bool.Decides.{nat_tests}
use Rattle.x25_packet_judge.specs.declared.{book.Verdict.{Verdict}, channel.Event.TheVariants.{Sends}}
use Rattle.x25_packet_judge.proofs.{ChannelsLemmas.{happens_on, put_other, put_same}, TellingLemmas.{ends_move, judged_ends, judged_is, judged_rule}}
use Rattle.x25_packet_judge.specs.Book as book
use Rattle.x25_packet_judge.specs.Channel as channels

-- which packet it is
pub takes_is : (from : Role) (of : ℕ) (packet : PlainPacket) (b : Book) (all : Bool) → is_of_all packet ≡ all
    → book.takes from of packet b ≡ (if all then book.restarts from (item_of b.defaults packet) (is_restart packet) (book.spoken from b)
    else book.follows from of (item_of b.defaults packet) (is_quiet from b) (book.spoken from b))
unfolding book.takes
takes_is from of packet b all is = ap (λ a. if a then book.restarts from (item_of b.defaults packet) (is_restart packet) (book.spoken from b)
    else book.follows from of (item_of b.defaults packet) (is_quiet from b) (book.spoken from b)) is

-- ---- channels and restarts behind it

one_set : (role from : Role) (channel of : ℕ) (x : Packet) (cs : Channels) (on : Bool) → (channel % 4096 == of % 4096) ≡ on
    → end_of role (channel_of channel (put of (channels.judges of from x (channel_of of cs)).channel cs))
    ≡ (if on then behind_item (seen_by role from x) (end_of role (channel_of channel cs)) else end_of role (channel_of channel cs))
one_set role from channel of x cs true is =
    let same : channel % 4096 ≡ of % 4096 = grind (arith, is, nat_tests) in
    ap (end_of role) (put_same of channel _ cs same) ∙ judged_ends of role from x (channel_of of cs)
    ∙ ap (λ (n : ℕ). behind_item (seen_by role from x) (end_of role (unwrap_or (slice_index_or cs.seen n None) cs.usual))) (sym same)
one_set role from channel of x cs false is = ap (end_of role) (put_other of channel _ cs (λ same. absurd (grind (arith, is, same, nat_tests))))

sets_follow : (b : Book) (role from : Role) (channel of : ℕ) (packet : PlainPacket) (all : Bool) → is_of_all packet ≡ all
    → set_of role channel (book.takes from of packet b).book
    ≡ (if all || (channel % 4096 == of % 4096) then behind_item (seen_by role from (item_of b.defaults packet)) (set_of role channel b)
    else set_of role channel b)
sets_follow b role from channel of packet true is =
    ap (λ (s : book.Seen). end_of role (channel_of channel s.book.channels)) (takes_is from of packet b true is)
    ∙ ap (end_of role) (happens_on (Sends from (item_of b.defaults packet)) channel b.channels) ∙ ends_move role from (item_of b.defaults packet) (channel_of channel b.channels)
sets_follow b role from channel of packet false is =
    ap (λ (s : book.Seen). end_of role (channel_of channel s.book.channels)) (takes_is from of packet b false is)
    ∙ one_set role from channel of (item_of b.defaults packet) b.channels (channel % 4096 == of % 4096) refl

pub restarts_of_all : (b : Book) (role from : Role) (of : ℕ) (packet : PlainPacket) → is_of_all packet ≡ true
    → end_of role (book.takes from of packet b).book.restarts ≡ behind_item (seen_by role from (item_of b.defaults packet)) (end_of role b.restarts)
restarts_of_all b role from of packet is =
    ap (λ (s : book.Seen). end_of role s.book.restarts) (takes_is from of packet b true is) ∙ ends_move role from (item_of b.defaults packet) b.restarts

restarts_follow : (b : Book) (role from : Role) (of : ℕ) (packet : PlainPacket) (all : Bool) → is_of_all packet ≡ all → is_quiet from b ≡ false
    → end_of role (book.takes from of packet b).book.restarts
    ≡ behind_item (seen_by role from (if all then item_of b.defaults packet else Elsewhere)) (end_of role b.restarts)
restarts_follow b role from of packet true is loud = restarts_of_all b role from of packet is
restarts_follow b role from of packet false is loud =
    ap (λ (s : book.Seen). end_of role s.book.restarts) (takes_is from of packet b false is)
    ∙ ends_move role from Elsewhere (if is_quiet from b then lost b.restarts else b.restarts)
    ∙ ap (λ q. behind_item (seen_by role from Elsewhere) (end_of role (if q then lost b.restarts else b.restarts))) loud

-- ---- an end that has sent

spoken_layers : (role from : Role) (b : Book) → is_quiet role b ≡ false → is_quiet role (book.spoken from b) ≡ false
spoken_layers Dte Dce b loud = loud
spoken_layers Dce Dte b loud = loud
spoken_layers role from b loud = refl

spoken_once : (from : Role) (b : Book) → is_quiet from (book.spoken from b) ≡ false
spoken_once Dte b = refl
spoken_once Dce b = refl

pub sends_first : (from : Role) (of : ℕ) (packet : PlainPacket) (b : Book) → is_of_all packet ≡ true → is_quiet from (book.takes from of packet b).book ≡ false
sends_first from of packet b is = ap (λ (s : book.Seen). is_quiet from s.book) (takes_is from of packet b true is) ∙ spoken_once from b

loud_stays : (b : Book) (role from : Role) (of : ℕ) (packet : PlainPacket) (all : Bool) → is_of_all packet ≡ all
    → is_quiet role b ≡ false → is_quiet role (book.takes from of packet b).book ≡ false
loud_stays b role from of packet true is loud =
    ap (λ (s : book.Seen). is_quiet role s.book) (takes_is from of packet b true is) ∙ spoken_layers role from b loud
loud_stays b role from of packet false is loud =
    ap (λ (s : book.Seen). is_quiet role s.book) (takes_is from of packet b false is) ∙ spoken_layers role from b loud

pub books_follow_tapes : BooksFollowTapes
books_follow_tapes = record {
  channels = λ b role from channel of packet. sets_follow b role from channel of packet (is_of_all packet) refl;
  restarts = λ b role from of packet loud. restarts_follow b role from of packet (is_of_all packet) refl loud;
  spoken = λ b role from of packet loud. loud_stays b role from of packet (is_of_all packet) refl loud;
}

-- ---- what is told

abbrev pub AreUnknown : Type 0
AreUnknown = (s : Set) (x : Packet) → is_known s ≡ false → (sends_to x s).told ≡ Nothing

-- of a packet of a channel, where RESTART is to be answered first or not
abbrev of_one : Bool → Role → ℕ → Packet → Channel → Verdict
of_one e from of x c = if e then record { rule = Some RestartAwaited; noted = None; is_judged = true }
    else (channels.judges of from x c).verdict

one_rule : AreUnknown → (from : Role) (of : ℕ) (x : Packet) (c : Channel) (e : Bool)
    → (of_one e from of x c).rule ≡ (if e then Some RestartAwaited else rule_of (sends_to x (end_of from c)).told x)
one_rule unknown from of x c true = refl
one_rule unknown from of x c false = judged_rule of from x c (unknown (end_of from c) x)

one_judged : (from : Role) (of : ℕ) (x : Packet) (c : Channel) (e : Bool) → (of_one e from of x c).is_judged ≡ (e || (sent x (end_of from c)).verdict.is_judged)
one_judged from of x c true = refl
one_judged from of x c false = judged_is of from x c

abbrev is_early : Role → Book → Bool
is_early from b = refuses from (if is_quiet from b then lost b.restarts else b.restarts)

abbrev asked : Role → ℕ → Book → Bool → Set
asked from of b all = if all then end_of from b.restarts else set_of from of b

module _ (from : Role) (of : ℕ) (packet : PlainPacket) (b : Book) where
  pub told_is : AreUnknown → (all : Bool) → is_of_all packet ≡ all → (book.takes from of packet b).verdict.rule
      ≡ (if awaits from packet b then Some RestartAwaited
      else rule_of (sends_to (item_of b.defaults packet) (asked_of from of packet b)).told (item_of b.defaults packet))
  told_is unknown false is =
      ap (λ (s : book.Seen). s.verdict.rule) (takes_is from of packet b false is)
      ∙ one_rule unknown from of (item_of b.defaults packet) (channel_of of b.channels) (is_early from b)
      ∙ ap (λ a. if not a && is_early from b then Some RestartAwaited else rule_of (sends_to (item_of b.defaults packet) (asked from of b a)).told (item_of b.defaults packet))
      (sym is)
  told_is unknown true is =
      ap (λ (s : book.Seen). s.verdict.rule) (takes_is from of packet b true is)
      ∙ ap (λ a. if not a && is_early from b then Some RestartAwaited else rule_of (sends_to (item_of b.defaults packet) (asked from of b a)).told (item_of b.defaults packet))
      (sym is)

  pub judged_so : (all : Bool) → is_of_all packet ≡ all → (book.takes from of packet b).verdict.is_judged
      ≡ (awaits from packet b || (is_restart packet || (sent (item_of b.defaults packet) (asked_of from of packet b)).verdict.is_judged))
  judged_so false is =
      ap (λ (s : book.Seen). s.verdict.is_judged) (takes_is from of packet b false is)
      ∙ one_judged from of (item_of b.defaults packet) (channel_of of b.channels) (is_early from b)
      ∙ ap (λ a. (not a && is_early from b) || (sent (item_of b.defaults packet) (asked from of b a)).verdict.is_judged) (sym is)
      ∙ ap (λ r. awaits from packet b || (r || (sent (item_of b.defaults packet) (asked_of from of packet b)).verdict.is_judged))
      (sym (or_parts (is_restart packet) _ is).0)
  judged_so true is =
      ap (λ (s : book.Seen). s.verdict.is_judged) (takes_is from of packet b true is)
      ∙ ap (λ a. (not a && is_early from b) || (is_restart packet || (sent (item_of b.defaults packet) (asked from of b a)).verdict.is_judged)) (sym is)

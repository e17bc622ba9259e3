-- What isn't judged is noted, once.
use Rattle.x25_packet_judge.proofs.Names.{both_ways, ◌≡◌, ◌∙◌, ℕ, Bool, true, false, Some, None, refl, sym, ap, ◌==◌, ◌&&◌}
use Rattle.x25_packet_judge.proofs.Names.{not, if◌then◌else◌, List, Role, PlainPacket, is_of_all, item_of, Book, Channel, awaits, is_quiet, lost, refuses}
use Rattle.x25_packet_judge.proofs.Names.{channel_of}
use Rattle.std.proofs.Common.{Err}
use Rattle.x25_decode.specs.declared.answer.Reading.{Reading}
use Rattle.x25_packet.specs.{Reading.{packet_of}, Spelling.{longest_user}, Grammar.{form_in}}
use Rattle.x25_packet_judge.specs.declared.{book.Verdict.{Verdict}, book.Noted.TheVariants.{Unjudged}}
use Rattle.x25_packet_judge.specs.declared.packet_rule.PacketRule.TheVariants as rules
use Rattle.x25_packet_judge.proofs.{ChannelsLemmas.{put_same}, BookLemmas.{takes_is}}
use Rattle.x25_packet_judge.specs.Book as book
use Rattle.x25_packet_judge.specs.Channel as channels
use Rattle.x25_packet_judge.specs.laws.UnseenClaims.{SpellNone, UnjudgedIsNoted, is_noted, are_known, noted_once}

-- ---- a packet of a channel

-- what is marked
marked_noted : (n : ℕ) (g : Verdict) (c : Channel) → g.is_judged ≡ false
    → ((channels.marked n g c).verdict.noted ≡ (if c.is_noted then None else Some (Unjudged n))) × ((channels.marked n g c).channel.is_noted ≡ true)
marked_noted n g c is = (
  ap (λ b. (if b then g else (channels.passed n c).verdict).noted) is,
  ap (λ b. if b then c.is_noted && not (channels.is_known c) else true) is,
)

-- what is judged stays so
judged_as : (n : ℕ) (g : Verdict) (c : Channel) (b : Bool) → g.is_judged ≡ b → (channels.marked n g c).verdict.is_judged ≡ b
judged_as n g c true is = ap (λ b. (if b then g else (channels.passed n c).verdict).is_judged) is ∙ is
judged_as n g c false is = ap (λ b. (if b then g else (channels.passed n c).verdict).is_judged) is

abbrev early : Role → Book → Bool
early from b = refuses from (if is_quiet from b then lost b.restarts else b.restarts)

module _ (b : Book) (from : Role) (of : ℕ) (packet : PlainPacket) (one : is_of_all packet ≡ false) where
  abbrev there : channels.Found
  there = channels.takes from (item_of b.defaults packet) (channel_of of b.channels)

  channel_is : channel_of of (book.takes from of packet b).book.channels ≡ (channels.marked of there.verdict there.channel).channel
  unfolding channels.judges
  channel_is = ap (λ (s : book.Seen). channel_of of s.book.channels) (takes_is from of packet b false one)
      ∙ put_same of of (channels.judges of from (item_of b.defaults packet) (channel_of of b.channels)).channel b.channels refl

  verdict_is : (book.takes from of packet b).verdict ≡ (if early from b then record { rule = Some rules.RestartAwaited; noted = None; is_judged = true }
      else (channels.marked of there.verdict there.channel).verdict)
  unfolding channels.judges
  verdict_is = ap (λ (s : book.Seen). s.verdict) (takes_is from of packet b false one)

  -- not early, or it were judged
  by_early : (e : Bool) (v w : Verdict) → v ≡ (if e then record { rule = Some rules.RestartAwaited; noted = None; is_judged = true } else w)
      → v.is_judged ≡ false → (v ≡ w)
  by_early true v w is none = absurd (both_ways v.is_judged none (ap (λ (u : Verdict). u.is_judged) is))
  by_early false v w is none = is

  noted : (book.takes from of packet b).verdict.is_judged ≡ false
      → ((book.takes from of packet b).verdict.noted ≡ noted_once of b) × (is_noted of (book.takes from of packet b).book ≡ true)
  noted none =
      let said = by_early (early from b) (book.takes from of packet b).verdict (channels.marked of there.verdict there.channel).verdict verdict_is none in
      let unjudged = go there.verdict.is_judged refl (sym (ap (λ (u : Verdict). u.is_judged) said) ∙ none) in
      let marked = marked_noted of there.verdict there.channel unjudged in
      (ap (λ (u : Verdict). u.noted) said ∙ marked.0, ap (λ (c : Channel). c.is_noted) channel_is ∙ marked.1)
    where
      go : (j : Bool) → there.verdict.is_judged ≡ j → (channels.marked of there.verdict there.channel).verdict.is_judged ≡ false → there.verdict.is_judged ≡ false
      go true is e = absurd (both_ways false refl (sym e ∙ judged_as of there.verdict there.channel true is))
      go false is e = is

  anew : awaits from packet b ≡ false → (book.takes from of packet b).verdict.is_judged ≡ true
      → is_noted of (book.takes from of packet b).book ≡ (is_noted of b && not (are_known of (book.takes from of packet b).book))
  anew free is =
      let late : early from b ≡ false = ap (λ a. not a && early from b) (sym one) ∙ free in
      let said = verdict_is ∙ ap (λ e. if e then record { rule = Some rules.RestartAwaited; noted = None; is_judged = true }
      else (channels.marked of there.verdict there.channel).verdict) late in
      let judged = go there.verdict.is_judged refl (sym (ap (λ (u : Verdict). u.is_judged) said) ∙ is) in
      let marked : (channels.marked of there.verdict there.channel).channel.is_noted ≡ (there.channel.is_noted && not (channels.is_known there.channel))
      = ap (λ j. if j then there.channel.is_noted && not (channels.is_known there.channel) else true) judged in
      ap (λ (c : Channel). c.is_noted) channel_is ∙ marked
      ∙ ap (λ (c : Channel). is_noted of b && not (channels.is_known c)) (sym channel_is)
    where
      go : (j : Bool) → there.verdict.is_judged ≡ j → (channels.marked of there.verdict there.channel).verdict.is_judged ≡ true → there.verdict.is_judged ≡ true
      go true is e = is
      go false is e = absurd (both_ways false refl (sym (judged_as of there.verdict there.channel false is) ∙ e))

-- ---- octets

module _ (b : Book) (of : ℕ) (named : (of == 0) ≡ false) where
  misses_is : book.misses_on of b ≡ book.puts of (channels.misses of (channel_of of b.channels)) b
  misses_is = ap (λ e. if e then book.passed (book.forgets b) (Some (Unjudged 0)) else book.puts of (channels.misses of (channel_of of b.channels)) b) named

  octets : ((book.misses_on of b).verdict.noted ≡ noted_once of b) × (is_noted of (book.misses_on of b).book ≡ true)
  octets = (
    ap (λ (s : book.Seen). s.verdict.noted) misses_is,
    ap (λ (s : book.Seen). is_noted of s.book) misses_is
        ∙ ap (λ (c : Channel). c.is_noted) (put_same of of (channels.misses of (channel_of of b.channels)).channel b.channels refl),
  )

module _ (b : Book) (from : Role) (reading : Reading) (of : ℕ) (octets : List ℕ) (none : SpellNone reading octets) where
  abbrev most : ℕ
  most = longest_user reading.long

  any_is : book.reads_any from of most octets b ≡ book.untaken of octets (Err none.any.0) b
  any_is = ap (λ p. book.takes_any from of octets (form_in most octets) p b) none.taken.1 ∙ ap (λ o. book.untaken of octets o b) none.any.1

  reads_is : (wide : Bool) → (if wide then book.reads_any from of most octets b
      else book.takes_read from of most octets (packet_of most octets) b) ≡ book.untaken of octets (Err none.any.0) b
  reads_is true = any_is
  reads_is false = ap (λ p. book.takes_read from of most octets p b) none.written.1 ∙ any_is

  no_packet : book.is_modulo_8 octets ≡ true → (book.reads from reading of octets b).verdict.rule ≡ Some rules.NoPacket
  unfolding book.reads
  no_packet is = ap (λ (s : book.Seen). s.verdict.rule) (reads_is reading.wide)
      ∙ ap (λ m. (if m then book.seen (book.misses_on of b).book (record { rule = Some rules.NoPacket; noted = None; is_judged = true })
      else book.misses_on of b).verdict.rule) is

  other_format : book.is_modulo_8 octets ≡ false → (book.reads from reading of octets b).verdict ≡ (book.misses_on of b).verdict
  unfolding book.reads
  other_format is = ap (λ (s : book.Seen). s.verdict) (reads_is reading.wide)
      ∙ ap (λ m. (if m then book.seen (book.misses_on of b).book (record { rule = Some rules.NoPacket; noted = None; is_judged = true })
      else book.misses_on of b).verdict) is

pub unjudged_is_noted : UnjudgedIsNoted
unjudged_is_noted = record {
  packet = λ b from of packet one none. noted b from of packet one none;
  anew = λ b from of packet one free is. anew b from of packet one free is;
  octets = λ b of named. octets b of named;
  unnamed = λ b. refl;
  no_packet = λ b from reading of octets none is. no_packet b from reading of octets none is;
  other_format = λ b from reading of octets none is. other_format b from reading of octets none is;
}

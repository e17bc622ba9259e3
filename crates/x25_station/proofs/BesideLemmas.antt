-- A packet in which a CALL has less user data than it may have is read so where it may have more.
use Rattle.x25_station.proofs.Names.{ℕ, ◌<◌, ◌≤◌, ◌≡◌, subst, Bool, List, arith, Option, Some, None, Result, Ok, inl, inr, All, PlainForm, plain, Spells}
use Rattle.x25_station.proofs.Names.{form_in, PacketError, Form, Any, ReadsFormsThatAreSpelled, IsReadShorter}
use Rattle.std.specs.Prelude.{max}
use Rattle.x25_packet.specs.{Block.{IsBlock, PlainFields}, Form.{PlainKind, call}, Form.Spelling.{IsKind, IsShort}, Grammar.{Gives}}

short_longer : (most : ℕ) (f : Option PlainFields) → most ≤ 128 → IsShort most f → IsShort 128 f
short_longer most None few is = tt
short_longer most (Some f) few (inl is) = inl (omega (arith, few, is))
short_longer most (Some f) few (inr is) = inr is

kind_longer : (a : Bool) (most : ℕ) (k : PlainKind) → most ≤ 128 → IsKind Any a most k → IsKind Any a 128 k
kind_longer a most (call block) few is =
    let same : max most 128 ≡ max 128 128 = omega (arith, few) in
    (subst (λ n. IsBlock Any a n block) same is.0, short_longer most block.fields few is.1)
kind_longer a most k few is = is

spells_longer : (most : ℕ) (w : PlainForm) (octets : List ℕ) → most ≤ 128 → Spells Any most w octets → Spells Any 128 w octets
spells_longer most w octets few s = record {
  packet = record {
    channel = s.packet.channel;
    place = s.packet.place;
    marks = s.packet.marks;
    kind = kind_longer w.bit_8 most w.kind few s.packet.kind;
  };
  spelling = s.spelling;
}

pub read_longer : ReadsFormsThatAreSpelled → (octets : List ℕ) → All (λ octet. octet < 256) octets → (r : Result Form PacketError) (w : Form) → r ≡ Ok w
    → IsReadShorter r octets → Spells Any 128 (plain w) octets
read_longer reads octets small r w is shorter =
    spells_longer shorter.0 (plain w) octets shorter.1 ((reads Any shorter.0 (plain w) octets small).0
    (subst (λ (q : Result Form PacketError). Gives plain q (form_in shorter.0 octets)) is shorter.2))

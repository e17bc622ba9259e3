-- What is given beside a packet doesn't change what the packet is.
use Rattle.std.specs.Prelude.{◌≡◌, ℕ, ◌<◌, ◌≤◌, ◌⊎◌, ◌++◌, length, true, All, Some, Ok}
use Rattle.x25_packet.specs.Packet.{PlainPacket, call}
use Rattle.x25_packet.specs.Spelling.{IsInRange}
use Rattle.x25_packet.specs.Classes.{asks_fast_select}
use Rattle.x25_packet.specs.Form.{PlainForm}
use Rattle.x25_packet.specs.Grammar.{form_in}
use Rattle.x25_packet.specs.Taking.{taken_in}
use Rattle.x25_given.specs.Given.{PlainGiven, may_give}
use Rattle.x25_given.specs.Writing.{form_of, written}

-- the user data of a CALL is no longer than this, or fast select is asked for beside it
abbrev pub MayGo : ℕ → PlainGiven → PlainPacket → Type 0
MayGo most g (call channel called calling field user) = (length user ≤ most)
    ⊎ (asks_fast_select (field ++ g.facilities) ≡ true)
MayGo most g v = Unit {0}

-- who reads packets in all their forms takes it for the packet that it was written of
abbrev pub WrittenIsRead : Type 0
WrittenIsRead = (g : PlainGiven) (most : ℕ) (v : PlainPacket) → most ≤ 128 → may_give g ≡ true → IsInRange 128 v
    → MayGo most g v → All (λ octet. octet < 256) (written g v) → taken_in most (written g v) ≡ Ok v

-- in the form in which it was written
abbrev pub WrittenIsInForm : Type 0
WrittenIsInForm = (g : PlainGiven) (most : ℕ) (v : PlainPacket) (w : PlainForm) → most ≤ 128 → may_give g ≡ true
    → IsInRange 128 v → MayGo most g v → form_of g v ≡ Some w → form_in most (written g v) ≡ Ok w

-- What a station reads octets as, in the form that it writes alone or in any: what they are in the form that it
-- writes, where they are a packet then. It is on the channel that they name, its data are all that lies behind the
-- first three octets, and its fields are in their ranges.
use Rattle.std.specs.Prelude.{◌≡◌, ◌+◌, ◌<◌, ◌≤◌, ℕ, Bool, List, ◌++◌, length, take, All, Some, Ok, true}
use Rattle.x25_packet.specs.declared.marks.Marks.{Marks}
use Rattle.x25_packet.specs.Packet.{PlainPacket, user_data}
use Rattle.x25_packet.specs.Reading.{packet_of, channel_in}
use Rattle.x25_packet.specs.Spelling.{HasChannel, IsInRange, channel_of, spelling_of}
use Rattle.x25_packet.specs.Taking.{read_in}

abbrev pub TakesWhatIsWritten : Type 0
TakesWhatIsWritten = (wide : Bool) (most : ℕ) (v : PlainPacket) (octets : List ℕ) → packet_of most octets ≡ Ok v
    → read_in wide most octets ≡ Ok v

-- what a station writes beside that form too, data with D
abbrev pub TakesWhatIsSpelled : Type 0
TakesWhatIsSpelled = (most : ℕ) (v : PlainPacket) → most ≤ 128 → All (λ octet. octet < 256) (spelling_of v)
    → IsInRange most v → read_in true most (spelling_of v) ≡ Ok v

abbrev pub TakesOnItsChannel : Type 0
TakesOnItsChannel = (wide : Bool) (most : ℕ) (v : PlainPacket) (octets : List ℕ) → All (λ octet. octet < 256) octets
    → read_in wide most octets ≡ Ok v → HasChannel v → channel_in octets ≡ Some (channel_of v)

abbrev pub TakesItsUserData : Type 0
TakesItsUserData = (wide : Bool) (most channel : ℕ) (marks : Marks) (m : Bool) (ps pr : ℕ) (user octets : List ℕ)
    → All (λ octet. octet < 256) octets → read_in wide most octets ≡ Ok (user_data channel marks m ps pr user)
    → length octets ≡ 3 + length user

abbrev pub TakesAllBehindThree : Type 0
TakesAllBehindThree = (wide : Bool) (most channel : ℕ) (marks : Marks) (m : Bool) (ps pr : ℕ) (user octets : List ℕ)
    → All (λ octet. octet < 256) octets → read_in wide most octets ≡ Ok (user_data channel marks m ps pr user)
    → octets ≡ take 3 octets ++ user

abbrev pub TakesInRange : Type 0
TakesInRange = (wide : Bool) (most : ℕ) (v : PlainPacket) (octets : List ℕ) → most ≤ 128
    → All (λ octet. octet < 256) octets → read_in wide most octets ≡ Ok v → IsInRange 128 v

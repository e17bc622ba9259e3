-- Addresses, facilities and user data as a value alone, and their octets. ITU-T X.25 (10/96), sections 5.2.1 to 5.2.4.
use Rattle.std.specs.Prelude.{ℕ, ◌+◌, ◌*◌, ◌/◌, ◌%◌, ◌<◌, ◌≤◌, ◌≡◌, ◌==◌, Bool, true, false, List, [], ◌∷◌, ◌++◌}
use Rattle.std.specs.Prelude.{length, take, drop, Option, Some, None}
use Rattle.std.specs.List.{list_all}
use Rattle.x25_packet.specs.Digits.{halves_at, halves_of, hold_digits}
use Rattle.x25_packet.specs.Facilities as written_field
use Rattle.x25_packet.specs.Classes.{IsFacilityField}
use Rattle.x25_packet.specs.declared.block.Block.{Block}
use Rattle.x25_packet.specs.declared.block.Fields.{Fields}
use Rattle.x25_packet.specs.declared.form.Forms.{Forms}
use Rattle.x25_packet.specs.declared.form.Forms.TheVariants.{Written, Any}

pub record PlainFields : Type 0 where
  pub facilities : List ℕ
  pub user : List ℕ

-- how many half octets each address has, the octets that they are packed in, and what may follow
pub record PlainBlock : Type 0 where
  pub called : ℕ
  pub calling : ℕ
  pub addresses : List ℕ
  pub fields : Option PlainFields

abbrev pub plain_fields : Option Fields → Option PlainFields
plain_fields None = None
plain_fields (Some f) = Some (record { facilities = f.facilities.now; user = f.user.now })

abbrev pub plain_block : Block → PlainBlock
plain_block b =
    record { called = b.called; calling = b.calling; addresses = b.addresses.now; fields = plain_fields b.fields }

-- the facility field behind its length, and all that follows it
abbrev pub fields_at : List ℕ → Option PlainFields
fields_at [] = None
fields_at (size ∷ rest) = Some (record { facilities = take size rest; user = drop size rest })

abbrev pub block_behind : ℕ → ℕ → List ℕ → PlainBlock
block_behind called calling octets = let size = (called + calling + 1) / 2 in
    record { called = called; calling = calling; addresses = take size octets; fields = fields_at (drop size octets) }

-- The block that octets are, by the A bit, whatever they are: what is missing isn't there.
abbrev pub block_at : Bool → List ℕ → PlainBlock
block_at false [] = block_behind 0 0 []
block_at false (lengths ∷ octets) = block_behind (lengths % 16) (lengths / 16) octets
block_at true [] = block_behind 0 0 []
block_at true (called ∷ []) = block_behind 0 0 []
block_at true (called ∷ calling ∷ octets) = block_behind called calling octets

abbrev pub optional_at : Bool → List ℕ → Option PlainBlock
optional_at a [] = None
optional_at a (octet ∷ rest) = Some (block_at a (octet ∷ rest))

-- the facility field behind its length, and user data: section 5.2.1
abbrev pub fields_octets : Option PlainFields → List ℕ
fields_octets None = []
fields_octets (Some f) = length f.facilities ∷ f.facilities ++ f.user

-- The lengths go before the addresses. Where the A bit is 0 an octet has both, that of the calling address in its high
-- half (section 5.2.1.1); where it is 1 each has an octet, the called address first (section 5.2.1.2).
abbrev pub block_octets : Bool → PlainBlock → List ℕ
block_octets false b = (16 * b.calling + b.called) ∷ b.addresses ++ fields_octets b.fields
block_octets true b = b.called ∷ b.calling ∷ b.addresses ++ fields_octets b.fields

abbrev pub optional_octets : Bool → Option PlainBlock → List ℕ
optional_octets a None = []
optional_octets a (Some b) = block_octets a b

-- The half octets of the called address, then those of the calling one, two to an octet; a last one that is left over
-- is 0. Where A is 0 an address is digits. Where it is 1 its first two are the type of address and the numbering plan,
-- and what is behind them are digits but for an alternative address, of which no octet here says that it is one.
abbrev pub hold_addresses : Bool → ℕ → List ℕ → Bool
hold_addresses false count octets = hold_digits count octets
hold_addresses true count octets = list_all (λ half. half == 0) (drop count (halves_of octets))

-- a length is less than this
abbrev pub bound_of : Bool → ℕ
bound_of false = 16
bound_of true = 256

pub record AreAddresses (a : Bool) (b : PlainBlock) : Type 0 where
  pub called : b.called < bound_of a
  pub calling : b.calling < bound_of a
  pub size : length b.addresses ≡ (b.called + b.calling + 1) / 2
  pub halves : hold_addresses a (b.called + b.calling) b.addresses ≡ true

abbrev pub called_in : PlainBlock → List ℕ
called_in b = halves_at b.addresses 0 b.called

abbrev pub calling_in : PlainBlock → List ℕ
calling_in b = halves_at b.addresses b.called b.calling

-- what a station doesn't write
abbrev pub OfAny : Forms → Type 0 → Type 0
OfAny Written P = ⊥
OfAny Any P = P

-- a station writes the facilities that it allows
abbrev pub IsField : Forms → List ℕ → Type 0
IsField Written field = written_field.IsFacilityField field
IsField Any field = IsFacilityField field

-- a facility field has at most 109 octets: section 7.1
pub record AreFields (forms : Forms) (most : ℕ) (f : PlainFields) : Type 0 where
  pub facilities : IsField forms f.facilities
  pub few : length f.facilities ≤ 109
  pub short : length f.user ≤ most

-- which a station always writes
abbrev pub MayBeFields : Forms → ℕ → Option PlainFields → Type 0
MayBeFields forms most None = OfAny forms (Unit {0})
MayBeFields forms most (Some f) = AreFields forms most f

pub record IsBlock (forms : Forms) (a : Bool) (most : ℕ) (b : PlainBlock) : Type 0 where
  pub addresses : AreAddresses a b
  pub fields : MayBeFields forms most b.fields

abbrev pub MayBeBlock : Forms → Bool → ℕ → Option PlainBlock → Type 0
MayBeBlock forms a most None = Unit {0}
MayBeBlock forms a most (Some b) = IsBlock forms a most b

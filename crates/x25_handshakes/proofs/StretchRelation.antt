-- What is kept of two ends in d1 of one stretch, whatever stations they are, and the lines between them.
use Rattle.x25_handshakes.proofs.Names.{◌≡◌, ℕ, ◌+◌, ◌%◌, ◌≤◌, List, [], ◌∷◌, ◌++◌, length, Option, Some, None, Bool, true, false, Message, Piece, no_part}
use Rattle.x25_handshakes.proofs.Names.{joining, carried, AreSound, resolved, Packet, Data, Rr, Rnr, Int, IntConf, Terms}
use Rattle.x25_handshakes.proofs.Names.{PeerStretch}
use Rattle.x25_handshakes.proofs.HandshakeRelation.{Each}

-- a data packet's number and what it carries
pub record Numbering : Type 0 where
  pub number : ℕ
  pub piece : Piece

-- P(S) and the piece, where the packet has one
abbrev pub numbering : Packet → Option Numbering
numbering (Data s r p) = Some (record { number = s; piece = p })
numbering other = None

-- P(R), where the packet has one
abbrev pub ack_in : Packet → Option ℕ
ack_in (Data s r p) = Some r
ack_in (Rr r) = Some r
ack_in (Rnr r) = Some r
ack_in other = None

-- the octets of an interrupt
abbrev pub int_in : Packet → List (List ℕ)
int_in (Int xs) = xs ∷ []
int_in other = []

-- one confirmation of an interrupt, or none
abbrev pub conf_in : Packet → ℕ
conf_in IntConf = 1
conf_in other = 0

-- what kinds of packets pass in d1
abbrev pub InFlowControl : Packet → Type 0
InFlowControl (Data s r p) = Unit {0}
InFlowControl (Rr r) = Unit {0}
InFlowControl (Rnr r) = Unit {0}
InFlowControl (Int xs) = Unit {0}
InFlowControl IntConf = Unit {0}
InFlowControl other = ⊥

abbrev pub AllInFlowControl : List Packet → Type 0
AllInFlowControl u = Each InFlowControl u

-- the data packets on a line
abbrev pub piece_of : Option Numbering → List Piece
piece_of None = []
piece_of (Some c) = c.piece ∷ []

-- the pieces of the DATA packets on the way
abbrev pub pieces : List Packet → List Piece
pieces [] = []
pieces (p ∷ u) = piece_of (numbering p) ++ pieces u

-- where it is numbered it has n, modulo 8, and what is later goes on from n + 1
abbrev pub number_at : ℕ → Option Numbering → (ℕ → Type 0) → Type 0
number_at n None later = later n
number_at n (Some c) later = (c.number ≡ n % 8) × later (n + 1)

-- the data packets are numbered from n on, modulo 8
abbrev pub Numbered : ℕ → List Packet → Type 0
Numbered n [] = Unit {0}
Numbered n (p ∷ u) = number_at n (numbering p) (λ m. Numbered m u)

-- the number acknowledged, once this P(R) has come
abbrev pub hears : ℕ → Option ℕ → ℕ
hears a None = a
hears a (Some r) = resolved a r

-- the same, once all of the line has come
abbrev pub heard : ℕ → List Packet → ℕ
heard a [] = a
heard a (p ∷ v) = heard (hears a (ack_in p)) v

-- what the INTERRUPTs on the way carry
abbrev pub ints : List Packet → List (List ℕ)
ints [] = []
ints (p ∷ u) = int_in p ++ ints u

-- how many confirmations of INTERRUPT are on the way
abbrev pub confs : List Packet → ℕ
confs [] = 0
confs (p ∷ u) = conf_in p + confs u

abbrev pub one_if : Bool → ℕ
one_if true = 1
one_if false = 0

-- what was sent is what was taken and what is on the way, in its numbers, and on a line of kinds that pass in d1
pub record Line (sent taken : List Piece) (u : List Packet) : Type 0 where
  pub flow : sent ≡ taken ++ pieces u
  pub numbers : Numbered (length taken) u
  pub kinds : AllInFlowControl u

-- the window; the last of the numbers P(R) on the way back is the one that was told last, and none is more than was taken
pub record Acks (acked sent : ℕ) (v : List Packet) (told taken : ℕ) : Type 0 where
  pub room : sent ≤ acked + 7
  pub acks : heard acked v ≡ told
  pub late : told ≤ taken

-- at most one interrupt is out: it is on the way, or its confirmation is owed, or that is on the way; and those handed
-- down are those handed up and those on the way
pub record Ints (out : Bool) (down up : List (List ℕ)) (u v : List Packet) (owed : ℕ) : Type 0 where
  pub count : one_if out ≡ (length (ints u) + confs v) + owed
  pub flow : down ≡ up ++ ints u

-- what was sent, with what is still to be sent, is whole messages, those handed down
pub record Text (longest size : ℕ) (sent rest : List Piece) (down : List Message) : Type 0 where
  pub fits : AreSound longest size no_part (sent ++ rest)
  pub whole : joining no_part (sent ++ rest) ≡ no_part
  pub messages : down ≡ carried (sent ++ rest)

-- whether the other end is ready, once this packet has come
abbrev pub readied : Bool → Packet → Bool
readied b (Rr r) = true
readied b (Rnr r) = false
readied b other = b

-- the same, once all of the line has come
abbrev pub all_readied : Bool → List Packet → Bool
all_readied b [] = b
all_readied b (p ∷ v) = all_readied (readied b p) v

-- From one end to another, each of which keeps the rules: x sends by these terms; u is on the way there, v on the way back.
pub record OneWay (t : Terms) (x : PeerStretch) (u v : List Packet) (y : PeerStretch) : Type 0 where
  pub line : Line x.sent y.taken u
  pub acks : Acks x.acked (length x.sent) v y.told (length y.taken)
  pub ints : Ints x.int_out x.int_down y.int_up u v y.owed
  pub sound : AreSound t.longest t.size no_part x.sent
  pub ready : all_readied x.peer_ready v ≡ y.own_ready

-- what is kept of the two, whatever stations they are
pub record Kept (t b : Terms) (x : PeerStretch) (u v : List Packet) (y : PeerStretch) : Type 0 where
  pub there : OneWay t x u v y
  pub back : OneWay b y v u x

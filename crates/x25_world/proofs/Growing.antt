-- What a step of an end adds: packets, entries of its transcript, and octets on the tap and on the line.
use Rattle.x25_world.proofs.Names.{◌≡◌, ℕ, zero, suc, List, [], ◌∷◌, ◌++◌, map, length, Result, Ok, Contains, refl, sym, ap, ap₂, subst, ◌∙◌, arith}
use Rattle.x25_world.proofs.Names.{append_assoc, append-nil, map-append, length-map, Role, Dte, Dce, PlainFrame, spelling_of, PlainPacket, longest_user}
use Rattle.x25_world.proofs.Names.{PacketError, read_in, other, Cfg, AreOctets, StationEntry, OnTap, AtEnd, tapped, entered, entry_of_end, entries_at, sent_in}
use Rattle.x25_world.proofs.Names.{Each, octets_of}
use Rattle.x25_line.proofs.sessions.SessionLines.{octets_append, octets_sent}
use Rattle.x25_line.specs.laws.Sessions.{Entry}
use Rattle.x25_peer.proofs.sessions.LinkSteps.{AreReadBack}

-- ---- octets, by the packets that they are read as

-- packet octets as this world reads them
abbrev pub read_by : Cfg → List ℕ → Result PlainPacket PacketError
read_by cfg octets = read_in cfg.wide (longest_user cfg.long_data) octets

-- all packets as this world reads them
abbrev pub all_read : Cfg → List (List ℕ) → List (Result PlainPacket PacketError)
all_read cfg octets = map (read_by cfg) octets

abbrev pub is_read : PlainPacket → Result PlainPacket PacketError
is_read p = Ok p

-- packets as what their octets are read as
abbrev pub as_read : List PlainPacket → List (Result PlainPacket PacketError)
as_read packets = map is_read packets

-- where no packet is read there are no packets
pub none_read : (packets : List PlainPacket) → as_read packets ≡ [] → packets ≡ []
none_read [] none = refl
none_read (p ∷ packets) none = absurd (cc)

pub nothing_read : (cfg : Cfg) (octets : List (List ℕ)) → all_read cfg octets ≡ [] → octets ≡ []
nothing_read cfg [] none = refl
nothing_read cfg (o ∷ octets) none = absurd (cc)

pub grown : (cfg : Cfg) (xs xs₂ os : List (List ℕ)) (ps ps₂ qs : List PlainPacket) → all_read cfg xs ≡ as_read ps → xs₂ ≡ xs ++ os → all_read cfg os
    ≡ as_read qs → ps₂ ≡ ps ++ qs → all_read cfg xs₂ ≡ as_read ps₂
grown cfg xs xs₂ os ps ps₂ qs same more reads more_packets =
    ap (all_read cfg) more ∙ map-append (read_by cfg) xs os ∙ ap₂ (λ a b. a ++ b) same reads
    ∙ sym (map-append is_read ps qs) ∙ ap as_read (sym more_packets)

-- packets that are read alike are as many
pub as_many : (ps qs : List PlainPacket) → as_read ps ≡ as_read qs → length ps ≡ length qs
as_many ps qs same = sym (length-map ps is_read) ∙ ap (λ l. length l) same ∙ length-map qs is_read

-- the first of them
pub first_read : (r s : Result PlainPacket PacketError) (rs ss : List (Result PlainPacket PacketError)) → r ∷ rs ≡ s ∷ ss → r ≡ s
first_read r s rs ss e = cc

pub rest_read : (r s : Result PlainPacket PacketError) (rs ss : List (Result PlainPacket PacketError)) → r ∷ rs ≡ s ∷ ss → rs ≡ ss
rest_read r s rs ss e = cc

-- ---- octets

-- packets that are octets
abbrev pub AllAreOctets : List (List ℕ) → Type 0
AllAreOctets os = Each AreOctets os

pub octets_in : (os : List (List ℕ)) → AllAreOctets os → (octets : List ℕ) → Contains os octets → AreOctets octets
octets_in [] all octets (k, low, is) = absurd (omega (arith, low))
octets_in (o ∷ os) all octets (zero, low, is) = subst AreOctets is all.0
octets_in (o ∷ os) all octets (suc k, low, is) = octets_in os all.1 octets (k, omega (arith, low), is)

-- ---- a transcript that grows

pub entries_append : (end : Role) (xs ys : List AtEnd) → entries_at end (xs ++ ys) ≡ entries_at end xs ++ entries_at end ys
entries_append end [] ys = refl
entries_append end (x ∷ xs) ys =
    ap (λ es. entry_of_end end x.at x.entry ++ es) (entries_append end xs ys)
    ∙ sym (append_assoc (entry_of_end end x.at x.entry) (entries_at end xs) (entries_at end ys))

pub own_entries : (end : Role) (entries : List StationEntry) → entries_at end (entered end entries) ≡ entries
own_entries end [] = refl
own_entries Dte (e ∷ entries) = ap (λ es. e ∷ es) (own_entries Dte entries)
own_entries Dce (e ∷ entries) = ap (λ es. e ∷ es) (own_entries Dce entries)

pub no_entries : (end : Role) (entries : List StationEntry) → entries_at (other end) (entered end entries) ≡ []
no_entries end [] = refl
no_entries Dte (e ∷ entries) = no_entries Dte entries
no_entries Dce (e ∷ entries) = no_entries Dce entries

pub entries_more : (end : Role) (transcript : List AtEnd) (entries : List StationEntry) → entries_at end (transcript ++ entered end entries)
    ≡ entries_at end transcript ++ entries
entries_more end transcript entries = entries_append end transcript (entered end entries) ∙ ap (λ es. entries_at end transcript ++ es) (own_entries end entries)

pub entries_other : (end : Role) (transcript : List AtEnd) (entries : List StationEntry) → entries_at (other end) (transcript ++ entered end entries)
    ≡ entries_at (other end) transcript
entries_other end transcript entries =
    entries_append (other end) transcript (entered end entries) ∙ ap (λ es. entries_at (other end) transcript ++ es) (no_entries end entries)
    ∙ append-nil (entries_at (other end) transcript)

-- ---- a tap that grows

-- what was put on the line spells these frames
abbrev pub AreOnTap : List OnTap → List PlainFrame → Type 0
AreOnTap [] [] = Unit {0}
AreOnTap (t ∷ tap) (frame ∷ frames) = (t.octets ≡ spelling_of t.from frame) × AreOnTap tap frames
AreOnTap [] (frame ∷ frames) = ⊥
AreOnTap (t ∷ tap) [] = ⊥

pub on_tap : (from : Role) (tap : List OnTap) (sent frames : List PlainFrame) → AreOnTap tap sent
    → AreOnTap (tap ++ tapped from (map (spelling_of from) frames)) (sent ++ frames)
on_tap from [] [] [] h = tt
on_tap from [] [] (f ∷ frames) h = (refl, on_tap from [] [] frames tt)
on_tap from (t ∷ tap) (s ∷ sent) frames h = (h.0, on_tap from tap sent frames h.1)
on_tap from tap sent frames h = absurd h

-- the line's octets after frames are sent
pub octets_put : (es : List Entry) (session : ℕ) (from : Role) (frames : List PlainFrame) → octets_of (es ++ sent_in session from frames) ≡ octets_of es
    ++ map (spelling_of from) frames
octets_put es session from frames = octets_append es (sent_in session from frames) ∙ ap (λ l. octets_of es ++ l) (octets_sent session from frames)

-- octets on the line are those of an entry
pub record FrontEntry (front : List ℕ) (behind : List (List ℕ)) (es : List Entry) : Type 0 where
  pub entry : Entry
  pub others : List Entry
  pub is : es ≡ entry ∷ others
  pub octets : entry.octets ≡ front
  pub left : octets_of others ≡ behind

abbrev front_octets : List (List ℕ) → List ℕ
front_octets [] = []
front_octets (x ∷ xs) = x

abbrev behind_front : List (List ℕ) → List (List ℕ)
behind_front [] = []
behind_front (x ∷ xs) = xs

-- octets in front of a line are those of an entry in front
pub front_entry : (octets : List ℕ) (back : List (List ℕ)) (es : List Entry) → octets_of es ≡ octets ∷ back → FrontEntry octets back es
front_entry octets back [] same = absurd (cc)
front_entry octets back (e ∷ es) same = record { entry = e; others = es; is = refl; octets = ap front_octets same; left = ap behind_front same }

-- what the other end reads back
pub back_read : (cfg : Cfg) (os : List (List ℕ)) (ps : List PlainPacket) → AreReadBack cfg.wide cfg.long_data os ps → all_read cfg os ≡ as_read ps
back_read cfg [] [] h = refl
back_read cfg (o ∷ os) (p ∷ ps) h = ap₂ (λ r rs. r ∷ rs) h.0.reads (back_read cfg os ps h.1)
back_read cfg os ps h = absurd h

-- octets that packets are read back from are octets
pub back_octets : (cfg : Cfg) (os : List (List ℕ)) (ps : List PlainPacket) → AreReadBack cfg.wide cfg.long_data os ps → AllAreOctets os
back_octets cfg [] [] h = tt
back_octets cfg (o ∷ os) (p ∷ ps) h = (h.0.octets, back_octets cfg os ps h.1)
back_octets cfg os ps h = absurd h

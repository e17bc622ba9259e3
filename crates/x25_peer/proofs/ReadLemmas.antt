-- What packets are read as, and what a link's peer sends and hears.
use Rattle.x25_peer.proofs.Names.{◌≡◌, ℕ, ◌≤◌, List, [], ◌∷◌, ◌++◌, length, drop, Bool, true, false, Some, None, Ok, refl, sym, ap, subst, ◌∙◌, append_assoc}
use Rattle.x25_peer.proofs.Names.{arith, PlainPacket, Said, Tells, Peer, Settings, StationEntry, layer_entries, layer_notices, AreReadable, ReadAs}
use Rattle.std.proofs.{Common.{Result}, lemmas.List.{length-append, drop_all}}
use Rattle.x25_line.specs.laws.{Peer.{MaySay, MayMake, hearing, taking}, Said.{Odd}}
use Rattle.x25_peer.{proofs.sessions.LinkSteps.{AreReadBack}, specs.laws.BesideSessions.{read_by}}
use Rattle.x25_station.specs.Entry.{in_layer, notice_in}

-- ---- lists

-- the layer's entries of both parts
pub layer_append : (xs ys : List StationEntry) → layer_entries (xs ++ ys) ≡ layer_entries xs ++ layer_entries ys
layer_append [] ys = refl
layer_append (x ∷ xs) ys = ap (λ es. in_layer x ++ es) (layer_append xs ys) ∙ sym (append_assoc (in_layer x) (layer_entries xs) (layer_entries ys))

-- what both parts of the entries tell the layer
pub notices_append : (xs ys : List StationEntry) → layer_notices (xs ++ ys) ≡ layer_notices xs ++ layer_notices ys
notices_append [] ys = refl
notices_append (x ∷ xs) ys = ap (λ ns. notice_in x ++ ns) (notices_append xs ys) ∙ sym (append_assoc (notice_in x) (layer_notices xs) (layer_notices ys))

-- the later packets can be read
pub readable_behind : (wide long_data : Bool) (xs ys : List PlainPacket) → AreReadable wide long_data (xs ++ ys) → AreReadable wide long_data ys
readable_behind wide long_data [] ys h = h
readable_behind wide long_data (x ∷ xs) ys h = readable_behind wide long_data xs ys h.1

-- octets are read in two goes
pub read_append : (c : Settings) (os qs : List (List ℕ)) (ps rs : List PlainPacket) → ReadAs c os ps → ReadAs c qs rs → ReadAs c (os ++ qs) (ps ++ rs)
read_append c [] qs [] rs h g = g
read_append c (o ∷ os) qs (p ∷ ps) rs h g = (h.0, read_append c os qs ps rs h.1 g)
read_append c os qs ps rs h g = absurd h

-- what the other end reads back
pub back_reads : (c : Settings) (os : List (List ℕ)) (ps : List PlainPacket) → AreReadBack c.wide c.long_data os ps → ReadAs c os ps
back_reads c [] [] h = tt
back_reads c (o ∷ os) (p ∷ ps) h = (h.0.reads, back_reads c os ps h.1)
back_reads c os ps h = absurd h

-- the octets of the first of these packets, as they are read
abbrev pub ReadFirst : Settings → List (List ℕ) → List PlainPacket → Type 0
ReadFirst c [] ps = Unit {0}
ReadFirst c (o ∷ os) (p ∷ ps) = (read_by c o ≡ Ok p) × ReadFirst c os ps
ReadFirst c os ps = ⊥

-- octets that are read as packets are so at the front
pub read_first : (c : Settings) (os : List (List ℕ)) (ps : List PlainPacket) → ReadAs c os ps → ReadFirst c os ps
read_first c [] ps h = tt
read_first c (o ∷ os) [] h = absurd h
read_first c (o ∷ os) (p ∷ ps) h = (h.0, read_first c os ps h.1)

pub first_front : (c : Settings) (os rest : List (List ℕ)) (ps : List PlainPacket) → ReadFirst c (os ++ rest) ps → ReadFirst c os ps
first_front c [] rest ps h = tt
first_front c (o ∷ os) rest [] h = absurd h
first_front c (o ∷ os) rest (p ∷ ps) h = (h.0, first_front c os rest ps h.1)

pub first_length : (c : Settings) (os : List (List ℕ)) (ps : List PlainPacket) → ReadFirst c os ps → length os ≤ length ps
first_length c [] ps h = omega (arith)
first_length c (o ∷ os) [] h = absurd h
first_length c (o ∷ os) (p ∷ ps) h = omega (arith, first_length c os ps h.1)

-- of those that our layer put none is left
pub none_left : (c : Settings) (n : ℕ) (taken : List (List ℕ)) (given : List PlainPacket) → n ≡ length taken → ReadAs c taken given → drop n given ≡ []
none_left c n [] [] all h = drop_all n [] (omega (arith))
none_left c n [] (g ∷ given) all h = absurd h
none_left c n (t ∷ taken) [] all h = absurd h
none_left c n (t ∷ taken) (g ∷ given) all h = ap (λ k. drop k (g ∷ given)) all ∙ none_left c (length taken) taken given refl h.1

-- the next of what is read
pub record Next (c : Settings) (o : List ℕ) (ahead behind : List PlainPacket) : Type 0 where
  pub packet : PlainPacket
  pub front : ahead ≡ packet ∷ behind
  pub reads : read_by c o ≡ Ok packet

pub next_read : {c : Settings} (up : List (List ℕ)) (o : List ℕ) (rest : List (List ℕ)) (ps : List PlainPacket) → ReadAs c ((up ++ o ∷ []) ++ rest) ps
    → Next c o (drop (length up) ps) (drop (length (up ++ o ∷ [])) ps)
next_read [] o rest [] h = absurd h
next_read [] o rest (p ∷ ps) h = record { packet = p; front = refl; reads = h.0 }
next_read (u ∷ up) o rest [] h = absurd h
next_read {c} (u ∷ up) o rest (p ∷ ps) h = next_read up o rest ps h.1

pub ok_same : {E : Type 0} (p q : PlainPacket) (x : Result PlainPacket E) → x ≡ Ok p → x ≡ Ok q → p ≡ q
ok_same p q x e f = cc

-- ---- the peer's link sends and hears what it was handed down

pub said_same : (p q : Peer) (s : Said) → MaySay ⊥ p s q → (q.given ≡ p.given) × (q.taken ≡ p.taken)
said_same p q s may = by s may
  where
    is : (x : Peer) → x.given ≡ p.given → x.taken ≡ p.taken → q ≡ x → (q.given ≡ p.given) × (q.taken ≡ p.taken)
    is x given taken e = (ap (λ y. y.given) e ∙ given, ap (λ y. y.taken) e ∙ taken)

    by : (s : Said) → MaySay ⊥ p s q → (q.given ≡ p.given) × (q.taken ≡ p.taken)
    by (Tells None nr) m = is _ refl refl m.2
    by (Tells (Some c) nr) m = is _ refl refl m.4
    by Odd m = is _ refl refl m.1
    by s m = is _ refl refl m

-- it takes no fewer
pub record HearsMore (p q : Peer) : Type 0 where
  pub given : q.given ≡ p.given
  pub taken : length p.taken ≤ length q.taken

hears_more : (p : Peer) (hears takes : Bool) (nr : ℕ) (packet : List ℕ) → HearsMore p (taking takes packet (hearing hears nr p))
hears_more p true true nr packet = (let longer = length-append p.taken (packet ∷ []) in record { given = refl; taken = omega (arith, longer) })
hears_more p true false nr packet = record { given = refl; taken = omega (arith) }
hears_more p false true nr packet = (let longer = length-append p.taken (packet ∷ []) in record { given = refl; taken = omega (arith, longer) })
hears_more p false false nr packet = record { given = refl; taken = omega (arith) }

pub made_more : {p q : Peer} (s : Said) → MayMake p s q → HearsMore p q
made_more {p} {q} s m = by s m
  where
    is : (x : Peer) → HearsMore p x → q ≡ x → HearsMore p q
    is x more e = subst (HearsMore p) (sym e) more

    by : (s : Said) → MayMake p s q → HearsMore p q
    by (Tells None nr) m = is _ (hears_more p m.0 false nr []) m.1
    by (Tells (Some c) nr) m = is _ (hears_more p m.0 m.1 nr c.packet) m.3
    by s m = is p (hears_more p false false 0 []) m

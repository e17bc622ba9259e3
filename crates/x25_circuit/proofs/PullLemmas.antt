-- The next data packet of a circuit.
use Rattle.x25_circuit.proofs.Names.{arith, ◌≡◌, ℕ, ◌+◌, ◌%◌, Bool, true, false, ◌&&◌, List, [], ◌∷◌, length, Option, Some, None, refl, sym, ap, subst, ◌∙◌}
use Rattle.x25_circuit.proofs.Names.{Marks, State, Open, Transfer, Message, Piece, piece_of, cut_all, waiting, CircuitSettings, Circuit, outgoing, FitsTalk}
use Rattle.std.proofs.Common.{nat_lt, IfNone}
use Rattle.x25_circuit.proofs.{Names.{IfSome, inl, inr, FitsCircuit, has_memory, Pulled}, TalkLemmas.{with_transfer}}
use Rattle.x25_circuit.specs.{Calling.{pulled, pull_in, pull_open, pulls_nothing, data_packet}, Pulling.{packet_with}, code.Changes.{with_sent}}
use Rattle.x25_circuit.specs.{code.Fits.{IsHeld, IsSent}, declared.terms.Terms.{Terms}, declared.transfer.Header.{Header}}
use Rattle.x25_packet.specs.Packet.{user_data}
use Rattle.x25_circuit.specs.declared.circuit.Circuit as code

-- where no message waits
pulls_none : (c : CircuitSettings) (x : Circuit) (s : State) → x.talk.rest ≡ [] → pull_in c x s ≡ pulls_nothing x
pulls_none c x Open e = ap (λ (ps : List Piece). pull_open c x x.talk ps) e
pulls_none c x s e = refl

nothing_waits : (messages : List Message) → length messages ≡ 0 → messages ≡ []
nothing_waits [] e = refl
nothing_waits (m ∷ messages) e = absurd (omega arith)

pub pulls_empty : (c : CircuitSettings) (v : code.Circuit) (x : Circuit) → FitsCircuit c v x → length (waiting v.transfer.queue) ≡ 0 → pulled c x
    ≡ pulls_nothing x
pulls_empty c v x fits none = pulls_none c x x.state (fits.talk.rest ∙ ap (cut_all (outgoing x).size) (nothing_waits _ none))

-- the circuit after a packet was sent, and the packet
abbrev sent_on : Circuit → Piece → List Piece → Pulled
sent_on x piece others = record {
  next = record x { talk = with_sent piece others x.talk };
  packet = Some (data_packet (length x.talk.sent % 8) (length x.talk.taken % 8) piece);
}

pulled_is : (c : CircuitSettings) (x : Circuit) (piece : Piece) (others : List Piece) → x.state ≡ Open → x.talk.rest ≡ piece ∷ others
    → (x.talk.peer_ready && nat_lt (length x.talk.sent) (x.talk.acked + (outgoing x).window)) ≡ true → pulled c x ≡ sent_on x piece others
pulled_is c x piece others is_open first allowed =
    ap (λ (s : State). pull_in c x s) is_open ∙ ap (λ (ps : List Piece). pull_open c x x.talk ps) first ∙ rw allowed refl

held_back : (c : CircuitSettings) (x : Circuit) (rest : List Piece)
    → (x.talk.peer_ready && nat_lt (length x.talk.sent) (x.talk.acked + (outgoing x).window)) ≡ false → pull_open c x x.talk rest ≡ pulls_nothing x
held_back c x [] e = refl
held_back c x (p ∷ ps) e = rw e refl

nothing_is : (c : CircuitSettings) (x : Circuit) → x.state ≡ Open → IsHeld (outgoing x).window x.talk → pulled c x ≡ pulls_nothing x
nothing_is c x is_open (inl e) = ap (λ (s : State). pull_in c x s) is_open ∙ ap (λ (ps : List Piece). pull_open c x x.talk ps) e
nothing_is c x is_open (inr e) = ap (λ (s : State). pull_in c x s) is_open ∙ held_back c x x.talk.rest e

data_packet_of : (ps pr : ℕ) (marks : Marks) (m : Bool) (user : List ℕ) → data_packet ps pr (piece_of marks m user) ≡ user_data 1 marks m ps pr user
data_packet_of ps pr marks true user = refl
data_packet_of ps pr marks false user = refl

pub pulls_next : (c : CircuitSettings) (v : code.Circuit) (x : Circuit) (u : Transfer) (made : has_memory v.state ≡ true → u.partial.made ≡ true)
    (header : Header) → FitsCircuit c v x → x.state ≡ Open
    → IsSent (outgoing x).window (outgoing x).size x.talk u header → u.partial.longest ≡ v.transfer.partial.longest
    → FitsCircuit c (record v { transfer = u; made = made }) (pulled c x).next
pulls_next c v x u made header fits is_open sent kept =
    let piece = piece_of header.marks header.m u.queue.cutter.lent in
    subst (λ (p : Pulled). FitsCircuit c (record v { transfer = u; made = made }) p.next)
    (sym (pulled_is c x piece sent.others is_open sent.first sent.allowed))
    (with_transfer c v x u made _ fits sent.fits kept)

pub pulls_packet : (c : CircuitSettings) (x : Circuit) (u : Transfer) (header : Header) → x.state ≡ Open
    → IsSent (outgoing x).window (outgoing x).size x.talk u header → packet_with (Some header) u.queue.cutter.lent ≡ (pulled c x).packet
pulls_packet c x u header is_open sent =
    let piece = piece_of header.marks header.m u.queue.cutter.lent in
    let e = pulled_is c x piece sent.others is_open sent.first sent.allowed in
    rw (sent.ps, sent.pr) (ap Some (sym (data_packet_of _ _ header.marks header.m u.queue.cutter.lent)) ∙ ap (λ (p : Pulled). p.packet) (sym e))

pub holds_next : (c : CircuitSettings) (v : code.Circuit) (x : Circuit) (u : Transfer) (made : has_memory v.state ≡ true → u.partial.made ≡ true)
    → FitsCircuit c v x → x.state ≡ Open
    → IsHeld (outgoing x).window x.talk → FitsTalk (outgoing x).size u x.talk → u.partial.longest ≡ v.transfer.partial.longest
    → FitsCircuit c (record v { transfer = u; made = made }) (pulled c x).next
holds_next c v x u made fits is_open held talk kept =
    subst (λ (p : Pulled). FitsCircuit c (record v { transfer = u; made = made }) p.next) (sym (nothing_is c x is_open held))
    (with_transfer c v x u made x.talk fits talk kept)

pub holds_packet : (c : CircuitSettings) (x : Circuit) → x.state ≡ Open → IsHeld (outgoing x).window x.talk → (pulled c x).packet ≡ None
holds_packet c x is_open held = ap (λ (p : Pulled). p.packet) (nothing_is c x is_open held)

-- ---- by what the transfer sends

-- the transfer by the terms that the code has
pub own_talk : (c : CircuitSettings) (v : code.Circuit) (x : Circuit) (terms : Terms) → FitsCircuit c v x → terms.size ≡ (outgoing x).size
    → FitsTalk terms.size v.transfer x.talk
own_talk c v x terms fits e = subst (λ (n : ℕ). FitsTalk n v.transfer x.talk) (sym e) fits.talk

sent_by_terms : (x : Circuit) (terms : Terms) (u : Transfer) (h : Header) → terms.window ≡ (outgoing x).window → terms.size ≡ (outgoing x).size
    → IsSent terms.window terms.size x.talk u h → IsSent (outgoing x).window (outgoing x).size x.talk u h
sent_by_terms x terms u h f g sent =
    subst (λ (n : ℕ). IsSent (outgoing x).window n x.talk u h) g (subst (λ (n : ℕ). IsSent n terms.size x.talk u h) f sent)

pub advances_next : (c : CircuitSettings) (v : code.Circuit) (x : Circuit) (terms : Terms) (u : Transfer)
    (made : has_memory v.state ≡ true → u.partial.made ≡ true) (r : Option Header) → FitsCircuit c v x → v.state ≡ Open
    → terms.window ≡ (outgoing x).window → terms.size ≡ (outgoing x).size
    → IfSome r (λ h. IsSent terms.window terms.size x.talk u h) → IfNone r (FitsTalk terms.size u x.talk) → IfNone r (IsHeld terms.window x.talk)
    → u.partial.longest ≡ v.transfer.partial.longest
    → FitsCircuit c (record v { transfer = u; made = made }) (pulled c x).next
advances_next c v x terms u made None fits e f g some none held kept =
    holds_next c v x u made fits (sym fits.state ∙ e) (subst (λ (n : ℕ). IsHeld n x.talk) f held) (subst (λ (n : ℕ). FitsTalk n u x.talk) g none) kept
advances_next c v x terms u made (Some h) fits e f g some none held kept =
    pulls_next c v x u made h fits (sym fits.state ∙ e) (sent_by_terms x terms u h f g some) kept

pub advances_packet : (c : CircuitSettings) (v : code.Circuit) (x : Circuit) (terms : Terms) (u : Transfer) (r : Option Header) → FitsCircuit c v x → v.state
    ≡ Open
    → terms.window ≡ (outgoing x).window → terms.size ≡ (outgoing x).size
    → IfSome r (λ h. IsSent terms.window terms.size x.talk u h) → IfNone r (IsHeld terms.window x.talk)
    → packet_with r u.queue.cutter.lent ≡ (pulled c x).packet
advances_packet c v x terms u None fits e f g some held = sym (holds_packet c x (sym fits.state ∙ e) (subst (λ (n : ℕ). IsHeld n x.talk) f held))
advances_packet c v x terms u (Some h) fits e f g some held = pulls_packet c x u h (sym fits.state ∙ e) (sent_by_terms x terms u h f g some)

-- What holds of two layers after every event.
use Rattle.x25_layer.proofs.Names.{◌≡◌, ℕ, ◌+◌, ◌≤◌, List, [], ◌∷◌, ◌++◌, length, Bool, true, refl, ap, subst, ◌∙◌, length-append, arith, PlainPacket, Piece}
use Rattle.x25_layer.proofs.Names.{Role, Side, Live, Left, At, is_open, waits, LayerPacket, Name, Lists, Ranges, bare_layers, under, messages_in, name_of}
use Rattle.x25_layer.proofs.Names.{interrupts_in, End, TwoLayers, Always, KeepsOrder, IsQuietWorld, IsLawfulWorld, ArrivesAll, HasAllOf, IsIdleTo}
use Rattle.x25_handshakes.proofs.{ChannelRelation.{IsCalled}, Meetings.{both_open}}
use Rattle.x25_handshakes.specs.laws.PeerLayer.{PeerChannels}
use Rattle.x25_layer.proofs.{EndLemmas.{Stands}, Ends.{Known}}
use Rattle.x25_layer.proofs.OrderLemmas.{interrupts_both, messages_up, OpenHere, open_here, out_shut, AllTaken, all_taken}
use Rattle.x25_layer.proofs.RunLemmas.{EndsRelated, Run, run_turned, in_run}

pub always_in_order : Known → (long_data : Bool) (channels : Ranges) → Always KeepsOrder long_data channels
always_in_order known long_data channels es = (in_run known long_data channels es).order

pub always_quiet : Known → (long_data : Bool) (channels : Ranges) → Always (IsQuietWorld channels) long_data channels
always_quiet known long_data channels es =
    let h = in_run known long_data channels es in
    record { near = h.stands.quiet; far = h.there.quiet }

pub always_lawful : Known → (long_data : Bool) (channels : Ranges) → Always IsLawfulWorld long_data channels
always_lawful known long_data channels es =
    let h = in_run known long_data channels es in
    record {
      near = record { messages = h.messages.up; interrupts = h.interrupts.up; calls = h.calls.up };
      far = record { messages = h.messages.there; interrupts = h.interrupts.there; calls = h.calls.there };
    }

-- ---- all has arrived that can have

-- nothing is in flight where all is acknowledged, and what is acknowledged was handed up
no_length : (l : List PlainPacket) → length l ≡ 0 → l ≡ []
no_length [] e = refl
no_length (p ∷ l) e = absurd (omega (arith, e))

none_in_flight : (given taken out : List PlainPacket) (acked : ℕ) → given ≡ taken ++ out → acked ≡ length given → acked ≤ length taken → out ≡ []
none_in_flight given taken out acked order all low =
    let l : length given ≡ length taken + length out = ap length order ∙ length-append taken out in
    no_length out (let e : length out ≡ 0 = omega (arith, l, all, low) in e)

pub has_all : (r : Role) (channels : Ranges) (e f : End) (s u : Side (At PeerChannels)) (rest away : ℕ → List Piece) (k : ℕ) (K : List LayerPacket)
    → Stands channels e s rest → Stands channels f u away → EndsRelated r s [] K u → is_open (e.layer.circuits k) ≡ true → is_open (f.layer.circuits k) ≡ true
    → waits (e.layer.circuits k) ≡ 0 → HasAllOf k (name_of e.layer k) e.entries f.entries
has_all r channels e f (Left y) u rest away k K h there related opened opened_there none = absurd (out_shut e.layer k h.at.1 opened)
has_all r channels e f (Live y) (Left z) rest away k K h there related opened opened_there none = absurd (out_shut f.layer k there.at.1 opened_there)
has_all r channels e f (Live y) (Live z) rest away k K h there related opened opened_there none =
    let o : OpenHere e.layer y rest k = open_here channels.message e.layer y rest k h.at.1 opened in
    let p : OpenHere f.layer z away k = open_here channels.message f.layer z away k there.at.1 opened_there in
    let a : AllTaken k e.layer e.entries z = all_taken channels.message e.layer y rest z e.entries k _ h.at.1 h.of_messages h.of_interrupts
    (both_open IsCalled IsCalled r k y K z related o.there p.there) opened in
    record {
      messages = ap (λ (n : Name). (messages_in (under k n f.entries)).up) a.name ∙ ap (λ (l : Lists _). l.up) (there.of_messages.held k)
          ∙ messages_up z away k ∙ a.messages none;
      interrupts = ap (λ (n : Name). (interrupts_in (under k n f.entries)).up) a.name
          ∙ ap (λ (l : Lists (List ℕ)). l.up) (there.of_interrupts.held k ∙ interrupts_both z away k) ∙ a.interrupts;
    }

pub arrives : {r : Role} {channels : Ranges} {w : TwoLayers} → Run r channels w → (k acked : ℕ) → IsIdleTo k w.near w.far acked
    → HasAllOf k (name_of w.near.layer k) w.near.entries w.far.entries
arrives {r} {channels} {w} h k acked idle =
    has_all r channels w.near w.far h.near h.far h.rest h.away k (bare_layers channels.message w.back) h.stands h.there
    (subst (λ l. EndsRelated r h.near l (bare_layers channels.message w.back) h.far)
    (ap (bare_layers channels.message) (none_in_flight w.near.given w.far.taken w.out acked h.order.near idle.all_acked idle.acked_taken)) h.related)
    idle.opened idle.opened_there idle.no_message

pub always_arrives : Known → (long_data : Bool) (channels : Ranges) → Always ArrivesAll long_data channels
always_arrives known long_data channels es =
    let h = in_run known long_data channels es in
    record { near = arrives h; far = arrives (run_turned h) }

-- The layer's half of a station beside a peer: moves of the layer, one after another; over sessions a session's layer moves by itself, whichever
-- session of the peer it is beside.
use Rattle.x25_peer.proofs.Names.{◌≡◌, ℕ, List, [], ◌∷◌, ◌++◌, Bool, true, false, if◌then◌else◌, refl, ap, subst, ◌∙◌, append_assoc, append-nil, PlainPacket}
use Rattle.x25_peer.proofs.Names.{At, PeerChannels, LayerRequest, End, TwoLayers, IsReachedByOctets}
use Rattle.std.proofs.Common.{option_to_list}
use Rattle.x25_bits.specs.declared.role.Role.{Role}
use Rattle.x25_layer.specs.{Calls.{LayerOutcome, Accepted, Declined, layer_outcome, LayerPulled, layer_pulled}, Layer.{LayerSettings, is_channel}}
use Rattle.x25_layer.specs.{declared.ranges.Ranges.{Ranges}, laws.PeerJoined.{our_end, with_peer, StaysUp, Ours}, laws.RoundLaw.{moves_all, pulls_of}}
use Rattle.x25_layer.specs.laws.TwoLayers.{Move, Requests, Pulls, HandsUp, GoesDown, requested, pulled_in, moves_in, moves, settings_of, handed_up}
use Rattle.x25_station.specs.laws.ReadLaw.{MovesOctets, goes_on}

-- what stands at the far end decides nothing of a move
abbrev with_far : End → TwoLayers → TwoLayers
with_far f w = record w { far = f }

requested_far : (c : LayerSettings) (f : End) (w : TwoLayers) (request : LayerRequest) (o : LayerOutcome) → requested c (with_far f w) request o
    ≡ with_far f (requested c w request o)
requested_far c f w request (Accepted next packet) = refl
requested_far c f w request (Declined e) = refl

handed_far : (c : LayerSettings) (f : End) (w : TwoLayers) (back : List PlainPacket) → handed_up c (with_far f w) back ≡ with_far f (handed_up c w back)
handed_far c f w [] = refl
handed_far c f w (p ∷ back) = refl

pulled_far : (c : LayerSettings) (f : End) (w : TwoLayers) (h : ℕ) (b : Bool)
    → (if b then pulled_in (with_far f w) (layer_pulled c w.near.layer h) else with_far f w)
    ≡ with_far f (if b then pulled_in w (layer_pulled c w.near.layer h) else w)
pulled_far c f w h true = refl
pulled_far c f w h false = refl

moves_far : (c : LayerSettings) (f : End) (w : TwoLayers) (b : Bool) (m : Move) → moves_in c (with_far f w) b m ≡ with_far f (moves_in c w b m)
moves_far c f w true m = refl
moves_far c f w false (Requests full request) = requested_far c f w request (layer_outcome c full w.near.layer request)
moves_far c f w false (Pulls h) = pulled_far c f w h (is_channel c.channels h)
moves_far c f w false HandsUp = handed_far c f w w.back
moves_far c f w false GoesDown = refl

abbrev pub AllStay : Bool → List Move → Type 0
AllStay wide [] = Unit {0}
AllStay wide (m ∷ ms) = StaysUp m × MovesOctets wide m × AllStay wide ms

pub pulls_stay : (wide : Bool) (pulled : List ℕ) → AllStay wide (pulls_of pulled)
pulls_stay wide [] = tt
pulls_stay wide (h ∷ pulled) = (tt, tt, pulls_stay wide pulled)

pub moves_reached : {wide : Bool} {r : Role} {long_data : Bool} {n : Ranges} (y : At PeerChannels) (v : TwoLayers) (ms : List Move) → AllStay wide ms
    → IsReachedByOctets wide r long_data n (with_peer y v)
    → IsReachedByOctets wide r long_data n (with_peer y (moves_all (settings_of r long_data n) v ms))
moves_reached y v [] stay h = h
moves_reached {wide} {r} {long_data} {n} y v (m ∷ ms) stay h =
    let c = settings_of r long_data n in
    let w = with_peer y v in
    let one = goes_on w (with_peer y (moves c (our_end w) m)) h (Ours m stay.0) stay.1 in
    moves_reached y (moves c v m) ms stay.2
    (subst (λ x. IsReachedByOctets wide r long_data n (with_peer y x)) (moves_far c v.near v v.near.is_out m) one)

-- a layer's end by itself
abbrev pub alone_at : End → TwoLayers
alone_at e = record { near = e; far = e; out = []; back = [] }

-- with these packets in flight from it in front, and those to it
abbrev beside : List PlainPacket → List PlainPacket → TwoLayers → TwoLayers
beside o b w = record { near = w.near; far = w.far; out = o ++ w.out; back = b }

-- calls of the user, and pulls
abbrev pub IsAsked : Move → Type 0
IsAsked (Requests full request) = Unit {0}
IsAsked (Pulls h) = Unit {0}
IsAsked HandsUp = ⊥
IsAsked GoesDown = ⊥

abbrev pub AreAsked : List Move → Type 0
AreAsked [] = Unit {0}
AreAsked (m ∷ ms) = IsAsked m × AreAsked ms

-- pulls are moves that a station asks for
pub pulls_asked : (pulled : List ℕ) → AreAsked (pulls_of pulled)
pulls_asked [] = tt
pulls_asked (h ∷ pulled) = (tt, pulls_asked pulled)

requested_beside : (c : LayerSettings) (o b : List PlainPacket) (w : TwoLayers) (request : LayerRequest) (x : LayerOutcome)
    → requested c (beside o b w) request x ≡ beside o b (requested c w request x)
requested_beside c o b w request (Accepted next packet) = ap (λ l. record (beside o b (requested c w request (Accepted next packet))) { out = l })
    (append_assoc o w.out (option_to_list packet))
requested_beside c o b w request (Declined e) = refl

pulls_beside : (c : LayerSettings) (o b : List PlainPacket) (w : TwoLayers) (h : ℕ) (yes : Bool)
    → (if yes then pulled_in (beside o b w) (layer_pulled c w.near.layer h) else beside o b w)
    ≡ beside o b (if yes then pulled_in w (layer_pulled c w.near.layer h) else w)
pulls_beside c o b w h true = (ap (λ l. record (beside o b (pulled_in w (layer_pulled c w.near.layer h))) { out = l })
    (append_assoc o w.out (option_to_list (layer_pulled c w.near.layer h).packet)))
pulls_beside c o b w h false = refl

move_beside : (c : LayerSettings) (o b : List PlainPacket) (w : TwoLayers) (gone : Bool) (m : Move) → IsAsked m → moves_in c (beside o b w) gone m
    ≡ beside o b (moves_in c w gone m)
move_beside c o b w true m asked = refl
move_beside c o b w false (Requests full request) asked = requested_beside c o b w request (layer_outcome c full w.near.layer request)
move_beside c o b w false (Pulls h) asked = pulls_beside c o b w h (is_channel c.channels h)
move_beside c o b w false m asked = absurd asked

moves_beside : (c : LayerSettings) (o b : List PlainPacket) (w : TwoLayers) (ms : List Move) → AreAsked ms → moves_all c (beside o b w) ms
    ≡ beside o b (moves_all c w ms)
moves_beside c o b w [] asked = refl
moves_beside c o b w (m ∷ ms) asked =
    ap (λ v. moves_all c v ms) (move_beside c o b w w.near.is_out m asked.0) ∙ moves_beside c o b (moves c w m) ms asked.1

-- beside any peer that it is reached with, the end goes where it goes by itself
pub asked_reached : {wide : Bool} {r : Role} {long_data : Bool} {n : Ranges} (y : At PeerChannels) (e : End) (o b : List PlainPacket) (ms : List Move)
    → AreAsked ms → AllStay wide ms
    → IsReachedByOctets wide r long_data n (record { near = e; peer = y; out = o; back = b })
    → (let v = moves_all (settings_of r long_data n) (alone_at e) ms in
    IsReachedByOctets wide r long_data n (record { near = v.near; peer = y; out = o ++ v.out; back = b }))
asked_reached {wide} {r} {long_data} {n} y e o b ms asked stay h =
    let c = settings_of r long_data n in
    let start = beside o b (alone_at e) in
    let moved = moves_reached y start ms stay (rw (append-nil o) h) in
    subst (λ v. IsReachedByOctets wide r long_data n (record { near = v.near; peer = y; out = v.out; back = v.back }))
    (moves_beside c o b (alone_at e) ms asked) moved

-- ---- by such moves it takes nothing, and tells the user nothing

pub record IsToldNoMore (e f : End) : Type 0 where
  pub taken : f.taken ≡ e.taken
  pub told : f.told ≡ e.told

requested_leaves : (c : LayerSettings) (w : TwoLayers) (request : LayerRequest) (x : LayerOutcome) → IsToldNoMore w.near (requested c w request x).near
requested_leaves c w request (Accepted next packet) = record { taken = refl; told = refl }
requested_leaves c w request (Declined e) = record { taken = refl; told = refl }

pulled_leaves : (w : TwoLayers) (x : LayerPulled) (yes : Bool) → IsToldNoMore w.near (if yes then pulled_in w x else w).near
pulled_leaves w x true = record { taken = refl; told = refl }
pulled_leaves w x false = record { taken = refl; told = refl }

move_leaves : (c : LayerSettings) (w : TwoLayers) (gone : Bool) (m : Move) → IsAsked m → IsToldNoMore w.near (moves_in c w gone m).near
move_leaves c w true m asked = record { taken = refl; told = refl }
move_leaves c w false (Requests full request) asked = requested_leaves c w request (layer_outcome c full w.near.layer request)
move_leaves c w false (Pulls h) asked = pulled_leaves w (layer_pulled c w.near.layer h) (is_channel c.channels h)
move_leaves c w false m asked = absurd asked

-- what a user asks leaves what the layer took and told
pub asked_leaves : (c : LayerSettings) (w : TwoLayers) (ms : List Move) → AreAsked ms → IsToldNoMore w.near (moves_all c w ms).near
asked_leaves c w [] asked = record { taken = refl; told = refl }
asked_leaves c w (m ∷ ms) asked =
    let first = move_leaves c w w.near.is_out m asked.0 in
    let others = asked_leaves c (moves c w m) ms asked.1 in
    record { taken = others.taken ∙ first.taken; told = others.told ∙ first.told }

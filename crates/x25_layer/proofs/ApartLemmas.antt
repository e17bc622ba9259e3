-- A run of two layers in order, each end by itself, is a run of two layers over links: so what holds of those always holds of it.
use Rattle.x25_layer.proofs.Names.{◌≡◌, List, [], ◌∷◌, ◌++◌, length, Bool, true, false, if◌then◌else◌, refl, sym, ap, subst, ◌∙◌, append_assoc, Dte, Dce}
use Rattle.x25_layer.proofs.Names.{PlainPacket, IsPrefix, Ranges, LayerSettings, is_channel, LayerOutcome, Accepted, Declined, layer_outcome, layer_pulled, End}
use Rattle.x25_layer.proofs.Names.{TwoLayers, requested, pulled_in, handed_up, moves_in, turned, settings_of, EndMove, happens, run, start, Always, KeepsOrder}
use Rattle.x25_layer.proofs.Names.{drop, ap₂, OwnMove, Takes, as_move, coming, alone, own_moves, own_run, Ends, ApartEvent, apart_happens, apart_run, IsNext}
use Rattle.x25_layer.proofs.Names.{IsInOrder, AreInOrder, as_world, AlwaysApart, IsOverLinks}
use Rattle.std.proofs.lemmas.List.{append_cancel_left, drop_at}
use Rattle.x25_layer.specs.laws.Apart.{Requests, Pulls, GoesDown, ends_of, over_links, all_over_links}
use Rattle.x25_layer.specs.laws.ApartLaw.{AreByThemselves, OwnMovesDecide, StaysDown, EventsRunOn}
use Rattle.x25_layer.specs.laws.TwoLayers as world

-- ---- own moves alone decide

abbrev pub event : Bool → OwnMove → ApartEvent
event first what = record { first = first; what = what }

one_decides : (long_data : Bool) (channels : Ranges) (first : Bool) (what : OwnMove) (es : List ApartEvent) (ends : Ends)
    → ((next : Ends) → AreByThemselves long_data channels es next)
    → AreByThemselves long_data channels (event first what ∷ es) ends
one_decides long_data channels true what es ends rest =
    let r = rest (record { near = own_moves (settings_of Dte long_data channels) ends.near what; far = ends.far }) in record { near = r.near; far = r.far }
one_decides long_data channels false what es ends rest =
    let r = rest (record { near = ends.near; far = own_moves (settings_of Dce long_data channels) ends.far what }) in record { near = r.near; far = r.far }

pub own_moves_decide : OwnMovesDecide
own_moves_decide long_data channels [] ends = record { near = refl; far = refl }
own_moves_decide long_data channels (e ∷ es) ends = one_decides long_data channels e.first e.what es ends (λ next. own_moves_decide long_data channels es next)

pub events_run_on : EventsRunOn
events_run_on long_data channels [] es ends = record { run = refl; order = λ done behind. behind }
events_run_on long_data channels (e ∷ done) es ends =
    let r = events_run_on long_data channels done es (apart_happens long_data channels ends e) in
    record { run = r.run; order = λ first behind. (first.0, r.order first.1 behind) }

stays_out : (c : LayerSettings) (e : End) (own : List OwnMove) → e.is_out ≡ true → own_run c own e ≡ e
stays_out c e [] out = refl
stays_out c e (what ∷ own) out = ap (λ (v : End). own_run c own v) (ap (λ (b : Bool). (moves_in c (alone e (coming what)) b (as_move what)).near) out)
    ∙ stays_out c e own out

down_is_out : (c : LayerSettings) (e : End) (gone : Bool) → e.is_out ≡ gone → (own_moves c e GoesDown).is_out ≡ true
down_is_out c e true is = ap (λ (b : Bool). (moves_in c (alone e []) b world.GoesDown).near.is_out) is ∙ is
down_is_out c e false is = ap (λ (b : Bool). (moves_in c (alone e []) b world.GoesDown).near.is_out) is

pub stays_down : StaysDown
stays_down c e own = stays_out c (own_moves c e GoesDown) own (down_is_out c e e.is_out refl)

-- ---- a move of an end by itself is that of two layers

-- the packet that comes next is in front of those in flight
front : (taken back given : List PlainPacket) (p : PlainPacket) → given ≡ taken ++ back → (next : IsPrefix (taken ++ p ∷ []) given) → back ≡ p ∷ next.0
front taken back given p order next = append_cancel_left taken back (p ∷ next.0) (sym order ∙ sym next.1 ∙ append_assoc taken (p ∷ []) next.0)

abbrev Agrees : LayerSettings → TwoLayers → Bool → OwnMove → Type 0
Agrees c w gone what = ((moves_in c (alone w.near (coming what)) gone (as_move what)).near ≡ (moves_in c w gone (as_move what)).near)
    × ((moves_in c w gone (as_move what)).far ≡ w.far)

agrees : (c : LayerSettings) (w : TwoLayers) (what : OwnMove) (gone : Bool) → w.near.is_out ≡ gone → KeepsOrder w → IsNext w.near w.far what
    → Agrees c w gone what
agrees c w what true is order next = (refl, refl)
agrees c w (Requests full request) false is order next = by (layer_outcome c full w.near.layer request)
  where
    by : (o : LayerOutcome) → ((requested c (alone w.near []) request o).near ≡ (requested c w request o).near) × ((requested c w request o).far ≡ w.far)
    by (Accepted next packet) = (refl, refl)
    by (Declined error) = (refl, refl)
agrees c w (Pulls h) false is order next = by (is_channel c.channels h)
  where
    by : (b : Bool)
        → ((if b then pulled_in (alone w.near []) (layer_pulled c w.near.layer h) else alone w.near []).near
        ≡ (if b then pulled_in w (layer_pulled c w.near.layer h) else w).near)
        × ((if b then pulled_in w (layer_pulled c w.near.layer h) else w).far ≡ w.far)
    by true = (refl, refl)
    by false = (refl, refl)
agrees c w (Takes p) false is order next =
    subst (λ (back : List PlainPacket). ((handed_up c (alone w.near (p ∷ [])) (p ∷ [])).near ≡ (handed_up c w back).near) × ((handed_up c w back).far ≡ w.far))
    (sym (front w.near.taken w.back w.far.given p order.far (next is))) (refl, refl)
agrees c w GoesDown false is order next = (refl, refl)

-- ---- .. and so a run

abbrev both : End → End → Ends
both near far = record { near = near; far = far }

event_agrees : (long_data : Bool) (channels : Ranges) (w : TwoLayers) (first : Bool) (what : OwnMove) → KeepsOrder w → IsInOrder (ends_of w) (event first what)
    → apart_happens long_data channels (ends_of w) (event first what) ≡ ends_of (happens long_data channels w (over_links (event first what)))
event_agrees long_data channels w true what order next =
    let same = agrees (settings_of Dte long_data channels) w what w.near.is_out refl order next in
    ap₂ both same.0 (sym same.1)
event_agrees long_data channels w false what order next =
    let same = agrees (settings_of Dce long_data channels) (turned w) what w.far.is_out refl (record { near = order.far; far = order.near }) next in
    ap₂ both (sym same.1) same.0

run_agrees : (long_data : Bool) (channels : Ranges) (es : List ApartEvent) (w : TwoLayers)
    → ((behind : List EndMove) → KeepsOrder (run long_data channels behind w)) → AreInOrder long_data channels es (ends_of w)
    → apart_run long_data channels es (ends_of w) ≡ ends_of (run long_data channels (all_over_links es) w)
run_agrees long_data channels [] w order next = refl
run_agrees long_data channels (e ∷ es) w order next =
    let same = event_agrees long_data channels w e.first e.what (order []) next.0 in
    ap (λ (ends : Ends). apart_run long_data channels es ends) same
    ∙ run_agrees long_data channels es (happens long_data channels w (over_links e)) (λ behind. order (over_links e ∷ behind))
    (subst (λ (ends : Ends). AreInOrder long_data channels es ends) same next.1)

-- what is in flight is what was given and not taken
in_flight : (given taken out : List PlainPacket) → given ≡ taken ++ out → drop (length taken) given ≡ out
in_flight given taken out order = ap (λ (l : List PlainPacket). drop (length taken) l) order ∙ drop_at taken out (length taken) refl

abbrev with_flight : TwoLayers → List PlainPacket → List PlainPacket → TwoLayers
with_flight w out back = record { near = w.near; far = w.far; out = out; back = back }

ends_are_the_world : (w : TwoLayers) → KeepsOrder w → as_world (ends_of w) ≡ w
ends_are_the_world w order = ap₂ (with_flight w) (in_flight w.near.given w.far.taken w.out order.near) (in_flight w.far.given w.near.taken w.back order.far)

pub apart_is_over_links : (long_data : Bool) (channels : Ranges) → Always KeepsOrder long_data channels → IsOverLinks long_data channels
apart_is_over_links long_data channels order es next =
    ap as_world (run_agrees long_data channels es (start long_data channels) order next)
    ∙ ends_are_the_world (run long_data channels (all_over_links es) (start long_data channels)) (order (all_over_links es))

-- what holds of two layers over links holds of two apart, where these are such two
pub always_apart : (P : TwoLayers → Type 0) (long_data : Bool) (channels : Ranges) → IsOverLinks long_data channels → Always P long_data channels
    → AlwaysApart P long_data channels
always_apart P long_data channels same holds es next = subst P (sym (same es next)) (holds (all_over_links es))

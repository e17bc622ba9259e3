-- No CLEAR comes in p1: ours sends none there.
use Rattle.x25_layer.proofs.Names.{◌≡◌, ℕ, List, [], ◌∷◌, Bool, true, false, refl, sym, ap, ◌∙◌, Role, Dte, Dce, PlainPacket, clear, Circuit, is_free, is_free_in}
use Rattle.x25_layer.proofs.Names.{Side, Live, Left, has_left, At, state_of, Unused, Talking, LayerPacket, Ranges, bare_layer, bare_layers, Clear, End}
use Rattle.x25_layer.proofs.Names.{TwoLayers, run, start, Always, IsNoClearInP1, FrontIsNoClearInP1, NoClearComesInP1, On, Piece}
use Rattle.x25_handshakes.proofs.{CallLemmas.{called_free}, ChannelRelation.{IsCalled}, PeerChannelLemmas.{ChannelNext}, PeerLayerLemmas.{LayerNext, layer_next}}
use Rattle.x25_handshakes.specs.laws.{Calls.{Stage}, PeerCalls.{PeerCall}, PeerLayer.{PeerChannels}, PeerStretch.{PeerStretch}}
use Rattle.x25_layer.proofs.Ends.{state_in_transfer, state_in, state_at, ShowsAt, SeesLayer, Known}
use Rattle.x25_layer.proofs.{EndLemmas.{Stands}, LayerLemmas.{true≢false}, RunLemmas.{EndsRelated, ends_some, run_turned, in_run}}

not_free_in_transfer : (y : Side PeerStretch) → is_free_in (state_in_transfer y) ≡ false
not_free_in_transfer (Live x) = refl
not_free_in_transfer (Left x) = refl

not_free_in : (a : Stage (At PeerStretch)) → (a ≡ Unused → ⊥) → is_free_in (state_in a) ≡ false
not_free_in Unused called = absurd (called refl)
not_free_in (Talking t b at) called = not_free_in_transfer at.side
not_free_in a called = refl

not_free_at : (r : Role) (y : Side PeerCall) → ChannelNext IsCalled r y Clear → is_free_in (state_at y) ≡ false
not_free_at r (Live x) next = not_free_in x.stage (λ free. called_free r x next.1 next.0 free next.2 next.3)
not_free_at r (Left x) next = refl

at_end : (most : ℕ) (r : Role) (e : End) (y : At PeerChannels) (rest : ℕ → List Piece) (p : PlainPacket) → SeesLayer most e.layer y rest
    → LayerNext IsCalled r y.side (bare_layer most p) → IsNoClearInP1 e p
at_end most r e y rest (clear h cause diagnostic) s next = λ up ready. by y.side s.restarting (s.circuits h) next ready
  where
    by : (side : Side PeerChannels) → e.layer.restarting ≡ has_left side → ShowsAt most side rest h (e.layer.circuits h)
        → LayerNext IsCalled r side (On h Clear) → e.layer.restarting ≡ false → is_free (e.layer.circuits h) ≡ false
    by (Live x) is shows next ready = ap (λ (c : Circuit). is_free c) shows.is ∙ not_free_at r (x h).side next
    by (Left x) is shows next ready = absurd (true≢false (sym is ∙ ready))
at_end most r e y rest other s next = tt

-- an end that is out takes nothing
out_takes_none : (e : End) (p : PlainPacket) → e.is_out ≡ true → IsNoClearInP1 e p
out_takes_none e (clear h cause diagnostic) out = λ up ready. absurd (true≢false (sym out ∙ up))
out_takes_none e other out = tt

front_is : (r : Role) (channels : Ranges) (e : End) (s u : Side (At PeerChannels)) (rest : ℕ → List Piece) (L : List LayerPacket) (K : List PlainPacket)
    → Stands channels e s rest → EndsRelated r s L (bare_layers channels.message K) u → FrontIsNoClearInP1 e K
front_is r channels e s u rest L [] h related = tt
front_is r channels e (Left y) u rest L (p ∷ K) h related = out_takes_none e p h.at.0
front_is r channels e (Live y) u rest L (p ∷ K) h related =
    let some = ends_some r y L (bare_layers channels.message (p ∷ K)) u related in
    at_end channels.message r e y rest p h.at.1
    (layer_next IsCalled IsCalled r y.epoch y.side (bare_layer channels.message p) some.0 (bare_layers channels.message K) (state_of u) some.1)

pub never_in_p1 : Known → (long_data : Bool) (channels : Ranges) → Always NoClearComesInP1 long_data channels
never_in_p1 known long_data channels es =
    let w : TwoLayers = run long_data channels es (start long_data channels) in
    let h = in_run known long_data channels es in
    let t = run_turned h in
    record {
      near = front_is Dte channels w.near h.near h.far h.rest (bare_layers channels.message w.out) w.back h.stands h.related;
      far = front_is Dce channels w.far t.near t.far t.rest (bare_layers channels.message w.back) w.out t.stands t.related;
    }

-- What is kept of any two layers that keep the rules: every move of either keeps it, and it says the claims.
use Rattle.x25_handshakes.proofs.Names.{◌∷◌, ◌++◌, subst, On, Laws, Role, other_role}
use Rattle.x25_handshakes.proofs.{ChannelRelation.{IsAny}, HandshakeLemmas.{both_fresh}, LayersRelation.{two_layers_level, TwoLayers}}
use Rattle.x25_handshakes.proofs.PeerLayerLemmas.{two_layers_flip, two_layers_back, two_layers_passes, two_layers_takes, two_layers_does, may_leave_in}
use Rattle.x25_handshakes.proofs.{PeerLayerLemmas.{all_channels_fresh}, TwoPeerLemmas.{two_layers_order}}
use Rattle.x25_handshakes.specs.laws.{Handshake.{swapped}}
use Rattle.x25_handshakes.specs.laws.TwoLayers.{TwoEnds, Moves, Does, Hears, HearsChannel, IsReached, at_start, near_moves, far_moves, LayersKeepOrder}
use Rattle.x25_handshakes.specs.laws.TwoLayers.{OfAnyTwoLayers}

abbrev pub Holds : Role → TwoEnds → Type 0
Holds r w = TwoLayers IsAny IsAny r w.near w.out w.back w.far

moves_hold : Laws → (r : Role) (w v : TwoEnds) → Moves r w v → Holds r w → Holds r v
moves_hold laws r w v (Does deed may) h =
    two_layers_does IsAny IsAny r laws w.near.epoch w.near.side deed may (may_leave_in w.near.side deed) w.out w.back w.far h
moves_hold laws r w v (Hears p rest is) h =
    two_layers_takes IsAny IsAny r w.near.epoch w.near.side p w.out rest w.far (subst (λ K. TwoLayers IsAny IsAny r w.near w.out K w.far) is h)
moves_hold laws r w v (HearsChannel x k passed p rest live apart is) h =
    two_layers_passes IsAny IsAny r w.near.epoch x passed k p w.out rest w.far apart
    (subst (λ s. TwoLayers IsAny IsAny r (record { epoch = w.near.epoch; side = s }) w.out (passed ++ On k p ∷ rest) w.far) live
    (subst (λ K. TwoLayers IsAny IsAny r w.near w.out K w.far) is h))

-- what is reached keeps it
pub reached_hold : Laws → (r : Role) {w : TwoEnds} → IsReached r w → Holds r w
reached_hold laws r at_start = record { hand = both_fresh (two_layers_level IsAny IsAny r) (all_channels_fresh IsAny IsAny r) 0 }
reached_hold laws r (near_moves w v reached move) = moves_hold laws r w v move (reached_hold laws r reached)
reached_hold laws r (far_moves w v reached move) =
    two_layers_back r (moves_hold laws (other_role r) (swapped w) v move (two_layers_flip r (reached_hold laws r reached)))

pub layers_keep_order : Laws → OfAnyTwoLayers LayersKeepOrder
layers_keep_order laws r w reached = two_layers_order IsAny IsAny r (reached_hold laws r reached)

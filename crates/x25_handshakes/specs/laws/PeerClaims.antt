-- What holds of two ends in each epoch; and where a stretch is open at an end.
use Rattle.std.specs.Prelude.{◌≡◌, ◌⊎◌, ℕ, suc, Bool, true, false, not}
use Rattle.x25_handshakes.specs.laws.Handshake.{Side, Live, Left, At, has_left, state_of}
use Rattle.x25_handshakes.specs.{laws.Calls.{Talking, Stage}, laws.PeerStretch.{PeerStretch}}
use Rattle.x25_handshakes.specs.{laws.PeerTransfer.{fresh_peer_transfer}, laws.PeerCalls.{PeerCall}}
use Rattle.x25_handshakes.specs.laws.PeerLayer.{PeerChannels}

-- Two ends of a handshake, of which R is said in one epoch, also where an end or both have left it. Their counts differ
-- by one at most. An end that is ahead stands as if the other were in the new epoch too and had done nothing there, and
-- the other has left its epoch, so that it takes nothing more in it.
pub record InEpochs {S T : Type 0} (R : S → T → Type 0) (fresh : S) (there : T) (x : At S) (y : At T) : Type 0 where
  pub same : x.epoch ≡ y.epoch → R (state_of x.side) (state_of y.side)
  pub near_ahead : x.epoch ≡ suc y.epoch → R (state_of x.side) there × (has_left y.side ≡ true)
  pub peer_ahead : y.epoch ≡ suc x.epoch → R fresh (state_of y.side) × (has_left x.side ≡ true)
  pub apart : (x.epoch ≡ y.epoch) ⊎ (x.epoch ≡ suc y.epoch) ⊎ (y.epoch ≡ suc x.epoch)

-- what an end is in p4, and outside of it what it will be there
abbrev pub in_stage : {S : Type 0} → S → Stage S → S
in_stage a (Talking t b at) = at
in_stage a other = a

abbrev pub peer_transfer_of : Stage (At PeerStretch) → At PeerStretch
peer_transfer_of c = in_stage fresh_peer_transfer c

-- ---- on a channel the end is in p4, and no restart, clear or reset of its own is out

abbrev pub is_open_stage : Stage (At PeerStretch) → Bool
is_open_stage (Talking t b at) = not (has_left at.side)
is_open_stage other = false

abbrev pub is_open_call : Side PeerCall → Bool
is_open_call (Live c) = is_open_stage c.stage
is_open_call (Left c) = false

abbrev pub is_open_there : Side PeerChannels → ℕ → Bool
is_open_there (Live y) k = is_open_call (y k).side
is_open_there (Left y) k = false

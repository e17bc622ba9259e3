-- An empty facility field is allowed, and what a call proposes may be proposed.
use Rattle.x25_layer.proofs.Names.{◌≡◌, Bool, ℕ, None, true, ◌&&◌, nat_le, List, [], length, refl, and_parts, Params, may_propose, may_call, IsFacilityField}
use Rattle.x25_layer.proofs.Names.{longest_user}
use Rattle.x25_circuit.specs.Calling.{is_address_text}

pub no_field : IsFacilityField []
no_field = (record { packet_size = None; window_size = None }, record { sizes = tt; windows = tt }, refl)

-- what a call proposes may be proposed
pub call_proposes : (long_data : Bool) (called calling user : List ℕ) (params : Params) → may_call long_data called calling user params ≡ true
    → may_propose params ≡ true
call_proposes long_data called calling user params e =
    (and_parts (nat_le (length user) (longest_user long_data)) (may_propose params)
    (and_parts (is_address_text calling) (nat_le (length user) (longest_user long_data) && may_propose params)
    (and_parts (is_address_text called) (is_address_text calling && (nat_le (length user) (longest_user long_data) && may_propose params)) e).1).1).1

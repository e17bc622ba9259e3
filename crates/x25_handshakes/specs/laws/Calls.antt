-- The stage of a call at an end. ITU-T X.25 (10/96), sections 4.1.2 to 4.1.6.
use Rattle.x25_circuit.specs.declared.params.Params.{Params}
use Rattle.x25_handshakes.specs.laws.Terms.{Terms}

-- Where the call of an end stands; S is what an end of its kind is in p4.
pub data Stage (S : Type 0) : Type 0 where
  Unused : Stage S
  -- its CALL is out, with what it proposes
  Waiting : (mine : Params) → Stage S
  -- CALL came, with what the other end proposes
  Offered : (theirs : Params) → Stage S
  -- p5: CALL came while its own is out
  Crossed : (mine : Params) → Stage S
  -- p4, with the terms of what this end sends, and of what it takes
  Talking : (t b : Terms) → (at : S) → Stage S

-- A talk with one part changed.
use Rattle.std.specs.Prelude.{ℕ, List, [], ◌∷◌, ◌++◌, Bool}
use Rattle.x25_circuit.specs.Message.{Piece}
use Rattle.x25_circuit.specs.Circuit.{Talk}

abbrev pub with_acked : ℕ → Talk → Talk
with_acked n t = record {
  sent = t.sent;
  taken = t.taken;
  acked = n;
  rest = t.rest;
  int_out = t.int_out;
  peer_ready = t.peer_ready;
  own_ready = t.own_ready;
}

abbrev pub with_taken : Piece → Talk → Talk
with_taken piece t = record {
  sent = t.sent;
  taken = t.taken
      ++ piece ∷ [];
  acked = t.acked;
  rest = t.rest;
  int_out = t.int_out;
  peer_ready = t.peer_ready;
  own_ready = t.own_ready;
}

abbrev pub with_rest : List Piece → Talk → Talk
with_rest rest t = record {
  sent = t.sent;
  taken = t.taken;
  acked = t.acked;
  rest = rest;
  int_out = t.int_out;
  peer_ready = t.peer_ready;
  own_ready = t.own_ready;
}

abbrev pub with_peer : Bool → Talk → Talk
with_peer is_ready t = record {
  sent = t.sent;
  taken = t.taken;
  acked = t.acked;
  rest = t.rest;
  int_out = t.int_out;
  peer_ready = is_ready;
  own_ready = t.own_ready;
}

abbrev pub with_own : Bool → Talk → Talk
with_own is_ready t = record {
  sent = t.sent;
  taken = t.taken;
  acked = t.acked;
  rest = t.rest;
  int_out = t.int_out;
  peer_ready = t.peer_ready;
  own_ready = is_ready;
}

abbrev pub with_sent : Piece → List Piece → Talk → Talk
with_sent piece rest t = record {
  sent = t.sent
      ++ piece ∷ [];
  taken = t.taken;
  acked = t.acked;
  rest = rest;
  int_out = t.int_out;
  peer_ready = t.peer_ready;
  own_ready = t.own_ready;
}

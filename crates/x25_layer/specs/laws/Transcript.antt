-- The transcript of a layer: what its users asked and were told on each channel, each entry under the name of its
-- stretch.
use Rattle.std.specs.Prelude.{ℕ, List, [], ◌∷◌, ◌++◌, ◌==◌, if◌then◌else◌}
use Rattle.x25_circuit.specs.Message.{Message}
use Rattle.x25_circuit.specs.Notice.{CallRequest, PlainNotice, incoming, delivered, interrupted}
use Rattle.x25_circuit.specs.Calling.{Request, Calls, Sends, Interrupts, request_of}
use Rattle.x25_handshakes.specs.laws.Names.{Name, both, same_name}
use Rattle.x25_handshakes.specs.laws.Histories.{Lists}
use Rattle.x25_layer.specs.Layer.{Layer}

-- the calls made and indicated, the messages sent and delivered, and the interrupts sent and taken, in order
pub record Handed : Type 0 where
  pub made : List CallRequest
  pub indicated : List CallRequest
  pub down : List Message
  pub up : List Message
  pub int_down : List (List ℕ)
  pub int_up : List (List ℕ)

abbrev pub nothing_handed : Handed
nothing_handed = record { made = []; indicated = []; down = []; up = []; int_down = []; int_up = [] }

abbrev pub added : Handed → Handed → Handed
added a b = record {
  made = a.made ++ b.made;
  indicated = a.indicated ++ b.indicated;
  down = a.down ++ b.down;
  up = a.up ++ b.up;
  int_down = a.int_down ++ b.int_down;
  int_up = a.int_up ++ b.int_up;
}

abbrev pub told_by : PlainNotice → Handed
told_by (incoming request) = record {
  made = [];
  indicated = request ∷ [];
  down = [];
  up = [];
  int_down = [];
  int_up = [];
}
told_by (delivered message) = record {
  made = [];
  indicated = [];
  down = [];
  up = message ∷ [];
  int_down = [];
  int_up = [];
}
told_by (interrupted user) = record { made = []; indicated = []; down = []; up = []; int_down = []; int_up = user ∷ [] }
told_by notice = nothing_handed

abbrev pub told_by_all : List PlainNotice → Handed
told_by_all [] = nothing_handed
told_by_all (notice ∷ notices) = added (told_by notice) (told_by_all notices)

abbrev pub asked_by : Request → Handed
asked_by (Calls called calling user proposal) = record {
  made = request_of called calling user proposal.params ∷ [];
  indicated = [];
  down = [];
  up = [];
  int_down = [];
  int_up = [];
}
asked_by (Sends marks user) = record {
  made = [];
  indicated = [];
  down = record { marks = marks; user = user } ∷ [];
  up = [];
  int_down = [];
  int_up = [];
}
asked_by (Interrupts user) = record { made = []; indicated = []; down = []; up = []; int_down = user ∷ []; int_up = [] }
asked_by request = nothing_handed

-- what the user of a channel asked or was told
pub data Said : Type 0 where
  Asked : (request : Request) → Said
  Told : (notice : PlainNotice) → Said

pub record Entry : Type 0 where
  pub channel : ℕ
  pub name : Name
  pub said : Said

abbrev pub says : Said → Handed
says (Asked request) = asked_by request
says (Told notice) = told_by notice

-- what stands in a transcript under a channel and a name
abbrev pub under : ℕ → Name → List Entry → Handed
under k name [] = nothing_handed
under k name (e ∷ entries) = added (if both (k == e.channel) (same_name name e.name) then says e.said
    else nothing_handed) (under k name entries)

-- the three kinds, as lists handed down and up

abbrev pub calls_in : Handed → Lists CallRequest
calls_in h = record { down = h.made; up = h.indicated }

abbrev pub messages_in : Handed → Lists Message
messages_in h = record { down = h.down; up = h.up }

abbrev pub interrupts_in : Handed → Lists (List ℕ)
interrupts_in h = record { down = h.int_down; up = h.int_up }

-- the name of the stretch that stands on a channel: the restarts done since link set-up, the clears since the last of
-- these, and the resets since the last of all these (profile)
abbrev pub name_of : Layer → ℕ → Name
name_of l h = record { restarts = l.restarts; clears = (l.circuits h).clears; resets = (l.circuits h).resets }

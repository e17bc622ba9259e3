-- Worked rows of one who obeys his clock: a peer whose link lives and whose packet layer is silent.
use Rattle.std.specs.Prelude.{◌≡◌, ◌+◌, true, false, List, [], ◌∷◌, ◌++◌}
use Rattle.x25_bits.specs.declared.role.Role.TheVariants.{Dte}
use Rattle.x25_link.specs.declared.phase.Phase.TheVariants.{Waiting}
use Rattle.x25_link.specs.Station.{fresh}
use Rattle.x25_circuit.specs.Calling.{Interrupts}
use Rattle.x25_circuit.specs.Circuit.{Circuit, silent}
use Rattle.x25_circuit.specs.Params.{default_params, in_brief}
use Rattle.x25_circuit.specs.declared.state.State.TheVariants.{Open}
use Rattle.x25_layer.specs.Ranges.{two_way}
use Rattle.x25_layer.specs.Layer.{at_rest, is_ready}
use Rattle.x25_layer.specs.Calls.{Dials}
use Rattle.x25_layer.specs.Calls as layer
use Rattle.x25_layer.specs.code.FitsLayer.{awaited_at}
use Rattle.x25_station.specs.Command.{Requests}
use Rattle.x25_station.specs.Config.{Settings, layer_settings}
use Rattle.x25_station.specs.laws.TimerLaw.{Asks}
use Rattle.x25_clock.specs.declared.due.Due.TheVariants as due
use Rattle.x25_clock.specs.declared.times.Times.{Times}
use Rattle.x25_clock.specs.Clock.{nothing_awaited}
use Rattle.x25_clock.specs.laws.ClockLaw.{Watched}
use Rattle.x25_clock.specs.laws.WaitLaw.{Deed, Happens, IsAsked, done, all_done, AreObeyed, AwaitsAll, longest_wait}

-- a DTE with one channel
abbrev pub dte : Settings
dte = record {
  role = Dte;
  window = 7;
  retries = 2;
  channels = two_way 1;
  long_data = false;
  say_sizes = false;
  wide = false;
}

-- T1 and T3 are for ever, so that the link of the peer may be left out
abbrev pub times : Times
times = record { t1 = 0; t3 = 0; t20 = 5; t21 = 3; t22 = 2; t23 = 4; t25 = 0; t26 = 1 }

-- its link is up and in r1, and it calls at once
abbrev pub before : Watched
before = record {
  station = record { link = fresh; layer = at_rest; turn = 0 };
  deadlines = nothing_awaited dte.channels.count;
  now = 7;
}

abbrev pub called : Watched
called = done dte times (Happens 0 (Asks (Requests (Dials [] [] [] (in_brief default_params))))) before

-- or its channel is open, and it sends an interrupt
abbrev pub in_call : Circuit
in_call = record { state = Open; clears = 0; resets = 0; params = default_params; calls = true; talk = silent }

abbrev pub interrupted : Watched
interrupted = done dte times (Happens 0 (Asks (Requests (layer.Asks 1 (Interrupts (7 ∷ []))))))
    (record before { station = record { link = fresh; layer = is_ready 1 (λ k. in_call); turn = 0 } })

-- nothing comes: the call is cleared, all is restarted
abbrev pub asked : List Deed
asked = IsAsked 3 (due.Clear 1) ∷ IsAsked 4 (due.Restart 1) ∷ []

-- or the call is reset before
abbrev pub asked_first : List Deed
asked_first = IsAsked 1 (due.Reset 1) ∷ IsAsked 2 (due.Clear 1) ∷ IsAsked 4 (due.Restart 1) ∷ []

-- and the link is set up anew, at the last moment that the law allows
abbrev pub last : Deed
last = IsAsked 5 due.Relink

pub record IsLeft (asked : List Deed) (w : Watched) : Type 0 where
  pub obeys : AreObeyed dte times (asked ++ last ∷ []) w
  pub awaits : AwaitsAll dte times 1 asked w
  pub now : (all_done dte times (asked ++ last ∷ []) w).now ≡ w.now
      + longest_wait times false (awaited_at (layer_settings dte) w.station.layer 1)
  pub phase : (all_done dte times (asked ++ last ∷ []) w).station.link.phase ≡ Waiting

pub record SilentPeerIsLeft : Type 0 where
  pub call : IsLeft asked called
  pub interrupt : IsLeft asked_first interrupted

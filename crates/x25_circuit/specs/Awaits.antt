-- The answer that an end awaits, in each state of a logical channel: in p4 with d1 by whether its interrupt isn't
-- confirmed yet. In p5 the DTE awaits that its own call be accepted. ITU-T X.25 (10/96), Annex D.
use Rattle.std.specs.Prelude.{Bool, true, false}
use Rattle.x25_circuit.specs.declared.state.State.{State}
use Rattle.x25_circuit.specs.declared.state.State.TheVariants.{Free, Calling, Arriving, Collision, Open, Resetting}
use Rattle.x25_circuit.specs.declared.state.State.TheVariants.{Clearing}
use Rattle.x25_circuit.specs.declared.awaits.Awaits.{Awaits}
use Rattle.x25_circuit.specs.declared.awaits.Awaits.TheVariants.{Nothing, Acceptance, ResetConfirmation}
use Rattle.x25_circuit.specs.declared.awaits.Awaits.TheVariants.{ClearConfirmation, InterruptConfirmation}

abbrev pub awaited_in : State → Bool → Awaits
awaited_in Free int_out = Nothing
awaited_in Calling int_out = Acceptance
awaited_in Arriving int_out = Nothing
awaited_in Collision int_out = Acceptance
awaited_in Open true = InterruptConfirmation
awaited_in Open false = Nothing
awaited_in Resetting int_out = ResetConfirmation
awaited_in Clearing int_out = ClearConfirmation

-- there is one
abbrev pub is_any : Awaits → Bool
is_any Nothing = false
is_any Acceptance = true
is_any ResetConfirmation = true
is_any ClearConfirmation = true
is_any InterruptConfirmation = true

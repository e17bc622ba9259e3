-- The names that many of these proofs cite, passed on from one place.
pub use Rattle.std.proofs.Common.{add-one, add_assoc, append-nil, map, not, slice_get, ◌%◌, ◌-◌, ◌≢◌}
pub use Rattle.std.proofs.Common.{if◌then◌else◌, Err, Option, nat_le, suc, inl, inr, lit≤, ◌==◌, Ok, Result, append_assoc, take, zero, ◌&&◌, ◌<◌, IfSome}
pub use Rattle.std.proofs.Common.{◌∙◌, sym, ap, refl, rules, ◌≡◌, subst, true, ℕ, Bool, List, [], arith, false, length, Some, ◌∷◌, ◌++◌, drop, ◌+◌, ◌≤◌, None}
pub use Rattle.std.proofs.lemmas.{Bool.{le-leb, leb-false, and_from, eqb-true, leb-true, lt-ltb}, List.{length-drop, length-append, length-map, length_push}}
pub use Rattle.std.{proofs.lemmas.Result.{err_from_is_err_and}, specs.Int.{from_bool}}
pub use Rattle.x25_bits.specs.{Bits.{bit}, declared.role.Role.{Role}}
pub use Rattle.x25_circuit.specs.Message.{Piece, asked_in, Message, cut, cut_all, piece_of, Partial, wholes, Last, More, asks, cut_from, joined, joining}
pub use Rattle.x25_circuit.specs.code.{Cutter.{first_cut, first_left}, Fits.{FitsTalk}, FitsCircuit.{FitsCircuit}, FitsNumbers.{FitsNumbers}}
pub use Rattle.x25_circuit.specs.declared.transfer.Transfer.{Transfer}
pub use Rattle.x25_circuit.specs.declared.{params.Params.{Params}, state.State.{State}, state.State.TheVariants.{Open, Arriving, Calling, Collision}}
pub use Rattle.x25_circuit.specs.{Awaits.{awaited_in, is_any}, Calling.{Refused, call_in, Pulled}}
pub use Rattle.x25_circuit.specs.{Circuit.{outgoing, entered, CircuitSettings, Circuit, waits, Talk, incoming}, Hearing.{row_clear, row_undecoded}}
pub use Rattle.x25_circuit.specs.{Message.{completed, ends_of, ground_of, no_part}, Notice.{collided}, Params.{may_answer, may_propose, Proposal, said_in}}
pub use Rattle.x25_circuit.specs.{Queue.{waiting}, Request.{refusal_of}, code.CallMemory.{has_memory}, code.Changes.{with_acked, with_rest}}
pub use Rattle.x25_circuit.specs.{code.PartialMessage.{ShownPartial}, code.Replies.{Says, notices_of}, declared.error.CircuitError.TheVariants.{NoMemory}}
pub use Rattle.x25_packet.specs.{Facilities.{IsFacilityField}, Marks.{with_q}, declared.error.PacketError.{PacketError}, declared.marks.Marks.{Marks}}
pub use Rattle.x25_window.specs.code.{Held.{Held}, Modulo.{resolved}}

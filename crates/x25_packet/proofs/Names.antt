-- The names that many of these proofs cite, passed on from one place.
pub use Rattle.std.proofs.Common.{List, [], refl, ℕ, ◌≡◌, ap, arith, false, length, true, ◌∷◌, ◌≤◌, ◌∙◌, Bool, sym, ◌++◌, ◌+◌, ◌<◌, Ok, Some, nat_eq, ◌/◌}
pub use Rattle.std.proofs.Common.{Option, drop, subst, ◌%◌, ◌*◌, Err, None, Result, take, get_or, inl, inr, ◌≢◌, nat_lt, suc, zero, not, ◌-◌, length-append}
pub use Rattle.std.proofs.{Common.{length-drop, ◌⊎◌}, lemmas.Bool.{and_parts, eqb-true, leb-true, le-leb, and_from, le-ltb, eqb-false, ltb-false, ne_eqb}}
pub use Rattle.std.specs.Prelude.{nat_le, ◌&&◌, cond, max, ◌||◌}
pub use Rattle.std.{proofs.lemmas.List.{length-take-le, take-append-drop}, proofs.lemmas.List.Folds.{list_all-append}, specs.List.{list_all}}
pub use Rattle.x25_bits.specs.Bits.{bit}
pub use Rattle.x25_packet.specs.Block.{PlainBlock, PlainFields, IsBlock, MayBeFields, IsField, MayBeBlock, block_octets, fields_octets, hold_addresses}
pub use Rattle.x25_packet.specs.Facilities.{AreAllowed, AreWithin, IfGiven, facility, field_of, is_within, last, windows_of, with_sizes}
pub use Rattle.x25_packet.specs.Form.Spelling.{MayLack, reason_octets}
pub use Rattle.x25_packet.specs.Form.Spelling.{may_have, HasPlace, IsKind, Spells, HasFacilities, IsAnswer, body_of, spelling_of, type_of, IsPacket, IsShort}
pub use Rattle.x25_packet.specs.Form.{PlainKind, restart, PlainForm, accept, call, registration, registration_conf, rej, restart_conf, diagnostic, reset, rnr}
pub use Rattle.x25_packet.specs.Form.{rr, user_data, clear_conf, extended_clear, interrupt, interrupt_conf, reset_conf, clear}
pub use Rattle.x25_packet.specs.Grammar.{accept_of, block_of, caused, channelled, clear_of, field_read, fields_of, kind_of, mapped, optional_block, reason_of}
pub use Rattle.x25_packet.specs.Grammar.{unchannelled, with_addresses, with_head, written_answer, addressed, call_of, called, clear_conf_of, form_in}
pub use Rattle.x25_packet.specs.declared.form.Forms.TheVariants.{Any, Written}
pub use Rattle.x25_packet.specs.declared.{facilities.Directions.{Directions}, facilities.Facilities.{Facilities}, form.Forms.{Forms}}
pub use Rattle.x25_packet.specs.{Block.{optional_octets}, Classes.{IsFacilityField, class_b, none_own}, Digits.{hold_digits, IsAddress, halves_at, is_digit}}
unfoldable pub use Rattle.x25_packet.specs.{Classes.{own_in, are_facilities}, Digits.{halves_of, packed}, Facilities.{facilities_of}, Grammar.{read_of}}
pub use Rattle.x25_packet.specs.{Grammar.{has_format, interrupt_of, is_over, is_short, named, when, Gives, bare, data_of, others, rej_of}, Made.{Reads}}
pub use Rattle.x25_packet.specs.{Narrowing.{taken_of, digits_behind, field_in, field_said, narrow_of, narrowed, with_field}, Packet.{PlainPacket}}
pub use Rattle.x25_packet.specs.{Reading.{packet_of}, Reading.FirstError.{FieldError}, Reading.FirstError.FieldError.{cut_off, out_of_range, wrong_code}}
pub use Rattle.x25_packet.specs.{Spelling.{channel_of}, declared.classes.Own.{Own}, declared.error.PacketError.{PacketError}}

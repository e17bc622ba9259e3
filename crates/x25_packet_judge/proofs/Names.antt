-- The names that several of these proofs cite, passed on from one place.
pub use Rattle.std.proofs.Common.{◌≡◌, ◌∙◌, ℕ, Bool, true, false, Some, None, refl, sym, ap, arith, ◌<◌, zero, suc, List, [], ◌∷◌, ◌++◌, Option, length}
pub use Rattle.std.proofs.Common.{replicate, map}
pub use Rattle.std.proofs.lemmas.Bool.{or_parts, both_ways, and_parts, cond_both}
pub use Rattle.std.proofs.lemmas.List.{get_or-set_same, get_or-set_other, length-append, length-replicate}
pub use Rattle.std.specs.Prelude.{◌%◌, ◌==◌, ◌&&◌, ◌||◌, not, if◌then◌else◌, unwrap_or, ◌-◌, is_some, nat_lt, nat_le}
pub use Rattle.x25_bits.specs.declared.{role.Role.{Role}, role.Role.TheVariants.{Dte, Dce}}
pub use Rattle.x25_packet.specs.Packet.{PlainPacket, restart, restart_conf}
pub use Rattle.x25_packet_judge.specs.{Book.{is_of_all, is_restart, takes}, Channel.{lost, rule_of, sent, happens, begun_channel, ready_channel}}
pub use Rattle.x25_packet_judge.specs.Channels.{Channels, all_happens, channel_of, put, padded, all_alike}
unfoldable pub use Rattle.x25_packet_judge.specs.Item.{item_of}
pub use Rattle.x25_packet_judge.specs.PacketRule.{is_order, is_of_manners}
pub use Rattle.x25_packet_judge.specs.declared.{book.Book.{Book}, channel.Channel.{Channel}, packet_rule.PacketRule.TheVariants.{RestartAwaited, PacketUnsent}}
pub use Rattle.x25_packet_judge.specs.laws.BookClaims.{asked_of, awaits, behind_item, end_of, is_quiet, refuses, seen_by, set_of, BooksFollowTapes, begins_with}
pub use Rattle.x25_packet_judge.specs.laws.BookClaims.{RestartsBegin, behind_all, is_manners, is_on, moved, of_restarts, tape_of_restarts, tape_on, rule_told}
pub use Rattle.x25_packet_judge.specs.laws.BookClaims.{BooksTellExactly, InnocentTapesStayUntold, IsBehind, MaySend, Spoken}
pub use Rattle.x25_possible.specs.code.Steps.{is_known, sends_to, behind}
pub use Rattle.x25_possible.specs.declared.{packet.Packet.{Packet}, packet.Packet.TheVariants.{Elsewhere, Restart, RestartConf, Data, Rr, Rnr}, set.Set.{Set}}
pub use Rattle.x25_possible.specs.declared.{set.Told.{Told}, set.Told.TheVariants.{Nothing, Rude, Broken}}
pub use Rattle.x25_possible.specs.laws.Sets.{InnocentsStayUntold, IsRude, PoliteStayUntold, SendsExactly, IsBroken, IsUntold}

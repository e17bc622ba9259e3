-- Behind a set-up of the link, a RESTART and its confirmation.
use Rattle.x25_packet_judge.proofs.Names.{◌≡◌, ◌∙◌, ℕ, false, refl, ap, Role, Dte, Dce, restart, restart_conf, begun_channel, ready_channel, all_alike}
use Rattle.x25_packet_judge.proofs.Names.{channel_of, item_of, Book, Channel, begins_with, behind_item, end_of, is_quiet, seen_by, RestartsBegin, behind, Restart}
use Rattle.x25_packet_judge.proofs.{Names.{RestartConf}, BookLemmas.{books_follow_tapes, restarts_of_all, sends_first}}
use Rattle.x25_bits.specs.Role.{other}
use Rattle.x25_packet_judge.specs.declared.layers.Layers.{Layers}
use Rattle.x25_packet_judge.specs.Book as book

module _ (t : Layers) (b : Book) where
  both_up : (r : Role) → ((book.begins r t b).channels ≡ all_alike ready_channel) × ((book.begins r t b).restarts ≡ begun_channel)
  unfolding book.begins
  both_up Dte = (refl, refl)
  both_up Dce = (refl, refl)

-- one end restarts, and the other one confirms
abbrev MeetsBy : Role → Role → Channel → Type 0
MeetsBy role from c = behind_item (seen_by role (other from) RestartConf) (behind_item (seen_by role from Restart) (end_of role c))
    ≡ behind role (begins_with role from)

met : (role from : Role) → MeetsBy role from ready_channel × MeetsBy role from begun_channel
met Dte Dte = (refl, refl)
met Dce Dte = (refl, refl)
met Dte Dce = (refl, refl)
met Dce Dce = (refl, refl)

-- both have sent
loud : (role from : Role) (one two cause diagnostic : ℕ) (b : Book)
    → is_quiet role (book.takes (other from) two restart_conf (book.takes from one (restart cause diagnostic) b).book).book ≡ false
loud Dte Dte one two cause diagnostic b = books_follow_tapes.spoken (book.takes Dte one (restart cause diagnostic) b).book Dte Dce two restart_conf
    (sends_first Dte one (restart cause diagnostic) b refl)
loud Dce Dce one two cause diagnostic b = books_follow_tapes.spoken (book.takes Dce one (restart cause diagnostic) b).book Dce Dte two restart_conf
    (sends_first Dce one (restart cause diagnostic) b refl)
loud Dce Dte one two cause diagnostic b = sends_first Dce two restart_conf (book.takes Dte one (restart cause diagnostic) b).book refl
loud Dte Dce one two cause diagnostic b = sends_first Dte two restart_conf (book.takes Dce one (restart cause diagnostic) b).book refl

pub restarts_begin : RestartsBegin
unfolding item_of
restarts_begin b t role up from channel one two cause diagnostic =
    let first : Book = book.begins up t b in
    let second : Book = (book.takes from one (restart cause diagnostic) first).book in
    record {
      dte = loud Dte from one two cause diagnostic first;
      dce = loud Dce from one two cause diagnostic first;
      set = books_follow_tapes.channels second role (other from) channel two restart_conf
          ∙ ap (behind_item (seen_by role (other from) RestartConf)) (books_follow_tapes.channels first role from channel one (restart cause diagnostic)
          ∙ ap (behind_item (seen_by role from Restart)) (ap (λ cs. end_of role (channel_of channel cs)) (both_up t b up).0)) ∙ (met role from).0;
      restart_set = restarts_of_all second role (other from) two restart_conf refl
          ∙ ap (behind_item (seen_by role (other from) RestartConf)) (restarts_of_all first role from one (restart cause diagnostic) refl
          ∙ ap (λ c. behind_item (seen_by role from Restart) (end_of role c)) (both_up t b up).1) ∙ (met role from).1;
    }

-- What a sender ends as, once the item that it lends has been given back.
use Rattle.std.specs.Prelude.{◌≡◌, ⊤, length, nat_lt, if◌then◌else◌}
use Rattle.std.specs.Borrow.{Fml, RattleType, MutBor, follows_so}
use mathlib.Core.Option.{none}
use Rattle.x25_window.specs.contracts.sender.Sender.{the_row}
use Rattle.x25_window.specs.Sender.{Sending, moved_on}
use Rattle.x25_window.specs.code.Held.{Held, Fits, advanced}

-- each state that it fitted has moved on, where there was an item to send
abbrev pub EndsFitting : (T : RattleType) → MutBor (Held T.Denot) → Fml
EndsFitting T s = follows_so (the_row T) (the_row T) s.ghost_name none (λ _ _. ⊤)
    (λ n. (n ≡ advanced s.now)
    × ((w : Sending T.Denot) → Fits s.now w → Fits n (if nat_lt w.place (length w.given) then moved_on w else w)))

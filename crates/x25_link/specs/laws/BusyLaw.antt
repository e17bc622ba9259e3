-- What a station says of whether it is busy, and what it doesn't send to a peer that is. ITU-T X.25 (10/96), sections
-- 2.4.5.5, 2.4.5.7 and 2.4.5.8.
use Rattle.std.specs.Prelude.{◌≡◌, Bool, true, false, List, [], ◌∷◌, ℕ}
use Rattle.x25_frame.specs.Frame.{PlainFrame, info, rr, rnr, rej}
use Rattle.x25_link.specs.Station.{LinkSettings, LinkStation, is_up, is_busy}
use Rattle.x25_link.specs.Hearing.{LinkStep}
use Rattle.x25_link.specs.Link.{take_step, put_step, timer_step}
use Rattle.x25_link.specs.laws.NoteLaw.{IsQuiet}

-- whether RNR is the last of RR and RNR among these frames; with none of them, as before
abbrev pub said_last : Bool → List PlainFrame → Bool
said_last before [] = before
said_last before (rr command nr pf ∷ frames) = said_last false frames
said_last before (rnr command nr pf ∷ frames) = said_last true frames
said_last before (frame ∷ frames) = said_last before frames

-- an RR or a REJ is there, by which the other end hears that this one isn't busy
abbrev pub says_free : List PlainFrame → Bool
says_free [] = false
says_free (rr command nr pf ∷ frames) = true
says_free (rej command nr pf ∷ frames) = true
says_free (frame ∷ frames) = says_free frames

abbrev pub NoInfo : List PlainFrame → Type 0
NoInfo [] = Unit {0}
NoInfo (info ns nr p packet ∷ frames) = ⊥
NoInfo (frame ∷ frames) = NoInfo frames

-- `said_busy` before these frames and behind them, and whether the station is busy then, and its peer
pub record Says (before now busy peer_busy : Bool) (out : List PlainFrame) : Type 0 where
  pub said : now ≡ said_last before out
  pub free : says_free out ≡ true → busy ≡ false
  pub held : peer_busy ≡ true → NoInfo out

abbrev pub SaysWhetherBusy : LinkStation → LinkStep → Type 0
SaysWhetherBusy s step =
    Says s.said_busy step.side.near.said_busy (is_busy step.side.near) step.side.near.peer_busy step.side.out

abbrev pub TakeSaysBusy : Type 0
TakeSaysBusy = (c : LinkSettings) (octets : List ℕ) (s : LinkStation) → is_up s.phase ≡ true
    → IsQuiet (take_step c octets s) → SaysWhetherBusy s (take_step c octets s)

abbrev pub PutSaysBusy : Type 0
PutSaysBusy = (c : LinkSettings) (packet : List ℕ) (s : LinkStation) → SaysWhetherBusy s (put_step c packet s)

abbrev pub TimerSaysBusy : Type 0
TimerSaysBusy = (c : LinkSettings) (s : LinkStation) → is_up s.phase ≡ true → IsQuiet (timer_step c s)
    → SaysWhetherBusy s (timer_step c s)

-- the laws together
pub record BusyLaws : Type 0 where
  pub take : TakeSaysBusy
  pub put : PutSaysBusy
  pub timer : TimerSaysBusy

-- When a step of the link ends nothing that a DISC awaits: none is awaited, the link is up or comes up, or it stays as it is.
use Rattle.x25_station.proofs.Names.{◌≡◌, Bool, true, false, Option, None, refl, sym, ap, ◌∙◌, true≢false, LinkStep, LinkStation, is_up, Phase, Up, Closed, fresh}
use Rattle.x25_station.proofs.Names.{Closing, Ending, awaits_end, end_if, entries_ended, Settings, Station, Step, ends, follows, led_by}
use Rattle.x25_link.specs.declared.phase.Closing.TheVariants.{Unasked, Asked, Ended}

-- where none awaits its answer, no end is told
pub ends_none : (c : Settings) (s : Station) (k : LinkStep) → awaits_end s.link.phase s.link.closing ≡ false → ends c s k ≡ follows c s k
ends_none c s k none = ap (λ (b : Bool). led_by (entries_ended (end_if b k.side.near.closing)) (follows c s k)) none

up_awaits_none : (p : Phase) (closing : Closing) → is_up p ≡ true → awaits_end p closing ≡ false
up_awaits_none Up closing is = refl
up_awaits_none p closing is = absurd (true≢false (sym is))

-- of a link that stays as it is none is told
pub still_ends : (c : Settings) (s : Station) (k : LinkStep) → k.side.near ≡ s.link → ends c s k ≡ follows c s k
still_ends c s k is =
    ap (λ (x : LinkStation). led_by (entries_ended (end_if (awaits_end s.link.phase s.link.closing) x.closing)) (follows c s k)) is
    ∙ ap (λ (e : Option Ending). led_by (entries_ended e) (follows c s k)) (none s.link.phase s.link.closing)
  where
    none : (p : Phase) (closing : Closing) → end_if (awaits_end p closing) closing ≡ None
    none Closed Unasked = refl
    none Closed Asked = refl
    none Closed (Ended ending) = refl
    none p closing = refl

-- of a link that is up, or comes up, none is told
pub up_ends : (c : Settings) (s : Station) (k : LinkStep) → is_up s.link.phase ≡ true → ends c s k ≡ follows c s k
up_ends c s k up = ends_none c s k (up_awaits_none s.link.phase s.link.closing up)

pub fresh_ends : (c : Settings) (s : Station) (k : LinkStep) → k.side.near ≡ fresh → ends c s k ≡ follows c s k
fresh_ends c s k is =
    ap (λ (x : LinkStation). led_by (entries_ended (end_if (awaits_end s.link.phase s.link.closing) x.closing)) (follows c s k)) is
    ∙ ap (λ (e : Option Ending). led_by (entries_ended e) (follows c s k)) (none (awaits_end s.link.phase s.link.closing))
  where
    none : (b : Bool) → end_if b Unasked ≡ None
    none true = refl
    none false = refl

pub awaits_closed : (p : Phase) (closing : Closing) → awaits_end p closing ≡ true → p ≡ Closed
awaits_closed Closed closing is = refl
awaits_closed p closing is = absurd (true≢false (sym is))

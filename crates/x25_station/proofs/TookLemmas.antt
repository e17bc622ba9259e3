-- What the link's step and what the layer does behind it are together is what the definition says of octets that come.
use Rattle.x25_station.proofs.Names.{◌≡◌, ℕ, List, [], ◌++◌, map, Option, Bool, true, false, ◌&&◌, if◌then◌else◌, refl, ap, ap₂, sym, subst, ◌∙◌, PlainFrame}
use Rattle.x25_station.proofs.Names.{FitsLayer, is_full, Putting, LinkStep, take_step, abandon_step, LinkStation, is_up, ShownLink, FitsLink, FitsWhole, Notes}
use Rattle.x25_station.proofs.Names.{Settings, link_settings, layer_settings, manner_of, StationEntry, entries_noted, kept_of, Station, view_of, all_put, Step}
use Rattle.x25_station.proofs.Names.{layer_at, entries_heard, follows, abandons, receives, is_acknowledged, FitsParts, Manner, IsKept}
use Rattle.x25_station.proofs.Names.{awaits_end, end_if, entries_ended, ends, led_by}
use Rattle.x25_station.proofs.EndsLemmas.{awaits_closed, ends_none, up_ends}
use Rattle.x25_link.specs.laws.SetUp.{TakeCloses}
use Rattle.std.specs.Prelude.{nat_lt}
use Rattle.x25_frame.specs.Spelling.{spelling_of}
use Rattle.x25_link.specs.Hearing.{acknowledges}
use Rattle.x25_station.proofs.{AskLemmas.{taken_link}, DownLemmas.{downs, follows_down}}
use Rattle.x25_station.proofs.TimerLemmas.{follows_acked}
use Rattle.x25_layer.specs.declared.layer.Layer as layer_code

-- what the layer does behind this step, by what the step handed up and noted
abbrev pub put_behind : Settings → Bool → Station → LinkStep → Option (List ℕ) → Notes → Putting
put_behind c wide s k o notes = layer_at (view_of (link_settings c) s.turn k.side.near) (layer_settings c) wide s.layer o notes.down notes.up

-- ---- whether a count is at its most where the link is up, by what the two say of it

pub abandoned : (c : Settings) (s : Station) {up full : Bool} → up ≡ is_up s.link.phase → full ≡ is_full (layer_settings c) s.layer → (up && full) ≡ true
    → abandons c s ≡ true
abandoned c s up full is = sym (ap₂ (λ (a b : Bool). a && b) up full) ∙ is

-- the link isn't about to be left, and no DISC awaits its answer
abbrev pub IsOpen : Settings → Station → Type 0
IsOpen c s = (abandons c s ≡ false) × (awaits_end s.link.phase s.link.closing ≡ false)

pub is_open : (c : Settings) (s : Station) {up full closing : Bool} → up ≡ is_up s.link.phase → full ≡ is_full (layer_settings c) s.layer
    → (up && full) ≡ false → closing ≡ awaits_end s.link.phase s.link.closing → closing ≡ false → IsOpen c s
is_open c s up full is closing none = (sym (ap₂ (λ (a b : Bool). a && b) up full) ∙ is, sym closing ∙ none)

pub and_left : (a b : Bool) → (a && b) ≡ true → a ≡ true
and_left true b is = refl
and_left false b is = is

pub not_full : (up full : Bool) → up ≡ true → (up && full) ≡ false → full ≡ false
not_full up full is both = sym (ap (λ (a : Bool). a && full) is) ∙ both

pub takes_on : (c : Settings) (s : Station) (octets : List ℕ) → IsOpen c s → receives c s octets
    ≡ follows c s (take_step (link_settings c) octets s.link)
takes_on c s octets on =
    ap (λ (b : Bool). ends c s (if b then abandon_step (link_settings c) s.link else take_step (link_settings c) octets s.link)) on.0
    ∙ ends_none c s (take_step (link_settings c) octets s.link) on.1

pub gives_up : (c : Settings) (s : Station) (octets : List ℕ) → abandons c s ≡ true
    → (let k : LinkStep = abandon_step (link_settings c) s.link in receives c s octets ≡ downs s k.side k.notes.down)
gives_up c s octets full =
    ap (λ (b : Bool). ends c s (if b then abandon_step (link_settings c) s.link else take_step (link_settings c) octets s.link)) full
    ∙ up_ends c s (abandon_step (link_settings c) s.link) (and_left _ _ full)
    ∙ follows_down c s (abandon_step (link_settings c) s.link) refl refl

-- where DISC awaits its answer, the link alone hears
pub closes_on : TakeCloses → (c : Settings) (s : Station) (octets : List ℕ) → awaits_end s.link.phase s.link.closing ≡ true
    → (let k : LinkStep = take_step (link_settings c) octets s.link in
    receives c s octets ≡ led_by (entries_ended (end_if true k.side.near.closing)) (downs s k.side k.notes.down))
closes_on closes c s octets is =
    let k : LinkStep = take_step (link_settings c) octets s.link in
    let row = closes (link_settings c) octets s.link (awaits_closed s.link.phase s.link.closing is) _ refl in
    ap (λ (b : Bool). ends c s (if b && is_full (layer_settings c) s.layer then abandon_step (link_settings c) s.link else k))
    (ap is_up (awaits_closed s.link.phase s.link.closing is))
    ∙ ap (λ (b : Bool). led_by (entries_ended (end_if b k.side.near.closing)) (follows c s k)) is
    ∙ ap (λ (x : Step). led_by (entries_ended (end_if true k.side.near.closing)) x) (follows_down c s k row.packet row.up)

-- ---- the step, by an answer of the link

record IsBehind (c : Settings) (wide : Bool) (s : Station) (k : LinkStep) (o : Option (List ℕ)) (notes : Notes) (step : Step) : Type 0 where
  link : (all_put (link_settings c) (put_behind c wide s k o notes).put k.side).near ≡ step.near.link
  layer : (put_behind c wide s k o notes).layer ≡ step.near.layer
  turn : (put_behind c wide s k o notes).turn ≡ step.near.turn
  out : (all_put (link_settings c) (put_behind c wide s k o notes).put k.side).out ≡ step.out
  entries : entries_noted notes ++ entries_heard (layer_settings c) wide s.layer o notes.down notes.up ≡ step.entries

is_behind : (c : Settings) (wide : Bool) → wide ≡ c.wide → (s : Station) (k : LinkStep) (o : Option (List ℕ)) (notes : Notes) → o ≡ k.packet → notes ≡ k.notes
    → IsBehind c wide s k o notes (follows c s k)
is_behind c wide as_set s k o notes packet noted = subst (λ (b : Bool). IsBehind c b s k o notes (follows c s k)) (sym as_set) (
    subst (λ (x : Option (List ℕ)). IsBehind c c.wide s k x notes (follows c s k)) (sym packet)
    (subst (λ (n : Notes). IsBehind c c.wide s k k.packet n (follows c s k)) (sym noted) (record {
      link = refl;
      layer = refl;
      turn = refl;
      out = refl;
      entries = refl;
    })))

took : {manner : Manner} (c : Settings) → manner ≡ manner_of c → (s : Station) (octets : List ℕ) (o : Option (List ℕ)) (notes : Notes) → IsOpen c s
    → (let k : LinkStep = take_step (link_settings c) octets s.link in (o ≡ k.packet) × (notes ≡ k.notes))
    → IsBehind c manner.wide s (take_step (link_settings c) octets s.link) o notes (receives c s octets)
took {manner} c as_set s octets o notes on same =
    let k : LinkStep = take_step (link_settings c) octets s.link in
    subst (λ (step : Step). IsBehind c manner.wide s k o notes step) (sym (takes_on c s octets on))
    (is_behind c manner.wide (ap (λ (m : Manner). m.wide) as_set) s k o notes same.0 same.1)

pub took_fits : {manner : Manner} {turn : ℕ} (c : Settings) → manner ≡ manner_of c
    → (s : Station) (octets : List ℕ) (o : Option (List ℕ)) (notes : Notes) (m n : ShownLink) (z : layer_code.Layer) → IsOpen c s
    → (let k : LinkStep = take_step (link_settings c) octets s.link in (o ≡ k.packet) × (notes ≡ k.notes))
    → (let k : LinkStep = take_step (link_settings c) octets s.link in
    FitsWhole m (kept_of (link_settings c) (all_put (link_settings c) (put_behind c manner.wide s k o notes).put k.side)))
    → (let k : LinkStep = take_step (link_settings c) octets s.link in FitsLayer (layer_settings c) z (put_behind c manner.wide s k o notes).layer)
    → (let k : LinkStep = take_step (link_settings c) octets s.link in turn ≡ (put_behind c manner.wide s k o notes).turn) → n.station ≡ m.station → n.frames ≡ [] → IsKept (receives c s octets).near → FitsParts c manner n z turn (receives c s octets).near
took_fits c as_set s octets o notes m n z on same link layer turned station none kept =
    let b = took c as_set s octets o notes on same in
    record {
      link = subst (λ (x : LinkStation). FitsLink (link_settings c) n x) b.link (taken_link (link_settings c) m n _ station link.link);
      layer = subst (λ x. FitsLayer (layer_settings c) z x) b.layer layer;
      turned = turned ∙ b.turn;
      kept = kept;
      sent = none;
      same = as_set;
    }

pub took_sends : {manner : Manner} (c : Settings) → manner ≡ manner_of c
    → (s : Station) (octets : List ℕ) (o : Option (List ℕ)) (notes : Notes) (made : List (List ℕ)) → IsOpen c s
    → (let k : LinkStep = take_step (link_settings c) octets s.link in (o ≡ k.packet) × (notes ≡ k.notes))
    → (let k : LinkStep = take_step (link_settings c) octets s.link in made
    ≡ map (spelling_of c.role) (all_put (link_settings c) (put_behind c manner.wide s k o notes).put k.side).out)
    → made ≡ map (spelling_of c.role) (receives c s octets).out
took_sends c as_set s octets o notes made on same is = is
    ∙ ap (λ (x : List PlainFrame). map (spelling_of c.role) x) (took c as_set s octets o notes on same).out

pub took_enters : {manner : Manner} (c : Settings) → manner ≡ manner_of c
    → (s : Station) (octets : List ℕ) (o : Option (List ℕ)) (notes : Notes) (entries : List StationEntry) → IsOpen c s
    → (let k : LinkStep = take_step (link_settings c) octets s.link in (o ≡ k.packet) × (notes ≡ k.notes)) → entries ≡ entries_noted notes
    ++ entries_heard (layer_settings c) manner.wide s.layer o notes.down notes.up
    → entries ≡ (receives c s octets).entries
took_enters c as_set s octets o notes entries on same entered = entered ∙ (took c as_set s octets o notes on same).entries

-- ---- what is acknowledged

pub took_acknowledged : (c : Settings) (s : Station) (octets : List ℕ) → IsOpen c s → acknowledges s.link (take_step (link_settings c) octets s.link)
    ≡ is_acknowledged s.link (receives c s octets).near.link
took_acknowledged c s octets on = ap (λ (n : ℕ). nat_lt s.link.outgoing.acked n)
    (sym (ap (λ (x : Step). x.near.link.outgoing.acked) (takes_on c s octets on) ∙ follows_acked c s (take_step (link_settings c) octets s.link)))

pub closing_acknowledged : TakeCloses → (c : Settings) (s : Station) (octets : List ℕ) → awaits_end s.link.phase s.link.closing ≡ true
    → acknowledges s.link (take_step (link_settings c) octets s.link) ≡ is_acknowledged s.link (receives c s octets).near.link
closing_acknowledged closes c s octets is = ap (λ (n : ℕ). nat_lt s.link.outgoing.acked n)
    (sym (ap (λ (x : Step). x.near.link.outgoing.acked) (closes_on closes c s octets is)))

pub gave_up_acknowledged : (c : Settings) (s : Station) (octets : List ℕ) → abandons c s ≡ true → acknowledges s.link (abandon_step (link_settings c) s.link)
    ≡ is_acknowledged s.link (receives c s octets).near.link
gave_up_acknowledged c s octets full = ap (λ (n : ℕ). nat_lt s.link.outgoing.acked n)
    (sym (ap (λ (x : Step). x.near.link.outgoing.acked) (gives_up c s octets full)))

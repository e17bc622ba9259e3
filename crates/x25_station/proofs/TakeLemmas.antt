-- What holds of a link that has taken octets: where it came up or hands up it takes packets.
use Rattle.x25_station.proofs.Names.{◌≡◌, ℕ, ◌<◌, ◌≤◌, List, length, Option, Some, None, map, Bool, true, refl, ap, sym, subst, ◌∙◌, arith, length-map, Role}
use Rattle.x25_station.proofs.Names.{PlainFrame, take_step, waits, LinkSettings, LinkStation, is_up, fresh, ShownLink, FitsLink, waiting_of, limit_of, up_of}
use Rattle.x25_station.proofs.Names.{places_left, link_waits, TakeTells, TakeHandsUp, Settings, link_settings, CanPut, Station, FitsParts, AreMeant, Manner}
use Rattle.std.proofs.{Common.{IfSome}, Math.Logic.{∥∥₁_elim}, Props.{props}}
use Rattle.x25_frame.specs.Spelling.{spelling_of}
use Rattle.x25_layer.specs.declared.layer.Layer as layer_code

-- ---- the link takes packets

free_of : (c : LinkSettings) (l : ShownLink) (s : LinkStation) → FitsLink c l s → waiting_of l ≡ waits s.outgoing
free_of c l s fits = link_waits l (record { settings = c; station = s; kept = l.frames }) (record { link = fits; kept = refl })

can_put : (c : Settings) (l : ShownLink) (s : LinkStation) → FitsLink (link_settings c) l s → length l.frames ≤ 9 → is_up s.phase ≡ true
    → waits s.outgoing < 256 → CanPut l
can_put c l s fits few up low =
    let same = free_of (link_settings c) l s fits in
    record {
      up = ap is_up fits.near.phase ∙ up;
      free = omega (arith, same, low);
      longest = (let n : limit_of l ≡ 4099 = fits.near.longest in omega (arith, n));
      places = omega (arith, few);
    }

pub up_can_put : TakeTells → (c : Settings) (l : ShownLink) (octets : List ℕ) (s : LinkStation)
    → FitsLink (link_settings c) l (take_step (link_settings c) octets s).side.near → length l.frames ≤ 9 → (take_step (link_settings c) octets s).notes.up
    ≡ true → CanPut l
up_can_put tells c l octets s fits few up =
    let new : (take_step (link_settings c) octets s).side.near ≡ fresh = (tells (link_settings c) octets s).fresh_up up in
    can_put c l _ fits few (ap (λ (x : LinkStation). is_up x.phase) new) (subst (λ (x : LinkStation). waits x.outgoing < 256) (sym new) (omega arith))

pub handed_can_put : TakeTells → TakeHandsUp → (c : Settings) (l : ShownLink) (octets : List ℕ) (s : LinkStation) (p : List ℕ)
    → FitsLink (link_settings c) l (take_step (link_settings c) octets s).side.near → length l.frames ≤ 9
    → (take_step (link_settings c) octets s).packet ≡ Some p → CanPut l
handed_can_put tells hands c l octets s p fits few is =
    let h = hands (link_settings c) octets s in
    let low : waits (take_step (link_settings c) octets s).side.near.outgoing ≤ 254 = h.few_after p is in
    can_put c l _ fits few ((tells (link_settings c) octets s).stays (h.quiet p is) ∙ ap is_up (h.up p is)) (omega (arith, low))

-- ---- of any state that the station stands for

pub put_by_meaning : {manner : Manner} {turn : ℕ} (l m : ShownLink) (y : layer_code.Layer) → AreMeant manner l y turn
    → ((c : Settings) (s : Station) → FitsParts c manner l y turn s → CanPut m) → CanPut m
put_by_meaning l m y h f = record {
  up = ∥∥₁_elim h (hlevel props) (λ w. (f w.0 w.1 w.2).up);
  free = ∥∥₁_elim h (hlevel props) (λ w. (f w.0 w.1 w.2).free);
  longest = ∥∥₁_elim h (hlevel props) (λ w. (f w.0 w.1 w.2).longest);
  places = ∥∥₁_elim h (hlevel props) (λ w. (f w.0 w.1 w.2).places);
}

pub least_by_meaning : {manner : Manner} {turn : ℕ} (l : ShownLink) (y : layer_code.Layer) (a b : ℕ) → AreMeant manner l y turn
    → ((c : Settings) (s : Station) → FitsParts c manner l y turn s → a ≤ b) → a ≤ b
least_by_meaning l y a b h f = ∥∥₁_elim h (hlevel props) (λ w. f w.0 w.1 w.2)

pub up_by_meaning : {manner : Manner} {turn : ℕ} (l : ShownLink) (y : layer_code.Layer) (b : Bool) → AreMeant manner l y turn
    → ((c : Settings) (s : Station) → FitsParts c manner l y turn s → b ≡ true) → b ≡ true
up_by_meaning l y b h f = ∥∥₁_elim h (hlevel props) (λ w. f w.0 w.1 w.2)

pub handed_was_up : TakeHandsUp → (c : Settings) (l : ShownLink) (octets : List ℕ) (s : LinkStation) (p : List ℕ) → FitsLink (link_settings c) l s
    → (take_step (link_settings c) octets s).packet ≡ Some p → up_of l ≡ true
handed_was_up hands c l octets s p fits is = ap is_up fits.near.phase ∙ ap is_up ((hands (link_settings c) octets s).up p is)

-- ---- few frames are made, and a packet is handed up or not

pub few_made : (role : Role) (made : List (List ℕ)) (out : List PlainFrame) (n : ℕ) → made ≡ map (spelling_of role) out → length out ≤ n → length made ≤ n
few_made role made out n same few =
    let b : length (map (spelling_of role) out) ≡ length out = length-map out (spelling_of role) in
    let e : length made ≡ length (map (spelling_of role) out) = ap (λ (xs : List (List ℕ)). length xs) same in
    omega (arith, b, e, few)

pub if_some : {X : Type 0} (o : Option X) (P : X → Type 0) → ((x : X) → o ≡ Some x → P x) → IfSome o P
if_some None P f = tt
if_some (Some x) P f = f x refl

-- the link takes the longest packet
pub takes_longest : {manner : Manner} {turn : ℕ} (l : ShownLink) (y : layer_code.Layer) → AreMeant manner l y turn → 4099 ≤ limit_of l
takes_longest l y h = least_by_meaning l y 4099 (limit_of l) h (λ c s fits. let n : limit_of l ≡ 4099 = fits.link.near.longest in omega (arith, n))

-- between calls no frame is kept, so that there are places for those of any call
pub has_places : {manner : Manner} {turn : ℕ} (l : ShownLink) (y : layer_code.Layer) → AreMeant manner l y turn → 16 ≤ places_left l.frames
has_places l y h = least_by_meaning l y 16 (places_left l.frames) h (λ c s fits. let n : length l.frames ≡ 0 = ap length fits.sent in omega (arith, n))

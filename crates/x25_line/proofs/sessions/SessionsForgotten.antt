-- With the sessions forgotten, two stations over sessions are the two stations by themselves.
use Rattle.x25_line.proofs.Names.{◌≡◌, ◌≤◌, ◌<◌, ℕ, zero, suc, List, [], ◌∷◌, ◌++◌, length, map, remove, Bool, true, false, refl, sym, ap, ◌∙◌, subst, arith}
use Rattle.x25_line.proofs.Names.{append-nil, append_assoc, nat_le, option_to_list, ◌||◌, spelling_of, LinkSettings, LinkStation, LinkStep, take_step, put_step}
use Rattle.x25_line.proofs.Names.{put_refusal, StationEnd, Stations, Act, Put, Deliver, Lose, Damage, LinkEvent, Near, Far, is_visible, start, Entry}
use Rattle.x25_line.proofs.Names.{SessionEnd, Meeting, Sessions, extended, begun_by, after_step, unless, delivered, with_octets, acts, swapped, happens}
use Rattle.x25_line.proofs.{Choices.{unless_both, if_both, own_both}, Names.{from_set_up, run, replaced, octets_of}}
use Rattle.x25_line.proofs.sessions.{SessionHeld.{extended_same, extended_other}, SessionLines.{octets_append, octets_sent}, SessionSteps.{end_after}}
use Rattle.x25_line.specs.laws.SessionClaims.{all_of, IsEndOf, SessionsAreStations, SetUpIsTheStart}
use Rattle.x25_line.specs.laws.Stations as one

-- ---- lists of all sessions

all_below : (f : ℕ → List (List ℕ)) (n : ℕ) (more : List (List ℕ)) (k : ℕ) → k < n → all_of (extended f n more) k ≡ all_of f k
all_below f n more zero less = extended_other f n zero more (λ is. omega (arith, is, less))
all_below f n more (suc k) less =
    ap (λ x. x ++ extended f n more (suc k)) (all_below f n more k (omega (arith, less)))
    ∙ ap (λ x. all_of f k ++ x) (extended_other f n (suc k) more (λ is. omega (arith, is, less)))

all_extended : (f : ℕ → List (List ℕ)) (n : ℕ) (more : List (List ℕ)) → all_of (extended f n more) n ≡ all_of f n ++ more
all_extended f zero more = extended_same f zero more
all_extended f (suc n) more =
    ap (λ x. x ++ extended f (suc n) more (suc n)) (all_below f (suc n) more n (omega arith))
    ∙ ap (λ x. all_of f n ++ x) (extended_same f (suc n) more)
    ∙ sym (append_assoc (all_of f n) (f (suc n)) more)

all_begun : (f : ℕ → List (List ℕ)) (n : ℕ) (b : Bool) → ((m : ℕ) → n < m → f m ≡ []) → all_of f (begun_by b n) ≡ all_of f n
all_begun f n true later = ap (λ x. all_of f n ++ x) (later (suc n) (omega arith)) ∙ append-nil (all_of f n)
all_begun f n false later = refl

begun_up : (n : ℕ) (b : Bool) → n ≤ begun_by b n
begun_up n true = omega arith
begun_up n false = omega arith

-- ---- ends, and what goes on with each of their steps

abbrev stepped_end : SessionEnd → List (List ℕ) → LinkStep → SessionEnd
stepped_end e down step = end_after e (begun_by step.notes.up e.begun) down step

abbrev stepped_station : StationEnd → List (List ℕ) → LinkStep → StationEnd
stepped_station v down step = record {
  station = step.side.near;
  down = v.down ++ down;
  up = v.up ++ option_to_list step.packet;
  reasons = v.reasons ++ option_to_list step.notes.down;
  came_up = v.came_up || step.notes.up;
}

-- of a station over sessions, and of it by itself
pub record Lasts (E : SessionEnd → StationEnd → Type 0) : Type 0 where
  pub station : (e : SessionEnd) (v : StationEnd) → E e v → v.station ≡ e.station
  pub steps : (e : SessionEnd) (v : StationEnd) → E e v → (down : List (List ℕ)) (step : LinkStep) → E (stepped_end e down step) (stepped_station v down step)

-- the octets on the lines are the same, and where `S` holds, so are all frames ever sent
pub record Alike (E : SessionEnd → StationEnd → Type 0) (S : Type 0) (w : Sessions) (v : Stations) : Type 0 where
  pub near : E w.near v.near
  pub far : E w.far v.far
  pub out : v.out ≡ octets_of w.out
  pub back : v.back ≡ octets_of w.back
  pub sent : S → v.sent ≡ w.sent

-- ---- the line

pub octets_removed : (es : List Entry) (i : ℕ) → remove (octets_of es) i ≡ octets_of (remove es i)
octets_removed [] zero = refl
octets_removed [] (suc i) = refl
octets_removed (e ∷ es) zero = refl
octets_removed (e ∷ es) (suc i) = ap (λ os. e.octets ∷ os) (octets_removed es i)

pub octets_replaced : (es : List Entry) (i : ℕ) (octets : List ℕ) → replaced (octets_of es) i (λ _. octets) ≡ octets_of (replaced es i (with_octets octets))
octets_replaced [] i octets = refl
octets_replaced (e ∷ es) zero octets = refl
octets_replaced (e ∷ es) (suc i) octets = ap (λ os. e.octets ∷ os) (octets_replaced es i octets)

module _ {E : SessionEnd → StationEnd → Type 0} (S : Type 0) (lasts : Lasts E) where
  abbrev A : Sessions → Stations → Type 0
  A w v = Alike E S w v

  step_alike : (c : LinkSettings) {w : Sessions} {v : Stations} → A w v → (es : List Entry) (met : List Meeting) (down : List (List ℕ)) (step : LinkStep)
      → A (after_step c w es met down step) (one.after_step c v (octets_of es) down step)
  step_alike c {w} {v} h es met down step = record {
    near = lasts.steps w.near v.near h.near down step;
    far = h.far;
    out = ap (λ os. os ++ map (spelling_of c.role) step.side.out) h.out
        ∙ ap (λ os. octets_of w.out ++ os) (sym (octets_sent (begun_by step.notes.up w.near.begun) c.role step.side.out))
        ∙ sym (octets_append w.out _);
    back = refl;
    sent = λ s. ap (λ fs. fs ++ step.side.out) (h.sent s);
  }

  -- a step that takes nothing off the line
  own_alike : (c : LinkSettings) {w : Sessions} {v : Stations} → A w v → (down : List (List ℕ)) (step : LinkStep)
      → A (after_step c w w.back w.met down step) (one.after_step c v v.back down step)
  own_alike c {w} h down step = rw h.back (step_alike c h w.back w.met down step)

  put_alike : (c : LinkSettings) (packet : List ℕ) {w : Sessions} {v : Stations} (s t : LinkStation) → t ≡ s → A w v
      → A (unless (put_refusal s) w (after_step c w w.back w.met (packet ∷ []) (put_step c packet s)))
      (unless (put_refusal t) v (one.after_step c v v.back (packet ∷ []) (put_step c packet t)))
  put_alike c packet s t same h = rw same (unless_both A (put_refusal s) h (own_alike c h (packet ∷ []) (put_step c packet s)))

  left_alike : {w : Sessions} {v : Stations} → A w v → (es : List Entry) (os : List (List ℕ)) → os ≡ octets_of es
      → A (record w { back = es }) (record v { back = os })
  left_alike h es os same = record { near = h.near; far = h.far; out = h.out; back = same; sent = h.sent }

  deliver_alike : (c : LinkSettings) {w : Sessions} {v : Stations} → A w v → (es : List Entry) → A (delivered c es w) (one.delivered c (octets_of es) v)
  deliver_alike c h [] = h
  deliver_alike c {w} {v} h (e ∷ es) = rw (lasts.station w.near v.near h.near) (step_alike c h es _ [] (take_step c e.octets w.near.station))

  acts_alike : (c : LinkSettings) (a : Act) {w : Sessions} {v : Stations} → A w v → A (acts c a w) (one.acts c a v)
  acts_alike c (Put packet) {w} {v} h = if_both A (nat_le (length packet) c.longest) h
      (put_alike c packet w.near.station v.near.station (lasts.station w.near v.near h.near) h)
  acts_alike c Deliver {w} {v} h = subst (λ os. A (delivered c w.back w) (one.delivered c os v)) (sym h.back) (deliver_alike c h w.back)
  acts_alike c (Lose i) {w} {v} h = left_alike h (remove w.back i) (remove v.back i) (ap (λ os. remove os i) h.back ∙ octets_removed w.back i)
  acts_alike c (Damage i octets) {w} {v} h =
      if_both A (is_visible octets) h
      (left_alike h (replaced w.back i (with_octets octets)) (replaced v.back i (λ _. octets))
      (ap (λ os. replaced os i (λ _. octets)) h.back ∙ octets_replaced w.back i octets))
  acts_alike c act {w} {v} h =
      subst (λ s. A (acts c act w) (one.own_act c s v (one.after_step c v v.back []) act)) (sym (lasts.station w.near v.near h.near))
      (own_both A c w.near.station w v (after_step c w w.back w.met []) (one.after_step c v v.back []) h (own_alike c h []) act)

-- ---- runs

-- seen from the other end
pub turned_alike : {E : SessionEnd → StationEnd → Type 0} {S : Type 0} {w : Sessions} {v : Stations} → Alike E S w v
    → Alike E S (swapped w) (one.stations_swapped v)
turned_alike h = record { near = h.far; far = h.near; out = h.back; back = h.out; sent = h.sent }

module _ {E : SessionEnd → StationEnd → Type 0} {S : Type 0} (lasts : Lasts E) where
  -- an event happens alike with sessions and without
  pub happens_alike : (c d : LinkSettings) (e : LinkEvent) {w : Sessions} {v : Stations} → Alike E S w v → Alike E S (happens c d e w) (one.happens c d e v)
  happens_alike c d (Near act) h = acts_alike S lasts c act h
  happens_alike c d (Far act) h = turned_alike (acts_alike S lasts d act (turned_alike h))

  -- so does a run
  pub runs_alike : (c d : LinkSettings) (es : List LinkEvent) {w : Sessions} {v : Stations} → Alike E S w v → Alike E S (run c d es w) (one.run c d es v)
  runs_alike c d [] h = h
  runs_alike c d (e ∷ es) h = runs_alike c d es (happens_alike c d e h)

-- ---- the lists of all sessions

ends_last : Lasts IsEndOf
ends_last = record { station = λ e v h. h.station; steps = steps }
  where
    steps : (e : SessionEnd) (v : StationEnd) → IsEndOf e v → (down : List (List ℕ)) (step : LinkStep)
        → IsEndOf (stepped_end e down step) (stepped_station v down step)
    steps e v h down step =
        let b = step.notes.up in
        let n = begun_by b e.begun in
        let high = begun_up e.begun b in
        record {
          station = refl;
          down = ap (λ x. x ++ down) (h.down ∙ sym (all_begun e.down e.begun b h.later_down)) ∙ sym (all_extended e.down n down);
          up = ap (λ x. x ++ option_to_list step.packet) (h.up ∙ sym (all_begun e.up e.begun b h.later_up))
              ∙ sym (all_extended e.up n (option_to_list step.packet));
          later_down = λ m less. extended_other e.down n m down (λ is. omega (arith, is, less)) ∙ h.later_down m (omega (arith, high, less));
          later_up = λ m less. extended_other e.up n m (option_to_list step.packet) (λ is. omega (arith, is, less)) ∙ h.later_up m (omega (arith, high, less));
        }

pub sessions_are_links : SessionsAreStations
sessions_are_links c d es w v h =
    let k = runs_alike {S = Unit {0}} ends_last c d es (record { near = h.near; far = h.far; out = h.out; back = h.back; sent = λ _. h.sent }) in
    record { near = k.near; far = k.far; out = k.out; back = k.back; sent = k.sent tt }

pub set_up_is_the_start : SetUpIsTheStart
set_up_is_the_start =
    let fresh : IsEndOf from_set_up.near start.near = record { station = refl; down = refl; up = refl; later_down = λ n less. refl; later_up = λ n less. refl }
    in
    record { near = fresh; far = fresh; out = refl; back = refl; sent = refl }

-- What a pull behind a step leaves, and what it sends.
use Rattle.x25_station.proofs.Names.{true, false, ◌≡◌, List, [], ◌∷◌, ◌++◌, map, ◌==◌, Result, Ok, Err, OnErr, ℕ, refl, ap, sym, subst, ◌∙◌, IsErrOf, fun_ext}
use Rattle.x25_station.proofs.Names.{append-nil, append_assoc, PullsAll, layer_outcome, FitsLayer, LayerError, LinkView, Answered, Went, calls, alone, put_step}
use Rattle.x25_station.proofs.Names.{ShownLink, LinkState, FitsWhole, waits_of, after_put_to, up_at, PlainPacket, Settings, link_settings, layer_settings}
use Rattle.x25_station.proofs.Names.{manner_of, StationEntry, of_layer, pulled_of, kept_of, Station, all_put, view_of, waiting_after, Step, Outcome, Did}
use Rattle.x25_station.proofs.Names.{Refused, did, requests, entries_of_outcome, FitsParts, LeavesParts, RefusesOnly, after_all, LayerGives, LinkGives, Manner}
use Rattle.std.specs.Prelude.{◌≢◌}
use Rattle.x25_frame.specs.Spelling.{spelling_of}
use Rattle.x25_layer.specs.laws.Rounds.{Refuses as LayerRefuses}
use Rattle.x25_station.proofs.{AskLemmas.{Layers, Links, Turns, taken_link, answered_by, goes_did, refused_did, calls_named}, LinkLemmas.{put_by_put, same_view}}
use Rattle.x25_station.{proofs.Names.{StationError, KeptBy}, proofs.ResultLemmas.{ok_err}, specs.Pulling.{pulled}, specs.code.FitsStation.{Refuses}}
use Rattle.x25_packet.specs.Spelling as packet
use Rattle.x25_station.specs.code.OverLink.{TurnGives}
use Rattle.x25_station.specs.code.OverLink as over
use Rattle.x25_layer.specs.declared.layer.Layer as layer_code
use Rattle.x25_layer.specs.declared.error.LayerError.TheVariants as layer_error
use Rattle.x25_station.specs.declared.error.StationError.TheVariants as error

-- ---- the link, which has frames of before

abbrev behind : List (List ℕ) → LinkState → LinkState
behind before x = record x { kept = before ++ x.kept }

puts_behind : (before : List (List ℕ)) (x : LinkState) (packets : List PlainPacket) → after_all (behind before x) packets ≡ behind before (after_all x packets)
puts_behind before x [] = refl
puts_behind before x (p ∷ packets) =
    let step = put_step x.settings (packet.spelling_of p) x.station in
    let next : LinkState = after_put_to x (packet.spelling_of p) in
    ap (λ (kept : List (List ℕ)). after_all (record next { kept = kept }) packets)
    (append_assoc before x.kept (map (spelling_of x.settings.role) step.side.out))
    ∙ puts_behind before next packets

abbrev seen_at : ℕ → LinkState → LinkView
seen_at turn x = over.seen_at turn x

seen_behind : (turn : ℕ) (before : List (List ℕ)) (x : LinkState) → seen_at turn (behind before x) ≡ seen_at turn x
seen_behind turn before x = ap (λ (f : List PlainPacket → ℕ). record { is_up = up_at x; waits = f; turn = turn })
    (fun_ext (λ packets. ap waits_of (puts_behind before x packets)))

-- ---- what was pulled

fits_of : {manner : Manner} (c : Settings) (n : ShownLink) (z : layer_code.Layer) (turn : ℕ) (s : Station) (o : Outcome)
    → LeavesParts {T = Unit} c manner n z turn (Ok tt) o → Refuses {T = Unit} (Ok tt) o → FitsParts c manner n z turn (pulled_of s o).near
fits_of c n z turn s (Did step) fits none = fits
fits_of c n z turn s (Refused e) fits none = absurd none

abbrev start : Settings → Station → LinkState
start c s = kept_of (link_settings c) (alone s.link)

-- behind the frames that were there stand those of the packets
after_pull : (c : Settings) (before : List (List ℕ)) (m : ShownLink) (packets : List PlainPacket) (s : Station)
    → FitsWhole m (after_all (behind before (start c s)) packets)
    → FitsWhole m (behind before (kept_of (link_settings c) (all_put (link_settings c) packets (alone s.link))))
after_pull c before m packets s fits = subst (λ (x : LinkState). FitsWhole m x)
    (puts_behind before (start c s) packets ∙ ap (behind before) (put_by_put (link_settings c) packets (alone s.link))) fits

made_did : {T : Type 0} (u : T) (c : Settings) (before : List (List ℕ)) (s : Station) (m : ShownLink) (entries : List StationEntry) (a : Answered)
    → LinkGives m (behind before (start c s)) (Ok u) a → m.frames ≡ before ++ map (spelling_of c.role) (pulled_of s (did c (alone s.link) entries a)).out
made_did u c before s m entries (Went p) link = (after_pull c before m p.put s link).kept
made_did u c before s m entries (LayerRefuses e) link = absurd (ok_err u e link)

leaves_did : {T : Type 0} {manner : Manner} (u : T) (c : Settings) → manner ≡ manner_of c
    → (before : List (List ℕ)) (s : Station) (m n : ShownLink) (z : layer_code.Layer) (turn : ℕ) (entries : List StationEntry) (a : Answered)
    → LayerGives (layer_settings c) z (Ok u) a
    → LinkGives m (behind before (start c s)) (Ok u) a → TurnGives turn (Ok u) a → n.station ≡ m.station → n.frames ≡ [] → KeptBy (did c (alone s.link) entries a)
    → LeavesParts {T = Unit} c manner n z turn (Ok tt) (did c (alone s.link) entries a)
leaves_did u c as_set before s m n z turn entries (Went p) layer link turns same none kept = record {
  link = taken_link (link_settings c) m n _ same (after_pull c before m p.put s link).link;
  layer = layer;
  turned = turns;
  kept = kept;
  sent = none;
  same = as_set;
}
leaves_did u c as_set before s m n z turn entries (LayerRefuses e) layer link turns same none kept = absurd (ok_err u e layer)

-- ---- a refusal is the definition's

memory_is : (e : LayerError) → of_layer e ≡ error.NoMemory → e ≡ layer_error.NoMemory
memory_is layer_error.NoMemory is = refl
memory_is e is = absurd (cc)

abbrev none_pulled : Station → Step
none_pulled s = record { near = s; out = []; entries = [] }

-- where it was no want of memory, nothing is done
none_of : (s : Station) (e : LayerError) (found : StationError) (o : Outcome) → found ≡ of_layer e → e ≢ layer_error.NoMemory
    → (let r : Result Unit StationError = Err found in Refuses r o) → pulled_of s o ≡ none_pulled s
none_of s e found (Did step) is other exactly = absurd (other (memory_is e (sym is ∙ exactly)))
none_of s e found (Refused x) is other exactly = refl

-- nothing that is pulled asks for memory
pub no_lack : (e : LayerError) → ((let x : Result Unit LayerError = Err e in IsErrOf x layer_error.NoMemory) → false ≡ true) → e ≢ layer_error.NoMemory
no_lack e missing is = false_true (missing (ap (λ (x : LayerError). let r : Result Unit LayerError = Err x in r) is))
  where
    false_true : false ≡ true → ⊥
    false_true h = cc

-- The link l is given frames, and is g then; the layer pulls, and leaves m; and the frames are taken, which leaves n.
module _ (c : Settings) (l g : ShownLink) (y : layer_code.Layer) (s : Station) (manner : Manner) {turn : ℕ} (fits : FitsParts c manner l y turn s)
    (same : g.station ≡ l.station) where
  abbrev before : List (List ℕ)
  before = g.frames

  abbrev answer : Answered
  answer = answered_by c s PullsAll

  abbrev entries : List StationEntry
  entries = entries_of_outcome (layer_settings c) s.layer PullsAll
      (layer_outcome (layer_settings c) (waiting_after (link_settings c) s.link [] == 256) s.layer PullsAll)

  given : FitsWhole g (behind before (start c s))
  given = record { link = taken_link (link_settings c) l g s.link same fits.link; kept = sym (append-nil before) }

  seen : seen_at s.turn (behind before (start c s)) ≡ view_of (link_settings c) s.turn s.link
  seen = seen_behind s.turn before (start c s) ∙ same_view (link_settings c) s.turn (alone s.link)

  layer_gives : {T : Type 0} (result : Result T LayerError) (z : layer_code.Layer) → Layers g y turn z result PullsAll
      → LayerGives (layer_settings c) z result answer
  layer_gives result z layers = subst (λ (view : LinkView). LayerGives (layer_settings c) z result (calls view (layer_settings c) s.layer PullsAll)) seen
      (subst (λ (at : ℕ). Layers g y at z result PullsAll) fits.turned layers (layer_settings c) s.layer (behind before (start c s)) fits.layer given)

  link_gives : {T : Type 0} (result : Result T LayerError) (m : ShownLink) → Links g m y turn result PullsAll → LinkGives m (behind before (start c s)) result answer
  link_gives result m links = subst (λ (view : LinkView). LinkGives m (behind before (start c s)) result (calls view (layer_settings c) s.layer PullsAll)) seen
      (subst (λ (at : ℕ). Links g m y at result PullsAll) fits.turned links (layer_settings c) s.layer (behind before (start c s)) fits.layer given)

  turn_gives : {T : Type 0} (result : Result T LayerError) (turn₂ : ℕ) → Turns g y turn turn₂ result PullsAll → TurnGives turn₂ result answer
  turn_gives result turn₂ turns = subst (λ (view : LinkView). TurnGives turn₂ result (calls view (layer_settings c) s.layer PullsAll)) seen
      (subst (λ (at : ℕ). Turns g y at turn₂ result PullsAll) fits.turned turns (layer_settings c) s.layer (behind before (start c s)) fits.layer given)

  pulled_made : {T : Type 0} (u : T) (m : ShownLink) → Links g m y turn (Ok u) PullsAll → m.frames ≡ before ++ map (spelling_of c.role) (pulled c s).out
  pulled_made u m links = made_did u c before s m entries answer (link_gives (Ok u) m links)

  pulled_fits : {T : Type 0} (u : T) (m n : ShownLink) (z : layer_code.Layer) (turn₂ : ℕ) → Layers g y turn z (Ok u) PullsAll
      → Links g m y turn (Ok u) PullsAll → Turns g y turn turn₂ (Ok u) PullsAll → n.station
      ≡ m.station → n.frames ≡ [] → KeptBy (requests c s PullsAll)
      → FitsParts c manner n z turn₂ (pulled c s).near
  pulled_fits u m n z turn₂ layers links turns same none kept =
      let layer = layer_gives (Ok u) z layers in
      fits_of c n z turn₂ s (requests c s PullsAll)
      (leaves_did u c fits.same before s m n z turn₂ entries answer layer (link_gives (Ok u) m links) (turn_gives (Ok u) turn₂ turns) same none kept)
      (goes_did u c s.link z entries answer layer)

  -- ---- a refusal: nothing is done

  still_made : (m : ShownLink) → ((x : LinkState) → FitsWhole g x → FitsWhole m x) → m.frames ≡ before
  still_made m stays = (stays (behind before (start c s)) given).kept ∙ append-nil before

  still_fits : (m n : ShownLink) (z : layer_code.Layer) → FitsLayer (layer_settings c) z s.layer → ((x : LinkState) → FitsWhole g x → FitsWhole m x)
      → n.station ≡ m.station → n.frames ≡ [] → FitsParts c manner n z turn s
  still_fits m n z layer stays same none = record {
    link = taken_link (link_settings c) m n s.link same (stays (behind before (start c s)) given).link;
    layer = layer;
    turned = fits.turned;
    kept = fits.kept;
    sent = none;
    same = fits.same;
  }

  nothing_done : (e : LayerError) (z : layer_code.Layer) → e ≢ layer_error.NoMemory → (let x : Result Unit LayerError = Err e in Layers g y turn z x PullsAll)
      → pulled c s ≡ none_pulled s
  nothing_done e z named layers =
      let x : Result Unit LayerError = Err e in
      none_of s e (of_layer e) (requests c s PullsAll) refl named
      (refused_did Unit Unit e (of_layer e) c s.link z entries answer (calls_named (view_of (link_settings c) s.turn s.link) (layer_settings c) s.layer PullsAll) refl
      (layer_gives x z layers))

  pub pulls_fit : (result : Result Unit LayerError) (m n : ShownLink) (z : layer_code.Layer) (turn₂ : ℕ) → Layers g y turn z result PullsAll
      → Links g m y turn result PullsAll → Turns g y turn turn₂ result PullsAll
      → (IsErrOf result layer_error.NoMemory → false ≡ true)
      → OnErr result (FitsLayer (layer_settings c) z s.layer) → ((x : LinkState) → FitsWhole g x → OnErr result (FitsWhole m x)) → OnErr result (turn₂ ≡ turn) → n.station ≡ m.station
      → n.frames ≡ [] → KeptBy (requests c s PullsAll)
      → FitsParts c manner n z turn₂ (pulled c s).near
  pulls_fit (Ok u) m n z turn₂ layers links turns missing layer stays turn_stays same none kept =
      pulled_fits u m n z turn₂ layers links turns same none kept
  pulls_fit (Err e) m n z turn₂ layers links turns missing layer stays turn_stays same none kept =
      subst (λ (step : Step). FitsParts c manner n z turn₂ step.near) (sym (nothing_done e z (no_lack e missing) layers))
      (subst (λ (at : ℕ). FitsParts c manner n z at s) (sym turn_stays) (still_fits m n z layer stays same none))

  pub pulls_made : (result : Result Unit LayerError) (m : ShownLink) (z : layer_code.Layer) → Layers g y turn z result PullsAll → Links g m y turn result PullsAll
      → (IsErrOf result layer_error.NoMemory → false ≡ true)
      → ((x : LinkState) → FitsWhole g x → OnErr result (FitsWhole m x)) → m.frames ≡ before ++ map (spelling_of c.role) (pulled c s).out
  pulls_made (Ok u) m z layers links missing stays = pulled_made u m links
  pulls_made (Err e) m z layers links missing stays =
      still_made m stays ∙ sym (append-nil before)
      ∙ ap (λ (step : Step). before ++ map (spelling_of c.role) step.out) (sym (nothing_done e z (no_lack e missing) layers))

-- ---- a pull that is asked for

pub goes_on : (o : Outcome) → Refuses {T = Unit} (Ok tt) o → RefusesOnly {T = Unit} (Ok tt) o
goes_on (Did step) goes = refl
goes_on (Refused e) goes = absurd goes

pub never_lacks : (found : StationError) (e : LayerError) (o : Outcome) → found ≡ of_layer e
    → ((let x : Result Unit LayerError = Err e in IsErrOf x layer_error.NoMemory) → false ≡ true)
    → (let r : Result Unit StationError = Err found in Refuses r o → RefusesOnly r o)
never_lacks found e (Did step) is missing exactly = absurd (no_lack e missing (memory_is e (sym is ∙ exactly)))
never_lacks found e (Refused x) is missing exactly = ap (λ y. Err y) exactly

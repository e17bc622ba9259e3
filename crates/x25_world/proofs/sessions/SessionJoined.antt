-- A world of two stations over set-up and re-set-up, as one of the ends sees it: a run of two links with their sessions, and moves of the
-- layers in each session. The sessions that meet are two layers whose packets come in order.
use Rattle.x25_world.proofs.Names.{◌≡◌, ℕ, ◌≤◌, ◌<◌, ◌⊎◌, inl, inr, List, [], ◌∷◌, map, true, false, Option, Some, None, refl, sym, subst, Role, is_up, other}
use Rattle.x25_world.proofs.Names.{SessionEnd, Meeting, Sessions, Each, SomeMet, octets_of, AreNoFaults, apart_start, AreInOrder, Cfg, StationEntry}
use Rattle.x25_world.proofs.Names.{layer_entries, layer_notices, Station, IsKept, World, Act, mirrored, entries_at, none_begun, after_entries, session_from}
use Rattle.x25_line.specs.laws.Sessions.{turned}
use Rattle.x25_world.proofs.{Growing.{all_read, as_read, AllAreOctets, AreOnTap}, Names.{meets, Gave, came_in}}
use Rattle.x25_world.proofs.sessions.{SessionBeside.{brought, AreTold, MoreIs, none_more}, SessionCounts.{IsCounted}}
use Rattle.x25_world.proofs.sessions.SessionReaches.{SessionsReach, Asked, twice_other, reach_swapped, asks_nothing}
use Rattle.x25_world.proofs.sessions.SessionTrace.{Done, own_in, own, pair_at, pair_turned, TakeNothing, BringOctets}
use Rattle.x25_line.specs.laws.Sessions as links
use Rattle.x25_layer.specs.laws.TwoLayers as layer

-- ---- an end

-- what is of the layer in some of the entries is all
pub record HaveAll (some all : List StationEntry) : Type 0 where
  pub entries : layer_entries some ≡ layer_entries all
  pub told : layer_notices some ≡ layer_notices all

-- the layer's end in a session, the octets that its link was handed down and handed up there, and the entries
pub record IsSession (cfg : Cfg) (e : layer.End) (handed lifted : List (List ℕ)) (es : List StationEntry) : Type 0 where
  pub down : all_read cfg handed ≡ as_read e.given
  pub up : all_read cfg lifted ≡ as_read e.taken
  pub entries : e.entries ≡ layer_entries es
  pub told : e.told ≡ layer_notices es
  pub beside : AreTold (came_in es) (brought cfg lifted)

-- a session that isn't begun has nothing
pub record HasNothing (end : Role) (n : ℕ) (trace : List Done) (es : List StationEntry) : Type 0 where
  pub moves : own_in end n trace ≡ []
  pub entries : session_from n none_begun es ≡ []

-- the layer in the session that stands
pub record IsLayer (e : layer.End) (s : Station) : Type 0 where
  pub layer : e.layer ≡ s.layer
  pub out : e.is_out ≡ false

-- A station, its link among two links with their sessions, the moves of its layer in each of these, and its transcript. Session 0 is
-- that before the first.
pub record IsEnd (cfg : Cfg) (end : Role) (s : Station) (k : SessionEnd) (trace : List Done) (es : List StationEntry) : Type 0 where
  pub link : k.station ≡ s.link
  pub kept : IsKept s
  pub progress : after_entries none_begun es ≡ record { begun = k.begun; stands = is_up s.link.phase }
  pub first : is_up s.link.phase ≡ true → 1 ≤ k.begun
  pub before : (k.down 0 ≡ []) × (k.up 0 ≡ [])
  pub sessions : (n : ℕ) → 1 ≤ n → n ≤ k.begun → IsSession cfg (own cfg end n trace) (k.down n) (k.up n) (session_from n none_begun es)
  pub octets : (n : ℕ) → AllAreOctets (k.down n)
  -- what is told as confirmed its moves confirm
  pub confirmed : (n : ℕ) → IsCounted cfg end n trace (session_from n none_begun es)
  pub later : (n : ℕ) → k.begun < n → HasNothing end n trace es
  pub now : is_up s.link.phase ≡ true → IsLayer (own cfg end k.begun trace) s
  -- where nothing was handed up, the layer took nothing
  pub alone : (n : ℕ) → k.up n ≡ [] → TakeNothing (own_in end n trace)
  pub no_fault : AreNoFaults (layer_notices es)
  -- where no session followed the first
  pub first_has_all : k.begun ≤ 1 → HaveAll (session_from 1 none_begun es) es

-- ---- who meets whom

-- the two sessions meet
abbrev pub HasMet : ℕ → ℕ → List Meeting → Type 0
HasMet n m met = SomeMet (λ p. (p.near ≡ n) × (p.far ≡ m)) met

-- the session met this one, by its transcript and by the links
pub record Meets (Met : ℕ → ℕ → Type 0) (n : ℕ) (met : Option ℕ) : Type 0 where
  pub session : ℕ
  pub told : met ≡ Some session
  pub has_met : Met n session
  pub begun : (1 ≤ n) × (1 ≤ session)

-- where a session meets none by its transcript, nothing was handed up in it
abbrev pub Hears : (ℕ → ℕ → Type 0) → ℕ → List (List ℕ) → Option ℕ → Type 0
Hears Met n up met = ((up ≡ []) × (met ≡ None)) ⊎ Meets Met n met

-- the moves of two sessions are in order
abbrev pub PairIsInOrder : Cfg → Role → List Done → ℕ → ℕ → Type 0
PairIsInOrder cfg end trace n m = AreInOrder cfg.long_data cfg.channels (pair_at end n m trace) (apart_start cfg.long_data cfg.channels)

-- so are those of all that met
abbrev pub PairsAreInOrder : Cfg → Role → List Done → List Meeting → Type 0
PairsAreInOrder cfg end trace met = Each (λ p. PairIsInOrder cfg end trace p.near p.far) met

pub record SessionsJoined (cfg : Cfg) (end : Role) (w : World) : Type 0 where
  pub links : Sessions
  pub trace : List Done
  pub reach : SessionsReach cfg end links
  pub near : IsEnd cfg end w.near links.near trace (entries_at end w.transcript)
  pub far : IsEnd cfg (other end) w.far links.far trace (entries_at (other end) w.transcript)
  pub out : octets_of links.out ≡ w.out
  pub back : octets_of links.back ≡ w.back
  pub tap : AreOnTap w.tap links.sent
  pub octets : BringOctets cfg.wide trace
  pub pairs : PairsAreInOrder cfg end trace links.met
  pub near_hears : (n : ℕ) → Hears (λ (n m : ℕ). HasMet n m links.met) n (links.near.up n) (meets end n w.transcript)
  pub far_hears : (n : ℕ) → Hears (λ (n m : ℕ). HasMet m n links.met) n (links.far.up n) (meets (other end) n w.transcript)

-- ---- a step of the near end

-- By this act it leads here from these links, as it asks of its link, and the near end is handed down more in its sessions, with what its user gave.
pub record Goes (cfg : Cfg) (end : Role) (w : World) (act : Act) (v : Sessions) (gave : ℕ → List Gave) (u : World) : Type 0 where
  pub joined : SessionsJoined cfg end u
  pub asked : Asked cfg end w act v joined.links
  pub down : (n : ℕ) → MoreIs cfg (v.near.down n) (joined.links.near.down n) (gave n)
  pub far : joined.links.far ≡ v.far

-- nothing was given in any session
abbrev pub gave_none : ℕ → List Gave
gave_none n = []

-- nothing happened
pub stays : {cfg : Cfg} {end : Role} {w : World} {act : Act} (h : SessionsJoined cfg end w) (gave : ℕ → List Gave) → Goes cfg end w act h.links gave w
stays {cfg} h gave = record {
  joined = h;
  asked = asks_nothing;
  down = λ n. none_more cfg (h.links.near.down n) (h.links.near.down n) (gave n) refl;
  far = refl;
}

-- ---- as the other end sees it

pub met_turned : (n m : ℕ) (met : List Meeting) → HasMet n m met → HasMet m n (map turned met)
met_turned n m [] h = absurd h
met_turned n m (p ∷ met) h = elim h [ inl here ↦ inl (here.1, here.0) | inr there ↦ inr (met_turned n m met there) ]

pub pairs_turned : (cfg : Cfg) (end : Role) (trace : List Done) (met : List Meeting) → PairsAreInOrder cfg end trace met
    → PairsAreInOrder cfg (other end) trace (map turned met)
pairs_turned cfg end trace [] h = tt
pairs_turned cfg end trace (p ∷ met) h = (
  subst (λ es. AreInOrder cfg.long_data cfg.channels es (apart_start cfg.long_data cfg.channels)) (sym (pair_turned end p.near p.far trace)) h.0,
  pairs_turned cfg end trace met h.1,
)

pub hears_as : (Met Met₂ : ℕ → ℕ → Type 0) {n : ℕ} {up : List (List ℕ)} {met : Option ℕ} → ((m : ℕ) → Met n m → Met₂ n m) → Hears Met n up met
    → Hears Met₂ n up met
hears_as Met Met₂ turn h = elim h [
  | inl none ↦ inl none
  | inr some ↦ inr
      (record { session = some.session; told = some.told; has_met = turn some.session some.has_met; begun = some.begun })
]

unfoldable pub sessions_swapped : {cfg : Cfg} {end : Role} {w : World} → SessionsJoined cfg end w
    → SessionsJoined cfg (other end) (mirrored w)
sessions_swapped {cfg} {end} {w} h = record {
  links = links.swapped h.links;
  trace = h.trace;
  reach = reach_swapped cfg end h.links h.reach;
  near = h.far;
  far = twice_other end (λ e. IsEnd cfg e w.near h.links.near h.trace (entries_at e w.transcript)) h.near;
  out = h.back;
  back = h.out;
  tap = h.tap;
  octets = h.octets;
  pairs = pairs_turned cfg end h.trace h.links.met h.pairs;
  near_hears = λ n. hears_as _ _ (λ m. met_turned m n h.links.met) (h.far_hears n);
  far_hears = λ n. twice_other end (λ e. Hears (λ n m. HasMet m n (map turned h.links.met)) n (h.links.near.up n) (meets e n w.transcript))
      (hears_as _ _ (λ m. met_turned n m h.links.met) (h.near_hears n));
}

pub links_swapped : {cfg : Cfg} {end : Role} {w : World} (h : SessionsJoined cfg end w) → (sessions_swapped h).links
    ≡ links.swapped h.links
unfolding sessions_swapped
links_swapped h = refl

-- What is handed up and told in a session of an end: a beginning of what was handed down in the one that it meets, and nothing where it
-- meets none. So what came beside a packet was given there, and what is told as confirmed was handed up.
use Rattle.x25_world.proofs.Names.{◌≡◌, ℕ, zero, suc, ◌==◌, ◌≤◌, ◌<◌, nat_le, ◌⊎◌, inl, inr, List, [], ◌∷◌, ◌++◌, Bool, true, false, ◌&&◌, Some, None, refl}
use Rattle.x25_world.proofs.Names.{sym, ap, ◌∙◌, subst, arith, eqb-true, leb-true, Role, Dte, Dce, other, is_up, OnlyBegunHaveLists, MetAreInOrder, Meeting}
use Rattle.x25_world.proofs.Names.{from_nothing, all_some, IsPrefix, Name, name_of, under, messages_in, HandsUpLawfully, goes_up, first_name, counted, started}
use Rattle.x25_world.proofs.Names.{OwnMove, Cfg, StationEntry, link_up, link_down, layer_notices, ConnectKeeps, World, Event, run, entries_at, Progress}
use Rattle.x25_world.proofs.Names.{none_begun, after_entry, is_in, entry_if, session_from, session_at, handed_in, meets, last_session, ThroughoutAlong}
use Rattle.x25_world.proofs.Names.{SessionLaws, Came, came_in, Gave, gave_in, IsGiven, AreSomeOf, confirmed_in, asked_among, ConfirmedAreHandedUp}
use Rattle.x25_world.proofs.Names.{AreLawfulWhereMet, UnmetAreToldNothing, AreNamedInSessions}
use Rattle.std.proofs.lemmas.Bool.{leb-false}
use Rattle.x25_layer.specs.laws.NameLaw.{IsCounted}
use Rattle.x25_line.specs.laws.SessionClaims.{IsInOrder}
use Rattle.x25_world.proofs.{Growing.{all_read, none_read}, Known.{IsConfigured, is_configured}}
use Rattle.x25_world.proofs.sessions.SessionBeside.{brought, brought_append, AreTold, MoreIs, some_begin, some_of_same, some_of_none}
use Rattle.x25_world.proofs.sessions.{SessionConfirms.{up_of, confirms}, SessionCounts.{counted_in, none_counted}}
use Rattle.x25_world.proofs.sessions.SessionJoined.{HasMet, PairIsInOrder, SessionsJoined, sessions_swapped}
use Rattle.x25_world.proofs.sessions.{SessionKnown.{met_in_order, of_either, pair_ends, here_in, there_is}, SessionReaches.{known_sessions}}
use Rattle.x25_world.proofs.sessions.{SessionRuns.{RunGoes, throughout_goes}, SessionTrace.{layer_of, Done, own_in, own, numbers, pair_at, moves_of_pair}}
use Rattle.x25_world.proofs.sessions.{acts.SessionRequests.{session_pair}, claims.SessionMeets.{told_met, unmet_up, begun_both}}
use Rattle.x25_world.specs.laws.BesideClaims.{BesideIsGiven}

-- ---- which session

-- none that was begun, or one of those
abbrev pub WhichSession : ℕ → ℕ → Type 0
WhichSession begun n = ((n ≡ 0) ⊎ (begun < n)) ⊎ ((1 ≤ n) × (n ≤ begun))

pub which_session : (begun n : ℕ) → WhichSession begun n
which_session begun zero = inl (inl refl)
which_session begun (suc n) = by (nat_le (suc n) begun) refl
  where
    by : (b : Bool) → nat_le (suc n) begun ≡ b → WhichSession begun (suc n)
    by true is = let high = leb-true (suc n) begun is in inr (omega arith, high)
    by false is = inl (inr (omega (arith, leb-false (suc n) begun is)))

-- session 0 has no entries: an end is in none of its sessions before the first begins
none_is_first : (p : Progress) → (p.stands ≡ true → 1 ≤ p.begun) → is_in 0 p ≡ false
none_is_first p first = by p.stands (0 == p.begun) refl refl
  where
    by : (b c : Bool) → p.stands ≡ b → (0 == p.begun) ≡ c → (b && c) ≡ false
    by true true stands zero_is = (absurd (omega (arith, first stands, eqb-true 0 p.begun zero_is)))
    by true false stands differs = refl
    by false c stands e = refl

abbrev BeginsWhereStands : Progress → Type 0
BeginsWhereStands p = p.stands ≡ true → 1 ≤ p.begun

begins_after : {p : Progress} (e : StationEntry) → BeginsWhereStands p → BeginsWhereStands (after_entry p e)
begins_after link_up first = λ stands. omega arith
begins_after (link_down reason) first = λ stands. absurd (cc)
begins_after e first = first

before_first : {p : Progress} (entries : List StationEntry) → BeginsWhereStands p → session_from 0 p entries ≡ []
before_first [] first = refl
before_first {p} (e ∷ entries) first =
    let q = after_entry p e in
    let goes_on = begins_after e first in
    ap (λ b. entry_if b e ++ session_from 0 q entries) (none_is_first q goes_on) ∙ before_first entries goes_on

-- a session that isn't begun has no entry
pub unbegun_nothing : {cfg : Cfg} {end : Role} {w : World} (h : SessionsJoined cfg end w) (n : ℕ) → (n ≡ 0)
    ⊎ (h.links.near.begun < n) → session_at end n w.transcript ≡ []
unbegun_nothing {end} {w} h n never = elim never [
  | inl zeroth ↦ ap (λ k. session_from k none_begun (entries_at end w.transcript)) zeroth ∙ before_first (entries_at end w.transcript) (λ stands. absurd (cc))
  | inr later ↦ (h.near.later n later).entries
]

-- ---- the session that it meets, or none

record MeetsBegun (cfg : Cfg) (end : Role) (w : World) (h : SessionsJoined cfg end w) (n m : ℕ) : Type 0 where
  has_met : HasMet n m h.links.met
  near : (1 ≤ n) × (n ≤ h.links.near.begun)
  far : (1 ≤ m) × (m ≤ h.links.far.begun)

meets_begun : (laws : SessionLaws) {cfg : Cfg} → IsConfigured cfg → {end : Role} {w : World} (h : SessionsJoined cfg end w) (n m : ℕ)
    → meets end n w.transcript ≡ Some m → MeetsBegun cfg end w h n m
meets_begun laws {cfg} fine {end} {w} h n m told =
    let met = told_met (λ n m. HasMet n m h.links.met) m (h.near_hears n) told in
    let high = begun_both h.links.near.begun h.links.far.begun h.links.met (known_sessions OnlyBegunHaveLists laws.begun fine h.reach).met met.has_met in
    record { has_met = met.has_met; near = (met.begun.0, high.0); far = (met.begun.1, high.1) }

nothing_up : {cfg : Cfg} {end : Role} {w : World} (h : SessionsJoined cfg end w) (n : ℕ) → meets end n w.transcript ≡ None
    → h.links.near.up n ≡ []
nothing_up {end} {w} h n unmet = unmet_up (λ n m. HasMet n m h.links.met) (h.near_hears n) unmet

-- ---- of two layers in order

module _ (laws : SessionLaws) (cfg : Cfg) where
  pub own_lawful : (end : Role) (n m : ℕ) (trace : List Done) → PairIsInOrder cfg end trace n m
      → HandsUpLawfully (own cfg end n trace).entries (own cfg (other end) m trace).entries
  own_lawful = of_either laws cfg (λ end e f. HandsUpLawfully e.entries f.entries)
      (λ events order. (let both = laws.layers_lawful cfg.long_data cfg.channels events order in (both.near, both.far)))

module _ (laws : SessionLaws) {cfg : Cfg} (fine : IsConfigured cfg) where
  -- ---- in a session that meets one

  lawful_from : {end : Role} {w : World} → SessionsJoined cfg end w → (n m : ℕ) → meets end n w.transcript ≡ Some m
      → HandsUpLawfully (handed_in end n w) (handed_in (other end) m w)
  lawful_from {end} {w} h n m told =
      let met = meets_begun laws fine h n m told in
      let here = h.near.sessions n met.near.0 met.near.1 in
      let there = h.far.sessions m met.far.0 met.far.1 in
      subst (λ e. HandsUpLawfully e (handed_in (other end) m w)) here.entries
      (rw (sym there.entries) (own_lawful laws cfg end n m h.trace (met_in_order cfg end h.trace h.links.met n m h.pairs met.has_met)))

  pub are_lawful : (w : World) → SessionsJoined cfg Dte w → AreLawfulWhereMet cfg w
  are_lawful w h Dte n m told = lawful_from h n m told
  are_lawful w h Dce n m told = lawful_from (sessions_swapped h) n m told

  -- ---- in one that meets none

  untold_from : {end : Role} {w : World} → SessionsJoined cfg end w → (n : ℕ) → meets end n w.transcript ≡ None
      → layer_notices (session_at end n w.transcript) ≡ []
  untold_from {end} {w} h n unmet = elim (which_session h.links.near.begun n) [
    | inl never ↦ ap layer_notices (unbegun_nothing h n never)
    | inr begun ↦ at_session begun.0 begun.1
  ]
    where
      at_session : 1 ≤ n → n ≤ h.links.near.begun → layer_notices (session_at end n w.transcript) ≡ []
      at_session low high =
          let session = h.near.sessions n low high in
          sym session.told ∙ (laws.alone (layer_of cfg end) (own_in end n h.trace)
          (none_read (own cfg end n h.trace).taken (sym session.up ∙ ap (all_read cfg) (nothing_up h n unmet)))).told

  pub unmet_told_nothing : (w : World) → SessionsJoined cfg Dte w → UnmetAreToldNothing cfg w
  unmet_told_nothing w h Dte n unmet = untold_from h n unmet
  unmet_told_nothing w h Dce n unmet = untold_from (sessions_swapped h) n unmet

-- ---- the name of a stretch is what the session that stands tells of

module _ (laws : SessionLaws) (cfg : Cfg) where
  own_counts : (end : Role) (n m : ℕ) (trace : List Done) → PairIsInOrder cfg end trace n m → IsCounted (own cfg end n trace)
  own_counts = of_either laws cfg (λ end e f. IsCounted e)
      (λ events order. (let both = laws.layers_named cfg.long_data cfg.channels events order in (both.near, both.far)))

module _ (laws : SessionLaws) {cfg : Cfg} (fine : IsConfigured cfg) where
  named_from : {end : Role} {w : World} → SessionsJoined cfg end w → (k : ℕ) → is_up w.near.link.phase ≡ true
      → name_of w.near.layer k ≡ counted k first_name (layer_notices (session_at end (last_session end w) w.transcript))
  named_from {end} {w} h k up =
      let n = h.links.near.begun in
      let now = h.near.now up in
      let pair = session_pair laws cfg fine end w h n in
      let session = h.near.sessions n (h.near.first up) (omega arith) in
      ap (λ l. name_of l k) (sym now.layer) ∙ own_counts laws cfg end n pair.0 h.trace pair.1 k now.out ∙ ap (λ ns. counted k first_name ns) session.told
      ∙ ap (λ p. counted k first_name (layer_notices (session_at end p.begun w.transcript))) (sym h.near.progress)

  -- the name of a stretch is what the transcript of its session counts
  pub are_named : (w : World) → SessionsJoined cfg Dte w → AreNamedInSessions cfg w
  are_named w h Dte k up = named_from h k up
  are_named w h Dce k up = named_from (sessions_swapped h) k up

-- ---- what came beside a packet the other user gave

-- of octets of which these are a beginning
begin_given : (cfg : Cfg) (told : List Came) (up : List (List ℕ)) {down : List (List ℕ)} (gave : List Gave) → AreTold told (brought cfg up) → IsPrefix up down
    → AreSomeOf IsGiven (brought cfg down) gave → AreSomeOf IsGiven told gave
begin_given cfg told up gave tells begins given =
    some_of_same IsGiven told (brought cfg up) gave tells
    (some_begin IsGiven (brought cfg up) (brought cfg begins.0) gave
    (rw (sym (brought_append cfg up begins.0)) (subst (λ os. AreSomeOf IsGiven (brought cfg os) gave) (sym begins.1) given)))

-- all that was handed down in a session that had nothing
all_given : {cfg : Cfg} {down : List (List ℕ)} {gave : List Gave} → MoreIs cfg [] down gave → AreSomeOf IsGiven (brought cfg down) gave
all_given m = rw m.is m.given

module _ (laws : SessionLaws) {cfg : Cfg} (fine : IsConfigured cfg) {end : Role} {w : World} (h : SessionsJoined cfg end w) where
  given_from : (n m : ℕ) (gave : List Gave) → AreSomeOf IsGiven (brought cfg (h.links.far.down m)) gave → meets end n w.transcript ≡ Some m
      → AreSomeOf IsGiven (came_in (session_at end n w.transcript)) gave
  given_from n m gave given told =
      let met = meets_begun laws fine h n m told in
      let begins = all_some (IsInOrder h.links.near h.links.far) (λ p. (p.near ≡ n) × (p.far ≡ m)) (IsPrefix (h.links.near.up n) (h.links.far.down m))
      (λ (p : Meeting) order is. rw (sym is.0) (subst (λ k. IsPrefix (h.links.near.up p.near) (h.links.far.down k)) is.1 order.back))
      h.links.met (known_sessions MetAreInOrder laws.order fine h.reach) met.has_met in
      begin_given cfg (came_in (session_at end n w.transcript)) (h.links.near.up n) gave (h.near.sessions n met.near.0 met.near.1).beside begins given

  ungiven_from : (n : ℕ) → meets end n w.transcript ≡ None → came_in (session_at end n w.transcript) ≡ []
  ungiven_from n unmet = elim (which_session h.links.near.begun n) [
    | inl never ↦ ap came_in (unbegun_nothing h n never)
    | inr begun ↦ some_of_none (λ x y. x ≡ y) (came_in (session_at end n w.transcript))
        (subst (λ os. AreTold (came_in (session_at end n w.transcript)) (brought cfg os)) (nothing_up h n unmet) (h.near.sessions n begun.0 begun.1).beside)
  ]

module _ (laws : SessionLaws) {cfg : Cfg} (fine : IsConfigured cfg) (begin : World) (events : List Event) {w : World}
    (r : RunGoes cfg from_nothing (λ n. gave_in cfg Dte n events begin) (λ n. gave_in cfg Dce n events begin) w) where
  met_given : (end : Role) (n m : ℕ) → meets end n w.transcript ≡ Some m
      → AreSomeOf IsGiven (came_in (session_at end n w.transcript)) (gave_in cfg (other end) m events begin)
  unfolding sessions_swapped
  met_given Dte n m told = given_from laws fine r.joined n m (gave_in cfg Dce m events begin) (all_given (r.far m)) told
  met_given Dce n m told =
      given_from laws fine (sessions_swapped r.joined) n m (gave_in cfg Dte m events begin) (all_given (r.near m)) told

  unmet_untold : (end : Role) (n : ℕ) → meets end n w.transcript ≡ None → came_in (session_at end n w.transcript) ≡ []
  unmet_untold Dte n none = ungiven_from laws fine r.joined n none
  unmet_untold Dce n none = ungiven_from laws fine (sessions_swapped r.joined) n none

pub beside_given : SessionLaws → ConnectKeeps → ThroughoutAlong BesideIsGiven
beside_given laws keeps cfg fine begin is events octets =
    let r = throughout_goes laws keeps cfg fine begin is events octets in
    let w = run cfg events begin in
    record { met = met_given laws (is_configured cfg fine) begin events r; unmet = unmet_untold laws (is_configured cfg fine) begin events r }

-- ---- of what is told as confirmed so many messages were handed up

module _ (laws : SessionLaws) (cfg : Cfg) (k : ℕ) (name : Name) where
  abbrev counted_at_end : Role → List OwnMove → ℕ
  counted_at_end end moves = counted_in (layer_of cfg end) k name moves (started (goes_up (layer_of cfg end)))

  pair_confirms : (end : Role) (n m : ℕ) (trace : List Done) → PairIsInOrder cfg end trace n m → counted_at_end end (own_in end n trace)
      ≤ up_of k name (here_in (other end) (pair_ends cfg end n m trace))
  pair_confirms Dte n m trace order =
      rw (sym (moves_of_pair (numbers n m) Dte trace))
      (confirms cfg.long_data cfg.channels laws.behind (laws.layers_acknowledged cfg.long_data cfg.channels) k name Dte (pair_at Dte n m trace) order)
  pair_confirms Dce n m trace order =
      rw (sym (moves_of_pair (numbers m n) Dce trace))
      (confirms cfg.long_data cfg.channels laws.behind (laws.layers_acknowledged cfg.long_data cfg.channels) k name Dce (pair_at Dce n m trace) order)

  own_confirms : (end : Role) (n m : ℕ) (trace : List Done) → PairIsInOrder cfg end trace n m → counted_at_end end (own_in end n trace)
      ≤ up_of k name (own cfg (other end) m trace)
  own_confirms end n m trace order = rw (sym (there_is laws cfg end n m trace)) (pair_confirms end n m trace order)

module _ (laws : SessionLaws) {cfg : Cfg} (fine : IsConfigured cfg) {end : Role} {w : World} (h : SessionsJoined cfg end w) where
  confirmed_from : (n m : ℕ) → meets end n w.transcript ≡ Some m → (k : ℕ) (name : Name)
      → confirmed_in k name (session_at end n w.transcript) ≤ asked_among (messages_in (under k name (handed_in (other end) m w))).up
  confirmed_from n m told k name =
      let met = meets_begun laws fine h n m told in
      let order = met_in_order cfg end h.trace h.links.met n m h.pairs met.has_met in
      let there : up_of k name (own cfg (other end) m h.trace) ≡ asked_among (messages_in (under k name (handed_in (other end) m w))).up =
      ap (λ es. asked_among (messages_in (under k name es)).up) (h.far.sessions m met.far.0 met.far.1).entries in
      omega (arith, h.near.confirmed n k name, own_confirms laws cfg k name end n m h.trace order, there)

  unconfirmed_from : (n : ℕ) → meets end n w.transcript ≡ None → (k : ℕ) (name : Name) → confirmed_in k name (session_at end n w.transcript) ≡ 0
  unconfirmed_from n unmet k name =
      let none = none_counted (layer_of cfg end) k name (own_in end n h.trace) (started (goes_up (layer_of cfg end))) (h.near.alone n (nothing_up h n unmet)) in
      omega (arith, h.near.confirmed n k name, none)

module _ (laws : SessionLaws) {cfg : Cfg} (fine : IsConfigured cfg) {w : World} (h : SessionsJoined cfg Dte w) where
  met_confirmed : (end : Role) (n m : ℕ) → meets end n w.transcript ≡ Some m → (k : ℕ) (name : Name)
      → confirmed_in k name (session_at end n w.transcript) ≤ asked_among (messages_in (under k name (handed_in (other end) m w))).up
  met_confirmed Dte n m told = confirmed_from laws fine h n m told
  met_confirmed Dce n m told = confirmed_from laws fine (sessions_swapped h) n m told

  unmet_confirmed : (end : Role) (n : ℕ) → meets end n w.transcript ≡ None → (k : ℕ) (name : Name) → confirmed_in k name (session_at end n w.transcript) ≡ 0
  unmet_confirmed Dte n none = unconfirmed_from laws fine h n none
  unmet_confirmed Dce n none = unconfirmed_from laws fine (sessions_swapped h) n none

pub are_confirmed : SessionLaws → (cfg : Cfg) → IsConfigured cfg → (w : World) → SessionsJoined cfg Dte w → ConfirmedAreHandedUp cfg w
are_confirmed laws cfg fine w h = record { met = met_confirmed laws fine h; unmet = unmet_confirmed laws fine h }

-- Where the link is set up once, each end has one session, these are in order, and all that the ends told of their layers is in them.
use Rattle.x25_world.proofs.Names.{◌≡◌, ℕ, zero, suc, ◌+◌, ◌≤◌, ◌⊎◌, inl, inr, List, [], ◌∷◌, true, Option, Some, None, refl, sym, ap, ◌∙◌, subst, arith, Role}
use Rattle.x25_world.proofs.Names.{Dte, Dce, other, is_up, LinkStation, LinkSettings, SessionEnd, Sessions, Each, OnlyBegunHaveLists, goes_up, HandsUpLawfully}
use Rattle.x25_world.proofs.Names.{HasAllOf, first_name, counted, own_run, started, Cfg, StationEntry, link_up, link_down, layer_entries, Station, Connects}
use Rattle.x25_world.proofs.Names.{Relinks, WorldError, World, Act, Commands, Event, WorldOutcome, Happened, Declined, refusal_of, happens, after, run}
use Rattle.x25_world.proofs.Names.{established, station_at, entries_at, IsUpAtMostOnce, AreInOctets, link_of, Asks, at_end, all_at, SessionLaws, Progress}
use Rattle.x25_world.proofs.Names.{none_begun, after_entry, after_entries, session_at, last_session, IsLawful, IsNamed, ArrivesAll, NoneConnects}
use Rattle.x25_line.specs.laws.{SessionEvents.{IsUnasked, NoneBeginUnasked}, StationClaims.{AcceptsNoConnectAt}}
use Rattle.x25_world.proofs.{Established.{just_set_up}, Known.{IsConfigured}}
use Rattle.x25_world.proofs.sessions.{SessionJoined.{HaveAll, IsEnd, HasMet, PairIsInOrder, SessionsJoined}, SessionKnown.{met_in_order, nothing_in_order}}
use Rattle.x25_world.proofs.sessions.{SessionReaches.{SessionsReach, Leads, reach_on, known_sessions}, SessionRuns.{next}, SessionTrace.{Done, layer_of, own}}
use Rattle.x25_world.proofs.sessions.claims.{SessionArrives.{all_arrive, open_stretches_meet}, SessionLawful.{own_lawful, are_named}}
use Rattle.x25_world.{proofs.sessions.claims.SessionMeets.{begun_both, meet_in_step}, specs.laws.Claims.{ups_in, handed_at, IsNoConnect}}
use Rattle.x25_world.specs.laws.Sessions.{progress_at}
use Rattle.x25_line.specs.laws.Stations as line
use Rattle.x25_line.specs.laws.Sessions as links

-- ---- how many sessions an end began

begun_more : (p : Progress) (es : List StationEntry) → (after_entries p es).begun ≡ p.begun + ups_in es
begun_more p [] = omega arith
begun_more p (link_up ∷ es) = omega (arith, begun_more (after_entry p link_up) es)
begun_more p (link_down reason ∷ es) = begun_more (after_entry p (link_down reason)) es
begun_more p (other ∷ es) = begun_more p es

pub ups_are_begun : {cfg : Cfg} {end : Role} {s : Station} {k : SessionEnd} {trace : List Done} {es : List StationEntry} → IsEnd cfg end s k trace es
    → ups_in es
    ≡ k.begun
ups_are_begun {es} h =
    omega (arith, begun_more none_begun es, ap (λ p. p.begun) h.progress)

-- ---- where none asks for set-up

-- each end is in its first session, and none asks for another
pub record AreInFirst (cfg : Cfg) (v : Sessions) : Type 0 where
  pub unasked : IsUnasked (link_of cfg Dte) v
  pub near : v.near.begun ≡ 1
  pub far : v.far.begun ≡ 1

-- such an act is refused, or asks no link for Connect
no_connect : (act : Act) (o : Option WorldError) → IsNoConnect act o → ((e : WorldError) × (o ≡ Some e)) ⊎ (Asks act line.Connect → ⊥)
no_connect (Commands Connects) None none = absurd none
no_connect (Commands Relinks) None none = absurd none
no_connect (Commands Connects) (Some e) none = inl (e, refl)
no_connect (Commands Relinks) (Some e) none = inl (e, refl)
no_connect act o none = inr (λ asks. asks)

refused_stays : (w : World) (o : WorldOutcome) (e : WorldError) → refusal_of o ≡ Some e → after w o ≡ w
refused_stays w (Happened next) e is = absurd (cc)
refused_stays w (Declined d) e is = refl

accepts_none : (act : Act) (end : Role) (asked : line.Act) (near far : LinkStation) → (Asks act line.Connect → ⊥) → Asks act asked
    → AcceptsNoConnectAt (at_end end asked) near far
accepts_none act Dte line.Connect near far never asks = absurd (never asks)
accepts_none act Dce line.Connect near far never asks = absurd (never asks)
accepts_none act Dte asked near far never asks = tt
accepts_none act Dce asked near far never asks = tt

module _ (laws : SessionLaws) {cfg : Cfg} (fine : IsConfigured cfg) where
  abbrev c : LinkSettings
  c = link_of cfg Dte

  abbrev d : LinkSettings
  d = link_of cfg Dce

  -- once both links are up, each end is in its first session
  pub are_first : (h : SessionsJoined cfg Dte (established cfg)) → AreInFirst cfg h.links
  are_first h =
      let up = just_set_up laws.stations cfg in
      record {
        unasked = (known_sessions NoneBeginUnasked laws.unasked fine h.reach).up (ap (λ s. is_up s.phase) h.near.link ∙ up.near)
            (ap (λ s. is_up s.phase) h.far.link ∙ up.far);
        near = sym (ap (λ p. p.begun) h.near.progress) ∙ ap (λ t. (progress_at Dte t).begun) up.told;
        far = sym (ap (λ p. p.begun) h.far.progress) ∙ ap (λ t. (progress_at Dce t).begun) up.told;
      }

  -- links that are reached stay so
  all_stay : (act : Act) (end : Role) (asked : List line.Act) {v u : Sessions} → (Asks act line.Connect → ⊥) → Each (Asks act) asked
      → SessionsReach cfg Dte v → Leads c d (all_at end asked) v u → AreInFirst cfg v → AreInFirst cfg u
  all_stay act end [] never may reach l h = subst (AreInFirst cfg) l.run h
  all_stay act end (a ∷ asked) {v} never may reach l h =
      let e = at_end end a in
      let b = (known_sessions NoneBeginUnasked laws.unasked fine reach).stays h.unasked e (accepts_none act end a _ _ never may.0) in
      let one : Leads c d (e ∷ []) v (links.happens c d e v) = record { timely = (l.timely.0, tt); run = refl } in
      all_stay act end asked never may.1 (reach_on reach one) (record { timely = l.timely.1; run = l.run })
      (record { unasked = b.unasked; near = b.near ∙ h.near; far = b.far ∙ h.far })

  pub is_up_once : (events : List Event) {w : World} (h : SessionsJoined cfg Dte w) → AreInFirst cfg h.links → AreInOctets events
      → NoneConnects cfg events w → (end : Role) → ups_in (entries_at end (run cfg events w).transcript) ≡ 1
  is_up_once [] h first octets none Dte = ups_are_begun h.near ∙ first.near
  is_up_once [] h first octets none Dce = ups_are_begun h.far ∙ first.far
  is_up_once (e ∷ events) {w} h first octets none end = elim (no_connect e.act (refusal_of (happens cfg w e)) none.0) [
    | inl refused ↦ (let is = refused_stays w (happens cfg w e) refused.0 refused.1 in
        subst (λ x. ups_in (entries_at end (run cfg events x).transcript) ≡ 1) (sym is)
        (is_up_once events h first octets.1 (subst (NoneConnects cfg events) is none.1) end))
    | inr never ↦ (let j = next laws cfg fine h e octets.0 in
        is_up_once events j.goes.joined (all_stay e.act e.at j.asked never j.may h.reach j.leads first) octets.1 none.1 end)
  ]

-- ---- where neither end goes up a second time

-- an end that goes up once at most began one session, or none
few_begun : (begun : ℕ) → begun ≤ 1 → (begun ≡ 0) ⊎ (begun ≡ 1)
few_begun zero few = inl refl
few_begun (suc zero) few = inr refl
few_begun (suc (suc n)) few = absurd (omega (arith, few))

module _ (laws : SessionLaws) (cfg : Cfg) (fine : IsConfigured cfg) (w : World) (h : SessionsJoined cfg Dte w)
    (once : IsUpAtMostOnce cfg w) where
  near_few : h.links.near.begun ≤ 1
  near_few = omega (arith, once Dte, ups_are_begun h.near)

  far_few : h.links.far.begun ≤ 1
  far_few = omega (arith, once Dce, ups_are_begun h.far)

  -- ---- the first session of an end has all that it told of its layer

  has_all : (end : Role) → HaveAll (session_at end 1 w.transcript) (entries_at end w.transcript)
  has_all Dte = h.near.first_has_all near_few
  has_all Dce = h.far.first_has_all far_few

  last_has_all : (end : Role) → 1 ≤ last_session end w → HaveAll (session_at end (last_session end w) w.transcript) (entries_at end w.transcript)
  last_has_all end some =
      let last : last_session end w ≡ 1 = omega (arith, begun_more none_begun (entries_at end w.transcript), once end, some) in
      subst (λ n. HaveAll (session_at end n w.transcript) (entries_at end w.transcript)) (sym last) (has_all end)

  up_began : (end : Role) → is_up (station_at end w).link.phase ≡ true → 1 ≤ last_session end w
  up_began Dte up = omega (arith, h.near.first up, ap (λ p. p.begun) h.near.progress)
  up_began Dce up = omega (arith, h.far.first up, ap (λ p. p.begun) h.far.progress)

  -- ---- the claims

  -- the first sessions are in order
  paired : PairIsInOrder cfg Dte h.trace 1 1
  paired = elim (h.near_hears 1) [
    | inl none ↦ elim (h.far_hears 1) [
      | inl none_there ↦ nothing_in_order cfg Dte h.trace 1 1 (h.near.alone 1 none.0) (h.far.alone 1 none_there.0)
      | inr one ↦ met_in_order cfg Dte h.trace h.links.met 1 1 h.pairs
          (subst (λ n. HasMet n 1 h.links.met) (first_of h.links.near.begun one.session near_few one.begun.1 (begun one.session 1 one.has_met).0) one.has_met)
    ]
    | inr one ↦ met_in_order cfg Dte h.trace h.links.met 1 1 h.pairs
        (subst (λ m. HasMet 1 m h.links.met) (first_of h.links.far.begun one.session far_few one.begun.1 (begun 1 one.session one.has_met).1) one.has_met)
  ]
    where
      begun : (n m : ℕ) → HasMet n m h.links.met → (n ≤ h.links.near.begun) × (m ≤ h.links.far.begun)
      begun n m met = begun_both h.links.near.begun h.links.far.begun h.links.met (known_sessions OnlyBegunHaveLists laws.begun fine h.reach).met met

      first_of : (last n : ℕ) → last ≤ 1 → 1 ≤ n → n ≤ last → n ≡ 1
      first_of last n few low high = omega (arith, few, low, high)

  handed_by : (end : Role) {s : Station} {k : SessionEnd} → IsEnd cfg end s k h.trace (entries_at end w.transcript) → k.begun ≤ 1
      → (own cfg end 1 h.trace).entries ≡ handed_at end w
  handed_by end {s} {k} e few = elim (few_begun k.begun few) [
    | inl none ↦ (let nothing = e.later 1 (omega (arith, none)) in
        ap (λ moves. (own_run (layer_of cfg end) moves (started (goes_up (layer_of cfg end)))).entries) nothing.moves
        ∙ sym (ap layer_entries nothing.entries) ∙ (e.first_has_all few).entries)
    | inr one ↦ (e.sessions 1 (omega arith) (omega (arith, one))).entries ∙ (e.first_has_all few).entries
  ]

  handed : (end : Role) → (own cfg end 1 h.trace).entries ≡ handed_at end w
  handed Dte = handed_by Dte h.near near_few
  handed Dce = handed_by Dce h.far far_few

  pub lawful_once : IsLawful cfg w
  lawful_once end = subst (λ e. HandsUpLawfully e (handed_at (other end) w)) (handed end)
      (rw (sym (handed (other end))) (own_lawful laws cfg end 1 1 h.trace (by end)))
    where
      by : (end : Role) → PairIsInOrder cfg end h.trace 1 1
      by Dte = paired
      by Dce = paired

  pub named_once : IsNamed cfg w
  named_once end channel up = are_named laws fine w h end channel up ∙ ap (λ ns. counted channel first_name ns) (last_has_all end (up_began end up)).told

  pub arrives_once : ArrivesAll cfg w
  arrives_once end channel name idle here there =
      let met = open_stretches_meet laws fine w h end channel channel name name here there in
      let begun = (meet_in_step laws cfg fine w h).begun end (last_session end w) (last_session (other end) w) met in
      subst (λ e. HasAllOf channel name e (handed_at (other end) w)) (last_has_all end begun.0).entries
      (rw (sym (last_has_all (other end) begun.2).entries) (all_arrive laws fine w h end channel name idle here there))

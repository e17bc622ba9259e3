-- Each event keeps the runs of two links and of the layers in each session, so each list of events does: from nothing, and from set-up.
use Rattle.x25_world.proofs.Names.{◌≡◌, ℕ, inl, inr, List, [], ◌∷◌, ◌++◌, ◌==◌, refl, sym, ap, subst, arith, Role, Dte, Dce, Sessions, from_nothing, Each, Cfg}
use Rattle.x25_world.proofs.Names.{settings_from, Connects, Disconnects, Probes, Relinks, said_by, new_station, ConnectKeeps, World, mirrored, WorldOutcome}
use Rattle.x25_world.proofs.Names.{Happened, Declined, swapped_back, Act, Commands, Receives, Fires, Loses, Damages, acts, Event, happens, refusal_of, after}
use Rattle.x25_world.proofs.Names.{run, start, connected, established, ActsInOctets, AreInOctets, IsBeginning, IsUpAtMostOnce, Progress, Throughout}
use Rattle.x25_world.proofs.Names.{ThroughoutAlong, Gave, gave_where, gave_in, SessionLaws, link_of, Asks, all_at, IsReceiptOrRequest, Requests}
use Rattle.x25_station.specs.Command.{RequestsWith}
use Rattle.x25_world.proofs.{Established.{kept_new}, Known.{IsConfigured, is_configured}}
use Rattle.x25_world.proofs.{WorldLemmas.{refusal-swapped}, sessions.SessionBeside.{MoreIs, none_more, more_again, said_channel}}
use Rattle.x25_world.proofs.sessions.SessionJoined.{IsEnd, SessionsJoined, Goes, gave_none, sessions_swapped}
use Rattle.x25_world.proofs.sessions.{SessionReaches.{Leads, TakesAndPuts, turned_takes, leads_turned}, SessionTrace.{layer_of}}
use Rattle.x25_world.proofs.sessions.acts.{SessionReceives.{receives_joined}, SessionRequests.{requests_joined, gives_joined, said_octets}}
use Rattle.x25_world.proofs.sessions.acts.SessionTimers.{lost_joined, damaged_joined, fired_joined, connects_joined, connects_alone_joined, disconnects_joined}
use Rattle.x25_world.{proofs.sessions.acts.SessionTimers.{probes_joined, relinks_joined}, specs.Healing.{FreeAt}, specs.laws.BesideClaims.{gave_by, gave_at}}
use Rattle.x25_world.specs.laws.Claims.{UntilSecondUp}
use Rattle.x25_line.specs.laws.Stations as line

-- what happens at the far end is what happens at the near end of the two ends swapped
pub back_after : (w : World) (o : WorldOutcome) → after w (swapped_back o) ≡ mirrored (after (mirrored w) o)
back_after w (Happened next) = refl
back_after w (Declined e) = refl

-- ---- acts and events

-- some events lead here from these links, and each end is handed down more in its sessions, with what its user gave
pub record RunGoes (cfg : Cfg) (v : Sessions) (dte dce : ℕ → List Gave) (w : World) : Type 0 where
  pub joined : SessionsJoined cfg Dte w
  pub near : (n : ℕ) → MoreIs cfg (v.near.down n) (joined.links.near.down n) (dte n)
  pub far : (n : ℕ) → MoreIs cfg (v.far.down n) (joined.links.far.down n) (dce n)

-- One event does: by acts of the link of its end, which are these.
pub record EventGoes (cfg : Cfg) (w : World) (v : Sessions) (e : Event) (u : World) : Type 0 where
  pub goes : RunGoes cfg v (λ n. gave_at cfg Dte n w e) (λ n. gave_at cfg Dce n w e) u
  pub asked : List line.Act
  pub may : Each (Asks e.act) asked
  pub freely : IsReceiptOrRequest e.act → FreeAt cfg e.at e.act w → TakesAndPuts w.near.link w.far.link asked
  pub leads : Leads (link_of cfg Dte) (link_of cfg Dce) (all_at e.at asked) v goes.joined.links

abbrev begun_in : Progress → ℕ
begun_in p = p.begun

-- a run behind another
behind : {cfg : Cfg} {w : World} (v u : Sessions) (dte dte_more dce dce_more : ℕ → List Gave)
    → ((n : ℕ) → MoreIs cfg (v.near.down n) (u.near.down n) (dte n)) → ((n : ℕ) → MoreIs cfg (v.far.down n) (u.far.down n) (dce n))
    → RunGoes cfg u dte_more dce_more w → RunGoes cfg v (λ n. dte n ++ dte_more n) (λ n. dce n ++ dce_more n) w
behind {cfg} v u dte dte_more dce dce_more near far r = record {
  joined = r.joined;
  near = λ n. more_again (near n) (r.near n);
  far = λ n. more_again (far n) (r.far n);
}

module _ (laws : SessionLaws) (cfg : Cfg) (fine : IsConfigured cfg) where
  acts_joined : (end : Role) (w : World) (h : SessionsJoined cfg end w) (act : Act) → ActsInOctets act
      → (let o = acts (settings_from end cfg) w act in
      Goes cfg end w act h.links (λ n. gave_by (layer_of cfg end) w.near.layer (n == h.links.near.begun) act (refusal_of o)) (after w o))
  acts_joined end w h (Commands (Requests request)) octets =
      requests_joined laws cfg fine end w h (λ o. tt) (said_by cfg.say_sizes w.near.layer request) (said_octets cfg.say_sizes w.near.layer request octets)
  acts_joined end w h (Commands (RequestsWith given request)) octets =
      let said = said_by cfg.say_sizes w.near.layer request in
      let act = Commands (RequestsWith given request) in
      let o = acts (settings_from end cfg) w act in
      subst (λ k. Goes cfg end w act h.links (λ n. gave_where (n == h.links.near.begun) (refusal_of o) (record { channel = k; given = given })) (after w o))
      (said_channel (layer_of cfg end) w.near.layer cfg.say_sizes request)
      (gives_joined laws cfg fine end w h (λ o. tt) given said octets.0 (said_octets cfg.say_sizes w.near.layer request octets.1))
  acts_joined end w h (Commands Connects) octets = connects_joined laws fine h
  acts_joined end w h (Commands Disconnects) octets = disconnects_joined laws fine h
  acts_joined end w h (Commands Probes) octets = probes_joined laws fine h
  acts_joined end w h (Commands Relinks) octets = relinks_joined laws fine h
  acts_joined end w h Receives octets = receives_joined laws cfg fine end w h
  acts_joined end w h Fires octets = fired_joined laws fine h
  acts_joined end w h (Loses place) octets = lost_joined h place
  acts_joined end w h (Damages place octets) fits = damaged_joined h place octets

  -- one event more, at either end
  event_joined : (at : Role) (act : Act) (w : World) → ActsInOctets act → (h : SessionsJoined cfg Dte w)
      → (let e : Event = record { at = at; act = act } in EventGoes cfg w h.links e (after w (happens cfg w e)))
  unfolding sessions_swapped
  event_joined Dte act w octets h =
      let s = acts_joined Dte w h act octets in
      record {
        goes = record {
          joined = s.joined;
          near = λ n. rw (ap begun_in h.near.progress) (s.down n);
          far = λ n. none_more cfg (h.links.far.down n) (s.joined.links.far.down n) [] (ap (λ k. k.down n) s.far);
        };
        asked = s.asked.asked;
        may = s.asked.is.may;
        freely = s.asked.is.freely;
        leads = s.asked.leads;
      }
  event_joined Dce act w octets h =
      let o = acts (settings_from Dce cfg) (mirrored w) act in
      let s = acts_joined Dce (mirrored w) (sessions_swapped h) act octets in
      subst (λ u. EventGoes cfg w h.links (record { at = Dce; act = act }) u) (sym (back_after w o))
      (record {
        goes = record {
          joined = sessions_swapped s.joined;
          near = λ n. none_more cfg (h.links.near.down n) (s.joined.links.far.down n) [] (ap (λ k. k.down n) s.far);
          far = λ n. rw (ap begun_in h.far.progress)
              (subst (λ r. MoreIs cfg (h.links.far.down n) (s.joined.links.near.down n)
              (gave_by (layer_of cfg Dce) w.far.layer (n == h.links.far.begun) act r)) (sym (refusal-swapped o)) (s.down n));
        };
        asked = s.asked.asked;
        may = s.asked.is.may;
        freely = λ are free. turned_takes (s.asked.is.freely are free);
        leads = leads_turned s.asked.asked s.asked.leads;
      })

  -- each event of a world is acts of the link of its end
  pub next : {w : World} (h : SessionsJoined cfg Dte w) (e : Event) → ActsInOctets e.act → EventGoes cfg w h.links e (after w (happens cfg w e))
  next {w} h e octets = event_joined e.at e.act w octets h

  run_joined : (events : List Event) {w : World} → AreInOctets events → (h : SessionsJoined cfg Dte w)
      → RunGoes cfg h.links (λ n. gave_in cfg Dte n events w) (λ n. gave_in cfg Dce n events w) (run cfg events w)
  run_joined [] octets h = record {
    joined = h;
    near = λ n. none_more cfg (h.links.near.down n) (h.links.near.down n) [] refl;
    far = λ n. none_more cfg (h.links.far.down n) (h.links.far.down n) [] refl;
  }
  run_joined (e ∷ events) {w} octets h =
      let after_it = after w (happens cfg w e) in
      let one = (next h e octets.0).goes in
      behind h.links one.joined.links (λ n. gave_at cfg Dte n w e) (λ n. gave_in cfg Dte n events after_it) (λ n. gave_at cfg Dce n w e)
      (λ n. gave_in cfg Dce n events after_it) one.near one.far (run_joined events octets.1 one.joined)

  -- ---- how a run begins

  -- an end that never was up
  end_at_start : (end : Role) → IsEnd cfg end new_station from_nothing.near [] []
  end_at_start end = record {
    link = refl;
    kept = kept_new;
    progress = refl;
    first = λ up. absurd (cc);
    before = (refl, refl);
    sessions = λ n low high. absurd (omega (arith, low, high));
    octets = λ n. tt;
    confirmed = λ n k name. omega arith;
    later = λ n more. record { moves = refl; entries = refl };
    now = λ up. absurd (cc);
    alone = λ n none. tt;
    no_fault = tt;
    first_has_all = λ low. record { entries = refl; told = refl };
  }

  start_joined : SessionsJoined cfg Dte start
  start_joined = record {
    links = from_nothing;
    trace = [];
    reach = record { events = []; leads = record { timely = tt; run = refl } };
    near = end_at_start Dte;
    far = end_at_start Dce;
    out = refl;
    back = refl;
    tap = tt;
    octets = tt;
    pairs = tt;
    near_hears = λ n. inl (refl, refl);
    far_hears = λ n. inl (refl, refl);
  }

  -- with nothing that a user gave
  abbrev pub BeginsSo : World → Type 0
  BeginsSo w = RunGoes cfg from_nothing gave_none gave_none w

  start_goes : BeginsSo start
  unfolding start_joined
  start_goes = record { joined = start_joined; near = λ n. none_more cfg [] [] [] refl; far = λ n. none_more cfg [] [] [] refl }

  connected_goes : ConnectKeeps → BeginsSo (connected cfg)
  unfolding start_joined
  connected_goes keeps =
      let s = connects_alone_joined laws fine start_joined keeps in
      record { joined = s.joined; near = s.down; far = λ n. none_more cfg [] (s.joined.links.far.down n) [] (ap (λ k. k.down n) s.far) }

  established_goes : ConnectKeeps → BeginsSo (established cfg)
  established_goes keeps =
      let c = connected_goes keeps in
      behind from_nothing c.joined.links gave_none gave_none gave_none gave_none c.near c.far
      (run_joined (record { at = Dce; act = Receives } ∷ record { at = Dte; act = Receives } ∷ []) (tt, (tt, tt)) c.joined)

-- at any beginning
begin_goes : (laws : SessionLaws) → ConnectKeeps → {cfg : Cfg} (fine : IsConfigured cfg) {begin : World} → IsBeginning cfg begin
    → RunGoes cfg from_nothing gave_none gave_none begin
begin_goes laws keeps {cfg} fine is = elim is [
  | inl same ↦ subst (BeginsSo laws cfg fine) (sym same) (start_goes laws cfg fine)
  | inr rest ↦ elim rest [
    | inl same ↦ subst (BeginsSo laws cfg fine) (sym same) (connected_goes laws cfg fine keeps)
    | inr same ↦ subst (BeginsSo laws cfg fine) (sym same) (established_goes laws cfg fine keeps)
  ]
]

-- each beginning of a world is joined with sessions
pub begin_joined : (laws : SessionLaws) → ConnectKeeps → {cfg : Cfg} → IsConfigured cfg → {begin : World} → IsBeginning cfg begin
    → SessionsJoined cfg Dte begin
begin_joined laws keeps fine is = (begin_goes laws keeps fine is).joined

-- at each world of a run from there
pub throughout_goes : (laws : SessionLaws) → ConnectKeeps
    → ThroughoutAlong (λ cfg begin events w. RunGoes cfg from_nothing (λ n. gave_in cfg Dte n events begin) (λ n. gave_in cfg Dce n events begin) w)
throughout_goes laws keeps cfg fine begin is events octets =
    let b = begin_goes laws keeps (is_configured cfg fine) is in
    behind from_nothing b.joined.links gave_none (λ n. gave_in cfg Dte n events begin) gave_none (λ n. gave_in cfg Dce n events begin) b.near b.far
    (run_joined laws cfg (is_configured cfg fine) events octets b.joined)

-- so is the world at each moment of a run
pub throughout_joined : (laws : SessionLaws) → ConnectKeeps → Throughout (λ cfg w. SessionsJoined cfg Dte w)
throughout_joined laws keeps cfg fine begin is events octets = (throughout_goes laws keeps cfg fine begin is events octets).joined

-- so what follows of what is kept holds there
pub throughout : (laws : SessionLaws) → ConnectKeeps → (Holds : Cfg → World → Type 0)
    → ((cfg : Cfg) → IsConfigured cfg → (w : World) → SessionsJoined cfg Dte w → Holds cfg w) → Throughout Holds
throughout laws keeps Holds holds cfg fine begin is events octets =
    holds cfg (is_configured cfg fine) (run cfg events begin) (throughout_joined laws keeps cfg fine begin is events octets)

pub until_second : (laws : SessionLaws) → ConnectKeeps → (Holds : Cfg → World → Type 0)
    → ((cfg : Cfg) → IsConfigured cfg → (w : World) → SessionsJoined cfg Dte w → IsUpAtMostOnce cfg w → Holds cfg w) → UntilSecondUp Holds
until_second laws keeps Holds holds cfg fine begin is events octets once =
    throughout laws keeps (λ c w. IsUpAtMostOnce c w → Holds c w) holds cfg fine begin is events octets once

-- The window along a run from a link just set up: two stations by themselves do as the links of the world do, with one machine behind them.
use Rattle.x25_world.proofs.Names.{◌≡◌, ℕ, ◌<◌, ◌⊎◌, inl, inr, List, [], ◌∷◌, ◌++◌, Bool, true, false, ◌||◌, refl, sym, ap, ap₂, ◌∙◌, subst, arith, Dte, Dce}
use Rattle.x25_world.proofs.Names.{StationEnd, SessionEnd, Sessions, begun_by, Cfg, ConnectKeeps, World, Event, run, established, AreInOctets, IsUpOnce}
use Rattle.x25_line.proofs.sessions.SessionsForgotten.{Alike}
use Rattle.x25_line.specs.laws.{Line.{Line}, StationClaims.{IsSetUpOnce}, WholeNumbers.{machine_run, machine_happens, MachineGoesAlong, OnceStaysOnce}}
use Rattle.x25_world.proofs.{Established.{just_set_up}, Known.{IsConfigured, is_configured}}
use Rattle.x25_world.proofs.{Names.{link_of, SessionLaws, both_put, links_by, Lasts, runs_alike, LinkSettings}, SetUpOnce.{ups_are_begun, are_first}}
use Rattle.x25_world.proofs.sessions.{SessionJoined.{SessionsJoined}, SessionReaches.{joined_at}, SessionRuns.{next, begin_joined}}
use Rattle.x25_world.{proofs.sessions.SessionsAlong.{After, asked_in, along}, specs.laws.Claims.{Always}}
use Rattle.x25_world.specs.laws.SessionWindow.{IsBehindWorld, machine_by, StaysInWindow}
use Rattle.x25_line.specs.laws.Stations as line

-- ---- a station by itself, and one with its sessions

-- it came up anew where it began a session after the first
abbrev IsAnew : Bool → ℕ → Type 0
IsAnew came_up begun = ((came_up ≡ false) × (begun ≡ 1)) ⊎ (1 < begun)

record IsLike (e : SessionEnd) (s : StationEnd) : Type 0 where
  pub station : s.station ≡ e.station
  pub anew : IsAnew s.came_up e.begun

anew_by : (up came_up : Bool) {begun : ℕ} → IsAnew came_up begun → IsAnew (came_up || up) (begun_by up begun)
anew_by false true h = h
anew_by false false h = h
anew_by true came_up h = inr (elim h [ inl first ↦ omega (arith, first.1) | inr later ↦ omega (arith, later) ])

like_lasts : Lasts IsLike
like_lasts = record { station = λ e s h. h.station; steps = λ e s h down step. record { station = refl; anew = anew_by step.notes.up s.came_up h.anew } }

not_anew : {came_up : Bool} {begun : ℕ} → IsAnew came_up begun → begun ≡ 1 → came_up ≡ false
not_anew h one = elim h [ inl first ↦ first.0 | inr later ↦ absurd (omega (arith, later, one)) ]

-- ---- a run, and more behind it

run_append : (c d : LinkSettings) (xs ys : List line.LinkEvent) (v : line.Stations) → line.run c d (xs ++ ys) v ≡ line.run c d ys (line.run c d xs v)
run_append c d [] ys v = refl
run_append c d (x ∷ xs) ys v = run_append c d xs ys (line.happens c d x v)

machine_append : (c d : LinkSettings) (xs ys : List line.LinkEvent) (v : line.Stations) (l : Line (List ℕ))
    → machine_run c d (xs ++ ys) v l ≡ machine_run c d ys (line.run c d xs v) (machine_run c d xs v l)
machine_append c d [] ys v l = refl
machine_append c d (x ∷ xs) ys v l = machine_append c d xs ys (line.happens c d x v) (machine_happens c d x v l)

-- ---- along a run

-- two stations that did what is past, with their machine, as these links
record AreLinked (cfg : Cfg) (u : Sessions) (v : line.Stations) (l : Line (List ℕ)) : Type 0 where
  pub past : List line.LinkEvent
  pub links : links_by cfg past ≡ v
  pub machine : machine_by cfg past ≡ l
  pub alike : Alike IsLike ⊥ u v

module _ (laws : SessionLaws) (behind : MachineGoesAlong) (before : OnceStaysOnce) {cfg : Cfg} (fine : IsConfigured cfg) where
  abbrev c : LinkSettings
  c = link_of cfg Dte

  abbrev d : LinkSettings
  d = link_of cfg Dce

  linked_next : {w : World} (h : SessionsJoined cfg Dte w) {e : Event} (j : After h e) {v : line.Stations} {l : Line (List ℕ)}
      → AreLinked cfg h.links v l → AreLinked cfg j.goes.joined.links (line.run c d (asked_in j) v) (machine_run c d (asked_in j) v l)
  linked_next h j {v} k =
      let es = asked_in j in
      record {
        past = k.past ++ es;
        links = run_append c d k.past es line.start ∙ ap (line.run c d es) k.links;
        machine = machine_append c d k.past es line.start _ ∙ ap₂ (λ x y. machine_run c d es x y) k.links k.machine;
        alike = subst (λ x. Alike IsLike ⊥ x (line.run c d es v)) j.leads.run (runs_alike like_lasts c d es k.alike);
      }

  module _ {here : World} (once : IsUpOnce cfg here) where
    -- what isn't set up anew at the end wasn't before
    stays_once : (events : List Event) {w : World} (h : SessionsJoined cfg Dte w) → AreInOctets events → run cfg events w ≡ here
        → {v : line.Stations} {l : Line (List ℕ)} → AreLinked cfg h.links v l → IsSetUpOnce v
    stays_once [] h octets is k =
        let at = subst (IsUpOnce cfg) (sym is) once in
        record {
          near = not_anew k.alike.near.anew (sym (ups_are_begun h.near) ∙ at Dte);
          far = not_anew k.alike.far.anew (sym (ups_are_begun h.far) ∙ at Dce);
        }
    stays_once (e ∷ events) h octets is {v} k =
        let j = next laws cfg fine h e octets.0 in
        before c d (asked_in j) v (stays_once events j.goes.joined octets.1 is (linked_next h j k))

    is_behind : (events : List Event) (w : World) (h : SessionsJoined cfg Dte w) → AreInOctets events → run cfg events w ≡ here
        → (v : line.Stations) (l : Line (List ℕ)) → AreLinked cfg h.links v l → IsBehindWorld cfg w v l
    is_behind events w h octets is v l k = record {
      near = k.alike.near.station ∙ h.near.link;
      far = k.alike.far.station ∙ h.far.link;
      out = k.alike.out ∙ h.out;
      back = k.alike.back ∙ h.back;
      behind = rw (sym k.links, sym k.machine) (behind c d (joined_at Dte fine) k.past (subst IsSetUpOnce (sym k.links) (stays_once events h octets is k)));
    }

pub stays_in_window : SessionLaws → ConnectKeeps → MachineGoesAlong → OnceStaysOnce → Always StaysInWindow
stays_in_window laws keeps behind before cfg fine events octets once =
    let at = is_configured cfg fine in
    let h = begin_joined laws keeps at (inr (inr refl)) in
    let up = just_set_up laws.stations cfg in
    let first = are_first laws at h in
    let c = link_of cfg Dte in
    let d = link_of cfg Dce in
    along laws at (IsBehindWorld cfg) (line.run c d) (machine_run c d) (run cfg events (established cfg)) (λ w. AreLinked cfg)
    (is_behind laws behind before at once) (λ w h e j v l k. linked_next laws behind before at h j k) events h octets refl
    (links_by cfg both_put) (machine_by cfg both_put) (record {
      past = both_put;
      links = refl;
      machine = refl;
      alike = record {
        near = record { station = up.near_link ∙ sym h.near.link; anew = inl (refl, first.near) };
        far = record { station = up.far_link ∙ sym h.far.link; anew = inl (refl, first.far) };
        out = up.out ∙ sym h.out;
        back = up.back ∙ sym h.back;
        sent = λ never. absurd never;
      };
    })

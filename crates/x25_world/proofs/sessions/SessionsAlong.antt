-- The window over set-up and re-set-up, along a run: two links with the links and the lines of a world go on as the end of each event asks,
-- with the machine behind the sessions that stand.
use Rattle.x25_world.proofs.Names.{◌≡◌, ℕ, ◌+◌, inl, List, [], ◌∷◌, ◌++◌, false, refl, sym, ap, ap₂, ◌∙◌, subst, Role, Dte, Dce, frame_of, StationEnd}
use Rattle.x25_world.proofs.Names.{SessionEnd, Sessions, from_nothing, letters, IsTimely, IsTimelyAt, AreTimely, octets_of, Said, said, sabm_of, ua_of}
use Rattle.x25_world.proofs.Names.{how_many, Cfg, ConnectKeeps, World, Event, happens, after, run, AreInOctets, link_of, all_at, ThroughoutAlong, AreLinksOf}
use Rattle.x25_line.proofs.sessions.SessionsForgotten.{Alike as AlikeAlone, happens_alike, turned_alike}
use Rattle.x25_line.specs.laws.{SessionNumbers.{Standing, standing_happens, standing_run, standing_at, EachUpStandsWith, StandingGoesAlong}, Sessions.{asked}}
use Rattle.x25_world.proofs.{Known.{IsConfigured, is_configured}, Names.{SessionLaws, Lasts, runs_alike, other, LinkSettings, LinkStation}}
use Rattle.x25_world.proofs.{WorldLemmas.{run_append}, sessions.SessionJoined.{SessionsJoined}, sessions.SessionReaches.{Leads, then_leads, joined_at}}
use Rattle.x25_world.proofs.sessions.SessionRuns.{EventGoes, next, begin_joined, throughout_joined}
use Rattle.x25_world.specs.laws.SessionWindow.{GoesOn, StandsInWindow, SessionsStayInWindow}
use Rattle.x25_line.specs.laws.Stations as line
use Rattle.x25_line.specs.laws.Sessions as links

-- ---- along a run

-- after an event
abbrev pub After : {cfg : Cfg} {w : World} → SessionsJoined cfg Dte w → Event → Type 0
After {cfg} {w} h e = EventGoes cfg w h.links e (after w (happens cfg w e))

-- what was asked in it
abbrev pub asked_in : {cfg : Cfg} {w u : World} {v : Sessions} {e : Event} → EventGoes cfg w v e u → List line.LinkEvent
asked_in {e} j = all_at e.at j.asked

-- What is kept of two links and their numbers, with the sessions of a world, goes on with each event. Where they are then behind the world, they go on
-- along a run.
module _ (laws : SessionLaws) {cfg : Cfg} (fine : IsConfigured cfg) {V S : Type 0} (Behind : World → V → S → Type 0)
    (runs : List line.LinkEvent → V → V) (counts : List line.LinkEvent → V → S → S) (here : World) (Holds : World → Sessions → V → S → Type 0)
    (stands : (events : List Event) (w : World) (h : SessionsJoined cfg Dte w) → AreInOctets events → run cfg events w ≡ here → (v : V) (s : S)
    → Holds w h.links v s → Behind w v s)
    (goes : (w : World) (h : SessionsJoined cfg Dte w) (e : Event) (j : After h e) (v : V) (s : S) → Holds w h.links v s
    → Holds (after w (happens cfg w e)) j.goes.joined.links (runs (asked_in j) v) (counts (asked_in j) v s)) where
  pub along : (events : List Event) {w : World} (h : SessionsJoined cfg Dte w) → AreInOctets events → run cfg events w ≡ here → (v : V) (s : S)
      → Holds w h.links v s → GoesOn Behind runs counts cfg here events w v s
  along [] h octets is v s st = rw (sym is) (stands [] _ h octets is v s st)
  along (e ∷ events) h octets is v s st =
      let j = next laws cfg fine h e octets.0 in
      (stands (e ∷ events) _ h octets is v s st, j.asked, j.may, along events j.goes.joined octets.1 is (runs (asked_in j) v) _ (goes _ h e j v s st))

-- ---- links that have the stations of these and the octets on their lines do alike

abbrev IsOf : SessionEnd → StationEnd → Type 0
IsOf e s = s.station ≡ e.station

of_lasts : Lasts IsOf
of_lasts = record { station = λ e s h. h; steps = λ e s h down step. refl }

abbrev AreOf : Sessions → line.Stations → Type 0
AreOf v s = AlikeAlone IsOf ⊥ v s

-- the stations and the lines of a world
abbrev end_in : LinkStation → StationEnd
end_in s = record { station = s; down = []; up = []; reasons = []; came_up = false }

abbrev seen_in : World → line.Stations
seen_in w = record { near = end_in w.near.link; far = end_in w.far.link; out = w.out; back = w.back; sent = [] }

-- ---- and timer T1 is as timely

many_same : (kind : Said → ℕ) (from : Role) (n1 : ℕ) (es fs : List links.Entry) → octets_of fs ≡ octets_of es
    → how_many kind (letters from n1 fs) ≡ how_many kind (letters from n1 es)
many_same kind from n1 [] [] is = refl
many_same kind from n1 (e ∷ es) (f ∷ fs) is =
    let first : f.octets ≡ e.octets = cc in
    let rest : octets_of fs ≡ octets_of es = cc in
    ap₂ (λ octets n. kind (said (frame_of from n1 octets)) + n) first (many_same kind from n1 es fs rest)
many_same kind from n1 es fs is = absurd (cc)

asked_same : (c d : LinkSettings) {v x : Sessions} {s : line.Stations} → AreOf v s → AreOf x s → asked c d x ≡ asked c d v
asked_same c d {v} {x} f g =
    ap₂ (λ n m. n + m) (many_same sabm_of (other d.role) d.longest v.out x.out (sym g.out ∙ f.out))
    (many_same ua_of (other c.role) c.longest v.back x.back (sym g.back ∙ f.back))

timely_same : (c d : LinkSettings) (act : line.Act) {v x : Sessions} {s : line.Stations} → AreOf v s → AreOf x s → IsTimely c d act v → IsTimely c d act x
timely_same c d line.T1 {v} {x} {s} f g timely = λ waiting. asked_same c d f g ∙ timely (ap (λ t. t.phase) (sym f.near ∙ g.near) ∙ waiting)
timely_same c d act f g timely = tt

timely_at_same : (c d : LinkSettings) (e : line.LinkEvent) (v x : Sessions) (s : line.Stations) → AreOf v s → AreOf x s → IsTimelyAt c d e v
    → IsTimelyAt c d e x
timely_at_same c d (line.Near act) v x s f g timely = timely_same c d act f g timely
timely_at_same c d (line.Far act) v x s f g timely =
    timely_same d c act (turned_alike f) (turned_alike g) timely

all_timely_same : (c d : LinkSettings) (es : List line.LinkEvent) {v x : Sessions} {s : line.Stations} → AreOf v s → AreOf x s → AreTimely c d es v
    → AreTimely c d es x
all_timely_same c d [] f g timely = tt
all_timely_same c d (e ∷ es) {v} {x} {s} f g timely = (
  timely_at_same c d e v x s f g timely.0,
  all_timely_same c d es (happens_alike of_lasts c d e f) (happens_alike of_lasts c d e g) timely.1,
)

-- ---- a run, and more behind it

standing_append : (P : Standing → Type 0) (c d : LinkSettings) (xs ys : List line.LinkEvent) (v : Sessions) (s : Standing)
    → P (standing_run c d ys (links.run c d xs v) (standing_run c d xs v s)) → P (standing_run c d (xs ++ ys) v s)
standing_append P c d [] ys v s h = h
standing_append P c d (x ∷ xs) ys v s h = standing_append P c d xs ys (links.happens c d x v) (standing_happens c d x v s) h

octets_before : (xs ys : List Event) → AreInOctets (xs ++ ys) → AreInOctets xs
octets_before [] ys h = tt
octets_before (x ∷ xs) ys h = (h.0, octets_before xs ys h.1)

octets_behind : (xs ys : List Event) → AreInOctets (xs ++ ys) → AreInOctets ys
octets_behind [] ys h = h
octets_behind (x ∷ xs) ys h = octets_behind xs ys h.1

-- ---- links that have the links and the lines of a world

pub record Alike (w : World) (v : Sessions) : Type 0 where
  pub near : v.near.station ≡ w.near.link
  pub far : v.far.station ≡ w.far.link
  pub out : octets_of v.out ≡ w.out
  pub back : octets_of v.back ≡ w.back

seen_alike : {w : World} {v : Sessions} → Alike w v → AreOf v (seen_in w)
seen_alike h = record { near = sym h.near; far = sym h.far; out = sym h.out; back = sym h.back; sent = λ never. absurd never }

-- a world and the sessions of its links are alike
pub joined_alike : {cfg : Cfg} {w : World} (h : SessionsJoined cfg Dte w) → Alike w h.links
joined_alike h = record { near = h.near.link; far = h.far.link; out = h.out; back = h.back }

-- any go on so by what an event asks
pub record AlikeGoes (cfg : Cfg) (u : World) (events : List line.LinkEvent) (v : Sessions) : Type 0 where
  pub timely : AreTimely (link_of cfg Dte) (link_of cfg Dce) events v
  pub alike : Alike u (links.run (link_of cfg Dte) (link_of cfg Dce) events v)

pub alike_goes : {cfg : Cfg} {w : World} (h : SessionsJoined cfg Dte w) {e : Event} (j : After h e) {v : Sessions} → Alike w v
    → AlikeGoes cfg (after w (happens cfg w e)) (asked_in j) v
alike_goes {cfg} {w} h j like =
    let c = link_of cfg Dte in
    let d = link_of cfg Dce in
    let es = asked_in j in
    let before = seen_alike (joined_alike h) in
    let behind : AreOf j.goes.joined.links (line.run c d es (seen_in w)) =
    subst (λ x. AreOf x (line.run c d es (seen_in w))) j.leads.run (runs_alike of_lasts c d es before) in
    let now = runs_alike of_lasts c d es (seen_alike like) in
    let there = joined_alike j.goes.joined in
    record {
      timely = all_timely_same c d es before (seen_alike like) j.leads.timely;
      alike = record {
        near = sym now.near ∙ behind.near ∙ there.near;
        far = sym now.far ∙ behind.far ∙ there.far;
        out = sym now.out ∙ behind.out ∙ there.out;
        back = sym now.back ∙ behind.back ∙ there.back;
      };
    }

-- ---- over set-up and re-set-up

-- a run of links that are so
pub run_of : (cfg : Cfg) {w : World} (events : List line.LinkEvent) {v : Sessions} → Leads (link_of cfg Dte) (link_of cfg Dce) events from_nothing v → Alike w v
    → AreLinksOf cfg w v
run_of cfg events leads like = (
  standing_run (link_of cfg Dte) (link_of cfg Dce) events from_nothing (standing_at (link_of cfg Dte) (link_of cfg Dce) from_nothing),
  record {
    events = events;
    timely = leads.timely;
    run = leads.run;
    standing = refl;
    near = like.near;
    far = like.far;
    out = like.out;
    back = like.back;
  },
)

-- the links of a world are those of a run of two links
pub links_are : {cfg : Cfg} {w : World} (h : SessionsJoined cfg Dte w) → AreLinksOf cfg w h.links
links_are {cfg} h = run_of cfg h.reach.events h.reach.leads (joined_alike h)

module _ (law : StandingGoesAlong) (cfg : Cfg) (fine : IsConfigured cfg) where
  abbrev c : LinkSettings
  c = link_of cfg Dte

  abbrev d : LinkSettings
  d = link_of cfg Dce

  abbrev first : Standing
  first = standing_at c d from_nothing

  stood : (events : List line.LinkEvent) (v : Sessions) (s : Standing) → AreTimely c d events from_nothing → links.run c d events from_nothing ≡ v
      → standing_run c d events from_nothing first ≡ s → EachUpStandsWith c d v s
  stood events v s timely runs stands =
      rw (sym stands) (subst (λ x. EachUpStandsWith c d x (standing_run c d events from_nothing first)) runs
      (law c d (joined_at Dte fine) from_nothing (inl refl) events timely))

  -- some two links are behind each world of a run
  some_stand : {w : World} (h : SessionsJoined cfg Dte w) → StandsInWindow cfg w h.links (links_are h).0
  some_stand h = (let r = (links_are h).1 in (r, stood r.events h.links (links_are h).0 r.timely r.run r.standing))

  -- any that are go on by an event
  stand_next : (w : World) (h : SessionsJoined cfg Dte w) (e : Event) (j : After h e) (v : Sessions) (s : Standing) → StandsInWindow cfg w v s
      → StandsInWindow cfg (after w (happens cfg w e)) (links.run c d (asked_in j) v) (standing_run c d (asked_in j) v s)
  stand_next w h e j v s st =
      let r = st.0 in
      let es = asked_in j in
      let g = alike_goes h j (record { near = r.near; far = r.far; out = r.out; back = r.back }) in
      let all : Leads c d (r.events ++ es) from_nothing (links.run c d es v) =
      then_leads (record { timely = r.timely; run = r.run }) (record { timely = g.timely; run = refl }) in
      let stands : standing_run c d (r.events ++ es) from_nothing first ≡ standing_run c d es v s =
      standing_append (λ z. z ≡ standing_run c d es v s) c d r.events es from_nothing first
      (ap₂ (λ x z. standing_run c d es x z) r.run r.standing) in (
        record {
          events = r.events ++ es;
          timely = all.timely;
          run = all.run;
          standing = stands;
          near = g.alike.near;
          far = g.alike.far;
          out = g.alike.out;
          back = g.alike.back;
        },
        stood (r.events ++ es) (links.run c d es v) (standing_run c d es v s) all.timely all.run stands,
      )

pub sessions_stay : (laws : SessionLaws) → ConnectKeeps → StandingGoesAlong → ThroughoutAlong SessionsStayInWindow
sessions_stay laws keeps law cfg fine begin is events octets =
    let at = is_configured cfg fine in
    let h = begin_joined laws keeps at is in
    let c = link_of cfg Dte in
    let d = link_of cfg Dce in
    record {
      begins = (h.links, (links_are h).0, some_stand law cfg at h);
      goes_on = λ past more all v s st.
          (let split = subst AreInOctets (sym all) octets in
          along laws at (StandsInWindow cfg) (links.run c d) (standing_run c d) (run cfg events begin) (λ w u x z. StandsInWindow cfg w x z)
          (λ after w j in_octets to x z so. so) (stand_next law cfg at) more
          (throughout_joined laws keeps cfg fine begin is past (octets_before past more split)) (octets_behind past more split)
          (sym (run_append cfg past more begin) ∙ ap (λ es. run cfg es begin) all) v s st);
    }

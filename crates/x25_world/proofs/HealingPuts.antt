-- How the two links of a world heal while the layers put packets: each event of the world asks a link for a delivery, where octets come, and then for
-- packets that are handed down to it.
use Rattle.x25_world.proofs.Names.{◌≡◌, ℕ, List, [], ◌∷◌, ◌++◌, Bool, true, false, refl, sym, ap, ◌∙◌, subst, Role, Dte, Dce, Waiting, IsAtRest, Sessions}
use Rattle.x25_world.proofs.Names.{IsTimely, AreTimely, Each, AreFree, Cfg, ConnectKeeps, World, Event, happens, after, run, AreInOctets, SessionLaws}
use Rattle.x25_world.proofs.Names.{Throughout, all_at, firing, AreReceiptsAndRequests, FreeThroughout, HealsWithPuts, links_append, puts_of, LinkSettings}
use Rattle.x25_line.specs.laws.HealingPuts.{LinkMayHeal, IsDeliverOrPut, IsDeliveryOrPut, SessionsFreeThroughout, SessionsHaveArrived, PutsHealSessions}
use Rattle.x25_link.specs.{Station.{is_busy}, declared.phase.Phase.{Phase}}
use Rattle.x25_world.proofs.{HealingLemmas.{c_of, d_of, both_alike, none_of, fired_then, gone_are}, Known.{IsConfigured, is_configured, true_false}}
use Rattle.x25_world.proofs.{Names.{LinkStation, is_up, awaits_ua}, sessions.SessionJoined.{SessionsJoined}}
use Rattle.x25_world.proofs.sessions.{SessionReaches.{TakesAndPuts, asked_of, known_sessions}, SessionRuns.{next, throughout_joined}}
use Rattle.x25_world.proofs.sessions.SessionsAlong.{Alike, joined_alike, alike_goes, links_are}
use Rattle.x25_line.specs.laws.Stations as line
use Rattle.x25_line.specs.laws.Sessions as links

-- ---- events are deliveries and packets that are put

puts_are : (at : Role) (packets : List (List ℕ)) (rest : List line.LinkEvent) → Each IsDeliveryOrPut rest
    → Each IsDeliveryOrPut (all_at at (puts_of packets) ++ rest)
puts_are at [] rest h = h
puts_are Dte (p ∷ packets) rest h = (tt, puts_are Dte packets rest h)
puts_are Dce (p ∷ packets) rest h = (tt, puts_are Dce packets rest h)

asked_are : (at : Role) (comes : Bool) (packets : List (List ℕ)) (rest : List line.LinkEvent) → Each IsDeliveryOrPut rest
    → Each IsDeliveryOrPut (all_at at (asked_of comes packets) ++ rest)
asked_are at false packets rest h = puts_are at packets rest h
asked_are Dte true packets rest h = (tt, puts_are Dte packets rest h)
asked_are Dce true packets rest h = (tt, puts_are Dce packets rest h)

-- packets are put whatever waits

puts_free : (c d : LinkSettings) (at : Role) (packets : List (List ℕ)) (rest : List line.LinkEvent) (v : Sessions)
    → SessionsFreeThroughout c d rest (links.run c d (all_at at (puts_of packets)) v)
    → SessionsFreeThroughout c d (all_at at (puts_of packets) ++ rest) v
puts_free c d at [] rest v h = h
puts_free c d Dte (p ∷ packets) rest v h = (tt, puts_free c d Dte packets rest _ h)
puts_free c d Dce (p ∷ packets) rest v h = (tt, puts_free c d Dce packets rest _ h)

asked_free : (c d : LinkSettings) (at : Role) (comes : Bool) (packets : List (List ℕ)) (rest : List line.LinkEvent) (v : Sessions)
    → (comes ≡ true → AreFree v.near.station v.far.station)
    → SessionsFreeThroughout c d rest (links.run c d (all_at at (asked_of comes packets)) v)
    → SessionsFreeThroughout c d (all_at at (asked_of comes packets) ++ rest) v
asked_free c d at false packets rest v free h = puts_free c d at packets rest v h
asked_free c d Dte true packets rest v free h = (free refl, puts_free c d Dte packets rest _ h)
asked_free c d Dce true packets rest v free h = (free refl, puts_free c d Dce packets rest _ h)

free_alike : {w : World} {v : Sessions} → Alike w v → AreFree w.near.link w.far.link → AreFree v.near.station v.far.station
free_alike like free = (ap is_busy like.near ∙ free.0, ap is_busy like.far ∙ free.1)

-- whichever of these was asked

taken_are : {s t : LinkStation} (at : Role) (asked : List line.Act) (rest : List line.LinkEvent) → TakesAndPuts s t asked → Each IsDeliveryOrPut rest
    → Each IsDeliveryOrPut (all_at at asked ++ rest)
taken_are at asked rest t h = rw t.is (asked_are at t.comes t.handed rest h)

taken_free : (c d : LinkSettings) (at : Role) (asked : List line.Act) (rest : List line.LinkEvent) {w : World} (v : Sessions) → Alike w v
    → TakesAndPuts w.near.link w.far.link asked → SessionsFreeThroughout c d rest (links.run c d (all_at at asked) v)
    → SessionsFreeThroughout c d (all_at at asked ++ rest) v
taken_free c d at asked rest v like t h = rw t.is (asked_free c d at t.comes t.handed rest v (λ some. free_alike like (t.free some))
    (subst (λ acts. SessionsFreeThroughout c d rest (links.run c d (all_at at acts) v)) t.is h))

-- the links go by such events where the world goes by these
record AllAsked (cfg : Cfg) (u : World) (v : Sessions) : Type 0 where
  pub asked : List line.LinkEvent
  pub are : Each IsDeliveryOrPut asked
  pub free : SessionsFreeThroughout (c_of cfg) (d_of cfg) asked v
  pub alike : Alike u (links.run (c_of cfg) (d_of cfg) asked v)

all_asked : (laws : SessionLaws) {cfg : Cfg} → IsConfigured cfg → (events : List Event) {w : World} → SessionsJoined cfg Dte w → {v : Sessions}
    → Alike w v → AreReceiptsAndRequests events → AreInOctets events → FreeThroughout cfg events w
    → AllAsked cfg (run cfg events w) v
all_asked laws fine [] {w} h {v} like are octets free = record { asked = []; are = tt; free = free_alike like free; alike = like }
all_asked laws {cfg} fine (e ∷ events) {w} h {v} like are octets free =
    let c = c_of cfg in
    let d = d_of cfg in
    let j = next laws cfg fine h e octets.0 in
    let a = j.freely are.0 free.0 in
    let first = all_at e.at j.asked in
    let r = all_asked laws fine events j.goes.joined (alike_goes h j like).alike are.1 octets.1 free.1 in
    record {
      asked = first ++ r.asked;
      are = taken_are e.at j.asked r.asked a r.are;
      free = taken_free c d e.at j.asked r.asked v like a r.free;
      alike = subst (Alike (run cfg events (after w (happens cfg w e)))) (sym (links_append c d first r.asked v)) r.alike;
    }

-- ---- the law

up_off : (p : Phase) → is_up p ≡ true → awaits_ua p ≡ false
up_off Waiting up = true_false (sym up)
up_off p up = refl

timely_act : (c d : LinkSettings) (act : line.Act) (v : Sessions) → IsDeliverOrPut act → IsTimely c d act v
timely_act c d line.Deliver v is = tt
timely_act c d (line.Put packet) v is = tt
timely_act c d act v is = absurd is

asked_timely : (c d : LinkSettings) (es : List line.LinkEvent) (v : Sessions) → Each IsDeliveryOrPut es → AreTimely c d es v
asked_timely c d [] v are = tt
asked_timely c d (line.Near act ∷ es) v are = (timely_act c d act v are.0, asked_timely c d es (links.acts c act v) are.1)
asked_timely c d (line.Far act ∷ es) v are = (timely_act d c act (links.swapped v) are.0, asked_timely c d es (links.happens c d (line.Far act) v) are.1)

abbrev HealsOnce : LinkSettings → LinkSettings → Sessions → Type 0
HealsOnce c d x =
    x.out ≡ [] → x.back ≡ [] → LinkMayHeal c.retries x.near.station → LinkMayHeal d.retries x.far.station → (more : List line.LinkEvent)
    → Each IsDeliveryOrPut more
    → (let fired = links.run c d (line.Near line.T1 ∷ line.Far line.T1 ∷ []) x in SessionsFreeThroughout c d more fired
    → (let v = links.run c d more fired in v.out ≡ [] → v.back ≡ [] → SessionsHaveArrived x v))

module _ (laws : SessionLaws) (keeps : ConnectKeeps) where
  pub heals_with_puts : PutsHealSessions → Throughout HealsWithPuts
  heals_with_puts law cfg fine begin is events octets may more are more_octets free after_all =
      record {
        dte = subst IsAtRest all.alike.near arrived.near_rest;
        dce = subst IsAtRest all.alike.far arrived.far_rest;
        before = h.links;
        behind = gone;
        before_are = links_are h;
        behind_are = gone_are h near_off far_off all.asked (asked_timely (c_of cfg) (d_of cfg) all.asked fired all.are) all.alike;
        asked = all.asked;
        are = all.are;
        goes = refl;
        arrived = arrived;
      }
    where
      w : World
      w = run cfg events begin

      configured : IsConfigured cfg
      configured = is_configured cfg fine

      h : SessionsJoined cfg Dte w
      h = throughout_joined laws keeps cfg fine begin is events octets

      near_off : awaits_ua w.near.link.phase ≡ false
      near_off = up_off w.near.link.phase may.near.up

      far_off : awaits_ua w.far.link.phase ≡ false
      far_off = up_off w.far.link.phase may.far.up

      both : World
      both = run cfg (firing Dte ∷ firing Dce ∷ []) w

      fired : Sessions
      fired = links.run (c_of cfg) (d_of cfg) (fired_then []) h.links

      all : AllAsked cfg (run cfg more both) fired
      all = all_asked laws configured more (next laws cfg configured (next laws cfg configured h (firing Dte) tt).goes.joined (firing Dce) tt).goes.joined
          (both_alike cfg (joined_alike h) near_off far_off)
          are more_octets free

      u : World
      u = run cfg more both

      gone : Sessions
      gone = links.run (c_of cfg) (d_of cfg) all.asked fired

      arrived : SessionsHaveArrived h.links gone
      arrived =
          known_sessions HealsOnce law configured h.reach (none_of h.links.out (h.out ∙ may.drained.out)) (none_of h.links.back (h.back ∙ may.drained.back))
          (subst (LinkMayHeal cfg.n2) (sym h.near.link) may.near) (subst (LinkMayHeal cfg.n2) (sym h.far.link) may.far) all.asked all.are all.free
          (none_of gone.out (all.alike.out ∙ after_all.out)) (none_of gone.back (all.alike.back ∙ after_all.back))

-- Two links over set-up and re-set-up, as either end sees them: a run of the same events, with the ends swapped; and what an act of a world asks
-- of the link of its end.
use Rattle.x25_world.proofs.Names.{◌≡◌, ℕ, inl, List, [], ◌∷◌, ◌++◌, Bool, true, false, refl, sym, ap, ◌∙◌, subst, Role, Dte, Dce, AreFree, Sessions}
use Rattle.x25_world.proofs.Names.{from_nothing, IsTimelyAt, AreTimely, Each, Cfg, Settings, settings_from, World, Act, link_of, Asks, all_at}
use Rattle.x25_line.proofs.{HealingSteps.{timely_append}, ends.Meetings.{twice_turned}}
use Rattle.x25_line.specs.laws.{SessionClaims.{Throughout}, StationClaims.{AreJoined}}
use Rattle.x25_world.proofs.{Known.{IsConfigured, true_false}, Names.{IsReceiptOrRequest, puts_of, all_act, LinkSettings, LinkStation, other, links_append}}
use Rattle.x25_world.specs.Healing.{ActsFreely}
use Rattle.x25_line.specs.laws.Stations as line
use Rattle.x25_line.specs.laws.Sessions as links

-- ---- the ends swapped

pub twice : (w : Sessions) → links.swapped (links.swapped w) ≡ w
twice w = ap (λ met. record { near = w.near; far = w.far; out = w.out; back = w.back; met = met; sent = w.sent }) (twice_turned w.met)

abbrev flipped : line.LinkEvent → line.LinkEvent
flipped (line.Near act) = line.Far act
flipped (line.Far act) = line.Near act

abbrev all_flipped : List line.LinkEvent → List line.LinkEvent
all_flipped [] = []
all_flipped (e ∷ es) = flipped e ∷ all_flipped es

event_flipped : (c d : LinkSettings) (e : line.LinkEvent) (w : Sessions) → links.happens d c (flipped e) (links.swapped w)
    ≡ links.swapped (links.happens c d e w)
event_flipped c d (line.Near act) w = ap (λ x. links.swapped (links.acts c act x)) (twice w)
event_flipped c d (line.Far act) w = sym (twice (links.acts d act (links.swapped w)))

timely_at : (c d : LinkSettings) (e : line.LinkEvent) (w : Sessions) → IsTimelyAt c d e w → IsTimelyAt d c (flipped e) (links.swapped w)
timely_at c d (line.Near act) w h = rw (twice w) h
timely_at c d (line.Far act) w h = h

-- ---- one run and another

-- by these events the links go from the first to the second
pub record Leads (c d : LinkSettings) (events : List line.LinkEvent) (v u : Sessions) : Type 0 where
  pub timely : AreTimely c d events v
  pub run : links.run c d events v ≡ u

-- one run of links behind another
pub then_leads : {c d : LinkSettings} {xs ys : List line.LinkEvent} {v u x : Sessions} → Leads c d xs v u → Leads c d ys u x → Leads c d (xs ++ ys) v x
then_leads {c} {d} {xs} {ys} {v} h g = record {
  timely = timely_append c d xs ys v h.timely (rw h.run g.timely);
  run = links_append c d xs ys v ∙ ap (links.run c d ys) h.run ∙ g.run;
}

leads_flipped : {c d : LinkSettings} (es : List line.LinkEvent) {v u : Sessions} → Leads c d es v u
    → Leads d c (all_flipped es) (links.swapped v) (links.swapped u)
leads_flipped [] h = record { timely = tt; run = ap links.swapped h.run }
leads_flipped {c} {d} (e ∷ es) {v} h =
    let rest = leads_flipped es (record { timely = h.timely.1; run = h.run }) in
    record {
      timely = (timely_at c d e v h.timely.0, subst (AreTimely d c (all_flipped es)) (sym (event_flipped c d e v)) rest.timely);
      run = ap (links.run d c (all_flipped es)) (event_flipped c d e v) ∙ rest.run;
    }

-- ---- as an end sees them

pub twice_other : (end : Role) (P : Role → Type 0) → P end → P (other (other end))
twice_other Dte P h = h
twice_other Dce P h = h

pub record SessionsReach (cfg : Cfg) (end : Role) (v : Sessions) : Type 0 where
  pub events : List line.LinkEvent
  pub leads : Leads (link_of cfg end) (link_of cfg (other end)) events from_nothing v

pub reach_swapped : (cfg : Cfg) (end : Role) (v : Sessions) → SessionsReach cfg end v → SessionsReach cfg (other end) (links.swapped v)
reach_swapped cfg end v h = record {
  events = all_flipped h.events;
  leads = twice_other end (λ e. Leads (link_of cfg (other end)) (link_of cfg e) (all_flipped h.events) from_nothing (links.swapped v))
      (leads_flipped h.events h.leads);
}

-- and on by more
pub reach_on : {cfg : Cfg} {end : Role} {es : List line.LinkEvent} {v u : Sessions} → SessionsReach cfg end v
    → Leads (link_of cfg end) (link_of cfg (other end)) es v u → SessionsReach cfg end u
reach_on {es} h leads = record { events = h.events ++ es; leads = then_leads h.leads leads }

-- the settings of the two links of a world agree
pub joined_at : {cfg : Cfg} (end : Role) → IsConfigured cfg → AreJoined (link_of cfg end) (link_of cfg (other end))
joined_at end fine = record {
  near_role = twice_other end (λ e. e ≡ end) refl;
  far_role = refl;
  longest = refl;
  near_low = fine.low;
  near_high = fine.high;
  far_low = fine.low;
  far_high = fine.high;
}

-- what always holds of two links
pub known_sessions : (P : _) → Throughout P → {cfg : Cfg} → IsConfigured cfg → {end : Role} {v : Sessions} → SessionsReach cfg end v
    → P (link_of cfg end) (link_of cfg (other end)) v
known_sessions P law {cfg} fine {end} h =
    rw (sym h.leads.run) (law (link_of cfg end) (link_of cfg (other end)) (joined_at end fine) from_nothing (inl refl) h.events h.leads.timely)

-- ---- what an act asks of the link of its end

-- what comes is taken, where it does, and then octets are put
abbrev pub asked_of : Bool → List (List ℕ) → List line.Act
asked_of true handed = line.Deliver ∷ puts_of handed
asked_of false handed = puts_of handed

-- so, and as octets are taken neither link is busy
pub record TakesAndPuts (near far : LinkStation) (asked : List line.Act) : Type 0 where
  pub comes : Bool
  pub handed : List (List ℕ)
  pub is : asked ≡ asked_of comes handed
  pub free : comes ≡ true → AreFree near far

pub turned_takes : {near far : LinkStation} {asked : List line.Act} → TakesAndPuts near far asked → TakesAndPuts far near asked
turned_takes t = record { comes = t.comes; handed = t.handed; is = t.is; free = λ some. ((t.free some).1, (t.free some).0) }

-- these acts, one after another
pub record AreAsked (c : Settings) (w : World) (act : Act) (asked : List line.Act) : Type 0 where
  pub may : Each (Asks act) asked
  pub freely : IsReceiptOrRequest act → ActsFreely c w.near w.far.link w.back act → TakesAndPuts w.near.link w.far.link asked

pub each_put : (P : line.Act → Type 0) → ((octets : List ℕ) → P (line.Put octets)) → (handed : List (List ℕ)) → Each P (puts_of handed)
each_put P puts [] = tt
each_put P puts (octets ∷ handed) = (puts octets, each_put P puts handed)

pub asks_puts : {c : Settings} {w : World} {act : Act} → ((octets : List ℕ) → Asks act (line.Put octets)) → (handed : List (List ℕ))
    → AreAsked c w act (puts_of handed)
asks_puts {act} asks handed = record {
  may = each_put (Asks act) asks handed;
  freely = λ are free. record { comes = false; handed = handed; is = refl; free = λ some. true_false (sym some) };
}

-- By them the links go from the first to the second.
pub record Asked (cfg : Cfg) (end : Role) (w : World) (act : Act) (v u : Sessions) : Type 0 where
  pub asked : List line.Act
  pub is : AreAsked (settings_from end cfg) w act asked
  pub leads : Leads (link_of cfg end) (link_of cfg (other end)) (all_at Dte asked) v u

pub asks_nothing : {cfg : Cfg} {end : Role} {w : World} {act : Act} {v : Sessions} → Asked cfg end w act v v
asks_nothing = record {
  asked = [];
  is = record { may = tt; freely = λ are free. record { comes = false; handed = []; is = refl; free = λ some. true_false (sym some) } };
  leads = record { timely = tt; run = refl };
}

-- and then octets are put
puts_lead : (c d : LinkSettings) (os : List (List ℕ)) (v : Sessions) → Leads c d (all_at Dte (puts_of os)) v (all_act c (puts_of os) v)
puts_lead c d [] v = record { timely = tt; run = refl }
puts_lead c d (o ∷ os) v = (let r = puts_lead c d os (links.acts c (line.Put o) v) in record { timely = (tt, r.timely); run = r.run })

all_append : (first more : List line.Act) → all_at Dte (first ++ more) ≡ all_at Dte first ++ all_at Dte more
all_append [] more = refl
all_append (act ∷ first) more = ap (λ es. line.Near act ∷ es) (all_append first more)

-- acts of the link, and what is put after them
pub then_puts : {cfg : Cfg} {end : Role} {w : World} {act : Act} {v u : Sessions} (first : List line.Act)
    → Leads (link_of cfg end) (link_of cfg (other end)) (all_at Dte first) v u → (handed : List (List ℕ))
    → AreAsked (settings_from end cfg) w act (first ++ puts_of handed) → Asked cfg end w act v (all_act (link_of cfg end) (puts_of handed) u)
then_puts {cfg} {end} {u} first leads handed is = record {
  asked = first ++ puts_of handed;
  is = is;
  leads = rw (all_append first (puts_of handed)) (then_leads leads (puts_lead (link_of cfg end) (link_of cfg (other end)) handed u));
}

-- at the far end

turned_acts : (asked : List line.Act) → all_flipped (all_at Dte asked) ≡ all_at Dce asked
turned_acts [] = refl
turned_acts (act ∷ asked) = ap (λ es. line.Far act ∷ es) (turned_acts asked)

pub leads_turned : {c d : LinkSettings} (asked : List line.Act) {v u : Sessions} → Leads d c (all_at Dte asked) (links.swapped v) u
    → Leads c d (all_at Dce asked) v (links.swapped u)
leads_turned {c} {d} asked {v} {u} h =
    subst (λ x. Leads c d (all_at Dce asked) x (links.swapped u)) (twice v)
    (subst (λ es. Leads c d es (links.swapped (links.swapped v)) (links.swapped u)) (turned_acts asked) (leads_flipped (all_at Dte asked) h))

-- Where a stretch is open, the sessions of both ends that stand meet each other; and where the one end is idle, all arrived.
use Rattle.x25_world.proofs.Names.{◌≡◌, ℕ, ◌≤◌, inl, inr, List, [], length, Bool, true, false, Some, refl, sym, ap, ◌∙◌, subst, arith, Option, None}
use Rattle.x25_world.proofs.Names.{if◌then◌else◌, ◌==◌, zero, suc, nat_le, eqb-true, eq-eqb, leb-true, and_parts, Role, Dte, Dce, other, is_up, Meeting}
use Rattle.x25_world.proofs.Names.{IdleHasArrived, State, Open, is_open_in, is_open, Circuit, waits, Name, Ranges, Layer, rested, is_channel, name_of, HasAllOf}
use Rattle.x25_world.proofs.Names.{waits_up_to, Cfg, settings_from, Station, IsKept, stretch, World, last_session, handed_in, meets, AllArrive, SessionLaws}
use Rattle.std.proofs.lemmas.Bool.{true_from_ne_false}
use Rattle.x25_circuit.specs.Circuit.{is_free_in}
use Rattle.x25_layer.specs.laws.Law.{IsIdleTo}
use Rattle.x25_line.specs.laws.SessionClaims.{EachMeetsLatest}
use Rattle.x25_station.specs.Station.Told.{is_idle}
use Rattle.x25_world.proofs.{Growing.{all_read, as_read, none_read, as_many}, Known.{IsConfigured, true_false}, Names.{all_some, OpenStretchesMeet}}
use Rattle.x25_world.proofs.sessions.{SessionJoined.{HasMet, PairIsInOrder, SessionsJoined, sessions_swapped}, SessionKnown.{some_map, met_in_order, of_either}}
use Rattle.x25_world.proofs.sessions.{SessionReaches.{known_sessions}, SessionTrace.{layer_of, Done, own_in, own}}
use Rattle.x25_link.specs.Link as link
use Rattle.x25_layer.specs.laws.TwoLayers as layer

-- ---- a stretch that is open

pub record IsStretch (channels : Ranges) (l : Layer) (k : ℕ) (name : Name) : Type 0 where
  pub channel : is_channel channels k ≡ true
  pub opened : is_open (l.circuits k) ≡ true
  pub named : name_of l k ≡ name

abbrev pub name_if : Bool → Name → Option Name
name_if b name = if b then Some name else None

abbrev pub open_if : Bool → Bool → Bool
open_if b o = if b then o else false

pub stretch_of : (channels : Ranges) (l : Layer) (k : ℕ) (name : Name) → name_if (open_if (is_channel channels k) (is_open (l.circuits k))) (name_of l k)
    ≡ Some name → IsStretch channels l k name
stretch_of channels l k name is = by (is_channel channels k) (is_open (l.circuits k)) refl refl is
  where
    some_is : (m n : Name) → Some m ≡ Some n → m ≡ n
    some_is m n e = cc

    by : (b o : Bool) → is_channel channels k ≡ b → is_open (l.circuits k) ≡ o → name_if (open_if b o) (name_of l k) ≡ Some name → IsStretch channels l k name
    by true true channel opened there = record { channel = channel; opened = opened; named = some_is (name_of l k) name there }
    by true false channel opened there = absurd (cc)
    by false o channel opened there = absurd (cc)

none_waits : (circuits : ℕ → Circuit) (n k : ℕ) → waits_up_to circuits n ≡ 0 → 1 ≤ k → k ≤ n → waits (circuits k) ≡ 0
none_waits circuits zero k none low high = absurd (omega arith)
none_waits circuits (suc n) k none low high =
    let parts : (waits_up_to circuits n ≡ 0) × (waits (circuits (suc n)) ≡ 0) = (omega (arith, none), omega (arith, none)) in
    by (k == suc n) refl (λ below. none_waits circuits n k parts.0 low below) parts.1
  where
    lower : k ≤ suc n → (k ≡ suc n → ⊥) → k ≤ n
    lower le not_same = omega (arith, le, not_same)

    by : (b : Bool) → (k == suc n) ≡ b → (k ≤ n → waits (circuits k) ≡ 0) → waits (circuits (suc n)) ≡ 0 → waits (circuits k) ≡ 0
    by true is rest here = ap (λ j. waits (circuits j)) (eqb-true k (suc n) is) ∙ here
    by false is rest here = rest (lower high (λ e. true_false (sym (eq-eqb k (suc n) e) ∙ is)))

-- ---- an end that is idle

-- between an idle end and the other one, where all that its link was handed down arrived, and the same stretch is open at both
idle_between : (cfg : Cfg) (end : Role) (s t : Station) (giver taker : layer.End) (k : ℕ) (name : Name) → giver.layer ≡ s.layer → taker.layer ≡ t.layer
    → is_idle (settings_from end cfg) s ≡ true
    → stretch (settings_from end cfg) s k ≡ Some name → stretch (settings_from (other end) cfg) t k ≡ Some name → as_read taker.taken ≡ as_read giver.given
    → IsIdleTo k giver taker (length giver.given)
idle_between cfg end s t giver taker k name of_giver of_taker idle here there all =
    let both = and_parts (link.is_idle s.link) (waits_up_to s.layer.circuits cfg.channels.count == 0) idle in
    let opened = stretch_of cfg.channels s.layer k name here in
    let opened_there = stretch_of cfg.channels t.layer k name there in
    let bounds = and_parts (nat_le 1 k) (nat_le k cfg.channels.count) opened.channel in
    let none : waits (s.layer.circuits k) ≡ 0 =
    none_waits s.layer.circuits cfg.channels.count k (eqb-true (waits_up_to s.layer.circuits cfg.channels.count) 0 both.1) (leb-true 1 k bounds.0)
    (leb-true k cfg.channels.count bounds.1) in
    record {
      all_acked = refl;
      acked_taken = omega (arith, as_many taker.taken giver.given all);
      no_message = ap (λ l. waits (l.circuits k)) of_giver ∙ none;
      opened = ap (λ l. is_open (l.circuits k)) of_giver ∙ opened.opened;
      opened_there = ap (λ l. is_open (l.circuits k)) of_taker ∙ opened_there.opened;
      same_name = ap (λ l. name_of l k) of_giver ∙ opened.named ∙ sym (ap (λ l. name_of l k) of_taker ∙ opened_there.named);
    }

-- ---- an open stretch

not_both : (s : State) → is_free_in s ≡ true → is_open_in s ≡ true → ⊥
not_both Open free opened = absurd (cc)
not_both s free opened = absurd (cc)

-- the link is up
pub up_where_open : {s : Station} (k : ℕ) → IsKept s → is_open (s.layer.circuits k) ≡ true → is_up s.link.phase ≡ true
up_where_open {s} k kept opened = true_from_ne_false (is_up s.link.phase) (λ off. rested_not (ap (λ l. is_open (l.circuits k)) (sym (kept.rests off)) ∙ opened))
  where
    rested_not : is_open ((rested s.layer).circuits k) ≡ true → ⊥
    rested_not e = cc

-- ---- of two layers in order

module _ (laws : SessionLaws) (cfg : Cfg) where
  -- of any two ends
  abbrev ArrivesFrom : Role → layer.End → layer.End → Type 0
  ArrivesFrom end giver taker = (k acked : ℕ) → IsIdleTo k giver taker acked → HasAllOf k (name_of giver.layer k) giver.entries taker.entries

  own_arrives : (end : Role) (n m : ℕ) (trace : List Done) → PairIsInOrder cfg end trace n m
      → ArrivesFrom end (own cfg end n trace) (own cfg (other end) m trace)
  own_arrives = of_either laws cfg ArrivesFrom
      (λ events order. (let both = laws.layers_arrive cfg.long_data cfg.channels events order in (both.near, both.far)))

-- the sessions of both ends that stand meet each other, as the near end sees it
pub record StandingMeet (cfg : Cfg) (end : Role) (w : World) (h : SessionsJoined cfg end w) : Type 0 where
  pub up : is_up w.near.link.phase ≡ true
  pub told : meets end h.links.near.begun w.transcript ≡ Some h.links.far.begun
  pub has_met : HasMet h.links.near.begun h.links.far.begun h.links.met
  pub begun : (1 ≤ h.links.near.begun) × (1 ≤ h.links.far.begun)

module _ (laws : SessionLaws) {cfg : Cfg} (fine : IsConfigured cfg) where
  -- ---- the sessions that stand

  pub meet_from : {end : Role} {w : World} (h : SessionsJoined cfg end w) (k : ℕ) (name : Name)
      → stretch (settings_from end cfg) w.near k ≡ Some name → StandingMeet cfg end w h
  meet_from {end} {w} h k name here = elim (h.near_hears n)
      [ inl none ↦ absurd (not_silent none.0) | inr one ↦ standing one.session (is_latest one.session one.has_met) one.told one.has_met one.begun.1 ]
    where
      n : ℕ
      n = h.links.near.begun

      open_here : is_open (w.near.layer.circuits k) ≡ true
      open_here = (stretch_of cfg.channels w.near.layer k name here).opened

      up : is_up w.near.link.phase ≡ true
      up = up_where_open k h.near.kept open_here

      -- an end that took nothing has no channel open
      not_silent : h.links.near.up n ≡ [] → ⊥
      not_silent nothing =
          let e = own cfg end n h.trace in
          let session = h.near.sessions n (h.near.first up) (omega arith) in
          let silent = laws.alone (layer_of cfg end) (own_in end n h.trace) (none_read e.taken (sym session.up ∙ ap (all_read cfg) nothing)) in
          not_both (e.layer.circuits k).state (silent.free k) (ap (λ l. is_open (l.circuits k)) (h.near.now up).layer ∙ open_here)

      is_latest : (m : ℕ) → HasMet n m h.links.met → m ≡ h.links.far.begun
      is_latest m met =
          all_some (λ p. p.near ≡ n → p.far ≡ h.links.far.begun) (λ p. (p.near ≡ n) × (p.far ≡ m)) (m ≡ h.links.far.begun)
          (λ (p : Meeting) only is. sym is.1 ∙ only is.0) h.links.met
          ((known_sessions EachMeetsLatest laws.agree fine h.reach).near (ap (λ x. is_up x.phase) h.near.link ∙ up)) met

      standing : (m : ℕ) → m ≡ h.links.far.begun → meets end n w.transcript ≡ Some m → HasMet n m h.links.met → 1 ≤ m → StandingMeet cfg end w h
      standing m same told met low = record {
        up = up;
        told = told ∙ ap (λ x. Some x) same;
        has_met = rw (sym same) met;
        begun = (h.near.first up, subst (λ x. 1 ≤ x) same low);
      }

  pub latest_near : {end : Role} {w : World} (h : SessionsJoined cfg end w) → h.links.near.begun ≡ last_session end w
  latest_near h = sym (ap (λ p. p.begun) h.near.progress)

  pub latest_far : {end : Role} {w : World} (h : SessionsJoined cfg end w) → h.links.far.begun ≡ last_session (other end) w
  latest_far h = sym (ap (λ p. p.begun) h.far.progress)

  latest_meet : {end : Role} {w : World} (h : SessionsJoined cfg end w) (k : ℕ) (name : Name)
      → stretch (settings_from end cfg) w.near k ≡ Some name
      → meets end (last_session end w) w.transcript ≡ Some (last_session (other end) w)
  latest_meet {end} {w} h k name here =
      rw (sym (latest_near h)) ((meet_from h k name here).told ∙ ap (λ m. Some m) (latest_far h))

  -- where a stretch is open at both ends the sessions that stand meet
  pub open_stretches_meet : (w : World) → SessionsJoined cfg Dte w → OpenStretchesMeet cfg w
  open_stretches_meet w h Dte channel there name name_there here at_other = latest_meet h channel name here
  open_stretches_meet w h Dce channel there name name_there here at_other = latest_meet (sessions_swapped h) channel name here

  -- ---- all arrived

  arrives_from : {end : Role} {w : World} → SessionsJoined cfg end w → (k : ℕ) (name : Name) → is_idle (settings_from end cfg) w.near
      ≡ true → stretch (settings_from end cfg) w.near k ≡ Some name
      → stretch (settings_from (other end) cfg) w.far k ≡ Some name
      → HasAllOf k name (handed_in end (last_session end w) w) (handed_in (other end) (last_session (other end) w) w)
  arrives_from {end} {w} h k name idle here there =
      let stands = meet_from h k name here in
      let n = h.links.near.begun in
      let m = h.links.far.begun in
      let giver = own cfg end n h.trace in
      let taker = own cfg (other end) m h.trace in
      let of_giver = (h.near.now stands.up).layer in
      let of_taker = (h.far.now (up_where_open k h.far.kept (stretch_of cfg.channels w.far.layer k name there).opened)).layer in
      let near_session = h.near.sessions n stands.begun.0 (omega arith) in
      let far_session = h.far.sessions m stands.begun.1 (omega arith) in
      let met = some_map (λ p. p.near ≡ n) (λ (p : Meeting) is. is.0) h.links.met stands.has_met in
      let arrived = (known_sessions IdleHasArrived laws.idle fine h.reach).near
      (ap (λ x. link.is_idle x) h.near.link ∙ (and_parts (link.is_idle w.near.link) (waits_up_to w.near.layer.circuits cfg.channels.count == 0) idle).0)
      (inr met) in
      let all : as_read taker.taken ≡ as_read giver.given = sym far_session.up ∙ ap (all_read cfg) arrived ∙ near_session.down in
      let named : name_of giver.layer k ≡ name = ap (λ l. name_of l k) of_giver ∙ (stretch_of cfg.channels w.near.layer k name here).named in
      let order = met_in_order cfg end h.trace h.links.met n m h.pairs stands.has_met in
      let has_all = own_arrives laws cfg end n m h.trace order k (length giver.given)
      (idle_between cfg end w.near w.far giver taker k name of_giver of_taker idle here there all) in
      subst (λ x. HasAllOf k name (handed_in end x w) (handed_in (other end) (last_session (other end) w) w)) (latest_near h)
      (rw (sym (latest_far h)) (subst (λ x. HasAllOf k x (handed_in end n w) (handed_in (other end) m w)) named
      (subst (λ es. HasAllOf k (name_of giver.layer k) es (handed_in (other end) m w)) near_session.entries
      (subst (λ es. HasAllOf k (name_of giver.layer k) giver.entries es) far_session.entries has_all))))

  -- an idle end's messages have come
  pub all_arrive : (w : World) → SessionsJoined cfg Dte w → AllArrive cfg w
  all_arrive w h Dte k name idle here there = arrives_from h k name idle here there
  all_arrive w h Dce k name idle here there = arrives_from (sessions_swapped h) k name idle here there

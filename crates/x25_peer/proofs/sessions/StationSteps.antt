-- A step of the station beside a peer over sessions: what stands goes on with what its layer moves by.
use Rattle.x25_peer.proofs.Names.{◌≡◌, ℕ, suc, ◌≤◌, List, [], ◌∷◌, ◌++◌, Bool, true, false, if◌then◌else◌, Option, Some, None, refl, sym, ap, ap₂, subst, ◌∙◌}
use Rattle.x25_peer.proofs.Names.{append-nil, eq-eqb, arith, PlainFrame, PlainPacket, Entry, Meeting, Sessions, begun_by, extended, both_ends, with_peer, End}
use Rattle.x25_peer.proofs.Names.{TwoLayers, Settings, link_settings, StationEntry, layer_entries, layer_notices, Station, Step, led_by, follows, IsKept}
use Rattle.x25_peer.proofs.Names.{ReadAs, Own, BesideSessions, in_session, links, LinkSettings, LinkStation, is_up, LinkStep}
use Rattle.x25_layer.specs.Layer.{rested, restart_cause}
use Rattle.x25_link.specs.{Station.{Side}, declared.phase.Reason.{Reason}, laws.NoteLaw.{IsQuiet, Tells}}
use Rattle.x25_packet.specs.Packet.{restart}
use Rattle.x25_peer.proofs.ReadLemmas.{ReadFirst, layer_append, notices_append, read_append, back_reads, read_first}
use Rattle.x25_peer.proofs.sessions.LinkSteps.{SessionGoes, StepGoes, step_as, spelled, PutsRead, puts_spelled, puts_up, puts_of, all_act, puts_go, puts_last}
use Rattle.x25_peer.proofs.sessions.{Meetings.{CanMeet, true_false}, SessionLinks.{Reach, acts_reach, goes_reached}}
use Rattle.x25_peer.proofs.sessions.Standing.{Below, in_here, in_other, both_cases, down_in, up_in, IsStanding, IsKnown, PairReached, Stands, into}
use Rattle.x25_peer.specs.laws.BesideSessions.{own_after, stepped}
use Rattle.x25_station.specs.{Entry.{link_down, entries_noted}, laws.JoinLaw.{station_with, MovesAs}, laws.ReadLaw.{at_start}}
use Rattle.x25_line.specs.laws.Stations as line
use Rattle.x25_layer.specs.laws.PeerJoined as layer_peer

-- entries that aren't the layer's
pub record AreSilent (es : List StationEntry) : Type 0 where
  pub entries : layer_entries es ≡ []
  pub told : layer_notices es ≡ []

pub silent_append : {xs ys : List StationEntry} → AreSilent xs → AreSilent ys → AreSilent (xs ++ ys)
silent_append {xs} {ys} f g = record {
  entries = layer_append xs ys ∙ ap₂ (λ a b. a ++ b) f.entries g.entries;
  told = notices_append xs ys ∙ ap₂ (λ a b. a ++ b) f.told g.told;
}

noted_silent : (down : Option Reason) (up : Bool) → AreSilent (entries_noted (record { down = down; up = up }))
noted_silent None true = record { entries = refl; told = refl }
noted_silent None false = record { entries = refl; told = refl }
noted_silent (Some reason) true = record { entries = refl; told = refl }
noted_silent (Some reason) false = record { entries = refl; told = refl }

-- its link has stepped, and then its layer, by a command that has these entries; by LinkUp a session begins
abbrev pub followed : Settings → BesideSessions → List StationEntry → List Entry → List Meeting → LinkStep → BesideSessions
followed c w asked back met k = stepped c w (begun_by k.notes.up w.begun) back met (led_by asked (follows c w.near k))

-- there is more in this session
pub extended_here : (lists : ℕ → List (List ℕ)) (session : ℕ) (more : List (List ℕ)) → extended lists session more session ≡ lists session ++ more
extended_here lists session more = ap (λ b. if b then lists session ++ more else lists session) (eq-eqb session session refl)

-- what is known of a session is of the station as it is where that is up, and else as it was
after_up : (own : Own) (step : Step) → is_up step.near.link.phase ≡ true → own_after own step
    ≡ record { station = step.near; entries = own.entries ++ step.entries }
after_up own step up = ap (λ b. record { station = if b then step.near else own.station; entries = own.entries ++ step.entries }) up

after_out : (own : Own) (step : Step) → is_up step.near.link.phase ≡ false → own_after own step
    ≡ record { station = own.station; entries = own.entries ++ step.entries }
after_out own step out = ap (λ b. record { station = if b then step.near else own.station; entries = own.entries ++ step.entries }) out

module _ (below : Below) (c : Settings) (low : 1 ≤ c.window) (high : c.window ≤ 7) (few : c.channels.count ≤ 4095) (w : BesideSessions) (h : Stands c w) where
  abbrev pub lc : LinkSettings
  lc = link_settings c

  -- from these links the station's goes so to what is reached
  abbrev pub GoesTo : Sessions → ℕ → LinkStation → List PlainFrame → List (List ℕ) → List (List ℕ) → List Entry → List Meeting → Type 0
  GoesTo v session link frames handed lifted left met = Reach lc w.peer v × SessionGoes lc (both_ends (links w)) v session link frames handed lifted left met

  -- then it holds what it was handed down and up in this session
  module _ {session : ℕ} {link : LinkStation} {frames : List PlainFrame} {handed lifted : List (List ℕ)} {left : List Entry} {met : List Meeting}
      {v : Sessions} (g : GoesTo v session link frames handed lifted left met) (up : is_up link.phase ≡ true) where
    there : is_up v.near.station.phase ≡ true
    there = ap (λ s. is_up s.phase) g.1.station ∙ up

    more_down : link.outgoing.given ≡ down_in (w.own session) ++ handed
    more_down =
        ap (λ s. s.outgoing.given) (sym g.1.station) ∙ sym ((below.lists lc low high (with_peer w.peer v) g.0).down there)
        ∙ ap v.near.down g.1.begun ∙ g.1.down session ∙ extended_here (λ n. down_in (w.own n)) session handed

    more_up : link.taken ≡ up_in (w.own session) ++ lifted
    more_up =
        ap (λ s. s.taken) (sym g.1.station) ∙ sym ((below.lists lc low high (with_peer w.peer v) g.0).up there)
        ∙ ap v.near.up g.1.begun ∙ g.1.up session ∙ extended_here (λ n. up_in (w.own n)) session lifted

  -- The station has stepped in this session, of which this is known then.
  steps : {session : ℕ} (e : End) (own : Own) (step : Step) {handed lifted : List (List ℕ)} {left : List Entry} {met : List Meeting} {v : Sessions}
      → GoesTo v session step.near.link step.out handed lifted left met → own_after (w.own session) step ≡ own
      → down_in own ≡ down_in (w.own session) ++ handed → up_in own ≡ up_in (w.own session) ++ lifted
      → (is_up step.near.link.phase ≡ true → IsStanding c e own step.near) → IsKnown c e own
      → w.begun ≤ session → ((n m : ℕ) → CanMeet n m met → CanMeet n m w.met)
      → ((m : ℕ) → CanMeet session m met → PairReached c e (up_in own) (w.theirs m) (h.puts m)) → IsKept step.near
      → Stands c (stepped c w session left met step)
  steps {session} e own step {handed} {lifted} {left} {met} {v} g is down up now known over could pairs kept =
      subst (λ o. Stands c (record (stepped c w session left met step) { own = in_session session o w.own })) (sym is)
      (record {
        ends = in_session session e h.ends;
        puts = h.puts;
        link = goes_reached (links w) (λ n. down_in (in_session session own w.own n)) (λ n. up_in (in_session session own w.own n)) g.0 g.1
            (into down_in w.own session own handed down) (into up_in w.own session own lifted up);
        now = λ on. rw (in_here session e h.ends, in_here session own w.own) (now on);
        each = both_cases (λ n x o. IsKnown c x o) session e h.ends own w.own known (λ n differs. h.each n);
        later = λ n above. (let differs : (n ≡ session → ⊥) = λ is. (omega (arith, above, is)) in
            let before = h.later n (omega (arith, over, above)) in
            record { end = in_other session n e h.ends differs ∙ before.end; known = in_other session n own w.own differs ∙ before.known });
        peers = h.peers;
        anew = h.anew;
        pairs = λ n m can. both_cases (λ i x o. CanMeet i m met → PairReached c x (up_in o) (w.theirs m) (h.puts m)) session e h.ends own w.own
            (λ yes. pairs m yes) (λ i differs yes. h.pairs i m (could i m yes)) n can;
        kept = kept;
      })

  -- What its layer tells and takes is what it was: this is the station that is known of the session then.
  quietly : (session : ℕ) (x : Station) (step : Step) {handed : List (List ℕ)} {left : List Entry} {met : List Meeting} {v : Sessions}
      → GoesTo v session step.near.link step.out handed [] left met
      → own_after (w.own session) step ≡ record { station = x; entries = (w.own session).entries ++ step.entries }
      → x.link.outgoing.given ≡ down_in (w.own session) ++ handed → x.link.taken ≡ up_in (w.own session) ++ []
      → (is_up step.near.link.phase ≡ true → (x ≡ step.near) × ReadAs c x.link.outgoing.given (h.ends session).given)
      → (h.ends session).layer ≡ x.layer → ReadFirst c x.link.outgoing.given (h.ends session).given → AreSilent step.entries
      → w.begun ≤ session → ((n m : ℕ) → CanMeet n m met → CanMeet n m w.met) → IsKept step.near
      → Stands c (stepped c w session left met step)
  quietly session x step {handed} {left} {met} {v} g is down up now layer begins silent over could kept =
      let e = h.ends session in
      let known = h.each session in
      let own = w.own session in
      let same = up ∙ append-nil (up_in own) in
      steps e (record { station = x; entries = own.entries ++ step.entries }) step g is down up
      (λ on. record { station = (now on).0; handed = (now on).1 })
      (record {
        layer = layer;
        out = known.out;
        entries = known.entries ∙ sym (append-nil (layer_entries own.entries)) ∙ ap (λ l. layer_entries own.entries ++ l) (sym silent.entries)
            ∙ sym (layer_append own.entries step.entries);
        told = known.told ∙ sym (append-nil (layer_notices own.entries)) ∙ ap (λ l. layer_notices own.entries ++ l) (sym silent.told)
            ∙ sym (notices_append own.entries step.entries);
        begins = begins;
        alone = λ none. known.alone (sym same ∙ none);
      })
      over could (λ m yes. subst (λ u. PairReached c e u (w.theirs m) (h.puts m)) (sym same) (h.pairs session m (could session m yes))) kept

  -- ---- nothing is asked of the layer

  rests : (step : Step) {left : List Entry} {met : List Meeting} {v : Sessions} → GoesTo v w.begun step.near.link step.out [] [] left met
      → (is_up step.near.link.phase ≡ true → (is_up w.near.link.phase ≡ true) × (step.near.layer ≡ w.near.layer)) → AreSilent step.entries
      → ((n m : ℕ) → CanMeet n m met → CanMeet n m w.met) → IsKept step.near → Stands c (stepped c w w.begun left met step)
  rests step {left} {met} {v} g stays silent could kept = by (is_up step.near.link.phase) refl
    where
      by : (up : Bool) → is_up step.near.link.phase ≡ up → Stands c (stepped c w w.begun left met step)
      by true up =
          let was = h.now (stays up).0 in
          let down = more_down g up in
          let same : step.near.link.outgoing.given ≡ down_in (w.own w.begun) = down ∙ append-nil (down_in (w.own w.begun)) in
          quietly w.begun step.near step g (after_up (w.own w.begun) step up) down (more_up g up)
          (λ _. (refl, subst (λ d. ReadAs c d (h.ends w.begun).given) (sym same) was.handed))
          ((h.each w.begun).layer ∙ ap (λ s. s.layer) was.station ∙ sym (stays up).1)
          (subst (λ d. ReadFirst c d (h.ends w.begun).given) (sym same) (h.each w.begun).begins) silent (omega (arith)) could kept
      by false out =
          quietly w.begun (w.own w.begun).station step g (after_out (w.own w.begun) step out) (sym (append-nil (down_in (w.own w.begun))))
          (sym (append-nil (up_in (w.own w.begun)))) (λ up. true_false (sym up ∙ out)) (h.each w.begun).layer (h.each w.begun).begins silent
          (omega (arith)) could kept

  -- ---- the layer moves, and what it puts goes down to the link, behind the link's own step to this side

  abbrev links_on : List (List ℕ) → Sessions → Sessions
  links_on os v = all_act lc (puts_of os) v

  put_on : {b : ℕ} {packets : List PlainPacket} {os : List (List ℕ)} {t : Side} {step : Step} {lifted : List (List ℕ)} {left : List Entry} {met : List
      Meeting} {v : Sessions} → PutsRead c t packets os step
      → GoesTo v b t.near t.out [] lifted left met → GoesTo (links_on os v) b step.near.link step.out os lifted left met
  put_on {b} {packets} {os} {t} {step} {lifted} {left} {met} {v} p g = (
    puts_last lc (Reach lc w.peer) (λ o x reach. acts_reach (line.Put o) x tt reach) os g.0,
    puts_go c (both_ends (links w)) v b packets os t step lifted left met g.1 p,
  )

  pub goes : (far : End) (o r : List PlainPacket) {ps : List PlainPacket} {os : List (List ℕ)} {x : TwoLayers} {t : Side} {step : Step} {lifted : List
      (List ℕ)} {left : List Entry} {met : List Meeting} {v : Sessions} → is_up w.near.link.phase ≡ true → is_up t.near.phase ≡ true
      → MovesAs (record { near = h.ends w.begun; far = far; out = o; back = r }) x ps step → PutsRead c t ps os step
      → GoesTo v w.begun t.near t.out [] lifted left met
      → (up_in (w.own w.begun) ++ lifted ≡ [] → x.near.told ≡ []) → ((n m : ℕ) → CanMeet n m met → CanMeet n m w.met)
      → ((m : ℕ) → CanMeet w.begun m met → PairReached c x.near (up_in (w.own w.begun) ++ lifted) (w.theirs m) (h.puts m))
      → IsKept step.near
      → Stands c (stepped c w w.begun left met step)
  goes far o r {ps} {os} {x} {t} {step} {lifted} {left} {met} {v} was_up up m put g alone could pairs kept =
      let own = w.own w.begun in
      let old = h.ends w.begun in
      let known = h.each w.begun in
      let on = put_on put g in
      let still = puts_up below.put_tells put up in
      let down : step.near.link.outgoing.given ≡ down_in own ++ os = more_down on still in
      let ups : step.near.link.taken ≡ up_in own ++ lifted = more_up on still in
      let handed : ReadAs c step.near.link.outgoing.given x.near.given =
      subst (λ ds. ReadAs c ds x.near.given) (sym down) (subst (λ xs. ReadAs c (down_in own ++ os) xs) (sym m.given)
      (read_append c (down_in own) os old.given ps (h.now was_up).handed (back_reads c os ps put.readable))) in
      steps x.near (record { station = step.near; entries = own.entries ++ step.entries }) step on (after_up own step still) down ups
      (λ _. record { station = refl; handed = handed })
      (record {
        layer = m.layer;
        out = m.up;
        entries = m.entries ∙ ap (λ l. l ++ layer_entries step.entries) known.entries ∙ sym (layer_append own.entries step.entries);
        told = m.told ∙ ap (λ l. l ++ layer_notices step.entries) known.told ∙ sym (notices_append own.entries step.entries);
        begins = read_first c step.near.link.outgoing.given x.near.given handed;
        alone = λ none. alone (sym ups ∙ none);
      })
      (omega (arith)) could (λ m yes. subst (λ u. PairReached c x.near u (w.theirs m) (h.puts m)) (sym ups) (pairs m yes)) kept

  -- ---- the link has stepped, and hands nothing up

  module _ (asked : List StationEntry) (silent : AreSilent asked) (left : List Entry) (met : List Meeting) (k : LinkStep) (tells : Tells w.near.link k)
      (none : k.packet ≡ None) (v : Sessions) (reach : Reach lc w.peer v)
      (g : StepGoes lc (both_ends (links w)) v k left met) (could : (n m : ℕ) → CanMeet n m met → CanMeet n m w.met)
      (kept : IsKept (follows c w.near k).near) where
    abbrev whole : Step
    whole = led_by asked (follows c w.near k)

    link_at : (up : Bool) → k.notes.up ≡ up → GoesTo v (begun_by up w.begun) k.side.near k.side.out [] [] left met
    link_at up is = (reach, step_as k up None is none g)

    quiet_step : IsQuiet k → Stands c (stepped c w w.begun left met whole)
    quiet_step quiet =
        let is = below.still c w.near k none quiet in
        let step : Step = record { near = station_with k.side.near w.near.layer w.near.turn; out = k.side.out; entries = [] } in
        subst (λ s. Stands c (stepped c w w.begun left met (led_by asked s))) (sym is)
        (rests (led_by asked step) (link_at false (ap (λ n. n.up) quiet)) (λ up. (sym (tells.stays quiet) ∙ up, refl))
        (silent_append silent (record { entries = refl; told = refl })) could
        (subst (λ s. IsKept s.near) is kept))

    down_step : (reason : Reason) → k.notes ≡ record { down = Some reason; up = false } → Stands c (stepped c w w.begun left met whole)
    down_step reason noted =
        let is = below.down c w.near k reason noted in
        let off = tells.left reason (ap (λ n. n.down) noted) (ap (λ n. n.up) noted) in
        let step : Step = record { near = station_with k.side.near (rested w.near.layer) w.near.turn; out = k.side.out; entries = link_down reason ∷ [] } in
        subst (λ s. Stands c (stepped c w w.begun left met (led_by asked s))) (sym is)
        (rests (led_by asked step) (link_at false (ap (λ n. n.up) noted)) (λ up. true_false (sym up ∙ off))
        (silent_append silent (record { entries = refl; told = refl })) could
        (subst (λ s. IsKept s.near) is kept))

    up_step : k.notes.up ≡ true → Stands c (stepped c w (suc w.begun) left met whole)
    up_step up =
        let b = suc w.begun in
        let e = h.ends b in
        let u = below.up c w.near k up (tells.fresh_up up) in
        let ps = restart (restart_cause c.role) 0 ∷ [] in
        let before = h.later b (omega (arith)) in
        let given : e.given ≡ ps = ap (λ x. x.given) before.end ∙ refl in
        let readable = below.readable c.wide c.role c.long_data c.channels few (layer_peer.start c.role c.long_data c.channels) at_start in
        let put = puts_spelled {packets = ps} {step = whole} (record { accepted = u.link.accepted; link = u.link.link; out = u.link.out }) readable in
        let still = puts_up below.put_tells put (ap (λ s. is_up s.phase) (tells.fresh_up up)) in
        let on = put_on put (link_at true up) in
        let down = more_down on still in
        let spelling : whole.near.link.outgoing.given ≡ spelled ps = down ∙ ap (λ o. down_in o ++ spelled ps) before.known in
        let handed : ReadAs c whole.near.link.outgoing.given e.given =
        subst (λ d. ReadAs c d e.given) (sym spelling) (rw given (back_reads c (spelled ps) ps put.readable)) in
        quietly b whole.near whole on (after_up (w.own b) whole still) down (more_up on still) (λ _. (refl, handed))
        (ap (λ x. x.layer) before.end ∙ sym u.layer) (read_first c whole.near.link.outgoing.given e.given handed)
        (silent_append silent (subst AreSilent (sym u.entries) (noted_silent k.notes.down k.notes.up))) (omega (arith)) could kept

    pub follows_on : Stands c (followed c w asked left met k)
    follows_on = by k.notes.up k.notes.down refl refl
      where
        by : (up : Bool) (down : Option Reason) → k.notes.up ≡ up → k.notes.down ≡ down → Stands c (followed c w asked left met k)
        by true down up is = subst (λ u. Stands c (stepped c w (begun_by u w.begun) left met whole)) (sym up) (up_step up)
        by false None up is = subst (λ u. Stands c (stepped c w (begun_by u w.begun) left met whole)) (sym up)
            (quiet_step (ap₂ (λ d u. record { down = d; up = u }) is up))
        by false (Some reason) up is =
            subst (λ u. Stands c (stepped c w (begun_by u w.begun) left met whole)) (sym up) (down_step reason (ap₂ (λ d u. record { down = d; up = u }) is up))

-- A station over sessions, and what is known of it as an end that keeps the rules, after each of its steps.
use Rattle.x25_line.proofs.Names.{◌≡◌, ◌≤◌, ◌<◌, ◌==◌, ℕ, suc, ◌+◌, List, [], ◌++◌, inl, inr, length, true, false, Option, None, refl, sym, ap, ◌∙◌, subst}
use Rattle.x25_line.proofs.Names.{arith, eq-eqb, option_to_list, Phase, Up, LinkSettings, is_up, with_nothing, fresh, LinkStep, Window, Input, window_of}
use Rattle.x25_line.proofs.Names.{after_input, Stays, Entry, SessionEnd, start_with, Meeting, Sessions, letters, sent_in, begun_by, extended, after_step, Peer}
use Rattle.x25_line.proofs.{Names.{fresh_peer, put_for, AreOf, sabm_of, how_many}, StationAway.{is_up_phase}, StationHears.{UpFacts}, StationSays.{machine_of}}
use Rattle.x25_line.proofs.{StationSends.{AllWithin}, StationSteps.{not_both}, ends.Lines.{are_none}, ends.Puts.{same_or_other, put_same, put_apart}}
use Rattle.x25_line.proofs.sessions.{Letters.{are_sent}, SessionHeld.{extended_nil, extended_same, extended_other}, SessionMay.{Known, Kind}}
use Rattle.x25_line.proofs.sessions.{SessionSays.{runs_said}, SessionSteps.{stepped}}

-- what was handed down or taken, by sessions, once more of it came in this one
pub put_packets : (b : ℕ) (r : Peer) (all : ℕ → Peer) (lists : ℕ → List (List ℕ)) (more : List (List ℕ)) (f : Peer → List (List ℕ)) → f r ≡ f (all b) ++ more
    → ((n : ℕ) → f (all n) ≡ lists n)
    → (n : ℕ) → f (put_for b r all n) ≡ extended lists b more n
put_packets b r all lists more f grows same n = elim (same_or_other n b) [
  | inl is ↦ ap f (put_same b n r all is) ∙ grows ∙ ap (λ xs. xs ++ more) (same b) ∙ sym (extended_same lists b more) ∙ ap (extended lists b more) (sym is)
  | inr not ↦ ap f (put_apart b n r all not) ∙ same n ∙ sym (extended_other lists b n more (λ is. not_both (n == b) (eq-eqb n b is) not))
]

module _ (d : LinkSettings) (R : Known) where
  -- the near end, with settings d
  pub record Seen (w : Sessions) : Type 0 where
    pub all : ℕ → Peer
    pub reached : R w.back w.met w.near.station.phase w.near.begun all w.out
    pub up : is_up w.near.station.phase ≡ true → UpFacts d w.near.station (all w.near.begun)
    pub given : (n : ℕ) → (all n).given ≡ w.near.down n
    pub taken : (n : ℕ) → (all n).taken ≡ w.near.up n
    pub later : (n : ℕ) → w.near.begun < n → (w.near.down n ≡ []) × (w.near.up n ≡ [])
    pub tags : AreOf w.near.begun (letters d.role d.longest w.out)

fresh_facts : (d : LinkSettings) (p : Phase) → UpFacts d (with_nothing p 0) fresh_peer
fresh_facts d p = record {
  same = refl;
  sound = record { place_low = omega arith; place_high = omega arith; sent_high = omega arith; room = omega arith };
  room = omega arith;
  told = omega arith;
  within = tt;
}

-- as a run begins
pub start_seen : (d : LinkSettings) (R : Known) {p : Phase} {b : ℕ} (far : SessionEnd) → R [] [] p b (λ n. fresh_peer) []
    → Seen d R (record (start_with p b) { far = far })
start_seen d R {p} far reached = record {
  all = λ n. fresh_peer;
  reached = reached;
  up = λ up. fresh_facts d p;
  given = λ n. refl;
  taken = λ n. refl;
  later = λ n less. (refl, refl);
  tags = tt;
}

module _ {d : LinkSettings} (k : Kind d) where
  abbrev R : Known
  R = k.R

  -- ---- after a step of the near end

  pub build : {w : Sessions} (h : Seen d R w) {es : List Entry} {met : List Meeting} (down : List (List ℕ)) (step : LinkStep) (all : ℕ → Peer) → step.notes.up
      ≡ false
      → R es met step.side.near.phase w.near.begun all (w.out ++ sent_in w.near.begun d.role step.side.out)
      → (is_up step.side.near.phase ≡ true → UpFacts d step.side.near (all w.near.begun)) → ((n : ℕ) → (all n).given ≡ extended w.near.down w.near.begun down n)
      → ((n : ℕ) → (all n).taken ≡ extended w.near.up w.near.begun (option_to_list step.packet) n) → Seen d R (after_step d w es met down step)
  build {w} h down step all quiet reached up given taken =
      rw (ap (λ b. begun_by b w.near.begun) quiet) (record {
        all = all;
        reached = reached;
        up = up;
        given = given;
        taken = taken;
        later = λ n less. (let old = h.later n less in (
          extended_other w.near.down w.near.begun n down (λ is. omega (arith, is, less)) ∙ old.0,
          extended_other w.near.up w.near.begun n (option_to_list step.packet) (λ is. omega (arith, is, less)) ∙ old.1,
        ));
        tags = are_sent d.role d.longest w.near.begun d.role step.side.out w.out h.tags;
      })

  -- nothing is handed down or up
  pub build_quiet : {w : Sessions} (h : Seen d R w) {es : List Entry} {met : List Meeting} (step : LinkStep) → step.notes.up ≡ false → step.packet ≡ None
      → is_up step.side.near.phase ≡ false
      → R es met step.side.near.phase w.near.begun h.all (w.out ++ sent_in w.near.begun d.role step.side.out) → Seen d R (after_step d w es met [] step)
  build_quiet {w} h {es} {met} step quiet none off reached =
      build h [] step h.all quiet reached (λ up. not_both (is_up step.side.near.phase) up off) (λ n. h.given n ∙ sym (extended_nil w.near.down w.near.begun n))
      (λ n. h.taken n ∙ sym (ap (λ o. extended w.near.up w.near.begun (option_to_list o) n) none ∙ extended_nil w.near.up w.near.begun n))

  -- LinkUp is noted
  pub build_up : {w : Sessions} (h : Seen d R w) {es : List Entry} (step : LinkStep) → step.notes.up ≡ true → step.side.near ≡ fresh → step.packet ≡ None
      → how_many sabm_of (letters d.role d.longest w.out) ≡ 0
      → R es w.met Up (suc w.near.begun) (put_for (suc w.near.begun) fresh_peer h.all) (w.out ++ sent_in (suc w.near.begun) d.role step.side.out)
      → Seen d R (after_step d w es w.met [] step)
  build_up {w} h {es} step up near none unasked reached =
      subst (λ n. Seen d R (stepped d w es w.met [] n step)) (sym (ap (λ b. begun_by b w.near.begun) up))
      (record {
        all = all;
        reached = rw (ap (λ s. s.phase) near) reached;
        up = λ _. rw near (subst (UpFacts d fresh) (sym (put_same b b fresh_peer h.all refl)) (fresh_facts d Up));
        given = λ n. put_packets b fresh_peer h.all w.near.down [] (λ p. p.given) (sym (ap (λ xs. xs ++ []) (h.given b ∙ (h.later b (omega arith)).0))) h.given
            n;
        taken = λ n. put_packets b fresh_peer h.all w.near.up [] (λ p. p.taken) (sym (ap (λ xs. xs ++ []) (h.taken b ∙ (h.later b (omega arith)).1))) h.taken n
            ∙ sym (ap (λ o. extended w.near.up b (option_to_list o) n) none);
        later = λ n less. (let old = h.later n (omega (arith, less)) in (
          extended_other w.near.down b n [] (λ is. omega (arith, is, less)) ∙ old.0,
          extended_other w.near.up b n (option_to_list step.packet) (λ is. omega (arith, is, less)) ∙ old.1,
        ));
        tags = are_sent d.role d.longest b d.role step.side.out w.out
            (are_none b (letters d.role d.longest w.out) unasked);
      })
    where
      b : ℕ
      b = suc w.near.begun

      all : ℕ → Peer
      all = put_for (suc w.near.begun) fresh_peer h.all

  -- ---- a station that stays Up

  -- the peer once what comes has come, before it sends
  pub record Ready (w : Sessions) (es : List Entry) (met : List Meeting) (down : List (List ℕ)) (packet : Option (List ℕ)) (v : Window) : Type 0 where
    pub all : ℕ → Peer
    pub reached : R es met Up w.near.begun all w.out
    pub is : machine_of d.window (all w.near.begun) ≡ v
    pub room : (all w.near.begun).sent ≤ (all w.near.begun).acked + d.window
    pub told : (all w.near.begun).told ≤ length (all w.near.begun).taken
    pub within : AllWithin d.longest (all w.near.begun).given
    pub given : (n : ℕ) → (all n).given ≡ extended w.near.down w.near.begun down n
    pub taken : (n : ℕ) → (all n).taken ≡ extended w.near.up w.near.begun (option_to_list packet) n

  -- a step by which it stays Up keeps what is seen of it
  pub stays_seen : {w : Sessions} (h : Seen d R w) {es : List Entry} {met : List Meeting} {down : List (List ℕ)} {input : Input} {step : LinkStep}
      → Ready w es met down step.packet (after_input input step.packet (window_of d.window w.near.station))
      → Stays d.window input w.near.station step → Seen d R (after_step d w es met down step)
  stays_seen {w} h {es} {met} {down} {input} {step} r stays =
      let said = runs_said k es met w.near.begun r.all w.out (after_input input step.packet (window_of d.window w.near.station)) r.reached r.is r.room r.told
      r.within
      (window_of d.window step.side.near) step.side.out stays.sends
      in
      let spoken = said.reached in
      build h down step spoken.all (ap (λ n. n.up) stays.quiet)
      (rw (is_up_phase step.side.near.phase stays.up) spoken.reached)
      (λ _. subst (UpFacts d step.side.near) (sym spoken.now)
      (record { same = said.is; sound = stays.sound; room = said.room; told = said.told; within = subst (AllWithin d.longest) (sym said.given) r.within }))
      (λ n. spoken.packets.given n ∙ r.given n) (λ n. spoken.packets.taken n ∙ r.taken n)

  -- the peer in its session, as it is
  pub reached_in : {w : Sessions} (h : Seen d R w) → is_up w.near.station.phase ≡ true → R w.back w.met Up w.near.begun h.all w.out
  reached_in {w} h up = rw (sym (is_up_phase w.near.station.phase up)) h.reached

  pub unchanged : {w : Sessions} (h : Seen d R w) → is_up w.near.station.phase ≡ true → {es : List Entry} {met : List Meeting}
      → R es met Up w.near.begun h.all w.out
      → (v : Window) → v ≡ window_of d.window w.near.station → (packet : Option (List ℕ)) → packet ≡ None → Ready w es met [] packet v
  unchanged {w} h up reached v is packet none =
      let f = h.up up in
      record {
        all = h.all;
        reached = reached;
        is = f.same ∙ sym is;
        room = f.room;
        told = f.told;
        within = f.within;
        given = λ n. h.given n ∙ sym (extended_nil w.near.down w.near.begun n);
        taken = λ n. h.taken n ∙ sym (ap (λ o. extended w.near.up w.near.begun (option_to_list o) n) none ∙ extended_nil w.near.up w.near.begun n);
      }

  -- what it is in this session is r
  pub changed : {w : Sessions} (h : Seen d R w) {es : List Entry} {met : List Meeting} (down : List (List ℕ)) (packet : Option (List ℕ)) (r : Peer)
      → R es met Up w.near.begun (put_for w.near.begun r h.all) w.out
      → (v : Window) → machine_of d.window r ≡ v → r.sent ≤ r.acked + d.window → r.told ≤ length r.taken → AllWithin d.longest r.given → r.given
      ≡ (h.all w.near.begun).given ++ down
      → r.taken ≡ (h.all w.near.begun).taken ++ option_to_list packet → Ready w es met down packet v
  changed {w} h down packet r reached v is room told within given taken =
      let b = w.near.begun in
      let now : put_for b r h.all b ≡ r = put_same b b r h.all refl in
      record {
        all = put_for b r h.all;
        reached = reached;
        is = ap (machine_of d.window) now ∙ is;
        room = rw now room;
        told = rw now told;
        within = rw now within;
        given = put_packets b r h.all w.near.down down (λ p. p.given) given h.given;
        taken = put_packets b r h.all w.near.up (option_to_list packet) (λ p. p.taken) taken h.taken;
      }

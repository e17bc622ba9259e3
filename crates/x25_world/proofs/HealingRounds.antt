-- Healing as a whole: firings, and rounds of pulls; all arrives.
use Rattle.x25_world.proofs.Names.{◌≡◌, ℕ, zero, suc, ◌+◌, ◌-◌, ◌*◌, ◌≤◌, ◌<◌, Bool, true, false, List, [], ◌∷◌, ◌++◌, length, ◌&&◌, inl, Option, Some, None}
use Rattle.x25_world.proofs.Names.{refl, sym, ap, ◌∙◌, subst, arith, and_parts, Role, Dte, Dce, Cfg, settings_from, layer_settings, config_refusal, Station}
use Rattle.x25_world.proofs.Names.{Outcome, Did, Refused, commands, LinkStation, is_up, timer_runs, IsAtRest, PullsAll, PullsNone, World, AtEnd, mirrored}
use Rattle.x25_world.proofs.Names.{WorldOutcome, Happened, Declined, of_station, swapped_back, Event, happens, after, run, AreInOctets, IsBeginning, Throughout}
use Rattle.x25_world.proofs.Names.{PullsLeaveNone, UnpulledWaitForUsers, receipt, all_received, firing, next_end, arrivals, deliveries, one_if, if_accepted}
use Rattle.x25_world.proofs.Names.{behind, received_in, IsDrained, AreReceiptsAndRequests, FreeThroughout, HealsWithPuts, RestShows, ShownWorld, FitsRun}
use Rattle.x25_world.proofs.Names.{is_none, Requests, is_at_rest, TellingWorld, GoesBy, each_append, ArrivesByHealing, RestShowsAll, both_tried, pull_round}
use Rattle.std.{proofs.lemmas.Bool.{not-true}, specs.Prelude.{is_some, not, option_map}}
use Rattle.x25_link.specs.Link.{is_idle}
use Rattle.x25_world.proofs.HealingSchedule.{count_append, tried_is, Begun, goes_on, rest_is}
use Rattle.x25_world.proofs.{Names.{pull_rounds, fire_and_pull, healing, most_times, pull_at}, WorldLemmas.{run_append, accepted_append, octets_append}}
use Rattle.x25_world.specs.{Healing.{AllArrives, unless_empty, received_by, BothMayHeal, HaveArrived}, code.FitsWorld.{Leaves}}
use Rattle.x25_world.specs.laws.WaitClaims.{AllWaitForUsers, HasNoneToPull}

-- ---- rounds

-- what is left behind a round
abbrev pub left_behind : Cfg → ℕ → ℕ → World → List Event
left_behind cfg most n w = unless_empty (pull_rounds cfg most n) w (next_end w.out w.back)

-- whether there is none, by whether there is some
pub none_by_some : {A B : Type 0} (f : A → B) (o : Option A) (b : Bool) → is_some o ≡ not b → b ≡ is_none (option_map f o)
none_by_some f None false e = absurd (cc)
none_by_some f (Some x) true e = absurd (cc)
none_by_some f o b e = refl

pub is_none_true : {A : Type 0} (o : Option A) → is_none o ≡ true → o ≡ None
is_none_true None e = refl
is_none_true (Some x) e = absurd (cc)

module _ (cfg : Cfg) (most : ℕ) where
  pub no_rounds : (n : ℕ) (w : World) → n ≡ 0 → pull_rounds cfg most n w ≡ []
  unfolding pull_rounds
  no_rounds n w e = ap (λ m. pull_rounds cfg most m w) e

  pub round_more : (n m : ℕ) (w : World) → n ≡ suc m → pull_rounds cfg most n w ≡ pull_round cfg most w
      ++ left_behind cfg most m (run cfg (pull_round cfg most w) w)
  unfolding pull_rounds
  round_more n m w e = ap (λ k. pull_rounds cfg most k w) e

  by_line : (rest : World → List Event) (w : World) (at : Option Role) → at ≡ None → unless_empty rest w at ≡ []
  by_line rest w None e = refl
  by_line rest w (Some at) e = absurd (cc)

  pub line_empty : (n : ℕ) (w : World) → next_end w.out w.back ≡ None → left_behind cfg most n w ≡ []
  line_empty n w e = by_line (pull_rounds cfg most n) w (next_end w.out w.back) e

  by_frames : (rest : World → List Event) (w : World) (at : Option Role) → is_none at ≡ false → unless_empty rest w at ≡ rest w
  by_frames rest w None e = absurd (cc)
  by_frames rest w (Some at) e = refl

  pub line_filled : (n : ℕ) (w : World) → is_none (next_end w.out w.back) ≡ false → left_behind cfg most n w ≡ pull_rounds cfg most n w
  line_filled n w e = by_frames (pull_rounds cfg most n) w (next_end w.out w.back) e

module _ (cfg : Cfg) (most : ℕ) (events : List Event) (w : World) (before : List AtEnd) (all done count : ℕ) where
  abbrev pub next_round : (v : TellingWorld) → done < all → Begun cfg events w v before (pull_rounds cfg most (all - done)) count
      → Begun cfg events w v before (behind cfg (pull_round cfg most) (left_behind cfg most (all - (done + 1)))) count
  next_round v low h =
      rest_is h (behind cfg (pull_round cfg most) (left_behind cfg most (all - (done + 1))))
      (round_more cfg most (all - done) (all - (done + 1)) (run cfg h.done w) (omega (arith, low)))

  pub round_done : {u : TellingWorld} (v : TellingWorld) (more : ℕ) (low : done < all)
      (h : Begun cfg events w u before (pull_rounds cfg most (all - done)) count)
      → (let x = run cfg h.done w in GoesBy cfg (pull_round cfg most x) x v before → more ≡ received_in (pull_round cfg most x)
      → Begun cfg events w v before (left_behind cfg most (all - (done + 1))) (count + more))
  round_done {u} v more low h goes counted = goes_on v (pull_round cfg most) (left_behind cfg most (all - (done + 1))) (next_round u low h) more goes counted

-- ---- how many arrive

pub count_received : (ends : List Role) → received_in (all_received ends) ≡ length ends
count_received [] = refl
count_received (at ∷ ends) = omega (arith, count_received ends)

count_tried : (cfg : Cfg) (e : Event) (w : World) → received_by e.act ≡ 0 → received_in (if_accepted cfg e w) ≡ 0
count_tried cfg e w none = by (happens cfg w e)
  where
    by : (o : WorldOutcome) → received_in (one_if e o) ≡ 0
    by (Happened next) = omega (arith, none)
    by (Declined x) = refl

pub count_both : (cfg : Cfg) (first second : Event) (w : World) → received_by first.act ≡ 0 → received_by second.act ≡ 0
    → received_in (both_tried cfg first second w) ≡ 0
count_both cfg first second w none none_there =
    let x = run cfg (if_accepted cfg first w) w in
    omega (arith, count_append (if_accepted cfg first w) (if_accepted cfg second x), count_tried cfg first w none, count_tried cfg second x none_there)

pub count_round : (cfg : Cfg) (most : ℕ) (w : World) (count : ℕ) → count ≡ length (arrivals cfg most w) → count ≡ received_in (pull_round cfg most w)
count_round cfg most w count counted =
    let x = run cfg (deliveries cfg most w) w in
    omega (
      arith,
      counted,
      count_append (deliveries cfg most w) (both_tried cfg (pull_at Dte) (pull_at Dce) x),
      count_received (arrivals cfg most w),
      count_both cfg (pull_at Dte) (pull_at Dce) x refl refl,
    )

-- both firings have been tried
abbrev pub fired_at : Cfg → World → World
fired_at cfg v = run cfg (both_tried cfg (firing Dte) (firing Dce) v) v

pub counts_both : (cfg : Cfg) (most : ℕ) (w : World) (before behind same : ℕ) → before ≡ length (arrivals cfg most w)
    → behind ≡ received_in (pull_rounds cfg most most (fired_at cfg (run cfg (deliveries cfg most w) w))) → same ≡ before → same + behind
    ≡ received_in (healing cfg most w)
counts_both cfg most w before behind same first second kept =
    let v = run cfg (deliveries cfg most w) w in
    let fired = both_tried cfg (firing Dte) (firing Dce) v in
    let x = fired_at cfg v in
    omega (
      arith,
      first,
      second,
      kept,
      count_append (deliveries cfg most w) (fire_and_pull cfg most v),
      count_received (arrivals cfg most w),
      count_append fired (pull_rounds cfg most most x),
      count_both cfg (firing Dte) (firing Dce) v refl refl,
    )

-- a round more has brought at most so many more
pub few_more : (count rounds more : ℕ) → more ≤ most_times → count ≤ rounds * most_times → count + more ≤ (rounds + 1) * most_times
few_more count rounds more few h = omega (arith, few, h)

-- and at least one, where a frame was on the line
pub rounds_more : (at : Option Role) (count rounds more : ℕ) → rounds ≤ count + 1 → (1 ≤ rounds → is_none at ≡ false) → (more ≡ 0 → at ≡ None) → rounds + 1
    ≤ count + more + 1
rounds_more at count zero more low filled none = omega arith
rounds_more at count (suc n) zero low filled none = absurd (some at (filled (omega arith)) (none refl))
  where
    some : (at : Option Role) → is_none at ≡ false → at ≡ None → ⊥
    some None e is = cc
    some (Some x) e is = cc
rounds_more at count (suc n) (suc m) low filled none = omega (arith, low)

-- ---- the whole

-- what holds of lists of events, of none and of one behind another, holds of those of a round where it holds of each
module _ (P : List Event → Type 0) (none : P []) (append : (xs ys : List Event) → P xs → P ys → P (xs ++ ys)) where
  received_are : ((at : Role) → P (receipt at ∷ [])) → (ends : List Role) → P (all_received ends)
  received_are receipts [] = none
  received_are receipts (at ∷ ends) = append (receipt at ∷ []) (all_received ends) (receipts at) (received_are receipts ends)

  tried_is_so : (cfg : Cfg) (e : Event) (w : World) → P (e ∷ []) → P (if_accepted cfg e w)
  tried_is_so cfg e w is = by (happens cfg w e)
    where
      by : (o : WorldOutcome) → P (one_if e o)
      by (Happened next) = is
      by (Declined x) = none

  both_are_so : (cfg : Cfg) (first second : Event) (w : World) → P (first ∷ []) → P (second ∷ []) → P (both_tried cfg first second w)
  both_are_so cfg first second w is is_there =
      let x = run cfg (if_accepted cfg first w) w in
      append (if_accepted cfg first w) (if_accepted cfg second x) (tried_is_so cfg first w is) (tried_is_so cfg second x is_there)

  module _ (receipts : (at : Role) → P (receipt at ∷ [])) (pulls : (at : Role) → P (pull_at at ∷ [])) where
    unless_is_so : (rest : World → List Event) → ((w : World) → P (rest w)) → (w : World) (at : Option Role) → P (unless_empty rest w at)
    unless_is_so rest are w None = none
    unless_is_so rest are w (Some at) = are w

    rounds_are_so : (cfg : Cfg) (most : ℕ) (n : ℕ) (w : World) → P (pull_rounds cfg most n w)
    unfolding pull_rounds
    rounds_are_so cfg most zero w = none
    rounds_are_so cfg most (suc n) w =
        let x = run cfg (pull_round cfg most w) w in
        append (pull_round cfg most w) (left_behind cfg most n x)
        (let x = run cfg (deliveries cfg most w) w in
        append (deliveries cfg most w) (both_tried cfg (pull_at Dte) (pull_at Dce) x) (received_are receipts (arrivals cfg most w))
        (both_are_so cfg (pull_at Dte) (pull_at Dce) x (pulls Dte) (pulls Dce)))
        (unless_is_so (pull_rounds cfg most n) (rounds_are_so cfg most n) x (next_end x.out x.back))

rounds_octets : (cfg : Cfg) (most : ℕ) (n : ℕ) (w : World) → AreInOctets (pull_rounds cfg most n w)
rounds_octets = rounds_are_so AreInOctets tt octets_append (λ at. (tt, tt)) (λ at. (tt, tt))

received_octets : (ends : List Role) → AreInOctets (all_received ends)
received_octets = received_are AreInOctets tt octets_append (λ at. (tt, tt))

healing_octets : (cfg : Cfg) (most : ℕ) (w : World) → AreInOctets (healing cfg most w)
healing_octets cfg most w =
    let v = run cfg (deliveries cfg most w) w in
    let fired = both_tried cfg (firing Dte) (firing Dce) v in
    let x = run cfg fired v in
    octets_append (deliveries cfg most w) (fire_and_pull cfg most v) (received_octets (arrivals cfg most w))
    (octets_append fired (pull_rounds cfg most most x) (both_are_so AreInOctets tt octets_append cfg (firing Dte) (firing Dce) v (tt, tt) (tt, tt))
    (rounds_octets cfg most most x))

pub holds_healed : (Holds : Cfg → World → World → Type 0) {old : ShownWorld} (new : TellingWorld) {cfg : Cfg} (most : ℕ) {from : World} {past : List Event}
    (before : List AtEnd)
    → FitsRun cfg from old past
    → (let w = run cfg past from in GoesBy cfg (healing cfg most w) w new before
    → (AreInOctets (past ++ healing cfg most w) → Holds cfg w (run cfg (past ++ healing cfg most w) from))
    → Leaves (λ c u. Holds c w u) cfg from new.world (past ++ healing cfg most w))
holds_healed Holds new {cfg} most {from} {past} before h goes law =
    let w = run cfg past from in
    let octets = octets_append past (healing cfg most w) h.octets (healing_octets cfg most w) in
    record {
      fits = record {
        settings = h.settings;
        octets = octets;
        accepted = accepted_append cfg past (healing cfg most w) from h.accepted goes.accepted;
        fits = rw (run_append cfg past (healing cfg most w) from) goes.fits.fits;
      };
      holds = law octets;
    }

-- ---- all arrives

-- both pulls, accepted or not
abbrev pulled_both : Cfg → World → World
pulled_both cfg w =
    let x = after w (happens cfg w (pull_at Dte)) in
    after x (happens cfg x (pull_at Dce))

both_are : (cfg : Cfg) (first second : Event) (w : World)
    → (let x = after w (happens cfg w first) in run cfg (both_tried cfg first second w) w ≡ after x (happens cfg x second))
both_are cfg first second w =
    let y = run cfg (if_accepted cfg first w) w in
    run_append cfg (if_accepted cfg first w) (if_accepted cfg second y) w ∙ tried_is cfg second y
    ∙ ap (λ x. after x (happens cfg x second)) (tried_is cfg first w)

-- a world of which the last two events tried were the pulls
record ArePulled (cfg : Cfg) (u : World) : Type 0 where
  from : World
  is : u ≡ pulled_both cfg from

round_pulls : (cfg : Cfg) (most : ℕ) (w : World) → ArePulled cfg (run cfg (pull_round cfg most w) w)
round_pulls cfg most w =
    let x = run cfg (deliveries cfg most w) w in
    record {
      from = x;
      is = run_append cfg (deliveries cfg most w) (both_tried cfg (pull_at Dte) (pull_at Dce) x) w
          ∙ both_are cfg (pull_at Dte) (pull_at Dce) x;
    }

unless_pulls : {cfg : Cfg} (rest : World → List Event) → ((w : World) → ArePulled cfg w → ArePulled cfg (run cfg (rest w) w)) → {w : World} (at : Option Role)
    → ArePulled cfg w → ArePulled cfg (run cfg (unless_empty rest w at) w)
unless_pulls rest pulls None are = are
unless_pulls rest pulls {w} (Some at) are = pulls w are

rounds_pull : (cfg : Cfg) (most : ℕ) (n : ℕ) (w : World) → ArePulled cfg w → ArePulled cfg (run cfg (pull_rounds cfg most n w) w)
unfolding pull_rounds
rounds_pull cfg most zero w are = are
rounds_pull cfg most (suc n) w are =
    let x = run cfg (pull_round cfg most w) w in
    subst (ArePulled cfg) (sym (run_append cfg (pull_round cfg most w) (left_behind cfg most n x) w))
    (unless_pulls (pull_rounds cfg most n) (rounds_pull cfg most n) (next_end x.out x.back) (round_pulls cfg most w))

all_pull : (cfg : Cfg) (most : ℕ) (n m : ℕ) (w : World) → n ≡ suc m → ArePulled cfg (run cfg (pull_rounds cfg most n w) w)
all_pull cfg most n m w is =
    let x = run cfg (pull_round cfg most w) w in
    subst (λ es. ArePulled cfg (run cfg es w)) (sym (round_more cfg most n m w is))
    (subst (ArePulled cfg) (sym (run_append cfg (pull_round cfg most w) (left_behind cfg most m x) w))
    (unless_pulls (pull_rounds cfg most m) (rounds_pull cfg most m) (next_end x.out x.back) (round_pulls cfg most w)))

-- the pull of the DCE leaves the DTE as it was
keeps_dte : (cfg : Cfg) (w : World) → (after w (happens cfg w (pull_at Dce))).near ≡ w.near
keeps_dte cfg w = by (commands (settings_from Dce cfg) w.far (Requests PullsAll))
  where
    by : (o : Outcome) → (after w (swapped_back (of_station (settings_from Dce cfg) (mirrored w) o))).near ≡ w.near
    by (Did step) = refl
    by (Refused e) = refl

-- a link that is at rest is up, and its timer T1 doesn't run
up_of : {s t : LinkStation} → s ≡ t → IsAtRest t → is_up s.phase ≡ true
up_of {s} {t} is rest = ap (λ x. is_up x.phase) is ∙ (and_parts (is_up t.phase) _ rest.idle).0

off_of : {s t : LinkStation} → s ≡ t → IsAtRest t → timer_runs s.phase s ≡ false
off_of is rest = ap (λ x. timer_runs x.phase x) is ∙ rest.no_timer

rest_of : (s : Station) → is_at_rest s ≡ true → IsAtRest s.link
rest_of s rest =
    let both = and_parts (is_idle s.link) _ rest in
    record { idle = both.0; no_timer = not-true _ both.1 }

both_rest : (s t : Station) → IsAtRest s.link → IsAtRest t.link → (is_at_rest s && is_at_rest t) ≡ true
both_rest s t here there = rw (here.idle, here.no_timer, there.idle, there.no_timer) refl

-- behind both pulls, where both links are idle, a pull gives none at either end
both_left : PullsLeaveNone → (cfg : Cfg) (w : World)
    → (let u = pulled_both cfg w in is_idle u.near.link ≡ true → is_idle u.far.link ≡ true → HasNoneToPull cfg u Dte × HasNoneToPull cfg u Dce)
both_left law cfg w idle idle_there =
    let x = after w (happens cfg w (pull_at Dte)) in
    let same = keeps_dte cfg x in (
      subst (λ s. s.layer.restarting ≡ false → PullsNone (layer_settings (settings_from Dte cfg)) s.layer) (sym same)
          (law cfg w Dte (ap (λ s. is_idle s.link) (sym same) ∙ idle)),
      law cfg x Dce idle_there,
    )

pulled_left : PullsLeaveNone → {cfg : Cfg} {u : World} → ArePulled cfg u → is_idle u.near.link ≡ true → is_idle u.far.link ≡ true → HasNoneToPull cfg u Dte
    × HasNoneToPull cfg u Dce
pulled_left law {cfg} are =
    rw are.is (both_left law cfg are.from)

module _ (left : PullsLeaveNone) (unpulled : Throughout UnpulledWaitForUsers) (cfg : Cfg) (fine : config_refusal cfg ≡ None) (from : World)
    (begins : IsBeginning cfg from) (past : List Event) (octets : AreInOctets past) (most : ℕ) (some : 0 < most) where
  abbrev w : World
  w = run cfg past from

  abbrev v : World
  v = run cfg (deliveries cfg most w) w

  abbrev fired : World
  fired = run cfg (firing Dte ∷ firing Dce ∷ []) v

  abbrev u : World
  u = run cfg (pull_rounds cfg most most fired) fired

  ends_so : run cfg (healing cfg most w) w ≡ u
  ends_so =
      let tried = both_tried cfg (firing Dte) (firing Dce) v in
      run_append cfg (deliveries cfg most w) (fire_and_pull cfg most v) w ∙ run_append cfg tried (pull_rounds cfg most most (run cfg tried v)) v
      ∙ ap (λ x. run cfg (pull_rounds cfg most most x) x) (both_are cfg (firing Dte) (firing Dce) v)

  -- what holds throughout holds behind healing
  behind_it : (Holds : Cfg → World → Type 0) → Throughout Holds → Holds cfg u
  behind_it Holds law =
      subst (Holds cfg) (run_append cfg past (healing cfg most w) from ∙ ends_so)
      (law cfg fine from begins (past ++ healing cfg most w) (octets_append past (healing cfg most w) octets (healing_octets cfg most w)))

  have_arrived : Throughout HealsWithPuts → BothMayHeal cfg v → FreeThroughout cfg (pull_rounds cfg most most fired) fired → IsDrained u → HaveArrived cfg v u
  have_arrived law may free drained =
      let here : HealsWithPuts cfg v =
      subst (HealsWithPuts cfg) (run_append cfg past (deliveries cfg most w) from)
      (law cfg fine from begins (past ++ deliveries cfg most w) (octets_append past (deliveries cfg most w) octets (received_octets (arrivals cfg most w)))) in
      here may (pull_rounds cfg most most fired)
      ((rounds_are_so AreReceiptsAndRequests tt (each_append _) (λ at. (tt, tt)) (λ at. (tt, tt))) cfg most most fired) (rounds_octets cfg most most fired)
      free drained

  wait_alone : IsAtRest u.near.link → IsAtRest u.far.link → AllWaitForUsers cfg u
  wait_alone dte dce =
      let none = pulled_left left (all_pull cfg most most (most - 1) fired (omega (arith, some))) dte.idle dce.idle in
      behind_it UnpulledWaitForUsers unpulled dte.idle dce.idle none.0 none.1

  pub brings_all : Throughout HealsWithPuts → ArrivesByHealing cfg most w (run cfg (healing cfg most w) w)
  brings_all law may free drained =
      let links = have_arrived law may free (subst IsDrained ends_so drained) in
      subst (AllArrives cfg v) (sym ends_so)
      (record { at_rest = both_rest u.near u.far links.dte links.dce; links = links; waits = wait_alone links.dte links.dce })

  all_has_come : Throughout RestShows → RestShowsAll cfg u
  all_has_come law rest =
      let both = and_parts (is_at_rest u.near) (is_at_rest u.far) rest in
      let dte = rest_of u.near both.0 in
      let dce = rest_of u.far both.1 in
      let shows = behind_it RestShows law in
      let are = shows.are.1 in
      let near = shows.arrived.near (up_of are.near dte) (off_of are.near dte) in
      let far = shows.arrived.far (up_of are.far dce) (off_of are.far dce) in
      record {
        links = shows.links;
        are = shows.are;
        there = near.1 (inl (up_of are.far dce));
        back = far.1 (inl (up_of are.near dte));
        waits = wait_alone dte dce;
      }

  pub rest_shows_all : Throughout RestShows → RestShowsAll cfg (run cfg (healing cfg most w) w)
  rest_shows_all law = subst (RestShowsAll cfg) (sym ends_so) (all_has_come law)

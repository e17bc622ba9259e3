-- Each history of two joined programs is a run of two stations, and the claims on these hold of what the programs wrote.
use Rattle.x25_joined.proofs.Names.{◌≡◌, ◌∙◌, ◌≤◌, ℕ, List, [], ◌∷◌, ◌++◌, true, Some, None, ap, sym, subst, refl, All-nil, other, Role, Dte, Dce, ReadsOctets}
use Rattle.std.proofs.Common.{inl}
use Rattle.x25_handshakes.specs.laws.Names.{Name}
use Rattle.x25_joined.proofs.{JoinedShows.{IsEnd, Shows, Fits, Mirrors, stays, moves, pulls, all_pulled, act_shows}, LineText.{none_whole, first_said}}
use Rattle.x25_joined.proofs.{Names.{Cfg, StationEntry, settings_from, Station, new_station, ups_in, AreOfFrame, entries_in, frames_in}, Turns.{first_is}}
use Rattle.x25_joined.specs.laws.Joined.{Joined, exchanged, nothing_read, Act, acts, Happening, acts_at, IsPossibleAt, run, ArePossible}
use Rattle.x25_joined.specs.laws.JoinedClaims.{station_by, entries_by, frames_by, put_by, Tells, OfPrograms, AreWorlds, OfProgramsUpOnce, UntilSecondUp}
use Rattle.x25_joined.specs.laws.JoinedClaims.{AreLawful, Arrive}
use Rattle.x25_layer.specs.laws.{Law.{HandsUpLawfully, HasAllOf}, Transcript.{Entry}}
use Rattle.x25_station.specs.{Config.{config_refusal}, Entry.{layer_entries}, Station.Told.{is_idle, stretch}}
use Rattle.x25_world.proofs.WorldLemmas.{run_append, accepted_append, octets_append}
use Rattle.x25_world.specs.World.{World, Event, Happened, swapped_back, happens, refusal_of, after, AreAccepted, start}
use Rattle.x25_world.specs.laws.{Claims.{AreInOctets, IsLawful, ArrivesAll, station_at, entries_at}, SessionClaims.{Throughout}, TapOctets.{IsTapOfOctets}}
use Rattle.x25_world.specs.World as world
use Rattle.x25_world.specs.laws.Claims as claims

-- ---- as the other end sees it

shows_back : (cfg : Cfg) (j : Joined) (w : World) → Shows cfg Dce j w → Shows cfg Dte (exchanged j) (world.mirrored w)
shows_back cfg j w h = record { near = h.far; far = h.near; out = h.back; back = h.out }

shows_over : (cfg : Cfg) (j : Joined) (w : World) → Shows cfg Dte j w → Shows cfg Dce (exchanged j) (world.mirrored w)
shows_over cfg j w h = record { near = h.far; far = h.near; out = h.back; back = h.out }

-- ---- one event behind others

-- ---- what is kept of a history

record Kept (cfg : Cfg) (j : Joined) : Type 0 where
  w : World
  events : List Event
  accepted : AreAccepted cfg events start
  octets : AreInOctets events
  reached : world.run cfg events start ≡ w
  shows : Shows cfg Dte j w
  fits : Fits w

module _ (reads : ReadsOctets) (tapped : Throughout IsTapOfOctets) (cfg : Cfg) (fine : config_refusal cfg ≡ None) where
  -- events behind those so far
  moved : (j there : Joined) (k : Kept cfg j) (more : List Event) (next : World) → AreAccepted cfg more k.w → world.run cfg more k.w ≡ next → AreInOctets more
      → Shows cfg Dte there next
      → (AreInOctets (k.events ++ more) → world.run cfg (k.events ++ more) start ≡ next → Fits next) → Kept cfg there
  moved j there k more next accepted is octets shows fits =
      let handed = octets_append k.events more k.octets octets in
      let reached : world.run cfg (k.events ++ more) start ≡ next = run_append cfg k.events more start ∙ ap (world.run cfg more) k.reached ∙ is in
      record {
        w = next;
        events = k.events ++ more;
        accepted = accepted_append cfg k.events more start k.accepted (subst (AreAccepted cfg more) (sym k.reached) accepted);
        octets = handed;
        reached = reached;
        shows = shows;
        fits = fits handed reached;
      }

  -- one event, or two

  abbrev Leads : World → List Event → World → Type 0
  Leads w events next = AreAccepted cfg events w × (world.run cfg events w ≡ next)

  one : (w next : World) (e : Event) → happens cfg w e ≡ Happened next → Leads w (e ∷ []) next
  one w next e is = ((ap refusal_of is, tt), ap (after w) is)

  two : (w between next : World) (e f : Event) → happens cfg w e ≡ Happened between → happens cfg between f ≡ Happened next → Leads w (e ∷ f ∷ []) next
  two w between next e f is later =
      let there : after w (happens cfg w e) ≡ between = ap (after w) is in
      let behind : happens cfg (after w (happens cfg w e)) f ≡ Happened next = ap (λ (v : World). happens cfg v f) there ∙ later in
      ((ap refusal_of is, (ap refusal_of behind, tt)), ap (after (after w (happens cfg w e))) behind)

  on_tap : (events : List Event) (next : World) → AreInOctets events → world.run cfg events start ≡ next → IsTapOfOctets cfg next
  on_tap events next octets reached = subst (IsTapOfOctets cfg) reached (tapped cfg fine start (inl refl) events octets)

  dte_kept : (j there : Joined) (k : Kept cfg j) → Mirrors cfg Dte k.w there → Kept cfg there
  dte_kept j there k (stays shows) = record {
    w = k.w;
    events = k.events;
    accepted = k.accepted;
    octets = k.octets;
    reached = k.reached;
    shows = shows;
    fits = k.fits;
  }
  dte_kept j there k (moves act next is octets shows fits) =
      let e : Event = record { at = Dte; act = act } in
      let leads = one k.w next e is in
      moved j there k (e ∷ []) next leads.0 leads.1 (octets, tt) shows (λ handed reached. fits (on_tap (k.events ++ e ∷ []) next handed reached))
  dte_kept j there k (pulls act between next is later octets shows fits) =
      let e : Event = record { at = Dte; act = act } in
      let f : Event = record { at = Dte; act = all_pulled } in
      let leads = two k.w between next e f is later in
      moved j there k (e ∷ f ∷ []) next leads.0 leads.1 (octets, (tt, tt)) shows (λ handed reached. fits (on_tap (k.events ++ e ∷ f ∷ []) next handed reached))

  dce_kept : (j there : Joined) (k : Kept cfg j) → Mirrors cfg Dce (world.mirrored k.w) there → Kept cfg (exchanged there)
  dce_kept j there k (stays shows) = record {
    w = k.w;
    events = k.events;
    accepted = k.accepted;
    octets = k.octets;
    reached = k.reached;
    shows = shows_back cfg there (world.mirrored k.w) shows;
    fits = k.fits;
  }
  dce_kept j there k (moves act next is octets shows fits) =
      let e : Event = record { at = Dce; act = act } in
      let leads = one k.w (world.mirrored next) e (ap swapped_back is) in
      moved j (exchanged there) k (e ∷ []) (world.mirrored next) leads.0 leads.1 (octets, tt) (shows_back cfg there next shows) (λ handed reached.
      let f = fits (on_tap (k.events ++ e ∷ []) (world.mirrored next) handed reached) in
      record { out = f.back; back = f.out })
  dce_kept j there k (pulls act between next is later octets shows fits) =
      let e : Event = record { at = Dce; act = act } in
      let f : Event = record { at = Dce; act = all_pulled } in
      let leads = two k.w (world.mirrored between) (world.mirrored next) e f (ap swapped_back is) (ap swapped_back later) in
      moved j (exchanged there) k (e ∷ f ∷ []) (world.mirrored next) leads.0 leads.1 (octets, (tt, tt)) (shows_back cfg there next shows) (λ handed reached.
      let g = fits (on_tap (k.events ++ e ∷ f ∷ []) (world.mirrored next) handed reached) in
      record { out = g.back; back = g.out })

  act_kept : (at : Role) (act : Act) (j : Joined) → Kept cfg j → IsPossibleAt cfg j at act → Kept cfg (acts_at cfg j at act)
  act_kept Dte act j k may = dte_kept j (acts (settings_from Dte cfg) j act) k (act_shows cfg Dte k.w k.fits j k.shows reads act may)
  act_kept Dce act j k may =
      dce_kept j (acts (settings_from Dce cfg) (exchanged j) act) k
      (act_shows cfg Dce (world.mirrored k.w) (record { out = k.fits.back; back = k.fits.out }) (exchanged j) (shows_over cfg j k.w k.shows) reads act may)

  run_kept : (history : List Happening) (j : Joined) → Kept cfg j → ArePossible cfg history j → Kept cfg (run cfg history j)
  run_kept [] j k may = k
  run_kept (h ∷ history) j k may = run_kept history (acts_at cfg j h.at h.act) (act_kept h.at h.act j k may.0) may.1

  end_at_first : (end : Role) → IsEnd cfg end [] new_station [] []
  end_at_first end =
      let c = settings_from end cfg in
      let first = first_is c new_station in
      record {
        whole = none_whole;
        station = ap (λ t. t.next) (first_said c) ∙ first.next;
        entries = sym (ap (λ t. entries_in t.sayings) (first_said c) ∙ first.entries);
        frames = sym (ap (λ t. frames_in t.sayings) (first_said c) ∙ first.frames);
      }

  first_kept : Kept cfg nothing_read
  first_kept = record {
    w = start;
    events = [];
    accepted = tt;
    octets = tt;
    reached = refl;
    shows = record { near = end_at_first Dte; far = end_at_first Dce; out = refl; back = refl };
    fits = record { out = All-nil AreOfFrame; back = All-nil AreOfFrame };
  }

  tells : (j : Joined) → Kept cfg j → (w : World) × Tells cfg j w
  tells j k = (
    k.w,
    record {
      events = k.events;
      accepted = k.accepted;
      octets = k.octets;
      run = k.reached;
      stations = stations;
      out = k.shows.out;
      back = k.shows.back;
      entries = entries;
      frames = frames;
    },
  )
    where
      stations : (end : Role) → station_at end k.w ≡ station_by cfg end j
      stations Dte = sym k.shows.near.station
      stations Dce = sym k.shows.far.station

      entries : (end : Role) → entries_at end k.w.transcript ≡ entries_by cfg end j
      entries Dte = k.shows.near.entries
      entries Dce = k.shows.far.entries

      frames : (end : Role) → put_by end k.w.tap ≡ frames_by cfg end j
      frames Dte = k.shows.near.frames
      frames Dce = k.shows.far.frames

  pub is_world : (history : List Happening) → ArePossible cfg history nothing_read → (w : World) × Tells cfg (run cfg history nothing_read) w
  is_world history may = tells (run cfg history nothing_read) (run_kept history nothing_read first_kept may)

pub are_worlds : ReadsOctets → Throughout IsTapOfOctets → AreWorlds
are_worlds reads tapped cfg fine history may = is_world reads tapped cfg fine history may

-- ---- the claims

pub of_programs : (Holds : Cfg → World → Type 0) → Throughout Holds → AreWorlds → OfPrograms Holds
of_programs Holds law worlds cfg fine history may =
    let told = worlds cfg fine history may in
    (told.0, told.1, subst (Holds cfg) told.1.run (law cfg fine start (inl refl) told.1.events told.1.octets))

pub of_programs_up_once : (Holds : Cfg → World → Type 0) → claims.UntilSecondUp Holds → AreWorlds → OfProgramsUpOnce Holds
of_programs_up_once Holds law worlds cfg fine history may once =
    let told = worlds cfg fine history may in
    (told.0, told.1, subst (Holds cfg) told.1.run (law cfg fine start (inl refl) told.1.events told.1.octets (still told.0 told.1)))
  where
    still : (w : World) (t : Tells cfg (run cfg history nothing_read) w) → claims.IsUpAtMostOnce cfg (world.run cfg t.events start)
    still w t end = subst (λ (es : List StationEntry). ups_in es ≤ 1) (sym (ap (λ (v : World). entries_at end v.transcript) t.run ∙ t.entries end)) (once end)

pub are_lawful : claims.UntilSecondUp IsLawful → AreWorlds → UntilSecondUp AreLawful
are_lawful law worlds cfg fine history may once end = by end
  where
    j : Joined
    j = run cfg history nothing_read

    found : (w : World) × Tells cfg j w × IsLawful cfg w
    found = of_programs_up_once IsLawful law worlds cfg fine history may once

    same : (end : Role) → layer_entries (entries_at end found.0.transcript) ≡ layer_entries (entries_by cfg end j)
    same end = ap layer_entries (found.1.entries end)

    lawfully : (a b : Role) → HandsUpLawfully (layer_entries (entries_at a found.0.transcript)) (layer_entries (entries_at b found.0.transcript))
        → HandsUpLawfully (layer_entries (entries_by cfg a j)) (layer_entries (entries_by cfg b j))
    lawfully a b h = subst (λ (es : List Entry). HandsUpLawfully (layer_entries (entries_by cfg a j)) es) (same b)
        (subst (λ (es : List Entry). HandsUpLawfully es (layer_entries (entries_at b found.0.transcript))) (same a) h)

    by : (end : Role) → HandsUpLawfully (layer_entries (entries_by cfg end j)) (layer_entries (entries_by cfg (other end) j))
    by Dte = lawfully Dte Dce (found.2 Dte)
    by Dce = lawfully Dce Dte (found.2 Dce)

pub arrive : claims.UntilSecondUp ArrivesAll → AreWorlds → UntilSecondUp Arrive
arrive law worlds cfg fine history may once end = by end
  where
    j : Joined
    j = run cfg history nothing_read

    found : (w : World) × Tells cfg j w × ArrivesAll cfg w
    found = of_programs_up_once ArrivesAll law worlds cfg fine history may once

    same : (end : Role) → layer_entries (entries_at end found.0.transcript) ≡ layer_entries (entries_by cfg end j)
    same end = ap layer_entries (found.1.entries end)

    all : (a b : Role) (channel : ℕ) (name : Name)
        → HasAllOf channel name (layer_entries (entries_at a found.0.transcript)) (layer_entries (entries_at b found.0.transcript))
        → HasAllOf channel name (layer_entries (entries_by cfg a j)) (layer_entries (entries_by cfg b j))
    all a b channel name h = subst (λ (es : List Entry). HasAllOf channel name (layer_entries (entries_by cfg a j)) es) (same b)
        (subst (λ (es : List Entry). HasAllOf channel name es (layer_entries (entries_at b found.0.transcript))) (same a) h)

    idle : (end : Role) → is_idle (settings_from end cfg) (station_by cfg end j) ≡ is_idle (settings_from end cfg) (station_at end found.0)
    idle end = ap (is_idle (settings_from end cfg)) (sym (found.1.stations end))

    open_at : (end : Role) (channel : ℕ) → stretch (settings_from end cfg) (station_by cfg end j) channel
        ≡ stretch (settings_from end cfg) (station_at end found.0) channel
    open_at end channel = ap (λ (s : Station). stretch (settings_from end cfg) s channel) (sym (found.1.stations end))

    by : (end : Role) (channel : ℕ) (name : Name) → is_idle (settings_from end cfg) (station_by cfg end j) ≡ true
        → stretch (settings_from end cfg) (station_by cfg end j) channel ≡ Some name
        → stretch (settings_from (other end) cfg) (station_by cfg (other end) j) channel ≡ Some name
        → HasAllOf channel name (layer_entries (entries_by cfg end j)) (layer_entries (entries_by cfg (other end) j))
    by Dte channel name is here there = all Dte Dce channel name
        (found.2 Dte channel name (sym (idle Dte) ∙ is) (sym (open_at Dte channel) ∙ here) (sym (open_at Dce channel) ∙ there))
    by Dce channel name is here there = all Dce Dte channel name
        (found.2 Dce channel name (sym (idle Dce) ∙ is) (sym (open_at Dce channel) ∙ here) (sym (open_at Dte channel) ∙ there))

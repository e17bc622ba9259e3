-- What is written for a script is the transcript of a run.
use Rattle.x25_sim.proofs.Names.{◌≡◌, ◌∙◌, ℕ, zero, suc, Bool, true, false, List, [], ◌∷◌, ◌++◌, length, drop, map, Option, Some, None, append_assoc, ap, sym}
use Rattle.x25_sim.proofs.Names.{subst, refl, arith, ◌<◌, append-nil, Role, Dte, Dce, Cfg, line_in, lines_of, World, OnTap, Receives, Event, WorldOutcome}
use Rattle.x25_sim.proofs.Names.{Happened, Declined, happens, refusal_of, after, start, WorldError, Saying, taps, refuses, next_end, Turn, and_then, frames_if}
use Rattle.x25_sim.proofs.Names.{marked, told_between, turn_of, event_turn, delivered_to, drained, tried_of, tried, both_tried, fired, pulled, unless_empty}
use Rattle.x25_sim.proofs.Names.{emptied, healed, line_turn, asked_in, asked_turn, turn, turns, set_up, opened, simulated, Shown}
use Rattle.std.{proofs.Common.{inl, inr, nat_lt, nat_le, remove}, proofs.Math.Seq.{drop-append_seam}, specs.Option.{unwrap_or}, specs.Prelude.{cond, ◌&&◌}}
use Rattle.x25_console.specs.Commands.{command_asked, part_asked}
use Rattle.x25_io.specs.HeldLine.{most_line}
use Rattle.x25_line.specs.laws.{Loss.{replaced}, Stations.{is_visible}}
use Rattle.x25_link.specs.Station.{awaits_ua}
use Rattle.x25_script.specs.ScriptLine.{PlainCommand, call, clear, send, interrupt, reset, restart, pull, connect, relink, with_given, PlainLine, command}
use Rattle.x25_script.specs.{ScriptLine.{drain, heal, is_taken, taken}, laws.ReadingLaw.{IsOctet, PartInOctets, AsksInOctets, IsInOctets, ReadsOctets}}
use Rattle.x25_sim.specs.{Stage.{frames_told, marks_if, step_told, most_times, connecting}, Telling.{enters, reads_nothing}}
use Rattle.x25_sim.specs.laws.RunLaw.{entries_in, frames_in, begins, IsNoConnectLine, NoneAsks, IsRun, ScriptsAreRuns, OfScripts, OfScriptsSetUp, OfAllScripts}
use Rattle.x25_sim.specs.laws.RunLaw.{UpOnceUnlessAsked, ScriptsAreTold, ScriptsAreTapped}
use Rattle.x25_station.specs.{Config.{Settings, settings_from}, Step.{Outcome, Did, Refused, fires, commands}, laws.ReadLaw.{RequestsOctets}}
use Rattle.x25_world.proofs.WorldLemmas.{run_append, accepted_append, octets_append}
use Rattle.x25_world.specs.World.{AtEnd, mirrored, Act, Commands, Fires, Loses, Damages, of_station, delivered, on_line, is_on_line, acts, swapped_back}
use Rattle.x25_world.specs.{World.{acts_at, run, AreAccepted, connected, established}, laws.Claims.{Always, UntilSecondUp}}
use Rattle.x25_world.specs.laws.Claims.{ActsInOctets, AreInOctets, IsUpOnce, IsUpAtMostOnce, IsBeginning, IsNoConnect, NoneConnects, UpOnceUnlessConnected}
use Rattle.x25_world.specs.laws.SessionClaims.{Throughout, ThroughoutAlong}

-- ---- a world only grows

record Grows (w next : World) : Type 0 where
  entries : List AtEnd
  frames : List OnTap
  transcript : next.transcript ≡ w.transcript ++ entries
  tap : next.tap ≡ w.tap ++ frames

abbrev GrowsTo : World → WorldOutcome → Type 0
GrowsTo w (Happened next) = Grows w next
GrowsTo w (Declined error) = Unit {0}

as_it_was : (w : World) (back : List (List ℕ)) → Grows w (on_line w back)
as_it_was w back = record { entries = []; frames = []; transcript = sym (append-nil w.transcript); tap = sym (append-nil w.tap) }

by_station : (c : Settings) (w : World) (o : Outcome) → GrowsTo w (of_station c w o)
by_station c w (Did step) = record { entries = _; frames = _; transcript = refl; tap = refl }
by_station c w (Refused error) = tt

by_delivery : (c : Settings) (w : World) (back : List (List ℕ)) → GrowsTo w (delivered c w back)
by_delivery c w [] = tt
by_delivery c w (octets ∷ back) = record { entries = _; frames = _; transcript = refl; tap = refl }

chosen : (w : World) (b : Bool) (o p : WorldOutcome) → GrowsTo w o → GrowsTo w p → GrowsTo w (cond b o p)
chosen w true o p h k = h
chosen w false o p h k = k

by_act : (c : Settings) (w : World) (act : Act) → GrowsTo w (acts c w act)
by_act c w (Commands asked) = by_station c w (commands c w.near asked)
by_act c w Receives = by_delivery c w w.back
by_act c w Fires = chosen w (awaits_ua w.near.link.phase && is_on_line c w) _ _ tt (by_station c w (fires c w.near))
by_act c w (Loses place) = chosen w (nat_lt place (length w.back)) _ _ (as_it_was w (remove w.back place)) tt
by_act c w (Damages place octets) = chosen w (nat_lt place (length w.back)) _ _
    (chosen w (is_visible octets) _ _ (as_it_was w (replaced w.back place (λ _. octets))) tt) tt

from_back : (w : World) (o : WorldOutcome) → GrowsTo (mirrored w) o → GrowsTo w (swapped_back o)
from_back w (Happened next) h = record { entries = h.entries; frames = h.frames; transcript = h.transcript; tap = h.tap }
from_back w (Declined error) h = tt

by_event : (cfg : Cfg) (w : World) (at : Role) (act : Act) → GrowsTo w (acts_at cfg w at act)
by_event cfg w Dte act = by_act (settings_from Dte cfg) w act
by_event cfg w Dce act = from_back w (acts (settings_from Dce cfg) (mirrored w) act) (by_act (settings_from Dce cfg) (mirrored w) act)

-- ---- what is said

entries-append : (xs ys : List Saying) → entries_in (xs ++ ys) ≡ entries_in xs ++ entries_in ys
entries-append [] ys = refl
entries-append (enters e ∷ xs) ys = ap (λ es. e ∷ es) (entries-append xs ys)
entries-append (other ∷ xs) ys = entries-append xs ys

frames-append : (xs ys : List Saying) → frames_in (xs ++ ys) ≡ frames_in xs ++ frames_in ys
frames-append [] ys = refl
frames-append (taps f ∷ xs) ys = ap (λ fs. f ∷ fs) (frames-append xs ys)
frames-append (other ∷ xs) ys = frames-append xs ys

entries_of_enters : (es : List AtEnd) → entries_in (map enters es) ≡ es
entries_of_enters [] = refl
entries_of_enters (e ∷ es) = ap (λ xs. e ∷ xs) (entries_of_enters es)

frames_of_enters : (es : List AtEnd) → frames_in (map enters es) ≡ []
frames_of_enters [] = refl
frames_of_enters (e ∷ es) = frames_of_enters es

entries_of_taps : (fs : List OnTap) → entries_in (map taps fs) ≡ []
entries_of_taps [] = refl
entries_of_taps (f ∷ fs) = entries_of_taps fs

frames_of_taps : (fs : List OnTap) → frames_in (map taps fs) ≡ fs
frames_of_taps [] = refl
frames_of_taps (f ∷ fs) = ap (λ xs. f ∷ xs) (frames_of_taps fs)

entries_of_frames : (tap : Bool) (fs : List OnTap) → entries_in (frames_if tap fs) ≡ []
entries_of_frames true fs = entries_of_taps fs
entries_of_frames false fs = refl

step_entries : (shown : Shown) (es : List AtEnd) (fs : List OnTap) → entries_in (step_told shown es fs) ≡ es
step_entries shown es fs = entries-append (map enters es) (frames_told shown fs) ∙ ap (λ xs. entries_in (map enters es) ++ xs) (entries_of_frames shown.tap fs)
    ∙ append-nil (entries_in (map enters es)) ∙ entries_of_enters es

step_frames : (shown : Shown) (es : List AtEnd) (fs : List OnTap) → shown.tap ≡ true → frames_in (step_told shown es fs) ≡ fs
step_frames shown es fs asked = frames-append (map enters es) (frames_told shown fs) ∙ ap (λ xs. xs ++ frames_in (frames_told shown fs)) (frames_of_enters es)
    ∙ ap (λ b. frames_in (frames_if b fs)) asked ∙ frames_of_taps fs

no_entries_marked : (events : Bool) (e : Event) → entries_in (marks_if events e) ≡ []
no_entries_marked true e = refl
no_entries_marked false e = refl

no_frames_marked : (events : Bool) (e : Event) → frames_in (marks_if events e) ≡ []
no_frames_marked true e = refl
no_frames_marked false e = refl

-- ---- what users hand down is octets

given : (o : Option ℕ) → IsOctet o → unwrap_or o 0 < 256
given None h = omega arith
given (Some n) h = h

-- of what is asked of a call
part_handed : (asked : PlainCommand) → PartInOctets asked → RequestsOctets (part_asked asked)
part_handed (call called calling user None) h = h
part_handed (call called calling user (Some four)) h = h
part_handed (clear channel g) h = (given g.cause h.0, given g.diagnostic h.1)
part_handed asked h = tt

handed : (asked : PlainCommand) → AsksInOctets asked → ActsInOctets (Commands (command_asked asked))
handed (call called calling user None) h = h
handed (call called calling user (Some four)) h = h
handed (clear channel g) h = (given g.cause h.0, given g.diagnostic h.1)
handed (with_given facilities user d asked) h = ((h.0, h.1), part_handed asked h.2)
handed (send channel q d user) h = h
handed (interrupt channel user) h = h
handed (reset channel g) h = (given g.cause h.0, given g.diagnostic h.1)
handed (restart g) h = (given g.cause h.0, given g.diagnostic h.1)
handed asked h = tt

abbrev AskedInOctets : Option PlainLine → Type 0
AskedInOctets None = Unit {0}
AskedInOctets (Some line) = IsInOctets line

read_octets : ReadsOctets → (text : List ℕ) (read : Option PlainLine) → line_in text ≡ read → AskedInOctets read
read_octets reads text None e = tt
read_octets reads text (Some line) e = reads line text e

short_octets : (b : Bool) (read : Option PlainLine) → AskedInOctets read → AskedInOctets (cond b read None)
short_octets true read h = h
short_octets false read h = tt

asked_octets : ReadsOctets → (text : List ℕ) → AskedInOctets (asked_in text)
unfolding asked_in
asked_octets reads text = short_octets (nat_le (length text) most_line) (line_in text) (read_octets reads text (line_in text) refl)

-- ---- where no line asks for it, no event connects

other_asked : (end : Role) (asked : PlainCommand) (refusal : Option WorldError) → IsNoConnectLine (Some (command end asked))
    → IsNoConnect (Commands (command_asked asked)) refusal
other_asked end connect refusal h = absurd h
other_asked end relink refusal h = absurd h
other_asked end asked refusal h = tt

-- ---- turns are runs

-- no event connects under the premise
record Runs (P : Type 0) (cfg : Cfg) (shown : Shown) (w : World) (t : Turn) : Type 0 where
  events : List Event
  accepted : AreAccepted cfg events w
  octets : AreInOctets events
  next : t.next ≡ run cfg events w
  entries : t.next.transcript ≡ w.transcript ++ entries_in t.sayings
  frames : shown.tap ≡ true → t.next.tap ≡ w.tap ++ frames_in t.sayings
  unconnected : P → NoneConnects cfg events w

stays : (P : Type 0) (cfg : Cfg) (shown : Shown) (w : World) (sayings : List Saying) → entries_in sayings ≡ [] → frames_in sayings ≡ []
    → Runs P cfg shown w (record { next = w; sayings = sayings })
stays P cfg shown w sayings no_entries no_frames = record {
  events = [];
  accepted = tt;
  octets = tt;
  next = refl;
  entries = sym (append-nil w.transcript) ∙ ap (λ xs. w.transcript ++ xs) (sym no_entries);
  frames = λ asked. sym (append-nil w.tap) ∙ ap (λ xs. w.tap ++ xs) (sym no_frames);
  unconnected = λ p. tt;
}

moves : (P : Type 0) (cfg : Cfg) (shown : Shown) (w : World) (e : Event) (o : WorldOutcome) → happens cfg w e ≡ o → GrowsTo w o → ActsInOctets e.act
    → (P → (refusal : Option WorldError) → IsNoConnect e.act refusal) → Runs P cfg shown w (turn_of shown w o)
moves P cfg shown w e (Happened next) is g octets other = record {
  events = e ∷ [];
  accepted = (ap refusal_of is, tt);
  octets = (octets, tt);
  next = sym (ap (after w) is);
  entries = g.transcript ∙ ap (λ xs. w.transcript ++ xs)
      (sym (step_entries shown _ _ ∙ ap (drop (length w.transcript)) g.transcript ∙ drop-append_seam w.transcript g.entries));
  frames = λ asked. g.tap ∙ ap (λ xs. w.tap ++ xs)
      (sym (step_frames shown (drop (length w.transcript) next.transcript) _ asked ∙ ap (drop (length w.tap)) g.tap ∙ drop-append_seam w.tap g.frames));
  unconnected = λ p. (other p (refusal_of (happens cfg w e)), tt);
}
moves P cfg shown w e (Declined error) is g octets other = stays P cfg shown w (refuses error ∷ []) refl refl

none-append : (cfg : Cfg) (events more : List Event) (w : World) → NoneConnects cfg events w → NoneConnects cfg more (run cfg events w)
    → NoneConnects cfg (events ++ more) w
none-append cfg [] more w h k = k
none-append cfg (e ∷ events) more w h k = (h.0, none-append cfg events more (after w (happens cfg w e)) h.1 k)

both_run : (P : Type 0) (cfg : Cfg) (shown : Shown) (w : World) (t : Turn) (rest : World → Turn) → Runs P cfg shown w t
    → ((v : World) → Runs P cfg shown v (rest v)) → Runs P cfg shown w (and_then rest t)
both_run P cfg shown w t rest first second =
    let then = second t.next in record {
      events = first.events ++ then.events;
      accepted = accepted_append cfg first.events then.events w first.accepted (subst (AreAccepted cfg then.events) first.next then.accepted);
      octets = octets_append first.events then.events first.octets then.octets;
      next = then.next ∙ ap (run cfg then.events) first.next ∙ sym (run_append cfg first.events then.events w);
      entries = then.entries ∙ ap (λ xs. xs ++ entries_in (rest t.next).sayings) first.entries
          ∙ append_assoc w.transcript (entries_in t.sayings) (entries_in (rest t.next).sayings)
          ∙ ap (λ xs. w.transcript ++ xs) (sym (entries-append t.sayings (rest t.next).sayings));
      frames = λ asked. then.frames asked ∙ ap (λ xs. xs ++ frames_in (rest t.next).sayings) (first.frames asked)
          ∙ append_assoc w.tap (frames_in t.sayings) (frames_in (rest t.next).sayings)
          ∙ ap (λ xs. w.tap ++ xs) (sym (frames-append t.sayings (rest t.next).sayings));
      unconnected = λ p. none-append cfg first.events then.events w (first.unconnected p)
          (subst (NoneConnects cfg then.events) first.next (then.unconnected p));
    }

-- a turn, and behind it the event
marked_runs : (P : Type 0) (cfg : Cfg) (shown : Shown) (e : Event) (w : World) (t : Turn) → Runs P cfg shown w t
    → Runs P cfg shown w (and_then (marked shown e) t)
marked_runs P cfg shown e w t runs =
    both_run P cfg shown w t (marked shown e) runs
    (λ v. stays P cfg shown v (marks_if shown.events e) (no_entries_marked shown.events e) (no_frames_marked shown.events e))

event_runs : (P : Type 0) (cfg : Cfg) (shown : Shown) (e : Event) (w : World) → ActsInOctets e.act
    → (P → (refusal : Option WorldError) → IsNoConnect e.act refusal)
    → Runs P cfg shown w (event_turn cfg shown e w)
unfolding event_turn
event_runs P cfg shown e w octets other = marked_runs P cfg shown e w _ (moves P cfg shown w e (happens cfg w e) refl (by_event cfg w e.at e.act) octets other)

delivery_runs : (P : Type 0) (cfg : Cfg) (shown : Shown) (rest : World → Turn) (w : World) (at : Option Role) → ((v : World) → Runs P cfg shown v (rest v))
    → Runs P cfg shown w (delivered_to cfg shown rest w at)
delivery_runs P cfg shown rest w None h = stays P cfg shown w [] refl refl
delivery_runs P cfg shown rest w (Some at) h = both_run P cfg shown w _ rest
    (event_runs P cfg shown (record { at = at; act = Receives }) w tt (λ p refusal. tt)) h

drain_runs : (P : Type 0) (cfg : Cfg) (shown : Shown) (n : ℕ) (w : World) → Runs P cfg shown w (drained cfg shown n w)
unfolding drained
drain_runs P cfg shown zero w = stays P cfg shown w [] refl refl
drain_runs P cfg shown (suc n) w = delivery_runs P cfg shown (drained cfg shown n) w (next_end w.out w.back) (drain_runs P cfg shown n)

outcome_runs : (P : Type 0) (cfg : Cfg) (shown : Shown) (w : World) (e : Event) (o : WorldOutcome) → happens cfg w e ≡ o → GrowsTo w o → ActsInOctets e.act
    → (P → (refusal : Option WorldError) → IsNoConnect e.act refusal) → Runs P cfg shown w (tried_of shown e w o)
outcome_runs P cfg shown w e (Happened next) is g octets other = marked_runs P cfg shown e w _ (moves P cfg shown w e (Happened next) is g octets other)
outcome_runs P cfg shown w e (Declined error) is g octets other = stays P cfg shown w [] refl refl

tried_runs : (P : Type 0) (cfg : Cfg) (shown : Shown) (e : Event) (w : World) → ActsInOctets e.act
    → (P → (refusal : Option WorldError) → IsNoConnect e.act refusal)
    → Runs P cfg shown w (tried cfg shown e w)
unfolding tried
tried_runs P cfg shown e w octets other = outcome_runs P cfg shown w e (happens cfg w e) refl (by_event cfg w e.at e.act) octets other

both_tried_run : (P : Type 0) (cfg : Cfg) (shown : Shown) (act : Act) (w : World) → ActsInOctets act
    → (P → (refusal : Option WorldError) → IsNoConnect act refusal)
    → Runs P cfg shown w (both_tried cfg shown act w)
unfolding both_tried
both_tried_run P cfg shown act w octets other =
    both_run P cfg shown w _ (tried cfg shown (record { at = Dce; act = act })) (tried_runs P cfg shown (record { at = Dte; act = act }) w octets other)
    (λ v. tried_runs P cfg shown (record { at = Dce; act = act }) v octets other)

fired_runs : (P : Type 0) (cfg : Cfg) (shown : Shown) (w : World) → Runs P cfg shown w (fired cfg shown w)
unfolding fired
fired_runs P cfg shown w = both_run P cfg shown w _ (both_tried cfg shown Fires) (drain_runs P cfg shown most_times w)
    (λ v. both_tried_run P cfg shown Fires v tt (λ p refusal. tt))

pulled_runs : (P : Type 0) (cfg : Cfg) (shown : Shown) (w : World) → Runs P cfg shown w (pulled cfg shown w)
unfolding pulled
pulled_runs P cfg shown w =
    both_run P cfg shown w _ (both_tried cfg shown (Commands (command_asked pull))) (drain_runs P cfg shown most_times w)
    (λ v. both_tried_run P cfg shown (Commands (command_asked pull)) v tt (λ p refusal. tt))

rest_runs : (P : Type 0) (cfg : Cfg) (shown : Shown) (rest : World → Turn) (w : World) (at : Option Role) → ((v : World) → Runs P cfg shown v (rest v))
    → Runs P cfg shown w (unless_empty rest w at)
rest_runs P cfg shown rest w None h = stays P cfg shown w [] refl refl
rest_runs P cfg shown rest w (Some at) h = h w

emptied_runs : (P : Type 0) (cfg : Cfg) (shown : Shown) (n : ℕ) (w : World) → Runs P cfg shown w (emptied cfg shown n w)
unfolding emptied
emptied_runs P cfg shown zero w = stays P cfg shown w [] refl refl
emptied_runs P cfg shown (suc n) w =
    both_run P cfg shown w _ (λ v. unless_empty (emptied cfg shown n) v (next_end v.out v.back)) (pulled_runs P cfg shown w)
    (λ v. rest_runs P cfg shown (emptied cfg shown n) v (next_end v.out v.back) (emptied_runs P cfg shown n))

healed_runs : (P : Type 0) (cfg : Cfg) (shown : Shown) (w : World) → Runs P cfg shown w (healed cfg shown w)
unfolding healed
healed_runs P cfg shown w = both_run P cfg shown w _ (emptied cfg shown most_times) (fired_runs P cfg shown w) (emptied_runs P cfg shown most_times)

line_runs : (P : Type 0) (cfg : Cfg) (shown : Shown) (line : PlainLine) (w : World) → IsInOctets line → (P → IsNoConnectLine (Some line))
    → Runs P cfg shown w (line_turn cfg shown line w)
unfolding line_turn
line_runs P cfg shown (command end asked) w h other = event_runs P cfg shown _ w (handed asked h) (λ p refusal. other_asked end asked refusal (other p))
line_runs P cfg shown (drain count) w h other = drain_runs P cfg shown count w
line_runs P cfg shown heal w h other = healed_runs P cfg shown w
line_runs P cfg shown line w h other = event_runs P cfg shown _ w tt (λ p refusal. tt)

asked_runs : (P : Type 0) (cfg : Cfg) (shown : Shown) (w : World) (asked : Option PlainLine) → AskedInOctets asked → (P → IsNoConnectLine asked)
    → Runs P cfg shown w (asked_turn cfg shown w asked)
asked_runs P cfg shown w None h other = stays P cfg shown w (reads_nothing ∷ []) refl refl
asked_runs P cfg shown w (Some line) h other = line_runs P cfg shown line w h other

taken_some : (b : Bool) (line : PlainLine) → IsInOctets line → AskedInOctets (cond b (Some line) None)
taken_some true line h = h
taken_some false line h = tt

taken_octets : (wide : Bool) (read : Option PlainLine) → AskedInOctets read → AskedInOctets (taken wide read)
taken_octets wide None h = tt
taken_octets wide (Some (command end asked)) h = taken_some (is_taken wide asked) (command end asked) h
taken_octets wide (Some other) h = h

taken_no_connect : (b : Bool) (line : PlainLine) → IsNoConnectLine (Some line) → IsNoConnectLine (cond b (Some line) None)
taken_no_connect true line h = h
taken_no_connect false line h = tt

taken_none : (wide : Bool) (read : Option PlainLine) → IsNoConnectLine read → IsNoConnectLine (taken wide read)
taken_none wide (Some (command end asked)) h = taken_no_connect (is_taken wide asked) (command end asked) h
taken_none wide read h = tt

turn_runs : (P : Type 0) → ReadsOctets → (cfg : Cfg) (shown : Shown) (line : List ℕ) (w : World) → (P → IsNoConnectLine (asked_in line))
    → Runs P cfg shown w (turn cfg shown line w)
unfolding turn
turn_runs P reads cfg shown line w other = asked_runs P cfg shown w (taken cfg.wide (asked_in line))
    (taken_octets cfg.wide (asked_in line) (asked_octets reads line)) (λ p. taken_none cfg.wide (asked_in line) (other p))

lines_run : (P : Type 0) → ReadsOctets → (cfg : Cfg) (shown : Shown) (lines : List (List ℕ)) (w : World) → (P → NoneAsks lines)
    → Runs P cfg shown w (turns cfg shown lines w)
unfolding turns
lines_run P reads cfg shown [] w other = stays P cfg shown w [] refl refl
lines_run P reads cfg shown (line ∷ lines) w other = both_run P cfg shown w (turn cfg shown line w) (turns cfg shown lines)
    (turn_runs P reads cfg shown line w (λ p. (other p).0))
    (λ v. lines_run P reads cfg shown lines v (λ p. (other p).1))

-- ---- set-up

-- what is said is all of the transcript and the tap
record Says (shown : Shown) (t : Turn) : Type 0 where
  entries : entries_in t.sayings ≡ t.next.transcript
  frames : shown.tap ≡ true → frames_in t.sayings ≡ t.next.tap

says_more : (P : Type 0) (cfg : Cfg) (shown : Shown) (t : Turn) (rest : World → Turn) → Says shown t → Runs P cfg shown t.next (rest t.next)
    → Says shown (and_then rest t)
says_more P cfg shown t rest s r = record {
  entries = entries-append t.sayings (rest t.next).sayings ∙ ap (λ xs. xs ++ entries_in (rest t.next).sayings) s.entries ∙ sym r.entries;
  frames = λ asked. frames-append t.sayings (rest t.next).sayings ∙ ap (λ xs. xs ++ frames_in (rest t.next).sayings) (s.frames asked) ∙ sym (r.frames asked);
}

says_connecting : (shown : Shown) (w : World) → Says shown (record { next = w; sayings = told_between shown start w })
says_connecting shown w = record { entries = step_entries shown w.transcript w.tap; frames = λ asked. step_frames shown w.transcript w.tap asked }

turned : (shown : Shown) (w : World) (o : WorldOutcome) → (turn_of shown w o).next ≡ after w o
turned shown w (Happened next) = refl
turned shown w (Declined error) = refl

event_turned : (cfg : Cfg) (shown : Shown) (e : Event) (w : World) → (event_turn cfg shown e w).next ≡ after w (happens cfg w e)
unfolding event_turn
event_turned cfg shown e w = turned shown w (happens cfg w e)

abbrev to_dce : Event
to_dce = record { at = Dce; act = Receives }

abbrev to_dte : Event
to_dte = record { at = Dte; act = Receives }

two_turned : (cfg : Cfg) (shown : Shown) (w : World)
    → (event_turn cfg shown to_dte (event_turn cfg shown to_dce w).next).next ≡ run cfg (to_dce ∷ to_dte ∷ []) w
two_turned cfg shown w = event_turned cfg shown to_dte (event_turn cfg shown to_dce w).next
    ∙ ap (λ v. after v (happens cfg v to_dte)) (event_turned cfg shown to_dce w)

up_at : (cfg : Cfg) (shown : Shown) → (set_up cfg shown).next ≡ established cfg
unfolding set_up
up_at cfg shown = two_turned cfg shown (connected cfg)

says_up : (cfg : Cfg) (shown : Shown) → Says shown (set_up cfg shown)
unfolding set_up
says_up cfg shown =
    says_more (Unit {0}) cfg shown (and_then (event_turn cfg shown to_dce) (connecting cfg shown)) (event_turn cfg shown to_dte)
    (says_more (Unit {0}) cfg shown (connecting cfg shown) (event_turn cfg shown to_dce) (says_connecting shown (connected cfg))
    (event_runs (Unit {0}) cfg shown to_dce (connected cfg) tt (λ p refusal. tt)))
    (event_runs (Unit {0}) cfg shown to_dte (event_turn cfg shown to_dce (connected cfg)).next tt (λ p refusal. tt))

-- what comes before the script
opened_at : (cfg : Cfg) (down : Bool) (shown : Shown) → (opened cfg down shown).next ≡ begins cfg down
opened_at cfg true shown = refl
opened_at cfg false shown = up_at cfg shown

says_opened : (cfg : Cfg) (down : Bool) (shown : Shown) → Says shown (opened cfg down shown)
says_opened cfg true shown = record { entries = refl; frames = λ asked. refl }
says_opened cfg false shown = says_up cfg shown

pub script_runs : ReadsOctets → (cfg : Cfg) (down : Bool) (shown : Shown) (script : List ℕ) → IsRun cfg down shown script
unfolding simulated
script_runs reads cfg down shown script =
    let up = opened cfg down shown in
    let r = lines_run (NoneAsks (lines_of script)) reads cfg shown (lines_of script) up.next (λ none. none) in
    let says = says_more (NoneAsks (lines_of script)) cfg shown up (turns cfg shown (lines_of script)) (says_opened cfg down shown) r in
    let at : (turns cfg shown (lines_of script) up.next).next ≡ run cfg r.events (begins cfg down) =
    r.next ∙ ap (run cfg r.events) (opened_at cfg down shown) in record {
      events = r.events;
      accepted = subst (AreAccepted cfg r.events) (opened_at cfg down shown) r.accepted;
      octets = r.octets;
      next = at;
      entries = says.entries ∙ ap (λ w. w.transcript) at;
      frames = λ asked. says.frames asked ∙ ap (λ w. w.tap) at;
      unconnected = λ none. subst (NoneConnects cfg r.events) (opened_at cfg down shown) (r.unconnected none);
    }

-- ---- what holds of runs

begins_there : (cfg : Cfg) (down : Bool) → IsBeginning cfg (begins cfg down)
begins_there cfg true = inl refl
begins_there cfg false = inr (inr refl)

pub of_script : (Holds : Cfg → World → Type 0) → UntilSecondUp Holds → ScriptsAreRuns → OfScripts Holds
of_script Holds until runs = λ cfg range down shown script once. let r = runs cfg down shown script in
    subst (Holds cfg) (sym r.next) (until cfg range (begins cfg down) (begins_there cfg down) r.events r.octets (subst (IsUpAtMostOnce cfg) r.next once))

pub of_script_set_up : (Holds : Cfg → List Event → World → Type 0) → Always Holds → ScriptsAreRuns
    → OfScriptsSetUp (λ (cfg : Cfg) (w : World). (events : List Event) × (run cfg events (established cfg) ≡ w) × Holds cfg events w)
of_script_set_up Holds always runs = λ cfg range shown script once. let r = runs cfg false shown script in
    (r.events, sym r.next, subst (Holds cfg r.events) (sym r.next) (always cfg range r.events r.octets (subst (IsUpOnce cfg) r.next once)))

pub of_all_scripts : (Holds : Cfg → World → Type 0) → Throughout Holds → ScriptsAreRuns → OfAllScripts Holds
of_all_scripts Holds throughout runs = λ cfg range down shown script. let r = runs cfg down shown script in
    subst (Holds cfg) (sym r.next) (throughout cfg range (begins cfg down) (begins_there cfg down) r.events r.octets)

pub of_all_runs : (Holds : Cfg → World → List Event → World → Type 0) → ThroughoutAlong Holds → ScriptsAreRuns
    → OfAllScripts (λ (cfg : Cfg) (w : World). (begin : World) × IsBeginning cfg begin × (events : List Event) × (run cfg events begin ≡ w)
    × Holds cfg begin events w)
of_all_runs Holds throughout runs = λ cfg range down shown script. let r = runs cfg down shown script in (
  begins cfg down,
  begins_there cfg down,
  r.events,
  sym r.next,
  subst (Holds cfg (begins cfg down) r.events) (sym r.next) (throughout cfg range (begins cfg down) (begins_there cfg down) r.events r.octets),
)

pub up_once : UpOnceUnlessConnected → ScriptsAreRuns → UpOnceUnlessAsked
up_once once runs = λ cfg range shown script none. let r = runs cfg false shown script in
    subst (IsUpOnce cfg) (sym r.next) (once cfg range r.events r.octets (r.unconnected none))

pub are_told : ScriptsAreRuns → ScriptsAreTold
are_told runs = λ cfg down shown script. let r = runs cfg down shown script in r.entries ∙ ap (λ w. w.transcript) (sym r.next)

pub are_tapped : ScriptsAreRuns → ScriptsAreTapped
are_tapped runs = λ cfg down shown script asked. let r = runs cfg down shown script in r.frames asked ∙ ap (λ w. w.tap) (sym r.next)

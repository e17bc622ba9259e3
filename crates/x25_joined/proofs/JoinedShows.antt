-- Two joined programs and a world of two stations, as one of the ends sees them: what one act of the programs is in the world.
use Rattle.x25_joined.proofs.Names.{◌≡◌, ◌∙◌, ◌≤◌, ℕ, suc, Bool, true, false, ◌&&◌, List, [], ◌∷◌, ◌++◌, length, map, Option, Some, None, append_assoc}
use Rattle.x25_joined.proofs.Names.{append-nil, ap, sym, subst, refl, arith, All-nil, All-cons, other, Role, Dte, Dce, spelling_of, ReadsOctets, IsOpen, Cfg}
use Rattle.x25_joined.proofs.Names.{StationEntry, Settings, settings_from, Station, Step, Outcome, Did, Refused, commands, fires, StationEvent, Comes, Asks}
use Rattle.x25_joined.proofs.Names.{Fires, with_pulls, event_in, turn, piped, AreOfFrame, written, entries_in, frames_in}
use Rattle.std.proofs.{Common.{zero, ◌||◌, nat_lt, cond, take, drop, remove, All, ap₂}, lemmas.Bool.{ltb-false}, lemmas.List.{map-append}}
use Rattle.std.proofs.lemmas.List.Elements.{All-head, All-tail, All-append, All-take, All-drop}
use Rattle.x25_joined.proofs.{AskedOctets.{AsksOctets, asks_octets}, FrameText.{frame_words, frame_text, frame_open, frame_comes}}
use Rattle.x25_joined.proofs.LineText.{AreWhole, more_whole, one_more, said_more}
use Rattle.x25_joined.{proofs.Turns.{entries-append, frames-append, TurnIs, line_did, line_refused, line_none}, specs.laws.Joined.{IsPossible}}
use Rattle.x25_joined.specs.laws.Joined.{Joined, station_of, reads, takes, on_line, Act, Reads, Takes, Loses, Damages, acts, IsNoFrame, is_on_line, IsInTime}
use Rattle.x25_joined.specs.laws.JoinedClaims.{frame_of_end, put_by}
use Rattle.x25_layer.specs.Calls.{PullsAll}
use Rattle.x25_line.specs.laws.{Loss.{replaced}, Stations.{is_visible}}
use Rattle.x25_link.specs.Station.{awaits_ua}
use Rattle.x25_pipe.specs.Pipe.{pulled_behind, and_pulls}
use Rattle.x25_station.specs.{Command.{Command, Requests}, Step.{receives}}
use Rattle.x25_world.proofs.Growing.{entries_append, own_entries, no_entries}
use Rattle.x25_world.specs.SetUp.{carries}
use Rattle.x25_world.specs.World.{OnTap, AtEnd, World, tapped, entered, after_step, Happened, Declined, of_station, delivered}
use Rattle.x25_world.specs.{declared.set_up.SetUpFrame.TheVariants.{Sabm, Ua}, laws.Claims.{ActsInOctets, entries_at}, laws.TapOctets.{AreOfFrames}}
use Rattle.x25_world.specs.declared.error.WorldError.TheVariants as error
use Rattle.x25_world.specs.World as world

-- ---- transcript and tap, of each end

put_by-append : (end : Role) (xs ys : List OnTap) → put_by end (xs ++ ys) ≡ put_by end xs ++ put_by end ys
put_by-append end [] ys = refl
put_by-append end (x ∷ xs) ys =
    ap (λ (fs : List (List ℕ)). frame_of_end end x.from x.octets ++ fs) (put_by-append end xs ys)
    ∙ sym (append_assoc (frame_of_end end x.from x.octets) (put_by end xs) (put_by end ys))

own_frames : (end : Role) (fs : List (List ℕ)) → put_by end (tapped end fs) ≡ fs
own_frames end [] = refl
own_frames Dte (f ∷ fs) = ap (λ (xs : List (List ℕ)). f ∷ xs) (own_frames Dte fs)
own_frames Dce (f ∷ fs) = ap (λ (xs : List (List ℕ)). f ∷ xs) (own_frames Dce fs)

no_frames : (end : Role) (fs : List (List ℕ)) → put_by (other end) (tapped end fs) ≡ []
no_frames end [] = refl
no_frames Dte (f ∷ fs) = no_frames Dte fs
no_frames Dce (f ∷ fs) = no_frames Dce fs

-- ---- what is kept

-- the program of an end, with all that it read; and its station, its entries and its frames in a world
pub record IsEnd (cfg : Cfg) (end : Role) (input : List ℕ) (s : Station) (transcript : List AtEnd) (tap : List OnTap) : Type 0 where
  pub whole : AreWhole input
  pub station : station_of (settings_from end cfg) input ≡ s
  pub entries : entries_at end transcript ≡ entries_in (written (settings_from end cfg) input)
  pub frames : put_by end tap ≡ frames_in (written (settings_from end cfg) input)

pub record Shows (cfg : Cfg) (end : Role) (j : Joined) (w : World) : Type 0 where
  pub near : IsEnd cfg end j.near w.near w.transcript w.tap
  pub far : IsEnd cfg (other end) j.far w.far w.transcript w.tap
  pub out : w.out ≡ j.out
  pub back : w.back ≡ j.back

-- what is on the line is octets of frames
pub record Fits (w : World) : Type 0 where
  pub out : All AreOfFrame w.out
  pub back : All AreOfFrame w.back

abbrev pub all_pulled : world.Act
all_pulled = world.Commands (Requests PullsAll)

-- what an act of the programs is in a world: nothing; or an act that is accepted; or one behind which pulls are
pub data Mirrors (cfg : Cfg) (end : Role) (w : World) (j : Joined) : Type 0 where
  stays : Shows cfg end j w → Mirrors cfg end w j
  moves : (act : world.Act) (next : World) → world.acts (settings_from end cfg) w act ≡ Happened next → ActsInOctets act → Shows cfg end j next
      → (AreOfFrames next.tap → Fits next) → Mirrors cfg end w j
  pulls : (act : world.Act) (between next : World) → world.acts (settings_from end cfg) w act ≡ Happened between
      → world.acts (settings_from end cfg) between all_pulled ≡ Happened next → ActsInOctets act
      → Shows cfg end j next → (AreOfFrames next.tap → Fits next) → Mirrors cfg end w j

-- ---- the line

tap_new : (from : Role) (tap : List OnTap) (fs : List (List ℕ)) → AreOfFrames (tap ++ tapped from fs) → All AreOfFrame fs
tap_new from (t ∷ tap) fs h = tap_new from tap fs h.1
tap_new from [] [] h = All-nil AreOfFrame
tap_new from [] (f ∷ fs) h = All-cons AreOfFrame f fs h.0 (tap_new from [] fs h.1)

replaced_fit : (xs : List (List ℕ)) (place : ℕ) (octets : List ℕ) → All AreOfFrame xs → AreOfFrame octets → All AreOfFrame (replaced xs place (λ _. octets))
replaced_fit [] place octets h f = h
replaced_fit (x ∷ xs) zero octets h f = All-cons AreOfFrame octets xs f (All-tail AreOfFrame x xs h)
replaced_fit (x ∷ xs) (suc place) octets h f = All-cons AreOfFrame x (replaced xs place (λ _. octets)) (All-head AreOfFrame x xs h)
    (replaced_fit xs place octets (All-tail AreOfFrame x xs h) f)

-- past the end of a line none is lost and none damaged

none_lost : (xs : List (List ℕ)) (place : ℕ) → length xs ≤ place → remove xs place ≡ xs
none_lost [] zero past = refl
none_lost [] (suc place) past = refl
none_lost (x ∷ xs) zero past = absurd (omega (arith, past))
none_lost (x ∷ xs) (suc place) past = ap (λ l. x ∷ l) (none_lost xs place (omega (arith, past)))

none_damaged : (xs : List (List ℕ)) (place : ℕ) (octets : List ℕ) → length xs ≤ place → replaced xs place (λ _. octets) ≡ xs
none_damaged [] place octets past = refl
none_damaged (x ∷ xs) zero octets past = absurd (omega (arith, past))
none_damaged (x ∷ xs) (suc place) octets past = ap (λ l. x ∷ l) (none_damaged xs place octets (omega (arith, past)))

-- a step and then another, with the same left on the line to the end, are one of both
two_steps : (c : Settings) (w : World) (back : List (List ℕ)) (step more : Step) → after_step c (after_step c w back step) back more
    ≡ after_step c w back (pulled_behind step (Did more))
two_steps c w back step more =
    ap₂ (λ (out : List (List ℕ)) (tap : List OnTap).
    let v : World = record {
      near = more.near;
      far = w.far;
      out = out;
      back = back;
      tap = tap;
      transcript = (w.transcript ++ entered c.role step.entries)
          ++ entered c.role more.entries;
    } in v)
    (append_assoc w.out fs gs ∙ ap (λ (xs : List (List ℕ)). w.out ++ xs) (sym both))
    (append_assoc w.tap (tapped c.role fs) (tapped c.role gs)
    ∙ ap (λ (xs : List OnTap). w.tap ++ xs)
    ((let f : List ℕ → OnTap = λ octets. record { from = c.role; octets = octets } in sym (map-append f fs gs)) ∙ ap (tapped c.role) (sym both)))
    ∙ ap (λ (transcript : List AtEnd).
    let v : World = record {
      near = more.near;
      far = w.far;
      out = w.out ++ map (spelling_of c.role) (step.out ++ more.out);
      back = back;
      tap = w.tap
          ++ tapped c.role (map (spelling_of c.role) (step.out ++ more.out));
      transcript = transcript;
    } in v)
    (append_assoc w.transcript (entered c.role step.entries) (entered c.role more.entries)
    ∙ ap (λ (es : List AtEnd). w.transcript ++ es)
    (let f : StationEntry → AtEnd = λ entry. record { at = c.role; entry = entry } in sym (map-append f step.entries more.entries)))
  where
    fs : List (List ℕ)
    fs = map (spelling_of c.role) step.out

    gs : List (List ℕ)
    gs = map (spelling_of c.role) more.out

    both : map (spelling_of c.role) (step.out ++ more.out) ≡ fs ++ gs
    both = map-append (spelling_of c.role) step.out more.out

module _ (cfg : Cfg) (end : Role) (w : World) (fits : Fits w) where
  abbrev c : Settings
  c = settings_from end cfg

  step_fits : (back : List (List ℕ)) (step : Step) → All AreOfFrame back → AreOfFrames (after_step c w back step).tap → Fits (after_step c w back step)
  step_fits back step rest tap = record {
    out = All-append AreOfFrame w.out (map (spelling_of end) step.out) fits.out (tap_new end w.tap (map (spelling_of end) step.out) tap);
    back = rest;
  }

  -- ---- a line is read

  module _ (j : Joined) (h : Shows cfg end j w) where
    -- with where it leads, and what is said
    reads_shows : (back : List (List ℕ)) (line : List ℕ) (step : Step) → IsOpen line
        → TurnIs (turn c line w.near) step.near step.entries (map (spelling_of end) step.out)
        → Shows cfg end (reads c j back (line ++ 10 ∷ [])) (after_step c w back step)
    reads_shows back line step none turns =
        let es = step.entries in
        let fs = map (spelling_of end) step.out in
        let more = (turn c line (piped c j.near).next).sayings in
        let is : TurnIs (turn c line (piped c j.near).next) step.near es fs =
        subst (λ (s : Station). TurnIs (turn c line s) step.near es fs) (sym h.near.station) turns in
        let all : written c (j.near ++ (line ++ 10 ∷ [])) ≡ written c j.near ++ more = ap (λ t. t.sayings) (one_more c j.near line h.near.whole none) in
        record {
          near = record {
            whole = more_whole j.near line h.near.whole none;
            station = ap (λ t. t.next) (one_more c j.near line h.near.whole none) ∙ is.next;
            entries = entries_append end w.transcript (entered end es)
                ∙ ap₂ (λ (xs ys : List StationEntry). xs ++ ys) h.near.entries (own_entries end es ∙ sym is.entries)
                ∙ sym (entries-append (written c j.near) more) ∙ ap entries_in (sym all);
            frames = put_by-append end w.tap (tapped end fs) ∙ ap₂ (λ (xs ys : List (List ℕ)). xs ++ ys) h.near.frames (own_frames end fs ∙ sym is.frames)
                ∙ sym (frames-append (written c j.near) more) ∙ ap frames_in (sym all);
          };
          far = record {
            whole = h.far.whole;
            station = h.far.station;
            entries = entries_append (other end) w.transcript (entered end es)
                ∙ ap (λ (xs : List StationEntry). entries_at (other end) w.transcript ++ xs) (no_entries end es)
                ∙ append-nil (entries_at (other end) w.transcript) ∙ h.far.entries;
            frames = put_by-append (other end) w.tap (tapped end fs) ∙ ap (λ (xs : List (List ℕ)). put_by (other end) w.tap ++ xs) (no_frames end fs)
                ∙ append-nil (put_by (other end) w.tap) ∙ h.far.frames;
          };
          out = ap₂ (λ (xs ys : List (List ℕ)). xs ++ ys) h.out (sym is.frames ∙ ap frames_in (sym (said_more c j.near line h.near.whole none)));
          back = refl;
        }

    -- a step that does nothing
    abbrev still : Step
    still = record { near = w.near; out = []; entries = [] }

    stood : after_step c w w.back still ≡ w
    stood =
        ap (λ (out : List (List ℕ)). let v : World = record {
          near = w.near;
          far = w.far;
          out = out;
          back = w.back;
          tap = w.tap ++ [];
          transcript = w.transcript ++ [];
        } in v) (append-nil w.out)
        ∙ ap (λ (tap : List OnTap). let v : World = record {
          near = w.near;
          far = w.far;
          out = w.out;
          back = w.back;
          tap = tap;
          transcript = w.transcript
              ++ [];
        } in v) (append-nil w.tap)
        ∙ ap (λ (transcript : List AtEnd). let v : World = record {
          near = w.near;
          far = w.far;
          out = w.out;
          back = w.back;
          tap = w.tap;
          transcript = transcript;
        } in v) (append-nil w.transcript)

    nothing_happens : (line : List ℕ) → IsOpen line → TurnIs (turn c line w.near) w.near [] [] → Mirrors cfg end w (reads c j j.back (line ++ 10 ∷ []))
    nothing_happens line none turns = stays (subst (λ (v : World). Shows cfg end (reads c j j.back (line ++ 10 ∷ [])) v) stood
        (subst (λ (back : List (List ℕ)). Shows cfg end (reads c j back (line ++ 10 ∷ [])) (after_step c w w.back still)) h.back
        (reads_shows w.back line still none turns)))

    -- an act and its pulls are a step of both
    happens_pulling : (act : world.Act) (line : List ℕ) (back : List (List ℕ)) (step : Step) → IsOpen line → All AreOfFrame back
        → TurnIs (turn c line w.near) (and_pulls c step).near (and_pulls c step).entries (map (spelling_of end) (and_pulls c step).out)
        → world.acts c w act ≡ Happened (after_step c w back step) → ActsInOctets act → Mirrors cfg end w (reads c j back (line ++ 10 ∷ []))
    happens_pulling act line back step none rest turns is octets = by (commands c step.near (Requests PullsAll)) refl
      where
        turned_by : (o : Outcome) → commands c step.near (Requests PullsAll) ≡ o
            → TurnIs (turn c line w.near) (pulled_behind step o).near (pulled_behind step o).entries (map (spelling_of end) (pulled_behind step o).out)
        turned_by o found =
            subst (λ (o : Outcome). TurnIs (turn c line w.near) (pulled_behind step o).near (pulled_behind step o).entries
            (map (spelling_of end) (pulled_behind step o).out)) found turns

        by : (o : Outcome) → commands c step.near (Requests PullsAll) ≡ o → Mirrors cfg end w (reads c j back (line ++ 10 ∷ []))
        by (Refused e) found = moves act (after_step c w back step) is octets (reads_shows back line step none (turned_by (Refused e) found))
            (step_fits back step rest)
        by (Did more) found =
            let both = pulled_behind step (Did more) in
            pulls act (after_step c w back step) (after_step c w back both) is
            (ap (of_station c (after_step c w back step)) found ∙ ap (λ (v : World). Happened v) (two_steps c w back step more)) octets
            (reads_shows back line both none (turned_by (Did more) found)) (step_fits back both rest)

    something_happens : (act : world.Act) (line : List ℕ) (step : Step) → IsOpen line
        → TurnIs (turn c line w.near) (and_pulls c step).near (and_pulls c step).entries (map (spelling_of end) (and_pulls c step).out)
        → world.acts c w act ≡ Happened (after_step c w w.back step) → ActsInOctets act → Mirrors cfg end w (reads c j j.back (line ++ 10 ∷ []))
    something_happens act line step none turns is octets =
        subst (λ (back : List (List ℕ)). Mirrors cfg end w (reads c j back (line ++ 10 ∷ []))) h.back
        (happens_pulling act line w.back step none fits.back turns is octets)

    commanded : (line : List ℕ) (command : Command) (o : Outcome) → IsOpen line → event_in cfg.wide end line ≡ Some (Asks command)
        → AsksOctets (Some (Asks command)) → commands c w.near command ≡ o
        → Mirrors cfg end w (reads c j j.back (line ++ 10 ∷ []))
    commanded line command (Did step) none asks octets is =
        something_happens (world.Commands command) line step none (line_did c w.near line (Asks command) (and_pulls c step) asks (ap (with_pulls c) is))
        (ap (of_station c w) is) octets
    commanded line command (Refused e) none asks octets is = nothing_happens line none (line_refused c w.near line (Asks command) e asks is)

    in_time : (awaits_ua (station_of c j.near).link.phase && is_on_line c j) ≡ false → (awaits_ua w.near.link.phase && world.is_on_line c w) ≡ false
    in_time free =
        ap (λ (s : Station). awaits_ua s.link.phase && world.is_on_line c w) (sym h.near.station)
        ∙ ap₂ (λ (out back : List (List ℕ)). awaits_ua (station_of c j.near).link.phase && (carries Sabm end out || carries Ua (other end) back)) h.out h.back
        ∙ free

    fired : (line : List ℕ) (o : Outcome) → IsOpen line → event_in cfg.wide end line ≡ Some Fires → IsInTime c j (Some Fires) → fires c w.near ≡ o
        → Mirrors cfg end w (reads c j j.back (line ++ 10 ∷ []))
    fired line (Did step) none asks free is =
        something_happens world.Fires line step none (line_did c w.near line Fires (and_pulls c step) asks (ap (with_pulls c) is))
        (ap (λ (b : Bool). cond b (Declined error.OnLine) (of_station c w (fires c w.near))) (in_time free) ∙ ap (of_station c w) is) tt
    fired line (Refused e) none asks free is = nothing_happens line none (line_refused c w.near line Fires e asks is)

    asked : (line : List ℕ) (event : Option StationEvent) → IsOpen line → event_in cfg.wide end line ≡ event → IsNoFrame event → IsInTime c j event
        → AsksOctets event → Mirrors cfg end w (reads c j j.back (line ++ 10 ∷ []))
    asked line None none asks no_frame free octets = nothing_happens line none (line_none c w.near line asks)
    asked line (Some (Comes x)) none asks no_frame free octets = absurd no_frame
    asked line (Some (Asks command)) none asks no_frame free octets = commanded line command (commands c w.near command) none asks octets refl
    asked line (Some Fires) none asks no_frame free octets = fired line (fires c w.near) none asks free refl

    -- ---- a frame comes

    taken : (back : List (List ℕ)) → j.back ≡ back → Mirrors cfg end w (takes c j back)
    taken [] empty = stays h
    taken (octets ∷ back) there =
        let line = frame_words (other end) octets in
        let none = frame_open (other end) octets in
        let on_it : w.back ≡ octets ∷ back = h.back ∙ there in
        let all : All AreOfFrame (octets ∷ back) = subst (All AreOfFrame) on_it fits.back in
        let step = receives c w.near octets in
        let turns = line_did c w.near line (Comes octets) (and_pulls c step) (frame_comes cfg.wide end octets (All-head AreOfFrame octets back all)) refl in
        subst (λ (text : List ℕ). Mirrors cfg end w (reads c j back text)) (sym (frame_text (other end) octets))
        (happens_pulling world.Receives line back step none (All-tail AreOfFrame octets back all) turns (ap (delivered c w) on_it) tt)

    -- ---- loss and damage

    changed : (back there : List (List ℕ)) → back ≡ there → Shows cfg end (on_line j there) (world.on_line w back)
    changed back there is = record { near = h.near; far = h.far; out = h.out; back = is }

    same_place : (place : ℕ) → nat_lt place (length w.back) ≡ nat_lt place (length j.back)
    same_place place = ap (λ (back : List (List ℕ)). nat_lt place (length back)) h.back

    lost : (place : ℕ) (b : Bool) → nat_lt place (length j.back) ≡ b → Mirrors cfg end w (on_line j (remove j.back place))
    lost place false is = subst (λ (back : List (List ℕ)). Mirrors cfg end w (on_line j back))
        (sym (none_lost j.back place (ltb-false place (length j.back) is))) (stays h)
    lost place true is =
        moves (world.Loses place) (world.on_line w (remove w.back place))
        (ap (λ (b : Bool). cond b (Happened (world.on_line w (remove w.back place))) (Declined error.NoSuchFrame)) (same_place place ∙ is)) tt
        (changed (remove w.back place) (remove j.back place) (ap (λ (back : List (List ℕ)). remove back place) h.back))
        (λ tap. record {
          out = fits.out;
          back = All-append AreOfFrame (take place w.back) (drop (suc place) w.back) (All-take AreOfFrame place w.back fits.back)
              (All-drop AreOfFrame (suc place) w.back fits.back);
        })

    damaged : (place : ℕ) (octets : List ℕ) (b : Bool) → is_visible octets ≡ true → AreOfFrame octets → nat_lt place (length j.back) ≡ b
        → Mirrors cfg end w (on_line j (replaced j.back place (λ _. octets)))
    damaged place octets false seen fit is = subst (λ (back : List (List ℕ)). Mirrors cfg end w (on_line j back))
        (sym (none_damaged j.back place octets (ltb-false place (length j.back) is))) (stays h)
    damaged place octets true seen fit is =
        let there = world.on_line w (replaced w.back place (λ _. octets)) in
        moves (world.Damages place octets) there
        (ap (λ (b : Bool). cond b (cond (is_visible octets) (Happened there) (Declined error.Unseen)) (Declined error.NoSuchFrame)) (same_place place ∙ is)
        ∙ ap (λ (b : Bool). cond b (Happened there) (Declined error.Unseen)) seen) tt
        (changed (replaced w.back place (λ _. octets)) (replaced j.back place (λ _. octets))
        (ap (λ (back : List (List ℕ)). replaced back place (λ _. octets)) h.back))
        (λ tap. record { out = fits.out; back = replaced_fit w.back place octets fits.back fit })

    -- ---- each act

    pub act_shows : ReadsOctets → (act : Act) → IsPossible c j act → Mirrors cfg end w (acts c j act)
    act_shows octets (Reads line) may = asked line (event_in cfg.wide end line) may.is_line refl may.is_no_frame may.in_time
        (asks_octets octets cfg.wide end line)
    act_shows octets Takes may = taken j.back refl
    act_shows octets (Loses place) may = lost place (nat_lt place (length j.back)) refl
    act_shows octets (Damages place x) may = damaged place x (nat_lt place (length j.back)) may.is_seen may.fits refl

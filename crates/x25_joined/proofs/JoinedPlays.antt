-- Two programs with clocks are two without that read the lines of users for what is due.
use Rattle.std.proofs.Common.{◌≡◌, ◌∙◌, ◌≤◌, ℕ, ◌&&◌, List, [], ◌∷◌, ◌++◌, map, flat_map, Option, Some, None, ap, refl, sym, subst, append-nil}
use Rattle.std.proofs.Common.{append_assoc}
use Rattle.x25_bits.specs.{Role.{other}, declared.role.Role.{Role}, declared.role.Role.TheVariants.{Dte, Dce}}
use Rattle.x25_clock.specs.declared.times.Times.{Times}
use Rattle.x25_io.specs.Lines.{IsOpen}
use Rattle.x25_joined.proofs.{FrameText.{frame_words, frame_text, frame_open}, LineText.{AreWhole, none_whole, more_whole, first_said}}
use Rattle.x25_joined.specs.laws.Joined as plain
use Rattle.x25_joined.specs.laws.Joined.{Joined, Act, Reads, Takes, Loses, Damages, Happening, IsNoFrame, entries_in, exchanged, frames_in, is_on_line}
use Rattle.x25_joined.specs.laws.Joined.{nothing_read}
use Rattle.x25_joined.specs.laws.Joined.{on_line, station_of, written}
use Rattle.x25_joined.specs.laws.JoinedClaims as plain_claims
use Rattle.x25_layer.specs.laws.{Law.{HandsUpLawfully, HasAllOf}, Transcript.{Entry}}
use Rattle.x25_link.specs.Station.{awaits_ua}
use Rattle.x25_pipe.specs.Pipe.{asked_act}
unfoldable use Rattle.x25_pipe.specs.Pipe.{event_in}
unfoldable use Rattle.x25_pipe.specs.Timed.{timed, timed_turn}
use Rattle.x25_pipe.specs.Timed.{Timed}
use Rattle.x25_script.specs.laws.ReadingLaw.{ReadsWhatIsSpelled}
use Rattle.x25_station.specs.{Config.{Settings, settings_from}, Entry.{StationEntry, layer_entries}, Station.{Station}}
use Rattle.x25_station.specs.Station.Told.{is_idle, stretch}
use Rattle.x25_station.specs.declared.config.Cfg.{Cfg}
use Rattle.x25_station.specs.laws.TimerLaw.{StationEvent, Asks, Comes, Fires}
use Rattle.x25_joined.proofs.PeerPlays.{AreOpen, IsOpenPlay, few_channels, line_open, no_time, quiet_no_frame}
use Rattle.x25_joined.proofs.PlayedFollows.{AreLowPlays, AreQuiet, IsLowPlay, IsQuiet, Linked, RestQuiet, StayLow, line_follows, line_quiet, new_low, next_by}
use Rattle.x25_joined.proofs.PlayedLines.{first_plays, first_stands, more_is, next_more, written_is}
use Rattle.x25_joined.proofs.PlayedReads.{reads_one, timed_entries-append, timed_frames-append, told_entries, told_frames, words_ask, words_open}
use Rattle.x25_joined.specs.laws.Played.{Answers, AreSaid, Insists, IsSaidPlay, Marks, Passes, Play, Played, TimedSaying, answer_plays, asked_by, due_words, first_asked, line_plays}
use Rattle.x25_joined.specs.laws.Played.{playing, timed_entries, timed_frames, timed_station, timed_written, told}
use Rattle.x25_joined.specs.laws.TimedJoined as clocked
use Rattle.x25_joined.specs.laws.TimedJoined.{Clocks}
use Rattle.x25_joined.specs.laws.TimedJoinedClaims as clocked_claims
use Rattle.x25_world.specs.{World.{World}, laws.Claims.{ups_in}}

-- ---- acts of one end, one after another

abbrev acts_all : Settings → List Act → Joined → Joined
acts_all c [] j = j
acts_all c (a ∷ xs) j = acts_all c xs (plain.acts c j a)

abbrev AllPossible : Settings → List Act → Joined → Type 0
AllPossible c [] j = Unit {0}
AllPossible c (a ∷ xs) j = plain.IsPossible c j a × AllPossible c xs (plain.acts c j a)

acts_append : (c : Settings) (xs bs : List Act) (j : Joined) → acts_all c (xs ++ bs) j ≡ acts_all c bs (acts_all c xs j)
acts_append c [] bs j = refl
acts_append c (a ∷ xs) bs j = acts_append c xs bs (plain.acts c j a)

possible_append : (c : Settings) (xs bs : List Act) (j : Joined) → AllPossible c xs j → AllPossible c bs (acts_all c xs j) → AllPossible c (xs ++ bs) j
possible_append c [] bs j a b = b
possible_append c (x ∷ xs) bs j a b = (a.0, possible_append c xs bs (plain.acts c j x) a.1 b)

-- the near end has read a text, and put frames on the line
abbrev came : Joined → List ℕ → List (List ℕ) → Joined
came j text frames = record { near = text; far = j.far; out = j.out ++ frames; back = j.back }

record Done (c : Settings) (j : Joined) (said : List TimedSaying) (t : Station) : Type 0 where
  acts : List Act
  possible : AllPossible c acts j
  text : List ℕ
  whole : AreWhole text
  station : station_of c text ≡ t
  entries : entries_in (written c text) ≡ entries_in (written c j.near) ++ timed_entries said
  frames : frames_in (written c text) ≡ frames_in (written c j.near) ++ timed_frames said
  leads : acts_all c acts j ≡ came j text (timed_frames said)

quiet_in_time : (c : Settings) (j : Joined) (o : Option StationEvent) → IsQuiet o → plain.IsInTime c j o
quiet_in_time c j None quiet = tt
quiet_in_time c j (Some (Comes octets)) quiet = tt
quiet_in_time c j (Some (Asks asked)) quiet = tt
quiet_in_time c j (Some Fires) quiet = absurd quiet

module _ (spelled : ReadsWhatIsSpelled) (c : Settings) where
  none_done : (j : Joined) → AreWhole j.near → (said : List TimedSaying) (t : Station) → station_of c j.near ≡ t → timed_entries said ≡ []
      → timed_frames said ≡ [] → Done c j said t
  none_done j whole said t at entries frames = record {
    acts = [];
    possible = tt;
    text = j.near;
    whole = whole;
    station = at;
    entries = sym (append-nil (entries_in (written c j.near))) ∙ ap (λ (es : List StationEntry). entries_in (written c j.near) ++ es) (sym entries);
    frames = sym (append-nil (frames_in (written c j.near))) ∙ ap (λ (fs : List (List ℕ)). frames_in (written c j.near) ++ fs) (sym frames);
    leads = ap (λ (out : List (List ℕ)). let x : Joined = record { near = j.near; far = j.far; out = out; back = j.back } in x)
        (sym (append-nil j.out) ∙ ap (λ (fs : List (List ℕ)). j.out ++ fs) (sym frames));
  }

  line_done : (j : Joined) → AreWhole j.near → (w : Timed) (play : Play) → w.station ≡ station_of c j.near → (line : List ℕ) → IsOpen line
      → event_in c.wide c.role line ≡ asked_by c play → IsNoFrame (asked_by c play) → plain.IsInTime c j (asked_by c play)
      → Done c j (told c (playing w play)) (next_by c (playing w play))
  line_done j whole w play at line none is no_frame in_time =
      let o : Option StationEvent = asked_by c play in
      let r = reads_one c j.near line o whole none is in
      let text : List ℕ = j.near ++ (line ++ 10 ∷ []) in
      record {
        acts = Reads line ∷ [];
        possible = (record { is_line = none; is_no_frame = subst IsNoFrame (sym is) no_frame; in_time = subst (plain.IsInTime c j) (sym is) in_time }, tt);
        text = text;
        whole = r.whole;
        station = r.station ∙ ap (λ (s : Station). (asked_act c s o).next) (sym at);
        entries = r.entries ∙ ap (λ (es : List StationEntry). entries_in (written c j.near) ++ es)
            (ap (λ (s : Station). entries_in (asked_act c s o).sayings) (sym at) ∙ sym (told_entries c w play));
        frames = r.all_frames ∙ ap (λ (fs : List (List ℕ)). frames_in (written c j.near) ++ fs)
            (ap (λ (s : Station). frames_in (asked_act c s o).sayings) (sym at) ∙ sym (told_frames c w play));
        leads = ap (λ (fs : List (List ℕ)). came j text fs)
            (r.frames ∙ ap (λ (s : Station). frames_in (asked_act c s o).sayings) (sym at) ∙ sym (told_frames c w play));
      }

  one_done : (j : Joined) → AreWhole j.near → (w : Timed) (play : Play) → w.station ≡ station_of c j.near → IsLowPlay play → IsOpenPlay play → IsSaidPlay c play
      → IsNoFrame (asked_by c play) → plain.IsInTime c j (asked_by c play) → Done c j (told c (playing w play)) (next_by c (playing w play))
  one_done j whole w (Answers line) at low none said no_frame in_time = line_done j whole w (Answers line) at line none refl no_frame in_time
  one_done j whole w (Insists due asked) at low none said no_frame in_time =
      line_done j whole w (Insists due asked) at (due_words c.role asked) (words_open c.role asked low)
      (words_ask spelled c.wide c.role asked low said) no_frame in_time
  one_done j whole w Passes at low none said no_frame in_time = none_done j whole (told c (playing w Passes)) w.station (sym at) refl refl
  one_done j whole w Marks at low none said no_frame in_time = none_done j whole (told c (playing w Marks)) w.station (sym at) refl refl

  join : (j : Joined) (a b : List TimedSaying) (s t : Station) (first : Done c j a s) → Done c (came j first.text (timed_frames a)) b t → Done c j (a ++ b) t
  join j a b s t first rest = record {
    acts = first.acts ++ rest.acts;
    possible = possible_append c first.acts rest.acts j first.possible (subst (AllPossible c rest.acts) (sym first.leads) rest.possible);
    text = rest.text;
    whole = rest.whole;
    station = rest.station;
    entries = rest.entries ∙ ap (λ (es : List StationEntry). es ++ timed_entries b) first.entries
        ∙ append_assoc (entries_in (written c j.near)) (timed_entries a) (timed_entries b)
        ∙ ap (λ (es : List StationEntry). entries_in (written c j.near) ++ es) (sym (timed_entries-append a b));
    frames = rest.frames ∙ ap (λ (fs : List (List ℕ)). fs ++ timed_frames b) first.frames
        ∙ append_assoc (frames_in (written c j.near)) (timed_frames a) (timed_frames b)
        ∙ ap (λ (fs : List (List ℕ)). frames_in (written c j.near) ++ fs) (sym (timed_frames-append a b));
    leads = acts_append c first.acts rest.acts j ∙ ap (acts_all c rest.acts) first.leads ∙ rest.leads
        ∙ ap (λ (out : List (List ℕ)). let x : Joined = record { near = rest.text; far = j.far; out = out; back = j.back } in x)
        (append_assoc j.out (timed_frames a) (timed_frames b) ∙ ap (λ (fs : List (List ℕ)). j.out ++ fs) (sym (timed_frames-append a b)));
  }

  rest_done : (ps : List Played) (j : Joined) (s t : Station) → AreWhole j.near → Linked c ps s t → s ≡ station_of c j.near → AreLowPlays ps → AreOpen ps → AreSaid c ps
      → AreQuiet c ps → Done c j (flat_map (told c) ps) t
  rest_done [] j s t whole linked at low none said quiet = none_done j whole [] t (sym at ∙ linked) refl refl
  rest_done (x ∷ ps) j s t whole linked at low none said quiet =
      let first = one_done j whole x.at x.play (linked.0 ∙ at) low.0 none.0 said.0 (quiet_no_frame (asked_by c x.play) quiet.0)
      (quiet_in_time c j (asked_by c x.play) quiet.0) in
      join j (told c x) (flat_map (told c) ps) (next_by c x) t first
      (rest_done ps (came j first.text (timed_frames (told c x))) (next_by c x) t first.whole linked.1 (sym first.station) low.1 none.1 said.1 quiet.1)

  all_done : (ps : List Played) (j : Joined) (s t : Station) → AreWhole j.near → Linked c ps s t → s ≡ station_of c j.near → AreLowPlays ps → AreOpen ps → AreSaid c ps
      → RestQuiet c ps → IsNoFrame (first_asked c ps) → plain.IsInTime c j (first_asked c ps) → Done c j (flat_map (told c) ps) t
  all_done [] j s t whole linked at low none said quiet no_frame in_time = none_done j whole [] t (sym at ∙ linked) refl refl
  all_done (x ∷ ps) j s t whole linked at low none said quiet no_frame in_time =
      let first = one_done j whole x.at x.play (linked.0 ∙ at) low.0 none.0 said.0 no_frame in_time in
      join j (told c x) (flat_map (told c) ps) (next_by c x) t first
      (rest_done ps (came j first.text (timed_frames (told c x))) (next_by c x) t first.whole linked.1 (sym first.station) low.1 none.1 said.1 quiet)

-- ---- an end's program without a clock behind one with it

record Behind (c : Settings) (times : Times) (read text : List ℕ) : Type 0 where
  whole : AreWhole read
  whole_text : AreWhole text
  station : station_of c text ≡ timed_station c times read
  entries : entries_in (written c text) ≡ timed_entries (timed_written c times read)
  frames : frames_in (written c text) ≡ timed_frames (timed_written c times read)
  low : StayLow c (timed c times read).next.deadlines.waits

first_behind : (c : Settings) (times : Times) → c.channels.count ≤ 4095 → Behind c times [] []
first_behind c times few = record {
  whole = none_whole;
  whole_text = none_whole;
  station = ap (λ t. t.next) (first_said c) ∙ ap (λ (v : Timed). v.station) (sym (first_stands c times));
  entries = ap (λ t. entries_in t.sayings) (first_said c) ∙ ap (λ (l : List Played). timed_entries (flat_map (told c) l)) (sym (first_plays c times));
  frames = ap (λ t. frames_in t.sayings) (first_said c) ∙ ap (λ (l : List Played). timed_frames (flat_map (told c) l)) (sym (first_plays c times));
  low = subst (λ (v : Timed). StayLow c v.deadlines.waits) (sym (first_stands c times)) (new_low c few);
}

more_behind : (c : Settings) (times : Times) (read text line next : List ℕ) → Behind c times read text → IsOpen line → AreWhole next
    → station_of c next ≡ (timed_turn c times line (timed c times read).next).next.station
    → entries_in (written c next) ≡ entries_in (written c text) ++ timed_entries (flat_map (told c) (line_plays c times line (timed c times read).next))
    → frames_in (written c next) ≡ frames_in (written c text) ++ timed_frames (flat_map (told c) (line_plays c times line (timed c times read).next))
    → Behind c times (read ++ (line ++ 10 ∷ [])) next
more_behind c times read text line next k none whole station entries frames =
    let w : Timed = (timed c times read).next in
    let said : List TimedSaying = flat_map (told c) (line_plays c times line w) in
    record {
      whole = more_whole read line k.whole none;
      whole_text = whole;
      station = station ∙ ap (λ (v : Timed). v.station) (sym (next_more c times read line k.whole none));
      entries = entries ∙ ap (λ (es : List StationEntry). es ++ timed_entries said) k.entries ∙ sym (timed_entries-append (timed_written c times read) said)
          ∙ ap timed_entries (sym (written_is c times read line k.whole none));
      frames = frames ∙ ap (λ (fs : List (List ℕ)). fs ++ timed_frames said) k.frames ∙ sym (timed_frames-append (timed_written c times read) said)
          ∙ ap timed_frames (sym (written_is c times read line k.whole none));
      low = subst (λ (v : Timed). StayLow c v.deadlines.waits) (sym (next_more c times read line k.whole none)) (line_follows c times line w k.low).next;
    }

-- ---- an act of the near end

-- with this text in the place of what the near end's program reads, and this in that of the far end's
abbrev behind : Joined → List ℕ → List ℕ → Joined
behind j near far = record { near = near; far = far; out = j.out; back = j.back }

-- some acts of the near end without a clock lead there
record Leads (c : Settings) (times : Times) (j : Joined) (far : List ℕ) (k : Joined) : Type 0 where
  acts : List Act
  possible : AllPossible c acts k
  text : List ℕ
  near : Behind c times j.near text
  leads : acts_all c acts k ≡ behind j text far

module _ (spelled : ReadsWhatIsSpelled) (c : Settings) (times : Times) (j : Joined) (near far : List ℕ) (k : Behind c times j.near near) where
  abbrev w : Timed
  w = (timed c times j.near).next

  abbrev q : Joined
  q = behind j near far

  in_time : (o : Option StationEvent) → clocked.IsInTime c times j o → plain.IsInTime c q o
  in_time None h = tt
  in_time (Some (Comes octets)) h = tt
  in_time (Some (Asks asked)) h = tt
  in_time (Some Fires) h = ap (λ (s : Station). awaits_ua s.link.phase && is_on_line c j) k.station ∙ h

  user_leads : (line : List ℕ) → clocked.IsOfUser c times j line → Leads c times (clocked.reads c times j j.back (line ++ 10 ∷ [])) far q
  user_leads line may =
      let ps : List Played = line_plays c times line w in
      let f = line_follows c times line w k.low in
      let d = all_done spelled c ps q w.station (timed_turn c times line w).next.station k.whole_text f.linked (sym k.station) f.low
      (line_open c times line w may.is_line) may.said (line_quiet c times line w) may.is_no_frame (in_time (first_asked c ps) may.in_time) in
      record {
        acts = d.acts;
        possible = d.possible;
        text = d.text;
        near = more_behind c times j.near near line d.text k may.is_line d.whole d.station d.entries d.frames;
        leads = d.leads ∙ ap (λ (ss : List TimedSaying). came q d.text (timed_frames ss)) (sym (more_is c times j.near line k.whole may.is_line));
      }

  frame_leads : (octets : List ℕ) (back : List (List ℕ)) → j.back ≡ octets ∷ back
      → Leads c times (clocked.reads c times j back (frame_words (other c.role) octets ++ 10 ∷ [])) far q
  frame_leads octets back front =
      let line : List ℕ = frame_words (other c.role) octets in
      let none = frame_open (other c.role) octets in
      let r = reads_one c near line (event_in c.wide c.role line) k.whole_text none refl in
      let v : Timed = (timed_turn c times line w).next in
      let said : List TimedSaying = flat_map (told c) (line_plays c times line w) in
      let ps : line_plays c times line w ≡ playing w (Answers line) ∷ playing v Marks ∷ [] =
      ap (λ (o : Option ℕ). answer_plays c times line w o ++ playing v Marks ∷ []) (no_time (other c.role) octets) in
      let first : List TimedSaying = told c (playing w (Answers line)) in
      let last : List TimedSaying = told c (playing v Marks) ++ [] in
      let es : timed_entries said ≡ entries_in (asked_act c (station_of c near) (event_in c.wide c.role line)).sayings =
      ap (λ (l : List Played). timed_entries (flat_map (told c) l)) ps ∙ timed_entries-append first last ∙ append-nil (timed_entries first)
      ∙ told_entries c w (Answers line)
      ∙ ap (λ (s : Station). entries_in (asked_act c s (event_in c.wide c.role line)).sayings) (sym k.station) in
      let fs : timed_frames said ≡ frames_in (asked_act c (station_of c near) (event_in c.wide c.role line)).sayings =
      ap (λ (l : List Played). timed_frames (flat_map (told c) l)) ps ∙ timed_frames-append first last ∙ append-nil (timed_frames first)
      ∙ told_frames c w (Answers line)
      ∙ ap (λ (s : Station). frames_in (asked_act c s (event_in c.wide c.role line)).sayings) (sym k.station) in
      let linked : Linked c (playing w (Answers line) ∷ playing v Marks ∷ []) w.station v.station =
      subst (λ (l : List Played). Linked c l w.station v.station) ps (line_follows c times line w k.low).linked in
      let text : List ℕ = near ++ (line ++ 10 ∷ []) in
      record {
        acts = Takes ∷ [];
        possible = (tt, tt);
        text = text;
        near = more_behind c times j.near near line text k none r.whole
            (r.station ∙ ap (λ (s : Station). (asked_act c s (event_in c.wide c.role line)).next) k.station ∙ sym linked.1.0 ∙ linked.1.1)
            (r.entries ∙ ap (λ (l : List StationEntry). entries_in (written c near) ++ l) (sym es))
            (r.all_frames ∙ ap (λ (l : List (List ℕ)). frames_in (written c near) ++ l) (sym fs));
        leads = ap (λ (b : List (List ℕ)). plain.takes c q b) front
            ∙ ap (λ (t : List ℕ). plain.reads c q back t) (frame_text (other c.role) octets)
            ∙ ap (λ (l : List (List ℕ)). let x : Joined = record { near = text; far = far; out = j.out ++ l; back = back } in x)
            (r.frames ∙ sym fs ∙ ap timed_frames (sym (more_is c times j.near line k.whole none)));
      }

  stays : Leads c times j far q
  stays = record { acts = []; possible = tt; text = near; near = k; leads = refl }

  takes_leads : (back : List (List ℕ)) → j.back ≡ back → Leads c times (clocked.takes c times j back) far q
  takes_leads [] is = stays
  takes_leads (octets ∷ back) is =
      subst (λ (text : List ℕ). Leads c times (clocked.reads c times j back text) far q) (sym (frame_text (other c.role) octets)) (frame_leads octets back is)

  act_leads : (act : Act) → clocked.IsPossible c times j act → Leads c times (clocked.acts c times j act) far q
  act_leads (Reads line) may = user_leads line may
  act_leads Takes may = takes_leads j.back refl
  act_leads (Loses place) may = record { acts = Loses place ∷ []; possible = (tt, tt); text = near; near = k; leads = refl }
  act_leads (Damages place octets) may = record { acts = Damages place octets ∷ []; possible = (may, tt); text = near; near = k; leads = refl }

-- an act leaves what the far end read
far_kept : (c : Settings) (times : Times) (j : Joined) (act : Act) → (clocked.acts c times j act).far ≡ j.far
far_kept c times j (Reads line) = refl
far_kept c times j Takes = by j.back
  where
    by : (back : List (List ℕ)) → (clocked.takes c times j back).far ≡ j.far
    by [] = refl
    by (octets ∷ back) = refl
far_kept c times j (Loses place) = refl
far_kept c times j (Damages place octets) = refl

-- ---- histories

abbrev at_dte : Act → Happening
at_dte act = record { at = Dte; act = act }

abbrev at_dce : Act → Happening
at_dce act = record { at = Dce; act = act }

module _ (cfg : Cfg) where
  dte_run : (xs : List Act) (j : Joined) → plain.run cfg (map at_dte xs) j ≡ acts_all (settings_from Dte cfg) xs j
  dte_run [] j = refl
  dte_run (a ∷ xs) j = dte_run xs (plain.acts (settings_from Dte cfg) j a)

  dce_run : (xs : List Act) (j : Joined) → plain.run cfg (map at_dce xs) j ≡ exchanged (acts_all (settings_from Dce cfg) xs (exchanged j))
  dce_run [] j = refl
  dce_run (a ∷ xs) j = dce_run xs (exchanged (plain.acts (settings_from Dce cfg) (exchanged j) a))

  dte_possible : (xs : List Act) (j : Joined) → AllPossible (settings_from Dte cfg) xs j → plain.ArePossible cfg (map at_dte xs) j
  dte_possible [] j may = tt
  dte_possible (a ∷ xs) j may = (may.0, dte_possible xs (plain.acts (settings_from Dte cfg) j a) may.1)

  dce_possible : (xs : List Act) (j : Joined) → AllPossible (settings_from Dce cfg) xs (exchanged j) → plain.ArePossible cfg (map at_dce xs) j
  dce_possible [] j may = tt
  dce_possible (a ∷ xs) j may = (may.0, dce_possible xs (exchanged (plain.acts (settings_from Dce cfg) (exchanged j) a)) may.1)

  run_append : (a b : List Happening) (j : Joined) → plain.run cfg (a ++ b) j ≡ plain.run cfg b (plain.run cfg a j)
  run_append [] b j = refl
  run_append (h ∷ a) b j = run_append a b (plain.acts_at cfg j h.at h.act)

  history_append : (a b : List Happening) (j : Joined) → plain.ArePossible cfg a j → plain.ArePossible cfg b (plain.run cfg a j)
      → plain.ArePossible cfg (a ++ b) j
  history_append [] b j p q = q
  history_append (h ∷ a) b j p q = (p.0, history_append a b (plain.acts_at cfg j h.at h.act) p.1 q)

record Shadow (cfg : Cfg) (clocks : Clocks) (j : Joined) : Type 0 where
  history : List Happening
  possible : plain.ArePossible cfg history nothing_read
  near : List ℕ
  far : List ℕ
  run : plain.run cfg history nothing_read ≡ behind j near far
  of_dte : Behind (settings_from Dte cfg) (clocks Dte) j.near near
  of_dce : Behind (settings_from Dce cfg) (clocks Dce) j.far far

module _ (spelled : ReadsWhatIsSpelled) (cfg : Cfg) (clocks : Clocks) where
  dte_shadow : (j : Joined) (act : Act) → Shadow cfg clocks j → clocked.IsPossibleAt cfg clocks j Dte act
      → Shadow cfg clocks (clocked.acts_at cfg clocks j Dte act)
  dte_shadow j act k may =
      let c : Settings = settings_from Dte cfg in
      let l = act_leads spelled c (clocks Dte) j k.near k.far k.of_dte act may in
      let q : Joined = behind j k.near k.far in
      record {
        history = k.history ++ map at_dte l.acts;
        possible = history_append cfg k.history (map at_dte l.acts) nothing_read k.possible
            (subst (plain.ArePossible cfg (map at_dte l.acts)) (sym k.run) (dte_possible cfg l.acts q l.possible));
        near = l.text;
        far = k.far;
        run = run_append cfg k.history (map at_dte l.acts) nothing_read ∙ ap (plain.run cfg (map at_dte l.acts)) k.run ∙ dte_run cfg l.acts q ∙ l.leads;
        of_dte = l.near;
        of_dce = subst (λ (read : List ℕ). Behind (settings_from Dce cfg) (clocks Dce) read k.far) (sym (far_kept c (clocks Dte) j act)) k.of_dce;
      }

  dce_shadow : (j : Joined) (act : Act) → Shadow cfg clocks j → clocked.IsPossibleAt cfg clocks j Dce act
      → Shadow cfg clocks (clocked.acts_at cfg clocks j Dce act)
  dce_shadow j act k may =
      let c : Settings = settings_from Dce cfg in
      let l = act_leads spelled c (clocks Dce) (exchanged j) k.far k.near k.of_dce act may in
      let q : Joined = behind j k.near k.far in
      record {
        history = k.history ++ map at_dce l.acts;
        possible = history_append cfg k.history (map at_dce l.acts) nothing_read k.possible
            (subst (plain.ArePossible cfg (map at_dce l.acts)) (sym k.run) (dce_possible cfg l.acts q l.possible));
        near = k.near;
        far = l.text;
        run = run_append cfg k.history (map at_dce l.acts) nothing_read ∙ ap (plain.run cfg (map at_dce l.acts)) k.run ∙ dce_run cfg l.acts q
            ∙ ap exchanged l.leads;
        of_dte = subst (λ (read : List ℕ). Behind (settings_from Dte cfg) (clocks Dte) read k.near) (sym (far_kept c (clocks Dce) (exchanged j) act)) k.of_dte;
        of_dce = l.near;
      }

  act_shadow : (j : Joined) (at : Role) (act : Act) → Shadow cfg clocks j → clocked.IsPossibleAt cfg clocks j at act
      → Shadow cfg clocks (clocked.acts_at cfg clocks j at act)
  act_shadow j Dte act k may = dte_shadow j act k may
  act_shadow j Dce act k may = dce_shadow j act k may

  run_shadow : (history : List Happening) (j : Joined) → Shadow cfg clocks j → clocked.ArePossible cfg clocks history j
      → Shadow cfg clocks (clocked.run cfg clocks history j)
  run_shadow [] j k may = k
  run_shadow (h ∷ history) j k may = run_shadow history (clocked.acts_at cfg clocks j h.at h.act) (act_shadow j h.at h.act k may.0) may.1

  first_shadow : cfg.channels.count ≤ 4095 → Shadow cfg clocks nothing_read
  first_shadow few = record {
    history = [];
    possible = tt;
    near = [];
    far = [];
    run = refl;
    of_dte = first_behind (settings_from Dte cfg) (clocks Dte) few;
    of_dce = first_behind (settings_from Dce cfg) (clocks Dce) few;
  }

-- ---- the claims

module _ (cfg : Cfg) (clocks : Clocks) (j : Joined) (k : Shadow cfg clocks j) where
  abbrev v : Joined
  v = behind j k.near k.far

  same_entries : (end : Role) → plain_claims.entries_by cfg end v ≡ clocked_claims.entries_by cfg clocks end j
  same_entries Dte = k.of_dte.entries
  same_entries Dce = k.of_dce.entries

  same_station : (end : Role) → plain_claims.station_by cfg end v ≡ clocked_claims.station_by cfg clocks end j
  same_station Dte = k.of_dte.station
  same_station Dce = k.of_dce.station

  same_frames : (end : Role) → plain_claims.frames_by cfg end v ≡ clocked_claims.frames_by cfg clocks end j
  same_frames Dte = k.of_dte.frames
  same_frames Dce = k.of_dce.frames

  tells : (w : World) → plain_claims.Tells cfg v w → clocked_claims.TellsTimed cfg clocks j w
  tells w t = record {
    events = t.events;
    accepted = t.accepted;
    octets = t.octets;
    run = t.run;
    stations = λ end. t.stations end ∙ same_station end;
    out = t.out;
    back = t.back;
    entries = λ end. t.entries end ∙ same_entries end;
    frames = λ end. t.frames end ∙ same_frames end;
  }

  still_once : clocked_claims.IsUpAtMostOnce cfg clocks j → plain_claims.IsUpAtMostOnce cfg v
  still_once once end = subst (λ (es : List StationEntry). ups_in es ≤ 1) (sym (same_entries end)) (once end)

  lawful : plain_claims.AreLawful cfg v → clocked_claims.AreLawfulTimed cfg clocks j
  lawful h end = subst (λ (es : List Entry). HandsUpLawfully (clocked_claims.handed_by cfg clocks end j) es) (ap layer_entries (same_entries (other end)))
      (subst (λ (es : List Entry). HandsUpLawfully es (plain_claims.handed_by cfg (other end) v)) (ap layer_entries (same_entries end)) (h end))

  arrive : plain_claims.Arrive cfg v → clocked_claims.ArriveTimed cfg clocks j
  arrive h end channel name idle here there =
      subst (λ (es : List Entry). HasAllOf channel name (clocked_claims.handed_by cfg clocks end j) es) (ap layer_entries (same_entries (other end)))
      (subst (λ (es : List Entry). HasAllOf channel name es (plain_claims.handed_by cfg (other end) v)) (ap layer_entries (same_entries end))
      (h end channel name (ap (is_idle (settings_from end cfg)) (same_station end) ∙ idle)
      (ap (λ (s : Station). stretch (settings_from end cfg) s channel) (same_station end) ∙ here)
      (ap (λ (s : Station). stretch (settings_from (other end) cfg) s channel) (same_station (other end)) ∙ there)))

pub timed_lawful : ReadsWhatIsSpelled → plain_claims.UntilSecondUp plain_claims.AreLawful → clocked_claims.UntilSecondUpTimed clocked_claims.AreLawfulTimed
timed_lawful spelled law cfg clocks fine history may once =
    let j : Joined = clocked.run cfg clocks history nothing_read in
    let k = run_shadow spelled cfg clocks history nothing_read (first_shadow spelled cfg clocks (few_channels cfg fine)) may in
    lawful cfg clocks j k (subst (plain_claims.AreLawful cfg) k.run
    (law cfg fine k.history k.possible (subst (plain_claims.IsUpAtMostOnce cfg) (sym k.run) (still_once cfg clocks j k once))))

pub timed_arrive : ReadsWhatIsSpelled → plain_claims.UntilSecondUp plain_claims.Arrive → clocked_claims.UntilSecondUpTimed clocked_claims.ArriveTimed
timed_arrive spelled law cfg clocks fine history may once =
    let j : Joined = clocked.run cfg clocks history nothing_read in
    let k = run_shadow spelled cfg clocks history nothing_read (first_shadow spelled cfg clocks (few_channels cfg fine)) may in
    arrive cfg clocks j k (subst (plain_claims.Arrive cfg) k.run
    (law cfg fine k.history k.possible (subst (plain_claims.IsUpAtMostOnce cfg) (sym k.run) (still_once cfg clocks j k once))))

pub of_timed_programs : (Holds : Cfg → World → Type 0) → ReadsWhatIsSpelled → plain_claims.OfPrograms Holds → clocked_claims.OfTimedPrograms Holds
of_timed_programs Holds spelled law cfg clocks fine history may =
    let j : Joined = clocked.run cfg clocks history nothing_read in
    let k = run_shadow spelled cfg clocks history nothing_read (first_shadow spelled cfg clocks (few_channels cfg fine)) may in
    let found = law cfg fine k.history k.possible in
    (found.0, tells cfg clocks j k found.0 (subst (λ (x : Joined). plain_claims.Tells cfg x found.0) k.run found.1), found.2)

pub of_timed_programs_up_once : (Holds : Cfg → World → Type 0) → ReadsWhatIsSpelled → plain_claims.OfProgramsUpOnce Holds
    → clocked_claims.OfTimedProgramsUpOnce Holds
of_timed_programs_up_once Holds spelled law cfg clocks fine history may once =
    let j : Joined = clocked.run cfg clocks history nothing_read in
    let k = run_shadow spelled cfg clocks history nothing_read (first_shadow spelled cfg clocks (few_channels cfg fine)) may in
    let found = law cfg fine k.history k.possible (subst (plain_claims.IsUpAtMostOnce cfg) (sym k.run) (still_once cfg clocks j k once)) in
    (found.0, tells cfg clocks j k found.0 (subst (λ (x : Joined). plain_claims.Tells cfg x found.0) k.run found.1), found.2)

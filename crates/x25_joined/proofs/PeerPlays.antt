-- A program with a clock, joined to any peer, is one without that reads the lines of a user for what is due.
use Rattle.std.proofs.Common.{◌≡◌, ◌∙◌, ◌+◌, ◌≤◌, ℕ, zero, suc, nat_le, nat_lt, Bool, true, false, ◌&&◌, if◌then◌else◌, List, [], ◌∷◌, ◌++◌, length, flat_map}
use Rattle.std.proofs.Common.{Option, Some, None, ap, ap₂, refl, sym, subst, arith, append-nil, append_assoc}
use Rattle.std.proofs.lemmas.Bool.{leb-true}
use Rattle.x25_bits.specs.{Role.{other}, declared.role.Role.{Role}, declared.role.Role.TheVariants.{Dte, Dce}}
use Rattle.x25_clock.specs.{Clock.{due_of, most_due}, declared.due.Due.{Due}, declared.times.Times.{Times}}
use Rattle.x25_io.specs.{HeldLine.{most_line}, Lines.{IsOpen}}
use Rattle.x25_joined.proofs.{FrameText.{frame_words, frame_text, frame_open, frame_comes}, LineText.{AreWhole, none_whole, more_whole, first_said}}
use Rattle.x25_joined.proofs.PeerEntries.{ups_append}
use Rattle.x25_joined.specs.laws.BesidePeer as plain
use Rattle.x25_joined.specs.laws.BesidePeer.{Program, ReachedProgram, nothing_read, sent_then}
use Rattle.x25_joined.specs.laws.BesidePeerClaims.{OfProgram, entries_to}
use Rattle.x25_joined.specs.laws.Joined.{IsNoFrame, entries_in, frames_in, station_of, written}
use Rattle.x25_line.specs.laws.Sessions.{Entry, Meeting}
use Rattle.x25_line.specs.laws.PeerSessions.{IsDue}
use Rattle.x25_peer.specs.laws.BesideSessions as beside
use Rattle.x25_peer.specs.laws.BesideSessions.{BesideSessions, Own, links, met_by, own_anew}
use Rattle.x25_pipe.specs.Pipe.{asked_act}
unfoldable use Rattle.x25_pipe.specs.Pipe.{event_in}
unfoldable use Rattle.x25_pipe.specs.Timed.{time_said, timed, timed_turn}
use Rattle.x25_pipe.specs.Timed.{Timed, insist_turn, moment_of, told_due}
use Rattle.x25_script.specs.laws.ReadingLaw.{ReadsWhatIsSpelled}
use Rattle.x25_station.specs.{Config.{Settings, config_refusal, link_settings, settings_from}, Entry.{StationEntry}, Station.{Station}}
use Rattle.x25_station.specs.declared.config.Cfg.{Cfg}
use Rattle.x25_station.specs.declared.error.StationError.TheVariants as error
use Rattle.x25_station.specs.laws.TimerLaw.{StationEvent, Asks, Comes, Fires}
use Rattle.x25_joined.proofs.PlayedFollows.{AreLowPlays, AreQuiet, IsLowPlay, IsQuiet, Linked, RestQuiet, StayLow, line_follows, line_quiet, new_low, next_by}
use Rattle.x25_joined.proofs.PlayedLines.{first_plays, first_stands, more_is, next_more, written_is}
use Rattle.x25_joined.proofs.PlayedReads.{quiet_ups, reads_one, timed_entries-append, timed_frames-append, told_entries, told_frames}
use Rattle.x25_joined.proofs.PlayedReads.{words_ask, words_open}
use Rattle.x25_joined.specs.laws.Played.{Answers, AreSaid, Insists, IsSaidPlay, Marks, Passes, Play, Played, TimedSaying, answer_plays, asked_by, due_plays, due_words}
use Rattle.x25_joined.specs.laws.Played.{first_asked, first_due, line_plays, pass_plays, playing, timed_entries, timed_frames, timed_station, timed_written}
use Rattle.x25_joined.specs.laws.Played.{told}
use Rattle.x25_joined.specs.laws.{TimedPeer.{HappensToTimed, Reads, Takes, Elsewhere, ReachedTimed, at_start, goes_on}, TimedPeerClaims.{OfTimedProgram}}
use Rattle.x25_joined.specs.laws.TimedPeer as clocked
use Rattle.x25_world.specs.laws.{Claims.{ups_in}, TapOctets.{AreOfFrame}}

sent_append : (n : ℕ) (xs ys : List (List ℕ)) → sent_then n (xs ++ ys) ≡ sent_then n xs ++ sent_then n ys
sent_append n [] ys = refl
sent_append n (x ∷ xs) ys = ap (λ (es : List Entry). record { session = n; octets = x } ∷ es) (sent_append n xs ys)

-- ---- lines that are played have no LF in them

abbrev pub IsOpenPlay : Play → Type 0
IsOpenPlay (Answers line) = IsOpen line
IsOpenPlay play = Unit {0}

abbrev pub AreOpen : List Played → Type 0
AreOpen [] = Unit {0}
AreOpen (p ∷ ps) = IsOpenPlay p.play × AreOpen ps

pub plays_open : (ps qs : List Played) → AreOpen ps → AreOpen qs → AreOpen (ps ++ qs)
plays_open [] qs a b = b
plays_open (p ∷ ps) qs a b = (a.0, plays_open ps qs a.1 b)

module _ (c : Settings) (times : Times) where
  due_open : (n : ℕ) (w : Timed) → AreOpen (due_plays c times n w)
  due_open zero w = tt
  due_open (suc n) w = by (due_of (moment_of w.now) w.deadlines) (due_open n)
    where
      by : (o : Option Due) → ((u : Timed) → AreOpen (due_plays c times n u)) → AreOpen (first_due c times (due_plays c times n) w o)
      by None rest = tt
      by (Some due) rest = (tt, rest (insist_turn c times due (told_due times w)).next)

  pass_open : (now : ℕ) (w : Timed) (o : Option ℕ) → AreOpen (pass_plays c times now w o)
  pass_open now w None = tt
  pass_open now w (Some last) = by (nat_lt now last)
    where
      by : (b : Bool) → AreOpen
          (let ps : List Played = if b then playing w Passes ∷ [] else due_plays c times (most_due w.deadlines) (record w { now = Some now }) in ps)
      by true = (tt, tt)
      by false = due_open (most_due w.deadlines) (record w { now = Some now })

  answer_open : (line : List ℕ) (w : Timed) (o : Option ℕ) → IsOpen line → AreOpen (answer_plays c times line w o)
  answer_open line w None none = (none, tt)
  answer_open line w (Some now) none = pass_open now w w.now

  pub line_open : (line : List ℕ) (w : Timed) → IsOpen line → AreOpen (line_plays c times line w)
  line_open line w none = plays_open (answer_plays c times line w (time_said line)) (playing (timed_turn c times line w).next Marks ∷ [])
      (answer_open line w (time_said line) none) (tt, tt)

-- ---- what is played is read by the program without a clock

record Done (c : Settings) (p : Program) (told : List TimedSaying) (t : Station) : Type 0 where
  q : Program
  reached : ReachedProgram c q
  whole : AreWhole q.read
  station : station_of c q.read ≡ t
  entries : entries_in (written c q.read) ≡ entries_in (written c p.read) ++ timed_entries told
  begun : plain.begun_in c q.read ≡ plain.begun_in c p.read
  out : q.out ≡ p.out ++ sent_then (plain.begun_in c p.read) (timed_frames told)
  same : q ≡ (let r : Program = record p { read = q.read; out = q.out } in r)

pub quiet_no_frame : (o : Option StationEvent) → IsQuiet o → IsNoFrame o
quiet_no_frame None quiet = tt
quiet_no_frame (Some (Comes octets)) quiet = quiet
quiet_no_frame (Some (Asks command)) quiet = tt
quiet_no_frame (Some Fires) quiet = tt

quiet_in_time : (c : Settings) (p : Program) (o : Option StationEvent) → IsQuiet o → plain.IsInTime c p o
quiet_in_time c p None quiet = tt
quiet_in_time c p (Some (Comes octets)) quiet = tt
quiet_in_time c p (Some (Asks command)) quiet = tt
quiet_in_time c p (Some Fires) quiet = absurd quiet

module _ (spelled : ReadsWhatIsSpelled) (c : Settings) where
  none_done : (p : Program) → ReachedProgram c p → AreWhole p.read → (told : List TimedSaying) (t : Station) → station_of c p.read ≡ t
      → timed_entries told ≡ [] → timed_frames told ≡ [] → Done c p told t
  none_done p reached whole told t at entries frames = record {
    q = p;
    reached = reached;
    whole = whole;
    station = at;
    entries = sym (append-nil (entries_in (written c p.read))) ∙ ap (λ (es : List StationEntry). entries_in (written c p.read) ++ es) (sym entries);
    begun = refl;
    out = sym (append-nil p.out) ∙ ap (λ (fs : List (List ℕ)). p.out ++ sent_then (plain.begun_in c p.read) fs) (sym frames);
    same = refl;
  }

  line_done : (p : Program) → ReachedProgram c p → AreWhole p.read → (x : Played) → x.at.station ≡ station_of c p.read → (line : List ℕ) → IsOpen line
      → event_in c.wide c.role line ≡ asked_by c x.play → IsNoFrame (asked_by c x.play) → plain.IsInTime c p (asked_by c x.play)
      → Done c p (told c x) (next_by c x)
  line_done p reached whole x at line none is no_frame in_time =
      let o : Option StationEvent = asked_by c x.play in
      let r = reads_one c p.read line o whole none is in
      let q : Program = plain.reads c p (line ++ 10 ∷ []) p.back p.met in
      let old : List StationEntry = entries_in (written c p.read) in
      let new : List StationEntry = entries_in (asked_act c (station_of c p.read) o).sayings in
      let quiet : ups_in new ≡ 0 = quiet_ups c (station_of c p.read) o no_frame in
      let sum : ups_in (old ++ new) ≡ ups_in old + ups_in new = ups_append old new in
      let same_ups : ups_in (old ++ new) ≡ ups_in old = omega (arith, sum, quiet) in
      let begun : plain.begun_in c q.read ≡ plain.begun_in c p.read = ap ups_in r.entries ∙ same_ups in
      record {
        q = q;
        reached = plain.goes_on p q reached
            (plain.Reads line (record {
              is_line = none;
              is_no_frame = subst IsNoFrame (sym is) no_frame;
              in_time = subst (plain.IsInTime c p) (sym is) in_time;
            }));
        whole = r.whole;
        station = r.station ∙ ap (λ (s : Station). (asked_act c s o).next) (sym at);
        entries = r.entries ∙ ap (λ (es : List StationEntry). old ++ es)
            (ap (λ (s : Station). entries_in (asked_act c s o).sayings) (sym at) ∙ sym (told_entries c x.at x.play));
        begun = begun;
        out = ap (λ (es : List Entry). p.out ++ es) (ap₂ (λ (n : ℕ) (fs : List (List ℕ)). sent_then n fs) begun
            (r.frames ∙ ap (λ (s : Station). frames_in (asked_act c s o).sayings) (sym at) ∙ sym (told_frames c x.at x.play)));
        same = refl;
      }

  one_done : (p : Program) → ReachedProgram c p → AreWhole p.read → (x : Played) → x.at.station ≡ station_of c p.read → IsLowPlay x.play → IsOpenPlay x.play → IsSaidPlay c x.play
      → IsNoFrame (asked_by c x.play) → plain.IsInTime c p (asked_by c x.play) → Done c p (told c x) (next_by c x)
  one_done p reached whole x at low none said no_frame in_time = by x.play refl
    where
      by : (play : Play) → x.play ≡ play → Done c p (told c x) (next_by c x)
      by (Answers line) is = line_done p reached whole x at line (subst IsOpenPlay is none) (sym (ap (asked_by c) is)) no_frame in_time
      by (Insists due asked) is =
          let few = subst IsLowPlay is low in
          line_done p reached whole x at (due_words c.role asked) (words_open c.role asked few)
          (words_ask spelled c.wide c.role asked few (subst (IsSaidPlay c) is said) ∙ sym (ap (asked_by c) is)) no_frame in_time
      by Passes is =
          none_done p reached whole (told c x) (next_by c x) (sym at ∙ ap (λ (y : Play). (asked_act c x.at.station (asked_by c y)).next) (sym is))
          (told_entries c x.at x.play ∙ ap (λ (y : Play). entries_in (asked_act c x.at.station (asked_by c y)).sayings) is)
          (told_frames c x.at x.play ∙ ap (λ (y : Play). frames_in (asked_act c x.at.station (asked_by c y)).sayings) is)
      by Marks is =
          none_done p reached whole (told c x) (next_by c x) (sym at ∙ ap (λ (y : Play). (asked_act c x.at.station (asked_by c y)).next) (sym is))
          (told_entries c x.at x.play ∙ ap (λ (y : Play). entries_in (asked_act c x.at.station (asked_by c y)).sayings) is)
          (told_frames c x.at x.play ∙ ap (λ (y : Play). frames_in (asked_act c x.at.station (asked_by c y)).sayings) is)

  join : (p : Program) (a b : List TimedSaying) (s t : Station) (first : Done c p a s) → Done c first.q b t → Done c p (a ++ b) t
  join p a b s t first rest =
      let n : ℕ = plain.begun_in c p.read in
      let old : List StationEntry = entries_in (written c p.read) in
      record {
        q = rest.q;
        reached = rest.reached;
        whole = rest.whole;
        station = rest.station;
        entries = rest.entries ∙ ap (λ (es : List StationEntry). es ++ timed_entries b) first.entries ∙ append_assoc old (timed_entries a) (timed_entries b)
            ∙ ap (λ (es : List StationEntry). old ++ es) (sym (timed_entries-append a b));
        begun = rest.begun ∙ first.begun;
        out = rest.out
            ∙ ap₂ (λ (os : List Entry) (m : ℕ). os ++ sent_then m (timed_frames b)) first.out first.begun
            ∙ append_assoc p.out (sent_then n (timed_frames a)) (sent_then n (timed_frames b))
            ∙ ap (λ (es : List Entry). p.out ++ es) (sym (sent_append n (timed_frames a) (timed_frames b)) ∙ ap (sent_then n) (sym (timed_frames-append a b)));
        same = rest.same ∙ ap (λ (x : Program). let r : Program = record x { read = rest.q.read; out = rest.q.out } in r) first.same;
      }

  rest_done : (ps : List Played) (p : Program) (s t : Station) → ReachedProgram c p → AreWhole p.read → Linked c ps s t → s ≡ station_of c p.read
      → AreLowPlays ps
      → AreOpen ps → AreSaid c ps → AreQuiet c ps → Done c p (flat_map (told c) ps) t
  rest_done [] p s t reached whole linked at low none said quiet = none_done p reached whole [] t (sym at ∙ linked) refl refl
  rest_done (x ∷ ps) p s t reached whole linked at low none said quiet =
      let first = one_done p reached whole x (linked.0 ∙ at) low.0 none.0 said.0 (quiet_no_frame (asked_by c x.play) quiet.0)
      (quiet_in_time c p (asked_by c x.play) quiet.0) in
      join p (told c x) (flat_map (told c) ps) (next_by c x) t first
      (rest_done ps first.q (next_by c x) t first.reached first.whole linked.1 (sym first.station) low.1 none.1 said.1 quiet.1)

  all_done : (ps : List Played) (p : Program) (s t : Station) → ReachedProgram c p → AreWhole p.read → Linked c ps s t → s ≡ station_of c p.read
      → AreLowPlays ps
      → AreOpen ps → AreSaid c ps → RestQuiet c ps → IsNoFrame (first_asked c ps) → plain.IsInTime c p (first_asked c ps) → Done c p (flat_map (told c) ps) t
  all_done [] p s t reached whole linked at low none said quiet no_frame in_time = none_done p reached whole [] t (sym at ∙ linked) refl refl
  all_done (x ∷ ps) p s t reached whole linked at low none said quiet no_frame in_time =
      let first = one_done p reached whole x (linked.0 ∙ at) low.0 none.0 said.0 no_frame in_time in
      join p (told c x) (flat_map (told c) ps) (next_by c x) t first
      (rest_done ps first.q (next_by c x) t first.reached first.whole linked.1 (sym first.station) low.1 none.1 said.1 quiet)

-- ---- the program without a clock behind one with it

record Shadow (c : Settings) (times : Times) (p : Program) : Type 0 where
  text : List ℕ
  reached : ReachedProgram c (let q : Program = record p { read = text } in q)
  whole : AreWhole p.read
  whole_text : AreWhole text
  station : station_of c text ≡ timed_station c times p.read
  entries : entries_in (written c text) ≡ timed_entries (timed_written c times p.read)
  low : StayLow c (timed c times p.read).next.deadlines.waits

if_none : (b : Bool) → (let o : Option ℕ = if b then None else None in o) ≡ None
if_none true = refl
if_none false = refl

-- a frame says no time
pub no_time : (role : Role) (octets : List ℕ) → time_said (frame_words role octets) ≡ None
unfolding time_said
no_time Dte octets = if_none (nat_le (length (frame_words Dte octets)) most_line)
no_time Dce octets = if_none (nat_le (length (frame_words Dce octets)) most_line)

module _ (c : Settings) (times : Times) (p : Program) (k : Shadow c times p) where
  abbrev q : Program
  q = record p { read = k.text }

  same_begun : plain.begun_in c k.text ≡ clocked.begun_in c times p.read
  same_begun = ap ups_in k.entries

  same_seen : (own : ℕ → Own) → plain.seen c own q ≡ clocked.seen c times own p
  same_seen own = ap₂ (λ (s : Station) (n : ℕ). let w : BesideSessions = record {
    near = s;
    begun = n;
    own = own;
    peer = p.peer;
    theirs = p.theirs;
    out = p.out;
    back = p.back;
    met = p.met;
  } in w) k.station same_begun

  same_bare : plain.bare c q ≡ clocked.bare c times p
  same_bare = same_seen (λ n. own_anew c)

  in_time : (o : Option StationEvent) → clocked.IsInTime c times p o → plain.IsInTime c q o
  in_time None h = tt
  in_time (Some (Comes octets)) h = tt
  in_time (Some (Asks command)) h = tt
  in_time (Some Fires) h = λ waiting. subst (λ (w : BesideSessions). IsDue (link_settings c) (links w)) (sym same_bare)
      (h (ap (λ (s : Station). s.link.phase) (sym k.station) ∙ waiting))

  -- a line more, by what the program without a clock did then
  abbrev w : Timed
  w = (timed c times p.read).next

  more : (line : List ℕ) → IsOpen line → (left : List Entry) (met : List Meeting) (text : List ℕ) → AreWhole text
      → station_of c text ≡ (timed_turn c times line w).next.station
      → entries_in (written c text) ≡ entries_in (written c k.text) ++ timed_entries (flat_map (told c) (line_plays c times line w))
      → ReachedProgram c (let r : Program = record p {
        read = text;
        out = p.out ++ sent_then (plain.begun_in c text) (timed_frames (flat_map (told c) (line_plays c times line w)));
        back = left;
        met = met;
      } in r)
      → StayLow c (timed_turn c times line w).next.deadlines.waits → Shadow c times (clocked.reads c times p (line ++ 10 ∷ []) left met)
  more line none left met text whole station entries reached low =
      let said : List TimedSaying = flat_map (told c) (line_plays c times line w) in
      let all : entries_in (written c text) ≡ timed_entries (timed_written c times (p.read ++ (line ++ 10 ∷ []))) =
      entries ∙ ap (λ (es : List StationEntry). es ++ timed_entries said) k.entries ∙ sym (timed_entries-append (timed_written c times p.read) said)
      ∙ ap timed_entries (sym (written_is c times p.read line k.whole none)) in
      record {
        text = text;
        reached = subst (λ (os : List Entry). ReachedProgram c (let r : Program = record p { read = text; out = p.out ++ os; back = left; met = met } in r))
            (ap₂ (λ (n : ℕ) (fs : List (List ℕ)). sent_then n fs) (ap ups_in all) (ap timed_frames (sym (more_is c times p.read line k.whole none)))) reached;
        whole = more_whole p.read line k.whole none;
        whole_text = whole;
        station = station ∙ ap (λ (v : Timed). v.station) (sym (next_more c times p.read line k.whole none));
        entries = all;
        low = subst (λ (v : Timed). StayLow c v.deadlines.waits) (sym (next_more c times p.read line k.whole none)) low;
      }

  user_more : ReadsWhatIsSpelled → (line : List ℕ) → clocked.IsOfUser c times p line → Shadow c times (clocked.reads c times p (line ++ 10 ∷ []) p.back p.met)
  user_more spelled line may =
      let ps : List Played = line_plays c times line w in
      let f = line_follows c times line w k.low in
      let d = all_done spelled c ps q w.station (timed_turn c times line w).next.station k.reached k.whole_text f.linked (sym k.station) f.low
      (line_open c times line w may.is_line) may.said (line_quiet c times line w) may.is_no_frame (in_time (first_asked c ps) may.in_time) in
      more line may.is_line p.back p.met d.q.read d.whole d.station d.entries
      (subst (ReachedProgram c)
      (d.same ∙ ap (λ (os : List Entry). let r : Program = record p { read = d.q.read; out = os } in r)
      (d.out ∙ ap (λ (n : ℕ). p.out ++ sent_then n (timed_frames (flat_map (told c) ps))) (sym d.begun))) d.reached)
      f.next

  frame_more : (e : Entry) (rest : List Entry) → p.back ≡ e ∷ rest → AreOfFrame e.octets
      → Shadow c times (clocked.reads c times p (frame_words (other c.role) e.octets ++ 10 ∷ []) rest (met_by c (clocked.bare c times p) e))
  frame_more e rest front fits =
      let line : List ℕ = frame_words (other c.role) e.octets in
      let none = frame_open (other c.role) e.octets in
      let is = frame_comes c.wide c.role e.octets fits in
      let r = reads_one c k.text line (event_in c.wide c.role line) k.whole_text none refl in
      let v : Timed = (timed_turn c times line w).next in
      let said : List TimedSaying = flat_map (told c) (line_plays c times line w) in
      let ps : line_plays c times line w ≡ playing w (Answers line) ∷ playing v Marks ∷ [] =
      ap (λ (o : Option ℕ). answer_plays c times line w o ++ playing v Marks ∷ []) (no_time (other c.role) e.octets) in
      let first : List TimedSaying = told c (playing w (Answers line)) in
      let last : List TimedSaying = told c (playing v Marks) ++ [] in
      let es : timed_entries said ≡ entries_in (asked_act c (station_of c k.text) (event_in c.wide c.role line)).sayings =
      ap (λ (l : List Played). timed_entries (flat_map (told c) l)) ps ∙ timed_entries-append first last ∙ append-nil (timed_entries first)
      ∙ told_entries c w (Answers line)
      ∙ ap (λ (s : Station). entries_in (asked_act c s (event_in c.wide c.role line)).sayings) (sym k.station) in
      let fs : timed_frames said ≡ frames_in (asked_act c (station_of c k.text) (event_in c.wide c.role line)).sayings =
      ap (λ (l : List Played). timed_frames (flat_map (told c) l)) ps ∙ timed_frames-append first last ∙ append-nil (timed_frames first)
      ∙ told_frames c w (Answers line)
      ∙ ap (λ (s : Station). frames_in (asked_act c s (event_in c.wide c.role line)).sayings) (sym k.station) in
      let f = line_follows c times line w k.low in
      let linked : Linked c (playing w (Answers line) ∷ playing v Marks ∷ []) w.station v.station =
      subst (λ (l : List Played). Linked c l w.station v.station) ps f.linked in
      let text : List ℕ = k.text ++ (line ++ 10 ∷ []) in
      let there : Program = plain.reads c q (line ++ 10 ∷ []) rest (met_by c (plain.bare c q) e) in
      let came : ReachedProgram c there = plain.goes_on q there k.reached
      (subst (λ (t : List ℕ). plain.HappensToProgram c q (plain.reads c q t rest (met_by c (plain.bare c q) e))) (frame_text (other c.role) e.octets)
      (plain.Takes e rest front fits)) in
      more line none rest (met_by c (clocked.bare c times p) e) text r.whole
      (r.station ∙ ap (λ (s : Station). (asked_act c s (event_in c.wide c.role line)).next) k.station ∙ sym linked.1.0 ∙ linked.1.1)
      (r.entries ∙ ap (λ (l : List StationEntry). entries_in (written c k.text) ++ l) (sym es))
      (subst (λ (b : BesideSessions). ReachedProgram c (let x : Program = record p {
        read = text;
        out = p.out ++ sent_then (plain.begun_in c text) (timed_frames said);
        back = rest;
        met = met_by c b e;
      } in x)) same_bare
      (subst (λ (l : List (List ℕ)). ReachedProgram c (let x : Program = record p {
        read = text;
        out = p.out ++ sent_then (plain.begun_in c text) l;
        back = rest;
        met = met_by c (plain.bare c q) e;
      } in x)) (r.frames ∙ sym fs) came))
      f.next

  elsewhere : (v : BesideSessions) → beside.Elsewhere c (clocked.bare c times p) v
      → Shadow c times (record p { peer = v.peer; theirs = v.theirs; out = v.out; back = v.back; met = v.met })
  elsewhere v h =
      let there : Program = record q { peer = v.peer; theirs = v.theirs; out = v.out; back = v.back; met = v.met } in
      record {
        text = k.text;
        reached = plain.goes_on q there k.reached (plain.Elsewhere v (subst (λ (b : BesideSessions). beside.Elsewhere c b v) (sym same_bare) h));
        whole = k.whole;
        whole_text = k.whole_text;
        station = k.station;
        entries = k.entries;
        low = k.low;
      }

-- ---- all that happens

module _ (spelled : ReadsWhatIsSpelled) (c : Settings) (times : Times) (few : c.channels.count ≤ 4095) where
  first_shadow : Shadow c times nothing_read
  first_shadow = record {
    text = [];
    reached = plain.at_start;
    whole = none_whole;
    whole_text = none_whole;
    station = ap (λ t. t.next) (first_said c) ∙ ap (λ (v : Timed). v.station) (sym (first_stands c times));
    entries = ap (λ t. entries_in t.sayings) (first_said c)
        ∙ ap (λ (l : List Played). timed_entries (flat_map (told c) l)) (sym (first_plays c times));
    low = subst (λ (v : Timed). StayLow c v.deadlines.waits) (sym (first_stands c times)) (new_low c few);
  }

  step_shadow : (p r : Program) → Shadow c times p → HappensToTimed c times p r → Shadow c times r
  step_shadow p r k (Reads line may) = user_more c times p k spelled line may
  step_shadow p r k (Takes e rest front fits) =
      subst (λ (text : List ℕ). Shadow c times (clocked.reads c times p text rest (met_by c (clocked.bare c times p) e)))
      (sym (frame_text (other c.role) e.octets))
      (frame_more c times p k e rest front fits)
  step_shadow p r k (Elsewhere v h) = elsewhere c times p k v h

  along : (p : Program) → ReachedTimed c times p → Shadow c times p
  along p at_start = first_shadow
  along p (goes_on o r h e) = step_shadow o r (along o h) e

pub few_channels : (cfg : Cfg) → config_refusal cfg ≡ None → cfg.channels.count ≤ 4095
few_channels cfg fine = by (nat_le 1 cfg.k) (nat_le cfg.k 7) (nat_le 1 cfg.n2) (nat_le 1 cfg.channels.count) (nat_le cfg.channels.count 4095) _ refl fine
  where
    by : (a b d e f g : Bool) → nat_le cfg.channels.count 4095 ≡ f
        → (if a && (b && (d && ((e && f) && g))) then None else Some error.BadConfig) ≡ None → cfg.channels.count ≤ 4095
    by true true true true true g few is = leb-true cfg.channels.count 4095 few
    by a b d e f g few is = absurd (cc)

pub of_timed_program : (Holds : BesideSessions → Type 0) → ReadsWhatIsSpelled → OfProgram Holds → OfTimedProgram Holds
of_timed_program Holds spelled law end cfg times fine p reached =
    let c : Settings = settings_from end cfg in
    let k = along spelled c times (few_channels cfg fine) p reached in
    let found = law end cfg fine (record p { read = k.text }) k.reached in
    let own : ℕ → Own = found.0 in (
      own,
      record {
        reached = subst (beside.ReachedBeside c) (same_seen c times p k own) found.1.reached;
        entries = ap (λ (n : ℕ). entries_to n own) (sym (same_begun c times p k)) ∙ found.1.entries ∙ k.entries;
      },
      subst Holds (same_seen c times p k own) found.2,
    )

-- A program with a clock and one without that reads the lines of a user for what is due, over any input.
use Rattle.std.proofs.Common.{◌≡◌, ◌∙◌, ◌==◌, ℕ, Bool, true, false, if◌then◌else◌, List, [], ◌∷◌, ◌++◌, flat_map, ap, refl, sym, subst, append-nil}
use Rattle.std.proofs.Common.{append_assoc}
use Rattle.std.proofs.lemmas.Grind.{flat_map-append}
use Rattle.x25_clock.specs.declared.times.Times.{Times}
use Rattle.x25_io.specs.Lines.{IsOpen, onto}
unfoldable use Rattle.x25_io.specs.Lines.{lines_of}
use Rattle.x25_joined.proofs.LineText.{AreWhole, none_whole, first_said}
use Rattle.x25_joined.specs.laws.Joined.{entries_in, frames_in, station_of, written}
use Rattle.x25_pipe.specs.Pipe.{asked_act}
unfoldable use Rattle.x25_pipe.specs.Pipe.{event_in}
use Rattle.x25_pipe.specs.Timed.{Timed, new_timed}
unfoldable use Rattle.x25_pipe.specs.Timed.{timed_turn, timed_turns}
use Rattle.x25_script.specs.laws.ReadingLaw.{ReadsWhatIsSpelled}
use Rattle.x25_station.specs.{Config.{Settings}, Entry.{StationEntry}, Station.{Station}}
use Rattle.x25_joined.proofs.PeerPlays.{AreOpen, IsOpenPlay, line_open, plays_open}
use Rattle.x25_joined.proofs.PlayedFollows.{AreLowPlays, Follows, IsLowPlay, Linked, StayLow, line_follows, linked_append, low_append, new_low, next_by}
use Rattle.x25_joined.proofs.PlayedLines.{stands_is}
use Rattle.x25_joined.proofs.PlayedReads.{reads_one, timed_entries-append, timed_frames-append, told_entries, told_frames, words_ask, words_open}
use Rattle.x25_joined.specs.laws.Played.{Answers, AreSaid, Insists, IsSaidPlay, Marks, Passes, Play, Played, TimedSaying, as_text, asked_by, due_words, line_plays, lines_for}
use Rattle.x25_joined.specs.laws.Played.{lines_heard, lines_plays, playing, plays, timed_entries, timed_frames, told}
use Rattle.x25_joined.specs.laws.PlayedClaims.{AreProgramsWithoutClock}

record Read (c : Settings) (u : List ℕ) (lines : List (List ℕ)) (said : List TimedSaying) (t : Station) : Type 0 where
  text : List ℕ
  is : text ≡ u ++ as_text lines
  whole : AreWhole text
  station : station_of c text ≡ t
  entries : entries_in (written c text) ≡ entries_in (written c u) ++ timed_entries said
  frames : frames_in (written c text) ≡ frames_in (written c u) ++ timed_frames said

module _ (spelled : ReadsWhatIsSpelled) (c : Settings) where
  none_read : (u : List ℕ) → AreWhole u → (said : List TimedSaying) (t : Station) → station_of c u ≡ t → timed_entries said ≡ [] → timed_frames said ≡ []
      → Read c u [] said t
  none_read u whole said t at entries frames = record {
    text = u;
    is = sym (append-nil u);
    whole = whole;
    station = at;
    entries = sym (append-nil (entries_in (written c u))) ∙ ap (λ (es : List StationEntry). entries_in (written c u) ++ es) (sym entries);
    frames = sym (append-nil (frames_in (written c u))) ∙ ap (λ (fs : List (List ℕ)). frames_in (written c u) ++ fs) (sym frames);
  }

  line_read : (u : List ℕ) → AreWhole u → (x : Played) → x.at.station ≡ station_of c u → (line : List ℕ) → IsOpen line
      → event_in c.wide c.role line ≡ asked_by c x.play → Read c u (line ∷ []) (told c x) (next_by c x)
  line_read u whole x at line none is =
      let r = reads_one c u line (asked_by c x.play) whole none is in
      record {
        text = u ++ (line ++ 10 ∷ []);
        is = ap (λ (t : List ℕ). u ++ t) (sym (append-nil (line ++ 10 ∷ [])));
        whole = r.whole;
        station = r.station ∙ ap (λ (s : Station). (asked_act c s (asked_by c x.play)).next) (sym at);
        entries = r.entries ∙ ap (λ (es : List StationEntry). entries_in (written c u) ++ es)
            (ap (λ (s : Station). entries_in (asked_act c s (asked_by c x.play)).sayings) (sym at) ∙ sym (told_entries c x.at x.play));
        frames = r.all_frames ∙ ap (λ (fs : List (List ℕ)). frames_in (written c u) ++ fs)
            (ap (λ (s : Station). frames_in (asked_act c s (asked_by c x.play)).sayings) (sym at) ∙ sym (told_frames c x.at x.play));
      }

  one_read : (u : List ℕ) → AreWhole u → (w : Timed) (play : Play) → w.station ≡ station_of c u → IsLowPlay play → IsOpenPlay play → IsSaidPlay c play
      → Read c u (lines_for c.role play) (told c (playing w play)) (next_by c (playing w play))
  one_read u whole w (Answers line) at low none said = line_read u whole (playing w (Answers line)) at line none refl
  one_read u whole w (Insists due asked) at low none said =
      line_read u whole (playing w (Insists due asked)) at (due_words c.role asked) (words_open c.role asked low) (words_ask spelled c.wide c.role asked low said)
  one_read u whole w Passes at low none said = none_read u whole (told c (playing w Passes)) w.station (sym at) refl refl
  one_read u whole w Marks at low none said = none_read u whole (told c (playing w Marks)) w.station (sym at) refl refl

  all_read : (ps : List Played) (u : List ℕ) (s t : Station) → AreWhole u → Linked c ps s t → s ≡ station_of c u → AreLowPlays ps → AreOpen ps → AreSaid c ps
      → Read c u (lines_heard c.role ps) (flat_map (told c) ps) t
  all_read [] u s t whole linked at low none said = none_read u whole [] t (sym at ∙ linked) refl refl
  all_read (x ∷ ps) u s t whole linked at low none said =
      let first = one_read u whole x.at x.play (linked.0 ∙ at) low.0 none.0 said.0 in
      let rest = all_read ps first.text (next_by c x) t first.whole linked.1 (sym first.station) low.1 none.1 said.1 in
      let a : List (List ℕ) = lines_for c.role x.play in
      let b : List (List ℕ) = lines_heard c.role ps in
      record {
        text = rest.text;
        is = rest.is ∙ ap (λ (v : List ℕ). v ++ as_text b) first.is ∙ append_assoc u (as_text a) (as_text b)
            ∙ ap (λ (v : List ℕ). u ++ v) (sym (flat_map-append (λ (line : List ℕ). line ++ 10 ∷ []) a b));
        whole = rest.whole;
        station = rest.station;
        entries = rest.entries ∙ ap (λ (es : List StationEntry). es ++ timed_entries (flat_map (told c) ps)) first.entries
            ∙ append_assoc (entries_in (written c u)) (timed_entries (told c x)) (timed_entries (flat_map (told c) ps))
            ∙ ap (λ (es : List StationEntry). entries_in (written c u) ++ es) (sym (timed_entries-append (told c x) (flat_map (told c) ps)));
        frames = rest.frames ∙ ap (λ (fs : List (List ℕ)). fs ++ timed_frames (flat_map (told c) ps)) first.frames
            ∙ append_assoc (frames_in (written c u)) (timed_frames (told c x)) (timed_frames (flat_map (told c) ps))
            ∙ ap (λ (fs : List (List ℕ)). frames_in (written c u) ++ fs) (sym (timed_frames-append (told c x) (flat_map (told c) ps)));
      }

-- ---- the lines of any text have no LF in them

abbrev AreOpenLines : List (List ℕ) → Type 0
AreOpenLines [] = Unit {0}
AreOpenLines (line ∷ lines) = IsOpen line × AreOpenLines lines

lf_or_not : (o : ℕ) (b : Bool) → (o == 10) ≡ b → b ≡ false → o ≡ 10 → ⊥
lf_or_not o b is differs e = (let yes : (10 == 10) ≡ b = subst (λ (n : ℕ). (n == 10) ≡ b) e is in cc)

onto_open : (o : ℕ) (lines : List (List ℕ)) → (o == 10) ≡ false → AreOpenLines lines → AreOpenLines (onto o lines)
onto_open o [] is open_lines = ((lf_or_not o false is refl, tt), tt)
onto_open o (line ∷ lines) is open_lines = ((lf_or_not o false is refl, open_lines.0), open_lines.1)

lines_open : (text : List ℕ) → AreOpenLines (lines_of text)
unfolding lines_of
lines_open [] = tt
lines_open (o ∷ text) = by (o == 10) refl (lines_open text)
  where
    by : (b : Bool) → (o == 10) ≡ b → AreOpenLines (lines_of text)
        → AreOpenLines (let ls : List (List ℕ) = if b then [] ∷ lines_of text else onto o (lines_of text) in ls)
    by true is rest = (tt, rest)
    by false is rest = onto_open o (lines_of text) is rest

module _ (c : Settings) (times : Times) where
  lines_follow : (lines : List (List ℕ)) (w : Timed) → StayLow c w.deadlines.waits → Follows c (lines_plays c times lines w) w (timed_turns c times lines w).next
  unfolding timed_turns
  lines_follow [] w low = record { linked = refl; low = tt; next = low }
  lines_follow (line ∷ lines) w low =
      let u : Timed = (timed_turn c times line w).next in
      let f = line_follows c times line w low in
      let g = lines_follow lines u f.next in
      record {
        linked = linked_append c (line_plays c times line w) (lines_plays c times lines u) w.station u.station
            (timed_turns c times lines u).next.station f.linked g.linked;
        low = low_append (line_plays c times line w) (lines_plays c times lines u) f.low g.low;
        next = g.next;
      }

  all_open : (lines : List (List ℕ)) (w : Timed) → AreOpenLines lines → AreOpen (lines_plays c times lines w)
  all_open [] w none = tt
  all_open (line ∷ lines) w none =
      let u : Timed = (timed_turn c times line w).next in
      plays_open (line_plays c times line w) (lines_plays c times lines u) (line_open c times line w none.0) (all_open lines u none.1)

pub without_clock_is : ReadsWhatIsSpelled → AreProgramsWithoutClock
without_clock_is spelled c times input few said =
    let w : Timed = new_timed c in
    let lines : List (List ℕ) = lines_of input in
    let v : Timed = (timed_turns c times lines w).next in
    let f = lines_follow c times lines w (new_low c few) in
    let first = ap (λ t. t.next) (first_said c) in
    let all = all_read spelled c (plays c times input) [] w.station v.station none_whole (refl, f.linked) (sym first) (tt, f.low)
    (tt, all_open c times lines w (lines_open input)) said in
    record {
      station = ap (station_of c) (sym all.is) ∙ all.station ∙ ap (λ (x : Timed). x.station) (sym (stands_is c times input));
      entries = ap (λ (text : List ℕ). entries_in (written c text)) (sym all.is) ∙ all.entries
          ∙ ap (λ t. entries_in t.sayings ++ timed_entries (flat_map (told c) (plays c times input))) (first_said c);
      frames = ap (λ (text : List ℕ). frames_in (written c text)) (sym all.is) ∙ all.frames
          ∙ ap (λ t. frames_in t.sayings ++ timed_frames (flat_map (told c) (plays c times input))) (first_said c);
    }

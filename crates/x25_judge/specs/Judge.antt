-- What `judge` writes, as a function of what it reads (profile): for each line what `decode` writes, and the rule or
-- manners that its frame breaks.
use Rattle.std.specs.Prelude.{ℕ, ◌==◌, Bool, true, false, not, ◌&&◌, ◌||◌, List, [], ◌++◌, codes, if◌then◌else◌, Option}
use Rattle.std.specs.Prelude.{Some, None, is_some, nat_le, Result, Ok, Err, unwrap_or}
use Rattle.x25_bits.specs.declared.{role.Role.{Role}, role.Role.TheVariants.{Dte, Dce}}
use Rattle.x25_decode.specs.Decoding.{gap_in, gap_text, line_text, mark_of, n1, sent_in}
use Rattle.x25_decode.specs.declared.answer.Reading.{Reading}
use Rattle.x25_frame.specs.{Frame.{PlainFrame, info}, Reading.{frame_of}}
use Rattle.x25_frame.specs.declared.{error.FrameError.{FrameError}, error.FrameError.TheVariants.{TooLong}}
use Rattle.x25_frame.specs.declared.error.FrameError.TheVariants.{Short, BadFcs, BadAddress, Undefined, NoInfoAllowed}
use Rattle.x25_packet_judge.specs.Book as book
use Rattle.x25_judge.specs.Counts.{counted, end_text, line_text as last_text, more, no_counts, none, tallied}
use Rattle.x25_judge.specs.{Doubt.{explains_told, lack}, Held.{forgets_all}, Manners.{none as no_manners}}
use Rattle.x25_judge.specs.{Links.{Both, Missed, no_end, sees, misses}, Note.{first_note, note_text, packet_note}}
use Rattle.x25_judge.specs.{Rule.{breaks_manners, breaks_order, first, is_of_manners}, RuleText.{rule_text}}
use Rattle.x25_packet.specs.Reading.{channel_in}
use Rattle.x25_possible_links.specs.code.Steps.{is_followed, is_known, numbers, unknown}
use Rattle.x25_possible.specs.declared.packet.Defaults.{Defaults}
use Rattle.x25_possible_links.specs.declared.{stand.Stand.{Stand}, stand.Stand.TheVariants.{Up}}
use Rattle.x25_packet_judge.specs.declared.{book.Book.{Book}, book.Verdict.{Verdict}}
use Rattle.x25_judge.specs.declared.{counts.Line.{Line}, counts.Line.TheVariants.{Nothing, Told, Unjudged}}
use Rattle.x25_judge.specs.declared.{doubt.At.{At}, midst.Watch.TheVariants.{Unseen}}
use Rattle.x25_judge.specs.declared.{doubt.At.TheVariants.{Line as OnLine}, judge.Judge.{Judge}, links.End.{End}}
use Rattle.x25_judge.specs.declared.{doubt.Lack.{Lack}, doubt.Frames.TheVariants.{Any}, links.Seen.{Seen}}
use Rattle.x25_judge.specs.declared.{judge.Strictness.{Strictness}, note.Note.{Note}, rule.Rule.{Rule}}
use Rattle.x25_packet_judge.specs.declared.packet_rule.PacketRule.{PacketRule}
use Rattle.x25_judge.specs.declared.rule.Rule.TheVariants.{NoFrame, Packet}

-- before anything was sent: k, the network's packet size and window, how octets are read, and what counts beside a
-- broken rule; of a trace of all frames
abbrev pub begins : ℕ → Defaults → Reading → Strictness → Judge
begins window defaults reading strictness = record {
  window = window;
  reading = reading;
  strictness = strictness;
  dte = no_end;
  dce = no_end;
  book = book.empty defaults;
  dte_frames = none;
  dce_frames = none;
  dte_packets = no_counts;
  dce_packets = no_counts;
  told = record { rules = 0; manners = 0; doubts = 0 };
  has_judged = false;
  at = OnLine;
  dte_misses = false;
  dce_misses = false;
}

-- of a trace that was made at a place
abbrev pub begins_at : At → ℕ → Defaults → Reading → Strictness → Judge
begins_at at window defaults reading strictness = record (begins window defaults reading strictness) { at = at }

-- ---- a frame

-- the end that sends, and the other one
abbrev pub own_of : Role → Judge → End
own_of Dte j = j.dte
own_of Dce j = j.dce

abbrev pub other_of : Role → Judge → End
other_of Dte j = j.dce
other_of Dce j = j.dte

abbrev pub behind : Role → End → End → Book → Judge → Judge
behind Dte own other b j = record j { dte = own; dce = other; book = b }
behind Dce own other b j = record j { dte = other; dce = own; book = b }

-- ---- what was judged

abbrev pub counts_frame : Role → Bool → Judge → Judge
counts_frame Dte is_judged j =
    record j { dte_frames = more 0 is_judged j.dte_frames; has_judged = j.has_judged || is_judged }
counts_frame Dce is_judged j =
    record j { dce_frames = more 0 is_judged j.dce_frames; has_judged = j.has_judged || is_judged }

abbrev pub counts_packet : Role → ℕ → Bool → Judge → Judge
counts_packet Dte channel is_judged j =
    record j { dte_packets = counted channel is_judged j.dte_packets; has_judged = j.has_judged || is_judged }
counts_packet Dce channel is_judged j =
    record j { dce_packets = counted channel is_judged j.dce_packets; has_judged = j.has_judged || is_judged }

-- A packet counts where its I frame wasn't sent before. Information that is too short to name a channel counts on
-- channel 0.
unfoldable pub counts_carried : Role → PlainFrame → Bool → Bool → Judge → Judge
counts_carried from (info ns nr p octets) is_again is_judged j = if is_again then j
    else counts_packet from (unwrap_or (channel_in octets) 0) is_judged j
counts_carried from frame is_again is_judged j = j

-- no packet of the frame goes unjudged
unfoldable pub covers : PlainFrame → Bool → Bool → Bool
covers (info ns nr p octets) is_again is_judged = is_again || is_judged
covers frame is_again is_judged = true

-- a rule of the link layer is told before one of the packet layer, and so are manners
abbrev pub all_told : Option Rule → Option PacketRule → Option Rule
all_told rule None = rule
all_told rule (Some packet) = first rule (Some (Packet packet))

-- ---- a line

-- whether anything is told of it that no loss explains, and whether that counts for the status
pub record Answer : Type 0 where
  pub next : Judge
  pub text : List ℕ
  pub is_faulty : Bool
  pub counts : Bool

-- ---- what may be missing

-- an end acknowledged eight I frames of its session: of those that were on the way at once it took the last
abbrev pub has_taken : Stand → Bool
has_taken (Up k) = nat_le 8 k.told
has_taken s = false

-- it is known where an end stands, and nothing of before may come to it
abbrev pub is_settled : End → Bool
is_settled e = is_known e.set && is_followed e.set

-- a gap may explain what is told of an end: one of both isn't settled, or it may not have taken what is missing
abbrev pub misses_of : Role → Judge → Bool
misses_of Dte j = j.dte_misses
misses_of Dce j = j.dce_misses

abbrev pub is_behind_gap : Role → Judge → Bool
is_behind_gap from j = (j.dte_misses || j.dce_misses) && (not (is_settled j.dte && is_settled j.dce)
    || (misses_of from j && not (has_taken (numbers (own_of from j).set))))

-- then any frames may be missing; and packets until the next set-up
abbrev pub lack_of : Judge → Role → Lack
lack_of j from = record {
  frames = if is_behind_gap from j then Any else lack j.at from (own_of from j).set;
  packets = not j.book.is_whole;
}

-- ---- what is told

abbrev pub sign_of : Bool → Rule → List ℕ
sign_of in_doubt rule =
    if in_doubt then (if is_of_manners rule then codes " ~? manners: " else codes " !? ")
    else (if is_of_manners rule then codes " ~ manners: " else codes " ! ")

abbrev pub doubt_text : Bool → List ℕ
doubt_text in_doubt = if in_doubt then codes ", or the capture lacks frames" else []

abbrev pub end_of : Role → List ℕ
end_of Dte = codes "dte: "
end_of Dce = codes "dce: "

abbrev pub broken_text : Role → Bool → Rule → List ℕ
broken_text from in_doubt rule = sign_of in_doubt rule ++ end_of from ++ rule_text rule ++ doubt_text in_doubt

abbrev pub noted_text : Option Note → List ℕ
noted_text None = []
noted_text (Some note) = codes " ~ note: " ++ note_text note

-- what is noted is told where no rule is broken
abbrev pub remark_text : Role → Bool → Option Rule → Option Note → List ℕ
remark_text from in_doubt None note = noted_text note
remark_text from in_doubt (Some rule) _ = broken_text from in_doubt rule

-- octets that aren't damaged and spell no frame count against their sender
abbrev pub no_frame : FrameError → Option Rule
no_frame Short = None
no_frame BadFcs = None
no_frame BadAddress = None
no_frame (Undefined control) = Some NoFrame
no_frame (NoInfoAllowed control) = Some NoFrame
no_frame TooLong = Some NoFrame

-- not judged, where that counts
abbrev pub is_open : Strictness → Seen → Bool
is_open s r = s.unjudged && not r.is_judged

-- what is in doubt counts where what isn't judged does
abbrev pub counts_by : Strictness → Bool → Seen → Bool
counts_by s in_doubt r =
    ((not in_doubt || s.unjudged) && (breaks_order r.rule || (breaks_manners r.rule && s.manners))) || is_open s r

-- one more rule, or one more of manners, that was told
abbrev pub tallies : Bool → Option Rule → Judge → Judge
tallies in_doubt rule j = record j {
  told = tallied in_doubt (breaks_order rule) (breaks_manners rule) j.told;
  has_judged = is_some rule || j.has_judged;
}

abbrev pub told_of : Judge → Role → List ℕ → Seen → Judge → Answer
told_of j from octets r next = let in_doubt = explains_told (lack_of j from) r.rule in record {
  next = tallies in_doubt r.rule next;
  text = mark_of from ++ line_text j.reading from octets ++ remark_text from in_doubt r.rule r.note ++ codes "\n";
  is_faulty = is_some r.rule || is_open j.strictness r;
  counts = counts_by j.strictness in_doubt r;
}

-- a frame, as it is seen by the link layer and by the packet layer
abbrev pub remark_by : PlainFrame → Seen → Verdict → Seen
remark_by frame t v = record t {
  rule = all_told t.rule v.rule;
  note = first_note (packet_note v.noted) t.note;
  is_judged = t.is_judged && covers frame t.is_again v.is_judged;
}

abbrev pub next_by : Role → PlainFrame → Both → book.Seen → Judge → Judge
next_by from frame t s j = counts_carried from frame t.seen.is_again s.verdict.is_judged
    (counts_frame from t.seen.is_judged (behind from t.own t.other s.book j))

abbrev pub book_of : Judge → Role → PlainFrame → Seen → book.Seen
book_of j from frame t = book.sees from j.reading frame (breaks_order t.rule) t.is_open j.book

abbrev pub told_frame : Judge → Role → List ℕ → PlainFrame → Both → Answer
told_frame j from octets frame t = told_of j from octets (remark_by frame t.seen (book_of j from frame t.seen).verdict)
    (next_by from frame t (book_of j from frame t.seen) j)

abbrev pub seen_by : Judge → Role → PlainFrame → Both
seen_by j from frame = sees j.window frame (own_of from j) (other_of from j)

abbrev pub remark_of : Judge → Role → PlainFrame → Both → Seen
remark_of j from frame t = remark_by frame t.seen (book_of j from frame t.seen).verdict

-- octets that spell no frame are judged where they aren't damaged
abbrev pub remark_missed : FrameError → Missed → Seen
remark_missed e m = record {
  rule = no_frame e;
  note = m.note;
  is_again = false;
  is_judged = is_some (no_frame e);
  is_open = false;
}

abbrev pub missed_by : Judge → Role → Missed
missed_by j from = misses (own_of from j) (other_of from j)

abbrev pub next_missed : Role → FrameError → Missed → Judge → Judge
next_missed from e m j =
    counts_frame from (is_some (no_frame e)) (behind from m.own m.other (book.misses from j.book) j)

-- octets, by what they spell
abbrev pub read_of : Judge → Role → List ℕ → Result PlainFrame FrameError → Answer
read_of j from octets (Ok frame) = told_frame j from octets frame (seen_by j from frame)
read_of j from octets (Err e) =
    told_of j from octets (remark_missed e (missed_by j from)) (next_missed from e (missed_by j from) j)

-- ---- a gap: any number of frames may be missing

abbrev pub forgotten : End → End
forgotten e = record { set = unknown; held = forgets_all e.held; manners = no_manners; watch = Unseen }

abbrev pub is_dte : Role → Bool
is_dte Dte = true
is_dte Dce = false

-- nothing is known of either end any more, but which packets may be on the way; and counts go on
abbrev pub past_gap : Role → Judge → Judge
past_gap from j = record j {
  dte = forgotten j.dte;
  dce = forgotten j.dce;
  book = book.passes_gap j.book;
  dte_misses = j.dte_misses || not (is_dte from);
  dce_misses = j.dce_misses || is_dte from;
}

-- What is missing isn't judged; and a line that is none of a trace counts.
abbrev pub gap_of : Judge → Option Role → Answer
gap_of j None = record { next = j; text = gap_text None ++ codes "\n"; is_faulty = true; counts = true }
gap_of j (Some from) = record {
  next = past_gap from j;
  text = gap_text (Some from) ++ codes "\n";
  is_faulty = j.strictness.unjudged;
  counts = j.strictness.unjudged;
}

-- ---- a line of a trace

abbrev pub sent_of : Judge → Option Role → Option (Role × List ℕ) → Answer
sent_of j gap None = gap_of j gap
sent_of j gap (Some sent) = read_of j sent.0 sent.1 (frame_of sent.0 n1 sent.1)

unfoldable pub answer_to : Judge → List ℕ → Answer
answer_to j line = sent_of j (gap_in line) (sent_in line)

-- ---- lines

-- no frame and no packet was judged, and nothing told
abbrev pub is_nothing : Judge → Bool
is_nothing j = not j.has_judged

-- or no line had octets
abbrev pub last_line : Judge → Line
last_line j =
    if j.has_judged then Told j.told
    else if j.dte_frames.seen == 0 && j.dce_frames.seen == 0 then Nothing else Unjudged

-- behind the last one, how much was judged, and what was told
abbrev pub counts_text : Judge → List ℕ
counts_text j = end_text Dte j.dte_frames j.dte_packets
    ++ (end_text Dce j.dce_frames j.dce_packets ++ last_text (last_line j))

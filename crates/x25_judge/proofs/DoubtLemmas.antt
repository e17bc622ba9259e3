-- What is in doubt, as frames or packets may be missing.
use Rattle.std.proofs.Common.{◌≡◌, ◌∙◌, ℕ, Bool, true, false, List, [], ◌∷◌, Option, Some, None, refl, sym, ap, Result, Ok, Err, ◌&&◌, ◌||◌, not, if◌then◌else◌}
use Rattle.std.proofs.{Math.Bool.{or-true}, lemmas.Bool.{both_ways}}
use Rattle.std.specs.Prelude.{is_some, unwrap_or}
use Rattle.x25_bits.specs.{Role.{other}, declared.role.{Role.{Role}, Role.TheVariants.{Dte, Dce}}}
use Rattle.x25_decode.specs.Decoding.{gap_in, n1, sent_in}
use Rattle.x25_frame.specs.{Frame.{PlainFrame, info}, Reading.{frame_of}, declared.error.FrameError.{FrameError}}
use Rattle.x25_frame.specs.declared.error.FrameError.TheVariants.{TooLong, Short, BadFcs, BadAddress, Undefined, NoInfoAllowed}
use Rattle.x25_judge.specs.Judge as judge
use Rattle.x25_judge.specs.Links as links
use Rattle.x25_judge.specs.Held as held
use Rattle.x25_packet_judge.specs.Book as book
use Rattle.x25_judge.specs.{Doubt.{explains_as, explains_told, is_of_packets, lack, lack_at, lost}, Rule.{is_of_manners}}
use Rattle.x25_judge.specs.declared.{doubt.At.{At}, judge.Judge.{Judge}, links.End.{End}, links.Seen.{Seen}, rule.Rule.{Rule}, doubt.Frames.{Frames}}
use Rattle.x25_judge.specs.declared.doubt.At.TheVariants as at
use Rattle.x25_judge.specs.declared.doubt.Frames.TheVariants.{Any, Lost, Nothing}
use Rattle.x25_judge.specs.declared.rule.Rule.TheVariants.{Differs, NoFrame, Packet, UaUnasked}
use Rattle.x25_judge.specs.laws.DoubtClaims.{after_lines, GapsLeaveDoubt, PacketsStayInDoubt, OctetsAreCertain, LossesLeaveDoubt, LossesAreTold, HasNoGap, has_all_of}
use Rattle.x25_packet.specs.Reading.{channel_in}
use Rattle.x25_packet_judge.specs.declared.{book.Book.{Book}, packet_rule.PacketRule.{PacketRule}, packet_rule.PacketRule.TheVariants.{NoPacket}}
use Rattle.x25_possible_links.specs.code.Steps.{awaits_before, has_request, numbers}
use Rattle.x25_possible_links.specs.declared.set.LinkSet.{LinkSet}

-- ---- no line takes a gap back

behind_keeps : (e from : Role) (own other : End) (b : Book) (j : Judge) → judge.misses_of e (judge.behind from own other b j) ≡ judge.misses_of e j
behind_keeps Dte Dte own other b j = refl
behind_keeps Dte Dce own other b j = refl
behind_keeps Dce Dte own other b j = refl
behind_keeps Dce Dce own other b j = refl

frame_keeps : (e from : Role) (is : Bool) (j : Judge) → judge.misses_of e (judge.counts_frame from is j) ≡ judge.misses_of e j
frame_keeps Dte Dte is j = refl
frame_keeps Dte Dce is j = refl
frame_keeps Dce Dte is j = refl
frame_keeps Dce Dce is j = refl

packet_keeps : (e from : Role) (channel : ℕ) (is again : Bool) (j : Judge)
    → judge.misses_of e (if again then j else judge.counts_packet from channel is j) ≡ judge.misses_of e j
packet_keeps e from channel is true j = refl
packet_keeps Dte Dte channel is false j = refl
packet_keeps Dte Dce channel is false j = refl
packet_keeps Dce Dte channel is false j = refl
packet_keeps Dce Dce channel is false j = refl

carried_keeps : (e from : Role) (frame : PlainFrame) (again is : Bool) (j : Judge)
    → judge.misses_of e (judge.counts_carried from frame again is j) ≡ judge.misses_of e j
unfolding judge.counts_carried
carried_keeps e from (info ns nr p octets) again is j = packet_keeps e from (unwrap_or (channel_in octets) 0) is again j
carried_keeps e from frame again is j = refl

tally_keeps : (e : Role) (doubt : Bool) (rule : Option Rule) (j : Judge) → judge.misses_of e (judge.tallies doubt rule j) ≡ judge.misses_of e j
tally_keeps Dte doubt rule j = refl
tally_keeps Dce doubt rule j = refl

gap_keeps : (e gap : Role) (j : Judge) → judge.misses_of e j ≡ true → judge.misses_of e (judge.past_gap gap j) ≡ true
gap_keeps Dte gap j h = ap (λ b. b || not (judge.is_dte gap)) h
gap_keeps Dce gap j h = ap (λ b. b || judge.is_dte gap) h

told_keeps : (e from : Role) (octets : List ℕ) (r : Seen) (next j : Judge)
    → judge.misses_of e (judge.told_of j from octets r next).next ≡ judge.misses_of e next
told_keeps e from octets r next j = tally_keeps e (explains_told (judge.lack_of j from) r.rule) r.rule next

read_keeps : (e from : Role) (octets : List ℕ) (read : Result PlainFrame FrameError) (j : Judge)
    → judge.misses_of e (judge.read_of j from octets read).next ≡ judge.misses_of e j
read_keeps e from octets (Ok frame) j =
    let t = judge.seen_by j from frame in
    let s = judge.book_of j from frame t.seen in
    let behind = judge.behind from t.own t.other s.book j in
    let counted = judge.counts_frame from t.seen.is_judged behind in
    told_keeps e from octets (judge.remark_by frame t.seen s.verdict) (judge.next_by from frame t s j) j
    ∙ (carried_keeps e from frame t.seen.is_again s.verdict.is_judged counted
    ∙ (frame_keeps e from t.seen.is_judged behind ∙ behind_keeps e from t.own t.other s.book j))
read_keeps e from octets (Err error) j =
    let m = judge.missed_by j from in
    let behind = judge.behind from m.own m.other (book.misses from j.book) j in
    told_keeps e from octets (judge.remark_missed error m) (judge.next_missed from error m j) j
    ∙ (frame_keeps e from (is_some (judge.no_frame error)) behind ∙ behind_keeps e from m.own m.other (book.misses from j.book) j)

sent_keeps : (e : Role) (gap : Option Role) (sent : Option (Role × List ℕ)) (j : Judge) → judge.misses_of e j ≡ true
    → judge.misses_of e (judge.sent_of j gap sent).next ≡ true
sent_keeps e None None j h = h
sent_keeps e (Some gap) None j h = gap_keeps e gap j h
sent_keeps e gap (Some sent) j h = read_keeps e sent.0 sent.1 (frame_of sent.0 n1 sent.1) j ∙ h

line_keeps : (e : Role) (line : List ℕ) (j : Judge) → judge.misses_of e j ≡ true → judge.misses_of e (judge.answer_to j line).next ≡ true
unfolding judge.answer_to
line_keeps e line j h = sent_keeps e (gap_in line) (sent_in line) j h

lines_keep : (e : Role) (lines : List (List ℕ)) (j : Judge) → judge.misses_of e j ≡ true → judge.misses_of e (after_lines lines j) ≡ true
lines_keep e [] j h = h
lines_keep e (line ∷ lines) j h = line_keeps e line (after_lines lines j) (lines_keep e lines j h)

-- the other end lacks frames behind it
lacks : (gap : Role) (j : Judge) → judge.misses_of (other gap) (judge.past_gap gap j) ≡ true
lacks Dte j = or-true j.dce_misses
lacks Dce j = or-true j.dte_misses

-- ---- what any frames explain

any_explains : (rule : Rule) → (rule ≡ NoFrame → ⊥) → explains_as Any rule ≡ true
any_explains NoFrame h = absurd (h refl)
any_explains rule h = refl

or_second : (a b : Bool) → b ≡ true → (a || b) ≡ true
or_second a b h = ap (λ c. a || c) h ∙ or-true a

or_first : (a b : Bool) → a ≡ true → (a || b) ≡ true
or_first a b h = ap (λ c. c || b) h

-- where it is behind a gap all is in doubt
behind_gap : (k : Judge) (from : Role) (rule : Rule) → judge.is_behind_gap from k ≡ true → (rule ≡ NoFrame → ⊥)
    → explains_told (judge.lack_of k from) (Some rule) ≡ true
behind_gap k from rule is h =
    or_second (not k.book.is_whole && is_of_packets rule) _
    (ap (λ b. explains_as (if b then Any else lack k.at from (judge.own_of from k).set) rule) is ∙ any_explains rule h)

some_misses : (e : Role) (k : Judge) → judge.misses_of e k ≡ true → (k.dte_misses || k.dce_misses) ≡ true
some_misses Dte k h = or_first k.dte_misses k.dce_misses h
some_misses Dce k h = or_second k.dte_misses k.dce_misses h

unsettled : (k : Judge) (e from : Role) → judge.misses_of e k ≡ true → (judge.is_settled k.dte && judge.is_settled k.dce) ≡ false
    → judge.is_behind_gap from k ≡ true
unsettled k e from lack unset =
    ap (λ b. b && (not (judge.is_settled k.dte && judge.is_settled k.dce)
    || (judge.misses_of from k && not (judge.has_taken (numbers (judge.own_of from k).set))))) (some_misses e k lack)
    ∙ or_first (not (judge.is_settled k.dte && judge.is_settled k.dce)) _ (ap not unset)

untaken : (k : Judge) (e : Role) → judge.misses_of e k ≡ true → judge.has_taken (numbers (judge.own_of e k).set) ≡ false
    → judge.is_behind_gap e k ≡ true
untaken k e lack none =
    ap (λ b. b && (not (judge.is_settled k.dte && judge.is_settled k.dce)
    || (judge.misses_of e k && not (judge.has_taken (numbers (judge.own_of e k).set))))) (some_misses e k lack)
    ∙ or_second (not (judge.is_settled k.dte && judge.is_settled k.dce)) _
    (ap (λ b. b && not (judge.has_taken (numbers (judge.own_of e k).set))) lack ∙ ap not none)

forgets_both : (gap end : Role) (j : Judge) → judge.is_settled (judge.own_of end (judge.past_gap gap j)) ≡ false
forgets_both gap Dte j = refl
forgets_both gap Dce j = refl

pub gaps_leave_doubt : GapsLeaveDoubt
gaps_leave_doubt = record {
  unsettled = λ j gap from lines rule unset h.
      let k = after_lines lines (judge.past_gap gap j) in
      behind_gap k from rule (unsettled k (other gap) from (lines_keep (other gap) lines (judge.past_gap gap j) (lacks gap j)) unset) h;
  untaken = λ j gap lines rule none h.
      let k = after_lines lines (judge.past_gap gap j) in
      behind_gap k (other gap) rule (untaken k (other gap) (lines_keep (other gap) lines (judge.past_gap gap j) (lacks gap j)) none) h;
  at_once = λ j gap end. forgets_both gap end j;
}

-- ---- packets

of_packets : (rule : PacketRule) → (rule ≡ NoPacket → ⊥) → is_of_packets (Packet rule) ≡ true
of_packets NoPacket h = absurd (h refl)
of_packets rule h = refl

pub packets_stay_in_doubt : PacketsStayInDoubt
packets_stay_in_doubt = record {
  packets = λ j from rule whole h.
      or_first (not j.book.is_whole && is_of_packets (Packet rule)) _
      (ap (λ b. not b && is_of_packets (Packet rule)) whole ∙ of_packets rule h);
  gap = λ j gap. refl;
}

-- ---- octets that spell no frame

-- none of the frames that may be missing explains them
never : (frames : Frames) → explains_as frames NoFrame ≡ false
never Nothing = refl
never Lost = refl
never Any = refl

none_explains : (packets : Bool) (frames : Frames) → ((packets && is_of_packets NoFrame) || explains_as frames NoFrame) ≡ false
none_explains true frames = never frames
none_explains false frames = never frames

octets_certain : (k : Judge) (from : Role) (e : FrameError) → explains_told (judge.lack_of k from) (judge.no_frame e) ≡ false
octets_certain k from Short = refl
octets_certain k from BadFcs = refl
octets_certain k from BadAddress = refl
octets_certain k from (Undefined control) = none_explains (not k.book.is_whole) (judge.lack_of k from).frames
octets_certain k from (NoInfoAllowed control) = none_explains (not k.book.is_whole) (judge.lack_of k from).frames
octets_certain k from TooLong = none_explains (not k.book.is_whole) (judge.lack_of k from).frames

pub octets_are_certain : OctetsAreCertain
octets_are_certain = record { same = λ j k from e. refl; certain = λ j k from e. octets_certain k from e }

-- ---- the place at which a trace was made

-- by what is missing at least
by_lack : (j : Judge) (from : Role) (rule : Rule) → (rule ≡ NoFrame → ⊥) → explains_as (lack j.at from (judge.own_of from j).set) rule ≡ true
    → explains_told (judge.lack_of j from) (Some rule) ≡ true
by_lack j from rule h is = or_second (not j.book.is_whole && is_of_packets rule) _ (go (judge.is_behind_gap from j))
  where
    go : (b : Bool) → explains_as (if b then Any else lack j.at from (judge.own_of from j).set) rule ≡ true
    go true = any_explains rule h
    go false = is

-- of an end of which it may lack lines
far_lacks : (a : At) (from : Role) (s : LinkSet) (rule : Rule) → has_all_of a from ≡ false → explains_as Any rule ≡ true
    → explains_as (lost s) rule ≡ true → explains_as (lack a from s) rule ≡ true
far_lacks a from s rule far any some = go (awaits_before s)
  where
    by_place : (a : At) (from : Role) → has_all_of a from ≡ false → explains_as (lack_at a from s) rule ≡ true
    by_place at.Line from far = absurd (both_ways true far refl)
    by_place at.Dte Dte far = absurd (both_ways true far refl)
    by_place at.Dte Dce far = some
    by_place at.Dce Dte far = some
    by_place at.Dce Dce far = absurd (both_ways true far refl)
    by_place at.Either from far = any

    go : (b : Bool) → explains_as (if b then Any else lack_at a from s) rule ≡ true
    go true = any
    go false = by_place a from far

lost_explains : (s : LinkSet) (rule : Rule) → explains_as Any rule ≡ true → explains_as Lost rule ≡ true → explains_as (lost s) rule ≡ true
lost_explains s rule any some = go (has_request s.way.items)
  where
    go : (b : Bool) → explains_as (if b then Any else Lost) rule ≡ true
    go true = any
    go false = some

manners_explained : (rule : Rule) → is_of_manners rule ≡ true → explains_as Lost rule ≡ true
manners_explained Differs h = refl
manners_explained UaUnasked h = refl
manners_explained rule h = h

differs_is : Differs ≡ NoFrame → ⊥
differs_is e = both_ways false refl (sym (ap is_no_frame e))
  where
    is_no_frame : Rule → Bool
    is_no_frame Differs = true
    is_no_frame rule = false

answer_is : UaUnasked ≡ NoFrame → ⊥
answer_is e = both_ways false refl (sym (ap is_answer e))
  where
    is_answer : Rule → Bool
    is_answer UaUnasked = true
    is_answer rule = false

asked_lacks : (a : At) (from : Role) (s : LinkSet) (rule : Rule) → has_all_of a from ≡ false → explains_as Any rule ≡ true
    → has_request s.way.items ≡ true → explains_as (lack a from s) rule ≡ true
asked_lacks a from s rule far any asked =
    far_lacks a from s rule far any (ap (λ b. explains_as (if b then Any else Lost) rule) asked ∙ any)

none_missing : (j : Judge) → HasNoGap j → (from : Role) → judge.is_behind_gap from j ≡ false
none_missing j none from =
    ap (λ a. (a || j.dce_misses) && (not (judge.is_settled j.dte && judge.is_settled j.dce)
    || (judge.misses_of from j && not (judge.has_taken (numbers (judge.own_of from j).set))))) (none Dte)
    ∙ ap (λ b. b && (not (judge.is_settled j.dte && judge.is_settled j.dce)
    || (judge.misses_of from j && not (judge.has_taken (numbers (judge.own_of from j).set))))) (none Dce)

near_lacks : (a : At) (from : Role) (s : LinkSet) → has_all_of a from ≡ true → lack_at a from s ≡ Nothing
near_lacks at.Line from s near = refl
near_lacks at.Dte Dte s near = refl
near_lacks at.Dte Dce s near = absurd (both_ways false refl near)
near_lacks at.Dce Dte s near = absurd (both_ways false refl near)
near_lacks at.Dce Dce s near = refl
near_lacks at.Either from s near = absurd (both_ways false refl near)

pub losses_leave_doubt : LossesLeaveDoubt
losses_leave_doubt = record {
  manners = λ j from rule far h polite. by_lack j from rule h
      (far_lacks j.at from (judge.own_of from j).set rule far (any_explains rule h)
      (lost_explains (judge.own_of from j).set rule (any_explains rule h) (manners_explained rule polite)));
  differs = λ j from far. by_lack j from Differs differs_is
      (far_lacks j.at from (judge.own_of from j).set Differs far refl (lost_explains (judge.own_of from j).set Differs refl refl));
  answers = λ j from far. by_lack j from UaUnasked answer_is
      (far_lacks j.at from (judge.own_of from j).set UaUnasked far refl (lost_explains (judge.own_of from j).set UaUnasked refl refl));
  asked = λ j from rule far h asked. by_lack j from rule h (asked_lacks j.at from (judge.own_of from j).set rule far (any_explains rule h) asked);
  awaited = λ j from rule h before. by_lack j from rule h
      (ap (λ b. explains_as (if b then Any else lack_at j.at from (judge.own_of from j).set) rule) before ∙ any_explains rule h);
  all = λ j from rule none near free.
      ap (λ b. explains_as (if b then Any else lack j.at from (judge.own_of from j).set) rule) (none_missing j none from)
      ∙ (ap (λ b. explains_as (if b then Any else lack_at j.at from (judge.own_of from j).set) rule) free
      ∙ ap (λ f. explains_as f rule) (near_lacks j.at from (judge.own_of from j).set near));
}

-- ---- worked out

pub losses_are_told : LossesAreTold
unfolding judge.counts_carried judge.covers links.shown links.opens links.judges links.minds links.goes_quietly held.no_octets held.is_same held.differs held.keeps book.sees book.sends_info book.moves book.hears book.begins book.asks book.accepts book.accepts_if
losses_are_told = record {
  whole = refl;
  lost = refl;
  doubt = refl;
  line = refl;
  near = refl;
  unsent = refl;
  certain = refl;
  anywhere = refl;
}

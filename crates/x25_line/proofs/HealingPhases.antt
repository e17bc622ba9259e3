-- How an end heals after its firing, where one of the two may be busy, told of two stations and the frames between them. Its poll is on the line, then
-- the answer; then what isn't acknowledged goes again, or waits until the other end is heard to be busy no more.
use Rattle.x25_line.proofs.Names.{◌≡◌, ℕ, ◌+◌, ◌%◌, ◌≤◌, List, [], ◌∷◌, ◌++◌, ◌⊎◌, inl, inr, length, max, Bool, true, false, if◌then◌else◌, Ok, None, Some}
use Rattle.x25_line.proofs.Names.{refl, sym, ap, ◌∙◌, subst, arith, length-append, ltb-false, le-ltb, eq-eqb, PlainFrame, info, rr, rnr, rej, frame_of}
use Rattle.x25_line.proofs.Names.{LinkSettings, LinkStation, is_up, is_busy, wanted, LinkStep, other, is_valid, take_step, says, AreNext, heard, Says, BusyLaws}
use Rattle.std.specs.Prelude.{not}
use Rattle.x25_line.proofs.BusyLines.{silent_stays, none_behind, hears_busy, hears_more, tells_free, Told, told_on, told_first}
use Rattle.x25_line.proofs.HealingLines.{LastTells, next_tells, tells_behind, Reports, reports_more, reports_new, reports_heard, Ahead, ahead_low, ahead_more}
use Rattle.x25_line.proofs.{HealingLines.{next_ahead, IsMild, Mild, mild_ahead, mild_more, held_mild, IsNoFinal, NoFinal}, HealingSteps.{number_of, HearsWell}}
use Rattle.x25_line.proofs.{Names.{HealingLaws, number_in}, StationAway.{is_up_phase}, StationSteps.{not_both}}
use Rattle.x25_link.specs.{Hearing.{is_taken}, laws.AnswerLaw.{Outcome, Answers, goes_on_from, confirms, once_taken, busy_after, passed_over}}
use Rattle.x25_link.specs.laws.BusyLaw.{NoInfo}

-- ---- what is on the line

-- a poll is at the front, and behind it no I frame
abbrev pub AsksFirst : List PlainFrame → Type 0
AsksFirst (rr true n true ∷ fs) = Mild fs
AsksFirst (rnr true n true ∷ fs) = Mild fs
AsksFirst fs = ⊥

pub asks_more : (fs es : List PlainFrame) → AsksFirst fs → Mild es → AsksFirst (fs ++ es)
asks_more (rr true n true ∷ fs) es h mild = mild_more fs es h mild
asks_more (rnr true n true ∷ fs) es h mild = mild_more fs es h mild
asks_more fs es h mild = absurd h

-- F=1 has the number that this end wants, and behind it other frames have this number
pub record Final (t : LinkStation) (busy : Bool) (number : ℕ) (gs : List PlainFrame) : Type 0 where
  pub is : number ≡ length t.taken % 8
  pub tells : LastTells (length t.taken) number gs
  pub told : Told (hears_busy busy gs) t

-- such a frame is on the line, and before it none with F=1
abbrev pub Brings : LinkStation → List PlainFrame → Type 0
Brings t [] = ⊥
Brings t (rr false n true ∷ gs) = Final t false n gs
Brings t (rnr false n true ∷ gs) = Final t true n gs
Brings t (g ∷ gs) = IsNoFinal g × Brings t gs

brings_first : {t : LinkStation} (busy : Bool) {n : ℕ} {gs : List PlainFrame} → Final t busy n gs → Brings t (says busy false n true ∷ gs)
brings_first true h = h
brings_first false h = h

brings_behind : (t : LinkStation) (fs gs : List PlainFrame) → NoFinal fs → Brings t gs → Brings t (fs ++ gs)
brings_behind t [] gs h g = g
brings_behind t (rr false n true ∷ fs) gs h g = not_both true refl h.0
brings_behind t (rnr false n true ∷ fs) gs h g = absurd h.0
brings_behind t (f ∷ fs) gs h g = (h.0, brings_behind t fs gs h.1 g)

abbrev pub IsNone : List PlainFrame → Type 0
IsNone [] = Unit {0}
IsNone (f ∷ fs) = ⊥

none_mild : (fs : List PlainFrame) → IsNone fs → Mild fs
none_mild [] h = tt
none_mild (f ∷ fs) h = absurd h

-- the poll of a busy end that wants the number r, alone
abbrev pub IsBusyPoll : ℕ → PlainFrame → Type 0
IsBusyPoll r (rnr true n true) = n ≡ r % 8
IsBusyPoll r g = ⊥

abbrev pub BusyPolls : ℕ → List PlainFrame → Type 0
BusyPolls r [] = ⊥
BusyPolls r (g ∷ gs) = IsBusyPoll r g × IsNone gs

-- ---- the phases of an end s beside an end t, with frames there and back

pub record Polling (s : LinkStation) (fs gs : List PlainFrame) : Type 0 where
  pub recovery : s.recovery ≡ true
  pub asks : AsksFirst fs
  pub heard : NoFinal gs

pub record Answered (s t : LinkStation) (fs gs : List PlainFrame) : Type 0 where
  pub recovery : s.recovery ≡ true
  pub mild : Mild fs
  pub brings : Brings t gs

-- what isn't acknowledged goes again, in order, to an end that isn't busy, whose last frame on the line, if any, tells what that has taken
pub record Resent (s t : LinkStation) (fs gs : List PlainFrame) : Type 0 where
  pub recovery : s.recovery ≡ false
  pub peer_busy : s.peer_busy ≡ false
  pub ahead : Ahead (length t.taken) fs s.outgoing.place
  pub reports : Reports (length t.taken) s.outgoing.acked gs
  pub free : is_busy t ≡ false

-- all that the far end has taken is acknowledged, and it is heard to be busy: no I frame goes. It said so last, or an RR is on the line back.
pub record Withheld (s t : LinkStation) (fs gs : List PlainFrame) : Type 0 where
  pub recovery : s.recovery ≡ false
  pub peer_busy : s.peer_busy ≡ true
  pub mild : Mild fs
  pub place : s.outgoing.place ≡ length t.taken
  pub acked : s.outgoing.acked ≡ length t.taken
  pub number : ℕ
  pub tells : LastTells (length t.taken) number gs
  pub told : Told (hears_busy true gs) t

-- there is nothing to send, and the poll of the busy far end comes
pub record Polled (s t : LinkStation) (fs gs : List PlainFrame) : Type 0 where
  pub recovery : s.recovery ≡ false
  pub none : IsNone fs
  pub polls : BusyPolls (length t.taken) gs
  pub place : s.outgoing.place ≡ length t.taken
  pub acked : s.outgoing.acked ≡ length t.taken
  pub told : t.said_busy ≡ true

-- where an end stands as it heals
abbrev pub Phases : LinkStation → LinkStation → List PlainFrame → List PlainFrame → Type 0
Phases s t fs gs = Polling s fs gs ⊎ (Answered s t fs gs ⊎ (Resent s t fs gs ⊎ (Withheld s t fs gs ⊎ Polled s t fs gs)))

-- ---- the far end says more, with the number that it said before

-- an end that heard a frame, or was handed a packet
pub record SaysMore (s z : LinkStation) (es : List PlainFrame) : Type 0 where
  pub taken : z.taken ≡ s.taken
  pub place : ℕ
  pub next : AreNext (length s.taken) place es z.outgoing.place
  pub says : Says s.said_busy z.said_busy (is_busy z) z.peer_busy es
  pub free : is_busy s ≡ false → is_busy z ≡ false

module _ {s z : LinkStation} {es : List PlainFrame} (k : SaysMore s z es) where
  same : length s.taken ≡ length z.taken
  same = sym (ap length k.taken)

  tells_more : (n : ℕ) (gs : List PlainFrame) → LastTells (length s.taken) n gs → LastTells (length z.taken) n (gs ++ es)
  tells_more n gs h =
      let r = length s.taken in
      subst (λ m. LastTells m n (gs ++ es)) same (tells_behind r r n gs es h (λ i is. next_tells r i k.place z.outgoing.place es is k.next))

  -- whether it is busy is told by what it says more
  told_more : (busy : Bool) (gs : List PlainFrame) → Told (hears_busy busy gs) s → Told (hears_busy busy (gs ++ es)) z
  told_more busy gs told = rw (hears_more busy gs es) (told_on (hears_busy busy gs) s z es told k.says k.free)

  final_more : {busy : Bool} {n : ℕ} {gs : List PlainFrame} → Final s busy n gs → Final z busy n (gs ++ es)
  final_more {busy} {n} {gs} h = record { is = h.is ∙ ap (λ m. m % 8) same; tells = tells_more n gs h.tells; told = told_more busy gs h.told }

  brings_more : (gs : List PlainFrame) → Brings s gs → Brings z (gs ++ es)
  brings_more [] h = absurd h
  brings_more (rr false n true ∷ gs) h = final_more h
  brings_more (rnr false n true ∷ gs) h = final_more h
  brings_more (g ∷ gs) h = (h.0, brings_more gs h.1)

  pub answered_more : {t : LinkStation} {gs fs : List PlainFrame} → Answered t s gs fs → Answered t z gs (fs ++ es)
  answered_more {fs = fs} h = record { recovery = h.recovery; mild = h.mild; brings = brings_more fs h.brings }

  pub resent_more : {t : LinkStation} {gs fs : List PlainFrame} → Resent t s gs fs → Resent t z gs (fs ++ es)
  resent_more {t} {fs = fs} h = record {
    recovery = h.recovery;
    peer_busy = h.peer_busy;
    ahead = rw (sym same) h.ahead;
    reports = rw (sym same) (reports_more (length s.taken) t.outgoing.acked k.place z.outgoing.place fs es h.reports k.next);
    free = k.free h.free;
  }

  pub withheld_more : {t : LinkStation} {gs fs : List PlainFrame} → Withheld t s gs fs → Withheld t z gs (fs ++ es)
  withheld_more {fs = fs} h = record {
    recovery = h.recovery;
    peer_busy = h.peer_busy;
    mild = h.mild;
    place = h.place ∙ same;
    acked = h.acked ∙ same;
    number = h.number;
    tells = tells_more h.number fs h.tells;
    told = told_more true fs h.told;
  }

-- ---- what a station becomes by RR or RNR that neither asks nor answers, by a poll, by F=1 and by REJ

abbrev readied : Bool → ℕ → LinkStation → Outcome
readied busy nr s = record (goes_on_from nr s) { peer_busy = busy }

abbrev polled : Bool → ℕ → LinkStation → Outcome
polled busy nr s = record (goes_on_from nr s) { peer_busy = busy; said_busy = is_busy s; first = says (is_busy s) false (wanted s) true ∷ [] }

abbrev finished : Bool → ℕ → LinkStation → Outcome
finished busy nr s = record (goes_on_from nr s) { recovery = false; peer_busy = busy; tries = 0; place = heard nr s }

abbrev rejected : ℕ → LinkStation → Outcome
rejected nr s = record (goes_on_from nr s) { peer_busy = false; place = heard nr s }

passed_mild : (s : LinkStation) → Mild (passed_over false s)
passed_mild s = by (is_busy s) s.rejecting
  where
    by : (busy rejecting : Bool) → Mild (if busy then rnr false (wanted s) false ∷ [] else if not rejecting then rej false (wanted s) false ∷ [] else if false
        then rr false (wanted s) true ∷ [] else [])
    by true rejecting = (refl, tt)
    by false true = tt
    by false false = (refl, tt)

confirms_mild : (r : ℕ) (goes : Bool) → Mild (confirms goes false r)
confirms_mild r true = tt
confirms_mild r false = (refl, tt)

answer_mild : (busy : Bool) (nr : ℕ) → Mild (says busy false nr true ∷ [])
answer_mild true nr = (refl, tt)
answer_mild false nr = (refl, tt)

-- what is put once the I frame is taken has the new number
confirms_next : (r n m : ℕ) (goes : Bool) (next : List PlainFrame) → AreNext r n next m → AreNext r n (confirms goes false r ++ next) m
confirms_next r n m true next h = h
confirms_next r n m false next h = (refl, refl, refl, h)

-- ---- a frame comes to an end that is Up, beside another

pub record Beside (c : LinkSettings) (s t : LinkStation) (f : PlainFrame) (octets : List ℕ) : Type 0 where
  pub up : is_up s.phase ≡ true
  pub read : frame_of (other c.role) c.longest octets ≡ Ok f
  pub well : number_in (Ok f) ≡ Some f → HearsWell s t (number_of f)
  pub all : (nr : ℕ) → nr ≡ length t.taken % 8 → heard nr s ≡ length t.taken

-- what the end becomes and sends, and its phase; and the phase of the other end
pub record Went (s t : LinkStation) (fs gs : List PlainFrame) (step : LinkStep) : Type 0 where
  pub o : Outcome
  pub answers : Answers s o step
  pub phase : Phases step.side.near t (fs ++ step.side.out) gs

pub record OtherWent (s t : LinkStation) (fs gs : List PlainFrame) (step : LinkStep) : Type 0 where
  pub o : Outcome
  pub answers : Answers s o step
  pub phase : Phases t step.side.near gs (fs ++ step.side.out)

module _ (c : LinkSettings) (laws : HealingLaws) (busy_laws : BusyLaws) (octets : List ℕ) (s t : LinkStation) where
  abbrev step : LinkStep
  step = take_step c octets s

  abbrev z : LinkStation
  z = step.side.near

  abbrev m : ℕ
  m = z.outgoing.place

  abbrev r : ℕ
  r = length t.taken

  abbrev IsRead : PlainFrame → Type 0
  IsRead f = frame_of (other c.role) c.longest octets ≡ Ok f

  abbrev IsNear : List PlainFrame → List PlainFrame → Type 0
  IsNear fs gs = Went s t fs gs step

  -- V(S) stays but for what is acknowledged, and no I frame goes first
  record Hears (nr : ℕ) (busy : Bool) : Type 0 where
    pub said_busy : Bool
    pub taken : List (List ℕ)
    pub first : List PlainFrame
    pub answers : Answers s (record (goes_on_from nr s) { peer_busy = busy; said_busy = said_busy; taken = taken; first = first }) step
    pub mild : Mild first

  hears_ready : (busy command : Bool) (nr : ℕ) → is_up s.phase ≡ true → IsRead (says busy command nr false) → is_valid nr s ≡ true → Hears nr busy
  hears_ready busy command nr up read valid =
      record {
        said_busy = s.said_busy;
        taken = s.taken;
        first = [];
        answers = laws.answers.ready busy command nr c octets s (is_up_phase s.phase up) read valid;
        mild = tt;
      }

  hears_poll : (busy : Bool) (nr : ℕ) → is_up s.phase ≡ true → IsRead (says busy true nr true) → is_valid nr s ≡ true → Hears nr busy
  hears_poll busy nr up read valid = record {
    said_busy = is_busy s;
    taken = s.taken;
    first = says (is_busy s) false (wanted s) true ∷ [];
    answers = laws.answers.poll busy nr c octets s (is_up_phase s.phase up) read valid;
    mild = answer_mild (is_busy s) (wanted s);
  }

  hears_info : (ns nr : ℕ) (x : List ℕ) → is_up s.phase ≡ true → IsRead (info ns nr false x) → is_valid nr s ≡ true → Hears nr s.peer_busy
  hears_info ns nr x up read valid = by (is_taken ns s) refl
    where
      by : (b : Bool) → is_taken ns s ≡ b → Hears nr s.peer_busy
      by true is =
          let a = laws.answers.wanted ns nr false x c octets s (is_up_phase s.phase up) read valid is in
          let taken = s.taken ++ x ∷ [] in
          record {
            said_busy = if a.0 then s.said_busy else false;
            taken = taken;
            first = confirms a.0 false (length taken);
            answers = a.1.answers;
            mild = confirms_mild (length taken) a.0;
          }
      by false is =
          let a = laws.answers.other ns nr false x c octets s (is_up_phase s.phase up) read valid is in
          record { said_busy = busy_after false s; taken = s.taken; first = passed_over false s; answers = a; mild = passed_mild s }

  abbrev outcome : (nr : ℕ) (busy : Bool) → Hears nr busy → Outcome
  outcome nr busy h = record (goes_on_from nr s) { peer_busy = busy; said_busy = h.said_busy; taken = h.taken; first = h.first }

  -- ---- in recovery no I frame goes

  record Replies : Type 0 where
    pub o : Outcome
    pub answers : Answers s o step
    pub recovery : z.recovery ≡ true
    pub mild : Mild step.side.out

  replied : {nr : ℕ} {busy : Bool} → s.recovery ≡ true → Hears nr busy → Replies
  replied {nr} {busy} recovery h =
      let o = outcome nr busy h in
      let a = h.answers in
      let held = a.held recovery in
      record {
        o = o;
        answers = a;
        recovery = a.recovery ∙ recovery;
        mild = subst Mild (sym a.out) (mild_more h.first a.next h.mild (held_mild (length o.taken) a.next a.sends (omega (arith, held))));
      }

  replies : (g : PlainFrame) → Beside c s t g octets → s.recovery ≡ true → IsNoFinal g → Replies
  replies (info ns nr true x) k recovery is = not_both true refl is
  replies (info ns nr false x) k recovery is = replied recovery (hears_info ns nr x k.up k.read (k.well refl).valid)
  replies (rr true nr true) k recovery is = replied recovery (hears_poll false nr k.up k.read (k.well refl).valid)
  replies (rr false nr true) k recovery is = not_both true refl is
  replies (rr command nr false) k recovery is = replied recovery (hears_ready false command nr k.up k.read (k.well refl).valid)
  replies (rnr true nr true) k recovery is = replied recovery (hears_poll true nr k.up k.read (k.well refl).valid)
  replies g k recovery is = absurd is

  -- ---- what isn't acknowledged goes again

  resends : {fs gs : List PlainFrame} {nr : ℕ} (n : ℕ) {o : Outcome} → Answers s o step → o.recovery ≡ false → o.peer_busy ≡ false → o.acked ≡ heard nr s
      → Ahead r fs n → Ahead n o.first o.place
      → LastTells r nr gs → (nr ≡ r % 8 → heard nr s ≡ r) → is_busy t ≡ false → IsNear fs gs
  resends {fs} {gs} {nr} n {o} a recovery peer_busy acked ahead first tells all free = record {
    o = o;
    answers = a;
    phase = inr (inr (inl (record {
      recovery = a.recovery ∙ recovery;
      peer_busy = a.peer_busy ∙ peer_busy;
      ahead = ahead_more r n m fs step.side.out ahead
          (rw a.out (ahead_more n o.place m o.first a.next first (next_ahead (length o.taken) o.place a.next m a.sends)));
      reports = reports_heard z.outgoing.acked gs tells (λ _ is. a.acked ∙ acked ∙ all is);
      free = free;
    })));
  }

  -- where it was in order before, V(S) stays
  goes_on : {fs gs : List PlainFrame} {nr : ℕ} → Hears nr false → s.recovery ≡ false → Ahead r fs s.outgoing.place → heard nr s ≤ r → LastTells r nr gs
      → (nr ≡ r % 8 → heard nr s ≡ r)
      → is_busy t ≡ false → IsNear fs gs
  goes_on {fs} {gs} {nr} h recovery ahead high tells all free =
      let n = s.outgoing.place in
      let stays : max n (heard nr s) ≡ n = omega (arith, ahead_low r fs ahead, high) in
      resends n h.answers recovery refl refl ahead (subst (Ahead n h.first) (sym stays) (mild_ahead n h.first h.mild)) tells all free

  resent_hears : (fs gs : List PlainFrame) (g : PlainFrame) → Beside c s t g octets → s.recovery ≡ false → s.peer_busy ≡ false → Ahead r fs s.outgoing.place
      → is_busy t ≡ false
      → Reports r s.outgoing.acked (g ∷ gs) → IsNear fs gs
  resent_hears fs gs (info ns nr true x) k recovery peer_busy ahead free reports = not_both true refl reports.0
  resent_hears fs gs (info ns nr false x) k recovery peer_busy ahead free reports =
      goes_on (subst (Hears nr) peer_busy (hears_info ns nr x k.up k.read (k.well refl).valid)) recovery ahead (k.well refl).high reports.1 (k.all nr) free
  resent_hears fs gs (rr true nr true) k recovery peer_busy ahead free reports =
      goes_on (hears_poll false nr k.up k.read (k.well refl).valid) recovery ahead (k.well refl).high reports.1 (k.all nr) free
  resent_hears fs gs (rr false nr true) k recovery peer_busy ahead free reports = not_both true refl reports.0
  resent_hears fs gs (rr command nr false) k recovery peer_busy ahead free reports =
      goes_on (hears_ready false command nr k.up k.read (k.well refl).valid) recovery ahead (k.well refl).high reports.1 (k.all nr) free
  resent_hears fs gs g k recovery peer_busy ahead free reports = absurd reports

  -- ---- nothing but what neither asks nor carries goes to a busy peer

  withholds : {fs gs : List PlainFrame} (nr : ℕ) {o : Outcome} → is_up s.phase ≡ true → Answers s o step → o.recovery ≡ false → o.peer_busy ≡ true → o.acked
      ≡ r → o.place ≡ r → Mild fs → Mild o.first
      → LastTells r nr gs → Told (hears_busy true gs) t → IsNear fs gs
  withholds {fs} nr {o} up a recovery peer_busy acked place mild first tells told =
      let busy : z.peer_busy ≡ true = a.peer_busy ∙ peer_busy in
      let silent : NoInfo (o.first ++ a.next) = subst NoInfo a.out ((busy_laws.take c octets s up a.quiet).held busy) in
      let stays = silent_stays (length o.taken) a.next a.sends (none_behind o.first a.next silent) in
      let next = held_mild (length o.taken) a.next a.sends (omega (arith, stays)) in
      record {
        o = o;
        answers = a;
        phase = inr (inr (inr (inl (record {
          recovery = a.recovery ∙ recovery;
          peer_busy = busy;
          mild = mild_more fs step.side.out mild (subst Mild (sym a.out) (mild_more o.first a.next first next));
          place = stays ∙ place;
          acked = a.acked ∙ acked;
          number = nr;
          tells = tells;
          told = told;
        }))));
      }

  withholds_on : {fs gs : List PlainFrame} {nr : ℕ} → is_up s.phase ≡ true → Hears nr true → HearsWell s t nr → s.recovery ≡ false → s.outgoing.place ≡ r
      → s.outgoing.acked ≡ r → Mild fs
      → LastTells r nr gs → Told (hears_busy true gs) t → IsNear fs gs
  withholds_on {fs} {gs} {nr} up h well recovery place acked mild tells told =
      let all : heard nr s ≡ r = omega (arith, acked, well.low, well.high) in
      let stays : max s.outgoing.place (heard nr s) ≡ r = omega (arith, place, well.high) in
      withholds nr up h.answers recovery refl all stays mild h.mild tells told

  -- it is heard to be busy no more
  free_again : (nr : ℕ) (gs : List PlainFrame) → LastTells r nr gs → Told (hears_busy false gs) t → is_busy t ≡ false
  free_again nr gs tells told = subst (λ b. Told b t) (tells_free r nr gs tells) told

  withheld_hears : (fs gs hs : List PlainFrame) (g : PlainFrame) → Beside c s t g octets → (h : Withheld s t fs hs) → LastTells r h.number (g ∷ gs)
      → Told (hears_busy true (g ∷ gs)) t → IsNear fs gs
  withheld_hears fs gs hs (info ns nr true x) k h tells told = not_both true refl tells.0
  withheld_hears fs gs hs (info ns nr false x) k h tells told =
      withholds_on k.up (subst (Hears nr) h.peer_busy (hears_info ns nr x k.up k.read (k.well refl).valid)) (k.well refl) h.recovery h.place h.acked
      h.mild tells.1 told
  withheld_hears fs gs hs (rr true nr true) k h tells told =
      goes_on (hears_poll false nr k.up k.read (k.well refl).valid) h.recovery (subst (Ahead r fs) (sym h.place) (mild_ahead r fs h.mild)) (k.well refl).high
      tells.1 (k.all nr) (free_again nr gs tells.1 told)
  withheld_hears fs gs hs (rr false nr true) k h tells told = not_both true refl tells.0
  withheld_hears fs gs hs (rr command nr false) k h tells told =
      goes_on (hears_ready false command nr k.up k.read (k.well refl).valid) h.recovery (subst (Ahead r fs) (sym h.place) (mild_ahead r fs h.mild))
      (k.well refl).high tells.1 (k.all nr) (free_again nr gs tells.1 told)
  withheld_hears fs gs hs g k h tells told = absurd tells

  -- the poll of the busy far end, which has all that there is
  rested_hears : (fs gs hs : List PlainFrame) (g : PlainFrame) → Beside c s t g octets → Polled s t fs hs → BusyPolls r (g ∷ gs) → IsNear fs gs
  rested_hears fs (x ∷ gs) hs g k h polls = absurd polls.1
  rested_hears fs [] hs (rnr true nr true) k h polls =
      withholds_on k.up (hears_poll true nr k.up k.read (k.well refl).valid) (k.well refl) h.recovery h.place h.acked (none_mild fs h.none) polls.0 h.told
  rested_hears fs [] hs g k h polls = absurd polls.0

  -- F=1 comes: what isn't acknowledged goes again, or the far end is busy
  answered_hears : (fs gs : List PlainFrame) (g : PlainFrame) → Beside c s t g octets → s.recovery ≡ true → Mild fs → Brings t (g ∷ gs) → IsNear fs gs
  answered_hears fs gs (rr false nr true) k recovery mild brings =
      resends r (laws.answers.recovery false nr c octets s (is_up_phase s.phase k.up) k.read (k.well refl).valid) refl refl refl (mild_ahead r fs mild)
      (sym (k.all nr brings.is))
      brings.tells (k.all nr) (free_again nr gs brings.tells brings.told)
  answered_hears fs gs (rnr false nr true) k recovery mild brings =
      let all = k.all nr brings.is in
      withholds nr k.up (laws.answers.recovery true nr c octets s (is_up_phase s.phase k.up) k.read (k.well refl).valid) refl refl all all mild tt brings.tells
      brings.told
  answered_hears fs gs g k recovery mild brings =
      let a = replies g k recovery brings.0 in
      record {
        o = a.o;
        answers = a.answers;
        phase = inr (inl (record { recovery = a.recovery; mild = mild_more fs step.side.out mild a.mild; brings = brings.1 }));
      }

  pub near_hears : (fs gs : List PlainFrame) (g : PlainFrame) → Beside c s t g octets → Phases s t fs (g ∷ gs) → Went s t fs gs step
  near_hears fs gs g k (inl h) =
      let a = replies g k h.recovery h.heard.0 in
      record {
        o = a.o;
        answers = a.answers;
        phase = inl (record { recovery = a.recovery; asks = asks_more fs step.side.out h.asks a.mild; heard = h.heard.1 });
      }
  near_hears fs gs g k (inr (inl h)) = answered_hears fs gs g k h.recovery h.mild h.brings
  near_hears fs gs g k (inr (inr (inl h))) = resent_hears fs gs g k h.recovery h.peer_busy h.ahead h.free h.reports
  near_hears fs gs g k (inr (inr (inr (inl h)))) = withheld_hears fs gs (g ∷ gs) g k h h.tells h.told
  near_hears fs gs g k (inr (inr (inr (inr h)))) = rested_hears fs gs (g ∷ gs) g k h h.polls

  -- ---- the same frame, for the phase of the other end

  pub stays_free : step.notes ≡ record { down = None; up = false } → is_busy s ≡ false → is_busy z ≡ false
  stays_free quiet free = le-ltb _ _ (omega (arith, ltb-false _ _ free, (laws.sessions.continues c octets s).waits quiet))

  -- it neither asks nor carries anything
  record Plain : Type 0 where
    pub o : Outcome
    pub answers : Answers s o step
    pub more : SaysMore s z step.side.out

  plain_by : {o : Outcome} → is_up s.phase ≡ true → Answers s o step → o.first ≡ [] → o.taken ≡ s.taken → Plain
  plain_by {o} up a first taken = record {
    o = o;
    answers = a;
    more = record {
      taken = a.taken ∙ taken;
      place = o.place;
      next = rw (a.out ∙ ap (λ es. es ++ a.next) first) (subst (λ xs. AreNext (length xs) o.place a.next m) taken a.sends);
      says = busy_laws.take c octets s up a.quiet;
      free = stays_free a.quiet;
    };
  }

  plain_ready : (busy command : Bool) (nr : ℕ) → is_up s.phase ≡ true → IsRead (says busy command nr false) → is_valid nr s ≡ true → Plain
  plain_ready busy command nr up read valid = plain_by up (laws.answers.ready busy command nr c octets s (is_up_phase s.phase up) read valid) refl refl

  plain_final : (busy : Bool) (nr : ℕ) → is_up s.phase ≡ true → IsRead (says busy false nr true) → is_valid nr s ≡ true → Plain
  plain_final busy nr up read valid = plain_by up (laws.answers.recovery busy nr c octets s (is_up_phase s.phase up) read valid) refl refl

  plain : (f : PlainFrame) → Beside c s t f octets → IsMild f → Plain
  plain (rr true nr true) k is = not_both true refl is
  plain (rr false nr true) k is = plain_final false nr k.up k.read (k.well refl).valid
  plain (rr command nr false) k is = plain_ready false command nr k.up k.read (k.well refl).valid
  plain (rnr true nr true) k is = not_both true refl is
  plain (rnr false nr true) k is = plain_final true nr k.up k.read (k.well refl).valid
  plain (rnr command nr false) k is = plain_ready true command nr k.up k.read (k.well refl).valid
  plain (rej command nr true) k is = not_both true refl is
  plain (rej command nr false) k is = plain_by k.up (laws.answers.rej command nr c octets s (is_up_phase s.phase k.up) k.read (k.well refl).valid) refl refl
  plain f k is = absurd is

  abbrev IsFar : List PlainFrame → List PlainFrame → Type 0
  IsFar fs gs = OtherWent s t fs gs step

  -- the poll comes: F=1 goes first, as RR or RNR
  poll_comes : (busy : Bool) (nr : ℕ) {fs gs : List PlainFrame} → is_up s.phase ≡ true → IsRead (says busy true nr true) → is_valid nr s ≡ true → t.recovery
      ≡ true → Mild gs → NoFinal fs → IsFar fs gs
  poll_comes busy nr {fs} up read valid recovery mild heard =
      let o = polled busy nr s in
      let a : Answers s o step = laws.answers.poll busy nr c octets s (is_up_phase s.phase up) read valid in
      let is : wanted s ≡ length z.taken % 8 = ap (λ xs. length xs % 8) (sym a.taken) in
      let next : AreNext (length z.taken) o.place a.next m = subst (λ xs. AreNext (length xs) o.place a.next m) (sym a.taken) a.sends in
      let said : Says s.said_busy z.said_busy (is_busy z) z.peer_busy (says (is_busy s) false (wanted s) true ∷ a.next) =
      subst (Says s.said_busy z.said_busy (is_busy z) z.peer_busy) a.out (busy_laws.take c octets s up a.quiet) in
      record {
        o = o;
        answers = a;
        phase = inr (inl (record {
          recovery = recovery;
          mild = mild;
          brings = brings_behind z fs step.side.out heard (subst (Brings z) (sym a.out) (brings_first (is_busy s) (record {
            is = is;
            tells = next_tells (length z.taken) (wanted s) o.place m a.next is next;
            told = told_first (is_busy s) z (wanted s) a.next said;
          })));
        }));
      }

  polling_heard : (fs gs : List PlainFrame) (f : PlainFrame) → Beside c s t f octets → t.recovery ≡ true → AsksFirst (f ∷ gs) → NoFinal fs → IsFar fs gs
  polling_heard fs gs (rr true nr true) k recovery asks heard = poll_comes false nr k.up k.read (k.well refl).valid recovery asks heard
  polling_heard fs gs (rnr true nr true) k recovery asks heard = poll_comes true nr k.up k.read (k.well refl).valid recovery asks heard
  polling_heard fs gs f k recovery asks heard = absurd asks

  -- the I frame that is wanted comes: it is taken, and its number is told
  info_comes : (ns nr : ℕ) (x : List ℕ) {fs gs hs : List PlainFrame} → is_up s.phase ≡ true → IsRead (info ns nr false x) → is_valid nr s ≡ true
      → Resent t s hs fs → ns ≡ length s.taken % 8
      → Ahead (length s.taken + 1) gs t.outgoing.place → IsFar fs gs
  info_comes ns nr x {fs} up read valid h wants ahead =
      let free = h.free in
      let is : is_taken ns s ≡ true = rw (free, eq-eqb ns (length s.taken % 8) wants) refl in
      let k = laws.answers.wanted ns nr false x c octets s (is_up_phase s.phase up) read valid is in
      let o = once_taken k.0 nr false x s in
      let a : Answers s o step = k.1.answers in
      let more : length z.taken ≡ length s.taken + 1 = ap length a.taken ∙ length-append s.taken (x ∷ []) in
      let next : AreNext (length z.taken) o.place step.side.out m =
      subst (λ es. AreNext (length z.taken) o.place es m) (sym a.out)
      (rw a.taken (confirms_next (length o.taken) o.place m k.0 a.next a.sends)) in
      record {
        o = o;
        answers = a;
        phase = inr (inr (inl (record {
          recovery = h.recovery;
          peer_busy = h.peer_busy;
          ahead = rw more ahead;
          reports = reports_new (length s.taken) (length z.taken) t.outgoing.acked o.place m fs step.side.out h.reports next k.1.speaks;
          free = stays_free a.quiet free;
        })));
      }

  resent_plain : {fs gs hs : List PlainFrame} → Plain → Resent t s hs fs → Ahead (length s.taken) gs t.outgoing.place → IsFar fs gs
  resent_plain {fs} {gs} p h ahead = record {
    o = p.o;
    answers = p.answers;
    phase = inr (inr (inl (resent_more p.more (record { recovery = h.recovery; peer_busy = h.peer_busy; ahead = ahead; reports = h.reports; free = h.free }))));
  }

  resent_heard : {fs : List PlainFrame} (gs : List PlainFrame) {hs : List PlainFrame} (f : PlainFrame) → Beside c s t f octets → Resent t s hs fs
      → Ahead (length s.taken) (f ∷ gs) t.outgoing.place → IsFar fs gs
  resent_heard gs (info ns nr true x) k h ahead = not_both true refl ahead.1
  resent_heard gs (info ns nr false x) k h ahead = info_comes ns nr x k.up k.read (k.well refl).valid h ahead.0 ahead.2
  resent_heard gs (rr command nr pf) k h ahead = resent_plain (plain (rr command nr pf) k ahead.0) h ahead.1
  resent_heard gs (rnr command nr pf) k h ahead = resent_plain (plain (rnr command nr pf) k ahead.0) h ahead.1
  resent_heard gs (rej command nr pf) k h ahead = resent_plain (plain (rej command nr pf) k ahead.0) h ahead.1
  resent_heard gs f k h ahead = absurd ahead

  pub far_hears : (fs gs : List PlainFrame) (f : PlainFrame) → Beside c s t f octets → Phases t s (f ∷ gs) fs → OtherWent s t fs gs step
  far_hears fs gs f k (inl h) = polling_heard fs gs f k h.recovery h.asks h.heard
  far_hears fs gs f k (inr (inl h)) =
      let p = plain f k h.mild.0 in
      record { o = p.o; answers = p.answers; phase = inr (inl (answered_more p.more (record { recovery = h.recovery; mild = h.mild.1; brings = h.brings }))) }
  far_hears fs gs f k (inr (inr (inl h))) = resent_heard gs f k h h.ahead
  far_hears fs gs f k (inr (inr (inr (inl h)))) =
      let p = plain f k h.mild.0 in
      record {
        o = p.o;
        answers = p.answers;
        phase = inr (inr (inr (inl (withheld_more p.more
            (record {
              recovery = h.recovery;
              peer_busy = h.peer_busy;
              mild = h.mild.1;
              place = h.place;
              acked = h.acked;
              number = h.number;
              tells = h.tells;
              told = h.told;
            })))));
      }
  far_hears fs gs f k (inr (inr (inr (inr h)))) = absurd h.none

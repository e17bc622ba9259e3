-- A step of the near end, joined of a step of its link and moves of its layer: in the session that stands, at rest, or as a session begins.
use Rattle.x25_world.proofs.Names.{◌≡◌, ℕ, suc, ◌==◌, ◌≤◌, ◌<◌, ◌⊎◌, inl, inr, List, [], ◌∷◌, ◌++◌, map, true, false, ◌&&◌, if◌then◌else◌, Option, Some, None}
use Rattle.x25_world.proofs.Names.{refl, sym, ap, ap₂, ◌∙◌, subst, append-nil, arith, ne_eqb, Role, Dte, Dce, spelling_of, PlainPacket, restart, is_up, other}
use Rattle.x25_world.proofs.Names.{SessionEnd, Meeting, Sessions, sent_in, octets_of, Name, Layer, LayerNotice, goes_up, restart_cause, AreNoFaults, started}
use Rattle.x25_world.proofs.Names.{OwnMove, own_run, BeginsRestarted, Cfg, settings_from, StationEntry, layer_entries, layer_notices, Station, Step, IsKept}
use Rattle.x25_world.proofs.Names.{World, Act, entered, after_step, entries_at, link_of, Progress, none_begun, after_entries, is_in, session_from, first_of}
use Rattle.x25_world.proofs.Names.{met_by, meets, came_in, Gave, IsGiven, AreSomeOf, confirmed_in, SessionGoes, each_append}
use Rattle.std.proofs.lemmas.Bool.{cases_eq, and_right}
use Rattle.x25_line.specs.laws.Sessions.{extended}
use Rattle.x25_peer.proofs.{ReadLemmas.{layer_append, notices_append}, sessions.LinkSteps.{extended_none}}
use Rattle.x25_world.proofs.Growing.{all_read, as_read, none_read, nothing_read, grown, AllAreOctets, entries_more, entries_other, on_tap, octets_put}
use Rattle.x25_world.proofs.sessions.SessionBeside.{brought, AreTold, told_more, MoreIs, none_more}
use Rattle.x25_world.proofs.sessions.SessionCounts.{counted_in, IsCounted, counted_same, counted_rests, counted_goes}
use Rattle.x25_world.proofs.sessions.SessionEntries.{after_append, session_append, meets_more, meets_other, none_met, AreMute, TellNothing, mute_tell, mute_in}
use Rattle.x25_world.proofs.sessions.SessionEntries.{ArePlain, plain_progress, plain_here, plain_elsewhere, restart_met, elsewhere_met}
use Rattle.x25_world.proofs.sessions.SessionJoined.{HaveAll, IsSession, IsLayer, IsEnd, HasMet, Meets, Hears, PairsAreInOrder, SessionsJoined, Goes, gave_none}
use Rattle.x25_world.proofs.sessions.{SessionReaches.{SessionsReach, Asked, reach_on}, SessionTrace.{same_number, TakeNothing}}
use Rattle.x25_world.proofs.sessions.SessionTrace.{TakesNone, BringOctets, layer_of, Done, moved, own_in, own, own_more, own_same, own_other, own_goes}
use Rattle.x25_line.specs.laws.Sessions as links
use Rattle.x25_layer.specs.laws.TwoLayers as layer

-- ---- lists

pub here_extended : (lists : ℕ → List (List ℕ)) (n : ℕ) (more : List (List ℕ)) → extended lists n more n ≡ lists n ++ more
here_extended lists n more = ap (λ b. if b then lists n ++ more else lists n) (same_number n)

elsewhere_extended : (lists : ℕ → List (List ℕ)) (n m : ℕ) (more : List (List ℕ)) → (n ≡ m → ⊥) → extended lists m more n ≡ lists n
elsewhere_extended lists n m more differs = ap (λ b. if b then lists n ++ more else lists n) (ne_eqb n m differs)

-- one number or another
pub same_or_not : {A : Type 0} (n m : ℕ) → (n ≡ m → A) → ((n ≡ m → ⊥) → A) → A
same_or_not {A} n m same differs = elim (cases_eq n m) [ inl is ↦ same is | inr apart ↦ differs apart ]

pub not_in : (n : ℕ) (p : Progress) → (n ≡ p.begun → ⊥) → is_in n p ≡ false
not_in n p differs = and_right p.stands (n == p.begun) (ne_eqb n p.begun differs)

no_faults_append : (xs ys : List LayerNotice) → AreNoFaults xs → AreNoFaults ys → AreNoFaults (xs ++ ys)
no_faults_append [] ys f g = g
no_faults_append (x ∷ xs) ys f g = (f.0, no_faults_append xs ys f.1 g)

nothing_of : (xs ys : List (List ℕ)) → xs ++ ys ≡ [] → xs ≡ []
nothing_of [] ys e = refl
nothing_of (x ∷ xs) ys e = absurd (cc)

-- ---- entries that aren't the layer's

-- behind them the same session stands, or not; none are of another
pub record IsSilent (p q : Progress) (es : List StationEntry) : Type 0 where
  pub progress : after_entries p es ≡ q
  pub mute : AreMute es
  pub later : (n : ℕ) → (n ≡ q.begun → ⊥) → session_from n p es ≡ []

-- ---- the layer in the session that stands

-- the layer's end goes to this one: it has put and taken these packets, and has entered and told what these entries say
pub record OwnGoes (e f : layer.End) (l : Layer) (put lifted : List PlainPacket) (es : List StationEntry) : Type 0 where
  pub layer : f.layer ≡ l
  pub out : f.is_out ≡ false
  pub given : f.given ≡ e.given ++ put
  pub taken : f.taken ≡ e.taken ++ lifted
  pub entries : f.entries ≡ e.entries ++ layer_entries es
  pub told : f.told ≡ e.told ++ layer_notices es

session_goes : (cfg : Cfg) (e f : layer.End) (l : Layer) (put lifted : List PlainPacket) (handed came : List (List ℕ)) (es before all : List StationEntry)
    (down up down₂ up₂ : List (List ℕ)) → OwnGoes e f l put lifted es
    → IsSession cfg e down up before → all_read cfg handed ≡ as_read put → all_read cfg came ≡ as_read lifted → AreTold (came_in es) (brought cfg came)
    → all ≡ before ++ es → down₂ ≡ down ++ handed → up₂ ≡ up ++ came → IsSession cfg f down₂ up₂ all
session_goes cfg e f l put lifted handed came es before all down up down₂ up₂ o h puts took tells is more_down more_up = record {
  down = grown cfg down down₂ handed e.given f.given put h.down more_down puts o.given;
  up = grown cfg up up₂ came e.taken f.taken lifted h.up more_up took o.taken;
  entries = o.entries ∙ ap (λ l. l ++ layer_entries es) h.entries ∙ sym (layer_append before es) ∙ ap layer_entries (sym is);
  told = o.told ∙ ap (λ l. l ++ layer_notices es) h.told ∙ sym (notices_append before es) ∙ ap layer_notices (sym is);
  beside = told_more cfg before es all up came up₂ h.beside tells is more_up;
}

-- with nothing put or taken, and entries that aren't the layer's
session_rests : (cfg : Cfg) (e f : layer.End) (before all more : List StationEntry) (down up down₂ up₂ : List (List ℕ)) → f ≡ e
    → IsSession cfg e down up before → all ≡ before ++ more → TellNothing more
    → down₂ ≡ down → up₂ ≡ up → IsSession cfg f down₂ up₂ all
session_rests cfg e f before all more down up down₂ up₂ same h is none same_down same_up = record {
  down = ap (all_read cfg) same_down ∙ h.down ∙ ap (λ x. as_read x.given) (sym same);
  up = ap (all_read cfg) same_up ∙ h.up ∙ ap (λ x. as_read x.taken) (sym same);
  entries = ap (λ x. x.entries) same ∙ h.entries ∙ sym (append-nil (layer_entries before)) ∙ ap (λ l. layer_entries before ++ l) (sym none.entered)
      ∙ sym (layer_append before more) ∙ ap layer_entries (sym is);
  told = ap (λ x. x.told) same ∙ h.told ∙ sym (append-nil (layer_notices before)) ∙ ap (λ l. layer_notices before ++ l) (sym none.told)
      ∙ sym (notices_append before more) ∙ ap layer_notices (sym is);
  beside = told_more cfg before more all up [] up₂ h.beside (rw none.beside tt) is (same_up ∙ sym (append-nil up));
}

none_behind : (xs ys : List (List ℕ)) → xs ++ ys ≡ [] → ys ≡ []
none_behind [] ys e = e
none_behind (x ∷ xs) ys e = absurd (cc)

-- ---- the other end

-- its own moves are the same
end_stays : {cfg : Cfg} {end : Role} {s : Station} {k : SessionEnd} {t : List Done} (t₂ : List Done) {es : List StationEntry}
    → ((n : ℕ) → own_in end n t₂ ≡ own_in end n t) → IsEnd cfg end s k t es → IsEnd cfg end s k t₂ es
end_stays {cfg} {end} {k} {t} t₂ {es} same h = record {
  link = h.link;
  kept = h.kept;
  progress = h.progress;
  first = h.first;
  before = h.before;
  sessions = λ n low high. rw (own_stays n) (h.sessions n low high);
  octets = h.octets;
  confirmed = λ n. counted_same cfg end n t t₂ (session_from n none_begun es) (same n) (h.confirmed n);
  later = λ n more. (let nothing = h.later n more in record { moves = same n ∙ nothing.moves; entries = nothing.entries });
  now = λ up. rw (own_stays k.begun) (h.now up);
  alone = λ n none. subst TakeNothing (sym (same n)) (h.alone n none);
  no_fault = h.no_fault;
  first_has_all = h.first_has_all;
}
  where
    own_stays : (n : ℕ) → own cfg end n t₂ ≡ own cfg end n t
    own_stays n = ap (λ l. own_run (layer_of cfg end) l (started (goes_up (layer_of cfg end)))) (same n)

-- ---- who is met

hears_more : (Met Met₂ : ℕ → ℕ → Type 0) {n : ℕ} {up : List (List ℕ)} (up₂ : List (List ℕ)) {old : Option ℕ} (found all : Option ℕ)
    → ((m : ℕ) → Met n m → Met₂ n m) → all ≡ first_of old found
    → (up ≡ [] → ((up₂ ≡ []) × (found ≡ None)) ⊎ Meets Met₂ n found) → Hears Met n up old → Hears Met₂ n up₂ all
hears_more Met Met₂ up₂ found all more is now h = elim h [
  | inl none ↦ elim (now none.0) [
    | inl still ↦ inl (still.0, is ∙ ap (λ o. first_of o found) none.1 ∙ still.1)
    | inr some ↦ inr (record { session = some.session; told = is ∙ ap (λ o. first_of o found) none.1 ∙ some.told; has_met = some.has_met; begun = some.begun })
  ]
  | inr some ↦ inr (record {
    session = some.session;
    told = is ∙ ap (λ o. first_of o found) some.told;
    has_met = more some.session some.has_met;
    begun = some.begun;
  })
]

-- the session that stands is restarted by the other end's latest one
pub record IsNews (n m : ℕ) (met : List Meeting) (notices : List LayerNotice) : Type 0 where
  pub has_met : HasMet n m met
  pub restarts : BeginsRestarted notices
  pub begun : 1 ≤ m

module _ (cfg : Cfg) (end : Role) (w : World) (h : SessionsJoined cfg end w) (step : Step) (left : List links.Entry) (v : Sessions)
    (met : List Meeting) where
  abbrev session : ℕ
  session = h.links.near.begun

  abbrev told_before : List StationEntry
  told_before = entries_at end w.transcript

  abbrev told_there : List StationEntry
  told_there = entries_at (other end) w.transcript

  abbrev standing : Progress
  standing = record { begun = session; stands = is_up w.near.link.phase }

  -- the entries of a session
  session_more : (n : ℕ) → session_from n none_begun (told_before ++ step.entries) ≡ session_from n none_begun told_before
      ++ session_from n standing step.entries
  session_more n =
      session_append n none_begun told_before step.entries
      ∙ ap (λ p. session_from n none_begun told_before ++ session_from n p step.entries) h.near.progress

  all_more : HaveAll (session_from 1 none_begun told_before) told_before → HaveAll (session_from 1 standing step.entries) step.entries
      → HaveAll (session_from 1 none_begun (told_before ++ step.entries)) (told_before ++ step.entries)
  all_more before more = record {
    entries = ap layer_entries (session_more 1) ∙ layer_append (session_from 1 none_begun told_before) (session_from 1 standing step.entries)
        ∙ ap₂ (λ a b. a ++ b) before.entries more.entries ∙ sym (layer_append told_before step.entries);
    told = ap layer_notices (session_more 1) ∙ notices_append (session_from 1 none_begun told_before) (session_from 1 standing step.entries)
        ∙ ap₂ (λ a b. a ++ b) before.told more.told ∙ sym (notices_append told_before step.entries);
  }

  -- entries of the link alone tell nothing in any session
  module _ (mute : AreMute step.entries) where
    silent_in : (n : ℕ) → TellNothing (session_from n standing step.entries)
    silent_in n = mute_tell (session_from n standing step.entries) (mute_in n standing step.entries mute)

    silent_all : HaveAll (session_from 1 standing step.entries) step.entries
    silent_all = (let all = mute_tell step.entries mute in
        record { entries = (silent_in 1).entered ∙ sym all.entered; told = (silent_in 1).told ∙ sym all.told })

    silent_faults : AreNoFaults (layer_notices (told_before ++ step.entries))
    silent_faults = subst AreNoFaults (sym
        (notices_append told_before step.entries ∙ ap (λ ns. layer_notices told_before ++ ns) (mute_tell step.entries mute).told
        ∙ append-nil (layer_notices told_before))) h.near.no_fault

    silent_counts : (n : ℕ) → IsCounted cfg end n h.trace (session_from n none_begun (told_before ++ step.entries))
    silent_counts n = counted_rests cfg end n h.trace (session_from n none_begun told_before) (session_from n standing step.entries)
        (session_from n none_begun (told_before ++ step.entries)) (h.near.confirmed n) (session_more n) (silent_in n).confirmed

  progress_more : after_entries none_begun (told_before ++ step.entries) ≡ after_entries standing step.entries
  progress_more = after_append none_begun told_before step.entries ∙ ap (λ p. after_entries p step.entries) h.near.progress

  abbrev found : ℕ → Option ℕ
  found n = met_by n standing (after_entries none_begun told_there) step.entries

  meets_now : (n : ℕ) → meets end n (w.transcript ++ entered end step.entries) ≡ first_of (meets end n w.transcript) (found n)
  meets_now n = meets_more end n w.transcript step.entries
      ∙ ap (λ p. first_of (meets end n w.transcript) (met_by n p (after_entries none_begun told_there) step.entries)) h.near.progress

  -- the sessions of both ends, where the near end's part is known
  joined_of : (moves : List OwnMove) (at : ℕ) → SessionsReach cfg end v → v.far ≡ h.links.far → v.out ≡ h.links.out ++ sent_in at end step.out → v.back
      ≡ left
      → v.sent ≡ h.links.sent ++ step.out → v.met ≡ met → IsEnd cfg end step.near v.near (h.trace ++ moved end at moves) (told_before ++ step.entries)
      → BringOctets cfg.wide (moved end at moves)
      → PairsAreInOrder cfg end (h.trace ++ moved end at moves) met → ((n m : ℕ) → HasMet n m h.links.met → HasMet n m met)
      → ((n : ℕ) → Hears (λ n m. HasMet n m met) n (v.near.up n) (meets end n (w.transcript ++ entered end step.entries)))
      → SessionsJoined cfg end (after_step (settings_from end cfg) w (octets_of left) step)
  joined_of moves at reach far out same_left sent same_met near octets pairs more hears = record {
    links = v;
    trace = h.trace ++ moved end at moves;
    reach = reach;
    near = rw (entries_more end w.transcript step.entries) near;
    far = rw (entries_other end w.transcript step.entries) (subst (λ k. IsEnd cfg (other end) w.far k (h.trace ++ moved end at moves) told_there) (sym far)
        (end_stays (h.trace ++ moved end at moves) (λ n. own_other end n at h.trace moves) h.far));
    out = ap octets_of out ∙ octets_put h.links.out at end step.out ∙ ap (λ os. os ++ map (spelling_of end) step.out) h.out;
    back = ap octets_of same_left;
    tap = rw sent (on_tap end w.tap h.links.sent step.out h.tap);
    octets = each_append _ h.trace (moved end at moves) h.octets octets;
    pairs = subst (PairsAreInOrder cfg end (h.trace ++ moved end at moves)) (sym same_met) pairs;
    near_hears = λ n. rw same_met (hears n);
    far_hears = λ n. rw same_met (hears_more (λ n m. HasMet m n h.links.met) (λ n m. HasMet m n met) (v.far.up n) None
        (meets (other end) n (w.transcript ++ entered end step.entries)) (λ m has. more m n has)
        (meets_other end n w.transcript step.entries ∙ sym (with_none (meets (other end) n w.transcript)))
        (λ none. inl (ap (λ k. k.up n) far ∙ none, refl)) (h.far_hears n));
  }
    where
      with_none : (o : Option ℕ) → first_of o None ≡ o
      with_none None = refl
      with_none (Some m) = refl

  -- where these octets were handed down in this session
  module _ (b : ℕ) (handed : List (List ℕ)) (down : (n : ℕ) → v.near.down n ≡ extended h.links.near.down b handed n) where
    down_here : v.near.down b ≡ h.links.near.down b ++ handed
    down_here = down b ∙ here_extended h.links.near.down b handed

    down_apart : (n : ℕ) → (n ≡ b → ⊥) → v.near.down n ≡ h.links.near.down n
    down_apart n differs = down n ∙ elsewhere_extended h.links.near.down n b handed differs

    octets_then : AllAreOctets handed → (n : ℕ) → AllAreOctets (v.near.down n)
    octets_then in_octets n = same_or_not n b
        (λ is. rw is (subst AllAreOctets (sym down_here) (each_append _ (h.links.near.down b) handed (h.near.octets b) in_octets)))
        (λ differs. subst AllAreOctets (sym (down_apart n differs)) (h.near.octets n))

    more_then : (gave : ℕ → List Gave) → AreSomeOf IsGiven (brought cfg handed) (gave b) → (n : ℕ) → MoreIs cfg (h.links.near.down n) (v.near.down n) (gave n)
    more_then gave gives n = same_or_not n b
        (λ is. rw is (record { more = handed; is = down_here; given = gives }))
        (λ differs. none_more cfg (h.links.near.down n) (v.near.down n) (gave n) (down_apart n differs))

  -- ---- in the session that stands

  module _ (moves : List OwnMove) (packets lifted : List PlainPacket) (handed came : List (List ℕ)) (puts : all_read cfg handed ≡ as_read packets)
      (took : all_read cfg came ≡ as_read lifted) (in_octets : AllAreOctets handed)
      (g : SessionGoes (link_of cfg end) h.links v session step.near.link step.out handed came left met)
      (o : OwnGoes (own cfg end session h.trace) (own_run (layer_of cfg end) moves (own cfg end session h.trace)) step.near.layer packets lifted step.entries)
      (up : is_up w.near.link.phase ≡ true)
      (still : is_up step.near.link.phase ≡ true) (plain : ArePlain step.entries) (kept : IsKept step.near)
      (tells : AreTold (came_in step.entries) (brought cfg came)) (gave : ℕ → List Gave) (gives : AreSomeOf IsGiven (brought cfg handed) (gave session))
      (counts : (k : ℕ) (name : Name) → confirmed_in k name step.entries ≤ counted_in (layer_of cfg end) k name moves (own cfg end session h.trace)) where
    abbrev trace_on : List Done
    trace_on = h.trace ++ moved end session moves

    stands_here : is_in session standing ≡ true
    stands_here = ap (λ b. b && (session == session)) up ∙ same_number session

    own_elsewhere : (n : ℕ) → (n ≡ session → ⊥) → own cfg end n trace_on ≡ own cfg end n h.trace
    own_elsewhere n differs = ap (λ l. own_run (layer_of cfg end) l (started (goes_up (layer_of cfg end)))) (own_same end n session h.trace moves differs)

    up_here : v.near.up session ≡ h.links.near.up session ++ came
    up_here = g.up session ∙ here_extended h.links.near.up session came

    up_elsewhere : (n : ℕ) → (n ≡ session → ⊥) → v.near.up n ≡ h.links.near.up n
    up_elsewhere n differs = g.up n ∙ elsewhere_extended h.links.near.up n session came differs

    down_elsewhere : (n : ℕ) → (n ≡ session → ⊥) → v.near.down n ≡ h.links.near.down n
    down_elsewhere n differs = down_apart session handed g.down n differs

    abbrev IsSessionOn : ℕ → Type 0
    IsSessionOn n = IsSession cfg (own cfg end n trace_on) (v.near.down n) (v.near.up n) (session_from n none_begun (told_before ++ step.entries))

    session_here : IsSessionOn session
    session_here =
        session_goes cfg (own cfg end session h.trace) (own cfg end session trace_on) step.near.layer packets lifted handed came step.entries
        (session_from session none_begun told_before)
        (session_from session none_begun (told_before ++ step.entries)) (h.links.near.down session) (h.links.near.up session) (v.near.down session)
        (v.near.up session)
        (rw (own_goes cfg end session h.trace moves) o)
        (h.near.sessions session (h.near.first up) (omega arith)) puts took tells
        (session_more session ∙ ap (λ l. session_from session none_begun told_before ++ l) (plain_here session standing step.entries plain stands_here))
        (down_here session handed g.down) up_here

    session_elsewhere : (n : ℕ) → 1 ≤ n → n ≤ session → (n ≡ session → ⊥) → IsSessionOn n
    session_elsewhere n low high differs =
        session_rests cfg (own cfg end n h.trace) (own cfg end n trace_on) (session_from n none_begun told_before)
        (session_from n none_begun (told_before ++ step.entries)) []
        (h.links.near.down n) (h.links.near.up n) (v.near.down n) (v.near.up n) (own_elsewhere n differs) (h.near.sessions n low high)
        (session_more n ∙ ap (λ l. session_from n none_begun told_before ++ l) (plain_elsewhere n standing step.entries plain (not_in n standing differs)))
        (mute_tell [] tt) (down_elsewhere n differs) (up_elsewhere n differs)

    -- what is told as confirmed the moves confirm
    counted_on : (n : ℕ) → IsCounted cfg end n trace_on (session_from n none_begun (told_before ++ step.entries))
    counted_on n = same_or_not n session
        (λ is. rw is (counted_goes cfg end session h.trace moves (session_from session none_begun told_before) step.entries
        (session_from session none_begun (told_before ++ step.entries)) (h.near.confirmed session)
        (session_more session ∙ ap (λ l. session_from session none_begun told_before ++ l) (plain_here session standing step.entries plain stands_here))
        counts))
        (λ differs. counted_same cfg end n h.trace trace_on (session_from n none_begun (told_before ++ step.entries))
        (own_same end n session h.trace moves differs)
        (counted_rests cfg end n h.trace (session_from n none_begun told_before) [] (session_from n none_begun (told_before ++ step.entries))
        (h.near.confirmed n)
        (session_more n ∙ ap (λ l. session_from n none_begun told_before ++ l) (plain_elsewhere n standing step.entries plain (not_in n standing differs)))
        (λ k name. refl)))

    nothing_taken : (lifted ≡ [] → TakeNothing moves) → (n : ℕ) → v.near.up n ≡ [] → TakeNothing (own_in end n trace_on)
    nothing_taken alone n none = same_or_not n session here elsewhere
      where
        elsewhere : (n ≡ session → ⊥) → TakeNothing (own_in end n trace_on)
        elsewhere differs = subst TakeNothing (sym (own_same end n session h.trace moves differs)) (h.near.alone n (sym (up_elsewhere n differs) ∙ none))

        at_session : v.near.up session ≡ [] → TakeNothing (own_in end session trace_on)
        at_session none =
            let both = sym up_here ∙ none in
            subst TakeNothing (sym (own_more end session h.trace moves))
            (each_append TakesNone (own_in end session h.trace) moves (h.near.alone session (nothing_of (h.links.near.up session) came both))
            (alone (none_read lifted (sym took ∙ ap (all_read cfg) (none_behind (h.links.near.up session) came both)))))

        here : n ≡ session → TakeNothing (own_in end n trace_on)
        here is = rw is (at_session (ap v.near.up (sym is) ∙ none))

    near_goes_on : (lifted ≡ [] → TakeNothing moves) → AreNoFaults (layer_notices step.entries)
        → IsEnd cfg end step.near v.near trace_on (told_before ++ step.entries)
    near_goes_on alone no_fault = record {
      link = g.station;
      kept = kept;
      progress = progress_more ∙ plain_progress standing step.entries plain ∙ ap₂ (λ n b. record { begun = n; stands = b }) (sym g.begun) (up ∙ sym still);
      first = λ _. rw g.begun (h.near.first up);
      before = (
        down_elsewhere 0 none ∙ h.near.before.0,
        up_elsewhere 0 none ∙ h.near.before.1,
      );
      sessions = λ n low high. (let most = subst (λ m. n ≤ m) g.begun high in
          same_or_not n session (λ is. subst IsSessionOn (sym is) session_here) (λ differs. session_elsewhere n low most differs));
      octets = octets_then session handed g.down in_octets;
      confirmed = counted_on;
      later = λ n more. (let above = subst (λ m. m < n) g.begun more in
          let differs : n ≡ session → ⊥ = λ is. omega (arith, above, is) in
          let nothing = h.near.later n above in
          record {
            moves = own_same end n session h.trace moves differs ∙ nothing.moves;
            entries = session_more n ∙ ap₂ (λ a b. a ++ b) nothing.entries (plain_elsewhere n standing step.entries plain (not_in n standing differs));
          });
      now = λ _. rw g.begun (subst (λ e. IsLayer e step.near) (sym (own_goes cfg end session h.trace moves)) (record { layer = o.layer; out = o.out }));
      alone = nothing_taken alone;
      no_fault = subst AreNoFaults (sym (notices_append told_before step.entries))
          (no_faults_append (layer_notices told_before) (layer_notices step.entries) h.near.no_fault no_fault);
      first_has_all = λ low. (let most = subst (λ n. n ≤ 1) g.begun low in
          let one : session ≡ 1 = omega (arith, h.near.first up, most) in
          let all = plain_here 1 standing step.entries plain (rw (sym one) stands_here) in
          all_more (h.near.first_has_all most) (record { entries = ap layer_entries all; told = ap layer_notices all }));
    }
      where
        none : 0 ≡ session → ⊥
        none is = (omega (arith, h.near.first up, is))

    abbrev HasMetOn : ℕ → ℕ → Type 0
    HasMetOn n m = HasMet n m met

    abbrev all_of : ℕ → Option ℕ
    all_of n = meets end n (w.transcript ++ entered end step.entries)

    pub goes_on : {act : Act} → Asked cfg end w act h.links v → (lifted ≡ [] → TakeNothing moves) → AreNoFaults (layer_notices step.entries)
        → BringOctets cfg.wide (moved end session moves)
        → PairsAreInOrder cfg end trace_on met → ((n m : ℕ) → HasMet n m h.links.met → HasMet n m met)
        → ((own cfg end session h.trace).taken ≡ [] → ((lifted ≡ []) × (layer_notices step.entries ≡ []))
        ⊎ IsNews session h.links.far.begun met (layer_notices step.entries))
        → Goes cfg end w act h.links gave (after_step (settings_from end cfg) w (octets_of left) step)
    unfolding joined_of
    goes_on asked alone no_fault octets pairs more news = record {
      joined = joined_of moves session (reach_on h.reach asked.leads) g.far g.out g.back g.sent g.met (near_goes_on alone no_fault) octets pairs more hears;
      asked = asked;
      down = more_then session handed g.down gave gives;
      far = g.far;
    }
      where
        far_begun : (after_entries none_begun told_there).begun ≡ h.links.far.begun
        far_begun = ap (λ p. p.begun) h.far.progress

        here : h.links.near.up session ≡ [] → ((v.near.up session ≡ []) × (found session ≡ None)) ⊎ Meets HasMetOn session (found session)
        here none = elim (news (none_read (own cfg end session h.trace).taken
            (sym (h.near.sessions session (h.near.first up) (omega arith)).up ∙ ap (all_read cfg) none))) [
              | inl still ↦ inl (
                up_here ∙ ap₂ (λ xs ys. xs ++ ys) none (nothing_read cfg came (took ∙ ap as_read still.0)),
                none_met session standing (after_entries none_begun told_there) step.entries still.1,
              )
              | inr new ↦ inr (record {
                session = h.links.far.begun;
                told = restart_met session standing (after_entries none_begun told_there) step.entries plain stands_here new.restarts
                    ∙ ap (λ m. Some m) far_begun;
                has_met = new.has_met;
                begun = (h.near.first up, new.begun);
              })
            ]

        elsewhere : (n : ℕ) → (n ≡ session → ⊥) → h.links.near.up n ≡ [] → ((v.near.up n ≡ []) × (found n ≡ None)) ⊎ Meets HasMetOn n (found n)
        elsewhere n differs none =
            inl (up_elsewhere n differs ∙ none, elsewhere_met n standing (after_entries none_begun told_there) step.entries plain (not_in n standing differs))

        now : (n : ℕ) → h.links.near.up n ≡ [] → ((v.near.up n ≡ []) × (found n ≡ None)) ⊎ Meets HasMetOn n (found n)
        now n = same_or_not n session
            (λ is. rw is here)
            (λ differs. elsewhere n differs)

        hears : (n : ℕ) → Hears HasMetOn n (v.near.up n) (all_of n)
        hears n =
            hears_more (λ n m. HasMet n m h.links.met) HasMetOn (v.near.up n) (found n) (all_of n) (λ m has. more n m has) (meets_now n) (now n)
            (h.near_hears n)

  -- ---- where nothing is asked of the layer

  -- Entries that aren't the layer's: this session stands then, or none, and these octets were handed down in it.
  module _ (b : ℕ) (handed : List (List ℕ)) (g : SessionGoes (link_of cfg end) h.links v b step.near.link step.out handed [] left met)
      (silent : IsSilent standing (record { begun = b; stands = is_up step.near.link.phase }) step.entries) where
    up_same : (n : ℕ) → v.near.up n ≡ h.links.near.up n
    up_same n = g.up n ∙ extended_none h.links.near.up b n

    abbrev IsSessionThen : ℕ → Type 0
    IsSessionThen n = IsSession cfg (own cfg end n h.trace) (v.near.down n) (v.near.up n) (session_from n none_begun (told_before ++ step.entries))

    session_stays : (n : ℕ) → 1 ≤ n → n ≤ session → v.near.down n ≡ h.links.near.down n → IsSessionThen n
    session_stays n low high same_down =
        session_rests cfg (own cfg end n h.trace) (own cfg end n h.trace) (session_from n none_begun told_before)
        (session_from n none_begun (told_before ++ step.entries)) (session_from n standing step.entries)
        (h.links.near.down n) (h.links.near.up n) (v.near.down n) (v.near.up n) refl (h.near.sessions n low high) (session_more n) (silent_in silent.mute n)
        same_down (up_same n)

    module _ (in_octets : AllAreOctets handed) (latest : session ≤ b) (one_more : b ≤ suc session) (before : v.near.down 0 ≡ h.links.near.down 0)
        (here : 1 ≤ b → IsSessionThen b)
        (stands : is_up step.near.link.phase ≡ true → (1 ≤ b) × IsLayer (own cfg end b h.trace) step.near) (kept : IsKept step.near) where
      near_quietly : IsEnd cfg end step.near v.near h.trace (told_before ++ step.entries)
      near_quietly = record {
        link = g.station;
        kept = kept;
        progress = progress_more ∙ silent.progress ∙ ap (λ n. record { begun = n; stands = is_up step.near.link.phase }) (sym g.begun);
        first = λ still. rw g.begun (stands still).0;
        before = (before ∙ h.near.before.0, up_same 0 ∙ h.near.before.1);
        sessions = λ n low high. (let most = subst (λ m. n ≤ m) g.begun high in
            same_or_not n b (λ is. subst IsSessionThen (sym is) (here (rw (sym is) low)))
            (λ differs. session_stays n low (omega (arith, most, differs, one_more)) (down_apart b handed g.down n differs)));
        octets = octets_then b handed g.down in_octets;
        confirmed = silent_counts silent.mute;
        later = λ n more. (let above = subst (λ m. m < n) g.begun more in
            let nothing = h.near.later n (omega (arith, above, latest)) in
            record {
              moves = nothing.moves;
              entries = session_more n
                  ∙ ap₂ (λ xs ys. xs ++ ys) nothing.entries (silent.later n (λ is. omega (arith, above, is)));
            });
        now = λ still. rw g.begun (stands still).1;
        alone = λ n none. h.near.alone n (sym (up_same n) ∙ none);
        no_fault = silent_faults silent.mute;
        first_has_all = λ low. (let most = subst (λ n. n ≤ 1) g.begun low in
            all_more (h.near.first_has_all (omega (arith, most, latest))) (silent_all silent.mute));
      }

      quietly : {act : Act} → Asked cfg end w act h.links v → PairsAreInOrder cfg end h.trace met → ((n m : ℕ) → HasMet n m h.links.met → HasMet n m met)
          → brought cfg handed ≡ []
          → Goes cfg end w act h.links gave_none (after_step (settings_from end cfg) w (octets_of left) step)
      unfolding joined_of
      quietly asked pairs more bring_none = record {
        joined = joined_of [] b (reach_on h.reach asked.leads) g.far g.out g.back g.sent g.met (rw (append-nil h.trace) near_quietly) tt
            (rw (append-nil h.trace) pairs) more
            (λ n. hears_more (λ n m. HasMet n m h.links.met) (λ n m. HasMet n m met) (v.near.up n) (found n)
            (meets end n (w.transcript ++ entered end step.entries)) (λ m has. more n m has) (meets_now n)
            (λ none. inl (up_same n ∙ none, none_met n standing (after_entries none_begun told_there) step.entries (mute_tell step.entries silent.mute).told))
            (h.near_hears n));
        asked = asked;
        down = more_then b handed g.down gave_none (rw bring_none tt);
        far = g.far;
      }

  -- the session that stands has gone on so
  pub rests : {act : Act} → SessionGoes (link_of cfg end) h.links v session step.near.link step.out [] [] left met
      → IsSilent standing (record { begun = session; stands = is_up step.near.link.phase }) step.entries
      → (is_up step.near.link.phase ≡ true → (is_up w.near.link.phase ≡ true) × (step.near.layer ≡ w.near.layer)) → IsKept step.near
      → Asked cfg end w act h.links v → PairsAreInOrder cfg end h.trace met
      → ((n m : ℕ) → HasMet n m h.links.met → HasMet n m met)
      → Goes cfg end w act h.links gave_none (after_step (settings_from end cfg) w (octets_of left) step)
  rests g silent layer_stays kept asked pairs more =
      let same : (n : ℕ) → v.near.down n ≡ h.links.near.down n = λ n. g.down n ∙ extended_none h.links.near.down session n in
      quietly session [] g silent tt (omega arith) (omega arith) (same 0) (λ low. session_stays session [] g silent session low (omega arith) (same session))
      (λ still. (let before = layer_stays still in let old = h.near.now before.0 in
      (h.near.first before.0, record { layer = old.layer ∙ sym before.1; out = old.out }))) kept asked pairs more refl

  -- or the next begins
  module _ (handed : List (List ℕ)) (puts : all_read cfg handed ≡ as_read (restart (restart_cause end) 0 ∷ [])) (in_octets : AllAreOctets handed)
      (bring_none : brought cfg handed ≡ [])
      (g : SessionGoes (link_of cfg end) h.links v (suc session) step.near.link step.out handed [] left met)
      (begins : IsSilent standing (record { begun = suc session; stands = true }) step.entries)
      (fresh : (n : ℕ) → session < n → (h.links.near.down n ≡ []) × (h.links.near.up n ≡ [])) (still : is_up step.near.link.phase ≡ true)
      (layer_begins : step.near.layer ≡ (goes_up (layer_of cfg end)).next) (kept : IsKept step.near) where
    abbrev the_next : ℕ
    the_next = suc session

    own_afresh : own cfg end the_next h.trace ≡ started (goes_up (layer_of cfg end))
    own_afresh = ap (λ l. own_run (layer_of cfg end) l (started (goes_up (layer_of cfg end)))) (h.near.later the_next (omega arith)).moves

    next_session : IsSession cfg (own cfg end the_next h.trace) (v.near.down the_next) (v.near.up the_next)
        (session_from the_next none_begun (told_before ++ step.entries))
    next_session =
        let nothing = fresh the_next (omega arith) in
        let up = g.up the_next ∙ extended_none h.links.near.up the_next the_next ∙ nothing.1 in
        let all : session_from the_next none_begun (told_before ++ step.entries) ≡ session_from the_next standing step.entries =
        session_more the_next ∙ ap (λ l. l ++ session_from the_next standing step.entries) (h.near.later the_next (omega arith)).entries in
        subst (λ e. IsSession cfg e (v.near.down the_next) (v.near.up the_next) (session_from the_next none_begun (told_before ++ step.entries)))
        (sym own_afresh) (record {
          down = ap (all_read cfg) (down_here the_next handed g.down ∙ ap (λ l. l ++ handed) nothing.0) ∙ puts ∙ by_role end;
          up = ap (all_read cfg) up;
          entries = sym (ap layer_entries all ∙ (silent_in begins.mute the_next).entered);
          told = sym (ap layer_notices all ∙ (silent_in begins.mute the_next).told);
          beside = rw (ap came_in all ∙ (silent_in begins.mute the_next).beside) tt;
        })
      where
        by_role : (end : Role) → as_read (restart (restart_cause end) 0 ∷ []) ≡ as_read (started (goes_up (layer_of cfg end))).given
        by_role Dte = refl
        by_role Dce = refl

    pub begins_session : {act : Act} → Asked cfg end w act h.links v → PairsAreInOrder cfg end h.trace met
        → ((n m : ℕ) → HasMet n m h.links.met → HasMet n m met)
        → Goes cfg end w act h.links gave_none (after_step (settings_from end cfg) w (octets_of left) step)
    begins_session asked pairs more =
        quietly the_next handed g (rw still begins) in_octets (omega arith) (omega arith)
        (down_apart the_next handed g.down 0 (λ is. omega (arith, is))) (λ low. next_session)
        (λ up. (omega arith, subst (λ e. IsLayer e step.near) (sym own_afresh) (record { layer = sym layer_begins; out = refl }))) kept asked pairs more
        bring_none

-- A program joined to any peer, and a station beside that peer: what the program reads is what the station does.
use Rattle.x25_joined.proofs.Names.{◌≡◌, ◌∙◌, ℕ, suc, ◌+◌, ◌≤◌, ◌<◌, Bool, true, false, ◌&&◌, nat_le, List, [], ◌∷◌, ◌++◌, map, Option, Some, None}
use Rattle.x25_joined.proofs.Names.{append_assoc, append-nil, ap, sym, subst, refl, arith, other, Role, spelling_of, ReadsOctets, IsOpen, Cfg, StationEntry}
use Rattle.x25_joined.proofs.Names.{Settings, settings_from, Station, new_station, Step, Outcome, Did, Refused, commands, fires, StationEvent, Comes, Asks}
use Rattle.x25_joined.proofs.Names.{Fires, Saying, with_pulls, event_in, turn, piped, ups_in, AreOfFrame, written, entries_in, frames_in}
use Rattle.std.proofs.{Common.{zero, ◌==◌, if◌then◌else◌, ap₂, eq-eqb}, lemmas.Bool.{eqb-true, leb-true}}
use Rattle.x25_frame.specs.Frame.{PlainFrame}
use Rattle.x25_joined.proofs.{AskedOctets.{AsksOctets, asks_octets}, FrameText.{frame_words, frame_text, frame_open, frame_comes}}
use Rattle.x25_joined.proofs.LineText.{AreWhole, none_whole, more_whole, one_more, said_more, first_said}
use Rattle.x25_joined.proofs.PeerEntries.{ups_append, ends_ups, commands_ups, fires_ups}
use Rattle.x25_joined.proofs.Turns.{entries-append, TurnIs, first_is, line_did, line_refused, line_none}
use Rattle.x25_joined.specs.laws.BesidePeer.{Program, nothing_read, begun_in, seen, bare, sent_then, reads, IsInTime, HappensToProgram, Reads, Takes, Elsewhere}
use Rattle.x25_joined.specs.laws.{BesidePeer.{ReachedProgram, at_start, goes_on}, BesidePeerClaims.{entries_to, OfProgram}}
use Rattle.x25_joined.specs.laws.Joined.{written_more, station_of, IsNoFrame}
use Rattle.x25_layer.specs.Calls.{PullsAll}
use Rattle.x25_line.specs.laws.Sessions.{Entry, Meeting, sent_in, begun_by}
use Rattle.x25_peer.specs.laws.BesideSessions.{Own, BesideSessions, in_session, own_anew, own_after, stepped, acted, took, met_by}
use Rattle.x25_pipe.specs.Pipe.{pulled_behind, and_pulls}
use Rattle.x25_station.specs.{Command.{Command, Requests, RequestsWith, Connects, Disconnects, Probes, Relinks}, Config.{config_refusal}}
use Rattle.x25_station.specs.{Step.{link_receives, receives}, laws.TimerLaw.{outcome}}
use Rattle.x25_world.proofs.sessions.acts.SessionRequests.{said_octets}
use Rattle.x25_station.specs.declared.error.StationError.TheVariants as error
use Rattle.x25_station.specs.Command as command
use Rattle.x25_peer.specs.laws.BesideSessions as beside
use Rattle.x25_peer.specs.laws.BesideSessionClaims as over_sessions

-- ---- the entries of sessions

below_same : (n s : ℕ) (x : Own) (own : ℕ → Own) → n < s → entries_to n (in_session s x own) ≡ entries_to n own
below_same n s x own low = by n low
  where
    other_session : (i : ℕ) (b : Bool) → (i == s) ≡ b → i < s → (if b then x else own i).entries ≡ (own i).entries
    other_session i true is low = absurd (never i (eqb-true i s is) low)
      where
        never : (i : ℕ) → i ≡ s → i < s → ⊥
        never i e lt = omega (arith, e, lt)
    other_session i false is low = refl

    by : (n : ℕ) → n < s → entries_to n (in_session s x own) ≡ entries_to n own
    by zero low = other_session 0 (0 == s) refl low
    by (suc n) low = ap₂ (λ (xs ys : List StationEntry). xs ++ ys) (by n (omega (arith, low))) (other_session (suc n) (suc n == s) refl low)

here_same : (s : ℕ) (x : Own) (own : ℕ → Own) → (in_session s x own s).entries ≡ x.entries
here_same s x own = ap (λ (b : Bool). (if b then x else own s).entries) (eq-eqb s s refl)

-- more in the session that stands
more_here : (n : ℕ) (x : Own) (own : ℕ → Own) (es : List StationEntry) → x.entries ≡ (own n).entries ++ es → entries_to n (in_session n x own)
    ≡ entries_to n own ++ es
more_here zero x own es is = here_same 0 x own ∙ is
more_here (suc n) x own es is =
    ap₂ (λ (xs ys : List StationEntry). xs ++ ys) (below_same n (suc n) x own (omega (arith))) (here_same (suc n) x own ∙ is)
    ∙ sym (append_assoc (entries_to n own) (own (suc n)).entries es)

-- or in the next
more_next : (n : ℕ) (x : Own) (own : ℕ → Own) (es : List StationEntry) → (own (suc n)).entries ≡ [] → x.entries ≡ (own (suc n)).entries ++ es
    → entries_to (suc n) (in_session (suc n) x own) ≡ entries_to n own ++ es
more_next n x own es none is =
    ap₂ (λ (xs ys : List StationEntry). xs ++ ys) (below_same n (suc n) x own (omega (arith)))
    (here_same (suc n) x own ∙ is ∙ ap (λ (l : List StationEntry). l ++ es) none)

-- ---- what is kept of a station beside the peer

-- it is reached, these are the entries of its sessions, and those that aren't begun have none
record KeptWorld (c : Settings) (w : BesideSessions) (es : List StationEntry) : Type 0 where
  reached : beside.ReachedBeside c w
  entries : entries_to w.begun w.own ≡ es
  later : (n : ℕ) → w.begun < n → (w.own n).entries ≡ []

-- the station steps, in the session that stands or as the next begins
kept_steps : (c : Settings) (w : BesideSessions) (es : List StationEntry) (up : Bool) (left : List Entry) (met : List Meeting) (step : Step) → KeptWorld c w es
    → beside.ReachedBeside c (stepped c w (begun_by up w.begun) left met step)
    → KeptWorld c (stepped c w (begun_by up w.begun) left met step) (es ++ step.entries)
kept_steps c w es up left met step k reached = record {
  reached = reached;
  entries = by up ∙ ap (λ (l : List StationEntry). l ++ step.entries) k.entries;
  later = λ n over. later n (n == begun_by up w.begun) refl over;
}
  where
    by : (up : Bool) → entries_to (begun_by up w.begun) (stepped c w (begun_by up w.begun) left met step).own ≡ entries_to w.begun w.own ++ step.entries
    by true = more_next w.begun (own_after (w.own (suc w.begun)) step) w.own step.entries (k.later (suc w.begun) (omega (arith))) refl
    by false = more_here w.begun (own_after (w.own w.begun) step) w.own step.entries refl

    lower : (up : Bool) (b n : ℕ) → begun_by up b < n → b < n
    lower true b n over = omega (arith, over)
    lower false b n over = over

    later : (n : ℕ) (b : Bool) → (n == begun_by up w.begun) ≡ b → begun_by up w.begun < n
        → (if b then own_after (w.own (begun_by up w.begun)) step else w.own n).entries ≡ []
    later n true is over = absurd (never (eqb-true n (begun_by up w.begun) is))
      where
        never : n ≡ begun_by up w.begun → ⊥
        never e = omega (arith, e, over)
    later n false is over = k.later n (lower up w.begun n over)

-- ---- of a program

record Kept (c : Settings) (p : Program) : Type 0 where
  own : ℕ → Own
  whole : AreWhole p.read
  world : KeptWorld c (seen c own p) (entries_in (written c p.read))

sent_is : (session : ℕ) (role : Role) (fs : List PlainFrame) → sent_then session (map (spelling_of role) fs) ≡ sent_in session role fs
sent_is session role [] = refl
sent_is session role (f ∷ fs) = ap (λ (es : List Entry). record { session = session; octets = spelling_of role f } ∷ es) (sent_is session role fs)

sent_more : (session : ℕ) (role : Role) (fs gs : List PlainFrame) → sent_in session role (fs ++ gs) ≡ sent_in session role fs ++ sent_in session role gs
sent_more session role [] gs = refl
sent_more session role (f ∷ fs) gs = ap (λ (es : List Entry). record { session = session; octets = spelling_of role f } ∷ es) (sent_more session role fs gs)

module _ (c : Settings) (p : Program) (k : Kept c p) where
  abbrev s : Station
  s = station_of c p.read

  abbrev b : ℕ
  b = begun_in c p.read

  abbrev w : BesideSessions
  w = seen c k.own p

  -- it has read a line more, and the station has come here
  line_kept : (line : List ℕ) → IsOpen line → (left : List Entry) (met : List Meeting) (step : Step) (session : ℕ) (own : ℕ → Own)
      → TurnIs (turn c line s) step.near step.entries (map (spelling_of c.role) step.out) → session ≡ b + ups_in step.entries
      → KeptWorld c (record {
        near = step.near;
        begun = session;
        own = own;
        peer = p.peer;
        theirs = p.theirs;
        out = p.out ++ sent_in session c.role step.out;
        back = left;
        met = met;
      }) (entries_in (written c p.read) ++ step.entries)
      → Kept c (reads c p (line ++ 10 ∷ []) left met)
  line_kept line none left met step session own is ups kept =
      let text : List ℕ = p.read ++ (line ++ 10 ∷ []) in
      let more : List Saying = (turn c line (piped c p.read).next).sayings in
      let all : written c text ≡ written c p.read ++ more = ap (λ t. t.sayings) (one_more c p.read line k.whole none) in
      let near : station_of c text ≡ step.near = ap (λ t. t.next) (one_more c p.read line k.whole none) ∙ is.next in
      let entries : entries_in (written c text) ≡ entries_in (written c p.read) ++ step.entries =
      ap entries_in all ∙ entries-append (written c p.read) more ∙ ap (λ (es : List StationEntry). entries_in (written c p.read) ++ es) is.entries in
      let begun : begun_in c text ≡ session = ap ups_in entries ∙ ups_append (entries_in (written c p.read)) step.entries ∙ sym ups in
      let frames : frames_in (written_more c p.read (line ++ 10 ∷ [])) ≡ map (spelling_of c.role) step.out =
      ap frames_in (said_more c p.read line k.whole none) ∙ is.frames in
      let sent : sent_then (begun_in c text) (frames_in (written_more c p.read (line ++ 10 ∷ []))) ≡ sent_in session c.role step.out =
      ap₂ (λ (n : ℕ) (fs : List (List ℕ)). sent_then n fs) begun frames ∙ sent_is session c.role step.out in
      record {
        own = own;
        whole = more_whole p.read line k.whole none;
        world = subst (λ (es : List StationEntry). KeptWorld c (seen c own (reads c p (line ++ 10 ∷ []) left met)) es) (sym entries)
            (subst (λ (x : Station). KeptWorld c
            (record {
              near = x;
              begun = begun_in c text;
              own = own;
              peer = p.peer;
              theirs = p.theirs;
              out = p.out
                  ++ sent_then (begun_in c text) (frames_in (written_more c p.read (line ++ 10 ∷ [])));
              back = left;
              met = met;
            })
            (entries_in (written c p.read) ++ step.entries)) (sym near)
            (subst (λ (n : ℕ). KeptWorld c (record {
              near = step.near;
              begun = n;
              own = own;
              peer = p.peer;
              theirs = p.theirs;
              out = p.out
                  ++ sent_then (begun_in c text) (frames_in (written_more c p.read (line ++ 10 ∷ [])));
              back = left;
              met = met;
            })
            (entries_in (written c p.read) ++ step.entries)) (sym begun)
            (subst (λ (es : List Entry). KeptWorld c
            (record { near = step.near; begun = session; own = own; peer = p.peer; theirs = p.theirs; out = p.out ++ es; back = left; met = met })
            (entries_in (written c p.read) ++ step.entries)) (sym sent) kept)));
      }

  -- nothing happens
  nothing_happens : (line : List ℕ) → IsOpen line → TurnIs (turn c line s) s [] [] → Kept c (reads c p (line ++ 10 ∷ []) p.back p.met)
  nothing_happens line none is =
      let still : Step = record { near = s; out = []; entries = [] } in
      line_kept line none p.back p.met still b k.own is (omega (arith))
      (subst (λ (es : List StationEntry). KeptWorld c
      (record { near = s; begun = b; own = k.own; peer = p.peer; theirs = p.theirs; out = p.out ++ []; back = p.back; met = p.met }) es)
      (sym (append-nil (entries_in (written c p.read))))
      (subst (λ (os : List Entry). KeptWorld c
      (record { near = s; begun = b; own = k.own; peer = p.peer; theirs = p.theirs; out = os; back = p.back; met = p.met })
      (entries_in (written c p.read))) (sym (append-nil p.out)) k.world))

  -- a step, and then what is pulled
  something_happens : (line : List ℕ) → IsOpen line → (up : Bool) (left : List Entry) (met : List Meeting) (step : Step)
      → TurnIs (turn c line s) (and_pulls c step).near (and_pulls c step).entries (map (spelling_of c.role) (and_pulls c step).out) → begun_by up b ≡ b
      + ups_in step.entries
      → beside.ReachedBeside c (stepped c w (begun_by up b) left met step) → Kept c (reads c p (line ++ 10 ∷ []) left met)
  something_happens line none up left met step is ups reached = by (commands c step.near (Requests PullsAll)) refl
    where
      kept : KeptWorld c (stepped c w (begun_by up b) left met step) (entries_in (written c p.read) ++ step.entries)
      kept = kept_steps c w (entries_in (written c p.read)) up left met step k.world reached

      turned : (o : Outcome) → commands c step.near (Requests PullsAll) ≡ o
          → TurnIs (turn c line s) (pulled_behind step o).near (pulled_behind step o).entries (map (spelling_of c.role) (pulled_behind step o).out)
      turned o found = subst (λ (o : Outcome). TurnIs (turn c line s) (pulled_behind step o).near (pulled_behind step o).entries
          (map (spelling_of c.role) (pulled_behind step o).out)) found is

      by : (o : Outcome) → commands c step.near (Requests PullsAll) ≡ o → Kept c (reads c p (line ++ 10 ∷ []) left met)
      by (Refused e) found = line_kept line none left met step (begun_by up b) (stepped c w (begun_by up b) left met step).own (turned (Refused e) found) ups
          kept
      by (Did more) found =
          let v : BesideSessions = stepped c w (begun_by up b) left met step in
          let u : BesideSessions = stepped c v v.begun v.back v.met more in
          let both : Step = pulled_behind step (Did more) in
          let again : KeptWorld c u ((entries_in (written c p.read) ++ step.entries) ++ more.entries) =
          kept_steps c v (entries_in (written c p.read) ++ step.entries) false left met more kept
          (beside.here v u kept.reached (beside.Asks PullsAll more tt found)) in
          let quiet = commands_ups c step.near (Requests PullsAll) more found in
          let sum = ups_append step.entries more.entries in
          let lines : (p.out ++ sent_in (begun_by up b) c.role step.out) ++ sent_in (begun_by up b) c.role more.out ≡ p.out
          ++ sent_in (begun_by up b) c.role both.out =
          append_assoc p.out (sent_in (begun_by up b) c.role step.out) (sent_in (begun_by up b) c.role more.out)
          ∙ ap (λ (es : List Entry). p.out ++ es) (sym (sent_more (begun_by up b) c.role step.out more.out)) in
          line_kept line none left met both (begun_by up b) u.own (turned (Did more) found) (omega (arith, ups, quiet, sum))
          (subst (λ (es : List StationEntry). KeptWorld c
          (record {
            near = more.near;
            begun = begun_by up b;
            own = u.own;
            peer = p.peer;
            theirs = p.theirs;
            out = p.out
                ++ sent_in (begun_by up b) c.role both.out;
            back = left;
            met = met;
          }) es)
          (append_assoc (entries_in (written c p.read)) step.entries more.entries)
          (subst (λ (os : List Entry). KeptWorld c
          (record { near = more.near; begun = begun_by up b; own = u.own; peer = p.peer; theirs = p.theirs; out = os; back = left; met = met })
          ((entries_in (written c p.read) ++ step.entries) ++ more.entries))
          lines again))

  -- a step of its own accord
  acts : (line : List ℕ) → IsOpen line → (event : StationEvent) → event_in c.wide c.role line ≡ Some event → (step : Step) → outcome c s event ≡ Did step
      → ups_in step.entries ≡ 0 → beside.StationDoes c w (acted c w step) → Kept c (reads c p (line ++ 10 ∷ []) p.back p.met)
  acts line none event asks step is ups does =
      something_happens line none false p.back p.met step (line_did c s line event (and_pulls c step) asks (ap (with_pulls c) is)) (omega (arith, ups))
      (beside.here w (acted c w step) k.world.reached does)

  -- ---- a line of the user

  does : (asked : Command) (step : Step) → AsksOctets (Some (Asks asked)) → commands c s asked ≡ Did step → beside.StationDoes c w (acted c w step)
  does (Requests request) step octets is = beside.Asks (command.said_by c.say_sizes s.layer request) step (said_octets c.say_sizes s.layer request octets) is
  does (RequestsWith given request) step octets is =
      beside.AsksWith given (command.said_by c.say_sizes s.layer request) step octets.0 (said_octets c.say_sizes s.layer request octets.1) is
  does Connects step octets is = beside.Connects step is
  does Disconnects step octets is = beside.Disconnects step is
  does Probes step octets is = beside.Probes step is
  does Relinks step octets is = beside.Relinks step is

  commanded : (line : List ℕ) (asked : Command) (o : Outcome) → IsOpen line → event_in c.wide c.role line ≡ Some (Asks asked) → AsksOctets (Some (Asks asked))
      → commands c s asked ≡ o → Kept c (reads c p (line ++ 10 ∷ []) p.back p.met)
  commanded line asked (Refused e) none asks octets is = nothing_happens line none (line_refused c s line (Asks asked) e asks is)
  commanded line asked (Did step) none asks octets is = acts line none (Asks asked) asks step is (commands_ups c s asked step is) (does asked step octets is)

  fired : (line : List ℕ) (o : Outcome) → IsOpen line → event_in c.wide c.role line ≡ Some Fires → IsInTime c p (Some Fires) → fires c s ≡ o
      → Kept c (reads c p (line ++ 10 ∷ []) p.back p.met)
  fired line (Refused e) none asks due is = nothing_happens line none (line_refused c s line Fires e asks is)
  fired line (Did step) none asks due is =
      acts line none Fires asks step is (fires_ups c s step is)
      (beside.Fires step is (λ waiting. (let d = due waiting in record { sabm = d.sabm; ua = d.ua; crossing = d.crossing })))

  asked_kept : (line : List ℕ) (event : Option StationEvent) → IsOpen line → event_in c.wide c.role line ≡ event → IsNoFrame event → IsInTime c p event
      → AsksOctets event → Kept c (reads c p (line ++ 10 ∷ []) p.back p.met)
  asked_kept line None none asks no_frame due octets = nothing_happens line none (line_none c s line asks)
  asked_kept line (Some (Comes x)) none asks no_frame due octets = absurd no_frame
  asked_kept line (Some (Asks asked)) none asks no_frame due octets = commanded line asked (commands c s asked) none asks octets refl
  asked_kept line (Some Fires) none asks no_frame due octets = fired line (fires c s) none asks due refl

  -- ---- a frame comes

  comes_kept : (e : Entry) (rest : List Entry) → p.back ≡ e ∷ rest → AreOfFrame e.octets
      → Kept c (reads c p (frame_words (other c.role) e.octets ++ 10 ∷ []) rest (met_by c (bare c p) e))
  comes_kept e rest front fits =
      let step = receives c s e.octets in
      let l = link_receives c s e.octets in
      something_happens (frame_words (other c.role) e.octets) (frame_open (other c.role) e.octets) l.notes.up rest (met_by c w e) step
      (line_did c s (frame_words (other c.role) e.octets) (Comes e.octets) (and_pulls c step) (frame_comes c.wide c.role e.octets fits) refl)
      (ends_ups c s l b) (beside.here w (took c w e rest) k.world.reached (beside.Takes e rest front))

  -- ---- the peer and the line

  -- where the world goes on to this one, with the same station
  passes : (v : BesideSessions) → beside.Elsewhere c w v → v.near ≡ s → v.begun ≡ b → v.own ≡ k.own
      → Kept c (record p { peer = v.peer; theirs = v.theirs; out = v.out; back = v.back; met = v.met })
  passes v h near begun own = record {
    own = k.own;
    whole = k.whole;
    world = record {
      reached = subst (λ (o : ℕ → Own). beside.ReachedBeside c (record v { near = s; begun = b; own = o })) own
          (subst (λ (n : ℕ). beside.ReachedBeside c (record v { near = s; begun = n })) begun
          (subst (λ (x : Station). beside.ReachedBeside c (record v { near = x })) near (beside.elsewhere w v k.world.reached h)));
      entries = k.world.entries;
      later = k.world.later;
    };
  }

  elsewhere : (v : BesideSessions) → beside.Elsewhere c (bare c p) v
      → Kept c (record p { peer = v.peer; theirs = v.theirs; out = v.out; back = v.back; met = v.met })
  elsewhere v (beside.Loses back less) = passes (record w { back = v.back }) (beside.Loses back less) refl refl refl
  elsewhere v (beside.Links links happens) =
      passes (record w { peer = v.peer; out = v.out; back = v.back; met = v.met })
      (beside.Links links (record { does = happens.does; left = happens.left; puts = happens.puts })) refl refl refl
  elsewhere v (beside.Comes packet octets rest stand is reads) =
      passes (record w { theirs = v.theirs; peer = v.peer }) (beside.Comes packet octets rest stand is reads) refl refl refl
  elsewhere v (beside.LayerMoves y passed packets all stand may reads) =
      passes (record w { theirs = v.theirs; peer = v.peer }) (beside.LayerMoves y passed packets all stand may reads) refl refl refl

-- ---- all that happens

module _ (octets : ReadsOctets) (c : Settings) where
  step_kept : (p q : Program) → Kept c p → HappensToProgram c p q → Kept c q
  step_kept p q k (Reads line may) = asked_kept c p k line (event_in c.wide c.role line) may.is_line refl may.is_no_frame may.in_time
      (asks_octets octets c.wide c.role line)
  step_kept p q k (Takes e rest front fits) =
      subst (λ (text : List ℕ). Kept c (reads c p text rest (met_by c (bare c p) e))) (sym (frame_text (other c.role) e.octets))
      (comes_kept c p k e rest front fits)
  step_kept p q k (Elsewhere v h) = elsewhere c p k v h

  kept_first : Kept c nothing_read
  kept_first =
      let first = first_is c new_station in
      let near : station_of c [] ≡ new_station = ap (λ t. t.next) (first_said c) ∙ first.next in
      let none : entries_in (written c []) ≡ [] = ap (λ t. entries_in t.sayings) (first_said c) ∙ first.entries in
      record {
        own = λ n. own_anew c;
        whole = none_whole;
        world = subst (λ (es : List StationEntry). KeptWorld c
            (record {
              near = station_of c [];
              begun = ups_in es;
              own = λ n. own_anew c;
              peer = nothing_read.peer;
              theirs = nothing_read.theirs;
              out = [];
              back = [];
              met = [];
            }) es) (sym none)
            (subst (λ (x : Station). KeptWorld c
            (record { near = x; begun = 0; own = λ n. own_anew c; peer = nothing_read.peer; theirs = nothing_read.theirs; out = []; back = []; met = [] })
            []) (sym near)
            (record { reached = beside.at_start; entries = refl; later = λ n over. refl }));
      }

  along : (p : Program) → ReachedProgram c p → Kept c p
  along p at_start = kept_first
  along p (goes_on o q h e) = step_kept o q (along o h) e

-- ---- the claims

record InRange (k channels : ℕ) : Type 0 where
  low : 1 ≤ k
  high : k ≤ 7
  few : channels ≤ 4095

in_range : (cfg : Cfg) → config_refusal cfg ≡ None → InRange cfg.k cfg.channels.count
in_range cfg fine = by (nat_le 1 cfg.k) (nat_le cfg.k 7) (nat_le 1 cfg.n2) (nat_le 1 cfg.channels.count) (nat_le cfg.channels.count 4095) _ refl refl refl fine
  where
    by : (a b d e f g : Bool) → nat_le 1 cfg.k ≡ a → nat_le cfg.k 7 ≡ b → nat_le cfg.channels.count 4095 ≡ f
        → (if a && (b && (d && ((e && f) && g))) then None else Some error.BadConfig) ≡ None → InRange cfg.k cfg.channels.count
    by true true true true true g low high few is = record {
      low = leb-true 1 cfg.k low;
      high = leb-true cfg.k 7 high;
      few = leb-true cfg.channels.count 4095 few;
    }
    by a b d e f g low high few is = absurd (cc)

pub of_program : (Holds : BesideSessions → Type 0) → ReadsOctets → over_sessions.WithAnyPeer Holds → OfProgram Holds
of_program Holds octets law end cfg fine p reached =
    let c : Settings = settings_from end cfg in
    let k = along octets c p reached in
    let r = in_range cfg fine in
    (k.own, record { reached = k.world.reached; entries = k.world.entries }, law c r.low r.high r.few (seen c k.own p) k.world.reached)

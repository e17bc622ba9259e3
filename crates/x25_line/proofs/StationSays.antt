-- What an end may do that keeps the rules of a peer; and what a station sends, which is that.
use Rattle.x25_line.proofs.Names.{◌≡◌, ℕ, ◌+◌, ◌≤◌, List, [], ◌∷◌, ◌++◌, length, map, Bool, Some, None, Ok, refl, sym, ap, ◌∙◌, subst, arith, append_assoc}
use Rattle.x25_line.proofs.Names.{append-nil, slice_get, Role, PlainFrame, info, rr, rnr, rej, frmr, spelling_of, frame_of, ReadsSpelled, LinkSettings, other}
use Rattle.x25_line.proofs.Names.{FrmrSent, ending_of, Window, ShowsItem, Shows, ShowAll, Runs, rests, LessAt, IsSeen, number_in, Peer, MayHear, numbered_to}
use Rattle.std.proofs.lemmas.List.{map-append}
use Rattle.x25_line.proofs.{Lists.{each_map}, Names.{told_to, Allows, after, frames_of, numbered, Send, Tell}}
use Rattle.x25_line.proofs.StationLines.{IsGood, IsPart, good_reads, part_reads}
use Rattle.x25_line.{proofs.StationSends.{AllWithin, Item, item_at, single_of, tell_good, send_good, not_none}, specs.laws.Peer.{MaySend}}
use Rattle.x25_line.specs.laws.StationClaims.{Each}
use Rattle.x25_link.specs.laws.WindowMachine.{IsSent, goes_on}
use Rattle.x25_window.specs.laws.Window.{EndStep, frame_of as machine_frame}

-- the peer as an end of the window machine, with a station's k
abbrev pub machine_of : ℕ → Peer → Window
machine_of k p = record { window = k; given = p.given; acked = p.acked; sent = p.sent; taken = p.taken }

-- ---- frames with an N(R)

pub tell_sent : (k : ℕ) (p : Peer) → p.told ≤ length p.taken → (f : PlainFrame) → Shows f (machine_frame (machine_of k p) None)
    → MaySend ⊥ p (Ok f) (told_to (length p.taken) p)
tell_sent k p told (info ns nr pf x) h = absurd h.0
tell_sent k p told (rr command nr pf) h = (length p.taken, record { number = h.1; rising = told; taken = omega arith }, refl)
tell_sent k p told (rnr command nr pf) h = (length p.taken, record { number = h.1; rising = told; taken = omega arith }, refl)
tell_sent k p told (rej command nr pf) h = (length p.taken, record { number = h.1; rising = told; taken = omega arith }, refl)
tell_sent k p told f h = absurd h

pub item_sent : (k : ℕ) {n : ℕ} (p : Peer) → k ≤ 7 → p.sent ≤ p.acked + k → p.told ≤ length p.taken → Allows (machine_of k p) (Send n) → {n1 : ℕ}
    → Item n1 p.given n
    → (f : PlainFrame) → Shows f (machine_frame (after (machine_of k p) (Send n)) (numbered n (slice_get p.given n)))
    → MaySend ⊥ p (Ok f) (told_to (length p.taken) (numbered_to n p))
item_sent k {n} p high room told may i (info ns nr pf x) h =
    let shown : ShowsItem (numbered n (Some i.item)) ns x = subst (λ o. ShowsItem (numbered n o) ns x) i.is h.0 in
    let low = may.0 in
    let inside = may.2 in (
      n,
      length p.taken,
      record { number = shown.0; same = i.is ∙ ap (λ y. Some y) (sym shown.1); window = omega arith; again = omega arith },
      record { number = h.1; rising = told; taken = omega arith },
      refl,
    )
item_sent k {n} p high room told may i (rr command nr pf) h = absurd (not_none n p.given i.item i.is h.0)
item_sent k {n} p high room told may i (rnr command nr pf) h = absurd (not_none n p.given i.item i.is h.0)
item_sent k {n} p high room told may i (rej command nr pf) h = absurd (not_none n p.given i.item i.is h.0)
item_sent k p high room told may i f h = absurd h

-- ---- all that is sent in a run

-- the peer once it said all frames of a run, by which the station's end of the window machine became v; P is what is reached by one that said these frames
pub record Said (d : LinkSettings) (P : Peer → List PlainFrame → Type 0) (p : Peer) (v : Window) (frames : List PlainFrame) : Type 0 where
  pub peer : Peer
  pub reached : P peer frames
  pub is : machine_of d.window peer ≡ v
  pub room : peer.sent ≤ peer.acked + d.window
  pub told : peer.told ≤ length peer.taken
  pub given : peer.given ≡ p.given
  pub taken : peer.taken ≡ p.taken

-- that it says one frame more
abbrev pub MaySay : LinkSettings → (Peer → List PlainFrame → Type 0) → Type 0
MaySay d P = (p q : Peer) (before : List PlainFrame) (f : PlainFrame) → IsGood d.longest f → MaySend ⊥ p (Ok f) q → q.sent ≤ p.sent + 1 → q.given ≡ p.given
    → q.taken ≡ p.taken → P p before → P q (before ++ f ∷ [])

module _ {d : LinkSettings} (high : d.window ≤ 7) {P : Peer → List PlainFrame → Type 0} (says : MaySay d P) (p : Peer)
    (within : AllWithin d.longest p.given) where
  one : (w : Window) (before : List PlainFrame) (h : Said d P p w before) (s : EndStep (List ℕ)) (fs : List PlainFrame) → IsSent s
      → Allows (machine_of d.window h.peer) s → ShowAll fs (frames_of (machine_of d.window h.peer) s)
      → Said d P p (after (machine_of d.window h.peer) s) (before ++ fs)
  one w before h Tell fs sends may shows =
      let q = h.peer in
      let m = machine_of d.window q in
      let single = single_of fs (machine_frame m None) shows in
      subst (λ es. Said d P p m (before ++ es)) (sym single.is) (record {
        peer = told_to (length q.taken) q;
        reached = says q (told_to (length q.taken) q) before single.frame (tell_good d.longest m single.frame single.shows)
            (tell_sent d.window q h.told single.frame single.shows) (omega arith) refl refl h.reached;
        is = refl;
        room = h.room;
        told = omega arith;
        given = h.given;
        taken = h.taken;
      })
  one w before h (Send n) fs sends may shows =
      let q = h.peer in
      let m = machine_of d.window q in
      let single = single_of fs (machine_frame (after m (Send n)) (numbered n (slice_get q.given n))) shows in
      let item = item_at d.longest q.given n may.3 (subst (AllWithin d.longest) (sym h.given) within) in
      let inside = may.2 in
      let room = h.room in
      subst (λ es. Said d P p (after m (Send n)) (before ++ es)) (sym single.is) (record {
        peer = told_to (length q.taken) (numbered_to n q);
        reached = says q (told_to (length q.taken) (numbered_to n q)) before single.frame (send_good m item single.frame single.shows)
            (item_sent d.window q high h.room h.told may item single.frame single.shows) (omega (arith, inside)) refl refl h.reached;
        is = refl;
        room = omega (arith, room, inside);
        told = omega arith;
        given = h.given;
        taken = h.taken;
      })
  one w before h s fs sends may shows = absurd sends

  pub said_run : {from : Window} → P p [] → machine_of d.window p ≡ from → p.sent ≤ p.acked + d.window → p.told ≤ length p.taken
      → {w : Window} {frames : List PlainFrame} → Runs from w frames → Said d P p w frames
  said_run reached is room told rests = record { peer = p; reached = reached; is = is; room = room; told = told; given = refl; taken = refl }
  said_run {from} reached is room told (goes_on v fs s gs run sends may shows) =
      let h = said_run reached is room told run in
      subst (λ z. Said d P p (after z s) (fs ++ gs)) h.is (one v fs h s gs sends (rw h.is may) (rw h.is shows))

-- ---- frames without one

-- it may be spelled, and has no number
pub record IsFree (from : Role) (n1 : ℕ) (f : PlainFrame) : Type 0 where
  pub reads : frame_of from n1 (spelling_of from f) ≡ Ok f
  pub none : number_in (Ok f) ≡ None

abbrev pub AllFree : Role → ℕ → List PlainFrame → Type 0
AllFree from n1 fs = Each (IsFree from n1) fs

free_sent : (p : Peer) (f : PlainFrame) → number_in (Ok f) ≡ None → MaySend ⊥ p (Ok f) p
free_sent p (info ns nr pf x) none = cc
free_sent p (rr command nr pf) none = cc
free_sent p (rnr command nr pf) none = cc
free_sent p (rej command nr pf) none = cc
free_sent p f none = refl

pub parting_free : ReadsSpelled → (from : Role) (n1 : ℕ) (fs : List PlainFrame) → Each IsPart fs → AllFree from n1 fs
parting_free reads from n1 = each_map IsPart (IsFree from n1) (λ f h. record { reads = part_reads reads from n1 h; none = h.none })

pub frmr_free : ReadsSpelled → (from : Role) (n1 : ℕ) (f : Bool) (why : List ℕ) → length why ≡ 3 → AllFree from n1 (frmr f why ∷ [])
frmr_free reads from n1 f why three =
    (record { reads = reads from n1 (frmr f why) _ (record { in_range = tt; carries = three; within = tt; spelling = refl }); none = refl }, tt)

-- ---- what an end may do, as what is known of it goes on

-- What is known of it: the line to it, the peer that it is, and the line from it. It is handed down no packet that is too long, and sends
-- numbers one by one where they go for the first time. `Fine` holds where no fault is to be found.
pub record MayDo (d : LinkSettings) (Fine : Type 0) (R : List (List ℕ) → Peer → List (List ℕ) → Type 0) : Type 0 where
  pub handed : (os : List (List ℕ)) (p : Peer) (out : List (List ℕ)) (packet : List ℕ) → length packet ≤ d.longest → R os p out
      → R os (record p { given = p.given ++ packet ∷ [] }) out
  pub sends : (os : List (List ℕ)) (p q : Peer) (out : List (List ℕ)) (octets : List ℕ) → MaySend ⊥ p (frame_of d.role d.longest octets) q → q.sent ≤ p.sent
      + 1 → R os p out → R os q (out ++ octets ∷ [])
  pub hears : (o : List ℕ) (os : List (List ℕ)) (p q : Peer) (out : List (List ℕ)) → MayHear p (frame_of (other d.role) d.longest o) q → R (o ∷ os) p out
      → R os q out
  pub loses : {i : ℕ} {os ps : List (List ℕ)} (p : Peer) (out : List (List ℕ)) → LessAt IsSeen i os ps → R os p out → R ps p out
  pub faultless : (o : List ℕ) (os : List (List ℕ)) (p : Peer) (out : List (List ℕ)) → ending_of (frame_of (other d.role) d.longest o) (machine_of d.window p)
      ≡ Some FrmrSent → R (o ∷ os) p out → Fine → ⊥

-- ---- all that is sent in a step

module _ (d : LinkSettings) (high : d.window ≤ 7) (reads : ReadsSpelled) (Fine : Type 0) (R : List (List ℕ) → Peer → List (List ℕ) → Type 0)
    (does : MayDo d Fine R) (os : List (List ℕ)) where
  -- one frame more
  sent : (out : List (List ℕ)) (p q : Peer) (f : PlainFrame) → frame_of d.role d.longest (spelling_of d.role f) ≡ Ok f → MaySend ⊥ p (Ok f) q → q.sent ≤ p.sent
      + 1 → R os p out → R os q (out ++ spelling_of d.role f ∷ [])
  sent out p q f read may next reached = does.sends os p q out (spelling_of d.role f) (rw read may) next reached

  pub free_all : (out : List (List ℕ)) {p : Peer} (fs : List PlainFrame) → AllFree d.role d.longest fs → R os p out
      → R os p (out ++ map (spelling_of d.role) fs)
  free_all out [] free reached = rw (append-nil out) reached
  free_all out {p} (f ∷ fs) free reached =
      rw (sym (append_assoc out (spelling_of d.role f ∷ []) (map (spelling_of d.role) fs)))
      (free_all (out ++ spelling_of d.role f ∷ []) fs free.1 (sent out p p f free.0.reads (free_sent p f free.0.none) (omega arith) reached))

  speaks : (out : List (List ℕ)) → MaySay d (λ q frames. R os q (out ++ map (spelling_of d.role) frames))
  speaks out p q before f good may next given taken h =
      rw (sym (append_assoc out (map (spelling_of d.role) before) (spelling_of d.role f ∷ [])
      ∙ ap (λ xs. out ++ xs) (sym (map-append (spelling_of d.role) before (f ∷ [])))))
      (sent (out ++ map (spelling_of d.role) before) p q f (good_reads reads d.role d.longest good) may next h)

  pub runs_said : (out : List (List ℕ)) (p : Peer) (from : Window) → R os p out → machine_of d.window p ≡ from → p.sent ≤ p.acked + d.window → p.told
      ≤ length p.taken → AllWithin d.longest p.given
      → (w : Window) (frames : List PlainFrame) → Runs from w frames → Said d (λ q frames. R os q (out ++ map (spelling_of d.role) frames)) p w frames
  runs_said out p from reached is room told within w frames runs = said_run high (speaks out) p within (rw (append-nil out) reached) is room told runs

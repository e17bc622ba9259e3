-- After every event the name of each stretch is what the user was told.
use Rattle.x25_layer.proofs.Names.{◌≡◌, ℕ, List, [], ◌∷◌, ◌++◌, Option, Some, None, Bool, true, false, ◌==◌, if◌then◌else◌, refl, sym, ap, subst, ◌∙◌}
use Rattle.x25_layer.proofs.Names.{append_assoc, eqb-true, Dte, Dce, PlainPacket, clear, restart, restart_conf, channel_of, Proposal, Circuit, PlainNotice}
use Rattle.x25_layer.proofs.Names.{Answer, answers, Outcome, Done, Refused, Calls, outcome, pulled, Name, Ranges, LayerError, LayerSettings, Layer, LayerNotice}
use Rattle.x25_layer.proofs.Names.{LayerAnswer, is_channel, notices_on, is_ready, drops, answers_in, layer_answers, LayerRequest, Asks, Dials, Restarts}
use Rattle.x25_layer.proofs.Names.{PullsAll, LayerOutcome, Accepted, Declined, free_channel, puts_at_once, where_room, if_at_once, outcome_on, dialled}
use Rattle.x25_layer.proofs.Names.{restarted_for, outcome_in, layer_outcome, layer_pulled, name_of, End, TwoLayers, Move, Requests, Pulls, HandsUp, GoesDown}
use Rattle.x25_layer.proofs.Names.{requested, pulled_in, handed_up, moves_in, turned, settings_of, EndMove, happens, run, start, Always, append-nil}
use Rattle.x25_layer.proofs.Names.{may_restart_for, outcome_ready, answers_on, restarting_from, answers_ready, answers_restarting, named_by, NamesAreCounted}
use Rattle.x25_layer.proofs.LayerLemmas.{true≢false}
use Rattle.x25_layer.proofs.NameLemmas.{name_in, named_by_all, ClearsNotFree, circuit_counts, KeepsName, outcome_keeps, pulled_keeps}
use Rattle.x25_layer.{proofs.Names.{IsNoClearInP1, FrontIsNoClearInP1, NoClearComesInP1}, specs.laws.NameLaw.{first_name, named_after, counted}}
use Rattle.x25_circuit.specs.declared.error.CircuitError.TheVariants as circuit_error
use Rattle.x25_layer.specs.declared.error.LayerError.TheVariants as error

-- ---- what is told on a channel

told_there : (k h : ℕ) → (k == h) ≡ true → (n : Name) (notices : List PlainNotice) → counted k n (notices_on h notices) ≡ named_by_all n notices
told_there k h is n [] = refl
told_there k h is n (notice ∷ notices) =
    ap (λ (b : Bool). counted k (if b then named_by n notice else n) (notices_on h notices)) is ∙ told_there k h is (named_by n notice) notices

told_elsewhere : (k h : ℕ) → (k == h) ≡ false → (n : Name) (notices : List PlainNotice) → counted k n (notices_on h notices) ≡ n
told_elsewhere k h is n [] = refl
told_elsewhere k h is n (notice ∷ notices) =
    ap (λ (b : Bool). counted k (if b then named_by n notice else n) (notices_on h notices)) is ∙ told_elsewhere k h is n notices

on_channel_counts : (e h : ℕ) (circuits : ℕ → Circuit) (a : Answer) → name_in e a.next ≡ named_by_all (name_in e (circuits h)) a.notices → (k : ℕ) (b : Bool)
    → (k == h) ≡ b
    → name_in e (if b then a.next else circuits k) ≡ counted k (name_in e (circuits k)) (notices_on h a.notices)
on_channel_counts e h circuits a there k true is =
    there ∙ ap (λ (j : ℕ). named_by_all (name_in e (circuits j)) a.notices) (sym (eqb-true k h is)) ∙ sym (told_there k h is (name_in e (circuits k)) a.notices)
on_channel_counts e h circuits a there k false is = sym (told_elsewhere k h is (name_in e (circuits k)) a.notices)

abbrev Counts : Layer → LayerAnswer → Type 0
Counts l a = (k : ℕ) → name_of a.next k ≡ counted k (name_of l k) a.notices

-- a packet of a channel
channel_counts : (c : LayerSettings) (e : ℕ) (circuits : ℕ → Circuit) (p : PlainPacket) → ClearsNotFree (circuits (channel_of p)) p → (b : Bool)
    → Counts (is_ready e circuits) (if b then answers_on e circuits (channel_of p) (answers c.circuit (circuits (channel_of p)) p) else drops false e circuits)
channel_counts c e circuits p ok true k =
    on_channel_counts e (channel_of p) circuits (answers c.circuit (circuits (channel_of p)) p) (circuit_counts c.circuit e (circuits (channel_of p)) p ok) k
    (k == channel_of p) refl
channel_counts c e circuits p ok false k = refl

ready_counts : (c : LayerSettings) (e : ℕ) (circuits : ℕ → Circuit) (p : PlainPacket) → ClearsNotFree (circuits (channel_of p)) p
    → Counts (is_ready e circuits) (answers_ready c e circuits p)
ready_counts c e circuits (restart cause diagnostic) ok = λ k. refl
ready_counts c e circuits restart_conf ok = λ k. refl
ready_counts c e circuits other ok = channel_counts c e circuits other ok (is_channel c.channels (channel_of other))

restarting_counts : (e : ℕ) (circuits : ℕ → Circuit) (p : PlainPacket)
    → Counts (record { restarting = true; restarts = e; circuits = circuits }) (answers_restarting e circuits p)
restarting_counts e circuits (restart cause diagnostic) = λ k. refl
restarting_counts e circuits p = λ k. refl

answer_counts : (c : LayerSettings) (b : Bool) (e : ℕ) (circuits : ℕ → Circuit) (p : PlainPacket) → (b ≡ false → ClearsNotFree (circuits (channel_of p)) p)
    → Counts (record { restarting = b; restarts = e; circuits = circuits }) (answers_in c b e circuits p)
answer_counts c true e circuits p ok = restarting_counts e circuits p
answer_counts c false e circuits p ok = ready_counts c e circuits p (ok refl)

not_free : (e : End) (p : PlainPacket) → IsNoClearInP1 e p → e.is_out ≡ false → e.layer.restarting ≡ false → ClearsNotFree (e.layer.circuits (channel_of p)) p
not_free e (clear h cause diagnostic) never up ready = never up ready
not_free e other never up ready = tt

-- ---- calls of the user

abbrev KeepsNames : Layer → LayerOutcome → Type 0
KeepsNames l (Accepted next packet) = (k : ℕ) → name_of next k ≡ name_of l k
KeepsNames l (Declined error) = Unit {0}

kept_on : (l : Layer) (h : ℕ) (o : Outcome) → KeepsName (l.circuits h) o → KeepsNames l (outcome_on l.restarts l.circuits h o)
kept_on l h (Done next packet) keeps = λ k. by k (k == h) refl
  where
    by : (k : ℕ) (b : Bool) → (k == h) ≡ b → name_in l.restarts (if b then next else l.circuits k) ≡ name_in l.restarts (l.circuits k)
    by k true is = keeps l.restarts ∙ ap (λ (j : ℕ). name_in l.restarts (l.circuits j)) (sym (eqb-true k h is))
    by k false is = refl
kept_on l h (Refused e) keeps = tt

kept_room : (l : Layer) (full : Bool) (good : LayerOutcome) → KeepsNames l good → KeepsNames l (where_room full good)
kept_room l true good keeps = tt
kept_room l false good keeps = keeps

kept_at_once : (l : Layer) (now full : Bool) (good : LayerOutcome) → KeepsNames l good → KeepsNames l (if_at_once now full good)
kept_at_once l true full good keeps = kept_room l full good keeps
kept_at_once l false full good keeps = keeps

kept_if : (l : Layer) (b : Bool) (good : LayerOutcome) (e : LayerError) → KeepsNames l good → KeepsNames l (if b then good else Declined e)
kept_if l true good e keeps = keeps
kept_if l false good e keeps = tt

kept_dial : (c : LayerSettings) (full : Bool) (l : Layer) (o : Option ℕ) (called calling user : List ℕ) (proposal : Proposal)
    → KeepsNames l (dialled c full l.restarts l.circuits o called calling user proposal)
kept_dial c full l None called calling user proposal = tt
kept_dial c full l (Some h) called calling user proposal =
    kept_room l full (outcome_on l.restarts l.circuits h (outcome c.circuit (l.circuits h) (Calls called calling user proposal)))
    (kept_on l h (outcome c.circuit (l.circuits h) (Calls called calling user proposal))
    (outcome_keeps c.circuit (l.circuits h) (Calls called calling user proposal)))

kept_ready : (c : LayerSettings) (full : Bool) (l : Layer) (request : LayerRequest) → KeepsNames l (outcome_ready c full l.restarts l.circuits request)
kept_ready c full l (Asks h request) =
    kept_if l (is_channel c.channels h) (if_at_once (puts_at_once request) full
    (outcome_on l.restarts l.circuits h (outcome c.circuit (l.circuits h) request))) error.NoSuchChannel
    (kept_at_once l (puts_at_once request) full (outcome_on l.restarts l.circuits h (outcome c.circuit (l.circuits h) request))
    (kept_on l h (outcome c.circuit (l.circuits h) request) (outcome_keeps c.circuit (l.circuits h) request)))
kept_ready c full l (Dials called calling user proposal) = kept_dial c full l (free_channel c.circuit.role l.circuits c.channels) called calling user proposal
kept_ready c full l (Restarts cause diagnostic) =
    kept_room l full (restarted_for c.circuit.role l.restarts l.circuits cause diagnostic)
    (kept_if l (may_restart_for c.circuit.role cause) (Accepted (restarting_from l.restarts l.circuits) (Some (restart cause diagnostic)))
    (error.Circuit circuit_error.BadParameter) (λ k. refl))
kept_ready c full l PullsAll = λ k. refl

names_kept : (c : LayerSettings) (full : Bool) (l : Layer) (request : LayerRequest) → KeepsNames l (layer_outcome c full l request)
names_kept c full l request = by l.restarting
  where
    by : (b : Bool) → KeepsNames l (outcome_in c full b l.restarts l.circuits request)
    by true = tt
    by false = kept_ready c full l request

-- ---- pulls

pull_kept : (c : LayerSettings) (l : Layer) (h k : ℕ) → name_of (layer_pulled c l h).next k ≡ name_of l k
pull_kept c l h k = by (k == h) refl
  where
    by : (b : Bool) → (k == h) ≡ b → name_in l.restarts (if b then (pulled c.circuit (l.circuits h)).next else l.circuits k) ≡ name_in l.restarts (l.circuits k)
    by true is = pulled_keeps c.circuit (l.circuits h) l.restarts ∙ ap (λ (j : ℕ). name_in l.restarts (l.circuits j)) (sym (eqb-true k h is))
    by false is = refl

-- ---- events

counted_more : (k : ℕ) (n : Name) (xs ys : List LayerNotice) → counted k n (xs ++ ys) ≡ counted k (counted k n xs) ys
counted_more k n [] ys = refl
counted_more k n (x ∷ xs) ys = counted_more k (named_after k n x) xs ys

module _ (c : LayerSettings) (w : TwoLayers) (h : NamesAreCounted w) (up : w.near.is_out ≡ false) where
  requested_counted : (request : LayerRequest) (o : LayerOutcome) → KeepsNames w.near.layer o → NamesAreCounted (requested c w request o)
  requested_counted request (Accepted next packet) keeps = record { near = λ k on. keeps k ∙ h.near k up; far = h.far }
  requested_counted request (Declined e) keeps = h

  pulled_counted : (k : ℕ) (b : Bool) → NamesAreCounted (if b then pulled_in w (layer_pulled c w.near.layer k) else w)
  pulled_counted h₂ true = record { near = λ k on. pull_kept c w.near.layer h₂ k ∙ h.near k up; far = h.far }
  pulled_counted h₂ false = h

  handed_counted : (K : List PlainPacket) → FrontIsNoClearInP1 w.near K → NamesAreCounted (handed_up c w K)
  handed_counted [] front = h
  handed_counted (p ∷ K) front = record {
    near = λ k on.
        answer_counts c w.near.layer.restarting w.near.layer.restarts w.near.layer.circuits p (λ ready. not_free w.near p front up ready) k
        ∙ ap (λ (n : Name). counted k n (layer_answers c w.near.layer p).notices) (h.near k up)
        ∙ sym (counted_more k first_name w.near.told (layer_answers c w.near.layer p).notices);
    far = h.far;
  }

move_counted : (c : LayerSettings) (w : TwoLayers) (move : Move) (gone : Bool) → w.near.is_out ≡ gone → NamesAreCounted w → FrontIsNoClearInP1 w.near w.back
    → NamesAreCounted (moves_in c w gone move)
move_counted c w move true is h front = h
move_counted c w (Requests full request) false is h front = requested_counted c w h is request (layer_outcome c full w.near.layer request)
    (names_kept c full w.near.layer request)
move_counted c w (Pulls k) false is h front = pulled_counted c w h is k (is_channel c.channels k)
move_counted c w HandsUp false is h front = handed_counted c w h is w.back front
move_counted c w GoesDown false is h front = record { near = λ k on. absurd (true≢false on); far = h.far }

event_counted : (long_data : Bool) (channels : Ranges) (w : TwoLayers) (first : Bool) (what : Move) → NamesAreCounted w → NoClearComesInP1 w
    → NamesAreCounted (happens long_data channels w (record { first = first; what = what }))
event_counted long_data channels w true what h front = move_counted (settings_of Dte long_data channels) w what w.near.is_out refl h front.near
event_counted long_data channels w false what h front =
    let r = move_counted (settings_of Dce long_data channels) (turned w) what w.far.is_out refl (record { near = h.far; far = h.near }) front.far in
    record { near = r.far; far = r.near }

run_more : (long_data : Bool) (channels : Ranges) (es : List EndMove) (e : EndMove) (w : TwoLayers) → run long_data channels (es ++ e ∷ []) w
    ≡ happens long_data channels (run long_data channels es w) e
run_more long_data channels [] e w = refl
run_more long_data channels (x ∷ es) e w = run_more long_data channels es e (happens long_data channels w x)

-- the names are counted behind these events, where they were behind those before
run_counted : (long_data : Bool) (channels : Ranges) → Always NoClearComesInP1 long_data channels → (done es : List EndMove)
    → NamesAreCounted (run long_data channels done (start long_data channels))
    → NamesAreCounted (run long_data channels (done ++ es) (start long_data channels))
run_counted long_data channels front done [] h = subst (λ (l : List EndMove). NamesAreCounted (run long_data channels l (start long_data channels)))
    (sym (append-nil done)) h
run_counted long_data channels front done (e ∷ es) h =
    subst (λ (l : List EndMove). NamesAreCounted (run long_data channels l (start long_data channels))) (append_assoc done (e ∷ []) es)
    (run_counted long_data channels front (done ++ e ∷ []) es
    (subst (λ (w : TwoLayers). NamesAreCounted w) (sym (run_more long_data channels done e (start long_data channels)))
    (event_counted long_data channels (run long_data channels done (start long_data channels)) e.first e.what h (front done))))

pub always_counted : (long_data : Bool) (channels : Ranges) → Always NoClearComesInP1 long_data channels → Always NamesAreCounted long_data channels
always_counted long_data channels front es = run_counted long_data channels front [] es (record { near = λ k on. refl; far = λ k on. refl })

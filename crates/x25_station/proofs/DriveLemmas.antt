-- A call of the layer over the link: what it has to put is put, and then what waits is pulled.
use Rattle.x25_station.proofs.Names.{◌≡◌, ◌≢◌, ◌⊎◌, inl, inr, ℕ, zero, suc, ◌<◌, List, [], ◌∷◌, length, nat_lt, Option, Some, None, Result, Ok, Err, OnErr}
use Rattle.x25_station.proofs.Names.{option_to_list, Bool, true, false, ◌==◌, if◌then◌else◌, refl, sym, ap, subst, ◌∙◌, arith, IsErrAnd, eqb-true, LayerRequest}
use Rattle.x25_station.proofs.Names.{LayerOutcome, Accepted, Declined, PullsAll, layer_outcome, outcome_in, layer_pulled, asked_where, LayerSettings, Layer}
use Rattle.x25_station.proofs.Names.{Gives, Answers, spelled, FitsLayer, LayerError, calls, refusal_of, LinkView, Putting, Answered, Went, Refuses, begin}
use Rattle.x25_station.proofs.Names.{with_pulled, pull_one, round, rounds_of, backlog, rounds, went, ShownLink, LinkState, FitsWhole, after_put_to, waiting_of}
use Rattle.x25_station.proofs.Names.{waits_of, up_of, up_at, link_waits, PlainPacket, spelling_of, after_all, LayerGives, LinkGives, seen_at}
use Rattle.x25_layer.specs.Calls.{declined_for}
use Rattle.x25_link.specs.laws.LinkLaws.{link_up}
use Rattle.x25_station.{proofs.RoundLemmas.{all_spelled, octets_put, spelled_some, not_empty}, specs.code.OverLink.{Drives, TurnGives}}
use Rattle.x25_station.proofs.Names.{◌+◌, ◌-◌}
use Rattle.x25_layer.specs.laws.Rounds.{at_turn, ended, rest_of_round, whole_rounds}
use Rattle.x25_layer.specs.declared.error.LayerError.TheVariants as error
use Rattle.x25_layer.specs.declared.layer.Layer as layer_code
use Rattle.x25_layer.specs.declared.link_state.LinkState as code

-- ---- the call, by what the layer is told of the link

calls_go : (view : LinkView) (c : LayerSettings) (l : Layer) (request : LayerRequest) → calls view c l request
    ≡ went view c (asked_where c view.is_up (view.waits [] == 256) l request)
calls_go view c l request = test view.is_up
  where
    o : LayerOutcome
    o = layer_outcome c (view.waits [] == 256) l request

    test : (b : Bool) → (if b then went view c o else Refuses error.NotUp) ≡ went view c (if b then o else Declined error.NotUp)
    test true = refl
    test false = refl

-- the layer is told what it would see
pub record IsTold (s : code.LinkState) (v : ShownLink) : Type 0 where
  pub up : s.is_up ≡ up_of v
  pub full : s.is_full ≡ (waiting_of v == 256)

pub told_in : (s : code.LinkState) (v : ShownLink) (x : LinkState) (view : LinkView) → IsTold s v → FitsWhole v x → view.is_up ≡ up_at x → view.waits []
    ≡ waits_of x → (c : LayerSettings) (l : Layer) (request : LayerRequest)
    → calls view c l request ≡ went view c (asked_where c s.is_up s.is_full l request)
told_in s v x view told fits up waits c l request =
    calls_go view c l request
    ∙ ap (λ (b : Bool). went view c (asked_where c b (view.waits [] == 256) l request)) (up ∙ sym (told.up ∙ link_up v x fits))
    ∙ ap (λ (b : Bool). went view c (asked_where c s.is_up b l request))
    (ap (λ (n : ℕ). n == 256) waits ∙ sym (told.full ∙ ap (λ (n : ℕ). n == 256) (link_waits v x fits)))

pub told_goes : (s : code.LinkState) (v : ShownLink) (turn : ℕ) (x : LinkState) → IsTold s v → FitsWhole v x → (c : LayerSettings) (l : Layer) (request : LayerRequest)
    → calls (seen_at turn x) c l request ≡ went (seen_at turn x) c (asked_where c s.is_up s.is_full l request)
told_goes s v turn x told fits c l request = told_in s v x (seen_at turn x) told fits refl refl c l request

-- ---- it is accepted

abbrev pub DrivesLayer : layer_code.Layer → ShownLink → ℕ → layer_code.Layer → Type 0
DrivesLayer mid below turn new = (c : LayerSettings) (l : Layer) (packet : Option PlainPacket) (x : LinkState) → FitsLayer c mid l → mid.sheet ≡ spelled packet
    → FitsWhole below x → FitsLayer c new (rounds (seen_at turn x) c (begin l packet)).layer

abbrev pub DrivesLink : layer_code.Layer → ShownLink → ℕ → ShownLink → Type 0
DrivesLink mid below turn below₂ = (c : LayerSettings) (l : Layer) (packet : Option PlainPacket) (x : LinkState) → FitsLayer c mid l → mid.sheet ≡ spelled packet
    → FitsWhole below x → FitsWhole below₂ (after_all x (rounds (seen_at turn x) c (begin l packet)).put)

abbrev pub DrivesTurn : layer_code.Layer → ShownLink → ℕ → ℕ → Type 0
DrivesTurn mid below turn turn₂ = (c : LayerSettings) (l : Layer) (packet : Option PlainPacket) (x : LinkState) → FitsLayer c mid l → mid.sheet ≡ spelled packet
    → FitsWhole below x → turn₂ ≡ (rounds (seen_at turn x) c (begin l packet)).turn

layer_went : {T : Type 0} (u : T) (c : LayerSettings) (mid new : layer_code.Layer) (below : ShownLink) (turn : ℕ) (x : LinkState) (o : LayerOutcome) → FitsWhole below x
    → Gives c mid (Ok u) o → DrivesLayer mid below turn new → LayerGives c new (Ok u) (went (seen_at turn x) c o)
layer_went u c mid new below turn x (Accepted next packet) fits g drives = drives c next packet x g.0 g.1 fits
layer_went u c mid new below turn x (Declined e) fits g drives = cc

link_went : {T : Type 0} (u : T) (c : LayerSettings) (mid : layer_code.Layer) (below below₂ : ShownLink) (turn : ℕ) (x : LinkState) (o : LayerOutcome) → FitsWhole below x
    → Gives c mid (Ok u) o → DrivesLink mid below turn below₂ → LinkGives below₂ x (Ok u) (went (seen_at turn x) c o)
link_went u c mid below below₂ turn x (Accepted next packet) fits g drives = drives c next packet x g.0 g.1 fits
link_went u c mid below below₂ turn x (Declined e) fits g drives = cc

turn_went : {T : Type 0} (u : T) (c : LayerSettings) (mid : layer_code.Layer) (below : ShownLink) (turn turn₂ : ℕ) (x : LinkState) (o : LayerOutcome)
    → FitsWhole below x → Gives c mid (Ok u) o → DrivesTurn mid below turn turn₂ → TurnGives turn₂ (Ok u) (went (seen_at turn x) c o)
turn_went u c mid below turn turn₂ x (Accepted next packet) fits g drives = drives c next packet x g.0 g.1 fits
turn_went u c mid below turn turn₂ x (Declined e) fits g drives = tt

pub drove : {T : Type 0} (u : T) (s : code.LinkState) (old mid new : layer_code.Layer) (below below₂ : ShownLink) (turn turn₂ : ℕ) (request : LayerRequest)
    → IsTold s below → (let r : Result T LayerError = Ok u in Answers old mid r s request) → DrivesLayer mid below turn new
    → DrivesLink mid below turn below₂ → DrivesTurn mid below turn turn₂
    → (let r : Result T LayerError = Ok u in Drives old below turn new below₂ turn₂ r request)
drove {T = T} u s old mid new below below₂ turn turn₂ request told a layers links turns = record {
  layer = λ c l x fits link. subst (λ (n : Answered). let r : Result T LayerError = Ok u in LayerGives c new r n)
      (sym (told_goes s below turn x told link c l request)) (layer_went u c mid new below turn x _ link (a.does.gives c l fits) layers);
  link = λ c l x fits link. subst (λ (n : Answered). let r : Result T LayerError = Ok u in LinkGives below₂ x r n)
      (sym (told_goes s below turn x told link c l request)) (link_went u c mid below below₂ turn x _ link (a.does.gives c l fits) links);
  turns = λ c l x fits link. subst (λ (n : Answered). let r : Result T LayerError = Ok u in TurnGives turn₂ r n)
      (sym (told_goes s below turn x told link c l request)) (turn_went u c mid below turn turn₂ x _ link (a.does.gives c l fits) turns);
  layer_stays = λ c l fits. tt;
  link_stays = λ x fits. tt;
  turn_stays = tt;
  missing = λ none. cc;
}

-- ---- it is refused

pub layer_not : (T : Type 0) {U : Type 0} (r : Result U LayerError) (e : LayerError) (c : LayerSettings) (mid : layer_code.Layer) (view : LinkView)
    (o : LayerOutcome) → IsErrAnd r (λ f. f ≡ e) → (let x : Result T LayerError = Err e in Gives c mid x o) → LayerGives c mid r (went view c o)
layer_not T (Ok u) e c mid view o is g = absurd is
layer_not T (Err f) e c mid view (Accepted next packet) is g = is ∙ g
layer_not T (Err f) e c mid view (Declined d) is g = cc

link_not : (T : Type 0) {U : Type 0} (r : Result U LayerError) (e : LayerError) (c : LayerSettings) (mid : layer_code.Layer) (below₂ : ShownLink)
    (x : LinkState) (view : LinkView) (o : LayerOutcome) → IsErrAnd r (λ f. f ≡ e) → (let y : Result T LayerError = Err e in Gives c mid y o)
    → LinkGives below₂ x r (went view c o)
link_not T (Ok u) e c mid below₂ x view o is g = absurd is
link_not T (Err f) e c mid below₂ x view (Accepted next packet) is g = tt
link_not T (Err f) e c mid below₂ x view (Declined d) is g = cc

pub turn_not : {U : Type 0} (r : Result U LayerError) (e : LayerError) (turn₂ : ℕ) (a : Answered) → IsErrAnd r (λ f. f ≡ e) → TurnGives turn₂ r a
turn_not (Ok u) e turn₂ a is = absurd is
turn_not (Err f) e turn₂ (Went s) is = tt
turn_not (Err f) e turn₂ (Refuses d) is = tt

pub on_err : {T E : Type 0} (r : Result T E) {P : Type 0} → P → OnErr r P
on_err (Ok x) p = tt
on_err (Err e) p = p

pub same_err : {T : Type 0} (r : Result T LayerError) (e f : LayerError) → IsErrAnd r (λ x. x ≡ e) → r ≡ Err f → e ≡ f
same_err (Ok x) e f is same = absurd is
same_err (Err g) e f is same = cc

pub drove_not : {U : Type 0} (T : Type 0) (r : Result U LayerError) (e : LayerError) (s : code.LinkState) (old mid : layer_code.Layer) (below : ShownLink)
    (turn : ℕ) (request : LayerRequest) → IsTold s below → IsErrAnd r (λ f. f ≡ e)
    → (let x : Result T LayerError = Err e in Answers old mid x s request) → Drives old below turn mid below turn r request
drove_not T r e s old mid below turn request told is a = record {
  layer = λ c l x fits link. subst (λ (n : Answered). LayerGives c mid r n) (sym (told_goes s below turn x told link c l request))
      (layer_not T r e c mid (seen_at turn x) _ is (a.does.gives c l fits));
  link = λ c l x fits link. subst (λ (n : Answered). LinkGives below x r n) (sym (told_goes s below turn x told link c l request))
      (link_not T r e c mid below x (seen_at turn x) _ is (a.does.gives c l fits));
  turns = λ c l x fits link. turn_not r e turn (calls (seen_at turn x) c l request) is;
  layer_stays = λ c l fits. on_err r (a.does.stays c l fits);
  link_stays = λ x fits. on_err r fits;
  turn_stays = on_err r refl;
  missing = λ none. a.does.missing (ap (λ (f : LayerError). let x : Result T LayerError = Err f in x) (same_err r e error.NoMemory is none));
}

-- ---- what waits is pulled, and nothing else

pulls_go : (c : LayerSettings) (s : code.LinkState) (l : Layer) → s.is_up ≡ true → l.restarting ≡ false → asked_where c s.is_up s.is_full l PullsAll
    ≡ Accepted l None
pulls_go c s l up ready =
    ap (λ (b : Bool). if b then layer_outcome c s.is_full l PullsAll else Declined error.NotUp) up
    ∙ ap (λ (b : Bool). outcome_in c s.is_full b l.restarts l.circuits PullsAll) ready
    ∙ ap (λ (b : Bool). Accepted (record { restarting = b; restarts = l.restarts; circuits = l.circuits }) None) (sym ready)

pub pulled : (s : code.LinkState) (old new : layer_code.Layer) (below below₂ : ShownLink) (turn turn₂ : ℕ) → IsTold s below → s.is_up ≡ true → old.restarting ≡ false
    → ((c : LayerSettings) (p : Putting) (x : LinkState) → FitsLayer c old p.layer → FitsWhole below (after_all x p.put)
    → FitsLayer c new (rounds (seen_at turn x) c p).layer)
    → ((c : LayerSettings) (p : Putting) (x : LinkState) → FitsLayer c old p.layer → FitsWhole below (after_all x p.put)
    → FitsWhole below₂ (after_all x (rounds (seen_at turn x) c p).put))
    → ((c : LayerSettings) (p : Putting) (x : LinkState) → FitsLayer c old p.layer → FitsWhole below (after_all x p.put)
    → turn₂ ≡ (rounds (seen_at turn x) c p).turn)
    → (let r : Result Unit LayerError = Ok tt in Drives old below turn new below₂ turn₂ r PullsAll)
pulled s old new below below₂ turn turn₂ told up ready layers links turns = record {
  layer = λ c l x fits link. subst (λ (n : Answered). let r : Result Unit LayerError = Ok tt in LayerGives c new r n) (sym (goes c l x fits link))
      (layers c (begin l None) x fits link);
  link = λ c l x fits link. subst (λ (n : Answered). let r : Result Unit LayerError = Ok tt in LinkGives below₂ x r n) (sym (goes c l x fits link))
      (links c (begin l None) x fits link);
  turns = λ c l x fits link. subst (λ (n : Answered). let r : Result Unit LayerError = Ok tt in TurnGives turn₂ r n) (sym (goes c l x fits link))
      (turns c (begin l None) x fits link);
  layer_stays = λ c l fits. tt;
  link_stays = λ x fits. tt;
  turn_stays = tt;
  missing = λ none. cc;
}
  where
    goes : (c : LayerSettings) (l : Layer) (x : LinkState) → FitsLayer c old l → FitsWhole below x → calls (seen_at turn x) c l PullsAll
        ≡ Went (rounds (seen_at turn x) c (begin l None))
    goes c l x fits link = told_goes s below turn x told link c l PullsAll ∙ ap (went (seen_at turn x) c) (pulls_go c s l up (sym fits.restarting ∙ ready))

pub pulled_not : (s : code.LinkState) (v : layer_code.Layer) (below : ShownLink) (turn : ℕ) (e : LayerError) → IsTold s below → e ≢ error.NoMemory
    → ((c : LayerSettings) (l : Layer) (request : LayerRequest) → FitsLayer c v l → asked_where c s.is_up s.is_full l request ≡ Declined e)
    → (let r : Result Unit LayerError = Err e in Drives v below turn v below turn r PullsAll)
pulled_not s v below turn e told named refused = record {
  layer = λ c l x fits link. subst (λ (n : Answered). let r : Result Unit LayerError = Err e in LayerGives c v r n) (sym (goes c l x fits link)) refl;
  link = λ c l x fits link. subst (λ (n : Answered). let r : Result Unit LayerError = Err e in LinkGives below x r n) (sym (goes c l x fits link)) refl;
  turns = λ c l x fits link. (let r : Result Unit LayerError = Err e in turn_not r e turn (calls (seen_at turn x) c l PullsAll) refl);
  layer_stays = λ c l fits. fits;
  link_stays = λ x fits. fits;
  turn_stays = refl;
  missing = λ none. absurd (named (err_is none));
}
  where
    goes : (c : LayerSettings) (l : Layer) (x : LinkState) → FitsLayer c v l → FitsWhole below x → calls (seen_at turn x) c l PullsAll ≡ Refuses e
    goes c l x fits link = told_goes s below turn x told link c l PullsAll ∙ ap (went (seen_at turn x) c) (refused c l PullsAll fits)

    err_is : ◌≡◌ {A = Result Unit LayerError} (Err e) (Err error.NoMemory) → e ≡ error.NoMemory
    err_is same = cc

-- ---- a link that takes what is to be put

pub takes_it : (s : code.LinkState) (v : ShownLink) (X : Type 0) → (s.is_full ≡ false → waiting_of v < 256) → X ⊎ (s.is_full ≡ false) → X ⊎ (waiting_of v < 256)
takes_it s v X low (inl none) = inl none
takes_it s v X low (inr free) = inr (low free)

-- ---- why it would be refused

refusal_went : (view : LinkView) (c : LayerSettings) (o : LayerOutcome) → declined_for o ≡ refusal_of (went view c o)
refusal_went view c (Accepted next packet) = refl
refusal_went view c (Declined e) = refl

pub judged_for : (s : code.LinkState) (v : ShownLink) (y : layer_code.Layer) (request : LayerRequest) (o : Option LayerError) → IsTold s v
    → ((c : LayerSettings) (l : Layer) → FitsLayer c y l → o ≡ declined_for (asked_where c s.is_up s.is_full l request))
    → (c : LayerSettings) (l : Layer) (turn : ℕ) (x : LinkState) → FitsLayer c y l → FitsWhole v x → o ≡ refusal_of (calls (seen_at turn x) c l request)
judged_for s v y request o told is c l turn x fits link =
    is c l fits ∙ refusal_went (seen_at turn x) c (asked_where c s.is_up s.is_full l request) ∙ ap refusal_of (sym (told_goes s v turn x told link c l request))

-- ---- with something given beside the packet: what is pulled behind the first packet goes as it is

abbrev behind : PlainPacket → Putting → Putting
behind p s = record { layer = s.layer; put = p ∷ s.put; turn = s.turn }

module _ (v w : LinkView) (c : LayerSettings) (p : PlainPacket) (same : (put : List PlainPacket) → v.waits (p ∷ put) ≡ w.waits put)
    (turn : v.turn ≡ w.turn) where
  one_behind : (h : ℕ) (s : Putting) → pull_one v c h (behind p s) ≡ behind p (pull_one w c h s)
  one_behind h s =
      ap (λ (n : ℕ). if nat_lt n 8 then with_pulled h (behind p s) (layer_pulled c s.layer h) (layer_pulled c s.layer h).packet else behind p s) (same s.put)
      ∙ by (nat_lt (w.waits s.put) 8) (layer_pulled c s.layer h).packet
    where
      by : (b : Bool) (o : Option PlainPacket) → (if b then with_pulled h (behind p s) (layer_pulled c s.layer h) o else behind p s)
          ≡ behind p (if b then with_pulled h s (layer_pulled c s.layer h) o else s)
      by true None = refl
      by true (Some q) = refl
      by false o = refl

  round_behind : (b n : ℕ) (s : Putting) → round v c b n (behind p s) ≡ behind p (round w c b n s)
  round_behind b zero s = refl
  round_behind b (suc n) s = ap (λ (t : Putting). pull_one v c (b + suc n) t) (round_behind b n s) ∙ one_behind (b + suc n) (round w c b n s)

  rounds_of_behind : (k : ℕ) (s : Putting) → rounds_of k v c (behind p s) ≡ behind p (rounds_of k w c s)
  rounds_of_behind zero s = refl
  rounds_of_behind (suc k) s =
      ap (λ (t : Putting). rounds_of k v c t) (round_behind 0 c.channels.count s) ∙ rounds_of_behind k (round w c 0 c.channels.count s)

  rest_behind : (s : Putting) → rest_of_round v c (behind p s) ≡ behind p (rest_of_round w c s)
  rest_behind s =
      ap (λ (at : ℕ). round v c at (c.channels.count - at) (at_turn at (behind p s))) turn
      ∙ round_behind w.turn (c.channels.count - w.turn) (at_turn w.turn s)

  ended_behind : (s : Putting) → ended v (behind p s) ≡ behind p (ended w s)
  ended_behind s = ap (λ (n : ℕ). at_turn (if nat_lt n 8 then 0 else s.turn) (behind p s)) (same s.put)

  pub rounds_go_behind : (s : Putting) → rounds v c (behind p s) ≡ behind p (rounds w c s)
  rounds_go_behind s =
      let rest : Putting = rest_of_round w c s in
      ap (λ (u : Putting). ended v (whole_rounds v c u)) (rest_behind s)
      ∙ ap (λ (u : Putting). ended v u) (rounds_of_behind (backlog rest.layer.circuits c.channels.count) rest)
      ∙ ended_behind (whole_rounds w c rest)

-- a packet whose octets are none isn't there
pub none_spelled : (p : PlainPacket) (octets : List ℕ) → octets ≡ spelling_of p → (length octets == 0) ≡ true → ⊥
none_spelled p octets is none = spelled_some p (sym is ∙ empty octets none)
  where
    empty : (os : List ℕ) → (length os == 0) ≡ true → os ≡ []
    empty [] e = refl
    empty (o ∷ os) e = let n = eqb-true (length (o ∷ os)) 0 e in absurd (omega (arith, n))

-- what was put where there was something to put
pub some_put : (x : LinkState) (packet : Option PlainPacket) (octets : List ℕ) → octets ≡ spelled packet → (length octets == 0) ≡ false
    → after_put_to x octets ≡ after_all x (option_to_list packet)
some_put x packet octets is some = sym (octets_put x octets (not_empty octets some)) ∙ all_spelled x packet octets is

pub none_put : (x : LinkState) (packet : Option PlainPacket) (octets : List ℕ) → octets ≡ spelled packet → (length octets == 0) ≡ true
    → x ≡ after_all x (option_to_list packet)
none_put x None octets is none = refl
none_put x (Some p) octets is none = absurd (none_spelled p octets is none)

pub free_for : (octets : List ℕ) (v : ShownLink) → (length octets == 0) ≡ false → (octets ≡ []) ⊎ (waiting_of v < 256) → waiting_of v < 256
free_for octets v some (inl none) = absurd (not_empty octets some none)
free_for octets v some (inr free) = free

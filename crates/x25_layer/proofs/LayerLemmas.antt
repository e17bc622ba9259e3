-- Each answer of a layer, each accepted call and each pull is what an end does that keeps the rules, where what comes is expected.
use Rattle.x25_layer.proofs.Names.{◌≡◌, ℕ, zero, suc, ◌≤◌, List, [], ◌∷◌, Option, Some, None, Bool, true, false, ◌==◌, ◌&&◌, ◌||◌, not, if◌then◌else◌}
use Rattle.x25_layer.proofs.Names.{option_to_list, refl, sym, ap, subst, ◌∙◌, arith, same_Some, eqb-true, Role, Dte, Dce, PlainPacket, call, accept, clear}
use Rattle.x25_layer.proofs.Names.{reset, restart, restart_conf, channel_of, HasChannel, Proposal, Piece, Circuit, forgotten, is_free, PlainNotice, answers}
use Rattle.x25_layer.proofs.Names.{Outcome, Done, Refused, Request, Calls, Accepts, outcome, Pulled, pulled, Side, Live, Left, has_left, At, live, left}
use Rattle.x25_layer.proofs.Names.{LayerPacket, On, Name, both, same_name, is_number, Ranges, LayerSettings, Layer, LayerAnswer, is_channel, put_at, packet_on}
use Rattle.x25_layer.proofs.Names.{notices_on, is_ready, drops, answers_in, layer_answers, LayerRequest, Asks, Dials, Restarts, PullsAll, LayerOutcome, Accepted}
use Rattle.x25_layer.proofs.Names.{Declined, free_channel, puts_at_once, where_room, if_at_once, outcome_on, dialled, restarted_for, outcome_in, layer_outcome}
use Rattle.x25_layer.proofs.Names.{LayerPulled, layer_pulled, bare, bare_layer, bare_layers, AreQuiet, AreNoFaults, Handed, nothing_handed, added, told_by_all}
use Rattle.x25_layer.proofs.Names.{Entry, under, name_of, entries_asked, entries_told, Packet, is_of_end, begun, first_of, lowest_free, highest_free, first_free}
use Rattle.x25_layer.proofs.Names.{where_callable, outcome_ready, answers_on, answers_ready, answers_restarting, IsQuiet, asked_by, moved_to}
use Rattle.std.proofs.lemmas.Bool.{le-leb}
use Rattle.x25_circuit.specs.Cause.{is_fault_of_restart}
use Rattle.x25_handshakes.proofs.{DeedLemmas.{Heard, none, deed, at_once}, EndDeeds.{layer_deeds, heard_on, acted_on}, PeerLayerLemmas.{LayerNext}}
use Rattle.x25_handshakes.specs.laws.{Layers.{addressed}, PeerCalls.{PeerCall}, PeerChannel.{fresh_peer_channel, channel_taking}}
use Rattle.x25_handshakes.specs.laws.PeerLayer.{PeerChannels, put_peer, peer_fresh, layer_taking}
use Rattle.x25_layer.proofs.Ends.{unagreed, view, Shows, Known, bare_if, IsQuietIf, TellNoFault, Goes, ShowsAt, SeesLayer, put_rest, StepOf, LayerGoes}
use Rattle.x25_layer.proofs.{RowLemmas.{still, follows, Heeds, heeds, pulls_as}, StepLemmas.{quiet_step, restart_step, step_on, nothing_if, under_one, told_under}}
use Rattle.x25_layer.specs.{Ranges.{may_call}, laws.PeerJoined.{IsConfigured}, laws.Quiet.{IsQuietAt}, laws.Transcript.{Asked}}
use Rattle.x25_layer.specs.laws.TwoLayers.{shown, entry_of_request, entry_of_dial}
use Rattle.x25_circuit.specs.declared.error.CircuitError.TheVariants as circuit_error
use Rattle.x25_handshakes.specs.laws.PeerLayer as in_layer
use Rattle.x25_layer.specs.declared.error.LayerError.TheVariants as layer_error
use Rattle.x25_layer.specs.Layer as flat

pub true≢false : true ≡ false → ⊥
true≢false e = subst (λ (b : Bool). elim b as (λ _. Type 0) [ true ↦ Unit {0} | false ↦ ⊥ ]) e tt

-- a channel that was never used
begun_shown : (most : ℕ) → Shows most begun fresh_peer_channel []
begun_shown most = record { agreed = unagreed; is = refl; fits = tt }

-- ---- a circuit's packet, on its channel

moved_bare : (most : ℕ) (h : ℕ) (p : PlainPacket) → HasChannel p → bare_layer most (moved_to h p) ≡ On h (bare most p)
moved_bare most h (restart cause diagnostic) has = absurd has
moved_bare most h restart_conf has = absurd has
moved_bare most h other has = refl

moved_quiet : (channels : Ranges) (h : ℕ) (p : PlainPacket) → HasChannel p → IsQuiet p → is_channel channels h ≡ true → IsQuietAt channels (moved_to h p)
moved_quiet channels h (restart cause diagnostic) has ok is = absurd has
moved_quiet channels h restart_conf has ok is = absurd has
moved_quiet channels h (call k called calling facilities user) has ok is = (ok, λ u. is)
moved_quiet channels h (accept k facilities) has ok is = (ok, λ u. is)
moved_quiet channels h (clear k cause diagnostic) has ok is = (ok, λ u. is)
moved_quiet channels h (reset k cause diagnostic) has ok is = (ok, λ u. is)
moved_quiet channels h other has ok is = (tt, λ u. is)

on_bare : (most : ℕ) (h : ℕ) (o : Option PlainPacket) → IsQuietIf o → addressed h (bare_if most o) ≡ bare_layers most (option_to_list (packet_on h o))
on_bare most h None q = refl
on_bare most h (Some p) q = ap (λ (x : LayerPacket). x ∷ []) (sym (moved_bare most h p q.1))

on_quiet : (channels : Ranges) (h : ℕ) (o : Option PlainPacket) → is_channel channels h ≡ true → IsQuietIf o
    → AreQuiet channels (option_to_list (packet_on h o))
on_quiet channels h None is q = tt
on_quiet channels h (Some p) is q = (moved_quiet channels h p q.1 q.0 is, tt)

on_no_fault : (h : ℕ) (ns : List PlainNotice) → TellNoFault ns → AreNoFaults (notices_on h ns)
on_no_fault h [] q = tt
on_no_fault h (n ∷ ns) q = (q.0, on_no_fault h ns q.1)

put_same : (most : ℕ) (b : Bool) (c d : Circuit) (s z : At PeerCall) (v w : List Piece) → Shows most c s v → Shows most d z w
    → Shows most (if b then c else d) (if b then s else z) (if b then v else w)
put_same most true c d s z v w p q = p
put_same most false c d s z v w p q = q

sees_put : (most : ℕ) (e : ℕ) (f : ℕ → Circuit) (x : PeerChannels) (rest : ℕ → List Piece) (h : ℕ) (c : Circuit) (s : At PeerCall) (w : List Piece)
    → ((k : ℕ) → Shows most (f k) (x k) (rest k)) → Shows most c s w → SeesLayer most (is_ready e (put_at f h c)) (live e (put_peer x h s)) (put_rest rest h w)
sees_put most e f x rest h c s w each is = record {
  restarting = refl;
  restarts = refl;
  circuits = λ k. put_same most (k == h) c (f k) s (x k) w (rest k) is (each k);
}

-- ---- what a channel does, its layer does

on_channel : (most : ℕ) (channels : Ranges) (e : ℕ) (f : ℕ → Circuit) (x : PeerChannels) (rest : ℕ → List Piece) (h : ℕ) {y : At PeerChannels}
    {first : List LayerPacket} {z : At PeerCall} {sent : List Packet} (next : Circuit) (owed : Option PlainPacket) (notices : List PlainNotice) (s : Handed)
    (es : List Entry) → is_channel channels h ≡ true → ((k : ℕ) → Shows most (f k) (x k) (rest k)) → (g : Goes most (x h) (rest h) z sent next owed notices s)
    → Heard layer_deeds y first (live e (put_peer x h g.end)) (addressed h (bare_if most owed))
    → ((k : ℕ) (m : Name) → under k m es ≡ (if both (k == h) (same_name m (name_of (is_ready e (put_at f h next)) h)) then s else nothing_handed))
    → LayerGoes most channels (live e x) rest y first (is_ready e (put_at f h next)) (packet_on h owed) (notices_on h notices) es
on_channel most channels e f x rest h {y} {first} next owed notices s es is each g heard said =
    let sees : SeesLayer most (is_ready e (put_at f h next)) (live e (put_peer x h g.end)) (put_rest rest h g.waiting) =
    sees_put most e f x rest h next g.end g.waiting each g.shows in
    record {
      end = live e (put_peer x h g.end);
      waiting = put_rest rest h g.waiting;
      sees = sees;
      heard = subst (λ o. Heard layer_deeds y first (live e (put_peer x h g.end)) o) (on_bare most h owed g.quiet) heard;
      quiet = on_quiet channels h owed is g.quiet;
      no_fault = on_no_fault h notices g.no_fault;
      step = step_on most e x rest h g.end g.waiting (is_ready e (put_at f h next)) s es sees g.notes said;
    }

-- ---- packets handed up

abbrev LayerFollows : ℕ → Ranges → At PeerChannels → (ℕ → List Piece) → At PeerChannels → List LayerPacket → LayerAnswer → Type 0
LayerFollows most channels x rest y first a = LayerGoes most channels x rest y first a.next a.owed a.notices (entries_told a.next a.notices)

if_channel : (most : ℕ) (channels : Ranges) (b : Bool) (u v : LayerAnswer) {x : At PeerChannels} {rest : ℕ → List Piece} {y : At PeerChannels}
    {first : List LayerPacket} → b ≡ true → LayerFollows most channels x rest y first u → LayerFollows most channels x rest y first (if b then u else v)
if_channel most channels true u v is g = g
if_channel most channels false u v is g = absurd (true≢false (sym is))

restarted : (most : ℕ) (channels : Ranges) (e : ℕ) (x : Side PeerChannels) (rest : ℕ → List Piece) (notices : List flat.LayerNotice) → AreNoFaults notices
    → entries_told (is_ready (suc e) (λ k. begun)) notices ≡ []
    → LayerFollows most channels (record { epoch = e; side = x }) rest (live (suc e) peer_fresh) [] (flat.restarts_to e None notices)
restarted most channels e x rest notices clean nothing = record {
  end = live (suc e) peer_fresh;
  waiting = λ k. [];
  sees = record { restarting = refl; restarts = refl; circuits = λ k. begun_shown most };
  heard = none refl;
  quiet = tt;
  no_fault = clean;
  step = subst (λ (es : List Entry). StepOf (record { epoch = e; side = x }) rest (live (suc e) peer_fresh) (λ k. []) es) (sym nothing) (restart_step e x rest);
}

dropped : (most : ℕ) (channels : Ranges) (e : ℕ) (f : ℕ → Circuit) (x : PeerChannels) (rest : ℕ → List Piece)
    → ((k : ℕ) → f k ≡ forgotten (view unagreed [] (x k))) → LayerFollows most channels (left e x) rest (left e x) [] (drops true e f)
dropped most channels e f x rest each = record {
  end = left e x;
  waiting = rest;
  sees = record { restarting = refl; restarts = refl; circuits = each };
  heard = none refl;
  quiet = tt;
  no_fault = tt;
  step = quiet_step (left e x) rest (left e x) rest refl (λ k. still (x k) (rest k));
}

module _ (H : PeerCall → Type 0) (known : Known) (c : LayerSettings) where
  -- what is made of a packet
  abbrev Taken : ℕ → Side PeerChannels → (ℕ → List Piece) → PlainPacket → LayerAnswer → Type 0
  Taken e x rest p a =
      (let s = layer_taking c.circuit.role e x (bare_layer c.circuit.longest p) in
      LayerFollows c.circuit.longest c.channels (record { epoch = e; side = x }) rest s.next s.out a)

  on_its_channel : (e : ℕ) (f : ℕ → Circuit) (x : PeerChannels) (rest : ℕ → List Piece) (p : PlainPacket) → HasChannel p
      → ((k : ℕ) → Shows c.circuit.longest (f k) (x k) (rest k)) → IsConfigured c.channels p
      → LayerNext H c.circuit.role (Live x) (On (channel_of p) (bare c.circuit.longest p))
      → (let h = channel_of p in let s = channel_taking c.circuit.role (x h).epoch (x h).side (bare c.circuit.longest p) in
      LayerFollows c.circuit.longest c.channels (live e x) rest (live e (put_peer x h s.next)) (addressed h s.out)
      (if is_channel c.channels h then answers_on e f h (answers c.circuit (f h) p) else drops false e f))
  on_its_channel e f x rest p has each ok next =
      let h : ℕ = channel_of p in
      let most = c.circuit.longest in
      let s = channel_taking c.circuit.role (x h).epoch (x h).side (bare most p) in
      let a = answers c.circuit (f h) p in
      let l = is_ready e (put_at f h a.next) in
      let g : Goes most (x h) (rest h) s.next s.out a.next a.owed a.notices (told_by_all a.notices) =
      subst (λ (v : Circuit). (let b = answers c.circuit v p in Goes most (x h) (rest h) s.next s.out b.next b.owed b.notices (told_by_all b.notices)))
      (sym (each h).is) (follows H known c.circuit (each h).agreed (x h) (rest h) p (each h).fits has next) in
      if_channel most c.channels (is_channel c.channels h) (answers_on e f h a) (drops false e f) (ok has)
      (on_channel most c.channels e f x rest h a.next a.owed a.notices (told_by_all a.notices) (entries_told l (notices_on h a.notices)) (ok has) each g
      (heard_on e x h g.heard) (λ k m. told_under l h a.notices k m))

  row_ready : (e : ℕ) (f : ℕ → Circuit) (x : PeerChannels) (rest : ℕ → List Piece) (p : PlainPacket)
      → ((k : ℕ) → Shows c.circuit.longest (f k) (x k) (rest k))
      → IsConfigured c.channels p → LayerNext H c.circuit.role (Live x) (bare_layer c.circuit.longest p) → Taken e (Live x) rest p (answers_ready c e f p)
  row_ready e f x rest (restart cause diagnostic) each ok next = record {
    end = live (suc e) peer_fresh;
    waiting = λ k. [];
    sees = record { restarting = refl; restarts = refl; circuits = λ k. begun_shown c.circuit.longest };
    heard = at_once layer_deeds _ _ _ _ refl refl;
    quiet = ((tt, λ no. absurd no), tt);
    no_fault = (tt, tt);
    step = restart_step e (Live x) rest;
  }
  row_ready e f x rest restart_conf each ok next = absurd next
  row_ready e f x rest p each ok next = on_its_channel e f x rest p tt each ok next

  row_restarting : (e : ℕ) (f : ℕ → Circuit) (x : PeerChannels) (rest : ℕ → List Piece) (p : PlainPacket)
      → ((k : ℕ) → f k ≡ forgotten (view unagreed [] (x k))) → Taken e (Left x) rest p (answers_restarting e f p)
  row_restarting e f x rest (restart cause diagnostic) each =
      restarted c.circuit.longest c.channels e (Left x) rest (flat.restarted cause diagnostic ∷ []) (tt, tt) refl
  row_restarting e f x rest restart_conf each = restarted c.circuit.longest c.channels e (Left x) rest (flat.restart_done ∷ []) (tt, tt) refl
  row_restarting e f x rest other each = dropped c.circuit.longest c.channels e f x rest each

  row_side : (b : Bool) (e g : ℕ) (f : ℕ → Circuit) (x : Side PeerChannels) (rest : ℕ → List Piece) (p : PlainPacket) → b ≡ has_left x → e ≡ g
      → ((k : ℕ) → ShowsAt c.circuit.longest x rest k (f k)) → IsConfigured c.channels p
      → LayerNext H c.circuit.role x (bare_layer c.circuit.longest p) → Taken g x rest p (answers_in c b e f p)
  row_side false e g f (Live x) rest p is same each ok next =
      subst (λ (m : ℕ). Taken g (Live x) rest p (answers_in c false m f p)) (sym same) (row_ready g f x rest p each ok next)
  row_side true e g f (Left x) rest p is same each ok next =
      subst (λ (m : ℕ). Taken g (Left x) rest p (answers_in c true m f p)) (sym same) (row_restarting g f x rest p each)
  row_side true e g f (Live x) rest p is same each ok next = absurd (true≢false is)
  row_side false e g f (Left x) rest p is same each ok next = absurd (true≢false (sym is))

  -- A packet handed up.
  pub layer_follows : (l : Layer) (y : At PeerChannels) (rest : ℕ → List Piece) (p : PlainPacket) → SeesLayer c.circuit.longest l y rest
      → IsConfigured c.channels p → LayerNext H c.circuit.role y.side (bare_layer c.circuit.longest p)
      → (let s = layer_taking c.circuit.role y.epoch y.side (bare_layer c.circuit.longest p) in let a = layer_answers c l p in
      LayerGoes c.circuit.longest c.channels y rest s.next s.out a.next a.owed a.notices (entries_told a.next a.notices))
  layer_follows l y rest p s ok next = row_side l.restarting l.restarts y.epoch l.circuits y.side rest p s.restarting s.restarts s.circuits ok next

-- ---- calls of the user

-- a request that is accepted is what an end does
abbrev pub HeedsLayer : LayerSettings → Layer → LayerRequest → LayerOutcome → At PeerChannels → (ℕ → List Piece) → Type 0
HeedsLayer c l request (Accepted next packet) x rest =
    LayerGoes c.circuit.longest c.channels x rest x [] next packet [] (entries_asked c l next request)
HeedsLayer c l request (Declined error) x rest = Unit {0}

-- a request that does something itself
abbrev pub DoesItself : LayerRequest → Type 0
DoesItself PullsAll = ⊥
DoesItself request = Unit {0}

-- the values that an acceptance is entered with are handed to nobody
asked_shown : (x : Circuit) (request : Request) → asked_by (shown x request) ≡ asked_by request
asked_shown x (Accepts answer) = refl
asked_shown x other = refl

asked_on : (c : LayerSettings) (e : ℕ) (f : ℕ → Circuit) (x : PeerChannels) (rest : ℕ → List Piece) (h : ℕ) (request : Request) (d : Outcome)
    → is_channel c.channels h ≡ true → ((k : ℕ) → Shows c.circuit.longest (f k) (x k) (rest k)) → Heeds c.circuit.longest (x h) (rest h) d (asked_by request)
    → (l : Layer) (r : LayerRequest) → ((n : Layer) → entries_asked c l n r ≡ entry_of_request n h request)
    → HeedsLayer c l r (outcome_on e f h d) (live e x) rest
asked_on c e f x rest h request (Done next packet) is each g l r same =
    let n : Layer = is_ready e (put_at f h next) in
    subst (λ (es : List Entry). LayerGoes c.circuit.longest c.channels (live e x) rest (live e x) [] n (packet_on h packet) [] es) (sym (same n))
    (on_channel c.circuit.longest c.channels e f x rest h next packet [] (asked_by request) (entry_of_request n h request) is each g (acted_on e x h g.heard)
    (λ k m. ap (λ (said : Handed). added (if both (k == h) (same_name m (name_of n h)) then said else nothing_handed) nothing_handed)
    (asked_shown (n.circuits h) request)
    ∙ sym (under_one k m (record { channel = h; name = name_of n h; said = Asked request }) (asked_by request))))
asked_on c e f x rest h request (Refused error) is each g l r same = tt

room : (c : LayerSettings) (l : Layer) (r : LayerRequest) (full : Bool) (good : LayerOutcome) (x : At PeerChannels) (rest : ℕ → List Piece)
    → HeedsLayer c l r good x rest → HeedsLayer c l r (where_room full good) x rest
room c l r true good x rest h = tt
room c l r false good x rest h = h

at_its_time : (c : LayerSettings) (l : Layer) (r : LayerRequest) (now full : Bool) (good : LayerOutcome) (x : At PeerChannels) (rest : ℕ → List Piece)
    → HeedsLayer c l r good x rest → HeedsLayer c l r (if_at_once now full good) x rest
at_its_time c l r true full good x rest h = room c l r full good x rest h
at_its_time c l r false full good x rest h = h

if_there : (c : LayerSettings) (l : Layer) (r : LayerRequest) (b : Bool) (good : LayerOutcome) (error : _) (x : At PeerChannels) (rest : ℕ → List Piece)
    → (b ≡ true → HeedsLayer c l r good x rest) → HeedsLayer c l r (if b then good else Declined error) x rest
if_there c l r true good error x rest h = h refl
if_there c l r false good error x rest h = tt

-- a free channel is a configured one

pub is_between : (n h : ℕ) → 1 ≤ h → h ≤ n → is_number n h ≡ true
is_between n h low high = rw (le-leb 1 h low) (rw (le-leb h n high) refl)

lowest_in : (f : ℕ → Circuit) (n h : ℕ) → lowest_free f n ≡ Some h → (1 ≤ h) × (h ≤ n)
lowest_in f zero h e = absurd (cc)
lowest_in f (suc n) h e = step (lowest_free f n) (λ k is. lowest_in f n k is) (is_free (f (suc n))) e
  where
    step : (o : Option ℕ) → ((k : ℕ) → o ≡ Some k → (1 ≤ k) × (k ≤ n)) → (b : Bool) → first_of o b (suc n) ≡ Some h → (1 ≤ h) × (h ≤ suc n)
    step (Some k) below b is = let r = below k refl in let same = same_Some k h is in (omega (arith, r.0, same), omega (arith, r.1, same))
    step None below true is = let same = same_Some (suc n) h is in (omega (arith, same), omega (arith, same))
    step None below false is = absurd (cc)

highest_in : (f : ℕ → Circuit) (n h : ℕ) → highest_free f n ≡ Some h → (1 ≤ h) × (h ≤ n)
highest_in f zero h e = absurd (cc)
highest_in f (suc n) h e = step (λ is. highest_in f n h is) (is_free (f (suc n))) e
  where
    step : (highest_free f n ≡ Some h → (1 ≤ h) × (h ≤ n)) → (b : Bool) → (if b then Some (suc n) else highest_free f n) ≡ Some h → (1 ≤ h) × (h ≤ suc n)
    step below true is = let same = same_Some (suc n) h is in (omega (arith, same), omega (arith, same))
    step below false is = let r = below is in (omega (arith, r.0), omega (arith, r.1))

first_in : (role : Role) (f : ℕ → Circuit) (n h : ℕ) → first_free role f n ≡ Some h → is_number n h ≡ true
first_in Dte f n h e = let r = highest_in f n h e in is_between n h r.0 r.1
first_in Dce f n h e = let r = lowest_in f n h e in is_between n h r.0 r.1

free_in : (role : Role) (f : ℕ → Circuit) (channels : Ranges) (h : ℕ) → free_channel role f channels ≡ Some h → is_channel channels h ≡ true
free_in role f channels h e = found (first_free role f channels.count) (λ k is. first_in role f channels.count k is) e
  where
    may : (k : ℕ) (b : Bool) → is_number channels.count k ≡ true → (if b then Some k else None) ≡ Some h → is_channel channels h ≡ true
    may k true is same = subst (λ (n : ℕ). is_channel channels n ≡ true) (same_Some k h same) is
    may k false is same = absurd (cc)

    found : (o : Option ℕ) → ((k : ℕ) → o ≡ Some k → is_number channels.count k ≡ true) → where_callable role channels o ≡ Some h → is_channel channels h ≡ true
    found None is same = absurd (cc)
    found (Some k) is same = may k (may_call role channels k) (is k refl) same

-- the circuit of a configured channel does what is asked
circuit_asked : Known → (c : LayerSettings) (e : ℕ) (f : ℕ → Circuit) (x : PeerChannels) (rest : ℕ → List Piece) (h : ℕ) (request : Request)
    → is_channel c.channels h ≡ true → ((k : ℕ) → Shows c.circuit.longest (f k) (x k) (rest k))
    → (l : Layer) (r : LayerRequest) → ((n : Layer) → entries_asked c l n r ≡ entry_of_request n h request)
    → HeedsLayer c l r (outcome_on e f h (outcome c.circuit (f h) request)) (live e x) rest
circuit_asked known c e f x rest h request is each l r same =
    asked_on c e f x rest h request (outcome c.circuit (f h) request) is each
    (subst (λ (y : Circuit). Heeds c.circuit.longest (x h) (rest h) (outcome c.circuit y request) (asked_by request)) (sym (each h).is)
    (heeds known c.circuit (each h).agreed (x h) (rest h) request (each h).fits))
    l r same

dial : Known → (c : LayerSettings) (full : Bool) (e : ℕ) (f : ℕ → Circuit) (x : PeerChannels) (rest : ℕ → List Piece) (called calling user : List ℕ)
    (proposal : Proposal) → ((k : ℕ) → Shows c.circuit.longest (f k) (x k) (rest k)) → (l : Layer) → l.circuits ≡ f
    → HeedsLayer c l (Dials called calling user proposal) (dialled c full e f (free_channel c.circuit.role f c.channels) called calling user proposal)
    (live e x) rest
dial known c full e f x rest called calling user proposal each l same = found (free_channel c.circuit.role f c.channels) refl
  where
    found : (o : Option ℕ) → free_channel c.circuit.role f c.channels ≡ o
        → HeedsLayer c l (Dials called calling user proposal) (dialled c full e f o called calling user proposal) (live e x) rest
    found None is = tt
    found (Some h) is =
        room c l (Dials called calling user proposal) full (outcome_on e f h (outcome c.circuit (f h) (Calls called calling user proposal))) (live e x) rest
        (circuit_asked known c e f x rest h (Calls called calling user proposal) (free_in c.circuit.role f c.channels h is) each l
        (Dials called calling user proposal)
        (λ n. ap (λ o. entry_of_dial n o (Calls called calling user proposal)) (ap (λ (g : ℕ → Circuit). free_channel c.circuit.role g c.channels) same ∙ is)))

asked_ready : Known → (c : LayerSettings) (full : Bool) (e : ℕ) (l : Layer) (x : PeerChannels) (rest : ℕ → List Piece) (r : LayerRequest) → DoesItself r
    → ((k : ℕ) → Shows c.circuit.longest (l.circuits k) (x k) (rest k)) → HeedsLayer c l r (outcome_ready c full e l.circuits r) (live e x) rest
asked_ready known c full e l x rest (Asks h request) does each =
    if_there c l (Asks h request) (is_channel c.channels h)
    (if_at_once (puts_at_once request) full (outcome_on e l.circuits h (outcome c.circuit (l.circuits h) request))) _ (live e x) rest
    (λ is. at_its_time c l (Asks h request) (puts_at_once request) full (outcome_on e l.circuits h (outcome c.circuit (l.circuits h) request)) (live e x) rest
    (circuit_asked known c e l.circuits x rest h request is each l (Asks h request) (λ n. refl)))
asked_ready known c full e l x rest (Dials called calling user proposal) does each =
    dial known c full e l.circuits x rest called calling user proposal each l refl
asked_ready known c full e l x rest PullsAll does each = absurd does
asked_ready known c full e l x rest (Restarts cause diagnostic) does each =
    room c l (Restarts cause diagnostic) full (restarted_for c.circuit.role e l.circuits cause diagnostic) (live e x) rest
    (given (is_fault_of_restart cause) refl (cause == 0 || is_of_end c.circuit.role cause))
  where
    given : (is_fault : Bool) → is_fault_of_restart cause ≡ is_fault → (b : Bool)
        → HeedsLayer c l (Restarts cause diagnostic)
        (if not is_fault && b then Accepted (flat.restarting_from e l.circuits) (Some (restart cause diagnostic))
        else Declined (layer_error.Circuit circuit_error.BadParameter)) (live e x) rest
    given true is b = tt
    given false is false = tt
    given false is true = record {
      end = left e x;
      waiting = rest;
      sees = record { restarting = refl; restarts = refl; circuits = λ k. ap forgotten (each k).is };
      heard = deed in_layer.Restarts (tt, tt) refl refl;
      quiet = ((is, λ no. absurd no), tt);
      no_fault = tt;
      step = quiet_step (live e x) rest (left e x) rest refl (λ k. still (x k) (rest k));
    }

-- A call of the user.
pub layer_heeds : Known → (c : LayerSettings) (full : Bool) (l : Layer) (y : At PeerChannels) (rest : ℕ → List Piece) (r : LayerRequest) → DoesItself r
    → SeesLayer c.circuit.longest l y rest → HeedsLayer c l r (layer_outcome c full l r) y rest
layer_heeds known c full l y rest r does s = side l.restarting y.side s.restarting s.circuits
  where
    side : (b : Bool) (x : Side PeerChannels) → b ≡ has_left x → ((k : ℕ) → ShowsAt c.circuit.longest x rest k (l.circuits k))
        → HeedsLayer c l r (outcome_in c full b l.restarts l.circuits r) (record { epoch = y.epoch; side = x }) rest
    side true x is each = tt
    side false (Left x) is each = absurd (true≢false (sym is))
    side false (Live x) is each =
        subst (λ (m : ℕ). HeedsLayer c l r (outcome_ready c full m l.circuits r) (live y.epoch x) rest) (sym s.restarts)
        (asked_ready known c full y.epoch l x rest r does each)

-- ---- pulls

pulled_forgotten : (k h : ℕ) (f : ℕ → Circuit) (x : PeerChannels) → ((j : ℕ) → f j ≡ forgotten (view unagreed [] (x j))) → (y : Circuit) → y
    ≡ forgotten (view unagreed [] (x h)) → (b : Bool) → (k == h) ≡ b → (if b then y else f k) ≡ forgotten (view unagreed [] (x k))
pulled_forgotten k h f x each y is true at = is ∙ ap (λ (j : ℕ). forgotten (view unagreed [] (x j))) (sym (eqb-true k h at))
pulled_forgotten k h f x each y is false at = each k

-- a pull of the layer
pub layer_pulls : (c : LayerSettings) (l : Layer) (y : At PeerChannels) (rest : ℕ → List Piece) (h : ℕ) → is_channel c.channels h ≡ true
    → SeesLayer c.circuit.longest l y rest
    → LayerGoes c.circuit.longest c.channels y rest y [] (layer_pulled c l h).next (layer_pulled c l h).packet [] []
layer_pulls c l y rest h is s = side l.restarting y.side s.restarting s.circuits
  where
    side : (b : Bool) (x : Side PeerChannels) → b ≡ has_left x → ((k : ℕ) → ShowsAt c.circuit.longest x rest k (l.circuits k))
        → let p : LayerPulled = record {
          next = record {
            restarting = b;
            restarts = l.restarts;
            circuits = put_at l.circuits h (pulled c.circuit (l.circuits h)).next;
          };
          packet = packet_on h (pulled c.circuit (l.circuits h)).packet;
        } in
        LayerGoes c.circuit.longest c.channels (record { epoch = y.epoch; side = x }) rest (record { epoch = y.epoch; side = x }) [] p.next p.packet [] []
    side true (Live x) differ each = absurd (true≢false differ)
    side false (Left x) differ each = absurd (true≢false (sym differ))
    side true (Left x) same each =
        let kept : pulled c.circuit (l.circuits h) ≡ record { next = forgotten (view unagreed [] (x h)); packet = None } =
        ap (λ (y : Circuit). pulled c.circuit y) (each h) in
        record {
          end = left y.epoch x;
          waiting = rest;
          sees = record {
            restarting = refl;
            restarts = s.restarts;
            circuits = λ k. pulled_forgotten k h l.circuits x each (pulled c.circuit (l.circuits h)).next (ap (λ (p : Pulled). p.next) kept) (k == h) refl;
          };
          heard = subst (λ (p : Pulled). Heard layer_deeds (left y.epoch x) [] (left y.epoch x)
              (bare_layers c.circuit.longest (option_to_list (packet_on h p.packet)))) (sym kept) (none refl);
          quiet = subst (λ (p : Pulled). AreQuiet c.channels (option_to_list (packet_on h p.packet))) (sym kept) tt;
          no_fault = tt;
          step = quiet_step (left y.epoch x) rest (left y.epoch x) rest refl (λ k. still (x k) (rest k));
        }
    side false (Live x) same each =
        let g : Goes c.circuit.longest (x h) (rest h) (x h) [] (pulled c.circuit (l.circuits h)).next (pulled c.circuit (l.circuits h)).packet [] nothing_handed =
        subst (λ (v : Circuit). Goes c.circuit.longest (x h) (rest h) (x h) [] (pulled c.circuit v).next (pulled c.circuit v).packet [] nothing_handed)
        (sym (each h).is) (pulls_as c.circuit (each h).agreed (x h) (rest h) (each h).fits) in
        subst (λ (m : ℕ). LayerGoes c.circuit.longest c.channels (live y.epoch x) rest (live y.epoch x) []
        (is_ready m (put_at l.circuits h (pulled c.circuit (l.circuits h)).next)) (packet_on h (pulled c.circuit (l.circuits h)).packet) [] []) (sym s.restarts)
        (on_channel c.circuit.longest c.channels y.epoch l.circuits x rest h (pulled c.circuit (l.circuits h)).next (pulled c.circuit (l.circuits h)).packet []
        nothing_handed [] is each g (acted_on y.epoch x h g.heard) (λ k m. nothing_if _))

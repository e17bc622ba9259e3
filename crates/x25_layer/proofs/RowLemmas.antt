-- Each row of a circuit's table is what an end does that keeps the rules, where what comes is expected.
use Rattle.x25_layer.proofs.Names.{◌≡◌, inl, inr, ℕ, suc, ◌+◌, ◌%◌, List, [], ◌∷◌, ◌++◌, length, Option, Some, None, Bool, true, false, nat_lt, nat_le}
use Rattle.x25_layer.proofs.Names.{◌==◌, ◌&&◌, ◌||◌, if◌then◌else◌, refl, sym, ap, subst, ◌∙◌, arith, and_parts, Role, Dte, Dce, PlainPacket, call, accept, clear}
use Rattle.x25_layer.proofs.Names.{clear_conf, user_data, rr, rnr, interrupt, interrupt_conf, reset, reset_conf, restart, restart_conf, HasChannel, Marks, Message}
use Rattle.x25_layer.proofs.Names.{Piece, piece_of, no_part, joining, completed, carried, wholes, Params, BadParameter, Open, Clearing, Terms, Proposal, default_params}
use Rattle.x25_layer.proofs.Names.{may_propose, may_answer, field_for, said_in, CircuitSettings, Circuit, CallRequest, connected, deliveries, answers, unless, takes}
use Rattle.x25_layer.proofs.Names.{hears_status, confirms, request_in, goes, clears_for, collides, Answer, Outcome, Done, Refused, Request, Calls, Accepts, Clears}
use Rattle.x25_layer.proofs.Names.{Sends, Interrupts, Resets, SaysReady, SaysNotReady, does, request_of, may_call, outcome, Pulled, pulled, pull_open}
use Rattle.x25_layer.proofs.Names.{pulls_nothing, Side, Live, Left, At, live, left, Packet, Unused, Waiting, Offered, Crossed, Talking}
use Rattle.x25_layer.proofs.Names.{data_packet, is_of_end, Data, Call, Accept, Handed, nothing_handed, added, told_by_all, asked_by, bare}
use Rattle.std.proofs.lemmas.{Bool.{cond_both, eq-eqb, le-leb, leb-true, ltb-true, true≢false}, Grind.{common_steps}, List.{length_push}}
use Rattle.x25_circuit.specs.Calling.{send_open, interrupt_open, ready_open}
use Rattle.x25_circuit.specs.Hearing.{status, data_ground, number_ground}
use Rattle.x25_circuit.specs.{Cause.{may_give, is_fault_of_clear, is_fault_of_reset}, Message.{More, Last, cut}}
use Rattle.x25_circuit.specs.declared.error.CircuitError.TheVariants.{Full, TooLong, InterruptOutstanding}
use Rattle.x25_handshakes.proofs.{DeedLemmas.{Heard, none, deed, at_once}, EndDeeds.{channel_deeds}, PartLemmas.{Text-send, Text-pull, up-take}}
use Rattle.x25_handshakes.proofs.{PeerChannelLemmas.{ChannelNext}, PeerDeeds.{takes_next}, TermsLemmas.{IsSound, answer_sound, answer_read}}
use Rattle.x25_handshakes.proofs.{PeerCallLemmas.{Next as NextThere}, StageLemmas.{MayCome}, TextLemmas.{AreSound-back}}
use Rattle.x25_handshakes.specs.laws.{Calls.{Stage}, PeerCalls.{PeerCall, fresh_peer_call, stands, calling_in_data, called_in_data, InTransfer}}
use Rattle.x25_handshakes.specs.laws.{PeerChannel.{InCall, channel_taking}, PeerStretch.{PeerStretch, fresh_peer, taking}, PeerTransfer.{InStretch}}
use Rattle.x25_handshakes.specs.laws.TwoPeers.{Expects}
use Rattle.x25_layer.proofs.Ends.{talk_of, Agreed, unagreed, sent_on, taken_on, resets_of, view, Own, OwnIn, FitsTalk, FitsIn, Fits, Known, bare_if}
use Rattle.x25_layer.proofs.Ends.{IsQuietIf, TellNoFault, held_of, Tells, Notes, Adds, AfterReset, AfterClear, Goes}
use Rattle.x25_layer.proofs.ParamsLemmas.{no_field, call_proposes}
use Rattle.x25_packet.specs.Digits.{digits_of_text}
use Rattle.x25_handshakes.specs.laws.PeerCalls as in_calls
use Rattle.x25_handshakes.specs.laws.PeerChannel as in_channel
use Rattle.x25_handshakes.specs.laws.PeerStretch as in_stretch
use Rattle.x25_handshakes.specs.laws.PeerTransfer as in_transfer
use Rattle.x25_handshakes.specs.laws.Stretch as bared

-- ---- what is said

-- nothing more
pub append_nil : {A : Type 0} (a : List A) → a ++ [] ≡ a
append_nil a = grind (arith, common_steps)

handed_is : (m m₂ : List CallRequest) → m ≡ m₂ → (i i₂ : List CallRequest) → i ≡ i₂ → (d d₂ : List Message) → d ≡ d₂ → (u u₂ : List Message) → u ≡ u₂
    → (x x₂ : List (List ℕ)) → x ≡ x₂
    → (y y₂ : List (List ℕ)) → y ≡ y₂
    → ◌≡◌ {A = Handed} (record { made = m; indicated = i; down = d; up = u; int_down = x; int_up = y })
    (record { made = m₂; indicated = i₂; down = d₂; up = u₂; int_down = x₂; int_up = y₂ })
handed_is m m₂ p i i₂ q d d₂ r u u₂ s x x₂ t y y₂ v =
    ap (λ (a : List CallRequest). record { made = a; indicated = i; down = d; up = u; int_down = x; int_up = y }) p
    ∙ ap (λ (a : List CallRequest). record { made = m₂; indicated = a; down = d; up = u; int_down = x; int_up = y }) q
    ∙ ap (λ (a : List Message). record { made = m₂; indicated = i₂; down = a; up = u; int_down = x; int_up = y }) r
    ∙ ap (λ (a : List Message). record { made = m₂; indicated = i₂; down = d₂; up = a; int_down = x; int_up = y }) s
    ∙ ap (λ (a : List (List ℕ)). record { made = m₂; indicated = i₂; down = d₂; up = u₂; int_down = a; int_up = y }) t
    ∙ ap (λ (a : List (List ℕ)). record { made = m₂; indicated = i₂; down = d₂; up = u₂; int_down = x₂; int_up = a }) v

nil : {T : Type 0} (l : List T) → l ≡ l ++ []
nil l = sym (append_nil l)

added_nothing : (b : Handed) → b ≡ added b nothing_handed
added_nothing b = handed_is b.made _ (nil b.made) b.indicated _ (nil b.indicated) b.down _ (nil b.down) b.up _ (nil b.up) b.int_down _ (nil b.int_down)
    b.int_up _ (nil b.int_up)

tells_nothing : {n : At PeerCall} → Tells n nothing_handed
tells_nothing = record { calls = inl refl; stretch = inl (refl, refl) }

-- nothing is said, and the name and the lists stay
silent : (x : At PeerCall) (rest : List Piece) (y : At PeerCall) (waiting : List Piece) → y.epoch ≡ x.epoch → resets_of y ≡ resets_of x
    → held_of y waiting ≡ held_of x rest → Notes x rest y waiting nothing_handed
silent x rest y waiting e r h = Adds e r (h ∙ added_nothing (held_of x rest)) (inl (refl, refl)) tells_nothing

pub still : (n : At PeerCall) (rest : List Piece) → Notes n rest n rest nothing_handed
still n rest = silent n rest n rest refl refl refl

told_deliveries : (ms : List Message) → told_by_all (deliveries ms) ≡ record { made = []; indicated = []; down = []; up = ms; int_down = []; int_up = [] }
told_deliveries [] = refl
told_deliveries (m ∷ ms) = ap (λ (s : Handed). added (record { made = []; indicated = []; down = []; up = m ∷ []; int_down = []; int_up = [] }) s)
    (told_deliveries ms)

deliveries_quiet : (ms : List Message) → TellNoFault (deliveries ms)
deliveries_quiet [] = tt
deliveries_quiet (m ∷ ms) = (tt, deliveries_quiet ms)

-- ---- where it stands

abbrev pub in_call : ℕ → List CallRequest → List CallRequest → Stage (At PeerStretch) → At PeerCall
in_call e m i a = live e (stands a m i)

-- p4, on the terms agreed
abbrev in_talk : ℕ → Agreed → ℕ → List CallRequest → List CallRequest → At PeerStretch → At PeerCall
in_talk most g e m i at = in_call e m i (Talking (sent_on most g) (taken_on most g) at)

abbrev in_open : ℕ → Agreed → ℕ → List CallRequest → List CallRequest → ℕ → PeerStretch → At PeerCall
in_open most g e m i s y = in_talk most g e m i (live s y)

abbrev in_resetting : ℕ → Agreed → ℕ → List CallRequest → List CallRequest → ℕ → PeerStretch → At PeerCall
in_resetting most g e m i s y = in_talk most g e m i (left s y)

-- it sent and took nothing yet
own_fresh : (t : Terms) → Own t fresh_peer []
own_fresh t = record { told = refl; owed = refl; text = record { fits = tt; whole = refl; messages = refl } }

talk_fits : {most : ℕ} {g : Agreed} {rest : List Piece} {side : Side PeerStretch} → IsSound (sent_on most g) → OwnIn (sent_on most g) rest side
    → FitsTalk most g rest (sent_on most g) (taken_on most g) side
talk_fits sound own = record { sends = refl; takes = refl; sound = sound; own = own }

-- all stays as it is
stays : (most : ℕ) (x : At PeerCall) {rest : List Piece} (g : Agreed) → Fits most g rest x.side → {first : List Packet} → [] ≡ first
    → Goes most x rest x first (view g rest x) None [] nothing_handed
stays most x {rest} g fits {first} out = record {
  end = x;
  waiting = rest;
  shows = record { agreed = g; is = refl; fits = fits };
  heard = subst (λ o. Heard channel_deeds x o x []) out (none refl);
  quiet = tt;
  no_fault = tt;
  notes = still x rest;
}

bare_status : (most : ℕ) (b : Bool) (n : ℕ) → bared.status b n ∷ [] ≡ bare_if most (Some (status b n))
bare_status most true n = refl
bare_status most false n = refl

quiet_status : (b : Bool) (n : ℕ) → IsQuietIf (Some (status b n))
quiet_status true n = (tt, tt)
quiet_status false n = (tt, tt)

-- what came, and what the row makes of it
abbrev Follows : ℕ → At PeerCall → List Piece → At PeerCall → List Packet → Answer → Type 0
Follows most x rest y first a = Goes most x rest y first a.next a.owed a.notices (told_by_all a.notices)

-- ---- rows of d1

data_row : (c : CircuitSettings) (g : Agreed) (e : ℕ) (m i : List CallRequest) (s : ℕ) (y : PeerStretch) (rest : List Piece) (ps pr : ℕ) (p : Piece)
    → IsSound (sent_on c.longest g) → Own (sent_on c.longest g) y rest → Expects (taken_on c.longest g) y (Data ps pr p)
    → (let x = in_open c.longest g e m i s y in let v = view g rest x in
    Follows c.longest x rest (in_open c.longest g e m i s (taking y (Data ps pr p))) []
    (unless c v (data_ground c.longest (taken_on c.longest g).size (talk_of y rest) ps pr p) (takes v (talk_of y rest) pr p)))
data_row c g e m i s y rest ps pr p sound own is =
    let n = length_push y.taken p in
    let told = own.told in
    let x = in_open c.longest g e m i s y in
    let v = view g rest x in
    let ground : data_ground c.longest (taken_on c.longest g).size (talk_of y rest) ps pr p ≡ None =
    rw (le-leb _ (length y.sent) is.1) (rw (eq-eqb ps (length y.taken % 8) is.0) is.2) in
    let up : carried (y.taken ++ p ∷ []) ≡ carried y.taken ++ completed (joining no_part y.taken) p = sym (up-take (carried y.taken) y.taken p refl) in
    let said = told_deliveries (completed (joining no_part y.taken) p) in
    subst (λ k. Follows c.longest x rest (in_open c.longest g e m i s (taking y (Data ps pr p))) [] (unless c v k (takes v (talk_of y rest) pr p))) (sym ground)
    (subst (λ z. Follows c.longest x rest (in_open c.longest g e m i s z) [] (takes v (talk_of y rest) pr p)) (takes_next y ps pr p is.0)
    (record {
      end = _;
      waiting = rest;
      shows = record {
        agreed = g;
        is = refl;
        fits = talk_fits {side = Live _} sound (record { told = sym n; owed = own.owed; text = own.text });
      };
      heard = deed (InCall (InTransfer (InStretch (in_stretch.Says y.own_ready (length y.taken + 1)))))
          (record { rising = omega (arith, told); taken = omega (arith, n) }, tt) refl (bare_status c.longest y.own_ready (length y.taken + 1));
      quiet = quiet_status y.own_ready (length y.taken + 1);
      no_fault = deliveries_quiet (completed (joining no_part y.taken) p);
      notes = Adds refl refl
          (handed_is m _ (nil m) i _ (nil i) (carried (y.sent ++ rest)) _ (nil (carried (y.sent ++ rest))) (carried (y.taken ++ p ∷ [])) _ up y.int_down
          _ (nil y.int_down) y.int_up _ (nil y.int_up)
          ∙ ap (λ (t : Handed). added (held_of x rest) t) (sym said))
          (inl (ap (λ (t : Handed). t.made) said, ap (λ (t : Handed). t.indicated) said))
          (record { calls = inl (ap (λ (t : Handed). t.indicated) said); stretch = inr (refl, refl) });
    }))

status_row : (c : CircuitSettings) (g : Agreed) (e : ℕ) (m i : List CallRequest) (s : ℕ) (y : PeerStretch) (rest : List Piece) (b : Bool) (pr acked : ℕ)
    → IsSound (sent_on c.longest g) → Own (sent_on c.longest g) y rest → (ground : Option ℕ) → ground ≡ None
    → (let x = in_open c.longest g e m i s y in let v = view g rest x in
    (hears_status v (talk_of y rest) b pr).next ≡ view g rest (in_open c.longest g e m i s (record y { acked = acked; peer_ready = b }))
    → Follows c.longest x rest (in_open c.longest g e m i s (record y { acked = acked; peer_ready = b })) [] (unless c v ground
    (hears_status v (talk_of y rest) b pr)))
status_row c g e m i s y rest b pr acked sound own ground is shown =
    let x = in_open c.longest g e m i s y in
    let v = view g rest x in
    let z = in_open c.longest g e m i s (record y { acked = acked; peer_ready = b }) in
    subst (λ k. Follows c.longest x rest z [] (unless c v k (hears_status v (talk_of y rest) b pr))) (sym is)
    (record {
      end = z;
      waiting = rest;
      shows = record { agreed = g; is = shown; fits = talk_fits {side = Live _} sound (record { told = own.told; owed = own.owed; text = own.text }) };
      heard = none refl;
      quiet = tt;
      no_fault = tt;
      notes = silent x rest z rest refl refl refl;
    })

-- ---- what a channel makes of a CLEAR, and p4 of a RESET, wherever it stands

cleared : {most : ℕ} {x : At PeerCall} {rest : List Piece} {first : List Packet} {next : Circuit} {owed : Option PlainPacket} {notices : _} {h : Handed}
    → next ≡ view unagreed [] (live (suc x.epoch) fresh_peer_call) → first ≡ bare_if most owed → IsQuietIf owed → TellNoFault notices → h ≡ nothing_handed
    → Goes most x rest (live (suc x.epoch) fresh_peer_call) first next owed notices h
cleared {x} {rest} is out quiet clean nothing = record {
  end = live (suc x.epoch) fresh_peer_call;
  waiting = [];
  shows = record { agreed = unagreed; is = is; fits = tt };
  heard = at_once channel_deeds _ _ _ _ refl out;
  quiet = quiet;
  no_fault = clean;
  notes = AfterClear (omega arith) nothing refl;
}

was_reset : {most : ℕ} (g : Agreed) (e : ℕ) (m i : List CallRequest) (s : ℕ) {side : Side PeerStretch} {rest : List Piece} {first : List Packet} {next : Circuit}
    {owed : Option PlainPacket} {notices : _} {h : Handed} → IsSound (sent_on most g) → next ≡ view g [] (in_open most g e m i (suc s) fresh_peer)
    → first ≡ bare_if most owed → IsQuietIf owed → TellNoFault notices → h ≡ nothing_handed
    → Goes most (in_talk most g e m i (record { epoch = s; side = side })) rest (in_open most g e m i (suc s) fresh_peer) first next owed notices h
was_reset {most} g e m i s sound is out quiet clean nothing = record {
  end = in_open most g e m i (suc s) fresh_peer;
  waiting = [];
  shows = record { agreed = g; is = is; fits = talk_fits {side = Live _} sound (own_fresh (sent_on most g)) };
  heard = at_once channel_deeds _ _ _ _ refl out;
  quiet = quiet;
  no_fault = clean;
  notes = AfterReset refl (omega arith) nothing refl;
}

-- ---- rows by state

-- the claim of a row: what the end makes of the packet
abbrev Row : CircuitSettings → Agreed → List Piece → At PeerCall → PlainPacket → Type 0
Row c g rest x p =
    (let s = channel_taking c.role x.epoch x.side (bare c.longest p) in Follows c.longest x rest s.next s.out (answers c (view g rest x) p))

module _ (H : PeerCall → Type 0) where
  abbrev Next : CircuitSettings → At PeerCall → PlainPacket → Type 0
  Next c x p = HasChannel p × ChannelNext H c.role x.side (bare c.longest p)

  row_open : (c : CircuitSettings) (g : Agreed) (e : ℕ) (m i : List CallRequest) (s : ℕ) (y : PeerStretch) (rest : List Piece) (p : PlainPacket)
      → IsSound (sent_on c.longest g) → Own (sent_on c.longest g) y rest → Next c (in_open c.longest g e m i s y) p
      → Row c g rest (in_open c.longest g e m i s y) p
  row_open c g e m i s y rest (clear h cause n) sound own is = cleared refl refl (tt, tt) (tt, tt) refl
  row_open c g e m i s y rest (user_data h qualifier more ps pr user) sound own is =
      data_row c g e m i s y rest ps pr (piece_of qualifier more user) sound own is.1
  row_open c g e m i s y rest (rr h pr) sound own is =
      status_row c g e m i s y rest true pr _ sound own (number_ground (talk_of y rest) pr) (rw (le-leb _ (length y.sent) is.1) refl) refl
  row_open c g e m i s y rest (rnr h pr) sound own is =
      status_row c g e m i s y rest false pr _ sound own (number_ground (talk_of y rest) pr) (rw (le-leb _ (length y.sent) is.1) refl) refl
  row_open c g e m i s y rest (interrupt h user) sound own is =
      let owed = own.owed in
      record {
        end = _;
        waiting = rest;
        shows = record {
          agreed = g;
          is = refl;
          fits = talk_fits {side = Live _} sound (record { told = own.told; owed = omega (arith, owed); text = own.text });
        };
        heard = deed (InCall (InTransfer (InStretch in_stretch.Confirms))) (omega arith, tt) refl refl;
        quiet = (tt, tt);
        no_fault = (tt, tt);
        notes = Adds refl refl
            (handed_is m _ (nil m) i _ (nil i) (carried (y.sent ++ rest)) _ (nil (carried (y.sent ++ rest))) (carried y.taken) _ (nil (carried y.taken)) y.int_down
            _ (nil y.int_down) (y.int_up ++ user ∷ []) _ refl)
            (inl (refl, refl)) (record { calls = inl refl; stretch = inr (refl, refl) });
      }
  row_open c g e m i s y rest (interrupt_conf h) sound own is =
      let x = in_open c.longest g e m i s y in
      let v = view g rest x in
      let z = in_open c.longest g e m i s (record y { int_out = false }) in
      subst (λ b. Follows c.longest x rest z [] (confirms c v (talk_of y rest) b)) (sym is.1)
      (record {
        end = z;
        waiting = rest;
        shows = record { agreed = g; is = refl; fits = talk_fits {side = Live _} sound (record { told = own.told; owed = own.owed; text = own.text }) };
        heard = none refl;
        quiet = tt;
        no_fault = (tt, tt);
        notes = silent x rest z rest refl refl refl;
      })
  row_open c g e m i s y rest (reset h cause n) sound own is = was_reset g e m i s sound refl refl (tt, tt) (tt, tt) refl
  row_open c g e m i s y rest (restart cause n) sound own is = absurd is.0
  row_open c g e m i s y rest restart_conf sound own is = absurd is.0
  row_open c g e m i s y rest p sound own is = absurd is.1

  row_resetting : (c : CircuitSettings) (g : Agreed) (e : ℕ) (m i : List CallRequest) (s : ℕ) (y : PeerStretch) (rest : List Piece) (p : PlainPacket)
      → IsSound (sent_on c.longest g) → Next c (in_resetting c.longest g e m i s y) p → Row c g rest (in_resetting c.longest g e m i s y) p
  row_resetting c g e m i s y rest (call h called calling fac user) sound is = absurd is.1
  row_resetting c g e m i s y rest (accept h fac) sound is = absurd is.1
  row_resetting c g e m i s y rest (clear h cause n) sound is = cleared refl refl (tt, tt) (tt, tt) refl
  row_resetting c g e m i s y rest (clear_conf h) sound is = absurd is.1
  row_resetting c g e m i s y rest (reset h cause n) sound is = was_reset g e m i s sound refl refl tt (tt, tt) refl
  row_resetting c g e m i s y rest (reset_conf h) sound is = was_reset g e m i s sound refl refl tt (tt, tt) refl
  row_resetting c g e m i s y rest (restart cause n) sound is = absurd is.0
  row_resetting c g e m i s y rest restart_conf sound is = absurd is.0
  row_resetting c g e m i s y rest other sound is = stays c.longest (in_resetting c.longest g e m i s y) g (talk_fits {side = Left y} sound tt) refl

  row_free : (c : CircuitSettings) (g : Agreed) (e : ℕ) (m i : List CallRequest) (rest : List Piece) (p : PlainPacket) → Next c (in_call e m i Unused) p
      → Row c g rest (in_call e m i Unused) p
  row_free c g e m i rest (call h called calling fac user) is = record {
    end = _;
    waiting = rest;
    shows = record { agreed = g; is = refl; fits = is.1 };
    heard = none refl;
    quiet = tt;
    no_fault = (tt, tt);
    notes = Adds refl refl (handed_is m _ (nil m) (i ++ request_in called calling fac user ∷ []) _ refl [] _ refl [] _ refl [] _ refl [] _ refl) (inr refl)
        (record { calls = inr refl; stretch = inl (refl, refl) });
  }
  row_free c g e m i rest (clear h cause n) is = cleared refl refl (tt, tt) tt refl
  row_free c g e m i rest (restart cause n) is = absurd is.0
  row_free c g e m i rest restart_conf is = absurd is.0
  row_free c g e m i rest other is = absurd is.1

  -- CALL against its own
  collision_row : (c : CircuitSettings) (r : Role) (g : Agreed) (e : ℕ) (m i : List CallRequest) (mine : Params) (rest : List Piece) (n : CallRequest)
      → may_propose mine ≡ true → ChannelNext H r (in_call e m i (Waiting mine)).side (Call n)
      → (let x = in_call e m i (Waiting mine) in let s = channel_taking r x.epoch x.side (Call n) in
      Follows c.longest x rest s.next s.out (collides r (view g rest x) n))
  collision_row c Dte g e m i mine rest n own is = record {
    end = _;
    waiting = rest;
    shows = record { agreed = g; is = refl; fits = own };
    heard = none refl;
    quiet = tt;
    no_fault = tt;
    notes = silent (in_call e m i (Waiting mine)) rest (in_call e m i (Crossed mine)) rest refl refl refl;
  }
  collision_row c Dce g e m i mine rest n own is = record {
    end = _;
    waiting = rest;
    shows = record { agreed = g; is = refl; fits = is };
    heard = none refl;
    quiet = tt;
    no_fault = (tt, (tt, tt));
    notes = Adds refl refl (handed_is m _ (nil m) (i ++ n ∷ []) _ refl [] _ refl [] _ refl [] _ refl [] _ refl) (inr refl)
        (record { calls = inr refl; stretch = inl (refl, refl) });
  }

-- an acceptance of what this end proposed
answered_row : Known → (c : CircuitSettings) (x : At PeerCall) (rest : List Piece) (v : Circuit) (e : ℕ) (m i : List CallRequest) (mine q : Params)
    → goes v Open q true None (connected q ∷ []) ≡ record {
      next = view (record { params = q; calls = true }) [] (in_call e m i (calling_in_data c.longest q));
      owed = None;
      notices = connected q ∷ [];
    }
    → Notes x rest (in_call e m i (calling_in_data c.longest q)) [] nothing_handed → may_propose mine ≡ true → may_answer mine q ≡ true
    → Follows c.longest x rest (in_call e m i (calling_in_data c.longest q)) [] (if may_answer mine q then goes v Open q true None (connected q ∷ [])
    else clears_for c v 3 66)
answered_row known c x rest v e m i mine q shown notes own may =
    let z = in_call e m i (calling_in_data c.longest q) in
    subst (λ b. Follows c.longest x rest z [] (if b then goes v Open q true None (connected q ∷ []) else clears_for c v 3 66)) (sym may)
    (subst (λ a. Follows c.longest x rest z [] a) (sym shown)
    (record {
      end = z;
      waiting = [];
      shows = record {
        agreed = record { params = q; calls = true };
        is = refl;
        fits = talk_fits {side = Live _} (answer_sound known.laws c.longest mine q own may).calling (own_fresh _);
      };
      heard = none refl;
      quiet = tt;
      no_fault = (tt, tt);
      notes = notes;
    }))

-- what comes to an end whose CALL is out
abbrev Answers : Params → Packet → Type 0
Answers mine (Call n) = Unit {0}
Answers mine (Accept field most) = may_answer mine (said_in mine field) ≡ true
Answers mine p = ⊥

waiting_next : (r : Role) (mine : Params) (p : Packet) → MayCome r NextThere (Waiting mine) p → Answers mine p
waiting_next Dte mine (Call n) is = tt
waiting_next Dce mine (Call n) is = tt
waiting_next Dte mine p is = is
waiting_next Dce mine p is = is

module _ (H : PeerCall → Type 0) (known : Known) where
  row_calling : (c : CircuitSettings) (g : Agreed) (e : ℕ) (m i : List CallRequest) (mine : Params) (rest : List Piece) (p : PlainPacket)
      → may_propose mine ≡ true → Next H c (in_call e m i (Waiting mine)) p → Row c g rest (in_call e m i (Waiting mine)) p
  row_calling c g e m i mine rest (call h called calling fac user) own is =
      collision_row H c c.role g e m i mine rest (request_in called calling fac user) own is.1
  row_calling c g e m i mine rest (accept h fac) own is =
      answered_row known c (in_call e m i (Waiting mine)) rest (view g rest (in_call e m i (Waiting mine))) e m i mine (said_in mine fac) refl
      (silent (in_call e m i (Waiting mine)) rest (in_call e m i (calling_in_data c.longest (said_in mine fac))) [] refl refl refl) own (waiting_next c.role mine (Accept fac c.longest) is.1)
  row_calling c g e m i mine rest (clear h cause n) own is = cleared refl refl (tt, tt) (tt, tt) refl
  row_calling c g e m i mine rest (clear_conf h) own is = absurd is.1
  row_calling c g e m i mine rest (restart cause n) own is = absurd is.0
  row_calling c g e m i mine rest restart_conf own is = absurd is.0
  row_calling c g e m i mine rest other own is = absurd (waiting_next c.role mine (bare c.longest other) is.1)

  row_collision : (c : CircuitSettings) (g : Agreed) (e : ℕ) (m i : List CallRequest) (mine : Params) (rest : List Piece) (p : PlainPacket)
      → may_propose mine ≡ true → Next H c (in_call e m i (Crossed mine)) p → Row c g rest (in_call e m i (Crossed mine)) p
  row_collision c g e m i mine rest (accept h fac) own is =
      answered_row known c (in_call e m i (Crossed mine)) rest (view g rest (in_call e m i (Crossed mine))) e m i mine (said_in mine fac) refl
      (silent (in_call e m i (Crossed mine)) rest (in_call e m i (calling_in_data c.longest (said_in mine fac))) [] refl refl refl) own is.1
  row_collision c g e m i mine rest (clear h cause n) own is = cleared refl refl (tt, tt) (tt, tt) refl
  row_collision c g e m i mine rest (restart cause n) own is = absurd is.0
  row_collision c g e m i mine rest restart_conf own is = absurd is.0
  row_collision c g e m i mine rest other own is = absurd is.1

  row_arriving : (c : CircuitSettings) (g : Agreed) (e : ℕ) (m i : List CallRequest) (theirs : Params) (rest : List Piece) (p : PlainPacket)
      → Next H c (in_call e m i (Offered theirs)) p → Row c g rest (in_call e m i (Offered theirs)) p
  row_arriving c g e m i theirs rest (clear h cause n) is = cleared refl refl (tt, tt) (tt, tt) refl
  row_arriving c g e m i theirs rest (restart cause n) is = absurd is.0
  row_arriving c g e m i theirs rest restart_conf is = absurd is.0
  row_arriving c g e m i theirs rest other is = absurd is.1

  row_clearing : (c : CircuitSettings) (g : Agreed) (e : ℕ) (n : PeerCall) (rest : List Piece) (p : PlainPacket) → HasChannel p → Row c g rest (left e n) p
  row_clearing c g e n rest (clear h cause d) has = cleared refl refl tt (tt, tt) refl
  row_clearing c g e n rest (clear_conf h) has = cleared refl refl tt (tt, tt) refl
  row_clearing c g e n rest (restart cause d) has = absurd has
  row_clearing c g e n rest restart_conf has = absurd has
  row_clearing c g e n rest other has = stays c.longest (left e n) g tt refl

  row_in_transfer : (c : CircuitSettings) (g : Agreed) (e : ℕ) (m i : List CallRequest) (s : ℕ) (y : Side PeerStretch) (rest : List Piece) (p : PlainPacket)
      → FitsTalk c.longest g rest (sent_on c.longest g) (taken_on c.longest g) y → Next H c (in_talk c.longest g e m i (record { epoch = s; side = y })) p
      → Row c g rest (in_talk c.longest g e m i (record { epoch = s; side = y })) p
  row_in_transfer c g e m i s (Live y) rest p fits is = row_open H c g e m i s y rest p fits.sound fits.own is
  row_in_transfer c g e m i s (Left y) rest p fits is = row_resetting H c g e m i s y rest p fits.sound is

-- what holds on the terms agreed holds on these
on_terms : (most : ℕ) (P : Stage (At PeerStretch) → Type 0) (g : Agreed) (t b : Terms) (at : At PeerStretch) → t ≡ sent_on most g → b ≡ taken_on most g
    → P (Talking (sent_on most g) (taken_on most g) at) → P (Talking t b at)
on_terms most P g t b at sends takes h =
    subst (λ (u : Terms). P (Talking u b at)) (sym sends) (subst (λ (u : Terms). P (Talking (sent_on most g) u at)) (sym takes) h)

module _ (H : PeerCall → Type 0) (known : Known) where
  row_in_call : (c : CircuitSettings) (g : Agreed) (e : ℕ) (m i : List CallRequest) (a : Stage (At PeerStretch)) (rest : List Piece) (p : PlainPacket)
      → FitsIn c.longest g rest a → Next H c (in_call e m i a) p → Row c g rest (in_call e m i a) p
  row_in_call c g e m i Unused rest p fits is = row_free H c g e m i rest p is
  row_in_call c g e m i (Waiting mine) rest p fits is = row_calling H known c g e m i mine rest p fits is
  row_in_call c g e m i (Offered theirs) rest p fits is = row_arriving H known c g e m i theirs rest p is
  row_in_call c g e m i (Crossed mine) rest p fits is = row_collision H known c g e m i mine rest p fits is
  row_in_call c g e m i (Talking t b at) rest p fits is =
      on_terms c.longest (λ a. FitsIn c.longest g rest a → Next H c (in_call e m i a) p → Row c g rest (in_call e m i a) p) g t b at fits.sends fits.takes
      (λ fits is. row_in_transfer H known c g e m i at.epoch at.side rest p fits is) fits is

  -- A packet taken.
  pub follows : (c : CircuitSettings) (g : Agreed) (x : At PeerCall) (rest : List Piece) (p : PlainPacket) → Fits c.longest g rest x.side → HasChannel p
      → ChannelNext H c.role x.side (bare c.longest p)
      → (let s = channel_taking c.role x.epoch x.side (bare c.longest p) in let a = answers c (view g rest x) p in
      Goes c.longest x rest s.next s.out a.next a.owed a.notices (told_by_all a.notices))
  follows c g x rest p fits has is = by x.epoch x.side fits is
    where
      by : (e : ℕ) (side : Side PeerCall) → Fits c.longest g rest side → ChannelNext H c.role side (bare c.longest p)
          → Row c g rest (record { epoch = e; side = side }) p
      by e (Live n) fits is = row_in_call c g e n.made n.indicated n.stage rest p fits (has, is)
      by e (Left n) fits is = row_clearing H known c g e n rest p has

-- ---- calls of the user

-- what is done is what the end does; a refusal does nothing
abbrev pub Heeds : ℕ → At PeerCall → List Piece → Outcome → Handed → Type 0
Heeds most x rest (Done next packet) h = Goes most x rest x [] next packet [] h
Heeds most x rest (Refused e) h = Unit {0}

abbrev Asked : CircuitSettings → Agreed → At PeerCall → List Piece → Request → Type 0
Asked c g x rest request = Heeds c.longest x rest (outcome c (view g rest x) request) (asked_by request)

abbrev is_unused : Stage (At PeerStretch) → Bool
is_unused Unused = true
is_unused other = false

called : (a : Stage (At PeerStretch)) → is_unused a ≡ false → a ≡ Unused → ⊥
called a isnt is = true≢false (sym (ap is_unused is) ∙ isnt)

-- a clear or a reset goes where its cause may be given, and that is no cause of a fault
given_heeds : (most : ℕ) (x : At PeerCall) (rest : List Piece) (h : Handed) (is_fault : Bool) (role : Role) (cause : ℕ) (u : Outcome)
    → (is_fault ≡ false → Heeds most x rest u h) → Heeds most x rest (if may_give is_fault role cause then u else Refused BadParameter) h
given_heeds most x rest h true role cause u done = tt
given_heeds most x rest h false role cause u done = test (cause == 0 || is_of_end role cause)
  where
    test : (b : Bool) → Heeds most x rest (if b then u else Refused BadParameter) h
    test true = done refl
    test false = tt

asked_clear : (c : CircuitSettings) (g : Agreed) (e : ℕ) (m i : List CallRequest) (a : Stage (At PeerStretch)) (rest : List Piece) (cause diagnostic : ℕ)
    → is_unused a ≡ false
    → Heeds c.longest (in_call e m i a) rest (if may_give (is_fault_of_clear cause) c.role cause
    then does (view g rest (in_call e m i a)) Clearing default_params false (clear 1 cause diagnostic) else Refused BadParameter) nothing_handed
asked_clear c g e m i a rest cause diagnostic not =
    given_heeds c.longest (in_call e m i a) rest nothing_handed (is_fault_of_clear cause) c.role cause _
    (λ quiet. record {
      end = left e (stands a m i);
      waiting = rest;
      shows = record { agreed = g; is = refl; fits = tt };
      heard = deed in_channel.Clears (tt, called a not) refl refl;
      quiet = (quiet, tt);
      no_fault = tt;
      notes = silent (in_call e m i a) rest (left e (stands a m i)) rest refl refl refl;
    })

asked_send : (c : CircuitSettings) (g : Agreed) (e : ℕ) (m i : List CallRequest) (s : ℕ) (y : PeerStretch) (rest : List Piece) (q : Marks) (user : List ℕ)
    → IsSound (sent_on c.longest g) → Own (sent_on c.longest g) y rest
    → (let x = in_open c.longest g e m i s y in Heeds c.longest x rest (send_open c (view g rest x) (talk_of y rest) q user) (asked_by (Sends q user)))
asked_send c g e m i s y rest q user sound own =
    let x = in_open c.longest g e m i s y in
    let t = sent_on c.longest g in
    cond_both (nat_le (length user) c.longest) _ (Refused TooLong) (λ o. Heeds c.longest x rest o (asked_by (Sends q user)))
    (λ small. cond_both (nat_lt (wholes rest) 8) _ (Refused Full) (λ o. Heeds c.longest x rest o (asked_by (Sends q user)))
    (λ room. (let text = Text-send q user sound.size (leb-true (length user) c.longest small) own.text in
    record {
      end = x;
      waiting = rest ++ cut t.size q user;
      shows = record {
        agreed = g;
        is = refl;
        fits = talk_fits {side = Live _} sound
            (record { told = own.told; owed = own.owed; text = record { fits = text.fits; whole = text.whole; messages = refl } });
      };
      heard = none refl;
      quiet = tt;
      no_fault = tt;
      notes = Adds refl refl
          (handed_is m _ (nil m) i _ (nil i) (carried (y.sent ++ (rest ++ cut t.size q user))) _ (sym text.messages) (carried y.taken) _ (nil (carried y.taken))
          y.int_down _ (nil y.int_down) y.int_up _ (nil y.int_up))
          (inl (refl, refl)) (record { calls = inl refl; stretch = inl (refl, refl) });
    }))
    (λ none. tt))
    (λ none. tt)

asked_interrupt : (c : CircuitSettings) (g : Agreed) (e : ℕ) (m i : List CallRequest) (s : ℕ) (y : PeerStretch) (rest : List Piece) (user : List ℕ)
    → IsSound (sent_on c.longest g) → Own (sent_on c.longest g) y rest
    → (let x = in_open c.longest g e m i s y in Heeds c.longest x rest (interrupt_open (view g rest x) (talk_of y rest) user) (asked_by (Interrupts user)))
asked_interrupt c g e m i s y rest user sound own =
    let x = in_open c.longest g e m i s y in
    let P : Outcome → Type 0 = λ o. Heeds c.longest x rest o (asked_by (Interrupts user)) in
    cond_both (nat_le 1 (length user) && nat_le (length user) 32) _ (Refused BadParameter) P
    (λ fits. cond_both y.int_out (Refused InterruptOutstanding) _ P
    (λ out. tt)
    (λ free. record {
      end = in_open c.longest g e m i s (record y { int_out = true; int_down = y.int_down ++ user ∷ [] });
      waiting = rest;
      shows = record { agreed = g; is = refl; fits = talk_fits {side = Live _} sound (record { told = own.told; owed = own.owed; text = own.text }) };
      heard = deed (InCall (InTransfer (InStretch (in_stretch.Interrupts user)))) (free, tt) refl refl;
      quiet = (tt, tt);
      no_fault = tt;
      notes = Adds refl refl
          (handed_is m _ (nil m) i _ (nil i) (carried (y.sent ++ rest)) _ (nil (carried (y.sent ++ rest))) (carried y.taken) _ (nil (carried y.taken))
          (y.int_down ++ user ∷ []) _ refl y.int_up _ (nil y.int_up))
          (inl (refl, refl)) (record { calls = inl refl; stretch = inl (refl, refl) });
    }))
    (λ none. tt)

-- it says whether it is ready
asked_ready : (c : CircuitSettings) (g : Agreed) (e : ℕ) (m i : List CallRequest) (s : ℕ) (y : PeerStretch) (rest : List Piece) (ready : Bool)
    → IsSound (sent_on c.longest g) → Own (sent_on c.longest g) y rest
    → (let x = in_open c.longest g e m i s y in Heeds c.longest x rest (ready_open (view g rest x) (talk_of y rest) ready) nothing_handed)
asked_ready c g e m i s y rest ready sound own =
    let x = in_open c.longest g e m i s y in
    let told = own.told in
    let z = in_open c.longest g e m i s (record y { told = length y.taken; own_ready = ready }) in
    record {
      end = z;
      waiting = rest;
      shows = record { agreed = g; is = refl; fits = talk_fits {side = Live _} sound (record { told = refl; owed = own.owed; text = own.text }) };
      heard = deed (InCall (InTransfer (InStretch (in_stretch.Says ready (length y.taken))))) (record { rising = omega (arith, told); taken = omega arith }, tt)
          refl (bare_status c.longest ready (length y.taken));
      quiet = quiet_status ready (length y.taken);
      no_fault = tt;
      notes = silent x rest z rest refl refl refl;
    }

asked_open : (c : CircuitSettings) (g : Agreed) (e : ℕ) (m i : List CallRequest) (s : ℕ) (y : PeerStretch) (rest : List Piece) (request : Request)
    → IsSound (sent_on c.longest g) → Own (sent_on c.longest g) y rest → Asked c g (in_open c.longest g e m i s y) rest request
asked_open c g e m i s y rest (Calls called calling user proposal) sound own = tt
asked_open c g e m i s y rest (Accepts answer) sound own = tt
asked_open c g e m i s y rest (Clears cause diagnostic) sound own =
    asked_clear c g e m i (Talking (sent_on c.longest g) (taken_on c.longest g) (live s y)) rest cause diagnostic refl
asked_open c g e m i s y rest (Sends q user) sound own = asked_send c g e m i s y rest q user sound own
asked_open c g e m i s y rest (Interrupts user) sound own = asked_interrupt c g e m i s y rest user sound own
asked_open c g e m i s y rest (Resets cause diagnostic) sound own =
    let x = in_open c.longest g e m i s y in
    let z = in_resetting c.longest g e m i s y in
    given_heeds c.longest x rest nothing_handed (is_fault_of_reset cause) c.role cause _
    (λ quiet. record {
      end = z;
      waiting = rest;
      shows = record { agreed = g; is = refl; fits = talk_fits {side = Left y} sound tt };
      heard = deed (InCall (InTransfer in_transfer.Resets)) (tt, tt) refl refl;
      quiet = (quiet, tt);
      no_fault = tt;
      notes = silent x rest z rest refl refl refl;
    })
asked_open c g e m i s y rest SaysReady sound own = asked_ready c g e m i s y rest true sound own
asked_open c g e m i s y rest SaysNotReady sound own = asked_ready c g e m i s y rest false sound own

asked_resetting : (c : CircuitSettings) (g : Agreed) (e : ℕ) (m i : List CallRequest) (s : ℕ) (y : PeerStretch) (rest : List Piece) (request : Request)
    → Asked c g (in_resetting c.longest g e m i s y) rest request
asked_resetting c g e m i s y rest (Clears cause diagnostic) =
    asked_clear c g e m i (Talking (sent_on c.longest g) (taken_on c.longest g) (left s y)) rest cause diagnostic refl
asked_resetting c g e m i s y rest other = tt

asked_in_transfer : (c : CircuitSettings) (g : Agreed) (e : ℕ) (m i : List CallRequest) (s : ℕ) (y : Side PeerStretch) (rest : List Piece) (request : Request)
    → FitsTalk c.longest g rest (sent_on c.longest g) (taken_on c.longest g) y → Asked c g (in_talk c.longest g e m i (record { epoch = s; side = y })) rest request
asked_in_transfer c g e m i s (Live y) rest request fits = asked_open c g e m i s y rest request fits.sound fits.own
asked_in_transfer c g e m i s (Left y) rest request fits = asked_resetting c g e m i s y rest request

-- a call goes where what it proposes may be proposed
asked_call : Known → (c : CircuitSettings) (g : Agreed) (e : ℕ) (m i : List CallRequest) (rest : List Piece) (called calling user : List ℕ) (proposal : Proposal)
    → Asked c g (in_call e m i Unused) rest (Calls called calling user proposal)
asked_call known c g e m i rest called calling user proposal =
    cond_both (may_call c.long_data called calling user params) _ (Refused BadParameter)
    (λ o. Heeds c.longest (in_call e m i Unused) rest o (asked_by (Calls called calling user proposal)))
    (λ is. (let allowed : may_propose params ≡ true = call_proposes c.long_data called calling user params is in
    record {
      end = in_call e (m ++ n ∷ []) i (Waiting params);
      waiting = rest;
      shows = record { agreed = g; is = refl; fits = allowed };
      heard = deed (InCall (in_calls.PlacesCall n)) (allowed, tt) refl
          (ap (λ (p : Params). Call (record { called = digits_of_text called; calling = digits_of_text calling; user = user; params = p }) ∷ [])
          (sym (known.laws.said default_params proposal allowed)));
      quiet = (known.field default_params proposal allowed, tt);
      no_fault = tt;
      notes = Adds refl refl (handed_is (m ++ n ∷ []) _ refl i _ (nil i) [] _ refl [] _ refl [] _ refl [] _ refl) (inr refl)
          (record { calls = inl refl; stretch = inl (refl, refl) });
    }))
    (λ not. tt)
  where
    params : Params
    params = proposal.params

    n : CallRequest
    n = request_of called calling user params

-- p4 begins with this answer, which is read as it was meant
answers_with : Known → (c : CircuitSettings) (e : ℕ) (m i : List CallRequest) (rest : List Piece) (theirs q : Params) (field : List ℕ) (next : Circuit)
    (owed : PlainPacket) → next ≡ view (record { params = q; calls = false }) [] (in_call e m i (called_in_data c.longest q))
    → bare_if c.longest (Some owed) ≡ bared.Accept field c.longest ∷ [] → IsQuietIf (Some owed) → may_propose theirs ≡ true → may_answer theirs q ≡ true
    → said_in theirs field ≡ q → Goes c.longest (in_call e m i (Offered theirs)) rest (in_call e m i (Offered theirs)) [] next (Some owed) [] nothing_handed
answers_with known c e m i rest theirs q field next owed is out quiet own may same = record {
  end = in_call e m i (called_in_data c.longest q);
  waiting = [];
  shows = record {
    agreed = record { params = q; calls = false };
    is = is;
    fits = talk_fits {side = Live _} (answer_sound known.laws c.longest theirs q own may).called (own_fresh _);
  };
  heard = deed (InCall (in_calls.AcceptsCall field c.longest)) (rw same may, tt) (ap (λ q. in_call e m i (called_in_data c.longest q)) same) (sym out);
  quiet = quiet;
  no_fault = tt;
  notes = silent (in_call e m i (Offered theirs)) rest (in_call e m i (called_in_data c.longest q)) [] refl refl refl;
}

asked_answer : Known → (c : CircuitSettings) (g : Agreed) (e : ℕ) (m i : List CallRequest) (rest : List Piece) (theirs : Params) (answer : Option Proposal)
    → may_propose theirs ≡ true → Asked c g (in_call e m i (Offered theirs)) rest (Accepts answer)
asked_answer known c g e m i rest theirs None own =
    answers_with known c e m i rest theirs theirs [] _ _ refl refl (no_field, tt) own (known.laws.proposal theirs) (known.laws.no_field theirs)
asked_answer known c g e m i rest theirs (Some answer) own =
    cond_both (may_answer theirs answer.params) _ (Refused BadParameter)
    (λ o. Heeds c.longest (in_call e m i (Offered theirs)) rest o nothing_handed)
    (λ may. answers_with known c e m i rest theirs answer.params (field_for theirs answer) _ _ refl refl
    (known.field theirs answer (known.laws.answer theirs answer.params own may), tt) own may (answer_read known.laws theirs answer own may))
    (λ not. tt)

asked_in_call : Known → (c : CircuitSettings) (g : Agreed) (e : ℕ) (m i : List CallRequest) (a : Stage (At PeerStretch)) (rest : List Piece) (request : Request)
    → FitsIn c.longest g rest a → Asked c g (in_call e m i a) rest request
asked_in_call known c g e m i Unused rest (Calls called calling user proposal) fits = asked_call known c g e m i rest called calling user proposal
asked_in_call known c g e m i (Waiting mine) rest (Clears cause diagnostic) fits = asked_clear c g e m i (Waiting mine) rest cause diagnostic refl
asked_in_call known c g e m i (Offered theirs) rest (Accepts answer) fits = asked_answer known c g e m i rest theirs answer fits
asked_in_call known c g e m i (Offered theirs) rest (Clears cause diagnostic) fits = asked_clear c g e m i (Offered theirs) rest cause diagnostic refl
asked_in_call known c g e m i (Crossed mine) rest (Clears cause diagnostic) fits = asked_clear c g e m i (Crossed mine) rest cause diagnostic refl
asked_in_call known c g e m i (Talking t b at) rest request fits =
    on_terms c.longest (λ a. FitsIn c.longest g rest a → Asked c g (in_call e m i a) rest request) g t b at fits.sends fits.takes
    (λ fits. asked_in_transfer c g e m i at.epoch at.side rest request fits) fits
asked_in_call known c g e m i a rest other fits = tt

pub heeds : Known → (c : CircuitSettings) (g : Agreed) (x : At PeerCall) (rest : List Piece) (request : Request) → Fits c.longest g rest x.side
    → Heeds c.longest x rest (outcome c (view g rest x) request) (asked_by request)
heeds known c g x rest request fits = by x.epoch x.side request fits
  where
    by : (e : ℕ) (side : Side PeerCall) (request : Request) → Fits c.longest g rest side → Asked c g (record { epoch = e; side = side }) rest request
    by e (Live n) request fits = asked_in_call known c g e n.made n.indicated n.stage rest request fits
    by e (Left n) (Accepts answer) fits = tt
    by e (Left n) other fits = tt

-- ---- the next data packet

abbrev PullsAs : ℕ → At PeerCall → List Piece → Pulled → Type 0
PullsAs most x rest p = Goes most x rest x [] p.next p.packet [] nothing_handed

bare_data : (most : ℕ) (ps pr : ℕ) (p : Piece) → Data ps pr p ∷ [] ≡ bare_if most (Some (data_packet ps pr p))
bare_data most ps pr (More q user) = refl
bare_data most ps pr (Last q user) = refl

quiet_data : (ps pr : ℕ) (p : Piece) → IsQuietIf (Some (data_packet ps pr p))
quiet_data ps pr (More q user) = (tt, tt)
quiet_data ps pr (Last q user) = (tt, tt)

pulls_open : (c : CircuitSettings) (g : Agreed) (e : ℕ) (m i : List CallRequest) (s : ℕ) (y : PeerStretch) (rest : List Piece) → IsSound (sent_on c.longest g)
    → Own (sent_on c.longest g) y rest
    → (let x = in_open c.longest g e m i s y in PullsAs c.longest x rest (pull_open c (view g rest x) (talk_of y rest) rest))
pulls_open c g e m i s y [] sound own = stays c.longest (in_open c.longest g e m i s y) g (talk_fits {side = Live y} sound own) refl
pulls_open c g e m i s y (p ∷ ps) sound own =
    let t = sent_on c.longest g in
    let x = in_open c.longest g e m i s y in
    let told = own.told in
    cond_both (y.peer_ready && nat_lt (length y.sent) (y.acked + t.window)) _ (pulls_nothing (view g (p ∷ ps) x)) (PullsAs c.longest x (p ∷ ps))
    (λ is. (let room = ltb-true (length y.sent) (y.acked + t.window) (and_parts y.peer_ready (nat_lt (length y.sent) (y.acked + t.window)) is).1 in
    let window = sound.window in
    let text = Text-pull p ps own.text in
    let z = in_open c.longest g e m i s (record y { sent = y.sent ++ p ∷ []; told = length y.taken }) in
    record {
      end = z;
      waiting = ps;
      shows = record {
        agreed = g;
        is = refl;
        fits = talk_fits {side = Live _} sound
            (record { told = refl; owed = own.owed; text = record { fits = text.fits; whole = text.whole; messages = refl } });
      };
      heard = deed (InCall (InTransfer (InStretch (in_stretch.Sends p (length y.taken))))) (
        (
          record { rising = omega (arith, told); taken = omega arith },
          record { window = omega (arith, room, window); fits = (AreSound-back t.longest t.size no_part y.sent (p ∷ ps) own.text.fits).0 },
        ),
        tt,
      ) refl (bare_data c.longest (length y.sent % 8) (length y.taken % 8) p);
      quiet = quiet_data (length y.sent % 8) (length y.taken % 8) p;
      no_fault = tt;
      notes = silent x (p ∷ ps) z ps refl refl
          (ap (λ d. record { made = m; indicated = i; down = d; up = carried y.taken; int_down = y.int_down; int_up = y.int_up }) (sym text.messages));
    }))
    (λ none. stays c.longest x g (talk_fits {side = Live y} sound own) refl)

pub pulls_as : (c : CircuitSettings) (g : Agreed) (x : At PeerCall) (rest : List Piece) → Fits c.longest g rest x.side
    → Goes c.longest x rest x [] (pulled c (view g rest x)).next (pulled c (view g rest x)).packet [] nothing_handed
pulls_as c g x rest fits = side x.epoch x.side fits
  where
    d1 : (e : ℕ) (m i : List CallRequest) (s : ℕ) (y : Side PeerStretch) → FitsTalk c.longest g rest (sent_on c.longest g) (taken_on c.longest g) y
        → PullsAs c.longest (in_talk c.longest g e m i (record { epoch = s; side = y })) rest
        (pulled c (view g rest (in_talk c.longest g e m i (record { epoch = s; side = y }))))
    d1 e m i s (Live y) fits = pulls_open c g e m i s y rest fits.sound fits.own
    d1 e m i s (Left y) fits = stays c.longest (in_resetting c.longest g e m i s y) g (talk_fits {side = Left y} fits.sound tt) refl

    stage : (e : ℕ) (m i : List CallRequest) (a : Stage (At PeerStretch)) → FitsIn c.longest g rest a
        → PullsAs c.longest (in_call e m i a) rest (pulled c (view g rest (in_call e m i a)))
    stage e m i (Talking t b at) fits =
        on_terms c.longest (λ a. FitsIn c.longest g rest a → PullsAs c.longest (in_call e m i a) rest (pulled c (view g rest (in_call e m i a)))) g t b at
        fits.sends fits.takes (λ fits. d1 e m i at.epoch at.side fits) fits
    stage e m i Unused fits = stays c.longest (in_call e m i Unused) g fits refl
    stage e m i (Waiting mine) fits = stays c.longest (in_call e m i (Waiting mine)) g fits refl
    stage e m i (Offered theirs) fits = stays c.longest (in_call e m i (Offered theirs)) g fits refl
    stage e m i (Crossed mine) fits = stays c.longest (in_call e m i (Crossed mine)) g fits refl

    side : (e : ℕ) (n : Side PeerCall) → Fits c.longest g rest n
        → PullsAs c.longest (record { epoch = e; side = n }) rest (pulled c (view g rest (record { epoch = e; side = n })))
    side e (Live n) fits = stage e n.made n.indicated n.stage fits
    side e (Left n) fits = stays c.longest (left e n) g fits refl

-- What the notes of each step say of the station after it.
use Rattle.x25_link.proofs.Names.{length, subst, ◌≡◌, ℕ, zero, suc, ◌+◌, ◌≤◌, List, [], ◌∷◌, ◌++◌, Bool, true, false, not, if◌then◌else◌, Some, None, Result}
use Rattle.x25_link.proofs.Names.{Ok, Err, refl, sym, ap, ◌∙◌, arith, append-nil, ◌&&◌, nat_lt, ltb-false, not-true, and_parts, PlainFrame, info, rr, rnr, rej}
use Rattle.x25_link.proofs.Names.{sabm, disc, ua, dm, frmr, is_command, poll_or_final, frame_of, FrameError, Undefined, NoInfoAllowed, TooLong, Phase, Down}
use Rattle.x25_link.proofs.Names.{Waiting, Up, Closed, Reason, Disc, Dm, FrmrSent, FrmrGot, Retries, Counts, Local, Reset, no_packet, waits, LinkSettings}
use Rattle.x25_link.proofs.Names.{LinkStation, Side, fresh, is_up, is_busy, with_near, sends, ready, send_next, may_send, pumped, owes_ready, ended, LinkStep}
use Rattle.x25_link.proofs.Names.{quiet, leaves, other, rejects, is_valid, acknowledged, is_taken, takes, answers, passes_over, reject_of, hears_info, peer_is}
use Rattle.x25_link.proofs.Names.{goes_back, polls, numbered, row_of_frame, row_of, alone, closed_by, hears, puts, connects, asks_again, fires, disconnects}
use Rattle.std.proofs.{Common.{Option, option_to_list}, Math.Nat.{le_trans}, lemmas.Option.{none-some}}
use Rattle.x25_link.proofs.Names.{answered, gives_up, when_closed, Closing, Asked, Ending, ByUa, ByDm, GivenUp}
use Rattle.x25_link.{proofs.EndLemmas.{true_false, none_open, ended_stays}, proofs.Names.{when_down, when_waiting}, specs.Link.{relinks}}
use Rattle.x25_link.specs.{Station.{lists_of, no_packets}, declared.phase.Notes.{Notes}, laws.LinkLaws.{ended_lists, ended_phase}}
use Rattle.x25_link.specs.laws.NoteLaw.{Tells, Continues, HandsUp, TakeTells, TakeContinues, TakeHandsUp, TimerTells, TimerContinues, PutTells, ConnectTells}
use Rattle.x25_link.specs.laws.{NoteLaw.{DisconnectTells, AbandonTells, RelinkTells}, SetUp.{reset_from}}

none_is_some : {A : Type 0} (reason : Reason) → None ≡ Some reason → A
none_is_some reason e = absurd (none-some reason e)

-- ---- what the end of a step keeps

sent_if : (b : Bool) (u v : Side) (n : ℕ) → n ≤ u.near.outgoing.sent → n ≤ v.near.outgoing.sent → n
    ≤ (let w : Side = if b then u else v in w.near.outgoing.sent)
sent_if true u v n e f = e
sent_if false u v n e f = f

pumped_sent : (n k : ℕ) (t : Side) → t.near.outgoing.sent ≤ (pumped n k t).near.outgoing.sent
unfolding pumped
pumped_sent zero k t = omega arith
pumped_sent (suc n) k t =
    let before = pumped_sent n k t in
    sent_if (may_send k (pumped n k t).near) (send_next (pumped n k t)) (pumped n k t) _ (omega arith) before

ended_sent : (k : ℕ) (t : Side) → t.near.outgoing.sent ≤ (ended k t).near.outgoing.sent
ended_sent k t =
    let before = pumped_sent 7 k t in
    sent_if (owes_ready (pumped 7 k t).near) (ready false false (pumped 7 k t)) (pumped 7 k t) _ (sent_if (is_busy (pumped 7 k t).near) _ _ _ before before)
    before

ended_waits : (k : ℕ) (t : Side) → waits (ended k t).near.outgoing ≤ waits t.near.outgoing
ended_waits k t =
    let given = ap (λ x. length x.given) (ended_lists k t) in
    let sent = ended_sent k t in
    omega arith

tells_from : (k : ℕ) (s : LinkStation) (step : LinkStep) → Tells s step → Tells s (closed_by k step)
tells_from k s step h =
    let phase = ended_phase k step.side in
    let lists = ended_lists k step.side in
    record {
      fresh_up = λ e.
          let near = h.fresh_up e in
          ap (λ (u : Side). u.near) (ended_stays k step.side (ap (may_send k) near ∙ none_open k no_packet (omega arith)) (ap owes_ready near)) ∙ near;
      after_down = h.after_down;
      left = λ reason e f. ap is_up phase ∙ h.left reason e f;
      dropped = λ reason e f. lists ∙ h.dropped reason e f;
      stays = λ e. ap is_up phase ∙ h.stays e;
      empty = λ e low none. lists ∙ h.empty e low none;
    }

continues_from : (k : ℕ) (s : LinkStation) (step : LinkStep) → Continues s step → Continues s (closed_by k step)
continues_from k s step h =
    let lists = ended_lists k step.side in
    record {
      phase = λ e. ended_phase k step.side ∙ h.phase e;
      given = λ e. ap (λ x. x.given) lists ∙ h.given e;
      taken = λ e. ap (λ x. x.taken) lists ∙ h.taken e;
      waits = λ e. le_trans (ended_waits k step.side) (h.waits e);
      acked = λ e. subst (λ n. s.outgoing.acked ≤ n) (sym (ap (λ x. x.acked) lists)) (h.acked e);
    }

hands_from : (k : ℕ) (s : LinkStation) (step : LinkStep) → HandsUp s step → HandsUp s (closed_by k step)
hands_from k s step h = record {
  up = h.up;
  few = h.few;
  few_after = λ x e. le_trans (ended_waits k step.side) (h.few_after x e);
  quiet = h.quiet;
}

-- ---- rows in which Up is left, or a link is set up

pub noted_quiet : {A : Type 0} (reason : Reason) (up : Bool) → (let n : Notes = record { down = Some reason; up = up } in n)
    ≡ record { down = None; up = false } → A
noted_quiet reason up e = none_is_some reason (sym (ap (λ (n : Notes). n.down) e))

pub up_quiet : {A : Type 0} (down : Option Reason) → (let n : Notes = record { down = down; up = true } in n) ≡ record { down = None; up = false } → A
up_quiet down e = true_false (ap (λ (n : Notes). n.up) e)

leaves_tells : (s : LinkStation) (reason : Reason) (t : Side) → Tells s (leaves reason t)
leaves_tells s reason t = record {
  fresh_up = λ e. true_false (sym e);
  after_down = λ e. true_false (sym e);
  left = λ _ _ _. refl;
  dropped = λ _ _ _. refl;
  stays = λ e. noted_quiet reason false e;
  empty = λ e _ _. noted_quiet reason false e;
}

leaves_continues : (s : LinkStation) (reason : Reason) (t : Side) → Continues s (leaves reason t)
leaves_continues s reason t = record {
  phase = λ e. noted_quiet reason false e;
  given = λ e. noted_quiet reason false e;
  taken = λ e. noted_quiet reason false e;
  waits = λ e. noted_quiet reason false e;
  acked = λ e. noted_quiet reason false e;
}

sets_up_tells : (s : LinkStation) (down : Option Reason) (out : List PlainFrame) → down ≡ reset_from s.phase
    → Tells s (let step : LinkStep = record { side = record { near = fresh; out = out }; packet = None; notes = record { down = down; up = true } } in step)
sets_up_tells s down out same = record {
  fresh_up = λ _. refl;
  after_down = λ _. same;
  left = λ _ _ e. true_false e;
  dropped = λ _ _ e. true_false e;
  stays = λ e. up_quiet down e;
  empty = λ e _ _. up_quiet down e;
}

sets_up_continues : (s : LinkStation) (down : Option Reason) (out : List PlainFrame)
    → Continues s (let step : LinkStep = record { side = record { near = fresh; out = out }; packet = None; notes = record { down = down; up = true } } in step)
sets_up_continues s down out = record {
  phase = λ e. up_quiet down e;
  given = λ e. up_quiet down e;
  taken = λ e. up_quiet down e;
  waits = λ e. up_quiet down e;
  acked = λ e. up_quiet down e;
}

-- ---- rows that note nothing

-- by the values alone, so that a step that changes only flags keeps it by computation
pub record SameAt (s : LinkStation) (more : List (List ℕ)) (at : Phase) (all up : List (List ℕ)) (low high : ℕ) : Type 0 where
  pub phase : at ≡ s.phase
  pub given : all ≡ s.outgoing.given
  pub taken : up ≡ s.taken ++ more
  pub acked : s.outgoing.acked ≤ low
  pub sent : s.outgoing.sent ≤ high

module _ (s : LinkStation) (more : List (List ℕ)) where
  abbrev pub Same : Side → Type 0
  Same t = SameAt s more t.near.phase t.near.outgoing.given t.near.taken t.near.outgoing.acked t.near.outgoing.sent

  same_if : (b : Bool) (u v : Side) → Same u → Same v → Same (if b then u else v)
  same_if true u v f g = f
  same_if false u v f g = g

  pub S-ready : (command pf : Bool) (t : Side) → Same t → Same (ready command pf t)
  S-ready command pf t h = same_if (is_busy t.near) _ _ h h

  pub S-answers : (k : ℕ) (p : Bool) (t : Side) → Same t → Same (answers k p t)
  S-answers k true t h = S-ready false true t h
  S-answers k false t h = same_if (may_send k t.near) (send_next t) (ready false false t)
      (let sent = h.sent in record { phase = h.phase; given = h.given; taken = h.taken; acked = h.acked; sent = omega arith }) (S-ready false false t h)

  pub S-passes_over : (p : Bool) (t : Side) → Same t → Same (passes_over p t)
  S-passes_over p t h =
      same_if (is_busy t.near) _ _ (S-ready false p t h)
      (same_if (not t.near.rejecting) _ _ h
      (same_if p _ _ (S-ready false true t h) h))

  pub S-polls : (command pf : Bool) (t : Side) → Same t → Same (polls command pf t)
  S-polls true true t h = S-ready false true t h
  S-polls true false t h = h
  S-polls false true t h = h
  S-polls false false t h = h

begins_same : (s : LinkStation) → Same s [] (alone s)
begins_same s = record { phase = refl; given = refl; taken = sym (append-nil s.taken); acked = omega arith; sent = omega arith }

heard_same : (s : LinkStation) (nr : ℕ) → Same s [] (acknowledged nr (alone s))
heard_same s nr = record { phase = refl; given = refl; taken = sym (append-nil s.taken); acked = omega arith; sent = omega arith }

quiet_tells : (s : LinkStation) (t : Side) (packet : Option (List ℕ)) → is_up t.near.phase ≡ is_up s.phase
    → (is_up s.phase ≡ false → lists_of s ≡ no_packets → lists_of t.near ≡ no_packets)
    → Tells s (let step : LinkStep = record { side = t; packet = packet; notes = record { down = None; up = false } } in step)
quiet_tells s t packet same empty = record {
  fresh_up = λ e. true_false (sym e);
  after_down = λ e. true_false (sym e);
  left = λ reason e _. none_is_some reason e;
  dropped = λ reason e _. none_is_some reason e;
  stays = λ _. same;
  empty = λ _ low none. empty low none;
}

-- in Up
up_tells : (s : LinkStation) (t : Side) (packet : Option (List ℕ)) (more : List (List ℕ)) → s.phase ≡ Up → Same s more t
    → Tells s (let step : LinkStep = record { side = t; packet = packet; notes = record { down = None; up = false } } in step)
up_tells s t packet more e h = quiet_tells s t packet (ap is_up h.phase) (λ low _. true_false (sym (ap is_up e) ∙ low))

quiet_continues : (s : LinkStation) (t : Side) (packet : Option (List ℕ)) → Same s (option_to_list packet) t
    → Continues s (let step : LinkStep = record { side = t; packet = packet; notes = record { down = None; up = false } } in step)
quiet_continues s t packet h =
    let given = ap length h.given in
    let sent = h.sent in
    record { phase = λ _. h.phase; given = λ _. h.given; taken = λ _. h.taken; waits = λ _. omega arith; acked = λ _. h.acked }

-- where nothing in the lists moved
still_tells : (s : LinkStation) (t : Side) → t.near ≡ s → Tells s (quiet t)
still_tells s t e = quiet_tells s t None (ap (λ (u : LinkStation). is_up u.phase) e) (λ _ none. ap lists_of e ∙ none)

still_continues : (s : LinkStation) (t : Side) → t.near ≡ s → Continues s (quiet t)
still_continues s t e =
    quiet_continues s t None (record {
      phase = ap (λ (u : LinkStation). u.phase) e;
      given = ap (λ (u : LinkStation). u.outgoing.given) e;
      taken = ap (λ (u : LinkStation). u.taken) e ∙ sym (append-nil s.taken);
      acked = omega (arith, ap (λ (u : LinkStation). u.outgoing.acked) e);
      sent = omega (arith, ap (λ (u : LinkStation). u.outgoing.sent) e);
    })

-- ---- both laws of a row, and what it hands up

pub record RowTells (s : LinkStation) (step : LinkStep) : Type 0 where
  pub tells : Tells s step
  pub continues : Continues s step
  pub hands : HandsUp s step

hands_none : (s : LinkStation) (step : LinkStep) → step.packet ≡ None → HandsUp s step
hands_none s step e = record {
  up = λ x f. never x (sym e ∙ f);
  few = λ x f. never x (sym e ∙ f);
  few_after = λ x f. never x (sym e ∙ f);
  quiet = λ x f. never x (sym e ∙ f);
}
  where
    never : {A : Type 0} (x : List ℕ) → (let p : Option (List ℕ) = None in p) ≡ Some x → A
    never x e = absurd (no e)
      where
        no : (let p : Option (List ℕ) = None in p) ≡ Some x → ⊥
        no e = cc

row_leaves : (s : LinkStation) (reason : Reason) (t : Side) → RowTells s (leaves reason t)
row_leaves s reason t = record { tells = leaves_tells s reason t; continues = leaves_continues s reason t; hands = hands_none s (leaves reason t) refl }

row_still : (s : LinkStation) (t : Side) → t.near ≡ s → RowTells s (quiet t)
row_still s t e = record { tells = still_tells s t e; continues = still_continues s t e; hands = hands_none s (quiet t) refl }

row_same : (s : LinkStation) (t : Side) → s.phase ≡ Up → Same s [] t → RowTells s (quiet t)
row_same s t e h = record { tells = up_tells s t None [] e h; continues = quiet_continues s t None h; hands = hands_none s (quiet t) refl }

row_sets_up : (s : LinkStation) (down : Option Reason) (out : List PlainFrame) → down ≡ reset_from s.phase
    → RowTells s (let step : LinkStep = record { side = record { near = fresh; out = out }; packet = None; notes = record { down = down; up = true } } in step)
row_sets_up s down out same = record { tells = sets_up_tells s down out same; continues = sets_up_continues s down out; hands = hands_none s _ refl }

row_if : (s : LinkStation) (b : Bool) (x y : LinkStep) → RowTells s x → RowTells s y → RowTells s (if b then x else y)
row_if s true x y f g = f
row_if s false x y f g = g

-- ---- Up

row_numbered : (c : LinkSettings) (octets : List ℕ) (nr : ℕ) (row : Side → LinkStep) (s : LinkStation) → RowTells s (row (acknowledged nr (alone s)))
    → RowTells s (numbered c octets nr row (alone s))
row_numbered c octets nr row s h =
    row_if s (is_valid nr s) (row (acknowledged nr (alone s))) (rejects c octets 8 (alone s)) h
    (row_leaves s FrmrSent (sends (reject_of c octets 8 s) (alone s)))

info_tells : (k ns nr : ℕ) (p : Bool) (packet : List ℕ) (s : LinkStation) (b : Bool) → s.phase ≡ Up → is_taken ns (acknowledged nr (alone s)).near ≡ b
    → RowTells s (hears_info k ns p packet (acknowledged nr (alone s)))
info_tells k ns nr p packet s true e is =
    let t : Side = takes packet (acknowledged nr (alone s)) in
    let same : Same s (packet ∷ []) (answers k p t) = S-answers s (packet ∷ []) k p t
    (record { phase = refl; given = refl; taken = refl; acked = omega arith; sent = omega arith }) in
    let given = ap length same.given in
    let sent = same.sent in
    let both = and_parts _ _ is in
    let few : waits s.outgoing ≤ 254 = ltb-false _ _ (not-true _ both.0) in
    rw is (record {
      tells = up_tells s (answers k p t) (Some packet) (packet ∷ []) e same;
      continues = quiet_continues s (answers k p t) (Some packet) same;
      hands = record { up = λ _ _. e; few = λ _ _. few; few_after = λ _ _. omega arith; quiet = λ _ _. refl };
    })
info_tells k ns nr p packet s false e is =
    let t = acknowledged nr (alone s) in
    rw is (row_same s (passes_over p t) e (S-passes_over s [] p t (heard_same s nr)))

frame_tells : (c : LinkSettings) (octets : List ℕ) (frame : PlainFrame) (s : LinkStation) → s.phase ≡ Up → RowTells s (row_of_frame c octets frame (alone s))
frame_tells c octets (info ns nr p packet) s e = row_numbered c octets nr (hears_info c.window ns p packet) s (info_tells c.window ns nr p packet s _ e refl)
frame_tells c octets (rr command nr pf) s e =
    row_numbered c octets nr (λ u. quiet (polls command pf (peer_is false u))) s
    (row_same s _ e (S-polls s [] command pf (peer_is false (acknowledged nr (alone s))) (heard_same s nr)))
frame_tells c octets (rnr command nr pf) s e =
    row_numbered c octets nr (λ u. quiet (polls command pf (peer_is true u))) s
    (row_same s _ e (S-polls s [] command pf (peer_is true (acknowledged nr (alone s))) (heard_same s nr)))
frame_tells c octets (rej command nr pf) s e =
    row_numbered c octets nr (λ u. quiet (polls command pf (goes_back (peer_is false u)))) s
    (row_same s _ e (S-polls s [] command pf (goes_back (peer_is false (acknowledged nr (alone s)))) (heard_same s nr)))
frame_tells c octets (sabm p) s e = row_sets_up s (Some Reset) _ (sym (ap reset_from e))
frame_tells c octets (disc p) s e = row_leaves s Disc (sends (ua p) (alone s))
frame_tells c octets (ua f) s e = row_still s (alone s) refl
frame_tells c octets (dm f) s e = row_leaves s Dm (alone s)
frame_tells c octets (frmr f why) s e = row_leaves s FrmrGot (alone s)

read_tells : (c : LinkSettings) (octets : List ℕ) (read : Result PlainFrame FrameError) (s : LinkStation) → s.phase ≡ Up
    → RowTells s (row_of c octets read (alone s))
read_tells c octets (Ok frame) s e = frame_tells c octets frame s e
read_tells c octets (Err (Undefined control)) s e = row_leaves s FrmrSent (sends (reject_of c octets 1 s) (alone s))
read_tells c octets (Err (NoInfoAllowed control)) s e = row_leaves s FrmrSent (sends (reject_of c octets 3 s) (alone s))
read_tells c octets (Err TooLong) s e = row_leaves s FrmrSent (sends (reject_of c octets 4 s) (alone s))
read_tells c octets (Err x) s e = row_still s (alone s) refl

-- ---- the other phases

declines_tells : (b : Bool) (s : LinkStation) → RowTells s (quiet (let u : Side = if b then sends (dm true) (alone s) else alone s in u))
declines_tells true s = row_still s (sends (dm true) (alone s)) refl
declines_tells false s = row_still s (alone s) refl

down_tells : (frame : PlainFrame) (s : LinkStation) → s.phase ≡ Down → RowTells s (when_down frame (alone s))
down_tells (sabm p) s e = row_sets_up s None _ (sym (ap reset_from e))
down_tells (disc p) s e = row_still s (sends (dm p) (alone s)) refl
down_tells frame s e = declines_tells (is_command frame && poll_or_final frame) s

waiting_tells : (frame : PlainFrame) (s : LinkStation) → s.phase ≡ Waiting → RowTells s (when_waiting frame (alone s))
waiting_tells (ua true) s e = row_sets_up s None _ (sym (ap reset_from e))
waiting_tells (sabm p) s e = row_still s (sends (ua p) (alone s)) refl
waiting_tells (disc p) s e = row_still s (sends (dm p) (alone s)) refl
waiting_tells frame s e = row_still s (alone s) refl

-- what a DISC awaits ends
ended_tells : (s : LinkStation) (ending : Ending) (closing : Closing) → is_up s.phase ≡ false → RowTells s (quiet (answered ending closing (alone s)))
ended_tells s ending Asked low = record {
  tells = quiet_tells s _ None refl (λ _ none. none);
  continues = quiet_continues s _ None (begins_same s);
  hands = hands_none s _ refl;
}
ended_tells s ending closing low = row_still s (alone s) refl

closed_tells : (frame : PlainFrame) (s : LinkStation) → is_up s.phase ≡ false → RowTells s (when_closed frame (alone s))
closed_tells (ua true) s low = ended_tells s ByUa s.closing low
closed_tells (dm true) s low = ended_tells s ByDm s.closing low
closed_tells frame s low = declines_tells (is_command frame && poll_or_final frame) s

hears_tells : (c : LinkSettings) (octets : List ℕ) (read : Result PlainFrame FrameError) (p : Phase) (s : LinkStation) → s.phase ≡ p
    → RowTells s (hears c octets read p (alone s))
hears_tells c octets (Ok frame) Down s e = down_tells frame s e
hears_tells c octets (Ok frame) Waiting s e = waiting_tells frame s e
hears_tells c octets read Up s e = read_tells c octets read s e
hears_tells c octets (Ok frame) Closed s e = closed_tells frame s (ap is_up e)
hears_tells c octets (Err x) p s e = row_still s (alone s) refl

-- ---- calls

take_row : (c : LinkSettings) (octets : List ℕ) (s : LinkStation) → RowTells s (hears c octets (frame_of (other c.role) c.longest octets) s.phase (alone s))
take_row c octets s = hears_tells c octets (frame_of (other c.role) c.longest octets) s.phase s refl

pub take_tells : TakeTells
take_tells c octets s = tells_from c.window s _ (take_row c octets s).tells

pub take_continues : TakeContinues
take_continues c octets s = continues_from c.window s _ (take_row c octets s).continues

pub take_hands_up : TakeHandsUp
take_hands_up c octets s =
    hands_from c.window s _ (take_row c octets s).hands

row_quiet : (s : LinkStation) (n : ℕ) (frame : PlainFrame) → is_up s.phase ≡ false → RowTells s (quiet (sends frame (alone (record s { tries = n }))))
row_quiet s n frame low = record {
  tells = quiet_tells s _ None refl (λ _ none. none);
  continues = quiet_continues s _ None (begins_same s);
  hands = hands_none s _ refl;
}

asks_tells : (s : LinkStation) (n : ℕ) (p : Phase) → s.phase ≡ p → RowTells s (quiet (asks_again p (alone (record s { tries = n }))))
asks_tells s n Up e = row_same s _ e (S-ready s [] true true (with_near (alone s) (record s { tries = n; recovery = true })) (begins_same s))
asks_tells s n Closed e = row_quiet s n (disc true) (ap is_up e)
asks_tells s n p e = row_quiet s n (sabm true) (ap is_up e)

gives_tells : (s : LinkStation) (p : Phase) → s.phase ≡ p → RowTells s (gives_up p (alone s))
gives_tells s Closed e = ended_tells s GivenUp s.closing (ap is_up e)
gives_tells s p e = row_leaves s Retries (alone s)

timer_by : (b : Bool) (c : LinkSettings) (s : LinkStation) → nat_lt s.tries c.retries ≡ b → RowTells s (fires c (alone s))
timer_by true c s is = rw is (asks_tells s (s.tries + 1) s.phase refl)
timer_by false c s is = rw is (gives_tells s s.phase refl)

pub timer_tells : TimerTells
timer_tells c s = tells_from c.window s _ (timer_by _ c s refl).tells

pub timer_continues : TimerContinues
timer_continues c s = continues_from c.window s _ (timer_by _ c s refl).continues

pub put_tells : PutTells
put_tells c packet s up = tells_from c.window s (puts packet (alone s)) (quiet_tells s _ None refl (λ low _. true_false (sym up ∙ low)))

pub connect_tells : ConnectTells
connect_tells c s e = tells_from c.window s (connects (alone s)) (quiet_tells s _ None (sym (ap is_up e)) (λ _ none. none))

disconnect_by : (b : Bool) (c : LinkSettings) (s : LinkStation) → is_up s.phase ≡ b → Tells s (disconnects c.disc_again (alone s))
disconnect_by true c s e = rw e (record {
  fresh_up = λ f. true_false (sym f);
  after_down = λ f. true_false (sym f);
  left = λ _ _ _. refl;
  dropped = λ _ _ _. refl;
  stays = λ f. noted_quiet _ false f;
  empty = λ f _ _. noted_quiet _ false f;
})
disconnect_by false c s e = rw e (quiet_tells s _ None (sym e) (λ _ _. refl))

pub disconnect_tells : DisconnectTells
disconnect_tells c s = tells_from c.window s (disconnects c.disc_again (alone s)) (disconnect_by _ c s refl)

pub abandon_tells : AbandonTells
abandon_tells c s = tells_from c.window s (leaves Counts (alone s)) (leaves_tells s Counts (alone s))

pub relink_tells : RelinkTells
relink_tells c s = tells_from c.window s (relinks (alone s)) (record {
  fresh_up = λ e. true_false (sym e);
  after_down = λ e. true_false (sym e);
  left = λ _ _ _. refl;
  dropped = λ _ _ _. refl;
  stays = λ e. noted_quiet Local false e;
  empty = λ e _ _. noted_quiet Local false e;
})

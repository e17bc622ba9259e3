-- A link between its calls.
use Rattle.x25_link.proofs.Names.{length, arith, ◌≤◌, ◌≡◌, ℕ, ◌+◌, ◌%◌, List, [], ◌∷◌, ◌++◌, append-nil, Bool, true, false, not, if◌then◌else◌, refl, sym, ap}
use Rattle.x25_link.proofs.Names.{◌∙◌, subst, and_right, length-drop, nat_lt, ◌&&◌, ◌||◌, PlainFrame, info, frame_of, FrameError, spelling_of, Outgoing, added}
use Rattle.x25_link.proofs.Names.{is_open, moved_on, next_packet, FitsOutgoing, Phase, Up, LinkSettings, LinkStation, Side, is_up, is_busy, wanted, with_near}
use Rattle.x25_link.proofs.Names.{ready, may_send, owes_ready, ended, other, row_of_frame, alone, asks_again, closed_by, fires, hears, puts, FitsStation}
use Rattle.x25_link.proofs.Names.{Closed, Closing, Asked, GivenUp, answered, gives_up}
use Rattle.std.{proofs.lemmas.Bool.{and_left}, specs.Prelude.{Result, Ok}}
use Rattle.x25_bits.specs.declared.role.Role.{Role}
use Rattle.x25_link.proofs.{EndLemmas.{true_false, put_once, ready_sends, ended_stays}, FitsLemmas.{sends_fits}, Names.{FitsSide}, OutgoingLemmas.{sent_length}}
use Rattle.x25_link.specs.code.{Bounds.{FewWait, FewStand, WindowIsSmall}, Fits.{Made}, FitsLink.{ShownLink, FitsLink}}
use Rattle.x25_link.specs.declared.{outgoing.Outgoing.{Outgoing as OutgoingCode}, station.LinkStation.{LinkStation as StationCode}}

-- ---- a call begins: no frame is made yet

pub begins : (c : LinkSettings) (old inside : ShownLink) (made : List (List ℕ)) (s : LinkStation) → inside ≡ old → FitsLink c old s → made ≡ []
    → FitsSide c inside.station [] made (alone s)
begins c old inside made s same fits none = record {
  near = (subst (λ (v : ShownLink). FitsLink c v s) (sym same) fits).near;
  out = none;
}

-- ---- a frame that comes while the link is up

pub hears_up : (c : LinkSettings) (v : StationCode) (from : Role) (octets : List ℕ) (t : Side) (frame : PlainFrame) → FitsStation c v t.near
    → is_up v.phase ≡ true → from ≡ other v.role → frame_of from v.parameters.n1 octets ≡ Ok frame
    → hears c octets (frame_of (other c.role) c.longest octets) t.near.phase t ≡ row_of_frame c octets frame t
hears_up c v from octets t frame fits up same read =
    ap (λ (r : Result PlainFrame FrameError). hears c octets r t.near.phase t) (rw (same, fits.role, fits.longest) at read)
    ∙ by_phase t.near.phase (sym (ap is_up fits.phase) ∙ up)
  where
    by_phase : (p : Phase) → is_up p ≡ true → hears c octets (Ok frame) p t ≡ row_of_frame c octets frame t
    by_phase Up e = refl
    by_phase p e = true_false (sym e)

-- ---- a packet that is handed down where nothing may be sent

-- what holds frames up is a test of two
held_is : (r q : Bool) (may : Bool) → (not r && (not q && may)) ≡ (not (r || q) && may)
held_is true q may = refl
held_is false q may = refl

pub may_put : (c : LinkSettings) (v : StationCode) (s : LinkStation) (o : Outgoing) → FitsStation c v s → is_up v.phase ≡ true
    → may_send c.window (record s { outgoing = o }) ≡ (not (v.recovery || v.peer_busy) && is_open c.window o)
may_put c v s o near up = rw (sym near.phase, up, sym near.recovery, sym near.peer_busy) (held_is v.recovery v.peer_busy (is_open c.window o))

pub put_fits : (c : LinkSettings) (v : StationCode) (b : OutgoingCode) (before made : List (List ℕ)) (s : LinkStation) (packet : List ℕ) (nr : ℕ) (sent : Bool)
    → FitsStation c v s → is_up v.phase ≡ true → nr ≡ wanted s → may_send c.window s ≡ false → owes_ready s ≡ false
    → (let o : Outgoing = added packet s.outgoing in
    let shuts : Type 0 = (v.recovery || v.peer_busy) ≡ false → is_open c.window s.outgoing ≡ false in
    (shuts → sent ≡ (not (v.recovery || v.peer_busy) && is_open c.window o))
    → (shuts → FitsOutgoing c.window b (if sent then moved_on o else o))
    → (shuts → made ≡ (if sent then before ++ spelling_of v.role (info (s.outgoing.place % 8) nr false (next_packet o)) ∷ [] else before))
    → FitsSide c (record v { outgoing = b }) before made (closed_by c.window (puts packet (alone s))).side)
put_fits c v b before made s packet nr sent near up number settled calm goes outgoing frames =
    let o = added packet s.outgoing in
    let shuts = λ (free : (v.recovery || v.peer_busy) ≡ false).
    sym (ap (λ (h : Bool). not h && is_open c.window s.outgoing) free) ∙ sym (may_put c v s s.outgoing near up) ∙ settled in
    let high = near.outgoing.sender.sound.place_high in
    let low : s.outgoing.place ≤ s.outgoing.sent = omega (arith, sent_length _ _ _ near.outgoing, high) in
    subst (λ (u : Side). FitsSide c (record v { outgoing = b }) before made u) (sym (put_once c.window s packet low settled calm))
    (sends_fits c v b before before made s o [] nr sent near (sym (append-nil before)) number (goes shuts ∙ sym (may_put c v s o near up)) (outgoing shuts)
    (frames shuts))

-- ---- a step after which nothing may be sent

pub closed_state : (c : LinkSettings) (v : ShownLink) (u : Side) → FitsStation c v.station u.near → may_send c.window u.near ≡ false → owes_ready u.near
    ≡ false → FitsLink c v (ended c.window u).near
closed_state c v u near settled calm =
    subst (λ (w : Side). FitsLink c v w.near) (sym (ended_stays c.window u settled calm)) (record { near = near; settled = settled; calm = calm })

pub closed_out : (c : LinkSettings) (before made : List (List ℕ)) (u : Side) → may_send c.window u.near ≡ false → owes_ready u.near ≡ false
    → Made c before made u.out → Made c before made (ended c.window u).out
closed_out c before made u settled calm out =
    subst (λ (w : Side). Made c before made w.out) (sym (ended_stays c.window u settled calm)) out

-- ---- timer T1

calm_by : (b : Bool) (command pf : Bool) (t : Side) → is_busy t.near ≡ b → owes_ready (ready command pf t).near ≡ false
calm_by true command pf t e = rw e (and_right (is_up t.near.phase) _ (rw e refl))
calm_by false command pf t e = rw e (and_right (is_up t.near.phase) _ refl)

asks_settled : (k : ℕ) (p : Phase) (t : Side) → t.near.phase ≡ p → may_send k (asks_again p t).near ≡ false
asks_settled k Up t e = ready_sends k _ true true (with_near t (record t.near { recovery = true })) refl ∙ and_right (is_up t.near.phase) _ refl
asks_settled k p t e = and_left (is_up t.near.phase) _ (ap is_up e)

asks_calm : (p : Phase) (t : Side) → t.near.phase ≡ p → owes_ready (asks_again p t).near ≡ false
asks_calm Up t e = calm_by _ true true (with_near t (record t.near { recovery = true })) refl
asks_calm p t e = and_left (is_up t.near.phase) _ (ap is_up e)

ends_settled : (k : ℕ) (closing : Closing) (t : Side) → t.near.phase ≡ Closed → may_send k (answered GivenUp closing t).near ≡ false
ends_settled k Asked t e = and_left (is_up t.near.phase) _ (ap is_up e)
ends_settled k closing t e = and_left (is_up t.near.phase) _ (ap is_up e)

ends_calm : (closing : Closing) (t : Side) → t.near.phase ≡ Closed → owes_ready (answered GivenUp closing t).near ≡ false
ends_calm Asked t e = and_left (is_up t.near.phase) _ (ap is_up e)
ends_calm closing t e = and_left (is_up t.near.phase) _ (ap is_up e)

gives_settled : (k : ℕ) (p : Phase) (t : Side) → t.near.phase ≡ p → may_send k (gives_up p t).side.near ≡ false
gives_settled k Closed t e = ends_settled k t.near.closing t e
gives_settled k p t e = refl

gives_calm : (p : Phase) (t : Side) → t.near.phase ≡ p → owes_ready (gives_up p t).side.near ≡ false
gives_calm Closed t e = ends_calm t.near.closing t e
gives_calm p t e = refl

fires_settled_by : (b : Bool) (c : LinkSettings) (t : Side) → nat_lt t.near.tries c.retries ≡ b → may_send c.window (fires c t).side.near ≡ false
fires_settled_by true c t e = rw e (asks_settled c.window t.near.phase (with_near t (record t.near { tries = t.near.tries + 1 })) refl)
fires_settled_by false c t e = rw e (gives_settled c.window t.near.phase t refl)

pub fires_settled : (c : LinkSettings) (t : Side) → may_send c.window (fires c t).side.near ≡ false
fires_settled c t = fires_settled_by _ c t refl

fires_calm_by : (b : Bool) (c : LinkSettings) (t : Side) → nat_lt t.near.tries c.retries ≡ b → owes_ready (fires c t).side.near ≡ false
fires_calm_by true c t e = rw e (asks_calm t.near.phase (with_near t (record t.near { tries = t.near.tries + 1 })) refl)
fires_calm_by false c t e = rw e (gives_calm t.near.phase t refl)

pub fires_calm : (c : LinkSettings) (t : Side) → owes_ready (fires c t).side.near ≡ false
fires_calm c t = fires_calm_by _ c t refl

-- ---- what a link holds at most

pub few_wait : FewWait
few_wait c v s fits =
    subst (λ (n : ℕ). n ≤ 256) (ap length fits.near.outgoing.queue ∙ length-drop s.outgoing.sent s.outgoing.given) fits.near.outgoing.few

pub few_stand : FewStand
few_stand c v s fits =
    let outgoing = fits.near.outgoing in
    let sound = outgoing.sender.sound in
    let l = sent_length c.window v.station.outgoing s.outgoing outgoing in
    let high = sound.place_high in
    let room = sound.room in
    record { place_low = sound.place_low; place_high = omega arith; sent_high = outgoing.sent; room = omega arith }

pub window_is_small : WindowIsSmall
window_is_small c v s fits = fits.near.outgoing.sender.sound.window_high

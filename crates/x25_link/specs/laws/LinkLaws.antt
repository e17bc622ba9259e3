-- What holds of each state that a link stands for: a packet is handed down behind all others, what is acknowledged is a
-- beginning of what was handed down, and how many packets wait and stand unacknowledged.
use Rattle.std.specs.Prelude.{◌≡◌, ℕ, zero, suc, ◌+◌, ◌≤◌, Bool, true, false, if◌then◌else◌, refl}
use Rattle.std.specs.Prelude.{List, [], ◌∷◌, ◌++◌, length}
use Rattle.std.proofs.Common.{sym, ap, subst, ◌∙◌, arith}
use Rattle.std.proofs.Math.Nat.{le_trans}
use Rattle.std.proofs.lemmas.List.{length-take-le, length-drop}
use Rattle.x25_link.specs.declared.phase.Phase.{Phase}
use Rattle.x25_link.specs.Outgoing.{added}
use Rattle.x25_link.specs.Station.{Side, Lists, lists_of, is_up, with_near, is_busy, ready, send_next, may_send, pumped}
use Rattle.x25_link.specs.Station.{owes_ready, ended}
use Rattle.x25_link.specs.Link.{alone}
use Rattle.x25_link.specs.code.FitsLink.{ShownLink, LinkState, FitsWhole, waiting_of, up_of, lists_in, waits_of, up_at}
use Rattle.x25_link.specs.code.FitsLink.{after_put_to}

abbrev pub handed_down : Lists → List ℕ → Lists
handed_down x packet = record { given = x.given ++ packet ∷ []; acked = x.acked; taken = x.taken }

by_if : (b : Bool) (u v : Side) (x : Lists) → lists_of u.near ≡ x → lists_of v.near ≡ x
    → (let w : Side = if b then u else v in lists_of w.near) ≡ x
by_if true u v x e f = e
by_if false u v x e f = f

pumped_lists : (n k : ℕ) (t : Side) → lists_of (pumped n k t).near ≡ lists_of t.near
unfolding pumped
pumped_lists zero k t = refl
pumped_lists (suc n) k t = by_if (may_send k (pumped n k t).near) (send_next (pumped n k t)) (pumped n k t) _ refl refl
    ∙ pumped_lists n k t

ready_lists : (t : Side) → lists_of (ready false false t).near ≡ lists_of t.near
ready_lists t = by_if (is_busy t.near) _ _ _ refl refl

pub ended_lists : (k : ℕ) (t : Side) → lists_of (ended k t).near ≡ lists_of t.near
ended_lists k t = by_if (owes_ready (pumped 7 k t).near) (ready false false (pumped 7 k t)) (pumped 7 k t) _
    (ready_lists (pumped 7 k t)) refl ∙ pumped_lists 7 k t

pub put_adds : (x : LinkState) (packet : List ℕ) → lists_in (after_put_to x packet) ≡ handed_down (lists_in x) packet
put_adds x packet = ended_lists x.settings.window
    (with_near (alone x.station) (record x.station { outgoing = added packet x.station.outgoing }))

pub acked_low : (v : ShownLink) (x : LinkState) → FitsWhole v x → (lists_in x).acked ≤ length (lists_in x).given
acked_low v x fits =
    let o = x.station.outgoing in
    let outgoing = fits.link.near.outgoing in
    let sound = outgoing.sender.sound in
    le_trans (le_trans sound.place_low sound.place_high)
    (subst (λ (n : ℕ). n ≤ length o.given) (sym (length-take-le o.sent o.given outgoing.sent)) outgoing.sent)

-- ---- how many wait, and whether it is up

pub link_waits : (v : ShownLink) (x : LinkState) → FitsWhole v x → waiting_of v ≡ waits_of x
link_waits v x fits =
    let o = x.station.outgoing in
    ap length fits.link.near.outgoing.queue ∙ length-drop o.sent o.given

pub link_up : (v : ShownLink) (x : LinkState) → FitsWhole v x → up_of v ≡ up_at x
link_up v x fits = ap is_up fits.link.near.phase

phase_if : (b : Bool) (u v : Side) (p : Phase) → u.near.phase ≡ p → v.near.phase ≡ p
    → (let w : Side = if b then u else v in w.near.phase) ≡ p
phase_if true u v p e f = e
phase_if false u v p e f = f

pumped_phase : (n k : ℕ) (t : Side) → (pumped n k t).near.phase ≡ t.near.phase
unfolding pumped
pumped_phase zero k t = refl
pumped_phase (suc n) k t = phase_if (may_send k (pumped n k t).near) (send_next (pumped n k t))
    (pumped n k t) _ refl refl ∙ pumped_phase n k t

ready_phase : (t : Side) → (ready false false t).near.phase ≡ t.near.phase
ready_phase t = phase_if (is_busy t.near) _ _ _ refl refl

pub ended_phase : (k : ℕ) (t : Side) → (ended k t).near.phase ≡ t.near.phase
ended_phase k t = phase_if (owes_ready (pumped 7 k t).near) (ready false false (pumped 7 k t)) (pumped 7 k t) _
    (ready_phase (pumped 7 k t)) refl ∙ pumped_phase 7 k t

pub link_close : (v : ShownLink) (x : LinkState) → FitsWhole v x
    → length (lists_in x).given ≤ (lists_in x).acked + waits_of x + 7
link_close v x fits =
    let o = x.station.outgoing in
    let outgoing = fits.link.near.outgoing in
    let sound = outgoing.sender.sound in
    omega (arith, sound.room, sound.window_high, outgoing.sent, length-take-le o.sent o.given outgoing.sent)

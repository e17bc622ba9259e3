-- What holds of two stations says the claims.
use Rattle.x25_line.proofs.Names.{◌≡◌, ◌==◌, ℕ, ◌-◌, zero, suc, ◌≤◌, List, [], ◌∷◌, ◌++◌, inl, inr, length, drop, true, false, refl, sym, ap, ◌∙◌, arith}
use Rattle.x25_line.proofs.Names.{eqb-true, and_parts, take-append-drop, take_all, ◌&&◌, ReadsSpelled, End, Frame, waits, LinkSettings, LinkStation, is_up}
use Rattle.x25_line.proofs.Names.{is_idle, IsPrefix, Line, StationEnd, Stations, start, machine_run, machine_at_start, AreJoined, Laws}
use Rattle.std.proofs.Common.{take}
use Rattle.x25_line.proofs.Kept.{Way, Way-acked, InWindow-from_Kept}
use Rattle.x25_line.proofs.{StationRuns.{run_once, start_machine}, StationSteps.{FitsEnd, up_of, Joint, Holds, not_both}}
use Rattle.x25_line.specs.laws.StationClaims.{Always, InOrder, BothInOrder, HasItsLists, BothHaveTheirLists, BothNoteTheirEnds, IsBehind, AreInWindow}
use Rattle.x25_line.specs.laws.{StationClaims.{NoFrmrSent, AllSentAreWhole}, WholeNumbers.{MachineGoesAlong}}
use Rattle.x25_link.specs.Station.{lists_of, no_packets}

-- beginnings of one list, the shorter is one of the longer
take_of_take : (a r : ℕ) (xs : List (List ℕ)) → a ≤ r → take a (take r xs) ≡ take a xs
take_of_take zero r xs le = refl
take_of_take (suc a) zero xs le = absurd (omega arith)
take_of_take (suc a) (suc r) [] le = refl
take_of_take (suc a) (suc r) (x ∷ xs) le = ap (λ ys. x ∷ ys) (take_of_take a r xs (omega arith))

acked_begins : (a : ℕ) (down up : List (List ℕ)) → up ≡ take (length up) down → a ≤ length up → IsPrefix (take a down) up
acked_begins a down up begins le =
    let same : take a down ≡ take a up = sym (ap (take a) begins ∙ take_of_take a (length up) down le) in
    (drop a up, ap (λ ys. ys ++ drop a up) same ∙ take-append-drop a up)

-- an idle station has the acknowledgement of all that was handed down
pub idle_all : (s : LinkStation) → is_idle s ≡ true → s.outgoing.sent ≤ length s.outgoing.given → s.outgoing.acked ≡ length s.outgoing.given
idle_all s idle high =
    let outer = and_parts (is_up s.phase) (waits s.outgoing == 0 && s.outgoing.acked == s.outgoing.sent) idle in
    let inner = and_parts (waits s.outgoing == 0) (s.outgoing.acked == s.outgoing.sent) outer.1 in
    let none : length s.outgoing.given - s.outgoing.sent ≡ 0 = eqb-true (waits s.outgoing) 0 inner.0 in
    let all : s.outgoing.acked ≡ s.outgoing.sent = eqb-true s.outgoing.acked s.outgoing.sent inner.1 in
    omega (arith, none, all, high)

pub in_order : (c : LinkSettings) (giver taker : StationEnd) (e : End (List ℕ)) (taken : List (List ℕ)) (told : ℕ)
    (there back : List (Frame (List ℕ)))
    → FitsEnd c giver.station e → Way e taken told there back → giver.down ≡ e.given → taker.up ≡ taken → InOrder giver taker
in_order c giver taker e taken told there back fits way is_down is_up_list =
    let down = giver.down in
    let up = taker.up in
    let bounds = Way-acked way in
    let begins : up ≡ take (length up) down =
    is_up_list ∙ way.begins ∙ ap (λ n. take n e.given) (sym (ap length is_up_list)) ∙ ap (take (length up)) (sym is_down) in
    record {
      begins = (drop (length up) down, ap (λ ys. ys ++ drop (length up) down) begins ∙ take-append-drop (length up) down);
      acked = acked fits begins;
      idle = all;
    }
  where
    acked : FitsEnd c giver.station e → taker.up ≡ take (length taker.up) giver.down → IsPrefix (take giver.station.outgoing.acked giver.down) taker.up
    acked (inl u) begins =
        let bounds = Way-acked way in
        acked_begins giver.station.outgoing.acked giver.down taker.up begins (omega (arith, bounds.0, ap length is_up_list, ap (λ z. z.acked) u.same))
    acked (inr away) begins = acked_begins giver.station.outgoing.acked giver.down taker.up begins (omega (arith, ap (λ z. z.acked) away.empty))

    all : is_idle giver.station ≡ true → taker.up ≡ giver.down
    all idle =
        let u = up_of fits (and_parts _ _ idle).0 in
        let bounds = Way-acked way in
        is_up_list ∙ way.begins ∙ take_all (length taken) e.given
        (omega (arith, bounds.0, idle_all giver.station idle u.sound.sent_high, (ap (λ z. z.acked) u.same), ap (λ z. length z.given) u.same)) ∙ sym is_down

has_lists : {c : LinkSettings} (giver : StationEnd) {e : End (List ℕ)} → FitsEnd c giver.station e → giver.down ≡ e.given → giver.up ≡ e.taken
    → HasItsLists giver
has_lists {c} giver {e} fits is_down is_up_list =
    record {
      given = λ is_on. ap (λ z. z.given) (up_of fits is_on).same ∙ sym is_down;
      taken = λ is_on. ap (λ z. z.taken) (up_of fits is_on).same ∙ sym is_up_list;
      empty = empty fits;
    }
  where
    empty : FitsEnd c giver.station e → is_up giver.station.phase ≡ false → lists_of giver.station ≡ no_packets
    empty (inl u) off = not_both (is_up giver.station.phase) u.up off
    empty (inr away) off = away.empty

-- ---- as long as the link isn't set up anew

-- order at both ends, by what is kept
pub holds_order : {c d : LinkSettings} {w : Stations} → Holds c d w → BothInOrder c d w
holds_order {c} {d} {w} holds =
    let l = holds.0 in
    let h = holds.1 in (
      in_order c w.near w.far l.near l.far.taken (length l.far.taken) l.out l.back h.near h.kept.from_near h.near_has.down h.far_has.up,
      in_order d w.far w.near l.far l.near.taken (length l.near.taken) l.back l.out h.far h.kept.from_far h.far_has.down h.near_has.up,
    )

-- the lists of both ends, by what is kept
pub holds_lists : {c d : LinkSettings} {w : Stations} → Holds c d w → BothHaveTheirLists c d w
holds_lists {c} {d} {w} holds =
    let l = holds.0 in
    let h = holds.1 in
    (has_lists w.near h.near h.near_has.down h.near_has.up, has_lists w.far h.far h.far_has.down h.far_has.up)

pub is_behind : {c d : LinkSettings} {w : Stations} {l : Line (List ℕ)} → Joint c d w l → IsBehind c d w l
is_behind {c} {d} {w} {l} h = record {
  reached = h.reached;
  near = record { given = h.near_has.down; taken = h.near_has.up; numbers = λ is_on. (up_of h.near is_on).same };
  far = record { given = h.far_has.down; taken = h.far_has.up; numbers = λ is_on. (up_of h.far is_on).same };
  out = h.out;
  back = h.back;
  window = InWindow-from_Kept l h.kept;
}

pub holds_window : {c d : LinkSettings} {w : Stations} → Holds c d w → AreInWindow c d w
holds_window holds = (holds.0, is_behind holds.1)

pub holds_whole : {c d : LinkSettings} → AreJoined c d → {w : Stations} → Holds c d w → AllSentAreWhole c d w
holds_whole joined holds = rw joined.longest holds.1.whole

module _ (reads : ReadsSpelled) (laws : Laws) where
  reached : Always Holds
  reached c d joined events once = (machine_run c d events start (machine_at_start c d), run_once joined reads laws events (start_machine joined) once)

  pub keeps_order : Always BothInOrder
  keeps_order c d joined events once = holds_order (reached c d joined events once)

  pub keeps_lists : Always BothHaveTheirLists
  keeps_lists c d joined events once = holds_lists (reached c d joined events once)

  pub keeps_notes : Always BothNoteTheirEnds
  keeps_notes c d joined events once =
      let h = (reached c d joined events once).1 in
      (h.near_has.notes.notes, h.far_has.notes.notes)

  pub goes_along : MachineGoesAlong
  unfolding reached
  goes_along c d joined events once = is_behind (reached c d joined events once).1

  pub sends_no_frmr : Always NoFrmrSent
  sends_no_frmr c d joined events once = (reached c d joined events once).1.no_frmr

  pub sends_whole : Always AllSentAreWhole
  sends_whole c d joined events once = holds_whole joined (reached c d joined events once)

-- A frame on the line to the near end is lost or damaged, which keeps what holds of two stations.
use Rattle.x25_line.proofs.Names.{Option, None, length, ◌≡◌, ◌≤◌, ℕ, zero, suc, List, [], ◌++◌, refl, sym, ap, ◌∙◌, subst, arith, Role, ReadsSpelled, Phase}
use Rattle.x25_line.proofs.Names.{Waiting, Up, LinkSettings, is_up, LinkStation, other, AreJoined, given, place_of, taken_out, Entry, Sessions, letters}
use Rattle.x25_line.proofs.Names.{octets_of, Standing, place_to_hear, standing_after, Laws, LessAt, IsSeenIn, ua_of, how_many}
use Rattle.x25_line.proofs.{StationSteps.{Joint, Leads, counted_fits, left_joint, stands_still}, ends.Lines.{count_less}, sessions.Letters.{letters_less}}
use Rattle.x25_line.proofs.sessions.{SessionActs.{waiting_owes}, SessionHeld.{is_there, is_soon, is_out, IsOf, EndIsThere, OnLine, Held, counted_there}}
use Rattle.x25_line.proofs.sessions.SessionLines.{carried, carried_numbers, carried_orderly, Come, come_less, behind_ua, behind_less, behind_none}
use Rattle.x25_line.specs.laws.SessionNumbers.{place_behind_ua}

module _ {c d : LinkSettings} (joined : AreJoined c d) (reads : ReadsSpelled) (laws : Laws) {stand : Standing} {w : Sessions} (h : Held stand c d w)
    (line : OnLine c d w) {es : List Entry} {i : ℕ} (less : LessAt IsSeenIn i w.back es) where
  -- what is kept where the session alone has these octets on its line
  kept_by : {os : List (List ℕ)} (missing : Option ℕ) → Leads c d stand.machine missing [] (record h.alone { back = os })
      → EndIsThere c w.near es h.alone.near.station os stand.near stand.far
      → Held (standing_after c w.near.station [] missing stand) c d (record w { back = es })
  kept_by {os} missing left near = record {
    alone = record h.alone { back = os };
    holds = subst (λ e. Joint c d (record h.alone { back = os }) (record {
      near = e;
      far = stand.machine.far;
      out = stand.machine.out ++ given e.acked (length e.taken) stand.machine.near.sent [];
      back = taken_out missing stand.machine.back;
    })) (counted_fits h.holds.near ∙ sym (counted_there w.near near h.holds.near)) left;
    near = near;
    far = h.far;
    near_lists = h.near_lists;
    far_lists = h.far_lists;
    no_frmr = h.no_frmr;
    whole = h.whole;
  }

  -- of an end that these are to come to, and then those, as this place of the session alone is gone
  come_by : (missing : Option ℕ) {s : LinkStation} {begun : ℕ} {xs : List Entry} (ys : List Entry)
      → (Come (other c.role) c.longest stand.machine.back stand.far xs → Come (other c.role) c.longest (taken_out missing stand.machine.back) stand.far ys)
      → IsOf (other c.role) c.longest s begun xs h.alone.near.station h.alone.back stand.near stand.far
      → Leads c d stand.machine missing [] (record h.alone { back = carried (other c.role) c.longest ys })
      × IsOf (other c.role) c.longest s begun ys h.alone.near.station (carried (other c.role) c.longest ys) stand.near stand.far
  come_by missing ys goes k =
      let left = goes (rw k.comes h.holds.back, k.of) in
      let same = carried_numbers (other c.role) c.longest ys in (
        left_joint h.holds missing
            (rw same left.0) (carried_orderly (other c.role) c.longest ys),
        record { station = k.station; session = k.session; comes = sym same; of = left.1 },
      )

  -- of an end that is out of it nothing is gone
  none_by : (missing : Option ℕ) → missing ≡ None → EndIsThere c w.near es h.alone.near.station h.alone.back stand.near stand.far
      → Held (standing_after c w.near.station [] missing stand) c d (record w { back = es })
  none_by missing none near = rw none (kept_by None (stands_still h.holds) near)

  abbrev from : Role
  from = other c.role

  abbrev n1 : ℕ
  n1 = c.longest

  abbrev KeptIn : Phase → Type 0
  KeptIn p = Held (standing_after c w.near.station [] (place_to_hear p from n1 (octets_of w.back) i) stand) c d (record w { back = es })

  waiting_by : w.near.station.phase ≡ Waiting → KeptIn Waiting
  waiting_by is = go (how_many ua_of (letters from n1 es)) refl
    where
      go : (n : ℕ) → how_many ua_of (letters from n1 es) ≡ n → KeptIn Waiting
      go zero none = none_by (place_behind_ua from n1 (octets_of w.back) i) (behind_none from n1 less none)
          (is_out w.near.station.phase (ap is_up is) (λ _. none))
      go (suc n) some =
          let owes = waiting_owes is line.near_owes in
          let few : how_many ua_of (letters from n1 w.back) ≤ 1 = omega (arith, owes.0) in
          let more : 1 ≤ how_many ua_of (letters from n1 es) = omega (arith, some) in
          let left = come_by (place_behind_ua from n1 (octets_of w.back) i) (behind_ua from n1 es)
          (λ come. behind_less from n1 stand.far less few more stand.machine.back come)
          (h.near.awaits is (omega (arith, more, count_less ua_of refl (letters_less from n1 less)))) in
          kept_by (place_behind_ua from n1 (octets_of w.back) i) left.0 (is_soon w.near.station.phase is (λ _. left.1))

  by : (p : Phase) → w.near.station.phase ≡ p → KeptIn p
  by Up is =
      let left = come_by (place_of from n1 (octets_of w.back) i) es (λ come. come_less from n1 stand.far less stand.machine.back come)
      (h.near.up (ap is_up is)) in
      kept_by (place_of from n1 (octets_of w.back) i) left.0 (is_there w.near.station.phase (ap is_up is) left.1)
  by Waiting is = waiting_by is
  by p is = none_by None refl (is_out w.near.station.phase (ap is_up is) (λ waits. absurd (cc)))

  -- a frame on the line to the near end is lost or damaged
  pub change_held : Held (standing_after c w.near.station [] (place_to_hear w.near.station.phase (other c.role) c.longest (octets_of w.back) i) stand) c d
      (record w { back = es })
  change_held = by w.near.station.phase refl

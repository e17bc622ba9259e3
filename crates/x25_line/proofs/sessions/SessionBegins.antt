-- A SABM that comes to an end that isn't Closed begins two sessions, and keeps what holds of two stations.
use Rattle.x25_line.proofs.Names.{◌≡◌, ◌≤◌, ℕ, suc, ◌+◌, List, [], ◌∷◌, ◌++◌, inl, inr, Bool, None, refl, sym, ap, ◌∙◌, subst, arith, PlainFrame, ua}
use Rattle.x25_line.proofs.Names.{spelling_of, frame_of, ReadsSpelled, LinkSettings, fresh, is_up, LinkStep, other, start, AreJoined, Entry, Meeting, Sessions}
use Rattle.x25_line.proofs.Names.{letters, sent_in, Standing, anew, AllOf, Said, said, sabm_of, ua_of, how_many}
use Rattle.x25_line.proofs.{StationLines.{AreParting, parts_of, no_frmr_append, parting_whole}, StationRuns.{start_machine}}
use Rattle.x25_line.proofs.sessions.SessionHeld.{IsThere, EndIsThere, is_soon, is_out, OnLine, HasLists, SameLists, Held, whole_apart}
use Rattle.x25_line.proofs.sessions.SessionLines.{numbers, behind_ua, behind_last}
use Rattle.x25_line.proofs.sessions.SessionSteps.{end_after, stepped, nothing_handed, waiting_is_closed, asked_by, many_out}

module _ {c d : LinkSettings} (joined : AreJoined c d) (reads : ReadsSpelled) where
  -- the near end answers UA; the far end asked, so that it is about to be in its session, or it is Closed
  pub begins_held : {stand : Standing} (w : Sessions) (h : Held stand c d w) (line : OnLine c d w) (e : Entry) (es : List Entry) (met : List Meeting) → w.back
      ≡ e ∷ es → sabm_of (said (frame_of (other c.role) c.longest e.octets)) ≡ 1 → (n : ℕ) (f : Bool) (step : LinkStep)
      → step.packet ≡ None → step.side.out ≡ ua f ∷ []
      → IsThere step.side.near.phase (other c.role) c.longest step.side.near n es fresh [] (suc w.near.begun) (suc w.far.begun)
      → Held (anew c d w) c d (stepped c w es met [] n step)
  begins_held {stand} w h line e es met is one n f step none answer there = by (elim (asked_by w.far.station.phase some line.far_owes) [
    | inl waits ↦ is_soon w.far.station.phase waits.0
        (λ _. record {
          station = refl;
          session = refl;
          comes = ap (numbers (other d.role) d.longest) (last waits.1);
          of = subst (AllOf (other d.role) d.longest (suc w.near.begun)) (sym (last waits.1)) tt;
        })
    | inr closed ↦ is_out w.far.station.phase (ap is_up closed) (λ waits. waiting_is_closed w.far.station.phase waits closed)
  ])
    where
      fs : List PlainFrame
      fs = step.side.out

      more : List Entry
      more = sent_in n c.role step.side.out

      all_back : (kind : Said → ℕ) → how_many kind (letters (other c.role) c.longest w.back) ≡ kind (said (frame_of (other c.role) c.longest e.octets))
          + how_many kind (letters (other c.role) c.longest es)
      all_back kind = ap (λ es. how_many kind (letters (other c.role) c.longest es)) is

      some_back : 1 ≤ how_many sabm_of (letters (other c.role) c.longest w.back)
      some_back = omega (arith, all_back sabm_of, one)

      some : 1 ≤ how_many sabm_of (letters (other c.role) c.longest w.back) + how_many ua_of (letters (other d.role) d.longest w.out)
      some = omega (arith, some_back)

      ua_reads : ua_of (said (frame_of (other d.role) d.longest (spelling_of c.role (ua f)))) ≡ 1
      ua_reads =
          let one_ua = many_out joined reads ua_of n [] (ua f ∷ []) (parting_whole d.longest [] (ua f ∷ []) (parts_of (ua f ∷ []) tt)) in
          omega (arith, one_ua)

      -- the UA is the last on the line
      last : how_many sabm_of (letters (other c.role) c.longest w.back) + how_many ua_of (letters (other d.role) d.longest w.out) ≤ 1
          → behind_ua (other d.role) d.longest (w.out ++ more) ≡ []
      last few = rw answer (behind_last (other d.role) d.longest w.out (record { session = n; octets = spelling_of c.role (ua f) })
          (omega (arith, few, some_back)) ua_reads)

      same : SameLists w.near (end_after w.near n [] step)
      same = nothing_handed w.near n step none

      near_lists : HasLists (end_after w.near n [] step) (suc w.near.begun) start.near
      near_lists = record { down = same.down (suc w.near.begun) ∙ line.near_next.0; up = same.up (suc w.near.begun) ∙ line.near_next.1 }

      by : EndIsThere d w.far (w.out ++ more) fresh [] (suc w.far.begun) (suc w.near.begun) → Held (anew c d w) c d (stepped c w es met [] n step)
      by far =
          record {
            alone = start;
            holds = start_machine joined;
            near = there;
            far = far;
            near_lists = near_lists;
            far_lists = record { down = line.far_next.0; up = line.far_next.1 };
            no_frmr = rw answer (no_frmr_append w.sent (ua f ∷ []) h.no_frmr tt);
            whole = whole_apart fs same (subst AreParting (sym answer) tt) h.whole;
          }

-- The worked rows of sessions, by computing: what comes is what the frame is that was spelled.
use Rattle.x25_line.proofs.Names.{◌≡◌, ℕ, List, [], ◌∷◌, true, false, if◌then◌else◌, Result, Ok, arith, refl, sym, ap, ◌∙◌, subst, Role, Dte, Dce, PlainFrame}
use Rattle.x25_line.proofs.Names.{rr, sabm, ua, spelling_of, frame_of, ReadsSpelled, FrameError, LinkSettings, is_up, pumped, other, alone, closed_by, hears}
use Rattle.x25_line.proofs.Names.{Put, Deliver, T1, Connect, Abandon, Lose, Near, Far, dte, said, Entry, Sessions, after_step, meets, delivered, swapped, acts}
use Rattle.x25_line.proofs.Names.{happens, run, from_nothing, from_set_up}
use Rattle.x25_line.proofs.rows.StationRowLemmas.{packet_frame, crossing_frame, info_reads, bare_reads, ready_reads}
use Rattle.x25_line.specs.rows.{SessionRows.{IsFirst, SetsUpFromNothing, IsSecond, SetsUpAgain}, StationRows.{dce}}

-- the two stations once octets that read as this have come to the near end
abbrev pub taken_as : LinkSettings → Result PlainFrame FrameError → Entry → List Entry → Sessions → Sessions
taken_as c r e back w =
    after_step c w back (if is_up w.near.station.phase then meets (said r) (record { near = w.near.begun; far = e.session }) w.met else w.met) []
    (closed_by c.window (hears c e.octets r w.near.station.phase (alone w.near.station)))

pub comes : (c : LinkSettings) (r : Result PlainFrame FrameError) (e : Entry) (back : List Entry) (w : Sessions)
    → frame_of (other c.role) c.longest e.octets ≡ r
    → w.back ≡ e ∷ back
    → acts c Deliver w ≡ taken_as c r e back w
comes c r e back w reads is = ap (λ es. delivered c es w) is ∙ ap (λ z. taken_as c z e back w) reads

-- an entry of a frame that was sent in a session
abbrev sent : ℕ → Role → PlainFrame → Entry
sent session from f = record { session = session; octets = spelling_of from f }

near_takes : (f : PlainFrame) (session : ℕ) (back : List Entry) (w : Sessions) → frame_of Dce 128 (spelling_of Dce f) ≡ Ok f → w.back ≡ sent session Dce f
    ∷ back
    → happens dte dce (Near Deliver) w ≡ taken_as dte (Ok f) (sent session Dce f) back w
near_takes f session back w reads is = comes dte (Ok f) (sent session Dce f) back w reads is

far_takes : (f : PlainFrame) (session : ℕ) (out : List Entry) (w : Sessions) → frame_of Dte 128 (spelling_of Dte f) ≡ Ok f → w.out ≡ sent session Dte f ∷ out
    → happens dte dce (Far Deliver) w ≡ swapped (taken_as dce (Ok f) (sent session Dte f) out (swapped w))
far_takes f session out w reads is = ap swapped (comes dce (Ok f) (sent session Dte f) out (swapped w) reads is)

module _ (reads : ReadsSpelled) where
  pub sets_up_from_nothing : SetsUpFromNothing
  unfolding pumped
  sets_up_from_nothing =
      let w = happens dte dce (Near T1) (happens dte dce (Far (Lose 0)) (happens dte dce (Near Connect) from_nothing)) in
      let v = swapped (taken_as dce (Ok (sabm true)) (sent 0 Dte (sabm true)) [] (swapped w)) in
      let t = happens dte dce (Near (Put (5 ∷ []))) (taken_as dte (Ok (ua true)) (sent 1 Dce (ua true)) [] v) in
      let s = swapped (taken_as dce (Ok packet_frame) (sent 1 Dte packet_frame) [] (swapped t)) in
      let first = far_takes (sabm true) 0 [] w (bare_reads reads Dte (sabm true) tt) refl in
      let second = near_takes (ua true) 1 [] v (bare_reads reads Dce (ua true) tt) refl in (
        (tt, (tt, ((λ waiting. refl), (tt, (tt, (tt, (tt, tt))))))),
        subst IsFirst (sym (ap (run dte dce (Near Deliver ∷ Near (Put (5 ∷ [])) ∷ Far Deliver ∷ [])) first
            ∙ ap (run dte dce (Near (Put (5 ∷ [])) ∷ Far Deliver ∷ [])) second ∙ (far_takes packet_frame 1 [] t (info_reads reads Dte false 5) refl)))
            (refl, refl, refl, refl),
      )

  pub sets_up_again : SetsUpAgain
  unfolding pumped
  sets_up_again =
      let w = happens dte dce (Near Connect) (happens dte dce (Near Abandon) (happens dte dce (Near (Put (5 ∷ []))) from_set_up)) in
      let v = swapped (taken_as dce (Ok packet_frame) (sent 1 Dte packet_frame) (sent 1 Dte (sabm true) ∷ []) (swapped w)) in
      let u = swapped (taken_as dce (Ok (sabm true)) (sent 1 Dte (sabm true)) [] (swapped v)) in
      let t = taken_as dte (Ok (rr false 1 false)) (sent 1 Dce (rr false 1 false)) (sent 2 Dce (ua true) ∷ []) u in
      let r = happens dte dce (Near (Put (7 ∷ []))) (taken_as dte (Ok (ua true)) (sent 2 Dce (ua true)) [] t) in
      let first = far_takes packet_frame 1 (sent 1 Dte (sabm true) ∷ []) w (info_reads reads Dte false 5) refl in
      let second = far_takes (sabm true) 1 [] v (bare_reads reads Dte (sabm true) tt) refl in
      let third = near_takes (rr false 1 false) 1 (sent 2 Dce (ua true) ∷ []) u (ready_reads reads Dce false 1 false (omega arith)) refl in
      let fourth = near_takes (ua true) 2 [] t (bare_reads reads Dce (ua true) tt) refl in
      let fifth = far_takes crossing_frame 2 [] r (info_reads reads Dte false 7) refl in (
        (tt, (tt, (tt, (tt, (tt, (tt, (tt, (tt, (tt, tt))))))))),
        subst IsSecond
            (sym (ap (run dte dce (Far Deliver ∷ Near Deliver ∷ Near Deliver ∷ Near (Put (7 ∷ [])) ∷ Far Deliver ∷ [])) first
            ∙ ap (run dte dce (Near Deliver ∷ Near Deliver ∷ Near (Put (7 ∷ [])) ∷ Far Deliver ∷ [])) second
            ∙ ap (run dte dce (Near Deliver ∷ Near (Put (7 ∷ [])) ∷ Far Deliver ∷ [])) third
            ∙ ap (run dte dce (Near (Put (7 ∷ [])) ∷ Far Deliver ∷ [])) fourth
            ∙ fifth))
            (refl, refl, refl, refl, refl),
      )

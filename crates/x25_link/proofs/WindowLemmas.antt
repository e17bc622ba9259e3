-- What each small step of a station keeps: it is a run of the window machine.
use Rattle.x25_link.proofs.Names.{◌≡◌, ℕ, zero, suc, List, [], Bool, true, false, not, if◌then◌else◌, refl, arith, PlainFrame, rr, rnr, rej, Outgoing, Side}
use Rattle.x25_link.proofs.Names.{is_up, is_busy, wanted, with_near, sends, ready, send_next, may_send, pumped, owes_ready, finished, ended, answers}
use Rattle.std.proofs.lemmas.Option.{slice_get-get_or}
use Rattle.x25_link.{proofs.EndLemmas.{open_is}, proofs.Names.{passes_over, goes_back, polls}, specs.laws.WindowLaw.{IsSound, window_in}}
use Rattle.x25_link.specs.laws.WindowMachine.{Window, Runs, goes_on}
use Rattle.x25_window.specs.laws.Window.EndStep.{Send, Tell}

-- by the values alone, so that a step that changes only flags keeps it by computation
pub record KeptAt (k : ℕ) (from : Window) (is_on : Bool) (o : Outgoing) (taken : List (List ℕ)) (out : List PlainFrame) : Type 0 where
  pub up : is_on ≡ true
  pub sound : IsSound k o
  pub runs : Runs from (window_in k o taken) out

module _ (k : ℕ) (from : Window) where
  abbrev pub Kept : Side → Type 0
  Kept t = KeptAt k from (is_up t.near.phase) t.near.outgoing t.near.taken t.out

  keeps_if : (b : Bool) (u v : Side) → Kept u → Kept v → Kept (if b then u else v)
  keeps_if true u v f g = f
  keeps_if false u v f g = g

  by_if : (b : Bool) (u v : Side) → (b ≡ true → Kept u) → (b ≡ false → Kept v) → Kept (if b then u else v)
  by_if true u v f g = f refl
  by_if false u v f g = g refl

  pub K-rr : (command pf : Bool) (t : Side) → Kept t → Kept (sends (rr command (wanted t.near) pf) t)
  K-rr command pf t h = record { up = h.up; sound = h.sound; runs = goes_on _ _ Tell _ h.runs tt tt ((refl, refl), tt) }

  pub K-rnr : (command pf : Bool) (t : Side) → Kept t → Kept (sends (rnr command (wanted t.near) pf) t)
  K-rnr command pf t h = record { up = h.up; sound = h.sound; runs = goes_on _ _ Tell _ h.runs tt tt ((refl, refl), tt) }

  pub K-rej : (command pf : Bool) (t : Side) → Kept t → Kept (sends (rej command (wanted t.near) pf) t)
  K-rej command pf t h = record { up = h.up; sound = h.sound; runs = goes_on _ _ Tell _ h.runs tt tt ((refl, refl), tt) }

  pub K-ready : (command pf : Bool) (t : Side) → Kept t → Kept (ready command pf t)
  K-ready command pf t h =
      keeps_if (is_busy t.near) _ _
      (K-rnr command pf (with_near t (record t.near { said_busy = true })) h)
      (K-rr command pf (with_near t (record t.near { said_busy = false })) h)

  pub K-send_next : (t : Side) → may_send k t.near ≡ true → Kept t → Kept (send_next t)
  K-send_next t may h =
      let o = open_is k t.near may in
      let s = h.sound in
      record {
        up = h.up;
        sound = record { place_low = omega arith; place_high = omega arith; sent_high = omega arith; room = omega arith };
        runs = goes_on _ _ (Send t.near.outgoing.place) _ h.runs tt (s.place_low, s.place_high, o.room, o.packet)
            (rw (slice_get-get_or t.near.outgoing.given t.near.outgoing.place [] o.packet) (((refl, refl), refl, refl), tt));
      }

  pub K-pumped : (n : ℕ) (t : Side) → Kept t → Kept (pumped n k t)
  unfolding pumped
  K-pumped zero t h = h
  K-pumped (suc n) t h =
      by_if (may_send k (pumped n k t).near) (send_next (pumped n k t)) (pumped n k t)
      (λ may. K-send_next (pumped n k t) may (K-pumped n t h)) (λ _. K-pumped n t h)

  pub K-finished : (t : Side) → Kept t → Kept (finished t)
  K-finished t h = keeps_if (owes_ready t.near) _ t (K-ready false false t h) h

  pub K-ended : (t : Side) → Kept t → Kept (ended k t)
  K-ended t h = K-finished (pumped 7 k t) (K-pumped 7 t h)

  pub K-answers : (p : Bool) (t : Side) → Kept t → Kept (answers k p t)
  K-answers true t h = K-ready false true t h
  K-answers false t h = by_if (may_send k t.near) (send_next t) (ready false false t) (λ may. K-send_next t may h) (λ _. K-ready false false t h)

  pub K-passes_over : (p : Bool) (t : Side) → Kept t → Kept (passes_over p t)
  K-passes_over p t h =
      keeps_if (is_busy t.near) _ _ (K-ready false p t h)
      (keeps_if (not t.near.rejecting) _ _ (K-rej false p (with_near t (record t.near { rejecting = true })) h)
      (keeps_if p _ _ (K-ready false true t h) h))

  pub K-goes_back : (t : Side) → Kept t → Kept (goes_back t)
  K-goes_back t h =
      let s = h.sound in
      record {
        up = h.up;
        sound = record { place_low = omega arith; place_high = omega arith; sent_high = s.sent_high; room = s.room };
        runs = h.runs;
      }

  pub K-polls : (command pf : Bool) (t : Side) → Kept t → Kept (polls command pf t)
  K-polls true true t h = K-ready false true t h
  K-polls true false t h = h
  K-polls false true t h = K-goes_back (with_near t (record t.near { recovery = false; tries = 0 })) h
  K-polls false false t h = h

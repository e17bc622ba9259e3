-- The schedule of healing, event by event: lists that go on, an event that may be refused, deliveries.
use Rattle.x25_world.proofs.Names.{◌≡◌, ℕ, zero, suc, ◌+◌, ◌-◌, ◌≤◌, ◌<◌, ◌⊎◌, inl, inr, List, [], ◌∷◌, ◌++◌, length, Some, None, Result, Ok, Err, OnOk, IfErr}
use Rattle.x25_world.proofs.Names.{refl, sym, ap, ap₂, ◌∙◌, subst, arith, append_assoc, append-nil, length-append, Role, Dte, Dce, Cfg, settings_from, World}
use Rattle.x25_world.proofs.Names.{AtEnd, mirrored, WorldOutcome, Happened, Declined, swapped_back, delivered, Event, happens, refusal_of, after, run}
use Rattle.x25_world.proofs.Names.{WorldError, receipt, all_received, next_end, arrivals, deliveries, one_if, if_accepted, behind, received_in, ShownWorld}
use Rattle.x25_world.proofs.Names.{FitsWorld, IsRefusal, TellingWorld, GoesBy, telling, Tells, GoesPartly, plain_told, Entered}
use Rattle.std.proofs.Common.{◌≢◌}
use Rattle.x25_world.{proofs.WorldLemmas.{run_append, accepted_append}, specs.Healing.{arrivals_from}}
use Rattle.x25_world.specs.declared.error.WorldError.TheVariants as error

-- ---- lists of events

-- one list, and then another
pub goes_behind : {cfg : Cfg} {xs ys : List Event} {w : World} {u v : TellingWorld} {before : List AtEnd} → GoesBy cfg xs w u before
    → GoesBy cfg ys (run cfg xs w) v before → GoesBy cfg (xs ++ ys) w v before
goes_behind {cfg} {xs} {ys} {w} f g = record {
  accepted = accepted_append cfg xs ys w f.accepted g.accepted;
  fits = rw (run_append cfg xs ys w) g.fits;
}

-- memory is refused in the first list
pub stops_first : {cfg : Cfg} {xs : List Event} (ys : List Event) {w : World} {v : TellingWorld} {before : List AtEnd} {e : WorldError}
    → GoesPartly cfg xs w v before e → GoesPartly cfg (xs ++ ys) w v before e
stops_first ys h = record {
  memory = h.memory;
  done = h.done;
  left = h.left ++ ys;
  all = ap (λ es. es ++ ys) h.all ∙ append_assoc h.done h.left ys;
  goes = h.goes;
}

-- or in the second
pub stops_behind : {cfg : Cfg} {xs ys : List Event} {w : World} {u v : TellingWorld} {before : List AtEnd} {e : WorldError} → GoesBy cfg xs w u before
    → GoesPartly cfg ys (run cfg xs w) v before e → GoesPartly cfg (xs ++ ys) w v before e
stops_behind {cfg} {xs} {w} {u} {v} {before} f h = record {
  memory = h.memory;
  done = xs ++ h.done;
  left = h.left;
  all = ap (λ es. xs ++ es) h.all ∙ sym (append_assoc xs h.done h.left);
  goes = goes_behind f h.goes;
}

-- where nothing was told yet
pub tells_nothing : {cfg : Cfg} {v : ShownWorld} (told : List Entered) {w : World} → told ≡ [] → FitsWorld cfg v w → Tells cfg (telling v told) w w.transcript
tells_nothing told {w} none fits = record { fits = fits; told = sym (append-nil w.transcript) ∙ ap (λ l. w.transcript ++ plain_told l) (sym none) }

-- ---- a list that has begun

-- some of the events have happened, so many deliveries among them, and the others are the rest from here
pub record Begun (cfg : Cfg) (events : List Event) (w : World) (v : TellingWorld) (before : List AtEnd) (rest : World → List Event) (count : ℕ) : Type 0 where
  pub done : List Event
  pub goes : GoesBy cfg done w v before
  pub counted : received_in done ≡ count
  pub all : events ≡ done ++ rest (run cfg done w)

pub count_append : (xs ys : List Event) → received_in (xs ++ ys) ≡ received_in xs + received_in ys
count_append [] ys = omega arith
count_append (x ∷ xs) ys = omega (arith, count_append xs ys)

module _ {cfg : Cfg} {events : List Event} {w : World} {u : TellingWorld} (v : TellingWorld) {before : List AtEnd}
    (first rest : World → List Event) {count : ℕ} (h : Begun cfg events w u before (behind cfg first rest) count) where
  pub goes_on : (more : ℕ) → (let x = run cfg h.done w in GoesBy cfg (first x) x v before → more ≡ received_in (first x)
      → Begun cfg events w v before rest (count + more))
  goes_on more goes counted =
      let x = run cfg h.done w in
      record {
        done = h.done ++ first x;
        goes = goes_behind h.goes goes;
        counted = count_append h.done (first x) ∙ ap₂ (λ n m. n + m) h.counted (sym counted);
        all = h.all ∙ sym (append_assoc h.done (first x) (rest (run cfg (first x) x)))
            ∙ ap (λ z. (h.done ++ first x) ++ rest z) (sym (run_append cfg h.done (first x) w));
      }

  pub stops_in : (e : WorldError) → (let x = run cfg h.done w in GoesPartly cfg (first x) x v before e → GoesPartly cfg events w v before e)
  stops_in e partly =
      let x = run cfg h.done w in
      subst (λ es. GoesPartly cfg es w v before e) (sym h.all)
      (stops_behind h.goes (stops_first (rest (run cfg (first x) x)) partly))

module _ {cfg : Cfg} {events : List Event} {w : World} {v : TellingWorld} {before : List AtEnd} {rest : World → List Event} {count : ℕ}
    (h : Begun cfg events w v before rest count) where
  -- the rest, said in another way
  abbrev pub rest_is : (other : World → List Event) → (let x = run cfg h.done w in rest x ≡ other x → Begun cfg events w v before other count)
  rest_is other same = record { done = h.done; goes = h.goes; counted = h.counted; all = h.all ∙ ap (λ es. h.done ++ es) same }

  all_done : rest (run cfg h.done w) ≡ [] → events ≡ h.done
  all_done none = h.all ∙ ap (λ es. h.done ++ es) none ∙ append-nil h.done

  pub went_all : rest (run cfg h.done w) ≡ [] → GoesBy cfg events w v before
  went_all none = rw (all_done none) h.goes

  pub counted_all : rest (run cfg h.done w) ≡ [] → count ≡ received_in events
  counted_all none = sym h.counted ∙ ap received_in (sym (all_done none))

-- ---- an event that is accepted or not

pub accepts_one : {cfg : Cfg} (e : Event) (w : World) {v : TellingWorld} {before : List AtEnd} → Tells cfg v (after w (happens cfg w e)) before
    → refusal_of (happens cfg w e) ≡ None → GoesBy cfg (if_accepted cfg e w) w v before
accepts_one {cfg} e w {v} {before} fits accepted = by (happens cfg w e) refl fits accepted
  where
    by : (o : WorldOutcome) → happens cfg w e ≡ o → Tells cfg v (after w o) before → refusal_of o ≡ None → GoesBy cfg (one_if e o) w v before
    by (Happened next) is fits accepted = record {
      accepted = (ap refusal_of is, tt);
      fits = rw is fits;
    }
    by (Declined x) is fits accepted = absurd (cc)

pub leaves_out : {cfg : Cfg} (e : Event) {w : World} {v : TellingWorld} {before : List AtEnd} {x : WorldError} (r : Result (Unit {0}) WorldError)
    → OnOk r (x ≢ error.NoMemory) → IsRefusal cfg w e x → Tells cfg v w before
    → OnOk r (GoesBy cfg (if_accepted cfg e w) w v before)
leaves_out e (Err y) other refused fits = tt
leaves_out {cfg} e {w} {v} {before} {x} (Ok done) other refused fits =
    elim refused [ inl ground ↦ declined (happens cfg w e) ground | inr memory ↦ absurd (other memory) ]
  where
    declined : (o : WorldOutcome) → refusal_of o ≡ Some x → GoesBy cfg (one_if e o) w v before
    declined (Happened next) is = absurd (cc)
    declined (Declined y) is = record { accepted = tt; fits = fits }

pub stops_now : {cfg : Cfg} (events : List Event) {w : World} {v : TellingWorld} {before : List AtEnd} (r : Result (Unit {0}) WorldError)
    → IfErr r (λ x. x ≡ error.NoMemory) → Tells cfg v w before → IfErr r (GoesPartly cfg events w v before)
stops_now events (Ok done) memory fits = tt
stops_now events (Err x) memory fits = record { memory = memory; done = []; left = events; all = refl; goes = record { accepted = tt; fits = fits } }

-- what is refused changes nothing
pub tried_is : (cfg : Cfg) (e : Event) (w : World) → run cfg (if_accepted cfg e w) w ≡ after w (happens cfg w e)
tried_is cfg e w = by (happens cfg w e) refl
  where
    by : (o : WorldOutcome) → happens cfg w e ≡ o → run cfg (one_if e o) w ≡ after w o
    by (Happened next) is = ap (after w) is
    by (Declined x) is = refl

-- ---- deliveries

-- what the world tells of its line
pub line_is : {cfg : Cfg} {v : ShownWorld} {w : World} → FitsWorld cfg v w → next_end v.to_dce v.to_dte ≡ next_end w.out w.back
line_is {v} {w} f = ap (λ front. next_end front v.to_dte) f.to_dce ∙ ap (next_end w.out) f.to_dte

none : (back : List (List ℕ)) → next_end [] back ≡ Some Dce → ⊥
none [] is = cc
none (o ∷ os) is = cc

-- a delivery to an end to which a frame is on the line is accepted
pub found : (cfg : Cfg) (w : World) (at : Role) → next_end w.out w.back ≡ Some at → refusal_of (happens cfg w (receipt at)) ≡ None
found cfg w Dce is = by w.out is
  where
    by : (out : List (List ℕ)) → next_end out w.back ≡ Some Dce → refusal_of (swapped_back (delivered (settings_from Dce cfg) (mirrored w) out)) ≡ None
    by [] is = absurd (none w.back is)
    by (o ∷ os) is = refl
found cfg w Dte is = by w.out w.back is
  where
    by : (out back : List (List ℕ)) → next_end out back ≡ Some Dte → refusal_of (delivered (settings_from Dte cfg) w back) ≡ None
    by (o ∷ os) back is = absurd (cc)
    by [] [] is = absurd (cc)
    by [] (o ∷ os) is = refl

pub none_left : (cfg : Cfg) (n : ℕ) (w : World) → next_end w.out w.back ≡ None → arrivals cfg n w ≡ []
unfolding arrivals
none_left cfg zero w is = refl
none_left cfg (suc n) w is = ap (arrivals_from cfg (arrivals cfg n) w) is

one_more : (cfg : Cfg) (n : ℕ) (w : World) (at : Role) → next_end w.out w.back ≡ Some at → arrivals cfg (suc n) w ≡ at
    ∷ arrivals cfg n (after w (happens cfg w (receipt at)))
unfolding arrivals
one_more cfg n w at is = ap (arrivals_from cfg (arrivals cfg n) w) is

no_more : (cfg : Cfg) (n : ℕ) (w : World) → n ≡ 0 → arrivals cfg n w ≡ []
unfolding arrivals
no_more cfg n w is = ap (λ m. arrivals cfg m w) is

received_append : (xs ys : List Role) → all_received (xs ++ ys) ≡ all_received xs ++ all_received ys
received_append [] ys = refl
received_append (x ∷ xs) ys = ap (λ es. receipt x ∷ es) (received_append xs ys)

-- so many of the deliveries have happened, and the others are those from here
pub record Delivered (cfg : Cfg) (most : ℕ) (w : World) (v : TellingWorld) (before : List AtEnd) (count : ℕ) : Type 0 where
  pub done : List Role
  pub goes : GoesBy cfg (all_received done) w v before
  pub counted : length done ≡ count
  pub all : arrivals cfg most w ≡ done ++ arrivals cfg (most - count) (run cfg (all_received done) w)

pub one_delivered : {cfg : Cfg} {most : ℕ} {w : World} {u : TellingWorld} (v : TellingWorld) {before : List AtEnd} {count : ℕ} (at : Role) → count < most
    → (h : Delivered cfg most w u before count) → next_end u.world.to_dce u.world.to_dte ≡ Some at
    → (let x = run cfg (all_received h.done) w in Tells cfg v (after x (happens cfg x (receipt at))) before) → Delivered cfg most w v before (count + 1)
one_delivered {cfg} {most} {w} {u} v {count} at low h is fits =
    let x = run cfg (all_received h.done) w in
    let here : next_end x.out x.back ≡ Some at = sym (line_is h.goes.fits.fits) ∙ is in
    let events = received_append h.done (at ∷ []) in
    let next : run cfg (all_received (h.done ++ at ∷ [])) w ≡ after x (happens cfg x (receipt at)) =
    ap (λ es. run cfg es w) events ∙ run_append cfg (all_received h.done) (receipt at ∷ []) w in
    let fewer : most - count ≡ suc (most - (count + 1)) = omega (arith, low) in
    record {
      done = h.done ++ at ∷ [];
      goes = record {
        accepted = rw events (accepted_append cfg (all_received h.done) (receipt at ∷ []) w h.goes.accepted (found cfg x at here, tt));
        fits = rw next fits;
      };
      counted = length-append h.done (at ∷ []) ∙ ap (λ n. n + 1) h.counted;
      all = h.all
          ∙ ap (λ n. h.done ++ arrivals cfg n x) fewer
          ∙ ap (λ l. h.done ++ l) (one_more cfg (most - (count + 1)) x at here)
          ∙ sym (append_assoc h.done (at ∷ []) (arrivals cfg (most - (count + 1)) (after x (happens cfg x (receipt at)))))
          ∙ ap (λ z. (h.done ++ at ∷ []) ++ arrivals cfg (most - (count + 1)) z) (sym next);
    }

-- all of them have happened
ended : {cfg : Cfg} {most : ℕ} {w : World} {v : TellingWorld} {before : List AtEnd} {count : ℕ} (h : Delivered cfg most w v before count)
    → arrivals cfg (most - count) (run cfg (all_received h.done) w) ≡ []
    → arrivals cfg most w ≡ h.done
ended h none = h.all ∙ ap (λ l. h.done ++ l) none ∙ append-nil h.done

pub record AllDelivered (cfg : Cfg) (most : ℕ) (w : World) (v : TellingWorld) (before : List AtEnd) (count : ℕ) : Type 0 where
  pub goes : GoesBy cfg (deliveries cfg most w) w v before
  pub counted : count ≡ length (arrivals cfg most w)

all_of_them : {cfg : Cfg} {most : ℕ} {w : World} {v : TellingWorld} {before : List AtEnd} {count : ℕ} (h : Delivered cfg most w v before count)
    → arrivals cfg most w ≡ h.done → AllDelivered cfg most w v before count
all_of_them h is = record {
  goes = rw is h.goes;
  counted = sym h.counted ∙ ap length (sym is);
}

pub ends_drained : {cfg : Cfg} {most : ℕ} {w : World} {v : TellingWorld} {before : List AtEnd} {count : ℕ} → Delivered cfg most w v before count
    → next_end v.world.to_dce v.world.to_dte ≡ None → AllDelivered cfg most w v before count
ends_drained {cfg} {most} {w} {v} {before} {count} h is =
    let x = run cfg (all_received h.done) w in
    all_of_them h (ended h (none_left cfg (most - count) x (sym (line_is h.goes.fits.fits) ∙ is)))

pub ends_counted : {cfg : Cfg} {most : ℕ} {w : World} {v : TellingWorld} {before : List AtEnd} {count : ℕ} → Delivered cfg most w v before count → most ≤ count
    → AllDelivered cfg most w v before count
ends_counted {cfg} {most} {w} {v} {before} {count} h all =
    let x = run cfg (all_received h.done) w in
    all_of_them h (ended h (no_more cfg (most - count) x (omega (arith, all))))

-- memory was refused at the next
pub stops_there : {cfg : Cfg} {most : ℕ} {w : World} {u : TellingWorld} (v : TellingWorld) {before : List AtEnd} {count : ℕ} (at : Role) (e : WorldError)
    (h : Delivered cfg most w u before count) → next_end u.world.to_dce u.world.to_dte ≡ Some at
    → (let x = run cfg (all_received h.done) w in Tells cfg v x before × IsRefusal cfg x (receipt at) e) → GoesPartly cfg (deliveries cfg most w) w v before e
stops_there {cfg} {most} {w} {u} v {count} at e h is f =
    let x = run cfg (all_received h.done) w in
    let here : next_end x.out x.back ≡ Some at = sym (line_is h.goes.fits.fits) ∙ is in
    let left = arrivals cfg (most - count) x in
    record {
      memory = by (happens cfg x (receipt at)) (found cfg x at here) f.1;
      done = all_received h.done;
      left = all_received left;
      all = ap all_received h.all ∙ received_append h.done left;
      goes = record { accepted = h.goes.accepted; fits = f.0 };
    }
  where
    by : (o : WorldOutcome) → refusal_of o ≡ None → (refusal_of o ≡ Some e) ⊎ (e ≡ error.NoMemory) → e ≡ error.NoMemory
    by o accepted refused = elim refused [ inl is ↦ cc | inr memory ↦ memory ]

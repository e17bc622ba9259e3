-- What holds of two stations over set-up and re-set-up at any moment.
use Rattle.x25_line.proofs.Names.{◌≡◌, ◌≤◌, ◌==◌, ℕ, suc, ◌+◌, List, [], ◌∷◌, ◌++◌, ◌⊎◌, inl, inr, Bool, true, false, if◌then◌else◌, length, None, refl, sym}
use Rattle.x25_line.proofs.Names.{ap, ◌∙◌, subst, arith, append-nil, eq-eqb, eqb-true, Contains-append_cases, Contains, Role, PlainFrame, frame_of, End, Phase}
use Rattle.x25_line.proofs.Names.{Waiting, Closed, LinkSettings, LinkStation, is_up, fresh, other, StationEnd, Stations, NoFrmr, IsWhole, AreWhole, numbered_on}
use Rattle.x25_line.proofs.Names.{Entry, SessionEnd, Sessions, letters, extended, said, sabm_of, ua_of, disc_of, how_many, Standing, standing_after, AllOf}
use Rattle.std.proofs.lemmas.List.Elements.{Contains-append_left, Contains-append_right}
use Rattle.x25_line.proofs.Lists.{each_append}
use Rattle.x25_line.proofs.StationLines.{numbered_append, AreParting, parts_of, whole_more, parting_whole, IsOrderly}
use Rattle.x25_line.proofs.StationSteps.{Joint, FitsEnd, machine_is, counted_off, counted_fits, none_put, not_both}
use Rattle.x25_line.{proofs.sessions.SessionLines.{numbers, numbers_append, many_append, by_first, behind_ua, behind_append}, specs.laws.Said.{Letter}}
use Rattle.x25_line.specs.laws.{SessionClaims.{AreWholeIn}, WholeNumbers.{counted}}

-- ---- the session that stands, and how an end is in it

-- the station of the session alone is this one, and the frames with a number that are to come to it are those on its line
pub record IsOf (from : Role) (n1 : ℕ) (s : LinkStation) (begun : ℕ) (es : List Entry) (a : LinkStation) (os : List (List ℕ)) (p q : ℕ) : Type 0 where
  pub station : a ≡ s
  pub session : begun ≡ p
  pub comes : numbers from n1 es ≡ numbered_on from n1 os
  pub of : AllOf from n1 q es

-- An end that is Up is in the session that stands. One that waits with a UA on the way to it is about to be in it, afresh. Any other is out of it.
pub record IsThere (phase : Phase) (from : Role) (n1 : ℕ) (s : LinkStation) (begun : ℕ) (es : List Entry) (a : LinkStation) (os : List (List ℕ))
    (p q : ℕ) : Type 0 where
  pub up : is_up phase ≡ true → IsOf from n1 s begun es a os p q
  pub awaits : phase ≡ Waiting → 1 ≤ how_many ua_of (letters from n1 es) → IsOf from n1 fresh (suc begun) (behind_ua from n1 es) a os p q

-- so is an end, by its phase, the line to it and how many sessions it began
abbrev pub EndIsThere : LinkSettings → SessionEnd → List Entry → LinkStation → List (List ℕ) → ℕ → ℕ → Type 0
EndIsThere c e es a os p q = IsThere e.station.phase (other c.role) c.longest e.station e.begun es a os p q

-- ---- set-up

-- the SABMs of an end and the UAs to it, and its DISCs
abbrev pub Owes : Phase → ℕ → ℕ → Type 0
Owes Waiting asked closed = (asked ≤ 1) × (closed ≡ 0)
Owes Closed asked closed = Unit {0}
Owes phase asked closed = (asked ≡ 0) × (closed ≡ 0)

-- as the line loses any of them
pub owes_less : (p : Phase) {n m : ℕ} (a b : ℕ) → a ≤ n → b ≤ m → Owes p n m → Owes p a b
owes_less Closed a b f g h = tt
owes_less p a b f g h = (omega (arith, f, h.0), omega (arith, g, h.1))

-- with these on the line from it, and those on the line to it
abbrev pub OwesOn : Phase → List Letter → List Letter → Type 0
OwesOn p out es = Owes p (how_many sabm_of out + how_many ua_of es) (how_many disc_of out)

-- what the rules of both ends say
pub record OnLine (c d : LinkSettings) (w : Sessions) : Type 0 where
  pub near_owes : OwesOn w.near.station.phase (letters (other d.role) d.longest w.out) (letters (other c.role) c.longest w.back)
  pub far_owes : OwesOn w.far.station.phase (letters (other c.role) c.longest w.back) (letters (other d.role) d.longest w.out)
  pub quiet : (e : Entry) (es : List Entry) → w.back ≡ e ∷ es → sabm_of (said (frame_of (other c.role) c.longest e.octets)) ≡ 1
      → numbers (other c.role) c.longest es ≡ []
  pub fine : (e : Entry) (es : List Entry) → w.back ≡ e ∷ es → IsOrderly (frame_of (other c.role) c.longest e.octets)
  -- the next session of each has no lists
  pub near_next : (w.near.down (suc w.near.begun) ≡ []) × (w.near.up (suc w.near.begun) ≡ [])
  pub far_next : (w.far.down (suc w.far.begun) ≡ []) × (w.far.up (suc w.far.begun) ≡ [])

-- ---- lists

-- those of the session that stands
pub record HasLists (e : SessionEnd) (session : ℕ) (v : StationEnd) : Type 0 where
  pub down : e.down session ≡ v.down
  pub up : e.up session ≡ v.up

pub record SameLists (e f : SessionEnd) : Type 0 where
  pub down : (n : ℕ) → f.down n ≡ e.down n
  pub up : (n : ℕ) → f.up n ≡ e.up n

pub lists_same : {e f : SessionEnd} {session : ℕ} {v : StationEnd} → SameLists e f → HasLists e session v → HasLists f session v
lists_same {session = session} same h = record { down = same.down session ∙ h.down; up = same.up session ∙ h.up }

-- ---- what holds

-- of the sessions that stand, and their window machine
pub record Held (stand : Standing) (c d : LinkSettings) (w : Sessions) : Type 0 where
  -- these sessions by themselves
  pub alone : Stations
  pub holds : Joint c d alone stand.machine
  pub near : EndIsThere c w.near w.back alone.near.station alone.back stand.near stand.far
  pub far : EndIsThere d w.far w.out alone.far.station alone.out stand.far stand.near
  pub near_lists : HasLists w.near stand.near alone.near
  pub far_lists : HasLists w.far stand.far alone.far
  pub no_frmr : NoFrmr w.sent
  pub whole : AreWholeIn d.longest w.near w.far w.sent

-- an end that is no part of it goes on, and puts no frame with a number
pub stays_on : (c : LinkSettings) (station : LinkStation) (put : List (List ℕ)) (stand : Standing) → counted c.window station stand.machine.near
    ≡ stand.machine.near → numbered_on c.role c.longest put ≡ []
    → stand ≡ standing_after c station put None stand
stays_on c station put stand still none =
    ap (λ m. let z : Standing = record { near = stand.near; far = stand.far; machine = m } in z)
    (machine_is c station put None stand.machine (sym still) refl
    (none_put stand.machine stand.machine.near.acked (length stand.machine.near.taken) (numbered_on c.role c.longest put) none) refl)

-- ---- lists by sessions

if_nil : (b : Bool) (x : List (List ℕ)) → (let z : List (List ℕ) = if b then x ++ [] else x in z) ≡ x
if_nil true x = append-nil x
if_nil false x = refl

-- nothing handed in a session leaves its list
pub extended_nil : (f : ℕ → List (List ℕ)) (s n : ℕ) → extended f s [] n ≡ f n
extended_nil f s n = if_nil (n == s) (f n)

same_by : (b : Bool) (x more : List (List ℕ)) → b ≡ true → (let z : List (List ℕ) = if b then x ++ more else x in z) ≡ x ++ more
same_by true x more e = refl
same_by false x more e = not_both false e refl

-- the list of this session grows
pub extended_same : (f : ℕ → List (List ℕ)) (s : ℕ) (more : List (List ℕ)) → extended f s more s ≡ f s ++ more
extended_same f s more = same_by (s == s) (f s) more (eq-eqb s s refl)

other_by : (b : Bool) (n s : ℕ) (x more : List (List ℕ)) → (n == s) ≡ b → (n ≡ s → ⊥) → (let z : List (List ℕ) = if b then x ++ more else x in z) ≡ x
other_by true n s x more e never = absurd (never (eqb-true n s e))
other_by false n s x more e never = refl

-- the lists of other sessions stay
pub extended_other : (f : ℕ → List (List ℕ)) (s n : ℕ) (more : List (List ℕ)) → (n ≡ s → ⊥) → extended f s more n ≡ f n
extended_other f s n more never = other_by (n == s) n s (f n) more refl never

-- ---- whole frames

if_more : (b : Bool) (xs more : List (List ℕ)) (x : List ℕ) → Contains xs x → (let z : List (List ℕ) = if b then xs ++ more else xs in Contains z x)
if_more true xs more x h = Contains-append_left xs more x h
if_more false xs more x h = h

pub extended_more : (f : ℕ → List (List ℕ)) (s n : ℕ) (more : List (List ℕ)) (x : List ℕ) → Contains (f n) x → Contains (extended f s more n) x
extended_more f s n more x h = if_more (n == s) (f n) more x h

-- more are sent, with what was handed down
pub whole_on : (n1 : ℕ) (e f far : SessionEnd) (more : List (List ℕ)) (fs es : List PlainFrame)
    → ((n : ℕ) (x : List ℕ) → Contains (e.down n) x → Contains (f.down n) x)
    → ((x : List ℕ) → Contains more x → ((n : ℕ) × Contains (f.down n) x) ⊎ ((n : ℕ) × Contains (far.down n) x)) → AreWhole n1 more es → AreWholeIn n1 e far fs
    → AreWholeIn n1 f far (fs ++ es)
whole_on n1 e f far more fs es grows of whole h =
    record {
      given = h.given ++ more;
      handed_down = λ x there. elim (Contains-append_cases h.given more x there) [
        | inl old ↦ elim (h.handed_down x old) [ inl near ↦ inl (near.0, grows near.0 x near.1) | inr other_end ↦ inr other_end ]
        | inr new ↦ of x new
      ];
      whole = each_append (IsWhole n1 (h.given ++ more)) fs es
          (whole_more n1 h.given (h.given ++ more) (λ x old. Contains-append_left h.given more x old) fs h.whole)
          (whole_more n1 more (h.given ++ more) (λ x new. Contains-append_right h.given more x new) es whole);
    }

-- none of them carries a packet
pub whole_apart : {n1 : ℕ} {e f far : SessionEnd} {fs : List PlainFrame} (es : List PlainFrame) → SameLists e f → AreParting es
    → AreWholeIn n1 e far fs → AreWholeIn n1 f far (fs ++ es)
whole_apart {n1} {e} {f} {far} {fs} es same parting h =
    whole_on n1 e f far [] fs es (λ n x old. rw (same.down n) old) (λ x new. absurd (omega (arith, new.1)))
    (parting_whole n1 [] es (parts_of es parting)) h

-- ---- by the phase

module _ {from : Role} {n1 : ℕ} {s : LinkStation} {begun : ℕ} {es : List Entry} {a : LinkStation} {os : List (List ℕ)} {p q : ℕ} (phase : Phase) where
  -- an end that is Up is in the session that stands
  pub is_there : is_up phase ≡ true → IsOf from n1 s begun es a os p q → IsThere phase from n1 s begun es a os p q
  is_there up h = record { up = λ _. h; awaits = λ waits. not_both (is_up phase) up (ap is_up waits) }

  -- one that awaits UA is about to be in it, where a UA is on the way
  pub is_soon : phase ≡ Waiting → (1 ≤ how_many ua_of (letters from n1 es) → IsOf from n1 fresh (suc begun) (behind_ua from n1 es) a os p q)
      → IsThere phase from n1 s begun es a os p q
  is_soon waits h = record { up = λ up. not_both (is_up phase) up (ap is_up waits); awaits = λ _. h }

  -- any other is out of it
  pub is_out : is_up phase ≡ false → (phase ≡ Waiting → how_many ua_of (letters from n1 es) ≡ 0) → IsThere phase from n1 s begun es a os p q
  is_out off none = record { up = λ up. not_both (is_up phase) up off; awaits = λ waits some. (absurd (omega (arith, some, none waits))) }

-- more goes on the line, with the same numbers on that of the session alone
of_more : {from : Role} {n1 : ℕ} {s : LinkStation} {begun : ℕ} {es : List Entry} {a : LinkStation} {os : List (List ℕ)} {p q : ℕ} (more : List Entry)
    (xs : List (List ℕ)) → numbers from n1 more ≡ numbered_on from n1 xs → AllOf from n1 q more
    → IsOf from n1 s begun es a os p q → IsOf from n1 s begun (es ++ more) a (os ++ xs) p q
of_more {from} {n1} {s} {begun} {es} {a} {os} {p} {q} more xs same of h = record {
  station = h.station;
  session = h.session;
  comes = numbers_append from n1 es more ∙ ap (λ fs. fs ++ numbers from n1 more) h.comes ∙ ap (λ fs. numbered_on from n1 os ++ fs) same
      ∙ sym (numbered_append from n1 os xs);
  of = each_append _ es more h.of of;
}

module _ {phase : Phase} {from : Role} {n1 : ℕ} {s : LinkStation} {begun : ℕ} {es : List Entry} {a : LinkStation} {os : List (List ℕ)} {p q : ℕ} where
  pub there_more : (more : List Entry) (xs : List (List ℕ)) → numbers from n1 more ≡ numbered_on from n1 xs → AllOf from n1 q more
      → (phase ≡ Waiting → how_many ua_of (letters from n1 more) ≡ 0)
      → IsThere phase from n1 s begun es a os p q → IsThere phase from n1 s begun (es ++ more) a (os ++ xs) p q
  there_more more xs same of none h = record {
    up = λ up. of_more more xs same of (h.up up);
    awaits = λ waits some. (let before : 1 ≤ how_many ua_of (letters from n1 es) = omega (arith, many_append from n1 ua_of es more, none waits, some) in
        subst (λ zs. IsOf from n1 fresh (suc begun) zs a (os ++ xs) p q) (sym (behind_append from n1 es more before))
        (of_more more xs same of (h.awaits waits before)));
  }

  -- what comes to an end that waits on is passed over
  pub there_passes : (e : Entry) → phase ≡ Waiting → how_many ua_of (letters from n1 (e ∷ es)) ≤ 1 → IsThere phase from n1 s begun (e ∷ es) a os p q
      → IsThere phase from n1 s begun es a os p q
  there_passes e waits few h = is_soon phase waits (λ some. (let none : ua_of (said (frame_of from n1 e.octets)) ≡ 0 = omega (arith, few, some) in
      subst (λ n. IsOf from n1 fresh (suc begun) (by_first n (behind_ua from n1 es) es) a os p q) none (h.awaits waits (omega (arith, some)))))

-- the machine stands still where the end isn't in the session
pub counted_there : {es : List Entry} {os : List (List ℕ)} {p q : ℕ} {c : LinkSettings} (e : SessionEnd) {a : LinkStation} {l : End (List ℕ)}
    → EndIsThere c e es a os p q → FitsEnd c a l → counted c.window e.station l ≡ l
counted_there {c = c} e {a} {l} h fits = go (is_up e.station.phase) refl
  where
    go : (b : Bool) → is_up e.station.phase ≡ b → counted c.window e.station l ≡ l
    go true up = ap (λ z. counted c.window z l) (sym (h.up up).station) ∙ counted_fits fits
    go false off = counted_off c.window e.station l off

-- The rules of a link are those of peers, and no more than is named beyond.
use Rattle.x25_possible_peers.proofs.Names.{◌≡◌, inl, inr, ℕ, ◌+◌, ◌-◌, ◌%◌, ◌≤◌, ◌==◌, Bool, true, false, not, ◌&&◌, ◌||◌, List, [], ◌∷◌, ◌++◌, Option, Some}
use Rattle.x25_possible_peers.proofs.Names.{None, refl, sym, ap, subst, ◌∙◌, arith, nat_le, nat_lt, if◌then◌else◌, and_from, eq-eqb, eqb-true, le-leb}
use Rattle.x25_possible_peers.proofs.Names.{append-nil, none-some, cond_some, Ends, Letter, near_now, Peer, Said, Carried, IsIn, Owes, may_number}
use Rattle.std.proofs.{Common.{◌⊎◌, suc}, lemmas.Bool.{both_ways}}
use Rattle.x25_line.specs.laws.{Ends.{letter, Two, Does, IsPatient, put_for, with_near, how_many, AreOf, OfSabm}, Peer.{fresh_peer}}
use Rattle.x25_line.specs.laws.Said.{sabm_of, disc_of, ua_of}
use Rattle.x25_possible.specs.Channel.{nth}
use Rattle.x25_possible_links.specs.declared.stand.{Numbers.{Numbers}, Stand.TheVariants.{Out, Asking, Free}}
use Rattle.x25_possible_links.specs.laws.Link.{State, At, MaySend, MayTake, has_ua, is_asking, sends_as, heard, owed, asked, may_answer}
use Rattle.x25_possible_peers.proofs.{LinkLemmas.{now_is, only}, Names.{may_acknowledge, Frame, Stand, Up, numbers_of, stand_of, differs, frames_of, AreShown}}
use Rattle.x25_possible_peers.{proofs.SessionLemmas.{MaySayIt, session_sends, session_takes}, specs.laws.LinkAsPeers.{LinkRulesArePeers}}
use Rattle.x25_possible_peers.specs.laws.LinkAsPeers.{stand_in, out_of, Reaches, AsksBeyond, Beyond, asks_again, asks_early, IsRead, IsGiven, HasTaken}
use Rattle.x25_line.specs.laws.Ends as line
use Rattle.x25_line.specs.laws.Peer as peer
use Rattle.x25_line.specs.laws.Said as read
use Rattle.x25_possible_links.specs.laws.Link as link
use Rattle.x25_possible_links.specs.declared.frame.Frame.TheVariants as frame

same_some : {X : Type 0} (x u : X) → Some x ≡ Some u → x ≡ u
same_some x u h = cc

-- ---- whether it is patient

Decides : Type 0 → Type 0
Decides P = P ⊎ (P → ⊥)

decides_number : (n m : ℕ) → Decides (n ≡ m)
unfolding Decides
decides_number n m = go (n == m) refl
  where
    go : (b : Bool) → (n == m) ≡ b → (n ≡ m) ⊎ (n ≡ m → ⊥)
    go true e = inl (eqb-true n m e)
    go false e = inr (λ same. both_ways (n == m) e (eq-eqb n m same))

decides_sabm : (said : Said) (session n : ℕ) → Decides (OfSabm said (session ≡ n))
unfolding Decides
decides_sabm read.Sabm session n = decides_number session n
decides_sabm said session n = inl tt

decides_both : (P Q : Type 0) → Decides P → Decides Q → Decides (P × Q)
unfolding Decides
decides_both P Q (inl p) (inl q) = inl (p, q)
decides_both P Q (inl p) (inr never) = inr (λ b. never b.1)
decides_both P Q (inr never) q = inr (λ b. never b.0)

decides_of : (n : ℕ) (es : List Letter) → Decides (AreOf n es)
unfolding Decides
decides_of n [] = inl tt
decides_of n (e ∷ es) = decides_both (OfSabm e.said (e.session ≡ n)) (AreOf n es) (decides_sabm e.said e.session n) (decides_of n es)

decides_patient : (w : Two) → IsPatient w ⊎ (IsPatient w → ⊥)
unfolding Decides
decides_patient w = go (decides_number (how_many sabm_of w.out) 0) (decides_number (how_many disc_of w.out) 0)
    (decides_number (how_many ua_of w.back) 0) (decides_of w.far.begun w.back)
  where
    go : Decides (how_many sabm_of w.out ≡ 0) → Decides (how_many disc_of w.out ≡ 0) → Decides (how_many ua_of w.back ≡ 0)
        → Decides (AreOf w.far.begun w.back) → IsPatient w ⊎ (IsPatient w → ⊥)
    go (inl a) (inl b) (inl c) (inl d) = inl (record { sabm = a; disc = b; ua = c; crossing = d })
    go (inr never) b c d = inr (λ (p : IsPatient w). never p.sabm)
    go (inl a) (inr never) c d = inr (λ (p : IsPatient w). never p.disc)
    go (inl a) (inl b) (inr never) d = inr (λ (p : IsPatient w). never p.ua)
    go (inl a) (inl b) (inl c) (inr never) = inr (λ (p : IsPatient w). never p.crossing)

-- ---- what it sends

module _ (w : Ends) where
  stay : (first : Ends) → first ≡ w → (first ≡ w) ⊎ (Does w first × (first ≡ out_of w))
  stay first is = inl is

  -- it may leave its session without a frame
  leave : (out_of w ≡ w) ⊎ (Does w (out_of w) × (out_of w ≡ out_of w))
  leave = inr (line.moves (out_of w).two line.leaves, refl)

  says : (said : Said) (carried : Option Carried) (nr : ℕ) (r : Stand) → w.two.near.stand ≡ line.In → said ≡ read.Tells carried nr
      → MaySayIt (near_now w) (read.Tells carried nr) r → Reaches w w.two.back (said ∷ []) r
  says said carried nr r is tells it = record {
    first = w;
    may_leave = inl refl;
    next = record w {
      two = record w.two { out = w.two.out ++ letter w.two.near.begun (read.Tells carried nr) ∷ [] };
      near_of = with_near it.next w;
    };
    does = line.sends carried nr it.next is it.may;
    back = refl;
    out = ap (λ s. w.two.out ++ letter w.two.near.begun s ∷ []) (sym tells);
    stands = it.stands ∙ ap (λ (p : Peer). Up (numbers_of p)) (sym (now_is w.two.near.begun it.next w.near_of))
        ∙ ap (λ c. stand_of c (put_for w.two.near.begun it.next w.near_of w.two.near.begun)) (sym is);
  }

  frees : (r : Stand) → r ≡ stand_in w → Reaches w w.two.back (read.Else ∷ []) r
  frees r is = record {
    first = w;
    may_leave = inl refl;
    next = record w { two = record w.two { out = w.two.out ++ letter w.two.near.begun read.Else ∷ [] } };
    does = line.moves _ line.free;
    back = refl;
    out = refl;
    stands = is;
  }

  frees_out : (r : Stand) → r ≡ Out → Reaches w w.two.back (read.Else ∷ []) r
  frees_out r is = record {
    first = out_of w;
    may_leave = leave;
    next = record (out_of w) { two = record (out_of w).two { out = w.two.out ++ letter w.two.near.begun read.Else ∷ [] } };
    does = line.moves _ line.free;
    back = refl;
    out = refl;
    stands = is;
  }

  closes : (r : Stand) → r ≡ Out → Reaches w w.two.back (read.Disc ∷ []) r
  closes r is = record {
    first = w;
    may_leave = inl refl;
    next = record w {
      two = record w.two {
        near = record { stand = line.Out; begun = w.two.near.begun };
        out = w.two.out ++ letter w.two.near.begun read.Disc ∷ [];
      };
    };
    does = line.moves _ line.closes;
    back = refl;
    out = refl;
    stands = is;
  }

  asks : (r : Stand) → r ≡ Asking → IsPatient w.two → Reaches w w.two.back (read.Sabm ∷ []) r
  asks r is patient = record {
    first = w;
    may_leave = inl refl;
    next = record w {
      two = record w.two {
        near = record { stand = line.Asking; begun = w.two.near.begun };
        out = w.two.out ++ letter w.two.near.begun read.Sabm ∷ [];
      };
    };
    does = line.moves _ (line.asks patient);
    back = refl;
    out = refl;
    stands = is;
  }

  -- SABM, patient or not
  asks_so : (way : List Frame) (r : Stand) → link.asks (stand_in w) way ≡ Some r
      → Reaches w w.two.back (read.Sabm ∷ []) r ⊎ Beyond w way read.Sabm r
  asks_so way r h = go (decides_patient w.two)
    where
      parts : ((is_asking (stand_in w) || not (has_ua way)) ≡ true) × (Asking ≡ r)
      parts = cond_some (is_asking (stand_in w) || not (has_ua way)) Asking r h

      early : (IsPatient w.two → ⊥) → (b c : Bool) → has_ua way ≡ b → (c || not b) ≡ true → c ≡ false → AsksBeyond w way
      early never b true ua may is = cc
      early never true false ua may is = cc
      early never false false ua may is = asks_early never ua

      by_stand : (IsPatient w.two → ⊥) → (c : line.Stand) → w.two.near.stand ≡ c → AsksBeyond w way
      by_stand never line.Asking is = asks_again never is
      by_stand never line.Out is =
          early never (has_ua way) (is_asking (stand_in w)) refl parts.0 (ap (λ z. is_asking (stand_of z (near_now w))) is)
      by_stand never line.In is =
          early never (has_ua way) (is_asking (stand_in w)) refl parts.0 (ap (λ z. is_asking (stand_of z (near_now w))) is)

      go : IsPatient w.two ⊎ (IsPatient w.two → ⊥) → Reaches w w.two.back (read.Sabm ∷ []) r ⊎ Beyond w way read.Sabm r
      go (inl patient) = inl (asks r (sym parts.1) patient)
      go (inr never) = inr (by_stand never w.two.near.stand refl, sym parts.1)

  -- a frame with an N(R), in a session alone
  tells_so : (way : List Frame) (carried : Option Carried) (nr n t : ℕ) (x : Frame) (r : Stand) → IsGiven (near_now w) (read.Tells carried nr)
      → IsIn x (frames_of (differs (near_now w) (read.Tells carried nr)) (read.Tells carried nr))
      → sends_as n t (stand_in w) way x ≡ Some r → Reaches w w.two.back (read.Tells carried nr ∷ []) r
  tells_so way carried nr n t x r given is h = go w.two.near.stand refl
    where
      numbered : (carried : Option Carried) (s : Stand) → IsIn x (frames_of (differs (near_now w) (read.Tells carried nr)) (read.Tells carried nr))
          → link.counts n t s x ≡ sends_as n t s way x
      numbered None s (inl e) = subst (λ z. link.counts n t s z ≡ sends_as n t s way z) (sym e) refl
      numbered (Some c) s (inl e) = subst (λ z. link.counts n t s z ≡ sends_as n t s way z) (sym e) refl
      numbered None s (inr none) = absurd none
      numbered (Some c) s (inr none) = absurd none

      here : (c : line.Stand) → w.two.near.stand ≡ c → link.counts n t (stand_of c (near_now w)) x ≡ Some r
      here c e = ap (λ z. link.counts n t (stand_of z (near_now w)) x) (sym e) ∙ numbered carried (stand_in w) is ∙ h

      go : (c : line.Stand) → w.two.near.stand ≡ c → Reaches w w.two.back (read.Tells carried nr ∷ []) r
      go line.Out e = absurd (none-some r (here line.Out e))
      go line.Asking e = absurd (none-some r (here line.Asking e))
      go line.In e =
          says (read.Tells carried nr) carried nr r e refl
          (session_sends (near_now w) way carried nr n t x r given is (sym (numbered carried (Up (numbers_of (near_now w))) is) ∙ here line.In e))

  -- DM ends a session
  declines_so : (r : Stand) → r ≡ link.declines (stand_in w) → Reaches w w.two.back (read.Else ∷ []) r
  declines_so r is = go w.two.near.stand refl
    where
      go : (c : line.Stand) → w.two.near.stand ≡ c → Reaches w w.two.back (read.Else ∷ []) r
      go line.Out e = frees_out r (is ∙ ap (λ z. link.declines (stand_of z (near_now w))) e)
      go line.Asking e = frees r (is ∙ ap (λ z. link.declines (stand_of z (near_now w))) e ∙ ap (λ z. stand_of z (near_now w)) (sym e))
      go line.In e = frees_out r (is ∙ ap (λ z. link.declines (stand_of z (near_now w))) e)

  abbrev Sent : List Frame → Said → Stand → Type 0
  Sent way said r = Reaches w w.two.back (said ∷ []) r ⊎ Beyond w way said r

  sent_so : (way : List Frame) (said : Said) (x : Frame) (n t : ℕ) (r : Stand) → IsRead x
      → IsIn x (frames_of (differs (near_now w) said) said) → IsGiven (near_now w) said → sends_as n t (stand_in w) way x ≡ Some r
      → Sent way said r
  sent_so way (read.Tells None nr) x n t r is_read is given h = inl (tells_so way None nr n t x r tt is h)
  sent_so way (read.Tells (Some c) nr) x n t r is_read is given h = inl (tells_so way (Some c) nr n t x r given is h)
  sent_so way read.Sabm x n t r is_read is given h = asks_so way r (ap (λ z. sends_as n t (stand_in w) way z) (sym (only x frame.Sabm is)) ∙ h)
  sent_so way read.Disc x n t r is_read is given h =
      inl (closes r (sym (same_some Out r (ap (λ z. sends_as n t (stand_in w) way z) (sym (only x frame.Disc is)) ∙ h))))
  sent_so way read.Ua x n t r is_read is given h =
      absurd (none-some r (ap (λ z. sends_as n t (stand_in w) way z) (sym (only x frame.Ua is)) ∙ h))
  sent_so way read.Else x n t r is_read (inl is) given h =
      inl (declines_so r (sym (same_some (link.declines (stand_in w)) r (ap (λ z. sends_as n t (stand_in w) way z) (sym is) ∙ h))))
  sent_so way read.Else x n t r is_read (inr (inl is)) given h =
      inl (frees_out r (sym (same_some Out r (ap (λ z. sends_as n t (stand_in w) way z) (sym is) ∙ h))))
  sent_so way read.Else x n t r is_read (inr (inr (inl is))) given h = absurd (subst IsRead is is_read)
  sent_so way read.Else x n t r is_read (inr (inr (inr none))) given h = absurd none
  sent_so way read.Odd x n t r is_read is given h = absurd is

  -- what was sent before the first frame is none of these
  none_before : (es : List Letter) (way : List Frame) → AreShown es (frame.Before ∷ way) → ⊥
  none_before [] way shown = shown
  none_before (e ∷ es) way shown = differ e.said shown.0.0 shown.0.1
    where
      differ : (said : Said) (d : Bool) → IsIn frame.Before (frames_of d said) → ⊥
      differ (read.Tells None nr) d (inl is) = cc
      differ (read.Tells (Some c) nr) d (inl is) = cc
      differ read.Sabm d (inl is) = cc
      differ read.Disc d (inl is) = cc
      differ read.Ua d (inl is) = cc
      differ read.Else d (inl is) = cc
      differ read.Else d (inr (inl is)) = cc
      differ read.Else d (inr (inr (inl is))) = cc
      differ read.Else d (inr (inr (inr none))) = none
      differ (read.Tells None nr) d (inr none) = none
      differ (read.Tells (Some c) nr) d (inr none) = none
      differ read.Sabm d (inr none) = none
      differ read.Disc d (inr none) = none
      differ read.Ua d (inr none) = none
      differ read.Odd d none = none

  may_sent : (s r : Stand) (way : List Frame) (said : Said) (x : Frame) → s ≡ stand_in w → AreShown w.two.back way → IsRead x
      → IsIn x (frames_of (differs (near_now w) said) said) → IsGiven (near_now w) said → MaySend (At s) way x (At r) → Sent way said r
  may_sent s r _ said x at shown is_read is given (link.sends _ _ way _ n t h) =
      sent_so way said x n t r is_read is given (ap (λ z. sends_as n t z way x) (sym at) ∙ h)
  may_sent s r _ said _ at shown is_read is given (link.answers_before _ _ way before) = absurd (none_before w.two.back way shown)
  may_sent s r _ said _ at shown is_read is given (link.was_any _ _ way x may) = absurd is_read
  may_sent s r _ said _ at shown is_read is given (link.was_none _ way) = absurd is_read

asks_goes : (s : Stand) (way : List Frame) → (is_asking s || not (has_ua way)) ≡ true → MaySend (At s) way frame.Sabm (At Asking)
asks_goes s way h = link.sends s Asking way frame.Sabm 0 0 (ap (λ b. if b then Some Asking else None) h)

beyond_goes : (w : Ends) (way : List Frame) (r : Stand) → Beyond w way read.Sabm r → MaySend (At (stand_in w)) way frame.Sabm (At r)
beyond_goes w way r it = subst (λ z. MaySend (At (stand_in w)) way frame.Sabm (At z)) (sym it.1) (go it.0)
  where
    go : AsksBeyond w way → MaySend (At (stand_in w)) way frame.Sabm (At Asking)
    go (asks_again never is) =
        asks_goes (stand_in w) way (ap (λ c. is_asking (stand_of c (near_now w)) || not (has_ua way)) is)
    go (asks_early never ua) = asks_goes (stand_in w) way (always (is_asking (stand_in w)))
      where
        always : (b : Bool) → (b || not (has_ua way)) ≡ true
        always true = refl
        always false = ap not ua

-- ---- what it makes of what comes

module _ (w : Ends) (session : ℕ) (said : Said) (rest : List Letter) (front : w.two.back ≡ letter session said ∷ rest) where
  passes : (r : Stand) → r ≡ stand_in w → Reaches w rest [] r
  passes r is = record {
    first = w;
    may_leave = inl refl;
    next = record w {
      two = record w.two { back = rest; met = line.heard w.two.near.stand w.two.near.begun (letter session said) w.two.met };
    };
    does = line.moves _ (line.hears (letter session said) rest front);
    back = refl;
    out = sym (append-nil w.two.out);
    stands = is;
  }

  makes : (r : Stand) → w.two.near.stand ≡ line.In → (q : Peer) → peer.MayMake (near_now w) said q → r ≡ Up (numbers_of q) → Reaches w rest [] r
  makes r is q may at = record {
    first = w;
    may_leave = inl refl;
    next = record w {
      two = record w.two { back = rest; met = line.heard w.two.near.stand w.two.near.begun (letter session said) w.two.met };
      near_of = with_near q w;
    };
    does = line.listens (letter session said) rest q front is may;
    back = refl;
    out = sym (append-nil w.two.out);
    stands = at ∙ ap (λ (p : Peer). Up (numbers_of p)) (sym (now_is w.two.near.begun q w.near_of))
        ∙ ap (λ c. stand_of c (put_for w.two.near.begun q w.near_of w.two.near.begun)) (sym is);
  }

  begins : (r : Stand) → said ≡ read.Ua → w.two.near.stand ≡ line.Asking → r ≡ link.fresh → Reaches w rest [] r
  begins r ua is at = record {
    first = w;
    may_leave = inl refl;
    next = record w {
      two = record w.two { near = record { stand = line.In; begun = suc w.two.near.begun }; back = rest };
      near_of = put_for (suc w.two.near.begun) fresh_peer w.near_of;
    };
    does = line.moves _ (line.takes_ua session rest (front ∙ ap (λ z. letter session z ∷ rest) ua) is);
    back = refl;
    out = sym (append-nil w.two.out);
    stands = at ∙ ap (λ (p : Peer). Up (numbers_of p)) (sym (now_is (suc w.two.near.begun) fresh_peer w.near_of));
  }

  takes_sabm : (r : Stand) → said ≡ read.Sabm → r ≡ link.fresh → Reaches w rest (read.Ua ∷ []) r
  takes_sabm r sabm at = record {
    first = w;
    may_leave = inl refl;
    next = record w {
      two = record w.two {
        near = record { stand = line.In; begun = suc w.two.near.begun };
        out = w.two.out ++ letter (suc w.two.near.begun) read.Ua ∷ [];
        back = rest;
      };
      near_of = put_for (suc w.two.near.begun) fresh_peer w.near_of;
    };
    does = line.moves _ (line.takes_sabm session rest (front ∙ ap (λ z. letter session z ∷ rest) sabm));
    back = refl;
    out = refl;
    stands = at ∙ ap (λ (p : Peer). Up (numbers_of p)) (sym (now_is (suc w.two.near.begun) fresh_peer w.near_of));
  }

  waits_on : (r : Stand) → said ≡ read.Sabm → w.two.near.stand ≡ line.Asking → r ≡ Asking → Reaches w rest (read.Ua ∷ []) r
  waits_on r sabm is at = record {
    first = w;
    may_leave = inl refl;
    next = record w { two = record w.two { out = w.two.out ++ letter w.two.near.begun read.Ua ∷ []; back = rest } };
    does = line.moves _ (line.waits_on session rest (front ∙ ap (λ z. letter session z ∷ rest) sabm) is);
    back = refl;
    out = refl;
    stands = at ∙ ap (λ c. stand_of c (near_now w)) (sym is);
  }

  takes_disc : (r : Stand) → said ≡ read.Disc → r ≡ Out → Reaches w rest (read.Ua ∷ []) r
  takes_disc r disc at = record {
    first = out_of w;
    may_leave = leave w;
    next = record (out_of w) { two = record (out_of w).two { out = w.two.out ++ letter w.two.near.begun read.Ua ∷ []; back = rest } };
    does = line.moves _ (line.takes_disc session rest (front ∙ ap (λ z. letter session z ∷ rest) disc));
    back = refl;
    out = refl;
    stands = at;
  }

  -- it hears it in a session
  hears_so : (x : Frame) (d hears takes : Bool) (k : Numbers) → IsIn x (frames_of d said) → IsRead x → w.two.near.stand ≡ line.In
      → k ≡ numbers_of (near_now w) → Reaches w rest [] (Up (heard hears takes k x))
  hears_so x d hears takes k is is_read stand numbers = go said refl is
    where
      same : (y : Frame) → x ≡ y → heard hears takes k y ≡ k → Reaches w rest [] (Up (heard hears takes k x))
      same y e unheard =
          passes (Up (heard hears takes k x))
          (ap (λ z. Up (heard hears takes k z)) e ∙ ap (λ z. Up z) (unheard ∙ numbers) ∙ ap (λ c. stand_of c (near_now w)) (sym stand))

      told : (carried : Option Carried) (nr : ℕ) → said ≡ read.Tells carried nr → IsIn x (frames_of d (read.Tells carried nr))
          → Reaches w rest [] (Up (heard hears takes k x))
      told carried nr e shown =
          let it = session_takes (near_now w) carried nr x hears takes (d, shown) in
          makes (Up (heard hears takes k x)) stand it.next (subst (λ z. peer.MayMake (near_now w) z it.next) (sym e) it.may)
          (ap (λ z. Up (heard hears takes z x)) numbers ∙ ap (λ z. Up z) it.stands)

      go : (c : Said) → said ≡ c → IsIn x (frames_of d c) → Reaches w rest [] (Up (heard hears takes k x))
      go (read.Tells carried nr) e shown = told carried nr e shown
      go read.Sabm e shown = same frame.Sabm (only x frame.Sabm shown) refl
      go read.Disc e shown = same frame.Disc (only x frame.Disc shown) refl
      go read.Ua e shown = same frame.Ua (only x frame.Ua shown) refl
      go read.Else e (inl shown) = same frame.Dm shown refl
      go read.Else e (inr (inl shown)) = same frame.Frmr shown refl
      go read.Else e (inr (inr (inl shown))) = absurd (subst IsRead shown is_read)
      go read.Else e (inr (inr (inr none))) = absurd none
      go read.Odd e none = absurd none

  -- it may be UA
  is_ua_so : (x : Frame) (d : Bool) → IsIn x (frames_of d said) → IsRead x → may_answer x ≡ true → said ≡ read.Ua
  is_ua_so x d is is_read may = go said refl is
    where
      never : (y : Frame) → x ≡ y → may_answer y ≡ false → said ≡ read.Ua
      never y e none = cc

      go : (c : Said) → said ≡ c → IsIn x (frames_of d c) → said ≡ read.Ua
      go read.Ua e shown = e
      go (read.Tells None nr) e (inl shown) = never (frame.Ready nr) shown refl
      go (read.Tells (Some c) nr) e (inl shown) = never (frame.Info c.ns nr d) shown refl
      go (read.Tells None nr) e (inr none) = absurd none
      go (read.Tells (Some c) nr) e (inr none) = absurd none
      go read.Sabm e shown = never frame.Sabm (only x frame.Sabm shown) refl
      go read.Disc e shown = never frame.Disc (only x frame.Disc shown) refl
      go read.Else e (inl shown) = never frame.Dm shown refl
      go read.Else e (inr (inl shown)) = never frame.Frmr shown refl
      go read.Else e (inr (inr (inl shown))) = absurd (subst IsRead shown is_read)
      go read.Else e (inr (inr (inr none))) = absurd none
      go read.Odd e none = absurd none

  up_is : (k : Numbers) → Up k ≡ stand_in w → (w.two.near.stand ≡ line.In) × (k ≡ numbers_of (near_now w))
  up_is k e = go w.two.near.stand refl
    where
      go : (c : line.Stand) → w.two.near.stand ≡ c → (w.two.near.stand ≡ line.In) × (k ≡ numbers_of (near_now w))
      go line.Out is = absurd (no_out (e ∙ ap (λ z. stand_of z (near_now w)) is))
        where
          no_out : Up k ≡ Out → ⊥
          no_out h = cc
      go line.Asking is = absurd (no_asking (e ∙ ap (λ z. stand_of z (near_now w)) is))
        where
          no_asking : Up k ≡ Asking → ⊥
          no_asking h = cc
      go line.In is = (is, same_numbers k (numbers_of (near_now w)) (e ∙ ap (λ z. stand_of z (near_now w)) is))
        where
          same_numbers : (a b : Numbers) → Up a ≡ Up b → a ≡ b
          same_numbers a b h = cc

  asking_is : Asking ≡ stand_in w → w.two.near.stand ≡ line.Asking
  asking_is e = go w.two.near.stand refl
    where
      go : (c : line.Stand) → w.two.near.stand ≡ c → w.two.near.stand ≡ line.Asking
      go line.Asking is = is
      go line.Out is = absurd (no_out (e ∙ ap (λ z. stand_of z (near_now w)) is))
        where
          no_out : Asking ≡ Out → ⊥
          no_out h = cc
      go line.In is = absurd (no_up (numbers_of (near_now w)) (e ∙ ap (λ z. stand_of z (near_now w)) is))
        where
          no_up : (k : Numbers) → Asking ≡ Up k → ⊥
          no_up k h = cc

  taken_so : (s r : Stand) (x : Frame) (d : Bool) → s ≡ stand_in w → IsRead x → IsIn x (frames_of d said) → MayTake (At s) x (At r)
      → Reaches w rest [] r
  taken_so s _ x d at is_read is (link.passes _ _) = passes s at
  taken_so _ _ x d at is_read is (link.hears k _ hears takes) =
      let up = up_is k at in hears_so x d hears takes k is is_read up.0 up.1
  taken_so _ _ x d at is_read is (link.begins _ may) = begins link.fresh (is_ua_so x d is is_read may) (asking_is at) refl

  answers_so : (s r : Stand) (x : Frame) (d : Bool) → s ≡ stand_in w → IsRead x → IsIn x (frames_of d said) → IsIn r (owed s x)
      → Reaches w rest (read.Ua ∷ []) r
  answers_so s r x d at is_read is owes = go said refl is
    where
      here : (y : Frame) → x ≡ y → IsIn r (owed (stand_in w) y)
      here y e = subst (λ z. IsIn r (owed (stand_in w) z)) e (subst (λ z. IsIn r (owed z x)) at owes)

      by_stand : said ≡ read.Sabm → IsIn r (owed (stand_in w) frame.Sabm) → (c : line.Stand) → w.two.near.stand ≡ c
          → Reaches w rest (read.Ua ∷ []) r
      by_stand sabm h line.Asking is = one (subst (λ z. IsIn r (owed (stand_of z (near_now w)) frame.Sabm)) is h)
        where
          one : IsIn r (link.fresh ∷ Asking ∷ []) → Reaches w rest (read.Ua ∷ []) r
          one (inl e) = takes_sabm r sabm e
          one (inr (inl e)) = waits_on r sabm is e
          one (inr (inr none)) = absurd none
      by_stand sabm h line.Out is = takes_sabm r sabm (first (subst (λ z. IsIn r (owed (stand_of z (near_now w)) frame.Sabm)) is h))
        where
          first : IsIn r (link.fresh ∷ []) → r ≡ link.fresh
          first (inl e) = e
          first (inr none) = absurd none
      by_stand sabm h line.In is = takes_sabm r sabm (first (subst (λ z. IsIn r (owed (stand_of z (near_now w)) frame.Sabm)) is h))
        where
          first : IsIn r (link.fresh ∷ []) → r ≡ link.fresh
          first (inl e) = e
          first (inr none) = absurd none

      out_is : IsIn r (Out ∷ []) → r ≡ Out
      out_is (inl e) = e
      out_is (inr none) = absurd none

      go : (c : Said) → said ≡ c → IsIn x (frames_of d c) → Reaches w rest (read.Ua ∷ []) r
      go read.Sabm e shown = by_stand e (here frame.Sabm (only x frame.Sabm shown)) w.two.near.stand refl
      go read.Disc e shown = takes_disc r e (out_is (here frame.Disc (only x frame.Disc shown)))
      go (read.Tells None nr) e (inl shown) = absurd (here (frame.Ready nr) shown)
      go (read.Tells (Some c) nr) e (inl shown) = absurd (here (frame.Info c.ns nr d) shown)
      go (read.Tells None nr) e (inr none) = absurd none
      go (read.Tells (Some c) nr) e (inr none) = absurd none
      go read.Ua e shown = absurd (here frame.Ua (only x frame.Ua shown))
      go read.Else e (inl shown) = absurd (here frame.Dm shown)
      go read.Else e (inr (inl shown)) = absurd (here frame.Frmr shown)
      go read.Else e (inr (inr (inl shown))) = absurd (subst IsRead shown is_read)
      go read.Else e (inr (inr (inr none))) = absurd none
      go read.Odd e none = absurd none

  owes_so : (s r : Stand) (x : Frame) (d : Bool) → s ≡ stand_in w → IsRead x → IsIn x (frames_of d said) → MayTake (At s) x (Owes r)
      → Reaches w rest (read.Ua ∷ []) r
  owes_so s r x d at is_read is (link.owes _ _ _ owes) = answers_so s r x d at is_read is owes

-- ---- before it has answered

answers_alone : (r : Stand) (u : State) (way : List Frame) (x : Frame) → IsRead x → MaySend (Owes r) way x u → (x ≡ frame.Ua) × (u ≡ At r)
answers_alone r _ _ _ is_read (link.answers _ way) = (refl, refl)
answers_alone r _ _ _ is_read (link.was_any _ _ way x may) = absurd is_read

takes_none : (r : Stand) (u : State) (x : Frame) → MayTake (Owes r) x u → ⊥
takes_none r u x may = elim may [ ]

-- ---- octets that spell no frame

next_goes : (k : Numbers) (way : List Frame) → k.told ≤ k.taken → nat_lt k.sent (k.acked + 7) ≡ true
    → MaySend (At (Up k)) way (frame.Info (k.sent % 8) (k.told % 8) false) (At (Up (record k { sent = k.sent + 1 })))
next_goes k way told room =
    link.sends (Up k) (Up (record k { sent = k.sent + 1 })) way (frame.Info (k.sent % 8) (k.told % 8) false) k.sent k.told (
    ap (λ b. if b then Some (Up (link.told_to k.told (link.sent_to k.sent k))) else None)
    (and_from (may_number k.sent k (k.sent % 8) false) (may_acknowledge k.told k (k.told % 8)) number acknowledge)
    ∙ ap (λ b. Some (Up (record k { sent = if b then k.sent + 1 else k.sent }))) (eq-eqb k.sent k.sent refl))
  where
    number : may_number k.sent k (k.sent % 8) false ≡ true
    number =
        and_from (k.sent % 8 == k.sent % 8) (nat_le k.sent k.sent
        && (nat_le k.sent (k.sent + 7) && (nat_lt k.sent (k.acked + 7) && (k.sent == k.sent || true))))
        (eq-eqb (k.sent % 8) (k.sent % 8) refl)
        (and_from (nat_le k.sent k.sent) (nat_le k.sent (k.sent + 7) && (nat_lt k.sent (k.acked + 7) && (k.sent == k.sent || true)))
        (le-leb k.sent k.sent (omega arith))
        (and_from (nat_le k.sent (k.sent + 7)) (nat_lt k.sent (k.acked + 7) && (k.sent == k.sent || true)) (le-leb k.sent (k.sent + 7) (omega arith))
        (and_from (nat_lt k.sent (k.acked + 7)) (k.sent == k.sent || true) room (ap (λ b. b || true) (eq-eqb k.sent k.sent refl)))))

    acknowledge : may_acknowledge k.told k (k.told % 8) ≡ true
    acknowledge =
        and_from (k.told % 8 == k.told % 8) (nat_le k.told k.told && nat_le k.told k.taken) (eq-eqb (k.told % 8) (k.told % 8) refl)
        (and_from (nat_le k.told k.told) (nat_le k.told k.taken) (le-leb k.told k.told (omega arith)) (le-leb k.told k.taken told))

abbrev StandsFor : State → State → List Frame → Type 0
StandsFor s u way = (s ≡ u) ⊎ ((x : Frame) × IsRead x × MaySend s way x u)

counted_so : (s r : Stand) (way : List Frame) (n t : ℕ) → HasTaken (At s) → link.counts n t s frame.Unread ≡ Some r → StandsFor (At s) (At r) way
counted_so Out r way n t told h = absurd (none-some r h)
counted_so Asking r way n t told h = absurd (none-some r h)
counted_so (Up k) r way n t told h =
    let parts = cond_some (nat_lt k.sent (k.acked + 7)) (Up (record k { sent = k.sent + 1 })) r h in
    inr (
      frame.Info (k.sent % 8) (k.told % 8) false,
      tt,
      subst (λ z. MaySend (At (Up k)) way (frame.Info (k.sent % 8) (k.told % 8) false) (At z)) parts.1 (next_goes k way told parts.0),
    )
counted_so Free r way n t told h = inr (frame.Ready 0, tt, link.sends Free r way (frame.Ready 0) 0 0 h)

any_sent : (s u : State) (way : List Frame) (x : Frame) → HasTaken s → MaySend s way x u → x ≡ frame.Unread → StandsFor s u way
any_sent _ _ _ _ told (link.sends s r way x n t h) is =
    counted_so s r way n t told (ap (λ z. sends_as n t s way z) (sym is) ∙ h)
any_sent _ _ _ _ told (link.answers r way) is = inr (frame.Ua, tt, link.answers r way)
any_sent _ _ _ _ told (link.answers_before s r way before) is = inr (frame.Ua, tt, link.answers_before s r way before)
any_sent _ _ _ _ told (link.was_none s way) is = inl refl
any_sent _ _ _ _ told (link.was_any s r way x may) is = go x may (any_sent s r way x told may)
  where
    go : (y : Frame) → MaySend s way y r → (y ≡ frame.Unread → StandsFor s r way) → StandsFor s r way
    go frame.Unread may any = any refl
    go (frame.Info ns nr differs) may any = inr (frame.Info ns nr differs, tt, may)
    go (frame.Ready nr) may any = inr (frame.Ready nr, tt, may)
    go frame.Sabm may any = inr (frame.Sabm, tt, may)
    go frame.Disc may any = inr (frame.Disc, tt, may)
    go frame.Ua may any = inr (frame.Ua, tt, may)
    go frame.Dm may any = inr (frame.Dm, tt, may)
    go frame.Frmr may any = inr (frame.Frmr, tt, may)
    go frame.Before may any = inr (frame.Before, tt, may)

nth_seven : (a : ℕ) → nth a ((a + 7) % 8) ≡ a + 7
nth_seven a = omega arith

heard_any : (k : Numbers) (hears takes : Bool)
    → heard hears takes k (frame.Info (k.taken % 8) ((k.acked + 7) % 8) false) ≡ heard hears takes k frame.Unread
heard_any k true true =
    ap (λ b. record k { acked = nth k.acked ((k.acked + 7) % 8); taken = if b then k.taken + 1 else k.taken }) (eq-eqb (k.taken % 8) (k.taken % 8) refl)
    ∙ ap (λ a. record k { acked = a; taken = k.taken + 1 }) (nth_seven k.acked)
heard_any k true false = ap (λ a. record k { acked = a }) (nth_seven k.acked)
heard_any k false true =
    ap (λ b. record k { taken = if b then k.taken + 1 else k.taken }) (eq-eqb (k.taken % 8) (k.taken % 8) refl)
heard_any k false false = refl

abbrev StandsForOne : State → State → Type 0
StandsForOne s u = (x : Frame) × IsRead x × MayTake s x u

asked_so : (s r : Stand) → IsIn r (asked s) → StandsForOne (At s) (Owes r)
asked_so s r h = go (is_asking s) refl h
  where
    sabm : IsIn r (owed s frame.Sabm) → StandsForOne (At s) (Owes r)
    sabm is = (frame.Sabm, tt, link.owes s r frame.Sabm is)

    disc : r ≡ Out → StandsForOne (At s) (Owes r)
    disc is = (frame.Disc, tt, link.owes s r frame.Disc (inl is))

    go : (b : Bool) → is_asking s ≡ b → IsIn r (if b then link.fresh ∷ Asking ∷ Out ∷ [] else link.fresh ∷ Out ∷ []) → StandsForOne (At s) (Owes r)
    go true e (inl is) = sabm (subst (λ b. IsIn r (if b then link.fresh ∷ Asking ∷ [] else link.fresh ∷ [])) (sym e) (inl is))
    go true e (inr (inl is)) = sabm (subst (λ b. IsIn r (if b then link.fresh ∷ Asking ∷ [] else link.fresh ∷ [])) (sym e) (inr (inl is)))
    go true e (inr (inr (inl is))) = disc is
    go true e (inr (inr (inr none))) = absurd none
    go false e (inl is) = sabm (subst (λ b. IsIn r (if b then link.fresh ∷ Asking ∷ [] else link.fresh ∷ [])) (sym e) (inl is))
    go false e (inr (inl is)) = disc is
    go false e (inr (inr none)) = absurd none

any_taken : (s u : State) (x : Frame) → MayTake s x u → x ≡ frame.Unread → StandsForOne s u
any_taken _ _ _ (link.passes s x) is = (frame.Dm, tt, link.passes s frame.Dm)
any_taken _ _ _ (link.hears k x hears takes) is = (
  frame.Info (k.taken % 8) ((k.acked + 7) % 8) false,
  tt,
  subst (λ z. MayTake (At (Up k)) (frame.Info (k.taken % 8) ((k.acked + 7) % 8) false) (At (Up z)))
      (heard_any k hears takes ∙ ap (λ z. heard hears takes k z) (sym is))
      (link.hears k (frame.Info (k.taken % 8) ((k.acked + 7) % 8) false) hears takes),
)
any_taken _ _ _ (link.begins x may) is = (frame.Ua, tt, link.begins frame.Ua refl)
any_taken _ _ _ (link.owes s r x owes) is = asked_so s r (subst (λ z. IsIn r (owed s z)) is owes)

pub link_rules : LinkRulesArePeers
link_rules = record {
  sends = λ w way said x r shown is_read is given may. may_sent w (stand_in w) r way said x refl shown is_read is given may;
  beyond = beyond_goes;
  takes = λ w e rest x d r front is_read is may. taken_so w e.session e.said rest front (stand_in w) r x d refl is_read is may;
  answers = λ w e rest x d r front is_read is may. owes_so w e.session e.said rest front (stand_in w) r x d refl is_read is may;
  owes = answers_alone;
  waits = takes_none;
  unread_sent = λ s u way told may. any_sent s u way frame.Unread told may refl;
  unread_taken = λ s u may. any_taken s u frame.Unread may refl;
}

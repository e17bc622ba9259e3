-- An end that keeps the rules, ahead of the trace: what it did since its last octets that the trace has seen.
use Rattle.x25_judge.proofs.verdicts.Names.{◌≡◌, inl, inr, ℕ, ◌≤◌, le_trans, arith, length, length-append, List, [], ◌∷◌, ◌++◌, true, false, Option, Some, None}
use Rattle.x25_judge.proofs.verdicts.Names.{Result, Ok, Err, refl, sym, ap, ◌∙◌, subst, Role, n1, PlainFrame, info, rr, rnr, rej, frame_of, FrameError, Short}
use Rattle.x25_judge.proofs.verdicts.Names.{other, Peer, MayHear, number_in, is_visible, IsSeen, visible_reads, Judge, MaySend, MayStand, In, IsNumbered, Way}
use Rattle.std.proofs.Common.{append_assoc}
use Rattle.std.proofs.lemmas.List.{append-nil}
use Rattle.x25_judge.specs.laws.Sessions as sessions
use Rattle.x25_line.specs.laws.Loss.{LessAt, nothing as none_lost, gone, hurt, deeper}

-- it sends such octets: a frame with a number, or what has none
pub data Sends (from : Role) (p : Peer) (octets : List ℕ) (q : Peer) : Type 0 where
  said : (frame : PlainFrame) → frame_of from n1 octets ≡ Ok frame → MaySend p frame q → Sends from p octets q
  freed : number_in (frame_of from n1 octets) ≡ None → q ≡ p → Sends from p octets q

none_numbered : (frame : PlainFrame) → IsNumbered frame → number_in (Ok frame) ≡ None → ⊥
none_numbered (info ns nr pf packet) is e = cc
none_numbered (rr command nr pf) is e = cc
none_numbered (rnr command nr pf) is e = cc
none_numbered (rej command nr pf) is e = cc
none_numbered frame is e = is

-- anything may be passed over
passes : (p : Peer) (r : Result PlainFrame FrameError) → MayHear p r p
passes p (Ok (info ns nr pf x)) = (false, false, tt, refl)
passes p (Ok (rr command nr pf)) = (false, refl)
passes p (Ok (rnr command nr pf)) = (false, refl)
passes p (Ok (rej command nr pf)) = (false, refl)
passes p (Err Short) = refl
passes p r = refl

module _ (from : Role) where
  -- From p, with such frames on the way to it, to q with what is left of these, without octets of its own.
  pub record Quiet (p : Peer) (way : Way) (q : Peer) (left : Way) : Type 0 where
    pub on : (j : Judge) (more : Way) → MayStand from j In p (way ++ more) → MayStand from j In q (left ++ more)
    pub few : length left ≤ length way

  pub nothing : (p : Peer) (way : Way) → Quiet p way p way
  nothing p way = record { on = λ j more may. may; few = omega arith }

  pub both : {p q r : Peer} {way left last : Way} → Quiet p way q left → Quiet q left r last → Quiet p way r last
  both a b = record { on = λ j more may. b.on j more (a.on j more may); few = le_trans b.few a.few }

  pub was_given : (p : Peer) (way : Way) (packet : List ℕ) → Quiet p way (record p { given = p.given ++ packet ∷ [] }) way
  was_given p way packet = record { on = λ j more may. sessions.HandsDown j In p (way ++ more) packet may; few = omega arith }

  heard : (p q : Peer) (frame : PlainFrame) → MayHear p (Ok frame) q → Quiet p (Some frame ∷ []) q []
  heard p q frame hears = record { on = λ j more may. sessions.Comes j p q frame more hears may; few = omega arith }

  -- one frame more is on the way to it
  one_comes : {p q : Peer} {way left : Way} (what : Option PlainFrame) → Quiet p way q left → Quiet p (way ++ what ∷ []) q (left ++ what ∷ [])
  one_comes {p} {q} {way} {left} what d = record {
    on = λ j more may. subst (λ (w : Way). MayStand from j In q w) (sym (append_assoc left (what ∷ []) more))
        (d.on j (what ∷ more) (subst (λ (w : Way). MayStand from j In p w) (append_assoc way (what ∷ []) more) may));
    few = let a = length-append left (what ∷ []) in let b = length-append way (what ∷ []) in let c = d.few in omega (arith, a, b, c);
  }

  pub at_front : (j : Judge) (p q : Peer) (way left : Way) → Quiet p way q left → MayStand from j In p way → MayStand from j In q left
  at_front j p q way left d may =
      subst (λ (w : Way). MayStand from j In q w) (append-nil left)
      (d.on j [] (subst (λ (w : Way). MayStand from j In p w) (sym (append-nil way)) may))

  -- ---- its octets that the trace hasn't seen

  -- it sends the front ones, and goes on so
  pub record Front (octets : List ℕ) (p : Peer) (way : Way) (Then : Peer → Way → Type 0) : Type 0 where
    pub before : Peer
    pub on_way : Way
    pub after : Peer
    pub quiet : Quiet p way before on_way
    pub sends : Sends from before octets after
    pub did : Then after on_way

  abbrev pub Did : Peer → Way → Peer → Way → List (List ℕ) → Type 0
  Did p way q left [] = Quiet p way q left
  Did p way q left (octets ∷ out) = Front octets p way (λ r w. Did r w q left out)

  pub did_more : (p q r : Peer) (way left last : Way) (out : List (List ℕ)) → Quiet q left r last → Did p way q left out → Did p way r last out
  did_more p q r way left last [] e d = both d e
  did_more p q r way left last (o ∷ out) e d =
      record {
        before = d.before;
        on_way = d.on_way;
        after = d.after;
        quiet = d.quiet;
        sends = d.sends;
        did = did_more d.after q r d.on_way left last out e d.did;
      }

  pub did_send : (p q r : Peer) (way left : Way) (out : List (List ℕ)) (octets : List ℕ) → Sends from q octets r → Did p way q left out
      → Did p way r left (out ++ octets ∷ [])
  did_send p q r way left [] octets s d = record { before = q; on_way = left; after = r; quiet = d; sends = s; did = nothing r left }
  did_send p q r way left (o ∷ out) octets s d =
      record {
        before = d.before;
        on_way = d.on_way;
        after = d.after;
        quiet = d.quiet;
        sends = d.sends;
        did = did_send d.after q r d.on_way left out octets s d.did;
      }

  pub comes_behind : (p q : Peer) (way left : Way) (out : List (List ℕ)) (what : Option PlainFrame) → Did p way q left out
      → Did p (way ++ what ∷ []) q (left ++ what ∷ []) out
  comes_behind p q way left [] what d = one_comes what d
  comes_behind p q way left (o ∷ out) what d =
      record {
        before = d.before;
        on_way = d.on_way ++ what ∷ [];
        after = d.after;
        quiet = one_comes what d.quiet;
        sends = d.sends;
        did = comes_behind d.after q d.on_way left out what d.did;
      }

  -- a frame with a number is at the front
  pub numbered_front : (p q : Peer) (octets : List ℕ) (frame : PlainFrame) → frame_of from n1 octets ≡ Ok frame → IsNumbered frame → Sends from p octets q
      → MaySend p frame q
  numbered_front p q octets frame reads is (said f read may) =
      let same : f ≡ frame = cc in subst (λ (x : PlainFrame). MaySend p x q) same may
  numbered_front p q octets frame reads is (freed none same) = absurd (none_numbered frame is (sym (ap number_in reads) ∙ none))

  -- ---- the octets on the line to it

  -- it takes the front ones, and goes on so
  pub record Takes (octets : List ℕ) (way : Way) (Then : Way → Type 0) : Type 0 where
    pub left : Way
    pub did : (p q : Peer) → MayHear p (frame_of (other from) n1 octets) q → Quiet p way q left
    pub line : Then left

  abbrev pub OnLine : Way → List (List ℕ) → Type 0
  OnLine way [] = (p : Peer) → Quiet p way p []
  OnLine way (octets ∷ back) = Takes octets way (λ left. OnLine left back)

  -- octets that are visibly damaged say nothing
  says_nothing : (octets : List ℕ) → is_visible octets ≡ true → (p q : Peer) → MayHear p (frame_of (other from) n1 octets) q → q ≡ p
  says_nothing octets visible p q may = elim (visible_reads (other from) n1 octets visible) [
    | inl short ↦ subst (λ (r : Result PlainFrame FrameError). MayHear p r q) short may
    | inr bad ↦ subst (λ (r : Result PlainFrame FrameError). MayHear p r q) bad may
  ]

  one_behind : (way : Way) (back : List (List ℕ)) (octets : List ℕ) (what : Option PlainFrame)
      → ((p q : Peer) → MayHear p (frame_of (other from) n1 octets) q → Quiet p (what ∷ []) q [])
      → OnLine way back → OnLine (way ++ what ∷ []) (back ++ octets ∷ [])
  one_behind way [] octets what takes h =
      record { left = []; did = λ p q may. both (one_comes what (h p)) (takes p q may); line = λ p. nothing p [] }
  one_behind way (o ∷ back) octets what takes h =
      record { left = h.left ++ what ∷ []; did = λ p q may. one_comes what (h.did p q may); line = one_behind h.left back octets what takes h.line }

  pub one_more : (way : Way) (back : List (List ℕ)) (octets : List ℕ) (frame : PlainFrame) → frame_of (other from) n1 octets ≡ Ok frame → OnLine way back
      → OnLine (way ++ Some frame ∷ []) (back ++ octets ∷ [])
  one_more way back octets frame reads h =
      one_behind way back octets (Some frame) (λ p q may. heard p q frame (subst (λ (r : Result PlainFrame FrameError). MayHear p r q) reads may)) h

  pub one_more_damaged : (way : Way) (back : List (List ℕ)) (octets : List ℕ) → is_visible octets ≡ true → OnLine way back
      → OnLine (way ++ None ∷ []) (back ++ octets ∷ [])
  one_more_damaged way back octets visible h =
      one_behind way back octets None
      (λ p q may. subst (λ (r : Peer). Quiet p (None ∷ []) r []) (sym (says_nothing octets visible p q may))
      (record { on = λ j more m. sessions.Passes j In p None more m; few = omega arith })) h

  passed : (way left : Way) (back : List (List ℕ)) → ((p : Peer) → Quiet p way p left) → OnLine left back → OnLine way back
  passed way left [] none h = λ p. both (none p) (h p)
  passed way left (o ∷ back) none h = record { left = h.left; did = λ p q may. both (none p) (h.did p q may); line = h.line }

  pub one_less : (way : Way) {i : ℕ} {back now : List (List ℕ)} → LessAt IsSeen i back now → OnLine way back → OnLine way now
  one_less way (none_lost j) h = h
  one_less way (gone o back) h = passed way h.left back (λ p. h.did p p (passes p (frame_of (other from) n1 o))) h.line
  one_less way (hurt o octets back visible) h = record {
    left = h.left;
    did = λ p q may. subst (λ (r : Peer). Quiet p way r h.left) (sym (says_nothing octets visible p q may)) (h.did p p (passes p (frame_of (other from) n1 o)));
    line = h.line;
  }
  one_less way (deeper j o back now l) h = record { left = h.left; did = h.did; line = one_less h.left l h.line }

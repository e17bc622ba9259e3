-- A station over sessions and a peer are two ends that keep the rules, whatever the station does.
use Rattle.x25_line.proofs.Names.{◌≡◌, ℕ, suc, List, [], ◌∷◌, ◌++◌, true, Some, None, Ok, refl, ap, arith, Role, PlainFrame, info, rr, rnr, rej, sabm, disc, ua}
use Rattle.x25_line.proofs.Names.{dm, frmr, frame_of, Phase, Down, Waiting, Up, LinkSettings, other, TakesPart, PeerEnd, stand_of, Stand, In, Asking, Letter}
use Rattle.x25_line.proofs.Names.{letter, AreOf, free, asks, closes, leaves, takes_ua, takes_sabm, waits_on, takes_disc, loses, Ends, Does, listens, moves}
use Rattle.x25_line.proofs.Names.{EndsReached, LessAt, gone, IsSpoilt, IsSeenIn, Entry, Meeting, letters, Peer, MaySay, number_in, Sabm, Ua, Else, said}
use Rattle.x25_line.proofs.{Lists.{each_append}, Losses.{each_less}, Names.{sabm_of, ua_of, disc_of}, Order.{by_frmr, no_fault}, StationLines.{visible_is}}
use Rattle.x25_line.proofs.{StationSays.{machine_of}, ends.Lines.{count_push, count_less, are_less}, ends.Sessions.{reached_all, ua_present, valid}}
use Rattle.x25_line.proofs.sessions.{Letters.{visible_fine, heard_said, letters_push, letters_less}, SessionHeld.{OwesOn, owes_less}}
use Rattle.x25_line.proofs.sessions.{SessionLines.{Read, none_is_some, number_kinds}, SessionMay.{sends_read, hears_read, entry, heard_in, MayAsk, MayDo}}
use Rattle.x25_line.specs.laws.{Ends.{hears, near_now, with_near, sends, near_handed, near_does}, PeerSessionClaims.{ReadsNoFrmr}, Said.{Odd as OddSaid}}
use Rattle.x25_line.specs.laws.StationClaims.{Each}

number_frmr : (r : Read) (f : PlainFrame) → number_in r ≡ Some f → ReadsNoFrmr r
number_frmr (Ok (frmr g why)) f is = none_is_some f is
number_frmr r f is = tt

-- ---- the lines between them

-- nothing there is answered by FRMR
abbrev pub NoneOdd : Role → ℕ → List Entry → Type 0
NoneOdd from n1 es = Each (λ e. said (frame_of from n1 e.octets) ≡ OddSaid → ⊥) es

odd_less : (c : LinkSettings) {i : ℕ} {es fs : List Entry} → LessAt IsSeenIn i es fs → NoneOdd (other c.role) c.longest es → NoneOdd (other c.role) c.longest fs
odd_less c l h = each_less (λ e. said (frame_of (other c.role) c.longest e.octets) ≡ OddSaid → ⊥)
    (λ e f seen _. visible_fine (other c.role) c.longest f.octets seen.1) l h

-- nor is there a FRMR
abbrev pub NoFrmrs : Role → ℕ → List Entry → Type 0
NoFrmrs from n1 es = Each (λ e. ReadsNoFrmr (frame_of from n1 e.octets)) es

pub no_frmr_less : (c : LinkSettings) {i : ℕ} {es fs : List Entry} → LessAt IsSeenIn i es fs → NoFrmrs c.role c.longest es → NoFrmrs c.role c.longest fs
no_frmr_less c l h = each_less (λ e. ReadsNoFrmr (frame_of c.role c.longest e.octets))
    (λ e f seen _. visible_is ReadsNoFrmr c.role c.longest f.octets seen.1 tt tt) l h

-- of a station that isn't about to ask once more, nor Closed
abbrev pub Where : Phase → Type 0 → Type 0
Where Down P = P
Where Up P = P
Where phase P = Unit {0}

pub where_map : (p : Phase) (P Q : Type 0) → (P → Q) → Where p P → Where p Q
where_map Down P Q f h = f h
where_map Up P Q f h = f h
where_map p P Q f h = tt

-- What is kept of the lines, to a station in this phase and from it, as the rules look at them. The peer began so many sessions.
pub record Kept (begun : ℕ) (p : Phase) (es out : List Letter) : Type 0 where
  pub owes : OwesOn p out es
  pub present : Where p (AreOf begun es)

module _ {n : ℕ} {p : Phase} {es out : List Letter} where
  -- one more from it
  kept_push : (e : Letter) → sabm_of e.said ≡ 0 → disc_of e.said ≡ 0 → Kept n p es out → Kept n p es (out ++ e ∷ [])
  kept_push e no_sabm no_disc k =
      let sabms = count_push sabm_of out e in
      let discs = count_push disc_of out e in
      record { owes = owes_less p _ _ (omega (arith, sabms, no_sabm)) (omega (arith, discs, no_disc)) k.owes; present = k.present }

  -- less to it
  kept_less : {i : ℕ} {fs : List Letter} → LessAt IsSpoilt i es fs → Kept n p es out → Kept n p fs out
  kept_less l k =
      let uas = count_less ua_of refl l in
      record { owes = owes_less p _ _ (omega (arith, uas)) (omega arith) k.owes; present = where_map p _ _ (are_less n l) k.present }

takes_part : {n : ℕ} {es out : List Letter} (p : Phase) → TakesPart p → Kept n p es out → Kept n Up es out
takes_part Down part k = record { owes = k.owes; present = k.present }
takes_part Up part k = k
takes_part p part k = absurd part

-- it leaves
kept_left : {n : ℕ} {es out : List Letter} → Kept n Up es out → Kept n Down es out
kept_left k = record { owes = k.owes; present = k.present }

-- what has an N(R) is sent
pub tells_does : (w : Ends) (f : PlainFrame) (q : Peer) → w.two.near.stand ≡ In → number_in (Ok f) ≡ Some f → MaySay ⊥ (near_now w) (said (Ok f)) q
    → Does w (record w { two = record (w.two) { out = w.two.out ++ letter w.two.near.begun (said (Ok f)) ∷ [] }; near_of = with_near q w })
tells_does w (info ns nr pf x) q on number may = sends (Some (record { ns = ns; packet = x })) nr q on may
tells_does w (rr command nr pf) q on number may = sends None nr q on may
tells_does w (rnr command nr pf) q on number may = sends None nr q on may
tells_does w (rej command nr pf) q on number may = sends None nr q on may
tells_does w f q on number may = none_is_some f number

-- the line from a station, and the line to it
abbrev pub outs : LinkSettings → List Entry → List Letter
outs c es = letters c.role c.longest es

-- the letters on the line to the station
abbrev pub backs : LinkSettings → List Entry → List Letter
backs c es = letters (other c.role) c.longest es

-- beside a peer that doesn't send what is answered by FRMR, there is none such on the line from it, and no FRMR on the line to it
pub record AreLapb (Odd : Type 0) (c : LinkSettings) (es out : List Entry) : Type 0 where
  pub frmr : (Odd → ⊥) → NoFrmrs c.role c.longest out
  pub lapb : (Odd → ⊥) → NoneOdd (other c.role) c.longest es

behind : {Odd : Type 0} {c : LinkSettings} {e : Entry} {es out : List Entry} → AreLapb Odd c (e ∷ es) out → AreLapb Odd c es out
behind h = record { frmr = h.frmr; lapb = λ ok. (h.lapb ok).1 }

-- beside a peer, which may send what is answered by FRMR or not
module _ (Odd : Type 0) (c : LinkSettings) (peer : PeerEnd) where
  -- the two as ends, of which the station is the near one
  abbrev pub at : List Letter → List Meeting → Stand → ℕ → (ℕ → Peer) → List Letter → Ends
  at back met stand b all out = record {
    two = record { near = record { stand = stand; begun = b }; far = record { stand = peer.stand; begun = peer.begun }; out = out; back = back; met = met };
    near_of = all;
    far_of = peer.of_session;
  }

  -- they are such two ends
  pub record AreEnds (es : List Letter) (met : List Meeting) (p : Phase) (b : ℕ) (all : ℕ → Peer) (out : List Letter) : Type 0 where
    pub reached : EndsReached (at es met (stand_of p) b all out)
    pub kept : Kept peer.begun p es out

  -- and there are octets on their lines
  pub record IsWith (es : List Entry) (met : List Meeting) (p : Phase) (b : ℕ) (all : ℕ → Peer) (out : List Entry) : Type 0 where
    pub ends : AreEnds (backs c es) met p b all (outs c out)
    pub octets : AreLapb Odd c es out

  module _ {met : List Meeting} {p : Phase} {b : ℕ} {all : ℕ → Peer} where
    -- one more on the line from it, no FRMR
    sent : {es out : List Entry} (n : ℕ) (bytes : List ℕ) (r : Read) → sends_read c bytes ≡ r → ReadsNoFrmr r → AreLapb Odd c es out
        → AreEnds (backs c es) met p b all (outs c out ++ letter n (said r) ∷ [])
        → IsWith es met p b all (out ++ entry n bytes ∷ [])
    sent {out = out} n bytes r read no_frmr h k = record {
      ends = rw (letters_push c.role c.longest out n bytes r read) k;
      octets = record {
        frmr = λ ok. each_append (λ e. ReadsNoFrmr (frame_of c.role c.longest e.octets)) out (entry n bytes ∷ []) (h.frmr ok) (rw read no_frmr, tt);
        lapb = h.lapb;
      };
    }

  front : (e : Entry) (es : List Entry) (r : Read) → hears_read c e.octets ≡ r → backs c (e ∷ es) ≡ letter e.session (said r) ∷ backs c es
  front e es r read = ap (λ x. letter e.session (said x) ∷ backs c es) read

  -- a SABM or a DISC comes, and is answered
  came : {p : Phase} {x : Letter} {es out : List Letter} (b : ℕ) → Kept peer.begun p (x ∷ es) out → Kept peer.begun p es (out ++ letter b Ua ∷ [])
  came {p} {x} {es} {out} b k = kept_push (letter b Ua) refl refl (kept_less (gone x es) k)

  passed : (e : Entry) (es : List Entry) (met : List Meeting) (p : Phase) (b : ℕ) (all : ℕ → Peer) (out : List Letter)
      → EndsReached (at (backs c (e ∷ es)) met (stand_of p) b all out)
      → EndsReached (at (backs c es) (heard_in c p b e met) (stand_of p) b all out)
  passed e es met p b all out h =
      rw (heard_said p b e.session (hears_read c e.octets) met)
      (near_does _ _ h (moves _ (hears (letter e.session (said (hears_read c e.octets))) (backs c es) refl)))

  asked : (p : Phase) {es out : List Letter} → MayAsk p (AreOf peer.begun es) → Kept peer.begun p es out → AreOf peer.begun es
  asked Down due k = k.present
  asked Waiting due k = due
  asked p due k = absurd due

  pub station_may : MayDo c (λ p es. MayAsk p (AreOf peer.begun (backs c es))) IsWith
  station_may = record {
    handed = λ es met b all out packet h. record {
      ends = record { reached = near_handed _ packet h.ends.reached refl; kept = h.ends.kept };
      octets = h.octets;
    };
    tells = λ es met b all out octets f q read number may h. sent b octets (Ok f) read (number_frmr (Ok f) f number) h.octets
        (record {
          reached = near_does _ _ h.ends.reached (tells_does _ f q refl number may);
          kept = kept_push (letter b (said (Ok f))) (number_kinds (Ok f) f number).0 (number_kinds (Ok f) f number).2 h.ends.kept;
        });
    declines = λ es met p b all out octets f read h. sent b octets (Ok (dm f)) read tt h.octets
        (record { reached = near_does _ _ h.ends.reached (moves _ free); kept = kept_push (letter b Else) refl refl h.ends.kept });
    asks = λ es met p b all out octets pf read due clear h. sent b octets (Ok (sabm pf)) read tt h.octets
        (record {
          reached = near_does _ _ h.ends.reached
              (moves _ (asks (record { sabm = clear.sabm; disc = clear.disc; ua = clear.ua; crossing = asked p due h.ends.kept })));
          kept = record {
            owes = (
              omega (arith, clear.sabm, clear.ua, count_push sabm_of (outs c out) (letter b Sabm)),
              omega (arith, clear.disc, count_push disc_of (outs c out) (letter b Sabm)),
            );
            present = tt;
          };
        });
    closes = λ es met p b all out octets pf read h.
        sent b octets (Ok (disc pf)) read tt h.octets
        (record { reached = near_does _ _ h.ends.reached (moves _ closes); kept = record { owes = tt; present = tt } });
    leaves = λ es met b all out h. record {
      ends = record { reached = near_does _ _ h.ends.reached (moves _ leaves); kept = kept_left h.ends.kept };
      octets = h.octets;
    };
    gives_up = λ es met b all out due clear h.
        (record {
          ends = record {
            reached = near_does _ _ h.ends.reached (moves _ leaves);
            kept = record {
              owes = (omega (arith, clear.sabm, clear.ua), clear.disc);
              present = due;
            };
          };
          octets = h.octets;
        });
    passes = λ e es met p b all out h. record {
      ends = record { reached = passed e es met p b all (outs c out) h.ends.reached; kept = kept_less (gone _ (backs c es)) h.ends.kept };
      octets = behind h.octets;
    };
    hears = λ e es met b all out q may h. record {
      ends = record {
        reached = rw (heard_said Up b e.session (hears_read c e.octets) met)
            (near_does _ _ h.ends.reached (listens (letter e.session (said (hears_read c e.octets))) (backs c es) q refl refl may));
        kept = kept_less (gone _ (backs c es)) h.ends.kept;
      };
      octets = behind h.octets;
    };
    takes_ua = λ e es met b all out read h.
        (let k = h.ends.kept in
        let is = front e es (Ok (ua true)) read in
        let before = at (backs c (e ∷ es)) met Asking b all (outs c out) in
        let clear = ua_present (reached_all h.ends.reached) e.session (backs c es) refl is in
        let one : ua_of (said (hears_read c e.octets)) ≡ 1 = ap (λ r. ua_of (said r)) read in
        record {
          ends = record {
            reached = near_does _ _ h.ends.reached (moves _ (takes_ua e.session (backs c es) is refl));
            kept = record { owes = (omega (arith, k.owes.0, one), k.owes.1); present = clear.0 };
          };
          octets = behind h.octets;
        });
    takes_sabm = λ e es met p b all out octets pf f read answer part h. sent (suc b) octets (Ok (ua f)) answer tt (behind h.octets)
        (record {
          reached = near_does _ _ h.ends.reached (moves _ (takes_sabm e.session (backs c es) (front e es (Ok (sabm pf)) read)));
          kept = takes_part p part (came (suc b) h.ends.kept);
        });
    waits_on = λ e es met b all out octets pf f read answer h. sent b octets (Ok (ua f)) answer tt (behind h.octets)
        (record {
          reached = near_does _ _ h.ends.reached (moves _ (waits_on e.session (backs c es) (front e es (Ok (sabm pf)) read) refl));
          kept = came b h.ends.kept;
        });
    takes_disc = λ e es met b all out octets pf f read answer h. sent b octets (Ok (ua f)) answer tt (behind h.octets)
        (record {
          reached = near_does _ _ (near_does _ _ h.ends.reached (moves _ (takes_disc e.session (backs c es) (front e es (Ok (disc pf)) read))))
              (moves _ leaves);
          kept = kept_left (came b h.ends.kept);
        });
    faults = λ e es met b all out octets f why ending read h. record {
      ends = rw (letters_push c.role c.longest out b octets (Ok (frmr f why)) read) (record {
        reached = near_does _ _ (near_does _ _ (passed e es met Up b all (outs c out) h.ends.reached) (moves _ leaves)) (moves _ free);
        kept = kept_push (letter b Else) refl refl (kept_left (kept_less (gone _ (backs c es)) h.ends.kept));
      });
      octets = record {
        frmr = λ ok. (let none = no_fault (hears_read c e.octets) (machine_of c.window (all b)) (h.octets.lapb ok).0
            (λ carried nr is. valid _ (reached_all h.ends.reached) refl (letter e.session (said (hears_read c e.octets))) (backs c es) carried nr refl is) in
            absurd (omega (arith, none, ap by_frmr ending)));
        lapb = (behind h.octets).lapb;
      };
    };
    loses = λ {i} met p b all out l h. (let less = letters_less (other c.role) c.longest l in record {
      ends = record { reached = near_does _ _ h.ends.reached (moves _ (loses i _ less)); kept = kept_less less h.ends.kept };
      octets = record { frmr = h.octets.frmr; lapb = λ ok. odd_less c l (h.octets.lapb ok) };
    });
  }

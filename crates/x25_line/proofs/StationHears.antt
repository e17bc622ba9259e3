-- What a station that is Up makes of what comes, as an end that keeps the rules may: of the station and that end alone, with no line.
use Rattle.x25_line.proofs.Names.{◌≡◌, ◌≤◌, ◌%◌, ℕ, List, [], ◌∷◌, ◌++◌, ◌+◌, ◌⊎◌, inl, inr, length, Bool, true, false, if◌then◌else◌, Option, Some, None}
use Rattle.x25_line.proofs.Names.{Result, Ok, Err, refl, sym, ap, ◌∙◌, arith, append-nil, length_push, option_to_list, PlainFrame, info, rr, rnr, rej, sabm}
use Rattle.x25_line.proofs.Names.{FrameError, Short, resolved, after, Hear, Take, Reason, Disc, FrmrSent, Reset, Local, LinkSettings, LinkStation, LinkStep}
use Rattle.x25_line.proofs.Names.{Window, Input, window_of, brought_by, after_input, MayHandUp, ending_of, Stays, IsSound, Said, Tells, said, sabm_of, disc_of}
use Rattle.x25_line.proofs.{Names.{Peer, MayHear, MayMake, hearing, taking, IsWanted}, StationSays.{machine_of}, StationSends.{AllWithin}}
use Rattle.x25_line.proofs.StationSteps.{no_packet_of}
use Rattle.x25_link.specs.laws.{WindowLaw.{sets_up}, WindowMachine.{receives}}

-- what is read is SABM, or is counted as none
pub sabm_or_not : (r : Result PlainFrame FrameError) → ((p : Bool) × (r ≡ Ok (sabm p))) ⊎ (sabm_of (said r) ≡ 0)
sabm_or_not (Ok (sabm p)) = inl (p, refl)
sabm_or_not (Err Short) = inr refl
sabm_or_not r = inr refl

-- what isn't SABM sets up no link
pub sets_none_up : (r : Result PlainFrame FrameError) → sabm_of (said r) ≡ 0 → sets_up r ≡ false
sets_none_up (Ok (sabm p)) h = absurd (omega (arith, h))
sets_none_up r h = refl

-- ---- why Up is left

-- one where the station leaves Up as DISC comes, and else none
abbrev pub by_disc : Option Reason → ℕ
by_disc (Some Disc) = 1
by_disc reason = 0

-- one where the station leaves Up as SABM comes, and else none
abbrev pub by_reset : Option Reason → ℕ
by_reset (Some Reset) = 1
by_reset reason = 0

abbrev pub by_local : Option Reason → ℕ
by_local (Some Local) = 1
by_local reason = 0

numbered_left : (b : Bool) → let o : Option Reason = if b then None else Some FrmrSent in (by_disc o ≡ 0) × (by_reset o ≡ 0) × (by_local o ≡ 0)
numbered_left true = (refl, refl, refl)
numbered_left false = (refl, refl, refl)

-- by a DISC or a SABM alone it leaves so
pub left_by : (r : Result PlainFrame FrameError) (v : Window)
    → let o = ending_of r v in (by_disc o ≡ disc_of (said r)) × (by_reset o ≡ sabm_of (said r)) × (by_local o ≡ 0)
left_by (Ok (info ns nr p x)) v = numbered_left _
left_by (Ok (rr command nr pf)) v = numbered_left _
left_by (Ok (rnr command nr pf)) v = numbered_left _
left_by (Ok (rej command nr pf)) v = numbered_left _
left_by (Ok f) v = (refl, refl, refl)
left_by (Err Short) v = (refl, refl, refl)
left_by (Err error) v = (refl, refl, refl)

-- ---- where it stays Up

pub low_resolved : (a x : ℕ) → a ≤ resolved a x
low_resolved a x = omega arith

-- anything may be passed over
pub passes : (p : Peer) (s : Said) → MayMake p s p
passes p (Tells None nr) = (false, refl)
passes p (Tells (Some c) nr) = (false, false, tt, refl)
passes p s = refl

module _ (d : LinkSettings) where
  -- a station that is Up, and what is known of it as a peer
  pub record UpFacts (s : LinkStation) (p : Peer) : Type 0 where
    pub same : machine_of d.window p ≡ window_of d.window s
    pub sound : IsSound d.window s.outgoing
    pub room : p.sent ≤ p.acked + d.window
    pub told : p.told ≤ length p.taken
    pub within : AllWithin d.longest p.given

  -- the peer once it heard what reads as r, of which the station made this step
  pub record Hears (r : Result PlainFrame FrameError) (s : LinkStation) (p : Peer) (step : LinkStep) : Type 0 where
    pub input : Input
    pub stays : Stays d.window input s step
    pub peer : Peer
    pub may : MayHear p r peer
    pub is : machine_of d.window peer ≡ after_input input step.packet (window_of d.window s)
    pub room : peer.sent ≤ peer.acked + d.window
    pub told : peer.told ≤ length peer.taken
    pub given : peer.given ≡ p.given
    pub taken : peer.taken ≡ p.taken ++ option_to_list step.packet

module _ {d : LinkSettings} {s : LinkStation} {p : Peer} (facts : UpFacts d s p) (step : LinkStep) where
  abbrev k : ℕ
  k = d.window

  none_taken : (packet : Option (List ℕ)) → packet ≡ None → p.taken ≡ p.taken ++ option_to_list packet
  none_taken packet none = sym (ap (λ o. p.taken ++ option_to_list o) none ∙ append-nil p.taken)

  -- nothing of it is taken
  passed_over : (r : Result PlainFrame FrameError) {input : Input} → after_input input step.packet (window_of k s) ≡ window_of k s
      → ((y : List ℕ) → MayHandUp input (Some y) (window_of k s) → ⊥) → Stays k input s step → Hears d r s p step
  passed_over r {input} same never stays = record {
    input = input;
    stays = stays;
    peer = p;
    may = passes p (said r);
    is = facts.same ∙ sym same;
    room = facts.room;
    told = facts.told;
    given = refl;
    taken = none_taken step.packet (no_packet_of input step.packet (window_of k s) never stays.hands_up);
  }

  -- an N(R) is heard
  hears_number : {r : Result PlainFrame FrameError} (f : PlainFrame) (nr : ℕ) → after_input (receives f) step.packet (window_of k s)
      ≡ after (window_of k s) (Hear nr) → step.packet ≡ None → MayHear p r (hearing true nr p)
      → Stays k (receives f) s step → Hears d r s p step
  hears_number f nr same none may stays =
      let low = low_resolved p.acked nr in
      let room = facts.room in
      record {
        input = receives f;
        stays = stays;
        peer = hearing true nr p;
        may = may;
        is = ap (λ z. after z (Hear nr)) facts.same ∙ sym same;
        room = omega arith;
        told = facts.told;
        given = refl;
        taken = none_taken step.packet none;
      }

  tells : (f : PlainFrame) (nr : ℕ) → ((packet : Option (List ℕ)) → after_input (receives f) packet (window_of k s) ≡ after (window_of k s) (Hear nr))
      → ((y : List ℕ) → MayHandUp (receives f) (Some y) (window_of k s) → ⊥)
      → MayHear p (Ok f) (hearing true nr p) → Stays k (receives f) s step → Hears d (Ok f) s p step
  tells f nr same never may stays = hears_number f nr (same step.packet) (no_packet_of (receives f) step.packet (window_of k s) never stays.hands_up) may stays

  -- and a packet may be taken
  carries : (ns nr : ℕ) (pf : Bool) (x : List ℕ) → Stays k (receives (info ns nr pf x)) s step → Hears d (Ok (info ns nr pf x)) s p step
  carries ns nr pf x stays = go step.packet refl stays.hands_up
    where
      f : PlainFrame
      f = info ns nr pf x

      go : (packet : Option (List ℕ)) → step.packet ≡ packet → MayHandUp (receives f) packet (window_of k s) → Hears d (Ok f) s p step
      go None none may = hears_number f nr (ap (λ o. after_input (receives f) o (window_of k s)) none) none (true, false, tt, refl) stays
      go (Some y) some may =
          let low = low_resolved p.acked nr in
          let room = facts.room in
          let told = facts.told in
          let count = length_push p.taken x in
          let wanted : IsWanted true ns p = may.0 ∙ ap (λ z. length z.taken % 8) (sym facts.same) in
          let same : machine_of k (taking true x (hearing true nr p)) ≡ after_input (receives f) (Some y) (window_of k s) =
          ap (λ z. after (after z (Hear nr)) (Take 0 x)) facts.same ∙ ap (λ z. after (after (window_of k s) (Hear nr)) (Take 0 z)) may.1 in
          record {
            input = receives f;
            stays = stays;
            peer = taking true x (hearing true nr p);
            may = (true, true, wanted, refl);
            is = same ∙ sym (ap (λ o. after_input (receives f) o (window_of k s)) some);
            room = omega arith;
            told = omega arith;
            given = refl;
            taken = ap (λ z. p.taken ++ z ∷ []) may.1 ∙ sym (ap (λ o. p.taken ++ option_to_list o) some);
          }

  -- where the station stays Up, what it hears is what a peer may hear
  pub stays_hears : (r : Result PlainFrame FrameError) → sabm_of (said r) ≡ 0 → Stays k (brought_by r) s step → Hears d r s p step
  stays_hears (Ok (info ns nr pf x)) no_sabm stays = carries ns nr pf x stays
  stays_hears (Ok (rr command nr pf)) no_sabm stays = tells (rr command nr pf) nr (λ packet. refl) (λ y never. never) (true, refl) stays
  stays_hears (Ok (rnr command nr pf)) no_sabm stays = tells (rnr command nr pf) nr (λ packet. refl) (λ y never. never) (true, refl) stays
  stays_hears (Ok (rej command nr pf)) no_sabm stays = tells (rej command nr pf) nr (λ packet. refl) (λ y never. never) (true, refl) stays
  stays_hears (Ok (sabm p)) no_sabm stays = absurd (omega (arith, no_sabm))
  stays_hears r no_sabm stays = passed_over r refl (λ y never. never) stays

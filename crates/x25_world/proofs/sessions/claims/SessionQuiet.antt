-- Over set-up and re-set-up no error of procedure is ever put on the line, or told to a user.
use Rattle.x25_world.proofs.Names.{◌≡◌, ℕ, zero, suc, List, [], ◌∷◌, Ok, Contains, sym, subst, arith, ◌≤◌, ◌<◌, ◌⊎◌, inl, inr, All-nil, Role, Dte, Dce}
use Rattle.x25_world.proofs.Names.{PlainFrame, info, frmr, spelling_of, information_of, frame_of, PlainPacket, OnlyBegunHaveLists, AreNoFaults, longest_packet}
use Rattle.x25_world.proofs.Names.{Cfg, layer_notices, AreOctets, OnTap, World, entries_at, SessionLaws, AreOfFrame, HasNoProcedureError, IsTapOfOctets}
use Rattle.x25_frame.specs.laws.ReadingLaw.{ReadsSpelled}
use Rattle.x25_layer.specs.laws.Quiet.{AreQuiet}
use Rattle.x25_line.specs.laws.{SessionClaims.{NoSessionSendsFrmr, AllSessionsSendWhole}, StationClaims.{NoFrmr, IsWhole, AreWhole}}
use Rattle.x25_world.proofs.{FrameOctets.{spelled_of_frame}, Growing.{read_by, all_read, as_read, first_read, rest_read, AllAreOctets, AreOnTap, octets_in}}
use Rattle.x25_world.proofs.Known.{IsConfigured}
use Rattle.x25_world.proofs.sessions.{SessionJoined.{SessionsJoined, sessions_swapped, links_swapped}, SessionKnown.{own_quiet}}
use Rattle.x25_world.proofs.sessions.{SessionReaches.{known_sessions}, SessionTrace.{own}, acts.SessionRequests.{session_pair}}
use Rattle.x25_world.{proofs.sessions.claims.SessionLawful.{which_session}, specs.laws.Claims.{IsQuietRead, IsQuietFrame, IsQuietTap}}
use Rattle.x25_world.specs.laws.TapOctets.{AreOfFrames}

-- ---- packets

abbrev IsQuietOctets : Cfg → List ℕ → Type 0
IsQuietOctets cfg octets = IsQuietRead cfg.channels (read_by cfg octets)

quiet_one : (cfg : Cfg) (o : List ℕ) (down : List (List ℕ)) (p : PlainPacket) (ps : List PlainPacket) → AreQuiet cfg.channels (p ∷ ps)
    → all_read cfg (o ∷ down) ≡ as_read (p ∷ ps) → IsQuietOctets cfg o
quiet_one cfg o down p ps quiet reads = rw (first_read (read_by cfg o) (Ok p) (all_read cfg down) (as_read ps) reads) quiet.0

quiet_octets : (cfg : Cfg) (down : List (List ℕ)) (ps : List PlainPacket) → AreQuiet cfg.channels ps → all_read cfg down ≡ as_read ps → AllAreOctets down
    → (octets : List ℕ) → Contains down octets → IsQuietOctets cfg octets
quiet_octets cfg [] ps quiet reads all octets (k, low, is) = absurd (omega (arith, low))
quiet_octets cfg (o ∷ down) [] quiet reads all octets there = absurd (cc)
quiet_octets cfg (o ∷ down) (p ∷ ps) quiet reads all octets (zero, low, is) = subst (IsQuietOctets cfg) is (quiet_one cfg o down p ps quiet reads)
quiet_octets cfg (o ∷ down) (p ∷ ps) quiet reads all octets (suc k, low, is) =
    quiet_octets cfg down ps quiet.1 (rest_read (read_by cfg o) (Ok p) (all_read cfg down) (as_read ps) reads) all.1 octets (k, omega (arith, low), is)

-- ---- frames

quiet_frame : (cfg : Cfg) {given : List (List ℕ)} → ((octets : List ℕ) → Contains given octets → IsQuietOctets cfg octets)
    → (f : PlainFrame) (fs : List PlainFrame) → IsWhole longest_packet given f
    → NoFrmr (f ∷ fs) → IsQuietFrame cfg (Ok f) × NoFrmr fs
quiet_frame cfg quiet (info ns nr p x) fs whole none = (quiet x whole.packet, none)
quiet_frame cfg quiet (frmr f why) fs whole none = absurd none
quiet_frame cfg quiet f fs whole none = (tt, none)

-- octets that spell a frame read as it
quiet_read : ReadsSpelled → (cfg : Cfg) (from : Role) {given : List (List ℕ)} {f : PlainFrame} (octets : List ℕ) → IsWhole longest_packet given f → octets
    ≡ spelling_of from f → IsQuietFrame cfg (Ok f)
    → IsQuietFrame cfg (frame_of from longest_packet octets)
quiet_read reads cfg from {f} octets whole is quiet =
    rw (reads from longest_packet f octets (record { in_range = whole.in_range; carries = whole.carries; within = whole.within; spelling = is })) quiet

quiet_tap : ReadsSpelled → (cfg : Cfg) (given : List (List ℕ)) → ((octets : List ℕ) → Contains given octets → IsQuietOctets cfg octets)
    → (tap : List OnTap) (fs : List PlainFrame) → AreOnTap tap fs
    → AreWhole longest_packet given fs → NoFrmr fs → IsQuietTap cfg tap
quiet_tap reads cfg given quiet [] [] on whole none = tt
quiet_tap reads cfg given quiet (t ∷ tap) (f ∷ fs) on whole none =
    let here = quiet_frame cfg quiet f fs whole.0 none in
    (quiet_read reads cfg t.from t.octets whole.0 on.0 here.0, quiet_tap reads cfg given quiet tap fs on.1 whole.1 here.1)
quiet_tap reads cfg given quiet tap fs on whole none = absurd on

-- ---- of a world

module _ (laws : SessionLaws) {cfg : Cfg} (fine : IsConfigured cfg) where
  -- ---- what was handed down

  -- what holds of all octets that are read as packets that tell of no error
  abbrev pub HoldsOfQuiet : (List ℕ → Type 0) → Type 0
  HoldsOfQuiet P = (down : List (List ℕ)) (ps : List PlainPacket) → AreQuiet cfg.channels ps → all_read cfg down ≡ as_read ps → AllAreOctets down
      → (octets : List ℕ) → Contains down octets → P octets

  nowhere : (P : List ℕ → Type 0) (octets : List ℕ) → Contains [] octets → P octets
  nowhere P octets (k, low, is) = absurd (omega (arith, low))

  held_from : {P : List ℕ → Type 0} → HoldsOfQuiet P
      → {end : Role} {w : World} (h : SessionsJoined cfg end w) (n : ℕ) (octets : List ℕ) → Contains (h.links.near.down n) octets
      → P octets
  held_from {P} holds {end} {w} h n octets there = elim (which_session h.links.near.begun n) [
    | inl never ↦ nowhere P octets (subst (λ l. Contains l octets) (nothing_down never) there)
    | inr begun ↦ at_session begun.0 begun.1
  ]
    where
      nothing_down : (n ≡ 0) ⊎ (h.links.near.begun < n) → h.links.near.down n ≡ []
      nothing_down never = elim never [
        | inl zeroth ↦ rw zeroth h.near.before.0
        | inr later ↦ ((known_sessions OnlyBegunHaveLists laws.begun fine h.reach).near n later).0
      ]

      at_session : 1 ≤ n → n ≤ h.links.near.begun → P octets
      at_session low high =
          let pair = session_pair laws cfg fine end w h n in
          holds (h.links.near.down n) (own cfg end n h.trace).given (own_quiet laws cfg end n pair.0 h.trace pair.1).given (h.near.sessions n low high).down
          (h.near.octets n) octets there

  -- holds of each packet that an end was handed down
  pub held_of_given : {P : List ℕ → Type 0} → HoldsOfQuiet P → {w : World} (h : SessionsJoined cfg Dte w) (octets : List ℕ)
      → ((n : ℕ) × Contains (h.links.near.down n) octets) ⊎ ((n : ℕ) × Contains (h.links.far.down n) octets) → P octets
  held_of_given {P} holds {w} h octets down = elim down [
    | inl near ↦ held_from holds h near.0 octets near.1
    | inr far ↦ held_from holds (sessions_swapped h) far.0 octets (rw (links_swapped h) far.1)
  ]

  -- ---- of a world

  -- no FRMR is sent and no procedure error is told
  pub has_no_error : (w : World) → SessionsJoined cfg Dte w → HasNoProcedureError cfg w
  has_no_error w h =
      let whole = known_sessions AllSessionsSendWhole laws.whole fine h.reach in
      record {
        tap = quiet_tap laws.stations.reads cfg whole.given
            (λ octets there. held_of_given (quiet_octets cfg) h octets (whole.handed_down octets there)) w.tap h.links.sent h.tap whole.whole
            (known_sessions NoSessionSendsFrmr laws.no_frmr fine h.reach);
        told = told;
      }
    where
      told : (end : Role) → AreNoFaults (layer_notices (entries_at end w.transcript))
      told Dte = h.near.no_fault
      told Dce = h.far.no_fault

-- ---- all that is ever put on the line is octets, at most as many as a frame has

-- a frame that was sent, and the others, of which none is FRMR
frame_octets : {given : List (List ℕ)} → ((octets : List ℕ) → Contains given octets → AreOctets octets) → (f : PlainFrame) (fs : List PlainFrame)
    → IsWhole longest_packet given f → NoFrmr (f ∷ fs)
    → AreOctets (information_of f) × NoFrmr fs
frame_octets holds (info ns nr p x) fs whole none = (holds x whole.packet, none)
frame_octets holds (frmr f why) fs whole none = absurd none
frame_octets holds f fs whole none = (All-nil (λ octet. octet < 256), none)

tap_octets : (given : List (List ℕ)) → ((octets : List ℕ) → Contains given octets → AreOctets octets) → (tap : List OnTap) (fs : List PlainFrame)
    → AreOnTap tap fs → AreWhole longest_packet given fs → NoFrmr fs → AreOfFrames tap
tap_octets given holds [] [] on whole none = tt
tap_octets given holds (t ∷ tap) (f ∷ fs) on whole none =
    let here = frame_octets holds f fs whole.0 none in (
      subst AreOfFrame (sym on.0) (spelled_of_frame t.from f whole.0.in_range whole.0.carries whole.0.within here.0),
      tap_octets given holds tap fs on.1 whole.1 here.1,
    )
tap_octets given holds tap fs on whole none = absurd on

pub is_of_octets : (laws : SessionLaws) (cfg : Cfg) (fine : IsConfigured cfg) (w : World) → SessionsJoined cfg Dte w
    → IsTapOfOctets cfg w
is_of_octets laws cfg fine w h =
    let whole = known_sessions AllSessionsSendWhole laws.whole fine h.reach in
    tap_octets whole.given (λ octets there. held_of_given laws fine (λ down ps quiet reads all. octets_in down all) h octets (whole.handed_down octets there))
    w.tap h.links.sent h.tap whole.whole
    (known_sessions NoSessionSendsFrmr laws.no_frmr fine h.reach)

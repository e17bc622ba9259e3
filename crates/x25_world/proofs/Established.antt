-- Set-up: SABM and UA are taken, by which both ends come up, and both put RESTART, as two stations from a link just set up.
use Rattle.x25_world.proofs.Names.{◌≡◌, ℕ, List, [], ◌∷◌, ◌++◌, map, true, None, Ok, refl, sym, ap, ap₂, ◌∙◌, subst, arith, Role, Dte, Dce, PlainFrame, sabm}
use Rattle.x25_world.proofs.Names.{ua, spelling_of, Waiting, Cfg, settings_from, longest_packet, link_up, entries_noted, Station, new_station, Step, follows}
use Rattle.x25_world.proofs.Names.{receives, IsKept, World, mirrored, entered, tapped, after_step, delivered, after, Event, Receives, happens, refusal_of}
use Rattle.x25_world.proofs.Names.{AreAccepted, connected, established, link_of, both_put, links_by, Laws, is_up, pumped, LinkStep}
use Rattle.x25_layer.specs.Layer.{at_rest}
use Rattle.x25_link.specs.{Link.{put_step}, Station.{with_nothing, fresh}, declared.phase.Phase.TheVariants.{Down}, laws.SetUp.{Is}}
use Rattle.x25_peer.proofs.sessions.LinkSteps.{handed_up}
use Rattle.x25_world.specs.laws.SessionWindow.{restart_of}

-- ---- an end that comes up

-- the link's step as RESTART is put
abbrev restarted : Cfg → Role → LinkStep
restarted cfg end = put_step (link_of cfg end) (restart_of end) fresh

-- behind these frames RESTART is sent
record ComesUpAt (cfg : Cfg) (end : Role) (sent : List PlainFrame) (step : Step) : Type 0 where
  pub link : step.near.link ≡ (restarted cfg end).side.near
  pub out : step.out ≡ sent ++ (restarted cfg end).side.out
  pub entries : step.entries ≡ link_up ∷ []
  pub up : is_up step.near.link.phase ≡ true

comes_up : (laws : Laws) (cfg : Cfg) (end : Role) (s : Station) {k : LinkStep} {sent : List PlainFrame} → Is fresh sent None true k
    → ComesUpAt cfg end sent (follows (settings_from end cfg) s k)
comes_up laws cfg end s {k} is =
    let c = link_of cfg end in
    let u = laws.up (settings_from end cfg) s k is.up is.near in
    record {
      link = u.link.link ∙ ap (λ s. (put_step c (restart_of end) s).side.near) is.near;
      out = u.link.out ∙ ap₂ (λ fs s. fs ++ (put_step c (restart_of end) s).side.out) is.out is.near;
      entries = u.entries ∙ ap₂ (λ d b. entries_noted (record { down = d; up = b })) is.down is.up;
      up = ap (λ s. is_up s.phase) u.link.link ∙ handed_up laws.put_tells c (restart_of end ∷ []) k.side (ap (λ s. is_up s.phase) is.near);
    }

-- ---- the DTE has asked

abbrev sabm_octets : List ℕ
sabm_octets = spelling_of Dte (sabm true)

abbrev ua_octets : List ℕ
ua_octets = spelling_of Dce (ua true)

abbrev waiting : Station
waiting = record { link = with_nothing Waiting 0; layer = at_rest; turn = 0 }

abbrev asked : World
asked = record { near = waiting; far = new_station; out = sabm_octets ∷ []; back = []; tap = record { from = Dte; octets = sabm_octets } ∷ []; transcript = [] }

connected_is : (cfg : Cfg) → connected cfg ≡ asked
unfolding pumped
connected_is cfg = refl

-- no transcript tells of it
pub connected_tells : (cfg : Cfg) → (connected cfg).transcript ≡ []
connected_tells cfg = ap (λ w. w.transcript) (connected_is cfg)

-- its tap is what is on the line
pub connected_taps : (cfg : Cfg) → (connected cfg).tap ≡ tapped Dte (connected cfg).out
connected_taps cfg = ap (λ w. w.tap) (connected_is cfg) ∙ sym (ap (λ w. tapped Dte w.out) (connected_is cfg))

pub kept_new : IsKept new_station
kept_new = record { few = omega arith; rests = λ off. refl }

abbrev comes_to : Role → Event
comes_to end = record { at = end; act = Receives }

-- ---- SABM comes to the DCE

abbrev dce_step : Cfg → Step
dce_step cfg = receives (settings_from Dce cfg) new_station sabm_octets

abbrev at_dce : Cfg → World
at_dce cfg = mirrored (after_step (settings_from Dce cfg) (mirrored asked) [] (dce_step cfg))

-- ---- UA comes to the DTE

abbrev dte_step : Cfg → Step
dte_step cfg = receives (settings_from Dte cfg) waiting ua_octets

abbrev at_dte : Cfg → List (List ℕ) → World
at_dte cfg back = after_step (settings_from Dte cfg) (at_dce cfg) back (dte_step cfg)

-- ---- a link just set up

-- both ends are Up, and have told of LinkUp alone, with two stations behind them that put RESTART
pub record IsJustSetUp (cfg : Cfg) (w : World) : Type 0 where
  pub near : is_up w.near.link.phase ≡ true
  pub far : is_up w.far.link.phase ≡ true
  pub near_link : (links_by cfg both_put).near.station ≡ w.near.link
  pub far_link : (links_by cfg both_put).far.station ≡ w.far.link
  pub out : (links_by cfg both_put).out ≡ w.out
  pub back : (links_by cfg both_put).back ≡ w.back
  pub told : w.transcript ≡ record { at = Dce; entry = link_up } ∷ record { at = Dte; entry = link_up } ∷ []

module _ (laws : Laws) (cfg : Cfg) where
  dce_up : ComesUpAt cfg Dce (ua true ∷ []) (dce_step cfg)
  dce_up =
      let reads = laws.reads Dte longest_packet (sabm true) sabm_octets (record { in_range = tt; carries = refl; within = tt; spelling = refl }) in
      comes_up laws cfg Dce new_station (laws.take_sets_up (link_of cfg Dce) sabm_octets (with_nothing Down 0) tt true reads)

  dte_up : ComesUpAt cfg Dte [] (dte_step cfg)
  dte_up =
      let reads = laws.reads Dce longest_packet (ua true) ua_octets (record { in_range = tt; carries = refl; within = tt; spelling = refl }) in
      comes_up laws cfg Dte waiting (laws.take_waits (link_of cfg Dte) ua_octets (with_nothing Waiting 0) refl (Ok (ua true)) (sym reads))

  -- behind UA is what goes with the RESTART of the DCE
  back_is : (at_dce cfg).back ≡ ua_octets ∷ map (spelling_of Dce) (restarted cfg Dce).side.out
  back_is = ap (λ fs. map (spelling_of Dce) fs) dce_up.out

  -- so neither is refused
  pub set_up_accepted : AreAccepted cfg (comes_to Dce ∷ comes_to Dte ∷ []) (connected cfg)
  set_up_accepted =
      let ua_comes : refusal_of (happens cfg (at_dce cfg) (comes_to Dte)) ≡ None =
      ap (λ l. refusal_of (delivered (settings_from Dte cfg) (at_dce cfg) l)) back_is in
      subst (λ w. AreAccepted cfg (comes_to Dce ∷ comes_to Dte ∷ []) w) (sym (connected_is cfg)) (refl, (ua_comes, tt))

  -- set up by a connect and two deliveries, both links are just set up
  pub just_set_up : IsJustSetUp cfg (established cfg)
  just_set_up = rw (ap (λ x. after (after x (happens cfg x (comes_to Dce))) (happens cfg (after x (happens cfg x (comes_to Dce))) (comes_to Dte)))
      (connected_is cfg) ∙ ap (λ l. after (at_dce cfg) (delivered (settings_from Dte cfg) (at_dce cfg) l)) back_is) (record {
        near = dte_up.up;
        far = dce_up.up;
        near_link = sym dte_up.link;
        far_link = sym dce_up.link;
        out = ap (λ fs. [] ++ map (spelling_of Dte) fs) (sym dte_up.out);
        back = refl;
        told = ap₂ (λ a b. ([] ++ entered Dce a) ++ entered Dte b) dce_up.entries dte_up.entries;
      })

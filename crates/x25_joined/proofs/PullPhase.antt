-- What is pulled leaves the phase of the link as it is.
use Rattle.std.proofs.Common.{◌≡◌, ◌∙◌, ◌==◌, ℕ, zero, suc, Bool, true, false, if◌then◌else◌, List, [], ◌∷◌, refl}
use Rattle.x25_frame.specs.Frame.{rnr, rr}
use Rattle.x25_layer.specs.{Calls.{PullsAll, layer_outcome}, laws.Rounds.{Answered, Went, Refuses, calls}}
use Rattle.x25_link.specs.{Link.{alone, puts}, Station.{LinkSettings, Side, finished, is_busy, may_send, owes_ready, pumped_once, ready}}
use Rattle.x25_link.specs.Station.{send_next, sends, wanted, with_near}
unfoldable use Rattle.x25_link.specs.Station.{pumped}
use Rattle.x25_packet.specs.{Packet.{PlainPacket}, Spelling.{spelling_of}}
use Rattle.x25_station.specs.{Command.{Requests}, Config.{Settings, layer_settings, link_settings}, Entry.{StationEntry}}
use Rattle.x25_station.specs.{Station.{Station, all_put, put_on, view_of}}
use Rattle.x25_station.specs.Step.{commands, did, entries_of_outcome}
use Rattle.x25_station.specs.laws.TimerLaw as timer

once_phase : (k : ℕ) (t : Side) → (pumped_once k t).near.phase ≡ t.near.phase
once_phase k t = by (may_send k t.near)
  where
    by : (b : Bool) → (let u : Side = if b then send_next t else t in u.near.phase) ≡ t.near.phase
    by true = refl
    by false = refl

pumped_phase : (n k : ℕ) (t : Side) → (pumped n k t).near.phase ≡ t.near.phase
unfolding pumped
pumped_phase zero k t = refl
pumped_phase (suc n) k t = once_phase k (pumped n k t) ∙ pumped_phase n k t

ready_phase : (t : Side) → (ready false false t).near.phase ≡ t.near.phase
ready_phase t = by (is_busy t.near)
  where
    by : (b : Bool) → (let u : Side = if b then sends (rnr false (wanted t.near) false) (with_near t (record t.near { said_busy = true }))
        else sends (rr false (wanted t.near) false) (with_near t (record t.near { said_busy = false })) in u.near.phase) ≡ t.near.phase
    by true = refl
    by false = refl

finished_phase : (t : Side) → (finished t).near.phase ≡ t.near.phase
finished_phase t = by (owes_ready t.near)
  where
    by : (b : Bool) → (let u : Side = if b then ready false false t else t in u.near.phase) ≡ t.near.phase
    by true = ready_phase t
    by false = refl

put_phase : (c : LinkSettings) (packets : List PlainPacket) (t : Side) → (all_put c packets t).near.phase ≡ t.near.phase
put_phase c [] t = refl
put_phase c (packet ∷ packets) t =
    let u : Side = (puts (spelling_of packet) (alone t.near)).side in
    put_phase c packets (put_on c packet t) ∙ finished_phase (pumped 7 c.window u) ∙ pumped_phase 7 c.window u

pub pull_phase : (c : Settings) (s : Station) → (timer.after s (commands c s (Requests PullsAll))).link.phase ≡ s.link.phase
pull_phase c s = by (calls (view_of (link_settings c) s.turn s.link) (layer_settings c) s.layer PullsAll)
  where
    entries : List StationEntry
    entries = entries_of_outcome (layer_settings c) s.layer PullsAll
        (layer_outcome (layer_settings c) ((view_of (link_settings c) s.turn s.link).waits [] == 256) s.layer PullsAll)

    by : (a : Answered) → (timer.after s (did c (alone s.link) entries a)).link.phase ≡ s.link.phase
    by (Went put) = put_phase (link_settings c) put.put (alone s.link)
    by (Refuses e) = refl

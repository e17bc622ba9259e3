-- The entries of a step have those of the layer's own transcript.
use Rattle.x25_station.proofs.Names.{◌≡◌, ℕ, zero, suc, List, [], ◌∷◌, ◌++◌, Option, Some, None, refl, ap, Calls, LayerRequest, Asks, Dials, Restarts, PullsAll}
use Rattle.x25_station.proofs.Names.{free_channel, LayerSettings, Layer, LayerNotice, on_channel, restarted, restart_done, layer_fault, Told, name_of}
use Rattle.x25_station.proofs.Names.{entry_of_dial, PlainBeside, nothing, fields, diagnosed, StationEntry, station_told, entries_beside, entries_behind}
use Rattle.x25_station.proofs.Names.{station_asked, of_channels, layer_entries, layer_notices}
use Rattle.x25_layer.specs.laws.{Transcript.{Entry}, TwoLayers.{entries_told, entries_asked}}

beside_entries : (b : PlainBeside) (o : Option ℕ) → layer_entries (entries_beside b o) ≡ []
beside_entries nothing o = refl
beside_entries (fields facilities user) None = refl
beside_entries (fields facilities user) (Some h) = refl
beside_entries (diagnosed diagnostic) o = refl

beside_notices : (b : PlainBeside) (o : Option ℕ) → layer_notices (entries_beside b o) ≡ []
beside_notices nothing o = refl
beside_notices (fields facilities user) None = refl
beside_notices (fields facilities user) (Some h) = refl
beside_notices (diagnosed diagnostic) o = refl

-- what a packet confirms or brings beside is no entry of the layer's own
pub behind_entries : (l : Layer) (h count : ℕ) (b : PlainBeside) (o : Option ℕ) → layer_entries (entries_behind l h count (entries_beside b o)) ≡ []
behind_entries l h zero b o = beside_entries b o
behind_entries l h (suc count) b o = refl

pub behind_notices : (l : Layer) (h count : ℕ) (b : PlainBeside) (o : Option ℕ) → layer_notices (entries_behind l h count (entries_beside b o)) ≡ []
behind_notices l h zero b o = beside_notices b o
behind_notices l h (suc count) b o = refl

pub told_entries : (l : Layer) (notices : List LayerNotice) (others : List StationEntry) → layer_entries others ≡ []
    → layer_entries (station_told l notices ++ others) ≡ entries_told l notices
told_entries l [] others none = none
told_entries l (on_channel h notice ∷ notices) others none =
    ap (λ (es : List Entry). record { channel = h; name = name_of l h; said = Told notice } ∷ es) (told_entries l notices others none)
told_entries l (restarted cause diagnostic ∷ notices) others none = told_entries l notices others none
told_entries l (restart_done ∷ notices) others none = told_entries l notices others none
told_entries l (layer_fault diagnostic ∷ notices) others none = told_entries l notices others none

pub told_notices : (l : Layer) (notices : List LayerNotice) (others : List StationEntry) → layer_notices others ≡ []
    → layer_notices (station_told l notices ++ others) ≡ notices
told_notices l [] others none = none
told_notices l (on_channel h notice ∷ notices) others none = ap (λ (ns : List LayerNotice). on_channel h notice ∷ ns) (told_notices l notices others none)
told_notices l (restarted cause diagnostic ∷ notices) others none =
    ap (λ (ns : List LayerNotice). restarted cause diagnostic ∷ ns) (told_notices l notices others none)
told_notices l (restart_done ∷ notices) others none = ap (λ (ns : List LayerNotice). restart_done ∷ ns) (told_notices l notices others none)
told_notices l (layer_fault diagnostic ∷ notices) others none = ap (λ (ns : List LayerNotice). layer_fault diagnostic ∷ ns) (told_notices l notices others none)

pub asked_entries : (c : LayerSettings) (l next : Layer) (request : LayerRequest) → layer_entries (station_asked c l next request)
    ≡ entries_asked c l next request
asked_entries c l next (Asks h request) = refl
asked_entries c l next (Dials called calling user proposal) = by (free_channel c.circuit.role l.circuits c.channels)
  where
    by : (o : Option ℕ) → layer_entries (of_channels (entry_of_dial next o (Calls called calling user proposal)))
        ≡ entry_of_dial next o (Calls called calling user proposal)
    by None = refl
    by (Some h) = refl
asked_entries c l next (Restarts cause diagnostic) = refl
asked_entries c l next PullsAll = refl

pub asked_notices : (c : LayerSettings) (l next : Layer) (request : LayerRequest) → layer_notices (station_asked c l next request) ≡ []
asked_notices c l next (Asks h request) = refl
asked_notices c l next (Dials called calling user proposal) = by (free_channel c.circuit.role l.circuits c.channels)
  where
    by : (o : Option ℕ) → layer_notices (of_channels (entry_of_dial next o (Calls called calling user proposal))) ≡ []
    by None = refl
    by (Some h) = refl
asked_notices c l next (Restarts cause diagnostic) = refl
asked_notices c l next PullsAll = refl

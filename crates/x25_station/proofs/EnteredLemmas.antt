-- The entries of an accepted command are those of the definition.
use Rattle.x25_station.proofs.Names.{◌≡◌, ℕ, List, [], ◌∷◌, ◌==◌, Some, Ok, true, sym, subst, ◌∙◌, Proposal, in_brief, LayerRequest, Asks, Dials, Restarts}
use Rattle.x25_station.proofs.Names.{PullsAll, layer_outcome, free_channel, LayerSettings, Layer, is_channel, FitsLayer, LinkView, Putting, Answered, Went}
use Rattle.x25_station.proofs.Names.{Asked, name_of, shown, ShownLink, may_ask, Settings, link_settings, layer_settings, StationEntry, of_channel}
use Rattle.x25_station.proofs.Names.{restart_asked, Station, view_of, waiting_after, requests, entries_of_outcome, IsBrief, FitsParts, Enters, LayerGives}
use Rattle.x25_station.proofs.AskLemmas.{Layers, answered_by, requested, layer_gives, enters_did}
use Rattle.x25_station.proofs.AskedEntryLemmas.{asked_entry, dialled_entry, restart_entry, pull_entry, asked_channel, free_is_channel}
use Rattle.x25_station.proofs.{BriefLemmas.{asked_brief, dialled_brief}, MayLemmas.{where_holds}, Names.{Manner}}
use Rattle.x25_circuit.specs.Calling as circuit
use Rattle.x25_layer.specs.declared.layer.Layer as layer_code
use Rattle.x25_station.specs.declared.step.Step as code_step

abbrev entries_by : Settings → Station → LayerRequest → List StationEntry
entries_by c s request = entries_of_outcome (layer_settings c) s.layer request
    (layer_outcome (layer_settings c) (waiting_after (link_settings c) s.link [] == 256) s.layer request)

-- the layer after a call that went
went_fits : {T : Type 0} (u : T) (c : Settings) (z : layer_code.Layer) (a : Answered) (p : Putting) → LayerGives (layer_settings c) z (Ok u) a → a ≡ Went p
    → FitsLayer (layer_settings c) z p.layer
went_fits u c z a p gives is = subst (λ (x : Answered). LayerGives (layer_settings c) z (Ok u) x) is gives

pub asked_enters : {T : Type 0} {manner : Manner} {turn : ℕ} (u : T) (c : Settings) (l : ShownLink) (y z : layer_code.Layer) (s : Station) (r : code_step.Step) (h : ℕ)
    (request : circuit.Request) → FitsParts c manner l y turn s → Layers l y turn z (Ok u) (Asks h request)
    → ((k : Layer) → FitsLayer (layer_settings c) z k → is_channel c.channels h ≡ true → IsBrief request → r.entries.items
    ≡ of_channel (record { channel = h; name = name_of k h; said = Asked (shown (k.circuits h) request) }) ∷ [])
    → Enters {T = Unit} r (Ok tt) (requests c s (Asks h request))
asked_enters u c l y z s r h request fits layers entered =
    let view : LinkView = view_of (link_settings c) s.turn s.link in
    let lc : LayerSettings = layer_settings c in
    where_holds (Enters {T = Unit} r (Ok tt)) (may_ask c.wide (Asks h request)) (requested c s (Asks h request)) (λ e. tt)
    (enters_did c s.link r (entries_by c s (Asks h request)) (answered_by c s (Asks h request)) (λ p is.
    entered p.layer (went_fits u c z _ p (layer_gives (Ok u) c l y z s (Asks h request) fits layers) is) (asked_channel view lc s.layer h request p is)
    (asked_brief view lc fits.layer.message s.layer h request p is) ∙ sym (asked_entry view lc s.layer h request p is)))

pub dialled_enters : {manner : Manner} {turn : ℕ} (c : Settings) (l : ShownLink) (y z : layer_code.Layer) (s : Station) (r : code_step.Step) (h : ℕ)
    (called calling user : List ℕ) (proposal : Proposal) → FitsParts c manner l y turn s → Layers l y turn z (Ok h) (Dials called calling user proposal)
    → free_channel c.role s.layer.circuits c.channels ≡ Some h
    → ((k : Layer) → FitsLayer (layer_settings c) z k → is_channel c.channels h ≡ true → IsBrief (circuit.Calls called calling user proposal) →
    r.entries.items ≡ of_channel
    (record { channel = h; name = name_of k h; said = Asked (circuit.Calls called calling user (in_brief proposal.params)) }) ∷ [])
    → Enters {T = Unit} r (Ok tt) (requests c s (Dials called calling user proposal))
dialled_enters c l y z s r h called calling user proposal fits layers free entered =
    let view : LinkView = view_of (link_settings c) s.turn s.link in
    let lc : LayerSettings = layer_settings c in
    let request : LayerRequest = Dials called calling user proposal in
    enters_did c s.link r (entries_by c s request) (answered_by c s request) (λ p is.
    entered p.layer (went_fits h c z _ p (layer_gives (Ok h) c l y z s request fits layers) is) (free_is_channel c.role s.layer.circuits c.channels h free)
    (dialled_brief view lc fits.layer.message s.layer called calling user proposal p is)
    ∙ sym (dialled_entry view lc s.layer h called calling user proposal p is free))

pub restart_enters : (c : Settings) (s : Station) (cause diagnostic : ℕ) (r : code_step.Step) → r.entries.items
    ≡ restart_asked cause diagnostic ∷ [] → Enters {T = Unit} r (Ok tt) (requests c s (Restarts cause diagnostic))
restart_enters c s cause diagnostic r entered =
    enters_did c s.link r (entries_by c s (Restarts cause diagnostic)) (answered_by c s (Restarts cause diagnostic))
    (λ p is. entered ∙ sym (restart_entry (view_of (link_settings c) s.turn s.link) (layer_settings c) s.layer cause diagnostic p is))

pub pull_enters : (c : Settings) (s : Station) (r : code_step.Step) → r.entries.items ≡ [] → Enters {T = Unit} r (Ok tt) (requests c s PullsAll)
pull_enters c s r entered =
    enters_did c s.link r (entries_by c s PullsAll) (answered_by c s PullsAll)
    (λ p is. entered ∙ sym (pull_entry (view_of (link_settings c) s.turn s.link) (layer_settings c) s.layer p is))

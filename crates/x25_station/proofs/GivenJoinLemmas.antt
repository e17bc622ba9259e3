-- A step with something given is a step of its link joined with moves of its layer.
use Rattle.x25_station.proofs.Names.{◌≡◌, ℕ, List, ◌∷◌, ◌++◌, Option, Some, None, Bool, true, false, ◌==◌, if◌then◌else◌, option_to_list, refl, sym, ap, subst}
use Rattle.x25_station.proofs.Names.{◌∙◌, append-nil, LayerOutcome, Accepted, Declined, layer_outcome, LayerSettings, Layer, LayerNotice, moves_all, pulls_of}
use Rattle.x25_station.proofs.Names.{AreChannels, CallsRun, LinkView, Putting, begin, rounds, backlog, Went, Refuses, went, calls, TwoLayers, Move, requested}
use Rattle.x25_station.proofs.Names.{moves_in, moves, alone, waits, LinkSettings, is_up, PutTells, PlainPacket, link_settings, layer_settings, station_asked}
use Rattle.x25_station.proofs.Names.{is_taken, view_given, not_taken, Step, Did, Refused, entries_of_outcome, with_given, gave, StationError, AreTaken}
use Rattle.x25_layer.specs.laws.{Transcript.{Entry}, TwoLayers.{Requests}}
use Rattle.x25_station.proofs.{EntryLemmas.{asked_entries, asked_notices}, GivingLemmas.{rounds_given}, KeepLemmas.{below}}
use Rattle.x25_station.{proofs.PutLemmas.{accepts}, proofs.RequestLemmas.{has_room}, specs.laws.GivenLaw.{GivenIsJoined, IsGivenJoined}}
use Rattle.x25_layer.specs.declared.error.LayerError.TheVariants as layer_error
use Rattle.x25_station.specs.declared.error.StationError.TheVariants as error

-- ---- as the request of two layers

did_is : (b : Bool) (a step : Step) → (if b then Did a else Refused not_taken) ≡ Did step → a ≡ step
did_is true a step e = cc
did_is false a step e = absurd (cc)

refused_did : (e : StationError) (step : Step) → Refused e ≡ Did step → ⊥
refused_did e step is = cc

pub given_joined : CallsRun → PutTells → GivenIsJoined
given_joined runs tells c g link w turn request step up few is = at (is_up link.phase) refl (layer_outcome lc full w.near.layer request) refl is
  where
    lc : LayerSettings
    lc = layer_settings c

    lk : LinkSettings
    lk = link_settings c

    full : Bool
    full = waits link.outgoing == 256

    view : LinkView
    view = view_given lk g turn link

    taken : Bool
    taken = is_taken c g request

    move : Move
    move = Requests full request

    Goal : Step → Type 0
    Goal k = (pulled : List ℕ) × AreChannels c.channels pulled × IsGivenJoined c g w (moves_all lc w (move ∷ pulls_of pulled)) (alone link) w.back k

    owed : (next : Layer) (put : Option PlainPacket) → is_up link.phase ≡ true → layer_outcome lc full w.near.layer request ≡ Accepted next put
        → AreTaken lk g (option_to_list put) (alone link)
    owed next None up_link found = tt
    owed next (Some p) up_link found = (accepts link up_link (below (waits link.outgoing) few (has_room lc full w.near.layer request next p found)), tt)

    went_with : (next : Layer) (put : Option PlainPacket) → is_up link.phase ≡ true → layer_outcome lc full w.near.layer request ≡ Accepted next put
        → Goal (with_given c g (alone link) (rounds view lc (begin next put)) (station_asked lc w.near.layer next request))
    went_with next put up_link found =
        let s : Putting = rounds view lc (begin next put) in
        let all : moves lc w move ≡ requested lc w request (Accepted next put) =
        ap (λ (o : Bool). moves_in lc w o move) up ∙ ap (λ (o : LayerOutcome). requested lc w request o) found in
        let called : calls view lc w.near.layer request ≡ Went s =
        ap (λ (b : Bool). if b then went view lc (layer_outcome lc full w.near.layer request) else Refuses layer_error.NotUp) up_link
        ∙ ap (λ (o : LayerOutcome). went view lc o) found in
        let r = runs view lc w request s up called in
        let run = r.2 in (
          r.0,
          r.1,
          record {
            packets = s.put;
            link = record {
              accepted = rounds_given tells turn lk g link lc (begin next put) up_link
                  (owed next put up_link found);
              link = refl;
              out = refl;
            };
            layer = record {
              layer = run.layer;
              given = run.given;
              out = run.out;
              entries = run.entries ∙ (ap (λ (x : TwoLayers). x.near.entries) all
                  ∙ ap (λ (es : List Entry). w.near.entries ++ es) (sym (asked_entries lc w.near.layer next request)));
              told = run.told ∙ (ap (λ (x : TwoLayers). x.near.told) all ∙ sym (append-nil w.near.told)
                  ∙ ap (λ (ns : List LayerNotice). w.near.told ++ ns) (sym (asked_notices lc w.near.layer next request)));
              up = run.up;
              far = run.far;
            };
            back = run.back;
          },
        )

    at : (b : Bool) → is_up link.phase ≡ b → (o : LayerOutcome) → layer_outcome lc full w.near.layer request ≡ o
        → gave c g taken (alone link) (entries_of_outcome lc w.near.layer request o) (if b then went view lc o else Refuses layer_error.NotUp) ≡ Did step
        → Goal step
    at false up_link o found answer = absurd (refused_did (error.Layer layer_error.NotUp) step answer)
    at true up_link (Declined e) found answer = absurd (refused_did (error.Layer e) step answer)
    at true up_link (Accepted next put) found answer =
        subst (λ (k : Step). Goal k) (did_is taken (with_given c g (alone link) (rounds view lc (begin next put)) (station_asked lc w.near.layer next request))
        step answer) (went_with next put up_link found)

-- A whole input.
use Rattle.x25_pipe.proofs.Names.{◌≡◌, ℕ, Bool, false, List, [], Option, ap, refl, sym, subst, ◌∙◌, lines_of, AppendsPrefix, Settings, FitsStation, sayings_text, has_refusal}
use Rattle.x25_io.proofs.{LooseLemmas.{lines_asked}, TakerLemmas.{between}, ToldLemmas.{none_told}}
use Rattle.x25_io.specs.{HeldLine.{HoldsLine}, Loose.{asked_lines, asked_text}, code.LinesLead.{LinesLead}}
use Rattle.x25_io.specs.declared.held_line.HeldLine.{HeldLine}
use Rattle.x25_pipe.proofs.{Names.{turns, Stands, Pipe}, SayingLemmas.{parts_text, parts_refused}, StandLemmas.{StandsAt, BeginsAt, begins_before}}
use Rattle.x25_pipe.specs.{Pipe.{standing_turn, piped, text_of}, code.Stream.{Answers}}
use Rattle.x25_station.specs.Station.{new_station}

-- a station that never was up
pub stands_first : (c : Settings) (written : Option (List ℕ)) (p : Pipe) → FitsStation c p.station new_station → p.end ≡ c.role → p.output ≡ [] → p.is_refused
    ≡ false
    → Stands c written written p new_station [] false
stands_first c written p fits role empty status = record { fits = fits; role = role; tells = none_told written p.output empty; status = status }

module _ (c : Settings) (old now : Option (List ℕ)) (p : Pipe) (input : List ℕ) where
  -- the first mark failed
  pub mark_failed : BeginsAt c old now [] (standing_turn c new_station) → AppendsPrefix old now (text_of c input)
  unfolding piped
  mark_failed b = begins_before c old now [] false (turns c (lines_of input)) (standing_turn c new_station) b

  -- the input is still to come
  leads_input : (q : Pipe) → StandsAt c old now q [] false (standing_turn c new_station) → Answers c q old now (lines_of input) input
  unfolding piped
  leads_input q h = record {
    at = new_station;
    text = sayings_text c.role (standing_turn c new_station).sayings;
    status = has_refusal (standing_turn c new_station).sayings;
    stands = h;
    next = refl;
    same = parts_text c.role [] (standing_turn c new_station).sayings (turns c (lines_of input) new_station).sayings;
    any = parts_refused false (standing_turn c new_station).sayings (turns c (lines_of input) new_station).sayings;
  }

-- with `loose` what its lines ask is to come
pub input_begins : (c : Settings) (old now : Option (List ℕ)) (p q : Pipe) (loose is_loose : Bool) (input : List ℕ) (held first : HeldLine)
    → held ≡ first → is_loose ≡ loose → q ≡ p → HoldsLine [] first → StandsAt c old now p [] false (standing_turn c new_station)
    → LinesLead (λ lines. (is_loose ≡ loose) × Answers c q old now (asked_lines loose lines) (asked_text loose input)) held input
input_begins c old now p q loose is_loose input held first is_held is_so is_pipe empty h =
    let text = asked_text loose input in
    between (λ (lines : List (List ℕ)). (is_loose ≡ loose) × Answers c q old now (asked_lines loose lines) text) held input
    (subst (HoldsLine []) (sym is_held) empty) (
      is_so,
      subst (λ (lines : List (List ℕ)). Answers c q old now lines text) (lines_asked loose input)
          (leads_input c old now p text q (subst (λ u. StandsAt c old now u [] false (standing_turn c new_station)) (sym is_pipe) h)),
    )

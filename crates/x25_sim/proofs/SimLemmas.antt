-- A whole script.
use Rattle.x25_sim.proofs.Names.{◌≡◌, ◌∙◌, ℕ, Bool, false, List, [], Option, ap, refl, sym, subst, lines_of, AppendsPrefix, Cfg, Shown, sayings_text}
use Rattle.x25_io.proofs.{LooseLemmas.{lines_asked}, TakerLemmas.{between}}
use Rattle.x25_io.specs.{HeldLine.{HoldsLine}, Loose.{asked_lines, asked_text}, code.LinesLead.{LinesLead}, declared.held_line.HeldLine.{HeldLine}}
use Rattle.x25_sim.proofs.{Names.{has_refusal, turns, opened, simulated, Stage}, StandLemmas.{StandsAt, BeginsAt, begins_before, parts_text, parts_refused}}
use Rattle.x25_sim.specs.{Stage.{sim_text}, code.Stream.{Simulates}, declared.simulator.Simulator.{Simulator}}

module _ (cfg : Cfg) (down : Bool) (shown asked : Shown) (same : asked ≡ shown) (old now : Option (List ℕ)) (stage : Stage) (script : List ℕ) where
  -- what comes before the script failed
  pub opening_failed : BeginsAt old now [] (opened cfg down asked) → AppendsPrefix old now (sim_text cfg down shown script)
  unfolding simulated
  opening_failed b =
      subst (λ a. AppendsPrefix old now (sim_text cfg down a script)) same
      (begins_before cfg asked old now stage [] false (turns cfg asked (lines_of script)) (opened cfg down asked) b)

  -- the script is still to come
  leads_script : (s : Stage) → StandsAt cfg shown old now s [] false (opened cfg down shown)
      → Simulates (record { cfg = cfg; down = down; shown = shown }) s old now (lines_of script) script
  unfolding simulated
  leads_script s h = record {
    at = (opened cfg down shown).next;
    text = sayings_text (opened cfg down shown).sayings;
    status = has_refusal (opened cfg down shown).sayings;
    stands = h;
    next = refl;
    same = parts_text [] (opened cfg down shown).sayings (turns cfg shown (lines_of script) (opened cfg down shown).next).sayings;
    any = parts_refused false (opened cfg down shown).sayings (turns cfg shown (lines_of script) (opened cfg down shown).next).sayings;
  }

-- with `loose` what its lines ask is to come
pub script_begins : {P : Type 0} (cfg : Cfg) (down : Bool) (shown asked : Shown) (same : asked ≡ shown) (old now : Option (List ℕ)) (stage : Stage)
    (loose : Bool) (script : List ℕ)
    (is_loose : Bool) (s t : Simulator P) (held first : HeldLine) → held ≡ first → is_loose ≡ loose → s ≡ t → t.stage ≡ stage → HoldsLine [] first
    → StandsAt cfg asked old now stage [] false (opened cfg down asked)
    → LinesLead (λ lines. (is_loose ≡ loose)
    × Simulates (record { cfg = cfg; down = down; shown = shown }) s.stage old now (asked_lines loose lines) (asked_text loose script)) held script
script_begins {P} cfg down shown asked same old now stage loose script is_loose s t held first is_held is_so is_simulator is_stage empty h =
    let text = asked_text loose script in
    between (λ (lines : List (List ℕ)). (is_loose ≡ loose)
    × Simulates (record { cfg = cfg; down = down; shown = shown }) s.stage old now (asked_lines loose lines) text) held script
    (subst (HoldsLine []) (sym is_held) empty) (
      is_so,
      subst (λ (lines : List (List ℕ)). Simulates (record { cfg = cfg; down = down; shown = shown }) s.stage old now lines text) (lines_asked loose script)
          (leads_script cfg down shown asked same old now stage text s.stage
          (subst (λ u. StandsAt cfg shown old now u [] false (opened cfg down shown)) (sym (ap (λ (s : Simulator P). s.stage) is_simulator ∙ is_stage))
          (subst (λ a. StandsAt cfg a old now stage [] false (opened cfg down a)) same h))),
    )

-- A line is read by its first word.
use Rattle.x25_script.proofs.Names.{ℕ, ◌≡◌, ◌∙◌, List, ◌∷◌, ◌++◌, Option, Some, None, refl, ap, sym, none-some, Dte, Dce, Given, PlainCommand, call, accept}
use Rattle.x25_script.proofs.Names.{clear, send, interrupt, reset, ready, not_ready, restart, pull, connect, disconnect, probe, relink, with_given, PlainLine}
use Rattle.x25_script.proofs.Names.{command, t1, deliver, lose, damage, drain, heal, Spells, SpellsPart, SpellsCommand, given_text, parts_of, part_in}
use Rattle.x25_script.proofs.Names.{with_fields, command_in, line_in, IsNotBehind}
use Rattle.std.proofs.Common.{◌≢◌, codes}
use Rattle.x25_script.proofs.{AgainLemmas.{command_again}, GrammarLemmas.{bare_found, command_found, keyword_text, line_found, part_found, verb_text}}
use Rattle.x25_script.specs.Reading.{Keyword, End, Verb, Call, part_fields, bare_command_in, after}

-- ---- a word with a blank behind it

pub line_behind : (word : Keyword) (text fields : List ℕ) → text ≡ keyword_text word ++ (32 ∷ fields) → line_in text ≡ after word fields
unfolding line_in parts_of
line_behind (End Dte) text fields e = ap line_in e
line_behind word text fields e = ap line_in e

pub heals : (text : List ℕ) → text ≡ codes "heal" → line_in text ≡ Some heal
unfolding line_in parts_of
heals text e = ap line_in e

pub command_behind : (word : Verb) (text fields : List ℕ) → text ≡ verb_text word ++ (32 ∷ fields) → command_in text ≡ with_fields word fields
unfolding command_in parts_of
command_behind Call text fields e = ap command_in e
command_behind word text fields e = ap command_in e

pub part_behind : (word : Verb) (text fields : List ℕ) → text ≡ verb_text word ++ (32 ∷ fields) → part_in text ≡ part_fields word fields
unfolding part_in parts_of
part_behind Call text fields e = ap part_in e
part_behind word text fields e = ap part_in e

-- ---- none of the words

none_or_some : {A : Type 0} (read : Option A) → ((v : A) → read ≡ Some v → ⊥) → read ≡ None
none_or_some None h = refl
none_or_some (Some v) h = absurd (h v refl)

pub no_part : (text : List ℕ) → IsNotBehind (codes "call ") text → IsNotBehind (codes "accept ") text → IsNotBehind (codes "clear ") text → part_in text ≡ None
no_part text no_call no_accept no_clear = none_or_some (part_in text) (λ v e. go v (part_found text v e))
  where
    go : (v : PlainCommand) → SpellsPart v text → ⊥
    go (call called calling user params) s = no_call _ s.3.2
    go (accept channel params) s = no_accept _ s.2
    go (clear channel given) s = no_clear _ s.2
    go (with_given facilities user d asked) s = s
    go (send channel q d user) s = s
    go (interrupt channel user) s = s
    go (reset channel given) s = s
    go (ready channel) s = s
    go (not_ready channel) s = s
    go (restart given) s = s
    go pull s = s
    go connect s = s
    go disconnect s = s
    go probe s = s
    go relink s = s

pub no_line : (text : List ℕ) → IsNotBehind (codes "deliver ") text → IsNotBehind (codes "dte ") text → IsNotBehind (codes "dce ") text
    → IsNotBehind (codes "drain ") text
    → IsNotBehind (codes "t1 ") text → IsNotBehind (codes "lose ") text → IsNotBehind (codes "damage ") text → text ≢ codes "heal" → line_in text ≡ None
no_line text no_deliver no_dte no_dce no_drain no_t1 no_lose no_damage no_heal = none_or_some (line_in text) (λ v e. go v (line_found text v e))
  where
    go : (v : PlainLine) → Spells v text → ⊥
    go (command Dte asked) s = no_dte s.0 s.1
    go (command Dce asked) s = no_dce s.0 s.1
    go (t1 end) s = no_t1 _ s
    go (deliver from) s = no_deliver _ s
    go (lose from place) s = no_lose _ s.1
    go (damage from place octets) s = no_damage _ s.1.2
    go (drain count) s = no_drain _ s.2
    go heal s = no_heal s

-- what is left are the commands without fields
pub bare_alone : (text : List ℕ) → IsNotBehind (codes "send ") text → IsNotBehind (codes "accept ") text → IsNotBehind (codes "call ") text
    → IsNotBehind (codes "int ") text
    → IsNotBehind (codes "reset ") text → IsNotBehind (codes "clear ") text → IsNotBehind (codes "ready ") text → IsNotBehind (codes "notready ") text
    → IsNotBehind (codes "restart ") text → IsNotBehind (codes "with ") text
    → command_in text ≡ bare_command_in text
bare_alone text no_send no_accept no_call no_int no_reset no_clear no_ready no_not_ready no_restart no_with = go (command_in text) refl
  where
    restarts : (cause diagnostic : Option ℕ)
        → (let given : Given = record { cause = cause; diagnostic = diagnostic } in text ≡ codes "restart" ++ given_text given)
        → command_in text ≡ Some (restart (record { cause = cause; diagnostic = diagnostic })) → command_in text ≡ bare_command_in text
    restarts None None s e = e ∙ sym (ap bare_command_in s)
    restarts (Some cause) diagnostic s e = absurd (no_restart _ s)
    restarts None (Some diagnostic) s e = absurd (no_restart _ s)

    spelled : (v : PlainCommand) → SpellsCommand v text → command_in text ≡ Some v → command_in text ≡ bare_command_in text
    spelled (call called calling user params) s e = absurd (no_call _ s.3.2)
    spelled (accept channel params) s e = absurd (no_accept _ s.2)
    spelled (clear channel given) s e = absurd (no_clear _ s.2)
    spelled (with_given facilities user d asked) s e = absurd (no_with _ s.2.2.2)
    spelled (send channel q d user) s e = absurd (no_send _ s.1.2)
    spelled (interrupt channel user) s e = absurd (no_int _ s.1.2)
    spelled (reset channel given) s e = absurd (no_reset _ s.2)
    spelled (ready channel) s e = absurd (no_ready _ s.1)
    spelled (not_ready channel) s e = absurd (no_not_ready _ s.1)
    spelled (restart given) s e = restarts given.cause given.diagnostic s.1 e
    spelled pull s e = e ∙ sym (ap bare_command_in s)
    spelled connect s e = e ∙ sym (ap bare_command_in s)
    spelled disconnect s e = e ∙ sym (ap bare_command_in s)
    spelled probe s e = e ∙ sym (ap bare_command_in s)
    spelled relink s e = e ∙ sym (ap bare_command_in s)

    bare : (read : Option PlainCommand) → bare_command_in text ≡ read → command_in text ≡ None → command_in text ≡ bare_command_in text
    bare None is e = e ∙ sym is
    bare (Some v) is e = absurd (none-some v (sym e ∙ command_again v text (bare_found text v is)))

    go : (read : Option PlainCommand) → command_in text ≡ read → command_in text ≡ bare_command_in text
    go None e = bare (bare_command_in text) refl e
    go (Some v) e = spelled v (command_found text v e) e

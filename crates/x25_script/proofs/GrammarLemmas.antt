-- A line is read exactly where it is spelled.
use Rattle.x25_script.proofs.Names.{ℕ, Bool, true, false, ◌==◌, ◌≤◌, ◌≡◌, ◌∙◌, List, ◌∷◌, ◌++◌, length, take, drop, Option, Some, None, refl, ap, sym, subst}
use Rattle.x25_script.proofs.Names.{arith, cond, option_map, codes, decimal, bytes_eq, none-some, Role, Given, PlainCommand, call, accept, clear, send}
use Rattle.x25_script.proofs.Names.{interrupt, reset, ready, not_ready, restart, pull, connect, disconnect, probe, relink, with_given, PlainLine, heal}
use Rattle.x25_script.proofs.Names.{end_text, direction_text, q_text, address_text, given_text, SpellsPart, SpellsCommand, Spells, parts_of, number_in}
use Rattle.std.proofs.{Common.{inl, inr, append-nil}, lemmas.Bool.{eqb-false, ltb-true}, lemmas.Option.{same_Some, cond_some}}
use Rattle.std.specs.Prelude.{nat_lt}
use Rattle.x25_circuit.specs.declared.params.Params.{Params}
use Rattle.x25_script.proofs.{Names.{octets_in, small_number_in, labelled_in, part_in, d_in, with_fields, command_in, line_in}, NumberLemmas.{number_found}}
use Rattle.x25_script.proofs.PartLemmas.{with_d, chosen, bind_found, map_found, begun, IsText, word_step, parts_joined, end_found, from_found, q_found}
use Rattle.x25_script.{proofs.PartLemmas.{address_found, octets_found}, specs.Reading.{bare_line_in, line_of}}
use Rattle.x25_script.specs.Reading.{Keyword, End, T1, Deliver, Lose, Damage, Drain, Verb, Call, Accept, Clear, Send, Interrupt, Reset, Restart, Ready}
use Rattle.x25_script.specs.Reading.{NotReady, With, end_in, from_in, q_in, address_in, verb_in, keyword_in, params_in, with_params_of, with_params_in}
use Rattle.x25_script.specs.Reading.{nothing_given, one_given, given_of, given_in, with_given_of, with_given_in, giving_on, restart_in, call_in, accept_in}
use Rattle.x25_script.specs.Reading.{send_in, interrupt_in, on_channel, part_fields, with_in, bare_command_in, command_of, lose_in, damage_in, drain_in, after}
use Rattle.x25_script.specs.Reading.Spelling.{IsNumber, AreParams, params_text, IsGiven, d_text}

-- ---- what is read is spelled so

-- the word of a command
abbrev pub verb_text : Verb → List ℕ
verb_text Call = codes "call"
verb_text Accept = codes "accept"
verb_text Clear = codes "clear"
verb_text Send = codes "send"
verb_text Interrupt = codes "int"
verb_text Reset = codes "reset"
verb_text Restart = codes "restart"
verb_text Ready = codes "ready"
verb_text NotReady = codes "notready"
verb_text With = codes "with"

-- the first word of a line
abbrev pub keyword_text : Keyword → List ℕ
keyword_text (End end) = end_text end
keyword_text T1 = codes "t1"
keyword_text Deliver = codes "deliver"
keyword_text Lose = codes "lose"
keyword_text Damage = codes "damage"
keyword_text Drain = codes "drain"

pub verb_found : (text : List ℕ) (verb : Verb) → verb_in text ≡ Some verb → text ≡ verb_text verb
verb_found text verb e =
    word_step (IsText verb_text) text (codes "call") Call verb _ refl e (λ e.
    word_step (IsText verb_text) text (codes "accept") Accept verb _ refl e (λ e.
    word_step (IsText verb_text) text (codes "clear") Clear verb _ refl e (λ e.
    word_step (IsText verb_text) text (codes "send") Send verb _ refl e (λ e.
    word_step (IsText verb_text) text (codes "int") Interrupt verb _ refl e (λ e.
    word_step (IsText verb_text) text (codes "reset") Reset verb _ refl e (λ e.
    word_step (IsText verb_text) text (codes "restart") Restart verb _ refl e (λ e.
    word_step (IsText verb_text) text (codes "ready") Ready verb _ refl e (λ e.
    word_step (IsText verb_text) text (codes "notready") NotReady verb _ refl e (λ e.
    word_step (IsText verb_text) text (codes "with") With verb _ refl e (λ e. absurd (none-some _ e)))))))))))

end_keyword : (text : List ℕ) (read : Option Role) (keyword : Keyword) → ((end : Role) → read ≡ Some end → text ≡ end_text end)
    → option_map (λ end. End end) read ≡ Some keyword → text ≡ keyword_text keyword
end_keyword text (Some end) keyword found e = found end refl ∙ ap keyword_text (same_Some _ _ e)
end_keyword text None keyword found e = absurd (none-some _ e)

pub keyword_found : (text : List ℕ) (keyword : Keyword) → keyword_in text ≡ Some keyword → text ≡ keyword_text keyword
keyword_found text keyword e =
    word_step (IsText keyword_text) text (codes "t1") T1 keyword _ refl e (λ e.
    word_step (IsText keyword_text) text (codes "deliver") Deliver keyword _ refl e (λ e.
    word_step (IsText keyword_text) text (codes "lose") Lose keyword _ refl e (λ e.
    word_step (IsText keyword_text) text (codes "damage") Damage keyword _ refl e (λ e.
    word_step (IsText keyword_text) text (codes "drain") Drain keyword _ refl e (λ e.
    end_keyword text (end_in text) keyword (end_found text) e)))))

-- a number that is read
pub number_spelled : (text : List ℕ) (n : ℕ) → number_in text ≡ Some n → IsNumber n × (text ≡ decimal n)
number_spelled text n e = let found = number_found text n e in let small = found.0 in (omega (arith, small), found.1)

-- two fields
fields_two : (text first rest : List ℕ) (parts : List ℕ × List ℕ) → parts_of text ≡ Some parts → parts.0 ≡ first → parts.1 ≡ rest → text ≡ first ++ (32 ∷ rest)
fields_two text first rest parts read one two = parts_joined text parts read ∙ ap (λ t. t ++ (32 ∷ parts.1)) one ∙ ap (λ t. first ++ (32 ∷ t)) two

-- a number of 8 bits that is read
small_spelled : (text : List ℕ) (n : ℕ) → small_number_in text ≡ Some n → (n ≤ 255) × (text ≡ decimal n)
unfolding small_number_in
small_spelled text n e =
    let read = bind_found (number_in text) _ n e in
    let test = cond_some (nat_lt read.0 256) read.0 n read.2 in
    let small = ltb-true read.0 256 test.0 in
    subst (λ m. (m ≤ 255) × (text ≡ decimal m)) test.1 (omega (arith, small), (number_spelled text read.0 read.1).1)

params_found : (text : List ℕ) (p : Params) → params_in text ≡ Some p → AreParams (Some p) × (32 ∷ text ≡ params_text (Some p))
unfolding params_in
params_found text p e =
    let first = bind_found (parts_of text) _ p e in
    let second = bind_found (parts_of first.0.1) _ p first.2 in
    let third = bind_found (parts_of second.0.1) _ p second.2 in
    let size_called = bind_found (small_number_in first.0.0) _ p third.2 in
    let size_calling = bind_found (small_number_in second.0.0) _ p size_called.2 in
    let win_called = bind_found (small_number_in third.0.0) _ p size_calling.2 in
    let win_calling = bind_found (small_number_in third.0.1) _ p win_called.2 in
    let one = small_spelled first.0.0 size_called.0 size_called.1 in
    let two = small_spelled second.0.0 size_calling.0 size_calling.1 in
    let three = small_spelled third.0.0 win_called.0 win_called.1 in
    let four = small_spelled third.0.1 win_calling.0 win_calling.1 in
    let windows = fields_two second.0.1 (decimal win_called.0) _ third.0 third.1 three.1 four.1 in
    let rest = fields_two first.0.1 (decimal size_calling.0) _ second.0 second.1 two.1 windows in
    let all = fields_two text (decimal size_called.0) _ first.0 first.1 one.1 rest in
    subst (λ (q : Params). AreParams (Some q) × (32 ∷ text ≡ params_text (Some q))) (same_Some _ _ win_calling.2)
    ((one.0, two.0, three.0, four.0), ap (λ t. 32 ∷ t) all)

with_params_parts : (text : List ℕ) (parts : Option (List ℕ × List ℕ)) (last : List ℕ × Option Params) → parts_of text ≡ parts
    → with_params_of text parts ≡ Some last → AreParams last.1 × (text ≡ last.0 ++ params_text last.1)
with_params_parts text None last same e =
    subst (λ (l : List ℕ × Option Params). AreParams l.1 × (text ≡ l.0 ++ params_text l.1)) (same_Some _ _ e) (tt, sym (append-nil text))
with_params_parts text (Some parts) last same e =
    let params = bind_found (params_in parts.1) _ last e in
    let found = params_found parts.1 params.0 params.1 in
    subst (λ (l : List ℕ × Option Params). AreParams l.1 × (text ≡ l.0 ++ params_text l.1)) (same_Some _ _ params.2)
    (found.0, parts_joined text parts same ∙ ap (λ t. parts.0 ++ t) found.1)

with_params_found : (text : List ℕ) (last : List ℕ × Option Params) → with_params_in text ≡ Some last → AreParams last.1 × (text ≡ last.0 ++ params_text last.1)
unfolding with_params_in
with_params_found text last e = with_params_parts text (parts_of text) last refl e

-- a number of 8 bits behind its label
labelled_found : (label text : List ℕ) (n : ℕ) → labelled_in label text ≡ Some n → (n ≤ 255) × (text ≡ label ++ decimal n)
labelled_found label text n e = elim (chosen (bytes_eq label (take (length label) text)) _ _ _ e) [
  | inl p ↦
      let small = small_spelled (drop (length label) text) n p.1 in
      (small.0, begun text label p.0 ∙ ap (λ t. label ++ t) small.1)
  | inr p ↦ absurd (none-some _ p.1)
]

abbrev IsGivenText : List ℕ → Given → Type 0
IsGivenText text given = IsGiven given × (32 ∷ text ≡ given_text given)

one_found : (text : List ℕ) (cause diagnostic : Option ℕ) (given : Given) → labelled_in (codes "cause=") text ≡ cause → labelled_in (codes "diag=") text
    ≡ diagnostic
    → one_given cause diagnostic ≡ Some given → IsGivenText text given
one_found text (Some cause) diagnostic given c d e =
    let found = labelled_found (codes "cause=") text cause c in
    subst (λ (g : Given). IsGivenText text g) (same_Some _ _ e)
    ((found.0, tt), ap (λ t. 32 ∷ t) found.1 ∙ sym (append-nil (32 ∷ (codes "cause=" ++ decimal cause))))
one_found text None (Some diagnostic) given c d e =
    let found = labelled_found (codes "diag=") text diagnostic d in
    subst (λ (g : Given). IsGivenText text g) (same_Some _ _ e) ((tt, found.0), ap (λ t. 32 ∷ t) found.1)
one_found text None None given c d e = absurd (none-some _ e)

given_parts : (text : List ℕ) (parts : Option (List ℕ × List ℕ)) (given : Given) → parts_of text ≡ parts → given_of text parts ≡ Some given
    → IsGivenText text given
given_parts text None given same e = one_found text (labelled_in (codes "cause=") text) (labelled_in (codes "diag=") text) given refl refl e
given_parts text (Some parts) given same e =
    let cause = bind_found (labelled_in (codes "cause=") parts.0) _ given e in
    let diagnostic = bind_found (labelled_in (codes "diag=") parts.1) _ given cause.2 in
    let one = labelled_found (codes "cause=") parts.0 cause.0 cause.1 in
    let two = labelled_found (codes "diag=") parts.1 diagnostic.0 diagnostic.1 in
    let all = fields_two text (codes "cause=" ++ decimal cause.0) _ parts same one.1 two.1 in
    subst (λ (g : Given). IsGivenText text g) (same_Some _ _ diagnostic.2) ((one.0, two.0), ap (λ t. 32 ∷ t) all)

given_found : (text : List ℕ) (given : Given) → given_in text ≡ Some given → IsGivenText text given
given_found text given e = given_parts text (parts_of text) given refl e

with_given_parts : (text : List ℕ) (parts : Option (List ℕ × List ℕ)) (last : List ℕ × Given) → parts_of text ≡ parts
    → with_given_of text parts ≡ Some last → IsGiven last.1 × (text ≡ last.0 ++ given_text last.1)
with_given_parts text None last same e =
    subst (λ (l : List ℕ × Given). IsGiven l.1 × (text ≡ l.0 ++ given_text l.1)) (same_Some _ _ e) ((tt, tt), sym (append-nil text))
with_given_parts text (Some parts) last same e =
    let given = bind_found (given_in parts.1) _ last e in
    let found = given_found parts.1 given.0 given.1 in
    subst (λ (l : List ℕ × Given). IsGiven l.1 × (text ≡ l.0 ++ given_text l.1)) (same_Some _ _ given.2)
    (found.0, parts_joined text parts same ∙ ap (λ t. parts.0 ++ t) found.1)

with_given_found : (text : List ℕ) (last : List ℕ × Given) → with_given_in text ≡ Some last → IsGiven last.1 × (text ≡ last.0 ++ given_text last.1)
with_given_found text last e = with_given_parts text (parts_of text) last refl e

call_found : (fields : List ℕ) (v : PlainCommand) → call_in fields ≡ Some v → SpellsPart v (codes "call " ++ fields)
unfolding call_in
call_found fields v e =
    let first = bind_found (parts_of fields) _ v e in
    let second = bind_found (parts_of first.0.1) _ v first.2 in
    let last = bind_found (with_params_in second.0.1) _ v second.2 in
    let called = bind_found (address_in first.0.0) _ v last.2 in
    let calling = bind_found (address_in second.0.0) _ v called.2 in
    let user = bind_found (octets_in last.0.0) _ v calling.2 in
    let behind = with_params_found second.0.1 last.0 last.1 in
    let one = address_found first.0.0 called.0 called.1 in
    let two = address_found second.0.0 calling.0 calling.1 in
    let rest = fields_two first.0.1 (address_text calling.0) _ second.0 second.1 two.1 behind.1 in
    let all = fields_two fields (address_text called.0) _ first.0 first.1 one.1 rest in
    subst (λ (w : PlainCommand). SpellsPart w (codes "call " ++ fields)) (same_Some _ _ user.2)
    (one.0, two.0, behind.0, (last.0.0, octets_found last.0.0 user.0 user.1, ap (λ t. codes "call " ++ t) all))

accept_found : (fields : List ℕ) (v : PlainCommand) → accept_in fields ≡ Some v → SpellsPart v (codes "accept " ++ fields)
unfolding accept_in
accept_found fields v e =
    let last = bind_found (with_params_in fields) _ v e in
    let channel = bind_found (number_in last.0.0) _ v last.2 in
    let one = number_spelled last.0.0 channel.0 channel.1 in
    let behind = with_params_found fields last.0 last.1 in
    let all = behind.1 ∙ ap (λ t. t ++ params_text last.0.1) one.1 in
    subst (λ (w : PlainCommand). SpellsPart w (codes "accept " ++ fields)) (same_Some _ _ channel.2)
    (one.0, behind.0, ap (λ t. codes "accept " ++ t) all)

d_joined : (text : List ℕ) → text ≡ d_text (d_in text).0 ++ (d_in text).1
d_joined text = test (bytes_eq (codes "d ") (take 2 text)) refl
  where
    test : (b : Bool) → bytes_eq (codes "d ") (take 2 text) ≡ b
        → text ≡ d_text (cond b (with_d true (drop 2 text)) (with_d false text)).0 ++ (cond b (with_d true (drop 2 text)) (with_d false text)).1
    test true is = begun text (codes "d ") is
    test false is = refl

send_found : (fields : List ℕ) (v : PlainCommand) → send_in fields ≡ Some v → SpellsCommand v (codes "send " ++ fields)
unfolding send_in
send_found fields v e =
    let first = bind_found (parts_of fields) _ v e in
    let second = bind_found (parts_of first.0.1) _ v first.2 in
    let channel = bind_found (number_in first.0.0) _ v second.2 in
    let q = bind_found (q_in second.0.0) _ v channel.2 in
    let user = bind_found (octets_in (d_in second.0.1).1) _ v q.2 in
    let one = number_spelled first.0.0 channel.0 channel.1 in
    let two = q_found second.0.0 q.0 q.1 in
    let rest = fields_two first.0.1 (q_text q.0) _ second.0 second.1 two (d_joined second.0.1) in
    let all = fields_two fields (decimal channel.0) _ first.0 first.1 one.1 rest in
    subst (λ (w : PlainCommand). SpellsCommand w (codes "send " ++ fields)) (same_Some _ _ user.2)
    (one.0, ((d_in second.0.1).1, octets_found (d_in second.0.1).1 user.0 user.1, ap (λ t. codes "send " ++ t) all))

interrupt_found : (fields : List ℕ) (v : PlainCommand) → interrupt_in fields ≡ Some v → SpellsCommand v (codes "int " ++ fields)
unfolding interrupt_in
interrupt_found fields v e =
    let parts = bind_found (parts_of fields) _ v e in
    let channel = bind_found (number_in parts.0.0) _ v parts.2 in
    let user = bind_found (octets_in parts.0.1) _ v channel.2 in
    let one = number_spelled parts.0.0 channel.0 channel.1 in
    let all = fields_two fields (decimal channel.0) parts.0.1 parts.0 parts.1 one.1 refl in
    subst (λ (w : PlainCommand). SpellsCommand w (codes "int " ++ fields)) (same_Some _ _ user.2)
    (one.0, (parts.0.1, octets_found parts.0.1 user.0 user.1, ap (λ t. codes "int " ++ t) all))

channel_found : (asked : ℕ → PlainCommand) (word fields : List ℕ) (v : PlainCommand) → on_channel asked fields ≡ Some v
    → ((n : ℕ) → IsNumber n → SpellsCommand (asked n) (word ++ decimal n)) → SpellsCommand v (word ++ fields)
channel_found asked word fields v e spell =
    let channel = bind_found (number_in fields) _ v e in
    let one = number_spelled fields channel.0 channel.1 in
    subst (λ (w : PlainCommand). SpellsCommand w (word ++ fields)) (same_Some _ _ channel.2)
    (subst (λ (t : List ℕ). SpellsCommand (asked channel.0) (word ++ t)) (sym one.1) (spell channel.0 one.0))

giving_found : (Spelled : PlainCommand → List ℕ → Type 0) (asked : ℕ → Given → PlainCommand) (word fields : List ℕ) (v : PlainCommand) → giving_on asked fields
    ≡ Some v
    → ((n : ℕ) (given : Given) → IsNumber n → IsGiven given → Spelled (asked n given) (word ++ (decimal n ++ given_text given))) → Spelled v (word ++ fields)
giving_found Spelled asked word fields v e spell =
    let last = bind_found (with_given_in fields) _ v e in
    let channel = bind_found (number_in last.0.0) _ v last.2 in
    let one = number_spelled last.0.0 channel.0 channel.1 in
    let behind = with_given_found fields last.0 last.1 in
    let all = behind.1 ∙ ap (λ t. t ++ given_text last.0.1) one.1 in
    subst (λ (w : PlainCommand). Spelled w (word ++ fields)) (same_Some _ _ channel.2)
    (subst (λ (t : List ℕ). Spelled (asked channel.0 last.0.1) (word ++ t)) (sym all) (spell channel.0 last.0.1 one.0 behind.0))

restart_found : (fields : List ℕ) (v : PlainCommand) → restart_in fields ≡ Some v → SpellsCommand v (codes "restart " ++ fields)
restart_found fields v e =
    let given = bind_found (given_in fields) _ v e in
    let found = given_found fields given.0 given.1 in
    subst (λ (w : PlainCommand). SpellsCommand w (codes "restart " ++ fields)) (same_Some _ _ given.2)
    (found.0, ap (λ t. codes "restart" ++ t) found.1)

-- what is asked of a call

clear_found : (fields : List ℕ) (v : PlainCommand) → giving_on clear fields ≡ Some v → SpellsPart v (codes "clear " ++ fields)
clear_found fields v e = giving_found SpellsPart clear (codes "clear ") fields v e (λ n given h k. (h, k, refl))

part_fields_found : (verb : Verb) (fields : List ℕ) (v : PlainCommand) → part_fields verb fields ≡ Some v → SpellsPart v (verb_text verb ++ (32 ∷ fields))
part_fields_found Call fields v e = call_found fields v e
part_fields_found Accept fields v e = accept_found fields v e
part_fields_found Clear fields v e = clear_found fields v e
part_fields_found verb fields v e = absurd (none-some _ e)

pub part_found : (text : List ℕ) (v : PlainCommand) → part_in text ≡ Some v → SpellsPart v text
unfolding part_in
part_found text v e =
    let parts = bind_found (parts_of text) _ v e in
    let verb = bind_found (verb_in parts.0.0) _ v parts.2 in
    let word = verb_found parts.0.0 verb.0 verb.1 in
    subst (λ (t : List ℕ). SpellsPart v t) (sym (fields_two text (verb_text verb.0) parts.0.1 parts.0 parts.1 word refl))
    (part_fields_found verb.0 parts.0.1 v verb.2)

-- with nothing beside it it is a command
part_alone : (v : PlainCommand) (text : List ℕ) → SpellsPart v text → SpellsCommand v text
part_alone (call called calling user params) text s = s
part_alone (accept channel params) text s = s
part_alone (clear channel given) text s = s
part_alone (with_given facilities user d asked) text s = absurd s
part_alone (send channel q d user) text s = absurd s
part_alone (interrupt channel user) text s = absurd s
part_alone (reset channel given) text s = absurd s
part_alone (ready channel) text s = absurd s
part_alone (not_ready channel) text s = absurd s
part_alone (restart given) text s = absurd s
part_alone pull text s = absurd s
part_alone connect text s = absurd s
part_alone disconnect text s = absurd s
part_alone probe text s = absurd s
part_alone relink text s = absurd s

with_found : (fields : List ℕ) (v : PlainCommand) → with_in fields ≡ Some v → SpellsCommand v (codes "with " ++ fields)
unfolding with_in
with_found fields v e =
    let first = bind_found (parts_of fields) _ v e in
    let second = bind_found (parts_of first.0.1) _ v first.2 in
    let facilities = bind_found (octets_in first.0.0) _ v second.2 in
    let user = bind_found (octets_in second.0.0) _ v facilities.2 in
    let asked = map_found (part_in (d_in second.0.1).1) _ v user.2 in
    let rest = fields_two first.0.1 second.0.0 _ second.0 second.1 refl (d_joined second.0.1) in
    let all = fields_two fields first.0.0 _ first.0 first.1 refl rest in
    subst (λ (w : PlainCommand). SpellsCommand w (codes "with " ++ fields)) asked.2 (
      first.0.0,
      octets_found first.0.0 facilities.0 facilities.1,
      (
        second.0.0,
        octets_found second.0.0 user.0 user.1,
        ((d_in second.0.1).1, part_found (d_in second.0.1).1 asked.0 asked.1, ap (λ t. codes "with " ++ t) all),
      ),
    )

with_fields_found : (verb : Verb) (fields : List ℕ) (v : PlainCommand) → with_fields verb fields ≡ Some v → SpellsCommand v (verb_text verb ++ (32 ∷ fields))
unfolding with_fields
with_fields_found Call fields v e = part_alone v _ (call_found fields v e)
with_fields_found Accept fields v e = part_alone v _ (accept_found fields v e)
with_fields_found Clear fields v e = part_alone v _ (clear_found fields v e)
with_fields_found Send fields v e = send_found fields v e
with_fields_found Interrupt fields v e = interrupt_found fields v e
with_fields_found Reset fields v e = giving_found SpellsCommand reset (codes "reset ") fields v e (λ n given h k. (h, k, refl))
with_fields_found Restart fields v e = restart_found fields v e
with_fields_found Ready fields v e = channel_found ready (codes "ready ") fields v e (λ n h. (h, refl))
with_fields_found NotReady fields v e = channel_found not_ready (codes "notready ") fields v e (λ n h. (h, refl))
with_fields_found With fields v e = with_found fields v e

pub bare_found : (text : List ℕ) (v : PlainCommand) → bare_command_in text ≡ Some v → SpellsCommand v text
bare_found text v e =
    word_step SpellsCommand text (codes "restart") (restart nothing_given) v _ ((tt, tt), refl) e (λ e.
    word_step SpellsCommand text (codes "pull") pull v _ refl e (λ e.
    word_step SpellsCommand text (codes "connect") connect v _ refl e (λ e.
    word_step SpellsCommand text (codes "disconnect") disconnect v _ refl e (λ e.
    word_step SpellsCommand text (codes "probe") probe v _ refl e (λ e.
    word_step SpellsCommand text (codes "relink") relink v _ refl e (λ e. absurd (none-some _ e)))))))

command_parts : (text : List ℕ) (parts : Option (List ℕ × List ℕ)) (v : PlainCommand) → parts_of text ≡ parts → command_of text parts ≡ Some v
    → SpellsCommand v text
command_parts text None v same e = bare_found text v e
command_parts text (Some parts) v same e =
    let verb = bind_found (verb_in parts.0) _ v e in
    let word = verb_found parts.0 verb.0 verb.1 in
    subst (λ (t : List ℕ). SpellsCommand v t) (sym (fields_two text (verb_text verb.0) parts.1 parts same word refl))
    (with_fields_found verb.0 parts.1 v verb.2)

pub command_found : (text : List ℕ) (v : PlainCommand) → command_in text ≡ Some v → SpellsCommand v text
unfolding command_in
command_found text v e = command_parts text (parts_of text) v refl e

lose_found : (fields : List ℕ) (v : PlainLine) → lose_in fields ≡ Some v → Spells v (codes "lose " ++ fields)
unfolding lose_in
lose_found fields v e =
    let parts = bind_found (parts_of fields) _ v e in
    let from = bind_found (from_in parts.0.0) _ v parts.2 in
    let place = bind_found (number_in parts.0.1) _ v from.2 in
    let two = number_spelled parts.0.1 place.0 place.1 in
    let all = fields_two fields (direction_text from.0) (decimal place.0) parts.0 parts.1 (from_found parts.0.0 from.0 from.1) two.1 in
    subst (λ (w : PlainLine). Spells w (codes "lose " ++ fields)) (same_Some _ _ place.2) (two.0, ap (λ t. codes "lose " ++ t) all)

damage_found : (fields : List ℕ) (v : PlainLine) → damage_in fields ≡ Some v → Spells v (codes "damage " ++ fields)
unfolding damage_in
damage_found fields v e =
    let first = bind_found (parts_of fields) _ v e in
    let second = bind_found (parts_of first.0.1) _ v first.2 in
    let from = bind_found (from_in first.0.0) _ v second.2 in
    let place = bind_found (number_in second.0.0) _ v from.2 in
    let octets = bind_found (octets_in second.0.1) _ v place.2 in
    let two = number_spelled second.0.0 place.0 place.1 in
    let rest = fields_two first.0.1 (decimal place.0) second.0.1 second.0 second.1 two.1 refl in
    let all = fields_two fields (direction_text from.0) _ first.0 first.1 (from_found first.0.0 from.0 from.1) rest in
    subst (λ (w : PlainLine). Spells w (codes "damage " ++ fields)) (same_Some _ _ octets.2)
    (two.0, (second.0.1, octets_found second.0.1 octets.0 octets.1, ap (λ t. codes "damage " ++ t) all))

drain_found : (fields : List ℕ) (v : PlainLine) → drain_in fields ≡ Some v → Spells v (codes "drain " ++ fields)
unfolding drain_in
drain_found fields v e =
    let count = bind_found (number_in fields) _ v e in
    let one = number_spelled fields count.0 count.1 in
    elim (chosen (count.0 == 0) _ _ _ count.2) [
      | inl p ↦ absurd (none-some _ p.1)
      | inr p ↦
          let other = eqb-false count.0 0 p.0 in
          let some : 1 ≤ count.0 = omega (arith, other) in
          subst (λ (w : PlainLine). Spells w (codes "drain " ++ fields)) (same_Some _ _ p.1) (one.0, some, ap (λ t. codes "drain " ++ t) one.1)
    ]

after_found : (keyword : Keyword) (fields : List ℕ) (v : PlainLine) → after keyword fields ≡ Some v → Spells v (keyword_text keyword ++ (32 ∷ fields))
after_found (End end) fields v e =
    let asked = bind_found (command_in fields) _ v e in
    subst (λ (w : PlainLine). Spells w (end_text end ++ (32 ∷ fields))) (same_Some _ _ asked.2) (fields, refl, command_found fields asked.0 asked.1)
after_found T1 fields v e =
    let end = bind_found (end_in fields) _ v e in
    subst (λ (w : PlainLine). Spells w (codes "t1 " ++ fields)) (same_Some _ _ end.2) (ap (λ t. codes "t1 " ++ t) (end_found fields end.0 end.1))
after_found Deliver fields v e =
    let from = bind_found (from_in fields) _ v e in
    subst (λ (w : PlainLine). Spells w (codes "deliver " ++ fields)) (same_Some _ _ from.2) (ap (λ t. codes "deliver " ++ t) (from_found fields from.0 from.1))
after_found Lose fields v e = lose_found fields v e
after_found Damage fields v e = damage_found fields v e
after_found Drain fields v e = drain_found fields v e

bare_line_found : (text : List ℕ) (v : PlainLine) → bare_line_in text ≡ Some v → Spells v text
bare_line_found text v e = word_step Spells text (codes "heal") heal v _ refl e (λ e. absurd (none-some _ e))

line_parts : (text : List ℕ) (parts : Option (List ℕ × List ℕ)) (v : PlainLine) → parts_of text ≡ parts → line_of text parts ≡ Some v → Spells v text
line_parts text None v same e = bare_line_found text v e
line_parts text (Some parts) v same e =
    let word = bind_found (keyword_in parts.0) _ v e in
    subst (λ (t : List ℕ). Spells v t)
    (sym (fields_two text (keyword_text word.0) parts.1 parts same (keyword_found parts.0 word.0 word.1) refl))
    (after_found word.0 parts.1 v word.2)

pub line_found : (text : List ℕ) (v : PlainLine) → line_in text ≡ Some v → Spells v text
unfolding line_in
line_found text v e = line_parts text (parts_of text) v refl e

-- A line that is spelled is read.
use Rattle.x25_script.proofs.Names.{ℕ, ◌≤◌, ◌≡◌, ◌∙◌, Bool, true, false, List, [], ◌∷◌, ◌++◌, Option, Some, None, refl, ap, sym, subst, arith, cond, option_map}
use Rattle.x25_script.proofs.Names.{codes, decimal, list_all, Role, Dte, Dce, Given, PlainCommand, call, accept, clear, send, interrupt, reset, ready}
use Rattle.x25_script.proofs.Names.{not_ready, restart, pull, connect, disconnect, probe, relink, with_given, PlainLine, command, t1, deliver, lose, damage}
use Rattle.x25_script.proofs.Names.{drain, heal, end_text, direction_text, q_text, address_text, Writes, given_text, SpellsPart, SpellsCommand, Spells}
use Rattle.x25_script.proofs.Names.{parts_of, number_in, small_number_in, labelled_in, octets_in, d_in, IsNotBehind, part_in, with_fields, command_in, line_in}
use Rattle.std.{proofs.Common.{append-nil}, proofs.lemmas.Bool.{lt-ltb, ne_eqb}, proofs.lemmas.Fmt.{digits_decimal}, specs.Prelude.{option_and_then}}
use Rattle.x25_circuit.specs.declared.params.Params.{Params}
use Rattle.x25_script.proofs.{NumberLemmas.{own, number_again}, PartLemmas.{from_again, q_again, address_again, octets_again}}
use Rattle.x25_script.proofs.PartLemmas.{with_d, d_none, parts_again, whole_again, no_blank, octets_no_blank, digits_no_blank, address_no_blank, end_again}
use Rattle.x25_script.specs.Reading.{params_in, with_params_of, with_params_in, one_given, given_of, given_in, with_given_of, with_given_in, giving_on, call_in}
use Rattle.x25_script.specs.Reading.{accept_in, send_in, interrupt_in, on_channel, with_in, lose_in, damage_in, drain_in}
use Rattle.x25_script.specs.Reading.Spelling.{IsAddress, IsNumber, AreParams, params_text, IsSmall, IsGiven, d_text}

-- a step after one that reads
bind_again : {A B : Type 0} (read : Option A) (f : A → Option B) (x : A) (y : B) → read ≡ Some x → f x ≡ Some y → option_and_then f read ≡ Some y
bind_again read f x y e h = ap (option_and_then f) e ∙ h

number_read : (n : ℕ) → IsNumber n → number_in (decimal n) ≡ Some n
number_read n h = number_again n (omega arith)

decimal_no_blank : (n : ℕ) → IsNumber n → list_all no_blank (decimal n) ≡ true
decimal_no_blank n h = digits_no_blank (decimal n) (digits_decimal own n (omega arith))

q_no_blank : (q : Bool) → list_all no_blank (q_text q) ≡ true
q_no_blank false = refl
q_no_blank true = refl

from_no_blank : (from : Role) → list_all no_blank (direction_text from) ≡ true
from_no_blank Dte = refl
from_no_blank Dce = refl

small_read : (n : ℕ) → n ≤ 255 → small_number_in (decimal n) ≡ Some n
unfolding small_number_in
small_read n h = bind_again _ _ n n (number_read n (omega (arith, h))) (ap (λ b. cond b (Some n) None) (lt-ltb n 256 (omega (arith, h))))

small_no_blank : (n : ℕ) → n ≤ 255 → list_all no_blank (decimal n) ≡ true
small_no_blank n h = decimal_no_blank n (omega (arith, h))

params_again : (p : Params) → AreParams (Some p)
    → params_in (decimal p.size_called ++ (32 ∷ (decimal p.size_calling ++ (32 ∷ (decimal p.win_called ++ (32 ∷ decimal p.win_calling)))))) ≡ Some p
unfolding params_in
params_again p (called, calling, called_window, calling_window) =
    bind_again _ _ (decimal p.size_called, _) _ (parts_again (decimal p.size_called) _ (small_no_blank p.size_called called))
    (bind_again _ _ (decimal p.size_calling, _) _ (parts_again (decimal p.size_calling) _ (small_no_blank p.size_calling calling))
    (bind_again _ _ (decimal p.win_called, decimal p.win_calling) _ (parts_again (decimal p.win_called) _ (small_no_blank p.win_called called_window))
    (bind_again _ _ p.size_called _ (small_read p.size_called called)
    (bind_again _ _ p.size_calling _ (small_read p.size_calling calling)
    (bind_again _ _ p.win_called _ (small_read p.win_called called_window)
    (bind_again _ _ p.win_calling _ (small_read p.win_calling calling_window) refl))))))

with_params_again : (field : List ℕ) (params : Option Params) → list_all no_blank field ≡ true → AreParams params
    → with_params_in (field ++ params_text params) ≡ Some (field, params)
unfolding with_params_in
with_params_again field None h k = ap with_params_in (append-nil field) ∙ ap (with_params_of field) (whole_again field h)
with_params_again field (Some p) h k =
    ap (with_params_of (field ++ params_text (Some p))) (parts_again field _ h) ∙ bind_again _ _ p _ (params_again p k) refl

-- ---- what is given

abbrev given : Option ℕ → Option ℕ → Given
given cause diagnostic = record { cause = cause; diagnostic = diagnostic }

cause_again : (n : ℕ) → n ≤ 255 → labelled_in (codes "cause=") (codes "cause=" ++ decimal n) ≡ Some n
cause_again n h = small_read n h

diagnostic_again : (n : ℕ) → n ≤ 255 → labelled_in (codes "diag=") (codes "diag=" ++ decimal n) ≡ Some n
diagnostic_again n h = small_read n h

no_cause : (n : ℕ) → labelled_in (codes "cause=") (codes "diag=" ++ decimal n) ≡ None
no_cause n = refl

one_cause_again : (n : ℕ) → n ≤ 255 → given_in (codes "cause=" ++ decimal n) ≡ Some (given (Some n) None)
one_cause_again n h =
    let text = codes "cause=" ++ decimal n in
    ap (given_of text) (whole_again text (small_no_blank n h)) ∙ ap (λ o. one_given o (labelled_in (codes "diag=") text)) (cause_again n h)

one_diagnostic_again : (n : ℕ) → n ≤ 255 → given_in (codes "diag=" ++ decimal n) ≡ Some (given None (Some n))
one_diagnostic_again n h =
    let text = codes "diag=" ++ decimal n in
    ap (given_of text) (whole_again text (small_no_blank n h))
    ∙ ap (λ o. one_given o (labelled_in (codes "diag=") text)) (no_cause n) ∙ ap (λ o. one_given None o) (diagnostic_again n h)

both_again : (n m : ℕ) → n ≤ 255 → m ≤ 255 → given_in ((codes "cause=" ++ decimal n) ++ (32 ∷ (codes "diag=" ++ decimal m))) ≡ Some (given (Some n) (Some m))
both_again n m h k =
    let first = codes "cause=" ++ decimal n in
    let second = codes "diag=" ++ decimal m in
    ap (given_of (first ++ (32 ∷ second))) (parts_again first second (small_no_blank n h))
    ∙ bind_again _ _ n _ (cause_again n h) (bind_again _ _ m _ (diagnostic_again m k) refl)

-- behind a first word
abbrev ReadsBehind : (List ℕ → Given → Type 0) → Type 0
ReadsBehind Reads = (rest : List ℕ) (g : Given) → given_in rest ≡ Some g → Reads (32 ∷ rest) g

-- all that may be given is read behind a blank, but nothing
given_again : (Reads : List ℕ → Given → Type 0) → ReadsBehind Reads → Reads [] (given None None) → (cause diagnostic : Option ℕ) → IsSmall cause
    → IsSmall diagnostic
    → Reads (given_text (given cause diagnostic)) (given cause diagnostic)
given_again Reads behind none None None h k = none
given_again Reads behind none (Some n) None h k =
    subst (λ (t : List ℕ). Reads t (given (Some n) None)) (sym (append-nil (32 ∷ (codes "cause=" ++ decimal n)))) (behind _ _ (one_cause_again n h))
given_again Reads behind none None (Some m) h k = behind _ _ (one_diagnostic_again m k)
given_again Reads behind none (Some n) (Some m) h k = behind _ _ (both_again n m h k)

with_given_again : (field : List ℕ) (g : Given) → list_all no_blank field ≡ true → IsGiven g → with_given_in (field ++ given_text g) ≡ Some (field, g)
with_given_again field g h k =
    given_again (λ text read. with_given_in (field ++ text) ≡ Some (field, read))
    (λ rest read e. ap (with_given_of (field ++ (32 ∷ rest))) (parts_again field rest h) ∙ bind_again _ _ read _ e refl)
    (ap with_given_in (append-nil field) ∙ ap (with_given_of field) (whole_again field h)) g.cause g.diagnostic k.0 k.1

giving_again : (asked : ℕ → Given → PlainCommand) (channel : ℕ) (g : Given) → IsNumber channel → IsGiven g → giving_on asked (decimal channel ++ given_text g)
    ≡ Some (asked channel g)
giving_again asked channel g h k =
    bind_again _ _ (decimal channel, g) _ (with_given_again (decimal channel) g (decimal_no_blank channel h) k)
    (bind_again _ _ channel _ (number_read channel h) refl)

restart_again : (g : Given) → IsGiven g → command_in (codes "restart" ++ given_text g) ≡ Some (restart g)
unfolding command_in parts_of with_fields
restart_again g k =
    given_again (λ text read. command_in (codes "restart" ++ text) ≡ Some (restart read))
    (λ rest read e. bind_again _ _ read _ e refl) refl g.cause g.diagnostic k.0 k.1

call_again : (called calling user digits : List ℕ) (params : Option Params) → IsAddress called → IsAddress calling → AreParams params → Writes digits user
    → call_in (address_text called ++ (32 ∷ (address_text calling ++ (32 ∷ (digits ++ params_text params))))) ≡ Some (call called calling user params)
unfolding call_in
call_again called calling user digits params h k l w =
    bind_again _ _ (address_text called, _) _ (parts_again (address_text called) _ (address_no_blank called h))
    (bind_again _ _ (address_text calling, digits ++ params_text params) _ (parts_again (address_text calling) _ (address_no_blank calling k))
    (bind_again _ _ (digits, params) _ (with_params_again digits params (octets_no_blank digits user w) l)
    (bind_again _ _ called _ (address_again called h)
    (bind_again _ _ calling _ (address_again calling k)
    (bind_again _ _ user _ (octets_again digits user w) refl)))))

accept_again : (channel : ℕ) (params : Option Params) → IsNumber channel → AreParams params
    → accept_in (decimal channel ++ params_text params) ≡ Some (accept channel params)
unfolding accept_in
accept_again channel params h k =
    bind_again _ _ (decimal channel, params) _ (with_params_again (decimal channel) params (decimal_no_blank channel h) k)
    (bind_again _ _ channel _ (number_read channel h) refl)

-- no octets begin with the word for D
digits_no_d : (user digits : List ℕ) → Writes digits user → IsNotBehind (codes "d ") digits
digits_no_d user digits w rest e =
    let none = octets_no_blank digits user w in
    let one = ap (list_all no_blank) e in
    absurd (cc)

d_of_digits : (d : Bool) (user digits : List ℕ) → Writes digits user → d_in (d_text d ++ digits) ≡ with_d d digits
d_of_digits true user digits w = refl
d_of_digits false user digits w = sym (d_none digits (digits_no_d user digits w))

send_again : (channel : ℕ) (q d : Bool) (user digits : List ℕ) → IsNumber channel → Writes digits user
    → send_in (decimal channel ++ (32 ∷ (q_text q ++ (32 ∷ (d_text d ++ digits))))) ≡ Some (send channel q d user)
unfolding send_in
send_again channel q d user digits h w =
    let found = d_of_digits d user digits w in
    bind_again _ _ (decimal channel, q_text q ++ (32 ∷ (d_text d ++ digits))) _ (parts_again (decimal channel) _ (decimal_no_blank channel h))
    (bind_again _ _ (q_text q, d_text d ++ digits) _ (parts_again (q_text q) _ (q_no_blank q))
    (bind_again _ _ channel _ (number_read channel h)
    (bind_again _ _ q _ (q_again q)
    (bind_again _ _ user _ (ap (λ (p : Bool × List ℕ). octets_in p.1) found ∙ octets_again digits user w)
    (ap (λ (p : Bool × List ℕ). Some (send channel q p.0 user)) found)))))

interrupt_again : (channel : ℕ) (user digits : List ℕ) → IsNumber channel → Writes digits user
    → interrupt_in (decimal channel ++ (32 ∷ digits)) ≡ Some (interrupt channel user)
unfolding interrupt_in
interrupt_again channel user digits h w =
    bind_again _ _ (decimal channel, digits) _ (parts_again (decimal channel) digits (decimal_no_blank channel h))
    (bind_again _ _ channel _ (number_read channel h)
    (bind_again _ _ user _ (octets_again digits user w) refl))

channel_again : (asked : ℕ → PlainCommand) (channel : ℕ) → IsNumber channel → on_channel asked (decimal channel) ≡ Some (asked channel)
channel_again asked channel h = bind_again _ _ channel _ (number_read channel h) refl

-- ---- what is asked of a call, with something beside it

part_again : (v : PlainCommand) (text : List ℕ) → SpellsPart v text → part_in text ≡ Some v
unfolding part_in parts_of
part_again (call called calling user params) text s = ap part_in s.3.2 ∙ call_again called calling user s.3.0 params s.0 s.1 s.2 s.3.1
part_again (accept channel params) text s = ap part_in s.2 ∙ accept_again channel params s.0 s.1
part_again (clear channel given) text s = ap part_in s.2 ∙ giving_again clear channel given s.0 s.1
part_again (with_given facilities user d asked) text s = absurd s
part_again (send channel q d user) text s = absurd s
part_again (interrupt channel user) text s = absurd s
part_again (reset channel given) text s = absurd s
part_again (ready channel) text s = absurd s
part_again (not_ready channel) text s = absurd s
part_again (restart given) text s = absurd s
part_again pull text s = absurd s
part_again connect text s = absurd s
part_again disconnect text s = absurd s
part_again probe text s = absurd s
part_again relink text s = absurd s

-- no such part begins with the word for D
no_d : (v : PlainCommand) (text : List ℕ) → SpellsPart v text → d_in text ≡ with_d false text
no_d (call called calling user params) text s = ap d_in s.3.2 ∙ ap (with_d false) (sym s.3.2)
no_d (accept channel params) text s = ap d_in s.2 ∙ ap (with_d false) (sym s.2)
no_d (clear channel given) text s = ap d_in s.2 ∙ ap (with_d false) (sym s.2)
no_d (with_given facilities user d asked) text s = absurd s
no_d (send channel q d user) text s = absurd s
no_d (interrupt channel user) text s = absurd s
no_d (reset channel given) text s = absurd s
no_d (ready channel) text s = absurd s
no_d (not_ready channel) text s = absurd s
no_d (restart given) text s = absurd s
no_d pull text s = absurd s
no_d connect text s = absurd s
no_d disconnect text s = absurd s
no_d probe text s = absurd s
no_d relink text s = absurd s

d_again : (d : Bool) (v : PlainCommand) (rest : List ℕ) → SpellsPart v rest → d_in (d_text d ++ rest) ≡ with_d d rest
d_again true v rest s = refl
d_again false v rest s = no_d v rest s

with_again : (facilities user : List ℕ) (d : Bool) (asked : PlainCommand) (field digits rest : List ℕ) → Writes field facilities → Writes digits user
    → SpellsPart asked rest
    → with_in (field ++ (32 ∷ (digits ++ (32 ∷ (d_text d ++ rest))))) ≡ Some (with_given facilities user d asked)
unfolding with_in
with_again facilities user d asked field digits rest f u s =
    let found = d_again d asked rest s in
    bind_again _ _ (field, digits ++ (32 ∷ (d_text d ++ rest))) _ (parts_again field _ (octets_no_blank field facilities f))
    (bind_again _ _ (digits, d_text d ++ rest) _ (parts_again digits _ (octets_no_blank digits user u))
    (bind_again _ _ facilities _ (octets_again field facilities f)
    (bind_again _ _ user _ (octets_again digits user u)
    (ap (λ (p : Bool × List ℕ). option_map (with_given facilities user p.0) (part_in p.1)) found
    ∙ ap (option_map (with_given facilities user d)) (part_again asked rest s)))))

pub command_again : (v : PlainCommand) (text : List ℕ) → SpellsCommand v text → command_in text ≡ Some v
unfolding command_in parts_of with_fields
command_again (call called calling user params) text s = ap command_in s.3.2 ∙ call_again called calling user s.3.0 params s.0 s.1 s.2 s.3.1
command_again (accept channel params) text s = ap command_in s.2 ∙ accept_again channel params s.0 s.1
command_again (clear channel given) text s = ap command_in s.2 ∙ giving_again clear channel given s.0 s.1
command_again (with_given facilities user d asked) text s = ap command_in s.2.2.2 ∙ with_again facilities user d asked s.0 s.2.0 s.2.2.0 s.1 s.2.1 s.2.2.1
command_again (send channel q d user) text s = ap command_in s.1.2 ∙ send_again channel q d user s.1.0 s.0 s.1.1
command_again (interrupt channel user) text s = ap command_in s.1.2 ∙ interrupt_again channel user s.1.0 s.0 s.1.1
command_again (reset channel given) text s = ap command_in s.2 ∙ giving_again reset channel given s.0 s.1
command_again (ready channel) text s = ap command_in s.1 ∙ channel_again ready channel s.0
command_again (not_ready channel) text s = ap command_in s.1 ∙ channel_again not_ready channel s.0
command_again (restart given) text s = ap command_in s.1 ∙ restart_again given s.0
command_again pull text s = ap command_in s
command_again connect text s = ap command_in s
command_again disconnect text s = ap command_in s
command_again probe text s = ap command_in s
command_again relink text s = ap command_in s

lose_again : (from : Role) (place : ℕ) → IsNumber place → lose_in (direction_text from ++ (32 ∷ decimal place)) ≡ Some (lose from place)
unfolding lose_in
lose_again from place h =
    bind_again _ _ (direction_text from, decimal place) _ (parts_again (direction_text from) _ (from_no_blank from))
    (bind_again _ _ from _ (from_again from)
    (bind_again _ _ place _ (number_read place h) refl))

damage_again : (from : Role) (place : ℕ) (octets digits : List ℕ) → IsNumber place → Writes digits octets
    → damage_in (direction_text from ++ (32 ∷ (decimal place ++ (32 ∷ digits)))) ≡ Some (damage from place octets)
unfolding damage_in
damage_again from place octets digits h w =
    bind_again _ _ (direction_text from, decimal place ++ (32 ∷ digits)) _ (parts_again (direction_text from) _ (from_no_blank from))
    (bind_again _ _ (decimal place, digits) _ (parts_again (decimal place) digits (decimal_no_blank place h))
    (bind_again _ _ from _ (from_again from)
    (bind_again _ _ place _ (number_read place h)
    (bind_again _ _ octets _ (octets_again digits octets w) refl))))

drain_again : (count : ℕ) → IsNumber count → 1 ≤ count → drain_in (decimal count) ≡ Some (drain count)
unfolding drain_in
drain_again count h some =
    bind_again _ _ count _ (number_read count h) (ap (λ b. cond b None (Some (drain count))) (ne_eqb count 0 (omega arith)))

commanded_again : (end : Role) (asked : PlainCommand) (rest : List ℕ) → SpellsCommand asked rest → line_in (end_text end ++ (32 ∷ rest))
    ≡ Some (command end asked)
unfolding line_in parts_of
commanded_again Dte asked rest s = bind_again _ _ asked _ (command_again asked rest s) refl
commanded_again Dce asked rest s = bind_again _ _ asked _ (command_again asked rest s) refl

pub line_again : (v : PlainLine) (text : List ℕ) → Spells v text → line_in text ≡ Some v
unfolding line_in parts_of
line_again (command end asked) text s = ap line_in s.1 ∙ commanded_again end asked s.0 s.2
line_again (t1 end) text s = ap line_in s ∙ bind_again _ _ end _ (end_again end) refl
line_again (deliver from) text s = ap line_in s ∙ bind_again _ _ from _ (from_again from) refl
line_again (lose from place) text s = ap line_in s.1 ∙ lose_again from place s.0
line_again (damage from place octets) text s = ap line_in s.1.2 ∙ damage_again from place octets s.1.0 s.0 s.1.1
line_again (drain count) text s = ap line_in s.2 ∙ drain_again count s.0 s.1
line_again heal text s = ap line_in s

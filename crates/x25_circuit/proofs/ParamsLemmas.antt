-- Packet sizes and windows that are proposed, said and answered.
use Rattle.x25_circuit.proofs.Names.{◌≡◌, ◌≤◌, ℕ, List, [], ◌∷◌, ◌++◌, Option, Some, None, Result, Ok, Err, Bool, true, false, ◌==◌, ◌&&◌, nat_le}
use Rattle.x25_circuit.proofs.Names.{if◌then◌else◌, refl, sym, ap, ◌∙◌, arith, le-leb, leb-true, leb-false, eqb-true, PacketError, Params, lit≤, and_from}
use Rattle.x25_circuit.proofs.Names.{may_propose}
use Rattle.std.proofs.{Common.{◌||◌}, Math.Nat.{pow-le-pow_right}, lemmas.Bool.{eq-eqb, and_parts, or_left, or_right}}
use Rattle.x25_circuit.specs.Params.{in_brief, in_full, is_toward, sizes_of, windows_of, params_of, news, said_of, said_or, said_by, terms_of}
use Rattle.x25_circuit.specs.laws.ParamsLaws.{FieldIsSaid, FullIsReadAlike, FullSaysAll, NoFieldIsKnown, KnownIsNoField, FieldIsAllowed, SaidIsAllowed}
use Rattle.x25_circuit.specs.laws.ParamsLaws.{ProposalIsAnswer, DefaultIsAnswer, AnswerIsAllowed, AreTerms, TermsAreAllowed}
use Rattle.x25_packet.specs.Facilities.{AreWithin, IfGiven, facilities_of, facility, field_of, is_within, last, with_sizes, windows_of as windows_in}
use Rattle.x25_packet.specs.declared.{error.PacketError.TheVariants.{BadFacility, BadParameter}, facilities.Directions.{Directions}}
use Rattle.x25_packet.specs.declared.facilities.Facilities.{Facilities}

-- ---- tests

one_holds : {A : Type 0} (a b : Bool) → (a || b) ≡ true → (a ≡ true → A) → (b ≡ true → A) → A
one_holds true b e f g = f refl
one_holds false b e f g = g e

by_test : {A : Type 0} (P : A → Type 0) (b : Bool) (x y : A) → (b ≡ true → P x) → (b ≡ false → P y) → P (if b then x else y)
by_test P true x y f g = f refl
by_test P false x y f g = g refl

-- ---- bounds

within_least : (least most n : ℕ) → is_within least most n ≡ true → least ≤ n
within_least least most n e = leb-true least n (and_parts (nat_le least n) (nat_le n most) e).0

within_most : (least most n : ℕ) → is_within least most n ≡ true → n ≤ most
within_most least most n e = leb-true n most (and_parts (nat_le least n) (nat_le n most) e).1

is_inside : (least most n : ℕ) → least ≤ n → n ≤ most → is_within least most n ≡ true
is_inside least most n f g = and_from (nat_le least n) (nat_le n most) (le-leb _ _ f) (le-leb _ _ g)

-- what may be proposed, value by value
pub record AreInside (p : Params) : Type 0 where
  pub size_called : is_within 4 12 p.size_called ≡ true
  pub size_calling : is_within 4 12 p.size_calling ≡ true
  pub win_called : is_within 1 7 p.win_called ≡ true
  pub win_calling : is_within 1 7 p.win_calling ≡ true

pub are_inside : (p : Params) → may_propose p ≡ true → AreInside p
are_inside p e =
    let a = and_parts (is_within 4 12 p.size_called) (is_within 4 12 p.size_calling && (is_within 1 7 p.win_called && is_within 1 7 p.win_calling)) e in
    let b = and_parts (is_within 4 12 p.size_calling) (is_within 1 7 p.win_called && is_within 1 7 p.win_calling) a.1 in
    let d = and_parts (is_within 1 7 p.win_called) (is_within 1 7 p.win_calling) b.1 in
    record { size_called = a.0; size_calling = b.0; win_called = d.0; win_calling = d.1 }

pub inside_is_allowed : (p : Params) → AreInside p → may_propose p ≡ true
inside_is_allowed p h =
    and_from _ _ h.size_called (and_from _ _ h.size_calling (and_from _ _ h.win_called h.win_calling))

-- ---- answers

toward_itself : (usual n : ℕ) → is_toward usual n n ≡ true
toward_itself usual n = toward_by (nat_le usual n) usual n refl where
  toward_by : (b : Bool) (usual n : ℕ) → nat_le usual n ≡ b → is_toward usual n n ≡ true
  toward_by true usual n e = or_left (is_within usual n n) (is_within n usual n) (is_inside usual n n (leb-true _ _ e) (omega arith))
  toward_by false usual n e = or_right (is_within usual n n) (is_within n usual n)
      (is_inside n usual n (omega arith) (let h = leb-false _ _ e in omega (arith, h)))

toward_usual : (usual n : ℕ) → is_toward usual n usual ≡ true
toward_usual usual n = toward_by (nat_le usual n) usual n refl where
  toward_by : (b : Bool) (usual n : ℕ) → nat_le usual n ≡ b → is_toward usual n usual ≡ true
  toward_by true usual n e = or_left (is_within usual n usual) (is_within n usual usual) (is_inside usual n usual (omega arith) (leb-true _ _ e))
  toward_by false usual n e = or_right (is_within usual n usual) (is_within n usual usual)
      (is_inside n usual usual (let h = leb-false _ _ e in omega (arith, h)) (omega arith))

pub proposal_is_answer : ProposalIsAnswer
proposal_is_answer p =
    and_from _ _ (toward_itself 7 p.size_called)
    (and_from _ _ (toward_itself 7 p.size_calling) (and_from _ _ (toward_itself 2 p.win_called) (toward_itself 2 p.win_calling)))

pub default_is_answer : DefaultIsAnswer
default_is_answer p =
    and_from _ _ (toward_usual 7 p.size_called)
    (and_from _ _ (toward_usual 7 p.size_calling) (and_from _ _ (toward_usual 2 p.win_called) (toward_usual 2 p.win_calling)))

toward_inside : (least most usual proposed answered : ℕ) → least ≤ usual → usual ≤ most → is_within least most proposed ≡ true
    → is_toward usual proposed answered ≡ true → is_within least most answered ≡ true
toward_inside least most usual proposed answered f g inside toward =
    let low = within_least least most proposed inside in
    let high = within_most least most proposed inside in
    one_holds (is_within usual proposed answered) (is_within proposed usual answered) toward
    (λ e. let a = within_least usual proposed answered e in let b = within_most usual proposed answered e in
    is_inside least most answered (omega (arith, f, a)) (omega (arith, b, high)))
    (λ e. let a = within_least proposed usual answered e in let b = within_most proposed usual answered e in
    is_inside least most answered (omega (arith, low, a)) (omega (arith, b, g)))

pub answer_is_allowed : AnswerIsAllowed
answer_is_allowed p q allowed answers =
    let inside = are_inside p allowed in
    let a = and_parts (is_toward 7 p.size_called q.size_called)
    (is_toward 7 p.size_calling q.size_calling && (is_toward 2 p.win_called q.win_called && is_toward 2 p.win_calling q.win_calling)) answers in
    let b = and_parts (is_toward 7 p.size_calling q.size_calling) (is_toward 2 p.win_called q.win_called && is_toward 2 p.win_calling q.win_calling) a.1 in
    let d = and_parts (is_toward 2 p.win_called q.win_called) (is_toward 2 p.win_calling q.win_calling) b.1 in
    inside_is_allowed q (record {
      size_called = toward_inside 4 12 7 p.size_called q.size_called (lit≤ tt) (lit≤ tt) inside.size_called a.0;
      size_calling = toward_inside 4 12 7 p.size_calling q.size_calling (lit≤ tt) (lit≤ tt) inside.size_calling b.0;
      win_called = toward_inside 1 7 2 p.win_called q.win_called (lit≤ tt) (lit≤ tt) inside.win_called d.0;
      win_calling = toward_inside 1 7 2 p.win_calling q.win_calling (lit≤ tt) (lit≤ tt) inside.win_calling d.1;
    })

-- ---- what a field says

-- each value that is said is within its bounds
abbrev BothWithin : ℕ → ℕ → Directions → Type 0
BothWithin least most d = (is_within least most d.called && is_within least most d.calling) ≡ true

pub both_within : (least most a b : ℕ) → is_within least most a ≡ true → is_within least most b ≡ true
    → BothWithin least most (record { called = a; calling = b })
both_within least most a b e f = and_from (is_within least most a) (is_within least most b) e f

news_by : (b : Bool) (known said : Directions) → (said.called == known.called && said.calling == known.calling) ≡ b
    → said_or known (if b then None else Some said) ≡ said
news_by true known said e =
    let h = and_parts (said.called == known.called) (said.calling == known.calling) e in
    let f = eqb-true said.called known.called h.0 in let g = eqb-true said.calling known.calling h.1 in
    rw (sym f, sym g) refl
news_by false known said e = refl

-- what is said, beside what is known, is what is understood
said_is : (all : Bool) (known said : Directions) → said_or known (said_of all known said) ≡ said
said_is true known said = refl
said_is false known said = news_by (said.called == known.called && said.calling == known.calling) known said refl

news_given : (b : Bool) (said : Directions) (P : Directions → Type 0) → P said → IfGiven (if b then None else Some said) P
news_given true said P h = tt
news_given false said P h = h

said_given : (all : Bool) (known said : Directions) (P : Directions → Type 0) → P said → IfGiven (said_of all known said) P
said_given true known said P h = h
said_given false known said P h = news_given (said.called == known.called && said.calling == known.calling) said P h

-- a field that says values within the bounds is read as them
pub field_is_read : (sizes windows : Option Directions) → IfGiven sizes (BothWithin 4 12) → IfGiven windows (BothWithin 1 7)
    → facilities_of (facility 66 sizes ++ facility 67 windows) ≡ Ok (record { packet_size = sizes; window_size = windows })
unfolding facilities_of
field_is_read None None f g = refl
field_is_read None (Some w) f g = rw g refl
field_is_read (Some s) None f g = rw f refl
field_is_read (Some s) (Some w) f g = rw (f, g) refl

pub field_is_said : FieldIsSaid
field_is_said known proposal allowed =
    let said = proposal.params in let all = proposal.says_all in
    let inside = are_inside said allowed in
    let sizes = said_of all (sizes_of known) (sizes_of said) in
    let windows = said_of all (windows_of known) (windows_of said) in
    ap (said_by known)
    (field_is_read sizes windows
    (said_given all (sizes_of known) (sizes_of said) (BothWithin 4 12)
    (both_within 4 12 said.size_called said.size_calling inside.size_called inside.size_calling))
    (said_given all (windows_of known) (windows_of said) (BothWithin 1 7)
    (both_within 1 7 said.win_called said.win_calling inside.win_called inside.win_calling)))
    ∙ ap (λ (d : Directions). params_of d (said_or (windows_of known) windows)) (said_is all (sizes_of known) (sizes_of said))
    ∙ ap (params_of (sizes_of said)) (said_is all (windows_of known) (windows_of said))

-- a field in full is the same, whatever is known
pub full_is_read_alike : FullIsReadAlike
full_is_read_alike known usual params allowed = field_is_said usual (in_full params) allowed ∙ sym (field_is_said usual (in_brief params) allowed)

pub full_says_all : FullSaysAll
full_says_all known params = refl

pub no_field_is_known : NoFieldIsKnown
unfolding facilities_of
no_field_is_known known = refl

no_news : (d : Directions) → news d d ≡ None
no_news d = rw (eq-eqb d.called d.called refl, eq-eqb d.calling d.calling refl) refl

pub known_is_no_field : KnownIsNoField
known_is_no_field known = ap (λ (s : Option Directions). field_of (record { packet_size = s; window_size = news (windows_of known) (windows_of known) }))
    (no_news (sizes_of known))
    ∙ ap (λ (w : Option Directions). field_of (record { packet_size = None; window_size = w })) (no_news (windows_of known))

-- a field that says what may be proposed may stand in a packet
pub field_is_allowed : FieldIsAllowed
field_is_allowed known proposal allowed =
    let said = proposal.params in let all = proposal.says_all in
    let inside = are_inside said allowed in (
      record { packet_size = said_of all (sizes_of known) (sizes_of said); window_size = said_of all (windows_of known) (windows_of said) },
      record {
        sizes = said_given all (sizes_of known) (sizes_of said) (AreWithin 4 12)
            (are_within 4 12 said.size_called said.size_calling inside.size_called inside.size_calling);
        windows = said_given all (windows_of known) (windows_of said) (AreWithin 1 7)
            (are_within 1 7 said.win_called said.win_calling inside.win_called inside.win_calling);
      },
      refl,
    )
  where
    are_within : (least most a b : ℕ) → is_within least most a ≡ true → is_within least most b ≡ true
        → AreWithin least most (record { called = a; calling = b })
    are_within least most a b e f = record {
      called_least = within_least least most a e;
      called_most = within_most least most a e;
      calling_least = within_least least most b f;
      calling_most = within_most least most b f;
    }

-- ---- what is read is within the bounds

abbrev WindowsRead : Result (Option Directions) PacketError → Type 0
WindowsRead (Ok windows) = IfGiven windows (BothWithin 1 7)
WindowsRead (Err e) = Unit {0}

abbrev FieldRead : Result Facilities PacketError → Type 0
FieldRead (Ok facilities) = IfGiven facilities.packet_size (BothWithin 4 12) × IfGiven facilities.window_size (BothWithin 1 7)
FieldRead (Err e) = Unit {0}

last_read : (d : Directions) (rest : List ℕ) → BothWithin 1 7 d → WindowsRead (last (Some d) rest)
last_read d [] h = h
last_read d (code ∷ rest) h = tt

windows_read : (field : List ℕ) → WindowsRead (windows_in field)
windows_read [] = tt
windows_read (code ∷ []) = by_test WindowsRead (code == 67) (Err BadParameter) (Err BadFacility) (λ e. tt) (λ e. tt)
windows_read (code ∷ called ∷ []) = by_test WindowsRead (code == 67) (Err BadParameter) (Err BadFacility) (λ e. tt) (λ e. tt)
windows_read (code ∷ called ∷ calling ∷ rest) =
    let d : Directions = record { called = called; calling = calling } in
    by_test WindowsRead (code == 67) (if is_within 1 7 called && is_within 1 7 calling then last (Some d) rest else Err BadParameter) (Err BadFacility)
    (λ e. by_test WindowsRead (is_within 1 7 called && is_within 1 7 calling) (last (Some d) rest) (Err BadParameter) (last_read d rest) (λ f. tt))
    (λ e. tt)

sizes_read : (sizes : Option Directions) (windows : Result (Option Directions) PacketError) → IfGiven sizes (BothWithin 4 12) → WindowsRead windows
    → FieldRead (with_sizes sizes windows)
sizes_read sizes (Ok windows) f g = (f, g)
sizes_read sizes (Err e) f g = tt

field_read : (field : List ℕ) → FieldRead (facilities_of field)
unfolding facilities_of
field_read [] = (tt, tt)
field_read (code ∷ []) =
    by_test FieldRead (code == 66) (Err BadParameter) (with_sizes None (windows_in (code ∷ []))) (λ e. tt)
    (λ e. sizes_read None (windows_in (code ∷ [])) tt (windows_read (code ∷ [])))
field_read (code ∷ called ∷ []) =
    by_test FieldRead (code == 66) (Err BadParameter) (with_sizes None (windows_in (code ∷ called ∷ []))) (λ e. tt)
    (λ e. sizes_read None (windows_in (code ∷ called ∷ [])) tt (windows_read (code ∷ called ∷ [])))
field_read (code ∷ called ∷ calling ∷ rest) =
    let d : Directions = record { called = called; calling = calling } in
    by_test FieldRead (code == 66)
    (if is_within 4 12 called && is_within 4 12 calling then with_sizes (Some d) (windows_in rest) else Err BadParameter)
    (with_sizes None (windows_in (code ∷ called ∷ calling ∷ rest)))
    (λ e. by_test FieldRead (is_within 4 12 called && is_within 4 12 calling) (with_sizes (Some d) (windows_in rest)) (Err BadParameter)
    (λ f. sizes_read (Some d) (windows_in rest) f (windows_read rest)) (λ f. tt))
    (λ e. sizes_read None (windows_in (code ∷ called ∷ calling ∷ rest)) tt (windows_read (code ∷ called ∷ calling ∷ rest)))

or_within : (least most : ℕ) (known : Directions) (said : Option Directions) → BothWithin least most known → IfGiven said (BothWithin least most)
    → BothWithin least most (said_or known said)
or_within least most known None f g = f
or_within least most known (Some d) f g = g

read_is_allowed : (known : Params) (r : Result Facilities PacketError) → may_propose known ≡ true → FieldRead r → may_propose (said_by known r) ≡ true
read_is_allowed known (Err e) allowed h = allowed
read_is_allowed known (Ok facilities) allowed h =
    let inside = are_inside known allowed in
    let s = said_or (sizes_of known) facilities.packet_size in
    let w = said_or (windows_of known) facilities.window_size in
    let a = and_parts (is_within 4 12 s.called) (is_within 4 12 s.calling)
    (or_within 4 12 (sizes_of known) facilities.packet_size (both_within 4 12 known.size_called known.size_calling inside.size_called inside.size_calling)
    h.0) in
    let b = and_parts (is_within 1 7 w.called) (is_within 1 7 w.calling)
    (or_within 1 7 (windows_of known) facilities.window_size (both_within 1 7 known.win_called known.win_calling inside.win_called inside.win_calling) h.1)
    in
    inside_is_allowed (params_of s w) (record { size_called = a.0; size_calling = a.1; win_called = b.0; win_calling = b.1 })

pub said_is_allowed : SaidIsAllowed
said_is_allowed known field allowed = read_is_allowed known (facilities_of field) allowed (field_read field)

-- ---- terms

terms_are_allowed_of : (window code : ℕ) → is_within 1 7 window ≡ true → is_within 4 12 code ≡ true → AreTerms (terms_of window code)
terms_are_allowed_of window code e f = record {
  window_least = within_least 1 7 window e;
  window_most = within_most 1 7 window e;
  size_least = pow-le-pow_right (lit≤ tt) (within_least 4 12 code f);
  size_most = pow-le-pow_right (lit≤ tt) (within_most 4 12 code f);
}

pub terms_are_allowed : TermsAreAllowed
terms_are_allowed p allowed =
    let inside = are_inside p allowed in (
      terms_are_allowed_of p.win_called p.size_called inside.win_called inside.size_called,
      terms_are_allowed_of p.win_calling p.size_calling inside.win_calling inside.size_calling,
    )

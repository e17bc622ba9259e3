-- What was told, as it is written.
use Rattle.std.proofs.{Common.{◌≡◌, ◌∙◌, ℕ, List, [], ◌++◌, Option, Result, Ok, Err, append_assoc, ap, sym, subst}, KnownBytes.{Appends-nil, Appends-trans}}
use Rattle.std.{proofs.lemmas.List.{append-nil}, specs.Io.KnownBytes.{Appends}, specs.Prelude.{OnOk, MatchResult}}
use Rattle.x25_io.specs.code.Written.{AppendsPrefix, Tells}

-- nothing was told
pub none_told : (old : Option (List ℕ)) (text : List ℕ) → text ≡ [] → Tells old old text []
none_told old text e = record { written = []; appends = Appends-nil old; same = e }

-- a line that waits
pub more_waits : (old now : Option (List ℕ)) (text next told line : List ℕ) → Tells old now text told → next ≡ text ++ line → Tells old now next (told ++ line)
more_waits old now text next told line h e = record {
  written = h.written;
  appends = h.appends;
  same = ap (λ t. h.written ++ t) e ∙ sym (append_assoc h.written text line) ∙ ap (λ t. t ++ line) h.same;
}

-- all that waited is written
pub all_written : (old now next : Option (List ℕ)) (text rest told : List ℕ) → Tells old now text told → Appends now next text → rest ≡ []
    → Tells old next rest told
all_written old now next text rest told h a none = record {
  written = h.written ++ text;
  appends = Appends-trans old now next h.written text h.appends a;
  same = ap (λ t. (h.written ++ text) ++ t) none ∙ append-nil (h.written ++ text) ∙ h.same;
}

-- a beginning of it is written
pub part_written : (old now next : Option (List ℕ)) (text told : List ℕ) → Tells old now text told → AppendsPrefix now next text → AppendsPrefix old next told
part_written old now next text told h b = (
  h.written ++ b.0,
  b.1,
  sym h.same ∙ ap (λ t. h.written ++ t) b.2 ∙ sym (append_assoc h.written b.0 b.1),
  Appends-trans old now next h.written b.0 h.appends b.3,
)

-- a beginning of what was told is one of what will have been told
pub prefix_more : (old now : Option (List ℕ)) (told more : List ℕ) → AppendsPrefix old now told → AppendsPrefix old now (told ++ more)
prefix_more old now told more b = (b.0, b.1 ++ more, ap (λ t. t ++ more) b.2 ∙ append_assoc b.0 b.1 more, b.3)

-- what was told is a beginning of itself
pub told_prefix : (old now : Option (List ℕ)) (text told : List ℕ) → Tells old now text told → AppendsPrefix old now told
told_prefix old now text told h = (h.written, text, sym h.same, h.appends)

-- a line that is written behind all that waited
pub line_written : (old now next : Option (List ℕ)) (text told line : List ℕ) → Tells old now text told → text ≡ [] → Appends now next line
    → Tells old next text (told ++ line)
line_written old now next text told line h none a = record {
  written = h.written ++ line;
  appends = Appends-trans old now next h.written line h.appends a;
  same = ap (λ t. (h.written ++ line) ++ t) none ∙ append-nil (h.written ++ line)
      ∙ ap (λ t. t ++ line) (sym (append-nil h.written) ∙ ap (λ t. h.written ++ t) (sym none) ∙ h.same);
}

pub line_begun : (old now next : Option (List ℕ)) (text told line : List ℕ) → Tells old now text told → text ≡ [] → AppendsPrefix now next line
    → AppendsPrefix old next (told ++ line)
line_begun old now next text told line h none b =
    let all : h.written ≡ told = sym (append-nil h.written) ∙ ap (λ t. h.written ++ t) (sym none) ∙ h.same in (
      h.written ++ b.0,
      b.1,
      ap (λ t. t ++ line) (sym all) ∙ ap (λ t. h.written ++ t) b.2 ∙ sym (append_assoc h.written b.0 b.1),
      Appends-trans old now next h.written b.0 h.appends b.3,
    )

pub told_more : (old now : Option (List ℕ)) (text told more : List ℕ) → Tells old now text told → AppendsPrefix old now (told ++ more)
told_more old now text told more h = prefix_more old now told more (told_prefix old now text told h)

-- told up to here, and not further than that
pub part_of_all : (old now : Option (List ℕ)) (told first second all : List ℕ) → all ≡ first ++ second → AppendsPrefix old now (told ++ first)
    → AppendsPrefix old now (told ++ all)
part_of_all old now told first second all e b =
    subst (AppendsPrefix old now) (append_assoc told first second ∙ ap (λ t. told ++ t) (sym e)) (prefix_more old now (told ++ first) second b)

-- with what holds besides where it is Ok
pub with_ok : {T E : Type 0} (r : Result T E) (A : T → Type 0) (B : E → Type 0) (Q : Type 0) → MatchResult r A B → OnOk r Q → MatchResult r (λ x. A x × Q) B
with_ok (Ok x) A B Q m q = (m, q)
with_ok (Err e) A B Q m q = m

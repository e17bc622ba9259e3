-- Bits that are sent octet by octet.
use Rattle.x25_bit_line.proofs.Names.{◌≡◌, ◌∙◌, ◌+◌, ◌-◌, ◌*◌, ◌/◌, ◌<◌, ◌≤◌, ℕ, zero, suc, Bool, true, List, [], ◌∷◌, ◌++◌, length, take, drop, Option}
use Rattle.x25_bit_line.proofs.Names.{append_assoc, ap, sym, subst, refl, arith, length-append, length-drop, length-take-le, append-nil, take-append-drop}
use Rattle.x25_bit_line.proofs.Names.{number_of, octets_by, octets_of, filled, AppendsPrefix, Tells, prefix_more}
use Rattle.std.{proofs.Common.{◌%◌, Result, Ok, Err}, proofs.lemmas.List.{drop_at, drop-drop, take_at}, specs.Prelude.{replicate, OnOk}}
use Rattle.x25_bit_line.specs.LineBits.{behind_octets, Sends, SendsLine}
use Rattle.x25_io.specs.code.Written.{TellsMore}

-- the first octet of bits that are filled
octet_first : (eight rest : List Bool) → length eight ≡ 8 → octets_of (filled (eight ++ rest)) ≡ number_of eight ∷ octets_of (filled rest)
unfolding octets_by
octet_first eight rest size =
    let ones = replicate ((8 - length rest % 8) % 8) true in
    let long : length (eight ++ rest) ≡ 8 + length rest = length-append eight rest ∙ ap (λ n. n + length rest) size in
    let few : (8 - length (eight ++ rest) % 8) % 8 ≡ (8 - length rest % 8) % 8 = omega (arith, long) in
    let whole : filled (eight ++ rest) ≡ eight ++ filled rest = ap (λ n. (eight ++ rest) ++ replicate n true) few ∙ append_assoc eight rest ones in
    let all : length (eight ++ filled rest) ≡ 8 + length (filled rest) = length-append eight (filled rest) ∙ ap (λ n. n + length (filled rest)) size in
    let count : length (eight ++ filled rest) / 8 ≡ suc (length (filled rest) / 8) = omega (arith, all) in
    ap octets_of whole ∙ ap (λ n. octets_by n (eight ++ filled rest)) count
    ∙ ap (λ o. number_of o ∷ octets_by (length (filled rest) / 8) (drop 8 (eight ++ filled rest))) (take_at eight (filled rest) 8 size)
    ∙ ap (λ l. number_of eight ∷ octets_by (length (filled rest) / 8) l) (drop_at eight (filled rest) 8 size)

eight_more : (n : ℕ) (bits : List Bool) → drop (8 * n) (drop 8 bits) ≡ drop (8 * suc n) bits
eight_more n bits = let sum : 8 + 8 * n ≡ 8 * suc n = omega arith in drop-drop (8 * n) 8 bits ∙ ap (λ k. drop k bits) sum

-- octets that the first bits fill, and those behind them
filled_by : (n : ℕ) (bits more : List Bool) → 8 * n ≤ length bits
    → octets_of (filled (bits ++ more)) ≡ octets_by n bits ++ octets_of (filled (drop (8 * n) bits ++ more))
unfolding octets_by
filled_by zero bits more h = refl
filled_by (suc n) bits more h =
    let size : length (take 8 bits) ≡ 8 = length-take-le 8 bits (omega arith) in
    let left : length (drop 8 bits) ≡ length bits - 8 = length-drop 8 bits in
    let rest : octets_of (filled (drop 8 bits ++ more)) ≡ octets_by n (drop 8 bits) ++ octets_of (filled (drop (8 * suc n) bits ++ more)) =
    filled_by n (drop 8 bits) more (omega (arith, left)) ∙ ap (λ l. octets_by n (drop 8 bits) ++ octets_of (filled (l ++ more))) (eight_more n bits) in
    ap (λ l. octets_of (filled l)) (ap (λ l. l ++ more) (sym (take-append-drop 8 bits)) ∙ append_assoc (take 8 bits) (drop 8 bits) more)
    ∙ octet_first (take 8 bits) (drop 8 bits ++ more) size
    ∙ ap (λ l. number_of (take 8 bits) ∷ l) rest

pub filled_behind : (bits more : List Bool) → octets_of (filled (bits ++ more)) ≡ octets_of bits ++ octets_of (filled (behind_octets bits ++ more))
filled_behind bits more = filled_by (length bits / 8) bits more (omega arith)

-- one octet more
octets_snoc : (n : ℕ) (bits : List Bool) → octets_by (suc n) bits ≡ octets_by n bits ++ number_of (take 8 (drop (8 * n) bits)) ∷ []
unfolding octets_by
octets_snoc zero bits = refl
octets_snoc (suc n) bits =
    ap (λ l. number_of (take 8 bits) ∷ l) (octets_snoc n (drop 8 bits) ∙ ap (λ l. octets_by n (drop 8 bits) ++ number_of (take 8 l) ∷ []) (eight_more n bits))

pub octets_more : (n : ℕ) (bits : List Bool) → octets_by (n + 1) bits ≡ octets_by n bits ++ number_of (take 8 (drop (8 * n) bits)) ∷ []
octets_more n bits = let next : n + 1 ≡ suc n = omega arith in ap (λ k. octets_by k bits) next ∙ octets_snoc n bits

-- told up to here, and an octet behind them
pub octets_told : (first : List ℕ) (n : ℕ) (bits : List Bool) → (first ++ octets_by n bits) ++ number_of (take 8 (drop (8 * n) bits)) ∷ [] ≡ first
    ++ octets_by (n + 1) bits
octets_told first n bits = sym (ap (λ l. first ++ l) (octets_more n bits)
    ∙ sym (append_assoc first (octets_by n bits) (number_of (take 8 (drop (8 * n) bits)) ∷ [])))

-- the octets behind the first ones
octets_rest : (n : ℕ) (m : ℕ) (bits : List Bool) → n ≤ m → (more : List ℕ) × (octets_by m bits ≡ octets_by n bits ++ more)
unfolding octets_by
octets_rest zero m bits h = (octets_by m bits, refl)
octets_rest (suc n) zero bits h = absurd (omega arith)
octets_rest (suc n) (suc m) bits h = let rest = octets_rest n m (drop 8 bits) (omega arith) in (rest.0, ap (λ l. number_of (take 8 bits) ∷ l) rest.1)

-- the octet at an index wasn't written whole
pub octets_lost : (old now : Option (List ℕ)) (told : List ℕ) (n m octet : ℕ) (bits : List Bool) → n < m → octet ≡ number_of (take 8 (drop (8 * n) bits))
    → AppendsPrefix old now ((told ++ octets_by n bits) ++ octet ∷ []) → AppendsPrefix old now (told ++ octets_by m bits)
octets_lost old now told n m octet bits h e b =
    let rest = octets_rest (n + 1) m bits (omega arith) in
    subst (AppendsPrefix old now)
    (ap (λ o. ((told ++ octets_by n bits) ++ o ∷ []) ++ rest.0) e ∙ ap (λ l. l ++ rest.0) (octets_told told n bits)
    ∙ append_assoc told (octets_by (n + 1) bits) rest.0 ∙ ap (λ l. told ++ l) (sym rest.1))
    (prefix_more old now ((told ++ octets_by n bits) ++ octet ∷ []) rest.0 b)

few_behind : (bits : List Bool) → length (behind_octets bits) < 8
few_behind bits = let size = length-drop (8 * (length bits / 8)) bits in omega (arith, size)

module _ (old now next : Option (List ℕ)) (left : List Bool) (text : List ℕ) (bits more : List Bool) (h : Sends old now left text bits) where
  sent_so_far : (m : List Bool) → (h.told ++ octets_of (left ++ more)) ++ octets_of (filled (behind_octets (left ++ more) ++ m))
      ≡ octets_of (filled ((bits ++ more) ++ m))
  sent_so_far m =
      append_assoc h.told (octets_of (left ++ more)) (octets_of (filled (behind_octets (left ++ more) ++ m)))
      ∙ ap (λ l. h.told ++ l) (sym (filled_behind (left ++ more) m) ∙ ap (λ l. octets_of (filled l)) (append_assoc left more m))
      ∙ h.same (more ++ m)
      ∙ ap (λ l. octets_of (filled l)) (sym (append_assoc bits more m))

  pub sends_more : (stays : List Bool) (waits : List ℕ) → stays ≡ behind_octets (left ++ more) → Tells old next waits (h.told ++ octets_of (left ++ more))
      → Sends old next stays waits (bits ++ more)
  sends_more stays waits e tells = record {
    told = h.told ++ octets_of (left ++ more);
    tells = tells;
    few = subst (λ (l : List Bool). length l < 8) (sym e) (few_behind (left ++ more));
    same = λ m. ap (λ l. (h.told ++ octets_of (left ++ more)) ++ octets_of (filled (l ++ m))) e ∙ sent_so_far m;
  }

  pub sends_failed : AppendsPrefix old next (h.told ++ octets_of (left ++ more)) → (m : List Bool)
      → AppendsPrefix old next (octets_of (filled ((bits ++ more) ++ m)))
  sends_failed b m = subst (AppendsPrefix old next) (sent_so_far m)
      (prefix_more old next (h.told ++ octets_of (left ++ more)) (octets_of (filled (behind_octets (left ++ more) ++ m))) b)

-- nothing more is sent
pub sends_nothing : (old now : Option (List ℕ)) (left : List Bool) (text : List ℕ) (bits more : List Bool) → more ≡ [] → Sends old now left text bits
    → Sends old now left text (bits ++ more)
sends_nothing old now left text bits more e h = subst (Sends old now left text) (sym (ap (λ l. bits ++ l) e ∙ append-nil bits)) h

-- the last octet
pub all_sent : (old now : Option (List ℕ)) (left : List Bool) (text : List ℕ) (bits : List Bool) (h : Sends old now left text bits)
    → h.told ++ octets_of (filled left) ≡ octets_of (filled bits)
all_sent old now left text bits h =
    ap (λ l. h.told ++ octets_of (filled l)) (sym (append-nil left)) ∙ h.same [] ∙ ap (λ l. octets_of (filled l)) (append-nil bits)

-- what is told of bits is sent
pub sends_by : {T E : Type 0} (r : Result T E) (was now : Option (List ℕ)) (left stays : List Bool) (waited waits : List ℕ) (more : List Bool)
    → TellsMore r was now waited waits (octets_of (left ++ more)) → OnOk r (stays ≡ behind_octets (left ++ more))
    → SendsLine r was now left stays waited waits more
sends_by (Ok x) was now left stays waited waits more tells e =
    λ old bits h. sends_more old was now left waited bits more h stays waits e (tells old h.told h.tells)
sends_by (Err x) was now left stays waited waits more tells e = λ old bits h. sends_failed old was now left waited bits more h (tells old h.told h.tells)

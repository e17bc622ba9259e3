-- The two lists of a outgoing, the packets sent and those that wait, as one.
use Rattle.x25_link.proofs.Names.{◌≡◌, ℕ, ◌+◌, ◌%◌, ◌<◌, ◌≤◌, List, [], ◌∷◌, ◌++◌, length, length-append, take, drop, Bool, true, false, not, if◌then◌else◌}
use Rattle.x25_link.proofs.Names.{refl, sym, ap, ◌∙◌, arith, nat_lt, length-take-le, length-drop, lt-ltb, ltb-false, eq-eqb, Held, Fits, info, Outgoing, added}
use Rattle.std.proofs.{Common.{◌&&◌, slice_index_or, max}, lemmas.Bool.{ltb-true}}
use Rattle.std.proofs.lemmas.{List.{take-append-le, drop-append-le, take_more, drop_more, get_or-take}, Option.{get_or_from_slice_get}}
use Rattle.std.specs.Prelude.{slice_get, Some}
use Rattle.x25_link.{proofs.Names.{is_open, next_packet, FitsOutgoing, sending_of}, specs.Outgoing.{moved_on as sent_on}}
use Rattle.x25_link.specs.declared.outgoing.Outgoing.{Outgoing as OutgoingCode}
use Rattle.x25_window.specs.{Sender.{Sending, acknowledged, offered}, code.Held.{advanced}}

pub sent_length : (k : ℕ) (b : OutgoingCode) (o : Outgoing) → FitsOutgoing k b o → length (take o.sent o.given) ≡ o.sent
sent_length k b o fits = length-take-le o.sent o.given fits.sent

-- the same of what is held alone: the sender, and the packets that wait
pub record Parts (k : ℕ) (h : Held (List ℕ)) (q : List (List ℕ)) (o : Outgoing) : Type 0 where
  pub sender : Fits h (sending_of k o)
  pub queue : q ≡ drop o.sent o.given
  pub sent : o.sent ≤ length o.given
  pub few : length q ≤ 256

pub parts : (k : ℕ) (b : OutgoingCode) (o : Outgoing) → FitsOutgoing k b o → Parts k b.sender b.queue.items o
parts k b o fits = record { sender = fits.sender; queue = fits.queue; sent = fits.sent; few = fits.few }

pub whole : (k : ℕ) (b : OutgoingCode) (o : Outgoing) → Parts k b.sender b.queue.items o → FitsOutgoing k b o
whole k b o fits = record { sender = fits.sender; queue = fits.queue; sent = fits.sent; few = fits.few }

pub part_length : (k : ℕ) (h : Held (List ℕ)) (q : List (List ℕ)) (o : Outgoing) → Parts k h q o → length (take o.sent o.given) ≡ o.sent
part_length k h q o fits = length-take-le o.sent o.given fits.sent

-- ---- a packet that was sent before

pub again_frame : (k : ℕ) (h : Held (List ℕ)) (q : List (List ℕ)) (o : Outgoing) (n nr : ℕ) (x y : List ℕ) → Parts k h q o
    → (o.place < length (take o.sent o.given)) × (n ≡ o.place % 8) × (slice_get (take o.sent o.given) o.place ≡ Some x)
    → y ≡ x → info n nr false y ≡ info (o.place % 8) nr false (next_packet o)
again_frame k h q o n nr x y fits at same =
    let l = part_length k h q o fits in
    let packet = sym (get_or_from_slice_get (take o.sent o.given) o.place x [] at.2) ∙ get_or-take o.sent o.given o.place [] (omega (arith, l, at.0)) in
    rw (at.1, same, packet) refl

-- its packets stay
pub advanced_items : (h : Held (List ℕ)) → (advanced h).items ≡ h.items
advanced_items h = by_test (nat_lt h.before (length h.items))
  where
    by_test : (b : Bool) → (if b then record h { before = h.before + 1 } else h).items ≡ h.items
    by_test true = refl
    by_test false = refl

-- ---- a packet that waited

pub record Next (o : Outgoing) (x : List ℕ) (rest : List (List ℕ)) : Type 0 where
  pub below : o.sent < length o.given
  pub packet : slice_index_or o.given o.sent [] ≡ x
  pub left : rest ≡ drop (o.sent + 1) o.given

pub next_is : (k : ℕ) (h : Held (List ℕ)) (q : List (List ℕ)) (o : Outgoing) (x : List ℕ) (rest : List (List ℕ)) → Parts k h q o → q ≡ x ∷ rest → Next o x rest
next_is k h q o x rest fits queue =
    let waits : drop o.sent o.given ≡ x ∷ rest = sym fits.queue ∙ queue in
    let some = ap length waits in
    let below : o.sent < length o.given = omega (arith, length-drop o.sent o.given) in
    let split = drop_more o.given o.sent [] below in
    record { below = below; packet = cc; left = cc }

pub new_fits : (k : ℕ) (h g : Held (List ℕ)) (q : List (List ℕ)) (o : Outgoing) (x : List ℕ) (rest : List (List ℕ)) → Parts k h q o → o.place ≡ o.sent
    → Next o x rest → length rest ≤ 256
    → Fits g (offered (sending_of k o) x) → Parts k g rest (sent_on o)
new_fits k h g q o x rest fits place next few sender =
    let l = part_length k h q o fits in
    let same : max o.sent (o.place + 1) ≡ o.sent + 1 = omega arith in
    let sender' = rw (eq-eqb o.place (length (take o.sent o.given)) (place ∙ sym l)) at sender in
    rw same (record {
      sender = rw (take_more o.given o.sent [] next.below, next.packet) sender';
      queue = next.left;
      sent = omega (arith, next.below);
      few = few;
    })

pub new_frame : (k : ℕ) (h : Held (List ℕ)) (q : List (List ℕ)) (o : Outgoing) (x : List ℕ) (rest : List (List ℕ)) (nr : ℕ) → Parts k h q o → o.place ≡ o.sent
    → Next o x rest
    → info (length (take o.sent o.given) % 8) nr false x ≡ info (o.place % 8) nr false (next_packet o)
new_frame k h q o x rest nr fits place next =
    let l = part_length k h q o fits in
    rw (l, place, next.packet) refl

pub next_open : (k : ℕ) (h : Held (List ℕ)) (q : List (List ℕ)) (o : Outgoing) (x : List ℕ) (rest : List (List ℕ)) → Parts k h q o → o.place ≡ o.sent
    → Next o x rest → o.sent < o.acked + k → is_open k o ≡ true
next_open k h q o x rest fits place next room =
    rw (lt-ltb o.place (o.acked + k) (omega arith), lt-ltb o.place (length o.given) (omega (arith, next.below))) refl

pub below_of : (n m : ℕ) → n ≤ m → (n ≡ m → false ≡ true) → n < m
below_of n m le differs = by_test (nat_lt n m) refl
  where
    never : false ≡ true → ⊥
    never e = cc

    by_test : (b : Bool) → nat_lt n m ≡ b → n < m
    by_test true e = ltb-true n m e
    by_test false e = let above = ltb-false n m e in absurd (never (differs (omega arith)))

-- ---- packets that are acknowledged, one by one

pub one_released : (h : Held (List ℕ)) (w : Sending (List ℕ)) (n : ℕ) → Fits h (acknowledged (acknowledged w (w.acked + n)) (w.acked + n + 1))
    → Fits h (acknowledged w (w.acked + (n + 1)))
one_released h w n fits =
    let place : max (max w.place (w.acked + n)) (w.acked + n + 1) ≡ max w.place (w.acked + n + 1) = omega arith in
    let number : w.acked + (n + 1) ≡ w.acked + n + 1 = omega arith in
    rw number (rw place at fits)

-- ---- a packet that is handed down where nothing may be sent

pub added_fits : (k : ℕ) (h : Held (List ℕ)) (q : List (List ℕ)) (o : Outgoing) (packet copy : List ℕ) → copy ≡ packet → Parts k h q o → length q < 256
    → Parts k h (q ++ copy ∷ []) (added packet o)
added_fits k h q o packet copy same fits few = record {
  sender = rw (take-append-le o.sent o.given (packet ∷ []) fits.sent) (fits.sender);
  queue = ap (λ (x : List ℕ). q ++ x ∷ []) same ∙ ap (λ (m : List (List ℕ)). m ++ packet ∷ []) fits.queue
      ∙ sym (drop-append-le o.sent o.given (packet ∷ []) fits.sent);
  sent = omega (arith, fits.sent, length-append o.given (packet ∷ []));
  few = omega (arith, few, length-append q (copy ∷ []));
}

-- nothing may be sent though the window is open: all was sent, so that none waits
pub record Rests (k : ℕ) (h : Held (List ℕ)) (q : List (List ℕ)) (o : Outgoing) : Type 0 where
  pub place : o.place ≡ o.sent
  pub none : q ≡ []
  pub room : o.sent < o.acked + k

pub nothing_left : (xs : List (List ℕ)) → length xs ≡ 0 → xs ≡ []
nothing_left [] e = refl
nothing_left (x ∷ xs) e = absurd (omega arith)

pub rests : (k : ℕ) (h : Held (List ℕ)) (q : List (List ℕ)) (o : Outgoing) → Parts k h q o → is_open k o ≡ false → length (take o.sent o.given) < o.acked + k
    → Rests k h q o
rests k h q o fits shut free =
    let l = part_length k h q o fits in
    let low : o.place < o.acked + k = (let high = fits.sender.sound.place_high in omega (arith, l, free, high)) in
    let all = ltb-false o.place (length o.given) (sym (ap (λ (t : Bool). t && nat_lt o.place (length o.given)) (lt-ltb o.place (o.acked + k) low)) ∙ shut) in
    let high = fits.sender.sound.place_high in
    record {
      place = omega (arith, l, all, high, fits.sent);
      none = nothing_left q (let all_wait = ap length fits.queue in omega (arith, all_wait, length-drop o.sent o.given, l, all, high));
      room = omega (arith, l, free);
    }

-- nothing may be sent and the window isn't open
pub full_shut : (k : ℕ) (h : Held (List ℕ)) (q : List (List ℕ)) (o : Outgoing) → Parts k h q o → is_open k o ≡ false → length (take o.sent o.given) ≡ o.acked
    + k → o.acked + k ≤ o.place
full_shut k h q o fits shut full = by_test (nat_lt o.place (o.acked + k)) refl
  where
    by_test : (t : Bool) → nat_lt o.place (o.acked + k) ≡ t → o.acked + k ≤ o.place
    by_test false e = ltb-false o.place (o.acked + k) e
    by_test true e =
        let all = ltb-false o.place (length o.given) (sym (ap (λ (t : Bool). t && nat_lt o.place (length o.given)) e) ∙ shut) in
        omega (arith, part_length k h q o fits, full, all, fits.sent)

-- where it is held up, or may not be sent
pub shut_by : (held may : Bool) → (held ≡ false → may ≡ false) → (not held && may) ≡ false
shut_by true may e = refl
shut_by false may e = e refl

-- What a sender counts, and keeps of each packet.
use Rattle.x25_circuit.proofs.Names.{◌≡◌, ℕ, ◌+◌, ◌<◌, ◌≤◌, Bool, Result, Ok, Err, true, refl, List, [], ◌∷◌, ◌++◌, map, length, drop, slice_get, Some, sym, ap}
use Rattle.x25_circuit.proofs.Names.{subst, ◌∙◌, add_assoc, arith, length-drop, from_bool, bit, Held, resolved, Marks, Transfer, Talk, Piece, asks, asked_in}
use Rattle.std.proofs.{Common.{IsErr, IfOk, OnOk, is_ok, min}, lemmas.List.{map-append}}
use Rattle.x25_bits.specs.declared.seq.Seq.{Seq}
use Rattle.x25_circuit.proofs.AskedLemmas.{asked_append, asked_cut, asked_few, asked_fewer, asked_next, asked_short, bit_few, byte_is_bit, drop_sent}
use Rattle.x25_circuit.proofs.{Names.{◌-◌, length-map, cut, waiting, with_acked, FitsTalk, FitsNumbers}, TalkLemmas.{acked_fits, waits_are}}
use Rattle.x25_window.specs.{Sender.{Sending, Acknowledges, offered, acknowledged}, code.Held.{Fits}, declared.window_error.WindowError.{WindowError}}

-- one packet more is sent, which isn't refused while there is room
pub numbers_sent : (old new : Held Bool) (r : Result Seq WindowError) (n : ℕ) (sent : List Piece) (p : Piece) (b : Bool)
    → ((w : Sending Bool) → Fits old w → OnOk r (Fits new (offered w b)))
    → (IsErr r → length old.items ≡ old.window) → length old.items < 7 → FitsNumbers old n sent → asks p ≡ b → FitsNumbers new n (sent ++ p ∷ [])
numbers_sent old new (Ok ps) n sent p b step full few fits same = record {
  state = offered fits.state b;
  fits = step fits.state fits.fits;
  window = fits.window;
  acked = fits.acked;
  sent = ap (λ (bs : List Bool). bs ++ b ∷ []) fits.sent ∙ ap (λ (a : Bool). map asks sent ++ a ∷ []) (sym same) ∙ sym (map-append asks sent (p ∷ []));
}
numbers_sent old new (Err e) n sent p b step full few fits same = absurd (let h = full refl in omega (arith, h, few, fits.fits.window, fits.window))

-- ---- packets that are acknowledged

pub numbers_acked : (old new : Held Bool) (n count : ℕ) (sent : List Piece) → ((w : Sending Bool) → Fits old w → Fits new (acknowledged w (w.acked + count)))
    → FitsNumbers old n sent
    → FitsNumbers new (n + count) sent
numbers_acked old new n count sent step fits = record {
  state = acknowledged fits.state (fits.state.acked + count);
  fits = step fits.state fits.fits;
  window = fits.window;
  acked = ap (λ (m : ℕ). m + count) fits.acked;
  sent = fits.sent;
}

-- one more, which is handed out
pub numbers_released : (old new : Held Bool) (n count : ℕ) (sent : List Piece) → ((w : Sending Bool) → Fits old w → Fits new (acknowledged w (w.acked + 1)))
    → FitsNumbers old (n + count) sent
    → FitsNumbers new (n + (count + 1)) sent
numbers_released old new n count sent step fits =
    subst (λ (m : ℕ). FitsNumbers new m sent) (add_assoc n count 1) (numbers_acked old new (n + count) 1 sent step fits)

pub released_asks : (h : Held Bool) (n count : ℕ) (sent : List Piece) (b : Bool) → FitsNumbers h (n + count) sent → slice_get h.items 0 ≡ Some b
    → bit b + asked_in (drop (n + (count + 1)) sent) ≡ asked_in (drop (n + count) sent)
released_asks h n count sent b fits first =
    let kept = fits.fits.items ∙ ap (λ (m : ℕ). drop m fits.state.given) fits.acked ∙ ap (drop (n + count)) fits.sent in
    subst (λ (m : ℕ). bit b + asked_in (drop m sent) ≡ asked_in (drop (n + count) sent)) (add_assoc n count 1)
    (asked_next (n + count) sent b (ap (λ (bs : List Bool). slice_get bs 0) (sym kept) ∙ first))

-- so many, by a P(R)
resolved_by : (h : Held Bool) (n count pr : ℕ) (sent : List Piece) → ((w : Sending Bool) → Fits h w → w.acked + count ≡ resolved w.acked pr)
    → FitsNumbers h n sent → n + count ≡ resolved n pr
resolved_by h n count pr sent is fits = subst (λ (m : ℕ). m + count ≡ resolved m pr) fits.acked (is fits.state fits.fits)

-- where confirmation isn't asked, of whatever is sent or waits
pub acked_unasked : (size : ℕ) (v : Transfer) (t : Talk) (sender : Held Bool) (r : Result ℕ WindowError) (pr : ℕ)
    → ((w : Sending Bool) → Fits v.sender w → IfOk r (λ count. Fits sender (acknowledged w (w.acked + count))))
    → ((w : Sending Bool) → Fits v.sender w → IfOk r (λ count. w.acked + count ≡ resolved w.acked pr))
    → is_ok r ≡ true → v.unconfirmed ≡ 0 → FitsTalk size v t → FitsTalk size (record v { sender = sender }) (with_acked (resolved t.acked pr) t)
acked_unasked size v t sender (Ok count) pr step is ok none fits =
    let fewer = asked_fewer t.acked count (t.sent ++ t.rest) in
    subst (λ (n : ℕ). FitsTalk size (record v { sender = sender }) (with_acked n t)) (resolved_by v.sender t.acked count pr t.sent is fits.numbers)
    (acked_fits size v t sender (t.acked + count) v.unconfirmed fits (numbers_acked v.sender sender t.acked count t.sent step fits.numbers)
    (omega (arith, fewer, none, fits.unconfirmed)))
acked_unasked size v t sender (Err e) pr step is ok none fits = absurd (cc)

pub acked_asked : (size : ℕ) (v : Transfer) (t : Talk) (sender : Held Bool) (count asked pr unconfirmed : ℕ)
    → ((w : Sending Bool) → Fits v.sender w → w.acked + count ≡ resolved w.acked pr)
    → ((w : Sending Bool) → Fits v.sender w → Acknowledges w pr (w.acked + count))
    → asked + asked_in (drop (t.acked + count) t.sent) ≡ asked_in (drop t.acked t.sent) → unconfirmed ≡ v.unconfirmed - asked
    → FitsNumbers sender (t.acked + count) t.sent → FitsTalk size v t
    → FitsTalk size (record v { sender = sender; unconfirmed = unconfirmed }) (with_acked (resolved t.acked pr) t)
acked_asked size v t sender count asked pr unconfirmed is valid less left numbers fits =
    let within = (valid fits.numbers.state fits.numbers.fits).high in
    let given = ap length fits.numbers.sent ∙ length-map t.sent asks in
    let high : t.acked + count ≤ length t.sent = omega (arith, within, given, fits.numbers.acked) in
    let before = drop_sent t.acked t.sent t.rest (omega (arith, high)) in
    let after = drop_sent (t.acked + count) t.sent t.rest high in
    subst (λ (n : ℕ). FitsTalk size (record v { sender = sender; unconfirmed = unconfirmed }) (with_acked n t))
    (resolved_by v.sender t.acked count pr t.sent is fits.numbers)
    (acked_fits size v t sender (t.acked + count) unconfirmed fits numbers (omega (arith, before, after, less, left, fits.unconfirmed)))

-- ---- how many ask

sent_more : (size : ℕ) (v : Transfer) (t : Talk) (rest : List Piece) → FitsTalk size v t → asked_in (drop t.acked (t.sent ++ rest))
    ≡ asked_in (drop t.acked t.sent) + asked_in rest
sent_more size v t rest fits =
    let sound = fits.numbers.fits.sound in
    drop_sent t.acked t.sent rest (omega (arith, sound.place_low, sound.place_high, ap length fits.numbers.sent ∙ length-map t.sent asks, fits.numbers.acked))

-- at most 7 packets aren't acknowledged
sent_few : (size : ℕ) (v : Transfer) (t : Talk) → FitsTalk size v t → asked_in (drop t.acked t.sent) ≤ 7
sent_few size v t fits =
    let given = ap length fits.numbers.sent ∙ length-map t.sent asks in
    omega (arith, asked_short (drop t.acked t.sent), length-drop t.acked t.sent, fits.numbers.fits.sound.room, given, fits.numbers.acked, fits.numbers.window)

pub unconfirmed_few : (size : ℕ) (v : Transfer) (t : Talk) → FitsTalk size v t → v.unconfirmed ≤ 7 + length (waiting v.queue)
unconfirmed_few size v t fits =
    omega (arith, fits.unconfirmed, sent_more size v t t.rest fits, sent_few size v t fits, asked_few t.rest, waits_are size v t fits)

-- a message more waits
pub asked_more : (size : ℕ) (v : Transfer) (t : Talk) (marks : Marks) (user : List ℕ) (byte unconfirmed : ℕ) → length (waiting v.queue) < 8 → byte
    ≡ from_bool marks.d
    → unconfirmed ≡ min (v.unconfirmed + byte) 255 → FitsTalk size v t → unconfirmed ≡ asked_in (drop t.acked (t.sent ++ (t.rest ++ cut size marks user)))
asked_more size v t marks user byte unconfirmed few is sum fits =
    omega (
      arith,
      unconfirmed_few size v t fits,
      few,
      sent_more size v t t.rest fits,
      sent_more size v t (t.rest ++ cut size marks user) fits,
      asked_append t.rest (cut size marks user),
      asked_cut (length user) size marks user,
      is,
      byte_is_bit marks.d,
      bit_few marks.d,
      sum,
      fits.unconfirmed,
    )

-- What each step does to the parts of the relation of two stretches.
use Rattle.x25_handshakes.proofs.Names.{◌≡◌, ℕ, ◌+◌, ◌%◌, ◌<◌, ◌≤◌, List, [], ◌∷◌, ◌++◌, length, Some, None, Bool, true, false, refl, sym, ap, subst, ◌∙◌, arith}
use Rattle.x25_handshakes.proofs.Names.{append_assoc, length-append, length_push, append-nil, Marks, Message, Piece, no_part, joining, carried_from, carried}
use Rattle.std.proofs.Common.{◌-◌}
use Rattle.x25_circuit.specs.Message.{completed}
use Rattle.x25_handshakes.proofs.HandshakeLemmas.{each_append}
use Rattle.x25_handshakes.proofs.LineLemmas.{resolved_is, hears_least, heard_least, heard_push, pieces_push, ints_push, confs_push, Numbered_push}
use Rattle.x25_handshakes.proofs.{Names.{AreSound, cut, Packet, Data, Int, IntConf}, StretchRelation.{InFlowControl, Line, Acks, Ints, Text}}
use Rattle.x25_handshakes.proofs.StretchRelation.{numbering, ack_in, int_in, conf_in, piece_of, pieces, number_at, Numbered, hears, heard, ints, confs}
use Rattle.x25_handshakes.proofs.TextLemmas.{joining-append, carried-append, AreSound-append, AreSound-cut, joining-cut, carried-cut}

-- the data packets on the way, in their numbers

-- as many were sent as were taken and are on the way
pub Line-le : {sent taken : List Piece} {u : List Packet} → Line sent taken u → length sent ≡ length taken + length (pieces u)
Line-le {taken} {u} h = ap length h.flow ∙ length-append taken (pieces u)

-- a DATA packet is sent
pub Line-send : {sent taken : List Piece} {u : List Packet} (r : ℕ) (p : Piece) → Line sent taken u
    → Line (sent ++ p ∷ []) taken (u ++ Data (length sent % 8) r p ∷ [])
Line-send {sent} {taken} {u} r p h = record {
  flow = ap (λ l. l ++ p ∷ []) h.flow ∙ append_assoc taken (pieces u) (p ∷ []) ∙ ap (λ l. taken ++ l) (sym (pieces_push u (Data (length sent % 8) r p)));
  numbers = Numbered_push (length taken) u (Data (length sent % 8) r p) h.numbers (ap (λ n. n % 8) (Line-le h), tt);
  kinds = each_append InFlowControl u (Data (length sent % 8) r p ∷ []) h.kinds (tt, tt);
}

-- a packet of flow control without P(S) is sent
pub Line-push : {sent taken : List Piece} {u : List Packet} (q : Packet) → numbering q ≡ None → InFlowControl q → Line sent taken u
    → Line sent taken (u ++ q ∷ [])
Line-push {taken} {u} q none is h = record {
  flow = h.flow ∙ ap (λ l. taken ++ l) (sym (pieces_push u q ∙ ap (λ c. pieces u ++ piece_of c) none ∙ append-nil (pieces u)));
  numbers = Numbered_push (length taken) u q h.numbers (rw none tt);
  kinds = each_append InFlowControl u (q ∷ []) h.kinds (is, tt);
}

-- the DATA packet in front is taken
pub Line-take : {sent taken : List Piece} (u : List Packet) (s r : ℕ) (p : Piece) → Line sent taken (Data s r p ∷ u) → Line sent (taken ++ p ∷ []) u
Line-take {taken} u s r p h = record {
  flow = h.flow ∙ sym (append_assoc taken (p ∷ []) (pieces u));
  numbers = rw (length_push taken p) h.numbers.1;
  kinds = h.kinds.1;
}

-- a packet without a number is taken off in front
pub Line-skip : {sent taken : List Piece} (u : List Packet) (q : Packet) → numbering q ≡ None → Line sent taken (q ∷ u) → Line sent taken u
Line-skip {sent} {taken} u q none h = record {
  flow = subst (λ c. sent ≡ taken ++ (piece_of c ++ pieces u)) none h.flow;
  numbers = subst (λ c. number_at (length taken) c (λ m. Numbered m u)) none h.numbers;
  kinds = h.kinds.1;
}

-- the window, and the numbers P(R) on the way back

-- the other end acknowledges so many
pub Acks-told : {acked sent : ℕ} {v : List Packet} {told taken : ℕ} (n : ℕ) (q : Packet) → told ≤ n → n ≤ taken → taken ≤ sent
    → ack_in q ≡ Some (n % 8) → Acks acked sent v told taken → Acks acked sent (v ++ q ∷ []) n taken
Acks-told {acked} {sent} {v} {told} {taken} n q rising le few is h =
    let least = heard_least acked v in
    let room = h.room in
    let now = h.acks in
    let low : heard acked v ≤ n = omega arith in
    let high : n < heard acked v + 8 = omega arith in
    record { room = room; acks = heard_push acked v q ∙ ap (λ r. hears (heard acked v) r) is ∙ resolved_is (heard acked v) n low high; late = le }

-- it sends a packet without P(R)
pub Acks-pass : {acked sent : ℕ} {v : List Packet} {told taken : ℕ} (q : Packet) → ack_in q ≡ None → Acks acked sent v told taken
    → Acks acked sent (v ++ q ∷ []) told taken
Acks-pass {acked} {v} q is h = record { room = h.room; acks = heard_push acked v q ∙ ap (λ r. hears (heard acked v) r) is ∙ h.acks; late = h.late }

-- more is sent, within the window
pub Acks-more : {acked sent : ℕ} (more : ℕ) {v : List Packet} {told taken : ℕ} → more ≤ acked + 7 → Acks acked sent v told taken → Acks acked more v told taken
Acks-more more room h = record { room = room; acks = h.acks; late = h.late }

-- more is taken
pub Acks-taken : {acked sent : ℕ} {v : List Packet} {told taken : ℕ} (more : ℕ) → taken ≤ more → Acks acked sent v told taken → Acks acked sent v told more
Acks-taken more le h = let late = h.late in record { room = h.room; acks = h.acks; late = omega arith }

-- the packet in front is taken, with its P(R) or without
pub Acks-hear : {acked sent : ℕ} {p : Packet} (v : List Packet) {told taken : ℕ} → Acks acked sent (p ∷ v) told taken
    → Acks (hears acked (ack_in p)) sent v told taken
Acks-hear {acked} {p} v h =
    let room = h.room in
    let more = hears_least acked (ack_in p) in
    record { room = omega arith; acks = h.acks; late = h.late }

-- that P(R) is valid
pub heard_below : {acked sent : ℕ} {p : Packet} {v : List Packet} {told taken : ℕ} → taken ≤ sent → Acks acked sent (p ∷ v) told taken
    → hears acked (ack_in p) ≤ sent
heard_below {acked} {p} {v} few h =
    let now = h.acks in
    let late = h.late in
    omega (arith, heard_least (hears acked (ack_in p)) v)

-- interrupts and their confirmations

-- another packet than INTERRUPT is sent
pub Ints-there : {out : Bool} {down up : List (List ℕ)} {u v : List Packet} {owed : ℕ} (q : Packet) → int_in q ≡ [] → Ints out down up u v owed
    → Ints out down up (u ++ q ∷ []) v owed
Ints-there {up} {u} {v} {owed} q none h =
    let e = ints_push u q ∙ ap (λ l. ints u ++ l) none ∙ append-nil (ints u) in
    record { count = h.count ∙ ap (λ l. (length l + confs v) + owed) (sym e); flow = h.flow ∙ ap (λ l. up ++ l) (sym e) }

-- the other end sends another packet than the confirmation
pub Ints-back : {out : Bool} {down up : List (List ℕ)} {u v : List Packet} {owed : ℕ} (q : Packet) → conf_in q ≡ 0 → Ints out down up u v owed
    → Ints out down up u (v ++ q ∷ []) owed
Ints-back {v} q none h = let count = h.count in record { count = omega (arith, count, confs_push v q); flow = h.flow }

-- an INTERRUPT is sent
pub Ints-send : {down up : List (List ℕ)} {u v : List Packet} {owed : ℕ} (xs : List ℕ) → Ints false down up u v owed
    → Ints true (down ++ xs ∷ []) up (u ++ Int xs ∷ []) v owed
Ints-send {up} {u} xs h =
    let e = ints_push u (Int xs) in
    let n : length (ints (u ++ Int xs ∷ [])) ≡ length (ints u) + 1 = ap length e ∙ length_push (ints u) xs in
    let count = h.count in
    record {
      count = omega (arith, count, n);
      flow = ap (λ l. l ++ xs ∷ []) h.flow ∙ append_assoc up (ints u) (xs ∷ []) ∙ ap (λ l. up ++ l) (sym e);
    }

-- the other end takes it, and has to confirm it
pub Ints-take : {out : Bool} {down up : List (List ℕ)} (u : List Packet) {v : List Packet} {owed : ℕ} (xs : List ℕ) → Ints out down up (Int xs ∷ u) v owed
    → Ints out down (up ++ xs ∷ []) u v (owed + 1)
Ints-take {up} u xs h = let count = h.count in record { count = omega (arith, count); flow = h.flow ∙ sym (append_assoc up (xs ∷ []) (ints u)) }

-- and does so
pub Ints-confirm : {out : Bool} {down up : List (List ℕ)} {u v : List Packet} {owed : ℕ} → 1 ≤ owed → Ints out down up u v owed
    → Ints out down up u (v ++ IntConf ∷ []) (owed - 1)
Ints-confirm {v} some h = let count = h.count in record { count = omega (arith, count, confs_push v IntConf); flow = h.flow }

-- another packet than INTERRUPT is taken
pub Ints-past : {out : Bool} {down up : List (List ℕ)} (u : List Packet) {v : List Packet} {owed : ℕ} (q : Packet) → int_in q ≡ []
    → Ints out down up (q ∷ u) v owed → Ints out down up u v owed
Ints-past {up} u {v} {owed} q none h = record {
  count = h.count ∙ ap (λ l. (length (l ++ ints u) + confs v) + owed) none;
  flow = h.flow
      ∙ ap (λ l. up ++ (l ++ ints u)) none;
}

-- another packet than the confirmation comes back
pub Ints-skip : {out : Bool} {down up : List (List ℕ)} {u : List Packet} (v : List Packet) {owed : ℕ} (q : Packet) → conf_in q ≡ 0
    → Ints out down up u (q ∷ v) owed → Ints out down up u v owed
Ints-skip v q none h = let count = h.count in record { count = omega (arith, count); flow = h.flow }

-- while a confirmation is on the way an interrupt is out
pub Ints-out : (out : Bool) {down up : List (List ℕ)} {u : List Packet} (v : List Packet) {owed : ℕ} → Ints out down up u (IntConf ∷ v) owed → out ≡ true
Ints-out true v h = refl
Ints-out false v h = absurd (omega (arith, h.count))

-- the confirmation comes back
pub Ints-conf : {down up : List (List ℕ)} {u : List Packet} (v : List Packet) {owed : ℕ} → Ints true down up u (IntConf ∷ v) owed → Ints false down up u v owed
Ints-conf v h = let count = h.count in record { count = omega (arith, count); flow = h.flow }

-- messages

pub Text-send : {longest size : ℕ} {sent rest : List Piece} {down : List Message} (q : Marks) (xs : List ℕ) → 1 ≤ size → length xs ≤ longest
    → Text longest size sent rest down
    → Text longest size sent (rest ++ cut size q xs) (down ++ record { marks = q; user = xs } ∷ [])
Text-send {longest} {size} {sent} {rest} q xs one small h =
    let e = append_assoc sent rest (cut size q xs) in
    let far : length xs ≤ size + length xs = omega arith in
    record {
      fits = rw (sym e) (AreSound-append longest size no_part (sent ++ rest) (cut size q xs) h.fits
          (subst (λ j. AreSound longest size j (cut size q xs)) (sym h.whole) (AreSound-cut (length xs) longest size q xs no_part one far (omega arith) refl)));
      whole = ap (joining no_part) (sym e) ∙ joining-append no_part (sent ++ rest) (cut size q xs)
          ∙ joining-cut (length xs) size q xs (joining no_part (sent ++ rest));
      messages = ap (λ l. l ++ record { marks = q; user = xs } ∷ []) h.messages
          ∙ sym (ap carried (sym e) ∙ carried-append no_part (sent ++ rest) (cut size q xs)
          ∙ ap (λ j. carried (sent ++ rest) ++ carried_from j (cut size q xs)) h.whole
          ∙ ap (λ l. carried (sent ++ rest) ++ l) (carried-cut (length xs) size q xs no_part));
    }

pub Text-pull : {longest size : ℕ} {sent : List Piece} (p : Piece) (rest : List Piece) {down : List Message} → Text longest size sent (p ∷ rest) down
    → Text longest size (sent ++ p ∷ []) rest down
Text-pull {sent} p rest h =
    let e : sent ++ (p ∷ rest) ≡ (sent ++ p ∷ []) ++ rest = sym (append_assoc sent (p ∷ []) rest) in
    record {
      fits = rw (sym e) h.fits;
      whole = ap (joining no_part) (sym e) ∙ h.whole;
      messages = h.messages ∙ ap carried e;
    }

pub up-take : (up : List Message) (taken : List Piece) (p : Piece) → up ≡ carried taken → up ++ completed (joining no_part taken) p ≡ carried (taken ++ p ∷ [])
up-take up taken p is =
    ap (λ l. l ++ completed (joining no_part taken) p) is
    ∙ sym (carried-append no_part taken (p ∷ []) ∙ ap (λ l. carried taken ++ l) (append-nil (completed (joining no_part taken) p)))

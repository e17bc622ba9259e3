use Rattle.std.proofs.Common.{◌≡◌, ◌∙◌, ◌++◌, ◌≤◌, ℕ, List, length, map, take, drop, slice_set, append-nil, ap, sym, arith}
use Rattle.std.proofs.lemmas.{List.{take_all, drop_all, length-map}, List.Edits.{map_over_more}}
use Rattle.std.specs.Option.{option_map}
use Rattle.x25_packet_judge.specs.Channel.{happens}
use Rattle.x25_packet_judge.proofs.channels.each_happens.Goals as goal

-- what was changed is written back to the vector
written_back : {A : Type 0} (f : A → A) (i len : ℕ) (xs ys : List A) → ys ≡ map f (take i xs) ++ drop i xs → length xs ≤ i → length xs ≤ len
    → take len (ys ++ drop (length ys) xs) ≡ map f xs
written_back f i len xs ys h all high =
    let size = length-map xs f in
    let now = h ∙ ap (λ zs. map f zs ++ drop i xs) (take_all i xs all) ∙ ap (λ zs. map f xs ++ zs) (drop_all i xs all) ∙ append-nil (map f xs) in
    ap (λ zs. take len (zs ++ drop (length zs) xs)) now ∙ ap (λ zs. take len (map f xs ++ zs)) (drop_all (length (map f xs)) xs (omega (arith, size)))
    ∙ ap (take len) (append-nil (map f xs)) ∙ take_all len (map f xs) (omega (arith, size, high))

pub loop-place-preserved : goal.loop-place-preserved
loop-place-preserved c =
    let f = option_map (happens c.args.event) in
    ap (slice_set c.loop-place.place-items c.loop-place.place-index) (c.happens.ensures ∙ ap f (sym c.place-item.is))
    ∙ map_over_more f c.deref_mut-place-items.result.now c.loop-place.place-items c.loop-place.place-index c.place-item.result c.loop-place-test.true
    c.loop-place.invariant c.place-item.is

pub returns-clause-items : goal.returns-clause-items
returns-clause-items c =
    let f = option_map (happens c.args.event) in
    let high : length c.args.seen.now.items ≤ c.args.seen.now.len = omega arith in
    let same = c.deref_mut-place-items.ensures.value in
    written_back f c.loop-place.place-index c.args.seen.now.len c.args.seen.now.items c.loop-place.place-items
    (c.loop-place.invariant ∙ ap (λ xs. map f (take c.loop-place.place-index xs) ++ drop c.loop-place.place-index xs) same)
    (rw (← same) c.loop-place-test.false) high

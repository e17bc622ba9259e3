use Rattle.std.proofs.Common.{ℕ, ◌≡◌, ◌<◌, ◌+◌, ◌∙◌, false, List, [], ◌∷◌, ◌++◌, length, map, take, get_or, ap, sym, append_assoc, arith}
use Rattle.std.{proofs.lemmas.List.{map_more}, specs.Fmt.{digit_glyph}}
use Rattle.x25_text.proofs.wide_packet_text.push_each_half.Goals as goal

abbrev shown : List ℕ → List ℕ
shown halves = map (λ h. digit_glyph false h) halves

one_more : (old halves : List ℕ) (place half : ℕ) → place < length halves → half ≡ get_or halves place 0
    → (old ++ shown (take place halves)) ++ (digit_glyph false half ∷ []) ≡ old ++ shown (take (place + 1) halves)
one_more old halves place half inside same =
    append_assoc old (shown (take place halves)) (digit_glyph false half ∷ [])
    ∙ ap (λ n. old ++ (shown (take place halves) ++ (digit_glyph false n ∷ []))) same
    ∙ ap (λ text. old ++ text) (sym (map_more (λ h. digit_glyph false h) halves place 0 inside))

pub loop-place-preserved : goal.loop-place-preserved
loop-place-preserved c = record {
  text_is =
      c.push_half.ensures.text
      ∙ ap (λ text. text ++ (digit_glyph false c.get.result ∷ [])) c.loop-place.invariant.text_is
      ∙ one_more c.args.text.now c.args.halves.now c.loop-place.place c.get.result (omega arith) c.get.ensures.value;
  size = omega (arith, c.push_half.ensures.size, c.loop-place.invariant.size);
}

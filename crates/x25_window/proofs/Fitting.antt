-- What a sender that fits a state says of it.
use Rattle.std.proofs.Common.{◌≡◌, ℕ, ◌+◌, ◌-◌, ◌%◌, ◌≤◌, List, length, drop, ap, ◌∙◌, arith}
use Rattle.std.proofs.lemmas.List.{length-drop, drop-drop}
use Rattle.x25_window.specs.Sender.{Sending, acknowledged}
use Rattle.x25_window.specs.code.Held.{Held, Fits}

pub Fits_length : {T : Type 0} (h : Held T) (w : Sending T) → Fits h w → w.acked + length h.items ≡ length w.given
Fits_length h w fits =
    omega (arith, ap length fits.items ∙ length-drop w.acked w.given)

-- without its first items it fits the state in which these are acknowledged
pub Fits_acknowledged : {T : Type 0} (h : Held T) (w : Sending T) (count first before : ℕ) (items : List T) → Fits h w → count ≤ length h.items → first
    ≡ (h.first + count) % 8
    → before ≡ h.before - count → items ≡ drop count h.items
    → Fits (record { window = h.window; first = first; before = before; items = items }) (acknowledged w (w.acked + count))
Fits_acknowledged h w count first before items fits some next place rest =
    let held = Fits_length h w fits in
    let sound = fits.sound in
    let low = sound.place_low in
    let high = sound.place_high in
    let room = sound.room in
    record {
      sound = record {
        window_low = sound.window_low;
        window_high = sound.window_high;
        place_low = omega arith;
        place_high = omega arith;
        room = omega arith;
      };
      window = fits.window;
      first = omega (arith, fits.first, next);
      place = omega (arith, fits.place, place);
      items = rest ∙ ap (drop count) fits.items ∙ drop-drop count w.acked w.given;
    }

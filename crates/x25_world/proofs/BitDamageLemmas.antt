-- Damage to the bits of the line is damage to the octets, and is refused for no other ground than its own.
use Rattle.x25_world.proofs.Names.{◌≡◌, ◌∙◌, ℕ, ◌<◌, nat_lt, Bool, true, false, not, List, length, None, Result, Ok, Err, IfErr, refl, ap, is_sealed}
use Rattle.x25_world.proofs.Names.{is_visible, Cfg, WorldError, World, Damages, happens, refusal_of, damaged, ShownWorld, FitsWorld, IsRefusal, end_of, line_of}
use Rattle.std.{proofs.Common.{lt-ltb}, proofs.lemmas.Bool.{or_right}, specs.Prelude.{◌||◌}}
use Rattle.x25_bits.specs.declared.direction.{Direction.{Direction}, Direction.TheVariants.{ToDce, ToDte}}
use Rattle.x25_world.{proofs.WorldLemmas.{only_memory}, specs.BitDamage.{RefusesBits}}
use Rattle.x25_world.specs.declared.error.WorldError.TheVariants as error

shown : (octets : List ℕ) → is_sealed octets ≡ false → is_visible octets ≡ true
shown octets h = ap (λ b. nat_lt (length octets) 4 || not b) h ∙ or_right (nat_lt (length octets) 4) true refl

damage_happens : (w : World) (place : ℕ) (octets : List ℕ) → place < length w.back → is_sealed octets ≡ false → refusal_of (damaged w place octets) ≡ None
damage_happens w place octets h s = rw (lt-ltb place (length w.back) h, shown octets s) refl

damage_accepted : {cfg : Cfg} {v : ShownWorld} {w : World} (direction : Direction) (place : ℕ) (octets : List ℕ) → FitsWorld cfg v w
    → place < length (line_of v direction)
    → is_sealed octets ≡ false → refusal_of (happens cfg w (record { at = end_of direction; act = Damages place octets })) ≡ None
damage_accepted {w} ToDte place octets fits h s = damage_happens w place octets (rw fits.to_dte at h) s
damage_accepted {w} ToDce place octets fits h s =
    let here : place < length w.out = rw fits.to_dce at h in
    rw (lt-ltb place (length w.out) here, shown octets s) refl

refuses_memory : (frames : List (List ℕ)) (place : ℕ) (bits : List Bool) (r : Result (Unit {0}) WorldError) → place < length frames
    → IfErr r (λ e. e ≡ error.NoMemory)
    → IfErr r (RefusesBits frames place bits)
refuses_memory frames place bits (Ok x) h m = tt
refuses_memory frames place bits (Err e) h m = rw m h

-- an event of harmless bits, where a frame is, is refused for want of memory alone
pub refuses_bits : {cfg : Cfg} {v : ShownWorld} {w : World} (direction : Direction) (place : ℕ) (bits : List Bool) (octets : List ℕ)
    (r : Result (Unit {0}) WorldError)
    → FitsWorld cfg v w → place < length (line_of v direction) → is_sealed octets ≡ false
    → IfErr r (IsRefusal cfg w (record { at = end_of direction; act = Damages place octets }))
    → IfErr r (RefusesBits (line_of v direction) place bits)
refuses_bits {cfg} {v} {w} direction place bits octets r fits h s refused =
    refuses_memory (line_of v direction) place bits r h (only_memory _ r (damage_accepted direction place octets fits h s) refused)

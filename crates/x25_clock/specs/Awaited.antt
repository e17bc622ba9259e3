-- Which waits the list of a clock has, and where nothing is under way.
use Rattle.std.specs.Prelude.{◌≡◌, ℕ, ◌<◌, ◌≤◌, List, [], ◌∷◌, Option, None}
use Rattle.std.proofs.Props.{props}
use Rattle.x25_circuit.specs.declared.awaits.Awaits.{Awaits}
use Rattle.x25_circuit.specs.declared.awaits.Awaits.TheVariants.{Nothing}
use Rattle.x25_clock.specs.declared.wait.Wait.{Wait}

-- each on a channel behind one and up to another, in rising order
abbrev pub AreListed : ℕ → ℕ → List Wait → Type 0
AreListed most past [] = Unit {0}
AreListed most past (w ∷ ws) = (past < w.channel) × (w.channel ≤ most) × AreListed most w.channel ws

-- which is a fact, so that a type may keep it
pub listed_is_fact : (most past : ℕ) (ws : List Wait) → IsProp (AreListed most past ws)
listed_is_fact most past [] = hlevel props
listed_is_fact most past (w ∷ ws) =
    let rest : IsProp (AreListed most w.channel ws) = listed_is_fact most w.channel ws in hlevel (props, rest)

-- nothing is awaited on channels behind one and before another, and no data packet isn't acknowledged
abbrev pub AwaitsNone : (ℕ → Awaits) → (ℕ → Option ℕ) → ℕ → ℕ → Type 0
AwaitsNone awaited unacknowledged past end = (h : ℕ) → past < h → h < end
    → (awaited h ≡ Nothing) × (unacknowledged h ≡ None)

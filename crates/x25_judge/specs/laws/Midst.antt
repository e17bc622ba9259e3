-- A link that the trace finds set up, at its beginning or behind a gap: where both ends stand once they are known.
-- ITU-T X.25 (10/96), sections 2.3.4.9, 2.4.5 and 2.4.8.6.
use Rattle.std.specs.Prelude.{◌≡◌, ℕ, ◌+◌, ◌%◌, ◌≤◌, Bool, true, List, [], ◌∷◌, ◌++◌}
use Rattle.x25_bits.specs.declared.role.Role.{Role}
use Rattle.x25_frame.specs.Frame.{PlainFrame}
use Rattle.x25_judge.specs.{Judge.{answer_to, own_of}, Midst.{are_known, numbers, sends}}
use Rattle.x25_judge.specs.declared.{judge.Judge.{Judge}, midst.Watch.{Watch}, midst.Watch.TheVariants.{Unseen}}
use Rattle.x25_judge.specs.laws.{Session.{Shows}, Tapes.{found_by, takes_up}}
use Rattle.x25_possible_links.specs.code.Steps.{begun_as}
use Rattle.x25_possible_links.specs.declared.{frame.Frame.{Frame}, frame.Frame.TheVariants.{Info, Ready}}
use Rattle.x25_possible_links.specs.declared.stand.Numbers.{Numbers}
use Rattle.x25_possible_links.specs.laws.Link.{heard, may_acknowledge, may_number, sent_to, told_to}

-- ---- what the judge makes of it

-- Each end is in a session, with nothing on the way to it.
abbrev pub LinksAreTakenUp : Type 0
LinksAreTakenUp =
    (of from : Role) (j : Judge) (line octets : List ℕ) (frame : PlainFrame) → Shows line from octets frame
    → takes_up j from frame ≡ true
    → (own_of of (answer_to j line).next).set ≡ begun_as (found_by of from j frame ∷ [])

-- ---- two ends that keep the rules for numbers, and a trace that begins at any moment

-- its numbers, what is on the way to it, and what the trace shows of it
pub record Side : Type 0 where
  pub numbers : Numbers
  pub way : List Frame
  pub watch : Watch

abbrev pub unseen : Side
unseen = record { numbers = record { sent = 0; acked = 0; taken = 0; told = 0 }; way = []; watch = Unseen }

-- a frame goes from the first to the second
abbrev pub goes_from : Numbers → Frame → Side → Side
goes_from k x a = record a { numbers = k; watch = sends x a.watch }

abbrev pub goes_to : Frame → Side → Side
goes_to x b = record b { way = b.way ++ x ∷ [] }

pub data MayRun : Side → Side → Type 0 where
  -- a set-up, which the trace doesn't show
  Begins : MayRun unseen unseen
  -- what is so of one is so of the other
  Swaps : (a b : Side) → MayRun a b → MayRun b a
  -- the trace begins, or goes on behind a gap
  Forgets : (a b : Side) → MayRun a b → MayRun (record a { watch = Unseen }) (record b { watch = Unseen })
  -- one sends an I frame
  Counts : (a b : Side) (n t ns nr : ℕ) (differs : Bool) → may_number n a.numbers ns differs ≡ true
      → may_acknowledge t a.numbers nr ≡ true → MayRun a b
      → MayRun (goes_from (told_to t (sent_to n a.numbers)) (Info ns nr differs) a) (goes_to (Info ns nr differs) b)
  -- or RR, RNR or REJ
  Tells : (a b : Side) (t nr : ℕ) → may_acknowledge t a.numbers nr ≡ true → MayRun a b
      → MayRun (goes_from (told_to t a.numbers) (Ready nr) a) (goes_to (Ready nr) b)
  -- what is in front comes, and is heard and taken or not, or is lost
  Comes : (a b : Side) (x : Frame) (way : List Frame) (hears takes : Bool) → a.way ≡ x ∷ way → MayRun a b
      → MayRun (record a { numbers = heard hears takes a.numbers x; way = way }) b

-- An end has such numbers, modulo 8: V(S) and its last N(R) are these; no more is acknowledged to it, and it took no
-- more.
pub record IsFound (a k : Numbers) : Type 0 where
  pub sent : k.sent % 8 ≡ a.sent % 8
  pub acked : a.acked + k.sent ≤ a.sent + k.acked
  pub told : k.told % 8 ≡ a.told % 8
  pub taken : a.taken + k.told ≤ k.taken + a.told

-- whatever is lost, and whenever the trace began, both ends have the numbers with which they are taken up
abbrev pub NumbersAreFound : Type 0
NumbersAreFound =
    (a b : Side) → MayRun a b → are_known a.watch b.watch ≡ true → IsFound a.numbers (numbers a.watch b.watch)
    × IsFound b.numbers (numbers b.watch a.watch)

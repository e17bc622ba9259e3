-- From which places an end comes to a place of a run, or to a better one.
use Rattle.x25_possible_links.proofs.Names.{◌≡◌, true, List, [], ◌∷◌, ◌++◌, IsIn, State, At, Owes, MayTake, passes, hears, begins, owes, fresh, owed}
use Rattle.x25_possible_links.proofs.Names.{may_answer, heard, onward, Frame, Stand, Asking, Up, Free}
use Rattle.x25_possible_links.proofs.Stands.{Below, below_self, below_on, heard_below, onward_both, below_onward}

-- From a stand, with such a way, it comes to this place of a run, or to a better stand there.
pub data Covers : Stand → List Frame → State → List Frame → Type 0 where
  Here : (s u : Stand) (way : List Frame) → Below s u → Covers u way (At s) way
  Asked : (s u r : Stand) (x : Frame) (way : List Frame) → Below s u → IsIn r (owed s x) → Covers u (x ∷ way) (Owes r) way
  Later : (u : Stand) (x : Frame) (way : List Frame) (s : State) (end : List Frame) → Covers (onward u x) way s end
      → Covers u (x ∷ way) s end
  Begins : (x : Frame) (way : List Frame) (s : State) (end : List Frame) → may_answer x ≡ true → Covers fresh way s end
      → Covers Asking (x ∷ way) s end

-- ---- what comes

-- behind what comes it is so from the same place
take_here : (s u : Stand) (x : Frame) (way : List Frame) (r : State) → Below s u → MayTake (At s) x r → Covers u (x ∷ way) r way
take_here _ u _ way _ b (passes s x) = Later u x way (At s) way (Here s (onward u x) way (below_onward s u x b))
take_here _ (Up j) _ way _ b (hears k x h t) =
    Later (Up j) x way (At (Up (heard h t k x))) way
    (Here (Up (heard h t k x)) (Up (heard true true j x)) way (heard_below h t k j x b))
take_here _ Free _ way _ b (hears k x h t) =
    Later Free x way (At (Up (heard h t k x))) way (Here (Up (heard h t k x)) Free way tt)
take_here _ Asking _ way _ b (begins x may) = Begins x way (At fresh) way may (Here fresh fresh way (below_self fresh))
take_here _ Free _ way _ b (begins x may) = Later Free x way (At fresh) way (Here fresh Free way tt)
take_here _ u _ way _ b (owes s r x is) = Asked s u r x way b is
take_here _ u _ way _ b other = absurd b

-- nothing comes before it answers
IsAt : State → Type 0
IsAt (At s) = Unit {0}
IsAt (Owes s) = ⊥

takes_at : (s r : State) (x : Frame) → MayTake s x r → IsAt s
unfolding IsAt
takes_at _ _ _ (passes s x) = tt
takes_at _ _ _ other = tt

pub owes_take_nothing : (q : Stand) (r : State) (x : Frame) → MayTake (Owes q) x r → ⊥
unfolding IsAt
owes_take_nothing q r x may = takes_at (Owes q) r x may

pub covers_takes : (u : Stand) (v : List Frame) (s r : State) (x : Frame) (way : List Frame) → Covers u v s (x ∷ way) → MayTake s x r
    → Covers u v r way
unfolding IsAt
covers_takes _ _ _ r x way (Here s u _ b) may = take_here s u x way r b may
covers_takes _ _ _ r x way (Asked s u q y _ b is) may = absurd (takes_at (Owes q) r x may)
covers_takes _ _ _ r x way (Later u y v s _ c) may = Later u y v r way (covers_takes (onward u y) v s r x way c may)
covers_takes _ _ _ r x way (Begins y v s _ a c) may = Begins y v r way a (covers_takes fresh v s r x way c may)

-- what the other end sends is behind all
pub covers_shown : (u : Stand) (v : List Frame) (s : State) (way : List Frame) (x : Frame) → Covers u v s way
    → Covers u (v ++ x ∷ []) s (way ++ x ∷ [])
covers_shown _ _ _ way x (Here s u _ b) = Here s u (way ++ x ∷ []) b
covers_shown _ _ _ way x (Asked s u r y _ b is) = Asked s u r y (way ++ x ∷ []) b is
covers_shown _ _ _ way x (Later u y v s _ c) = Later u y (v ++ x ∷ []) s (way ++ x ∷ []) (covers_shown (onward u y) v s way x c)
covers_shown _ _ _ way x (Begins y v s _ a c) = Begins y (v ++ x ∷ []) s (way ++ x ∷ []) a (covers_shown fresh v s way x c)

-- ---- better stands

-- a stand that is so everywhere: it covers what it is better than wherever it comes
pub covers_over : (c u : Stand) (v : List Frame) (s : State) (way : List Frame) (r : Stand) → Covers u v s way → Below r c
    → Covers c v (At r) way
covers_over c _ _ _ way r (Here s u _ b) good = Here r c way good
covers_over c _ _ _ way r (Asked s u q x _ b is) good = Later c x way (At r) way (Here r (onward c x) way (below_onward r c x good))
covers_over c _ _ _ way r (Later u x v s _ k) good =
    Later c x v (At r) way (covers_over (onward c x) (onward u x) v s way r k (below_onward r c x good))
covers_over c _ _ _ way r (Begins x v s _ a k) good =
    Later c x v (At r) way (covers_over (onward c x) fresh v s way r k (below_onward r c x good))

pub covers_more : (u c : Stand) (v : List Frame) (s : State) (way : List Frame) → Covers u v s way → Below u c → Covers c v s way
covers_more _ c _ _ way (Here s u _ b) good = Here s c way (below_on s u c b good)
covers_more _ c _ _ way (Asked s u q x _ b is) good = Asked s c q x way (below_on s u c b good) is
covers_more _ c _ _ way (Later u x v s _ k) good =
    Later c x v s way (covers_more (onward u x) (onward c x) v s way k (onward_both u c x good))
covers_more _ Asking _ _ way (Begins x v s _ a k) good = Begins x v s way a k
covers_more _ Free _ _ way (Begins x v s _ a k) good = Later Free x v s way (covers_more fresh Free v s way k tt)
covers_more _ c _ _ way (Begins x v s _ a k) good = absurd good

-- and what is less
pub covers_less : (u : Stand) (v : List Frame) (s r : Stand) (way : List Frame) → Covers u v (At s) way → Below r s → Covers u v (At r) way
covers_less _ _ _ r way (Here s u _ b) less = Here r u way (below_on r s u less b)
covers_less _ _ _ r way (Later u x v _ _ k) less = Later u x v (At r) way (covers_less (onward u x) v _ r way k less)
covers_less _ _ _ r way (Begins x v _ _ a k) less = Begins x v (At r) way a (covers_less fresh v _ r way k less)

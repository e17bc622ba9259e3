-- What is refused, or isn't so, changes nothing.
use Rattle.x25_line.proofs.Names.{◌≡◌, Bool, true, false, if◌then◌else◌, Option, Some, None, refl, LinkError, LinkSettings, LinkStation, is_up, LinkStep}
use Rattle.x25_line.proofs.Names.{timer_refusal, connect_refusal, disconnect_refusal, Act, T1, Connect, Disconnect, Abandon, Probe}
use Rattle.x25_line.specs.laws.Stations.{unless, own_act}

-- what holds of w, and of v where nothing is refused, holds whichever of the two comes
pub unless_by : {W : Type 0} (Q : W → Type 0) (o : Option LinkError) {w v : W} → Q w → (o ≡ None → Q v) → Q (unless o w v)
unless_by Q (Some e) h k = h
unless_by Q None h k = k refl

-- so it does where a condition decides
pub if_by : {W : Type 0} (Q : W → Type 0) (b : Bool) {w v : W} → Q w → (b ≡ true → Q v) → Q (if b then v else w)
if_by Q true h k = k refl
if_by Q false h k = h

-- the same of two that go alike
pub unless_both : {W X : Type 0} (A : W → X → Type 0) (o : Option LinkError) {w v : W} {x y : X} → A w x → A v y → A (unless o w v) (unless o x y)
unless_both A (Some e) h k = h
unless_both A None h k = k

-- what holds both where the first are taken and where the second are
pub if_both : {W X : Type 0} (A : W → X → Type 0) (b : Bool) {w v : W} {x y : X} → A w x → A v y → A (if b then v else w) (if b then y else x)
if_both A true h k = k
if_both A false h k = h

-- so they do by the acts by which a station takes no octets and is given no packet
pub own_both : {W X : Type 0} (A : W → X → Type 0) (c : LinkSettings) (s : LinkStation) (w : W) (x : X) (done : LinkStep → W) (goes : LinkStep → X) → A w x
    → ((step : LinkStep) → A (done step) (goes step)) → (a : Act)
    → A (own_act c s w done a) (own_act c s x goes a)
own_both A c s w x done goes h k T1 = unless_both A (timer_refusal s) h (k _)
own_both A c s w x done goes h k Connect = unless_both A (connect_refusal s.phase) h (k _)
own_both A c s w x done goes h k Disconnect = unless_both A (disconnect_refusal s.phase) h (k _)
own_both A c s w x done goes h k Abandon = if_both A (is_up s.phase) h (k _)
own_both A c s w x done goes h k Probe = if_both A (is_up s.phase) h (k _)
own_both A c s w x done goes h k act = h

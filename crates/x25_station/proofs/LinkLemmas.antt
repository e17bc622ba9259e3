-- The link after packets were put one by one, as the packet layer sees it, is the link of the station's step.
use Rattle.x25_station.proofs.Names.{Result, Ok, subst, ◌≡◌, ℕ, List, [], ◌∷◌, refl, sym, ap, ◌∙◌, OnOk, fun_ext, map-append, LinkView, alone, put_step, waits}
use Rattle.x25_station.proofs.Names.{LinkSettings, LinkStation, Side, is_up, waits_of, PlainPacket, kept_of, put_on, all_put, view_of}
use Rattle.x25_frame.specs.Spelling.{spelling_of}
use Rattle.x25_packet.specs.Spelling as packet
use Rattle.x25_station.specs.code.OverLink as over

pub put_by_put : (c : LinkSettings) (packets : List PlainPacket) (t : Side) → over.after_all (kept_of c t) packets ≡ kept_of c (all_put c packets t)
put_by_put c [] t = refl
put_by_put c (p ∷ packets) t =
    let step = put_step c (packet.spelling_of p) t.near in
    ap (λ (kept : List (List ℕ)). over.after_all (record { settings = c; station = step.side.near; kept = kept }) packets)
    (sym (map-append (spelling_of c.role) t.out step.side.out))
    ∙ put_by_put c packets (put_on c p t)

-- what the layer sees of the link
abbrev pub seen_by : LinkSettings → ℕ → Side → LinkView
seen_by c turn t = over.seen_at turn (kept_of c t)

-- what is put depends on the link alone, and not on the frames that went before
pub near_alone : (c : LinkSettings) (packets : List PlainPacket) (t u : Side) → t.near ≡ u.near → (all_put c packets t).near ≡ (all_put c packets u).near
near_alone c [] t u same = same
near_alone c (p ∷ packets) t u same =
    near_alone c packets (put_on c p t) (put_on c p u) (ap (λ (s : LinkStation). (put_step c (packet.spelling_of p) s).side.near) same)

pub same_view : (c : LinkSettings) (turn : ℕ) (t : Side) → seen_by c turn t ≡ view_of c turn t.near
same_view c turn t = ap (λ (f : List PlainPacket → ℕ). record { is_up = is_up t.near.phase; waits = f; turn = turn })
    (fun_ext (λ packets. ap waits_of (put_by_put c packets t)
    ∙ ap (λ (s : LinkStation). waits s.outgoing) (near_alone c packets t (alone t.near) refl)))

-- what holds of an answer that isn't an error
pub on_ok : {T E : Type 0} (r : Result T E) (u : T) (X : Type 0) → r ≡ Ok u → OnOk r X → X
on_ok {T = T} {E = E} r u X is h = subst (λ (x : Result T E). OnOk x X) is h
